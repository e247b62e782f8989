-- What the parts of a reading stand for.
use Rattle.std.specs.Prelude.{ℕ, List, [], ◌∷◌, map, Option, Some, None}
use Rattle.cell_nodes.specs.declared.tree.Mode.{Mode}
use Rattle.core_form.specs.Core.{CoreSchema, Word}
use Rattle.flat_form.specs.Stands.{name_at}
use Rattle.flat_form.specs.declared.lists.Flat.{Flat}
use Rattle.flat_form.specs.declared.lists.PlanOp.{PlanOp}
use Rattle.flat_form.specs.declared.lists.PlanOp.TheVariants.{Check, Solve, When, Field}
use Rattle.hashmap_tree.specs.Adds.{slice_of}
use Rattle.schema_leads.specs.Tags.{cores}
use Rattle.spelling.specs.PlainReader as plain
use Rattle.tlb_syntax.specs.View.{schema as schema_view}
use Rattle.tlb_syntax.specs.declared.tree.Schema.{Schema}
use Rattle.typed_value.specs.Values.{Plain, Plains, most_parts}
use Rattle.typed_value.specs.View.{pair_of, vals_in, value}
use Rattle.typed_value.specs.declared.value.Value.{Value}
use Rattle.typed_reader.specs.declared.found.Found.{Found}
use Rattle.typed_reader.specs.declared.found.Outputs.{Outputs}
use Rattle.typed_reader.specs.declared.found.Outputs.TheVariants.{Empty, One, Several}

abbrev pub core_of : Schema → CoreSchema
core_of s = cores (schema_view s)

-- the plain reader of the schema, where so many levels are left
abbrev pub reader_of : ℕ → Mode → Schema → plain.Reader
reader_of levels mode s = plain.reading levels most_parts mode (core_of s)

abbrev pub outputs_of : Outputs → List ℕ
outputs_of Empty = []
outputs_of (One n) = n ∷ []
outputs_of (Several ns) = ns

abbrev pub found_view : Found → plain.Found
found_view f = (value f.value, outputs_of f.outputs, slice_of f.rest)

-- the values of fields
abbrev pub values_of : List (List ℕ × Value) → Plains
values_of fields = vals_in (map pair_of fields)

-- the value of the field that an operation gives, if it gives one
abbrev pub given : Option (List ℕ × Value) → List Plain
given (Some f) = value f.1 ∷ []
given None = []

-- the name of the field that an operation gives, if it gives one
abbrev pub named_by : Flat → PlanOp → Option Word
named_by f (Check a op b i) = None
named_by f (Solve v a b i) = None
named_by f (When e k) = None
named_by f (Field x t v) = Some (name_at f x)
