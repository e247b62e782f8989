-- What the parts of a building stand for.
use Rattle.std.specs.Prelude.{ℕ, Bool, true, false, List, map, Result, Ok}
use Rattle.cell_nodes.specs.declared.tree.Mode.{Mode}
use Rattle.cell_nodes.specs.declared.tree.Tree.{Tree}
use Rattle.core_form.specs.Closed.{Closed, whole}
use Rattle.core_form.specs.Core.{CoreSchema}
use Rattle.schema_leads.specs.Tags.{cores}
use Rattle.spelling.specs.Goals.{Goal, as_cell, at_cell}
use Rattle.spelling.specs.Places.{Place, Spot}
use Rattle.spelling.specs.PlainReader.{◌>>=◌}
use Rattle.tlb_syntax.specs.View.{schema as schema_view}
use Rattle.tlb_syntax.specs.declared.tree.Schema.{Schema}
use Rattle.typed_value.specs.Values.{Plain, Plains, most_parts}
use Rattle.typed_value.specs.View.{pair_of, value, vals_in, vals_of}
use Rattle.typed_value.specs.declared.value.Value.{Value}
use Rattle.building.specs.Growing.{empty}
use Rattle.building.specs.PlainBuilder.{Maker, finished, make_shape, making}

abbrev pub core_of : Schema → CoreSchema
core_of s = cores (schema_view s)

-- the plain builder of the schema, where so many levels are left
abbrev pub maker_of : ℕ → Mode → Schema → Maker
maker_of levels mode s = making levels most_parts mode (core_of s)

-- the values of fields, and of a list
abbrev pub values_of : List (List ℕ × Value) → Plains
values_of fields = vals_in (map pair_of fields)

abbrev pub list_of : List Value → Plains
list_of vs = vals_of (map value vs)

-- the cell that a value is built to by itself
abbrev pub built_cell : Maker → Spot → Goal → ℕ → Plain → Result Tree Place
built_cell R h g q v = do
  x ← R h g q v empty
  Ok (finished g x.1.held)

-- the cell of `^Any` and `^Cell`
abbrev pub cell_of_shape : Mode → CoreSchema → Maker → Spot → ℕ → Plain → Result Tree Place
cell_of_shape mode schema R h q v = do
  x ← make_shape mode schema R h as_cell q v empty
  Ok (finished at_cell x.1.held)

-- whether the type is Any or Cell
abbrev pub is_whole : Closed → Bool
is_whole whole = true
is_whole _ = false
