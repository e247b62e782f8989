-- What the program's values stand for.
use Rattle.std.specs.Prelude.{◌≡◌, ℕ, List, [], ◌∷◌, ◌++◌, length, map, take, drop}
use Rattle.std.specs.Borrow.{Bor}
use Rattle.field_path.specs.declared.part.Part.{Part}
use Rattle.field_path.specs.declared.part.Part.TheVariants as places
use Rattle.kind_terms.specs.Words.{Word}
use Rattle.kind_rules.specs.ExpectedKinds.{Expected, Use}
use Rattle.kind_terms.specs.Positions.{first_position}
use Rattle.kind_declarations.specs.Nodes.{output_nodes, record_nodes, ItemContext, RecordContext, Judged}
use Rattle.tlb_syntax.specs.Tree.{ConstructorView, ExprView, ItemView, SchemaView}
use Rattle.tlb_syntax.specs.View.{constructor}
use Rattle.kind_terms.specs.Scopes.{Scope, at_end, field_names}
use Rattle.kind_terms.specs.Views.{binding_of, part_by}
use Rattle.kind_terms.specs.declared.scope.Binding.{Binding as ProgramBinding}
use Rattle.kind_declarations.specs.declared.row.Row.{Row}
use Rattle.kind_declarations.specs.declared.scope.Scope.{Scope as State}

-- What is seen with these bindings, of which so many are of the records around.
unfoldable pub scope_of : SchemaView → List ProgramBinding → ℕ → List Word → List Word → Scope
scope_of types bindings around inputs known = record {
  types = types;
  around = map binding_of (take around bindings);
  own = map binding_of (drop around bindings);
  inputs = inputs;
  known = known;
}

abbrev pub words : List (Bor Word) → List Word
words xs = map (λ x. x.now) xs

abbrev pub scope_by : State → Scope
scope_by s = scope_of (map constructor s.types.now) s.bindings s.around (words s.inputs.now) (words s.known)

abbrev pub path_by : State → List Part
path_by s = map part_by s.path

abbrev pub item_context : State → ItemContext
item_context s = record { path = path_by s; scope = scope_by s; fields = words s.fields }

abbrev pub use_by : State → Expected → ExprView → Use
use_by s d e = record { scope = scope_by s; expected = d; at = e }

-- at the first item of a record
abbrev pub first_by : State → RecordContext
first_by s = record { place = first_position (path_by s); scope = scope_by s; fields = words s.fields; inner = [] }

-- at an item
abbrev pub record_context : State → Row → RecordContext
record_context s r = record {
  place = record { path = path_by s; number = r.place; unnamed = r.unnamed };
  scope = scope_by s;
  fields = words s.fields;
  inner = words r.inside;
}

-- A later state of the same record: what the earlier one has, and more.
pub record Follows (s t : State) : Type 0 where
  pub same : t ≡ record s { bindings = t.bindings; known = t.known; fields = t.fields }
  pub bindings : take (length s.bindings) t.bindings ≡ s.bindings
  pub known : take (length s.known) t.known ≡ s.known
  pub fields : take (length s.fields) t.fields ≡ s.fields

-- after the name of an item
pub record HasNamed (s t : State) (i : ItemView) : Type 0 where
  pub same : t ≡ record s { fields = t.fields }
  pub names : words t.fields ≡ words s.fields ++ field_names i
  pub fields : take (length s.fields) t.fields ≡ s.fields

abbrev pub after_name : State → ItemView → ItemContext
after_name s i = record { path = path_by s; scope = scope_by s; fields = words s.fields ++ field_names i }

-- the items of a constructor, and its outputs
abbrev pub all_by : State → ConstructorView → List Judged
all_by s c =
    record_nodes c.items (first_by s)
    ++ output_nodes c.params
    (record { path = path_by s ++ places.Result ∷ []; scope = at_end (scope_by s) c.items; fields = [] })
