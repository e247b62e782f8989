-- What the program's values stand for.
use Rattle.std.specs.Prelude.{◌+◌, List, [], map, Option, Some, None}
use Rattle.std.specs.Borrow.{Bor}
use Rattle.tlb_syntax.specs.Tree.{SchemaView}
use Rattle.tlb_syntax.specs.View.{constructor}
use Rattle.kind_terms.specs.declared.kind.TermKind.{TermKind}
use Rattle.field_path.specs.declared.part.Part.{Part}
use Rattle.field_path.specs.declared.part.Part.TheVariants as places
use Rattle.kind_terms.specs.declared.shown.Shown.{Shown}
use Rattle.kind_terms.specs.declared.shown.Shown.TheVariants as parts
use Rattle.kind_terms.specs.declared.scope.Binding.{Binding as ProgramBinding}
use Rattle.kind_terms.specs.declared.types.Declared.{Declared}
use Rattle.kind_terms.specs.declared.types.Sort.{Sort}
use Rattle.kind_terms.specs.declared.types.Sort.TheVariants.{NoType, Basic, Declared as IsDeclared}
use Rattle.kind_terms.specs.declared.types.TypeNamed.{TypeNamed as ProgramType}
use Rattle.kind_terms.specs.Positions.{unnamed_name}
use Rattle.kind_terms.specs.Scopes.{Binding}
use Rattle.kind_terms.specs.Types.{TypeNamed, no_type, basic, declared}

abbrev pub binding_of : ProgramBinding → Binding
binding_of e = record { name = e.name.now; meaning = e.meaning }

abbrev pub type_by : Sort → List TermKind → TypeNamed
type_by NoType ks = no_type
type_by Basic ks = basic ks
type_by IsDeclared ks = declared ks

abbrev pub named_by : ProgramType → TypeNamed
named_by t = type_by t.sort t.kinds.now

-- the declarations of a type
abbrev pub constructors_by : Option (Bor Declared) → SchemaView
constructors_by None = []
constructors_by (Some d) = map (λ c. constructor c.now) d.now.constructors

abbrev pub kinds_by : Option (Bor Declared) → Option (List TermKind)
kinds_by None = None
kinds_by (Some d) = Some d.now.kinds

abbrev pub part_by : Shown → Part
part_by (parts.Named x) = places.Named x.now
part_by (parts.Unnamed b) = places.Named (unnamed_name (b + 1))
part_by (parts.Check k) = places.Check k
part_by parts.Result = places.Result
