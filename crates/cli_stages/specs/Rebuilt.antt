-- The stage of a value that a cell spelled, at its closed type: the tree that the value is built to.
use Rattle.std.specs.Prelude.{◌≡◌, Result, Ok, Err}
use Rattle.building.specs.PlainBuilder.{build}
use Rattle.cell_nodes.specs.declared.tree.Mode.TheVariants.{Whole}
use Rattle.cell_nodes.specs.declared.tree.Tree.{Tree}
use Rattle.schema_leads.specs.Tags.{cores}
use Rattle.spelling.specs.Places.{Place}
use Rattle.tlb_syntax.specs.Tree.{SchemaView}
use Rattle.typed_value.specs.Values.{Plain}
use Rattle.cli_refusals.specs.Lines.{spot_text}
use Rattle.cli_refusals.specs.Refusal.{Refusal, unfit}
use Rattle.cli_stages.specs.TypeWord.{ShownType}

abbrev pub rebuilt_as : SchemaView → ShownType → Result Tree Place → Result Tree Refusal
rebuilt_as s type (Ok tree) = Ok tree
rebuilt_as s type (Err place) = Err (unfit (spot_text (cores s) type.text place.spot) place.cause)

-- what the plain builder comes to
abbrev pub Rebuilt : SchemaView → ShownType → Plain → Result Tree Refusal → Type 0
Rebuilt s type v answer = answer ≡ rebuilt_as s type (build Whole (cores s) type.closed v)
