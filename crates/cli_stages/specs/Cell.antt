-- The stage of a cell at a closed type of a schema, in a mode.
use Rattle.std.specs.Prelude.{◌≡◌, Result}
use Rattle.cell_nodes.specs.declared.tree.Mode.{Mode}
use Rattle.cell_nodes.specs.declared.tree.Tree.{Tree}
use Rattle.schema_leads.specs.Tags.{cores}
use Rattle.spelling.specs.Places.{Place}
use Rattle.spelling.specs.Spells.{Reading}
use Rattle.spelling.specs.Stuck.{Stuck}
use Rattle.tlb_syntax.specs.Tree.{SchemaView}
use Rattle.typed_value.specs.Values.{Plain}
use Rattle.cli_refusals.specs.Lines.{spot_text}
use Rattle.cli_refusals.specs.Refusal.{Refusal, cell}
use Rattle.cli_stages.specs.Stage.{stage}
use Rattle.cli_stages.specs.TypeWord.{ShownType}

-- reading stops at a place
pub record RefusesCell (mode : Mode) (s : SchemaView) (type : ShownType) (t : Tree) (refusal : Refusal) : Type 0 where
  pub place : Place
  pub stuck : Stuck mode (cores s) type.closed t place
  pub is : refusal ≡ cell (spot_text (cores s) type.text place.spot) place.cause

-- or the cell spells a value
abbrev pub Cell : Mode → SchemaView → ShownType → Tree → Result Plain Refusal → Type 0
Cell mode s type t = stage (RefusesCell mode s type t) (Reading mode (cores s) type.closed t)
