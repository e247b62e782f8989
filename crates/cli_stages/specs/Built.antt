-- The stage of a value at a closed type of a schema: the tree that it is built to.
use Rattle.std.specs.Prelude.{◌≡◌, Result}
use Rattle.cell_nodes.specs.declared.tree.Mode.TheVariants.{Whole}
use Rattle.cell_nodes.specs.declared.tree.Tree.{Tree}
use Rattle.schema_leads.specs.Tags.{cores}
use Rattle.spelling.specs.Places.{Place}
use Rattle.building.specs.Unfit.{Unfit}
use Rattle.building_laws.specs.Laws.{IsTreeOf}
use Rattle.tlb_syntax.specs.Tree.{SchemaView}
use Rattle.typed_value.specs.Values.{Plain}
use Rattle.cli_refusals.specs.Lines.{spot_text}
use Rattle.cli_refusals.specs.Refusal.{Refusal, unfit}
use Rattle.cli_stages.specs.Stage.{stage}
use Rattle.cli_stages.specs.TypeWord.{ShownType}

-- the value is unfit at a place
pub record RefusesValue (s : SchemaView) (type : ShownType) (v : Plain) (refusal : Refusal) : Type 0 where
  pub place : Place
  pub is_unfit : Unfit Whole (cores s) type.closed v place
  pub is : refusal ≡ unfit (spot_text (cores s) type.text place.spot) place.cause

-- or a good tree of at most 262,144 cells has it as its reading
abbrev pub Built : SchemaView → ShownType → Plain → Result Tree Refusal → Type 0
Built s type v = stage (RefusesValue s type v) (IsTreeOf Whole (cores s) type.closed v)
