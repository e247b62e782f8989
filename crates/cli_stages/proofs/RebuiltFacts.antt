-- The stage of a value that a cell spelled.
use Rattle.std.proofs.Common.{◌≡◌, ◌∙◌, ap, sym, subst, refl, Result, Ok, Err}
use Rattle.cell_nodes.specs.declared.tree.Mode.TheVariants.{Whole}
use Rattle.cell_nodes.specs.declared.tree.Tree.{Tree}
use Rattle.tlb_kinds.specs.Refusals.{kept_of}
use Rattle.tlb_syntax.specs.Tree.{SchemaView}
use Rattle.schema_leads.specs.Tags.{cores}
use Rattle.accepted_schema.specs.Accepted.{IsAccepted, kept_cores}
use Rattle.spelling.specs.Places.{Place}
use Rattle.typed_value.specs.Values.{Plain}
use Rattle.building.specs.Buildable.{InRange, IsBuildable}
use Rattle.building.specs.PlainBuilder.{build}
use Rattle.building_laws.specs.Laws.{TreeIsBuilt, UnfitStops}
use Rattle.accepted_building.specs.Laws.{AcceptedIsBuildable}
use Rattle.cli_refusals.specs.Refusal.{Refusal}
use Rattle.cli_refusals.specs.View.{refusal_by}
use Rattle.cli_stages.specs.Built.{Built}
use Rattle.cli_stages.specs.Rebuilt.{Rebuilt, rebuilt_as}
use Rattle.cli_stages.specs.Stage.{Answers, IsAnswer, IsStage, IsStageStatus}
use Rattle.cli_refusals.specs.Refusal.{status_of}
use Rattle.cli_stages.specs.TypeWord.{ShownType}
use Rattle.cli_stages.specs.declared.stop.Stop.{Stop}
use Rattle.cli_stages.specs.declared.stop.Stop.TheVariants.{Refused, NoMemory}

rebuilt-status : (s : SchemaView) (type : ShownType) (r : Refusal) (built : Result Tree Place) → Err r ≡ rebuilt_as s type built
    → IsStageStatus (status_of r)
rebuilt-status s type r (Ok tree) is = absurd (cc)
rebuilt-status s type r (Err place) is =
    let P : Result Tree Refusal → Type 0 = λ answer. refused-well answer in
    subst P (sym is) tt
  where
    refused-well : Result Tree Refusal → Type 0
    refused-well (Ok tree) = Unit {0}
    refused-well (Err refusal) = IsStageStatus (status_of refusal)

pub rebuilt-stage : (s : SchemaView) (type : ShownType) (v : Plain) → IsStage (Rebuilt s type v)
rebuilt-stage s type v = record {
  once = λ a b x y. x ∙ sym y;
  answered = (rebuilt_as s type (build Whole (cores s) type.closed v), refl);
  refuses = λ r is. rebuilt-status s type r (build Whole (cores s) type.closed v) is;
}

-- what a value in range is built to is what the plain builder comes to
pub built-again : AcceptedIsBuildable → TreeIsBuilt → UnfitStops → (s : SchemaView) → IsAccepted s → kept_of s ≡ s
    → (type : ShownType) (v : Plain) → InRange v → (result : Result Tree Stop)
    → Answers (Built s type v) (λ tree. tree) result → Answers (Rebuilt s type v) (λ tree. tree) result
built-again buildable tree_built unfit_stops s accepted kept type v range result given =
    let P : SchemaView → Type 0 = λ x. IsBuildable (cores x) in
    let can : IsBuildable (cores s) = subst P kept (buildable s accepted) in
    record { answer = by_result can result given.answer }
  where
    by_result : IsBuildable (cores s) → (r : Result Tree Stop) → IsAnswer (Built s type v) (λ tree. tree) r
        → IsAnswer (Rebuilt s type v) (λ tree. tree) r
    by_result can (Ok tree) is =
        ap (rebuilt_as s type) (sym (tree_built Whole refl (cores s) can type.closed v range tree is))
    by_result can (Err (Refused refusal)) is =
        ap Err is.is ∙ ap (rebuilt_as s type) (sym (unfit_stops Whole refl (cores s) can type.closed v range is.place is.is_unfit))
    by_result can (Err NoMemory) is = tt
