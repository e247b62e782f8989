-- The stage of a value at a closed type comes to exactly one answer, for a value in range.
use Rattle.std.proofs.Common.{◌≡◌, ◌⊎◌, inl, inr, ◌∙◌, ap, sym, subst, refl, Ok, Err}
use Rattle.cell_nodes.specs.declared.tree.Mode.TheVariants.{Whole}
use Rattle.cell_nodes.specs.declared.tree.Tree.{Tree}
use Rattle.tlb_kinds.specs.Refusals.{kept_of}
use Rattle.tlb_syntax.specs.Tree.{SchemaView}
use Rattle.schema_leads.specs.Tags.{cores}
use Rattle.accepted_schema.specs.Accepted.{kept_cores}
use Rattle.core_form.specs.Core.{CoreSchema}
use Rattle.spelling.specs.Places.{Place}
use Rattle.typed_value.specs.Values.{Plain}
use Rattle.building.specs.Buildable.{InRange, IsBuildable}
use Rattle.building.specs.Unfit.{Unfit}
use Rattle.building_laws.specs.Laws.{IsTreeOf, NoTreeWhereUnfit, OnePlace, OneTree, TreeOrPlace}
use Rattle.accepted_building.specs.Laws.{AcceptedIsBuildable, IsOnePlaceOf}
use Rattle.cli_refusals.specs.Lines.{spot_text}
use Rattle.cli_refusals.specs.Refusal.{unfit}
use Rattle.cli_stages.specs.Built.{Built, RefusesValue}
use Rattle.cli_stages.specs.Schema.{IsWhole}
use Rattle.cli_stages.specs.Stage.{Answers, IfRefused, IsAnswered, IsStage}
use Rattle.cli_stages.specs.TypeWord.{ShownType}
use Rattle.cli_stages.specs.declared.stop.Stop.{Stop}
use Rattle.cli_stages.specs.declared.stop.Stop.TheVariants.{Refused, NoMemory}
use Rattle.cli_stages.proofs.StageFacts.{judged-as, stage-once}

pub record Buildings : Type 0 where
  pub buildable : AcceptedIsBuildable
  pub one_tree : OneTree
  pub one_place : OnePlace
  pub not_both : NoTreeWhereUnfit
  pub some : TreeOrPlace

built-some : (s : SchemaView) (type : ShownType) (v : Plain)
    → ((c : Tree) × IsTreeOf Whole (cores s) type.closed v c) ⊎ ((p : Place) × Unfit Whole (cores s) type.closed v p)
    → IsAnswered (Built s type v)
built-some s type v (inl h) = (Ok h.0, h.1)
built-some s type v (inr h) = (Err _, record { place = h.0; is_unfit = h.1; is = refl })

same-place : (s : SchemaView) (type : ShownType) (p q : Place) → p ≡ q
    → unfit (spot_text (cores s) type.text p.spot) p.cause ≡ unfit (spot_text (cores s) type.text q.spot) q.cause
same-place s type p q same = ap (λ (x : Place). unfit (spot_text (cores s) type.text x.spot) x.cause) same

pub built-stage : Buildings → (s : SchemaView) (type : ShownType) (v : Plain) → IsWhole s → InRange v → IsStage (Built s type v)
built-stage laws s type v whole range =
    let P : SchemaView → Type 0 = λ x. IsBuildable (cores x) in
    let can : IsBuildable (cores s) = subst P whole.kept (laws.buildable s whole.accepted) in
    record {
      once = stage-once (RefusesValue s type v) (IsTreeOf Whole (cores s) type.closed v)
          (λ r q a b.
          a.is
          ∙ same-place s type a.place b.place
          (laws.one_place Whole refl (cores s) can type.closed v range a.place b.place a.is_unfit b.is_unfit)
          ∙ sym b.is)
          (λ c d a b.
          laws.one_tree Whole refl (cores s) can type.closed v range c d a.good b.good a.reading b.reading)
          (λ r c a b. laws.not_both Whole refl (cores s) can type.closed v range c a.place b a.is_unfit);
      answered = built-some s type v (laws.some Whole refl (cores s) can type.closed v range);
      refuses = λ r given. judged-as r _ given.is tt;
    }

-- ---- what is answered

pub value-unfit : (s : SchemaView) (type : ShownType) (v : Plain) (p : Place) (stop : Stop) → kept_of s ≡ s
    → IsOnePlaceOf Whole (kept_cores s) type.closed v p
    → IfRefused (λ r. r ≡ unfit (spot_text (cores s) type.text p.spot) p.cause) stop
    → Answers {T = Tree} (Built s type v) (λ tree. tree) (Err stop)
value-unfit s type v p (Refused r) kept is refused =
    let P : SchemaView → Type 0 = λ x. Unfit Whole (cores x) type.closed v p in
    record { answer = record { place = p; is_unfit = subst P kept is.unfit; is = refused } }
value-unfit s type v p NoMemory kept is refused = record { answer = tt }
