use Rattle.std.proofs.Common.{Bool, ap, refl, sym, ◌∙◌}
use Rattle.std.proofs.lemmas.Result.{err_from_is_err_and}
use Rattle.std.proofs.Common.{false}
use Rattle.std.proofs.lemmas.List.{append-nil}
use Rattle.spelling.specs.Slices.{only_ref}
use Rattle.building.specs.PlainBuilder.{put}
use Rattle.plan_building.specs.View.{grown}
use Rattle.plan_building.proofs.Laying.{laid_more}
use Rattle.plan_building.proofs.growing.put_ref.Goals as goal

pub returns-in_err-admit : goal.returns-in_err-admit
returns-in_err-admit c = λ h.
    let w = err_from_is_err_and c.from_residual.result c.from_residual.ensures.1 in
    rw (w.1, w.2, ← c.is_deep-deep.ensures.is) (c.in_err-admit.ensures.put h (only_ref c.args.cell) false refl refl)

pub returns : goal.returns
returns c = λ h.
    ap (λ (d : Bool). put h (only_ref c.args.cell) d false (grown c.args.b.now)) (sym c.is_deep-deep.ensures.is)
    ∙ c.in_ok-admit.ensures.put h (only_ref c.args.cell) false refl refl
    ∙ laid_more (only_ref c.args.cell) _ _ (c.add_ref.ensures.bits ∙ sym (append-nil _)) c.add_ref.ensures.refs refl
