use Rattle.std.proofs.Common.{◌++◌, ◌∷◌, [], Bool, ap, refl, sym, ◌∙◌}
use Rattle.std.proofs.lemmas.Result.{err_from_is_err_and}
use Rattle.std.proofs.Common.{false}
use Rattle.building.specs.PlainBuilder.{put_root}
use Rattle.plan_building.specs.StopsLaws.{goes_on, stops_on, stops_same}
use Rattle.plan_building.specs.View.{grown}
use Rattle.plan_building.proofs.Laying.{laid_more, one_bit}
use Rattle.plan_building.proofs.growing.put_root.Goals as goal

pub returns-in_err-admit : goal.returns-in_err-admit
returns-in_err-admit c = λ h.
    let w = err_from_is_err_and c.from_residual.result c.from_residual.ensures.1 in
    rw (w.1, w.2) (stops_same h _ _ _
    (ap (λ (d : Bool). put_root h c.args.cell d (grown c.args.b.now)) (sym c.is_deep-deep.ensures.is))
    (stops_on h _ _ _
    (c.in_err-admit.ensures.put h (record { bits = 1 ∷ []; refs = c.args.cell ∷ [] }) false refl refl)))

pub returns : goal.returns
returns c = λ h.
    ap (λ (d : Bool). put_root h c.args.cell d (grown c.args.b.now)) (sym c.is_deep-deep.ensures.is)
    ∙ goes_on _ _ _
    (c.in_ok-admit.ensures.put h (record { bits = 1 ∷ []; refs = c.args.cell ∷ [] }) false refl refl
    ∙ laid_more (record { bits = 1 ∷ []; refs = c.args.cell ∷ [] }) _ _
    (c.add_ref.ensures.bits ∙ c.add_number.ensures.bits ∙ ap (λ z. c.args.b.now.cell.bits ++ z) one_bit)
    (c.add_ref.ensures.refs ∙ ap (λ z. z ++ c.args.cell ∷ []) c.add_number.ensures.refs) refl)
