use Rattle.std.proofs.Common.{◌++◌, Bool, ap, length, sym, ◌∙◌}
use Rattle.std.proofs.lemmas.Result.{err_from_is_err_and}
use Rattle.std.proofs.Common.{true}
use Rattle.building.specs.Growing.{some_deep}
use Rattle.building.specs.PlainBuilder.{put_alone}
use Rattle.plan_building.specs.StopsLaws.{goes_on, stops_on, stops_same}
use Rattle.plan_building.specs.View.{grown}
use Rattle.plan_building.proofs.Laying.{laid_last, or_true}
use Rattle.plan_building.proofs.growing.put_rest.Goals as goal

pub returns-in_err-admit : goal.returns-in_err-admit
returns-in_err-admit c = λ h.
    let w = err_from_is_err_and c.from_residual.result c.from_residual.ensures.1 in
    rw (w.1, w.2) (stops_same h _ _ _
    (ap (λ (d : Bool). put_alone h (record { bits = c.args.rest.now.bits; refs = c.args.rest.now.refs }) d true
    (grown c.args.b.now)) (sym (c.some_deep-deep.ensures.is ∙ ap some_deep c.as_slice-refs.ensures)))
    (stops_on h _ _ _ (c.in_err-admit.ensures.put h
    (record { bits = c.args.rest.now.bits; refs = c.args.rest.now.refs }) true
    (c.len.ensures.value ∙ ap length c.slice-bits.ensures) (ap length c.as_slice-refs.ensures))))

pub returns : goal.returns
returns c = λ h.
    ap (λ (d : Bool). put_alone h (record { bits = c.args.rest.now.bits; refs = c.args.rest.now.refs }) d true
    (grown c.args.b.now)) (sym (c.some_deep-deep.ensures.is ∙ ap some_deep c.as_slice-refs.ensures))
    ∙ goes_on _ _ _ (c.in_ok-admit.ensures.put h
    (record { bits = c.args.rest.now.bits; refs = c.args.rest.now.refs }) true
    (c.len.ensures.value ∙ ap length c.slice-bits.ensures) (ap length c.as_slice-refs.ensures)
    ∙ laid_last (record { bits = c.args.rest.now.bits; refs = c.args.rest.now.refs }) true _ _
    (c.in_ok-add_refs.ensures.bits ∙ c.add_bits.ensures.bits
    ∙ ap (λ z. c.args.b.now.cell.bits ++ z) c.slice-bits.ensures)
    (c.in_ok-add_refs.ensures.refs ∙ (λ i. c.add_bits.ensures.refs i ++ c.as_slice-refs.ensures i))
    (or_true c.args.b.now.shut))
