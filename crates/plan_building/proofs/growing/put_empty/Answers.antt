use Rattle.std.proofs.Common.{ap, sym, ◌∙◌}
use Rattle.std.proofs.lemmas.Result.{err_from_is_err_and}
use Rattle.std.proofs.Common.{List, ℕ, []}
use Rattle.building.specs.PlainBuilder.{put_bits}
use Rattle.plan_building.specs.StopsLaws.{goes_on, stops_on, stops_same}
use Rattle.plan_building.specs.View.{grown}
use Rattle.plan_building.proofs.Laying.{zero_bit}
use Rattle.plan_building.proofs.growing.put_empty.Goals as goal

pub returns-in_err-put_number : goal.returns-in_err-put_number
returns-in_err-put_number c = λ h.
    let w = err_from_is_err_and c.from_residual.result c.from_residual.ensures.1 in
    rw (w.1, w.2) (stops_same h _ _ _
    (ap (λ (bits : List ℕ). put_bits h bits [] (grown c.args.b.now)) (sym zero_bit))
    (stops_on h _ _ _ (c.in_err-put_number.ensures h)))

pub returns : goal.returns
returns c = λ h.
    ap (λ (bits : List ℕ). put_bits h bits [] (grown c.args.b.now)) (sym zero_bit)
    ∙ goes_on _ _ _ (c.in_ok-put_number.ensures h)
