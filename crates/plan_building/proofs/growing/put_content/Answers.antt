use Rattle.std.proofs.Common.{◌++◌, ap, length, ◌∙◌}
use Rattle.std.proofs.lemmas.Result.{err_from_is_err_and}
use Rattle.hashmap_tree.specs.Plants.{held_of}
use Rattle.plan_building.specs.StopsLaws.{goes_on, stops_on}
use Rattle.plan_building.proofs.Laying.{laid_last}
use Rattle.plan_building.proofs.growing.put_content.Goals as goal

pub returns-in_err-admit : goal.returns-in_err-admit
returns-in_err-admit c = λ h.
    let w = err_from_is_err_and c.from_residual.result c.from_residual.ensures.1 in
    rw (w.1, w.2) (stops_on h _ _ _ (c.in_err-admit.ensures.put h (held_of c.args.content.now) c.args.last
    (c.len.ensures.value ∙ ap length c.content-held.ensures.bits)
    (c.len-2.ensures.value ∙ ap length c.content-held.ensures.refs)))

pub returns : goal.returns
returns c = λ h.
    goes_on _ _ _ (c.in_ok-admit.ensures.put h (held_of c.args.content.now) c.args.last
    (c.len.ensures.value ∙ ap length c.content-held.ensures.bits)
    (c.len-2.ensures.value ∙ ap length c.content-held.ensures.refs)
    ∙ laid_last (held_of c.args.content.now) c.args.last _ _
    (c.in_ok-add_held.ensures.bits ∙ c.add_bits.ensures.bits
    ∙ ap (λ z. c.args.b.now.cell.bits ++ z) c.content-held.ensures.bits)
    (c.in_ok-add_held.ensures.refs ∙ (λ i. c.add_bits.ensures.refs i ++ c.content-held.ensures.refs i))
    c.either-b.ensures)
