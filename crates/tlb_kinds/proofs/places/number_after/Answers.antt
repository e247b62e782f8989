use Rattle.std.proofs.Common.{arith}
use Rattle.std.proofs.lemmas.Grind.{common_steps}
use Rattle.std.proofs.lemmas.Slice.Eq.{bytes_eq-Decides}
use Rattle.tlb_kinds.proofs.Counting.{number_more, number_few}
use Rattle.tlb_kinds.proofs.places.number_after.Goals as goal
use Rattle.tlb_kinds.proofs.places.number_after.Goals.{then-same, else-same}

pub overflow_add-number : goal.overflow_add-number
overflow_add-number c =
    let bounded = number_few c.args.before.now c.loop-constructor.constructor-index c.args.type_name.now in
    omega (arith, bounded, c.loop-constructor.invariant)

pub loop-constructor-preserved : goal.loop-constructor-preserved
loop-constructor-preserved c =
    let more = number_more c.args.before.now c.loop-constructor.constructor-index c.constructor-item.result c.args.type_name.now (omega arith) c.constructor-item.is in
    let decides = bytes_eq-Decides c.constructor-item.result.result c.args.type_name.now in
    elim c.if-same.branch [ then-same w ↦ grind (arith, common_steps, more, decides, w.number-is) | else-same w ↦ grind (arith, common_steps, more, decides, w.number-is) ]
