use Rattle.std.proofs.Common.{arith}
use Rattle.tlb_guard.proofs.Numberings.{width_step}
use Rattle.tlb_guard.proofs.types.greatest_width.Goals as goal
use Rattle.tlb_guard.proofs.types.greatest_width.Goals.{then-len-width, else-len-width}

pub loop-constructor-preserved : goal.loop-constructor-preserved
loop-constructor-preserved c =
    width_step c.args.constructors.now c.loop-constructor.constructor-index c.constructor-item.result c.loop-constructor.width c.if-len-width.width _
    c.loop-constructor-test.true c.constructor-item.is
    (elim c.if-len-width.branch [ then-len-width w ↦ omega arith | else-len-width w ↦ omega arith ])
    c.loop-constructor.invariant
