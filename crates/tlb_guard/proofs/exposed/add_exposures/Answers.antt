use Rattle.std.proofs.Common.{◌<◌, length, arith}
use Rattle.tlb_syntax.specs.View.{constructor}
use Rattle.tlb_guard.specs.Numbering.{views}
use Rattle.tlb_guard.proofs.CalledParameters.{one_exposure}
use Rattle.tlb_guard.proofs.exposed.add_exposures.Goals as goal

pub loop-exposure-preserved : goal.loop-exposure-preserved
loop-exposure-preserved c =
    let lt : c.loop-exposure.exposure-index < length c.args.exposures.now = omega arith in
    one_exposure (views c.args.types.now) (constructor c.args.constructor.now) c.args.exposures.now c.loop-exposure.exposure-index c.exposure-item.result
    c.args.rules.now c.loop-exposure.rules c.add_exposure.new.rules lt c.exposure-item.is c.loop-exposure.invariant c.in_ok-add_exposure.ensures
