use Rattle.std.proofs.Common.{refl}
use Rattle.hash_bench.specs.Chain.{chained}
use Rattle.hash_bench.proofs.Steps.{step_of}
use Rattle.hash_bench.proofs.chained_hash.Goals as goal

pub steps-init : goal.steps-init
unfolding chained
steps-init c = refl

pub steps-preserved : goal.steps-preserved
steps-preserved c =
    step_of c.args.bits c.len.result c.descriptor-d.result c.again.result c.steps.hash c.hash_parts-hash.result c.steps.step
    (c.len.ensures.value)
    (c.descriptor-d.ensures)
    (c.again.ensures)
    (c.steps.invariant)
    (c.hash_parts-hash.ensures)
