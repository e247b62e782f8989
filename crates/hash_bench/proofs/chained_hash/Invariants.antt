use Rattle.std.proofs.Common.{◌≡◌}
use Rattle.hash_bench.specs.Chain.{chained}
use Rattle.hash_bench.proofs.chained_hash.Given as goal

abbrev pub invariant-steps : goal.invariant-steps
invariant-steps l = l.hash ≡ chained l.bits l.step
