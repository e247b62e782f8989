use Rattle.tlb_guard.proofs.Numberings.{left_scope}
use Rattle.tlb_guard.proofs.scope.leave.Goals as goal
use Rattle.std.proofs.Common.{◌<◌, length, arith}

pub loop-scope-preserved : goal.loop-scope-preserved
loop-scope-preserved c =
    let old = c.loop-scope.scope in
    let lt : c.args.count < length old = omega (arith, c.len.ensures, c.loop-scope-test.true) in
    let p = left_scope c.args.scope.now old c.pop.new.self c.pop.result c.args.count c.pop.ensures c.loop-scope.invariant.prefix lt in
    record { long = p.0; prefix = p.1 }
