use Rattle.std.proofs.Common.{arith}
use Rattle.typed_value.specs.View.{value as value_view}
use Rattle.pruned_proof.proofs.Naming.{all_named, one_named}
use Rattle.pruned_proof.proofs.proving.first_nameless.Goals as goal

pub paths-preserved : goal.paths-preserved
paths-preserved c =
    let at = c.paths in
    let count = at.invariant.count in
    record {
      count = omega (arith, count);
      named = one_named (value_view c.args.value.now) c.args.paths.now at.path-index at.invariant.named c.path-item.result
          c.paths-test.true c.path-item.is (c.names.ensures.0 c.if-not-names.false);
    }

pub returns : goal.returns
returns c =
    let at = c.paths in
    all_named (value_view c.args.value.now) c.args.paths.now at.path-index at.invariant.named c.paths-test.false
