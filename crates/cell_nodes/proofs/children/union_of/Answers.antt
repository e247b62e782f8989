use Rattle.std.proofs.Common.{refl}
use Rattle.cell_nodes.proofs.Sums.{union_step, or_below_eight}
use Rattle.cell_nodes.proofs.children.union_of.Goals as goal

pub children-preserved : goal.children-preserved
children-preserved c =
    let e = union_step c.args.children.now c.children.child-index c.child-item.result c.children-test.true in
    record {
      value = rw (e, ← c.child-item.is, ← c.mask-found.ensures.value, ← c.children.invariant.value) refl;
      bound = or_below_eight c.children.found c.mask-found.result c.children.invariant.bound c.mask-found.ensures.bound;
    }
