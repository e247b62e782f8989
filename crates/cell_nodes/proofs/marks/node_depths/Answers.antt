use Rattle.std.proofs.Common.{◌≡◌, ◌+◌, ◌∙◌, map, length-set, arith}
use Rattle.cell_nodes.specs.Tree.{depth_of, marks}
use Rattle.cell_nodes.proofs.Steps.{bit_unset, depth-unset, depths-known}
use Rattle.cell_nodes.proofs.marks.node_depths.Goals as goal
use Rattle.cell_nodes.proofs.marks.node_depths.Goals.{then-has_next, else-has_next}

next-depth : (c : goal.Joined-has_next) → c.if-has_next.depths ≡ depth_of c.args.kind c.args.bits (map marks c.args.children.now) (c.levels.i + 1)
next-depth c = elim c.if-has_next.branch [
  | then-has_next w ↦ w.depths-is ∙ w.depth_after.ensures
  | else-has_next w ↦
      depth-unset c.args.kind c.args.bits (map marks c.args.children.now) c.args.mask c.levels.i _ c.requires.mask
      (bit_unset _ c.args.mask c.levels.i c.has_next.ensures w.if-has_next.false)
      (w.depths-is ∙ c.levels.invariant.known c.levels.i (omega arith))
]

pub levels-preserved : goal.levels-preserved
levels-preserved c = record {
  whole = rw length-set c.levels.invariant.whole;
  known = depths-known _ c.levels.depths c.levels.i _ c.levels.invariant.whole c.levels-test.true c.levels.invariant.known (next-depth c);
}
