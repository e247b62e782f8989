use Rattle.std.proofs.Common.{◌+◌, ◌∙◌, map, ap, arith, Vec, Global}
use Rattle.cell_hash.specs.declared.ChildMark.{ChildMark}
use Rattle.cell_nodes.specs.MarksLaws.{level_within, low_mask}
use Rattle.cell_nodes.specs.Tree.{depth_of, marks}
use Rattle.cell_nodes.proofs.Steps.{bit_set, bit_unset, depth-at, first-kept, set-kept, unset-kept, hash-unset}
use Rattle.cell_nodes.proofs.marks.node_marks.Goals as goal
use Rattle.cell_nodes.proofs.marks.node_marks.Goals.{then-has_next+in_ok-hash-2+in_ok-push_mark, else-has_next}

pub levels-init : goal.levels-init
levels-init c = record {
  known = c.in_ok-hash.ensures;
  kept = first-kept c.args.kind c.args.bits (map marks c.args.children.now) c.args.mask c.args.depths c.in_ok-hash.hash _ c.new-above.ensures.items c.requires.depths c.in_ok-hash.ensures;
}

pub hash_after-requires-clause-level : goal.hash_after-requires-clause-level
hash_after-requires-clause-level c =
    level_within c.args.kind c.args.mask c.levels.i c.requires.low (bit_set _ c.args.mask c.levels.i c.has_next.ensures c.if-has_next.true)

pub hash_after-requires-clause-low : goal.hash_after-requires-clause-low
hash_after-requires-clause-low c = low_mask c.args.kind c.args.mask c.requires.low

pub levels-preserved : goal.levels-preserved
levels-preserved c = elim c.if-has_next.branch [
  | then-has_next+in_ok-hash-2+in_ok-push_mark w ↦ record {
    known = w.hash-is ∙ w.in_ok-hash-2.ensures;
    kept = set-kept c.args.kind c.args.bits (map marks c.args.children.now) c.args.mask c.levels.i _ c.levels.above.items _ _ w.in_ok-hash-2.hash
        (bit_set _ c.args.mask c.levels.i c.has_next.ensures w.if-has_next.true)
        c.levels.invariant.kept (ap (λ (v : Vec ChildMark Global). v.items) w.above-is ∙ w.in_ok-push_mark.ensures)
        (depth-at (depth_of c.args.kind c.args.bits (map marks c.args.children.now)) c.args.depths (c.levels.i + 1) c.requires.depths (omega arith))
        w.in_ok-hash-2.ensures;
  }
  | else-has_next w ↦ record {
    known = hash-unset c.args.kind c.args.bits (map marks c.args.children.now) c.args.mask c.levels.i _ c.requires.mask
        (bit_unset _ c.args.mask c.levels.i c.has_next.ensures w.if-has_next.false) (w.hash-is ∙ c.levels.invariant.known);
    kept = unset-kept c.args.kind c.args.bits (map marks c.args.children.now) c.args.mask c.levels.i _ c.levels.above.items _
        (bit_unset _ c.args.mask c.levels.i c.has_next.ensures w.if-has_next.false) c.levels.invariant.kept (ap (λ (v : Vec ChildMark Global). v.items) w.above-is);
  }
]
