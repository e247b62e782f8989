use Rattle.std.proofs.Common.{◌∙◌, ℕ, List, map, length, ap, subst, refl, arith}
use Rattle.bit_slice.specs.Bits.{AreBits}
use Rattle.cell_nodes.specs.Levels.{levels_in}
use Rattle.cell_nodes.specs.MarksLaws.{low_mask}
use Rattle.cell_nodes.specs.Tree.{mark_at, marks, marks_of}
use Rattle.cell_nodes.proofs.Known.{node-kept}
use Rattle.cell_nodes.proofs.cell.Cell.of_parts.Goals as goal

pub invariant_of-result : goal.invariant_of-result
invariant_of-result c =
    rw c.in-Ok.ensures.ok
    (node-kept _ c.args.kind c.args.bits c.args.children.now refl refl c.in_ok-children.ensures
    (subst AreBits c.slice.ensures c.len-count.ensures.bits) (omega (arith, ap length c.slice.ensures)) c.requires.few c.requires.layout
    c.all_good.ensures c.requires.shallow (low_mask c.args.kind c.args.mask c.requires.low) c.requires.mask
    (c.in_ok-lowest.ensures ∙ ap (λ (b : List ℕ). map (λ i. mark_at i (marks_of c.args.kind b (map marks c.args.children.now))) (levels_in 3 c.args.mask)) c.slice-2.ensures)
    c.unfolded_over-unfolded.ensures)
