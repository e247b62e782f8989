use Rattle.std.proofs.Common.{◌≡◌, ◌∷◌, map}
use Rattle.cell_nodes.specs.Levels.{levels_in}
use Rattle.cell_nodes.specs.Tree.{hash_of, mark_at, marks, marks_of}
use Rattle.cell_nodes.proofs.marks.node_marks.Given as goal

abbrev pub invariant-levels : goal.invariant-levels
invariant-levels l = record {
  known : l.hash ≡ hash_of l.kind l.bits (map marks l.children) l.i;
  kept : l.lowest ∷ l.above.items ≡ map (λ i. mark_at i (marks_of l.kind l.bits (map marks l.children))) (levels_in l.i l.mask);
}
