-- The equations of the folds: what a tree tells, from what its children tell.
use Rattle.std.specs.Prelude.{◌≡◌, ℕ, ◌+◌, ◌≤◌, List, [], ◌∷◌, map}
use Rattle.std.proofs.Common.{arith, ap}
use Rattle.cell_nodes.specs.declared.tree.Kind.{Kind}
use Rattle.cell_nodes.specs.declared.tree.Tree.{Tree, out-Tree, fold_out-Tree, fold-roll-Tree}
use Rattle.cell_nodes.specs.declared.tree.Tree.TheViews.{out-roll-Tree, roll-out-Tree}
use Rattle.cell_nodes.specs.Tree.{Marks, tree_of, total, unfolded, unfolded_step, marks, marks_of, marks_step, mask}
use Rattle.cell_nodes.specs.Tree.{depth, hash, mask_of, depth_of, hash_of}
use denote.Param.Weighed.{most}

pub out-tree_of : (k : Kind) (b : List ℕ) (cs : List Tree)
    → out-Tree (tree_of k b cs) ≡ record { kind = k; bits = b; children = cs }
out-tree_of k b cs = out-roll-Tree (record { kind = k; bits = b; children = cs })

pub tree_of-out : (t : Tree) → tree_of (out-Tree t).kind (out-Tree t).bits (out-Tree t).children ≡ t
tree_of-out t = roll-out-Tree t

pub marks-tree_of : (k : Kind) (b : List ℕ) (cs : List Tree) → marks (tree_of k b cs) ≡ marks_of k b (map marks cs)
unfolding marks
marks-tree_of k b cs = fold-roll-Tree Marks marks_step (record { kind = k; bits = b; children = cs })

pub mask-tree_of : (k : Kind) (b : List ℕ) (cs : List Tree) → mask (tree_of k b cs) ≡ mask_of k b (map marks cs)
mask-tree_of k b cs = ap (λ (m : Marks). m.mask) (marks-tree_of k b cs)

pub depth-tree_of : (k : Kind) (b : List ℕ) (cs : List Tree) (i : ℕ)
    → depth (tree_of k b cs) i ≡ depth_of k b (map marks cs) i
depth-tree_of k b cs i = ap (λ (m : Marks). m.depth i) (marks-tree_of k b cs)

pub hash-tree_of : (k : Kind) (b : List ℕ) (cs : List Tree) (i : ℕ)
    → hash (tree_of k b cs) i ≡ hash_of k b (map marks cs) i
hash-tree_of k b cs i = ap (λ (m : Marks). m.hash i) (marks-tree_of k b cs)

pub marks-out : (t : Tree) → marks t ≡ marks_of (out-Tree t).kind (out-Tree t).bits (map marks (out-Tree t).children)
unfolding marks
marks-out t = fold_out-Tree Marks marks_step t

pub unfolded-tree_of : (k : Kind) (b : List ℕ) (cs : List Tree)
    → unfolded (tree_of k b cs) ≡ 1 + total (map unfolded cs)
unfolding unfolded
unfolded-tree_of k b cs = fold-roll-Tree ℕ unfolded_step (record { kind = k; bits = b; children = cs })

pub unfolded-out : (t : Tree) → unfolded t ≡ 1 + total (map unfolded (out-Tree t).children)
unfolding unfolded
unfolded-out t = fold_out-Tree ℕ unfolded_step t

pub one_le-unfolded : (t : Tree) → 1 ≤ unfolded t
one_le-unfolded t = omega (arith, unfolded-out t)

-- a tree has more cells than each of its children
most_le-total : (cs : List Tree) → most (λ c. unfolded c + 1) cs ≤ 1 + total (map unfolded cs)
most_le-total [] = omega arith
most_le-total (c ∷ cs) = omega (arith, most_le-total cs)

pub most_le-unfolded : (k : Kind) (b : List ℕ) (cs : List Tree)
    → most (λ c. unfolded c + 1) cs ≤ unfolded (tree_of k b cs)
most_le-unfolded k b cs = rw (unfolded-tree_of k b cs) (most_le-total cs)
