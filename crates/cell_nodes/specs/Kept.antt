-- What a node keeps of its tree.
use Rattle.std.specs.Prelude.{◌≡◌, ◌≤◌, ◌∷◌, List, length, map}
use Rattle.cell_hash.specs.declared.ChildMark.{ChildMark}
use Rattle.cell_nodes.specs.declared.tree.Tree.{Tree}
use Rattle.cell_nodes.specs.declared.cell.Node.{Node}
use Rattle.cell_nodes.specs.Good.{IsGood}
use Rattle.cell_nodes.specs.Levels.{levels_in, top_level}
use Rattle.cell_nodes.specs.Tree.{tree_of, mask, mark_at, marks, unfolded, capped}

-- the tree that a node stands for
abbrev pub tree_in : Node → Tree
tree_in n = tree_of n.kind n.bits n.children.items

-- the depths and hashes of a tree at level 0 and at the levels that its mask has
abbrev pub marks_in : Tree → List ChildMark
marks_in t = map (λ i. mark_at i (marks t)) (levels_in top_level (mask t))

-- the tree is good, and the caches are the tree's
pub record IsKept (n : Node) : Type 0 where
  pub good : IsGood (tree_in n)
  pub few : length n.children.items ≤ 4
  pub mask_kept : n.mask ≡ mask (tree_in n)
  pub mask_bound : n.mask ≤ 7
  pub marks_kept : n.lowest ∷ n.above.items ≡ marks_in (tree_in n)
  pub unfolded_kept : n.unfolded ≡ capped (unfolded (tree_in n))
