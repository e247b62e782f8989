-- A tree that has at most as many bits as another, cell by cell.
use Rattle.std.specs.Prelude.{◌≡◌, ◌≤◌, List, [], ◌∷◌, length}
use Rattle.std.proofs.Common.{sym, ◌∙◌, subst}
use Rattle.cell_nodes.specs.declared.tree.Tree.{Tree, out-Tree}
use Rattle.hashmap_tree.specs.CellLaws.{kind-cell_of, content-cell_of}
use Rattle.hashmap_tree.specs.Entries.{Slice, content, cell_of}

mutual
  -- a cell of the same kind with at most as many bits, and with as many references, each to a tree that is no longer
  pub data IsNoLonger : Tree → Tree → Type 0 where
    no_longer : (u t : Tree) → (out-Tree u).kind ≡ (out-Tree t).kind
        → length (out-Tree u).bits ≤ length (out-Tree t).bits → AreNoLonger (out-Tree u).children (out-Tree t).children
        → IsNoLonger u t

  pub data AreNoLonger : List Tree → List Tree → Type 0 where
    no_trees : AreNoLonger [] []
    more_trees : (u t : Tree) (us ts : List Tree) → IsNoLonger u t → AreNoLonger us ts
        → AreNoLonger (u ∷ us) (t ∷ ts)

-- ordinary cells by their contents
pub no_longer_cell : (u s : Slice) → length u.bits ≤ length s.bits → AreNoLonger u.refs s.refs
    → IsNoLonger (cell_of u) (cell_of s)
no_longer_cell u s short refs =
    let B : Slice → Slice → Type 0 = λ x y. length x.bits ≤ length y.bits in
    let R : Slice → Slice → Type 0 = λ x y. AreNoLonger x.refs y.refs in
    let cu = sym (content-cell_of u) in
    let cs = sym (content-cell_of s) in
    no_longer (cell_of u) (cell_of s) (kind-cell_of u ∙ sym (kind-cell_of s))
    (subst (B (content (cell_of u))) cs (subst (λ (x : Slice). B x s) cu short))
    (subst (R (content (cell_of u))) cs (subst (λ (x : Slice). R x s) cu refs))

pub bits_of_cell : (u s : Slice) → IsNoLonger (cell_of u) (cell_of s) → length u.bits ≤ length s.bits
bits_of_cell u s (no_longer _ _ kind short refs) =
    let B : Slice → Slice → Type 0 = λ x y. length x.bits ≤ length y.bits in
    subst (B u) (content-cell_of s) (subst (λ (x : Slice). B x (content (cell_of s))) (content-cell_of u) short)

pub refs_of_cell : (u s : Slice) → IsNoLonger (cell_of u) (cell_of s) → AreNoLonger u.refs s.refs
refs_of_cell u s (no_longer _ _ kind short refs) =
    let R : Slice → Slice → Type 0 = λ x y. AreNoLonger x.refs y.refs in
    subst (R u) (content-cell_of s) (subst (λ (x : Slice). R x (content (cell_of s))) (content-cell_of u) refs)
