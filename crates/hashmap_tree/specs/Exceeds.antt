-- Why the tree of entries is not within the limits of cells: the first fault that is met when the tree is built, for
-- each edge the left part, the right part, and then the edge itself, its label before its references.
use Rattle.std.specs.Prelude.{◌≡◌, ◌≢◌, ◌⊎◌, ℕ, suc, ◌+◌, ◌<◌, ◌≤◌, List, [], ◌∷◌, ◌++◌, length}
use Rattle.bit_slice.specs.Bits.{bit_length}
use Rattle.cell_nodes.specs.BytesLaws.{AreBytes}
use Rattle.cell_nodes.specs.Good.{IsGood, AllGood}
use Rattle.cell_nodes.specs.HeldLaws.{AreBelow}
use Rattle.cell_nodes.specs.Tree.{deepest}
use Rattle.cell_nodes.specs.declared.tree.Hidden.{Hidden}
use Rattle.cell_nodes.specs.declared.tree.Mode.TheVariants.{Partial}
use Rattle.cell_nodes.specs.declared.tree.Tree.{Tree}
use Rattle.hashmap_labels.specs.Labels.{required_form}
use Rattle.hashmap_labels.specs.SpellingLaws.{size}
use Rattle.hashmap_tree.specs.Dict.{Branch}
use Rattle.hashmap_tree.specs.Entries.{Slice, leaf, hidden, Entries, fork}

-- an edge with more than 1023 bits, with the first key below it; or a part that is too deep
pub data Excess : Type 0 where
  full : List ℕ → Excess
  deep : Excess

-- a fault of a part below these bits
abbrev pub beneath : List ℕ → Excess → Excess
beneath p (full k) = full (p ++ k)
beneath p deep = deep

-- how many bits the label of these bits takes in its required form
abbrev pub label_size : ℕ → List ℕ → ℕ
label_size n bits = size (required_form n bits) (bit_length n) (length bits)

abbrev pub first_key : Entries → List ℕ
first_key [] = []
first_key (e ∷ es) = e.0

-- a hash of 32 bytes and a depth that a cell may have
pub record CanHide (h : Hidden) : Type 0 where
  pub whole : length h.hash ≡ 32
  pub bytes : AreBytes h.hash
  pub low : h.depth ≤ 1024

-- the cell of the part below a fork was built
abbrev pub IsBuilt : ℕ → Entries → Tree → Type 0
IsBuilt m es c = Branch Partial m es c × IsGood c

mutual
  pub data Exceeds : ℕ → Entries → Excess → Type 0 where
    leaf_full : (n : ℕ) (es : Entries) (f : Excess) (k : List ℕ) (c : Slice) → es ≡ (k, leaf c) ∷ []
        → 1023 < label_size n k + length c.bits → f ≡ full k → Exceeds n es f
    in_zeros : (n : ℕ) (es : Entries) (f : Excess) (p : List ℕ) (m : ℕ) (zs os : Entries) (g : Excess)
        → es ≡ fork p zs os → n ≡ length p + suc m → os ≢ [] → ExceedsBranch m zs g → f ≡ beneath (p ++ 0 ∷ []) g
        → Exceeds n es f
    in_ones : (n : ℕ) (es : Entries) (f : Excess) (p : List ℕ) (m : ℕ) (zs os : Entries) (z : Tree) (g : Excess)
        → es ≡ fork p zs os → n ≡ length p + suc m → IsBuilt m zs z → ExceedsBranch m os g
        → f ≡ beneath (p ++ 1 ∷ []) g → Exceeds n es f
    fork_full : (n : ℕ) (es : Entries) (f : Excess) (p : List ℕ) (m : ℕ) (zs os : Entries) (z o : Tree)
        → es ≡ fork p zs os → n ≡ length p + suc m → IsBuilt m zs z → IsBuilt m os o → 1023 < label_size n p
        → f ≡ full (first_key es) → Exceeds n es f
    fork_deep : (n : ℕ) (es : Entries) (f : Excess) (p : List ℕ) (m : ℕ) (zs os : Entries) (z o : Tree)
        → es ≡ fork p zs os → n ≡ length p + suc m → IsBuilt m zs z → IsBuilt m os o → label_size n p ≤ 1023
        → (deepest z ≡ 1024) ⊎ (deepest o ≡ 1024) → f ≡ deep → Exceeds n es f

  pub data ExceedsBranch : ℕ → Entries → Excess → Type 0 where
    in_edge : (m : ℕ) (es : Entries) (f : Excess) → Exceeds m es f → ExceedsBranch m es f
    hidden_deep : (m : ℕ) (es : Entries) (f : Excess) (h : Hidden) → es ≡ ([], hidden h) ∷ [] → 1024 < h.depth
        → f ≡ deep → ExceedsBranch m es f

-- a content that a cell can hold
pub record IsWithin (s : Slice) : Type 0 where
  pub short : length s.bits ≤ 1023
  pub few : length s.refs ≤ 4
  pub good : AllGood s.refs
  pub below : AreBelow s.refs
