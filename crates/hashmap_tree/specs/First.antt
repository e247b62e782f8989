-- The first edge of a dictionary in place: a leaf, whose value goes on, or a fork, which leaves what follows it.
use Rattle.std.specs.Prelude.{◌≡◌, ℕ, suc, ◌+◌, ◌-◌, ◌<◌, if◌then◌else◌, nat_eq, List, [], ◌∷◌, ◌++◌, length, Result, Ok, Err}
use Rattle.cell_nodes.specs.declared.tree.Mode.{Mode}
use Rattle.cell_nodes.specs.declared.tree.Tree.{Tree}
use Rattle.hashmap_labels.specs.Labels.{IsLabel}
use Rattle.hashmap_labels.specs.Reading.{read_label}
use Rattle.hashmap_tree.specs.Dict.{forms_of, Branch}
use Rattle.hashmap_tree.specs.Entries.{Slice, Entries, fork}
use Rattle.hashmap_tree.specs.Halts.{NoLabel, HaltsBranch}
use Rattle.hashmap_tree.specs.Walk.{◌>>=◌, Fault, here, below, as_fault, Walker, branches, walk}
use Rattle.hashmap_tree.specs.declared.found.WalkCause.{WalkCause}
use Rattle.hashmap_tree.specs.declared.found.WalkCause.TheVariants as cause

-- a leaf's key and the slice that its value begins, or the entries of a fork and what follows it
pub data Edge : Type 0 where
  at_leaf : List ℕ → Slice → Edge
  at_fork : Entries → Slice → Edge

-- the label of a leaf, and what follows it
pub record LeafEdge (mode : Mode) (n : ℕ) (k : List ℕ) (s middle : Slice) : Type 0 where
  pub long : length k ≡ n
  pub label : IsLabel (forms_of mode) n k s.bits middle.bits
  pub refs : s.refs ≡ middle.refs

-- the label of a fork and its two references, and what follows them
pub data Fork (mode : Mode) (n : ℕ) (es : Entries) (s after : Slice) : Type 0 where
  forked : (p : List ℕ) (m : ℕ) (zs os : Entries) (z o : Tree) → es ≡ fork p zs os → n ≡ length p + suc m
      → IsLabel (forms_of mode) n p s.bits after.bits → s.refs ≡ z ∷ (o ∷ after.refs)
      → Branch mode m zs z → Branch mode m os o → Fork mode n es s after

abbrev pub IsEdge : Mode → ℕ → Slice → Edge → Type 0
IsEdge mode n s (at_leaf k middle) = LeafEdge mode n k s middle
IsEdge mode n s (at_fork es after) = Fork mode n es s after

-- where it stops; what follows its fork is no fault
pub data HaltsFirst (mode : Mode) (n : ℕ) (s : Slice) (f : Fault) : Type 0 where
  first_label : (w : WalkCause) → NoLabel mode n s.bits w → f ≡ here w → HaltsFirst mode n s f
  first_refs : (p rest : List ℕ) → IsLabel (forms_of mode) n p s.bits rest → length p < n → length s.refs < 2
      → f ≡ here cause.ShortRefs → HaltsFirst mode n s f
  first_zero : (p rest : List ℕ) (m : ℕ) (z o : Tree) (ts : List Tree) (g : Fault)
      → IsLabel (forms_of mode) n p s.bits rest → n ≡ length p + suc m
      → s.refs ≡ z ∷ (o ∷ ts) → HaltsBranch mode m z g → f ≡ below (p ++ 0 ∷ []) g → HaltsFirst mode n s f
  first_one : (p rest : List ℕ) (m : ℕ) (z o : Tree) (ts : List Tree) (zs : Entries) (g : Fault)
      → IsLabel (forms_of mode) n p s.bits rest → n ≡ length p + suc m
      → s.refs ≡ z ∷ (o ∷ ts) → Branch mode m zs z → HaltsBranch mode m o g → f ≡ below (p ++ 1 ∷ []) g
      → HaltsFirst mode n s f

-- ---- as a function

abbrev pub open_fork : Walker → Mode → ℕ → List ℕ → List ℕ → List Tree → Result Edge Fault
open_fork W mode m p bits [] = Err (here cause.ShortRefs)
open_fork W mode m p bits (z ∷ []) = Err (here cause.ShortRefs)
open_fork W mode m p bits (z ∷ o ∷ ts) = do
  es ← branches W mode m p z o
  Ok (at_fork es (record { bits = bits; refs = ts }))

abbrev pub at_first : Mode → ℕ → List ℕ → List ℕ → List Tree → Result Edge Fault
at_first mode n p bits refs =
    if nat_eq n (length p) then Ok (at_leaf p (record { bits = bits; refs = refs }))
    else open_fork (walk n mode) mode (n - length p - 1) p bits refs

unfoldable pub first_edge : Mode → ℕ → Slice → Result Edge Fault
first_edge mode n s = do
  x ← as_fault (read_label (forms_of mode) n s.bits)
  at_first mode n x.0 x.1 s.refs
