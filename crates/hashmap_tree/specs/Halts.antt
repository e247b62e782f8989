-- Where a walk stops: the first fault of a content in preorder; at one edge its cell, its label, its references, and
-- its end.
use Rattle.std.specs.Prelude.{◌≡◌, ◌≢◌, ◌⊎◌, ℕ, suc, ◌+◌, ◌<◌, List, [], ◌∷◌, ◌++◌, length, None}
use Rattle.cell_nodes.specs.declared.tree.Kind.TheVariants.{Ordinary}
use Rattle.cell_nodes.specs.declared.tree.Mode.{Mode}
use Rattle.cell_nodes.specs.declared.tree.Tree.{Tree, out-Tree}
use Rattle.hashmap_labels.specs.Labels.{IsLabel, EndsEarly, IsTooLong, HasOtherForm}
use Rattle.hashmap_labels.specs.declared.forms.Forms.TheVariants.{Required}
use Rattle.hashmap_tree.specs.Dict.{Branch, forms_of, unseen}
use Rattle.hashmap_tree.specs.Entries.{Slice, cell_of, Entries}
use Rattle.hashmap_tree.specs.Walk.{Fault, here, below}
use Rattle.hashmap_tree.specs.declared.found.WalkCause.{WalkCause}
use Rattle.hashmap_tree.specs.declared.found.WalkCause.TheVariants as cause

-- why no label of at most n bits stands there: the bits end, or the length or the form is wrong
pub data NoLabel (mode : Mode) (n : ℕ) (bits : List ℕ) : WalkCause → Type 0 where
  ends : EndsEarly n bits → NoLabel mode n bits cause.ShortBits
  too_long : IsTooLong n bits → NoLabel mode n bits cause.Label
  other_form : forms_of mode ≡ Required → HasOtherForm n bits → NoLabel mode n bits cause.Label

mutual
  pub data Halts : Mode → ℕ → Slice → Fault → Type 0 where
    no_label : (mode : Mode) (n : ℕ) (s : Slice) (f : Fault) (w : WalkCause)
        → NoLabel mode n s.bits w → f ≡ here w → Halts mode n s f
    few_refs : (mode : Mode) (n : ℕ) (s : Slice) (f : Fault) (p rest : List ℕ)
        → IsLabel (forms_of mode) n p s.bits rest → length p < n → length s.refs < 2
        → f ≡ here cause.ShortRefs → Halts mode n s f
    left_over : (mode : Mode) (n : ℕ) (s : Slice) (f : Fault) (p rest : List ℕ) (z o : Tree) (ts : List Tree)
        → IsLabel (forms_of mode) n p s.bits rest → length p < n
        → s.refs ≡ z ∷ (o ∷ ts) → (rest ≢ []) ⊎ (ts ≢ []) → f ≡ here cause.Leftover → Halts mode n s f
    in_zero : (mode : Mode) (n : ℕ) (s : Slice) (f : Fault) (p : List ℕ) (m : ℕ) (z o : Tree) (g : Fault)
        → IsLabel (forms_of mode) n p s.bits [] → n ≡ length p + suc m
        → s.refs ≡ z ∷ (o ∷ []) → HaltsBranch mode m z g → f ≡ below (p ++ 0 ∷ []) g → Halts mode n s f
    in_one : (mode : Mode) (n : ℕ) (s : Slice) (f : Fault) (p : List ℕ) (m : ℕ) (z o : Tree) (zs : Entries) (g : Fault)
        → IsLabel (forms_of mode) n p s.bits [] → n ≡ length p + suc m
        → s.refs ≡ z ∷ (o ∷ []) → Branch mode m zs z → HaltsBranch mode m o g → f ≡ below (p ++ 1 ∷ []) g
        → Halts mode n s f

  pub data HaltsBranch : Mode → ℕ → Tree → Fault → Type 0 where
    exotic : (mode : Mode) (m : ℕ) (c : Tree) (f : Fault)
        → (out-Tree c).kind ≢ Ordinary → unseen mode c ≡ None → f ≡ here cause.Exotic → HaltsBranch mode m c f
    within : (mode : Mode) (m : ℕ) (c : Tree) (f : Fault) (s : Slice)
        → c ≡ cell_of s → Halts mode m s f → HaltsBranch mode m c f
