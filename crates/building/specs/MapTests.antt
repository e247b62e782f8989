-- Whether keys and hidden parts fit a dictionary: they are in order, none begins another, and each hidden part has a
-- place. No content is looked at.
--
-- Source: TVM whitepaper, section 3.3: a dictionary is a binary tree of its keys.
use Rattle.std.specs.Prelude.{◌⊎◌, ◌≡◌, ℕ, zero, suc, ◌<◌, Bool, true, false, ◌&&◌, ◌||◌, nat_eq, nat_le, List, [], ◌∷◌, length, Option, Some, None}
use Rattle.cell_nodes.specs.declared.tree.Hidden.{Hidden}
use Rattle.cell_nodes.specs.declared.tree.Mode.{Mode}
use Rattle.cell_nodes.specs.declared.tree.Mode.TheVariants.{Whole, Partial, Lax}
use Rattle.hashmap_labels.specs.Reading.{are_bits}
use Rattle.hashmap_tree.specs.Entries.{Slice, Part, leaf, hidden, Entries, hidden_in}
use Rattle.hashmap_tree.specs.Merged.{is_before, merged}
use Rattle.hashmap_tree.specs.Order.{AreInOrder}
use Rattle.hashmap_tree.specs.Placed.{AllPlaced}
use Rattle.hashmap_tree.specs.Plants.{IsHiddenAlone}
use Rattle.typed_value.specs.Values.{PlainPairs, no_pairs, a_pair}
use Rattle.spelling.specs.Slices.{nothing}

-- the keys of a map, each with no content yet
abbrev pub keys_of : PlainPairs → List (List ℕ × Slice)
keys_of no_pairs = []
keys_of (a_pair k v ps) = (k, nothing) ∷ keys_of ps

abbrev pub outline : PlainPairs → List (List ℕ × Hidden) → Entries
outline ps us = merged (keys_of ps) us

-- ---- as relations

-- hidden parts stand in mode Partial alone
abbrev pub Admits : Mode → Entries → Type 0
Admits Whole es = hidden_in es ≡ []
Admits Partial es = Unit {0}
Admits Lax es = hidden_in es ≡ []

-- the entries of Hashmap: some, in order, each hidden part a child of a fork
pub record FitEdge (mode : Mode) (n : ℕ) (es : Entries) : Type 0 where
  pub some : 0 < length es
  pub order : AreInOrder n es
  pub placed : AllPlaced es
  pub admitted : Admits mode es

-- the entries of HashmapE: none, those of an edge, or one hidden part in place of all
pub record FitRoot (mode : Mode) (n : ℕ) (es : Entries) : Type 0 where
  pub order : AreInOrder n es
  pub placed : IsHiddenAlone es ⊎ AllPlaced es
  pub admitted : Admits mode es

-- ---- as tests

abbrev pub may_stand : ℕ → List ℕ → Part → Bool
may_stand n k (leaf c) = nat_eq (length k) n
may_stand n k (hidden h) = nat_le (length k) n

abbrev pub goes_before : List ℕ → Entries → Bool
goes_before k [] = true
goes_before k (f ∷ es) = is_before k f.0

abbrev pub in_order : ℕ → Entries → Bool
in_order n [] = true
in_order n (e ∷ es) = may_stand n e.0 e.1 && (are_bits e.0 && (goes_before e.0 es && in_order n es))

-- the other part of the fork of which this prefix is one
abbrev pub flipped : ℕ → ℕ
flipped zero = 1
flipped (suc b) = 0

abbrev pub after_bit : ℕ → Option (List ℕ) → Option (List ℕ)
after_bit b None = None
after_bit b (Some k) = Some (b ∷ k)

abbrev pub sibling : List ℕ → Option (List ℕ)
sibling [] = None
sibling (b ∷ []) = Some (flipped b ∷ [])
sibling (b ∷ c ∷ k) = after_bit b (sibling (c ∷ k))

abbrev pub begins : List ℕ → List ℕ → Bool
begins [] k = true
begins (x ∷ p) [] = false
begins (x ∷ p) (y ∷ k) = nat_eq x y && begins p k

abbrev pub has_below : List ℕ → Entries → Bool
has_below p [] = false
has_below p (e ∷ es) = begins p e.0 || has_below p es

abbrev pub has_some_below : Option (List ℕ) → Entries → Bool
has_some_below None es = false
has_some_below (Some p) es = has_below p es

abbrev pub are_placed : Entries → Entries → Bool
are_placed [] es = true
are_placed ((q, leaf c) ∷ fs) es = are_placed fs es
are_placed ((q, hidden h) ∷ fs) es = has_some_below (sibling q) es && are_placed fs es

abbrev pub is_hidden_alone : Entries → Bool
is_hidden_alone (([], hidden h) ∷ []) = true
is_hidden_alone _ = false

abbrev pub is_none : List (List ℕ × Hidden) → Bool
is_none [] = true
is_none (u ∷ us) = false

abbrev pub admits : Mode → Entries → Bool
admits Whole es = is_none (hidden_in es)
admits Partial es = true
admits Lax es = is_none (hidden_in es)

abbrev pub has_some : Entries → Bool
has_some [] = false
has_some (e ∷ es) = true

abbrev pub fits_edge : Mode → ℕ → Entries → Bool
fits_edge mode n es = has_some es && (in_order n es && (are_placed es es && admits mode es))

abbrev pub fits_root : Mode → ℕ → Entries → Bool
fits_root mode n es = in_order n es && ((is_hidden_alone es || are_placed es es) && admits mode es)
