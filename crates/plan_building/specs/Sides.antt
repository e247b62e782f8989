-- The entries whose keys go on with one bit, and whether the parts of an edge can be planted.
use Rattle.std.specs.Prelude.{ℕ, ◌≡◌, Bool, nat_eq, if◌then◌else◌, List, [], ◌∷◌, Option, Some, None, Result, Ok, Err}
use Rattle.bit_slice.specs.Bits.{bit_number}
use Rattle.cell_nodes.specs.declared.tree.Hidden.{Hidden}
use Rattle.hashmap_tree.specs.Entries.{Slice}
use Rattle.hashmap_tree.specs.Exceeds.{Excess}
use Rattle.hashmap_tree.specs.Merged.{merged}
use Rattle.hashmap_tree.specs.Plants.{IsHiddenAlone}
use Rattle.spelling.specs.Places.{Place, Spot, stuck}
use Rattle.building.specs.PlainBuilder.{cause_of}

-- an item whose key begins with this bit, without the bit, and then the others
abbrev pub with_first : {X : Type 0} → ℕ → List ℕ → X → List (List ℕ × X) → List (List ℕ × X)
with_first b [] x rest = rest
with_first b (c ∷ k) x rest = if nat_eq b c then (k, x) ∷ rest else rest

-- the items whose keys begin with this bit, without it
abbrev pub items_with : {X : Type 0} → ℕ → List (List ℕ × X) → List (List ℕ × X)
items_with b [] = []
items_with b (x ∷ xs) = with_first b x.0 x.1 (items_with b xs)

-- the contents and the hidden parts of one side
abbrev pub IsSide : ℕ → List (List ℕ × Slice) → List (List ℕ × Hidden) → List (List ℕ × Slice) → List (List ℕ × Hidden)
    → Type 0
IsSide b xs us ys vs = (ys ≡ items_with b xs) × (vs ≡ items_with b us)

-- the first bit of a key, and the rest
abbrev pub IsFirstBit : List ℕ → Option (Bool × List ℕ) → Type 0
IsFirstBit k None = k ≡ []
IsFirstBit k (Some x) = k ≡ bit_number x.0 ∷ x.1

-- the one hidden part that stands in place of all keys
abbrev pub StandsAlone : List (List ℕ × Slice) → List (List ℕ × Hidden) → Option Hidden → Type 0
StandsAlone xs us (Some h) = (xs ≡ []) × (us ≡ ([], h) ∷ [])
StandsAlone xs us None = IsHiddenAlone (merged xs us) → ⊥

-- whether something is planted, or the cause against it
abbrev pub judged : {A : Type 0} → Spot → Result A Excess → Result (Unit {0}) Place
judged h (Ok x) = Ok tt
judged h (Err f) = Err (stuck h (cause_of f))
