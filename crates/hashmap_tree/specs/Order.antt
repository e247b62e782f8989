-- Entries in the order of bits.
use Rattle.std.specs.Prelude.{◌≡◌, ◌⊎◌, ℕ, ◌<◌, ◌≤◌, List, [], ◌∷◌, length}
use Rattle.bit_slice.specs.Bits.{AreBits}
use Rattle.hashmap_tree.specs.Entries.{Slice, Part, leaf, hidden, Entries}

-- a key stands before another: at the first bit in which they differ it has the 0
abbrev pub Before : List ℕ → List ℕ → Type 0
Before [] b = ⊥
Before (x ∷ a) [] = ⊥
Before (x ∷ a) (y ∷ b) = (x < y) ⊎ ((x ≡ y) × Before a b)

-- pairs in strict order, with keys of n bits
abbrev pub InOrder : ℕ → List (List ℕ × Slice) → Type 0
InOrder n [] = Unit {0}
InOrder n (x ∷ []) = (length x.0 ≡ n) × AreBits x.0
InOrder n (x ∷ y ∷ xs) = (length x.0 ≡ n) × AreBits x.0 × Before x.0 y.0 × InOrder n (y ∷ xs)

-- pairs as entries
abbrev pub leaves : List (List ℕ × Slice) → Entries
leaves [] = []
leaves (x ∷ xs) = (x.0, leaf x.1) ∷ leaves xs

-- ---- contents and hidden parts together

-- what may stand there: a content at a key of n bits, a hidden part at a prefix of such keys
abbrev pub MayStand : ℕ → List ℕ → Part → Type 0
MayStand n k (leaf c) = length k ≡ n
MayStand n k (hidden h) = length k ≤ n

-- entries in strict order, none of which begins another
abbrev pub AreInOrder : ℕ → Entries → Type 0
AreInOrder n [] = Unit {0}
AreInOrder n (e ∷ []) = MayStand n e.0 e.1 × AreBits e.0
AreInOrder n (e ∷ f ∷ es) = MayStand n e.0 e.1 × AreBits e.0 × Before e.0 f.0 × AreInOrder n (f ∷ es)
