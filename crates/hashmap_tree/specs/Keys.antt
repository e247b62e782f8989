-- Where two keys part.
use Rattle.std.specs.Prelude.{◌≡◌, ◌≢◌, ℕ, ◌<◌, ◌≤◌, List, [], ◌∷◌, length, take, slice_index, Option, Some, None}
use Rattle.bit_slice.specs.Bits.{AreBits}
use Rattle.hashmap_tree.specs.Entries.{Part, Entries}
use Rattle.hashmap_tree.specs.Order.{Before, MayStand, AreInOrder}

-- the keys have their first r bits in common, and there they differ or one of them ends
pub record Shares (a b : List ℕ) (r : ℕ) : Type 0 where
  pub within_first : r ≤ length a
  pub within_second : r ≤ length b
  pub same : take r a ≡ take r b
  pub differ : r < length a → r < length b → slice_index a r ≢ slice_index b r

-- the keys have as many bits, and the same ones
abbrev pub BeginTogether : ℕ → List ℕ → List ℕ → Type 0
BeginTogether m a b = (m ≤ length a) × (m ≤ length b) × (take m a ≡ take m b)

-- the key stands after the one before it, if there is one
abbrev pub IsAfter : Option (List ℕ) → List ℕ → Type 0
IsAfter None k = Unit {0}
IsAfter (Some b) k = Before b k

-- the entries go on in order after a key
abbrev pub GoOn : ℕ → Option (List ℕ) → Entries → Type 0
GoOn n b [] = Unit {0}
GoOn n b (e ∷ es) = IsAfter b e.0 × AreInOrder n (e ∷ es)

-- the next entry after a key
abbrev pub MayFollow : ℕ → Option (List ℕ) → List ℕ × Part → Type 0
MayFollow n b e = IsAfter b e.0 × MayStand n e.0 e.1 × AreBits e.0
