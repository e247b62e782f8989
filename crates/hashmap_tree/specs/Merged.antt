-- Contents by key and hidden parts by prefix as one list, each content after the hidden parts before its key.
use Rattle.std.specs.Prelude.{ℕ, Bool, false, ◌&&◌, ◌||◌, if◌then◌else◌, nat_lt, nat_eq, List, [], ◌∷◌, ◌++◌}
use Rattle.cell_nodes.specs.declared.tree.Hidden.{Hidden}
use Rattle.hashmap_tree.specs.Entries.{Slice, leaf, hidden, Entries}

-- whether the first key stands before the second, as `Before` of `Order` says
abbrev pub is_before : List ℕ → List ℕ → Bool
is_before [] b = false
is_before (x ∷ a) [] = false
is_before (x ∷ a) (y ∷ b) = nat_lt x y || (nat_eq x y && is_before a b)

-- hidden parts as entries
abbrev pub hidden_parts : List (List ℕ × Hidden) → Entries
hidden_parts [] = []
hidden_parts (u ∷ us) = (u.0, hidden u.1) ∷ hidden_parts us

-- the first of them, which stand before the key, and the rest
abbrev pub those_before : List ℕ → List (List ℕ × Hidden) → List (List ℕ × Hidden)
those_before k [] = []
those_before k (u ∷ us) = if is_before u.0 k then u ∷ those_before k us else []

abbrev pub those_after : List ℕ → List (List ℕ × Hidden) → List (List ℕ × Hidden)
those_after k [] = []
those_after k (u ∷ us) = if is_before u.0 k then those_after k us else u ∷ us

abbrev pub merged : List (List ℕ × Slice) → List (List ℕ × Hidden) → Entries
merged [] us = hidden_parts us
merged (x ∷ xs) us = hidden_parts (those_before x.0 us) ++ (x.0, leaf x.1) ∷ merged xs (those_after x.0 us)
