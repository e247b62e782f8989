-- The keys of the message's dictionary, drawn from their number. This project's own.
use Rattle.std.specs.Prelude.{ℕ, zero, suc, ◌+◌, ◌*◌, ◌%◌, ◌^◌, List, [], ◌∷◌, if◌then◌else◌, nat_le}

-- the number that is drawn after this one; the step has the full period, so 2^32 draws differ
abbrev pub drawn_next : ℕ → ℕ
drawn_next x = (1103515245 * x + 12345) % 2 ^ 32

-- so many, drawn one from the other
abbrev pub drawn_after : ℕ → ℕ → List ℕ
drawn_after x zero = []
drawn_after x (suc count) = drawn_next x ∷ drawn_after (drawn_next x) count

-- the first is drawn from how many they are
abbrev pub drawn : ℕ → List ℕ
drawn count = drawn_after count count

-- a number put before the first that is no less
abbrev pub put_in : ℕ → List ℕ → List ℕ
put_in x [] = x ∷ []
put_in x (y ∷ ys) = if nat_le x y then x ∷ y ∷ ys else y ∷ put_in x ys

-- the same numbers in increasing order
abbrev pub in_order : List ℕ → List ℕ
in_order [] = []
in_order (x ∷ xs) = put_in x (in_order xs)
