-- Least sets by rounds: round 0 is empty, and each later round is one use of the rules on the round before.
use Rattle.std.specs.Prelude.{ℕ, zero, suc, ◌≡◌, Bool, true, false}

-- a set, as the test of what is in it
abbrev pub Test : Type 0 → Type 0
Test A = A → Bool

abbrev pub nothing : {A : Type 0} → Test A
nothing x = false

abbrev pub round : {A : Type 0} → (Test A → Test A) → ℕ → Test A
round rules zero = nothing
round rules (suc n) = rules (round rules n)

-- one set is a part of another
abbrev pub IsPart : {A : Type 0} → Test A → Test A → Type 0
IsPart {A} p q = (x : A) → p x ≡ true → q x ≡ true
