-- Patterns of a type's number parameters.
-- Source: the TON documentation on the TL-B language (implicit fields and parameters of a result).
use Rattle.std.specs.Prelude.{ℕ, ◌≡◌, ◌+◌, ◌^◌, ◌<◌}
use Rattle.nat_solver.specs.declared.pattern.Pattern.{Pattern}
use Rattle.nat_solver.specs.declared.pattern.Pattern.TheVariants.{Lit, Var, Plus}

-- The pattern meets the number x and gives y: a literal gives the number that equals it, a variable
-- takes the number, and `v + k` takes the number less k.
abbrev pub Fits : Pattern → ℕ → ℕ → Type 0
Fits (Lit n) x y = (x ≡ n) × (y ≡ n)
Fits (Var v) x y = x ≡ y
Fits (Plus v k) x y = x ≡ y + k

-- no number up to 2^32 - 1 meets both patterns
abbrev pub Exclude : Pattern → Pattern → Type 0
Exclude p q = (x y z : ℕ) → x < 2 ^ 32 → Fits p x y → Fits q x z → ⊥

-- the least number that meets the pattern
abbrev pub least : Pattern → ℕ
least (Lit n) = n
least (Var v) = 0
least (Plus v k) = k
