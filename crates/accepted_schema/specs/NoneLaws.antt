-- Two lists whose join has no element have none.
use Rattle.std.proofs.Common.{◌≡◌, ap, refl, arith, List, [], ◌∷◌, ◌++◌, length}

pub record BothNone {X : Type 0} (xs ys : List X) : Type 0 where
  pub first : xs ≡ []
  pub second : ys ≡ []

pub both_none : {X : Type 0} (xs ys : List X) → xs ++ ys ≡ [] → BothNone xs ys
both_none [] ys e = record { first = refl; second = e }
both_none (x ∷ xs) ys e = absurd (omega (arith, ap length e))
