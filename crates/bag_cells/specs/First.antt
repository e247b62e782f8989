-- The first of several refusals.
use Rattle.std.specs.Prelude.{ℕ, zero, suc, Option, Some, None, List, [], ◌∷◌}

abbrev pub or_else : {E : Type 0} → Option E → Option E → Option E
or_else (Some e) other = Some e
or_else None other = other

-- the first of the list
abbrev pub first_of : {E : Type 0} → List (Option E) → Option E
first_of [] = None
first_of (row ∷ rows) = or_else row (first_of rows)

-- the first of row 0, row 1, .., row n - 1
unfoldable pub first_before : {E : Type 0} → (ℕ → Option E) → ℕ → Option E
first_before row zero = None
first_before row (suc n) = or_else (first_before row n) (row n)

-- the first of row n - 1, .., row 1, row 0
unfoldable pub last_before : {E : Type 0} → (ℕ → Option E) → ℕ → Option E
last_before row zero = None
last_before row (suc n) = or_else (row n) (last_before row n)
