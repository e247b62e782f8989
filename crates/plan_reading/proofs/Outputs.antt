-- Outputs one by one.
use Rattle.std.proofs.Common.{◌≡◌, ℕ, List, [], ◌∷◌, ◌++◌, Option, Some, None, refl, ap, append_assoc}
use Rattle.core_form.specs.Scope.{and_value}

-- the numbers after these, where there are any
abbrev pub after : List ℕ → Option (List ℕ) → Option (List ℕ)
after ns (Some more) = Some (ns ++ more)
after ns None = None

pub after_one : (ns : List ℕ) (n : ℕ) (more : Option (List ℕ)) → after (ns ++ n ∷ []) more ≡ after ns (and_value (Some n) more)
after_one ns n (Some more) = ap Some (append_assoc ns (n ∷ []) more)
after_one ns n None = refl

pub after_none : (more : Option (List ℕ)) → after [] more ≡ more
after_none (Some more) = refl
after_none None = refl
