-- Slots are bound one by one.
use Rattle.std.proofs.Common.{◌≡◌, ℕ, List, [], ◌∷◌, refl}
use Rattle.core_form.specs.Scope.{Scope, bind}

-- without outputs nothing is set
pub bind_nothing : (vs : List ℕ) (scope : Scope) → bind vs [] scope ≡ scope
bind_nothing [] scope = refl
bind_nothing (v ∷ vs) scope = refl
