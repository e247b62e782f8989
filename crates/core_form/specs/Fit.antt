-- When a constructor fits the arguments of its type.
-- Source: the TON documentation on the TL-B language (parameters of a result).
use Rattle.std.specs.Prelude.{ℕ, ◌-◌, ◌≡◌, List, [], ◌∷◌, Option, Some, None, nat_eq, nat_lt, if◌then◌else◌}
use Rattle.nat_solver.specs.Pattern as patterns
use Rattle.nat_solver.specs.declared.pattern.Pattern.{Pattern}
use Rattle.nat_solver.specs.declared.pattern.Pattern.TheVariants.{Lit, Var, Plus}
use Rattle.core_form.specs.Core.{Input, Constructor, number, type}
use Rattle.core_form.specs.Closed.{ClosedArgs, no_args, nat_arg, ty_arg}
use Rattle.core_form.specs.Scope.{Scope, unset, with_number, with_type}

-- ---- as a relation

-- what a pattern binds where it gives this number
abbrev pub with_pattern : Pattern → ℕ → Scope → Scope
with_pattern (Lit n) y scope = scope
with_pattern (Var v) y scope = with_number v y scope
with_pattern (Plus v k) y scope = with_number v y scope

-- each input meets its argument; from this scope to that
abbrev pub InputsFit : List Input → ClosedArgs → Scope → Scope → Type 0
InputsFit [] no_args scope end = end ≡ scope
InputsFit (number p ∷ inputs) (nat_arg n args) scope end =
    (y : ℕ) × patterns.Fits p n y × InputsFit inputs args (with_pattern p y scope) end
InputsFit (type v ∷ inputs) (ty_arg t args) scope end = InputsFit inputs args (with_type v t scope) end
InputsFit _ _ scope end = ⊥

-- the constructor fits the arguments, and the scope has just what its inputs bind
abbrev pub Fits : Constructor → ClosedArgs → Scope → Type 0
Fits c args scope = InputsFit c.inputs args (unset c.slots) scope

-- ---- as a function

abbrev pub onward : Option Scope → (Scope → Option Scope) → Option Scope
onward None next = None
onward (Some scope) next = next scope

-- a literal equals the argument, a variable takes it, and `v + k` takes the argument less k
abbrev pub meet : Pattern → ℕ → Scope → Option Scope
meet (Lit n) m scope = if nat_eq m n then Some scope else None
meet (Var v) m scope = Some (with_number v m scope)
meet (Plus v k) m scope = if nat_lt m k then None else Some (with_number v (m - k) scope)

abbrev pub meet_all : List Input → ClosedArgs → Scope → Option Scope
meet_all [] no_args scope = Some scope
meet_all (number p ∷ inputs) (nat_arg m args) scope = onward (meet p m scope) (λ next. meet_all inputs args next)
meet_all (type v ∷ inputs) (ty_arg t args) scope = meet_all inputs args (with_type v t scope)
meet_all _ _ scope = None

-- what the inputs of the constructor bind, if it fits the arguments
abbrev pub fit : Constructor → ClosedArgs → Option Scope
fit c args = meet_all c.inputs args (unset c.slots)
