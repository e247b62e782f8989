-- What the laws say: facts about the definitions alone.
use Rattle.std.specs.Prelude.{ℕ, ◌≡◌, ◌↔◌, true, Some, None}
use Rattle.nat_solver.specs.Number.{Expr, Exceeds, first_lacking, number, parts}
use Rattle.core_form.specs.Core.{Constructor}
use Rattle.core_form.specs.Closed.{ClosedArgs}
use Rattle.core_form.specs.Scope.{Scope, value_in}
use Rattle.core_form.specs.Determined.{Known, AreSet, is_valued}
use Rattle.core_form.specs.Fit.{Fits, fit}

-- the two forms in which a constructor fits arguments are one
abbrev pub FitsAgree : Type 0
FitsAgree = (c : Constructor) (args : ClosedArgs) (scope : Scope) → Fits c args scope ↔ (fit c args ≡ Some scope)

-- where each known slot is set, a number all of whose variables are known is there, however large
abbrev pub ValuedIsThere : Type 0
ValuedIsThere =
    (k : Known) (e : Expr) (scope : Scope) → AreSet k scope → is_valued k e ≡ true
    → (n : ℕ) × (number e scope.numbers ≡ Some n)

-- and it has no value only where a part of it, or it itself, exceeds 2^32 - 1
abbrev pub NoneIsLarge : Type 0
NoneIsLarge =
    (k : Known) (e : Expr) (scope : Scope) → AreSet k scope → is_valued k e ≡ true → value_in e scope ≡ None
    → Exceeds (first_lacking (parts e) scope.numbers) scope.numbers
