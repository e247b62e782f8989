-- Outputs of a result, as numbers of expressions.
use Rattle.std.specs.Prelude.{ℕ, ◌≡◌, List, All, map, Option, option_to_list}
use Rattle.nat_solver.specs.Number.{Expr}
use Rattle.flat_form.specs.declared.lists.Flat.{Flat}
use Rattle.flat_form.specs.Stands.{expr_at}
use Rattle.flat_form.specs.Sound.{IsPlainNumber}

-- they are plain numbers of the lists, and stand for these
pub record AreOutputs (f : Flat) (numbers : List ℕ) (outputs : List Expr) : Type 0 where
  pub plain : All (IsPlainNumber f) numbers
  pub stand : map (expr_at f) numbers ≡ outputs

abbrev pub IsOutput : Flat → Option ℕ → List Expr → Type 0
IsOutput f number outputs = AreOutputs f (option_to_list number) outputs
