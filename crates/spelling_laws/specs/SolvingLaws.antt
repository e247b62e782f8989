-- The number that the plain reader finds for an unknown is the one that solves the equation.
use Rattle.std.proofs.Common.{◌≡◌, ℕ, ◌++◌, Option, Some, None, Result, Ok, Err, refl, sym, ap, ◌∙◌}
use Rattle.nat_solver.specs.Number.{Expr, lit, var, sought, plus, times, Numbers, OneUnknown, Solves, first_lacking, parts, number_at, refused_variable, refusal, solution}
use Rattle.nat_solver.specs.SolutionLaws.{solution_complete, solution_solves, solution_first, solution_none, refused_unsolved}
use Rattle.nat_solver.specs.declared.evaluate.NatError.{NatError}
use Rattle.spelling.specs.PlainReader.{why_unsolved, sought_or, sought_number}
use Rattle.spelling.specs.declared.Cause.{Cause}
use Rattle.spelling.specs.declared.Cause.TheVariants.{Overflow, NoSolution}

pub sought_sound : (a b : Expr) (env : Numbers) (x : ℕ) → sought_number a b env ≡ Ok x → Solves a b env x
sought_sound a b env x e = solution_solves a b env x (given (solution a b env) e)
  where
    given : (r : Result ℕ NatError) → sought_or r ≡ Ok x → r ≡ Ok x
    given (Ok y) e = let same : y ≡ x = cc in ap Ok same
    given (Err f) e = cc

pub sought_complete : (a b : Expr) (env : Numbers) (v x : ℕ) → OneUnknown a b v → Solves a b env x
    → sought_number a b env ≡ Ok x
sought_complete a b env v x one s = ap sought_or (solution_complete a b env v x one s)

-- why there is none
pub data Unsolved (a b : Expr) (env : Numbers) (w : Cause) : Type 0 where
  lacking : (e : Expr) → first_lacking (parts a ++ parts b) env ≡ Some e → w ≡ Overflow → Unsolved a b env w
  unsolved : first_lacking (parts a ++ parts b) env ≡ None → ((x : ℕ) → Solves a b env x → ⊥) → w ≡ NoSolution
      → Unsolved a b env w

why_variable : (v : ℕ) (o : Option ℕ) → why_unsolved (refused_variable v o) ≡ Overflow
why_variable v None = refl
why_variable v (Some n) = refl

why_refusal : (e : Expr) (env : Numbers) → why_unsolved (refusal (Some e) env) ≡ Overflow
why_refusal (lit n) env = refl
why_refusal (var v) env = why_variable v (number_at env v)
why_refusal (sought v) env = refl
why_refusal (plus a b) env = refl
why_refusal (times k a) env = refl

err_same : (v w : Cause) → (◌≡◌ {A = Result ℕ Cause} (Err v) (Err w)) → w ≡ v
err_same v w e = cc

pub sought_refused : (a b : Expr) (env : Numbers) (v : ℕ) (w : Cause) → OneUnknown a b v → sought_number a b env ≡ Err w
    → Unsolved a b env w
sought_refused a b env v w one e = go (first_lacking (parts a ++ parts b) env) refl
  where
    refused : (r : Result ℕ NatError) → sought_or r ≡ Err w → (f : NatError) × (r ≡ Err f)
    refused (Ok y) e = cc
    refused (Err f) e = (f, refl)

    go : (o : Option Expr) → first_lacking (parts a ++ parts b) env ≡ o → Unsolved a b env w
    go (Some f) is = lacking f is (err_same _ w (sym (ap sought_or (solution_first a b env f is)) ∙ e) ∙ why_refusal f env)
    go None is =
        let r = refused (solution a b env) e in
        let not : (x : ℕ) → Solves a b env x → ⊥ = λ x s. refused_unsolved a b env v x r.0 one r.1 s in
        unsolved is not (err_same _ w (sym (ap sought_or (solution_none a b env is not)) ∙ e))

pub sought_stands : (a b : Expr) (env : Numbers) (w : Cause) → Unsolved a b env w → sought_number a b env ≡ Err w
sought_stands a b env w (lacking e is same) =
    ap sought_or (solution_first a b env e is) ∙ ap Err (why_refusal e env ∙ sym same)
sought_stands a b env w (unsolved is not same) = ap sought_or (solution_none a b env is not) ∙ ap Err (sym same)
