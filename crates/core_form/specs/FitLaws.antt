-- The two forms in which a constructor fits arguments.
use Rattle.std.proofs.Common.{◌≡◌, ℕ, ◌-◌, ◌≤◌, List, [], ◌∷◌, Option, Some, None, refl, sym, ap}
use Rattle.std.proofs.Common.{◌∙◌, subst, arith, inl, inr}
use Rattle.std.proofs.lemmas.Bool.{cases_lt, cond-true, cond-false, eq-eqb, lt-ltb, le-ltb}
use Rattle.std.proofs.lemmas.Option.{cond_some}
use Rattle.std.proofs.lemmas.Bool.{eqb-true}
use Rattle.std.specs.Prelude.{nat_eq, nat_lt}
use Rattle.nat_solver.specs.Pattern as patterns
use Rattle.nat_solver.specs.declared.pattern.Pattern.{Pattern}
use Rattle.nat_solver.specs.declared.pattern.Pattern.TheVariants.{Lit, Var, Plus}
use Rattle.core_form.specs.Core.{Input, number, type}
use Rattle.core_form.specs.Closed.{ClosedArgs, no_args, nat_arg, ty_arg}
use Rattle.core_form.specs.Scope.{Scope, with_number, with_type}
use Rattle.core_form.specs.Fit.{with_pattern, InputsFit, onward, meet, meet_all}
use Rattle.core_form.specs.Laws.{FitsAgree}

-- what a pattern meets, it meets in one way
pub met : (p : Pattern) (n y : ℕ) (scope : Scope) → patterns.Fits p n y → meet p n scope ≡ Some (with_pattern p y scope)
met (Lit m) n y scope f = cond-true (nat_eq n m) _ _ (eq-eqb n m f.0)
met (Var v) n y scope f = ap (λ x. Some (with_number v x scope)) f
met (Plus v k) n y scope f =
    let low : k ≤ n = omega (arith, f) in
    let e : n - k ≡ y = omega (arith, f) in
    cond-false (nat_lt n k) _ _ (le-ltb n k low) ∙ ap (λ x. Some (with_number v x scope)) e

pub meets : (p : Pattern) (n : ℕ) (scope next : Scope) → meet p n scope ≡ Some next
    → (y : ℕ) × patterns.Fits p n y × (next ≡ with_pattern p y scope)
meets (Lit m) n scope next e =
    let p = cond_some (nat_eq n m) scope next e in
    (m, (eqb-true n m p.0, refl), sym p.1)
meets (Var v) n scope next e = let s : with_number v n scope ≡ next = cc in (n, refl, sym s)
meets (Plus v k) n scope next e =
    elim (cases_lt n k) [
      | inl h ↦ let none : meet (Plus v k) n scope ≡ None = cond-true (nat_lt n k) _ _ (lt-ltb n k h) in
          let bad : None ≡ Some next = sym none ∙ e in cc
      | inr h ↦ let some : meet (Plus v k) n scope ≡ Some (with_number v (n - k) scope) = cond-false (nat_lt n k) _ _
          (le-ltb n k h) in
          let both : Some (with_number v (n - k) scope) ≡ Some next = sym some ∙ e in
          let s : with_number v (n - k) scope ≡ next = cc in (n - k, omega (arith, h), sym s)
    ]

pub inputs_met : (inputs : List Input) (args : ClosedArgs) (scope end : Scope) → InputsFit inputs args scope end
    → meet_all inputs args scope ≡ Some end
inputs_met [] no_args scope end f = ap Some (sym f)
inputs_met [] (nat_arg n args) scope end f = absurd f
inputs_met [] (ty_arg t args) scope end f = absurd f
inputs_met (number p ∷ inputs) no_args scope end f = absurd f
inputs_met (number p ∷ inputs) (nat_arg n args) scope end f =
    ap (λ o. onward o (λ next. meet_all inputs args next)) (met p n f.0 scope f.1)
    ∙ inputs_met inputs args (with_pattern p f.0 scope) end f.2
inputs_met (number p ∷ inputs) (ty_arg t args) scope end f = absurd f
inputs_met (type v ∷ inputs) no_args scope end f = absurd f
inputs_met (type v ∷ inputs) (nat_arg n args) scope end f = absurd f
inputs_met (type v ∷ inputs) (ty_arg t args) scope end f = inputs_met inputs args (with_type v t scope) end f

pub inputs_fit : (inputs : List Input) (args : ClosedArgs) (scope end : Scope) → meet_all inputs args scope ≡ Some end
    → InputsFit inputs args scope end
inputs_fit [] no_args scope end e = let s : scope ≡ end = cc in sym s
inputs_fit [] (nat_arg n args) scope end e = cc
inputs_fit [] (ty_arg t args) scope end e = cc
inputs_fit (number p ∷ inputs) no_args scope end e = cc
inputs_fit (number p ∷ inputs) (nat_arg n args) scope end e =
    step (meet p n scope) refl e (λ next. inputs_fit inputs args next end)
  where
    step : (o : Option Scope) → meet p n scope ≡ o → onward o (λ next. meet_all inputs args next) ≡ Some end
        → ((next : Scope) → meet_all inputs args next ≡ Some end → InputsFit inputs args next end)
        → InputsFit (number p ∷ inputs) (nat_arg n args) scope end
    step None is h rest = cc
    step (Some next) is h rest =
        let m = meets p n scope next is in
        let P : Scope → Type 0 = λ s. InputsFit inputs args s end in
        (m.0, m.1, subst P m.2 (rest next h))
inputs_fit (number p ∷ inputs) (ty_arg t args) scope end e = cc
inputs_fit (type v ∷ inputs) no_args scope end e = cc
inputs_fit (type v ∷ inputs) (nat_arg n args) scope end e = cc
inputs_fit (type v ∷ inputs) (ty_arg t args) scope end e = inputs_fit inputs args (with_type v t scope) end e

pub fits_agree : FitsAgree
fits_agree c args scope =
    (λ f. inputs_met c.inputs args _ scope f, λ e. inputs_fit c.inputs args _ scope e)
