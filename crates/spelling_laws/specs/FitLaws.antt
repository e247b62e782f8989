-- The function that fits a constructor to arguments, and the relation.
use Rattle.std.proofs.Common.{◌≡◌, ℕ, ◌-◌, Bool, true, false, cond, List, [], ◌∷◌, Option, Some, None, refl, sym, ap, ◌∙◌, subst, arith, nat_lt, nat_eq}
use Rattle.std.proofs.lemmas.Bool.{eqb-true, eq-eqb, ltb-false, le-ltb}
use Rattle.nat_solver.specs.Pattern as patterns
use Rattle.nat_solver.specs.declared.pattern.Pattern.{Pattern}
use Rattle.nat_solver.specs.declared.pattern.Pattern.TheVariants.{Lit, Var, Plus}
use Rattle.core_form.specs.Core.{Input, Constructor, number, type}
use Rattle.core_form.specs.Closed.{ClosedArgs, no_args, nat_arg, ty_arg}
use Rattle.core_form.specs.Scope.{Scope, unset, with_number, with_type}
use Rattle.core_form.specs.Fit.{with_pattern, InputsFit, Fits, onward, meet, meet_all, fit}
use Rattle.spelling_laws.specs.StepLaws.{when_true, when_false}

some_one : {A : Type 0} (x y : A) → (◌≡◌ {A = Option A} (Some x) (Some y)) → x ≡ y
some_one x y e = cc

meet_sound : (p : Pattern) (m : ℕ) (scope next : Scope) → meet p m scope ≡ Some next
    → (y : ℕ) × patterns.Fits p m y × (with_pattern p y scope ≡ next)
meet_sound (Lit n) m scope next e = go (nat_eq m n) refl e
  where
    go : (b : Bool) → nat_eq m n ≡ b → cond b (Some scope) None ≡ Some next
        → (y : ℕ) × patterns.Fits (Lit n) m y × (with_pattern (Lit n) y scope ≡ next)
    go true h e = (n, (eqb-true m n h, refl), some_one scope next e)
    go false h e = cc
meet_sound (Var v) m scope next e = (m, refl, some_one _ _ e)
meet_sound (Plus v k) m scope next e = go (nat_lt m k) refl e
  where
    go : (b : Bool) → nat_lt m k ≡ b → cond b None (Some (with_number v (m - k) scope)) ≡ Some next
        → (y : ℕ) × patterns.Fits (Plus v k) m y × (with_pattern (Plus v k) y scope ≡ next)
    go true h e = cc
    go false h e = (m - k, (let l = ltb-false m k h in omega (arith, l)), some_one _ _ e)

meet_complete : (p : Pattern) (m y : ℕ) (scope : Scope) → patterns.Fits p m y
    → meet p m scope ≡ Some (with_pattern p y scope)
meet_complete (Lit n) m y scope e = when_true (nat_eq m n) _ _ (eq-eqb m n e.0)
meet_complete (Var v) m y scope e = ap (λ z. Some (with_number v z scope)) e
meet_complete (Plus v k) m y scope e =
    let same : m - k ≡ y = omega (arith, e) in
    when_false (nat_lt m k) _ _ (le-ltb m k (omega (arith, e))) ∙ ap (λ z. Some (with_number v z scope)) same

onward_some : (o : Option Scope) (next : Scope → Option Scope) (end : Scope) → onward o next ≡ Some end
    → (scope : Scope) × (o ≡ Some scope) × (next scope ≡ Some end)
onward_some None next end e = cc
onward_some (Some scope) next end e = (scope, refl, e)

inputs_sound : (inputs : List Input) (args : ClosedArgs) (scope end : Scope) → meet_all inputs args scope ≡ Some end
    → InputsFit inputs args scope end
inputs_sound [] no_args scope end e = sym (some_one scope end e)
inputs_sound [] (nat_arg m args) scope end e = cc
inputs_sound [] (ty_arg t args) scope end e = cc
inputs_sound (number p ∷ inputs) no_args scope end e = cc
inputs_sound (number p ∷ inputs) (ty_arg t args) scope end e = cc
inputs_sound (number p ∷ inputs) (nat_arg m args) scope end e =
    let a = onward_some (meet p m scope) (λ next. meet_all inputs args next) end e in
    let r = meet_sound p m scope a.0 a.1 in
    let P : Scope → Type 0 = λ z. InputsFit inputs args z end in
    (r.0, r.1, subst P (sym r.2) (inputs_sound inputs args a.0 end a.2))
inputs_sound (type v ∷ inputs) no_args scope end e = cc
inputs_sound (type v ∷ inputs) (nat_arg m args) scope end e = cc
inputs_sound (type v ∷ inputs) (ty_arg t args) scope end e = inputs_sound inputs args (with_type v t scope) end e

inputs_complete : (inputs : List Input) (args : ClosedArgs) (scope end : Scope) → InputsFit inputs args scope end
    → meet_all inputs args scope ≡ Some end
inputs_complete [] no_args scope end f = ap Some (sym f)
inputs_complete [] (nat_arg m args) scope end f = absurd f
inputs_complete [] (ty_arg t args) scope end f = absurd f
inputs_complete (number p ∷ inputs) no_args scope end f = absurd f
inputs_complete (number p ∷ inputs) (ty_arg t args) scope end f = absurd f
inputs_complete (number p ∷ inputs) (nat_arg m args) scope end f =
    ap (λ o. onward o (λ next. meet_all inputs args next)) (meet_complete p m f.0 scope f.1)
    ∙ inputs_complete inputs args (with_pattern p f.0 scope) end f.2
inputs_complete (type v ∷ inputs) no_args scope end f = absurd f
inputs_complete (type v ∷ inputs) (nat_arg m args) scope end f = absurd f
inputs_complete (type v ∷ inputs) (ty_arg t args) scope end f = inputs_complete inputs args (with_type v t scope) end f

pub fit_sound : (c : Constructor) (args : ClosedArgs) (scope : Scope) → fit c args ≡ Some scope → Fits c args scope
fit_sound c args scope e = inputs_sound c.inputs args (unset c.slots) scope e

pub fit_complete : (c : Constructor) (args : ClosedArgs) (scope : Scope) → Fits c args scope → fit c args ≡ Some scope
fit_complete c args scope f = inputs_complete c.inputs args (unset c.slots) scope f
