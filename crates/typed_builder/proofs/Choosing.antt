-- The constructor of a name, by what the plan says of it.
use Rattle.std.proofs.Common.{◌≡◌, ℕ, zero, suc, ◌<◌, length, Bool, true, false, cond, ◌&&◌, List, [], ◌∷◌, Option}
use Rattle.std.proofs.Common.{Some, None, IsSome, refl, sym, ap, ◌∙◌, slice_get, arith, is_some}
use Rattle.std.specs.Prelude.{bytes_eq}
use Rattle.std.proofs.lemmas.Slice.Eq.{bytes_eq-Decides}
use Rattle.core_form.specs.Closed.{ClosedArgs}
use Rattle.core_form.specs.Core.{CoreSchema, Declaration, Word}
use Rattle.core_form.specs.Fit.{fit}
use Rattle.core_form.specs.Scope.{Scope}
use Rattle.spelling.specs.PlainReader.{Choice, first}
use Rattle.building.specs.PlainBuilder.{candidate, choose}
use Rattle.field_plan.specs.Choosing.{IsNamed}
use Rattle.typed_builder.proofs.Planned.{some_of, some_there}

-- a declaration that isn't named so is no candidate
no_candidate : (x name : Word) (args : ClosedArgs) (d : Declaration) → (IsNamed x args name d → ⊥)
    → candidate x name args d ≡ None
no_candidate x name args d f = go (bytes_eq d.of_type x) (bytes_eq d.shown name) (fit d.core args) refl refl refl
  where
    go : (s t : Bool) (o : Option Scope) → bytes_eq d.of_type x ≡ s → bytes_eq d.shown name ≡ t → fit d.core args ≡ o
        → cond (s && t) o None ≡ None
    go false t o e g k = refl
    go true false o e g k = refl
    go true true None e g k = refl
    go true true (Some z) e g k = absurd (f (record {
      of_type = (bytes_eq-Decides d.of_type x).0 e;
      shown = (bytes_eq-Decides d.shown name).0 g;
      fits = some k;
    }))
      where
        some : {o : Option Scope} {z : Scope} → o ≡ Some z → IsSome o
        some e = ap is_some e

is_candidate : (x name : Word) (args : ClosedArgs) (d : Declaration) (scope : Scope) → IsNamed x args name d
    → fit d.core args ≡ Some scope → candidate x name args d ≡ Some scope
is_candidate x name args d scope n e =
    let a = (bytes_eq-Decides d.of_type x).1 n.of_type in
    let b = (bytes_eq-Decides d.shown name).1 n.shown in
    (λ i. cond (a i && b i) (fit d.core args) None) ∙ e

pub chooses_none : (s : CoreSchema) (x name : Word) (args : ClosedArgs)
    → ((c : ℕ) (d : Declaration) → slice_get s c ≡ Some d → IsNamed x args name d → ⊥) → choose s x name args ≡ None
chooses_none [] x name args f = refl
chooses_none (d ∷ ds) x name args f =
    (λ i. first d (no_candidate x name args d (λ n. f 0 d refl n) i)
    (chooses_none ds x name args (λ c e there n. f (suc c) e there n) i))

pub chooses_one : (s : CoreSchema) (x name : Word) (args : ClosedArgs) (c : ℕ) (d : Declaration) (scope : Scope)
    → slice_get s c ≡ Some d → IsNamed x args name d → fit d.core args ≡ Some scope
    → ((e : ℕ) (o : Declaration) → slice_get s e ≡ Some o → IsNamed x args name o → e ≡ c)
    → choose s x name args ≡ Some (d, scope)
chooses_one [] x name args c d scope there n e only = absurd (grind arith)
chooses_one (o ∷ os) x name args zero d scope there n e only =
    let same : o ≡ d = cc in
    let k = is_candidate x name args d scope n e in
    (λ i. first (same i) (candidate x name args (same i)) (choose os x name args))
    ∙ ap (λ z. first d z (choose os x name args)) k
chooses_one (o ∷ os) x name args (suc c) d scope there n e only =
    let not : IsNamed x args name o → ⊥ = λ m. let z = only 0 o refl m in absurd (omega (arith, z)) in
    ap (λ z. first o z (choose os x name args)) (no_candidate x name args o not)
    ∙ chooses_one os x name args c d scope there n e (λ k p at m. let z = only (suc k) p at m in omega (arith, z))

-- ---- by what a plan's look-up says

pub named_none : (s : CoreSchema) (x name : Word) (args : ClosedArgs)
    → ((c : ℕ) (d : Declaration) → slice_get s c ≡ Some d → IsNamed x args name d → (◌≡◌ {A = Option ℕ} None (Some c)))
    → choose s x name args ≡ None
named_none s x name args only = chooses_none s x name args (λ c d at n. (let wrong = only c d at n in cc))

number_same : (c e : ℕ) → (◌≡◌ {A = Option ℕ} (Some c) (Some e)) → e ≡ c
number_same c e h = cc

-- the constructor of this number, and what its inputs bind
pub record Chosen (s : CoreSchema) (x name : Word) (args : ClosedArgs) (c : ℕ) : Type 0 where
  pub declaration : Declaration
  pub scope : Scope
  pub there : slice_get s c ≡ Some declaration
  pub fits : fit declaration.core args ≡ Some scope
  pub named : IsNamed x args name declaration
  pub is : choose s x name args ≡ Some (declaration, scope)

pub chosen_at : (s : CoreSchema) (x name : Word) (args : ClosedArgs) (c : ℕ) → c < length s
    → ((e : ℕ) (d : Declaration) → slice_get s e ≡ Some d → (◌≡◌ {A = Option ℕ} (Some c) (Some e)) → IsNamed x args name
    d)
    → ((e : ℕ) (d : Declaration) → slice_get s e ≡ Some d → IsNamed x args name d
    → (◌≡◌ {A = Option ℕ} (Some c) (Some e)))
    → Chosen s x name args c
chosen_at s x name args c below named only =
    let d = some_there s c below in
    let n = named c d.0 d.1 refl in
    let o = some_of (fit d.0.core args) n.fits in
    record {
      declaration = d.0;
      scope = o.0;
      there = d.1;
      fits = o.1;
      named = n;
      is = chooses_one s x name args c d.0 o.0 d.1 n o.1 (λ e p at m. number_same c e (only e p at m));
    }
