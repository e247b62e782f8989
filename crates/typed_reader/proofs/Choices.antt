-- The constructor that a plan chooses is the plain reader's.
use Rattle.std.proofs.Common.{◌≡◌, ℕ, zero, suc, ◌<◌, length, Bool, true, false, ◌&&◌, cond, List, [], ◌∷◌, Option, Some}
use Rattle.std.proofs.Common.{None, IsSome, refl, ap, sym, ◌∙◌, subst, slice_get, rules}
use Rattle.std.specs.Prelude.{bytes_eq}
use Rattle.std.proofs.lemmas.Slice.Eq.{bytes_eq-Decides}
use Rattle.core_form.specs.Closed.{ClosedArgs}
use Rattle.core_form.specs.Core.{CoreSchema, Declaration, Word}
use Rattle.core_form.specs.Fit.{fit}
use Rattle.core_form.specs.Scope.{Scope}
use Rattle.field_plan.specs.Choosing.{Enters}
use Rattle.schema_leads.specs.Leads.{leads, some_begins}
use Rattle.spelling.specs.PlainReader.{candidate, choose, first}
use Rattle.spelling_laws.specs.StepLaws.{both, both_on, when_true}
use Rattle.typed_reader.proofs.Declared.{some_of, some_there}

is_there : (scope : Scope) → IsSome (Some scope)
is_there scope = search rules

module _ (schema : CoreSchema) (x : Word) (args : ClosedArgs) (bits : List ℕ) where
  candidate_some : (c : Declaration) (scope : Scope) → Enters schema x args bits c → fit c.core args ≡ Some scope
      → candidate schema x args bits c ≡ Some scope
  candidate_some c scope e fits =
      when_true {A = Option Scope} (bytes_eq c.of_type x && some_begins (leads schema c) bits) (fit c.core args) None
      (both_on (bytes_eq c.of_type x) (some_begins (leads schema c) bits) ((bytes_eq-Decides c.of_type x).1 e.of_type) e.begins)
      ∙ fits

  candidate_none : (c : Declaration) → (Enters schema x args bits c → ⊥) → candidate schema x args bits c ≡ None
  candidate_none c out = go (bytes_eq c.of_type x && some_begins (leads schema c) bits) (fit c.core args) refl refl
    where
      go : (b : Bool) (o : Option Scope) → (bytes_eq c.of_type x && some_begins (leads schema c) bits) ≡ b
          → fit c.core args ≡ o → cond b o None ≡ None
      go false o h f = refl
      go true None h f = refl
      go true (Some scope) h f =
          let b = both (bytes_eq c.of_type x) (some_begins (leads schema c) bits) h in
          let P : Option Scope → Type 0 = λ z. IsSome z in
          let some : P (Some scope) = is_there scope in
          absurd (out (record {
            of_type = (bytes_eq-Decides c.of_type x).0 b.0;
            fits = subst P (sym f) some;
            begins = b.1;
          }))

  pub none_chosen : (cs : CoreSchema) → ((i : ℕ) (d : Declaration) → slice_get cs i ≡ Some d → Enters schema x args bits d → ⊥)
      → choose schema cs x args bits ≡ None
  none_chosen [] out = refl
  none_chosen (c ∷ cs) out =
      ap (λ o. first c o (choose schema cs x args bits)) (candidate_none c (out zero c refl))
      ∙ none_chosen cs (λ i. out (suc i))

  some_same : (c d : Declaration) → (◌≡◌ {A = Option Declaration} (Some c) (Some d)) → c ≡ d
  some_same c d e = cc

  pub one_chosen : (cs : CoreSchema) (k : ℕ) (d : Declaration) (scope : Scope) → slice_get cs k ≡ Some d
      → fit d.core args ≡ Some scope → Enters schema x args bits d
      → ((i : ℕ) (e : Declaration) → slice_get cs i ≡ Some e → Enters schema x args bits e → i ≡ k)
      → choose schema cs x args bits ≡ Some (d, scope)
  one_chosen [] k d scope there fits enters only = cc
  one_chosen (c ∷ cs) zero d scope there fits enters only =
      let same : c ≡ d = some_same c d there in
      ap (λ z. first z (candidate schema x args bits z) (choose schema cs x args bits)) same
      ∙ ap (λ o. first d o (choose schema cs x args bits)) (candidate_some d scope enters fits)
  one_chosen (c ∷ cs) (suc k) d scope there fits enters only =
      let out : Enters schema x args bits c → ⊥ = λ e. (let wrong : zero ≡ suc k = only zero c refl e in cc) in
      ap (λ o. first c o (choose schema cs x args bits)) (candidate_none c out)
      ∙ one_chosen cs k d scope there fits enters (λ i e at in_it. (let next : suc i ≡ suc k = only (suc i) e at in_it in cc))

-- by what a plan's choice tells
pub chooses_none : (schema : CoreSchema) (x : Word) (args : ClosedArgs) (bits : List ℕ)
    → ((c : ℕ) (d : Declaration) → slice_get schema c ≡ Some d → Enters schema x args bits d → (◌≡◌ {A = Option ℕ} None (Some c)))
    → choose schema schema x args bits ≡ None
chooses_none schema x args bits only = none_chosen schema x args bits schema (λ c d at e. (let wrong = only c d at e in cc))

number_same : (c e : ℕ) → (◌≡◌ {A = Option ℕ} (Some c) (Some e)) → e ≡ c
number_same c e h = cc

pub chooses_one : (schema : CoreSchema) (x : Word) (args : ClosedArgs) (bits : List ℕ) (c : ℕ) (d : Declaration) (scope : Scope)
    → slice_get schema c ≡ Some d → fit d.core args ≡ Some scope → Enters schema x args bits d
    → ((e : ℕ) (b : Declaration) → slice_get schema e ≡ Some b → Enters schema x args bits b
    → (◌≡◌ {A = Option ℕ} (Some c) (Some e)))
    → choose schema schema x args bits ≡ Some (d, scope)
chooses_one schema x args bits c d scope at fits enters only =
    one_chosen schema x args bits schema c d scope at fits enters (λ e b there in_it. number_same c e (only e b there in_it))

-- the constructor of this number, and what its inputs bind
pub record Chosen (schema : CoreSchema) (x : Word) (args : ClosedArgs) (bits : List ℕ) (c : ℕ) : Type 0 where
  pub declaration : Declaration
  pub scope : Scope
  pub there : slice_get schema c ≡ Some declaration
  pub fits : fit declaration.core args ≡ Some scope
  pub enters : Enters schema x args bits declaration
  pub is : choose schema schema x args bits ≡ Some (declaration, scope)

pub chosen_at : (schema : CoreSchema) (x : Word) (args : ClosedArgs) (prefix bits : List ℕ) (c : ℕ) → prefix ≡ bits
    → c < length schema
    → ((e : ℕ) (d : Declaration) → slice_get schema e ≡ Some d → (◌≡◌ {A = Option ℕ} (Some c) (Some e))
    → Enters schema x args prefix d)
    → ((e : ℕ) (d : Declaration) → slice_get schema e ≡ Some d → Enters schema x args prefix d
    → (◌≡◌ {A = Option ℕ} (Some c) (Some e)))
    → Chosen schema x args bits c
chosen_at schema x args prefix bits c same below enters only =
    let d = some_there schema c below in
    let first : Enters schema x args prefix d.0 = enters c d.0 d.1 refl in
    let o = some_of (fit d.0.core args) first.fits in
    let P : List ℕ → Type 0 = λ z. Enters schema x args z d.0 in
    let Q : List ℕ → Type 0 = λ z. choose schema schema x args z ≡ Some (d.0, o.0) in
    record {
      declaration = d.0;
      scope = o.0;
      there = d.1;
      fits = o.1;
      enters = subst P same first;
      is = subst Q same (chooses_one schema x args prefix c d.0 o.0 d.1 o.1 first only);
    }
