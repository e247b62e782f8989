-- The name that a constructor is shown by, as the definition finds it.
use Rattle.std.proofs.Common.{◌≡◌, ◌∙◌, ap, sym, refl, ℕ, zero, suc, Bool, true, false, cond, [], ◌∷◌, ◌&&◌}
use Rattle.std.proofs.lemmas.Bool.{and_parts, eq-eqb, eqb-true}
use Rattle.std.proofs.lemmas.Slice.Eq.{bytes_eq-Decides}
use Rattle.std.specs.Prelude.{Option, None, Some, ◌↔◌, ◌==◌, bytes_eq, slice_get}
use Rattle.core_form.specs.Core.{CoreSchema, Declaration, Word}
use Rattle.field_plan.specs.Choosing.{IsShownAt}
use Rattle.cli_refusals.specs.Shown.{shown_at}

later : (d : Declaration) (ds : CoreSchema) (x : Word) (n : ℕ) (y : Word) → IsShownAt ds x n y → IsShownAt (d ∷ ds) x n y
later d ds x n y h = record {
  place = suc h.place;
  declaration = h.declaration;
  there = h.there;
  of_type = h.of_type;
  number = h.number;
  shown = h.shown;
}

-- what is found is shown so
sound : (s : CoreSchema) (x : Word) (n : ℕ) (y : Word) → shown_at s x n ≡ Some y → IsShownAt s x n y
sound [] x n y is = cc
sound (d ∷ ds) x n y is = cases (bytes_eq d.of_type x && d.number == n) refl (sound ds x n y) is
  where
    cases : (b : Bool) → (bytes_eq d.of_type x && d.number == n) ≡ b
        → (shown_at ds x n ≡ Some y → IsShownAt ds x n y)
        → cond b (Some d.shown) (shown_at ds x n) ≡ Some y → IsShownAt (d ∷ ds) x n y
    cases true e below h = record {
      place = zero;
      declaration = d;
      there = refl;
      of_type = (bytes_eq-Decides d.of_type x).0 (and_parts _ _ e).0;
      number = eqb-true d.number n (and_parts _ _ e).1;
      shown = let same : Some d.shown ≡ Some y = h in cc;
    }
    cases false e below h = later d ds x n y (below h)

-- and what is there is found
abbrev Found : CoreSchema → Word → ℕ → Type 0
Found s x n = (y : Word) × (shown_at s x n ≡ Some y)

either : (d : Declaration) (ds : CoreSchema) (x : Word) (n : ℕ) (b : Bool) → Found ds x n
    → (y : Word) × (cond b (Some d.shown) (shown_at ds x n) ≡ Some y)
either d ds x n true found = (d.shown, refl)
either d ds x n false found = found

first : (d : Declaration) (ds : CoreSchema) (x : Word) (n : ℕ) (b : Bool) → b ≡ true
    → (y : Word) × (cond b (Some d.shown) (shown_at ds x n) ≡ Some y)
first d ds x n true is = (d.shown, refl)
first d ds x n false is = cc

both : (a b : Bool) → a ≡ true → b ≡ true → (a && b) ≡ true
both true b p q = q
both false b p q = p

found_at : (s : CoreSchema) (x : Word) (n p : ℕ) (d : Declaration) → slice_get s p ≡ Some d → d.of_type ≡ x → d.number ≡ n
    → Found s x n
found_at [] x n p d there type number = cc
found_at (e ∷ es) x n zero d there type number =
    let same : e ≡ d = cc in
    first e es x n (bytes_eq e.of_type x && e.number == n)
    (both _ _ ((bytes_eq-Decides e.of_type x).1 (ap (λ (z : Declaration). z.of_type) same ∙ type))
    (eq-eqb e.number n (ap (λ (z : Declaration). z.number) same ∙ number)))
found_at (e ∷ es) x n (suc p) d there type number =
    either e es x n (bytes_eq e.of_type x && e.number == n) (found_at es x n p d there type number)

-- what names a constructor by these is what the definition finds
pub shown_by : (s : CoreSchema) (x : Word) (n : ℕ) (o : Option Word)
    → ((name : Word) → (o ≡ Some name) ↔ IsShownAt s x n name) → shown_at s x n ≡ o
shown_by s x n (Some y) is =
    let h = (is y).0 refl in
    let found = found_at s x n h.place h.declaration h.there h.of_type h.number in
    found.1 ∙ sym ((is found.0).1 (sound s x n found.0 found.1))
shown_by s x n None is = none (shown_at s x n) refl
  where
    none : (o : Option Word) → shown_at s x n ≡ o → o ≡ None
    none None e = refl
    none (Some y) e = let h : None ≡ Some y = (is y).1 (sound s x n y e) in cc
