-- At most one constructor of a type can be entered.
use Rattle.std.proofs.Common.{◌≡◌, ℕ, ◌-◌, Bool, true, false, ◌||◌, not, List, [], ◌∷◌, refl, sym, ◌∙◌, ◌⊎◌, inl, inr, arith, lit<, nat_eq}
use Rattle.std.specs.List.{list_all}
use Rattle.std.proofs.lemmas.Bool.{eqb-true, eqb-false, eq-eqb, cases_lt}
use Rattle.nat_solver.specs.Pattern as patterns
use Rattle.nat_solver.specs.declared.pattern.Pattern.{Pattern}
use Rattle.nat_solver.specs.declared.pattern.Pattern.TheVariants.{Lit, Var, Plus}
use Rattle.core_form.specs.Core.{Word, Input, Declaration, CoreSchema, number, type}
use Rattle.core_form.specs.Closed.{ClosedArgs, no_args, nat_arg, ty_arg}
use Rattle.core_form.specs.Scope.{Scope, with_type}
use Rattle.core_form.specs.Fit.{with_pattern, InputsFit}
use Rattle.schema_leads.specs.Leads.{begins, Leads, leads, some_begins}
use Rattle.schema_leads.specs.Separation.{are_apart, Excluding, AreSeparated}
use Rattle.spelling.specs.Acceptable.{IsAcceptable, InRange, AreInRange}
use Rattle.spelling.specs.Stuck.{Enters}
use Rattle.spelling_laws.specs.StepLaws.{both, both_on}

one_of : (a b : Bool) → (a || b) ≡ true → (a ≡ true) ⊎ (b ≡ true)
one_of true b e = inl refl
one_of false b e = inr e

-- ---- leads

-- two beginnings of the same bits
one_begins : (l k bits : List ℕ) → begins l bits ≡ true → begins k bits ≡ true
    → (begins l k ≡ true) ⊎ (begins k l ≡ true)
one_begins [] k bits e f = inl refl
one_begins (b ∷ l) [] bits e f = inr refl
one_begins (b ∷ l) (a ∷ k) [] e f = cc
one_begins (b ∷ l) (a ∷ k) (c ∷ bits) e f =
    let x = both (nat_eq b c) (begins l bits) e in
    let y = both (nat_eq a c) (begins k bits) f in
    elim (one_begins l k bits x.1 y.1) [
      | inl h ↦ inl (both_on (nat_eq b a) (begins l k) (eq-eqb b a (eqb-true b c x.0 ∙ sym (eqb-true a c y.0))) h)
      | inr h ↦ inr (both_on (nat_eq a b) (begins k l) (eq-eqb a b (eqb-true a c y.0 ∙ sym (eqb-true b c x.0))) h)
    ]

lead_apart : (l : List ℕ) (ks : Leads) (bits : List ℕ) → list_all (λ k. not (begins l k || begins k l)) ks ≡ true
    → begins l bits ≡ true → some_begins ks bits ≡ true → ⊥
lead_apart l [] bits a e h = cc
lead_apart l (k ∷ ks) bits a e h =
    let t = both (not (begins l k || begins k l)) (list_all (λ k. not (begins l k || begins k l)) ks) a in
    elim (one_of (begins k bits) (some_begins ks bits) h) [
      | inl f ↦ clash (begins l k) (begins k l) t.0 (one_begins l k bits e f)
      | inr f ↦ lead_apart l ks bits t.1 e f
    ]
  where
    clash : (x y : Bool) → not (x || y) ≡ true → (x ≡ true) ⊎ (y ≡ true) → ⊥
    clash true y e f = cc
    clash false true e f = cc
    clash false false e (inl f) = cc
    clash false false e (inr f) = cc

leads_apart : (ls ks : Leads) (bits : List ℕ) → are_apart ls ks ≡ true → some_begins ls bits ≡ true
    → some_begins ks bits ≡ true → ⊥
leads_apart [] ks bits a e f = cc
leads_apart (l ∷ ls) ks bits a e f =
    let t = both (list_all (λ k. not (begins l k || begins k l)) ks) (are_apart ls ks) a in
    elim (one_of (begins l bits) (some_begins ls bits) e) [
      | inl h ↦ lead_apart l ks bits t.0 h f
      | inr h ↦ leads_apart ls ks bits t.1 h f
    ]

-- ---- patterns

-- patterns of 32 bits that meet one number meet one of 32 bits
excluded : (p q : Pattern) → InRange p → InRange q → patterns.Exclude p q → (m y z : ℕ) → patterns.Fits p m y
    → patterns.Fits q m z → ⊥
excluded (Lit n) q r s x m y z e f = x m y z (let k = e.0 in omega (arith, r, k)) e f
excluded (Var v) (Lit n) r s x m y z e f = x m y z (let k = f.0 in omega (arith, s, k)) e f
excluded (Var v) (Var w) r s x m y z e f = x 0 0 0 (lit< tt) refl refl
excluded (Var v) (Plus w k) r s x m y z e f = x k k 0 s refl (omega arith)
excluded (Plus v k) (Lit n) r s x m y z e f = x m y z (let k = f.0 in omega (arith, s, k)) e f
excluded (Plus v k) (Var w) r s x m y z e f = x k 0 k r (omega arith) refl
excluded (Plus v k) (Plus w l) r s x m y z e f = elim (cases_lt k l) [
  | inl h ↦ x l (l - k) 0 s (omega (arith, h)) (omega arith)
  | inr h ↦ x k 0 (k - l) r (omega arith) (omega (arith, h))
]

-- no arguments fit both
inputs_excluded : (ps qs : List Input) → AreInRange ps → AreInRange qs → Excluding ps qs → (args : ClosedArgs)
    (s t x y : Scope) → InputsFit ps args s x → InputsFit qs args t y → ⊥
inputs_excluded [] qs r u h args s t x y e f = absurd h
inputs_excluded (number p ∷ ps) [] r u h args s t x y e f = absurd h
inputs_excluded (number p ∷ ps) (type w ∷ qs) r u h args s t x y e f = absurd h
inputs_excluded (number p ∷ ps) (number q ∷ qs) r u h no_args s t x y e f = absurd e
inputs_excluded (number p ∷ ps) (number q ∷ qs) r u h (ty_arg k args) s t x y e f = absurd e
inputs_excluded (number p ∷ ps) (number q ∷ qs) r u (inl h) (nat_arg m args) s t x y e f =
    excluded p q r.0 u.0 h m e.0 f.0 e.1 f.1
inputs_excluded (number p ∷ ps) (number q ∷ qs) r u (inr h) (nat_arg m args) s t x y e f =
    inputs_excluded ps qs r.1 u.1 h args (with_pattern p e.0 s) (with_pattern q f.0 t) x y e.2 f.2
inputs_excluded (type v ∷ ps) [] r u h args s t x y e f = absurd h
inputs_excluded (type v ∷ ps) (number q ∷ qs) r u h args s t x y e f = absurd h
inputs_excluded (type v ∷ ps) (type w ∷ qs) r u h no_args s t x y e f = absurd e
inputs_excluded (type v ∷ ps) (type w ∷ qs) r u h (nat_arg m args) s t x y e f = absurd e
inputs_excluded (type v ∷ ps) (type w ∷ qs) r u h (ty_arg k args) s t x y e f =
    inputs_excluded ps qs r u h args (with_type v k s) (with_type w k t) x y e f

pub one_constructor : (schema : CoreSchema) → IsAcceptable schema → (x : Word) (args : ClosedArgs) (bits : List ℕ)
    (i j : ℕ) (c e : Declaration) (s t : Scope) → Enters schema x args bits i c s → Enters schema x args bits j e t
    → i ≡ j
one_constructor schema ok x args bits i j c e s t a b = go (nat_eq i j) refl
  where
    clash : AreSeparated schema c e → ⊥
    clash (inl h) = leads_apart (leads schema c) (leads schema e) bits h a.begins b.begins
    clash (inr h) =
        inputs_excluded c.core.inputs e.core.inputs (ok.in_range i c a.meets.there) (ok.in_range j e b.meets.there) h args _ _ s t a.meets.fitting b.meets.fitting

    go : (d : Bool) → nat_eq i j ≡ d → i ≡ j
    go true h = eqb-true i j h
    go false h = absurd (clash (ok.separated i j c e a.meets.there b.meets.there (a.meets.of_type ∙ sym b.meets.of_type) (eqb-false i j h)))
