-- Numbers all of whose variables are known.
use Rattle.std.proofs.Common.{◌≡◌, ℕ, ◌+◌, ◌*◌, ◌^◌, List, [], ◌∷◌, ◌++◌, Option, Some, None, Bool, true, false, ◌&&◌}
use Rattle.std.proofs.Common.{refl, sym, ap, ◌∙◌, subst, inl, inr}
use Rattle.std.proofs.lemmas.Bool.{cases_lt}
use Rattle.nat_solver.specs.Number.{Expr, lit, var, sought, plus, times, Numbers, within, within_any, sum_within}
use Rattle.nat_solver.specs.Number.{times_within, value, exact_sum, exact_times, number, parts, unknowns, Exceeds}
use Rattle.nat_solver.specs.Number.{first_lacking}
use Rattle.nat_solver.specs.ValueLaws.{within_fits, number_from_value, or_else, first_append, none_append, alone_lacks}
use Rattle.nat_solver.specs.ValueLaws.{known_lacks, none_from_value}
use Rattle.nat_solver.specs.SolutionLaws.{nil_left, nil_right}
use Rattle.core_form.specs.Determined.{Known, is_valued}
use Rattle.core_form.specs.Laws.{ValuedIsThere, NoneIsLarge}

both_parts : (m n : Bool) → (m && n) ≡ true → (m ≡ true) × (n ≡ true)
both_parts true n h = (refl, h)
both_parts false n h = cc

pub valued_is_there : ValuedIsThere
valued_is_there k (lit n) scope s h = (n, refl)
valued_is_there k (var v) scope s h = s.numbers v h
valued_is_there k (sought v) scope s h = cc
valued_is_there k (plus a b) scope s h =
    let p = both_parts (is_valued k a) (is_valued k b) h in
    let l = valued_is_there k a scope s p.0 in
    let r = valued_is_there k b scope s p.1 in
    (l.0 + r.0, λ i. exact_sum (l.1 i) (r.1 i))
valued_is_there k (times n a) scope s h =
    let l = valued_is_there k a scope s h in (n * l.0, ap (exact_times n) l.1)

pub valued_is_plain : (k : Known) (e : Expr) → is_valued k e ≡ true → unknowns e ≡ []
valued_is_plain k (lit n) h = refl
valued_is_plain k (var v) h = refl
valued_is_plain k (sought v) h = cc
valued_is_plain k (plus a b) h =
    let p = both_parts (is_valued k a) (is_valued k b) h in
    λ i. valued_is_plain k a p.0 i ++ valued_is_plain k b p.1 i
valued_is_plain k (times n a) h = valued_is_plain k a h

-- a number without a value whose parts have values is too large
large_itself : (e : Expr) (env : Numbers) (n : ℕ) → unknowns e ≡ [] → number e env ≡ Some n → value e env ≡ within n
    → value e env ≡ None
    → first_lacking (parts e) env ≡ first_lacking (e ∷ []) env → Exceeds (first_lacking (parts e) env) env
large_itself e env n u i w none alone =
    let first : first_lacking (parts e) env ≡ Some e = alone ∙ alone_lacks e env (known_lacks e env u none) in
    let P : Option Expr → Type 0 = λ o. Exceeds o env in
    subst P (sym first) (elim (cases_lt n (2 ^ 32)) [
      | inl h ↦ let bad : Some n ≡ None = sym (w ∙ within_fits n h) ∙ none in cc
      | inr h ↦ (n, i, h)
    ])

exceeds_left : (xs ys : List Expr) (env : Numbers) → Exceeds (first_lacking xs env) env
    → Exceeds (first_lacking (xs ++ ys) env) env
exceeds_left xs ys env h = cases (first_lacking xs env) refl h
  where
    cases : (o : Option Expr) → first_lacking xs env ≡ o → Exceeds o env → Exceeds (first_lacking (xs ++ ys) env) env
    cases None i h = absurd h
    cases (Some e) i h =
        let P : Option Expr → Type 0 = λ o. Exceeds o env in
        subst P (sym (first_append _ xs ys ∙ ap (λ o. or_else o (first_lacking ys env)) i)) h

exceeds_right : (xs ys : List Expr) (env : Numbers) → first_lacking xs env ≡ None → Exceeds (first_lacking ys env) env
    → Exceeds (first_lacking (xs ++ ys) env) env
exceeds_right xs ys env none h =
    let P : Option Expr → Type 0 = λ o. Exceeds o env in subst P (sym (none_append xs ys env none)) h

none_exceeds : (e : Expr) (env : Numbers) (n : ℕ) → unknowns e ≡ [] → number e env ≡ Some n → value e env ≡ None
    → Exceeds (first_lacking (parts e) env) env
none_exceeds (lit m) env n u i v = large_itself (lit m) env m refl refl refl v refl
none_exceeds (var w) env n u i v = large_itself (var w) env n refl i (ap within_any i) v refl
none_exceeds (sought w) env n u i v = cc
none_exceeds (plus a b) env n u i v =
    cases (number a env) (number b env) refl refl (value a env) (value b env) refl refl i
    (λ l p q. none_exceeds a env l (nil_left (unknowns a) (unknowns b) u) p q)
    (λ r p q. none_exceeds b env r (nil_right (unknowns a) (unknowns b) u) p q)
  where
    cases : (x y : Option ℕ) → number a env ≡ x → number b env ≡ y → (l r : Option ℕ) → value a env ≡ l
        → value b env ≡ r
        → exact_sum x y ≡ Some n
        → ((l : ℕ) → number a env ≡ Some l → value a env ≡ None → Exceeds (first_lacking (parts a) env) env)
        → ((r : ℕ) → number b env ≡ Some r → value b env ≡ None → Exceeds (first_lacking (parts b) env) env)
        → Exceeds (first_lacking (parts (plus a b)) env) env
    cases None y p q l r s t e f g = cc
    cases (Some x) None p q l r s t e f g = cc
    cases (Some x) (Some y) p q None r s t e f g = exceeds_left (parts a) _ env (f x p s)
    cases (Some x) (Some y) p q (Some l) None s t e f g =
        exceeds_right (parts a) _ env (none_from_value a env l s) (exceeds_left (parts b) _ env (g y q t))
    cases (Some x) (Some y) p q (Some l) (Some r) s t e f g =
        let ls : Some l ≡ Some x = sym (number_from_value a env l s) ∙ p in
        let rs : Some r ≡ Some y = sym (number_from_value b env r t) ∙ q in
        large_itself (plus a b) env (x + y) u (λ j. exact_sum (p j) (q j))
        ((λ j. sum_within (s j) (t j)) ∙ (λ j. sum_within (ls j) (rs j))) v
        (none_append (parts a) _ env (none_from_value a env l s)
        ∙ none_append (parts b) _ env (none_from_value b env r t))
none_exceeds (times k a) env n u i v =
    cases (number a env) refl (value a env) refl i (λ l p q. none_exceeds a env l u p q)
  where
    cases : (x : Option ℕ) → number a env ≡ x → (l : Option ℕ) → value a env ≡ l → exact_times k x ≡ Some n
        → ((l : ℕ) → number a env ≡ Some l → value a env ≡ None → Exceeds (first_lacking (parts a) env) env)
        → Exceeds (first_lacking (parts (times k a)) env) env
    cases None p l s e f = cc
    cases (Some x) p None s e f = exceeds_left (parts a) _ env (f x p s)
    cases (Some x) p (Some l) s e f =
        let ls : Some l ≡ Some x = sym (number_from_value a env l s) ∙ p in
        large_itself (times k a) env (k * x) u (ap (exact_times k) p) (ap (times_within k) s ∙ ap (times_within k) ls) v
        (none_append (parts a) _ env (none_from_value a env l s))

pub none_is_large : NoneIsLarge
none_is_large k e scope s h none =
    let n = valued_is_there k e scope s h in none_exceeds e scope.numbers n.0 (valued_is_plain k e h) n.1 none
