-- Values, and first parts without one.
use Rattle.std.proofs.Common.{◌≡◌, ℕ, ◌+◌, ◌*◌, ◌^◌, ◌<◌, ◌≤◌, List, [], ◌∷◌, ◌++◌, Option, Some, None, Bool, true}
use Rattle.std.proofs.Common.{false, ◌&&◌, refl, sym, ap, ◌∙◌, arith, nat_lt, cond}
use Rattle.std.proofs.lemmas.Bool.{cond-true, cond-false, lt-ltb, le-ltb, ltb-true}
use Rattle.std.proofs.lemmas.Option.{cond_some}
use Rattle.nat_solver.specs.Number.{Expr, lit, var, sought, plus, times, Numbers, number_at, within, within_any}
use Rattle.nat_solver.specs.Number.{sum_within, times_within, value, exact_sum, exact_times, number, parts, unknowns}
use Rattle.nat_solver.specs.Number.{is_empty, is_none, lacks, first_that, first_lacking}

pub within_fits : (n : ℕ) → n < 2 ^ 32 → within n ≡ Some n
within_fits n h = cond-true (nat_lt n (2 ^ 32)) _ _ (lt-ltb n (2 ^ 32) h)

pub within_over : (n : ℕ) → 2 ^ 32 ≤ n → within n ≡ None
within_over n h = cond-false (nat_lt n (2 ^ 32)) _ _ (le-ltb n (2 ^ 32) h)

pub within_some : (n m : ℕ) → within n ≡ Some m → (n ≡ m) × (n < 2 ^ 32)
within_some n m e = let p = cond_some (nat_lt n (2 ^ 32)) n m e in (p.1, ltb-true n (2 ^ 32) p.0)

-- what a sum, a multiple and a variable with a value say of their parts
pub record SumOf (x y : Option ℕ) (n : ℕ) : Type 0 where
  pub left : ℕ
  pub right : ℕ
  pub left_is : x ≡ Some left
  pub right_is : y ≡ Some right
  pub is : n ≡ left + right
  pub fits : n < 2 ^ 32

pub sum_parts : (x y : Option ℕ) (n : ℕ) → sum_within x y ≡ Some n → SumOf x y n
sum_parts None y n e = cc
sum_parts (Some l) None n e = cc
sum_parts (Some l) (Some r) n e =
    let p = within_some (l + r) n e in
    record { left = l; right = r; left_is = refl; right_is = refl; is = sym p.0; fits = omega (arith, p.0, p.1) }

pub record TimesOf (k : ℕ) (x : Option ℕ) (n : ℕ) : Type 0 where
  pub factor : ℕ
  pub factor_is : x ≡ Some factor
  pub is : n ≡ k * factor
  pub fits : n < 2 ^ 32

pub times_parts : (k : ℕ) (x : Option ℕ) (n : ℕ) → times_within k x ≡ Some n → TimesOf k x n
times_parts k None n e = cc
times_parts k (Some f) n e =
    let p = within_some (k * f) n e in
    record { factor = f; factor_is = refl; is = sym p.0; fits = omega (arith, p.0, p.1) }

pub any_parts : (x : Option ℕ) (n : ℕ) → within_any x ≡ Some n → x ≡ Some n
any_parts None n e = cc
any_parts (Some m) n e = ap Some (within_some m n e).0

-- a value is the exact number
pub number_from_value : (e : Expr) (env : Numbers) (n : ℕ) → value e env ≡ Some n → number e env ≡ Some n
number_from_value (lit m) env n v = ap Some (within_some m n v).0
number_from_value (var x) env n v = any_parts (number_at env x) n v
number_from_value (sought x) env n v = cc
number_from_value (plus a b) env n v =
    let p = sum_parts (value a env) (value b env) n v in
    (λ i. exact_sum (number_from_value a env p.left p.left_is i) (number_from_value b env p.right p.right_is i))
    ∙ ap Some (sym p.is)
number_from_value (times k a) env n v =
    let p = times_parts k (value a env) n v in
    ap (exact_times k) (number_from_value a env p.factor p.factor_is) ∙ ap Some (sym p.is)

-- what has a value has no unknown
pub no_unknown_from_value : (e : Expr) (env : Numbers) (n : ℕ) → value e env ≡ Some n → unknowns e ≡ []
no_unknown_from_value (lit m) env n v = refl
no_unknown_from_value (var x) env n v = refl
no_unknown_from_value (sought x) env n v = cc
no_unknown_from_value (plus a b) env n v =
    let p = sum_parts (value a env) (value b env) n v in
    (λ i. no_unknown_from_value a env p.left p.left_is i ++ no_unknown_from_value b env p.right p.right_is i)
no_unknown_from_value (times k a) env n v =
    let p = times_parts k (value a env) n v in no_unknown_from_value a env p.factor p.factor_is

-- which of two first parts comes first
abbrev pub or_else : Option Expr → Option Expr → Option Expr
or_else None second = second
or_else (Some e) second = Some e

pub first_append : (test : Expr → Bool) (xs ys : List Expr)
    → first_that test (xs ++ ys) ≡ or_else (first_that test xs) (first_that test ys)
first_append test [] ys = refl
first_append test (x ∷ xs) ys = step (test x) (first_append test xs ys)
  where
    step : (b : Bool) → first_that test (xs ++ ys) ≡ or_else (first_that test xs) (first_that test ys)
        → cond b (Some x) (first_that test (xs ++ ys)) ≡ or_else (cond b (Some x) (first_that test xs))
        (first_that test ys)
    step true e = refl
    step false e = e

pub none_append : (xs ys : List Expr) (env : Numbers) → first_lacking xs env ≡ None
    → first_lacking (xs ++ ys) env ≡ first_lacking ys env
none_append xs ys env e = first_append (lacks env) xs ys ∙ ap (λ o. or_else o (first_lacking ys env)) e

pub alone_has : (e : Expr) (env : Numbers) → lacks env e ≡ false → first_lacking (e ∷ []) env ≡ None
alone_has e env h = cond-false (lacks env e) _ _ h

pub alone_lacks : (e : Expr) (env : Numbers) → lacks env e ≡ true → first_lacking (e ∷ []) env ≡ Some e
alone_lacks e env h = cond-true (lacks env e) _ _ h

and_false : (b : Bool) → (b && false) ≡ false
and_false true = refl
and_false false = refl

pub valued_has : (e : Expr) (env : Numbers) (n : ℕ) → value e env ≡ Some n → lacks env e ≡ false
valued_has e env n v = ap (λ o. is_empty (unknowns e) && is_none o) v ∙ and_false (is_empty (unknowns e))

pub unknown_has : (e : Expr) (env : Numbers) → is_empty (unknowns e) ≡ false → lacks env e ≡ false
unknown_has e env u = ap (λ b. b && is_none (value e env)) u

pub known_lacks : (e : Expr) (env : Numbers) → unknowns e ≡ [] → value e env ≡ None → lacks env e ≡ true
known_lacks e env u v = λ i. is_empty (u i) && is_none (v i)

-- in what has a value no part lacks one
pub none_from_value : (e : Expr) (env : Numbers) (n : ℕ) → value e env ≡ Some n → first_lacking (parts e) env ≡ None
none_from_value (lit m) env n v = alone_has (lit m) env (valued_has (lit m) env n v)
none_from_value (var x) env n v = alone_has (var x) env (valued_has (var x) env n v)
none_from_value (sought x) env n v = cc
none_from_value (plus a b) env n v =
    let p = sum_parts (value a env) (value b env) n v in
    none_append (parts a) (parts b ++ (plus a b ∷ [])) env (none_from_value a env p.left p.left_is)
    ∙ none_append (parts b) (plus a b ∷ []) env (none_from_value b env p.right p.right_is)
    ∙ alone_has (plus a b) env (valued_has (plus a b) env n v)
none_from_value (times k a) env n v =
    let p = times_parts k (value a env) n v in
    none_append (parts a) (times k a ∷ []) env (none_from_value a env p.factor p.factor_is)
    ∙ alone_has (times k a) env (valued_has (times k a) env n v)
