-- A loop over the terms of a sum gives what the sum nested to the left gives.
use Rattle.std.proofs.Common.{◌≡◌, ℕ, ◌*◌, ◌^◌, ◌<◌, ◌≤◌, List, [], ◌∷◌, inl, inr, Option, Some, None, Ok, Err, refl, sym, ap, ◌∙◌, nat_lt, zero-add, ◌+◌, length, get_or, drop}
use Rattle.std.proofs.lemmas.List.{at_drop_more}
use Rattle.std.proofs.lemmas.Bool.{cases_lt, cond-true, cond-false, lt-ltb, le-ltb}
use Rattle.nat_solver.specs.Number.{Expr, lit, var, sought, plus, times, Numbers, number_at, nested, sum_of}
use Rattle.nat_solver.specs.Plain.{Known, bounded, of_variable, added, both, scaled, known_number, known_rest, occurrence, occurrence_rest}
use Rattle.nat_solver.specs.View.{expr, exprs}
use Rattle.nat_solver.specs.declared.expr.NatExpr.{NatExpr}
use Rattle.nat_solver.specs.declared.evaluate.NatError.{NatError}
use Rattle.nat_solver.specs.declared.evaluate.NatError.TheVariants.{Overflow}
use Rattle.nat_solver.specs.declared.unknown.Occurrence.TheVariants.{Never}

pub bounded_fits : (n : ℕ) → n < 2 ^ 32 → bounded n ≡ Ok (Some n)
bounded_fits n h = cond-true (nat_lt n (2 ^ 32)) _ _ (lt-ltb n (2 ^ 32) h)

pub bounded_over : (n : ℕ) → 2 ^ 32 ≤ n → bounded n ≡ Err Overflow
bounded_over n h = cond-false (nat_lt n (2 ^ 32)) _ _ (le-ltb n (2 ^ 32) h)

-- 0 before a number changes nothing
zero_bounded : (n : ℕ) → both (Ok (Some 0)) (bounded n) ≡ bounded n
zero_bounded n =
    elim (cases_lt n (2 ^ 32)) [
      | inl h ↦ ap (both (Ok (Some 0))) (bounded_fits n h) ∙ ap bounded (zero-add n)
      | inr h ↦ ap (both (Ok (Some 0))) (bounded_over n h) ∙ sym (bounded_over n h)
    ]

zero_both : (x y : Known) → both (Ok (Some 0)) (both x y) ≡ both x y
zero_both (Err f) y = refl
zero_both (Ok m) (Err f) = refl
zero_both (Ok (Some m)) (Ok (Some n)) = zero_bounded (m + n)
zero_both (Ok (Some m)) (Ok None) = refl
zero_both (Ok None) (Ok n) = refl

zero_scaled : (k : ℕ) (x : Known) → both (Ok (Some 0)) (scaled k x) ≡ scaled k x
zero_scaled k (Err f) = refl
zero_scaled k (Ok (Some n)) = zero_bounded (k * n)
zero_scaled k (Ok None) = refl

zero_variable : (v : ℕ) (n : Option ℕ) → both (Ok (Some 0)) (of_variable v n) ≡ of_variable v n
zero_variable v (Some n) = zero_bounded n
zero_variable v None = refl

zero_first : (e : Expr) (env : Numbers) → both (Ok (Some 0)) (known_number e env) ≡ known_number e env
zero_first (lit n) env = zero_bounded n
zero_first (var v) env = zero_variable v (number_at env v)
zero_first (sought v) env = refl
zero_first (plus a b) env = zero_both (known_number a env) (known_number b env)
zero_first (times k a) env = zero_scaled k (known_number a env)

known_nested : (t : Expr) (ts : List Expr) (env : Numbers) → known_rest (known_number t env) ts env ≡ known_number (nested t ts) env
known_nested t [] env = refl
known_nested t (u ∷ us) env = known_nested (plus t u) us env

pub known_whole : (ts : List Expr) (env : Numbers) → known_rest (Ok (Some 0)) ts env ≡ known_number (sum_of ts) env
known_whole [] env = refl
known_whole (t ∷ ts) env = ap (λ k. known_rest k ts env) (zero_first t env) ∙ known_nested t ts env

pub known_refused : (f : NatError) (ts : List Expr) (env : Numbers) → known_rest (Err f) ts env ≡ Err f
known_refused f [] env = refl
known_refused f (t ∷ ts) env = known_refused f ts env

-- a term that is refused ends the sum
pub known_stops : (all : List NatExpr) (i : ℕ) (here : NatExpr) (env : Numbers) (sum : Option ℕ) (f : NatError) (total : Known) → i < length all → here ≡ get_or all i here → Err f ≡ known_number (expr here) env
    → known_rest (Ok sum) (exprs (drop i all)) env ≡ total → Err f ≡ total
known_stops all i here env sum f total lt is refused so_far =
    sym (known_refused f (exprs (drop (i + 1) all)) env)
    ∙ ap (λ k. known_rest (both (Ok sum) k) (exprs (drop (i + 1) all)) env) refused
    ∙ ap (λ t. known_rest (Ok sum) (exprs (t ∷ drop (i + 1) all)) env) is
    ∙ sym (at_drop_more (λ ts. known_rest (Ok sum) (exprs ts) env) all i here lt)
    ∙ so_far

-- so does a sum that is too large
pub sum_stops : (all : List NatExpr) (i : ℕ) (here : NatExpr) (env : Numbers) (sum n : Option ℕ) (f : NatError) (total : Known) → i < length all → here ≡ get_or all i here → Ok n ≡ known_number (expr here) env → Err f ≡ added sum n
    → known_rest (Ok sum) (exprs (drop i all)) env ≡ total → Err f ≡ total
sum_stops all i here env sum n f total lt is valued refused so_far =
    sym (known_refused f (exprs (drop (i + 1) all)) env)
    ∙ ap (λ k. known_rest k (exprs (drop (i + 1) all)) env) refused
    ∙ ap (λ k. known_rest (both (Ok sum) k) (exprs (drop (i + 1) all)) env) valued
    ∙ ap (λ t. known_rest (Ok sum) (exprs (t ∷ drop (i + 1) all)) env) is
    ∙ sym (at_drop_more (λ ts. known_rest (Ok sum) (exprs ts) env) all i here lt)
    ∙ so_far

occurrence_nested : (t : Expr) (ts : List Expr) → occurrence_rest (occurrence t) ts ≡ occurrence (nested t ts)
occurrence_nested t [] = refl
occurrence_nested t (u ∷ us) = occurrence_nested (plus t u) us

pub occurrence_whole : (ts : List Expr) → occurrence_rest Never ts ≡ occurrence (sum_of ts)
occurrence_whole [] = refl
occurrence_whole (t ∷ ts) = occurrence_nested t ts
