-- The number for an unknown: a sum without its other terms, a multiple divided by its factor.
use Rattle.std.proofs.Common.{rules, ◌≡◌, ◌↔◌, ℕ, ◌+◌, ◌-◌, ◌*◌, ◌/◌, ◌%◌, ◌^◌, ◌<◌, ◌≤◌, List, [], ◌∷◌, ◌++◌, map, inl, inr, Option, Some, None, Ok, Err, Bool, true, false, not, refl, sym, ap, ◌∙◌, subst, arith, nat_eq, cond, append_assoc, length, get_or, drop}
use Rattle.std.proofs.lemmas.List.{at_drop_more}
use Rattle.std.proofs.lemmas.Bool.{cases_lt, eq-eqb}
use Rattle.std.proofs.Math.Nat.{mul-div_cancel_left, mul-mod_right}
use Rattle.nat_solver.specs.Number.{Expr, lit, var, sought, plus, times, nested, sum_of, Numbers, number_at, within, within_any, sum_within, times_within, value, exact_sum, parts, unknowns, cancelled, is_empty, lacks, first_lacking, put, number_or_0}
use Rattle.nat_solver.specs.Plain.{Known, known_number, unknowns_in, cancelled_in, AllValued, known_total, holder}
use Rattle.nat_solver.specs.declared.evaluate.NatError.{NatError}
use Rattle.nat_solver.specs.declared.evaluate.NatError.TheVariants.{Overflow, Unknown, NoSolution}
use Rattle.nat_solver.specs.Laws.{total}
use Rattle.nat_solver.specs.View.{expr, exprs}
use Rattle.nat_solver.specs.declared.expr.NatExpr.{NatExpr, Sum, Times}
use Rattle.nat_solver.specs.declared.expr.NatExpr.TheFolds.{the_lemmas}
pub use Rattle.nat_solver.specs.SolutionLaws.{nil_left, nil_right, append_nil, one_left, one_right, empty_is, put_known, counted}
use Rattle.nat_solver.proofs.Values.{within_fits, within_over, within_some, sum_parts, times_parts, no_unknown_from_value, or_else, first_append, Judged, judged, judged_as, Refused}

-- v occurs once, not under a factor 0, and the parts without it have values
pub record Holder (e : Expr) (env : Numbers) (v : ℕ) : Type 0 where
  pub only : unknowns e ≡ v ∷ []
  pub counts : cancelled e ≡ []
  pub valued : first_lacking (parts e) env ≡ None

-- the same of the terms of a sum
pub record Holders (ts : List Expr) (env : Numbers) (v : ℕ) : Type 0 where
  pub only : unknowns_in ts ≡ v ∷ []
  pub counts : cancelled_in ts ≡ []
  pub valued : AllValued ts env

none_left : (xs ys : List Expr) (env : Numbers) → first_lacking (xs ++ ys) env ≡ None → first_lacking xs env ≡ None
none_left xs ys env e = cases (first_lacking xs env) (first_lacking ys env) (sym (first_append (lacks env) xs ys) ∙ e)
  where
    cases : (o p : Option Expr) → or_else o p ≡ None → o ≡ None
    cases None p h = refl
    cases (Some x) p h = cc

none_right : (xs ys : List Expr) (env : Numbers) → first_lacking (xs ++ ys) env ≡ None → first_lacking ys env ≡ None
none_right xs ys env e = cases (first_lacking xs env) (first_lacking ys env) (sym (first_append (lacks env) xs ys) ∙ e)
  where
    cases : (o p : Option Expr) → or_else o p ≡ None → p ≡ None
    cases None p h = h
    cases (Some x) p h = cc

pub value_small : (e : Expr) (env : Numbers) (n : ℕ) → value e env ≡ Some n → n < 2 ^ 32
value_small (lit m) env n v = let p = within_some m n v in omega (arith, p.0, p.1)
value_small (var x) env n v = any_small (number_at env x) v
  where
    any_small : (o : Option ℕ) → within_any o ≡ Some n → n < 2 ^ 32
    any_small None e = cc
    any_small (Some m) e = let p = within_some m n e in omega (arith, p.0, p.1)
value_small (sought x) env n v = cc
value_small (plus a b) env n v = (sum_parts (value a env) (value b env) n v).fits
value_small (times k a) env n v = (times_parts k (value a env) n v).fits

pub none_refused : (f : NatError) (env : Numbers) (first : Option Expr) → first ≡ None → Refused first env f → ⊥
none_refused f env first none r =
    let P : Option Expr → Type 0 = λ o. Refused o env f in stops f (subst P none r)
  where
    stops : (g : NatError) → Refused None env g → ⊥
    stops Overflow h = absurd h
    stops (Unknown v) h = let same = h.0 in cc
    stops NoSolution h = absurd h

-- an expression without an unknown, of which no part lacks a value, has one
pub valued_known : (e : Expr) (env : Numbers) → unknowns e ≡ [] → first_lacking (parts e) env ≡ None → (n : ℕ) × (value e env ≡ Some n)
valued_known e env none valued = cases (known_number e env) (judged e env)
  where
    cases : (k : Known) → Judged e env k → (n : ℕ) × (value e env ≡ Some n)
    cases (Ok (Some n)) j = (n, j.0)
    cases (Ok None) j = let a : is_empty (unknowns e) ≡ false = j.1 in let b : is_empty (unknowns e) ≡ true = ap is_empty none in absurd cc
    cases (Err f) j = absurd (none_refused f env (first_lacking (parts e) env) valued j)

-- with an unknown it has none
pub unknown_none : (e : Expr) (env : Numbers) → is_empty (unknowns e) ≡ false → value e env ≡ None
unknown_none e env u = cases (value e env) refl
  where
    cases : (o : Option ℕ) → value e env ≡ o → o ≡ None
    cases None same = refl
    cases (Some n) same =
        let b : is_empty (unknowns e) ≡ true = ap is_empty (no_unknown_from_value e env n same) in cc

regroup : (x y z : Option ℕ) → within_any (exact_sum (sum_within x y) z) ≡ within_any (exact_sum x (exact_sum y z))
regroup None y z = refl
regroup (Some m) None z = refl
regroup (Some m) (Some n) None = no_sum (within (m + n))
  where
    no_sum : (o : Option ℕ) → within_any (exact_sum o None) ≡ None
    no_sum None = refl
    no_sum (Some k) = refl
regroup (Some m) (Some n) (Some k) =
    elim (cases_lt (m + n) (2 ^ 32)) [
      | inl h ↦ let e : m + n + k ≡ m + (n + k) = omega arith in ap (λ o. within_any (exact_sum o (Some k))) (within_fits (m + n) h) ∙ ap within e
      | inr h ↦ ap (λ o. within_any (exact_sum o (Some k))) (within_over (m + n) h) ∙ sym (within_over (m + (n + k)) (omega arith))
    ]

value_nested : (t : Expr) (ts : List Expr) (env : Numbers) → value (nested t ts) env ≡ within_any (exact_sum (value t env) (total ts env))
value_nested t [] env = alone (value t env) refl
  where
    alone : (o : Option ℕ) → value t env ≡ o → o ≡ within_any (exact_sum o (Some 0))
    alone None e = refl
    alone (Some n) e = let z : n + 0 ≡ n = omega arith in sym (ap within z ∙ within_fits n (value_small t env n e))
value_nested t (u ∷ us) env = value_nested (plus t u) us env ∙ regroup (value t env) (value u env) (total us env)

-- a sum's value doesn't depend on how its terms are grouped
pub value_sum : (ts : List Expr) (env : Numbers) → value (sum_of ts) env ≡ within_any (total ts env)
value_sum [] env = refl
value_sum (t ∷ ts) env = value_nested t ts env

put_nested : (x : ℕ) (t : Expr) (ts : List Expr) → put x (nested t ts) ≡ nested (put x t) (map (put x) ts)
put_nested x t [] = refl
put_nested x t (u ∷ us) = put_nested x (plus t u) us

pub put_sum : (x : ℕ) (ts : List Expr) → put x (sum_of ts) ≡ sum_of (map (put x) ts)
put_sum x [] = refl
put_sum x (t ∷ ts) = put_nested x t ts

total_known : (x : ℕ) (ts : List Expr) (env : Numbers) → unknowns_in ts ≡ [] → AllValued ts env → total (map (put x) ts) env ≡ Some (known_total ts env)
total_known x [] env u a = refl
total_known x (t ∷ ts) env u a =
    let none : unknowns t ≡ [] = nil_left (unknowns t) (unknowns_in ts) u in
    let v = valued_known t env none a.0 in
    let e : value (put x t) env ≡ Some v.0 = ap (λ f. value f env) (put_known x t none) ∙ v.1 in
    (λ i. exact_sum (e i) (total_known x ts env (nil_right (unknowns t) (unknowns_in ts) u) a.1 i)) ∙ ap (λ o. Some (number_or_0 o + known_total ts env)) (sym v.1)

exact_assoc : (m n : ℕ) (w : Option ℕ) → exact_sum (Some m) (exact_sum (Some n) w) ≡ exact_sum (Some (m + n)) w
exact_assoc m n None = refl
exact_assoc m n (Some k) = let e : m + (n + k) ≡ m + n + k = omega arith in ap Some e

exact_swap : (n : ℕ) (w : Option ℕ) → exact_sum w (Some n) ≡ exact_sum (Some (0 + n)) w
exact_swap n None = refl
exact_swap n (Some k) = let e : k + n ≡ 0 + n + k = omega arith in ap Some e

pub total_put : (x : ℕ) (ts : List Expr) (env : Numbers) (v : ℕ) → unknowns_in ts ≡ v ∷ [] → AllValued ts env → total (map (put x) ts) env ≡ exact_sum (Some (known_total ts env)) (value (put x (holder ts)) env)
total_put x [] env v u a = cc
total_put x (t ∷ ts) env v u a = cases (is_empty (unknowns t)) refl (λ w. total_put x ts env v w a.1)
  where
    cases : (b : Bool) → is_empty (unknowns t) ≡ b → (unknowns_in ts ≡ v ∷ [] → total (map (put x) ts) env ≡ exact_sum (Some (known_total ts env)) (value (put x (holder ts)) env))
        → exact_sum (value (put x t) env) (total (map (put x) ts) env) ≡ exact_sum (Some (number_or_0 (value t env) + known_total ts env)) (value (put x (cond b (holder ts) t)) env)
    cases true is rest =
        let none : unknowns t ≡ [] = empty_is (unknowns t) is in
        let w = valued_known t env none a.0 in
        let e : value (put x t) env ≡ Some w.0 = ap (λ f. value f env) (put_known x t none) ∙ w.1 in
        let r = rest (one_right (unknowns t) (unknowns_in ts) v u none) in
        (λ i. exact_sum (e i) (r i))
        ∙ exact_assoc w.0 (known_total ts env) (value (put x (holder ts)) env)
        ∙ ap (λ o. exact_sum (Some (number_or_0 o + known_total ts env)) (value (put x (holder ts)) env)) (sym w.1)
    cases false is rest =
        let parted = one_left (unknowns t) (unknowns_in ts) v u is in
        ap (exact_sum (value (put x t) env)) (total_known x ts env parted.1 a.1)
        ∙ exact_swap (known_total ts env) (value (put x t) env)
        ∙ ap (λ o. exact_sum (Some (number_or_0 o + known_total ts env)) (value (put x t) env)) (sym (unknown_none t env is))

without : (t n : ℕ) (w : Option ℕ) → n < 2 ^ 32 → (within_any (exact_sum (Some t) w) ≡ Some n) ↔ ((t ≤ n) × (w ≡ Some (n - t)))
without t n None small = (λ e. cc, λ h. let e = h.1 in cc)
without t n (Some m) small = (
  λ e. let p = within_some (t + m) n e in (omega (arith, p.0), let s : m ≡ n - t = omega (arith, p.0) in ap Some s),
  λ h. let e : Some m ≡ Some (n - t) = h.1 in let s : m ≡ n - t = cc in let a : t ≤ n = h.0 in let q : t + m ≡ n = omega arith in ap within q ∙ within_fits n small,
)

-- a sum has the value n where the term with the unknown has n less the others
pub sum_solved : (x n : ℕ) (ts : List Expr) (env : Numbers) (v : ℕ) → n < 2 ^ 32 → Holders ts env v
    → (value (put x (sum_of ts)) env ≡ Some n) ↔ ((known_total ts env ≤ n) × (value (put x (holder ts)) env ≡ Some (n - known_total ts env)))
sum_solved x n ts env v small h =
    let e : value (put x (sum_of ts)) env ≡ within_any (exact_sum (Some (known_total ts env)) (value (put x (holder ts)) env)) =
    ap (λ f. value f env) (put_sum x ts) ∙ value_sum (map (put x) ts) env ∙ ap within_any (total_put x ts env v h.only h.valued) in
    let w = without (known_total ts env) n (value (put x (holder ts)) env) small in
    (λ s. w.0 (sym e ∙ s), λ s. e ∙ w.1 s)

-- the terms of a sum with one unknown
unknowns_nested : (t : Expr) (ts : List Expr) → unknowns (nested t ts) ≡ unknowns t ++ unknowns_in ts
unknowns_nested t [] = sym (append_nil (unknowns t))
unknowns_nested t (u ∷ us) = unknowns_nested (plus t u) us ∙ append_assoc (unknowns t) (unknowns u) (unknowns_in us)

cancelled_nested : (t : Expr) (ts : List Expr) → cancelled (nested t ts) ≡ cancelled t ++ cancelled_in ts
cancelled_nested t [] = sym (append_nil (cancelled t))
cancelled_nested t (u ∷ us) = cancelled_nested (plus t u) us ∙ append_assoc (cancelled t) (cancelled u) (cancelled_in us)

valued_nested : (t : Expr) (ts : List Expr) (env : Numbers) → first_lacking (parts (nested t ts)) env ≡ None → AllValued (t ∷ ts) env
valued_nested t [] env h = (h, tt)
valued_nested t (u ∷ us) env h =
    let r = valued_nested (plus t u) us env h in
    (none_left (parts t) _ env r.0, (none_left (parts u) _ env (none_right (parts t) _ env r.0), r.1))

pub holders_from : (ts : List Expr) (env : Numbers) (v : ℕ) → Holder (sum_of ts) env v → Holders ts env v
holders_from [] env v h = let u : [] ≡ v ∷ [] = h.only in absurd cc
holders_from (t ∷ ts) env v h = record {
  only = sym (unknowns_nested t ts) ∙ h.only;
  counts = sym (cancelled_nested t ts) ∙ h.counts;
  valued = valued_nested t ts env h.valued;
}

-- a term without the unknown, or the one with it
pub holders_rest : (t : Expr) (ts : List Expr) (env : Numbers) (v : ℕ) → unknowns t ≡ [] → Holders (t ∷ ts) env v → Holders ts env v
holders_rest t ts env v none h = record {
  only = one_right (unknowns t) (unknowns_in ts) v h.only none;
  counts = nil_right (cancelled t) (cancelled_in ts) h.counts;
  valued = h.valued.1;
}

pub holder_first : (t : Expr) (ts : List Expr) (env : Numbers) (v : ℕ) → is_empty (unknowns t) ≡ false → Holders (t ∷ ts) env v → Holder t env v
holder_first t ts env v some h = record {
  only = (one_left (unknowns t) (unknowns_in ts) v h.only some).0;
  counts = nil_left (cancelled t) (cancelled_in ts) h.counts;
  valued = h.valued.0;
}

-- a multiple
pub holder_times : (k : ℕ) (a : Expr) (env : Numbers) (v : ℕ) → Holder (times k a) env v → Holder a env v
holder_times k a env v h = record {
  only = h.only;
  counts = (counted (nat_eq k 0) (unknowns a) (cancelled a) v h.only h.counts).1;
  valued = none_left (parts a) _ env h.valued;
}

-- a term of a slice, and the terms behind it
pub drop_here : (all : List NatExpr) (i : ℕ) (here : NatExpr) → i < length all → here ≡ get_or all i here → drop i all ≡ here ∷ drop (i + 1) all
drop_here all i here lt is = at_drop_more (λ ts. ts) all i here lt ∙ ap (λ t. t ∷ drop (i + 1) all) (sym is)

pub valued_here : (all : List NatExpr) (i : ℕ) (here : NatExpr) (env : Numbers) → i < length all → here ≡ get_or all i here → AllValued (exprs (drop i all)) env
    → (first_lacking (parts (expr here)) env ≡ None) × AllValued (exprs (drop (i + 1) all)) env
valued_here all i here env lt is h =
    let P : List NatExpr → Type 0 = λ ts. AllValued (exprs ts) env in subst P (drop_here all i here lt is) h

pub total_here : (all : List NatExpr) (i : ℕ) (here : NatExpr) (env : Numbers) → i < length all → here ≡ get_or all i here
    → known_total (exprs (drop i all)) env ≡ number_or_0 (value (expr here) env) + known_total (exprs (drop (i + 1) all)) env
total_here all i here env lt is = ap (λ ts. known_total (exprs ts) env) (drop_here all i here lt is)

pub holders_here : (all : List NatExpr) (i : ℕ) (here : NatExpr) (env : Numbers) (v : ℕ) → i < length all → here ≡ get_or all i here → Holders (exprs (drop i all)) env v → Holders (expr here ∷ exprs (drop (i + 1) all)) env v
holders_here all i here env v lt is h =
    let P : List NatExpr → Type 0 = λ ts. Holders (exprs ts) env v in subst P (drop_here all i here lt is) h

pub first_here : (all : List NatExpr) (i : ℕ) (here : NatExpr) → i < length all → here ≡ get_or all i here → holder (exprs (drop i all)) ≡ cond (is_empty (unknowns (expr here))) (holder (exprs (drop (i + 1) all))) (expr here)
first_here all i here lt is = ap (λ ts. holder (exprs ts)) (drop_here all i here lt is)

-- what `known_or_zero` gives
pub part_number : (e : Expr) (env : Numbers) (n : ℕ) → Ok (Some n) ≡ known_number e env → n ≡ number_or_0 (value e env)
part_number e env n known = let j : Judged e env (Ok (Some n)) = judged_as e env (Ok (Some n)) known in sym (ap number_or_0 j.0)

pub part_unknown : (e : Expr) (env : Numbers) → Ok None ≡ known_number e env → 0 ≡ number_or_0 (value e env)
part_unknown e env known = let j : Judged e env (Ok None) = judged_as e env (Ok None) known in sym (ap number_or_0 j.0)

pub part_refused : (e : Expr) (env : Numbers) (f : NatError) → first_lacking (parts e) env ≡ None → Err f ≡ known_number e env → ⊥
part_refused e env f none known = none_refused f env (first_lacking (parts e) env) none (judged_as e env (Err f) known)

-- the view of a sum and of a multiple
pub expr_sum : (e : NatExpr) (ts : List NatExpr) → e ≡ Sum ts → expr e ≡ sum_of (exprs ts)
expr_sum e ts is = rw is (search (rules, the_lemmas))

pub expr_times : (e : NatExpr) (k : ℕ) (a : NatExpr) → e ≡ Times k a → expr e ≡ times k (expr a)
expr_times e k a is = rw is (search (rules, the_lemmas))

pub holders_of : (e : NatExpr) (ts all : List NatExpr) (env : Numbers) (v : ℕ) → e ≡ Sum ts → all ≡ ts → Holder (expr e) env v → Holders (exprs all) env v
holders_of e ts all env v is same h =
    let P : Expr → Type 0 = λ f. Holder f env v in
    let Q : List NatExpr → Type 0 = λ us. Holders (exprs us) env v in
    subst Q (sym same) (holders_from (exprs ts) env v (subst P (expr_sum e ts is) h))

pub holder_of : (e : NatExpr) (k : ℕ) (a b : NatExpr) (env : Numbers) (v : ℕ) → e ≡ Times k a → b ≡ a → Holder (expr e) env v → Holder (expr b) env v
holder_of e k a b env v is same h =
    let P : Expr → Type 0 = λ f. Holder f env v in
    let Q : NatExpr → Type 0 = λ f. Holder (expr f) env v in
    subst Q (sym same) (holder_times k (expr a) env v (subst P (expr_times e k a is) h))

-- a sum where less is left than its other terms, and one where enough is
pub sum_unsolved : (e : NatExpr) (ts all : List NatExpr) (env : Numbers) (v n x : ℕ) → e ≡ Sum ts → all ≡ ts → n < 2 ^ 32 → Holder (expr e) env v → (known_total (exprs all) env ≤ n → ⊥) → value (put x (expr e)) env ≡ Some n → ⊥
sum_unsolved e ts all env v n x is same small h more s =
    let a = holders_of e ts all env v is same h in
    let q : expr e ≡ sum_of (exprs all) = expr_sum e ts is ∙ ap (λ us. sum_of (exprs us)) (sym same) in
    more ((sum_solved x n (exprs all) env v small a).0 (sym (ap (λ f. value (put x f) env) q) ∙ s)).0

pub sum_left : (e : NatExpr) (ts all : List NatExpr) (env : Numbers) (v n rest : ℕ) (r : Option ℕ) → e ≡ Sum ts → all ≡ ts → n < 2 ^ 32 → Holder (expr e) env v → known_total (exprs all) env ≤ n → rest ≡ n - known_total (exprs all) env
    → ((x : ℕ) → (r ≡ Some x) ↔ (value (put x (holder (exprs all))) env ≡ Some rest)) → (x : ℕ) → (r ≡ Some x) ↔ (value (put x (expr e)) env ≡ Some n)
sum_left e ts all env v n rest r is same small h enough left gives x =
    let a = holders_of e ts all env v is same h in
    let q : expr e ≡ sum_of (exprs all) = expr_sum e ts is ∙ ap (λ us. sum_of (exprs us)) (sym same) in
    let w = sum_solved x n (exprs all) env v small a in
    let p : value (put x (expr e)) env ≡ value (put x (sum_of (exprs all))) env = ap (λ f. value (put x f) env) q in
    (λ s. p ∙ w.1 (enough, (gives x).0 s ∙ ap Some left), λ s. (gives x).1 ((w.0 (sym p ∙ s)).1 ∙ ap Some (sym left)))

pub same_factor : (k m q : ℕ) → (k ≡ 0 → ⊥) → k * m ≡ k * q → m ≡ q
same_factor k m q counts e =
    let low : 0 < k = omega arith in
    sym (mul-div_cancel_left m low) ∙ ap (λ z. z / k) e ∙ mul-div_cancel_left q low

-- a multiple, where the factor divides and where it doesn't
times_solved : (k n q : ℕ) (w : Option ℕ) → n ≡ k * q → n < 2 ^ 32 → (k ≡ 0 → ⊥) → (times_within k w ≡ Some n) ↔ (w ≡ Some q)
times_solved k n q None is small counts = (λ e. cc, λ e. cc)
times_solved k n q (Some m) is small counts = (
  λ e. let p = within_some (k * m) n e in ap Some (same_factor k m q counts (p.0 ∙ is)),
  λ e. let s : m ≡ q = cc in let a : k * m ≡ n = ap (λ z. k * z) s ∙ sym is in ap within a ∙ within_fits n small,
)

divided : (n k : ℕ) → (k ≡ 0 → ⊥) → n % k ≡ 0 → n ≡ k * (n / k)
divided n k counts even = let low : 0 < k = omega arith in omega arith

pub factor_counts : (k : ℕ) (a : Expr) (env : Numbers) (v : ℕ) → Holder (times k a) env v → k ≡ 0 → ⊥
factor_counts k a env v h zero =
    let b : nat_eq k 0 ≡ true = eq-eqb k 0 zero in
    let c : nat_eq k 0 ≡ false = (counted (nat_eq k 0) (unknowns a) (cancelled a) v h.only h.counts).0 in cc

pub times_left : (e : NatExpr) (k : ℕ) (a b : NatExpr) (env : Numbers) (v n : ℕ) (r : Option ℕ) → e ≡ Times k a → b ≡ a → n < 2 ^ 32 → Holder (expr e) env v → n % k ≡ 0
    → ((x : ℕ) → (r ≡ Some x) ↔ (value (put x (expr b)) env ≡ Some (n / k))) → (x : ℕ) → (r ≡ Some x) ↔ (value (put x (expr e)) env ≡ Some n)
times_left e k a b env v n r is same small h even gives x =
    let P : Expr → Type 0 = λ f. Holder f env v in
    let counts = factor_counts k (expr a) env v (subst P (expr_times e k a is) h) in
    let p : value (put x (expr e)) env ≡ times_within k (value (put x (expr b)) env) = ap (λ f. value (put x f) env) (expr_times e k a is) ∙ ap (λ f. times_within k (value (put x (expr f)) env)) (sym same) in
    let w = times_solved k n (n / k) (value (put x (expr b)) env) (divided n k counts even) small counts in
    (λ s. p ∙ w.1 ((gives x).0 s), λ s. (gives x).1 (w.0 (sym p ∙ s)))

pub times_unsolved : (e : NatExpr) (k : ℕ) (a : NatExpr) (env : Numbers) (n x : ℕ) → e ≡ Times k a → (n % k ≡ 0 → ⊥) → value (put x (expr e)) env ≡ Some n → ⊥
times_unsolved e k a env n x is odd s =
    let p = times_parts k (value (put x (expr a)) env) n (sym (ap (λ f. value (put x f) env) (expr_times e k a is)) ∙ s) in
    odd (ap (λ z. z % k) p.is ∙ mul-mod_right k p.factor)

pub some_when : (b c : Bool) → b ≡ not c → b ≡ true → c ≡ false
some_when b true e t = cc
some_when b false e t = refl

pub none_when : (b c : Bool) → b ≡ not c → b ≡ false → c ≡ true
none_when b true e t = refl
none_when b false e t = cc

pub known_when : (us : List ℕ) (b : Bool) → b ≡ not (is_empty us) → b ≡ false → us ≡ []
known_when [] b e t = refl
known_when (u ∷ us) b e t = cc
