-- Totals that stop at the greatest number of the type.
use Rattle.std.proofs.Common.{◌≡◌, ◌<◌, ◌+◌, ap, sym, ◌∙◌, refl, arith, ℕ, List, [], ◌∷◌, map, length, drop, get_or, min, Bool, false, suc, add-one, ◌||◌}
use Rattle.std.specs.Prelude.{Option, Some, None, option_map, nat_lt}
use Rattle.std.proofs.lemmas.Bool.Decides.{nat_tests}
use Rattle.nat_solver.specs.Number.{exact_sum}
use Rattle.tlb_syntax.specs.declared.tree.Expr.{Expr}
use Rattle.tlb_syntax.specs.View.{expr}
use Rattle.std.proofs.Math.Seq.{drop-cons}
use Rattle.tlb_syntax.specs.Tree.{ExprView}
use Rattle.kind_terms.specs.Closed.{closed, exceeds}
use Rattle.kind_terms.specs.Params.{greatest}
use Rattle.kind_rules.specs.Sums.{is_past_total}

lt_min : (n m x : ℕ) → n < m → nat_lt n (min m x) ≡ nat_lt n x
lt_min n m x h = grind (arith, nat_tests)

min_sum : (m a b : ℕ) → min m (min m a + b) ≡ min m (a + b)
min_sum m a b = omega arith

exceeds_cap : (n m : ℕ) (o : Option ℕ) → n < m → exceeds n (option_map (min m) o) ≡ exceeds n o
exceeds_cap n m None h = refl
exceeds_cap n m (Some x) h = lt_min n m x h

cap_sum : (m : ℕ) (o p : Option ℕ) → option_map (min m) (exact_sum (option_map (min m) o) p) ≡ option_map (min m) (exact_sum o p)
cap_sum m None p = refl
cap_sum m (Some a) None = refl
cap_sum m (Some a) (Some b) = ap Some (min_sum m a b)

cap_right : (m : ℕ) (o p : Option ℕ) → option_map (min m) (exact_sum o (option_map (min m) p)) ≡ option_map (min m) (exact_sum o p)
cap_right m None p = refl
cap_right m (Some a) None = refl
cap_right m (Some a) (Some b) = ap Some (omega arith)

pub past_cap : (n m : ℕ) (o : Option ℕ) (us : List ExprView) → n < m → greatest < m
    → is_past_total n (option_map (min m) o) us ≡ is_past_total n o us
past_cap n m o [] h g = exceeds_cap n m o h
past_cap n m o (u ∷ us) h g =
    ap (λ b. b || is_past_total n (exact_sum (option_map (min m) o) (closed u)) us) (exceeds_cap greatest m o g)
    ∙ ap (λ b. exceeds greatest o || b)
    (sym (past_cap n m (exact_sum (option_map (min m) o) (closed u)) us h g)
    ∙ ap (λ p. is_past_total n p us) (cap_sum m o (closed u))
    ∙ past_cap n m (exact_sum o (closed u)) us h g)

-- two totals with or without the cap
pub past_cap_sum : (n m : ℕ) (o p : Option ℕ) (us : List ExprView) → n < m → greatest < m
    → is_past_total n (option_map (min m) (exact_sum o (option_map (min m) p))) us ≡ is_past_total n (exact_sum o p) us
past_cap_sum n m o p us h g =
    ap (λ x. is_past_total n x us) (cap_right m o p) ∙ past_cap n m (exact_sum o p) us h g

pub total_step : (n m : ℕ) (o p q : Option ℕ) (es : List Expr) (i : ℕ) (e : Expr) (b : Bool) → n < m → greatest < m
    → i < length es → e ≡ get_or es i e → is_past_total n o (map expr (drop i es)) ≡ b
    → exceeds greatest o ≡ false → p ≡ option_map (min m) (closed (expr e)) → q ≡ option_map (min m) (exact_sum o p)
    → is_past_total n q (map expr (drop (i + 1) es)) ≡ b
total_step n m o p q es i e b h g lt is gone above value total =
    let us = map expr (drop (i + 1) es) in
    let front : map expr (drop i es) ≡ expr e ∷ us =
    ap (map expr) (drop-cons es i e lt ∙ ap (λ x. x ∷ drop (suc i) es) (sym is))
    ∙ ap (λ k. expr e ∷ map expr (drop k es)) (sym (add-one i)) in
    ap (λ x. is_past_total n x us) (total ∙ ap (λ x. option_map (min m) (exact_sum o x)) value)
    ∙ past_cap_sum n m o (closed (expr e)) us h g
    ∙ sym (ap (λ x. x || is_past_total n (exact_sum o (closed (expr e))) us) above)
    ∙ sym (ap (is_past_total n o) front)
    ∙ gone

-- a total that begins with two terms
pub sum_past : (n m : ℕ) (o p l r s : Option ℕ) (us : List ExprView) (b : Bool) → n < m → greatest < m
    → l ≡ option_map (min m) o → r ≡ option_map (min m) p → s ≡ option_map (min m) (exact_sum l r)
    → b ≡ is_past_total n s us → b ≡ is_past_total n (exact_sum o p) us
sum_past n m o p l r s us b h g left right two past =
    past
    ∙ ap (λ x. is_past_total n x us)
    (two ∙ ap (λ z. option_map (min m) (exact_sum z r)) left ∙ ap (λ z. option_map (min m) (exact_sum (option_map (min m) o) z)) right)
    ∙ past_cap_sum n m (option_map (min m) o) p us h g
    ∙ sym (past_cap n m (exact_sum (option_map (min m) o) p) us h g)
    ∙ ap (λ x. is_past_total n x us) (cap_sum m o p)
    ∙ past_cap n m (exact_sum o p) us h g
