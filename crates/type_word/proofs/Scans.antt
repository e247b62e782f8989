-- The signs of an expression, form by form.
use Rattle.std.proofs.Common.{◌≡◌, ◌<◌, ◌≤◌, ◌+◌, ℕ, ap, sym, ◌∙◌, List, [], ◌∷◌, ◌++◌, length, drop, get_or, refl, Bool, true, false}
use Rattle.std.proofs.Common.{map}
use Rattle.std.specs.Prelude.{not, ◌||◌}
use Rattle.std.proofs.lemmas.List.{append_assoc}
use Rattle.tlb_syntax.specs.declared.tree.Expr.{Expr}
use Rattle.tlb_syntax.specs.declared.tree.Item.{Item}
use Rattle.tlb_syntax.specs.declared.tree.Expr.TheVariants.{Sum, Star, Out, Group}
use Rattle.tlb_syntax.specs.View.{expr, exprs, items}
use Rattle.tlb_syntax.specs.Tree.{ExprView, plus, nested}
use Rattle.kind_terms.specs.Params.{is_literal}
use Rattle.kind_terms.specs.ViewLaws.{drop_at, drop_end, seen_sum, seen_star, seen_out, seen_group}
use Rattle.type_word.specs.Signs.{refused_signs, refused_in, refused_in_items, first_refused}
use Rattle.type_word.specs.Scanning.{Scanned, refused, passed, scanned, and_then, place_in, scanned_first}

nothing_left : (bs : List Bool) → passed [] ≡ scanned bs []
nothing_left [] = refl
nothing_left (b ∷ bs) = refl

scanned_both : (bs cs : List Bool) (places : List ℕ) → and_then (scanned bs places) cs ≡ scanned (bs ++ cs) places
scanned_both [] cs places = refl
scanned_both (b ∷ bs) cs [] = sym (nothing_left cs)
scanned_both (true ∷ bs) cs (place ∷ places) = refl
scanned_both (false ∷ bs) cs (place ∷ places) = scanned_both bs cs places

pub and_none : (s : Scanned) → s ≡ and_then s []
and_none (refused place) = refl
and_none (passed places) = refl

and_both : (s : Scanned) (bs cs : List Bool) → and_then (and_then s bs) cs ≡ and_then s (bs ++ cs)
and_both (refused place) bs cs = refl
and_both (passed places) bs cs = scanned_both bs cs places

-- a sign that is refused decides
true_ends : (s : Scanned) (bs : List Bool) → and_then s (true ∷ []) ≡ and_then s (true ∷ bs)
true_ends (refused place) bs = refl
true_ends (passed []) bs = refl
true_ends (passed (place ∷ places)) bs = refl

pub record SumSigns (t u : ExprView) (us : List ExprView) : Type 0 where
  pub rest : List Bool
  pub is : refused_signs t ++ true ∷ rest ≡ refused_signs (nested (plus t u) us)

sum_signs : (t u : ExprView) (us : List ExprView) → SumSigns t u us
sum_signs t u [] = record { rest = refused_signs u; is = refl }
sum_signs t u (v ∷ us) =
    let r = sum_signs (plus t u) v us in record {
      rest = refused_signs u ++ true ∷ r.rest;
      is = sym (append_assoc (refused_signs t) (true ∷ refused_signs u) (true ∷ r.rest)) ∙ r.is;
    }

pub scan_sum : (s : Scanned) (e a b : Expr) (es : List Expr) → e ≡ Sum a b es
    → and_then (and_then s (refused_signs (expr a))) (true ∷ []) ≡ and_then s (refused_signs (expr e))
scan_sum s e a b es is =
    let r = sum_signs (expr a) (expr b) (map expr es) in
    true_ends (and_then s (refused_signs (expr a))) r.rest
    ∙ and_both s (refused_signs (expr a)) (true ∷ r.rest)
    ∙ ap (and_then s) r.is
    ∙ sym (ap (λ v. and_then s (refused_signs v)) (seen_sum e a b es is))

pub scan_star : (s : Scanned) (e a b : Expr) (k : Bool) → e ≡ Star a b → k ≡ (not (is_literal (expr a)) || is_literal (expr b))
    → and_then (and_then (and_then s (refused_signs (expr a))) (k ∷ [])) (refused_signs (expr b))
    ≡ and_then s (refused_signs (expr e))
scan_star s e a b k is kind =
    and_both (and_then s (refused_signs (expr a))) (k ∷ []) (refused_signs (expr b))
    ∙ and_both s (refused_signs (expr a)) (k ∷ refused_signs (expr b))
    ∙ ap (λ j. and_then s (refused_signs (expr a) ++ j ∷ refused_signs (expr b))) kind
    ∙ sym (ap (λ v. and_then s (refused_signs v)) (seen_star e a b is))

pub scan_out : (s : Scanned) (e a : Expr) → e ≡ Out a → and_then s (true ∷ []) ≡ and_then s (refused_signs (expr e))
scan_out s e a is =
    true_ends s (refused_signs (expr a)) ∙ sym (ap (λ v. and_then s (refused_signs v)) (seen_out e a is))

pub scan_group : (s : Scanned) (e : Expr) (list : List Item) → e ≡ Group list
    → and_then s (true ∷ []) ≡ and_then s (refused_signs (expr e))
scan_group s e list is =
    true_ends s (refused_in_items (items list)) ∙ sym (ap (λ v. and_then s (refused_signs v)) (seen_group e list is))

pub scan_turn : (s r : Scanned) (es : List Expr) (i : ℕ) (e : Expr) → i < length es → e ≡ get_or es i e
    → r ≡ and_then s (refused_signs (expr e))
    → and_then r (refused_in (exprs (drop (i + 1) es))) ≡ and_then s (refused_in (exprs (drop i es)))
scan_turn s r es i e lt at is =
    ap (λ z. and_then z (refused_in (exprs (drop (i + 1) es)))) is
    ∙ and_both s (refused_signs (expr e)) (refused_in (exprs (drop (i + 1) es)))
    ∙ sym (ap (λ l. and_then s (refused_in l)) (drop_at es i e lt at))

pub scan_end : (r : Scanned) (es : List Expr) (i : ℕ) → length es ≤ i → r ≡ and_then r (refused_in (exprs (drop i es)))
scan_end r es i h = and_none r ∙ sym (ap (λ l. and_then r (refused_in l)) (drop_end es i h))

pub found : (s : Scanned) (bs : List Bool) (places : List ℕ) → s ≡ and_then (passed places) bs → place_in s ≡ first_refused bs places
found s bs places is = ap place_in is ∙ scanned_first bs places
