-- Number variables in expressions.
use Rattle.std.proofs.Common.{◌≡◌, ap, sym, ◌∙◌, List, [], ◌∷◌, ◌++◌, map, refl, Bool, true, false, ◌||◌}
use Rattle.std.specs.List.{list_any}
use Rattle.std.proofs.lemmas.List.Folds.{list_any-append}
use Rattle.tlb_syntax.specs.Tree.{ExprView, ExprList, plus, an_expr, exprs_of, nested}
use Rattle.kind_terms.specs.Forms.{parts, parts_of_all}
use Rattle.tlb_syntax.specs.declared.tree.Expr.{Expr}
use Rattle.tlb_syntax.specs.declared.tree.Expr.TheVariants.{Sum}
use Rattle.tlb_syntax.specs.View.{expr, exprs}
use Rattle.kind_terms.specs.Scopes.{Scope}
use Rattle.kind_rules.specs.Numbers.{holds_variable, is_variable_in}
use Rattle.kind_terms.specs.ViewLaws.{seen_sum}

or_assoc : (a b c : Bool) → ((a || b) || c) ≡ (a || (b || c))
or_assoc true b c = refl
or_assoc false b c = refl

or_false : (a : Bool) → (a || false) ≡ a
or_false true = refl
or_false false = refl

-- a test that no sum passes
module _ (p : ExprView → Bool) (sums : (a b : ExprView) → p (plus a b) ≡ false) where
  any_in_plus : (a b : ExprView) → list_any p (parts (plus a b)) ≡ (list_any p (parts a) || list_any p (parts b))
  any_in_plus a b = ap (λ x. x || list_any p (parts a ++ parts b)) (sums a b) ∙ list_any-append p (parts a) (parts b)

  any_in_all : (e : ExprView) (es : ExprList)
      → list_any p (parts_of_all (an_expr e es)) ≡ (list_any p (parts e) || list_any p (parts_of_all es))
  any_in_all e es = list_any-append p (parts e) (parts_of_all es)

  any_in_nested : (t : ExprView) (us : List ExprView)
      → list_any p (parts (nested t us)) ≡ (list_any p (parts t) || list_any p (parts_of_all (exprs_of us)))
  any_in_nested t [] = sym (or_false (list_any p (parts t)))
  any_in_nested t (u ∷ us) =
      any_in_nested (plus t u) us
      ∙ ap (λ x. x || list_any p (parts_of_all (exprs_of us))) (any_in_plus t u)
      ∙ or_assoc (list_any p (parts t)) (list_any p (parts u)) (list_any p (parts_of_all (exprs_of us)))
      ∙ ap (λ x. list_any p (parts t) || x) (sym (any_in_all u (exprs_of us)))

holds_in_sum : (s : Scope) (e a b : Expr) (es : List Expr) → e ≡ Sum a b es
    → ((holds_variable s (expr a) || holds_variable s (expr b)) || list_any (is_variable_in s) (parts_of_all (exprs es)))
    ≡ holds_variable s (expr e)
holds_in_sum s e a b es is =
    let p = is_variable_in s in
    sym (ap (holds_variable s) (seen_sum e a b es is)
    ∙ any_in_nested p (λ x y. refl) (plus (expr a) (expr b)) (map expr es)
    ∙ ap (λ x. x || list_any p (parts_of_all (exprs es))) (any_in_plus p (λ x y. refl) (expr a) (expr b)))

-- in the first of two terms, or not there
pub first_holds : (s : Scope) (x a : Expr) (r v b : Bool) → x ≡ a → r ≡ holds_variable s (expr x) → r ≡ true → v ≡ r
    → v ≡ (holds_variable s (expr a) || b)
first_holds s x a r v b same is met value =
    value ∙ met ∙ sym (ap (λ z. z || b) (sym (is ∙ ap (λ d. holds_variable s (expr d)) same) ∙ met))

pub second_holds : (s : Scope) (x a y b : Expr) (r q v : Bool) → x ≡ a → r ≡ holds_variable s (expr x) → r ≡ false
    → y ≡ b → q ≡ holds_variable s (expr y) → v ≡ q → v ≡ (holds_variable s (expr a) || holds_variable s (expr b))
second_holds s x a y b r q v same is none other second value =
    value ∙ second ∙ ap (λ d. holds_variable s (expr d)) other
    ∙ sym (ap (λ z. z || holds_variable s (expr b)) (sym (is ∙ ap (λ d. holds_variable s (expr d)) same) ∙ none))

pub holds_in_two : (s : Scope) (e a b : Expr) (es : List Expr) (v : Bool) → e ≡ Sum a b es
    → v ≡ (holds_variable s (expr a) || holds_variable s (expr b)) → v ≡ true → v ≡ holds_variable s (expr e)
holds_in_two s e a b es v is two met =
    met ∙ sym (sym (holds_in_sum s e a b es is) ∙ ap (λ z. z || list_any (is_variable_in s) (parts_of_all (exprs es))) (sym two ∙ met))

pub holds_in_rest : (s : Scope) (e a b : Expr) (es us : List Expr) (v r : Bool) → e ≡ Sum a b es
    → v ≡ (holds_variable s (expr a) || holds_variable s (expr b)) → v ≡ false → us ≡ es
    → r ≡ list_any (is_variable_in s) (parts_of_all (exprs us)) → r ≡ holds_variable s (expr e)
holds_in_rest s e a b es us v r is two none same rest =
    rest ∙ ap (λ ds. list_any (is_variable_in s) (parts_of_all (exprs ds))) same
    ∙ sym (sym (holds_in_sum s e a b es is) ∙ ap (λ z. z || list_any (is_variable_in s) (parts_of_all (exprs es))) (sym two ∙ none))
