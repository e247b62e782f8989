-- What a sum of two terms and more is.
use Rattle.std.proofs.Common.{◌≡◌, ◌≢◌, ℕ, ap, sym, ◌∙◌, List, [], ◌∷◌, map, refl, Bool, true, false, ◌↔◌}
use Rattle.std.specs.Prelude.{IsTrue, None, if◌then◌else◌}
use Rattle.tlb_syntax.specs.declared.tree.Expr.{Expr, fold-roll-Expr}
use Rattle.tlb_syntax.specs.declared.tree.Expr.TheVariants.{Named, Star, Sum, rolls-Named, rolls-Star, rolls-Sum}
use Rattle.tlb_syntax.specs.declared.tree.Expr.TheOpen.{Named as NamedPart, Star as StarPart, Sum as SumPart}
use Rattle.tlb_syntax.specs.View.{expr, exprs, expr_step, type_step, item_step}
use Rattle.tlb_syntax.specs.Tree.{ExprView, TypeView, ItemView, named, plus, star, nested, sum_of}
use Rattle.kind_terms.specs.Params.{bare_name, is_literal, variable_of}

pub expr_of_sum : (a b : Expr) (es : List Expr) → expr (Sum a b es) ≡ sum_of (expr a) (expr b) (map expr es)
expr_of_sum a b es =
    ap expr (sym (rolls-Sum a b es))
    ∙ fold-roll-Expr ExprView TypeView ItemView expr_step type_step item_step (SumPart a b es)

pub expr_of_name : (x : List ℕ) (es : List Expr) → expr (Named x es) ≡ named x (exprs es)
expr_of_name x es =
    ap expr (sym (rolls-Named x es))
    ∙ fold-roll-Expr ExprView TypeView ItemView expr_step type_step item_step (NamedPart x es)

pub expr_of_star : (a b : Expr) → expr (Star a b) ≡ star (expr a) (expr b)
expr_of_star a b =
    ap expr (sym (rolls-Star a b))
    ∙ fold-roll-Expr ExprView TypeView ItemView expr_step type_step item_step (StarPart a b)

-- what answers one thing at each sum of two operands answers it at a sum of more terms
pub at_sum : {X : Type 0} (f : ExprView → X) (x : X) → ((a b : ExprView) → f (plus a b) ≡ x)
    → (t u : ExprView) (us : List ExprView) → f (nested (plus t u) us) ≡ x
at_sum f x h t u [] = h t u
at_sum f x h t u (v ∷ us) = at_sum f x h (plus t u) v us

pub of_sum : {X : Type 0} (f : ExprView → X) (x : X) → ((a b : ExprView) → f (plus a b) ≡ x)
    → (e a b : Expr) (es : List Expr) → e ≡ Sum a b es → x ≡ f (expr e)
of_sum f x h e a b es is =
    sym (ap f (ap expr is ∙ expr_of_sum a b es) ∙ at_sum f x h (expr a) (expr b) (map expr es))

bare_name_of_args : (x : List ℕ) (es : List Expr) → es ≢ [] → bare_name (named x (exprs es)) ≡ None
bare_name_of_args x [] n = absurd (n refl)
bare_name_of_args x (e ∷ es) n = refl

pub applied : (e : Expr) (x : List ℕ) (es : List Expr) → e ≡ Named x es → es ≢ [] → None ≡ bare_name (expr e)
applied e x es is n = sym (ap bare_name (ap expr is ∙ expr_of_name x es) ∙ bare_name_of_args x es n)

either_way : {X : Type 0} (b : Bool) (x : X) → (if b then x else x) ≡ x
either_way true x = refl
either_way false x = refl

at_longer_sum : {X : Type 0} (f : ExprView → X) (x : X) → ((a b c : ExprView) → f (plus (plus a b) c) ≡ x)
    → (t u v : ExprView) (us : List ExprView) → f (nested (plus (plus t u) v) us) ≡ x
at_longer_sum f x h t u v [] = h t u v
at_longer_sum f x h t u v (w ∷ us) = at_longer_sum f x h (plus t u) v w us

-- a sum of three terms and more is no variable, with a literal or without
pub three_terms : (e a b : Expr) (es : List Expr) (n : Bool) → e ≡ Sum a b es → IsTrue n ↔ (es ≡ []) → n ≡ false
    → None ≡ variable_of (expr e)
three_terms e a b [] n is h more = cc (h.1 refl)
three_terms e a b (d ∷ es) n is h more =
    let none : (x y z : ExprView) → variable_of (plus (plus x y) z) ≡ None = λ x y z. either_way (is_literal z) None in
    sym (ap variable_of (ap expr is ∙ expr_of_sum a b (d ∷ es))
    ∙ at_longer_sum variable_of None none (expr a) (expr b) (expr d) (map expr es))

-- a sum of two terms is none unless the second is a literal
pub two_terms : (e a b y : Expr) (es : List Expr) (n l : Bool) → e ≡ Sum a b es → IsTrue n ↔ (es ≡ []) → n ≡ true
    → y ≡ b → l ≡ is_literal (expr y) → l ≡ false → None ≡ variable_of (expr e)
two_terms e a b y es n l is h none same literal other =
    sym (ap variable_of (ap expr (is ∙ ap (Sum a b) (h.0 none)) ∙ expr_of_sum a b [])
    ∙ ap (λ z. if z then bare_name (expr a) else None) (sym (ap (λ d. is_literal (expr d)) same) ∙ sym literal ∙ other))
