-- The names of fields of records in expressions.
use Rattle.std.proofs.Common.{◌≡◌, ap, sym, ◌∙◌, ℕ, ◌+◌, ◌<◌, ◌≤◌, List, [], ◌∷◌, ◌++◌, map, drop, length, get_or, append_assoc}
use Rattle.std.proofs.lemmas.List.{append-nil}
use Rattle.tlb_syntax.specs.declared.tree.Expr.{Expr}
use Rattle.tlb_syntax.specs.declared.tree.Item.{Item}
use Rattle.tlb_syntax.specs.declared.tree.Expr.TheVariants.{Sum, Star}
use Rattle.tlb_syntax.specs.View.{expr, exprs, item, items}
use Rattle.tlb_syntax.specs.Tree.{ExprView, plus, exprs_of, nested}
use Rattle.std.specs.Prelude.{Result, Ok, Err, OnOk}
use Rattle.kind_terms.specs.Words.{Word}
use Rattle.kind_terms.specs.Scopes.{field_names}
use Rattle.kind_rules.specs.FieldNames.{names_in, names_in_all, names_inside, names_of}
use Rattle.kind_terms.specs.ViewLaws.{seen_sum, seen_star, drop_at, drop_end, item_at, item_end}

in_nested : (t : ExprView) (us : List ExprView) → names_in (nested t us) ≡ names_in t ++ names_in_all (exprs_of us)
in_nested t [] = sym (append-nil (names_in t))
in_nested t (u ∷ us) = in_nested (plus t u) us ∙ append_assoc (names_in t) (names_in u) (names_in_all (exprs_of us))

in_sum : (e a b : Expr) (es : List Expr) → e ≡ Sum a b es
    → names_in (expr e) ≡ (names_in (expr a) ++ names_in (expr b)) ++ names_in_all (exprs es)
in_sum e a b es is = ap names_in (seen_sum e a b es is) ∙ in_nested (plus (expr a) (expr b)) (map expr es)

-- the names of two parts, one after the other
pub after_both : (m n o xs ys : List Word) → n ≡ m ++ xs → o ≡ n ++ ys → o ≡ m ++ (xs ++ ys)
after_both m n o xs ys h k = k ∙ ap (λ z. z ++ ys) h ∙ append_assoc m xs ys

pub in_star : (e x y l r : Expr) (m n o : List Word) → e ≡ Star x y → l ≡ x → r ≡ y
    → n ≡ m ++ names_in (expr l) → o ≡ n ++ names_in (expr r) → o ≡ m ++ names_in (expr e)
in_star e x y l r m n o is left right h k =
    let same : e ≡ Star l r = is ∙ ap (λ z. Star z y) (sym left) ∙ ap (λ z. Star l z) (sym right) in
    after_both m n o (names_in (expr l)) (names_in (expr r)) h k ∙ sym (ap (λ v. m ++ names_in v) (seen_star e l r same))

pub all_step : (es : List Expr) (i : ℕ) (e : Expr) (m n o : List Word) → i < length es → e ≡ get_or es i e
    → m ++ names_in_all (exprs (drop i es)) ≡ o → n ≡ m ++ names_in (expr e)
    → n ++ names_in_all (exprs (drop (i + 1) es)) ≡ o
all_step es i e m n o h is gone more =
    ap (λ z. z ++ names_in_all (exprs (drop (i + 1) es))) more
    ∙ append_assoc m (names_in (expr e)) (names_in_all (exprs (drop (i + 1) es)))
    ∙ sym (ap (λ x. m ++ names_in_all x) (drop_at es i e h is))
    ∙ gone

pub all_end : (es : List Expr) (i : ℕ) (m o : List Word) → length es ≤ i → m ++ names_in_all (exprs (drop i es)) ≡ o → m ≡ o
all_end es i m o h gone = sym (append-nil m) ∙ sym (ap (λ x. m ++ names_in_all x) (drop_end es i h)) ∙ gone

pub of_step : (is : List Item) (i : ℕ) (it : Item) (m n o k : List Word) → i < length is → it ≡ get_or is i it
    → m ++ names_of (items (drop i is)) ≡ o → k ≡ m ++ field_names (item it) → n ≡ k ++ names_inside (item it)
    → n ++ names_of (items (drop (i + 1) is)) ≡ o
of_step is i it m n o k h at gone name more =
    ap (λ z. z ++ names_of (items (drop (i + 1) is))) (after_both m k n (field_names (item it)) (names_inside (item it)) name more)
    ∙ append_assoc m (field_names (item it) ++ names_inside (item it)) (names_of (items (drop (i + 1) is)))
    ∙ sym (ap (λ x. m ++ names_of x) (item_at is i it h at))
    ∙ gone

pub of_end : (is : List Item) (i : ℕ) (m o : List Word) → length is ≤ i → m ++ names_of (items (drop i is)) ≡ o → m ≡ o
of_end is i m o h gone = sym (append-nil m) ∙ sym (ap (λ x. m ++ names_of x) (item_end is i h)) ∙ gone

three_parts : (m n o p A B C : List Word) → n ≡ m ++ A → o ≡ n ++ B → p ≡ o ++ C → p ≡ m ++ ((A ++ B) ++ C)
three_parts m n o p A B C h k l = l ∙ ap (λ z. z ++ C) (after_both m n o A B h k) ∙ append_assoc m (A ++ B) C

pub ok_in_sum : {E : Type 0} (s : Result (Unit {0}) E) (m n o p : List Word) (e a b x y : Expr) (es us : List Expr)
    → e ≡ Sum a b es → x ≡ a → y ≡ b → us ≡ es → n ≡ m ++ names_in (expr x) → o ≡ n ++ names_in (expr y)
    → OnOk s (p ≡ o ++ names_in_all (exprs us)) → OnOk s (p ≡ m ++ names_in (expr e))
ok_in_sum (Ok u) m n o p e a b x y es us is left right rest h k l =
    let same : e ≡ Sum x y us = is ∙ ap (λ z. Sum z b es) (sym left) ∙ ap (λ z. Sum x z es) (sym right) ∙ ap (Sum x y) (sym rest) in
    three_parts m n o p (names_in (expr x)) (names_in (expr y)) (names_in_all (exprs us)) h k l
    ∙ sym (ap (λ v. m ++ v) (in_sum e x y us same))
ok_in_sum (Err z) m n o p e a b x y es us is left right rest h k l = l

pub ok_in_star : {E : Type 0} (s : Result (Unit {0}) E) (m n o : List Word) (e x y l r : Expr) → e ≡ Star x y → l ≡ x → r ≡ y
    → n ≡ m ++ names_in (expr l) → OnOk s (o ≡ n ++ names_in (expr r)) → OnOk s (o ≡ m ++ names_in (expr e))
ok_in_star (Ok u) m n o e x y l r is left right h k = in_star e x y l r m n o is left right h k
ok_in_star (Err z) m n o e x y l r is left right h k = k
