-- The parts of sums, and of more expressions than one.
use Rattle.std.proofs.Common.{◌≡◌, ◌≢◌, ◌<◌, ◌-◌, ◌^◌, ℕ, min, take, length, get_or, arith, ap, sym, ◌∙◌, List, [], ◌∷◌, ◌++◌, ◌+◌, map, refl, Bool, true, false, cond, ◌||◌, append_assoc}
use Rattle.std.specs.Prelude.{Option, None, filter}
use Rattle.std.specs.List.{list_any}
use Rattle.std.proofs.lemmas.List.{append-nil, take_more}
use Rattle.std.proofs.lemmas.List.Folds.{list_any-append}
use Rattle.std.proofs.lemmas.List.Sums.{sum_by-append}
use Rattle.std.proofs.lemmas.List.Elements.{filter-append}
use Rattle.tlb_syntax.specs.declared.tree.Expr.{Expr}
use Rattle.tlb_syntax.specs.declared.tree.Expr.TheVariants.{Named, Star, Sum}
use Rattle.tlb_syntax.specs.View.{expr, exprs}
use Rattle.tlb_syntax.specs.Tree.{ExprView, named, plus, star, exprs_of, nested, sum_of}
use Rattle.kind_terms.specs.Words.{Word}
use Rattle.kind_terms.specs.Params.{bare_name}
use Rattle.kind_terms.specs.Forms.{is_out, parts, parts_of_all}
use Rattle.kind_terms.specs.Outs.{Outs, nothing, one, several, joined, outs_of, summary}
use Rattle.kind_terms.specs.Sought.{cancels, holds_out, is_named, only_out_name, sides, unknown_of, uses}
use Rattle.kind_terms.specs.SumLaws.{expr_of_name, expr_of_star, expr_of_sum}

-- ---- sums

parts_of_nested : {X : Type 0} (f : List ExprView → X) → ((a b : ExprView) (es : List ExprView) → f (plus a b ∷ es) ≡ f es)
    → (t : ExprView) (us : List ExprView) → f (parts (nested t us)) ≡ f (parts t ++ parts_of_all (exprs_of us))
parts_of_nested f pass t [] = ap f (sym (append-nil (parts t)))
parts_of_nested f pass t (u ∷ us) =
    parts_of_nested f pass (plus t u) us ∙ pass t u ((parts t ++ parts u) ++ parts_of_all (exprs_of us))
    ∙ ap f (append_assoc (parts t) (parts u) (parts_of_all (exprs_of us)))

parts_of_sum : {X : Type 0} (f : List ExprView → X) → ((a b : ExprView) (es : List ExprView) → f (plus a b ∷ es) ≡ f es)
    → (a b : ExprView) (us : List ExprView)
    → f (parts (sum_of a b us)) ≡ f ((parts a ++ parts b) ++ parts_of_all (exprs_of us))
parts_of_sum f pass a b us =
    parts_of_nested f pass (plus a b) us ∙ pass a b ((parts a ++ parts b) ++ parts_of_all (exprs_of us))

-- the parts of a sum are those of its terms, for what passes over sums
sum_parts : {X : Type 0} (f : List ExprView → X) → ((a b : ExprView) (es : List ExprView) → f (plus a b ∷ es) ≡ f es)
    → (e a b : Expr) (es : List Expr) → e ≡ Sum a b es
    → f (parts (expr e)) ≡ f ((parts (expr a) ++ parts (expr b)) ++ parts_of_all (exprs es))
sum_parts f pass e a b es is =
    ap (λ (v : ExprView). f (parts v)) (ap expr is ∙ expr_of_sum a b es)
    ∙ parts_of_sum f pass (expr a) (expr b) (map expr es)

-- ---- one more expression

pub parts_of_push : (es : List Expr) (e : Expr) → parts_of_all (exprs (es ++ e ∷ [])) ≡ parts_of_all (exprs es) ++ parts (expr e)
parts_of_push [] e = append-nil (parts (expr e))
parts_of_push (d ∷ es) e = ap (λ (ps : List ExprView). parts (expr d) ++ ps) (parts_of_push es e) ∙ sym (append_assoc (parts (expr d)) (parts_of_all (exprs es)) (parts (expr e)))

-- ---- the `~` of two lists

summary-append : (es fs : List ExprView) → summary (es ++ fs) ≡ joined (summary es) (summary fs)
summary-append [] fs = refl
summary-append (e ∷ []) [] = refl
summary-append (e ∷ []) (f ∷ []) = refl
summary-append (e ∷ []) (f ∷ g ∷ fs) = refl
summary-append (e ∷ d ∷ es) fs = refl

pub outs_of-append : (es fs : List ExprView) → outs_of (es ++ fs) ≡ joined (outs_of es) (outs_of fs)
outs_of-append es fs = ap summary (filter-append is_out es fs) ∙ summary-append (filter is_out es) (filter is_out fs)

abbrev pub some_out : Outs → Bool
some_out nothing = false
some_out (one x) = true
some_out several = true

with_one : (e : ExprView) (es : List ExprView) → true ≡ some_out (summary (e ∷ es))
with_one e [] = refl
with_one e (f ∷ es) = refl

at_first : (b : Bool) (e : ExprView) (es : List ExprView) → list_any is_out es ≡ some_out (outs_of es)
    → (b || list_any is_out es) ≡ some_out (summary (cond b (e ∷ filter is_out es) (filter is_out es)))
at_first true e es h = with_one e (filter is_out es)
at_first false e es h = h

any_is_some : (es : List ExprView) → list_any is_out es ≡ some_out (outs_of es)
any_is_some [] = refl
any_is_some (e ∷ es) = at_first (is_out e) e es (any_is_some es)

pub any_out : (v : ExprView) → holds_out v ≡ some_out (outs_of (parts v))
any_out v = any_is_some (parts v)

abbrev pub only_of : Outs → Option Word
only_of nothing = None
only_of (one x) = x
only_of several = None

only_is : (es : List ExprView) → only_out_name es ≡ only_of (summary es)
only_is [] = refl
only_is (e ∷ []) = refl
only_is (e ∷ f ∷ es) = refl

pub unknown_of_outs : (a b : ExprView) → unknown_of (sides a b) ≡ only_of (joined (outs_of (parts a)) (outs_of (parts b)))
unknown_of_outs a b = only_is (filter is_out (parts a ++ parts b)) ∙ ap only_of (outs_of-append (parts a) (parts b))

-- ---- uses

uses-append : (x : Word) (es fs : List ExprView) → uses x (es ++ fs) ≡ uses x es + uses x fs
uses-append x es fs = sum_by-append (λ (p : ExprView). cond (is_named x (bare_name p)) 1 0) es fs

-- ---- at an expression of the program

parts_more : (es : List Expr) (i : ℕ) (e : Expr) → i < length es → e ≡ get_or es i e
    → parts_of_all (exprs (take (i + 1) es)) ≡ parts_of_all (exprs (take i es)) ++ parts (expr e)
parts_more es i e h is =
    ap (λ (ds : List Expr). parts_of_all (exprs ds)) (take_more es i e h ∙ ap (λ (d : Expr). take i es ++ d ∷ []) (sym is))
    ∙ parts_of_push (take i es) e

pub outs_sum : (e a b x y : Expr) (es us : List Expr) (m n o p r : Outs) → e ≡ Sum a b es → x ≡ a → y ≡ b → us ≡ es
    → m ≡ outs_of (parts (expr x)) → n ≡ outs_of (parts (expr y)) → o ≡ outs_of (parts_of_all (exprs us))
    → p ≡ joined m n → r ≡ joined p o → r ≡ outs_of (parts (expr e))
outs_sum e a b x y es us m n o p r is left right rest h g k two whole =
    let A = parts (expr a) in
    let B = parts (expr b) in
    let C = parts_of_all (exprs es) in
    let first : m ≡ outs_of A = h ∙ ap (λ (d : Expr). outs_of (parts (expr d))) left in
    let second : n ≡ outs_of B = g ∙ ap (λ (d : Expr). outs_of (parts (expr d))) right in
    let third : o ≡ outs_of C = k ∙ ap (λ (ds : List Expr). outs_of (parts_of_all (exprs ds))) rest in
    whole ∙ ap (λ (z : Outs). joined z o) (two ∙ ap (λ (z : Outs). joined z n) first ∙ ap (joined (outs_of A)) second)
    ∙ ap (joined (joined (outs_of A) (outs_of B))) third
    ∙ sym (sum_parts outs_of (λ c d ds. refl) e a b es is
    ∙ outs_of-append (A ++ B) C ∙ ap (λ (z : Outs). joined z (outs_of C)) (outs_of-append A B))

pub outs_star : (e a b x y : Expr) (m n r : Outs) → e ≡ Star a b → x ≡ a → y ≡ b → m ≡ outs_of (parts (expr x)) → n ≡ outs_of (parts (expr y))
    → r ≡ joined m n → r ≡ outs_of (parts (expr e))
outs_star e a b x y m n r is left right h g product =
    product ∙ ap (λ (o : Outs). joined o n) (h ∙ ap (λ (d : Expr). outs_of (parts (expr d))) left)
    ∙ ap (joined (outs_of (parts (expr a)))) (g ∙ ap (λ (d : Expr). outs_of (parts (expr d))) right)
    ∙ sym (ap (λ (v : ExprView). outs_of (parts v)) (ap expr is ∙ expr_of_star a b) ∙ outs_of-append (parts (expr a)) (parts (expr b)))

pub outs_more : (es : List Expr) (i : ℕ) (e : Expr) (m n r : Outs) → i < length es → e ≡ get_or es i e → m ≡ outs_of (parts_of_all (exprs (take i es)))
    → n ≡ outs_of (parts (expr e)) → r ≡ joined m n → r ≡ outs_of (parts_of_all (exprs (take (i + 1) es)))
outs_more es i e m n r h is before here both =
    both ∙ ap (λ (o : Outs). joined o n) before ∙ ap (joined (outs_of (parts_of_all (exprs (take i es))))) here
    ∙ sym (ap outs_of (parts_more es i e h is) ∙ outs_of-append (parts_of_all (exprs (take i es))) (parts (expr e)))

pub uses_sum : (z : Word) (e a b x y : Expr) (es us : List Expr) (m n o p r : ℕ) → e ≡ Sum a b es → x ≡ a → y ≡ b → us ≡ es
    → m ≡ min (2 ^ 64 - 1) (uses z (parts (expr x))) → n ≡ min (2 ^ 64 - 1) (uses z (parts (expr y)))
    → o ≡ min (2 ^ 64 - 1) (uses z (parts_of_all (exprs us)))
    → p ≡ min (m + n) (2 ^ 64 - 1) → r ≡ min (p + o) (2 ^ 64 - 1) → r ≡ min (2 ^ 64 - 1) (uses z (parts (expr e)))
uses_sum z e a b x y es us m n o p r is left right rest h g k two both =
    let first : m ≡ min (2 ^ 64 - 1) (uses z (parts (expr a))) = h ∙ ap (λ (d : Expr). min (2 ^ 64 - 1) (uses z (parts (expr d)))) left in
    let second : n ≡ min (2 ^ 64 - 1) (uses z (parts (expr b))) = g ∙ ap (λ (d : Expr). min (2 ^ 64 - 1) (uses z (parts (expr d)))) right in
    let third : o ≡ min (2 ^ 64 - 1) (uses z (parts_of_all (exprs es))) =
    k ∙ ap (λ (ds : List Expr). min (2 ^ 64 - 1) (uses z (parts_of_all (exprs ds)))) rest in
    let whole : uses z (parts (expr e)) ≡ (uses z (parts (expr a)) + uses z (parts (expr b))) + uses z (parts_of_all (exprs es)) =
    sum_parts (uses z) (λ c d ds. refl) e a b es is
    ∙ uses-append z (parts (expr a) ++ parts (expr b)) (parts_of_all (exprs es))
    ∙ ap (λ (c : ℕ). c + uses z (parts_of_all (exprs es))) (uses-append z (parts (expr a)) (parts (expr b))) in
    omega (arith, first, second, third, whole, two, both)

uses_of_args : (x y : Word) (es : List Expr) → es ≢ [] → uses x (parts_of_all (exprs es)) ≡ uses x (parts (named y (exprs es)))
uses_of_args x y [] n = absurd (n refl)
uses_of_args x y (e ∷ es) n = refl

pub uses_applied : (x y : Word) (e : Expr) (es us : List Expr) (r : ℕ) → e ≡ Named y es → us ≡ es → es ≢ []
    → r ≡ min (2 ^ 64 - 1) (uses x (parts_of_all (exprs us))) → r ≡ min (2 ^ 64 - 1) (uses x (parts (expr e)))
uses_applied x y e es us r is same n h =
    h ∙ ap (λ (xs : List Expr). min (2 ^ 64 - 1) (uses x (parts_of_all (exprs xs)))) same
    ∙ ap (min (2 ^ 64 - 1)) (uses_of_args x y es n ∙ sym (ap (λ (v : ExprView). uses x (parts v)) (ap expr is ∙ expr_of_name y es)))

pub uses_star : (z : Word) (e a b x y : Expr) (m n r : ℕ) → e ≡ Star a b → x ≡ a → y ≡ b
    → m ≡ min (2 ^ 64 - 1) (uses z (parts (expr x))) → n ≡ min (2 ^ 64 - 1) (uses z (parts (expr y)))
    → r ≡ min (m + n) (2 ^ 64 - 1) → r ≡ min (2 ^ 64 - 1) (uses z (parts (expr e)))
uses_star z e a b x y m n r is left right h g both =
    let first : m ≡ min (2 ^ 64 - 1) (uses z (parts (expr a))) = h ∙ ap (λ (d : Expr). min (2 ^ 64 - 1) (uses z (parts (expr d)))) left in
    let second : n ≡ min (2 ^ 64 - 1) (uses z (parts (expr b))) = g ∙ ap (λ (d : Expr). min (2 ^ 64 - 1) (uses z (parts (expr d)))) right in
    let whole : uses z (parts (expr e)) ≡ uses z (parts (expr a)) + uses z (parts (expr b)) =
    ap (λ (v : ExprView). uses z (parts v)) (ap expr is ∙ expr_of_star a b) ∙ uses-append z (parts (expr a)) (parts (expr b)) in
    omega (arith, first, second, whole, both)

pub uses_more : (z : Word) (es : List Expr) (i : ℕ) (e : Expr) (m n r : ℕ) → i < length es → e ≡ get_or es i e
    → m ≡ min (2 ^ 64 - 1) (uses z (parts_of_all (exprs (take i es)))) → n ≡ min (2 ^ 64 - 1) (uses z (parts (expr e)))
    → r ≡ min (m + n) (2 ^ 64 - 1) → r ≡ min (2 ^ 64 - 1) (uses z (parts_of_all (exprs (take (i + 1) es))))
uses_more z es i e m n r h is before here both =
    let whole : uses z (parts_of_all (exprs (take (i + 1) es))) ≡ uses z (parts_of_all (exprs (take i es))) + uses z (parts (expr e)) =
    ap (uses z) (parts_more es i e h is) ∙ uses-append z (parts_of_all (exprs (take i es))) (parts (expr e)) in
    omega (arith, whole, before, here, both)

-- ---- products that cancel

cancels_of_nested : (a b : ExprView) (us : List ExprView)
    → list_any cancels (parts (nested (plus a b) us))
    ≡ ((list_any cancels (parts a) || list_any cancels (parts b)) || list_any cancels (parts_of_all (exprs_of us)))
cancels_of_nested a b us =
    parts_of_sum (list_any cancels) (λ c d ds. refl) a b us
    ∙ list_any-append cancels (parts a ++ parts b) (parts_of_all (exprs_of us))
    ∙ ap (λ (c : Bool). c || list_any cancels (parts_of_all (exprs_of us))) (list_any-append cancels (parts a) (parts b))

pub cancels_of_star : (a b : ExprView) → list_any cancels (parts (star a b)) ≡ (cancels (star a b) || (list_any cancels (parts a) || list_any cancels (parts b)))
cancels_of_star a b = ap (λ (c : Bool). cancels (star a b) || c) (list_any-append cancels (parts a) (parts b))

sum_cancels : (e a b : Expr) (es : List Expr) → e ≡ Sum a b es
    → list_any cancels (parts (expr e))
    ≡ ((list_any cancels (parts (expr a)) || list_any cancels (parts (expr b))) || list_any cancels (parts_of_all (exprs es)))
sum_cancels e a b es is =
    ap (λ (v : ExprView). list_any cancels (parts v)) (ap expr is ∙ expr_of_sum a b es)
    ∙ cancels_of_nested (expr a) (expr b) (map expr es)

-- in one of the first two terms, or in none of them
pub first_cancels : (x a : Expr) (r v : Bool) (B : Bool) → x ≡ a → r ≡ list_any cancels (parts (expr x)) → r ≡ true → v ≡ r
    → v ≡ (list_any cancels (parts (expr a)) || B)
first_cancels x a r v B same is met value =
    value ∙ met ∙ sym (ap (λ (z : Bool). z || B) (sym (is ∙ ap (λ (d : Expr). list_any cancels (parts (expr d))) same) ∙ met))

pub second_cancels : (x a y b : Expr) (r q v : Bool) → x ≡ a → r ≡ list_any cancels (parts (expr x)) → r ≡ false
    → y ≡ b → q ≡ list_any cancels (parts (expr y)) → v ≡ q
    → v ≡ (list_any cancels (parts (expr a)) || list_any cancels (parts (expr b)))
second_cancels x a y b r q v same is no_first other second value =
    value ∙ second ∙ ap (λ (d : Expr). list_any cancels (parts (expr d))) other
    ∙ sym (ap (λ (z : Bool). z || list_any cancels (parts (expr b))) (sym (is ∙ ap (λ (d : Expr). list_any cancels (parts (expr d))) same) ∙ no_first))

pub cancels_in_two : (e a b : Expr) (es : List Expr) (v : Bool) → e ≡ Sum a b es
    → v ≡ (list_any cancels (parts (expr a)) || list_any cancels (parts (expr b))) → v ≡ true
    → v ≡ list_any cancels (parts (expr e))
cancels_in_two e a b es v is two met =
    met ∙ sym (sum_cancels e a b es is ∙ ap (λ (z : Bool). z || list_any cancels (parts_of_all (exprs es))) (sym two ∙ met))

pub cancels_in_rest : (e a b : Expr) (es us : List Expr) (v r : Bool) → e ≡ Sum a b es
    → v ≡ (list_any cancels (parts (expr a)) || list_any cancels (parts (expr b))) → v ≡ false
    → us ≡ es → r ≡ list_any cancels (parts_of_all (exprs us)) → r ≡ list_any cancels (parts (expr e))
cancels_in_rest e a b es us v r is two none same rest =
    rest ∙ ap (λ (ds : List Expr). list_any cancels (parts_of_all (exprs ds))) same
    ∙ sym (sum_cancels e a b es is ∙ ap (λ (z : Bool). z || list_any cancels (parts_of_all (exprs es))) (sym two ∙ none))
