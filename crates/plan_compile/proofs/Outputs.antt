-- Turns of the loops over the parameters of a result.
use Rattle.std.proofs.Common.{◌≡◌, ℕ, ◌+◌, ◌<◌, ◌≤◌, List, [], ◌∷◌, ◌++◌, refl, ap, sym, ◌∙◌, subst, drop}
use Rattle.std.proofs.Common.{length, get_or, map, append_assoc, ◌↔◌, Bool, true, false}
use Rattle.std.specs.Prelude.{All, IsTrue}
use Rattle.std.proofs.lemmas.List.{append-nil}
use Rattle.std.proofs.lemmas.List.Elements.{All-append, All-cons, All-head, All-nil, All-tail}
use Rattle.nat_solver.specs.Number.{Expr as NumberExpr}
use Rattle.tlb_syntax.specs.declared.tree.Expr.{Expr}
use Rattle.tlb_syntax.specs.declared.tree.Expr.TheVariants.{Named, Sum}
use Rattle.tlb_syntax.specs.View.{expr as expr_view, exprs as exprs_view}
use Rattle.tlb_syntax.specs.Tree.{ExprView, named, plus, nested}
use Rattle.kind_terms.specs.Params.{bare_name}
use Rattle.kind_terms.specs.SumLaws.{at_sum, expr_of_sum}
use Rattle.kind_terms.specs.ViewLaws.{drop_at, drop_end, seen_named}
use Rattle.core_form.specs.Core.{Input}
use Rattle.schema_core.specs.Names.{Names}
use Rattle.schema_core.specs.Numbers.{named_number}
use Rattle.schema_core.specs.CoreOf.{input_of, inputs_of, literal_of, output_of, outputs_of, sum_input}
use Rattle.flat_form.specs.declared.lists.Flat.{Flat}
use Rattle.flat_form.specs.Stands.{expr_at}
use Rattle.flat_form.specs.Sound.{IsPlainNumber}
use Rattle.flat_form.specs.Growth.{Adds, Grows}
use Rattle.flat_form.specs.GrowthLaws.{expr_grows, number_grows}
use Rattle.plan_compile.specs.Results.{AreOutputs}

map_append : {A B : Type 0} (f : A → B) (xs ys : List A) → map f (xs ++ ys) ≡ map f xs ++ map f ys
map_append f [] ys = refl
map_append f (x ∷ xs) ys = ap (λ z. f x ∷ z) (map_append f xs ys)

-- ---- inputs

pub input_turn : (names : Names) (all : List Expr) (i : ℕ) (here : Expr) (before new one total : List Input)
    → i < length all
    → here ≡ get_or all i here → one ≡ input_of names (expr_view here) → new ≡ before ++ one
    → before ++ inputs_of names (exprs_view (drop i all)) ≡ total
    → new ++ inputs_of names (exprs_view (drop (i + 1) all)) ≡ total
input_turn names all i here before new one total lt is made kept so_far =
    ap (λ z. z ++ inputs_of names (exprs_view (drop (i + 1) all))) (kept ∙ ap (λ z. before ++ z) made)
    ∙ append_assoc before (input_of names (expr_view here)) (inputs_of names (exprs_view (drop (i + 1) all)))
    ∙ sym (ap (λ z. before ++ inputs_of names z) (drop_at all i here lt is))
    ∙ so_far

pub inputs_done : (names : Names) (all : List Expr) (i : ℕ) (before total : List Input) → length all ≤ i
    → before ++ inputs_of names (exprs_view (drop i all)) ≡ total → before ≡ total
inputs_done names all i before total over so_far =
    sym (append-nil before) ∙ sym (ap (λ z. before ++ inputs_of names z) (drop_end all i over)) ∙ so_far

pub sum_input_is : (names : Names) (e a b : Expr) (es : List Expr) (n : Bool) → e ≡ Sum a b es → IsTrue n ↔ (es ≡ [])
    → n ≡ true
    → sum_input (named_number names (bare_name (expr_view a))) (literal_of (expr_view b)) ≡ input_of names (expr_view e)
sum_input_is names e a b es n is h none =
    sym (ap (input_of names) (ap expr_view (is ∙ ap (Sum a b) (h.0 none)) ∙ expr_of_sum a b []))

longer : (names : Names) (t u v : ExprView) (us : List ExprView) → input_of names (nested (plus (plus t u) v) us) ≡ []
longer names t u v [] = refl
longer names t u v (w ∷ us) = longer names (plus t u) v w us

pub long_sum_is : (names : Names) (e a b : Expr) (es : List Expr) (n : Bool) → e ≡ Sum a b es → IsTrue n ↔ (es ≡ [])
    → n ≡ false
    → [] ≡ input_of names (expr_view e)
long_sum_is names e a b [] n is h more = cc (h.1 refl)
long_sum_is names e a b (d ∷ es) n is h more =
    sym (ap (input_of names) (ap expr_view is ∙ expr_of_sum a b (d ∷ es)) ∙ longer names (expr_view a) (expr_view b) (expr_view d) (map expr_view es))

-- ---- outputs

pub numbers_grow : (f g : Flat) (xs : List ℕ) → Grows f g → All (IsPlainNumber f) xs → All (IsPlainNumber g) xs
numbers_grow f g [] grows all = All-nil (IsPlainNumber g)
numbers_grow f g (x ∷ xs) grows all =
    All-cons (IsPlainNumber g) x xs (number_grows f g x grows (All-head (IsPlainNumber f) x xs all))
    (numbers_grow f g xs grows (All-tail (IsPlainNumber f) x xs all))

pub numbers_stand : (f g : Flat) (xs : List ℕ) → Grows f g → All (IsPlainNumber f) xs
    → map (expr_at g) xs ≡ map (expr_at f) xs
numbers_stand f g [] grows all = refl
numbers_stand f g (x ∷ xs) grows all =
    ap (λ z. z ∷ map (expr_at g) xs) (expr_grows f g x grows (All-head (IsPlainNumber f) x xs all).there)
    ∙ ap (λ z. expr_at f x ∷ z) (numbers_stand f g xs grows (All-tail (IsPlainNumber f) x xs all))

pub outputs_plain : (f g : Flat) (old new one : List ℕ) (outputs : List NumberExpr) → Adds f g
    → All (IsPlainNumber f) old
    → AreOutputs g one outputs → new ≡ old ++ one → All (IsPlainNumber g) new
outputs_plain f g old new one outputs adds all are is =
    let P : List ℕ → Type 0 = All (IsPlainNumber g) in
    subst P (sym is) (All-append (IsPlainNumber g) old one (numbers_grow f g old adds.grows all) are.plain)

pub output_turn : (f g : Flat) (names : Names) (all : List Expr) (i : ℕ) (here : Expr) (old new one : List ℕ)
    (total : List NumberExpr) → Adds f g → All (IsPlainNumber f) old → AreOutputs g one (output_of names (expr_view here))
    → i < length all → here ≡ get_or all i here → new ≡ old ++ one
    → map (expr_at f) old ++ outputs_of names (exprs_view (drop i all)) ≡ total
    → map (expr_at g) new ++ outputs_of names (exprs_view (drop (i + 1) all)) ≡ total
output_turn f g names all i here old new one total adds plain are lt is kept so_far =
    let tail = outputs_of names (exprs_view (drop (i + 1) all)) in
    ap (λ z. map (expr_at g) z ++ tail) kept
    ∙ ap (λ z. z ++ tail) (map_append (expr_at g) old one)
    ∙ ap (λ z. (z ++ map (expr_at g) one) ++ tail) (numbers_stand f g old adds.grows plain)
    ∙ ap (λ z. (map (expr_at f) old ++ z) ++ tail) are.stand
    ∙ append_assoc (map (expr_at f) old) (output_of names (expr_view here)) tail
    ∙ sym (ap (λ z. map (expr_at f) old ++ outputs_of names z) (drop_at all i here lt is))
    ∙ so_far

pub outputs_done : (f : Flat) (names : Names) (all : List Expr) (i : ℕ) (old : List ℕ) (total : List NumberExpr)
    → length all ≤ i → All (IsPlainNumber f) old
    → map (expr_at f) old ++ outputs_of names (exprs_view (drop i all)) ≡ total → AreOutputs f old total
outputs_done f names all i old total over plain so_far = record {
  plain = plain;
  stand = sym (append-nil (map (expr_at f) old)) ∙ sym (ap (λ z. map (expr_at f) old ++ outputs_of names z) (drop_end all i over)) ∙ so_far;
}

pub one_output : (f : Flat) (e : ℕ) (a : NumberExpr) → IsPlainNumber f e → expr_at f e ≡ a
    → AreOutputs f (e ∷ []) (a ∷ [])
one_output f e a plain is = record {
  plain = All-cons (IsPlainNumber f) e [] plain (All-nil (IsPlainNumber f));
  stand = ap (λ z. z ∷ []) is;
}

pub no_output : (f : Flat) → AreOutputs f [] []
no_output f = record { plain = All-nil (IsPlainNumber f); stand = refl }

pub sum_output : (names : Names) (e a b : Expr) (es : List Expr) → e ≡ Sum a b es → output_of names (expr_view e) ≡ []
sum_output names e a b es is =
    ap (output_of names) (ap expr_view is ∙ expr_of_sum a b es) ∙ at_sum (output_of names) [] (λ x y. refl) (expr_view a) (expr_view b) (map expr_view es)

-- a name with arguments is no input
named_args : (names : Names) (x : List ℕ) (es : List Expr) (n : Bool) → IsTrue n ↔ (es ≡ []) → n ≡ false
    → [] ≡ input_of names (named x (exprs_view es))
named_args names x [] n h more = cc (h.1 refl)
named_args names x (d ∷ es) n h more = refl

pub applied_input : (names : Names) (e : Expr) (x : List ℕ) (es : List Expr) (n : Bool) → e ≡ Named x es
    → IsTrue n ↔ (es ≡ [])
    → n ≡ false → [] ≡ input_of names (expr_view e)
applied_input names e x es n is h more = named_args names x es n h more ∙ sym (ap (input_of names) (seen_named e x es is))
