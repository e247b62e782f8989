-- Numbers with slots for names.
use Rattle.std.proofs.Common.{◌≡◌, ℕ, ◌≤◌, ◌-◌, ◌^◌, List, [], ◌∷◌, ◌++◌, Option, Some, None, refl, ap, sym, ◌∙◌, map}
use Rattle.std.proofs.Common.{arith, Bool, true, false, ◌↔◌}
use Rattle.std.specs.Prelude.{IsTrue, min, option_map, if◌then◌else◌}
use Rattle.nat_solver.specs.declared.expr.NatExpr.{NatExpr, fold-roll-NatExpr}
use Rattle.nat_solver.specs.declared.expr.NatExpr.TheVariants.{Sum, rolls-Sum}
use Rattle.nat_solver.specs.declared.expr.NatExpr.TheOpen.{Sum as SumPart}
use Rattle.nat_solver.specs.View.{expr as number_view, expr_step}
use Rattle.nat_solver.specs.Number.{Expr, OneUnknown, cancelled, is_empty, unknowns}
use Rattle.nat_solver.specs.Number as num
use Rattle.tlb_syntax.specs.declared.tree.Expr.{Expr as Term}
use Rattle.tlb_syntax.specs.declared.tree.Expr.TheVariants.{Named, Sum as TermSum}
use Rattle.tlb_syntax.specs.View.{expr as expr_view, exprs as exprs_view}
use Rattle.tlb_syntax.specs.Tree.{ExprView, ExprList, no_exprs, an_expr, lit, named, nat32, bits, below, up_to, plus}
use Rattle.tlb_syntax.specs.Tree.{star, out}
use Rattle.tlb_syntax.specs.Tree.{ref, group}
use Rattle.tlb_syntax.specs.Tree as tree
use Rattle.kind_terms.specs.Closed.{closed}
use Rattle.kind_terms.specs.SumLaws.{expr_of_sum}
use Rattle.kind_terms.specs.ViewLaws.{seen_named}
use Rattle.schema_core.specs.Names.{Names}
use Rattle.schema_core.specs.Numbers.{no_number, number_of, only_one, product, side_of, unknown_of}
use Rattle.schema_core.specs.PlainLaws.{unknown_is}
use Rattle.plan_compile.specs.Terms.{term_of}

-- ---- the two readings

products_same : (m n : Option ℕ) (a b c d : Expr) → a ≡ c → b ≡ d → product m n a b ≡ product m n c d
products_same m n a b c d e h = ap (λ z. product m n z b) e ∙ ap (product m n c) h

pub term_is_number : (names : Names) (e : ExprView) → term_of false names e ≡ number_of names e
term_is_number names (lit n) = refl
term_is_number names (named x no_exprs) = refl
term_is_number names (named x (an_expr e es)) = refl
term_is_number names (plus a b) =
    ap (λ z. num.plus z (term_of false names b)) (term_is_number names a)
    ∙ ap (num.plus (number_of names a)) (term_is_number names b)
term_is_number names (star a b) =
    products_same (closed a) (closed b) (term_of false names a) (term_of false names b) (number_of names a) (number_of names b)
    (term_is_number names a) (term_is_number names b)
term_is_number names (out e) = refl
term_is_number names nat32 = refl
term_is_number names (bits es) = refl
term_is_number names (below es) = refl
term_is_number names (up_to es) = refl
term_is_number names (ref e) = refl
term_is_number names (group is) = refl

pub term_is_side : (names : Names) (e : ExprView) → term_of true names e ≡ side_of names e
term_is_side names (lit n) = refl
term_is_side names (named x no_exprs) = refl
term_is_side names (named x (an_expr e es)) = refl
term_is_side names (plus a b) =
    ap (λ z. num.plus z (term_of true names b)) (term_is_side names a)
    ∙ ap (num.plus (side_of names a)) (term_is_side names b)
term_is_side names (star a b) =
    products_same (closed a) (closed b) (term_of true names a) (term_of true names b) (side_of names a) (side_of names b)
    (term_is_side names a) (term_is_side names b)
term_is_side names (out e) = refl
term_is_side names nat32 = refl
term_is_side names (bits es) = refl
term_is_side names (below es) = refl
term_is_side names (up_to es) = refl
term_is_side names (ref e) = refl
term_is_side names (group is) = refl

-- ---- sums

term_nested : (b : Bool) (names : Names) (t : ExprView) (ts : List ExprView)
    → term_of b names (tree.nested t ts) ≡ num.nested (term_of b names t) (map (term_of b names) ts)
term_nested b names t [] = refl
term_nested b names t (u ∷ us) = term_nested b names (plus t u) us

view_of_sum : (ns : List NatExpr) → number_view (Sum ns) ≡ num.sum_of (map number_view ns)
view_of_sum ns = ap number_view (sym (rolls-Sum ns)) ∙ fold-roll-NatExpr Expr expr_step (SumPart ns)

pub sum_is : (b : Bool) (names : Names) (e first second : Term) (more : List Term) (two ns : List NatExpr)
    → e ≡ TermSum first second more
    → map number_view two ≡ term_of b names (expr_view first) ∷ term_of b names (expr_view second) ∷ []
    → map number_view ns ≡ map number_view two ++ map (term_of b names) (map expr_view more)
    → number_view (Sum ns) ≡ term_of b names (expr_view e)
sum_is b names e first second more two ns is begins added =
    view_of_sum ns
    ∙ ap num.sum_of (added ∙ ap (λ z. z ++ map (term_of b names) (map expr_view more)) begins)
    ∙ sym (term_nested b names (plus (expr_view first) (expr_view second)) (map expr_view more))
    ∙ sym (ap (term_of b names) (ap expr_view is ∙ expr_of_sum first second more))

-- ---- products

pub factor_is : (c : Option ℕ) (k : ℕ) → option_map (min (2 ^ 64 - 1)) c ≡ Some k → k ≤ 4294967295 → c ≡ Some k
factor_is None k e le = cc
factor_is (Some n) k e le = let is : min (2 ^ 64 - 1) n ≡ k = cc in ap (λ z. Some z) (omega arith)

pub no_factor : (c : Option ℕ) → option_map (min (2 ^ 64 - 1)) c ≡ None → c ≡ None
no_factor None e = refl
no_factor (Some n) e = cc

pub left_factor : (b : Bool) (names : Names) (l r : ExprView) (k : ℕ) → closed l ≡ Some k
    → num.times k (term_of b names r) ≡ term_of b names (star l r)
left_factor b names l r k e = ap (λ z. product z (closed r) (term_of b names l) (term_of b names r)) (sym e)

pub right_factor : (b : Bool) (names : Names) (l r : ExprView) (k : ℕ) → closed l ≡ None → closed r ≡ Some k
    → num.times k (term_of b names l) ≡ term_of b names (star l r)
right_factor b names l r k none e =
    ap (λ z. product z (Some k) (term_of b names l) (term_of b names r)) (sym none)
    ∙ ap (λ z. product (closed l) z (term_of b names l) (term_of b names r)) (sym e)

-- ---- unknowns

one_unknown : (left right : Expr) (v : ℕ) → OneUnknown left right v → unknown_of left right ≡ Some v
one_unknown left right v h =
    ap (λ z. if is_empty z then only_one (num.unknowns left ++ num.unknowns right) else None) h.counts
    ∙ ap only_one h.only

either : (r s : Option ℕ) → ((v : ℕ) → r ≡ Some v → s ≡ Some v) → ((v : ℕ) → s ≡ Some v → r ≡ Some v) → r ≡ s
either (Some v) s f g = sym (f v refl)
either None None f g = refl
either None (Some v) f g = g v refl

pub sought_is : (r : Option ℕ) (left right : Expr) → ((v : ℕ) → (r ≡ Some v) ↔ OneUnknown left right v)
    → r ≡ unknown_of left right
sought_is r left right h =
    either r (unknown_of left right) (λ v e. one_unknown left right v ((h v).0 e)) (λ v e. (h v).1 (unknown_is left right v e))

-- ---- terms one by one

pub two_terms : (none one two : List NatExpr) (a b : NatExpr) (s t : Expr) → none ≡ [] → one ≡ none ++ a ∷ []
    → two ≡ one ++ b ∷ []
    → number_view a ≡ s → number_view b ≡ t → map number_view two ≡ s ∷ t ∷ []
two_terms none one two a b s t empty first second e h =
    ap (map number_view) (second ∙ ap (λ z. z ++ b ∷ []) (first ∙ ap (λ z. z ++ a ∷ []) empty))
    ∙ ap (λ z. z ∷ number_view b ∷ []) e
    ∙ ap (λ z. s ∷ z ∷ []) h

named_args : (b : Bool) (names : Names) (x : List ℕ) (es : List Term) (n : Bool) → IsTrue n ↔ (es ≡ []) → n ≡ false
    → no_number ≡ term_of b names (named x (exprs_view es))
named_args b names x [] n h more = cc (h.1 refl)
named_args b names x (d ∷ es) n h more = refl

-- a name with arguments is no number
pub applied_term : (b : Bool) (names : Names) (e : Term) (x : List ℕ) (es : List Term) (n : Bool) → e ≡ Named x es
    → IsTrue n ↔ (es ≡ []) → n ≡ false → no_number ≡ term_of b names (expr_view e)
applied_term b names e x es n is h more = named_args b names x es n h more ∙ sym (ap (term_of b names) (seen_named e x es is))
