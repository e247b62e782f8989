-- Types and arguments.
use Rattle.std.proofs.Common.{◌≡◌, ℕ, ◌+◌, ◌<◌, ◌≤◌, List, [], ◌∷◌, Option, Some, None, refl, ap, sym, ◌∙◌, drop}
use Rattle.std.proofs.Common.{length, get_or}
use Rattle.std.proofs.Common.{zero, suc, slice_get, arith}
use Rattle.std.proofs.Common.{Bool, false, ◌↔◌}
use Rattle.std.specs.Prelude.{IsTrue}
use Rattle.tlb_syntax.specs.declared.tree.Expr.{Expr}
use Rattle.tlb_syntax.specs.declared.tree.Expr.TheVariants.{Named, Sum}
use Rattle.tlb_syntax.specs.View.{expr as expr_view, exprs as exprs_view}
use Rattle.tlb_syntax.specs.Tree.{ExprView, ExprList, SchemaView, no_exprs, an_expr, named}
use Rattle.kind_terms.specs.declared.kind.TermKind.{TermKind}
use Rattle.kind_terms.specs.declared.kind.TermKind.TheVariants.{NumberIn, TypeIn, NumberOut, NoKind}
use Rattle.kind_terms.specs.Words.{Word}
use Rattle.kind_terms.specs.Forms.{out_name}
use Rattle.kind_terms.specs.SumLaws.{of_sum}
use Rattle.kind_terms.specs.ViewLaws.{drop_at, drop_end, seen_named}
use Rattle.core_form.specs.Core.{Ty, Args}
use Rattle.core_form.specs.Core as core
use Rattle.schema_core.specs.Names.{Names, Variable, a_number, a_type, other}
use Rattle.schema_core.specs.Numbers.{named_number}
use Rattle.schema_core.specs.CoreOf.{alone, args_of, no_meaning, onto_out, type_of}
use Rattle.flat_form.specs.Parts.{append_args}
use Rattle.plan_compile.specs.Applied.{applied_to, arg_of, hiding, second_type}

pub type_of_sum : (types : SchemaView) (names : Names) (e a b : Expr) (es : List Expr) → e ≡ Sum a b es
    → no_meaning ≡ type_of types names (expr_view e)
type_of_sum types names e a b es is = of_sum (type_of types names) no_meaning (λ x y. refl) e a b es is

-- ---- names

pub named_is : (types : SchemaView) (names : Names) (x : Word) (es : ExprList)
    → type_of types names (named x es) ≡ alone (hiding names x es) (applied_to types names x es)
named_is types names x no_exprs = refl
named_is types names x (an_expr e es) = refl

alone_is : (v : Variable) (t : Ty) → alone (Some v) t ≡ alone (Some v) no_meaning
alone_is (a_number v) t = refl
alone_is (a_type v) t = refl
alone_is other t = refl

pub hidden_is : (types : SchemaView) (names : Names) (e : Expr) (x : Word) (es : List Expr) (v : Variable)
    → e ≡ Named x es
    → Some v ≡ hiding names x (exprs_view es) → alone (Some v) no_meaning ≡ type_of types names (expr_view e)
hidden_is types names e x es v is found =
    sym (ap (type_of types names) (seen_named e x es is)
    ∙ named_is types names x (exprs_view es)
    ∙ ap (λ z. alone z (applied_to types names x (exprs_view es))) (sym found)
    ∙ alone_is v (applied_to types names x (exprs_view es)))

pub unhidden_is : (types : SchemaView) (names : Names) (e : Expr) (x : Word) (es : List Expr) → e ≡ Named x es
    → None ≡ hiding names x (exprs_view es)
    → applied_to types names x (exprs_view es) ≡ type_of types names (expr_view e)
unhidden_is types names e x es is found =
    sym (ap (type_of types names) (seen_named e x es is)
    ∙ named_is types names x (exprs_view es)
    ∙ ap (λ z. alone z (applied_to types names x (exprs_view es))) (sym found))

pub not_hidden : (names : Names) (x : Word) (es : List Expr) (n : Bool) → IsTrue n ↔ (es ≡ []) → n ≡ false
    → None ≡ hiding names x (exprs_view es)
not_hidden names x [] n h more = cc (h.1 refl)
not_hidden names x (d ∷ es) n h more = refl

pub second_none : (types : SchemaView) (names : Names) (es : List Expr) → length es < 2
    → no_meaning ≡ second_type types names (exprs_view es)
second_none types names [] less = refl
second_none types names (e ∷ []) less = refl
second_none types names (e ∷ d ∷ es) less = absurd (omega (arith, less))

-- ---- arguments

pub args_none : (args : Args) → append_args args core.no_args ≡ args
args_none core.no_args = refl
args_none (core.nat_arg e rest) = ap (core.nat_arg e) (args_none rest)
args_none (core.ty_arg t rest) = ap (core.ty_arg t) (args_none rest)
args_none (core.out_arg v rest) = ap (core.out_arg v) (args_none rest)

args_assoc : (a b c : Args) → append_args (append_args a b) c ≡ append_args a (append_args b c)
args_assoc core.no_args b c = refl
args_assoc (core.nat_arg e rest) b c = ap (core.nat_arg e) (args_assoc rest b c)
args_assoc (core.ty_arg t rest) b c = ap (core.ty_arg t) (args_assoc rest b c)
args_assoc (core.out_arg v rest) b c = ap (core.out_arg v) (args_assoc rest b c)

onto_some : (o : Option ℕ) (rest : Args) → append_args (onto_out o core.no_args) rest ≡ onto_out o rest
onto_some None rest = refl
onto_some (Some v) rest = refl

one_arg : (types : SchemaView) (names : Names) (k : TermKind) (ks : List TermKind) (e : ExprView) (es : ExprList)
    → append_args (arg_of types names k e) (args_of types names ks es) ≡ args_of types names (k ∷ ks) (an_expr e es)
one_arg types names (NumberIn most) ks e es = refl
one_arg types names TypeIn ks e es = refl
one_arg types names NumberOut ks e es = onto_some (named_number names (out_name e)) (args_of types names ks es)
one_arg types names NoKind ks e es = refl

no_kinds : (types : SchemaView) (names : Names) (es : ExprList) → args_of types names [] es ≡ core.no_args
no_kinds types names no_exprs = refl
no_kinds types names (an_expr e es) = refl

kinds_at : (ks : List TermKind) (i : ℕ) (k : TermKind) → Some k ≡ slice_get ks i → drop i ks ≡ k ∷ drop (i + 1) ks
kinds_at [] i k e = cc
kinds_at (x ∷ ks) zero k e = let same : k ≡ x = cc in ap (λ z. z ∷ ks) (sym same)
kinds_at (x ∷ ks) (suc i) k e = kinds_at ks i k e ∙ ap (λ n. k ∷ drop n (x ∷ ks)) (let h : suc (i + 1) ≡ suc i + 1 = omega arith in h)

kinds_past : (ks : List TermKind) (i : ℕ) → None ≡ slice_get ks i → drop i ks ≡ []
kinds_past [] zero e = refl
kinds_past [] (suc i) e = refl
kinds_past (x ∷ ks) zero e = cc
kinds_past (x ∷ ks) (suc i) e = kinds_past ks i e

pub args_turn : (types : SchemaView) (names : Names) (ks : List TermKind) (k : ℕ) (all : List Expr) (i : ℕ)
    (here : Expr)
    (kind : TermKind) (before new total : Args) → i < length all → here ≡ get_or all i here → Some kind ≡ slice_get ks k
    → new ≡ append_args before (arg_of types names kind (expr_view here))
    → append_args before (args_of types names (drop k ks) (exprs_view (drop i all))) ≡ total
    → append_args new (args_of types names (drop (k + 1) ks) (exprs_view (drop (i + 1) all))) ≡ total
args_turn types names ks k all i here kind before new total lt is found made so_far =
    let tail = args_of types names (drop (k + 1) ks) (exprs_view (drop (i + 1) all)) in
    ap (λ z. append_args z tail) made
    ∙ args_assoc before (arg_of types names kind (expr_view here)) tail
    ∙ ap (append_args before) (one_arg types names kind (drop (k + 1) ks) (expr_view here) (exprs_view (drop (i + 1) all)))
    ∙ ap (λ z. append_args before (args_of types names (kind ∷ drop (k + 1) ks) z)) (sym (drop_at all i here lt is))
    ∙ ap (λ z. append_args before (args_of types names z (exprs_view (drop i all)))) (sym (kinds_at ks k kind found))
    ∙ so_far

pub args_done : (types : SchemaView) (names : Names) (all : List Expr) (i : ℕ) (rest : List TermKind)
    (before total : Args)
    → length all ≤ i → append_args before (args_of types names rest (exprs_view (drop i all))) ≡ total → before ≡ total
args_done types names all i rest before total over so_far =
    sym (args_none before)
    ∙ sym (ap (λ z. append_args before (args_of types names rest z)) (drop_end all i over))
    ∙ so_far

pub kinds_done : (types : SchemaView) (names : Names) (es : ExprList) (ks : List TermKind) (k : ℕ) (before total : Args)
    → None ≡ slice_get ks k → append_args before (args_of types names (drop k ks) es) ≡ total → before ≡ total
kinds_done types names es ks k before total none so_far =
    sym (args_none before)
    ∙ sym (ap (append_args before) (no_kinds types names es))
    ∙ sym (ap (λ z. append_args before (args_of types names z es)) (kinds_past ks k none))
    ∙ so_far

pub no_output : (types : SchemaView) (names : Names) (args : Args) (kind : TermKind) (e : ExprView) → kind ≡ NumberOut
    → None ≡ named_number names (out_name e) → args ≡ append_args args (arg_of types names kind e)
no_output types names args kind e is none =
    sym (args_none args)
    ∙ ap (λ z. append_args args (onto_out z core.no_args)) none
    ∙ sym (ap (λ z. append_args args (arg_of types names z e)) is)

pub no_argument : (types : SchemaView) (names : Names) (args : Args) (kind : TermKind) (e : ExprView) → kind ≡ NoKind
    → args ≡ append_args args (arg_of types names kind e)
no_argument types names args kind e is = sym (args_none args) ∙ sym (ap (λ z. append_args args (arg_of types names z e)) is)

pub type_argument : (types : SchemaView) (names : Names) (args : Args) (kind : TermKind) (e : ExprView) (t : Ty)
    → kind ≡ TypeIn
    → t ≡ type_of types names e
    → append_args args (core.ty_arg t core.no_args) ≡ append_args args (arg_of types names kind e)
type_argument types names args kind e t is made =
    ap (λ z. append_args args (core.ty_arg z core.no_args)) made ∙ sym (ap (λ z. append_args args (arg_of types names z e)) is)
