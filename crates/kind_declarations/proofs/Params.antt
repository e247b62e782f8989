-- Headings: their own causes, and the parameters one by one.
use Rattle.std.proofs.Common.{◌≡◌, ◌∙◌, ap, sym, refl, ℕ, ◌<◌, ◌≤◌, ◌+◌, suc, length, get_or, take, drop, append_assoc, arith}
use Rattle.std.specs.Prelude.{List, [], ◌∷◌, ◌++◌, not, Bool, true, false, Option, Some, None, if◌then◌else◌}
use Rattle.std.proofs.lemmas.List.{append-nil, at_drop_all, length-take-le, take_more, drop_more}
use Rattle.tlb_syntax.specs.declared.tree.Expr.{Expr}
use Rattle.std.specs.Borrow.{Bor}
use Rattle.std.specs.List.{list_any}
use Rattle.kind_terms.specs.declared.types.Declared.{Declared}
use Rattle.kind_terms.specs.Views.{constructors_by}
use Rattle.tlb_syntax.specs.declared.tree.Constructor.{Constructor}
use Rattle.tlb_syntax.specs.Tree.{SchemaView, an_expr}
use Rattle.tlb_syntax.specs.View.{constructor, expr, exprs}
use Rattle.kind_terms.specs.declared.kind.TermKind.{TermKind}
use Rattle.kind_terms.specs.Params.{has_kind, inputs, kind_of, option_list, variable_of}
use Rattle.kind_terms.specs.Types.{count, first_kinds}
use Rattle.kind_terms.specs.Words.{Word}
use Rattle.kind_declarations.specs.declared.error.Cause.{Cause}
use Rattle.kind_declarations.specs.declared.error.Cause.TheVariants.{Reserved, TwiceNamed, Arity, KindMismatch, NotLinear}
use Rattle.kind_declarations.specs.Faults.{causes, fault_at, first, verdict}
use Rattle.kind_declarations.specs.Headings.{Heading, Param, differs_at, is_constructor_twice, is_input_twice, is_no_param, is_other_param, is_reserved, is_variable_among, lacks_params, same_name}
use Rattle.kind_declarations.specs.HeadingViews.{all_params, heading_by, param_cause}
use Rattle.kind_declarations.specs.Nodes.{Judged, a_heading, a_param, heading_nodes, joined, judged, param_nodes, params_end, result_path}
use Rattle.kind_declarations.proofs.JudgedParts.{node_passes, node_stops}
use Rattle.kind_declarations.proofs.Verdicts.{verdict_none}

-- ---- causes

abbrev picked : Bool → Cause → List Cause → List Cause
picked b c cs = if b then c ∷ cs else cs

abbrev pub heading_cause : Bool → Bool → Option Cause
heading_cause reserved twice = if reserved then Some Reserved else if twice then Some TwiceNamed else None

first_of_two : (a b : Bool) → first (picked a Reserved (picked b TwiceNamed [])) ≡ heading_cause a b
first_of_two true b = refl
first_of_two false true = refl
first_of_two false false = refl

first_of_three : (a b c : Bool) → first (picked a Arity (picked b KindMismatch (picked c NotLinear []))) ≡ param_cause a b c
first_of_three true b c = refl
first_of_three false true c = refl
first_of_three false false true = refl
first_of_three false false false = refl

abbrev pub end_cause : Bool → Option Cause
end_cause lacks = if lacks then Some Arity else None

first_of_one : (a : Bool) → first (picked a Arity []) ≡ end_cause a
first_of_one true = refl
first_of_one false = refl

heading_is : (r : Heading) → first (causes (a_heading r)) ≡ heading_cause (is_reserved r) (is_constructor_twice r)
heading_is r = first_of_two (is_reserved r) (is_constructor_twice r)

param_is : (p : Param) → first (causes (a_param p)) ≡ param_cause (is_other_param p) (is_no_param p) (is_input_twice p)
param_is p = first_of_three (is_other_param p) (is_no_param p) (is_input_twice p)

end_is : (r : Heading) → first (causes (params_end r)) ≡ end_cause (lacks_params r)
end_is r = first_of_one (lacks_params r)

-- ---- names

pub reserved_name : (r : Heading) → true ≡ is_reserved r → verdict (heading_nodes r) ≡ Some (fault_at result_path Reserved)
reserved_name r h =
    node_stops result_path (a_heading r) (all_params r) Reserved
    (heading_is r ∙ ap (λ b. heading_cause b (is_constructor_twice r)) (sym h))

pub name_twice : (r : Heading) → false ≡ is_reserved r → true ≡ is_constructor_twice r
    → verdict (heading_nodes r) ≡ Some (fault_at result_path TwiceNamed)
name_twice r h t =
    node_stops result_path (a_heading r) (all_params r) TwiceNamed
    (heading_is r ∙ ap (λ b. heading_cause b (is_constructor_twice r)) (sym h) ∙ ap (heading_cause false) (sym t))

pub names_pass : (r : Heading) → false ≡ is_reserved r → false ≡ is_constructor_twice r
    → verdict (heading_nodes r) ≡ verdict (all_params r)
names_pass r h t =
    node_passes result_path (a_heading r) (all_params r)
    (heading_is r ∙ ap (λ b. heading_cause b (is_constructor_twice r)) (sym h) ∙ ap (heading_cause false) (sym t))

-- ---- lists of expressions

pub count_of_exprs : (es : List Expr) → count (exprs es) ≡ length es
count_of_exprs [] = refl
count_of_exprs (e ∷ es) = ap suc (count_of_exprs es)

joined_exprs : (es : List Expr) (e : Expr) → joined (exprs es) (expr e) ≡ exprs (es ++ e ∷ [])
joined_exprs [] e = refl
joined_exprs (d ∷ es) e = ap (an_expr (expr d)) (joined_exprs es e)

inputs_of_joined : (es : List Expr) (e : Expr) → inputs (exprs (es ++ e ∷ [])) ≡ inputs (exprs es) ++ option_list (variable_of (expr e))
inputs_of_joined [] e = (append-nil (option_list (variable_of (expr e))))
inputs_of_joined (d ∷ es) e =
    ap (λ x. option_list (variable_of (expr d)) ++ x) (inputs_of_joined es e)
    ∙ sym (append_assoc (option_list (variable_of (expr d))) (inputs (exprs es)) (option_list (variable_of (expr e))))

-- ---- parameters

-- the parameters from a place on, and what is after them
abbrev pub params_from : Heading → List Expr → ℕ → List Judged
params_from r ps i = param_nodes r (exprs (take i ps)) (exprs (drop i ps)) ++ judged result_path (params_end r) ∷ []

abbrev pub param_at : Heading → List Expr → ℕ → Expr → Param
param_at r ps i p = record { of = r; before = exprs (take i ps); at = expr p }

-- the parameter's cause, by what is known before it
abbrev pub cause_by : Heading → Option (List TermKind) → ℕ → List Word → Expr → Option Cause
cause_by r ks i seen p =
    param_cause (differs_at ks i (kind_of r.this.items (expr p))) (not (has_kind (kind_of r.this.items (expr p))))
    (is_variable_among (variable_of (expr p)) seen)

param_cause_is : (r : Heading) (ps : List Expr) (i : ℕ) (p : Expr) (ks : Option (List TermKind)) (seen : List Word) → i ≤ length ps
    → ks ≡ first_kinds r.earlier → seen ≡ inputs (exprs (take i ps))
    → cause_by r ks i seen p ≡ first (causes (a_param (param_at r ps i p)))
param_cause_is r ps i p ks seen h fixed known =
    let k = kind_of r.this.items (expr p) in
    let size : i ≡ count (exprs (take i ps)) = sym (count_of_exprs (take i ps) ∙ length-take-le i ps h) in
    ap (λ x. cause_by r x i seen p) fixed
    ∙ ap (λ x. cause_by r (first_kinds r.earlier) i x p) known
    ∙ ap (λ x. param_cause (differs_at (first_kinds r.earlier) x k) (not (has_kind k)) (is_variable_among (variable_of (expr p)) (inputs (exprs (take i ps))))) size
    ∙ sym (param_is (param_at r ps i p))

from_here : (ps : List Expr) (i : ℕ) (p : Expr) → i < length ps → p ≡ get_or ps i p → drop i ps ≡ p ∷ drop (i + 1) ps
from_here ps i p h is = drop_more ps i p h ∙ ap (λ x. x ∷ drop (i + 1) ps) (sym is)

so_far : (ps : List Expr) (i : ℕ) (p : Expr) → i < length ps → p ≡ get_or ps i p → take (i + 1) ps ≡ take i ps ++ p ∷ []
so_far ps i p h is = take_more ps i p h ∙ ap (λ x. take i ps ++ x ∷ []) (sym is)

param_turn : (r : Heading) (ps : List Expr) (i : ℕ) (p : Expr) → i < length ps → p ≡ get_or ps i p
    → params_from r ps i ≡ judged result_path (a_param (param_at r ps i p)) ∷ params_from r ps (i + 1)
param_turn r ps i p h is =
    ap (λ x. param_nodes r (exprs (take i ps)) (exprs x) ++ judged result_path (params_end r) ∷ []) (from_here ps i p h is)
    ∙ ap (λ x. judged result_path (a_param (param_at r ps i p)) ∷ (param_nodes r x (exprs (drop (i + 1) ps)) ++ judged result_path (params_end r) ∷ []))
    (joined_exprs (take i ps) p ∙ ap exprs (sym (so_far ps i p h is)))

pub param_passes : (r : Heading) (ps : List Expr) (i : ℕ) (p : Expr) (ks : Option (List TermKind)) (seen : List Word)
    → i < length ps → p ≡ get_or ps i p → ks ≡ first_kinds r.earlier → seen ≡ inputs (exprs (take i ps))
    → None ≡ cause_by r ks i seen p → verdict (params_from r ps i) ≡ verdict (params_from r ps (i + 1))
param_passes r ps i p ks seen h is fixed known none =
    ap verdict (param_turn r ps i p h is)
    ∙ node_passes result_path (a_param (param_at r ps i p)) (params_from r ps (i + 1))
    (sym (param_cause_is r ps i p ks seen (omega arith) fixed known) ∙ sym none)

pub param_stops : (r : Heading) (ps : List Expr) (i : ℕ) (p : Expr) (ks : Option (List TermKind)) (seen : List Word) (c : Cause)
    → i < length ps → p ≡ get_or ps i p → ks ≡ first_kinds r.earlier → seen ≡ inputs (exprs (take i ps))
    → Some c ≡ cause_by r ks i seen p → verdict (params_from r ps i) ≡ Some (fault_at result_path c)
param_stops r ps i p ks seen c h is fixed known some =
    ap verdict (param_turn r ps i p h is)
    ∙ node_stops result_path (a_param (param_at r ps i p)) (params_from r ps (i + 1)) c
    (sym (param_cause_is r ps i p ks seen (omega arith) fixed known) ∙ sym some)

pub more_inputs : (ps : List Expr) (i : ℕ) (p : Expr) → i < length ps → p ≡ get_or ps i p
    → inputs (exprs (take (i + 1) ps)) ≡ inputs (exprs (take i ps)) ++ option_list (variable_of (expr p))
more_inputs ps i p h is = ap (λ x. inputs (exprs x)) (so_far ps i p h is) ∙ inputs_of_joined (take i ps) p

-- after the last parameter

at_end : (r : Heading) (ps : List Expr) (i : ℕ) → length ps ≤ i → params_from r ps i ≡ judged result_path (params_end r) ∷ []
at_end r ps i h =
    at_drop_all (λ x. param_nodes r (exprs (take i ps)) (exprs x) ++ judged result_path (params_end r) ∷ []) ps i h

pub end_stops : (r : Heading) (ps : List Expr) (i : ℕ) → length ps ≤ i → true ≡ lacks_params r
    → verdict (params_from r ps i) ≡ Some (fault_at result_path Arity)
end_stops r ps i h lacks =
    ap verdict (at_end r ps i h)
    ∙ node_stops result_path (params_end r) [] Arity (end_is r ∙ ap end_cause (sym lacks))

pub end_passes : (r : Heading) (ps : List Expr) (i : ℕ) → length ps ≤ i → false ≡ lacks_params r → verdict (params_from r ps i) ≡ None
end_passes r ps i h lacks =
    ap verdict (at_end r ps i h)
    ∙ node_passes result_path (params_end r) [] (end_is r ∙ ap end_cause (sym lacks)) ∙ verdict_none

-- ---- constructors without a name

pub none_is_named : (cs : SchemaView) → list_any (same_name None) cs ≡ false
none_is_named [] = refl
none_is_named (c ∷ cs) = none_is_named cs

-- ---- the earlier declarations

abbrev pub heading_of : SchemaView → Constructor → Heading
heading_of earlier c = record { earlier = earlier; this = constructor c }

pub same_heading : (earlier : Option (Bor Declared)) (c : Constructor) (s : SchemaView) → constructors_by earlier ≡ s
    → heading_by earlier c ≡ heading_of s c
same_heading earlier c s h = ap (λ x. heading_of x c) h
