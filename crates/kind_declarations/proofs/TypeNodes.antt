-- The nodes of types and of their parts.
use Rattle.std.proofs.Common.{◌≡◌, ap, sym, ◌∙◌, refl, ℕ, List, [], ◌++◌, Bool, ◌⊎◌, inl, inr}
use Rattle.std.specs.Prelude.{Some, None, Result}
use Rattle.tlb_syntax.specs.declared.tree.Expr.{Expr}
use Rattle.tlb_syntax.specs.declared.tree.Expr.TheVariants.{Lit, Named, Nat32, Out, Star}
use Rattle.tlb_syntax.specs.View.{expr, exprs}
use Rattle.tlb_syntax.specs.Tree.{ExprView, lit, named, nat32, bits, below, up_to, plus, star, out, ref, group}
use Rattle.field_path.specs.declared.part.Part.{Part}
use Rattle.kind_terms.specs.declared.kind.TermKind.{TermKind}
use Rattle.kind_terms.specs.declared.kind.TermKind.TheVariants.{NoKind}
use Rattle.kind_terms.specs.Words.{Word}
use Rattle.kind_terms.specs.Types.{type_named, parameters, has_exprs}
use Rattle.kind_rules.specs.declared.expected.TypePosition.{TypePosition}
use Rattle.kind_rules.specs.declared.expected.TypePosition.TheVariants.{Inner}
use Rattle.kind_declarations.specs.declared.error.Fault.{Fault}
use Rattle.kind_rules.specs.ExpectedKinds.{a_type}
use Rattle.kind_declarations.specs.Nodes.{ItemContext, arg_nodes, expr_nodes, expected_argument, expected_number, use_at}
use Rattle.kind_declarations.specs.Parts.{part_nodes}
use Rattle.kind_declarations.specs.Faults.{Judges, verdict}
use Rattle.kind_terms.specs.ViewLaws.{seen_lit, seen_nat32, seen_out, seen_named, seen_star}
use Rattle.kind_declarations.proofs.NumberNodes.{none_expected}
use Rattle.kind_declarations.proofs.Verdicts.{judged_from, verdict_none}

-- the node of a type, and those of its parts
pub type_split : (e : ExprView) (a : ItemContext) (w : TypePosition)
    → expr_nodes e a (Some (a_type w)) ≡ use_at a (Some (a_type w)) e ++ part_nodes e a w
type_split (lit n) a w = refl
type_split (named x es) a w = refl
type_split nat32 a w = refl
type_split (bits es) a w = refl
type_split (below es) a w = refl
type_split (up_to es) a w = refl
type_split (plus x y) a w =
    ap (λ r. use_at a (Some (a_type w)) (plus x y) ++ (r ++ expr_nodes y a None)) (none_expected x a)
    ∙ ap (λ r. use_at a (Some (a_type w)) (plus x y) ++ r) (none_expected y a)
type_split (star x y) a w = refl
type_split (out e) a w = refl
type_split (ref e) a w = refl
type_split (group is) a w = refl

pub star_parts : (e x y l r : Expr) (a : ItemContext) (w : TypePosition) → e ≡ Star x y → l ≡ x → r ≡ y
    → part_nodes (expr e) a w ≡ expr_nodes (expr l) a expected_number ++ expr_nodes (expr r) a (Some (a_type Inner))
star_parts e x y l r a w is left right =
    let same : e ≡ Star l r = is ∙ ap (λ z. Star z y) (sym left) ∙ ap (λ z. Star l z) (sym right) in
    ap (λ v. part_nodes v a w) (seen_star e l r same)

pub named_parts : (e : Expr) (x : Word) (es us : List Expr) (a : ItemContext) (w : TypePosition) (b : Bool) (ks : List TermKind)
    → e ≡ Named x es → us ≡ es → b ≡ has_exprs (exprs es) → ks ≡ parameters (type_named a.scope.types x b)
    → part_nodes (expr e) a w ≡ arg_nodes (exprs us) a ks []
named_parts e x es us a w b ks is same has kinds =
    ap (λ v. part_nodes v a w) (seen_named e x es is)
    ∙ sym (ap (λ c. arg_nodes (exprs es) a (parameters (type_named a.scope.types x c)) []) has)
    ∙ sym (ap (λ z. arg_nodes (exprs es) a z []) kinds)
    ∙ sym (ap (λ z. arg_nodes (exprs z) a ks []) same)

pub no_kind : (e : ExprView) (a : ItemContext) (k : TermKind) (given : List Word) → k ≡ NoKind → verdict (expr_nodes e a (expected_argument k given)) ≡ None
no_kind e a k given is =
    ap (λ l. verdict (expr_nodes e a (expected_argument l given))) is ∙ ap verdict (none_expected e a) ∙ verdict_none

pub no_parts : (e : Expr) (a : ItemContext) (w : TypePosition) → ((n : ℕ) × e ≡ Lit n) ⊎ ((e ≡ Nat32) ⊎ ((f : Expr) × e ≡ Out f))
    → verdict (part_nodes (expr e) a w) ≡ None
no_parts e a w (inl h) = ap (λ v. verdict (part_nodes v a w)) (seen_lit e h.0 h.1) ∙ verdict_none
no_parts e a w (inr (inl h)) = ap (λ v. verdict (part_nodes v a w)) (seen_nat32 e h) ∙ verdict_none
no_parts e a w (inr (inr h)) = ap (λ v. verdict (part_nodes v a w)) (seen_out e h.0 h.1) ∙ verdict_none

pub named_judged : (e : Expr) (x : Word) (es us : List Expr) (a : ItemContext) (w : TypePosition) (b : Bool) (ks : List TermKind)
    (p : List Part) (r : Result (Unit {0}) Fault)
    → e ≡ Named x es → us ≡ es → b ≡ has_exprs (exprs es) → ks ≡ parameters (type_named a.scope.types x b)
    → Judges (arg_nodes (exprs us) a ks []) p r → Judges (part_nodes (expr e) a w) p r
named_judged e x es us a w b ks p r is same has kinds j =
    judged_from _ _ p r (sym (ap verdict (named_parts e x es us a w b ks is same has kinds))) j
