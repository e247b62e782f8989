-- The nodes of numbers and outputs.
use Rattle.std.proofs.Common.{◌≡◌, ◌⊎◌, inl, inr, ap, sym, ◌∙◌, refl, ℕ, ◌+◌, ◌<◌, ◌≤◌, List, [], ◌∷◌, ◌++◌, drop, length, get_or}
use Rattle.std.specs.Prelude.{Option, Some, None, Result, Err}
use Rattle.tlb_syntax.specs.declared.tree.Expr.{Expr}
use Rattle.tlb_syntax.specs.declared.tree.Item.{Item}
use Rattle.tlb_syntax.specs.declared.tree.Expr.TheVariants.{Lit, Named, Nat32, Bits, Below, UpTo, Star, Out, Ref, Group}
use Rattle.tlb_syntax.specs.View.{expr, exprs}
use Rattle.tlb_syntax.specs.Tree.{ExprView, ExprList, lit, named, nat32, bits, below, up_to, plus, star, out, ref, group, no_exprs, an_expr}
use Rattle.field_path.specs.declared.part.Part.{Part}
use Rattle.kind_terms.specs.Words.{Word}
use Rattle.kind_terms.specs.Params.{greatest}
use Rattle.kind_declarations.specs.declared.error.Fault.{Fault}
use Rattle.kind_rules.specs.ExpectedKinds.{Expected, a_number, an_output}
use Rattle.kind_declarations.specs.Nodes.{ItemContext, arg_nodes, expr_nodes, use_at}
use Rattle.kind_declarations.specs.Faults.{Judges, verdict}
use Rattle.kind_declarations.specs.Parts.{number_nodes}
use Rattle.kind_declarations.proofs.Verdicts.{judged_from, passed_verdict, refused_then, verdict_none}
use Rattle.kind_terms.specs.ViewLaws.{drop_at, drop_end, seen_lit, seen_named, seen_nat32, seen_bits, seen_below, seen_up_to, seen_star, seen_out, seen_ref, seen_group}

pub append_none : {X : Type 0} (xs : List X) → xs ++ [] ≡ xs
append_none [] = refl
append_none (x ∷ xs) = ap (λ r. x ∷ r) (append_none xs)

pub arg_none : (es : ExprList) (a : ItemContext) (before : List Word) → arg_nodes es a [] before ≡ []
arg_none no_exprs a before = refl
arg_none (an_expr e es) a before = refl

-- where nothing is expected, nothing is judged
pub none_expected : (e : ExprView) (a : ItemContext) → expr_nodes e a None ≡ []
none_expected (lit n) a = refl
none_expected (named x es) a = arg_none es a []
none_expected nat32 a = refl
none_expected (bits es) a = arg_none es a []
none_expected (below es) a = arg_none es a []
none_expected (up_to es) a = arg_none es a []
none_expected (plus x y) a = ap (λ r. r ++ expr_nodes y a None) (none_expected x a) ∙ none_expected y a
none_expected (star x y) a = ap (λ r. r ++ expr_nodes y a None) (none_expected x a) ∙ none_expected y a
none_expected (out e) a = refl
none_expected (ref e) a = none_expected e a
none_expected (group is) a = refl

-- the forms of numbers that have no parts
abbrev pub IsLeaf : Expr → Type 0
IsLeaf e =
    ((n : ℕ) × e ≡ Lit n) ⊎ (((x : Word) × (es : List Expr) × e ≡ Named x es) ⊎ ((e ≡ Nat32) ⊎ (((es : List Expr) × e ≡ Bits es)
    ⊎ (((es : List Expr) × e ≡ Below es) ⊎ (((es : List Expr) × e ≡ UpTo es) ⊎ (((f : Expr) × e ≡ Out f)
    ⊎ (((f : Expr) × e ≡ Ref f) ⊎ ((is : List Item) × e ≡ Group is))))))))

along : (e : Expr) (v : ExprView) (a : ItemContext) (d : Option Expected)
    → expr e ≡ v → expr_nodes v a d ≡ use_at a d v → expr_nodes (expr e) a d ≡ use_at a d (expr e)
along e v a d seen same = ap (λ w. expr_nodes w a d) seen ∙ same ∙ sym (ap (use_at a d) seen)

pub leaf_nodes : (e : Expr) (a : ItemContext) (n : ℕ) (q : Option Word) → IsLeaf e
    → expr_nodes (expr e) a (Some (a_number n q)) ≡ use_at a (Some (a_number n q)) (expr e)
leaf_nodes e a n q (inl h) = along e _ a _ (seen_lit e h.0 h.1) refl
leaf_nodes e a n q (inr (inl h)) =
    along e _ a _ (seen_named e h.0 h.1 h.2) (ap (λ r. use_at a (Some (a_number n q)) (named h.0 (exprs h.1)) ++ r) (arg_none (exprs h.1) a []))
leaf_nodes e a n q (inr (inr (inl h))) = along e _ a _ (seen_nat32 e h) refl
leaf_nodes e a n q (inr (inr (inr (inl h)))) =
    along e _ a _ (seen_bits e h.0 h.1) (ap (λ r. use_at a (Some (a_number n q)) (bits (exprs h.0)) ++ r) (arg_none (exprs h.0) a []))
leaf_nodes e a n q (inr (inr (inr (inr (inl h))))) =
    along e _ a _ (seen_below e h.0 h.1) (ap (λ r. use_at a (Some (a_number n q)) (below (exprs h.0)) ++ r) (arg_none (exprs h.0) a []))
leaf_nodes e a n q (inr (inr (inr (inr (inr (inl h)))))) =
    along e _ a _ (seen_up_to e h.0 h.1) (ap (λ r. use_at a (Some (a_number n q)) (up_to (exprs h.0)) ++ r) (arg_none (exprs h.0) a []))
leaf_nodes e a n q (inr (inr (inr (inr (inr (inr (inl h))))))) = along e _ a _ (seen_out e h.0 h.1) refl
leaf_nodes e a n q (inr (inr (inr (inr (inr (inr (inr (inl h)))))))) =
    along e _ a _ (seen_ref e h.0 h.1) (ap (λ r. use_at a (Some (a_number n q)) (ref (expr h.0)) ++ r) (none_expected (expr h.0) a))
leaf_nodes e a n q (inr (inr (inr (inr (inr (inr (inr (inr h)))))))) = along e _ a _ (seen_group e h.0 h.1) refl

pub star_nodes : (e x y l r : Expr) (a : ItemContext) (n : ℕ) (q : Option Word) → e ≡ Star x y → l ≡ x → r ≡ y
    → expr_nodes (expr e) a (Some (a_number n q))
    ≡ use_at a (Some (a_number n q)) (expr e)
    ++ (expr_nodes (expr l) a (Some (a_number greatest q)) ++ expr_nodes (expr r) a (Some (a_number greatest q)))
star_nodes e x y l r a n q is left right =
    let same : e ≡ Star l r = is ∙ ap (λ z. Star z y) (sym left) ∙ ap (λ z. Star l z) (sym right) in
    let seen = seen_star e l r same in
    ap (λ w. expr_nodes w a (Some (a_number n q))) seen
    ∙ sym (ap (λ w. use_at a (Some (a_number n q)) w ++ (expr_nodes (expr l) a (Some (a_number greatest q)) ++ expr_nodes (expr r) a (Some (a_number greatest q)))) seen)

-- where an output is expected, nothing is judged but the expression itself
pub output_nodes_of : (v : ExprView) (a : ItemContext) (before : List Word)
    → expr_nodes v a (Some (an_output before)) ≡ use_at a (Some (an_output before)) v
output_nodes_of (lit n) a before = refl
output_nodes_of (named x es) a before = ap (λ r. use_at a (Some (an_output before)) (named x es) ++ r) (arg_none es a [])
output_nodes_of nat32 a before = refl
output_nodes_of (bits es) a before = ap (λ r. use_at a (Some (an_output before)) (bits es) ++ r) (arg_none es a [])
output_nodes_of (below es) a before = ap (λ r. use_at a (Some (an_output before)) (below es) ++ r) (arg_none es a [])
output_nodes_of (up_to es) a before = ap (λ r. use_at a (Some (an_output before)) (up_to es) ++ r) (arg_none es a [])
output_nodes_of (plus x y) a before =
    ap (λ r. use_at a (Some (an_output before)) (plus x y) ++ (r ++ expr_nodes y a None)) (none_expected x a)
    ∙ ap (λ r. use_at a (Some (an_output before)) (plus x y) ++ r) (none_expected y a)
output_nodes_of (star x y) a before =
    ap (λ r. use_at a (Some (an_output before)) (star x y) ++ (r ++ expr_nodes y a None)) (none_expected x a)
    ∙ ap (λ r. use_at a (Some (an_output before)) (star x y) ++ r) (none_expected y a)
output_nodes_of (out e) a before = refl
output_nodes_of (ref e) a before = ap (λ r. use_at a (Some (an_output before)) (ref e) ++ r) (none_expected e a)
output_nodes_of (group is) a before = refl

pub same_expected : (d e : Expected) (a : ItemContext) (v : ExprView) (p : List Part) (r : Result (Unit {0}) Fault)
    → d ≡ e → Judges (use_at a (Some d) v) p r → Judges (use_at a (Some e) v) p r
same_expected d e a v p r same h = rw (sym same) h

-- ---- numbers in a row, those before i seen so far

module _ (ts : List Expr) (i : ℕ) (a : ItemContext) (q : Option Word)
    (gone : verdict (number_nodes (exprs (drop i ts)) a q) ≡ verdict (number_nodes (exprs ts) a q)) where
  pub terms_refused : (t : Expr) (p : List Part) (f : Fault) → i < length ts → t ≡ get_or ts i t
      → Judges (expr_nodes (expr t) a (Some (a_number greatest q))) p (Err f) → Judges (number_nodes (exprs ts) a q) p (Err f)
  terms_refused t p f h is j =
      let rest = number_nodes (exprs (drop (i + 1) ts)) a q in
      judged_from _ _ p (Err f)
      (sym (ap (λ es. verdict (number_nodes es a q)) (drop_at ts i t h is)) ∙ gone)
      (refused_then (expr_nodes (expr t) a (Some (a_number greatest q))) rest p f j)

  pub terms_passed : (t : Expr) → i < length ts → t ≡ get_or ts i t
      → verdict (expr_nodes (expr t) a (Some (a_number greatest q))) ≡ None
      → verdict (number_nodes (exprs (drop (i + 1) ts)) a q) ≡ verdict (number_nodes (exprs ts) a q)
  terms_passed t h is j =
      sym (ap (λ es. verdict (number_nodes es a q)) (drop_at ts i t h is)
      ∙ passed_verdict (expr_nodes (expr t) a (Some (a_number greatest q))) (number_nodes (exprs (drop (i + 1) ts)) a q) j)
      ∙ gone

  pub terms_end : length ts ≤ i → verdict (number_nodes (exprs ts) a q) ≡ None
  terms_end h = sym gone ∙ ap (λ es. verdict (number_nodes es a q)) (drop_end ts i h) ∙ verdict_none
