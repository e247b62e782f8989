-- The nodes of a result's outputs.
use Rattle.std.proofs.Common.{◌≡◌, ◌⊎◌, inl, inr, ◌<◌, ◌≤◌, ◌+◌, ap, sym, ◌∙◌, refl, ℕ, List, [], ◌++◌, length, drop, get_or}
use Rattle.std.specs.Prelude.{Option, Some, None, Err}
use Rattle.tlb_syntax.specs.declared.tree.Expr.{Expr}
use Rattle.tlb_syntax.specs.declared.tree.Item.{Item}
use Rattle.tlb_syntax.specs.declared.tree.Expr.TheVariants.{Lit, Named, Nat32, Bits, Below, UpTo, Star, Ref, Group}
use Rattle.tlb_syntax.specs.View.{expr, exprs}
use Rattle.tlb_syntax.specs.Tree.{ExprView, ExprList, lit, named, nat32, bits, below, up_to, plus, star, out, ref, group, no_exprs, an_expr}
use Rattle.field_path.specs.declared.part.Part.{Part}
use Rattle.kind_terms.specs.Words.{Word}
use Rattle.kind_terms.specs.Scopes.{Scope}
use Rattle.kind_declarations.specs.declared.error.Fault.{Fault}
use Rattle.kind_terms.specs.Params.{greatest}
use Rattle.kind_rules.specs.ExpectedKinds.{a_number}
use Rattle.kind_declarations.specs.Nodes.{ItemContext, Judged, expr_nodes, expected_number, output_nodes, use_at}
use Rattle.kind_declarations.specs.Faults.{Judges, verdict}
use Rattle.kind_terms.specs.ViewLaws.{seen_lit, seen_named, seen_nat32, seen_bits, seen_below, seen_up_to, seen_star, seen_ref, seen_group, drop_at, drop_end}
use Rattle.kind_declarations.proofs.NumberNodes.{append_none, arg_none, none_expected}
use Rattle.kind_declarations.proofs.Verdicts.{judged_from, passed_verdict, refused_then, verdict_none}

abbrev one : ExprView → ItemContext → List Judged
one v a = output_nodes (an_expr v no_exprs) a

abbrev pub IsNoOut : Expr → Type 0
IsNoOut e =
    ((n : ℕ) × e ≡ Lit n) ⊎ (((x : Word) × (es : List Expr) × e ≡ Named x es) ⊎ ((e ≡ Nat32) ⊎ (((es : List Expr) × e ≡ Bits es)
    ⊎ (((es : List Expr) × e ≡ Below es) ⊎ (((es : List Expr) × e ≡ UpTo es) ⊎ (((x : Expr) × (y : Expr) × e ≡ Star x y)
    ⊎ (((f : Expr) × e ≡ Ref f) ⊎ ((is : List Item) × e ≡ Group is))))))))

along : (e : Expr) (v : ExprView) (a : ItemContext) → expr e ≡ v → one v a ≡ [] → verdict (one (expr e) a) ≡ None
along e v a seen none = ap (λ w. verdict (one w a)) seen ∙ ap verdict none ∙ verdict_none

pub no_out : (e : Expr) (a : ItemContext) → IsNoOut e → verdict (output_nodes (an_expr (expr e) no_exprs) a) ≡ None
no_out e a (inl h) = along e _ a (seen_lit e h.0 h.1) refl
no_out e a (inr (inl h)) = along e _ a (seen_named e h.0 h.1 h.2) refl
no_out e a (inr (inr (inl h))) = along e _ a (seen_nat32 e h) refl
no_out e a (inr (inr (inr (inl h)))) = along e _ a (seen_bits e h.0 h.1) refl
no_out e a (inr (inr (inr (inr (inl h))))) = along e _ a (seen_below e h.0 h.1) refl
no_out e a (inr (inr (inr (inr (inr (inl h)))))) = along e _ a (seen_up_to e h.0 h.1) refl
no_out e a (inr (inr (inr (inr (inr (inr (inl h))))))) = along e _ a (seen_star e h.0 h.1 h.2) refl
no_out e a (inr (inr (inr (inr (inr (inr (inr (inl h)))))))) = along e _ a (seen_ref e h.0 h.1) refl
no_out e a (inr (inr (inr (inr (inr (inr (inr (inr h)))))))) = along e _ a (seen_group e h.0 h.1) refl

-- one more output
pub output_split : (v : ExprView) (es : ExprList) (a : ItemContext)
    → output_nodes (an_expr v es) a ≡ output_nodes (an_expr v no_exprs) a ++ output_nodes es a
output_split (lit n) es a = refl
output_split (named x fs) es a = refl
output_split nat32 es a = refl
output_split (bits fs) es a = refl
output_split (below fs) es a = refl
output_split (up_to fs) es a = refl
output_split (plus x y) es a = refl
output_split (star x y) es a = refl
output_split (out e) es a = ap (λ r. r ++ output_nodes es a) (sym (append_none (expr_nodes e a expected_number)))
output_split (ref e) es a = refl
output_split (group is) es a = refl

-- ---- outputs in a row, those before i seen so far

module _ (es : List Expr) (i : ℕ) (a : ItemContext) (gone : verdict (output_nodes (exprs (drop i es)) a) ≡ verdict (output_nodes (exprs es) a)) where
  step : (e : Expr) → i < length es → e ≡ get_or es i e
      → output_nodes (exprs (drop i es)) a ≡ output_nodes (an_expr (expr e) no_exprs) a ++ output_nodes (exprs (drop (i + 1) es)) a
  step e h is = ap (λ x. output_nodes x a) (drop_at es i e h is) ∙ output_split (expr e) (exprs (drop (i + 1) es)) a

  pub outputs_refused : (e : Expr) (p : List Part) (f : Fault) → i < length es → e ≡ get_or es i e
      → Judges (output_nodes (an_expr (expr e) no_exprs) a) p (Err f) → Judges (output_nodes (exprs es) a) p (Err f)
  outputs_refused e p f h is j =
      judged_from _ _ p (Err f) (sym (ap verdict (step e h is)) ∙ gone) (refused_then (one (expr e) a) _ p f j)

  pub outputs_passed : (e : Expr) → i < length es → e ≡ get_or es i e → verdict (output_nodes (an_expr (expr e) no_exprs) a) ≡ None
      → verdict (output_nodes (exprs (drop (i + 1) es)) a) ≡ verdict (output_nodes (exprs es) a)
  outputs_passed e h is j =
      sym (ap verdict (step e h is) ∙ passed_verdict (one (expr e) a) (output_nodes (exprs (drop (i + 1) es)) a) j) ∙ gone

  pub outputs_end : length es ≤ i → verdict (output_nodes (exprs es) a) ≡ None
  outputs_end h = sym gone ∙ ap (λ x. verdict (output_nodes x a)) (drop_end es i h) ∙ verdict_none

-- ---- a number does not depend on the fields around it

module _ (p : List Part) (s : Scope) (f g : List Word) where
  abbrev with : List Word → ItemContext
  with fs = record { path = p; scope = s; fields = fs }

  number_alike : (e : ExprView) (n : ℕ) (q : Option Word)
      → expr_nodes e (with f) (Some (a_number n q)) ≡ expr_nodes e (with g) (Some (a_number n q))
  number_alike (lit m) n q = refl
  number_alike (named x es) n q =
      ap (λ r. use_at (with f) (Some (a_number n q)) (named x es) ++ r) (arg_none es (with f) [] ∙ sym (arg_none es (with g) []))
  number_alike nat32 n q = refl
  number_alike (bits es) n q =
      ap (λ r. use_at (with f) (Some (a_number n q)) (bits es) ++ r) (arg_none es (with f) [] ∙ sym (arg_none es (with g) []))
  number_alike (below es) n q =
      ap (λ r. use_at (with f) (Some (a_number n q)) (below es) ++ r) (arg_none es (with f) [] ∙ sym (arg_none es (with g) []))
  number_alike (up_to es) n q =
      ap (λ r. use_at (with f) (Some (a_number n q)) (up_to es) ++ r) (arg_none es (with f) [] ∙ sym (arg_none es (with g) []))
  number_alike (plus x y) n q =
      ap (λ r. use_at (with f) (Some (a_number n q)) (plus x y) ++ (r ++ expr_nodes y (with f) (Some (a_number greatest q)))) (number_alike x greatest q)
      ∙ ap (λ r. use_at (with f) (Some (a_number n q)) (plus x y) ++ (expr_nodes x (with g) (Some (a_number greatest q)) ++ r)) (number_alike y greatest q)
  number_alike (star x y) n q =
      ap (λ r. use_at (with f) (Some (a_number n q)) (star x y) ++ (r ++ expr_nodes y (with f) (Some (a_number greatest q)))) (number_alike x greatest q)
      ∙ ap (λ r. use_at (with f) (Some (a_number n q)) (star x y) ++ (expr_nodes x (with g) (Some (a_number greatest q)) ++ r)) (number_alike y greatest q)
  number_alike (out e) n q = refl
  number_alike (ref e) n q =
      ap (λ r. use_at (with f) (Some (a_number n q)) (ref e) ++ r) (none_expected e (with f) ∙ sym (none_expected e (with g)))
  number_alike (group is) n q = refl

  output_alike : (v : ExprView) → output_nodes (an_expr v no_exprs) (with f) ≡ output_nodes (an_expr v no_exprs) (with g)
  output_alike (lit m) = refl
  output_alike (named x es) = refl
  output_alike nat32 = refl
  output_alike (bits es) = refl
  output_alike (below es) = refl
  output_alike (up_to es) = refl
  output_alike (plus x y) = refl
  output_alike (star x y) = refl
  output_alike (out e) = ap (λ r. r ++ []) (number_alike e greatest None)
  output_alike (ref e) = refl
  output_alike (group is) = refl

  pub outputs_alike : (es : ExprList) → output_nodes es (with f) ≡ output_nodes es (with g)
  outputs_alike no_exprs = refl
  outputs_alike (an_expr v es) =
      output_split v es (with f)
      ∙ ap (λ r. r ++ output_nodes es (with f)) (output_alike v)
      ∙ ap (λ r. output_nodes (an_expr v no_exprs) (with g) ++ r) (outputs_alike es)
      ∙ sym (output_split v es (with g))
