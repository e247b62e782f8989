-- The inputs of a result, one by one.
use Rattle.std.proofs.Common.{◌≡◌, ◌∙◌, ap, sym, refl, ℕ, Bool, true, false, ◌↔◌, List, [], ◌∷◌, ◌++◌, append_assoc, map}
use Rattle.std.specs.Prelude.{IsTrue, Option, Some, None}
use Rattle.std.proofs.lemmas.List.{map-append}
use Rattle.tlb_syntax.specs.Tree.{ExprView, ExprList, plus, nested, an_expr}
use Rattle.tlb_syntax.specs.declared.tree.Expr.{Expr}
use Rattle.tlb_syntax.specs.declared.tree.Expr.TheVariants.{Named, Sum}
use Rattle.tlb_syntax.specs.View.{expr}
use Rattle.kind_terms.specs.ViewLaws.{seen_named, seen_sum}
use Rattle.core_form.specs.Core.{Input}
use Rattle.schema_core.specs.CoreOf.{input_of, inputs_of}
use Rattle.schema_core.specs.Names.{Names}
use Rattle.tag_ambiguity.specs.declared.inputs.Input.{Input as ProgramInput}
use Rattle.tag_ambiguity.specs.Inputs.{inputs_by, one_input, plain_input, plain_inputs}

-- one more input, or none
abbrev pub with_input : List ProgramInput → Option ProgramInput → List ProgramInput
with_input inputs None = inputs
with_input inputs (Some i) = inputs ++ i ∷ []

grown : (inputs : List ProgramInput) (o : Option ProgramInput) → inputs_by (with_input inputs o) ≡ inputs_by inputs ++ one_input o
grown inputs None = nil (inputs_by inputs)
  where
    nil : (xs : List Input) → xs ≡ xs ++ []
    nil [] = refl
    nil (x ∷ xs) = ap (λ z. x ∷ z) (nil xs)
grown [] (Some i) = refl
grown (j ∷ inputs) (Some i) = ap (λ z. inputs_by (j ∷ []) ++ z) (grown inputs (Some i))

pub one_more : (names : Names) (inputs : List ProgramInput) (o : Option ProgramInput) (e : ExprView) (es : ExprList) (all : List Input)
    → inputs_by inputs ++ plain_inputs (inputs_of names (an_expr e es)) ≡ all → one_input o ≡ plain_inputs (input_of names e)
    → inputs_by (with_input inputs o) ++ plain_inputs (inputs_of names es) ≡ all
one_more names inputs o e es all so_far is =
    ap (λ z. z ++ plain_inputs (inputs_of names es)) (grown inputs o ∙ ap (λ z. inputs_by inputs ++ z) is)
    ∙ append_assoc (inputs_by inputs) (plain_inputs (input_of names e)) (plain_inputs (inputs_of names es))
    ∙ ap (λ z. inputs_by inputs ++ z) (sym (map-append plain_input (input_of names e) (inputs_of names es)))
    ∙ so_far

-- a sum of three terms and more is no input
no_input : (names : Names) (t u v : ExprView) (us : List ExprView) → input_of names (nested (plus (plus t u) v) us) ≡ []
no_input names t u v [] = refl
no_input names t u v (w ∷ us) = no_input names (plus t u) v w us

-- nor is a name with arguments
pub with_args : (names : Names) (e : Expr) (x : List ℕ) (es : List Expr) → e ≡ Named x es → (es ≡ [] → ⊥)
    → [] ≡ plain_inputs (input_of names (expr e))
with_args names e x [] is some = absurd (some refl)
with_args names e x (d ∷ es) is some = sym (ap (λ z. plain_inputs (input_of names z)) (seen_named e x (d ∷ es) is))

pub not_empty : {P : Type 0} (b : Bool) → IsTrue b ↔ P → b ≡ false → P → ⊥
not_empty true h off p = cc
not_empty false h off p = cc (h.1 p)

pub long_sum : (names : Names) (e a b : Expr) (es : List Expr) → e ≡ Sum a b es → (es ≡ [] → ⊥) → [] ≡ plain_inputs (input_of names (expr e))
long_sum names e a b [] is some = absurd (some refl)
long_sum names e a b (d ∷ es) is some =
    sym (ap (λ z. plain_inputs (input_of names z)) (seen_sum e a b (d ∷ es) is)
    ∙ ap plain_inputs (no_input names (expr a) (expr b) (expr d) (map expr es)))
