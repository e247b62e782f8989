-- Sums of two terms and more.
use Rattle.std.proofs.Common.{◌≡◌, ap, sym, ◌∙◌, List, [], ◌∷◌, map, refl, not, inl, inr, ◌⊎◌}
use Rattle.std.specs.Prelude.{Option, ◌==◌}
use Rattle.kind_terms.specs.Types.{TypeNamed, count}
use Rattle.tlb_syntax.specs.declared.tree.Expr.{Expr}
use Rattle.tlb_syntax.specs.declared.tree.Expr.TheVariants.{Sum, Bits, Below, UpTo}
use Rattle.tlb_syntax.specs.View.{expr, exprs}
use Rattle.tlb_syntax.specs.Tree.{ExprView, plus, nested}
use Rattle.kind_rules.specs.ExpectedKinds.{operand}
use Rattle.kind_rules.specs.Numbers.{is_other_basic}
use Rattle.kind_terms.specs.ViewLaws.{seen_sum, seen_bits, seen_below, seen_up_to}

-- a sum is no `~x`
operand_of_nested : (t u : ExprView) (us : List ExprView) → operand (nested (plus t u) us) ≡ nested (plus t u) us
operand_of_nested t u [] = refl
operand_of_nested t u (v ∷ vs) = operand_of_nested (plus t u) v vs

pub operand_of_sum : (e a b : Expr) (es : List Expr) → e ≡ Sum a b es → expr e ≡ operand (expr e)
operand_of_sum e a b es is =
    let seen = seen_sum e a b es is in
    seen ∙ sym (operand_of_nested (expr a) (expr b) (map expr es)) ∙ ap operand (sym seen)

pub other_basic_of_numbers : (n : Option TypeNamed) (e : Expr) (es : List Expr)
    → (e ≡ Bits es) ⊎ ((e ≡ Below es) ⊎ (e ≡ UpTo es))
    → not (count (exprs es) == 1) ≡ is_other_basic n (expr e)
other_basic_of_numbers n e es (inl is) = sym (ap (is_other_basic n) (seen_bits e es is))
other_basic_of_numbers n e es (inr (inl is)) = sym (ap (is_other_basic n) (seen_below e es is))
other_basic_of_numbers n e es (inr (inr is)) = sym (ap (is_other_basic n) (seen_up_to e es is))
