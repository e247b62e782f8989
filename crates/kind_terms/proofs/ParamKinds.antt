-- The kind of a parameter by what its form is.
use Rattle.std.proofs.Common.{◌≡◌, ap, List, [], ◌∷◌, map, refl}
use Rattle.tlb_syntax.specs.declared.tree.Expr.{Expr}
use Rattle.tlb_syntax.specs.View.{expr, exprs}
use Rattle.std.specs.Prelude.{Option, Some, None, if◌then◌else◌}
use Rattle.tlb_syntax.specs.Tree.{ExprView, ItemList, lit, named, nat32, bits, below, up_to, plus, star, out, ref, group, no_exprs, an_expr}
use Rattle.kind_terms.specs.declared.kind.TermKind.{TermKind}
use Rattle.kind_terms.specs.declared.kind.TermKind.TheVariants.{NumberIn, NumberOut}
use Rattle.kind_terms.specs.Params.{bare_name, greatest, is_literal, kind_of, kind_of_variable, kind_of_sum, kinds_of_exprs, variable_of}
use Rattle.kind_terms.specs.Forms.{is_out}
use Rattle.kind_terms.specs.Words.{Word}

-- the kind of what is no output and no literal
abbrev pub kind_by : ItemList → Option Word → Option Word → TermKind
kind_by is None variable = kind_of_sum is variable
kind_by is (Some y) variable = kind_of_variable is variable

abbrev pub kind_by_form : ItemList → ExprView → TermKind
kind_by_form is v =
    if is_out v then NumberOut else if is_literal v then NumberIn greatest else kind_by is (bare_name v) (variable_of v)

pub kind_of_form : (is : ItemList) (v : ExprView) → kind_of is v ≡ kind_by_form is v
kind_of_form is (lit n) = refl
kind_of_form is (named x no_exprs) = refl
kind_of_form is (named x (an_expr e es)) = refl
kind_of_form is nat32 = refl
kind_of_form is (bits es) = refl
kind_of_form is (below es) = refl
kind_of_form is (up_to es) = refl
kind_of_form is (plus a b) = refl
kind_of_form is (star a b) = refl
kind_of_form is (out e) = refl
kind_of_form is (ref e) = refl
kind_of_form is (group js) = refl

pub kinds_of_exprs_each : (is : ItemList) (es : List Expr) → map (λ e. kind_of is (expr e)) es ≡ kinds_of_exprs is (exprs es)
kinds_of_exprs_each is [] = refl
kinds_of_exprs_each is (e ∷ es) = ap (◌∷◌ (kind_of is (expr e))) (kinds_of_exprs_each is es)
