-- Arguments as numbers and types, one by one.
use Rattle.std.proofs.Common.{◌≡◌, ℕ, ap, sym, ◌∙◌, List, [], ◌∷◌, map, refl, Bool, true, false, length, ◌<◌, arith}
use Rattle.tlb_syntax.specs.declared.tree.Expr.{Expr}
use Rattle.tlb_syntax.specs.View.{expr, exprs}
use Rattle.tlb_syntax.specs.Tree.{ExprView, lit, named, nat32, bits, below, up_to, plus, star, out, ref, group}
use Rattle.kind_terms.specs.Params.{is_literal}
use Rattle.closed_type.specs.View.{AnArg, number, type, onto, joined}
use Rattle.core_form.specs.Closed.{Closed, ClosedArgs}
use Rattle.type_closing.specs.Closing.{an_arg, args_of, closed_of, literal, no_meaning, second_type}

abbrev pub argument : Expr → AnArg
argument e = an_arg (expr e) (closed_of (expr e))

pub joined_args : (es : List Expr) → joined (map argument es) ≡ args_of (exprs es)
joined_args [] = refl
joined_args (e ∷ es) = ap (onto (argument e)) (joined_args es)

pub number_arg : (e : ExprView) (t : Closed) → is_literal e ≡ true → number (literal e) ≡ an_arg e t
number_arg (lit n) t h = refl
number_arg (named x es) t h = cc
number_arg nat32 t h = cc
number_arg (bits es) t h = cc
number_arg (below es) t h = cc
number_arg (up_to es) t h = cc
number_arg (plus a b) t h = cc
number_arg (star a b) t h = cc
number_arg (out e) t h = cc
number_arg (ref e) t h = cc
number_arg (group is) t h = cc

pub type_arg : (e : ExprView) (t : Closed) → is_literal e ≡ false → type t ≡ an_arg e t
type_arg (lit n) t h = cc
type_arg (named x es) t h = refl
type_arg nat32 t h = refl
type_arg (bits es) t h = refl
type_arg (below es) t h = refl
type_arg (up_to es) t h = refl
type_arg (plus a b) t h = refl
type_arg (star a b) t h = refl
type_arg (out e) t h = refl
type_arg (ref e) t h = refl
type_arg (group is) t h = refl

-- fewer than two arguments have no second
pub few_args : (es : List Expr) → length es < 2 → no_meaning ≡ second_type (exprs es)
few_args [] h = refl
few_args (e ∷ []) h = refl
few_args (e ∷ f ∷ es) h = absurd (omega (arith, h))
