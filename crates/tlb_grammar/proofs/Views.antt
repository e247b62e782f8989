-- The views of trees, at each variant.
use Rattle.std.proofs.Common.{◌≡◌, ℕ, List, map, Option, rules}
use Rattle.nat_solver.specs.declared.compare.Op.{Op}
use Rattle.tlb_syntax.specs.declared.tree.ParamKind.{ParamKind}
use Rattle.tlb_syntax.specs.declared.tree.Expr.{Expr}
use Rattle.tlb_syntax.specs.declared.tree.Expr.TheVariants as exprs
use Rattle.tlb_syntax.specs.declared.tree.Expr.TheFolds.{the_lemmas}
use Rattle.tlb_syntax.specs.declared.tree.FieldType.{FieldType}
use Rattle.tlb_syntax.specs.declared.tree.FieldType.TheVariants as types
use Rattle.tlb_syntax.specs.declared.tree.Item.{Item}
use Rattle.tlb_syntax.specs.declared.tree.Item.TheVariants.{Implicit, Check, Explicit}
use Rattle.tlb_syntax.specs.Tree.{lit, named, nat32, bits, below, up_to, star, out, ref, group, plain, when, when_bit, implicit, check, explicit, sum_of}
use Rattle.tlb_syntax.specs.View as view

pub lit_seen : (n : ℕ) → view.expr (exprs.Lit n) ≡ lit n
lit_seen n = search (rules, the_lemmas)

pub named_seen : (x : List ℕ) (es : List Expr) → view.expr (exprs.Named x es) ≡ named x (view.exprs es)
named_seen x es = search (rules, the_lemmas)

pub nat32_seen : view.expr exprs.Nat32 ≡ nat32
nat32_seen = search (rules, the_lemmas)

pub bits_seen : (es : List Expr) → view.expr (exprs.Bits es) ≡ bits (view.exprs es)
bits_seen es = search (rules, the_lemmas)

pub below_seen : (es : List Expr) → view.expr (exprs.Below es) ≡ below (view.exprs es)
below_seen es = search (rules, the_lemmas)

pub up_to_seen : (es : List Expr) → view.expr (exprs.UpTo es) ≡ up_to (view.exprs es)
up_to_seen es = search (rules, the_lemmas)

pub sum_seen : (a b : Expr) (es : List Expr)
    → view.expr (exprs.Sum a b es) ≡ sum_of (view.expr a) (view.expr b) (map view.expr es)
sum_seen a b es = search (rules, the_lemmas)

pub star_seen : (a b : Expr) → view.expr (exprs.Star a b) ≡ star (view.expr a) (view.expr b)
star_seen a b = search (rules, the_lemmas)

pub out_seen : (a : Expr) → view.expr (exprs.Out a) ≡ out (view.expr a)
out_seen a = search (rules, the_lemmas)

pub ref_seen : (a : Expr) → view.expr (exprs.Ref a) ≡ ref (view.expr a)
ref_seen a = search (rules, the_lemmas)

pub group_seen : (is : List Item) → view.expr (exprs.Group is) ≡ group (view.items is)
group_seen is = search (rules, the_lemmas)

pub plain_seen : (e : Expr) → view.field_type (types.Plain e) ≡ plain (view.expr e)
plain_seen e = search (rules, the_lemmas)

pub when_seen : (c e : Expr) → view.field_type (types.If c e) ≡ when (view.expr c) (view.expr e)
when_seen c e = search (rules, the_lemmas)

pub when_bit_seen : (c : Expr) (k : ℕ) (e : Expr)
    → view.field_type (types.IfBit c k e) ≡ when_bit (view.expr c) k (view.expr e)
when_bit_seen c k e = search (rules, the_lemmas)

pub implicit_seen : (x : List ℕ) (k : ParamKind) → view.item (Implicit x k) ≡ implicit x k
implicit_seen x k = search (rules, the_lemmas)

pub check_seen : (a b : Expr) (op : Op) → view.item (Check a op b) ≡ check (view.expr a) op (view.expr b)
check_seen a b op = search (rules, the_lemmas)

pub explicit_seen : (x : Option (List ℕ)) (t : FieldType) → view.item (Explicit x t) ≡ explicit x (view.field_type t)
explicit_seen x t = search (rules, the_lemmas)
