-- What a push adds.
use Rattle.std.proofs.Common.{◌≡◌, ℕ, List, [], ◌∷◌, ◌++◌, refl, ap}
use Rattle.std.proofs.Common.{◌∙◌, slice_get, length}
use Rattle.nat_solver.specs.View.{expr}
use Rattle.nat_solver.specs.declared.expr.NatExpr.{NatExpr}
use Rattle.core_form.specs.Core.{Word}
use Rattle.flat_form.specs.declared.lists.Flat.{Flat}
use Rattle.flat_form.specs.declared.lists.PlanOp.{PlanOp}
use Rattle.flat_form.specs.declared.lists.TypeNode.{TypeNode}
use Rattle.flat_form.specs.declared.lists.PlanArg.{PlanArg}
use Rattle.flat_form.specs.Stands.{expr_at, expr_or, name_at, name_or, node_type}
use Rattle.flat_form.specs.Stands.{type_at}
use Rattle.flat_form.specs.Sound.{IsFlat, NodeIsSound, OpsAreSound}
use Rattle.flat_form.specs.Growth.{Begins, Grows, Adds}
use Rattle.flat_form.specs.GrowthLaws.{adds_node, adds_ops, adds_others, begins_more, begins_same, get_seam}
use Rattle.flat_form.specs.GrowthLaws.{node_stands}

abbrev pub with_types : Flat → List TypeNode → Flat
with_types f ts = record { ops = f.ops; types = ts; args = f.args; exprs = f.exprs; names = f.names }

abbrev pub with_exprs : Flat → List NatExpr → Flat
with_exprs f es = record { ops = f.ops; types = f.types; args = f.args; exprs = es; names = f.names }

abbrev pub with_names : Flat → List Word → Flat
with_names f xs = record { ops = f.ops; types = f.types; args = f.args; exprs = f.exprs; names = xs }

abbrev pub with_ops : Flat → List PlanOp → Flat
with_ops f os = record { ops = os; types = f.types; args = f.args; exprs = f.exprs; names = f.names }

grows_types : (f : Flat) (ts : List TypeNode) → Begins f.types ts → Grows f (with_types f ts)
grows_types f ts b = record {
  ops = begins_same f.ops;
  types = b;
  args = begins_same f.args;
  exprs = begins_same f.exprs;
  names = begins_same f.names;
}

pub pushed_type : (f : Flat) (ts : List TypeNode) (n : TypeNode) → IsFlat f → NodeIsSound f (length f.types) n
    → ts ≡ f.types ++ n ∷ [] → Adds f (with_types f ts)
pushed_type f ts n flat sound is =
    adds_node f (with_types f ts) n flat (grows_types f ts (begins_more f.types ts (n ∷ []) is)) is refl sound

pub pushed_type_is : (f : Flat) (ts : List TypeNode) (n : TypeNode) (t : ℕ) → IsFlat f
    → NodeIsSound f (length f.types) n → ts ≡ f.types ++ n ∷ [] → t ≡ length f.types
    → type_at (with_types f ts) t ≡ node_type f (type_at f) n
pushed_type_is f ts n t flat sound is at =
    ap (type_at (with_types f ts)) at
    ∙ node_stands f (with_types f ts) n flat (grows_types f ts (begins_more f.types ts (n ∷ []) is)) is refl sound

pub pushed_expr : (f : Flat) (es : List NatExpr) (e : NatExpr) → IsFlat f → es ≡ f.exprs ++ e ∷ []
    → Adds f (with_exprs f es)
pushed_expr f es e flat is =
    adds_others f (with_exprs f es) flat
    (record {
      ops = begins_same f.ops;
      types = begins_same f.types;
      args = begins_same f.args;
      exprs = begins_more f.exprs es (e ∷ []) is;
      names = begins_same f.names;
    }) refl refl

pub pushed_expr_is : (f : Flat) (es : List NatExpr) (e : NatExpr) (k : ℕ) → es ≡ f.exprs ++ e ∷ [] → k ≡ length f.exprs
    → expr_at (with_exprs f es) k ≡ expr e
pushed_expr_is f es e k is at =
    ap expr_or (ap (slice_get es) at ∙ ap (λ z. slice_get z (length f.exprs)) is ∙ get_seam f.exprs e)

pub pushed_name : (f : Flat) (xs : List Word) (x : Word) → IsFlat f → xs ≡ f.names ++ x ∷ [] → Adds f (with_names f xs)
pushed_name f xs x flat is =
    adds_others f (with_names f xs) flat
    (record {
      ops = begins_same f.ops;
      types = begins_same f.types;
      args = begins_same f.args;
      exprs = begins_same f.exprs;
      names = begins_more f.names xs (x ∷ []) is;
    }) refl refl

pub pushed_name_is : (f : Flat) (xs : List Word) (x : Word) (k : ℕ) → xs ≡ f.names ++ x ∷ [] → k ≡ length f.names
    → name_at (with_names f xs) k ≡ x
pushed_name_is f xs x k is at =
    ap name_or (ap (slice_get xs) at ∙ ap (λ z. slice_get z (length f.names)) is ∙ get_seam f.names x)

pub pushed_ops : (f : Flat) (os new : List PlanOp) → IsFlat f → os ≡ f.ops ++ new → OpsAreSound f (length f.types) new
    → Adds f (with_ops f os)
pushed_ops f os new flat is sound =
    adds_ops f (with_ops f os) new flat
    (record {
      ops = begins_more f.ops os new is;
      types = begins_same f.types;
      args = begins_same f.args;
      exprs = begins_same f.exprs;
      names = begins_same f.names;
    }) refl is sound

abbrev pub with_args : Flat → List PlanArg → Flat
with_args f xs = record { ops = f.ops; types = f.types; args = xs; exprs = f.exprs; names = f.names }

pub pushed_args : (f : Flat) (xs new : List PlanArg) → IsFlat f → xs ≡ f.args ++ new → Adds f (with_args f xs)
pushed_args f xs new flat is =
    adds_others f (with_args f xs) flat
    (record {
      ops = begins_same f.ops;
      types = begins_same f.types;
      args = begins_more f.args xs new is;
      exprs = begins_same f.exprs;
      names = begins_same f.names;
    }) refl refl
