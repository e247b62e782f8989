-- What the numbers of flat lists stand for, in core forms.
-- Source: this project's own; the core forms have those of the TON documentation on the TL-B language.
use Rattle.std.specs.Prelude.{ℕ, zero, suc, ◌==◌, List, [], ◌∷◌, take, drop, Option, Some, None, slice_get}
use Rattle.std.specs.Prelude.{if◌then◌else◌}
use Rattle.nat_solver.specs.Number.{Expr, lit}
use Rattle.nat_solver.specs.View.{expr}
use Rattle.nat_solver.specs.declared.expr.NatExpr.{NatExpr}
use Rattle.core_form.specs.Core.{Word, Condition, Ty, Args, Items, Input, nat32, bits, below, up_to, uint, int, bit_str}
use Rattle.core_form.specs.Core.{whole, variable, ref, repeat, dict, dict_e, named, group, no_args, nat_arg, ty_arg}
use Rattle.core_form.specs.Core.{out_arg, check, solve, field, no_items, an_item, number, type}
use Rattle.flat_form.specs.declared.lists.Flat.{Flat}
use Rattle.flat_form.specs.declared.lists.PlanOp.{PlanOp}
use Rattle.flat_form.specs.declared.lists.PlanOp.TheVariants.{Check, Solve, When, Field}
use Rattle.flat_form.specs.declared.lists.TypeNode.{TypeNode}
use Rattle.flat_form.specs.declared.lists.TypeNode.TheVariants.{Nat32, Bits, Below, UpTo, Uint, Int, BitStr, Whole}
use Rattle.flat_form.specs.declared.lists.TypeNode.TheVariants.{Variable, Ref, Repeat, Dict, DictE, Named, Group}
use Rattle.flat_form.specs.declared.lists.PlanArg.{PlanArg}
use Rattle.flat_form.specs.declared.lists.PlanArg.TheVariants.{Nat, Ty as TypeArg, Out}
use Rattle.flat_form.specs.declared.lists.PlanInput.{PlanInput}
use Rattle.flat_form.specs.declared.lists.PlanInput.TheVariants as inputs

-- ---- expressions, names, ranges

abbrev pub expr_or : Option NatExpr → Expr
expr_or (Some e) = expr e
expr_or None = lit 0

abbrev pub expr_at : Flat → ℕ → Expr
expr_at f e = expr_or (slice_get f.exprs e)

abbrev pub name_or : Option Word → Word
name_or (Some x) = x
name_or None = []

abbrev pub name_at : Flat → ℕ → Word
name_at f x = name_or (slice_get f.names x)

-- so many from a number on
abbrev pub range : {A : Type 0} → List A → ℕ → ℕ → List A
range xs first count = take count (drop first xs)

-- 4294967295 is no slot
abbrev pub slot_of : ℕ → Option ℕ
slot_of v = if v == 4294967295 then None else Some v

-- 32 is no bit: the number as a whole is tested
abbrev pub bit_of : ℕ → Option ℕ
bit_of k = if k == 32 then None else Some k

-- ---- types and operations, where the numbers of types stand for these types

abbrev pub arg_onto : Flat → (ℕ → Ty) → PlanArg → Args → Args
arg_onto f at (Nat e) rest = nat_arg (expr_at f e) rest
arg_onto f at (TypeArg t) rest = ty_arg (at t) rest
arg_onto f at (Out v) rest = out_arg v rest

abbrev pub args_in : Flat → (ℕ → Ty) → List PlanArg → Args
args_in f at [] = no_args
args_in f at (a ∷ rest) = arg_onto f at a (args_in f at rest)

-- operations, of which the first has this condition or none
abbrev pub items_in : Flat → (ℕ → Ty) → Option Condition → List PlanOp → Items
items_in f at governed [] = no_items
items_in f at governed (Check a op b i ∷ ops) =
    an_item (check (expr_at f a) op (expr_at f b) i) (items_in f at None ops)
items_in f at governed (Solve v a b i ∷ ops) =
    an_item (solve v (expr_at f a) (expr_at f b) i) (items_in f at None ops)
items_in f at governed (When e k ∷ ops) =
    items_in f at (Some (record { number = expr_at f e; bit = bit_of k })) ops
items_in f at governed (Field x t v ∷ ops) =
    an_item (field (name_at f x) (slot_of v) governed (at t)) (items_in f at None ops)

abbrev pub node_type : Flat → (ℕ → Ty) → TypeNode → Ty
node_type f at Nat32 = nat32
node_type f at (Bits e) = bits (expr_at f e)
node_type f at (Below e) = below (expr_at f e)
node_type f at (UpTo e) = up_to (expr_at f e)
node_type f at (Uint e) = uint (expr_at f e)
node_type f at (Int e) = int (expr_at f e)
node_type f at (BitStr e) = bit_str (expr_at f e)
node_type f at Whole = whole
node_type f at (Variable v) = variable v
node_type f at (Ref t) = ref (at t)
node_type f at (Repeat e t) = repeat (expr_at f e) (at t)
node_type f at (Dict e t) = dict (expr_at f e) (at t)
node_type f at (DictE e t) = dict_e (expr_at f e) (at t)
node_type f at (Named x first count) = named (name_at f x) (args_in f at (range f.args first count))
node_type f at (Group first count) = group (items_in f at None (range f.ops first count))

-- ---- what a number of a type stands for

abbrev pub node_or : Flat → (ℕ → Ty) → Option TypeNode → Ty
node_or f at (Some n) = node_type f at n
node_or f at None = whole

-- down to this depth of parts
unfoldable pub type_within : ℕ → Flat → ℕ → Ty
type_within zero f t = whole
type_within (suc depth) f t = node_or f (type_within depth f) (slice_get f.types t)

-- The parts of a type have smaller numbers, so its own number is deep enough.
unfoldable pub type_at : Flat → ℕ → Ty
type_at f t = type_within (suc t) f t

-- a record, by its operations
abbrev pub record_at : Flat → ℕ → ℕ → Items
record_at f first count = items_in f (type_at f) None (range f.ops first count)

-- ---- results

abbrev pub input_of : PlanInput → Input
input_of (inputs.Nat p) = number p
input_of (inputs.Ty v) = type v
