-- Types and operations with their parts, while they are made.
use Rattle.std.specs.Prelude.{ℕ, ◌≡◌, ◌≤◌, Bool, true, false, List, [], ◌∷◌, length, Option, Some, None}
use Rattle.nat_solver.specs.Number.{Expr, unknowns}
use Rattle.nat_solver.specs.View.{expr}
use Rattle.nat_solver.specs.declared.expr.NatExpr.{NatExpr}
use Rattle.core_form.specs.Core.{Condition, Ty, Args, Item, Items, no_args, nat_arg, ty_arg, out_arg, no_items, an_item}
use Rattle.core_form.specs.Core as core
use Rattle.flat_form.specs.declared.lists.Flat.{Flat}
use Rattle.flat_form.specs.declared.lists.PlanArg.{PlanArg}
use Rattle.flat_form.specs.declared.lists.PlanOp.{PlanOp}
use Rattle.flat_form.specs.declared.lists.PlanOp.TheVariants.{Check, Solve, When, Field}
use Rattle.flat_form.specs.declared.parts.Sized.{Sized}
use Rattle.flat_form.specs.declared.parts.Sized.TheVariants.{Bits, Below, UpTo, Uint, Int, BitStr}
use Rattle.flat_form.specs.Stands.{args_in, items_in, type_at, bit_of}
use Rattle.flat_form.specs.Sound.{ConditionsGovern, OpsAreSound}

abbrev pub sized : Sized → Expr → Ty
sized Bits e = core.bits e
sized Below e = core.below e
sized UpTo e = core.up_to e
sized Uint e = core.uint e
sized Int e = core.int e
sized BitStr e = core.bit_str e

-- ---- arguments

-- arguments after arguments
abbrev pub append_args : Args → Args → Args
append_args no_args more = more
append_args (nat_arg e rest) more = nat_arg e (append_args rest more)
append_args (ty_arg t rest) more = ty_arg t (append_args rest more)
append_args (out_arg v rest) more = out_arg v (append_args rest more)

abbrev pub with_argument : Args → (Args → Args) → Args
with_argument args last = append_args args (last no_args)

-- what the arguments so far stand for
abbrev pub args_so_far : Flat → List PlanArg → Args
args_so_far f args = args_in f (type_at f) args

-- ---- operations

-- items after items
abbrev pub append_items : Items → Items → Items
append_items no_items more = more
append_items (an_item i rest) more = an_item i (append_items rest more)

abbrev pub with_item : Items → Item → Items
with_item items last = append_items items (an_item last no_items)

-- whether what comes after these operations has a condition, where the first of them has one by this
abbrev pub is_open : Bool → List PlanOp → Bool
is_open b [] = b
is_open b (Check l op r i ∷ ops) = is_open false ops
is_open b (Solve v l r i ∷ ops) = is_open false ops
is_open b (When e k ∷ ops) = is_open true ops
is_open b (Field x t v ∷ ops) = is_open false ops

-- the operations of a record so far
pub record AreOps (f : Flat) (ops : List PlanOp) : Type 0 where
  pub sound : OpsAreSound f (length f.types) ops
  pub conditions : ConditionsGovern ops

-- what they stand for
abbrev pub items_so_far : Flat → List PlanOp → Items
items_so_far f ops = items_in f (type_at f) None ops

-- a number, and the bit tested
abbrev pub condition_of : Option (NatExpr × ℕ) → Option Condition
condition_of (Some c) = Some (record { number = expr c.0; bit = bit_of c.1 })
condition_of None = None

abbrev pub IsPlainCondition : Option (NatExpr × ℕ) → Type 0
IsPlainCondition (Some c) = (unknowns (expr c.0) ≡ []) × (c.1 ≤ 32)
IsPlainCondition None = Unit {0}
