-- Core forms whose slots are among so many.
use Rattle.std.specs.Prelude.{ℕ, ◌≡◌, ◌<◌, ◌⊎◌, Option, Some, None, All}
use Rattle.nat_solver.specs.Number.{Expr, lit, var, sought, plus, times}
use Rattle.nat_solver.specs.declared.pattern.Pattern.{Pattern}
use Rattle.nat_solver.specs.declared.pattern.Pattern.TheVariants.{Lit, Var, Plus}
use Rattle.core_form.specs.Core.{Ty, Args, Item, Items, Condition, Input, Constructor, number, type, check, solve}
use Rattle.core_form.specs.Core.{field}
use Rattle.core_form.specs.Core.{nat32, bits, below, up_to, uint, int, bit_str, whole, variable, ref, repeat, dict}
use Rattle.core_form.specs.Core.{dict_e}
use Rattle.core_form.specs.Core.{named, group, no_args, nat_arg, ty_arg, out_arg, no_items, an_item, no_slot}

-- a slot that is read: one of so many, or that of what has no meaning
abbrev pub IsSlot : ℕ → ℕ → Type 0
IsSlot n v = (v < n) ⊎ (v ≡ no_slot)

-- a slot that is set, if there is one, is one of so many
abbrev pub IsSlotWithin : ℕ → Option ℕ → Type 0
IsSlotWithin n None = Unit {0}
IsSlotWithin n (Some v) = v < n

abbrev pub IsNumberWithin : ℕ → Expr → Type 0
IsNumberWithin n (lit m) = Unit {0}
IsNumberWithin n (var v) = IsSlot n v
IsNumberWithin n (sought v) = v < n
IsNumberWithin n (plus a b) = IsNumberWithin n a × IsNumberWithin n b
IsNumberWithin n (times k a) = IsNumberWithin n a

abbrev pub IsConditionWithin : ℕ → Option Condition → Type 0
IsConditionWithin n None = Unit {0}
IsConditionWithin n (Some c) = IsNumberWithin n c.number

abbrev mutual
  pub IsTypeWithin : ℕ → Ty → Type 0
  IsTypeWithin n nat32 = Unit {0}
  IsTypeWithin n (bits e) = IsNumberWithin n e
  IsTypeWithin n (below e) = IsNumberWithin n e
  IsTypeWithin n (up_to e) = IsNumberWithin n e
  IsTypeWithin n (uint e) = IsNumberWithin n e
  IsTypeWithin n (int e) = IsNumberWithin n e
  IsTypeWithin n (bit_str e) = IsNumberWithin n e
  IsTypeWithin n whole = Unit {0}
  IsTypeWithin n (variable v) = IsSlot n v
  IsTypeWithin n (ref t) = IsTypeWithin n t
  IsTypeWithin n (repeat e t) = IsNumberWithin n e × IsTypeWithin n t
  IsTypeWithin n (dict e t) = IsNumberWithin n e × IsTypeWithin n t
  IsTypeWithin n (dict_e e t) = IsNumberWithin n e × IsTypeWithin n t
  IsTypeWithin n (named x args) = AreArgsWithin n args
  IsTypeWithin n (group is) = AreItemsWithin n is

  pub AreArgsWithin : ℕ → Args → Type 0
  AreArgsWithin n no_args = Unit {0}
  AreArgsWithin n (nat_arg e args) = IsNumberWithin n e × AreArgsWithin n args
  AreArgsWithin n (ty_arg t args) = IsTypeWithin n t × AreArgsWithin n args
  AreArgsWithin n (out_arg v args) = (v < n) × AreArgsWithin n args

  pub IsItemWithin : ℕ → Item → Type 0
  IsItemWithin n (check a op b i) = IsNumberWithin n a × IsNumberWithin n b
  IsItemWithin n (solve v a b i) = (v < n) × IsNumberWithin n a × IsNumberWithin n b
  IsItemWithin n (field x slot c t) = IsSlotWithin n slot × IsConditionWithin n c × IsTypeWithin n t

  pub AreItemsWithin : ℕ → Items → Type 0
  AreItemsWithin n no_items = Unit {0}
  AreItemsWithin n (an_item i is) = IsItemWithin n i × AreItemsWithin n is

abbrev pub IsPatternWithin : ℕ → Pattern → Type 0
IsPatternWithin n (Lit m) = Unit {0}
IsPatternWithin n (Var v) = v < n
IsPatternWithin n (Plus v k) = v < n

abbrev pub IsInputWithin : ℕ → Input → Type 0
IsInputWithin n (number p) = IsPatternWithin n p
IsInputWithin n (type v) = v < n

-- each slot of the constructor is one of as many as it has, but that of what has no meaning
pub record IsWithin (c : Constructor) : Type 0 where
  pub inputs : All (IsInputWithin c.slots) c.inputs
  pub outputs : All (IsNumberWithin c.slots) c.outputs
  pub items : AreItemsWithin c.slots c.items
