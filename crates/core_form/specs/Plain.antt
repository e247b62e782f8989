-- Core forms in which numbers have no unknown, and equations have the one that they name.
use Rattle.std.specs.Prelude.{◌≡◌, [], Option, Some, None, All}
use Rattle.nat_solver.specs.Number.{Expr, OneUnknown, unknowns}
use Rattle.core_form.specs.Core.{Ty, Args, Item, Items, Condition, Constructor, check, solve, field, nat32, bits, below}
use Rattle.core_form.specs.Core.{up_to, uint, int, bit_str, whole, variable, ref, repeat, dict, dict_e, named, group}
use Rattle.core_form.specs.Core.{no_args, nat_arg, ty_arg, out_arg, no_items, an_item}

abbrev pub IsPlainNumber : Expr → Type 0
IsPlainNumber e = unknowns e ≡ []

abbrev pub IsPlainCondition : Option Condition → Type 0
IsPlainCondition None = Unit {0}
IsPlainCondition (Some c) = IsPlainNumber c.number

abbrev mutual
  pub IsPlainType : Ty → Type 0
  IsPlainType nat32 = Unit {0}
  IsPlainType (bits e) = IsPlainNumber e
  IsPlainType (below e) = IsPlainNumber e
  IsPlainType (up_to e) = IsPlainNumber e
  IsPlainType (uint e) = IsPlainNumber e
  IsPlainType (int e) = IsPlainNumber e
  IsPlainType (bit_str e) = IsPlainNumber e
  IsPlainType whole = Unit {0}
  IsPlainType (variable v) = Unit {0}
  IsPlainType (ref t) = IsPlainType t
  IsPlainType (repeat e t) = IsPlainNumber e × IsPlainType t
  IsPlainType (dict e t) = IsPlainNumber e × IsPlainType t
  IsPlainType (dict_e e t) = IsPlainNumber e × IsPlainType t
  IsPlainType (named x args) = ArePlainArgs args
  IsPlainType (group is) = ArePlainItems is

  pub ArePlainArgs : Args → Type 0
  ArePlainArgs no_args = Unit {0}
  ArePlainArgs (nat_arg e args) = IsPlainNumber e × ArePlainArgs args
  ArePlainArgs (ty_arg t args) = IsPlainType t × ArePlainArgs args
  ArePlainArgs (out_arg v args) = ArePlainArgs args

  pub IsPlainItem : Item → Type 0
  IsPlainItem (check a op b i) = IsPlainNumber a × IsPlainNumber b
  IsPlainItem (solve v a b i) = OneUnknown a b v
  IsPlainItem (field x slot c t) = IsPlainCondition c × IsPlainType t

  pub ArePlainItems : Items → Type 0
  ArePlainItems no_items = Unit {0}
  ArePlainItems (an_item i is) = IsPlainItem i × ArePlainItems is

pub record IsPlain (c : Constructor) : Type 0 where
  pub items : ArePlainItems c.items
  pub outputs : All IsPlainNumber c.outputs
