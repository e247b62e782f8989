-- The closed types that the program's values stand for.
use Rattle.std.specs.Prelude.{ℕ, List, [], ◌∷◌, map}
use Rattle.closed_type.specs.declared.tree.ClosedType.{ClosedType}
use Rattle.closed_type.specs.declared.tree.ClosedArg.{ClosedArg, fold-ClosedArg}
use Rattle.closed_type.specs.declared.tree.ClosedArg.TheOpen.{ClosedArg-F, ClosedType-F, Nat, Ty, Nat32, Bits, Below}
use Rattle.closed_type.specs.declared.tree.ClosedArg.TheOpen.{UpTo, Uint, Int, BitStr, Whole, Ref, Repeat, Dict, DictE}
use Rattle.closed_type.specs.declared.tree.ClosedArg.TheOpen.{Named}
use Rattle.closed_type.specs.declared.tree.ClosedArg.TheFolds.{fold-ClosedType}
use Rattle.core_form.specs.Closed as forms
use Rattle.core_form.specs.Closed.{Closed, ClosedArgs, no_args, nat_arg, ty_arg}

-- an argument alone
pub data AnArg : Type 0 where
  number : ℕ → AnArg
  type : Closed → AnArg

abbrev pub onto : AnArg → ClosedArgs → ClosedArgs
onto (number n) args = nat_arg n args
onto (type t) args = ty_arg t args

abbrev pub joined : List AnArg → ClosedArgs
joined [] = no_args
joined (a ∷ rest) = onto a (joined rest)

abbrev pub arg_step : ClosedArg-F AnArg Closed → AnArg
arg_step (Nat n) = number n
arg_step (Ty t) = type t

abbrev pub type_step : ClosedType-F AnArg Closed → Closed
type_step (Named x args) = forms.named x (joined args)
type_step Nat32 = forms.nat32
type_step (Bits n) = forms.bits n
type_step (Below n) = forms.below n
type_step (UpTo n) = forms.up_to n
type_step (Uint n) = forms.uint n
type_step (Int n) = forms.int n
type_step (BitStr n) = forms.bit_str n
type_step (Ref t) = forms.ref t
type_step (Repeat n t) = forms.repeat n t
type_step Whole = forms.whole
type_step (Dict n t) = forms.dict n t
type_step (DictE n t) = forms.dict_e n t

abbrev pub closed_type : ClosedType → Closed
closed_type = fold-ClosedType AnArg Closed arg_step type_step

abbrev pub closed_arg : ClosedArg → AnArg
closed_arg = fold-ClosedArg AnArg Closed arg_step type_step

abbrev pub closed_args : List ClosedArg → ClosedArgs
closed_args args = joined (map closed_arg args)
