-- A type with numbers and closed types put for its variables.
-- Source: the TON documentation on the TL-B language (parametrized types); the limit of 4,096 nodes is this project's
-- own.
use Rattle.std.specs.Prelude.{ℕ, Option, Some, None, Result, Ok, Err, nat_lt, if◌then◌else◌}
use Rattle.core_form.specs.Core.{Word, Ty, Args, nat32, bits, below, up_to, uint, int, bit_str, whole, variable, ref}
use Rattle.core_form.specs.Core.{repeat}
use Rattle.core_form.specs.Core.{dict, dict_e, named, group, no_args, nat_arg, ty_arg, out_arg}
use Rattle.core_form.specs.Closed.{Closed, ClosedArgs, nodes}
use Rattle.core_form.specs.Closed as closed
use Rattle.core_form.specs.Scope.{Scope, type_at, value_in}

-- why a type has no closed type, the first cause first
pub data Refusal : Type 0 where
  -- a number of it, or a part of one, has no value
  overflow : Refusal
  -- it would have more than 4,096 nodes
  big_type : Refusal

abbrev pub of_number : (ℕ → Closed) → Option ℕ → Option Closed
of_number f (Some n) = Some (f n)
of_number f None = None

abbrev pub of_type : (Closed → Closed) → Option Closed → Option Closed
of_type f (Some t) = Some (f t)
of_type f None = None

abbrev pub of_both : (ℕ → Closed → Closed) → Option ℕ → Option Closed → Option Closed
of_both f (Some n) t = of_type (f n) t
of_both f None t = None

abbrev pub of_args : Word → Option ClosedArgs → Option Closed
of_args x (Some args) = Some (closed.named x args)
of_args x None = None

abbrev pub and_number : Option ℕ → Option ClosedArgs → Option ClosedArgs
and_number (Some n) (Some args) = Some (closed.nat_arg n args)
and_number (Some n) None = None
and_number None args = None

abbrev pub and_type : Option Closed → Option ClosedArgs → Option ClosedArgs
and_type (Some t) (Some args) = Some (closed.ty_arg t args)
and_type (Some t) None = None
and_type None args = None

-- None where a number or a variable has no value. Outputs are left out, and a record in it is closed at its own items.
abbrev mutual
  pub closing : Ty → Scope → Option Closed
  closing nat32 scope = Some closed.nat32
  closing (bits e) scope = of_number closed.bits (value_in e scope)
  closing (below e) scope = of_number closed.below (value_in e scope)
  closing (up_to e) scope = of_number closed.up_to (value_in e scope)
  closing (uint e) scope = of_number closed.uint (value_in e scope)
  closing (int e) scope = of_number closed.int (value_in e scope)
  closing (bit_str e) scope = of_number closed.bit_str (value_in e scope)
  closing whole scope = Some closed.whole
  closing (variable v) scope = type_at scope v
  closing (ref t) scope = of_type closed.ref (closing t scope)
  closing (repeat e t) scope = of_both closed.repeat (value_in e scope) (closing t scope)
  closing (dict e t) scope = of_both closed.dict (value_in e scope) (closing t scope)
  closing (dict_e e t) scope = of_both closed.dict_e (value_in e scope) (closing t scope)
  closing (named x args) scope = of_args x (closing_args args scope)
  closing (group is) scope = None

  pub closing_args : Args → Scope → Option ClosedArgs
  closing_args no_args scope = Some closed.no_args
  closing_args (nat_arg e args) scope = and_number (value_in e scope) (closing_args args scope)
  closing_args (ty_arg t args) scope = and_type (closing t scope) (closing_args args scope)
  closing_args (out_arg v args) scope = closing_args args scope

abbrev pub bounded : Option Closed → Result Closed Refusal
bounded None = Err overflow
bounded (Some t) = if nat_lt 4096 (nodes t) then Err big_type else Ok t

-- the closed type, or the first cause against it
abbrev pub close : Ty → Scope → Result Closed Refusal
close t scope = bounded (closing t scope)
