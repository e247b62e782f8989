-- What a value is spelled at, and the table of basic types.
--
-- Source: TON documentation, "TL-B language": built-in types, conditional fields, `^`, `[ ]`. The widths of the table
-- and the limit of 4,096 nodes are this project's own.
use Rattle.std.specs.Prelude.{ℕ, ◌+◌, ◌-◌, ◌^◌, ◌==◌, Bool, true, false, if◌then◌else◌, nat_lt, nat_le, Option, Some, None, Result, Ok, Err}
use Rattle.std.specs.Int.{bit_at}
use Rattle.bit_slice.specs.Bits.{bit_length}
use Rattle.core_form.specs.Core.{Condition, Ty, Items, no_condition}
use Rattle.core_form.specs.Core as core
use Rattle.core_form.specs.Closed.{Closed}
use Rattle.core_form.specs.Closed as closed
use Rattle.core_form.specs.Closing.{Refusal, overflow, big_type, close}
use Rattle.core_form.specs.Scope.{Scope, value_in}
use Rattle.spelling.specs.declared.Cause.{Cause}
use Rattle.spelling.specs.declared.Cause.TheVariants.{Overflow, BigType, Width}

-- ---- the table of basic types

pub data Row : Type 0 where
  -- so many bits, whose number is below a bound; whether a field of the type names this number
  natural : ℕ → ℕ → Bool → Row
  -- so many bits in two's complement
  integer : ℕ → Row
  -- so many bits as they are
  string : ℕ → Row
  no_row : Row

-- `#`, `## n`, `#< n`, `#<= n`, `uint n`, `int n`, `bits n`; what has more than 128 bits is no number
abbrev pub row : Closed → Row
row closed.nat32 = natural 32 (2 ^ 32) true
row (closed.bits n) = natural n (2 ^ n) true
row (closed.below n) = natural (bit_length (n - 1)) n true
row (closed.up_to n) = natural (bit_length n) (n + 1) true
row (closed.uint n) = if nat_le n 128 then natural n (2 ^ n) false else string n
row (closed.int n) = if nat_le n 128 then integer n else string n
row (closed.bit_str n) = string n
row closed.whole = no_row
row (closed.ref t) = no_row
row (closed.repeat n t) = no_row
row (closed.dict n t) = no_row
row (closed.dict_e n t) = no_row
row (closed.named x args) = no_row

-- whether the width of the type is in the table, for a dictionary that of its keys
abbrev pub in_table : Closed → Bool
in_table closed.nat32 = true
in_table (closed.bits n) = nat_le n 32
in_table (closed.below n) = true
in_table (closed.up_to n) = true
in_table (closed.uint n) = nat_le n 256
in_table (closed.int n) = nat_le n 257
in_table (closed.bit_str n) = nat_le n 1023
in_table closed.whole = true
in_table (closed.ref t) = true
in_table (closed.repeat n t) = true
in_table (closed.dict n t) = nat_le n 1023
in_table (closed.dict_e n t) = nat_le n 1023
in_table (closed.named x args) = true

-- ---- goals and shapes

-- what a value is spelled at: a closed type, a field's type with its condition, or one reference to a cell of any kind
pub data Goal : Type 0 where
  at_type : Closed → Goal
  at_field : Option Condition → Ty → Scope → Goal
  at_cell : Goal

-- what is left of a goal when its numbers are put in: a closed type, an inner record in place or under `^`, nothing
-- where a condition doesn't hold, or the cell of one reference
pub data Shape : Type 0 where
  typed : Closed → Shape
  fields_here : Items → Scope → Shape
  fields_under : Items → Scope → Shape
  left_out : Shape
  as_cell : Shape

-- an inner record as a goal
abbrev pub at_fields : Items → Scope → Goal
at_fields is scope = at_field no_condition (core.group is) scope

-- what a reference `^T` leads to: of Any and Cell the cell as it is
abbrev pub under_ref : Closed → Goal
under_ref closed.whole = at_cell
under_ref t = at_type t

-- whether the type is itself a reference
abbrev pub is_ref : Closed → Bool
is_ref (closed.ref t) = true
is_ref _ = false

abbrev pub cause_of : Refusal → Cause
cause_of overflow = Overflow
cause_of big_type = BigType

abbrev pub typed_or : Result Closed Refusal → Result Shape Cause
typed_or (Ok t) = Ok (typed t)
typed_or (Err e) = Err (cause_of e)

-- the type without its condition; an inner record is left as it is, and closed at its own fields
abbrev pub laid : Ty → Scope → Result Shape Cause
laid (core.group is) scope = Ok (fields_here is scope)
laid (core.ref (core.group is)) scope = Ok (fields_under is scope)
laid t scope = typed_or (close t scope)

-- only what is to be spelled is judged by its width
abbrev pub in_width : Shape → Result Shape Cause
in_width (typed t) = if in_table t then Ok (typed t) else Err Width
in_width (fields_here is scope) = Ok (fields_here is scope)
in_width (fields_under is scope) = Ok (fields_under is scope)
in_width left_out = Ok left_out
in_width as_cell = Ok as_cell

abbrev pub judged : Result Shape Cause → Result Shape Cause
judged (Ok c) = in_width c
judged (Err why) = Err why

-- `e?T`: e is not 0; `e . k?T`: bit k of e is 1
abbrev pub passes : Option ℕ → ℕ → Bool
passes None n = nat_lt 0 n
passes (Some k) n = bit_at n k == 1

-- the type is closed whether the condition holds or not
abbrev pub tested : Option ℕ → Option ℕ → Result Shape Cause → Result Shape Cause
tested k None c = Err Overflow
tested k (Some n) (Err why) = Err why
tested k (Some n) (Ok c) = if passes k n then in_width c else Ok left_out

abbrev pub conditional : Option Condition → Scope → Result Shape Cause → Result Shape Cause
conditional None scope c = judged c
conditional (Some e) scope c = tested e.bit (value_in e.number scope) c

-- the shape of a goal, or the first of Overflow, BigType and Width
abbrev pub shape_of : Goal → Result Shape Cause
shape_of (at_type t) = in_width (typed t)
shape_of (at_field e t scope) = conditional e scope (laid t scope)
shape_of at_cell = Ok as_cell
