-- What the variables of a constructor stand for, by its slots, and inputs one by one.
use Rattle.std.specs.Prelude.{ℕ, Bool, true, false, Option, Some, None}
use Rattle.closed_type.specs.View.{AnArg}
use Rattle.closed_type.specs.View as args
use Rattle.core_form.specs.Core.{Input, number, type}
use Rattle.core_form.specs.Fit.{meet}
use Rattle.core_form.specs.Scope.{Scope, with_type}
use Rattle.plan_closing.specs.Counted.{scope_of}
use Rattle.plan_reading.specs.declared.fits.Slots.{Slots}

abbrev pub slots_view : Slots → Scope
slots_view s = scope_of s.numbers s.types.items

abbrev pub option_if : {A : Type 0} → Bool → A → Option A
option_if true a = Some a
option_if false a = None

-- what one input binds, where the argument meets it
abbrev pub meet_number : Input → ℕ → Scope → Option Scope
meet_number (number p) n scope = meet p n scope
meet_number (type v) n scope = None

abbrev pub meet_input : Input → AnArg → Scope → Option Scope
meet_input i (args.number n) scope = meet_number i n scope
meet_input (number p) (args.type t) scope = None
meet_input (type v) (args.type t) scope = Some (with_type v t scope)
