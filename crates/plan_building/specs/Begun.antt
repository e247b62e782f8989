-- A value takes a level and a part.
use Rattle.std.specs.Prelude.{ℕ, zero, suc, ◌+◌, ◌≡◌, nat_lt, if◌then◌else◌, Result, Ok, Err}
use Rattle.plan_reading.specs.Stops.{Stops}
use Rattle.plan_reading.specs.declared.stop.StopError.{StopError}
use Rattle.spelling.specs.Places.{Place, Spot, stuck}
use Rattle.spelling.specs.declared.Cause.TheVariants.{Bulk, Nesting}
use Rattle.typed_value.specs.Values.{most_parts}

-- so many parts have begun with it, or the first of Nesting and Bulk
abbrev pub starting : ℕ → ℕ → Spot → Result ℕ Place
starting zero q h = Err (stuck h Nesting)
starting (suc n) q h = if nat_lt q most_parts then Ok (q + 1) else Err (stuck h Bulk)

abbrev pub Begins : ℕ → ℕ → ℕ → Result (Unit {0}) StopError → Type 0
Begins levels q new (Ok _) = (h : Spot) → starting levels q h ≡ Ok new
Begins levels q new (Err e) = (h : Spot) → Stops h e (starting levels q h)
