-- A value takes a level and a part.
use Rattle.std.specs.Prelude.{ℕ, Bool, true, false, zero, suc, ◌+◌, ◌≡◌, nat_lt, if◌then◌else◌, Some, Result, Ok, Err}
use Rattle.core_form.specs.Closed.{Closed, whole}
use Rattle.core_form.specs.Core.{Declaration, field_names}
use Rattle.core_form.specs.Scope.{Scope, values_in}
use Rattle.hashmap_tree.specs.Entries.{Slice}
use Rattle.hashmap_tree.specs.declared.found.WalkError.{WalkError}
use Rattle.hashmap_tree.specs.declared.found.WalkError.TheVariants as errors
use Rattle.plan_reading.specs.Stops.{Stops, StopsAt}
use Rattle.plan_reading.specs.declared.stop.StopError.{StopError}
use Rattle.plan_reading.specs.declared.stop.StopError.TheVariants as stops
use Rattle.spelling.specs.Places.{Place, Spot, result_of, start, stuck}
use Rattle.spelling.specs.PlainReader.{◌>>=◌, Found, Reader, known, read_fields, why_of}
use Rattle.spelling.specs.declared.Cause.TheVariants.{Bulk, Nesting}
use Rattle.typed_value.specs.Values.{most_parts, record_of}

-- so many parts have begun with it, or the first of Nesting and Bulk
abbrev pub starting : ℕ → ℕ → Spot → Result ℕ Place
starting zero q h = Err (stuck h Nesting)
starting (suc n) q h = if nat_lt q most_parts then Ok (q + 1) else Err (stuck h Bulk)

abbrev pub Begins : ℕ → ℕ → ℕ → Result (Unit {0}) StopError → Type 0
Begins levels q new (Ok _) = (h : Spot) → starting levels q h ≡ Ok new
Begins levels q new (Err e) = (h : Spot) → Stops h e (starting levels q h)

-- a constructor that is entered, after its tag, with what its inputs bind
abbrev pub entered : Reader → Declaration → Scope → ℕ → Slice → Result Found Place
entered R c scope q s = do
  x ← read_fields R (start c) c.core.items scope q s
  outs ← known (result_of (start c)) (values_in c.core.outputs x.1)
  Ok (record_of (Some c.shown) (field_names c.core.items) x.0, outs, x.2)

-- the cause of a walk's fault at this spot, or memory ran out
abbrev pub WalkStops : WalkError → StopError → Type 0
WalkStops errors.NoMemory e = e ≡ stops.NoMemory
WalkStops (errors.Stuck q c) e = (h : Spot) → StopsAt h e (stuck h (why_of c))

-- whether the type is Any or Cell
abbrev pub is_whole : Closed → Bool
is_whole whole = true
is_whole _ = false
