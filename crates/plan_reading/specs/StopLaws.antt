-- What follows for a reading from where a part of it stopped.
use Rattle.std.proofs.Common.{◌≡◌, Result, Err, refl, sym, ap, ◌∙◌}
use Rattle.spelling.specs.Places.{Spot, Place, stuck}
use Rattle.spelling.specs.PlainReader.{◌>>=◌}
use Rattle.spelling.specs.declared.Cause.TheVariants.{Nesting, Bulk}
use Rattle.plan_reading.specs.Stops.{place_from, Stops, StopsAt}
use Rattle.plan_reading.specs.declared.stop.StopError.{StopError}
use Rattle.plan_reading.specs.declared.stop.StopError.TheVariants.{Stuck, NoMemory}

-- the plain reader is stuck at the place where it stopped
pub stops_at : {Y : Type 0} (h : Spot) (e : StopError) (p : Place) (wanted : Result Y Place) → StopsAt h e p
    → wanted ≡ Err p → Stops h e wanted
stops_at h (Stuck s) p wanted at is = is ∙ ap Err at
stops_at h NoMemory p wanted at is = tt

-- where a part is stuck, the whole is
pub stops_then : {X Y : Type 0} (h : Spot) (e : StopError) (wanted : Result X Place) (f : X → Result Y Place)
    → Stops h e wanted → Stops h e (wanted >>= f)
stops_then h (Stuck s) wanted f is = ap (λ r. r >>= f) is
stops_then h NoMemory wanted f is = tt

apart : (p : Place) (h : Spot) → stuck h Nesting ≡ p → stuck h Bulk ≡ p → ⊥
apart p h a b = let e : Nesting ≡ Bulk = ap (λ (q : Place). q.cause) (a ∙ sym b) in cc

-- a stop that is at the same place, seen from another spot
pub stops_moved : {Y : Type 0} (g h : Spot) (e r : StopError) (wanted : Result Y Place)
    → ((p : Place) → StopsAt g e p → StopsAt h r p) → Stops g e wanted → Stops h r wanted
stops_moved g h (Stuck s) (Stuck t) wanted moved is = is ∙ ap Err (moved (place_from g s) refl)
stops_moved g h (Stuck s) NoMemory wanted moved is = tt
stops_moved g h NoMemory (Stuck t) wanted moved is =
    absurd (apart (place_from h t) h (moved (stuck h Nesting) tt) (moved (stuck h Bulk) tt))
stops_moved g h NoMemory NoMemory wanted moved is = tt
