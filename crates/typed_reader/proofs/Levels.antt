-- A value takes a level and a part before its goal is looked at.
use Rattle.std.proofs.Common.{◌≡◌, ℕ, zero, suc, ◌+◌, ◌-◌, ◌<◌, ◌≤◌, Bool, true, false, cond, nat_lt, Result, Ok, Err, refl, ap, sym, ◌∙◌, arith}
use Rattle.std.proofs.lemmas.Bool.{le-ltb}
use Rattle.cell_nodes.specs.declared.tree.Mode.{Mode}
use Rattle.core_form.specs.Closed.{Closed}
use Rattle.core_form.specs.Core.{CoreSchema}
use Rattle.hashmap_tree.specs.Entries.{Slice}
use Rattle.plan_reading.specs.StopLaws.{stops_then}
use Rattle.plan_reading.specs.Stops.{Stops}
use Rattle.plan_reading.specs.declared.stop.StopError.{StopError}
use Rattle.spelling.specs.Goals.{Goal, Shape, at_type, in_table, shape_of, typed}
use Rattle.spelling.specs.Places.{Place, Spot, stuck}
use Rattle.spelling.specs.PlainReader.{◌>>=◌, Found, Reader, read_goal, read_shape, read_type, reading, reported}
use Rattle.spelling.specs.declared.Cause.{Cause}
use Rattle.spelling.specs.declared.Cause.TheVariants.{Bulk, Nesting, Width}
use Rattle.spelling_laws.specs.StepLaws.{bind_on, reported_on, when_true, when_false}
use Rattle.typed_value.specs.Values.{most_parts}
use Rattle.typed_reader.specs.Begun.{starting}
use Rattle.typed_reader.proofs.Steps.{stops_same}

-- the reader of what stands in a value
abbrev pub within : ℕ → Mode → CoreSchema → Reader
within n mode schema = reading (n - 1) most_parts mode schema

by_test : (b : Bool) (k : ℕ) (p : Place) (f : ℕ → Result Found Place) → cond b (f k) (Err p) ≡ (cond b (Ok k) (Err p) >>= f)
by_test true k p f = refl
by_test false k p f = refl

pub reading_begins : (n : ℕ) (mode : Mode) (schema : CoreSchema) (h : Spot) (g : Goal) (q : ℕ) (s : Slice)
    → reading n most_parts mode schema h g q s ≡ (starting n q h >>= (λ k. read_goal mode schema (within n mode schema) h g k s))
unfolding reading
reading_begins zero mode schema h g q s = refl
reading_begins (suc n) mode schema h g q s =
    let below : suc n - 1 ≡ n = omega arith in
    rw below (by_test (nat_lt q most_parts) (q + 1) (stuck h Bulk) (λ k. read_goal mode schema (reading n most_parts mode schema) h g k s))

-- where it has not
pub begin_stops : (n : ℕ) (mode : Mode) (schema : CoreSchema) (h : Spot) (g : Goal) (q : ℕ) (s : Slice) (e : StopError)
    → Stops h e (starting n q h) → Stops h e (reading n most_parts mode schema h g q s)
begin_stops n mode schema h g q s e stop =
    stops_same h e _ _ (reading_begins n mode schema h g q s)
    (stops_then h e (starting n q h) (λ k. read_goal mode schema (within n mode schema) h g k s) stop)

-- where it has begun
pub reading_on : (n : ℕ) (mode : Mode) (schema : CoreSchema) (h : Spot) (g : Goal) (q k : ℕ) (s : Slice)
    → starting n q h ≡ Ok k → reading n most_parts mode schema h g q s ≡ read_goal mode schema (within n mode schema) h g k s
reading_on n mode schema h g q k s begun =
    reading_begins n mode schema h g q s
    ∙ ap (λ z. z >>= (λ k. read_goal mode schema (within n mode schema) h g k s)) begun

pub reading_shaped : (n : ℕ) (mode : Mode) (schema : CoreSchema) (h : Spot) (g : Goal) (q k : ℕ) (s : Slice) (c : Shape)
    → starting n q h ≡ Ok k → shape_of g ≡ Ok c
    → reading n most_parts mode schema h g q s ≡ read_shape mode schema (within n mode schema) h c k s
reading_shaped n mode schema h g q k s c begun shape =
    reading_on n mode schema h g q k s begun
    ∙ ap (λ z. reported h z >>= (λ c. read_shape mode schema (within n mode schema) h c k s)) shape

pub reading_refused : (n : ℕ) (mode : Mode) (schema : CoreSchema) (h : Spot) (g : Goal) (q k : ℕ) (s : Slice) (why : Cause)
    → starting n q h ≡ Ok k → shape_of g ≡ Err why → reading n most_parts mode schema h g q s ≡ Err (stuck h why)
reading_refused n mode schema h g q k s why begun refused =
    reading_on n mode schema h g q k s begun
    ∙ ap (λ z. reported h z >>= (λ c. read_shape mode schema (within n mode schema) h c k s)) refused

-- at a closed type
pub reading_typed : (n : ℕ) (mode : Mode) (schema : CoreSchema) (h : Spot) (t : Closed) (q k : ℕ) (s : Slice)
    → starting n q h ≡ Ok k → in_table t ≡ true
    → reading n most_parts mode schema h (at_type t) q s ≡ read_type mode schema (within n mode schema) h t k s
reading_typed n mode schema h t q k s begun within_table =
    reading_shaped n mode schema h (at_type t) q k s (typed t) begun
    (when_true {A = Result Shape Cause} (in_table t) (Ok (typed t)) (Err Width) within_table)

pub reading_too_wide : (n : ℕ) (mode : Mode) (schema : CoreSchema) (h : Spot) (t : Closed) (q k : ℕ) (s : Slice)
    → starting n q h ≡ Ok k → in_table t ≡ false
    → reading n most_parts mode schema h (at_type t) q s ≡ Err (stuck h Width)
reading_too_wide n mode schema h t q k s begun wide =
    reading_refused n mode schema h (at_type t) q k s Width begun
    (when_false {A = Result Shape Cause} (in_table t) (Ok (typed t)) (Err Width) wide)

-- ---- where none begins

pub starting_none : (n q : ℕ) (h : Spot) → n ≡ 0 → starting n q h ≡ Err (stuck h Nesting)
starting_none n q h e = ap (λ z. starting z q h) e

pub starting_many : (n q : ℕ) (h : Spot) → 0 < n → most_parts ≤ q → starting n q h ≡ Err (stuck h Bulk)
starting_many zero q h some many = absurd (omega arith)
starting_many (suc n) q h some many =
    when_false {A = Result ℕ Place} (nat_lt q most_parts) (Ok (q + 1)) (Err (stuck h Bulk)) (le-ltb q most_parts many)
