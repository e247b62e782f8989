-- A value takes a level and a part before its goal is looked at.
use Rattle.std.proofs.Common.{◌≡◌, ℕ, zero, suc, ◌+◌, ◌-◌, Bool, true, false, cond, nat_lt, Result, Ok, Err, refl, ap}
use Rattle.std.proofs.Common.{◌∙◌, arith}
use Rattle.cell_nodes.specs.declared.tree.Mode.{Mode}
use Rattle.core_form.specs.Closed.{Closed}
use Rattle.core_form.specs.Core.{CoreSchema}
use Rattle.plan_reading.specs.StopLaws.{stops_then}
use Rattle.plan_reading.specs.Stops.{Stops}
use Rattle.plan_reading.specs.declared.stop.StopError.{StopError}
use Rattle.spelling.specs.Goals.{Goal, Shape, at_type, in_table, shape_of, typed}
use Rattle.spelling.specs.Places.{Place, Spot, stuck}
use Rattle.spelling.specs.PlainReader.{◌>>=◌, reported}
use Rattle.spelling.specs.declared.Cause.{Cause}
use Rattle.spelling.specs.declared.Cause.TheVariants.{Bulk, Width}
use Rattle.spelling_laws.specs.StepLaws.{when_true, when_false}
use Rattle.typed_value.specs.Values.{Plain, most_parts}
use Rattle.building.specs.Growing.{Grown}
use Rattle.building.specs.PlainBuilder.{Made, Maker, make_goal, make_shape, making}
use Rattle.plan_building.specs.Begun.{starting}
use Rattle.typed_builder.proofs.Steps.{stops_same}

-- the builder of what stands in a value
abbrev pub within : ℕ → Mode → CoreSchema → Maker
within n mode schema = making (n - 1) most_parts mode schema

by_test : (b : Bool) (k : ℕ) (p : Place) (f : ℕ → Result Made Place) → cond b (f k) (Err p)
    ≡ (cond b (Ok k) (Err p) >>= f)
by_test true k p f = refl
by_test false k p f = refl

pub making_begins : (n : ℕ) (mode : Mode) (schema : CoreSchema) (h : Spot) (g : Goal) (q : ℕ) (v : Plain) (b : Grown)
    → making n most_parts mode schema h g q v b
    ≡ (starting n q h >>= (λ k. make_goal mode schema (within n mode schema) h g k v b))
unfolding making
making_begins zero mode schema h g q v b = refl
making_begins (suc n) mode schema h g q v b =
    let below : suc n - 1 ≡ n = omega arith in
    rw below (by_test (nat_lt q most_parts) (q + 1) (stuck h Bulk)
    (λ k. make_goal mode schema (making n most_parts mode schema) h g k v b))

-- where it has not
pub begin_stops : (n : ℕ) (mode : Mode) (schema : CoreSchema) (h : Spot) (g : Goal) (q : ℕ) (v : Plain) (b : Grown)
    (e : StopError) → Stops h e (starting n q h) → Stops h e (making n most_parts mode schema h g q v b)
begin_stops n mode schema h g q v b e stop =
    stops_same h e _ _ (making_begins n mode schema h g q v b)
    (stops_then h e (starting n q h) (λ k. make_goal mode schema (within n mode schema) h g k v b) stop)

-- where it has begun
making_on : (n : ℕ) (mode : Mode) (schema : CoreSchema) (h : Spot) (g : Goal) (q k : ℕ) (v : Plain) (b : Grown)
    → starting n q h ≡ Ok k
    → making n most_parts mode schema h g q v b ≡ make_goal mode schema (within n mode schema) h g k v b
making_on n mode schema h g q k v b begun =
    making_begins n mode schema h g q v b
    ∙ ap (λ z. z >>= (λ k. make_goal mode schema (within n mode schema) h g k v b)) begun

pub making_shaped : (n : ℕ) (mode : Mode) (schema : CoreSchema) (h : Spot) (g : Goal) (q k : ℕ) (v : Plain) (b : Grown)
    (c : Shape) → starting n q h ≡ Ok k → shape_of g ≡ Ok c
    → making n most_parts mode schema h g q v b ≡ make_shape mode schema (within n mode schema) h c k v b
making_shaped n mode schema h g q k v b c begun shape =
    making_on n mode schema h g q k v b begun
    ∙ ap (λ z. reported h z >>= (λ c. make_shape mode schema (within n mode schema) h c k v b)) shape

pub making_refused : (n : ℕ) (mode : Mode) (schema : CoreSchema) (h : Spot) (g : Goal) (q k : ℕ) (v : Plain) (b : Grown)
    (why : Cause) → starting n q h ≡ Ok k → shape_of g ≡ Err why
    → making n most_parts mode schema h g q v b ≡ Err (stuck h why)
making_refused n mode schema h g q k v b why begun refused =
    making_on n mode schema h g q k v b begun
    ∙ ap (λ z. reported h z >>= (λ c. make_shape mode schema (within n mode schema) h c k v b)) refused

-- at a closed type
pub making_typed : (n : ℕ) (mode : Mode) (schema : CoreSchema) (h : Spot) (t : Closed) (q k : ℕ) (v : Plain) (b : Grown)
    → starting n q h ≡ Ok k → in_table t ≡ true
    → making n most_parts mode schema h (at_type t) q v b ≡ make_shape mode schema (within n mode schema) h (typed t) k
    v b
making_typed n mode schema h t q k v b begun within_table =
    making_shaped n mode schema h (at_type t) q k v b (typed t) begun
    (when_true {A = Result Shape Cause} (in_table t) (Ok (typed t)) (Err Width) within_table)

pub making_too_wide : (n : ℕ) (mode : Mode) (schema : CoreSchema) (h : Spot) (t : Closed) (q k : ℕ) (v : Plain)
    (b : Grown) → starting n q h ≡ Ok k → in_table t ≡ false
    → making n most_parts mode schema h (at_type t) q v b ≡ Err (stuck h Width)
making_too_wide n mode schema h t q k v b begun wide =
    making_refused n mode schema h (at_type t) q k v b Width begun
    (when_false {A = Result Shape Cause} (in_table t) (Ok (typed t)) (Err Width) wide)
