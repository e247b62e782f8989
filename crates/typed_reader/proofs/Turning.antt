-- What one operation of a record gives, by what was done for it.
use Rattle.std.proofs.Common.{◌≡◌, ℕ, ◌+◌, List, [], ◌∷◌, Option, Some, None, Result, Ok, Err, refl, ap, sym, ◌∙◌}
use Rattle.core_form.specs.Core.{Condition, check, solve, field, sets}
use Rattle.core_form.specs.Scope.{Scope, bind, with_number}
use Rattle.flat_form.specs.Stands.{expr_at, name_at, slot_of, type_at}
use Rattle.flat_form.specs.declared.lists.Flat.{Flat}
use Rattle.flat_form.specs.declared.lists.PlanOp.{PlanOp}
use Rattle.flat_form.specs.declared.lists.PlanOp.TheVariants.{Check, Solve, When, Field}
use Rattle.cell_nodes.specs.declared.slice.CellSlice.{CellSlice}
use Rattle.hashmap_tree.specs.Adds.{slice_of}
use Rattle.hashmap_tree.specs.Entries.{Slice}
use Rattle.nat_solver.specs.declared.compare.Op.{Op}
use Rattle.plan_reading.specs.Gives.{unchanged}
use Rattle.plan_reading.specs.Shaped.{governed}
use Rattle.plan_reading.specs.StopLaws.{stops_at, stops_moved, stops_then}
use Rattle.plan_reading.specs.Stops.{Stops, StopsAt}
use Rattle.plan_reading.specs.declared.stop.StopError.{StopError}
use Rattle.plan_reading.specs.declared.stop.StopError.TheVariants.{Stuck, NoMemory}
use Rattle.spelling.specs.Goals.{at_field}
use Rattle.spelling.specs.Places.{Place, Spot, field_of, item_of, stuck}
use Rattle.spelling.specs.PlainReader.{◌>>=◌, Found, Reader, Step, reported, sought_number, step}
use Rattle.spelling.specs.declared.Cause.{Cause}
use Rattle.typed_value.specs.Values.{Plain, parts}
use Rattle.typed_value.specs.declared.value.Value.{Value}
use Rattle.typed_reader.specs.Turns.{Turned, alone, turn}
use Rattle.typed_reader.specs.View.{given}
use Rattle.typed_reader.specs.declared.found.Step.{Step as StepFound}
use Rattle.typed_reader.proofs.Steps.{stops_same}

alone_stops : (h : Spot) (e : StopError) (r : Result Step Place) → Stops h e r → Stops h e (alone r)
alone_stops h (Stuck s) r stop = ap alone stop
alone_stops h NoMemory r stop = tt

pub check_turned : (R : Reader) (h : Spot) (f : Flat) (c : Option Condition) (a : ℕ) (op : Op) (b i : ℕ) (scope : Scope) (q : ℕ)
    (s : Slice) (x : Step)
    → step R h (check (expr_at f a) op (expr_at f b) i) scope q s ≡ Ok x
    → turn R h f c (Check a op b i) scope q s ≡ Ok (x, None)
check_turned R h f c a op b i scope q s x e = ap alone e

pub check_stops : (R : Reader) (h : Spot) (f : Flat) (c : Option Condition) (a : ℕ) (op : Op) (b i : ℕ) (scope : Scope) (q : ℕ)
    (s : Slice) (why : Cause) (e : StopError)
    → step R h (check (expr_at f a) op (expr_at f b) i) scope q s ≡ Err (stuck (item_of h i) why)
    → StopsAt h e (stuck (item_of h i) why)
    → Stops h e (turn R h f c (Check a op b i) scope q s)
check_stops R h f c a op b i scope q s why e at stop =
    alone_stops h e (step R h (check (expr_at f a) op (expr_at f b) i) scope q s)
    (stops_at h e (stuck (item_of h i) why) (step R h (check (expr_at f a) op (expr_at f b) i) scope q s) stop at)

pub solve_turned : (R : Reader) (h : Spot) (f : Flat) (c : Option Condition) (v a b i : ℕ) (scope : Scope) (q : ℕ)
    (s : Slice) (n : ℕ)
    → Ok n ≡ sought_number (expr_at f a) (expr_at f b) scope.numbers
    → turn R h f c (Solve v a b i) scope q s ≡ Ok (unchanged (with_number v n scope) q s, None)
solve_turned R h f c v a b i scope q s n e =
    sym (ap (λ z. alone (reported (item_of h i) z >>= (λ x. Ok (unchanged (with_number v x scope) q s)))) e)

pub solve_stops : (R : Reader) (h : Spot) (f : Flat) (c : Option Condition) (v a b i : ℕ) (scope : Scope) (q : ℕ)
    (s : Slice) (why : Cause) (e : StopError)
    → Err why ≡ sought_number (expr_at f a) (expr_at f b) scope.numbers
    → StopsAt h e (stuck (item_of h i) why)
    → Stops h e (turn R h f c (Solve v a b i) scope q s)
solve_stops R h f c v a b i scope q s why e at stop =
    stops_at h e (stuck (item_of h i) why) (turn R h f c (Solve v a b i) scope q s) stop
    (sym (ap (λ z. alone (reported (item_of h i) z >>= (λ x. Ok (unchanged (with_number v x scope) q s)))) at))

pub field_turned : (R : Reader) (h : Spot) (f : Flat) (c : Option Condition) (x t v : ℕ) (scope : Scope) (q : ℕ)
    (s : Slice) (found : Found) (after : Scope) (k : ℕ)
    → R (field_of h (name_at f x)) (at_field c (type_at f t) scope) q s ≡ Ok found
    → bind (sets (slot_of v) (type_at f t)) found.1 scope ≡ after
    → k ≡ q + parts found.0
    → turn R h f c (Field x t v) scope q s
    ≡ Ok (record { gives = found.0 ∷ []; scope = after; begun = k; left = found.2 }, None)
field_turned R h f c x t v scope q s found after k e bound count =
    ap (λ z. alone (z >>= (λ (y : Found). Ok (record {
      gives = y.0 ∷ [];
      scope = bind (sets (slot_of v) (type_at f t)) y.1 scope;
      begun = q + parts y.0;
      left = y.2;
    }))))
    e ∙ (λ i. Ok (record { gives = found.0 ∷ []; scope = bound i; begun = sym count i; left = found.2 }, None))

pub field_stops : (R : Reader) (h : Spot) (f : Flat) (c : Option Condition) (x t v : ℕ) (scope : Scope) (q : ℕ)
    (s : Slice) (e r : StopError)
    → Stops (field_of h (name_at f x)) e (R (field_of h (name_at f x)) (at_field c (type_at f t) scope) q s)
    → ((p : Place) → StopsAt (field_of h (name_at f x)) e p → StopsAt h r p)
    → Stops h r (turn R h f c (Field x t v) scope q s)
field_stops R h f c x t v scope q s e r stop moved =
    let g = field_of h (name_at f x) in
    alone_stops h r (step R h (field (name_at f x) (slot_of v) c (type_at f t)) scope q s)
    (stops_then h r (R g (at_field c (type_at f t) scope) q s)
    (λ y. Ok (record {
      gives = y.0 ∷ [];
      scope = bind (sets (slot_of v) (type_at f t)) y.1 scope;
      begun = q + parts y.0;
      left = y.2;
    }))
    (stops_moved g h e r (R g (at_field c (type_at f t) scope) q s) moved stop))

-- ---- by what the operation is

pub turns_as : (R : Reader) (h : Spot) (f : Flat) (c : Option Condition) (o p : PlanOp) (scope : Scope) (q : ℕ) (s : Slice)
    (r : Result Turned Place) → o ≡ p → turn R h f c p scope q s ≡ r → turn R h f c o scope q s ≡ r
turns_as R h f c o p scope q s r is turned = ap (λ z. turn R h f c z scope q s) is ∙ turned

pub stops_as : (R : Reader) (h : Spot) (f : Flat) (c : Option Condition) (o p : PlanOp) (scope : Scope) (q : ℕ) (s : Slice)
    (e : StopError) → o ≡ p → Stops h e (turn R h f c p scope q s) → Stops h e (turn R h f c o scope q s)
stops_as R h f c o p scope q s e is stop =
    stops_same h e (turn R h f c o scope q s) (turn R h f c p scope q s) (ap (λ z. turn R h f c z scope q s) is) stop

-- what an operation without a field gives, as it is seen
pub without_seen : (f : Flat) (scope : Scope) (q : ℕ) (s : CellSlice) (x : StepFound) → x.field ≡ None → x.condition ≡ None
    → x.rest ≡ s
    → (◌≡◌ {A = Result Turned Place} (Ok (unchanged scope q (slice_of s), None))
    (Ok (record { gives = given x.field; scope = scope; begun = q; left = slice_of x.rest }, governed f x.condition)))
without_seen f scope q s x none free left =
    let seen : Option (List ℕ × Value) → Option (ℕ × ℕ) → CellSlice → Result Turned Place =
    λ a b l. Ok (record { gives = given a; scope = scope; begun = q; left = slice_of l }, governed f b) in
    ap (λ a. seen a None s) (sym none) ∙ ap (λ b. seen x.field b s) (sym free) ∙ ap (seen x.field x.condition) (sym left)
