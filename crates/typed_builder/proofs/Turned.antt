-- What one operation of a record gives, by what was done for it.
use Rattle.std.proofs.Common.{◌≡◌, ℕ, ◌+◌, Bool, true, false, cond, [], Option, Some, None, Result, Ok, Err, refl, ap}
use Rattle.std.proofs.Common.{sym, ◌∙◌}
use Rattle.core_form.specs.Core.{Condition, check, field, sets, solve}
use Rattle.core_form.specs.Scope.{Scope, bind, value_in, with_number}
use Rattle.flat_form.specs.Stands.{expr_at, name_at, slot_of, type_at}
use Rattle.flat_form.specs.declared.lists.Flat.{Flat}
use Rattle.flat_form.specs.declared.lists.PlanOp.{PlanOp}
use Rattle.flat_form.specs.declared.lists.PlanOp.TheVariants.{Check, Solve, Field}
use Rattle.hashmap_tree.specs.Entries.{Slice}
use Rattle.nat_solver.specs.Number.{Expr, comparison}
use Rattle.nat_solver.specs.declared.compare.Op.{Op}
use Rattle.plan_reading.specs.Gives.{unchanged}
use Rattle.plan_reading.specs.StopLaws.{stops_at, stops_moved, stops_then}
use Rattle.plan_reading.specs.Stops.{Stops, StopsAt}
use Rattle.plan_reading.specs.declared.stop.StopError.{StopError}
use Rattle.plan_reading.specs.declared.stop.StopError.TheVariants.{Stuck, NoMemory}
use Rattle.spelling.specs.Goals.{at_field}
use Rattle.spelling.specs.Places.{Place, Spot, field_of, item_of, stuck}
use Rattle.spelling.specs.PlainReader.{◌>>=◌, Reader, known, reported, sought_number}
use Rattle.spelling.specs.PlainReader as reader
use Rattle.spelling.specs.declared.Cause.{Cause}
use Rattle.spelling.specs.declared.Cause.TheVariants.{Constraint, Overflow, Shape}
use Rattle.typed_value.specs.Values.{Plain, Plains, a_val, no_vals, parts}
use Rattle.building.specs.Growing.{Grown}
use Rattle.building.specs.PlainBuilder.{Made, Maker, Step, step}
use Rattle.typed_builder.specs.Turns.{Turned, alone, stepped, turn}
use Rattle.typed_builder.proofs.Steps.{stops_same}

alone_stops : (h : Spot) (e : StopError) (r : Result Step Place) → Stops h e r → Stops h e (alone r)
alone_stops h (Stuck s) r stop = ap alone stop
alone_stops h NoMemory r stop = tt

-- ---- a check, which the reader and the builder judge alike

-- a reader that is never asked
abbrev pub no_reader : Reader
no_reader h g q s = Err (stuck h Overflow)

tested_like : (h : Spot) (i : ℕ) (t : Bool) (x : reader.Step) (y : Step)
    → (let r : Result reader.Step Place = cond t (Ok x) (Err (stuck (item_of h i) Constraint)) in r) ≡ Ok x
    → (let r : Result Step Place = cond t (Ok y) (Err (stuck (item_of h i) Constraint)) in r) ≡ Ok y
tested_like h i true x y e = refl
tested_like h i false x y e = cc

judged_on : (h : Spot) (i : ℕ) (op : Op) (m n : Option ℕ) (x : reader.Step) (y : Step)
    → (known (item_of h i) m >>= λ a. known (item_of h i) n >>= λ b. cond (comparison op a b) (Ok x)
    (Err (stuck (item_of h i) Constraint))) ≡ Ok x
    → (known (item_of h i) m >>= λ a. known (item_of h i) n >>= λ b. cond (comparison op a b) (Ok y)
    (Err (stuck (item_of h i) Constraint))) ≡ Ok y
judged_on h i op None n x y e = cc
judged_on h i op (Some a) None x y e = cc
judged_on h i op (Some a) (Some b) x y e = tested_like h i (comparison op a b) x y e

tested_err : (h : Spot) (i : ℕ) (t : Bool) (x : reader.Step) (y : Step) (p : Place)
    → (let r : Result reader.Step Place = cond t (Ok x) (Err (stuck (item_of h i) Constraint)) in r) ≡ Err p
    → (let r : Result Step Place = cond t (Ok y) (Err (stuck (item_of h i) Constraint)) in r) ≡ Err p
tested_err h i true x y p e = cc
tested_err h i false x y p e = ap (λ (z : Place). Err z) (one e)
  where
    one : {a b : Place} → (◌≡◌ {A = Result reader.Step Place} (Err a) (Err b)) → a ≡ b
    one e = cc

same_err : {a b : Place} → (◌≡◌ {A = Result reader.Step Place} (Err a) (Err b))
    → (◌≡◌ {A = Result Step Place} (Err a) (Err b))
same_err {a} {b} e = ap (λ (z : Place). Err z) (one e)
  where
    one : {c d : Place} → (◌≡◌ {A = Result reader.Step Place} (Err c) (Err d)) → c ≡ d
    one e = cc

judged_err : (h : Spot) (i : ℕ) (op : Op) (m n : Option ℕ) (x : reader.Step) (y : Step) (p : Place)
    → (known (item_of h i) m >>= λ a. known (item_of h i) n >>= λ b. cond (comparison op a b) (Ok x)
    (Err (stuck (item_of h i) Constraint))) ≡ Err p
    → (known (item_of h i) m >>= λ a. known (item_of h i) n >>= λ b. cond (comparison op a b) (Ok y)
    (Err (stuck (item_of h i) Constraint))) ≡ Err p
judged_err h i op None n x y p e = same_err e
judged_err h i op (Some a) None x y p e = same_err e
judged_err h i op (Some a) (Some b) x y p e = tested_err h i (comparison op a b) x y p e

pub check_turned : (R : Maker) (h : Spot) (f : Flat) (c : Option Condition) (a : ℕ) (op : Op) (b i : ℕ) (scope : Scope)
    (q : ℕ) (vs : Plains) (g : Grown) (s : Slice)
    → reader.step no_reader h (check (expr_at f a) op (expr_at f b) i) scope q s ≡ Ok (unchanged scope q s)
    → turn R h f c (Check a op b i) scope q vs g ≡ Ok (stepped scope q vs g, None)
check_turned R h f c a op b i scope q vs g s e =
    ap alone (judged_on h i op (value_in (expr_at f a) scope) (value_in (expr_at f b) scope) (unchanged scope q s)
    (stepped scope q vs g) e)

pub check_stops : (R : Maker) (h : Spot) (f : Flat) (c : Option Condition) (a : ℕ) (op : Op) (b i : ℕ) (scope : Scope)
    (q : ℕ) (vs : Plains) (g : Grown) (s : Slice) (why : Cause) (e : StopError)
    → reader.step no_reader h (check (expr_at f a) op (expr_at f b) i) scope q s ≡ Err (stuck (item_of h i) why)
    → StopsAt h e (stuck (item_of h i) why)
    → Stops h e (turn R h f c (Check a op b i) scope q vs g)
check_stops R h f c a op b i scope q vs g s why e at stop =
    alone_stops h e (step R h (check (expr_at f a) op (expr_at f b) i) scope q vs g)
    (stops_at h e (stuck (item_of h i) why) (step R h (check (expr_at f a) op (expr_at f b) i) scope q vs g) stop
    (judged_err h i op (value_in (expr_at f a) scope) (value_in (expr_at f b) scope) (unchanged scope q s)
    (stepped scope q vs g) (stuck (item_of h i) why) at))

-- ---- an equation

pub solve_turned : (R : Maker) (h : Spot) (f : Flat) (c : Option Condition) (v a b i : ℕ) (scope next : Scope) (q : ℕ)
    (vs : Plains) (g : Grown) (n : ℕ) → Ok n ≡ sought_number (expr_at f a) (expr_at f b) scope.numbers
    → with_number v n scope ≡ next
    → turn R h f c (Solve v a b i) scope q vs g ≡ Ok (stepped next q vs g, None)
solve_turned R h f c v a b i scope next q vs g n e is =
    sym (ap (λ z. alone (reported (item_of h i) z >>= (λ x. Ok (stepped (with_number v x scope) q vs g)))) e)
    ∙ ap (λ (z : Scope). Ok (let y : Turned = (stepped z q vs g, None) in y)) is

pub solve_stops : (R : Maker) (h : Spot) (f : Flat) (c : Option Condition) (v a b i : ℕ) (scope : Scope) (q : ℕ)
    (vs : Plains) (g : Grown) (why : Cause) (e : StopError)
    → Err why ≡ sought_number (expr_at f a) (expr_at f b) scope.numbers
    → StopsAt h e (stuck (item_of h i) why)
    → Stops h e (turn R h f c (Solve v a b i) scope q vs g)
solve_stops R h f c v a b i scope q vs g why e at stop =
    stops_at h e (stuck (item_of h i) why) (turn R h f c (Solve v a b i) scope q vs g) stop
    (sym (ap (λ z. alone (reported (item_of h i) z >>= (λ x. Ok (stepped (with_number v x scope) q vs g)))) at))

-- ---- a field

pub field_turned : (R : Maker) (h : Spot) (f : Flat) (c : Option Condition) (x t v : ℕ) (scope next : Scope) (q k : ℕ)
    (u : Plain) (us vs : Plains) (g : Grown) (made : Made) → us ≡ a_val u vs
    → R (field_of h (name_at f x)) (at_field c (type_at f t) scope) q u g ≡ Ok made
    → bind (sets (slot_of v) (type_at f t)) made.0 scope ≡ next → k ≡ q + parts u
    → turn R h f c (Field x t v) scope q us g ≡ Ok (stepped next k vs made.1, None)
field_turned R h f c x t v scope next q k u us vs g made due e bound count_of =
    ap (λ z. turn R h f c (Field x t v) scope q z g) due
    ∙ ap (λ z. alone (z >>= (λ (y : Made). Ok (stepped (bind (sets (slot_of v) (type_at f t)) y.0 scope) (q + parts u)
    vs y.1)))) e
    ∙ (λ i. Ok (stepped (bound i) (sym count_of i) vs made.1, None))

pub field_stops : (R : Maker) (h : Spot) (f : Flat) (c : Option Condition) (x t v : ℕ) (scope : Scope) (q : ℕ)
    (u : Plain) (us vs : Plains) (g : Grown) (e r : StopError) → us ≡ a_val u vs
    → Stops (field_of h (name_at f x)) e (R (field_of h (name_at f x)) (at_field c (type_at f t) scope) q u g)
    → ((p : Place) → StopsAt (field_of h (name_at f x)) e p → StopsAt h r p)
    → Stops h r (turn R h f c (Field x t v) scope q us g)
field_stops R h f c x t v scope q u us vs g e r due stop moved =
    let k = field_of h (name_at f x) in
    stops_same h r _ _ (ap (λ z. turn R h f c (Field x t v) scope q z g) due)
    (alone_stops h r (step R h (field (name_at f x) (slot_of v) c (type_at f t)) scope q (a_val u vs) g)
    (stops_then h r (R k (at_field c (type_at f t) scope) q u g)
    (λ (y : Made). Ok (stepped (bind (sets (slot_of v) (type_at f t)) y.0 scope) (q + parts u) vs y.1))
    (stops_moved k h e r (R k (at_field c (type_at f t) scope) q u g) moved stop)))

pub field_missing : (R : Maker) (h : Spot) (f : Flat) (c : Option Condition) (x t v : ℕ) (scope : Scope) (q : ℕ)
    (vs : Plains) (g : Grown) (e : StopError) → vs ≡ no_vals → StopsAt h e (stuck h Shape)
    → Stops h e (turn R h f c (Field x t v) scope q vs g)
field_missing R h f c x t v scope q vs g e none at =
    stops_at h e (stuck h Shape) (turn R h f c (Field x t v) scope q vs g) at
    (ap (λ z. turn R h f c (Field x t v) scope q z g) none)

-- ---- by what the operation is

pub turns_as : (R : Maker) (h : Spot) (f : Flat) (c : Option Condition) (o p : PlanOp) (scope : Scope) (q : ℕ)
    (vs : Plains) (g : Grown) (r : Result Turned Place) → o ≡ p → turn R h f c p scope q vs g ≡ r
    → turn R h f c o scope q vs g ≡ r
turns_as R h f c o p scope q vs g r is turned = ap (λ z. turn R h f c z scope q vs g) is ∙ turned

pub stops_as : (R : Maker) (h : Spot) (f : Flat) (c : Option Condition) (o p : PlanOp) (scope : Scope) (q : ℕ)
    (vs : Plains) (g : Grown) (e : StopError) → o ≡ p → Stops h e (turn R h f c p scope q vs g)
    → Stops h e (turn R h f c o scope q vs g)
stops_as R h f c o p scope q vs g e is stop =
    stops_same h e (turn R h f c o scope q vs g) (turn R h f c p scope q vs g)
    (ap (λ z. turn R h f c z scope q vs g) is) stop
