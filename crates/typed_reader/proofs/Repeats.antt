-- A repetition's items one after the other.
use Rattle.std.proofs.Common.{◌≡◌, ℕ, zero, suc, ◌+◌, ◌-◌, ◌<◌, ◌≤◌, Bool, true, false, cond, List, [], ◌∷◌, ◌++◌, map}
use Rattle.std.proofs.Common.{Result, Ok, Err, refl, ap, sym, ◌∙◌, subst, arith}
use Rattle.cell_nodes.specs.declared.tree.Mode.{Mode}
use Rattle.core_form.specs.Closed.{Closed}
use Rattle.core_form.specs.Closed as closed
use Rattle.core_form.specs.Core.{CoreSchema}
use Rattle.hashmap_tree.specs.Entries.{Slice}
use Rattle.plan_reading.specs.StopLaws.{stops_at, stops_then}
use Rattle.plan_reading.specs.Stops.{Stops, StopsAt}
use Rattle.plan_reading.specs.declared.stop.StopError.{StopError}
use Rattle.spelling.specs.Goals.{at_type}
use Rattle.spelling.specs.Places.{Place, Spot, stuck}
use Rattle.spelling.specs.PlainReader.{◌>>=◌, Found, Reader, prepend, read_type, repeat, turn}
use Rattle.spelling.specs.Slices.{took}
use Rattle.spelling.specs.declared.Cause.TheVariants.{Idle}
use Rattle.spelling_laws.specs.StepLaws.{when_true, when_false}
use Rattle.typed_value.specs.Values.{Plain, Plains, a_val, list_of, no_vals, parts, parts_in}
use Rattle.typed_value.specs.View.{vals_of, value}
use Rattle.typed_value.specs.declared.value.Value.{Value}
use Rattle.typed_reader.proofs.Steps.{goes_on, stops_same}

-- these items stand before
abbrev pub items_first : List Plain → Result (Plains × Slice) Place → Result (Plains × Slice) Place
items_first vs r = r >>= (λ more. Ok (let all : Plains × Slice = (prepend vs more.0, more.1) in all))

prepend_one : (vs : List Plain) (v : Plain) (xs : Plains) → prepend vs (a_val v xs) ≡ prepend (vs ++ v ∷ []) xs
prepend_one [] v xs = refl
prepend_one (w ∷ vs) v xs = ap (a_val w) (prepend_one vs v xs)

abbrev after_one : Plain → Result (Plains × Slice) Place → Result (Plains × Slice) Place
after_one v r = r >>= (λ more. Ok (let all : Plains × Slice = (a_val v more.0, more.1) in all))

one_later : (vs : List Plain) (v : Plain) (r : Result (Plains × Slice) Place)
    → items_first vs (after_one v r) ≡ items_first (vs ++ v ∷ []) r
one_later vs v (Ok x) = λ i. Ok (prepend_one vs v x.0 i, x.1)
one_later vs v (Err p) = refl

no_items_first : (r : Result (Plains × Slice) Place) → items_first [] r ≡ r
no_items_first (Ok x) = refl
no_items_first (Err p) = refl

-- what the items that are read and the count that is left make of the whole
pub record Repeated (R : Reader) (t : Closed) (count : ℕ) (from : ℕ) (whole : Slice) (vs : List Plain) (left : ℕ)
    (q : ℕ) (s : Slice) : Type 0 where
  pub so_far : (h : Spot) → repeat R h count t from whole ≡ items_first vs (repeat R h left t q s)
  pub counts : q ≡ from + parts_in (vals_of vs)

pub none_repeated : (R : Reader) (t : Closed) (count : ℕ) (from : ℕ) (whole : Slice)
    → Repeated R t count from whole [] count from whole
none_repeated R t count from whole = record {
  so_far = λ h. sym (no_items_first (repeat R h count t from whole));
  counts = omega arith;
}

parts_one : (vs : List Plain) (v : Plain) → parts_in (vals_of (vs ++ v ∷ [])) ≡ parts_in (vals_of vs) + parts v
parts_one [] v = omega arith
parts_one (w ∷ vs) v = let more = parts_one vs v in omega (arith, more)

pub one_repeated : (R : Reader) (t : Closed) (count : ℕ) (from : ℕ) (whole : Slice) (vs : List Plain) (left : ℕ)
    (q : ℕ) (s : Slice) (x : Found) (k : ℕ)
    → Repeated R t count from whole vs (suc left) q s
    → ((h : Spot) → R h (at_type t) q s ≡ Ok x)
    → took s x.2 ≡ true
    → k ≡ q + parts x.0
    → Repeated R t count from whole (vs ++ x.0 ∷ []) left k x.2
one_repeated R t count from whole vs left q s x k b read taken count_of =
    let so_far : (h : Spot)
    → repeat R h count t from whole ≡ items_first (vs ++ x.0 ∷ []) (repeat R h left t (q + parts x.0) x.2) =
    λ h. b.so_far h ∙ ap (items_first vs)
    (goes_on (turn R h t q s) (λ (y : Found). after_one y.0 (repeat R h left t (q + parts y.0) y.2)) x
    (goes_on (R h (at_type t) q s) (λ (y : Found). cond (took s y.2) (Ok y) (Err (stuck h Idle))) x (read h)
    ∙ when_true {A = Result Found Place} (took s x.2) (Ok x) (Err (stuck h Idle)) taken))
    ∙ one_later vs x.0 (repeat R h left t (q + parts x.0) x.2) in
    let before = b.counts in
    let more = parts_one vs x.0 in
    record {
      so_far = λ h. so_far h ∙ ap (λ n. items_first (vs ++ x.0 ∷ []) (repeat R h left t n x.2)) (sym count_of);
      counts = omega (arith, before, more, count_of);
    }

-- the whole of a repetition, where it stops at an item
whole_stops : (R : Reader) (mode : Mode) (schema : CoreSchema) (t : Closed) (count : ℕ) (from : ℕ) (whole : Slice)
    (vs : List Plain) (left : ℕ) (q : ℕ) (s : Slice) (h : Spot) (e : StopError)
    → Repeated R t count from whole vs (suc left) q s
    → Stops h e (turn R h t q s)
    → Stops h e (read_type mode schema R h (closed.repeat count t) from whole)
whole_stops R mode schema t count from whole vs left q s h e b stop =
    stops_then h e (repeat R h count t from whole) (λ x. Ok (list_of x.0, [], x.1))
    (stops_same h e (repeat R h count t from whole) (items_first vs (repeat R h (suc left) t q s)) (b.so_far h)
    (stops_then h e (repeat R h (suc left) t q s) (λ more. Ok (let all : Plains × Slice = (prepend vs more.0, more.1) in all))
    (stops_then h e (turn R h t q s) (λ (y : Found). after_one y.0 (repeat R h left t (q + parts y.0) y.2)) stop)))

pub item_stops : (R : Reader) (mode : Mode) (schema : CoreSchema) (t : Closed) (count : ℕ) (from : ℕ) (whole : Slice)
    (vs : List Plain) (left : ℕ) (q : ℕ) (s : Slice) (h : Spot) (e : StopError)
    → Repeated R t count from whole vs (suc left) q s
    → Stops h e (R h (at_type t) q s)
    → Stops h e (read_type mode schema R h (closed.repeat count t) from whole)
item_stops R mode schema t count from whole vs left q s h e b stop =
    whole_stops R mode schema t count from whole vs left q s h e b
    (stops_then h e (R h (at_type t) q s) (λ (y : Found). cond (took s y.2) (Ok y) (Err (stuck h Idle))) stop)

pub idle_stops : (R : Reader) (mode : Mode) (schema : CoreSchema) (t : Closed) (count : ℕ) (from : ℕ) (whole : Slice)
    (vs : List Plain) (left : ℕ) (q : ℕ) (s : Slice) (h : Spot) (e : StopError) (x : Found)
    → Repeated R t count from whole vs (suc left) q s
    → R h (at_type t) q s ≡ Ok x
    → took s x.2 ≡ false
    → StopsAt h e (stuck h Idle)
    → Stops h e (read_type mode schema R h (closed.repeat count t) from whole)
idle_stops R mode schema t count from whole vs left q s h e x b read idle at =
    whole_stops R mode schema t count from whole vs left q s h e b
    (stops_at h e (stuck h Idle) (turn R h t q s) at
    (goes_on (R h (at_type t) q s) (λ (y : Found). cond (took s y.2) (Ok y) (Err (stuck h Idle))) x read
    ∙ when_false {A = Result Found Place} (took s x.2) (Ok x) (Err (stuck h Idle)) idle))

all_items : (vs : List Plain) → prepend vs no_vals ≡ vals_of vs
all_items [] = refl
all_items (v ∷ vs) = ap (a_val v) (all_items vs)

pub all_repeated : (R : Reader) (mode : Mode) (schema : CoreSchema) (t : Closed) (count : ℕ) (from : ℕ) (whole : Slice)
    (vs : List Plain) (q : ℕ) (s : Slice) (h : Spot)
    → Repeated R t count from whole vs zero q s
    → read_type mode schema R h (closed.repeat count t) from whole ≡ Ok (let x : Found = (list_of (vals_of vs), [], s) in x)
all_repeated R mode schema t count from whole vs q s h b =
    ap (λ z. z >>= (λ x. Ok (let y : Found = (list_of x.0, [], x.1) in y))) (b.so_far h)
    ∙ ap (λ ws. Ok (let y : Found = (list_of ws, [], s) in y)) (all_items vs)

-- ---- at a number of an item

pub at_item : (R : Reader) (t : Closed) (count : ℕ) (from : ℕ) (whole : Slice) (vs : List Plain) (k : ℕ) (q : ℕ) (s : Slice)
    → k < count
    → Repeated R t count from whole vs (count - k) q s
    → Repeated R t count from whole vs (suc (count - (k + 1))) q s
at_item R t count from whole vs k q s below b =
    let next : count - k ≡ suc (count - (k + 1)) = omega arith in
    let T : ℕ → Type 0 = λ left. Repeated R t count from whole vs left q s in
    subst T next b

pub at_last : (R : Reader) (t : Closed) (count : ℕ) (from : ℕ) (whole : Slice) (vs : List Plain) (k : ℕ) (q : ℕ) (s : Slice)
    → count ≤ k
    → Repeated R t count from whole vs (count - k) q s
    → Repeated R t count from whole vs zero q s
at_last R t count from whole vs k q s after b =
    let none : count - k ≡ zero = omega arith in
    let T : ℕ → Type 0 = λ left. Repeated R t count from whole vs left q s in
    subst T none b
