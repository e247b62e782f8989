-- Values one after the other.
use Rattle.std.proofs.Common.{◌≡◌, ℕ, suc, ◌+◌, Bool, true, false, cond, nat_eq, ◌<◌, ◌≤◌, List, [], ◌∷◌, Result, Ok}
use Rattle.std.proofs.Common.{Err, drop, drop-cons, get_or, length, refl, ap, sym, ◌∙◌, subst, arith}
use Rattle.std.proofs.lemmas.List.{drop_all}
use Rattle.core_form.specs.Closed.{Closed}
use Rattle.core_form.specs.Closed as closed
use Rattle.plan_reading.specs.StopLaws.{stops_at, stops_then}
use Rattle.plan_reading.specs.Stops.{Stops, StopsAt}
use Rattle.plan_reading.specs.declared.stop.StopError.{StopError}
use Rattle.spelling.specs.Goals.{at_type, typed}
use Rattle.spelling.specs.Places.{Place, Spot, stuck}
use Rattle.spelling.specs.PlainReader.{◌>>=◌}
use Rattle.spelling.specs.declared.Cause.TheVariants.{Idle, Shape}
use Rattle.spelling_laws.specs.StepLaws.{when_true, when_false}
use Rattle.typed_value.specs.Values.{Plain, Plains, a_val, no_vals, parts, parts_in}
use Rattle.typed_value.specs.View.{value, vals_of}
use Rattle.typed_value.specs.declared.value.Value.{Value}
use Rattle.building.specs.Growing.{Grown}
use Rattle.building.specs.PlainBuilder.{Made, Maker, count, grew, list_at, make_items, turn}
use Rattle.typed_builder.specs.View.{list_of}
use Rattle.typed_builder.proofs.Steps.{goes_on, stops_same}

-- ---- how many

pub count_is : (vs : List Value) → count (list_of vs) ≡ length vs
count_is [] = refl
count_is (v ∷ vs) = ap suc (count_is vs)

list_is : (R : Maker) (h : Spot) (n : ℕ) (t : Closed) (q : ℕ) (vs : List Value) (b : Grown)
    → nat_eq (count (list_of vs)) n ≡ true
    → list_at R h (typed (closed.repeat n t)) q (list_of vs) b
    ≡ (make_items R h t q (list_of vs) b >>= (λ (g : Grown). Ok ([], g)))
list_is R h n t q vs b e = when_true {A = Result Made Place} (nat_eq (count (list_of vs)) n) _ _ e

pub list_on : (R : Maker) (h : Spot) (n : ℕ) (t : Closed) (q : ℕ) (vs : List Value) (b g : Grown)
    → nat_eq (count (list_of vs)) n ≡ true → make_items R h t q (list_of vs) b ≡ Ok g
    → list_at R h (typed (closed.repeat n t)) q (list_of vs) b ≡ Ok ([], g)
list_on R h n t q vs b g e built =
    list_is R h n t q vs b e ∙ goes_on (make_items R h t q (list_of vs) b) (λ (g : Grown). Ok ([], g)) g built

pub list_stops : (R : Maker) (h : Spot) (n : ℕ) (t : Closed) (q : ℕ) (vs : List Value) (b : Grown) (e : StopError)
    → nat_eq (count (list_of vs)) n ≡ true → Stops h e (make_items R h t q (list_of vs) b)
    → Stops h e (list_at R h (typed (closed.repeat n t)) q (list_of vs) b)
list_stops R h n t q vs b e is stop =
    stops_same h e _ _ (list_is R h n t q vs b is)
    (stops_then h e (make_items R h t q (list_of vs) b) (λ (g : Grown). Ok ([], g)) stop)

pub list_not : (R : Maker) (h : Spot) (n : ℕ) (t : Closed) (q : ℕ) (vs : List Value) (b : Grown)
    → nat_eq (count (list_of vs)) n ≡ false → list_at R h (typed (closed.repeat n t)) q (list_of vs) b ≡ Err
    (stuck h Shape)
list_not R h n t q vs b e = when_false {A = Result Made Place} (nat_eq (count (list_of vs)) n) _ _ e

-- ---- one item more

-- what the items that are left make of the whole
pub record Itemed (R : Maker) (t : Closed) (whole : List Value) (from : ℕ) (first : Grown) (rest : List Value) (q : ℕ)
    (b : Grown) : Type 0 where
  pub so_far : (h : Spot) → make_items R h t from (list_of whole) first ≡ make_items R h t q (list_of rest) b
  pub counts : q + parts_in (list_of rest) ≡ from + parts_in (list_of whole)

pub none_itemed : (R : Maker) (t : Closed) (whole : List Value) (from : ℕ) (first : Grown)
    → Itemed R t whole from first whole from first
none_itemed R t whole from first = record { so_far = λ h. refl; counts = refl }

pub one_itemed : (R : Maker) (t : Closed) (whole : List Value) (from : ℕ) (first : Grown) (v : Value)
    (rest : List Value)
    (q k : ℕ) (b : Grown) (x : Made) → Itemed R t whole from first (v ∷ rest) q b
    → ((h : Spot) → R h (at_type t) q (value v) b ≡ Ok x) → grew b x.1 ≡ true → k ≡ q + parts (value v)
    → Itemed R t whole from first rest k x.1
one_itemed R t whole from first v rest q k b x i made taken count_of =
    let before = i.counts in
    record {
      so_far = λ h. i.so_far h
          ∙ goes_on (turn R h t q (value v) b) (λ y. make_items R h t (q + parts (value v)) (list_of rest) y.1) x
          (goes_on (R h (at_type t) q (value v) b) (λ (y : Made). cond (grew b y.1) (Ok y) (Err (stuck h Idle))) x
          (made h)
          ∙ when_true {A = Result Made Place} (grew b x.1) (Ok x) (Err (stuck h Idle)) taken)
          ∙ ap (λ n. make_items R h t n (list_of rest) x.1) (sym count_of);
      counts = omega (arith, before, count_of);
    }

turn_stops : (R : Maker) (t : Closed) (whole : List Value) (from : ℕ) (first : Grown) (v : Value) (rest : List Value)
    (q : ℕ) (b : Grown) (h : Spot) (e : StopError) → Itemed R t whole from first (v ∷ rest) q b
    → Stops h e (turn R h t q (value v) b) → Stops h e (make_items R h t from (list_of whole) first)
turn_stops R t whole from first v rest q b h e i stop =
    stops_same h e _ _ (i.so_far h)
    (stops_then h e (turn R h t q (value v) b) (λ y. make_items R h t (q + parts (value v)) (list_of rest) y.1) stop)

pub item_stops : (R : Maker) (t : Closed) (whole : List Value) (from : ℕ) (first : Grown) (v : Value)
    (rest : List Value)
    (q : ℕ) (b : Grown) (h : Spot) (e : StopError) → Itemed R t whole from first (v ∷ rest) q b
    → Stops h e (R h (at_type t) q (value v) b) → Stops h e (make_items R h t from (list_of whole) first)
item_stops R t whole from first v rest q b h e i stop =
    turn_stops R t whole from first v rest q b h e i
    (stops_then h e (R h (at_type t) q (value v) b) (λ (y : Made). cond (grew b y.1) (Ok y) (Err (stuck h Idle))) stop)

pub idle_stops : (R : Maker) (t : Closed) (whole : List Value) (from : ℕ) (first : Grown) (v : Value)
    (rest : List Value)
    (q : ℕ) (b : Grown) (x : Made) (h : Spot) (e : StopError) → Itemed R t whole from first (v ∷ rest) q b
    → R h (at_type t) q (value v) b ≡ Ok x → grew b x.1 ≡ false → StopsAt h e (stuck h Idle)
    → Stops h e (make_items R h t from (list_of whole) first)
idle_stops R t whole from first v rest q b x h e i made idle at =
    turn_stops R t whole from first v rest q b h e i
    (stops_at h e (stuck h Idle) (turn R h t q (value v) b) at
    (goes_on (R h (at_type t) q (value v) b) (λ (y : Made). cond (grew b y.1) (Ok y) (Err (stuck h Idle))) x made
    ∙ when_false {A = Result Made Place} (grew b x.1) (Ok x) (Err (stuck h Idle)) idle))

-- ---- by the number of an item

pub at_item : (R : Maker) (t : Closed) (whole : List Value) (from : ℕ) (first : Grown) (v : Value) (k q : ℕ) (b : Grown)
    → k < length whole → v ≡ get_or whole k v → Itemed R t whole from first (drop k whole) q b
    → Itemed R t whole from first (v ∷ drop (k + 1) whole) q b
at_item R t whole from first v k q b within at i =
    let next : suc k ≡ k + 1 = omega arith in
    let T : List Value → Type 0 = λ rest. Itemed R t whole from first rest q b in
    subst T (drop-cons whole k v within ∙ ap (λ z. z ∷ drop (suc k) whole) (sym at) ∙ ap (λ n. v ∷ drop n whole) next) i

pub at_last : (R : Maker) (t : Closed) (whole : List Value) (from : ℕ) (first : Grown) (k q : ℕ) (b : Grown)
    → length whole ≤ k → Itemed R t whole from first (drop k whole) q b → Itemed R t whole from first [] q b
at_last R t whole from first k q b after i =
    let T : List Value → Type 0 = λ rest. Itemed R t whole from first rest q b in
    subst T (drop_all k whole after) i
