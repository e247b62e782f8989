-- A record's operations one after the other, and its fields' values beside them.
use Rattle.std.proofs.Common.{◌≡◌, ℕ, suc, ◌+◌, ◌<◌, ◌≤◌, List, [], ◌∷◌, Option, Some, None, Result, Ok, Err, drop}
use Rattle.std.proofs.Common.{drop-cons, get_or, length, refl, ap, sym, ◌∙◌, subst, arith}
use Rattle.std.proofs.lemmas.List.{drop_all}
use Rattle.core_form.specs.Core.{Items}
use Rattle.core_form.specs.Scope.{Scope}
use Rattle.flat_form.specs.Sound.{OpsAreSound}
use Rattle.flat_form.specs.Stands.{items_in, type_at}
use Rattle.flat_form.specs.declared.lists.Flat.{Flat}
use Rattle.flat_form.specs.declared.lists.PlanOp.{PlanOp}
use Rattle.plan_reading.specs.Shaped.{GovernIsSound, governed}
use Rattle.plan_reading.specs.StopLaws.{stops_at, stops_then}
use Rattle.plan_reading.specs.Stops.{Stops, StopsAt}
use Rattle.plan_reading.specs.declared.stop.StopError.{StopError}
use Rattle.spelling.specs.Places.{Place, Spot, stuck}
use Rattle.spelling.specs.PlainReader.{◌>>=◌}
use Rattle.spelling.specs.declared.Cause.TheVariants.{Shape}
use Rattle.typed_value.specs.Values.{Plain, Plains, parts_in}
use Rattle.typed_value.specs.declared.value.Value.{Value}
use Rattle.building.specs.Growing.{Grown}
use Rattle.building.specs.PlainBuilder.{Maker, make_fields}
use Rattle.typed_builder.specs.Turns.{Turned, stepped, turn}
use Rattle.typed_builder.specs.View.{values_of}
use Rattle.typed_builder.proofs.Steps.{goes_on, stops_same}
use Rattle.typed_builder.proofs.Turning.{after, fields_turn}

-- what the operations and the values that are left make of the whole
pub record SoFar (R : Maker) (f : Flat) (ops : List PlanOp) (start : Scope) (from : ℕ) (fields : Plains) (first : Grown)
    (c : Option (ℕ × ℕ)) (rest : List PlanOp) (scope : Scope) (q : ℕ) (due : Plains) (b : Grown) : Type 0 where
  pub sound : OpsAreSound f (length f.types) rest
  pub condition : GovernIsSound f c
  pub so_far : (h : Spot) → make_fields R h (items_in f (type_at f) None ops) start from fields first
      ≡ make_fields R h (items_in f (type_at f) (governed f c) rest) scope q due b
  pub counts : q + parts_in due ≡ from + parts_in fields

pub none_yet : (R : Maker) (f : Flat) (ops : List PlanOp) (start : Scope) (from : ℕ) (fields : Plains) (first : Grown)
    → OpsAreSound f (length f.types) ops → SoFar R f ops start from fields first None ops start from fields first
none_yet R f ops start from fields first sound = record {
  sound = sound;
  condition = tt;
  so_far = λ h. refl;
  counts = refl;
}

pub one_more : (R : Maker) (f : Flat) (ops : List PlanOp) (start : Scope) (from : ℕ) (fields : Plains) (first : Grown)
    (c d : Option (ℕ × ℕ)) (op : PlanOp) (rest : List PlanOp) (scope next : Scope) (q k : ℕ) (due left : Plains)
    (b g : Grown) → SoFar R f ops start from fields first c (op ∷ rest) scope q due b
    → ((h : Spot) → turn R h f (governed f c) op scope q due b ≡ Ok (stepped next k left g, governed f d))
    → GovernIsSound f d → k + parts_in left ≡ q + parts_in due
    → SoFar R f ops start from fields first d rest next k left g
one_more R f ops start from fields first c d op rest scope next q k due left b g s turned sound count_of =
    let before = s.counts in
    record {
      sound = s.sound.1;
      condition = sound;
      so_far = λ h. s.so_far h ∙ fields_turn R h f (governed f c) op rest scope q due b
          ∙ goes_on (turn R h f (governed f c) op scope q due b) (after R h f rest)
          (stepped next k left g, governed f d) (turned h);
      counts = omega (arith, before, count_of);
    }

pub one_stops : (R : Maker) (f : Flat) (ops : List PlanOp) (start : Scope) (from : ℕ) (fields : Plains) (first : Grown)
    (c : Option (ℕ × ℕ)) (op : PlanOp) (rest : List PlanOp) (scope : Scope) (q : ℕ) (due : Plains) (b : Grown)
    (h : Spot)
    (e : StopError) → SoFar R f ops start from fields first c (op ∷ rest) scope q due b
    → Stops h e (turn R h f (governed f c) op scope q due b)
    → Stops h e (make_fields R h (items_in f (type_at f) None ops) start from fields first)
one_stops R f ops start from fields first c op rest scope q due b h e s stop =
    stops_same h e _ _ (s.so_far h)
    (stops_same h e _ _ (fields_turn R h f (governed f c) op rest scope q due b)
    (stops_then h e (turn R h f (governed f c) op scope q due b) (after R h f rest) stop))

-- ---- the end

pub all_made : (R : Maker) (f : Flat) (ops : List PlanOp) (start : Scope) (from : ℕ) (fields : Plains) (first : Grown)
    (c : Option (ℕ × ℕ)) (scope : Scope) (q : ℕ) (due : List (List ℕ × Value)) (b : Grown) (h : Spot)
    → SoFar R f ops start from fields first c [] scope q (values_of due) b → length due ≡ 0
    → make_fields R h (items_in f (type_at f) None ops) start from fields first ≡ Ok (scope, b)
all_made R f ops start from fields first c scope q [] b h s none = s.so_far h
all_made R f ops start from fields first c scope q (x ∷ due) b h s none = absurd (omega (arith, none))

pub some_due : (R : Maker) (f : Flat) (ops : List PlanOp) (start : Scope) (from : ℕ) (fields : Plains) (first : Grown)
    (c : Option (ℕ × ℕ)) (scope : Scope) (q : ℕ) (due : List (List ℕ × Value)) (b : Grown) (h : Spot) (e : StopError)
    → SoFar R f ops start from fields first c [] scope q (values_of due) b → (length due ≡ 0 → ⊥)
    → StopsAt h e (stuck h Shape) → Stops h e (make_fields R h (items_in f (type_at f) None ops) start from fields
    first)
some_due R f ops start from fields first c scope q [] b h e s some at = absurd (some refl)
some_due R f ops start from fields first c scope q (x ∷ due) b h e s some at = stops_at h e (stuck h Shape) _ at
    (s.so_far h)

pub all_counted : (R : Maker) (f : Flat) (ops : List PlanOp) (start : Scope) (from : ℕ) (fields : Plains)
    (first : Grown)
    (c : Option (ℕ × ℕ)) (scope : Scope) (q : ℕ) (due : List (List ℕ × Value)) (b : Grown)
    → SoFar R f ops start from fields first c [] scope q (values_of due) b → length due ≡ 0 → q ≡ from + parts_in fields
all_counted R f ops start from fields first c scope q [] b s none = let k = s.counts in omega (arith, k)
all_counted R f ops start from fields first c scope q (x ∷ due) b s none = absurd (omega (arith, none))

-- ---- by the number of an operation

pub at_op : (R : Maker) (f : Flat) (ops : List PlanOp) (start : Scope) (from : ℕ) (fields : Plains) (first : Grown)
    (c : Option (ℕ × ℕ)) (other : PlanOp) (k : ℕ) (scope : Scope) (q : ℕ) (due : Plains) (b : Grown)
    → k < length ops → SoFar R f ops start from fields first c (drop k ops) scope q due b
    → SoFar R f ops start from fields first c (get_or ops k other ∷ drop (k + 1) ops) scope q due b
at_op R f ops start from fields first c other k scope q due b within s =
    let next : suc k ≡ k + 1 = omega arith in
    let T : List PlanOp → Type 0 = λ rest. SoFar R f ops start from fields first c rest scope q due b in
    subst T (drop-cons ops k other within ∙ ap (λ n. get_or ops k other ∷ drop n ops) next) s

pub at_end : (R : Maker) (f : Flat) (ops : List PlanOp) (start : Scope) (from : ℕ) (fields : Plains) (first : Grown)
    (c : Option (ℕ × ℕ)) (k : ℕ) (scope : Scope) (q : ℕ) (due : Plains) (b : Grown) → length ops ≤ k
    → SoFar R f ops start from fields first c (drop k ops) scope q due b
    → SoFar R f ops start from fields first c [] scope q due b
at_end R f ops start from fields first c k scope q due b after s =
    let T : List PlanOp → Type 0 = λ rest. SoFar R f ops start from fields first c rest scope q due b in
    subst T (drop_all k ops after) s
