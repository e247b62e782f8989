-- The contents of a dictionary's leaves, one after the other.
use Rattle.std.proofs.Common.{◌≡◌, ℕ, suc, ◌+◌, ◌<◌, ◌≤◌, List, [], ◌∷◌, ◌++◌, Result, Ok, Err, drop, drop-cons, get_or}
use Rattle.std.proofs.Common.{length, map, refl, ap, sym, ◌∙◌, subst, arith}
use Rattle.std.proofs.lemmas.List.{drop_all}
use Rattle.core_form.specs.Closed.{Closed}
use Rattle.plan_reading.specs.StopLaws.{stops_then}
use Rattle.plan_reading.specs.Stops.{Stops}
use Rattle.plan_reading.specs.declared.stop.StopError.{StopError}
use Rattle.spelling.specs.Goals.{at_type}
use Rattle.spelling.specs.Places.{Place, Spot}
use Rattle.spelling.specs.PlainReader.{◌>>=◌}
use Rattle.typed_value.specs.Values.{Plain, parts, parts_by}
use Rattle.typed_value.specs.View.{pair_of, pairs_of}
use Rattle.typed_value.specs.declared.value.Value.{Value}
use Rattle.building.specs.Growing.{Grown, empty}
use Rattle.building.specs.PlainBuilder.{Leaves, Made, Maker, make_leaves}
use Rattle.typed_builder.proofs.Steps.{goes_on, stops_same}

-- a leaf, and those after it
abbrev with_leaf : List ℕ → Grown → Result Leaves Place → Result Leaves Place
with_leaf k g r = r >>= (λ xs. Ok (let x : List ℕ × Grown = (k, g) in x ∷ xs))

-- these leaves, and those after them
abbrev pub leaves_first : Leaves → Result Leaves Place → Result Leaves Place
leaves_first xs r = r >>= (λ more. Ok (xs ++ more))

one_later : (xs : Leaves) (k : List ℕ) (g : Grown) (more : Leaves)
    → xs ++ (k, g) ∷ more ≡ (xs ++ (k, g) ∷ []) ++ more
one_later [] k g more = refl
one_later (x ∷ xs) k g more = ap (λ (l : Leaves). x ∷ l) (one_later xs k g more)

leaf_later : (xs : Leaves) (k : List ℕ) (g : Grown) (r : Result Leaves Place)
    → leaves_first xs (with_leaf k g r) ≡ leaves_first (xs ++ (k, g) ∷ []) r
leaf_later xs k g (Ok more) = ap (λ (l : Leaves). Ok l) (one_later xs k g more)
leaf_later xs k g (Err p) = refl

none_first : (r : Result Leaves Place) → leaves_first [] r ≡ r
none_first (Ok x) = refl
none_first (Err p) = refl

-- what the leaves that are built and the pairs that are left make of the whole
pub record Leaved (R : Maker) (t : Closed) (whole : List (List ℕ × Plain)) (from : ℕ) (xs : Leaves)
    (rest : List (List ℕ × Plain)) (q : ℕ) : Type 0 where
  pub so_far : (h : Spot) → make_leaves R h t from (pairs_of whole) ≡ leaves_first xs
      (make_leaves R h t q (pairs_of rest))
  pub counts : q + parts_by (pairs_of rest) ≡ from + parts_by (pairs_of whole)

pub none_leaved : (R : Maker) (t : Closed) (whole : List (List ℕ × Plain)) (from : ℕ) → Leaved R t whole from [] whole
    from
none_leaved R t whole from = record {
  so_far = λ h. sym (none_first (make_leaves R h t from (pairs_of whole)));
  counts = refl;
}

pub one_leaved : (R : Maker) (t : Closed) (whole : List (List ℕ × Plain)) (from : ℕ) (xs ys : Leaves) (key : List ℕ)
    (v : Plain) (rest : List (List ℕ × Plain)) (q k : ℕ) (b : Grown) (x : Made)
    → Leaved R t whole from xs ((key, v) ∷ rest) q → b ≡ empty → ((h : Spot) → R h (at_type t) q v b ≡ Ok x)
    → k ≡ q + parts v → ys ≡ xs ++ (key, x.1) ∷ [] → Leaved R t whole from ys rest k
one_leaved R t whole from xs ys key v rest q k b x l none made count_of more =
    let before = l.counts in
    record {
      so_far = λ h. l.so_far h ∙ ap (leaves_first xs)
          (goes_on (R h (at_type t) q v empty) (λ (y : Made). with_leaf key y.1
          (make_leaves R h t (q + parts v) (pairs_of rest))) x
          (ap (R h (at_type t) q v) (sym none) ∙ made h))
          ∙ leaf_later xs key x.1 (make_leaves R h t (q + parts v) (pairs_of rest))
          ∙ (λ i. leaves_first (sym more i) (make_leaves R h t (sym count_of i) (pairs_of rest)));
      counts = omega (arith, before, count_of);
    }

pub leaf_stops : (R : Maker) (t : Closed) (whole : List (List ℕ × Plain)) (from : ℕ) (xs : Leaves) (key : List ℕ)
    (v : Plain) (rest : List (List ℕ × Plain)) (q : ℕ) (b : Grown) (h : Spot) (e : StopError)
    → Leaved R t whole from xs ((key, v) ∷ rest) q → b ≡ empty → Stops h e (R h (at_type t) q v b)
    → Stops h e (make_leaves R h t from (pairs_of whole))
leaf_stops R t whole from xs key v rest q b h e l none stop =
    stops_same h e _ _ (l.so_far h)
    (stops_then h e (make_leaves R h t q (pairs_of ((key, v) ∷ rest))) (λ (more : Leaves). Ok (xs ++ more))
    (stops_then h e (R h (at_type t) q v empty) (λ (y : Made). with_leaf key y.1
    (make_leaves R h t (q + parts v) (pairs_of rest)))
    (stops_same h e _ _ (ap (R h (at_type t) q v) (sym none)) stop)))

nothing_after : (xs : Leaves) → xs ++ [] ≡ xs
nothing_after [] = refl
nothing_after (x ∷ xs) = ap (λ (l : Leaves). x ∷ l) (nothing_after xs)

pub all_leaved : (R : Maker) (t : Closed) (whole : List (List ℕ × Plain)) (from : ℕ) (xs : Leaves) (q : ℕ) (h : Spot)
    → Leaved R t whole from xs [] q → make_leaves R h t from (pairs_of whole) ≡ Ok xs
all_leaved R t whole from xs q h l = l.so_far h ∙ ap (λ (z : Leaves). Ok z) (nothing_after xs)

-- ---- by the number of a pair

pub at_pair : (R : Maker) (t : Closed) (whole : List (List ℕ × Plain)) (from : ℕ) (xs : Leaves)
    (pairs : List (List ℕ × Value)) (p : List ℕ × Value) (k q : ℕ) → k < length pairs → p ≡ get_or pairs k p
    → Leaved R t whole from xs (map pair_of (drop k pairs)) q
    → Leaved R t whole from xs (pair_of p ∷ map pair_of (drop (k + 1) pairs)) q
at_pair R t whole from xs pairs p k q within at l =
    let next : suc k ≡ k + 1 = omega arith in
    let T : List (List ℕ × Value) → Type 0 = λ rest. Leaved R t whole from xs (map pair_of rest) q in
    subst T (drop-cons pairs k p within ∙ ap (λ z. z ∷ drop (suc k) pairs) (sym at) ∙ ap (λ n. p ∷ drop n pairs) next) l

pub at_last : (R : Maker) (t : Closed) (whole : List (List ℕ × Plain)) (from : ℕ) (xs : Leaves)
    (pairs : List (List ℕ × Value)) (k q : ℕ) → length pairs ≤ k
    → Leaved R t whole from xs (map pair_of (drop k pairs)) q → Leaved R t whole from xs [] q
at_last R t whole from xs pairs k q after l =
    let T : List (List ℕ × Value) → Type 0 = λ rest. Leaved R t whole from xs (map pair_of rest) q in
    subst T (drop_all k pairs after) l
