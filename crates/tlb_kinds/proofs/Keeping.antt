-- What is kept of a schema.
use Rattle.std.proofs.Common.{◌≡◌, ◌≤◌, refl, Bool, true, false, [], ◌∷◌, length, get_or, arith}
use Rattle.std.specs.Prelude.{All, cond, count_by, filter, not, bytes_eq}
use Rattle.std.proofs.lemmas.List.Elements.{All-filter, filter_passes}
use Rattle.std.proofs.lemmas.List.Sums.{length-filter}
use Rattle.tlb_syntax.specs.Limits.{IsWithinLimits}
use Rattle.tlb_syntax.specs.Tree.{ConstructorView, SchemaView}
use Rattle.kind_terms.specs.Classes.{is_dictionary}
use Rattle.tlb_kinds.specs.Kept.{IsKept, IsNoDictionary, IsOrdinary}
use Rattle.tlb_kinds.specs.Laws.{KeptHasNoDictionary, KeptIsOrdinary, KeptStaysWithin, WholeIsKept}
use Rattle.tlb_kinds.specs.Refusals.{kept_of, ordinary}
use Rattle.tlb_kinds.proofs.Loops.{kept_few, kept_within}
use Rattle.tlb_kinds.proofs.Passing.{kinded_stays}

longer : (b : Bool) (c : ConstructorView) (xs ys : SchemaView) → length xs ≤ length ys
    → length (cond b (c ∷ xs) xs) ≤ length (cond b (c ∷ ys) ys)
longer true c xs ys h = omega (arith, h)
longer false c xs ys h = h

one_longer : (b : Bool) (c : ConstructorView) (xs ys : SchemaView) → length xs ≤ length ys
    → length xs ≤ length (cond b (c ∷ ys) ys)
one_longer true c xs ys h = omega (arith, h)
one_longer false c xs ys h = h

module _ (out : ConstructorView → Bool) where
  abbrev keep : SchemaView → SchemaView
  keep s = filter (λ (c : ConstructorView). not (out c)) s

  not_true : (b : Bool) → not b ≡ true → b ≡ false
  not_true true e = cc
  not_true false e = refl

  none_left : (s : SchemaView) → All (λ c. out c ≡ false) (keep s)
  none_left s = λ k d lt.
      not_true (out (get_or (keep s) k d)) (filter_passes (λ (c : ConstructorView). not (out c)) s k d lt)

  module _ (p : ConstructorView → Bool) where
    one_step : (a : Bool) (c : ConstructorView) (xs ys : SchemaView) → length (filter p xs) ≤ length (filter p ys)
        → length (filter p (cond a (c ∷ xs) xs)) ≤ length (filter p (c ∷ ys))
    one_step true c xs ys h = longer (p c) c (filter p xs) (filter p ys) h
    one_step false c xs ys h = one_longer (p c) c (filter p xs) (filter p ys) h

    filtered_left : (s : SchemaView) → length (filter p (keep s)) ≤ length (filter p s)
    filtered_left [] = omega arith
    filtered_left (c ∷ cs) = one_step (not (out c)) c (keep cs) cs (filtered_left cs)

    count_left : (s : SchemaView) → count_by p (keep s) ≤ count_by p s
    count_left s =
        let less = filtered_left s in
        let kept = length-filter p (keep s) in
        let all = length-filter p s in
        omega (arith, less, kept, all)

pub kept_is_ordinary : KeptIsOrdinary
kept_is_ordinary s =
    All-filter (λ (c : ConstructorView). not (is_dictionary c.result)) IsOrdinary (ordinary s) (none_left (λ c. c.exotic) s)

pub kept_has_no_dictionary : KeptHasNoDictionary
kept_has_no_dictionary s = none_left (λ c. is_dictionary c.result) (ordinary s)

kept_count : (p : ConstructorView → Bool) (s : SchemaView) → count_by p (kept_of s) ≤ count_by p s
kept_count p s =
    let a = count_left (λ c. is_dictionary c.result) p (ordinary s) in
    let b = count_left (λ c. c.exotic) p s in
    omega (arith, a, b)

pub kept_stays_within : KeptStaysWithin
kept_stays_within s within = record {
  counts = record {
    all = (let less = kept_few s in omega (arith, less, within.counts.all));
    of_one = λ x.
        let less = kept_count (λ (c : ConstructorView). bytes_eq c.result x) s in
        omega (arith, less, within.counts.of_one x);
  };
  constructors = kept_within s within.constructors;
}

pub whole_is_kept : WholeIsKept
whole_is_kept s within kinded = record {
  kinded = kinded_stays s kinded;
  within = kept_stays_within s within;
  ordinary = kept_is_ordinary s;
  no_dictionaries = kept_has_no_dictionary s;
}
