-- Whether inputs meet arguments, one by one, and what a constructor is then entered by.
use Rattle.std.proofs.Common.{◌≡◌, ◌∙◌, ◌<◌, ◌+◌, ◌-◌, ◌≤◌, ◌^◌, ◌&&◌, ◌↔◌, not, inl, inr, Bool, true, false, cond, ℕ, zero, suc, List, [], ◌∷◌, ◌++◌, length, map, refl, sym, ap, arith}
use Rattle.std.proofs.Common.{Option, Some, None, subst, take, drop}
use Rattle.std.specs.Prelude.{All, IsTrue, is_some, slice_get, nat_eq, nat_le, nat_lt}
use Rattle.std.proofs.lemmas.Bool.{and_from, and_parts, cases_lt, eq-eqb, eqb-true, false_from_ne_true, leb-true, le-leb, le-ltb, lt-leb, lt-ltb}
use Rattle.std.proofs.lemmas.Bool.{false≢true, not_from_false, not_from_true}
use Rattle.std.proofs.lemmas.List.Elements.{All-cons}
use Rattle.std.proofs.lemmas.List.{drop_all, length-map, map-append, take_all}
use Rattle.std.proofs.lemmas.Option.{none-some, same_Some}
use Rattle.nat_solver.specs.Pattern as patterns
use Rattle.nat_solver.specs.declared.pattern.Pattern.{Pattern}
use Rattle.nat_solver.specs.declared.pattern.Pattern.TheVariants.{Lit, Var, Plus}
use Rattle.closed_type.specs.View.{AnArg, arg_step, closed_arg, joined, type_step}
use Rattle.closed_type.specs.declared.tree.ClosedArg.{ClosedArg, fold-roll-ClosedArg}
use Rattle.closed_type.specs.declared.tree.ClosedArg.TheOpen as open_args
use Rattle.closed_type.specs.declared.tree.ClosedArg.TheVariants.{Nat, rolls-Nat}
use Rattle.closed_type.specs.View as args
use Rattle.core_form.specs.Closed.{Closed}
use Rattle.core_form.specs.Core.{CoreSchema, Declaration, Input, number, type}
use Rattle.core_form.specs.Fit.{meet, meet_all, onward}
use Rattle.core_form.specs.Scope.{Scope, unset, with_number, with_type}
use Rattle.flat_form.specs.Stands.{input_of}
use Rattle.flat_form.specs.declared.lists.PlanInput.{PlanInput}
use Rattle.bit_slice.specs.Bits.{BeginsWith}
use Rattle.schema_leads.specs.Leads.{begins}
use Rattle.schema_leads.specs.Separation.{CanEnter, Meets, meets}
use Rattle.field_plan.specs.Choosing.{AreSmall, Enters, IsSmall, input_meets}

-- as many inputs as arguments, and each input meets its argument
abbrev pub all_meet : List Input → List AnArg → Bool
all_meet [] [] = true
all_meet [] (a ∷ rest) = false
all_meet (i ∷ inputs) [] = false
all_meet (i ∷ inputs) (a ∷ rest) = input_meets i a && all_meet inputs rest

-- a pattern that gives a number, if there is one, meets it
pub pattern_meets : (p : Pattern) (n : ℕ) (r : Option ℕ) → ((y : ℕ) → (r ≡ Some y) ↔ patterns.Fits p n y) → is_some r ≡ meets p n
pattern_meets (Lit k) n None h = by (nat_eq n k) refl
  where
    by : (b : Bool) → nat_eq n k ≡ b → false ≡ b
    by true e = absurd (none-some n ((h n).1 (eqb-true n k e, eqb-true n k e)))
    by false e = refl
pattern_meets (Lit k) n (Some y) h = sym (eq-eqb n k ((h y).0 refl).0)
pattern_meets (Var v) n None h = absurd (none-some n ((h n).1 refl))
pattern_meets (Var v) n (Some y) h = refl
pattern_meets (Plus v k) n None h = by (nat_le k n) refl
  where
    by : (b : Bool) → nat_le k n ≡ b → false ≡ b
    by true e = let le : k ≤ n = leb-true k n e in absurd (none-some (n - k) ((h (n - k)).1 (omega (arith, le))))
    by false e = refl
pattern_meets (Plus v k) n (Some y) h = let is = (h y).0 refl in sym (le-leb k n (omega (arith, is)))

-- ---- as in a fit

if_equal : (b : Bool) (scope : Scope) (next : Scope → Option Scope) (rest : Bool) → is_some (next scope) ≡ rest
    → is_some (onward (cond b (Some scope) None) next) ≡ (b && rest)
if_equal true scope next rest e = e
if_equal false scope next rest e = refl

le_by_lt : (k m : ℕ) → nat_le k m ≡ not (nat_lt m k)
le_by_lt k m = elim (cases_lt m k) [
  | inl lt ↦ lt-leb k m lt ∙ sym (not_from_true (nat_lt m k) (lt-ltb m k lt))
  | inr le ↦ le-leb k m le ∙ sym (not_from_false (nat_lt m k) (le-ltb m k le))
]

not_less : (k m : ℕ) (scope : Scope) (next : Scope → Option Scope) (rest : Bool) → is_some (next scope) ≡ rest
    → is_some (onward (cond (nat_lt m k) None (Some scope)) next) ≡ (nat_le k m && rest)
not_less k m scope next rest e = by (nat_lt m k) (nat_le k m) (le_by_lt k m)
  where
    by : (b c : Bool) → c ≡ not b → is_some (onward (cond b None (Some scope)) next) ≡ (c && rest)
    by true c is = ap (λ z. z && rest) (sym is)
    by false c is = e ∙ ap (λ z. z && rest) (sym is)

meet_one : (p : Pattern) (m : ℕ) (scope : Scope) (next : Scope → Option Scope) (rest : Bool)
    → ((s : Scope) → is_some (next s) ≡ rest) → is_some (onward (meet p m scope) next) ≡ (meets p m && rest)
meet_one (Lit n) m scope next rest e = if_equal (nat_eq m n) scope next rest (e scope)
meet_one (Var v) m scope next rest e = e (with_number v m scope)
meet_one (Plus v k) m scope next rest e =
    not_less k m (with_number v (m - k) scope) next rest (e (with_number v (m - k) scope))

pub fit_meets : (inputs : List Input) (given : List AnArg) (scope : Scope)
    → is_some (meet_all inputs (joined given) scope) ≡ all_meet inputs given
fit_meets [] [] scope = refl
fit_meets [] (args.number n ∷ rest) scope = refl
fit_meets [] (args.type t ∷ rest) scope = refl
fit_meets (number p ∷ inputs) [] scope = refl
fit_meets (type v ∷ inputs) [] scope = refl
fit_meets (number p ∷ inputs) (args.number n ∷ rest) scope =
    meet_one p n scope (λ next. meet_all inputs (joined rest) next) (all_meet inputs rest) (λ s. fit_meets inputs rest s)
fit_meets (number p ∷ inputs) (args.type t ∷ rest) scope = refl
fit_meets (type v ∷ inputs) (args.number n ∷ rest) scope = refl
fit_meets (type v ∷ inputs) (args.type t ∷ rest) scope = fit_meets inputs rest (with_type v t scope)

pub seen_number : (n : ℕ) → closed_arg (Nat n) ≡ args.number n
seen_number n = ap closed_arg (sym (rolls-Nat n)) ∙ fold-roll-ClosedArg AnArg Closed arg_step type_step (open_args.Nat n)

-- ---- one after another

same_length : (inputs : List Input) (given : List AnArg) → all_meet inputs given ≡ true → length inputs ≡ length given
same_length [] [] e = refl
same_length [] (a ∷ rest) e = cc
same_length (i ∷ inputs) [] e = cc
same_length (i ∷ inputs) (a ∷ rest) e =
    ap suc (same_length inputs rest (and_parts (input_meets i a) (all_meet inputs rest) e).1)

pub unequal : (inputs : List PlanInput) (given : List ClosedArg) → (length inputs ≡ length given → ⊥)
    → all_meet (map input_of inputs) (map closed_arg given) ≡ false
unequal inputs given other = false_from_ne_true _ (λ e. other
    (sym (length-map inputs input_of) ∙ same_length (map input_of inputs) (map closed_arg given) e ∙ length-map given closed_arg))

left_at : {X : Type 0} (xs : List X) (k : ℕ) (x : X) → slice_get xs k ≡ Some x → drop k xs ≡ x ∷ drop (k + 1) xs
left_at xs k x e =
    let next : k + 1 ≡ suc k = omega arith in
    go xs k x e ∙ ap (λ n. x ∷ drop n xs) (sym next)
  where
    go : {X : Type 0} (xs : List X) (k : ℕ) (x : X) → slice_get xs k ≡ Some x → drop k xs ≡ x ∷ drop (suc k) xs
    go [] k x e = cc
    go (y ∷ xs) zero x e = ap (λ z. z ∷ xs) (same_Some y x e)
    go (y ∷ xs) (suc k) x e = go xs k x e

pub meets_next : (inputs : List PlanInput) (given : List ClosedArg) (k : ℕ) (x : PlanInput) (y : ClosedArg)
    → slice_get inputs k ≡ Some x → slice_get given k ≡ Some y
    → all_meet (map input_of (drop k inputs)) (map closed_arg (drop k given))
    ≡ (input_meets (input_of x) (closed_arg y)
    && all_meet (map input_of (drop (k + 1) inputs)) (map closed_arg (drop (k + 1) given)))
meets_next inputs given k x y here there =
    ap (λ z. all_meet (map input_of z) (map closed_arg (drop k given))) (left_at inputs k x here)
    ∙ ap (λ z. all_meet (map input_of (x ∷ drop (k + 1) inputs)) (map closed_arg z)) (left_at given k y there)

pub meets_end : (inputs : List PlanInput) (given : List ClosedArg) (k : ℕ) → length inputs ≤ k → length given ≤ k
    → all_meet (map input_of (drop k inputs)) (map closed_arg (drop k given)) ≡ true
meets_end inputs given k here there =
    ap (λ z. all_meet (map input_of z) (map closed_arg (drop k given))) (drop_all k inputs here)
    ∙ ap (λ z. all_meet [] (map closed_arg z)) (drop_all k given there)

small_more : (given : List AnArg) (a : AnArg) → AreSmall given → IsSmall a → AreSmall (given ++ a ∷ [])
small_more [] a h k = (k, tt)
small_more (b ∷ given) a h k = (h.0, small_more given a h.1 k)

pub small_next : (given : List ClosedArg) (k : ℕ) (y : ClosedArg) → slice_get given k ≡ Some y
    → AreSmall (map closed_arg (take k given)) → IsSmall (closed_arg y) → AreSmall (map closed_arg (take (k + 1) given))
small_next given k y there before one =
    let next : k + 1 ≡ suc k = omega arith in
    let is : map closed_arg (take (k + 1) given) ≡ map closed_arg (take k given) ++ closed_arg y ∷ [] =
    ap (λ n. map closed_arg (take n given)) next ∙ ap (map closed_arg) (take_next given k y there)
    ∙ map-append closed_arg (take k given) (y ∷ []) in
    subst AreSmall (sym is) (small_more (map closed_arg (take k given)) (closed_arg y) before one)
  where
    take_next : {X : Type 0} (xs : List X) (k : ℕ) (x : X) → slice_get xs k ≡ Some x → take (suc k) xs ≡ take k xs ++ x ∷ []
    take_next [] k x e = cc
    take_next (y ∷ xs) zero x e = ap (λ z. z ∷ []) (same_Some y x e)
    take_next (y ∷ xs) (suc k) x e = ap (λ z. y ∷ z) (take_next xs k x e)

pub small_whole : (given : List ClosedArg) (k : ℕ) → length given ≤ k → AreSmall (map closed_arg (take k given))
    → AreSmall (map closed_arg given)
small_whole given k all h = let P : List ClosedArg → Type 0 = λ z. AreSmall (map closed_arg z) in subst P (take_all k given all) h

-- ---- as separation has it

-- the numbers among arguments
abbrev pub numbers_of : List AnArg → List ℕ
numbers_of [] = []
numbers_of (args.number n ∷ rest) = n ∷ numbers_of rest
numbers_of (args.type t ∷ rest) = numbers_of rest

pub small_numbers : (given : List AnArg) → AreSmall given → All (λ n. n < 2 ^ 32) (numbers_of given)
small_numbers [] h = λ k d lt. absurd (omega (arith, lt))
small_numbers (args.number n ∷ rest) h = All-cons (λ n. n < 2 ^ 32) n (numbers_of rest) h.0 (small_numbers rest h.1)
small_numbers (args.type t ∷ rest) h = small_numbers rest h.1

fits_pattern : (p : Pattern) (n : ℕ) → meets p n ≡ true → (y : ℕ) × patterns.Fits p n y
fits_pattern (Lit k) n e = (n, (eqb-true n k e, eqb-true n k e))
fits_pattern (Var v) n e = (n, refl)
fits_pattern (Plus v k) n e = let le : k ≤ n = leb-true k n e in (n - k, omega (arith, le))

meets_all : (inputs : List Input) (given : List AnArg) → all_meet inputs given ≡ true → Meets inputs (numbers_of given)
meets_all [] [] e = tt
meets_all [] (a ∷ rest) e = cc
meets_all (i ∷ inputs) [] e = cc
meets_all (number p ∷ inputs) (args.number n ∷ rest) e =
    let both = and_parts (meets p n) (all_meet inputs rest) e in
    (fits_pattern p n both.0, meets_all inputs rest both.1)
meets_all (number p ∷ inputs) (args.type t ∷ rest) e = cc
meets_all (type v ∷ inputs) (args.number n ∷ rest) e = cc
meets_all (type v ∷ inputs) (args.type t ∷ rest) e = meets_all inputs rest e

pub can_enter : (s : CoreSchema) (x : List ℕ) (given : List AnArg) (bits : List ℕ) (d : Declaration)
    → Enters s x (joined given) bits d → CanEnter s d (numbers_of given) bits
can_enter s x given bits d h = record {
  meets = meets_all d.core.inputs given (sym (fit_meets d.core.inputs given (unset d.core.slots)) ∙ h.fits);
  begins = h.begins;
}

-- ---- whether bits begin with others

begins_from : (lead bits : List ℕ) → BeginsWith bits lead → begins lead bits ≡ true
begins_from [] bits e = refl
begins_from (x ∷ lead) [] e = cc
begins_from (x ∷ lead) (y ∷ bits) e =
    let first : y ≡ x = cc in
    let rest : take (length lead) bits ≡ lead = cc in
    and_from (nat_eq x y) (begins lead bits) (eq-eqb x y (sym first)) (begins_from lead bits rest)

begins_to : (lead bits : List ℕ) → begins lead bits ≡ true → BeginsWith bits lead
begins_to [] bits e = refl
begins_to (x ∷ lead) [] e = cc
begins_to (x ∷ lead) (y ∷ bits) e =
    let both = and_parts (nat_eq x y) (begins lead bits) e in
    ap (λ z. z ∷ take (length lead) bits) (sym (eqb-true x y both.0)) ∙ ap (λ z. x ∷ z) (begins_to lead bits both.1)

pub tested_begin : (b : Bool) (lead bits : List ℕ) → IsTrue b ↔ BeginsWith bits lead → b ≡ begins lead bits
tested_begin true lead bits h = sym (begins_from lead bits (h.0 refl))
tested_begin false lead bits h = sym (false_from_ne_true (begins lead bits) (λ e. false≢true (h.1 (begins_to lead bits e))))
