-- Inputs meet arguments one by one.
use Rattle.std.proofs.Common.{◌≡◌, ◌↔◌, ℕ, suc, ◌+◌, ◌<◌, List, [], ◌∷◌, Option, Some, None, length, map, drop, get_or, option_map, slice_set, refl, sym, ap, ◌∙◌}
use Rattle.std.proofs.lemmas.List.{at_drop_more, map-set}
use Rattle.nat_solver.specs.Number.{Numbers}
use Rattle.nat_solver.specs.Pattern.{Fits}
use Rattle.nat_solver.specs.declared.pattern.Pattern.{Pattern}
use Rattle.core_form.specs.Core.{Input, number, type}
use Rattle.core_form.specs.Fit.{meet, meet_all, onward, with_pattern}
use Rattle.core_form.specs.FitLaws.{meets, met}
use Rattle.core_form.specs.Scope.{Scope, with_type}
use Rattle.closed_type.specs.View.{AnArg, closed_arg, closed_args, closed_type, joined, onto}
use Rattle.closed_type.specs.View as args
use Rattle.closed_type.specs.declared.tree.ClosedArg.{ClosedArg}
use Rattle.closed_type.specs.declared.tree.ClosedType.{ClosedType}
use Rattle.flat_form.specs.Stands.{input_of}
use Rattle.flat_form.specs.declared.lists.PlanInput.{PlanInput}
use Rattle.plan_closing.specs.Counted.{scope_of}
use Rattle.plan_reading.specs.Slots.{meet_input}

-- a type in its slot
pub type_set : (numbers : Numbers) (types : List (Option ClosedType)) (v : ℕ) (t : ClosedType)
    → scope_of numbers (slice_set types v (Some t)) ≡ with_type v (closed_type t) (scope_of numbers types)
type_set numbers types v t =
    ap (λ z. let scope : Scope = record { numbers = numbers; types = z } in scope) (map-set (option_map closed_type) types v (Some t))

-- one pattern, by what it gives
pub pattern_met : (p : Pattern) (n y : ℕ) (r : Option ℕ) (scope : Scope) → ((z : ℕ) → (r ≡ Some z) ↔ Fits p n z)
    → r ≡ Some y → meet p n scope ≡ Some (with_pattern p y scope)
pattern_met p n y r scope gives is = met p n y scope ((gives y).0 is)

pub pattern_unmet : (p : Pattern) (n : ℕ) (r : Option ℕ) (scope : Scope) → ((z : ℕ) → (r ≡ Some z) ↔ Fits p n z)
    → r ≡ None → meet p n scope ≡ None
pattern_unmet p n r scope gives none = go (meet p n scope) refl
  where
    go : (o : Option Scope) → meet p n scope ≡ o → o ≡ None
    go None is = refl
    go (Some next) is =
        let m = meets p n scope next is in
        let bad : r ≡ Some m.0 = (gives m.0).1 m.1 in
        let clash : None ≡ Some m.0 = sym none ∙ bad in
        cc

-- the first input with the first argument, and then the others
pub meet_first : (i : Input) (is : List Input) (a : AnArg) (xs : List AnArg) (scope : Scope)
    → meet_all (i ∷ is) (joined (a ∷ xs)) scope ≡ onward (meet_input i a scope) (λ next. meet_all is (joined xs) next)
meet_first (number p) is (args.number n) xs scope = refl
meet_first (number p) is (args.type t) xs scope = refl
meet_first (type v) is (args.number n) xs scope = refl
meet_first (type v) is (args.type t) xs scope = refl

pub meet_turn : (inputs : List PlanInput) (xs : List ClosedArg) (k : ℕ) (d : PlanInput) (e : ClosedArg) (scope : Scope)
    → k < length inputs → k < length xs
    → meet_all (map input_of (drop k inputs)) (closed_args (drop k xs)) scope
    ≡ onward (meet_input (input_of (get_or inputs k d)) (closed_arg (get_or xs k e)) scope)
    (meet_all (map input_of (drop (k + 1) inputs)) (closed_args (drop (k + 1) xs)))
meet_turn inputs xs k d e scope in_inputs in_xs =
    at_drop_more (λ z. meet_all (map input_of z) (closed_args (drop k xs)) scope) inputs k d in_inputs
    ∙ at_drop_more (λ z. meet_all (map input_of (get_or inputs k d ∷ drop (k + 1) inputs)) (closed_args z) scope) xs k e in_xs
    ∙ meet_first (input_of (get_or inputs k d)) (map input_of (drop (k + 1) inputs)) (closed_arg (get_or xs k e))
    (map closed_arg (drop (k + 1) xs)) scope

none_on : (o : Option Scope) (f : Scope → Option Scope) → ((next : Scope) → f next ≡ None) → onward o f ≡ None
none_on None f none = refl
none_on (Some next) f none = none next

-- lists of different lengths do not meet
pub meet_uneven : (is : List Input) (xs : List AnArg) (scope : Scope) → ((length is ≡ length xs) → ⊥)
    → meet_all is (joined xs) scope ≡ None
meet_uneven [] [] scope apart = absurd (apart refl)
meet_uneven [] (args.number n ∷ xs) scope apart = refl
meet_uneven [] (args.type t ∷ xs) scope apart = refl
meet_uneven (number p ∷ is) [] scope apart = refl
meet_uneven (type v ∷ is) [] scope apart = refl
meet_uneven (i ∷ is) (a ∷ xs) scope apart =
    meet_first i is a xs scope
    ∙ none_on (meet_input i a scope) (meet_all is (joined xs)) (λ next. meet_uneven is xs next (λ e. apart (ap suc e)))
