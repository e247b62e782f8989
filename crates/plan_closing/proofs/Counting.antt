-- Turns of the loops that count nodes.
use Rattle.std.proofs.Common.{◌≡◌, ℕ, ◌+◌, ◌<◌, List, ◌∷◌, Option, Some, None, refl, ap, sym, ◌∙◌}
use Rattle.std.proofs.Common.{subst, drop, length, get_or}
use Rattle.std.proofs.lemmas.List.{at_drop_more}
use Rattle.nat_solver.specs.Number.{value}
use Rattle.core_form.specs.Core.{Args}
use Rattle.core_form.specs.Closed.{Closed, ClosedArgs, nodes, arg_nodes}
use Rattle.core_form.specs.Closing.{closing, closing_args, and_number, and_type}
use Rattle.core_form.specs.Scope.{Scope}
use Rattle.closed_type.specs.Nodes.{more}
use Rattle.closed_type.specs.NodeLaws.{more_more}
use Rattle.flat_form.specs.declared.lists.Flat.{Flat}
use Rattle.flat_form.specs.declared.lists.PlanArg.{PlanArg}
use Rattle.flat_form.specs.declared.lists.PlanArg.TheVariants.{Nat, Ty, Out}
use Rattle.flat_form.specs.Stands.{expr_at, args_in, arg_onto, type_at}
use Rattle.flat_form.specs.Sound.{ArgsAreSound, ArgIsSound}
use Rattle.plan_closing.specs.Counted.{counted, counted_args, counted_number, counted_arg}

number_counted : (n : Option ℕ) (count new : ℕ) (rest : Option ClosedArgs) → counted_number count n ≡ Some new
    → counted_args new rest ≡ counted_args count (and_number n rest)
number_counted None count new rest e = cc
number_counted (Some n) count new None e = refl
number_counted (Some n) count new (Some args) e =
    let is : new ≡ more count 1 = cc in ap (λ z. Some z) (more_more count 1 (arg_nodes args) new is)

type_counted : (t : Option Closed) (count new : ℕ) (rest : Option ClosedArgs) → counted count t ≡ Some new
    → counted_args new rest ≡ counted_args count (and_type t rest)
type_counted None count new rest e = cc
type_counted (Some t) count new None e = refl
type_counted (Some t) count new (Some args) e =
    let is : new ≡ more count (nodes t) = cc in ap (λ z. Some z) (more_more count (nodes t) (arg_nodes args) new is)

one_counted : (f : Flat) (scope : Scope) (a : PlanArg) (rest : Args) (count new : ℕ)
    → counted_arg f scope count a ≡ Some new
    → counted_args new (closing_args rest scope) ≡ counted_args count
    (closing_args (arg_onto f (type_at f) a rest) scope)
one_counted f scope (Nat e) rest count new h = number_counted (value (expr_at f e) scope.numbers) count new (closing_args rest scope) h
one_counted f scope (Ty t) rest count new h = type_counted (closing (type_at f t) scope) count new (closing_args rest scope) h
one_counted f scope (Out v) rest count new h =
    let is : count ≡ new = cc in ap (λ z. counted_args z (closing_args rest scope)) (sym is)

pub plan_turn : (f : Flat) (scope : Scope) (all : List PlanArg) (i : ℕ) (here : PlanArg) (count new : ℕ)
    (total : Option ℕ) → i < length all → here ≡ get_or all i here → counted_arg f scope count here ≡ Some new
    → counted_args count (closing_args (args_in f (type_at f) (drop i all)) scope) ≡ total
    → counted_args new (closing_args (args_in f (type_at f) (drop (i + 1) all)) scope) ≡ total
plan_turn f scope all i here count new total lt is one so_far =
    one_counted f scope here (args_in f (type_at f) (drop (i + 1) all)) count new one
    ∙ ap (λ z. counted_args count (closing_args (arg_onto f (type_at f) z (args_in f (type_at f) (drop (i + 1) all))) scope)) is
    ∙ sym (at_drop_more (λ z. counted_args count (closing_args (args_in f (type_at f) z) scope)) all i here lt)
    ∙ so_far

number_refused : (n : Option ℕ) (count : ℕ) (rest : Option ClosedArgs) → counted_number count n ≡ None
    → counted_args count (and_number n rest) ≡ None
number_refused None count rest e = refl
number_refused (Some n) count rest e = cc

type_refused : (t : Option Closed) (count : ℕ) (rest : Option ClosedArgs) → counted count t ≡ None
    → counted_args count (and_type t rest) ≡ None
type_refused None count rest e = refl
type_refused (Some t) count rest e = cc

one_refused : (f : Flat) (scope : Scope) (a : PlanArg) (rest : Args) (count : ℕ) → counted_arg f scope count a ≡ None
    → counted_args count (closing_args (arg_onto f (type_at f) a rest) scope) ≡ None
one_refused f scope (Nat e) rest count h = number_refused (value (expr_at f e) scope.numbers) count (closing_args rest scope) h
one_refused f scope (Ty t) rest count h = type_refused (closing (type_at f t) scope) count (closing_args rest scope) h
one_refused f scope (Out v) rest count h = cc

pub plan_ends : (f : Flat) (scope : Scope) (all : List PlanArg) (i : ℕ) (here : PlanArg) (count : ℕ) (total : Option ℕ)
    → i < length all → here ≡ get_or all i here → counted_arg f scope count here ≡ None
    → counted_args count (closing_args (args_in f (type_at f) (drop i all)) scope) ≡ total → None ≡ total
plan_ends f scope all i here count total lt is one so_far =
    sym (one_refused f scope here (args_in f (type_at f) (drop (i + 1) all)) count one)
    ∙ ap (λ z. counted_args count (closing_args (arg_onto f (type_at f) z (args_in f (type_at f) (drop (i + 1) all))) scope)) is
    ∙ sym (at_drop_more (λ z. counted_args count (closing_args (args_in f (type_at f) z) scope)) all i here lt)
    ∙ so_far

-- the first of what is left is sound, and so is the rest
pub first_sound : (f : Flat) (top : ℕ) (all : List PlanArg) (i : ℕ) (here d : PlanArg) → i < length all
    → here ≡ get_or all i d → ArgsAreSound f top (drop i all)
    → ArgIsSound f top here × ArgsAreSound f top (drop (i + 1) all)
first_sound f top all i here d lt is sound =
    let P : List PlanArg → Type 0 = ArgsAreSound f top in
    let Q : PlanArg → Type 0 = λ z. ArgsAreSound f top (z ∷ drop (i + 1) all) in
    subst Q (sym is) (subst P (at_drop_more (λ z. z) all i d lt) sound)
