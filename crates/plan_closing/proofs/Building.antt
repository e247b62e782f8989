-- Turns of the loop that makes arguments.
use Rattle.std.proofs.Common.{◌≡◌, ℕ, ◌+◌, ◌<◌, ◌≤◌, List, [], ◌∷◌, ◌++◌, Option, Some, None, refl, ap, sym, ◌∙◌}
use Rattle.std.proofs.Common.{drop, length, get_or}
use Rattle.std.specs.Prelude.{option_to_list}
use Rattle.std.proofs.lemmas.List.{at_drop_more, at_drop_all}
use Rattle.nat_solver.specs.Number.{value}
use Rattle.core_form.specs.Core.{Args}
use Rattle.core_form.specs.Closed.{Closed, ClosedArgs, no_args}
use Rattle.core_form.specs.Closing.{closing, closing_args, and_number, and_type}
use Rattle.core_form.specs.Scope.{Scope}
use Rattle.closed_type.specs.View.{AnArg, number, type, onto, joined}
use Rattle.closed_type.specs.Nodes.{more}
use Rattle.flat_form.specs.declared.lists.Flat.{Flat}
use Rattle.flat_form.specs.declared.lists.PlanArg.{PlanArg}
use Rattle.flat_form.specs.declared.lists.PlanArg.TheVariants.{Nat, Ty, Out}
use Rattle.flat_form.specs.Stands.{expr_at, args_in, arg_onto, type_at}
use Rattle.plan_closing.specs.Counted.{closed_alone}
use Rattle.plan_closing.specs.Counted.{number_alone, type_alone}

abbrev pub onto_all : List AnArg → ClosedArgs → ClosedArgs
onto_all [] rest = rest
onto_all (a ∷ more) rest = onto a (onto_all more rest)

abbrev pub prefixed : List AnArg → Option ClosedArgs → Option ClosedArgs
prefixed xs (Some rest) = Some (onto_all xs rest)
prefixed xs None = None

onto_append : (xs ys : List AnArg) (rest : ClosedArgs) → onto_all (xs ++ ys) rest ≡ onto_all xs (onto_all ys rest)
onto_append [] ys rest = refl
onto_append (x ∷ xs) ys rest = ap (onto x) (onto_append xs ys rest)

prefixed_append : (xs ys : List AnArg) (r : Option ClosedArgs) → prefixed (xs ++ ys) r ≡ prefixed xs (prefixed ys r)
prefixed_append xs ys (Some rest) = ap (λ z. Some z) (onto_append xs ys rest)
prefixed_append xs ys None = refl

number_kept : (n : Option ℕ) (o : Option AnArg) (rest : Option ClosedArgs) → number_alone n ≡ Some o
    → and_number n rest ≡ prefixed (option_to_list o) rest
number_kept None o rest e = cc
number_kept (Some n) o (Some args) e =
    let is : Some (number n) ≡ o = cc in ap (λ z. prefixed (option_to_list z) (Some args)) is
number_kept (Some n) o None e = refl

type_kept : (t : Option Closed) (o : Option AnArg) (rest : Option ClosedArgs) → type_alone t ≡ Some o
    → and_type t rest ≡ prefixed (option_to_list o) rest
type_kept None o rest e = cc
type_kept (Some t) o (Some args) e =
    let is : Some (type t) ≡ o = cc in ap (λ z. prefixed (option_to_list z) (Some args)) is
type_kept (Some t) o None e = refl

prefixed_none : (r : Option ClosedArgs) → prefixed [] r ≡ r
prefixed_none (Some rest) = refl
prefixed_none None = refl

one_kept : (f : Flat) (scope : Scope) (a : PlanArg) (rest : Args) (o : Option AnArg) → closed_alone f scope a ≡ Some o
    → closing_args (arg_onto f (type_at f) a rest) scope ≡ prefixed (option_to_list o) (closing_args rest scope)
one_kept f scope (Nat e) rest o h = number_kept (value (expr_at f e) scope.numbers) o (closing_args rest scope) h
one_kept f scope (Ty t) rest o h = type_kept (closing (type_at f t) scope) o (closing_args rest scope) h
one_kept f scope (Out v) rest o h =
    let is : None ≡ o = cc in sym (prefixed_none (closing_args rest scope)) ∙ ap (λ z. prefixed (option_to_list z) (closing_args rest scope)) is

pub build_turn : (f : Flat) (scope : Scope) (all : List PlanArg) (i : ℕ) (here d : PlanArg) (before new : List AnArg)
    (o : Option AnArg) (total : Option ClosedArgs) → i < length all → here ≡ get_or all i d
    → closed_alone f scope here ≡ Some o → new ≡ before ++ option_to_list o
    → prefixed before (closing_args (args_in f (type_at f) (drop i all)) scope) ≡ total
    → prefixed new (closing_args (args_in f (type_at f) (drop (i + 1) all)) scope) ≡ total
build_turn f scope all i here d before new o total lt is one kept so_far =
    ap (λ z. prefixed z (closing_args (args_in f (type_at f) (drop (i + 1) all)) scope)) kept
    ∙ prefixed_append before (option_to_list o) (closing_args (args_in f (type_at f) (drop (i + 1) all)) scope)
    ∙ ap (prefixed before) (sym (one_kept f scope here (args_in f (type_at f) (drop (i + 1) all)) o one))
    ∙ ap (λ z. prefixed before (closing_args (arg_onto f (type_at f) z (args_in f (type_at f) (drop (i + 1) all))) scope)) is
    ∙ sym (at_drop_more (λ z. prefixed before (closing_args (args_in f (type_at f) z) scope)) all i d lt)
    ∙ so_far

number_lacks : (n : Option ℕ) (rest : Option ClosedArgs) → number_alone n ≡ None → and_number n rest ≡ None
number_lacks None rest e = refl
number_lacks (Some n) rest e = cc

type_lacks : (t : Option Closed) (rest : Option ClosedArgs) → type_alone t ≡ None → and_type t rest ≡ None
type_lacks None rest e = refl
type_lacks (Some t) rest e = cc

one_lacks : (f : Flat) (scope : Scope) (a : PlanArg) (rest : Args) → closed_alone f scope a ≡ None
    → closing_args (arg_onto f (type_at f) a rest) scope ≡ None
one_lacks f scope (Nat e) rest h = number_lacks (value (expr_at f e) scope.numbers) (closing_args rest scope) h
one_lacks f scope (Ty t) rest h = type_lacks (closing (type_at f t) scope) (closing_args rest scope) h
one_lacks f scope (Out v) rest h = cc

pub build_ends : (f : Flat) (scope : Scope) (all : List PlanArg) (i : ℕ) (here d : PlanArg) (before : List AnArg)
    (total : Option ClosedArgs) → i < length all → here ≡ get_or all i d
    → closed_alone f scope here ≡ None
    → prefixed before (closing_args (args_in f (type_at f) (drop i all)) scope) ≡ total → total ≡ None
build_ends f scope all i here d before total lt is one so_far =
    sym so_far
    ∙ at_drop_more (λ z. prefixed before (closing_args (args_in f (type_at f) z) scope)) all i d lt
    ∙ sym (ap (λ z. prefixed before (closing_args (arg_onto f (type_at f) z (args_in f (type_at f) (drop (i + 1) all))) scope)) is)
    ∙ ap (prefixed before) (one_lacks f scope here (args_in f (type_at f) (drop (i + 1) all)) one)

onto_joined : (xs : List AnArg) → onto_all xs no_args ≡ joined xs
onto_joined [] = refl
onto_joined (x ∷ xs) = ap (onto x) (onto_joined xs)

pub build_done : (f : Flat) (scope : Scope) (all : List PlanArg) (i : ℕ) (before : List AnArg)
    (total : Option ClosedArgs) → length all ≤ i
    → prefixed before (closing_args (args_in f (type_at f) (drop i all)) scope) ≡ total → total ≡ Some (joined before)
build_done f scope all i before total over so_far =
    sym so_far
    ∙ at_drop_all (λ z. prefixed before (closing_args (args_in f (type_at f) z) scope)) all i over
    ∙ ap (λ z. Some z) (onto_joined before)
