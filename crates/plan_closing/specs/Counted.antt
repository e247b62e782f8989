-- Counts of the nodes of closed types, and their arguments one by one.
use Rattle.std.specs.Prelude.{ℕ, List, map, Option, Some, None, option_map}
use Rattle.nat_solver.specs.Number.{Numbers, value}
use Rattle.core_form.specs.Closed.{Closed, ClosedArgs, nodes, arg_nodes}
use Rattle.core_form.specs.Closing.{closing}
use Rattle.core_form.specs.Scope.{Scope}
use Rattle.closed_type.specs.Nodes.{more}
use Rattle.closed_type.specs.View.{AnArg, number, type, closed_type}
use Rattle.closed_type.specs.declared.tree.ClosedType.{ClosedType}
use Rattle.flat_form.specs.Stands.{expr_at, type_at}
use Rattle.flat_form.specs.declared.lists.Flat.{Flat}
use Rattle.flat_form.specs.declared.lists.PlanArg.{PlanArg}
use Rattle.flat_form.specs.declared.lists.PlanArg.TheVariants.{Nat, Ty, Out}

-- the numbers and the closed types of these slots
abbrev pub scope_of : Numbers → List (Option ClosedType) → Scope
scope_of numbers types = record { numbers = numbers; types = map (option_map closed_type) types }

-- ---- counts, where there is a closed type

abbrev pub counted : ℕ → Option Closed → Option ℕ
counted count (Some t) = Some (more count (nodes t))
counted count None = None

abbrev pub counted_args : ℕ → Option ClosedArgs → Option ℕ
counted_args count (Some args) = Some (more count (arg_nodes args))
counted_args count None = None

abbrev pub counted_number : ℕ → Option ℕ → Option ℕ
counted_number count (Some n) = Some (more count 1)
counted_number count None = None

abbrev pub counted_arg : Flat → Scope → ℕ → PlanArg → Option ℕ
counted_arg f scope count (Nat e) = counted_number count (value (expr_at f e) scope.numbers)
counted_arg f scope count (Ty t) = counted count (closing (type_at f t) scope)
counted_arg f scope count (Out v) = Some count

-- ---- an argument alone; of an output none is kept

abbrev pub number_alone : Option ℕ → Option (Option AnArg)
number_alone (Some n) = Some (Some (number n))
number_alone None = None

abbrev pub type_alone : Option Closed → Option (Option AnArg)
type_alone (Some t) = Some (Some (type t))
type_alone None = None

abbrev pub closed_alone : Flat → Scope → PlanArg → Option (Option AnArg)
closed_alone f scope (Nat e) = number_alone (value (expr_at f e) scope.numbers)
closed_alone f scope (Ty t) = type_alone (closing (type_at f t) scope)
closed_alone f scope (Out v) = Some None
