-- What the variables of a constructor stand for.
-- Source: the TON documentation on the TL-B language (implicit and explicit fields).
use Rattle.std.specs.Prelude.{ℕ, List, [], ◌∷◌, Option, Some, None, replicate, slice_get, slice_set}
use Rattle.nat_solver.specs.Number.{Expr, Numbers, value}
use Rattle.core_form.specs.Closed.{Closed}

-- the closed types of the variables that are set, each at its slot
abbrev pub Types : Type 0
Types = List (Option Closed)

-- numbers and closed types by slots
pub record Scope : Type 0 where
  pub numbers : Numbers
  pub types : Types

-- nothing is set
abbrev pub unset : ℕ → Scope
unset slots = record { numbers = replicate slots None; types = replicate slots None }

abbrev pub with_number : ℕ → ℕ → Scope → Scope
with_number v n scope = record scope { numbers = slice_set scope.numbers v (Some n) }

abbrev pub with_type : ℕ → Closed → Scope → Scope
with_type v t scope = record scope { types = slice_set scope.types v (Some t) }

abbrev pub set_type : Option (Option Closed) → Option Closed
set_type (Some t) = t
set_type None = None

-- the closed type of a slot, if it is set
abbrev pub type_at : Scope → ℕ → Option Closed
type_at scope v = set_type (slice_get scope.types v)

-- the number of an expression, if it and every part of it is at most 2^32 - 1
abbrev pub value_in : Expr → Scope → Option ℕ
value_in e scope = value e scope.numbers

abbrev pub and_value : Option ℕ → Option (List ℕ) → Option (List ℕ)
and_value (Some n) (Some ns) = Some (n ∷ ns)
and_value (Some n) None = None
and_value None ns = None

-- the numbers of the outputs of a result
abbrev pub values_in : List Expr → Scope → Option (List ℕ)
values_in [] scope = Some []
values_in (e ∷ es) scope = and_value (value_in e scope) (values_in es scope)

-- slots set to the outputs of a field, one by one
abbrev pub bind : List ℕ → List ℕ → Scope → Scope
bind [] outs scope = scope
bind (v ∷ vs) [] scope = scope
bind (v ∷ vs) (n ∷ ns) scope = bind vs ns (with_number v n scope)
