-- Counts of nodes that stop at one past the most that a closed type may have.
use Rattle.std.specs.Prelude.{ℕ, ◌+◌, min}
use Rattle.core_form.specs.Closed.{nodes}
use Rattle.closed_type.specs.View.{AnArg, number, type}

abbrev pub more : ℕ → ℕ → ℕ
more count n = min (count + n) 4097

-- the nodes of an argument
abbrev pub an_arg_nodes : AnArg → ℕ
an_arg_nodes (number n) = 1
an_arg_nodes (type t) = nodes t
