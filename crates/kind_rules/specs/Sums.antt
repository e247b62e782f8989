-- Sums without variables that are too large.
use Rattle.std.specs.Prelude.{ℕ, ◌||◌, List, [], ◌∷◌, Bool, Option}
use Rattle.nat_solver.specs.Number.{exact_sum}
use Rattle.tlb_syntax.specs.Tree.{ExprView}
use Rattle.kind_terms.specs.Closed.{closed, exceeds}
use Rattle.kind_terms.specs.Params.{greatest}

-- a total, if it has no variables, and further terms exceed `most`, or it and fewer of them the greatest number
abbrev pub is_past_total : ℕ → Option ℕ → List ExprView → Bool
is_past_total most total [] = exceeds most total
is_past_total most total (u ∷ us) = exceeds greatest total || is_past_total most (exact_sum total (closed u)) us

-- the sum of these terms exceeds `most`, or the sum of the first of them, two or more, the greatest number
abbrev pub is_sum_past : ℕ → ExprView → ExprView → List ExprView → Bool
is_sum_past most t u us = is_past_total most (exact_sum (closed t) (closed u)) us
