-- The values of numbers without variables.
-- Source: the TON documentation on TL-B (arithmetic in types).
use Rattle.std.specs.Prelude.{ℕ, ◌*◌, ◌==◌, List, [], ◌∷◌, Bool, false, Option, Some, None, nat_lt}
use Rattle.nat_solver.specs.Number.{exact_sum}
use Rattle.tlb_syntax.specs.Tree.{ExprView, lit, named, nat32, bits, below, up_to, plus, star, out, ref, group}
use Rattle.kind_terms.specs.declared.words.Family.{Family}
use Rattle.kind_terms.specs.Words.{Word, widest, width_in}

abbrev pub exact_product : Option ℕ → Option ℕ → Option ℕ
exact_product (Some m) (Some n) = Some (m * n)
exact_product (Some m) None = None
exact_product None n = None

-- the value of a number without variables
abbrev pub closed : ExprView → Option ℕ
closed (lit n) = Some n
closed (plus a b) = exact_sum (closed a) (closed b)
closed (star a b) = exact_product (closed a) (closed b)
closed (named x es) = None
closed nat32 = None
closed (bits es) = None
closed (below es) = None
closed (up_to es) = None
closed (out e) = None
closed (ref e) = None
closed (group is) = None

-- the sum of numbers without variables
abbrev pub closed_total : List ExprView → Option ℕ
closed_total [] = Some 0
closed_total (e ∷ es) = exact_sum (closed e) (closed_total es)

abbrev pub exceeds : ℕ → Option ℕ → Bool
exceeds most None = false
exceeds most (Some n) = nat_lt most n

-- a number of value 0 without variables
abbrev pub is_zero : Option ℕ → Bool
is_zero None = false
is_zero (Some n) = n == 0

-- the name is that of the family with a width beyond its greatest
abbrev pub is_wide_in : Word → Family → Bool
is_wide_in x f = exceeds (widest f) (width_in f x)
