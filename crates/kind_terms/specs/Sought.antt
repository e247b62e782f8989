-- The unknown of an equation.
-- Source: the TON documentation on TL-B (constraints), and this project's rules.
use Rattle.std.specs.Prelude.{ℕ, ◌&&◌, ◌||◌, not, ◌==◌, List, [], ◌∷◌, ◌++◌, filter, Bool, false, Option, Some}
use Rattle.std.specs.Prelude.{None, count_by, bytes_eq, if◌then◌else◌}
use Rattle.std.specs.List.{list_any}
use Rattle.nat_solver.specs.declared.compare.Op.{Op}
use Rattle.nat_solver.specs.declared.compare.Op.TheVariants.{Eq, Lt, Le, Gt, Ge}
use Rattle.tlb_syntax.specs.Tree.{ExprView, lit, named, nat32, bits, below, up_to, plus, star, out, ref, group}
use Rattle.kind_terms.specs.Words.{Word}
use Rattle.kind_terms.specs.Params.{bare_name}
use Rattle.kind_terms.specs.Forms.{parts, is_out, out_name}
use Rattle.kind_terms.specs.Closed.{closed, is_zero}

-- the two sides of an equation
pub record Sides : Type 0 where
  pub left : ExprView
  pub right : ExprView

abbrev pub sides : ExprView → ExprView → Sides
sides a b = record { left = a; right = b }

abbrev pub all_parts : Sides → List ExprView
all_parts q = parts q.left ++ parts q.right

-- a constraint that is an equation
abbrev pub equation : ExprView → Op → ExprView → Option Sides
equation a Eq b = Some (sides a b)
equation a Lt b = None
equation a Le b = None
equation a Gt b = None
equation a Ge b = None

abbrev pub only_out_name : List ExprView → Option Word
only_out_name [] = None
only_out_name (e ∷ []) = out_name e
only_out_name (e ∷ f ∷ es) = None

-- the x of the one `~` of the equation, if that is `~x`
abbrev pub unknown_of : Sides → Option Word
unknown_of q = only_out_name (filter is_out (all_parts q))

abbrev pub holds_out : ExprView → Bool
holds_out e = list_any is_out (parts e)

-- a product of which one factor is 0 and a `~` stands in the other
abbrev pub cancels : ExprView → Bool
cancels (star a b) = (is_zero (closed a) && holds_out b) || (is_zero (closed b) && holds_out a)
cancels (lit n) = false
cancels (named x es) = false
cancels nat32 = false
cancels (bits es) = false
cancels (below es) = false
cancels (up_to es) = false
cancels (plus a b) = false
cancels (out e) = false
cancels (ref e) = false
cancels (group is) = false

abbrev pub is_named : Word → Option Word → Bool
is_named x None = false
is_named x (Some y) = bytes_eq y x

-- how often a name stands among expressions
abbrev pub uses : Word → List ExprView → ℕ
uses x es = count_by (λ p. is_named x (bare_name p)) es

-- how often a name stands in the equation
abbrev pub occurrences : Sides → Word → ℕ
occurrences q x = uses x (all_parts q)

-- x occurs once, and not under a factor 0
abbrev pub can_be_sought : Sides → Word → Bool
can_be_sought q x = occurrences q x == 1 && not (list_any cancels (all_parts q))

abbrev pub sought_if : Sides → Option Word → Option Word
sought_if q None = None
sought_if q (Some x) = if can_be_sought q x then Some x else None

-- The variable that an equation seeks: the x of its one `~`, where x occurs once and not under a factor 0.
abbrev pub sought_in : Option Sides → Option Word
sought_in None = None
sought_in (Some q) = sought_if q (unknown_of q)

abbrev pub sought : ExprView → Op → ExprView → Option Word
sought a op b = sought_in (equation a op b)
