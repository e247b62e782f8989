-- Numbers of a schema, with slots for names.
-- Source: the TON documentation on the TL-B language (naturals in types, `{a = b}` and `~`).
use Rattle.std.specs.Prelude.{ℕ, List, [], ◌∷◌, ◌++◌, Option, Some, None, if◌then◌else◌}
use Rattle.nat_solver.specs.declared.compare.Op.{Op}
use Rattle.nat_solver.specs.declared.compare.Op.TheVariants.{Eq, Lt, Le, Gt, Ge}
use Rattle.nat_solver.specs.Number.{Expr}
use Rattle.nat_solver.specs.Number as num
use Rattle.tlb_syntax.specs.Tree.{ExprView, ExprList, lit, named, nat32, bits, below, up_to, plus, star, out, ref}
use Rattle.tlb_syntax.specs.Tree.{group}
use Rattle.tlb_syntax.specs.Tree.{no_exprs, an_expr}
use Rattle.kind_terms.specs.Words.{Word}
use Rattle.kind_terms.specs.Closed.{closed}
use Rattle.kind_terms.specs.Params.{bare_name}
use Rattle.core_form.specs.Core.{no_slot}
use Rattle.schema_core.specs.Names.{Names, number_called}

-- what has no meaning as a number: it has no value
abbrev pub no_number : Expr
no_number = num.var no_slot

-- a product of a number without variables and another number
abbrev pub product : Option ℕ → Option ℕ → Expr → Expr → Expr
product (Some k) n a b = num.times k b
product None (Some k) a b = num.times k a
product None None a b = no_number

abbrev pub variable_or_none : Option ℕ → Expr
variable_or_none (Some v) = num.var v
variable_or_none None = no_number

abbrev pub sought_or_none : Option ℕ → Expr
sought_or_none (Some v) = num.sought v
sought_or_none None = no_number

abbrev pub named_number : Names → Option Word → Option ℕ
named_number names None = None
named_number names (Some x) = number_called names x

-- a number where no unknown may stand: `~` has no meaning there
abbrev pub number_of : Names → ExprView → Expr
number_of names (lit n) = num.lit n
number_of names (named x no_exprs) = variable_or_none (number_called names x)
number_of names (named x (an_expr e es)) = no_number
number_of names (plus a b) = num.plus (number_of names a) (number_of names b)
number_of names (star a b) = product (closed a) (closed b) (number_of names a) (number_of names b)
number_of names (out e) = no_number
number_of names nat32 = no_number
number_of names (bits es) = no_number
number_of names (below es) = no_number
number_of names (up_to es) = no_number
number_of names (ref e) = no_number
number_of names (group is) = no_number

-- a side of an equation with an unknown: `~x` is the unknown x
abbrev pub side_of : Names → ExprView → Expr
side_of names (out e) = sought_or_none (named_number names (bare_name e))
side_of names (lit n) = num.lit n
side_of names (named x no_exprs) = variable_or_none (number_called names x)
side_of names (named x (an_expr e es)) = no_number
side_of names (plus a b) = num.plus (side_of names a) (side_of names b)
side_of names (star a b) = product (closed a) (closed b) (side_of names a) (side_of names b)
side_of names nat32 = no_number
side_of names (bits es) = no_number
side_of names (below es) = no_number
side_of names (up_to es) = no_number
side_of names (ref e) = no_number
side_of names (group is) = no_number

-- ---- the unknown of an equation

abbrev pub only_one : List ℕ → Option ℕ
only_one [] = None
only_one (v ∷ []) = Some v
only_one (v ∷ w ∷ vs) = None

-- the unknown of two sides, where there is one, which stands there once and not under a factor 0
abbrev pub unknown_of : Expr → Expr → Option ℕ
unknown_of left right =
    if num.is_empty (num.cancelled left ++ num.cancelled right) then only_one (num.unknowns left ++ num.unknowns right)
    else None

-- of a constraint, which has one where it is an equation
abbrev pub unknown_by : Op → Expr → Expr → Option ℕ
unknown_by Eq left right = unknown_of left right
unknown_by Lt left right = None
unknown_by Le left right = None
unknown_by Gt left right = None
unknown_by Ge left right = None

-- ---- arguments

-- the number of a basic type
abbrev pub first_number : Names → ExprList → Expr
first_number names no_exprs = no_number
first_number names (an_expr e es) = number_of names e
