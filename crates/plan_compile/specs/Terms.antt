-- Numbers, and sides of equations, in one.
use Rattle.std.specs.Prelude.{Bool, true, false, Option}
use Rattle.nat_solver.specs.Number.{Expr}
use Rattle.nat_solver.specs.Number as num
use Rattle.tlb_syntax.specs.Tree.{ExprView, lit, named, nat32, bits, below, up_to, plus, star, out, ref, group}
use Rattle.tlb_syntax.specs.Tree.{no_exprs, an_expr}
use Rattle.kind_terms.specs.Closed.{closed}
use Rattle.kind_terms.specs.Params.{bare_name}
use Rattle.kind_terms.specs.Words.{Word}
use Rattle.schema_core.specs.Names.{Names, number_called}
use Rattle.schema_core.specs.Numbers.{named_number, no_number, product, sought_or_none, variable_or_none}

-- `~` and a name has a meaning on the side of an equation alone
abbrev pub out_of : Bool → Names → Option Word → Expr
out_of true names x = sought_or_none (named_number names x)
out_of false names x = no_number

abbrev pub term_of : Bool → Names → ExprView → Expr
term_of b names (lit n) = num.lit n
term_of b names (named x no_exprs) = variable_or_none (number_called names x)
term_of b names (named x (an_expr e es)) = no_number
term_of b names (plus l r) = num.plus (term_of b names l) (term_of b names r)
term_of b names (star l r) = product (closed l) (closed r) (term_of b names l) (term_of b names r)
term_of b names (out e) = out_of b names (bare_name e)
term_of b names nat32 = no_number
term_of b names (bits es) = no_number
term_of b names (below es) = no_number
term_of b names (up_to es) = no_number
term_of b names (ref e) = no_number
term_of b names (group is) = no_number
