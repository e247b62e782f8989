-- The expression that a `NatExpr` stands for.
use Rattle.std.specs.Prelude.{List, map}
use Rattle.nat_solver.specs.declared.expr.NatExpr.{NatExpr, fold-NatExpr}
use Rattle.nat_solver.specs.declared.expr.NatExpr.TheOpen.{NatExpr-F, Lit, Var, Sought, Sum, Times}
use Rattle.nat_solver.specs.Number.{Expr, lit, var, sought, times, sum_of}

abbrev pub expr_step : NatExpr-F Expr → Expr
expr_step (Lit n) = lit n
expr_step (Var v) = var v
expr_step (Sought v) = sought v
expr_step (Sum ts) = sum_of ts
expr_step (Times k a) = times k a

abbrev pub expr : NatExpr → Expr
expr = fold-NatExpr Expr expr_step

abbrev pub exprs : List NatExpr → List Expr
exprs = map expr
