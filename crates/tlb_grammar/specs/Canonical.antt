-- Canonical texts that write their constructors: how many levels they open, and which trees they are of.
use Rattle.std.specs.Prelude.{ℕ, suc, List, max, if◌then◌else◌}
use Rattle.std.specs.List.{Contains}
use Rattle.tlb_syntax.specs.Tree.{ExprView, ExprList, ItemView, ItemList, TypeView, ConstructorView, SchemaView, lit}
use Rattle.tlb_syntax.specs.Tree.{named, nat32, bits, below, up_to, plus, star, out, ref, group, no_exprs, an_expr}
use Rattle.tlb_syntax.specs.Tree.{plain, when, when_bit, implicit, check, explicit, no_items, an_item}
use Rattle.tlb_syntax.specs.Text.{are_none}
use Rattle.tlb_syntax.specs.Written.{Writes}

-- how many levels the canonical text of a tree opens: each `(`, `[`, `^` and `~` opens one
abbrev mutual
  pub expr_levels : ExprView → ℕ
  expr_levels (lit n) = 0
  expr_levels (named x es) = if are_none es then 0 else suc (exprs_levels es)
  expr_levels nat32 = 0
  expr_levels (bits es) = suc (exprs_levels es)
  expr_levels (below es) = suc (exprs_levels es)
  expr_levels (up_to es) = suc (exprs_levels es)
  expr_levels (plus a b) = suc (max (expr_levels a) (expr_levels b))
  expr_levels (star a b) = suc (max (expr_levels a) (expr_levels b))
  expr_levels (out e) = suc (expr_levels e)
  expr_levels (ref e) = suc (expr_levels e)
  expr_levels (group is) = suc (items_levels is)

  pub exprs_levels : ExprList → ℕ
  exprs_levels no_exprs = 0
  exprs_levels (an_expr e es) = max (expr_levels e) (exprs_levels es)

  pub type_levels : TypeView → ℕ
  type_levels (plain e) = expr_levels e
  type_levels (when c e) = max (expr_levels c) (expr_levels e)
  type_levels (when_bit c k e) = max (expr_levels c) (expr_levels e)

  pub item_levels : ItemView → ℕ
  item_levels (implicit x k) = 0
  item_levels (check a op b) = max (expr_levels a) (expr_levels b)
  item_levels (explicit x t) = type_levels t

  pub items_levels : ItemList → ℕ
  items_levels no_items = 0
  items_levels (an_item i is) = max (item_levels i) (items_levels is)

abbrev pub constructor_levels : ConstructorView → ℕ
constructor_levels c = max (items_levels c.items) (exprs_levels c.params)

-- the constructor is one of a schema that some text writes
pub record IsWritten (c : ConstructorView) : Type 0 where
  pub text : List ℕ
  pub schema : SchemaView
  pub writes : Writes text schema
  pub among : Contains schema c
