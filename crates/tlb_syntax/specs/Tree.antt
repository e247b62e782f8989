-- The syntax tree of a schema as data: expressions, items, declarations.
-- Source: the TON documentation on the TL-B language.
use Rattle.std.specs.Prelude.{ℕ, Bool, List, [], ◌∷◌, Option}
use Rattle.nat_solver.specs.declared.compare.Op.{Op}
use Rattle.tlb_syntax.specs.declared.tree.ParamKind.{ParamKind}

mutual
  -- a type or a number
  pub data ExprView : Type 0 where
    lit : ℕ → ExprView
    -- a name and its arguments
    named : List ℕ → ExprList → ExprView
    -- #
    nat32 : ExprView
    -- ##, #< and #<= with their arguments
    bits : ExprList → ExprView
    below : ExprList → ExprView
    up_to : ExprList → ExprView
    plus : ExprView → ExprView → ExprView
    star : ExprView → ExprView → ExprView
    -- ~ and its operand
    out : ExprView → ExprView
    -- ^ and its operand
    ref : ExprView → ExprView
    -- a record in brackets
    group : ItemList → ExprView

  pub data ExprList : Type 0 where
    no_exprs : ExprList
    an_expr : ExprView → ExprList → ExprList

  -- the type of an explicit field: alone, after a condition, or after a tested bit
  pub data TypeView : Type 0 where
    plain : ExprView → TypeView
    when : ExprView → ExprView → TypeView
    when_bit : ExprView → ℕ → ExprView → TypeView

  -- an implicit field, a constraint, or an explicit field with its name unless that is `_`
  pub data ItemView : Type 0 where
    implicit : List ℕ → ParamKind → ItemView
    check : ExprView → Op → ExprView → ItemView
    explicit : Option (List ℕ) → TypeView → ItemView

  pub data ItemList : Type 0 where
    no_items : ItemList
    an_item : ItemView → ItemList → ItemList

-- the tag of a constructor: none is written, or these bits
pub data TagView : Type 0 where
  computed : TagView
  given : List ℕ → TagView

-- a declaration; a constructor without a name is `_`
pub record ConstructorView : Type 0 where
  -- whether it is of exotic cells
  pub exotic : Bool
  pub name : Option (List ℕ)
  pub tag : TagView
  pub items : ItemList
  pub result : List ℕ
  pub params : ExprList

abbrev pub SchemaView : Type 0
SchemaView = List ConstructorView

abbrev pub exprs_of : List ExprView → ExprList
exprs_of [] = no_exprs
exprs_of (e ∷ es) = an_expr e (exprs_of es)

abbrev pub items_of : List ItemView → ItemList
items_of [] = no_items
items_of (i ∷ is) = an_item i (items_of is)

-- a sum of a term and further terms, nested to the left: ((t + u) + v) + ..
abbrev pub nested : ExprView → List ExprView → ExprView
nested t [] = t
nested t (u ∷ us) = nested (plus t u) us

-- the sum of two terms and further ones
abbrev pub sum_of : ExprView → ExprView → List ExprView → ExprView
sum_of t u us = nested (plus t u) us
