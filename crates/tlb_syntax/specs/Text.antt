-- The canonical texts of expressions, items and constructors.
-- Source: the TON documentation on the TL-B language; the choice of one text for a tree is this project's own.
use Rattle.std.specs.Prelude.{ℕ, ◌+◌, List, [], ◌∷◌, ◌++◌, map, Option, Some, None, Bool, true, false, codes, decimal}
use Rattle.std.specs.Prelude.{if◌then◌else◌}
use Rattle.nat_solver.specs.declared.compare.Op.{Op}
use Rattle.nat_solver.specs.declared.compare.Op.TheVariants.{Eq, Lt, Le, Gt, Ge}
use Rattle.tlb_syntax.specs.declared.tree.ParamKind.{ParamKind}
use Rattle.tlb_syntax.specs.declared.tree.ParamKind.TheVariants.{Nat, Ty}
use Rattle.tlb_syntax.specs.Tree.{ExprView, ExprList, ItemView, ItemList, TypeView, TagView, ConstructorView, lit}
use Rattle.tlb_syntax.specs.Tree.{named, nat32, bits, below, up_to, plus, star, out, ref, group, no_exprs, an_expr}
use Rattle.tlb_syntax.specs.Tree.{plain, when, when_bit, implicit, check, explicit, no_items, an_item, computed, given}

-- a name, or `_`
abbrev pub name_text : Option (List ℕ) → List ℕ
name_text (Some x) = x
name_text None = codes "_"

abbrev pub kind_text : ParamKind → List ℕ
kind_text Nat = codes "#"
kind_text Ty = codes "Type"

abbrev pub op_text : Op → List ℕ
op_text Eq = codes "="
op_text Lt = codes "<"
op_text Le = codes "<="
op_text Gt = codes ">"
op_text Ge = codes ">="

-- `$` and a digit for each bit, or `$_`; nothing where no tag is written
abbrev pub tag_text : TagView → List ℕ
tag_text computed = []
tag_text (given []) = codes "$_"
tag_text (given (b ∷ bs)) = codes "$" ++ map (λ d. 48 + d) (b ∷ bs)

abbrev pub are_none : ExprList → Bool
are_none no_exprs = true
are_none (an_expr e es) = false

abbrev mutual
  pub expr_text : ExprView → List ℕ
  expr_text (lit n) = decimal n
  expr_text (named x es) = if are_none es then x else codes "(" ++ x ++ spaced es ++ codes ")"
  expr_text nat32 = codes "#"
  expr_text (bits es) = codes "(" ++ codes "##" ++ spaced es ++ codes ")"
  expr_text (below es) = codes "(" ++ codes "#<" ++ spaced es ++ codes ")"
  expr_text (up_to es) = codes "(" ++ codes "#<=" ++ spaced es ++ codes ")"
  expr_text (plus a b) = codes "(" ++ expr_text a ++ codes " + " ++ expr_text b ++ codes ")"
  expr_text (star a b) = codes "(" ++ expr_text a ++ codes " * " ++ expr_text b ++ codes ")"
  expr_text (out e) = codes "~" ++ expr_text e
  expr_text (ref e) = codes "^" ++ expr_text e
  expr_text (group is) = codes "[" ++ spaced_items is ++ codes " ]"

  -- each after a space
  pub spaced : ExprList → List ℕ
  spaced no_exprs = []
  spaced (an_expr e es) = codes " " ++ expr_text e ++ spaced es

  pub type_text : TypeView → List ℕ
  type_text (plain e) = expr_text e
  type_text (when c e) = expr_text c ++ codes "?" ++ expr_text e
  type_text (when_bit c k e) = expr_text c ++ codes "." ++ decimal k ++ codes "?" ++ expr_text e

  pub item_text : ItemView → List ℕ
  item_text (implicit x k) = codes "{" ++ x ++ codes ":" ++ kind_text k ++ codes "}"
  item_text (check a op b) = codes "{" ++ expr_text a ++ codes " " ++ op_text op ++ codes " " ++ expr_text b
      ++ codes "}"
  item_text (explicit x t) = name_text x ++ codes ":" ++ type_text t

  -- each after a space
  pub spaced_items : ItemList → List ℕ
  spaced_items no_items = []
  spaced_items (an_item i is) = codes " " ++ item_text i ++ spaced_items is

-- a further term of a sum, which closes a parenthesis
abbrev pub addend_text : ExprView → List ℕ
addend_text t = codes " + " ++ expr_text t ++ codes ")"

abbrev pub addends_text : List ExprView → List ℕ
addends_text [] = []
addends_text (t ∷ ts) = addend_text t ++ addends_text ts

-- `!` before a declaration of exotic cells
abbrev pub exotic_text : Bool → List ℕ
exotic_text true = codes "!"
exotic_text false = []

abbrev pub constructor_text : ConstructorView → List ℕ
constructor_text c = exotic_text c.exotic ++ name_text c.name ++ tag_text c.tag ++ spaced_items c.items
    ++ codes " = " ++ c.result ++ spaced c.params
