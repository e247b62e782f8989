-- The trees that the program's values stand for.
use Rattle.std.specs.Prelude.{List, map}
use Rattle.tlb_syntax.specs.declared.tree.Expr.{Expr, fold-Expr}
use Rattle.tlb_syntax.specs.declared.tree.Expr.TheOpen.{Expr-F, Item-F, FieldType-F, Lit, Named, Nat32, Bits, Below}
use Rattle.tlb_syntax.specs.declared.tree.Expr.TheOpen.{UpTo, Sum, Star, Out, Ref, Group, Implicit, Check, Explicit}
use Rattle.tlb_syntax.specs.declared.tree.Expr.TheOpen.{Plain, If, IfBit}
use Rattle.tlb_syntax.specs.declared.tree.Expr.TheFolds.{fold-Item, fold-FieldType}
use Rattle.tlb_syntax.specs.declared.tree.Item.{Item}
use Rattle.tlb_syntax.specs.declared.tree.FieldType.{FieldType}
use Rattle.tlb_syntax.specs.declared.tree.Tag.{Tag}
use Rattle.tlb_syntax.specs.declared.tree.Tag.TheVariants.{Computed, Given}
use Rattle.tlb_syntax.specs.declared.tree.Constructor.{Constructor}
use Rattle.tlb_syntax.specs.declared.tree.Schema.{Schema}
use Rattle.tlb_syntax.specs.Tree.{ExprView, ExprList, ItemView, ItemList, TypeView, TagView, ConstructorView}
use Rattle.tlb_syntax.specs.Tree.{SchemaView, lit, named, nat32, bits, below, up_to, star, out, ref, group, plain, when}
use Rattle.tlb_syntax.specs.Tree.{when_bit, implicit, check, explicit, computed, given, exprs_of, items_of, sum_of}

abbrev pub expr_step : Expr-F ExprView TypeView ItemView → ExprView
expr_step (Lit n) = lit n
expr_step (Named x es) = named x (exprs_of es)
expr_step Nat32 = nat32
expr_step (Bits es) = bits (exprs_of es)
expr_step (Below es) = below (exprs_of es)
expr_step (UpTo es) = up_to (exprs_of es)
expr_step (Sum a b es) = sum_of a b es
expr_step (Star a b) = star a b
expr_step (Out a) = out a
expr_step (Ref a) = ref a
expr_step (Group is) = group (items_of is)

abbrev pub type_step : FieldType-F ExprView TypeView ItemView → TypeView
type_step (Plain e) = plain e
type_step (If c e) = when c e
type_step (IfBit c k e) = when_bit c k e

abbrev pub item_step : Item-F ExprView TypeView ItemView → ItemView
item_step (Implicit x k) = implicit x k
item_step (Check a op b) = check a op b
item_step (Explicit x t) = explicit x t

abbrev pub expr : Expr → ExprView
expr = fold-Expr ExprView TypeView ItemView expr_step type_step item_step

abbrev pub field_type : FieldType → TypeView
field_type = fold-FieldType ExprView TypeView ItemView expr_step type_step item_step

abbrev pub item : Item → ItemView
item = fold-Item ExprView TypeView ItemView expr_step type_step item_step

abbrev pub exprs : List Expr → ExprList
exprs es = exprs_of (map expr es)

abbrev pub items : List Item → ItemList
items is = items_of (map item is)

abbrev pub tag : Tag → TagView
tag Computed = computed
tag (Given b) = given b

abbrev pub constructor : Constructor → ConstructorView
constructor c = record {
  exotic = c.exotic;
  name = c.name;
  tag = tag c.tag;
  items = items c.items;
  result =
      c.result;
  params = exprs c.params;
}

abbrev pub schema : Schema → SchemaView
schema s = map constructor s.constructors
