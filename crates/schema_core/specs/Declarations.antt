-- Declarations for examples.
use Rattle.std.specs.Prelude.{ℕ, false, List, Option}
use Rattle.tlb_syntax.specs.Tree.{ExprList, ItemList, TagView, ConstructorView}

abbrev pub declaration : Option (List ℕ) → TagView → ItemList → List ℕ → ExprList → ConstructorView
declaration name tag items result params = record {
  exotic = false;
  name = name;
  tag = tag;
  items = items;
  result = result;
  params = params;
}
