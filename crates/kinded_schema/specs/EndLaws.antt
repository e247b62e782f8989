-- Outputs and implicit fields without a fault.
use Rattle.std.proofs.Common.{◌≡◌, ap, sym, ◌∙◌, refl, List, [], ◌∷◌, ◌++◌, Bool, true, false, not, cond}
use Rattle.std.specs.Prelude.{Option, Some, None}
use Rattle.tlb_syntax.specs.Tree.{ExprView, ExprList, ItemView, ItemList, TypeView, SchemaView, lit, named, nat32, bits}
use Rattle.tlb_syntax.specs.Tree.{below, up_to, plus, star, out, ref, group, no_exprs, an_expr, plain, when, when_bit}
use Rattle.tlb_syntax.specs.Tree.{implicit, check, explicit, no_items, an_item}
use Rattle.kind_terms.specs.Words.{Word, is_among}
use Rattle.kind_terms.specs.Params.{greatest}
use Rattle.kind_terms.specs.Scopes.{made_known}
use Rattle.kind_terms.specs.Positions.{ItemPosition, first_position, next_position, path_at}
use Rattle.field_path.specs.declared.part.Part.{Part}
use Rattle.kind_declarations.specs.declared.error.Cause.TheVariants.{Undetermined}
use Rattle.kind_declarations.specs.Faults.{causes}
use Rattle.kind_declarations.specs.Nodes.{ItemContext, Judged, an_ending, arg_endings, ending_at, expr_endings, expr_nodes}
use Rattle.kind_declarations.specs.Nodes.{expected_number, item_endings, judged, output_nodes, record_endings, type_endings}
use Rattle.kind_rules.specs.Known.{Ending, is_never_known}
use Rattle.kinded_schema.specs.Kinded.{AreExprsKnown, AreKnown, AreOutputs, IsExprKnown, IsFieldKnown, IsItemKnown}
use Rattle.kinded_schema.specs.CleanLaws.{IsClean, clean_first, clean_parts, not_false}
use Rattle.kinded_schema.specs.NumberLaws.{number_clean}

pub outputs_clean : (es : ExprList) (a : ItemContext) → IsClean (output_nodes es a) → AreOutputs es a.scope
outputs_clean no_exprs a h = tt
outputs_clean (an_expr (out e) es) a h =
    let parts = clean_parts (expr_nodes e a expected_number) (output_nodes es a) h in
    (number_clean e a greatest None parts.0, outputs_clean es a parts.1)
outputs_clean (an_expr (lit n) es) a h = outputs_clean es a h
outputs_clean (an_expr (named x fs) es) a h = outputs_clean es a h
outputs_clean (an_expr nat32 es) a h = outputs_clean es a h
outputs_clean (an_expr (bits fs) es) a h = outputs_clean es a h
outputs_clean (an_expr (below fs) es) a h = outputs_clean es a h
outputs_clean (an_expr (up_to fs) es) a h = outputs_clean es a h
outputs_clean (an_expr (plus x y) es) a h = outputs_clean es a h
outputs_clean (an_expr (star x y) es) a h = outputs_clean es a h
outputs_clean (an_expr (ref e) es) a h = outputs_clean es a h
outputs_clean (an_expr (group is) es) a h = outputs_clean es a h

ending_cause : (b : Bool) → cond b (Undetermined ∷ []) [] ≡ [] → b ≡ false
ending_cause true h = cc
ending_cause false h = refl

field_known : (path : List Part) (x : Word) (known : List Word)
    → IsClean (judged path (an_ending (record { name = x; known = known })) ∷ []) → is_among known x ≡ true
field_known path x known h =
    let e : Ending = record { name = x; known = known } in
    not_false (is_among known x) (ending_cause (is_never_known e) (clean_first (judged path (an_ending e)) [] h).0)

mutual
  pub items_known : (is : ItemList) (types : SchemaView) (p : ItemPosition) (known : List Word)
      → IsClean (record_endings is types p known) → AreKnown is types known
  items_known no_items types p known h = tt
  items_known (an_item i is) types p known h =
      let here = clean_parts (ending_at (path_at p i) known i)
      (item_endings i types (path_at p i) ++ record_endings is types (next_position p i) known) h in
      let rest = clean_parts (item_endings i types (path_at p i)) (record_endings is types (next_position p i) known) here.1 in
      (item_known i types (path_at p i) known here.0 rest.0, items_known is types (next_position p i) known rest.1)

  item_known : (i : ItemView) (types : SchemaView) (path : List Part) (known : List Word)
      → IsClean (ending_at path known i) → IsClean (item_endings i types path) → IsItemKnown i types known
  item_known (implicit x k) types path known h inside = field_known path x known h
  item_known (check a op b) types path known h inside = tt
  item_known (explicit x t) types path known h inside = type_known t types path inside

  type_known : (t : TypeView) (types : SchemaView) (path : List Part) → IsClean (type_endings t types path)
      → IsFieldKnown t types
  type_known (plain e) types path h = expr_known e types path h
  type_known (when c e) types path h =
      let both = clean_parts (expr_endings c types path) (expr_endings e types path) h in
      (expr_known c types path both.0, expr_known e types path both.1)
  type_known (when_bit c k e) types path h =
      let both = clean_parts (expr_endings c types path) (expr_endings e types path) h in
      (expr_known c types path both.0, expr_known e types path both.1)

  expr_known : (e : ExprView) (types : SchemaView) (path : List Part) → IsClean (expr_endings e types path)
      → IsExprKnown e types
  expr_known (lit n) types path h = tt
  expr_known (named x es) types path h = exprs_known es types path h
  expr_known nat32 types path h = tt
  expr_known (bits es) types path h = exprs_known es types path h
  expr_known (below es) types path h = exprs_known es types path h
  expr_known (up_to es) types path h = exprs_known es types path h
  expr_known (plus a b) types path h =
      let both = clean_parts (expr_endings a types path) (expr_endings b types path) h in
      (expr_known a types path both.0, expr_known b types path both.1)
  expr_known (star a b) types path h =
      let both = clean_parts (expr_endings a types path) (expr_endings b types path) h in
      (expr_known a types path both.0, expr_known b types path both.1)
  expr_known (out e) types path h = expr_known e types path h
  expr_known (ref e) types path h = expr_known e types path h
  expr_known (group is) types path h = items_known is types (first_position path) (made_known types [] is) h

  exprs_known : (es : ExprList) (types : SchemaView) (path : List Part) → IsClean (arg_endings es types path)
      → AreExprsKnown es types
  exprs_known no_exprs types path h = tt
  exprs_known (an_expr e es) types path h =
      let both = clean_parts (expr_endings e types path) (arg_endings es types path) h in
      (expr_known e types path both.0, exprs_known es types path both.1)
