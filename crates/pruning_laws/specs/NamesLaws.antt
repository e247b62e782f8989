-- Where a schema names the fields of each record apart, so does each laid value.
use Rattle.std.proofs.Common.{ℕ, Bool, true, false, cond, List, Option, Some, None, Result, Ok, Err, sym, subst}
use Rattle.cell_nodes.specs.declared.tree.Tree.{Tree}
use Rattle.hashmap_tree.specs.Entries.{Slice}
use Rattle.cell_nodes.specs.declared.tree.Mode.TheVariants.{Whole}
use Rattle.core_form.specs.Core.{Ty, Items, Condition, CoreSchema, check, solve, field, no_items, an_item}
use Rattle.core_form.specs.Core.{field_names, sets}
use Rattle.core_form.specs.Core as core
use Rattle.core_form.specs.Closed.{Closed}
use Rattle.core_form.specs.Closed as closed
use Rattle.core_form.specs.Closing.{Refusal, close}
use Rattle.core_form.specs.Scope.{Scope, with_number, value_in, bind}
use Rattle.spelling.specs.Slices.{nothing, only_ref}
use Rattle.spelling.specs.Goals.{Goal, at_type, at_field, at_cell, Shape, typed, fields_here, fields_under, left_out}
use Rattle.spelling.specs.Goals.{as_cell, at_fields, under_ref, typed_or, laid, in_table, in_width, judged, passes}
use Rattle.spelling.specs.Goals.{tested, shape_of}
use Rattle.spelling.specs.Spells.{Repeats, Fields, Holds}
use Rattle.spelling.specs.declared.Cause.{Cause}
use Rattle.spelling.specs.declared.Cause.TheVariants.{Width}
use Rattle.pruning.specs.Laid.{Laid, number, bit_string, record_of, absent, list_of, ref_to, ref_to_raw, no_map}
use Rattle.pruning.specs.Laid.{map_under, map_here, rest, Laids, no_laids, a_laid, LaidEdge, a_leaf, a_fork}
use Rattle.pruning.specs.SpellsLaid.{SpellsLaidShape, SpellsLaid, EachLaid, SpellsEdge, LaidRoot, as_it_is, IsLaidRoot}
use Rattle.pruning.specs.SpellsLaid.{laid as laid_root}
use Rattle.pruning.specs.Names.{AreApart, AreApartIn, NamesFieldsApart}
use Rattle.pruning_laws.specs.PlaceLaws.{NamesApart, FieldsApart, ItemsApart, EdgeApart}
use Rattle.pruning_laws.specs.BlankedLaws.{RootApart}

-- ---- goals and shapes

abbrev GoalApart : Goal → Type 0
GoalApart (at_type t) = Unit {0}
GoalApart (at_field e t scope) = AreApartIn t
GoalApart at_cell = Unit {0}

abbrev ShapeApart : Shape → Type 0
ShapeApart (typed t) = Unit {0}
ShapeApart (fields_here is scope) = AreApart is
ShapeApart (fields_under is scope) = AreApart is
ShapeApart left_out = Unit {0}
ShapeApart as_cell = Unit {0}

abbrev OkApart : Result Shape Cause → Type 0
OkApart (Ok c) = ShapeApart c
OkApart (Err why) = Unit {0}

apart_typed : (r : Result Closed Refusal) → OkApart (typed_or r)
apart_typed (Ok t) = tt
apart_typed (Err why) = tt

apart_laid : (t : Ty) (scope : Scope) → AreApartIn t → OkApart (laid t scope)
apart_laid (core.group is) scope h = h
apart_laid (core.ref (core.group is)) scope h = h
apart_laid t scope h = apart_typed (close t scope)

apart_width : (c : Shape) → ShapeApart c → OkApart (in_width c)
apart_width (typed t) h = go (in_table t)
  where
    go : (b : Bool) → OkApart (cond b (Ok (typed t)) (Err Width))
    go true = tt
    go false = tt
apart_width (fields_here is scope) h = h
apart_width (fields_under is scope) h = h
apart_width left_out h = tt
apart_width as_cell h = tt

apart_judged : (r : Result Shape Cause) → OkApart r → OkApart (judged r)
apart_judged (Ok c) h = apart_width c h
apart_judged (Err why) h = tt

apart_tested : (k n : Option ℕ) (r : Result Shape Cause) → OkApart r → OkApart (tested k n r)
apart_tested k None r h = tt
apart_tested k (Some n) (Err why) h = tt
apart_tested k (Some n) (Ok c) h = go (passes k n)
  where
    go : (b : Bool) → OkApart (cond b (in_width c) (Ok left_out))
    go true = apart_width c h
    go false = tt

apart_shape : (g : Goal) → GoalApart g → OkApart (shape_of g)
apart_shape (at_type t) h = apart_width (typed t) tt
apart_shape (at_field None t scope) h = apart_judged (laid t scope) (apart_laid t scope h)
apart_shape (at_field (Some e) t scope) h =
    apart_tested e.bit (value_in e.number scope) (laid t scope) (apart_laid t scope h)
apart_shape at_cell h = tt

apart_under : (t : Closed) → GoalApart (under_ref t)
apart_under closed.whole = tt
apart_under _ = tt

-- ---- values

abbrev Able : CoreSchema → Laid → Type 0
Able schema d =
    (c : Shape) (s : Slice) (outs : List ℕ) (after : Slice) → ShapeApart c → SpellsLaidShape schema d c s outs after
    → NamesApart d

abbrev AllAble : CoreSchema → Laids → Type 0
AllAble schema no_laids = Unit {0}
AllAble schema (a_laid d ds) = Able schema d × AllAble schema ds

at_goal : (schema : CoreSchema) (d : Laid) → Able schema d → (g : Goal) (s : Slice) (outs : List ℕ) (after : Slice)
    → GoalApart g → SpellsLaid schema d g s outs after → NamesApart d
at_goal schema d able g s outs after h e =
    let P : Result Shape Cause → Type 0 = OkApart in
    able e.0 s outs after (subst P e.1 (apart_shape g h)) e.2

repeat_apart : (schema : CoreSchema) (ds : Laids) → AllAble schema ds → (k : ℕ) (t : Closed) (s after : Slice)
    → Repeats (EachLaid schema ds) k t s after → ItemsApart ds
repeat_apart schema no_laids able k t s after r = tt
repeat_apart schema (a_laid d ds) able k t s after r =
    (at_goal schema d able.0 (at_type t) s r.1 r.2 tt r.4, repeat_apart schema ds able.1 r.0 t r.2 after r.6)

fields_apart : (schema : CoreSchema) (is : Items) (ds : Laids) → AllAble schema ds → (scope : Scope) (s : Slice)
    (end : Scope) (after : Slice) → AreApart is → Fields is (EachLaid schema ds) scope s end after
    → FieldsApart (field_names is) ds
fields_apart schema no_items no_laids able scope s end after h f = tt
fields_apart schema no_items (a_laid d ds) able scope s end after h f = absurd f
fields_apart schema (an_item (check a op b i) is) ds able scope s end after h f =
    fields_apart schema is ds able scope s end after h f.5
fields_apart schema (an_item (solve v a b i) is) ds able scope s end after h f =
    fields_apart schema is ds able (with_number v f.0 scope) s end after h f.2
fields_apart schema (an_item (field y slot c t) is) no_laids able scope s end after h f = absurd f
fields_apart schema (an_item (field y slot c t) is) (a_laid d ds) able scope s end after h f = (
  h.0,
  at_goal schema d able.0 (at_field c t scope) s f.0 f.1 h.1 f.2,
  fields_apart schema is ds able.1 (bind (sets slot t) f.0 scope) f.1 end after h.2 f.3,
)

cell_apart : (schema : CoreSchema) (d : Laid) → Able schema d → (g : Goal) → GoalApart g → (c : Tree)
    → Holds Whole (SpellsLaid schema d) g c → NamesApart d
cell_apart schema d able at_cell h c k = at_goal schema d able at_cell (only_ref c) k.0 nothing h k.2
cell_apart schema d able (at_type t) h c k = at_goal schema d able (at_type t) k.0 k.1 nothing h k.3
cell_apart schema d able (at_field e t scope) h c k = at_goal schema d able (at_field e t scope) k.0 k.1 nothing h k.3

mutual
  shape_apart : (schema : CoreSchema) → NamesFieldsApart schema → (d : Laid) → Able schema d
  shape_apart schema names (number negative size) c s outs after h e = tt
  shape_apart schema names (bit_string bits) c s outs after h e = tt
  shape_apart schema names (record_of (Some name) xs ds) (typed (closed.named x args)) s outs after h e =
      let P : List (List ℕ) → Type 0 = λ l. FieldsApart l ds in
      subst P (sym e.6)
      (fields_apart schema e.1.core.items ds (all_apart schema names ds) e.2 e.3 e.4 after (names e.0 e.1 e.5.there)
      e.8)
  shape_apart schema names (record_of (Some name) xs ds) _ s outs after h e = absurd e
  shape_apart schema names (record_of None xs ds) (fields_here is scope) s outs after h e =
      let P : List (List ℕ) → Type 0 = λ l. FieldsApart l ds in
      subst P (sym e.1) (fields_apart schema is ds (all_apart schema names ds) scope s e.2 after h e.3)
  shape_apart schema names (record_of None xs ds) _ s outs after h e = absurd e
  shape_apart schema names absent c s outs after h e = tt
  shape_apart schema names (list_of ds) (typed (closed.repeat n t)) s outs after h e =
      repeat_apart schema ds (all_apart schema names ds) n t s after e.1
  shape_apart schema names (list_of ds) _ s outs after h e = absurd e
  shape_apart schema names (ref_to a d) (typed (closed.ref t)) s outs after h e =
      cell_apart schema d (shape_apart schema names d) (under_ref t) (apart_under t) e.0 e.3
  shape_apart schema names (ref_to a d) (fields_under is scope) s outs after h e =
      cell_apart schema d (shape_apart schema names d) (at_fields is scope) h e.0 e.3
  shape_apart schema names (ref_to a d) _ s outs after h e = absurd e
  shape_apart schema names (ref_to_raw a) c s outs after h e = tt
  shape_apart schema names no_map c s outs after h e = tt
  shape_apart schema names (map_under a x) (typed (closed.dict_e n t)) s outs after h e =
      edge_apart schema names x n t e.2.0 nothing e.2.2
  shape_apart schema names (map_under a x) _ s outs after h e = absurd e
  shape_apart schema names (map_here x) (typed (closed.dict n t)) s outs after h e = edge_apart schema names x n t s
      after e.1
  shape_apart schema names (map_here x) _ s outs after h e = absurd e
  shape_apart schema names (rest r) c s outs after h e = tt

  all_apart : (schema : CoreSchema) → NamesFieldsApart schema → (ds : Laids) → AllAble schema ds
  all_apart schema names no_laids = tt
  all_apart schema names (a_laid d ds) = (shape_apart schema names d, all_apart schema names ds)

  edge_apart : (schema : CoreSchema) → NamesFieldsApart schema → (e : LaidEdge) (n : ℕ) (t : Closed) (s after : Slice)
      → SpellsEdge schema e n t s after → EdgeApart e
  edge_apart schema names (a_leaf l d) n t s after k =
      at_goal schema d (shape_apart schema names d) (at_type t) k.0 k.1 after tt k.3
  edge_apart schema names (a_fork l z a o b) n t s after k = (
    edge_apart schema names a k.0 t k.4.0 nothing k.4.2,
    edge_apart schema names b k.0 t k.5.0 nothing k.5.2,
  )

pub root_apart : (schema : CoreSchema) → NamesFieldsApart schema → (t : Closed) (c : Tree) (r : LaidRoot)
    → IsLaidRoot schema t c r → RootApart r
root_apart schema names t c (as_it_is x) lies = tt
root_apart schema names t c (laid_root d) lies =
    cell_apart schema d (shape_apart schema names d) (under_ref t) (apart_under t) c lies
