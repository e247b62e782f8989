-- Each value that is spelled has its marked value.
use Rattle.std.proofs.Common.{◌≡◌, ℕ, List, [], ◌∷◌, Some, None, refl, ap, inl, inr}
use Rattle.cell_nodes.specs.declared.tree.Hidden.{Hidden}
use Rattle.cell_nodes.specs.declared.tree.Mode.{Mode}
use Rattle.cell_nodes.specs.declared.tree.Tree.{Tree}
use Rattle.hashmap_tree.specs.Entries.{Slice, pairs_in}
use Rattle.typed_value.specs.Values.{Vals, Pairs, Plain, Plains, PlainPairs, number, bit_string, record_of, absent, list_of, ref_to, unknown, map_of, raw, rest, no_vals, a_val, no_pairs, a_pair}
use Rattle.core_form.specs.Core.{Items, CoreSchema, no_items, an_item, check, solve, field, sets}
use Rattle.core_form.specs.Closed.{Closed}
use Rattle.core_form.specs.Closed as closed
use Rattle.core_form.specs.Scope.{Scope, with_number, bind}
use Rattle.spelling.specs.Slices.{nothing, only_ref}
use Rattle.spelling.specs.Goals.{Goal, at_type, at_field, at_cell, Shape, typed, fields_here, fields_under, at_fields, under_ref}
use Rattle.spelling.specs.Spells.{Repeats, Fields, SpellsShapeBy, SpellsBy, EachBy, EachPairBy, SpellsShape, Spells, Each, EachPair, Holds, Contents, SpellsDict, SpellsDictE, no_entries, some_entries, just}
use Rattle.spelling.specs.Marks.{Marked, plain, plain_all, plain_by}

-- a value has its marked value at any goal
abbrev Able : Mode → CoreSchema → Plain → Type 0
Able mode schema v =
    (g : Goal) (s : Slice) (outs : List ℕ) (after : Slice) → Spells mode schema v g s outs after
    → (d : Marked) × (plain d ≡ v) × SpellsBy just mode schema d g s outs after

abbrev AllAble : Mode → CoreSchema → Plains → Type 0
AllAble mode schema no_vals = Unit {0}
AllAble mode schema (a_val v vs) = Able mode schema v × AllAble mode schema vs

abbrev ByAble : Mode → CoreSchema → PlainPairs → Type 0
ByAble mode schema no_pairs = Unit {0}
ByAble mode schema (a_pair k v ps) = Able mode schema v × ByAble mode schema ps

repeat_marks : (mode : Mode) (schema : CoreSchema) (vs : Plains) → AllAble mode schema vs → (k : ℕ) (t : Closed)
    (s after : Slice) → Repeats (Each mode schema vs) k t s after
    → (ds : Vals Slice) × (plain_all ds ≡ vs) × Repeats (EachBy just mode schema ds) k t s after
repeat_marks mode schema no_vals able k t s after r = (no_vals, refl, r)
repeat_marks mode schema (a_val v vs) able k t s after r =
    let d = able.0 (at_type t) s r.1 r.2 r.4 in
    let ds = repeat_marks mode schema vs able.1 r.0 t r.2 after r.6 in
    (a_val d.0 ds.0, (λ i. a_val (d.1 i) (ds.1 i)), (r.0, r.1, r.2, r.3, d.2, r.5, ds.2))

fields_marks : (mode : Mode) (schema : CoreSchema) (is : Items) (vs : Plains) → AllAble mode schema vs → (scope : Scope)
    (s : Slice) (end : Scope) (after : Slice) → Fields is (Each mode schema vs) scope s end after
    → (ds : Vals Slice) × (plain_all ds ≡ vs) × Fields is (EachBy just mode schema ds) scope s end after
fields_marks mode schema no_items no_vals able scope s end after f = (no_vals, refl, f)
fields_marks mode schema no_items (a_val v vs) able scope s end after f = absurd f
fields_marks mode schema (an_item (check a op b i) is) vs able scope s end after f =
    let r = fields_marks mode schema is vs able scope s end after f.5 in
    (r.0, r.1, (f.0, f.1, f.2, f.3, f.4, r.2))
fields_marks mode schema (an_item (solve v a b i) is) vs able scope s end after f =
    let r = fields_marks mode schema is vs able (with_number v f.0 scope) s end after f.2 in
    (r.0, r.1, (f.0, f.1, r.2))
fields_marks mode schema (an_item (field y slot c t) is) no_vals able scope s end after f = absurd f
fields_marks mode schema (an_item (field y slot c t) is) (a_val v vs) able scope s end after f =
    let d = able.0 (at_field c t scope) s f.0 f.1 f.2 in
    let r = fields_marks mode schema is vs able.1 (bind (sets slot t) f.0 scope) f.1 end after f.3 in
    (a_val d.0 r.0, (λ i. a_val (d.1 i) (r.1 i)), (f.0, f.1, d.2, r.2))

cell_marks : (mode : Mode) (schema : CoreSchema) (v : Plain) → Able mode schema v → (g : Goal) (c : Tree)
    → Holds mode (Spells mode schema v) g c
    → (d : Marked) × (plain d ≡ v) × Holds mode (SpellsBy just mode schema d) g c
cell_marks mode schema v able at_cell c k =
    let d = able at_cell (only_ref c) k.0 nothing k.2 in (d.0, d.1, (k.0, k.1, d.2))
cell_marks mode schema v able (at_type t) c k =
    let d = able (at_type t) k.0 k.1 nothing k.3 in (d.0, d.1, (k.0, k.1, k.2, d.2))
cell_marks mode schema v able (at_field e t scope) c k =
    let d = able (at_field e t scope) k.0 k.1 nothing k.3 in (d.0, d.1, (k.0, k.1, k.2, d.2))

contents_marks : (mode : Mode) (schema : CoreSchema) (ps : PlainPairs) → ByAble mode schema ps → (t : Closed)
    (ls : List (List ℕ × Slice)) → Contents (EachPair mode schema ps) t ls
    → (ds : Pairs Slice) × (plain_by ds ≡ ps) × Contents (EachPairBy just mode schema ds) t ls
contents_marks mode schema no_pairs able t ls e = (no_pairs, refl, e)
contents_marks mode schema (a_pair k v ps) able t [] e = absurd e
contents_marks mode schema (a_pair k v ps) able t (l ∷ ls) e =
    let d = able.0 (at_type t) l.1 e.0 nothing e.2 in
    let r = contents_marks mode schema ps able.1 t ls e.3 in
    (a_pair k d.0 r.0, (λ i. a_pair k (d.1 i) (r.1 i)), (e.0, e.1, d.2, r.2))

abbrev Unknowns : Type 0
Unknowns = List (List ℕ × Hidden)

dict_marks : (mode : Mode) (schema : CoreSchema) (ps : PlainPairs) → ByAble mode schema ps → (us : Unknowns) (n : ℕ)
    (t : Closed) (s after : Slice) → SpellsDict mode (EachPair mode schema ps) us n t s after
    → (ds : Pairs Slice) × (plain_by ds ≡ ps) × SpellsDict mode (EachPairBy just mode schema ds) us n t s after
dict_marks mode schema no_pairs able us n t s after (inl e) = absurd e
dict_marks mode schema (a_pair k v (a_pair l w ps)) able us n t s after (inl e) = absurd e
dict_marks mode schema (a_pair k v no_pairs) able (u ∷ us) n t s after (inl e) = absurd e
dict_marks mode schema (a_pair k v no_pairs) able [] n t s after (inl e) =
    let d = able.0 (at_type t) e.0 e.1 after e.3 in
    (a_pair k d.0 no_pairs, (λ i. a_pair k (d.1 i) no_pairs), inl (e.0, e.1, e.2, d.2))
dict_marks mode schema ps able us n t s after (inr e) =
    let r = contents_marks mode schema ps able t (pairs_in e.0) e.2.0 in
    (r.0, r.1, inr (e.0, e.1, (r.2, e.2.1)))

dict_e_marks : (mode : Mode) (schema : CoreSchema) (ps : PlainPairs) → ByAble mode schema ps → (us : Unknowns) (n : ℕ)
    (t : Closed) (s after : Slice) → SpellsDictE mode (EachPair mode schema ps) us n t s after
    → (ds : Pairs Slice) × (plain_by ds ≡ ps) × SpellsDictE mode (EachPairBy just mode schema ds) us n t s after
dict_e_marks mode schema no_pairs able us n t s after (no_entries a u b) = (no_pairs, refl, no_entries tt u b)
dict_e_marks mode schema (a_pair k v ps) able us n t s after (no_entries a u b) = absurd a
dict_e_marks mode schema ps able us n t s after (some_entries c es b d k) =
    let x = contents_marks mode schema ps able t (pairs_in es) k.0 in
    (x.0, x.1, some_entries c es b d (x.2, k.1))

closed_marks : (mode : Mode) (schema : CoreSchema) (v : Plain)
    → ((c : Shape) (s : Slice) (outs : List ℕ) (after : Slice) → SpellsShape mode schema v c s outs after
    → (d : Marked) × (plain d ≡ v) × SpellsShapeBy just mode schema d c s outs after)
    → Able mode schema v
closed_marks mode schema v marks g s outs after e = let d = marks e.0 s outs after e.2 in (d.0, d.1, (e.0, e.1, d.2))

mutual
  shape_marks : (mode : Mode) (schema : CoreSchema) (v : Plain) (c : Shape) (s : Slice) (outs : List ℕ) (after : Slice)
      → SpellsShape mode schema v c s outs after
      → (d : Marked) × (plain d ≡ v) × SpellsShapeBy just mode schema d c s outs after
  shape_marks mode schema (number negative size) c s outs after e = (number negative size, refl, e)
  shape_marks mode schema (bit_string bits) c s outs after e = (bit_string bits, refl, e)
  shape_marks mode schema absent c s outs after e = (absent, refl, e)
  shape_marks mode schema (unknown h) c s outs after e = (unknown h, refl, e)
  shape_marks mode schema (raw d) c s outs after e = (raw d, refl, e)
  shape_marks mode schema (rest r) c s outs after e = (rest r, refl, e)
  shape_marks mode schema (ref_to a v) (typed (closed.ref t)) s outs after e =
      let d = cell_marks mode schema v (closed_marks mode schema v (shape_marks mode schema v)) (under_ref t) e.0 e.3 in
      (ref_to s d.0, (λ i. ref_to tt (d.1 i)), (e.0, e.1, e.2, d.2, refl))
  shape_marks mode schema (ref_to a v) (fields_under is scope) s outs after e =
      let d = cell_marks mode schema v (closed_marks mode schema v (shape_marks mode schema v)) (at_fields is scope) e.0 e.3 in
      (ref_to s d.0, (λ i. ref_to tt (d.1 i)), (e.0, e.1, e.2, d.2, refl))
  shape_marks mode schema (ref_to a v) _ s outs after e = absurd e
  shape_marks mode schema (list_of vs) (typed (closed.repeat n t)) s outs after e =
      let r = repeat_marks mode schema vs (mark_all mode schema vs) n t s after e.1 in
      (list_of r.0, ap list_of r.1, (e.0, r.2))
  shape_marks mode schema (list_of vs) _ s outs after e = absurd e
  shape_marks mode schema (record_of (Some name) names vs) (typed (closed.named x args)) s outs after e =
      let r = fields_marks mode schema e.1.core.items vs (mark_all mode schema vs) e.2 e.3 e.4 after e.8 in
      (record_of (Some name) names r.0, ap (record_of (Some name) names) r.1, (e.0, e.1, e.2, e.3, e.4, e.5, e.6, e.7, r.2, e.9))
  shape_marks mode schema (record_of (Some name) names vs) _ s outs after e = absurd e
  shape_marks mode schema (record_of None names vs) (fields_here is scope) s outs after e =
      let r = fields_marks mode schema is vs (mark_all mode schema vs) scope s e.2 after e.3 in
      (record_of None names r.0, ap (record_of None names) r.1, (e.0, e.1, e.2, r.2))
  shape_marks mode schema (record_of None names vs) _ s outs after e = absurd e
  shape_marks mode schema (map_of a ps us) (typed (closed.dict n t)) s outs after e =
      let r = dict_marks mode schema ps (mark_by mode schema ps) us n t s after e.1 in
      (map_of s r.0 us, (λ i. map_of tt (r.1 i) us), (e.0, r.2, refl))
  shape_marks mode schema (map_of a ps us) (typed (closed.dict_e n t)) s outs after e =
      let r = dict_e_marks mode schema ps (mark_by mode schema ps) us n t s after e.1 in
      (map_of s r.0 us, (λ i. map_of tt (r.1 i) us), (e.0, r.2, refl))
  shape_marks mode schema (map_of a ps us) _ s outs after e = absurd e

  mark_all : (mode : Mode) (schema : CoreSchema) (vs : Plains) → AllAble mode schema vs
  mark_all mode schema no_vals = tt
  mark_all mode schema (a_val v vs) = (closed_marks mode schema v (shape_marks mode schema v), mark_all mode schema vs)

  mark_by : (mode : Mode) (schema : CoreSchema) (ps : PlainPairs) → ByAble mode schema ps
  mark_by mode schema no_pairs = tt
  mark_by mode schema (a_pair k v ps) = (closed_marks mode schema v (shape_marks mode schema v), mark_by mode schema ps)

pub has_marks : (mode : Mode) (schema : CoreSchema) (v : Plain) (g : Goal) (s : Slice) (outs : List ℕ) (after : Slice)
    → Spells mode schema v g s outs after
    → (d : Marked) × (plain d ≡ v) × SpellsBy just mode schema d g s outs after
has_marks mode schema v = closed_marks mode schema v (shape_marks mode schema v)
