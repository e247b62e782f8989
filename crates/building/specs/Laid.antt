-- What was put for a part that fits: it spells the part, within the limits of a cell; and whether a rest ends it.
use Rattle.std.specs.Prelude.{ℕ, ◌+◌, ◌≡◌, ◌≤◌, Bool, true, false, ◌||◌, List, [], ◌∷◌, Some, None}
use Rattle.std.proofs.Common.{inl}
use Rattle.bit_slice.specs.Bits.{AreBits}
use Rattle.cell_nodes.specs.declared.tree.Mode.{Mode}
use Rattle.cell_nodes.specs.declared.tree.Tree.{Tree}
use Rattle.hashmap_tree.specs.Dict.{unseen}
use Rattle.hashmap_tree.specs.Entries.{Slice}
use Rattle.hashmap_tree.specs.Exceeds.{IsWithin}
use Rattle.typed_value.specs.Values.{Plain, Plains, number, bit_string, record_of, absent, list_of, ref_to, unknown, map_of, raw, rest, no_vals, a_val, no_pairs, a_pair, levels, parts}
use Rattle.core_form.specs.Core.{Items, no_items, an_item, check, solve, field, sets, CoreSchema}
use Rattle.core_form.specs.Closed.{Closed}
use Rattle.core_form.specs.Closed as closed
use Rattle.core_form.specs.Scope.{Scope, with_number, bind}
use Rattle.spelling.specs.Goals.{Goal, at_type, at_field, at_cell, Shape, typed, fields_here}
use Rattle.spelling.specs.Slices.{nothing}
use Rattle.spelling.specs.Spells.{Spells, SpellsShape, Each, Meaning, Meanings, a_meaning, Fields, Repeats}
use Rattle.building.specs.Growing.{Grown, join}

-- ---- whether a rest stands at the end, in the part's own cell: by how the part is spelled

-- the next field of a record that is spelled
pub record NextField (M : Meaning) (Ms : Meanings) (s : Slice) (end : Scope) (after : Slice) : Type 0 where
  pub goal : Goal
  pub outs : List ℕ
  pub middle : Slice
  pub spelled : M goal s outs middle
  pub items : Items
  pub scope : Scope
  pub more : Fields items Ms scope middle end after

abbrev pub next_field : (is : Items) (M : Meaning) (Ms : Meanings) (scope : Scope) (s : Slice) (end : Scope)
    (after : Slice) → Fields is (a_meaning M Ms) scope s end after → NextField M Ms s end after
next_field no_items M Ms scope s end after f = absurd f
next_field (an_item (check a op b i) is) M Ms scope s end after f = next_field is M Ms scope s end after f.5
next_field (an_item (solve v a b i) is) M Ms scope s end after f =
    next_field is M Ms (with_number v f.0 scope) s end after f.2
next_field (an_item (field x slot c t) is) M Ms scope s end after f = record {
  goal = at_field c t scope;
  outs = f.0;
  middle = f.1;
  spelled = f.2;
  items = is;
  scope = bind (sets slot t) f.0 scope;
  more = f.3;
}

abbrev mutual
  pub ends_shape : (mode : Mode) (schema : CoreSchema) (v : Plain) (c : Shape) (s : Slice) (outs : List ℕ)
      (after : Slice) → SpellsShape mode schema v c s outs after → Bool
  ends_shape mode schema (number negative size) c s outs after d = false
  ends_shape mode schema (bit_string bits) c s outs after d = false
  ends_shape mode schema (record_of (Some name) names vs) (typed (closed.named type args)) s outs after d =
      ends_fields mode schema vs d.1.core.items d.2 d.3 d.4 after d.8
  ends_shape mode schema (record_of None names vs) (fields_here is scope) s outs after d =
      ends_fields mode schema vs is scope s d.2 after d.3
  ends_shape mode schema (record_of name names vs) c s outs after d = false
  ends_shape mode schema absent c s outs after d = false
  ends_shape mode schema (list_of vs) (typed (closed.repeat n t)) s outs after d =
      ends_items mode schema vs n t s after d.1
  ends_shape mode schema (list_of vs) c s outs after d = false
  ends_shape mode schema (ref_to a v) c s outs after d = false
  ends_shape mode schema (unknown x) c s outs after d = false
  ends_shape mode schema (map_of a (a_pair k v no_pairs) []) (typed (closed.dict n t)) s outs after (e, inl d, h) =
      ends_shape mode schema v d.3.0 d.0 d.1 after d.3.2
  ends_shape mode schema (map_of a ps us) c s outs after d = false
  ends_shape mode schema (raw x) c s outs after d = false
  ends_shape mode schema (rest x) c s outs after d = true

  pub ends_fields : (mode : Mode) (schema : CoreSchema) (vs : Plains) (is : Items) (scope : Scope) (s : Slice)
      (end : Scope) (after : Slice) → Fields is (Each mode schema vs) scope s end after → Bool
  ends_fields mode schema no_vals is scope s end after f = false
  ends_fields mode schema (a_val v vs) is scope s end after f =
      let k = next_field is (Spells mode schema v) (Each mode schema vs) scope s end after f in
      ends_shape mode schema v k.spelled.0 s k.outs k.middle k.spelled.2
      || ends_fields mode schema vs k.items k.scope k.middle end after k.more

  pub ends_items : (mode : Mode) (schema : CoreSchema) (vs : Plains) (n : ℕ) (t : Closed) (s after : Slice)
      → Repeats (Each mode schema vs) n t s after → Bool
  ends_items mode schema no_vals n t s after r = false
  ends_items mode schema (a_val v vs) n t s after r =
      ends_shape mode schema v r.4.0 s r.1 r.2 r.4.2 || ends_items mode schema vs r.0 t r.2 after r.6

abbrev pub ends : (mode : Mode) (schema : CoreSchema) (v : Plain) (g : Goal) (s : Slice) (outs : List ℕ) (after : Slice)
    → Spells mode schema v g s outs after → Bool
ends mode schema v g s outs after d = ends_shape mode schema v d.0 s outs after d.2

-- ---- what was put

-- These bits and references stand now after what stood before. After a rest there are none; it is said whether a rest
-- ends them.
pub record Grows (b : Grown) (x : Slice) (last : Bool) (g : Grown) : Type 0 where
  pub held : g.held ≡ join b.held x
  pub shut : g.shut ≡ (b.shut || last)
  pub free : b.shut ≡ true → x ≡ nothing

-- none of these cells is hidden
abbrev pub AreSeen : Mode → List Tree → Type 0
AreSeen mode [] = Unit {0}
AreSeen mode (c ∷ cs) = (unseen mode c ≡ None) × AreSeen mode cs

-- bits and references that a cell may hold; of a cell of any kind only that it isn't hidden
abbrev pub IsWithinAt : Mode → Goal → Slice → Type 0
IsWithinAt mode (at_type t) s = IsWithin s × AreBits s.bits
IsWithinAt mode (at_field e t scope) s = IsWithin s × AreBits s.bits
IsWithinAt mode at_cell s = AreSeen mode s.refs

-- what spells the part stands after what was there, at no more levels than are left and with no more parts than may
-- begin
pub record Laid (n most : ℕ) (mode : Mode) (schema : CoreSchema) (g : Goal) (q : ℕ) (v : Plain) (b : Grown)
    (outs : List ℕ) (x : Grown) : Type 0 where
  pub part : Slice
  pub spelled : Spells mode schema v g part outs nothing
  pub grows : Grows b part (ends mode schema v g part outs nothing spelled) x
  pub within_limits : IsWithinAt mode g x.held
  pub deep : levels v ≤ n
  pub large : q + parts v ≤ most
