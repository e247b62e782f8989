-- What is read can be written, by recursion on the value.
use Rattle.std.proofs.Common.{◌≡◌, inl, inr, ℕ, ◌+◌, ◌≤◌, ap, sym, subst, refl, arith, List, [], ◌∷◌, Some, None, slice_get, Bool}
use Rattle.building_laws.specs.Laws.{IsTreeOf}
use Rattle.building_laws.specs.MoveLaws.{IsHeld, good_held}
use Rattle.cell_nodes.specs.Good.{IsGood}
use Rattle.cell_nodes.specs.Tree.{unfolded}
use Rattle.cell_nodes.specs.declared.tree.Hidden.{Hidden}
use Rattle.cell_nodes.specs.declared.tree.Mode.TheVariants.{Whole}
use Rattle.cell_nodes.specs.declared.tree.Tree.{Tree}
use Rattle.core_form.specs.Closed.{Closed, ClosedOf}
use Rattle.core_form.specs.Closed as closed
use Rattle.core_form.specs.Core.{Word, Items, no_items, an_item, check, solve, field, sets, CoreSchema, Declaration, field_names}
use Rattle.core_form.specs.Scope.{Scope, with_number, bind}
use Rattle.hashmap_tree.specs.Entries.{Slice, Then, cell_of}
use Rattle.spelling.specs.Goals.{Goal, at_type, at_field, at_cell, Shape, typed, fields_here, fields_under, left_out, as_cell, at_fields, under_ref, row}
use Rattle.spelling.specs.Slices.{nothing, only_ref}
use Rattle.spelling.specs.Spells.{Meaning, Meanings, no_meanings, a_meaning, AtRow, SpellsNumber, SpellsString, Fields, SpellsDeclared, SpellsInner, SpellsAbsent, Repeats, SpellsList, Holds, SpellsRef, SpellsUnknown, SpellsRaw, SpellsRest, Spells, SpellsShape, Each, EachPair, IsRootOf, free}
use Rattle.typed_value.specs.Values as values
use Rattle.typed_value.specs.Values.{Plain, Plains, PlainPairs, number, bit_string, record_of, absent, list_of, ref_to, unknown, map_of, raw, rest, no_vals, a_val, no_pairs, a_pair}
use Rattle.value_text.specs.Writes.{AreFields, AreFormed, IsFormed, IsRecordName, IsWritable, cells_in, cells_of}
use Rattle.reading_texts.proofs.Cells.{cells, cells-of as cells-in_cell}
use Rattle.reading_texts.proofs.Fits.{Fit, held-nothing, number-fit, row-fits, string-fit, takes-bits, takes-cell}
use Rattle.reading_texts.proofs.Goals.{IsFair, IsSound, shape-sound}
use Rattle.reading_texts.proofs.Items.{IsNamed, NamedItems}
use Rattle.reading_texts.proofs.Maps.{Writes, WritesBy, map-fit}
use Rattle.reading_texts.proofs.Types.{AreSmallTypes, Small, bind-small, fits-small, small-of}

abbrev pub WritesAll : Meanings → Plains → Type 0
WritesAll no_meanings no_vals = Unit {0}
WritesAll no_meanings (a_val v vs) = ⊥
WritesAll (a_meaning M Ms) no_vals = ⊥
WritesAll (a_meaning M Ms) (a_val v vs) = Writes M v × WritesAll Ms vs

-- each declaration has names
abbrev pub HasNames : CoreSchema → Type 0
HasNames schema = (i : ℕ) (d : Declaration) → slice_get schema i ≡ Some d → IsNamed d

-- ---- numbers and strings

number-at : (negative : Bool) (size : ℕ) (c : Shape) (before : Slice) (outs : List ℕ) (after : Slice)
    → AtRow (SpellsNumber negative size) c before outs after → IsSound c → IsHeld before
    → Fit (number negative size) before after
number-at negative size (typed t) before outs after e s held =
    number-fit negative size (row t) before outs after (row-fits t s.0 s.1) e held
number-at negative size _ before outs after e s held = absurd e

string-at : (bits : List ℕ) (c : Shape) (before : Slice) (outs : List ℕ) (after : Slice)
    → AtRow (SpellsString bits) c before outs after → IsHeld before → Fit (bit_string bits) before after
string-at bits (typed t) before outs after e held = string-fit bits (row t) before outs after e held
string-at bits _ before outs after e held = absurd e

-- ---- records

pub record FitFields (names : List Word) (vs : Plains) (before after : Slice) : Type 0 where
  pub formed : AreFields names vs
  pub held : IsHeld after
  pub fewer : cells_of vs + cells after ≤ cells before

stays : (before after : Slice) → after ≡ before → cells after ≡ cells before
stays before after e = ap cells e

fields-fit : (is : Items) (Ms : Meanings) (vs : Plains) → WritesAll Ms vs → (scope : Scope) (before : Slice) (end : Scope)
    (after : Slice) → Fields is Ms scope before end after → NamedItems is → AreSmallTypes scope.types → IsHeld before
    → FitFields (field_names is) vs before after
fields-fit no_items no_meanings no_vals q scope before end after e n s held =
    let same = stays before after e.1 in
    record { formed = tt; held = subst IsHeld (sym e.1) held; fewer = omega (arith, same) }
fields-fit no_items no_meanings (a_val v vs) q scope before end after e n s held = absurd q
fields-fit no_items (a_meaning M Ms) vs q scope before end after e n s held = absurd e
fields-fit (an_item (check x op y i) is) Ms vs q scope before end after e n s held =
    fields-fit is Ms vs q scope before end after e.5 n s held
fields-fit (an_item (solve v x y i) is) Ms vs q scope before end after e n s held =
    fields-fit is Ms vs q (with_number v e.0 scope) before end after e.2 n s held
fields-fit (an_item (field x slot c t) is) no_meanings vs q scope before end after e n s held = absurd e
fields-fit (an_item (field x slot c t) is) (a_meaning M Ms) no_vals q scope before end after e n s held = absurd q
fields-fit (an_item (field x slot c t) is) (a_meaning M Ms) (a_val v vs) q scope before end after e n s held =
    let one = q.0 (at_field c t scope) before e.0 e.1 e.2 (n.1, s) held in
    let more =
    fields-fit is Ms vs q.1 (bind (sets slot t) e.0 scope) e.1 end after e.3 n.2 (bind-small (sets slot t) e.0 scope s) one.held in
    let a = one.fewer in
    let b = more.fewer in
    record { formed = (n.0, one.formed, more.formed); held = more.held; fewer = omega (arith, a, b) }

declared-fit : (schema : CoreSchema) → HasNames schema → (name : Word) (names : List Word) (Ms : Meanings) (vs : Plains)
    → WritesAll Ms vs → (c : Shape) (before : Slice) (outs : List ℕ) (after : Slice)
    → SpellsDeclared schema name names Ms c before outs after → IsSound c → IsHeld before
    → Fit (record_of (Some name) names vs) before after
declared-fit schema named name names Ms vs q (typed (closed.named type args)) before outs after e s held =
    let d = e.1 in
    let meets = e.5 in
    let fine = named e.0 d meets.there in
    let tag = takes-bits d.core.tag before e.3 e.7 held in
    let types = fits-small d.core.inputs d.core.slots args e.2 meets.fitting s.0 in
    let fit = fields-fit d.core.items Ms vs q e.2 e.3 e.4 after e.8 fine.items types tag.held in
    let P : Word → Type 0 = λ x. IsRecordName (Some x) in
    let Q : List Word → Type 0 = λ x. AreFields x vs in
    let a = tag.same in
    let b = fit.fewer in
    record {
      formed = (subst P meets.shown fine.name, subst Q (sym e.6) fit.formed);
      held = fit.held;
      fewer = omega (arith, a, b);
    }
declared-fit schema named name names Ms vs q _ before outs after e s held = absurd e

inner-fit : (names : List Word) (Ms : Meanings) (vs : Plains) → WritesAll Ms vs → (c : Shape) (before : Slice)
    (outs : List ℕ) (after : Slice) → SpellsInner names Ms c before outs after → IsSound c → IsHeld before
    → Fit (record_of None names vs) before after
inner-fit names Ms vs q (fields_here is scope) before outs after e s held =
    let fit = fields-fit is Ms vs q scope before e.2 after e.3 s.0 s.1 held in
    let Q : List Word → Type 0 = λ x. AreFields x vs in
    record { formed = (tt, subst Q (sym e.1) fit.formed); held = fit.held; fewer = fit.fewer }
inner-fit names Ms vs q _ before outs after e s held = absurd e

absent-fit : (c : Shape) (before : Slice) (outs : List ℕ) (after : Slice) → SpellsAbsent c before outs after
    → IsHeld before → Fit absent before after
absent-fit left_out before outs after e held =
    let same = stays before after e.1 in
    record { formed = tt; held = subst IsHeld (sym e.1) held; fewer = omega (arith, same) }
absent-fit _ before outs after e held = absurd e

-- ---- lists

pub record FitList (vs : Plains) (before after : Slice) : Type 0 where
  pub formed : AreFormed vs
  pub held : IsHeld after
  pub fewer : cells_of vs + cells after ≤ cells before

repeats-fit : (Ms : Meanings) (vs : Plains) → WritesAll Ms vs → (n : ℕ) (t : Closed) (before after : Slice)
    → Repeats Ms n t before after → Small t → IsHeld before → FitList vs before after
repeats-fit no_meanings no_vals q n t before after e s held =
    let same = stays before after e.1 in
    record { formed = tt; held = subst IsHeld (sym e.1) held; fewer = omega (arith, same) }
repeats-fit no_meanings (a_val v vs) q n t before after e s held = absurd q
repeats-fit (a_meaning M Ms) no_vals q n t before after e s held = absurd q
repeats-fit (a_meaning M Ms) (a_val v vs) q n t before after e s held =
    let one = q.0 (at_type t) before e.1 e.2 e.4 s held in
    let more = repeats-fit Ms vs q.1 e.0 t e.2 after e.6 s one.held in
    let a = one.fewer in
    let b = more.fewer in
    record { formed = (one.formed, more.formed); held = more.held; fewer = omega (arith, a, b) }

list-fit : (Ms : Meanings) (vs : Plains) → WritesAll Ms vs → (c : Shape) (before : Slice) (outs : List ℕ) (after : Slice)
    → SpellsList Ms c before outs after → IsSound c → IsHeld before → Fit (list_of vs) before after
list-fit Ms vs q (typed (closed.repeat n t)) before outs after e s held =
    let fit = repeats-fit Ms vs q n t before after e.1 s.0 held in
    record { formed = fit.formed; held = fit.held; fewer = fit.fewer }
list-fit Ms vs q _ before outs after e s held = absurd e

-- ---- references

-- a value in a cell
pub record FitCell (v : Plain) (c : Tree) : Type 0 where
  pub formed : IsFormed v
  pub fewer : cells_in v ≤ unfolded c

abbrev WritesCell : Meaning → Plain → Type 0
WritesCell M v = (c : Tree) (outs : List ℕ) → M at_cell (only_ref c) outs nothing → IsGood c → FitCell v c

whole-fit : (v : Plain) (c : Tree) (s : Slice) → c ≡ cell_of s → Fit v s nothing → FitCell v c
whole-fit v c s e fit =
    let a = ap unfolded e in
    let b = cells-in_cell s in
    let l = fit.fewer in
    record { formed = fit.formed; fewer = omega (arith, a, b, l) }

holds-fit : (M : Meaning) (v : Plain) → Writes M v → WritesCell M v → (g : Goal) (c : Tree) → Holds Whole M g c → IsGood c
    → IsFair g → FitCell v c
holds-fit M v q w at_cell c e g fair = w c e.0 e.2 g
holds-fit M v q w (at_type t) c e g fair =
    whole-fit v c e.0 e.2 (q (at_type t) e.0 e.1 nothing e.3 fair (good_held e.0 (subst IsGood e.2 g)))
holds-fit M v q w (at_field x t scope) c e g fair =
    whole-fit v c e.0 e.2 (q (at_field x t scope) e.0 e.1 nothing e.3 fair (good_held e.0 (subst IsGood e.2 g)))

fair-under : (t : Closed) → Small t → IsFair (under_ref t)
fair-under closed.whole s = tt
fair-under closed.nat32 s = s
fair-under (closed.bits n) s = s
fair-under (closed.below n) s = s
fair-under (closed.up_to n) s = s
fair-under (closed.uint n) s = s
fair-under (closed.int n) s = s
fair-under (closed.bit_str n) s = s
fair-under (closed.ref t) s = s
fair-under (closed.repeat n t) s = s
fair-under (closed.dict n t) s = s
fair-under (closed.dict_e n t) s = s
fair-under (closed.named x args) s = s

child-fit : (a : Unit {0}) (M : Meaning) (v : Plain) → Writes M v → WritesCell M v → (g : Goal) (c : Tree)
    (before after : Slice) → Then before (only_ref c) after → Holds Whole M g c → IsFair g → IsHeld before
    → Fit (ref_to a v) before after
child-fit a M v q w g c before after then e fair held =
    let taken = takes-cell c before after then held in
    let fit = holds-fit M v q w g c e taken.good fair in
    let x = taken.counted in
    let y = fit.fewer in
    record { formed = fit.formed; held = taken.held; fewer = omega (arith, x, y) }

ref-fit : (a : Unit {0}) (M : Meaning) (v : Plain) → Writes M v → WritesCell M v → (c : Shape) (before : Slice)
    (outs : List ℕ) (after : Slice) → SpellsRef (free a) Whole M c before outs after → IsSound c → IsHeld before
    → Fit (ref_to a v) before after
ref-fit a M v q w (typed (closed.ref t)) before outs after e s held =
    child-fit a M v q w (under_ref t) e.0 before after e.2 e.3 (fair-under t s.0) held
ref-fit a M v q w (fields_under is scope) before outs after e s held =
    child-fit a M v q w (at_fields is scope) e.0 before after e.2 e.3 s held
ref-fit a M v q w _ before outs after e s held = absurd e

-- no cell is hidden in mode Whole
unknown-fit : (h : Hidden) (c : Shape) (before : Slice) (outs : List ℕ) (after : Slice)
    → SpellsUnknown Whole h c before outs after → Fit (unknown h) before after
unknown-fit h (typed (closed.ref t)) before outs after e = let seen = e.3 in absurd (cc)
unknown-fit h (fields_under is scope) before outs after e = let seen = e.3 in absurd (cc)
unknown-fit h _ before outs after e = absurd e

raw-fit : (x : Tree) (c : Shape) (before : Slice) (outs : List ℕ) (after : Slice) → SpellsRaw x c before outs after
    → IsHeld before → Fit (raw x) before after
raw-fit x as_cell before outs after e held =
    let taken = takes-cell x before after e.1 held in
    let l = taken.counted in
    record { formed = taken.good; held = taken.held; fewer = omega (arith, l) }
raw-fit x _ before outs after e held = absurd e

rest-fit : (s : values.Slice) (c : Shape) (before : Slice) (outs : List ℕ) (after : Slice)
    → SpellsRest s c before outs after → IsHeld before → Fit (rest s) before after
rest-fit s (typed closed.whole) before outs after e held =
    let P : values.Slice → Type 0 = λ x. IsFormed {A = Unit {0}} (rest x) in
    let a = ap (λ (x : values.Slice). cells_in {A = Unit {0}} (rest x)) e.1 in
    let b = stays nothing after e.2 in
    record {
      formed = subst P (sym e.1) ((held.bits, held.within.short), held.within.good);
      held = subst IsHeld (sym e.2) held-nothing;
      fewer = omega (arith, a, b);
    }
rest-fit s _ before outs after e held = absurd e

-- ---- a cell as it is

raw-cell : (x c : Tree) (outs : List ℕ) → SpellsRaw x as_cell (only_ref c) outs nothing → IsGood c → FitCell (raw x) c
raw-cell x c outs e g =
    let refs : c ∷ [] ≡ x ∷ [] = e.1.refs in
    let same : c ≡ x = cc in
    let a = ap unfolded same in
    record { formed = subst IsGood same g; fewer = omega (arith, a) }

cell-by : (schema : CoreSchema) (v : Plain) (c : Tree) (outs : List ℕ)
    → SpellsShape Whole schema v as_cell (only_ref c) outs nothing → IsGood c → FitCell v c
cell-by schema (raw x) c outs e g = raw-cell x c outs e g
cell-by schema (number negative size) c outs e g = absurd e
cell-by schema (bit_string bits) c outs e g = absurd e
cell-by schema (record_of (Some name) names vs) c outs e g = absurd e
cell-by schema (record_of None names vs) c outs e g = absurd e
cell-by schema absent c outs e g = absurd e
cell-by schema (list_of vs) c outs e g = absurd e
cell-by schema (ref_to a v) c outs e g = absurd e
cell-by schema (unknown h) c outs e g = absurd e
cell-by schema (map_of a ps us) c outs e g = absurd e
cell-by schema (rest s) c outs e g = absurd e

cell-fit : (schema : CoreSchema) (v : Plain) → WritesCell (Spells Whole schema v) v
cell-fit schema v c outs e g =
    let same : as_cell ≡ e.0 = let is = e.1 in cc in
    let P : Shape → Type 0 = λ s. SpellsShape Whole schema v s (only_ref c) outs nothing in
    cell-by schema v c outs (subst P (sym same) e.2) g

-- ---- by recursion on the value

mutual
  shape-fit : (schema : CoreSchema) → HasNames schema → (v : Plain) (c : Shape) (before : Slice) (outs : List ℕ)
      (after : Slice) → SpellsShape Whole schema v c before outs after → IsSound c → IsHeld before → Fit v before after
  shape-fit schema named (number negative size) c before outs after e s held =
      number-at negative size c before outs after e s held
  shape-fit schema named (bit_string bits) c before outs after e s held = string-at bits c before outs after e held
  shape-fit schema named (record_of (Some name) names vs) c before outs after e s held =
      declared-fit schema named name names (Each Whole schema vs) vs (all-fit schema named vs) c before outs after e s held
  shape-fit schema named (record_of None names vs) c before outs after e s held =
      inner-fit names (Each Whole schema vs) vs (all-fit schema named vs) c before outs after e s held
  shape-fit schema named absent c before outs after e s held = absent-fit c before outs after e held
  shape-fit schema named (list_of vs) c before outs after e s held =
      list-fit (Each Whole schema vs) vs (all-fit schema named vs) c before outs after e s held
  shape-fit schema named (ref_to a v) c before outs after e s held =
      ref-fit a (Spells Whole schema v) v
      (λ g b o x d fair h. shape-fit schema named v d.0 b o x d.2 (shape-sound g d.0 fair d.1) h) (cell-fit schema v) c
      before outs after e s held
  shape-fit schema named (unknown h) c before outs after e s held = unknown-fit h c before outs after e
  shape-fit schema named (map_of a ps us) c before outs after e s held =
      map-fit a (EachPair Whole schema ps) ps (by-fit schema named ps) us c before outs after e s held
  shape-fit schema named (raw x) c before outs after e s held = raw-fit x c before outs after e held
  shape-fit schema named (rest x) c before outs after e s held = rest-fit x c before outs after e held

  all-fit : (schema : CoreSchema) → HasNames schema → (vs : Plains) → WritesAll (Each Whole schema vs) vs
  all-fit schema named no_vals = tt
  all-fit schema named (a_val v vs) = (
    (λ g b o x d fair h. shape-fit schema named v d.0 b o x d.2 (shape-sound g d.0 fair d.1) h),
    all-fit schema named vs,
  )

  by-fit : (schema : CoreSchema) → HasNames schema → (ps : PlainPairs) → WritesBy (EachPair Whole schema ps) ps
  by-fit schema named no_pairs = tt
  by-fit schema named (a_pair k v ps) = (
    refl,
    (λ g b o x d fair h. shape-fit schema named v d.0 b o x d.2 (shape-sound g d.0 fair d.1) h),
    by-fit schema named ps,
  )

-- ---- a root

root-fit : (schema : CoreSchema) → HasNames schema → (t : Closed) → Small t → (v : Plain) (c : Tree)
    → IsRootOf Whole schema t c v → IsGood c → FitCell v c
root-fit schema named t s v c (inl h) g =
    holds-fit (Spells Whole schema v) v
    (λ k b o x d fair held. shape-fit schema named v d.0 b o x d.2 (shape-sound k d.0 fair d.1) held) (cell-fit schema v)
    (under_ref t) c h g (fair-under t s)
root-fit schema named t s (unknown h) c (inr e) g = let seen = e.0 in absurd (cc)
root-fit schema named t s (number negative size) c (inr e) g = absurd e
root-fit schema named t s (bit_string bits) c (inr e) g = absurd e
root-fit schema named t s (record_of name names vs) c (inr e) g = absurd e
root-fit schema named t s absent c (inr e) g = absurd e
root-fit schema named t s (list_of vs) c (inr e) g = absurd e
root-fit schema named t s (ref_to _ v) c (inr e) g = absurd e
root-fit schema named t s (map_of _ ps us) c (inr e) g = absurd e
root-fit schema named t s (raw d) c (inr e) g = absurd e
root-fit schema named t s (rest r) c (inr e) g = absurd e

pub reading-writable : (schema : CoreSchema) → HasNames schema → (t : Closed) → ClosedOf schema t → (v : Plain)
    (c : Tree) → IsTreeOf Whole schema t v c → IsWritable v
reading-writable schema named t is v c tree =
    let fit = root-fit schema named t (small-of schema t is) v c tree.reading.root tree.good in
    let a = fit.fewer in
    let b = tree.small in
    record {
      formed = fit.formed;
      levels = tree.reading.deep;
      parts = tree.reading.large;
      cells = omega (arith, a, b);
    }
