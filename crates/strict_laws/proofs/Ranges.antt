-- A value that is read of a good tree in mode Lax is in range.
use Rattle.std.proofs.Common.{inl, inr, ℕ, List, [], ◌∷◌, Some, None, sym, subst}
use Rattle.bit_slice.specs.Bits.{AreBits}
use Rattle.building.specs.Buildable.{InRange, AllInRange, PairsInRange, AreHashes}
use Rattle.cell_nodes.specs.Good.{IsGood, AllGood, none, more}
use Rattle.cell_nodes.specs.declared.tree.Hidden.{Hidden}
use Rattle.cell_nodes.specs.declared.tree.Mode.TheVariants.{Whole, Lax}
use Rattle.cell_nodes.specs.declared.tree.Tree.{Tree}
use Rattle.core_form.specs.Core.{Word, Items, no_items, an_item, check, solve, field, sets, CoreSchema}
use Rattle.core_form.specs.Closed.{Closed}
use Rattle.core_form.specs.Closed as closed
use Rattle.core_form.specs.Scope.{Scope, with_number, bind}
use Rattle.hashmap_tree.specs.Entries.{Slice, leaf, hidden, Entries}
use Rattle.spelling.specs.Goals.{Row, natural, integer, string, no_row, row, Goal, at_type, at_field, at_cell, Shape, typed}
use Rattle.spelling.specs.Goals.{fields_here, fields_under, as_cell, at_fields, under_ref}
use Rattle.spelling.specs.Slices.{nothing, only_ref}
use Rattle.spelling.specs.Spells.{Meaning, Meanings, no_meanings, a_meaning, Keyed, no_keyed, a_keyed, SpellsString, AtRow}
use Rattle.spelling.specs.Spells.{Fields, SpellsDeclared, SpellsInner, Repeats, SpellsList, Holds, SpellsRef, SpellsUnknown}
use Rattle.spelling.specs.Spells.{SpellsRaw, SpellsRest, EntriesHold, InPlace, SpellsDict, IsEmpty, SpellsDictE, no_entries}
use Rattle.spelling.specs.Spells.{some_entries, SpellsMap, Spells, SpellsShape, Each, EachPair, IsRootOf}
use Rattle.typed_value.specs.Values as values
use Rattle.typed_value.specs.Values.{Plain, Plains, PlainPairs, number, bit_string, record_of, absent, list_of, ref_to, unknown}
use Rattle.typed_value.specs.Values.{map_of, raw, rest, no_vals, a_val, no_pairs, a_pair}
use Rattle.strict_laws.proofs.Less.{Fine, good_fine}
use Rattle.strict_laws.proofs.Steps.{bits_fine, ref_fine}
use Rattle.strict_laws.proofs.Dicts.{AllFine, leaf_tightened, fork_fine, branch_fine}
use Rattle.strict_laws.proofs.Forms.{TightensAll, anywhere}
use Rattle.strict_laws.proofs.Values.{all_tightened}

-- a value with this meaning is in range
abbrev pub Ranges : Meaning → Plain → Type 0
Ranges L v =
    (g : Goal) (before : Slice) (outs : List ℕ) (after : Slice) → L g before outs after → Fine before → InRange v

abbrev pub RangesAll : Meanings → Plains → Type 0
RangesAll no_meanings no_vals = Unit {0}
RangesAll no_meanings (a_val v vs) = ⊥
RangesAll (a_meaning L Ls) no_vals = ⊥
RangesAll (a_meaning L Ls) (a_val v vs) = Ranges L v × RangesAll Ls vs

abbrev pub RangesBy : Keyed → PlainPairs → Type 0
RangesBy no_keyed no_pairs = Unit {0}
RangesBy no_keyed (a_pair k v ps) = ⊥
RangesBy (a_keyed k L Ls) no_pairs = ⊥
RangesBy (a_keyed k L Ls) (a_pair j v ps) = Ranges L v × RangesBy Ls ps

-- ---- bit strings, records and lists

string_row : (bits : List ℕ) (r : Row) (before : Slice) (outs : List ℕ) (after : Slice)
    → SpellsString bits r before outs after → Fine before → AreBits bits
string_row bits (string width) before outs after e fine = (bits_fine bits before after e.2 fine).0
string_row bits (natural width bound named) before outs after e fine = absurd e
string_row bits (integer width) before outs after e fine = absurd e
string_row bits no_row before outs after e fine = absurd e

string_range : (bits : List ℕ) (c : Shape) (before : Slice) (outs : List ℕ) (after : Slice)
    → AtRow (SpellsString bits) c before outs after → Fine before → AreBits bits
string_range bits (typed t) before outs after e fine = string_row bits (row t) before outs after e fine
string_range bits _ before outs after e fine = absurd e

fields_range : (is : Items) (Ls Ws : Meanings) → TightensAll Ls Ws → (vs : Plains) → RangesAll Ls vs → (scope : Scope)
    (before : Slice) (end : Scope) (after : Slice) → Fields is Ls scope before end after → Fine before → AllInRange vs
fields_range no_items no_meanings Ws r no_vals q scope before end after e fine = tt
fields_range no_items no_meanings Ws r (a_val v vs) q scope before end after e fine = absurd q
fields_range no_items (a_meaning L Ls) Ws r vs q scope before end after e fine = absurd e
fields_range (an_item (check x op y i) is) Ls Ws r vs q scope before end after e fine =
    fields_range is Ls Ws r vs q scope before end after e.5 fine
fields_range (an_item (solve v x y i) is) Ls Ws r vs q scope before end after e fine =
    fields_range is Ls Ws r vs q (with_number v e.0 scope) before end after e.2 fine
fields_range (an_item (field x slot c t) is) no_meanings Ws r vs q scope before end after e fine = absurd e
fields_range (an_item (field x slot c t) is) (a_meaning L Ls) no_meanings r vs q scope before end after e fine = absurd r
fields_range (an_item (field x slot c t) is) (a_meaning L Ls) (a_meaning W Ws) r no_vals q scope before end after e fine =
    absurd q
fields_range (an_item (field x slot c t) is) (a_meaning L Ls) (a_meaning W Ws) r (a_val v vs) q scope before end after e fine =
    let one = r.0 (at_field c t scope) before e.0 e.1 e.2 fine in (
      q.0 (at_field c t scope) before e.0 e.1 e.2 fine,
      fields_range is Ls Ws r.1 vs q.1 (bind (sets slot t) e.0 scope) e.1 end after e.3 one.fine,
    )

declared_range : (schema : CoreSchema) (name : Word) (names : List Word) (Ls Ws : Meanings) → TightensAll Ls Ws
    → (vs : Plains) → RangesAll Ls vs → (c : Shape) (before : Slice) (outs : List ℕ) (after : Slice)
    → SpellsDeclared schema name names Ls c before outs after → Fine before → AllInRange vs
declared_range schema name names Ls Ws r vs q (typed (closed.named type args)) before outs after e fine =
    fields_range e.1.core.items Ls Ws r vs q e.2 e.3 e.4 after e.8 (bits_fine e.1.core.tag before e.3 e.7 fine).1
declared_range schema name names Ls Ws r vs q _ before outs after e fine = absurd e

inner_range : (names : List Word) (Ls Ws : Meanings) → TightensAll Ls Ws
    → (vs : Plains) → RangesAll Ls vs → (c : Shape) (before : Slice) (outs : List ℕ) (after : Slice)
    → SpellsInner names Ls c before outs after → Fine before → AllInRange vs
inner_range names Ls Ws r vs q (fields_here is scope) before outs after e fine =
    fields_range is Ls Ws r vs q scope before e.2 after e.3 fine
inner_range names Ls Ws r vs q _ before outs after e fine = absurd e

repeats_range : (Ls Ws : Meanings) → TightensAll Ls Ws → (vs : Plains) → RangesAll Ls vs → (n : ℕ) (t : Closed)
    (before after : Slice) → Repeats Ls n t before after → Fine before → AllInRange vs
repeats_range no_meanings Ws r no_vals q n t before after e fine = tt
repeats_range no_meanings Ws r (a_val v vs) q n t before after e fine = absurd q
repeats_range (a_meaning L Ls) no_meanings r vs q n t before after e fine = absurd r
repeats_range (a_meaning L Ls) (a_meaning W Ws) r no_vals q n t before after e fine = absurd q
repeats_range (a_meaning L Ls) (a_meaning W Ws) r (a_val v vs) q n t before after e fine =
    let one = r.0 (at_type t) before e.1 e.2 e.4 fine in
    (q.0 (at_type t) before e.1 e.2 e.4 fine, repeats_range Ls Ws r.1 vs q.1 e.0 t e.2 after e.6 one.fine)

list_range : (Ls Ws : Meanings) → TightensAll Ls Ws → (vs : Plains) → RangesAll Ls vs → (c : Shape) (before : Slice)
    (outs : List ℕ) (after : Slice) → SpellsList Ls c before outs after → Fine before → AllInRange vs
list_range Ls Ws r vs q (typed (closed.repeat n t)) before outs after e fine =
    repeats_range Ls Ws r vs q n t before after e.1 fine
list_range Ls Ws r vs q _ before outs after e fine = absurd e

-- ---- references

holds_range : (L : Meaning) (v : Plain) → Ranges L v → (g : Goal) (c : Tree) → Holds Lax L g c → IsGood c → InRange v
holds_range L v q at_cell c e g = q at_cell (only_ref c) e.0 nothing e.2 (record { bits = tt; refs = more c [] g none })
holds_range L v q (at_type t) c e g =
    let P : Tree → Type 0 = λ x. IsGood x in q (at_type t) e.0 e.1 nothing e.3 (good_fine e.0 (subst P e.2 g))
holds_range L v q (at_field x t scope) c e g =
    let P : Tree → Type 0 = λ x. IsGood x in q (at_field x t scope) e.0 e.1 nothing e.3 (good_fine e.0 (subst P e.2 g))

ref_range : (L : Meaning) (v : Plain) → Ranges L v → (c : Shape) (before : Slice) (outs : List ℕ) (after : Slice)
    → SpellsRef anywhere Lax L c before outs after → Fine before → InRange v
ref_range L v q (typed (closed.ref t)) before outs after e fine =
    holds_range L v q (under_ref t) e.0 e.3 (ref_fine [] e.0 before after e.2 fine).1
ref_range L v q (fields_under is scope) before outs after e fine =
    holds_range L v q (at_fields is scope) e.0 e.3 (ref_fine [] e.0 before after e.2 fine).1
ref_range L v q _ before outs after e fine = absurd e

-- no cell is hidden in mode Lax
unknown_range : (h : Hidden) (c : Shape) (before : Slice) (outs : List ℕ) (after : Slice)
    → SpellsUnknown Lax h c before outs after → InRange (unknown h)
unknown_range h (typed (closed.ref t)) before outs after e = let seen = e.3 in cc
unknown_range h (fields_under is scope) before outs after e = let seen = e.3 in cc
unknown_range h _ before outs after e = absurd e

raw_range : (x : Tree) (c : Shape) (before : Slice) (outs : List ℕ) (after : Slice)
    → SpellsRaw x c before outs after → Fine before → IsGood x
raw_range x as_cell before outs after e fine = (ref_fine [] x before after e.1 fine).1
raw_range x _ before outs after e fine = absurd e

rest_range : (s : values.Slice) (c : Shape) (before : Slice) (outs : List ℕ) (after : Slice)
    → SpellsRest s c before outs after → Fine before → AreBits s.bits × AllGood s.refs
rest_range s (typed closed.whole) before outs after e fine =
    let P : values.Slice → Type 0 = λ x. AreBits x.bits × AllGood x.refs in subst P (sym e.1) (fine.bits, fine.refs)
rest_range s _ before outs after e fine = absurd e

-- ---- maps

contents_range : (Ls : Keyed) (ps : PlainPairs) → RangesBy Ls ps → (us : List (List ℕ × Hidden)) (t : Closed)
    (es : Entries) → AllFine es → EntriesHold Ls us t es → PairsInRange ps × AreHashes us
contents_range no_keyed no_pairs q us t [] fine e =
    let P : List (List ℕ × Hidden) → Type 0 = λ l. AreHashes l in (tt, subst P e.1 tt)
contents_range no_keyed (a_pair k v ps) q us t [] fine e = absurd q
contents_range (a_keyed k L Ls) ps q us t [] fine e = absurd e.0
contents_range Ls ps q us t ((k, hidden h) ∷ es) fine e = absurd fine.0
contents_range no_keyed ps q us t ((k, leaf c) ∷ es) fine e = let wrong = e.0 in cc
contents_range (a_keyed j L Ls) no_pairs q us t ((k, leaf c) ∷ es) fine e = absurd q
contents_range (a_keyed j L Ls) (a_pair i v ps) q us t ((k, leaf c) ∷ es) fine e =
    let others = contents_range Ls ps q.1 us t es fine.1 (e.0.3, e.1) in
    ((q.0 (at_type t) c e.0.0 nothing e.0.2 fine.0, others.0), others.1)

place_range : (Ls : Keyed) (ps : PlainPairs) → RangesBy Ls ps → (us : List (List ℕ × Hidden)) (n : ℕ) (t : Closed)
    (before after : Slice) → InPlace Lax Ls us n t before after → Fine before → PairsInRange ps × AreHashes us
place_range (a_keyed k L no_keyed) (a_pair j v no_pairs) q [] n t before after e fine =
    let middle = (leaf_tightened n k before e.0 e.2 fine).fine in
    ((q.0 (at_type t) e.0 e.1 after e.3 middle, tt), tt)
place_range (a_keyed k L no_keyed) (a_pair j v (a_pair i w ps)) q [] n t before after e fine = absurd q.1
place_range (a_keyed k L no_keyed) no_pairs q [] n t before after e fine = absurd q
place_range (a_keyed k L (a_keyed i X Xs)) ps q [] n t before after e fine = absurd e
place_range no_keyed ps q [] n t before after e fine = absurd e
place_range Ls ps q (u ∷ us) n t before after e fine = absurd (nowhere Ls e)
  where
    nowhere : (Ls : Keyed) → InPlace Lax Ls (u ∷ us) n t before after → ⊥
    nowhere no_keyed e = e
    nowhere (a_keyed k L no_keyed) e = e
    nowhere (a_keyed k L (a_keyed i X Xs)) e = e

dict_range : (Ls : Keyed) (ps : PlainPairs) → RangesBy Ls ps → (us : List (List ℕ × Hidden)) (n : ℕ) (t : Closed)
    (before after : Slice) → SpellsDict Lax Ls us n t before after → Fine before → PairsInRange ps × AreHashes us
dict_range Ls ps q us n t before after (inl e) fine = place_range Ls ps q us n t before after e fine
dict_range Ls ps q us n t before after (inr e) fine =
    contents_range Ls ps q us t e.0 (fork_fine n e.0 before after e.1 fine).0 e.2

empty_range : (Ls : Keyed) (ps : PlainPairs) → RangesBy Ls ps → IsEmpty Ls → PairsInRange ps
empty_range no_keyed no_pairs q e = tt
empty_range no_keyed (a_pair k v ps) q e = absurd q
empty_range (a_keyed k L Ls) ps q e = absurd e

dict_e_range : (Ls : Keyed) (ps : PlainPairs) → RangesBy Ls ps → (us : List (List ℕ × Hidden)) (n : ℕ) (t : Closed)
    (before after : Slice) → SpellsDictE Lax Ls us n t before after → Fine before → PairsInRange ps × AreHashes us
dict_e_range Ls ps q us n t before after (no_entries empty e then) fine =
    let P : List (List ℕ × Hidden) → Type 0 = λ l. AreHashes l in
    (empty_range Ls ps q empty, subst P (sym e) tt)
dict_e_range Ls ps q us n t before after (some_entries c es then branch hold) fine =
    contents_range Ls ps q us t es (branch_fine n es c branch (ref_fine (1 ∷ []) c before after then fine).1) hold

map_range : (Ls : Keyed) (ps : PlainPairs) → RangesBy Ls ps → (us : List (List ℕ × Hidden)) (c : Shape)
    (before : Slice) (outs : List ℕ) (after : Slice) → SpellsMap anywhere Lax Ls us c before outs after → Fine before
    → PairsInRange ps × AreHashes us
map_range Ls ps q us (typed (closed.dict n t)) before outs after e fine = dict_range Ls ps q us n t before after e.1 fine
map_range Ls ps q us (typed (closed.dict_e n t)) before outs after e fine = dict_e_range Ls ps q us n t before after e.1 fine
map_range Ls ps q us _ before outs after e fine = absurd e

-- ---- by recursion on the value

mutual
  shape_range : (schema : CoreSchema) (v : Plain) (c : Shape) (before : Slice) (outs : List ℕ) (after : Slice)
      → SpellsShape Lax schema v c before outs after → Fine before → InRange v
  shape_range schema (number negative size) c before outs after e fine = tt
  shape_range schema (bit_string bits) c before outs after e fine = string_range bits c before outs after e fine
  shape_range schema (record_of (Some name) names vs) c before outs after e fine =
      let tight = all_tightened schema vs in
      declared_range schema name names (Each Lax schema vs) (Each Whole schema vs) tight vs (all_range schema vs) c before
      outs after e fine
  shape_range schema (record_of None names vs) c before outs after e fine =
      let tight = all_tightened schema vs in
      inner_range names (Each Lax schema vs) (Each Whole schema vs) tight vs (all_range schema vs) c before outs after e fine
  shape_range schema absent c before outs after e fine = tt
  shape_range schema (list_of vs) c before outs after e fine =
      let tight = all_tightened schema vs in
      list_range (Each Lax schema vs) (Each Whole schema vs) tight vs (all_range schema vs) c before outs after e fine
  shape_range schema (ref_to a v) c before outs after e fine =
      ref_range (Spells Lax schema v) v (λ g b o x d f. shape_range schema v d.0 b o x d.2 f) c before outs after e fine
  shape_range schema (unknown h) c before outs after e fine = unknown_range h c before outs after e
  shape_range schema (map_of a ps us) c before outs after e fine =
      map_range (EachPair Lax schema ps) ps (by_range schema ps) us c before outs after e fine
  shape_range schema (raw x) c before outs after e fine = raw_range x c before outs after e fine
  shape_range schema (rest s) c before outs after e fine = rest_range s c before outs after e fine

  all_range : (schema : CoreSchema) (vs : Plains) → RangesAll (Each Lax schema vs) vs
  all_range schema no_vals = tt
  all_range schema (a_val v vs) = ((λ g b o x d f. shape_range schema v d.0 b o x d.2 f), all_range schema vs)

  by_range : (schema : CoreSchema) (ps : PlainPairs) → RangesBy (EachPair Lax schema ps) ps
  by_range schema no_pairs = tt
  by_range schema (a_pair k v ps) = ((λ g b o x d f. shape_range schema v d.0 b o x d.2 f), by_range schema ps)

-- the value of a root
pub root_range : (schema : CoreSchema) (t : Closed) (v : Plain) (c : Tree) → IsRootOf Lax schema t c v → IsGood c
    → InRange v
root_range schema t v c (inl h) g =
    holds_range (Spells Lax schema v) v (λ k b o x d f. shape_range schema v d.0 b o x d.2 f) (under_ref t) c h g
root_range schema t (unknown h) c (inr e) g = let seen = e.0 in cc
root_range schema t (number negative size) c (inr e) g = absurd e
root_range schema t (bit_string bits) c (inr e) g = absurd e
root_range schema t (record_of name names vs) c (inr e) g = absurd e
root_range schema t absent c (inr e) g = absurd e
root_range schema t (list_of vs) c (inr e) g = absurd e
root_range schema t (ref_to _ v) c (inr e) g = absurd e
root_range schema t (map_of _ ps us) c (inr e) g = absurd e
root_range schema t (raw d) c (inr e) g = absurd e
root_range schema t (rest r) c (inr e) g = absurd e
