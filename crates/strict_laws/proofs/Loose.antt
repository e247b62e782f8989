-- What spells a value in mode Whole spells it in mode Lax.
use Rattle.std.proofs.Common.{◌≡◌, inl, inr, ℕ, List, [], ◌∷◌, Some, None, refl, sym, ◌∙◌, subst}
use Rattle.cell_nodes.specs.declared.tree.Hidden.{Hidden}
use Rattle.cell_nodes.specs.declared.tree.Mode.TheVariants.{Whole, Lax}
use Rattle.cell_nodes.specs.declared.tree.Tree.{Tree}
use Rattle.core_form.specs.Core.{Word, Items, no_items, an_item, check, solve, field, sets, CoreSchema}
use Rattle.core_form.specs.Closed.{Closed}
use Rattle.core_form.specs.Closed as closed
use Rattle.core_form.specs.Scope.{Scope, with_number, bind}
use Rattle.hashmap_labels.specs.Labels.{IsLabel}
use Rattle.hashmap_labels.specs.declared.forms.Forms.TheVariants.{Required, Every}
use Rattle.hashmap_tree.specs.Dict.{DictTree, one, two, Branch, open_edge, hidden_edge}
use Rattle.hashmap_tree.specs.Entries.{Slice, Entries, pairs_in}
use Rattle.hashmap_tree.specs.First.{LeafEdge, Fork, forked}
use Rattle.spelling.specs.Goals.{Goal, at_type, at_field, at_cell, Shape, typed, fields_here, fields_under, at_fields, under_ref}
use Rattle.spelling.specs.Slices.{nothing, only_ref}
use Rattle.spelling.specs.Spells.{Meaning, Meanings, no_meanings, a_meaning, Keyed, no_keyed, a_keyed, Fields, SpellsDeclared}
use Rattle.spelling.specs.Spells.{SpellsInner, Repeats, SpellsList, Holds, SpellsChild, SpellsRef, SpellsUnknown, Contents}
use Rattle.spelling.specs.Spells.{InPlace, SpellsDict, IsEmpty, SpellsDictE, no_entries, some_entries, SpellsMap, Spells}
use Rattle.spelling.specs.Spells.{SpellsShape, Each, EachPair, IsRootOf}
use Rattle.typed_value.specs.Values.{Plain, Plains, PlainPairs, number, bit_string, record_of, absent, list_of, ref_to, unknown}
use Rattle.typed_value.specs.Values.{map_of, raw, rest, no_vals, a_val, no_pairs, a_pair}
use Rattle.strict_laws.specs.Laws.{WholeIsLax}
use Rattle.strict_laws.proofs.Forms.{anywhere}

-- ---- meanings

abbrev Loosens : Meaning → Meaning → Type 0
Loosens W L = (g : Goal) (s : Slice) (outs : List ℕ) (after : Slice) → W g s outs after → L g s outs after

abbrev LoosensAll : Meanings → Meanings → Type 0
LoosensAll no_meanings no_meanings = Unit {0}
LoosensAll no_meanings (a_meaning L Ls) = ⊥
LoosensAll (a_meaning W Ws) no_meanings = ⊥
LoosensAll (a_meaning W Ws) (a_meaning L Ls) = Loosens W L × LoosensAll Ws Ls

abbrev LoosensBy : Keyed → Keyed → Type 0
LoosensBy no_keyed no_keyed = Unit {0}
LoosensBy no_keyed (a_keyed j L Ls) = ⊥
LoosensBy (a_keyed k W Ws) no_keyed = ⊥
LoosensBy (a_keyed k W Ws) (a_keyed j L Ls) = (j ≡ k) × Loosens W L × LoosensBy Ws Ls

-- ---- records, lists and references

fields_loosened : (is : Items) (Ws Ls : Meanings) → LoosensAll Ws Ls → (scope : Scope) (s : Slice) (end : Scope)
    (after : Slice) → Fields is Ws scope s end after → Fields is Ls scope s end after
fields_loosened no_items no_meanings no_meanings r scope s end after e = e
fields_loosened no_items no_meanings (a_meaning L Ls) r scope s end after e = absurd r
fields_loosened no_items (a_meaning W Ws) Ls r scope s end after e = absurd e
fields_loosened (an_item (check a op b i) is) Ws Ls r scope s end after e =
    (e.0, e.1, e.2, e.3, e.4, fields_loosened is Ws Ls r scope s end after e.5)
fields_loosened (an_item (solve v a b i) is) Ws Ls r scope s end after e =
    (e.0, e.1, fields_loosened is Ws Ls r (with_number v e.0 scope) s end after e.2)
fields_loosened (an_item (field x slot c t) is) no_meanings Ls r scope s end after e = absurd e
fields_loosened (an_item (field x slot c t) is) (a_meaning W Ws) no_meanings r scope s end after e = absurd r
fields_loosened (an_item (field x slot c t) is) (a_meaning W Ws) (a_meaning L Ls) r scope s end after e = (
  e.0,
  e.1,
  r.0 (at_field c t scope) s e.0 e.1 e.2,
  fields_loosened is Ws Ls r.1 (bind (sets slot t) e.0 scope) e.1 end after e.3,
)

declared_loosened : (schema : CoreSchema) (name : Word) (names : List Word) (Ws Ls : Meanings) → LoosensAll Ws Ls
    → (c : Shape) (s : Slice) (outs : List ℕ) (after : Slice) → SpellsDeclared schema name names Ws c s outs after
    → SpellsDeclared schema name names Ls c s outs after
declared_loosened schema name names Ws Ls r (typed (closed.named type args)) s outs after e =
    (e.0, e.1, e.2, e.3, e.4, e.5, e.6, e.7, fields_loosened e.1.core.items Ws Ls r e.2 e.3 e.4 after e.8, e.9)
declared_loosened schema name names Ws Ls r _ s outs after e = absurd e

inner_loosened : (names : List Word) (Ws Ls : Meanings) → LoosensAll Ws Ls → (c : Shape) (s : Slice) (outs : List ℕ)
    (after : Slice) → SpellsInner names Ws c s outs after → SpellsInner names Ls c s outs after
inner_loosened names Ws Ls r (fields_here is scope) s outs after e =
    (e.0, e.1, e.2, fields_loosened is Ws Ls r scope s e.2 after e.3)
inner_loosened names Ws Ls r _ s outs after e = absurd e

repeats_loosened : (Ws Ls : Meanings) → LoosensAll Ws Ls → (n : ℕ) (t : Closed) (s after : Slice)
    → Repeats Ws n t s after → Repeats Ls n t s after
repeats_loosened no_meanings no_meanings r n t s after e = e
repeats_loosened no_meanings (a_meaning L Ls) r n t s after e = absurd r
repeats_loosened (a_meaning W Ws) no_meanings r n t s after e = absurd r
repeats_loosened (a_meaning W Ws) (a_meaning L Ls) r n t s after e =
    (e.0, e.1, e.2, e.3, r.0 (at_type t) s e.1 e.2 e.4, e.5, repeats_loosened Ws Ls r.1 e.0 t e.2 after e.6)

list_loosened : (Ws Ls : Meanings) → LoosensAll Ws Ls → (c : Shape) (s : Slice) (outs : List ℕ) (after : Slice)
    → SpellsList Ws c s outs after → SpellsList Ls c s outs after
list_loosened Ws Ls r (typed (closed.repeat n t)) s outs after e = (e.0, repeats_loosened Ws Ls r n t s after e.1)
list_loosened Ws Ls r _ s outs after e = absurd e

holds_loosened : (W L : Meaning) → Loosens W L → (g : Goal) (c : Tree) → Holds Whole W g c → Holds Lax L g c
holds_loosened W L r at_cell c e = (e.0, e.1, r at_cell (only_ref c) e.0 nothing e.2)
holds_loosened W L r (at_type t) c e = (e.0, e.1, e.2, r (at_type t) e.0 e.1 nothing e.3)
holds_loosened W L r (at_field x t scope) c e = (e.0, e.1, e.2, r (at_field x t scope) e.0 e.1 nothing e.3)

child_loosened : (W L : Meaning) → Loosens W L → (g : Goal) (s : Slice) (outs : List ℕ) (after : Slice)
    → SpellsChild anywhere Whole W g s outs after → SpellsChild anywhere Lax L g s outs after
child_loosened W L r g s outs after e = (e.0, e.1, e.2, holds_loosened W L r g e.0 e.3, tt)

ref_loosened : (W L : Meaning) → Loosens W L → (c : Shape) (s : Slice) (outs : List ℕ) (after : Slice)
    → SpellsRef anywhere Whole W c s outs after → SpellsRef anywhere Lax L c s outs after
ref_loosened W L r (typed (closed.ref t)) s outs after e = child_loosened W L r (under_ref t) s outs after e
ref_loosened W L r (fields_under is scope) s outs after e = child_loosened W L r (at_fields is scope) s outs after e
ref_loosened W L r _ s outs after e = absurd e

unknown_loosened : (h : Hidden) (c : Shape) (s : Slice) (outs : List ℕ) (after : Slice)
    → SpellsUnknown Whole h c s outs after → SpellsUnknown Lax h c s outs after
unknown_loosened h (typed (closed.ref t)) s outs after e = e
unknown_loosened h (fields_under is scope) s outs after e = e
unknown_loosened h _ s outs after e = absurd e

-- ---- maps

label_loosened : (n : ℕ) (l s more : List ℕ) → IsLabel Required n l s more → IsLabel Every n l s more
label_loosened n l s more e = (e.0, e.1, tt, e.3)

mutual
  tree_loosened : (n : ℕ) (es : Entries) (s : Slice) → DictTree Whole n es s → DictTree Lax n es s
  tree_loosened n es s (one _ _ _ _ k c same long label refs) =
      one Lax n es s k c same long (label_loosened n k s.bits c.bits label) refs
  tree_loosened n es s (two _ _ _ _ p m zs os z o same long label refs dz do_) =
      let zeros = branch_loosened m zs z dz in
      let ones = branch_loosened m os o do_ in
      two Lax n es s p m zs os z o same long (label_loosened n p s.bits [] label) refs zeros ones

  branch_loosened : (n : ℕ) (es : Entries) (c : Tree) → Branch Whole n es c → Branch Lax n es c
  branch_loosened n es c (open_edge _ _ _ _ s same d) = open_edge Lax n es c s same (tree_loosened n es s d)
  branch_loosened n es c (hidden_edge _ _ _ _ h seen same) = hidden_edge Lax n es c h seen same

fork_loosened : (n : ℕ) (es : Entries) (s after : Slice) → Fork Whole n es s after → Fork Lax n es s after
fork_loosened n es s after (forked p m zs os z o same long label refs dz do_) =
    let zeros = branch_loosened m zs z dz in
    let ones = branch_loosened m os o do_ in
    forked p m zs os z o same long (label_loosened n p s.bits after.bits label) refs zeros ones

contents_loosened : (Ws Ls : Keyed) → LoosensBy Ws Ls → (t : Closed) (ls : List (List ℕ × Slice)) → Contents Ws t ls
    → Contents Ls t ls
contents_loosened no_keyed no_keyed r t ls e = e
contents_loosened no_keyed (a_keyed j L Ls) r t ls e = absurd r
contents_loosened (a_keyed k W Ws) no_keyed r t ls e = absurd r
contents_loosened (a_keyed k W Ws) (a_keyed j L Ls) r t [] e = absurd e
contents_loosened (a_keyed k W Ws) (a_keyed j L Ls) r t (l ∷ ls) e =
    (e.0, e.1 ∙ sym r.0, r.1 (at_type t) l.1 e.0 nothing e.2, contents_loosened Ws Ls r.2 t ls e.3)

place_loosened : (Ws Ls : Keyed) → LoosensBy Ws Ls → (us : List (List ℕ × Hidden)) (n : ℕ) (t : Closed) (s after : Slice)
    → InPlace Whole Ws us n t s after → InPlace Lax Ls us n t s after
place_loosened (a_keyed k W no_keyed) (a_keyed j L no_keyed) r [] n t s after e =
    let label : LeafEdge Lax n k s e.0 = record {
      long = e.2.long;
      label = label_loosened n k s.bits e.0.bits e.2.label;
      refs = e.2.refs;
    } in
    let K : List ℕ → Type 0 = λ x. LeafEdge Lax n x s e.0 in
    (e.0, e.1, subst K (sym r.0) label, r.1 (at_type t) e.0 e.1 after e.3)
place_loosened (a_keyed k W no_keyed) (a_keyed j L (a_keyed i X Xs)) r [] n t s after e = absurd r.2
place_loosened (a_keyed k W no_keyed) no_keyed r [] n t s after e = absurd r
place_loosened (a_keyed k W (a_keyed i X Xs)) Ls r [] n t s after e = absurd e
place_loosened no_keyed Ls r [] n t s after e = absurd e
place_loosened Ws Ls r (u ∷ us) n t s after e = absurd (nowhere Ws e)
  where
    nowhere : (Ws : Keyed) → InPlace Whole Ws (u ∷ us) n t s after → ⊥
    nowhere no_keyed e = e
    nowhere (a_keyed k W no_keyed) e = e
    nowhere (a_keyed k W (a_keyed i X Xs)) e = e

dict_loosened : (Ws Ls : Keyed) → LoosensBy Ws Ls → (us : List (List ℕ × Hidden)) (n : ℕ) (t : Closed) (s after : Slice)
    → SpellsDict Whole Ws us n t s after → SpellsDict Lax Ls us n t s after
dict_loosened Ws Ls r us n t s after (inl e) = inl (place_loosened Ws Ls r us n t s after e)
dict_loosened Ws Ls r us n t s after (inr e) =
    inr (e.0, fork_loosened n e.0 s after e.1, (contents_loosened Ws Ls r t (pairs_in e.0) e.2.0, e.2.1))

empty_loosened : (Ws Ls : Keyed) → LoosensBy Ws Ls → IsEmpty Ws → IsEmpty Ls
empty_loosened no_keyed no_keyed r e = tt
empty_loosened no_keyed (a_keyed j L Ls) r e = absurd r
empty_loosened (a_keyed k W Ws) Ls r e = absurd e

dict_e_loosened : (Ws Ls : Keyed) → LoosensBy Ws Ls → (us : List (List ℕ × Hidden)) (n : ℕ) (t : Closed)
    (s after : Slice) → SpellsDictE Whole Ws us n t s after → SpellsDictE Lax Ls us n t s after
dict_e_loosened Ws Ls r us n t s after (no_entries empty e then) = no_entries (empty_loosened Ws Ls r empty) e then
dict_e_loosened Ws Ls r us n t s after (some_entries c es then branch hold) =
    some_entries c es then (branch_loosened n es c branch) (contents_loosened Ws Ls r t (pairs_in es) hold.0, hold.1)

map_loosened : (Ws Ls : Keyed) → LoosensBy Ws Ls → (us : List (List ℕ × Hidden)) (c : Shape) (s : Slice)
    (outs : List ℕ) (after : Slice) → SpellsMap anywhere Whole Ws us c s outs after
    → SpellsMap anywhere Lax Ls us c s outs after
map_loosened Ws Ls r us (typed (closed.dict n t)) s outs after e = (e.0, dict_loosened Ws Ls r us n t s after e.1, tt)
map_loosened Ws Ls r us (typed (closed.dict_e n t)) s outs after e = (e.0, dict_e_loosened Ws Ls r us n t s after e.1, tt)
map_loosened Ws Ls r us _ s outs after e = absurd e

-- ---- by recursion on the value

mutual
  shape_loosened : (schema : CoreSchema) (v : Plain) (c : Shape) (s : Slice) (outs : List ℕ) (after : Slice)
      → SpellsShape Whole schema v c s outs after → SpellsShape Lax schema v c s outs after
  shape_loosened schema (number negative size) c s outs after e = e
  shape_loosened schema (bit_string bits) c s outs after e = e
  shape_loosened schema (record_of (Some name) names vs) c s outs after e =
      declared_loosened schema name names (Each Whole schema vs) (Each Lax schema vs) (all_loosened schema vs) c s outs after e
  shape_loosened schema (record_of None names vs) c s outs after e =
      inner_loosened names (Each Whole schema vs) (Each Lax schema vs) (all_loosened schema vs) c s outs after e
  shape_loosened schema absent c s outs after e = e
  shape_loosened schema (list_of vs) c s outs after e =
      list_loosened (Each Whole schema vs) (Each Lax schema vs) (all_loosened schema vs) c s outs after e
  shape_loosened schema (ref_to a v) c s outs after e =
      ref_loosened (Spells Whole schema v) (Spells Lax schema v) (λ g b o x d. (d.0, d.1, shape_loosened schema v d.0 b o x d.2))
      c s outs after e
  shape_loosened schema (unknown h) c s outs after e = unknown_loosened h c s outs after e
  shape_loosened schema (map_of a ps us) c s outs after e =
      map_loosened (EachPair Whole schema ps) (EachPair Lax schema ps) (by_loosened schema ps) us c s outs after e
  shape_loosened schema (raw d) c s outs after e = e
  shape_loosened schema (rest d) c s outs after e = e

  all_loosened : (schema : CoreSchema) (vs : Plains) → LoosensAll (Each Whole schema vs) (Each Lax schema vs)
  all_loosened schema no_vals = tt
  all_loosened schema (a_val v vs) =
      ((λ g b o x d. (d.0, d.1, shape_loosened schema v d.0 b o x d.2)), all_loosened schema vs)

  by_loosened : (schema : CoreSchema) (ps : PlainPairs) → LoosensBy (EachPair Whole schema ps) (EachPair Lax schema ps)
  by_loosened schema no_pairs = tt
  by_loosened schema (a_pair k v ps) =
      (refl, (λ g b o x d. (d.0, d.1, shape_loosened schema v d.0 b o x d.2)), by_loosened schema ps)

root_loosened : (schema : CoreSchema) (t : Closed) (v : Plain) (c : Tree) → IsRootOf Whole schema t c v
    → IsRootOf Lax schema t c v
root_loosened schema t v c (inl h) =
    let one : Loosens (Spells Whole schema v) (Spells Lax schema v) =
    λ g b o x d. (d.0, d.1, shape_loosened schema v d.0 b o x d.2) in
    inl (holds_loosened (Spells Whole schema v) (Spells Lax schema v) one (under_ref t) c h)
root_loosened schema t (unknown h) c (inr e) = inr e
root_loosened schema t (number negative size) c (inr e) = absurd e
root_loosened schema t (bit_string bits) c (inr e) = absurd e
root_loosened schema t (record_of name names vs) c (inr e) = absurd e
root_loosened schema t absent c (inr e) = absurd e
root_loosened schema t (list_of vs) c (inr e) = absurd e
root_loosened schema t (ref_to _ v) c (inr e) = absurd e
root_loosened schema t (map_of _ ps us) c (inr e) = absurd e
root_loosened schema t (raw d) c (inr e) = absurd e
root_loosened schema t (rest r) c (inr e) = absurd e

pub whole_is_lax : WholeIsLax
whole_is_lax schema t v c e = record { root = root_loosened schema t v c e.root; deep = e.deep; large = e.large }
