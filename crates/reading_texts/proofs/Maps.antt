-- Dictionaries without hidden parts: their entries can be written.
use Rattle.std.proofs.Common.{◌≡◌, inl, inr, ℕ, ◌+◌, ◌≤◌, ◌∙◌, ap, sym, subst, refl, arith, List, [], ◌∷◌, ◌++◌, length, map, true}
use Rattle.std.specs.Prelude.{IsTrue}
use Rattle.std.proofs.lemmas.Bool.{leb-true}
use Rattle.building.specs.Planting.{labeled}
use Rattle.building_laws.specs.MapLaws.{AllHeld, AreSound, branch_sound, fork_sound, key_bits, label_then}
use Rattle.building_laws.specs.MoveLaws.{IsHeld, held_after}
use Rattle.building_laws.specs.PlantLaws.{good_both, label_is, label_more}
use Rattle.cell_nodes.specs.Good.{IsGood, AllGood}
use Rattle.cell_nodes.specs.GoodParts.{all_good-head}
use Rattle.cell_nodes.specs.Tree.{total, unfolded}
use Rattle.cell_nodes.specs.declared.tree.Hidden.{Hidden}
use Rattle.cell_nodes.specs.declared.tree.Mode.TheVariants.{Whole}
use Rattle.cell_nodes.specs.declared.tree.Tree.{Tree}
use Rattle.core_form.specs.Closed.{Closed}
use Rattle.core_form.specs.Closed as closed
use Rattle.hashmap_tree.specs.Dict.{DictTree, one, two, Branch, open_edge, hidden_edge}
use Rattle.hashmap_tree.specs.Entries.{Slice, Then, leaf, hidden, Entries, under, fork}
use Rattle.hashmap_tree.specs.First.{Fork, forked}
use Rattle.hashmap_tree.specs.Order.{AreInOrder}
use Rattle.hashmap_tree.specs.OrderedLaws.{order-bits, order-rest, order-stand}
use Rattle.spelling.specs.Goals.{Goal, at_type, Shape, typed}
use Rattle.spelling.specs.Slices.{nothing, only_bits}
use Rattle.spelling.specs.Spells.{Meaning, Keyed, no_keyed, a_keyed, EntriesHold, InPlace, IsEmpty, SpellsDict, SpellsDictE, no_entries, some_entries, SpellsMap, free}
use Rattle.typed_value.specs.Values.{Plain, PlainPairs, map_of, no_pairs, a_pair}
use Rattle.value_text.specs.Writes.{AreEntries, AreFew, AreHidden, cells_by, in_order, keys_of}
use Rattle.reading_texts.proofs.Cells.{branch-cells, cells, cells-then, held_cells, held-fork, held-same}
use Rattle.reading_texts.proofs.Fits.{Fit, takes-bits}
use Rattle.reading_texts.proofs.Goals.{IsFair, IsSound}
use Rattle.reading_texts.proofs.Keys.{after-comes}
use Rattle.reading_texts.proofs.Types.{Small}

-- a value with this meaning can be written
abbrev pub Writes : Meaning → Plain → Type 0
Writes M v =
    (g : Goal) (before : Slice) (outs : List ℕ) (after : Slice) → M g before outs after → IsFair g → IsHeld before
    → Fit v before after

abbrev pub WritesBy : Keyed → PlainPairs → Type 0
WritesBy no_keyed no_pairs = Unit {0}
WritesBy no_keyed (a_pair k v ps) = ⊥
WritesBy (a_keyed k M Ms) no_pairs = ⊥
WritesBy (a_keyed k M Ms) (a_pair j v ps) = (k ≡ j) × Writes M v × WritesBy Ms ps

-- ---- nothing is hidden

abbrev pub AllOpen : Entries → Type 0
AllOpen [] = Unit {0}
AllOpen ((k, leaf c) ∷ es) = AllOpen es
AllOpen ((k, hidden h) ∷ es) = ⊥

open-under : (p : List ℕ) (es : Entries) → AllOpen es → AllOpen (under p es)
open-under p [] h = tt
open-under p ((k, leaf c) ∷ es) h = open-under p es h
open-under p ((k, hidden x) ∷ es) h = absurd h

open-both : (ds es : Entries) → AllOpen ds → AllOpen es → AllOpen (ds ++ es)
open-both [] es h k = k
open-both ((q, leaf c) ∷ ds) es h k = open-both ds es h k
open-both ((q, hidden x) ∷ ds) es h k = absurd h

open-fork : (p : List ℕ) (zs os : Entries) → AllOpen zs → AllOpen os → AllOpen (fork p zs os)
open-fork p zs os h k =
    open-both (under (p ++ 0 ∷ []) zs) (under (p ++ 1 ∷ []) os) (open-under (p ++ 0 ∷ []) zs h) (open-under (p ++ 1 ∷ []) os k)

open-as : (es fs : Entries) → es ≡ fs → AllOpen fs → AllOpen es
open-as es fs e h = let P : Entries → Type 0 = AllOpen in subst P (sym e) h

mutual
  tree-bare : (n : ℕ) (es : Entries) (s : Slice) → DictTree Whole n es s → AllOpen es
  tree-bare n es s (one _ _ _ _ k c e l f g) = open-as es ((k, leaf c) ∷ []) e tt
  tree-bare n es s (two _ _ _ _ p m zs os z o e l f g x y) =
      open-as es (fork p zs os) e (open-fork p zs os (branch-bare m zs z x) (branch-bare m os o y))

  branch-bare : (m : ℕ) (es : Entries) (t : Tree) → Branch Whole m es t → AllOpen es
  branch-bare m es t (open_edge _ _ _ _ s e d) = tree-bare m es s d
  branch-bare m es t (hidden_edge _ _ _ _ h u e) = absurd (let seen = u in cc)

-- ---- keys

abbrev keys : Entries → List (List ℕ)
keys [] = []
keys (e ∷ es) = e.0 ∷ keys es

order-keys : (n : ℕ) (es : Entries) → AllOpen es → AreInOrder n es → in_order (keys es) ≡ true
order-keys n [] a o = refl
order-keys n ((k, hidden h) ∷ es) a o = absurd a
order-keys n ((k, leaf c) ∷ []) a o = refl
order-keys n ((k, leaf c) ∷ (j, hidden h) ∷ es) a o = absurd a
order-keys n ((k, leaf c) ∷ (j, leaf d) ∷ es) a o =
    let rest = order-keys n ((j, leaf d) ∷ es) a o.3 in
    rw (after-comes n k j o.0 (order-stand n (j, leaf d) es o.3) o.2, rest) refl

-- ---- contents

-- the values of these entries can be written behind their keys
pub record FitMap (ps : PlainPairs) (us : List (List ℕ × Hidden)) (es : Entries) : Type 0 where
  pub alone : us ≡ []
  pub entries : AreEntries ps
  pub keys_are : keys_of ps [] ≡ keys es
  pub fewer : cells_by ps ≤ held_cells es

contents-fit : (Ms : Keyed) (ps : PlainPairs) → WritesBy Ms ps → (us : List (List ℕ × Hidden)) (n : ℕ) (t : Closed)
    (es : Entries) → n ≤ 1023 → Small t → AllOpen es → AreInOrder n es → AllHeld es → EntriesHold Ms us t es
    → FitMap ps us es
contents-fit no_keyed no_pairs q us n t [] l s a o h e =
    record { alone = sym e.1; entries = tt; keys_are = refl; fewer = omega arith }
contents-fit no_keyed (a_pair k v ps) q us n t [] l s a o h e = absurd q
contents-fit (a_keyed k M Ms) ps q us n t [] l s a o h e = absurd e.0
contents-fit Ms ps q us n t ((k, hidden x) ∷ es) l s a o h e = absurd a
contents-fit no_keyed ps q us n t ((k, leaf c) ∷ es) l s a o h e = let wrong = e.0 in absurd (cc)
contents-fit (a_keyed j M Ms) no_pairs q us n t ((k, leaf c) ∷ es) l s a o h e = absurd q
contents-fit (a_keyed j M Ms) (a_pair i v ps) q us n t ((k, leaf c) ∷ es) l s a o h e =
    let others =
    contents-fit Ms ps q.2 us n t es l s a (order-rest n (k, leaf c) es o) h.1 (e.0.3, e.1) in
    let here = q.1 (at_type t) c e.0.0 nothing e.0.2 s h.0 in
    let long : length k ≡ n = order-stand n (k, leaf c) es o in
    let same : i ≡ k = sym q.0 ∙ sym e.0.1 in
    let few : AreFew k = (order-bits n (k, leaf c) es o, omega (arith, long, l)) in
    let low = here.fewer in
    let lows = others.fewer in
    record {
      alone = others.alone;
      entries = (subst AreFew (sym same) few, here.formed, others.entries);
      keys_are = (λ x. same x ∷ others.keys_are x);
      fewer = omega (arith, low, lows);
    }

-- ---- a whole map

none-hidden : AreHidden []
none-hidden = tt

-- the map of these entries, and what is left after them
map-of-entries : (a : Unit {0}) (ps : PlainPairs) (us : List (List ℕ × Hidden)) (n : ℕ) (es : Entries)
    (before after : Slice) → AllOpen es → AreInOrder n es → FitMap ps us es → IsHeld after
    → held_cells es + cells after ≤ cells before → Fit (map_of a ps us) before after
map-of-entries a ps us n es before after bare order fit held l =
    let P : List (List ℕ × Hidden) → Type 0 = λ x. AreHidden x × IsTrue (in_order (keys_of ps x)) in
    let sorted : in_order (keys_of ps []) ≡ true = ap in_order fit.keys_are ∙ order-keys n es bare order in
    let rest : P us = subst P (sym fit.alone) (none-hidden, sorted) in
    let low = fit.fewer in
    record { formed = (fit.entries, rest.0, rest.1); held = held; fewer = omega (arith, low, l) }

-- one value, which goes on in place
place-fit : (a : Unit {0}) (Ms : Keyed) (ps : PlainPairs) → WritesBy Ms ps → (us : List (List ℕ × Hidden)) (n : ℕ)
    (t : Closed) (before after : Slice) → n ≤ 1023 → Small t → InPlace Whole Ms us n t before after → IsHeld before
    → Fit (map_of a ps us) before after
place-fit a (a_keyed k M no_keyed) (a_pair j v no_pairs) q [] n t before after l s e held =
    let edge = e.2 in
    let middle = held_after before (only_bits (labeled n k [])) e.0
    (label_then Whole refl n k before e.0 edge.label edge.refs) held in
    let here = q.1 (at_type t) e.0 e.1 after e.3 s middle in
    let long = edge.long in
    let few : AreFew k = (key_bits Whole n k before.bits e.0.bits edge.label held.bits, omega (arith, long, l)) in
    let same = ap (λ (x : List Tree). total (map unfolded x)) edge.refs in
    let low = here.fewer in
    record {
      formed = ((subst AreFew q.0 few, here.formed, tt), tt, refl);
      held = here.held;
      fewer = omega (arith, same, low);
    }
place-fit a (a_keyed k M no_keyed) (a_pair j v (a_pair i w ps)) q [] n t before after l s e held = absurd q.2
place-fit a (a_keyed k M no_keyed) no_pairs q [] n t before after l s e held = absurd q
place-fit a (a_keyed k M (a_keyed i X Xs)) ps q [] n t before after l s e held = absurd e
place-fit a no_keyed ps q [] n t before after l s e held = absurd e
place-fit a Ms ps q (u ∷ us) n t before after l s e held = absurd (nowhere Ms e)
  where
    nowhere : (Ms : Keyed) → InPlace Whole Ms (u ∷ us) n t before after → ⊥
    nowhere no_keyed e = e
    nowhere (a_keyed k M no_keyed) e = e
    nowhere (a_keyed k M (a_keyed i X Xs)) e = e

fork-fit : (a : Unit {0}) (Ms : Keyed) (ps : PlainPairs) → WritesBy Ms ps → (us : List (List ℕ × Hidden)) (n : ℕ)
    (t : Closed) (es : Entries) (before after : Slice) → n ≤ 1023 → Small t → Fork Whole n es before after
    → EntriesHold Ms us t es → IsHeld before → Fit (map_of a ps us) before after
fork-fit a Ms ps q us n t es before after l s (forked p m zs os z o e long f g x y) hold held =
    let taken : Slice = record { bits = labeled n p []; refs = z ∷ (o ∷ []) } in
    let put : Then before taken after = record {
      bits = label_is Whole refl n p before.bits after.bits f ∙ label_more n p [] after.bits;
      refs = g;
    } in
    let rest = held_after before taken after put held in
    let fine = good_both before z o after.refs held g in
    let bits = key_bits Whole n p before.bits after.bits f held.bits in
    let sound = fork_sound n m p zs os bits long (branch_sound Whole refl m zs z x fine.0) (branch_sound Whole refl m os o y fine.1) in
    let P : Entries → Type 0 = AreSound n in
    let all : AreSound n es = subst P (sym e) sound in
    let bare = open-as es (fork p zs os) e (open-fork p zs os (branch-bare m zs z x) (branch-bare m os o y)) in
    let fit = contents-fit Ms ps q us n t es l s bare all.order all.held hold in
    let i = held-same es (fork p zs os) e in
    let j = held-fork p zs os in
    let b = branch-cells Whole m zs z x in
    let c = branch-cells Whole m os o y in
    let d = cells-then before taken after put in
    map-of-entries a ps us n es before after bare all.order fit rest (omega (arith, i, j, b, c, d))

dict-fit : (a : Unit {0}) (Ms : Keyed) (ps : PlainPairs) → WritesBy Ms ps → (us : List (List ℕ × Hidden)) (n : ℕ)
    (t : Closed) (before after : Slice) → n ≤ 1023 → Small t → SpellsDict Whole Ms us n t before after → IsHeld before
    → Fit (map_of a ps us) before after
dict-fit a Ms ps q us n t before after l s (inl e) held = place-fit a Ms ps q us n t before after l s e held
dict-fit a Ms ps q us n t before after l s (inr e) held = fork-fit a Ms ps q us n t e.0 before after l s e.1 e.2 held

-- the first cell
good-first : (s : Slice) (c : Tree) (cs : List Tree) → IsHeld s → s.refs ≡ c ∷ cs → IsGood c
good-first s c cs held e = all_good-head c cs (subst AllGood e held.within.good)

empty-fit : (a : Unit {0}) (Ms : Keyed) (ps : PlainPairs) → WritesBy Ms ps → IsEmpty Ms → (before after : Slice)
    → Then before (only_bits (0 ∷ [])) after → IsHeld before → Fit (map_of a ps []) before after
empty-fit a no_keyed no_pairs q e before after put held =
    let taken = takes-bits (0 ∷ []) before after put held in
    let same = taken.same in
    record { formed = (tt, tt, refl); held = taken.held; fewer = omega (arith, same) }
empty-fit a no_keyed (a_pair k v ps) q e before after put held = absurd q
empty-fit a (a_keyed k M Ms) ps q e before after put held = absurd e

dict_e-fit : (a : Unit {0}) (Ms : Keyed) (ps : PlainPairs) → WritesBy Ms ps → (us : List (List ℕ × Hidden)) (n : ℕ)
    (t : Closed) (before after : Slice) → n ≤ 1023 → Small t → SpellsDictE Whole Ms us n t before after → IsHeld before
    → Fit (map_of a ps us) before after
dict_e-fit a Ms ps q us n t before after l s (no_entries empty e put) held =
    let P : List (List ℕ × Hidden) → Type 0 = λ x. Fit (map_of a ps x) before after in
    subst P (sym e) (empty-fit a Ms ps q empty before after put held)
dict_e-fit a Ms ps q us n t before after l s (some_entries c es put branch hold) held =
    let taken : Slice = record { bits = 1 ∷ []; refs = c ∷ [] } in
    let rest = held_after before taken after put held in
    let good = good-first before c after.refs held put.refs in
    let sound = branch_sound Whole refl n es c branch good in
    let bare = branch-bare n es c branch in
    let fit = contents-fit Ms ps q us n t es l s bare sound.order sound.held hold in
    let b = branch-cells Whole n es c branch in
    let d = cells-then before taken after put in
    map-of-entries a ps us n es before after bare sound.order fit rest (omega (arith, b, d))

pub map-fit : (a : Unit {0}) (Ms : Keyed) (ps : PlainPairs) → WritesBy Ms ps → (us : List (List ℕ × Hidden)) (c : Shape)
    (before : Slice) (outs : List ℕ) (after : Slice) → SpellsMap (free a) Whole Ms us c before outs after → IsSound c
    → IsHeld before → Fit (map_of a ps us) before after
map-fit a Ms ps q us (typed (closed.dict n t)) before outs after e s held =
    dict-fit a Ms ps q us n t before after (leb-true n 1023 s.1) s.0 e.1 held
map-fit a Ms ps q us (typed (closed.dict_e n t)) before outs after e s held =
    dict_e-fit a Ms ps q us n t before after (leb-true n 1023 s.1) s.0 e.1 held
map-fit a Ms ps q us _ before outs after e s held = absurd e
