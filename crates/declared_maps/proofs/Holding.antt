-- What the contents of a fork's leaves spell, taken apart and put together.
use Rattle.std.proofs.Common.{◌≡◌, ℕ, List, [], ◌∷◌, ◌++◌, refl, sym, ap, ◌∙◌, subst, inl, inr}
use Rattle.cell_nodes.specs.declared.tree.Hidden.{Hidden}
use Rattle.cell_nodes.specs.declared.tree.Mode.TheVariants.{Whole}
use Rattle.hashmap_tree.specs.Entries.{Slice, Entries, leaf, hidden, under, fork, pairs_in, hidden_in}
use Rattle.hashmap_tree.specs.Dict.{DictTree, one, two}
use Rattle.hashmap_tree.specs.First.{LeafEdge, Fork, forked}
use Rattle.typed_value.specs.Values.{PlainPairs, no_pairs, a_pair}
use Rattle.core_form.specs.Core.{CoreSchema}
use Rattle.core_form.specs.Closed.{Closed}
use Rattle.spelling.specs.Slices.{nothing}
use Rattle.spelling.specs.Spells.{EachPair, Contents, EntriesHold, SpellsDict}
use Rattle.declared_maps.specs.Records.{joined, pairs_under, fork_pairs}

-- ---- lists of contents

abbrev pub shift : {A : Type 0} → List ℕ → List (List ℕ × A) → List (List ℕ × A)
shift q [] = []
shift q (l ∷ ls) = (q ++ l.0, l.1) ∷ shift q ls

pairs-under : (q : List ℕ) (es : Entries) → pairs_in (under q es) ≡ shift q (pairs_in es)
pairs-under q [] = refl
pairs-under q ((k, leaf c) ∷ es) = ap (λ ls. (let x : List ℕ × Slice = (q ++ k, c) in x) ∷ ls) (pairs-under q es)
pairs-under q ((k, hidden h) ∷ es) = pairs-under q es

pairs-append : (es fs : Entries) → pairs_in (es ++ fs) ≡ pairs_in es ++ pairs_in fs
pairs-append [] fs = refl
pairs-append ((k, leaf c) ∷ es) fs = ap (λ ls. (let x : List ℕ × Slice = (k, c) in x) ∷ ls) (pairs-append es fs)
pairs-append ((k, hidden h) ∷ es) fs = pairs-append es fs

pub hidden-under : (q : List ℕ) (es : Entries) → hidden_in (under q es) ≡ shift q (hidden_in es)
hidden-under q [] = refl
hidden-under q ((k, leaf c) ∷ es) = hidden-under q es
hidden-under q ((k, hidden h) ∷ es) = ap (λ ls. (let x : List ℕ × Hidden = (q ++ k, h) in x) ∷ ls) (hidden-under q es)

pub hidden-append : (es fs : Entries) → hidden_in (es ++ fs) ≡ hidden_in es ++ hidden_in fs
hidden-append [] fs = refl
hidden-append ((k, leaf c) ∷ es) fs = hidden-append es fs
hidden-append ((k, hidden h) ∷ es) fs = ap (λ ls. (let x : List ℕ × Hidden = (k, h) in x) ∷ ls) (hidden-append es fs)

none_of : {A : Type 0} (xs ys : List A) → xs ++ ys ≡ [] → (xs ≡ []) × (ys ≡ [])
none_of [] ys e = (refl, e)
none_of (x ∷ xs) ys e = cc

none_shifted : (q : List ℕ) (xs : List (List ℕ × Hidden)) → shift q xs ≡ [] → xs ≡ []
none_shifted q [] e = refl
none_shifted q (x ∷ xs) e = cc

-- ---- values of lists of contents

contents_joined : (schema : CoreSchema) (t : Closed) (ps qs : PlainPairs) (ls ms : List (List ℕ × Slice))
    → Contents (EachPair Whole schema ps) t ls → Contents (EachPair Whole schema qs) t ms
    → Contents (EachPair Whole schema (joined ps qs)) t (ls ++ ms)
contents_joined schema t no_pairs qs ls ms e f =
    let P : List (List ℕ × Slice) → Type 0 = λ z. Contents (EachPair Whole schema qs) t (z ++ ms) in
    subst P (sym e) f
contents_joined schema t (a_pair k v ps) qs [] ms e f = absurd e
contents_joined schema t (a_pair k v ps) qs (l ∷ ls) ms e f =
    (e.0, e.1, e.2, contents_joined schema t ps qs ls ms e.3 f)

abbrev Split : CoreSchema → Closed → PlainPairs → List (List ℕ × Slice) → List (List ℕ × Slice) → Type 0
Split schema t ps ls ms =
    (xs : PlainPairs) × (ys : PlainPairs) × (ps ≡ joined xs ys) × Contents (EachPair Whole schema xs) t ls
    × Contents (EachPair Whole schema ys) t ms

contents_split : (schema : CoreSchema) (t : Closed) (ls : List (List ℕ × Slice)) (ps : PlainPairs)
    (ms : List (List ℕ × Slice)) → Contents (EachPair Whole schema ps) t (ls ++ ms) → Split schema t ps ls ms
contents_split schema t [] ps ms e = (no_pairs, ps, refl, refl, e)
contents_split schema t (l ∷ ls) no_pairs ms e = cc
contents_split schema t (l ∷ ls) (a_pair k v ps) ms e =
    let r = contents_split schema t ls ps ms e.3 in
    (a_pair k v r.0, r.1, ap (a_pair k v) r.2, (e.0, e.1, e.2, r.3), r.4)

contents_shift : (schema : CoreSchema) (t : Closed) (q : List ℕ) (ps : PlainPairs) (ls : List (List ℕ × Slice))
    → Contents (EachPair Whole schema ps) t ls → Contents (EachPair Whole schema (pairs_under q ps)) t (shift q ls)
contents_shift schema t q no_pairs ls e = ap (shift q) e
contents_shift schema t q (a_pair k v ps) [] e = absurd e
contents_shift schema t q (a_pair k v ps) (l ∷ ls) e =
    (e.0, ap (λ (x : List ℕ). q ++ x) e.1, e.2, contents_shift schema t q ps ls e.3)

contents_unshift : (schema : CoreSchema) (t : Closed) (q : List ℕ) (ls : List (List ℕ × Slice)) (ps : PlainPairs)
    → Contents (EachPair Whole schema ps) t (shift q ls)
    → (xs : PlainPairs) × (ps ≡ pairs_under q xs) × Contents (EachPair Whole schema xs) t ls
contents_unshift schema t q [] no_pairs e = (no_pairs, refl, refl)
contents_unshift schema t q [] (a_pair k v ps) e = absurd e
contents_unshift schema t q (l ∷ ls) no_pairs e = cc
contents_unshift schema t q (l ∷ ls) (a_pair k v ps) e =
    let r = contents_unshift schema t q ls ps e.3 in
    (a_pair l.0 v r.0, (λ i. a_pair ((sym e.1) i) v (r.1 i)), (e.0, refl, e.2, r.2))

-- ---- forks

fork_contents : (p : List ℕ) (zs os : Entries)
    → pairs_in (fork p zs os) ≡ shift (p ++ 0 ∷ []) (pairs_in zs) ++ shift (p ++ 1 ∷ []) (pairs_in os)
fork_contents p zs os =
    pairs-append (under (p ++ 0 ∷ []) zs) (under (p ++ 1 ∷ []) os)
    ∙ (λ i. pairs-under (p ++ 0 ∷ []) zs i ++ pairs-under (p ++ 1 ∷ []) os i)

pub fork_holds : (schema : CoreSchema) (t : Closed) (p : List ℕ) (xs ys : PlainPairs) (zs os : Entries)
    → EntriesHold (EachPair Whole schema xs) [] t zs → EntriesHold (EachPair Whole schema ys) [] t os
    → EntriesHold (EachPair Whole schema (fork_pairs p xs ys)) [] t (fork p zs os)
fork_holds schema t p xs ys zs os e f =
    let a = p ++ 0 ∷ [] in
    let b = p ++ 1 ∷ [] in
    let none : hidden_in (fork p zs os) ≡ [] = hidden-append (under a zs) (under b os) ∙ (λ i. (hidden-under a zs ∙ ap (shift a) e.1) i ++ (hidden-under b os ∙ ap (shift b) f.1) i) in
    let P : List (List ℕ × Slice) → Type 0 = λ z. Contents (EachPair Whole schema (fork_pairs p xs ys)) t z in
    (subst P (sym (fork_contents p zs os)) (contents_joined schema t (pairs_under a xs) (pairs_under b ys) _ _ (contents_shift schema t a xs (pairs_in zs) e.0) (contents_shift schema t b ys (pairs_in os) f.0)), none)

pub fork_split : (schema : CoreSchema) (t : Closed) (p : List ℕ) (ps : PlainPairs) (zs os : Entries)
    → EntriesHold (EachPair Whole schema ps) [] t (fork p zs os)
    → (xs : PlainPairs) × (ys : PlainPairs) × (ps ≡ fork_pairs p xs ys)
    × EntriesHold (EachPair Whole schema xs) [] t zs × EntriesHold (EachPair Whole schema ys) [] t os
fork_split schema t p ps zs os e =
    let a = p ++ 0 ∷ [] in
    let b = p ++ 1 ∷ [] in
    let P : List (List ℕ × Slice) → Type 0 = λ z. Contents (EachPair Whole schema ps) t z in
    let s = contents_split schema t (shift a (pairs_in zs)) ps (shift b (pairs_in os)) (subst P (fork_contents p zs os) e.0) in
    let x = contents_unshift schema t a (pairs_in zs) s.0 s.3 in
    let y = contents_unshift schema t b (pairs_in os) s.1 s.4 in
    let none = none_of (hidden_in (under a zs)) (hidden_in (under b os)) (sym (hidden-append (under a zs) (under b os)) ∙ e.1) in (
      x.0,
      y.0,
      s.2 ∙ (λ i. joined (x.1 i) (y.1 i)),
      (x.2, none_shifted a (hidden_in zs) (sym (hidden-under a zs) ∙ none.0)),
      (y.2, none_shifted b (hidden_in os) (sym (hidden-under b os) ∙ none.1)),
    )

-- ---- an edge in its own cell, and in place with nothing after it

-- the entries of an edge in its own cell
pub record IsTree (schema : CoreSchema) (ps : PlainPairs) (n : ℕ) (t : Closed) (s : Slice) : Type 0 where
  pub entries : Entries
  pub tree : DictTree Whole n entries s
  pub contents : EntriesHold (EachPair Whole schema ps) [] t entries

pub closed_edge : (schema : CoreSchema) (ps : PlainPairs) (n : ℕ) (t : Closed) (s : Slice)
    → SpellsDict Whole (EachPair Whole schema ps) [] n t s nothing → IsTree schema ps n t s
closed_edge schema no_pairs n t s (inl e) = absurd e
closed_edge schema (a_pair k v (a_pair l w ps)) n t s (inl e) = absurd e
closed_edge schema (a_pair k v no_pairs) n t s (inl e) = record {
  entries = (k, leaf e.0) ∷ [];
  tree = one Whole n ((k, leaf e.0) ∷ []) s k e.0 refl e.2.long e.2.label e.2.refs;
  contents = ((e.1, refl, e.3, refl), refl);
}
closed_edge schema ps n t s (inr e) = record { entries = e.0; tree = tree e.1; contents = e.2 }
  where
    tree : Fork Whole n e.0 s nothing → DictTree Whole n e.0 s
    tree (forked p m zs os z o same len l refs dz do_) = two Whole n e.0 s p m zs os z o same len l refs dz do_

one_held : (schema : CoreSchema) (ps : PlainPairs) (n : ℕ) (t : Closed) (s : Slice) (k : List ℕ) (c : Slice)
    → LeafEdge Whole n k s c → EntriesHold (EachPair Whole schema ps) [] t ((k, leaf c) ∷ [])
    → SpellsDict Whole (EachPair Whole schema ps) [] n t s nothing
one_held schema no_pairs n t s k c d h = absurd (some_left _ _ h.0)
  where
    some_left : {A : Type 0} (x : A) (xs : List A) → x ∷ xs ≡ [] → ⊥
    some_left x xs e = cc
one_held schema (a_pair j v (a_pair l w ps)) n t s k c d h = absurd h.0.3
one_held schema (a_pair j v no_pairs) n t s k c d h =
    let P : List ℕ → Type 0 = λ z. LeafEdge Whole n z s c in
    inl (c, h.0.0, subst P h.0.1 d, h.0.2)

pub open_edge : (schema : CoreSchema) (ps : PlainPairs) (n : ℕ) (t : Closed) (s : Slice) (es : Entries)
    → DictTree Whole n es s → EntriesHold (EachPair Whole schema ps) [] t es
    → SpellsDict Whole (EachPair Whole schema ps) [] n t s nothing
open_edge schema ps n t s es (one _ _ _ _ k c same len label refs) h =
    let P : Entries → Type 0 = λ z. EntriesHold (EachPair Whole schema ps) [] t z in
    one_held schema ps n t s k c (record { long = len; label = label; refs = refs }) (subst P same h)
open_edge schema ps n t s es (two _ _ _ _ p m zs os z o same len l refs dz do_) h = inr (es, forked p m zs os z o same len l refs dz do_, h)
