-- A laid value spells its plain value, so a laid reading is a reading of it.
use Rattle.std.proofs.Common.{◌≡◌, inl, inr, ℕ, ◌≤◌, List, [], ◌∷◌, ◌++◌, Some, None, refl, sym, ap, ◌∙◌, subst}
use Rattle.cell_nodes.specs.declared.tree.Mode.TheVariants.{Whole}
use Rattle.cell_nodes.specs.declared.tree.Tree.{Tree}
use Rattle.core_form.specs.Core.{Items, CoreSchema, no_items, an_item, check, solve, field, sets}
use Rattle.core_form.specs.Closed.{Closed}
use Rattle.core_form.specs.Closed as closed
use Rattle.core_form.specs.Scope.{Scope, with_number, bind}
use Rattle.hashmap_tree.specs.Dict.{DictTree, one, two, Branch, open_edge}
use Rattle.hashmap_tree.specs.Entries.{Slice, leaf, Entries, under, fork, pairs_in, hidden_in}
use Rattle.hashmap_tree.specs.First.{forked}
use Rattle.spelling.specs.Slices.{nothing, only_ref}
use Rattle.spelling.specs.Goals.{Goal, at_type, at_field, at_cell, Shape, typed, fields_here, fields_under, as_cell}
use Rattle.spelling.specs.Goals.{at_fields, under_ref}
use Rattle.spelling.specs.Spells.{Repeats, Fields, SpellsShape, Spells, Each, EachPair, Holds, Contents, no_entries}
use Rattle.spelling.specs.Spells.{some_entries, Reading}
use Rattle.typed_value.specs.Values.{Plain, levels, parts, most_levels, most_parts}
use Rattle.typed_value.specs.Values as values
use Rattle.pruning.specs.Laid.{Laid, number, bit_string, record_of, absent, list_of, ref_to, ref_to_raw, no_map}
use Rattle.pruning.specs.Laid.{map_under, map_here, rest, Laids, no_laids, a_laid, LaidEdge, a_leaf, a_fork, below}
use Rattle.pruning.specs.Laid.{plain, plain_all, plain_pairs}
use Rattle.pruning.specs.SpellsLaid.{EdgeCell, SpellsLaidShape, SpellsLaid, EachLaid, SpellsEdge, LaidRoot, as_it_is}
use Rattle.pruning.specs.SpellsLaid.{laid, plain_root, IsLaidRoot, LaidReading}
use Rattle.pruning_laws.specs.ContentsLaws.{contents_below, contents_join, hidden-under, hidden-append}
use Rattle.pruning_laws.specs.Cuts.{below_parts}
use Rattle.pruning_laws.specs.LaidLaws.{reading_is_laid}
use Rattle.proof_laws.specs.Laws.{LaidIsRead}

-- the plain value is spelled where the laid one is
abbrev pub Plainly : CoreSchema → Laid → Type 0
Plainly schema d =
    (c : Shape) (s : Slice) (outs : List ℕ) (after : Slice) → SpellsLaidShape schema d c s outs after
    → SpellsShape Whole schema (plain d) c s outs after

abbrev pub AllPlainly : CoreSchema → Laids → Type 0
AllPlainly schema no_laids = Unit {0}
AllPlainly schema (a_laid d ds) = Plainly schema d × AllPlainly schema ds

pub at_goal : (schema : CoreSchema) (d : Laid) → Plainly schema d → (g : Goal) (s : Slice) (outs : List ℕ)
    (after : Slice) → SpellsLaid schema d g s outs after → Spells Whole schema (plain d) g s outs after
at_goal schema d h g s outs after e = (e.0, e.1, h e.0 s outs after e.2)

repeat_plainly : (schema : CoreSchema) (ds : Laids) → AllPlainly schema ds → (k : ℕ) (t : Closed) (s after : Slice)
    → Repeats (EachLaid schema ds) k t s after → Repeats (Each Whole schema (plain_all ds)) k t s after
repeat_plainly schema no_laids h k t s after r = r
repeat_plainly schema (a_laid d ds) h k t s after r = (
  r.0,
  r.1,
  r.2,
  r.3,
  at_goal schema d h.0 (at_type t) s r.1 r.2 r.4,
  r.5,
  repeat_plainly schema ds h.1 r.0 t r.2 after r.6,
)

pub fields_plainly : (schema : CoreSchema) (is : Items) (ds : Laids) → AllPlainly schema ds → (scope : Scope)
    (s : Slice) (end : Scope) (after : Slice) → Fields is (EachLaid schema ds) scope s end after
    → Fields is (Each Whole schema (plain_all ds)) scope s end after
fields_plainly schema no_items no_laids h scope s end after f = f
fields_plainly schema no_items (a_laid d ds) h scope s end after f = absurd f
fields_plainly schema (an_item (check a op b i) is) ds h scope s end after f =
    (f.0, f.1, f.2, f.3, f.4, fields_plainly schema is ds h scope s end after f.5)
fields_plainly schema (an_item (solve v a b i) is) ds h scope s end after f =
    (f.0, f.1, fields_plainly schema is ds h (with_number v f.0 scope) s end after f.2)
fields_plainly schema (an_item (field y slot c t) is) no_laids h scope s end after f = absurd f
fields_plainly schema (an_item (field y slot c t) is) (a_laid d ds) h scope s end after f = (
  f.0,
  f.1,
  at_goal schema d h.0 (at_field c t scope) s f.0 f.1 f.2,
  fields_plainly schema is ds h.1 (bind (sets slot t) f.0 scope) f.1 end after f.3,
)

holds_plainly : (schema : CoreSchema) (d : Laid) → Plainly schema d → (g : Goal) (c : Tree)
    → Holds Whole (SpellsLaid schema d) g c → Holds Whole (Spells Whole schema (plain d)) g c
holds_plainly schema d h at_cell c k = (k.0, k.1, at_goal schema d h at_cell (only_ref c) k.0 nothing k.2)
holds_plainly schema d h (at_type t) c k = (k.0, k.1, k.2, at_goal schema d h (at_type t) k.0 k.1 nothing k.3)
holds_plainly schema d h (at_field e t scope) c k =
    (k.0, k.1, k.2, at_goal schema d h (at_field e t scope) k.0 k.1 nothing k.3)

-- ---- dictionaries

-- what the entries of an edge hold
pub record HeldBy (schema : CoreSchema) (e : LaidEdge) (t : Closed) (es : Entries) : Type 0 where
  pub contents : Contents (EachPair Whole schema (plain_pairs e)) t (pairs_in es)
  pub whole : hidden_in es ≡ []

abbrev TreePlainly : CoreSchema → LaidEdge → Type 0
TreePlainly schema e =
    (m : ℕ) (t : Closed) (s : Slice) → SpellsEdge schema e m t s nothing
    → (es : Entries) × DictTree Whole m es s × HeldBy schema e t es

branch_plainly : (schema : CoreSchema) (e : LaidEdge) → TreePlainly schema e → (m : ℕ) (t : Closed) (c : Tree)
    → EdgeCell (SpellsEdge schema e) m t c → (es : Entries) × Branch Whole m es c × HeldBy schema e t es
branch_plainly schema e tree m t c k =
    let x = tree m t k.0 k.2 in
    (x.0, open_edge Whole m x.0 c k.0 k.1 x.1, x.2)

leaf_held : (schema : CoreSchema) (l : List ℕ) (d : Laid) (t : Closed) (s : Slice) (outs : List ℕ)
    → Spells Whole schema (plain d) (at_type t) s outs nothing → HeldBy schema (a_leaf l d) t ((l, leaf s) ∷ [])
leaf_held schema l d t s outs e = record { contents = (outs, refl, e, refl); whole = refl }

fork_held : (schema : CoreSchema) (l : List ℕ) (z : Tree) (a : LaidEdge) (o : Tree) (b : LaidEdge) (t : Closed)
    (zs os : Entries) → HeldBy schema a t zs → HeldBy schema b t os
    → HeldBy schema (a_fork l z a o b) t (fork l zs os)
fork_held schema l z a o b t zs os x y = record {
  contents = contents_join Whole schema (under (l ++ 0 ∷ []) zs) (under (l ++ 1 ∷ []) os)
      (below (l ++ 0 ∷ []) (plain_pairs a)) (below (l ++ 1 ∷ []) (plain_pairs b)) t
      (contents_below Whole schema (l ++ 0 ∷ []) zs (plain_pairs a) t x.contents)
      (contents_below Whole schema (l ++ 1 ∷ []) os (plain_pairs b) t y.contents);
  whole = hidden-append (under (l ++ 0 ∷ []) zs) (under (l ++ 1 ∷ []) os)
      ∙ (λ i. (hidden-under (l ++ 0 ∷ []) zs ∙ ap (below_parts (l ++ 0 ∷ [])) x.whole) i
      ++ (hidden-under (l ++ 1 ∷ []) os ∙ ap (below_parts (l ++ 1 ∷ [])) y.whole) i);
}

-- ---- all values

mutual
  pub spelled_plainly : (schema : CoreSchema) (d : Laid) → Plainly schema d
  spelled_plainly schema (number negative size) c s outs after e = e
  spelled_plainly schema (bit_string bits) c s outs after e = e
  spelled_plainly schema absent c s outs after e = e
  spelled_plainly schema (rest r) c s outs after e = e
  spelled_plainly schema (record_of (Some name) names ds) (typed (closed.named x args)) s outs after e = (
    e.0,
    e.1,
    e.2,
    e.3,
    e.4,
    e.5,
    e.6,
    e.7,
    fields_plainly schema e.1.core.items ds (all_plainly schema ds) e.2 e.3 e.4 after e.8,
    e.9,
  )
  spelled_plainly schema (record_of (Some name) names ds) _ s outs after e = absurd e
  spelled_plainly schema (record_of None names ds) (fields_here is scope) s outs after e =
      (e.0, e.1, e.2, fields_plainly schema is ds (all_plainly schema ds) scope s e.2 after e.3)
  spelled_plainly schema (record_of None names ds) _ s outs after e = absurd e
  spelled_plainly schema (list_of ds) (typed (closed.repeat n t)) s outs after e =
      (e.0, repeat_plainly schema ds (all_plainly schema ds) n t s after e.1)
  spelled_plainly schema (list_of ds) _ s outs after e = absurd e
  spelled_plainly schema (ref_to a d) (typed (closed.ref t)) s outs after e =
      (e.0, e.1, e.2, holds_plainly schema d (spelled_plainly schema d) (under_ref t) e.0 e.3, tt)
  spelled_plainly schema (ref_to a d) (fields_under is scope) s outs after e =
      (e.0, e.1, e.2, holds_plainly schema d (spelled_plainly schema d) (at_fields is scope) e.0 e.3, tt)
  spelled_plainly schema (ref_to a d) _ s outs after e = absurd e
  spelled_plainly schema (ref_to_raw a) (typed (closed.ref closed.whole)) s outs after e =
      (a, e.0, e.1, ([], refl, (as_cell, refl, (refl, record { bits = refl; refs = refl }))), tt)
  spelled_plainly schema (ref_to_raw a) _ s outs after e = absurd e
  spelled_plainly schema no_map (typed (closed.dict_e n t)) s outs after e = (e.0, no_entries tt refl e.1, tt)
  spelled_plainly schema no_map _ s outs after e = absurd e
  spelled_plainly schema (map_under a x) (typed (closed.dict_e n t)) s outs after e =
      let y = branch_plainly schema x (tree_plainly schema x) n t a e.2 in
      (e.0, some_entries a y.0 e.1 y.1 (y.2.contents, y.2.whole), tt)
  spelled_plainly schema (map_under a x) _ s outs after e = absurd e
  spelled_plainly schema (map_here (a_leaf l d)) (typed (closed.dict n t)) s outs after e =
      let k = e.1 in
      (e.0, inl (k.0, k.1, k.2, at_goal schema d (spelled_plainly schema d) (at_type t) k.0 k.1 after k.3), tt)
  spelled_plainly schema (map_here (a_fork l z a o b)) (typed (closed.dict n t)) s outs after e =
      let k = e.1 in
      let x = branch_plainly schema a (tree_plainly schema a) k.0 t z k.4 in
      let y = branch_plainly schema b (tree_plainly schema b) k.0 t o k.5 in
      let h = fork_held schema l z a o b t x.0 y.0 x.2 y.2 in (
        e.0,
        inr (
          fork l x.0 y.0,
          forked l k.0 x.0 y.0 z o refl k.1 k.2 k.3 x.1 y.1,
          (h.contents, h.whole),
        ),
        tt,
      )
  spelled_plainly schema (map_here x) _ s outs after e = absurd e

  pub all_plainly : (schema : CoreSchema) (ds : Laids) → AllPlainly schema ds
  all_plainly schema no_laids = tt
  all_plainly schema (a_laid d ds) = (spelled_plainly schema d, all_plainly schema ds)

  tree_plainly : (schema : CoreSchema) (e : LaidEdge) → TreePlainly schema e
  tree_plainly schema (a_leaf l d) m t s k = (
    (l, leaf k.0) ∷ [],
    one Whole m _ s l k.0 refl k.2.long k.2.label k.2.refs,
    leaf_held schema l d t k.0 k.1 (at_goal schema d (spelled_plainly schema d) (at_type t) k.0 k.1 nothing k.3),
  )
  tree_plainly schema (a_fork l z a o b) m t s k =
      let x = branch_plainly schema a (tree_plainly schema a) k.0 t z k.4 in
      let y = branch_plainly schema b (tree_plainly schema b) k.0 t o k.5 in (
        fork l x.0 y.0,
        two Whole m _ s l k.0 x.0 y.0 z o refl k.1 k.2 k.3 x.1 y.1,
        fork_held schema l z a o b t x.0 y.0 x.2 y.2,
      )

-- ---- the root

raw_whole : (schema : CoreSchema) (g : Goal) (c x : Tree) → g ≡ at_cell → x ≡ c
    → Holds Whole (Spells Whole schema (values.raw x)) g c
raw_whole schema g c x e same =
    let P : Goal → Type 0 = λ g. Holds Whole (Spells Whole schema (values.raw x)) g c in
    let Q : Tree → Type 0 = λ x. Holds Whole (Spells Whole schema (values.raw x)) at_cell c in
    subst P (sym e) (subst Q (sym same) ([], refl, (as_cell, refl, (refl, record { bits = refl; refs = refl }))))

pub root_plainly : (schema : CoreSchema) (t : Closed) (c : Tree) (r : LaidRoot) → IsLaidRoot schema t c r
    → Holds Whole (Spells Whole schema (plain_root r)) (under_ref t) c
root_plainly schema t c (as_it_is x) lies = raw_whole schema (under_ref t) c x lies.0 lies.1
root_plainly schema t c (laid d) lies = holds_plainly schema d (spelled_plainly schema d) (under_ref t) c lies

pub laid_reads : (schema : CoreSchema) (t : Closed) (c : Tree) (r : LaidRoot) → LaidReading schema t c r
    → Reading Whole schema t c (plain_root r)
laid_reads schema t c r l = record {
  root = inl (root_plainly schema t c r l.lies);
  deep = l.deep;
  large = l.large;
}

pub laid_of : (schema : CoreSchema) (t : Closed) (c : Tree) (v : Plain) → Reading Whole schema t c v
    → (r : LaidRoot) × (plain_root r ≡ v) × LaidReading schema t c r
laid_of schema t c v x =
    let r = reading_is_laid schema t c v x in
    let D : Plain → Type 0 = λ v. levels v ≤ most_levels in
    let L : Plain → Type 0 = λ v. parts v ≤ most_parts in
    (r.0, r.1, record { lies = r.2; deep = subst D (sym r.1) x.deep; large = subst L (sym r.1) x.large })

pub laid_is_read : LaidIsRead
laid_is_read schema t c = record { reads = laid_reads schema t c; lies = laid_of schema t c }
