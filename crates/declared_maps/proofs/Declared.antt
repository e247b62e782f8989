-- The built-in dictionary is the declared one.
use Rattle.std.proofs.Common.{◌≡◌, ◌≤◌, ℕ, Bool, true, false, cond, List, [], ◌∷◌, ◌++◌, Option, Some, None, Result, Ok, Err, refl, sym, ap, ◌∙◌, subst, inl, inr, nat_le}
use Rattle.std.specs.Prelude.{codes}
use Rattle.std.proofs.lemmas.Bool.{le-leb}
use Rattle.cell_nodes.specs.Good.{AllGood}
use Rattle.cell_nodes.specs.GoodParts.{all_good-head}
use Rattle.cell_nodes.specs.declared.tree.Hidden.{Hidden}
use Rattle.cell_nodes.specs.declared.tree.Mode.TheVariants.{Whole}
use Rattle.cell_nodes.specs.declared.tree.Tree.{Tree}
use Rattle.hashmap_tree.specs.Entries.{Slice, Entries, cell_of, Then, under, fork, hidden_in}
use Rattle.hashmap_tree.specs.Dict.{DictTree, Branch, one, two, open_edge, hidden_edge}
use Rattle.hashmap_tree.specs.First.{Fork, forked}
use Rattle.typed_value.specs.Values.{Plain, Plains, PlainPairs, record_of, ref_to, map_of, no_vals, a_val, no_pairs, a_pair}
use Rattle.core_form.specs.Core.{Word, CoreSchema, no_condition}
use Rattle.core_form.specs.Core as core
use Rattle.core_form.specs.Closed.{Closed, nodes}
use Rattle.core_form.specs.Closed as closed
use Rattle.core_form.specs.Fit.{Fits}
use Rattle.core_form.specs.Scope.{Scope, unset, with_number, with_type}
use Rattle.spelling.specs.Slices.{nothing, only_bits}
use Rattle.spelling.specs.Goals.{Shape, at_type, at_field, typed, shape_of}
use Rattle.spelling.specs.Spells.{Spells, SpellsShape, Each, EachPair, EntriesHold, SpellsDict, SpellsDictE, no_entries, some_entries}
use Rattle.spelling.specs.declared.Cause.{Cause}
use Rattle.spelling.specs.declared.Cause.TheVariants.{Width}
use Rattle.declared_maps.specs.Lines.{hm, hm_e, HasLines}
use Rattle.declared_maps.specs.LineCores.{arguments, edge_core, empty_core, root_core}
use Rattle.declared_maps.specs.Records.{Label, AreRequired, edge_labels, root_labels, edge_pairs, root_pairs}
use Rattle.declared_maps.specs.MapRecords.{edge_of, root_of, root_record}
use Rattle.declared_maps.specs.Laws.{IsGoodContent, HasRecordAs, HaveRecords, AreDeclared, pair_args}
use Rattle.declared_maps.proofs.Found.{some_same, edge_named, root_named}
use Rattle.declared_maps.proofs.Opened.{at_shape, Opened, opened, chosen, built}
use Rattle.declared_maps.proofs.Holding.{shift, hidden-under, hidden-append}
use Rattle.declared_maps.proofs.Holding.{open_edge as from_tree}
use Rattle.declared_maps.proofs.EdgesBack.{edge_type, fork_scope, ref_shape, edge_back, child_back}
use Rattle.declared_maps.proofs.EdgesUp.{child_up, part_of, cell_good, edge_to}
use Rattle.declared_maps.proofs.Keys.{Some_pairs}
use Rattle.declared_maps.proofs.Values.{one_val}

abbrev root_type : ℕ → Closed → Closed
root_type n t = closed.named hm_e (pair_args n t)

-- ---- the types of dictionaries are in the table

dict_shape : (n : ℕ) (t : Closed) → n ≤ 1023 → shape_of (at_type (closed.dict n t)) ≡ Ok (typed (closed.dict n t))
dict_shape n t le = go (nat_le n 1023) (le-leb n 1023 le)
  where
    go : (b : Bool) → b ≡ true → (◌≡◌ {A = Result Shape Cause} (cond b (Ok (typed (closed.dict n t))) (Err Width)) (Ok (typed (closed.dict n t))))
    go true e = refl
    go false e = cc

dict_e_shape : (n : ℕ) (t : Closed) → n ≤ 1023 → shape_of (at_type (closed.dict_e n t)) ≡ Ok (typed (closed.dict_e n t))
dict_e_shape n t le = go (nat_le n 1023) (le-leb n 1023 le)
  where
    go : (b : Bool) → b ≡ true → (◌≡◌ {A = Result Shape Cause} (cond b (Ok (typed (closed.dict_e n t))) (Err Width)) (Ok (typed (closed.dict_e n t))))
    go true e = refl
    go false e = cc

-- ---- nothing is hidden in a whole tree

none_hidden : (h : Hidden) → (◌≡◌ {A = Option Hidden} None (Some h)) → ⊥
none_hidden h e = cc

all_shown : (p : List ℕ) (zs os : Entries) → hidden_in zs ≡ [] → hidden_in os ≡ [] → hidden_in (fork p zs os) ≡ []
all_shown p zs os e f =
    let a = p ++ 0 ∷ [] in
    let b = p ++ 1 ∷ [] in
    hidden-append (under a zs) (under b os)
    ∙ (λ i. (hidden-under a zs ∙ ap (shift a) e) i ++ (hidden-under b os ∙ ap (shift b) f) i)

mutual
  tree_shown : (n : ℕ) (es : Entries) (s : Slice) → DictTree Whole n es s → hidden_in es ≡ []
  tree_shown n es s (one _ _ _ _ k c same len label refs) = ap hidden_in same
  tree_shown n es s (two _ _ _ _ p m zs os z o same len label refs dz do_) =
      ap hidden_in same ∙ all_shown p zs os (branch_shown m zs z dz) (branch_shown m os o do_)

  branch_shown : (n : ℕ) (es : Entries) (c : Tree) → Branch Whole n es c → hidden_in es ≡ []
  branch_shown n es c (open_edge _ _ _ _ s same tree) = tree_shown n es s tree
  branch_shown n es c (hidden_edge _ _ _ _ h unseen same) = absurd (none_hidden h unseen)

fork_shown : (n : ℕ) (es : Entries) (s after : Slice) → Fork Whole n es s after → hidden_in es ≡ []
fork_shown n es s after (forked p m zs os z o same len label refs dz do_) =
    ap hidden_in same ∙ all_shown p zs os (branch_shown m zs z dz) (branch_shown m os o do_)

-- a map without hidden parts
dict_whole : (schema : CoreSchema) (ps : PlainPairs) (us : List (List ℕ × Hidden)) (n : ℕ) (t : Closed) (s after : Slice)
    → SpellsDict Whole (EachPair Whole schema ps) us n t s after → us ≡ []
dict_whole schema no_pairs us n t s after (inl e) = absurd e
dict_whole schema (a_pair k v (a_pair l w ps)) us n t s after (inl e) = absurd e
dict_whole schema (a_pair k v no_pairs) [] n t s after (inl e) = refl
dict_whole schema (a_pair k v no_pairs) (u ∷ us) n t s after (inl e) = absurd e
dict_whole schema ps us n t s after (inr e) = sym e.2.1 ∙ fork_shown n e.0 s after e.1

-- ---- Hashmap

-- the record of a map: its pairs are the map's, and each of its labels has the required form
abbrev RecordOf : CoreSchema → Closed → (PlainPairs → Plain) → (Plain → PlainPairs) → (Plain → List Label) → Plain → Slice
    → List ℕ → Slice → Type 0
RecordOf schema t of_pairs pairs labels v before outs after =
    (ps : PlainPairs) × (v ≡ map_of tt ps []) × (pairs (of_pairs ps) ≡ ps) × AreRequired (labels (of_pairs ps))
    × Spells Whole schema (of_pairs ps) (at_type t) before outs after

record_in : (schema : CoreSchema) → HasLines schema → (n : ℕ) (t : Closed) → n ≤ 1023 → nodes t ≤ 4093 → (v : Plain)
    (s : Slice) (outs : List ℕ) (after : Slice) → IsGoodContent s
    → SpellsShape Whole schema v (typed (closed.dict n t)) s outs after
    → RecordOf schema (edge_type n t) (edge_of n) edge_pairs (edge_labels n) v s outs after
record_in schema has n t small le (map_of tt ps us) s outs after good e =
    let none = dict_whole schema ps us n t s after e.1 in
    let P : List (List ℕ × Hidden) → Type 0 = λ z. SpellsDict Whole (EachPair Whole schema ps) z n t s after in
    let x = edge_to schema has n t small le ps s after good (subst P none e.1) in
    let O : List ℕ → Type 0 = λ z. Spells Whole schema (edge_of n ps) (at_type (edge_type n t)) s z after in
    (ps, ap (map_of tt ps) none, x.pairs, x.forms, subst O (sym e.0) x.spelled)
record_in schema has n t small le (record_of None names vs) s outs after good e = absurd e
record_in schema has n t small le (record_of (Some name) names vs) s outs after good e = absurd e
record_in schema has n t small le _ s outs after good e = absurd e

edge_outs : (schema : CoreSchema) → HasLines schema → (n : ℕ) (t : Closed) (w : Plain) (s : Slice) (outs : List ℕ)
    (after : Slice) → SpellsShape Whole schema w (typed (edge_type n t)) s outs after → outs ≡ []
edge_outs schema has n t (record_of None names vs) s outs after e = absurd e
edge_outs schema has n t (record_of (Some name) names vs) s outs after e = elim (chosen schema hm name names (pair_args n t) (Each Whole schema vs) s outs after e (edge_core ∷ []) (edge_named schema has)) [
  | inl k ↦ let o = opened schema hm name names (pair_args n t) (Each Whole schema vs) s outs after e edge_core k in sym (some_same _ _ o.outputs)
  | inr k ↦ absurd k
]
edge_outs schema has n t _ s outs after e = absurd e

map_in : (schema : CoreSchema) → HasLines schema → (n : ℕ) (t : Closed) → n ≤ 1023 → nodes t ≤ 4093 → (w : Plain)
    (s : Slice) (outs : List ℕ) (after : Slice) → Spells Whole schema w (at_type (edge_type n t)) s outs after
    → AreRequired (edge_labels n w)
    → Spells Whole schema (map_of tt (edge_pairs w) []) (at_type (closed.dict n t)) s outs after
map_in schema has n t small le w s outs after e forms =
    let at = at_shape schema w (at_type (edge_type n t)) (edge_type n t) s outs after refl e in
    (typed (closed.dict n t), dict_shape n t small, (edge_outs schema has n t w s outs after at, edge_back schema has n t small le w s outs after at forms, tt))

-- ---- HashmapE

empty_up : (schema : CoreSchema) → HasLines schema → (n : ℕ) (t : Closed) (s after : Slice)
    → Then s (only_bits (0 ∷ [])) after
    → Spells Whole schema (record_of (Some (codes "hme_empty")) [] no_vals) (at_type (root_type n t)) s [] after
empty_up schema has n t s after taken =
    built schema hm_e (pair_args n t) (empty_core ∷ root_core ∷ []) empty_core no_vals s [] after (root_named schema has) (inl refl) refl
    (record {
      called = refl;
      with_names = refl;
      bound = fork_scope n t;
      middle = after;
      end = fork_scope n t;
      fitting = (n, refl, refl);
      tag = taken;
      items = (refl, refl);
      outputs = refl;
    })

root_up : (schema : CoreSchema) → HasLines schema → (n : ℕ) (t : Closed) → n ≤ 1023 → nodes t ≤ 4093 → (u : Plain)
    (c : Tree) (d s after : Slice) → c ≡ cell_of d → s.bits ≡ 1 ∷ after.bits → s.refs ≡ c ∷ after.refs
    → Spells Whole schema u (at_type (edge_type n t)) d [] nothing
    → Spells Whole schema (root_record u) (at_type (root_type n t)) s [] after
root_up schema has n t small le u c d s after same bits refs e =
    let middle : Slice = record { bits = after.bits; refs = s.refs } in
    built schema hm_e (pair_args n t) (empty_core ∷ root_core ∷ []) root_core (one_val (ref_to tt u)) s [] after (root_named schema has) (inr (inl refl)) refl
    (record {
      called = refl;
      with_names = refl;
      bound = fork_scope n t;
      middle = middle;
      end = fork_scope n t;
      fitting = (n, refl, refl);
      tag = record { bits = bits; refs = refl };
      items = ([], after, child_up schema n t small le u c d middle after same (record { bits = refl; refs = refs }) e, (refl, refl));
      outputs = refl;
    })

root_some : (n : ℕ) (ps : PlainPairs) → Some_pairs ps → root_record (edge_of n ps) ≡ root_of n ps
root_some n no_pairs some = absurd (none some.0 some.1 some.2 some.3)
  where
    none : (k : List ℕ) (v : Plain) (qs : PlainPairs) → (◌≡◌ {A = PlainPairs} no_pairs (a_pair k v qs)) → ⊥
    none k v qs e = cc
root_some n (a_pair k v ps) some = refl

entries_up : (schema : CoreSchema) → HasLines schema → (n : ℕ) (t : Closed) → n ≤ 1023 → nodes t ≤ 4093
    → (ps : PlainPairs) (us : List (List ℕ × Hidden)) (s after : Slice) → IsGoodContent s
    → SpellsDictE Whole (EachPair Whole schema ps) us n t s after
    → RecordOf schema (root_type n t) (root_of n) root_pairs (root_labels n) (map_of tt ps us) s [] after
entries_up schema has n t small le (a_pair k v ps) us s after good (no_entries empty none taken) = absurd empty
entries_up schema has n t small le no_pairs us s after good (no_entries empty none taken) =
    (no_pairs, ap (map_of tt no_pairs) none, refl, tt, empty_up schema has n t s after taken)
entries_up schema has n t small le ps us s after good (some_entries c es taken branch contents) =
    let k = part_of n es c branch in
    let all : AllGood (c ∷ after.refs) = subst AllGood taken.refs good.refs in
    let inside = cell_good c k.content k.same (all_good-head c after.refs all) in
    let none : us ≡ [] = sym contents.1 ∙ branch_shown n es c branch in
    let P : List (List ℕ × Hidden) → Type 0 = λ z. EntriesHold (EachPair Whole schema ps) z t es in
    let x = edge_to schema has n t small le ps k.content nothing inside (from_tree schema ps n t k.content es k.tree (subst P none contents)) in
    let is : root_record (edge_of n ps) ≡ root_of n ps = root_some n ps x.some in
    let E : Plain → Type 0 = λ z. root_pairs z ≡ ps in
    let A : Plain → Type 0 = λ z. AreRequired (root_labels n z) in
    let S : Plain → Type 0 = λ z. Spells Whole schema z (at_type (root_type n t)) s [] after in
    (ps, ap (map_of tt ps) none, subst E is x.pairs, subst A is x.forms, subst S is (root_up schema has n t small le (edge_of n ps) c k.content s after k.same taken.bits taken.refs x.spelled))

root_in : (schema : CoreSchema) → HasLines schema → (n : ℕ) (t : Closed) → n ≤ 1023 → nodes t ≤ 4093 → (v : Plain)
    (s : Slice) (outs : List ℕ) (after : Slice) → IsGoodContent s
    → SpellsShape Whole schema v (typed (closed.dict_e n t)) s outs after
    → RecordOf schema (root_type n t) (root_of n) root_pairs (root_labels n) v s outs after
root_in schema has n t small le (map_of tt ps us) s outs after good e =
    let R : List ℕ → Type 0 = λ z. RecordOf schema (root_type n t) (root_of n) root_pairs (root_labels n) (map_of tt ps us) s z after in
    subst R (sym e.0) (entries_up schema has n t small le ps us s after good e.1)
root_in schema has n t small le (record_of None names vs) s outs after good e = absurd e
root_in schema has n t small le (record_of (Some name) names vs) s outs after good e = absurd e
root_in schema has n t small le _ s outs after good e = absurd e

abbrev MapBack : CoreSchema → ℕ → Closed → Plain → Slice → List ℕ → Slice → Type 0
MapBack schema n t w s outs after =
    (outs ≡ []) × SpellsDictE Whole (EachPair Whole schema (root_pairs w)) [] n t s after

root_bound : (n : ℕ) (t : Closed) (bound : Scope) → Fits root_core.core (pair_args n t) bound → bound ≡ fork_scope n t
root_bound n t bound e = e.2 ∙ (λ i. with_type 1 t (with_number 0 ((sym e.1) i) (unset 2)))

empty_case : (schema : CoreSchema) (n : ℕ) (t : Closed) (name : Word) (names : List Word) (vs : Plains) (s : Slice)
    (outs : List ℕ) (after : Slice) → Opened empty_core name names (pair_args n t) (Each Whole schema vs) s outs after
    → MapBack schema n t (record_of (Some name) names vs) s outs after
empty_case schema n t name names (a_val v vs) s outs after o = absurd o.items
empty_case schema n t name names no_vals s outs after o =
    let left : o.middle ≡ after = sym o.items.1 in
    let P : Slice → Type 0 = λ z. Then s (only_bits (0 ∷ [])) z in
    (sym (some_same _ _ o.outputs), no_entries tt refl (subst P left o.tag))

root_case : (schema : CoreSchema) → HasLines schema → (n : ℕ) (t : Closed) → n ≤ 1023 → nodes t ≤ 4093 → (name : Word)
    (names : List Word) (vs : Plains) (s : Slice) (outs : List ℕ) (after : Slice)
    → AreRequired (root_labels n (record_of (Some name) names vs))
    → Opened root_core name names (pair_args n t) (Each Whole schema vs) s outs after
    → MapBack schema n t (record_of (Some name) names vs) s outs after
root_case schema has n t small le name names no_vals s outs after forms o = absurd o.items
root_case schema has n t small le name names (a_val v (a_val w ws)) s outs after forms o = absurd o.items.3
root_case schema has n t small le name names (a_val v no_vals) s outs after forms o =
    let f = o.items in
    let R : Scope → Type 0 = λ z. Spells Whole schema v (at_field no_condition (core.ref (core.named hm (arguments 0 1))) z) o.middle f.0 f.1 in
    let x = child_back schema has n t small le v o.middle f.0 f.1 (at_shape schema v (at_field no_condition (core.ref (core.named hm (arguments 0 1))) (fork_scope n t)) (closed.ref (edge_type n t)) o.middle f.0 f.1 (ref_shape n t small le) (subst R (root_bound n t o.bound o.fitting) f.2)) forms in
    let left : after ≡ f.1 = f.3.1 in (
      sym (some_same _ _ o.outputs),
      some_entries x.cell x.entries
          (record {
            bits = o.tag.bits ∙ ap (λ (l : List ℕ). 1 ∷ l) (x.taken.bits ∙ ap (λ (z : Slice). z.bits) (sym left));
            refs = o.tag.refs ∙ x.taken.refs ∙ ap (λ (z : Slice). x.cell ∷ z.refs) (sym left);
          })
          x.branch x.contents,
    )

root_back : (schema : CoreSchema) → HasLines schema → (n : ℕ) (t : Closed) → n ≤ 1023 → nodes t ≤ 4093 → (w : Plain)
    (s : Slice) (outs : List ℕ) (after : Slice) → SpellsShape Whole schema w (typed (root_type n t)) s outs after
    → AreRequired (root_labels n w) → MapBack schema n t w s outs after
root_back schema has n t small le (record_of None names vs) s outs after e forms = absurd e
root_back schema has n t small le (record_of (Some name) names vs) s outs after e forms = elim (chosen schema hm_e name names (pair_args n t) (Each Whole schema vs) s outs after e (empty_core ∷ root_core ∷ []) (root_named schema has)) [
  | inl k ↦ empty_case schema n t name names vs s outs after (opened schema hm_e name names (pair_args n t) (Each Whole schema vs) s outs after e empty_core k)
  | inr (inl k) ↦ root_case schema has n t small le name names vs s outs after forms (opened schema hm_e name names (pair_args n t) (Each Whole schema vs) s outs after e root_core k)
  | inr (inr k) ↦ absurd k
]
root_back schema has n t small le _ s outs after e forms = absurd e

root_map : (schema : CoreSchema) → HasLines schema → (n : ℕ) (t : Closed) → n ≤ 1023 → nodes t ≤ 4093 → (w : Plain)
    (s : Slice) (outs : List ℕ) (after : Slice) → Spells Whole schema w (at_type (root_type n t)) s outs after
    → AreRequired (root_labels n w)
    → Spells Whole schema (map_of tt (root_pairs w) []) (at_type (closed.dict_e n t)) s outs after
root_map schema has n t small le w s outs after e forms =
    let at = at_shape schema w (at_type (root_type n t)) (root_type n t) s outs after refl e in
    let x = root_back schema has n t small le w s outs after at forms in
    (typed (closed.dict_e n t), dict_e_shape n t small, (x.0, x.1, tt))

-- ---- the laws

hashmap_record : (schema : CoreSchema) → HasLines schema → (n : ℕ) → n ≤ 1023 → (t : Closed) → nodes t ≤ 4093
    → HasRecordAs schema (closed.dict n t) (edge_type n t) (edge_of n) edge_pairs (edge_labels n)
hashmap_record schema has n small t le v before outs after good e =
    record_in schema has n t small le v before outs after good (at_shape schema v (at_type (closed.dict n t)) (closed.dict n t) before outs after (dict_shape n t small) e)

hashmap_e_record : (schema : CoreSchema) → HasLines schema → (n : ℕ) → n ≤ 1023 → (t : Closed) → nodes t ≤ 4093
    → HasRecordAs schema (closed.dict_e n t) (root_type n t) (root_of n) root_pairs (root_labels n)
hashmap_e_record schema has n small t le v before outs after good e =
    root_in schema has n t small le v before outs after good (at_shape schema v (at_type (closed.dict_e n t)) (closed.dict_e n t) before outs after (dict_e_shape n t small) e)

pub maps_have_records : (schema : CoreSchema) → HasLines schema → (n : ℕ) → n ≤ 1023 → (t : Closed) → nodes t ≤ 4093
    → HaveRecords schema n t
maps_have_records schema has n small t le =
    record { hashmap = hashmap_record schema has n small t le; hashmap_e = hashmap_e_record schema has n small t le }

pub maps_are_declared : (schema : CoreSchema) → HasLines schema → (n : ℕ) → n ≤ 1023 → (t : Closed) → nodes t ≤ 4093
    → AreDeclared schema n t
maps_are_declared schema has n small t le = record {
  hashmap = λ v before outs after good. (
    (λ e. let r = hashmap_record schema has n small t le v before outs after good e in
        (edge_of n r.0, r.1 ∙ ap (λ z. map_of tt z []) (sym r.2), r.3, r.4)),
    (λ r. let P : Plain → Type 0 = λ z. Spells Whole schema z (at_type (closed.dict n t)) before outs after in
        subst P (sym r.1) (map_in schema has n t small le r.0 before outs after r.3 r.2)),
  );
  hashmap_e = λ v before outs after good. (
    (λ e. let r = hashmap_e_record schema has n small t le v before outs after good e in
        (root_of n r.0, r.1 ∙ ap (λ z. map_of tt z []) (sym r.2), r.3, r.4)),
    (λ r. let P : Plain → Type 0 = λ z. Spells Whole schema z (at_type (closed.dict_e n t)) before outs after in
        subst P (sym r.1) (root_map schema has n t small le r.0 before outs after r.3 r.2)),
  );
}
