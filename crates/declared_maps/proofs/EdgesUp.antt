-- The record of a map is spelled by what spells the map.
use Rattle.std.proofs.Common.{◌≡◌, ◌<◌, ◌≤◌, ℕ, zero, suc, ◌+◌, ◌-◌, Bool, true, false, cond, nat_lt, List, [], ◌∷◌, ◌++◌, length, Option, Some, None, refl, sym, ap, ◌∙◌, subst, inl, inr, arith}
use Rattle.bit_slice.specs.Bits.{AreBits, bit_length}
use Rattle.cell_nodes.specs.Equations.{out-tree_of}
use Rattle.cell_nodes.specs.Good.{IsGood, AllGood}
use Rattle.cell_nodes.specs.GoodParts.{good-sound, all_good-head, all_good-tail}
use Rattle.cell_nodes.specs.PrunesLaws.{good-below}
use Rattle.cell_nodes.specs.declared.tree.Hidden.{Hidden}
use Rattle.cell_nodes.specs.declared.tree.Kind.TheVariants.{Ordinary}
use Rattle.cell_nodes.specs.declared.tree.Mode.TheVariants.{Whole}
use Rattle.cell_nodes.specs.declared.tree.Tree.{Tree}
use Rattle.cell_nodes.specs.declared.tree.Tree.TheOpen.{Tree-F}
use Rattle.nat_solver.specs.Number.{within, sum_within}
use Rattle.hashmap_labels.specs.Labels.{required_form, IsForm, IsLabel}
use Rattle.hashmap_labels.specs.SpellingLaws.{label_bits as label_is_bits}
use Rattle.hashmap_labels.specs.declared.forms.Forms.TheVariants.{Required}
use Rattle.hashmap_labels.specs.declared.forms.LabelForm.{LabelForm}
use Rattle.hashmap_labels.specs.declared.forms.LabelForm.TheVariants.{Short, Long, Same}
use Rattle.std.specs.Prelude.{codes}
use Rattle.hashmap_tree.specs.Entries.{Slice, cell_of, Then, Entries}
use Rattle.hashmap_tree.specs.Dict.{DictTree, Branch, open_edge, hidden_edge, unseen}
use Rattle.hashmap_tree.specs.First.{LeafEdge, Fork, forked}
use Rattle.typed_value.specs.Values.{Plain, PlainPairs, record_of, ref_to, no_pairs, a_pair}
use Rattle.core_form.specs.Core.{CoreSchema, no_condition}
use Rattle.core_form.specs.Core as core
use Rattle.core_form.specs.Closed.{Closed, nodes}
use Rattle.core_form.specs.Closed as closed
use Rattle.nat_solver.specs.Number as num
use Rattle.spelling.specs.Slices.{nothing, only_ref}
use Rattle.spelling.specs.Goals.{at_type, at_field, typed}
use Rattle.spelling.specs.Spells.{Spells, EachPair, EntriesHold, SpellsDict}
use Rattle.declared_maps.specs.Lines.{hm, hm_label, hm_node, HasLines}
use Rattle.declared_maps.specs.LineCores.{arguments, edge_core, leaf_core, fork_core}
use Rattle.declared_maps.specs.Records.{Label, AreRequired, label_bits, edge_labels, edge_pairs, fork_pairs}
use Rattle.declared_maps.specs.MapRecords.{label_record, edge_record, leaf_record, fork_record, edge_by, edge_within}
use Rattle.declared_maps.specs.Laws.{IsGoodContent, pair_args}
use Rattle.declared_maps.proofs.Found.{edge_named, node_named}
use Rattle.declared_maps.proofs.Opened.{at_same, bounded_shape, within_small, built}
use Rattle.declared_maps.proofs.LabelsBack.{label_type}
use Rattle.declared_maps.proofs.Holding.{fork_split}
use Rattle.declared_maps.proofs.Holding.{open_edge as from_tree}
use Rattle.declared_maps.proofs.EdgesBack.{edge_type, node_type, edge_scope, leaf_scope, fork_scope, label_shape, node_shape, ref_shape}
use Rattle.declared_maps.proofs.Keys.{Some_pairs, fork_is, some_joined}
use Rattle.declared_maps.proofs.Values.{one_val, two_vals, LabelUp, label_up}

-- ---- good contents

pub content_good : (s : Slice) → IsGood (cell_of s) → IsGoodContent s
content_good s g =
    let P : Tree-F Tree → Type 0 = λ n. AreBits n.bits in
    record {
      bits = subst P (out-tree_of Ordinary s.bits s.refs) (good-sound (cell_of s) g).bits;
      refs = good-below Ordinary s.bits s.refs g;
    }

label_good : (n : ℕ) (l s rest : List ℕ) → IsLabel Required n l s rest → AreBits s → AreBits l
label_good n l s rest label are = ((label_is_bits Required n l s rest label).0 are).0

-- ---- the steps

-- a label and a node make an edge
edge_up : (schema : CoreSchema) → HasLines schema → (n m : ℕ) (t : Closed) → n ≤ 1023 → nodes t ≤ 4093 → (l : ℕ)
    (label node : Plain) (s middle after : Slice) → n ≡ m + l
    → Spells Whole schema label (at_type (label_type n)) s (l ∷ []) middle
    → Spells Whole schema node (at_type (node_type m t)) middle [] after
    → Spells Whole schema (record_of (Some (codes "hm_edge")) (codes "label" ∷ codes "node" ∷ []) (two_vals label node)) (at_type (edge_type n t)) s [] after
edge_up schema has n m t small le l label node s middle after len a b =
    let short : m ≤ 1023 = omega (arith, len, small) in
    let low : l ≤ 1023 = omega (arith, len, small) in
    let is : sum_within (within m) (within l) ≡ Some n =
    (λ i. sum_within (within_small m (omega (arith, short)) i) (within_small l (omega (arith, low)) i)) ∙ within_small (m + l) (omega (arith, len, small)) ∙ ap Some (sym len) in
    built schema hm (pair_args n t) (edge_core ∷ []) edge_core (two_vals label node) s [] after (edge_named schema has) (inl refl) refl
    (record {
      called = refl;
      with_names = refl;
      bound = edge_scope n t None None;
      middle = s;
      end = edge_scope n t (Some l) (Some m);
      fitting = (n, refl, refl);
      tag = record { bits = refl; refs = refl };
      items = (
        l ∷ [],
        middle,
        at_same schema label (at_type (label_type n)) (at_field no_condition (core.named hm_label (core.out_arg 2 (core.nat_arg (num.var 0) core.no_args))) (edge_scope n t None None)) s (l ∷ []) middle (sym (label_shape n small)) a,
        (
          m,
          (n, within_small n (omega (arith, small)), is),
          ([], after, at_same schema node (at_type (node_type m t)) (at_field no_condition (core.named hm_node (arguments 3 1)) (edge_scope n t (Some l) (Some m))) middle [] after (sym (node_shape m t short le)) b, (refl, refl)),
        ),
      );
      outputs = refl;
    })

leaf_up : (schema : CoreSchema) → HasLines schema → (t : Closed) → nodes t ≤ 4093 → (v : Plain) (s : Slice)
    (outs : List ℕ) (after : Slice) → Spells Whole schema v (at_type t) s outs after
    → Spells Whole schema (leaf_record v) (at_type (node_type 0 t)) s [] after
leaf_up schema has t le v s outs after e =
    built schema hm_node (pair_args 0 t) (leaf_core ∷ fork_core ∷ []) leaf_core (one_val v) s [] after (node_named schema has) (inl refl) refl
    (record {
      called = refl;
      with_names = refl;
      bound = leaf_scope t;
      middle = s;
      end = leaf_scope t;
      fitting = (0, (refl, refl), refl);
      tag = record { bits = refl; refs = refl };
      items = (outs, after, at_same schema v (at_type t) (at_field no_condition (core.variable 0) (leaf_scope t)) s outs after (sym (bounded_shape t (omega (arith, le)))) e, (refl, refl));
      outputs = refl;
    })

-- an edge in the cell of a reference
pub child_up : (schema : CoreSchema) (m : ℕ) (t : Closed) → m ≤ 1023 → nodes t ≤ 4093 → (v : Plain) (c : Tree)
    (d s after : Slice) → c ≡ cell_of d → Then s (only_ref c) after
    → Spells Whole schema v (at_type (edge_type m t)) d [] nothing
    → Spells Whole schema (ref_to tt v) (at_field no_condition (core.ref (core.named hm (arguments 0 1))) (fork_scope m t)) s [] after
child_up schema m t small le v c d s after same taken e =
    (typed (closed.ref (edge_type m t)), ref_shape m t small le, (c, refl, taken, (d, [], same, e), tt))

fork_up : (schema : CoreSchema) → HasLines schema → (m : ℕ) (t : Closed) → m ≤ 1023 → nodes t ≤ 4093 → (z o : Plain)
    (c e : Tree) (d f s after : Slice) → c ≡ cell_of d → e ≡ cell_of f → s.bits ≡ after.bits
    → s.refs ≡ c ∷ (e ∷ after.refs) → Spells Whole schema z (at_type (edge_type m t)) d [] nothing
    → Spells Whole schema o (at_type (edge_type m t)) f [] nothing
    → Spells Whole schema (fork_record z o) (at_type (node_type (suc m) t)) s [] after
fork_up schema has m t small le z o c e d f s after cd ef bits refs ez eo =
    let next : Slice = record { bits = s.bits; refs = e ∷ after.refs } in
    built schema hm_node (pair_args (suc m) t) (leaf_core ∷ fork_core ∷ []) fork_core (two_vals (ref_to tt z) (ref_to tt o)) s [] after (node_named schema has) (inr (inl refl)) refl
    (record {
      called = refl;
      with_names = refl;
      bound = fork_scope m t;
      middle = s;
      end = fork_scope m t;
      fitting = (m, omega arith, refl);
      tag = record { bits = refl; refs = refl };
      items = (
        [],
        next,
        child_up schema m t small le z c d s next cd (record { bits = refl; refs = refs }) ez,
        ([], after, child_up schema m t small le o e f next after ef (record { bits = bits; refs = refl }) eo, (refl, refl)),
      );
      outputs = refl;
    })

-- ---- edges

-- the record of pairs, of less than so many forks one below the other
pub record EdgeUp (schema : CoreSchema) (depth n : ℕ) (t : Closed) (ps : PlainPairs) (s after : Slice) : Type 0 where
  pub some : Some_pairs ps
  pub pairs : edge_pairs (edge_within depth n ps) ≡ ps
  pub forms : AreRequired (edge_labels n (edge_within depth n ps))
  pub spelled : Spells Whole schema (edge_within depth n ps) (at_type (edge_type n t)) s [] after

-- the same of this record
up_by : (schema : CoreSchema) (depth n : ℕ) (t : Closed) (ps : PlainPairs) (s after : Slice) (w : Plain)
    → w ≡ edge_within depth n ps → Some_pairs ps → edge_pairs w ≡ ps → AreRequired (edge_labels n w)
    → Spells Whole schema w (at_type (edge_type n t)) s [] after → EdgeUp schema depth n t ps s after
up_by schema depth n t ps s after w is some pairs forms spelled =
    let E : Plain → Type 0 = λ z. edge_pairs z ≡ ps in
    let A : Plain → Type 0 = λ z. AreRequired (edge_labels n z) in
    let S : Plain → Type 0 = λ z. Spells Whole schema z (at_type (edge_type n t)) s [] after in
    record { some = some; pairs = subst E is pairs; forms = subst A is forms; spelled = subst S is spelled }

-- no bits are required to be repeated where there are none
same_has_bits : (n : ℕ) (l : List ℕ) → required_form n l ≡ Same → (m : ℕ) × (length l ≡ suc m)
same_has_bits n [] e = absurd (go (nat_lt (bit_length n) 0) e)
  where
    go : (b : Bool) → cond b Long Short ≡ Same → ⊥
    go true e = cc
    go false e = cc
same_has_bits n (x ∷ l) e = (length l, refl)

-- the label in the required form
required_up : (schema : CoreSchema) → HasLines schema → (n : ℕ) → n ≤ 1023 → (l : List ℕ) (s after : Slice)
    → IsLabel Required n l s.bits after.bits → AreBits s.bits → s.refs ≡ after.refs
    → LabelUp schema (required_form n l) n l s after
required_up schema has n small l s after label are refs =
    let F : LabelForm → Type 0 = λ f. IsForm f (bit_length n) l s.bits after.bits in
    label_up schema has (required_form n l) n small l (label_good n l s.bits after.bits label are) label.1 (same_has_bits n l) s after (subst F label.2 label.3) refs

required_joined : (ls ks : List Label) → AreRequired ls → AreRequired ks → AreRequired (ls ++ ks)
required_joined [] ks e f = f
required_joined (l ∷ ls) ks e f = (e.0, required_joined ls ks e.1 f)

leaf_to : (schema : CoreSchema) → HasLines schema → (depth n : ℕ) (t : Closed) → n ≤ 1023 → nodes t ≤ 4093 → (k : List ℕ)
    (v : Plain) (s middle : Slice) (outs : List ℕ) (after : Slice) → IsGoodContent s → LeafEdge Whole n k s middle
    → Spells Whole schema v (at_type t) middle outs after → EdgeUp schema (suc depth) n t (a_pair k v no_pairs) s after
leaf_to schema has depth n t small le k v s middle outs after good d e =
    let l = required_up schema has n small k s middle d.label good.bits d.refs in
    let long = d.long in
    record {
      some = (k, v, no_pairs, refl);
      pairs = ap (λ (x : List ℕ). a_pair x v no_pairs) l.bits;
      forms = (l.form ∙ ap (required_form n) (sym l.bits), tt);
      spelled = edge_up schema has n 0 t small le (length k) (label_record (required_form n k) k) (leaf_record v) s middle after (omega (arith, long)) l.spelled (leaf_up schema has t le v middle outs after e);
    }

-- the content of a part
pub record IsPart (m : ℕ) (es : Entries) (c : Tree) : Type 0 where
  pub content : Slice
  pub same : c ≡ cell_of content
  pub tree : DictTree Whole m es content

pub part_of : (m : ℕ) (es : Entries) (c : Tree) → Branch Whole m es c → IsPart m es c
part_of m es c (open_edge _ _ _ _ s same tree) = record { content = s; same = same; tree = tree }
part_of m es c (hidden_edge _ _ _ _ h unseen same) = absurd (none_hidden h unseen)
  where
    none_hidden : (h : Hidden) → (◌≡◌ {A = Option Hidden} None (Some h)) → ⊥
    none_hidden h e = cc

abbrev Ready : CoreSchema → Closed → ℕ → Type 0
Ready schema t top =
    (m : ℕ) → m < top → m ≤ 1023 → (ps : PlainPairs) (s after : Slice) → IsGoodContent s
    → SpellsDict Whole (EachPair Whole schema ps) [] m t s after → EdgeUp schema top m t ps s after

pub cell_good : (c : Tree) (d : Slice) → c ≡ cell_of d → IsGood c → IsGoodContent d
cell_good c d same g = content_good d (subst IsGood same g)

fork_to : (schema : CoreSchema) → HasLines schema → (top n : ℕ) (t : Closed) → Ready schema t top → n ≤ top → n ≤ 1023
    → nodes t ≤ 4093 → (ps : PlainPairs) (es : Entries) (s after : Slice) → IsGoodContent s → Fork Whole n es s after
    → EntriesHold (EachPair Whole schema ps) [] t es → EdgeUp schema (suc top) n t ps s after
fork_to schema has top n t ready lt small le ps es s after good (forked p m zs os z o same len label refs dz do_) contents =
    let P : Entries → Type 0 = λ x. EntriesHold (EachPair Whole schema ps) [] t x in
    let h = fork_split schema t p ps zs os (subst P same contents) in
    let cz = part_of m zs z dz in
    let co = part_of m os o do_ in
    let all : AllGood (z ∷ (o ∷ after.refs)) = subst AllGood refs good.refs in
    let gz = cell_good z cz.content cz.same (all_good-head z (o ∷ after.refs) all) in
    let go = cell_good o co.content co.same (all_good-head o after.refs (all_good-tail z (o ∷ after.refs) all)) in
    let x = ready m (omega (arith, lt, len)) (omega (arith, small, len)) h.0 cz.content nothing gz (from_tree schema h.0 m t cz.content zs cz.tree h.3) in
    let y = ready m (omega (arith, lt, len)) (omega (arith, small, len)) h.1 co.content nothing go (from_tree schema h.1 m t co.content os co.tree h.4) in
    let middle : Slice = record { bits = after.bits; refs = s.refs } in
    let l = required_up schema has n small p s middle label good.bits refl in
    let p_record = label_record (required_form n p) p in
    let len_in : length (label_bits p_record) ≡ length p = ap length l.bits in
    let below : n - length (label_bits p_record) - 1 ≡ m = omega (arith, len, len_in) in
    let left : n - length p - 1 ≡ m = omega (arith, len) in
    let z_record = edge_within top m h.0 in
    let o_record = edge_within top m h.1 in
    let B : ℕ → Type 0 = λ j. AreRequired (edge_labels j z_record ++ edge_labels j o_record) in
    let Q : PlainPairs → Type 0 = Some_pairs in
    up_by schema (suc top) n t ps s after (edge_record n p (fork_record z_record o_record))
    (sym (ap (edge_by (edge_within top) n) h.2 ∙ fork_is (edge_within top) n m p h.0 h.1 x.some y.some left))
    (subst Q (sym h.2) (some_joined p h.0 h.1 x.some))
    ((λ i. fork_pairs (l.bits i) (x.pairs i) (y.pairs i)) ∙ sym h.2)
    (l.form ∙ ap (required_form n) (sym l.bits), subst B (sym below) (required_joined (edge_labels m z_record) (edge_labels m o_record) x.forms y.forms))
    (edge_up schema has n (suc m) t small le (length p) p_record (fork_record z_record o_record) s middle after (omega (arith, len)) l.spelled (fork_up schema has m t (omega (arith, small, len)) le z_record o_record z o cz.content co.content middle after cz.same co.same refl refs x.spelled y.spelled))

dict_to : (schema : CoreSchema) → HasLines schema → (top n : ℕ) (t : Closed) → Ready schema t top → n ≤ top → n ≤ 1023
    → nodes t ≤ 4093 → (ps : PlainPairs) (s after : Slice) → IsGoodContent s
    → SpellsDict Whole (EachPair Whole schema ps) [] n t s after → EdgeUp schema (suc top) n t ps s after
dict_to schema has top n t ready lt small le no_pairs s after good (inl e) = absurd e
dict_to schema has top n t ready lt small le (a_pair k v (a_pair l w ps)) s after good (inl e) = absurd e
dict_to schema has top n t ready lt small le (a_pair k v no_pairs) s after good (inl e) = leaf_to schema has top n t small le k v s e.0 e.1 after good e.2 e.3
dict_to schema has top n t ready lt small le ps s after good (inr e) = fork_to schema has top n t ready lt small le ps e.0 s after good e.1 e.2

edges_to : (schema : CoreSchema) → HasLines schema → (t : Closed) → nodes t ≤ 4093 → (top : ℕ) → Ready schema t top
edges_to schema has t le zero m lt small ps s after good e = absurd (omega (arith, lt))
edges_to schema has t le (suc top) m lt small ps s after good e = dict_to schema has top m t (edges_to schema has t le top) (omega (arith, lt)) small le ps s after good e

pub edge_to : (schema : CoreSchema) → HasLines schema → (n : ℕ) (t : Closed) → n ≤ 1023 → nodes t ≤ 4093
    → (ps : PlainPairs) (s after : Slice) → IsGoodContent s → SpellsDict Whole (EachPair Whole schema ps) [] n t s after
    → EdgeUp schema (suc n) n t ps s after
edge_to schema has n t small le ps s after good e = edges_to schema has t le (suc n) n (omega arith) small ps s after good e
