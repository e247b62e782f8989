-- A record of an edge is a map, where its labels have the required form.
use Rattle.std.proofs.Common.{◌≡◌, ◌≤◌, ℕ, suc, ◌+◌, ◌-◌, List, [], ◌∷◌, ◌++◌, length, Option, Some, None, Ok, refl, sym, ap, ◌∙◌, subst, ◌⊎◌, inl, inr, arith}
use Rattle.std.specs.Prelude.{codes}
use Rattle.cell_nodes.specs.declared.tree.Hidden.{Hidden}
use Rattle.cell_nodes.specs.declared.tree.Mode.TheVariants.{Whole}
use Rattle.cell_nodes.specs.declared.tree.Tree.{Tree}
use Rattle.nat_solver.specs.Number as num
use Rattle.nat_solver.specs.Number.{within, sum_within}
use Rattle.hashmap_labels.specs.Labels.{IsLabel}
use Rattle.hashmap_labels.specs.declared.forms.Forms.TheVariants.{Required}
use Rattle.hashmap_tree.specs.Entries.{Slice, Then, Entries, fork}
use Rattle.hashmap_tree.specs.Dict.{Branch, open_edge}
use Rattle.hashmap_tree.specs.First.{forked}
use Rattle.typed_value.specs.Values.{Plain, Plains, PlainPairs, record_of, ref_to, unknown, no_vals, a_val, no_pairs, a_pair}
use Rattle.core_form.specs.Core.{Word, CoreSchema, no_condition}
use Rattle.core_form.specs.Core as core
use Rattle.core_form.specs.Closed.{Closed, nodes}
use Rattle.core_form.specs.Closed as closed
use Rattle.core_form.specs.Closing.{bounded, of_args, of_type, and_number}
use Rattle.core_form.specs.Fit.{Fits}
use Rattle.core_form.specs.Scope.{Scope, unset, with_number, with_type, bind}
use Rattle.spelling.specs.Slices.{nothing, only_ref}
use Rattle.spelling.specs.Goals.{at_type, at_field, typed, typed_or, judged}
use Rattle.spelling.specs.Spells.{no_meanings, a_meaning, Fields, Spells, SpellsShape, Each, EachPair, EntriesHold, SpellsDict}
use Rattle.declared_maps.specs.Lines.{hm, hm_label, hm_node, HasLines}
use Rattle.declared_maps.specs.LineCores.{items, plain, arguments, edge_core, leaf_core, fork_core}
use Rattle.declared_maps.specs.Records.{Label, AreRequired, label_bits, label_form, child_labels, edge_labels, node_labels, fork_pairs, child_pairs, edge_pairs, node_pairs}
use Rattle.declared_maps.specs.Laws.{pair_args}
use Rattle.declared_maps.proofs.Found.{edge_named, node_named}
use Rattle.declared_maps.proofs.Opened.{at_shape, at_same, bounded_shape, within_small, within_same, Opened, opened, chosen}
use Rattle.declared_maps.proofs.LabelsBack.{label_type, label_back}
use Rattle.declared_maps.proofs.Holding.{closed_edge, fork_holds}

-- ---- closed types

abbrev pub edge_type : ℕ → Closed → Closed
edge_type n t = closed.named hm (pair_args n t)

abbrev pub node_type : ℕ → Closed → Closed
node_type n t = closed.named hm_node (pair_args n t)

pub edge_nodes : (n : ℕ) (t : Closed) → nodes t ≤ 4093 → nodes (edge_type n t) ≤ 4096
edge_nodes n t le = omega (arith, le)

pub node_nodes : (n : ℕ) (t : Closed) → nodes t ≤ 4093 → nodes (node_type n t) ≤ 4096
node_nodes n t le = omega (arith, le)

pub ref_nodes : (n : ℕ) (t : Closed) → nodes t ≤ 4093 → nodes (closed.ref (edge_type n t)) ≤ 4096
ref_nodes n t le = omega (arith, le)

-- what is bound of an edge: n and X, and then l and m
abbrev pub edge_scope : ℕ → Closed → Option ℕ → Option ℕ → Scope
edge_scope n t l m = record { numbers = Some n ∷ None ∷ l ∷ m ∷ []; types = None ∷ Some t ∷ None ∷ None ∷ [] }

abbrev pub leaf_scope : Closed → Scope
leaf_scope t = record { numbers = None ∷ []; types = Some t ∷ [] }

-- n and X
abbrev pub fork_scope : ℕ → Closed → Scope
fork_scope n t = record { numbers = Some n ∷ None ∷ []; types = None ∷ Some t ∷ [] }

edge_bound : (n : ℕ) (t : Closed) (bound : Scope) → Fits edge_core.core (pair_args n t) bound
    → bound ≡ edge_scope n t None None
edge_bound n t bound e = e.2 ∙ (λ i. with_type 1 t (with_number 0 ((sym e.1) i) (unset 4)))

leaf_bound : (m : ℕ) (t : Closed) (bound : Scope) → Fits leaf_core.core (pair_args m t) bound
    → (m ≡ 0) × (bound ≡ leaf_scope t)
leaf_bound m t bound e = (e.1.0, e.2)

fork_bound : (m : ℕ) (t : Closed) (bound : Scope) → Fits fork_core.core (pair_args m t) bound
    → (m ≡ suc (m - 1)) × (bound ≡ fork_scope (m - 1) t)
fork_bound m t bound e =
    let less : e.0 ≡ m - 1 = let z = e.1 in omega (arith, z) in
    (let z = e.1 in omega (arith, z), e.2 ∙ (λ i. with_type 1 t (with_number 0 (less i) (unset 2))))

pub label_shape : (n : ℕ) → n ≤ 1023
    → judged (typed_or (bounded (of_args hm_label (and_number (within n) (Some closed.no_args))))) ≡ Ok (typed (label_type n))
label_shape n small =
    ap (λ o. judged (typed_or (bounded (of_args hm_label (and_number o (Some closed.no_args)))))) (within_small n (omega (arith, small)))

pub node_shape : (m : ℕ) (t : Closed) → m ≤ 1023 → nodes t ≤ 4093
    → judged (typed_or (bounded (of_args hm_node (and_number (within m) (Some (closed.ty_arg t closed.no_args)))))) ≡ Ok (typed (node_type m t))
node_shape m t small le =
    ap (λ o. judged (typed_or (bounded (of_args hm_node (and_number o (Some (closed.ty_arg t closed.no_args))))))) (within_small m (omega (arith, small)))
    ∙ bounded_shape (node_type m t) (node_nodes m t le)

pub ref_shape : (m : ℕ) (t : Closed) → m ≤ 1023 → nodes t ≤ 4093
    → judged (typed_or (bounded (of_type closed.ref (of_args hm (and_number (within m) (Some (closed.ty_arg t closed.no_args))))))) ≡ Ok (typed (closed.ref (edge_type m t)))
ref_shape m t small le =
    ap (λ o. judged (typed_or (bounded (of_type closed.ref (of_args hm (and_number o (Some (closed.ty_arg t closed.no_args)))))))) (within_small m (omega (arith, small)))
    ∙ bounded_shape (closed.ref (edge_type m t)) (ref_nodes m t le)

-- ---- parts

-- a record of an edge, as a map
abbrev pub EdgeBack : CoreSchema → ℕ → Closed → Plain → Slice → Slice → Type 0
EdgeBack schema n t w s after = SpellsDict Whole (EachPair Whole schema (edge_pairs w)) [] n t s after

-- a reference to an edge
pub record ChildBack (schema : CoreSchema) (n : ℕ) (t : Closed) (w : Plain) (s : Slice) (after : Slice) : Type 0 where
  pub cell : Tree
  pub entries : Entries
  pub branch : Branch Whole n entries cell
  pub contents : EntriesHold (EachPair Whole schema (child_pairs w)) [] t entries
  pub taken : Then s (only_ref cell) after

record LeafBack (schema : CoreSchema) (m : ℕ) (t : Closed) (w : Plain) (s after : Slice) : Type 0 where
  pub is : m ≡ 0
  pub inside : Plain
  pub pairs : (p : List ℕ) → node_pairs p w ≡ a_pair p inside no_pairs
  pub outs : List ℕ
  pub spelled : Spells Whole schema inside (at_type t) s outs after

record ForkBack (schema : CoreSchema) (m : ℕ) (t : Closed) (w : Plain) (s after : Slice) : Type 0 where
  pub is : m ≡ suc (m - 1)
  pub zero : Plain
  pub one : Plain
  pub pairs : (p : List ℕ) → node_pairs p w ≡ fork_pairs p (child_pairs zero) (child_pairs one)
  pub middle : Slice
  pub left : ChildBack schema (m - 1) t zero s middle
  pub right : ChildBack schema (m - 1) t one middle after

abbrev NodeBack : CoreSchema → ℕ → Closed → Plain → Slice → Slice → Type 0
NodeBack schema m t w s after = LeafBack schema m t w s after ⊎ ForkBack schema m t w s after

abbrev Children : CoreSchema → ℕ → Closed → Plain → Type 0
Children schema k t v =
    (s : Slice) (outs : List ℕ) (after : Slice) → SpellsShape Whole schema v (typed (closed.ref (edge_type k t))) s outs after
    → AreRequired (child_labels k v) → ChildBack schema k t v s after

abbrev Nodes : CoreSchema → Closed → Plain → Type 0
Nodes schema t node =
    (m : ℕ) → m ≤ 1023 → (s : Slice) (outs : List ℕ) (after : Slice)
    → SpellsShape Whole schema node (typed (node_type m t)) s outs after → AreRequired (node_labels m node)
    → NodeBack schema m t node s after

required_split : (ls ks : List Label) → AreRequired (ls ++ ks) → AreRequired ls × AreRequired ks
required_split [] ks h = (tt, h)
required_split (l ∷ ls) ks h = let r = required_split ls ks h.1 in ((h.0, r.0), r.1)

-- ---- the steps

leaf_case : (schema : CoreSchema) (m : ℕ) (t : Closed) → nodes t ≤ 4093 → (name : Word) (names : List Word)
    (vs : Plains) (s : Slice) (outs : List ℕ) (after : Slice)
    → Opened leaf_core name names (pair_args m t) (Each Whole schema vs) s outs after
    → LeafBack schema m t (record_of (Some name) names vs) s after
leaf_case schema m t le name names no_vals s outs after o = absurd o.items
leaf_case schema m t le name names (a_val v (a_val w ws)) s outs after o = absurd o.items.3
leaf_case schema m t le name names (a_val v no_vals) s outs after o =
    let f = o.items in
    let b = leaf_bound m t o.bound o.fitting in
    let R : Scope → Type 0 = λ z. Spells Whole schema v (at_field no_condition (core.variable 0) z) o.middle f.0 f.1 in
    let at : Spells Whole schema v (at_type t) o.middle f.0 f.1 = at_same schema v (at_field no_condition (core.variable 0) (leaf_scope t)) (at_type t) o.middle f.0 f.1 (bounded_shape t (omega (arith, le))) (subst R b.1 f.2) in
    let left : after ≡ f.1 = f.3.1 in
    let start : (◌≡◌ {A = Slice} o.middle s) = λ i. record { bits = (sym o.tag.bits) i; refs = (sym o.tag.refs) i } in
    let Q : Slice → Type 0 = λ z. Spells Whole schema v (at_type t) z f.0 f.1 in
    let S : Slice → Type 0 = λ z. Spells Whole schema v (at_type t) s f.0 z in
    record { is = b.0; inside = v; pairs = λ p. refl; outs = f.0; spelled = subst S (sym left) (subst Q start at) }

fork_case : (schema : CoreSchema) (m : ℕ) (t : Closed) → m ≤ 1023 → nodes t ≤ 4093 → (name : Word)
    (names : List Word) (v w : Plain) (ws : Plains) (s : Slice) (outs : List ℕ) (after : Slice)
    → Children schema (m - 1) t v → Children schema (m - 1) t w
    → AreRequired (node_labels m (record_of (Some name) names (a_val v (a_val w ws))))
    → Opened fork_core name names (pair_args m t) (Each Whole schema (a_val v (a_val w ws))) s outs after
    → ForkBack schema m t (record_of (Some name) names (a_val v (a_val w ws))) s after
fork_case schema m t small le name names v w (a_val x xs) s outs after iv iw forms o = absurd o.items.3.3
fork_case schema m t small le name names v w no_vals s outs after iv iw forms o =
    let f = o.items in
    let b = fork_bound m t o.bound o.fitting in
    let both = required_split (child_labels (m - 1) v) (child_labels (m - 1) w) forms in
    let shape = ref_shape (m - 1) t (omega (arith, small)) le in
    let R : Scope → Type 0 = λ z. Spells Whole schema v (at_field no_condition (core.ref (core.named hm (arguments 0 1))) z) o.middle f.0 f.1 in
    let x = iv o.middle f.0 f.1 (at_shape schema v (at_field no_condition (core.ref (core.named hm (arguments 0 1))) (fork_scope (m - 1) t)) (closed.ref (edge_type (m - 1) t)) o.middle f.0 f.1 shape (subst R b.1 f.2)) both.0 in
    let P : Scope → Type 0 = λ z. Fields (items (plain (codes "right") (core.ref (core.named hm (arguments 0 1))) ∷ [])) (a_meaning (Spells Whole schema w) no_meanings) z f.1 o.end after in
    let scope : bind [] f.0 o.bound ≡ fork_scope (m - 1) t = b.1 in
    let h = subst P scope f.3 in
    let y = iw f.1 h.0 h.1 (at_shape schema w (at_field no_condition (core.ref (core.named hm (arguments 0 1))) (fork_scope (m - 1) t)) (closed.ref (edge_type (m - 1) t)) f.1 h.0 h.1 shape h.2) both.1 in
    let left : after ≡ h.1 = h.3.1 in
    let start : (◌≡◌ {A = Slice} o.middle s) = λ i. record { bits = (sym o.tag.bits) i; refs = (sym o.tag.refs) i } in
    let Q : Slice → Type 0 = λ z. ChildBack schema (m - 1) t v z f.1 in
    let S : Slice → Type 0 = λ z. ChildBack schema (m - 1) t w f.1 z in
    record { is = b.0; zero = v; one = w; pairs = λ p. refl; middle = f.1; left = subst Q start x; right = subst S (sym left) y }

-- an edge after its label
after_label : (schema : CoreSchema) (n m : ℕ) (t : Closed) (name : Option Word) (names : List Word) (label node : Plain) (s middle after : Slice)
    → IsLabel Required n (label_bits label) s.bits middle.bits → s.refs ≡ middle.refs
    → n ≡ m + length (label_bits label) → NodeBack schema m t node middle after
    → EdgeBack schema n t (record_of name names (a_val label (a_val node no_vals))) s after
after_label schema n m t name names label node s middle after is refs len (inl f) =
    let l = label_bits label in
    let P : PlainPairs → Type 0 = λ z. SpellsDict Whole (EachPair Whole schema z) [] n t s after in
    subst P (sym (f.pairs l)) (inl (middle, f.outs, record { long = let z = f.is in omega (arith, len, z); label = is; refs = refs }, f.spelled))
after_label schema n m t name names label node s middle after is refs len (inr f) =
    let l = label_bits label in
    let x = f.left in
    let y = f.right in
    let long : n ≡ length l + suc (m - 1) = let z = f.is in omega (arith, len, z) in
    let L : List ℕ → Type 0 = λ z. IsLabel Required n l s.bits z in
    let P : PlainPairs → Type 0 = λ z. SpellsDict Whole (EachPair Whole schema z) [] n t s after in
    subst P (sym (f.pairs l)) (inr (
      fork l x.entries y.entries,
      forked l (m - 1) x.entries y.entries x.cell y.cell refl long (subst L (x.taken.bits ∙ y.taken.bits) is) (refs ∙ x.taken.refs ∙ ap (λ (z : List Tree). x.cell ∷ z) y.taken.refs) x.branch y.branch,
      fork_holds schema t l (child_pairs f.zero) (child_pairs f.one) x.entries y.entries x.contents y.contents,
    ))

-- what the equation gives
solved : (n m l k : ℕ) → within n ≡ Some k → sum_within (within m) (within l) ≡ Some k → n ≡ m + l
solved n m l k e f = within_same n k e ∙ sym (first (within m) (within l) refl refl f)
  where
    first : (a b : Option ℕ) → within m ≡ a → within l ≡ b → sum_within a b ≡ Some k → m + l ≡ k
    first None b p q f = cc
    first (Some x) None p q f = cc
    first (Some x) (Some y) p q f =
        let i = within_same m x p in
        let j = within_same l y q in
        let s = within_same (x + y) k f in
        omega (arith, i, j, s)

edge_case : (schema : CoreSchema) → HasLines schema → (n : ℕ) (t : Closed) → n ≤ 1023 → nodes t ≤ 4093
    → (name : Word) (names : List Word) (label node : Plain) (s : Slice) (outs : List ℕ) (after : Slice)
    → Nodes schema t node
    → AreRequired (edge_labels n (record_of (Some name) names (a_val label (a_val node no_vals))))
    → Opened edge_core name names (pair_args n t) (Each Whole schema (a_val label (a_val node no_vals))) s outs after
    → EdgeBack schema n t (record_of (Some name) names (a_val label (a_val node no_vals))) s after
edge_case schema has n t small le name names label node s outs after ih forms o =
    let f = o.items in
    let bound = edge_bound n t o.bound o.fitting in
    let R : Scope → Type 0 = λ z. Spells Whole schema label (at_field no_condition (core.named hm_label (core.out_arg 2 (core.nat_arg (num.var 0) core.no_args))) z) o.middle f.0 f.1 in
    let u = label_back schema has n small label o.middle f.0 f.1 (at_shape schema label (at_field no_condition (core.named hm_label (core.out_arg 2 (core.nat_arg (num.var 0) core.no_args))) (edge_scope n t None None)) (label_type n) o.middle f.0 f.1 (label_shape n small) (subst R bound f.2)) in
    let l = length (label_bits label) in
    let scope : bind (2 ∷ []) f.0 o.bound ≡ edge_scope n t (Some l) None = λ i. bind (2 ∷ []) (u.out i) (bound i) in
    let P : Scope → Type 0 = λ z. Fields (items (core.solve 3 (num.var 0) (num.plus (num.sought 3) (num.var 2)) 6 ∷ plain (codes "node") (core.named hm_node (arguments 3 1)) ∷ [])) (a_meaning (Spells Whole schema node) no_meanings) z f.1 o.end after in
    let g = subst P scope f.3 in
    let m = g.0 in
    let len : n ≡ m + l = solved n m l g.1.0 g.1.1 g.1.2 in
    let h = g.2 in
    let short : m ≤ 1023 = omega (arith, len, small) in
    let below : n - l ≡ m = omega (arith, len) in
    let A : ℕ → Type 0 = λ z. AreRequired (node_labels z node) in
    let x = ih m short f.1 h.0 h.1 (at_shape schema node (at_field no_condition (core.named hm_node (arguments 3 1)) (edge_scope n t (Some l) (Some m))) (node_type m t) f.1 h.0 h.1 (node_shape m t short le) h.2) (subst A below forms.1) in
    let left : after ≡ h.1 = h.3.1 in
    let B : Slice → Type 0 = λ z. NodeBack schema m t node f.1 z in
    let T : List ℕ → Type 0 = λ z. IsLabel Required n (label_bits label) z f.1.bits in
    after_label schema n m t (Some name) names label node s f.1 after (subst T (sym o.tag.bits) (label_form label, u.short, forms.0, u.bits)) (o.tag.refs ∙ u.refs) len (subst B (sym left) x)

no_fields : (schema : CoreSchema) (m : ℕ) (t : Closed) (name : Word) (names : List Word) (s : Slice) (outs : List ℕ) (after : Slice)
    → Opened fork_core name names (pair_args m t) (Each Whole schema no_vals) s outs after → ⊥
no_fields schema m t name names s outs after o = absurd o.items

one_field : (schema : CoreSchema) (m : ℕ) (t : Closed) (name : Word) (names : List Word) (v : Plain) (s : Slice) (outs : List ℕ) (after : Slice)
    → Opened fork_core name names (pair_args m t) (Each Whole schema (a_val v no_vals)) s outs after → ⊥
one_field schema m t name names v s outs after o = absurd o.items.3

-- the reference is to an ordinary cell whose content is an edge
child_case : (schema : CoreSchema) (k : ℕ) (t : Closed) (a : Unit {0}) (v : Plain) (s : Slice) (outs : List ℕ) (after : Slice)
    → ((s : Slice) (after : Slice) (outs : List ℕ) → SpellsShape Whole schema v (typed (edge_type k t)) s outs after → EdgeBack schema k t v s after)
    → SpellsShape Whole schema (ref_to a v) (typed (closed.ref (edge_type k t))) s outs after
    → ChildBack schema k t (ref_to a v) s after
child_case schema k t a v s outs after ih e =
    let d = e.3 in
    let x = closed_edge schema (edge_pairs v) k t d.0 (ih d.0 nothing d.1 (at_shape schema v (at_type (edge_type k t)) (edge_type k t) d.0 d.1 nothing refl d.3)) in
    record { cell = e.0; entries = x.entries; branch = open_edge Whole k x.entries e.0 d.0 d.2 x.tree; contents = x.contents; taken = e.2 }

none_hidden : (h : Hidden) → (◌≡◌ {A = Option Hidden} None (Some h)) → ⊥
none_hidden h e = cc

mutual
  pub edge_back : (schema : CoreSchema) → HasLines schema → (n : ℕ) (t : Closed) → n ≤ 1023 → nodes t ≤ 4093
      → (w : Plain) (s : Slice) (outs : List ℕ) (after : Slice)
      → SpellsShape Whole schema w (typed (edge_type n t)) s outs after → AreRequired (edge_labels n w)
      → EdgeBack schema n t w s after
  edge_back schema has n t small le (record_of None names vs) s outs after e forms = absurd e
  edge_back schema has n t small le (record_of (Some name) names no_vals) s outs after e forms = elim (chosen schema hm name names (pair_args n t) (Each Whole schema no_vals) s outs after e (edge_core ∷ []) (edge_named schema has)) [
    | inl k ↦ let o = opened schema hm name names (pair_args n t) (Each Whole schema no_vals) s outs after e edge_core k in absurd o.items
    | inr k ↦ absurd k
  ]
  edge_back schema has n t small le (record_of (Some name) names (a_val label no_vals)) s outs after e forms = elim (chosen schema hm name names (pair_args n t) (Each Whole schema (a_val label no_vals)) s outs after e (edge_core ∷ []) (edge_named schema has)) [
    | inl k ↦ let o = opened schema hm name names (pair_args n t) (Each Whole schema (a_val label no_vals)) s outs after e edge_core k in absurd o.items.3.2
    | inr k ↦ absurd k
  ]
  edge_back schema has n t small le (record_of (Some name) names (a_val label (a_val node (a_val x xs)))) s outs after e forms = elim (chosen schema hm name names (pair_args n t) (Each Whole schema (a_val label (a_val node (a_val x xs)))) s outs after e (edge_core ∷ []) (edge_named schema has)) [
    | inl k ↦ let o = opened schema hm name names (pair_args n t) (Each Whole schema (a_val label (a_val node (a_val x xs)))) s outs after e edge_core k in absurd o.items.3.2.3
    | inr k ↦ absurd k
  ]
  edge_back schema has n t small le (record_of (Some name) names (a_val label (a_val node no_vals))) s outs after e forms = elim (chosen schema hm name names (pair_args n t) (Each Whole schema (a_val label (a_val node no_vals))) s outs after e (edge_core ∷ []) (edge_named schema has)) [
    | inl k ↦ edge_case schema has n t small le name names label node s outs after (λ m short. node_back schema has m t short le node) forms (opened schema hm name names (pair_args n t) (Each Whole schema (a_val label (a_val node no_vals))) s outs after e edge_core k)
    | inr k ↦ absurd k
  ]
  edge_back schema has n t small le _ s outs after e forms = absurd e

  node_back : (schema : CoreSchema) → HasLines schema → (m : ℕ) (t : Closed) → m ≤ 1023 → nodes t ≤ 4093
      → (w : Plain) (s : Slice) (outs : List ℕ) (after : Slice)
      → SpellsShape Whole schema w (typed (node_type m t)) s outs after → AreRequired (node_labels m w)
      → NodeBack schema m t w s after
  node_back schema has m t small le (record_of None names vs) s outs after e forms = absurd e
  node_back schema has m t small le (record_of (Some name) names no_vals) s outs after e forms = elim (chosen schema hm_node name names (pair_args m t) (Each Whole schema no_vals) s outs after e (leaf_core ∷ fork_core ∷ []) (node_named schema has)) [
    | inl k ↦ inl (leaf_case schema m t le name names no_vals s outs after (opened schema hm_node name names (pair_args m t) (Each Whole schema no_vals) s outs after e leaf_core k))
    | inr (inl k) ↦ absurd (no_fields schema m t name names s outs after (opened schema hm_node name names (pair_args m t) (Each Whole schema no_vals) s outs after e fork_core k))
    | inr (inr k) ↦ absurd k
  ]
  node_back schema has m t small le (record_of (Some name) names (a_val v no_vals)) s outs after e forms = elim (chosen schema hm_node name names (pair_args m t) (Each Whole schema (a_val v no_vals)) s outs after e (leaf_core ∷ fork_core ∷ []) (node_named schema has)) [
    | inl k ↦ inl (leaf_case schema m t le name names (a_val v no_vals) s outs after (opened schema hm_node name names (pair_args m t) (Each Whole schema (a_val v no_vals)) s outs after e leaf_core k))
    | inr (inl k) ↦ absurd (one_field schema m t name names v s outs after (opened schema hm_node name names (pair_args m t) (Each Whole schema (a_val v no_vals)) s outs after e fork_core k))
    | inr (inr k) ↦ absurd k
  ]
  node_back schema has m t small le (record_of (Some name) names (a_val v (a_val w ws))) s outs after e forms = elim (chosen schema hm_node name names (pair_args m t) (Each Whole schema (a_val v (a_val w ws))) s outs after e (leaf_core ∷ fork_core ∷ []) (node_named schema has)) [
    | inl k ↦ inl (leaf_case schema m t le name names (a_val v (a_val w ws)) s outs after (opened schema hm_node name names (pair_args m t) (Each Whole schema (a_val v (a_val w ws))) s outs after e leaf_core k))
    | inr (inl k) ↦ inr (fork_case schema m t small le name names v w ws s outs after (child_back schema has (m - 1) t (omega (arith, small)) le v) (child_back schema has (m - 1) t (omega (arith, small)) le w) forms (opened schema hm_node name names (pair_args m t) (Each Whole schema (a_val v (a_val w ws))) s outs after e fork_core k))
    | inr (inr k) ↦ absurd k
  ]
  node_back schema has m t small le _ s outs after e forms = absurd e

  pub child_back : (schema : CoreSchema) → HasLines schema → (k : ℕ) (t : Closed) → k ≤ 1023 → nodes t ≤ 4093
      → (v : Plain) → Children schema k t v
  child_back schema has k t small le (ref_to a v) s outs after e forms =
      child_case schema k t a v s outs after (λ s after outs e. edge_back schema has k t small le v s outs after e forms) e
  child_back schema has k t small le (unknown h) s outs after e forms = absurd (none_hidden h e.3)
  child_back schema has k t small le (record_of None names vs) s outs after e forms = absurd e
  child_back schema has k t small le (record_of (Some name) names vs) s outs after e forms = absurd e
  child_back schema has k t small le _ s outs after e forms = absurd e
