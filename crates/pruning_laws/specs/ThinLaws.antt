-- Any pruned tree of a tree that reads is the stub, or reads as the value blanked where it is pruned, but that each
-- tree in a Raw or a Rest prunes to the one there.
use Rattle.std.specs.Prelude.{filter}
use Rattle.std.proofs.Common.{◌≡◌, ◌⊎◌, inl, inr, ℕ, suc, Bool, true, false, cond, IsTrue, List, [], ◌∷◌, ◌++◌}
use Rattle.std.proofs.Common.{length, map, Option, Some, None, slice_get, refl, sym, ap, ◌∙◌, subst, append_assoc}
use Rattle.std.proofs.Common.{length-append, arith}
use Rattle.std.proofs.lemmas.List.{append-nil}
use Rattle.cell_nodes.specs.Constructed.{stub}
use Rattle.cell_nodes.specs.Equations.{out-tree_of, marks-out}
use Rattle.cell_nodes.specs.GoodParts.{good-sound}
use Rattle.cell_nodes.specs.HiddenParts.{hidden_by}
use Rattle.cell_nodes.specs.Layout.{has_layout, stored_mask}
use Rattle.cell_nodes.specs.LayoutLaws.{pruned_layout}
use Rattle.cell_nodes.specs.Prunes.{Prunes, same, hidden, ordinary, proof, AllPrune, none, more}
use Rattle.cell_nodes.specs.Tree.{Marks, tree_of, marks, mask, mask_of}
use Rattle.cell_nodes.specs.declared.tree.Kind.{Kind}
use Rattle.cell_nodes.specs.declared.tree.Kind.TheVariants.{Ordinary, Pruned, Library, Proof, Update}
use Rattle.cell_nodes.specs.declared.tree.Mode.TheVariants.{Partial}
use Rattle.cell_nodes.specs.declared.tree.Tree.{Tree, out-Tree}
use Rattle.hashmap_tree.specs.Dict.{unseen}
use Rattle.core_form.specs.Core.{CoreSchema}
use Rattle.core_form.specs.Closed.{Closed}
use Rattle.spelling.specs.Goals.{under_ref}
use Rattle.spelling.specs.Spells.{Reading}
use Rattle.typed_value.specs.Paths.{Stride, named, item, keyed}
use Rattle.typed_value.specs.Values.{Plain, Plains, PlainPairs, no_vals, a_val, no_pairs, a_pair}
use Rattle.typed_value.specs.Values as values
use Rattle.pruning.specs.Laid.{Laid, number, bit_string, record_of, absent, list_of, ref_to, ref_to_raw, no_map}
use Rattle.pruning.specs.Laid.{map_under, map_here, rest, Laids, no_laids, a_laid, LaidEdge, a_leaf, a_fork, join}
use Rattle.pruning.specs.Laid.{below, plain, trees, trees_all, edge_trees}
use Rattle.pruning.specs.SpellsLaid.{LaidRoot, as_it_is, laid, plain_root, IsLaidRoot}
use Rattle.pruning.specs.Spots.{Where, at_root, stepped, past, in_edge, in_ref, spot, first_name, other_names}
use Rattle.pruning.specs.Spots.{spots_of}
use Rattle.pruning.specs.Blanked.{KeyPart, hidden_of, Blanked}
use Rattle.pruning.specs.Cut.{cell_with}
use Rattle.pruning.specs.Thinned.{Thins, same as thins_same, record_thins, list_thins, ref_thins, map_thins}
use Rattle.pruning.specs.Thinned.{raw_thins, rest_thins, AllThin, no_more, one_more, PairsThin, no_pair, one_pair}
use Rattle.pruning.specs.Thinned.{below_child, subtree, is_pruned_kind, is_pruned, pruned_in, ReadsThinned}
use Rattle.pruning_laws.specs.BlankedLaws.{RootApart, blanks}
use Rattle.pruning_laws.specs.ChoiceLaws.{all_same, clean-seen}
use Rattle.pruning_laws.specs.CleanLaws.{IsClean, AllClean, clean-left, clean-right, clean-below}
use Rattle.pruning_laws.specs.Cuts.{Parts, below_parts, leaf_part, fork_part, hidden_part, map_with, blank}
use Rattle.pruning_laws.specs.Cuts.{blank_fields, blank_items, blank_edge, ForRest, ForRaw, CutsCell, Cuts, CutsAll}
use Rattle.pruning_laws.specs.Cuts.{CutsEdge}
use Rattle.pruning_laws.specs.FilledLaws.{IsFilled, AreFilled, IsFilledEdge, cell_filled, takes}
use Rattle.pruning_laws.specs.KnownLaws.{left_part, right_part}
use Rattle.pruning_laws.specs.ReadsLaws.{Trusts, all-length}
use Rattle.pruning_laws.specs.RootLaws.{IsSmall, raw_holds, cut_shows}

abbrev pub for_rest : ForRest
for_rest ts ps = AllPrune ts ps 0

abbrev pub for_raw : ForRaw
for_raw c p = Prunes c p 0 × (unseen Partial p ≡ None)

trusts_pruned : Trusts for_rest for_raw
trusts_pruned = record { rests = λ ts ps clean k. k; raws = λ c p clean k. k }

-- ---- kinds

kind-is : (k : Kind) (b : List ℕ) (cs : List Tree) → (out-Tree (tree_of k b cs)).kind ≡ k
kind-is k b cs = λ i. (out-tree_of k b cs i).kind

children-is : (k : Kind) (b : List ℕ) (cs : List Tree) → (out-Tree (tree_of k b cs)).children ≡ cs
children-is k b cs = λ i. (out-tree_of k b cs i).children

bits-is : (k : Kind) (b : List ℕ) (cs : List Tree) → (out-Tree (tree_of k b cs)).bits ≡ b
bits-is k b cs = λ i. (out-tree_of k b cs i).bits

stub-pruned : (c : Tree) → is_pruned (Some (stub c 0)) ≡ true
stub-pruned c = ap is_pruned_kind (kind-is Pruned _ [])

cell-not_pruned : (c : Tree) (qs : List Tree) → is_pruned (Some (cell_with c qs)) ≡ false
cell-not_pruned c qs = ap is_pruned_kind (kind-is Ordinary (out-Tree c).bits qs)

mask-pruned : (c : Tree) → (out-Tree c).kind ≡ Pruned → mask c ≡ stored_mask (out-Tree c).bits
mask-pruned c k =
    ap (λ (m : Marks). m.mask) (marks-out c)
    ∙ ap (λ (x : Kind). mask_of x (out-Tree c).bits (map marks (out-Tree c).children)) k

clean-kind : (c : Tree) → IsClean c → is_pruned_kind (out-Tree c).kind ≡ false
clean-kind c h = go (out-Tree c).kind refl
  where
    go : (k : Kind) → (out-Tree c).kind ≡ k → is_pruned_kind k ≡ false
    go Ordinary e = refl
    go Library e = refl
    go Proof e = refl
    go Update e = refl
    go Pruned e =
        let P : Kind → Type 0 = λ k. IsTrue (has_layout k (out-Tree c).bits (length (out-Tree c).children)) in
        let l = pruned_layout (out-Tree c).bits (length (out-Tree c).children)
        (subst P e (good-sound c h.good).layout) in
        let m = mask-pruned c e in
        let z = h.level in
        let one = l.some in
        absurd (omega (arith, m, z, one))

-- ---- what prunes a cell

-- the stub, or the cell with other references
cell_how : (c p : Tree) (ts : List Tree) → c ≡ cell_with c ts → Prunes c p 0
    → (p ≡ stub c 0) ⊎ ((qs : List Tree) × (p ≡ cell_with c qs) × AllPrune ts qs 0)
cell_how c p ts e (same _ _) = inr (ts, e, all_same ts)
cell_how c p ts e (hidden _ _ _) = inl refl
cell_how c p ts e (ordinary bits us ps _ all) =
    let children : us ≡ ts =
    sym (children-is Ordinary bits us) ∙ ap (λ (t : Tree). (out-Tree t).children) e ∙ children-is Ordinary
    (out-Tree c).bits ts in
    let P : List Tree → Type 0 = λ us. AllPrune us ps 0 in
    inr (ps, (λ i. tree_of Ordinary ((sym (bits-is Ordinary bits us)) i) ps), subst P children all)
cell_how c p ts e (proof bits t q _ low one) =
    let kinds : Proof ≡ Ordinary =
    sym (kind-is Proof bits (t ∷ [])) ∙ ap (λ (t : Tree). (out-Tree t).kind) e ∙ kind-is Ordinary (out-Tree c).bits
    ts in
    absurd (cc)

seen_by : (k : Kind) (b : List ℕ) (cs : List Tree) → hidden_by k b (mask (tree_of k b cs)) ≡ None
    → unseen Partial (tree_of k b cs) ≡ None
seen_by k b cs e =
    (λ i. hidden_by (out-tree_of k b cs i).kind (out-tree_of k b cs i).bits (mask (tree_of k b cs))) ∙ e

-- the stub, or a cell that hides nothing
raw_how : (c p : Tree) → IsClean c → Prunes c p 0
    → (p ≡ stub c 0) ⊎ ((unseen Partial p ≡ None) × (is_pruned (Some p) ≡ false))
raw_how c p h (same _ _) = inr (clean-seen c h, clean-kind c h)
raw_how c p h (hidden _ _ _) = inl refl
raw_how c p h (ordinary bits us ps _ all) =
    inr (seen_by Ordinary bits ps refl, ap is_pruned_kind (kind-is Ordinary bits ps))
raw_how c p h (proof bits t q _ low one) =
    inr (seen_by Proof bits (q ∷ []) refl, ap is_pruned_kind (kind-is Proof bits (q ∷ [])))

clean-cell : (c : Tree) (ts : List Tree) → c ≡ cell_with c ts → IsClean c → AllClean ts
clean-cell c ts e h = let P : Tree → Type 0 = IsClean in clean-below (out-Tree c).bits ts (subst P e h)

-- ---- lists of trees

one_tree : (c : Tree) (ps : List Tree) → AllPrune (c ∷ []) ps 0 → (p : Tree) × (ps ≡ p ∷ []) × Prunes c p 0
one_tree c ps (more _ p _ _ _ a (none _)) = (p, refl, a)

two_trees : (z o : Tree) (ps : List Tree) → AllPrune (z ∷ (o ∷ [])) ps 0
    → (y : Tree) × (u : Tree) × (ps ≡ y ∷ (u ∷ [])) × Prunes z y 0 × Prunes o u 0
two_trees z o ps (more _ y _ _ _ a (more _ u _ _ _ b (none _))) = (y, u, refl, a, b)

no_tree : (ps : List Tree) → AllPrune [] ps 0 → ps ≡ []
no_tree ps (none _) = refl

parted : (ts us ps : List Tree) → AllPrune (ts ++ us) ps 0
    → (qs : List Tree) × (rs : List Tree) × (ps ≡ qs ++ rs) × AllPrune ts qs 0 × AllPrune us rs 0
parted [] us ps a = ([], ps, refl, none 0, a)
parted (t ∷ ts) us ps (more _ p _ ps2 _ one all) =
    let x = parted ts us ps2 all in
    (p ∷ x.0, x.1, ap (λ (l : List Tree). p ∷ l) x.2, more t p ts x.0 0 one x.3, x.4)

-- ---- positions

-- these are the references of the cell of a place, from the next one on, and then others
pub record Placed (root : Tree) (w : Where) (ps : List Tree) : Type 0 where
  pub cell : Tree
  pub there : subtree root w.cell ≡ Some cell
  pub before : List Tree
  pub after : List Tree
  pub children : (out-Tree cell).children ≡ before ++ (ps ++ after)
  pub next : length before ≡ w.next

child_at : Tree → ℕ → Option Tree
child_at t i = below_child (slice_get (out-Tree t).children i) (λ c. Some c)

below-both : (o : Option Tree) (f : Tree → Option Tree) (g : Tree → Option Tree) (h : Tree → Option Tree)
    → ((c : Tree) → h c ≡ below_child (f c) g) → below_child o h ≡ below_child (below_child o f) g
below-both None f g h e = refl
below-both (Some c) f g h e = e c

subtree-last : (root : Tree) (position : List ℕ) (i : ℕ)
    → subtree root (position ++ i ∷ []) ≡ below_child (subtree root position) (λ t. child_at t i)
unfolding child_at
subtree-last root [] i = refl
subtree-last root (j ∷ position) i =
    below-both (slice_get (out-Tree root).children j) (λ c. subtree c position) (λ t. child_at t i)
    (λ c. subtree c (position ++ i ∷ [])) (λ c. subtree-last c position i)

get-after : (before : List Tree) (p : Tree) (others : List Tree)
    → slice_get (before ++ p ∷ others) (length before) ≡ Some p
get-after [] p others = refl
get-after (b ∷ before) p others = get-after before p others

-- the next reference
placed-first : (root : Tree) (w : Where) (p : Tree) (ps : List Tree) → Placed root w (p ∷ ps)
    → subtree root (w.cell ++ w.next ∷ []) ≡ Some p
unfolding child_at
placed-first root w p ps x =
    subtree-last root w.cell w.next ∙ ap (λ (o : Option Tree). below_child o (λ t. child_at t w.next)) x.there
    ∙ ap (λ (o : Option Tree). below_child o (λ c. Some c))
    ((λ i. slice_get (x.children i) ((sym x.next) i)) ∙ get-after x.before p (ps ++ x.after))

placed-same : (root : Tree) (w : Where) (ps qs : List Tree) → ps ≡ qs → Placed root w ps → Placed root w qs
placed-same root w ps qs e x = let P : List Tree → Type 0 = Placed root w in subst P e x

placed-left : (root : Tree) (w : Where) (s : Stride) (qs rs : List Tree) → Placed root w (qs ++ rs)
    → Placed root (stepped w s) qs
placed-left root w s qs rs x = record {
  cell = x.cell;
  there = x.there;
  before = x.before;
  after = rs ++ x.after;
  children = x.children ∙ ap (λ (l : List Tree). x.before ++ l) (append_assoc qs rs x.after);
  next = x.next;
}

placed-right : (root : Tree) (w : Where) (n : ℕ) (qs rs : List Tree) → length qs ≡ n → Placed root w (qs ++ rs)
    → Placed root (past w n) rs
placed-right root w n qs rs e x =
    let l = length-append x.before qs in
    let k = x.next in
    record {
      cell = x.cell;
      there = x.there;
      before = x.before ++ qs;
      after = x.after;
      children = x.children ∙ ap (λ (l : List Tree). x.before ++ l) (append_assoc qs rs x.after)
          ∙ sym (append_assoc x.before qs (rs ++ x.after));
      next = omega (arith, l, k, e);
    }

placed-step : (root : Tree) (w : Where) (s : Stride) (ps : List Tree) → Placed root w ps → Placed root (stepped w s) ps
placed-step root w s ps x = record {
  cell = x.cell;
  there = x.there;
  before = x.before;
  after = x.after;
  children = x.children;
  next = x.next;
}

-- in the cell of the next reference
placed-in : (root : Tree) (w : Where) (c : Tree) (qs : List Tree) → subtree root w.cell ≡ Some (cell_with c qs)
    → w.next ≡ 0 → Placed root w qs
placed-in root w c qs e z = record {
  cell = cell_with c qs;
  there = e;
  before = [];
  after = [];
  children = children-is Ordinary (out-Tree c).bits qs ∙ sym (append-nil qs);
  next = sym z;
}

-- ---- values that are thinned

thin-below : (p : List ℕ) (ps qs : PlainPairs) → PairsThin ps qs → PairsThin (below p ps) (below p qs)
thin-below p ps qs no_pair = no_pair
thin-below p ps qs (one_pair k v w ps2 qs2 a b) = one_pair (p ++ k) v w (below p ps2) (below p qs2) a
    (thin-below p ps2 qs2 b)

thin-join : (ps qs xs ys : PlainPairs) → PairsThin ps qs → PairsThin xs ys → PairsThin (join ps xs) (join qs ys)
thin-join ps qs xs ys no_pair b = b
thin-join ps qs xs ys (one_pair k v w ps2 qs2 a c) b = one_pair k v w (join ps2 xs) (join qs2 ys) a
    (thin-join ps2 qs2 xs ys c b)

pub record PartsThin (X x : Parts) : Type 0 where
  pub pairs : PairsThin X.pairs x.pairs
  pub unknown : X.unknown ≡ x.unknown

thin-map : (X x : Parts) → PartsThin X x → Thins (map_with X) (map_with x)
thin-map X x h =
    let P : List KeyPart → Type 0 = λ us. Thins (map_with X) (values.map_of tt x.pairs us) in
    subst P h.unknown (map_thins X.pairs x.pairs X.unknown h.pairs)

thin-fork : (l : List ℕ) (X x Y y : Parts) → PartsThin X x → PartsThin Y y → PartsThin (fork_part l X Y)
    (fork_part l x y)
thin-fork l X x Y y h k = record {
  pairs = thin-join (below (l ++ 0 ∷ []) X.pairs) (below (l ++ 0 ∷ []) x.pairs) (below (l ++ 1 ∷ []) Y.pairs)
      (below (l ++ 1 ∷ []) y.pairs)
      (thin-below (l ++ 0 ∷ []) X.pairs x.pairs h.pairs) (thin-below (l ++ 1 ∷ []) Y.pairs y.pairs k.pairs);
  unknown = λ i. below_parts (l ++ 0 ∷ []) (h.unknown i) ++ below_parts (l ++ 1 ∷ []) (k.unknown i);
}

-- ---- the value of a pruned tree

pub record Thin (root : Tree) (w : Where) (d : Laid) (ps : List Tree) : Type 0 where
  pub value : Plain
  pub cuts : Cuts for_rest for_raw d ps value
  pub thins : Thins (blank (pruned_in root) w d) value

pub record ThinCell (root : Tree) (w : Where) (q : List ℕ) (c : Tree) (e : LaidEdge) (X : Parts) (p : Tree) : Type 0
  where
    pub parts : Parts
    pub cuts : CutsCell (CutsEdge for_rest for_raw e) c p parts
    pub thins : PartsThin (cond (pruned_in root (spot w (Some q) c)) (hidden_part c) X) parts

pub record ThinEdge (root : Tree) (w : Where) (q : List ℕ) (e : LaidEdge) (ps : List Tree) : Type 0 where
  pub parts : Parts
  pub cuts : CutsEdge for_rest for_raw e ps parts
  pub thins : PartsThin (blank_edge (pruned_in root) w q e) parts

pub record ThinAll (ds : Laids) (us : Plains) (ps : List Tree) : Type 0 where
  pub vals : Plains
  pub cuts : CutsAll for_rest for_raw ds ps vals
  pub thins : AllThin us vals

pairs-same : (ps : PlainPairs) → PairsThin ps ps
pairs-same no_pairs = no_pair
pairs-same (a_pair k v ps) = one_pair k v v ps ps (thins_same v) (pairs-same ps)

ref_thin : (root : Tree) (w : Where) (c : Tree) (d : Laid) (ps : List Tree) → c ≡ cell_with c (trees d)
    → AllPrune (c ∷ []) ps 0 → Placed root w ps
    → ((qs : List Tree) → AllPrune (trees d) qs 0 → Placed root (in_ref w) qs → Thin root (in_ref w) d qs)
    → Thin root w (ref_to c d) ps
ref_thin root w c d ps filled_in a x inner =
    let one = one_tree c ps a in
    let at = placed-first root w one.0 [] (placed-same root w ps (one.0 ∷ []) one.1 x) in
    go one.0 one.1 at (cell_how c one.0 (trees d) filled_in one.2)
  where
    go : (p : Tree) → ps ≡ p ∷ [] → subtree root (w.cell ++ w.next ∷ []) ≡ Some p
        → (p ≡ stub c 0) ⊎ ((qs : List Tree) × (p ≡ cell_with c qs) × AllPrune (trees d) qs 0)
        → Thin root w (ref_to c d) ps
    go p e at (inl h) =
        let hide : pruned_in root (spot w None c) ≡ true = ap is_pruned (at ∙ ap Some h) ∙ stub-pruned c in
        let P : Bool → Type 0 = λ b.
        Thins (cond b (values.unknown (hidden_of c)) (values.ref_to tt (blank (pruned_in root) (in_ref w) d)))
        (values.unknown (hidden_of c)) in
        record {
          value = values.unknown (hidden_of c);
          cuts = inl (e ∙ ap (λ (t : Tree). t ∷ []) h, refl);
          thins = subst P (sym hide) (thins_same (values.unknown (hidden_of c)));
        }
    go p e at (inr h) =
        let show : pruned_in root (spot w None c) ≡ false = ap is_pruned (at ∙ ap Some h.1) ∙ cell-not_pruned c h.0 in
        let y = inner h.0 h.2 (placed-in root (in_ref w) c h.0 (at ∙ ap Some h.1) refl) in
        let P : Bool → Type 0 = λ b.
        Thins (cond b (values.unknown (hidden_of c)) (values.ref_to tt (blank (pruned_in root) (in_ref w) d)))
        (values.ref_to tt y.value) in
        record {
          value = values.ref_to tt y.value;
          cuts = inr (h.0, y.value, e ∙ ap (λ (t : Tree). t ∷ []) h.1, refl, y.cuts);
          thins = subst P (sym show) (ref_thins (blank (pruned_in root) (in_ref w) d) y.value y.thins);
        }

raw_thin : (root : Tree) (w : Where) (c : Tree) (ps : List Tree) → IsClean c → AllPrune (c ∷ []) ps 0 → Placed root w ps
    → Thin root w (ref_to_raw c) ps
raw_thin root w c ps clean a x =
    let one = one_tree c ps a in
    let at = placed-first root w one.0 [] (placed-same root w ps (one.0 ∷ []) one.1 x) in
    go one.0 one.1 at one.2 (raw_how c one.0 clean one.2)
  where
    go : (p : Tree) → ps ≡ p ∷ [] → subtree root (w.cell ++ w.next ∷ []) ≡ Some p → Prunes c p 0
        → (p ≡ stub c 0) ⊎ ((unseen Partial p ≡ None) × (is_pruned (Some p) ≡ false))
        → Thin root w (ref_to_raw c) ps
    go p e at prunes (inl h) =
        let hide : pruned_in root (spot w None c) ≡ true = ap is_pruned (at ∙ ap Some h) ∙ stub-pruned c in
        let P : Bool → Type 0 = λ b.
        Thins (cond b (values.unknown (hidden_of c)) (values.ref_to tt (values.raw c)))
        (values.unknown (hidden_of c)) in
        record {
          value = values.unknown (hidden_of c);
          cuts = inl (e ∙ ap (λ (t : Tree). t ∷ []) h, refl);
          thins = subst P (sym hide) (thins_same (values.unknown (hidden_of c)));
        }
    go p e at prunes (inr h) =
        let show : pruned_in root (spot w None c) ≡ false = ap is_pruned at ∙ h.1 in
        let P : Bool → Type 0 = λ b.
        Thins (cond b (values.unknown (hidden_of c)) (values.ref_to tt (values.raw c)))
        (values.ref_to tt (values.raw p)) in
        record {
          value = values.ref_to tt (values.raw p);
          cuts = inr (p, e, refl, (prunes, h.0));
          thins = subst P (sym show) (ref_thins (values.raw c) (values.raw p) (raw_thins c p prunes));
        }

cell_thin : (root : Tree) (w : Where) (q : List ℕ) (c : Tree) (e : LaidEdge) (p : Tree) → c ≡ cell_with c (edge_trees e)
    → Prunes c p 0 → subtree root (w.cell ++ w.next ∷ []) ≡ Some p
    → ((qs : List Tree) → AllPrune (edge_trees e) qs 0 → Placed root (in_edge w) qs → ThinEdge root (in_edge w) q e qs)
    → ThinCell root w q c e (blank_edge (pruned_in root) (in_edge w) q e) p
cell_thin root w q c e p filled_in prunes at inner = go (cell_how c p (edge_trees e) filled_in prunes)
  where
    go : (p ≡ stub c 0) ⊎ ((qs : List Tree) × (p ≡ cell_with c qs) × AllPrune (edge_trees e) qs 0)
        → ThinCell root w q c e (blank_edge (pruned_in root) (in_edge w) q e) p
    go (inl h) =
        let hide : pruned_in root (spot w (Some q) c) ≡ true = ap is_pruned (at ∙ ap Some h) ∙ stub-pruned c in
        let P : Bool → Type 0 = λ b.
        PartsThin (cond b (hidden_part c) (blank_edge (pruned_in root) (in_edge w) q e)) (hidden_part c) in
        record {
          parts = hidden_part c;
          cuts = inl (h, refl);
          thins = subst P (sym hide) (record { pairs = no_pair; unknown = refl });
        }
    go (inr h) =
        let show : pruned_in root (spot w (Some q) c) ≡ false = ap is_pruned (at ∙ ap Some h.1) ∙ cell-not_pruned c
        h.0 in
        let y = inner h.0 h.2 (placed-in root (in_edge w) c h.0 (at ∙ ap Some h.1) refl) in
        let P : Bool → Type 0 = λ b.
        PartsThin (cond b (hidden_part c) (blank_edge (pruned_in root) (in_edge w) q e)) y.parts in
        record { parts = y.parts; cuts = inr (h.0, h.1, y.cuts); thins = subst P (sym show) y.thins }

fork_thin : (root : Tree) (w : Where) (q l : List ℕ) (z : Tree) (a : LaidEdge) (o : Tree) (b : LaidEdge) (y u : Tree)
    (ps : List Tree) → ps ≡ y ∷ (u ∷ [])
    → ThinCell root w (q ++ (l ++ 0 ∷ [])) z a (blank_edge (pruned_in root) (in_edge w) (q ++ (l ++ 0 ∷ [])) a) y
    → ThinCell root (past w 1) (q ++ (l ++ 1 ∷ [])) o b (blank_edge (pruned_in root) (in_edge (past w 1))
    (q ++ (l ++ 1 ∷ [])) b) u
    → ThinEdge root w q (a_fork l z a o b) ps
fork_thin root w q l z a o b y u ps e x t = record {
  parts = fork_part l x.parts t.parts;
  cuts = (y, u, x.parts, t.parts, e, refl, x.cuts, t.cuts);
  thins = thin-fork l (left_part (pruned_in root) w q l z a) x.parts (right_part (pruned_in root) w q l o b) t.parts
      x.thins t.thins;
}

under_thin : (root : Tree) (w : Where) (c : Tree) (e : LaidEdge) (p : Tree) (ps : List Tree) → ps ≡ p ∷ []
    → ThinCell root w [] c e (blank_edge (pruned_in root) (in_edge w) [] e) p → Thin root w (map_under c e) ps
under_thin root w c e p ps are x = record {
  value = map_with x.parts;
  cuts = (p, x.parts, are, refl, x.cuts);
  thins = thin-map (cond (pruned_in root (spot w (Some []) c)) (hidden_part c)
      (blank_edge (pruned_in root) (in_edge w) [] e)) x.parts x.thins;
}

-- a value without references
bare : (root : Tree) (w : Where) (d : Laid) (ps : List Tree) (v : Plain) → AllPrune [] ps 0
    → ((ps ≡ []) → Cuts for_rest for_raw d ps v) → blank (pruned_in root) w d ≡ v → Thin root w d ps
bare root w d ps v a cuts e =
    let P : Plain → Type 0 = λ x. Thins x v in
    record { value = v; cuts = cuts (no_tree ps a); thins = subst P (sym e) (thins_same v) }

no_more_thin : (ps : List Tree) → AllPrune [] ps 0 → ThinAll no_laids no_vals ps
no_more_thin ps a = record { vals = no_vals; cuts = (no_tree ps a, refl); thins = no_more }

one_more_thin : (root : Tree) (w : Where) (d : Laid) (ds : Laids) (us : Plains) (ps qs rs : List Tree) → ps ≡ qs ++ rs
    → Thin root w d qs → ThinAll ds us rs → ThinAll (a_laid d ds) (a_val (blank (pruned_in root) w d) us) ps
one_more_thin root w d ds us ps qs rs e x y = record {
  vals = a_val x.value y.vals;
  cuts = (qs, rs, x.value, y.vals, e, refl, x.cuts, y.cuts);
  thins = one_more (blank (pruned_in root) w d) x.value us y.vals x.thins y.thins;
}

mutual
  pub thin : (root : Tree) (w : Where) (d : Laid) → IsFilled d → AllClean (trees d) → (ps : List Tree)
      → AllPrune (trees d) ps 0 → Placed root w ps → Thin root w d ps
  thin root w (number negative size) filled_in clean ps a x =
      bare root w (number negative size) ps (values.number negative size) a (λ e. (e, refl)) refl
  thin root w (bit_string bits) filled_in clean ps a x =
      bare root w (bit_string bits) ps (values.bit_string bits) a (λ e. (e, refl)) refl
  thin root w (record_of name names ds) filled_in clean ps a x =
      let y = thin_fields root w names ds filled_in clean ps a x in
      record {
        value = values.record_of name names y.vals;
        cuts = (y.vals, refl, y.cuts);
        thins = record_thins name names (blank_fields (pruned_in root) w names ds) y.vals y.thins;
      }
  thin root w absent filled_in clean ps a x = bare root w absent ps values.absent a (λ e. (e, refl)) refl
  thin root w (list_of ds) filled_in clean ps a x =
      let y = thin_items root w 0 ds filled_in clean ps a x in
      record {
        value = values.list_of y.vals;
        cuts = (y.vals, refl, y.cuts);
        thins = list_thins (blank_items (pruned_in root) w 0 ds) y.vals y.thins;
      }
  thin root w (ref_to c d) filled_in clean ps a x =
      ref_thin root w c d ps filled_in.0 a x
      (λ qs b y. thin root (in_ref w) d filled_in.1 (clean-cell c (trees d) filled_in.0 clean.0) qs b y)
  thin root w (ref_to_raw c) filled_in clean ps a x = raw_thin root w c ps clean.0 a x
  thin root w no_map filled_in clean ps a x =
      bare root w no_map ps (values.map_of tt no_pairs []) a (λ e. (e, refl)) refl
  thin root w (map_under c e) filled_in clean ps a x =
      let one = one_tree c ps a in
      let at = placed-first root w one.0 [] (placed-same root w ps (one.0 ∷ []) one.1 x) in
      under_thin root w c e one.0 ps one.1
      (cell_thin root w [] c e one.0 filled_in.0 one.2 at
      (λ qs b y. thin_edge root (in_edge w) [] e filled_in.1 (clean-cell c (edge_trees e) filled_in.0 clean.0) qs b y))
  thin root w (map_here e) filled_in clean ps a x =
      let y = thin_edge root w [] e filled_in clean ps a x in
      record {
        value = map_with y.parts;
        cuts = (y.parts, refl, y.cuts);
        thins = thin-map (blank_edge (pruned_in root) w [] e) y.parts y.thins;
      }
  thin root w (rest s) filled_in clean ps a x = record {
    value = values.rest (record { bits = s.bits; refs = ps });
    cuts = (a, refl);
    thins = rest_thins s.bits s.refs ps a;
  }

  thin_fields : (root : Tree) (w : Where) (names : List (List ℕ)) (ds : Laids) → AreFilled ds → AllClean (trees_all ds)
      → (ps : List Tree) → AllPrune (trees_all ds) ps 0 → Placed root w ps
      → ThinAll ds (blank_fields (pruned_in root) w names ds) ps
  thin_fields root w names no_laids filled_in clean ps a x = no_more_thin ps a
  thin_fields root w names (a_laid d ds) filled_in clean ps a x =
      let p = parted (trees d) (trees_all ds) ps a in
      let y = placed-same root w ps (p.0 ++ p.1) p.2 x in
      one_more_thin root (stepped w (named (first_name names))) d ds
      (blank_fields (pruned_in root) (past w (length (trees d))) (other_names names) ds) ps p.0 p.1 p.2
      (thin root (stepped w (named (first_name names))) d filled_in.0 (clean-left (trees d) (trees_all ds) clean) p.0 p.3
      (placed-left root w (named (first_name names)) p.0 p.1 y))
      (thin_fields root (past w (length (trees d))) (other_names names) ds filled_in.1
      (clean-right (trees d) (trees_all ds) clean) p.1 p.4
      (placed-right root w (length (trees d)) p.0 p.1 (all-length (trees d) p.0 p.3) y))

  thin_items : (root : Tree) (w : Where) (n : ℕ) (ds : Laids) → AreFilled ds → AllClean (trees_all ds) → (ps : List Tree)
      → AllPrune (trees_all ds) ps 0 → Placed root w ps → ThinAll ds (blank_items (pruned_in root) w n ds) ps
  thin_items root w n no_laids filled_in clean ps a x = no_more_thin ps a
  thin_items root w n (a_laid d ds) filled_in clean ps a x =
      let p = parted (trees d) (trees_all ds) ps a in
      let y = placed-same root w ps (p.0 ++ p.1) p.2 x in
      one_more_thin root (stepped w (item n)) d ds (blank_items (pruned_in root) (past w (length (trees d))) (suc n) ds)
      ps p.0 p.1 p.2
      (thin root (stepped w (item n)) d filled_in.0 (clean-left (trees d) (trees_all ds) clean) p.0 p.3
      (placed-left root w (item n) p.0 p.1 y))
      (thin_items root (past w (length (trees d))) (suc n) ds filled_in.1 (clean-right (trees d) (trees_all ds) clean) p.1
      p.4
      (placed-right root w (length (trees d)) p.0 p.1 (all-length (trees d) p.0 p.3) y))

  thin_edge : (root : Tree) (w : Where) (q : List ℕ) (e : LaidEdge) → IsFilledEdge e → AllClean (edge_trees e)
      → (ps : List Tree) → AllPrune (edge_trees e) ps 0 → Placed root w ps → ThinEdge root w q e ps
  thin_edge root w q (a_leaf l d) filled_in clean ps a x =
      let y = thin root (stepped w (keyed (q ++ l))) d filled_in clean ps a (placed-step root w (keyed (q ++ l)) ps x) in
      record {
        parts = leaf_part l y.value;
        cuts = (y.value, refl, y.cuts);
        thins = record {
          pairs = one_pair l (blank (pruned_in root) (stepped w (keyed (q ++ l))) d) y.value no_pairs no_pairs
              y.thins no_pair;
          unknown = refl;
        };
      }
  thin_edge root w q (a_fork l z i o j) filled_in clean ps a x =
      let two = two_trees z o ps a in
      let y = placed-same root w ps (two.0 ∷ (two.1 ∷ [])) two.2 x in
      let at = placed-first root w two.0 (two.1 ∷ []) y in
      let next = placed-first root (past w 1) two.1 [] (placed-right root w 1 (two.0 ∷ []) (two.1 ∷ []) refl y) in
      fork_thin root w q l z i o j two.0 two.1 ps two.2
      (cell_thin root w (q ++ (l ++ 0 ∷ [])) z i two.0 filled_in.0 two.3 at
      (λ qs b t. thin_edge root (in_edge w) (q ++ (l ++ 0 ∷ [])) i filled_in.1
      (clean-cell z (edge_trees i) filled_in.0 clean.0) qs b t))
      (cell_thin root (past w 1) (q ++ (l ++ 1 ∷ [])) o j two.1 filled_in.2 two.4 next
      (λ qs b t. thin_edge root (in_edge (past w 1)) (q ++ (l ++ 1 ∷ [])) j filled_in.3
      (clean-cell o (edge_trees j) filled_in.2 clean.1.0) qs b t))

-- ---- the root

pub root_thins : (schema : CoreSchema) (t : Closed) (c p : Tree) (r : LaidRoot) → IsClean c → IsLaidRoot schema t c r
    → IsSmall (plain_root r) → RootApart r → Prunes c p 0
    → (p ≡ stub c 0) ⊎ ReadsThinned schema t p (Blanked (plain_root r) (filter (pruned_in p) (spots_of r)))
root_thins schema t c p (as_it_is x) clean lies small apart prunes = go (raw_how c p clean prunes)
  where
    go : (p ≡ stub c 0) ⊎ ((unseen Partial p ≡ None) × (is_pruned (Some p) ≡ false))
        → (p ≡ stub c 0) ⊎ ReadsThinned schema t p (values.raw x)
    go (inl h) = inl h
    go (inr h) =
        let P : Tree → Type 0 = λ x. Thins (values.raw x) (values.raw p) in
        inr (record {
          value = values.raw p;
          reads = record {
            root = inl (raw_holds schema (under_ref t) p lies.0 h.0);
            deep = omega arith;
            large = omega arith;
          };
          thins = subst P (sym lies.1) (raw_thins c p prunes);
        })
root_thins schema t c p (laid d) clean lies small apart prunes =
    let filled_in = cell_filled schema d (takes schema d) (under_ref t) c lies in
    go filled_in.0 filled_in.1 (cell_how c p (trees d) filled_in.0 prunes)
  where
    go : c ≡ cell_with c (trees d) → IsFilled d
        → (p ≡ stub c 0) ⊎ ((qs : List Tree) × (p ≡ cell_with c qs) × AllPrune (trees d) qs 0)
        → (p ≡ stub c 0) ⊎ ReadsThinned schema t p (Blanked (plain d) (filter (pruned_in p) (spots_of (laid d))))
    go e filled_in (inl h) = inl h
    go e filled_in (inr h) =
        let y = thin p at_root d filled_in (clean-cell c (trees d) e clean) h.0 h.2
        (placed-in p at_root c h.0 (ap Some h.1) refl) in
        let x = cut_shows schema for_rest for_raw trusts_pruned t c d clean lies small h.0 y.value y.cuts in
        let P : Tree → Type 0 = λ p. Reading Partial schema t p y.value in
        let Q : Plain → Type 0 = λ v. Thins v y.value in
        inr (record {
          value = y.value;
          reads = subst P (sym h.1) x.reads;
          thins = subst Q (sym (blanks (pruned_in p) (laid d) apart)) y.thins;
        })
