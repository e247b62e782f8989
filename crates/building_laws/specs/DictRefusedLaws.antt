-- Where building a map stops, it doesn't fit so.
use Rattle.std.proofs.Common.{◌≡◌, ◌<◌, ◌≤◌, ◌⊎◌, inl, inr, ℕ, ◌+◌, Bool, true, false, ◌||◌, cond, nat_lt, List, [], ◌∷◌, length, Result, Ok, Err, refl, sym, ap, ◌∙◌, subst, arith}
use Rattle.std.proofs.lemmas.Bool.{ltb-true, ltb-false}
use Rattle.cell_nodes.specs.Constructed.{pruned_of}
use Rattle.cell_nodes.specs.Tree.{deepest}
use Rattle.cell_nodes.specs.declared.tree.Mode.{Mode}
use Rattle.cell_nodes.specs.declared.tree.Mode.TheVariants.{Partial}
use Rattle.hashmap_tree.specs.Entries.{Slice, cell_of, leaf, hidden, Entries, pairs_in, hidden_in}
use Rattle.hashmap_tree.specs.Exceeds.{Excess, first_key, Exceeds}
use Rattle.hashmap_tree.specs.Exceeds as excess
use Rattle.hashmap_tree.specs.MergedLaws.{merged-parts}
use Rattle.hashmap_tree.specs.Order.{AreInOrder}
use Rattle.hashmap_tree.specs.Placed.{AllPlaced}
use Rattle.hashmap_tree.specs.Plants.{IsHiddenAlone}
use Rattle.typed_value.specs.Values.{PlainPairs, no_pairs, a_pair, parts}
use Rattle.core_form.specs.Closed.{Closed}
use Rattle.core_form.specs.Closed as closed
use Rattle.spelling.specs.Goals.{at_type, Shape, typed}
use Rattle.spelling.specs.Places.{Spot, Place, stuck}
use Rattle.spelling.specs.PlainReader.{◌>>=◌}
use Rattle.spelling.specs.declared.Cause.TheVariants as why
use Rattle.spelling_laws.specs.StepLaws.{bind_ok, bind_err, test_err, guard_err}
use Rattle.building.specs.Buildable.{AreHashes}
use Rattle.building.specs.Growing.{Grown, empty, is_deep}
use Rattle.building.specs.MapTests.{outline, FitEdge, FitRoot, fits_edge, fits_root}
use Rattle.building.specs.Planting.{Top, leaf_top, fork_top, content_of, has_deep, edge_of, tops, planting}
use Rattle.building.specs.PlainBuilder.{Made, Maker, put_alone, Leaves, make_leaves, contents_of, entries_of, is_last, cause_of, planted, put_edge, plant_here, make_dict, put_root, plant_root, make_dict_e, map_at}
use Rattle.building.specs.Unfit.{Misfits, Lays, UnfitLeaves, LaidLeaves}
use Rattle.building.specs.Unfit as unfit
use Rattle.building_laws.specs.DictLaws.{Unknowns, PairsHeld}
use Rattle.building_laws.specs.DictSoundLaws.{planted_ok}
use Rattle.building_laws.specs.DictStandsLaws.{outline_edge, outline_root}
use Rattle.building_laws.specs.DictStandsLaws as tests
use Rattle.building_laws.specs.MapRefusedLaws.{below_of, top_exceeds, edge_exceeds, tops_fault, test_excess, never_excess, fault}
use Rattle.building_laws.specs.MapStandsLaws as maps
use Rattle.building_laws.specs.PlantSoundLaws.{AllStand, TopSound, WasEdge, was_edge, bind_is, top_tree, tops_sound}
use Rattle.building_laws.specs.PlantSoundLaws as sounds
use Rattle.building_laws.specs.GoesLaws.{empty_held}
use Rattle.building_laws.specs.RefusedLaws.{Settles, never_err, place_is, alone_refused, bits_refused}

starts_leaf : Entries → Bool
starts_leaf [] = false
starts_leaf ((k, leaf c) ∷ es) = true
starts_leaf ((k, hidden x) ∷ es) = false

abbrev pub BySettle : Misfits → Lays → Maker → PlainPairs → Type 0
BySettle S P R no_pairs = Unit {0}
BySettle S P R (a_pair k v ps) = Settles S P R v × BySettle S P R ps

-- the values stop, or their contents are laid and can stand in cells
leaves_refused : (S : Misfits) (P : Lays) (R : Maker) (ps : PlainPairs) → BySettle S P R ps → (h : Spot) (t : Closed) (q : ℕ)
    (p : Place) → make_leaves R h t q ps ≡ Err p → UnfitLeaves S P h t q ps p
leaves_refused S P R no_pairs d h t q p e = absurd (never_leaves [] p e)
  where
    never_leaves : (xs : Leaves) (p : Place) → (◌≡◌ {A = Result Leaves Place} (Ok xs) (Err p)) → ⊥
    never_leaves xs p e = cc
leaves_refused S P R (a_pair k v ps) d h t q p e =
    go (bind_err (R h (at_type t) q v empty) _ p e) (leaves_refused S P R ps d.1 h t (q + parts v) p)
  where
    never_leaves : (xs : Leaves) (p : Place) → (◌≡◌ {A = Result Leaves Place} (Ok xs) (Err p)) → ⊥
    never_leaves xs p e = cc

    rest_of : (x : Made) → R h (at_type t) q v empty ≡ Ok x
        → (make_leaves R h t (q + parts v) ps ≡ Err p) ⊎ ((xs : Leaves) × (make_leaves R h t (q + parts v) ps ≡ Ok xs) × (Ok ((k, x.1) ∷ xs) ≡ Err p))
        → (make_leaves R h t (q + parts v) ps ≡ Err p → UnfitLeaves S P h t (q + parts v) ps p)
        → UnfitLeaves S P h t q (a_pair k v ps) p
    rest_of x m (inl l) ih = inr (x.0, x.1, d.0.1 h (at_type t) q empty x.0 x.1 tt empty_held m, ih l)
    rest_of x m (inr l) ih = absurd (never_leaves _ p l.2)

    go : (R h (at_type t) q v empty ≡ Err p) ⊎ ((x : Made) × (R h (at_type t) q v empty ≡ Ok x) × ((make_leaves R h t (q + parts v) ps >>= λ xs. Ok ((k, x.1) ∷ xs)) ≡ Err p))
        → (make_leaves R h t (q + parts v) ps ≡ Err p → UnfitLeaves S P h t (q + parts v) ps p)
        → UnfitLeaves S P h t q (a_pair k v ps) p
    go (inl m) ih = inl (d.0.0 h (at_type t) q empty p tt empty_held m)
    go (inr (x, m, l)) ih = rest_of x m (bind_err (make_leaves R h t (q + parts v) ps) _ p l) ih

record LeavesMade (P : Lays) (t : Closed) (q : ℕ) (ps : PlainPairs) (xs : Leaves) : Type 0 where
  pub laid : LaidLeaves P t q ps xs
  pub held : PairsHeld (contents_of xs)

leaves_one : (a b : Leaves) → (◌≡◌ {A = Result Leaves Place} (Ok a) (Ok b)) → a ≡ b
leaves_one a b e = cc

leaves_made : (S : Misfits) (P : Lays) (R : Maker) (ps : PlainPairs) → BySettle S P R ps → (h : Spot) (t : Closed) (q : ℕ)
    (xs : Leaves) → make_leaves R h t q ps ≡ Ok xs → LeavesMade P t q ps xs
leaves_made S P R no_pairs d h t q xs e =
    let Q : Leaves → Type 0 = λ z. LeavesMade P t q no_pairs z in
    subst Q (leaves_one [] xs e) (record { laid = refl; held = tt })
leaves_made S P R (a_pair k v ps) d h t q xs e =
    let m = bind_ok (R h (at_type t) q v empty) _ xs e in
    let n = bind_ok (make_leaves R h t (q + parts v) ps) _ xs m.2 in
    let more = leaves_made S P R ps d.1 h t (q + parts v) n.0 n.1 in
    let Q : Leaves → Type 0 = λ z. LeavesMade P t q (a_pair k v ps) z in
    subst Q (leaves_one ((k, m.0.1) ∷ n.0) xs n.2) (record {
      laid = (m.0.0, refl, d.0.1 h (at_type t) q empty m.0.0 m.0.1 tt empty_held m.1, more.laid);
      held = (d.0.2 h (at_type t) q empty m.0.0 m.0.1 empty_held m.1 empty_held, more.held);
    })

stand_in : (es : Entries) → PairsHeld (pairs_in es) → AreHashes (hidden_in es) → AllStand Partial es
stand_in [] h a = tt
stand_in ((k, leaf c) ∷ es) h a = (h.0, stand_in es h.1 a)
stand_in ((k, hidden x) ∷ es) h a = ((refl, a.0), stand_in es h a.1)

entries_stand : (xs : Leaves) (us : Unknowns) → PairsHeld (contents_of xs) → AreHashes us
    → AllStand Partial (entries_of xs us)
entries_stand xs us h a =
    let parts = merged-parts (contents_of xs) us in
    let P : List (List ℕ × Slice) → Type 0 = PairsHeld in
    let H : Unknowns → Type 0 = AreHashes in
    stand_in (entries_of xs us) (subst P (sym parts.0) h) (subst H (sym parts.1) a)

-- ---- the first edge in place

planted_err : {A : Type 0} (h : Spot) (r : Result A Excess) (p : Place) → planted h r ≡ Err p
    → (f : Excess) × (r ≡ Err f) × (p ≡ stuck h (cause_of f))
planted_err h (Ok x) p e = absurd (never_err x p e)
planted_err h (Err f) p e = (f, refl, place_is _ p e)

is_top : (n : ℕ) (es : Entries) (top : Top) → TopSound Partial n [] es top → unfit.IsTop n es top
is_top n es top (sounds.of_leaf k c same long bits is) = unfit.of_leaf k c same is
is_top n es top (sounds.of_fork p m zs os z o same long bits bz bo gz go_ is) =
    unfit.of_fork p m zs os z o same long (bz, gz) (bo, go_) is

deep_has : (top : Top) → has_deep top ≡ true → unfit.HasDeep top
deep_has (leaf_top l c) e = cc
deep_has (fork_top l z o) e = pick (is_deep z) refl e
  where
    pick : (a : Bool) → is_deep z ≡ a → (a || is_deep o) ≡ true → unfit.HasDeep (fork_top l z o)
    pick true f e = inl (ltb-true 1023 (deepest z) f)
    pick false f e = inr (ltb-true 1023 (deepest o) e)

deep_none : (top : Top) → has_deep top ≡ false → unfit.HasDeep top → ⊥
deep_none top e d = clash (has_deep top) (maps.deep_of top d) e
  where
    clash : (a : Bool) → a ≡ true → a ≡ false → ⊥
    clash true e f = cc
    clash false e f = cc

edge_refused : (h : Spot) (n : ℕ) (es : Entries) (last : Bool) (b : Grown) (p : Place) → AreInOrder n es → 0 < length es
    → AllPlaced es → AllStand Partial es → plant_here h n es last b ≡ Err p → unfit.UnfitEdge h n es b p
edge_refused h n es last b p o l a stand e = go (bind_err (planted h (tops n [] es)) _ p e)
  where
    crowded : (top : Top) → unfit.IsTop n es top → b.shut ≡ false → (s : Slice) → WasEdge n top s
        → unfit.UnfitPut h s ⊥ b p → unfit.UnfitEdge h n es b p
    crowded top t open_ s w (c, unfit.after_rest k ne f, g) = absurd (clash b.shut k open_)
      where
        clash : (a : Bool) → a ≡ true → a ≡ false → ⊥
        clash true e f = cc
        clash false e f = cc
    crowded top t open_ s w (c, unfit.full k room f, g) =
        let N : Slice → Type 0 = λ z. unfit.HasNoRoom b.held z in
        unfit.cell_full top t open_ w.short (deep_none top w.flat) (subst N (sym w.is) room) (g ∙ ap (stuck h) f)
    crowded top t open_ s w (c, unfit.too_deep k room d f, g) = absurd d

    by_edge : (top : Top) → unfit.IsTop n es top → b.shut ≡ false
        → (planted h (edge_of n (first_key es) top) ≡ Err p) ⊎ ((s : Slice) × (planted h (edge_of n (first_key es) top) ≡ Ok s) × (put_alone h s false last b ≡ Err p))
        → unfit.UnfitEdge h n es b p
    by_edge top t open_ (inl k) = own (planted_err h (edge_of n (first_key es) top) p k)
      where
        deeper : length (content_of n top).bits ≤ 1023 → (f : Excess) → p ≡ stuck h (cause_of f)
            → ((has_deep top ≡ true) × (f ≡ excess.deep)) ⊎ ((has_deep top ≡ false) × (Ok (content_of n top) ≡ Err f))
            → unfit.UnfitEdge h n es b p
        deeper l f q (inl m) = unfit.edge_deep top t open_ l (deep_has top m.0) (q ∙ ap (λ z. stuck h (cause_of z)) m.1)
        deeper l f q (inr m) = absurd (never_excess _ f m.1)

        own : (f : Excess) × (edge_of n (first_key es) top ≡ Err f) × (p ≡ stuck h (cause_of f)) → unfit.UnfitEdge h n es b p
        own (f, m, q) = by (test_excess (nat_lt 1023 (length (content_of n top).bits)) _ _ f m)
          where
            by : ((nat_lt 1023 (length (content_of n top).bits) ≡ true) × (f ≡ excess.full (first_key es))) ⊎ ((nat_lt 1023 (length (content_of n top).bits) ≡ false) × (cond {A = Result Slice Excess} (has_deep top) (Err excess.deep) (Ok (content_of n top)) ≡ Err f))
                → unfit.UnfitEdge h n es b p
            by (inl g) = unfit.edge_full top t open_ (ltb-true 1023 (length (content_of n top).bits) g.0) (q ∙ ap (λ z. stuck h (cause_of z)) g.1)
            by (inr g) = deeper (ltb-false 1023 (length (content_of n top).bits) g.0) f q (test_excess (has_deep top) _ _ f g.1)
    by_edge top t open_ (inr (s, k, m)) =
        crowded top t open_ s (was_edge n (first_key es) top s (planted_ok h (edge_of n (first_key es) top) s k)) (alone_refused h s ⊥ false last b p no_clash m)
      where
        no_clash : (let t : Bool = false in t) ≡ true → ⊥
        no_clash e = cc

    by_top : (top : Top) → unfit.IsTop n es top → put_edge h n (first_key es) top last b ≡ Err p → unfit.UnfitEdge h n es b p
    by_top top t k = by (guard_err b.shut _ _ p k)
      where
        by : ((b.shut ≡ true) × (p ≡ stuck h why.AfterRest)) ⊎ ((b.shut ≡ false) × ((planted h (edge_of n (first_key es) top) >>= λ s. put_alone h s false last b) ≡ Err p))
            → unfit.UnfitEdge h n es b p
        by (inl g) = unfit.edge_after_rest top t g.0 g.1
        by (inr g) = by_edge top t g.0 (bind_err (planted h (edge_of n (first_key es) top)) _ p g.1)

    go : (planted h (tops n [] es) ≡ Err p) ⊎ ((top : Top) × (planted h (tops n [] es) ≡ Ok top) × (put_edge h n (first_key es) top last b ≡ Err p))
        → unfit.UnfitEdge h n es b p
    go (inl k) =
        let f = planted_err h (tops n [] es) p k in
        unfit.in_parts f.0 (below_of n es f.0 (tops_fault n [] es f.0 o l a stand f.1)) f.2
    go (inr (top, k, m)) =
        by_top top (is_top n es top (tops_sound Partial refl n [] es top o l a stand (planted_ok h (tops n [] es) top k))) m

-- ---- Hashmap

edge_fit : (mode : Mode) (n : ℕ) (ps : PlainPairs) (us : Unknowns) → fits_edge mode n (outline ps us) ≡ true
    → FitEdge mode n (outline ps us)
edge_fit mode n ps us e = tests.edge_is mode n (outline ps us) (ap (fits_edge mode n) (tests.outline_blank ps us) ∙ e)

edge_unfit : (mode : Mode) (n : ℕ) (ps : PlainPairs) (us : Unknowns) → fits_edge mode n (outline ps us) ≡ false
    → FitEdge mode n (outline ps us) → ⊥
edge_unfit mode n ps us e f = clash (fits_edge mode n (outline ps us)) ((outline_edge mode n ps us).0 f) e
  where
    clash : (a : Bool) → a ≡ true → a ≡ false → ⊥
    clash true e f = cc
    clash false e f = cc

dict_refused : (S : Misfits) (P : Lays) (mode : Mode) (R : Maker) (ps : PlainPairs) (us : Unknowns) → AreHashes us
    → BySettle S P R ps → (h : Spot) (n : ℕ) (t : Closed) (q : ℕ) (b : Grown) (p : Place)
    → make_dict mode R h n t q ps us b ≡ Err p → unfit.UnfitDict mode S P h n t q ps us b p
dict_refused S P mode R ps us hashes d h n t q b p e = go (test_err (fits_edge mode n (outline ps us)) _ _ p e)
  where
    inside : (fits_edge mode n (outline ps us) ≡ true)
        → (make_leaves R h t q ps ≡ Err p) ⊎ ((xs : Leaves) × (make_leaves R h t q ps ≡ Ok xs) × (plant_here h n (entries_of xs us) (is_last xs us) b ≡ Err p))
        → UnfitLeaves S P h t q ps p ⊎ ((xs : Leaves) × LaidLeaves P t q ps xs × unfit.UnfitEdge h n (entries_of xs us) b p)
    inside fits (inl k) = inl (leaves_refused S P R ps d h t q p k)
    inside fits (inr (xs, k, m)) =
        let l = leaves_made S P R ps d h t q xs k in
        let f = tests.edge_is mode n (entries_of xs us) (ap (fits_edge mode n) (sym (tests.laid_outline P ps us t q xs l.laid)) ∙ fits) in
        inr (xs, l.laid, edge_refused h n (entries_of xs us) (is_last xs us) b p f.order f.some f.placed (entries_stand xs us l.held hashes) m)

    go : ((fits_edge mode n (outline ps us) ≡ true) × ((make_leaves R h t q ps >>= λ xs. plant_here h n (entries_of xs us) (is_last xs us) b) ≡ Err p)) ⊎ ((fits_edge mode n (outline ps us) ≡ false) × (p ≡ stuck h why.Shape))
        → unfit.UnfitDict mode S P h n t q ps us b p
    go (inl k) = inr (edge_fit mode n ps us k.0, inside k.0 (bind_err (make_leaves R h t q ps) _ p k.1))
    go (inr k) = inl (edge_unfit mode n ps us k.0, k.1)

-- ---- HashmapE

root_fit : (mode : Mode) (n : ℕ) (ps : PlainPairs) (us : Unknowns) → fits_root mode n (outline ps us) ≡ true
    → FitRoot mode n (outline ps us)
root_fit mode n ps us e = tests.root_is mode n (outline ps us) (ap (fits_root mode n) (tests.outline_blank ps us) ∙ e)

root_unfit : (mode : Mode) (n : ℕ) (ps : PlainPairs) (us : Unknowns) → fits_root mode n (outline ps us) ≡ false
    → FitRoot mode n (outline ps us) → ⊥
root_unfit mode n ps us e f = clash (fits_root mode n (outline ps us)) ((outline_root mode n ps us).0 f) e
  where
    clash : (a : Bool) → a ≡ true → a ≡ false → ⊥
    clash true e f = cc
    clash false e f = cc

open_refused : (h : Spot) (n : ℕ) (es : Entries) (b : Grown) (p : Place) → AreInOrder n es → 0 < length es
    → AllPlaced es → AllStand Partial es
    → (planted h (planting n es) >>= λ s. put_root h (cell_of s) (is_deep (cell_of s)) b) ≡ Err p → unfit.UnfitTree h n es b p
open_refused h n es b p o l a stand e = go (bind_err (planted h (planting n es)) _ p e)
  where
    edges : (f : Excess) → p ≡ stuck h (cause_of f)
        → (tops n [] es ≡ Err f) ⊎ ((top : Top) × (tops n [] es ≡ Ok top) × (edge_of n (first_key es) top ≡ Err f))
        → unfit.UnfitTree h n es b p
    edges f q (inl k) = unfit.in_edges f (top_exceeds n es f (tops_fault n [] es f o l a stand k)) q
    edges f q (inr (top, k, m)) = unfit.in_edges f (edge_exceeds n es top f (tops_sound Partial refl n [] es top o l a stand k) m) q

    go : (planted h (planting n es) ≡ Err p) ⊎ ((s : Slice) × (planted h (planting n es) ≡ Ok s) × (put_root h (cell_of s) (is_deep (cell_of s)) b ≡ Err p))
        → unfit.UnfitTree h n es b p
    go (inl k) = let f = planted_err h (planting n es) p k in edges f.0 f.2 (fault (tops n [] es) _ f.0 f.1)
    go (inr (s, k, m)) =
        let t = bind_is (tops n [] es) _ s (planted_ok h (planting n es) s k) in
        let d = top_tree Partial refl n (first_key es) es t.0 s stand (tops_sound Partial refl n [] es t.0 o l a stand t.1) t.2 in
        unfit.reference s d.0 d.1.within d.1.bits (alone_refused h (unfit.with_one (cell_of s)) (unfit.IsDeep (cell_of s)) (is_deep (cell_of s)) false b p (λ z. ltb-true 1023 (deepest (cell_of s)) z) m)

tree_refused : (h : Spot) (n : ℕ) (es : Entries) (b : Grown) (p : Place) → AreInOrder n es
    → IsHiddenAlone es ⊎ AllPlaced es → AllStand Partial es → plant_root h n es b ≡ Err p → unfit.UnfitTree h n es b p
unfolding starts_leaf
tree_refused h n [] b p o a stand e = unfit.no_entries refl (bits_refused h (0 ∷ []) [] b p e)
tree_refused h n (([], hidden x) ∷ f ∷ es) b p o a stand e = absurd (o.2)
tree_refused h n (([], hidden x) ∷ []) b p o a stand e =
    unfit.hidden_tree x refl (alone_refused h (unfit.with_one (pruned_of x.hash x.depth)) (1023 < x.depth) (nat_lt 1023 x.depth) false b p (λ d. ltb-true 1023 x.depth d) e)
tree_refused h n (([], leaf c) ∷ es) b p o (inl k) stand e = absurd (not_alone k)
  where
    not_alone : IsHiddenAlone (([], leaf c) ∷ es) → ⊥
    not_alone k = let t : true ≡ false = ap starts_leaf k.1 in cc
tree_refused h n (([], leaf c) ∷ es) b p o (inr a) stand e =
    open_refused h n (([], leaf c) ∷ es) b p o (omega arith) a stand e
tree_refused h n ((d ∷ k, x) ∷ es) b p o (inl j) stand e = absurd (not_alone j)
  where
    not_alone : IsHiddenAlone ((d ∷ k, x) ∷ es) → ⊥
    not_alone j = let t : d ∷ k ≡ [] = ap first_key j.1 in cc
tree_refused h n ((d ∷ k, x) ∷ es) b p o (inr a) stand e =
    open_refused h n ((d ∷ k, x) ∷ es) b p o (omega arith) a stand e

dict_e_refused : (S : Misfits) (P : Lays) (mode : Mode) (R : Maker) (ps : PlainPairs) (us : Unknowns) → AreHashes us
    → BySettle S P R ps → (h : Spot) (n : ℕ) (t : Closed) (q : ℕ) (b : Grown) (p : Place)
    → make_dict_e mode R h n t q ps us b ≡ Err p → unfit.UnfitDictE mode S P h n t q ps us b p
dict_e_refused S P mode R ps us hashes d h n t q b p e = go (test_err (fits_root mode n (outline ps us)) _ _ p e)
  where
    inside : (fits_root mode n (outline ps us) ≡ true)
        → (make_leaves R h t q ps ≡ Err p) ⊎ ((xs : Leaves) × (make_leaves R h t q ps ≡ Ok xs) × (plant_root h n (entries_of xs us) b ≡ Err p))
        → UnfitLeaves S P h t q ps p ⊎ ((xs : Leaves) × LaidLeaves P t q ps xs × unfit.UnfitTree h n (entries_of xs us) b p)
    inside fits (inl k) = inl (leaves_refused S P R ps d h t q p k)
    inside fits (inr (xs, k, m)) =
        let l = leaves_made S P R ps d h t q xs k in
        let f = tests.root_is mode n (entries_of xs us) (ap (fits_root mode n) (sym (tests.laid_outline P ps us t q xs l.laid)) ∙ fits) in
        inr (xs, l.laid, tree_refused h n (entries_of xs us) b p f.order f.placed (entries_stand xs us l.held hashes) m)

    go : ((fits_root mode n (outline ps us) ≡ true) × ((make_leaves R h t q ps >>= λ xs. plant_root h n (entries_of xs us) b) ≡ Err p)) ⊎ ((fits_root mode n (outline ps us) ≡ false) × (p ≡ stuck h why.Shape))
        → unfit.UnfitDictE mode S P h n t q ps us b p
    go (inl k) = inr (root_fit mode n ps us k.0, inside k.0 (bind_err (make_leaves R h t q ps) _ p k.1))
    go (inr k) = inl (root_unfit mode n ps us k.0, k.1)

pub map_at_refused : (S : Misfits) (P : Lays) (mode : Mode) (R : Maker) (ps : PlainPairs) (us : Unknowns) → AreHashes us
    → BySettle S P R ps → (h : Spot) (c : Shape) (q : ℕ) (b : Grown) (p : Place)
    → map_at mode R h c q ps us b ≡ Err p → unfit.UnfitMapAt mode S P h c q ps us b p
map_at_refused S P mode R ps us hashes d h (typed (closed.dict n t)) q b p e = dict_refused S P mode R ps us hashes d h n t q b p e
map_at_refused S P mode R ps us hashes d h (typed (closed.dict_e n t)) q b p e =
    dict_e_refused S P mode R ps us hashes d h n t q b p e
map_at_refused S P mode R ps us hashes d h _ q b p e = place_is _ p e
