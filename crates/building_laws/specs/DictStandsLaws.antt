-- Where the tests of a map fail, its values don't fit, or its edges can't be put, the plain builder stops at that place.
use Rattle.std.proofs.Common.{◌≡◌, ◌<◌, ◌⊎◌, inl, inr, ℕ, ◌+◌, Bool, true, false, ◌||◌, nat_lt, List, [], ◌∷◌, length, Ok, Err, refl, sym, ap, ◌∙◌, subst, arith}
use Rattle.std.proofs.lemmas.Bool.{lt-ltb}
use Rattle.cell_nodes.specs.Constructed.{pruned_of}
use Rattle.cell_nodes.specs.Tree.{deepest}
use Rattle.cell_nodes.specs.declared.tree.Mode.{Mode}
use Rattle.cell_nodes.specs.declared.tree.Mode.TheVariants.{Whole, Partial, Lax}
use Rattle.hashmap_tree.specs.Entries.{Slice, cell_of, leaf, hidden, Entries, hidden_in}
use Rattle.hashmap_tree.specs.Exceeds.{first_key}
use Rattle.hashmap_tree.specs.ExceedsLaws.{exceeds-some}
use Rattle.hashmap_tree.specs.OnceLaws.{some_entry}
use Rattle.hashmap_tree.specs.Merged.{merged}
use Rattle.hashmap_tree.specs.MergedLaws.{merged-parts}
use Rattle.hashmap_tree.specs.Order.{AreInOrder}
use Rattle.hashmap_tree.specs.Placed.{AllPlaced}
use Rattle.hashmap_tree.specs.Plants.{IsHiddenAlone}
use Rattle.typed_value.specs.Values.{PlainPairs, no_pairs, a_pair, parts}
use Rattle.core_form.specs.Closed.{Closed}
use Rattle.core_form.specs.Closed as closed
use Rattle.spelling.specs.Goals.{at_type, Shape, typed}
use Rattle.spelling.specs.Places.{Spot, Place}
use Rattle.spelling.specs.Slices.{nothing}
use Rattle.spelling.specs.declared.Cause.TheVariants as why
use Rattle.spelling_laws.specs.StepLaws.{bind_on, bind_fault, when_true, when_false, both, both_on}
use Rattle.building.specs.Buildable.{AreHashes}
use Rattle.building.specs.Growing.{Grown, empty, is_deep}
use Rattle.building.specs.MapTests.{keys_of, outline, Admits, FitEdge, FitRoot, in_order, are_placed, is_hidden_alone, is_none, admits, has_some, fits_edge, fits_root}
use Rattle.building.specs.Planting.{content_of, edge_of, tops, planting}
use Rattle.building.specs.PlainBuilder.{Maker, Leaves, make_leaves, contents_of, entries_of, is_last, planted, plant_here, make_dict, plant_root, make_dict_e, map_at}
use Rattle.building.specs.Unfit.{Misfits, Lays, IsDeep, UnfitLeaves, LaidLeaves, UnfitEdge, in_parts, edge_after_rest, edge_full, edge_deep, cell_full, UnfitDict, UnfitTree, no_entries, hidden_tree, in_edges, reference, UnfitDictE, UnfitMapAt, with_one, full}
use Rattle.building_laws.specs.DictLaws.{Unknowns, hashed_of, plant_root_open}
use Rattle.building_laws.specs.DictSoundLaws.{AllKeys, order_is, placed_is, keys_are, some_is, none_is, hidden_blank}
use Rattle.building_laws.specs.MapLaws.{blank, blank_pairs, blank_merged, in_order_on, placed_on}
use Rattle.building_laws.specs.MapStandsLaws.{exceeds_edge, below_tops, top_on, exceeds_open}
use Rattle.building_laws.specs.MapStandsLaws as maps
use Rattle.building_laws.specs.MoveLaws.{IsHeld, made}
use Rattle.building_laws.specs.PlantLaws.{AreHashed, bind_to, not_hidden, tree_planted, planted_edge}
use Rattle.building_laws.specs.PlantLaws as plants
use Rattle.building_laws.specs.StandsLaws.{Decides, alone_stands, bits_stand}

-- ---- the tests

keys_blank : (ps : PlainPairs) → blank_pairs (keys_of ps) ≡ keys_of ps
keys_blank no_pairs = refl
keys_blank (a_pair k v ps) = ap (λ (l : List (List ℕ × Slice)). (k, nothing) ∷ l) (keys_blank ps)

pub outline_blank : (ps : PlainPairs) (us : Unknowns) → blank (outline ps us) ≡ outline ps us
outline_blank ps us = blank_merged (keys_of ps) us ∙ ap (λ z. merged z us) (keys_blank ps)

admits_on : (mode : Mode) (es : Entries) → Admits mode es → admits mode (blank es) ≡ true
admits_on Whole es a = ap is_none (hidden_blank es ∙ a)
admits_on Partial es a = refl
admits_on Lax es a = ap is_none (hidden_blank es ∙ a)

admits_is : (mode : Mode) (es : Entries) → admits mode (blank es) ≡ true → Admits mode es
admits_is Whole es e = sym (hidden_blank es) ∙ none_is (hidden_in (blank es)) e
admits_is Partial es e = tt
admits_is Lax es e = sym (hidden_blank es) ∙ none_is (hidden_in (blank es)) e

some_on : (es : Entries) → 0 < length es → has_some (blank es) ≡ true
some_on [] l = absurd (omega (arith, l))
some_on (e ∷ es) l = refl

edge_on : (mode : Mode) (n : ℕ) (es : Entries) → FitEdge mode n es → fits_edge mode n (blank es) ≡ true
edge_on mode n es f =
    both_on (has_some (blank es)) _ (some_on es f.some)
    (both_on (in_order n (blank es)) _ (in_order_on n es f.order)
    (both_on (are_placed (blank es) (blank es)) (admits mode (blank es)) (placed_on es es f.placed) (admits_on mode es f.admitted)))

pub edge_is : (mode : Mode) (n : ℕ) (es : Entries) → fits_edge mode n (blank es) ≡ true → FitEdge mode n es
edge_is mode n es e =
    let a = both (has_some (blank es)) _ e in
    let c = both (in_order n (blank es)) _ a.1 in
    let d = both (are_placed (blank es) (blank es)) (admits mode (blank es)) c.1 in
    record { some = some_is es a.0; order = order_is n es c.0; placed = placed_is es es (keys_are n es c.0) d.0; admitted = admits_is mode es d.1 }

alone_on : (es : Entries) → IsHiddenAlone es → is_hidden_alone (blank es) ≡ true
alone_on es h = ap (λ (l : Entries). is_hidden_alone (blank l)) h.1

alone_is : (es : Entries) → is_hidden_alone (blank es) ≡ true → IsHiddenAlone es
alone_is [] e = cc
alone_is (([], hidden h) ∷ []) e = (h, refl)
alone_is (([], leaf c) ∷ es) e = cc
alone_is (([], hidden h) ∷ f ∷ es) e = cc
alone_is ((b ∷ k, x) ∷ es) e = cc

or_on : (a b : Bool) → (a ≡ true) ⊎ (b ≡ true) → (a || b) ≡ true
or_on true b h = refl
or_on false b (inl h) = cc
or_on false b (inr h) = h

or_is : (a b : Bool) → (a || b) ≡ true → (a ≡ true) ⊎ (b ≡ true)
or_is true b e = inl refl
or_is false b e = inr e

root_on : (mode : Mode) (n : ℕ) (es : Entries) → FitRoot mode n es → fits_root mode n (blank es) ≡ true
root_on mode n es f =
    both_on (in_order n (blank es)) _ (in_order_on n es f.order)
    (both_on (is_hidden_alone (blank es) || are_placed (blank es) (blank es)) (admits mode (blank es)) (or_on (is_hidden_alone (blank es)) _ (go f.placed)) (admits_on mode es f.admitted))
  where
    go : IsHiddenAlone es ⊎ AllPlaced es → (is_hidden_alone (blank es) ≡ true) ⊎ (are_placed (blank es) (blank es) ≡ true)
    go (inl h) = inl (alone_on es h)
    go (inr h) = inr (placed_on es es h)

pub root_is : (mode : Mode) (n : ℕ) (es : Entries) → fits_root mode n (blank es) ≡ true → FitRoot mode n es
root_is mode n es e =
    let c = both (in_order n (blank es)) _ e in
    let d = both (is_hidden_alone (blank es) || are_placed (blank es) (blank es)) (admits mode (blank es)) c.1 in
    record { order = order_is n es c.0; placed = go (keys_are n es c.0) (or_is (is_hidden_alone (blank es)) _ d.0); admitted = admits_is mode es d.1 }
  where
    go : AllKeys es → (is_hidden_alone (blank es) ≡ true) ⊎ (are_placed (blank es) (blank es) ≡ true) → IsHiddenAlone es ⊎ AllPlaced es
    go k (inl h) = inl (alone_is es h)
    go k (inr h) = inr (placed_is es es k h)

fit_not : {A : Type 0} (t : Bool) → (t ≡ true → A) → (A → ⊥) → t ≡ false
fit_not true f ne = absurd (ne (f refl))
fit_not false f ne = refl

pub outline_edge : (mode : Mode) (n : ℕ) (ps : PlainPairs) (us : Unknowns)
    → (FitEdge mode n (outline ps us) → fits_edge mode n (outline ps us) ≡ true) × ((FitEdge mode n (outline ps us) → ⊥) → fits_edge mode n (outline ps us) ≡ false)
outline_edge mode n ps us =
    let es = outline ps us in
    let same = outline_blank ps us in (
      (λ f. ap (fits_edge mode n) (sym same) ∙ edge_on mode n es f),
      (λ ne. fit_not (fits_edge mode n es) (λ e. edge_is mode n es (ap (fits_edge mode n) same ∙ e)) ne),
    )

pub outline_root : (mode : Mode) (n : ℕ) (ps : PlainPairs) (us : Unknowns)
    → (FitRoot mode n (outline ps us) → fits_root mode n (outline ps us) ≡ true) × ((FitRoot mode n (outline ps us) → ⊥) → fits_root mode n (outline ps us) ≡ false)
outline_root mode n ps us =
    let es = outline ps us in
    let same = outline_blank ps us in (
      (λ f. ap (fits_root mode n) (sym same) ∙ root_on mode n es f),
      (λ ne. fit_not (fits_root mode n es) (λ e. root_is mode n es (ap (fits_root mode n) same ∙ e)) ne),
    )

-- ---- the values

abbrev pub ByDecide : Misfits → Lays → Maker → PlainPairs → Type 0
ByDecide S P R no_pairs = Unit {0}
ByDecide S P R (a_pair k v ps) = Decides S P R v × ByDecide S P R ps

leaves_stand : (S : Misfits) (P : Lays) (R : Maker) (ps : PlainPairs) → ByDecide S P R ps → (h : Spot) (t : Closed) (q : ℕ)
    (p : Place) → UnfitLeaves S P h t q ps p → make_leaves R h t q ps ≡ Err p
leaves_stand S P R no_pairs d h t q p u = absurd u
leaves_stand S P R (a_pair k v ps) d h t q p (inl u) =
    bind_fault (R h (at_type t) q v empty) _ p (d.0.0 h (at_type t) q empty p tt u)
leaves_stand S P R (a_pair k v ps) d h t q p (inr (outs, x, l, u)) =
    bind_on (R h (at_type t) q v empty) _ (made outs x) (Err p) (d.0.1 h (at_type t) q empty outs x tt l)
    (bind_fault (make_leaves R h t (q + parts v) ps) _ p (leaves_stand S P R ps d.1 h t (q + parts v) p u))

leaves_get : (S : Misfits) (P : Lays) (R : Maker) (ps : PlainPairs) → ByDecide S P R ps → (h : Spot) (t : Closed) (q : ℕ)
    (xs : Leaves) → LaidLeaves P t q ps xs → make_leaves R h t q ps ≡ Ok xs
leaves_get S P R no_pairs d h t q xs l = ap Ok (sym l)
leaves_get S P R (a_pair k v ps) d h t q [] l = absurd l
leaves_get S P R (a_pair k v ps) d h t q (x ∷ xs) (outs, e, l, more) =
    bind_on (R h (at_type t) q v empty) _ (made outs x.1) (Ok (x ∷ xs)) (d.0.1 h (at_type t) q empty outs x.1 tt l)
    (bind_on (make_leaves R h t (q + parts v) ps) _ xs (Ok (x ∷ xs)) (leaves_get S P R ps d.1 h t (q + parts v) xs more) (λ i. Ok ((sym e i, x.1) ∷ xs)))

-- the keys of what is laid are those of the map
laid_keys : (P : Lays) (ps : PlainPairs) (t : Closed) (q : ℕ) (xs : Leaves) → LaidLeaves P t q ps xs
    → blank_pairs (contents_of xs) ≡ keys_of ps
laid_keys P no_pairs t q xs l = ap (λ z. blank_pairs (contents_of z)) l
laid_keys P (a_pair k v ps) t q [] l = absurd l
laid_keys P (a_pair k v ps) t q (x ∷ xs) (outs, e, l, more) =
    λ i. (e i, nothing) ∷ laid_keys P ps t (q + parts v) xs more i

pub laid_outline : (P : Lays) (ps : PlainPairs) (us : Unknowns) (t : Closed) (q : ℕ) (xs : Leaves) → LaidLeaves P t q ps xs
    → outline ps us ≡ blank (entries_of xs us)
laid_outline P ps us t q xs l = ap (λ z. merged z us) (sym (laid_keys P ps t q xs l)) ∙ sym (blank_merged (contents_of xs) us)

-- ---- the first edge in place

edge_stands : (h : Spot) (n : ℕ) (es : Entries) (last : Bool) (b : Grown) (p : Place) → AreInOrder n es
    → AreHashed Partial es → UnfitEdge h n es b p → plant_here h n es last b ≡ Err p
edge_stands h n es last b p order hashed (in_parts f d e) =
    bind_fault (planted h (tops n [] es)) _ p (ap (planted h) (below_tops n es f order hashed d) ∙ ap Err (sym e))
edge_stands h n es last b p order hashed (edge_after_rest top t s e) =
    bind_on (planted h (tops n [] es)) _ top (Err p) (ap (planted h) (top_on n es top order hashed t)) (when_true b.shut _ _ s ∙ ap Err (sym e))
edge_stands h n es last b p order hashed (edge_full top t s l e) =
    bind_on (planted h (tops n [] es)) _ top (Err p) (ap (planted h) (top_on n es top order hashed t))
    (when_false b.shut _ _ s ∙ bind_fault (planted h (edge_of n (first_key es) top)) _ p (ap (planted h) (maps.edge_full n (first_key es) top l) ∙ ap Err (sym e)))
edge_stands h n es last b p order hashed (edge_deep top t s l d e) =
    bind_on (planted h (tops n [] es)) _ top (Err p) (ap (planted h) (top_on n es top order hashed t))
    (when_false b.shut _ _ s ∙ bind_fault (planted h (edge_of n (first_key es) top)) _ p (ap (planted h) (maps.edge_deep n (first_key es) top l (maps.deep_of top d)) ∙ ap Err (sym e)))
edge_stands h n es last b p order hashed (cell_full top t s l nd room e) =
    bind_on (planted h (tops n [] es)) _ top (Err p) (ap (planted h) (top_on n es top order hashed t))
    (when_false b.shut _ _ s
    ∙ bind_on (planted h (edge_of n (first_key es) top)) _ (content_of n top) (Err p) (ap (planted h) (plants.edge_on n (first_key es) top l (maps.deep_not top nd)))
    (alone_stands h (content_of n top) ⊥ false last b p (λ z. absurd z) (why.Full, full (λ z. absurd (clash b.shut s z)) room refl, e)))
  where
    clash : (t : Bool) → t ≡ false → t ≡ true → ⊥
    clash true f k = cc
    clash false f k = cc

hashed_entries : (xs : Leaves) (us : Unknowns) → AreHashes us → AreHashed Partial (entries_of xs us)
hashed_entries xs us h =
    let H : Unknowns → Type 0 = AreHashes in
    hashed_of Partial (entries_of xs us) (subst H (sym (merged-parts (contents_of xs) us).1) h)

dict_stands : (S : Misfits) (P : Lays) (mode : Mode) (R : Maker) (ps : PlainPairs) (us : Unknowns) → AreHashes us
    → ByDecide S P R ps → (h : Spot) (n : ℕ) (t : Closed) (q : ℕ) (b : Grown) (p : Place)
    → UnfitDict mode S P h n t q ps us b p → make_dict mode R h n t q ps us b ≡ Err p
dict_stands S P mode R ps us hashes d h n t q b p (inl u) =
    when_false (fits_edge mode n (outline ps us)) _ _ ((outline_edge mode n ps us).1 u.0) ∙ ap Err (sym u.1)
dict_stands S P mode R ps us hashes d h n t q b p (inr (fit, inl u)) =
    when_true (fits_edge mode n (outline ps us)) _ _ ((outline_edge mode n ps us).0 fit)
    ∙ bind_fault (make_leaves R h t q ps) _ p (leaves_stand S P R ps d h t q p u)
dict_stands S P mode R ps us hashes d h n t q b p (inr (fit, inr (xs, l, u))) =
    let fits = (outline_edge mode n ps us).0 fit in
    let order = (edge_is mode n (entries_of xs us) (ap (fits_edge mode n) (sym (laid_outline P ps us t q xs l)) ∙ fits)).order in
    when_true (fits_edge mode n (outline ps us)) _ _ fits
    ∙ bind_on (make_leaves R h t q ps) _ xs (Err p) (leaves_get S P R ps d h t q xs l)
    (edge_stands h n (entries_of xs us) (is_last xs us) b p order (hashed_entries xs us hashes) u)

-- ---- a dictionary that may be empty

tree_stands : (h : Spot) (n : ℕ) (es : Entries) (b : Grown) (p : Place) → AreInOrder n es → AreHashed Partial es
    → UnfitTree h n es b p → plant_root h n es b ≡ Err p
tree_stands h n es b p order hashed (no_entries e u) =
    ap (λ l. plant_root h n l b) e ∙ bits_stand h (0 ∷ []) [] b p u
tree_stands h n es b p order hashed (hidden_tree x e u) =
    ap (λ l. plant_root h n l b) e
    ∙ alone_stands h (with_one (pruned_of x.hash x.depth)) (1023 < x.depth) (nat_lt 1023 x.depth) false b p (λ d. lt-ltb 1023 x.depth d) u
tree_stands h n es b p order hashed (in_edges f d e) =
    plant_root_open h n es b (exceeds-some n es f d) (exceeds_open n es f d)
    ∙ bind_fault (planted h (planting n es)) _ p (ap (planted h) (exceeds_edge n es f order hashed d) ∙ ap Err (sym e))
tree_stands h n es b p order hashed (reference s d w a u) =
    let held : IsHeld s = record { within = w; bits = a } in
    let k = tree_planted Partial refl n es s d held hashed in
    let plant_is : planting n es ≡ Ok s = bind_to (tops n [] es) _ k.top (Ok s) k.tops_on (planted_edge n (first_key es) es s k w.short) in
    plant_root_open h n es b (some_entry Partial n es s d) (not_hidden Partial n es s d)
    ∙ bind_on (planted h (planting n es)) _ s (Err p) (ap (planted h) plant_is)
    (alone_stands h (with_one (cell_of s)) (IsDeep (cell_of s)) (is_deep (cell_of s)) false b p (λ z. lt-ltb 1023 (deepest (cell_of s)) z) u)

dict_e_stands : (S : Misfits) (P : Lays) (mode : Mode) (R : Maker) (ps : PlainPairs) (us : Unknowns) → AreHashes us
    → ByDecide S P R ps → (h : Spot) (n : ℕ) (t : Closed) (q : ℕ) (b : Grown) (p : Place)
    → UnfitDictE mode S P h n t q ps us b p → make_dict_e mode R h n t q ps us b ≡ Err p
dict_e_stands S P mode R ps us hashes d h n t q b p (inl u) =
    when_false (fits_root mode n (outline ps us)) _ _ ((outline_root mode n ps us).1 u.0) ∙ ap Err (sym u.1)
dict_e_stands S P mode R ps us hashes d h n t q b p (inr (fit, inl u)) =
    when_true (fits_root mode n (outline ps us)) _ _ ((outline_root mode n ps us).0 fit)
    ∙ bind_fault (make_leaves R h t q ps) _ p (leaves_stand S P R ps d h t q p u)
dict_e_stands S P mode R ps us hashes d h n t q b p (inr (fit, inr (xs, l, u))) =
    let fits = (outline_root mode n ps us).0 fit in
    let order = (root_is mode n (entries_of xs us) (ap (fits_root mode n) (sym (laid_outline P ps us t q xs l)) ∙ fits)).order in
    when_true (fits_root mode n (outline ps us)) _ _ fits
    ∙ bind_on (make_leaves R h t q ps) _ xs (Err p) (leaves_get S P R ps d h t q xs l)
    (tree_stands h n (entries_of xs us) b p order (hashed_entries xs us hashes) u)

pub map_at_stands : (S : Misfits) (P : Lays) (mode : Mode) (R : Maker) (ps : PlainPairs) (us : Unknowns) → AreHashes us
    → ByDecide S P R ps → (h : Spot) (c : Shape) (q : ℕ) (b : Grown) (p : Place)
    → UnfitMapAt mode S P h c q ps us b p → map_at mode R h c q ps us b ≡ Err p
map_at_stands S P mode R ps us hashes d h (typed (closed.dict n t)) q b p u =
    dict_stands S P mode R ps us hashes d h n t q b p u
map_at_stands S P mode R ps us hashes d h (typed (closed.dict_e n t)) q b p u =
    dict_e_stands S P mode R ps us hashes d h n t q b p u
map_at_stands S P mode R ps us hashes d h _ q b p u = ap Err (sym u)
