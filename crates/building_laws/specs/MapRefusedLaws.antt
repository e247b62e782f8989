-- Where planting stops, the entries exceed the limits so.
use Rattle.std.proofs.Common.{◌≡◌, ◌≢◌, ◌<◌, ◌≤◌, ◌⊎◌, inl, inr, ℕ, zero, suc, ◌+◌, Bool, true, false, ◌||◌, cond, nat_lt, List, [], ◌∷◌, ◌++◌, length, Result, Ok, Err, refl, sym, ap, ◌∙◌, subst, arith, append_assoc}
use Rattle.std.proofs.lemmas.Bool.{ltb-true, ltb-false}
use Rattle.std.proofs.lemmas.List.{append-nil}
use Rattle.cell_nodes.specs.Constructed.{pruned_of}
use Rattle.cell_nodes.specs.Good.{IsGood}
use Rattle.cell_nodes.specs.GoodParts.{good-sound}
use Rattle.cell_nodes.specs.Tree.{deepest}
use Rattle.cell_nodes.specs.declared.tree.Mode.TheVariants.{Partial}
use Rattle.cell_nodes.specs.declared.tree.Tree.{Tree}
use Rattle.hashmap_tree.specs.Entries.{Slice, cell_of, Part, leaf, hidden, Entries, under, fork}
use Rattle.hashmap_tree.specs.Exceeds.{Excess, full, deep, beneath, first_key, IsBuilt, Exceeds, leaf_full, in_zeros, in_ones, fork_full, fork_deep, ExceedsBranch, in_edge, hidden_deep}
use Rattle.hashmap_tree.specs.Order.{Before, MayStand, AreInOrder}
use Rattle.hashmap_tree.specs.OrderedLaws.{cut-bit, under-fork}
use Rattle.hashmap_tree.specs.Placed.{AllPlaced}
use Rattle.hashmap_tree.specs.PlacedLaws.{HasPlaces, placed-under, fork-places, alone-misplaced}
use Rattle.building.specs.Growing.{is_deep}
use Rattle.building.specs.Planting.{◌>>=◌, labeled, Top, leaf_top, fork_top, content_of, edge_of, side, reported_below, part_of, fork_of, sides_of, leaf_of, tops}
use Rattle.building.specs.Unfit.{ExceedsBelow, in_left, in_right}
use Rattle.building_laws.specs.MapStandsLaws.{label_length}
use Rattle.building_laws.specs.PlantLaws.{side_zero, side_one, part_open}
use Rattle.building_laws.specs.PlantSoundLaws.{AllStand, stand_as, stand_before, stand_after, stand_under, TopSound, of_leaf, of_fork, part_sound, first_alone, tops_sound, not_end, below_ok}

-- ---- steps

pub fault : {A B : Type 0} (r : Result A Excess) (f : A → Result B Excess) (g : Excess) → (r >>= f) ≡ Err g
    → (r ≡ Err g) ⊎ ((x : A) × (r ≡ Ok x) × (f x ≡ Err g))
fault (Ok x) f g e = inr (x, refl, e)
fault (Err h) f g e = inl (ap Err (one h g e))
  where
    one : {B : Type 0} (h g : Excess) → (◌≡◌ {A = Result B Excess} (Err h) (Err g)) → h ≡ g
    one h g e = cc

excess_one : {A : Type 0} (f g : Excess) → (◌≡◌ {A = Result A Excess} (Err f) (Err g)) → g ≡ f
excess_one f g e = cc

pub never_excess : {A : Type 0} (x : A) (g : Excess) → (◌≡◌ {A = Result A Excess} (Ok x) (Err g)) → ⊥
never_excess x g e = cc

below_fault : {A : Type 0} (p : List ℕ) (r : Result A Excess) (f : Excess) → reported_below p r ≡ Err f
    → (g : Excess) × (r ≡ Err g) × (f ≡ beneath p g)
below_fault p (Ok x) f e = absurd (never_excess x f e)
below_fault p (Err g) f e = (g, refl, excess_one (beneath p g) f e)

pub test_excess : {A : Type 0} (b : Bool) (v : Excess) (r : Result A Excess) (w : Excess) → cond b (Err v) r ≡ Err w
    → ((b ≡ true) × (w ≡ v)) ⊎ ((b ≡ false) × (r ≡ Err w))
test_excess true v r w e = inl (refl, excess_one v w e)
test_excess false v r w e = inr (refl, e)

-- ---- faults of the parts

pub data TopFault (n : ℕ) (q : List ℕ) (es : Entries) (f : Excess) : Type 0 where
  of_left : (p : List ℕ) (m : ℕ) (zs os : Entries) (g : Excess) → es ≡ fork p zs os → n ≡ length p + suc m → os ≢ []
      → ExceedsBranch m zs g → f ≡ beneath ((q ++ p) ++ 0 ∷ []) g → TopFault n q es f
  of_right : (p : List ℕ) (m : ℕ) (zs os : Entries) (z : Tree) (g : Excess) → es ≡ fork p zs os
      → n ≡ length p + suc m → IsBuilt m zs z → ExceedsBranch m os g → f ≡ beneath ((q ++ p) ++ 1 ∷ []) g
      → TopFault n q es f

along : (n b : ℕ) (q : List ℕ) (es fs : Entries) (f : Excess) → es ≡ under (b ∷ []) fs
    → TopFault n (q ++ b ∷ []) fs f → TopFault (suc n) q es f
along n b q es fs f e (of_left p m zs os g same len ne d is) =
    of_left (b ∷ p) m zs os g (e ∙ ap (under (b ∷ [])) same ∙ under-fork (b ∷ []) p zs os) (let h = len in omega (arith, h)) ne d (is ∙ ap (λ (l : List ℕ). beneath (l ++ 0 ∷ []) g) (append_assoc q (b ∷ []) p))
along n b q es fs f e (of_right p m zs os z g same len bz d is) =
    of_right (b ∷ p) m zs os z g (e ∙ ap (under (b ∷ [])) same ∙ under-fork (b ∷ []) p zs os) (let h = len in omega (arith, h)) bz d (is ∙ ap (λ (l : List ℕ). beneath (l ++ 1 ∷ []) g) (append_assoc q (b ∷ []) p))

pub below_of : (n : ℕ) (es : Entries) (f : Excess) → TopFault n [] es f → ExceedsBelow n es f
below_of n es f (of_left p m zs os g same len ne d is) = in_left p m zs os g same len ne d is
below_of n es f (of_right p m zs os z g same len bz d is) = in_right p m zs os z g same len bz d is

pub top_exceeds : (n : ℕ) (es : Entries) (f : Excess) → TopFault n [] es f → Exceeds n es f
top_exceeds n es f (of_left p m zs os g same len ne d is) = in_zeros n es f p m zs os g same len ne d is
top_exceeds n es f (of_right p m zs os z g same len bz d is) = in_ones n es f p m zs os z g same len bz d is

-- ---- faults of an edge whose parts are built

deep_one : (c : Tree) → IsGood c → is_deep c ≡ true → deepest c ≡ 1024
deep_one c fine e = let s = (good-sound c fine).shallow in let l = ltb-true 1023 (deepest c) e in omega (arith, s, l)

either_deep : (z o : Tree) → IsGood z → IsGood o → (is_deep z || is_deep o) ≡ true → (deepest z ≡ 1024) ⊎ (deepest o ≡ 1024)
either_deep z o gz go_ e = pick (is_deep z) refl e
  where
    pick : (a : Bool) → is_deep z ≡ a → (a || is_deep o) ≡ true → (deepest z ≡ 1024) ⊎ (deepest o ≡ 1024)
    pick true f e = inl (deep_one z gz f)
    pick false f e = inr (deep_one o go_ e)

fault_as : (n : ℕ) (key : List ℕ) (top other : Top) (f : Excess) → top ≡ other → edge_of n key top ≡ Err f
    → edge_of n key other ≡ Err f
fault_as n key top other f e k = let P : Top → Type 0 = λ t. edge_of n key t ≡ Err f in subst P e k

pub edge_exceeds : (n : ℕ) (es : Entries) (top : Top) (f : Excess) → TopSound Partial n [] es top
    → edge_of n (first_key es) top ≡ Err f → Exceeds n es f
edge_exceeds n es top f (of_leaf k c same long bits is) e =
    go (test_excess (nat_lt 1023 (length (labeled n k c.bits))) _ _ f (fault_as n (first_key es) top (leaf_top k c) f is e))
  where
    go : ((nat_lt 1023 (length (labeled n k c.bits)) ≡ true) × (f ≡ full (first_key es))) ⊎ ((nat_lt 1023 (length (labeled n k c.bits)) ≡ false) × (Ok (content_of n (leaf_top k c)) ≡ Err f))
        → Exceeds n es f
    go (inl h) =
        let l = ltb-true 1023 (length (labeled n k c.bits)) h.0 in
        let size = label_length n k c.bits bits (omega (arith, long)) in
        leaf_full n es f k c same (omega (arith, l, size)) (h.1 ∙ ap (λ (z : Entries). full (first_key z)) same)
    go (inr h) = absurd (never_excess _ f h.1)
edge_exceeds n es top f (of_fork p m zs os z o same long bits bz bo gz go_ is) e =
    go (test_excess (nat_lt 1023 (length (labeled n p []))) _ _ f (fault_as n (first_key es) top (fork_top p z o) f is e))
  where
    deeper : length (labeled n p []) ≤ 1023
        → (((is_deep z || is_deep o) ≡ true) × (f ≡ deep)) ⊎ (((is_deep z || is_deep o) ≡ false) × (Ok (content_of n (fork_top p z o)) ≡ Err f))
        → Exceeds n es f
    deeper l (inl h) =
        let size = label_length n p [] bits (omega (arith, long)) in
        fork_deep n es f p m zs os z o same long (bz, gz) (bo, go_) (omega (arith, l, size)) (either_deep z o gz go_ h.0) h.1
    deeper l (inr h) = absurd (never_excess _ f h.1)

    go : ((nat_lt 1023 (length (labeled n p [])) ≡ true) × (f ≡ full (first_key es))) ⊎ ((nat_lt 1023 (length (labeled n p [])) ≡ false) × (cond {A = Result Slice Excess} (is_deep z || is_deep o) (Err deep) (Ok (content_of n (fork_top p z o))) ≡ Err f))
        → Exceeds n es f
    go (inl h) =
        let l = ltb-true 1023 (length (labeled n p [])) h.0 in
        let size = label_length n p [] bits (omega (arith, long)) in
        fork_full n es f p m zs os z o same long (bz, gz) (bo, go_) (omega (arith, l, size)) h.1
    go (inr h) = deeper (ltb-false 1023 (length (labeled n p [])) h.0) (test_excess (is_deep z || is_deep o) _ _ f h.1)

-- ---- along the keys

abbrev pub TopsFault : ℕ → Type 0
TopsFault n =
    (q : List ℕ) (es : Entries) (f : Excess) → AreInOrder n es → 0 < length es → AllPlaced es → AllStand Partial es
    → tops n q es ≡ Err f → TopFault n q es f

part_fault : (m : ℕ) → TopsFault m → (es : Entries) (g : Excess) → AreInOrder m es → 0 < length es → HasPlaces es
    → AllStand Partial es → part_of (tops m) m es ≡ Err g → ExceedsBranch m es g
part_fault m ih es g o l (inl h) stand e =
    let P : Entries → Type 0 = λ z. part_of (tops m) m z ≡ Err g in
    go (test_excess (nat_lt 1024 h.0.depth) _ _ g (subst P h.1 e))
  where
    go : ((nat_lt 1024 h.0.depth ≡ true) × (g ≡ deep)) ⊎ ((nat_lt 1024 h.0.depth ≡ false) × (Ok (pruned_of h.0.hash h.0.depth) ≡ Err g)) → ExceedsBranch m es g
    go (inl k) = hidden_deep m es g h.0 h.1 (ltb-true 1024 h.0.depth k.0) k.1
    go (inr k) = absurd (never_excess _ g k.1)
part_fault m ih es g o l (inr a) stand e =
    in_edge m es g (go (fault (tops m [] es) _ g (sym (part_open (tops m) m es (first_alone m es o a)) ∙ e)))
  where
    edge : (t : Top) → tops m [] es ≡ Ok t
        → (edge_of m (first_key es) t ≡ Err g) ⊎ ((s : Slice) × (edge_of m (first_key es) t ≡ Ok s) × (Ok (cell_of s) ≡ Err g))
        → Exceeds m es g
    edge t k (inl f) = edge_exceeds m es t g (tops_sound Partial refl m [] es t o l a stand k) f
    edge t k (inr f) = absurd (never_excess _ g f.2)

    go : (tops m [] es ≡ Err g) ⊎ ((t : Top) × (tops m [] es ≡ Ok t) × ((edge_of m (first_key es) t >>= λ s. Ok (cell_of s)) ≡ Err g))
        → Exceeds m es g
    go (inl k) = top_exceeds m es g (ih [] es g o l a stand k)
    go (inr (t, k, f)) = edge t k (fault (edge_of m (first_key es) t) _ g f)

placed_of : (es fs : Entries) → es ≡ fs → AllPlaced es → AllPlaced fs
placed_of es fs e h = let P : Entries → Type 0 = AllPlaced in subst P e h

some_of : (e : List ℕ × Part) (es : Entries) → 0 < length (e ∷ es)
some_of e es = omega arith

not_none : (e : List ℕ × Part) (es : Entries) → e ∷ es ≢ []
not_none e es f = cc

forks_fault : (n : ℕ) → TopsFault n → (q : List ℕ) (es : Entries) (x y : List ℕ × Part) (zs os : Entries) (f : Excess)
    → es ≡ fork [] (x ∷ zs) (y ∷ os) → AreInOrder n (x ∷ zs) → AreInOrder n (y ∷ os) → AllPlaced es → AllStand Partial es
    → fork_of (tops n) n q (x ∷ zs) (y ∷ os) ≡ Err f → TopFault (suc n) q es f
forks_fault n ih q es x y zs os f e oz oo a stand k =
    go (fault (reported_below (q ++ 0 ∷ []) (part_of (tops n) n (x ∷ zs))) _ f k)
  where
    places : HasPlaces (x ∷ zs) × HasPlaces (y ∷ os)
    places = fork-places [] n (x ∷ zs) (y ∷ os) oz oo (placed_of es (fork [] (x ∷ zs) (y ∷ os)) e a)

    stand_z : AllStand Partial (x ∷ zs)
    stand_z = stand_under Partial (0 ∷ []) (x ∷ zs) (stand_before Partial (under (0 ∷ []) (x ∷ zs)) (under (1 ∷ []) (y ∷ os)) (stand_as Partial es (fork [] (x ∷ zs) (y ∷ os)) e stand))

    stand_o : AllStand Partial (y ∷ os)
    stand_o = stand_under Partial (1 ∷ []) (y ∷ os) (stand_after Partial (under (0 ∷ []) (x ∷ zs)) (under (1 ∷ []) (y ∷ os)) (stand_as Partial es (fork [] (x ∷ zs) (y ∷ os)) e stand))

    nil : (b : ℕ) → q ++ b ∷ [] ≡ (q ++ []) ++ b ∷ []
    nil b = ap (λ (l : List ℕ). l ++ b ∷ []) (sym (append-nil q))

    right : (z : Tree) → part_of (tops n) n (x ∷ zs) ≡ Ok z
        → (reported_below (q ++ 1 ∷ []) (part_of (tops n) n (y ∷ os)) ≡ Err f) ⊎ ((o : Tree) × (reported_below (q ++ 1 ∷ []) (part_of (tops n) n (y ∷ os)) ≡ Ok o) × (Ok (fork_top q z o) ≡ Err f))
        → TopFault (suc n) q es f
    right z k (inl g) =
        let b = below_fault (q ++ 1 ∷ []) (part_of (tops n) n (y ∷ os)) f g in
        let left = part_sound Partial refl n (tops_sound Partial refl n) (x ∷ zs) z oz (some_of x zs) places.0 stand_z k in
        of_right [] n (x ∷ zs) (y ∷ os) z b.0 e (omega arith) left (part_fault n ih (y ∷ os) b.0 oo (some_of y os) places.1 stand_o b.1) (b.2 ∙ ap (λ (l : List ℕ). beneath l b.0) (nil 1))
    right z k (inr g) = absurd (never_excess _ f g.2)

    ok_below : (z : Tree) → reported_below (q ++ 0 ∷ []) (part_of (tops n) n (x ∷ zs)) ≡ Ok z → part_of (tops n) n (x ∷ zs) ≡ Ok z
    ok_below z g = below_ok (q ++ 0 ∷ []) (part_of (tops n) n (x ∷ zs)) z g

    go : (reported_below (q ++ 0 ∷ []) (part_of (tops n) n (x ∷ zs)) ≡ Err f) ⊎ ((z : Tree) × (reported_below (q ++ 0 ∷ []) (part_of (tops n) n (x ∷ zs)) ≡ Ok z) × ((reported_below (q ++ 1 ∷ []) (part_of (tops n) n (y ∷ os)) >>= λ o. Ok (fork_top q z o)) ≡ Err f))
        → TopFault (suc n) q es f
    go (inl g) =
        let b = below_fault (q ++ 0 ∷ []) (part_of (tops n) n (x ∷ zs)) f g in
        of_left [] n (x ∷ zs) (y ∷ os) b.0 e (omega arith) (not_none y os) (part_fault n ih (x ∷ zs) b.0 oz (some_of x zs) places.0 stand_z b.1) (b.2 ∙ ap (λ (l : List ℕ). beneath l b.0) (nil 0))
    go (inr (z, g, k)) = right z (ok_below z g) (fault (reported_below (q ++ 1 ∷ []) (part_of (tops n) n (y ∷ os))) _ f k)

sides_fault : (n : ℕ) → TopsFault n → (q : List ℕ) (es zs os : Entries) (f : Excess)
    → es ≡ under (0 ∷ []) zs ++ under (1 ∷ []) os → AreInOrder n zs → AreInOrder n os → 0 < length es
    → AllPlaced es → AllStand Partial es → sides_of (tops n) n q zs os ≡ Err f → TopFault (suc n) q es f
sides_fault n ih q es [] [] f e oz oo l a stand k = absurd (let z = ap length e in omega (arith, l, z))
sides_fault n ih q es [] (x ∷ os) f e oz oo l a stand k =
    along n 1 q es (x ∷ os) f e
    (ih (q ++ 1 ∷ []) (x ∷ os) f oo (some_of x os) (placed-under (1 ∷ []) (x ∷ os) (placed_of es (under (1 ∷ []) (x ∷ os)) e a)) (stand_under Partial (1 ∷ []) (x ∷ os) (stand_as Partial es (under (1 ∷ []) (x ∷ os)) e stand)) k)
sides_fault n ih q es (x ∷ zs) [] f e oz oo l a stand k =
    let g : es ≡ under (0 ∷ []) (x ∷ zs) = e ∙ append-nil (under (0 ∷ []) (x ∷ zs)) in
    along n 0 q es (x ∷ zs) f g
    (ih (q ++ 0 ∷ []) (x ∷ zs) f oz (some_of x zs) (placed-under (0 ∷ []) (x ∷ zs) (placed_of es (under (0 ∷ []) (x ∷ zs)) g a)) (stand_under Partial (0 ∷ []) (x ∷ zs) (stand_as Partial es (under (0 ∷ []) (x ∷ zs)) g stand)) k)
sides_fault n ih q es (x ∷ zs) (y ∷ os) f e oz oo l a stand k = forks_fault n ih q es x y zs os f e oz oo a stand k

last_fault : TopsFault 0
last_fault q [] f o l a stand k = absurd (omega (arith, l))
last_fault q ((k, x) ∷ []) f o l a stand e = absurd (go k x o.0 a e)
  where
    go : (k : List ℕ) (x : Part) → MayStand 0 k x → AllPlaced ((k, x) ∷ []) → leaf_of q ((k, x) ∷ []) ≡ Err f → ⊥
    go [] (leaf c) s a e = never_excess (leaf_top q c) f e
    go [] (hidden h) s a e = alone-misplaced [] h a
    go (b ∷ k) (leaf c) s a e = omega (arith, s)
    go (b ∷ k) (hidden h) s a e = omega (arith, s)
last_fault q ((k, x) ∷ g ∷ es) f o l a stand e = absurd (go k x o.0 o.2)
  where
    go : (k : List ℕ) (x : Part) → MayStand 0 k x → Before k g.0 → ⊥
    go [] x s b = b
    go (c ∷ k) (leaf d) s b = omega (arith, s)
    go (c ∷ k) (hidden h) s b = omega (arith, s)

pub tops_fault : (n : ℕ) → TopsFault n
tops_fault zero = last_fault
tops_fault (suc n) = λ q es f o l a stand e.
    let c = cut-bit n es o (not_end es a) in
    let z : side 0 es ≡ c.zs = ap (side 0) c.same ∙ side_zero c.zs c.os in
    let y : side 1 es ≡ c.os = ap (side 1) c.same ∙ side_one c.zs c.os in
    sides_fault n (tops_fault n) q es c.zs c.os f c.same c.zeros c.ones l a stand ((λ i. sides_of (tops n) n q (sym z i) (sym y i)) ∙ e)
