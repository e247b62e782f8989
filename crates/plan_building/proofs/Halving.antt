-- The first edge of a dictionary is sought one bit at a time: its entries by their first bit, and what is judged of them.
use Rattle.std.proofs.Common.{◌≡◌, inl, inr, ℕ, zero, suc, ◌+◌, ◌-◌, ◌<◌, Bool, true, false, cond, nat_eq, nat_le, List, Option, Some, None, drop, slice_index, take, [], ◌∷◌, ◌++◌, length, map, Result, Ok, Err, refl, sym, ap, ◌∙◌, subst, arith, length-append}
use Rattle.std.proofs.lemmas.Bool.{eq-eqb, le-leb, lt-ltb}
use Rattle.std.proofs.lemmas.List.{append-nil}
use Rattle.bit_slice.specs.Bits.{bit_number, taken}
use Rattle.cell_nodes.specs.Constructed.{pruned_of}
use Rattle.cell_nodes.specs.Held.{Held}
use Rattle.cell_nodes.specs.declared.tree.Hidden.{Hidden}
use Rattle.cell_nodes.specs.declared.tree.Tree.{Tree}
use Rattle.hashmap_tree.specs.Entries.{Slice, cell_of, leaf, hidden, Entries, under, fork, hidden_in, pairs_in}
use Rattle.hashmap_tree.specs.Exceeds.{Excess, full, deep, first_key}
use Rattle.hashmap_tree.specs.Merged.{merged}
use Rattle.hashmap_tree.specs.MergedLaws.{length-merged, merged-parts, order-merged}
use Rattle.hashmap_tree.specs.Order.{AreInOrder}
use Rattle.hashmap_tree.specs.OrderedLaws.{Cuts, IsEnd, cut-bit, length-under}
use Rattle.hashmap_tree.specs.Placed.{AllPlaced}
use Rattle.hashmap_tree.specs.PlacedLaws.{HasPlaces, alone-misplaced, fork-places, placed-under}
use Rattle.hashmap_tree.specs.Plants.{IsHiddenAlone, leaf_of}
use Rattle.plan_reading.specs.Stops.{Stops}
use Rattle.plan_reading.specs.declared.stop.StopError.{StopError}
use Rattle.plan_reading.specs.declared.stop.StopError.TheVariants.{NoMemory, Stuck}
use Rattle.spelling.specs.Places.{Place, Spot, stuck}
use Rattle.spelling.specs.declared.Cause.TheVariants.{TooDeep}
use Rattle.building.specs.Planting.{◌>>=◌, Top, fork_top, cell_from, edge_of, fork_of, part_of, planting, reported_below, side, sides_of, tops, Planter}
use Rattle.building_laws.specs.PlantLaws.{part_open, side_one, side_zero}
use Rattle.plan_building.specs.Sides.{IsSide, items_with, judged, with_first}

-- ---- items by their first bit

pub first_none : (k : List ℕ) → (◌≡◌ {A = Option (List ℕ × List ℕ)} None (taken 1 k)) → k ≡ []
first_none [] e = refl
first_none (x ∷ k) e = absurd (go (nat_le 1 (length (x ∷ k))) (le-leb 1 (length (x ∷ k)) (omega arith)) e)
  where
    go : (t : Bool) → t ≡ true
        → (◌≡◌ {A = Option (List ℕ × List ℕ)} None (cond t (Some (take 1 (x ∷ k), drop 1 (x ∷ k))) None)) → ⊥
    go true f e = cc
    go false f e = cc

pub first_some : (k a r : List ℕ) (b : Bool) → (◌≡◌ {A = Option (List ℕ × List ℕ)} (Some (a, r)) (taken 1 k))
    → bit_number b ≡ slice_index k 0 → k ≡ bit_number b ∷ r
first_some [] a r b e i = cc
first_some (x ∷ k) a r b e i = go (nat_le 1 (length (x ∷ k))) (le-leb 1 (length (x ∷ k)) (omega arith)) e
  where
    rest_of : Option (List ℕ × List ℕ) → List ℕ
    rest_of None = []
    rest_of (Some p) = p.1

    go : (t : Bool) → t ≡ true
        → (◌≡◌ {A = Option (List ℕ × List ℕ)} (Some (a, r)) (cond t (Some (take 1 (x ∷ k), drop 1 (x ∷ k))) None))
        → x ∷ k ≡ bit_number b ∷ r
    go true f e = λ j. sym i j ∷ sym (ap rest_of e) j
    go false f e = cc

with_onto : {X : Type 0} (b : ℕ) (k : List ℕ) (x : X) (r s : List (List ℕ × X))
    → with_first b k x (r ++ s) ≡ with_first b k x r ++ s
with_onto b [] x r s = refl
with_onto {X} b (c ∷ k) x r s = go (nat_eq b c)
  where
    go : (t : Bool) → (◌≡◌ {A = List (List ℕ × X)} (cond t ((k, x) ∷ (r ++ s)) (r ++ s)) (cond t ((k, x) ∷ r) r ++ s))
    go true = refl
    go false = refl

-- an item goes to the side of its first bit
pub put_none : {X : Type 0} (b : ℕ) (k : List ℕ) (x : X) (items : List (List ℕ × X)) → k ≡ []
    → items ≡ items ++ with_first b k x []
put_none b k x items e = sym (ap (λ q. items ++ with_first b q x []) e ∙ append-nil items)

pub put_here : {X : Type 0} (b : ℕ) (k r : List ℕ) (x : X) (old new : List (List ℕ × X)) → k ≡ b ∷ r
    → new ≡ old ++ (r, x) ∷ [] → new ≡ old ++ with_first b k x []
put_here {X} b k r x old new e n =
    n ∙ sym (ap (λ q. old ++ with_first b q x []) e
    ∙ ap (λ t. old ++ cond {A = List (List ℕ × X)} t ((r, x) ∷ []) []) (eq-eqb b b refl))

pub put_other : {X : Type 0} (b d : ℕ) (k r : List ℕ) (x : X) (items : List (List ℕ × X)) → k ≡ d ∷ r
    → nat_eq b d ≡ false → items ≡ items ++ with_first b k x []
put_other {X} b d k r x items e f =
    sym (ap (λ q. items ++ with_first b q x []) e
    ∙ ap (λ t. items ++ cond {A = List (List ℕ × X)} t ((r, x) ∷ []) []) f ∙ append-nil items)

-- one item more
pub items_more : {X : Type 0} (b : ℕ) (xs : List (List ℕ × X)) (x : List ℕ × X)
    → items_with b (xs ++ x ∷ []) ≡ items_with b xs ++ with_first b x.0 x.1 []
items_more b [] x = refl
items_more b (y ∷ xs) x =
    ap (with_first b y.0 y.1) (items_more b xs x) ∙ with_onto b y.0 y.1 (items_with b xs) (with_first b x.0 x.1 [])

with_leaf : (b : ℕ) (k : List ℕ) (x : Held) (r : List (List ℕ × Held))
    → map leaf_of (with_first b k x r) ≡ with_first b k (leaf_of (k, x)).1 (map leaf_of r)
with_leaf b [] x r = refl
with_leaf b (c ∷ k) x r = go (nat_eq b c)
  where
    go : (t : Bool) → map leaf_of (cond t ((k, x) ∷ r) r) ≡ cond t (leaf_of (k, x) ∷ map leaf_of r) (map leaf_of r)
    go true = refl
    go false = refl

-- the contents of those items
pub items_leaves : (b : ℕ) (xs : List (List ℕ × Held)) → map leaf_of (items_with b xs) ≡ items_with b (map leaf_of xs)
items_leaves b [] = refl
items_leaves b (x ∷ xs) =
    with_leaf b x.0 x.1 (items_with b xs) ∙ ap (with_first b x.0 (leaf_of x).1) (items_leaves b xs)

-- ---- a side of entries that are merged

pairs_side : (b : ℕ) (es : Entries) → pairs_in (side b es) ≡ items_with b (pairs_in es)
pairs_side b [] = refl
pairs_side b (([], leaf c) ∷ es) = pairs_side b es
pairs_side b (([], hidden h) ∷ es) = pairs_side b es
pairs_side b ((d ∷ k, leaf c) ∷ es) = go (nat_eq b d) (pairs_side b es)
  where
    go : (t : Bool) → pairs_in (side b es) ≡ items_with b (pairs_in es)
        → pairs_in (cond t ((k, leaf c) ∷ side b es) (side b es))
        ≡ cond t ((k, c) ∷ items_with b (pairs_in es)) (items_with b (pairs_in es))
    go true ih = ap (λ (l : List (List ℕ × Slice)). (k, c) ∷ l) ih
    go false ih = ih
pairs_side b ((d ∷ k, hidden h) ∷ es) = go (nat_eq b d) (pairs_side b es)
  where
    go : (t : Bool) → pairs_in (side b es) ≡ items_with b (pairs_in es)
        → pairs_in (cond t ((k, hidden h) ∷ side b es) (side b es)) ≡ items_with b (pairs_in es)
    go true ih = ih
    go false ih = ih

hidden_side : (b : ℕ) (es : Entries) → hidden_in (side b es) ≡ items_with b (hidden_in es)
hidden_side b [] = refl
hidden_side b (([], leaf c) ∷ es) = hidden_side b es
hidden_side b (([], hidden h) ∷ es) = hidden_side b es
hidden_side b ((d ∷ k, hidden h) ∷ es) = go (nat_eq b d) (hidden_side b es)
  where
    go : (t : Bool) → hidden_in (side b es) ≡ items_with b (hidden_in es)
        → hidden_in (cond t ((k, hidden h) ∷ side b es) (side b es))
        ≡ cond t ((k, h) ∷ items_with b (hidden_in es)) (items_with b (hidden_in es))
    go true ih = ap (λ (l : List (List ℕ × Hidden)). (k, h) ∷ l) ih
    go false ih = ih
hidden_side b ((d ∷ k, leaf c) ∷ es) = go (nat_eq b d) (hidden_side b es)
  where
    go : (t : Bool) → hidden_in (side b es) ≡ items_with b (hidden_in es)
        → hidden_in (cond t ((k, leaf c) ∷ side b es) (side b es)) ≡ items_with b (hidden_in es)
    go true ih = ih
    go false ih = ih

side_merged : (m b : ℕ) (xs : List (List ℕ × Slice)) (us : List (List ℕ × Hidden)) → AreInOrder m (side b (merged xs us))
    → merged (items_with b xs) (items_with b us) ≡ side b (merged xs us)
side_merged m b xs us o =
    let es = merged xs us in
    let pairs = pairs_side b es ∙ ap (items_with b) (merged-parts xs us).0 in
    let others = hidden_side b es ∙ ap (items_with b) (merged-parts xs us).1 in
    sym (order-merged m (side b es) o ∙ (λ i. merged (pairs i) (others i)))

-- ---- what is judged doesn't depend on the label so far

abbrev pub then_judged : Result (Unit {0}) Place → Result (Unit {0}) Place → Result (Unit {0}) Place
then_judged (Ok x) s = s
then_judged (Err p) s = Err p

fork_judged : (h : Spot) (E : Planter) (m : ℕ) (l : List ℕ) (zs os : Entries)
    → judged h (fork_of E m l zs os) ≡ then_judged (judged h (part_of E m zs)) (judged h (part_of E m os))
fork_judged h E m l zs os = go (part_of E m zs) (part_of E m os)
  where
    go : (r s : Result Tree Excess)
        → judged h (reported_below (l ++ 0 ∷ []) r >>= λ z. reported_below (l ++ 1 ∷ []) s >>= λ o. Ok (fork_top l z o))
        ≡ then_judged (judged h r) (judged h s)
    go (Ok z) (Ok o) = refl
    go (Ok z) (Err (full k)) = refl
    go (Ok z) (Err deep) = refl
    go (Err (full k)) s = refl
    go (Err deep) s = refl

judged_label : (h : Spot) (n : ℕ) (l k : List ℕ) (es : Entries) → judged h (tops n l es) ≡ judged h (tops n k es)
judged_label h zero l k [] = refl
judged_label h zero l k ((q, leaf c) ∷ es) = refl
judged_label h zero l k ((q, hidden x) ∷ es) = refl
judged_label h (suc n) l k es = go (side 0 es) (side 1 es) (λ i j fs. judged_label h n i j fs)
  where
    go : (zs os : Entries) → ((i j : List ℕ) (fs : Entries) → judged h (tops n i fs) ≡ judged h (tops n j fs))
        → judged h (sides_of (tops n) n l zs os) ≡ judged h (sides_of (tops n) n k zs os)
    go [] os ih = ih (l ++ 1 ∷ []) (k ++ 1 ∷ []) os
    go (z ∷ zs) [] ih = ih (l ++ 0 ∷ []) (k ++ 0 ∷ []) (z ∷ zs)
    go (z ∷ zs) (o ∷ os) ih =
        fork_judged h (tops n) n l (z ∷ zs) (o ∷ os) ∙ sym (fork_judged h (tops n) n k (z ∷ zs) (o ∷ os))

on_ones : (h : Spot) (m : ℕ) (es : Entries) → side 0 es ≡ []
    → judged h (tops (suc m) [] es) ≡ judged h (tops m [] (side 1 es))
on_ones h m es e =
    ap (λ zs. judged h (sides_of (tops m) m [] zs (side 1 es))) e ∙ judged_label h m (1 ∷ []) [] (side 1 es)

on_zeros : (h : Spot) (m : ℕ) (es : Entries) → side 1 es ≡ []
    → judged h (tops (suc m) [] es) ≡ judged h (tops m [] (side 0 es))
on_zeros h m es e = ap (λ os. judged h (sides_of (tops m) m [] (side 0 es) os)) e ∙ go (side 0 es)
  where
    go : (zs : Entries) → judged h (sides_of (tops m) m [] zs []) ≡ judged h (tops m [] zs)
    go [] = judged_label h m (1 ∷ []) [] []
    go (z ∷ zs) = judged_label h m (0 ∷ []) [] (z ∷ zs)

on_both : (h : Spot) (m : ℕ) (es : Entries) → (side 0 es ≡ [] → ⊥) → (side 1 es ≡ [] → ⊥)
    → judged h (tops (suc m) [] es)
    ≡ then_judged (judged h (part_of (tops m) m (side 0 es))) (judged h (part_of (tops m) m (side 1 es)))
on_both h m es f g = go (side 0 es) (side 1 es) f g
  where
    go : (zs os : Entries) → (zs ≡ [] → ⊥) → (os ≡ [] → ⊥) → judged h (sides_of (tops m) m [] zs os)
        ≡ then_judged (judged h (part_of (tops m) m zs)) (judged h (part_of (tops m) m os))
    go [] os f g = absurd (f refl)
    go (z ∷ zs) [] f g = absurd (g refl)
    go (z ∷ zs) (o ∷ os) f g = fork_judged h (tops m) m [] (z ∷ zs) (o ∷ os)

-- where no bit is left the entry is a leaf
pub judged_end : (h : Spot) (n : ℕ) (es : Entries) → n ≡ 0 → AreInOrder n es → 0 < length es → AllPlaced es
    → judged h (tops n [] es) ≡ Ok tt
judged_end h n es e order some placed =
    let P : ℕ → Type 0 = λ m. AreInOrder m es in
    ap (λ m. judged h (tops m [] es)) e ∙ go es (subst P e order) some placed
  where
    go : (fs : Entries) → AreInOrder 0 fs → 0 < length fs → AllPlaced fs → judged h (tops 0 [] fs) ≡ Ok tt
    go [] o s p = absurd (omega (arith, s))
    go ((k, leaf c) ∷ fs) o s p = refl
    go ((k, hidden x) ∷ []) o s p = absurd (alone-misplaced k x p)
    go (([], hidden x) ∷ f ∷ fs) o s p = absurd o.2
    go ((b ∷ k, hidden x) ∷ f ∷ fs) o s p = let l = o.0 in absurd (omega (arith, l))

-- ---- the two sides

-- what holds of the sides of entries with keys of n bits
pub record Sides (n : ℕ) (es zs os : Entries) : Type 0 where
  pub zeros : AreInOrder (n - 1) zs
  pub ones : AreInOrder (n - 1) os
  pub zeros_places : HasPlaces zs
  pub ones_places : HasPlaces os
  pub zeros_placed : os ≡ [] → AllPlaced zs
  pub ones_placed : zs ≡ [] → AllPlaced os
  pub count : length zs + length os ≡ length es
  pub no_ones : (h : Spot) → os ≡ [] → judged h (tops n [] es) ≡ judged h (tops (n - 1) [] zs)
  pub no_zeros : (h : Spot) → zs ≡ [] → judged h (tops n [] es) ≡ judged h (tops (n - 1) [] os)
  pub both : (h : Spot) → (zs ≡ [] → ⊥) → (os ≡ [] → ⊥) → judged h (tops n [] es)
      ≡ then_judged (judged h (part_of (tops (n - 1)) (n - 1) zs)) (judged h (part_of (tops (n - 1)) (n - 1) os))

abbrev SidesOf : ℕ → ℕ → Entries → Entries → Entries → Type 0
SidesOf n m es zs os =
    AreInOrder m zs × AreInOrder m os × HasPlaces zs × HasPlaces os × (os ≡ [] → AllPlaced zs)
    × (zs ≡ [] → AllPlaced os) × (length zs + length os ≡ length es)

not_end : (es : Entries) → AllPlaced es → IsEnd es → ⊥
not_end es p e = let P : Entries → Type 0 = AllPlaced in alone-misplaced [] e.0 (subst P e.1 p)

only_zeros : (zs os : Entries) → os ≡ [] → AllPlaced (fork [] zs os) → AllPlaced zs
only_zeros zs os e p =
    let P : Entries → Type 0 = AllPlaced in
    placed-under (0 ∷ []) zs
    (subst P (ap (λ (l : Entries). under (0 ∷ []) zs ++ under (1 ∷ []) l) e ∙ append-nil (under (0 ∷ []) zs)) p)

only_ones : (zs os : Entries) → zs ≡ [] → AllPlaced (fork [] zs os) → AllPlaced os
only_ones zs os e p =
    let P : Entries → Type 0 = AllPlaced in
    placed-under (1 ∷ []) os (subst P (ap (λ (l : Entries). under (0 ∷ []) l ++ under (1 ∷ []) os) e) p)

sides_cut : (m : ℕ) (es : Entries) → AllPlaced es → Cuts m es → SidesOf (suc m) m es (side 0 es) (side 1 es)
sides_cut m es placed c =
    let P : Entries → Type 0 = AllPlaced in
    let p : AllPlaced (fork [] c.zs c.os) = subst P c.same placed in
    let places = fork-places [] m c.zs c.os c.zeros c.ones p in
    let count : length c.zs + length c.os ≡ length es =
    let l = length-append (under (0 ∷ []) c.zs) (under (1 ∷ []) c.os) in
    let a = length-under (0 ∷ []) c.zs in
    let b = length-under (1 ∷ []) c.os in
    let s : length es ≡ length (under (0 ∷ []) c.zs ++ under (1 ∷ []) c.os) = ap length c.same in
    omega (arith, l, a, b, s) in
    let zs : c.zs ≡ side 0 es = sym (ap (side 0) c.same ∙ side_zero c.zs c.os) in
    let os : c.os ≡ side 1 es = sym (ap (side 1) c.same ∙ side_one c.zs c.os) in
    let Q : Entries → Type 0 = λ z. SidesOf (suc m) m es z c.os in
    let R : Entries → Type 0 = λ o. SidesOf (suc m) m es (side 0 es) o in
    subst R os (subst Q zs (c.zeros, c.ones, places.0, places.1, (λ e. only_zeros c.zs c.os e p), (λ e. only_ones c.zs c.os e p), count))

sides_from : (m : ℕ) (es : Entries) → AreInOrder (suc m) es → AllPlaced es
    → SidesOf (suc m) m es (side 0 es) (side 1 es)
sides_from m es order placed = sides_cut m es placed (cut-bit m es order (not_end es placed))

pub sides : (n : ℕ) (xs : List (List ℕ × Slice)) (us : List (List ℕ × Hidden)) (ys : List (List ℕ × Slice))
    (vs : List (List ℕ × Hidden)) (zs : List (List ℕ × Slice)) (ws : List (List ℕ × Hidden)) → (n ≡ 0 → ⊥)
    → AreInOrder n (merged xs us) → AllPlaced (merged xs us) → IsSide 0 xs us ys vs → IsSide 1 xs us zs ws
    → Sides n (merged xs us) (merged ys vs) (merged zs ws)
sides zero xs us ys vs zs ws some order placed a b = absurd (some refl)
sides (suc m) xs us ys vs zs ws some order placed a b =
    let es = merged xs us in
    let s = sides_from m es order placed in
    let less : m ≡ suc m - 1 = omega arith in
    let left : side 0 es ≡ merged ys vs =
    sym (side_merged m 0 xs us s.0) ∙ (λ i. merged (sym a.0 i) (sym a.1 i)) in
    let right : side 1 es ≡ merged zs ws =
    sym (side_merged m 1 xs us s.1) ∙ (λ i. merged (sym b.0 i) (sym b.1 i)) in
    let Q : Entries → Type 0 = λ z. Sides (suc m) es z (side 1 es) in
    let R : Entries → Type 0 = λ o. Sides (suc m) es (merged ys vs) o in
    let O : Entries → ℕ → Type 0 = λ l j. AreInOrder j l in
    let zeros : AreInOrder (suc m - 1) (side 0 es) = subst (O (side 0 es)) less s.0 in
    let ones : AreInOrder (suc m - 1) (side 1 es) = subst (O (side 1 es)) less s.1 in
    subst R right (subst Q left (record {
      zeros = zeros;
      ones = ones;
      zeros_places = s.2;
      ones_places = s.3;
      zeros_placed = s.4;
      ones_placed = s.5;
      count = s.6;
      no_ones = λ h e. on_zeros h m es e ∙ ap (λ j. judged h (tops j [] (side 0 es))) less;
      no_zeros = λ h e. on_ones h m es e ∙ ap (λ j. judged h (tops j [] (side 1 es))) less;
      both = λ h f g. on_both h m es f g ∙ ap (λ j. then_judged (judged h (part_of (tops j) j (side 0 es))) (judged h (part_of (tops j) j (side 1 es)))) less;
    }))

-- ---- one part of a fork

pub not_alone : (m : ℕ) (es : Entries) → AreInOrder m es → (IsHiddenAlone es → ⊥) → (x : Hidden) (fs : Entries)
    → es ≡ ([], hidden x) ∷ fs → ⊥
not_alone m es order alone x fs e =
    let P : Entries → Type 0 = AreInOrder m in go fs (subst P e order) e
  where
    go : (gs : Entries) → AreInOrder m (([], hidden x) ∷ gs) → es ≡ ([], hidden x) ∷ gs → ⊥
    go [] o e = alone (x, e)
    go (f ∷ gs) o e = absurd o.2

pub open_places : (es : Entries) → (IsHiddenAlone es → ⊥) → HasPlaces es → AllPlaced es
open_places es alone (inl e) = absurd (alone e)
open_places es alone (inr p) = p

judged_cell : (h : Spot) (m : ℕ) (es : Entries) → judged h (cell_from m es (tops m [] es)) ≡ judged h (planting m es)
judged_cell h m es = go (tops m [] es)
  where
    edge : (r : Result Slice Excess) → judged h (r >>= λ s. Ok (cell_of s)) ≡ judged h r
    edge (Ok s) = refl
    edge (Err f) = refl

    go : (r : Result Top Excess)
        → judged h (r >>= λ top. edge_of m (first_key es) top >>= λ s. Ok (cell_of s))
        ≡ judged h (r >>= λ top. edge_of m (first_key es) top)
    go (Ok top) = edge (edge_of m (first_key es) top)
    go (Err f) = refl

pub judged_open : (h : Spot) (m : ℕ) (es : Entries) → AreInOrder m es → (IsHiddenAlone es → ⊥)
    → judged h (part_of (tops m) m es) ≡ judged h (planting m es)
judged_open h m es order alone =
    ap (judged h) (part_open (tops m) m es (not_alone m es order alone)) ∙ judged_cell h m es

pub judged_hidden : (h : Spot) (m : ℕ) (x : Hidden) → 1024 < x.depth
    → judged h (part_of (tops m) m (([], hidden x) ∷ [])) ≡ Err (stuck h TooDeep)
judged_hidden h m x l =
    ap (λ t. judged h (cond {A = Result Tree Excess} t (Err deep) (Ok (pruned_of x.hash x.depth)))) (lt-ltb 1024 x.depth l)

-- ---- whether there are entries

length_leaves : (xs : List (List ℕ × Held)) → length (map leaf_of xs) ≡ length xs
length_leaves [] = refl
length_leaves (x ∷ xs) = ap suc (length_leaves xs)

pub length_entries : (xs : List (List ℕ × Held)) (us : List (List ℕ × Hidden))
    → length (merged (map leaf_of xs) us) ≡ length xs + length us
length_entries xs us =
    let l = length-merged (map leaf_of xs) us in
    let m = length_leaves xs in omega (arith, l, m)

pub no_entries : (xs : List (List ℕ × Held)) (us : List (List ℕ × Hidden)) → (xs ≡ []) × (us ≡ [])
    → merged (map leaf_of xs) us ≡ []
no_entries xs us e = λ i. merged (map leaf_of (e.0 i)) (e.1 i)

pub some_entries : (xs : List (List ℕ × Held)) (us : List (List ℕ × Hidden)) → 0 < length xs + length us
    → merged (map leaf_of xs) us ≡ [] → ⊥
some_entries xs us l e =
    let n = length_entries xs us in
    let z : length (merged (map leaf_of xs) us) ≡ 0 = ap length e in absurd (omega (arith, l, n, z))

pub some_zeros : (n : ℕ) (xs : List (List ℕ × Held)) (us : List (List ℕ × Hidden)) (ys : List (List ℕ × Held))
    (vs : List (List ℕ × Hidden)) (os : Entries) → Sides n (merged (map leaf_of xs) us) (merged (map leaf_of ys) vs) os
    → 0 < length xs + length us → os ≡ [] → 0 < length ys + length vs
some_zeros n xs us ys vs os s l e =
    let a = length_entries xs us in
    let b = length_entries ys vs in
    let c = s.count in
    let z : length os ≡ 0 = ap length e in omega (arith, l, a, b, c, z)

pub some_ones : (n : ℕ) (xs : List (List ℕ × Held)) (us : List (List ℕ × Hidden)) (zs : Entries)
    (ys : List (List ℕ × Held)) (vs : List (List ℕ × Hidden))
    → Sides n (merged (map leaf_of xs) us) zs (merged (map leaf_of ys) vs) → 0 < length xs + length us → zs ≡ []
    → 0 < length ys + length vs
some_ones n xs us zs ys vs s l e =
    let a = length_entries xs us in
    let b = length_entries ys vs in
    let c = s.count in
    let z : length zs ≡ 0 = ap length e in omega (arith, l, a, b, c, z)

-- the sides of a half
pub half_sides : (n : ℕ) (xs : List (List ℕ × Held)) (us : List (List ℕ × Hidden)) (ys : List (List ℕ × Held))
    (vs : List (List ℕ × Hidden)) (zs : List (List ℕ × Held)) (ws : List (List ℕ × Hidden)) → (n ≡ 0 → ⊥)
    → AreInOrder n (merged (map leaf_of xs) us) → AllPlaced (merged (map leaf_of xs) us)
    → IsSide 0 (map leaf_of xs) us (map leaf_of ys) vs → IsSide 1 (map leaf_of xs) us (map leaf_of zs) ws
    → Sides n (merged (map leaf_of xs) us) (merged (map leaf_of ys) vs) (merged (map leaf_of zs) ws)
half_sides n xs us ys vs zs ws = sides n (map leaf_of xs) us (map leaf_of ys) vs (map leaf_of zs) ws

-- ---- one part after the other

pub stops_first : (h : Spot) (e : StopError) (r s : Result (Unit {0}) Place) → Stops h e r → Stops h e (then_judged r s)
stops_first h (Stuck p) r s i = ap (λ z. then_judged z s) i
stops_first h NoMemory r s i = tt

pub then_second : (r s : Result (Unit {0}) Place) (x : Unit {0}) → r ≡ Ok x → then_judged r s ≡ s
then_second r s x e = ap (λ z. then_judged z s) e

-- one item more of one side
pub side_step : {X : Type 0} (b : ℕ) (xs : List (List ℕ × X)) (k : List ℕ) (x : X) (old new : List (List ℕ × X))
    → old ≡ items_with b xs → new ≡ old ++ with_first b k x [] → new ≡ items_with b (xs ++ (k, x) ∷ [])
side_step b xs k x old new e n = n ∙ ap (λ l. l ++ with_first b k x []) e ∙ sym (items_more b xs (k, x))

map_same : {X : Type 0} (xs : List X) → map (λ (x : X). x) xs ≡ xs
map_same [] = refl
map_same {X} (x ∷ xs) = ap (λ (l : List X). x ∷ l) (map_same xs)

pub side_all : {X : Type 0} (b : ℕ) (xs ys these : List (List ℕ × X)) → these ≡ items_with b xs
    → map (λ (x : List ℕ × X). x) xs ≡ ys → these ≡ items_with b ys
side_all b xs ys these e f = e ∙ ap (items_with b) (sym (map_same xs) ∙ f)

-- ---- the one hidden part of a half, or its places

pub half_open : (xs zs : List (List ℕ × Held)) (us vs : List (List ℕ × Hidden)) → zs ≡ xs → vs ≡ us
    → (IsHiddenAlone (merged (map leaf_of zs) vs) → ⊥) → IsHiddenAlone (merged (map leaf_of xs) us) → ⊥
half_open xs zs us vs e f alone =
    let P : List (List ℕ × Held) → List (List ℕ × Hidden) → Type 0 = λ l m. IsHiddenAlone (merged (map leaf_of l) m) → ⊥ in
    let Q : List (List ℕ × Held) → Type 0 = λ l. P l us in
    subst Q e (subst (P zs) f alone)

pub half_placed : (xs : List (List ℕ × Held)) (us vs : List (List ℕ × Hidden)) → vs ≡ us
    → AllPlaced (merged (map leaf_of xs) us) → AllPlaced (merged (map leaf_of xs) vs)
half_placed xs us vs e p =
    let P : List (List ℕ × Hidden) → Type 0 = λ l. AllPlaced (merged (map leaf_of xs) l) in subst P (sym e) p

pub half_alone : (xs zs : List (List ℕ × Held)) (us vs : List (List ℕ × Hidden)) (h : Hidden) → zs ≡ xs → vs ≡ us
    → (map leaf_of zs ≡ []) × (vs ≡ ([], h) ∷ []) → merged (map leaf_of xs) us ≡ ([], hidden h) ∷ []
half_alone xs zs us vs h e f alone =
    sym (λ i. merged (map leaf_of (e i)) (f i)) ∙ (λ i. merged (alone.0 i) (alone.1 i))

pub part_alone : (h : Spot) (m : ℕ) (es : Entries) (x : Hidden) → es ≡ ([], hidden x) ∷ []
    → judged h (part_of (tops m) m es) ≡ judged h (part_of (tops m) m (([], hidden x) ∷ []))
part_alone h m es x e = ap (λ l. judged h (part_of (tops m) m l)) e

-- the entries of a half with these hidden parts
pub half_judged : (h : Spot) (m : ℕ) (xs : List (List ℕ × Held)) (us vs : List (List ℕ × Hidden)) → vs ≡ us
    → AreInOrder m (merged (map leaf_of xs) us) → (IsHiddenAlone (merged (map leaf_of xs) us) → ⊥)
    → judged h (part_of (tops m) m (merged (map leaf_of xs) us)) ≡ judged h (planting m (merged (map leaf_of xs) vs))
half_judged h m xs us vs e order alone =
    judged_open h m (merged (map leaf_of xs) us) order alone
    ∙ ap (λ l. judged h (planting m (merged (map leaf_of xs) l))) (sym e)
