-- What is planted is the tree of the entries, within the limits of cells.
use Rattle.std.proofs.Common.{◌≡◌, ◌<◌, ◌≤◌, inl, inr, ℕ, zero, suc, ◌+◌, Bool, true, false, ◌||◌, cond, nat_lt, List, [], ◌∷◌, ◌++◌, length, Some, Result, Ok, Err, refl, sym, ap, ◌∙◌, subst, arith, lit<, append_assoc}
use Rattle.std.proofs.lemmas.Bool.{ltb-false}
use Rattle.std.proofs.lemmas.List.{append-nil}
use Rattle.bit_slice.specs.Bits.{AreBits, IsBit}
use Rattle.cell_nodes.specs.Constructed.{pruned_of}
use Rattle.cell_nodes.specs.Good.{IsGood, none, more}
use Rattle.cell_nodes.specs.declared.tree.Hidden.{Hidden}
use Rattle.cell_nodes.specs.declared.tree.Mode.{Mode}
use Rattle.cell_nodes.specs.declared.tree.Mode.TheVariants.{Partial}
use Rattle.cell_nodes.specs.declared.tree.Tree.{Tree}
use Rattle.cell_nodes.specs.Tree.{deepest}
use Rattle.hashmap_labels.specs.Labels.{IsLabel}
use Rattle.hashmap_labels.specs.SpellingLaws.{has_spelling, label_bits}
use Rattle.hashmap_labels.specs.declared.forms.Forms.{Forms}
use Rattle.hashmap_labels.specs.declared.forms.Forms.TheVariants.{Required}
use Rattle.hashmap_tree.specs.Dict.{forms_of, unseen, DictTree, one, two, Branch, open_edge, hidden_edge}
use Rattle.hashmap_tree.specs.Entries.{Slice, cell_of, Part, leaf, hidden, Entries, under, fork}
use Rattle.hashmap_tree.specs.Exceeds.{Excess, first_key}
use Rattle.hashmap_tree.specs.Order.{Before, MayStand, AreInOrder}
use Rattle.hashmap_tree.specs.OrderedLaws.{order-after, cut-bit, IsEnd, under-fork}
use Rattle.hashmap_tree.specs.Placed.{AllPlaced}
use Rattle.hashmap_tree.specs.PlacedLaws.{HasPlaces, placed-under, fork-places, alone-misplaced}
use Rattle.hashmap_tree.specs.PrunedLaws.{hides-stored}
use Rattle.building.specs.Buildable.{IsHash}
use Rattle.building.specs.Growing.{is_deep}
use Rattle.building.specs.Planting.{◌>>=◌, labeled, Top, leaf_top, fork_top, content_of, has_deep, edge_of, side, reported_below, cell_from, part_of, sides_of, leaf_of, tops}
use Rattle.building_laws.specs.GoesLaws.{held_good}
use Rattle.building_laws.specs.MoveLaws.{IsHeld}
use Rattle.building_laws.specs.PlantLaws.{label_is, side_zero, side_one, part_open}
use Rattle.building_laws.specs.RangeLaws.{pruned_good, can_hide}

-- contents that can stand in cells, and hidden parts that the mode admits
abbrev pub AllStand : Mode → Entries → Type 0
AllStand mode [] = Unit {0}
AllStand mode ((k, leaf c) ∷ es) = IsHeld c × AllStand mode es
AllStand mode ((k, hidden h) ∷ es) = ((mode ≡ Partial) × IsHash h) × AllStand mode es

pub stand_before : (mode : Mode) (ds fs : Entries) → AllStand mode (ds ++ fs) → AllStand mode ds
stand_before mode [] fs h = tt
stand_before mode ((k, leaf c) ∷ ds) fs h = (h.0, stand_before mode ds fs h.1)
stand_before mode ((k, hidden x) ∷ ds) fs h = (h.0, stand_before mode ds fs h.1)

pub stand_after : (mode : Mode) (ds fs : Entries) → AllStand mode (ds ++ fs) → AllStand mode fs
stand_after mode [] fs h = h
stand_after mode ((k, leaf c) ∷ ds) fs h = stand_after mode ds fs h.1
stand_after mode ((k, hidden x) ∷ ds) fs h = stand_after mode ds fs h.1

pub stand_under : (mode : Mode) (p : List ℕ) (es : Entries) → AllStand mode (under p es) → AllStand mode es
stand_under mode p [] h = tt
stand_under mode p ((k, leaf c) ∷ es) h = (h.0, stand_under mode p es h.1)
stand_under mode p ((k, hidden x) ∷ es) h = (h.0, stand_under mode p es h.1)

pub stand_as : (mode : Mode) (es fs : Entries) → es ≡ fs → AllStand mode es → AllStand mode fs
stand_as mode es fs e h = let P : Entries → Type 0 = λ l. AllStand mode l in subst P e h

-- the parts of an edge that are built
pub data TopSound (mode : Mode) (n : ℕ) (q : List ℕ) (es : Entries) (top : Top) : Type 0 where
  of_leaf : (k : List ℕ) (c : Slice) → es ≡ (k, leaf c) ∷ [] → length k ≡ n → AreBits k → top ≡ leaf_top (q ++ k) c
      → TopSound mode n q es top
  of_fork : (p : List ℕ) (m : ℕ) (zs os : Entries) (z o : Tree) → es ≡ fork p zs os → n ≡ length p + suc m → AreBits p
      → Branch mode m zs z → Branch mode m os o → IsGood z → IsGood o → top ≡ fork_top (q ++ p) z o
      → TopSound mode n q es top

-- one bit more, which all keys have
along : (mode : Mode) (n b : ℕ) (q : List ℕ) (es fs : Entries) (top : Top) → IsBit b → es ≡ under (b ∷ []) fs
    → TopSound mode n (q ++ b ∷ []) fs top → TopSound mode (suc n) q es top
along mode n b q es fs top bit e (of_leaf k c same long bits is) =
    of_leaf (b ∷ k) c (e ∙ ap (under (b ∷ [])) same) (ap suc long) (bit, bits) (is ∙ ap (λ (l : List ℕ). leaf_top l c) (append_assoc q (b ∷ []) k))
along mode n b q es fs top bit e (of_fork p m zs os z o same long bits bz bo gz go is) =
    of_fork (b ∷ p) m zs os z o (e ∙ ap (under (b ∷ [])) same ∙ under-fork (b ∷ []) p zs os) (let h = long in omega (arith, h)) (bit, bits) bz bo gz go (is ∙ ap (λ (l : List ℕ). fork_top l z o) (append_assoc q (b ∷ []) p))

-- ---- an edge

pub label_made : (mode : Mode) → forms_of mode ≡ Required → (n : ℕ) (k rest : List ℕ) → AreBits k → length k ≤ n
    → IsLabel (forms_of mode) n k (labeled n k rest) rest
label_made mode req n k rest a l =
    let r = has_spelling n k rest a l in
    let P : List ℕ → Type 0 = λ s. IsLabel Required n k s rest in
    let Q : Forms → Type 0 = λ f. IsLabel f n k (labeled n k rest) rest in
    subst Q (sym req) (subst P (label_is Partial refl n k r.0 rest r.1) r.1)

guard : {A : Type 0} (b : Bool) (w : Excess) (r : Result A Excess) (y : A) → cond b (Err w) r ≡ Ok y
    → (b ≡ false) × (r ≡ Ok y)
guard true w r y e = cc
guard false w r y e = (refl, e)

pub bind_is : {A B : Type 0} (r : Result A Excess) (f : A → Result B Excess) (y : B) → (r >>= f) ≡ Ok y
    → (x : A) × (r ≡ Ok x) × (f x ≡ Ok y)
bind_is (Ok a) f y e = (a, refl, e)
bind_is (Err p) f y e = cc

pub neither : (a b : Bool) → (a || b) ≡ false → (a ≡ false) × (b ≡ false)
neither true b e = cc
neither false b e = (refl, e)

pub low_of : (c : Tree) → is_deep c ≡ false → deepest c < 1024
low_of c e = let l = ltb-false 1023 (deepest c) e in omega (arith, l)

slice_one : (a b : Slice) → (◌≡◌ {A = Result Slice Excess} (Ok a) (Ok b)) → a ≡ b
slice_one a b e = cc

-- what an edge gives
pub record WasEdge (n : ℕ) (top : Top) (s : Slice) : Type 0 where
  pub is : content_of n top ≡ s
  pub short : length (content_of n top).bits ≤ 1023
  pub flat : has_deep top ≡ false

pub was_edge : (n : ℕ) (key : List ℕ) (top : Top) (s : Slice) → edge_of n key top ≡ Ok s → WasEdge n top s
was_edge n key top s e =
    let one = guard (nat_lt 1023 (length (content_of n top).bits)) _ _ s e in
    let two = guard (has_deep top) _ _ s one.1 in
    record { is = slice_one (content_of n top) s two.1; short = ltb-false 1023 (length (content_of n top).bits) one.0; flat = two.0 }

pub was_as : (n : ℕ) (top other : Top) (s : Slice) → top ≡ other → WasEdge n top s → WasEdge n other s
was_as n top other s e w = let P : Top → Type 0 = λ t. WasEdge n t s in subst P e w

held_as : (a b : Slice) → a ≡ b → IsHeld a → IsHeld b
held_as a b e h = let P : Slice → Type 0 = IsHeld in subst P e h

pub leaf_held : (n : ℕ) (k : List ℕ) (c : Slice) → AreBits (labeled n k c.bits) → length (labeled n k c.bits) ≤ 1023 → IsHeld c
    → IsHeld (content_of n (leaf_top k c))
leaf_held n k c a short h =
    record { within = record { short = short; few = h.within.few; good = h.within.good; below = h.within.below }; bits = a }

pub fork_held : (n : ℕ) (p : List ℕ) (z o : Tree) → AreBits (labeled n p []) → length (labeled n p []) ≤ 1023 → IsGood z
    → IsGood o → deepest z < 1024 → deepest o < 1024 → IsHeld (content_of n (fork_top p z o))
fork_held n p z o a short gz go lz lo =
    record { within = record { short = short; few = omega arith; good = more z (o ∷ []) gz (more o [] go none); below = (lz, (lo, tt)) }; bits = a }

pub top_tree : (mode : Mode) → forms_of mode ≡ Required → (n : ℕ) (key : List ℕ) (es : Entries) (top : Top) (s : Slice)
    → AllStand mode es → TopSound mode n [] es top → edge_of n key top ≡ Ok s → DictTree mode n es s × IsHeld s
top_tree mode req n key es top s stand (of_leaf k c same long bits is) e =
    let w = was_as n top (leaf_top k c) s is (was_edge n key top s e) in
    let label = label_made mode req n k c.bits bits (omega (arith, long)) in
    let held = (stand_as mode es ((k, leaf c) ∷ []) same stand).0 in
    let D : Slice → Type 0 = λ z. DictTree mode n es z in
    let all = (label_bits (forms_of mode) n k (labeled n k c.bits) c.bits label).1 (bits, held.bits) in
    (subst D w.is (one mode n es (content_of n (leaf_top k c)) k c same long label refl), held_as (content_of n (leaf_top k c)) s w.is (leaf_held n k c all w.short held))
top_tree mode req n key es top s stand (of_fork p m zs os z o same long bits bz bo gz go is) e =
    let w = was_as n top (fork_top p z o) s is (was_edge n key top s e) in
    let label = label_made mode req n p [] bits (omega (arith, long)) in
    let flat = neither (is_deep z) (is_deep o) w.flat in
    let D : Slice → Type 0 = λ y. DictTree mode n es y in
    let all = (label_bits (forms_of mode) n p (labeled n p []) [] label).1 (bits, tt) in
    (subst D w.is (two mode n es (content_of n (fork_top p z o)) p m zs os z o same long label refl bz bo), held_as (content_of n (fork_top p z o)) s w.is (fork_held n p z o all w.short gz go (low_of z flat.0) (low_of o flat.1)))

-- ---- the parts of a fork

tree_one : (a b : Tree) → (◌≡◌ {A = Result Tree Excess} (Ok a) (Ok b)) → a ≡ b
tree_one a b e = cc

pub first_alone : (m : ℕ) (es : Entries) → AreInOrder m es → AllPlaced es → (h : Hidden) (fs : Entries)
    → es ≡ ([], hidden h) ∷ fs → ⊥
first_alone m es o a h fs e =
    let O : Entries → Type 0 = AreInOrder m in
    let A : Entries → Type 0 = AllPlaced in
    go fs (subst O e o) (subst A e a)
  where
    go : (fs : Entries) → AreInOrder m (([], hidden h) ∷ fs) → AllPlaced (([], hidden h) ∷ fs) → ⊥
    go [] o a = alone-misplaced [] h a
    go (f ∷ fs) o a = order-after m ([], hidden h) (f ∷ fs) o

-- what planting says of the entries of an edge
abbrev pub TopsSound : Mode → ℕ → Type 0
TopsSound mode n =
    (q : List ℕ) (es : Entries) (top : Top) → AreInOrder n es → 0 < length es → AllPlaced es → AllStand mode es
    → tops n q es ≡ Ok top → TopSound mode n q es top

unseen_in : (mode : Mode) (h : Hidden) → mode ≡ Partial → IsHash h → h.depth ≤ 1024
    → unseen mode (pruned_of h.hash h.depth) ≡ Some h
unseen_in mode h e hash low =
    let P : Mode → Type 0 = λ m. unseen m (pruned_of h.hash h.depth) ≡ Some h in
    subst P (sym e) (hides-stored h (can_hide h hash low))

pub part_sound : (mode : Mode) → forms_of mode ≡ Required → (m : ℕ) → TopsSound mode m → (es : Entries) (c : Tree)
    → AreInOrder m es → 0 < length es → HasPlaces es → AllStand mode es → part_of (tops m) m es ≡ Ok c
    → Branch mode m es c × IsGood c
part_sound mode req m ih es c o l (inl h) stand e =
    let P : Entries → Type 0 = λ z. part_of (tops m) m z ≡ Ok c in
    let g = guard (nat_lt 1024 h.0.depth) _ _ c (subst P h.1 e) in
    let low : h.0.depth ≤ 1024 = ltb-false 1024 h.0.depth g.0 in
    let s = (stand_as mode es (([], hidden h.0) ∷ []) h.1 stand).0 in
    let same = tree_one (pruned_of h.0.hash h.0.depth) c g.1 in
    let B : Tree → Type 0 = λ t. Branch mode m es t × IsGood t in
    subst B same (hidden_edge mode m es (pruned_of h.0.hash h.0.depth) h.0 (unseen_in mode h.0 s.0 s.1 low) h.1, pruned_good h.0 s.1 low)
part_sound mode req m ih es c o l (inr a) stand e =
    let opened : cell_from m es (tops m [] es) ≡ Ok c = sym (part_open (tops m) m es (first_alone m es o a)) ∙ e in
    let t = bind_is (tops m [] es) _ c opened in
    let s = bind_is (edge_of m (first_key es) t.0) _ c t.2 in
    let k = top_tree mode req m (first_key es) es t.0 s.0 stand (ih [] es t.0 o l a stand t.1) s.1 in
    let same = tree_one (cell_of s.0) c s.2 in
    let B : Tree → Type 0 = λ t. Branch mode m es t × IsGood t in
    subst B same (open_edge mode m es (cell_of s.0) s.0 refl k.0, held_good s.0 k.1)

pub below_ok : {A : Type 0} (p : List ℕ) (r : Result A Excess) (x : A) → reported_below p r ≡ Ok x → r ≡ Ok x
below_ok p (Ok y) x e = ap Ok (one y x e)
  where
    one : {A : Type 0} (a b : A) → (◌≡◌ {A = Result A Excess} (Ok a) (Ok b)) → a ≡ b
    one a b e = cc
below_ok p (Err f) x e = cc

top_one : (a b : Top) → (◌≡◌ {A = Result Top Excess} (Ok a) (Ok b)) → b ≡ a
top_one a b e = cc

placed_of : (es fs : Entries) → es ≡ fs → AllPlaced es → AllPlaced fs
placed_of es fs e h = let P : Entries → Type 0 = AllPlaced in subst P e h

some_of : (e : List ℕ × Part) (es : Entries) → 0 < length (e ∷ es)
some_of e es = omega arith

sides_sound : (mode : Mode) → forms_of mode ≡ Required → (n : ℕ) → TopsSound mode n → (q : List ℕ) (es zs os : Entries)
    (top : Top) → es ≡ under (0 ∷ []) zs ++ under (1 ∷ []) os → AreInOrder n zs → AreInOrder n os → 0 < length es
    → AllPlaced es → AllStand mode es → sides_of (tops n) n q zs os ≡ Ok top → TopSound mode (suc n) q es top
sides_sound mode req n ih q es [] [] top e oz oo l a stand k = absurd (let z = ap length e in omega (arith, l, z))
sides_sound mode req n ih q es [] (x ∷ os) top e oz oo l a stand k =
    along mode n 1 q es (x ∷ os) top (lit< tt) e
    (ih (q ++ 1 ∷ []) (x ∷ os) top oo (some_of x os) (placed-under (1 ∷ []) (x ∷ os) (placed_of es (under (1 ∷ []) (x ∷ os)) e a)) (stand_under mode (1 ∷ []) (x ∷ os) (stand_as mode es (under (1 ∷ []) (x ∷ os)) e stand)) k)
sides_sound mode req n ih q es (x ∷ zs) [] top e oz oo l a stand k =
    let f : es ≡ under (0 ∷ []) (x ∷ zs) = e ∙ append-nil (under (0 ∷ []) (x ∷ zs)) in
    along mode n 0 q es (x ∷ zs) top (lit< tt) f
    (ih (q ++ 0 ∷ []) (x ∷ zs) top oz (some_of x zs) (placed-under (0 ∷ []) (x ∷ zs) (placed_of es (under (0 ∷ []) (x ∷ zs)) f a)) (stand_under mode (0 ∷ []) (x ∷ zs) (stand_as mode es (under (0 ∷ []) (x ∷ zs)) f stand)) k)
sides_sound mode req n ih q es (x ∷ zs) (y ∷ os) top e oz oo l a stand k =
    let z = bind_is (reported_below (q ++ 0 ∷ []) (part_of (tops n) n (x ∷ zs))) _ top k in
    let o = bind_is (reported_below (q ++ 1 ∷ []) (part_of (tops n) n (y ∷ os))) _ top z.2 in
    let places = fork-places [] n (x ∷ zs) (y ∷ os) oz oo (placed_of es (fork [] (x ∷ zs) (y ∷ os)) e a) in
    let stands = stand_as mode es (fork [] (x ∷ zs) (y ∷ os)) e stand in
    let left = part_sound mode req n ih (x ∷ zs) z.0 oz (some_of x zs) places.0 (stand_under mode (0 ∷ []) (x ∷ zs) (stand_before mode (under (0 ∷ []) (x ∷ zs)) (under (1 ∷ []) (y ∷ os)) stands)) (below_ok (q ++ 0 ∷ []) _ z.0 z.1) in
    let right = part_sound mode req n ih (y ∷ os) o.0 oo (some_of y os) places.1 (stand_under mode (1 ∷ []) (y ∷ os) (stand_after mode (under (0 ∷ []) (x ∷ zs)) (under (1 ∷ []) (y ∷ os)) stands)) (below_ok (q ++ 1 ∷ []) _ o.0 o.1) in
    of_fork [] n (x ∷ zs) (y ∷ os) z.0 o.0 e (omega arith) tt left.0 right.0 left.1 right.1 (top_one (fork_top q z.0 o.0) top o.2 ∙ ap (λ (t : List ℕ). fork_top t z.0 o.0) (sym (append-nil q)))

last_sound : (mode : Mode) → TopsSound mode 0
last_sound mode q [] top o l a stand k = absurd (omega (arith, l))
last_sound mode q ((k, x) ∷ []) top o l a stand e = go k x o.0 a e
  where
    go : (k : List ℕ) (x : Part) → MayStand 0 k x → AllPlaced ((k, x) ∷ []) → leaf_of q ((k, x) ∷ []) ≡ Ok top
        → TopSound mode 0 q ((k, x) ∷ []) top
    go [] (leaf c) s a e = of_leaf [] c refl refl tt (top_one (leaf_top q c) top e ∙ ap (λ (t : List ℕ). leaf_top t c) (sym (append-nil q)))
    go [] (hidden h) s a e = absurd (alone-misplaced [] h a)
    go (b ∷ k) (leaf c) s a e = absurd (omega (arith, s))
    go (b ∷ k) (hidden h) s a e = absurd (omega (arith, s))
last_sound mode q ((k, x) ∷ g ∷ es) top o l a stand e = absurd (go k x o.0 o.2)
  where
    go : (k : List ℕ) (x : Part) → MayStand 0 k x → Before k g.0 → ⊥
    go [] x s b = b
    go (c ∷ k) (leaf d) s b = omega (arith, s)
    go (c ∷ k) (hidden h) s b = omega (arith, s)

pub not_end : (es : Entries) → AllPlaced es → IsEnd es → ⊥
not_end es a h = let P : Entries → Type 0 = AllPlaced in alone-misplaced [] h.0 (subst P h.1 a)

pub tops_sound : (mode : Mode) → forms_of mode ≡ Required → (n : ℕ) → TopsSound mode n
tops_sound mode req zero = last_sound mode
tops_sound mode req (suc n) = λ q es top o l a stand e.
    let c = cut-bit n es o (not_end es a) in
    let z : side 0 es ≡ c.zs = ap (side 0) c.same ∙ side_zero c.zs c.os in
    let y : side 1 es ≡ c.os = ap (side 1) c.same ∙ side_one c.zs c.os in
    sides_sound mode req n (tops_sound mode req n) q es c.zs c.os top c.same c.zeros c.ones l a stand ((λ i. sides_of (tops n) n q (sym z i) (sym y i)) ∙ e)
