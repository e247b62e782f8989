-- Where a map doesn't fit, the plain builder stops at that place.
use Rattle.std.proofs.Common.{◌≡◌, ◌<◌, ◌≤◌, ◌⊎◌, inl, inr, ℕ, suc, ◌+◌, Bool, true, false, ◌||◌, cond, nat_lt, List, [], ◌∷◌, ◌++◌, length, Result, Ok, Err, refl, sym, ap, ◌∙◌, subst, arith, length-append}
use Rattle.std.proofs.lemmas.Bool.{lt-ltb, le-ltb, ltb-true}
use Rattle.bit_slice.specs.Bits.{AreBits}
use Rattle.cell_nodes.specs.Tree.{deepest}
use Rattle.cell_nodes.specs.declared.tree.Hidden.{Hidden}
use Rattle.cell_nodes.specs.declared.tree.Mode.TheVariants.{Partial}
use Rattle.cell_nodes.specs.declared.tree.Tree.{Tree}
use Rattle.hashmap_tree.specs.Entries.{Slice, cell_of, Part, leaf, hidden, Entries, under, fork}
use Rattle.hashmap_tree.specs.Exceeds.{Excess, full, deep, beneath, first_key, label_size, IsBuilt, Exceeds, leaf_full, in_zeros, in_ones, fork_full, fork_deep, ExceedsBranch, in_edge, hidden_deep}
use Rattle.hashmap_tree.specs.ExceedsLaws.{label-long, some-of, branch-some}
use Rattle.hashmap_tree.specs.OnceLaws.{Some_entry, some_below}
use Rattle.hashmap_tree.specs.Order.{MayStand, AreInOrder}
use Rattle.hashmap_tree.specs.OrderedLaws.{StartAfter, order-cons, order-stand, order-bits, order-after, order-rest, before-under}
use Rattle.building.specs.Growing.{is_deep}
use Rattle.building.specs.Planting.{◌>>=◌, labeled, Top, leaf_top, fork_top, content_of, has_deep, edge_of, reported_below, cell_from, part_of, tops}
use Rattle.building.specs.Unfit.{ExceedsBelow, in_left, in_right, IsTop, of_leaf, of_fork, HasDeep}
use Rattle.building_laws.specs.MoveLaws.{bits_before, bits_after}
use Rattle.building_laws.specs.PlantLaws.{bind_to, AreHashed, hashed_on, hashed_zeros, hashed_ones, leaf_along, fork_along, fork_on, part_open, branch_planted}
use Rattle.building_laws.specs.PlantSoundLaws.{label_made}

-- ---- the order of the parts of a fork

order_first : (n : ℕ) (ds fs : Entries) → AreInOrder n (ds ++ fs) → AreInOrder n ds
order_first n [] fs o = tt
order_first n (d ∷ ds) fs o =
    order-cons n d ds (order-stand n d (ds ++ fs) o) (order-bits n d (ds ++ fs) o) (after ds (order-after n d (ds ++ fs) o)) (order_first n ds fs (order-rest n d (ds ++ fs) o))
  where
    after : (ds : Entries) → StartAfter d.0 (ds ++ fs) → StartAfter d.0 ds
    after [] s = tt
    after (c ∷ ds) s = s

order_last : (n : ℕ) (ds fs : Entries) → AreInOrder n (ds ++ fs) → AreInOrder n fs
order_last n [] fs o = o
order_last n (d ∷ ds) fs o = order_last n ds fs (order-rest n d (ds ++ fs) o)

stand_less : (n m : ℕ) (q k : List ℕ) (x : Part) → n ≡ length q + m → MayStand n (q ++ k) x → MayStand m k x
stand_less n m q k (leaf c) e s = omega (arith, e, s, length-append q k)
stand_less n m q k (hidden h) e s = omega (arith, e, s, length-append q k)

order_less : (n m : ℕ) (q : List ℕ) (es : Entries) → n ≡ length q + m → AreInOrder n (under q es) → AreInOrder m es
order_less n m q [] e o = tt
order_less n m q (d ∷ es) e o =
    let D : List ℕ × Part = (q ++ d.0, d.1) in
    order-cons m d es (stand_less n m q d.0 d.1 e (order-stand n D (under q es) o)) (bits_after q d.0 (order-bits n D (under q es) o)) (after es (order-after n D (under q es) o)) (order_less n m q es e (order-rest n D (under q es) o))
  where
    after : (es : Entries) → StartAfter (q ++ d.0) (under q es) → StartAfter d.0 es
    after [] s = tt
    after (c ∷ es) s = before-under q d.0 c.0 s

order_zeros : (n m : ℕ) (p : List ℕ) (zs os : Entries) → n ≡ length p + suc m → AreInOrder n (fork p zs os) → AreInOrder m zs
order_zeros n m p zs os e o =
    let k = length-append p (0 ∷ []) in
    order_less n m (p ++ 0 ∷ []) zs (omega (arith, e, k)) (order_first n (under (p ++ 0 ∷ []) zs) (under (p ++ 1 ∷ []) os) o)

order_ones : (n m : ℕ) (p : List ℕ) (zs os : Entries) → n ≡ length p + suc m → AreInOrder n (fork p zs os) → AreInOrder m os
order_ones n m p zs os e o =
    let k = length-append p (1 ∷ []) in
    order_less n m (p ++ 1 ∷ []) os (omega (arith, e, k)) (order_last n (under (p ++ 0 ∷ []) zs) (under (p ++ 1 ∷ []) os) o)

order_label : (n : ℕ) (p : List ℕ) (zs os : Entries) → Some_entry zs → AreInOrder n (fork p zs os) → AreBits p
order_label n p zs os s o =
    let O : Entries → Type 0 = λ l. AreInOrder n (under (p ++ 0 ∷ []) l ++ under (p ++ 1 ∷ []) os) in
    let k = order-bits n (p ++ 0 ∷ [] ++ s.0.0, s.0.1) (under (p ++ 0 ∷ []) s.1 ++ under (p ++ 1 ∷ []) os) (subst O s.2 o) in
    bits_before p (0 ∷ []) (bits_before (p ++ 0 ∷ []) s.0.0 k)

order_on : (n : ℕ) (es fs : Entries) → es ≡ fs → AreInOrder n es → AreInOrder n fs
order_on n es fs e o = let P : Entries → Type 0 = AreInOrder n in subst P e o

-- ---- steps

when_true : {A : Type 0} (b : Bool) (x y : A) → b ≡ true → cond b x y ≡ x
when_true true x y e = refl
when_true false x y e = cc

when_false : {A : Type 0} (b : Bool) (x y : A) → b ≡ false → cond b x y ≡ y
when_false true x y e = cc
when_false false x y e = refl

or_left : (a b : Bool) → a ≡ true → (a || b) ≡ true
or_left true b e = refl
or_left false b e = cc

or_right : (a b : Bool) → b ≡ true → (a || b) ≡ true
or_right true b e = refl
or_right false b e = e

deep_is : (c : Tree) → deepest c ≡ 1024 → is_deep c ≡ true
deep_is c d = lt-ltb 1023 (deepest c) (omega (arith, d))

pub label_length : (n : ℕ) (k rest : List ℕ) → AreBits k → length k ≤ n
    → length (labeled n k rest) ≡ label_size n k + length rest
label_length n k rest a l = label-long n k (labeled n k rest) rest (label_made Partial refl n k rest a l)

pub edge_full : (n : ℕ) (key : List ℕ) (top : Top) → 1023 < length (content_of n top).bits → edge_of n key top ≡ Err (full key)
edge_full n key top l = when_true (nat_lt 1023 (length (content_of n top).bits)) _ _ (lt-ltb 1023 (length (content_of n top).bits) l)

pub edge_deep : (n : ℕ) (key : List ℕ) (top : Top) → length (content_of n top).bits ≤ 1023 → has_deep top ≡ true
    → edge_of n key top ≡ Err deep
edge_deep n key top l d =
    when_false (nat_lt 1023 (length (content_of n top).bits)) _ _ (le-ltb 1023 (length (content_of n top).bits) l)
    ∙ when_true (has_deep top) _ _ d

-- the fork whose parts are built
fork_tops : (n : ℕ) (es : Entries) (p : List ℕ) (m : ℕ) (zs os : Entries) (z o : Tree) → AreInOrder n es
    → AreHashed Partial es → es ≡ fork p zs os → n ≡ length p + suc m → IsBuilt m zs z → IsBuilt m os o
    → tops n [] es ≡ Ok (fork_top p z o)
fork_tops n es p m zs os z o order hashed same len bz bo =
    let some_z = some_below Partial m zs z bz.0 in
    let some_o = some_below Partial m os o bo.0 in
    let bits = order_label n p zs os some_z (order_on n es (fork p zs os) same order) in
    let h = hashed_on Partial es (fork p zs os) same hashed in
    ap (λ k. tops k [] es) len ∙ ap (tops (length p + suc m) []) same ∙ fork_along p [] m zs os bits some_z some_o
    ∙ fork_on m p zs os z o (branch_planted Partial refl m zs z bz.0 bz.1 (hashed_zeros Partial p zs os h)) (branch_planted Partial refl m os o bo.0 bo.1 (hashed_ones Partial p zs os h))

left_tops : (n : ℕ) (es : Entries) (p : List ℕ) (m : ℕ) (zs os : Entries) (g : Excess) → AreInOrder n es
    → es ≡ fork p zs os → n ≡ length p + suc m → Some_entry zs → Some_entry os → part_of (tops m) m zs ≡ Err g
    → tops n [] es ≡ Err (beneath (p ++ 0 ∷ []) g)
left_tops n es p m zs os g order same len some_z some_o e =
    let bits = order_label n p zs os some_z (order_on n es (fork p zs os) same order) in
    ap (λ k. tops k [] es) len ∙ ap (tops (length p + suc m) []) same ∙ fork_along p [] m zs os bits some_z some_o
    ∙ ap (λ r. reported_below (p ++ 0 ∷ []) r >>= λ z. reported_below (p ++ 1 ∷ []) (part_of (tops m) m os) >>= λ o. Ok (fork_top p z o)) e

right_tops : (n : ℕ) (es : Entries) (p : List ℕ) (m : ℕ) (zs os : Entries) (z : Tree) (g : Excess) → AreInOrder n es
    → AreHashed Partial es → es ≡ fork p zs os → n ≡ length p + suc m → IsBuilt m zs z → Some_entry os
    → part_of (tops m) m os ≡ Err g → tops n [] es ≡ Err (beneath (p ++ 1 ∷ []) g)
right_tops n es p m zs os z g order hashed same len bz some_o e =
    let some_z = some_below Partial m zs z bz.0 in
    let bits = order_label n p zs os some_z (order_on n es (fork p zs os) same order) in
    let h = hashed_on Partial es (fork p zs os) same hashed in
    let left = branch_planted Partial refl m zs z bz.0 bz.1 (hashed_zeros Partial p zs os h) in
    ap (λ k. tops k [] es) len ∙ ap (tops (length p + suc m) []) same ∙ fork_along p [] m zs os bits some_z some_o
    ∙ (λ i. reported_below (p ++ 0 ∷ []) (left i) >>= λ y. reported_below (p ++ 1 ∷ []) (e i) >>= λ o. Ok (fork_top p y o))

-- ---- faults of edges

hidden_first : Entries → Bool
hidden_first [] = false
hidden_first ((k, leaf c) ∷ es) = false
hidden_first (([], hidden h) ∷ es) = true
hidden_first ((b ∷ k, hidden h) ∷ es) = false

not_leaf : (k : List ℕ) (c : Slice) (h : Hidden) (fs : Entries) → (◌≡◌ {A = Entries} ((k, leaf c) ∷ []) (([], hidden h) ∷ fs)) → ⊥
unfolding hidden_first
not_leaf k c h fs e = let t : false ≡ true = ap hidden_first e in cc

not_fork : (p : List ℕ) (zs os : Entries) → Some_entry zs → (h : Hidden) (fs : Entries) → fork p zs os ≡ ([], hidden h) ∷ fs → ⊥
not_fork p zs os s h fs e = longer p s.0.0 (ap first_key (sym (ap (λ (l : Entries). fork p l os) s.2) ∙ e))
  where
    longer : (p k : List ℕ) → (p ++ 0 ∷ []) ++ k ≡ [] → ⊥
    longer [] k e = cc
    longer (b ∷ p) k e = cc

pub exceeds_open : (n : ℕ) (es : Entries) (f : Excess) → Exceeds n es f → (h : Hidden) (fs : Entries) → es ≡ ([], hidden h) ∷ fs → ⊥
exceeds_open n es f (leaf_full _ _ _ k c same l e) h fs i = not_leaf k c h fs (sym same ∙ i)
exceeds_open n es f (in_zeros _ _ _ p m zs os g same len o d e) h fs i = not_fork p zs os (branch-some m zs g d) h fs (sym same ∙ i)
exceeds_open n es f (in_ones _ _ _ p m zs os z g same len b d e) h fs i = not_fork p zs os (some_below Partial m zs z b.0) h fs (sym same ∙ i)
exceeds_open n es f (fork_full _ _ _ p m zs os z o same len bz bo l e) h fs i = not_fork p zs os (some_below Partial m zs z bz.0) h fs (sym same ∙ i)
exceeds_open n es f (fork_deep _ _ _ p m zs os z o same len bz bo l d e) h fs i = not_fork p zs os (some_below Partial m zs z bz.0) h fs (sym same ∙ i)

edge_cell : (m : ℕ) (es : Entries) (f : Excess) (r : Result Top Excess)
    → (r >>= λ top. edge_of m (first_key es) top) ≡ Err f → cell_from m es r ≡ Err f
edge_cell m es f (Ok top) e = ap (λ z. z >>= λ s. Ok (cell_of s)) e
edge_cell m es f (Err g) e = let same : g ≡ f = cc in ap Err same

deep_either : (z o : Tree) → (deepest z ≡ 1024) ⊎ (deepest o ≡ 1024) → (is_deep z || is_deep o) ≡ true
deep_either z o (inl d) = or_left (is_deep z) (is_deep o) (deep_is z d)
deep_either z o (inr d) = or_right (is_deep z) (is_deep o) (deep_is o d)

mutual
  pub exceeds_edge : (n : ℕ) (es : Entries) (f : Excess) → AreInOrder n es → AreHashed Partial es → Exceeds n es f
      → (tops n [] es >>= λ top. edge_of n (first_key es) top) ≡ Err f
  exceeds_edge n es f order hashed (leaf_full _ _ _ k c same l e) =
      let o = order_on n es ((k, leaf c) ∷ []) same order in
      let size = label_length n k c.bits o.1 (let s = o.0 in omega (arith, s)) in
      let t : tops n [] es ≡ Ok (leaf_top k c) = ap (λ m. tops m [] es) (sym o.0) ∙ ap (tops (length k) []) same ∙ leaf_along k [] c o.1 in
      bind_to (tops n [] es) _ (leaf_top k c) (Err f) t (edge_full n (first_key es) (leaf_top k c) (omega (arith, l, size)) ∙ ap (λ (z : Entries). Err (full (first_key z))) same ∙ ap Err (sym e))
  exceeds_edge n es f order hashed (in_zeros _ _ _ p m zs os g same len o d e) =
      let ok = order_on n es (fork p zs os) same order in
      let h = hashed_on Partial es (fork p zs os) same hashed in
      let k = exceeds_part m zs g (order_zeros n m p zs os len ok) (hashed_zeros Partial p zs os h) d in
      ap (λ r. r >>= λ top. edge_of n (first_key es) top) (left_tops n es p m zs os g order same len (branch-some m zs g d) (some-of os o) k) ∙ ap Err (sym e)
  exceeds_edge n es f order hashed (in_ones _ _ _ p m zs os z g same len b d e) =
      let ok = order_on n es (fork p zs os) same order in
      let h = hashed_on Partial es (fork p zs os) same hashed in
      let k = exceeds_part m os g (order_ones n m p zs os len ok) (hashed_ones Partial p zs os h) d in
      ap (λ r. r >>= λ top. edge_of n (first_key es) top) (right_tops n es p m zs os z g order hashed same len b (branch-some m os g d) k) ∙ ap Err (sym e)
  exceeds_edge n es f order hashed (fork_full _ _ _ p m zs os z o same len bz bo l e) =
      let bits = order_label n p zs os (some_below Partial m zs z bz.0) (order_on n es (fork p zs os) same order) in
      let size = label_length n p [] bits (omega (arith, len)) in
      bind_to (tops n [] es) _ (fork_top p z o) (Err f) (fork_tops n es p m zs os z o order hashed same len bz bo)
      (edge_full n (first_key es) (fork_top p z o) (omega (arith, l, size)) ∙ ap Err (sym e))
  exceeds_edge n es f order hashed (fork_deep _ _ _ p m zs os z o same len bz bo l d e) =
      let bits = order_label n p zs os (some_below Partial m zs z bz.0) (order_on n es (fork p zs os) same order) in
      let size = label_length n p [] bits (omega (arith, len)) in
      bind_to (tops n [] es) _ (fork_top p z o) (Err f) (fork_tops n es p m zs os z o order hashed same len bz bo)
      (edge_deep n (first_key es) (fork_top p z o) (omega (arith, l, size)) (deep_either z o d) ∙ ap Err (sym e))

  pub exceeds_part : (m : ℕ) (es : Entries) (f : Excess) → AreInOrder m es → AreHashed Partial es → ExceedsBranch m es f
      → part_of (tops m) m es ≡ Err f
  exceeds_part m es f order hashed (in_edge _ _ _ d) =
      part_open (tops m) m es (exceeds_open m es f d) ∙ edge_cell m es f (tops m [] es) (exceeds_edge m es f order hashed d)
  exceeds_part m es f order hashed (hidden_deep _ _ _ h same l e) =
      ap (part_of (tops m) m) same ∙ when_true (nat_lt 1024 h.depth) _ _ (lt-ltb 1024 h.depth l) ∙ ap Err (sym e)

-- ---- the parts of the first edge

pub below_tops : (n : ℕ) (es : Entries) (f : Excess) → AreInOrder n es → AreHashed Partial es → ExceedsBelow n es f
    → tops n [] es ≡ Err f
below_tops n es f order hashed (in_left p m zs os g same len ne d e) =
    let o = order_on n es (fork p zs os) same order in
    let h = hashed_on Partial es (fork p zs os) same hashed in
    left_tops n es p m zs os g order same len (branch-some m zs g d) (some-of os ne) (exceeds_part m zs g (order_zeros n m p zs os len o) (hashed_zeros Partial p zs os h) d) ∙ ap Err (sym e)
below_tops n es f order hashed (in_right p m zs os z g same len b d e) =
    let o = order_on n es (fork p zs os) same order in
    let h = hashed_on Partial es (fork p zs os) same hashed in
    right_tops n es p m zs os z g order hashed same len b (branch-some m os g d) (exceeds_part m os g (order_ones n m p zs os len o) (hashed_ones Partial p zs os h) d) ∙ ap Err (sym e)

pub top_on : (n : ℕ) (es : Entries) (top : Top) → AreInOrder n es → AreHashed Partial es → IsTop n es top
    → tops n [] es ≡ Ok top
top_on n es top order hashed (of_leaf k c same e) =
    let o = order_on n es ((k, leaf c) ∷ []) same order in
    ap (λ m. tops m [] es) (sym o.0) ∙ ap (tops (length k) []) same ∙ leaf_along k [] c o.1 ∙ ap Ok (sym e)
top_on n es top order hashed (of_fork p m zs os z o same len bz bo e) =
    fork_tops n es p m zs os z o order hashed same len bz bo ∙ ap Ok (sym e)

pub deep_of : (top : Top) → HasDeep top → has_deep top ≡ true
deep_of (leaf_top l c) d = absurd d
deep_of (fork_top l z o) (inl d) = or_left (is_deep z) (is_deep o) (lt-ltb 1023 (deepest z) d)
deep_of (fork_top l z o) (inr d) = or_right (is_deep z) (is_deep o) (lt-ltb 1023 (deepest o) d)

clash : (a : Bool) → a ≡ true → a ≡ false → ⊥
clash true e f = cc
clash false e f = cc

pub deep_not : (top : Top) → (HasDeep top → ⊥) → has_deep top ≡ false
deep_not top ne = go (has_deep top) refl
  where
    some : (top : Top) → has_deep top ≡ true → HasDeep top
    some (leaf_top l c) e = cc
    some (fork_top l z o) e = pick (is_deep z) refl (is_deep o) refl e
      where
        pick : (a : Bool) → is_deep z ≡ a → (b : Bool) → is_deep o ≡ b → (is_deep z || is_deep o) ≡ true → HasDeep (fork_top l z o)
        pick true f b g e = inl (ltb-true 1023 (deepest z) f)
        pick false f true g e = inr (ltb-true 1023 (deepest o) g)
        pick false f false g e = let t : (is_deep z || is_deep o) ≡ false = λ i. f i || g i in absurd (clash (is_deep z || is_deep o) e t)

    go : (t : Bool) → has_deep top ≡ t → t ≡ false
    go true e = absurd (ne (some top e))
    go false e = refl
