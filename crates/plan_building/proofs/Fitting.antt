-- Which keys and hidden parts fit, by what is judged of them one after the other.
use Rattle.std.proofs.Common.{◌≡◌, ◌↔◌, ◌⊎◌, inl, inr, ℕ, zero, ◌+◌, ◌<◌, Bool, true, false, IfOk, IsTrue, List, [], ◌∷◌, length, map, suc, Result, Ok, Err, refl, sym, ap, ◌∙◌, subst, arith}
use Rattle.cell_nodes.specs.Held.{Held}
use Rattle.cell_nodes.specs.declared.tree.Hidden.{Hidden}
use Rattle.cell_nodes.specs.declared.tree.Mode.{Mode}
use Rattle.cell_nodes.specs.declared.tree.Mode.TheVariants.{Partial}
use Rattle.hashmap_tree.specs.Dict.{DictTree}
use Rattle.hashmap_tree.specs.Entries.{Slice, leaf, hidden, Entries, hidden_in, pairs_in}
use Rattle.hashmap_tree.specs.Merged.{merged}
use Rattle.hashmap_tree.specs.MergedLaws.{length-merged, merged-parts}
use Rattle.hashmap_tree.specs.Order.{AreInOrder}
use Rattle.hashmap_tree.specs.Placed.{AllPlaced, IsAmong, IsFirstMisplaced}
use Rattle.hashmap_tree.specs.PlacedLaws.{misplaced-not_all, tree-placed}
use Rattle.hashmap_tree.specs.Plants as plants
use Rattle.hashmap_tree.specs.Plants.{IsHiddenAlone}
use Rattle.typed_value.specs.Values.{PlainPairs}
use Rattle.building.specs.MapTests.{Admits, FitEdge, FitRoot, fits_edge, fits_root, keys_of, outline}
use Rattle.building.specs.PlainBuilder.{contents_of, entries_of, is_last}
use Rattle.building_laws.specs.DictStandsLaws.{outline_edge, outline_root}
use Rattle.plan_building.specs.View.{leaf_of}
use Rattle.plan_building.specs.declared.growing.Growing.{Growing}

none_among : (q : List ℕ) (h : Hidden) (es : Entries) → hidden_in es ≡ [] → IsAmong q (hidden h) es → ⊥
none_among q h [] e m = m
none_among q h ((k, leaf c) ∷ es) e (inl m) = different c h m.1
  where
    different : (c : Slice) (h : Hidden) → leaf c ≡ hidden h → ⊥
    different c h e = cc
none_among q h ((k, leaf c) ∷ es) e (inr m) = none_among q h es e m
none_among q h ((k, hidden x) ∷ es) e m = cc

-- without hidden parts each has a place
pub none_hidden : (xs : List (List ℕ × Slice)) (us : List (List ℕ × Hidden)) → length us ≡ 0 → AllPlaced (merged xs us)
none_hidden xs [] e = λ q h m. absurd (none_among q h (merged xs []) (merged-parts xs []).1 m)
none_hidden xs (u ∷ us) e = absurd (omega (arith, e))

pub placed_tree : (n : ℕ) (es : Entries) (s : Slice) → DictTree Partial n es s → IsTrue true ↔ AllPlaced es
placed_tree n es s d = ((λ t. tree-placed Partial n es s d), (λ a. refl))

pub placed_so : (es : Entries) → AllPlaced es → IsTrue true ↔ AllPlaced es
placed_so es a = ((λ t. a), (λ b. refl))

pub misplaced_so : (q : List ℕ) (es : Entries) → IsFirstMisplaced q es → IsTrue false ↔ AllPlaced es
misplaced_so q es m = ((λ t. absurd (never t)), (λ a. absurd (misplaced-not_all q es m a)))
  where
    never : false ≡ true → ⊥
    never e = cc

-- ---- the tests

abbrev Outlines : List (List ℕ × Slice) → PlainPairs → Type 0
Outlines xs ps = xs ≡ keys_of ps

-- what is judged false
pub edge_not : (mode : Mode) (n : ℕ) (xs : List (List ℕ × Slice)) (ps : PlainPairs) (us : List (List ℕ × Hidden))
    → Outlines xs ps → (FitEdge mode n (merged xs us) → ⊥) → false ≡ fits_edge mode n (outline ps us)
edge_not mode n xs ps us e f =
    let P : List (List ℕ × Slice) → Type 0 = λ l. FitEdge mode n (merged l us) → ⊥ in
    sym ((outline_edge mode n ps us).1 (subst P e f))

pub edge_if : (mode : Mode) (n : ℕ) (xs : List (List ℕ × Slice)) (ps : PlainPairs) (us : List (List ℕ × Hidden)) (b : Bool)
    → Outlines xs ps → 0 < length xs + length us → AreInOrder n (merged xs us) → Admits mode (merged xs us)
    → IsTrue b ↔ AllPlaced (merged xs us) → b ≡ fits_edge mode n (outline ps us)
edge_if mode n xs ps us true e s o a p =
    let P : List (List ℕ × Slice) → Type 0 = λ l. FitEdge mode n (merged l us) in
    let l = length-merged xs us in
    sym ((outline_edge mode n ps us).0
    (subst P e (record { some = omega (arith, s, l); order = o; placed = p.0 refl; admitted = a })))
edge_if mode n xs ps us false e s o a p =
    edge_not mode n xs ps us e (λ f. absurd (never (p.1 f.placed)))
  where
    never : false ≡ true → ⊥
    never e = cc

pub root_not : (mode : Mode) (n : ℕ) (xs : List (List ℕ × Slice)) (ps : PlainPairs) (us : List (List ℕ × Hidden))
    → Outlines xs ps → (FitRoot mode n (merged xs us) → ⊥) → false ≡ fits_root mode n (outline ps us)
root_not mode n xs ps us e f =
    let P : List (List ℕ × Slice) → Type 0 = λ l. FitRoot mode n (merged l us) → ⊥ in
    sym ((outline_root mode n ps us).1 (subst P e f))

pub root_so : (mode : Mode) (n : ℕ) (xs : List (List ℕ × Slice)) (ps : PlainPairs) (us : List (List ℕ × Hidden))
    → Outlines xs ps → FitRoot mode n (merged xs us) → true ≡ fits_root mode n (outline ps us)
root_so mode n xs ps us e f =
    let P : List (List ℕ × Slice) → Type 0 = λ l. FitRoot mode n (merged l us) in
    sym ((outline_root mode n ps us).0 (subst P e f))

pub root_if : (mode : Mode) (n : ℕ) (xs : List (List ℕ × Slice)) (ps : PlainPairs) (us : List (List ℕ × Hidden)) (b : Bool)
    → Outlines xs ps → AreInOrder n (merged xs us) → Admits mode (merged xs us) → (IsHiddenAlone (merged xs us) → ⊥)
    → IsTrue b ↔ AllPlaced (merged xs us) → b ≡ fits_root mode n (outline ps us)
root_if mode n xs ps us true e o a h p =
    root_so mode n xs ps us e (record { order = o; placed = inr (p.0 refl); admitted = a })
root_if mode n xs ps us false e o a h p = root_not mode n xs ps us e (λ f. neither f.placed)
  where
    never : false ≡ true → ⊥
    never e = cc

    neither : IsHiddenAlone (merged xs us) ⊎ AllPlaced (merged xs us) → ⊥
    neither (inl s) = h s
    neither (inr s) = never (p.1 s)

-- a test that failed, and one that held
pub refuted : {P : Type 0} (b : Bool) → b ≡ false → IsTrue b ↔ P → P → ⊥
refuted true e f p = cc
refuted false e f p = let h : false ≡ true = f.1 p in cc

pub held : {P : Type 0} (b : Bool) → b ≡ true → IsTrue b ↔ P → P
held b e f = f.0 e

-- ---- one hidden part in place of all keys

alone_parts : (xs : List (List ℕ × Slice)) (us : List (List ℕ × Hidden)) → IsHiddenAlone (merged xs us)
    → (h : Hidden) × (xs ≡ []) × (us ≡ ([], h) ∷ [])
alone_parts xs us a =
    let p = merged-parts xs us in
    (a.0, sym p.0 ∙ ap pairs_in a.1, sym p.1 ∙ ap hidden_in a.1)

pub alone_none : (xs : List (List ℕ × Slice)) (us : List (List ℕ × Hidden)) → length us ≡ 0 → IsHiddenAlone (merged xs us)
    → ⊥
alone_none xs us e a =
    let p = alone_parts xs us a in
    let f : length us ≡ 1 = ap length p.2 in absurd (omega (arith, e, f))

pub alone_leaf : (xs : List (List ℕ × Slice)) (us : List (List ℕ × Hidden)) → 0 < length xs
    → IsHiddenAlone (merged xs us) → ⊥
alone_leaf xs us l a =
    let p = alone_parts xs us a in
    let e : length xs ≡ 0 = ap length p.1 in absurd (omega (arith, l, e))

pub alone_more : (xs : List (List ℕ × Slice)) (us : List (List ℕ × Hidden)) (u : List ℕ × Hidden)
    (rest : List (List ℕ × Hidden)) → us ≡ u ∷ rest → 0 < length rest → IsHiddenAlone (merged xs us) → ⊥
alone_more xs us u rest e l a =
    let p = alone_parts xs us a in
    let f : suc (length rest) ≡ 1 = ap length (sym e ∙ p.2) in absurd (omega (arith, l, f))

pub alone_long : (xs : List (List ℕ × Slice)) (us : List (List ℕ × Hidden)) (u : List ℕ × Hidden)
    (rest : List (List ℕ × Hidden)) → us ≡ u ∷ rest → 0 < length u.0 → IsHiddenAlone (merged xs us) → ⊥
alone_long xs us u rest e l a =
    let p = alone_parts xs us a in
    let f : length u.0 ≡ 0 = ap first_length (sym e ∙ p.2) in absurd (omega (arith, l, f))
  where
    first_length : List (List ℕ × Hidden) → ℕ
    first_length [] = 0
    first_length (v ∷ vs) = length v.0

none_of : {X : Type 0} (xs : List X) → length xs ≡ 0 → xs ≡ []
none_of [] e = refl
none_of (x ∷ xs) e = absurd (omega (arith, e))

pub alone_is : (xs : List (List ℕ × Slice)) (us : List (List ℕ × Hidden)) (u : List ℕ × Hidden)
    (rest : List (List ℕ × Hidden)) → length xs ≡ 0 → us ≡ u ∷ rest → length rest ≡ 0 → length u.0 ≡ 0
    → (xs ≡ []) × (us ≡ ([], u.1) ∷ [])
alone_is xs us u rest x e r l = (none_of xs x, e ∙ (λ i. (none_of u.0 l i, u.1) ∷ none_of rest r i))

-- ---- whether the one value stands in place

pub last_none : (xs : List (List ℕ × Growing)) (us : List (List ℕ × Hidden)) → xs ≡ []
    → false ≡ is_last (map leaf_of xs) us
last_none xs us e = sym (ap (λ l. is_last (map leaf_of l) us) e)

pub last_more : (xs : List (List ℕ × Growing)) (us : List (List ℕ × Hidden)) (x : List ℕ × Growing)
    (rest : List (List ℕ × Growing)) → xs ≡ x ∷ rest → 0 < length rest → false ≡ is_last (map leaf_of xs) us
last_more xs us x rest e l = sym (ap (λ l. is_last (map leaf_of l) us) e ∙ go rest l)
  where
    go : (ys : List (List ℕ × Growing)) → 0 < length ys → is_last (leaf_of x ∷ map leaf_of ys) us ≡ false
    go [] l = absurd (omega (arith, l))
    go (y ∷ ys) l = refl

pub last_hidden : (xs : List (List ℕ × Growing)) (us : List (List ℕ × Hidden)) (x : List ℕ × Growing)
    (rest : List (List ℕ × Growing)) → xs ≡ x ∷ rest → 0 < length us → false ≡ is_last (map leaf_of xs) us
last_hidden xs us x rest e l = sym (ap (λ l. is_last (map leaf_of l) us) e ∙ go rest us l)
  where
    go : (ys : List (List ℕ × Growing)) (vs : List (List ℕ × Hidden)) → 0 < length vs
        → is_last (leaf_of x ∷ map leaf_of ys) vs ≡ false
    go ys [] l = absurd (omega (arith, l))
    go [] (v ∷ vs) l = refl
    go (y ∷ ys) (v ∷ vs) l = refl

pub last_is : (xs : List (List ℕ × Growing)) (us : List (List ℕ × Hidden)) (x : List ℕ × Growing)
    (rest : List (List ℕ × Growing)) → xs ≡ x ∷ rest → length rest ≡ 0 → length us ≡ 0
    → x.1.shut ≡ is_last (map leaf_of xs) us
last_is xs us x rest e r u =
    sym (ap (λ l. is_last (map leaf_of l) us) e
    ∙ (λ i. is_last (leaf_of x ∷ map leaf_of (none_of rest r i)) (none_of us u i)))

-- ---- contents

pub contents_are : (xs : List (List ℕ × Growing))
    → map plants.leaf_of (map (λ (x : List ℕ × Growing). (x.0, x.1.cell)) xs) ≡ contents_of (map leaf_of xs)
contents_are [] = refl
contents_are (x ∷ xs) = ap (λ (l : List (List ℕ × Slice)). (x.0, (plants.leaf_of (x.0, x.1.cell)).1) ∷ l) (contents_are xs)

-- ---- the order, in a mode that admits the hidden parts

pub admitted : {E : Type 0} (r : Result Bool E) (P Q : Type 0) → IfOk r (λ b. IsTrue b ↔ P) → Q
    → IfOk r (λ b. IsTrue b ↔ (P × Q))
admitted (Ok b) P Q f q = ((λ t. (f.0 t, q)), (λ p. f.1 p.0))
admitted (Err e) P Q f q = tt

pub not_admitted : (b : Bool) (P Q : Type 0) → b ≡ false → IsTrue b ↔ Q → IsTrue false ↔ (P × Q)
not_admitted true P Q e f = cc
not_admitted false P Q e f = ((λ t. absurd (never t)), (λ p. f.1 p.1))
  where
    never : false ≡ true → ⊥
    never e = cc

-- ---- the tests of the program, which are made of the same keys and contents

abbrev Pairs : Type 0
Pairs = List (List ℕ × Held)

abbrev Unknowns : Type 0
Unknowns = List (List ℕ × Hidden)

abbrev entries : Pairs → Unknowns → Entries
entries xs us = merged (map plants.leaf_of xs) us

moved : (P : Entries → Type 0) (xs ys : Pairs) (us : Unknowns) → xs ≡ ys → P (entries xs us) → P (entries ys us)
moved P xs ys us e p = let Q : Pairs → Type 0 = λ l. P (entries l us) in subst Q e p

length_leaves : (xs : Pairs) → length (map plants.leaf_of xs) ≡ length xs
length_leaves [] = refl
length_leaves (x ∷ xs) = ap suc (length_leaves xs)

pub edge_none : (mode : Mode) (n : ℕ) (ps : PlainPairs) (xs ys : Pairs) (us : Unknowns) → ys ≡ xs
    → Outlines (map plants.leaf_of xs) ps → length ys + length us ≡ 0 → false ≡ fits_edge mode n (outline ps us)
edge_none mode n ps xs ys us e o z =
    edge_not mode n (map plants.leaf_of xs) ps us o (λ f.
    let s = f.some in
    let l = length-merged (map plants.leaf_of xs) us in
    let m = length_leaves xs in
    let k : length ys ≡ length xs = ap length e in absurd (omega (arith, s, l, m, k, z)))

pub edge_refused : (mode : Mode) (n : ℕ) (ps : PlainPairs) (xs ys : Pairs) (us : Unknowns) → ys ≡ xs
    → Outlines (map plants.leaf_of xs) ps → (AreInOrder n (entries ys us) × Admits mode (entries ys us) → ⊥)
    → false ≡ fits_edge mode n (outline ps us)
edge_refused mode n ps xs ys us e o f =
    let P : Entries → Type 0 = λ es. AreInOrder n es × Admits mode es → ⊥ in
    let g : P (entries xs us) = moved P ys xs us e f in
    edge_not mode n (map plants.leaf_of xs) ps us o (λ k. g (k.order, k.admitted))

pub edge_tested : {E : Type 0} (mode : Mode) (n : ℕ) (ps : PlainPairs) (xs ys zs : Pairs) (us : Unknowns) → ys ≡ xs
    → zs ≡ xs → Outlines (map plants.leaf_of xs) ps → (length ys + length us ≡ 0 → ⊥)
    → AreInOrder n (entries zs us) × Admits mode (entries zs us) → (r : Result Bool E)
    → IfOk r (λ b. IsTrue b ↔ AllPlaced (entries xs us)) → IfOk r (λ b. b ≡ fits_edge mode n (outline ps us))
edge_tested mode n ps xs ys zs us e d o some f (Err x) p = tt
edge_tested mode n ps xs ys zs us e d o some f (Ok b) p =
    let P : Entries → Type 0 = λ es. AreInOrder n es × Admits mode es in
    let g : P (entries xs us) = moved P zs xs us d f in
    let m = length_leaves xs in
    let k : length ys ≡ length xs = ap length e in
    edge_if mode n (map plants.leaf_of xs) ps us b o
    (positive (length (map plants.leaf_of xs) + length us) (λ z. some (omega (arith, z, m, k)))) g.0 g.1 p
  where
    positive : (a : ℕ) → (a ≡ 0 → ⊥) → 0 < a
    positive zero f = absurd (f refl)
    positive (suc a) f = omega arith

pub root_refused : (mode : Mode) (n : ℕ) (ps : PlainPairs) (xs ys : Pairs) (us : Unknowns) → ys ≡ xs
    → Outlines (map plants.leaf_of xs) ps → (AreInOrder n (entries ys us) × Admits mode (entries ys us) → ⊥)
    → false ≡ fits_root mode n (outline ps us)
root_refused mode n ps xs ys us e o f =
    let P : Entries → Type 0 = λ es. AreInOrder n es × Admits mode es → ⊥ in
    let g : P (entries xs us) = moved P ys xs us e f in
    root_not mode n (map plants.leaf_of xs) ps us o (λ k. g (k.order, k.admitted))

pub root_tested : {E : Type 0} (mode : Mode) (n : ℕ) (ps : PlainPairs) (xs ys zs : Pairs) (us : Unknowns) → ys ≡ xs
    → zs ≡ xs → Outlines (map plants.leaf_of xs) ps → (IsHiddenAlone (entries ys us) → ⊥)
    → AreInOrder n (entries zs us) × Admits mode (entries zs us) → (r : Result Bool E)
    → IfOk r (λ b. IsTrue b ↔ AllPlaced (entries xs us)) → IfOk r (λ b. b ≡ fits_root mode n (outline ps us))
root_tested mode n ps xs ys zs us e d o alone f (Err x) p = tt
root_tested mode n ps xs ys zs us e d o alone f (Ok b) p =
    let P : Entries → Type 0 = λ es. AreInOrder n es × Admits mode es in
    let A : Entries → Type 0 = λ es. IsHiddenAlone es → ⊥ in
    let g : P (entries xs us) = moved P zs xs us d f in
    root_if mode n (map plants.leaf_of xs) ps us b o g.0 g.1 (moved A ys xs us e alone) p

pub root_hidden : (mode : Mode) (n : ℕ) (ps : PlainPairs) (xs ys zs : Pairs) (us : Unknowns) (h : Hidden) → ys ≡ xs
    → zs ≡ xs → Outlines (map plants.leaf_of xs) ps → (map plants.leaf_of ys ≡ []) × (us ≡ ([], h) ∷ [])
    → AreInOrder n (entries zs us) × Admits mode (entries zs us) → true ≡ fits_root mode n (outline ps us)
root_hidden mode n ps xs ys zs us h e d o alone f =
    let P : Entries → Type 0 = λ es. AreInOrder n es × Admits mode es in
    let g : P (entries xs us) = moved P zs xs us d f in
    let a : IsHiddenAlone (entries ys us) = (h, λ i. merged (alone.0 i) (alone.1 i)) in
    root_so mode n (map plants.leaf_of xs) ps us o
    (record { order = g.0; placed = inl (moved IsHiddenAlone ys xs us e a); admitted = g.1 })

-- ---- the entries of contents

pub entries_same : (leaves : List (List ℕ × Growing)) (cells : Pairs) (us : Unknowns)
    → cells ≡ map (λ (x : List ℕ × Growing). (x.0, x.1.cell)) leaves
    → entries cells us ≡ entries_of (map leaf_of leaves) us
entries_same leaves cells us e = ap (λ l. merged l us) (ap (map plants.leaf_of) e ∙ contents_are leaves)

pub edge_ready : (mode : Mode) (n : ℕ) (leaves : List (List ℕ × Growing)) (cells : Pairs) (us : Unknowns)
    → cells ≡ map (λ (x : List ℕ × Growing). (x.0, x.1.cell)) leaves
    → FitEdge mode n (entries_of (map leaf_of leaves) us) → FitEdge mode n (entries cells us)
edge_ready mode n leaves cells us e f =
    let P : Entries → Type 0 = λ es. FitEdge mode n es in subst P (sym (entries_same leaves cells us e)) f

pub root_ready : (mode : Mode) (n : ℕ) (leaves : List (List ℕ × Growing)) (cells : Pairs) (us : Unknowns)
    → cells ≡ map (λ (x : List ℕ × Growing). (x.0, x.1.cell)) leaves
    → FitRoot mode n (entries_of (map leaf_of leaves) us) → FitRoot mode n (entries cells us)
root_ready mode n leaves cells us e f =
    let P : Entries → Type 0 = λ es. FitRoot mode n es in subst P (sym (entries_same leaves cells us e)) f

pub some_cells : (cells : Pairs) (us : Unknowns) → 0 < length (entries cells us) → 0 < length cells + length us
some_cells cells us l =
    let m = length_leaves cells in
    let k = length-merged (map plants.leaf_of cells) us in omega (arith, l, m, k)

pub alone_leaves : (xs : Pairs) (us : Unknowns) → 0 < length xs → IsHiddenAlone (entries xs us) → ⊥
alone_leaves xs us l =
    let m = length_leaves xs in alone_leaf (map plants.leaf_of xs) us (omega (arith, l, m))

pub none_entries : (leaves : List (List ℕ × Growing)) (cells slice : Pairs) (us : Unknowns)
    → cells ≡ map (λ (x : List ℕ × Growing). (x.0, x.1.cell)) leaves → slice ≡ cells → length slice + length us ≡ 0
    → length (entries_of (map leaf_of leaves) us) ≡ 0
none_entries leaves cells slice us e f z =
    let m = length_leaves cells in
    let k = length-merged (map plants.leaf_of cells) us in
    let s : length slice ≡ length cells = ap length f in
    let t : length (entries cells us) ≡ length (entries_of (map leaf_of leaves) us) =
    ap length (entries_same leaves cells us e) in
    omega (arith, z, m, k, s, t)

pub some_slice : (cells slice : Pairs) (us : Unknowns) → slice ≡ cells → (length slice + length us ≡ 0 → ⊥)
    → 0 < length cells + length us
some_slice cells slice us f z =
    let s : length slice ≡ length cells = ap length f in
    positive (length cells + length us) (λ e. z (omega (arith, e, s)))
  where
    positive : (a : ℕ) → (a ≡ 0 → ⊥) → 0 < a
    positive zero f = absurd (f refl)
    positive (suc a) f = omega arith

pub some_of_cells : (cells : Pairs) (us : Unknowns) → 0 < length cells + length us → 0 < length (entries cells us)
some_of_cells cells us l =
    let m = length_leaves cells in
    let k = length-merged (map plants.leaf_of cells) us in omega (arith, l, m, k)

pub alone_moved : (cells slice : Pairs) (us : Unknowns) → slice ≡ cells → (IsHiddenAlone (entries slice us) → ⊥)
    → IsHiddenAlone (entries cells us) → ⊥
alone_moved cells slice us f alone =
    let A : Entries → Type 0 = λ es. IsHiddenAlone es → ⊥ in moved A slice cells us f alone

pub root_placed : (mode : Mode) (n : ℕ) (es : Entries) → FitRoot mode n es → (IsHiddenAlone es → ⊥) → AllPlaced es
root_placed mode n es f alone = go f.placed
  where
    go : IsHiddenAlone es ⊎ AllPlaced es → AllPlaced es
    go (inl a) = absurd (alone a)
    go (inr p) = p
