-- Contents and hidden parts as one list, and apart.
use Rattle.std.proofs.Common.{◌≡◌, ◌⊎◌, inl, inr, ℕ, zero, suc, ◌+◌, ◌<◌, Bool, true, false, cond, List, [], ◌∷◌, ◌++◌, length, refl, sym, ap, ◌∙◌, subst, arith, length-append}
use Rattle.cell_nodes.specs.declared.tree.Hidden.{Hidden}
use Rattle.hashmap_tree.specs.Entries.{Slice, Part, leaf, hidden, Entries, pairs_in, hidden_in}
use Rattle.hashmap_tree.specs.KeyLaws.{true-before, before-true}
use Rattle.hashmap_tree.specs.Merged.{is_before, hidden_parts, those_before, those_after, merged}
use Rattle.hashmap_tree.specs.Order.{Before, AreInOrder}
use Rattle.hashmap_tree.specs.OrderedLaws.{before-before, never-before, first-before, order-rest}
use Rattle.hashmap_tree.specs.Placed.{IsAmong}

-- ---- lengths and parts

length-parts : (us : List (List ℕ × Hidden)) → length (hidden_parts us) ≡ length us
length-parts [] = refl
length-parts (u ∷ us) = ap suc (length-parts us)

both-parts : (k : List ℕ) (us : List (List ℕ × Hidden)) → those_before k us ++ those_after k us ≡ us
both-parts k [] = refl
both-parts k (u ∷ us) = go (is_before u.0 k) (both-parts k us)
  where
    go : (b : Bool) → those_before k us ++ those_after k us ≡ us
        → cond b (u ∷ those_before k us) [] ++ cond b (those_after k us) (u ∷ us) ≡ u ∷ us
    go true ih = ap (λ (l : List (List ℕ × Hidden)). u ∷ l) ih
    go false ih = refl

pub length-merged : (xs : List (List ℕ × Slice)) (us : List (List ℕ × Hidden))
    → length (merged xs us) ≡ length xs + length us
length-merged [] us = let h = length-parts us in omega (arith, h)
length-merged (x ∷ xs) us =
    let ih = length-merged xs (those_after x.0 us) in
    let a = length-append (hidden_parts (those_before x.0 us)) ((x.0, leaf x.1) ∷ merged xs (those_after x.0 us)) in
    let p = length-parts (those_before x.0 us) in
    let b = length-append (those_before x.0 us) (those_after x.0 us) in
    let c : length (those_before x.0 us ++ those_after x.0 us) ≡ length us = ap length (both-parts x.0 us) in
    omega (arith, ih, a, p, b, c)

pairs-parts : (us : List (List ℕ × Hidden)) (es : Entries) → pairs_in (hidden_parts us ++ es) ≡ pairs_in es
pairs-parts [] es = refl
pairs-parts (u ∷ us) es = pairs-parts us es

hidden-parts : (us : List (List ℕ × Hidden)) (es : Entries) → hidden_in (hidden_parts us ++ es) ≡ us ++ hidden_in es
hidden-parts [] es = refl
hidden-parts (u ∷ us) es = ap (λ (l : List (List ℕ × Hidden)). (u.0, u.1) ∷ l) (hidden-parts us es)

no-pairs : (us : List (List ℕ × Hidden)) → pairs_in (hidden_parts us) ≡ []
no-pairs [] = refl
no-pairs (u ∷ us) = no-pairs us

only-hidden : (us : List (List ℕ × Hidden)) → hidden_in (hidden_parts us) ≡ us
only-hidden [] = refl
only-hidden (u ∷ us) = ap (λ (l : List (List ℕ × Hidden)). (u.0, u.1) ∷ l) (only-hidden us)

pub merged-parts : (xs : List (List ℕ × Slice)) (us : List (List ℕ × Hidden))
    → (pairs_in (merged xs us) ≡ xs) × (hidden_in (merged xs us) ≡ us)
merged-parts [] us = (no-pairs us, only-hidden us)
merged-parts (x ∷ xs) us =
    let ih = merged-parts xs (those_after x.0 us) in (
      pairs-parts (those_before x.0 us) ((x.0, leaf x.1) ∷ merged xs (those_after x.0 us)) ∙ ap (λ (l : List (List ℕ × Slice)). (x.0, x.1) ∷ l) ih.0,
      hidden-parts (those_before x.0 us) ((x.0, leaf x.1) ∷ merged xs (those_after x.0 us)) ∙ ap (λ (l : List (List ℕ × Hidden)). those_before x.0 us ++ l) ih.1 ∙ both-parts x.0 us,
    )

-- ---- entries in order are their parts, merged

among-pairs : (es : Entries) (x : List ℕ × Slice) (xs : List (List ℕ × Slice)) → pairs_in es ≡ x ∷ xs
    → IsAmong x.0 (leaf x.1) es
among-pairs [] x xs e = cc
among-pairs ((k, leaf c) ∷ es) x xs e = inl (ap first e, ap (λ (l : List (List ℕ × Slice)). leaf (second l)) e)
  where
    first : List (List ℕ × Slice) → List ℕ
    first [] = k
    first (y ∷ ys) = y.0

    second : List (List ℕ × Slice) → Slice
    second [] = c
    second (y ∷ ys) = y.1
among-pairs ((k, hidden h) ∷ es) x xs e = inr (among-pairs es x xs e)

-- a hidden part before all leaves
hidden-first : (k : List ℕ) (h : Hidden) (xs : List (List ℕ × Slice)) (us : List (List ℕ × Hidden))
    → ((x : List ℕ × Slice) (ys : List (List ℕ × Slice)) → xs ≡ x ∷ ys → Before k x.0)
    → merged xs ((k, h) ∷ us) ≡ (k, hidden h) ∷ merged xs us
hidden-first k h [] us b = refl
hidden-first k h (x ∷ xs) us b = go (is_before k x.0) (true-before k x.0 (b x xs refl))
  where
    go : (t : Bool) → t ≡ true
        → hidden_parts (cond t ((k, h) ∷ those_before x.0 us) []) ++ (x.0, leaf x.1) ∷ merged xs (cond t (those_after x.0 us) ((k, h) ∷ us))
        ≡ (k, hidden h) ∷ (hidden_parts (those_before x.0 us) ++ (x.0, leaf x.1) ∷ merged xs (those_after x.0 us))
    go true e = refl
    go false e = cc

-- a leaf before all hidden parts
leaf-first : (k : List ℕ) (c : Slice) (xs : List (List ℕ × Slice)) (us : List (List ℕ × Hidden))
    → ((u : List ℕ × Hidden) (vs : List (List ℕ × Hidden)) → us ≡ u ∷ vs → Before k u.0)
    → merged ((k, c) ∷ xs) us ≡ (k, leaf c) ∷ merged xs us
leaf-first k c xs [] b = refl
leaf-first k c xs (u ∷ us) b = go (is_before u.0 k) refl
  where
    go : (t : Bool) → is_before u.0 k ≡ t
        → hidden_parts (cond t (u ∷ those_before k us) []) ++ (k, leaf c) ∷ merged xs (cond t (those_after k us) (u ∷ us))
        ≡ (k, leaf c) ∷ merged xs (u ∷ us)
    go true e = absurd (never-before k (before-before k u.0 k (b u us refl) (before-true u.0 k e)))
    go false e = refl

among-hidden : (es : Entries) (u : List ℕ × Hidden) (us : List (List ℕ × Hidden)) → hidden_in es ≡ u ∷ us
    → IsAmong u.0 (hidden u.1) es
among-hidden [] u us e = cc
among-hidden ((k, leaf c) ∷ es) u us e = inr (among-hidden es u us e)
among-hidden ((k, hidden h) ∷ es) u us e = inl (ap first e, ap (λ (l : List (List ℕ × Hidden)). hidden (second l)) e)
  where
    first : List (List ℕ × Hidden) → List ℕ
    first [] = k
    first (y ∷ ys) = y.0

    second : List (List ℕ × Hidden) → Hidden
    second [] = h
    second (y ∷ ys) = y.1

pub order-merged : (n : ℕ) (es : Entries) → AreInOrder n es → es ≡ merged (pairs_in es) (hidden_in es)
order-merged n [] o = refl
order-merged n ((k, leaf c) ∷ es) o =
    ap (λ (l : Entries). (k, leaf c) ∷ l) (order-merged n es (order-rest n (k, leaf c) es o))
    ∙ sym (leaf-first k c (pairs_in es) (hidden_in es) (λ u us e. first-before n (k, leaf c) es o u.0 (hidden u.1) (among-hidden es u us e)))
order-merged n ((k, hidden h) ∷ es) o =
    ap (λ (l : Entries). (k, hidden h) ∷ l) (order-merged n es (order-rest n (k, hidden h) es o))
    ∙ sym (hidden-first k h (pairs_in es) (hidden_in es) (λ x xs e. first-before n (k, hidden h) es o x.0 (leaf x.1) (among-pairs es x xs e)))
