-- In order, whether a key goes on with the other bit after the same bits is told by the neighbor.
use Rattle.std.proofs.Common.{◌≡◌, ◌≢◌, ◌⊎◌, ◌↔◌, inl, inr, ℕ, zero, suc, ◌+◌, ◌-◌, ◌<◌, ◌≤◌, Bool, true, false, IsTrue, List, [], ◌∷◌, ◌++◌, length, take, drop, map, slice_index, get_or, refl, sym, ap, ◌∙◌, subst, arith, append_assoc, length-append}
use Rattle.std.proofs.lemmas.List.{append-nil, take-append-drop, take_more, take_all, drop_more, drop_all, length-drop, length-take-le, length-map, map-append}
use Rattle.std.proofs.Math.Seq.{take-append_seam}
use Rattle.bit_slice.specs.Bits.{AreBits, bit_number}
use Rattle.cell_nodes.specs.declared.tree.Hidden.{Hidden}
use Rattle.hashmap_tree.specs.Entries.{Slice, Part, leaf, hidden, Entries}
use Rattle.hashmap_tree.specs.Keys.{BeginTogether}
use Rattle.hashmap_tree.specs.Order.{Before, AreInOrder}
use Rattle.hashmap_tree.specs.OrderedLaws.{before-under, first-before, order-rest}
use Rattle.hashmap_tree.specs.Placed.{IsAmong, HasBelow, IsForkChild, ArePlaced, AllPlaced, IsFirstMisplaced}
use Rattle.hashmap_tree.specs.PlacedLaws.{among-right, among-either, apart}
use Rattle.hashmap_tree.specs.Plants.{IsPlacedAt, entries_of, entry_of, part_of}
use Rattle.hashmap_tree.specs.declared.entries.Entry.{Entry}

-- ---- keys

-- what stands between two keys that begin with p begins with it
between : (p a b f : List ℕ) → Before (p ++ a) f → Before f (p ++ b) → (t : List ℕ) × (f ≡ p ++ t)
between [] a b f h k = (f, refl)
between (x ∷ p) a b [] h k = absurd h
between (x ∷ p) a b (y ∷ f) h k = go h k (between p a b f)
  where
    go : (x < y) ⊎ ((x ≡ y) × Before (p ++ a) f) → (y < x) ⊎ ((y ≡ x) × Before f (p ++ b))
        → (Before (p ++ a) f → Before f (p ++ b) → (t : List ℕ) × (f ≡ p ++ t)) → (t : List ℕ) × (y ∷ f ≡ x ∷ (p ++ t))
    go (inl u) (inl v) ih = absurd (omega (arith, u, v))
    go (inl u) (inr v) ih = let e = v.0 in absurd (omega (arith, u, e))
    go (inr u) (inl v) ih = let e = u.0 in absurd (omega (arith, e, v))
    go (inr u) (inr v) ih = let r = ih u.1 v.1 in (r.0, λ i. v.0 i ∷ r.1 i)

-- the keys with one bit more
snoc-same : (p q : List ℕ) (a b : ℕ) → p ++ a ∷ [] ≡ q ++ b ∷ [] → (p ≡ q) × (a ≡ b)
snoc-same [] [] a b e = (refl, head e)
  where
    head : a ∷ [] ≡ b ∷ [] → a ≡ b
    head e = cc
snoc-same [] (y ∷ q) a b e = absurd (let k = length-append q (b ∷ []) in let l : 1 ≡ length (y ∷ (q ++ b ∷ [])) = ap length e in omega (arith, k, l))
snoc-same (x ∷ p) [] a b e = absurd (let k = length-append p (a ∷ []) in let l : length (x ∷ (p ++ a ∷ [])) ≡ 1 = ap length e in omega (arith, k, l))
snoc-same (x ∷ p) (y ∷ q) a b e = let r = snoc-same p q a b (tail e) in ((λ i. head e i ∷ r.0 i), r.1)
  where
    head : x ∷ (p ++ a ∷ []) ≡ y ∷ (q ++ b ∷ []) → x ≡ y
    head e = cc

    tail : x ∷ (p ++ a ∷ []) ≡ y ∷ (q ++ b ∷ []) → p ++ a ∷ [] ≡ q ++ b ∷ []
    tail e = cc

-- after the 0 comes a 1, and before the 1 a 0
after-zero : (p t : List ℕ) → AreBits t → Before (p ++ 0 ∷ []) (p ++ t) → (j : List ℕ) × (t ≡ 1 ∷ j)
after-zero p t bits h = go t bits (before-under p (0 ∷ []) t h)
  where
    go : (t : List ℕ) → AreBits t → Before (0 ∷ []) t → (j : List ℕ) × (t ≡ 1 ∷ j)
    go [] b k = absurd k
    go (zero ∷ t) b (inl l) = absurd (omega (arith, l))
    go (zero ∷ t) b (inr l) = absurd (never t l.1)
      where
        never : (t : List ℕ) → Before [] t → ⊥
        never t h = h
    go (suc zero ∷ t) b k = (t, refl)
    go (suc (suc c) ∷ t) b k = let l = b.0 in absurd (omega (arith, l))

before-one : (p t : List ℕ) → Before (p ++ t) (p ++ 1 ∷ []) → (j : List ℕ) × (t ≡ 0 ∷ j)
before-one p t h = go t (before-under p t (1 ∷ []) h)
  where
    never : (t : List ℕ) → Before t [] → ⊥
    never [] h = h
    never (x ∷ t) h = h

    go : (t : List ℕ) → Before t (1 ∷ []) → (j : List ℕ) × (t ≡ 0 ∷ j)
    go [] k = absurd k
    go (zero ∷ t) k = (t, refl)
    go (suc c ∷ t) (inl l) = absurd (omega (arith, l))
    go (suc c ∷ t) (inr l) = absurd (never t l.1)

one-not_before_zero : (p j i : List ℕ) → Before (p ++ 1 ∷ [] ++ j) (p ++ 0 ∷ [] ++ i) → ⊥
one-not_before_zero p j i h = go (before-under p (1 ∷ j) (0 ∷ i) (subst (λ (k : List ℕ). Before k (p ++ (0 ∷ i))) (append_assoc p (1 ∷ []) j) (subst (Before (p ++ 1 ∷ [] ++ j)) (append_assoc p (0 ∷ []) i) h)))
  where
    go : (1 < 0) ⊎ ((let a : ℕ = 1 in a ≡ 0) × Before j i) → ⊥
    go (inl l) = omega (arith, l)
    go (inr l) = let e = l.0 in omega (arith, e)

-- ---- entries before and after one

pub earlier-before : (n : ℕ) (D : Entries) (e : List ℕ × Part) (F : Entries) → AreInOrder n (D ++ e ∷ F) → (k : List ℕ) (x : Part)
    → IsAmong k x D → Before k e.0
earlier-before n [] e F o k x h = absurd h
earlier-before n (d ∷ D) e F o k x h = go h (earlier-before n D e F (order-rest n d (D ++ e ∷ F) o) k x)
  where
    go : ((d.0 ≡ k) × (d.1 ≡ x)) ⊎ IsAmong k x D → (IsAmong k x D → Before k e.0) → Before k e.0
    go (inl g) ih =
        let P : List ℕ → Type 0 = λ a. Before a e.0 in
        subst P g.0 (first-before n d (D ++ e ∷ F) o e.0 e.1 (among-right e.0 e.1 D (e ∷ F) (inl (refl, refl))))
    go (inr g) ih = ih g

pub order-later : (n : ℕ) (D : Entries) (F : Entries) → AreInOrder n (D ++ F) → AreInOrder n F
order-later n [] F o = o
order-later n (d ∷ D) F o = order-later n D F (order-rest n d (D ++ F) o)

pub later-after : (n : ℕ) (D : Entries) (e : List ℕ × Part) (F : Entries) → AreInOrder n (D ++ e ∷ F) → (k : List ℕ) (x : Part)
    → IsAmong k x F → Before e.0 k
later-after n D e F o k x h = first-before n e F (order-later n D (e ∷ F) o) k x h

-- ---- the key k ends with a bit after p

front-of : (p t : List ℕ) (k f : List ℕ) (b : ℕ) (m : ℕ) → k ≡ p ++ b ∷ [] → suc m ≡ length k → take m k ≡ p
front-of p t k f b m e l =
    let n = length-append p (b ∷ []) in
    let s : length k ≡ length (p ++ b ∷ []) = ap length e in
    let len : m ≡ length p = omega (arith, l, n, s) in
    ap (λ (a : List ℕ). take m a) e ∙ ap (λ (j : ℕ). take j (p ++ b ∷ [])) len ∙ take-append_seam p (b ∷ [])

-- what begins together with it begins with p
pub together : (p k f : List ℕ) (b m : ℕ) → k ≡ p ++ b ∷ [] → suc m ≡ length k → take m k ≡ take m f
    → f ≡ p ++ drop m f
together p k f b m e l same =
    sym (take-append-drop m f) ∙ ap (λ (t : List ℕ). t ++ drop m f) (sym same ∙ front-of p [] k f b m e l)

pub begins-so : (p k f t : List ℕ) (b m : ℕ) → k ≡ p ++ b ∷ [] → suc m ≡ length k → f ≡ p ++ t
    → BeginTogether m k f
begins-so p k f t b m e l g =
    let n = length-append p (b ∷ []) in
    let s : length k ≡ length (p ++ b ∷ []) = ap length e in
    let len : m ≡ length p = omega (arith, l, n, s) in
    let u = length-append p t in
    let v : length f ≡ length (p ++ t) = ap length g in (
      omega (arith, l),
      omega (arith, len, u, v),
      front-of p [] k f b m e l ∙ sym (ap (take m) g ∙ ap (λ (j : ℕ). take j (p ++ t)) len ∙ take-append_seam p t),
    )

flip : (m : ℕ) (a b : List ℕ) → BeginTogether m a b → BeginTogether m b a
flip m a b h = (h.1, h.0, sym h.2)

-- the last bit of a key
pub last-bit : (k : List ℕ) (m : ℕ) → suc m ≡ length k → k ≡ take m k ++ slice_index k m ∷ []
last-bit k m e =
    sym (take-append-drop m k)
    ∙ ap (λ (t : List ℕ). take m k ++ t) (drop_more k m 0 (omega (arith, e)) ∙ ap (λ (t : List ℕ). slice_index k m ∷ t) (drop_all (m + 1) k (omega (arith, e))))

bits-drop : (m : ℕ) (f : List ℕ) → AreBits f → AreBits (drop m f)
bits-drop zero f b = b
bits-drop (suc m) [] b = b
bits-drop (suc m) (x ∷ f) b = bits-drop m f b.1

order-bits-of : (n : ℕ) (D : Entries) (e : List ℕ × Part) (F : Entries) → AreInOrder n (D ++ e ∷ F) → AreBits e.0
order-bits-of n D e [] o = (order-later n D (e ∷ []) o).1
order-bits-of n D e (f ∷ F) o = (order-later n D (e ∷ f ∷ F) o).1

-- ---- the neighbor after a key that ends with 0

child-of-zero : (p k : List ℕ) (E : Entries) → k ≡ p ++ 0 ∷ [] → IsForkChild k E → HasBelow (p ++ 1 ∷ []) E
child-of-zero p k E e c = go c.1
  where
    go : ((k ≡ c.0 ++ 0 ∷ []) × HasBelow (c.0 ++ 1 ∷ []) E) ⊎ ((k ≡ c.0 ++ 1 ∷ []) × HasBelow (c.0 ++ 0 ∷ []) E)
        → HasBelow (p ++ 1 ∷ []) E
    go (inl g) =
        let s = snoc-same c.0 p 0 0 (sym g.0 ∙ e) in
        let P : List ℕ → Type 0 = λ a. HasBelow (a ++ 1 ∷ []) E in subst P s.0 g.1
    go (inr g) = let s = snoc-same c.0 p 1 0 (sym g.0 ∙ e) in let z = s.1 in absurd (omega (arith, z))

child-of-one : (p k : List ℕ) (E : Entries) → k ≡ p ++ 1 ∷ [] → IsForkChild k E → HasBelow (p ++ 0 ∷ []) E
child-of-one p k E e c = go c.1
  where
    go : ((k ≡ c.0 ++ 0 ∷ []) × HasBelow (c.0 ++ 1 ∷ []) E) ⊎ ((k ≡ c.0 ++ 1 ∷ []) × HasBelow (c.0 ++ 0 ∷ []) E)
        → HasBelow (p ++ 0 ∷ []) E
    go (inl g) = let s = snoc-same c.0 p 0 1 (sym g.0 ∙ e) in let z = s.1 in absurd (omega (arith, z))
    go (inr g) =
        let s = snoc-same c.0 p 1 1 (sym g.0 ∙ e) in
        let P : List ℕ → Type 0 = λ a. HasBelow (a ++ 0 ∷ []) E in subst P s.0 g.1

-- where the keys that go on with 1 after p stand
ones-later : (n : ℕ) (D F : Entries) (p k : List ℕ) (x : Part) → AreInOrder n (D ++ (k, x) ∷ F) → k ≡ p ++ 0 ∷ []
    → HasBelow (p ++ 1 ∷ []) (D ++ (k, x) ∷ F) → HasBelow (p ++ 1 ∷ []) F
ones-later n D F p k x o e h = go (among-either (p ++ 1 ∷ [] ++ h.0) h.1 D ((k, x) ∷ F) h.2)
  where
    go : IsAmong (p ++ 1 ∷ [] ++ h.0) h.1 D ⊎ (((k ≡ p ++ 1 ∷ [] ++ h.0) × (x ≡ h.1)) ⊎ IsAmong (p ++ 1 ∷ [] ++ h.0) h.1 F)
        → HasBelow (p ++ 1 ∷ []) F
    go (inl a) =
        let P : List ℕ → Type 0 = Before (p ++ 1 ∷ [] ++ h.0) in
        absurd (one-not_before_zero p h.0 [] (subst P (e ∙ sym (append-nil (p ++ 0 ∷ []))) (earlier-before n D (k, x) F o (p ++ 1 ∷ [] ++ h.0) h.1 a)))
    go (inr (inl a)) = absurd (apart p h.0 [] 1 0 (λ z. omega (arith, z)) (sym a.0 ∙ e ∙ sym (append-nil (p ++ 0 ∷ []))))
    go (inr (inr a)) = (h.0, h.1, a)

zeros-earlier : (n : ℕ) (D F : Entries) (p k : List ℕ) (x : Part) → AreInOrder n (D ++ (k, x) ∷ F) → k ≡ p ++ 1 ∷ []
    → HasBelow (p ++ 0 ∷ []) (D ++ (k, x) ∷ F) → HasBelow (p ++ 0 ∷ []) D
zeros-earlier n D F p k x o e h = go (among-either (p ++ 0 ∷ [] ++ h.0) h.1 D ((k, x) ∷ F) h.2)
  where
    go : IsAmong (p ++ 0 ∷ [] ++ h.0) h.1 D ⊎ (((k ≡ p ++ 0 ∷ [] ++ h.0) × (x ≡ h.1)) ⊎ IsAmong (p ++ 0 ∷ [] ++ h.0) h.1 F)
        → HasBelow (p ++ 0 ∷ []) D
    go (inl a) = (h.0, h.1, a)
    go (inr (inl a)) = absurd (apart p h.0 [] 0 1 (λ z. omega (arith, z)) (sym a.0 ∙ e ∙ sym (append-nil (p ++ 1 ∷ []))))
    go (inr (inr a)) =
        let P : List ℕ → Type 0 = λ t. Before t (p ++ 0 ∷ [] ++ h.0) in
        absurd (one-not_before_zero p [] h.0 (subst P (e ∙ sym (append-nil (p ++ 1 ∷ []))) (later-after n D (k, x) F o (p ++ 0 ∷ [] ++ h.0) h.1 a)))

-- ---- what the test on the neighbor says

pub zero-alone : (n : ℕ) (D : Entries) (p k : List ℕ) (x : Part) → AreInOrder n (D ++ (k, x) ∷ []) → k ≡ p ++ 0 ∷ []
    → IsTrue false ↔ IsForkChild k (D ++ (k, x) ∷ [])
zero-alone n D p k x o e =
    ((λ h. absurd (never h)), (λ c. absurd ((ones-later n D [] p k x o e (child-of-zero p k _ e c)).2)))
  where
    never : false ≡ true → ⊥
    never h = cc

pub zero-next : (n : ℕ) (D F : Entries) (p k f : List ℕ) (x y : Part) (m : ℕ) (r : Bool)
    → AreInOrder n (D ++ (k, x) ∷ (f, y) ∷ F) → k ≡ p ++ 0 ∷ [] → suc m ≡ length k → IsTrue r ↔ BeginTogether m k f
    → IsTrue r ↔ IsForkChild k (D ++ (k, x) ∷ (f, y) ∷ F)
zero-next n D F p k f x y m r o e l t = (there, back)
  where
    next : Before k f
    next = later-after n D (k, x) ((f, y) ∷ F) o f y (inl (refl, refl))

    there : IsTrue r → IsForkChild k (D ++ (k, x) ∷ (f, y) ∷ F)
    there h =
        let w : f ≡ p ++ drop m f = together p k f 0 m e l (t.0 h).2 in
        let bits : AreBits f = order-bits-of n (D ++ (k, x) ∷ []) (f, y) F (subst (AreInOrder n) (sym (append_assoc D ((k, x) ∷ []) ((f, y) ∷ F))) o) in
        let P : List ℕ → Type 0 = λ a. Before a (p ++ drop m f) in
        let Q : List ℕ → Type 0 = Before k in
        let j = after-zero p (drop m f) (bits-drop m f bits) (subst P e (subst Q w next)) in
        let same : f ≡ p ++ 1 ∷ [] ++ j.0 = w ∙ ap (λ (a : List ℕ). p ++ a) j.1 ∙ sym (append_assoc p (1 ∷ []) j.0) in
        (p, inl (e, (j.0, y, among-right (p ++ 1 ∷ [] ++ j.0) y D ((k, x) ∷ (f, y) ∷ F) (inr (inl (same, refl))))))

    back : IsForkChild k (D ++ (k, x) ∷ (f, y) ∷ F) → IsTrue r
    back c = go (ones-later n D ((f, y) ∷ F) p k x o e (child-of-zero p k _ e c))
      where
        go : HasBelow (p ++ 1 ∷ []) ((f, y) ∷ F) → IsTrue r
        go (j, z, inl a) = t.1 (begins-so p k f (1 ∷ j) 0 m e l (a.0 ∙ append_assoc p (1 ∷ []) j))
        go (j, z, inr a) =
            let after : Before f (p ++ 1 ∷ [] ++ j) = later-after n (D ++ (k, x) ∷ []) (f, y) F (subst (AreInOrder n) (sym (append_assoc D ((k, x) ∷ []) ((f, y) ∷ F))) o) (p ++ 1 ∷ [] ++ j) z a in
            let P : List ℕ → Type 0 = λ b. Before b f in
            let Q : List ℕ → Type 0 = Before f in
            let w = between p (0 ∷ []) (1 ∷ j) f (subst P e next) (subst Q (append_assoc p (1 ∷ []) j) after) in
            t.1 (begins-so p k f w.0 0 m e l w.1)

pub one-alone : (n : ℕ) (F : Entries) (p k : List ℕ) (x : Part) → AreInOrder n ((k, x) ∷ F) → k ≡ p ++ 1 ∷ []
    → IsTrue false ↔ IsForkChild k ((k, x) ∷ F)
one-alone n F p k x o e =
    ((λ h. absurd (never h)), (λ c. absurd ((zeros-earlier n [] F p k x o e (child-of-one p k ((k, x) ∷ F) e c)).2)))
  where
    never : false ≡ true → ⊥
    never h = cc

pub one-next : (n : ℕ) (D F : Entries) (p k f : List ℕ) (x y : Part) (m : ℕ) (r : Bool)
    → AreInOrder n (D ++ (f, y) ∷ (k, x) ∷ F) → k ≡ p ++ 1 ∷ [] → suc m ≡ length k → IsTrue r ↔ BeginTogether m f k
    → IsTrue r ↔ IsForkChild k (D ++ (f, y) ∷ (k, x) ∷ F)
one-next n D F p k f x y m r o e l t = (there, back)
  where
    next : Before f k
    next = later-after n D (f, y) ((k, x) ∷ F) o k x (inl (refl, refl))

    there : IsTrue r → IsForkChild k (D ++ (f, y) ∷ (k, x) ∷ F)
    there h =
        let w : f ≡ p ++ drop m f = together p k f 1 m e l (sym (t.0 h).2) in
        let P : List ℕ → Type 0 = λ a. Before a (p ++ 1 ∷ []) in
        let Q : List ℕ → Type 0 = Before f in
        let j = before-one p (drop m f) (subst P w (subst Q e next)) in
        let same : f ≡ p ++ 0 ∷ [] ++ j.0 = w ∙ ap (λ (a : List ℕ). p ++ a) j.1 ∙ sym (append_assoc p (0 ∷ []) j.0) in
        (p, inr (e, (j.0, y, among-right (p ++ 0 ∷ [] ++ j.0) y D ((f, y) ∷ (k, x) ∷ F) (inl (same, refl)))))

    whole : AreInOrder n ((D ++ (f, y) ∷ []) ++ (k, x) ∷ F)
    whole = subst (AreInOrder n) (sym (append_assoc D ((f, y) ∷ []) ((k, x) ∷ F))) o

    back : IsForkChild k (D ++ (f, y) ∷ (k, x) ∷ F) → IsTrue r
    back c =
        let R : Entries → Type 0 = λ E. IsForkChild k E in
        go (zeros-earlier n (D ++ (f, y) ∷ []) F p k x whole e (child-of-one p k _ e (subst R (sym (append_assoc D ((f, y) ∷ []) ((k, x) ∷ F))) c)))
      where
        by : (j : List ℕ) (z : Part) → IsAmong (p ++ 0 ∷ [] ++ j) z D ⊎ IsAmong (p ++ 0 ∷ [] ++ j) z ((f, y) ∷ []) → IsTrue r
        by j z (inl a) =
            let earlier : Before (p ++ 0 ∷ [] ++ j) f = earlier-before n D (f, y) ((k, x) ∷ F) o (p ++ 0 ∷ [] ++ j) z a in
            let P : List ℕ → Type 0 = λ b. Before b f in
            let Q : List ℕ → Type 0 = Before f in
            let w = between p (0 ∷ j) (1 ∷ []) f (subst P (append_assoc p (0 ∷ []) j) earlier) (subst Q e next) in
            t.1 (flip m k f (begins-so p k f w.0 1 m e l w.1))
        by j z (inr (inl a)) = t.1 (flip m k f (begins-so p k f (0 ∷ j) 1 m e l (a.0 ∙ append_assoc p (0 ∷ []) j)))
        by j z (inr (inr a)) = absurd a

        go : HasBelow (p ++ 0 ∷ []) (D ++ (f, y) ∷ []) → IsTrue r
        go h = by h.0 h.1 (among-either (p ++ 0 ∷ [] ++ h.0) h.1 D ((f, y) ∷ []) h.2)

-- a key without bits is no child of a fork
pub no-bits : (k : List ℕ) (E : Entries) → length k ≡ 0 → IsTrue false ↔ IsForkChild k E
no-bits k E e = ((λ h. absurd (never h)), (λ c. absurd (go c.0 c.1)))
  where
    never : false ≡ true → ⊥
    never h = cc

    long : (p : List ℕ) (b : ℕ) → k ≡ p ++ b ∷ [] → ⊥
    long p b f = let l = length-append p (b ∷ []) in let s : length k ≡ length (p ++ b ∷ []) = ap length f in omega (arith, e, l, s)

    go : (p : List ℕ) → ((k ≡ p ++ 0 ∷ []) × HasBelow (p ++ 1 ∷ []) E) ⊎ ((k ≡ p ++ 1 ∷ []) × HasBelow (p ++ 0 ∷ []) E) → ⊥
    go p (inl g) = long p 0 g.0
    go p (inr g) = long p 1 g.0

ends-with : (k : List ℕ) (m : ℕ) (b : Bool) (v : ℕ) → suc m ≡ length k → bit_number b ≡ slice_index k m → bit_number b ≡ v
    → k ≡ take m k ++ v ∷ []
ends-with k m b v l e f = last-bit k m l ∙ ap (λ (x : ℕ). take m k ++ x ∷ []) (sym e ∙ f)

length-entries : (E : List Entry) → length (entries_of E) ≡ length E
length-entries E = length-map E entry_of

parts-of : (E B R A : List Entry) (e : Entry) (i : ℕ) → B ≡ take i E → R ≡ drop i E → R ≡ e ∷ A
    → entries_of E ≡ entries_of B ++ entry_of e ∷ entries_of A
parts-of E B R A e i eb er ea =
    ap entries_of (sym (take-append-drop i E) ∙ (λ j. (sym eb) j ++ (sym er ∙ ea) j)) ∙ map-append entry_of B (e ∷ A)

same-place : (B D : Entries) (x y : List ℕ × Part) (A F : Entries) → B ++ x ∷ A ≡ D ++ y ∷ F → length B ≡ length D → x ≡ y
same-place [] [] x y A F e l = head e
  where
    head : x ∷ A ≡ y ∷ F → x ≡ y
    head e = cc
same-place [] (d ∷ D) x y A F e l = absurd (omega (arith, l))
same-place (b ∷ B) [] x y A F e l = absurd (omega (arith, l))
same-place (b ∷ B) (d ∷ D) x y A F e l = same-place B D x y A F (tail e) (omega (arith, l))
  where
    tail : b ∷ (B ++ x ∷ A) ≡ d ∷ (D ++ y ∷ F) → B ++ x ∷ A ≡ D ++ y ∷ F
    tail e = cc

-- ---- the same of entries as the code has them

pub as-zero-alone : (n m : ℕ) (B A : List Entry) (k : List ℕ) (x : Part) (b : Bool) → length A ≡ 0 → b ≡ false
    → bit_number b ≡ slice_index k m → suc m ≡ length k → AreInOrder n (entries_of B ++ (k, x) ∷ entries_of A)
    → IsTrue false ↔ IsForkChild k (entries_of B ++ (k, x) ∷ entries_of A)
as-zero-alone n m B [] k x b z f e l o = zero-alone n (entries_of B) (take m k) k x o (ends-with k m b 0 l e (ap bit_number f))
as-zero-alone n m B (a ∷ A) k x b z f e l o = absurd (omega (arith, z))

pub as-zero-next : (n m : ℕ) (B A R : List Entry) (a : Entry) (k : List ℕ) (x : Part) (b r : Bool) → A ≡ a ∷ R → b ≡ false
    → bit_number b ≡ slice_index k m → suc m ≡ length k → IsTrue r ↔ BeginTogether m k a.key
    → AreInOrder n (entries_of B ++ (k, x) ∷ entries_of A)
    → IsTrue r ↔ IsForkChild k (entries_of B ++ (k, x) ∷ entries_of A)
as-zero-next n m B A R a k x b r s f e l t o =
    let P : List Entry → Type 0 = λ W. AreInOrder n (entries_of B ++ (k, x) ∷ entries_of W) in
    let Q : List Entry → Type 0 = λ W. IsTrue r ↔ IsForkChild k (entries_of B ++ (k, x) ∷ entries_of W) in
    subst Q (sym s) (zero-next n (entries_of B) (entries_of R) (take m k) k a.key x (part_of a.part) m r (subst P s o) (ends-with k m b 0 l e (ap bit_number f)) l t)

pub as-one-alone : (n m : ℕ) (B A : List Entry) (k : List ℕ) (x : Part) (b : Bool) → length B ≡ 0 → b ≡ true
    → bit_number b ≡ slice_index k m → suc m ≡ length k → AreInOrder n (entries_of B ++ (k, x) ∷ entries_of A)
    → IsTrue false ↔ IsForkChild k (entries_of B ++ (k, x) ∷ entries_of A)
as-one-alone n m [] A k x b z f e l o = one-alone n (entries_of A) (take m k) k x o (ends-with k m b 1 l e (ap bit_number f))
as-one-alone n m (a ∷ B) A k x b z f e l o = absurd (omega (arith, z))

pub as-one-next : (n m : ℕ) (B A R : List Entry) (a : Entry) (k : List ℕ) (x : Part) (b r : Bool) → B ≡ R ++ a ∷ [] → b ≡ true
    → bit_number b ≡ slice_index k m → suc m ≡ length k → IsTrue r ↔ BeginTogether m a.key k
    → AreInOrder n (entries_of B ++ (k, x) ∷ entries_of A)
    → IsTrue r ↔ IsForkChild k (entries_of B ++ (k, x) ∷ entries_of A)
as-one-next n m B A R a k x b r s f e l t o =
    let all : entries_of B ++ (k, x) ∷ entries_of A ≡ entries_of R ++ entry_of a ∷ (k, x) ∷ entries_of A =
    ap (λ (W : Entries). W ++ (k, x) ∷ entries_of A) (ap entries_of s ∙ map-append entry_of R (a ∷ []))
    ∙ append_assoc (entries_of R) (entry_of a ∷ []) ((k, x) ∷ entries_of A) in
    let P : Entries → Type 0 = AreInOrder n in
    let Q : Entries → Type 0 = λ E. IsTrue r ↔ IsForkChild k E in
    subst Q (sym all) (one-next n (entries_of R) (entries_of A) (take m k) k a.key x (part_of a.part) m r (subst P all o) (ends-with k m b 1 l e (ap bit_number f)) l t)

-- ---- the entry at a place

pub hidden-place : (n i : ℕ) (E B R A : List Entry) (e : Entry) (h : Hidden) (r : Bool) → AreInOrder n (entries_of E)
    → B ≡ take i E → R ≡ drop i E → R ≡ e ∷ A → length B ≡ i → part_of e.part ≡ hidden h
    → ((n : ℕ) (x : Part) → AreInOrder n (entries_of B ++ (e.key, x) ∷ entries_of A)
    → IsTrue r ↔ IsForkChild e.key (entries_of B ++ (e.key, x) ∷ entries_of A))
    → IsTrue r ↔ IsPlacedAt i (entries_of E)
hidden-place n i E B R A e h r o eb er ea len p f =
    let whole = parts-of E B R A e i eb er ea in
    let P : Entries → Type 0 = AreInOrder n in
    let Q : Entries → Type 0 = λ W. IsTrue r ↔ IsForkChild e.key W in
    let g = subst Q (sym whole) (f n (part_of e.part) (subst P whole o)) in (
      (λ t ds q k fs s l.
          let same = same-place (entries_of B) ds (entry_of e) (q, hidden k) (entries_of A) fs (sym whole ∙ s) (length-entries B ∙ len ∙ sym l) in
          subst (λ (a : List ℕ). IsForkChild a (entries_of E)) (ap (λ (x : List ℕ × Part). x.0) same) (g.0 t)),
      (λ t. g.1 (t (entries_of B) e.key h (entries_of A) (whole ∙ ap (λ (x : Part). entries_of B ++ (e.key, x) ∷ entries_of A) p) (length-entries B ∙ len))),
    )

pub leaf-place : (n i : ℕ) (E B R A : List Entry) (e : Entry) (c : Slice) → B ≡ take i E → R ≡ drop i E → R ≡ e ∷ A
    → length B ≡ i → part_of e.part ≡ leaf c → IsTrue true ↔ IsPlacedAt i (entries_of E)
leaf-place n i E B R A e c eb er ea len p =
    let whole = parts-of E B R A e i eb er ea in (
      (λ t ds q k fs s l.
          let same = same-place (entries_of B) ds (entry_of e) (q, hidden k) (entries_of A) fs (sym whole ∙ s) (length-entries B ∙ len ∙ sym l) in
          absurd (never c k (sym p ∙ ap (λ (x : List ℕ × Part). x.1) same))),
      (λ t. refl),
    )
  where
    never : (c : Slice) (k : Hidden) → leaf c ≡ hidden k → ⊥
    never c k e = cc

pub no-place : (i : ℕ) (E R : List Entry) → R ≡ drop i E → length R ≡ 0 → i < length E → ⊥
no-place i E R e z l =
    let k : length R ≡ length (drop i E) = ap length e in let d = length-drop i E in omega (arith, z, l, k, d)

-- ---- one place after another

pub placed-more : (i : ℕ) (E : List Entry) → i < length E → IsPlacedAt i (entries_of E)
    → ArePlaced (entries_of (take i E)) (entries_of E) → ArePlaced (entries_of (take (i + 1) E)) (entries_of E)
placed-more i [] l p a = absurd (omega (arith, l))
placed-more i (d ∷ E) l p a = λ q h m.
    let x = get_or (d ∷ E) i d in
    let more : entries_of (take (i + 1) (d ∷ E)) ≡ entries_of (take i (d ∷ E)) ++ entry_of x ∷ [] =
    ap entries_of (take_more (d ∷ E) i d l) ∙ map-append entry_of (take i (d ∷ E)) (x ∷ []) in
    let P : Entries → Type 0 = λ W. IsAmong q (hidden h) W in
    go q h x refl (among-either q (hidden h) (entries_of (take i (d ∷ E))) (entry_of x ∷ []) (subst P more m))
  where
    go : (q : List ℕ) (h : Hidden) (x : Entry) → x ≡ get_or (d ∷ E) i d
        → IsAmong q (hidden h) (entries_of (take i (d ∷ E))) ⊎ (((x.key ≡ q) × (part_of x.part ≡ hidden h)) ⊎ ⊥)
        → IsForkChild q (entries_of (d ∷ E))
    go q h x e (inl m) = a q h m
    go q h x e (inr (inl m)) =
        let whole = parts-of (d ∷ E) (take i (d ∷ E)) (drop i (d ∷ E)) (drop (i + 1) (d ∷ E)) x i refl refl (drop_more (d ∷ E) i d l ∙ ap (λ (y : Entry). y ∷ drop (i + 1) (d ∷ E)) (sym e)) in
        p (entries_of (take i (d ∷ E))) q h (entries_of (drop (i + 1) (d ∷ E))) (whole ∙ (λ j. entries_of (take i (d ∷ E)) ++ (m.0 j, m.1 j) ∷ entries_of (drop (i + 1) (d ∷ E)))) (length-entries (take i (d ∷ E)) ∙ length-take-le i (d ∷ E) (omega (arith, l)))
    go q h x e (inr (inr m)) = absurd m

first-misplaced : (i : ℕ) (E : List Entry) (e : Entry) → i < length E → e ≡ get_or E i e
    → (IsPlacedAt i (entries_of E) → ⊥) → ArePlaced (entries_of (take i E)) (entries_of E)
    → IsFirstMisplaced e.key (entries_of E)
first-misplaced i E e l g f a = go (part_of e.part) refl
  where
    whole : entries_of E ≡ entries_of (take i E) ++ entry_of e ∷ entries_of (drop (i + 1) E)
    whole = parts-of E (take i E) (drop i E) (drop (i + 1) E) e i refl refl (drop_more E i e l ∙ ap (λ (y : Entry). y ∷ drop (i + 1) E) (sym g))

    len : length (take i E) ≡ i
    len = length-take-le i E (omega (arith, l))

    go : (x : Part) → part_of e.part ≡ x → IsFirstMisplaced e.key (entries_of E)
    go (leaf c) p = absurd (f ((leaf-place 0 i E (take i E) (drop i E) (drop (i + 1) E) e c refl refl (drop_more E i e l ∙ ap (λ (y : Entry). y ∷ drop (i + 1) E) (sym g)) len p).0 refl))
    go (hidden h) p = (
      entries_of (take i E),
      h,
      entries_of (drop (i + 1) E),
      whole ∙ ap (λ (x : Part). entries_of (take i E) ++ (e.key, x) ∷ entries_of (drop (i + 1) E)) p,
      (λ c. f (λ ds q k fs s m.
          let same = same-place (entries_of (take i E)) ds (entry_of e) (q, hidden k) (entries_of (drop (i + 1) E)) fs (sym whole ∙ s) (length-entries (take i E) ∙ len ∙ sym m) in
          subst (λ (b : List ℕ). IsForkChild b (entries_of E)) (ap (λ (x : List ℕ × Part). x.0) same) c)),
      a,
    )

pub first-misplaced-at : (i : ℕ) (E : List Entry) (e : Entry) (k : List ℕ) → i < length E → e ≡ get_or E i e
    → k ≡ (get_or E i e).key → (IsPlacedAt i (entries_of E) → ⊥) → ArePlaced (entries_of (take i E)) (entries_of E)
    → IsFirstMisplaced k (entries_of E)
first-misplaced-at i E e k l g s f a =
    let P : List ℕ → Type 0 = λ q. IsFirstMisplaced q (entries_of E) in
    subst P (sym (s ∙ ap (λ (x : Entry). x.key) (sym g))) (first-misplaced i E e l g f a)

pub all-placed : (i : ℕ) (E : List Entry) → length E ≤ i → ArePlaced (entries_of (take i E)) (entries_of E)
    → AllPlaced (entries_of E)
all-placed i E l a =
    let P : List Entry → Type 0 = λ W. ArePlaced (entries_of W) (entries_of E) in subst P (take_all i E l) a
