-- Where two keys part, and what may follow a key.
use Rattle.std.proofs.Common.{◌≡◌, ◌≢◌, ◌⊎◌, ◌↔◌, inl, inr, ℕ, zero, suc, ◌+◌, ◌<◌, ◌≤◌, Bool, true, false, not, ◌&&◌, ◌||◌, IsTrue, List, [], ◌∷◌, ◌++◌, length, take, drop, Option, Some, None, nat_lt, nat_eq, refl, sym, ap, ◌∙◌, subst, arith, get_or, slice_index}
use Rattle.std.proofs.lemmas.Bool.{lt-ltb, le-ltb, ltb-true, ltb-false, eq-eqb, eqb-true}
use Rattle.std.proofs.lemmas.List.{drop_more, drop_all}
use Rattle.bit_slice.specs.Bits.{AreBits, bit_number}
use Rattle.hashmap_tree.specs.Entries.{Part, Entries}
use Rattle.hashmap_tree.specs.KeyLaws.{before-true, true-before}
use Rattle.hashmap_tree.specs.Keys.{Shares, GoOn, MayFollow}
use Rattle.hashmap_tree.specs.Merged.{is_before}
use Rattle.hashmap_tree.specs.Order.{Before, MayStand, AreInOrder}

-- ---- by the place where they part

head-of : (x y : ℕ) (a b : List ℕ) → x ∷ a ≡ y ∷ b → x ≡ y
head-of x y a b e = cc

tail-of : (x y : ℕ) (a b : List ℕ) → x ∷ a ≡ y ∷ b → a ≡ b
tail-of x y a b e = cc

same-head : (x y : ℕ) (a b : List ℕ) → x ≡ y → is_before (x ∷ a) (y ∷ b) ≡ is_before a b
same-head x y a b e =
    ap (λ t. t || (nat_eq x y && is_before a b)) (le-ltb x y (omega (arith, e)))
    ∙ ap (λ t. t && is_before a b) (eq-eqb x y e)

after-same : (r : ℕ) (a b : List ℕ) → r ≤ length a → r ≤ length b → take r a ≡ take r b
    → is_before a b ≡ is_before (drop r a) (drop r b)
after-same zero a b la lb e = refl
after-same (suc r) [] b la lb e = absurd (omega (arith, la))
after-same (suc r) (x ∷ a) [] la lb e = absurd (omega (arith, lb))
after-same (suc r) (x ∷ a) (y ∷ b) la lb e =
    same-head x y a b (head-of x y _ _ e) ∙ after-same r a b (omega (arith, la)) (omega (arith, lb)) (tail-of x y _ _ e)

none-before : (b : List ℕ) → is_before [] b ≡ false
none-before b = refl

before-none : (a : List ℕ) → is_before a [] ≡ false
before-none [] = refl
before-none (x ∷ a) = refl

-- one of them ends there
pub ends-there : (a b : List ℕ) (r : ℕ) → Shares a b r → (length a ≤ r) ⊎ (length b ≤ r) → is_before a b ≡ false
ends-there a b r s (inl l) =
    after-same r a b s.within_first s.within_second s.same ∙ ap (λ (t : List ℕ). is_before t (drop r b)) (drop_all r a l)
ends-there a b r s (inr l) =
    after-same r a b s.within_first s.within_second s.same
    ∙ ap (is_before (drop r a)) (drop_all r b l) ∙ before-none (drop r a)

-- they differ there
pub parts-there : (a b : List ℕ) (r : ℕ) (x : Bool) → Shares a b r → r < length a → r < length b → AreBits b
    → bit_number x ≡ slice_index a r → not x ≡ is_before a b
parts-there a b r x s la lb bits e =
    let ne = s.differ la lb in
    let da : drop r a ≡ slice_index a r ∷ drop (r + 1) a = drop_more a r 0 la in
    let db : drop r b ≡ slice_index b r ∷ drop (r + 1) b = drop_more b r 0 lb in
    let low : slice_index b r < 2 = bit-at b r bits lb in
    let all = after-same r a b s.within_first s.within_second s.same in
    let heads : is_before (drop r a) (drop r b) ≡ is_before (slice_index a r ∷ drop (r + 1) a) (slice_index b r ∷ drop (r + 1) b) = λ i. is_before (da i) (db i) in
    go x (slice_index a r) (slice_index b r) (drop (r + 1) a) (drop (r + 1) b) e ne low ∙ sym heads ∙ sym all
  where
    bit-at : (b : List ℕ) (r : ℕ) → AreBits b → r < length b → slice_index b r < 2
    bit-at [] r h l = absurd (omega (arith, l))
    bit-at (y ∷ b) zero h l = h.0
    bit-at (y ∷ b) (suc r) h l = bit-at b r h.1 (omega (arith, l))

    differ : (u v : ℕ) → u ≢ v → nat_eq u v ≡ false
    differ u v ne = by (nat_eq u v) refl
      where
        by : (t : Bool) → nat_eq u v ≡ t → t ≡ false
        by true f = absurd (ne (eqb-true u v f))
        by false f = refl

    go : (x : Bool) (u v : ℕ) (p q : List ℕ) → bit_number x ≡ u → u ≢ v → v < 2 → not x ≡ is_before (u ∷ p) (v ∷ q)
    go true u v p q e ne low =
        let one : 1 ≡ u = e in
        let lt : nat_lt u v ≡ false = le-ltb u v (omega (arith, one, low)) in
        let eq : nat_eq u v ≡ false = differ u v ne in
        sym (ap (λ t. t || (nat_eq u v && is_before p q)) lt ∙ ap (λ t. t && is_before p q) eq)
    go false u v p q e ne low =
        let none : 0 ≡ u = e in
        let lt : nat_lt u v ≡ true = lt-ltb u v (positive u v none ne) in
        sym (ap (λ t. t || (nat_eq u v && is_before p q)) lt)
      where
        positive : (u v : ℕ) → 0 ≡ u → u ≢ v → u < v
        positive u zero e ne = absurd (ne (sym e))
        positive u (suc v) e ne = omega (arith, e)

-- ---- the next entry

pub follows-none : (n : ℕ) (k : List ℕ) (x : Part) (b : Bool) (o : Option (List ℕ)) → o ≡ None → AreBits k
    → IsTrue b ↔ MayStand n k x → IsTrue b ↔ MayFollow n o (k, x)
follows-none n k x b o e bits s =
    let P : Option (List ℕ) → Type 0 = λ o. IsTrue b ↔ MayFollow n o (k, x) in
    subst P (sym e) ((λ t. (tt, s.0 t, bits)), (λ m. s.1 m.1))

pub follows-some : (n : ℕ) (k a : List ℕ) (x : Part) (b t : Bool) (o : Option (List ℕ)) → o ≡ Some a → AreBits k
    → t ≡ is_before a k → t ≡ true → IsTrue b ↔ MayStand n k x → IsTrue b ↔ MayFollow n o (k, x)
follows-some n k a x b t o e bits f g s =
    let P : Option (List ℕ) → Type 0 = λ o. IsTrue b ↔ MayFollow n o (k, x) in
    subst P (sym e) ((λ h. (before-true a k (sym f ∙ g), s.0 h, bits)), (λ m. s.1 m.1))

pub follows-not : (n : ℕ) (k a : List ℕ) (x : Part) (t : Bool) (o : Option (List ℕ)) → o ≡ Some a
    → t ≡ is_before a k → t ≡ false → IsTrue t ↔ MayFollow n o (k, x)
follows-not n k a x t o e f g =
    let P : Option (List ℕ) → Type 0 = λ o. IsTrue t ↔ MayFollow n o (k, x) in
    subst P (sym e) ((λ h. absurd (never t g h)), (λ m. absurd (never t g (f ∙ true-before a k m.0))))
  where
    never : (t : Bool) → t ≡ false → t ≡ true → ⊥
    never t e h = cc

-- ---- entries in order, one after another

pub go-on : (n : ℕ) (b : Option (List ℕ)) (e : List ℕ × Part) (es : Entries)
    → GoOn n b (e ∷ es) ↔ (MayFollow n b e × GoOn n (Some e.0) es)
go-on n b e [] = ((λ g. ((g.0, g.1.0, g.1.1), tt)), (λ f. (f.0.0, (f.0.1, f.0.2))))
go-on n b e (f ∷ es) =
    ((λ g. ((g.0, g.1.0, g.1.1), (g.1.2, g.1.3))), (λ h. (h.0.0, (h.0.1, h.0.2, h.1.0, h.1.1))))

-- what is left of the entries goes on after what was seen
abbrev pub StillIn : ℕ → Entries → Option (List ℕ) → Entries → Type 0
StillIn n all b es = AreInOrder n all ↔ GoOn n b es

pub still-start : (n : ℕ) (es : Entries) → StillIn n es None es
still-start n [] = ((λ o. tt), (λ g. tt))
still-start n (e ∷ es) = ((λ o. (tt, o)), (λ g. g.1))

pub still-next : (n : ℕ) (all : Entries) (b : Option (List ℕ)) (e : List ℕ × Part) (es : Entries) → MayFollow n b e
    → StillIn n all b (e ∷ es) → StillIn n all (Some e.0) es
still-next n all b e es f s =
    let k = go-on n b e es in
    ((λ o. (k.0 (s.0 o)).1), (λ g. s.1 (k.1 (f, g))))

pub still-fails : (n : ℕ) (all : Entries) (b : Option (List ℕ)) (e : List ℕ × Part) (es : Entries)
    → (MayFollow n b e → ⊥) → StillIn n all b (e ∷ es) → IsTrue false ↔ AreInOrder n all
still-fails n all b e es f s =
    let k = go-on n b e es in
    ((λ h. absurd (never h)), (λ o. absurd (f (k.0 (s.0 o)).0)))
  where
    never : false ≡ true → ⊥
    never h = cc

pub still-end : (n : ℕ) (all : Entries) (b : Option (List ℕ)) → StillIn n all b [] → IsTrue true ↔ AreInOrder n all
still-end n all b s = ((λ h. s.1 tt), (λ o. refl))
