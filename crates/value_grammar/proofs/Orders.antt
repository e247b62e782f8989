-- The order of bits: what comes before, and lists of keys in order.
use Rattle.std.proofs.Common.{◌≡◌, ◌⊎◌, inl, inr, ℕ, zero, suc, ◌<◌, ◌==◌, Bool, true, false, ◌&&◌, not, IsTrue, bytes_eq, List, [], ◌∷◌, ◌++◌, map, take, drop, length, refl, ◌∙◌, arith, ⊎_elim}
use Rattle.std.proofs.lemmas.Bool.Decides.{nat_tests}
use Rattle.cell_nodes.specs.declared.tree.Hidden.{Hidden}
use Rattle.typed_value.specs.Values.{Plain}
use Rattle.typed_value.specs.View.{pairs_of}
use Rattle.value_text.specs.Text.{comes_before, count_before}
use Rattle.value_text.specs.Writes.{comes_after, in_order, keys_of}
use Rattle.value_grammar.proofs.Texts.{AllBefore, NoneAfter}

abbrev Before : List ℕ → List ℕ → Type 0
Before a b = comes_before a b ≡ true

-- the first bits differ, or they are the same
abbrev ByFirst : ℕ → ℕ → List ℕ → List ℕ → Type 0
ByFirst x y xs ys = (x < y) ⊎ ((x ≡ y) × Before xs ys)

by_first : (x y : ℕ) (xs ys : List ℕ) → Before (x ∷ xs) (y ∷ ys) → ByFirst x y xs ys
by_first x y xs ys h = by_test (x == y) refl
  where
    by_test : (b : Bool) → (x == y) ≡ b → ByFirst x y xs ys
    by_test true e = inr ((let s : x ≡ y = grind (arith, nat_tests) in s), (let k : Before xs ys = grind (arith, nat_tests) in k))
    by_test false e = inl (let s : x < y = grind (arith, nat_tests) in s)

first_less : (x y : ℕ) (xs ys : List ℕ) → x < y → Before (x ∷ xs) (y ∷ ys)
first_less x y xs ys l = grind (arith, nat_tests)

first_same : (x y : ℕ) (xs ys : List ℕ) → x ≡ y → Before xs ys → Before (x ∷ xs) (y ∷ ys)
first_same x y xs ys e h = grind (arith, nat_tests)

pub before_trans : (a b c : List ℕ) → Before a b → Before b c → Before a c
before_trans a b [] h k = absurd (cc)
before_trans [] b (z ∷ zs) h k = refl
before_trans (x ∷ xs) [] (z ∷ zs) h k = absurd (cc)
before_trans (x ∷ xs) (y ∷ ys) (z ∷ zs) h k = ⊎_elim
    (λ (l : x < y). ⊎_elim
    (λ (m : y < z). first_less x z xs zs (omega arith))
    (λ (m : (y ≡ z) × Before ys zs). let e = m.0 in first_less x z xs zs (omega arith))
    (by_first y z ys zs k))
    (λ (l : (x ≡ y) × Before xs ys). ⊎_elim
    (λ (m : y < z). let e = l.0 in first_less x z xs zs (omega arith))
    (λ (m : (y ≡ z) × Before ys zs). first_same x z xs zs (l.0 ∙ m.0) (before_trans xs ys zs l.1 m.1))
    (by_first y z ys zs k))
    (by_first x y xs ys h)

pub not_before_itself : (a : List ℕ) → Before a a → ⊥
not_before_itself [] h = absurd (cc)
not_before_itself (x ∷ xs) h = ⊎_elim
    (λ (l : x < x). absurd (omega arith))
    (λ (l : (x ≡ x) × Before xs xs). not_before_itself xs l.1)
    (by_first x x xs xs h)

pub before_asym : (a b : List ℕ) → Before a b → comes_before b a ≡ false
before_asym a b h = by_test (comes_before b a) refl
  where
    by_test : (t : Bool) → comes_before b a ≡ t → t ≡ false
    by_test true e = absurd (not_before_itself a (before_trans a b a h e))
    by_test false e = refl

-- ---- keys in order

abbrev pub AllKeysBefore : List (List ℕ) → List ℕ → Type 0
AllKeysBefore [] k = Unit {0}
AllKeysBefore (x ∷ xs) k = Before x k × AllKeysBefore xs k

and_first : (a b : Bool) → IsTrue (a && b) → a ≡ true
and_first true b h = refl
and_first false b h = absurd (cc)

and_second : (a b : Bool) → IsTrue (a && b) → IsTrue b
and_second true b h = h
and_second false b h = absurd (cc)

and_both : (a b : Bool) → a ≡ true → IsTrue b → IsTrue (a && b)
and_both true b e h = h
and_both false b e h = absurd (cc)

first_true : (a b : Bool) → (a && b) ≡ true → a ≡ true
first_true true b e = refl
first_true false b e = e

after_before : (a b : List ℕ) → comes_after a b ≡ true → Before a b
after_before a b h = first_true (comes_before a b) (not (bytes_eq (take (length a) b) a)) h

-- the first of keys in order comes before the last
first_before : (x : List ℕ) (xs : List (List ℕ)) (k : List ℕ) → IsTrue (in_order (x ∷ xs ++ k ∷ [])) → Before x k
first_before x [] k h = after_before x k (and_first (comes_after x k) true h)
first_before x (y ∷ ys) k h =
    before_trans x y k
    (after_before x y (and_first (comes_after x y) (in_order (y ∷ ys ++ k ∷ [])) h))
    (first_before y ys k (and_second (comes_after x y) (in_order (y ∷ ys ++ k ∷ [])) h))

tail_in_order : (x : List ℕ) (xs : List (List ℕ)) (k : List ℕ) → IsTrue (in_order (x ∷ xs ++ k ∷ [])) → IsTrue (in_order (xs ++ k ∷ []))
tail_in_order x [] k h = refl
tail_in_order x (y ∷ ys) k h = and_second (comes_after x y) (in_order (y ∷ ys ++ k ∷ [])) h

pub keys_before : (xs : List (List ℕ)) (k : List ℕ) → IsTrue (in_order (xs ++ k ∷ [])) → AllKeysBefore xs k
keys_before [] k h = tt
keys_before (x ∷ xs) k h = (first_before x xs k h, keys_before xs k (tail_in_order x xs k h))

-- a key that comes after the last
pub order_push : (xs : List (List ℕ)) (last k : List ℕ) → IsTrue (in_order (xs ++ last ∷ [])) → comes_after last k ≡ true
    → IsTrue (in_order ((xs ++ last ∷ []) ++ k ∷ []))
order_push [] last k h e = and_both (comes_after last k) true e refl
order_push (x ∷ []) last k h e =
    and_both (comes_after x last) (comes_after last k && true) (and_first (comes_after x last) true h) (and_both (comes_after last k) true e refl)
order_push (x ∷ y ∷ ys) last k h e =
    and_both (comes_after x y) (in_order ((y ∷ ys ++ last ∷ []) ++ k ∷ []))
    (and_first (comes_after x y) (in_order (y ∷ ys ++ last ∷ [])) h)
    (order_push (y ∷ ys) last k (and_second (comes_after x y) (in_order (y ∷ ys ++ last ∷ [])) h) e)

-- ---- the keys of a map

keys_left : (xs ys : List (List ℕ)) (k : List ℕ) → AllKeysBefore (xs ++ ys) k → AllKeysBefore xs k
keys_left [] ys k h = tt
keys_left (x ∷ xs) ys k h = (h.0, keys_left xs ys k h.1)

keys_right : (xs ys : List (List ℕ)) (k : List ℕ) → AllKeysBefore (xs ++ ys) k → AllKeysBefore ys k
keys_right [] ys k h = h
keys_right (x ∷ xs) ys k h = keys_right xs ys k h.1

prefixes_before : (us : List (List ℕ × Hidden)) (k : List ℕ) → AllKeysBefore (map (λ u. u.0) us) k → AllBefore us k
prefixes_before [] k h = tt
prefixes_before (u ∷ us) k h = (h.0, prefixes_before us k h.1)

both_before : (n : ℕ) (us : List (List ℕ × Hidden)) (k : List ℕ) → AllBefore (take n us) k → AllBefore (drop n us) k → AllBefore us k
both_before zero us k h g = g
both_before (suc n) [] k h g = tt
both_before (suc n) (u ∷ us) k h g = (h.0, both_before n us k h.1 g)

pub hidden_before : (ps : List (List ℕ × Plain)) (us : List (List ℕ × Hidden)) (k : List ℕ) → AllKeysBefore (keys_of (pairs_of ps) us) k → AllBefore us k
hidden_before [] us k h = prefixes_before us k h
hidden_before (p ∷ ps) us k h =
    let c : ℕ = count_before p.0 us in
    let left : List (List ℕ) = map (λ u. u.0) (take c us) in
    let right : List (List ℕ) = p.0 ∷ keys_of (pairs_of ps) (drop c us) in
    both_before c us k (prefixes_before (take c us) k (keys_left left right k h)) (hidden_before ps (drop c us) k (keys_right left right k h).1)

pub pairs_before : (ps : List (List ℕ × Plain)) (us : List (List ℕ × Hidden)) (k : List ℕ) → AllKeysBefore (keys_of (pairs_of ps) us) k → NoneAfter ps k
pairs_before [] us k h = tt
pairs_before (p ∷ ps) us k h =
    let c : ℕ = count_before p.0 us in
    let right = keys_right (map (λ u. u.0) (take c us)) (p.0 ∷ keys_of (pairs_of ps) (drop c us)) k h in
    (before_asym p.0 k right.0, pairs_before ps (drop c us) k right.1)
