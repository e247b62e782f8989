-- There is one list in increasing order with given numbers.
use Rattle.std.proofs.Common.{◌≡◌, ◌∙◌, ◌<◌, ◌≤◌, ◌+◌, ◌-◌, ap, sym, refl, arith, ℕ, suc, Bool, true, false, List, [], ◌∷◌, get_or, length}
use Rattle.std.specs.Prelude.{nat_le, if◌then◌else◌}
use Rattle.std.specs.List.{sum_by}
use Rattle.std.specs.List.Sorted.{IsNonDecreasing, IsPermutation}
use Rattle.std.proofs.lemmas.List.Sorted.{sum_by-IsPermutation}
use Rattle.std.proofs.lemmas.List.Sums.{sum_by-cons}
use Rattle.sample_message.specs.Keys.{in_order, put_in}

-- none of them is below this one
abbrev Least : ℕ → List ℕ → Type 0
Least x [] = Unit {0}
Least x (y ∷ ys) = (x ≤ y) × Least x ys

abbrev Rises : List ℕ → Type 0
Rises [] = Unit {0}
Rises (x ∷ xs) = Least x xs × Rises xs

-- ---- a sorted list

least-from : (x : ℕ) (xs : List ℕ) → ((j : ℕ) → j < length xs → x ≤ get_or xs j 0) → Least x xs
least-from x [] h = tt
least-from x (y ∷ ys) h = (h 0 (omega arith), least-from x ys (λ j l. h (suc j) (omega (arith, l))))

rises-from : (xs : List ℕ) → IsNonDecreasing xs → Rises xs
rises-from [] h = tt
rises-from (x ∷ xs) h = (
  least-from x xs (λ j l. h 0 (suc j) 0 (omega arith) (omega (arith, l))),
  rises-from xs (λ i j d l m. h (suc i) (suc j) d (omega (arith, l)) (omega (arith, m))),
)

-- ---- the list in order

least-below : (x y : ℕ) (ys : List ℕ) → x ≤ y → Least y ys → Least x ys
least-below x y [] l h = tt
least-below x y (z ∷ zs) l h = (let m = h.0 in omega (arith, l, m), least-below x y zs l h.1)

least-put : (a x : ℕ) (ys : List ℕ) → a ≤ x → Least a ys → Least a (put_in x ys)
least-put a x [] l h = (l, tt)
least-put a x (y ∷ ys) l h = go (nat_le x y) (least-put a x ys l h.1)
  where
    go : (b : Bool) → Least a (put_in x ys) → Least a (if b then x ∷ y ∷ ys else y ∷ put_in x ys)
    go true others = (l, h)
    go false others = (h.0, others)

rises-put : (x : ℕ) (ys : List ℕ) → Rises ys → Rises (put_in x ys)
rises-put x [] h = (tt, tt)
rises-put x (y ∷ ys) h = go (nat_le x y) refl (rises-put x ys h.1)
  where
    go : (b : Bool) → nat_le x y ≡ b → Rises (put_in x ys) → Rises (if b then x ∷ y ∷ ys else y ∷ put_in x ys)
    go true e others = let l : x ≤ y = grind (arith, e) in ((l, least-below x y ys l h.0), h)
    go false e others = (least-put y x ys (grind (arith, e)) h.0, others)

rises-in_order : (xs : List ℕ) → Rises (in_order xs)
rises-in_order [] = tt
rises-in_order (x ∷ xs) = rises-put x (in_order xs) (rises-in_order xs)

-- ---- with the same numbers

sum-put : (f : ℕ → ℕ) (x : ℕ) (ys : List ℕ) → sum_by f (put_in x ys) ≡ sum_by f (x ∷ ys)
sum-put f x [] = refl
sum-put f x (y ∷ ys) = go (nat_le x y) (sum-put f x ys)
  where
    go : (b : Bool) → sum_by f (put_in x ys) ≡ sum_by f (x ∷ ys)
        → sum_by f (if b then x ∷ y ∷ ys else y ∷ put_in x ys) ≡ sum_by f (x ∷ y ∷ ys)
    go true others = refl
    go false others =
        let a : sum_by f (y ∷ put_in x ys) ≡ f y + sum_by f (put_in x ys) = sum_by-cons f y (put_in x ys) in
        let b : sum_by f (x ∷ y ∷ ys) ≡ f x + sum_by f (y ∷ ys) = sum_by-cons f x (y ∷ ys) in
        let d : sum_by f (y ∷ ys) ≡ f y + sum_by f ys = sum_by-cons f y ys in
        let c : sum_by f (x ∷ ys) ≡ f x + sum_by f ys = sum_by-cons f x ys in
        omega (arith, others, a, b, c, d)

sum-in_order : (f : ℕ → ℕ) (xs : List ℕ) → sum_by f (in_order xs) ≡ sum_by f xs
sum-in_order f [] = refl
sum-in_order f (x ∷ xs) =
    sum-put f x (in_order xs) ∙ sum_by-cons f x (in_order xs) ∙ ap (λ n. f x + n) (sum-in_order f xs) ∙ sym (sum_by-cons f x xs)

-- ---- there is one

abbrev SameSums : List ℕ → List ℕ → Type 0
SameSums xs ys = (f : ℕ → ℕ) → sum_by f xs ≡ sum_by f ys

-- how many of them are at most x, or more
abbrev up_to : ℕ → ℕ → ℕ
up_to x z = suc x - z

none-up_to : (x y : ℕ) (ys : List ℕ) → x < y → Least y ys → sum_by (up_to x) ys ≡ 0
none-up_to x y [] l h = refl
none-up_to x y (z ∷ zs) l h =
    let m = h.0 in
    let rest = none-up_to x y zs l h.1 in
    sum_by-cons (up_to x) z zs ∙ omega (arith, l, m, rest)

not-below : (x y : ℕ) (xs ys : List ℕ) → Least y ys → SameSums (x ∷ xs) (y ∷ ys) → x < y → ⊥
not-below x y xs ys h same l =
    let sums = same (up_to x) in
    let none = none-up_to x y ys l h in
    let a = sum_by-cons (up_to x) x xs in
    let b = sum_by-cons (up_to x) y ys in
    omega (arith, sums, none, l, a, b)

pub one-order : (xs ys : List ℕ) → Rises xs → Rises ys → SameSums xs ys → xs ≡ ys
one-order [] [] h k same = refl
one-order [] (y ∷ ys) h k same = let sums = same (λ z. 1) in let a = sum_by-cons (λ z. 1) y ys in absurd (omega (arith, sums, a))
one-order (x ∷ xs) [] h k same = let sums = same (λ z. 1) in let a = sum_by-cons (λ z. 1) x xs in absurd (omega (arith, sums, a))
one-order (x ∷ xs) (y ∷ ys) h k same =
    let up : x < y → ⊥ = not-below x y xs ys k.0 same in
    let down : y < x → ⊥ = not-below y x ys xs h.0 (λ f. sym (same f)) in
    let first : x ≡ y = grind (arith, up, down) in
    let rest : SameSums xs ys = λ f. let sums = same f in
    let head = ap f first in
    let a = sum_by-cons f x xs in
    let b = sum_by-cons f y ys in
    omega (arith, sums, head, a, b) in
    let others = one-order xs ys h.1 k.1 rest in
    cc

pub is-in_order : (xs ys : List ℕ) → IsPermutation xs ys → IsNonDecreasing ys → ys ≡ in_order xs
is-in_order xs ys moved sorted =
    one-order ys (in_order xs) (rises-from ys sorted) (rises-in_order xs)
    (λ f. sum_by-IsPermutation f xs ys moved ∙ sym (sum-in_order f xs))
