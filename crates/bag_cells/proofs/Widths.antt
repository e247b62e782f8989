-- Numbers in bytes.
use Rattle.std.proofs.Common.{◌≡◌, ◌∙◌, ℕ, zero, suc, ◌+◌, ◌-◌, ◌*◌, ◌/◌, ◌%◌, ◌^◌, ◌<◌, ◌≤◌, [], ◌∷◌, ◌++◌, length, refl, ap, sym, ⊎_elim, arith}
use Rattle.std.proofs.lemmas.Bool.{cases_lt, lt-ltb, le-ltb}
use Rattle.std.proofs.lemmas.List.{length-append}
use Rattle.std.proofs.Math.Nat.{pow-succ'}
use Rattle.bag_cells.specs.Written.{number_bytes, width_within, width_of}

-- ---- widths

small_width : (most n : ℕ) → n < 256 → width_within most n ≡ 1
unfolding width_within
small_width zero n h = refl
small_width (suc most) n h = rw (lt-ltb n 256 h) refl

large_width : (most n : ℕ) → 256 ≤ n → width_within (suc most) n ≡ 1 + width_within most (n / 256)
unfolding width_within
large_width most n h = rw (le-ltb n 256 h) refl

-- more steps than needed change nothing
enough : (a b n : ℕ) → n ≤ a → n ≤ b → width_within a n ≡ width_within b n
enough zero b n h k = small_width zero n (omega arith) ∙ sym (small_width b n (omega arith))
enough (suc a) zero n h k = small_width (suc a) n (omega arith) ∙ sym (small_width zero n (omega arith))
enough (suc a) (suc b) n h k = ⊎_elim
    (λ (l : n < 256). small_width (suc a) n l ∙ sym (small_width (suc b) n l))
    (λ (l : 256 ≤ n).
    large_width a n l ∙ ap (λ (w : ℕ). 1 + w) (enough a b (n / 256) (omega arith) (omega arith)) ∙ sym (large_width b n l))
    (cases_lt n 256)

pub width_of-small : (n : ℕ) → n < 256 → width_of n ≡ 1
width_of-small n h = small_width n n h

large_by : (n m : ℕ) → 256 ≤ n → n ≡ suc m → width_of n ≡ 1 + width_of (n / 256)
large_by n m h e =
    ap (λ (k : ℕ). width_within k n) e ∙ large_width m n h ∙ ap (λ (w : ℕ). 1 + w) (enough m (n / 256) (n / 256) (omega arith) (omega arith))

pub width_of-large : (n : ℕ) → 256 ≤ n → width_of n ≡ 1 + width_of (n / 256)
width_of-large n h = let e : n ≡ suc (n - 1) = omega arith in large_by n (n - 1) h e

width_zero : (n k : ℕ) → width_within zero n ≤ suc k
unfolding width_within
width_zero n k = omega arith

width-bound_within : (most n k : ℕ) → n < 256 ^ suc k → width_within most n ≤ suc k
width-bound_within zero n k h = width_zero n k
width-bound_within (suc most) n zero h = let l : n < 256 = omega arith in let e = small_width (suc most) n l in omega arith
width-bound_within (suc most) n (suc k) h = ⊎_elim
    (λ (l : n < 256). let e = small_width (suc most) n l in omega arith)
    (λ (l : 256 ≤ n).
    let e = large_width most n l in
    let p : n < 256 * 256 ^ suc k = omega (arith, pow-succ' 256 (suc k)) in
    omega (arith, width-bound_within most (n / 256) k (omega arith)))
    (cases_lt n 256)

-- a number below 256^w has at most w bytes
pub width-bound : (n w : ℕ) → 1 ≤ w → n < 256 ^ w → width_of n ≤ w
width-bound n zero h k = absurd (omega arith)
width-bound n (suc w) h k = width-bound_within n n w k

one_le-width_within : (most n : ℕ) → 1 ≤ width_within most n
unfolding width_within
one_le-width_within zero n = omega arith
one_le-width_within (suc most) n = ⊎_elim
    (λ (l : n < 256). rw (lt-ltb n 256 l) (omega arith))
    (λ (l : 256 ≤ n). rw (le-ltb n 256 l) (omega arith))
    (cases_lt n 256)

pub one_le-width : (n : ℕ) → 1 ≤ width_of n
one_le-width n = one_le-width_within n n

fits_within : (most n : ℕ) → n ≤ most → n < 256 ^ width_within most n
fits_within zero n h = let e = small_width zero n (omega arith) in rw e (omega arith)
fits_within (suc most) n h = ⊎_elim
    (λ (l : n < 256). let e = small_width (suc most) n l in rw e (omega arith))
    (λ (l : 256 ≤ n).
    let e = large_width most n l in
    let f = fits_within most (n / 256) (omega arith) in
    let p : 256 ^ (1 + width_within most (n / 256)) ≡ 256 * 256 ^ width_within most (n / 256) = more_pow (width_within most (n / 256)) in
    rw (e, p) (omega arith))
    (cases_lt n 256)
  where
    more_pow : (w : ℕ) → 256 ^ (1 + w) ≡ 256 * 256 ^ w
    more_pow w = let e : 1 + w ≡ suc w = omega arith in rw e (pow-succ' 256 w)

-- a number fits into its bytes
pub width-fits : (n : ℕ) → n < 256 ^ width_of n
width-fits n = fits_within n n (omega arith)

pub width-few : (n : ℕ) → n < 2 ^ 64 → width_of n ≤ 8
width-few n h = width-bound n 8 (omega arith) h

-- ---- bytes

pub number_bytes-none : (n : ℕ) → number_bytes 0 n ≡ []
unfolding number_bytes
number_bytes-none n = refl

pub number_bytes-more : (w n : ℕ) → 1 ≤ w → number_bytes w n ≡ number_bytes (w - 1) (n / 256) ++ n % 256 ∷ []
unfolding number_bytes
number_bytes-more zero n h = absurd (omega arith)
number_bytes-more (suc w) n h = let e : suc w - 1 ≡ w = omega arith in rw e refl

pub length-number_bytes : (w n : ℕ) → length (number_bytes w n) ≡ w
unfolding number_bytes
length-number_bytes zero n = refl
length-number_bytes (suc w) n = omega (arith, length-append (number_bytes w (n / 256)) (n % 256 ∷ []), length-number_bytes w (n / 256))
