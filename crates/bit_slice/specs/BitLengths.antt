-- Lemmas on how many binary digits a number has.
use Rattle.std.specs.Prelude.{◌≡◌, ◌≢◌, ℕ, zero, suc, ◌*◌, ◌/◌, ◌^◌, ◌<◌, ◌≤◌}
use Rattle.std.proofs.Common.{refl, arith, ⊎_elim, lit<}
use Rattle.std.proofs.lemmas.Bool.{cases_eq}
use Rattle.std.proofs.lemmas.Bool.Decides.{nat_tests}
use Rattle.std.proofs.Math.Nat.{pow-suc}
use Rattle.std.proofs.Math.Pow.{pow_mono}
use Rattle.bit_slice.specs.Bits.{bit_length_within, bit_length}

within-zero : (m : ℕ) → bit_length_within m 0 ≡ 0
unfolding bit_length_within
within-zero zero = refl
within-zero (suc m) = refl

within-some : (m n : ℕ) → 0 < n → bit_length_within (suc m) n ≡ suc (bit_length_within m (n / 2))
unfolding bit_length_within
within-some m n h = grind (arith, nat_tests)

within-nil : (n : ℕ) → bit_length_within 0 n ≡ 0
unfolding bit_length_within
within-nil n = refl

within-below : (m n : ℕ) → n ≤ m → n < 2 ^ bit_length_within m n
within-below zero n h = rw (within-nil n) (omega arith)
within-below (suc m) n h = ⊎_elim
    (λ (e : n ≡ 0). rw (e, within-zero (suc m)) (lit< tt))
    (λ (e : n ≢ 0).
    let r : n / 2 < 2 ^ bit_length_within m (n / 2) = within-below m (n / 2) (omega arith) in
    let p : 2 ^ suc (bit_length_within m (n / 2)) ≡ 2 ^ bit_length_within m (n / 2) * 2 =
    pow-suc 2 (bit_length_within m (n / 2)) in
    rw (within-some m n (omega arith), p) (omega arith))
    (cases_eq n 0)

within-above : (m n k : ℕ) → n ≤ m → 2 ^ k ≤ n → k < bit_length_within m n
within-above zero n zero h l = absurd (omega arith)
within-above zero n (suc k) h l =
    let p : 2 ^ suc k ≡ 2 ^ k * 2 = pow-suc 2 k in
    let q : 1 ≤ 2 ^ k = pow_mono {i = 0} {j = k} (omega arith) in
    absurd (omega arith)
within-above (suc m) n zero h l = rw (within-some m n l) (omega arith)
within-above (suc m) n (suc k) h l =
    let p : 2 ^ suc k ≡ 2 ^ k * 2 = pow-suc 2 k in
    let q : 1 ≤ 2 ^ k = pow_mono {i = 0} {j = k} (omega arith) in
    let r : k < bit_length_within m (n / 2) = within-above m (n / 2) k (omega arith) (omega arith) in
    rw (within-some m n (omega arith)) (omega arith)

pub bit_length-zero : bit_length 0 ≡ 0
bit_length-zero = within-zero 0

pub bit_length-below : (n : ℕ) → n < 2 ^ bit_length n
bit_length-below n = within-below n n (omega arith)

pub bit_length-above : (n k : ℕ) → 2 ^ k ≤ n → k < bit_length n
bit_length-above n k h = within-above n n k (omega arith) h
