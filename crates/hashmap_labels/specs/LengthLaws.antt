-- Lemmas on lengths in binary, and on tests for bits.
use Rattle.std.proofs.Common.{◌≡◌, ◌≢◌, ℕ, zero, suc, ◌*◌, ◌/◌, ◌^◌, ◌<◌, ◌≤◌, Bool, true, false, ◌&&◌, nat_lt, List, [], ◌∷◌, refl, ap, ◌∙◌, arith, ⊎_elim}
use Rattle.std.proofs.lemmas.Bool.{cases_eq, ltb-true, lt-ltb}
use Rattle.std.proofs.lemmas.Bool.Decides.{nat_tests}
use Rattle.std.proofs.Math.Nat.{pow-suc}
use Rattle.bit_slice.specs.Bits.{AreBits, bit_length_within, bit_length}
use Rattle.hashmap_labels.specs.Reading.{are_bits}

within-zero : (m : ℕ) → bit_length_within m 0 ≡ 0
unfolding bit_length_within
within-zero zero = refl
within-zero (suc m) = refl

within-some : (m n : ℕ) → 0 < n → bit_length_within (suc m) n ≡ suc (bit_length_within m (n / 2))
unfolding bit_length_within
within-some m n h = grind (arith, nat_tests)

within-nil : (n : ℕ) → bit_length_within 0 n ≡ 0
unfolding bit_length_within
within-nil n = refl

within-least : (m n k : ℕ) → n < 2 ^ k → bit_length_within m n ≤ k
within-least zero n k h = rw (within-nil n) (omega arith)
within-least (suc m) n k h = ⊎_elim
    (λ (e : n ≡ 0). rw (e, within-zero (suc m)) (omega arith))
    (λ (e : n ≢ 0). go (within-least m (n / 2)) k h e)
    (cases_eq n 0)
  where
    go : ((k : ℕ) → n / 2 < 2 ^ k → bit_length_within m (n / 2) ≤ k) → (k : ℕ) → n < 2 ^ k → n ≢ 0
        → bit_length_within (suc m) n ≤ k
    go least zero h e = absurd (let z : n < 1 = h in omega (arith, z, e))
    go least (suc k) h e =
        let p : 2 ^ suc k ≡ 2 ^ k * 2 = pow-suc 2 k in
        let r : bit_length_within m (n / 2) ≤ k = least k (omega arith) in
        rw (within-some m n (omega arith)) (omega arith)

-- a number below 2^k has k binary digits at most
pub bit_length-least : (n k : ℕ) → n < 2 ^ k → bit_length n ≤ k
bit_length-least n k h = within-least n n k h

pub AreBits-are_bits : (s : List ℕ) → are_bits s ≡ true → AreBits s
AreBits-are_bits [] e = tt
AreBits-are_bits (b ∷ s) e = go (nat_lt b 2) refl e (AreBits-are_bits s)
  where
    go : (x : Bool) → nat_lt b 2 ≡ x → (x && are_bits s) ≡ true → (are_bits s ≡ true → AreBits s) → (b < 2) × AreBits s
    go true f e ih = (ltb-true b 2 f, ih e)
    go false f e ih = cc

pub are_bits-AreBits : (s : List ℕ) → AreBits s → are_bits s ≡ true
are_bits-AreBits [] h = refl
are_bits-AreBits (b ∷ s) h = ap (λ x. x && are_bits s) (lt-ltb b 2 h.0) ∙ are_bits-AreBits s h.1
