-- Two's complement numbers.
use Rattle.std.proofs.Common.{◌≡◌, ℕ, zero, suc, ◌+◌, ◌-◌, ◌*◌, ◌^◌, ◌<◌, ◌≤◌, List, refl, arith, ℤ, pos, negsuc, ◌-ℤ◌, nat_abs, false}
use Rattle.std.proofs.lemmas.Int.{ints}
use Rattle.std.proofs.Math.Nat.{pow-suc}
use Rattle.std.proofs.Math.Pow.{pow_mono}
use lib.Signed.{le_z}
use mir.Val.{to_z, of_z}
use mir.Syntax.{w128}
use Rattle.bit_slice.specs.Bits.{bits_from, bit_of, number_of, signed_number_of, InSignedRange, twos_complement}
use Rattle.bit_slice.specs.BitLists.{length-bits_from}

pub signed-none : (bytes : List ℕ) (i n : ℕ) → n ≡ 0 → pos 0 ≡ signed_number_of (bits_from bytes i n)
unfolding bits_from
signed-none bytes i zero e = refl
signed-none bytes i (suc n) e = absurd (omega arith)

pub signed-cons : (bytes : List ℕ) (i n : ℕ) → (n ≡ 0 → ⊥)
    → signed_number_of (bits_from bytes i n) ≡ pos (number_of (bits_from bytes (i + 1) (n - 1))) -ℤ pos (bit_of bytes i * 2 ^ (n - 1))
unfolding bits_from
signed-cons bytes i zero h = absurd (h refl)
signed-cons bytes i (suc n) h =
    let e : suc n - 1 ≡ n = omega arith in
    rw (e, length-bits_from bytes (i + 1) n) refl

pub clear-bit : (r b p : ℕ) → b ≡ 0 → r < 2 ^ 127 → to_z w128 r ≡ pos r -ℤ pos (b * p)
clear-bit r b p e h =
    let z : b * p ≡ 0 = rw e (omega arith) in
    rw z (omega (arith, ints))

pub set-bit : (r b p : ℕ) → b ≡ 1 → r < p → p ≤ 2 ^ 127
    → to_z w128 (of_z w128 (negsuc 0 -ℤ to_z w128 (p - 1 - r))) ≡ pos r -ℤ pos (b * p)
set-bit r b p e h l =
    let z : b * p ≡ p = rw e (omega arith) in
    rw z (omega (arith, ints))

pub half-pow : (n : ℕ) → (n ≡ 0 → ⊥) → 2 ^ n ≡ 2 * 2 ^ (n - 1)
half-pow zero h = absurd (h refl)
half-pow (suc n) h =
    let e : suc n - 1 ≡ n = omega arith in
    let p : 2 ^ suc n ≡ 2 ^ n * 2 = pow-suc 2 n in
    rw (e, p) (omega arith)

-- what a negative number of n bits is
pub record IsNegative (n : ℕ) (v : ℤ) : Type 0 where
  pub some : n ≡ 0 → ⊥
  pub least : nat_abs v ≤ 2 ^ (n - 1)
  pub size : 0 < nat_abs v
  pub number : twos_complement n v ≡ 2 ^ n - nat_abs v

pub negative : (n : ℕ) (v : ℤ) → le_z (pos 0) v ≡ false → InSignedRange n v → IsNegative n v
negative n (pos a) h r = absurd (grind (arith, ints))
negative zero (negsuc a) h r = absurd (omega (arith, ints))
negative (suc n) (negsuc a) h r =
    let e : suc n - 1 ≡ n = omega arith in
    let p : 2 ^ suc n ≡ 2 ^ n * 2 = pow-suc 2 n in
    let b : 2 * (a + 1) ≤ 2 ^ suc n = omega (arith, ints) in
    let s : suc a ≡ a + 1 = omega arith in
    record {
      some = λ z. absurd (omega arith);
      least = rw (e, s) (omega arith);
      size = omega arith;
      number = rw s refl;
    }

pub half-le : (n : ℕ) → n ≤ 128 → (n ≡ 0 → ⊥) → 2 ^ (n - 1) ≤ 2 ^ 127
half-le n h s = pow_mono {i = n - 1} {j = 127} (omega arith)

pub not_all : (n : ℕ) → n ≤ 128 → (n ≡ 0 → ⊥) → n - 1 < 128
not_all n h s = omega arith
