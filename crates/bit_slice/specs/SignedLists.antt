-- Lemmas on two's complement numbers and their bits.
use Rattle.std.specs.Prelude.{◌≡◌, ℕ, zero, suc, ◌+◌, ◌-◌, ◌*◌, ◌^◌, ◌<◌, ◌≤◌, ℤ, pos, negsuc, ◌-ℤ◌, List, [], ◌∷◌}
use Rattle.std.specs.Prelude.{length}
use Rattle.std.proofs.Common.{refl, sym, ap, ◌∙◌, arith, subst, lit<}
use Rattle.std.specs.Int.{bit_at}
use Rattle.std.proofs.lemmas.Int.{ints}
use Rattle.std.proofs.lemmas.Nat.Bits.{bit_at_cat_low, bit_at_cat_high, bit_at_lowest}
use Rattle.std.proofs.Math.Nat.{pow-suc}
use Rattle.bit_slice.specs.Bits.{AreBits, number_of, spelled, signed_number_of, signed_spelled, twos_complement}
use Rattle.bit_slice.specs.Bits.{InSignedRange}
use Rattle.bit_slice.specs.BitLists.{length-spelled, number_of-spelled, spelled-number_of, number_of-bound}

spelled-low : (n m b r : ℕ) → n ≤ m → spelled n (b * 2 ^ m + r) ≡ spelled n r
unfolding spelled
spelled-low zero m b r h = refl
spelled-low (suc n) m b r h = rw (bit_at_cat_low b m r n (omega arith), spelled-low n m b r (omega arith)) refl

-- the first bit and the others
spelled-first : (m b r : ℕ) → b < 2 → r < 2 ^ m → spelled (suc m) (b * 2 ^ m + r) ≡ b ∷ spelled m r
unfolding spelled
spelled-first m b r h l =
    let z : m - m ≡ 0 = omega arith in
    let first : bit_at (b * 2 ^ m + r) m ≡ b =
    bit_at_cat_high b m r m l (omega arith) ∙ ap (λ (k : ℕ). bit_at b k) z ∙ bit_at_lowest b ∙ omega arith in
    rw (first, spelled-low m m b r (omega arith)) refl

-- the two's complement number of a first bit and others
signed-first : (m b r : ℕ) → r < 2 ^ m → signed_number_of (b ∷ spelled m r) ≡ pos r -ℤ pos (b * 2 ^ m)
signed-first m b r l =
    rw (number_of-spelled m r l, length-spelled m r) refl

signed-split : (m b r : ℕ) (v : ℤ) → b < 2 → r < 2 ^ m → twos_complement (suc m) v ≡ b * 2 ^ m + r
    → pos r -ℤ pos (b * 2 ^ m) ≡ v
    → signed_number_of (signed_spelled (suc m) v) ≡ v
signed-split m b r v h l e f =
    ap (λ (x : ℕ). signed_number_of (spelled (suc m) x)) e
    ∙ ap (λ (x : List ℕ). signed_number_of x) (spelled-first m b r h l) ∙ signed-first m b r l ∙ f

pub signed_number_of-spelled : (n : ℕ) (v : ℤ) → InSignedRange n v → signed_number_of (signed_spelled n v) ≡ v
unfolding spelled
signed_number_of-spelled zero (pos zero) r = refl
signed_number_of-spelled zero (pos (suc a)) r = absurd (omega (arith, ints))
signed_number_of-spelled zero (negsuc a) r = absurd (omega (arith, ints))
signed_number_of-spelled (suc m) (pos a) r =
    let p : 2 ^ suc m ≡ 2 ^ m * 2 = pow-suc 2 m in
    let h : 2 * a < 2 ^ suc m = omega (arith, ints) in
    let z : 0 * 2 ^ m ≡ 0 = omega arith in
    signed-split m 0 a (pos a) (lit< tt) (omega arith) (rw z (omega arith)) (rw z (omega (arith, ints)))
signed_number_of-spelled (suc m) (negsuc a) r =
    let p : 2 ^ suc m ≡ 2 ^ m * 2 = pow-suc 2 m in
    let h : 2 * (a + 1) ≤ 2 ^ suc m = omega (arith, ints) in
    let o : 1 * 2 ^ m ≡ 2 ^ m = omega arith in
    signed-split m 1 (2 ^ m - (a + 1)) (negsuc a) (lit< tt) (omega arith) (rw (o, p) (omega arith))
    (rw o (omega (arith, ints)))

clear-first : (p r : ℕ) → pos r -ℤ pos (0 * p) ≡ pos r
clear-first p r = let z : 0 * p ≡ 0 = omega arith in rw z (omega (arith, ints))

set-first : (p r : ℕ) → r < p → pos r -ℤ pos (1 * p) ≡ negsuc (p - r - 1)
set-first p r h = let o : 1 * p ≡ p = omega arith in rw o (omega (arith, ints))

first-range : (m b r : ℕ) → b < 2 → r < 2 ^ m → InSignedRange (suc m) (pos r -ℤ pos (b * 2 ^ m))
first-range m zero r h l =
    let p : 2 ^ suc m ≡ 2 ^ m * 2 = pow-suc 2 m in
    let P : ℤ → Type 0 = λ v. InSignedRange (suc m) v in
    subst P (sym (clear-first (2 ^ m) r)) (omega (arith, ints), omega (arith, ints))
first-range m (suc zero) r h l =
    let p : 2 ^ suc m ≡ 2 ^ m * 2 = pow-suc 2 m in
    let P : ℤ → Type 0 = λ v. InSignedRange (suc m) v in
    subst P (sym (set-first (2 ^ m) r l)) (omega (arith, ints), omega (arith, ints))
first-range m (suc (suc b)) r h l = absurd (omega arith)

first-number : (m b r : ℕ) → b < 2 → r < 2 ^ m → twos_complement (suc m) (pos r -ℤ pos (b * 2 ^ m)) ≡ b * 2 ^ m + r
first-number m zero r h l =
    let z : 0 * 2 ^ m ≡ 0 = omega arith in
    ap (λ (v : ℤ). twos_complement (suc m) v) (clear-first (2 ^ m) r) ∙ rw z (omega arith)
first-number m (suc zero) r h l =
    let p : 2 ^ suc m ≡ 2 ^ m * 2 = pow-suc 2 m in
    let o : 1 * 2 ^ m ≡ 2 ^ m = omega arith in
    ap (λ (v : ℤ). twos_complement (suc m) v) (set-first (2 ^ m) r l) ∙ rw (o, p) (omega arith)
first-number m (suc (suc b)) r h l = absurd (omega arith)

pub InSignedRange-signed_number_of : (bs : List ℕ) → AreBits bs → InSignedRange (length bs) (signed_number_of bs)
InSignedRange-signed_number_of [] h = (omega (arith, ints), omega (arith, ints))
InSignedRange-signed_number_of (b ∷ bs) h = first-range (length bs) b (number_of bs) h.0 (number_of-bound bs h.1)

pub signed_spelled-signed_number_of : (bs : List ℕ) → AreBits bs → signed_spelled (length bs) (signed_number_of bs) ≡ bs
unfolding spelled
signed_spelled-signed_number_of [] h = refl
signed_spelled-signed_number_of (b ∷ bs) h =
    let r : number_of bs < 2 ^ length bs = number_of-bound bs h.1 in
    ap (λ (x : ℕ). spelled (suc (length bs)) x) (first-number (length bs) b (number_of bs) h.0 r)
    ∙ spelled-first (length bs) b (number_of bs) h.0 r ∙ ap (λ (l : List ℕ). b ∷ l) (spelled-number_of bs h.1)
