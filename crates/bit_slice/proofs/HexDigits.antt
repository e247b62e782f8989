-- Digits of a text, from bytes and back.
use Rattle.std.proofs.Common.{◌≡◌, ℕ, zero, suc, ◌+◌, ◌-◌, ◌*◌, ◌/◌, ◌%◌, ◌^◌, ◌<◌, ◌≤◌, List, take, slice_index, true, ap, ◌∙◌, arith}
use Rattle.std.specs.Int.{bit_at, trailing_zeros}
use Rattle.std.specs.Int.Count.{trailing_of_zero}
use Rattle.std.proofs.lemmas.Nat.Bits.{bit_at-zero, bit_at-trailing_zeros}
use mir.Syntax.{w8}
use Rattle.std.specs.Int.RustNames.{bit_and}
use Rattle.std.proofs.lemmas.Nat.{and_mask}
use Rattle.std.proofs.lemmas.List.{length-take, get_or-take}
use Rattle.bit_slice.specs.Bits.{AreBits, completed_bit, completed_byte}
use Rattle.bit_slice.specs.Completion.{bit_at-completed_byte}
use Rattle.bit_slice.specs.HexLists.{is_hex_digit, AreDigits, completed_digit, EndsByMark, number-by}
use Rattle.bit_slice.proofs.ByteBits.{bit_at_shr, bit_at_mod}

pub high-digit : (bs : List ℕ) (i b : ℕ) → AreBits bs → i % 2 ≡ 0 → b < 2 ^ 8 → b ≡ completed_byte bs (i / 2) → b / 2 ^ 4 ≡ completed_digit bs i
high-digit bs i b h m l e =
    number-by 4 (b / 2 ^ 4) (λ x. completed_bit bs (4 * i + x)) (omega arith)
    (λ x j s.
    let p : 4 + j ≡ 7 - x = omega arith in
    let q : 8 * (i / 2) + x ≡ 4 * i + x = omega arith in
    bit_at_shr b 4 j ∙ ap (λ (k : ℕ). bit_at b k) p ∙ ap (λ (v : ℕ). bit_at v (7 - x)) e
    ∙ bit_at-completed_byte bs (i / 2) x h (omega arith) ∙ ap (λ (k : ℕ). completed_bit bs k) q)

pub low-digit : (bs : List ℕ) (i b : ℕ) → AreBits bs → (i % 2 ≡ 0 → ⊥) → b ≡ completed_byte bs (i / 2) → bit_and b 15 ≡ completed_digit bs i
low-digit bs i b h m e =
    let low : b % 2 ^ 4 ≡ completed_digit bs i =
    number-by 4 (b % 2 ^ 4) (λ x. completed_bit bs (4 * i + x)) (omega arith)
    (λ x j s.
    let p : j ≡ 7 - (7 - j) = omega arith in
    let q : 8 * (i / 2) + (7 - j) ≡ 4 * i + x = omega arith in
    bit_at_mod b 4 j (omega arith) ∙ ap (λ (k : ℕ). bit_at b k) p ∙ ap (λ (v : ℕ). bit_at v (7 - (7 - j))) e
    ∙ bit_at-completed_byte bs (i / 2) (7 - j) h (omega arith) ∙ ap (λ (k : ℕ). completed_bit bs k) q) in
    and_mask b 4 ∙ low

pub AreDigits-take : (text : List ℕ) (n : ℕ) → ((k : ℕ) → k < n → is_hex_digit (slice_index text k) ≡ true) → AreDigits (take n text)
AreDigits-take text n h k l =
    let m = length-take n text in
    let g : k < n = omega arith in
    ap (λ (c : ℕ). is_hex_digit c) (get_or-take n text k 0 g) ∙ h k g

-- ---- the zeros at the end of a digit's number

low-zeros : (v y : ℕ) → v < 2 ^ 8 → y < trailing_zeros w8 v → bit_at v y ≡ 0
low-zeros zero y h l = bit_at-zero y
low-zeros (suc v) y h l = let t = bit_at-trailing_zeros w8 (suc v) (omega arith) h in t.2 y l

pub no-mark : (v : ℕ) → v < 16 → 3 < trailing_zeros w8 v + 1 → (y : ℕ) → y < 3 → bit_at v y ≡ 0
no-mark v h l y m = low-zeros v y (omega arith) (omega arith)

pub a-mark : (v : ℕ) → v < 16 → trailing_zeros w8 v + 1 ≤ 3 → EndsByMark v (trailing_zeros w8 v + 1)
a-mark zero h l = let z : trailing_zeros w8 0 ≡ 8 = trailing_of_zero 8 in absurd (omega arith)
a-mark (suc v) h l =
    let t = bit_at-trailing_zeros w8 (suc v) (omega arith) (omega arith) in
    let e : trailing_zeros w8 (suc v) + 1 - 1 ≡ trailing_zeros w8 (suc v) = omega arith in
    record {
      one = ap (λ (k : ℕ). bit_at (suc v) k) e ∙ t.1;
      zeros = λ y m. t.2 y (omega arith);
    }
