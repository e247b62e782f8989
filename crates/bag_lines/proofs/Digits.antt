-- The digits of bytes, with a line feed after them.
use Rattle.std.proofs.Common.{◌≡◌, ℕ, zero, suc, ◌/◌, ◌%◌, ◌<◌, inl, inr, Bool, true, false, ◌&&◌, List, [], ◌∷◌, ◌++◌, refl, ap, ◌∙◌, arith, Ok}
use Rattle.std.specs.Prelude.{slice_index, not}
use Rattle.std.proofs.lemmas.Bool.{cases_lt, and_parts}
use Rattle.hex.specs.Hex.{encode_lower, encode_with, lower_digits, decode_of, IsBytes}
use Rattle.hex.proofs.HexLemmas.{decode_of-encode_lower}
use Rattle.bag_cells.specs.Form.{is_white, trimmed, trimmed_over, raw_of, raw_of_hex}

-- ---- no digit is white

abbrev none_white : ℕ → Bool
none_white zero = true
none_white (suc n) = not (is_white (slice_index lower_digits n)) && none_white n

not-white : (b : Bool) → not b ≡ true → b ≡ false
not-white true h = cc
not-white false h = refl

digit-below : (n k : ℕ) → none_white n ≡ true → k < n → is_white (slice_index lower_digits k) ≡ false
digit-below zero k h less = absurd (omega arith)
digit-below (suc n) k h less =
    let parts = and_parts (not (is_white (slice_index lower_digits n))) (none_white n) h in
    elim (cases_lt k n) [
      | inl below ↦ digit-below n k parts.1 below
      | inr last ↦ let e : k ≡ n = omega arith in rw e (not-white (is_white (slice_index lower_digits n)) parts.0)
    ]

digit-black : (k : ℕ) → k < 16 → is_white (slice_index lower_digits k) ≡ false
digit-black k less = digit-below 16 k refl less

abbrev AreBlack : List ℕ → Type 0
AreBlack [] = Unit {0}
AreBlack (b ∷ bs) = (is_white b ≡ false) × AreBlack bs

digits-black : (bytes : List ℕ) → IsBytes bytes → AreBlack (encode_lower bytes)
unfolding encode_with
digits-black [] h = tt
digits-black (b ∷ bs) h =
    let fits : b < 256 = h 0 in
    (digit-black (b / 16) (omega arith), (digit-black (b % 16) (omega arith), digits-black bs (λ i. h (suc i))))

-- ---- the line without its line feed

trimmed-black : (b : ℕ) (bs : List ℕ) → is_white b ≡ false → trimmed_over b bs ≡ b ∷ bs
trimmed-black b [] h = rw h refl
trimmed-black b (c ∷ cs) h = refl

trimmed-line : (text : List ℕ) → AreBlack text → trimmed (text ++ 10 ∷ []) ≡ text
unfolding trimmed
trimmed-line [] h = refl
trimmed-line (b ∷ bs) h = rw (trimmed-line bs h.1) (trimmed-black b bs h.0)

-- ---- the bytes that a line of digits spells

by-digits : (file : List ℕ) → slice_index file 0 ≡ 98 → raw_of file ≡ raw_of_hex (trimmed file)
by-digits file h = rw h refl

hex-line : (text raw : List ℕ) → decode_of text ≡ Ok raw → raw_of_hex text ≡ Ok raw
unfolding raw_of_hex
hex-line text raw h = rw h refl

pub raw-line : (raw : List ℕ) → IsBytes raw → slice_index (encode_lower raw ++ 10 ∷ []) 0 ≡ 98
    → raw_of (encode_lower raw ++ 10 ∷ []) ≡ Ok raw
raw-line raw bytes first =
    by-digits (encode_lower raw ++ 10 ∷ []) first
    ∙ ap raw_of_hex (trimmed-line (encode_lower raw) (digits-black raw bytes))
    ∙ hex-line (encode_lower raw) raw (decode_of-encode_lower raw bytes)
