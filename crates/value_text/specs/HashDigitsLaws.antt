-- The digits of a hash, two for each byte.
use Rattle.std.proofs.Common.{◌≡◌, ℕ, zero, suc, ◌+◌, ◌-◌, ◌*◌, ◌/◌, ◌%◌, ◌<◌, true, nat_lt, if◌then◌else◌, List, [], ◌∷◌, length, slice_index, refl, ap, ◌∙◌, arith, Ok}
use Rattle.std.proofs.lemmas.Bool.Decides.{nat_tests}
use Rattle.hex.specs.Hex.{encode_lower, encode_with, lower_digits, IsBytes, decode_sized}
use Rattle.hex.proofs.HexLemmas.{decode_sized-encode_lower, length-encode_with}
use Rattle.value_text.specs.Writes.{AreBytes}
use Rattle.value_text.specs.LexemePoints.{AreLower, is_lower_digit}

abbrev glyph : ℕ → ℕ
glyph n = if nat_lt n 10 then 48 + n else 87 + n

table : (n : ℕ) → n < 16 → slice_index lower_digits n ≡ glyph n
table zero h = refl
table (suc zero) h = refl
table (suc (suc zero)) h = refl
table (suc (suc (suc zero))) h = refl
table (suc (suc (suc (suc zero)))) h = refl
table (suc (suc (suc (suc (suc zero))))) h = refl
table (suc (suc (suc (suc (suc (suc zero)))))) h = refl
table (suc (suc (suc (suc (suc (suc (suc zero))))))) h = refl
table (suc (suc (suc (suc (suc (suc (suc (suc zero)))))))) h = refl
table (suc (suc (suc (suc (suc (suc (suc (suc (suc zero))))))))) h = refl
table (suc (suc (suc (suc (suc (suc (suc (suc (suc (suc zero)))))))))) h = refl
table (suc (suc (suc (suc (suc (suc (suc (suc (suc (suc (suc zero))))))))))) h = refl
table (suc (suc (suc (suc (suc (suc (suc (suc (suc (suc (suc (suc zero)))))))))))) h = refl
table (suc (suc (suc (suc (suc (suc (suc (suc (suc (suc (suc (suc (suc zero))))))))))))) h = refl
table (suc (suc (suc (suc (suc (suc (suc (suc (suc (suc (suc (suc (suc (suc zero)))))))))))))) h = refl
table (suc (suc (suc (suc (suc (suc (suc (suc (suc (suc (suc (suc (suc (suc (suc zero))))))))))))))) h = refl
table (suc (suc (suc (suc (suc (suc (suc (suc (suc (suc (suc (suc (suc (suc (suc (suc n)))))))))))))))) h = absurd (omega arith)

abbrev nibble : ℕ → ℕ
nibble c = if nat_lt c 58 then c - 48 else c - 87

nibble_low : (c : ℕ) → is_lower_digit c ≡ true → nibble c < 16
nibble_low c h = grind (arith, nat_tests)

nibble_glyph : (c : ℕ) → is_lower_digit c ≡ true → glyph (nibble c) ≡ c
nibble_glyph c h = grind (arith, nat_tests)

glyph_lower : (n : ℕ) → n < 16 → is_lower_digit (glyph n) ≡ true
glyph_lower n h = grind (arith, nat_tests)

pub bytes_of : List ℕ → List ℕ
bytes_of [] = []
bytes_of (c ∷ []) = []
bytes_of (c ∷ d ∷ ds) = (nibble c * 16 + nibble d) ∷ bytes_of ds

pub encode-bytes_of : (n : ℕ) (ds : List ℕ) → length ds ≡ 2 * n → AreLower ds → encode_lower (bytes_of ds) ≡ ds
unfolding bytes_of encode_with
encode-bytes_of n [] e h = refl
encode-bytes_of n (c ∷ []) e h = absurd (omega arith)
encode-bytes_of zero (c ∷ d ∷ ds) e h = absurd (omega arith)
encode-bytes_of (suc n) (c ∷ d ∷ ds) e h =
    let low = nibble_low d h.1.0 in
    let high = nibble_low c h.0 in
    let q : (nibble c * 16 + nibble d) / 16 ≡ nibble c = omega arith in
    let r : (nibble c * 16 + nibble d) % 16 ≡ nibble d = omega arith in
    let first : slice_index lower_digits ((nibble c * 16 + nibble d) / 16) ≡ c = ap (slice_index lower_digits) q ∙ table (nibble c) high ∙ nibble_glyph c h.0 in
    let second : slice_index lower_digits ((nibble c * 16 + nibble d) % 16) ≡ d = ap (slice_index lower_digits) r ∙ table (nibble d) low ∙ nibble_glyph d h.1.0 in
    (λ i. first i ∷ second i ∷ encode-bytes_of n ds (omega arith) h.1.1 i)

pub length-bytes_of : (n : ℕ) (ds : List ℕ) → length ds ≡ 2 * n → length (bytes_of ds) ≡ n
unfolding bytes_of
length-bytes_of n [] e = omega arith
length-bytes_of n (c ∷ []) e = absurd (omega arith)
length-bytes_of zero (c ∷ d ∷ ds) e = absurd (omega arith)
length-bytes_of (suc n) (c ∷ d ∷ ds) e = ap suc (length-bytes_of n ds (omega arith))

pub are_bytes-bytes_of : (ds : List ℕ) → AreLower ds → AreBytes (bytes_of ds)
unfolding bytes_of
are_bytes-bytes_of [] h = tt
are_bytes-bytes_of (c ∷ []) h = tt
are_bytes-bytes_of (c ∷ d ∷ ds) h =
    let low = nibble_low d h.1.0 in
    let high = nibble_low c h.0 in
    (omega arith, are_bytes-bytes_of ds h.1.1)

pub lower-encode : (hash : List ℕ) → AreBytes hash → AreLower (encode_lower hash)
unfolding encode_with
lower-encode [] h = tt
lower-encode (b ∷ bs) h =
    let few = h.0 in
    let q : b / 16 < 16 = omega arith in
    let r : b % 16 < 16 = omega arith in (
      ap is_lower_digit (table (b / 16) q) ∙ glyph_lower (b / 16) q,
      (ap is_lower_digit (table (b % 16) r) ∙ glyph_lower (b % 16) r, lower-encode bs h.1),
    )

pub length-encode : (hash : List ℕ) → length (encode_lower hash) ≡ 2 * length hash
length-encode hash = length-encode_with lower_digits hash

is_bytes : (hash : List ℕ) → AreBytes hash → IsBytes hash
is_bytes [] h i = omega arith
is_bytes (b ∷ bs) h zero = h.0
is_bytes (b ∷ bs) h (suc i) = is_bytes bs h.1 i

pub decoded : (hash : List ℕ) → length hash ≡ 32 → AreBytes hash → decode_sized (encode_lower hash) 32 ≡ Ok hash
decoded hash e h = decode_sized-encode_lower hash 32 e (is_bytes hash h)
