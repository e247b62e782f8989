-- Lists of bits, and the bytes, numbers and texts that they stand for.
--
-- Source: the TVM whitepaper (Nikolai Durov, "Telegram Open Network Virtual Machine"), section 1.0 on
-- bitstrings, their hexadecimal text and their serialization into octets, and section 3.1 on cells: a cell
-- holds up to 1023 bits; numbers are written in big-endian order and two's complement; bits that fill no
-- whole octets are completed by one 1 bit and then zeros.
use Rattle.std.specs.Prelude.{◌≡◌, ℕ, zero, suc, ◌+◌, ◌-◌, ◌*◌, ◌/◌, ◌%◌, ◌^◌, ◌<◌, ◌==◌, ℤ, pos, negsuc, ◌-ℤ◌, ◌*ℤ◌}
use Rattle.std.specs.Prelude.{◌≤ℤ◌, ◌<ℤ◌, neg_ℤ, Option, Bool, Some, None, List, [], ◌∷◌, ◌++◌, length, take, drop}
use Rattle.std.specs.Prelude.{replicate, slice_index, if◌then◌else◌}
use Rattle.std.specs.Bool.{nat_le, nat_lt}
use Rattle.std.specs.List.{range_with_len}
use Rattle.std.specs.Prelude.{map}
use Rattle.std.specs.Int.{bit_at}

-- a bit is 0 or 1
abbrev pub IsBit : ℕ → Type 0
IsBit b = b < 2

-- each number of the list is a bit
abbrev pub AreBits : List ℕ → Type 0
AreBits [] = Unit {0}
AreBits (b ∷ bs) = IsBit b × AreBits bs

-- a bit as a number
abbrev pub bit_number : Bool → ℕ
bit_number b = if b then 1 else 0

-- ---- bits in bytes

-- bit i of the bytes, from the first byte's highest bit on
abbrev pub bit_of : List ℕ → ℕ → ℕ
bit_of bytes i = bit_at (slice_index bytes (i / 8)) (7 - i % 8)

-- n bits of the bytes, from bit i on
unfoldable pub bits_from : List ℕ → ℕ → ℕ → List ℕ
bits_from bytes i zero = []
bits_from bytes i (suc n) = bit_of bytes i ∷ bits_from bytes (i + 1) n

-- ---- parts of a list of bits

-- bit i, where there is one
abbrev pub bit_value : ℕ → List ℕ → Option Bool
bit_value i bits = if nat_le (length bits) i then None else Some (slice_index bits i == 1)

-- the first n bits and the rest, where there are n
abbrev pub taken : ℕ → List ℕ → Option (List ℕ × List ℕ)
taken n bits = if nat_le n (length bits) then Some (take n bits, drop n bits) else None

-- the first bits are those of front
abbrev pub BeginsWith : List ℕ → List ℕ → Type 0
BeginsWith bits front = take (length front) bits ≡ front

-- ---- numbers

-- the number whose binary digits are those of the number a and then the bits
unfoldable pub number_onto : ℕ → List ℕ → ℕ
number_onto a [] = a
number_onto a (b ∷ bs) = number_onto (2 * a + b) bs

-- the number of the bits, the most significant first; 0 where there are none
abbrev pub number_of : List ℕ → ℕ
number_of bits = number_onto 0 bits

-- the number of the first n bits, where there are n
abbrev pub front_number : ℕ → List ℕ → Option ℕ
front_number n bits = if nat_le n (length bits) then Some (number_of (take n bits)) else None

-- the lowest n binary digits of a number, the most significant first
unfoldable pub spelled : ℕ → ℕ → List ℕ
spelled zero v = []
spelled (suc n) v = bit_at v n ∷ spelled n v

-- The two's complement number of the bits: the first of n bits counts -2^(n-1), the others count as
-- in a number. 0 where there are none.
abbrev pub signed_number_of : List ℕ → ℤ
signed_number_of [] = pos 0
signed_number_of (b ∷ bs) = pos (number_of bs) -ℤ pos (b * 2 ^ length bs)

-- the two's complement number of the first n bits, where there are n
abbrev pub front_signed : ℕ → List ℕ → Option ℤ
front_signed n bits = if nat_le n (length bits) then Some (signed_number_of (take n bits)) else None

-- v is a two's complement number of n bits: -2^(n-1) <= v < 2^(n-1), and v = 0 where n = 0
abbrev pub InSignedRange : ℕ → ℤ → Type 0
InSignedRange n v = (neg_ℤ (pos (2 ^ n)) ≤ℤ (pos 2 *ℤ v)) × ((pos 2 *ℤ v) <ℤ pos (2 ^ n))

-- the number below 2^n with the same n bits: v itself, or 2^n + v where v is negative
abbrev pub twos_complement : ℕ → ℤ → ℕ
twos_complement n (pos v) = v
twos_complement n (negsuc v) = 2 ^ n - (v + 1)

-- the n bits of a two's complement number
abbrev pub signed_spelled : ℕ → ℤ → List ℕ
signed_spelled n v = spelled n (twos_complement n v)

-- how many binary digits n has, which are at most as many as the first number
unfoldable pub bit_length_within : ℕ → ℕ → ℕ
bit_length_within zero n = 0
bit_length_within (suc most) n = if n == 0 then 0 else suc (bit_length_within most (n / 2))

-- how many binary digits n has; 0 for 0
abbrev pub bit_length : ℕ → ℕ
bit_length n = bit_length_within n n

-- ---- completion to whole bytes

-- the bits, and where they fill no whole groups of w bits one 1 bit and zeros up to a whole group
abbrev pub completed_to : ℕ → List ℕ → List ℕ
completed_to w bits =
    if length bits % w == 0 then bits else bits ++ 1 ∷ replicate (w - 1 - length bits % w) 0

-- the numbers of the first n groups of w bits
unfoldable pub groups : ℕ → ℕ → List ℕ → List ℕ
groups w zero bits = []
groups w (suc n) bits = number_of (take w bits) ∷ groups w n (drop w bits)

-- the bytes of the completed bits
unfoldable pub completed : List ℕ → List ℕ
completed bits = groups 8 ((length bits + 7) / 8) (completed_to 8 bits)

-- Bit j of the completed bits, and their byte k. The lemma `completed-by_index` ties them to `completed`.
abbrev pub completed_bit : List ℕ → ℕ → ℕ
completed_bit bits j = if nat_lt j (length bits) then slice_index bits j else bit_number (j == length bits)

abbrev pub completed_byte : List ℕ → ℕ → ℕ
completed_byte bits k = number_of (map (λ i. completed_bit bits (8 * k + i)) (range_with_len 0 8))

-- ---- hexadecimal text

-- the upper-case hexadecimal digit of a number below 16: 48 is '0', 65 is 'A'
abbrev pub hex_digit : ℕ → ℕ
hex_digit n = if nat_lt n 10 then 48 + n else 55 + n

-- The text of bits: a digit for four bits. Bits whose number is no multiple of four are completed by one
-- 1 bit and zeros to a whole digit, and an underscore (95) says so.
unfoldable pub hex_text : List ℕ → List ℕ
hex_text bits =
    map hex_digit (groups 4 ((length bits + 3) / 4) (completed_to 4 bits))
    ++ (if length bits % 4 == 0 then [] else 95 ∷ [])

-- the text spells the bits
abbrev pub HexText : List ℕ → List ℕ → Type 0
HexText text bits = AreBits bits × (text ≡ hex_text bits)

-- some text that begins so spells bits
abbrev pub GoesOn : List ℕ → Type 0
GoesOn front = (rest : List ℕ) × (bits : List ℕ) × HexText (front ++ rest) bits

-- byte `place` is the first with which the text cannot go on
pub record IsBadAt (text : List ℕ) (place : ℕ) : Type 0 where
  pub inside : place < length text
  pub before : GoesOn (take place text)
  pub stuck : GoesOn (take (place + 1) text) → ⊥

-- the text spells more bits than a cell holds
abbrev pub IsTooLong : List ℕ → Type 0
IsTooLong text = (bits : List ℕ) × HexText text bits × (1023 < length bits)
