-- The bits of tags.
use Rattle.std.specs.Prelude.{ℕ, ◌≡◌, ◌≢◌, ◌<◌, ◌≤◌, ◌+◌, ◌*◌, ◌/◌, true, List, length, take, slice_index, Option, Some}
use Rattle.std.specs.Prelude.{None}
use Rattle.std.specs.List.{flat_map, list_all}
use Rattle.tlb_lexer.specs.Bytes.{is_hex_digit}
use Rattle.tlb_syntax.specs.Lexeme.{Lexeme, word, blank, number, tag, sign, other, hex_bits, without_completion}
use Rattle.tlb_syntax.specs.Lexeme.{and_at_most_1023, hexadecimal_bits}

-- the bits of a lexeme that is a tag
abbrev pub bits_of : Lexeme → Option (List ℕ)
bits_of (word x) = None
bits_of blank = None
bits_of (number n) = None
bits_of (tag bits) = bits
bits_of (sign s) = None
bits_of other = None

-- what stands after a `#` stands for the first n bits of its digits, at most 1023
pub record HasBits (digits : List ℕ) (n : ℕ) : Type 0 where
  pub short : n ≤ 1023
  pub within : n ≤ 4 * length digits
  pub are_digits : list_all is_hex_digit (take ((n + 3) / 4) digits) ≡ true
  pub bits : hexadecimal_bits digits ≡ Some (take n (flat_map hex_bits digits))

-- the bits of the digits before their last 1 are the first n, at most 1023
pub record IsCompleted (digits : List ℕ) (n : ℕ) : Type 0 where
  pub short : n ≤ 1023
  pub within : n ≤ 4 * length digits
  pub bits : without_completion (flat_map hex_bits digits) ≡ Some (take n (flat_map hex_bits digits))

-- there is no 1 among the bits of the digits, or there are more than 1023 bits before the last 1
abbrev pub IsUncompleted : List ℕ → Type 0
IsUncompleted digits = and_at_most_1023 (without_completion (flat_map hex_bits digits)) ≡ None

-- the last digit that is not 0 (48)
pub record IsLastNonzero (digits : List ℕ) (last : ℕ) : Type 0 where
  pub within : last < length digits
  pub nonzero : slice_index digits last ≢ 48
  pub zeros : (i : ℕ) → last < i → i < length digits → slice_index digits i ≡ 48
