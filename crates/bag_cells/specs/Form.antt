-- The three forms of a file that holds a bag of cells: its raw bytes, their hexadecimal digits, their base64.
--
-- Source: the first byte of the magic b5ee9c72 of a serialized bag of cells (`serialized_boc` of crypto/tl/boc.tlb
-- in the TON sources) tells the forms apart; RFC 4648, sections 4 and 8.
use Rattle.std.specs.Prelude.{ℕ, ◌==◌, Bool, ◌||◌, Result, Ok, Err, List, [], ◌∷◌, length, slice_index, if◌then◌else◌}
use Rattle.std.specs.Prelude.{◌≡◌, ◌<◌, ◌%◌, true, false}
use Rattle.hex.specs.declared.error.FromHexError.{FromHexError}
use Rattle.hex.specs.declared.error.FromHexError.TheVariants.{InvalidHexCharacter, OddLength, InvalidStringLength}
use Rattle.hex.specs.declared.error.FromHexError.TheVariants.{OutOfMemory}
use Rattle.hex.specs.Hex.{decode_of as hex_decoded, is_hex_digit}
use Rattle.base64.specs.declared.decode.DecodeError.{DecodeError}
use Rattle.base64.specs.GeneralPurpose.{decode_of as base64_decoded}
use Rattle.base64.specs.Engines.{standard}
use Rattle.bag_cells.specs.declared.error.BagError.{BagError}
use Rattle.bag_cells.specs.declared.error.BagError.TheVariants.{BadHex, BadBase64, BadMagic}

-- space, tab, carriage return, line feed
abbrev pub is_white : ℕ → Bool
is_white byte = byte == 32 || byte == 9 || byte == 13 || byte == 10

abbrev pub trimmed_over : ℕ → List ℕ → List ℕ
trimmed_over byte [] = if is_white byte then [] else byte ∷ []
trimmed_over byte (next ∷ rest) = byte ∷ next ∷ rest

-- the text without the white space at its end
unfoldable pub trimmed : List ℕ → List ℕ
trimmed [] = []
trimmed (byte ∷ rest) = trimmed_over byte (trimmed rest)

-- The place that a text which is no hexadecimal text is refused at: its length where that is odd, else the place
-- of its first byte that is no digit. The decoding has no other refusals.
abbrev pub bad_place : ℕ → FromHexError → ℕ
bad_place size OddLength = size
bad_place size (InvalidHexCharacter digit place) = place
bad_place size InvalidStringLength = size
bad_place size OutOfMemory = size

abbrev pub of_hex : ℕ → Result (List ℕ) FromHexError → Result (List ℕ) BagError
of_hex size (Ok raw) = Ok raw
of_hex size (Err cause) = Err (BadHex (bad_place size cause))

abbrev pub of_base64 : Result (List ℕ) DecodeError → Result (List ℕ) BagError
of_base64 (Ok raw) = Ok raw
of_base64 (Err cause) = Err BadBase64

-- the bytes that a text of hexadecimal digits of either case spells
unfoldable pub raw_of_hex : List ℕ → Result (List ℕ) BagError
raw_of_hex text = of_hex (length text) (hex_decoded text)

-- the bytes that a text of padded standard base64 spells
unfoldable pub raw_of_base64 : List ℕ → Result (List ℕ) BagError
raw_of_base64 text = of_base64 (base64_decoded standard text)

-- The raw bytes of a file. Its first byte names the form: the byte b5; the letters `b` and `B`, which begin b5 in
-- digits; the letter `t`, which begins b5 in base64.
abbrev pub raw_of : List ℕ → Result (List ℕ) BagError
raw_of file =
    if slice_index file 0 == 0xb5 then Ok file
    else if slice_index file 0 == 98 || slice_index file 0 == 66 then raw_of_hex (trimmed file)
    else if slice_index file 0 == 116 then raw_of_base64 (trimmed file)
    else Err BadMagic

-- the text of an even length has its first byte that is no hexadecimal digit at the place
pub record IsFirstBad (text : List ℕ) (place : ℕ) : Type 0 where
  pub within : place < length text
  pub bad : is_hex_digit (slice_index text place) ≡ false
  pub before : (earlier : ℕ) → earlier < place → is_hex_digit (slice_index text earlier) ≡ true

-- the place that is reported of a text that is no hexadecimal text: its length where that is odd, else its first bad
-- place
pub data IsBadHex (text : List ℕ) (place : ℕ) : Type 0 where
  odd : length text % 2 ≡ 1 → place ≡ length text → IsBadHex text place
  even : length text % 2 ≡ 0 → IsFirstBad text place → IsBadHex text place
