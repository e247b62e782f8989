-- How a lexeme is read byte by byte: where the text stands, and what one more byte leads to. The contract of the public
-- call speaks of the spellings alone; proofs/ ties the two.
use Rattle.std.specs.Prelude.{◌≡◌, ℕ, ◌+◌, ◌<◌, ◌≤◌, ◌==◌, Bool, true, false, ◌&&◌, ◌||◌, not, nat_lt, nat_le, List, [], ◌∷◌, ◌++◌, length, take, get_or, if◌then◌else◌, Option, Some, None, is_some}
use Rattle.std.specs.Char.{is_ascii_alphabetic, is_ascii_digit}
use Rattle.hex.specs.Hex.{encode_lower}
use Rattle.bit_slice.specs.Bits.{AreBits}
use Rattle.bit_slice.specs.HexLists.{is_hex_digit, AreDigits}
use Rattle.bit_slice.specs.Names.{is_count, is_name_byte}
use Rattle.value_text.specs.declared.lexeme.Sign.{Sign}
use Rattle.value_text.specs.declared.lexeme.Sign.TheVariants.{OpenBrace, CloseBrace, OpenBracket, CloseBracket, OpenParen, CloseParen, Less, Greater, Comma, Colon, Tilde, Caret, Bang, Percent}
use Rattle.value_text.specs.declared.spot.Spot.{Spot}
use Rattle.value_text.specs.declared.spot.Spot.TheVariants.{Start, Minus, Zero, Digits, X, Letters, Blank, Count, BitDigits, Marked, Closed, Hash, Dot, DepthZero, DepthDigits, Signed}
use Rattle.value_text.specs.Tokens.{bits, spelling}
use Rattle.value_text.specs.Writes.{AreBytes}
use Rattle.value_text.specs.BitsTextLaws.{is_markable, last_digit}
use Rattle.value_text.specs.Lexemes.{sign_byte}
use Rattle.value_text.specs.PathPoints.{IsCounted, IsLetters}
use Rattle.value_text.specs.Walks as walks

-- the sign that a byte is
abbrev pub sign_at : ℕ → Option Sign
sign_at c =
    if c == 123 then Some OpenBrace else if c == 125 then Some CloseBrace else if c == 91 then Some OpenBracket
    else if c == 93 then Some CloseBracket else if c == 40 then Some OpenParen else if c == 41 then Some CloseParen
    else if c == 60 then Some Less else if c == 62 then Some Greater else if c == 44 then Some Comma else if c == 58 then Some Colon
    else if c == 126 then Some Tilde else if c == 94 then Some Caret else if c == 33 then Some Bang
    else if c == 37 then Some Percent else None

-- a digit of a hash: '0' to '9', 'a' (97) to 'f' (102)
abbrev pub is_lower_digit : ℕ → Bool
is_lower_digit c = is_ascii_digit c || (nat_le 97 c && nat_le c 102)

-- 45 is '-', 48 is '0', 120 is 'x', 95 is '_', 63 is '?'
abbrev pub begun : ℕ → Option Spot
begun c =
    if c == 45 then Some Minus else if c == 48 then Some Zero else if is_ascii_digit c then Some Digits
    else if c == 120 then Some X else if is_ascii_alphabetic c then Some Letters else if c == 95 then Some Blank
    else if c == 63 then Some (Hash 0) else if is_some (sign_at c) then Some Signed else None

abbrev pub numbered : ℕ → Option Spot
numbered c = if c == 48 then Some Zero else if is_ascii_digit c then Some Digits else None

-- bits: '_' (95) marks their end, '}' (125) closes them
abbrev pub in_bits : ℕ → ℕ → Option Spot
in_bits last c =
    if is_hex_digit c then Some (BitDigits c) else if c == 95 then (if is_markable last then Some Marked else None)
    else if c == 125 then Some Closed else None

-- a hash has 64 digits, and a '.' (46) after them
abbrev pub in_hash : ℕ → ℕ → Option Spot
in_hash k c = if nat_lt k 64 then (if is_lower_digit c then Some (Hash (k + 1)) else None) else if c == 46 then Some Dot else None

abbrev pub deep : ℕ → Option Spot
deep c = if c == 48 then Some DepthZero else if is_ascii_digit c then Some DepthDigits else None

abbrev pub next : Spot → ℕ → Option Spot
next Start c = begun c
next Minus c = numbered c
next Zero c = None
next Digits c = if is_ascii_digit c then Some Digits else None
next X c = if c == 123 then Some (BitDigits 48) else if is_name_byte c then Some Letters else None
next Letters c = if is_name_byte c then Some Letters else None
next Blank c = if is_ascii_digit c && not (c == 48) then Some Count else None
next Count c = if is_ascii_digit c then Some Count else None
next (BitDigits last) c = in_bits last c
next Marked c = if c == 125 then Some Closed else None
next Closed c = None
next (Hash k) c = in_hash k c
next Dot c = deep c
next DepthZero c = None
next DepthDigits c = if is_ascii_digit c then Some DepthDigits else None
next Signed c = None

-- a whole lexeme stands there
abbrev pub is_end : Spot → Bool
is_end Start = false
is_end Minus = false
is_end Zero = true
is_end Digits = true
is_end X = true
is_end Letters = true
is_end Blank = true
is_end Count = true
is_end (BitDigits last) = false
is_end Marked = false
is_end Closed = true
is_end (Hash k) = false
is_end Dot = false
is_end DepthZero = true
is_end DepthDigits = true
is_end Signed = true

abbrev pub walk : Spot → List ℕ → Option Spot
walk = walks.walk next

-- ---- what a spot says of the bytes so far

abbrev pub signed : Bool → List ℕ → List ℕ
signed negative digits = if negative then 45 ∷ digits else digits

pub record IsZero (bytes : List ℕ) : Type 0 where
  pub negative : Bool
  pub whole : bytes ≡ signed negative (48 ∷ [])

pub record IsNumber (bytes : List ℕ) : Type 0 where
  pub negative : Bool
  pub digits : List ℕ
  pub whole : bytes ≡ signed negative digits
  pub is_count : is_count digits ≡ true
  pub some : 0 < length digits

pub record IsBitDigits (last : ℕ) (bytes : List ℕ) : Type 0 where
  pub digits : List ℕ
  pub whole : bytes ≡ 120 ∷ 123 ∷ digits
  pub are_digits : AreDigits digits
  pub is_last : last ≡ last_digit digits

pub record IsMarkedBits (bytes : List ℕ) : Type 0 where
  pub digits : List ℕ
  pub whole : bytes ≡ 120 ∷ 123 ∷ digits ++ 95 ∷ []
  pub are_digits : AreDigits digits
  pub ends : is_markable (last_digit digits) ≡ true

pub record IsBits (bytes : List ℕ) : Type 0 where
  pub contents : List ℕ
  pub are_bits : AreBits contents
  pub whole : bytes ≡ spelling (bits contents)

abbrev pub AreLower : List ℕ → Type 0
AreLower [] = Unit {0}
AreLower (d ∷ ds) = (is_lower_digit d ≡ true) × AreLower ds

pub record IsHash (k : ℕ) (bytes : List ℕ) : Type 0 where
  pub digits : List ℕ
  pub whole : bytes ≡ 63 ∷ digits
  pub are_lower : AreLower digits
  pub size : length digits ≡ k
  pub few : k ≤ 64

-- a hash of 32 bytes, and then these bytes
pub record IsHashThen (after bytes : List ℕ) : Type 0 where
  pub hash : List ℕ
  pub size : length hash ≡ 32
  pub are_bytes : AreBytes hash
  pub whole : bytes ≡ 63 ∷ encode_lower hash ++ after

pub record IsDepth (bytes : List ℕ) : Type 0 where
  pub digits : List ℕ
  pub hashed : IsHashThen (46 ∷ digits) bytes
  pub is_count : is_count digits ≡ true
  pub some : 0 < length digits

pub record IsSign (bytes : List ℕ) : Type 0 where
  pub sign : Sign
  pub whole : bytes ≡ sign_byte sign ∷ []

abbrev pub Holds : Spot → List ℕ → Type 0
Holds Start bytes = bytes ≡ []
Holds Minus bytes = bytes ≡ 45 ∷ []
Holds Zero bytes = IsZero bytes
Holds Digits bytes = IsNumber bytes
Holds X bytes = bytes ≡ 120 ∷ []
Holds Letters bytes = IsLetters bytes
Holds Blank bytes = bytes ≡ 95 ∷ []
Holds Count bytes = IsCounted bytes
Holds (BitDigits last) bytes = IsBitDigits last bytes
Holds Marked bytes = IsMarkedBits bytes
Holds Closed bytes = IsBits bytes
Holds (Hash k) bytes = IsHash k bytes
Holds Dot bytes = IsHashThen (46 ∷ []) bytes
Holds DepthZero bytes = IsHashThen (46 ∷ 48 ∷ []) bytes
Holds DepthDigits bytes = IsDepth bytes
Holds Signed bytes = IsSign bytes

-- a hidden part: a hash, and a depth of digits without a leading zero, or `0`
pub data IsDeep (bytes : List ℕ) : Type 0 where
  deep_zero : IsHashThen (46 ∷ 48 ∷ []) bytes → IsDeep bytes
  deep_digits : IsDepth bytes → IsDeep bytes

-- the digits of a hash of 32 bytes
pub record IsHashText (digits : List ℕ) : Type 0 where
  pub hash : List ℕ
  pub size : length hash ≡ 32
  pub are_bytes : AreBytes hash
  pub whole : digits ≡ encode_lower hash

-- the first n bytes lead to a spot, and no more of them lead on
pub record Leads (text : List ℕ) (n : ℕ) (p : Spot) : Type 0 where
  pub within : n ≤ length text
  pub walked : walk Start (take n text) ≡ Some p
  pub stuck : n < length text → next p (get_or text n 0) ≡ None
