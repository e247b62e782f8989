-- The lexemes of a value's text and their spellings: the tokens, and what has the spelling of a token and is past its limit.
-- At each place the longest spelling stands. This project's own.
use Rattle.std.specs.Prelude.{◌≡◌, ℕ, ◌<◌, ◌≤◌, ◌^◌, Bool, if◌then◌else◌, IsTrue, List, [], ◌∷◌, ◌++◌, length, take, codes, Option, Some, None}
use Rattle.std.specs.Str.Parse.{digits_value}
use Rattle.hex.specs.Hex.{encode_lower}
use Rattle.bit_slice.specs.Bits.{AreBits}
use Rattle.bit_slice.specs.Names.{IsName, is_count}
use Rattle.value_text.specs.declared.lexeme.Sign.{Sign}
use Rattle.value_text.specs.declared.lexeme.Sign.TheVariants.{OpenBrace, CloseBrace, OpenBracket, CloseBracket, OpenParen, CloseParen, Less, Greater, Comma, Colon, Tilde, Caret, Bang, Percent}
use Rattle.value_text.specs.declared.lexeme.Form.{Form}
use Rattle.value_text.specs.declared.lexeme.Form.TheVariants as forms
use Rattle.value_text.specs.declared.lexeme.Lexeme.{Lexeme}
use Rattle.value_text.specs.declared.lexeme.Lexeme.TheVariants.{Sign as ASign, Number, Bits, Name, Hidden, Beyond}
use Rattle.value_text.specs.Tokens.{Token, mark, number, bits, name, hidden, spelling}
use Rattle.value_text.specs.Writes.{AreBytes, AreFew, IsHidden}

abbrev pub sign_byte : Sign → ℕ
sign_byte OpenBrace = 123
sign_byte CloseBrace = 125
sign_byte OpenBracket = 91
sign_byte CloseBracket = 93
sign_byte OpenParen = 40
sign_byte CloseParen = 41
sign_byte Less = 60
sign_byte Greater = 62
sign_byte Comma = 44
sign_byte Colon = 58
sign_byte Tilde = 126
sign_byte Caret = 94
sign_byte Bang = 33
sign_byte Percent = 37

-- a lexeme within its limits is a token
abbrev pub token : Lexeme → Option Token
token (ASign s) = Some (mark (sign_byte s))
token (Number n) = Some (number n.negative n.size)
token (Bits bs) = Some (bits bs)
token (Name n) = Some (name n)
token (Hidden h) = Some (hidden h)
token (Beyond form) = None

-- digits without a leading zero, whose number is at least so large
abbrev pub AreDigitsFrom : ℕ → List ℕ → Type 0
AreDigitsFrom least digits = IsTrue (is_count digits) × (0 < length digits) × (least ≤ digits_value 10 digits)

-- a number of 2^128 or more: 45 is '-'
pub record IsLongNumber (bytes : List ℕ) : Type 0 where
  pub negative : Bool
  pub digits : List ℕ
  pub large : AreDigitsFrom (2 ^ 128) digits
  pub whole : bytes ≡ (if negative then 45 ∷ digits else digits)

-- more than 1023 bits
pub record AreLongBits (bytes : List ℕ) : Type 0 where
  pub contents : List ℕ
  pub are_bits : AreBits contents
  pub many : 1023 < length contents
  pub whole : bytes ≡ spelling (bits contents)

-- a hidden part of a depth of 2^16 or more: 63 is '?', 46 is '.'
pub record IsDeepHidden (bytes : List ℕ) : Type 0 where
  pub hash : List ℕ
  pub digits : List ℕ
  pub size : length hash ≡ 32
  pub are_bytes : AreBytes hash
  pub large : AreDigitsFrom (2 ^ 16) digits
  pub whole : bytes ≡ 63 ∷ encode_lower hash ++ 46 ∷ digits

abbrev pub SpellsBeyond : Form → List ℕ → Type 0
SpellsBeyond forms.Number bytes = IsLongNumber bytes
SpellsBeyond forms.Bits bytes = AreLongBits bytes
SpellsBeyond forms.Hidden bytes = IsDeepHidden bytes

-- the bytes spell the lexeme
abbrev pub Spells : Lexeme → List ℕ → Type 0
Spells (ASign s) bytes = bytes ≡ sign_byte s ∷ []
Spells (Number n) bytes = (n.size < 2 ^ 128) × (bytes ≡ spelling (number n.negative n.size))
Spells (Bits bs) bytes = AreFew bs × (bytes ≡ spelling (bits bs))
Spells (Name n) bytes = IsName n × (bytes ≡ n)
Spells (Hidden h) bytes = IsHidden h × (bytes ≡ spelling (hidden h))
Spells (Beyond form) bytes = SpellsBeyond form bytes

-- ---- what stands at the beginning of a text

-- `x{` can only begin bits
abbrev pub BeginsBits : List ℕ → Type 0
BeginsBits text = take 2 text ≡ codes "x{"

abbrev pub IsOfBits : Lexeme → Type 0
IsOfBits (Bits bs) = Unit {0}
IsOfBits (Beyond forms.Bits) = Unit {0}
IsOfBits _ = ⊥

-- the first n bytes of the text spell the lexeme, and no more of them spell one
pub record Stands (l : Lexeme) (n : ℕ) (text : List ℕ) : Type 0 where
  pub within : n ≤ length text
  pub spelled : Spells l (take n text)
  pub longest : (m : ℕ) (other : Lexeme) → n < m → m ≤ length text → Spells other (take m text) → ⊥
  pub only_bits : BeginsBits text → IsOfBits l

abbrev pub NothingStands : List ℕ → Type 0
NothingStands text = (l : Lexeme) (n : ℕ) → Stands l n text → ⊥
