-- The tokens of a schema with what they stand for.
-- Source: the TON documentation on the TL-B language (names, numbers, tags, symbols).
use Rattle.std.specs.Prelude.{ℕ, ◌+◌, ◌-◌, ◌*◌, ◌/◌, ◌%◌, ◌^◌, ◌==◌, Bool, true, false, List, [], ◌∷◌, map, drop}
use Rattle.std.specs.Prelude.{length, Option, Some, None, if◌then◌else◌, nat_lt, nat_le, bytes_eq, codes}
use Rattle.std.specs.List.{flat_map}
use Rattle.tlb_lexer.specs.declared.Token.{Token}
use Rattle.tlb_lexer.specs.declared.TokenKind.{TokenKind}
use Rattle.tlb_lexer.specs.declared.TokenKind.TheVariants as kinds
use Rattle.tlb_lexer.specs.Bytes.{is_digit}
use Rattle.tlb_lexer.specs.Spelling.{is_underscore}
use Rattle.tlb_lexer.specs.Tokenization.{token_bytes}
use Rattle.tlb_syntax.specs.declared.lexeme.Lexeme.{Lexeme as Entry}
use Rattle.tlb_syntax.specs.declared.lexeme.Lexeme.TheVariants as entries
use Rattle.tlb_syntax.specs.declared.sign.Sign.{Sign}
use Rattle.tlb_syntax.specs.declared.sign.Sign.TheVariants.{Hash, HashHash, HashLess, HashLessEqual, Colon, Semicolon}
use Rattle.tlb_syntax.specs.declared.sign.Sign.TheVariants.{Equal, OpenParen, CloseParen, OpenBrace, CloseBrace}
use Rattle.tlb_syntax.specs.declared.sign.Sign.TheVariants.{OpenBracket, CloseBracket, Caret, Tilde, Question, Dot}
use Rattle.tlb_syntax.specs.declared.sign.Sign.TheVariants.{Asterisk, Plus, Less, LessEqual, Greater, GreaterEqual}
use Rattle.tlb_syntax.specs.declared.sign.Sign.TheVariants.{Bang}

-- A name by its bytes, `_`, a number, the bits of a tag, a symbol. A number above 2^32 - 1 and a tag that stands for
-- no bits, or for more than 1023, have none.
pub data Lexeme : Type 0 where
  word : List ℕ → Lexeme
  blank : Lexeme
  number : Option ℕ → Lexeme
  tag : Option (List ℕ) → Lexeme
  sign : Sign → Lexeme
  -- bytes that spell no symbol
  other : Lexeme

-- ---- numbers

-- the number whose decimal digits are those of n and then these
abbrev pub decimal_onto : ℕ → List ℕ → ℕ
decimal_onto n [] = n
decimal_onto n (d ∷ ds) = decimal_onto (10 * n + (d - 48)) ds

-- the number of decimal digits, where it is at most 2^32 - 1
abbrev pub number_of : List ℕ → Option ℕ
number_of digits = if nat_lt (decimal_onto 0 digits) (2 ^ 32) then Some (decimal_onto 0 digits) else None

-- ---- tags

abbrev pub at_most_1023 : List ℕ → Option (List ℕ)
at_most_1023 bits = if nat_le (length bits) 1023 then Some bits else None

abbrev pub and_at_most_1023 : Option (List ℕ) → Option (List ℕ)
and_at_most_1023 None = None
and_at_most_1023 (Some bits) = at_most_1023 bits

-- the bits of what stands after a `$`: a bit for each digit, or `_`
abbrev pub binary_bits : List ℕ → Option (List ℕ)
binary_bits digits = if is_underscore digits then Some [] else at_most_1023 (map (λ d. d - 48) digits)

-- the value of a hexadecimal digit of either case
abbrev pub hex_value : ℕ → ℕ
hex_value d = if is_digit d then d - 48 else if nat_le 97 d then d - 87 else d - 55

-- its four bits, the highest first
abbrev pub hex_bits : ℕ → List ℕ
hex_bits d = hex_value d / 8 ∷ (hex_value d / 4) % 2 ∷ (hex_value d / 2) % 2 ∷ hex_value d % 2 ∷ []

abbrev pub before_completion : ℕ → Option (List ℕ) → Option (List ℕ)
before_completion b (Some bits) = Some (b ∷ bits)
before_completion b None = if b == 1 then Some [] else None

-- bits without the last 1 and the zeros after it; none where no bit is 1
abbrev pub without_completion : List ℕ → Option (List ℕ)
without_completion [] = None
without_completion (b ∷ bits) = before_completion b (without_completion bits)

-- hexadecimal digits, and whether a `_` stands after them
abbrev pub hex_digits : List ℕ → List ℕ
hex_digits [] = []
hex_digits (d ∷ ds) = if is_underscore (d ∷ ds) then [] else d ∷ hex_digits ds

abbrev pub is_completed : List ℕ → Bool
is_completed [] = false
is_completed (d ∷ ds) = if is_underscore (d ∷ ds) then true else is_completed ds

-- the bits of what stands after a `#`: four for each digit, less the completion where a `_` follows; `_` alone is no
-- bits
abbrev pub hexadecimal_bits : List ℕ → Option (List ℕ)
hexadecimal_bits digits =
    if is_underscore digits then Some []
    else if is_completed digits then and_at_most_1023 (without_completion (flat_map hex_bits (hex_digits digits)))
    else at_most_1023 (flat_map hex_bits digits)

-- ---- symbols

abbrev pub signs : List Sign
signs =
    Hash ∷ HashHash ∷ HashLess ∷ HashLessEqual ∷ Colon ∷ Semicolon ∷ Equal ∷ OpenParen ∷ CloseParen ∷ OpenBrace ∷
    CloseBrace ∷ OpenBracket ∷ CloseBracket ∷ Caret ∷ Tilde ∷ Question ∷ Dot ∷ Asterisk ∷ Plus ∷ Less ∷ LessEqual ∷
    Greater ∷ GreaterEqual ∷ Bang ∷ []

abbrev pub sign_text : Sign → List ℕ
sign_text Hash = codes "#"
sign_text HashHash = codes "##"
sign_text HashLess = codes "#<"
sign_text HashLessEqual = codes "#<="
sign_text Colon = codes ":"
sign_text Semicolon = codes ";"
sign_text Equal = codes "="
sign_text OpenParen = codes "("
sign_text CloseParen = codes ")"
sign_text OpenBrace = codes "{"
sign_text CloseBrace = codes "}"
sign_text OpenBracket = codes "["
sign_text CloseBracket = codes "]"
sign_text Caret = codes "^"
sign_text Tilde = codes "~"
sign_text Question = codes "?"
sign_text Dot = codes "."
sign_text Asterisk = codes "*"
sign_text Plus = codes "+"
sign_text Less = codes "<"
sign_text LessEqual = codes "<="
sign_text Greater = codes ">"
sign_text GreaterEqual = codes ">="
sign_text Bang = codes "!"

-- the first of these symbols that the bytes spell
abbrev pub sign_among : List Sign → List ℕ → Lexeme
sign_among [] text = other
sign_among (s ∷ ss) text = if bytes_eq (sign_text s) text then sign s else sign_among ss text

-- ---- tokens

abbrev pub meaning : TokenKind → List ℕ → Lexeme
meaning kinds.Name text = word text
meaning kinds.Blank text = blank
meaning kinds.Number text = number (number_of text)
meaning kinds.BinaryTag text = tag (binary_bits (drop 1 text))
meaning kinds.HexTag text = tag (hexadecimal_bits (drop 1 text))
meaning kinds.Symbol text = sign_among signs text

abbrev pub lexeme_of : List ℕ → Token → Lexeme
lexeme_of text t = meaning t.kind (token_bytes text t)

abbrev pub lexemes : List ℕ → List Token → List Lexeme
lexemes text tokens = map (lexeme_of text) tokens

-- ---- the program's lexemes

abbrev pub lexeme : Entry → Lexeme
lexeme (entries.Name text) = word text.now
lexeme entries.Blank = blank
lexeme (entries.Number n) = number n
lexeme (entries.BinaryTag digits) = tag (binary_bits digits.now)
lexeme (entries.HexTag digits) = tag (hexadecimal_bits digits.now)
lexeme (entries.Sign s) = sign s
lexeme entries.Other = other
