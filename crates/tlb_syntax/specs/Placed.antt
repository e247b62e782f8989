-- Tokens that stand within their text, and the lexemes of tokens that are spelled as the lexer spells them.
use Rattle.std.specs.Prelude.{ℕ, ◌≤◌, ◌||◌, List, [], ◌∷◌, length, IsTrue}
use Rattle.tlb_lexer.specs.declared.Token.{Token}
use Rattle.tlb_lexer.specs.Spelling.{is_underscore, are_bits, ends_hex}
use Rattle.bit_slice.specs.Names.{IsName}
use Rattle.tlb_syntax.specs.declared.lexeme.Lexeme.{Lexeme as Entry}
use Rattle.tlb_syntax.specs.declared.lexeme.Lexeme.TheVariants as entries

pub record IsWithin (text : List ℕ) (t : Token) : Type 0 where
  pub forward : t.from ≤ t.to
  pub within : t.to ≤ length text

abbrev pub AreWithin : List ℕ → List Token → Type 0
AreWithin text [] = Unit {0}
AreWithin text (t ∷ ts) = IsWithin text t × AreWithin text ts

-- names are names, and the digits of tags are `_`, binary digits, or hexadecimal digits with or without a `_` after
-- them
abbrev pub IsSpelled : Entry → Type 0
IsSpelled (entries.Name text) = IsName text.now
IsSpelled entries.Blank = Unit {0}
IsSpelled (entries.Number n) = Unit {0}
IsSpelled (entries.BinaryTag digits) = IsTrue (is_underscore digits.now || are_bits digits.now)
IsSpelled (entries.HexTag digits) = IsTrue (ends_hex digits.now)
IsSpelled (entries.Sign s) = Unit {0}
IsSpelled entries.Other = Unit {0}
