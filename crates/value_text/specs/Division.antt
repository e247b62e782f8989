-- How a text is divided into lexemes: at each place, after white space, the longest spelling. This project's own.
use Rattle.std.specs.Prelude.{◌≡◌, ◌≢◌, ℕ, ◌+◌, List, [], ◌∷◌, length, drop, map, Option, Some, None}
use Rattle.std.specs.List.{prefix_len}
use Rattle.value_text.specs.declared.lexeme.Sign.{Sign}
use Rattle.value_text.specs.declared.lexeme.Sign.TheVariants.{OpenBrace}
use Rattle.value_text.specs.declared.lexeme.Lexeme.{Lexeme}
use Rattle.value_text.specs.declared.lexeme.Lexeme.TheVariants.{Sign as ASign, Number, Bits, Name, Hidden}
use Rattle.value_text.specs.Tokens.{Token, mark, number, bits, name, hidden}
use Rattle.value_text.specs.Lexemes.{NothingStands, Stands}
use Rattle.value_text.specs.LexemePoints.{sign_at}
use Rattle.value_text.specs.Writes.{is_space}

-- a lexeme and its place: how many bytes of the text stand before it
abbrev pub Placed : Type 0
Placed = ℕ × Lexeme

abbrev pub lexemes : List Placed → List Lexeme
lexemes ls = map (λ (l : Placed). l.1) ls

-- with how much white space a text begins
abbrev pub space_before : List ℕ → ℕ
space_before text = prefix_len is_space text

abbrev pub without_space : List ℕ → List ℕ
without_space text = drop (space_before text) text

-- what is left of a text from a place on is divided into these lexemes, up to what is left from a further place on
pub data Divides : ℕ → List ℕ → List Placed → ℕ → List ℕ → Type 0 where
  none : {place : ℕ} {text : List ℕ} → Divides place text [] place text
  one : {place n end : ℕ} {text rest : List ℕ} {l : Lexeme} {ls : List Placed} → Stands l n (without_space text)
      → Divides (place + space_before text + n) (drop n (without_space text)) ls end rest
      → Divides place text ((place + space_before text, l) ∷ ls) end rest

-- ---- the lexeme that a token is

abbrev pub sign_or : Option Sign → Sign
sign_or (Some s) = s
sign_or None = OpenBrace

abbrev pub lexeme_of : Token → Lexeme
lexeme_of (mark b) = ASign (sign_or (sign_at b))
lexeme_of (number negative size) = Number (record { negative = negative; size = size })
lexeme_of (bits bs) = Bits bs
lexeme_of (name n) = Name n
lexeme_of (hidden h) = Hidden h
