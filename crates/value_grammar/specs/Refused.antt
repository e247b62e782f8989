-- The first refusal of a text that writes no value, with its place. This project's own.
--
-- Where a text stands, it has been divided into lexemes, and a value is open of which they are what has been written.
-- It is refused at the next place where a lexeme passes a limit, where no value can go on with the lexeme, where no
-- lexeme stands, or where the text ends too early.
use Rattle.std.specs.Prelude.{◌≡◌, ◌≢◌, ℕ, ◌+◌, List, [], ◌∷◌, ◌++◌, map, Some, None, Err}
use Rattle.value_text.specs.declared.lexeme.Sign.TheVariants.{CloseParen, OpenParen}
use Rattle.value_text.specs.declared.lexeme.Lexeme.{Lexeme}
use Rattle.value_text.specs.declared.lexeme.Lexeme.TheVariants.{Sign as ASign}
use Rattle.value_text.specs.Division.{Divides, Placed, lexeme_of, lexemes, space_before, without_space}
use Rattle.value_text.specs.Lexemes.{NothingStands, Stands}
use Rattle.value_text.specs.Text.{cell, more}
use Rattle.value_text.specs.Tokens.{bits}
use Rattle.value_grammar.specs.Grammar.{CanGoOn, IsWhole}
use Rattle.value_grammar.specs.Open.{Frame, Open, OpenCell, Spot, after_part, at, in_cell, so_far}
use Rattle.value_grammar.specs.Shapes.{shape, shapes}
use Rattle.value_grammar.specs.declared.cause.Cause.{Cause}
use Rattle.value_grammar.specs.declared.cause.Cause.TheVariants.{Syntax}
use Rattle.value_grammar.specs.Within.{IsWithin, closed, limit}

-- the cell that a `)` closes there
abbrev pub Closes : Open → OpenCell → Type 0
Closes (at (in_cell base ps (after_part p)) below) q = p ≡ q
Closes held q = ⊥

-- the refusal at what comes next: the text from a place on, which begins by no white space
pub data RefusedAt (held : Open) (before : List Placed) (place : ℕ) (text : List ℕ) : Cause → ℕ → Type 0 where
  -- the lexeme passes a limit
  at_limit : {l : Lexeme} {n : ℕ} {cause : Cause} → Stands l n text → limit held l ≡ Some cause
      → RefusedAt held before place text cause place
  -- a cell is closed that there is none of; the place is that of its `(`, after which its bits and references stand
  at_cell : {n byte : ℕ} {cause : Cause} → Stands (ASign CloseParen) n text
      → (p : OpenCell) (earlier inner : List Placed) → Closes held p → closed p ≡ Err cause
      → before ≡ earlier ++ (byte, ASign OpenParen) ∷ inner
      → lexemes inner ≡ map lexeme_of (bits p.bits ∷ more (map cell p.refs))
      → RefusedAt held before place text cause byte
  -- no value can go on with the lexeme
  at_lexeme : {l : Lexeme} {n : ℕ} → Stands l n text → limit held l ≡ None → CanGoOn (shapes (lexemes before))
      → (CanGoOn (shapes (lexemes before) ++ shape l ∷ []) → ⊥) → RefusedAt held before place text Syntax place
  -- no lexeme stands there
  at_nothing : text ≢ [] → NothingStands text → CanGoOn (shapes (lexemes before))
      → RefusedAt held before place text Syntax place
  -- the text ends, and the value is not whole
  at_end : text ≡ [] → CanGoOn (shapes (lexemes before)) → (IsWhole (shapes (lexemes before)) → ⊥)
      → RefusedAt held before place text Syntax place

pub record TextRefused (file : List ℕ) (cause : Cause) (byte : ℕ) : Type 0 where
  pub before : List Placed
  pub place : ℕ
  pub rest : List ℕ
  pub divides : Divides 0 file before place rest
  pub spot : Spot
  pub below : List Frame
  -- the lexemes before the place are what has been written of what is open
  pub written : lexemes before ≡ map lexeme_of (so_far (at spot below))
  pub within : IsWithin spot below
  pub refused : RefusedAt (at spot below) before (place + space_before rest) (without_space rest) cause byte
