-- What the laws of lexemes say.
use Rattle.std.specs.Prelude.{◌≡◌, ℕ, List}
use Rattle.value_text.specs.declared.lexeme.Lexeme.{Lexeme}
use Rattle.value_text.specs.Lexemes.{Stands}

-- at most one lexeme stands at the beginning of a text, and it has one length
abbrev pub OneLexeme : Type 0
OneLexeme = (text : List ℕ) (l other : Lexeme) (n m : ℕ) → Stands l n text → Stands other m text → (l ≡ other) × (n ≡ m)
