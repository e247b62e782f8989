-- Where the steps lead in a text: to a place, to a whole value at its end, or to a refusal.
use Rattle.std.specs.Prelude.{◌≡◌, ◌≢◌, ℕ, ◌+◌, List, [], drop, Ok, Err}
use Rattle.typed_value.specs.Values.{Plain}
use Rattle.value_text.specs.declared.lexeme.Lexeme.{Lexeme}
use Rattle.value_text.specs.Division.{Divides, Placed, space_before, without_space}
use Rattle.value_text.specs.Lexemes.{NothingStands, Stands}
use Rattle.value_grammar.specs.declared.cause.Cause.{Cause}
use Rattle.value_grammar.specs.declared.cause.Cause.TheVariants.{Syntax}
use Rattle.value_grammar.specs.Open.{Frame, Spot, at, done}
use Rattle.value_grammar.specs.Steps.{Held, run, start, step}

-- the text up to a place, and the white space before the place, is divided into lexemes that lead there
pub record Reaches (file : List ℕ) (place : ℕ) (h : Held) : Type 0 where
  pub before : List Placed
  pub end : ℕ
  pub rest : List ℕ
  pub divides : Divides 0 file before end rest
  pub spaced : place ≡ end + space_before rest
  pub left : drop place file ≡ without_space rest
  pub ran : run start before ≡ Ok h

-- the text ends after a whole value
pub record Finishes (file : List ℕ) (v : Plain) : Type 0 where
  pub place : ℕ
  pub held : Held
  pub reaches : Reaches file place held
  pub ends : drop place file ≡ []
  pub below : List Frame
  pub whole : held.begun ≡ at (done v) below

abbrev pub IsUnfinished : Spot → Type 0
IsUnfinished (done v) = ⊥
IsUnfinished spot = Unit {0}

-- the text is refused
pub data Stops (file : List ℕ) : Cause → ℕ → Type 0 where
  -- a lexeme has no step
  at_lexeme : {place n byte : ℕ} {h : Held} {l : Lexeme} {cause : Cause}
      → Reaches file place h → Stands l n (drop place file)
      → step h (place, l) ≡ Err (cause, byte) → Stops file cause byte
  -- no lexeme stands there
  at_nothing : {place : ℕ} {h : Held} → Reaches file place h → drop place file ≢ [] → NothingStands (drop place file)
      → Stops file Syntax place
  -- the text ends too early
  at_end : {place : ℕ} {h : Held} → Reaches file place h → drop place file ≡ [] → (spot : Spot) (below : List Frame)
      → h.begun ≡ at spot below → IsUnfinished spot → Stops file Syntax place
