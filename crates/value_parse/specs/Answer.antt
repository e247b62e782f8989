-- What the steps of the program answer.
use Rattle.std.specs.Prelude.{◌≡◌, ◌<◌, ◌≤◌, ℕ, List, length, None, Result, Ok, Err}
use Rattle.cell_nodes.specs.declared.tree.Tree.{Tree}
use Rattle.typed_value.specs.Values.{most_parts}
use Rattle.value_text.specs.Writes.{most_cells}
use Rattle.value_text.specs.declared.lexeme.Lexeme.{Lexeme}
use Rattle.value_grammar.specs.declared.cause.Cause.{Cause}
use Rattle.value_grammar.specs.declared.cause.Cause.TheVariants as causes
use Rattle.value_grammar.specs.Steps.{Outcome, Stepped}
use Rattle.value_grammar.specs.Reading.{Reaches}
use Rattle.value_grammar.specs.Within.{limit_of}
use Rattle.value_parse.specs.declared.error.TextError.{TextError}
use Rattle.value_parse.specs.declared.error.TextError.TheVariants.{Syntax, Range, KeyOrder, DeepText, BulkText}
use Rattle.value_parse.specs.declared.error.TextError.TheVariants.{NoMemory}
use Rattle.value_parse.specs.declared.state.Open.{Open}
use Rattle.value_parse.specs.declared.state.State.{State}
use Rattle.value_parse.specs.View.{frames, held, open_of, spot}

abbrev pub error_of : Cause → ℕ → TextError
error_of causes.Syntax place = Syntax place
error_of causes.Range place = Range place
error_of causes.KeyOrder place = KeyOrder place
error_of causes.DeepText place = DeepText place
error_of causes.BulkText place = BulkText place

-- the error is such a refusal, or out of memory
abbrev pub IfRefused : TextError → (Cause → ℕ → Type 0) → Type 0
IfRefused (Syntax place) P = P causes.Syntax place
IfRefused (Range place) P = P causes.Range place
IfRefused (KeyOrder place) P = P causes.KeyOrder place
IfRefused (DeepText place) P = P causes.DeepText place
IfRefused (BulkText place) P = P causes.BulkText place
IfRefused NoMemory P = Unit {0}

-- the answer is that outcome, or out of memory
abbrev pub Moves : Result Open TextError → Outcome → Type 0
Moves (Ok o) out = out ≡ Ok (open_of o)
Moves (Err e) out = IfRefused e (λ cause place. out ≡ Err (cause, place))

abbrev pub Steps : Result State TextError → Stepped → Type 0
Steps (Ok s) out = out ≡ Ok (held s)
Steps (Err e) out = IfRefused e (λ cause place. out ≡ Err (cause, place))

-- the cell that is closed, or why there is none, or out of memory
abbrev pub Closes : Result Tree TextError → Result Tree Cause → ℕ → Type 0
Closes (Ok t) out place = out ≡ Ok t
Closes (Err e) out place = IfRefused e (λ cause byte. (out ≡ Err cause) × (byte ≡ place))

-- the counts are within the limits
abbrev pub IsCounted : State → Type 0
IsCounted s = (s.values ≤ most_parts) × (s.cells ≤ most_cells)

-- the lexeme passes no limit
abbrev pub IsAllowed : State → Lexeme → Type 0
IsAllowed s l = limit_of s.values s.cells (spot s.begun.spot) (frames s.begun.below.items) l ≡ None

-- what is answered for a text, unless out of memory
abbrev pub IfParsed : {A : Type 0} → Result A TextError → (A → Type 0) → (Cause → ℕ → Type 0) → Type 0
IfParsed (Ok v) P Q = P v
IfParsed (Err e) P Q = IfRefused e Q

-- the steps lead from a place of a text to a further one
pub record IsFurther (text : List ℕ) (place : ℕ) (s : State) (to : ℕ) : Type 0 where
  pub reached : Reaches text to (held s)
  pub counted : IsCounted s
  pub further : place < to
  pub within : to ≤ length text
