-- What the calls that read may answer for a text.
use Rattle.std.specs.Prelude.{ℕ, ◌≢◌, List, Result, Ok, Err}
use Rattle.syntax_check.specs.declared.machine.Cause.{Cause as Checked}
use Rattle.syntax_check.specs.declared.machine.Cause.TheVariants as checked
use Rattle.tlb_lexer.specs.declared.LexError.{LexError}
use Rattle.tlb_lexer.specs.declared.LexError.TheVariants as tokens
use Rattle.tlb_lexer.specs.Tokenization.{TokenRefusal}
use Rattle.tlb_syntax.specs.Written.{Cause, syntax, deep_type, too_many_constructors, too_many_fields, too_many_params}
use Rattle.tlb_syntax.specs.Written.{SchemaRefused, WordRefused}
use Rattle.tlb_grammar.specs.declared.error.GrammarError.{GrammarError}
use Rattle.tlb_grammar.specs.declared.error.GrammarError.TheVariants.{Lex, Syntax, DeepType, TooManyConstructors}
use Rattle.tlb_grammar.specs.declared.error.GrammarError.TheVariants.{TooManyFields, TooManyParams, NoMemory}

-- whatever the answer is but out of memory, it is so
abbrev pub IfRead : {X : Type 0} → Result X GrammarError → (X → Type 0) → (GrammarError → Type 0) → Type 0
IfRead (Ok x) P Q = P x
IfRead (Err e) P Q = e ≢ NoMemory → Q e

-- the text's refusal: that of its tokens, or the first one of the lexemes
abbrev pub RefusesBy : (Cause → ℕ → Type 0) → List ℕ → GrammarError → Type 0
RefusesBy Refused text (Lex e) = TokenRefusal text e
RefusesBy Refused text (Syntax place) = Refused syntax place
RefusesBy Refused text (DeepType place) = Refused deep_type place
RefusesBy Refused text (TooManyConstructors place) = Refused too_many_constructors place
RefusesBy Refused text (TooManyFields place) = Refused too_many_fields place
RefusesBy Refused text (TooManyParams place) = Refused too_many_params place
RefusesBy Refused text NoMemory = ⊥

abbrev pub Refuses : List ℕ → GrammarError → Type 0
Refuses text e = RefusesBy (SchemaRefused text) text e

abbrev pub RefusesWord : List ℕ → GrammarError → Type 0
RefusesWord text e = RefusesBy (WordRefused text) text e

-- ---- the program's refusals

-- a refusal of the lexemes at a byte
abbrev pub error_of : Checked → ℕ → GrammarError
error_of checked.Syntax byte = Syntax byte
error_of checked.DeepType byte = DeepType byte
error_of checked.TooManyConstructors byte = TooManyConstructors byte
error_of checked.TooManyFields byte = TooManyFields byte
error_of checked.TooManyParams byte = TooManyParams byte

-- a refusal of the tokens
abbrev pub reads_error : LexError → GrammarError
reads_error tokens.NoMemory = NoMemory
reads_error (tokens.BadCharacter place) = Lex (tokens.BadCharacter place)
reads_error (tokens.OpenComment place) = Lex (tokens.OpenComment place)
reads_error (tokens.TooLongName place) = Lex (tokens.TooLongName place)
