-- What `tokens` may answer for a text.
use Rattle.std.specs.Prelude.{Result, Ok, Err}
use Rattle.tlb_lexer.specs.declared.LexError.{LexError}
use Rattle.tlb_lexer.specs.declared.LexError.TheVariants as errors

-- whatever the answer is but out of memory, it is so
abbrev pub IfAnswered : {X : Type 0} → Result X LexError → (X → Type 0) → (LexError → Type 0) → Type 0
IfAnswered (Ok x) P Q = P x
IfAnswered (Err errors.NoMemory) P Q = Unit {0}
IfAnswered (Err (errors.BadCharacter place)) P Q = Q (errors.BadCharacter place)
IfAnswered (Err (errors.OpenComment place)) P Q = Q (errors.OpenComment place)
IfAnswered (Err (errors.TooLongName place)) P Q = Q (errors.TooLongName place)
