-- What a word for a type is answered with.
-- Source: the TON documentation on the TL-B language; the refusals and their order, and the limit of 4,096 nodes, are
-- this project's own.
use Rattle.std.specs.Prelude.{ℕ, ◌≡◌, ◌≢◌, ◌⊎◌, List, Option, Some, None, Result, Ok, Err, nat_lt, if◌then◌else◌}
use Rattle.tlb_lexer.specs.declared.LexError.{LexError}
use Rattle.tlb_lexer.specs.declared.LexError.TheVariants as tokens
use Rattle.tlb_syntax.specs.Tree.{ExprView}
use Rattle.tlb_syntax.specs.Written.{WritesWord}
use Rattle.tlb_grammar.specs.Answer.{RefusesWord}
use Rattle.tlb_grammar.specs.declared.error.GrammarError.{GrammarError}
use Rattle.tlb_grammar.specs.declared.error.GrammarError.TheVariants as grammar
use Rattle.closed_type.specs.declared.tree.ClosedType.{ClosedType}
use Rattle.closed_type.specs.View.{closed_type}
use Rattle.core_form.specs.Closed.{Closed, nodes}
use Rattle.type_closing.specs.Closing.{closed_of}
use Rattle.type_closing.specs.Faults.{DeclaredKinds, Fault, unknown_type, arity, output, kind_mismatch, too_wide}
use Rattle.type_closing.specs.Faults.{type_fault}
use Rattle.type_word.specs.declared.error.TypeError.{TypeError}
use Rattle.type_word.specs.declared.error.TypeError.TheVariants as errors
use Rattle.type_word.specs.Signs.{first_refused, refused_signs, sign_places}

-- every refusal of the grammar is one at its place
abbrev pub token_error : LexError → TypeError
token_error (tokens.BadCharacter place) = errors.TypeSyntax place
token_error (tokens.OpenComment place) = errors.TypeSyntax place
token_error (tokens.TooLongName place) = errors.TypeSyntax place
token_error tokens.NoMemory = errors.NoMemory

abbrev pub grammar_error : GrammarError → TypeError
grammar_error (grammar.Lex e) = token_error e
grammar_error (grammar.Syntax place) = errors.TypeSyntax place
grammar_error (grammar.DeepType place) = errors.TypeSyntax place
grammar_error (grammar.TooManyConstructors place) = errors.TypeSyntax place
grammar_error (grammar.TooManyFields place) = errors.TypeSyntax place
grammar_error (grammar.TooManyParams place) = errors.TypeSyntax place
grammar_error grammar.NoMemory = errors.NoMemory

abbrev pub fault_error : Fault → TypeError
fault_error (unknown_type x) = errors.UnknownType x
fault_error (arity x) = errors.Arity x
fault_error (output x) = errors.Output x
fault_error (kind_mismatch x) = errors.KindMismatch x
fault_error too_wide = errors.TooWide

abbrev pub bounded : Closed → Result Closed TypeError
bounded t = if nat_lt 4096 (nodes t) then Err errors.BigType else Ok t

abbrev pub after_faults : Option Fault → Result Closed TypeError → Result Closed TypeError
after_faults (Some f) later = Err (fault_error f)
after_faults None later = later

abbrev pub after_signs : Option ℕ → Result Closed TypeError → Result Closed TypeError
after_signs (Some place) later = Err (errors.TypeSyntax place)
after_signs None later = later

-- Of an expression whose signs stand at these places: first a sign that is refused, then a fault, and last a closed
-- type that is too large.
abbrev pub resolved : DeclaredKinds → List ℕ → ExprView → Result Closed TypeError
resolved d places e =
    after_signs (first_refused (refused_signs e) places) (after_faults (type_fault d None e) (bounded (closed_of e)))

-- the word's grammar refuses it, or it writes an expression for which this is the answer
abbrev pub Resolves : DeclaredKinds → List ℕ → Result Closed TypeError → Type 0
Resolves d word r =
    ((g : GrammarError) × RefusesWord word g × (r ≡ Err (grammar_error g)))
    ⊎ ((e : ExprView) × (w : WritesWord word e) × (r ≡ resolved d (sign_places word w.tokens) e))

-- whatever the answer is but out of memory, it is so
abbrev pub IfResolved : {X : Type 0} → Result X TypeError → (X → Type 0) → (TypeError → Type 0) → Type 0
IfResolved (Ok x) P Q = P x
IfResolved (Err e) P Q = e ≢ errors.NoMemory → Q e

-- what a call answers for the word, unless out of memory
abbrev pub Answers : DeclaredKinds → List ℕ → Result ClosedType TypeError → Type 0
Answers d word r = IfResolved r (λ t. Resolves d word (Ok (closed_type t))) (λ error. Resolves d word (Err error))
