-- What the answers for a list of lexemes say by the productions.
use Rattle.std.specs.Prelude.{ℕ, ◌≡◌, ◌⊎◌, List, Some, None}
use Rattle.tlb_syntax.specs.Lexeme.{Lexeme}
use Rattle.tlb_syntax.specs.Grammar.{Declarations, TypeWord}
use Rattle.tlb_syntax.specs.Tree.{ExprView, SchemaView}
use Rattle.tlb_syntax.specs.Written.{standard, WithinCounts, IsFirst, SchemaRefusal, WordRefusal, syntax, deep_type}
use Rattle.tlb_syntax.specs.Written.{too_many_constructors, too_many_fields, too_many_params, Cause as Reason}
use Rattle.syntax_check.specs.declared.machine.Cause.{Cause}
use Rattle.syntax_check.specs.declared.machine.Cause.TheVariants.{Syntax, DeepType, TooManyConstructors, TooManyFields}
use Rattle.syntax_check.specs.declared.machine.Cause.TheVariants.{TooManyParams}
use Rattle.syntax_check.specs.Judge.{schema_verdict, word_verdict}

abbrev pub cause_of : Cause → Reason
cause_of Syntax = syntax
cause_of DeepType = deep_type
cause_of TooManyConstructors = too_many_constructors
cause_of TooManyFields = too_many_fields
cause_of TooManyParams = too_many_params

-- ---- schemas

abbrev pub SchemaWritten : Type 0
SchemaWritten = (ls : List Lexeme) → schema_verdict ls ≡ None
    → (s : SchemaView) × Declarations standard ls s × WithinCounts s

abbrev pub SchemaIsRefused : Type 0
SchemaIsRefused = (ls : List Lexeme) (c : Cause) (place : ℕ) → schema_verdict ls ≡ Some (c, place)
    → IsFirst (SchemaRefusal ls) (cause_of c) place

abbrev pub SchemaTaken : Type 0
SchemaTaken = (ls : List Lexeme) (s : SchemaView) → Declarations standard ls s → WithinCounts s
    → schema_verdict ls ≡ None

-- no list of lexemes writes a schema within the limits and is refused, first or later
abbrev pub SchemaOneAnswer : Type 0
SchemaOneAnswer = (ls : List Lexeme) (s : SchemaView) (c : Reason) (place : ℕ) → Declarations standard ls s
    → WithinCounts s → SchemaRefusal ls c place → ⊥

-- every list of lexemes writes a schema within the limits, or has a first refusal
abbrev pub SchemaSomeAnswer : Type 0
SchemaSomeAnswer = (ls : List Lexeme)
    → ((s : SchemaView) × Declarations standard ls s × WithinCounts s)
    ⊎ ((c : Reason) × (place : ℕ) × IsFirst (SchemaRefusal ls) c place)

-- ---- type words

abbrev pub WordWritten : Type 0
WordWritten = (ls : List Lexeme) → word_verdict ls ≡ None → (e : ExprView) × TypeWord standard ls e

abbrev pub WordIsRefused : Type 0
WordIsRefused = (ls : List Lexeme) (c : Cause) (place : ℕ) → word_verdict ls ≡ Some (c, place)
    → IsFirst (WordRefusal ls) (cause_of c) place

abbrev pub WordTaken : Type 0
WordTaken = (ls : List Lexeme) (e : ExprView) → TypeWord standard ls e → word_verdict ls ≡ None

abbrev pub WordOneAnswer : Type 0
WordOneAnswer = (ls : List Lexeme) (e : ExprView) (c : Reason) (place : ℕ) → TypeWord standard ls e
    → WordRefusal ls c place → ⊥

-- every list of lexemes writes a type word within the limits, or has a first refusal
abbrev pub WordSomeAnswer : Type 0
WordSomeAnswer = (ls : List Lexeme)
    → ((e : ExprView) × TypeWord standard ls e) ⊎ ((c : Reason) × (place : ℕ) × IsFirst (WordRefusal ls) c place)

-- ---- first refusals

-- there is at most one
abbrev pub OneFirst : (Reason → ℕ → Type 0) → Type 0
OneFirst Refusal = (c d : Reason) (place other : ℕ) → IsFirst Refusal c place → IsFirst Refusal d other
    → (c ≡ d) × (place ≡ other)
