-- Every list of lexemes is written or refused.
use Rattle.std.proofs.Common.{◌≡◌, ◌⊎◌, inl, inr, ℕ, Some, None, refl}
use Rattle.tlb_syntax.specs.Grammar.{Declarations, TypeWord}
use Rattle.tlb_syntax.specs.Tree.{ExprView, SchemaView}
use Rattle.tlb_syntax.specs.Written.{standard, WithinCounts, IsFirst, SchemaRefusal, WordRefusal, Cause as Reason}
use Rattle.syntax_check.specs.Judge.{Verdict, schema_verdict, word_verdict}
use Rattle.syntax_check.specs.Verdict.{cause_of, SchemaSomeAnswer, WordSomeAnswer}
use Rattle.syntax_check.proofs.Schemas.{schema_written, schema_refused}
use Rattle.syntax_check.proofs.TypeWords.{word_written, word_refused}

pub schema_some_answer : SchemaSomeAnswer
schema_some_answer ls = go (schema_verdict ls) refl
  where
    go : (v : Verdict) → schema_verdict ls ≡ v → ((s : SchemaView) × Declarations standard ls s × WithinCounts s)
        ⊎ ((c : Reason) × (place : ℕ) × IsFirst (SchemaRefusal ls) c place)
    go None e = inl (schema_written ls e)
    go (Some r) e = inr (cause_of r.0, r.1, schema_refused ls r.0 r.1 e)

pub word_some_answer : WordSomeAnswer
word_some_answer ls = go (word_verdict ls) refl
  where
    go : (v : Verdict) → word_verdict ls ≡ v → ((e : ExprView) × TypeWord standard ls e)
        ⊎ ((c : Reason) × (place : ℕ) × IsFirst (WordRefusal ls) c place)
    go None e = inl (word_written ls e)
    go (Some r) e = inr (cause_of r.0, r.1, word_refused ls r.0 r.1 e)
