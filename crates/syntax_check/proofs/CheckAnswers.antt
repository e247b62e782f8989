-- What the judge's verdict says of the lexemes.
use Rattle.std.proofs.Common.{◌≡◌, List, Option, Some, None, MatchOption, Result, Ok, Err, IfOk, sym}
use Rattle.tlb_syntax.specs.Lexeme.{Lexeme}
use Rattle.tlb_syntax.specs.Grammar.{Declarations, TypeWord}
use Rattle.tlb_syntax.specs.Tree.{ExprView, SchemaView}
use Rattle.tlb_syntax.specs.Written.{standard, WithinCounts, IsFirst, SchemaRefusal, WordRefusal}
use Rattle.syntax_check.specs.declared.judge.Refusal.{Refusal}
use Rattle.syntax_check.specs.Judge.{schema_verdict, word_verdict}
use Rattle.syntax_check.specs.Judged.{reported_verdict}
use Rattle.syntax_check.specs.Verdict.{cause_of}
use Rattle.syntax_check.proofs.Schemas.{schema_written, schema_refused}
use Rattle.syntax_check.proofs.TypeWords.{word_written, word_refused}

schema-answer : (ls : List Lexeme) (found : Option Refusal) → reported_verdict found ≡ schema_verdict ls
    → MatchOption found ((s : SchemaView) × Declarations standard ls s × WithinCounts s)
    (λ r. IsFirst (SchemaRefusal ls) (cause_of r.cause) r.place)
schema-answer ls None e = schema_written ls (sym e)
schema-answer ls (Some r) e = schema_refused ls r.cause r.place (sym e)

word-answer : (ls : List Lexeme) (found : Option Refusal) → reported_verdict found ≡ word_verdict ls
    → MatchOption found ((e : ExprView)
    × TypeWord standard ls e) (λ r. IsFirst (WordRefusal ls) (cause_of r.cause) r.place)
word-answer ls None e = word_written ls (sym e)
word-answer ls (Some r) e = word_refused ls r.cause r.place (sym e)

pub schema-answered : {E : Type 0} (ls : List Lexeme) (r : Result (Option Refusal) E)
    → IfOk r (λ found. reported_verdict found ≡ schema_verdict ls)
    → IfOk r (λ found. MatchOption found ((s : SchemaView) × Declarations standard ls s × WithinCounts s)
    (λ r. IsFirst (SchemaRefusal ls) (cause_of r.cause) r.place))
schema-answered ls (Ok found) e = schema-answer ls found e
schema-answered ls (Err why) e = tt

pub word-answered : {E : Type 0} (ls : List Lexeme) (r : Result (Option Refusal) E)
    → IfOk r (λ found. reported_verdict found ≡ word_verdict ls)
    → IfOk r (λ found. MatchOption found ((e : ExprView)
    × TypeWord standard ls e) (λ r. IsFirst (WordRefusal ls) (cause_of r.cause) r.place))
word-answered ls (Ok found) e = word-answer ls found e
word-answered ls (Err why) e = tt
