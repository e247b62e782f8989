use Rattle.std.proofs.Common.{◌≡◌, drop}
use Rattle.tlb_syntax.specs.Lexeme.{lexemes}
use Rattle.tlb_syntax.specs.Written.{standard}
use Rattle.syntax_check.specs.Judge.{go, position_at}
use Rattle.syntax_check.specs.Judged.{position, start_of, may_end}
use Rattle.syntax_check.proofs.check.Given as goal

abbrev pub invariant-loop-token : goal.invariant-loop-token
invariant-loop-token l = record {
  place : l.judge.place ≡ l.token-index;
  verdict : go (may_end l.whole) (position l.judge) (lexemes l.text (drop l.token-index l.tokens))
      ≡ go (may_end l.whole) (position_at standard (start_of l.whole)) (lexemes l.text l.tokens);
}
