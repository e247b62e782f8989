use Rattle.std.proofs.Common.{◌≡◌, ◌+◌, ◌∙◌, ap, Ok, arith}
use Rattle.tlb_lexer.specs.declared.TokenKind.TheVariants.{Name}
use Rattle.tlb_lexer.specs.declared.Token.{Token}
use Rattle.tlb_syntax.specs.Lexeme.{lexeme}
use Rattle.syntax_check.specs.Judge.{advance}
use Rattle.syntax_check.specs.Judged.{position, may_end}
use Rattle.syntax_check.proofs.JudgeSteps.{placed_at, tokens_before, advance_place, not_refused, goes_on}
use Rattle.syntax_check.proofs.check.Goals as goal

-- what is read past the end of the tokens
no_token : Token
no_token = record { kind = Name; from = 0; to = 0 }

pub lexeme_at-requires : goal.lexeme_at-requires
unfolding no_token
lexeme_at-requires c =
    let placed = placed_at c.args.text.now 0 c.args.tokens.now c.loop-token.token-index no_token c.requires.placed c.loop-token-test.true in
    record { forward = omega (arith, placed.1.forward); within = placed.1.within }

pub advance-requires-clause-spelled : goal.advance-requires-clause-spelled
unfolding no_token
advance-requires-clause-spelled c =
    c.lexeme_at.ensures.spelled (placed_at c.args.text.now 0 c.args.tokens.now c.loop-token.token-index no_token c.requires.placed c.loop-token-test.true).1.spelled

pub advance-requires-clause-room : goal.advance-requires-clause-room
advance-requires-clause-room c =
    omega (arith, tokens_before c.args.text.now 0 c.args.tokens.now c.loop-token.token-index c.requires.placed c.loop-token-test.true)

pub loop-token-preserved : goal.loop-token-preserved
unfolding no_token
loop-token-preserved c =
    let further : advance (position c.loop-token.judge) (lexeme c.lexeme_at.result) ≡ Ok (position c.advance.new.self) =
    not_refused (position c.loop-token.judge) (position c.advance.new.self) (lexeme c.lexeme_at.result) c.in_ok-refused.refused c.in_ok-refused.ensures c.if-is_some.ensures in
    record {
      place = advance_place (position c.loop-token.judge) (position c.advance.new.self) (lexeme c.lexeme_at.result) further ∙ ap (λ n. n + 1) c.loop-token.invariant.place;
      verdict =
          goes_on (may_end c.args.whole) (position c.loop-token.judge) (position c.advance.new.self) c.args.text.now c.args.tokens.now c.loop-token.token-index no_token
          (lexeme c.lexeme_at.result) c.loop-token-test.true c.lexeme_at.ensures.meaning further
          ∙ c.loop-token.invariant.verdict;
    }
