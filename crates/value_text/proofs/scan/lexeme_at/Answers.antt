use Rattle.std.proofs.Common.{sym, take, ◌∙◌}
use Rattle.value_text.specs.ScansLaws.{holds, nothing, some_bytes, stands}
use Rattle.value_text.proofs.scan.lexeme_at.Goals as goal

pub returns-then-not-is_end-clause-stands : goal.returns-then-not-is_end-clause-stands
returns-then-not-is_end-clause-stands c =
    nothing c.args.text.now c.longest-len.result.0 c.longest-len.result.1 c.longest-len.ensures (sym c.is_end.ensures ∙ c.if-not-is_end.true)

pub lexeme_of-requires-clause-holds : goal.lexeme_of-requires-clause-holds
lexeme_of-requires-clause-holds c =
    holds c.longest-len.result.1 (take c.longest-len.result.0 c.args.text.now) c.longest-len.ensures.walked

pub returns-clause-stands : goal.returns-clause-stands
returns-clause-stands c =
    stands c.args.text.now c.longest-len.result.0 c.longest-len.result.1 c.in_ok-lexeme.lexeme c.longest-len.ensures c.in_ok-lexeme.ensures

pub returns-clause-some : goal.returns-clause-some
returns-clause-some c =
    let there = stands c.args.text.now c.longest-len.result.0 c.longest-len.result.1 c.in_ok-lexeme.lexeme c.longest-len.ensures c.in_ok-lexeme.ensures in
    (some_bytes c.args.text.now c.in_ok-lexeme.lexeme c.longest-len.result.0 there, there.within)
