use Rattle.std.proofs.Common.{sym, ◌∙◌}
use Rattle.tlb_lexer.proofs.LongestTokens.{two_longest, angle_longest}
use Rattle.tlb_lexer.proofs.scan.angle.Goals as goal

pub returns-then-starts_with : goal.returns-then-starts_with
returns-then-starts_with c =
    λ first is. (two_longest first c.args.after.now is (sym c.starts_with.ensures.value ∙ c.if-starts_with.true), λ e. cc)

pub returns-else-starts_with : goal.returns-else-starts_with
returns-else-starts_with c =
    λ first is. (angle_longest first c.args.after.now is (sym c.starts_with.ensures.value ∙ c.if-starts_with.false), λ e. cc)
