use Rattle.std.proofs.Common.{◌∙◌}
use Rattle.tlb_lexer.proofs.LongestTokens.{blank_longest, sign_longest}
use Rattle.tlb_lexer.proofs.StretchOf.{other_begins}
use Rattle.tlb_lexer.proofs.scan.stretch_by.Goals as goal

pub returns-in-Underscore : goal.returns-in-Underscore
returns-in-Underscore c = λ first is. (blank_longest first c.args.after.now (is ∙ c.in-Underscore.is), λ same. cc)

pub returns-in-Sign : goal.returns-in-Sign
returns-in-Sign c = λ first is. (sign_longest first c.args.after.now (is ∙ c.in-Sign.is), λ same. cc)

pub returns-in-Other : goal.returns-in-Other
returns-in-Other c = λ first is. other_begins first c.args.after.now (is ∙ c.in-Other.is)
