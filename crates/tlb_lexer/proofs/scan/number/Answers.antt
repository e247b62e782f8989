use Rattle.tlb_lexer.proofs.LongestTokens.{number_longest}
use Rattle.tlb_lexer.proofs.scan.number.Goals as goal

pub returns : goal.returns
returns c = λ first is. (rw c.run_len.ensures.exact (number_longest first c.args.after.now is), λ same. cc)
