use Rattle.tlb_lexer.proofs.LongestTokens.{sign_longest}
use Rattle.tlb_lexer.proofs.laws.signs_stand_alone.Goals as goal

pub returns : goal.returns
returns c = sign_longest
