use Rattle.std.proofs.Common.{arith, ◌+◌}
use Rattle.std.specs.List.{prefix_len}
use Rattle.tlb_lexer.specs.Bytes.{is_name_byte}
use Rattle.tlb_lexer.proofs.LongestTokens.{name_longest}
use Rattle.tlb_lexer.proofs.scan.name.Goals as goal

pub returns-then-len-gt-LONGEST_NAME : goal.returns-then-len-gt-LONGEST_NAME
returns-then-len-gt-LONGEST_NAME c =
    λ first is. (1 + prefix_len is_name_byte c.args.after.now, name_longest first c.args.after.now is, omega arith)

pub returns-else-len-gt-LONGEST_NAME : goal.returns-else-len-gt-LONGEST_NAME
returns-else-len-gt-LONGEST_NAME c =
    λ first is. (rw c.run_len-len.ensures.exact (name_longest first c.args.after.now is), λ same. omega arith)
