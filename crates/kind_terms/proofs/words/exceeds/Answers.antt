use Rattle.std.proofs.Common.{◌<◌, ◌+◌, ◌*◌, arith}
use Rattle.std.proofs.lemmas.Bool.Decides.{nat_tests}
use Rattle.tlb_syntax.specs.Lexeme.{decimal_onto}
use Rattle.kind_terms.proofs.PlainNumbers.{past}
use Rattle.kind_terms.proofs.words.exceeds.Goals as goal

pub returns-then-number-from : goal.returns-then-number-from
returns-then-number-from c =
    let is_past : c.args.most < decimal_onto 0 c.args.digits.now =
    past c.args.digits.now c.loop-digit.digit-index c.loop-digit.number (10 * c.loop-digit.number + c.from.result) c.args.most
    c.loop-digit-test.true c.loop-digit.invariant.1 (omega arith) (omega arith) in
    grind (arith, nat_tests, is_past)
