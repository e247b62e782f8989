use Rattle.std.proofs.Common.{◌≡◌, drop}
use Rattle.tlb_syntax.specs.Lexeme.{decimal_onto}
use Rattle.plan_compile.proofs.words.decimal.Given as goal

abbrev pub invariant-loop-digit : goal.invariant-loop-digit
invariant-loop-digit l = decimal_onto l.number (drop l.digit-index l.digits) ≡ decimal_onto 0 l.digits
