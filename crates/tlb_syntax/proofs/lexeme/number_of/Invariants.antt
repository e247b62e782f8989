use Rattle.std.proofs.Common.{◌≡◌, ◌<◌, ◌^◌, drop}
use Rattle.tlb_syntax.specs.Lexeme.{decimal_onto}
use Rattle.tlb_syntax.proofs.lexeme.number_of.Given as goal

abbrev pub invariant-digits : goal.invariant-digits
invariant-digits l = (decimal_onto l.number (drop l.digit-index l.digits) ≡ decimal_onto 0 l.digits) × (l.number < 2 ^ 32)
