use Rattle.std.proofs.Common.{◌≡◌, ◌<◌, ◌^◌, drop}
use Rattle.tlb_syntax.specs.Lexeme.{decimal_onto}
use Rattle.type_closing.proofs.close.number.Given as goal

abbrev pub invariant-digits : goal.invariant-digits
invariant-digits l = (decimal_onto l.number (drop l.digit-index l.digits) ≡ decimal_onto 0 l.digits) × (l.number < 2 ^ 32)
