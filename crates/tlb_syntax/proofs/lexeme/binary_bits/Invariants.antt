use Rattle.std.proofs.Common.{◌≡◌, ◌-◌, take, map}
use Rattle.tlb_syntax.proofs.lexeme.binary_bits.Given as goal

abbrev pub invariant-digits : goal.invariant-digits
invariant-digits l = l.bits ≡ map (λ d. d - 48) (take l.digit-index l.digits)
