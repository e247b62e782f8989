use Rattle.std.proofs.Common.{◌≡◌, ◌++◌, take}
use Rattle.std.specs.List.{flat_map}
use Rattle.tlb_syntax.specs.Lexeme.{hex_bits}
use Rattle.tlb_syntax.proofs.lexeme.push_digits.Given as goal

abbrev pub invariant-digits : goal.invariant-digits
invariant-digits l = l.bits ≡ l.initial.bits ++ flat_map hex_bits (take l.digit-index l.digits)
