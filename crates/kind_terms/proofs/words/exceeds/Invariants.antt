use Rattle.std.proofs.Common.{◌≡◌, ◌≤◌, drop}
use Rattle.tlb_syntax.specs.Lexeme.{decimal_onto}
use Rattle.kind_terms.proofs.words.exceeds.Given as goal

abbrev pub invariant-loop-digit : goal.invariant-loop-digit
invariant-loop-digit l = (l.number ≤ l.most) × (decimal_onto l.number (drop l.digit-index l.digits) ≡ decimal_onto 0 l.digits)
