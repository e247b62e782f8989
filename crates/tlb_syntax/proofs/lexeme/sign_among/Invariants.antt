use Rattle.std.proofs.Common.{◌≡◌, drop}
use Rattle.tlb_syntax.specs.Lexeme.{sign_among}
use Rattle.tlb_syntax.proofs.lexeme.sign_among.Given as goal

abbrev pub invariant-signs : goal.invariant-signs
invariant-signs l = sign_among (drop l.sign-index l.signs) l.bytes ≡ sign_among l.signs l.bytes
