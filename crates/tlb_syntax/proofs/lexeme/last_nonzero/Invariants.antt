use Rattle.std.proofs.Common.{◌≡◌, ◌<◌, ◌≤◌, ℕ, length, get_or}
use Rattle.tlb_syntax.proofs.lexeme.last_nonzero.Given as goal

abbrev pub invariant-digits : goal.invariant-digits
invariant-digits l = (k : ℕ) → l.i ≤ k → k < length l.digits → get_or l.digits k 0 ≡ 48
