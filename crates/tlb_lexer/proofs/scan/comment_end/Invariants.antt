use Rattle.std.proofs.Common.{ℕ, ◌<◌, codes}
use Rattle.tlb_lexer.specs.Tokenization.{OccursAt}
use Rattle.tlb_lexer.proofs.scan.comment_end.Given as goal

abbrev pub invariant-loop-place : goal.invariant-loop-place
invariant-loop-place l = (k : ℕ) → k < l.place → OccursAt (codes "*/") k l.body → ⊥
