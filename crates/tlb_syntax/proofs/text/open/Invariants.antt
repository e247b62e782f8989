use Rattle.std.proofs.Common.{◌≡◌, ◌++◌}
use Rattle.std.specs.Prelude.{replicate}
use Rattle.tlb_syntax.proofs.text.open.Given as goal

abbrev pub invariant-parens : goal.invariant-parens
invariant-parens l = l.text.items ≡ l.initial.text.items ++ replicate l.counter 40
