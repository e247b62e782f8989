use Rattle.std.proofs.Common.{◌≡◌, drop}
use Rattle.value_text.specs.Text.{comes_before}
use Rattle.value_text.proofs.marks.comes_before.Given as goal

abbrev pub invariant-bits : goal.invariant-bits
invariant-bits l = comes_before (drop l.i l.a) (drop l.i l.b) ≡ comes_before l.a l.b
