use Rattle.std.proofs.Common.{◌≡◌, drop}
use Rattle.value_text.specs.Writes.{comes_after}
use Rattle.value_parse.proofs.limit.comes_after.Given as goal

abbrev pub invariant-bits : goal.invariant-bits
invariant-bits l = comes_after (drop l.i l.before) (drop l.i l.key) ≡ comes_after l.before l.key
