use Rattle.std.proofs.Common.{◌≡◌, ◌≤◌, ◌+◌, drop, length}
use Rattle.value_text.specs.Text.{count_before}
use Rattle.value_text.proofs.printer.count_before.Given as goal

abbrev pub invariant-unknown : goal.invariant-unknown
invariant-unknown l = (l.i ≤ length l.unknown) × (l.i + count_before l.key (drop l.i l.unknown) ≡ count_before l.key l.unknown)
