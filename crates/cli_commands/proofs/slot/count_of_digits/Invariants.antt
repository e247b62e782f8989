use Rattle.std.proofs.Common.{◌≡◌, ◌≤◌, drop}
use Rattle.cli_commands.specs.Slots.{count_more}
use Rattle.cli_commands.proofs.slot.count_of_digits.Given as goal

-- the number so far, and the other digits
abbrev pub invariant-digits : goal.invariant-digits
invariant-digits l = record {
  small : l.number ≤ 10000;
  others : count_more l.number (drop l._place l.fn.digits) ≡ count_more 0 l.fn.digits;
}
