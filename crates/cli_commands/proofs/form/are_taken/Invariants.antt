use Rattle.std.proofs.Common.{◌≡◌, drop, length, map, string_bytes}
use Rattle.cli_commands.specs.Forms.{are_taken}
use Rattle.cli_commands.proofs.form.are_taken.Given as goal

-- the slots before the place take their words
abbrev pub invariant-slots : goal.invariant-slots
invariant-slots l = record {
  as_many : length l.slots ≡ length l.words;
  others : are_taken l.slots (map string_bytes l.words) ≡ are_taken (drop l.place l.slots) (drop l.place (map string_bytes l.words));
}
