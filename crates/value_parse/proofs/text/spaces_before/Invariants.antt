use Rattle.std.proofs.Common.{◌≡◌, ◌+◌, drop}
use Rattle.std.specs.List.{prefix_len}
use Rattle.value_text.specs.Writes.{is_space}
use Rattle.value_parse.proofs.text.spaces_before.Given as goal

abbrev pub invariant-bytes : goal.invariant-bytes
invariant-bytes l = l.i + prefix_len is_space (drop l.i l.text) ≡ prefix_len is_space l.text
