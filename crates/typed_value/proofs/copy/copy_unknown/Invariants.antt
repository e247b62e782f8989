use Rattle.std.proofs.Common.{◌≡◌, take}
use Rattle.typed_value.proofs.copy.copy_unknown.Given as goal

abbrev pub invariant-unknown : goal.invariant-unknown
invariant-unknown l = l.copies ≡ take l.prefix-index l.unknown
