use Rattle.std.proofs.Common.{◌≡◌, take}
use Rattle.bit_slice.proofs.slice.BitSlice.begins_with.Given as goal

abbrev pub invariant-bits : goal.invariant-bits
invariant-bits l = take l.i l.self ≡ take l.i l.other
