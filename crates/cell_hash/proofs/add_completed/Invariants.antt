use Rattle.std.proofs.Common.{◌≡◌, length, map, take}
use Rattle.std.specs.List.{range_with_len}
use Rattle.bit_slice.specs.Bits.{completed_byte}
use Rattle.cell_hash.proofs.add_completed.Given as goal

abbrev pub invariant-bytes : goal.invariant-bytes
invariant-bytes l = record {
  written : take l.i l.bytes ≡ map (completed_byte l.bits) (range_with_len 0 l.i);
  room : length l.bytes ≡ 128;
}
