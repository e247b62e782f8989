use Rattle.std.proofs.Common.{◌≡◌, ◌+◌, ◌*◌, ◌++◌, take, length}
use Rattle.std.specs.List.{flat_map}
use Rattle.cell_nodes.specs.Constructed.{hash_bits}
use Rattle.cell_nodes.proofs.data.add_hashes.Given as goal

abbrev pub invariant-pairs : goal.invariant-pairs
invariant-pairs l = record {
  bits : l.writer ≡ l.initial.writer ++ flat_map hash_bits (take l.pair-index l.pairs);
  count : length l.writer ≡ length l.initial.writer + 256 * l.pair-index;
}
