use Rattle.std.proofs.Common.{◌≡◌, ◌+◌, ◌*◌, ◌++◌, take, length}
use Rattle.cell_nodes.specs.Constructed.{bits_of}
use Rattle.cell_nodes.proofs.data.add_hash.Given as goal

abbrev pub invariant-bytes : goal.invariant-bytes
invariant-bytes l = record {
  bits : l.writer ≡ l.initial.writer ++ bits_of (take l.byte-index l.hash);
  count : length l.writer ≡ length l.initial.writer + 8 * l.byte-index;
}
