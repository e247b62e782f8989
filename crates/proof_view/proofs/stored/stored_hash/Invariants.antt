use Rattle.std.proofs.Common.{◌≡◌, ℕ, ◌+◌, ◌<◌, get_or, length}
use Rattle.cell_nodes.specs.Layout.{byte_of}
use Rattle.proof_view.proofs.stored.stored_hash.Given as goal

abbrev pub invariant-bytes : goal.invariant-bytes
invariant-bytes l = record {
  whole : length l.hash ≡ 32;
  read : (k : ℕ) → k < l.i → get_or l.hash k 0 ≡ byte_of (1 + k) l.bits;
}
