use Rattle.std.proofs.Common.{◌≡◌, ◌<◌, ◌^◌}
use Rattle.bag_cells.specs.Numbers.{number_at}
use Rattle.bag_cells.proofs.bytes.number_at.Given as goal

abbrev pub invariant-bytes : goal.invariant-bytes
invariant-bytes l = record {
  value_is : l.value ≡ number_at l.bytes l.from l.i;
  bound : l.value < 256 ^ l.i;
}
