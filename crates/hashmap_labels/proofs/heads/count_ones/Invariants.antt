use Rattle.std.proofs.Common.{◌≡◌, drop}
use Rattle.hashmap_labels.specs.Reading.{ones_of}
use Rattle.hashmap_labels.proofs.BitScans.{plus}
use Rattle.hashmap_labels.proofs.heads.count_ones.Given as goal

abbrev pub invariant-bits : goal.invariant-bits
invariant-bits l = ones_of l.s ≡ plus l.i (ones_of (drop l.i l.s))
