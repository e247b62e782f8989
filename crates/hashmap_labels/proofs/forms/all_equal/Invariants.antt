use Rattle.std.proofs.Common.{◌≡◌, drop}
use Rattle.bit_slice.specs.Bits.{bit_number}
use Rattle.hashmap_labels.specs.Labels.{all_are, all_equal}
use Rattle.hashmap_labels.proofs.forms.all_equal.Given as goal

abbrev pub invariant-bits : goal.invariant-bits
invariant-bits l = all_equal l.s ≡ all_are (bit_number l.first) (drop l.i l.s)
