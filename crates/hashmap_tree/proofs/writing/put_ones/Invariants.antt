use Rattle.std.proofs.Common.{◌≡◌, ◌++◌, replicate}
use Rattle.hashmap_tree.proofs.writing.put_ones.Given as goal

abbrev pub invariant-ones : goal.invariant-ones
invariant-ones l = record { bits : l.w.bits ≡ l.fn.w.bits ++ replicate l.i 1; refs : l.w.refs ≡ l.fn.w.refs }
