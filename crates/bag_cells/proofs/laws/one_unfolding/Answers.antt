use Rattle.std.proofs.Common.{arith}
use Rattle.bag_cells.specs.UnfoldsLaws.{unfolds_once}
use Rattle.bag_cells.proofs.ByUnfolding.{accepted-cells}
use Rattle.bag_cells.proofs.laws.one_unfolding.Goals as goal

pub returns : goal.returns
returns c = record {
  once = unfolds_once;
  some = λ raw i accepted l.
      let sound = accepted-cells raw accepted i (omega arith) l in
      (sound.tree, sound.unfolds);
}
