use Rattle.bag_cells.proofs.ByUnfolding.{first-refusal, refusal-first, accepted-tree, tree-accepted}
use Rattle.bag_cells.proofs.laws.refusals_by_unfolding.Goals as goal

pub returns : goal.returns
returns c = record {
  first = first-refusal;
  reported = refusal-first;
  accepted = accepted-tree;
  held = tree-accepted;
}
