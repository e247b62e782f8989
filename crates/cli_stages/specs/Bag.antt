-- The stage of a bag.
use Rattle.std.specs.Prelude.{◌≡◌, ℕ, List, Result}
use Rattle.bag_cells.specs.Bag.{BagHolds, BagRefused}
use Rattle.bag_cells.specs.declared.error.BagError.{BagError}
use Rattle.cell_nodes.specs.declared.tree.Tree.{Tree}
use Rattle.cli_refusals.specs.Refusal.{Refusal, bag}
use Rattle.cli_stages.specs.Stage.{stage}

-- the file is refused
abbrev pub RefusesBag : List ℕ → Refusal → Type 0
RefusesBag file refusal = (error : BagError) × BagRefused file error × (refusal ≡ bag error)

-- or it holds a tree
abbrev pub Bag : List ℕ → Result Tree Refusal → Type 0
Bag file = stage (RefusesBag file) (BagHolds file)
