use Rattle.std.proofs.Common.{ap}
use Rattle.cell_hash.specs.declared.ChildMark.{ChildMark}
use Rattle.cell_nodes.specs.PrunesLaws.{prunes-keeps}
use Rattle.cell_nodes.proofs.laws.pruning_keeps.Goals as goal

pub returns-clause-hash : goal.returns-clause-hash
returns-clause-hash c = λ t p i g q h k l b. ap (λ (m : ChildMark). m.hash) ((prunes-keeps t p i k g h).marks_kept l b)

pub returns-clause-depth : goal.returns-clause-depth
returns-clause-depth c = λ t p i g q h k l b. ap (λ (m : ChildMark). m.depth) ((prunes-keeps t p i k g h).marks_kept l b)

pub returns-clause-mask : goal.returns-clause-mask
returns-clause-mask c = λ t p i g q h k. (prunes-keeps t p i k g h).mask_kept
