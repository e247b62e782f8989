use Rattle.cell_pool.specs.OnceLaws.{each-subtree, only-subtree, once-post}
use Rattle.cell_pool.proofs.laws.each_subtree_once.Goals as goal

pub returns : goal.returns
returns c = record { each = each-subtree; only = only-subtree; once = once-post }
