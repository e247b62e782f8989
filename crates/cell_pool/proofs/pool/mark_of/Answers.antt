use Rattle.std.proofs.Common.{◌+◌, ◌*◌, ℕ, List, get_or, ap}
use Rattle.cell_pool.specs.Nodes.{mark}
use Rattle.cell_pool.proofs.pool.mark_of.Goals as goal

pub returns : goal.returns
unfolding mark
returns c =
    ap (λ (h : List ℕ). get_or h 0 0 * 16777216 + get_or h 1 0 * 65536 + get_or h 2 0 * 256 + get_or h 3 0) c.hash-hash.ensures
