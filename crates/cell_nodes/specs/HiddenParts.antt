-- What a pruned branch hides.
use Rattle.std.specs.Prelude.{ℕ, ◌==◌, Option, Some, None, List, if◌then◌else◌}
use Rattle.cell_nodes.specs.declared.tree.Kind.{Kind}
use Rattle.cell_nodes.specs.declared.tree.Kind.TheVariants.{Ordinary, Pruned, Library, Proof, Update}
use Rattle.cell_nodes.specs.declared.tree.Hidden.{Hidden}
use Rattle.cell_nodes.specs.declared.tree.Tree.{Tree, out-Tree}
use Rattle.cell_nodes.specs.Tree.{mask}
use Rattle.cell_nodes.specs.Layout.{stored_hash, stored_depth}

abbrev pub hidden_by : Kind → List ℕ → ℕ → Option Hidden
hidden_by Ordinary bits mask = None
hidden_by Pruned bits mask =
    if mask == 1 then Some (record { hash = stored_hash 0 bits; depth = stored_depth 0 bits }) else None
hidden_by Library bits mask = None
hidden_by Proof bits mask = None
hidden_by Update bits mask = None

-- the hash and depth that a pruned branch of mask 1 stores; no other cell has them
abbrev pub hidden : Tree → Option Hidden
hidden t = hidden_by (out-Tree t).kind (out-Tree t).bits (mask t)
