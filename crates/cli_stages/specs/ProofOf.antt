-- The stage of a proof: of the value of a cell at a closed type, and of the words of its paths.
use Rattle.std.specs.Prelude.{List, Result}
use Rattle.cell_nodes.specs.declared.tree.Mode.TheVariants.{Whole}
use Rattle.cell_nodes.specs.declared.tree.Tree.{Tree}
use Rattle.tlb_edge.specs.Files.{Name}
use Rattle.tlb_syntax.specs.Tree.{SchemaView}
use Rattle.cli_refusals.specs.Refusal.{Refusal}
use Rattle.cli_stages.specs.Cell.{Cell}
use Rattle.cli_stages.specs.Made.{Made}
use Rattle.cli_stages.specs.Paths.{Paths}
use Rattle.cli_stages.specs.Stage.{Next}
use Rattle.cli_stages.specs.TypeWord.{ShownType}

abbrev pub ProofOf : List Name → SchemaView → ShownType → Tree → Result Tree Refusal → Type 0
ProofOf words s type root =
    Next (Cell Whole s type root) (λ v.
    Next (Paths v words) (λ paths.
    Made s type root paths))
