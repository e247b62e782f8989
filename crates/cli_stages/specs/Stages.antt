-- The stages: each comes to exactly one answer, and a word writes at most one path.
use Rattle.std.specs.Prelude.{ℕ, List, Ok, Option}
use Rattle.cell_nodes.specs.declared.tree.Mode.{Mode}
use Rattle.cell_nodes.specs.declared.tree.Mode.TheVariants.{Whole}
use Rattle.cell_nodes.specs.declared.tree.Tree.{Tree}
use Rattle.tlb_edge.specs.Files.{Name}
use Rattle.tlb_syntax.specs.Tree.{SchemaView}
use Rattle.building.specs.Buildable.{InRange}
use Rattle.typed_value.specs.Paths.{Stride}
use Rattle.typed_value.specs.Values.{Plain}
use Rattle.value_text.specs.PathLaws.{OnePath}
use Rattle.cli_stages.specs.Bag.{Bag}
use Rattle.cli_stages.specs.Built.{Built}
use Rattle.cli_stages.specs.Cell.{Cell}
use Rattle.cli_stages.specs.Made.{Made}
use Rattle.cli_stages.specs.Paths.{AllChoose, Paths}
use Rattle.cli_stages.specs.Proof.{Proof}
use Rattle.cli_stages.specs.Rebuilt.{Rebuilt}
use Rattle.cli_stages.specs.Schema.{IsWhole, Schema}
use Rattle.cli_stages.specs.Stage.{IsStage}
use Rattle.cli_stages.specs.TypeWord.{ShownType, TypeWord}
use Rattle.cli_stages.specs.ValueText.{ValueText}

pub record Stages : Type 0 where
  pub schema : (text : List ℕ) → IsStage (Schema text)
  pub whole : (text : List ℕ) (s : SchemaView) → Schema text (Ok s) → IsWhole s
  pub type_word : (word : Name) (s : SchemaView) → IsStage (TypeWord word s)
  pub bag : (file : List ℕ) → IsStage (Bag file)
  pub value_text : (file : List ℕ) → IsStage (ValueText file)
  pub rebuilt : (s : SchemaView) (type : ShownType) (v : Plain) → IsStage (Rebuilt s type v)
  pub paths : (v : Plain) (words : List Name) → IsStage (Paths v words)
  pub one_path : OnePath
  -- of a schema that the first stage gives
  pub cell : (mode : Mode) (s : SchemaView) (type : ShownType) (root : Tree) → IsWhole s → IsStage (Cell mode s type root)
  pub proof : (root : Option (List ℕ)) (s : SchemaView) (type : ShownType) (cell : Tree) → IsWhole s
      → IsStage (Proof root s type cell)
  -- of the paths of words, which all name something in the cell's value
  pub made : (s : SchemaView) (type : ShownType) (root : Tree) (words : List Name) (paths : List (List Stride)) (v : Plain)
      → IsWhole s → Cell Whole s type root (Ok v) → AllChoose v words paths → IsStage (Made s type root paths)
  -- of a value in range, as each that a text writes
  pub built : (s : SchemaView) (type : ShownType) (v : Plain) → IsWhole s → InRange v → IsStage (Built s type v)
