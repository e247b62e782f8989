-- `tidy SCHEMA TYPE BAG`: the bag of the tree with the shortest labels that spells the value of a bag's cell.
use Rattle.std.specs.Prelude.{ℕ, List, [], ◌∷◌, codes}
use Rattle.cell_nodes.specs.declared.tree.Mode.TheVariants.{Lax}
use Rattle.cell_nodes.specs.declared.tree.Tree.{Tree}
use Rattle.tlb_edge.specs.Files.{Name}
use Rattle.tlb_syntax.specs.Tree.{SchemaView}
use Rattle.typed_value.specs.Values.{Plain}
use Rattle.cli_refusals.specs.Refusal.{Answer}
use Rattle.cli_stages.specs.Bag.{Bag as BagStage}
use Rattle.cli_stages.specs.Cell.{Cell}
use Rattle.cli_stages.specs.Rebuilt.{Rebuilt}
use Rattle.cli_stages.specs.Schema.{Schema}
use Rattle.cli_stages.specs.Stage.{Gives, IsStage, Next}
use Rattle.cli_stages.specs.StageLaws.{last-stage, next-stage}
use Rattle.cli_stages.specs.Stages.{Stages}
use Rattle.cli_stages.specs.TypeWord.{ShownType, TypeWord as TypeStage}
use Rattle.cli_commands.specs.Build.{bag_line}
use Rattle.cli_commands.specs.Command.{Command, at}
use Rattle.cli_commands.specs.declared.slot.Slot.TheVariants.{Schema as SchemaSlot, TypeWord, Bag}

-- the line of the tree that a value is built to
abbrev pub TidiesValue : SchemaView → ShownType → Plain → Answer → Type 0
TidiesValue s type v = Next (Rebuilt s type v) (λ tree. Gives (bag_line tree))

-- of the value that a cell spells with labels of any form
abbrev pub TidiesCell : SchemaView → ShownType → Tree → Answer → Type 0
TidiesCell s type root = Next (Cell Lax s type root) (λ v. TidiesValue s type v)

-- a bag's cell
abbrev pub TidiesBag : SchemaView → ShownType → List ℕ → Answer → Type 0
TidiesBag s type bag = Next (BagStage bag) (λ root. TidiesCell s type root)

-- at the type that a word names
abbrev pub TidiesType : Name → SchemaView → List ℕ → Answer → Type 0
TidiesType word s bag = Next (TypeStage word s) (λ type. TidiesBag s type bag)

-- in the schema that a text writes
abbrev pub Tidies : Name → List ℕ → List ℕ → Answer → Type 0
Tidies word schema bag = Next (Schema schema) (λ accepted. TidiesType word accepted bag)

pub tidies_once : Stages → (word : Name) (schema bag : List ℕ) → IsStage (Tidies word schema bag)
tidies_once stages word schema bag =
    next-stage (stages.schema schema) (λ accepted is_given.
    next-stage (stages.type_word word accepted) (λ type is_named.
    next-stage (stages.bag bag) (λ root holds.
    next-stage (stages.cell Lax accepted type root (stages.whole schema accepted is_given)) (λ v reads.
    next-stage (stages.rebuilt accepted type v) (λ tree is_built.
    last-stage _)))))

abbrev pub tidy : Command
tidy = record {
  word = codes "tidy";
  slots = λ count. SchemaSlot ∷ TypeWord ∷ Bag ∷ [];
  Answers = λ words contents. Tidies (at words 1) (at contents 0) (at contents 1);
  answers_once = λ stages words contents. tidies_once stages (at words 1) (at contents 0) (at contents 1);
}
