-- `read SCHEMA TYPE BAG` and `lax SCHEMA TYPE BAG`: the value that the bag's cell spells at the type.
use Rattle.std.specs.Prelude.{ℕ, List, [], ◌∷◌, codes}
use Rattle.cell_nodes.specs.declared.tree.Mode.{Mode}
use Rattle.cell_nodes.specs.declared.tree.Mode.TheVariants.{Whole, Lax}
use Rattle.cell_nodes.specs.declared.tree.Tree.{Tree}
use Rattle.tlb_edge.specs.Files.{Name}
use Rattle.tlb_syntax.specs.Tree.{SchemaView}
use Rattle.value_text.specs.Text.{text_of}
use Rattle.cli_refusals.specs.Lines.{line_of}
use Rattle.cli_refusals.specs.Refusal.{Answer}
use Rattle.cli_stages.specs.Bag.{Bag as BagStage}
use Rattle.cli_stages.specs.Cell.{Cell}
use Rattle.cli_stages.specs.Schema.{Schema}
use Rattle.cli_stages.specs.Stage.{Gives, IsStage, Next}
use Rattle.cli_stages.specs.StageLaws.{last-stage, next-stage}
use Rattle.cli_stages.specs.Stages.{Stages}
use Rattle.cli_stages.specs.TypeWord.{ShownType, TypeWord as TypeStage}
use Rattle.cli_commands.specs.Command.{Command, at}
use Rattle.cli_commands.specs.declared.slot.Slot.{Slot}
use Rattle.cli_commands.specs.declared.slot.Slot.TheVariants.{Schema as SchemaSlot, TypeWord, Bag}

-- the text of the value that a cell spells, on a line
abbrev pub ShowsCell : Mode → SchemaView → ShownType → Tree → Answer → Type 0
ShowsCell mode s type root = Next (Cell mode s type root) (λ value. Gives (line_of (text_of value)))

-- that of a bag's cell
abbrev pub ReadsBag : Mode → SchemaView → ShownType → List ℕ → Answer → Type 0
ReadsBag mode s type bag = Next (BagStage bag) (λ root. ShowsCell mode s type root)

-- at the type that a word names
abbrev pub ReadsType : Mode → Name → SchemaView → List ℕ → Answer → Type 0
ReadsType mode word s bag = Next (TypeStage word s) (λ type. ReadsBag mode s type bag)

-- in the schema that a text writes
abbrev pub Reads : Mode → Name → List ℕ → List ℕ → Answer → Type 0
Reads mode word schema bag = Next (Schema schema) (λ accepted. ReadsType mode word accepted bag)

pub reads_once : Stages → (mode : Mode) (word : Name) (schema bag : List ℕ) → IsStage (Reads mode word schema bag)
reads_once stages mode word schema bag =
    next-stage (stages.schema schema) (λ accepted is_given.
    next-stage (stages.type_word word accepted) (λ type is_named.
    next-stage (stages.bag bag) (λ root is_held.
    next-stage (stages.cell mode accepted type root (stages.whole schema accepted is_given)) (λ value is_read.
    last-stage _))))

abbrev pub read_slots : List Slot
read_slots = SchemaSlot ∷ TypeWord ∷ Bag ∷ []

abbrev pub read : Command
read = record {
  word = codes "read";
  slots = λ count. read_slots;
  Answers = λ words contents. Reads Whole (at words 1) (at contents 0) (at contents 1);
  answers_once = λ stages words contents. reads_once stages Whole (at words 1) (at contents 0) (at contents 1);
}

-- labels of dictionaries in every form
abbrev pub lax : Command
lax = record {
  word = codes "lax";
  slots = λ count. read_slots;
  Answers = λ words contents. Reads Lax (at words 1) (at contents 0) (at contents 1);
  answers_once = λ stages words contents. reads_once stages Lax (at words 1) (at contents 0) (at contents 1);
}
