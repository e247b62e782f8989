-- `build SCHEMA TYPE TEXT`: the bag of the tree that the value of a text is built to.
use Rattle.std.specs.Prelude.{ℕ, List, [], ◌∷◌, codes}
use Rattle.hex.specs.Hex.{encode_lower}
use Rattle.bag_cells.specs.Written.{bag_of}
use Rattle.cell_nodes.specs.declared.tree.Tree.{Tree}
use Rattle.tlb_edge.specs.Files.{Name}
use Rattle.tlb_syntax.specs.Tree.{SchemaView}
use Rattle.typed_value.specs.Values.{Plain}
use Rattle.cli_refusals.specs.Lines.{line_of}
use Rattle.cli_refusals.specs.Refusal.{Answer}
use Rattle.cli_stages.specs.Built.{Built}
use Rattle.cli_stages.specs.Schema.{Schema}
use Rattle.cli_stages.specs.Stage.{Gives, IsStage, Next}
use Rattle.cli_stages.specs.StageLaws.{last-stage, next-stage}
use Rattle.cli_stages.specs.Stages.{Stages}
use Rattle.cli_stages.specs.TypeWord.{ShownType, TypeWord as TypeStage}
use Rattle.cli_stages.specs.ValueText.{ValueText}
use Rattle.cli_stages.specs.ValueTextLaws.{written-in-range}
use Rattle.cli_commands.specs.Command.{Command, at}
use Rattle.cli_commands.specs.declared.slot.Slot.TheVariants.{Schema as SchemaSlot, TypeWord, Text}

-- the written bag in hexadecimal digits, on a line
abbrev pub bag_line : Tree → List ℕ
bag_line tree = line_of (encode_lower (bag_of tree))

-- that of the tree that a value is built to
abbrev pub BuildsValue : SchemaView → ShownType → Plain → Answer → Type 0
BuildsValue s type v = Next (Built s type v) (λ tree. Gives (bag_line tree))

-- of the value that a text writes
abbrev pub BuildsText : SchemaView → ShownType → List ℕ → Answer → Type 0
BuildsText s type file = Next (ValueText file) (λ v. BuildsValue s type v)

-- at the type that a word names
abbrev pub BuildsType : Name → SchemaView → List ℕ → Answer → Type 0
BuildsType word s file = Next (TypeStage word s) (λ type. BuildsText s type file)

-- in the schema that a text writes
abbrev pub Builds : Name → List ℕ → List ℕ → Answer → Type 0
Builds word schema file = Next (Schema schema) (λ accepted. BuildsType word accepted file)

pub builds_once : Stages → (word : Name) (schema file : List ℕ) → IsStage (Builds word schema file)
builds_once stages word schema file =
    next-stage (stages.schema schema) (λ accepted is_given.
    next-stage (stages.type_word word accepted) (λ type is_named.
    next-stage (stages.value_text file) (λ v writes.
    next-stage
    (stages.built accepted type v (stages.whole schema accepted is_given) (written-in-range file v writes)) (λ tree is_built.
    last-stage _))))

abbrev pub build : Command
build = record {
  word = codes "build";
  slots = λ count. SchemaSlot ∷ TypeWord ∷ Text ∷ [];
  Answers = λ words contents. Builds (at words 1) (at contents 0) (at contents 1);
  answers_once = λ stages words contents. builds_once stages (at words 1) (at contents 0) (at contents 1);
}
