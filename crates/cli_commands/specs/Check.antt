-- `check SCHEMA`: how many types and constructors an accepted schema declares.
use Rattle.std.specs.Prelude.{ℕ, ◌≡◌, ◌↔◌, List, [], ◌∷◌, ◌++◌, Ok, codes, decimal, length}
use Rattle.tlb_syntax.specs.Tree.{SchemaView}
use Rattle.schema_leads.specs.Leads.{type_count}
use Rattle.schema_leads.specs.Tags.{cores}
use Rattle.cli_refusals.specs.Lines.{line_of}
use Rattle.cli_refusals.specs.Refusal.{Answer}
use Rattle.cli_stages.specs.Schema.{Schema, WritesAccepted}
use Rattle.cli_stages.specs.Stage.{Gives, IsStage, Next}
use Rattle.cli_stages.specs.StageLaws.{last-stage, next-stage}
use Rattle.cli_stages.specs.Stages.{Stages}
use Rattle.cli_commands.specs.Command.{Command, at}
use Rattle.cli_commands.specs.declared.slot.Slot.TheVariants.{Schema as SchemaSlot}

abbrev pub count_line : SchemaView → List ℕ
count_line s =
    line_of (codes "ok types=" ++ decimal (type_count (cores s)) ++ codes " constructors=" ++ decimal (length (cores s)))

abbrev pub Checks : List ℕ → Answer → Type 0
Checks schema =
    Next (Schema schema) (λ accepted.
    Gives (count_line accepted))

pub checks_once : Stages → (schema : List ℕ) → IsStage (Checks schema)
checks_once stages schema =
    next-stage (stages.schema schema) (λ accepted given.
    last-stage _)

-- what is put is the counts of an accepted schema that the text writes
abbrev pub ChecksAccepted : Type 0
ChecksAccepted =
    (schema text : List ℕ) → Checks schema (Ok text)
    ↔ ((s : SchemaView) × WritesAccepted schema s × (text ≡ count_line s))

abbrev pub check : Command
check = record {
  word = codes "check";
  slots = λ count. SchemaSlot ∷ [];
  Answers = λ words contents. Checks (at contents 0);
  answers_once = λ stages words contents. checks_once stages (at contents 0);
}
