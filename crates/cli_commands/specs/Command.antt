-- What a command is.
use Rattle.std.specs.Prelude.{ℕ, List, [], unwrap_or, slice_get}
use Rattle.tlb_edge.specs.Files.{Name}
use Rattle.cli_refusals.specs.Refusal.{Answer}
use Rattle.cli_stages.specs.Stage.{IsStage}
use Rattle.cli_stages.specs.Stages.{Stages}
use Rattle.cli_commands.specs.declared.slot.Slot.{Slot}

-- its first word, the slots of the words after it by how many there are, what it answers for those words and the bytes of
-- its files, and that it comes to exactly one answer, since its stages do
pub record Command : Type 1 where
  pub word : Name
  pub slots : ℕ → List Slot
  pub Answers : List Name → List (List ℕ) → Answer → Type 0
  pub answers_once : Stages → (words contents : List (List ℕ)) → IsStage (Answers words contents)

-- the word in a slot or the bytes of a file, by its number from 0; there is one for each slot and each file
abbrev pub at : List (List ℕ) → ℕ → List ℕ
at texts number = unwrap_or (slice_get texts number) []
