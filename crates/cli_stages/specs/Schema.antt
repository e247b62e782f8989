-- The stage of a schema: its text, then its kinds and its guard, then its tags and leads.
use Rattle.std.specs.Prelude.{◌≡◌, ◌↔◌, ℕ, List, Result, Ok}
use Rattle.tlb_syntax.specs.Tree.{SchemaView}
use Rattle.tlb_syntax.specs.Written.{Writes}
use Rattle.tlb_kinds.specs.Refusals.{kept_of}
use Rattle.accepted_schema.specs.Accepted.{IsAccepted}
use Rattle.cli_refusals.specs.Refusal.{Refusal}
use Rattle.cli_stages.specs.Kinds.{Kinds}
use Rattle.cli_stages.specs.SchemaText.{SchemaText}
use Rattle.cli_stages.specs.Stage.{Next}
use Rattle.cli_stages.specs.Tags.{Tags}

abbrev pub Schema : List ℕ → Result SchemaView Refusal → Type 0
Schema text =
    Next (SchemaText text) (λ tree.
    Next (Kinds tree) (λ kept.
    Tags kept))

-- the text writes an accepted schema, of which this is what is not passed over
pub record WritesAccepted (text : List ℕ) (s : SchemaView) : Type 0 where
  pub tree : SchemaView
  pub writes : Writes text tree
  pub accepted : IsAccepted tree
  pub kept : s ≡ kept_of tree

-- the stage gives a schema exactly where the text writes it and it is accepted
abbrev pub GivesAccepted : Type 0
GivesAccepted = (text : List ℕ) (s : SchemaView) → Schema text (Ok s) ↔ WritesAccepted text s

-- and what it gives is accepted, and nothing in it is passed over
pub record IsWhole (s : SchemaView) : Type 0 where
  pub accepted : IsAccepted s
  pub kept : kept_of s ≡ s
