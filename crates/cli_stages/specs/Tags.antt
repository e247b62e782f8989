-- The stage of a schema's tags and leads.
use Rattle.std.specs.Prelude.{◌≡◌, ◌≢◌, Result}
use Rattle.tlb_syntax.specs.Tree.{SchemaView}
use Rattle.schema_leads.specs.Tags.{cores}
use Rattle.accepted_schema.specs.Accepted.{IsAccepted}
use Rattle.accepted_schema.specs.Refusals.{first_tag_refusal}
use Rattle.tag_ambiguity.specs.Judged.{refusal_by}
use Rattle.tag_ambiguity.specs.declared.error.TagError.{TagError}
use Rattle.tag_ambiguity.specs.declared.error.TagError.TheVariants.{NoMemory}
use Rattle.cli_refusals.specs.Refusal.{Refusal, schema}
use Rattle.cli_stages.specs.Stage.{stage}
use Rattle.cli_refusals.specs.declared.refusal.SchemaCause.TheVariants.{Tags as ByTags}

-- the schema has a first refusal by its tags
pub record IsTagRefusal (s : SchemaView) (refusal : Refusal) (error : TagError) : Type 0 where
  pub is_refusal : error ≢ NoMemory
  pub first : first_tag_refusal (cores s) ≡ refusal_by error
  pub is : refusal ≡ schema (ByTags error)

abbrev pub RefusesTags : SchemaView → Refusal → Type 0
RefusesTags s refusal = (error : TagError) × IsTagRefusal s refusal error

-- or it is accepted, and is given
abbrev pub Tags : SchemaView → Result SchemaView Refusal → Type 0
Tags s = stage (RefusesTags s) (λ accepted. IsAccepted s × (accepted ≡ s))
