-- The first refusal of a schema beyond its text: by kinds and guard, and after that by tags and leads.
-- Source: this project's own.
use Rattle.std.specs.Prelude.{Option, Some, None}
use Rattle.tlb_syntax.specs.Tree.{SchemaView}
use Rattle.tlb_kinds.specs.declared.error.KindError.{KindError}
use Rattle.tlb_kinds.specs.Refusals.{first_refusal}
use Rattle.accepted_schema.specs.Accepted.{kept_cores}
use Rattle.accepted_schema.specs.Refusals.{TagRefusal, first_tag_refusal}

pub data SchemaCause : Type 0 where
  by_kinds : KindError → SchemaCause
  by_tags : TagRefusal → SchemaCause

abbrev pub cause_from : Option KindError → Option TagRefusal → Option SchemaCause
cause_from (Some e) by_tag = Some (by_kinds e)
cause_from None (Some r) = Some (by_tags r)
cause_from None None = None

-- the first refusal, if there is one
abbrev pub first_cause : SchemaView → Option SchemaCause
first_cause s = cause_from (first_refusal s) (first_tag_refusal (kept_cores s))
