-- The stage of a schema's kinds and its guard.
use Rattle.std.specs.Prelude.{◌≡◌, Some, Result}
use Rattle.tlb_syntax.specs.Tree.{SchemaView}
use Rattle.tlb_kinds.specs.Refusals.{IsKinded, first_refusal, kept_of}
use Rattle.tlb_kinds.specs.declared.error.KindError.{KindError}
use Rattle.cli_refusals.specs.Refusal.{Refusal, schema}
use Rattle.cli_stages.specs.Stage.{stage}
use Rattle.cli_refusals.specs.declared.refusal.SchemaCause.TheVariants.{Kinds as ByKinds}

-- the schema has a first refusal
abbrev pub RefusesKinds : SchemaView → Refusal → Type 0
RefusesKinds s refusal = (error : KindError) × (first_refusal s ≡ Some error) × (refusal ≡ schema (ByKinds error))

-- or it has none, and is given without the declarations that are passed over
abbrev pub Kinds : SchemaView → Result SchemaView Refusal → Type 0
Kinds s = stage (RefusesKinds s) (λ kept. IsKinded s × (kept ≡ kept_of s))
