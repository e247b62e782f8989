-- Accepted schemas: within the limits of a text, without a refusal by kinds or guard, with tags of at most 63 bits,
-- and with every two constructors of a type separated.
-- Source: the TON documentation on the TL-B language (tags of constructors); the limit of 63 bits and the rule by
-- which constructors are separated are this project's own.
use Rattle.std.specs.Prelude.{ℕ, ◌≡◌, ◌<◌, ◌≤◌, length, Some, slice_get}
use Rattle.tlb_syntax.specs.Limits.{IsWithinLimits}
use Rattle.tlb_syntax.specs.Tree.{SchemaView}
use Rattle.tlb_kinds.specs.Refusals.{IsKinded, kept_of}
use Rattle.core_form.specs.Core.{Declaration, CoreSchema}
use Rattle.schema_leads.specs.Tags.{cores}
use Rattle.schema_leads.specs.Separation.{AreSeparated}

-- the core forms of a schema without the declarations that are passed over
abbrev pub kept_cores : SchemaView → CoreSchema
kept_cores s = cores (kept_of s)

-- each tag has at most 63 bits
abbrev pub HasShortTags : CoreSchema → Type 0
HasShortTags s = (i : ℕ) (d : Declaration) → slice_get s i ≡ Some d → length d.core.tag ≤ 63

-- every two constructors of a type are separated
abbrev pub AreAllSeparated : CoreSchema → Type 0
AreAllSeparated s =
    (i j : ℕ) (d e : Declaration) → i < j → slice_get s i ≡ Some d → slice_get s j ≡ Some e
    → d.of_type ≡ e.of_type
    → AreSeparated s d e

pub record IsAccepted (s : SchemaView) : Type 0 where
  pub within : IsWithinLimits s
  pub kinded : IsKinded s
  pub short_tags : HasShortTags (kept_cores s)
  pub separated : AreAllSeparated (kept_cores s)
