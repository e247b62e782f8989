-- What the stage of a schema gives.
use Rattle.std.proofs.Common.{◌≡◌, ◌∙◌, ap, sym, subst, refl, List, ℕ, Ok, Err}
use Rattle.tlb_kinds.specs.Refusals.{kept_of}
use Rattle.tlb_syntax.specs.Tree.{SchemaView}
use Rattle.tlb_syntax.specs.Written.{Writes}
use Rattle.core_form.specs.Core.{CoreSchema}
use Rattle.schema_leads.specs.Tags.{cores}
use Rattle.accepted_schema.specs.Accepted.{AreAllSeparated, HasShortTags, kept_cores}
use Rattle.accepted_schema.specs.Laws.{AcceptedStays}
use Rattle.cli_refusals.specs.Refusal.{Refusal}
use Rattle.cli_stages.specs.Kinds.{Kinds}
use Rattle.cli_stages.specs.Schema.{IsWhole, Schema, WritesAccepted}
use Rattle.cli_stages.specs.Stage.{Next, goes_on, stops}
use Rattle.cli_stages.specs.Tags.{Tags}
use Rattle.cli_stages.proofs.Layers.{Schemas}

-- what is given was given by the last stage
never : {X : Type 0} (r : Refusal) (x : X) → Ok x ≡ Err r → ⊥
never r x is = cc

of-tree : Schemas → (text : List ℕ) (s tree kept : SchemaView) → Writes text tree → Kinds tree (Ok kept) → Tags kept (Ok s)
    → WritesAccepted text s
of-tree laws text s tree kept writes kinds tags =
    let cores_same : kept_cores kept ≡ kept_cores tree = ap kept_cores kinds.1 ∙ ap cores (laws.passed_over tree) in
    let P : CoreSchema → Type 0 = HasShortTags in
    let Q : CoreSchema → Type 0 = AreAllSeparated in
    record {
      tree = tree;
      writes = writes;
      accepted = record {
        within = laws.within text tree writes;
        kinded = kinds.0;
        short_tags = subst P cores_same tags.0.short_tags;
        separated = subst Q cores_same tags.0.separated;
      };
      kept = tags.1 ∙ kinds.1;
    }

after-kinds : Schemas → (text : List ℕ) (s tree : SchemaView) → Writes text tree → Next (Kinds tree) (λ kept. Tags kept) (Ok s)
    → WritesAccepted text s
after-kinds laws text s tree writes (stops r first is) = absurd (never r s is)
after-kinds laws text s tree writes (goes_on kept kinds tags) = of-tree laws text s tree kept writes kinds tags

pub from-stage : Schemas → (text : List ℕ) (s : SchemaView) → Schema text (Ok s) → WritesAccepted text s
from-stage laws text s (stops r first is) = absurd (never r s is)
from-stage laws text s (goes_on tree writes next) = after-kinds laws text s tree writes next

pub to-stage : AcceptedStays → (text : List ℕ) (s : SchemaView) → WritesAccepted text s → Schema text (Ok s)
to-stage stays text s is =
    goes_on is.tree is.writes (goes_on (kept_of is.tree) (is.accepted.kinded, refl) (stays is.tree is.accepted, is.kept))

pub is-whole : Schemas → AcceptedStays → (text : List ℕ) (s : SchemaView) → Schema text (Ok s) → IsWhole s
is-whole laws stays text s given =
    let from = from-stage laws text s given in
    let P : SchemaView → Type 0 = IsWhole in
    subst P (sym from.kept) (record { accepted = stays from.tree from.accepted; kept = laws.passed_over from.tree })
