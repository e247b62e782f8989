-- What judging tags and leads answers.
use Rattle.std.specs.Prelude.{ℕ, ◌≡◌, ◌≢◌, ◌<◌, ◌^◌, List, [], All, Option, Some, None, Result, Ok, Err, slice_get}
use Rattle.std.specs.List.{flat_map}
use Rattle.tlb_syntax.specs.declared.tree.Schema.{Schema}
use Rattle.tlb_syntax.specs.Tree.{SchemaView}
use Rattle.tlb_syntax.specs.View.{schema}
use Rattle.core_form.specs.Core.{Declaration, CoreSchema}
use Rattle.lead_table.specs.declared.table.LeadTable.{LeadTable}
use Rattle.lead_table.specs.Tables.{IsLeadTable}
use Rattle.schema_leads.specs.Tags.{cores}
use Rattle.schema_leads.specs.Separation.{CanEnter}
use Rattle.accepted_schema.specs.Accepted.{IsAccepted}
use Rattle.accepted_schema.specs.Refusals.{TagRefusal, tag_too_long, ambiguous, first_of, of_type_of, tag_refusals}
use Rattle.tag_ambiguity.specs.declared.error.TagError.{TagError}
use Rattle.tag_ambiguity.specs.declared.error.TagError.TheVariants.{TagTooLong, Ambiguous, NoMemory}

-- the refusal that an error reports
abbrev pub refusal_by : TagError → Option TagRefusal
refusal_by (TagTooLong x c) = Some (tag_too_long x c)
refusal_by (Ambiguous x c d) = Some (ambiguous x c d)
refusal_by NoMemory = None

-- this refusal is reported, unless out of memory
abbrev pub Reports : TagRefusal → TagError → Type 0
Reports r e = e ≢ NoMemory → refusal_by e ≡ Some r

-- the first refusal is reported, unless out of memory
abbrev pub IsFirst : List TagRefusal → TagError → Type 0
IsFirst rs e = e ≢ NoMemory → first_of rs ≡ refusal_by e

-- a judgement of these refusals: there is none, or the first is reported
abbrev pub Finds : List TagRefusal → Result (Unit {0}) TagError → Type 0
Finds rs (Ok done) = rs ≡ []
Finds rs (Err e) = IsFirst rs e

-- of the pairs of each type
abbrev pub of_types : CoreSchema → List TagRefusal
of_types s = flat_map (of_type_of s) s

-- the table of a schema without a refusal by its tags, or the first refusal
abbrev pub IsTabled : SchemaView → Result LeadTable TagError → Type 0
IsTabled s (Ok table) = (tag_refusals (cores s) ≡ []) × IsLeadTable s table
IsTabled s (Err e) = IsFirst (tag_refusals (cores s)) e

-- ---- the answers of the whole judgement

-- The schema is accepted and has no refusal by its tags, or the first of them is reported.
abbrev pub IsJudged : SchemaView → Result Schema TagError → Type 0
IsJudged s (Ok accepted) = IsAccepted s × (tag_refusals (cores s) ≡ []) × (schema accepted ≡ s)
IsJudged s (Err e) = IsFirst (tag_refusals (cores s)) e

-- The schema passes, unless out of memory.
abbrev pub IsPassed : Result Schema TagError → Type 0
IsPassed (Ok accepted) = Unit {0}
IsPassed (Err e) = e ≡ NoMemory

-- The answer is this refusal, unless out of memory.
abbrev pub IsRefused : TagRefusal → Result Schema TagError → Type 0
IsRefused r (Ok accepted) = ⊥
IsRefused r (Err e) = Reports r e

-- at most one constructor of a type of the schema has patterns that meet these input numbers and a lead that begins
-- these bits
abbrev pub EntersOne : SchemaView → Type 0
EntersOne s =
    (i j : ℕ) (d e : Declaration) (ns bits : List ℕ) → slice_get (cores s) i ≡ Some d → slice_get (cores s) j ≡ Some e
    → d.of_type ≡ e.of_type → All (λ n. n < 2 ^ 32) ns → CanEnter (cores s) d ns bits → CanEnter (cores s) e ns bits
    → i ≡ j
