-- A schema of the lines has no refusal by its kinds, by its guard, or by its tags and leads, which the checker computes.
use Rattle.std.specs.Prelude.{◌≡◌, None, refl}
use Rattle.kind_terms.specs.Classes.{word_class}
use Rattle.kind_terms.specs.Dictionaries.{is_allowed}
use Rattle.kind_terms.specs.Types.{type_named}
use Rattle.kind_declarations.specs.Views.{scope_of}
use Rattle.tlb_guard.specs.Cycles.{first_unguarded}
use Rattle.tlb_guard.specs.Edges.{reaching}
use Rattle.tlb_kinds.specs.Refusals.{refusals_within, refusals, first_refusal}
use Rattle.schema_leads.specs.Leads.{together, rounds, leads}
use Rattle.accepted_schema.specs.Accepted.{kept_cores}
use Rattle.accepted_schema.specs.FirstCause.{cause_from, first_cause}
use Rattle.accepted_schema.specs.Refusals.{tag_refusals, first_tag_refusal}
use Rattle.declared_maps.specs.Lines.{lines}

pub no_refusal_by_kinds : first_refusal lines ≡ None
unfolding refusals refusals_within first_unguarded reaching word_class type_named scope_of is_allowed
no_refusal_by_kinds = refl

pub no_refusal_by_tags : first_tag_refusal (kept_cores lines) ≡ None
unfolding tag_refusals together rounds leads word_class
no_refusal_by_tags = refl

pub no_cause : first_cause lines ≡ None
no_cause = λ i. cause_from (no_refusal_by_kinds i) (no_refusal_by_tags i)
