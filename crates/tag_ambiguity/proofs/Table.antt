-- The table of a schema, place by place.
use Rattle.std.proofs.Common.{◌≡◌, ◌∙◌, ◌<◌, [], ℕ, length, sym, ap, arith, get_or, map}
use Rattle.std.specs.Prelude.{Some, option_map, slice_get}
use Rattle.std.proofs.lemmas.List.{length-map}
use Rattle.tlb_syntax.specs.Tree.{SchemaView}
use Rattle.core_form.specs.Core.{Declaration}
use Rattle.schema_leads.specs.Leads.{Leads, leads}
use Rattle.schema_leads.specs.Tags.{cores}
use Rattle.lead_table.specs.declared.heads.Head.{Head}
use Rattle.lead_table.specs.declared.table.LeadTable.{LeadTable}
use Rattle.lead_table.specs.Tables.{IsLeadTable}
use Rattle.tag_ambiguity.proofs.Listing.{at_place, core_count, got, head_count, mapped}
use Rattle.tag_ambiguity.proofs.Marks.{read}
use Rattle.tag_ambiguity.proofs.Pairs.{is_at}

pub head_total : (s : SchemaView) (table : LeadTable) → IsLeadTable s table → length table.heads ≡ length s
head_total s table is = head_count s s table.heads is.are_heads

pub lead_total : (s : SchemaView) (table : LeadTable) → IsLeadTable s table → length table.leads ≡ length s
lead_total s table is = omega (arith, ap length is.are_leads, length-map (cores s) (leads (cores s)), core_count s [] s)

pub leads_there : (s : SchemaView) (table : LeadTable) (k : ℕ) (ls d : Leads) → IsLeadTable s table → k < length s → ls ≡ get_or table.leads k d
    → option_map (leads (cores s)) (slice_get (cores s) k) ≡ Some ls
leads_there s table k ls d is lt found =
    let c = at_place (cores s) k (omega (arith, core_count s [] s, lt)) in
    let there = mapped (leads (cores s)) (cores s) k c.element c.there in
    let same : ls ≡ leads (cores s) c.element =
    found ∙ ap (λ z. get_or z k d) is.are_leads ∙ read (map (leads (cores s)) (cores s)) k d (leads (cores s) c.element) there in
    ap (option_map (leads (cores s))) c.there ∙ ap Some (sym same)

pub tag_there : (s : SchemaView) (table : LeadTable) (k : ℕ) (h : Head) → IsLeadTable s table → k < length s → h ≡ get_or table.heads k h
    → option_map (λ (d : Declaration). d.core.tag) (slice_get (cores s) k) ≡ Some h.tag
tag_there s table k h is lt found =
    let there : slice_get table.heads k ≡ Some h = got table.heads k h (omega (arith, head_total s table is, lt)) ∙ ap Some (sym found) in
    let at = is_at s table.heads k h is.are_heads there in
    ap (option_map (λ (d : Declaration). d.core.tag)) at.there ∙ ap Some (sym at.tag)

pub removed_there : (s : SchemaView) (table : LeadTable) (k : ℕ) (ls : Leads) → IsLeadTable s table → k < length s → slice_get table.leads k ≡ Some ls
    → option_map (leads (cores s)) (slice_get (cores s) k) ≡ Some ls
removed_there s table k ls is lt found =
    let c = at_place (cores s) k (omega (arith, core_count s [] s, lt)) in
    ap (option_map (leads (cores s))) c.there ∙ sym (mapped (leads (cores s)) (cores s) k c.element c.there)
    ∙ ap (λ z. slice_get z k) (sym is.are_leads) ∙ found
