use Rattle.std.proofs.Common.{◌≡◌, ℕ, ◌<◌, List, [], length, map, ap, sym, subst, ◌∙◌, arith}
use Rattle.std.specs.Prelude.{All}
use Rattle.tlb_syntax.specs.declared.tree.Constructor.{Constructor}
use Rattle.tlb_guard.specs.Numbering.{views}
use Rattle.schema_leads.specs.FirstFields.{IsGuarded}
use Rattle.lead_table.specs.declared.heads.Head.{Head}
use Rattle.lead_table.specs.declared.leads.Entry.{Entry}
use Rattle.lead_table.specs.declared.table.LeadTable.{LeadTable}
use Rattle.lead_table.specs.Heads.{AreHeads, AreMembers, IsTypeBelow, leads_by}
use Rattle.lead_table.specs.Chains.{IsDone, IsFollowing, done_leads}
use Rattle.lead_table.specs.Tables.{IsLeadTable}
use Rattle.lead_table.proofs.Listing.{head_count, types_below, members_within}
use Rattle.lead_table.proofs.Following.{all_right, all_done}
use Rattle.lead_table.proofs.table.lead_table.Goals as goal

pub members_of-requires : goal.members_of-requires
members_of-requires c =
    let s = views c.in_ok-types.types in
    let hs = c.in_ok-heads.heads in
    let N : ℕ → Type 0 = λ n. All (IsTypeBelow n) hs in
    let R : List Head → Type 0 = λ z. All (IsTypeBelow (length z)) z in
    subst R (sym c.as_slice.ensures) (subst N (sym (head_count s s hs c.in_ok-heads.ensures)) (types_below s s hs c.in_ok-heads.ensures))

pub entries-requires-clause-types : goal.entries-requires-clause-types
entries-requires-clause-types c =
    let s = views c.in_ok-types.types in
    let hs = c.in_ok-heads.heads in
    let N : ℕ → Type 0 = λ n. All (IsTypeBelow n) hs in
    let R : List Head → Type 0 = λ z. All (IsTypeBelow (length z)) z in
    subst R (sym c.as_slice-2.ensures) (subst N (sym (head_count s s hs c.in_ok-heads.ensures)) (types_below s s hs c.in_ok-heads.ensures))

pub entries-requires-clause-within : goal.entries-requires-clause-within
entries-requires-clause-within c =
    let ms = c.in_ok-members.members.items in
    let M : List Head → Type 0 = λ z. AreMembers z ms in
    let are : AreMembers c.as_slice-2.result.now ms = subst M (c.as_slice.ensures ∙ sym c.as_slice-2.ensures) c.in_ok-members.ensures.members in
    let R : List (List ℕ) → Type 0 = λ z. All (All (λ i. i < length c.as_slice-2.result.now)) z in
    subst R (sym c.as_slice-3.ensures.value) (members_within c.as_slice-2.result.now ms are)

pub returns : goal.returns
returns c = λ guarded.
    let types = c.in_ok-types.types in
    let s = views types in
    let hs = c.in_ok-heads.heads in
    let ms = c.in_ok-members.members.items in
    let table = c.in_ok-table.table.items in
    let are = c.in_ok-heads.ensures in
    let G : List Constructor → Type 0 = λ z. IsGuarded (views z) in
    let ok : IsGuarded s = subst G (sym c.in_ok-types.ensures) guarded in
    let M : List Head → Type 0 = λ z. AreMembers z ms in
    let members : AreMembers hs ms = subst M c.as_slice.ensures c.in_ok-members.ensures.members in
    let size : length ms ≡ length hs = c.in_ok-members.ensures.size ∙ ap length c.as_slice.ensures in
    let F : List Head → Type 0 = λ z. IsFollowing s z ms in
    let E : List (List ℕ) → Type 0 = λ z. IsFollowing s c.as_slice-2.result.now z in
    let following = subst E (sym c.as_slice-3.ensures.value) (subst F (sym c.as_slice-2.ensures) (record { guarded = ok; are_heads = are; are_members = members; size = size })) in
    let D : List Head → Type 0 = λ z. All (λ (h : Head). IsDone s table h.of_type) z in
    let done : All (λ (h : Head). IsDone s table h.of_type) hs = subst D c.as_slice-2.ensures (c.in_ok-table.ensures s following) in
    let leads = c.in_ok-leads.ensures ∙ ap (λ (z : List Head). map (leads_by (done_leads c.as_slice-5.result.now)) z) c.as_slice-4.ensures
    ∙ ap (λ (t : List Entry). map (leads_by (done_leads t)) hs) c.as_slice-5.ensures.value
    ∙ all_right s table s [] hs are (all_done s hs table are done) in
    let made : LeadTable = record { heads = hs; leads = c.in_ok-leads.leads; members = c.from_vec.result } in
    let P : List (List ℕ) → Type 0 = λ z. AreMembers hs z in
    let Q : List Constructor → Type 0 = λ z. IsLeadTable (views z) made in
    subst Q c.in_ok-types.ensures (record {
      are_heads = are;
      are_leads = leads;
      are_members = subst P (sym c.from_vec.ensures) members;
      member_count = ap length c.from_vec.ensures ∙ size;
    })
