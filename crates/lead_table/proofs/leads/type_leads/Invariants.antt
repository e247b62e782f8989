use Rattle.std.proofs.Common.{◌≡◌, ◌≤◌, [], length, take}
use Rattle.schema_leads.specs.Leads.{with_leads}
use Rattle.lead_table.specs.Heads.{leads_of_members}
use Rattle.lead_table.specs.Chains.{done_leads}
use Rattle.lead_table.proofs.leads.type_leads.Given as goal

abbrev pub invariant-loop-place : goal.invariant-loop-place
invariant-loop-place l = record {
  few : length l.leads ≤ 64;
  are : l.leads ≡ with_leads [] (leads_of_members (done_leads l.table) l.heads (take l.place-index l.members));
}
