use Rattle.std.proofs.Common.{◌≡◌, take, map}
use Rattle.lead_table.specs.Heads.{leads_by}
use Rattle.lead_table.specs.Chains.{done_leads}
use Rattle.lead_table.proofs.table.all_leads.Given as goal

abbrev pub invariant-loop-head : goal.invariant-loop-head
invariant-loop-head l = l.leads ≡ map (leads_by (done_leads l.table)) (take l.head-index l.heads)
