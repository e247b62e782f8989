use Rattle.std.proofs.Common.{◌≡◌, drop}
use Rattle.schema_leads.specs.Leads.{with_leads}
use Rattle.lead_table.proofs.leads.add_leads.Given as goal

abbrev pub invariant-loop-lead : goal.invariant-loop-lead
invariant-loop-lead l = with_leads l.leads (drop l.lead-index l.more) ≡ with_leads l.initial.leads l.more
