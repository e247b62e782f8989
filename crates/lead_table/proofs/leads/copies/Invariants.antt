use Rattle.std.proofs.Common.{◌≡◌, take}
use Rattle.lead_table.proofs.leads.copies.Given as goal

abbrev pub invariant-loop-lead : goal.invariant-loop-lead
invariant-loop-lead l = l.copies ≡ take l.lead-index l.leads
