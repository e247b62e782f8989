-- What is kept of an accepted schema.
use Rattle.std.specs.Prelude.{◌≡◌}
use Rattle.tlb_syntax.specs.Tree.{SchemaView}
use Rattle.tlb_kinds.specs.Refusals.{kept_of}
use Rattle.lead_table.specs.declared.table.LeadTable.{LeadTable}
use Rattle.lead_table.specs.Tables.{IsLeadTable}
use Rattle.accepted_schema.specs.Accepted.{IsAccepted}

-- an accepted schema in which nothing is passed over, with the table of its tags and leads
pub record IsSeparated (s : SchemaView) (table : LeadTable) : Type 0 where
  pub accepted : IsAccepted s
  pub kept : kept_of s ≡ s
  pub is_table : IsLeadTable s table
