-- The table of a schema's tags and leads.
use Rattle.std.specs.Prelude.{ℕ, ◌≡◌, List, map, length}
use Rattle.tlb_syntax.specs.Tree.{SchemaView}
use Rattle.lead_table.specs.declared.table.LeadTable.{LeadTable}
use Rattle.schema_leads.specs.Tags.{cores}
use Rattle.schema_leads.specs.Leads.{leads}
use Rattle.lead_table.specs.Heads.{AreHeads, AreMembers}

-- the heads of the schema's constructors, their leads, and the places of the constructors of each type
pub record IsLeadTable (s : SchemaView) (table : LeadTable) : Type 0 where
  pub are_heads : AreHeads s s table.heads
  pub are_leads : table.leads ≡ map (leads (cores s)) (cores s)
  pub are_members : AreMembers table.heads table.members
  pub member_count : length table.members ≡ length table.heads
