use Rattle.std.proofs.Common.{◌≡◌, length}
use Rattle.tlb_syntax.specs.Tree.{SchemaView}
use Rattle.lead_table.specs.Chains.{AreUnseen}
use Rattle.lead_table.proofs.chain.no_entries.Given as goal

abbrev pub invariant-loop-type : goal.invariant-loop-type
invariant-loop-type l = record {
  size : length l.table.items ≡ l._type;
  unseen : AreUnseen l.table.items;
}
