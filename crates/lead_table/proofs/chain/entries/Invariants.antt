use Rattle.std.proofs.Common.{◌≡◌, ℕ, ◌<◌, length, take}
use Rattle.std.specs.Prelude.{All}
use Rattle.tlb_syntax.specs.Tree.{SchemaView}
use Rattle.lead_table.specs.declared.heads.Head.{Head}
use Rattle.lead_table.specs.Chains.{IsFollowing, IsSeen, IsSettled}
use Rattle.lead_table.proofs.chain.entries.Given as goal

abbrev pub invariant-loop-head : goal.invariant-loop-head
invariant-loop-head l = record {
  size : length l.table.items ≡ length l.members;
  settled : (s : SchemaView) → IsFollowing s l.heads l.members → IsSettled s l.table.items;
  seen : All (λ (h : Head). IsSeen l.table.items h.of_type) (take l.head-index l.heads);
}
