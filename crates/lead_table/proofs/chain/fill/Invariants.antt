use Rattle.std.proofs.Common.{◌≡◌, ℕ, ◌<◌, length}
use Rattle.std.specs.Prelude.{All}
use Rattle.tlb_syntax.specs.Tree.{SchemaView}
use Rattle.lead_table.specs.Heads.{IsNumber}
use Rattle.lead_table.specs.Chains.{IsFollowing, IsFollowed, IsSeen, IsSettled, to_do}
use Rattle.lead_table.proofs.chain.fill.Given as goal

abbrev pub invariant-loop-of : goal.invariant-loop-of
invariant-loop-of l = record {
  size : length l.table ≡ length l.members;
  below : All (λ t. t < length l.members) l.chain;
  followed : (s : SchemaView) → IsFollowing s l.heads l.members → IsNumber s l.start → IsSettled s l.fn.table → IsFollowed s l.chain l.table;
  seen : (n : ℕ) → IsSeen l.fn.table n → IsSeen l.table n;
  filled : IsSeen l.table l.start;
}

abbrev pub decreases-loop-of : goal.decreases-loop-of
decreases-loop-of l = to_do l.chain l.table
