use Rattle.std.proofs.Common.{◌≡◌}
use Rattle.std.specs.Prelude.{All}
use Rattle.tlb_guard.specs.declared.rules.Rule.{Rule}
use Rattle.tlb_guard.specs.Facts.{IsBelow}
use Rattle.tlb_guard.specs.Users.{users_at}
use Rattle.tlb_guard.proofs.edges.ending_types.Given as goal

abbrev pub invariant-loop-head : goal.invariant-loop-head
invariant-loop-head l = record {
  below : All (IsBelow l.count) l.rules;
  bodies : All (λ (r : Rule). r.body ≡ users_at l.targets-items r.head) l.rules;
}
