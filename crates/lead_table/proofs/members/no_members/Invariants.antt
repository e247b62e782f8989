use Rattle.std.proofs.Common.{◌≡◌, [], length}
use Rattle.lead_table.specs.Heads.{AreMembers}
use Rattle.lead_table.proofs.members.no_members.Given as goal

abbrev pub invariant-loop-type : goal.invariant-loop-type
invariant-loop-type l = record {
  size : length l.members.items ≡ l._type;
  none : AreMembers [] l.members.items;
}
