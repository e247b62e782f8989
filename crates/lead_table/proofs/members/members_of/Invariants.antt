use Rattle.std.proofs.Common.{◌≡◌, length, take}
use Rattle.lead_table.specs.Heads.{AreMembers}
use Rattle.lead_table.proofs.members.members_of.Given as goal

abbrev pub invariant-loop-place : goal.invariant-loop-place
invariant-loop-place l = record {
  size : length l.members.items ≡ length l.heads;
  are : AreMembers (take l.place l.heads) l.members.items;
}
