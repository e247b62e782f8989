use Rattle.std.proofs.Common.{◌≡◌, ◌≤◌, length, take, map}
use Rattle.tlb_syntax.specs.Tree.{SchemaView}
use Rattle.tlb_guard.specs.DeclaredTypes.{distinct, result_of}
use Rattle.lead_table.specs.Heads.{AreHeads}
use Rattle.tag_ambiguity.proofs.accepted.count_types.Given as goal

abbrev pub invariant-loop-place : goal.invariant-loop-place
invariant-loop-place l = record {
  few : l.types ≤ l.place;
  counted : (s : SchemaView) → AreHeads s s l.heads → l.types ≡ length (distinct (take l.place (map result_of s)));
}
