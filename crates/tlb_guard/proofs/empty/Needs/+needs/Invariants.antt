use Rattle.std.proofs.Common.{drop}
use Rattle.tlb_syntax.specs.View.{items}
use Rattle.tlb_guard.specs.Scoping.{IsScopePrefix}
use Rattle.tlb_guard.specs.Views.{KeepsTypes}
use Rattle.tlb_guard.proofs.NeededTypes.{IsRest}
use Rattle.tlb_guard.proofs.empty.Needs.+needs.Given as goal

abbrev pub invariant-of_items-loop-i : goal.invariant-of_items-loop-i
invariant-of_items-loop-i l = record {
  types : KeepsTypes l.fn.self l.self;
  scope : IsScopePrefix l.fn.self.scope l.self.scope;
  needs : IsRest l.fn.self l.self (items l.list) (items (drop l.i-index l.list));
}
