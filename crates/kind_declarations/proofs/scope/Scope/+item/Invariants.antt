use Rattle.std.proofs.Common.{◌≡◌, ◌≤◌, ◌+◌, [], drop, length}
use Rattle.tlb_syntax.specs.View.{exprs, items}
use Rattle.kind_terms.specs.Scopes.{at_end}
use Rattle.kind_declarations.specs.Faults.{verdict}
use Rattle.kind_declarations.specs.Nodes.{arg_nodes, record_nodes}
use Rattle.kind_declarations.specs.Views.{Follows, item_context, first_by, record_context, scope_by, words}
use Rattle.kind_declarations.proofs.scope.Scope.+item.Given as goal

abbrev pub invariant-judge_args-loop-at : goal.invariant-judge_args-loop-at
invariant-judge_args-loop-at l = record {
  kept : l.self ≡ l.fn.self;
  nodes : verdict (arg_nodes (exprs (drop l.at l.args)) (item_context l.fn.self) (drop l.at l.kinds) (words l.given))
      ≡ verdict (arg_nodes (exprs l.args) (item_context l.fn.self) l.kinds []);
}

abbrev pub invariant-judge_items-loop-item : goal.invariant-judge_items-loop-item
invariant-judge_items-loop-item l = record {
  follows : Follows l.fn.self l.self;
  around : l.self.around ≤ length l.self.bindings;
  place : l.row.place ≡ l.item-index + 1;
  unnamed : l.row.unnamed ≤ l.item-index;
  nodes : verdict (record_nodes (items (drop l.item-index l.list)) (record_context l.self l.row)) ≡ verdict (record_nodes (items l.list) (first_by l.fn.self));
  scope : at_end (scope_by l.self) (items (drop l.item-index l.list)) ≡ at_end (scope_by l.fn.self) (items l.list);
}
