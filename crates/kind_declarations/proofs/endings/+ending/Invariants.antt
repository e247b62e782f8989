use Rattle.std.proofs.Common.{◌≡◌, ◌≤◌, ◌+◌, map, drop}
use Rattle.tlb_syntax.specs.View.{constructor, exprs, items}
use Rattle.kind_declarations.specs.EndingViews.{position_at}
use Rattle.kind_declarations.specs.Faults.{verdict}
use Rattle.kind_declarations.specs.Nodes.{arg_endings, record_endings}
use Rattle.kind_terms.specs.Positions.{first_position}
use Rattle.kind_terms.specs.Views.{part_by}
use Rattle.kind_declarations.proofs.endings.+ending.Given as goal

abbrev pub invariant-endings_in_all-loop-e : goal.invariant-endings_in_all-loop-e
invariant-endings_in_all-loop-e l = record {
  kept : l.path ≡ l.fn.path;
  passed :
      verdict (arg_endings (exprs (drop l.e-index l.es)) (map constructor l.types) (map part_by l.fn.path))
      ≡ verdict (arg_endings (exprs l.es) (map constructor l.types) (map part_by l.fn.path));
}

abbrev pub invariant-judge_items-loop-item : goal.invariant-judge_items-loop-item
invariant-judge_items-loop-item l = record {
  kept : l.path ≡ l.fn.path;
  number : l.place ≡ l.item-index + 1;
  bounded : l.unnamed ≤ l.item-index;
  passed :
      verdict (record_endings (items (drop l.item-index l.items)) (map constructor l.types)
      (position_at (map part_by l.fn.path) l.place l.unnamed) (map (λ n. n.now) l.known))
      ≡ verdict (record_endings (items l.items) (map constructor l.types) (first_position (map part_by l.fn.path)) (map (λ n. n.now) l.known));
}
