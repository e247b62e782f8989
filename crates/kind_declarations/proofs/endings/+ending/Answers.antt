use Rattle.std.proofs.Common.{◌≡◌, ◌∙◌, ◌++◌, ◌+◌, map, refl, rules, ap, sym, subst, arith, drop}
use Rattle.std.specs.Prelude.{List, None}
use Rattle.tlb_syntax.specs.declared.tree.Expr.{Expr, the_lemmas}
use Rattle.tlb_syntax.specs.Limits.{AreExprs, IsExpr}
use Rattle.tlb_syntax.specs.Tree.{check, implicit, star, when, when_bit}
use Rattle.tlb_syntax.specs.View.{constructor, expr, exprs, field_type, item, items}
use Rattle.kind_declarations.specs.EndingViews.{endings_at, position_at}
use Rattle.kind_declarations.specs.Faults.{verdict}
use Rattle.kind_declarations.specs.Nodes.{arg_endings, expr_endings, record_endings, type_endings}
use Rattle.kind_terms.specs.Positions.{first_position, is_unnamed, next_position}
use Rattle.kind_terms.specs.Views.{part_by}
use Rattle.kind_declarations.proofs.RecordEnds.{args_end, args_turn, count_of_items, endings_of_sum, expr_is_sized, item_is_sized, items_end, items_turn, known_at_last, never_known, no_parts, one_more_at_most, sized_sum}
use Rattle.kind_declarations.proofs.JudgedParts.{both_pass, part_stops}
use Rattle.kind_declarations.proofs.Verdicts.{judged_from, passed_verdict, verdict_none}
use Rattle.kind_declarations.proofs.endings.+ending.Goals as goal

-- ---- expressions

pub endings_in-returns-in-Lit-clause-judged : goal.endings_in-returns-in-Lit-clause-judged
endings_in-returns-in-Lit-clause-judged t c =
    no_parts c.args.e.now (map constructor c.args.types.now) (map part_by c.args.path.now) c.in-Lit.is

pub endings_in-returns-in-Lit-2-clause-judged : goal.endings_in-returns-in-Lit-2-clause-judged
endings_in-returns-in-Lit-2-clause-judged t c =
    no_parts c.args.e.now (map constructor c.args.types.now) (map part_by c.args.path.now) c.in-Lit.is

pub endings_in-returns-in_err-endings_in-in-Sum-clause-judged : goal.endings_in-returns-in_err-endings_in-in-Sum-clause-judged
endings_in-returns-in_err-endings_in-in-Sum-clause-judged t c =
    let types = map constructor c.args.types.now in
    let path = map part_by c.args.path.now in
    part_stops _ (expr_endings (expr c.get.result.now) types path)
    (expr_endings (expr c.in-Sum.second) types path ++ arg_endings (exprs c.in-Sum.more) types path)
    (map part_by c.endings_in.new.path) c.from_residual.result c.in_err-endings_in-in-Sum.field-0.0
    (endings_of_sum _ _ _ _ _ _ _ types path c.in-Sum.is c.get.ensures refl refl)
    c.from_residual.ensures.1 c.in_err-endings_in-in-Sum.ensures.judged

pub endings_in-returns-in_err-endings_in-in-Sum-2-clause-judged : goal.endings_in-returns-in_err-endings_in-in-Sum-2-clause-judged
endings_in-returns-in_err-endings_in-in-Sum-2-clause-judged t c =
    let types = map constructor c.args.types.now in
    let path = map part_by c.args.path.now in
    let new = map part_by c.endings_in.new.path in
    let second = expr_endings (expr c.get-in-Sum.result.now) types new in
    let rest = arg_endings (exprs c.in-Sum.more) types new in
    both_pass (expr_endings (expr c.args.e.now) types path) (expr_endings (expr c.get.result.now) types path)
    (λ p. expr_endings (expr c.get-in-Sum.result.now) types p ++ arg_endings (exprs c.in-Sum.more) types p)
    c.args.path.now c.endings_in.new.path (map part_by c.endings_in-in-Sum.new.path) c.from_residual-in_err-endings_in-in-Sum-2.result
    (endings_of_sum _ _ _ _ _ _ _ types path c.in-Sum.is c.get.ensures c.get-in-Sum.ensures refl)
    c.in_ok-endings_in-in-Sum.ensures.kept c.in_ok-endings_in-in-Sum.ensures.judged
    (part_stops (second ++ rest) second rest (map part_by c.endings_in-in-Sum.new.path) c.from_residual-in_err-endings_in-in-Sum-2.result
    c.in_err-endings_in-in-Sum-2.field-0.0 refl c.from_residual-in_err-endings_in-in-Sum-2.ensures.1 c.in_err-endings_in-in-Sum-2.ensures.judged)

pub endings_in-returns-in_ok-endings_in-in-Sum-2-clause-judged : goal.endings_in-returns-in_ok-endings_in-in-Sum-2-clause-judged
endings_in-returns-in_ok-endings_in-in-Sum-2-clause-judged t c =
    let types = map constructor c.args.types.now in
    let path = map part_by c.args.path.now in
    let new = map part_by c.endings_in.new.path in
    let end = map part_by c.endings_in_all.new.path in
    let second = expr_endings (expr c.get-in-Sum.result.now) types in
    let rest = arg_endings (exprs c.as_slice.result.now) types in
    both_pass (expr_endings (expr c.args.e.now) types path) (expr_endings (expr c.get.result.now) types path) (λ p. second p ++ rest p)
    c.args.path.now c.endings_in.new.path end c.endings_in_all.result
    (endings_of_sum _ _ _ _ _ _ _ types path c.in-Sum.is c.get.ensures c.get-in-Sum.ensures c.as_slice.ensures)
    c.in_ok-endings_in-in-Sum.ensures.kept c.in_ok-endings_in-in-Sum.ensures.judged
    (both_pass (second new ++ rest new) (second new) rest c.endings_in.new.path c.endings_in-in-Sum.new.path end c.endings_in_all.result
    refl c.in_ok-endings_in-in-Sum-2.ensures.kept c.in_ok-endings_in-in-Sum-2.ensures.judged c.endings_in_all.ensures.judged)

pub endings_in-returns-in_err-endings_in-in-Star-clause-judged : goal.endings_in-returns-in_err-endings_in-in-Star-clause-judged
endings_in-returns-in_err-endings_in-in-Star-clause-judged t c =
    let types = map constructor c.args.types.now in
    let path = map part_by c.args.path.now in
    let seen : expr c.args.e.now ≡ star (expr c.in-Star.left) (expr c.in-Star.right) = rw c.in-Star.is (search (the_lemmas, rules)) in
    part_stops (expr_endings (expr c.args.e.now) types path) (expr_endings (expr c.get-in-Star.result.now) types path)
    (expr_endings (expr c.in-Star.right) types path) (map part_by c.endings_in-in-Star.new.path) c.from_residual-in_err-endings_in-in-Star.result c.in_err-endings_in-in-Star.field-0.0
    (ap (λ x. expr_endings x types path) seen
    ∙ ap (λ x. expr_endings (expr x) types path ++ expr_endings (expr c.in-Star.right) types path) (sym c.get-in-Star.ensures))
    c.from_residual-in_err-endings_in-in-Star.ensures.1 c.in_err-endings_in-in-Star.ensures.judged

pub endings_in-returns-in_ok-endings_in-in-Star-clause-judged : goal.endings_in-returns-in_ok-endings_in-in-Star-clause-judged
endings_in-returns-in_ok-endings_in-in-Star-clause-judged t c =
    let types = map constructor c.args.types.now in
    let path = map part_by c.args.path.now in
    let seen : expr c.args.e.now ≡ star (expr c.in-Star.left) (expr c.in-Star.right) = rw c.in-Star.is (search (the_lemmas, rules)) in
    let left = ap (λ x. expr_endings (expr x) types path) (sym c.get-in-Star.ensures) in
    let right = ap (λ x. expr_endings (expr x) types path) (sym c.get-in-Star-2.ensures) in
    both_pass (expr_endings (expr c.args.e.now) types path) (expr_endings (expr c.get-in-Star.result.now) types path)
    (expr_endings (expr c.get-in-Star-2.result.now) types) c.args.path.now c.endings_in-in-Star.new.path (map part_by c.endings_in-in-Star-2.new.path) c.endings_in-in-Star-2.result
    (ap (λ x. expr_endings x types path) seen
    ∙ ap (λ x. x ++ expr_endings (expr c.in-Star.right) types path) left
    ∙ ap (λ x. expr_endings (expr c.get-in-Star.result.now) types path ++ x) right)
    c.in_ok-endings_in-in-Star.ensures.kept c.in_ok-endings_in-in-Star.ensures.judged c.endings_in-in-Star-2.ensures.judged

pub endings_in-endings_in-requires : goal.endings_in-endings_in-requires
endings_in-endings_in-requires t c = (
  search (rules, the_lemmas),
  subst (λ (x : Expr). IsExpr (expr x)) (sym c.get.ensures) (sized_sum c.args.e.now _ _ _ c.in-Sum.is c.requires).0.0,
)

pub endings_in-endings_in-requires-in-Sum : goal.endings_in-endings_in-requires-in-Sum
endings_in-endings_in-requires-in-Sum t c = (
  search (rules, the_lemmas),
  subst (λ (x : Expr). IsExpr (expr x)) (sym c.get-in-Sum.ensures) (sized_sum c.args.e.now _ _ _ c.in-Sum.is c.requires).0.1,
)

pub endings_in-endings_in_all-requires : goal.endings_in-endings_in_all-requires
endings_in-endings_in_all-requires t c = (
  search (rules, the_lemmas),
  subst (λ (x : List Expr). AreExprs (exprs x)) (sym c.as_slice.ensures) (sized_sum c.args.e.now _ _ _ c.in-Sum.is c.requires).1,
)

-- ---- expressions one by one

pub endings_in_all-endings_in-requires : goal.endings_in_all-endings_in-requires
endings_in_all-endings_in-requires t c =
    (search (rules, the_lemmas), expr_is_sized c.args.es.now c.loop-e.e-index c.e-item.result c.requires c.loop-e-test.true c.e-item.is)

pub endings_in_all-loop-e-preserved : goal.endings_in_all-loop-e-preserved
endings_in_all-loop-e-preserved t c =
    let types = map constructor c.args.types.now in
    let path = map part_by c.args.path.now in
    let turn = args_turn c.args.es.now c.loop-e.e-index c.e-item.result types path c.loop-e-test.true c.e-item.is in
    let none : verdict (expr_endings (expr c.e-item.result) types path) ≡ None =
    ap (λ x. verdict (expr_endings (expr c.e-item.result) types (map part_by x))) (sym c.loop-e.invariant.kept) ∙ c.in_ok-endings_in.ensures.judged in
    record {
      kept = c.in_ok-endings_in.ensures.kept ∙ c.loop-e.invariant.kept;
      passed =
          sym (ap verdict turn
          ∙ passed_verdict (expr_endings (expr c.e-item.result) types path) (arg_endings (exprs (drop (c.loop-e.e-index + 1) c.args.es.now)) types path) none)
          ∙ c.loop-e.invariant.passed;
    }

pub endings_in_all-returns-in_err-endings_in-clause-judged : goal.endings_in_all-returns-in_err-endings_in-clause-judged
endings_in_all-returns-in_err-endings_in-clause-judged t c =
    let types = map constructor c.args.types.now in
    let path = map part_by c.args.path.now in
    let rest = arg_endings (exprs (drop c.loop-e.e-index c.args.es.now)) types path in
    let here = expr_endings (expr c.e-item.result) types in
    judged_from rest (arg_endings (exprs c.args.es.now) types path) (map part_by c.endings_in.new.path) c.from_residual.result
    c.loop-e.invariant.passed
    (part_stops rest (here (map part_by c.loop-e.path)) (arg_endings (exprs (drop (c.loop-e.e-index + 1) c.args.es.now)) types path)
    (map part_by c.endings_in.new.path) c.from_residual.result c.in_err-endings_in.field-0.0
    (args_turn c.args.es.now c.loop-e.e-index c.e-item.result types path c.loop-e-test.true c.e-item.is
    ∙ ap (λ x. here (map part_by x) ++ arg_endings (exprs (drop (c.loop-e.e-index + 1) c.args.es.now)) types path) (sym c.loop-e.invariant.kept))
    c.from_residual.ensures.1 c.in_err-endings_in.ensures.judged)

pub endings_in_all-returns-clause-judged : goal.endings_in_all-returns-clause-judged
endings_in_all-returns-clause-judged t c =
    sym c.loop-e.invariant.passed
    ∙ args_end c.args.es.now c.loop-e.e-index (map constructor c.args.types.now) (map part_by c.args.path.now) (omega arith)

-- ---- types

pub endings_in_type-returns-in_err-endings_in-in-If-clause-judged : goal.endings_in_type-returns-in_err-endings_in-in-If-clause-judged
endings_in_type-returns-in_err-endings_in-in-If-clause-judged t c =
    let types = map constructor c.args.types.now in
    let path = map part_by c.args.path.now in
    let seen : field_type c.args.t.now ≡ when (expr c.in-If.condition) (expr c.in-If.e) = rw c.in-If.is (search (the_lemmas, rules)) in
    part_stops (type_endings (field_type c.args.t.now) types path) (expr_endings (expr c.in-If.condition) types path)
    (expr_endings (expr c.in-If.e) types path) (map part_by c.endings_in-in-If.new.path) c.from_residual.result c.in_err-endings_in-in-If.field-0.0
    (ap (λ x. type_endings x types path) seen) c.from_residual.ensures.1 c.in_err-endings_in-in-If.ensures.judged

pub endings_in_type-returns-in_ok-endings_in-in-If-clause-judged : goal.endings_in_type-returns-in_ok-endings_in-in-If-clause-judged
endings_in_type-returns-in_ok-endings_in-in-If-clause-judged t c =
    let types = map constructor c.args.types.now in
    let path = map part_by c.args.path.now in
    let seen : field_type c.args.t.now ≡ when (expr c.in-If.condition) (expr c.in-If.e) = rw c.in-If.is (search (the_lemmas, rules)) in
    both_pass (type_endings (field_type c.args.t.now) types path) (expr_endings (expr c.in-If.condition) types path)
    (expr_endings (expr c.in-If.e) types) c.args.path.now c.endings_in-in-If.new.path (map part_by c.endings_in-in-If-2.new.path) c.endings_in-in-If-2.result
    (ap (λ x. type_endings x types path) seen)
    c.in_ok-endings_in-in-If.ensures.kept c.in_ok-endings_in-in-If.ensures.judged c.endings_in-in-If-2.ensures.judged

pub endings_in_type-returns-in_err-endings_in-in-IfBit-clause-judged : goal.endings_in_type-returns-in_err-endings_in-in-IfBit-clause-judged
endings_in_type-returns-in_err-endings_in-in-IfBit-clause-judged t c =
    let types = map constructor c.args.types.now in
    let path = map part_by c.args.path.now in
    let seen : field_type c.args.t.now ≡ when_bit (expr c.in-IfBit.condition) c.in-IfBit.field-1 (expr c.in-IfBit.e) = rw c.in-IfBit.is (search (the_lemmas, rules)) in
    part_stops (type_endings (field_type c.args.t.now) types path) (expr_endings (expr c.in-IfBit.condition) types path)
    (expr_endings (expr c.in-IfBit.e) types path) (map part_by c.endings_in-in-IfBit.new.path) c.from_residual-in_err-endings_in-in-IfBit.result c.in_err-endings_in-in-IfBit.field-0.0
    (ap (λ x. type_endings x types path) seen) c.from_residual-in_err-endings_in-in-IfBit.ensures.1 c.in_err-endings_in-in-IfBit.ensures.judged

pub endings_in_type-returns-in_ok-endings_in-in-IfBit-clause-judged : goal.endings_in_type-returns-in_ok-endings_in-in-IfBit-clause-judged
endings_in_type-returns-in_ok-endings_in-in-IfBit-clause-judged t c =
    let types = map constructor c.args.types.now in
    let path = map part_by c.args.path.now in
    let seen : field_type c.args.t.now ≡ when_bit (expr c.in-IfBit.condition) c.in-IfBit.field-1 (expr c.in-IfBit.e) = rw c.in-IfBit.is (search (the_lemmas, rules)) in
    both_pass (type_endings (field_type c.args.t.now) types path) (expr_endings (expr c.in-IfBit.condition) types path)
    (expr_endings (expr c.in-IfBit.e) types) c.args.path.now c.endings_in-in-IfBit.new.path (map part_by c.endings_in-in-IfBit-2.new.path) c.endings_in-in-IfBit-2.result
    (ap (λ x. type_endings x types path) seen)
    c.in_ok-endings_in-in-IfBit.ensures.kept c.in_ok-endings_in-in-IfBit.ensures.judged c.endings_in-in-IfBit-2.ensures.judged

-- ---- items

pub judge_ending-returns-then-is_among-clause-judged : goal.judge_ending-returns-then-is_among-clause-judged
judge_ending-returns-then-is_among-clause-judged t c =
    let seen : item c.args.item.now ≡ implicit c.in-Implicit.name c.in-Implicit.field-1 = rw c.in-Implicit.is (search (the_lemmas, rules)) in
    rw seen (known_at_last (map part_by c.args.path.now) c.in-Implicit.name (map (λ n. n.now) c.args.known.now) c.if-is_among.ensures)

pub judge_ending-returns-else-is_among-clause-judged : goal.judge_ending-returns-else-is_among-clause-judged
judge_ending-returns-else-is_among-clause-judged t c =
    let seen : item c.args.item.now ≡ implicit c.in-Implicit.name c.in-Implicit.field-1 = rw c.in-Implicit.is (search (the_lemmas, rules)) in
    rw seen (never_known (map part_by c.args.path.now) c.in-Implicit.name (map (λ n. n.now) c.args.known.now) c.if-is_among.ensures)

pub judge_ending-returns-in-Check-clause-judged : goal.judge_ending-returns-in-Check-clause-judged
judge_ending-returns-in-Check-clause-judged t c =
    let seen : item c.args.item.now ≡ check (expr c.in-Check.field-0) c.in-Check.field-1 (expr c.in-Check.field-2) = rw c.in-Check.is (search (the_lemmas, rules)) in
    rw seen verdict_none

-- ---- items one by one

pub judge_items-judge_item-requires : goal.judge_items-judge_item-requires
judge_items-judge_item-requires t c =
    (search (rules, the_lemmas), item_is_sized c.args.items.now c.loop-item.item-index c.item-item.result c.requires.sized c.loop-item-test.true c.item-item.is)

pub judge_items-overflow_add-place : goal.judge_items-overflow_add-place
judge_items-overflow_add-place t c = let bounded = count_of_items c.args.items.now in omega (arith, bounded, c.requires.bounded)

pub judge_items-unnamed_after-unnamed-requires : goal.judge_items-unnamed_after-unnamed-requires
judge_items-unnamed_after-unnamed-requires t c = let bounded = count_of_items c.args.items.now in omega (arith, bounded, c.requires.bounded)

pub judge_items-loop-item-preserved : goal.judge_items-loop-item-preserved
judge_items-loop-item-preserved t c =
    let types = map constructor c.args.types.now in
    let path = map part_by c.args.path.now in
    let known = map (λ n. n.now) c.args.known.now in
    let p = position_at path c.loop-item.place c.loop-item.unnamed in
    let after = record_endings (items (drop (c.loop-item.item-index + 1) c.args.items.now)) types in
    let turn = items_turn c.args.items.now c.loop-item.item-index c.item-item.result types p known c.loop-item-test.true c.item-item.is in
    let none : verdict (endings_at (item c.item-item.result) types p known) ≡ None =
    ap (λ x. verdict (endings_at (item c.item-item.result) types (position_at (map part_by x) c.loop-item.place c.loop-item.unnamed) known)) (sym c.loop-item.invariant.kept)
    ∙ c.in_ok-judge_item.ensures.judged in
    record {
      kept = c.in_ok-judge_item.ensures.kept ∙ c.loop-item.invariant.kept;
      number = omega arith;
      bounded = one_more_at_most (is_unnamed (item c.item-item.result)) c.loop-item.unnamed c.unnamed_after-unnamed.result c.loop-item.item-index c.unnamed_after-unnamed.ensures c.loop-item.invariant.bounded;
      passed =
          ap (λ b. verdict (after (position_at path (c.loop-item.place + 1) b) known)) c.unnamed_after-unnamed.ensures
          ∙ sym (ap verdict turn ∙ passed_verdict (endings_at (item c.item-item.result) types p known) (after (next_position p (item c.item-item.result)) known) none)
          ∙ c.loop-item.invariant.passed;
    }

pub judge_items-returns-in_err-judge_item-clause-judged : goal.judge_items-returns-in_err-judge_item-clause-judged
judge_items-returns-in_err-judge_item-clause-judged t c =
    let types = map constructor c.args.types.now in
    let path = map part_by c.args.path.now in
    let known = map (λ n. n.now) c.args.known.now in
    let p = position_at path c.loop-item.place c.loop-item.unnamed in
    let rest = record_endings (items (drop c.loop-item.item-index c.args.items.now)) types p known in
    let after = record_endings (items (drop (c.loop-item.item-index + 1) c.args.items.now)) types (next_position p (item c.item-item.result)) known in
    judged_from rest (record_endings (items c.args.items.now) types (first_position path) known) (map part_by c.judge_item.new.path) c.from_residual.result
    c.loop-item.invariant.passed
    (part_stops rest (endings_at (item c.item-item.result) types (position_at (map part_by c.loop-item.path) c.loop-item.place c.loop-item.unnamed) known) after
    (map part_by c.judge_item.new.path) c.from_residual.result c.in_err-judge_item.field-0.0
    (items_turn c.args.items.now c.loop-item.item-index c.item-item.result types p known c.loop-item-test.true c.item-item.is
    ∙ ap (λ x. endings_at (item c.item-item.result) types (position_at (map part_by x) c.loop-item.place c.loop-item.unnamed) known ++ after) (sym c.loop-item.invariant.kept))
    c.from_residual.ensures.1 c.in_err-judge_item.ensures.judged)

pub judge_items-returns-clause-judged : goal.judge_items-returns-clause-judged
judge_items-returns-clause-judged t c =
    sym c.loop-item.invariant.passed
    ∙ items_end c.args.items.now c.loop-item.item-index (map constructor c.args.types.now)
    (position_at (map part_by c.args.path.now) c.loop-item.place c.loop-item.unnamed) (map (λ n. n.now) c.args.known.now) (omega arith)
