use Rattle.std.proofs.Common.{◌∙◌, [], ap, sym, refl, arith, rules}
use Rattle.std.specs.Prelude.{Err, Ok}
use Rattle.kind_terms.specs.SumLaws.{of_sum}
use Rattle.kind_terms.specs.ViewLaws.{has_exprs_seen, seen_implicit, seen_check}
use Rattle.tlb_syntax.specs.declared.tree.Expr.{the_lemmas}
use Rattle.tlb_syntax.specs.View.{item, items}
use Rattle.kind_terms.specs.Scopes.{field_names}
use Rattle.kind_terms.specs.declared.kind.TermKind.TheVariants.{NumberIn}
use Rattle.kind_declarations.specs.Faults.{verdict}
use Rattle.kind_declarations.specs.Parts.{part_nodes}
use Rattle.kind_declarations.specs.Views.{item_context, path_by, words}
use Rattle.kind_declarations.proofs.RecordNodes.{args_end, args_end_kinds, args_passed, args_refused, around_follows, unnamed_passed, count_of_items, inner_judged, ok_named_one, ok_named_none, ok_named_then, on_ok_always, no_name, one_name, explicit_refused, explicit_passed, check_refused, check_passed, follows_trans, is_expr_at, is_item_at, items_end, items_passed, items_refused, place_passed, scope_passed}
use Rattle.kind_declarations.proofs.TypeNodes.{named_judged, no_kind, no_parts, star_parts, type_split}
use Rattle.kind_declarations.proofs.Verdicts.{judges_err, passed_then, refused_then, verdict_none}
use Rattle.kind_declarations.proofs.scope.Scope.+item.Goals as goal

pub judge_type-returns-in_err-judge_type_alone-clause-judged : goal.judge_type-returns-in_err-judge_type_alone-clause-judged
judge_type-returns-in_err-judge_type_alone-clause-judged t c =
    rw type_split (judges_err _ _ _ _ c.from_residual.ensures.1 (refused_then _ _ _ _ c.in_err-judge_type_alone.ensures))

pub judge_type-returns-clause-judged : goal.judge_type-returns-clause-judged
judge_type-returns-clause-judged t c = rw type_split (passed_then _ _ _ _ c.in_ok-judge_type_alone.ensures c.judge_parts.ensures.judged)

pub judge_conditional-returns-in_err-judge_number-clause-judged : goal.judge_conditional-returns-in_err-judge_number-clause-judged
judge_conditional-returns-in_err-judge_number-clause-judged t c =
    judges_err _ _ _ _ c.from_residual.ensures.1 (refused_then _ _ _ _ c.in_err-judge_number.ensures)

pub judge_conditional-returns-clause-judged : goal.judge_conditional-returns-clause-judged
judge_conditional-returns-clause-judged t c = passed_then _ _ _ _ c.in_ok-judge_number.ensures c.judge_type.ensures.judged

pub judge_arg-returns-in-NoKind-clause-judged : goal.judge_arg-returns-in-NoKind-clause-judged
judge_arg-returns-in-NoKind-clause-judged t c = no_kind _ _ _ _ c.in-NoKind.is

pub judge_parts-returns-in_err-judge_number-in-Star-clause-judged : goal.judge_parts-returns-in_err-judge_number-in-Star-clause-judged
judge_parts-returns-in_err-judge_number-in-Star-clause-judged t c =
    rw (star_parts _ _ _ _ _ _ _ c.in-Star.is c.get.ensures refl)
    (judges_err _ _ _ _ c.from_residual.ensures.1 (refused_then _ _ _ _ c.in_err-judge_number-in-Star.ensures))

pub judge_parts-returns-in_ok-judge_number-in-Star-clause-judged : goal.judge_parts-returns-in_ok-judge_number-in-Star-clause-judged
judge_parts-returns-in_ok-judge_number-in-Star-clause-judged t c =
    rw (star_parts _ _ _ _ _ _ _ c.in-Star.is c.get.ensures c.get-in-Star.ensures)
    (passed_then _ _ _ _ c.in_ok-judge_number-in-Star.ensures c.judge_type.ensures.judged)

pub judge_parts-returns-in-Named-clause-judged : goal.judge_parts-returns-in-Named-clause-judged
judge_parts-returns-in-Named-clause-judged t c =
    named_judged _ _ _ _ (item_context c.args.self.now) c.args.position _ _ _ _ c.in-Named.is c.as_slice.ensures (has_exprs_seen _ _ c.is_empty.ensures)
    c.parameters_of-kinds.ensures c.judge_args.ensures.judged

pub judge_parts-returns-in-Lit-clause-judged : goal.judge_parts-returns-in-Lit-clause-judged
judge_parts-returns-in-Lit-clause-judged t c = no_parts _ _ _ c.in-Lit.is

pub judge_parts-returns-in-Lit-2-clause-judged : goal.judge_parts-returns-in-Lit-2-clause-judged
judge_parts-returns-in-Lit-2-clause-judged t c = no_parts _ _ _ c.in-Lit.is

pub judge_parts-returns-in-Lit-3-clause-judged : goal.judge_parts-returns-in-Lit-3-clause-judged
judge_parts-returns-in-Lit-3-clause-judged t c = no_parts _ _ _ c.in-Lit.is

pub judge_parts-returns-in-Sum-clause-judged : goal.judge_parts-returns-in-Sum-clause-judged
judge_parts-returns-in-Sum-clause-judged t c =
    sym (ap verdict (of_sum (λ v. part_nodes v (item_context c.args.self.now) c.args.position) [] (λ a b. refl) _ _ _ _ c.in-Sum.is))
    ∙ verdict_none

pub judge_args-judge_arg-requires : goal.judge_args-judge_arg-requires
judge_args-judge_arg-requires t c =
    (search (rules, the_lemmas), is_expr_at _ _ _ c.loop-at-test.true c.index-args-at.is c.requires)

pub judge_args-returns-in_err-judge_arg-clause-judged : goal.judge_args-returns-in_err-judge_arg-clause-judged
judge_args-returns-in_err-judge_arg-clause-judged t c =
    let inv = c.loop-at.invariant in
    judges_err _ _ _ _ c.from_residual.ensures.1
    (args_refused c.args.args.now c.args.kinds.now c.loop-at.at (words c.loop-at.given) (NumberIn 0) c.loop-at.self c.args.self.now inv.kept inv.nodes
    _ (words c.as_slice.result.now) _ _ c.loop-at-test.true c.if-at-kinds.false c.index-args-at.is (ap words c.as_slice.ensures)
    c.in_err-judge_arg.ensures.judged)

pub judge_args-loop-at-preserved : goal.judge_args-loop-at-preserved
judge_args-loop-at-preserved t c =
    let inv = c.loop-at.invariant in
    record {
      kept = c.in_ok-judge_arg.ensures.kept ∙ inv.kept;
      nodes = args_passed c.args.args.now c.args.kinds.now c.loop-at.at (words c.loop-at.given) (NumberIn 0) c.loop-at.self c.args.self.now inv.kept inv.nodes
          _ (words c.as_slice.result.now) _ c.loop-at-test.true c.if-at-kinds.false c.index-args-at.is (ap words c.as_slice.ensures)
          c.in_ok-judge_arg.ensures.judged c.in_ok-add_given.ensures;
    }

pub judge_args-returns-clause-judged : goal.judge_args-returns-clause-judged
judge_args-returns-clause-judged t c = args_end _ _ _ _ c.args.self.now c.loop-at.invariant.nodes c.loop-at-test.false

pub judge_args-returns-then-at-kinds-clause-judged : goal.judge_args-returns-then-at-kinds-clause-judged
judge_args-returns-then-at-kinds-clause-judged t c = args_end_kinds _ _ _ _ c.args.self.now c.loop-at.invariant.nodes c.if-at-kinds.true

pub judge_items-judge_next-requires : goal.judge_items-judge_next-requires
judge_items-judge_next-requires t c = (
  search (rules, the_lemmas),
  (
    c.loop-item.invariant.around,
    (
      is_item_at _ _ _ c.loop-item-test.true c.item-item.is c.requires.limits,
      (
        omega (arith, count_of_items c.args.list.now, c.requires.bounded, c.loop-item.invariant.place),
        omega (arith, count_of_items c.args.list.now, c.requires.bounded, c.loop-item.invariant.unnamed),
      ),
    ),
  ),
)

pub judge_items-returns-in_err-judge_next-clause-judged : goal.judge_items-returns-in_err-judge_next-clause-judged
judge_items-returns-in_err-judge_next-clause-judged t c =
    judges_err _ _ _ _ c.from_residual.ensures.1
    (items_refused _ _ c.loop-item.self c.args.self.now c.loop-item.row _ c.loop-item-test.true c.item-item.is _ _ c.loop-item.invariant.nodes c.in_err-judge_next.ensures.judged)

pub judge_items-loop-item-preserved : goal.judge_items-loop-item-preserved
judge_items-loop-item-preserved t c =
    let inv = c.loop-item.invariant in
    let new = c.in_ok-judge_next.ensures in
    record {
      follows = follows_trans c.args.self.now c.loop-item.self c.judge_next.new.self inv.follows new.follows;
      around = around_follows c.loop-item.self c.judge_next.new.self new.follows inv.around;
      place = omega (arith, place_passed c.loop-item.self c.judge_next.new.self c.loop-item.row c.judge_next.new.row _ new.next, inv.place);
      unnamed = omega (arith, unnamed_passed c.loop-item.self c.judge_next.new.self c.loop-item.row c.judge_next.new.row (item c.item-item.result) new.next, inv.unnamed);
      nodes = items_passed _ _ c.loop-item.self c.args.self.now c.loop-item.row _ c.loop-item-test.true c.item-item.is c.judge_next.new.self c.judge_next.new.row inv.nodes new.judged new.next;
      scope = scope_passed _ _ c.loop-item.self c.args.self.now c.loop-item.row _ c.loop-item-test.true c.item-item.is c.judge_next.new.self c.judge_next.new.row inv.scope new.next;
    }

pub judge_items-returns-clause-judged : goal.judge_items-returns-clause-judged
judge_items-returns-clause-judged t c = items_end _ _ c.loop-item.self c.args.self.now c.loop-item.row c.loop-item.invariant.nodes c.loop-item-test.false

pub judge_inner-returns-in_err-judge_items-clause-judged : goal.judge_inner-returns-in_err-judge_items-clause-judged
judge_inner-returns-in_err-judge_items-clause-judged t c =
    judges_err _ _ _ _ c.from_residual.ensures.1 (inner_judged c.args.self.now c.len-bindings.result c.no_inputs-self.result (items c.args.list.now) (path_by c.judge_items.new.self) (Err c.in_err-judge_items.field-0.0) c.len-bindings.ensures c.no_inputs-self.ensures c.in_err-judge_items.ensures.judged)

pub judge_inner-returns-clause-judged : goal.judge_inner-returns-clause-judged
judge_inner-returns-clause-judged t c = inner_judged c.args.self.now c.len-bindings.result c.no_inputs-self.result (items c.args.list.now) (path_by c.args.self.now) (Ok tt) c.len-bindings.ensures c.no_inputs-self.ensures c.in_ok-judge_items.ensures.judged

pub judge_item-returns-in-Implicit-clause-kept : goal.judge_item-returns-in-Implicit-clause-kept
judge_item-returns-in-Implicit-clause-kept t c =
    ok_named_one c.judge_name.result c.args.self.now c.judge_name.new.self _ _
    (sym (ap field_names (seen_implicit _ _ _ c.in-Implicit.is))) c.judge_name.ensures.added

pub judge_item-returns-in_ok-judge_number-in-Check-clause-kept : goal.judge_item-returns-in_ok-judge_number-in-Check-clause-kept
judge_item-returns-in_ok-judge_number-in-Check-clause-kept t c =
    ok_named_none c.judge_number-in-Check.result c.args.self.now c.args.self.now _
    (sym (ap field_names (seen_check _ _ _ _ c.in-Check.is))) (on_ok_always c.judge_number-in-Check.result refl)

pub judge_item-returns-in-None-clause-kept : goal.judge_item-returns-in-None-clause-kept
judge_item-returns-in-None-clause-kept t c =
    ok_named_none c.judge_field_type.result c.args.self.now c.judge_field_type.new.self _
    (no_name _ _ _ c.in-Explicit.is c.in-None.is) c.judge_field_type.ensures.kept

pub judge_item-returns-in_ok-judge_name-in-Some-clause-kept : goal.judge_item-returns-in_ok-judge_name-in-Some-clause-kept
judge_item-returns-in_ok-judge_name-in-Some-clause-kept t c =
    ok_named_then c.judge_field_type-in-Some.result c.args.self.now c.judge_name-in-Some.new.self
    c.judge_field_type-in-Some.new.self _ _
    (one_name _ _ _ _ c.in-Explicit.is c.in-Some.is)
    c.in_ok-judge_name-in-Some.ensures.added
    c.judge_field_type-in-Some.ensures.kept

pub judge_item-returns-in_err-judge_name-in-Some-clause-judged : goal.judge_item-returns-in_err-judge_name-in-Some-clause-judged
judge_item-returns-in_err-judge_name-in-Some-clause-judged t c =
    judges_err _ _ _ _ c.from_residual-in_err-judge_name-in-Some.ensures.1
    (explicit_refused c.args.self.now _ _ _ _ _ _ _ c.in-Explicit.is c.in-Some.is
    c.in_err-judge_name-in-Some.ensures.judged)

pub judge_item-returns-in_ok-judge_name-in-Some-clause-judged : goal.judge_item-returns-in_ok-judge_name-in-Some-clause-judged
judge_item-returns-in_ok-judge_name-in-Some-clause-judged t c =
    explicit_passed c.args.self.now c.judge_name-in-Some.new.self _ _ _ _ _ _ _ c.in-Explicit.is c.in-Some.is
    c.in_ok-judge_name-in-Some.ensures.added
    c.in_ok-judge_name-in-Some.ensures.judged
    c.judge_field_type-in-Some.ensures.judged

pub judge_item-returns-in_err-judge_number-in-Check-clause-judged : goal.judge_item-returns-in_err-judge_number-in-Check-clause-judged
judge_item-returns-in_err-judge_number-in-Check-clause-judged t c =
    judges_err _ _ _ _ c.from_residual.ensures.1
    (check_refused c.args.self.now _ _ _ _ _ _ _ _ c.in-Check.is c.sought-unknown.ensures c.in_err-judge_number-in-Check.ensures)

pub judge_item-returns-in_ok-judge_number-in-Check-clause-judged : goal.judge_item-returns-in_ok-judge_number-in-Check-clause-judged
judge_item-returns-in_ok-judge_number-in-Check-clause-judged t c =
    check_passed c.args.self.now _ _ _ _ _ _ _ _ c.in-Check.is c.sought-unknown.ensures c.in_ok-judge_number-in-Check.ensures
    c.judge_number-in-Check.ensures
