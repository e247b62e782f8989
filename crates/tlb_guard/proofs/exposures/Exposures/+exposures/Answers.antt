use Rattle.std.proofs.Common.{◌≡◌, ◌∙◌, ◌+◌, List, drop, sym, ap, refl, true, false, [], subst, rules as steps}
use Rattle.std.specs.Prelude.{Some}
use Rattle.std.specs.Borrow.{Bor}
use Rattle.tlb_syntax.specs.declared.tree.Constructor.{Constructor}
use Rattle.kind_terms.specs.SumLaws.{of_sum}
use Rattle.tlb_syntax.specs.View.{expr, exprs}
use Rattle.tlb_guard.specs.declared.exposures.Exposures.{Exposures}
use Rattle.tlb_guard.specs.Empty.{may_be_empty}
use Rattle.tlb_guard.specs.NameLaws.{is_variable}
use Rattle.tlb_guard.specs.Exposed.{terms_of_arguments, terms_of}
use Rattle.tlb_guard.specs.Facts.{holds}
use Rattle.tlb_guard.specs.Numbering.{parameter_at, place_of, types_in, views, width, word_at}
use Rattle.tlb_guard.specs.Scoping.{names}
use Rattle.tlb_guard.specs.Views.{Exposes, KeepsExposures}
use Rattle.tlb_syntax.specs.Tree.{named}
use Rattle.tlb_guard.proofs.ExposureLists.{ExposuresOfArguments, keeps_twice, no_terms, named_no_type, named_type, argument_below, args_more, args_less}
use Rattle.tlb_guard.proofs.Numberings.{own_number}
use Rattle.tlb_guard.proofs.exposures.Exposures.+exposures.Goals as goal
use Rattle.tlb_guard.proofs.exposures.Exposures.+exposures.Goals.{of_name-in-Some+in_ok-push-2+in_ok-of_args, of_name-in_default, of_args-in-Some+in_ok-of_arg, of_args-in_default}

pub of_expr-returns-in-Sum-clause-exposures : goal.of_expr-returns-in-Sum-clause-exposures
of_expr-returns-in-Sum-clause-exposures n c =
    no_terms c.args.self.now (λ k scope. terms_of k scope (expr c.args.e.now))
    (λ k scope. of_sum (terms_of k scope) [] (λ a b. refl) _ _ _ _ c.in-Sum.is)

pub of_expr-returns-in-Sum-clause-empty : goal.of_expr-returns-in-Sum-clause-empty
of_expr-returns-in-Sum-clause-empty n c =
    of_sum (may_be_empty (types_in (views c.args.self.now.types.now) (holds c.args.self.now.empty.now)) (names c.args.self.now.scope)) true
    (λ a b. refl) _ _ _ _ c.in-Sum.is

pub of_name-push-requires-in-Some : goal.of_name-push-requires-in-Some
of_name-push-requires-in-Some n c = own_number (views c.args.self.now.types.now) c.args.name.now c.in-Some.number c.in-Some.ensures

pub of_name-of_args-requires : goal.of_name-of_args-requires
of_name-of_args-requires n c = (
  search steps,
  (let P : Bor (List Constructor) → Type 0 = λ z. place_of (views z.now) (word_at (views z.now) c.in-Some.number) ≡ Some c.in-Some.number in
      subst P (sym c.in_ok-push-2.ensures.kept.types) (own_number (views c.args.self.now.types.now) c.args.name.now c.in-Some.number c.in-Some.ensures)),
)

pub of_name-returns-clause-exposures : goal.of_name-returns-clause-exposures
of_name-returns-clause-exposures n c =
    let old = c.args.self.now in
    let x = c.args.name.now in
    let es = exprs c.args.args.now in
    let apart : is_variable (names old.scope) x es ≡ false =
    ap (λ z. is_variable (names z) x es) (sym c.as_slice.ensures) ∙ sym c.is_variable.ensures ∙ c.if-is_variable.false in
    elim c.match-number.branch [
      | of_name-in-Some+in_ok-push-2+in_ok-of_args w ↦
          (let mid = w.push-in-Some.new.self in
          let P : Exposures → Type 0 = λ z. Exposes (λ k scope. terms_of_arguments k scope (word_at (views mid.types.now) w.in-Some.number) 0 es) mid z in
          named_type old mid c.match-number.self x es w.in-Some.number w.in_ok-push-2.ensures.kept w.in_ok-push-2.ensures.scope w.in_ok-push-2.ensures.exposures
          (subst P (sym w.self-is) w.in_ok-of_args.ensures.exposures) apart w.in-Some.ensures)
      | of_name-in_default w ↦
          (let P : Exposures → Type 0 = λ z. Exposes (λ k scope. terms_of k scope (named x es)) old z in
          subst P (sym w.self-is) (named_no_type old x es apart w.in_default.ensures))
    ]

pub of_args-loop-place-preserved : goal.of_args-loop-place-preserved
of_args-loop-place-preserved n c =
    let first = c.args.self.now in
    let old = c.loop-place.self in
    let new = c.match-branch-2.self in
    let e = c.index-args-place.result in
    let x = word_at (views first.types.now) c.args.of in
    let kept = c.loop-place.invariant.kept in
    let scope = c.loop-place.invariant.scope in
    let Next : Exposures → Type 0 = λ z. record {
      kept : KeepsExposures first z;
      scope : z.scope ≡ first.scope;
      exposures : ExposuresOfArguments first z x (exprs c.args.args.now) (c.loop-place.place + 1) (exprs (drop (c.loop-place.place + 1) c.args.args.now));
    } in
    elim c.match-branch-2.branch [
      | of_args-in-Some+in_ok-of_arg w ↦
          (let number : Some w.in-Some.parameter ≡ parameter_at (width (views old.types.now)) c.loop-place.place (Some c.args.of) =
          sym w.in-Some.is ∙ c.in_ok-parameter.ensures in
          let done = w.in_ok-of_arg.ensures in
          let next : Next w.of_arg.new.self = record {
            kept = keeps_twice first old w.of_arg.new.self kept
                (done.kept (argument_below old.types first.types c.args.of c.loop-place.place w.in-Some.parameter kept.types c.requires number));
            scope = done.scope ∙ scope;
            exposures = args_more first old w.of_arg.new.self (exprs c.args.args.now) c.args.args.now c.args.of c.loop-place.place w.in-Some.parameter e
                c.loop-place-test.true c.index-args-place.is c.requires kept scope number done.exposures c.loop-place.invariant.exposures;
          } in
          subst Next (sym w.self-is) next)
      | of_args-in_default w ↦
          (let next : Next old = record {
            kept = kept;
            scope = scope;
            exposures = args_less first old (exprs c.args.args.now) c.args.args.now c.args.of c.loop-place.place e
                c.loop-place-test.true c.index-args-place.is c.requires kept (sym w.in_default.is ∙ c.in_ok-parameter.ensures) c.loop-place.invariant.exposures;
          } in
          subst Next (sym w.self-is) next)
    ]
