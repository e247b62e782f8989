use Rattle.std.proofs.Common.{◌≡◌, ◌∙◌, ◌++◌, Some, None, sym, ap, map, option_map, length, arith}
use Rattle.tlb_syntax.specs.View.{expr}
use Rattle.kind_terms.specs.Params.{option_list, variable_of}
use Rattle.kind_declarations.specs.HeadingViews.{heading_by}
use Rattle.kind_declarations.proofs.Params.{cause_by, param_passes, param_stops, end_passes, end_stops, more_inputs}
use Rattle.kind_declarations.proofs.headings.judge_params.Goals as goal

pub returns-in-Some : goal.returns-in-Some
returns-in-Some c =
    let r = heading_by c.args.earlier c.args.constructor.now in
    let ps = c.args.constructor.now.params in
    let ks = option_map (λ k. k.now) c.fixed_by-fixed.result in
    let seen = map (λ n. n.now) c.loop-at.inputs in
    let some : Some c.in-Some.cause ≡ cause_by r ks c.loop-at.at seen c.param-item.result = cc in
    sym c.loop-at.invariant.passed
    ∙ param_stops r ps c.loop-at.at c.param-item.result ks seen c.in-Some.cause (omega (arith, ap length c.as_slice-param-items.ensures)) (cc) (cc) (cc) some

pub loop-at-preserved : goal.loop-at-preserved
loop-at-preserved c =
    let r = heading_by c.args.earlier c.args.constructor.now in
    let ps = c.args.constructor.now.params in
    let ks = option_map (λ k. k.now) c.fixed_by-fixed.result in
    let seen = map (λ n. n.now) c.loop-at.inputs in
    let none : None ≡ cause_by r ks c.loop-at.at seen c.param-item.result = cc in
    let known = more_inputs ps c.loop-at.at c.param-item.result (omega (arith, ap length c.as_slice-param-items.ensures)) (cc) in
    record {
      passed = sym (param_passes r ps c.loop-at.at c.param-item.result ks seen (omega (arith, ap length c.as_slice-param-items.ensures)) (cc) (cc) (cc) none) ∙ c.loop-at.invariant.passed;
      known =
          c.in_ok-add_variable-in-None.ensures
          ∙ ap (λ x. x ++ option_list (variable_of (expr c.param-item.result))) c.loop-at.invariant.known ∙ sym known;
    }

pub returns-then-lacks_params : goal.returns-then-lacks_params
returns-then-lacks_params c =
    let r = heading_by c.args.earlier c.args.constructor.now in
    sym c.loop-at.invariant.passed
    ∙ end_stops r c.args.constructor.now.params c.loop-at.at (omega (arith, ap length c.as_slice-param-items.ensures)) (cc)

pub returns : goal.returns
returns c =
    let r = heading_by c.args.earlier c.args.constructor.now in
    sym c.loop-at.invariant.passed
    ∙ end_passes r c.args.constructor.now.params c.loop-at.at (omega (arith, ap length c.as_slice-param-items.ensures)) (cc)
