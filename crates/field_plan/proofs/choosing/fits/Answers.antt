use Rattle.std.proofs.Common.{◌∙◌, ◌&&◌, ◌<◌, ◌≤◌, ◌+◌, Some, ap, arith, drop, length, map, sym}
use Rattle.std.proofs.lemmas.Option.{slice_get-get_or}
use Rattle.closed_type.specs.View.{closed_arg}
use Rattle.flat_form.specs.Stands.{input_of}
use Rattle.field_plan.proofs.Fitting.{all_meet, fit_meets, meets_end, meets_next, small_next, small_whole, unequal}
use Rattle.field_plan.proofs.choosing.fits.Goals as goal

pub returns-then-inputs-args-clause-value : goal.returns-then-inputs-args-clause-value
returns-then-inputs-args-clause-value c = λ scope.
    sym (fit_meets (map input_of c.args.inputs.now) (map closed_arg c.args.args.now) scope
    ∙ unequal c.args.inputs.now c.args.args.now c.if-inputs-args.true)

pub returns-then-not-meets-clause-value : goal.returns-then-not-meets-clause-value
returns-then-not-meets-clause-value c = λ scope.
    let inputs = c.args.inputs.now in
    let given = c.args.args.now in
    let k = c.loop-place.place in
    let y = c.index-args-place.result in
    let within : k < length given = omega (arith, c.loop-place-test.true, c.if-inputs-args.false) in
    let there = slice_get-get_or given k y within ∙ ap Some (sym c.index-args-place.is) in
    sym (fit_meets (map input_of inputs) (map closed_arg given) scope ∙ c.loop-place.invariant.rest
    ∙ meets_next inputs given k _ y (slice_get-get_or inputs k _ c.loop-place-test.true) there
    ∙ ap (λ b. b && all_meet (map input_of (drop (k + 1) inputs)) (map closed_arg (drop (k + 1) given)))
    (sym c.meets.ensures.value ∙ c.if-not-meets.true))

pub loop-place-preserved : goal.loop-place-preserved
loop-place-preserved c =
    let inputs = c.args.inputs.now in
    let given = c.args.args.now in
    let k = c.loop-place.place in
    let y = c.index-args-place.result in
    let within : k < length given = omega (arith, c.loop-place-test.true, c.if-inputs-args.false) in
    let there = slice_get-get_or given k y within ∙ ap Some (sym c.index-args-place.is) in
    record {
      rest =
          c.loop-place.invariant.rest ∙ meets_next inputs given k _ y (slice_get-get_or inputs k _ c.loop-place-test.true) there
          ∙ ap (λ b. b && all_meet (map input_of (drop (k + 1) inputs)) (map closed_arg (drop (k + 1) given)))
          (sym c.meets.ensures.value ∙ c.if-not-meets.false);
      small = small_next given k y there c.loop-place.invariant.small (c.meets.ensures.small c.if-not-meets.false);
    }

pub returns-clause-value : goal.returns-clause-value
returns-clause-value c = λ scope.
    let inputs = c.args.inputs.now in
    let given = c.args.args.now in
    let k = c.loop-place.place in
    let all : length given ≤ k = omega arith in
    sym (fit_meets (map input_of inputs) (map closed_arg given) scope ∙ c.loop-place.invariant.rest
    ∙ meets_end inputs given k c.loop-place-test.false all)

pub returns-clause-small : goal.returns-clause-small
returns-clause-small c = λ met.
    let given = c.args.args.now in
    let k = c.loop-place.place in
    let all : length given ≤ k = omega arith in
    small_whole given k all c.loop-place.invariant.small
