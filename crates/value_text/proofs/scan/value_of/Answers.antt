use Rattle.std.proofs.Common.{◌≡◌, ◌≤◌, ◌+◌, ◌*◌, ◌-◌, ◌^◌, ℕ, ap, sym, ◌∙◌, arith, get_or, take}
use Rattle.std.specs.Str.Parse.{digits_value}
use Rattle.value_text.specs.DecimalsLaws.{digit_bounds_at, value_more, value_most}
use Rattle.value_text.proofs.scan.value_of.Goals as goal

pub with_digit-requires-clause-low : goal.with_digit-requires-clause-low
with_digit-requires-clause-low c = (digit_bounds_at c.args.digits.now c.digits.digit-index (omega arith) c.requires).0

pub with_digit-requires-clause-high : goal.with_digit-requires-clause-high
with_digit-requires-clause-high c = (digit_bounds_at c.args.digits.now c.digits.digit-index (omega arith) c.requires).1

pub returns-in_default : goal.returns-in_default
returns-in_default c =
    let ds = c.args.digits.now in
    let i = c.digits.digit-index in
    let more : digits_value 10 (take (i + 1) ds) ≡ digits_value 10 (take i ds) * 10 + (get_or ds i 0 - 48) = value_more ds i (omega arith) c.requires in
    let most : digits_value 10 (take (i + 1) ds) ≤ digits_value 10 ds = value_most ds (i + 1) in
    let same : c.digits.value ≡ digits_value 10 (take i ds) = c.digits.invariant.0 in
    let large : 2 ^ 128 ≤ c.digits.value * 10 + (get_or ds i 0 - 48) = c.in_default.ensures in
    omega arith

pub digits-preserved : goal.digits-preserved
digits-preserved c =
    let ds = c.args.digits.now in
    let i = c.digits.digit-index in (
      c.in-Some.ensures.0 ∙ ap (λ (v : ℕ). v * 10 + (get_or ds i 0 - 48)) c.digits.invariant.0 ∙ sym (value_more ds i (omega arith) c.requires),
      c.in-Some.ensures.1,
    )
