use Rattle.std.proofs.Common.{◌∙◌, ap, sym}
use Rattle.closed_type.specs.View.{closed_arg}
use Rattle.core_form.specs.Core.{number}
use Rattle.flat_form.specs.Stands.{input_of}
use Rattle.field_plan.specs.Choosing.{input_meets}
use Rattle.field_plan.proofs.Fitting.{pattern_meets, seen_number}
use Rattle.field_plan.proofs.choosing.meets.Goals as goal

pub returns-in-Nat-Nat-clause-value : goal.returns-in-Nat-Nat-clause-value
returns-in-Nat-Nat-clause-value c =
    c.is_some.ensures
    ∙ pattern_meets c.in-Nat-Nat.pattern c.in-Nat-Nat.number c.pattern_fit.result c.pattern_fit.ensures
    ∙ ap (input_meets (number c.in-Nat-Nat.pattern)) (sym (ap closed_arg c.in-Nat-Nat.is-1 ∙ seen_number c.in-Nat-Nat.number))
    ∙ ap (λ z. input_meets (input_of z) (closed_arg c.args.arg.now)) (sym c.in-Nat-Nat.is-0)
