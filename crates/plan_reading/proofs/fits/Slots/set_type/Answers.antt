use Rattle.std.proofs.Common.{ap, ◌∙◌}
use Rattle.closed_type.specs.View.{closed_type}
use Rattle.closed_type.specs.declared.tree.ClosedType.{ClosedType}
use Rattle.core_form.specs.Scope.{with_type}
use Rattle.plan_reading.specs.Slots.{slots_view}
use Rattle.plan_reading.proofs.Fitting.{type_set}
use Rattle.plan_reading.proofs.fits.Slots.set_type.Goals as goal

pub returns-in_ok-copy : goal.returns-in_ok-copy
returns-in_ok-copy c =
    let slots = c.args.self.now in
    type_set slots.numbers slots.types.items c.args.slot c.in_ok-copy.field-0
    ∙ ap (λ (t : ClosedType). with_type c.args.slot (closed_type t) (slots_view slots)) c.in_ok-copy.ensures
