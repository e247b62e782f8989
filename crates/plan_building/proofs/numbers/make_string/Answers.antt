use Rattle.plan_building.specs.StopsLaws.{stops_where}
use Rattle.plan_building.proofs.Numbering.{no_string, other_string}
use Rattle.spelling.specs.Goals.{row}
use Rattle.closed_type.specs.View.{closed_type}
use Rattle.std.proofs.Common.{◌∙◌, sym}
use Rattle.plan_building.specs.View.{grown}
use Rattle.plan_building.proofs.numbers.make_string.Goals as goal

pub returns-in-None : goal.returns-in-None
returns-in-None c = λ h.
    stops_where h c.stop_here.result _ _
    (no_string h (row (closed_type c.args.ty.now)) c.args.string (grown c.args.b.now) c.in-None.ensures)
    (c.stop_here.ensures h)

pub returns-then-width-len : goal.returns-then-width-len
returns-then-width-len c = λ h.
    stops_where h c.stop_here-then-width-len.result _ _
    (other_string h (row (closed_type c.args.ty.now)) c.in-Some.width c.args.string (grown c.args.b.now) c.in-Some.ensures
    (λ e. c.if-width-len.true (e ∙ sym c.len.ensures.value)))
    (c.stop_here-then-width-len.ensures h)
