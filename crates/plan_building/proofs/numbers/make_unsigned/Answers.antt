use Rattle.std.proofs.Common.{◌^◌, ap, sym, ◌∙◌, false}
use Rattle.std.proofs.lemmas.Bool.{ltb-false}
use Rattle.building.specs.PlainBuilder.{make_natural}
use Rattle.plan_building.specs.StopsLaws.{stops_same, stops_where}
use Rattle.plan_building.specs.View.{grown}
use Rattle.plan_building.proofs.Numbering.{natural_high}
use Rattle.plan_building.proofs.numbers.make_unsigned.Goals as goal

pub returns-then-number : goal.returns-then-number
returns-then-number c = λ h.
    stops_same h c.refuse_negative.result _ _
    (ap (λ s. make_natural h c.args.width (2 ^ c.args.width) false s c.args.number.size (grown c.args.b.now)) c.if-number.true)
    (c.refuse_negative.ensures h c.args.width (2 ^ c.args.width) false (grown c.args.b.now))

pub returns : goal.returns
returns c = λ h.
    stops_where h c.stop_here.result _ _
    (natural_high h c.args.width (2 ^ c.args.width) false c.args.number.negative c.args.number.size (grown c.args.b.now)
    c.if-number.false (ltb-false c.args.number.size (2 ^ c.args.width) (sym c.fits.ensures ∙ c.if-fits.false)))
    (c.stop_here.ensures h)
