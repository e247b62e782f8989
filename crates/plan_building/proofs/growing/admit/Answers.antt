use Rattle.std.proofs.Common.{sym, ◌∙◌}
use Rattle.building.specs.PlainBuilder.{put}
use Rattle.plan_building.specs.StopsLaws.{stops_where}
use Rattle.plan_building.specs.View.{grown}
use Rattle.plan_building.proofs.Laying.{put_deep, put_full, put_shut}
use Rattle.plan_building.proofs.growing.admit.Goals as goal

pub returns-then-is_shut-clause-put : goal.returns-then-is_shut-clause-put
returns-then-is_shut-clause-put c = λ h x last e f.
    stops_where h c.stop_here.result _ (put h x c.args.deep last (grown c.args.b.now))
    (put_shut h x c.args.deep last (grown c.args.b.now) c.args.bits c.args.refs e f (sym c.is_shut.ensures ∙ c.if-is_shut.true))
    (c.stop_here.ensures h)

pub returns-then-is_over-clause-put : goal.returns-then-is_over-clause-put
returns-then-is_over-clause-put c = λ h x last e f.
    stops_where h c.stop_here-then-is_over.result _ (put h x c.args.deep last (grown c.args.b.now))
    (put_full h x c.args.deep last (grown c.args.b.now) c.args.bits c.args.refs e f
    (sym c.is_shut.ensures ∙ c.if-is_shut.false) (sym c.is_over.ensures ∙ c.if-is_over.true))
    (c.stop_here-then-is_over.ensures h)

pub returns-then-deep-clause-put : goal.returns-then-deep-clause-put
returns-then-deep-clause-put c = λ h x last e f.
    stops_where h c.stop_here-then-deep.result _ (put h x c.args.deep last (grown c.args.b.now))
    (put_deep h x c.args.deep last (grown c.args.b.now) c.args.bits c.args.refs e f
    (sym c.is_shut.ensures ∙ c.if-is_shut.false) (sym c.is_over.ensures ∙ c.if-is_over.false) c.if-deep.true)
    (c.stop_here-then-deep.ensures h)
