use Rattle.std.proofs.Common.{rules, sym}
use Rattle.plan_reading.specs.StopLaws.{stops_at}
use Rattle.spelling.specs.Places.{stuck}
use Rattle.spelling.specs.declared.Cause.TheVariants.{Shape}
use Rattle.typed_value.specs.View.{value as value_view}
use Rattle.typed_value.specs.declared.value.Value.{the_lemmas}
use Rattle.typed_builder.proofs.Shown.{seen_stuck}
use Rattle.typed_builder.proofs.forms.whole_cell.Goals as goal

pub returns-then-is_some-clause-gives : goal.returns-then-is_some-clause-gives
returns-then-is_some-clause-gives c = λ schema R h q.
    stops_at h c.stop_here.result (stuck h Shape) _ (c.stop_here.ensures h)
    (seen_stuck c.args.mode schema R h q (value_view c.args.value.now) c.in-Raw.cell c.unseen.result
    (rw c.in-Raw.is (search (the_lemmas, rules))) c.unseen.ensures (cc))
