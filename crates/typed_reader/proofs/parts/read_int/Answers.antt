use Rattle.std.proofs.Common.{◌∙◌, ap}
use Rattle.hashmap_tree.specs.Adds.{slice_of}
use Rattle.plan_reading.specs.StopLaws.{stops_at}
use Rattle.spelling.specs.Places.{stuck}
use Rattle.spelling.specs.PlainReader.{read_row}
use Rattle.typed_reader.proofs.Rows.{int_number}
use Rattle.typed_reader.proofs.parts.read_int.Goals as goal

pub returns-in-Err-clause-gives : goal.returns-in-Err-clause-gives
returns-in-Err-clause-gives c =
    λ h. stops_at h c.stop_here.result (stuck h c.in-Err.cause) _ (c.stop_here.ensures h)
    (ap (λ z. read_row h z (slice_of c.args.s)) (int_number c.args.n c.if-n-gt128.false) ∙ c.in-Err.ensures h c.args.s.refs)
