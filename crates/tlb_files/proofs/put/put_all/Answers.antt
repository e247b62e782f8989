use Rattle.std.proofs.Common.{◌+◌, ◌∙◌, arith, refl, length}
use Rattle.std.proofs.lemmas.Result.{err_from_is_err_and}
use Rattle.tlb_files.proofs.Counting.{RoseAtMost-once}
use Rattle.tlb_files.proofs.Moved.{Writes-part, WritesPrefix-piece}
use Rattle.tlb_files.proofs.Piecewise.{pieces-more, pieces-whole}
use Rattle.tlb_files.specs.Pieces.{pieces}
use Rattle.tlb_files.proofs.put.put_all.Goals as goal

pub returns-in_err-put-clause-err : goal.returns-in_err-put-clause-err
returns-in_err-put-clause-err g c =
    let p = err_from_is_err_and c.from_residual.result c.from_residual.ensures.1 in
    rw p.1 (record {
      writes = WritesPrefix-piece (g.K.Sink.written c.args.sink.now) (g.K.Sink.written c.loop-at.sink) (g.K.Sink.written c.put.new.self) c.args.text.now _ c.loop-at.at c.min.result refl (omega arith) c.loop-at.invariant.put c.in_err-put.ensures.err;
      puts = RoseAtMost-once (pieces c.loop-at.at) (pieces (length c.args.text.now)) _ _ _ c.loop-at.invariant.puts c.put.ensures.puts
          (pieces-more c.loop-at.at (length c.args.text.now) (c.loop-at.invariant.whole (omega arith)) (omega arith));
    })

pub loop-at-preserved : goal.loop-at-preserved
loop-at-preserved g c =
    let whole = c.loop-at.invariant.whole (omega arith) in
    record {
      within = omega arith;
      put = Writes-part _ _ _ c.args.text.now c.loop-at.at c.min.result c.loop-at.invariant.put c.in_ok-put.ensures.ok;
      puts = RoseAtMost-once (pieces c.loop-at.at) (pieces (c.loop-at.at + c.min.result)) _ _ _ c.loop-at.invariant.puts c.put.ensures.puts
          (pieces-more c.loop-at.at (c.loop-at.at + c.min.result) whole (omega arith));
      whole = λ less. pieces-whole c.loop-at.at c.min.result whole (omega (arith, less));
      calm = c.in_ok-put.ensures.cause.kept ∙ c.loop-at.invariant.calm;
    }
