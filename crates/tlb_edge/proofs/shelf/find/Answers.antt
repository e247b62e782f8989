use Rattle.std.proofs.Common.{◌∙◌, arith}
use Rattle.tlb_edge.proofs.FileLemmas.{file_at-found, file_at-passed}
use Rattle.tlb_edge.proofs.shelf.find.Goals as goal

pub returns-then-eq : goal.returns-then-eq
returns-then-eq c = record {
  found = c.loop-i.invariant ∙ file_at-found c.args.files.now c.args.name.now c.loop-i.i c.index-files-i.result (omega arith) c.index-files-i.is (cc);
  within = omega arith;
}

pub loop-i-preserved : goal.loop-i-preserved
loop-i-preserved c = c.loop-i.invariant ∙ file_at-passed c.args.files.now c.args.name.now c.loop-i.i c.index-files-i.result (omega arith) c.index-files-i.is (cc)
