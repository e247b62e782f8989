use Rattle.std.proofs.Common.{◌∙◌, ap}
use Rattle.tlb_edge.specs.declared.shelf.Failed.{Failed}
use Rattle.tlb_edge.specs.Left.{left_from}
use Rattle.tlb_edge.proofs.ReadLemmas.{reads_at}
use Rattle.tlb_edge.proofs.shelf.MemShelfShelf.read.Goals as goal

pub returns-clause-rest : goal.returns-clause-rest
returns-clause-rest c =
    reads_at Failed c.args.self.now.files.items c.args.self.now.place c.args.self.now.current c.left_of_entry.result.now c.args.buf.now c.fill-count.new.buf c.fill-count.result
    (c.left_of_entry.ensures ∙ ap (λ xs. left_from xs c.args.self.now.place c.args.self.now.current) c.deref-2.ensures.value) c.fill-count.auto.buf c.fill-count.ensures.count c.fill-count.ensures.prefix
