use Rattle.std.proofs.Common.{ap}
use Rattle.hashmap_tree.specs.Dict.{forms_of}
use Rattle.hashmap_tree.proofs.LabelsRead.{reads_required, reads_every}
use Rattle.hashmap_tree.proofs.edges.label_in.Goals as goal

pub returns-in-Whole-clause-read : goal.returns-in-Whole-clause-read
returns-in-Whole-clause-read c =
    reads_required (forms_of c.args.mode) c.args.n c.args.bits.now c.again.result c.read_label.result (ap forms_of c.in-Whole.is) c.again.ensures c.read_label.ensures.label c.read_label.ensures.short c.read_label.ensures.long c.read_label.ensures.form

pub returns-in-Partial-clause-read : goal.returns-in-Partial-clause-read
returns-in-Partial-clause-read c =
    reads_required (forms_of c.args.mode) c.args.n c.args.bits.now c.again-in-Partial.result c.read_label-in-Partial.result (ap forms_of c.in-Partial.is) c.again-in-Partial.ensures c.read_label-in-Partial.ensures.label c.read_label-in-Partial.ensures.short c.read_label-in-Partial.ensures.long c.read_label-in-Partial.ensures.form

pub returns-in-Lax-clause-read : goal.returns-in-Lax-clause-read
returns-in-Lax-clause-read c =
    reads_every (forms_of c.args.mode) c.args.n c.args.bits.now c.again-in-Lax.result c.read_label_any.result (ap forms_of c.in-Lax.is) c.again-in-Lax.ensures c.read_label_any.ensures.label c.read_label_any.ensures.short c.read_label_any.ensures.long c.read_label_any.ensures.form
