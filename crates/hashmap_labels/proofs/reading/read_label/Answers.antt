use Rattle.hashmap_labels.proofs.Answered.{gives_exactly, refuses_exactly}
use Rattle.hashmap_labels.specs.ReadingLaws.{short-exactly, long-exactly, form-exactly}
use Rattle.hashmap_labels.specs.declared.forms.Forms.TheVariants.{Required}
use Rattle.hashmap_labels.specs.declared.labels.LabelError.TheVariants as why
use Rattle.hashmap_labels.proofs.reading.read_label.Goals as goal

pub returns-clause-label : goal.returns-clause-label
returns-clause-label c = gives_exactly Required c.args.n c.args.s c.read_in.result c.read_in.ensures.read

pub returns-clause-short : goal.returns-clause-short
returns-clause-short c = refuses_exactly Required c.args.n c.args.s c.read_in.result c.read_in.ensures.read why.LabelShort _ (short-exactly Required c.args.n c.args.s)

pub returns-clause-long : goal.returns-clause-long
returns-clause-long c = refuses_exactly Required c.args.n c.args.s c.read_in.result c.read_in.ensures.read why.LabelLong _ (long-exactly Required c.args.n c.args.s)

pub returns-clause-form : goal.returns-clause-form
returns-clause-form c = refuses_exactly Required c.args.n c.args.s c.read_in.result c.read_in.ensures.read why.LabelForm _ (form-exactly c.args.n c.args.s)
