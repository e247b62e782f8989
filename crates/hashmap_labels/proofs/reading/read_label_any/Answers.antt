use Rattle.hashmap_labels.proofs.Answered.{gives_exactly, refuses_exactly}
use Rattle.hashmap_labels.specs.ReadingLaws.{short-exactly, long-exactly}
use Rattle.hashmap_labels.specs.declared.forms.Forms.TheVariants.{Every}
use Rattle.hashmap_labels.specs.declared.labels.LabelError.TheVariants as why
use Rattle.hashmap_labels.proofs.reading.read_label_any.Goals as goal

pub returns-clause-label : goal.returns-clause-label
returns-clause-label c = gives_exactly Every c.args.n c.args.s c.read_in.result c.read_in.ensures.read

pub returns-clause-short : goal.returns-clause-short
returns-clause-short c = refuses_exactly Every c.args.n c.args.s c.read_in.result c.read_in.ensures.read why.LabelShort _ (short-exactly Every c.args.n c.args.s)

pub returns-clause-long : goal.returns-clause-long
returns-clause-long c = refuses_exactly Every c.args.n c.args.s c.read_in.result c.read_in.ensures.read why.LabelLong _ (long-exactly Every c.args.n c.args.s)
