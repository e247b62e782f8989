use Rattle.std.proofs.Common.{length}
use Rattle.path_knowledge.proofs.naming.+names_absence.Given as goal

abbrev pub decreases-names_absence : goal.decreases-names_absence
decreases-names_absence l = length l.steps.now
