use Rattle.declared_maps.specs.Acceptance.{no_cause}
use Rattle.declared_maps.specs.Lines.{lines}
use Rattle.declared_maps.proofs.Limits.{lines_within}
use Rattle.declared_maps.proofs.laws.lines_are_accepted.Goals as goal

pub returns : goal.returns
returns c = (c.accepted_without_cause.ensures lines lines_within).1 no_cause
