use Rattle.command_laws.proofs.Build.{build-then-read}
use Rattle.command_laws.proofs.laws.build_then_read.Goals as goal

pub returns : goal.returns
returns c = build-then-read c.line_holds.ensures
