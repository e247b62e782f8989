use Rattle.std.proofs.Common.{[]}
use Rattle.std.specs.Prelude.{Ok}
use Rattle.kind_declarations.proofs.Verdicts.{passed_here, refused_here, verdict_none}
use Rattle.kind_declarations.proofs.scope.Scope.judge_use.Goals as goal

pub returns-in-None : goal.returns-in-None
returns-in-None c = passed_here _ _ [] (Ok _) c.in-None.ensures verdict_none

pub returns-in-Some : goal.returns-in-Some
returns-in-Some c = refused_here _ _ [] _ c.in-Some.ensures
