use Rattle.tag_ambiguity.proofs.Patterns.{excluded}
use Rattle.tag_ambiguity.proofs.inputs.verdict.Goals as goal

pub returns-then-patterns_exclude : goal.returns-then-patterns_exclude
returns-then-patterns_exclude c =
    let both = c.in-Number-Number in
    excluded both.p both.q c.patterns_exclude.result c.args.p.now c.args.q.now c.patterns_exclude.ensures c.if-patterns_exclude.true both.is-0 both.is-1
