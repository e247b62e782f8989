use Rattle.tlb_lexer.specs.Stretch.{is_in_run}
use Rattle.tlb_lexer.proofs.ListPrefix.{none_fails}
use Rattle.tlb_lexer.proofs.bytes.run_len.Goals as goal

pub returns-in-None-clause-exact : goal.returns-in-None-clause-exact
returns-in-None-clause-exact c = none_fails (is_in_run c.args.run) c.args.bytes.now _ c.run_end.ensures c.in-None.is
