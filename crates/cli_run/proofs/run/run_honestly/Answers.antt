use Rattle.std.proofs.Common.{arith}
use Rattle.cli_run.proofs.Ran.{is-judged}
use Rattle.cli_run.proofs.run.run_honestly.Goals as goal

pub returns : goal.returns
returns g c = record {
  complete = λ calm quiet given.
      c.run.ensures.outcome (is-judged c.run.result (λ fault. omega (arith, (c.run.ensures.read_fault fault).1.rose, calm.same, calm.below))
      (λ fault. omega (arith, c.run.ensures.write_fault fault, quiet.same, quiet.below)) given);
}
