use Rattle.std.proofs.Common.{arith}
use Rattle.cli_run.proofs.Ran.{is-judged}
use Rattle.cli_run.proofs.run.run_surely.Goals as goal

pub returns-clause-complete : goal.returns-clause-complete
returns-clause-complete g c calm given =
    c.run.ensures.outcome (is-judged c.run.result (λ fault. omega (arith, (c.run.ensures.read_fault fault).1.rose))
    (λ fault. omega (arith, c.run.ensures.write_fault fault, calm.same, calm.below)) given)
