use Rattle.cli_stages.proofs.Layers.{Schemas}
use Rattle.cli_stages.proofs.Whole.{from-stage, to-stage}
use Rattle.cli_stages.proofs.laws.gives_accepted.Goals as goal

pub returns : goal.returns
returns c =
    let schemas : Schemas = record {
      within = c.written_within_limits.ensures;
      stays_within = c.kept_stays_within.ensures;
      stays_kinded = c.kinded_stays.ensures;
      passed_over = c.passed_over.ensures;
      accepted_or_refused = c.accepted_or_refused.ensures;
      has_no_refusal = c.accepted_has_no_refusal.ensures;
    } in
    λ text s. (from-stage schemas text s, to-stage c.accepted_stays.ensures text s)
