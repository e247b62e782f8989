use Rattle.std.proofs.Common.{ap}
use Rattle.value_grammar.specs.Steps.{Refusal}
use Rattle.value_grammar.proofs.Determined.{one_stop}
use Rattle.value_grammar.proofs.Stopped.{refused_stops}
use Rattle.value_grammar.proofs.laws.at_most_one_refusal.Goals as goal

pub returns : goal.returns
returns c = λ file cause other byte further f g.
    let e = one_stop file cause other byte further (refused_stops file cause byte f) (refused_stops file other further g) in
    (ap (λ (r : Refusal). r.0) e, ap (λ (r : Refusal). r.1) e)
