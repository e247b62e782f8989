use Rattle.std.proofs.Common.{length, ap, ◌∙◌, arith}
use Rattle.tlb_guard.specs.Facts.{holds}
use Rattle.tlb_guard.proofs.RoundTrips.{searched, search_kept}
use Rattle.tlb_guard.proofs.edges.is_on_cycle.Goals as goal

pub returns-clause-searches : goal.returns-clause-searches
returns-clause-searches c = λ edges is old.
    let end = c.args.edge.now.from in
    let found = c.in_ok-reaching.reaching in
    search_kept edges c.args.searches.now end found (omega (arith, c.requires.edge.0, c.requires.size))
    (searched edges c.args.rules.now end (length c.args.users.now) found is c.in_ok-reaching.ensures) old

pub returns-clause-found : goal.returns-clause-found
returns-clause-found c = λ edges is old.
    let to = c.args.edge.now.to in
    c.is_found-found.ensures ∙ ap (λ z. holds z to) c.as_slice-2.ensures
    ∙ searched edges c.args.rules.now c.args.edge.now.from (length c.args.users.now) c.in_ok-reaching.reaching is c.in_ok-reaching.ensures to
