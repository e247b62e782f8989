use Rattle.std.proofs.Common.{◌≡◌, false, rules}
use Rattle.tlb_guard.specs.Facts.{holds}
use Rattle.tlb_guard.proofs.Searches.{push_search}
use Rattle.tlb_guard.proofs.rules.add.Goals as goal

pub returns-in_ok-push-clause-search : goal.returns-in_ok-push-clause-search
returns-in_ok-push-clause-search c =
    let unfound : holds c.args.state.now.found c.args.fact ≡ false = search rules in
    let there = push_search c.args.state.now.found c.args.state.now.queue c.args.fact c.requires.below unfound c.requires.search in
    rw c.set.ensures (rw c.in_ok-push.ensures.ok there)
