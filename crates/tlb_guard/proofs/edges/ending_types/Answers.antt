use Rattle.std.proofs.Common.{◌≡◌, ℕ, [], List, get_or, sym, subst}
use Rattle.std.specs.Prelude.{All}
use Rattle.std.proofs.lemmas.List.{get_or_default}
use Rattle.std.proofs.lemmas.Result.{IfOk-weaker}
use Rattle.tlb_guard.specs.declared.rules.Rule.{Rule}
use Rattle.tlb_guard.specs.Facts.{IsLeast}
use Rattle.tlb_guard.specs.Users.{users_at}
use Rattle.tlb_guard.specs.Edges.{AreOffCycles, AreTargets}
use Rattle.tlb_guard.proofs.RoundTrips.{off_cycle}
use Rattle.tlb_guard.proofs.edges.ending_types.Goals as goal

pub returns : goal.returns
returns c =
    let edges = c.args.edges.now in
    let targets = c.deref-targets-items.result.now in
    let A : List (List ℕ) → Type 0 = λ z. AreTargets z edges in
    let are : A targets = subst A (sym c.deref-targets-items.ensures.value) c.in_ok-targets.ensures.targets in
    let P : List Rule → Type 0 = All (λ (r : Rule). r.body ≡ users_at targets r.head) in
    let bodies : P c.as_slice-2.result.now = subst P (sym c.as_slice-2.ensures) c.loop-head.invariant.bodies in
    IfOk-weaker c.least.result (IsLeast c.as_slice-2.result.now [] c.args.count) (AreOffCycles edges)
    (λ found least k d lt trip.
    off_cycle edges targets are (get_or edges k d) k lt (get_or_default edges k (get_or edges k d) d lt) trip
    c.as_slice-2.result.now c.args.count found bodies least)
    c.least.ensures
