use Rattle.std.proofs.Common.{◌≡◌, ℕ, ◌<◌, [], ◌∷◌, ◌++◌, length, get_or, set, ap, ◌∙◌, arith, below_more, subst}
use Rattle.std.proofs.lemmas.List.{get_or_default, length-set}
use Rattle.tlb_guard.specs.declared.edges.Edge.{Edge}
use Rattle.tlb_guard.specs.Users.{users_at, HasUser}
use Rattle.tlb_guard.proofs.RuleUsers.{few_below, push_added, push_kept, push_below}
use Rattle.tlb_guard.proofs.edges.targets_of.Goals as goal

pub loop-edge-init : goal.loop-edge-init
loop-edge-init c = record {
  size = c.in_ok-targets.ensures.0;
  below = few_below c.args.count c.in_ok-targets.targets.items c.in_ok-targets.ensures.1;
  targets = λ k d lt. absurd (none k lt);
}
  where
    none : (k : ℕ) → k < 0 → ⊥
    none k lt = omega (arith, lt)

pub loop-edge-preserved : goal.loop-edge-preserved
loop-edge-preserved c =
    let targets = c.loop-edge.targets.items in
    let edges = c.args.edges.now in
    let i = c.loop-edge.edge-index in
    let d : Edge = record { from = 0; to = 0; at = record { constructor = 0; item = 0 } } in
    let edge = get_or edges i d in
    let lt : i < length edges = omega arith in
    let size = c.loop-edge.invariant.size in
    let inside = c.requires i d lt in
    let below : edge.from < length targets = omega (arith, size, inside.0) in
    let q = c.push.new.self in
    let is : q ≡ users_at targets edge.from ++ edge.to ∷ [] =
    c.in_ok-push.ensures.ok
    ∙ ap (λ z. z ++ edge.to ∷ []) (c.index_mut.ensures.value ∙ get_or_default targets edge.from c.index_mut.result.now [] below) in
    let P : ℕ → Type 0 = λ k. (e : Edge) → HasUser (set targets edge.from q) (get_or edges k e).from (get_or edges k e).to in
    let more = below_more P i
    (λ k lt e. push_kept targets edge.from edge.to below q is (get_or edges k e).from (get_or edges k e).to (c.loop-edge.invariant.targets k e lt))
    (let E : Edge → Type 0 = λ z. HasUser (set targets edge.from q) z.from z.to in
    λ e. subst E (get_or_default edges i d e lt) (push_added targets edge.from edge.to below q is)) in
    record {
      size = length-set targets edge.from q ∙ size;
      below = push_below targets edge.from edge.to below q is c.args.count inside.1 c.loop-edge.invariant.below;
      targets = λ k e lt. more k lt e;
    }
