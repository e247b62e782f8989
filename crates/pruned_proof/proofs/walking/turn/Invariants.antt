use Rattle.std.proofs.Common.{◌-◌, ◌<◌, ◌≤◌, ℕ, length, map}
use Rattle.pruned_proof.specs.Walks.{HasBit}
use Rattle.pruned_proof.proofs.Turning.{Aims}
use Rattle.pruned_proof.proofs.walking.turn.Given as goal

abbrev pub invariant-halves : goal.invariant-halves
invariant-halves l = record {
  order : l.low ≤ l.high;
  within : l.high ≤ length l.pairs;
  aims : (k : ℕ) → k ≤ length l.pairs → ((i : ℕ) → i < k → HasBit l.place 0 i (map (λ p. p.0) l.pairs))
      → ((i : ℕ) → k ≤ i → i < length l.pairs → HasBit l.place 1 i (map (λ p. p.0) l.pairs)) → Aims l.low l.high k;
}

abbrev pub decreases-halves : goal.decreases-halves
decreases-halves l = l.high - l.low
