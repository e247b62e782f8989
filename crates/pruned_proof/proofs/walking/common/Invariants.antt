use Rattle.std.proofs.Common.{◌≡◌, ◌≤◌, ◌++◌, ◌∷◌, List, ℕ, length}
use Rattle.pruned_proof.proofs.walking.common.Given as goal

abbrev pub invariant-loop-i : goal.invariant-loop-i
invariant-loop-i l = (p x y : List ℕ) → l.a ≡ p ++ 0 ∷ x → l.b ≡ p ++ 1 ∷ y → l.i ≤ length p
