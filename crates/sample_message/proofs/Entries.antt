-- The parts of an entry.
use Rattle.std.proofs.Common.{◌≡◌, ◌∙◌, sym, append_assoc, ℕ, List, ◌++◌}

pub in-four : (a b c d : List ℕ) → a ++ (b ++ (c ++ d)) ≡ ((a ++ b) ++ c) ++ d
in-four a b c d = sym (append_assoc (a ++ b) c d ∙ append_assoc a b (c ++ d))
