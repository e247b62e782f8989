-- One step of the chain.
use Rattle.std.proofs.Common.{◌≡◌, ℕ, ◌+◌, List, [], ◌∷◌, length, false, ap, ◌∙◌, add-one, suc, sym, refl}
use Rattle.sha2.specs.Sha256.{sha256}
use Rattle.cell_hash.specs.declared.Content.TheVariants.{Data}
use Rattle.cell_hash.specs.Representation.{descriptor, representation}
use Rattle.hash_bench.specs.Chain.{chained, child_with}

-- the hash of the representation that a step makes
abbrev pub step_hash : ℕ × ℕ → List ℕ → List ℕ → List ℕ
step_hash d part hash = sha256 (representation d (Data part) (child_with hash ∷ child_with hash ∷ []))

chained-suc : (bits : List ℕ) (n : ℕ) → chained bits (suc n) ≡ step_hash (descriptor 2 false 0 (length bits)) bits (chained bits n)
unfolding chained
chained-suc bits n = refl

pub step_of : (bits : List ℕ) (len : ℕ) (d : ℕ × ℕ) (part hash r : List ℕ) (n : ℕ)
    → len ≡ length bits → d ≡ descriptor 2 false 0 len → part ≡ bits → hash ≡ chained bits n
    → r ≡ step_hash d part hash → r ≡ chained bits (n + 1)
step_of bits len d part hash r n of_len of_d of_part of_hash e =
    let next : r ≡ chained bits (suc n) =
    e
    ∙ ap (λ (x : ℕ × ℕ). step_hash x part hash) (of_d ∙ ap (λ (x : ℕ). descriptor 2 false 0 x) of_len)
    ∙ ap (λ (x : List ℕ). step_hash (descriptor 2 false 0 (length bits)) x hash) of_part
    ∙ ap (λ (x : List ℕ). step_hash (descriptor 2 false 0 (length bits)) bits x) of_hash
    ∙ sym (chained-suc bits n) in
    rw add-one next
