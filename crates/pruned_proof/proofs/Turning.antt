-- Where pairs turn, by halves.
use Rattle.std.proofs.Common.{◌≡◌, ℕ, zero, suc, ◌+◌, ◌<◌, ◌≤◌, ◌⊎◌, inl, inr, Bool, true, false, List, [], ◌∷◌, Option, Some, None}
use Rattle.std.proofs.Common.{refl, sym, ap, ◌∙◌, arith, length, map, slice_get, get_or, nat_le, nat_eq, cond}
use mathlib.Core.Bool.{beq}
use Rattle.std.specs.Option.{option_eq}
use Rattle.std.specs.Prelude.{slice_index}
use Rattle.std.proofs.lemmas.Bool.{lt-leb}
use Rattle.std.proofs.lemmas.Option.{same_Some, slice_get_within}
use Rattle.bit_slice.specs.Bits.{bit_value}
use Rattle.typed_value.specs.declared.value.Value.{Value}
use Rattle.pruned_proof.specs.Walks.{HasBit}

-- the place is between these
pub record Aims (low high k : ℕ) : Type 0 where
  pub from : low ≤ k
  pub to : k ≤ high

-- the bit at a place
index-there : (key : List ℕ) (place bit : ℕ) → slice_get key place ≡ Some bit → slice_index key place ≡ bit
index-there [] place bit at = absurd (cc)
index-there (b ∷ key) zero bit at = same_Some b bit at
index-there (b ∷ key) (suc place) bit at = index-there key place bit at

value-there : (key : List ℕ) (place bit : ℕ) → slice_get key place ≡ Some bit → bit_value place key ≡ Some (nat_eq bit 1)
value-there key place bit at =
    let long : nat_le (length key) place ≡ false = lt-leb (length key) place (slice_get_within key place bit at) in
    ap (λ (b : Bool). cond b None (Some (nat_eq (slice_index key place) 1))) long
    ∙ ap (λ (n : ℕ). Some (nat_eq n 1)) (index-there key place bit at)

key-there : (pairs : List (List ℕ × Value)) (d : List ℕ × Value) (i : ℕ) → i < length pairs
    → slice_get (map (λ p. p.0) pairs) i ≡ Some (get_or pairs i d).0
key-there [] d i lt = absurd (omega (arith, lt))
key-there (x ∷ xs) d zero lt = refl
key-there (x ∷ xs) d (suc i) lt = key-there xs d i (omega (arith, lt))

below-or : (k i : ℕ) → (i < k) ⊎ (k ≤ i)
below-or zero i = inr (omega arith)
below-or (suc k) zero = inl (omega arith)
below-or (suc k) (suc i) = go (below-or k i)
  where
    go : (i < k) ⊎ (k ≤ i) → (suc i < suc k) ⊎ (suc k ≤ suc i)
    go (inl lt) = inl (omega (arith, lt))
    go (inr le) = inr (omega (arith, le))

module _ (pairs : List (List ℕ × Value)) (place k i : ℕ) (d : List ℕ × Value) (within : i < length pairs)
    (zeros : (j : ℕ) → j < k → HasBit place 0 j (map (λ p. p.0) pairs))
    (ones : (j : ℕ) → k ≤ j → j < length pairs → HasBit place 1 j (map (λ p. p.0) pairs)) where
  pub turned_one : bit_value place (get_or pairs i d).0 ≡ Some true → k ≤ i
  turned_one is = go (below-or k i)
    where
      go : (i < k) ⊎ (k ≤ i) → k ≤ i
      go (inr le) = le
      go (inl lt) =
          let key = (get_or pairs i d).0 in
          let zero_there = value-there key place 0 (zeros i lt key (key-there pairs d i within)) in
          let f = sym is ∙ zero_there in
          absurd (cc)

  pub turned_zero : (bit_value place (get_or pairs i d).0 ≡ Some true → ⊥) → i < k
  turned_zero is = go (below-or k i)
    where
      go : (i < k) ⊎ (k ≤ i) → i < k
      go (inl lt) = lt
      go (inr le) =
          let key = (get_or pairs i d).0 in
          absurd (is (value-there key place 1 (ones i le within key (key-there pairs d i within))))

-- the halves
pub halved_before : (pairs : List (List ℕ × Value)) (place k low middle high : ℕ) (x : List ℕ × Value) (key : List ℕ)
    → key ≡ (get_or pairs middle x).0 → bit_value place key ≡ Some true → middle < length pairs
    → ((j : ℕ) → j < k → HasBit place 0 j (map (λ p. p.0) pairs))
    → ((j : ℕ) → k ≤ j → j < length pairs → HasBit place 1 j (map (λ p. p.0) pairs))
    → Aims low high k → Aims low middle k
halved_before pairs place k low middle high x key same one within zeros ones a =
    let at = ap (bit_value place) (sym same) ∙ one in
    record { from = a.from; to = turned_one pairs place k middle x within zeros ones at }

pub halved_after : (pairs : List (List ℕ × Value)) (place k low middle high : ℕ) (x : List ℕ × Value) (key : List ℕ)
    → key ≡ (get_or pairs middle x).0 → (bit_value place key ≡ Some true → ⊥) → middle < length pairs
    → ((j : ℕ) → j < k → HasBit place 0 j (map (λ p. p.0) pairs))
    → ((j : ℕ) → k ≤ j → j < length pairs → HasBit place 1 j (map (λ p. p.0) pairs))
    → Aims low high k → Aims (middle + 1) high k
halved_after pairs place k low middle high x key same other within zeros ones a =
    let not_one : bit_value place (get_or pairs middle x).0 ≡ Some true → ⊥ =
    λ at. other (ap (bit_value place) same ∙ at) in
    let less = turned_zero pairs place k middle x within zeros ones not_one in
    record { from = omega (arith, less); to = a.to }

-- the test of a bit
pub one_there : (o : Option Bool) (r : Bool) → r ≡ option_eq beq o (Some true) → r ≡ true → o ≡ Some true
one_there None r is e = let f : false ≡ true = sym is ∙ e in absurd (cc)
one_there (Some true) r is e = refl
one_there (Some false) r is e = let f : false ≡ true = sym is ∙ e in absurd (cc)

pub none_there : (o : Option Bool) (r : Bool) → r ≡ option_eq beq o (Some true) → r ≡ false → o ≡ Some true → ⊥
none_there o r is e there =
    let f : false ≡ true = sym e ∙ is ∙ ap (λ (z : Option Bool). option_eq beq z (Some true)) there in absurd (cc)
