-- Bits that are put one after another.
use Rattle.std.proofs.Common.{◌≡◌, ℕ, zero, suc, ◌+◌, Bool, true, false, cond, nat_lt, slice_index, subst, ◌≤◌, List, [], ◌∷◌, ◌++◌, append_assoc, length, length-append, replicate, refl, sym, ap, ◌∙◌, arith}
use Rattle.std.proofs.lemmas.List.{append-nil, length-replicate}
use Rattle.bit_slice.specs.BitLists.{length-spelled}
use Rattle.bit_slice.specs.Bits.{AreBits, bit_length, bit_number, spelled}
use Rattle.cell_nodes.specs.Held.{Held}
use Rattle.hashmap_labels.specs.Labels.{IsForm, required_form}
use Rattle.hashmap_labels.specs.SpellingLaws.{has_spelling}
use Rattle.hashmap_labels.specs.declared.forms.LabelForm.{LabelForm}
use Rattle.hashmap_labels.specs.declared.forms.LabelForm.TheVariants.{Short, Long, Same}
use Rattle.hashmap_tree.specs.Written.{WritesLabel}

pub spelled-length : (n v : ℕ) → length (spelled n v) ≡ n
spelled-length n v = length-spelled n v

pub replicated-length : (n : ℕ) → length {A = ℕ} (replicate n 1) ≡ n
replicated-length n = length-replicate n 1

pub one_more : (w : List ℕ) (m : ℕ) → w ++ replicate (m + 1) 1 ≡ w ++ replicate m 1 ++ 1 ∷ []
one_more w m = ap (λ (l : List ℕ). w ++ l) (go m) ∙ sym (append_assoc w (replicate m 1) (1 ∷ []))
  where
    go : (m : ℕ) → replicate {A = ℕ} (m + 1) 1 ≡ replicate m 1 ++ 1 ∷ []
    go zero = refl
    go (suc m) = let e : suc m + 1 ≡ suc (m + 1) = omega arith in ap (λ (n : ℕ). replicate {A = ℕ} n 1) e ∙ ap (λ (l : List ℕ). 1 ∷ l) (go m)

pub zero_bit : spelled 1 0 ≡ 0 ∷ []
unfolding spelled
zero_bit = refl

pub one_bit : spelled 1 1 ≡ 1 ∷ []
unfolding spelled
one_bit = refl

pub long_bits : spelled 2 2 ≡ 1 ∷ (0 ∷ [])
unfolding spelled
long_bits = refl

pub same_bits : spelled 2 3 ≡ 1 ∷ (1 ∷ [])
unfolding spelled
same_bits = refl

pub any_bit : (b : Bool) → spelled 1 (bit_number b) ≡ bit_number b ∷ []
unfolding spelled
any_bit true = refl
any_bit false = refl

-- ---- the label of equal bits

empty-not_same : (n : ℕ) → required_form n [] ≡ Same → ⊥
empty-not_same n e = go (nat_lt (bit_length n) 0) e
  where
    go : (b : Bool) → cond b Long Short ≡ Same → ⊥
    go true e = cc
    go false e = cc

first-replicated : (n b : ℕ) (bits : List ℕ) → required_form n bits ≡ Same → bits ≡ replicate (length bits) b → slice_index bits 0 ≡ b
first-replicated n b [] f e = absurd (empty-not_same n f)
first-replicated n b (x ∷ bits) f e = ap (λ (l : List ℕ). slice_index l 0) e

pub same_written : (n width m : ℕ) (b : Bool) (bits : List ℕ) (old new : Held) → required_form n bits ≡ Same → length bits ≤ n → AreBits bits
    → bit_number b ≡ slice_index bits 0 → width ≡ bit_length n → m ≡ length bits
    → new.bits ≡ old.bits ++ 1 ∷ (1 ∷ (bit_number b ∷ spelled width m)) → new.refs ≡ old.refs → WritesLabel n bits old new
same_written n width m b bits old new f le are first wide len e r =
    let h = has_spelling n bits [] are le in
    let P : LabelForm → Type 0 = λ g. IsForm g (bit_length n) bits h.0 [] in
    let s = subst P (h.1.2 ∙ f) h.1.3 in
    let bit : bit_number s.0 ≡ bit_number b = sym (first-replicated n (bit_number s.0) bits f s.1) ∙ sym first in
    let label : h.0 ≡ 1 ∷ (1 ∷ (bit_number b ∷ spelled width m)) =
    s.2 ∙ ap (λ (l : List ℕ). 1 ∷ (1 ∷ (bit_number s.0 ∷ l))) (append-nil (spelled (bit_length n) (length bits)))
    ∙ (λ i. 1 ∷ (1 ∷ (bit i ∷ spelled ((sym wide) i) ((sym len) i)))) in
    (h.0, h.1, e ∙ ap (λ (l : List ℕ). old.bits ++ l) (sym label), r)

pub ruleset written = (append_assoc, length-append, spelled-length, replicated-length, one_more, zero_bit, one_bit, long_bits, same_bits, any_bit)
