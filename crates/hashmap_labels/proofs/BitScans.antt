-- Steps along bits.
use Rattle.std.proofs.Common.{◌≡◌, ℕ, zero, suc, ◌+◌, ◌-◌, ◌^◌, ◌<◌, ◌≤◌, Bool, true, false, cond, List, [], ◌∷◌, ◌++◌, append_assoc, length, take, drop, replicate, subst, nat_lt, slice_index, Option, Some, None, refl, sym, ap, ◌∙◌, arith}
use Rattle.std.proofs.lemmas.List.{drop_more, drop_all, length-replicate, length-take-le}
use Rattle.std.proofs.Math.Seq.{take-length}
use Rattle.std.specs.Bool.{nat_le}
use Rattle.std.proofs.lemmas.Bool.{leb-true, le-leb, le-ltb}
use Rattle.std.proofs.lemmas.Nat.{leading_top}
use Rattle.std.specs.Int.Count.{count_leading_zeros, leading_of_zero}
use Rattle.bit_slice.specs.Bits.{AreBits, bit_number, bit_length, front_number, number_of, spelled, taken}
use Rattle.bit_slice.specs.BitLists.{number_of-bound}
use Rattle.bit_slice.specs.BitLengths.{bit_length-zero, bit_length-above}
use Rattle.hashmap_labels.specs.LengthLaws.{bit_length-least, are_bits-AreBits}
use Rattle.hashmap_labels.specs.Reading.{are_bits, ones_of, one_more, read_length, head_of, read_head}
use Rattle.hashmap_labels.specs.SpellingLaws.{equal-replicated}
use Rattle.hashmap_labels.specs.Steps.{same_some, when_true, when_false}
use Rattle.hashmap_labels.specs.declared.forms.LabelForm.TheVariants.{Same}

-- more ones before
pub plus : ℕ → Option (ℕ × List ℕ) → Option (ℕ × List ℕ)
plus i None = None
plus i (Some r) = Some (i + r.0, r.1)

plus-more : (i : ℕ) (o : Option (ℕ × List ℕ)) → plus i (one_more o) ≡ plus (i + 1) o
unfolding plus
plus-more i None = refl
plus-more i (Some r) = let e : i + suc r.0 ≡ i + 1 + r.0 = omega arith in λ j. Some (e j, r.1)

front : (s : List ℕ) (i : ℕ) (b : Bool) → i < length s → bit_number b ≡ slice_index s i → drop i s ≡ bit_number b ∷ drop (i + 1) s
front s i b h e = drop_more s i 0 h ∙ ap (λ x. x ∷ drop (i + 1) s) (sym e)

pub ones_start : (s : List ℕ) → ones_of s ≡ plus 0 (ones_of (drop 0 s))
unfolding plus
ones_start s = go (ones_of s)
  where
    go : (o : Option (ℕ × List ℕ)) → o ≡ plus 0 o
    go None = refl
    go (Some r) = let e : r.0 ≡ 0 + r.0 = omega arith in λ j. Some (e j, r.1)

pub ones_next : (s : List ℕ) (i : ℕ) (b : Bool) → i < length s → bit_number b ≡ slice_index s i → b ≡ true → ones_of s ≡ plus i (ones_of (drop i s)) → ones_of s ≡ plus (i + 1) (ones_of (drop (i + 1) s))
ones_next s i true h e t inv = inv ∙ ap (λ l. plus i (ones_of l)) (front s i true h e) ∙ plus-more i (ones_of (drop (i + 1) s))
ones_next s i false h e t inv = cc

pub ones_end : (s : List ℕ) (i : ℕ) (b : Bool) → i < length s → bit_number b ≡ slice_index s i → b ≡ false → ones_of s ≡ plus i (ones_of (drop i s)) → ones_of s ≡ Some (i, drop (i + 1) s)
unfolding plus
ones_end s i true h e t inv = cc
ones_end s i false h e t inv = inv ∙ ap (λ l. plus i (ones_of l)) (front s i false h e) ∙ (let z : i + 0 ≡ i = omega arith in λ j. Some (z j, drop (i + 1) s))

pub ones_none : (s : List ℕ) (i : ℕ) → length s ≤ i → ones_of s ≡ plus i (ones_of (drop i s)) → ones_of s ≡ None
unfolding plus
ones_none s i h inv = inv ∙ ap (λ l. plus i (ones_of l)) (drop_all i s h)

-- ---- many times one bit

pub replicated-length : (m b : ℕ) → length (replicate m b) ≡ m
replicated-length m b = length-replicate m b

pub replicated-more : (w : List ℕ) (m b : ℕ) → w ++ replicate (m + 1) b ≡ w ++ replicate m b ++ b ∷ []
replicated-more w m b = ap (λ l. w ++ l) (go m) ∙ sym (append_assoc w (replicate m b) (b ∷ []))
  where
    go : (m : ℕ) → replicate (m + 1) b ≡ replicate m b ++ b ∷ []
    go zero = refl
    go (suc m) = let e : suc m + 1 ≡ suc (m + 1) = omega arith in ap (λ n. replicate n b) e ∙ ap (λ l. b ∷ l) (go m)

pub one_bit : (b : Bool) → spelled 1 (bit_number b) ≡ bit_number b ∷ []
unfolding spelled
one_bit true = refl
one_bit false = refl

pub ruleset replicated = (replicated-length, equal-replicated, replicated-more, one_bit)

-- ---- lengths

pub width_of_length : (n : ℕ) → n < 2 ^ 32 → 32 - count_leading_zeros 32 n ≡ bit_length n
width_of_length zero h = ap (λ m. 32 - m) (leading_of_zero 32) ∙ sym bit_length-zero
width_of_length (suc n) h =
    let r = leading_top 32 (suc n) (omega arith) h in
    let above = bit_length-above (suc n) r.0 r.2 in
    let least = bit_length-least (suc n) (suc r.0) r.3 in
    let sum = r.1 in
    omega (arith, above, least, sum)

pub same_head : (k : ℕ) (b : Bool) (s : List ℕ) → read_head k (1 ∷ (1 ∷ (bit_number b ∷ s))) ≡ head_of Same b (read_length k s)
same_head k true s = refl
same_head k false s = refl

-- the first bits and the rest
taken-parts : (k : ℕ) (s bits rest : List ℕ) → Some (bits, rest) ≡ taken k s → (k ≤ length s) × (take k s ≡ bits) × (drop k s ≡ rest)
taken-parts k s bits rest e = go (nat_le k (length s)) refl e
  where
    go : (a : Bool) → nat_le k (length s) ≡ a → (◌≡◌ {A = Option (List ℕ × List ℕ)} (Some (bits, rest)) (cond a (Some (take k s, drop k s)) None)) → (k ≤ length s) × (take k s ≡ bits) × (drop k s ≡ rest)
    go false f g = cc
    go true f g =
        let p = same_some (bits, rest) (take k s, drop k s) g in
        (leb-true k (length s) f, (λ i. ((sym p) i).0), (λ i. ((sym p) i).1))

whole-number : (bits : List ℕ) (v : ℕ) → Some v ≡ front_number (length bits) bits → v ≡ number_of bits
whole-number bits v e =
    same_some v (number_of bits) (e
    ∙ when_true (nat_le (length bits) (length bits)) _ _ (le-leb (length bits) (length bits) (omega arith))
    ∙ ap (λ (t : List ℕ). Some (number_of t)) (take-length bits))

-- a length that was read from the first k bits
pub binary_length : (k : ℕ) (s bits rest : List ℕ) (m v : ℕ) → Some (bits, rest) ≡ taken k s → AreBits bits → m ≡ length bits → Some v ≡ front_number m bits
    → (v < 2 ^ k) × (Some (v, rest) ≡ read_length k s)
binary_length k s bits rest m v t h l e =
    let p = taken-parts k s bits rest t in
    let n : length bits ≡ k = sym (ap length p.1) ∙ length-take-le k s p.0 in
    let w : v ≡ number_of bits = whole-number bits v (e ∙ ap (λ (c : ℕ). front_number c bits) l) in
    let P : ℕ → Type 0 = λ c. number_of bits < 2 ^ c in
    let Q : ℕ → Type 0 = λ c. c < 2 ^ k in
    let Bits : List ℕ → Type 0 = λ t. AreBits t in
    let read : read_length k s ≡ Some (number_of (take k s), drop k s) =
    when_false (nat_lt (length s) k) _ _ (le-ltb (length s) k p.0) ∙ when_true (are_bits (take k s)) _ _ (are_bits-AreBits (take k s) (subst Bits (sym p.1) h)) in (
      subst Q (sym w) (subst P n (number_of-bound bits h)),
      sym (read ∙ (λ i. Some ((ap number_of p.1 ∙ sym w) i, p.2 i))),
    )
