-- Laws on masks and levels.
use Rattle.std.specs.Prelude.{◌≡◌, ℕ, zero, suc, ◌+◌, ◌-◌, ◌≤◌, ◌<◌, [], ◌∷◌, ◌++◌, length, map}
use Rattle.std.specs.Int.{bit_at}
use Rattle.std.proofs.Common.{arith, sym, ◌∙◌, refl, get_or, ⊎_elim, ◌⊎◌, inl, inr}
use Rattle.std.proofs.lemmas.Nat.Bits.{bit_at-lt}
use Rattle.std.proofs.lemmas.List.{get_or_append_left, get_or-append_right, length-append, length-map, map-append}
use Rattle.cell_nodes.specs.Levels.{set_bits, levels_in}

-- ---- a bit is 0 or 1

bit_cases-of : (b : ℕ) → b < 2 → (b ≡ 0) ⊎ (b ≡ 1)
bit_cases-of zero h = inl refl
bit_cases-of (suc zero) h = inr refl
bit_cases-of (suc (suc b)) h = absurd (omega arith)

pub bit_cases : (m i : ℕ) → (bit_at m i ≡ 0) ⊎ (bit_at m i ≡ 1)
bit_cases m i = bit_cases-of (bit_at m i) (bit_at-lt m i)

split-le : (i n : ℕ) → i ≤ suc n → (i ≡ suc n) ⊎ (i ≤ n)
split-le zero n h = inr (omega arith)
split-le (suc i) zero h = inl (omega arith)
split-le (suc i) (suc n) h = ⊎_elim
    (λ (e : i ≡ suc n). inl (omega arith))
    (λ (l : i ≤ n). inr (omega arith))
    (split-le i n (omega arith))

n+zero : (n : ℕ) → n + 0 ≡ n
n+zero n = omega arith

-- ---- set bits

pub set_bits-zero : (m : ℕ) → set_bits 0 m ≡ 0
unfolding set_bits
set_bits-zero m = refl

pub set_bits-suc : (i m : ℕ) → set_bits (suc i) m ≡ set_bits i m + bit_at m i
unfolding set_bits
set_bits-suc i m = refl

pub set_bits-more : (i m : ℕ) → set_bits (i + 1) m ≡ set_bits i m + bit_at m i
set_bits-more i m = let e : i + 1 ≡ suc i = omega arith in rw e (set_bits-suc i m)

pub set_bits-le : (i m : ℕ) → set_bits i m ≤ i
set_bits-le zero m = omega (arith, set_bits-zero m)
set_bits-le (suc i) m = omega (arith, set_bits-suc i m, set_bits-le i m, bit_at-lt m i)

-- set bits among i bits and among n of which they are the lowest
pub set_bits-within : (i n m : ℕ) → i ≤ n → set_bits i m ≤ set_bits n m
set_bits-within zero zero m h = omega arith
set_bits-within (suc i) zero m h = absurd (omega arith)
set_bits-within i (suc n) m h = ⊎_elim
    (λ (e : i ≡ suc n). rw e (omega arith))
    (λ (l : i ≤ n). omega (arith, set_bits-suc n m, set_bits-within i n m l))
    (split-le i n h)

-- ---- levels

pub levels_in-set : (i m : ℕ) → bit_at m i ≡ 1 → levels_in (suc i) m ≡ levels_in i m ++ suc i ∷ []
unfolding levels_in
levels_in-set i m e = rw e refl

pub levels_in-unset : (i m : ℕ) → bit_at m i ≡ 0 → levels_in (suc i) m ≡ levels_in i m
unfolding levels_in
levels_in-unset i m e = rw e refl

pub levels_in-zero : (m : ℕ) → levels_in 0 m ≡ 0 ∷ []
unfolding levels_in
levels_in-zero m = refl

pub length-levels_in : (i m : ℕ) → length (levels_in i m) ≡ set_bits i m + 1
length-levels_in zero m = rw (levels_in-zero m, set_bits-zero m) refl
length-levels_in (suc i) m = ⊎_elim
    (λ (e : bit_at m i ≡ 0). rw (levels_in-unset i m e, set_bits-suc i m, e) (omega (arith, length-levels_in i m)))
    (λ (e : bit_at m i ≡ 1).
    rw (levels_in-set i m e, set_bits-suc i m, e)
    (omega (arith, length-append (levels_in i m) (suc i ∷ []), length-levels_in i m)))
    (bit_cases m i)

-- what has at a level that the mask doesn't have the value of the level below
abbrev pub IsSteady : {A : Type 0} → ℕ → (ℕ → A) → Type 0
IsSteady m f = (i : ℕ) → bit_at m i ≡ 0 → f (suc i) ≡ f i

-- what is kept for the levels of a mask has the value at each level, by the number of set bits below it
pub at-levels_in : {A : Type 0} (f : ℕ → A) (m : ℕ) (d : A) → IsSteady m f → (n i : ℕ) → i ≤ n
    → get_or (map f (levels_in n m)) (set_bits i m) d ≡ f i
at-levels_in f m d steady zero zero h = rw (levels_in-zero m, set_bits-zero m) refl
at-levels_in f m d steady zero (suc i) h = absurd (omega arith)
at-levels_in f m d steady (suc n) i h = ⊎_elim
    (λ (e : bit_at m n ≡ 0). ⊎_elim
    (λ (l : i ≡ suc n).
    rw (l, levels_in-unset n m e, set_bits-suc n m, e, n+zero (set_bits n m))
    (at-levels_in f m d steady n n (omega arith) ∙ sym (steady n e)))
    (λ (l : i ≤ n). rw (levels_in-unset n m e) (at-levels_in f m d steady n i l))
    (split-le i n h))
    (λ (e : bit_at m n ≡ 1). ⊎_elim
    (λ (l : i ≡ suc n).
    rw (l, levels_in-set n m e, map-append f (levels_in n m) (suc n ∷ []))
    (let len : length (map f (levels_in n m)) ≡ set_bits (suc n) m = omega (
      arith,
      length-map {A =
          ℕ} (levels_in n m) f,
      length-levels_in n m,
      set_bits-suc n m,
    ) in
    get_or-append_right (map f (levels_in n m)) (f (suc n) ∷ []) (set_bits (suc n) m) (set_bits (suc n) m) d len
    (omega arith)
    ∙ (let z : set_bits (suc n) m - set_bits (suc n) m ≡ 0 = omega arith in rw z refl)))
    (λ (l : i ≤ n).
    rw (levels_in-set n m e, map-append f (levels_in n m) (suc n ∷ []))
    (get_or_append_left (map f (levels_in n m)) (f (suc n) ∷ []) d (set_bits i m)
    (omega (arith, length-map {A = ℕ} (levels_in n m) f, length-levels_in n m, set_bits-within i n m l))
    ∙ at-levels_in f m d steady n i l))
    (split-le i n h))
    (bit_cases m n)
