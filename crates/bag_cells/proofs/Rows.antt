-- The first of several refusals.
use Rattle.std.proofs.Common.{◌≡◌, ◌⊎◌, inl, inr, ℕ, zero, suc, ◌+◌, ◌-◌, ◌<◌, ◌≤◌, refl, subst, ⊎_elim, arith}
use Rattle.std.specs.Prelude.{Option, Some, None}
use Rattle.std.proofs.lemmas.Bool.{cases_lt}
use Rattle.bag_cells.specs.First.{or_else, first_before, last_before}

pub first_before-none : {E : Type 0} (row : ℕ → Option E) (n : ℕ) → ((j : ℕ) → j < n → row j ≡ None) → first_before row n ≡ None
unfolding first_before
first_before-none row zero h = refl
first_before-none row (suc n) h = rw (first_before-none row n (λ j k. h j (omega arith)), h n (omega arith)) refl

first_before-over : {E : Type 0} (row : ℕ → Option E) (i k m : ℕ) (e : E) → m ≡ i + k → ((j : ℕ) → j < i → row j ≡ None) → row i ≡ Some e → first_before row (suc m) ≡ Some e
unfolding first_before
first_before-over row i zero m e h before found =
    let same : m ≡ i = omega arith in
    rw (same, first_before-none row i before, found) refl
first_before-over row i (suc k) zero e h before found = absurd (omega arith)
first_before-over row i (suc k) (suc m) e h before found = rw (first_before-over row i k m e (omega arith) before found) refl

pub first_before-found : {E : Type 0} (row : ℕ → Option E) (n i : ℕ) (e : E) → i < n → ((j : ℕ) → j < i → row j ≡ None) → row i ≡ Some e → first_before row n ≡ Some e
first_before-found row zero i e h before found = absurd (omega arith)
first_before-found row (suc n) i e h before found = first_before-over row i (n - i) n e (omega arith) before found

pub last_before-none : {E : Type 0} (row : ℕ → Option E) (n : ℕ) → ((j : ℕ) → j < n → row j ≡ None) → last_before row n ≡ None
unfolding last_before
last_before-none row zero h = refl
last_before-none row (suc n) h = rw (h n (omega arith), last_before-none row n (λ j k. h j (omega arith))) refl

last_before-over : {E : Type 0} (row : ℕ → Option E) (i k m : ℕ) (e : E) → m ≡ i + k → ((j : ℕ) → i < j → j < suc m → row j ≡ None) → row i ≡ Some e → last_before row (suc m) ≡ Some e
unfolding last_before
last_before-over row i zero m e h after found =
    let same : m ≡ i = omega arith in
    rw (same, found) refl
last_before-over row i (suc k) zero e h after found = absurd (omega arith)
last_before-over row i (suc k) (suc m) e h after found =
    rw (after (suc m) (omega arith) (omega arith), last_before-over row i k m e (omega arith) (λ j l n. after j l (omega arith)) found) refl

pub last_before-found : {E : Type 0} (row : ℕ → Option E) (n i : ℕ) (e : E) → i < n → ((j : ℕ) → i < j → j < n → row j ≡ None) → row i ≡ Some e → last_before row n ≡ Some e
last_before-found row zero i e h after found = absurd (omega arith)
last_before-found row (suc n) i e h after found = last_before-over row i (n - i) n e (omega arith) after found

-- ---- the row that is found

pub or_else-some : {E : Type 0} (a b : Option E) (e : E) → or_else a b ≡ Some e → (a ≡ Some e) ⊎ ((a ≡ None) × (b ≡ Some e))
or_else-some None b e h = inr (refl, h)
or_else-some (Some x) b e h = inl h

-- row i gives it, and no row before it gives one
pub record IsFirst {E : Type 0} (row : ℕ → Option E) (n : ℕ) (e : E) : Type 0 where
  pub i : ℕ
  pub within : i < n
  pub before : (j : ℕ) → j < i → row j ≡ None
  pub found : row i ≡ Some e

none_left : {E : Type 0} (a b : Option E) → or_else a b ≡ None → a ≡ None
none_left None b h = refl
none_left (Some e) b h = absurd (cc)

none_right : {E : Type 0} (a b : Option E) → or_else a b ≡ None → b ≡ None
none_right None b h = h
none_right (Some e) b h = absurd (cc)

first_before-all : {E : Type 0} (row : ℕ → Option E) (n : ℕ) → first_before row n ≡ None → (j : ℕ) → j < n → row j ≡ None
unfolding first_before
first_before-all row zero h j l = absurd (omega arith)
first_before-all row (suc n) h j l = ⊎_elim
    (λ (m : j < n). first_before-all row n (none_left (first_before row n) (row n) h) j m)
    (λ (m : n ≤ j).
    let e : n ≡ j = omega arith in
    subst (λ (k : ℕ). row k ≡ None) e (none_right (first_before row n) (row n) h))
    (cases_lt j n)

pub first_before-some : {E : Type 0} (row : ℕ → Option E) (n : ℕ) (e : E) → first_before row n ≡ Some e → IsFirst row n e
unfolding first_before
first_before-some row zero e h = absurd (cc)
first_before-some row (suc n) e h = elim (or_else-some (first_before row n) (row n) e h) [
  | inl prefix ↦
      let f = first_before-some row n e prefix in
      record { i = f.i; within = omega (arith, f.within); before = f.before; found = f.found }
  | inr last ↦ record { i = n; within = omega arith; before = first_before-all row n last.0; found = last.1 }
]

-- row i gives it, and no row after it gives one
pub record IsLast {E : Type 0} (row : ℕ → Option E) (n : ℕ) (e : E) : Type 0 where
  pub i : ℕ
  pub within : i < n
  pub after : (j : ℕ) → i < j → j < n → row j ≡ None
  pub found : row i ≡ Some e

more_after : {E : Type 0} (row : ℕ → Option E) (n i : ℕ) → ((j : ℕ) → i < j → j < n → row j ≡ None) → row n ≡ None → (j : ℕ) → i < j → j < suc n → row j ≡ None
more_after row n i after last j l m = ⊎_elim
    (λ (k : j < n). after j l k)
    (λ (k : n ≤ j).
    let e : n ≡ j = omega arith in
    subst (λ (k : ℕ). row k ≡ None) e last)
    (cases_lt j n)

pub last_before-some : {E : Type 0} (row : ℕ → Option E) (n : ℕ) (e : E) → last_before row n ≡ Some e → IsLast row n e
unfolding last_before
last_before-some row zero e h = absurd (cc)
last_before-some row (suc n) e h = elim (or_else-some (row n) (last_before row n) e h) [
  | inl last ↦ record { i = n; within = omega arith; after = λ j l m. absurd (omega arith); found = last }
  | inr prefix ↦
      let f = last_before-some row n e prefix.1 in
      record { i = f.i; within = omega (arith, f.within); after = more_after row n f.i f.after prefix.0; found = f.found }
]
