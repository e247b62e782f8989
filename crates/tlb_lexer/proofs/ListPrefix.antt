-- The prefix of a list that passes a test.
use Rattle.std.proofs.Common.{◌≡◌, ◌≤◌, ◌<◌, ◌+◌, suc, zero, ◌∙◌, sym, ap, refl, ℕ, Bool, true, false, not, ◌||◌, ◌&&◌, List, [], ◌∷◌, length, take, unwrap_or, position, Option, None, Some, arith, nat_lt, cond, inl, inr, ◌⊎◌, ◌==◌}
use Rattle.std.specs.List.{list_all, list_any, prefix_len}
use Rattle.std.proofs.lemmas.List.Sums.{prefix_len-le-length}
use Rattle.std.proofs.lemmas.Bool.{ltb-false, eqb-true}

pub and_parts : (a b : Bool) → (a && b) ≡ true → (a ≡ true) × (b ≡ true)
and_parts true b e = (refl, e)
and_parts false b e = cc

pub or_parts : (a b : Bool) → (a || b) ≡ true → (a ≡ true) ⊎ (b ≡ true)
or_parts true b e = inl refl
or_parts false b e = inr e

pub or_right : (a b : Bool) → b ≡ true → (a || b) ≡ true
or_right true b e = refl
or_right false b e = e

pub clash : (t : Bool) → t ≡ true → t ≡ false → ⊥
clash t e f = cc

-- a number is another, or the tests of it fail
pub same_or_not : (c n : ℕ) → (c ≡ n) ⊎ ((c == n) ≡ false)
same_or_not c n =
    elim (c == n) as (λ t. (c == n) ≡ t → (c ≡ n) ⊎ ((c == n) ≡ false)) [
      | true ↦ λ e. inl (eqb-true c n e)
      | false ↦ λ e. inr e
    ] refl

pub passes : (p : ℕ → Bool) (xs : List ℕ) → list_all p (take (prefix_len p xs) xs) ≡ true
passes p [] = refl
passes p (x ∷ xs) =
    elim (p x) as (λ t. p x ≡ t → list_all p (take (cond t (1 + prefix_len p xs) 0) (x ∷ xs)) ≡ true) [
      | true ↦ λ e. let one : 1 + prefix_len p xs ≡ suc (prefix_len p xs) = omega arith in rw (one, e) (passes p xs)
      | false ↦ λ e. refl
    ] refl

pub too_far : (p : ℕ → Bool) (xs : List ℕ) (m : ℕ) → prefix_len p xs < m → m ≤ length xs
    → list_all p (take m xs) ≡ true → ⊥
too_far p [] m lt le e = absurd (omega arith)
too_far p (x ∷ xs) zero lt le e = absurd (omega arith)
too_far p (x ∷ xs) (suc m) lt le e =
    let parts = and_parts (p x) (list_all p (take m xs)) e in
    let one : prefix_len p (x ∷ xs) ≡ 1 + prefix_len p xs = rw parts.0 refl in
    too_far p xs m (omega arith) (omega arith) parts.1

not_not : (p : ℕ → Bool) (xs : List ℕ) → prefix_len (λ x. not (not (p x))) xs ≡ prefix_len p xs
not_not p [] = refl
not_not p (x ∷ xs) =
    elim (p x) as (λ t. cond (not (not t)) (1 + prefix_len (λ x. not (not (p x))) xs) 0 ≡ cond t (1 + prefix_len p xs) 0) [
      | true ↦ ap (λ n. 1 + n) (not_not p xs)
      | false ↦ refl
    ]

bounded : (n len : ℕ) → n ≤ len → unwrap_or (cond (nat_lt n len) (Some n) None) len ≡ n
bounded n len h =
    elim (nat_lt n len) as (λ t. nat_lt n len ≡ t → unwrap_or (cond t (Some n) None) len ≡ n) [
      | true ↦ λ e. refl
      | false ↦ λ e. let past = ltb-false n len e in omega arith
    ] refl

-- the first place that fails is the length of the prefix that passes
pub first_failing : (p : ℕ → Bool) (bytes : List ℕ)
    → unwrap_or (position (λ b. not (p b)) bytes) (length bytes) ≡ prefix_len p bytes
first_failing p bytes =
    bounded (prefix_len (λ x. not (not (p x))) bytes) (length bytes) (prefix_len-le-length (λ x. not (not (p x))) bytes) ∙ not_not p bytes

pub none_fails : (p : ℕ → Bool) (bytes : List ℕ) (found : Option ℕ) → found ≡ position (λ b. not (p b)) bytes
    → found ≡ None → length bytes ≡ prefix_len p bytes
none_fails p bytes found e none = ap (λ o. unwrap_or o (length bytes)) (sym none ∙ e) ∙ first_failing p bytes

-- what holds of each byte of a list holds of a byte that is among them
pub among : (P : ℕ → Bool) (xs : List ℕ) (b : ℕ) → list_any (λ s. s == b) xs ≡ true → list_all P xs ≡ true → P b ≡ true
among P [] b e all = cc
among P (x ∷ xs) b e all =
    let parts = and_parts (P x) (list_all P xs) all in
    elim (or_parts (x == b) (list_any (λ s. s == b) xs) e) [
      | inl same ↦ ap P (sym (eqb-true x b same)) ∙ parts.0
      | inr later ↦ among P xs b later parts.1
    ]
