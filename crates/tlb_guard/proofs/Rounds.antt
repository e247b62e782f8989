-- Rounds of rules that only add, over the members of a list: none differs from that whose number is the list's length.
use Rattle.std.proofs.Common.{◌≡◌, ℕ, zero, suc, ◌+◌, ◌-◌, ◌<◌, ◌≤◌, ◌⊎◌, inl, inr, Bool, true, false, List, [], ◌∷◌, length, refl, sym, ◌∙◌, subst, arith}
use Rattle.std.specs.Prelude.{cond}
use Rattle.std.proofs.lemmas.Bool.{false≢true}
use Rattle.tlb_guard.specs.Rounds.{Test, round, IsPart}

abbrev pub IsMember : {A : Type 0} → List A → A → Type 0
IsMember [] x = ⊥
IsMember (y ∷ ys) x = (y ≡ x) ⊎ IsMember ys x

-- more in, more out
abbrev pub IsMonotone : {A : Type 0} → (Test A → Test A) → Type 0
IsMonotone {A} rules = (p q : Test A) → IsPart p q → IsPart (rules p) (rules q)

-- the rules give members of the list alone
abbrev pub IsWithin : {A : Type 0} → List A → (Test A → Test A) → Type 0
IsWithin {A} xs rules = (p : Test A) (x : A) → rules p x ≡ true → IsMember xs x

-- two truths that follow from each other are one
pub same_truth : (a b : Bool) → (a ≡ true → b ≡ true) → (b ≡ true → a ≡ true) → a ≡ b
same_truth true b f g = sym (f refl)
same_truth false true f g = g refl
same_truth false false f g = refl

-- how many of the list are in the set
members : {A : Type 0} → Test A → List A → ℕ
members p [] = 0
members p (x ∷ xs) = cond (p x) (suc (members p xs)) (members p xs)

one_at_most : (b : Bool) (m n : ℕ) → m ≤ n → cond b (suc m) m ≤ suc n
one_at_most true m n le = omega (arith, le)
one_at_most false m n le = omega (arith, le)

members_few : {A : Type 0} (p : Test A) (xs : List A) → members p xs ≤ length xs
unfolding members
members_few p [] = omega arith
members_few p (x ∷ xs) = one_at_most (p x) (members p xs) (length xs) (members_few p xs)

one_more : (m n : ℕ) (a b : Bool) → (a ≡ true → b ≡ true) → m ≤ n → cond a (suc m) m ≤ cond b (suc n) n
one_more m n true true f le = omega arith
one_more m n true false f le = absurd (false≢true (f refl))
one_more m n false true f le = omega arith
one_more m n false false f le = le

grown : (m n : ℕ) (a b : Bool) → (a ≡ true → b ≡ true) → m < n → cond a (suc m) m < cond b (suc n) n
grown m n true true f lt = omega arith
grown m n true false f lt = absurd (false≢true (f refl))
grown m n false true f lt = omega arith
grown m n false false f lt = lt

fewer : (m n : ℕ) (a b : Bool) → a ≡ false → b ≡ true → m ≤ n → cond a (suc m) m < cond b (suc n) n
fewer m n true b is_a is_b le = absurd (false≢true (sym is_a))
fewer m n false true is_a is_b le = omega arith
fewer m n false false is_a is_b le = absurd (false≢true is_b)

-- a part has no more members of a list
part_count : {A : Type 0} (p q : Test A) → IsPart p q → (xs : List A) → members p xs ≤ members q xs
unfolding members
part_count p q part [] = omega arith
part_count p q part (x ∷ xs) = one_more (members p xs) (members q xs) (p x) (q x) (part x) (part_count p q part xs)

-- a part has all members of the list that the whole has, or fewer of them
compare_parts : {A : Type 0} (p q : Test A) → IsPart p q → (xs : List A)
    → ((x : A) → IsMember xs x → q x ≡ true → p x ≡ true) ⊎ (members p xs < members q xs)
unfolding members
compare_parts p q part [] = inl (λ x h e. absurd h)
compare_parts {A} p q part (y ∷ ys) = at_first (p y) (q y) refl refl (compare_parts p q part ys)
  where
    all : (q y ≡ true → p y ≡ true) → ((x : A) → IsMember ys x → q x ≡ true → p x ≡ true) → (x : A) → (y ≡ x) ⊎ IsMember ys x → q x ≡ true → p x ≡ true
    all first rest x (inl is) = let P : A → Type 0 = λ z. q z ≡ true → p z ≡ true in subst P is first
    all first rest x (inr h) = rest x h

    at_first : (a b : Bool) → p y ≡ a → q y ≡ b → ((x : A) → IsMember ys x → q x ≡ true → p x ≡ true) ⊎ (members p ys < members q ys)
        → ((x : A) → IsMember (y ∷ ys) x → q x ≡ true → p x ≡ true) ⊎ (members p (y ∷ ys) < members q (y ∷ ys))
    at_first a b is_a is_b (inr lt) = inr (grown (members p ys) (members q ys) (p y) (q y) (part y) lt)
    at_first true b is_a is_b (inl rest) = inl (all (λ e. is_a) rest)
    at_first false false is_a is_b (inl rest) = inl (all (λ e. absurd (false≢true (sym is_b ∙ e))) rest)
    at_first false true is_a is_b (inl rest) =
        inr (fewer (members p ys) (members q ys) (p y) (q y) is_a is_b (part_count p q part ys))

module _ {A : Type 0} (rules : Test A → Test A) (mono : IsMonotone rules) where
  grows : (n : ℕ) → IsPart (round rules n) (round rules (suc n))
  grows zero x e = absurd (false≢true e)
  grows (suc n) x e = mono (round rules n) (round rules (suc n)) (grows n) x e

  later_at : (k n m : ℕ) → m ≡ n + k → IsPart (round rules n) (round rules m)
  later_at zero n m is x e = let P : ℕ → Type 0 = λ j. round rules j x ≡ true in let same : n ≡ m = omega (arith, is) in subst P same e
  later_at (suc k) n m is x e =
      let step : round rules (suc (n + k)) x ≡ true = grows (n + k) x (later_at k n (n + k) refl x e) in
      let P : ℕ → Type 0 = λ j. round rules j x ≡ true in let same : suc (n + k) ≡ m = omega (arith, is) in subst P same step

  -- a later round has all that an earlier one has
  pub later : (n m : ℕ) → n ≤ m → IsPart (round rules n) (round rules m)
  later n m le = later_at (m - n) n m (omega arith)

  -- each round is a part of each set that is closed
  pub within_closed : (p : Test A) → IsPart (rules p) p → (n : ℕ) → IsPart (round rules n) p
  within_closed p closed zero x e = absurd (false≢true e)
  within_closed p closed (suc n) x e = closed x (mono (round rules n) p (within_closed p closed n) x e)

  module _ (xs : List A) (within : IsWithin xs rules) where
    -- an early round is closed, or this one has as many members
    settled : (n : ℕ) → ((k : ℕ) × (k < n) × IsPart (round rules (suc k)) (round rules k)) ⊎ (n ≤ members (round rules n) xs)
    settled zero = inr (omega arith)
    settled (suc n) = next (settled n) (compare_parts (round rules n) (round rules (suc n)) (grows n) xs)
      where
        next : ((k : ℕ) × (k < n) × IsPart (round rules (suc k)) (round rules k)) ⊎ (n ≤ members (round rules n) xs)
            → ((x : A) → IsMember xs x → round rules (suc n) x ≡ true → round rules n x ≡ true) ⊎ (members (round rules n) xs < members (round rules (suc n)) xs)
            → ((k : ℕ) × (k < suc n) × IsPart (round rules (suc k)) (round rules k)) ⊎ (suc n ≤ members (round rules (suc n)) xs)
        next (inl s) c = inl (s.0, omega (arith, s.1), s.2)
        next (inr le) (inl all) = inl (n, omega arith, λ x e. all x (within (round rules n) x e) e)
        next (inr le) (inr lt) = inr (omega (arith, le, lt))

    closed_early : (k : ℕ) × (k ≤ length xs) × IsPart (round rules (suc k)) (round rules k)
    closed_early = by_cases (settled (suc (length xs)))
      where
        by_cases : ((k : ℕ) × (k < suc (length xs)) × IsPart (round rules (suc k)) (round rules k)) ⊎ (suc (length xs) ≤ members (round rules (suc (length xs))) xs)
            → (k : ℕ) × (k ≤ length xs) × IsPart (round rules (suc k)) (round rules k)
        by_cases (inl s) = (s.0, omega (arith, s.1), s.2)
        by_cases (inr le) = let bound = members_few (round rules (suc (length xs))) xs in absurd (omega (arith, le, bound))

    -- every round is a part of that whose number is the length of the list
    pub within_last : (n : ℕ) → IsPart (round rules n) (round rules (length xs))
    within_last n x e =
        let s = closed_early in
        later s.0 (length xs) s.1 x (within_closed (round rules s.0) s.2 n x e)

    -- no later round differs
    pub last_stays : (n : ℕ) (x : A) → length xs ≤ n → round rules n x ≡ round rules (length xs) x
    last_stays n x le =
        same_truth (round rules n x) (round rules (length xs) x) (within_last n x) (later (length xs) n le x)

    -- the last round is closed
    pub last_closed : IsPart (rules (round rules (length xs))) (round rules (length xs))
    last_closed = within_last (suc (length xs))

    -- a closed set that is a part of each closed set is the last round
    pub least_is_last : (s : Test A) → IsPart (rules s) s → ((p : Test A) → IsPart (rules p) p → IsPart s p) → (x : A) → s x ≡ round rules (length xs) x
    least_is_last s closed least x =
        same_truth (s x) (round rules (length xs) x) (least (round rules (length xs)) last_closed x) (within_closed s closed (length xs) x)
