-- A least set under rules over numbers is the last round of rules over what the numbers stand for.
use Rattle.std.proofs.Common.{◌≡◌, ℕ, zero, suc, ◌+◌, ◌⊎◌, inl, inr, Bool, true, false, Option, None, Some, List, [], ◌∷◌, ◌++◌, length, map, refl, sym, ◌∙◌, subst, arith}
use Rattle.std.specs.Prelude.{◌==◌, ◌&&◌, slice_index_or}
use Rattle.std.specs.List.{list_any, list_all, Any}
use Rattle.std.proofs.lemmas.Bool.{false≢true, eqb-true, eq-eqb, or_cases, or_left, or_right, and_parts, and_from}
use Rattle.std.proofs.lemmas.List.Folds.{Any-from_list_any, list_any_at}
use Rattle.tlb_guard.specs.declared.rules.Rule.{Rule}
use Rattle.tlb_guard.specs.Rounds.{Test, round, IsPart}
use Rattle.tlb_guard.specs.Facts.{holds, IsClosed, IsLeast, gives, seen}
use Rattle.tlb_guard.specs.Numbering.{passes}
use Rattle.tlb_guard.proofs.Rounds.{IsMember, IsMonotone, IsWithin, same_truth, last_stays, least_is_last}

pub all_part : (p q : Test ℕ) → IsPart p q → (xs : List ℕ) → list_all p xs ≡ true → list_all q xs ≡ true
all_part p q part [] e = e
all_part p q part (x ∷ xs) e =
    let h = and_parts (p x) (list_all p xs) e in and_from (q x) (list_all q xs) (part x h.0) (all_part p q part xs h.1)

member_right : {A : Type 0} (xs ys : List A) (x : A) → IsMember ys x → IsMember (xs ++ ys) x
member_right [] ys x h = h
member_right (z ∷ zs) ys x h = inr (member_right zs ys x h)

-- ---- over numbers

-- whether the rule gives the number
abbrev pub gives_by : Test ℕ → ℕ → Rule → Bool
gives_by p n r = r.head == n && list_all p r.body

abbrev pub head_of : Rule → ℕ
head_of r = r.head

module _ (rules : List Rule) (seeds : List ℕ) where
  by_mono : (p q : Test ℕ) → IsPart p q → (n : ℕ) (rs : List Rule) → list_any (gives_by p n) rs ≡ true → list_any (gives_by q n) rs ≡ true
  by_mono p q part n [] e = e
  by_mono p q part n (r ∷ rs) e =
      elim (or_cases (gives_by p n r) (list_any (gives_by p n) rs) e) [
        | inl h ↦
            (let parts = and_parts (r.head == n) (list_all p r.body) h in
            or_left (gives_by q n r) (list_any (gives_by q n) rs) (and_from (r.head == n) (list_all q r.body) parts.0 (all_part p q part r.body parts.1)))
        | inr h ↦ or_right (gives_by q n r) (list_any (gives_by q n) rs) (by_mono p q part n rs h)
      ]

  pub gives_mono : IsMonotone (gives rules seeds)
  gives_mono p q part n e = by_cases (or_cases (list_any (λ s. s == n) seeds) (list_any (gives_by p n) rules) e)
    where
      by_cases : (list_any (λ s. s == n) seeds ≡ true) ⊎ (list_any (gives_by p n) rules ≡ true) → gives rules seeds q n ≡ true
      by_cases (inl h) = or_left (list_any (λ s. s == n) seeds) (list_any (gives_by q n) rules) h
      by_cases (inr h) = or_right (list_any (λ s. s == n) seeds) (list_any (gives_by q n) rules) (by_mono p q part n rules h)

  -- what the rules give at all
  abbrev pub given : List ℕ
  given = seeds ++ map head_of rules

  seed_member : (n : ℕ) (ss ys : List ℕ) → list_any (λ s. s == n) ss ≡ true → IsMember (ss ++ ys) n
  seed_member n [] ys e = absurd (false≢true e)
  seed_member n (s ∷ ss) ys e =
      elim (or_cases (s == n) (list_any (λ z. z == n) ss) e) [
        | inl h ↦ inl (eqb-true s n h)
        | inr h ↦ inr (seed_member n ss ys h)
      ]

  head_member : (p : Test ℕ) (n : ℕ) (rs : List Rule) → list_any (gives_by p n) rs ≡ true → IsMember (map head_of rs) n
  head_member p n [] e = absurd (false≢true e)
  head_member p n (r ∷ rs) e =
      elim (or_cases (gives_by p n r) (list_any (gives_by p n) rs) e) [
        | inl h ↦ inl (eqb-true r.head n (and_parts (r.head == n) (list_all p r.body) h).0)
        | inr h ↦ inr (head_member p n rs h)
      ]

  pub gives_within : IsWithin given (gives rules seeds)
  gives_within p n e = by_cases (or_cases (list_any (λ s. s == n) seeds) (list_any (gives_by p n) rules) e)
    where
      by_cases : (list_any (λ s. s == n) seeds ≡ true) ⊎ (list_any (gives_by p n) rules ≡ true) → IsMember given n
      by_cases (inl h) = seed_member n seeds (map head_of rules) h
      by_cases (inr h) = member_right seeds (map head_of rules) n (head_member p n rules h)

  -- ---- closed sets

  pub closed_gives : (p : Test ℕ) → IsClosed rules seeds p → IsPart (gives rules seeds p) p
  closed_gives p closed n e = by_cases (or_cases (list_any (λ s. s == n) seeds) (list_any (gives_by p n) rules) e)
    where
      seeded : Any (λ s. (s == n) ≡ true) seeds → p n ≡ true
      seeded a =
          let s = a.1 in
          let P : ℕ → Type 0 = λ z. p z ≡ true in
          let here : p (slice_index_or seeds a.0 s) ≡ true = closed.seeded a.0 s a.2 in
          subst P (a.3 ∙ eqb-true s n a.4) here

      ruled : Any (λ r. gives_by p n r ≡ true) rules → p n ≡ true
      ruled a =
          let r = a.1 in
          let P : ℕ → Type 0 = λ z. p z ≡ true in
          let parts = and_parts (r.head == n) (list_all p r.body) a.4 in
          let R : Rule → Type 0 = λ z. list_all p z.body ≡ true → p z.head ≡ true in
          let here : p r.head ≡ true = subst R a.3 (closed.ruled a.0 r a.2) parts.1 in
          subst P (eqb-true r.head n parts.0) here

      by_cases : (list_any (λ s. s == n) seeds ≡ true) ⊎ (list_any (gives_by p n) rules ≡ true) → p n ≡ true
      by_cases (inl h) = seeded (Any-from_list_any (λ s. s == n) seeds h)
      by_cases (inr h) = ruled (Any-from_list_any (gives_by p n) rules h)

  pub gives_closed : (p : Test ℕ) → IsPart (gives rules seeds p) p → IsClosed rules seeds p
  gives_closed p part = record {
    seeded = λ k d lt.
        let n = slice_index_or seeds k d in
        part n (or_left (list_any (λ s. s == n) seeds) (list_any (gives_by p n) rules)
        (list_any_at (λ s. s == n) seeds k d lt (eq-eqb n n refl)));
    ruled = λ k d lt body.
        let r = slice_index_or rules k d in
        let n = r.head in
        part n (or_right (list_any (λ s. s == n) seeds) (list_any (gives_by p n) rules)
        (list_any_at (gives_by p n) rules k d lt (and_from (n == n) (list_all p r.body) (eq-eqb n n refl) body)));
  }

  -- a least set is the last round
  pub least_round : (count : ℕ) (found : List Bool) → IsLeast rules seeds count found
      → (n : ℕ) → holds found n ≡ round (gives rules seeds) (length given) n
  least_round count found least =
      least_is_last (gives rules seeds) gives_mono given gives_within (holds found) (closed_gives (holds found) least.closed)
      (λ p part. least.sound p (gives_closed p part))

-- ---- over what the numbers stand for

module _ {A : Type 0} (rules : Test A → Test A) (mono : IsMonotone rules) (number : A → Option ℕ) where
  module _ (rs : List Rule) (seeds : List ℕ) (tied : (p : Test ℕ) (x : A) → rules (seen number p) x ≡ seen number (gives rs seeds p) x) where
    -- the rounds of both are one
    rounds_tied : (n : ℕ) (x : A) → round rules n x ≡ seen number (round (gives rs seeds) n) x
    rounds_tied zero x = none (number x)
      where
        none : (o : Option ℕ) → false ≡ passes (round (gives rs seeds) zero) o
        none None = refl
        none (Some n) = refl
    rounds_tied (suc n) x =
        let p = round rules n in
        let q = seen number (round (gives rs seeds) n) in
        same_truth (rules p x) (rules q x)
        (mono p q (λ y e. sym (rounds_tied n y) ∙ e) x)
        (mono q p (λ y e. rounds_tied n y ∙ e) x)
        ∙ tied (round (gives rs seeds) n) x

    passes_at : (p q : Test ℕ) → ((n : ℕ) → p n ≡ q n) → (o : Option ℕ) → passes p o ≡ passes q o
    passes_at p q same None = refl
    passes_at p q same (Some n) = same n

    -- the last round over numbers is the last over what they stand for
    pub last_seen : (xs : List A) → IsWithin xs rules → (x : A) → seen number (round (gives rs seeds) (length (given rs seeds))) x ≡ round rules (length xs) x
    last_seen xs within x =
        let all = given rs seeds in
        let n = length xs + length all in
        let stays : round rules n x ≡ round rules (length xs) x = last_stays rules mono xs within n x (omega arith) in
        let last : (k : ℕ) → round (gives rs seeds) (length all) k ≡ round (gives rs seeds) n k =
        λ k. sym (last_stays (gives rs seeds) (gives_mono rs seeds) all (gives_within rs seeds) n k (omega arith)) in
        passes_at (round (gives rs seeds) (length all)) (round (gives rs seeds) n) last (number x) ∙ sym (rounds_tied n x) ∙ stays

    -- the things whose numbers are in the least set are those of the last round
    pub least_seen : (xs : List A) → IsWithin xs rules → (count : ℕ) (found : List Bool) → IsLeast rs seeds count found
        → (x : A) → seen number (holds found) x ≡ round rules (length xs) x
    least_seen xs within count found least x =
        passes_at (holds found) (round (gives rs seeds) (length (given rs seeds))) (least_round rs seeds count found least) (number x)
        ∙ last_seen xs within x
