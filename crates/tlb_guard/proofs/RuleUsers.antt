-- For each fact the rules that have it in their bodies.
use Rattle.std.proofs.Common.{◌≡◌, ℕ, ◌+◌, ◌<◌, ◌⊎◌, inl, inr, List, [], ◌∷◌, ◌++◌, length, set, refl, sym, ap, ◌∙◌, subst, arith, length-append, get_or-set_same, get_or-set_other}
use Rattle.std.specs.Prelude.{All, slice_index, slice_index_or}
use Rattle.std.proofs.lemmas.Bool.{cases_eq}
use Rattle.std.proofs.lemmas.List.{get_or_append_left, get_or_at, get_or_default}
use Rattle.std.proofs.lemmas.List.Elements.{All-set, All-push, All-weaker, All-get_or}
use Rattle.tlb_guard.specs.declared.rules.Rule.{Rule}
use Rattle.tlb_guard.specs.Users.{users_at, HasUser, AreUsersTo, AreNumbersBelow}

module _ (users : List (List ℕ)) (fact number : ℕ) (below : fact < length users) (q : List ℕ) (is : q ≡ users_at users fact ++ number ∷ []) where
  here : users_at (set users fact q) fact ≡ users_at users fact ++ number ∷ []
  here = get_or-set_same users fact q [] below ∙ is

  pub push_added : HasUser (set users fact q) fact number
  push_added = (
    length (users_at users fact),
    (let a = ap length here in let b = length-append (users_at users fact) (number ∷ []) in omega (arith, a, b)),
    ap (λ z. slice_index z (length (users_at users fact))) here ∙ get_or_at (users_at users fact) number [] 0 (length (users_at users fact)) refl,
  )

  pub push_kept : (f rule : ℕ) → HasUser users f rule → HasUser (set users fact q) f rule
  push_kept f rule h = by_cases (cases_eq f fact)
    where
      at_fact : HasUser users fact rule → HasUser (set users fact q) fact rule
      at_fact g = (
        g.0,
        (let a = ap length here in let b = length-append (users_at users fact) (number ∷ []) in omega (arith, a, b, g.1)),
        ap (λ z. slice_index z g.0) here ∙ get_or_append_left (users_at users fact) (number ∷ []) 0 g.0 g.1 ∙ g.2,
      )

      by_cases : (f ≡ fact) ⊎ (f ≡ fact → ⊥) → HasUser (set users fact q) f rule
      by_cases (inl e) =
          let P : ℕ → Type 0 = λ z. HasUser users z rule in
          let R : ℕ → Type 0 = λ z. HasUser (set users fact q) z rule in
          subst R (sym e) (at_fact (subst P e h))
      by_cases (inr ne) =
          let same = get_or-set_other users fact f q [] ne in
          let P : List ℕ → Type 0 = λ z. (i : ℕ) × (i < length z) × (slice_index z i ≡ rule) in
          subst P (sym same) h

  pub push_few : AreNumbersBelow (number + 1) users → AreNumbersBelow (number + 1) (set users fact q)
  push_few bounded =
      let Q : List ℕ → Type 0 = All (λ k. k < number + 1) in
      let before : Q (users_at users fact) = All-get_or Q users fact [] below bounded in
      let pushed : Q (users_at users fact ++ number ∷ []) = All-push (λ k. k < number + 1) (users_at users fact) number before (omega arith) in
      All-set Q users fact q (subst Q (sym is) pushed) bounded

  pub push_below : (n : ℕ) → number < n → AreNumbersBelow n users → AreNumbersBelow n (set users fact q)
  push_below n lt bounded =
      let Q : List ℕ → Type 0 = All (λ k. k < n) in
      let before : Q (users_at users fact) = All-get_or Q users fact [] below bounded in
      let pushed : Q (users_at users fact ++ number ∷ []) = All-push (λ k. k < n) (users_at users fact) number before lt in
      All-set Q users fact q (subst Q (sym is) pushed) bounded

pub few_below : (n : ℕ) (users : List (List ℕ)) → AreNumbersBelow 0 users → AreNumbersBelow n users
few_below n users bounded =
    All-weaker (All (λ k. k < 0)) (All (λ k. k < n)) (λ us h. All-weaker (λ k. k < 0) (λ k. k < n) (λ k lt. omega (arith, lt)) us h) users bounded

pub few_more : (n : ℕ) (users : List (List ℕ)) → AreNumbersBelow n users → AreNumbersBelow (n + 1) users
few_more n users bounded =
    All-weaker (All (λ k. k < n)) (All (λ k. k < n + 1)) (λ us h. All-weaker (λ k. k < n) (λ k. k < n + 1) (λ k lt. omega (arith, lt)) us h) users bounded

-- one more rule is among the users of its body
pub users_more : (old users : List (List ℕ)) (rules : List Rule) (n : ℕ) (r : Rule) → n < length rules → r ≡ slice_index_or rules n r
    → ((fact rule : ℕ) → HasUser old fact rule → HasUser users fact rule)
    → ((j : ℕ) → j < length r.body → HasUser users (slice_index r.body j) n)
    → AreUsersTo old rules n → AreUsersTo users rules (n + 1)
users_more old users rules n r lt is kept added before k d j below within = by_cases (cases_eq k n)
  where
    by_cases : (k ≡ n) ⊎ (k ≡ n → ⊥) → HasUser users (slice_index (slice_index_or rules k d).body j) k
    by_cases (inl e) =
        let same : r ≡ slice_index_or rules k d = is ∙ get_or_default rules n r d lt ∙ ap (λ i. slice_index_or rules i d) (sym e) in
        let P : Rule → Type 0 = λ z. (i : ℕ) → i < length z.body → HasUser users (slice_index z.body i) n in
        let there : HasUser users (slice_index (slice_index_or rules k d).body j) n = subst P same added j within in
        let R : ℕ → Type 0 = λ i. HasUser users (slice_index (slice_index_or rules k d).body j) i in
        subst R (sym e) there
    by_cases (inr ne) = kept (slice_index (slice_index_or rules k d).body j) k (before k d j (omega (arith, below, ne)) within)
