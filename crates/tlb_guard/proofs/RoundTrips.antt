-- What is reached over edges, and the types that come to an end.
use Rattle.std.proofs.Common.{◌≡◌, ℕ, zero, suc, ◌<◌, ◌⊎◌, inl, inr, Bool, true, false, not, Option, None, Some, List, [], ◌∷◌, length, map, set, get_or-set_same, get_or-set_other, refl, sym, ap, ◌∙◌, subst, arith}
use Rattle.std.specs.Prelude.{◌==◌, ◌&&◌, ◌||◌, All, slice_index_or, slice_get, find}
use Rattle.std.specs.List.{list_any, list_all, Any}
use Rattle.std.proofs.lemmas.Bool.{false≢true, true≢false, eqb-true, cases_Bool, not_from_false, not-true, or_cases, and_parts, cases_eq, cond-true, cond-false}
use Rattle.std.proofs.lemmas.List.{length-map, length-set}
use Rattle.std.proofs.lemmas.Option.{slice_get_within, slice_get-get_or, get_or_from_slice_get}
use Rattle.std.proofs.lemmas.List.Elements.{All-map}
use Rattle.std.proofs.lemmas.List.Folds.{Any-from_list_any, list_all_at}
use Rattle.tlb_guard.specs.declared.rules.Rule.{Rule}
use Rattle.tlb_guard.specs.declared.edges.Edge.{Edge}
use Rattle.tlb_guard.specs.Rounds.{Test, round, IsPart}
use Rattle.tlb_guard.specs.Facts.{holds, IsClosed, IsLeast, IsBelow, gives}
use Rattle.tlb_guard.specs.Users.{users_at, HasUser}
use Rattle.tlb_guard.specs.Edges.{back_rule, reaching, is_round_trip, AreTargets, AreSearches, IsEdgeBelow}
use Rattle.tlb_guard.proofs.Rounds.{later}
use Rattle.tlb_guard.proofs.LeastRounds.{head_of, gives_by, given, gives_mono, least_round}

-- whether the edge leads from that number into the set
abbrev pub leads_into : Test ℕ → ℕ → Edge → Bool
leads_into p n e = e.from == n && (p e.to && true)

pub any_back : (p : Test ℕ) (n : ℕ) (es : List Edge) → list_any (gives_by p n) (map back_rule es) ≡ list_any (leads_into p n) es
any_back p n [] = refl
any_back p n (e ∷ es) = ap (λ b. leads_into p n e || b) (any_back p n es)

module _ (edges : List Edge) (end : ℕ) where
  abbrev back : List Rule
  back = map back_rule edges

  size : length (given back (end ∷ [])) ≡ suc (length edges)
  size = let a = length-map back head_of in let b = length-map edges back_rule in omega (arith, a, b)

  pub reaching_least : (count : ℕ) (found : List Bool) → IsLeast back (end ∷ []) count found → (n : ℕ) → holds found n ≡ reaching edges end n
  unfolding reaching
  reaching_least count found least n =
      least_round back (end ∷ []) count found least n ∙ ap (λ k. round (gives back (end ∷ [])) k n) size

  reaching_grows : IsPart (reaching edges end) (gives back (end ∷ []) (reaching edges end))
  unfolding reaching
  reaching_grows = later (gives back (end ∷ [])) (gives_mono back (end ∷ [])) (suc (length edges)) (suc (suc (length edges))) (omega arith)

  -- whatever reaches the end is it, or has an edge to what reaches it
  pub reaching_by : (n : ℕ) → reaching edges end n ≡ true → (n ≡ end) ⊎ Any (λ (e : Edge). leads_into (reaching edges end) n e ≡ true) edges
  reaching_by n e =
      by_cases (or_cases (list_any (λ s. s == n) (end ∷ [])) (list_any (gives_by (reaching edges end) n) back) (reaching_grows n e))
    where
      at_end : ((end == n) ≡ true) ⊎ (false ≡ true) → n ≡ end
      at_end (inl h) = sym (eqb-true end n h)
      at_end (inr h) = absurd (false≢true h)

      by_cases : (list_any (λ s. s == n) (end ∷ []) ≡ true) ⊎ (list_any (gives_by (reaching edges end) n) back ≡ true)
          → (n ≡ end) ⊎ Any (λ (e : Edge). leads_into (reaching edges end) n e ≡ true) edges
      by_cases (inl h) = inl (at_end (or_cases (end == n) false h))
      by_cases (inr h) =
          inr (Any-from_list_any (leads_into (reaching edges end) n) edges (sym (any_back (reaching edges end) n edges) ∙ h))

-- the least set under rules that lead back
pub searched : (edges : List Edge) (rules : List Rule) (end count : ℕ) (found : List Bool) → rules ≡ map back_rule edges → IsLeast rules (end ∷ []) count found
    → (n : ℕ) → holds found n ≡ reaching edges end n
searched edges rules end count found is least =
    let P : List Rule → Type 0 = λ z. IsLeast z (end ∷ []) count found in reaching_least edges end count found (subst P is least)

-- one more search is kept
pub search_kept : (edges : List Edge) (searches : List (Option (List Bool))) (at : ℕ) (found : List Bool) → at < length searches
    → ((n : ℕ) → holds found n ≡ reaching edges at n) → AreSearches edges searches → AreSearches edges (set searches at (Some found))
search_kept edges searches at found lt new are end other is n = by_cases (cases_eq end at)
  where
    by_cases : (end ≡ at) ⊎ (end ≡ at → ⊥) → holds other n ≡ reaching edges end n
    by_cases (inl e) =
        let S : ℕ → Type 0 = λ z. slice_get (set searches at (Some found)) z ≡ Some (Some other) in
        let here = get_or_from_slice_get (set searches at (Some found)) at (Some other) None (subst S e is) in
        let there = get_or-set_same searches at (Some found) None lt in
        let same : other ≡ found = cc in
        ap (λ z. holds z n) same ∙ new n ∙ ap (λ z. reaching edges z n) (sym e)
    by_cases (inr ne) =
        let below : end < length searches = omega (arith, slice_get_within (set searches at (Some found)) end (Some other) is, length-set searches at (Some found)) in
        let here = get_or_from_slice_get (set searches at (Some found)) end (Some other) None is in
        let there = get_or-set_other searches at end (Some found) None ne in
        let was = slice_get-get_or searches end None below in
        are end other (was ∙ ap Some (sym there ∙ here)) n

pub back_below : (count : ℕ) (edges : List Edge) → All (IsEdgeBelow count) edges → All (IsBelow count) (map back_rule edges)
back_below count edges below =
    All-map (IsBelow count) back_rule edges (λ k d lt. ((below k d lt).0, one (slice_index_or edges k d).to (below k d lt).1))
  where
    one : (to : ℕ) → to < count → All (λ b. b < count) (to ∷ [])
    one to lt zero d below = lt
    one to lt (suc k) d below = absurd (omega (arith, below))

-- ---- the first that passes a test

pub find_none : {A : Type 0} (p : A → Bool) (xs : List A) → All (λ x. p x ≡ false) xs → find p xs ≡ None
find_none p [] all = refl
find_none p (x ∷ xs) all = cond-false (p x) (Some x) (find p xs) (all 0 x (omega arith)) ∙ find_none p xs (λ k d lt. all (suc k) d (omega (arith, lt)))

pub find_first : {A : Type 0} (p : A → Bool) (xs : List A) (i : ℕ) (d : A) → i < length xs → ((k : ℕ) (e : A) → k < i → p (slice_index_or xs k e) ≡ false)
    → p (slice_index_or xs i d) ≡ true → find p xs ≡ Some (slice_index_or xs i d)
find_first p [] i d lt before h = absurd (omega (arith, lt))
find_first p (x ∷ xs) zero d lt before h = cond-true (p x) (Some x) (find p xs) h
find_first p (x ∷ xs) (suc i) d lt before h =
    cond-false (p x) (Some x) (find p xs) (before 0 x (omega arith))
    ∙ find_first p xs i d (omega (arith, lt)) (λ k e below. before (suc k) e (omega (arith, below))) h

-- ---- types that come to an end

module _ (edges : List Edge) (targets : List (List ℕ)) (are : AreTargets targets edges) (e : Edge) (k : ℕ) (below : k < length edges) (is : slice_index_or edges k e ≡ e)
    (trip : is_round_trip edges e ≡ true) where
  -- what does not lead to the edge's source
  abbrev away : Test ℕ
  away n = not (reaching edges e.from n)

  target_not_away : (n y : ℕ) → HasUser targets n y → reaching edges e.from y ≡ true → list_all away (users_at targets n) ≡ false
  target_not_away n y h r =
      let P : ℕ → Type 0 = λ z. away z ≡ false in
      list_all_at away (users_at targets n) h.0 0 h.1 (subst P (sym h.2) (ap not r))

  -- a type with an edge to what is not away
  source_not_away : (n : ℕ) → (n ≡ e.from) ⊎ Any (λ (f : Edge). leads_into (reaching edges e.from) n f ≡ true) edges → list_all away (users_at targets n) ≡ false
  source_not_away n (inl same) =
      let E : Edge → Type 0 = λ z. HasUser targets z.from z.to in
      let N : ℕ → Type 0 = λ z. HasUser targets z e.to in
      target_not_away n e.to (subst N (sym same) (subst E is (are k e below))) trip
  source_not_away n (inr a) =
      let f = a.1 in
      let parts = and_parts (f.from == n) (reaching edges e.from f.to && true) a.4 in
      let E : Edge → Type 0 = λ z. HasUser targets z.from z.to in
      let N : ℕ → Type 0 = λ z. HasUser targets z f.to in
      target_not_away n f.to (subst N (eqb-true f.from n parts.0) (subst E a.3 (are a.0 f a.2))) (and_parts (reaching edges e.from f.to) true parts.1).0

  pub off_cycle : (rules : List Rule) (count : ℕ) (found : List Bool) → All (λ (r : Rule). r.body ≡ users_at targets r.head) rules
      → IsLeast rules [] count found → holds found e.to ≡ false
  off_cycle rules count found bodies least = by_cases (cases_Bool (holds found e.to))
    where
      ruled : (r : Rule) → r.body ≡ users_at targets r.head → list_all away r.body ≡ true → (reaching edges e.from r.head ≡ true) ⊎ (reaching edges e.from r.head ≡ false) → away r.head ≡ true
      ruled r body all (inr h) = not_from_false (reaching edges e.from r.head) h
      ruled r body all (inl h) =
          absurd (true≢false (sym all ∙ ap (list_all away) body ∙ source_not_away r.head (reaching_by edges e.from r.head h)))

      closed : IsClosed rules [] away
      closed = record {
        seeded = λ j d lt. absurd (none j lt);
        ruled = λ j d lt all.
            let r = slice_index_or rules j d in
            ruled r (bodies j d lt) all (cases_Bool (reaching edges e.from r.head));
      }
        where
          none : (j : ℕ) → j < 0 → ⊥
          none j lt = omega (arith, lt)

      by_cases : (holds found e.to ≡ true) ⊎ (holds found e.to ≡ false) → holds found e.to ≡ false
      by_cases (inr h) = h
      by_cases (inl h) =
          let gone : away e.to ≡ true = least.sound away closed e.to h in
          absurd (false≢true (sym (not-true (reaching edges e.from e.to) gone) ∙ trip))
