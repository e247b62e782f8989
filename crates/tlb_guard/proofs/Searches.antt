-- A search for facts: what each step keeps.
use Rattle.std.proofs.Common.{◌≡◌, ℕ, zero, suc, ◌+◌, ◌<◌, ◌≤◌, ◌⊎◌, inl, inr, Bool, true, false, not, ◌&&◌, List, [], ◌∷◌, ◌++◌, length, set, replicate, refl, sym, ap, ◌∙◌, subst, arith, length-append, get_or-set_same, get_or-set_other}
use Rattle.std.specs.Prelude.{cond, count_by, slice_index, slice_index_or}
use Rattle.std.specs.List.{list_all}
use Rattle.std.proofs.lemmas.Bool.{false≢true, true≢false, and_parts, and_from, cases_eq}
use Rattle.std.proofs.lemmas.List.{length-replicate, length-set, get_or_append_left, get_or_at, get_or_default}
use Rattle.std.proofs.lemmas.List.Folds.{sum_by-replicate}
use Rattle.std.proofs.lemmas.List.Sums.{sum_by-set, AllPass-from_list_all}
use Rattle.tlb_guard.specs.declared.rules.Rule.{Rule}
use Rattle.tlb_guard.specs.declared.rules.State.{State}
use Rattle.tlb_guard.specs.Rounds.{Test, IsPart}
use Rattle.tlb_guard.specs.Facts.{holds, Obeys, IsSound, IsSearch, Extends, IsServed, AreUsers}

abbrev pub state : List Bool → List ℕ → State
state found queue = record { found = found; queue = queue }

-- what is found is among the facts
pub holds_below : (found : List Bool) (x : ℕ) → holds found x ≡ true → x < length found
holds_below [] x h = absurd (false≢true h)
holds_below (b ∷ bs) zero h = omega arith
holds_below (b ∷ bs) (suc x) h = omega (arith, holds_below bs x h)

none_hold : (n x : ℕ) → holds (replicate n false) x ≡ true → ⊥
none_hold zero x h = false≢true h
none_hold (suc n) zero h = false≢true h
none_hold (suc n) (suc x) h = none_hold n x h

all_unfound : (n : ℕ) → count_by not (replicate n false) ≡ n
all_unfound n = let e = sum_by-replicate (λ b. cond (not b) 1 0) n false in omega (arith, e)

-- a search begins with nothing
pub first_search : (n : ℕ) → IsSearch (state (replicate n false) [])
first_search n = record {
  queued = λ x h. absurd (none_hold n x h);
  found = λ k lt. absurd (nothing_below k lt);
  sizes = (let a = all_unfound n in let b = length-replicate n false in omega (arith, a, b));
}
  where
    nothing_below : (k : ℕ) → k < 0 → ⊥
    nothing_below k lt = omega (arith, lt)

pub first_sound : (n : ℕ) (rules : List Rule) (seeds : List ℕ) → IsSound rules seeds (holds (replicate n false))
first_sound n rules seeds p closed x h = absurd (none_hold n x h)

-- one more fact is found
set_holds : (found : List Bool) (fact x : ℕ) → holds (set found fact true) x ≡ true → (x ≡ fact) ⊎ (holds found x ≡ true)
set_holds found fact x h = by_cases (cases_eq x fact)
  where
    by_cases : (x ≡ fact) ⊎ (x ≡ fact → ⊥) → (x ≡ fact) ⊎ (holds found x ≡ true)
    by_cases (inl e) = inl e
    by_cases (inr ne) = inr (sym (get_or-set_other found fact x true false ne) ∙ h)

pub set_more : (found : List Bool) (fact x : ℕ) → fact < length found → holds found x ≡ true → holds (set found fact true) x ≡ true
set_more found fact x lt h = by_cases (cases_eq x fact)
  where
    by_cases : (x ≡ fact) ⊎ (x ≡ fact → ⊥) → holds (set found fact true) x ≡ true
    by_cases (inl e) = ap (holds (set found fact true)) e ∙ get_or-set_same found fact true false lt
    by_cases (inr ne) = get_or-set_other found fact x true false ne ∙ h

one_fewer : (found : List Bool) (fact : ℕ) → fact < length found → holds found fact ≡ false → count_by not (set found fact true) + 1 ≡ count_by not found
one_fewer found fact lt new =
    let unfound : Bool → ℕ = λ b. cond (not b) 1 0 in
    let e = sum_by-set unfound found fact true false lt in
    let was : unfound (holds found fact) ≡ 1 = ap unfound new in
    omega (arith, e, was)

pub push_search : (found : List Bool) (queue : List ℕ) (fact : ℕ) → fact < length found → holds found fact ≡ false → IsSearch (state found queue)
    → IsSearch (state (set found fact true) (queue ++ fact ∷ []))
push_search found queue fact lt new s = record {
  queued = λ x h. in_queue x (set_holds found fact x h);
  found = λ k below. is_found k below (cases_eq k (length queue));
  sizes =
      (let a = length-append queue (fact ∷ []) in
      let b = length-set found fact true in
      let c = one_fewer found fact lt new in
      let d = s.sizes in
      omega (arith, a, b, c, d));
}
  where
    in_queue : (x : ℕ) → (x ≡ fact) ⊎ (holds found x ≡ true) → (k : ℕ) × (k < length (queue ++ fact ∷ [])) × (slice_index (queue ++ fact ∷ []) k ≡ x)
    in_queue x (inl e) =
        (length queue, omega (arith, length-append queue (fact ∷ [])), get_or_at queue fact [] 0 (length queue) refl ∙ sym e)
    in_queue x (inr h) =
        let q = s.queued x h in
        (q.0, omega (arith, q.1, length-append queue (fact ∷ [])), get_or_append_left queue (fact ∷ []) 0 q.0 q.1 ∙ q.2)

    is_found : (k : ℕ) → k < length (queue ++ fact ∷ []) → (k ≡ length queue) ⊎ (k ≡ length queue → ⊥) → holds (set found fact true) (slice_index (queue ++ fact ∷ []) k) ≡ true
    is_found k below (inl e) =
        ap (holds (set found fact true)) (get_or_at queue fact [] 0 k (sym e)) ∙ get_or-set_same found fact true false lt
    is_found k below (inr ne) =
        let inside : k < length queue = omega (arith, below, ne, length-append queue (fact ∷ [])) in
        ap (holds (set found fact true)) (get_or_append_left queue (fact ∷ []) 0 k inside)
        ∙ set_more found fact (slice_index queue k) lt (s.found k inside)

-- ---- rules

pub all_weaker : (p q : Test ℕ) → IsPart p q → (xs : List ℕ) → list_all p xs ≡ true → list_all q xs ≡ true
all_weaker p q part [] h = h
all_weaker p q part (x ∷ xs) h =
    let parts = and_parts (p x) (list_all p xs) h in
    and_from (q x) (list_all q xs) (part x parts.0) (all_weaker p q part xs parts.1)

-- a search that finds the head of a rule whose body is found stays sound
pub rule_sound : (found : List Bool) (r : Rule) → list_all (holds found) r.body ≡ true
    → (rules : List Rule) (seeds : List ℕ) (k : ℕ) → k < length rules → slice_index_or rules k r ≡ r
    → IsSound rules seeds (holds found) → IsSound rules seeds (holds (set found r.head true))
rule_sound found r met rules seeds k lt is sound p closed x h = by_cases (set_holds found r.head x h)
  where
    obeyed : Obeys p r
    obeyed = let P : Rule → Type 0 = λ z. Obeys p z in subst P is (closed.ruled k r lt)

    by_cases : (x ≡ r.head) ⊎ (holds found x ≡ true) → p x ≡ true
    by_cases (inl e) = ap p e ∙ obeyed (all_weaker (holds found) p (sound p closed) r.body met)
    by_cases (inr old) = sound p closed x old

pub seed_sound : (found : List Bool) (seed : ℕ) (rules : List Rule) (seeds : List ℕ) (k : ℕ) → k < length seeds → slice_index seeds k ≡ seed
    → IsSound rules seeds (holds found) → IsSound rules seeds (holds (set found seed true))
seed_sound found seed rules seeds k lt is sound p closed x h = by_cases (set_holds found seed x h)
  where
    by_cases : (x ≡ seed) ⊎ (holds found x ≡ true) → p x ≡ true
    by_cases (inl e) = ap p (e ∙ sym is) ∙ closed.seeded k 0 lt
    by_cases (inr old) = sound p closed x old

-- where not all pass, one does not
some_fails : (p : Test ℕ) (xs : List ℕ) → list_all p xs ≡ false → (j : ℕ) × (j < length xs) × (p (slice_index xs j) ≡ false)
some_fails p [] h = absurd (true≢false h)
some_fails p (x ∷ xs) h = at_head (p x) refl h (some_fails p xs)
  where
    at_head : (b : Bool) → p x ≡ b → (b && list_all p xs) ≡ false → (list_all p xs ≡ false → (j : ℕ) × (j < length xs) × (p (slice_index xs j) ≡ false))
        → (j : ℕ) × (j < length (x ∷ xs)) × (p (slice_index (x ∷ xs) j) ≡ false)
    at_head true is e rest = let r = rest e in (suc r.0, omega (arith, r.1), r.2)
    at_head false is e rest = (0, omega arith, is)

pub unmet_served : (found : List Bool) (queue : List ℕ) (r : Rule) → list_all (holds found) r.body ≡ false → IsSearch (state found queue)
    → (n : ℕ) → n ≤ length queue → IsServed (state found queue) n r
unmet_served found queue r unmet s n le =
    let f = some_fails (holds found) r.body unmet in
    inr (f.0, f.1, λ k lt e. false≢true (sym f.2 ∙ (ap (holds found) (sym e) ∙ s.found k (omega (arith, lt, le)))))

-- ---- later states

pub extends_none : (s : State) → Extends s s
extends_none s = record { facts = refl; longer = omega arith; kept = λ k lt. refl; more = λ x h. h }

pub extends_twice : (s t u : State) → Extends s t → Extends t u → Extends s u
extends_twice s t u a b = record {
  facts = b.facts ∙ a.facts;
  longer = omega (arith, a.longer, b.longer);
  kept = λ k lt. b.kept k (omega (arith, lt, a.longer)) ∙ a.kept k lt;
  more = λ x h. b.more x (a.more x h);
}

-- a rule that is served stays served
pub served_later : (s t : State) (n : ℕ) (r : Rule) → Extends s t → n ≤ length s.queue → IsServed s n r → IsServed t n r
served_later s t n r x le (inl h) = inl (x.more r.head h)
served_later s t n r x le (inr late) =
    inr (late.0, late.1, λ k lt e. late.2 k lt (sym (x.kept k (omega (arith, lt, le))) ∙ e))

-- ---- closed

-- where all facts of the queue are done with, each rule that is served obeys
pub served_obeys : (s : State) (r : Rule) → IsSearch s → IsServed s (length s.queue) r → Obeys (holds s.found) r
served_obeys s r search (inl h) met = h
served_obeys s r search (inr late) met =
    let there = search.queued (slice_index r.body late.0) (member_passes (holds s.found) r.body late.0 late.1 met) in
    absurd (late.2 there.0 there.1 there.2)
  where
    member_passes : (p : Test ℕ) (xs : List ℕ) (j : ℕ) → j < length xs → list_all p xs ≡ true → p (slice_index xs j) ≡ true
    member_passes p xs j lt h = AllPass-from_list_all p xs h j 0 lt

-- one more fact of the queue is done with: the rules that have it in their bodies are served anew
pub served_next : (s t : State) (n k : ℕ) (rules : List Rule) (d : Rule) (users : List ℕ) → Extends s t → n < length s.queue → k < length rules
    → AreUsers rules (slice_index s.queue n) users
    → IsServed s n (slice_index_or rules k d)
    → ((i : ℕ) → i < length users → IsServed t (n + 1) (slice_index_or rules (slice_index users i) d))
    → IsServed t (n + 1) (slice_index_or rules k d)
served_next s t n k rules d users x lt within are (inl h) anew = inl (x.more (slice_index_or rules k d).head h)
served_next s t n k rules d users x lt within are (inr late) anew = by_cases (cases_eq (slice_index s.queue n) (slice_index (slice_index_or rules k d).body late.0))
  where
    by_cases : (slice_index s.queue n ≡ slice_index (slice_index_or rules k d).body late.0) ⊎ (slice_index s.queue n ≡ slice_index (slice_index_or rules k d).body late.0 → ⊥)
        → IsServed t (n + 1) (slice_index_or rules k d)
    by_cases (inl e) =
        let u = are k d late.0 within late.1 (sym e) in
        let P : ℕ → Type 0 = λ j. IsServed t (n + 1) (slice_index_or rules j d) in
        subst P u.2 (anew u.0 u.1)
    by_cases (inr ne) = inr (late.0, late.1, λ j below e. at_place j e (cases_eq j n) below)
      where
        at_place : (j : ℕ) → slice_index t.queue j ≡ slice_index (slice_index_or rules k d).body late.0 → (j ≡ n) ⊎ (j ≡ n → ⊥) → j < n + 1 → ⊥
        at_place j e (inl same) below = ne (ap (slice_index s.queue) (sym same) ∙ sym (x.kept j (omega (arith, same, lt))) ∙ e)
        at_place j e (inr other) below = late.2 j (omega (arith, below, other)) (sym (x.kept j (omega (arith, below, lt, other))) ∙ e)

-- what is served at its place
pub served_at : (t : State) (n : ℕ) (rules : List Rule) (i k : ℕ) (r d : Rule) → k ≡ i → i < length rules → r ≡ slice_index_or rules i r → IsServed t n r
    → IsServed t n (slice_index_or rules k d)
served_at t n rules i k r d same lt is served =
    let e : r ≡ slice_index_or rules k d = is ∙ get_or_default rules i r d lt ∙ ap (λ j. slice_index_or rules j d) (sym same) in
    let P : Rule → Type 0 = λ z. IsServed t n z in
    subst P e served

-- one more rule is served
pub served_more : (s t : State) (rules : List Rule) (i : ℕ) (r : Rule) → Extends s t → i < length rules → r ≡ slice_index_or rules i r → IsServed t 0 r
    → ((k : ℕ) (d : Rule) → k < i → IsServed s 0 (slice_index_or rules k d))
    → (k : ℕ) (d : Rule) → k < i + 1 → IsServed t 0 (slice_index_or rules k d)
served_more s t rules i r x lt is served before k d below = by_cases (cases_eq k i)
  where
    by_cases : (k ≡ i) ⊎ (k ≡ i → ⊥) → IsServed t 0 (slice_index_or rules k d)
    by_cases (inl e) = served_at t 0 rules i k r d e lt is served
    by_cases (inr ne) = served_later s t 0 (slice_index_or rules k d) x (omega arith) (before k d (omega (arith, below, ne)))

-- one more user is served
pub user_more : (s t : State) (n : ℕ) (rules : List Rule) (users : List ℕ) (i : ℕ) (r : Rule) → Extends s t → n ≤ length s.queue
    → slice_index users i < length rules → r ≡ slice_index_or rules (slice_index users i) r → IsServed t n r
    → ((k : ℕ) (d : Rule) → k < i → IsServed s n (slice_index_or rules (slice_index users k) d))
    → (k : ℕ) (d : Rule) → k < i + 1 → IsServed t n (slice_index_or rules (slice_index users k) d)
user_more s t n rules users i r x le lt is served before k d below = by_cases (cases_eq k i)
  where
    by_cases : (k ≡ i) ⊎ (k ≡ i → ⊥) → IsServed t n (slice_index_or rules (slice_index users k) d)
    by_cases (inl e) = served_at t n rules (slice_index users i) (slice_index users k) r d (ap (slice_index users) e) lt is served
    by_cases (inr ne) = served_later s t n (slice_index_or rules (slice_index users k) d) x le (before k d (omega (arith, below, ne)))

-- one more seed is found
pub seed_more : (s t : State) (seeds : List ℕ) (i : ℕ) → Extends s t → holds t.found (slice_index seeds i) ≡ true
    → ((k : ℕ) → k < i → holds s.found (slice_index seeds k) ≡ true)
    → (k : ℕ) → k < i + 1 → holds t.found (slice_index seeds k) ≡ true
seed_more s t seeds i x now before k below = by_cases (cases_eq k i)
  where
    by_cases : (k ≡ i) ⊎ (k ≡ i → ⊥) → holds t.found (slice_index seeds k) ≡ true
    by_cases (inl e) = ap (λ j. holds t.found (slice_index seeds j)) e ∙ now
    by_cases (inr ne) = x.more (slice_index seeds k) (before k (omega (arith, below, ne)))
