-- Facts under rules: the head of a rule holds where all of its body does.
use Rattle.std.specs.Prelude.{ℕ, ◌≡◌, ◌≢◌, ◌+◌, ◌<◌, ◌≤◌, ◌⊎◌, ◌==◌, ◌&&◌, ◌||◌, not, Bool, true, false, Option, List, length, slice_index, slice_index_or, All, count_by}
use Rattle.std.specs.List.{list_all, list_any}
use Rattle.tlb_guard.specs.declared.rules.Rule.{Rule}
use Rattle.tlb_guard.specs.declared.rules.State.{State}
use Rattle.tlb_guard.specs.Rounds.{Test, IsPart}
use Rattle.tlb_guard.specs.Numbering.{passes}

-- the set of the numbers at which the list is true
abbrev pub holds : List Bool → Test ℕ
holds found x = slice_index_or found x false

abbrev pub Obeys : Test ℕ → Rule → Type 0
Obeys p r = list_all p r.body ≡ true → p r.head ≡ true

-- the set has the seeds and obeys the rules
pub record IsClosed (rules : List Rule) (seeds : List ℕ) (p : Test ℕ) : Type 0 where
  pub seeded : All (λ x. p x ≡ true) seeds
  pub ruled : All (λ (r : Rule). Obeys p r) rules

-- it is a part of each closed set
abbrev pub IsSound : List Rule → List ℕ → Test ℕ → Type 0
IsSound rules seeds found = (p : Test ℕ) → IsClosed rules seeds p → IsPart found p

abbrev pub IsBelow : ℕ → Rule → Type 0
IsBelow count r = (r.head < count) × All (λ b. b < count) r.body

-- one use of the rules: the seeds, and the heads of the rules whose bodies are in the set
abbrev pub gives : List Rule → List ℕ → Test ℕ → Test ℕ
gives rules seeds p n = list_any (λ s. s == n) seeds || list_any (λ (r : Rule). r.head == n && list_all p r.body) rules

-- the things whose numbers are in the set
abbrev pub seen : {A : Type 0} → (A → Option ℕ) → Test ℕ → Test A
seen number p x = passes p (number x)

-- ---- a search

-- the facts of the queue are those that are found, each once
pub record IsSearch (s : State) : Type 0 where
  pub queued : (x : ℕ) → holds s.found x ≡ true → (k : ℕ) × (k < length s.queue) × (slice_index s.queue k ≡ x)
  pub found : (k : ℕ) → k < length s.queue → holds s.found (slice_index s.queue k) ≡ true
  pub sizes : length s.queue + count_by not s.found ≡ length s.found

pub record Extends (s t : State) : Type 0 where
  pub facts : length t.found ≡ length s.found
  pub longer : length s.queue ≤ length t.queue
  pub kept : (k : ℕ) → k < length s.queue → slice_index t.queue k ≡ slice_index s.queue k
  pub more : IsPart (holds s.found) (holds t.found)

-- a fact that is not among the first n of the queue
abbrev pub IsLate : List ℕ → ℕ → ℕ → Type 0
IsLate queue n x = (k : ℕ) → k < n → slice_index queue k ≢ x

-- the rule's head is found, or some fact of its body is not among the first n of the queue
abbrev pub IsServed : State → ℕ → Rule → Type 0
IsServed s n r = (holds s.found r.head ≡ true) ⊎ ((j : ℕ) × (j < length r.body) × IsLate s.queue n (slice_index r.body j))

-- each rule that has the fact in its body is among these users
abbrev pub AreUsers : List Rule → ℕ → List ℕ → Type 0
AreUsers rules fact users =
    (k : ℕ) (d : Rule) (j : ℕ) → k < length rules → j < length (slice_index_or rules k d).body → slice_index (slice_index_or rules k d).body j ≡ fact
    → (i : ℕ) × (i < length users) × (slice_index users i ≡ k)

-- the set is closed, and a part of each closed set
pub record IsLeast (rules : List Rule) (seeds : List ℕ) (count : ℕ) (found : List Bool) : Type 0 where
  pub facts : length found ≡ count
  pub closed : IsClosed rules seeds (holds found)
  pub sound : IsSound rules seeds (holds found)
