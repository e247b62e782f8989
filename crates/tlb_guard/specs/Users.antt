-- For each fact the rules that have it in their bodies.
use Rattle.std.specs.Prelude.{ℕ, ◌≡◌, ◌<◌, List, [], length, slice_index, slice_index_or, All}
use Rattle.tlb_guard.specs.declared.rules.Rule.{Rule}

abbrev pub users_at : List (List ℕ) → ℕ → List ℕ
users_at users fact = slice_index_or users fact []

-- the rule is among those of the fact
abbrev pub HasUser : List (List ℕ) → ℕ → ℕ → Type 0
HasUser users fact rule = (i : ℕ) × (i < length (users_at users fact)) × (slice_index (users_at users fact) i ≡ rule)

-- the first n rules are among those of each fact in their bodies
abbrev pub AreUsersTo : List (List ℕ) → List Rule → ℕ → Type 0
AreUsersTo users rules n =
    (k : ℕ) (d : Rule) (j : ℕ) → k < n → j < length (slice_index_or rules k d).body
    → HasUser users (slice_index (slice_index_or rules k d).body j) k

-- the rules are among the first n
abbrev pub AreNumbersBelow : ℕ → List (List ℕ) → Type 0
AreNumbersBelow n users = All (All (λ k. k < n)) users
