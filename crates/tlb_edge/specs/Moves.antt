-- What the calls of a shelf and of a sink do to the bytes that they report.
use Rattle.std.specs.Prelude.{◌≡◌, ℕ, ◌<◌, ◌≤◌, List, length, take, ⊤, Option, None, Some, Result, MatchResult}
use Rattle.std.specs.Io.KnownBytes.{append_known, prepend_known, IsAtEnd}
use Rattle.tlb_edge.specs.Causes.{counted}

-- what is reported to be left of the file that is open is this
abbrev pub Leaves : Option (List ℕ) → Option (List ℕ) → Type 0
Leaves None rest = ⊤
Leaves (Some bytes) rest = rest ≡ Some bytes

-- A read took a prefix of what is left, of its count, and 0 with room only at the end. A failed one
-- took nothing.
abbrev pub Reads : {E : Type 0} → Option (List ℕ) → Option (List ℕ) → Result ℕ E → List ℕ → Type 0
Reads old new result buf = MatchResult result
    (λ n. (old ≡ prepend_known (take n buf) new) × (n ≡ 0 → 0 < length buf → IsAtEnd old))
    (λ _. new ≡ old)

-- `given` rose by the count of a read
abbrev pub Gives : {E : Type 0} → ℕ → ℕ → Result ℕ E → Type 0
Gives old new result = MatchResult result (λ n. new ≡ counted old n) (λ _. new ≡ old)

-- these bytes were appended, where that is reported
abbrev pub Writes : Option (List ℕ) → Option (List ℕ) → List ℕ → Type 0
Writes old new bytes = new ≡ append_known old bytes

-- a prefix of the bytes was appended, where that is reported
abbrev pub WritesPrefix : Option (List ℕ) → Option (List ℕ) → List ℕ → Type 0
WritesPrefix old new bytes = (n : ℕ) × (n ≤ length bytes) × Writes old new (take n bytes)
