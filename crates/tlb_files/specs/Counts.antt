-- The counts of a shelf, and files that were opened one after the other.
use Rattle.std.specs.Prelude.{◌≡◌, ℕ, zero, suc, ◌+◌, ◌≤◌, List, [], ◌∷◌, length, ⊤, Option, None, Some}
use Rattle.tlb_edge.specs.Causes.{counted}
use Rattle.tlb_edge.specs.Files.{Name}

-- the name of a file, with the most bytes that it may have
pub record FileName : Type 0 where
  pub name : Name
  pub limit : ℕ

-- the calls of `open`, the bytes given since the last one, the calls of `read`, and the calls that failed
pub record Counts : Type 0 where
  pub opens : ℕ
  pub given : ℕ
  pub reads : Option ℕ
  pub faults : ℕ

abbrev pub counts : ℕ → ℕ → Option ℕ → ℕ → Counts
counts opens given reads faults = record { opens = opens; given = given; reads = reads; faults = faults }

-- a count after so many calls
abbrev pub counted_times : ℕ → ℕ → ℕ
counted_times count zero = count
counted_times count (suc n) = counted count (suc n)

-- each of the first files gave so many bytes, at most one past its limit
abbrev pub AreGiven : List FileName → List ℕ → Type 0
AreGiven files [] = ⊤
AreGiven [] (n ∷ ns) = ⊥
AreGiven (file ∷ files) (n ∷ ns) = (n ≤ file.limit + 1) × AreGiven files ns

-- the last of some numbers, or that before them
abbrev pub last_of : List ℕ → ℕ → ℕ
last_of [] before = before
last_of (n ∷ ns) before = last_of ns n

-- the most reads of files that gave so many bytes: one a byte, and for each file one more
abbrev pub most_reads : List ℕ → ℕ
most_reads [] = 0
most_reads (n ∷ ns) = (n + 1) + most_reads ns

-- a count, where reported, rose by at most so many
abbrev pub RoseAtMost : ℕ → Option ℕ → Option ℕ → Type 0
RoseAtMost n None now = now ≡ None
RoseAtMost n (Some before) None = ⊥
RoseAtMost n (Some before) (Some now) = now ≤ before + n

-- The first so many of the files were opened, each once and in their order.
pub record Opens (files : List FileName) (count : ℕ) (before now : Counts) : Type 0 where
  pub gave : List ℕ
  pub each_once : length gave ≡ count
  pub are_given : AreGiven files gave
  pub opens : now.opens ≡ counted_times before.opens count
  pub given : now.given ≡ last_of gave before.given
  pub reads : RoseAtMost (most_reads gave) before.reads now.reads
