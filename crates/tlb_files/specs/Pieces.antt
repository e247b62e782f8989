-- A text that is put in pieces.
use Rattle.std.specs.Prelude.{◌≡◌, ℕ, ◌+◌, ◌/◌, List, length, Option}
use Rattle.tlb_edge.specs.Moves.{Writes, WritesPrefix}
use Rattle.tlb_files.specs.Counts.{RoseAtMost}

-- how many pieces of 256 bytes a text has, of which the last holds what is left
abbrev pub pieces : ℕ → ℕ
pieces size = (size + 255) / 256

-- what was written to a sink, and the calls of `put`, where reported
pub record Output : Type 0 where
  pub written : Option (List ℕ)
  pub puts : Option ℕ

abbrev pub output : Option (List ℕ) → Option ℕ → Output
output written puts = record { written = written; puts = puts }

-- the text was put, by at most one call a piece
pub record Puts (before now : Output) (text : List ℕ) : Type 0 where
  pub writes : Writes before.written now.written text
  pub puts : RoseAtMost (pieces (length text)) before.puts now.puts

-- the same of a prefix of the text
pub record PutsPrefix (before now : Output) (text : List ℕ) : Type 0 where
  pub writes : WritesPrefix before.written now.written text
  pub puts : RoseAtMost (pieces (length text)) before.puts now.puts
