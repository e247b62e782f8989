-- What a shelf in memory shows: its files, what is left of the open one, its counts, and the calls
-- that fail.
use Rattle.std.specs.Prelude.{ℕ, List, Bool, is_some}
use Rattle.tlb_edge.specs.Files.{Files, entries}
use Rattle.tlb_edge.specs.Left.{left_from}
use Rattle.tlb_edge.specs.declared.shelf.MemShelf.{MemShelf}

-- the files, of which the first entry of a name counts
abbrev pub held_by : MemShelf → Files
held_by s = entries s.files.items

-- whether a file is open
abbrev pub some_open : MemShelf → Bool
some_open s = is_some s.current

-- the unread bytes of the open file, none where no file is open
abbrev pub left_of : MemShelf → List ℕ
left_of s = left_from s.files.items s.place s.current

-- how many bytes were handed out since the last open
abbrev pub given_of : MemShelf → ℕ
given_of s = s.given

-- how many calls of open there were
abbrev pub opens_of : MemShelf → ℕ
opens_of s = s.opens

-- how many calls of read there were
abbrev pub reads_of : MemShelf → ℕ
reads_of s = s.reads

-- how many calls have failed
abbrev pub faults_of : MemShelf → ℕ
faults_of s = s.faults

-- how many calls of open and read there were, so that it is the number of the last one
abbrev pub calls_of : MemShelf → ℕ
calls_of s = s.calls

-- the numbers of the calls that fail
abbrev pub failing_of : MemShelf → List ℕ
failing_of s = s.failing.items
