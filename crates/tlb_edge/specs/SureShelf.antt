-- What a shelf that never fails shows: its files, what is left of the open one, and its counts.
use Rattle.std.specs.Prelude.{ℕ, List, Bool, is_some}
use Rattle.tlb_edge.specs.Files.{Files, entries}
use Rattle.tlb_edge.specs.Left.{left_from}
use Rattle.tlb_edge.specs.declared.shelf.SureShelf.{SureShelf}

-- the files, of which the first entry of a name counts
abbrev pub held_by : SureShelf → Files
held_by s = entries s.files.items

-- whether a file is open
abbrev pub some_open : SureShelf → Bool
some_open s = is_some s.current

-- the unread bytes of the open file, none where no file is open
abbrev pub left_of : SureShelf → List ℕ
left_of s = left_from s.files.items s.place s.current

-- how many bytes were handed out since the last open
abbrev pub given_of : SureShelf → ℕ
given_of s = s.given

-- how many calls of open there were
abbrev pub opens_of : SureShelf → ℕ
opens_of s = s.opens

-- how many calls of read there were
abbrev pub reads_of : SureShelf → ℕ
reads_of s = s.reads
