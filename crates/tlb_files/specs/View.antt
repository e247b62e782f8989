-- Values of this crate, seen without where they lie in memory.
use Rattle.std.specs.Prelude.{ℕ, List, map, Vec}
use Rattle.std.specs.declared.alloc.Global.{Global}
use Rattle.tlb_files.specs.Counts.{FileName}
use Rattle.tlb_files.specs.declared.load.File.{File}

-- the name of a file and its limit
abbrev pub file_by : File → FileName
file_by file = record { name = file.name.now; limit = file.limit }

abbrev pub files_by : List File → List FileName
files_by files = map file_by files

-- the bytes of each file
abbrev pub bytes_of : Vec ℕ Global → List ℕ
bytes_of bytes = bytes.items

abbrev pub contents_of : List (Vec ℕ Global) → List (List ℕ)
contents_of contents = map bytes_of contents
