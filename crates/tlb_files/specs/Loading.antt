-- What files hold, loaded in their order up to the first that is too long.
use Rattle.std.specs.Prelude.{ℕ, List, [], ◌∷◌, length, nat_lt, Option, None, Some, if◌then◌else◌}
use Rattle.tlb_edge.specs.Files.{Files, file_at}
use Rattle.tlb_files.specs.Counts.{FileName}

-- a file is not held, or it is longer than its limit, or each file's bytes
pub data Loading : Type 0 where
  not_held : Loading
  too_long : FileName → Loading
  loaded : List (List ℕ) → Loading

-- the bytes of a file before those of others
abbrev pub with_bytes : List ℕ → Loading → Loading
with_bytes bytes not_held = not_held
with_bytes bytes (too_long file) = too_long file
with_bytes bytes (loaded rest) = loaded (bytes ∷ rest)

-- a file before others
abbrev pub with_file : FileName → Option (List ℕ) → Loading → Loading
with_file file None rest = not_held
with_file file (Some bytes) rest = if nat_lt file.limit (length bytes) then too_long file else with_bytes bytes rest

-- the one fold over the files of a command
abbrev pub loading : Files → List FileName → Loading
loading held [] = loaded []
loading held (file ∷ files) = with_file file (file_at held file.name) (loading held files)
