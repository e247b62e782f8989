-- What is held under names. A name is the list of its bytes, and the first entry of a name counts.
use Rattle.std.specs.Prelude.{ℕ, List, [], ◌∷◌, Option, None, Some, slice_get, if◌then◌else◌, map, Vec, String, string_bytes}
use Rattle.std.specs.Str.{bytes_eq}
use Rattle.std.specs.Option.{option_map}
use Rattle.std.specs.declared.alloc.Global.{Global}

abbrev pub Name : Type 0
Name = List ℕ

abbrev pub Files : Type 0
Files = List (Name × List ℕ)

-- the bytes that are held under a name
abbrev pub file_at : Files → Name → Option (List ℕ)
file_at [] name = None
file_at (file ∷ files) name = if bytes_eq file.0 name then Some file.1 else file_at files name

-- the same, where what is held is reported
abbrev pub reported_at : Option Files → Name → Option (List ℕ)
reported_at None name = None
reported_at (Some files) name = file_at files name

-- entries in memory, seen as names and bytes
abbrev pub entry : String Global × Vec ℕ Global → Name × List ℕ
entry e = (string_bytes e.0, e.1.items)

abbrev pub entries : List (String Global × Vec ℕ Global) → Files
entries es = map entry es

-- the bytes of the i-th entry
abbrev pub bytes_at : List (String Global × Vec ℕ Global) → ℕ → Option (List ℕ)
bytes_at es i = option_map (λ e. e.1.items) (slice_get es i)
