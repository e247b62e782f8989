-- What was loaded is what is held.
use Rattle.std.specs.Prelude.{◌≡◌, ℕ, ◌<◌, ◌≤◌, List, [], ◌∷◌, length, ⊤, Option, None, Some, IfSome}
use Rattle.std.specs.Io.KnownBytes.{prepend_known}
use Rattle.tlb_edge.specs.Files.{Files, reported_at}
use Rattle.tlb_files.specs.Counts.{FileName}
use Rattle.tlb_files.specs.Loading.{Loading, not_held, loading}

-- a file, where reported, is what was taken and then what is left
abbrev pub Splits : Option (List ℕ) → List ℕ → Option (List ℕ) → Type 0
Splits None taken rest = ⊤
Splits (Some file) taken rest = Some file ≡ prepend_known taken rest

-- each file's bytes are within its limit
abbrev pub AreShort : List FileName → List (List ℕ) → Type 0
AreShort [] [] = ⊤
AreShort [] (bytes ∷ contents) = ⊥
AreShort (file ∷ files) [] = ⊥
AreShort (file ∷ files) (bytes ∷ contents) = (length bytes ≤ file.limit) × AreShort files contents

-- it is this, but where a file is not held
abbrev pub IsOrNotHeld : Loading → Loading → Type 0
IsOrNotHeld not_held found = ⊤
IsOrNotHeld loading found = loading ≡ found

-- it is what the files hold, where that is reported and each is held
abbrev pub IsLoading : Option Files → List FileName → Loading → Type 0
IsLoading None files found = ⊤
IsLoading (Some held) files found = IsOrNotHeld (loading held files) found
