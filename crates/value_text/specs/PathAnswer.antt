-- What reading a path may answer.
use Rattle.std.specs.Prelude.{ℕ, Result, Ok, Err}
use Rattle.value_text.specs.declared.path.PathError.{PathError}
use Rattle.value_text.specs.declared.path.PathError.TheVariants.{BadPath, NoMemory}

-- whatever the answer is but out of memory, it is so
abbrev pub IfPathAnswered : {X : Type 0} → Result X PathError → (X → Type 0) → (ℕ → Type 0) → Type 0
IfPathAnswered (Ok x) P Q = P x
IfPathAnswered (Err NoMemory) P Q = Unit {0}
IfPathAnswered (Err (BadPath place)) P Q = Q place
