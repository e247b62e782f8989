-- The name by which the constructor at a place of its type is shown.
use Rattle.std.specs.Prelude.{ℕ, ◌==◌, ◌&&◌, bytes_eq, [], ◌∷◌, Option, Some, None, if◌then◌else◌}
use Rattle.core_form.specs.Core.{CoreSchema, Word}

-- of the first declaration with this type and this number in it
abbrev pub shown_at : CoreSchema → Word → ℕ → Option Word
shown_at [] x n = None
shown_at (d ∷ ds) x n = if bytes_eq d.of_type x && d.number == n then Some d.shown else shown_at ds x n
