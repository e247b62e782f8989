-- Numbers in two's complement, and bit strings by their widths.
use Rattle.std.specs.Prelude.{ℕ, ◌≡◌, ◌+◌, ◌*◌, ◌^◌, ◌<◌, ◌≤◌, Bool, true, false, Option, Some, None}
use Rattle.spelling.specs.Goals.{Row, integer, natural, no_row, string}

-- the number of w bits that an integer of this sign and size has in two's complement, if it has so many
abbrev pub IsComplement : Bool → ℕ → ℕ → Option ℕ → Type 0
IsComplement false n w (Some m) = (2 * n < 2 ^ w) × (m ≡ n)
IsComplement true n w (Some m) = (2 * n ≤ 2 ^ w) × (m + n ≡ 2 ^ w)
IsComplement false n w None = 2 ^ w ≤ 2 * n
IsComplement true n w None = 2 ^ w < 2 * n

-- how many bits a row takes as they are
abbrev pub width_of : Row → Option ℕ
width_of (string w) = Some w
width_of (natural w bound named) = None
width_of (integer w) = None
width_of no_row = None
