-- Names of fields, types and constructors.
--
-- A name is a letter and then letters, digits and underscores, as the TON documentation on TL-B has it. A value
-- also has fields and constructors without a name: they are shown by their number, which is at least 1, as `_1` and
-- `_2`, or by `_` alone.
use Rattle.std.specs.Prelude.{ℕ, List, [], ◌∷◌, Bool, true, false, ◌&&◌, ◌||◌, ◌==◌, not, IsTrue}
use Rattle.std.specs.List.{list_all}
use Rattle.std.specs.Char.{is_ascii_alphabetic, is_ascii_alphanumeric, is_ascii_digit}

-- a letter, a digit or an underscore (95)
abbrev pub is_name_byte : ℕ → Bool
is_name_byte b = is_ascii_alphanumeric b || (b == 95)

-- digits that do not begin with a zero (48), or none
abbrev pub is_count : List ℕ → Bool
is_count [] = true
is_count (d ∷ ds) = (is_ascii_digit d && not (d == 48)) && list_all is_ascii_digit ds

abbrev pub is_name : List ℕ → Bool
is_name [] = false
is_name (b ∷ bs) = (is_ascii_alphabetic b && list_all is_name_byte bs) || ((b == 95) && is_count bs)

abbrev pub IsName : List ℕ → Type 0
IsName text = IsTrue (is_name text)
