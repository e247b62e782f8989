-- The classes of bytes of which a schema's tokens are made. The TON documentation on TL-B gives the
-- signs of the language; where it leaves a spelling open, these lines fix it.
use Rattle.std.specs.Prelude.{ℕ, Bool, not, ◌==◌, ◌&&◌, ◌||◌, nat_le, codes}
use Rattle.std.specs.List.{list_any}

-- a space, a tab, a carriage return or a line feed
abbrev pub is_white : ℕ → Bool
is_white b = b == 32 || b == 9 || b == 13 || b == 10

-- A to Z, a to z
abbrev pub is_letter : ℕ → Bool
is_letter b = (nat_le 65 b && nat_le b 90) || (nat_le 97 b && nat_le b 122)

-- 0 to 9
abbrev pub is_digit : ℕ → Bool
is_digit b = nat_le 48 b && nat_le b 57

-- what a name goes on with: a letter, a digit or `_`
abbrev pub is_name_byte : ℕ → Bool
is_name_byte b = is_letter b || is_digit b || b == 95

-- 0 or 1
abbrev pub is_bit : ℕ → Bool
is_bit b = b == 48 || b == 49

-- a hexadecimal digit of either case
abbrev pub is_hex_digit : ℕ → Bool
is_hex_digit b = is_digit b || (nat_le 65 b && nat_le b 70) || (nat_le 97 b && nat_le b 102)

-- the symbols of one byte
abbrev pub is_sign : ℕ → Bool
is_sign b = list_any (λ s. s == b) (codes "#:;=(){}[]^~?.*+<>!")

-- the symbols of two bytes: ## #< <= >=
abbrev pub is_sign_of_two : ℕ → ℕ → Bool
is_sign_of_two b c = (b == 35 && (c == 35 || c == 60)) || ((b == 60 || b == 62) && c == 61)

-- the symbol of three bytes: #<=
abbrev pub is_sign_of_three : ℕ → ℕ → ℕ → Bool
is_sign_of_three b c d = b == 35 && c == 60 && d == 61

-- a byte of a line: any but the line feed
abbrev pub is_in_line : ℕ → Bool
is_in_line b = not (b == 10)
