-- The bytes that each kind of token is spelled by (TON documentation on TL-B).
use Rattle.std.specs.Prelude.{ℕ, Bool, false, ◌==◌, ◌&&◌, ◌||◌, List, [], ◌∷◌}
use Rattle.std.specs.List.{list_all}
use Rattle.tlb_lexer.specs.declared.TokenKind.{TokenKind}
use Rattle.tlb_lexer.specs.declared.TokenKind.TheVariants.{Name, Blank, Number, BinaryTag, HexTag, Symbol}
use Rattle.tlb_lexer.specs.Bytes.{is_letter, is_digit, is_name_byte, is_bit, is_hex_digit, is_sign, is_sign_of_two}
use Rattle.tlb_lexer.specs.Bytes.{is_sign_of_three}

-- `_` alone
abbrev pub is_underscore : List ℕ → Bool
is_underscore [] = false
is_underscore (b ∷ []) = b == 95
is_underscore (b ∷ c ∷ bs) = false

-- a letter, then letters, digits and `_`
abbrev pub is_name : List ℕ → Bool
is_name [] = false
is_name (b ∷ bs) = is_letter b && list_all is_name_byte bs

-- one or more decimal digits
abbrev pub is_number : List ℕ → Bool
is_number [] = false
is_number (b ∷ bs) = is_digit b && list_all is_digit bs

-- one or more of 0 and 1
abbrev pub are_bits : List ℕ → Bool
are_bits [] = false
are_bits (b ∷ bs) = is_bit b && list_all is_bit bs

-- `$_`, or `$` and bits
abbrev pub is_binary_tag : List ℕ → Bool
is_binary_tag [] = false
is_binary_tag (b ∷ bs) = b == 36 && (is_underscore bs || are_bits bs)

-- hexadecimal digits, and after them one more or `_`
abbrev pub ends_hex : List ℕ → Bool
ends_hex [] = false
ends_hex (b ∷ []) = is_hex_digit b || b == 95
ends_hex (b ∷ c ∷ bs) = is_hex_digit b && ends_hex (c ∷ bs)

-- `#_`, or `#` and one or more hexadecimal digits, and then maybe `_`
abbrev pub is_hex_tag : List ℕ → Bool
is_hex_tag [] = false
is_hex_tag (b ∷ bs) = b == 35 && ends_hex bs

-- a symbol of one, two or three bytes
abbrev pub is_symbol : List ℕ → Bool
is_symbol [] = false
is_symbol (b ∷ []) = is_sign b
is_symbol (b ∷ c ∷ []) = is_sign_of_two b c
is_symbol (b ∷ c ∷ d ∷ []) = is_sign_of_three b c d
is_symbol (b ∷ c ∷ d ∷ e ∷ bs) = false

-- whether the bytes spell a token of the kind
abbrev pub spells : TokenKind → List ℕ → Bool
spells Name = is_name
spells Blank = is_underscore
spells Number = is_number
spells BinaryTag = is_binary_tag
spells HexTag = is_hex_tag
spells Symbol = is_symbol
