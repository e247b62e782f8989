-- Names that the schema language has for itself.
-- Source: the TON documentation on TL-B (built-in types).
use Rattle.std.specs.Prelude.{ℕ, ◌==◌, ◌&&◌, not, List, [], ◌∷◌, Bool, false, Option, Some, None, codes}
use Rattle.std.specs.Prelude.{bytes_eq, drop, length, nat_eq, nat_le, if◌then◌else◌}
use Rattle.std.specs.List.{list_all, list_any, starts_with}
use Rattle.std.specs.Char.{is_ascii_digit}
use Rattle.tlb_syntax.specs.Lexeme.{decimal_onto}
use Rattle.kind_terms.specs.declared.words.Family.{Family}
use Rattle.kind_terms.specs.declared.words.Family.TheVariants.{Uint, Int, Bits}

abbrev pub Word : Type 0
Word = List ℕ

-- whether the word is among these
abbrev pub is_among : List Word → Word → Bool
is_among words x = list_any (bytes_eq x) words

-- a decimal number without leading zeros
abbrev pub is_plain_number : List ℕ → Bool
is_plain_number [] = false
is_plain_number (d ∷ []) = is_ascii_digit d
is_plain_number (d ∷ e ∷ ds) = (is_ascii_digit d && not (d == 48)) && list_all is_ascii_digit (e ∷ ds)

-- the number of such digits
abbrev pub plain_number : List ℕ → Option ℕ
plain_number digits = if is_plain_number digits then Some (decimal_onto 0 digits) else None

-- the number that stands after the word in the name
abbrev pub number_after : Word → Word → Option ℕ
number_after word x = if starts_with nat_eq x word then plain_number (drop (length word) x) else None

-- the word of a family, whose types have every width
abbrev pub family_word : Family → Word
family_word Uint = codes "uint"
family_word Int = codes "int"
family_word Bits = codes "bits"

-- the greatest of these widths
abbrev pub widest : Family → ℕ
widest Uint = 256
widest Int = 257
widest Bits = 1023

abbrev pub families : List Family
families = Uint ∷ Int ∷ Bits ∷ []

-- a name's width, where it is the word of the family and then a number
abbrev pub width_in : Family → Word → Option ℕ
width_in f x = number_after (family_word f) x

abbrev pub is_at_least : ℕ → Option ℕ → Bool
is_at_least least None = false
is_at_least least (Some n) = nat_le least n

-- the words of dictionaries
abbrev pub hashmap : Word
hashmap = codes "Hashmap"

abbrev pub hashmap_node : Word
hashmap_node = codes "HashmapNode"

abbrev pub hashmap_e : Word
hashmap_e = codes "HashmapE"

-- no constructor is called x
abbrev pub x_alone : Word
x_alone = codes "x"
