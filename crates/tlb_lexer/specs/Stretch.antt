-- What stands before a text, for the contracts of the scanners.
use Rattle.std.specs.Prelude.{ℕ, ◌≡◌, ◌<◌, ◌≤◌, ◌==◌, ◌||◌, Bool, List, ◌∷◌, length, codes, nat_eq, if◌then◌else◌}
use Rattle.std.specs.List.{starts_with}
use Rattle.tlb_lexer.specs.declared.TokenKind.TheVariants.{Name}
use Rattle.tlb_lexer.specs.declared.scan.Stretch.{Stretch}
use Rattle.tlb_lexer.specs.declared.scan.Stretch.TheVariants.{Gap, Spelled, LongName, OpenComment, Nothing}
use Rattle.tlb_lexer.specs.declared.bytes.Class.{Class}
use Rattle.tlb_lexer.specs.declared.bytes.Class.TheVariants.{White, Letter, Digit, Underscore, Dollar, NumberSign}
use Rattle.tlb_lexer.specs.declared.bytes.Class.TheVariants.{Slash, Angle, Sign, Other}
use Rattle.tlb_lexer.specs.declared.bytes.Run.{Run}
use Rattle.tlb_lexer.specs.declared.bytes.Run.TheVariants.{NameBytes, Digits, Bits, HexDigits, Line}
use Rattle.tlb_lexer.specs.Bytes.{is_white, is_letter, is_digit, is_name_byte, is_bit, is_hex_digit, is_in_line}
use Rattle.tlb_lexer.specs.Bytes.{is_sign}
use Rattle.tlb_lexer.specs.Tokenization.{Longest, IsGap, IsOpenComment, IsNothing, longest_name}

-- the class of a byte that is no white space, letter or digit
abbrev pub sign_class : ℕ → Class
sign_class b =
    if b == 95 then Underscore else if b == 36 then Dollar else if b == 35 then NumberSign else if b == 47 then Slash
    else if b == 60 || b == 62 then Angle else if is_sign b then Sign else Other

-- the class of a byte; no byte is in two
abbrev pub class : ℕ → Class
class b = if is_white b then White else if is_letter b then Letter else if is_digit b then Digit else sign_class b

-- the bytes of a run
abbrev pub is_in_run : Run → ℕ → Bool
is_in_run NameBytes = is_name_byte
is_in_run Digits = is_digit
is_in_run Bits = is_bit
is_in_run HexDigits = is_hex_digit
is_in_run Line = is_in_line

-- a scanner's answer holds of what stands before the text
abbrev pub IsFirstStretch : List ℕ → Stretch → Type 0
IsFirstStretch text (Gap n) = IsGap n text
IsFirstStretch text (Spelled kind n) = Longest kind n text × (kind ≡ Name → n ≤ longest_name)
IsFirstStretch text LongName = (n : ℕ) × Longest Name n text × (longest_name < n)
IsFirstStretch text OpenComment = IsOpenComment text
IsFirstStretch text Nothing = IsNothing text

-- a stretch that is passed over takes a byte at least, and no more than there are
abbrev pub Advances : List ℕ → Stretch → Type 0
Advances text (Gap n) = (0 < n) × (n ≤ length text)
Advances text (Spelled kind n) = (0 < n) × (n ≤ length text)
Advances text _ = Unit {0}

-- the byte begins a text of which that holds, whatever byte of the class it is
abbrev pub Begins : Class → List ℕ → Stretch → Type 0
Begins kind after found = (first : ℕ) → class first ≡ kind → IsFirstStretch (first ∷ after) found

-- the length of the symbol that a `#` begins, where neither a hexadecimal digit nor `_` follows
abbrev pub hash_symbol_len : List ℕ → ℕ
hash_symbol_len after =
    if starts_with nat_eq after (codes "#") then 2 else if starts_with nat_eq after (codes "<=") then 3
    else if starts_with nat_eq after (codes "<") then 2 else 1
