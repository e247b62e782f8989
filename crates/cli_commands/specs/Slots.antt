-- The slots of a command: what the words after its verb are. This project's own.
use Rattle.std.specs.Prelude.{ℕ, ◌+◌, ◌-◌, ◌*◌, ◌==◌, Bool, true, ◌&&◌, List, [], ◌∷◌, Option, None, Some, Result, Ok, Err, is_some, length, nat_le, nat_lt, not, if◌then◌else◌}
use Rattle.std.specs.Char.{is_ascii_digit}
use Rattle.hex.specs.Hex.{decode_sized}
use Rattle.hex.specs.declared.error.FromHexError.{FromHexError}
use Rattle.tlb_edge.specs.Files.{Name}
use Rattle.cli_commands.specs.declared.slot.Slot.{Slot}
use Rattle.cli_commands.specs.declared.slot.Slot.TheVariants.{Schema, TypeWord, Bag, Text, RootHash, Path, Count}

-- the most bytes of the file that a slot's word names, where it names one
abbrev pub limit_of : Slot → Option ℕ
limit_of Schema = Some 1048576
limit_of TypeWord = None
limit_of Bag = Some 134217728
limit_of Text = Some 134217728
limit_of RootHash = None
limit_of Path = None
limit_of Count = None

-- what was decoded, where it was
abbrev pub decoded : Result (List ℕ) FromHexError → Option (List ℕ)
decoded (Ok bytes) = Some bytes
decoded (Err error) = None

-- the hash that a word of 64 hexadecimal digits of either case writes
abbrev pub root_hash : Name → Option (List ℕ)
root_hash word = decoded (decode_sized word 32)

-- the number that more digits make of one, up to 10,000
abbrev pub count_more : ℕ → List ℕ → Option ℕ
count_more n [] = Some n
count_more n (digit ∷ digits) =
    if is_ascii_digit digit && nat_le (10 * n + (digit - 48)) 10000 then count_more (10 * n + (digit - 48)) digits else None

-- 0 where no digit comes after it
abbrev pub zero_alone : List ℕ → Option ℕ
zero_alone [] = Some 0
zero_alone (digit ∷ digits) = None

-- the number from 0 to 10,000 that a word of decimal digits writes without leading zeros
abbrev pub count_of : Name → Option ℕ
count_of [] = None
count_of (digit ∷ digits) = if digit == 48 then zero_alone digits else count_more 0 (digit ∷ digits)

-- the word has the form that the slot asks of it
abbrev pub is_formed : Slot → Name → Bool
is_formed RootHash word = is_some (root_hash word)
is_formed Schema word = true
is_formed TypeWord word = true
is_formed Bag word = true
is_formed Text word = true
is_formed Path word = true
is_formed Count word = is_some (count_of word)

-- a slot takes a word: one of at most 1,048,576 bytes, in its form
abbrev pub takes : Slot → Name → Bool
takes slot word = not (nat_lt 1048576 (length word)) && is_formed slot word
