-- The files that the words of slots name, from a place on.
use Rattle.std.proofs.Common.{◌≡◌, ◌≤◌, ◌<◌, ◌+◌, ◌∙◌, ap, sym, refl, arith, ℕ, List, [], ◌∷◌, ◌++◌, Option, None, Some, drop, length, get_or, map, string_bytes}
use Rattle.std.proofs.lemmas.List.{append_assoc, length-map}
use Rattle.std.specs.Prelude.{String}
use Rattle.std.specs.declared.alloc.Global.{Global}
use Rattle.std.proofs.Math.ListN.{drop_of_length-le}
use Rattle.tlb_edge.specs.Files.{Name}
use Rattle.tlb_files.specs.Counts.{FileName}
use Rattle.cli_commands.specs.Forms.{files_in, named}
use Rattle.cli_commands.specs.Slots.{limit_of}
use Rattle.cli_commands.specs.declared.slot.Slot.{Slot}
use Rattle.cli_commands.proofs.Slots.{files-at, word-at}

no-words : (slots : List Slot) → files_in slots [] ≡ []
no-words [] = refl
no-words (slot ∷ slots) = refl

-- a slot without a word
pub lacks : (slots : List Slot) (words : List Name) (place : ℕ) → length words ≤ place
    → files_in (drop place slots) (drop place words) ≡ files_in (drop (place + 1) slots) (drop (place + 1) words)
lacks slots words place few =
    ap (files_in (drop place slots)) (drop_of_length-le words few) ∙ no-words (drop place slots)
    ∙ sym (ap (files_in (drop (place + 1) slots)) (drop_of_length-le words (omega (arith, few))) ∙ no-words (drop (place + 1) slots))

named-after : (limit : Option ℕ) (word : Name) (files : List FileName) → named limit word [] ++ files ≡ named limit word files
named-after None word files = refl
named-after (Some limit) word files = refl

-- the file of a slot's word, if it names one, is put after those before it
pub puts : (files after : List FileName) (slots : List Slot) (words : List (String Global)) (place : ℕ) (s slot : Slot) (x : String Global) (word : Name)
    → place < length slots → place < length words → slot ≡ get_or slots place s → x ≡ get_or words place x → word ≡ string_bytes x
    → after ≡ files ++ named (limit_of slot) word []
    → files ++ files_in (drop place slots) (drop place (map string_bytes words)) ≡ files_in slots (map string_bytes words)
    → after ++ files_in (drop (place + 1) slots) (drop (place + 1) (map string_bytes words)) ≡ files_in slots (map string_bytes words)
puts files after slots words place s slot x word in_slots in_words at is same put others =
    let rest : List FileName = files_in (drop (place + 1) slots) (drop (place + 1) (map string_bytes words)) in
    let inside : place < length (map string_bytes words) = omega (arith, in_words, length-map words string_bytes) in
    let here : get_or (map string_bytes words) place (string_bytes x) ≡ word = word-at words place x is ∙ sym same in
    let first : files_in (drop place slots) (drop place (map string_bytes words)) ≡ named (limit_of slot) word [] ++ rest =
    files-at slots (map string_bytes words) place s (string_bytes x) in_slots inside
    ∙ ap (λ z. named (limit_of z) (get_or (map string_bytes words) place (string_bytes x)) rest) (sym at)
    ∙ ap (λ n. named (limit_of slot) n rest) here
    ∙ sym (named-after (limit_of slot) word rest) in
    ap (λ xs. xs ++ rest) put ∙ append_assoc files (named (limit_of slot) word []) rest ∙ ap (λ xs. files ++ xs) (sym first) ∙ others
