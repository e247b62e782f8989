-- Words in slots.
use Rattle.std.proofs.Common.{◌≡◌, ◌≤◌, ◌<◌, ◌+◌, ◌∙◌, ap, sym, refl, suc, arith, ℕ, Bool, true, false, List, [], ◌∷◌, drop, length, get_or, map, string_bytes, ◌&&◌}
use Rattle.std.proofs.Math.ListN.{get_or-map}
use Rattle.std.proofs.lemmas.List.{length-map}
use Rattle.std.specs.Prelude.{String}
use Rattle.std.specs.declared.alloc.Global.{Global}
use Rattle.std.proofs.Math.ListN.{drop_of_length-le}
use Rattle.std.proofs.Math.Seq.{drop-cons}
use Rattle.tlb_edge.specs.Files.{Name}
use Rattle.cli_commands.specs.Forms.{are_taken, files_in, named}
use Rattle.cli_commands.specs.Slots.{limit_of, takes}
use Rattle.cli_commands.specs.declared.slot.Slot.{Slot}

and-false : (b : Bool) → (b && false) ≡ false
and-false true = refl
and-false false = refl

-- more slots than words, or fewer
pub not-taken : (slots : List Slot) (words : List Name) → (length slots ≡ length words → ⊥) → are_taken slots words ≡ false
not-taken [] [] other = absurd (other refl)
not-taken [] (word ∷ words) other = refl
not-taken (slot ∷ slots) [] other = refl
not-taken (slot ∷ slots) (word ∷ words) other =
    ap (λ b. takes slot word && b) (not-taken slots words (λ same. other (ap suc same))) ∙ and-false (takes slot word)

-- the files of the slot at a place, and those of the others
pub files-at : (slots : List Slot) (words : List Name) (place : ℕ) (s : Slot) (w : Name) → place < length slots → place < length words →
    files_in (drop place slots) (drop place words) ≡ named (limit_of (get_or slots place s)) (get_or words place w) (files_in (drop (place + 1) slots) (drop (place + 1) words))
files-at slots words place s w in_slots in_words =
    let next : suc place ≡ place + 1 = omega arith in
    ap (λ xs. files_in xs (drop place words)) (drop-cons slots place s in_slots)
    ∙ ap (files_in (get_or slots place s ∷ drop (suc place) slots)) (drop-cons words place w in_words)
    ∙ ap (λ n. named (limit_of (get_or slots place s)) (get_or words place w) (files_in (drop n slots) (drop n words))) next

-- whether the slot at a place takes its word, and the others theirs
pub taken-at : (slots : List Slot) (words : List Name) (place : ℕ) (s : Slot) (w : Name) → place < length slots → place < length words →
    are_taken (drop place slots) (drop place words) ≡ (takes (get_or slots place s) (get_or words place w) && are_taken (drop (place + 1) slots) (drop (place + 1) words))
taken-at slots words place s w in_slots in_words =
    let next : suc place ≡ place + 1 = omega arith in
    ap (λ xs. are_taken xs (drop place words)) (drop-cons slots place s in_slots)
    ∙ ap (are_taken (get_or slots place s ∷ drop (suc place) slots)) (drop-cons words place w in_words)
    ∙ ap (λ n. takes (get_or slots place s) (get_or words place w) && are_taken (drop n slots) (drop n words)) next

pub none-left : (slots : List Slot) (words : List Name) (place : ℕ) → length slots ≤ place → length words ≤ place → are_taken (drop place slots) (drop place words) ≡ true
none-left slots words place all_slots all_words =
    ap (λ xs. are_taken xs (drop place words)) (drop_of_length-le slots all_slots) ∙ ap (are_taken []) (drop_of_length-le words all_words)

pub word-at : (words : List (String Global)) (place : ℕ) (x : String Global) → x ≡ get_or words place x → get_or (map string_bytes words) place (string_bytes x) ≡ string_bytes x
word-at words place x is = get_or-map string_bytes words place x ∙ ap string_bytes (sym is)

-- the slot at a place, its word, and the others
turn : (slots : List Slot) (words : List (String Global)) (place : ℕ) (s : Slot) (x : String Global) (word : Name) (b : Bool) → place < length slots → place < length words →
    x ≡ get_or words place x → word ≡ string_bytes x → b ≡ takes (get_or slots place s) word →
    are_taken slots (map string_bytes words) ≡ are_taken (drop place slots) (drop place (map string_bytes words)) →
    are_taken slots (map string_bytes words) ≡ (b && are_taken (drop (place + 1) slots) (drop (place + 1) (map string_bytes words)))
turn slots words place s x word b in_slots in_words is same takes_it others =
    let rest : Bool = are_taken (drop (place + 1) slots) (drop (place + 1) (map string_bytes words)) in
    let inside : place < length (map string_bytes words) = omega (arith, in_words, length-map words string_bytes) in
    let here : takes (get_or slots place s) (get_or (map string_bytes words) place (string_bytes x)) ≡ b =
    ap (takes (get_or slots place s)) (word-at words place x is ∙ sym same) ∙ sym takes_it in
    others ∙ taken-at slots (map string_bytes words) place s (string_bytes x) in_slots inside ∙ ap (λ y. y && rest) here

pub turn-refused : (slots : List Slot) (words : List (String Global)) (place : ℕ) (s : Slot) (x : String Global) (word : Name) (b : Bool) → place < length slots → place < length words →
    x ≡ get_or words place x → word ≡ string_bytes x → b ≡ takes (get_or slots place s) word → b ≡ false →
    are_taken slots (map string_bytes words) ≡ are_taken (drop place slots) (drop place (map string_bytes words)) → false ≡ are_taken slots (map string_bytes words)
turn-refused slots words place s x word b in_slots in_words is same takes_it off others =
    sym (turn slots words place s x word b in_slots in_words is same takes_it others
    ∙ ap (λ y. y && are_taken (drop (place + 1) slots) (drop (place + 1) (map string_bytes words))) off)

pub turn-taken : (slots : List Slot) (words : List (String Global)) (place : ℕ) (s : Slot) (x : String Global) (word : Name) (b : Bool) → place < length slots → place < length words →
    x ≡ get_or words place x → word ≡ string_bytes x → b ≡ takes (get_or slots place s) word → b ≡ true →
    are_taken slots (map string_bytes words) ≡ are_taken (drop place slots) (drop place (map string_bytes words)) →
    are_taken slots (map string_bytes words) ≡ are_taken (drop (place + 1) slots) (drop (place + 1) (map string_bytes words))
turn-taken slots words place s x word b in_slots in_words is same takes_it on others =
    turn slots words place s x word b in_slots in_words is same takes_it others
    ∙ ap (λ y. y && are_taken (drop (place + 1) slots) (drop (place + 1) (map string_bytes words))) on
