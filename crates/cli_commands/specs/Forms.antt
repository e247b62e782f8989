-- The command forms: a command and words that its slots take. This project's own.
use Rattle.std.specs.Prelude.{◌&&◌, Bool, true, false, ℕ, List, [], ◌∷◌, Option, None, Some, if◌then◌else◌, All, IsSome}
use Rattle.tlb_edge.specs.Files.{Name, Files, file_at}
use Rattle.tlb_files.specs.Counts.{FileName}
use Rattle.cli_commands.specs.Commands.{slots_of, verb_of}
use Rattle.cli_commands.specs.Slots.{limit_of, takes}
use Rattle.cli_commands.specs.declared.commands.Verb.{Verb}
use Rattle.cli_commands.specs.declared.slot.Slot.{Slot}

-- a command, and the words in its slots
pub record Form : Type 0 where
  pub verb : Verb
  pub words : List Name

-- there are as many words as slots, and each slot takes its own
abbrev pub are_taken : List Slot → List Name → Bool
are_taken [] [] = true
are_taken [] (word ∷ words) = false
are_taken (slot ∷ slots) [] = false
are_taken (slot ∷ slots) (word ∷ words) = takes slot word && are_taken slots words

abbrev pub form_with : Option Verb → List Name → Option Form
form_with None words = None
form_with (Some verb) words =
    if are_taken (slots_of verb words) words then Some (record { verb = verb; words = words }) else None

-- the command form that the words of a command line are, if they are one
abbrev pub form_of : List Name → Option Form
form_of [] = None
form_of (verb ∷ words) = form_with (verb_of verb) words

-- a word that names a file, before other files
abbrev pub named : Option ℕ → Name → List FileName → List FileName
named None word files = files
named (Some limit) word files = record { name = word; limit = limit } ∷ files

-- the files that words in slots name, in their order
abbrev pub files_in : List Slot → List Name → List FileName
files_in [] words = []
files_in (slot ∷ slots) [] = []
files_in (slot ∷ slots) (word ∷ words) = named (limit_of slot) word (files_in slots words)

-- the files of a command, in the order in which they are loaded
abbrev pub files_of : Option Form → List FileName
files_of None = []
files_of (Some form) = files_in (slots_of form.verb form.words) form.words

-- each file of a command is held
abbrev pub HoldsAll : Files → List FileName → Type 0
HoldsAll held files = All (λ file. IsSome (file_at held file.name)) files
