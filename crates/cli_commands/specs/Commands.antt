-- The table of commands. This project's own.
use Rattle.std.specs.Prelude.{ℕ, List, [], ◌∷◌, length, Option, None, Some, if◌then◌else◌}
use Rattle.std.specs.Str.{bytes_eq}
use Rattle.tlb_edge.specs.Files.{Name}
use Rattle.cli_refusals.specs.Refusal.{Answer}
use Rattle.cli_commands.specs.Build.{build}
use Rattle.cli_commands.specs.Check.{check}
use Rattle.cli_commands.specs.Command.{Command}
use Rattle.cli_commands.specs.Hash.{hash}
use Rattle.cli_commands.specs.Make.{make}
use Rattle.cli_commands.specs.Prove.{prove}
use Rattle.cli_commands.specs.Read.{lax, read}
use Rattle.cli_commands.specs.Tidy.{tidy}
use Rattle.cli_commands.specs.Views.{view}
use Rattle.cli_commands.specs.declared.slot.Slot.{Slot}
use Rattle.cli_commands.specs.declared.commands.Verb.{Verb}
use Rattle.cli_commands.specs.declared.commands.Verb.TheVariants.{Read, Lax, Build, Tidy, Prove, View, Make, Hash, Check}

abbrev pub command_of : Verb → Command
command_of Read = read
command_of Lax = lax
command_of Build = build
command_of Tidy = tidy
command_of Prove = prove
command_of View = view
command_of Make = make
command_of Hash = hash
command_of Check = check

abbrev pub verbs : List Verb
verbs = Read ∷ Lax ∷ Build ∷ Tidy ∷ Prove ∷ View ∷ Make ∷ Hash ∷ Check ∷ []

-- ---- what holds of the whole table

-- the first of these verbs whose word it is
abbrev pub verb_among : List Verb → Name → Option Verb
verb_among [] word = None
verb_among (verb ∷ verbs) word = if bytes_eq word (command_of verb).word then Some verb else verb_among verbs word

abbrev pub verb_of : Name → Option Verb
verb_of word = verb_among verbs word

-- the slots of the words after a verb
abbrev pub slots_of : Verb → List Name → List Slot
slots_of verb words = (command_of verb).slots (length words)

-- what a command answers for the words in its slots and the bytes of its files
abbrev pub CommandAnswers : Verb → List Name → List (List ℕ) → Answer → Type 0
CommandAnswers verb words contents = (command_of verb).Answers words contents
