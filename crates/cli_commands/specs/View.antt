-- Values of this crate, seen without where they lie in memory.
use Rattle.std.specs.Prelude.{ℕ, ◌≡◌, List, map, string_bytes, true, Vec}
use Rattle.std.specs.declared.alloc.Global.{Global}
use Rattle.cli_commands.specs.Commands.{slots_of}
use Rattle.cli_commands.specs.Forms.{Form, are_taken}
use Rattle.cli_commands.specs.declared.form.Form.{Form as Words}

abbrev pub form_by : Words → Form
form_by form = record { verb = form.verb; words = map string_bytes form.words.now }

abbrev pub text_by : Vec ℕ Global → List ℕ
text_by text = text.items

-- the slots of its command take its words
abbrev pub IsTaken : Words → Type 0
IsTaken form = are_taken (slots_of form.verb (map string_bytes form.words.now)) (map string_bytes form.words.now) ≡ true
