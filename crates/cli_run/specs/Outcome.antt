-- What a command answers over files: a status and a text.
use Rattle.std.specs.Prelude.{◌≡◌, ℕ, List, Option, None, Some, Err, ⊤}
use Rattle.tlb_edge.specs.Files.{Files, Name}
use Rattle.tlb_files.specs.Loading.{Loading, loading, not_held, too_long, loaded}
use Rattle.cli_commands.specs.Commands.{CommandAnswers}
use Rattle.cli_commands.specs.Forms.{Form, files_of, form_of}
use Rattle.cli_refusals.specs.Refusal.{Answer, Verdict, usage, too_long as long_refusal, verdict_of}

-- what a command form answers for the bytes of its files; words that are no command form are refused
abbrev pub FormAnswers : Option Form → List (List ℕ) → Answer → Type 0
FormAnswers None contents answer = answer ≡ Err usage
FormAnswers (Some form) contents answer = CommandAnswers form.verb form.words contents answer

-- after its files were loaded
abbrev pub LoadingAnswers : Option Form → Loading → Answer → Type 0
LoadingAnswers form not_held answer = ⊤
LoadingAnswers form (too_long file) answer = answer ≡ Err (long_refusal file.name)
LoadingAnswers form (loaded contents) answer = FormAnswers form contents answer

-- The command of these words over these files has this status and this text. Nothing is said where a file of the
-- command, up to the first that is too long, is not held.
pub record IsOutcome (words : List Name) (held : Files) (verdict : Verdict) : Type 0 where
  pub answer : Answer
  pub answers : LoadingAnswers (form_of words) (loading held (files_of (form_of words))) answer
  pub is_verdict : verdict ≡ verdict_of answer
