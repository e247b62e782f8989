-- What `run` did, by how it ended.
use Rattle.std.specs.Prelude.{◌≡◌, ◌++◌, ◌<◌, ℕ, List, codes, ⊤, Option, Result, Ok, Err, IsSome, Vec}
use Rattle.std.specs.declared.alloc.Global.{Global}
use Rattle.tlb_edge.specs.Causes.{Rose, last}
use Rattle.tlb_edge.specs.Files.{Files, Name}
use Rattle.tlb_files.specs.Counts.{Counts, FileName, Opens}
use Rattle.tlb_files.specs.Loads.{Fails, IsTooLong, LoadsAll}
use Rattle.tlb_files.specs.Pieces.{Output, Puts, PutsPrefix}
use Rattle.tlb_files.specs.View.{file_by}
use Rattle.tlb_files.specs.declared.load.LoadError.{LoadError}
use Rattle.tlb_files.specs.declared.load.LoadError.TheVariants.{Fault, TooLong as LongFile, NoMemory as NotLoaded}
use Rattle.cli_commands.specs.Forms.{Form, files_of}
use Rattle.cli_refusals.specs.Lines.{line_of}
use Rattle.cli_run.specs.Outcome.{FormAnswers, IsOutcome}
use Rattle.cli_refusals.specs.Refusal.{Answer, Verdict, unread, too_long, verdict_of}
use Rattle.cli_refusals.specs.View.{refusal_by}
use Rattle.cli_stages.specs.declared.stop.Stop.{Stop}
use Rattle.cli_stages.specs.declared.stop.Stop.TheVariants.{Refused, NoMemory as Ended}
use Rattle.cli_refusals.specs.declared.status.Status.{Status}
use Rattle.cli_refusals.specs.declared.status.Status.TheVariants.{Done, ReadFault, WriteFault, TooLong, NoMemory}

-- What a command answers over a shelf: a file failed, or one is too long, or all are loaded and the command is judged.
pub data Answered (form : Option Form) (held : Option Files) (before now : Counts) (verdict : Verdict) : Type 0 where
  failed : (file : FileName) → Fails (files_of form) before now file
      → verdict ≡ verdict_of (Err (unread file.name)) → Answered form held before now verdict
  longer : (file : FileName) → IsTooLong held (files_of form) before now file
      → verdict ≡ verdict_of (Err (too_long file.name)) → Answered form held before now verdict
  judged : (contents : List (List ℕ)) (answer : Answer) → LoadsAll held (files_of form) before now contents
      → FormAnswers form contents answer → verdict ≡ verdict_of answer → Answered form held before now verdict

-- the counts of faults of a sink
pub record Faults : Type 0 where
  pub before : ℕ
  pub now : ℕ

abbrev pub faults : ℕ → ℕ → Faults
faults before now = record { before = before; now = now }

-- The answer was put, or a prefix of it where a put failed; or memory ended, and nothing was put.
pub data Ran (form : Option Form) (held : Option Files) (before now : Counts) (old new : Output) (sink : Faults)
    (status : Status) : Type 0 where
  put : (verdict : Verdict) → Answered form held before now verdict → Puts old new verdict.text → sink.now ≡ sink.before
      → status ≡ verdict.status → Ran form held before now old new sink status
  unput : (verdict : Verdict) → Answered form held before now verdict → PutsPrefix old new verdict.text
      → Rose sink.before sink.now
      → status ≡ WriteFault → Ran form held before now old new sink status
  out_of_memory : (count : ℕ) → IsSome form → Opens (files_of form) count before now → new ≡ old
      → sink.now ≡ sink.before
      → status ≡ NoMemory → Ran form held before now old new sink status

-- the outcome has this status, and its text was put
pub record PutsOutcome (words : List Name) (held : Files) (status : Status) (old new : Output) : Type 0 where
  pub verdict : Verdict
  pub is_outcome : IsOutcome words held verdict
  pub same_status : status ≡ verdict.status
  pub puts : Puts old new verdict.text

-- the statuses that are those of an outcome
abbrev pub IsJudged : Status → Type 0
IsJudged ReadFault = ⊥
IsJudged WriteFault = ⊥
IsJudged NoMemory = ⊥
IsJudged status = ⊤

-- the statuses after which all files were loaded
abbrev pub IsLoaded : Status → Type 0
IsLoaded ReadFault = ⊥
IsLoaded WriteFault = ⊥
IsLoaded TooLong = ⊥
IsLoaded NoMemory = ⊥
IsLoaded status = ⊤

-- the statuses whose text was put whole
abbrev pub IsPut : Status → Type 0
IsPut WriteFault = ⊥
IsPut NoMemory = ⊥
IsPut status = ⊤

-- the statuses that come with a line of refusal
abbrev pub IsRefusal : Status → Type 0
IsRefusal Done = ⊥
IsRefusal WriteFault = ⊥
IsRefusal NoMemory = ⊥
IsRefusal status = ⊤

-- a line of refusal
pub record IsRefusalLine (text : List ℕ) : Type 0 where
  pub cause : List ℕ
  pub whole : text ≡ line_of (codes "refused: " ++ cause)

-- some of the files were opened, from the first on
pub record OpensSome (files : List FileName) (before now : Counts) : Type 0 where
  pub count : ℕ
  pub opens : Opens files count before now

-- what is put for what a command came to
abbrev pub Concludes : Result (Vec ℕ Global) Stop → Verdict → Type 0
Concludes (Ok text) verdict = verdict ≡ verdict_of (Ok text.items)
Concludes (Err (Refused refusal)) verdict = verdict ≡ verdict_of (Err (refusal_by refusal))
Concludes (Err Ended) verdict = ⊥

-- what is put for a file that was not loaded
abbrev pub RefusesFile : LoadError → Verdict → Type 0
RefusesFile (Fault file) verdict = verdict ≡ verdict_of (Err (unread (file_by file).name))
RefusesFile (LongFile file) verdict = verdict ≡ verdict_of (Err (too_long (file_by file).name))
RefusesFile NotLoaded verdict = ⊥

-- a count neither rose nor stands at its last value
pub record IsCalm (before now : ℕ) : Type 0 where
  pub same : now ≡ before
  pub below : now < last
