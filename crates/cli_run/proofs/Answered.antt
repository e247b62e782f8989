-- From what the layers answer to what `run` did.
use Rattle.std.proofs.Common.{◌≡◌, subst, refl, arith, ℕ, List, [], Option, None, Some, Result, Ok, Err, Vec}
use Rattle.std.specs.declared.alloc.Global.{Global}
use Rattle.tlb_edge.specs.Causes.{Rose}
use Rattle.tlb_edge.specs.Files.{Files}
use Rattle.tlb_files.specs.Contents.{IsLoading}
use Rattle.tlb_files.specs.Counts.{Counts, FileName, RoseAtMost}
use Rattle.tlb_files.specs.Loading.{loaded}
use Rattle.tlb_files.specs.Loads.{LoadsAll, Stops}
use Rattle.tlb_files.specs.Pieces.{Output, Puts, PutsPrefix}
use Rattle.tlb_files.specs.View.{file_by}
use Rattle.tlb_files.specs.declared.load.LoadError.{LoadError}
use Rattle.tlb_files.specs.declared.load.LoadError.TheVariants.{Fault, TooLong as LongFile, NoMemory as NotLoaded}
use Rattle.cli_commands.specs.Commands.{CommandAnswers}
use Rattle.cli_commands.specs.Forms.{Form, files_of}
use Rattle.cli_commands.specs.View.{text_by}
use Rattle.cli_run.specs.Ran.{Answered, failed, longer, judged, Concludes, RefusesFile, Faults, OpensSome, Ran, put, unput, out_of_memory}
use Rattle.cli_refusals.specs.Refusal.{Verdict, usage, refusal_line, verdict_of}
use Rattle.cli_stages.specs.Stage.{Answers}
use Rattle.cli_refusals.specs.View.{refusal_by}
use Rattle.cli_stages.specs.declared.stop.Stop.{Stop}
use Rattle.cli_stages.specs.declared.stop.Stop.TheVariants.{Refused, NoMemory}
use Rattle.cli_refusals.specs.declared.status.Status.TheVariants.{Usage, WriteFault, NoMemory as OutOfMemory}

abbrev Text : Type 0
Text = Vec ℕ Global

-- ---- an answer

judged-whole : (form : Form) (held : Option Files) (before now : Counts) (contents : List (List ℕ)) (came : Result Text Stop) (v : Verdict) →
    LoadsAll held (files_of (Some form)) before now contents → Answers (CommandAnswers form.verb form.words contents) text_by came → Concludes came v → Answered (Some form) held before now v
judged-whole form held before now contents (Ok text) v loads answers is = judged contents (Ok text.items) loads answers.answer is
judged-whole form held before now contents (Err (Refused r)) v loads answers is = judged contents (Err (refusal_by r)) loads answers.answer is
judged-whole form held before now contents (Err NoMemory) v loads answers is = absurd is

pub concluded : (form : Form) (held : Option Files) (files : List FileName) (before now : Counts) (contents shown : List (List ℕ)) (came : Result Text Stop) (v : Verdict) →
    files ≡ files_of (Some form) → LoadsAll held files before now contents → shown ≡ contents → Answers (CommandAnswers form.verb form.words shown) text_by came →
    Concludes came v → Answered (Some form) held before now v
concluded form held files before now contents shown came v same loads whole answers is =
    let F : List FileName → Type 0 = λ fs. LoadsAll held fs before now contents in
    let C : List (List ℕ) → Type 0 = λ cs. Answers (CommandAnswers form.verb form.words cs) text_by came in
    judged-whole form held before now contents came v (subst F same loads) (subst C whole answers) is

stopped : (form : Option Form) (held : Option Files) (before now : Counts) (error : LoadError) (v : Verdict) →
    Stops held (files_of form) before now error → RefusesFile error v → Answered form held before now v
stopped form held before now (Fault file) v stops is = failed (file_by file) stops is
stopped form held before now (LongFile file) v stops is = longer (file_by file) stops is
stopped form held before now NotLoaded v stops is = absurd is

pub file-refused : (form : Option Form) (held : Option Files) (files : List FileName) (before now : Counts) (error : LoadError) (v : Verdict) →
    files ≡ files_of form → Stops held files before now error → RefusesFile error v → Answered form held before now v
file-refused form held files before now error v same stops is =
    let F : List FileName → Type 0 = λ fs. Stops held fs before now error in
    stopped form held before now error v (subst F same stops) is

-- ---- words that are no command form

no-reads : (reads : Option ℕ) → RoseAtMost 0 reads reads
no-reads None = refl
no-reads (Some n) = omega arith

nothing-held : (held : Option Files) → IsLoading held [] (loaded [])
nothing-held None = tt
nothing-held (Some files) = refl

nothing-loaded : (held : Option Files) (now : Counts) → LoadsAll held [] now now []
nothing-loaded held now = record {
  opens = record { gave = []; each_once = refl; are_given = tt; opens = refl; given = refl; reads = no-reads now.reads };
  calm = refl;
  short = tt;
  holds = nothing-held held;
}

usage-verdict : Verdict
usage-verdict = verdict_of (Err usage)

usage-answered : (held : Option Files) (now : Counts) → Answered None held now now usage-verdict
unfolding usage-verdict
usage-answered held now = judged [] (Err usage) (nothing-loaded held now) refl refl

pub usage-put : (form : Option Form) (held : Option Files) (now : Counts) (old new : Output) (sink : Faults) → None ≡ form → Puts old new (refusal_line usage) → sink.now ≡ sink.before →
    Ran form held now now old new sink Usage
unfolding usage-verdict
usage-put form held now old new sink is puts calm =
    let F : Option Form → Type 0 = λ f. Ran f held now now old new sink Usage in
    subst F is (put usage-verdict (usage-answered held now) puts calm refl)

pub usage-unput : (form : Option Form) (held : Option Files) (now : Counts) (old new : Output) (sink : Faults) → None ≡ form → PutsPrefix old new (refusal_line usage) → Rose sink.before sink.now →
    Ran form held now now old new sink WriteFault
unfolding usage-verdict
usage-unput form held now old new sink is puts rose =
    let F : Option Form → Type 0 = λ f. Ran f held now now old new sink WriteFault in
    subst F is (unput usage-verdict (usage-answered held now) puts rose refl)

-- ---- a command form

module _ (f : Form) (form : Option Form) (held : Option Files) (before now : Counts) (old new : Output) (sink : Faults) where
  pub form-put : (v : Verdict) → Some f ≡ form → Answered (Some f) held before now v → Puts old new v.text → sink.now ≡ sink.before → Ran form held before now old new sink v.status
  form-put v is answered puts calm =
      let F : Option Form → Type 0 = λ x. Ran x held before now old new sink v.status in subst F is (put v answered puts calm refl)

  pub form-unput : (v : Verdict) → Some f ≡ form → Answered (Some f) held before now v → PutsPrefix old new v.text → Rose sink.before sink.now → Ran form held before now old new sink WriteFault
  form-unput v is answered puts rose =
      let F : Option Form → Type 0 = λ x. Ran x held before now old new sink WriteFault in subst F is (unput v answered puts rose refl)

  pub form-memory : Some f ≡ form → OpensSome (files_of (Some f)) before now → new ≡ old → sink.now ≡ sink.before → Ran form held before now old new sink OutOfMemory
  form-memory is opens same calm =
      let F : Option Form → Type 0 = λ x. Ran x held before now old new sink OutOfMemory in subst F is (out_of_memory opens.count refl opens.opens same calm refl)
