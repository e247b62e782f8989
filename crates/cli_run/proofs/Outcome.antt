-- One outcome and no other, where each file of the command is held.
use Rattle.std.proofs.Common.{◌≡◌, ◌∙◌, ap, sym, refl, ℕ, List, [], ◌∷◌, Bool, true, false, length, nat_lt, Option, Some, None, IsSome, Err, if◌then◌else◌}
use Rattle.std.proofs.lemmas.Bool.{false≢true}
use Rattle.std.proofs.lemmas.List.Elements.{All-head, All-tail}
use Rattle.tlb_edge.specs.Files.{Files, Name, file_at}
use Rattle.tlb_files.specs.Counts.{FileName}
use Rattle.tlb_files.specs.Loading.{Loading, not_held, too_long, loaded, with_bytes, with_file, loading}
use Rattle.cli_refusals.specs.Refusal.{Verdict, verdict_of}
use Rattle.cli_stages.specs.Stage.{IsAnswered, IsOnce}
use Rattle.cli_commands.specs.Forms.{Form, HoldsAll, files_of, form_of}
use Rattle.cli_commands.specs.Laws.{EachCommandAnswersOnce}
use Rattle.cli_run.specs.Outcome.{FormAnswers, IsOutcome, LoadingAnswers}

-- files that are held are loaded, up to one that is too long
abbrev IsHeld : Loading → Type 0
IsHeld not_held = ⊥
IsHeld loading = Unit {0}

bytes-held : (bytes : List ℕ) (rest : Loading) → IsHeld rest → IsHeld (with_bytes bytes rest)
bytes-held bytes not_held held = held
bytes-held bytes (too_long file) held = tt
bytes-held bytes (loaded contents) held = tt

choice-held : (b : Bool) (file : FileName) (rest : Loading) → IsHeld rest → IsHeld (if b then too_long file else rest)
choice-held true file rest held = tt
choice-held false file rest held = held

file-held : (file : FileName) (found : Option (List ℕ)) (rest : Loading) → IsSome found → IsHeld rest → IsHeld (with_file file found rest)
file-held file None rest some held = absurd (false≢true some)
file-held file (Some bytes) rest some held = choice-held (nat_lt file.limit (length bytes)) file (with_bytes bytes rest) (bytes-held bytes rest held)

all-held : (held : Files) (files : List FileName) → HoldsAll held files → IsHeld (loading held files)
all-held held [] all = tt
all-held held (file ∷ files) all =
    let IsThere : FileName → Type 0 = λ f. IsSome (file_at held f.name) in
    file-held file (file_at held file.name) (loading held files) (All-head IsThere file files all) (all-held held files (All-tail IsThere file files all))

-- ---- one answer

form-once : EachCommandAnswersOnce → (form : Option Form) (contents : List (List ℕ)) → IsOnce (FormAnswers form contents)
form-once commands None contents a b is same = is ∙ sym same
form-once commands (Some form) contents a b is same = (commands form.verb form.words contents).once a b is same

loading-once : EachCommandAnswersOnce → (form : Option Form) (l : Loading) → IsHeld l → IsOnce (LoadingAnswers form l)
loading-once commands form not_held held a b is same = absurd held
loading-once commands form (too_long file) held a b is same = is ∙ sym same
loading-once commands form (loaded contents) held a b is same = form-once commands form contents a b is same

pub outcome-once : EachCommandAnswersOnce → (words : List Name) (held : Files) (v w : Verdict) → HoldsAll held (files_of (form_of words))
    → IsOutcome words held v → IsOutcome words held w → v ≡ w
outcome-once commands words held v w all a b =
    let form : Option Form = form_of words in
    let there : IsHeld (loading held (files_of form)) = all-held held (files_of form) all in
    a.is_verdict
    ∙ ap verdict_of (loading-once commands form (loading held (files_of form)) there a.answer b.answer a.answers b.answers)
    ∙ sym b.is_verdict

-- ---- some answer

form-answered : EachCommandAnswersOnce → (form : Option Form) (contents : List (List ℕ)) → IsAnswered (FormAnswers form contents)
form-answered commands None contents = (Err _, refl)
form-answered commands (Some form) contents =
    let h = (commands form.verb form.words contents).answered in (h.0, h.1)

loading-answered : EachCommandAnswersOnce → (form : Option Form) (l : Loading) → IsHeld l → IsAnswered (LoadingAnswers form l)
loading-answered commands form not_held held = absurd held
loading-answered commands form (too_long file) held = (Err _, refl)
loading-answered commands form (loaded contents) held = let h = form-answered commands form contents in (h.0, h.1)

pub outcome-answered : EachCommandAnswersOnce → (words : List Name) (held : Files) → HoldsAll held (files_of (form_of words))
    → (v : Verdict) × IsOutcome words held v
outcome-answered commands words held all =
    let form : Option Form = form_of words in
    let h = loading-answered commands form (loading held (files_of form)) (all-held held (files_of form) all) in
    (verdict_of h.0, record { answer = h.0; answers = h.1; is_verdict = refl })
