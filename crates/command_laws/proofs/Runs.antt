-- From an outcome to what a command answers for the bytes of its two files, and back.
use Rattle.std.proofs.Common.{◌≡◌, ◌≢◌, ◌∙◌, ap, sym, subst, refl, ℕ, Bool, true, false, ◌&&◌, List, [], ◌∷◌, length, nat_lt, Option, Some, None, Ok, Err, if◌then◌else◌}
use Rattle.std.specs.Prelude.{not, codes}
use Rattle.std.proofs.lemmas.Bool.{and_parts, le-ltb}
use Rattle.tlb_edge.specs.Files.{Files, Name, file_at}
use Rattle.tlb_files.specs.Counts.{FileName}
use Rattle.tlb_files.specs.Loading.{Loading, too_long, loaded, with_bytes, with_file, loading}
use Rattle.cli_refusals.specs.Refusal.{Answer, Refusal, Verdict, status_of, verdict_of}
use Rattle.cli_refusals.specs.Refusal as refusals
use Rattle.cli_refusals.specs.declared.status.Status.{Status}
use Rattle.cli_refusals.specs.declared.status.Status.TheVariants as statuses
use Rattle.cli_commands.specs.Commands.{CommandAnswers}
use Rattle.cli_commands.specs.Forms.{Form, files_of, form_of}
use Rattle.cli_commands.specs.declared.commands.Verb.{Verb}
use Rattle.cli_commands.specs.declared.commands.Verb.TheVariants.{Read, Build, Tidy, View}
use Rattle.cli_run.specs.Outcome.{IsOutcome, LoadingAnswers}
use Rattle.command_laws.specs.Laws.{Holds, IsDone, IsWord}

-- a schema, and a bag or a text
abbrev pub two_files : Name → Name → List FileName
two_files schema other =
    record { name = schema; limit = 1048576 } ∷ record { name = other; limit = 134217728 } ∷ []

abbrev pub is_short : Name → Bool
is_short word = not (nat_lt 1048576 (length word)) && true

abbrev pub are_short : Name → Name → Name → Bool
are_short schema type other = is_short schema && (is_short type && (is_short other && true))

abbrev pub form_with : Verb → Name → Name → Name → Form
form_with verb schema type other = record { verb = verb; words = schema ∷ type ∷ other ∷ [] }

-- these words are this form where they are short; its files are a schema, and a bag or a text
pub record IsCall (form : Form) (brief : Bool) (words : List Name) (schema other : Name) : Type 0 where
  pub is_form : form_of words ≡ if brief then Some form else None
  pub files : files_of (Some form) ≡ two_files schema other

-- a command of a schema, a type and a bag or a text
abbrev pub IsCallOf : Verb → List Name → Name → Name → Name → Type 0
IsCallOf verb words schema type other =
    IsCall (form_with verb schema type other) (are_short schema type other) words schema other

pub build-call : (schema type text : Name) → IsCallOf Build (codes "build" ∷ schema ∷ type ∷ text ∷ []) schema type text
build-call schema type text = record { is_form = refl; files = refl }

pub read-call : (schema type bag : Name) → IsCallOf Read (codes "read" ∷ schema ∷ type ∷ bag ∷ []) schema type bag
read-call schema type bag = record { is_form = refl; files = refl }

pub tidy-call : (schema type bag : Name) → IsCallOf Tidy (codes "tidy" ∷ schema ∷ type ∷ bag ∷ []) schema type bag
tidy-call schema type bag = record { is_form = refl; files = refl }

pub view-call : (schema type proof : Name) → IsCallOf View (codes "view" ∷ schema ∷ type ∷ proof ∷ []) schema type proof
view-call schema type proof = record { is_form = refl; files = refl }

-- ---- statuses

-- an answer that comes after the files were loaded
pub record IsLater (answer : Answer) : Type 0 where
  pub not_usage : answer ≢ Err refusals.usage
  pub not_long : (name : Name) → answer ≢ Err (refusals.too_long name)

abbrev status_in : Answer → Status
status_in answer = (verdict_of answer).status

pub later-by : (answer : Answer) (status : Status) → status_in answer ≡ status → status ≢ statuses.Usage → status ≢ statuses.TooLong
    → IsLater answer
later-by answer status is no_usage no_length = record {
  not_usage = λ e. no_usage (sym is ∙ ap status_in e);
  not_long = λ name e. no_length (sym is ∙ ap status_in e);
}

not-done : (r : Refusal) → statuses.Done ≡ status_of r → ⊥
not-done refusals.usage e = cc
not-done (refusals.unread name) e = cc
not-done (refusals.too_long name) e = cc
not-done (refusals.schema cause) e = cc
not-done (refusals.type_word cause) e = cc
not-done (refusals.bag cause) e = cc
not-done (refusals.value_text cause place) e = cc
not-done (refusals.proof cause) e = cc
not-done (refusals.cell place cause) e = cc
not-done (refusals.path number) e = cc
not-done (refusals.unfit place cause) e = cc

pub done-is : (answer : Answer) (line : List ℕ) → record { status = statuses.Done; text = line } ≡ verdict_of answer → answer ≡ Ok line
done-is (Ok text) line e = ap Ok (sym (ap (λ (v : Verdict). v.text) e))
done-is (Err r) line e = absurd (not-done r (ap (λ (v : Verdict). v.status) e))

-- ---- from an outcome

-- the words are short, the files are within their limits, and this is what the command answers
pub record IsRun (form : Form) (brief : Bool) (declared content : List ℕ) (answer : Answer) : Type 0 where
  pub short : brief ≡ true
  pub first : nat_lt 1048576 (length declared) ≡ false
  pub second : nat_lt 134217728 (length content) ≡ false
  pub answers : CommandAnswers form.verb form.words (declared ∷ content ∷ []) answer

loading-two : (held : Files) (schema other : Name) (d c : List ℕ) → Holds held schema d → Holds held other c
    → loading held (two_files schema other)
    ≡ if nat_lt 1048576 (length d) then too_long (record { name = schema; limit = 1048576 })
    else with_bytes d (if nat_lt 134217728 (length c) then too_long (record { name = other; limit = 134217728 }) else loaded (c ∷ []))
loading-two held schema other d c h k =
    let one : FileName = record { name = schema; limit = 1048576 } in
    let two : FileName = record { name = other; limit = 134217728 } in
    ap (λ (o : Option (List ℕ)). with_file one o (with_file two (file_at held other) (loaded []))) h
    ∙ ap (λ (o : Option (List ℕ)). with_file one (Some d) (with_file two o (loaded []))) k

run-by : (form : Form) (brief : Bool) (one two : FileName) (d c : List ℕ) (answer : Answer) (p q : Bool)
    → nat_lt 1048576 (length d) ≡ p → nat_lt 134217728 (length c) ≡ q → brief ≡ true → IsLater answer
    → LoadingAnswers (Some form)
    (if p then too_long one else with_bytes d (if q then too_long two else loaded (c ∷ []))) answer
    → IsRun form brief d c answer
run-by form brief one two d c answer true q e f short later is = absurd (later.not_long one.name is)
run-by form brief one two d c answer false true e f short later is = absurd (later.not_long two.name is)
run-by form brief one two d c answer false false e f short later is =
    record { short = short; first = e; second = f; answers = is }

form-by : (form : Form) (brief : Bool) (schema other : Name) (held : Files) (d c : List ℕ) (answer : Answer) (b : Bool)
    → brief ≡ b → files_of (Some form) ≡ two_files schema other
    → Holds held schema d → Holds held other c → IsLater answer
    → LoadingAnswers (if b then Some form else None) (loading held (files_of (if b then Some form else None))) answer
    → IsRun form brief d c answer
form-by form brief schema other held d c answer false e files h k later is = absurd (later.not_usage is)
form-by form brief schema other held d c answer true e files h k later is =
    let P : Loading → Type 0 = λ l. LoadingAnswers (Some form) l answer in
    let same : loading held (files_of (Some form)) ≡ _ =
    ap (loading held) files ∙ loading-two held schema other d c h k in
    run-by form brief _ _ d c answer (nat_lt 1048576 (length d)) (nat_lt 134217728 (length c)) refl refl e later
    (subst P same is)

pub run-of : {form : Form} {brief : Bool} {words : List Name} {schema other : Name} {held : Files} {d c : List ℕ} {v : Verdict}
    → IsCall form brief words schema other → Holds held schema d → Holds held other c → (outcome : IsOutcome words held v)
    → IsLater outcome.answer → IsRun form brief d c outcome.answer
run-of {form = form} {brief = brief} {schema = schema} {other = other} {held = held} {d = d} {c = c} call h k outcome later =
    let P : Option Form → Type 0 = λ o. LoadingAnswers o (loading held (files_of o)) outcome.answer in
    form-by form brief schema other held d c outcome.answer brief refl call.files h k later
    (subst P call.is_form outcome.answers)

-- a command that is done
pub done-run : {form : Form} {brief : Bool} {words : List Name} {schema other : Name} {held : Files} {d c line : List ℕ}
    → IsCall form brief words schema other → Holds held schema d → Holds held other c → IsDone words held line
    → IsRun form brief d c (Ok line)
done-run {form = form} {brief = brief} {d = d} {c = c} {line = line} call h k outcome =
    let is = done-is outcome.answer line outcome.is_verdict in
    let P : Answer → Type 0 = λ a. IsRun form brief d c a in
    subst P is
    (run-of call h k outcome
    (later-by outcome.answer statuses.Done (ap status_in is) (λ e. cc) (λ e. cc)))

-- ---- to an outcome

pub word-short : (word : Name) → IsWord word → is_short word ≡ true
word-short word h = let e : nat_lt 1048576 (length word) ≡ false = le-ltb 1048576 (length word) h in rw e refl

-- the same schema and type with another file
pub still-short : (schema type other next : Name) → are_short schema type other ≡ true → IsWord next
    → are_short schema type next ≡ true
still-short schema type other next short word =
    let a = and_parts (is_short schema) (is_short type && (is_short other && true)) short in
    let b = and_parts (is_short type) (is_short other && true) a.1 in
    rw (a.0, b.0, word-short next word) refl

pub outcome-of : {form : Form} {brief : Bool} {words : List Name} {schema other : Name} {held : Files} {d c : List ℕ} {answer : Answer}
    → IsCall form brief words schema other → Holds held schema d → Holds held other c
    → IsRun form brief d c answer → IsOutcome words held (verdict_of answer)
outcome-of {form = form} {words = words} {schema = schema} {other = other} {held = held} {d = d} {c = c} {answer = answer} call h k run =
    let is : form_of words ≡ Some form = call.is_form ∙ ap (λ (b : Bool). if b then Some form else None) run.short in
    let both : loading held (files_of (Some form)) ≡ loaded (d ∷ c ∷ []) =
    ap (loading held) call.files ∙ loading-two held schema other d c h k
    ∙ ap (λ (b : Bool). if b then too_long (record { name = schema; limit = 1048576 }) else with_bytes d (if nat_lt 134217728 (length c) then too_long (record { name = other; limit = 134217728 }) else loaded (c ∷ []))) run.first
    ∙ ap (λ (b : Bool). with_bytes d (if b then too_long (record { name = other; limit = 134217728 }) else loaded (c ∷ []))) run.second in
    let P : Loading → Type 0 = λ l. LoadingAnswers (Some form) l answer in
    let Q : Option Form → Type 0 = λ o. LoadingAnswers o (loading held (files_of o)) answer in
    record { answer = answer; answers = subst Q (sym is) (subst P (sym both) run.answers); is_verdict = refl }
