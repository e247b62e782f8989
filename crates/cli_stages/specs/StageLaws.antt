-- Stages one after the other: what holds of each of them holds of both, and what the code answers is theirs.
use Rattle.std.proofs.Common.{◌≡◌, ◌∙◌, ap, sym, subst, refl, arith, Result, Ok, Err, IsErrAnd}
use Rattle.std.proofs.lemmas.Result.{err_from_is_err_and}
use Rattle.cli_refusals.specs.Refusal.{Refusal, status_of}
use Rattle.cli_refusals.specs.View.{refusal_by}
use Rattle.cli_stages.specs.Stage.{Gives, Next, stops, goes_on, Answers, IsOnce, IsAnswered, IsStageStatus, IsStage}
use Rattle.cli_stages.specs.declared.stop.Stop.{Stop}
use Rattle.cli_stages.specs.declared.stop.Stop.TheVariants.{Refused, NoMemory}

-- ---- one answer

refusals-same : {X : Type 0} (r s : Refusal) (a b : Result X Refusal) → a ≡ Err r → b ≡ Err s → a ≡ b → r ≡ s
refusals-same r s a b x y same = let both : Err r ≡ Err s = sym x ∙ same ∙ y in cc

results-same : {X : Type 0} (x y : X) (a b : Result X Refusal) → a ≡ Ok x → b ≡ Ok y → a ≡ b → x ≡ y
results-same x y a b p q same = let both : Ok x ≡ Ok y = sym p ∙ same ∙ q in cc

refusal-no_result : {X : Type 0} (r : Refusal) (x : X) (a b : Result X Refusal) → a ≡ Err r → b ≡ Ok x → a ≡ b → ⊥
refusal-no_result r x a b p q same = let both : Err r ≡ Ok x = sym p ∙ same ∙ q in grind arith

next-once : {X Y : Type 0} (first : Result X Refusal → Type 0) (next : X → Result Y Refusal → Type 0) → IsOnce first
    → ((x : X) → first (Ok x) → IsOnce (next x)) → IsOnce (Next first next)
next-once first next one others a b (stops r h is) (stops s k same) =
    is ∙ ap Err (refusals-same r s (Err r) (Err s) refl refl (one (Err r) (Err s) h k)) ∙ sym same
next-once first next one others a b (stops r h is) (goes_on x k answers) =
    absurd (refusal-no_result r x (Err r) (Ok x) refl refl (one (Err r) (Ok x) h k))
next-once first next one others a b (goes_on x h answers) (stops r k is) =
    absurd (refusal-no_result r x (Err r) (Ok x) refl refl (one (Err r) (Ok x) k h))
next-once {X = X} first next one others a b (goes_on x h answers) (goes_on y k others_answer) =
    let P : X → Type 0 = λ z. next z a in
    others y k a b (subst P (results-same x y (Ok x) (Ok y) refl refl (one (Ok x) (Ok y) h k)) answers) others_answer

-- ---- some answer

next-by : {X Y : Type 0} (first : Result X Refusal → Type 0) (next : X → Result Y Refusal → Type 0)
    (a : Result X Refusal) → first a → ((x : X) → first (Ok x) → IsAnswered (next x)) → IsAnswered (Next first next)
next-by first next (Err refusal) given others = (Err refusal, stops refusal given refl)
next-by first next (Ok x) given others = let rest = others x given in (rest.0, goes_on x given rest.1)

-- ---- its refusals

same-refusal : {Z : Type 0} (r s : Refusal) (a : Result Z Refusal) → Err r ≡ a → a ≡ Err s → r ≡ s
same-refusal r s a p q = let same : Err r ≡ Err s = p ∙ q in cc

no-result : {Z : Type 0} (r : Refusal) (x : Z) (a : Result Z Refusal) → Err r ≡ a → a ≡ Ok x → ⊥
no-result r x a p q = let same : Err r ≡ Ok x = p ∙ q in grind arith

next-refuses : {X Y : Type 0} (first : Result X Refusal → Type 0) (next : X → Result Y Refusal → Type 0)
    → ((r : Refusal) → first (Err r) → IsStageStatus (status_of r))
    → ((x : X) → first (Ok x) → (r : Refusal) → next x (Err r) → IsStageStatus (status_of r))
    → (r : Refusal) → Next first next (Err r) → IsStageStatus (status_of r)
next-refuses first next one others r (stops s given is) =
    let P : Refusal → Type 0 = λ x. IsStageStatus (status_of x) in
    subst P (sym (same-refusal r s _ is refl)) (one s given)
next-refuses first next one others r (goes_on x given answers) = others x given r answers

-- ---- stages

-- the next one is a stage of what the first gives
pub next-stage : {X Y : Type 0} {first : Result X Refusal → Type 0} {next : X → Result Y Refusal → Type 0}
    → IsStage first → ((x : X) → first (Ok x) → IsStage (next x)) → IsStage (Next first next)
next-stage {first = first} {next = next} one others = record {
  once = next-once first next one.once (λ x given. (others x given).once);
  answered = next-by first next one.answered.0 one.answered.1 (λ x given. (others x given).answered);
  refuses = next-refuses first next one.refuses (λ x given. (others x given).refuses);
}

pub last-stage : {X : Type 0} (x : X) → IsStage (Gives x)
last-stage x = record {
  once = λ a b is same. is ∙ sym same;
  answered = (Ok x, refl);
  refuses = λ r is. absurd (no-result r x _ is refl);
}

-- ---- what the code answers

-- the first stage stops
stops-by : {T U X Y : Type 0} (first : Result X Refusal → Type 0) (next : X → Result Y Refusal → Type 0) (view : T → X)
    (see : U → Y) (e : Stop) → Answers first view (Err e) → Answers (Next first next) see (Err e)
stops-by first next view see (Refused r) given = record { answer = stops (refusal_by r) given.answer refl }
stops-by first next view see NoMemory given = record { answer = tt }

-- nothing was given, so nothing is seen
same_stop : {T U X : Type 0} (judged : Result X Refusal → Type 0) (view : T → X) (see : U → X) (e : Stop)
    → Answers judged view (Err e) → Answers judged see (Err e)
same_stop judged view see (Refused r) given = record { answer = given.answer }
same_stop judged view see NoMemory given = record { answer = tt }

-- it stops, and `?` hands this on
pub stopped : {T U X Y : Type 0} {first : Result X Refusal → Type 0} {next : X → Result Y Refusal → Type 0}
    {view : T → X} {see : U → Y} {e : Stop} {r : Result U Stop}
    → Answers first view (Err e) → IsErrAnd r (λ y. y ≡ e) → Answers (Next first next) see r
stopped {first = first} {next = next} {view = view} {see = see} {e = e} {r = r} given handed =
    let q = err_from_is_err_and r handed in rw (q.1, q.2) (stops-by first next view see e given)

-- it stops, and this is the answer of a call that does more
pub stopped_as : {T U X : Type 0} {judged : Result X Refusal → Type 0} {view : T → X} {see : U → X} {e : Stop}
    {r : Result U Stop} → Answers judged view (Err e) → IsErrAnd r (λ y. y ≡ e) → Answers judged see r
stopped_as {judged = judged} {view = view} {see = see} {e = e} {r = r} given handed =
    let q = err_from_is_err_and r handed in rw (q.1, q.2) (same_stop judged view see e given)

-- it gives what the next one follows
pub passed : {T U X Y : Type 0} {first : Result X Refusal → Type 0} {next : X → Result Y Refusal → Type 0}
    {view : T → X} {see : U → Y} {t : T} {r : Result U Stop}
    → Answers first view (Ok t) → Answers (next (view t)) see r → Answers (Next first next) see r
passed {view = view} {t = t} {r = Ok u} given answers =
    record { answer = goes_on (view t) given.answer answers.answer }
passed {view = view} {t = t} {r = Err (Refused s)} given answers =
    record { answer = goes_on (view t) given.answer answers.answer }
passed {r = Err NoMemory} given answers = record { answer = tt }

-- it gives this, and what is answered is seen as the same
pub given_as : {T U X : Type 0} {judged : Result X Refusal → Type 0} {view : T → X} {see : U → X} {t : T} {u : U}
    → Answers judged view (Ok t) → see u ≡ view t → Answers judged see (Ok u)
given_as {X = X} {judged = judged} given same =
    let P : X → Type 0 = λ x. judged (Ok x) in record { answer = subst P (sym same) given.answer }

-- the last one gives what is answered
pub given : {U Y : Type 0} {y : Y} {see : U → Y} {u : U} → see u ≡ y → Answers (Gives y) see (Ok u)
given same = record { answer = ap Ok same }

-- memory ended
pub ended : {U Y : Type 0} {judged : Result Y Refusal → Type 0} {see : U → Y} {r : Result U Stop}
    → IsErrAnd r (λ y. y ≡ NoMemory) → Answers judged see r
ended {judged = judged} {see = see} {r = r} handed =
    let q = err_from_is_err_and r handed in rw (q.1, q.2) (record { answer = tt })
