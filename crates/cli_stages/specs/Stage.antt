-- A stage of a command refuses or gives something, and stages compose.
use Rattle.std.specs.Prelude.{◌≡◌, ⊤, Result, Ok, Err}
use Rattle.cli_refusals.specs.Refusal.{Refusal, status_of}
use Rattle.cli_refusals.specs.View.{refusal_by}
use Rattle.cli_refusals.specs.declared.status.Status.{Status}
use Rattle.cli_refusals.specs.declared.status.Status.TheVariants.{Usage, ReadFault, WriteFault, TooLong, NoMemory as OutOfMemory}
use Rattle.cli_stages.specs.declared.stop.Stop.{Stop}
use Rattle.cli_stages.specs.declared.stop.Stop.TheVariants.{Refused, NoMemory}

-- a stage, of what it refuses and what it gives
abbrev pub stage : {X : Type 0} → (Refusal → Type 0) → (X → Type 0) → Result X Refusal → Type 0
stage refuses gives (Ok x) = gives x
stage refuses gives (Err refusal) = refuses refusal

-- the last stage gives this
abbrev pub Gives : {X : Type 0} → X → Result X Refusal → Type 0
Gives x answer = answer ≡ Ok x

-- a stage refuses, or the next one follows what it gives
pub data Next {X Y : Type 0} (first : Result X Refusal → Type 0)
    (next : X → Result Y Refusal → Type 0) (answer : Result Y Refusal) : Type 0 where
  stops : (refusal : Refusal) → first (Err refusal) → answer ≡ Err refusal → Next first next answer
  goes_on : (x : X) → first (Ok x) → next x answer → Next first next answer

-- ---- what holds of each stage

-- it refuses by one refusal, or gives one thing
abbrev pub IsOnce : {X : Type 0} → (Result X Refusal → Type 0) → Type 0
IsOnce judged = (a b : Result _ Refusal) → judged a → judged b → a ≡ b

-- it refuses, or gives something
abbrev pub IsAnswered : {X : Type 0} → (Result X Refusal → Type 0) → Type 0
IsAnswered judged = (a : Result _ Refusal) × judged a

-- the statuses of a refusal by a stage, which comes after all files of the command were loaded
abbrev pub IsStageStatus : Status → Type 0
IsStageStatus Usage = ⊥
IsStageStatus ReadFault = ⊥
IsStageStatus WriteFault = ⊥
IsStageStatus TooLong = ⊥
IsStageStatus OutOfMemory = ⊥
IsStageStatus status = ⊤

-- it comes to exactly one answer, and refuses neither words nor the loading of files
pub record IsStage {X : Type 0} (judged : Result X Refusal → Type 0) : Type 0 where
  pub once : IsOnce judged
  pub answered : IsAnswered judged
  pub refuses : (refusal : Refusal) → judged (Err refusal) → IsStageStatus (status_of refusal)

-- ---- what the code answers

-- what is answered is the stage's, unless memory ended
abbrev pub IsAnswer : {T X : Type 0} → (Result X Refusal → Type 0) → (T → X) → Result T Stop → Type 0
IsAnswer judged view (Ok value) = judged (Ok (view value))
IsAnswer judged view (Err (Refused refusal)) = judged (Err (refusal_by refusal))
IsAnswer judged view (Err NoMemory) = ⊤

pub record Answers {T X : Type 0} (judged : Result X Refusal → Type 0) (view : T → X)
    (result : Result T Stop) : Type 0 where
  pub answer : IsAnswer judged view result

-- where it is a refusal, it is so
abbrev pub IfRefused : (Refusal → Type 0) → Stop → Type 0
IfRefused P (Refused refusal) = P (refusal_by refusal)
IfRefused P NoMemory = ⊤
