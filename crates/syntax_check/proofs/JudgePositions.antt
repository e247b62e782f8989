-- How the judge goes on.
use Rattle.std.proofs.Common.{◌≡◌, ◌⊎◌, inl, inr, ℕ, ◌==◌, Bool, true, false, if◌then◌else◌, List, [], ◌∷◌, length, Some, None, Ok, Err, refl, ap, ◌∙◌}
use Rattle.tlb_syntax.specs.Lexeme.{Lexeme, word, blank, number, tag, sign, other}
use Rattle.tlb_syntax.specs.Written.{unbounded, standard}
use Rattle.syntax_check.specs.declared.machine.Cause.{Cause}
use Rattle.syntax_check.specs.declared.machine.Cause.TheVariants.{Syntax, DeepType, TooManyConstructors, TooManyFields, TooManyParams}
use Rattle.syntax_check.specs.declared.machine.ParserState.TheVariants.{Start, Marked, Result as ResultName}
use Rattle.syntax_check.specs.Machine.{State, at, Outcome, step}
use Rattle.syntax_check.specs.Judge.{Verdict, Position, awaits_name, is_result, counted, judged_result, judged_name, onward, or_met, after_step, advance_past, advance, finish, go_on}
use Rattle.syntax_check.proofs.Phase.{Phase, between, marked, before, broken, phase_of, is_start, is_marked}
use Rattle.syntax_check.proofs.Stepwise.{sound}
use Rattle.syntax_check.proofs.Steps.{IsLimit}

-- before any limit is met
abbrev pub within_limits : State → ℕ → ℕ → List (List ℕ) → Position
within_limits st place begun names = record {
  bounds = standard;
  state = st;
  place = place;
  begun = begun;
  names = names;
  met = None;
}

-- after one
abbrev pub past_limit : State → ℕ → ℕ → List (List ℕ) → Cause × ℕ → Position
past_limit st place begun names met = record {
  bounds = unbounded;
  state = st;
  place = place;
  begun = begun;
  names = names;
  met = Some met;
}

pub is_false : (b : Bool) → (b ≡ true → ⊥) → b ≡ false
is_false true h = absurd (h refl)
is_false false h = refl

pub true_or_false : (b : Bool) → (b ≡ true) ⊎ (b ≡ false)
true_or_false true = inl refl
true_or_false false = inr refl

-- ---- the phases of some states

pub start_phase : (st : State) → is_start st ≡ true → (phase_of st ≡ between) ⊎ (phase_of st ≡ broken)
start_phase (at Start lv []) e = inl refl
start_phase (at Start lv (x ∷ below)) e = inr refl
start_phase (at mode lv below) e = cc

pub marked_phase : (st : State) → is_marked st ≡ true → (phase_of st ≡ marked) ⊎ (phase_of st ≡ broken)
marked_phase (at Marked lv []) e = inl refl
marked_phase (at Marked lv (x ∷ below)) e = inr refl
marked_phase (at mode lv below) e = cc

-- a name comes at one of the two
pub awaits_not : (st : State) → is_start st ≡ false → is_marked st ≡ false → awaits_name st ≡ false
awaits_not (at Start lv below) e f = cc
awaits_not (at Marked lv below) e f = cc
awaits_not (at mode lv below) e f = refl

pub awaits_start : (st : State) → is_start st ≡ true → awaits_name st ≡ true
awaits_start (at Start lv below) e = refl
awaits_start (at mode lv below) e = cc

pub awaits_marked : (st : State) → is_marked st ≡ true → awaits_name st ≡ true
awaits_marked (at Marked lv below) e = refl
awaits_marked (at mode lv below) e = cc

pub result_phase : (st : State) → is_result st ≡ true → (phase_of st ≡ before) ⊎ (phase_of st ≡ broken)
result_phase (at ResultName lv []) e = inl refl
result_phase (at ResultName lv (x ∷ below)) e = inr refl
result_phase (at mode lv below) e = cc

pub phases_differ : (a b c : Phase) → (a ≡ b → ⊥) → sound a ≡ true → (a ≡ b) ⊎ (a ≡ broken) → ⊥
phases_differ a b c never ok (inl e) = never e
phases_differ a b c never ok (inr e) = let k : sound a ≡ false = ap sound e in absurd (differ (sound a) ok k)
  where
    differ : (x : Bool) → x ≡ true → x ≡ false → ⊥
    differ x e f = cc

pub not_start : (st : State) → sound (phase_of st) ≡ true → (phase_of st ≡ between → ⊥) → is_start st ≡ false
not_start st ok never = is_false (is_start st) (λ e. phases_differ (phase_of st) between between never ok
    (start_phase st e))

pub not_marked : (st : State) → sound (phase_of st) ≡ true → (phase_of st ≡ marked → ⊥) → is_marked st ≡ false
not_marked st ok never = is_false (is_marked st) (λ e. phases_differ (phase_of st) marked marked never ok
    (marked_phase st e))

pub not_result : (st : State) → sound (phase_of st) ≡ true → (phase_of st ≡ before → ⊥) → is_result st ≡ false
not_result st ok never = is_false (is_result st) (λ e. phases_differ (phase_of st) before before never ok
    (result_phase st e))

-- ---- names

pub counted_not : (a : Position) → awaits_name a.state ≡ false → counted a ≡ None
counted_not a e = ap (λ b. if b then (if length a.names == 4096 then or_met a.met (TooManyConstructors, a.place) else
    a.met) else None) e

pub unjudged : (a : Position) (t : Lexeme) → awaits_name a.state ≡ false → is_result a.state ≡ false
    → judged_name a t ≡ None
unjudged a (word x) e f = ap (λ b. if b then judged_result a x else counted a) f ∙ counted_not a e
unjudged a blank e f = counted_not a e
unjudged a (number n) e f = refl
unjudged a (tag b) e f = refl
unjudged a (sign s) e f = refl
unjudged a other e f = refl

pub advance_unjudged : (a : Position) (t : Lexeme) → judged_name a t ≡ None → advance a t ≡ after_step a t
    (step a.bounds a.state t)
advance_unjudged a t e = ap (advance_past a t) e

-- ---- after a limit

pub finish_met : (may_end : State → Bool) (st : State) (place begun : ℕ) (names : List (List ℕ)) (met : Cause × ℕ)
    → finish may_end (past_limit st place begun names met) ≡ Some met
finish_met may_end st place begun names met = either (may_end st)
  where
    either : (b : Bool) → (if b then (past_limit st place begun names met).met else or_met
        (past_limit st place begun names met).met (Syntax, place)) ≡ Some met
    either true = refl
    either false = refl

-- a step that fails answers the limit that was met
pub failed_met : (st : State) (place begun : ℕ) (names : List (List ℕ)) (met : Cause × ℕ) (t : Lexeme) (o : Outcome)
    → ((why : Cause) → IsLimit why → o ≡ Err why → ⊥) → (o ≡ Err TooManyConstructors → ⊥) →
    (further : Position → Verdict)
    → ((next : State) → o ≡ Ok next → further (onward (past_limit st place begun names met)
    t unbounded (Some met) next) ≡ Some met) →
    go_on (after_step (past_limit st place begun names met) t o) further ≡ Some met
failed_met st place begun names met t (Ok next) none many further h = h next refl
failed_met st place begun names met t (Err Syntax) none many further h = refl
failed_met st place begun names met t (Err DeepType) none many further h = absurd (none DeepType tt refl)
failed_met st place begun names met t (Err TooManyConstructors) none many further h = absurd (many refl)
failed_met st place begun names met t (Err TooManyFields) none many further h = absurd (none TooManyFields tt refl)
failed_met st place begun names met t (Err TooManyParams) none many further h = absurd (none TooManyParams tt refl)
