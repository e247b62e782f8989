-- What is answered for a type word is right.
use Rattle.std.proofs.Common.{◌≡◌, inl, inr, ℕ, Bool, true, false, if◌then◌else◌, List, [], ◌∷◌, ◌++◌, length, Some, None, Result, Ok, Err, refl, sym, ap, ◌∙◌, subst, arith, append-nil, append_assoc, length-append}
use Rattle.tlb_syntax.specs.Lexeme.{Lexeme}
use Rattle.tlb_syntax.specs.Grammar.{Bounds, TypeWord}
use Rattle.tlb_syntax.specs.Tree.{ExprView}
use Rattle.tlb_syntax.specs.Written.{IsFirst, WordRefusal, unbounded, standard, syntax, deep_type, too_many_constructors, too_many_fields, too_many_params, Cause as Reason}
use Rattle.syntax_check.specs.declared.machine.Side.TheVariants.{Paren, Left, Right, Word}
use Rattle.syntax_check.specs.declared.machine.ParserState.TheVariants.{Applied, Operated}
use Rattle.syntax_check.specs.declared.machine.Cause.{Cause}
use Rattle.syntax_check.specs.declared.machine.Cause.TheVariants.{Syntax, DeepType, TooManyConstructors, TooManyFields, TooManyParams}
use Rattle.syntax_check.specs.Machine.{State, at, Outcome, step, run, word_start, is_word_end}
use Rattle.syntax_check.specs.Judge.{Verdict, Position, onward, freed, after_step, judged_name, finish, go_on, go, free}
use Rattle.syntax_check.specs.Verdict.{cause_of, WordWritten, WordIsRefused}
use Rattle.syntax_check.proofs.WithoutCounts.{Switches, every, without, free_is}
use Rattle.syntax_check.proofs.Phase.{Phase, between, marked, before, after_result, in_word, broken, phase_of}
use Rattle.syntax_check.proofs.Steps.{ManyAt}
use Rattle.syntax_check.proofs.Completeness.{word_runs}
use Rattle.syntax_check.proofs.Soundness.{word_soundness}
use Rattle.syntax_check.proofs.Endings.{word_ending}
use Rattle.syntax_check.proofs.Stepwise.{run_more, step_limit, no_constructors, sound, Sound, sound_run, word_run}
use Rattle.syntax_check.proofs.Prefixes.{Language, runs_without, end_is}
use Rattle.syntax_check.proofs.FirstRefusal.{Plain, plain_at_place, plain_first, end_first, no_limit}
use Rattle.syntax_check.proofs.JudgePositions.{within_limits, past_limit, awaits_not, not_start, not_marked, not_result, unjudged, advance_unjudged, finish_met, failed_met}

pub word_end_without : (f : Switches) (st : State) → is_word_end (without f st) ≡ is_word_end st
word_end_without f (at (Applied Paren s) lv below) = refl
word_end_without f (at (Applied (Left k) s) lv below) = refl
word_end_without f (at (Applied (Right k) s) lv below) = refl
word_end_without f (at (Applied Word s) lv below) = refl
word_end_without f (at (Operated Paren s) lv below) = refl
word_end_without f (at (Operated (Left k) s) lv below) = refl
word_end_without f (at (Operated (Right k) s) lv below) = refl
word_end_without f (at (Operated Word s) lv below) = refl
word_end_without f (at mode lv below) = refl

abbrev pub words : Language TypeWord
words = record {
  start = word_start;
  is_end = is_word_end;
  runs = word_runs;
  soundness = word_soundness;
  ending = λ m prefix st e. let k = word_ending m prefix st e [] in (k.0, k.1, k.2, k.3);
  start_without = λ f m. refl;
  end_without = word_end_without;
}

word_phase : (m : Bounds) (prefix : List Lexeme) (st : State) → run m (word_start m) prefix ≡ Ok st
    → phase_of st ≡ in_word
word_phase m prefix st e = word_run m prefix (word_start m) st e refl

-- no name is judged in a type word
unjudged_word : (a : Position) (t : Lexeme) → phase_of a.state ≡ in_word → judged_name a t ≡ None
unjudged_word a t e = unjudged a t (awaits_not a.state (not_start a.state (ap sound e) (differ_1 (phase_of a.state)
    e)) (not_marked a.state (ap sound e) (differ_3 (phase_of a.state) e)))
    (not_result a.state (ap sound e) (differ_2 (phase_of a.state) e))
  where
    differ_1 : (ph : Phase) → ph ≡ in_word → ph ≡ between → ⊥
    differ_1 ph e h = cc

    differ_2 : (ph : Phase) → ph ≡ in_word → ph ≡ before → ⊥
    differ_2 ph e h = cc

    differ_3 : (ph : Phase) → ph ≡ in_word → ph ≡ marked → ⊥
    differ_3 ph e h = cc

-- after a limit the answer stands
word_met : (rest prefix : List Lexeme) (st : State) (place begun : ℕ) (names : List (List ℕ)) (met : Cause × ℕ)
    → run unbounded (word_start unbounded) prefix ≡ Ok st → go is_word_end (past_limit st place begun names met)
    rest ≡ Some met
word_met [] prefix st place begun names met e = finish_met is_word_end st place begun names met
word_met (t ∷ ts) prefix st place begun names met e =
    ap (λ z. go_on z (λ next. go is_word_end next ts)) (advance_unjudged (past_limit st place begun names met) t
    (unjudged_word (past_limit st place begun names met) t (word_phase unbounded prefix st e)))
    ∙ failed_met st place begun names met t (step unbounded st t) (λ why limit h. no_limit words prefix st t why e limit
    h) (no_constructors unbounded st t) (λ next. go is_word_end next ts)
    (λ next h. word_met ts (prefix ++ t ∷ []) next _ _ _ met (run_more unbounded (word_start unbounded) st next prefix t
    e h))

-- ---- what is answered

abbrev IsRight : List Lexeme → Verdict → Type 0
IsRight ls None = (e : ExprView) × TypeWord standard ls e
IsRight ls (Some refusal) = IsFirst (WordRefusal ls) (cause_of refusal.0) refusal.1

plain_of_word : (ls : List Lexeme) (c : Reason) (q : ℕ) → WordRefusal ls c q → Plain TypeWord ls c q
plain_of_word ls syntax q h = h
plain_of_word ls deep_type q h = h
plain_of_word ls too_many_constructors q h = absurd h
plain_of_word ls too_many_fields q h = h
plain_of_word ls too_many_params q h = absurd h

word_of_plain : (ls : List Lexeme) (why : Cause) (q : ℕ) → (why ≡ TooManyParams → ⊥) → Plain TypeWord ls (cause_of why)
    q → WordRefusal ls (cause_of why) q
word_of_plain ls Syntax q never h = h
word_of_plain ls DeepType q never h = h
word_of_plain ls TooManyConstructors q never h = absurd h
word_of_plain ls TooManyFields q never h = h
word_of_plain ls TooManyParams q never h = absurd (never refl)

sound_word : (prefix : List Lexeme) (st : State) → run standard (word_start standard) prefix ≡ Ok st → Sound standard st
sound_word prefix st e = sound_run standard prefix (word_start standard) st e (record { phase = refl; levels = refl })

no_many : (prefix : List Lexeme) (t : Lexeme) (st : State) (why : Cause)
    → run standard (word_start standard) prefix ≡ Ok
    st → step standard st t ≡ Err why → why ≡ TooManyParams → ⊥
no_many prefix t st why e h is = go ((step_limit standard st t TooManyParams tt (h ∙ ap (λ z. Err z) is)).2 refl)
    (word_phase standard prefix st e)
  where
    go : ManyAt standard st t → phase_of st ≡ in_word → ⊥
    go (inl a) b = differ (phase_of st) a b
      where
        differ : (ph : Phase) → ph ≡ broken → ph ≡ in_word → ⊥
        differ ph a b = cc
    go (inr a) b = differ (phase_of st) a.0 b
      where
        differ : (ph : Phase) → ph ≡ after_result → ph ≡ in_word → ⊥
        differ ph a b = cc

first_at_place : (ls prefix later : List Lexeme) (t : Lexeme) (st : State) (why : Cause) (place : ℕ)
    → run standard (word_start standard) prefix ≡ Ok st → ls ≡ prefix ++ t ∷ later → length prefix ≡ place
    → step standard st t ≡ Err why →
    IsFirst (WordRefusal ls) (cause_of why) place
first_at_place ls prefix later t st why place e whole size h = record {
  refused = word_of_plain ls why place (no_many prefix t st why e h) (plain_at_place words ls prefix later t st why place e
      whole size h);
  first = λ c q r. plain_first words ls prefix later t st why place e (sound_word prefix st e) whole size h c q
      (plain_of_word ls c q r);
}

first_at_end : (ls : List Lexeme) (st : State) (place : ℕ) → run standard (word_start standard) ls ≡ Ok st
    → length ls ≡ place → is_word_end st ≡ false → IsFirst (WordRefusal ls) syntax place
first_at_end ls st place e size h = record {
  refused = inr (end_is words standard ls st place e size h);
  first = λ c q r. end_first words ls st place e size c q (plain_of_word ls c q r);
}

-- where a limit is met it is answered
met_at_place : (prefix : List Lexeme) (st : State) (place begun : ℕ) (names : List (List ℕ)) (t : Lexeme)
    (ts : List Lexeme)
    (why : Cause) (o : Outcome) → run standard (word_start standard) prefix ≡ Ok st → step unbounded (free st) t ≡ o →
    go_on (freed (within_limits st place begun names) t why o) (λ next. go is_word_end next ts) ≡ Some (why, place)
met_at_place prefix st place begun names t ts why (Ok next) e h =
    let k = runs_without words every standard prefix st e in
    let P : State → Type 0 = λ z. run unbounded (word_start unbounded) prefix ≡ Ok z in
    word_met ts (prefix ++ t ∷ []) next _ _ _ (why, place) (run_more unbounded (word_start unbounded) (free st) next
    prefix t (subst P (sym (free_is st)) k) h)
met_at_place prefix st place begun names t ts why (Err late) e h = refl

word_right : (rest ls prefix : List Lexeme) (st : State) (place begun : ℕ) (names : List (List ℕ))
    → run standard (word_start standard) prefix ≡ Ok st → ls ≡ prefix ++ rest → length prefix ≡ place →
    IsRight ls (go is_word_end (within_limits st place begun names) rest)
word_right [] ls prefix st place begun names e whole size = ends (is_word_end st) refl
  where
    same : prefix ≡ ls
    same = sym (whole ∙ append-nil prefix)

    e_all : run standard (word_start standard) ls ≡ Ok st
    e_all = let P : List Lexeme → Type 0 = λ z. run standard (word_start standard) z ≡ Ok st in subst P same e

    pick : Bool → Verdict
    pick b = if b then None else Some (Syntax, place)

    ends : (b : Bool) → is_word_end st ≡ b → IsRight ls (finish is_word_end (within_limits st place begun names))
    ends true h = let P : Verdict → Type 0 = IsRight ls in subst P (sym (ap pick h)) (word_soundness standard ls st e_all h)
    ends false h = let P : Verdict → Type 0 = IsRight ls in subst P (sym (ap pick h))
        (first_at_end ls st place e_all (ap length (sym same) ∙ size) h)
word_right (t ∷ ts) ls prefix st place begun names e whole size =
    let P : Result Position (Cause × ℕ) → Type 0 = λ z. IsRight ls (go_on z (λ next. go is_word_end next ts)) in
    subst P (sym (advance_unjudged (within_limits st place begun names) t
    (unjudged_word (within_limits st place begun names) t (word_phase standard prefix st e))))
    (steps (step standard st t) refl
    (λ next h. word_right ts ls (prefix ++ t ∷ []) next _ _ _ (run_more standard (word_start standard) st next prefix t e
    h) (whole ∙ sym (append_assoc prefix (t ∷ []) ts)) (omega (arith, size, length-append prefix (t ∷ [])))))
  where
    a : Position
    a = within_limits st place begun names

    limits : (why : Cause) → step standard st t ≡ Err why
        → IsRight ls (go_on (freed a t why (step unbounded (free st) t)) (λ next. go is_word_end next ts))
    limits why h = let P : Verdict → Type 0 = IsRight ls in
        subst P (sym (met_at_place prefix st place begun names t ts why (step unbounded (free st) t) e refl))
        (first_at_place ls prefix ts t st why place e whole size h)

    steps : (o : Outcome) → step standard st t ≡ o → ((next : State) → step standard st t ≡ Ok next
        → IsRight ls (go is_word_end (onward a t standard None next) ts))
        → IsRight ls (go_on (after_step a t o) (λ next. go is_word_end next ts))
    steps (Ok next) h ih = ih next h
    steps (Err Syntax) h ih = first_at_place ls prefix ts t st Syntax place e whole size h
    steps (Err DeepType) h ih = limits DeepType h
    steps (Err TooManyConstructors) h ih = limits TooManyConstructors h
    steps (Err TooManyFields) h ih = limits TooManyFields h
    steps (Err TooManyParams) h ih = limits TooManyParams h

pub word_written : WordWritten
word_written ls e = let P : Verdict → Type 0 = IsRight ls in
    subst P e (word_right ls ls [] (word_start standard) 0 0 [] refl refl refl)

pub word_refused : WordIsRefused
word_refused ls c place e = let P : Verdict → Type 0 = IsRight ls in
    subst P e (word_right ls ls [] (word_start standard) 0 0 [] refl refl refl)
