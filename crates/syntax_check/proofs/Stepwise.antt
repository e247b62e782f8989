-- Runs on states without some of their counts, and what each state of a run keeps.
use Rattle.std.proofs.Common.{◌≡◌, ◌⊎◌, ◌<◌, Bool, true, false, List, [], ◌∷◌, ◌++◌, length, Ok, Err, refl, sym, ap, ◌∙◌, subst, arith}
use Rattle.tlb_syntax.specs.Lexeme.{Lexeme}
use Rattle.tlb_syntax.specs.Grammar.{Bounds}
use Rattle.tlb_syntax.specs.Written.{form_of}
use Rattle.syntax_check.specs.declared.machine.Cause.{Cause}
use Rattle.syntax_check.specs.declared.machine.Cause.TheVariants.{Syntax, TooManyConstructors, TooManyParams}
use Rattle.syntax_check.specs.Machine.{State, Outcome, and_then, step, run}
use Rattle.syntax_check.specs.Judge.{is_result}
use Rattle.syntax_check.proofs.WithoutCounts.{Switches, without, bounds_without}
use Rattle.syntax_check.proofs.Phase.{Phase, in_word, broken, phase_of, base_of, Turn, opening, marking, heading, within, naming, further, closing, in_a_word, nowhere, Turned}
use Rattle.syntax_check.proofs.Steps.{IsOk, Keeps, Lifts, IsLimit, Facts, goes, stops, exceeds, step_by, ManyAt, step_facts}
use Rattle.syntax_check.proofs.RunResults.{runs_on}

-- ---- outcomes

pub ok_one : (a b : State) → (◌≡◌ {A = Outcome} (Ok a) (Ok b)) → a ≡ b
ok_one a b e = cc

pub err_one : (a b : Cause) → (◌≡◌ {A = Outcome} (Err a) (Err b)) → a ≡ b
err_one a b e = cc

pub clash : (o : Outcome) (st : State) (why : Cause) → o ≡ Ok st → o ≡ Err why → ⊥
clash o st why e h = cc

-- ---- lists

-- the shorter of two prefixes of one list begins the other
pub shorter : (a b c d : List Lexeme) (t : Lexeme) → a ++ t ∷ c ≡ b ++ d → length a < length b → (mid : List Lexeme)
    × (b ≡ a ++ t ∷ mid)
shorter [] [] c d t e h = absurd (omega arith)
shorter [] (x ∷ b) c d t e h = (b, cc)
shorter (y ∷ a) [] c d t e h = absurd (omega arith)
shorter (y ∷ a) (x ∷ b) c d t e h =
    let tails : a ++ t ∷ c ≡ b ++ d = cc in
    let k = shorter a b c d t tails (omega arith) in
    let heads : x ≡ y = cc in
    (k.0, λ i. heads i ∷ k.1 i)

pub same_split : (a b c d : List Lexeme) (t u : Lexeme) → a ++ t ∷ c ≡ b ++ u ∷ d → length a ≡ length b → (a ≡ b)
    × (t ≡ u) × (c ≡ d)
same_split [] [] c d t u e h = (refl, cc, cc)
same_split [] (x ∷ b) c d t u e h = absurd (omega arith)
same_split (y ∷ a) [] c d t u e h = absurd (omega arith)
same_split (y ∷ a) (x ∷ b) c d t u e h =
    let tails : a ++ t ∷ c ≡ b ++ u ∷ d = cc in
    let k = same_split a b c d t u tails (omega arith) in
    let heads : y ≡ x = cc in
    (λ i. heads i ∷ k.0 i, k.1, k.2)

-- ---- runs

pub run_prefix : (m : Bounds) (st : State) (a b : List Lexeme) (last : State) → run m st (a ++ b) ≡ Ok last
    → (mid : State) × (run m st a ≡ Ok mid) × (run m mid b ≡ Ok last)
run_prefix m st a b last e = go (run m st a) refl
  where
    go : (o : Outcome) → run m st a ≡ o → (mid : State) × (run m st a ≡ Ok mid) × (run m mid b ≡ Ok last)
    go (Ok mid) h = (mid, h, sym (ap (λ z. and_then z (λ x. run m x b)) h) ∙ sym (runs_on m st a b) ∙ e)
    go (Err why) h = absurd (clash (run m st (a ++ b)) last why e (runs_on m st a b
        ∙ ap (λ z. and_then z (λ x. run m x b)) h))

pub run_join : (m : Bounds) (st mid last : State) (a b : List Lexeme) → run m st a ≡ Ok mid → run m mid b ≡ Ok last
    → run m st (a ++ b) ≡ Ok last
run_join m st mid last a b e h = runs_on m st a b ∙ ap (λ z. and_then z (λ x. run m x b)) e ∙ h

pub run_one : (m : Bounds) (st next : State) (t : Lexeme) → step m st t ≡ Ok next → run m st (t ∷ []) ≡ Ok next
run_one m st next t e = ap (λ z. and_then z (λ x. run m x [])) e

pub one_run : (m : Bounds) (st next : State) (t : Lexeme) → run m st (t ∷ []) ≡ Ok next → step m st t ≡ Ok next
one_run m st next t e = go (step m st t) refl
  where
    go : (o : Outcome) → step m st t ≡ o → step m st t ≡ Ok next
    go (Ok mid) h = h ∙ sym (ap (λ z. and_then z (λ x. run m x [])) h) ∙ e
    go (Err why) h = absurd (clash (run m st (t ∷ [])) next why e (ap (λ z. and_then z (λ x. run m x [])) h))

pub run_more : (m : Bounds) (st mid next : State) (prefix : List Lexeme) (t : Lexeme) → run m st prefix ≡ Ok mid
    → step m mid t ≡ Ok next → run m st (prefix ++ t ∷ []) ≡ Ok next
run_more m st mid next prefix t e h = run_join m st mid next prefix (t ∷ []) e (run_one m mid next t h)

-- the last step of a run
pub last_step : (m : Bounds) (st mid next : State) (prefix : List Lexeme) (t : Lexeme) → run m st prefix ≡ Ok mid
    → run m st (prefix ++ t ∷ []) ≡ Ok next → step m mid t ≡ Ok next
last_step m st mid next prefix t e h =
    let k = run_prefix m st prefix (t ∷ []) next h in
    let P : State → Type 0 = λ z. run m z (t ∷ []) ≡ Ok next in
    one_run m mid next t (subst P (ok_one k.0 mid (sym k.1 ∙ e)) k.2)

-- ---- what one step says

facts_ok : {F G : Switches → Outcome} {Q : State → Type 0} {P : Type 0} (o : Outcome) → Facts F G Q P o
    → (next : State) → o ≡ Ok next →
    ((f : Switches) → F f ≡ Ok (without f next)) × ((f : Switches) → G f ≡ Ok (without f next)) × Q next
facts_ok {F} {G} {Q} _ (goes {next = n} e g q) next h =
    let same = ok_one n next h in
    (λ f. e f ∙ ap (λ z. Ok (without f z)) same, λ f. g f ∙ ap (λ z. Ok (without f z)) same, subst Q same q)
facts_ok _ (stops e g) next h = cc
facts_ok _ (exceeds limit k l p) next h = cc

facts_syntax : {F G : Switches → Outcome} {Q : State → Type 0} {P : Type 0} (o : Outcome) → Facts F G Q P o
    → o ≡ Err Syntax →
    ((f : Switches) → F f ≡ Err Syntax) × (((f : Switches) → G f ≡ Err Syntax) ⊎ ((f : Switches) → IsOk (G f)))
facts_syntax _ (goes e g q) h = cc
facts_syntax _ (stops e g) h = (e, g)
facts_syntax _ (exceeds {why = why} limit k l p) h = absurd (subst IsLimit (err_one why Syntax h) limit)

facts_limit : {F G : Switches → Outcome} {Q : State → Type 0} {P : Type 0} (o : Outcome) → Facts F G Q P o
    → (why : Cause) → IsLimit why → o ≡ Err why →
    ((f : Switches) → Keeps f why → G f ≡ Err why) × ((f : Switches) → Lifts f why → IsOk (G f))
    × (why ≡ TooManyParams → P)
facts_limit _ (goes e g q) why w h = cc
facts_limit _ (stops e g) why w h = absurd (subst IsLimit (sym (err_one Syntax why h)) w)
facts_limit {F} {G} {Q} {P} _ (exceeds {why = met} limit k l p) why w h =
    let R : Cause → Type 0 = λ z. ((f : Switches) → Keeps f z → G f ≡ Err z)
    × ((f : Switches) → Lifts f z → IsOk (G f)) × (z ≡ TooManyParams → P) in
    subst R (err_one met why h) (k, l, p)

pub step_ok : (m : Bounds) (st next : State) (t : Lexeme) → step m st t ≡ Ok next →
    ((f : Switches) → step_by m st t f ≡ Ok (without f next)) × ((f : Switches) → step_by m st (form_of t) f ≡ Ok
    (without f next)) × Turned st next
step_ok m st next t e = facts_ok (step m st t) (step_facts m st t) next e

pub step_syntax : (m : Bounds) (st : State) (t : Lexeme) → step m st t ≡ Err Syntax →
    ((f : Switches) → step_by m st t f ≡ Err Syntax) × (((f : Switches) → step_by m st (form_of t) f ≡ Err Syntax)
    ⊎ ((f : Switches) → IsOk (step_by m st (form_of t) f)))
step_syntax m st t e = facts_syntax (step m st t) (step_facts m st t) e

pub step_limit : (m : Bounds) (st : State) (t : Lexeme) (why : Cause) → IsLimit why → step m st t ≡ Err why →
    ((f : Switches) → Keeps f why → step_by m st (form_of t) f ≡ Err why)
    × ((f : Switches) → Lifts f why → IsOk (step_by m st (form_of t) f)) × (why ≡ TooManyParams → ManyAt m st t)
step_limit m st t why w e = facts_limit (step m st t) (step_facts m st t) why w e

-- no step answers that there are too many constructors
pub no_constructors : (m : Bounds) (st : State) (t : Lexeme) → step m st t ≡ Err TooManyConstructors → ⊥
no_constructors m st t e = go (step m st t) (step_facts m st t) e
  where
    go : (o : Outcome) → Facts (step_by m st t) (step_by m st (form_of t)) (Turned st) (ManyAt m st t) o
        → o ≡ Err TooManyConstructors → ⊥
    go _ (goes a b c) h = cc
    go _ (stops a b) h = cc
    go _ (exceeds {why = why} limit a b c) h = subst IsLimit (err_one why TooManyConstructors h) limit

pub run_without : (f : Switches) (m : Bounds) (ls : List Lexeme) (st last : State) → run m st ls ≡ Ok last
    → run (bounds_without f m) (without f st) ls ≡ Ok (without f last)
run_without f m [] st last e = ap (λ z. Ok (without f z)) (ok_one st last e)
run_without f m (t ∷ ts) st last e =
    let k = run_prefix m st (t ∷ []) ts last e in
    let s = step_ok m st k.0 t (one_run m st k.0 t k.1) in
    run_join (bounds_without f m) (without f st) (without f k.0) (without f last) (t ∷ []) ts
    (run_one (bounds_without f m) (without f st) (without f k.0) t (s.0 f)) (run_without f m ts k.0 last k.2)

-- ---- what stays

abbrev pub sound : Phase → Bool
sound broken = false
sound _ = true

sound_turn : (a b : Phase) (flag : Bool) → Turn a flag b → sound a ≡ true → sound b ≡ true
sound_turn _ _ _ opening e = refl
sound_turn _ _ _ marking e = refl
sound_turn _ _ _ heading e = refl
sound_turn _ _ _ within e = refl
sound_turn _ _ _ naming e = refl
sound_turn _ _ _ further e = refl
sound_turn _ _ _ closing e = refl
sound_turn _ _ _ in_a_word e = refl
sound_turn _ _ _ nowhere e = cc

pub word_turn : (a b : Phase) (flag : Bool) → Turn a flag b → a ≡ in_word → b ≡ in_word
word_turn _ _ _ opening e = cc
word_turn _ _ _ marking e = cc
word_turn _ _ _ heading e = cc
word_turn _ _ _ within e = cc
word_turn _ _ _ naming e = cc
word_turn _ _ _ further e = cc
word_turn _ _ _ closing e = cc
word_turn _ _ _ in_a_word e = refl
word_turn _ _ _ nowhere e = cc

-- a state in some text, within the levels of the bounds
pub record Sound (m : Bounds) (st : State) : Type 0 where
  pub phase : sound (phase_of st) ≡ true
  pub levels : base_of st ≡ m.levels

pub sound_step : (m : Bounds) (st next : State) (t : Lexeme) → step m st t ≡ Ok next → Sound m st → Sound m next
sound_step m st next t e h =
    let k = step_ok m st next t e in
    record {
      phase = sound_turn (phase_of st) (phase_of next) (is_result st) k.2.turn h.phase;
      levels = k.2.same_base
          ∙ h.levels;
    }

pub sound_run : (m : Bounds) (ls : List Lexeme) (st last : State) → run m st ls ≡ Ok last → Sound m st → Sound m last
sound_run m [] st last e h = subst (Sound m) (ok_one st last e) h
sound_run m (t ∷ ts) st last e h =
    let k = run_prefix m st (t ∷ []) ts last e in
    sound_run m ts k.0 last k.2 (sound_step m st k.0 t (one_run m st k.0 t k.1) h)

pub word_run : (m : Bounds) (ls : List Lexeme) (st last : State) → run m st ls ≡ Ok last → phase_of st ≡ in_word
    → phase_of last ≡ in_word
word_run m [] st last e h = ap phase_of (sym (ok_one st last e)) ∙ h
word_run m (t ∷ ts) st last e h =
    let k = run_prefix m st (t ∷ []) ts last e in
    let s = step_ok m st k.0 t (one_run m st k.0 t k.1) in
    word_run m ts k.0 last k.2 (word_turn (phase_of st) (phase_of k.0) (is_result st) s.2.turn h)
