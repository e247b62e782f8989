-- The names that a run reads as results, and the states at which declarations begin and results are read.
use Rattle.std.proofs.Common.{◌≡◌, ◌⊎◌, inl, inr, ℕ, ◌+◌, ◌≤◌, Bool, true, false, if◌then◌else◌, List, [], ◌∷◌, ◌++◌, length, Option, Some, None, Ok, Err, refl, sym, ap, ◌∙◌, arith, length-append, append-nil}
use Rattle.tlb_syntax.specs.Lexeme.{Lexeme, word, blank, number, tag, sign, other}
use Rattle.tlb_syntax.specs.declared.sign.Sign.TheVariants.{Bang}
use Rattle.tlb_syntax.specs.Grammar.{Bounds, Heads, by_name, by_blank}
use Rattle.tlb_syntax.specs.Written.{form_of}
use Rattle.syntax_check.specs.declared.machine.ParserState.TheVariants.{Start, Marked, Headed, Term, Apply, Applied, Operated, Result as ResultName, Params}
use Rattle.syntax_check.specs.declared.machine.Cause.TheVariants.{Syntax}
use Rattle.syntax_check.specs.Machine.{State, at, step, run, is_schema_end}
use Rattle.syntax_check.specs.Judge.{Position, awaits_name, is_result, heads, judged_name, names_with}
use Rattle.syntax_check.proofs.WithoutCounts.{Switches, without, bounds_without}
use Rattle.syntax_check.proofs.Phase.{Phase, between, marked, before, after_result, in_word, broken, unnamed, is_nil, only, frames_phase, phase_of, is_start, is_marked, Turn, opening, marking, heading, within, naming, further, closing, in_a_word, nowhere, Stays, stays_before, stays_after_result, stays_in_word, stays_broken, side_stays, spot_stays, frames_stay}
use Rattle.syntax_check.proofs.Steps.{IsOk}
use Rattle.syntax_check.proofs.RunResults.{named_in, if_taken, results, results_on}
use Rattle.syntax_check.proofs.Stepwise.{ok_one, clash, run_prefix, one_run, run_one, step_ok, sound}
use Rattle.syntax_check.proofs.JudgePositions.{start_phase, marked_phase, result_phase, awaits_not, counted_not, is_false}

-- ---- results

abbrev pub spelled : Lexeme → List (List ℕ)
spelled (word x) = x ∷ []
spelled _ = []

-- the name that a step reads as a result
abbrev pub named : State → Lexeme → List (List ℕ)
named st t = if is_result st then spelled t else []

named_before : (st : State) (t : Lexeme) (names : List (List ℕ)) → named_in st t names ≡ named st t ++ names
named_before (at ResultName lv below) (word x) names = refl
named_before (at ResultName lv below) t names = refl
named_before (at mode lv below) t names = refl

pub results_one : (m : Bounds) (st next : State) (t : Lexeme) → step m st t ≡ Ok next → results m st (t ∷ []) ≡ named
    st t
results_one m st next t e =
    ap (λ o. named_in st t (if_taken o (λ mid. results m mid []))) e ∙ named_before st t [] ∙ append-nil (named st t)

pub results_more : (m : Bounds) (prefix : List Lexeme) (t : Lexeme) (st mid next : State) → run m st prefix ≡ Ok mid
    → step m mid t ≡ Ok next → results m st (prefix ++ t ∷ []) ≡ results m st prefix ++ named mid t
results_more m prefix t st mid next e h = results_on m st prefix (t ∷ []) mid e ∙ ap (λ z. results m st prefix ++ z)
    (results_one m mid next t h)

-- ---- states without counts

pub marked_without : (f : Switches) (st : State) → is_marked (without f st) ≡ is_marked st
marked_without f (at Marked lv below) = refl
marked_without f (at mode lv below) = refl

pub awaits_without : (f : Switches) (st : State) → awaits_name (without f st) ≡ awaits_name st
awaits_without f (at Start lv below) = refl
awaits_without f (at Marked lv below) = refl
awaits_without f (at mode lv below) = refl

pub result_without : (f : Switches) (st : State) → is_result (without f st) ≡ is_result st
result_without f (at ResultName lv below) = refl
result_without f (at mode lv below) = refl

pub start_without : (f : Switches) (st : State) → is_start (without f st) ≡ is_start st
start_without f (at Start lv below) = refl
start_without f (at mode lv below) = refl

pub end_without : (f : Switches) (st : State) → is_schema_end (without f st) ≡ is_schema_end st
end_without f (at Start lv below) = refl
end_without f (at mode lv below) = refl

pub start_is_end : (st : State) → is_start st ≡ is_schema_end st
start_is_end (at Start lv below) = refl
start_is_end (at mode lv below) = refl

pub named_without : (f : Switches) (st : State) (t : Lexeme) → named (without f st) t ≡ named st t
named_without f st t = ap (λ b. if b then spelled t else []) (result_without f st)

pub results_without : (f : Switches) (m : Bounds) (ls : List Lexeme) (st last : State) → run m st ls ≡ Ok last
    → results (bounds_without f m) (without f st) ls ≡ results m st ls
results_without f m [] st last e = refl
results_without f m (t ∷ ts) st last e =
    let k = run_prefix m st (t ∷ []) ts last e in
    let s = one_run m st k.0 t k.1 in
    let w = (step_ok m st k.0 t s).0 f in
    let free = results (bounds_without f m) (without f k.0) ts in
    ap (λ o. named_in (without f st) t (if_taken o (λ next. results (bounds_without f m) next ts))) w
    ∙ named_before (without f st) t free ∙ ap (λ z. z ++ free) (named_without f st t)
    ∙ ap (λ z. named st t ++ z) (results_without f m ts k.0 last k.2) ∙ sym (named_before st t (results m k.0 ts))
    ∙ sym (ap (λ o. named_in st t (if_taken o (λ next. results m next ts))) s)

-- a lexeme of the same form spells the same
pub spelled_form : (t : Lexeme) → spelled (form_of t) ≡ spelled t
spelled_form (word x) = refl
spelled_form blank = refl
spelled_form (number n) = refl
spelled_form (tag b) = refl
spelled_form (sign s) = refl
spelled_form other = refl

pub named_form : (st : State) (t : Lexeme) → named st (form_of t) ≡ named st t
named_form st t = ap (λ z. if is_result st then z else []) (spelled_form t)

-- the judge's list of names
none_more : (b : Bool) (names : List (List ℕ)) → names ≡ names ++ (if b then [] else [])
none_more true names = sym (append-nil names)
none_more false names = sym (append-nil names)

one_more : (b : Bool) (names : List (List ℕ)) (x : List ℕ) → (if b then names ++ x ∷ [] else names) ≡ names ++
    (if b then x ∷ [] else [])
one_more true names x = refl
one_more false names x = sym (append-nil names)

pub names_with_is : (a : Position) (t : Lexeme) → names_with a t ≡ a.names ++ named a.state t
names_with_is a (word x) = one_more (is_result a.state) a.names x
names_with_is a blank = none_more (is_result a.state) a.names
names_with_is a (number n) = none_more (is_result a.state) a.names
names_with_is a (tag b) = none_more (is_result a.state) a.names
names_with_is a (sign s) = none_more (is_result a.state) a.names
names_with_is a other = none_more (is_result a.state) a.names

-- ---- phases of a schema

abbrev pub in_schema : Phase → Bool
in_schema between = true
in_schema marked = true
in_schema before = true
in_schema after_result = true
in_schema _ = false

pub schema_sound : (ph : Phase) → in_schema ph ≡ true → sound ph ≡ true
schema_sound between e = refl
schema_sound marked e = refl
schema_sound before e = refl
schema_sound after_result e = refl
schema_sound in_word e = refl
schema_sound broken e = cc

pub schema_turn : (a b : Phase) (flag : Bool) → Turn a flag b → in_schema a ≡ true → in_schema b ≡ true
schema_turn _ _ _ opening e = refl
schema_turn _ _ _ marking e = refl
schema_turn _ _ _ heading e = refl
schema_turn _ _ _ within e = refl
schema_turn _ _ _ naming e = refl
schema_turn _ _ _ further e = refl
schema_turn _ _ _ closing e = refl
schema_turn _ _ _ in_a_word e = cc
schema_turn _ _ _ nowhere e = cc

pub before_turn : (a b : Phase) (flag : Bool) → Turn a flag b → a ≡ before → flag ≡ false → b ≡ before
before_turn _ _ _ opening e h = cc
before_turn _ _ _ marking e h = cc
before_turn _ _ _ heading e h = cc
before_turn _ _ _ within e h = refl
before_turn _ _ _ naming e h = cc
before_turn _ _ _ further e h = cc
before_turn _ _ _ closing e h = cc
before_turn _ _ _ in_a_word e h = cc
before_turn _ _ _ nowhere e h = cc

pub naming_turn : (a b : Phase) (flag : Bool) → Turn a flag b → a ≡ before → flag ≡ true → b ≡ after_result
naming_turn _ _ _ opening e h = cc
naming_turn _ _ _ marking e h = cc
naming_turn _ _ _ heading e h = cc
naming_turn _ _ _ within e h = cc
naming_turn _ _ _ naming e h = refl
naming_turn _ _ _ further e h = cc
naming_turn _ _ _ closing e h = cc
naming_turn _ _ _ in_a_word e h = cc
naming_turn _ _ _ nowhere e h = cc

pub opening_turn : (a b : Phase) (flag : Bool) → Turn a flag b → a ≡ between → (b ≡ before) ⊎ (b ≡ marked)
opening_turn _ _ _ opening e = inl refl
opening_turn _ _ _ marking e = inr refl
opening_turn _ _ _ heading e = cc
opening_turn _ _ _ within e = cc
opening_turn _ _ _ naming e = cc
opening_turn _ _ _ further e = cc
opening_turn _ _ _ closing e = cc
opening_turn _ _ _ in_a_word e = cc
opening_turn _ _ _ nowhere e = cc

pub heading_turn : (a b : Phase) (flag : Bool) → Turn a flag b → a ≡ marked → b ≡ before
heading_turn _ _ _ opening e = cc
heading_turn _ _ _ marking e = cc
heading_turn _ _ _ heading e = refl
heading_turn _ _ _ within e = cc
heading_turn _ _ _ naming e = cc
heading_turn _ _ _ further e = cc
heading_turn _ _ _ closing e = cc
heading_turn _ _ _ in_a_word e = cc
heading_turn _ _ _ nowhere e = cc

-- a `!` comes between declarations alone
pub marking_turn : (a b : Phase) (flag : Bool) → Turn a flag b → in_schema a ≡ true → b ≡ marked → a ≡ between
marking_turn _ _ _ opening h e = cc
marking_turn _ _ _ marking h e = refl
marking_turn _ _ _ heading h e = cc
marking_turn _ _ _ within h e = cc
marking_turn _ _ _ naming h e = cc
marking_turn _ _ _ further h e = cc
marking_turn _ _ _ closing h e = cc
marking_turn _ _ _ in_a_word h e = cc
marking_turn _ _ _ nowhere h e = cc

pub after_result_turn : (a b : Phase) (flag : Bool) → Turn a flag b → a ≡ after_result
    → (b ≡ after_result) ⊎ (b ≡ between)
after_result_turn _ _ _ opening e = cc
after_result_turn _ _ _ marking e = cc
after_result_turn _ _ _ heading e = cc
after_result_turn _ _ _ within e = cc
after_result_turn _ _ _ naming e = cc
after_result_turn _ _ _ further e = inl refl
after_result_turn _ _ _ closing e = inr refl
after_result_turn _ _ _ in_a_word e = cc
after_result_turn _ _ _ nowhere e = cc

pub four : (ph : Phase) → in_schema ph ≡ true
    → (ph ≡ between) ⊎ ((ph ≡ marked) ⊎ ((ph ≡ before) ⊎ (ph ≡ after_result)))
four between e = inl refl
four marked e = inr (inl refl)
four before e = inr (inr (inl refl))
four after_result e = inr (inr (inr refl))
four in_word e = cc
four broken e = cc

-- ---- between declarations

not_between : (ph : Phase) → Stays ph → ph ≡ between → ⊥
not_between _ stays_before e = cc
not_between _ stays_after_result e = cc
not_between _ stays_in_word e = cc
not_between _ stays_broken e = cc

only_before : (nil : Bool) → only nil before ≡ between → ⊥
only_before true e = cc
only_before false e = cc

only_marked : (nil : Bool) → only nil marked ≡ between → ⊥
only_marked true e = cc
only_marked false e = cc

only_after_result : (nil : Bool) → only nil after_result ≡ between → ⊥
only_after_result true e = cc
only_after_result false e = cc

pub between_start : (st : State) → phase_of st ≡ between → is_start st ≡ true
between_start (at Start lv below) e = refl
between_start (at Marked lv below) e = absurd (only_marked (is_nil below) e)
between_start (at Headed lv below) e = absurd (only_before (is_nil below) e)
between_start (at (Term spot inner) lv below) e = absurd
    (not_between _ (spot_stays spot (is_nil below) (frames_phase below) (frames_stay below)) e)
between_start (at (Apply p s) lv below) e = absurd (not_between _ (side_stays p (is_nil below) (frames_phase below)
    (frames_stay below)) e)
between_start (at (Applied p s) lv below) e = absurd (not_between _ (side_stays p (is_nil below) (frames_phase below)
    (frames_stay below)) e)
between_start (at (Operated p s) lv below) e = absurd (not_between _ (side_stays p (is_nil below) (frames_phase below)
    (frames_stay below)) e)
between_start (at ResultName lv below) e = absurd (only_before (is_nil below) e)
between_start (at (Params k) lv below) e = absurd (only_after_result (is_nil below) e)
between_start (at mode lv below) e = absurd (not_between _ (frames_stay below) e)

-- ---- after a `!`

no_mark : (ph : Phase) → Stays ph → ph ≡ marked → ⊥
no_mark _ stays_before e = cc
no_mark _ stays_after_result e = cc
no_mark _ stays_in_word e = cc
no_mark _ stays_broken e = cc

marked_only : (nil : Bool) (ph : Phase) → (ph ≡ marked → ⊥) → only nil ph ≡ marked → ⊥
marked_only true ph never e = never e
marked_only false ph never e = cc

differ_marked : (ph : Phase) → ph ≡ marked → (ph ≡ between) ⊎ ((ph ≡ before) ⊎ (ph ≡ after_result)) → ⊥
differ_marked ph e (inl f) = cc
differ_marked ph e (inr (inl f)) = cc
differ_marked ph e (inr (inr f)) = cc

pub phase_marked : (st : State) → phase_of st ≡ marked → is_marked st ≡ true
phase_marked (at Marked lv below) e = refl
phase_marked (at Start lv below) e = absurd (marked_only (is_nil below) between
    (λ f. differ_marked between f (inl refl)) e)
phase_marked (at Headed lv below) e = absurd (marked_only (is_nil below) before
    (λ f. differ_marked before f (inr (inl refl))) e)
phase_marked (at (Term spot inner) lv below) e = absurd
    (no_mark _ (spot_stays spot (is_nil below) (frames_phase below) (frames_stay below)) e)
phase_marked (at (Apply p s) lv below) e = absurd (no_mark _ (side_stays p (is_nil below) (frames_phase below)
    (frames_stay below)) e)
phase_marked (at (Applied p s) lv below) e = absurd (no_mark _ (side_stays p (is_nil below) (frames_phase below)
    (frames_stay below)) e)
phase_marked (at (Operated p s) lv below) e = absurd (no_mark _ (side_stays p (is_nil below) (frames_phase below)
    (frames_stay below)) e)
phase_marked (at ResultName lv below) e = absurd (marked_only (is_nil below) before
    (λ f. differ_marked before f (inr (inl refl))) e)
phase_marked (at (Params k) lv below) e = absurd (marked_only (is_nil below) after_result
    (λ f. differ_marked after_result f (inr (inr refl))) e)
phase_marked (at mode lv below) e = absurd (no_mark _ (frames_stay below) e)

unbroken : (ph other : Phase) → in_schema ph ≡ true → (ph ≡ other) ⊎ (ph ≡ broken) → ph ≡ other
unbroken ph o h (inl e) = e
unbroken ph o h (inr e) = let k : in_schema ph ≡ false = ap in_schema e in cc

pub start_between : (st : State) → in_schema (phase_of st) ≡ true → is_start st ≡ true → phase_of st ≡ between
start_between st h e = unbroken (phase_of st) between h (start_phase st e)

pub marked_between : (st : State) → in_schema (phase_of st) ≡ true → is_marked st ≡ true → phase_of st ≡ marked
marked_between st h e = unbroken (phase_of st) marked h (marked_phase st e)

pub result_before : (st : State) → in_schema (phase_of st) ≡ true → is_result st ≡ true → phase_of st ≡ before
result_before st h e = unbroken (phase_of st) before h (result_phase st e)

pub not_at_start : (st : State) → in_schema (phase_of st) ≡ true → (phase_of st ≡ between → ⊥) → is_start st ≡ false
not_at_start st h never = is_false (is_start st) (λ e. never (start_between st h e))

pub not_at_mark : (st : State) → in_schema (phase_of st) ≡ true → (phase_of st ≡ marked → ⊥) → is_marked st ≡ false
not_at_mark st h never = is_false (is_marked st) (λ e. never (marked_between st h e))

-- neither between declarations nor after a `!`
pub awaits_none : (st : State) → in_schema (phase_of st) ≡ true
    → (phase_of st ≡ before) ⊎ (phase_of st ≡ after_result) → awaits_name st ≡ false
awaits_none st h ph = awaits_not st (not_at_start st h (differ_1 (phase_of st) ph)) (not_at_mark st h
    (differ_2 (phase_of st) ph))
  where
    differ_1 : (p : Phase) → (p ≡ before) ⊎ (p ≡ after_result) → p ≡ between → ⊥
    differ_1 p (inl e) f = cc
    differ_1 p (inr e) f = cc

    differ_2 : (p : Phase) → (p ≡ before) ⊎ (p ≡ after_result) → p ≡ marked → ⊥
    differ_2 p (inl e) f = cc
    differ_2 p (inr e) f = cc

pub not_at_result : (st : State) → in_schema (phase_of st) ≡ true → (phase_of st ≡ before → ⊥) → is_result st ≡ false
not_at_result st h never = is_false (is_result st) (λ e. never (result_before st h e))

-- what a declaration begins with
abbrev pub begins : Lexeme → Bool
begins (word x) = true
begins blank = true
begins (sign Bang) = true
begins _ = false

pub heads_begins : (t : Lexeme) → heads t ≡ true → begins t ≡ true
heads_begins (word x) h = refl
heads_begins blank h = refl
heads_begins t h = cc

pub begins_with : (t : Lexeme) → begins t ≡ true → (t ≡ sign Bang) ⊎ (heads t ≡ true)
begins_with (word x) h = inr refl
begins_with blank h = inr refl
begins_with (sign Bang) h = inl refl
begins_with t h = cc

pub heads_name : (t : Lexeme) → heads t ≡ true → (x : Option (List ℕ)) × Heads t x
heads_name (word x) h = (Some x, by_name)
heads_name blank h = (None, by_blank)
heads_name t h = cc

pub start_goes : (m : Bounds) (st : State) (t : Lexeme) → is_start st ≡ true → begins t ≡ true → IsOk (step m st t)
start_goes m (at Start lv below) (word x) e h = (_, refl)
start_goes m (at Start lv below) blank e h = (_, refl)
start_goes m (at Start lv below) (sign Bang) e h = (_, refl)
start_goes m (at Start lv below) t e h = cc
start_goes m (at mode lv below) t e h = cc

pub start_stops : (m : Bounds) (st : State) (t : Lexeme) → is_start st ≡ true → begins t ≡ false → step m st t ≡ Err
    Syntax
start_stops m (at Start lv below) (word x) e h = cc
start_stops m (at Start lv below) blank e h = cc
start_stops m (at Start lv below) (sign Bang) e h = cc
start_stops m (at Start lv below) t e h = refl
start_stops m (at mode lv below) t e h = cc

pub marked_goes : (m : Bounds) (st : State) (t : Lexeme) → is_marked st ≡ true → heads t ≡ true → IsOk (step m st t)
marked_goes m (at Marked lv below) (word x) e h = (_, refl)
marked_goes m (at Marked lv below) blank e h = (_, refl)
marked_goes m (at Marked lv below) t e h = cc
marked_goes m (at mode lv below) t e h = cc

pub marked_stops : (m : Bounds) (st : State) (t : Lexeme) → is_marked st ≡ true → heads t ≡ false
    → step m st t ≡ Err Syntax
marked_stops m (at Marked lv below) (word x) e h = cc
marked_stops m (at Marked lv below) blank e h = cc
marked_stops m (at Marked lv below) t e h = refl
marked_stops m (at mode lv below) t e h = cc

-- a `!` leads after it, and a name does not
pub mark_leads : (m : Bounds) (st next : State) (t : Lexeme) → is_start st ≡ true → t ≡ sign Bang
    → step m st t ≡ Ok next → is_marked next ≡ true
mark_leads m st next t e is h = go st e (ap (step m st) (sym is) ∙ h)
  where
    go : (st : State) → is_start st ≡ true → step m st (sign Bang) ≡ Ok next → is_marked next ≡ true
    go (at Start lv below) e h = ap is_marked (ok_one next (at Marked lv below) (sym h))
    go (at mode lv below) e h = cc

pub name_leads : (m : Bounds) (st next : State) (t : Lexeme) → is_start st ≡ true → heads t ≡ true
    → step m st t ≡ Ok next → is_marked next ≡ false
name_leads m (at Start lv below) next (word x) e h k = ap is_marked (ok_one next (at Headed lv below) (sym k))
name_leads m (at Start lv below) next blank e h k = ap is_marked (ok_one next (at Headed lv below) (sym k))
name_leads m (at Start lv below) next t e h k = cc
name_leads m (at mode lv below) next t e h k = cc

pub result_goes : (m : Bounds) (st : State) (x : List ℕ) → is_result st ≡ true → IsOk (step m st (word x))
result_goes m (at ResultName lv below) x e = (_, refl)
result_goes m (at mode lv below) x e = cc

-- at a result stands a word, or nothing goes on and no name is judged
pub at_result : (m : Bounds) (st : State) (t : Lexeme) → is_result st ≡ true →
    ((x : List ℕ) × (t ≡ word x)) ⊎ ((step m st t ≡ Err Syntax) × ((a : Position) → awaits_name a.state ≡ false
    → judged_name a t ≡ None))
at_result m (at ResultName lv below) (word x) e = inl (x, refl)
at_result m (at ResultName lv below) blank e = inr (refl, λ a h. counted_not a h)
at_result m (at ResultName lv below) (number n) e = inr (refl, λ a h. refl)
at_result m (at ResultName lv below) (tag n) e = inr (refl, λ a h. refl)
at_result m (at ResultName lv below) (sign n) e = inr (refl, λ a h. refl)
at_result m (at ResultName lv below) other e = inr (refl, λ a h. refl)
at_result m (at mode lv below) t e = cc

-- before a result a step that reads none leads to where none was read
unnamed_turn : (a b : Phase) (flag : Bool) → Turn a flag b → unnamed a ≡ 1 → flag ≡ false → unnamed b ≡ 1
unnamed_turn _ _ _ opening e h = refl
unnamed_turn _ _ _ marking e h = refl
unnamed_turn _ _ _ heading e h = refl
unnamed_turn _ _ _ within e h = refl
unnamed_turn _ _ _ naming e h = cc
unnamed_turn _ _ _ further e h = absurd (omega (arith, e))
unnamed_turn _ _ _ closing e h = absurd (omega (arith, e))
unnamed_turn _ _ _ in_a_word e h = absurd (omega (arith, e))
unnamed_turn _ _ _ nowhere e h = absurd (omega (arith, e))

-- a run from before a result to an end reads one
pub one_result : (m : Bounds) (ls : List Lexeme) (st last : State) → run m st ls ≡ Ok last
    → in_schema (phase_of last) ≡ true → is_schema_end last ≡ true → unnamed (phase_of st) ≡ 1
    → 1 ≤ length (results m st ls)
one_result m [] st last e h ends b =
    let none : unnamed (phase_of last) ≡ 0 = ap unnamed (start_between last h (start_is_end last ∙ ends)) in
    let one : unnamed (phase_of last) ≡ 1 = ap (λ z. unnamed (phase_of z)) (sym (ok_one st last e)) ∙ b in
    absurd (omega (arith, none, one))
one_result m (t ∷ ts) st last e h ends b =
    let k = run_prefix m st (t ∷ []) ts last e in
    let s = one_run m st k.0 t k.1 in
    let w = ap length (results_on m st (t ∷ []) ts k.0 (run_one m st k.0 t s)) in
    let v = ap length (results_one m st k.0 t s) in
    let parts = length-append (results m st (t ∷ [])) (results m k.0 ts) in
    go k.0 s (is_result st) refl (λ f. one_result m ts k.0 last k.2 h ends f) (w ∙ parts) v
  where
    go : (mid : State) → step m st t ≡ Ok mid → (b : Bool) → is_result st ≡ b
        → (unnamed (phase_of mid) ≡ 1 → 1 ≤ length (results m mid ts)) →
        length (results m st (t ∷ ts)) ≡ length (results m st (t ∷ [])) + length (results m mid ts)
        → length (results m st (t ∷ [])) ≡ length (named st t) → 1 ≤ length (results m st (t ∷ ts))
    go mid s false f ih w v =
        let k = ih (unnamed_turn (phase_of st) (phase_of mid) (is_result st) (step_ok m st mid t s).2.turn b f) in
        omega (arith, w, k)
    go mid s true f ih w v = spells (at_result m st t f)
      where
        spells : ((x : List ℕ) × (t ≡ word x))
            ⊎ ((step m st t ≡ Err Syntax) × ((a : Position) → awaits_name a.state ≡ false
            → judged_name a t ≡ None)) → 1 ≤ length (results m st (t ∷ ts))
        spells (inl x) =
            let n : named st t ≡ x.0 ∷ [] = ap (λ z. if z then spelled t else []) f ∙ ap spelled x.1 in
            omega (arith, w, v, ap length n)
        spells (inr x) = absurd (clash (step m st t) mid Syntax s x.0)
