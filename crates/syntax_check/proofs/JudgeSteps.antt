-- One lexeme further.
use Rattle.std.proofs.Common.{ℕ, suc, zero, ◌≡◌, ◌+◌, ◌<◌, ◌∙◌, Bool, false, List, [], ◌∷◌, drop, length, get_or, Option, Some, None, Ok, Err, refl, sym, ap, arith}
use Rattle.std.proofs.lemmas.List.{at_drop_more}
use Rattle.tlb_lexer.specs.declared.Token.{Token}
use Rattle.tlb_lexer.specs.Tokenization.{IsPlaced, PlacedFrom}
use Rattle.tlb_syntax.specs.Lexeme.{Lexeme, lexeme_of, lexemes}
use Rattle.tlb_syntax.specs.Grammar.{Bounds}
use Rattle.tlb_syntax.specs.Written.{unbounded}
use Rattle.syntax_check.specs.declared.machine.ParserState.TheVariants.{Start, Marked, Result as ResultName}
use Rattle.syntax_check.specs.declared.machine.Cause.{Cause}
use Rattle.syntax_check.specs.declared.machine.Cause.TheVariants.{Syntax, DeepType, TooManyConstructors, TooManyFields, TooManyParams}
use Rattle.syntax_check.specs.declared.judge.Refusal.{Refusal}
use Rattle.syntax_check.specs.Judged.{goes_to}
use Rattle.std.specs.Option.{is_some}
use Rattle.syntax_check.specs.Machine.{State, at, Outcome, step}
use Rattle.syntax_check.specs.Judge.{Position, Verdict, free, onward, freed, after_step, advance_past, advance, judged_name, go, go_on}

-- ---- after a limit

-- a state without its counts stands where it stood
onward_free : (st : State) (m n bounds : Bounds) (place begun : ℕ) (names : List (List ℕ))
    (met met_then now : Verdict) (t : Lexeme) (next : State) →
    onward (record { bounds = m; state = st; place = place; begun = begun; names = names; met = met }) t bounds now next ≡
    onward (record { bounds = n; state = free st; place = place; begun = begun; names = names; met = met_then }) t bounds now next
onward_free (at Start lv below) m n bounds place begun names met met_then now t next = refl
onward_free (at Marked lv below) m n bounds place begun names met met_then now t next = refl
onward_free (at ResultName lv below) m n bounds place begun names met met_then now t next = refl
onward_free (at _ lv below) m n bounds place begun names met met_then now t next = refl

pub beyond : (st st_then next : State) (m n : Bounds) (place begun : ℕ) (names : List (List ℕ)) (met : Verdict)
    (t : Lexeme) (why : Cause) (reported : Cause × ℕ) (new : Position) →
    n ≡ unbounded → st_then ≡ free st → reported ≡ (why, place) → step n st_then t ≡ Ok next →
    new ≡ onward (record { bounds = n; state = st_then; place = place; begun = begun; names = names; met = Some reported }) t n (Some reported) next →
    freed (record { bounds = m; state = st; place = place; begun = begun; names = names; met = met }) t why (step unbounded (free st) t) ≡ Ok new
beyond st st_then next m n place begun names met t why reported new e f g h k =
    let stepped : step unbounded (free st) t ≡ Ok next = rw (← e, ← f) h in
    let gone : new ≡ onward (record { bounds = unbounded; state = free st; place = place; begun = begun; names = names; met = Some (why, place) }) t unbounded (Some (why, place)) next =
    rw (← e, ← f, ← g) k in
    ap (freed (record { bounds = m; state = st; place = place; begun = begun; names = names; met = met }) t why) stepped
    ∙ ap Ok (onward_free st m unbounded unbounded place begun names met (Some (why, place)) (Some (why, place)) t next ∙ sym gone)

-- ---- the place

freed_place : (a b : Position) (t : Lexeme) (why : Cause) (r : Outcome) → freed a t why r ≡ Ok b → b.place ≡ a.place + 1
freed_place a b t why (Ok next) e = let inner : onward a t unbounded (Some (why, a.place)) next ≡ b = cc in ap (λ (s : Position). s.place) (sym inner)
freed_place a b t why (Err late) e = cc

step_place : (a b : Position) (t : Lexeme) (r : Outcome) → after_step a t r ≡ Ok b → b.place ≡ a.place + 1
step_place a b t (Ok next) e = let inner : onward a t a.bounds a.met next ≡ b = cc in ap (λ (s : Position). s.place) (sym inner)
step_place a b t (Err Syntax) e = cc
step_place a b t (Err DeepType) e = freed_place a b t DeepType (step unbounded (free a.state) t) e
step_place a b t (Err TooManyConstructors) e = freed_place a b t TooManyConstructors (step unbounded (free a.state) t) e
step_place a b t (Err TooManyFields) e = freed_place a b t TooManyFields (step unbounded (free a.state) t) e
step_place a b t (Err TooManyParams) e = freed_place a b t TooManyParams (step unbounded (free a.state) t) e

past_place : (a b : Position) (t : Lexeme) (found : Verdict) → advance_past a t found ≡ Ok b → b.place ≡ a.place + 1
past_place a b t None e = step_place a b t (step a.bounds a.state t) e
past_place a b t (Some met) e = cc

pub advance_place : (a b : Position) (t : Lexeme) → advance a t ≡ Ok b → b.place ≡ a.place + 1
advance_place a b t e = past_place a b t (judged_name a t) e

pub not_refused : (a b : Position) (t : Lexeme) (found : Option Refusal) → advance a t ≡ goes_to found b
    → false ≡ is_some found → advance a t ≡ Ok b
not_refused a b t None e f = e
not_refused a b t (Some r) e f = cc

-- ---- the tokens

pub placed_at : (text : List ℕ) (start : ℕ) (ts : List Token) (i : ℕ) (d : Token) → PlacedFrom text start ts
    → i < length ts → (from : ℕ) × IsPlaced text from (get_or ts i d)
placed_at text start [] i d h lt = absurd (omega arith)
placed_at text start (t ∷ ts) zero d h lt = (start, h.0)
placed_at text start (t ∷ ts) (suc i) d h lt = placed_at text t.to ts i d h.1 (omega arith)

pub tokens_before : (text : List ℕ) (start : ℕ) (ts : List Token) (i : ℕ) → PlacedFrom text start ts → i < length ts
    → start + i < length text
tokens_before text start [] i h lt = absurd (omega arith)
tokens_before text start (t ∷ ts) zero h lt = omega (arith, h.0.after, h.0.forward, h.0.within)
tokens_before text start (t ∷ ts) (suc i) h lt =
    let later : t.to + i < length text = tokens_before text t.to ts i h.1 (omega arith) in
    omega (arith, later, h.0.after, h.0.forward)

pub goes_on : (may_end : State
    → Bool) (a b : Position) (text : List ℕ) (ts : List Token) (i : ℕ) (d : Token) (t : Lexeme) → i < length ts
    → t ≡ lexeme_of text (get_or ts i d) → advance a t ≡ Ok b →
    go may_end b (lexemes text (drop (i + 1) ts)) ≡ go may_end a (lexemes text (drop i ts))
goes_on may_end a b text ts i d t lt f e =
    let e2 : advance a (lexeme_of text (get_or ts i d)) ≡ Ok b = rw (← f) e in
    sym (at_drop_more (λ xs. go may_end a (lexemes text xs)) ts i d lt ∙ ap (λ r. go_on r (λ next. go may_end next (lexemes text (drop (i + 1) ts)))) e2)
