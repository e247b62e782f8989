-- What one step says of the step on a state without some of its counts, and on a lexeme of the same form.
use Rattle.std.proofs.Common.{◌≡◌, ◌⊎◌, inl, inr, ℕ, zero, suc, Bool, true, false, List, [], ◌∷◌, map, bytes_eq, codes, nat_le, if◌then◌else◌, Option, Some, None, Result, Ok, Err, refl, sym, ap, ◌∙◌, subst}
use Rattle.tlb_syntax.specs.declared.sign.Sign.{Sign}
use Rattle.tlb_syntax.specs.declared.sign.Sign.TheVariants.{Hash, Colon, Semicolon, Equal, CloseParen, OpenBrace, CloseBrace, CloseBracket, Question, Dot, Asterisk, Plus, Bang}
use Rattle.tlb_syntax.specs.Lexeme.{Lexeme, word, blank, number, tag, sign, other}
use Rattle.tlb_syntax.specs.Grammar.{Count, Bounds}
use Rattle.tlb_syntax.specs.Written.{form_of}
use Rattle.syntax_check.specs.declared.machine.Side.{Side}
use Rattle.syntax_check.specs.declared.machine.Side.TheVariants.{Paren, Left, Right, Word}
use Rattle.syntax_check.specs.declared.machine.Spot.{Spot}
use Rattle.syntax_check.specs.declared.machine.Spot.TheVariants.{Operand, Argument, Width, Field, Param}
use Rattle.syntax_check.specs.declared.machine.ParserState.{ParserState}
use Rattle.syntax_check.specs.declared.machine.ParserState.TheVariants.{Start, Marked, Headed, Items, Brace, BraceName, Kind, KindEnd, ItemName, ItemBlank, Term, Apply, Applied, Operated, Typed, Bit, BitEnd, Result as ResultName, Params}
use Rattle.syntax_check.specs.declared.machine.Frame.{Frame}
use Rattle.syntax_check.specs.declared.machine.Frame.TheVariants as frames
use Rattle.syntax_check.specs.declared.machine.Cause.{Cause}
use Rattle.syntax_check.specs.declared.machine.Cause.TheVariants.{Syntax, DeepType, TooManyConstructors, TooManyFields, TooManyParams}
use Rattle.syntax_check.specs.Machine.{State, at, Outcome, and_then, spend, Begin, leaf, no_leaf, prefix, paren, record_, begin_sign, begin_number, begin_of, is_width, compares, begins, term, ends_sum, operated, applied, apply, bare_item, ends_items, bare_or_end, items, typed, params, step}
use Rattle.syntax_check.specs.Judge.{is_result}
use Rattle.syntax_check.proofs.WithoutCounts.{Switches, lost, side_without, spot_without, frame_without, without, bounds_without, given_without, IsOpen, open_without, Spending, may, may_not, spending, spend_lost}
use Rattle.syntax_check.proofs.Phase.{Phase, between, marked, before, after_result, broken, is_nil, only, side_phase, spot_phase, frames_phase, phase_of, base, base_of, Turn, opening, marking, heading, within, naming, closing, nowhere, Turned, Stays, stays_after_result, stays_turn, only_stays, side_stays, spot_stays, frames_stay, given_phase}

abbrev pub IsOk : Outcome → Type 0
IsOk o = (next : State) × (o ≡ Ok next)

-- the switches keep the limit of a cause
abbrev pub Keeps : Switches → Cause → Type 0
Keeps f DeepType = f.levels ≡ false
Keeps f TooManyFields = f.items ≡ false
Keeps f TooManyParams = f.params ≡ false
Keeps f _ = ⊥

-- they lift it, and the limits that may be met only after it
abbrev pub Lifts : Switches → Cause → Type 0
Lifts f DeepType = (f.levels ≡ true) × (f.items ≡ true)
Lifts f TooManyFields = f.items ≡ true
Lifts f TooManyParams = (f.params ≡ true) × (f.levels ≡ true)
Lifts f _ = ⊥

abbrev pub IsLimit : Cause → Type 0
IsLimit Syntax = ⊥
IsLimit TooManyConstructors = ⊥
IsLimit _ = Unit {0}

-- F is the outcome on the lexeme, and G that on a lexeme of its form, by switches; Q holds of the state after it,
-- and P where there are too many parameters
pub data Facts (F G : Switches → Outcome) (Q : State → Type 0) (P : Type 0) : Outcome → Type 0 where
  goes : {next : State} → ((f : Switches) → F f ≡ Ok (without f next)) → ((f : Switches) → G f ≡ Ok (without f next))
      → Q next → Facts F G Q P (Ok next)
  stops : ((f : Switches) → F f ≡ Err Syntax) → ((f : Switches) → G f ≡ Err Syntax) ⊎ ((f : Switches) → IsOk (G f))
      → Facts F G Q P (Err Syntax)
  exceeds : {why : Cause} → IsLimit why → ((f : Switches) → Keeps f why → G f ≡ Err why)
      → ((f : Switches) → Lifts f why → IsOk (G f)) → (why ≡ TooManyParams → P) → Facts F G Q P (Err why)

pub both : {F : Switches → Outcome} {Q : State → Type 0} {P : Type 0} {next : State}
    → ((f : Switches) → F f ≡ Ok (without f next)) → Q next → Facts F F Q P (Ok next)
both e q = goes e e q

pub refuses : {F : Switches → Outcome} {Q : State → Type 0} {P : Type 0} → ((f : Switches) → F f ≡ Err Syntax)
    → Facts F F Q P (Err Syntax)
refuses e = stops e (inl e)

ok_along : (a b : Outcome) → a ≡ b → IsOk a → IsOk b
ok_along a b e h = (h.0, sym e ∙ h.1)

-- the same outcomes
facts_along : {F F2 G G2 : Switches → Outcome} {Q R : State → Type 0} {P S : Type 0} {o : Outcome} →
    ((f : Switches) → F f ≡ F2 f) → ((f : Switches) → G f ≡ G2 f) → ((next : State) → Q next → R next) → (P → S)
    → Facts F G Q P o → Facts F2 G2 R S o
facts_along a b w v (goes {next = next} e g q) = goes (λ f. sym (a f) ∙ e f) (λ f. sym (b f) ∙ g f) (w next q)
facts_along a b w v (stops e (inl g)) = stops (λ f. sym (a f) ∙ e f) (inl (λ f. sym (b f) ∙ g f))
facts_along a b w v (stops e (inr g)) = stops (λ f. sym (a f) ∙ e f) (inr (λ f. ok_along _ _ (b f) (g f)))
facts_along a b w v (exceeds limit k l p) = exceeds limit (λ f h. sym (b f) ∙ k f h)
    (λ f h. ok_along _ _ (b f) (l f h)) (λ e. v (p e))

-- one of a count is spent before the rest
spent_facts : (why : Cause) (n : Count) (sw : Switches → Bool) (rest : Count → Outcome) (K L : Switches → Count
    → Outcome) (Q : State → Type 0) (P : Type 0) (o : Result Count Cause) →
    Spending n why o → IsLimit why → ((f : Switches) → Keeps f why → sw f ≡ false)
    → ((f : Switches) → Lifts f why → (sw f ≡ true) × IsOk (L f None)) → (why ≡ TooManyParams → P) →
    ((left : Count) → IsOpen n → Facts (λ f. K f (lost (sw f) left)) (λ f. L f (lost (sw f) left)) Q P (rest left)) →
    Facts (λ f. and_then (spend (lost (sw f) n) why) (K f)) (λ f. and_then (spend (lost (sw f) n) why) (L f)) Q P
    (and_then o rest)
spent_facts why n sw rest K L Q P _ (may {left = left} room e) limit keeps lifts many go =
    facts_along (λ f. sym (ap (λ z. and_then z (K f)) (e (sw f)))) (λ f. sym (ap (λ z. and_then z (L f)) (e (sw f))))
    (λ next q. q) (λ p. p) (go left room)
spent_facts why n sw rest K L Q P _ (may_not e) limit keeps lifts many go =
    exceeds limit (λ f h. ap (λ z. and_then z (L f)) (e (sw f) (keeps f h)))
    (λ f h. let k = lifts f h in ok_along _ _ (sym (ap (λ z. and_then z (L f)) (spend_lost (sw f) n why k.0))) k.1) many

-- ---- terms

-- how a term of the same form begins
abbrev plain : Begin → Begin
plain leaf = leaf
plain no_leaf = leaf
plain prefix = prefix
plain paren = paren
plain record_ = record_

abbrev plain_of : Option Begin → Option Begin
plain_of None = None
plain_of (Some b) = Some (plain b)

-- what a step says that stays in the phase
abbrev Becomes : Phase → Count → State → Type 0
Becomes ph bs next = (phase_of next ≡ ph) × (base_of next ≡ bs)

no_params : {P : Type 0} → DeepType ≡ TooManyParams → P
no_params e = cc

no_params_2 : {P : Type 0} → TooManyFields ≡ TooManyParams → P
no_params_2 e = cc

abbrev Enters : Begin → Count → Type 0
Enters leaf inner = Unit {0}
Enters no_leaf inner = Unit {0}
Enters _ inner = IsOpen inner

lost_open : (b : Bool) (k : Count) → b ≡ true → IsOpen (lost b k)
lost_open true k e = tt
lost_open false k e = cc

spend_open : (k : Count) (why : Cause) → IsOpen k → (left : Count) × (spend k why ≡ Ok left)
spend_open None why h = (None, refl)
spend_open (Some zero) why h = absurd h
spend_open (Some (suc n)) why h = (Some n, refl)

-- a term of such a form begins where a level may be opened
begins_open : (m : Bounds) (b : Begin) (spot : Spot) (lv inner : Count) (below : List Frame) → Enters b inner
    → IsOk (begins m (plain b) spot lv inner below)
begins_open m leaf spot lv inner below h = (_, refl)
begins_open m no_leaf spot lv inner below h = (_, refl)
begins_open m prefix spot lv inner below h = let k = spend_open inner DeepType h in
    (_, ap (λ z. and_then z (λ left. Ok (at (Term spot left) lv below))) k.1)
begins_open m paren spot lv inner below h = let k = spend_open inner DeepType h in
    (_, ap (λ z. and_then z (λ left. Ok (at (Apply Paren false) left (frames.Paren spot lv ∷ below)))) k.1)
begins_open m record_ spot lv inner below h = let k = spend_open inner DeepType h in
    (_, ap (λ z. and_then z (λ left. Ok (at (Items m.items) left (frames.Record spot lv ∷ below)))) k.1)

enters_open : (b : Begin) (inner : Count) → IsOpen inner → Enters b inner
enters_open leaf inner h = tt
enters_open no_leaf inner h = tt
enters_open prefix inner h = h
enters_open paren inner h = h
enters_open record_ inner h = h

abbrev begins_by : Bounds → Begin → Spot → Count → Count → List Frame → Switches → Outcome
begins_by m b spot lv inner below f = begins (bounds_without f m) b (spot_without f spot) (lost f.levels lv)
    (lost f.levels inner) (map (frame_without f) below)

begins_facts : (m : Bounds) (b : Begin) (spot : Spot) (lv inner : Count) (below : List Frame) (P : Type 0) →
    Facts (begins_by m b spot lv inner below) (begins_by m (plain b) spot lv inner below)
    (Becomes (spot_phase spot (is_nil below) (frames_phase below)) (base lv below)) P
    (begins m b spot lv inner below)
begins_facts m leaf spot lv inner below P =
    both (λ f. ap (λ mode. Ok (at mode (lost f.levels lv) (map (frame_without f) below))) (given_without f spot))
    (given_phase spot (is_nil below) (frames_phase below), refl)
begins_facts m no_leaf spot lv inner below P = stops (λ f. refl) (inr (λ f. (_, refl)))
begins_facts m prefix spot lv inner below P =
    spent_facts DeepType inner (λ f. f.levels) (λ left. Ok (at (Term spot left) lv below))
    (λ f left. Ok (at (Term (spot_without f spot) left) (lost f.levels lv) (map (frame_without f) below)))
    (λ f left. Ok (at (Term (spot_without f spot) left) (lost f.levels lv) (map (frame_without f) below)))
    _ P _ (spending inner DeepType) tt (λ f h. h) (λ f h. (h.0, (_, refl))) no_params
    (λ left room. both (λ f. refl) (refl, refl))
begins_facts m paren spot lv inner below P =
    spent_facts DeepType inner (λ f. f.levels) (λ left. Ok (at (Apply Paren false) left (frames.Paren spot lv ∷ below)))
    (λ f left. Ok (at (Apply Paren false) left (frames.Paren (spot_without f spot) (lost f.levels lv) ∷ map
    (frame_without f) below)))
    (λ f left. Ok (at (Apply Paren false) left (frames.Paren (spot_without f spot) (lost f.levels lv) ∷ map
    (frame_without f) below)))
    _ P _ (spending inner DeepType) tt (λ f h. h) (λ f h. (h.0, (_, refl))) no_params
    (λ left room. both (λ f. refl) (refl, refl))
begins_facts m record_ spot lv inner below P =
    spent_facts DeepType inner (λ f. f.levels) (λ left. Ok (at (Items m.items) left (frames.Record spot lv ∷ below)))
    (λ f left. Ok (at (Items (lost f.items m.items)) left (frames.Record (spot_without f spot) (lost f.levels lv) ∷ map
    (frame_without f) below)))
    (λ f left. Ok (at (Items (lost f.items m.items)) left (frames.Record (spot_without f spot) (lost f.levels lv) ∷ map
    (frame_without f) below)))
    _ P _ (spending inner DeepType) tt (λ f h. h) (λ f h. (h.0, (_, refl))) no_params
    (λ left room. both (λ f. refl) (refl, refl))

term_facts : (m : Bounds) (b : Option Begin) (spot : Spot) (lv inner : Count) (below : List Frame) (P : Type 0) →
    Facts (λ f. term (bounds_without f m) b (spot_without f spot) (lost f.levels lv) (lost f.levels inner)
    (map (frame_without f) below))
    (λ f. term (bounds_without f m) (plain_of b) (spot_without f spot) (lost f.levels lv) (lost f.levels inner)
    (map (frame_without f) below))
    (Becomes (spot_phase spot (is_nil below) (frames_phase below)) (base lv below)) P (term m b spot lv inner below)
term_facts m None spot lv inner below P = refuses (λ f. refl)
term_facts m (Some b) spot lv inner below P = begins_facts m b spot lv inner below P

plain_sign : (s : Sign) → plain_of (begin_sign s) ≡ begin_sign s
plain_sign Hash = refl
plain_sign _ = refl

plain_number : (n : Option ℕ) → plain (begin_number n) ≡ leaf
plain_number None = refl
plain_number (Some n) = refl

-- what looks at how a term begins, and at the lexeme only where none begins
formed : (H : Option Begin → Lexeme → Outcome) → ((b : Begin) (t u : Lexeme) → H (Some b) t ≡ H (Some b) u)
    → (t : Lexeme) → H (plain_of (begin_of t)) t ≡ H (begin_of (form_of t)) (form_of t)
formed H same (word x) = refl
formed H same blank = refl
formed H same (number n) = ap (λ b. H (Some b) (number n)) (plain_number n) ∙ same leaf (number n) (number (Some 0))
formed H same (tag b) = refl
formed H same (sign s) = ap (λ b. H b (sign s)) (plain_sign s)
formed H same other = refl

-- ---- sums

compares_facts : (c : Bool) (k lv : Count) (below : List Frame) (P : Type 0) →
    Facts (λ f. if c then Ok (at (Apply (Right (lost f.items k)) false) (lost f.levels lv)
    (map (frame_without f) below)) else Err Syntax)
    (λ f. if c then Ok (at (Apply (Right (lost f.items k)) false) (lost f.levels lv) (map (frame_without f) below))
    else Err Syntax)
    (Becomes (frames_phase below) (base lv below)) P (if c then Ok (at (Apply (Right k) false) lv below) else Err
    Syntax)
compares_facts true k lv below P = both (λ f. refl) (refl, refl)
compares_facts false k lv below P = refuses (λ f. refl)

abbrev ends_sum_by : Side → Count → List Frame → Lexeme → Switches → Outcome
ends_sum_by p lv below t f = ends_sum (side_without f p) (lost f.levels lv) (map (frame_without f) below) t

ends_sum_facts : (p : Side) (lv : Count) (below : List Frame) (t : Lexeme) (P : Type 0) →
    Facts (ends_sum_by p lv below t) (ends_sum_by p lv below t)
    (Becomes (side_phase p (is_nil below) (frames_phase below)) (base lv below)) P (ends_sum p lv below t)
ends_sum_facts Paren lv (frames.Paren spot outer ∷ below) (sign CloseParen) P =
    both (λ f. ap (λ mode. Ok (at mode (lost f.levels outer) (map (frame_without f) below))) (given_without f spot))
    (given_phase spot (is_nil below) (frames_phase below), refl)
ends_sum_facts (Left k) lv below (sign c) P = compares_facts (compares c) k lv below P
ends_sum_facts (Right k) lv below (sign CloseBrace) P = both (λ f. refl) (refl, refl)
ends_sum_facts _ lv below t P = refuses (λ f. refl)

abbrev operated_by : Side → Bool → Count → List Frame → Lexeme → Switches → Outcome
operated_by p s lv below t f = operated (side_without f p) s (lost f.levels lv) (map (frame_without f) below) t

operated_facts : (p : Side) (s : Bool) (lv : Count) (below : List Frame) (t : Lexeme) (P : Type 0) →
    Facts (operated_by p s lv below t) (operated_by p s lv below t)
    (Becomes (side_phase p (is_nil below) (frames_phase below)) (base lv below)) P (operated p s lv below t)
operated_facts p true lv below (sign Asterisk) P = refuses (λ f. refl)
operated_facts p false lv below (sign Asterisk) P = both (λ f. refl) (refl, refl)
operated_facts p s lv below (sign Plus) P = both (λ f. refl) (refl, refl)
operated_facts p s lv below t P = ends_sum_facts p lv below t P

abbrev applied_by : Bounds → Side → Bool → Count → List Frame → Switches → Option Begin → Lexeme → Outcome
applied_by m p s lv below f b t = applied (bounds_without f m) b (side_without f p) s (lost f.levels lv)
    (map (frame_without f) below) t

applied_facts : (m : Bounds) (b : Option Begin) (p : Side) (s : Bool) (lv : Count) (below : List Frame) (t : Lexeme)
    (P : Type 0) →
    Facts (λ f. applied_by m p s lv below f b t) (λ f. applied_by m p s lv below f (plain_of b) t)
    (Becomes (side_phase p (is_nil below) (frames_phase below)) (base lv below)) P (applied m b p s lv below t)
applied_facts m None p s lv below t P = operated_facts p s lv below t P
applied_facts m (Some b) p s lv below t P = begins_facts m b (Argument p s) lv lv below P

width_facts : (m : Bounds) (wide : Bool) (b : Option Begin) (p : Side) (s : Bool) (lv : Count) (below : List Frame)
    (P : Type 0) →
    Facts (λ f. if wide then Ok (at (Term (Width (side_without f p) s) (lost f.levels lv)) (lost f.levels lv)
    (map (frame_without f) below)) else term (bounds_without f m) b (Operand (side_without f p) s)
    (lost f.levels lv) (lost f.levels lv) (map (frame_without f) below))
    (λ f. if wide then Ok (at (Term (Width (side_without f p) s) (lost f.levels lv)) (lost f.levels lv)
    (map (frame_without f) below)) else term (bounds_without f m) (plain_of b) (Operand (side_without f p) s)
    (lost f.levels lv) (lost f.levels lv) (map (frame_without f) below))
    (Becomes (side_phase p (is_nil below) (frames_phase below)) (base lv below)) P
    (if wide then Ok (at (Term (Width p s) lv) lv below) else term m b (Operand p s) lv lv below)
width_facts m true b p s lv below P = both (λ f. refl) (refl, refl)
width_facts m false b p s lv below P = term_facts m b (Operand p s) lv lv below P

abbrev apply_by : Bounds → Side → Bool → Count → List Frame → Lexeme → Switches → Outcome
apply_by m p s lv below t f = apply (bounds_without f m) (side_without f p) s (lost f.levels lv)
    (map (frame_without f) below) t

apply_facts : (m : Bounds) (p : Side) (s : Bool) (lv : Count) (below : List Frame) (t : Lexeme) (P : Type 0) →
    Facts (apply_by m p s lv below t) (apply_by m p s lv below (form_of t))
    (Becomes (side_phase p (is_nil below) (frames_phase below)) (base lv below)) P (apply m p s lv below t)
apply_facts m p s lv below (word x) P = both (λ f. refl) (refl, refl)
apply_facts m p s lv below (sign c) P =
    facts_along (λ f. refl) (λ f. ap
    (λ b. if is_width c then Ok (at (Term (Width (side_without f p) s) (lost f.levels lv)) (lost f.levels lv)
    (map (frame_without f) below)) else term (bounds_without f m) b (Operand (side_without f p) s)
    (lost f.levels lv) (lost f.levels lv) (map (frame_without f) below)) (plain_sign c))
    (λ next q. q) (λ z. z) (width_facts m (is_width c) (begin_sign c) p s lv below P)
apply_facts m p s lv below (number n) P =
    facts_along (λ f. refl) (λ f. ap (λ b. begins (bounds_without f m) b (Operand (side_without f p) s)
    (lost f.levels lv) (lost f.levels lv) (map (frame_without f) below)) (plain_number n))
    (λ next q. q) (λ z. z) (begins_facts m (begin_number n) (Operand p s) lv lv below P)
apply_facts m p s lv below blank P = refuses (λ f. refl)
apply_facts m p s lv below (tag b) P = refuses (λ f. refl)
apply_facts m p s lv below other P = refuses (λ f. refl)

-- ---- items

enters_without : (sw : Bool) (b : Begin) (k : Count) → Enters b k → Enters b (lost sw k)
enters_without sw leaf k h = tt
enters_without sw no_leaf k h = tt
enters_without sw prefix k h = open_without sw k h
enters_without sw paren k h = open_without sw k h
enters_without sw record_ k h = open_without sw k h

abbrev bare_rest : Bounds → Count → List Frame → Count → Begin → Switches → Outcome
bare_rest m lv below k b f = and_then (spend (lost f.items k) TooManyFields) (λ left. begins (bounds_without f m) b
    (Field left) (lost f.levels lv) (lost f.levels lv) (map (frame_without f) below))

bare_in : (m : Bounds) (b : Begin) (k lv : Count) (below : List Frame) (P : Type 0) → Enters b lv →
    Facts (bare_rest m lv below k b) (bare_rest m lv below k (plain b)) (Becomes (frames_phase below) (base lv below))
    P (and_then (spend k TooManyFields) (λ left. begins m b (Field left) lv lv below))
bare_in m b k lv below P enters =
    spent_facts TooManyFields k (λ f. f.items) (λ left. begins m b (Field left) lv lv below)
    (λ f left. begins (bounds_without f m) b (Field left) (lost f.levels lv) (lost f.levels lv)
    (map (frame_without f) below))
    (λ f left. begins (bounds_without f m) (plain b) (Field left) (lost f.levels lv) (lost f.levels lv)
    (map (frame_without f) below))
    _ P _ (spending k TooManyFields) tt (λ f h. h)
    (λ f h. (
      h,
      begins_open (bounds_without f m) b (Field None) (lost f.levels lv) (lost f.levels lv)
          (map (frame_without f) below) (enters_without f.levels b lv enters),
    ))
    no_params_2 (λ left room. begins_facts m b (Field left) lv lv below P)

bare_lifted : (m : Bounds) (b : Begin) (k lv : Count) (below : List Frame) (f : Switches) → f.levels ≡ true
    → f.items ≡ true → IsOk (bare_rest m lv below k (plain b) f)
bare_lifted m b k lv below f levels items =
    ok_along _ _ (sym (ap (λ z. and_then z (λ left. begins (bounds_without f m) (plain b) (Field left)
    (lost f.levels lv) (lost f.levels lv) (map (frame_without f) below))) (spend_lost f.items k TooManyFields
    items)))
    (begins_open (bounds_without f m) b (Field None) (lost f.levels lv) (lost f.levels lv)
    (map (frame_without f) below) (enters_open b _ (lost_open f.levels lv levels)))

bare_deep : (m : Bounds) (b : Begin) (k lv : Count) (below : List Frame) (P : Type 0) →
    Facts (λ f. and_then (spend (lost f.levels lv) DeepType) (λ _. bare_rest m lv below k b f))
    (λ f. and_then (spend (lost f.levels lv) DeepType) (λ _. bare_rest m lv below k (plain b) f))
    (Becomes (frames_phase below) (base lv below)) P
    (and_then (spend lv DeepType) (λ _. and_then (spend k TooManyFields) (λ left. begins m b (Field left) lv lv
    below)))
bare_deep m b k lv below P =
    spent_facts DeepType lv (λ f. f.levels) (λ _. and_then (spend k TooManyFields) (λ left. begins m b (Field left) lv
    lv below))
    (λ f _. bare_rest m lv below k b f) (λ f _. bare_rest m lv below k (plain b) f)
    _ P _ (spending lv DeepType) tt (λ f h. h) (λ f h. (h.0, bare_lifted m b k lv below f h.0 h.1)) no_params
    (λ left room. bare_in m b k lv below P (enters_open b lv room))

abbrev bare_by : Bounds → Count → Count → List Frame → Begin → Switches → Outcome
bare_by m k lv below b f = bare_item (bounds_without f m) b (lost f.items k) (lost f.levels lv)
    (map (frame_without f) below)

bare_facts : (m : Bounds) (b : Begin) (k lv : Count) (below : List Frame) (P : Type 0) →
    Facts (bare_by m k lv below b) (bare_by m k lv below (plain b)) (Becomes (frames_phase below) (base lv below)) P
    (bare_item m b k lv below)
bare_facts m leaf k lv below P = bare_in m leaf k lv below P tt
bare_facts m no_leaf k lv below P = bare_in m no_leaf k lv below P tt
bare_facts m prefix k lv below P = bare_deep m prefix k lv below P
bare_facts m paren k lv below P = bare_deep m paren k lv below P
bare_facts m record_ k lv below P = bare_deep m record_ k lv below P

abbrev ends_items_by : Count → List Frame → Lexeme → Switches → Outcome
ends_items_by lv below t f = ends_items (lost f.levels lv) (map (frame_without f) below) t

ends_items_facts : (lv : Count) (below : List Frame) (t : Lexeme) (P : Type 0) →
    Facts (ends_items_by lv below t) (ends_items_by lv below t) (Becomes (frames_phase below) (base lv below)) P
    (ends_items lv below t)
ends_items_facts lv [] (sign Equal) P = both (λ f. refl) (refl, refl)
ends_items_facts lv (frames.Record spot outer ∷ below) (sign CloseBracket) P =
    both (λ f. ap (λ mode. Ok (at mode (lost f.levels outer) (map (frame_without f) below))) (given_without f spot))
    (given_phase spot (is_nil below) (frames_phase below), refl)
ends_items_facts lv below t P = refuses (λ f. refl)

abbrev bare_or_end_by : Bounds → Count → Count → List Frame → Switches → Option Begin → Lexeme → Outcome
bare_or_end_by m k lv below f b t = bare_or_end (bounds_without f m) b (lost f.items k) (lost f.levels lv)
    (map (frame_without f) below) t

bare_or_end_facts : (m : Bounds) (b : Option Begin) (k lv : Count) (below : List Frame) (t : Lexeme) (P : Type 0) →
    Facts (λ f. bare_or_end_by m k lv below f b t) (λ f. bare_or_end_by m k lv below f (plain_of b) t)
    (Becomes (frames_phase below) (base lv below)) P (bare_or_end m b k lv below t)
bare_or_end_facts m (Some b) k lv below t P = bare_facts m b k lv below P
bare_or_end_facts m None k lv below t P = ends_items_facts lv below t P

abbrev items_by : Bounds → Count → Count → List Frame → Lexeme → Switches → Outcome
items_by m k lv below t f = items (bounds_without f m) (lost f.items k) (lost f.levels lv)
    (map (frame_without f) below) t

items_facts : (m : Bounds) (k lv : Count) (below : List Frame) (t : Lexeme) (P : Type 0) →
    Facts (items_by m k lv below t) (items_by m k lv below (form_of t)) (Becomes (frames_phase below) (base lv below))
    P (items m k lv below t)
items_facts m k lv below (word x) P =
    spent_facts TooManyFields k (λ f. f.items) (λ left. Ok (at (ItemName left) lv below))
    (λ f left. Ok (at (ItemName left) (lost f.levels lv) (map (frame_without f) below)))
    (λ f left. Ok (at (ItemName left) (lost f.levels lv) (map (frame_without f) below)))
    _ P _ (spending k TooManyFields) tt (λ f h. h) (λ f h. (h, (_, refl))) no_params_2
    (λ left room. both (λ f. refl) (refl, refl))
items_facts m k lv below blank P =
    spent_facts TooManyFields k (λ f. f.items) (λ left. Ok (at (ItemBlank left) lv below))
    (λ f left. Ok (at (ItemBlank left) (lost f.levels lv) (map (frame_without f) below)))
    (λ f left. Ok (at (ItemBlank left) (lost f.levels lv) (map (frame_without f) below)))
    _ P _ (spending k TooManyFields) tt (λ f h. h) (λ f h. (h, (_, refl))) no_params_2
    (λ left room. both (λ f. refl) (refl, refl))
items_facts m k lv below (sign OpenBrace) P =
    spent_facts TooManyFields k (λ f. f.items) (λ left. Ok (at (Brace left) lv below))
    (λ f left. Ok (at (Brace left) (lost f.levels lv) (map (frame_without f) below)))
    (λ f left. Ok (at (Brace left) (lost f.levels lv) (map (frame_without f) below)))
    _ P _ (spending k TooManyFields) tt (λ f h. h) (λ f h. (h, (_, refl))) no_params_2
    (λ left room. both (λ f. refl) (refl, refl))
items_facts m k lv below (number n) P =
    facts_along (λ f. refl) (λ f. ap (λ b. bare_by m k lv below b f) (plain_number n)) (λ next q. q) (λ z. z)
    (bare_facts m (begin_number n) k lv below P)
items_facts m k lv below t P = bare_or_end_facts m (begin_of t) k lv below t P

abbrev typed_by : Bounds → Count → Count → List Frame → Lexeme → Switches → Outcome
typed_by m k lv below t f = typed (bounds_without f m) (lost f.items k) (lost f.levels lv)
    (map (frame_without f) below) t

typed_facts : (m : Bounds) (k lv : Count) (below : List Frame) (t : Lexeme) (P : Type 0) →
    Facts (typed_by m k lv below t) (typed_by m k lv below (form_of t)) (Becomes (frames_phase below) (base lv below))
    P (typed m k lv below t)
typed_facts m k lv below (sign Question) P = both (λ f. refl) (refl, refl)
typed_facts m k lv below (sign Dot) P = both (λ f. refl) (refl, refl)
typed_facts m k lv below t P = items_facts m k lv below t P

-- ---- parameters

abbrev params_by : Bounds → Count → Count → List Frame → Switches → Option Begin → Lexeme → Outcome
params_by m k lv below f b t = params (bounds_without f m) b (lost f.params k) (lost f.levels lv)
    (map (frame_without f) below) t

-- a parameter too many: the levels are not exceeded there
abbrev Many : Bounds → Option Begin → Count → Count → List Frame → Lexeme → Type 0
Many m b k lv below t = (only (is_nil below) after_result ≡ broken) ⊎ ((only (is_nil below) after_result ≡ after_result)
    × (IsOpen (base lv below) → (f : Switches) → f.params ≡ true → IsOk (params_by m k lv below f (plain_of b) t)))

params_lifted : (m : Bounds) (b : Begin) (k lv : Count) (below : List Frame) (t : Lexeme) (f : Switches)
    → f.params ≡ true → IsOpen (lost f.levels lv) → IsOk (params_by m k lv below f (Some (plain b)) t)
params_lifted m b k lv below t f h room =
    ok_along _ _ (sym (ap (λ z. and_then z (λ left. begins (bounds_without f m) (plain b) (Param left)
    (lost f.levels lv) (lost f.levels lv) (map (frame_without f) below))) (spend_lost f.params k TooManyParams h)))
    (begins_open (bounds_without f m) b (Param None) (lost f.levels lv) (lost f.levels lv)
    (map (frame_without f) below) (enters_open b _ room))

many : (m : Bounds) (b : Begin) (k lv : Count) (below : List Frame) (t : Lexeme) → Many m (Some b) k lv below t
many m b k lv [] t = inr (refl, λ room f h. params_lifted m b k lv [] t f h (open_without f.levels lv room))
many m b k lv (x ∷ below) t = inl refl

closing_turn : (below : List Frame) → Turn (only (is_nil below) after_result) false (only (is_nil below) between)
closing_turn [] = closing
closing_turn (x ∷ below) = nowhere

keeps_phase : (st next : State) → Stays (phase_of st) → is_result st ≡ false → Becomes (phase_of st) (base_of st) next
    → Turned st next
keeps_phase st next stays plain q = record {
  turn = let P : Bool → Type 0 = λ z. Turn (phase_of st) z (phase_of next) in
      let R : Phase → Type 0 = λ z. Turn (phase_of st) false z in
      subst P (sym plain) (subst R (sym q.0) (stays_turn (phase_of st) stays));
  same_base = q.1;
}

params_facts : (m : Bounds) (b : Option Begin) (k lv : Count) (below : List Frame) (t : Lexeme) →
    Facts (λ f. params_by m k lv below f b t) (λ f. params_by m k lv below f (plain_of b) t)
    (Turned (at (Params k) lv below)) (Many m b k lv below t) (params m b k lv below t)
params_facts m (Some b) k lv below t =
    spent_facts TooManyParams k (λ f. f.params) (λ left. begins m b (Param left) lv lv below)
    (λ f left. begins (bounds_without f m) b (Param left) (lost f.levels lv) (lost f.levels lv)
    (map (frame_without f) below))
    (λ f left. begins (bounds_without f m) (plain b) (Param left) (lost f.levels lv) (lost f.levels lv)
    (map (frame_without f) below))
    _ _ _ (spending k TooManyParams) tt (λ f h. h)
    (λ f h. (
      h.0,
      begins_open (bounds_without f m) b (Param None) (lost f.levels lv) (lost f.levels lv)
          (map (frame_without f) below) (enters_open b _ (lost_open f.levels lv h.1)),
    ))
    (λ e. many m b k lv below t)
    (λ left room. facts_along (λ f. refl) (λ f. refl) (λ next q. keeps_phase (at (Params k) lv below) next
    (only_stays (is_nil below) after_result stays_after_result) refl q) (λ z. z)
    (begins_facts m b (Param left) lv lv below (Many m (Some b) k lv below t)))
params_facts m None k lv below (sign Semicolon) = both (λ f. refl)
    (record { turn = closing_turn below; same_base = refl })
params_facts m None k lv below t = refuses (λ f. refl)

-- ---- one step

abbrev pub step_by : Bounds → State → Lexeme → Switches → Outcome
step_by m st t f = step (bounds_without f m) (without f st) t

abbrev pub ManyAt : Bounds → State → Lexeme → Type 0
ManyAt m st t = (phase_of st ≡ broken) ⊎ ((phase_of st ≡ after_result) × (IsOpen (base_of st) → (f : Switches)
    → f.params ≡ true → IsOk (step_by m st (form_of t) f)))

abbrev pub StepFacts : Bounds → State → Lexeme → Type 0
StepFacts m st t = Facts (step_by m st t) (step_by m st (form_of t)) (Turned st) (ManyAt m st t) (step m st t)

start_turn : (below : List Frame) → Turn (only (is_nil below) between) false (only (is_nil below) before)
start_turn [] = opening
start_turn (x ∷ below) = nowhere

mark_turn : (below : List Frame) → Turn (only (is_nil below) between) false (only (is_nil below) marked)
mark_turn [] = marking
mark_turn (x ∷ below) = nowhere

marked_turn : (below : List Frame) → Turn (only (is_nil below) marked) false (only (is_nil below) before)
marked_turn [] = heading
marked_turn (x ∷ below) = nowhere

headed_turn : (below : List Frame) → Turn (only (is_nil below) before) false (frames_phase below)
headed_turn [] = within
headed_turn (x ∷ below) = nowhere

result_turn : (below : List Frame) → Turn (only (is_nil below) before) true (only (is_nil below) after_result)
result_turn [] = naming
result_turn (x ∷ below) = nowhere

headed : (lv : Count) (below : List Frame) (next : State) → Becomes (frames_phase below) (base lv below) next
    → Turned (at Headed lv below) next
headed lv below next q = record {
  turn = let R : Phase → Type 0 = λ z. Turn (only (is_nil below) before) false z in
      subst R (sym q.0) (headed_turn below);
  same_base = q.1;
}

-- facts that hold in the phase of a state hold of a step from it
staying : (m : Bounds) (st : State) (t : Lexeme) (P : Type 0) (F G : Switches → Outcome) (o : Outcome)
    → Stays (phase_of st) → is_result st ≡ false →
    Facts F G (Becomes (phase_of st) (base_of st)) P o → Facts F G (Turned st) P o
staying m st t P F G o stays plain h = facts_along (λ f. refl) (λ f. refl) (λ next q. keeps_phase st next stays plain
    q) (λ z. z) h

kind_facts : (c : Bool) (k lv : Count) (below : List Frame) (P : Type 0) →
    Facts (λ f. if c then Ok (at (KindEnd (lost f.items k)) (lost f.levels lv) (map (frame_without f) below)) else Err
    Syntax)
    (λ f. if c then Ok (at (KindEnd (lost f.items k)) (lost f.levels lv) (map (frame_without f) below)) else Err Syntax)
    (Becomes (frames_phase below) (base lv below)) P (if c then Ok (at (KindEnd k) lv below) else Err Syntax)
kind_facts true k lv below P = both (λ f. refl) (refl, refl)
kind_facts false k lv below P = refuses (λ f. refl)

bit_facts : (c : Bool) (k lv : Count) (below : List Frame) (P : Type 0) →
    Facts (λ f. if c then Ok (at (BitEnd (lost f.items k)) (lost f.levels lv) (map (frame_without f) below)) else Err
    Syntax)
    (λ f. Ok (at (BitEnd (lost f.items k)) (lost f.levels lv) (map (frame_without f) below)))
    (Becomes (frames_phase below) (base lv below)) P (if c then Ok (at (BitEnd k) lv below) else Err Syntax)
bit_facts true k lv below P = both (λ f. refl) (refl, refl)
bit_facts false k lv below P = stops (λ f. refl) (inr (λ f. (_, refl)))

mode_facts : (m : Bounds) (mode : ParserState) (lv : Count) (below : List Frame) (t : Lexeme)
    → StepFacts m (at mode lv below)
    t
mode_facts m Start lv below (word x) = both (λ f. refl) (record { turn = start_turn below; same_base = refl })
mode_facts m Start lv below blank = both (λ f. refl) (record { turn = start_turn below; same_base = refl })
mode_facts m Start lv below (sign Bang) = both (λ f. refl) (record { turn = mark_turn below; same_base = refl })
mode_facts m Start lv below t = refuses (λ f. refl)
mode_facts m Marked lv below (word x) = both (λ f. refl) (record { turn = marked_turn below; same_base = refl })
mode_facts m Marked lv below blank = both (λ f. refl) (record { turn = marked_turn below; same_base = refl })
mode_facts m Marked lv below t = refuses (λ f. refl)
mode_facts m Headed lv below (tag (Some b)) = both (λ f. refl) (headed lv below _ (refl, refl))
mode_facts m Headed lv below (tag None) = refuses (λ f. refl)
mode_facts m Headed lv below t = facts_along (λ f. refl) (λ f. refl) (λ next q. headed lv below next q) (λ z. z)
    (items_facts m m.items lv below t _)
mode_facts m (Items k) lv below t = staying m (at (Items k) lv below) t _ _ _ _ (frames_stay below) refl
    (items_facts m k lv below t _)
mode_facts m (Brace k) lv below t = staying m (at (Brace k) lv below) t _ _ _ _ (frames_stay below) refl (brace t)
  where
    brace : (t : Lexeme) → Facts (step_by m (at (Brace k) lv below) t) (step_by m (at (Brace k) lv below) (form_of t))
        (Becomes (frames_phase below) (base lv below)) (ManyAt m (at (Brace k) lv below) t)
        (step m (at (Brace k) lv below) t)
    brace (word x) = both (λ f. refl) (refl, refl)
    brace t = apply_facts m (Left k) false lv below t _
mode_facts m (BraceName k) lv below t = staying m (at (BraceName k) lv below) t _ _ _ _ (frames_stay below) refl
    (brace t)
  where
    brace : (t : Lexeme) → Facts (step_by m (at (BraceName k) lv below) t) (step_by m (at (BraceName k) lv below)
        (form_of t)) (Becomes (frames_phase below) (base lv below)) (ManyAt m (at (BraceName k) lv below) t)
        (step m (at (BraceName k) lv below) t)
    brace (sign Colon) = both (λ f. refl) (refl, refl)
    brace t = facts_along (λ f. refl) (λ f. formed (applied_by m (Left k) false lv below f) (λ b t u. refl) t)
        (λ next q. q) (λ z. z) (applied_facts m (begin_of t) (Left k) false lv below t _)
mode_facts m (Kind k) lv below t = staying m (at (Kind k) lv below) t _ _ _ _ (frames_stay below) refl (kind t)
  where
    kind : (t : Lexeme) → Facts (step_by m (at (Kind k) lv below) t) (step_by m (at (Kind k) lv below) (form_of t))
        (Becomes (frames_phase below) (base lv below)) (ManyAt m (at (Kind k) lv below) t)
        (step m (at (Kind k) lv below) t)
    kind (sign Hash) = both (λ f. refl) (refl, refl)
    kind (word x) = kind_facts (bytes_eq x (codes "Type")) k lv below _
    kind t = refuses (λ f. refl)
mode_facts m (KindEnd k) lv below t = staying m (at (KindEnd k) lv below) t _ _ _ _ (frames_stay below) refl (end t)
  where
    end : (t : Lexeme) → Facts (step_by m (at (KindEnd k) lv below) t) (step_by m (at (KindEnd k) lv below)
        (form_of t)) (Becomes (frames_phase below) (base lv below)) (ManyAt m (at (KindEnd k) lv below) t)
        (step m (at (KindEnd k) lv below) t)
    end (sign CloseBrace) = both (λ f. refl) (refl, refl)
    end t = refuses (λ f. refl)
mode_facts m (ItemName k) lv below t = staying m (at (ItemName k) lv below) t _ _ _ _ (frames_stay below) refl (name t)
  where
    name : (t : Lexeme) → Facts (step_by m (at (ItemName k) lv below) t) (step_by m (at (ItemName k) lv below)
        (form_of t)) (Becomes (frames_phase below) (base lv below)) (ManyAt m (at (ItemName k) lv below) t)
        (step m (at (ItemName k) lv below) t)
    name (sign Colon) = both (λ f. refl) (refl, refl)
    name t = typed_facts m k lv below t _
mode_facts m (ItemBlank k) lv below t = staying m (at (ItemBlank k) lv below) t _ _ _ _ (frames_stay below) refl
    (name t)
  where
    name : (t : Lexeme) → Facts (step_by m (at (ItemBlank k) lv below) t) (step_by m (at (ItemBlank k) lv below)
        (form_of t)) (Becomes (frames_phase below) (base lv below)) (ManyAt m (at (ItemBlank k) lv below) t)
        (step m (at (ItemBlank k) lv below) t)
    name (sign Colon) = both (λ f. refl) (refl, refl)
    name t = refuses (λ f. refl)
mode_facts m (Term spot inner) lv below t = staying m (at (Term spot inner) lv below) t _ _ _ _
    (spot_stays spot (is_nil below) (frames_phase below) (frames_stay below)) refl
    (facts_along (λ f. refl) (λ f. formed (λ b u. term (bounds_without f m) b (spot_without f spot) (lost f.levels lv)
    (lost f.levels inner) (map (frame_without f) below)) (λ b t u. refl) t)
    (λ next q. q) (λ z. z) (term_facts m (begin_of t) spot lv inner below _))
mode_facts m (Apply p s) lv below t = staying m (at (Apply p s) lv below) t _ _ _ _
    (side_stays p (is_nil below) (frames_phase below) (frames_stay below)) refl (apply_facts m p s lv below t _)
mode_facts m (Applied p s) lv below t = staying m (at (Applied p s) lv below) t _ _ _ _
    (side_stays p (is_nil below) (frames_phase below) (frames_stay below)) refl
    (facts_along (λ f. refl) (λ f. formed (applied_by m p s lv below f) (λ b t u. refl) t) (λ next q. q) (λ z. z)
    (applied_facts m (begin_of t) p s lv below t _))
mode_facts m (Operated p s) lv below t = staying m (at (Operated p s) lv below) t _ _ _ _
    (side_stays p (is_nil below) (frames_phase below) (frames_stay below)) refl
    (facts_along (λ f. refl) (λ f. unread f t) (λ next q. q) (λ z. z) (operated_facts p s lv below t _))
  where
    unread : (f : Switches) (t : Lexeme) → operated_by p s lv below t f ≡ operated_by p s lv below (form_of t) f
    unread f (number n) = ends p
      where
        ends : (p : Side) → ends_sum_by p lv below (number n) f ≡ ends_sum_by p lv below (number (Some 0)) f
        ends Paren = frames_end below
          where
            frames_end : (below : List Frame) → ends_sum_by Paren lv below (number n) f ≡ ends_sum_by Paren lv below
                (number (Some 0)) f
            frames_end [] = refl
            frames_end (frames.Paren spot outer ∷ rest) = refl
            frames_end (frames.Record spot outer ∷ rest) = refl
        ends (Left k) = refl
        ends (Right k) = refl
        ends Word = refl
    unread f (word x) = refl
    unread f blank = refl
    unread f (tag b) = refl
    unread f (sign c) = refl
    unread f other = refl
mode_facts m (Typed k) lv below t = staying m (at (Typed k) lv below) t _ _ _ _ (frames_stay below) refl
    (typed_facts m k lv below t _)
mode_facts m (Bit k) lv below t = staying m (at (Bit k) lv below) t _ _ _ _ (frames_stay below) refl (bit t)
  where
    bit : (t : Lexeme) → Facts (step_by m (at (Bit k) lv below) t) (step_by m (at (Bit k) lv below) (form_of t))
        (Becomes (frames_phase below) (base lv below)) (ManyAt m (at (Bit k) lv below) t)
        (step m (at (Bit k) lv below) t)
    bit (number (Some n)) = bit_facts (nat_le n 31) k lv below _
    bit (number None) = stops (λ f. refl) (inr (λ f. (_, refl)))
    bit t = refuses (λ f. refl)
mode_facts m (BitEnd k) lv below t = staying m (at (BitEnd k) lv below) t _ _ _ _ (frames_stay below) refl (end t)
  where
    end : (t : Lexeme) → Facts (step_by m (at (BitEnd k) lv below) t) (step_by m (at (BitEnd k) lv below) (form_of t))
        (Becomes (frames_phase below) (base lv below)) (ManyAt m (at (BitEnd k) lv below) t)
        (step m (at (BitEnd k) lv below) t)
    end (sign Question) = both (λ f. refl) (refl, refl)
    end t = refuses (λ f. refl)
mode_facts m ResultName lv below (word x) = both (λ f. refl) (record { turn = result_turn below; same_base = refl })
mode_facts m ResultName lv below t = refuses (λ f. refl)
mode_facts m (Params k) lv below t =
    facts_along (λ f. refl) (λ f. formed (params_by m k lv below f) (λ b t u. refl) t) (λ next q. q)
    (elim [
      | inl e ↦ inl e
      | inr e ↦ inr (
        e.0,
        λ room f h. ok_along _ _ (formed (params_by m k lv below f)
            (λ b t u. refl) t) (e.1 room f h),
      )
    ])
    (params_facts m (begin_of t) k lv below t)

pub step_facts : (m : Bounds) (st : State) (t : Lexeme) → StepFacts m st t
step_facts m (at mode lv below) t = mode_facts m mode lv below t
