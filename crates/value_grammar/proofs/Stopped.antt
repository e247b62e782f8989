-- Where a text is refused, the steps stop with that refusal.
use Rattle.std.proofs.Common.{◌≡◌, ℕ, zero, suc, ◌+◌, Bool, true, false, ◌&&◌, if◌then◌else◌, List, [], ◌∷◌, ◌++◌, map, take, drop, length, Option, Some, None, Result, Ok, Err, refl, sym, ap, ◌∙◌, subst, arith, length-append}
use Rattle.std.proofs.lemmas.List.{drop-drop, length-map, map-append}
use Rattle.cell_nodes.specs.declared.tree.Tree.{Tree}
use Rattle.typed_value.specs.Values.{Slice}
use Rattle.value_text.specs.declared.lexeme.Sign.TheVariants.{CloseParen, OpenParen}
use Rattle.value_text.specs.declared.lexeme.Lexeme.{Lexeme}
use Rattle.value_text.specs.declared.lexeme.Lexeme.TheVariants.{Sign as ASign}
use Rattle.value_text.specs.Division.{Divides, Placed, lexeme_of, lexemes, space_before, without_space}
use Rattle.value_text.specs.Lexemes.{NothingStands, Stands}
use Rattle.value_text.specs.Text.{cell, more}
use Rattle.value_text.specs.Tokens.{Token, bits}
use Rattle.value_grammar.specs.declared.cause.Cause.{Cause}
use Rattle.value_grammar.specs.declared.cause.Cause.TheVariants.{BulkText, DeepText, KeyOrder, Range, Syntax}
use Rattle.value_grammar.specs.Grammar.{CanGoOn, IsWhole}
use Rattle.value_grammar.specs.Shapes.{Shape, shape, shapes, sign}
use Rattle.value_grammar.specs.Open.{CellSpot, Frame, Open, OpenCell, Spot, after_part, at, bits_due, cells_begun, child_due, done, in_cell, paren_due, parts_begun, so_far}
use Rattle.value_grammar.specs.Within.{IsWithin, begins_value, closed, is_beyond, is_bulk, is_cell_due, is_deep_cell, is_out_of_order, is_paren, is_value_due, limit_of}
use Rattle.value_grammar.specs.Steps.{Outcome, Refusal, counted, give_closed, held_of, move, one_more, open_cell_of, step, step_at, unless_limit}
use Rattle.value_grammar.specs.Reading.{IsUnfinished, Reaches, Stops, at_end, at_lexeme, at_nothing}
use Rattle.value_grammar.specs.Refused as refused
use Rattle.value_grammar.specs.Refused.{Closes, RefusedAt, TextRefused}
use Rattle.value_grammar.proofs.ShapeSteps as machine
use Rattle.value_grammar.proofs.ShapeRuns as runs
use Rattle.value_grammar.proofs.ShapeRuns.{run-append}
use Rattle.value_grammar.proofs.ShapeLeft.{goes_on, is_whole}
use Rattle.value_grammar.proofs.Kept.{IsLexeme, spelled_lexeme}
use Rattle.value_grammar.proofs.Sound.{passes}
use Rattle.value_grammar.proofs.Tied.{Fails, Tied, arounds, is_based, no_cell, no_step, state_of, tied, where_of}
use Rattle.value_grammar.proofs.Parens.{ParenOf, paren_of}
use Rattle.value_grammar.proofs.Complete.{divided_left}
use Rattle.value_grammar.proofs.First.{Shaped, There, lexemes_push, reached_goes_on, reached_there, there_step}
use Rattle.value_grammar.proofs.OpenSpots.{Like, LikeCell, open_leads}

-- ---- where the text leads

-- something open that is the same but for places, to which the steps lead
record Led (file : List ℕ) (before : List Placed) (spot : Spot) (below : List Frame) (place : ℕ) (text : List ℕ) : Type 0 where
  o : Open
  like : Like spot below o
  reaches : Reaches file place (held_of o (parts_begun (at spot below)) (cells_begun (at spot below)))
  left : drop place file ≡ text
  there : There before o (parts_begun (at spot below)) (cells_begun (at spot below))

led : (file rest : List ℕ) (before : List Placed) (end : ℕ) (spot : Spot) (below : List Frame) → Divides 0 file before end rest
    → lexemes before ≡ map lexeme_of (so_far (at spot below)) → IsWithin spot below → Led file before spot below (end + space_before rest) (without_space rest)
led file rest before end spot below d e w =
    let place : ℕ = end + space_before rest in
    let q = open_leads spot below w before e in
    let k = divided_left 0 end file rest before d in
    let far = k.far in
    let left : drop place file ≡ without_space rest =
    ap (λ (n : ℕ). drop n file) (let f : place ≡ k.count + space_before rest = omega (arith, far) in f)
    ∙ sym (drop-drop (space_before rest) k.count file) ∙ ap (drop (space_before rest)) (sym k.left) in
    let r : Reaches file place (held_of q.0 (parts_begun (at spot below)) (cells_begun (at spot below))) =
    record { before = before; end = end; rest = rest; divides = d; spaced = refl; left = left; ran = q.2 } in
    record { o = q.0; like = q.1; reaches = r; left = left; there = reached_there file place (held_of q.0 (parts_begun (at spot below)) (cells_begun (at spot below))) r }

-- ---- a lexeme that passes a limit

abbrev limit_at : Open → ℕ → ℕ → Lexeme → Option Cause
limit_at (at spot below) m n l = limit_of m n spot below l

cell_limit : (base : Option Slice) (ps qs : List OpenCell) (c d : CellSpot) (below : List Frame) (m n : ℕ) (l : Lexeme) → length qs ≡ length ps → LikeCell c d
    → limit_of m n (in_cell base qs d) below l ≡ limit_of m n (in_cell base ps c) below l
cell_limit base ps qs paren_due d below m n l e h = ap (λ (x : CellSpot). limit_of m n (in_cell base qs x) below l) h
cell_limit base ps qs (bits_due exotic place) d below m n l e h = ap (λ (x : CellSpot). limit_of m n (in_cell base qs x) below l) h.1
cell_limit base ps qs (after_part p) d below m n l e h = ap (λ (x : CellSpot). limit_of m n (in_cell base qs x) below l) h.1
cell_limit base ps qs (child_due p) d below m n l e h =
    ap (λ (x : CellSpot). limit_of m n (in_cell base qs x) below l) h.1
    ∙ ap (λ (k : ℕ). if is_deep_cell (suc k) l then Some DeepText else if is_bulk m n (in_cell base ps (child_due p)) l then Some BulkText
    else if is_beyond l then Some Range else if is_out_of_order (in_cell base ps (child_due p)) l then Some KeyOrder else None) e

limit_like : (spot : Spot) (below : List Frame) (o : Open) (m n : ℕ) (l : Lexeme) → Like spot below o → limit_at o m n l ≡ limit_of m n spot below l
limit_like (in_cell base ps c) below o m n l h =
    ap (λ (x : Open). limit_at x m n l) h.4 ∙ cell_limit base ps h.0 c h.1 below m n l h.2 h.3
limit_like spot below o m n l h = ap (λ (x : Open). limit_at x m n l) h

limit_stops : (o : Open) (m n : ℕ) (l : Lexeme) (place : ℕ) (cause : Cause) → limit_at o m n l ≡ Some cause → step (held_of o m n) (place, l) ≡ Err (cause, place)
limit_stops (at spot below) m n l place cause e =
    ap (λ (x : Option Cause). counted (unless_limit x place (move spot l place below)) (one_more (is_value_due spot && begins_value l) m) (one_more (is_cell_due spot && is_paren l) n)) e

-- ---- a cell that is closed

same_place : (xs ys us vs : List Placed) (l m : Placed) → xs ++ l ∷ us ≡ ys ++ m ∷ vs → length us ≡ length vs → l ≡ m
same_place [] [] us vs l m e f = cc
same_place [] (y ∷ ys) us vs l m e f =
    let g : us ≡ ys ++ m ∷ vs = cc in
    let h : length us ≡ length (ys ++ m ∷ vs) = ap length g in
    let k = length-append ys (m ∷ vs) in
    absurd (omega (arith, f, h, k))
same_place (x ∷ xs) [] us vs l m e f =
    let g : xs ++ l ∷ us ≡ vs = cc in
    let h : length (xs ++ l ∷ us) ≡ length vs = ap length g in
    let k = length-append xs (l ∷ us) in
    absurd (omega (arith, f, h, k))
same_place (x ∷ xs) (y ∷ ys) us vs l m e f = same_place xs ys us vs l m (let g : xs ++ l ∷ us ≡ ys ++ m ∷ vs = cc in g) f

as_long : (us vs : List Placed) → lexemes us ≡ lexemes vs → length us ≡ length vs
as_long us vs e = sym (length-map us (λ (l : Placed). l.1)) ∙ ap length e ∙ length-map vs (λ (l : Placed). l.1)

-- the cell's `(` is the one after which its bits and references stand
paren_is : (before earlier inner : List Placed) (byte place : ℕ) (body : List Token) → before ≡ earlier ++ (byte, ASign OpenParen) ∷ inner
    → lexemes inner ≡ map lexeme_of body → ParenOf before place body → place ≡ byte
paren_is before earlier inner byte place body e f p =
    let same = same_place p.earlier earlier p.inner inner (place, ASign OpenParen) (byte, ASign OpenParen) (sym p.split ∙ e) (as_long p.inner inner (p.written ∙ sym f)) in
    ap (λ (l : Placed). l.0) same

closed_stops : (base : Option Slice) (qs : List OpenCell) (p : OpenCell) (below : List Frame) (y m n place : ℕ) (cause : Cause) → closed p ≡ Err cause
    → step (held_of (at (in_cell base qs (after_part (open_cell_of p.exotic y p.bits p.refs))) below) m n) (place, ASign CloseParen) ≡ Err (cause, y)
closed_stops base qs p below y m n place cause e = ap (λ (r : Result Tree Cause). counted (give_closed r y base qs below) m n) e

cell_stops : (spot : Spot) (below : List Frame) (o : Open) (before earlier inner : List Placed) (m n place byte : ℕ) (p : OpenCell) (cause : Cause) → Like spot below o
    → There before o m n → Closes (at spot below) p → closed p ≡ Err cause → before ≡ earlier ++ (byte, ASign OpenParen) ∷ inner
    → lexemes inner ≡ map lexeme_of (bits p.bits ∷ more (map cell p.refs)) → step (held_of o m n) (place, ASign CloseParen) ≡ Err (cause, byte)
cell_stops (in_cell base ps (after_part q)) below o before earlier inner m n place byte p cause h t c e f g =
    let qs : List OpenCell = h.0 in
    let y : ℕ = h.3.0 in
    let r : OpenCell = open_cell_of p.exotic y p.bits p.refs in
    let same : o ≡ at (in_cell base qs (after_part r)) below =
    h.4 ∙ ap (λ (x : CellSpot). at (in_cell base qs x) below) h.3.1 ∙ ap (λ (x : OpenCell). at (in_cell base qs (after_part (open_cell_of x.exotic y x.bits x.refs))) below) c in
    let T : Open → Type 0 = λ x. There before x m n in
    let S : Open → Type 0 = λ x. step (held_of x m n) (place, ASign CloseParen) ≡ Err (cause, byte) in
    let u = subst T same t in
    let there = paren_is before earlier inner byte y (bits p.bits ∷ more (map cell p.refs)) f g (paren_of before base qs r below u.known.written u.parens) in
    subst S (sym same) (closed_stops base qs p below y m n place cause e ∙ ap (λ (x : ℕ). Err (cause, x)) there)
cell_stops (in_cell base ps paren_due) below o before earlier inner m n place byte p cause h t c e f g = absurd c
cell_stops (in_cell base ps (bits_due exotic paren)) below o before earlier inner m n place byte p cause h t c e f g = absurd c
cell_stops (in_cell base ps (child_due q)) below o before earlier inner m n place byte p cause h t c e f g = absurd c
cell_stops spot below o before earlier inner m n place byte p cause h t c e f g = absurd c

-- ---- a lexeme with which no value can go on

given_goes_on : (b : List machine.Around) (prefix : List Shape) → machine.run runs.start prefix ≡ Some (machine.given b) → CanGoOn prefix
given_goes_on [] prefix e = goes_on machine.done [] prefix e (λ h. refl)
given_goes_on (machine.in_field ∷ b) prefix e = goes_on machine.after_field b prefix e (λ h. absurd (cc))
given_goes_on (machine.in_item ∷ b) prefix e = goes_on machine.after_item b prefix e (λ h. absurd (cc))
given_goes_on (machine.in_reference ∷ b) prefix e = given_goes_on b prefix e
given_goes_on (machine.in_pair ∷ b) prefix e = goes_on machine.after_entry b prefix e (λ h. absurd (cc))

cell_goes_on : (base : Bool) (n : ℕ) (b : List machine.Around) (prefix : List Shape) → machine.run runs.start prefix ≡ Some (machine.cell_given base n b) → CanGoOn prefix
cell_goes_on false zero b prefix e = given_goes_on b prefix e
cell_goes_on true zero b prefix e = goes_on machine.after_rest b prefix e (λ h. absurd (cc))
cell_goes_on false (suc n) b prefix e = goes_on (machine.after_part false n) b prefix e (λ h. absurd (cc))
cell_goes_on true (suc n) b prefix e = goes_on (machine.after_part true n) b prefix e (λ h. absurd (cc))

one_more_shape : (prefix : List Shape) (s : machine.State) (c : Shape) (o : Option machine.State) → machine.run runs.start prefix ≡ Some s → machine.step s c ≡ o
    → machine.run runs.start (prefix ++ c ∷ []) ≡ machine.onward o (λ q. Some q)
one_more_shape prefix s c o e f =
    run-append runs.start prefix (c ∷ [])
    ∙ ap (λ (x : Option machine.State). machine.onward x (λ q. machine.run q (c ∷ []))) e
    ∙ ap (λ (x : Option machine.State). machine.onward x (λ q. Some q)) f

-- a value can go on with the `)` of a cell
paren_goes_on : (before : List Lexeme) (spot : Spot) (below : List Frame) (q : OpenCell) → Shaped before (at spot below) → Closes (at spot below) q
    → CanGoOn (shapes before ++ sign CloseParen ∷ [])
paren_goes_on before (in_cell base ps (after_part p)) below q s c =
    cell_goes_on (is_based base) (length ps) (arounds below) (shapes before ++ sign CloseParen ∷ [])
    (one_more_shape (shapes before) (state_of (at (in_cell base ps (after_part p)) below)) (sign CloseParen)
    (Some (machine.cell_given (is_based base) (length ps) (arounds below))) s refl)
paren_goes_on before (in_cell base ps paren_due) below q s c = absurd c
paren_goes_on before (in_cell base ps (bits_due exotic paren)) below q s c = absurd c
paren_goes_on before (in_cell base ps (child_due p)) below q s c = absurd c
paren_goes_on before spot below q s c = absurd c

abbrev Onward : List Placed → Lexeme → Type 0
Onward before l = CanGoOn (shapes (lexemes before) ++ shape l ∷ [])

fails_stop : (before : List Placed) (spot : Spot) (below : List Frame) (m n place : ℕ) (l : Lexeme) (cause : Cause) (byte : ℕ) → There before (at spot below) m n
    → Fails (at spot below) l place (machine.move (where_of spot) (shape l) (arounds below)) cause byte → (Onward before l → ⊥) → ◌≡◌ {A = Refusal} (cause, byte) (Syntax, place)
fails_stop before spot below m n place l cause byte t (no_step e) stuck = refl
fails_stop before spot below m n place l cause byte t (no_cell q is c f) stuck =
    let P : Lexeme → Type 0 = λ x. Onward before x in
    absurd (stuck (subst P (sym is) (paren_goes_on (lexemes before) spot below q t.shaped c)))

lexeme_goes_on : (before : List Placed) (spot : Spot) (below : List Frame) (m n place : ℕ) (l : Lexeme) (to : Open) → There before (at spot below) m n → IsLexeme l
    → limit_of m n spot below l ≡ None → move spot l place below ≡ Ok to → Onward before l
lexeme_goes_on before spot below m n place l to t i e f =
    let v : ℕ = one_more (is_value_due spot && begins_value l) m in
    let c : ℕ = one_more (is_cell_due spot && is_paren l) n in
    let s : step_at spot below m n l place ≡ Ok (held_of to v c) =
    ap (λ (x : Option Cause). counted (unless_limit x place (move spot l place below)) v c) e ∙ ap (λ (x : Outcome). counted x v c) f in
    let u = there_step before spot below m n l place (held_of to v c) t i s in
    let P : List Lexeme → Type 0 = λ x. CanGoOn (shapes x) in
    let Q : List Shape → Type 0 = λ x. CanGoOn x in
    subst Q (map-append shape (lexemes before) (l ∷ [])) (subst P (lexemes_push before place l) (reached_goes_on (before ++ (place, l) ∷ []) to v c u))

syntax_stops : (before : List Placed) (o : Open) (m n place : ℕ) (l : Lexeme) → There before o m n → IsLexeme l → limit_at o m n l ≡ None → (Onward before l → ⊥)
    → step (held_of o m n) (place, l) ≡ Err (Syntax, place)
syntax_stops before (at spot below) m n place l t i e stuck = by_move (move spot l place below) refl
  where
    v : ℕ
    v = one_more (is_value_due spot && begins_value l) m

    c : ℕ
    c = one_more (is_cell_due spot && is_paren l) n

    by_move : (x : Outcome) → move spot l place below ≡ x → step_at spot below m n l place ≡ Err (Syntax, place)
    by_move (Ok to) f = absurd (stuck (lexeme_goes_on before spot below m n place l to t i e f))
    by_move (Err r) f =
        let p = passes m n spot below l e in
        let P : Outcome → Type 0 = λ x. Tied x (at spot below) l place (machine.move (where_of spot) (shape l) (arounds below)) in
        let same = fails_stop before spot below m n place l r.0 r.1 t (subst P f (tied spot l place below p.beyond)) stuck in
        ap (λ (x : Option Cause). counted (unless_limit x place (move spot l place below)) v c) e ∙ ap (λ (x : Outcome). counted x v c) f
        ∙ ap (λ (x : Refusal). Err x) same

-- ---- the end of a text

unfinished : (before : List Placed) (spot : Spot) (below : List Frame) (m n : ℕ) → There before (at spot below) m n → (IsWhole (shapes (lexemes before)) → ⊥) → IsUnfinished spot
unfinished before (done v) [] m n t h = h (is_whole (shapes (lexemes before)) t.shaped)
unfinished before (done v) (f ∷ below) m n t h = let e = t.known.keeps.1.2 in absurd (omega (arith, e))
unfinished before spot below m n t h = tt

end_stops : (file : List ℕ) (before : List Placed) (o : Open) (m n place : ℕ) → Reaches file place (held_of o m n) → There before o m n → drop place file ≡ []
    → (IsWhole (shapes (lexemes before)) → ⊥) → Stops file Syntax place
end_stops file before (at spot below) m n place r t e h = at_end r e spot below refl (unfinished before spot below m n t h)

-- ---- every refusal

led_stops : (file : List ℕ) (before : List Placed) (spot : Spot) (below : List Frame) (place : ℕ) (text : List ℕ) (cause : Cause) (byte : ℕ)
    → Led file before spot below place text → RefusedAt (at spot below) before place text cause byte → Stops file cause byte
led_stops file before spot below place text cause byte h (refused.at_limit {l = l} {n = n} {cause = c} st e) =
    let m : ℕ = parts_begun (at spot below) in
    let k : ℕ = cells_begun (at spot below) in
    let S : List ℕ → Type 0 = λ x. Stands l n x in
    at_lexeme h.reaches (subst S (sym h.left) st) (limit_stops h.o m k l place c (limit_like spot below h.o m k l h.like ∙ e))
led_stops file before spot below place text cause byte h (refused.at_cell {n = n} {byte = b} {cause = c} st p earlier inner closes e f g) =
    let m : ℕ = parts_begun (at spot below) in
    let k : ℕ = cells_begun (at spot below) in
    let S : List ℕ → Type 0 = λ x. Stands (ASign CloseParen) n x in
    at_lexeme h.reaches (subst S (sym h.left) st) (cell_stops spot below h.o before earlier inner m k place b p c h.like h.there closes e f g)
led_stops file before spot below place text cause byte h (refused.at_lexeme {l = l} {n = n} st e go stuck) =
    let m : ℕ = parts_begun (at spot below) in
    let k : ℕ = cells_begun (at spot below) in
    let S : List ℕ → Type 0 = λ x. Stands l n x in
    at_lexeme h.reaches (subst S (sym h.left) st)
    (syntax_stops before h.o m k place l h.there (spelled_lexeme l (take n text) st.spelled) (limit_like spot below h.o m k l h.like ∙ e) stuck)
led_stops file before spot below place text cause byte h (refused.at_nothing some nothing go) =
    let N : List ℕ → Type 0 = λ x. NothingStands x in
    at_nothing h.reaches (λ e. some (sym h.left ∙ e)) (subst N (sym h.left) nothing)
led_stops file before spot below place text cause byte h (refused.at_end ends go partly) =
    end_stops file before h.o (parts_begun (at spot below)) (cells_begun (at spot below)) place h.reaches h.there (h.left ∙ ends) partly

pub refused_stops : (file : List ℕ) (cause : Cause) (byte : ℕ) → TextRefused file cause byte → Stops file cause byte
refused_stops file cause byte r =
    led_stops file r.before r.spot r.below (r.place + space_before r.rest) (without_space r.rest) cause byte
    (led file r.rest r.before r.place r.spot r.below r.divides r.written r.within) r.refused
