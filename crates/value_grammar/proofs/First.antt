-- A refusal by the steps is the first refusal of the text.
use Rattle.std.proofs.Common.{◌≡◌, ◌≢◌, ℕ, ◌+◌, false, ◌&&◌, List, [], ◌∷◌, ◌++◌, map, drop, length, Option, Some, None, Ok, Err, refl, sym, ap, ◌∙◌, subst, arith, append_assoc, append-nil}
use Rattle.std.proofs.lemmas.List.{length-map, map-append}
use Rattle.value_text.specs.declared.lexeme.Sign.TheVariants.{CloseParen}
use Rattle.value_text.specs.declared.lexeme.Lexeme.{Lexeme}
use Rattle.value_text.specs.declared.lexeme.Lexeme.TheVariants.{Sign as ASign}
use Rattle.value_text.specs.Division.{Divides, Placed, lexeme_of, lexemes, space_before, without_space}
use Rattle.value_text.specs.Lexemes.{NothingStands, Stands}
use Rattle.value_text.specs.Text.{cell, more}
use Rattle.value_text.specs.Tokens.{bits}
use Rattle.value_grammar.specs.declared.cause.Cause.{Cause}
use Rattle.value_grammar.specs.declared.cause.Cause.TheVariants.{Syntax}
use Rattle.value_grammar.specs.Grammar.{CanGoOn}
use Rattle.value_grammar.specs.Shapes.{Shape, shape, shapes}
use Rattle.value_grammar.specs.Open.{Frame, Open, OpenCell, Spot, after_entry, after_field, after_item, after_part, after_rest, at, bits_due, child_due, done, due, entry_due, entry_or_end, field_due, field_or_end, in_cell, item_or_end, keyed, labelled, named, paren_due, so_far, rest_bits, rest_child, rest_paren}
use Rattle.value_grammar.specs.Within.{IsWithin, begins_value, closed, is_beyond, is_cell_due, is_paren, is_value_due, limit, limit_of}
use Rattle.value_grammar.specs.Steps.{Held, Outcome, Refusal, counted, held_of, move, one_more, run, start, step, step_at, unless_limit}
use Rattle.value_grammar.specs.Reading.{IsUnfinished, Reaches, Stops, at_end, at_lexeme, at_nothing}
use Rattle.value_grammar.specs.Refused as refused
use Rattle.value_grammar.specs.Refused.{Closes, RefusedAt, TextRefused}
use Rattle.value_grammar.proofs.ShapeSteps as steps
use Rattle.value_grammar.proofs.ShapeRuns.{not_whole, run-append, stuck}
use Rattle.value_grammar.proofs.ShapeRuns as runs
use Rattle.value_grammar.proofs.ShapeLeft.{goes_on}
use Rattle.value_grammar.proofs.Kept.{Keeps}
use Rattle.value_grammar.proofs.Tied.{Fails, Tied, arounds, no_cell, no_step, state_of, tied, where_of}
use Rattle.value_grammar.proofs.Adds.{OkThen}
use Rattle.value_grammar.proofs.Kept.{IsLexeme}
use Rattle.value_grammar.proofs.Parens.{ParenOf, Parens, paren_of, parens}
use Rattle.value_grammar.proofs.Sound.{AreLexemes, Known, divided_lexemes, known_start, known_step, made, passes, run_first}

-- ---- the shapes of what the steps go through

abbrev pub Shaped : List Lexeme → Open → Type 0
Shaped before o = steps.run runs.start (shapes before) ≡ Some (state_of o)

one_shape : (p q : steps.State) (c : Shape) → steps.step p c ≡ Some q → steps.run p (c ∷ []) ≡ Some q
one_shape p q c e = ap (λ (o : Option steps.State). steps.onward o (λ next. steps.run next [])) e

tied_ok : (spot : Spot) (l : Lexeme) (place : ℕ) (below : List Frame) (to : Open) → is_beyond l ≡ false → move spot l place below ≡ Ok to
    → steps.move (where_of spot) (shape l) (arounds below) ≡ Some (state_of to)
tied_ok spot l place below to b e =
    let P : Outcome → Type 0 = λ m. Tied m (at spot below) l place (steps.move (where_of spot) (shape l) (arounds below)) in
    subst P e (tied spot l place below b)

shaped_step : (before : List Lexeme) (spot : Spot) (below : List Frame) (l : Lexeme) (place : ℕ) (to : Open) → Shaped before (at spot below) → is_beyond l ≡ false
    → move spot l place below ≡ Ok to → Shaped (before ++ l ∷ []) to
shaped_step before spot below l place to h b e =
    ap (steps.run runs.start) (map-append shape before (l ∷ []))
    ∙ run-append runs.start (shapes before) (shape l ∷ [])
    ∙ ap (λ (o : Option steps.State). steps.onward o (λ q. steps.run q (shape l ∷ []))) h
    ∙ one_shape (state_of (at spot below)) (state_of to) (shape l) (tied_ok spot l place below to b e)

-- what is known where the steps lead: also the shapes, and the places of `(`
pub record There (before : List Placed) (o : Open) (values cells : ℕ) : Type 0 where
  pub known : Known (lexemes before) o values cells
  pub shaped : Shaped (lexemes before) o
  pub parens : Parens before o

so_long : (before : List Placed) (o : Open) → lexemes before ≡ map lexeme_of (so_far o) → length before ≡ length (so_far o)
so_long before o e = sym (length-map before (λ (l : Placed). l.1)) ∙ ap length e ∙ length-map (so_far o) lexeme_of

pub lexemes_push : (before : List Placed) (place : ℕ) (l : Lexeme) → lexemes (before ++ (place, l) ∷ []) ≡ lexemes before ++ l ∷ []
lexemes_push before place l = map-append (λ (x : Placed). x.1) before ((place, l) ∷ [])

pub there_step : (before : List Placed) (spot : Spot) (below : List Frame) (values cells : ℕ) (l : Lexeme) (place : ℕ) (next : Held)
    → There before (at spot below) values cells → IsLexeme l → step_at spot below values cells l place ≡ Ok next
    → There (before ++ (place, l) ∷ []) next.begun next.values next.cells
there_step before spot below values cells l place next t i e =
    let m = made spot below values cells l place next e in
    let p = passes values cells spot below l m.allowed in
    let longer = sym (lexemes_push before place l) in
    let K : List Lexeme → Type 0 = λ x. Known x next.begun next.values next.cells in
    let S : List Lexeme → Type 0 = λ x. Shaped x next.begun in
    let H : Held → Type 0 = λ x. Shaped (lexemes before ++ l ∷ []) x.begun in
    let R : Held → Type 0 = λ x. Parens (before ++ (place, l) ∷ []) x.begun in
    let O : Outcome → Type 0 = λ x. OkThen x (Parens (before ++ (place, l) ∷ [])) in
    record {
      known = subst K longer (known_step (lexemes before) spot below values cells l place next t.known i e);
      shaped = subst S longer (subst H (sym m.is) (shaped_step (lexemes before) spot below l place m.to t.shaped p.beyond m.moved));
      parens = subst R (sym m.is) (subst O m.moved (parens before spot l place below (so_long before (at spot below) t.known.written) t.parens));
    }

abbrev ThereAt : List Placed → Held → Type 0
ThereAt before h = There before h.begun h.values h.cells

there_next : (before : List Placed) (o : Open) (values cells : ℕ) (l : Placed) (next : Held) → There before o values cells → IsLexeme l.1
    → step (held_of o values cells) l ≡ Ok next → ThereAt (before ++ l ∷ []) next
there_next before (at spot below) values cells l next t i e = there_step before spot below values cells l.1 l.0 next t i e

there_run : (before ls : List Placed) (h last : Held) → ThereAt before h → AreLexemes ls → run h ls ≡ Ok last → ThereAt (before ++ ls) last
there_run before [] h last t a e =
    let same : h ≡ last = cc in
    let P : Held → Type 0 = λ x. ThereAt (before ++ []) x in
    let Q : List Placed → Type 0 = λ x. ThereAt x h in
    subst P same (subst Q (sym (append-nil before)) t)
there_run before (l ∷ ls) h last t a e =
    let n = run_first (step h l) ls last e in
    let P : List Placed → Type 0 = λ x. ThereAt x last in
    subst P (append_assoc before (l ∷ []) ls)
    (there_run (before ++ l ∷ []) ls n.0 last (there_next before h.begun h.values h.cells l n.0 t a.0 n.1) a.1 n.2)

pub reached_there : (file : List ℕ) (place : ℕ) (h : Held) → (r : Reaches file place h) → ThereAt r.before h
reached_there file place h r =
    there_run [] r.before start h (record { known = known_start; shaped = refl; parens = tt }) (divided_lexemes 0 r.end file r.rest r.before r.divides) r.ran

-- ---- what goes on, and what does not

around_nothing : (below : List Frame) → length below ≡ 0 → arounds below ≡ []
around_nothing [] e = refl
around_nothing (f ∷ fs) e = absurd (omega arith)

done_alone : (spot : Spot) (below : List Frame) → Keeps (at spot below) → where_of spot ≡ steps.done → arounds below ≡ []
done_alone (done v) below k e = around_nothing below k.1.2
done_alone (in_cell base ps paren_due) below k e = absurd (cc)
done_alone (in_cell base ps (bits_due exotic paren)) below k e = absurd (cc)
done_alone (in_cell base ps (after_part q)) below k e = absurd (cc)
done_alone (in_cell base ps (child_due q)) below k e = absurd (cc)
done_alone due below k e = absurd (cc)
done_alone item_or_end below k e = absurd (cc)
done_alone (after_item vs) below k e = absurd (cc)
done_alone (named n) below k e = absurd (cc)
done_alone (field_or_end n) below k e = absurd (cc)
done_alone (field_due n fs) below k e = absurd (cc)
done_alone (labelled n fs x) below k e = absurd (cc)
done_alone (after_field n fs) below k e = absurd (cc)
done_alone entry_or_end below k e = absurd (cc)
done_alone (entry_due ps us last) below k e = absurd (cc)
done_alone (keyed ps us x) below k e = absurd (cc)
done_alone (after_entry ps us last) below k e = absurd (cc)
done_alone rest_paren below k e = absurd (cc)
done_alone rest_bits below k e = absurd (cc)
done_alone (after_rest r) below k e = absurd (cc)
done_alone (rest_child r) below k e = absurd (cc)

can_go_on : (before : List Lexeme) (spot : Spot) (below : List Frame) → Shaped before (at spot below) → Keeps (at spot below) → CanGoOn (shapes before)
can_go_on before spot below s k = goes_on (where_of spot) (arounds below) (shapes before) s (done_alone spot below k)

pub reached_goes_on : (before : List Placed) (o : Open) (values cells : ℕ) → There before o values cells → CanGoOn (shapes (lexemes before))
reached_goes_on before (at spot below) values cells t = can_go_on (lexemes before) spot below t.shaped t.known.keeps

no_more : (before : List Lexeme) (spot : Spot) (below : List Frame) (l : Lexeme) → Shaped before (at spot below)
    → steps.move (where_of spot) (shape l) (arounds below) ≡ None → CanGoOn (shapes before ++ shape l ∷ []) → ⊥
no_more before spot below l s e = stuck (shapes before) (state_of (at spot below)) (shape l) s e

-- ---- a lexeme that has no step

limit_there : (before : List Placed) (spot : Spot) (below : List Frame) (values cells : ℕ) (l : Lexeme) (o : Option Cause) → There before (at spot below) values cells
    → limit_of values cells spot below l ≡ o → limit (at spot below) l ≡ o
limit_there before spot below values cells l o t e =
    let k = t.known in
    (λ i. limit_of (sym k.all_values i) (sym k.all_cells i) spot below l) ∙ e

cell_refused : (before : List Placed) (o : Open) (values cells n place : ℕ) (text : List ℕ) (cause : Cause) (q : OpenCell) → There before o values cells
    → Stands (ASign CloseParen) n text → Closes o q → closed q ≡ Err cause → RefusedAt o before place text cause q.place
cell_refused before (at (in_cell base ps (after_part p)) below) values cells n place text cause q t st c f =
    let s = paren_of before base ps p below t.known.written t.parens in
    let P : OpenCell → Type 0 = λ x. ParenOf before x.place (bits x.bits ∷ more (map cell x.refs)) in
    let u = subst P c s in
    refused.at_cell st q u.earlier u.inner c f u.split u.written
cell_refused before (at (in_cell base ps paren_due) below) values cells n place text cause q t st c f = absurd c
cell_refused before (at (in_cell base ps (bits_due exotic paren)) below) values cells n place text cause q t st c f = absurd c
cell_refused before (at (in_cell base ps (child_due p)) below) values cells n place text cause q t st c f = absurd c
cell_refused before (at spot below) values cells n place text cause q t st c f = absurd c

fails_refused : (before : List Placed) (spot : Spot) (below : List Frame) (values cells : ℕ) (l : Lexeme) (place n byte : ℕ) (text : List ℕ) (cause : Cause)
    → There before (at spot below) values cells → Stands l n text → limit_of values cells spot below l ≡ None
    → Fails (at spot below) l place (steps.move (where_of spot) (shape l) (arounds below)) cause byte
    → RefusedAt (at spot below) before place text cause byte
fails_refused before spot below values cells l place n byte text cause t st e (no_step s) =
    refused.at_lexeme st (limit_there before spot below values cells l None t e) (can_go_on (lexemes before) spot below t.shaped t.known.keeps)
    (no_more (lexemes before) spot below l t.shaped s)
fails_refused before spot below values cells l place n byte text cause t st e (no_cell q is c f) =
    let P : Lexeme → Type 0 = λ x. Stands x n text in
    cell_refused before (at spot below) values cells n place text cause q t (subst P is st) c f

step_refused : (before : List Placed) (spot : Spot) (below : List Frame) (values cells : ℕ) (l : Lexeme) (place n : ℕ) (text : List ℕ) (r : Refusal)
    → There before (at spot below) values cells → Stands l n text → step_at spot below values cells l place ≡ Err r
    → RefusedAt (at spot below) before place text r.0 r.1
step_refused before spot below values cells l place n text r t st e = by_limit (limit_of values cells spot below l) refl (move spot l place below) refl e
  where
    by_limit : (o : Option Cause) → limit_of values cells spot below l ≡ o → (m : Outcome) → move spot l place below ≡ m
        → counted (unless_limit o place m) (one_more (is_value_due spot && begins_value l) values) (one_more (is_cell_due spot && is_paren l) cells) ≡ Err r
        → RefusedAt (at spot below) before place text r.0 r.1
    by_limit (Some cause) f m g h =
        let same : (cause, place) ≡ r = cc in
        let P : Refusal → Type 0 = λ x. RefusedAt (at spot below) before place text x.0 x.1 in
        subst P same (refused.at_limit st (limit_there before spot below values cells l (Some cause) t f))
    by_limit None f (Err refusal) g h =
        let same : refusal ≡ r = cc in
        let P : Refusal → Type 0 = λ x. RefusedAt (at spot below) before place text x.0 x.1 in
        let Q : Outcome → Type 0 = λ x. Tied x (at spot below) l place (steps.move (where_of spot) (shape l) (arounds below)) in
        let p = passes values cells spot below l f in
        subst P same (fails_refused before spot below values cells l place n refusal.1 text refusal.0 t st f (subst Q g (tied spot l place below p.beyond)))
    by_limit None f (Ok to) g h = absurd (cc)

-- ---- the first refusal of a text

is_within : (before : List Lexeme) (spot : Spot) (below : List Frame) (values cells : ℕ) → Known before (at spot below) values cells → IsWithin spot below
is_within before spot below values cells k =
    let e = k.all_values in
    let g = k.all_cells in
    let m = k.few_values in
    let n = k.few_cells in
    record { frames = k.keeps.0; there = k.keeps.1; not_first = k.keeps.2; parts = omega (arith, e, m); cells = omega (arith, g, n) }

text_refused : (file rest : List ℕ) (before : List Placed) (place end byte : ℕ) (spot : Spot) (below : List Frame) (values cells : ℕ) (cause : Cause)
    → Divides 0 file before end rest → place ≡ end + space_before rest → drop place file ≡ without_space rest
    → There before (at spot below) values cells → RefusedAt (at spot below) before place (drop place file) cause byte
    → TextRefused file cause byte
text_refused file rest before place end byte spot below values cells cause d p l t r =
    let P : ℕ → Type 0 = λ x. RefusedAt (at spot below) before x (drop place file) cause byte in
    let Q : List ℕ → Type 0 = λ x. RefusedAt (at spot below) before (end + space_before rest) x cause byte in
    record {
      before = before;
      place = end;
      rest = rest;
      divides = d;
      spot = spot;
      below = below;
      written = t.known.written;
      within = is_within (lexemes before) spot below values cells t.known;
      refused = subst Q l (subst P p r);
    }

lexeme_refused : (file rest : List ℕ) (before : List Placed) (place end n : ℕ) (o : Open) (values cells : ℕ) (l : Lexeme) (r : Refusal)
    → Divides 0 file before end rest → place ≡ end + space_before rest → drop place file ≡ without_space rest
    → There before o values cells → Stands l n (drop place file)
    → step (held_of o values cells) (place, l) ≡ Err r → TextRefused file r.0 r.1
lexeme_refused file rest before place end n (at spot below) values cells l r d p left t st e =
    text_refused file rest before place end r.1 spot below values cells r.0 d p left t
    (step_refused before spot below values cells l place n (drop place file) r t st e)

nothing_refused : (file rest : List ℕ) (before : List Placed) (place end : ℕ) (o : Open) (values cells : ℕ)
    → Divides 0 file before end rest → place ≡ end + space_before rest → drop place file ≡ without_space rest
    → There before o values cells → drop place file ≢ [] → NothingStands (drop place file) → TextRefused file Syntax place
nothing_refused file rest before place end (at spot below) values cells d p left t some nothing =
    text_refused file rest before place end place spot below values cells Syntax d p left t
    (refused.at_nothing some nothing (can_go_on (lexemes before) spot below t.shaped t.known.keeps))

unfinished : (spot : Spot) (b : List steps.Around) → IsUnfinished spot → steps.at (where_of spot) b ≡ steps.at steps.done [] → ⊥
unfinished (done v) b u e = absurd u
unfinished (in_cell base ps paren_due) b u e = absurd (cc)
unfinished (in_cell base ps (bits_due exotic paren)) b u e = absurd (cc)
unfinished (in_cell base ps (after_part q)) b u e = absurd (cc)
unfinished (in_cell base ps (child_due q)) b u e = absurd (cc)
unfinished due b u e = absurd (cc)
unfinished item_or_end b u e = absurd (cc)
unfinished (after_item vs) b u e = absurd (cc)
unfinished (named n) b u e = absurd (cc)
unfinished (field_or_end n) b u e = absurd (cc)
unfinished (field_due n fs) b u e = absurd (cc)
unfinished (labelled n fs x) b u e = absurd (cc)
unfinished (after_field n fs) b u e = absurd (cc)
unfinished entry_or_end b u e = absurd (cc)
unfinished (entry_due ps us last) b u e = absurd (cc)
unfinished (keyed ps us x) b u e = absurd (cc)
unfinished (after_entry ps us last) b u e = absurd (cc)
unfinished rest_paren b u e = absurd (cc)
unfinished rest_bits b u e = absurd (cc)
unfinished (after_rest r) b u e = absurd (cc)
unfinished (rest_child r) b u e = absurd (cc)

end_refused : (file rest : List ℕ) (before : List Placed) (place end : ℕ) (o : Open) (spot : Spot) (below : List Frame) (values cells : ℕ)
    → Divides 0 file before end rest → place ≡ end + space_before rest → drop place file ≡ without_space rest
    → There before o values cells → drop place file ≡ [] → o ≡ at spot below → IsUnfinished spot → TextRefused file Syntax place
end_refused file rest before place end o spot below values cells d p left t ends e u =
    let T : Open → Type 0 = λ x. There before x values cells in
    let q = subst T e t in
    text_refused file rest before place end place spot below values cells Syntax d p left q
    (refused.at_end ends (can_go_on (lexemes before) spot below q.shaped q.known.keeps)
    (not_whole (shapes (lexemes before)) (state_of (at spot below)) q.shaped (unfinished spot (arounds below) u)))

pub stops_refused : (file : List ℕ) (cause : Cause) (byte : ℕ) → Stops file cause byte → TextRefused file cause byte
stops_refused file cause byte (at_lexeme {place = p} {n = n} {byte = b} {h = h} {l = l} {cause = c} r st e) =
    lexeme_refused file r.rest r.before p r.end n h.begun h.values h.cells l (c, b) r.divides r.spaced r.left
    (reached_there file p h r) st e
stops_refused file cause byte (at_nothing {place = p} {h = h} r some nothing) =
    nothing_refused file r.rest r.before p r.end h.begun h.values h.cells r.divides r.spaced r.left (reached_there file p h r) some nothing
stops_refused file cause byte (at_end {place = p} {h = h} r ends spot below e u) =
    end_refused file r.rest r.before p r.end h.begun spot below h.values h.cells r.divides r.spaced r.left (reached_there file p h r) ends e u
