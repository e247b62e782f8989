-- What the steps go through is what has been written: a whole value at the end of a text is one that the text writes.
use Rattle.std.proofs.Common.{◌≡◌, ℕ, suc, ◌+◌, ◌≤◌, Bool, true, false, ◌&&◌, ◌||◌, nat_le, if◌then◌else◌, List, [], ◌∷◌, ◌++◌, map, take, drop, length, Option, Some, None, Ok, Err, refl, sym, ap, ◌∙◌, subst, arith, append_assoc, append-nil, cond}
use Rattle.std.proofs.lemmas.Bool.Decides.{nat_tests}
use Rattle.std.proofs.lemmas.List.{map-append}
use Rattle.std.specs.List.{list_all, prefix_len}
use Rattle.cell_nodes.specs.declared.tree.Hidden.{Hidden}
use Rattle.typed_value.specs.Values.{Plain, most_parts}
use Rattle.typed_value.specs.View.{pairs_of}
use Rattle.value_text.specs.declared.lexeme.Lexeme.{Lexeme}
use Rattle.value_text.specs.declared.lexeme.Lexeme.TheVariants.{Sign as ASign, Number, Bits, Name, Hidden as AHidden, Beyond}
use Rattle.value_text.specs.Division.{Divides, Placed, lexeme_of, lexemes, one, space_before, without_space}
use Rattle.value_text.specs.DivisionLaws.{AreTokens, IsToken, divided_spaced}
use Rattle.value_text.specs.Text.{count_before, hidden_entry, tokens}
use Rattle.value_text.specs.Tokens.{Token, bits, mark}
use Rattle.value_text.specs.Writes.{AreSpaces, TextWrites, is_space, keys_of, most_cells}
use Rattle.value_grammar.specs.declared.cause.Cause.{Cause}
use Rattle.value_grammar.specs.declared.cause.Cause.TheVariants.{BulkText, DeepText, KeyOrder, Range}
use Rattle.value_grammar.specs.Open.{Frame, Open, Spot, after_entry, after_field, after_item, at, cells_begun, done, entry_tokens, field, item, keyed, pair, parts_begun, reference, so_far}
use Rattle.value_grammar.specs.Within.{Ascends, FramesWithin, SpotWithin, begins_value, is_beyond, is_bulk, is_cell_due, is_deep, is_out_of_order, is_paren, is_value_due, limit_of}
use Rattle.value_grammar.specs.Steps.{Held, Outcome, Stepped, and_then, counted, held_of, move, one_more, run, start, step, step_at, unless_limit}
use Rattle.value_grammar.specs.Reading.{Finishes, Reaches}
use Rattle.value_grammar.proofs.Texts.{HasSome, MapOrder}
use Rattle.value_grammar.proofs.Adds.{OkThen, Ready, Written, adds, lexeme_of-token, token_of}
use Rattle.value_grammar.proofs.Orders.{hidden_before, keys_before, pairs_before}
use Rattle.value_grammar.proofs.Kept.{IsLexeme, Keeps, spelled_lexeme}
use Rattle.value_grammar.proofs.KeptCells.{keeps}
use Rattle.value_grammar.proofs.Counts.{HasBegun, counts}

-- ---- what the order of keys gives

map_order : (below : List Frame) → FramesWithin below → MapOrder below
map_order [] h = tt
map_order (field n fs x ∷ below) h = map_order below h.1
map_order (item vs ∷ below) h = map_order below h.1
map_order (reference ∷ below) h = map_order below h.1
map_order (pair ps us k ∷ below) h = (hidden_before ps us k (keys_before (keys_of (pairs_of ps) us) k h.0.3), map_order below h.1)

abbrev HasKey : List (List ℕ) → Type 0
HasKey [] = ⊥
HasKey (k ∷ ks) = Unit {0}

has_key : (ks : List (List ℕ)) (k : List ℕ) → HasKey (ks ++ k ∷ [])
has_key [] k = tt
has_key (x ∷ ks) k = tt

has_some : (xs : List (List Token)) (y : List Token) (ys : List (List Token)) → HasSome (xs ++ y ∷ ys)
has_some [] y ys = tt
has_some (x ∷ xs) y ys = tt

some_entry : (ps : List (List ℕ × Plain)) (us : List (List ℕ × Hidden)) → HasKey (keys_of (pairs_of ps) us) → HasSome (entry_tokens ps us)
some_entry [] [] h = absurd h
some_entry [] (u ∷ us) h = tt
some_entry (p ∷ ps) us h =
    has_some (map hidden_entry (take (count_before p.0 us) us)) (bits p.0 ∷ mark 58 ∷ tokens p.1) (entry_tokens ps (drop (count_before p.0 us) us))

pub entries_there : (ps : List (List ℕ × Plain)) (us : List (List ℕ × Hidden)) (last : List ℕ) → Ascends ps us last → HasSome (entry_tokens ps us)
entries_there ps us last a =
    let P : List (List ℕ) → Type 0 = λ ks. HasKey ks in
    some_entry ps us (subst P (sym a.ends) (has_key a.earlier last))

ready : (spot : Spot) (d : ℕ) → SpotWithin d spot → Ready spot
ready (after_item vs) d w = w.0
ready (after_field n fs) d w = w.0
ready (keyed ps us k) d w = pairs_before ps us k (keys_before (keys_of (pairs_of ps) us) k w.3)
ready (after_entry ps us last) d w = entries_there ps us last w.2
ready spot d w = tt

-- ---- limits that are not passed

pub record Passes (values cells : ℕ) (spot : Spot) (below : List Frame) (l : Lexeme) : Type 0 where
  pub deep : is_deep spot below l ≡ false
  pub bulk : is_bulk values cells spot l ≡ false
  pub beyond : is_beyond l ≡ false
  pub order : is_out_of_order spot l ≡ false

abbrev Choice : Bool → Bool → Bool → Bool → Option Cause
Choice a b c d = if a then Some DeepText else if b then Some BulkText else if c then Some Range else if d then Some KeyOrder else None

no_choice : (a b c d : Bool) → Choice a b c d ≡ None → (a ≡ false) × (b ≡ false) × (c ≡ false) × (d ≡ false)
no_choice true b c d e = absurd (cc)
no_choice false true c d e = absurd (cc)
no_choice false false true d e = absurd (cc)
no_choice false false false true e = absurd (cc)
no_choice false false false false e = (refl, refl, refl, refl)

pub passes : (values cells : ℕ) (spot : Spot) (below : List Frame) (l : Lexeme) → limit_of values cells spot below l ≡ None → Passes values cells spot below l
passes values cells spot below l e =
    let h = no_choice (is_deep spot below l) (is_bulk values cells spot l) (is_beyond l) (is_out_of_order spot l) e in
    record { deep = h.0; bulk = h.1; beyond = h.2; order = h.3 }

or_first : (a b : Bool) → (a || b) ≡ false → a ≡ false
or_first false b e = refl
or_first true b e = e

or_second : (a b : Bool) → (a || b) ≡ false → b ≡ false
or_second false b e = e
or_second true b e = absurd (cc)

-- one more is counted only where there is room
counted_few : (a b : Bool) (n most : ℕ) → (a && b && nat_le most n) ≡ false → n ≤ most → one_more (a && b) n ≤ most
counted_few true true n most e h = by_test (nat_le most n) refl e
  where
    by_test : (t : Bool) → nat_le most n ≡ t → t ≡ false → n + 1 ≤ most
    by_test true f g = absurd (cc)
    by_test false f g = grind (arith, nat_tests)
counted_few true false n most e h = h
counted_few false b n most e h = h

-- ---- a step that is made

pub record Made (spot : Spot) (below : List Frame) (values cells : ℕ) (l : Lexeme) (place : ℕ) (next : Held) : Type 0 where
  pub to : Open
  pub allowed : limit_of values cells spot below l ≡ None
  pub moved : move spot l place below ≡ Ok to
  pub is : next ≡ held_of to (one_more (is_value_due spot && begins_value l) values) (one_more (is_cell_due spot && is_paren l) cells)

pub made : (spot : Spot) (below : List Frame) (values cells : ℕ) (l : Lexeme) (place : ℕ) (next : Held) → step_at spot below values cells l place ≡ Ok next
    → Made spot below values cells l place next
made spot below values cells l place next e = by_limit (limit_of values cells spot below l) refl (move spot l place below) refl e
  where
    by_limit : (o : Option Cause) → limit_of values cells spot below l ≡ o → (m : Outcome) → move spot l place below ≡ m
        → counted (unless_limit o place m) (one_more (is_value_due spot && begins_value l) values) (one_more (is_cell_due spot && is_paren l) cells) ≡ Ok next
        → Made spot below values cells l place next
    by_limit (Some cause) f m g h = absurd (cc)
    by_limit None f (Err refusal) g h = absurd (cc)
    by_limit None f (Ok to) g h = record { to = to; allowed = f; moved = g; is = (let s : next ≡ held_of to (one_more (is_value_due spot && begins_value l) values) (one_more (is_cell_due spot && is_paren l) cells) = cc in s) }

-- ---- what is known where the steps lead

pub record Known (before : List Lexeme) (o : Open) (values cells : ℕ) : Type 0 where
  pub written : before ≡ map lexeme_of (so_far o)
  pub are_tokens : AreTokens (so_far o)
  pub keeps : Keeps o
  pub all_values : values ≡ parts_begun o
  pub all_cells : cells ≡ cells_begun o
  pub few_values : values ≤ most_parts
  pub few_cells : cells ≤ most_cells

lexeme_token : (l : Lexeme) → IsLexeme l → is_beyond l ≡ false → IsToken (token_of l)
lexeme_token (ASign s) i b = record { sign = s; byte = refl }
lexeme_token (Number n) i b = (i, refl)
lexeme_token (Bits bs) i b = i
lexeme_token (Name n) i b = (i, refl)
lexeme_token (AHidden h) i b = i
lexeme_token (Beyond form) i b = absurd (cc)

tokens_push : (ts : List Token) (t : Token) → AreTokens ts → IsToken t → AreTokens (ts ++ t ∷ [])
tokens_push [] t h i = (i, tt)
tokens_push (u ∷ ts) t h i = (h.0, tokens_push ts t h.1 i)

ok_then : (m : Outcome) (to : Open) (P : Open → Type 0) → OkThen m P → m ≡ Ok to → P to
ok_then m to P h e = let Q : Outcome → Type 0 = λ o. OkThen o P in subst Q e h

pub known_step : (before : List Lexeme) (spot : Spot) (below : List Frame) (values cells : ℕ) (l : Lexeme) (place : ℕ) (next : Held)
    → Known before (at spot below) values cells → IsLexeme l → step_at spot below values cells l place ≡ Ok next
    → Known (before ++ l ∷ []) next.begun next.values next.cells
known_step before spot below values cells l place next k i e =
    let m = made spot below values cells l place next e in
    let p = passes values cells spot below l m.allowed in
    let text = ok_then (move spot l place below) m.to (Written (so_far (at spot below)) l)
    (adds spot l place below (ready spot (length below) k.keeps.1) (map_order below k.keeps.0)) m.moved in
    let kept = ok_then (move spot l place below) m.to Keeps (keeps spot l place below k.keeps i p.deep p.order) m.moved in
    let v : Bool = is_value_due spot && begins_value l in
    let c : Bool = is_cell_due spot && is_paren l in
    let n = ok_then (move spot l place below) m.to (HasBegun (one_more v (parts_begun (at spot below))) (one_more c (cells_begun (at spot below))))
    (counts spot l place below) m.moved in
    let K : Held → Type 0 = λ h. Known (before ++ l ∷ []) h.begun h.values h.cells in
    let T : List Token → Type 0 = λ ts. AreTokens ts in
    subst K (sym m.is)
    (record {
      written =
          ap (λ (ls : List Lexeme). ls ++ l ∷ []) k.written
          ∙ ap (λ (x : Lexeme). map lexeme_of (so_far (at spot below)) ++ x ∷ []) (sym (lexeme_of-token l p.beyond))
          ∙ sym (map-append lexeme_of (so_far (at spot below)) (token_of l ∷ []))
          ∙ ap (map lexeme_of) (sym text);
      are_tokens = subst T (sym text) (tokens_push (so_far (at spot below)) (token_of l) k.are_tokens (lexeme_token l i p.beyond));
      keeps = kept;
      all_values = ap (one_more v) k.all_values ∙ sym n.0;
      all_cells = ap (one_more c) k.all_cells ∙ sym n.1;
      few_values = counted_few (is_value_due spot) (begins_value l) values most_parts (or_first (is_value_due spot && begins_value l && nat_le most_parts values) (is_cell_due spot && is_paren l && nat_le most_cells cells) p.bulk) k.few_values;
      few_cells = counted_few (is_cell_due spot) (is_paren l) cells most_cells (or_second (is_value_due spot && begins_value l && nat_le most_parts values) (is_cell_due spot && is_paren l && nat_le most_cells cells) p.bulk) k.few_cells;
    })

abbrev KnownAt : List Lexeme → Held → Type 0
KnownAt before h = Known before h.begun h.values h.cells

known_next : (before : List Lexeme) (o : Open) (values cells : ℕ) (l : Placed) (next : Held) → Known before o values cells → IsLexeme l.1
    → step (held_of o values cells) l ≡ Ok next → KnownAt (before ++ l.1 ∷ []) next
known_next before (at spot below) values cells l next k i e = known_step before spot below values cells l.1 l.0 next k i e

abbrev pub AreLexemes : List Placed → Type 0
AreLexemes [] = Unit {0}
AreLexemes (l ∷ ls) = IsLexeme l.1 × AreLexemes ls

pub divided_lexemes : (place end : ℕ) (text rest : List ℕ) (ls : List Placed) → Divides place text ls end rest → AreLexemes ls
divided_lexemes place end text rest [] d = tt
divided_lexemes place end text rest (l ∷ ls) (one {n = n} {l = m} {ls = ms} st d) =
    (spelled_lexeme m (take n (without_space text)) st.spelled, divided_lexemes (place + space_before text + n) end (drop n (without_space text)) rest ms d)

pub run_first : (r : Stepped) (ls : List Placed) (last : Held) → and_then r (λ next. run next ls) ≡ Ok last → (next : Held) × (r ≡ Ok next) × (run next ls ≡ Ok last)
run_first (Ok next) ls last e = (next, refl, e)
run_first (Err refusal) ls last e = absurd (cc)

known_run : (before : List Lexeme) (ls : List Placed) (h last : Held) → KnownAt before h → AreLexemes ls → run h ls ≡ Ok last → KnownAt (before ++ lexemes ls) last
known_run before [] h last k a e =
    let same : h ≡ last = cc in
    let P : Held → Type 0 = λ x. KnownAt (before ++ []) x in
    let Q : List Lexeme → Type 0 = λ x. KnownAt x h in
    subst P same (subst Q (sym (append-nil before)) k)
known_run before (l ∷ ls) h last k a e =
    let n = run_first (step h l) ls last e in
    let P : List Lexeme → Type 0 = λ x. KnownAt x last in
    subst P (append_assoc before (l.1 ∷ []) (lexemes ls))
    (known_run (before ++ l.1 ∷ []) ls n.0 last (known_next before h.begun h.values h.cells l n.0 k a.0 n.1) a.1 n.2)

pub known_start : KnownAt [] start
known_start = record {
  written = refl;
  are_tokens = tt;
  keeps = (tt, tt, tt);
  all_values = refl;
  all_cells = refl;
  few_values = omega arith;
  few_cells = omega arith;
}

pub reached_known : (file : List ℕ) (place : ℕ) (h : Held) → (r : Reaches file place h) → KnownAt (lexemes r.before) h
reached_known file place h r = known_run [] r.before start h known_start (divided_lexemes 0 r.end file r.rest r.before r.divides) r.ran

-- ---- the end of a text

all_spaces : (text : List ℕ) → drop (prefix_len is_space text) text ≡ [] → list_all is_space text ≡ true
all_spaces [] e = refl
all_spaces (c ∷ cs) e =
    elim (is_space c) as (λ b. is_space c ≡ b → drop (cond b (1 + prefix_len is_space cs) 0) (c ∷ cs) ≡ [] → (b && list_all is_space cs) ≡ true) [
      | true ↦ λ f g. all_spaces cs (let one : 1 + prefix_len is_space cs ≡ suc (prefix_len is_space cs) = omega arith in rw one at g)
      | false ↦ λ f g. absurd (cc)
    ] refl e

whole_alone : (file rest : List ℕ) (before : List Placed) (end : ℕ) (below : List Frame) (values cells : ℕ) (v : Plain) → Divides 0 file before end rest → AreSpaces rest
    → Known (lexemes before) (at (done v) below) values cells → length below ≡ 0 → TextWrites file v
whole_alone file rest before end (f ∷ below) values cells v d s q l = absurd (omega arith)
whole_alone file rest before end [] values cells v d s q l =
    let f = q.keeps.1 in
    let e = q.all_values in
    let g = q.all_cells in
    let m = q.few_values in
    let n = q.few_cells in
    record {
      text = divided_spaced 0 end file rest before (tokens v) d q.written q.are_tokens s;
      writable = record { formed = f.0; levels = f.1; parts = omega (arith, e, m); cells = omega (arith, g, n) };
    }

known_whole : (file rest : List ℕ) (before : List Placed) (end : ℕ) (o : Open) (below : List Frame) (values cells : ℕ) (v : Plain) → Divides 0 file before end rest
    → AreSpaces rest → Known (lexemes before) o values cells → o ≡ at (done v) below → TextWrites file v
known_whole file rest before end o below values cells v d s k w =
    let K : Open → Type 0 = λ x. Known (lexemes before) x values cells in
    let q = subst K w k in
    whole_alone file rest before end below values cells v d s q q.keeps.1.2

pub finished_writes : (file : List ℕ) (v : Plain) → Finishes file v → TextWrites file v
finished_writes file v f =
    let r = f.reaches in
    known_whole file r.rest r.before r.end f.held.begun f.below f.held.values f.held.cells v r.divides
    (all_spaces r.rest (sym r.left ∙ f.ends)) (reached_known file f.place f.held r) f.whole
