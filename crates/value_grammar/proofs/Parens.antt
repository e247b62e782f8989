-- The place that is kept of an open cell is that of its `(`.
use Rattle.std.proofs.Common.{◌≡◌, ℕ, zero, suc, Bool, true, false, if◌then◌else◌, bytes_eq, codes, List, [], ◌∷◌, ◌++◌, map, length, Option, Some, None, Result, Ok, Err, refl, sym, ap, ◌∙◌, arith, append_assoc, append-nil}
use Rattle.cell_nodes.specs.declared.tree.Hidden.{Hidden}
use Rattle.cell_nodes.specs.declared.tree.Tree.{Tree}
use Rattle.typed_value.specs.Values.{Plain, Slice, absent, bit_string, list_of, number as a_number, raw, ref_to, rest, unknown}
use Rattle.typed_value.specs.View.{vals_of}
use Rattle.value_text.specs.declared.lexeme.Sign.{Sign}
use Rattle.value_text.specs.declared.lexeme.Sign.TheVariants.{OpenBrace, CloseBrace, OpenBracket, CloseBracket, OpenParen, CloseParen, Less, Greater, Comma, Colon, Tilde, Caret, Bang, Percent}
use Rattle.value_text.specs.declared.lexeme.Lexeme.{Lexeme}
use Rattle.value_text.specs.declared.lexeme.Lexeme.TheVariants.{Sign as ASign, Number, Bits, Name, Hidden as AHidden, Beyond}
use Rattle.value_text.specs.Division.{Placed, lexeme_of, lexemes}
use Rattle.value_text.specs.Text.{cell, more}
use Rattle.value_text.specs.Tokens.{Token, bits, mark}
use Rattle.value_grammar.specs.declared.cause.Cause.{Cause}
use Rattle.value_grammar.specs.Open.{CellSpot, Frame, Open, OpenCell, Spot, after_entry, after_field, after_item, after_part, after_rest, at, bang, base_text, bits_due, child_due, done, due, entry_due, entry_or_end, field, field_due, field_or_end, frames_text, in_cell, item, item_or_end, keyed, labelled, named, pair, paren_due, around_text, reference, rest_bits, rest_child, rest_paren, so_far}
use Rattle.value_grammar.specs.Within.{closed}
use Rattle.value_grammar.specs.Steps.{Outcome, begin, begin_cell, begin_body, begin_sign, give, give_cell, give_closed, in_body, list_or_end, move, move_cell, no_go, open_exotic, open_record, open_rest, begin_rest, in_rest, in_list, in_map, in_record, key, key_or_end, label, label_or_end, colon, entry, the_map, the_record}
use Rattle.value_grammar.proofs.Adds.{OkThen}

abbrev pub place_at : List Placed → ℕ → Option ℕ
place_at [] i = None
place_at (l ∷ ls) zero = Some l.0
place_at (l ∷ ls) (suc i) = place_at ls i

place_stays : (ls ms : List Placed) (i x : ℕ) → place_at ls i ≡ Some x → place_at (ls ++ ms) i ≡ Some x
place_stays [] ms i x e = absurd (cc)
place_stays (l ∷ ls) ms zero x e = e
place_stays (l ∷ ls) ms (suc i) x e = place_stays ls ms i x e

place_last : (ls : List Placed) (l : Placed) (i : ℕ) → length ls ≡ i → place_at (ls ++ l ∷ []) i ≡ Some l.0
place_last [] l zero e = refl
place_last [] l (suc i) e = absurd (omega arith)
place_last (m ∷ ls) l zero e = absurd (omega arith)
place_last (m ∷ ls) l (suc i) e = place_last ls l i (omega arith)

-- the tokens before a cell
abbrev outside : Option Slice → List OpenCell → List Frame → List Token
outside base ps below = frames_text below ++ (base_text base ++ around_text ps)

-- a `(` after these tokens, and a `!` where the cell is exotic, has that place
abbrev ParenAt : List Placed → List Token → Bool → ℕ → Type 0
ParenAt before out exotic place = place_at before (length (out ++ bang exotic)) ≡ Some place

abbrev AroundAt : List Placed → Option Slice → List OpenCell → List Frame → Type 0
AroundAt before base [] below = Unit {0}
AroundAt before base (p ∷ ps) below = ParenAt before (outside base ps below) p.exotic p.place × AroundAt before base ps below

abbrev CellAt : List Placed → List Token → CellSpot → Type 0
CellAt before out paren_due = Unit {0}
CellAt before out (bits_due exotic place) = ParenAt before out exotic place
CellAt before out (after_part p) = ParenAt before out p.exotic p.place
CellAt before out (child_due p) = ParenAt before out p.exotic p.place

abbrev pub Parens : List Placed → Open → Type 0
Parens before (at (in_cell base ps c) below) = AroundAt before base ps below × CellAt before (outside base ps below) c
Parens before (at spot below) = Unit {0}

around_stays : (before ms : List Placed) (base : Option Slice) (ps : List OpenCell) (below : List Frame) → AroundAt before base ps below → AroundAt (before ++ ms) base ps below
around_stays before ms base [] below h = tt
around_stays before ms base (p ∷ ps) below h = (place_stays before ms (length (outside base ps below ++ bang p.exotic)) p.place h.0, around_stays before ms base ps below h.1)

-- ---- a whole value is in no cell

give_parens : (before : List Placed) (v : Plain) (below : List Frame) → Parens before (give v below)
give_parens before v [] = tt
give_parens before v (field n fs x ∷ below) = tt
give_parens before v (item vs ∷ below) = tt
give_parens before v (reference ∷ below) = give_parens before (ref_to tt v) below
give_parens before v (pair ps us k ∷ below) = tt

abbrev Kept : List Placed → Outcome → Type 0
Kept before o = OkThen o (Parens before)

-- where a cell's `(` is the last of these lexemes
last_paren : (before : List Placed) (l : Placed) (out : List Token) (exotic : Bool) → length before ≡ length (out ++ bang exotic) → ParenAt (before ++ l ∷ []) out exotic l.0
last_paren before l out exotic e = place_last before l (length (out ++ bang exotic)) e

sign_parens : (before : List Placed) (s : Sign) (p : ℕ) (below : List Frame) → length before ≡ length (frames_text below)
    → Kept (before ++ (p, ASign s) ∷ []) (begin_sign s p below)
sign_parens before OpenBrace p below e = tt
sign_parens before Tilde p below e = give_parens (before ++ (p, ASign Tilde) ∷ []) absent below
sign_parens before OpenBracket p below e = tt
sign_parens before Caret p below e = tt
sign_parens before Less p below e = tt
sign_parens before OpenParen p below e = (
  tt,
  last_paren before (p, ASign OpenParen) (outside None [] below) false
      (e ∙ ap length (sym (append-nil (frames_text below)) ∙ sym (append-nil (frames_text below ++ [])))),
)
sign_parens before Bang p below e = (tt, tt)
sign_parens before Percent p below e = tt
sign_parens before s p below e = tt

begin_parens : (before : List Placed) (l : Lexeme) (p : ℕ) (below : List Frame) → length before ≡ length (frames_text below)
    → Kept (before ++ (p, l) ∷ []) (begin l p below)
begin_parens before (ASign s) p below e = sign_parens before s p below e
begin_parens before (Number n) p below e = give_parens (before ++ (p, Number n) ∷ []) (a_number n.negative n.size) below
begin_parens before (Bits bs) p below e = give_parens (before ++ (p, Bits bs) ∷ []) (bit_string bs) below
begin_parens before (Name n) p below e = by_name (bytes_eq n (codes "x"))
  where
    by_name : (b : Bool) → Kept (before ++ (p, Name n) ∷ []) (if b then no_go p else Ok (at (named n) below))
    by_name true = tt
    by_name false = tt
begin_parens before (AHidden h) p below e = give_parens (before ++ (p, AHidden h) ∷ []) (unknown h) below
begin_parens before (Beyond form) p below e = tt

sign_first : (before : List Placed) (s : Sign) (p : ℕ) (below : List Frame) → length before ≡ length (frames_text (item [] ∷ below))
    → Kept (before ++ (p, ASign s) ∷ []) (list_or_end (ASign s) p below)
sign_first before CloseBracket p below e = give_parens (before ++ (p, ASign CloseBracket) ∷ []) (list_of (vals_of [])) below
sign_first before OpenBrace p below e = sign_parens before OpenBrace p (item [] ∷ below) e
sign_first before Tilde p below e = sign_parens before Tilde p (item [] ∷ below) e
sign_first before OpenBracket p below e = sign_parens before OpenBracket p (item [] ∷ below) e
sign_first before Caret p below e = sign_parens before Caret p (item [] ∷ below) e
sign_first before Less p below e = sign_parens before Less p (item [] ∷ below) e
sign_first before OpenParen p below e = sign_parens before OpenParen p (item [] ∷ below) e
sign_first before Bang p below e = sign_parens before Bang p (item [] ∷ below) e
sign_first before Percent p below e = sign_parens before Percent p (item [] ∷ below) e
sign_first before s p below e = tt

list_parens : (before : List Placed) (l : Lexeme) (p : ℕ) (below : List Frame) → length before ≡ length (frames_text (item [] ∷ below))
    → Kept (before ++ (p, l) ∷ []) (list_or_end l p below)
list_parens before (ASign s) p below e = sign_first before s p below e
list_parens before (Number n) p below e = begin_parens before (Number n) p (item [] ∷ below) e
list_parens before (Bits bs) p below e = begin_parens before (Bits bs) p (item [] ∷ below) e
list_parens before (Name n) p below e = begin_parens before (Name n) p (item [] ∷ below) e
list_parens before (AHidden h) p below e = begin_parens before (AHidden h) p (item [] ∷ below) e
list_parens before (Beyond form) p below e = tt

-- ---- in cells

begin_cell_parens : (before : List Placed) (base : Option Slice) (ps : List OpenCell) (l : Lexeme) (p : ℕ) (below : List Frame)
    → length before ≡ length (outside base ps below) → AroundAt before base ps below → Kept (before ++ (p, l) ∷ []) (begin_cell base ps l p below)
begin_cell_parens before base ps (ASign OpenParen) p below e h = (
  around_stays before ((p, ASign OpenParen) ∷ []) base ps below h,
  last_paren before (p, ASign OpenParen) (outside base ps below) false (e ∙ ap length (sym (append-nil (outside base ps below)))),
)
begin_cell_parens before base ps (ASign Bang) p below e h = (around_stays before ((p, ASign Bang) ∷ []) base ps below h, tt)
begin_cell_parens before base ps l p below e h = tt

open_exotic_parens : (before : List Placed) (base : Option Slice) (ps : List OpenCell) (l : Lexeme) (p : ℕ) (below : List Frame)
    → length before ≡ length (outside base ps below ++ mark 33 ∷ []) → AroundAt before base ps below → Kept (before ++ (p, l) ∷ []) (open_exotic base ps l p below)
open_exotic_parens before base ps (ASign OpenParen) p below e h =
    (around_stays before ((p, ASign OpenParen) ∷ []) base ps below h, last_paren before (p, ASign OpenParen) (outside base ps below) true e)
open_exotic_parens before base ps l p below e h = tt

begin_body_parens : (before : List Placed) (base : Option Slice) (ps : List OpenCell) (exotic : Bool) (paren : ℕ) (l : Lexeme) (p : ℕ) (below : List Frame)
    → Parens before (at (in_cell base ps (bits_due exotic paren)) below) → Kept (before ++ (p, l) ∷ []) (begin_body base ps exotic paren l p below)
begin_body_parens before base ps exotic paren (Bits bs) p below h = (
  around_stays before ((p, Bits bs) ∷ []) base ps below h.0,
  place_stays before ((p, Bits bs) ∷ []) (length (outside base ps below ++ bang exotic)) paren h.1,
)
begin_body_parens before base ps exotic paren l p below h = tt

give_cell_parens : (before : List Placed) (t : Tree) (base : Option Slice) (ps : List OpenCell) (below : List Frame) → AroundAt before base ps below
    → Parens before (give_cell t base ps below)
give_cell_parens before t base (q ∷ qs) below h = (h.1, h.0)
give_cell_parens before t None [] below h = give_parens before (raw t) below
give_cell_parens before t (Some r) [] below h = tt

give_closed_parens : (before : List Placed) (r : Result Tree Cause) (paren : ℕ) (base : Option Slice) (ps : List OpenCell) (below : List Frame) → AroundAt before base ps below
    → Kept before (give_closed r paren base ps below)
give_closed_parens before (Ok t) paren base ps below h = give_cell_parens before t base ps below h
give_closed_parens before (Err cause) paren base ps below h = tt

in_body_parens : (before : List Placed) (base : Option Slice) (ps : List OpenCell) (q : OpenCell) (l : Lexeme) (p : ℕ) (below : List Frame)
    → Parens before (at (in_cell base ps (after_part q)) below) → Kept (before ++ (p, l) ∷ []) (in_body base ps q l p below)
in_body_parens before base ps q (ASign Comma) p below h = (
  around_stays before ((p, ASign Comma) ∷ []) base ps below h.0,
  place_stays before ((p, ASign Comma) ∷ []) (length (outside base ps below ++ bang q.exotic)) q.place h.1,
)
in_body_parens before base ps q (ASign CloseParen) p below h =
    give_closed_parens (before ++ (p, ASign CloseParen) ∷ []) (closed q) q.place base ps below (around_stays before ((p, ASign CloseParen) ∷ []) base ps below h.0)
in_body_parens before base ps q l p below h = tt

outside_child : (base : Option Slice) (ps : List OpenCell) (q : OpenCell) (below : List Frame)
    → so_far (at (in_cell base ps (child_due q)) below) ≡ outside base (q ∷ ps) below
outside_child base ps q below = simp append_assoc refl

outside_bang : (base : Option Slice) (ps : List OpenCell) (below : List Frame) → so_far (at (in_cell base ps paren_due) below) ≡ outside base ps below ++ mark 33 ∷ []
outside_bang base ps below = simp append_assoc refl

outside_rest : (r : Slice) (below : List Frame) → so_far (at (rest_child r) below) ≡ outside (Some r) [] below
outside_rest r below = ap (λ (ts : List Token). frames_text below ++ ts) (sym (append-nil (base_text (Some r))))

cell_parens : (before : List Placed) (base : Option Slice) (ps : List OpenCell) (c : CellSpot) (l : Lexeme) (p : ℕ) (below : List Frame)
    → length before ≡ length (so_far (at (in_cell base ps c) below)) → Parens before (at (in_cell base ps c) below)
    → Kept (before ++ (p, l) ∷ []) (move_cell base ps c l p below)
cell_parens before base ps paren_due l p below e h = open_exotic_parens before base ps l p below (e ∙ ap length (outside_bang base ps below)) h.0
cell_parens before base ps (bits_due exotic paren) l p below e h = begin_body_parens before base ps exotic paren l p below h
cell_parens before base ps (after_part q) l p below e h = in_body_parens before base ps q l p below h
cell_parens before base ps (child_due q) l p below e h =
    begin_cell_parens before base (q ∷ ps) l p below (e ∙ ap length (outside_child base ps q below)) (h.1, h.0)

-- ---- elsewhere

in_list_parens : (before : List Placed) (vs : List Plain) (l : Lexeme) (p : ℕ) (below : List Frame) → Kept before (in_list vs l p below)
in_list_parens before vs (ASign Comma) p below = tt
in_list_parens before vs (ASign CloseBracket) p below = give_parens before (list_of (vals_of vs)) below
in_list_parens before vs l p below = tt

open_record_parens : (before : List Placed) (n : List ℕ) (l : Lexeme) (p : ℕ) (below : List Frame) → Kept before (open_record n l p below)
open_record_parens before n (ASign OpenBrace) p below = tt
open_record_parens before n l p below = tt

label_parens : (before : List Placed) (n : Option (List ℕ)) (fs : List (List ℕ × Plain)) (l : Lexeme) (p : ℕ) (below : List Frame) → Kept before (label n fs l p below)
label_parens before n fs (Name x) p below = tt
label_parens before n fs l p below = tt

record_parens : (before : List Placed) (n : Option (List ℕ)) (l : Lexeme) (p : ℕ) (below : List Frame) → Kept before (label_or_end n l p below)
record_parens before n (ASign CloseBrace) p below = give_parens before (the_record n []) below
record_parens before n (Name x) p below = tt
record_parens before n l p below = tt

colon_parens : (before : List Placed) (n : Option (List ℕ)) (fs : List (List ℕ × Plain)) (x : List ℕ) (l : Lexeme) (p : ℕ) (below : List Frame)
    → Kept before (colon n fs x l p below)
colon_parens before n fs x (ASign Colon) p below = tt
colon_parens before n fs x l p below = tt

in_record_parens : (before : List Placed) (n : Option (List ℕ)) (fs : List (List ℕ × Plain)) (l : Lexeme) (p : ℕ) (below : List Frame)
    → Kept before (in_record n fs l p below)
in_record_parens before n fs (ASign Comma) p below = tt
in_record_parens before n fs (ASign CloseBrace) p below = give_parens before (the_record n fs) below
in_record_parens before n fs l p below = tt

key_parens : (before : List Placed) (ps : List (List ℕ × Plain)) (us : List (List ℕ × Hidden)) (l : Lexeme) (p : ℕ) (below : List Frame) → Kept before (key ps us l p below)
key_parens before ps us (Bits k) p below = tt
key_parens before ps us l p below = tt

map_parens : (before : List Placed) (l : Lexeme) (p : ℕ) (below : List Frame) → Kept before (key_or_end l p below)
map_parens before (ASign Greater) p below = give_parens before (the_map [] []) below
map_parens before (Bits k) p below = tt
map_parens before l p below = tt

entry_parens : (before : List Placed) (ps : List (List ℕ × Plain)) (us : List (List ℕ × Hidden)) (k : List ℕ) (l : Lexeme) (p : ℕ) (below : List Frame)
    → Kept before (entry ps us k l p below)
entry_parens before ps us k (ASign Colon) p below = tt
entry_parens before ps us k (AHidden h) p below = tt
entry_parens before ps us k l p below = tt

in_map_parens : (before : List Placed) (ps : List (List ℕ × Plain)) (us : List (List ℕ × Hidden)) (last : List ℕ) (l : Lexeme) (p : ℕ) (below : List Frame)
    → Kept before (in_map ps us last l p below)
in_map_parens before ps us last (ASign Comma) p below = tt
in_map_parens before ps us last (ASign Greater) p below = give_parens before (the_map ps us) below
in_map_parens before ps us last l p below = tt

open_rest_parens : (before : List Placed) (l : Lexeme) (p : ℕ) (below : List Frame) → Kept before (open_rest l p below)
open_rest_parens before (ASign OpenParen) p below = tt
open_rest_parens before l p below = tt

begin_rest_parens : (before : List Placed) (l : Lexeme) (p : ℕ) (below : List Frame) → Kept before (begin_rest l p below)
begin_rest_parens before (Bits bs) p below = tt
begin_rest_parens before l p below = tt

in_rest_parens : (before : List Placed) (r : Slice) (l : Lexeme) (p : ℕ) (below : List Frame) → Kept before (in_rest r l p below)
in_rest_parens before r (ASign Comma) p below = tt
in_rest_parens before r (ASign CloseParen) p below = give_parens before (rest r) below
in_rest_parens before r l p below = tt

pub parens : (before : List Placed) (spot : Spot) (l : Lexeme) (p : ℕ) (below : List Frame) → length before ≡ length (so_far (at spot below))
    → Parens before (at spot below) → Kept (before ++ (p, l) ∷ []) (move spot l p below)
parens before due l p below e h = begin_parens before l p below (e ∙ ap length (append-nil (frames_text below)))
parens before item_or_end l p below e h = list_parens before l p below e
parens before (after_item vs) l p below e h = in_list_parens (before ++ (p, l) ∷ []) vs l p below
parens before (named n) l p below e h = open_record_parens (before ++ (p, l) ∷ []) n l p below
parens before (field_or_end n) l p below e h = record_parens (before ++ (p, l) ∷ []) n l p below
parens before (field_due n fs) l p below e h = label_parens (before ++ (p, l) ∷ []) n fs l p below
parens before (labelled n fs x) l p below e h = colon_parens (before ++ (p, l) ∷ []) n fs x l p below
parens before (after_field n fs) l p below e h = in_record_parens (before ++ (p, l) ∷ []) n fs l p below
parens before entry_or_end l p below e h = map_parens (before ++ (p, l) ∷ []) l p below
parens before (entry_due ps us last) l p below e h = key_parens (before ++ (p, l) ∷ []) ps us l p below
parens before (keyed ps us k) l p below e h = entry_parens (before ++ (p, l) ∷ []) ps us k l p below
parens before (after_entry ps us last) l p below e h = in_map_parens (before ++ (p, l) ∷ []) ps us last l p below
parens before rest_paren l p below e h = open_rest_parens (before ++ (p, l) ∷ []) l p below
parens before rest_bits l p below e h = begin_rest_parens (before ++ (p, l) ∷ []) l p below
parens before (after_rest r) l p below e h = in_rest_parens (before ++ (p, l) ∷ []) r l p below
parens before (rest_child r) l p below e h = begin_cell_parens before (Some r) [] l p below (e ∙ ap length (outside_rest r below)) tt
parens before (in_cell base ps c) l p below e h = cell_parens before base ps c l p below e h
parens before (done v) l p below e h = tt

-- ---- the `(` of a cell that is closed

pub record ParenOf (before : List Placed) (byte : ℕ) (body : List Token) : Type 0 where
  pub earlier : List Placed
  pub inner : List Placed
  pub split : before ≡ earlier ++ (byte, ASign OpenParen) ∷ inner
  pub written : lexemes inner ≡ map lexeme_of body

head_is : (l m : Lexeme) (ls ms : List Lexeme) → l ∷ ls ≡ m ∷ ms → l ≡ m
head_is l m ls ms e = cc

tail_is : (l m : Lexeme) (ls ms : List Lexeme) → l ∷ ls ≡ m ∷ ms → ls ≡ ms
tail_is l m ls ms e = cc

some_is : (x y : ℕ) → Some x ≡ Some y → x ≡ y
some_is x y e = cc

split_at : (before : List Placed) (out body : List Token) (byte : ℕ) → lexemes before ≡ map lexeme_of (out ++ mark 40 ∷ body)
    → place_at before (length out) ≡ Some byte → ParenOf before byte body
split_at [] out body byte e p = absurd (cc)
split_at (m ∷ ls) [] body byte e p =
    let same = some_is m.0 byte p in
    let paren = head_is m.1 (ASign OpenParen) (lexemes ls) (map lexeme_of body) e in
    let after = tail_is m.1 (ASign OpenParen) (lexemes ls) (map lexeme_of body) e in
    record { earlier = []; inner = ls; split = (λ i. (same i, paren i) ∷ ls); written = after }
split_at (m ∷ ls) (t ∷ out) body byte e p =
    let after = tail_is m.1 (lexeme_of t) (lexemes ls) (map lexeme_of (out ++ mark 40 ∷ body)) e in
    let s = split_at ls out body byte after p in
    record { earlier = m ∷ s.earlier; inner = s.inner; split = ap (λ (ms : List Placed). m ∷ ms) s.split; written = s.written }

open_cell_text_is : (base : Option Slice) (ps : List OpenCell) (q : OpenCell) (below : List Frame)
    → so_far (at (in_cell base ps (after_part q)) below) ≡ (outside base ps below ++ bang q.exotic) ++ mark 40 ∷ bits q.bits ∷ more (map cell q.refs)
open_cell_text_is base ps q below = simp append_assoc refl

pub paren_of : (before : List Placed) (base : Option Slice) (ps : List OpenCell) (q : OpenCell) (below : List Frame)
    → lexemes before ≡ map lexeme_of (so_far (at (in_cell base ps (after_part q)) below)) → Parens before (at (in_cell base ps (after_part q)) below)
    → ParenOf before q.place (bits q.bits ∷ more (map cell q.refs))
paren_of before base ps q below e h =
    split_at before (outside base ps below ++ bang q.exotic) (bits q.bits ∷ more (map cell q.refs)) q.place
    (e ∙ ap (map lexeme_of) (open_cell_text_is base ps q below)) h.1
