-- The steps by which a value is read, one for each lexeme. The contract of the public call speaks of texts and of
-- what is open in them; proofs/ ties the steps to these.
use Rattle.std.specs.Prelude.{ℕ, Bool, true, false, bytes_eq, codes, if◌then◌else◌, List, [], ◌∷◌, ◌++◌, ◌+◌, ◌&&◌}
use Rattle.std.specs.Prelude.{Option, Some, None, Result, Ok, Err}
use Rattle.cell_nodes.specs.declared.tree.Hidden.{Hidden as AHidden}
use Rattle.cell_nodes.specs.declared.tree.Tree.{Tree}
use Rattle.typed_value.specs.Values.{Plain, Slice, absent, bit_string, list_of, map_of, number, raw, record_of, ref_to}
use Rattle.typed_value.specs.Values.{rest, unknown}
use Rattle.typed_value.specs.View.{names_in, pairs_of, vals_in, vals_of}
use Rattle.value_text.specs.declared.lexeme.Sign.{Sign}
use Rattle.value_text.specs.declared.lexeme.Sign.TheVariants.{OpenBrace, CloseBrace, OpenBracket, CloseBracket}
use Rattle.value_text.specs.declared.lexeme.Sign.TheVariants.{OpenParen, CloseParen, Less, Greater, Comma, Colon, Tilde}
use Rattle.value_text.specs.declared.lexeme.Sign.TheVariants.{Caret, Bang, Percent}
use Rattle.value_text.specs.declared.lexeme.Lexeme.{Lexeme}
use Rattle.value_text.specs.declared.lexeme.Lexeme.TheVariants.{Sign as ASign, Number, Bits, Name, Hidden, Beyond}
use Rattle.value_text.specs.Division.{Placed}
use Rattle.value_grammar.specs.Open.{CellSpot, Frame, Open, OpenCell, Spot, after_entry, after_field, after_item}
use Rattle.value_grammar.specs.Open.{after_part, after_rest, at, bits_due, child_due, done, due, entry_due}
use Rattle.value_grammar.specs.Open.{entry_or_end, field, field_due, field_or_end, in_cell, item, item_or_end, keyed}
use Rattle.value_grammar.specs.Open.{labelled, named, pair, paren_due, reference, rest_bits, rest_child, rest_paren}
use Rattle.value_grammar.specs.declared.cause.Cause.{Cause}
use Rattle.value_grammar.specs.declared.cause.Cause.TheVariants.{Syntax}
use Rattle.value_grammar.specs.Within.{begins_value, closed, is_cell_due, is_paren, is_value_due, limit_of}

abbrev pub Refusal : Type 0
Refusal = Cause × ℕ

abbrev pub Outcome : Type 0
Outcome = Result Open Refusal

-- a whole value inside the frames
abbrev pub give : Plain → List Frame → Open
give v [] = at (done v) []
give v (field n fs x ∷ below) = at (after_field n (fs ++ (x, v) ∷ [])) below
give v (item vs ∷ below) = at (after_item (vs ++ v ∷ [])) below
give v (reference ∷ below) = give (ref_to tt v) below
give v (pair ps us k ∷ below) = at (after_entry (ps ++ (k, v) ∷ []) us k) below

abbrev pub no_go : ℕ → Outcome
no_go place = Err (Syntax, place)

-- a value begins
abbrev pub begin_sign : Sign → ℕ → List Frame → Outcome
begin_sign OpenBrace place below = Ok (at (field_or_end None) below)
begin_sign Tilde place below = Ok (give absent below)
begin_sign OpenBracket place below = Ok (at item_or_end below)
begin_sign Caret place below = Ok (at due (reference ∷ below))
begin_sign Less place below = Ok (at entry_or_end below)
begin_sign OpenParen place below = Ok (at (in_cell None [] (bits_due false place)) below)
begin_sign Bang place below = Ok (at (in_cell None [] paren_due) below)
begin_sign Percent place below = Ok (at rest_paren below)
begin_sign s place below = no_go place

abbrev pub begin : Lexeme → ℕ → List Frame → Outcome
begin (ASign s) place below = begin_sign s place below
begin (Number n) place below = Ok (give (number n.negative n.size) below)
begin (Bits bs) place below = Ok (give (bit_string bs) below)
begin (Name n) place below = if bytes_eq n (codes "x") then no_go place else Ok (at (named n) below)
begin (Hidden h) place below = Ok (give (unknown h) below)
begin (Beyond form) place below = no_go place

-- ---- in a list, a record, a map

abbrev pub list_or_end : Lexeme → ℕ → List Frame → Outcome
list_or_end (ASign CloseBracket) place below = Ok (give (list_of (vals_of [])) below)
list_or_end l place below = begin l place (item [] ∷ below)

abbrev pub in_list : List Plain → Lexeme → ℕ → List Frame → Outcome
in_list vs (ASign Comma) place below = Ok (at due (item vs ∷ below))
in_list vs (ASign CloseBracket) place below = Ok (give (list_of (vals_of vs)) below)
in_list vs l place below = no_go place

abbrev pub open_record : List ℕ → Lexeme → ℕ → List Frame → Outcome
open_record n (ASign OpenBrace) place below = Ok (at (field_or_end (Some n)) below)
open_record n l place below = no_go place

abbrev pub the_record : Option (List ℕ) → List (List ℕ × Plain) → Plain
the_record n fs = record_of n (names_in fs) (vals_in fs)

abbrev pub label : Option (List ℕ) → List (List ℕ × Plain) → Lexeme → ℕ → List Frame → Outcome
label n fs (Name x) place below = Ok (at (labelled n fs x) below)
label n fs l place below = no_go place

abbrev pub label_or_end : Option (List ℕ) → Lexeme → ℕ → List Frame → Outcome
label_or_end n (ASign CloseBrace) place below = Ok (give (the_record n []) below)
label_or_end n l place below = label n [] l place below

abbrev pub colon : Option (List ℕ) → List (List ℕ × Plain) → List ℕ → Lexeme → ℕ → List Frame → Outcome
colon n fs x (ASign Colon) place below = Ok (at due (field n fs x ∷ below))
colon n fs x l place below = no_go place

abbrev pub in_record : Option (List ℕ) → List (List ℕ × Plain) → Lexeme → ℕ → List Frame → Outcome
in_record n fs (ASign Comma) place below = Ok (at (field_due n fs) below)
in_record n fs (ASign CloseBrace) place below = Ok (give (the_record n fs) below)
in_record n fs l place below = no_go place

abbrev pub the_map : List (List ℕ × Plain) → List (List ℕ × AHidden) → Plain
the_map ps us = map_of tt (pairs_of ps) us

abbrev pub key : List (List ℕ × Plain) → List (List ℕ × AHidden) → Lexeme → ℕ → List Frame → Outcome
key ps us (Bits k) place below = Ok (at (keyed ps us k) below)
key ps us l place below = no_go place

abbrev pub key_or_end : Lexeme → ℕ → List Frame → Outcome
key_or_end (ASign Greater) place below = Ok (give (the_map [] []) below)
key_or_end l place below = key [] [] l place below

abbrev pub entry : List (List ℕ × Plain) → List (List ℕ × AHidden) → List ℕ → Lexeme → ℕ → List Frame → Outcome
entry ps us k (ASign Colon) place below = Ok (at due (pair ps us k ∷ below))
entry ps us k (Hidden h) place below = Ok (at (after_entry ps (us ++ (k, h) ∷ []) k) below)
entry ps us k l place below = no_go place

abbrev pub in_map : List (List ℕ × Plain) → List (List ℕ × AHidden) → List ℕ → Lexeme → ℕ → List Frame → Outcome
in_map ps us last (ASign Comma) place below = Ok (at (entry_due ps us last) below)
in_map ps us last (ASign Greater) place below = Ok (give (the_map ps us) below)
in_map ps us last l place below = no_go place

-- ---- in a cell, and in what is left of one

abbrev pub open_rest : Lexeme → ℕ → List Frame → Outcome
open_rest (ASign OpenParen) place below = Ok (at rest_bits below)
open_rest l place below = no_go place

abbrev pub rest_of : List ℕ → List Tree → Slice
rest_of bs refs = record { bits = bs; refs = refs }

abbrev pub begin_rest : Lexeme → ℕ → List Frame → Outcome
begin_rest (Bits bs) place below = Ok (at (after_rest (rest_of bs [])) below)
begin_rest l place below = no_go place

abbrev pub in_rest : Slice → Lexeme → ℕ → List Frame → Outcome
in_rest r (ASign Comma) place below = Ok (at (rest_child r) below)
in_rest r (ASign CloseParen) place below = Ok (give (rest r) below)
in_rest r l place below = no_go place

abbrev pub begin_cell : Option Slice → List OpenCell → Lexeme → ℕ → List Frame → Outcome
begin_cell base ps (ASign OpenParen) place below = Ok (at (in_cell base ps (bits_due false place)) below)
begin_cell base ps (ASign Bang) place below = Ok (at (in_cell base ps paren_due) below)
begin_cell base ps l place below = no_go place

abbrev pub open_exotic : Option Slice → List OpenCell → Lexeme → ℕ → List Frame → Outcome
open_exotic base ps (ASign OpenParen) place below = Ok (at (in_cell base ps (bits_due true place)) below)
open_exotic base ps l place below = no_go place

abbrev pub open_cell_of : Bool → ℕ → List ℕ → List Tree → OpenCell
open_cell_of exotic place bs refs = record { exotic = exotic; place = place; bits = bs; refs = refs }

abbrev pub begin_body : Option Slice → List OpenCell → Bool → ℕ → Lexeme → ℕ → List Frame → Outcome
begin_body base ps exotic paren (Bits bs) place below =
    Ok (at (in_cell base ps (after_part (open_cell_of exotic paren bs []))) below)
begin_body base ps exotic paren l place below = no_go place

abbrev pub with_child : OpenCell → Tree → OpenCell
with_child p t = open_cell_of p.exotic p.place p.bits (p.refs ++ t ∷ [])

-- a whole cell: a value, or a reference of what is around it
abbrev pub give_cell : Tree → Option Slice → List OpenCell → List Frame → Open
give_cell t base (p ∷ ps) below = at (in_cell base ps (after_part (with_child p t))) below
give_cell t None [] below = give (raw t) below
give_cell t (Some r) [] below = at (after_rest (rest_of r.bits (r.refs ++ t ∷ []))) below

abbrev pub give_closed : Result Tree Cause → ℕ → Option Slice → List OpenCell → List Frame → Outcome
give_closed (Ok t) paren base ps below = Ok (give_cell t base ps below)
give_closed (Err cause) paren base ps below = Err (cause, paren)

abbrev pub in_body : Option Slice → List OpenCell → OpenCell → Lexeme → ℕ → List Frame → Outcome
in_body base ps p (ASign Comma) place below = Ok (at (in_cell base ps (child_due p)) below)
in_body base ps p (ASign CloseParen) place below = give_closed (closed p) p.place base ps below
in_body base ps p l place below = no_go place

abbrev pub move_cell : Option Slice → List OpenCell → CellSpot → Lexeme → ℕ → List Frame → Outcome
move_cell base ps paren_due l place below = open_exotic base ps l place below
move_cell base ps (bits_due exotic paren) l place below = begin_body base ps exotic paren l place below
move_cell base ps (after_part p) l place below = in_body base ps p l place below
move_cell base ps (child_due p) l place below = begin_cell base (p ∷ ps) l place below

-- ---- a step

abbrev pub move : Spot → Lexeme → ℕ → List Frame → Outcome
move due l place below = begin l place below
move item_or_end l place below = list_or_end l place below
move (after_item vs) l place below = in_list vs l place below
move (named n) l place below = open_record n l place below
move (field_or_end n) l place below = label_or_end n l place below
move (field_due n fs) l place below = label n fs l place below
move (labelled n fs x) l place below = colon n fs x l place below
move (after_field n fs) l place below = in_record n fs l place below
move entry_or_end l place below = key_or_end l place below
move (entry_due ps us last) l place below = key ps us l place below
move (keyed ps us k) l place below = entry ps us k l place below
move (after_entry ps us last) l place below = in_map ps us last l place below
move rest_paren l place below = open_rest l place below
move rest_bits l place below = begin_rest l place below
move (after_rest r) l place below = in_rest r l place below
move (rest_child r) l place below = begin_cell (Some r) [] l place below
move (in_cell base ps c) l place below = move_cell base ps c l place below
move (done v) l place below = no_go place

abbrev pub unless_limit : Option Cause → ℕ → Outcome → Outcome
unless_limit (Some cause) place further = Err (cause, place)
unless_limit None place further = further

-- what is open, and how many values and cells have begun
pub record Held : Type 0 where
  pub begun : Open
  pub values : ℕ
  pub cells : ℕ

abbrev pub held_of : Open → ℕ → ℕ → Held
held_of o values cells = record { begun = o; values = values; cells = cells }

abbrev pub Stepped : Type 0
Stepped = Result Held Refusal

abbrev pub start : Held
start = held_of (at due []) 0 0

abbrev pub counted : Outcome → ℕ → ℕ → Stepped
counted (Ok next) values cells = Ok (held_of next values cells)
counted (Err refusal) values cells = Err refusal

-- one more where it is so
abbrev pub one_more : Bool → ℕ → ℕ
one_more more n = if more then n + 1 else n

abbrev pub step_at : Spot → List Frame → ℕ → ℕ → Lexeme → ℕ → Stepped
step_at spot below values cells l place =
    counted (unless_limit (limit_of values cells spot below l) place (move spot l place below))
    (one_more (is_value_due spot && begins_value l) values) (one_more (is_cell_due spot && is_paren l) cells)

abbrev pub step_from : Open → ℕ → ℕ → Placed → Stepped
step_from (at spot below) values cells l = step_at spot below values cells l.1 l.0

abbrev pub step : Held → Placed → Stepped
step h l = step_from h.begun h.values h.cells l

abbrev pub and_then : Stepped → (Held → Stepped) → Stepped
and_then (Ok h) further = further h
and_then (Err refusal) further = Err refusal

abbrev pub run : Held → List Placed → Stepped
run h [] = Ok h
run h (l ∷ ls) = and_then (step h l) (λ next. run next ls)
