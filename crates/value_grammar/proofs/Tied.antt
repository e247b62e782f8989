-- A step of a value's text is a step of the grammar's machine by the lexeme's shape; where there is no step, either the
-- machine has none, or a cell is closed that there is none of.
use Rattle.std.proofs.Common.{◌≡◌, ℕ, Bool, true, false, if◌then◌else◌, bytes_eq, codes, List, [], ◌∷◌, length, Option, Some, None, Result, Ok, Err, refl, ap}
use Rattle.cell_nodes.specs.declared.tree.Hidden.{Hidden}
use Rattle.cell_nodes.specs.declared.tree.Tree.{Tree}
use Rattle.typed_value.specs.Values.{Plain, Slice, absent, bit_string, list_of, number as a_number, raw, ref_to, rest, unknown}
use Rattle.typed_value.specs.View.{vals_of}
use Rattle.value_text.specs.declared.lexeme.Sign.{Sign}
use Rattle.value_text.specs.declared.lexeme.Sign.TheVariants.{OpenBrace, CloseBrace, OpenBracket, CloseBracket, OpenParen, CloseParen, Less, Greater, Comma, Colon, Tilde, Caret, Bang, Percent}
use Rattle.value_text.specs.declared.lexeme.Lexeme.{Lexeme}
use Rattle.value_text.specs.declared.lexeme.Lexeme.TheVariants.{Sign as ASign, Number, Bits, Name, Hidden as AHidden, Beyond}
use Rattle.value_grammar.specs.declared.cause.Cause.{Cause}
use Rattle.value_grammar.specs.declared.cause.Cause.TheVariants.{Syntax}
use Rattle.value_grammar.specs.Shapes.{Shape, name, shape, sign, x_name}
use Rattle.value_grammar.specs.Open.{CellSpot, Frame, Open, OpenCell, Spot, after_entry, after_field, after_item, after_part, after_rest, at, bits_due, child_due, done, due, entry_due, entry_or_end, field, field_due, field_or_end, in_cell, item, item_or_end, keyed, labelled, named, pair, paren_due, reference, rest_bits, rest_child, rest_paren}
use Rattle.value_grammar.specs.Within.{closed, is_beyond}
use Rattle.value_grammar.specs.Steps.{Outcome, begin, begin_cell, begin_body, begin_rest, begin_sign, colon, entry, give, give_cell, give_closed, in_list, in_map, in_body, in_record, in_rest, key, key_or_end, label, label_or_end, list_or_end, move, move_cell, no_go, open_exotic, open_record, open_rest, the_map, the_record}
use Rattle.value_grammar.specs.Refused.{Closes}
use Rattle.value_grammar.proofs.ShapeSteps as shapes

-- ---- where a text stands, by shapes

abbrev pub kind_of : Frame → shapes.Around
kind_of (field n fs x) = shapes.in_field
kind_of (item vs) = shapes.in_item
kind_of reference = shapes.in_reference
kind_of (pair ps us k) = shapes.in_pair

abbrev pub arounds : List Frame → List shapes.Around
arounds [] = []
arounds (f ∷ fs) = kind_of f ∷ arounds fs

abbrev pub is_based : Option Slice → Bool
is_based None = false
is_based (Some r) = true

abbrev pub cell_where : Bool → ℕ → CellSpot → shapes.Where
cell_where base n paren_due = shapes.paren_due base n
cell_where base n (bits_due exotic place) = shapes.bits_due base n
cell_where base n (after_part p) = shapes.after_part base n
cell_where base n (child_due p) = shapes.child_due base n

abbrev pub where_of : Spot → shapes.Where
where_of due = shapes.due
where_of item_or_end = shapes.item_or_end
where_of (after_item vs) = shapes.after_item
where_of (named n) = shapes.named
where_of (field_or_end n) = shapes.field_or_end
where_of (field_due n fs) = shapes.field_due
where_of (labelled n fs x) = shapes.labelled
where_of (after_field n fs) = shapes.after_field
where_of entry_or_end = shapes.entry_or_end
where_of (entry_due ps us last) = shapes.entry_due
where_of (keyed ps us k) = shapes.keyed
where_of (after_entry ps us last) = shapes.after_entry
where_of rest_paren = shapes.rest_paren
where_of rest_bits = shapes.rest_bits
where_of (after_rest r) = shapes.after_rest
where_of (rest_child r) = shapes.rest_child
where_of (in_cell base ps c) = cell_where (is_based base) (length ps) c
where_of (done v) = shapes.done

abbrev pub state_of : Open → shapes.State
state_of (at spot below) = shapes.at (where_of spot) (arounds below)

-- ---- why there is no step

pub data Fails (o : Open) (l : Lexeme) (place : ℕ) (s : Option shapes.State) : Cause → ℕ → Type 0 where
  no_step : s ≡ None → Fails o l place s Syntax place
  no_cell : {cause : Cause} (q : OpenCell) → l ≡ ASign CloseParen → Closes o q → closed q ≡ Err cause → Fails o l place s cause q.place

abbrev pub Tied : Outcome → Open → Lexeme → ℕ → Option shapes.State → Type 0
Tied (Ok next) o l place s = s ≡ Some (state_of next)
Tied (Err refusal) o l place s = Fails o l place s refusal.0 refusal.1

-- ---- a whole value

pub give_shape : (v : Plain) (below : List Frame) → shapes.given (arounds below) ≡ state_of (give v below)
give_shape v [] = refl
give_shape v (field n fs x ∷ below) = refl
give_shape v (item vs ∷ below) = refl
give_shape v (reference ∷ below) = give_shape (ref_to tt v) below
give_shape v (pair ps us k ∷ below) = refl

gives : (v : Plain) (below : List Frame) → Some (shapes.given (arounds below)) ≡ Some (state_of (give v below))
gives v below = ap (λ (s : shapes.State). Some s) (give_shape v below)

-- a name, x or not, with which nothing goes on
no_name : (f : Shape → Option shapes.State) (n : List ℕ) → f x_name ≡ None → f name ≡ None → f (shape (Name n)) ≡ None
no_name f n e g = by_test (bytes_eq n (codes "x"))
  where
    by_test : (b : Bool) → f (if b then x_name else name) ≡ None
    by_test true = e
    by_test false = g

-- ---- a value begins

sign_tied : (o : Open) (s : Sign) (p : ℕ) (below : List Frame) → Tied (begin_sign s p below) o (ASign s) p (shapes.begin_sign s (arounds below))
sign_tied o OpenBrace p below = refl
sign_tied o Tilde p below = gives absent below
sign_tied o OpenBracket p below = refl
sign_tied o Caret p below = refl
sign_tied o Less p below = refl
sign_tied o OpenParen p below = refl
sign_tied o Bang p below = refl
sign_tied o Percent p below = refl
sign_tied o s p below = no_step refl

begin_tied : (o : Open) (l : Lexeme) (p : ℕ) (below : List Frame) → is_beyond l ≡ false → Tied (begin l p below) o l p (shapes.begin (shape l) (arounds below))
begin_tied o (ASign s) p below b = sign_tied o s p below
begin_tied o (Number n) p below b = gives (a_number n.negative n.size) below
begin_tied o (Bits bs) p below b = gives (bit_string bs) below
begin_tied o (Name n) p below b = by_name (bytes_eq n (codes "x"))
  where
    by_name : (t : Bool) → Tied (if t then no_go p else Ok (at (named n) below)) o (Name n) p (shapes.begin (if t then x_name else name) (arounds below))
    by_name true = no_step refl
    by_name false = refl
begin_tied o (AHidden h) p below b = gives (unknown h) below
begin_tied o (Beyond form) p below b = absurd (cc)

-- ---- lists

sign_first : (o : Open) (s : Sign) (p : ℕ) (below : List Frame) → Tied (list_or_end (ASign s) p below) o (ASign s) p (shapes.list_or_end (sign s) (arounds below))
sign_first o CloseBracket p below = gives (list_of (vals_of [])) below
sign_first o OpenBrace p below = sign_tied o OpenBrace p (item [] ∷ below)
sign_first o Tilde p below = sign_tied o Tilde p (item [] ∷ below)
sign_first o OpenBracket p below = sign_tied o OpenBracket p (item [] ∷ below)
sign_first o Caret p below = sign_tied o Caret p (item [] ∷ below)
sign_first o Less p below = sign_tied o Less p (item [] ∷ below)
sign_first o OpenParen p below = sign_tied o OpenParen p (item [] ∷ below)
sign_first o Bang p below = sign_tied o Bang p (item [] ∷ below)
sign_first o Percent p below = sign_tied o Percent p (item [] ∷ below)
sign_first o s p below = no_step refl

list_tied : (o : Open) (l : Lexeme) (p : ℕ) (below : List Frame) → is_beyond l ≡ false → Tied (list_or_end l p below) o l p (shapes.list_or_end (shape l) (arounds below))
list_tied o (ASign s) p below b = sign_first o s p below
list_tied o (Number n) p below b = begin_tied o (Number n) p (item [] ∷ below) b
list_tied o (Bits bs) p below b = begin_tied o (Bits bs) p (item [] ∷ below) b
list_tied o (Name n) p below b = by_name (bytes_eq n (codes "x"))
  where
    by_name : (t : Bool) → Tied (if t then no_go p else Ok (at (named n) (item [] ∷ below))) o (Name n) p (shapes.list_or_end (if t then x_name else name) (arounds below))
    by_name true = no_step refl
    by_name false = refl
list_tied o (AHidden h) p below b = begin_tied o (AHidden h) p (item [] ∷ below) b
list_tied o (Beyond form) p below b = absurd (cc)

in_list_tied : (o : Open) (vs : List Plain) (l : Lexeme) (p : ℕ) (below : List Frame) → is_beyond l ≡ false
    → Tied (in_list vs l p below) o l p (shapes.in_list (shape l) (arounds below))
in_list_tied o vs (ASign Comma) p below b = refl
in_list_tied o vs (ASign CloseBracket) p below b = gives (list_of (vals_of vs)) below
in_list_tied o vs (Name n) p below b = no_step (no_name (λ c. shapes.in_list c (arounds below)) n refl refl)
in_list_tied o vs (Beyond form) p below b = absurd (cc)
in_list_tied o vs l p below b = no_step refl

-- ---- records

open_record_tied : (o : Open) (n : List ℕ) (l : Lexeme) (p : ℕ) (below : List Frame) → is_beyond l ≡ false
    → Tied (open_record n l p below) o l p (shapes.open_record (shape l) (arounds below))
open_record_tied o n (ASign OpenBrace) p below b = refl
open_record_tied o n (Name x) p below b = no_step (no_name (λ c. shapes.open_record c (arounds below)) x refl refl)
open_record_tied o n (Beyond form) p below b = absurd (cc)
open_record_tied o n l p below b = no_step refl

-- any name labels a field
a_name : (f : Shape → Option shapes.State) (x : List ℕ) (s : Option shapes.State) → f x_name ≡ s → f name ≡ s → f (shape (Name x)) ≡ s
a_name f x s e g = by_test (bytes_eq x (codes "x"))
  where
    by_test : (b : Bool) → f (if b then x_name else name) ≡ s
    by_test true = e
    by_test false = g

label_tied : (o : Open) (n : Option (List ℕ)) (fs : List (List ℕ × Plain)) (l : Lexeme) (p : ℕ) (below : List Frame) → is_beyond l ≡ false
    → Tied (label n fs l p below) o l p (shapes.label (shape l) (arounds below))
label_tied o n fs (Name x) p below b = a_name (λ c. shapes.label c (arounds below)) x (Some (shapes.at shapes.labelled (arounds below))) refl refl
label_tied o n fs (Beyond form) p below b = absurd (cc)
label_tied o n fs l p below b = no_step refl

record_tied : (o : Open) (n : Option (List ℕ)) (l : Lexeme) (p : ℕ) (below : List Frame) → is_beyond l ≡ false
    → Tied (label_or_end n l p below) o l p (shapes.label_or_end (shape l) (arounds below))
record_tied o n (ASign CloseBrace) p below b = gives (the_record n []) below
record_tied o n (Name x) p below b = a_name (λ c. shapes.label_or_end c (arounds below)) x (Some (shapes.at shapes.labelled (arounds below))) refl refl
record_tied o n (Beyond form) p below b = absurd (cc)
record_tied o n l p below b = no_step refl

colon_tied : (o : Open) (n : Option (List ℕ)) (fs : List (List ℕ × Plain)) (x : List ℕ) (l : Lexeme) (p : ℕ) (below : List Frame) → is_beyond l ≡ false
    → Tied (colon n fs x l p below) o l p (shapes.colon (shape l) (arounds below))
colon_tied o n fs x (ASign Colon) p below b = refl
colon_tied o n fs x (Name y) p below b = no_step (no_name (λ c. shapes.colon c (arounds below)) y refl refl)
colon_tied o n fs x (Beyond form) p below b = absurd (cc)
colon_tied o n fs x l p below b = no_step refl

in_record_tied : (o : Open) (n : Option (List ℕ)) (fs : List (List ℕ × Plain)) (l : Lexeme) (p : ℕ) (below : List Frame) → is_beyond l ≡ false
    → Tied (in_record n fs l p below) o l p (shapes.in_record (shape l) (arounds below))
in_record_tied o n fs (ASign Comma) p below b = refl
in_record_tied o n fs (ASign CloseBrace) p below b = gives (the_record n fs) below
in_record_tied o n fs (Name x) p below b = no_step (no_name (λ c. shapes.in_record c (arounds below)) x refl refl)
in_record_tied o n fs (Beyond form) p below b = absurd (cc)
in_record_tied o n fs l p below b = no_step refl

-- ---- maps

key_tied : (o : Open) (ps : List (List ℕ × Plain)) (us : List (List ℕ × Hidden)) (l : Lexeme) (p : ℕ) (below : List Frame) → is_beyond l ≡ false
    → Tied (key ps us l p below) o l p (shapes.key (shape l) (arounds below))
key_tied o ps us (Bits k) p below b = refl
key_tied o ps us (Name x) p below b = no_step (no_name (λ c. shapes.key c (arounds below)) x refl refl)
key_tied o ps us (Beyond form) p below b = absurd (cc)
key_tied o ps us l p below b = no_step refl

map_tied : (o : Open) (l : Lexeme) (p : ℕ) (below : List Frame) → is_beyond l ≡ false → Tied (key_or_end l p below) o l p (shapes.key_or_end (shape l) (arounds below))
map_tied o (ASign Greater) p below b = gives (the_map [] []) below
map_tied o (Bits k) p below b = refl
map_tied o (Name x) p below b = no_step (no_name (λ c. shapes.key_or_end c (arounds below)) x refl refl)
map_tied o (Beyond form) p below b = absurd (cc)
map_tied o l p below b = no_step refl

entry_tied : (o : Open) (ps : List (List ℕ × Plain)) (us : List (List ℕ × Hidden)) (k : List ℕ) (l : Lexeme) (p : ℕ) (below : List Frame) → is_beyond l ≡ false
    → Tied (entry ps us k l p below) o l p (shapes.entry (shape l) (arounds below))
entry_tied o ps us k (ASign Colon) p below b = refl
entry_tied o ps us k (AHidden h) p below b = refl
entry_tied o ps us k (Name x) p below b = no_step (no_name (λ c. shapes.entry c (arounds below)) x refl refl)
entry_tied o ps us k (Beyond form) p below b = absurd (cc)
entry_tied o ps us k l p below b = no_step refl

in_map_tied : (o : Open) (ps : List (List ℕ × Plain)) (us : List (List ℕ × Hidden)) (last : List ℕ) (l : Lexeme) (p : ℕ) (below : List Frame) → is_beyond l ≡ false
    → Tied (in_map ps us last l p below) o l p (shapes.in_map (shape l) (arounds below))
in_map_tied o ps us last (ASign Comma) p below b = refl
in_map_tied o ps us last (ASign Greater) p below b = gives (the_map ps us) below
in_map_tied o ps us last (Name x) p below b = no_step (no_name (λ c. shapes.in_map c (arounds below)) x refl refl)
in_map_tied o ps us last (Beyond form) p below b = absurd (cc)
in_map_tied o ps us last l p below b = no_step refl

-- ---- cells

open_rest_tied : (o : Open) (l : Lexeme) (p : ℕ) (below : List Frame) → is_beyond l ≡ false → Tied (open_rest l p below) o l p (shapes.open_rest (shape l) (arounds below))
open_rest_tied o (ASign OpenParen) p below b = refl
open_rest_tied o (Name x) p below b = no_step (no_name (λ c. shapes.open_rest c (arounds below)) x refl refl)
open_rest_tied o (Beyond form) p below b = absurd (cc)
open_rest_tied o l p below b = no_step refl

begin_rest_tied : (o : Open) (l : Lexeme) (p : ℕ) (below : List Frame) → is_beyond l ≡ false → Tied (begin_rest l p below) o l p (shapes.begin_rest (shape l) (arounds below))
begin_rest_tied o (Bits bs) p below b = refl
begin_rest_tied o (Name x) p below b = no_step (no_name (λ c. shapes.begin_rest c (arounds below)) x refl refl)
begin_rest_tied o (Beyond form) p below b = absurd (cc)
begin_rest_tied o l p below b = no_step refl

in_rest_tied : (o : Open) (r : Slice) (l : Lexeme) (p : ℕ) (below : List Frame) → is_beyond l ≡ false
    → Tied (in_rest r l p below) o l p (shapes.in_rest (shape l) (arounds below))
in_rest_tied o r (ASign Comma) p below b = refl
in_rest_tied o r (ASign CloseParen) p below b = gives (rest r) below
in_rest_tied o r (Name x) p below b = no_step (no_name (λ c. shapes.in_rest c (arounds below)) x refl refl)
in_rest_tied o r (Beyond form) p below b = absurd (cc)
in_rest_tied o r l p below b = no_step refl

begin_cell_tied : (o : Open) (base : Option Slice) (ps : List OpenCell) (l : Lexeme) (p : ℕ) (below : List Frame) → is_beyond l ≡ false
    → Tied (begin_cell base ps l p below) o l p (shapes.begin_cell (is_based base) (length ps) (shape l) (arounds below))
begin_cell_tied o base ps (ASign OpenParen) p below b = refl
begin_cell_tied o base ps (ASign Bang) p below b = refl
begin_cell_tied o base ps (Name x) p below b = no_step (no_name (λ c. shapes.begin_cell (is_based base) (length ps) c (arounds below)) x refl refl)
begin_cell_tied o base ps (Beyond form) p below b = absurd (cc)
begin_cell_tied o base ps l p below b = no_step refl

open_exotic_tied : (o : Open) (base : Option Slice) (ps : List OpenCell) (l : Lexeme) (p : ℕ) (below : List Frame) → is_beyond l ≡ false
    → Tied (open_exotic base ps l p below) o l p (shapes.open_exotic (is_based base) (length ps) (shape l) (arounds below))
open_exotic_tied o base ps (ASign OpenParen) p below b = refl
open_exotic_tied o base ps (Name x) p below b = no_step (no_name (λ c. shapes.open_exotic (is_based base) (length ps) c (arounds below)) x refl refl)
open_exotic_tied o base ps (Beyond form) p below b = absurd (cc)
open_exotic_tied o base ps l p below b = no_step refl

begin_body_tied : (o : Open) (base : Option Slice) (ps : List OpenCell) (exotic : Bool) (paren : ℕ) (l : Lexeme) (p : ℕ) (below : List Frame) → is_beyond l ≡ false
    → Tied (begin_body base ps exotic paren l p below) o l p (shapes.begin_body (is_based base) (length ps) (shape l) (arounds below))
begin_body_tied o base ps exotic paren (Bits bs) p below b = refl
begin_body_tied o base ps exotic paren (Name x) p below b =
    no_step (no_name (λ c. shapes.begin_body (is_based base) (length ps) c (arounds below)) x refl refl)
begin_body_tied o base ps exotic paren (Beyond form) p below b = absurd (cc)
begin_body_tied o base ps exotic paren l p below b = no_step refl

give_cell_shape : (t : Tree) (base : Option Slice) (ps : List OpenCell) (below : List Frame)
    → shapes.cell_given (is_based base) (length ps) (arounds below) ≡ state_of (give_cell t base ps below)
give_cell_shape t None [] below = give_shape (raw t) below
give_cell_shape t (Some r) [] below = refl
give_cell_shape t None (q ∷ qs) below = refl
give_cell_shape t (Some r) (q ∷ qs) below = refl

closed_tied : (base : Option Slice) (ps : List OpenCell) (q : OpenCell) (p : ℕ) (below : List Frame) (r : Result Tree Cause) → closed q ≡ r
    → Tied (give_closed r q.place base ps below) (at (in_cell base ps (after_part q)) below) (ASign CloseParen) p
    (Some (shapes.cell_given (is_based base) (length ps) (arounds below)))
closed_tied base ps q p below (Ok t) e = ap (λ (s : shapes.State). Some s) (give_cell_shape t base ps below)
closed_tied base ps q p below (Err cause) e = no_cell q refl refl e

in_body_tied : (base : Option Slice) (ps : List OpenCell) (q : OpenCell) (l : Lexeme) (p : ℕ) (below : List Frame) → is_beyond l ≡ false
    → Tied (in_body base ps q l p below) (at (in_cell base ps (after_part q)) below) l p (shapes.in_body (is_based base) (length ps) (shape l) (arounds below))
in_body_tied base ps q (ASign Comma) p below b = refl
in_body_tied base ps q (ASign CloseParen) p below b = closed_tied base ps q p below (closed q) refl
in_body_tied base ps q (Name x) p below b = no_step (no_name (λ c. shapes.in_body (is_based base) (length ps) c (arounds below)) x refl refl)
in_body_tied base ps q (Beyond form) p below b = absurd (cc)
in_body_tied base ps q l p below b = no_step refl

cell_tied : (base : Option Slice) (ps : List OpenCell) (c : CellSpot) (l : Lexeme) (p : ℕ) (below : List Frame) → is_beyond l ≡ false
    → Tied (move_cell base ps c l p below) (at (in_cell base ps c) below) l p (shapes.move (cell_where (is_based base) (length ps) c) (shape l) (arounds below))
cell_tied base ps paren_due l p below b = open_exotic_tied (at (in_cell base ps paren_due) below) base ps l p below b
cell_tied base ps (bits_due exotic paren) l p below b = begin_body_tied (at (in_cell base ps (bits_due exotic paren)) below) base ps exotic paren l p below b
cell_tied base ps (after_part q) l p below b = in_body_tied base ps q l p below b
cell_tied base ps (child_due q) l p below b = begin_cell_tied (at (in_cell base ps (child_due q)) below) base (q ∷ ps) l p below b

-- ---- every step

pub tied : (spot : Spot) (l : Lexeme) (p : ℕ) (below : List Frame) → is_beyond l ≡ false
    → Tied (move spot l p below) (at spot below) l p (shapes.move (where_of spot) (shape l) (arounds below))
tied due l p below b = begin_tied (at due below) l p below b
tied item_or_end l p below b = list_tied (at item_or_end below) l p below b
tied (after_item vs) l p below b = in_list_tied (at (after_item vs) below) vs l p below b
tied (named n) l p below b = open_record_tied (at (named n) below) n l p below b
tied (field_or_end n) l p below b = record_tied (at (field_or_end n) below) n l p below b
tied (field_due n fs) l p below b = label_tied (at (field_due n fs) below) n fs l p below b
tied (labelled n fs x) l p below b = colon_tied (at (labelled n fs x) below) n fs x l p below b
tied (after_field n fs) l p below b = in_record_tied (at (after_field n fs) below) n fs l p below b
tied entry_or_end l p below b = map_tied (at entry_or_end below) l p below b
tied (entry_due ps us last) l p below b = key_tied (at (entry_due ps us last) below) ps us l p below b
tied (keyed ps us k) l p below b = entry_tied (at (keyed ps us k) below) ps us k l p below b
tied (after_entry ps us last) l p below b = in_map_tied (at (after_entry ps us last) below) ps us last l p below b
tied rest_paren l p below b = open_rest_tied (at rest_paren below) l p below b
tied rest_bits l p below b = begin_rest_tied (at rest_bits below) l p below b
tied (after_rest r) l p below b = in_rest_tied (at (after_rest r) below) r l p below b
tied (rest_child r) l p below b = begin_cell_tied (at (rest_child r) below) (Some r) [] l p below b
tied (in_cell base ps c) l p below b = cell_tied base ps c l p below b
tied (done v) l p below b = no_step refl
