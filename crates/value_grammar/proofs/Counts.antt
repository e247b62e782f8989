-- Each step counts the values and the cells that begin.
use Rattle.std.proofs.Common.{◌≡◌, ℕ, ◌+◌, Bool, true, false, ◌&&◌, not, nat_lt, if◌then◌else◌, bytes_eq, codes, List, [], ◌∷◌, ◌++◌, length, Option, Some, None, Result, Ok, Err, refl, ap, ◌∙◌, arith}
use Rattle.cell_nodes.specs.Equations.{unfolded-tree_of}
use Rattle.cell_nodes.specs.Layout.{exotic_kind}
use Rattle.cell_nodes.specs.Tree.{deepest, tree_of, unfolded}
use Rattle.cell_nodes.specs.declared.tree.Hidden.{Hidden}
use Rattle.cell_nodes.specs.declared.tree.Kind.{Kind}
use Rattle.cell_nodes.specs.declared.tree.Kind.TheVariants.{Ordinary}
use Rattle.cell_nodes.specs.declared.tree.Tree.{Tree}
use Rattle.typed_value.specs.Values.{Plain, Slice, absent, bit_string, list_of, number, parts, parts_by, parts_in, raw, ref_to, rest, unknown}
use Rattle.typed_value.specs.View.{pairs_of, vals_in, vals_of}
use Rattle.value_text.specs.declared.lexeme.Sign.{Sign}
use Rattle.value_text.specs.declared.lexeme.Sign.TheVariants.{OpenBrace, CloseBrace, OpenBracket, CloseBracket, OpenParen, CloseParen, Less, Greater, Comma, Colon, Tilde, Caret, Bang, Percent}
use Rattle.value_text.specs.declared.lexeme.Lexeme.{Lexeme}
use Rattle.value_text.specs.declared.lexeme.Lexeme.TheVariants.{Sign as ASign, Number, Bits, Name, Hidden as AHidden, Beyond}
use Rattle.value_text.specs.Writes.{cells_by, cells_in, cells_of}
use Rattle.value_grammar.specs.declared.cause.Cause.{Cause}
use Rattle.value_grammar.specs.declared.cause.Cause.TheVariants.{DeepText, Range}
use Rattle.value_grammar.specs.Open.{CellSpot, Frame, Open, OpenCell, Spot, after_entry, after_field, after_item, after_part, after_rest, at, base_cells, bits_due, cells_begun, child_due, done, due, entry_due, entry_or_end, field, field_due, field_or_end, frames_cells, frames_parts, in_cell, item, item_or_end, keyed, labelled, named, pair, paren_due, parts_begun, around_cells, reference, refs_cells, rest_bits, rest_child, rest_paren}
use Rattle.value_grammar.specs.Within.{begins_value, closed, closed_exotic, closed_ordinary, is_cell_due, is_paren, is_value_due}
use Rattle.value_grammar.specs.Steps.{Outcome, begin, begin_cell, begin_body, begin_rest, begin_sign, colon, entry, give, give_cell, give_closed, in_list, in_map, in_body, in_record, in_rest, key, key_or_end, label, label_or_end, list_or_end, move, move_cell, no_go, one_more, open_exotic, open_record, open_rest, the_map, the_record}
use Rattle.value_grammar.proofs.Adds.{OkThen}

-- so many values and cells have begun
abbrev pub HasBegun : ℕ → ℕ → Open → Type 0
HasBegun m n next = (parts_begun next ≡ m) × (cells_begun next ≡ n)

abbrev pub Grows : Outcome → ℕ → ℕ → Type 0
Grows o m n = OkThen o (HasBegun m n)

-- ---- lists that grow at their end

parts_fields : (fs : List (List ℕ × Plain)) (x : List ℕ) (v : Plain) → parts_in (vals_in (fs ++ (x, v) ∷ [])) ≡ parts_in (vals_in fs) + parts v
parts_fields [] x v = omega arith
parts_fields (f ∷ fs) x v = let e = parts_fields fs x v in omega (arith, e)

cells_fields : (fs : List (List ℕ × Plain)) (x : List ℕ) (v : Plain) → cells_of (vals_in (fs ++ (x, v) ∷ [])) ≡ cells_of (vals_in fs) + cells_in v
cells_fields [] x v = omega arith
cells_fields (f ∷ fs) x v = let e = cells_fields fs x v in omega (arith, e)

parts_items : (vs : List Plain) (v : Plain) → parts_in (vals_of (vs ++ v ∷ [])) ≡ parts_in (vals_of vs) + parts v
parts_items [] v = omega arith
parts_items (w ∷ vs) v = let e = parts_items vs v in omega (arith, e)

cells_items : (vs : List Plain) (v : Plain) → cells_of (vals_of (vs ++ v ∷ [])) ≡ cells_of (vals_of vs) + cells_in v
cells_items [] v = omega arith
cells_items (w ∷ vs) v = let e = cells_items vs v in omega (arith, e)

parts_pairs : (ps : List (List ℕ × Plain)) (k : List ℕ) (v : Plain) → parts_by (pairs_of (ps ++ (k, v) ∷ [])) ≡ parts_by (pairs_of ps) + parts v
parts_pairs [] k v = omega arith
parts_pairs (p ∷ ps) k v = let e = parts_pairs ps k v in omega (arith, e)

cells_pairs : (ps : List (List ℕ × Plain)) (k : List ℕ) (v : Plain) → cells_by (pairs_of (ps ++ (k, v) ∷ [])) ≡ cells_by (pairs_of ps) + cells_in v
cells_pairs [] k v = omega arith
cells_pairs (p ∷ ps) k v = let e = cells_pairs ps k v in omega (arith, e)

refs_push : (refs : List Tree) (t : Tree) → refs_cells (refs ++ t ∷ []) ≡ refs_cells refs + unfolded t
refs_push [] t = omega arith
refs_push (r ∷ refs) t = let e = refs_push refs t in omega (arith, e)

-- ---- a whole value

pub give_grows : (v : Plain) (below : List Frame) → HasBegun (frames_parts below + parts v) (frames_cells below + cells_in v) (give v below)
give_grows v [] = (refl, refl)
give_grows v (field n fs x ∷ below) =
    let e = parts_fields fs x v in
    let g = cells_fields fs x v in
    (omega (arith, e), omega (arith, g))
give_grows v (item vs ∷ below) =
    let e = parts_items vs v in
    let g = cells_items vs v in
    (omega (arith, e), omega (arith, g))
give_grows v (reference ∷ below) =
    let h = give_grows (ref_to tt v) below in
    let e = h.0 in
    let g = h.1 in
    (omega (arith, e), omega (arith, g))
give_grows v (pair ps us k ∷ below) =
    let e = parts_pairs ps k v in
    let g = cells_pairs ps k v in
    (omega (arith, e), omega (arith, g))

-- ---- a value begins

sign_grows : (s : Sign) (p : ℕ) (below : List Frame)
    → Grows (begin_sign s p below) (frames_parts below + 1) (one_more (is_paren (ASign s)) (frames_cells below))
sign_grows OpenBrace p below = (omega arith, omega arith)
sign_grows Tilde p below = let h = give_grows absent below in let e = h.0 in let g = h.1 in (omega (arith, e), omega (arith, g))
sign_grows OpenBracket p below = (omega arith, omega arith)
sign_grows Caret p below = (omega arith, omega arith)
sign_grows Less p below = (omega arith, omega arith)
sign_grows OpenParen p below = (omega arith, omega arith)
sign_grows Bang p below = (omega arith, omega arith)
sign_grows Percent p below = (omega arith, omega arith)
sign_grows s p below = tt

begin_grows : (l : Lexeme) (p : ℕ) (below : List Frame)
    → Grows (begin l p below) (frames_parts below + 1) (one_more (is_paren l) (frames_cells below))
begin_grows (ASign s) p below = sign_grows s p below
begin_grows (Number n) p below = let h = give_grows (number n.negative n.size) below in let e = h.0 in let g = h.1 in (omega (arith, e), omega (arith, g))
begin_grows (Bits bs) p below = let h = give_grows (bit_string bs) below in let e = h.0 in let g = h.1 in (omega (arith, e), omega (arith, g))
begin_grows (Name n) p below = by_name (bytes_eq n (codes "x"))
  where
    by_name : (b : Bool) → Grows (if b then no_go p else Ok (at (named n) below)) (frames_parts below + 1) (frames_cells below)
    by_name true = tt
    by_name false = (omega arith, omega arith)
begin_grows (AHidden h) p below = let h = give_grows (unknown h) below in let e = h.0 in let g = h.1 in (omega (arith, e), omega (arith, g))
begin_grows (Beyond form) p below = tt

-- where a value begins, one more is counted
counts_one : (l : Lexeme) (p m n : ℕ) (below : List Frame) → Grows (begin l p below) (m + 1) n → Grows (begin l p below) (one_more (begins_value l) m) n
counts_one (ASign OpenBrace) p m n below h = h
counts_one (ASign Tilde) p m n below h = h
counts_one (ASign OpenBracket) p m n below h = h
counts_one (ASign Caret) p m n below h = h
counts_one (ASign Less) p m n below h = h
counts_one (ASign OpenParen) p m n below h = h
counts_one (ASign Bang) p m n below h = h
counts_one (ASign Percent) p m n below h = h
counts_one (ASign s) p m n below h = tt
counts_one (Number x) p m n below h = h
counts_one (Bits bs) p m n below h = h
counts_one (Name x) p m n below h = by_name (bytes_eq x (codes "x")) h
  where
    by_name : (b : Bool) → Grows (if b then no_go p else Ok (at (named x) below)) (m + 1) n
        → Grows (if b then no_go p else Ok (at (named x) below)) (one_more (not b) m) n
    by_name true g = tt
    by_name false g = g
counts_one (AHidden x) p m n below h = h
counts_one (Beyond form) p m n below h = tt

-- the same counts
same_counts : (o : Outcome) (m n i k : ℕ) → m ≡ i → n ≡ k → Grows o m n → Grows o i k
same_counts (Ok next) m n i k e g h = (h.0 ∙ e, h.1 ∙ g)
same_counts (Err refusal) m n i k e g h = tt

more_of : (b : Bool) (m n : ℕ) → m ≡ n → one_more b m ≡ one_more b n
more_of b m n e = ap (one_more b) e

due_grows : (l : Lexeme) (p : ℕ) (below : List Frame)
    → Grows (begin l p below) (one_more (begins_value l) (frames_parts below + 0)) (one_more (is_paren l) (frames_cells below + 0))
due_grows l p below =
    same_counts (begin l p below) (one_more (begins_value l) (frames_parts below)) (one_more (is_paren l) (frames_cells below))
    (one_more (begins_value l) (frames_parts below + 0)) (one_more (is_paren l) (frames_cells below + 0))
    (more_of (begins_value l) (frames_parts below) (frames_parts below + 0) (omega arith))
    (more_of (is_paren l) (frames_cells below) (frames_cells below + 0) (omega arith))
    (counts_one l p (frames_parts below) (one_more (is_paren l) (frames_cells below)) below (begin_grows l p below))

-- ---- lists

first_grows : (l : Lexeme) (p : ℕ) (below : List Frame)
    → Grows (begin l p (item [] ∷ below)) (one_more (begins_value l) (frames_parts below + 1)) (one_more (is_paren l) (frames_cells below + 0))
first_grows l p below =
    counts_one l p (frames_parts below + 1) (one_more (is_paren l) (frames_cells below + 0)) (item [] ∷ below) (begin_grows l p (item [] ∷ below))

sign_first : (s : Sign) (p : ℕ) (below : List Frame)
    → Grows (list_or_end (ASign s) p below) (one_more (begins_value (ASign s)) (frames_parts below + 1)) (one_more (is_paren (ASign s)) (frames_cells below + 0))
sign_first CloseBracket p below = let h = give_grows (list_of (vals_of [])) below in let e = h.0 in let g = h.1 in (omega (arith, e), omega (arith, g))
sign_first OpenBrace p below = first_grows (ASign OpenBrace) p below
sign_first Tilde p below = first_grows (ASign Tilde) p below
sign_first OpenBracket p below = first_grows (ASign OpenBracket) p below
sign_first Caret p below = first_grows (ASign Caret) p below
sign_first Less p below = first_grows (ASign Less) p below
sign_first OpenParen p below = first_grows (ASign OpenParen) p below
sign_first Bang p below = first_grows (ASign Bang) p below
sign_first Percent p below = first_grows (ASign Percent) p below
sign_first s p below = tt

list_grows : (l : Lexeme) (p : ℕ) (below : List Frame)
    → Grows (list_or_end l p below) (one_more (begins_value l) (frames_parts below + 1)) (one_more (is_paren l) (frames_cells below + 0))
list_grows (ASign s) p below = sign_first s p below
list_grows (Number n) p below = first_grows (Number n) p below
list_grows (Bits bs) p below = first_grows (Bits bs) p below
list_grows (Name n) p below = first_grows (Name n) p below
list_grows (AHidden h) p below = first_grows (AHidden h) p below
list_grows (Beyond form) p below = tt

in_list_grows : (vs : List Plain) (l : Lexeme) (p : ℕ) (below : List Frame)
    → Grows (in_list vs l p below) (frames_parts below + (1 + parts_in (vals_of vs))) (frames_cells below + cells_of (vals_of vs))
in_list_grows vs (ASign Comma) p below = (omega arith, omega arith)
in_list_grows vs (ASign CloseBracket) p below = give_grows (list_of (vals_of vs)) below
in_list_grows vs l p below = tt

-- ---- records

open_record_grows : (n : List ℕ) (l : Lexeme) (p : ℕ) (below : List Frame) → Grows (open_record n l p below) (frames_parts below + 1) (frames_cells below + 0)
open_record_grows n (ASign OpenBrace) p below = (refl, refl)
open_record_grows n l p below = tt

label_grows : (n : Option (List ℕ)) (fs : List (List ℕ × Plain)) (l : Lexeme) (p : ℕ) (below : List Frame)
    → Grows (label n fs l p below) (frames_parts below + (1 + parts_in (vals_in fs))) (frames_cells below + cells_of (vals_in fs))
label_grows n fs (Name x) p below = (refl, refl)
label_grows n fs l p below = tt

record_grows : (n : Option (List ℕ)) (l : Lexeme) (p : ℕ) (below : List Frame) → Grows (label_or_end n l p below) (frames_parts below + 1) (frames_cells below + 0)
record_grows n (ASign CloseBrace) p below = let h = give_grows (the_record n []) below in let e = h.0 in let g = h.1 in (omega (arith, e), omega (arith, g))
record_grows n (Name x) p below = (omega arith, omega arith)
record_grows n l p below = tt

colon_grows : (n : Option (List ℕ)) (fs : List (List ℕ × Plain)) (x : List ℕ) (l : Lexeme) (p : ℕ) (below : List Frame)
    → Grows (colon n fs x l p below) (frames_parts below + (1 + parts_in (vals_in fs))) (frames_cells below + cells_of (vals_in fs))
colon_grows n fs x (ASign Colon) p below = (omega arith, omega arith)
colon_grows n fs x l p below = tt

in_record_grows : (n : Option (List ℕ)) (fs : List (List ℕ × Plain)) (l : Lexeme) (p : ℕ) (below : List Frame)
    → Grows (in_record n fs l p below) (frames_parts below + (1 + parts_in (vals_in fs))) (frames_cells below + cells_of (vals_in fs))
in_record_grows n fs (ASign Comma) p below = (refl, refl)
in_record_grows n fs (ASign CloseBrace) p below = give_grows (the_record n fs) below
in_record_grows n fs l p below = tt

-- ---- maps

key_grows : (ps : List (List ℕ × Plain)) (us : List (List ℕ × Hidden)) (l : Lexeme) (p : ℕ) (below : List Frame)
    → Grows (key ps us l p below) (frames_parts below + (1 + parts_by (pairs_of ps))) (frames_cells below + cells_by (pairs_of ps))
key_grows ps us (Bits k) p below = (refl, refl)
key_grows ps us l p below = tt

map_grows : (l : Lexeme) (p : ℕ) (below : List Frame) → Grows (key_or_end l p below) (frames_parts below + 1) (frames_cells below + 0)
map_grows (ASign Greater) p below = let h = give_grows (the_map [] []) below in let e = h.0 in let g = h.1 in (omega (arith, e), omega (arith, g))
map_grows (Bits k) p below = (omega arith, omega arith)
map_grows l p below = tt

entry_grows : (ps : List (List ℕ × Plain)) (us : List (List ℕ × Hidden)) (k : List ℕ) (l : Lexeme) (p : ℕ) (below : List Frame)
    → Grows (entry ps us k l p below) (frames_parts below + (1 + parts_by (pairs_of ps))) (frames_cells below + cells_by (pairs_of ps))
entry_grows ps us k (ASign Colon) p below = (omega arith, omega arith)
entry_grows ps us k (AHidden h) p below = (refl, refl)
entry_grows ps us k l p below = tt

in_map_grows : (ps : List (List ℕ × Plain)) (us : List (List ℕ × Hidden)) (last : List ℕ) (l : Lexeme) (p : ℕ) (below : List Frame)
    → Grows (in_map ps us last l p below) (frames_parts below + (1 + parts_by (pairs_of ps))) (frames_cells below + cells_by (pairs_of ps))
in_map_grows ps us last (ASign Comma) p below = (refl, refl)
in_map_grows ps us last (ASign Greater) p below = give_grows (the_map ps us) below
in_map_grows ps us last l p below = tt

-- ---- cells

open_rest_grows : (l : Lexeme) (p : ℕ) (below : List Frame) → Grows (open_rest l p below) (frames_parts below + 1) (frames_cells below + 0)
open_rest_grows (ASign OpenParen) p below = (refl, refl)
open_rest_grows l p below = tt

begin_rest_grows : (l : Lexeme) (p : ℕ) (below : List Frame) → Grows (begin_rest l p below) (frames_parts below + 1) (frames_cells below + 0)
begin_rest_grows (Bits bs) p below = (refl, refl)
begin_rest_grows l p below = tt

in_rest_grows : (r : Slice) (l : Lexeme) (p : ℕ) (below : List Frame)
    → Grows (in_rest r l p below) (frames_parts below + 1) (frames_cells below + refs_cells r.refs)
in_rest_grows r (ASign Comma) p below = (refl, refl)
in_rest_grows r (ASign CloseParen) p below = give_grows (rest r) below
in_rest_grows r l p below = tt

begin_cell_grows : (base : Option Slice) (ps : List OpenCell) (l : Lexeme) (p m n : ℕ) (below : List Frame) → frames_parts below + 1 ≡ m
    → frames_cells below + (base_cells base + around_cells ps) ≡ n → Grows (begin_cell base ps l p below) m (one_more (is_paren l) n)
begin_cell_grows base ps (ASign OpenParen) p m n below e g = (e, omega (arith, g))
begin_cell_grows base ps (ASign Bang) p m n below e g = (e, omega (arith, g))
begin_cell_grows base ps l p m n below e g = tt

open_exotic_grows : (base : Option Slice) (ps : List OpenCell) (l : Lexeme) (p : ℕ) (below : List Frame)
    → Grows (open_exotic base ps l p below) (frames_parts below + 1) (one_more (is_paren l) (frames_cells below + (base_cells base + around_cells ps + 0)))
open_exotic_grows base ps (ASign OpenParen) p below = (refl, omega arith)
open_exotic_grows base ps l p below = tt

begin_body_grows : (base : Option Slice) (ps : List OpenCell) (exotic : Bool) (paren : ℕ) (l : Lexeme) (p : ℕ) (below : List Frame)
    → Grows (begin_body base ps exotic paren l p below) (frames_parts below + 1) (frames_cells below + (base_cells base + around_cells ps + 1))
begin_body_grows base ps exotic paren (Bits bs) p below = (refl, omega arith)
begin_body_grows base ps exotic paren l p below = tt

-- a cell that is closed has one more cell than its references
abbrev IfMade : ℕ → Result Tree Cause → Type 0
IfMade n (Ok t) = unfolded t ≡ n
IfMade n (Err cause) = Unit {0}

made_test : (b : Bool) (x : Result Tree Cause) (c : Cause) (n : ℕ) → IfMade n x → IfMade n (if b then Err c else x)
made_test true x c n h = tt
made_test false x c n h = h

ordinary_cells : (bs : List ℕ) (refs : List Tree) → IfMade (1 + refs_cells refs) (closed_ordinary bs refs)
ordinary_cells bs refs =
    made_test (nat_lt 1024 (deepest (tree_of Ordinary bs refs))) (if nat_lt 4 (length refs) then Err Range else Ok (tree_of Ordinary bs refs)) DeepText (1 + refs_cells refs)
    (made_test (nat_lt 4 (length refs)) (Ok (tree_of Ordinary bs refs)) Range (1 + refs_cells refs) (unfolded-tree_of Ordinary bs refs))

exotic_cells : (k : Option Kind) (bs : List ℕ) (refs : List Tree) → IfMade (1 + refs_cells refs) (closed_exotic k bs refs)
exotic_cells None bs refs = tt
exotic_cells (Some kind) bs refs =
    made_test (nat_lt 1024 (deepest (tree_of kind bs refs))) (Ok (tree_of kind bs refs)) DeepText (1 + refs_cells refs) (unfolded-tree_of kind bs refs)

closed_cells : (exotic : Bool) (bs : List ℕ) (refs : List Tree)
    → IfMade (1 + refs_cells refs) (if exotic then closed_exotic (exotic_kind bs (length refs)) bs refs else closed_ordinary bs refs)
closed_cells true bs refs = exotic_cells (exotic_kind bs (length refs)) bs refs
closed_cells false bs refs = ordinary_cells bs refs

give_cell_grows : (t : Tree) (base : Option Slice) (ps : List OpenCell) (below : List Frame)
    → HasBegun (frames_parts below + 1) (frames_cells below + (base_cells base + around_cells ps + unfolded t)) (give_cell t base ps below)
give_cell_grows t base (q ∷ qs) below = let e = refs_push q.refs t in (refl, omega (arith, e))
give_cell_grows t None [] below = let h = give_grows (raw t) below in let e = h.0 in let g = h.1 in (omega (arith, e), omega (arith, g))
give_cell_grows t (Some r) [] below = let e = refs_push r.refs t in (refl, omega (arith, e))

give_closed_grows : (r : Result Tree Cause) (paren k : ℕ) (base : Option Slice) (ps : List OpenCell) (below : List Frame) → IfMade k r
    → Grows (give_closed r paren base ps below) (frames_parts below + 1) (frames_cells below + (base_cells base + around_cells ps + k))
give_closed_grows (Ok t) paren k base ps below h =
    let g = give_cell_grows t base ps below in
    let e = g.1 in
    (g.0, omega (arith, e, h))
give_closed_grows (Err cause) paren k base ps below h = tt

in_body_grows : (base : Option Slice) (ps : List OpenCell) (q : OpenCell) (l : Lexeme) (p : ℕ) (below : List Frame)
    → Grows (in_body base ps q l p below) (frames_parts below + 1) (frames_cells below + (base_cells base + around_cells ps + (1 + refs_cells q.refs)))
in_body_grows base ps q (ASign Comma) p below = (refl, refl)
in_body_grows base ps q (ASign CloseParen) p below =
    give_closed_grows (closed q) q.place (1 + refs_cells q.refs) base ps below (closed_cells q.exotic q.bits q.refs)
in_body_grows base ps q l p below = tt

-- ---- every step

abbrev pub Counts : Outcome → Spot → Lexeme → List Frame → Type 0
Counts o spot l below =
    Grows o (one_more (is_value_due spot && begins_value l) (parts_begun (at spot below)))
    (one_more (is_cell_due spot && is_paren l) (cells_begun (at spot below)))

cell_grows : (base : Option Slice) (ps : List OpenCell) (c : CellSpot) (l : Lexeme) (p : ℕ) (below : List Frame)
    → Counts (move_cell base ps c l p below) (in_cell base ps c) l below
cell_grows base ps paren_due l p below = open_exotic_grows base ps l p below
cell_grows base ps (bits_due exotic paren) l p below = begin_body_grows base ps exotic paren l p below
cell_grows base ps (after_part q) l p below = in_body_grows base ps q l p below
cell_grows base ps (child_due q) l p below = begin_cell_grows base (q ∷ ps) l p (frames_parts below + 1) (frames_cells below + (base_cells base + around_cells ps + (1 + refs_cells q.refs))) below refl (omega arith)

pub counts : (spot : Spot) (l : Lexeme) (p : ℕ) (below : List Frame) → Counts (move spot l p below) spot l below
counts due l p below = due_grows l p below
counts item_or_end l p below = list_grows l p below
counts (after_item vs) l p below = in_list_grows vs l p below
counts (named n) l p below = open_record_grows n l p below
counts (field_or_end n) l p below = record_grows n l p below
counts (field_due n fs) l p below = label_grows n fs l p below
counts (labelled n fs x) l p below = colon_grows n fs x l p below
counts (after_field n fs) l p below = in_record_grows n fs l p below
counts entry_or_end l p below = map_grows l p below
counts (entry_due ps us last) l p below = key_grows ps us l p below
counts (keyed ps us k) l p below = entry_grows ps us k l p below
counts (after_entry ps us last) l p below = in_map_grows ps us last l p below
counts rest_paren l p below = open_rest_grows l p below
counts rest_bits l p below = begin_rest_grows l p below
counts (after_rest r) l p below = in_rest_grows r l p below
counts (rest_child r) l p below = begin_cell_grows (Some r) [] l p (frames_parts below + 1) (frames_cells below + refs_cells r.refs) below refl (omega arith)
counts (in_cell base ps c) l p below = cell_grows base ps c l p below
counts (done v) l p below = tt
