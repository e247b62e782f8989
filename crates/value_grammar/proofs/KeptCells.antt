-- Each step keeps what is open within the limits: cells, and every step.
use Rattle.std.proofs.Common.{◌≡◌, ℕ, suc, ◌+◌, ◌*◌, ◌≤◌, ◌==◌, Bool, true, false, ◌&&◌, nat_le, nat_lt, if◌then◌else◌, List, [], ◌∷◌, length, map, Option, Some, None, Result, Ok, Err, refl, sym, ap, ◌∙◌, arith}
use Rattle.std.proofs.lemmas.Bool.Decides.{nat_tests}
use Rattle.cell_nodes.specs.Good.{AllGood, IsGood, none}
use Rattle.cell_nodes.specs.GoodParts.{good-tree_of}
use Rattle.cell_nodes.specs.Layout.{byte_of, exotic_kind, has_layout, pair_count, stored_mask}
use Rattle.cell_nodes.specs.Tree.{deepest, greatest, is_exotic, tree_of}
use Rattle.cell_nodes.specs.declared.tree.Kind.{Kind}
use Rattle.cell_nodes.specs.declared.tree.Kind.TheVariants.{Ordinary, Pruned, Library, Proof, Update}
use Rattle.cell_nodes.specs.declared.tree.Tree.{Tree}
use Rattle.typed_value.specs.Values.{Slice, raw, rest}
use Rattle.value_text.specs.declared.lexeme.Sign.TheVariants.{OpenParen, CloseParen, Comma, Bang}
use Rattle.value_text.specs.declared.lexeme.Lexeme.{Lexeme}
use Rattle.value_text.specs.declared.lexeme.Lexeme.TheVariants.{Sign as ASign, Bits}
use Rattle.value_text.specs.Writes.{AreFew}
use Rattle.value_grammar.specs.declared.cause.Cause.{Cause}
use Rattle.value_grammar.specs.declared.cause.Cause.TheVariants.{DeepText, Range}
use Rattle.value_grammar.specs.Open.{CellSpot, Frame, OpenCell, Spot, after_entry, after_field, after_item, after_part, after_rest, at, bits_due, child_due, done, due, entry_due, entry_or_end, field_due, field_or_end, in_cell, item_or_end, keyed, labelled, named, paren_due, rest_bits, rest_child, rest_paren}
use Rattle.value_grammar.specs.Within.{begins_cell, BaseWithin, FitsIn, FramesWithin, AroundWithin, SpotWithin, cell_levels, closed, closed_exotic, closed_ordinary, is_deep, is_deep_child, is_out_of_order, most_cell_levels}
use Rattle.value_grammar.specs.Steps.{begin_cell, begin_body, begin_rest, give_cell, give_closed, in_body, in_rest, move, move_cell, open_exotic, open_rest}
use Rattle.value_grammar.proofs.Adds.{kind_exotic}
use Rattle.value_grammar.proofs.Heights.{cell_levels-tree_of, levels_push}
use Rattle.value_grammar.proofs.Kept.{IsLexeme, Keeps, Kept, begin_keeps, colon_keeps, entry_keeps, give_keeps, good_push, in_list_keeps, in_map_keeps, in_record_keeps, key_keeps, label_keeps, list_keeps, map_keeps, one_level, open_record_keeps, record_keeps}

-- ---- what is left of a cell

open_rest_keeps : (l : Lexeme) (p : ℕ) (below : List Frame) → FramesWithin below → FitsIn (length below) 0 → Kept (open_rest l p below)
open_rest_keeps (ASign OpenParen) p below f r = (f, r, tt)
open_rest_keeps l p below f r = tt

begin_rest_keeps : (l : Lexeme) (p : ℕ) (below : List Frame) → FramesWithin below → IsLexeme l → FitsIn (length below) 0 → Kept (begin_rest l p below)
begin_rest_keeps (Bits bs) p below f i r = (f, ((i, none), r), tt)
begin_rest_keeps l p below f i r = tt

in_rest_keeps : (s : Slice) (l : Lexeme) (p : ℕ) (below : List Frame) → FramesWithin below → SpotWithin (length below) (after_rest s) → Kept (in_rest s l p below)
in_rest_keeps s (ASign Comma) p below f w = (f, w, tt)
in_rest_keeps s (ASign CloseParen) p below f w = give_keeps (rest s) below f w.0 (one_level (length below) w.1)
in_rest_keeps s l p below f w = tt

-- ---- cells

-- there is room for one more cell where one begins
cell_room : (d : ℕ) (b : Bool) → b ≡ true → (nat_le most_cell_levels d && b) ≡ false → d + 1 ≤ most_cell_levels
cell_room d true e h = by_test (nat_le most_cell_levels d) refl h
  where
    by_test : (t : Bool) → nat_le most_cell_levels d ≡ t → (t && true) ≡ false → d + 1 ≤ most_cell_levels
    by_test true f g = absurd (cc)
    by_test false f g = grind (arith, nat_tests)
cell_room d false e h = absurd (cc)

begin_cell_keeps : (base : Option Slice) (ps : List OpenCell) (l : Lexeme) (p : ℕ) (below : List Frame) → FramesWithin below → BaseWithin base → AroundWithin ps
    → FitsIn (length below) 0 → (begins_cell l ≡ true → length ps + 1 ≤ most_cell_levels) → Kept (begin_cell base ps l p below)
begin_cell_keeps base ps (ASign OpenParen) p below f b w r k = (f, (b, w, k refl, r), tt)
begin_cell_keeps base ps (ASign Bang) p below f b w r k = (f, (b, w, k refl, r), tt)
begin_cell_keeps base ps l p below f b w r k = tt

open_exotic_keeps : (base : Option Slice) (ps : List OpenCell) (l : Lexeme) (p : ℕ) (below : List Frame) → FramesWithin below
    → SpotWithin (length below) (in_cell base ps paren_due) → Kept (open_exotic base ps l p below)
open_exotic_keeps base ps (ASign OpenParen) p below f w = (f, w, tt)
open_exotic_keeps base ps l p below f w = tt

begin_body_keeps : (base : Option Slice) (ps : List OpenCell) (exotic : Bool) (paren : ℕ) (l : Lexeme) (p : ℕ) (below : List Frame) → FramesWithin below → IsLexeme l
    → SpotWithin (length below) (in_cell base ps (bits_due exotic paren)) → Kept (begin_body base ps exotic paren l p below)
begin_body_keeps base ps exotic paren (Bits bs) p below f i w =
    let h = w.2 in
    (f, (w.0, w.1, (i, none, omega (arith, h)), w.3), tt)
begin_body_keeps base ps exotic paren l p below f i w = tt

-- a good cell of so many levels
abbrev IfMade : ℕ → Result Tree Cause → Type 0
IfMade n (Ok t) = IsGood t × (cell_levels t ≡ n)
IfMade n (Err cause) = Unit {0}

abbrev levels_with : List Tree → ℕ
levels_with refs = 1 + greatest (map cell_levels refs)

layout_few : (kind : Kind) (bs : List ℕ) (n : ℕ) → has_layout kind bs n ≡ true → is_exotic kind ≡ true → n ≤ 4
layout_few Ordinary bs n h e = absurd (cc)
layout_few Pruned bs n h e = by_zero (n == 0) refl h
  where
    by_zero : (b : Bool) → (n == 0) ≡ b
        → (b && (byte_of 0 bs == 1) && nat_le 1 (stored_mask bs) && nat_le (stored_mask bs) 7 && (length bs == 16 + 272 * pair_count (stored_mask bs))) ≡ true → n ≤ 4
    by_zero true f g = grind (arith, nat_tests)
    by_zero false f g = absurd (cc)
layout_few Library bs n h e = by_zero (n == 0) refl (middle (length bs == 264) (n == 0) (byte_of 0 bs == 2) h)
  where
    middle : (a b c : Bool) → (a && b && c) ≡ true → b ≡ true
    middle true true c g = refl
    middle true false c g = g
    middle false b c g = absurd (cc)

    by_zero : (b : Bool) → (n == 0) ≡ b → b ≡ true → n ≤ 4
    by_zero true f g = grind (arith, nat_tests)
    by_zero false f g = absurd (cc)
layout_few Proof bs n h e = by_one (n == 1) refl (middle (length bs == 280) (n == 1) (byte_of 0 bs == 3) h)
  where
    middle : (a b c : Bool) → (a && b && c) ≡ true → b ≡ true
    middle true true c g = refl
    middle true false c g = g
    middle false b c g = absurd (cc)

    by_one : (b : Bool) → (n == 1) ≡ b → b ≡ true → n ≤ 4
    by_one true f g = grind (arith, nat_tests)
    by_one false f g = absurd (cc)
layout_few Update bs n h e = by_two (n == 2) refl (middle (length bs == 552) (n == 2) (byte_of 0 bs == 4) h)
  where
    middle : (a b c : Bool) → (a && b && c) ≡ true → b ≡ true
    middle true true c g = refl
    middle true false c g = g
    middle false b c g = absurd (cc)

    by_two : (b : Bool) → (n == 2) ≡ b → b ≡ true → n ≤ 4
    by_two true f g = grind (arith, nat_tests)
    by_two false f g = absurd (cc)

layout_test : (b : Bool) (k kind : Kind) (other : Option Kind) (bs : List ℕ) (n : ℕ) → has_layout k bs n ≡ b → (other ≡ Some kind → has_layout kind bs n ≡ true)
    → (if b then Some k else other) ≡ Some kind → has_layout kind bs n ≡ true
layout_test true k kind other bs n h g e = let same : k ≡ kind = cc in ap (λ (x : Kind). has_layout x bs n) (sym same) ∙ h
layout_test false k kind other bs n h g e = g e

kind_layout : (bs : List ℕ) (n : ℕ) (kind : Kind) → exotic_kind bs n ≡ Some kind → has_layout kind bs n ≡ true
kind_layout bs n kind =
    layout_test (has_layout Pruned bs n) Pruned kind _ bs n refl
    (layout_test (has_layout Library bs n) Library kind _ bs n refl
    (layout_test (has_layout Proof bs n) Proof kind _ bs n refl
    (layout_test (has_layout Update bs n) Update kind None bs n refl (λ e. absurd (cc)))))

-- a cell that passes its tests is good
ordinary_good : (bs : List ℕ) (refs : List Tree) → AreFew bs → AllGood refs → IfMade (levels_with refs) (closed_ordinary bs refs)
ordinary_good bs refs f a = by_depth (nat_lt 1024 (deepest (tree_of Ordinary bs refs))) refl (nat_lt 4 (length refs)) refl
  where
    by_depth : (d : Bool) → nat_lt 1024 (deepest (tree_of Ordinary bs refs)) ≡ d → (m : Bool) → nat_lt 4 (length refs) ≡ m
        → IfMade (levels_with refs) (if d then Err DeepText else if m then Err Range else Ok (tree_of Ordinary bs refs))
    by_depth true e m g = tt
    by_depth false e true g = tt
    by_depth false e false g = (
      good-tree_of Ordinary bs refs f.0 f.1 (let s : length refs ≤ 4 = grind (arith, nat_tests) in s) refl
          (let s : deepest (tree_of Ordinary bs refs) ≤ 1024 = grind (arith, nat_tests) in s) a,
      cell_levels-tree_of Ordinary bs refs,
    )

exotic_good : (k : Option Kind) (bs : List ℕ) (refs : List Tree) → exotic_kind bs (length refs) ≡ k → AreFew bs → AllGood refs → IfMade (levels_with refs) (closed_exotic k bs refs)
exotic_good None bs refs e f a = tt
exotic_good (Some kind) bs refs e f a = by_depth (nat_lt 1024 (deepest (tree_of kind bs refs))) refl
  where
    by_depth : (d : Bool) → nat_lt 1024 (deepest (tree_of kind bs refs)) ≡ d → IfMade (levels_with refs) (if d then Err DeepText else Ok (tree_of kind bs refs))
    by_depth true g = tt
    by_depth false g =
        let layout = kind_layout bs (length refs) kind e in (
          good-tree_of kind bs refs f.0 f.1 (layout_few kind bs (length refs) layout (kind_exotic bs (length refs) kind e)) layout
              (let s : deepest (tree_of kind bs refs) ≤ 1024 = grind (arith, nat_tests) in s) a,
          cell_levels-tree_of kind bs refs,
        )

closed_good : (exotic : Bool) (bs : List ℕ) (refs : List Tree) → AreFew bs → AllGood refs
    → IfMade (levels_with refs) (if exotic then closed_exotic (exotic_kind bs (length refs)) bs refs else closed_ordinary bs refs)
closed_good true bs refs f a = exotic_good (exotic_kind bs (length refs)) bs refs refl f a
closed_good false bs refs f a = ordinary_good bs refs f a

give_cell_keeps : (t : Tree) (base : Option Slice) (ps : List OpenCell) (below : List Frame) → FramesWithin below → IsGood t
    → length ps + cell_levels t ≤ most_cell_levels → SpotWithin (length below) (in_cell base ps paren_due) → Keeps (give_cell t base ps below)
give_cell_keeps t base (q ∷ qs) below f g h w =
    let e = levels_push q.refs t in
    let room = w.1.0.2 in
    (f, (w.0, w.1.1, (w.1.0.0, good_push q.refs t w.1.0.1 g, omega (arith, e, room, h)), w.3), tt)
give_cell_keeps t None [] below f g h w = give_keeps (raw t) below f g (one_level (length below) w.3)
give_cell_keeps t (Some r) [] below f g h w = (f, ((w.0.0, good_push r.refs t w.0.1 g), w.3), tt)

give_closed_keeps : (r : Result Tree Cause) (paren n : ℕ) (base : Option Slice) (ps : List OpenCell) (below : List Frame) → FramesWithin below → IfMade n r
    → length ps + n ≤ most_cell_levels → SpotWithin (length below) (in_cell base ps paren_due) → Kept (give_closed r paren base ps below)
give_closed_keeps (Ok t) paren n base ps below f g h w =
    let e = g.1 in
    give_cell_keeps t base ps below f g.0 (omega (arith, e, h)) w
give_closed_keeps (Err cause) paren n base ps below f g h w = tt

in_body_keeps : (base : Option Slice) (ps : List OpenCell) (q : OpenCell) (l : Lexeme) (p : ℕ) (below : List Frame) → FramesWithin below
    → SpotWithin (length below) (in_cell base ps (after_part q)) → Kept (in_body base ps q l p below)
in_body_keeps base ps q (ASign Comma) p below f w = (f, w, tt)
in_body_keeps base ps q (ASign CloseParen) p below f w =
    let h = w.2.2 in
    give_closed_keeps (closed q) q.place (levels_with q.refs) base ps below f (closed_good q.exotic q.bits q.refs w.2.0 w.2.1) (omega (arith, h))
    (w.0, w.1, omega (arith, h), w.3)
in_body_keeps base ps q l p below f w = tt

child_keeps : (base : Option Slice) (ps : List OpenCell) (q : OpenCell) (l : Lexeme) (p : ℕ) (below : List Frame) → FramesWithin below
    → SpotWithin (length below) (in_cell base ps (child_due q)) → is_deep_child ps (child_due q) l ≡ false → Kept (begin_cell base (q ∷ ps) l p below)
child_keeps base ps q l p below f w d =
    begin_cell_keeps base (q ∷ ps) l p below f w.0 (w.2, w.1) w.3 (λ e. cell_room (suc (length ps)) (begins_cell l) e d)

cell_keeps : (base : Option Slice) (ps : List OpenCell) (c : CellSpot) (l : Lexeme) (p : ℕ) (below : List Frame) → FramesWithin below → IsLexeme l
    → SpotWithin (length below) (in_cell base ps c) → is_deep_child ps c l ≡ false → Kept (move_cell base ps c l p below)
cell_keeps base ps paren_due l p below f i w d = open_exotic_keeps base ps l p below f w
cell_keeps base ps (bits_due exotic paren) l p below f i w d = begin_body_keeps base ps exotic paren l p below f i w
cell_keeps base ps (after_part q) l p below f i w d = in_body_keeps base ps q l p below f w
cell_keeps base ps (child_due q) l p below f i w d = child_keeps base ps q l p below f w d

-- ---- every step

pub keeps : (spot : Spot) (l : Lexeme) (p : ℕ) (below : List Frame) → Keeps (at spot below) → IsLexeme l → is_deep spot below l ≡ false
    → is_out_of_order spot l ≡ false → Kept (move spot l p below)
keeps due l p below k i d o = begin_keeps l p below k.0 i d
keeps item_or_end l p below k i d o = list_keeps l p below k.0 k.1 i d
keeps (after_item vs) l p below k i d o = in_list_keeps vs l p below k.0 k.1
keeps (named n) l p below k i d o = open_record_keeps n l p below k.0 k.1
keeps (field_or_end n) l p below k i d o = record_keeps n l p below k.0 i k.1
keeps (field_due n fs) l p below k i d o = label_keeps n fs l p below k.0 i k.1.1
keeps (labelled n fs x) l p below k i d o = colon_keeps n fs x l p below k.0 k.1
keeps (after_field n fs) l p below k i d o = in_record_keeps n fs l p below k.0 k.1
keeps entry_or_end l p below k i d o = map_keeps l p below k.0 i k.1
keeps (entry_due ps us last) l p below k i d o = key_keeps ps us last l p below k.0 i k.1 o
keeps (keyed ps us x) l p below k i d o = entry_keeps ps us x l p below k.0 i k.1
keeps (after_entry ps us last) l p below k i d o = in_map_keeps ps us last l p below k.0 k.1
keeps rest_paren l p below k i d o = open_rest_keeps l p below k.0 k.1
keeps rest_bits l p below k i d o = begin_rest_keeps l p below k.0 i k.1
keeps (after_rest s) l p below k i d o = in_rest_keeps s l p below k.0 k.1
keeps (rest_child s) l p below k i d o = begin_cell_keeps (Some s) [] l p below k.0 k.1.0 tt k.1.1 (λ e. omega arith)
keeps (in_cell base ps c) l p below k i d o = cell_keeps base ps c l p below k.0 i k.1 d
keeps (done v) l p below k i d o = tt
