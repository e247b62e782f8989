-- What is taken of a slice: numbers in range, bits and cells that a text can hold, and what is left.
use Rattle.std.proofs.Common.{◌≡◌, ℕ, zero, suc, ◌+◌, ◌*◌, ◌<◌, ◌≤◌, ◌^◌, ◌∙◌, ap, subst, refl, arith, List, length, length-append, Some, Bool, true, false, lit≤}
use Rattle.std.specs.Prelude.{ℤ, pos, negsuc, nat_le, if◌then◌else◌}
use Rattle.std.proofs.Math.Nat.{pow-le-pow_right}
use Rattle.std.proofs.lemmas.Bool.{leb-true, ltb-true}
use Rattle.bit_slice.specs.Bits.{AreBits, InSignedRange}
use Rattle.building_laws.specs.MoveLaws.{IsHeld, bits_before, held_after}
use Rattle.building_laws.specs.RangeLaws.{in_range_on}
use Rattle.cell_nodes.specs.Good.{IsGood, AllGood, none}
use Rattle.cell_nodes.specs.GoodParts.{all_good-head}
use Rattle.cell_nodes.specs.Tree.{unfolded}
use Rattle.cell_nodes.specs.declared.tree.Tree.{Tree}
use Rattle.core_form.specs.Closed.{Closed}
use Rattle.core_form.specs.Closed as closed
use Rattle.hashmap_tree.specs.Entries.{Slice, Then}
use Rattle.spelling.specs.Goals.{Row, natural, integer, string, no_row, row, in_table}
use Rattle.spelling.specs.Slices.{nothing, only_bits, only_ref}
use Rattle.spelling.specs.Spells.{SpellsNumber, SpellsString, integer_of}
use Rattle.typed_value.specs.Values.{Plain, number, bit_string}
use Rattle.value_text.specs.Writes.{AreFew, IsFormed, cells_in}
use Rattle.reading_texts.proofs.Cells.{cells, cells-then}
use Rattle.reading_texts.proofs.Types.{Small}

-- the value can be written, what is left can stand in a cell, and both have no more cells than there were
pub record Fit (v : Plain) (before after : Slice) : Type 0 where
  pub formed : IsFormed v
  pub held : IsHeld after
  pub fewer : cells_in v + cells after ≤ cells before

pub held-nothing : IsHeld nothing
held-nothing = record {
  within = record { short = omega arith; few = omega arith; good = none; below = tt };
  bits = tt;
}

-- ---- bits and cells that are taken

pub record TakesBits (x : List ℕ) (before after : Slice) : Type 0 where
  pub few : AreFew x
  pub held : IsHeld after
  pub same : cells after ≡ cells before

pub takes-bits : (x : List ℕ) (before after : Slice) → Then before (only_bits x) after → IsHeld before
    → TakesBits x before after
takes-bits x before after t h =
    let l = ap length t.bits ∙ length-append x after.bits in
    let short = h.within.short in
    record {
      few = (bits_before x after.bits (subst AreBits t.bits h.bits), omega (arith, l, short));
      held = held_after before (only_bits x) after t h;
      same = let c = cells-then before (only_bits x) after t in omega (arith, c);
    }

pub record TakesCell (c : Tree) (before after : Slice) : Type 0 where
  pub good : IsGood c
  pub held : IsHeld after
  pub counted : cells before ≡ unfolded c + cells after

pub takes-cell : (c : Tree) (before after : Slice) → Then before (only_ref c) after → IsHeld before
    → TakesCell c before after
takes-cell c before after t h =
    record {
      good = all_good-head c after.refs (subst AllGood t.refs h.within.good);
      held = held_after before (only_ref c) after t h;
      counted = let k = cells-then before (only_ref c) after t in omega (arith, k);
    }

-- ---- numbers

abbrev pub RowFits : Row → Type 0
RowFits (natural width bound named) = bound ≤ 2 ^ 128
RowFits (integer width) = width ≤ 128
RowFits (string width) = Unit {0}
RowFits no_row = Unit {0}

power-fits : (n : ℕ) → n ≤ 128 → 2 ^ n ≤ 2 ^ 128
power-fits n h = pow-le-pow_right {n = 2} (lit≤ tt) h

uint-fits : (n : ℕ) (b : Bool) → nat_le n 128 ≡ b → RowFits (if b then natural n (2 ^ n) false else string n)
uint-fits n true e = power-fits n (leb-true n 128 e)
uint-fits n false e = tt

int-fits : (n : ℕ) (b : Bool) → nat_le n 128 ≡ b → RowFits (if b then integer n else string n)
int-fits n true e = leb-true n 128 e
int-fits n false e = tt

pub row-fits : (t : Closed) → Small t → in_table t ≡ true → RowFits (row t)
row-fits closed.nat32 h w = lit≤ tt
row-fits (closed.bits n) h w = let l = leb-true n 32 w in power-fits n (omega (arith, l))
row-fits (closed.below n) h w = omega (arith, h)
row-fits (closed.up_to n) h w = omega (arith, h)
row-fits (closed.uint n) h w = uint-fits n (nat_le n 128) refl
row-fits (closed.int n) h w = int-fits n (nat_le n 128) refl
row-fits (closed.bit_str n) h w = tt
row-fits closed.whole h w = tt
row-fits (closed.ref t) h w = tt
row-fits (closed.repeat n t) h w = tt
row-fits (closed.dict n t) h w = tt
row-fits (closed.dict_e n t) h w = tt
row-fits (closed.named x args) h w = tt

integer-size : (negative : Bool) (size : ℕ) (z : ℤ) (width : ℕ) → integer_of negative size ≡ Some z
    → InSignedRange width z → width ≤ 128 → size < 2 ^ 128
integer-size false n z width e r h =
    let same : z ≡ pos n = cc in
    let P : ℤ → Type 0 = λ x. InSignedRange width x in
    let l : 2 * n < 2 ^ width = ltb-true (2 * n) (2 ^ width) (in_range_on width (pos n) (subst P same r)) in
    let m = power-fits width h in
    omega (arith, l, m)
integer-size true zero z width e r h = absurd (cc)
integer-size true (suc n) z width e r h =
    let same : z ≡ negsuc n = cc in
    let P : ℤ → Type 0 = λ x. InSignedRange width x in
    let l : 2 * (n + 1) ≤ 2 ^ width = leb-true (2 * (n + 1)) (2 ^ width) (in_range_on width (negsuc n) (subst P same r)) in
    let m = power-fits width h in
    omega (arith, l, m)

fit-bits : (v : Plain) (x : List ℕ) (before after : Slice) → IsFormed v → cells_in v ≡ 0
    → Then before (only_bits x) after → IsHeld before → Fit v before after
fit-bits v x before after formed no_cells t h =
    let taken = takes-bits x before after t h in
    let same = taken.same in
    record { formed = formed; held = taken.held; fewer = omega (arith, no_cells, same) }

pub number-fit : (negative : Bool) (size : ℕ) (r : Row) (before : Slice) (outs : List ℕ) (after : Slice) → RowFits r
    → SpellsNumber negative size r before outs after → IsHeld before → Fit (number negative size) before after
number-fit negative size (natural width bound named) before outs after f e h =
    let l = e.1 in fit-bits (number negative size) _ before after (omega (arith, l, f)) refl e.3 h
number-fit negative size (integer width) before outs after f e h =
    fit-bits (number negative size) _ before after (integer-size negative size e.0 width e.1 e.2 f) refl e.4 h
number-fit negative size (string width) before outs after f e h = absurd e
number-fit negative size no_row before outs after f e h = absurd e

pub string-fit : (bits : List ℕ) (r : Row) (before : Slice) (outs : List ℕ) (after : Slice)
    → SpellsString bits r before outs after → IsHeld before → Fit (bit_string bits) before after
string-fit bits (string width) before outs after e h =
    fit-bits (bit_string bits) bits before after (takes-bits bits before after e.2 h).few refl e.2 h
string-fit bits (natural width bound named) before outs after e h = absurd e
string-fit bits (integer width) before outs after e h = absurd e
string-fit bits no_row before outs after e h = absurd e
