-- What is spelled at a basic type is read.
use Rattle.std.proofs.Common.{◌≡◌, ℕ, zero, suc, ◌-◌, ◌<◌, ◌≤◌, ◌^◌, Bool, true, false, cond, List, [], ◌++◌, length, take, drop, length-append, Some, Ok, sym, ap, ◌∙◌, arith, nat_lt, nat_le}
use Rattle.std.specs.Prelude.{ℤ, pos, negsuc}
use Rattle.std.proofs.Math.Seq.{take-append_seam, drop-append_seam}
use Rattle.std.proofs.lemmas.Bool.{le-ltb, lt-ltb}
use Rattle.bit_slice.specs.Bits.{number_of, spelled, signed_number_of, signed_spelled, InSignedRange, twos_complement}
use Rattle.bit_slice.specs.BitLists.{length-spelled, number_of-spelled, AreBits-spelled}
use Rattle.bit_slice.specs.BitLengths.{bit_length-below}
use Rattle.bit_slice.specs.SignedLists.{signed_number_of-spelled}
use Rattle.hashmap_labels.specs.Reading.{are_bits}
use Rattle.hashmap_labels.specs.LengthLaws.{are_bits-AreBits}
use Rattle.hashmap_tree.specs.Entries.{Slice, Then}
use Rattle.typed_value.specs.Values.{Plain, number, bit_string}
use Rattle.core_form.specs.Closed.{Closed}
use Rattle.core_form.specs.Closed as closed
use Rattle.spelling.specs.Slices.{only_bits}
use Rattle.spelling.specs.Goals.{Row, natural, integer, string, no_row, row}
use Rattle.spelling.specs.Spells.{own, integer_of, SpellsNumber, SpellsString}
use Rattle.spelling.specs.Places.{Spot}
use Rattle.spelling.specs.PlainReader.{Found, take_bits, number_value, read_row}
use Rattle.spelling_laws.specs.StepLaws.{bind_on, when_true, when_false}

-- bits that stand first are taken
pub first_bits : (k : ℕ) (bits rest all : List ℕ) → length bits ≡ k → all ≡ bits ++ rest
    → (k ≤ length all) × (take k all ≡ bits) × (drop k all ≡ rest)
first_bits k bits rest all l e =
    let n = ap length e in (
      omega (arith, n, l, length-append bits rest),
      ap (take k) e ∙ ap (λ n. take n (bits ++ rest)) (sym l) ∙ take-append_seam bits rest,
      ap (drop k) e ∙ ap (λ n. drop n (bits ++ rest)) (sym l) ∙ drop-append_seam bits rest,
    )

pub taken_on : (h : Spot) (n : ℕ) (bits : List ℕ) (s after : Slice) → length bits ≡ n → Then s (only_bits bits) after
    → take_bits h n s ≡ Ok (bits, after)
taken_on h n bits s after l t =
    let f = first_bits n bits after.bits s.bits l t.bits in
    when_false (nat_lt (length s.bits) n) _ _ (le-ltb (length s.bits) n f.0)
    ∙ (λ i. Ok (f.1 i, record { bits = f.2 i; refs = t.refs i }))

-- a number below the bound has its bits in the width
abbrev pub RowFits : Row → Type 0
RowFits (natural width bound named) = (x : ℕ) → x < bound → x < 2 ^ width
RowFits (integer width) = Unit {0}
RowFits (string width) = Unit {0}
RowFits no_row = Unit {0}

pub row_fits : (t : Closed) → RowFits (row t)
row_fits closed.nat32 = λ x h. h
row_fits (closed.bits n) = λ x h. h
row_fits (closed.below n) = λ x h. let b = bit_length-below (n - 1) in omega (arith, h, b)
row_fits (closed.up_to n) = λ x h. let b = bit_length-below n in omega (arith, h, b)
row_fits (closed.uint n) = go (nat_le n 128)
  where
    go : (b : Bool) → RowFits (cond b (natural n (2 ^ n) false) (string n))
    go true = λ x h. h
    go false = tt
row_fits (closed.int n) = go (nat_le n 128)
  where
    go : (b : Bool) → RowFits (cond b (integer n) (string n))
    go true = tt
    go false = tt
row_fits (closed.bit_str n) = tt
row_fits closed.whole = tt
row_fits (closed.ref t) = tt
row_fits (closed.repeat n t) = tt
row_fits (closed.dict n t) = tt
row_fits (closed.dict_e n t) = tt
row_fits (closed.named x args) = tt

natural_complete : (h : Spot) (width bound : ℕ) (named : Bool) (x : ℕ) (s after : Slice) → x < 2 ^ width → x < bound
    → Then s (only_bits (spelled width x)) after
    → read_row h (natural width bound named) s ≡ Ok (number false x, own named x, after)
natural_complete h width bound named x s after small below t =
    let is : number_of (spelled width x) ≡ x = number_of-spelled width x small in
    bind_on (take_bits h width s) _ (spelled width x, after) (Ok (number false x, own named x, after)) (taken_on h width (spelled width x) s after (length-spelled width x) t)
    (when_true (are_bits (spelled width x)) _ _ (are_bits-AreBits (spelled width x) (AreBits-spelled width x))
    ∙ when_true (nat_lt (number_of (spelled width x)) bound) _ _ (ap (λ n. nat_lt n bound) is ∙ lt-ltb x bound below)
    ∙ (λ i. Ok (number false (is i), own named (is i), after)))

number_of_integer : (negative : Bool) (size : ℕ) (z : ℤ) → integer_of negative size ≡ Some z
    → number_value z ≡ number negative size
number_of_integer false n (pos m) e = let same : m ≡ n = cc in ap (number false) same
number_of_integer false n (negsuc m) e = cc
number_of_integer true zero z e = cc
number_of_integer true (suc n) (pos m) e = cc
number_of_integer true (suc n) (negsuc m) e = let same : m ≡ n = cc in ap (λ k. number true (suc k)) same

integer_complete : (h : Spot) (width : ℕ) (negative : Bool) (size : ℕ) (z : ℤ) (s after : Slice)
    → integer_of negative size ≡ Some z → InSignedRange width z → Then s (only_bits (signed_spelled width z)) after
    → read_row h (integer width) s ≡ Ok (number negative size, [], after)
integer_complete h width negative size z s after o r t =
    let bits = signed_spelled width z in
    let len : length bits ≡ width = length-spelled width (twos_complement width z) in
    let is : signed_number_of bits ≡ z = signed_number_of-spelled width z r in
    bind_on (take_bits h width s) _ (bits, after) (Ok (number negative size, [], after)) (taken_on h width bits s after len t)
    (when_true (are_bits bits) _ _ (are_bits-AreBits bits (AreBits-spelled width (twos_complement width z)))
    ∙ ap (λ (v : Plain). Ok (let x : Found = (v, [], after) in x)) (ap number_value is ∙ number_of_integer negative size z o))

pub number_complete : (h : Spot) (r : Row) → RowFits r → (negative : Bool) (size : ℕ) (s : Slice) (outs : List ℕ)
    (after : Slice) → SpellsNumber negative size r s outs after → read_row h r s ≡ Ok (number negative size, outs, after)
number_complete h (natural width bound named) fits negative size s outs after e =
    natural_complete h width bound named size s after (fits size e.1) e.1 e.3 ∙ (λ i. Ok (number ((sym e.0) i) size, (sym e.2) i, after))
number_complete h (integer width) fits negative size s outs after e =
    integer_complete h width negative size e.0 s after e.1 e.2 e.4 ∙ (λ i. Ok (number negative size, (sym e.3) i, after))
number_complete h (string width) fits negative size s outs after e = absurd e
number_complete h no_row fits negative size s outs after e = absurd e

pub string_complete : (h : Spot) (r : Row) (bits : List ℕ) (s : Slice) (outs : List ℕ) (after : Slice)
    → SpellsString bits r s outs after → read_row h r s ≡ Ok (bit_string bits, outs, after)
string_complete h (string width) bits s outs after e =
    bind_on (take_bits h width s) _ (bits, after) (Ok (bit_string bits, outs, after)) (taken_on h width bits s after e.0 e.2)
    (λ i. Ok (bit_string bits, (sym e.1) i, after))
string_complete h (natural width bound named) bits s outs after e = absurd e
string_complete h (integer width) bits s outs after e = absurd e
string_complete h no_row bits s outs after e = absurd e
