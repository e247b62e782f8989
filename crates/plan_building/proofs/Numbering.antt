-- Numbers at the rows of the table of basic types.
use Rattle.std.proofs.Common.{◌≡◌, ℕ, zero, suc, ◌+◌, ◌-◌, ◌*◌, ◌^◌, ◌<◌, ◌≤◌, Bool, true, false, nat_eq, nat_le, nat_lt, List, [], length, Option, Some, None, Err, refl, sym, ap, ◌∙◌, arith}
use Rattle.std.proofs.Math.Nat.{pow-suc}
use Rattle.std.proofs.lemmas.Bool.{eq-eqb, le-leb, le-ltb, lt-leb, lt-ltb, ne_eqb}
use Rattle.bit_slice.specs.BitLengths.{bit_length-below}
use Rattle.bit_slice.specs.Bits.{bit_length, spelled}
use Rattle.hashmap_labels.specs.Steps.{when_true, when_false}
use Rattle.spelling.specs.Goals.{Row, integer, natural, no_row, string}
use Rattle.spelling.specs.Places.{Spot, stuck}
use Rattle.spelling.specs.Spells.{own}
use Rattle.spelling.specs.declared.Cause.TheVariants.{OutOfRange, Shape}
use Rattle.building.specs.Growing.{Grown}
use Rattle.building.specs.PlainBuilder.{make_natural, make_number, make_string, put_bits}
use Rattle.plan_building.specs.Numbers.{IsComplement, width_of}

pub negative_none : (h : Spot) (width bound : ℕ) (named : Bool) (size : ℕ) (b : Grown) → size ≡ 0
    → make_natural h width bound named true size b ≡ Err (stuck h Shape)
negative_none h width bound named size b e = ap (λ n. make_natural h width bound named true n b) e

pub negative_some : (h : Spot) (width bound : ℕ) (named : Bool) (size : ℕ) (b : Grown) → (size ≡ 0 → ⊥)
    → make_natural h width bound named true size b ≡ Err (stuck h OutOfRange)
negative_some h width bound named zero b f = absurd (f refl)
negative_some h width bound named (suc n) b f = refl

pub natural_high : (h : Spot) (width bound : ℕ) (named negative : Bool) (size : ℕ) (b : Grown) → negative ≡ false
    → bound ≤ size → make_natural h width bound named negative size b ≡ Err (stuck h OutOfRange)
natural_high h width bound named negative size b e le =
    ap (λ s. make_natural h width bound named s size b) e ∙ when_false (nat_lt size bound) _ _ (le-ltb size bound le)

pub natural_put : (h : Spot) (width bound : ℕ) (named negative : Bool) (size : ℕ) (b : Grown) → negative ≡ false
    → size < bound
    → make_natural h width bound named negative size b ≡ put_bits h (spelled width size) (own named size) b
natural_put h width bound named negative size b e lt =
    ap (λ s. make_natural h width bound named s size b) e ∙ when_true (nat_lt size bound) _ _ (lt-ltb size bound lt)

pub integer_shape : (h : Spot) (width : ℕ) (negative : Bool) (size : ℕ) (b : Grown) → negative ≡ true → size ≡ 0
    → make_number h (integer width) negative size b ≡ Err (stuck h Shape)
integer_shape h width negative size b e f = λ i. make_number h (integer width) (e i) (f i) b

pub integer_high : (h : Spot) (width : ℕ) (negative : Bool) (size : ℕ) (b : Grown) → (negative ≡ true → 0 < size)
    → IsComplement negative size width None → make_number h (integer width) negative size b ≡ Err (stuck h OutOfRange)
integer_high h width false size b sign c =
    when_false (nat_lt (2 * size) (2 ^ width)) _ _ (le-ltb (2 * size) (2 ^ width) c)
integer_high h width true zero b sign c = let s = sign refl in absurd (omega (arith, s))
integer_high h width true (suc n) b sign c =
    when_false (nat_le (2 * (n + 1)) (2 ^ width)) _ _ (lt-leb (2 * (n + 1)) (2 ^ width) (omega (arith, c)))

pub integer_put : (h : Spot) (width : ℕ) (negative : Bool) (size : ℕ) (b : Grown) (bits : ℕ)
    → (negative ≡ true → 0 < size) → IsComplement negative size width (Some bits)
    → make_number h (integer width) negative size b ≡ put_bits h (spelled width bits) [] b
integer_put h width false size b bits sign c =
    when_true (nat_lt (2 * size) (2 ^ width)) _ _ (lt-ltb (2 * size) (2 ^ width) c.0)
    ∙ ap (λ n. put_bits h (spelled width n) [] b) (sym c.1)
integer_put h width true zero b bits sign c = let s = sign refl in absurd (omega (arith, s))
integer_put h width true (suc n) b bits sign c =
    let e : 2 ^ width - (n + 1) ≡ bits = let f = c.1 in omega (arith, f) in
    when_true (nat_le (2 * (n + 1)) (2 ^ width)) _ _ (le-leb (2 * (n + 1)) (2 ^ width) (let l = c.0 in omega (arith, l)))
    ∙ ap (λ n. put_bits h (spelled width n) [] b) e

pub complement_fits : (negative : Bool) (size width bits : ℕ) → (negative ≡ true → 0 < size)
    → IsComplement negative size width (Some bits) → bits < 2 ^ width
complement_fits false size width bits sign c = let l = c.0 in let e = c.1 in omega (arith, l, e)
complement_fits true size width bits sign c =
    let s = sign refl in let l = c.0 in let e = c.1 in omega (arith, s, l, e)

-- ---- numbers in two's complement

pub complement_zero : (negative : Bool) (size : ℕ) → (negative ≡ true → 0 < size) → size ≡ 0
    → IsComplement negative size 0 (Some 0)
complement_zero false size sign e = (omega (arith, e), sym e)
complement_zero true size sign e = let s = sign refl in absurd (omega (arith, s, e))

pub complement_none : (negative : Bool) (size : ℕ) → (size ≡ 0 → ⊥) → IsComplement negative size 0 None
complement_none false zero f = absurd (f refl)
complement_none false (suc n) f = omega arith
complement_none true zero f = absurd (f refl)
complement_none true (suc n) f = omega arith

double : (width : ℕ) → 0 < width → 2 ^ width ≡ 2 * 2 ^ (width - 1)
double zero l = absurd (omega (arith, l))
double (suc n) l =
    let e : suc n - 1 ≡ n = omega arith in
    let p : 2 ^ suc n ≡ 2 ^ n * 2 = pow-suc 2 n in
    rw (e, p) (omega arith)

pub complement_below : (negative : Bool) (size width half : ℕ) → negative ≡ false → 0 < width → half ≡ 2 ^ (width - 1)
    → size < half → IsComplement negative size width (Some size)
complement_below true size width half e w h l = cc
complement_below false size width half e w h l = let d = double width w in (omega (arith, h, l, d), refl)

pub complement_above : (negative : Bool) (size width half : ℕ) → negative ≡ false → 0 < width → half ≡ 2 ^ (width - 1)
    → half ≤ size → IsComplement negative size width None
complement_above true size width half e w h l = cc
complement_above false size width half e w h l = let d = double width w in omega (arith, h, l, d)

pub complement_low : (negative : Bool) (size width half bits : ℕ) → negative ≡ true → 0 < width
    → half ≡ 2 ^ (width - 1) → size ≤ half → bits + size ≡ half + half → IsComplement negative size width (Some bits)
complement_low false size width half bits e w h l s = cc
complement_low true size width half bits e w h l s =
    let d = double width w in (omega (arith, h, l, d), omega (arith, h, s, d))

pub complement_lower : (negative : Bool) (size width half : ℕ) → negative ≡ true → 0 < width
    → half ≡ 2 ^ (width - 1) → half < size → IsComplement negative size width None
complement_lower false size width half e w h l = cc
complement_lower true size width half e w h l = let d = double width w in omega (arith, h, l, d)

-- ---- bit strings

pub no_string : (h : Spot) (r : Row) (bits : List ℕ) (b : Grown) → (◌≡◌ {A = Option ℕ} None (width_of r))
    → make_string h r bits b ≡ Err (stuck h Shape)
no_string h (string w) bits b e = cc
no_string h (natural w bound named) bits b e = refl
no_string h (integer w) bits b e = refl
no_string h no_row bits b e = refl

pub other_string : (h : Spot) (r : Row) (w : ℕ) (bits : List ℕ) (b : Grown) → (◌≡◌ {A = Option ℕ} (Some w) (width_of r))
    → (w ≡ length bits → ⊥) → make_string h r bits b ≡ Err (stuck h Shape)
other_string h (string v) w bits b e f =
    let same : w ≡ v = cc in
    when_false (nat_eq (length bits) v) _ _ (ne_eqb (length bits) v (λ l. f (same ∙ sym l)))
other_string h (natural v bound named) w bits b e f = refl
other_string h (integer v) w bits b e f = refl
other_string h no_row w bits b e f = refl

pub this_string : (h : Spot) (r : Row) (w : ℕ) (bits : List ℕ) (b : Grown) → (◌≡◌ {A = Option ℕ} (Some w) (width_of r))
    → w ≡ length bits → make_string h r bits b ≡ put_bits h bits [] b
this_string h (string v) w bits b e l =
    let same : w ≡ v = cc in when_true (nat_eq (length bits) v) _ _ (eq-eqb (length bits) v (sym l ∙ same))
this_string h (natural v bound named) w bits b e l = cc
this_string h (integer v) w bits b e l = cc
this_string h no_row w bits b e l = cc

-- ---- widths

pub below_fits : (n width : ℕ) → width ≡ bit_length (n - 1) → n ≤ 2 ^ width
below_fits n width e =
    let b = bit_length-below (n - 1) in
    let p : 2 ^ width ≡ 2 ^ bit_length (n - 1) = ap (λ k. 2 ^ k) e in omega (arith, b, p)

pub up_to_fits : (n width : ℕ) → width ≡ bit_length n → n + 1 ≤ 2 ^ width
up_to_fits n width e =
    let b = bit_length-below n in
    let p : 2 ^ width ≡ 2 ^ bit_length n = ap (λ k. 2 ^ k) e in omega (arith, b, p)
