-- The plain reader at a row of the table of basic types.
use Rattle.std.proofs.Common.{◌≡◌, ℕ, ◌^◌, ◌<◌, ◌≤◌, Bool, false, List, [], length, take, drop, Ok, Err, ap, ◌∙◌, nat_lt, subst}
use Rattle.std.proofs.lemmas.Bool.{lt-ltb, le-ltb}
use Rattle.std.proofs.lemmas.List.{length-take-le}
use Rattle.bit_slice.specs.Bits.{AreBits, number_of, signed_number_of}
use Rattle.bit_slice.specs.BitLists.{number_of-bound}
use Rattle.cell_nodes.specs.declared.tree.Tree.{Tree}
use Rattle.hashmap_labels.specs.LengthLaws.{are_bits-AreBits}
use Rattle.hashmap_labels.specs.Reading.{are_bits}
use Rattle.hashmap_labels.specs.Steps.{when_true, when_false}
use Rattle.spelling.specs.Goals.{natural, integer}
use Rattle.spelling.specs.Places.{Spot, stuck}
use Rattle.spelling.specs.PlainReader.{◌>>=◌, integer_of, natural_of, number_value, read_row, take_bits}
use Rattle.spelling.specs.Spells.{own}
use Rattle.spelling.specs.declared.Cause.TheVariants.{OutOfRange, ShortBits}
use Rattle.typed_value.specs.Values as values
use Rattle.plan_reading.specs.Gives.{slice}

there : (h : Spot) (width : ℕ) (bits : List ℕ) (refs : List Tree) → width ≤ length bits
    → take_bits h width (slice bits refs) ≡ Ok (take width bits, slice (drop width bits) refs)
there h width bits refs long = when_false (nat_lt (length bits) width) _ _ (le-ltb (length bits) width long)

pub short_row : (h : Spot) (width : ℕ) (bits : List ℕ) (refs : List Tree) → length bits < width
    → take_bits h width (slice bits refs) ≡ Err (stuck h ShortBits)
short_row h width bits refs short = when_true (nat_lt (length bits) width) _ _ (lt-ltb (length bits) width short)

pub natural_short : (h : Spot) (width bound : ℕ) (named : Bool) (bits : List ℕ) (refs : List Tree) → length bits < width
    → read_row h (natural width bound named) (slice bits refs) ≡ Err (stuck h ShortBits)
natural_short h width bound named bits refs short =
    ap (λ z. z >>= (λ x. natural_of h bound named x.0 x.1)) (short_row h width bits refs short)

pub natural_row : (h : Spot) (width bound : ℕ) (named : Bool) (bits : List ℕ) (refs : List Tree) → width ≤ length bits
    → AreBits (take width bits) → number_of (take width bits) < bound
    → read_row h (natural width bound named) (slice bits refs)
    ≡ Ok (values.number false (number_of (take width bits)), own named (number_of (take width bits)), slice (drop width bits) refs)
natural_row h width bound named bits refs long are low =
    ap (λ z. z >>= (λ x. natural_of h bound named x.0 x.1)) (there h width bits refs long)
    ∙ when_true (are_bits (take width bits)) _ _ (are_bits-AreBits (take width bits) are)
    ∙ when_true (nat_lt (number_of (take width bits)) bound) _ _ (lt-ltb (number_of (take width bits)) bound low)

pub natural_high : (h : Spot) (width bound : ℕ) (named : Bool) (bits : List ℕ) (refs : List Tree) → width ≤ length bits
    → AreBits (take width bits) → bound ≤ number_of (take width bits)
    → read_row h (natural width bound named) (slice bits refs) ≡ Err (stuck h OutOfRange)
natural_high h width bound named bits refs long are high =
    ap (λ z. z >>= (λ x. natural_of h bound named x.0 x.1)) (there h width bits refs long)
    ∙ when_true (are_bits (take width bits)) _ _ (are_bits-AreBits (take width bits) are)
    ∙ when_false (nat_lt (number_of (take width bits)) bound) _ _ (le-ltb (number_of (take width bits)) bound high)

pub unsigned_row : (h : Spot) (width : ℕ) (named : Bool) (bits : List ℕ) (refs : List Tree) → width ≤ length bits
    → AreBits (take width bits)
    → read_row h (natural width (2 ^ width) named) (slice bits refs)
    ≡ Ok (values.number false (number_of (take width bits)), own named (number_of (take width bits)), slice (drop width bits) refs)
unsigned_row h width named bits refs long are =
    let P : ℕ → Type 0 = λ n. number_of (take width bits) < 2 ^ n in
    natural_row h width (2 ^ width) named bits refs long are
    (subst P (length-take-le width bits long) (number_of-bound (take width bits) are))

pub signed_short : (h : Spot) (width : ℕ) (bits : List ℕ) (refs : List Tree) → length bits < width
    → read_row h (integer width) (slice bits refs) ≡ Err (stuck h ShortBits)
signed_short h width bits refs short =
    ap (λ z. z >>= (λ x. integer_of h x.0 x.1)) (short_row h width bits refs short)

pub signed_row : (h : Spot) (width : ℕ) (bits : List ℕ) (refs : List Tree) → width ≤ length bits
    → AreBits (take width bits)
    → read_row h (integer width) (slice bits refs)
    ≡ Ok (number_value (signed_number_of (take width bits)), [], slice (drop width bits) refs)
signed_row h width bits refs long are =
    ap (λ z. z >>= (λ x. integer_of h x.0 x.1)) (there h width bits refs long)
    ∙ when_true (are_bits (take width bits)) _ _ (are_bits-AreBits (take width bits) are)
