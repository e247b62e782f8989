-- A byte of the message taken in at once.
use Rattle.std.proofs.Common.{◌≡◌, ℕ, zero, suc, ◌+◌, ◌*◌, ◌/◌, ◌%◌, ◌^◌, ◌<◌, take, length, List, [], ◌∷◌, map, refl, sym, ap, ◌∙◌, arith, slice_index, lit<}
use Rattle.std.specs.Prelude.{bit_xor}
use Rattle.std.specs.Int.{bit_at}
use Rattle.std.specs.Int.Bits.{xor_zero_l, xor_zero_r, xor_assoc, xor_self}
use Rattle.std.proofs.lemmas.Nat.{xor_shr, xor_mod, xor_comm, xor_block, shr-shr}
use Rattle.std.proofs.Math.Nat.{pow-suc}
use Rattle.std.specs.List.{range_with_len}
use Rattle.std.proofs.lemmas.List.FromFn.{get_or-map-range_with_len}
use Rattle.std.proofs.lemmas.List.{append-nil, take_more}
use Rattle.std.proofs.lemmas.List.Sums.{fold-append}
use Rattle.std.proofs.lemmas.Grind.{flat_map-append}
use Rattle.tlb_sums.specs.Crc.{byte_bits, message_bits, after_bit, after_bits, table_of}

-- the register moved one place down, with the polynomial added where a 1 left it
abbrev pub shifted : ℕ → ℕ → ℕ
shifted p x = bit_xor (x / 2) (x % 2 * p)

unfoldable pub shifted_by : ℕ → ℕ → ℕ → ℕ
shifted_by p zero x = x
shifted_by p (suc n) x = shifted_by p n (shifted p x)

-- the lowest n bits, the lowest first
unfoldable pub low_bits : ℕ → ℕ → List ℕ
low_bits zero v = []
low_bits (suc n) v = v % 2 ∷ low_bits n (v / 2)

xor_half : (a b : ℕ) → bit_xor a b / 2 ≡ bit_xor (a / 2) (b / 2)
xor_half a b = xor_shr a b 1

xor_parity : (a b : ℕ) → bit_xor a b % 2 ≡ bit_xor (a % 2) (b % 2)
xor_parity a b = xor_mod a b 1

-- exclusive or, of two pairs
xor_pairs : (a b c d : ℕ) → bit_xor (bit_xor a b) (bit_xor c d) ≡ bit_xor (bit_xor a c) (bit_xor b d)
xor_pairs a b c d =
    xor_assoc a b (bit_xor c d)
    ∙ ap (bit_xor a) (sym (xor_assoc b c d) ∙ ap (λ x. bit_xor x d) (xor_comm b c) ∙ xor_assoc c b d)
    ∙ sym (xor_assoc a c (bit_xor b d))

-- a bit times the polynomial
xor_times_bits : (p a b : ℕ) → a < 2 → b < 2 → bit_xor a b * p ≡ bit_xor (a * p) (b * p)
xor_times_bits p zero b h k = rw (xor_zero_l b) (let e : zero * p ≡ zero = omega arith in rw (e, xor_zero_l (b * p)) refl)
xor_times_bits p (suc zero) zero h k = let e : zero * p ≡ zero = omega arith in rw (e, xor_zero_r (suc zero * p)) refl
xor_times_bits p (suc zero) (suc zero) h k = let e : zero * p ≡ zero = omega arith in e ∙ sym (xor_self (suc zero * p))
xor_times_bits p (suc (suc a)) b h k = absurd (omega arith)
xor_times_bits p (suc zero) (suc (suc b)) h k = absurd (omega arith)

pub shifted-xor : (p x y : ℕ) → shifted p (bit_xor x y) ≡ bit_xor (shifted p x) (shifted p y)
shifted-xor p x y =
    rw (xor_half x y, xor_parity x y, xor_times_bits p (x % 2) (y % 2) (omega arith) (omega arith))
    (xor_pairs (x / 2) (y / 2) (x % 2 * p) (y % 2 * p))

pub shifted_by-xor : (p n x y : ℕ) → shifted_by p n (bit_xor x y) ≡ bit_xor (shifted_by p n x) (shifted_by p n y)
unfolding shifted_by
shifted_by-xor p zero x y = refl
shifted_by-xor p (suc n) x y = ap (shifted_by p n) (shifted-xor p x y) ∙ shifted_by-xor p n (shifted p x) (shifted p y)

-- a number whose lowest bit is 0 only moves down
pub shifted-double : (p x : ℕ) → shifted p (2 * x) ≡ x
shifted-double p x =
    let e : 2 * x / 2 ≡ x = omega arith in
    let f : 2 * x % 2 * p ≡ 0 = (let g : 2 * x % 2 ≡ 0 = omega arith in rw g (omega arith)) in
    rw (e, f) (xor_zero_r x)

-- a number that is moved up and then down by n places
pub shifted_by-times : (p n x : ℕ) → shifted_by p n (x * 2 ^ n) ≡ x
unfolding shifted_by
shifted_by-times p zero x = omega arith
shifted_by-times p (suc n) x =
    let e : x * 2 ^ suc n ≡ 2 * (x * 2 ^ n) = rw (pow-suc 2 n) (omega arith) in
    rw (e, shifted-double p (x * 2 ^ n)) (shifted_by-times p n x)

-- ---- the bits of a number taken in one by one, or all at once

xor_bits : (a b : ℕ) → a < 2 → b < 2 → bit_xor a b ≡ (a + b) % 2
xor_bits zero zero h k = refl
xor_bits zero (suc zero) h k = refl
xor_bits (suc zero) zero h k = refl
xor_bits (suc zero) (suc zero) h k = refl
xor_bits (suc (suc a)) b h k = absurd (omega arith)
xor_bits zero (suc (suc b)) h k = absurd (omega arith)
xor_bits (suc zero) (suc (suc b)) h k = absurd (omega arith)

after_bit-lowest : (p r v : ℕ) → bit_xor (after_bit p r (v % 2)) (v / 2) ≡ shifted p (bit_xor r v)
after_bit-lowest p r v =
    let x = (r + v % 2) % 2 * p in
    let e : bit_xor (r % 2) (v % 2) ≡ (r + v % 2) % 2 = xor_bits (r % 2) (v % 2) (omega arith) (omega arith) ∙ omega arith in
    let s : bit_xor (bit_xor (r / 2) x) (v / 2) ≡ bit_xor (bit_xor (r / 2) (v / 2)) x =
    xor_assoc (r / 2) x (v / 2) ∙ ap (bit_xor (r / 2)) (xor_comm x (v / 2)) ∙ sym (xor_assoc (r / 2) (v / 2) x) in
    rw (xor_half r v, xor_parity r v, e) s

after_low_bits : (p n r v : ℕ) → v < 2 ^ n → after_bits p r (low_bits n v) ≡ shifted_by p n (bit_xor r v)
unfolding low_bits shifted_by
after_low_bits p zero r v h = let e : v ≡ 0 = omega arith in rw (e, xor_zero_r r) refl
after_low_bits p (suc n) r v h =
    let e : 2 ^ suc n ≡ 2 ^ n * 2 = pow-suc 2 n in
    after_low_bits p n (after_bit p r (v % 2)) (v / 2) (omega arith) ∙ ap (shifted_by p n) (after_bit-lowest p r v)

low_bits-map : (v i n : ℕ) → map (bit_at v) (range_with_len i n) ≡ low_bits n (v / 2 ^ i)
unfolding low_bits
low_bits-map v i zero = refl
low_bits-map v i (suc n) =
    let e : v / 2 ^ i / 2 ≡ v / 2 ^ (i + 1) = shr-shr v i 1 in
    rw e (ap (λ (bits : List ℕ). bit_at v i ∷ bits) (low_bits-map v (i + 1) n))

after_byte : (p r v : ℕ) → v < 256 → after_bits p r (byte_bits v) ≡ shifted_by p 8 (bit_xor r v)
unfolding byte_bits
after_byte p r v h =
    let e : v / 1 ≡ v = omega arith in
    ap (after_bits p r) (low_bits-map v 0 8 ∙ ap (low_bits 8) e) ∙ after_low_bits p 8 r v h

-- the lowest byte of a number and the rest
xor_of_parts : (w : ℕ) → bit_xor (w % 256) (w / 256 * 2 ^ 8) ≡ w
xor_of_parts w =
    let e : bit_xor (0 * 2 ^ 8 + w % 256) (w / 256 * 2 ^ 8 + 0) ≡ bit_xor 0 (w / 256) * 2 ^ 8 + bit_xor (w % 256) 0 =
    xor_block 8 0 (w / 256) (w % 256) 0 (omega arith) (lit< tt) in
    let a : 0 * 2 ^ 8 + w % 256 ≡ w % 256 = omega arith in
    let b : w / 256 * 2 ^ 8 + 0 ≡ w / 256 * 2 ^ 8 = omega arith in
    let f = rw (a, b, xor_zero_l (w / 256), xor_zero_r (w % 256)) at e in
    f ∙ omega arith

shifted_by-byte : (p w : ℕ) → shifted_by p 8 w ≡ bit_xor (shifted_by p 8 (w % 256)) (w / 256)
shifted_by-byte p w =
    ap (shifted_by p 8) (sym (xor_of_parts w))
    ∙ shifted_by-xor p 8 (w % 256) (w / 256 * 2 ^ 8)
    ∙ ap (bit_xor (shifted_by p 8 (w % 256))) (shifted_by-times p 8 (w / 256))

-- ---- the table's rule

table_entry : (p k : ℕ) → k < 256 → slice_index (table_of p) k ≡ shifted_by p 8 k
unfolding table_of
table_entry p k h =
    get_or-map-range_with_len (λ byte. after_bits p 0 (byte_bits byte)) 0 256 k k 0 h (omega arith)
    ∙ after_byte p 0 k h
    ∙ ap (shifted_by p 8) (xor_zero_l k)

-- one look-up takes in a byte
pub table_step : (p r v : ℕ) → v < 256
    → bit_xor (r / 2 ^ 8) (slice_index (table_of p) (bit_xor r v % 2 ^ 8)) ≡ after_bits p r (byte_bits v)
table_step p r v h =
    let w = bit_xor r v in
    let e : w / 2 ^ 8 ≡ r / 2 ^ 8 =
    xor_shr r v 8 ∙ (let z : v / 2 ^ 8 ≡ 0 = omega arith in rw z (xor_zero_r (r / 2 ^ 8))) in
    rw (table_entry p (w % 2 ^ 8) (omega arith), ← e, xor_comm (w / 2 ^ 8) (shifted_by p 8 (w % 2 ^ 8)))
    (sym (shifted_by-byte p w) ∙ sym (after_byte p r v h))

-- the message's bytes in turn
pub message_step : (p start : ℕ) (message : List ℕ) (i : ℕ) → i < length message
    → after_bits p start (message_bits (take (i + 1) message))
    ≡ after_bits p (after_bits p start (message_bits (take i message))) (byte_bits (slice_index message i))
message_step p start message i h =
    rw (take_more message i 0 h, flat_map-append byte_bits (take i message) (slice_index message i ∷ []), append-nil (byte_bits (slice_index message i)))
    (fold-append (after_bit p) start (message_bits (take i message)) (byte_bits (slice_index message i)))
