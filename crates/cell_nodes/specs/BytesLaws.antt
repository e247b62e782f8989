-- Laws on bits of bytes, and on the hashes and depths that they hold.
use Rattle.std.specs.Prelude.{◌≡◌, ℕ, zero, suc, ◌+◌, ◌*◌, ◌^◌, ◌≤◌, ◌<◌, List, [], ◌∷◌, ◌++◌, length, take, drop}
use Rattle.std.specs.List.{flat_map}
use Rattle.std.specs.Int.{byte_at, w32, to_be_bytes, bytes_high_first}
use Rattle.std.proofs.Common.{arith, refl, get_or, append_assoc}
use Rattle.std.proofs.Math.Seq.{drop-append-add}
use Rattle.std.proofs.Math.Pow.{pow_mono}
use Rattle.std.proofs.lemmas.List.{take_at, drop_at, length-append, length-take}
use Rattle.sha2.specs.Sha256.{sha256, digest_bytes}
use Rattle.bit_slice.specs.Bits.{AreBits, number_of, groups, spelled}
use Rattle.bit_slice.specs.BitLists.{length-spelled, number_of-spelled, AreBits-spelled, AreBits-append, AreBits-take}
use Rattle.bit_slice.specs.BitLists.{AreBits-drop, number_of-bound}
use Rattle.cell_hash.specs.declared.ChildMark.{ChildMark}
use Rattle.cell_nodes.specs.Layout.{byte_of, hash_from, depth_from}
use Rattle.cell_nodes.specs.Constructed.{bits_of, hash_bits, depth_bits}

-- each number of the list is a byte
abbrev pub AreBytes : List ℕ → Type 0
AreBytes bytes = (i : ℕ) → get_or bytes i 0 < 256

-- ---- lists one after the other

pub drop_after : (xs ys : List ℕ) (k n : ℕ) → length xs ≡ k → drop (k + n) (xs ++ ys) ≡ drop n ys
drop_after xs ys k n e = rw (← e) (drop-append-add xs ys n)

-- ---- bits of bytes

pub length-bits_of : (bytes : List ℕ) → length (bits_of bytes) ≡ 8 * length bytes
length-bits_of [] = refl
length-bits_of (b ∷ bs) =
    omega (arith, length-append (spelled 8 b) (bits_of bs), length-spelled 8 b, length-bits_of bs)

pub AreBits-bits_of : (bytes : List ℕ) → AreBits (bits_of bytes)
AreBits-bits_of [] = tt
AreBits-bits_of (b ∷ bs) = AreBits-append (spelled 8 b) (bits_of bs) (AreBits-spelled 8 b) (AreBits-bits_of bs)

pub groups-bits_of : (bytes rest : List ℕ) → AreBytes bytes → groups 8 (length bytes) (bits_of bytes ++ rest) ≡ bytes
unfolding groups
groups-bits_of [] rest h = refl
groups-bits_of (b ∷ bs) rest h =
    let len : length (spelled 8 b) ≡ 8 = length-spelled 8 b in
    let small : b < 2 ^ 8 = omega (arith, h 0) in
    rw (
      append_assoc (spelled 8 b) (bits_of bs) rest,
      take_at (spelled 8 b) (bits_of bs ++ rest) 8 len,
      drop_at (spelled 8 b) (bits_of bs ++ rest) 8 len,
      number_of-spelled 8 b small,
      groups-bits_of bs rest (λ i. h (suc i)),
    ) refl

-- ---- a byte, a hash and a depth that stand after other bits

pub byte_of-first : (v : ℕ) (rest : List ℕ) → v < 256 → byte_of 0 (spelled 8 v ++ rest) ≡ v
byte_of-first v rest h =
    let small : v < 2 ^ 8 = omega arith in
    rw (take_at (spelled 8 v) rest 8 (length-spelled 8 v)) (number_of-spelled 8 v small)

pub byte_of-second : (u v : ℕ) (rest : List ℕ) → v < 256 → byte_of 1 (spelled 8 u ++ (spelled 8 v ++ rest)) ≡ v
byte_of-second u v rest h =
    rw (drop_at (spelled 8 u) (spelled 8 v ++ rest) 8 (length-spelled 8 u)) (byte_of-first v rest h)

pub hash_from-at : (start : ℕ) (before hash rest : List ℕ) → length before ≡ start → length hash ≡ 32 → AreBytes hash
    → hash_from start (before ++ (bits_of hash ++ rest)) ≡ hash
hash_from-at start before hash rest e len h =
    rw (drop_at before (bits_of hash ++ rest) start e, ← len) (groups-bits_of hash rest h)

pub depth_from-at : (start : ℕ) (before : List ℕ) (depth : ℕ) (rest : List ℕ) → length before ≡ start → depth < 65536
    → depth_from start (before ++ (spelled 16 depth ++ rest)) ≡ depth
depth_from-at start before depth rest e h =
    let small : depth < 2 ^ 16 = omega arith in
    rw (drop_at before (spelled 16 depth ++ rest) start e, take_at (spelled 16 depth) rest 16 (length-spelled 16 depth))
    (number_of-spelled 16 depth small)

-- ---- pairs of a hash and a depth

-- the hash has 32 bytes, and the depth is within the greatest
pub record IsPair (pair : ChildMark) : Type 0 where
  pub whole : length pair.hash ≡ 32
  pub low : pair.depth ≤ 1024

abbrev pub ArePairs : List ChildMark → Type 0
ArePairs [] = Unit {0}
ArePairs (p ∷ ps) = IsPair p × ArePairs ps

pub length-hashes : (ps : List ChildMark) → ArePairs ps → length (flat_map hash_bits ps) ≡ 256 * length ps
length-hashes [] h = refl
length-hashes (p ∷ ps) h =
    omega (
      arith,
      length-append (hash_bits p) (flat_map hash_bits ps),
      length-bits_of p.hash,
      h.0.whole,
      length-hashes ps h.1,
    )

pub length-depths : (ps : List ChildMark) → length (flat_map depth_bits ps) ≡ 16 * length ps
length-depths [] = refl
length-depths (p ∷ ps) =
    omega (arith, length-append (depth_bits p) (flat_map depth_bits ps), length-spelled 16 p.depth, length-depths ps)

pub hash-among : (ps : List ChildMark) (j : ℕ) (rest : List ℕ) (d : ChildMark) → ArePairs ps → j < length ps
    → AreBytes (get_or ps j d).hash → hash_from (256 * j) (flat_map hash_bits ps ++ rest) ≡ (get_or ps j d).hash
hash-among [] j rest d h l b = absurd (omega arith)
hash-among (p ∷ ps) zero rest d h l b =
    rw (append_assoc (hash_bits p) (flat_map hash_bits ps) rest)
    (hash_from-at 0 [] p.hash (flat_map hash_bits ps ++ rest) refl h.0.whole b)
hash-among (p ∷ ps) (suc j) rest d h l b =
    let e : 256 * suc j ≡ 256 + 256 * j = omega arith in
    let len : length (hash_bits p) ≡ 256 = omega (arith, length-bits_of p.hash, h.0.whole) in
    rw (
      append_assoc (hash_bits p) (flat_map hash_bits ps) rest,
      e,
      drop_after (hash_bits p) (flat_map hash_bits ps ++ rest) 256 (256 * j) len,
    )
    (hash-among ps j rest d h.1 (omega arith) b)

pub depth-among : (ps : List ChildMark) (j : ℕ) (d : ChildMark) → ArePairs ps → j < length ps
    → depth_from (16 * j) (flat_map depth_bits ps) ≡ (get_or ps j d).depth
depth-among [] j d h l = absurd (omega arith)
depth-among (p ∷ ps) zero d h l =
    depth_from-at 0 [] p.depth (flat_map depth_bits ps) refl (omega (arith, h.0.low))
depth-among (p ∷ ps) (suc j) d h l =
    let e : 16 * suc j ≡ 16 + 16 * j = omega arith in
    rw (e, drop_after (depth_bits p) (flat_map depth_bits ps) 16 (16 * j) (length-spelled 16 p.depth))
    (depth-among ps j d h.1 (omega arith))

pub ArePairs-append : (xs ys : List ChildMark) → ArePairs xs → ArePairs ys → ArePairs (xs ++ ys)
ArePairs-append [] ys h k = k
ArePairs-append (x ∷ xs) ys h k = (h.0, ArePairs-append xs ys h.1 k)

pub ArePairs-low : (ps : List ChildMark) (j : ℕ) (d : ChildMark) → ArePairs ps → j < length ps
    → (get_or ps j d).depth ≤ 1024
ArePairs-low [] j d h l = absurd (omega arith)
ArePairs-low (p ∷ ps) zero d h l = h.0.low
ArePairs-low (p ∷ ps) (suc j) d h l = ArePairs-low ps j d h.1 (omega arith)

-- ---- hashes are of 32 bytes

pub AreBytes-append : (xs ys : List ℕ) → AreBytes xs → AreBytes ys → AreBytes (xs ++ ys)
AreBytes-append [] ys h k i = k i
AreBytes-append (x ∷ xs) ys h k zero = h 0
AreBytes-append (x ∷ xs) ys h k (suc i) = AreBytes-append xs ys (λ j. h (suc j)) k i

byte_at-lt : (i n : ℕ) → byte_at i n < 256
byte_at-lt zero n = omega arith
byte_at-lt (suc i) n = omega arith

AreBytes-high_first : (k n : ℕ) → AreBytes (bytes_high_first k n)
AreBytes-high_first zero n i = omega arith
AreBytes-high_first (suc k) n zero = byte_at-lt k n
AreBytes-high_first (suc k) n (suc i) = AreBytes-high_first k n i

length-high_first : (k n : ℕ) → length (bytes_high_first k n) ≡ k
length-high_first zero n = refl
length-high_first (suc k) n = omega (arith, length-high_first k n)

length-digest : (h : List ℕ) (n : ℕ) → length (digest_bytes h n) ≡ 4 * n
unfolding digest_bytes
length-digest h zero = refl
length-digest h (suc n) =
    omega (
      arith,
      length-append (digest_bytes h n) (to_be_bytes w32 (get_or h n 0)),
      length-digest h n,
      length-high_first 4 (get_or h n 0),
    )

AreBytes-digest : (h : List ℕ) (n : ℕ) → AreBytes (digest_bytes h n)
unfolding digest_bytes
AreBytes-digest h zero i = omega arith
AreBytes-digest h (suc n) i =
    AreBytes-append (digest_bytes h n) (to_be_bytes w32 (get_or h n 0)) (AreBytes-digest h n)
    (AreBytes-high_first 4 (get_or h n 0)) i

pub length-sha256 : (m : List ℕ) → length (sha256 m) ≡ 32
unfolding sha256
length-sha256 m = length-digest _ 8

pub AreBytes-sha256 : (m : List ℕ) → AreBytes (sha256 m)
unfolding sha256
AreBytes-sha256 m = AreBytes-digest _ 8

pub length-groups : (n : ℕ) (bits : List ℕ) → length (groups 8 n bits) ≡ n
unfolding groups
length-groups zero bits = refl
length-groups (suc n) bits = omega (arith, length-groups n (drop 8 bits))

number_of-byte : (bits : List ℕ) → AreBits bits → length bits ≤ 8 → number_of bits < 256
number_of-byte bits h l =
    let p : 2 ^ length bits ≤ 2 ^ 8 = pow_mono {i = length bits} {j = 8} l in
    omega (arith, number_of-bound bits h)

pub AreBytes-groups : (n : ℕ) (bits : List ℕ) → AreBits bits → AreBytes (groups 8 n bits)
unfolding groups
AreBytes-groups zero bits h i = omega arith
AreBytes-groups (suc n) bits h zero =
    number_of-byte (take 8 bits) (AreBits-take 8 bits h) (omega (arith, length-take 8 bits))
AreBytes-groups (suc n) bits h (suc i) = AreBytes-groups n (drop 8 bits) (AreBits-drop 8 bits h) i
