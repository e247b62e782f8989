-- Lemmas on the completion of bits to whole bytes and whole digits.
use Rattle.std.specs.Prelude.{◌≡◌, ◌≢◌, ℕ, zero, suc, ◌+◌, ◌-◌, ◌*◌, ◌/◌, ◌%◌, ◌<◌, ◌≤◌, List, [], ◌∷◌, ◌++◌, length}
use Rattle.std.specs.Prelude.{map, take, drop, replicate, slice_index}
use Rattle.std.proofs.Common.{refl, sym, ap, ◌∙◌, arith, ⊎_elim}
use Rattle.std.specs.List.{range_with_len}
use Rattle.std.specs.Int.{bit_at}
use Rattle.std.proofs.lemmas.Bool.{cases_lt, cases_eq}
use Rattle.std.proofs.lemmas.Bool.Decides.{nat_tests}
use Rattle.std.proofs.lemmas.List.{get_or-replicate, get_or-append_right, get_or_append_left, get_or_at, length-append}
use Rattle.std.proofs.lemmas.List.{length-replicate, length-take-le, length-drop, drop-drop, get_or-take, get_or-drop}
use Rattle.std.proofs.lemmas.List.{ext_get_or}
use Rattle.std.proofs.lemmas.List.FromFn.{length-map-range_with_len, get_or-map-range_with_len}
use Rattle.std.proofs.Math.Nat.{eq-or-lt_of_le, mul-suc, mul-le-mul_left, le_of_eq}
use Rattle.bit_slice.specs.Bits.{AreBits, bits_from, bit_of, number_of, completed_bit, completed_byte, completed_to}
use Rattle.bit_slice.specs.Bits.{completed, groups}
use Rattle.bit_slice.specs.BitLists.{spelled-number_of, index-spelled}

pub index-AreBits : (bs : List ℕ) (j : ℕ) → AreBits bs → slice_index bs j < 2
index-AreBits [] j h = omega arith
index-AreBits (b ∷ bs) zero h = h.0
index-AreBits (b ∷ bs) (suc j) h = index-AreBits bs j h.1

-- the bits of a number, by their places
pub index-number_of : (bs : List ℕ) (k j : ℕ) → AreBits bs → j + k + 1 ≡ length bs
    → bit_at (number_of bs) j ≡ slice_index bs k
index-number_of bs k j h e =
    sym (index-spelled (length bs) (number_of bs) k j e) ∙ ap (λ (l : List ℕ). slice_index l k) (spelled-number_of bs h)

pub bits_from-is : (bytes : List ℕ) (i : ℕ) (bs : List ℕ)
    → ((j : ℕ) → j < length bs → bit_of bytes (i + j) ≡ slice_index bs j) → bits_from bytes i (length bs) ≡ bs
unfolding bits_from
bits_from-is bytes i [] h = refl
bits_from-is bytes i (b ∷ bs) h =
    let z : i + 0 ≡ i = omega arith in
    let first : bit_of bytes i ≡ b = rw (← z) (h 0 (omega arith)) in
    let rest =
    bits_from-is bytes (i + 1) bs (λ j l. let s : i + suc j ≡ i + 1 + j = omega arith in
    rw (← s) (h (suc j) (omega arith))) in
    rw (first, rest) refl

pub AreBits-map-range : (f : ℕ → ℕ) (a n : ℕ) → ((j : ℕ) → f j < 2) → AreBits (map f (range_with_len a n))
AreBits-map-range f a zero h = tt
AreBits-map-range f a (suc n) h = (h a, AreBits-map-range f (a + 1) n h)

pub completed_bit-lt : (bs : List ℕ) (j : ℕ) → AreBits bs → completed_bit bs j < 2
completed_bit-lt bs j h = let l = index-AreBits bs j h in grind (arith, nat_tests)

pub completed_bit-inside : (bs : List ℕ) (j : ℕ) → j < length bs → completed_bit bs j ≡ slice_index bs j
completed_bit-inside bs j h = grind (arith, nat_tests)

-- bit i of byte k
pub bit_at-completed_byte : (bs : List ℕ) (k i : ℕ) → AreBits bs → i < 8
    → bit_at (completed_byte bs k) (7 - i) ≡ completed_bit bs (8 * k + i)
bit_at-completed_byte bs k i h l =
    let f : ℕ → ℕ = λ x. completed_bit bs (8 * k + x) in
    let n : length (map f (range_with_len 0 8)) ≡ 8 = length-map-range_with_len f 0 8 in
    index-number_of (map f (range_with_len 0 8)) i (7 - i)
    (AreBits-map-range f 0 8 (λ j. completed_bit-lt bs (8 * k + j) h)) (omega arith)
    ∙ get_or-map-range_with_len f 0 8 i i 0 l (omega arith)

-- the completed bytes have the bits, and after them their completion
pub bit_of-completed_bytes : (bs : List ℕ) (c j : ℕ) → AreBits bs → j < 8 * c
    → bit_of (map (completed_byte bs) (range_with_len 0 c)) j ≡ completed_bit bs j
bit_of-completed_bytes bs c j h l =
    let b : slice_index (map (completed_byte bs) (range_with_len 0 c)) (j / 8) ≡ completed_byte bs (j / 8) =
    get_or-map-range_with_len (completed_byte bs) 0 c (j / 8) (j / 8) 0 (omega arith) (omega arith) in
    let e : 8 * (j / 8) + j % 8 ≡ j = omega arith in
    ap (λ (v : ℕ). bit_at v (7 - j % 8)) b ∙ bit_at-completed_byte bs (j / 8) (j % 8) h (omega arith)
    ∙ ap (λ (x : ℕ). completed_bit bs x) e

pub bits_from-completed_bytes : (bs : List ℕ) (c : ℕ) → AreBits bs → length bs ≤ 8 * c
    → bits_from (map (completed_byte bs) (range_with_len 0 c)) 0 (length bs) ≡ bs
bits_from-completed_bytes bs c h l =
    bits_from-is (map (completed_byte bs) (range_with_len 0 c)) 0 bs
    (λ j k. let z : 0 + j ≡ j = omega arith in
    ap (λ (x : ℕ). bit_of (map (completed_byte bs) (range_with_len 0 c)) x) z
    ∙ bit_of-completed_bytes bs c j h (omega arith) ∙ completed_bit-inside bs j k)

-- ---- completion as a list, and by index

completed_to-whole : (w : ℕ) (bs : List ℕ) → length bs % w ≡ 0 → completed_to w bs ≡ bs
completed_to-whole w bs h = grind (arith, nat_tests)

completed_to-part : (w : ℕ) (bs : List ℕ) → (length bs % w ≡ 0 → ⊥)
    → completed_to w bs ≡ bs ++ 1 ∷ replicate (w - 1 - length bs % w) 0
completed_to-part w bs h = grind (arith, nat_tests)

pub completed_bit-end : (bs : List ℕ) → completed_bit bs (length bs) ≡ 1
completed_bit-end bs = grind (arith, nat_tests)

pub completed_bit-after : (bs : List ℕ) (j : ℕ) → length bs < j → completed_bit bs j ≡ 0
completed_bit-after bs j h = grind (arith, nat_tests)

index-tail-after : (bs : List ℕ) (z j : ℕ) → length bs < j → j < length bs + 1 + z
    → slice_index (bs ++ 1 ∷ replicate z 0) j ≡ 0
index-tail-after bs z j h l =
    let e : j - length bs ≡ suc (j - length bs - 1) = omega arith in
    let r : slice_index (replicate z 0) (j - length bs - 1) ≡ 0 =
    get_or-replicate z (j - length bs - 1) 0 0 (omega arith) in
    get_or-append_right bs (1 ∷ replicate z 0) (length bs) j 0 refl (omega arith)
    ∙ ap (λ (m : ℕ). slice_index (1 ∷ replicate z 0) m) e ∙ r

index-tail : (bs : List ℕ) (z j : ℕ) → j < length bs + 1 + z
    → slice_index (bs ++ 1 ∷ replicate z 0) j ≡ completed_bit bs j
index-tail bs z j h = ⊎_elim
    (λ (l : j < length bs). get_or_append_left bs (1 ∷ replicate z 0) 0 j l ∙ sym (completed_bit-inside bs j l))
    (λ (l : length bs ≤ j). ⊎_elim
    (λ (e : length bs ≡ j). get_or_at bs 1 (replicate z 0) 0 j e ∙ sym (completed_bit-end bs)
    ∙ ap (λ (m : ℕ). completed_bit bs m) e)
    (λ (m : length bs < j). index-tail-after bs z j m h ∙ sym (completed_bit-after bs j m))
    (eq-or-lt_of_le l))
    (cases_lt j (length bs))

pub index-completed_to : (w : ℕ) (bs : List ℕ) (j : ℕ) → j < length (completed_to w bs)
    → slice_index (completed_to w bs) j ≡ completed_bit bs j
index-completed_to w bs j h = ⊎_elim
    (λ (e : length bs % w ≡ 0).
    let l : j < length bs = rw (completed_to-whole w bs e) at h in
    rw (completed_to-whole w bs e) (sym (completed_bit-inside bs j l)))
    (λ (e : length bs % w ≢ 0).
    let l : j < length (bs ++ 1 ∷ replicate (w - 1 - length bs % w) 0) = rw (completed_to-part w bs e) at h in
    let m = simp (length-append, length-replicate) at l in
    rw (completed_to-part w bs e) (index-tail bs (w - 1 - length bs % w) j (omega arith)))
    (cases_eq (length bs % w) 0)

-- w numbers of a list from place a on, where f gives each
pub part-by_index : (xs : List ℕ) (f : ℕ → ℕ) (a w : ℕ) → a + w ≤ length xs
    → ((j : ℕ) → j < length xs → slice_index xs j ≡ f j)
    → take w (drop a xs) ≡ map (λ i. f (a + i)) (range_with_len 0 w)
part-by_index xs f a w h same =
    let d : length (drop a xs) ≡ length xs - a = length-drop a xs in
    let n : length (take w (drop a xs)) ≡ w = length-take-le w (drop a xs) (omega arith) in
    let m : length (map (λ i. f (a + i)) (range_with_len 0 w)) ≡ w = length-map-range_with_len (λ i. f (a + i)) 0 w in
    ext_get_or 0 (take w (drop a xs)) (map (λ i. f (a + i)) (range_with_len 0 w)) (omega arith)
    (λ i l.
    get_or-take w (drop a xs) i 0 (omega arith) ∙ get_or-drop a xs i 0 ∙ same (a + i) (omega arith)
    ∙ sym (get_or-map-range_with_len (λ x. f (a + x)) 0 w i i 0 (omega arith) (omega arith)))

map-range-same : (f g : ℕ → ℕ) (a n : ℕ) → ((k : ℕ) → a ≤ k → k < a + n → f k ≡ g k)
    → map f (range_with_len a n) ≡ map g (range_with_len a n)
map-range-same f g a zero h = refl
map-range-same f g a (suc n) h =
    rw (h a (omega arith) (omega arith), map-range-same f g (a + 1) n (λ k l m. h k (omega arith) (omega arith))) refl

groups-by_place : (w a n : ℕ) (xs : List ℕ)
    → groups w n (drop (w * a) xs) ≡ map (λ k. number_of (take w (drop (w * k) xs))) (range_with_len a n)
unfolding groups
groups-by_place w a zero xs = refl
groups-by_place w a (suc n) xs =
    let s : a + 1 ≡ suc a = omega arith in
    let m : w * suc a ≡ w * a + w = mul-suc w a in
    let d : drop w (drop (w * a) xs) ≡ drop (w * (a + 1)) xs =
    drop-drop w (w * a) xs ∙ ap (λ (x : ℕ). drop x xs) (rw (s, m) refl) in
    rw (d, groups-by_place w (a + 1) n xs) refl

-- the numbers of groups, each by the bits of the completion
pub groups-by_index : (w c : ℕ) (bs : List ℕ) → w * c ≤ length (completed_to w bs)
    → groups w c (completed_to w bs)
    ≡ map (λ k. number_of (map (λ i. completed_bit bs (w * k + i)) (range_with_len 0 w))) (range_with_len 0 c)
groups-by_index w c bs h =
    let z : w * 0 ≡ 0 = omega arith in
    let p : groups w c (drop (w * 0) (completed_to w bs))
    ≡ map (λ k. number_of (take w (drop (w * k) (completed_to w bs)))) (range_with_len 0 c) =
    groups-by_place w 0 c (completed_to w bs) in
    let q : groups w c (completed_to w bs) ≡ map (λ k. number_of (take w (drop (w * k) (completed_to w bs))))
    (range_with_len 0 c) =
    ap (λ (x : ℕ). groups w c (drop x (completed_to w bs))) (sym z) ∙ p in
    q ∙ map-range-same (λ k. number_of (take w (drop (w * k) (completed_to w bs))))
    (λ k. number_of (map (λ i. completed_bit bs (w * k + i)) (range_with_len 0 w))) 0 c
    (λ k l m.
    let u : w * (k + 1) ≤ w * c = mul-le-mul_left w (omega arith) in
    let s : k + 1 ≡ suc k = omega arith in
    let v : w * (k + 1) ≡ w * k + w = rw s (mul-suc w k) in
    ap (λ (l : List ℕ). number_of l) (part-by_index (completed_to w bs) (λ j. completed_bit bs j) (w * k) w
    (omega arith) (λ j. index-completed_to w bs j)))

pub length-completed_to_bytes : (bs : List ℕ) → length (completed_to 8 bs) ≡ 8 * ((length bs + 7) / 8)
length-completed_to_bytes bs = ⊎_elim
    (λ (e : length bs % 8 ≡ 0). rw (completed_to-whole 8 bs e) (omega arith))
    (λ (e : length bs % 8 ≢ 0).
    rw (completed_to-part 8 bs e) (simp (length-append, length-replicate) (omega arith)))
    (cases_eq (length bs % 8) 0)

pub length-completed_to_digits : (bs : List ℕ) → length (completed_to 4 bs) ≡ 4 * ((length bs + 3) / 4)
length-completed_to_digits bs = ⊎_elim
    (λ (e : length bs % 4 ≡ 0). rw (completed_to-whole 4 bs e) (omega arith))
    (λ (e : length bs % 4 ≢ 0).
    rw (completed_to-part 4 bs e) (simp (length-append, length-replicate) (omega arith)))
    (cases_eq (length bs % 4) 0)

-- the completed bytes, byte by byte
pub completed-by_index : (bs : List ℕ) → completed bs ≡ map (completed_byte bs) (range_with_len 0 ((length bs + 7) / 8))
unfolding completed
completed-by_index bs = groups-by_index 8 ((length bs + 7) / 8) bs (le_of_eq (sym (length-completed_to_bytes bs)))

pub length-completed : (bs : List ℕ) → length (completed bs) ≡ (length bs + 7) / 8
length-completed bs = rw (completed-by_index bs) (length-map-range_with_len (completed_byte bs) 0 ((length bs + 7) / 8))

-- the completed bytes begin with the bits
pub bits_from-completed : (bs : List ℕ) → AreBits bs → bits_from (completed bs) 0 (length bs) ≡ bs
bits_from-completed bs h =
    rw (completed-by_index bs) (bits_from-completed_bytes bs ((length bs + 7) / 8) h (omega arith))

-- ---- bits by their completion

same-length : (a b : List ℕ) (n : ℕ) → length a < n → length b < n
    → ((j : ℕ) → j < n → completed_bit a j ≡ completed_bit b j) → length a ≤ length b
same-length a b n h l same = ⊎_elim
    (λ (m : length b < length a).
    let x : completed_bit a (length a) ≡ 1 = completed_bit-end a in
    let y : completed_bit b (length a) ≡ 0 = completed_bit-after b (length a) m in
    let z : completed_bit a (length a) ≡ completed_bit b (length a) = same (length a) h in
    absurd (omega arith))
    (λ (m : length a ≤ length b). m)
    (cases_lt (length b) (length a))

pub same-by_bits : (a b : List ℕ) → length a ≡ length b
    → ((j : ℕ) → j < length a → completed_bit a j ≡ completed_bit b j) → a ≡ b
same-by_bits a b e same =
    ext_get_or 0 a b e (λ j l. sym (completed_bit-inside a j l) ∙ same j l ∙ completed_bit-inside b j (omega arith))

pub same-by_completion : (a b : List ℕ) (n : ℕ) → length a < n → length b < n
    → ((j : ℕ) → j < n → completed_bit a j ≡ completed_bit b j) → a ≡ b
same-by_completion a b n h l same =
    let x : length a ≤ length b = same-length a b n h l same in
    let y : length b ≤ length a = same-length b a n l h (λ j m. sym (same j m)) in
    same-by_bits a b (omega arith) (λ j m. same j (omega arith))

completed_bits-same : (a b : List ℕ) (c j : ℕ) → AreBits a → AreBits b → (length a + 7) / 8 ≡ c → (length b + 7) / 8 ≡ c
    → completed a ≡ completed b → j < 8 * c → completed_bit a j ≡ completed_bit b j
completed_bits-same a b c j ha hb ea eb e l =
    let x : map (completed_byte a) (range_with_len 0 c) ≡ map (completed_byte b) (range_with_len 0 c) =
    ap (λ (m : ℕ). map (completed_byte a) (range_with_len 0 m)) (sym ea) ∙ sym (completed-by_index a) ∙ e
    ∙ completed-by_index b
    ∙ ap (λ (m : ℕ). map (completed_byte b) (range_with_len 0 m)) eb in
    sym (bit_of-completed_bytes a c j ha l) ∙ ap (λ (bytes : List ℕ). bit_of bytes j) x
    ∙ bit_of-completed_bytes b c j hb l

-- bits with the same completion, both of whole bytes or both not, are the same
pub completed-injective : (a b : List ℕ) → AreBits a → AreBits b
    → length a / 8 + (length a + 7) / 8 ≡ length b / 8 + (length b + 7) / 8 → completed a ≡ completed b → a ≡ b
completed-injective a b ha hb d e =
    let c : (length b + 7) / 8 ≡ (length a + 7) / 8 = omega arith in
    let same : (j : ℕ) → j < 8 * ((length a + 7) / 8) → completed_bit a j ≡ completed_bit b j =
    λ j l. completed_bits-same a b ((length a + 7) / 8) j ha hb refl c e l in
    ⊎_elim
    (λ (w : length a % 8 ≡ 0). same-by_bits a b (omega arith) (λ j l. same j (omega arith)))
    (λ (w : length a % 8 ≢ 0). same-by_completion a b (8 * ((length a + 7) / 8)) (omega arith) (omega arith) same)
    (cases_eq (length a % 8) 0)
