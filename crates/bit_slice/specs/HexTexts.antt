-- Which texts spell bits, and which bits.
use Rattle.std.specs.Prelude.{◌≡◌, ◌≢◌, ℕ, ◌+◌, ◌-◌, ◌*◌, ◌/◌, ◌%◌, ◌^◌, ◌<◌, ◌≤◌, ◌⊎◌, true, false, List, [], ◌∷◌}
use Rattle.std.specs.Prelude.{◌++◌, length, map, take, drop, slice_index}
use Rattle.std.proofs.Common.{refl, sym, ap, ◌∙◌, arith, subst, ⊎_elim, inl, inr}
use Rattle.std.specs.List.{range_with_len}
use Rattle.std.specs.Int.{bit_at}
use Rattle.std.proofs.lemmas.Bool.{cases_lt, cases_eq}
use Rattle.std.proofs.lemmas.Bool.Decides.{nat_tests}
use Rattle.std.proofs.lemmas.List.{append-nil, append_assoc, get_or-append_right, get_or_append_left, length-append}
use Rattle.std.proofs.lemmas.List.{length-take-le, get_or-take, ext_get_or, take-take, take-append-drop, take_more}
use Rattle.std.proofs.lemmas.List.{take_all}
use Rattle.std.proofs.Math.Nat.{eq-or-lt_of_le}
use Rattle.std.proofs.Math.Seq.{take-append-add}
use Rattle.std.proofs.lemmas.List.FromFn.{length-map-range_with_len, get_or-map-range_with_len}
use Rattle.bit_slice.specs.Bits.{AreBits, spelled, completed_bit, hex_digit, hex_text, HexText, GoesOn, IsBadAt}
use Rattle.bit_slice.specs.BitLists.{AreBits-take}
use Rattle.bit_slice.specs.Completion.{completed_bit-inside, completed_bit-end, completed_bit-after, same-by_bits}
use Rattle.bit_slice.specs.Completion.{same-by_completion}
use Rattle.bit_slice.specs.HexLists.{is_hex_digit, digit_number, AreDigits, digit_bits, completed_digit, EndsByMark}
use Rattle.bit_slice.specs.HexLists.{IsSpelling, is_hex_digit-hex_digit, digit_number-hex_digit, hex_digit-digit_number}
use Rattle.bit_slice.specs.HexLists.{digit_number-lt, length-digit_bits, AreBits-digit_bits, index-digit_bits}
use Rattle.bit_slice.specs.HexLists.{digit_bits-push, take-spelled, number-by, bit_at-completed_digit}
use Rattle.bit_slice.specs.HexLists.{completed_digit-lt, mark, hex_text-by_index}

-- ---- a good text and its bits

-- the bits of a good text
abbrev pub spelling_bits : List ℕ → ℕ → List ℕ
spelling_bits digits k = take (4 * length digits - k) (digit_bits digits)

pub length-spelling_bits : (ds : List ℕ) (k : ℕ) → length (spelling_bits ds k) ≡ 4 * length ds - k
length-spelling_bits ds k =
    let l : length (digit_bits ds) ≡ 4 * length ds = length-digit_bits ds in
    length-take-le (4 * length ds - k) (digit_bits ds) (omega arith)

pub AreBits-spelling_bits : (ds : List ℕ) (k : ℕ) → AreBits (spelling_bits ds k)
AreBits-spelling_bits ds k = AreBits-take (4 * length ds - k) (digit_bits ds) (AreBits-digit_bits ds)

-- bit x of digit i, where the bits go on to it
spelling-inside : (ds : List ℕ) (k i x j : ℕ) → i < length ds → j + x ≡ 3 → 4 * i + x + k < 4 * length ds
    → bit_at (digit_number (slice_index ds i)) j ≡ completed_bit (spelling_bits ds k) (4 * i + x)
spelling-inside ds k i x j h e l =
    let n : length (spelling_bits ds k) ≡ 4 * length ds - k = length-spelling_bits ds k in
    sym (index-digit_bits ds i x j h e)
    ∙ sym (get_or-take (4 * length ds - k) (digit_bits ds) (4 * i + x) 0 (omega arith))
    ∙ sym (completed_bit-inside (spelling_bits ds k) (4 * i + x) (omega arith))

spelling-last : (ds : List ℕ) (k i x j : ℕ) → k ≤ 3 → 0 < k → i + 1 ≡ length ds → j + x ≡ 3
    → 4 * length ds ≤ 4 * i + x + k
    → EndsByMark (digit_number (slice_index ds (length ds - 1))) k
    → bit_at (digit_number (slice_index ds i)) j ≡ completed_bit (spelling_bits ds k) (4 * i + x)
spelling-last ds k i x j f s h e l m =
    let n : length (spelling_bits ds k) ≡ 4 * length ds - k = length-spelling_bits ds k in
    let p : i ≡ length ds - 1 = omega arith in
    let v : digit_number (slice_index ds i) ≡ digit_number (slice_index ds (length ds - 1)) =
    ap (λ (a : ℕ). digit_number (slice_index ds a)) p in
    ap (λ (a : ℕ). bit_at a j) v ∙ ⊎_elim
    (λ (t : j + 1 < k). m.zeros j t ∙ sym (completed_bit-after (spelling_bits ds k) (4 * i + x) (omega arith)))
    (λ (t : k ≤ j + 1).
    let q : j ≡ k - 1 = omega arith in
    let r : length (spelling_bits ds k) ≡ 4 * i + x = omega arith in
    ap (λ (a : ℕ). bit_at (digit_number (slice_index ds (length ds - 1))) a) q ∙ m.one
    ∙ sym (completed_bit-end (spelling_bits ds k)) ∙ ap (λ (a : ℕ). completed_bit (spelling_bits ds k) a) r)
    (cases_lt (j + 1) k)

spelling-bit : (text ds : List ℕ) (k i x j : ℕ) → IsSpelling text ds k → i < length ds → j + x ≡ 3
    → bit_at (digit_number (slice_index ds i)) j ≡ completed_bit (spelling_bits ds k) (4 * i + x)
spelling-bit text ds k i x j s h e = ⊎_elim
    (λ (l : 4 * i + x + k < 4 * length ds). spelling-inside ds k i x j h e l)
    (λ (l : 4 * length ds ≤ 4 * i + x + k).
    let f : k ≤ 3 = s.few in
    spelling-last ds k i x j s.few (omega arith) (omega arith) e l (s.last (omega arith)))
    (cases_lt (4 * i + x + k) (4 * length ds))

spelling-digit : (text ds : List ℕ) (k i : ℕ) → IsSpelling text ds k → i < length ds
    → completed_digit (spelling_bits ds k) i ≡ digit_number (slice_index ds i)
spelling-digit text ds k i s h =
    sym (number-by 4 (digit_number (slice_index ds i)) (λ x. completed_bit (spelling_bits ds k) (4 * i + x))
    (digit_number-lt (slice_index ds i) (s.are_digits i h))
    (λ x j e. spelling-bit text ds k i x j s h (omega arith)))

spelling-digits : (text ds : List ℕ) (k : ℕ) → IsSpelling text ds k
    → map (λ i. hex_digit (completed_digit (spelling_bits ds k) i)) (range_with_len 0 (length ds)) ≡ ds
spelling-digits text ds k s =
    let l : length (map (λ i. hex_digit (completed_digit (spelling_bits ds k) i)) (range_with_len 0 (length ds)))
    ≡ length ds =
    length-map-range_with_len (λ i. hex_digit (completed_digit (spelling_bits ds k) i)) 0 (length ds) in
    ext_get_or 0 (map (λ i. hex_digit (completed_digit (spelling_bits ds k) i)) (range_with_len 0 (length ds))) ds l
    (λ i h.
    let g : i < length ds = omega arith in
    get_or-map-range_with_len (λ x. hex_digit (completed_digit (spelling_bits ds k) x)) 0 (length ds) i i 0 g
    (omega arith)
    ∙ ap (λ (d : ℕ). hex_digit d) (spelling-digit text ds k i s g)
    ∙ hex_digit-digit_number (slice_index ds i) (s.are_digits i g))

mark-none : (bs : List ℕ) → length bs % 4 ≡ 0 → mark bs ≡ []
mark-none bs h = grind (arith, nat_tests)

mark-some : (bs : List ℕ) → (length bs % 4 ≡ 0 → ⊥) → mark bs ≡ 95 ∷ []
mark-some bs h = grind (arith, nat_tests)

pub HexText-spelling : (text ds : List ℕ) (k : ℕ) → IsSpelling text ds k → HexText text (spelling_bits ds k)
HexText-spelling text ds k s =
    let n : length (spelling_bits ds k) ≡ 4 * length ds - k = length-spelling_bits ds k in
    let f : k ≤ 3 = s.few in
    let c : (length (spelling_bits ds k) + 3) / 4 ≡ length ds = omega arith in
    let t : hex_text (spelling_bits ds k) ≡ ds ++ mark (spelling_bits ds k) =
    hex_text-by_index (spelling_bits ds k)
    ∙ ap (λ (a : ℕ). map (λ i. hex_digit (completed_digit (spelling_bits ds k) i)) (range_with_len 0 a) ++ mark
    (spelling_bits ds k)) c
    ∙ ap (λ (l : List ℕ). l ++ mark (spelling_bits ds k)) (spelling-digits text ds k s) in (
      AreBits-spelling_bits ds k,
      ⊎_elim
          (λ (e : k ≡ 0). s.plain e
          ∙ sym (t ∙ ap (λ (l : List ℕ). ds ++ l) (mark-none (spelling_bits ds k) (omega arith)) ∙ append-nil ds))
          (λ (e : k ≢ 0).
          let g : 0 < length ds = s.some (omega arith) in
          s.marked (omega arith)
          ∙ sym (t ∙ ap (λ (l : List ℕ). ds ++ l) (mark-some (spelling_bits ds k) (omega arith))))
          (cases_eq k 0),
    )

-- ---- the text of bits, by its digits

pub hex_text-whole : (bs : List ℕ) (n : ℕ) → length bs % 4 ≡ 0 → n ≡ (length bs + 3) / 4
    → map (λ k. hex_digit (completed_digit bs k)) (range_with_len 0 n) ≡ hex_text bs
hex_text-whole bs n h e =
    ap (λ (m : ℕ). map (λ k. hex_digit (completed_digit bs k)) (range_with_len 0 m)) e
    ∙ sym (hex_text-by_index bs
    ∙ ap (λ (l : List ℕ). map (λ k. hex_digit (completed_digit bs k)) (range_with_len 0 ((length bs + 3) / 4)) ++ l)
    (mark-none bs h)
    ∙ append-nil (map (λ k. hex_digit (completed_digit bs k)) (range_with_len 0 ((length bs + 3) / 4))))

pub hex_text-part : (bs : List ℕ) (n : ℕ) → (length bs % 4 ≡ 0 → ⊥) → n ≡ (length bs + 3) / 4
    → map (λ k. hex_digit (completed_digit bs k)) (range_with_len 0 n) ++ 95 ∷ [] ≡ hex_text bs
hex_text-part bs n h e =
    ap (λ (m : ℕ). map (λ k. hex_digit (completed_digit bs k)) (range_with_len 0 m) ++ 95 ∷ []) e
    ∙ sym (hex_text-by_index bs
    ∙ ap (λ (l : List ℕ). map (λ k. hex_digit (completed_digit bs k)) (range_with_len 0 ((length bs + 3) / 4)) ++ l)
    (mark-some bs h))

-- ---- the bytes of a good text

-- byte i is an underscore: the last, after a digit of which it drops one 1 bit
pub record IsMark (text : List ℕ) (i : ℕ) : Type 0 where
  pub byte : slice_index text i ≡ 95
  pub last : i + 1 ≡ length text
  pub some : 0 < i
  pub place : ℕ
  pub few : place < 3
  pub one : bit_at (digit_number (slice_index text (i - 1))) place ≡ 1

digit-at : (bs : List ℕ) (i : ℕ) → i < (length bs + 3) / 4
    → slice_index (hex_text bs) i ≡ hex_digit (completed_digit bs i)
digit-at bs i h =
    let f : ℕ → ℕ = λ k. hex_digit (completed_digit bs k) in
    let l : length (map f (range_with_len 0 ((length bs + 3) / 4))) ≡ (length bs + 3) / 4 =
    length-map-range_with_len f 0 ((length bs + 3) / 4) in
    ap (λ (t : List ℕ). slice_index t i) (hex_text-by_index bs)
    ∙ get_or_append_left (map f (range_with_len 0 ((length bs + 3) / 4))) (mark bs) 0 i (omega arith)
    ∙ get_or-map-range_with_len f 0 ((length bs + 3) / 4) i i 0 h (omega arith)

mark-at : (bs : List ℕ) → (length bs % 4 ≡ 0 → ⊥) → slice_index (hex_text bs) ((length bs + 3) / 4) ≡ 95
mark-at bs h =
    let f : ℕ → ℕ = λ k. hex_digit (completed_digit bs k) in
    let l : length (map f (range_with_len 0 ((length bs + 3) / 4))) ≡ (length bs + 3) / 4 =
    length-map-range_with_len f 0 ((length bs + 3) / 4) in
    let z : (length bs + 3) / 4 - (length bs + 3) / 4 ≡ 0 = omega arith in
    ap (λ (t : List ℕ). slice_index t ((length bs + 3) / 4)) (hex_text-by_index bs)
    ∙ get_or-append_right (map f (range_with_len 0 ((length bs + 3) / 4))) (mark bs) ((length bs + 3) / 4)
    ((length bs + 3) / 4) 0 l (omega arith)
    ∙ rw (z, mark-some bs h) refl

length-hex_text-whole : (bs : List ℕ) → length bs % 4 ≡ 0 → length (hex_text bs) ≡ (length bs + 3) / 4
length-hex_text-whole bs h =
    let f : ℕ → ℕ = λ k. hex_digit (completed_digit bs k) in
    ap length (hex_text-by_index bs ∙ ap (λ (l : List ℕ). map f (range_with_len 0 ((length bs + 3) / 4)) ++ l)
    (mark-none bs h)
    ∙ append-nil (map f (range_with_len 0 ((length bs + 3) / 4))))
    ∙ length-map-range_with_len f 0 ((length bs + 3) / 4)

length-hex_text-part : (bs : List ℕ) → (length bs % 4 ≡ 0 → ⊥) → length (hex_text bs) ≡ (length bs + 3) / 4 + 1
length-hex_text-part bs h =
    let f : ℕ → ℕ = λ k. hex_digit (completed_digit bs k) in
    let l : length (map f (range_with_len 0 ((length bs + 3) / 4))) ≡ (length bs + 3) / 4 =
    length-map-range_with_len f 0 ((length bs + 3) / 4) in
    ap length (hex_text-by_index bs ∙ ap (λ (l : List ℕ). map f (range_with_len 0 ((length bs + 3) / 4)) ++ l)
    (mark-some bs h))
    ∙ length-append (map f (range_with_len 0 ((length bs + 3) / 4))) (95 ∷ []) ∙ omega arith

digit-is : (bs : List ℕ) (i : ℕ) → AreBits bs → i < (length bs + 3) / 4
    → is_hex_digit (slice_index (hex_text bs) i) ≡ true
digit-is bs i h l =
    ap (λ (c : ℕ). is_hex_digit c) (digit-at bs i l)
    ∙ is_hex_digit-hex_digit (completed_digit bs i) (completed_digit-lt bs i h)

digit-number : (bs : List ℕ) (i : ℕ) → AreBits bs → i < (length bs + 3) / 4
    → digit_number (slice_index (hex_text bs) i) ≡ completed_digit bs i
digit-number bs i h l =
    ap (λ (c : ℕ). digit_number c) (digit-at bs i l)
    ∙ digit_number-hex_digit (completed_digit bs i) (completed_digit-lt bs i h)

mark-is : (bs : List ℕ) → AreBits bs → (length bs % 4 ≡ 0 → ⊥) → IsMark (hex_text bs) ((length bs + 3) / 4)
mark-is bs h m =
    let n : length (hex_text bs) ≡ (length bs + 3) / 4 + 1 = length-hex_text-part bs m in
    let d : digit_number (slice_index (hex_text bs) ((length bs + 3) / 4 - 1))
    ≡ completed_digit bs ((length bs + 3) / 4 - 1) = digit-number bs ((length bs + 3) / 4 - 1) h (omega arith) in
    let e : 4 * ((length bs + 3) / 4 - 1) + length bs % 4 ≡ length bs = omega arith in
    record {
      byte = mark-at bs m;
      last = omega arith;
      some = omega arith;
      place = 3 - length bs % 4;
      few = omega arith;
      one = ap (λ (v : ℕ). bit_at v (3 - length bs % 4)) d
          ∙ bit_at-completed_digit bs ((length bs + 3) / 4 - 1) (length bs % 4) (3 - length bs % 4) h (omega arith)
          ∙ ap (λ (j : ℕ). completed_bit bs j) e ∙ completed_bit-end bs;
    }

bytes-of : (bs : List ℕ) (i : ℕ) → AreBits bs → i < length (hex_text bs)
    → (is_hex_digit (slice_index (hex_text bs) i) ≡ true) ⊎ IsMark (hex_text bs) i
bytes-of bs i h l = ⊎_elim
    (λ (d : i < (length bs + 3) / 4). inl (digit-is bs i h d))
    (λ (d : (length bs + 3) / 4 ≤ i). ⊎_elim
    (λ (e : length bs % 4 ≡ 0). let n : length (hex_text bs) ≡ (length bs + 3) / 4 = length-hex_text-whole bs e in
    absurd (omega arith))
    (λ (e : length bs % 4 ≢ 0).
    let n : length (hex_text bs) ≡ (length bs + 3) / 4 + 1 = length-hex_text-part bs e in
    let p : (length bs + 3) / 4 ≡ i = omega arith in
    let P : ℕ → Type 0 = λ m. IsMark (hex_text bs) m in
    inr (subst P p (mark-is bs h e)))
    (cases_eq (length bs % 4) 0))
    (cases_lt i ((length bs + 3) / 4))

pub bytes-of_text : (text bs : List ℕ) (i : ℕ) → HexText text bs → i < length text
    → (is_hex_digit (slice_index text i) ≡ true) ⊎ IsMark text i
bytes-of_text text bs i h l =
    let P : List ℕ → Type 0 = λ t. (is_hex_digit (slice_index t i) ≡ true) ⊎ IsMark t i in
    let n : i < length (hex_text bs) = let e = ap length h.1 in omega arith in
    subst P (sym h.1) (bytes-of bs i h.0 n)

-- ---- where a text cannot go on

pub GoesOn-text : (text bs : List ℕ) → HexText text bs → GoesOn text
GoesOn-text text bs h =
    let P : List ℕ → Type 0 = λ t. HexText t bs in
    ([], bs, subst P (sym (append-nil text)) h)

pub GoesOn-take : (n : ℕ) (front : List ℕ) → GoesOn front → GoesOn (take n front)
GoesOn-take n front g =
    let e : front ++ g.0 ≡ take n front ++ (drop n front ++ g.0) =
    ap (λ (l : List ℕ). l ++ g.0) (sym (take-append-drop n front)) ∙ append_assoc (take n front) (drop n front) g.0 in
    let P : List ℕ → Type 0 = λ t. HexText t g.1 in
    (drop n front ++ g.0, g.1, subst P e g.2)

pub GoesOn-good : (n : ℕ) (text bs : List ℕ) → HexText text bs → GoesOn (take n text)
GoesOn-good n text bs h = GoesOn-take n text (GoesOn-text text bs h)

pub bad-only : (text bs : List ℕ) (p : ℕ) → HexText text bs → IsBadAt text p → ⊥
bad-only text bs p h b = b.stuck (GoesOn-good (p + 1) text bs h)

not-before : (text : List ℕ) (p q : ℕ) → IsBadAt text p → IsBadAt text q → p < q → ⊥
not-before text p q a b h =
    let e : take (p + 1) (take q text) ≡ take (p + 1) text = take-take (p + 1) q text (omega arith) in
    let P : List ℕ → Type 0 = λ t. GoesOn t in
    a.stuck (subst P e (GoesOn-take (p + 1) (take q text) b.before))

pub bad-unique : (text : List ℕ) (p q : ℕ) → IsBadAt text p → IsBadAt text q → p ≡ q
bad-unique text p q a b = ⊎_elim
    (λ (h : p < q). absurd (not-before text p q a b h))
    (λ (h : q ≤ p). ⊎_elim
    (λ (e : q ≡ p). sym e)
    (λ (l : q < p). absurd (not-before text q p b a l))
    (eq-or-lt_of_le h))
    (cases_lt p q)

-- what a byte of a text that goes on is
pub byte-of_front : (text : List ℕ) (p i : ℕ) → p < length text → i ≤ p → (g : GoesOn (take (p + 1) text))
    → (is_hex_digit (slice_index text i) ≡ true)
    ⊎ ((slice_index text i ≡ 95) × (i ≡ p) × (0 < i) ×
    ((y : ℕ) × (y < 3) × (bit_at (digit_number (slice_index text (i - 1))) y ≡ 1)))
byte-of_front text p i h l g =
    let n : length (take (p + 1) text) ≡ p + 1 = length-take-le (p + 1) text (omega arith) in
    let m : length (take (p + 1) text ++ g.0) ≡ p + 1 + length g.0 =
    length-append (take (p + 1) text) g.0 ∙ omega arith in
    let at : (k : ℕ) → k ≤ p → slice_index (take (p + 1) text ++ g.0) k ≡ slice_index text k =
    λ k w. get_or_append_left (take (p + 1) text) g.0 0 k (omega arith) ∙ get_or-take (p + 1) text k 0 (omega arith) in
    ⊎_elim
    (λ (d : is_hex_digit (slice_index (take (p + 1) text ++ g.0) i) ≡ true). inl (ap (λ (c : ℕ). is_hex_digit c)
    (sym (at i l)) ∙ d))
    (λ (k : IsMark (take (p + 1) text ++ g.0) i).
    let s : 0 < i = k.some in
    let t : i + 1 ≡ length (take (p + 1) text ++ g.0) = k.last in
    inr (
      sym (at i l) ∙ k.byte,
      omega arith,
      k.some,
      (
        k.place,
        k.few,
        ap (λ (c : ℕ). bit_at (digit_number c) k.place) (sym (at (i - 1) (omega arith))) ∙ k.one,
      ),
    ))
    (bytes-of_text (take (p + 1) text ++ g.0) g.1 i g.2 (omega arith))

-- ---- one text spells one list of bits

digits-same : (a b : List ℕ) (k : ℕ) → AreBits a → AreBits b → hex_text a ≡ hex_text b → k < (length a + 3) / 4
    → k < (length b + 3) / 4
    → completed_digit a k ≡ completed_digit b k
digits-same a b k ha hb e l m =
    sym (digit-number a k ha l) ∙ ap (λ (t : List ℕ). digit_number (slice_index t k)) e ∙ digit-number b k hb m

bits-same : (a b : List ℕ) (j : ℕ) → AreBits a → AreBits b → hex_text a ≡ hex_text b → j < 4 * ((length a + 3) / 4)
    → (length a + 3) / 4 ≡ (length b + 3) / 4
    → completed_bit a j ≡ completed_bit b j
bits-same a b j ha hb e l m =
    let q : 4 * (j / 4) + j % 4 ≡ j = omega arith in
    let d : completed_digit a (j / 4) ≡ completed_digit b (j / 4) =
    digits-same a b (j / 4) ha hb e (omega arith) (omega arith) in
    ap (λ (x : ℕ). completed_bit a x) (sym q)
    ∙ sym (bit_at-completed_digit a (j / 4) (j % 4) (3 - j % 4) ha (omega arith))
    ∙ ap (λ (v : ℕ). bit_at v (3 - j % 4)) d
    ∙ bit_at-completed_digit b (j / 4) (j % 4) (3 - j % 4) hb (omega arith)
    ∙ ap (λ (x : ℕ). completed_bit b x) q

not-mixed : (a b : List ℕ) → AreBits a → AreBits b → hex_text a ≡ hex_text b → (length a % 4 ≡ 0 → ⊥) → length b % 4 ≡ 0
    → ⊥
not-mixed a b ha hb e p w =
    let n : length (hex_text a) ≡ (length a + 3) / 4 + 1 = length-hex_text-part a p in
    let m : length (hex_text b) ≡ (length b + 3) / 4 = length-hex_text-whole b w in
    let l : length (hex_text a) ≡ length (hex_text b) = ap length e in
    let x : slice_index (hex_text a) ((length a + 3) / 4) ≡ 95 = mark-at a p in
    let y : is_hex_digit (slice_index (hex_text b) ((length a + 3) / 4)) ≡ true =
    digit-is b ((length a + 3) / 4) hb (omega arith) in
    let z : is_hex_digit 95 ≡ true =
    ap (λ (c : ℕ). is_hex_digit c) (sym x ∙ ap (λ (t : List ℕ). slice_index t ((length a + 3) / 4)) e) ∙ y in
    (cc)

pub hex_text-injective : (a b : List ℕ) → AreBits a → AreBits b → hex_text a ≡ hex_text b → a ≡ b
hex_text-injective a b ha hb e = ⊎_elim
    (λ (u : length a % 4 ≡ 0). ⊎_elim
    (λ (v : length b % 4 ≡ 0).
    let n : length (hex_text a) ≡ (length a + 3) / 4 = length-hex_text-whole a u in
    let m : length (hex_text b) ≡ (length b + 3) / 4 = length-hex_text-whole b v in
    let l : length (hex_text a) ≡ length (hex_text b) = ap length e in
    same-by_bits a b (omega arith) (λ j h. bits-same a b j ha hb e (omega arith) (omega arith)))
    (λ (v : length b % 4 ≢ 0). absurd (not-mixed b a hb ha (sym e) v u))
    (cases_eq (length b % 4) 0))
    (λ (u : length a % 4 ≢ 0). ⊎_elim
    (λ (v : length b % 4 ≡ 0). absurd (not-mixed a b ha hb e u v))
    (λ (v : length b % 4 ≢ 0).
    let n : length (hex_text a) ≡ (length a + 3) / 4 + 1 = length-hex_text-part a u in
    let m : length (hex_text b) ≡ (length b + 3) / 4 + 1 = length-hex_text-part b v in
    let l : length (hex_text a) ≡ length (hex_text b) = ap length e in
    let c : (length a + 3) / 4 ≡ (length b + 3) / 4 = omega arith in
    same-by_completion a b (4 * ((length a + 3) / 4)) (omega arith) (omega arith) (λ j h. bits-same a b j ha hb e h c))
    (cases_eq (length b % 4) 0))
    (cases_eq (length a % 4) 0)

pub HexText-unique : (text a b : List ℕ) → HexText text a → HexText text b → a ≡ b
HexText-unique text a b h l = hex_text-injective a b h.0 l.0 (sym h.1 ∙ l.1)

-- ---- where a text that is cut into digits and a rest cannot go on

pub plain-spelling : (ds : List ℕ) → AreDigits ds → IsSpelling ds ds 0
plain-spelling ds h = record {
  are_digits = h;
  few = omega arith;
  some = λ s. absurd (omega arith);
  plain = λ e. refl;
  marked = λ s. absurd (omega arith);
  last = λ s. absurd (omega arith);
}

digits-go-on : (text : List ℕ) (n : ℕ) → AreDigits (take n text) → GoesOn (take n text)
digits-go-on text n h =
    GoesOn-text (take n text) (spelling_bits (take n text) 0)
    (HexText-spelling (take n text) (take n text) 0 (plain-spelling (take n text) h))

pub bad-byte : (text : List ℕ) (n : ℕ) → n < length text → AreDigits (take n text)
    → is_hex_digit (slice_index text n) ≡ false
    → (slice_index text n ≡ 95 → n ≡ 0) → IsBadAt text n
bad-byte text n h d e s = record {
  inside = h;
  before = digits-go-on text n d;
  stuck = λ g. ⊎_elim
      (λ (t : is_hex_digit (slice_index text n) ≡ true). absurd (cc))
      (λ (m : (slice_index text n ≡ 95) × (n ≡ n) × (0 < n) ×
      ((y : ℕ) × (y < 3) × (bit_at (digit_number (slice_index text (n - 1))) y ≡ 1))).
      let z : n ≡ 0 = s m.0 in
      let p : 0 < n = m.2 in
      absurd (omega arith))
      (byte-of_front text n n h (omega arith) g);
}

pub bad-mark : (text : List ℕ) (n : ℕ) → n < length text → AreDigits (take n text)
    → is_hex_digit (slice_index text n) ≡ false
    → ((y : ℕ) → y < 3 → bit_at (digit_number (slice_index text (n - 1))) y ≡ 0) → IsBadAt text n
bad-mark text n h d e s = record {
  inside = h;
  before = digits-go-on text n d;
  stuck = λ g. ⊎_elim
      (λ (t : is_hex_digit (slice_index text n) ≡ true). absurd (cc))
      (λ (m : (slice_index text n ≡ 95) × (n ≡ n) × (0 < n) ×
      ((y : ℕ) × (y < 3) × (bit_at (digit_number (slice_index text (n - 1))) y ≡ 1))).
      let z : bit_at (digit_number (slice_index text (n - 1))) m.3.0 ≡ 0 = s m.3.0 m.3.1 in
      let o : bit_at (digit_number (slice_index text (n - 1))) m.3.0 ≡ 1 = m.3.2 in
      absurd (omega arith))
      (byte-of_front text n n h (omega arith) g);
}

pub marked-spelling : (text : List ℕ) (n k : ℕ) → n < length text → 0 < n → AreDigits (take n text)
    → slice_index text n ≡ 95 → 0 < k → k ≤ 3
    → EndsByMark (digit_number (slice_index text (n - 1))) k → IsSpelling (take (n + 1) text) (take n text) k
marked-spelling text n k h s d e p f m =
    let l : length (take n text) ≡ n = length-take-le n text (omega arith) in
    let q : slice_index (take n text) (length (take n text) - 1) ≡ slice_index text (n - 1) =
    ap (λ (i : ℕ). slice_index (take n text) (i - 1)) l ∙ get_or-take n text (n - 1) 0 (omega arith) in
    let P : ℕ → Type 0 = λ c. EndsByMark (digit_number c) k in
    record {
      are_digits = d;
      few = f;
      some = λ w. omega arith;
      plain = λ z. absurd (omega arith);
      marked = λ w. take_more text n 0 h ∙ ap (λ (c : ℕ). take n text ++ c ∷ []) e;
      last = λ w. subst P (sym q) m;
    }

pub bad-after : (text : List ℕ) (n k : ℕ) → n + 1 < length text → slice_index text n ≡ 95
    → IsSpelling (take (n + 1) text) (take n text) k → IsBadAt text (n + 1)
bad-after text n k h e s = record {
  inside = h;
  before = GoesOn-text (take (n + 1) text) (spelling_bits (take n text) k)
      (HexText-spelling (take (n + 1) text) (take n text) k s);
  stuck = λ g. ⊎_elim
      (λ (t : is_hex_digit (slice_index text n) ≡ true).
      let z : is_hex_digit 95 ≡ true = ap (λ (c : ℕ). is_hex_digit c) (sym e) ∙ t in
      absurd (cc))
      (λ (m : (slice_index text n ≡ 95) × (n ≡ n + 1) × (0 < n) ×
      ((y : ℕ) × (y < 3) × (bit_at (digit_number (slice_index text (n - 1))) y ≡ 1))).
      let z : n ≡ n + 1 = m.1 in
      absurd (omega arith))
      (byte-of_front text (n + 1) n h (omega arith) g);
}

-- ---- digits that are read one after another

pub digit_bits-none : (init : List ℕ) → init ≡ init ++ digit_bits []
unfolding digit_bits
digit_bits-none init = sym (append-nil init)

pub length-pushed : (w init ds : List ℕ) (i : ℕ) → w ≡ init ++ digit_bits (take i ds) → i ≤ length ds
    → length w ≡ length init + 4 * i
length-pushed w init ds i e h =
    let l : length (take i ds) ≡ i = length-take-le i ds h in
    let d : length (digit_bits (take i ds)) ≡ 4 * length (take i ds) = length-digit_bits (take i ds) in
    ap length e ∙ length-append init (digit_bits (take i ds)) ∙ omega arith

pub digit-pushed : (new w init ds : List ℕ) (i v : ℕ) → new ≡ w ++ spelled 4 v → v ≡ digit_number (slice_index ds i)
    → w ≡ init ++ digit_bits (take i ds) → i < length ds → new ≡ init ++ digit_bits (take (i + 1) ds)
digit-pushed new w init ds i v n e f h =
    n ∙ ap (λ (x : List ℕ). x ++ spelled 4 v) f ∙ append_assoc init (digit_bits (take i ds)) (spelled 4 v)
    ∙ ap (λ (x : ℕ). init ++ (digit_bits (take i ds) ++ spelled 4 x)) e
    ∙ ap (λ (x : List ℕ). init ++ x) (sym (digit_bits-push (take i ds) (slice_index ds i)))
    ∙ ap (λ (x : List ℕ). init ++ digit_bits x) (sym (take_more ds i 0 h))

pub spelling_bits-none : (ds : List ℕ) (k : ℕ) → length ds ≡ 0 → spelling_bits ds k ≡ []
unfolding digit_bits
spelling_bits-none [] k h = take_all (4 * 0 - k) [] (omega arith)
spelling_bits-none (d ∷ ds) k h = absurd (omega arith)

pub spelling_bits-last : (ds : List ℕ) (k : ℕ) → 0 < length ds → k ≤ 3
    → digit_bits (take (length ds - 1) ds) ++ spelled (4 - k) (digit_number (slice_index ds (length ds - 1)) / 2 ^ k)
    ≡ spelling_bits ds k
spelling_bits-last ds k h f =
    let n : length ds - 1 + 1 ≡ length ds = omega arith in
    let l : length (take (length ds - 1) ds) ≡ length ds - 1 = length-take-le (length ds - 1) ds (omega arith) in
    let d : length (digit_bits (take (length ds - 1) ds)) ≡ 4 * length (take (length ds - 1) ds) =
    length-digit_bits (take (length ds - 1) ds) in
    let whole : ds ≡ take (length ds - 1) ds ++ slice_index ds (length ds - 1) ∷ [] =
    sym (take_all (length ds - 1 + 1) ds (omega arith)) ∙ take_more ds (length ds - 1) 0 (omega arith) in
    let bits : digit_bits ds ≡ digit_bits (take (length ds - 1) ds) ++ spelled 4
    (digit_number (slice_index ds (length ds - 1))) =
    ap (λ (x : List ℕ). digit_bits x) whole
    ∙ digit_bits-push (take (length ds - 1) ds) (slice_index ds (length ds - 1)) in
    let m : 4 * length ds - k ≡ length (digit_bits (take (length ds - 1) ds)) + (4 - k) = omega arith in
    let q : 4 - (4 - k) ≡ k = omega arith in
    sym (ap (λ (x : List ℕ). take (4 * length ds - k) x) bits
    ∙ ap (λ (x : ℕ). take x
    (digit_bits (take (length ds - 1) ds) ++ spelled 4 (digit_number (slice_index ds (length ds - 1))))) m
    ∙ take-append-add (digit_bits (take (length ds - 1) ds)) (spelled 4 (digit_number (slice_index ds (length ds - 1))))
    (4 - k)
    ∙ ap (λ (x : List ℕ). digit_bits (take (length ds - 1) ds) ++ x)
    (take-spelled (4 - k) 4 (digit_number (slice_index ds (length ds - 1))) (omega arith))
    ∙ ap (λ (x : ℕ). digit_bits (take (length ds - 1) ds) ++ spelled (4 - k)
    (digit_number (slice_index ds (length ds - 1)) / 2 ^ x)) q)
