-- The text of at most 1023 bits: digits, and a mark where the number of bits is no multiple of four.
use Rattle.std.specs.Prelude.{◌≡◌, ◌≢◌, ℕ, zero, suc, ◌+◌, ◌-◌, ◌*◌, ◌/◌, ◌%◌, ◌<◌, ◌≤◌, ◌==◌, ◌||◌, Bool, true, false, not, List, [], ◌∷◌, ◌++◌, length, map, slice_index}
use Rattle.std.specs.Int.{bit_at}
use Rattle.std.specs.List.{range_with_len}
use Rattle.std.proofs.Common.{refl, sym, ap, ◌∙◌, arith, subst, ⊎_elim}
use Rattle.std.proofs.lemmas.Bool.{cases_eq, eqb-true, or_cases, true_from_ne_false, not-false}
use Rattle.std.proofs.lemmas.Bool.Decides.{nat_tests}
use Rattle.std.proofs.lemmas.List.{get_or_append_left, get_or-append_right, length-append}
use Rattle.std.proofs.lemmas.List.FromFn.{length-map-range_with_len, get_or-map-range_with_len}
use Rattle.bit_slice.specs.Bits.{AreBits, hex_digit, hex_text, HexText}
use Rattle.bit_slice.specs.HexLists.{AreDigits, EndsByMark, IsSpelling, completed_digit, completed_digit-lt, digit_number, is_hex_digit, is_hex_digit-hex_digit}
use Rattle.bit_slice.specs.HexTexts.{HexText-spelling, IsMark, bytes-of_text, hex_text-part, hex_text-whole, length-spelling_bits, plain-spelling, spelling_bits}
use Rattle.value_text.specs.Writes.{AreFew}

-- bits end by a mark after a digit that has a 1 among its last three bits: neither '0' (48) nor '8' (56)
abbrev pub is_markable : ℕ → Bool
is_markable digit = not (digit == 48 || digit == 56)

-- the last digit, and '0' where there is none
abbrev pub last_digit : List ℕ → ℕ
last_digit [] = 48
last_digit (d ∷ []) = d
last_digit (d ∷ e ∷ ds) = last_digit (e ∷ ds)

pub last_digit-index : (ds : List ℕ) → 0 < length ds → slice_index ds (length ds - 1) ≡ last_digit ds
last_digit-index [] h = absurd (omega arith)
last_digit-index (d ∷ []) h = refl
last_digit-index (d ∷ e ∷ ds) h =
    let s : suc (suc (length ds)) - 1 ≡ suc (length ds) = omega arith in
    let t : suc (length ds) - 1 ≡ length ds = omega arith in
    ap (λ (i : ℕ). slice_index (d ∷ e ∷ ds) i) s ∙ ap (λ (i : ℕ). slice_index (e ∷ ds) i) (sym t) ∙ last_digit-index (e ∷ ds) (omega arith)

pub last_digit-push : (ds : List ℕ) (c : ℕ) → last_digit (ds ++ c ∷ []) ≡ c
last_digit-push [] c = refl
last_digit-push (d ∷ []) c = refl
last_digit-push (d ∷ e ∷ ds) c = last_digit-push (e ∷ ds) c

-- ---- digits of which a mark may follow

zero_bits : (place : ℕ) → place < 3 → bit_at 0 place ≡ 0
zero_bits zero h = refl
zero_bits (suc zero) h = refl
zero_bits (suc (suc zero)) h = refl
zero_bits (suc (suc (suc place))) h = absurd (omega arith)

eight_bits : (place : ℕ) → place < 3 → bit_at 8 place ≡ 0
eight_bits zero h = refl
eight_bits (suc zero) h = refl
eight_bits (suc (suc zero)) h = refl
eight_bits (suc (suc (suc place))) h = absurd (omega arith)

pub markable-bit : (d place : ℕ) → place < 3 → bit_at (digit_number d) place ≡ 1 → is_markable d ≡ true
markable-bit d place h one = true_from_ne_false (is_markable d) (λ f.
    ⊎_elim
    (λ (e : (d == 48) ≡ true).
    let s : bit_at (digit_number d) place ≡ 0 = ap (λ (x : ℕ). bit_at (digit_number x) place) (eqb-true d 48 e) ∙ zero_bits place h in
    absurd (omega arith))
    (λ (e : (d == 56) ≡ true).
    let s : bit_at (digit_number d) place ≡ 0 = ap (λ (x : ℕ). bit_at (digit_number x) place) (eqb-true d 56 e) ∙ eight_bits place h in
    absurd (omega arith))
    (or_cases (d == 48) (d == 56) (not-false (d == 48 || d == 56) f)))

markable-number : (d : ℕ) → is_hex_digit d ≡ true → is_markable d ≡ true → digit_number d % 8 ≢ 0
markable-number d h m = grind (arith, nat_tests)

record Marks (v : ℕ) : Type 0 where
  dropped : ℕ
  some : 0 < dropped
  few : dropped ≤ 3
  ends : EndsByMark v dropped

one-low : (v y : ℕ) → y + 1 < 2 → v % 2 ≡ 0 → bit_at v y ≡ 0
one-low v zero h e = omega arith
one-low v (suc y) h e = absurd (omega arith)

two-low : (v y : ℕ) → y + 1 < 3 → v % 4 ≡ 0 → bit_at v y ≡ 0
two-low v zero h e = omega arith
two-low v (suc zero) h e = omega arith
two-low v (suc (suc y)) h e = absurd (omega arith)

marks : (v : ℕ) → v % 8 ≢ 0 → Marks v
marks v h = ⊎_elim
    (λ (a : v % 2 ≡ 0). ⊎_elim
    (λ (b : v % 4 ≡ 0).
    record { dropped = 3; some = omega arith; few = omega arith; ends = record { one = omega arith; zeros = λ y l. two-low v y l b } })
    (λ (b : v % 4 ≢ 0).
    record { dropped = 2; some = omega arith; few = omega arith; ends = record { one = omega arith; zeros = λ y l. one-low v y l a } })
    (cases_eq (v % 4) 0))
    (λ (a : v % 2 ≢ 0).
    record { dropped = 1; some = omega arith; few = omega arith; ends = record { one = omega arith; zeros = λ y l. absurd (omega arith) } })
    (cases_eq (v % 2) 0)

-- ---- from digits to bits

-- the text is that of bits, at most so many
pub record WritesUpTo (most : ℕ) (text : List ℕ) : Type 0 where
  pub contents : List ℕ
  pub are_bits : AreBits contents
  pub size : length contents ≤ most
  pub whole : text ≡ hex_text contents

pub plain-up_to : (ds : List ℕ) → AreDigits ds → WritesUpTo (4 * length ds) ds
plain-up_to ds h =
    let t : HexText ds (spelling_bits ds 0) = HexText-spelling ds ds 0 (plain-spelling ds h) in
    let n : length (spelling_bits ds 0) ≡ 4 * length ds - 0 = length-spelling_bits ds 0 in
    record { contents = spelling_bits ds 0; are_bits = t.0; size = omega arith; whole = t.1 }

none_marked : is_markable (last_digit []) ≡ true → ⊥
none_marked e = cc

pub marked-up_to : (ds : List ℕ) → AreDigits ds → is_markable (last_digit ds) ≡ true → WritesUpTo (4 * length ds - 1) (ds ++ 95 ∷ [])
marked-up_to [] h m = absurd (none_marked m)
marked-up_to (d ∷ ds) h m =
    let at : slice_index (d ∷ ds) (length (d ∷ ds) - 1) ≡ last_digit (d ∷ ds) = last_digit-index (d ∷ ds) (omega arith) in
    let hex : is_hex_digit (last_digit (d ∷ ds)) ≡ true =
    ap (λ (c : ℕ). is_hex_digit c) (sym at) ∙ h (length (d ∷ ds) - 1) (omega arith) in
    let k = marks (digit_number (last_digit (d ∷ ds))) (markable-number (last_digit (d ∷ ds)) hex m) in
    let P : ℕ → Type 0 = λ c. EndsByMark (digit_number c) k.dropped in
    let some = k.some in
    let few = k.few in
    let s : IsSpelling ((d ∷ ds) ++ 95 ∷ []) (d ∷ ds) k.dropped = record {
      are_digits = h;
      few = few;
      some = λ z. omega arith;
      plain = λ z. absurd (omega arith);
      marked = λ z. refl;
      last = λ z. subst P (sym at) k.ends;
    } in
    let t : HexText ((d ∷ ds) ++ 95 ∷ []) (spelling_bits (d ∷ ds) k.dropped) = HexText-spelling ((d ∷ ds) ++ 95 ∷ []) (d ∷ ds) k.dropped s in
    let n : length (spelling_bits (d ∷ ds) k.dropped) ≡ 4 * length (d ∷ ds) - k.dropped = length-spelling_bits (d ∷ ds) k.dropped in
    record { contents = spelling_bits (d ∷ ds) k.dropped; are_bits = t.0; size = omega arith; whole = t.1 }

-- the text is that of at most 1023 bits
abbrev pub WritesBits : List ℕ → Type 0
WritesBits text = (key : List ℕ) × AreFew key × (text ≡ hex_text key)

few_of : (most : ℕ) (text : List ℕ) → most ≤ 1023 → WritesUpTo most text → WritesBits text
few_of most text l w = let size = w.size in (w.contents, (w.are_bits, omega arith), w.whole)

pub writes-plain : (ds : List ℕ) → AreDigits ds → length ds ≤ 255 → WritesBits ds
writes-plain ds h l = few_of (4 * length ds) ds (omega arith) (plain-up_to ds h)

pub writes-marked : (ds : List ℕ) → AreDigits ds → length ds ≤ 256 → is_markable (last_digit ds) ≡ true → WritesBits (ds ++ 95 ∷ [])
writes-marked ds h l m = few_of (4 * length ds - 1) (ds ++ 95 ∷ []) (omega arith) (marked-up_to ds h m)

-- ---- from bits to digits

-- the form of the text of so many bits
pub data DigitsForm (size : ℕ) (text : List ℕ) : Type 0 where
  plain_digits : AreDigits text → 4 * length text ≤ size → DigitsForm size text
  marked_digits : (ds : List ℕ) → text ≡ ds ++ 95 ∷ [] → AreDigits ds → 4 * length ds ≤ size + 3 → is_markable (last_digit ds) ≡ true → DigitsForm size text

pub data BitsForm (text : List ℕ) : Type 0 where
  plain : AreDigits text → length text ≤ 255 → BitsForm text
  marked : (ds : List ℕ) → text ≡ ds ++ 95 ∷ [] → AreDigits ds → length ds ≤ 256 → is_markable (last_digit ds) ≡ true → BitsForm text

abbrev digits_in : List ℕ → ℕ → List ℕ
digits_in bs n = map (λ k. hex_digit (completed_digit bs k)) (range_with_len 0 n)

are_digits-in : (bs : List ℕ) (n : ℕ) → AreBits bs → AreDigits (digits_in bs n)
are_digits-in bs n h i l =
    let f : ℕ → ℕ = λ k. hex_digit (completed_digit bs k) in
    let size : length (digits_in bs n) ≡ n = length-map-range_with_len f 0 n in
    ap (λ (c : ℕ). is_hex_digit c) (get_or-map-range_with_len f 0 n i i 0 (omega arith) (omega arith))
    ∙ is_hex_digit-hex_digit (completed_digit bs i) (completed_digit-lt bs i h)

last-markable : (bs ds : List ℕ) → AreBits bs → 0 < length ds → ds ++ 95 ∷ [] ≡ hex_text bs → is_markable (last_digit ds) ≡ true
last-markable bs ds h some e =
    let text : List ℕ = ds ++ 95 ∷ [] in
    let size : length text ≡ length ds + 1 = length-append ds (95 ∷ []) in
    let z : length ds - length ds ≡ 0 = omega arith in
    let byte : slice_index text (length ds) ≡ 95 =
    get_or-append_right ds (95 ∷ []) (length ds) (length ds) 0 refl (omega arith) ∙ ap (λ (k : ℕ). slice_index (95 ∷ []) k) z in
    let at : slice_index text (length ds - 1) ≡ last_digit ds = get_or_append_left ds (95 ∷ []) 0 (length ds - 1) (omega arith) ∙ last_digit-index ds some in
    ⊎_elim
    (λ (d : is_hex_digit (slice_index text (length ds)) ≡ true).
    let no : false ≡ true = ap (λ (c : ℕ). is_hex_digit c) (sym byte) ∙ d in
    absurd (cc))
    (λ (m : IsMark text (length ds)).
    markable-bit (last_digit ds) m.place m.few (ap (λ (c : ℕ). bit_at (digit_number c) m.place) (sym at) ∙ m.one))
    (bytes-of_text text bs (length ds) (h, e) (omega arith))

pub digits-form : (bs : List ℕ) → AreBits bs → DigitsForm (length bs) (hex_text bs)
digits-form bs h =
    let n : ℕ = (length bs + 3) / 4 in
    let size : length (digits_in bs n) ≡ n = length-map-range_with_len (λ k. hex_digit (completed_digit bs k)) 0 n in
    ⊎_elim
    (λ (e : length bs % 4 ≡ 0).
    let w : digits_in bs n ≡ hex_text bs = hex_text-whole bs n e refl in
    let P : List ℕ → Type 0 = λ t. DigitsForm (length bs) t in
    subst P w (plain_digits (are_digits-in bs n h) (omega arith)))
    (λ (e : length bs % 4 ≢ 0).
    let w : digits_in bs n ++ 95 ∷ [] ≡ hex_text bs = hex_text-part bs n e refl in
    marked_digits (digits_in bs n) (sym w) (are_digits-in bs n h) (omega arith) (last-markable bs (digits_in bs n) h (omega arith) w))
    (cases_eq (length bs % 4) 0)

few-form : (size : ℕ) (text : List ℕ) → size ≤ 1023 → DigitsForm size text → BitsForm text
few-form size text l (plain_digits h few) = plain h (omega arith)
few-form size text l (marked_digits ds e h few m) = marked ds e h (omega arith) m

pub bits-form : (bs : List ℕ) → AreFew bs → BitsForm (hex_text bs)
bits-form bs h = few-form (length bs) (hex_text bs) h.1 (digits-form bs h.0)
