-- The raw bytes of a file whose numbers are bytes are bytes, in each of the three forms.
use Rattle.std.proofs.Common.{◌≡◌, ◌≢◌, ◌∙◌, inl, inr, Bool, true, false, if◌then◌else◌, ◌&&◌, ◌||◌, ◌==◌, nat_lt, ℕ, zero, suc, ◌+◌, ◌*◌, ◌/◌, ◌%◌, ◌<◌, List, [], ◌∷◌, ◌++◌, length, take, drop, refl, sym, ap, subst, arith}
use Rattle.std.specs.Prelude.{Option, Some, None, Result, Ok, Err, slice_index, slice_set}
use Rattle.std.proofs.lemmas.Bool.{cases_Bool, cases_lt, cases_eq, and_parts, or_cases, eqb-true, ltb-true}
use Rattle.std.proofs.lemmas.Bool.Decides.{nat_tests}
use Rattle.std.proofs.lemmas.List.{get_or-set_same, get_or-set_other, set_past}
use Rattle.hex.specs.declared.error.FromHexError.{FromHexError}
use Rattle.hex.specs.Hex.{hex_digit_value, decode_pairs, decode_of as hex_decoded}
use Rattle.base64.specs.declared.decode.DecodeError.{DecodeError}
use Rattle.base64.specs.Decode.{or_else, symbol_error, group_error, group_bytes, groups_error, groups_bytes, groups_before_last, lone_error, push_leftover, scan_steps, scan_last, scan_bytes, suffix_error, suffix_bytes, no_leftover, decode_group, decode_outcome, decoded_bytes}
use Rattle.base64.specs.Engines.{standard}
use Rattle.base64.specs.GeneralPurpose.{decode_of as base64_decoded}
use Rattle.base64.specs.Tables.{all_below, decodes_byte, is_alphabet, is_inverse}
use Rattle.bag_cells.specs.Numbers.{AreBytes}
use Rattle.bag_cells.specs.Form.{is_white, trimmed, trimmed_over, of_hex, of_base64, raw_of_hex, raw_of_base64, raw_of}
use Rattle.bag_cells.specs.declared.error.BagError.{BagError}
use Rattle.bag_cells.proofs.HexPlaces.{joined, pairs_of}

bytes-none : AreBytes []
bytes-none i = omega arith

bytes-cons : (b : ℕ) (rest : List ℕ) → b < 256 → AreBytes rest → AreBytes (b ∷ rest)
bytes-cons b rest h hs zero = h
bytes-cons b rest h hs (suc i) = hs i

bytes-tail : (b : ℕ) (rest : List ℕ) → AreBytes (b ∷ rest) → AreBytes rest
bytes-tail b rest h i = h (suc i)

bytes-append : (xs ys : List ℕ) → AreBytes xs → AreBytes ys → AreBytes (xs ++ ys)
bytes-append [] ys h k i = k i
bytes-append (x ∷ xs) ys h k zero = h 0
bytes-append (x ∷ xs) ys h k (suc i) = bytes-append xs ys (bytes-tail x xs h) k i

bytes-take : (n : ℕ) (xs : List ℕ) → AreBytes xs → AreBytes (take n xs)
bytes-take zero xs h = bytes-none
bytes-take (suc n) [] h = bytes-none
bytes-take (suc n) (x ∷ xs) h = bytes-cons x (take n xs) (h 0) (bytes-take n xs (bytes-tail x xs h))

bytes-drop : (n : ℕ) (xs : List ℕ) → AreBytes xs → AreBytes (drop n xs)
bytes-drop zero xs h = h
bytes-drop (suc n) [] h = bytes-none
bytes-drop (suc n) (x ∷ xs) h = bytes-drop n xs (bytes-tail x xs h)

-- ---- without the white space at the end

over_by : (white : Bool) (byte : ℕ) → byte < 256 → AreBytes (if white then [] else byte ∷ [])
over_by true byte h = bytes-none
over_by false byte h = bytes-cons byte [] h bytes-none

bytes-over : (byte : ℕ) (rest : List ℕ) → byte < 256 → AreBytes rest → AreBytes (trimmed_over byte rest)
bytes-over byte [] h k = over_by (is_white byte) byte h
bytes-over byte (next ∷ rest) h k = bytes-cons byte (next ∷ rest) h k

bytes-trimmed : (text : List ℕ) → AreBytes text → AreBytes (trimmed text)
unfolding trimmed
bytes-trimmed [] h = bytes-none
bytes-trimmed (byte ∷ rest) h = bytes-over byte (trimmed rest) (h 0) (bytes-trimmed rest (bytes-tail byte rest h))

-- ---- hexadecimal digits

digit-small : (c v : ℕ) → hex_digit_value c ≡ Some v → v < 16
digit-small c v h = grind (arith, nat_tests)

joined-bytes : (i high low : ℕ) (first second : Option ℕ) (rest : Result (List ℕ) FromHexError) (bytes : List ℕ)
    → ((v : ℕ) → first ≡ Some v → v < 16) → ((v : ℕ) → second ≡ Some v → v < 16) → ((bs : List ℕ) → rest ≡ Ok bs → AreBytes bs)
    → joined i high low first second rest ≡ Ok bytes → AreBytes bytes
joined-bytes i high low None second rest bytes f s r h = absurd (cc)
joined-bytes i high low (Some v) None rest bytes f s r h = absurd (cc)
joined-bytes i high low (Some v) (Some w) (Err e) bytes f s r h = absurd (cc)
joined-bytes i high low (Some v) (Some w) (Ok bs) bytes f s r h =
    let e : (v * 16 + w) ∷ bs ≡ bytes = cc in
    subst (λ (l : List ℕ). AreBytes l) e (bytes-cons (v * 16 + w) bs (omega (arith, f v refl, s w refl)) (r bs refl))

pairs-bytes : (i : ℕ) (text bytes : List ℕ) → decode_pairs i text ≡ Ok bytes → AreBytes bytes
unfolding decode_pairs
pairs-bytes i [] bytes h = let e : [] ≡ bytes = cc in subst (λ (l : List ℕ). AreBytes l) e bytes-none
pairs-bytes i (digit ∷ []) bytes h = absurd (cc)
pairs-bytes i (high ∷ low ∷ rest) bytes h =
    joined-bytes i high low (hex_digit_value high) (hex_digit_value low) (decode_pairs (i + 2) rest) bytes
    (λ v e. digit-small high v e) (λ v e. digit-small low v e) (λ bs e. pairs-bytes (i + 2) rest bs e)
    (sym (pairs_of i high low rest) ∙ h)

hex_by : (size : ℕ) (r : Result (List ℕ) FromHexError) (raw : List ℕ) → of_hex size r ≡ Ok raw → r ≡ Ok raw
hex_by size (Ok bytes) raw h = ap (λ (l : List ℕ). Ok l) (let e : bytes ≡ raw = cc in e)
hex_by size (Err e) raw h = absurd (cc)

decoded-even : (odd : Bool) (r : Result (List ℕ) FromHexError) (e : FromHexError) (bytes : List ℕ) → (if odd then Err e else r) ≡ Ok bytes → r ≡ Ok bytes
decoded-even true r e bytes h = absurd (cc)
decoded-even false r e bytes h = h

hex-bytes : (text raw : List ℕ) → raw_of_hex text ≡ Ok raw → AreBytes raw
unfolding raw_of_hex
hex-bytes text raw h = pairs-bytes 0 text raw (decoded-even (length text % 2 == 1) (decode_pairs 0 text) _ raw (hex_by (length text) (hex_decoded text) raw h))

-- ---- base64

below-at : (p : ℕ → Bool) (n k : ℕ) → all_below p n ≡ true → k < n → p k ≡ true
below-at p zero k h l = absurd (omega arith)
below-at p (suc n) k h l =
    let parts = and_parts (p n) (all_below p n) h in
    elim (cases_lt k n) [
      | inl low ↦ below-at p n k parts.1 low
      | inr high ↦ let e : n ≡ k = omega arith in subst (λ (m : ℕ). p m ≡ true) e parts.0
    ]

-- a byte that is a symbol has a value below 64
abbrev IsTable : List ℕ → Type 0
IsTable dec = (x : ℕ) → x < 256 → slice_index dec x ≢ 255 → slice_index dec x < 64

table_by : (enc dec : List ℕ) → is_inverse enc dec ≡ true → IsTable dec
table_by enc dec h x l ne =
    let all = (and_parts _ (all_below (decodes_byte enc dec) 256) h).1 in
    let value = slice_index dec x in
    elim (or_cases (value == 255) (nat_lt value 64 && (slice_index enc value == x)) (below-at (decodes_byte enc dec) 256 x all l)) [
      | inl none ↦ absurd (ne (eqb-true value 255 none))
      | inr some ↦ ltb-true value 64 (and_parts (nat_lt value 64) (slice_index enc value == x) some).0
    ]

table : IsTable standard.decode_table
table =
    let enc = standard.encode_table in
    let dec = standard.decode_table in
    let pad = standard.padding.value in
    let prefix = and_parts (is_alphabet enc pad && is_inverse enc dec) (slice_index dec pad == 255) standard.tables in
    table_by enc dec (and_parts (is_alphabet enc pad) (is_inverse enc dec) prefix.0).1

none-first : (a b : Option DecodeError) → or_else a b ≡ None → a ≡ None
none-first None b h = refl
none-first (Some e) b h = absurd (cc)

none-second : (a b : Option DecodeError) → or_else a b ≡ None → b ≡ None
none-second None b h = h
none-second (Some e) b h = absurd (cc)

not-bad : (b : Bool) (e : DecodeError) → (if b then Some e else None) ≡ None → b ≡ false
not-bad true e h = absurd (cc)
not-bad false e h = refl

other-by : (m n : ℕ) → (m == n) ≡ false → m ≢ n
other-by m n h = grind (arith, nat_tests)

symbol-small : (dec s : List ℕ) (i : ℕ) → IsTable dec → AreBytes s → symbol_error dec s i ≡ None → slice_index dec (slice_index s i) < 64
symbol-small dec s i t bytes h =
    t (slice_index s i) (bytes i) (other-by (slice_index dec (slice_index s i)) 255 (not-bad (slice_index dec (slice_index s i) == 255) _ h))

bytes-group : (a b c d : ℕ) → a < 64 → b < 64 → c < 64 → d < 64 → AreBytes (decode_group a b c d)
bytes-group a b c d h k l m zero = omega arith
bytes-group a b c d h k l m (suc zero) = omega arith
bytes-group a b c d h k l m (suc (suc zero)) = omega arith
bytes-group a b c d h k l m (suc (suc (suc i))) = omega arith

group-bytes : (dec s : List ℕ) (i : ℕ) → IsTable dec → AreBytes s → group_error dec s i ≡ None → AreBytes (group_bytes dec s i)
group-bytes dec s i t bytes h =
    let h1 = none-second (symbol_error dec s i) (or_else (symbol_error dec s (i + 1)) (or_else (symbol_error dec s (i + 2)) (symbol_error dec s (i + 3)))) h in
    let h2 = none-second (symbol_error dec s (i + 1)) (or_else (symbol_error dec s (i + 2)) (symbol_error dec s (i + 3))) h1 in
    bytes-group (slice_index dec (slice_index s i)) (slice_index dec (slice_index s (i + 1))) (slice_index dec (slice_index s (i + 2))) (slice_index dec (slice_index s (i + 3)))
    (symbol-small dec s i t bytes (none-first (symbol_error dec s i) (or_else (symbol_error dec s (i + 1)) (or_else (symbol_error dec s (i + 2)) (symbol_error dec s (i + 3)))) h))
    (symbol-small dec s (i + 1) t bytes (none-first (symbol_error dec s (i + 1)) (or_else (symbol_error dec s (i + 2)) (symbol_error dec s (i + 3))) h1))
    (symbol-small dec s (i + 2) t bytes (none-first (symbol_error dec s (i + 2)) (symbol_error dec s (i + 3)) h2))
    (symbol-small dec s (i + 3) t bytes (none-second (symbol_error dec s (i + 2)) (symbol_error dec s (i + 3)) h2))

groups-bytes : (dec s : List ℕ) (q : ℕ) → IsTable dec → AreBytes s → groups_error dec s q ≡ None → AreBytes (groups_bytes dec s q)
unfolding groups_error groups_bytes
groups-bytes dec s zero t bytes h = bytes-none
groups-bytes dec s (suc q) t bytes h =
    bytes-append (groups_bytes dec s q) (group_bytes dec s (4 * q))
    (groups-bytes dec s q t bytes (none-first (groups_error dec s q) (group_error dec s (4 * q)) h))
    (group-bytes dec s (4 * q) t bytes (none-second (groups_error dec s q) (group_error dec s (4 * q)) h))

-- ---- the last group, by the values that its scan keeps

abbrev AreSmall : List ℕ → Type 0
AreSmall values = (k : ℕ) → slice_index values k < 64

small-set : (values : List ℕ) (i v : ℕ) → AreSmall values → v < 64 → AreSmall (slice_set values i v)
small-set values i v all small k = elim (cases_eq k i) [
  | inl same ↦ elim (cases_lt i (length values)) [
    | inl fits ↦ rw (same, get_or-set_same values i v 0 fits) small
    | inr past ↦ rw (set_past values i v past) (all k)
  ]
  | inr other ↦ rw (get_or-set_other values i k v 0 other) (all k)
]

kept : {A : Type 0} → Result A DecodeError → A → A
kept (Ok st) other = st
kept (Err e) other = other

small-next : (dec : List ℕ) (pad at i b : ℕ) (st next : _) → push_leftover dec pad at st i b ≡ Ok next → IsTable dec → b < 256
    → AreSmall st.morsels → AreSmall next.morsels
unfolding kept
small-next dec pad at i b st next e t byte small = elim (cases_Bool (b == pad)) [
  | inl p ↦ elim (cases_Bool (nat_lt i 2)) [
    | inl l ↦ cc (rw (p, l) at e)
    | inr l ↦
        let n = ap (λ (x : Result _ DecodeError). kept x st) (rw (p, l) at e) in
        rw (← n) small
  ]
  | inr p ↦ elim (cases_Bool (nat_lt 0 st.padding_count)) [
    | inl a ↦ cc (rw (p, a) at e)
    | inr a ↦ elim (cases_Bool (slice_index dec b == 255)) [
      | inl v ↦ cc (rw (p, a, v) at e)
      | inr v ↦
          let n = ap (λ (x : Result _ DecodeError). kept x st) (rw (p, a, v) at e) in
          rw (← n) (small-set st.morsels st.morsels_count (slice_index dec b) small (t b byte (other-by (slice_index dec b) 255 v)))
    ]
  ]
]

small-scan : (dec : List ℕ) (pad at i : ℕ) (bs : List ℕ) (r last : _) → scan_steps dec pad at r i bs ≡ Ok last → IsTable dec → AreBytes bs
    → ((st : _) → r ≡ Ok st → AreSmall st.morsels) → AreSmall last.morsels
unfolding scan_steps
small-scan dec pad at i bs (Err e) last h t bytes small = absurd (cc)
small-scan dec pad at i [] (Ok st) last h t bytes small = small last h
small-scan dec pad at i (b ∷ bs) (Ok st) last h t bytes small =
    small-scan dec pad at (i + 1) bs (push_leftover dec pad at st i b) last h t (bytes-tail b bs bytes)
    (λ next e. small-next dec pad at i b st next e t (bytes 0) (small st refl))

small-none : AreSmall no_leftover.morsels
small-none zero = omega arith
small-none (suc zero) = omega arith
small-none (suc (suc zero)) = omega arith
small-none (suc (suc (suc zero))) = omega arith
small-none (suc (suc (suc (suc i)))) = omega arith

small-start : (r : Result _ DecodeError) (start : _) → r ≡ Ok no_leftover → r ≡ Ok start → AreSmall start.morsels
unfolding kept
small-start r start e h =
    let n = ap (λ (x : Result _ DecodeError). kept x no_leftover) (sym e ∙ h) in
    rw (← n) small-none

bytes-scanned : (r : _) (bytes : List ℕ) → scan_bytes r ≡ bytes → ((st : _) → r ≡ Ok st → AreSmall st.morsels) → AreBytes bytes
bytes-scanned (Ok st) bytes e h =
    let small = h st refl in
    subst (λ (l : List ℕ). AreBytes l) e
    (bytes-take (st.morsels_count * 6 / 8)
    (decode_group (slice_index st.morsels 0) (slice_index st.morsels 1) (slice_index st.morsels 2) (slice_index st.morsels 3))
    (bytes-group (slice_index st.morsels 0) (slice_index st.morsels 1) (slice_index st.morsels 2) (slice_index st.morsels 3)
    (small 0) (small 1) (small 2) (small 3)))
bytes-scanned (Err e) bytes g h = subst (λ (l : List ℕ). AreBytes l) g bytes-none

suffix-bytes : (dec : List ℕ) (pad at : ℕ) (s : List ℕ) → IsTable dec → AreBytes s → AreBytes (suffix_bytes dec pad at s)
suffix-bytes dec pad at s t bytes =
    bytes-scanned (scan_last dec pad at s) (suffix_bytes dec pad at s) refl
    (λ st e. small-scan dec pad at 0 (drop at s) (Ok no_leftover) st e t (bytes-drop at s bytes) (λ start h. small-start (Ok no_leftover) start refl h))

outcome-ok : (o : Option DecodeError) (bytes raw : List ℕ) → decode_outcome o bytes ≡ Ok raw → (o ≡ None) × (bytes ≡ raw)
outcome-ok None bytes raw h = (refl, cc)
outcome-ok (Some e) bytes raw h = absurd (cc)

base64_by : (r : Result (List ℕ) DecodeError) (raw : List ℕ) → of_base64 r ≡ Ok raw → r ≡ Ok raw
base64_by (Ok bytes) raw h = ap (λ (l : List ℕ). Ok l) (let e : bytes ≡ raw = cc in e)
base64_by (Err e) raw h = absurd (cc)

base64-bytes : (text raw : List ℕ) → AreBytes text → raw_of_base64 text ≡ Ok raw → AreBytes raw
unfolding raw_of_base64
base64-bytes text raw bytes h =
    let dec = standard.decode_table in
    let pad = standard.padding.value in
    let q = groups_before_last (length text) in
    let groups = groups_error dec text q in
    let suffix = suffix_error dec pad standard.config.decode_allow_trailing_bits standard.config.decode_padding_mode (4 * q) text in
    let parts = outcome-ok (or_else (lone_error dec pad text) (or_else groups suffix)) (decoded_bytes dec pad text) raw (base64_by (base64_decoded standard text) raw h) in
    let none = none-first groups suffix (none-second (lone_error dec pad text) (or_else groups suffix) parts.0) in
    subst (λ (l : List ℕ). AreBytes l) parts.1
    (bytes-append (groups_bytes dec text q) (suffix_bytes dec pad (4 * q) text) (groups-bytes dec text q table bytes none) (suffix-bytes dec pad (4 * q) text table bytes))

-- ---- the three forms

raw_by : (file raw : List ℕ) (a b c : Bool) (e : BagError) → AreBytes file
    → (if a then Ok file else if b then raw_of_hex (trimmed file) else if c then raw_of_base64 (trimmed file) else Err e) ≡ Ok raw → AreBytes raw
raw_by file raw true b c e bytes h = let same : file ≡ raw = cc in subst (λ (l : List ℕ). AreBytes l) same bytes
raw_by file raw false true c e bytes h = hex-bytes (trimmed file) raw h
raw_by file raw false false true e bytes h = base64-bytes (trimmed file) raw (bytes-trimmed file bytes) h
raw_by file raw false false false e bytes h = absurd (cc)

pub raw-bytes : (file raw : List ℕ) → AreBytes file → raw_of file ≡ Ok raw → AreBytes raw
raw-bytes file raw bytes h =
    raw_by file raw (slice_index file 0 == 0xb5) (slice_index file 0 == 98 || slice_index file 0 == 66) (slice_index file 0 == 116) _ bytes h
