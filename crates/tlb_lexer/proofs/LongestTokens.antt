-- The longest spelling after each first byte.
use Rattle.std.proofs.Common.{◌≡◌, ◌≤◌, ◌<◌, ◌+◌, suc, zero, ◌∙◌, sym, ap, refl, subst, ℕ, Bool, true, false, ◌||◌, ◌&&◌, List, [], ◌∷◌, length, take, drop, arith, cond, inl, inr, ◌⊎◌, nat_eq, ◌==◌, if◌then◌else◌, codes}
use Rattle.std.specs.List.{list_all, prefix_len, starts_with}
use Rattle.std.proofs.lemmas.List.{length-take-le}
use Rattle.std.proofs.lemmas.List.Sums.{prefix_len-le-length}
use Rattle.std.proofs.lemmas.Bool.{eqb-true}
use Rattle.tlb_lexer.specs.declared.TokenKind.{TokenKind}
use Rattle.tlb_lexer.specs.declared.TokenKind.TheVariants.{Name, Blank, Number, BinaryTag, HexTag, Symbol}
use Rattle.tlb_lexer.specs.declared.bytes.Class.{Class}
use Rattle.tlb_lexer.specs.declared.bytes.Class.TheVariants.{Letter, Digit, Underscore, Dollar, NumberSign, Angle, Sign}
use Rattle.tlb_lexer.specs.Bytes.{is_letter, is_digit, is_name_byte, is_bit, is_hex_digit, is_sign}
use Rattle.tlb_lexer.specs.Spelling.{spells, is_underscore, is_hex_tag, are_bits, ends_hex}
use Rattle.tlb_lexer.specs.Tokenization.{Longest}
use Rattle.tlb_lexer.specs.Stretch.{class, hash_symbol_len}
use Rattle.tlb_lexer.proofs.ListPrefix.{and_parts, or_parts, or_right, clash, same_or_not, passes, too_far}
use Rattle.tlb_lexer.proofs.Classes.{tells, hexy, kind_by, LongSymbol, hashes, hash_less, hash_less_equal, angle_equal, long_symbol, opens_with, hexy_of, angle_class}

-- past n bytes after the first one, the kind that the first byte allows spells nothing
abbrev pub Ends : Class → ℕ → ℕ → List ℕ → Type 0
Ends k n b bs = (m : ℕ) → n < m → m ≤ length bs → spells (kind_by k (take m bs)) (b ∷ take m bs) ≡ true → ⊥

past : (k : Class) (n b : ℕ) (bs : List ℕ) → class b ≡ k → Ends k n b bs → (m : ℕ) (other : TokenKind) → suc n < m
    → m ≤ length (b ∷ bs) → spells other (take m (b ∷ bs)) ≡ true → ⊥
past k n b bs is ends zero other lt le e = absurd (omega arith)
past k n b bs is ends (suc m) other lt le e =
    let o = opens_with other b (take m bs) e in
    let same : other ≡ kind_by k (take m bs) = o.0 ∙ ap (λ x. kind_by x (take m bs)) is in
    let P : TokenKind → Type 0 = λ x. spells x (b ∷ take m bs) ≡ true in
    ends m (omega arith) (omega arith) (subst P same e)

pub longest_of : (kind : TokenKind) (k : Class) (size n b : ℕ) (bs : List ℕ) → class b ≡ k → size ≡ suc n
    → n ≤ length bs → spells kind (b ∷ take n bs) ≡ true → Ends k n b bs → Longest kind size (b ∷ bs)
longest_of kind k size n b bs is one le sp ends =
    let P : ℕ → Type 0 = λ x. Longest kind x (b ∷ bs) in
    subst P (sym one) (record { within = omega arith; spelled = sp; longest = past k n b bs is ends })

pub name_longest : (b : ℕ) (bs : List ℕ) → class b ≡ Letter → Longest Name (1 + prefix_len is_name_byte bs) (b ∷ bs)
name_longest b bs is =
    let n = prefix_len is_name_byte bs in
    let letter : is_letter b ≡ true = tells b Letter is in
    let prefix = passes is_name_byte bs in
    longest_of Name Letter (1 + n) n b bs is (omega arith) (prefix_len-le-length is_name_byte bs) (rw (letter, prefix) refl)
    (λ m lt le e. too_far is_name_byte bs m lt le (and_parts (is_letter b) (list_all is_name_byte (take m bs)) e).1)

pub number_longest : (b : ℕ) (bs : List ℕ) → class b ≡ Digit → Longest Number (1 + prefix_len is_digit bs) (b ∷ bs)
number_longest b bs is =
    let n = prefix_len is_digit bs in
    let digit : is_digit b ≡ true = tells b Digit is in
    let prefix = passes is_digit bs in
    longest_of Number Digit (1 + n) n b bs is (omega arith) (prefix_len-le-length is_digit bs) (rw (digit, prefix) refl)
    (λ m lt le e. too_far is_digit bs m lt le (and_parts (is_digit b) (list_all is_digit (take m bs)) e).1)

one_underscore : (xs : List ℕ) → is_underscore xs ≡ true → length xs ≡ 1
one_underscore [] e = cc
one_underscore (x ∷ []) e = omega arith
one_underscore (x ∷ y ∷ xs) e = cc

blank_ends : (b : ℕ) (bs : List ℕ) → Ends Underscore 0 b bs
blank_ends b bs m lt le e =
    let one = one_underscore (b ∷ take m bs) e in
    absurd (omega (arith, length-take-le m bs le))

pub blank_longest : (b : ℕ) (bs : List ℕ) → class b ≡ Underscore → Longest Blank 1 (b ∷ bs)
blank_longest b bs is =
    let same : b ≡ 95 = tells b Underscore is in
    longest_of Blank Underscore 1 0 b bs is (omega arith) (omega arith) (rw same refl) (blank_ends b bs)

some_bits : (xs : List ℕ) → 0 < length xs → list_all is_bit xs ≡ true → are_bits xs ≡ true
some_bits [] some e = absurd (omega arith)
some_bits (x ∷ xs) some e = e

pub all_bits : (xs : List ℕ) → are_bits xs ≡ true → list_all is_bit xs ≡ true
all_bits [] e = cc
all_bits (x ∷ xs) e = e

binary_ends : (n b : ℕ) (bs : List ℕ) → 0 < n → prefix_len is_bit bs ≤ n → Ends Dollar n b bs
binary_ends n b bs some within m lt le e =
    let p = and_parts (b == 36) (is_underscore (take m bs) || are_bits (take m bs)) e in
    elim (or_parts (is_underscore (take m bs)) (are_bits (take m bs)) p.1) [
      | inl h ↦ let one = one_underscore (take m bs) h in absurd (omega (arith, length-take-le m bs le))
      | inr h ↦ too_far is_bit bs m (omega arith) le (all_bits (take m bs) h)
    ]

pub bits_longest : (b : ℕ) (bs : List ℕ) → class b ≡ Dollar → 0 < prefix_len is_bit bs
    → Longest BinaryTag (1 + prefix_len is_bit bs) (b ∷ bs)
bits_longest b bs is some =
    let n = prefix_len is_bit bs in
    let within = prefix_len-le-length is_bit bs in
    let same : b ≡ 36 = tells b Dollar is in
    let bits : are_bits (take n bs) ≡ true = some_bits (take n bs) (omega (arith, length-take-le n bs within)) (passes is_bit bs) in
    let either : (is_underscore (take n bs) || are_bits (take n bs)) ≡ true = or_right _ _ bits in
    longest_of BinaryTag Dollar (1 + n) n b bs is (omega arith) within (rw (same, either) refl) (binary_ends n b bs some (omega arith))

pub starts_one : (x : ℕ) (bs : List ℕ) → starts_with nat_eq bs (x ∷ []) ≡ true → (cs : List ℕ) × (bs ≡ x ∷ cs)
starts_one x [] e = cc
starts_one x (c ∷ cs) e =
    let p = and_parts (nat_eq x c) true e in
    (cs, ap (λ y. y ∷ cs) (sym (eqb-true x c p.0)))

pub empty_binary_longest : (b : ℕ) (bs : List ℕ) → class b ≡ Dollar → prefix_len is_bit bs ≡ 0
    → starts_with nat_eq bs (codes "_") ≡ true → Longest BinaryTag 2 (b ∷ bs)
empty_binary_longest b bs is none starts =
    let k = starts_one 95 bs starts in
    let same : b ≡ 36 = tells b Dollar is in
    let size : length bs ≡ length (95 ∷ k.0) = ap length k.1 in
    longest_of BinaryTag Dollar 2 1 b bs is (omega arith) (omega arith) (rw (same, k.1) refl) (binary_ends 1 b bs (omega arith) (omega arith))

-- whether a `_` stands after the hexadecimal digits in prefix
abbrev pub closes_hex : List ℕ → Bool
closes_hex [] = false
closes_hex (c ∷ cs) = if is_hex_digit c then closes_hex cs else c == 95

one_off : (n : ℕ) (x : ℕ) (xs : List ℕ) → drop (1 + n) (x ∷ xs) ≡ drop n xs
one_off n x xs = let e : 1 + n ≡ suc n = omega arith in rw e refl

pub closes_at : (bs : List ℕ) → starts_with nat_eq (drop (prefix_len is_hex_digit bs) bs) (codes "_") ≡ closes_hex bs
closes_at [] = refl
closes_at (c ∷ cs) =
    elim (is_hex_digit c) as (λ t. starts_with nat_eq (drop (cond t (1 + prefix_len is_hex_digit cs) 0) (c ∷ cs)) (codes "_") ≡ (if t then closes_hex cs else c == 95)) [
      | true ↦ ap (λ xs. starts_with nat_eq xs (codes "_")) (one_off (prefix_len is_hex_digit cs) c cs) ∙ closes_at cs
      | false ↦ first c
    ]
  where
    first : (c : ℕ) → starts_with nat_eq (c ∷ []) (codes "_") ≡ (c == 95)
    first c = flip (c == 95) (nat_eq 95 c) (λ e. let k : c ≡ 95 = eqb-true c 95 e in rw k refl) (λ e. let k : 95 ≡ c = eqb-true 95 c e in rw (← k) refl)
      where
        flip : (s t : Bool) → (s ≡ true → t ≡ true) → (t ≡ true → s ≡ true) → (t && true) ≡ s
        flip true t f g = let e = f refl in rw e refl
        flip false true f g = sym (g refl)
        flip false false f g = refl

-- what prefix of the bytes hexadecimal digits and then maybe `_` are
abbrev EndsHex : ℕ → ℕ → Bool → Type 0
EndsHex m d closes = (m ≤ d) ⊎ ((m ≡ d + 1) × (closes ≡ true))

pub hex_prefix : (bs : List ℕ) (m : ℕ) → m ≤ length bs → ends_hex (take m bs) ≡ true
    → EndsHex m (prefix_len is_hex_digit bs) (closes_hex bs)
hex_prefix [] m le e = inl (omega arith)
hex_prefix (c ∷ cs) zero le e = cc
hex_prefix (c ∷ []) (suc zero) le e =
    elim (is_hex_digit c) as (λ t. (t || c == 95) ≡ true → EndsHex 1 (cond t (1 + 0) 0) (if t then false else c == 95)) [
      | true ↦ λ h. inl (omega arith)
      | false ↦ λ h. inr (omega arith, h)
    ] e
hex_prefix (c ∷ []) (suc (suc m)) le e = absurd (omega arith)
hex_prefix (c ∷ d ∷ cs) (suc zero) le e =
    elim (is_hex_digit c) as (λ t. (t || c == 95) ≡ true → EndsHex 1 (cond t (1 + prefix_len is_hex_digit (d ∷ cs)) 0) (if t then closes_hex (d ∷ cs) else c == 95)) [
      | true ↦ λ h. inl (omega arith)
      | false ↦ λ h. inr (omega arith, h)
    ] e
hex_prefix (c ∷ d ∷ cs) (suc (suc m)) le e =
    let p = and_parts (is_hex_digit c) (ends_hex (d ∷ take m cs)) e in
    let h = hex_prefix (d ∷ cs) (suc m) (omega arith) p.1 in
    rw p.0 (elim h [ inl k ↦ inl (omega arith) | inr k ↦ inr (omega (arith, k.0), k.1) ])

ends_cons : (c : ℕ) (xs : List ℕ) → is_hex_digit c ≡ true → ends_hex xs ≡ true → ends_hex (c ∷ xs) ≡ true
ends_cons c [] e h = rw e refl
ends_cons c (d ∷ xs) e h = rw (e, h) refl

pub hex_run : (bs : List ℕ) (m : ℕ) → 0 < m → m ≤ prefix_len is_hex_digit bs → ends_hex (take m bs) ≡ true
hex_run [] m some le = absurd (omega arith)
hex_run (c ∷ cs) zero some le = absurd (omega arith)
hex_run (c ∷ cs) (suc zero) some le =
    elim (is_hex_digit c) as (λ t. suc zero ≤ cond t (1 + prefix_len is_hex_digit cs) 0 → (t || c == 95) ≡ true) [
      | true ↦ λ h. refl
      | false ↦ λ h. absurd (omega arith)
    ] le
hex_run (c ∷ cs) (suc (suc m)) some le =
    elim (is_hex_digit c) as (λ t. is_hex_digit c ≡ t → suc (suc m) ≤ cond t (1 + prefix_len is_hex_digit cs) 0 → ends_hex (c ∷ take (suc m) cs) ≡ true) [
      | true ↦ λ e h. ends_cons c (take (suc m) cs) e (hex_run cs (suc m) (omega arith) (omega arith))
      | false ↦ λ e h. absurd (omega arith)
    ] refl le

hex_closed : (bs : List ℕ) → closes_hex bs ≡ true → ends_hex (take (suc (prefix_len is_hex_digit bs)) bs) ≡ true
hex_closed [] e = cc
hex_closed (c ∷ cs) e =
    elim (is_hex_digit c) as (λ t. is_hex_digit c ≡ t → (if t then closes_hex cs else c == 95) ≡ true → ends_hex (c ∷ take (cond t (1 + prefix_len is_hex_digit cs) 0) cs) ≡ true) [
      | true ↦ λ h f. let one : 1 + prefix_len is_hex_digit cs ≡ suc (prefix_len is_hex_digit cs) = omega arith in rw one (ends_cons c _ h (hex_closed cs f))
      | false ↦ λ h f. or_right (is_hex_digit c) (c == 95) f
    ] refl e

closed_within : (bs : List ℕ) → closes_hex bs ≡ true → suc (prefix_len is_hex_digit bs) ≤ length bs
closed_within [] e = cc
closed_within (c ∷ cs) e =
    elim (is_hex_digit c) as (λ t. (if t then closes_hex cs else c == 95) ≡ true → suc (cond t (1 + prefix_len is_hex_digit cs) 0) ≤ length (c ∷ cs)) [
      | true ↦ λ f. let k = closed_within cs f in omega arith
      | false ↦ λ f. omega arith
    ] e

hexy_take : (bs : List ℕ) (m : ℕ) → 0 < m → hexy (take m bs) ≡ hexy bs
hexy_take [] zero some = absurd (omega arith)
hexy_take [] (suc m) some = refl
hexy_take (c ∷ cs) zero some = absurd (omega arith)
hexy_take (c ∷ cs) (suc m) some = refl

hex_ends : (n b : ℕ) (bs : List ℕ) → hexy bs ≡ true
    → ((m : ℕ) → n < m → EndsHex m (prefix_len is_hex_digit bs) (closes_hex bs) → ⊥) → Ends NumberSign n b bs
hex_ends n b bs h f m lt le e =
    let is_hex : hexy (take m bs) ≡ true = hexy_take bs m (omega arith) ∙ h in
    let P : Bool → Type 0 = λ t. spells (if t then HexTag else Symbol) (b ∷ take m bs) ≡ true in
    let tag : is_hex_tag (b ∷ take m bs) ≡ true = subst P is_hex e in
    f m lt (hex_prefix bs m le (and_parts (b == 35) (ends_hex (take m bs)) tag).1)

pub closed_longest : (b : ℕ) (bs : List ℕ) → class b ≡ NumberSign → closes_hex bs ≡ true
    → Longest HexTag (prefix_len is_hex_digit bs + 2) (b ∷ bs)
closed_longest b bs is closes =
    let d = prefix_len is_hex_digit bs in
    let same : b ≡ 35 = tells b NumberSign is in
    let prefix = hex_closed bs closes in
    let first : hexy bs ≡ true = sym (hexy_take bs (suc d) (omega arith)) ∙ hexy_of (take (suc d) bs) prefix in
    longest_of HexTag NumberSign (d + 2) (suc d) b bs is (omega arith) (closed_within bs closes) (rw (same, prefix) refl)
    (hex_ends (suc d) b bs first (λ m lt k. elim k [ inl x ↦ absurd (omega arith) | inr x ↦ absurd (omega (arith, x.0)) ]))

pub hex_longest : (b : ℕ) (bs : List ℕ) → class b ≡ NumberSign → 0 < prefix_len is_hex_digit bs
    → closes_hex bs ≡ false → Longest HexTag (prefix_len is_hex_digit bs + 1) (b ∷ bs)
hex_longest b bs is some open_end =
    let d = prefix_len is_hex_digit bs in
    let same : b ≡ 35 = tells b NumberSign is in
    let prefix : ends_hex (take d bs) ≡ true = hex_run bs d some (omega arith) in
    let first : hexy bs ≡ true = sym (hexy_take bs d some) ∙ hexy_of (take d bs) prefix in
    longest_of HexTag NumberSign (d + 1) d b bs is (omega arith) (prefix_len-le-length is_hex_digit bs) (rw (same, prefix) refl)
    (hex_ends d b bs first (λ m lt k. elim k [ inl x ↦ absurd (omega arith) | inr x ↦ absurd (clash _ x.1 open_end) ]))

pub not_hexy : (bs : List ℕ) → prefix_len is_hex_digit bs ≡ 0 → closes_hex bs ≡ false → hexy bs ≡ false
not_hexy [] none open_end = refl
not_hexy (c ∷ cs) none open_end =
    elim (is_hex_digit c) as (λ t. cond t (1 + prefix_len is_hex_digit cs) 0 ≡ 0 → (if t then closes_hex cs else c == 95) ≡ false → (t || c == 95) ≡ false) [
      | true ↦ λ n f. absurd (omega (arith, n))
      | false ↦ λ n f. f
    ] none open_end

-- the other way round
pub flip_false : (a b : ℕ) → (a == b) ≡ false → (b == a) ≡ false
flip_false a b e =
    elim (b == a) as (λ t. (b == a) ≡ t → t ≡ false) [
      | true ↦ λ f. let same : b ≡ a = eqb-true b a f in absurd (clash (a == b) (rw same (same_test a)) e)
      | false ↦ λ f. refl
    ] refl
  where
    same_test : (a : ℕ) → (a == a) ≡ true
    same_test a = elim (same_or_not a a) as (λ h. (a == a) ≡ true) [ inl h ↦ grind arith | inr h ↦ grind arith ]

not_same : (c n : ℕ) → (c == n) ≡ false → (n == n) ≡ true → c ≡ n → ⊥
not_same c n e t same = let P : ℕ → Type 0 = λ x. (x == n) ≡ false in clash (n == n) t (subst P same e)

size_of : (m : ℕ) (cs xs : List ℕ) → m ≤ length cs → take m cs ≡ xs → m ≡ length xs
size_of m cs xs le e = sym (length-take-le m cs le) ∙ ap length e

symbol_ends : (k : Class) (n b c : ℕ) (cs : List ℕ) → ((m : ℕ) → 0 < m → kind_by k (take m (c ∷ cs)) ≡ Symbol)
    → ((m : ℕ) → n < suc m → m ≤ length cs → LongSymbol b c (take m cs) → ⊥) → Ends k n b (c ∷ cs)
symbol_ends k n b c cs is f zero lt le e = absurd (omega arith)
symbol_ends k n b c cs is f (suc m) lt le e =
    let P : TokenKind → Type 0 = λ x. spells x (b ∷ c ∷ take m cs) ≡ true in
    f m lt (omega arith) (long_symbol b c (take m cs) (subst P (is (suc m) (omega arith)) e))

no_bytes : (k : Class) (n b : ℕ) → Ends k n b []
no_bytes k n b m lt le e = absurd (omega arith)

plain_hash : (c : ℕ) (cs : List ℕ) → hexy (c ∷ cs) ≡ false → (m : ℕ) → 0 < m
    → kind_by NumberSign (take m (c ∷ cs)) ≡ Symbol
plain_hash c cs h m some = let e : hexy (take m (c ∷ cs)) ≡ false = hexy_take (c ∷ cs) m some ∙ h in rw e refl

hash_alone : (b : ℕ) (bs : List ℕ) → class b ≡ NumberSign → hash_symbol_len bs ≡ 1 → Ends NumberSign 0 b bs
    → Longest Symbol (hash_symbol_len bs) (b ∷ bs)
hash_alone b bs is one ends =
    let same : b ≡ 35 = tells b NumberSign is in
    longest_of Symbol NumberSign (hash_symbol_len bs) 0 b bs is (omega arith) (omega arith) (rw same refl) ends

angle_not_hash : (b : ℕ) → b ≡ 35 → (b == 60 || b == 62) ≡ true → ⊥
angle_not_hash b same e = let P : ℕ → Type 0 = λ x. (x == 60 || x == 62) ≡ true in clash false (subst P same e) refl

hash_hash : (b : ℕ) (cs : List ℕ) → class b ≡ NumberSign → Longest Symbol 2 (b ∷ 35 ∷ cs)
hash_hash b cs is =
    let same : b ≡ 35 = tells b NumberSign is in
    longest_of Symbol NumberSign 2 1 b (35 ∷ cs) is (omega arith) (omega arith) (rw same refl)
    (symbol_ends NumberSign 1 b 35 cs (plain_hash 35 cs refl) (λ m lt le s. elim s [
      | hashes x y z ↦ absurd (omega (arith, size_of m cs [] le z))
      | hash_less x y z ↦ absurd (omega (arith, y))
      | hash_less_equal x y z ↦ absurd (omega (arith, y))
      | angle_equal x y z ↦ absurd (omega (arith, y))
    ]))

hash_angle_end : (b : ℕ) → class b ≡ NumberSign → Longest Symbol 2 (b ∷ 60 ∷ [])
hash_angle_end b is =
    let same : b ≡ 35 = tells b NumberSign is in
    longest_of Symbol NumberSign 2 1 b (60 ∷ []) is (omega arith) (omega arith) (rw same refl)
    (λ m lt le e. absurd (omega arith))

hash_angle_equal : (b : ℕ) (cs : List ℕ) → class b ≡ NumberSign → Longest Symbol 3 (b ∷ 60 ∷ 61 ∷ cs)
hash_angle_equal b cs is =
    let same : b ≡ 35 = tells b NumberSign is in
    longest_of Symbol NumberSign 3 2 b (60 ∷ 61 ∷ cs) is (omega arith) (omega arith) (rw same refl)
    (symbol_ends NumberSign 2 b 60 (61 ∷ cs) (plain_hash 60 (61 ∷ cs) refl) (λ m lt le s. elim s [
      | hashes x y z ↦ absurd (omega (arith, y))
      | hash_less x y z ↦ absurd (omega (arith, size_of m (61 ∷ cs) [] le z))
      | hash_less_equal x y z ↦ absurd (omega (arith, size_of m (61 ∷ cs) (61 ∷ []) le z))
      | angle_equal x y z ↦ absurd (omega (arith, y))
    ]))

first_of_take : (m d x : ℕ) (cs : List ℕ) → take m (d ∷ cs) ≡ x ∷ [] → d ≡ x
first_of_take zero d x cs e = cc
first_of_take (suc m) d x cs e = cc

hash_angle : (b d : ℕ) (cs : List ℕ) → class b ≡ NumberSign → (d == 61) ≡ false → Longest Symbol 2 (b ∷ 60 ∷ d ∷ cs)
hash_angle b d cs is ne =
    let same : b ≡ 35 = tells b NumberSign is in
    longest_of Symbol NumberSign 2 1 b (60 ∷ d ∷ cs) is (omega arith) (omega arith) (rw same refl)
    (symbol_ends NumberSign 1 b 60 (d ∷ cs) (plain_hash 60 (d ∷ cs) refl) (λ m lt le s. elim s [
      | hashes x y z ↦ absurd (omega (arith, y))
      | hash_less x y z ↦ absurd (omega (arith, size_of m (d ∷ cs) [] le z))
      | hash_less_equal x y z ↦ not_same d 61 ne refl (first_of_take m d 61 cs z)
      | angle_equal x y z ↦ absurd (omega (arith, y))
    ]))

hash_by_angle : (b : ℕ) (cs : List ℕ) → class b ≡ NumberSign → Longest Symbol (hash_symbol_len (60 ∷ cs)) (b ∷ 60 ∷ cs)
hash_by_angle b [] is = hash_angle_end b is
hash_by_angle b (d ∷ cs) is =
    elim (same_or_not d 61) as (λ h. Longest Symbol (hash_symbol_len (60 ∷ d ∷ cs)) (b ∷ 60 ∷ d ∷ cs)) [
      | inl e ↦ rw e (hash_angle_equal b cs is)
      | inr ne ↦ let other = flip_false d 61 ne in rw other (hash_angle b d cs is ne)
    ]

pub hash_longest : (b : ℕ) (bs : List ℕ) → class b ≡ NumberSign → hexy bs ≡ false
    → Longest Symbol (hash_symbol_len bs) (b ∷ bs)
hash_longest b [] is h = hash_alone b [] is refl (no_bytes NumberSign 0 b)
hash_longest b (c ∷ cs) is h =
    elim (same_or_not c 35) as (λ _. Longest Symbol (hash_symbol_len (c ∷ cs)) (b ∷ c ∷ cs)) [
      | inl e ↦ rw e (hash_hash b cs is)
      | inr no_hash ↦ elim (same_or_not c 60) as (λ _. Longest Symbol (hash_symbol_len (c ∷ cs)) (b ∷ c ∷ cs)) [
        | inl e ↦ rw e (hash_by_angle b cs is)
        | inr no_angle ↦
            let f = flip_false c 35 no_hash in
            let g = flip_false c 60 no_angle in
            hash_alone b (c ∷ cs) is (rw (f, g) refl) (symbol_ends NumberSign 0 b c cs (plain_hash c cs h) (λ m lt le s. elim s [
              | hashes x y z ↦ not_same c 35 no_hash refl y
              | hash_less x y z ↦ not_same c 60 no_angle refl y
              | hash_less_equal x y z ↦ not_same c 60 no_angle refl y
              | angle_equal x y z ↦ angle_not_hash b (tells b NumberSign is) x
            ]))
      ]
    ]

not_hash : (b : ℕ) → class b ≡ Angle → b ≡ 35 → ⊥
not_hash b is same = angle_not_hash b same (tells b Angle is)

angle_equal_longest : (b : ℕ) (cs : List ℕ) → class b ≡ Angle → Longest Symbol 2 (b ∷ 61 ∷ cs)
angle_equal_longest b cs is =
    let angle : (b == 60 || b == 62) ≡ true = tells b Angle is in
    longest_of Symbol Angle 2 1 b (61 ∷ cs) is (omega arith) (omega arith) (or_right (b == 35 && (61 == 35 || 61 == 60)) _ (rw angle refl))
    (symbol_ends Angle 1 b 61 cs (λ m some. refl) (λ m lt le s. elim s [
      | hashes x y z ↦ not_hash b is x
      | hash_less x y z ↦ not_hash b is x
      | hash_less_equal x y z ↦ not_hash b is x
      | angle_equal x y z ↦ absurd (omega (arith, size_of m cs [] le z))
    ]))

pub two_longest : (b : ℕ) (bs : List ℕ) → class b ≡ Angle → starts_with nat_eq bs (codes "=") ≡ true
    → Longest Symbol 2 (b ∷ bs)
two_longest b bs is starts =
    let k = starts_one 61 bs starts in rw k.1 (angle_equal_longest b k.0 is)

angle_sign : (b : ℕ) → (b == 60 || b == 62) ≡ true → is_sign b ≡ true
angle_sign b e =
    elim (or_parts (b == 60) (b == 62) e) [
      | inl h ↦ let same : b ≡ 60 = eqb-true b 60 h in rw same refl
      | inr h ↦ let same : b ≡ 62 = eqb-true b 62 h in rw same refl
    ]

pub angle_longest : (b : ℕ) (bs : List ℕ) → class b ≡ Angle → starts_with nat_eq bs (codes "=") ≡ false
    → Longest Symbol 1 (b ∷ bs)
angle_longest b bs is starts =
    longest_of Symbol Angle 1 0 b bs is (omega arith) (omega arith) (angle_sign b (tells b Angle is)) (ends bs starts)
  where
    ends : (bs : List ℕ) → starts_with nat_eq bs (codes "=") ≡ false → Ends Angle 0 b bs
    ends [] starts = no_bytes Angle 0 b
    ends (c ∷ cs) starts = symbol_ends Angle 0 b c cs (λ m some. refl) (λ m lt le s. elim s [
      | hashes x y z ↦ not_hash b is x
      | hash_less x y z ↦ not_hash b is x
      | hash_less_equal x y z ↦ not_hash b is x
      | angle_equal x y z ↦ let P : ℕ
          → Type 0 = λ w. starts_with nat_eq (w ∷ cs) (codes "=") ≡ false in clash true refl (subst P y starts)
    ])

pub sign_longest : (b : ℕ) (bs : List ℕ) → class b ≡ Sign → Longest Symbol 1 (b ∷ bs)
sign_longest b bs is =
    longest_of Symbol Sign 1 0 b bs is (omega arith) (omega arith) (tells b Sign is) (ends bs)
  where
    other : (b == 60 || b == 62) ≡ true → ⊥
    other e = let k : Angle ≡ Sign = sym (angle_class b e) ∙ is in cc

    hash : b ≡ 35 → ⊥
    hash e = let k : NumberSign ≡ Sign = sym (ap class e) ∙ is in cc

    ends : (bs : List ℕ) → Ends Sign 0 b bs
    ends [] = no_bytes Sign 0 b
    ends (c ∷ cs) = symbol_ends Sign 0 b c cs (λ m some. refl) (λ m lt le s. elim s [
      | hashes x y z ↦ hash x
      | hash_less x y z ↦ hash x
      | hash_less_equal x y z ↦ hash x
      | angle_equal x y z ↦ other x
    ])
