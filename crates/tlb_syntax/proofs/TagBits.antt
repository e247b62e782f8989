-- The bits of tags, digit by digit.
use Rattle.std.proofs.Common.{◌≡◌, ◌≢◌, ◌<◌, ◌≤◌, ◌+◌, ◌-◌, ◌*◌, ◌/◌, ◌%◌, ◌^◌, ◌||◌, ℕ, zero, suc, Bool, true, false, List, [], ◌∷◌, ◌++◌, length, map, take, drop, get_or, Some, None, append_assoc, refl, ap, sym, ◌∙◌, arith, lit≤}
use Rattle.std.specs.Prelude.{◌==◌, Option, MatchOption, codes, if◌then◌else◌}
use Rattle.std.specs.List.{flat_map, list_all}
use Rattle.std.specs.Int.Count.{count_trailing_zeros}
use Rattle.std.proofs.Math.Seq.{take-append-add}
use Rattle.std.proofs.lemmas.Bool.Decides.{nat_tests}
use Rattle.std.proofs.lemmas.Grind.{flat_map-append}
use Rattle.std.proofs.lemmas.List.{take_more, map-append, length-append, length-take-le, take-append-le, take-append-drop, append-nil, take_all, at_drop_more, get_or-drop, length-drop, take-take, get_or-take}
use Rattle.std.proofs.lemmas.List.Sums.{AllPass-from_list_all}
use Rattle.bit_slice.specs.Bits.{spelled}
use Rattle.bit_slice.specs.HexLists.{take-spelled}
use Rattle.tlb_lexer.specs.Bytes.{is_hex_digit, is_bit}
use Rattle.tlb_lexer.specs.Spelling.{is_underscore, are_bits, ends_hex}
use Rattle.tlb_syntax.specs.Lexeme.{hex_value, hex_bits, before_completion, without_completion, hex_digits, is_completed, hexadecimal_bits, at_most_1023, and_at_most_1023}
use Rattle.tlb_syntax.specs.Tags.{HasBits, IsCompleted, IsLastNonzero, IsUncompleted}

-- ---- one digit

pub hex_value-small : (d : ℕ) → is_hex_digit d ≡ true → hex_value d < 16
hex_value-small d h = grind (arith, nat_tests, h)

hex_value-nonzero : (d : ℕ) → is_hex_digit d ≡ true → d ≢ 48 → 0 < hex_value d
hex_value-nonzero d h n = grind (arith, nat_tests, h, n)

pub spelled-hex_bits : (d : ℕ) → hex_value d < 16 → spelled 4 (hex_value d) ≡ hex_bits d
unfolding spelled
spelled-hex_bits d h =
    let first : hex_value d / 8 % 2 ≡ hex_value d / 8 = omega arith in
    let last : hex_value d / 1 % 2 ≡ hex_value d % 2 = omega arith in
    λ i. first i ∷ (hex_value d / 4) % 2 ∷ (hex_value d / 2) % 2 ∷ last i ∷ []

pub spelled-bit : (d : ℕ) → is_bit d ≡ true → spelled 1 (d - 48) ≡ (d - 48) ∷ []
unfolding spelled
spelled-bit d h =
    let is : (d - 48) / 1 % 2 ≡ d - 48 = grind (arith, nat_tests, h) in
    λ i. is i ∷ []

pub length-hex_bits : (ds : List ℕ) → length (flat_map hex_bits ds) ≡ 4 * length ds
length-hex_bits [] = refl
length-hex_bits (d ∷ ds) = omega (arith, length-append (hex_bits d) (flat_map hex_bits ds), length-hex_bits ds)

-- ---- loops over digits

pub bits-more : (initial bits new ds : List ℕ) (i : ℕ) → i < length ds → list_all is_hex_digit ds ≡ true
    → bits ≡ initial ++ flat_map hex_bits (take i ds) → new ≡ bits ++ spelled 4 (hex_value (get_or ds i 0))
    → new ≡ initial ++ flat_map hex_bits (take (i + 1) ds)
bits-more initial bits new ds i h all is e =
    let d = get_or ds i 0 in
    let digit = AllPass-from_list_all is_hex_digit ds all i 0 h in
    e ∙ ap (λ x. x ++ spelled 4 (hex_value d)) is ∙ ap (λ x. initial ++ flat_map hex_bits (take i ds) ++ x) (spelled-hex_bits d (hex_value-small d digit))
    ∙ append_assoc initial (flat_map hex_bits (take i ds)) (hex_bits d)
    ∙ ap (λ x. initial ++ x) (sym (ap (flat_map hex_bits) (take_more ds i 0 h) ∙ flat_map-append hex_bits (take i ds) (d ∷ []) ∙ ap (λ x. flat_map hex_bits (take i ds) ++ x) (append-nil (hex_bits d))))

pub room-for_digit : (initial bits ds : List ℕ) (i : ℕ) → i < length ds → length initial + 4 * length ds ≤ 1023
    → bits ≡ initial ++ flat_map hex_bits (take i ds) → length bits + 4 ≤ 1023
room-for_digit initial bits ds i h room is =
    omega (arith, room, ap length is, length-append initial (flat_map hex_bits (take i ds)), length-hex_bits (take i ds), length-take-le i ds (omega arith))

are_bits-all : (ds : List ℕ) → are_bits ds ≡ true → list_all is_bit ds ≡ true
are_bits-all [] h = refl
are_bits-all (d ∷ ds) h = h

not-underscore : (ds : List ℕ) → ds ≢ codes "_" → is_underscore ds ≡ false
not-underscore [] n = refl
not-underscore (d ∷ []) n = grind (arith, nat_tests, n)
not-underscore (d ∷ e ∷ ds) n = refl

digits-of_bits : (ds : List ℕ) → (is_underscore ds || are_bits ds) ≡ true → ds ≢ codes "_" → list_all is_bit ds ≡ true
digits-of_bits ds h n = are_bits-all ds (grind (arith, h, not-underscore ds n))

pub binary-more : (bits new ds : List ℕ) (i : ℕ) → i < length ds → (is_underscore ds || are_bits ds) ≡ true
    → ds ≢ codes "_"
    → bits ≡ map (λ x. x - 48) (take i ds) → new ≡ bits ++ spelled 1 (get_or ds i 0 - 48)
    → new ≡ map (λ x. x - 48) (take (i + 1) ds)
binary-more bits new ds i h all n is e =
    let d = get_or ds i 0 in
    let digit = AllPass-from_list_all is_bit ds (digits-of_bits ds all n) i 0 h in
    e ∙ ap (λ x. x ++ spelled 1 (d - 48)) is ∙ ap (λ x. map (λ y. y - 48) (take i ds) ++ x) (spelled-bit d digit)
    ∙ sym (ap (map (λ x. x - 48)) (take_more ds i 0 h) ∙ map-append (λ x. x - 48) (take i ds) (d ∷ []))

-- ---- at most 1023 bits

pub too-many : (bits : List ℕ) → 1023 < length bits → at_most_1023 bits ≡ None
too-many bits h = grind (arith, nat_tests, h)

pub short-enough : (bits : List ℕ) → length bits ≤ 1023 → at_most_1023 bits ≡ Some bits
short-enough bits h = grind (arith, nat_tests, h)

-- ---- completions

-- bits after others that end in a 1
completed-after : (xs ys r : List ℕ) → without_completion ys ≡ Some r → without_completion (xs ++ ys) ≡ Some (xs ++ r)
completed-after [] ys r h = h
completed-after (x ∷ xs) ys r h = ap (before_completion x) (completed-after xs ys r h)

-- the four bits of a number below 16
abbrev four_bits : ℕ → List ℕ
four_bits v = v / 8 ∷ (v / 4) % 2 ∷ (v / 2) % 2 ∷ v % 2 ∷ []

before-zeros : (v : ℕ) (zs : List ℕ) → without_completion zs ≡ None
    → without_completion (four_bits v ++ zs) ≡ before_completion (v / 8)
    (before_completion ((v / 4) % 2) (before_completion ((v / 2) % 2) (before_completion (v % 2) None)))
before-zeros v zs n = ap (λ o. before_completion (v / 8) (before_completion ((v / 4) % 2) (before_completion ((v / 2) % 2) (before_completion (v % 2) o)))) n

-- a digit other than 0, before bits that are all 0
digit-completed : (v : ℕ) (zs : List ℕ) → v < 16 → 0 < v → without_completion zs ≡ None
    → (without_completion (four_bits v ++ zs) ≡ Some (take (3 - count_trailing_zeros 8 v) (four_bits v)))
    × (count_trailing_zeros 8 v ≤ 3)
unfolding count_trailing_zeros
digit-completed zero zs h e n = absurd (omega arith)
digit-completed (suc zero) zs h e n = (before-zeros 1 zs n, lit≤ tt)
digit-completed (suc (suc zero)) zs h e n = (before-zeros 2 zs n, lit≤ tt)
digit-completed (suc (suc (suc zero))) zs h e n = (before-zeros 3 zs n, lit≤ tt)
digit-completed (suc (suc (suc (suc zero)))) zs h e n = (before-zeros 4 zs n, lit≤ tt)
digit-completed (suc (suc (suc (suc (suc zero))))) zs h e n = (before-zeros 5 zs n, lit≤ tt)
digit-completed (suc (suc (suc (suc (suc (suc zero)))))) zs h e n = (before-zeros 6 zs n, lit≤ tt)
digit-completed (suc (suc (suc (suc (suc (suc (suc zero))))))) zs h e n = (before-zeros 7 zs n, lit≤ tt)
digit-completed (suc (suc (suc (suc (suc (suc (suc (suc zero)))))))) zs h e n = (before-zeros 8 zs n, lit≤ tt)
digit-completed (suc (suc (suc (suc (suc (suc (suc (suc (suc zero))))))))) zs h e n = (before-zeros 9 zs n, lit≤ tt)
digit-completed (suc (suc (suc (suc (suc (suc (suc (suc (suc (suc zero)))))))))) zs h e n = (before-zeros 10 zs n, lit≤ tt)
digit-completed (suc (suc (suc (suc (suc (suc (suc (suc (suc (suc (suc zero))))))))))) zs h e n = (before-zeros 11 zs n, lit≤ tt)
digit-completed (suc (suc (suc (suc (suc (suc (suc (suc (suc (suc (suc (suc zero)))))))))))) zs h e n = (before-zeros 12 zs n, lit≤ tt)
digit-completed (suc (suc (suc (suc (suc (suc (suc (suc (suc (suc (suc (suc (suc zero))))))))))))) zs h e n = (before-zeros 13 zs n, lit≤ tt)
digit-completed (suc (suc (suc (suc (suc (suc (suc (suc (suc (suc (suc (suc (suc (suc zero)))))))))))))) zs h e n = (before-zeros 14 zs n, lit≤ tt)
digit-completed (suc (suc (suc (suc (suc (suc (suc (suc (suc (suc (suc (suc (suc (suc (suc zero))))))))))))))) zs h e n = (before-zeros 15 zs n, lit≤ tt)
digit-completed (suc (suc (suc (suc (suc (suc (suc (suc (suc (suc (suc (suc (suc (suc (suc (suc v)))))))))))))))) zs h e n = absurd (omega arith)

pub no-completion : (ds : List ℕ) → ((k : ℕ) → k < length ds → get_or ds k 0 ≡ 48)
    → without_completion (flat_map hex_bits ds) ≡ None
no-completion [] h = refl
no-completion (d ∷ ds) h =
    let first : d ≡ 48 = h 0 (omega arith) in
    let rest = no-completion ds (λ k l. h (suc k) (omega arith)) in
    ap (λ x. without_completion (hex_bits x ++ flat_map hex_bits ds)) first ∙ before-zeros 0 (flat_map hex_bits ds) rest

-- digits by their last other than 0
pub trailing-short : (ds : List ℕ) (i : ℕ) → IsLastNonzero ds i → list_all is_hex_digit ds ≡ true
    → count_trailing_zeros 8 (hex_value (get_or ds i 0)) ≤ 3
trailing-short ds i l all =
    let digit = AllPass-from_list_all is_hex_digit ds all i 0 l.within in
    (digit-completed (hex_value (get_or ds i 0)) [] (hex_value-small (get_or ds i 0) digit) (hex_value-nonzero (get_or ds i 0) digit l.nonzero) refl).1

split-at : (ds : List ℕ) (i : ℕ) → i < length ds → ds ≡ take i ds ++ (get_or ds i 0 ∷ drop (i + 1) ds)
split-at ds i h = sym (take-append-drop i ds) ∙ at_drop_more (λ x. take i ds ++ x) ds i 0 h

hex_bits-split : (ds : List ℕ) (i : ℕ) → i < length ds
    → flat_map hex_bits ds ≡ flat_map hex_bits (take i ds) ++
    (hex_bits (get_or ds i 0) ++ flat_map hex_bits (drop (i + 1) ds))
hex_bits-split ds i h = ap (flat_map hex_bits) (split-at ds i h) ∙ flat_map-append hex_bits (take i ds) (get_or ds i 0 ∷ drop (i + 1) ds)

-- the first bits are those of whole digits and of a part of the next one
pub take-hex_bits : (ds : List ℕ) (i m : ℕ) → i < length ds → m ≤ 4
    → take (4 * i + m) (flat_map hex_bits ds) ≡ flat_map hex_bits (take i ds) ++ take m (hex_bits (get_or ds i 0))
take-hex_bits ds i m h short =
    let prefix = flat_map hex_bits (take i ds) in
    let later = hex_bits (get_or ds i 0) ++ flat_map hex_bits (drop (i + 1) ds) in
    let size : length prefix ≡ 4 * i = length-hex_bits (take i ds) ∙ ap (λ n. 4 * n) (length-take-le i ds (omega arith)) in
    ap (take (4 * i + m)) (hex_bits-split ds i h) ∙ ap (λ n. take (n + m) (prefix ++ later)) (sym size)
    ∙ take-append-add prefix later m ∙ ap (λ x. prefix ++ x) (take-append-le m (hex_bits (get_or ds i 0)) (flat_map hex_bits (drop (i + 1) ds)) short)

pub completion : (ds : List ℕ) (i : ℕ) → IsLastNonzero ds i → list_all is_hex_digit ds ≡ true
    → without_completion (flat_map hex_bits ds) ≡ Some
    (take (4 * i + 3 - count_trailing_zeros 8 (hex_value (get_or ds i 0))) (flat_map hex_bits ds))
completion ds i l all =
    let d = get_or ds i 0 in
    let digit = AllPass-from_list_all is_hex_digit ds all i 0 l.within in
    let zeros = no-completion (drop (i + 1) ds) (λ k h. get_or-drop (i + 1) ds k 0 ∙ l.zeros (i + 1 + k) (omega arith) (omega (arith, h, length-drop (i + 1) ds))) in
    let one = digit-completed (hex_value d) (flat_map hex_bits (drop (i + 1) ds)) (hex_value-small d digit) (hex_value-nonzero d digit l.nonzero) zeros in
    let part : 4 * i + (3 - count_trailing_zeros 8 (hex_value d)) ≡ 4 * i + 3 - count_trailing_zeros 8 (hex_value d) = omega (arith, one.1) in
    let some : List ℕ → Option (List ℕ) = λ x. Some x in
    ap without_completion (hex_bits-split ds i l.within)
    ∙ completed-after (flat_map hex_bits (take i ds)) (hex_bits d ++ flat_map hex_bits (drop (i + 1) ds)) (take (3 - count_trailing_zeros 8 (hex_value d)) (hex_bits d)) one.0
    ∙ ap some (sym (take-hex_bits ds i (3 - count_trailing_zeros 8 (hex_value d)) l.within (omega arith)) ∙ ap (λ n. take n (flat_map hex_bits ds)) part)

-- too many bits stand before the last 1
pub long-completion : (ds : List ℕ) (i : ℕ) → IsLastNonzero ds i → list_all is_hex_digit ds ≡ true → 255 < i
    → and_at_most_1023 (without_completion (flat_map hex_bits ds)) ≡ None
long-completion ds i l all long =
    let short = trailing-short ds i l all in
    let n = 4 * i + 3 - count_trailing_zeros 8 (hex_value (get_or ds i 0)) in
    let size : length (take n (flat_map hex_bits ds)) ≡ n = length-take-le n (flat_map hex_bits ds) (omega (arith, length-hex_bits ds, l.within)) in
    ap and_at_most_1023 (completion ds i l all) ∙ too-many (take n (flat_map hex_bits ds)) (omega (arith, short, size, long))

-- ---- an underscore after digits

underscore-after : (prefix : List ℕ)
    → (is_completed (prefix ++ codes "_") ≡ true) × (hex_digits (prefix ++ codes "_") ≡ prefix)
underscore-after [] = (refl, refl)
underscore-after (d ∷ []) = (refl, refl)
underscore-after (d ∷ e ∷ ds) =
    let rest = underscore-after (e ∷ ds) in
    (rest.0, ap (λ x. d ∷ x) rest.1)

not-completed : (ds : List ℕ) → ((prefix : List ℕ) → ds ≢ prefix ++ codes "_") → is_completed ds ≡ false
not-completed [] h = refl
not-completed (d ∷ []) h = ap (λ b. if b then true else false) (not-underscore (d ∷ []) (h []))
not-completed (d ∷ e ∷ ds) h = not-completed (e ∷ ds) (λ prefix is. h (d ∷ prefix) (ap (λ x. d ∷ x) is))

digits-before_underscore : (prefix : List ℕ) → ends_hex (prefix ++ codes "_") ≡ true
    → list_all is_hex_digit prefix ≡ true
digits-before_underscore [] h = refl
digits-before_underscore (d ∷ []) h = grind (arith, h)
digits-before_underscore (d ∷ e ∷ ds) h =
    let rest = digits-before_underscore (e ∷ ds) (grind (arith, h)) in
    grind (arith, h, rest)

digits-all : (ds : List ℕ) → ends_hex ds ≡ true → ((prefix : List ℕ) → ds ≢ prefix ++ codes "_")
    → list_all is_hex_digit ds ≡ true
digits-all [] h n = refl
digits-all (d ∷ []) h n =
    let other : (d == 95) ≡ false = not-underscore (d ∷ []) (n []) in
    grind (arith, h, other)
digits-all (d ∷ e ∷ ds) h n =
    let rest = digits-all (e ∷ ds) (grind (arith, h)) (λ prefix is. n (d ∷ prefix) (ap (λ x. d ∷ x) is)) in
    grind (arith, h, rest)

pub digits-prefix : (digits prefix : List ℕ) → digits ≡ prefix ++ codes "_" → ends_hex digits ≡ true
    → list_all is_hex_digit prefix ≡ true
digits-prefix digits prefix is h = digits-before_underscore prefix (sym (ap ends_hex is) ∙ h)

list_all-take : (p : ℕ → Bool) (n : ℕ) (xs : List ℕ) → list_all p xs ≡ true → list_all p (take n xs) ≡ true
list_all-take p zero xs h = refl
list_all-take p (suc n) [] h = refl
list_all-take p (suc n) (x ∷ xs) h =
    let rest = list_all-take p n xs (grind (arith, h)) in
    grind (arith, h, rest)

-- ---- how many bits

whole-bits : (ds : List ℕ) → ((prefix : List ℕ) → ds ≢ prefix ++ codes "_")
    → hexadecimal_bits ds ≡ at_most_1023 (flat_map hex_bits ds)
whole-bits ds n =
    ap (λ b. if b then Some [] else if is_completed ds then and_at_most_1023 (without_completion (flat_map hex_bits (hex_digits ds))) else at_most_1023 (flat_map hex_bits ds)) (not-underscore ds (n []))
    ∙ ap (λ b. if b then and_at_most_1023 (without_completion (flat_map hex_bits (hex_digits ds))) else at_most_1023 (flat_map hex_bits ds)) (not-completed ds n)

pub too-many-digits : (ds : List ℕ) → ((prefix : List ℕ) → ds ≢ prefix ++ codes "_") → 255 < length ds
    → hexadecimal_bits ds ≡ None
too-many-digits ds n long = whole-bits ds n ∙ too-many (flat_map hex_bits ds) (omega (arith, long, length-hex_bits ds))

pub HasBits-whole : (ds : List ℕ) → ends_hex ds ≡ true → ((prefix : List ℕ) → ds ≢ prefix ++ codes "_")
    → length ds ≤ 255 → HasBits ds (4 * length ds)
HasBits-whole ds h n short =
    let some : List ℕ → Option (List ℕ) = λ x. Some x in
    record {
      short = omega arith;
      within = omega arith;
      are_digits = list_all-take is_hex_digit ((4 * length ds + 3) / 4) ds (digits-all ds h n);
      bits = whole-bits ds n ∙ short-enough (flat_map hex_bits ds) (omega (arith, short, length-hex_bits ds))
          ∙ ap some (sym (take_all (4 * length ds) (flat_map hex_bits ds) (omega (arith, length-hex_bits ds))));
    }

pub HasBits-none : (digits prefix : List ℕ) → digits ≡ prefix ++ codes "_" → prefix ≡ [] → HasBits digits 0
HasBits-none digits prefix is none =
    let alone : digits ≡ codes "_" = is ∙ ap (λ x. x ++ codes "_") none in
    record { short = omega arith; within = omega arith; are_digits = refl; bits = ap hexadecimal_bits alone }

completed-bits : (digits prefix : List ℕ) → digits ≡ prefix ++ codes "_" → prefix ≢ []
    → hexadecimal_bits digits ≡ and_at_most_1023 (without_completion (flat_map hex_bits prefix))
completed-bits digits [] is n = absurd (n refl)
completed-bits digits (d ∷ []) is n = ap hexadecimal_bits is
completed-bits digits (d ∷ e ∷ ds) is n =
    let u = underscore-after (e ∷ ds) in
    ap hexadecimal_bits is
    ∙ ap (λ b. if b then and_at_most_1023 (without_completion (flat_map hex_bits (d ∷ hex_digits (e ∷ ds ++ codes "_")))) else at_most_1023 (flat_map hex_bits (d ∷ e ∷ ds ++ codes "_"))) u.0
    ∙ ap (λ x. and_at_most_1023 (without_completion (flat_map hex_bits (d ∷ x)))) u.1

pub no-bits : (digits prefix : List ℕ) → digits ≡ prefix ++ codes "_" → prefix ≢ []
    → and_at_most_1023 (without_completion (flat_map hex_bits prefix)) ≡ None → hexadecimal_bits digits ≡ None
no-bits digits prefix is n none = completed-bits digits prefix is n ∙ none

pub HasBits-completed : (digits prefix : List ℕ) (n : ℕ) → digits ≡ prefix ++ codes "_" → prefix ≢ []
    → ends_hex digits ≡ true
    → IsCompleted prefix n → HasBits digits n
HasBits-completed digits prefix n is some_prefix h done =
    let short = done.short in
    let within = done.within in
    let size : length digits ≡ length prefix + 1 = ap length is ∙ length-append prefix (codes "_") in
    let some : List ℕ → Option (List ℕ) = λ x. Some x in
    let same : take n (flat_map hex_bits digits) ≡ take n (flat_map hex_bits prefix) =
    ap (λ x. take n (flat_map hex_bits x)) is ∙ ap (take n) (flat_map-append hex_bits prefix (codes "_"))
    ∙ take-append-le n (flat_map hex_bits prefix) (flat_map hex_bits (codes "_")) (omega (arith, within, length-hex_bits prefix)) in
    record {
      short = short;
      within = omega (arith, size, within);
      are_digits = ap (λ x. list_all is_hex_digit (take ((n + 3) / 4) x)) is
          ∙ ap (list_all is_hex_digit) (take-append-le ((n + 3) / 4) prefix (codes "_") (omega (arith, within)))
          ∙ list_all-take is_hex_digit ((n + 3) / 4) prefix (digits-prefix digits prefix is h);
      bits = completed-bits digits prefix is some_prefix ∙ ap and_at_most_1023 done.bits
          ∙ short-enough (take n (flat_map hex_bits prefix)) (omega (arith, short, length-take-le n (flat_map hex_bits prefix) (omega (arith, within, length-hex_bits prefix))))
          ∙ ap some (sym same);
    }

-- ---- the first bits of digits

pub part-fits : (v m : ℕ) → v < 16 → m ≤ 3 → v / 2 ^ (4 - m) < 2 ^ m
part-fits v zero h l = omega arith
part-fits v (suc zero) h l = omega arith
part-fits v (suc (suc zero)) h l = omega arith
part-fits v (suc (suc (suc zero))) h l = omega arith
part-fits v (suc (suc (suc (suc m)))) h l = absurd (omega arith)

pub prefix-digits : (ds : List ℕ) (n : ℕ) → list_all is_hex_digit (take ((n + 3) / 4) ds) ≡ true
    → list_all is_hex_digit (take (n / 4) ds) ≡ true
prefix-digits ds n h =
    let both : take (n / 4) (take ((n + 3) / 4) ds) ≡ take (n / 4) ds = take-take (n / 4) ((n + 3) / 4) ds (omega arith) in
    sym (ap (list_all is_hex_digit) both) ∙ list_all-take is_hex_digit (n / 4) (take ((n + 3) / 4) ds) h

pub next-is_digit : (ds : List ℕ) (n : ℕ) → n ≤ 4 * length ds → 0 < n % 4
    → list_all is_hex_digit (take ((n + 3) / 4) ds) ≡ true → is_hex_digit (get_or ds (n / 4) 0) ≡ true
next-is_digit ds n within part h =
    let size = length-take-le ((n + 3) / 4) ds (omega arith) in
    sym (ap is_hex_digit (get_or-take ((n + 3) / 4) ds (n / 4) 0 (omega arith)))
    ∙ AllPass-from_list_all is_hex_digit (take ((n + 3) / 4) ds) h (n / 4) 0 (omega (arith, size))

pub prefix-whole : (initial bits ds : List ℕ) (n : ℕ) → n ≤ 4 * length ds → n % 4 ≤ 0
    → bits ≡ initial ++ flat_map hex_bits (take (n / 4) ds) → bits ≡ initial ++ take n (flat_map hex_bits ds)
prefix-whole initial bits ds n within whole is =
    let prefix = flat_map hex_bits (take (n / 4) ds) in
    let size : length prefix ≡ n = omega (arith, length-hex_bits (take (n / 4) ds), length-take-le (n / 4) ds (omega arith)) in
    let all : flat_map hex_bits ds ≡ prefix ++ flat_map hex_bits (drop (n / 4) ds) = sym (ap (flat_map hex_bits) (take-append-drop (n / 4) ds)) ∙ flat_map-append hex_bits (take (n / 4) ds) (drop (n / 4) ds) in
    is ∙ ap (λ x. initial ++ x) (sym (ap (take n) all ∙ take-append-le n prefix (flat_map hex_bits (drop (n / 4) ds)) (omega (arith, size)) ∙ take_all n prefix (omega (arith, size))))

pub prefix-part : (initial bits new ds : List ℕ) (n v : ℕ) → n ≤ 4 * length ds → 0 < n % 4
    → v ≡ hex_value (get_or ds (n / 4) 0) → v < 16
    → bits ≡ initial ++ flat_map hex_bits (take (n / 4) ds) → new ≡ bits ++ spelled (n % 4) (v / 2 ^ (4 - n % 4))
    → new ≡ initial ++ take n (flat_map hex_bits ds)
prefix-part initial bits new ds n v within part value small is more =
    let prefix = flat_map hex_bits (take (n / 4) ds) in
    let d = get_or ds (n / 4) 0 in
    let last : spelled (n % 4) (v / 2 ^ (4 - n % 4)) ≡ take (n % 4) (hex_bits d) =
    sym (take-spelled (n % 4) 4 v (omega arith)) ∙ ap (λ x. take (n % 4) (spelled 4 x)) value ∙ ap (take (n % 4)) (spelled-hex_bits d (omega (arith, value, small))) in
    let count : 4 * (n / 4) + n % 4 ≡ n = omega arith in
    more ∙ ap (λ x. x ++ spelled (n % 4) (v / 2 ^ (4 - n % 4))) is ∙ ap (λ x. initial ++ prefix ++ x) last ∙ append_assoc initial prefix (take (n % 4) (hex_bits d))
    ∙ ap (λ x. initial ++ x) (sym (take-hex_bits ds (n / 4) (n % 4) (omega arith) (omega arith)) ∙ ap (λ k. take k (flat_map hex_bits ds)) count)

-- ---- answers

pub HasBits-counted : (digits prefix : List ℕ) (found : Option ℕ) → digits ≡ prefix ++ codes "_" → prefix ≢ []
    → ends_hex digits ≡ true
    → MatchOption found (IsUncompleted prefix) (λ n. IsCompleted prefix n)
    → MatchOption found (hexadecimal_bits digits ≡ None) (λ n. HasBits digits n)
HasBits-counted digits prefix None is n h found = no-bits digits prefix is n found
HasBits-counted digits prefix (Some k) is n h found = HasBits-completed digits prefix k is n h found

pub no-elements : (xs : List ℕ) → (length xs == 0) ≡ true → xs ≡ []
no-elements [] h = refl
no-elements (x ∷ xs) h = absurd (grind (arith, nat_tests, h))
