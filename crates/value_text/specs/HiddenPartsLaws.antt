-- The parts of a hidden part's bytes.
use Rattle.std.proofs.Common.{◌≡◌, ◌≢◌, ℕ, ◌+◌, ◌^◌, ◌<◌, ◌≤◌, Bool, true, false, List, [], ◌∷◌, ◌++◌, length, take, drop, get_or, decimal, Some, refl, sym, ap, ◌∙◌, subst, arith, append_assoc, Ok, if◌then◌else◌, ◌==◌}
use Rattle.std.specs.Char.{is_ascii_digit}
use Rattle.std.specs.List.{list_all}
use Rattle.std.specs.Str.Parse.{digits_value}
use Rattle.std.proofs.lemmas.Bool.{ne_eqb}
use Rattle.std.proofs.lemmas.Bool.Decides.{nat_tests}
use Rattle.std.proofs.lemmas.List.{drop_at, length-append, take_at, take_more}
use Rattle.hex.specs.Hex.{decode_sized, encode_lower}
use Rattle.value_text.specs.declared.lexeme.Form.TheVariants as forms
use Rattle.value_text.specs.declared.lexeme.Lexeme.TheVariants.{Hidden, Number}
use Rattle.value_text.specs.declared.spot.Spot.{Spot}
use Rattle.value_text.specs.declared.spot.Spot.TheVariants.{Start}
use Rattle.value_text.specs.Lexemes.{Spells, SpellsBeyond}
use Rattle.value_text.specs.Writes.{AreBytes}
use Rattle.value_text.specs.LexemePoints.{IsDeep, IsHashText, IsHashThen, IsNumber, IsZero, deep_digits, deep_zero, next, signed, walk}
use Rattle.value_text.specs.Walks.{walk-one, walk-then}
use Rattle.value_text.specs.DecimalsLaws.{count_digits, decimal_count}
use Rattle.value_text.specs.HashDigitsLaws.{decoded, length-encode}
use Rattle.value_text.specs.LexemeKeptLaws.{hidden_beyond, hidden_within, number_spelling, number_within}
use Rattle.value_text.specs.PathKeptLaws.{zero_text}

pub record DeepParts (bytes : List ℕ) : Type 0 where
  pub digits : List ℕ
  pub hashed : IsHashThen (46 ∷ digits) bytes
  pub are_digits : list_all is_ascii_digit digits ≡ true
  pub text : digits_value 10 digits < 2 ^ 16 → digits ≡ decimal (digits_value 10 digits)
  pub beyond : 2 ^ 16 ≤ digits_value 10 digits → SpellsBeyond forms.Hidden bytes

zero_value : digits_value 10 (48 ∷ []) ≡ 0
zero_value = refl

pub deep_parts : (bytes : List ℕ) → IsDeep bytes → DeepParts bytes
deep_parts bytes (deep_zero h) = record {
  digits = 48 ∷ [];
  hashed = h;
  are_digits = refl;
  text = λ _. zero_text ∙ ap decimal (sym zero_value);
  beyond = λ l. absurd (omega (arith, zero_value));
}
deep_parts bytes (deep_digits h) = record {
  digits = h.digits;
  hashed = h.hashed;
  are_digits = count_digits h.digits h.is_count;
  text = λ l. decimal_count h.digits h.is_count h.some (omega arith);
  beyond = λ l. hidden_beyond bytes h l;
}

pub hash_length : (hash : List ℕ) → length hash ≡ 32 → length (encode_lower hash) ≡ 64
hash_length hash e = let n = length-encode hash in omega arith

pub hash_range : (bytes : List ℕ) (p : DeepParts bytes) → take 64 (drop 1 bytes) ≡ encode_lower p.hashed.hash
hash_range bytes p =
    ap (λ (b : List ℕ). take 64 (drop 1 b)) p.hashed.whole
    ∙ take_at (encode_lower p.hashed.hash) (46 ∷ p.digits) 64 (hash_length p.hashed.hash p.hashed.size)

pub digits_range : (bytes : List ℕ) (p : DeepParts bytes) → drop 66 bytes ≡ p.digits
digits_range bytes p =
    let front : List ℕ = 63 ∷ encode_lower p.hashed.hash ++ 46 ∷ [] in
    let size : length front ≡ 66 = let n = hash_length p.hashed.hash p.hashed.size in let m = length-append (63 ∷ encode_lower p.hashed.hash) (46 ∷ []) in omega arith in
    ap (drop 66) (p.hashed.whole ∙ sym (append_assoc (63 ∷ encode_lower p.hashed.hash) (46 ∷ []) p.digits)) ∙ drop_at front p.digits 66 size

pub deep_length : (bytes : List ℕ) (p : DeepParts bytes) → 66 ≤ length bytes
deep_length bytes p =
    let n = hash_length p.hashed.hash p.hashed.size in
    let m = length-append (63 ∷ encode_lower p.hashed.hash) (46 ∷ p.digits) in
    let e : length bytes ≡ length (63 ∷ encode_lower p.hashed.hash ++ 46 ∷ p.digits) = ap length p.hashed.whole in
    omega arith

pub hash_text : (bytes : List ℕ) (p : DeepParts bytes) → IsHashText (take 64 (drop 1 bytes))
hash_text bytes p = record { hash = p.hashed.hash; size = p.hashed.size; are_bytes = p.hashed.are_bytes; whole = hash_range bytes p }

-- the same part, by its hash as it was decoded
pub with_hash : (bytes : List ℕ) (p : DeepParts bytes) (hash : List ℕ) → length hash ≡ 32 → AreBytes hash → take 64 (drop 1 bytes) ≡ encode_lower hash
    → IsHashThen (46 ∷ p.digits) bytes
with_hash bytes p hash e h t = record {
  hash = hash;
  size = e;
  are_bytes = h;
  whole = p.hashed.whole ∙ ap (λ (x : List ℕ). 63 ∷ x ++ 46 ∷ p.digits) (sym (hash_range bytes p) ∙ t);
}

pub part_within : (bytes : List ℕ) (p : DeepParts bytes) (hash : List ℕ) (depth : ℕ) → length hash ≡ 32 → AreBytes hash
    → take 64 (drop 1 bytes) ≡ encode_lower hash → depth ≡ digits_value 10 p.digits → depth < 2 ^ 16
    → Spells (Hidden (record { hash = hash; depth = depth })) bytes
unfolding with_hash
part_within bytes p hash depth e h t d l =
    hidden_within bytes p.digits depth (with_hash bytes p hash e h t) l (p.text (omega arith) ∙ ap decimal (sym d))

-- ---- numbers

-- the first byte tells the sign
pub sign_told : (bytes : List ℕ) (h : IsNumber bytes) → (get_or bytes 0 0 == 45) ≡ h.negative
sign_told bytes h = ap (λ (b : List ℕ). get_or b 0 0 == 45) h.whole ∙ by_sign h.negative
  where
    first : (ds : List ℕ) → list_all is_ascii_digit ds ≡ true → 0 < length ds → (get_or ds 0 0 == 45) ≡ false
    first [] a s = absurd (omega arith)
    first (d ∷ ds) a s = grind (arith, nat_tests)

    by_sign : (negative : Bool) → (get_or (signed negative h.digits) 0 0 == 45) ≡ negative
    by_sign true = refl
    by_sign false = first h.digits (count_digits h.digits h.is_count) h.some

pub zero_told : (bytes : List ℕ) (h : IsZero bytes) → (get_or bytes 0 0 == 45) ≡ h.negative
zero_told bytes h = ap (λ (b : List ℕ). get_or b 0 0 == 45) h.whole ∙ by_sign h.negative
  where
    by_sign : (negative : Bool) → (get_or (signed negative (48 ∷ [])) 0 0 == 45) ≡ negative
    by_sign true = refl
    by_sign false = refl

-- a zero, by the sign that its first byte tells
pub zero_spells : (bytes : List ℕ) → IsZero bytes → Spells (Number (record { negative = get_or bytes 0 0 == 45; size = 0 })) bytes
zero_spells bytes h =
    let P : Bool → Type 0 = λ t. Spells (Number (record { negative = t; size = 0 })) bytes in
    subst P (sym (zero_told bytes h)) (omega arith, h.whole ∙ number_spelling h.negative 0 (48 ∷ []) zero_text)

-- the digits of a number, by the sign that its first byte tells
pub digits_told : (bytes : List ℕ) (h : IsNumber bytes) → (if get_or bytes 0 0 == 45 then drop 1 bytes else bytes) ≡ h.digits
digits_told bytes h = ap (λ (t : Bool). if t then drop 1 bytes else bytes) (sign_told bytes h) ∙ by_sign h.negative h.whole
  where
    by_sign : (negative : Bool) → bytes ≡ signed negative h.digits → (if negative then drop 1 bytes else bytes) ≡ h.digits
    by_sign true e = ap (drop 1) e
    by_sign false e = e

pub number_spells : (bytes : List ℕ) (h : IsNumber bytes) (size : ℕ) → size ≡ digits_value 10 h.digits → size < 2 ^ 128
    → Spells (Number (record { negative = get_or bytes 0 0 == 45; size = size })) bytes
number_spells bytes h size e l =
    let P : Bool → Type 0 = λ t. Spells (Number (record { negative = t; size = size })) bytes in
    let Q : ℕ → Type 0 = λ n. Spells (Number (record { negative = h.negative; size = n })) bytes in
    subst P (sym (sign_told bytes h)) (subst Q (sym e) (number_within bytes h (omega arith)))

-- ---- for the loop over bytes

pub walk_more : (text : List ℕ) (i : ℕ) (p q : Spot) (c : ℕ) → i < length text → c ≡ get_or text i 0 → walk Start (take i text) ≡ Some p → next p c ≡ Some q
    → walk Start (take (i + 1) text) ≡ Some q
walk_more text i p q c l e w n =
    ap (walk Start) (take_more text i 0 l ∙ ap (λ (x : ℕ). take i text ++ x ∷ []) (sym e)) ∙ walk-then next Start p (take i text) (c ∷ []) w ∙ walk-one next p q c n

pub length_deep : (bytes : List ℕ) → IsDeep bytes → 66 ≤ length bytes
length_deep bytes h = deep_length bytes (deep_parts bytes h)

-- what is decoded of the digits of a hash
pub hash_decoded : (digits : List ℕ) (h : IsHashText digits) → decode_sized digits 32 ≡ Ok h.hash
hash_decoded digits h = ap (λ (d : List ℕ). decode_sized d 32) h.whole ∙ decoded h.hash h.size h.are_bytes

pub told_negative : (bytes : List ℕ) (h : IsNumber bytes) → get_or bytes 0 0 ≡ 45 → drop 1 bytes ≡ h.digits
told_negative bytes h e =
    let t : (get_or bytes 0 0 == 45) ≡ true = ap (λ (x : ℕ). x == 45) e in
    sym (ap (λ (b : Bool). if b then drop 1 bytes else bytes) t) ∙ digits_told bytes h

pub told_positive : (bytes : List ℕ) (h : IsNumber bytes) → get_or bytes 0 0 ≢ 45 → bytes ≡ h.digits
told_positive bytes h n =
    let t : (get_or bytes 0 0 == 45) ≡ false = ne_eqb (get_or bytes 0 0) 45 n in
    sym (ap (λ (b : Bool). if b then drop 1 bytes else bytes) t) ∙ digits_told bytes h
