-- The spelling of a lexeme leads to where it may end.
use Rattle.std.proofs.Common.{◌≡◌, ◌≢◌, ⊎_elim, ℕ, suc, ◌+◌, ◌*◌, ◌/◌, ◌%◌, ◌^◌, ◌<◌, ◌≤◌, ◌==◌, Bool, true, false, ◌&&◌, not, nat_lt, List, [], ◌∷◌, ◌++◌, length, decimal, Option, Some, None, if◌then◌else◌, refl, sym, ap, ◌∙◌, subst, arith}
use Rattle.std.specs.Char.{is_ascii_alphabetic, is_ascii_digit}
use Rattle.std.specs.List.{list_all}
use Rattle.std.proofs.lemmas.Bool.{eqb-true, and_parts, or_cases, cases_eq, ne_eqb, lt-ltb}
use Rattle.std.proofs.lemmas.Bool.Decides.{nat_tests}
use Rattle.std.proofs.lemmas.Fmt.{decimal_by_steps_wide}
use Rattle.hex.specs.Hex.{encode_lower}
use Rattle.bit_slice.specs.Bits.{AreBits, hex_text}
use Rattle.bit_slice.specs.HexLists.{AreDigits, is_hex_digit}
use Rattle.bit_slice.specs.Names.{IsName, is_count, is_name_byte}
use Rattle.value_text.specs.declared.lexeme.Sign.{Sign}
use Rattle.value_text.specs.declared.lexeme.Sign.TheVariants.{OpenBrace, CloseBrace, OpenBracket, CloseBracket, OpenParen, CloseParen, Less, Greater, Comma, Colon, Tilde, Caret, Bang, Percent}
use Rattle.value_text.specs.declared.lexeme.Form.{Form}
use Rattle.value_text.specs.declared.lexeme.Form.TheVariants as forms
use Rattle.value_text.specs.declared.lexeme.Lexeme.{Lexeme}
use Rattle.value_text.specs.declared.lexeme.Lexeme.TheVariants.{Sign as ASign, Number, Bits, Name, Hidden, Beyond}
use Rattle.value_text.specs.declared.spot.Spot.{Spot}
use Rattle.value_text.specs.declared.spot.Spot.TheVariants.{Start, Minus, Zero, Digits, X, Letters, Blank, Count, BitDigits, Marked, Closed, Hash, Dot, DepthZero, DepthDigits, Signed}
use Rattle.value_text.specs.Tokens.{bits, number, spelling}
use Rattle.value_text.specs.Writes.{AreBytes}
use Rattle.value_text.specs.BitsTextLaws.{DigitsForm, digits-form, is_markable, last_digit, marked_digits, plain_digits}
use Rattle.value_text.specs.Lexemes.{IsLongNumber, Spells, SpellsBeyond, sign_byte}
use Rattle.value_text.specs.LexemePoints.{AreLower, begun, is_end, is_lower_digit, next, walk}
use Rattle.value_text.specs.Walks.{walk-more, walk-one, walk-then}
use Rattle.value_text.specs.HashDigitsLaws.{length-encode, lower-encode}

-- the bytes lead to a spot at which a lexeme may end
pub record Ends (p : Spot) (bytes : List ℕ) : Type 0 where
  pub spot : Spot
  pub leads : walk p bytes ≡ Some spot
  pub whole : is_end spot ≡ true

ends_at : (p q : Spot) (bytes : List ℕ) → walk p bytes ≡ Some q → is_end q ≡ true → Ends p bytes
ends_at p q bytes e h = record { spot = q; leads = e; whole = h }

ends_after : (p q : Spot) (c : ℕ) (cs : List ℕ) → next p c ≡ Some q → Ends q cs → Ends p (c ∷ cs)
ends_after p q c cs e h = record { spot = h.spot; leads = walk-more next p q c cs e ∙ h.leads; whole = h.whole }

ends_then : (p q : Spot) (xs ys : List ℕ) → walk p xs ≡ Some q → Ends q ys → Ends p (xs ++ ys)
ends_then p q xs ys e h = record { spot = h.spot; leads = walk-then next p q xs ys e ∙ h.leads; whole = h.whole }

when_true : (b : Bool) (x y : Option Spot) → b ≡ true → (if b then x else y) ≡ x
when_true b x y e = ap (λ (t : Bool). if t then x else y) e

when_false : (b : Bool) (x y : Option Spot) → b ≡ false → (if b then x else y) ≡ y
when_false b x y e = ap (λ (t : Bool). if t then x else y) e

-- ---- runs of one kind of byte

-- a spot that a kind of byte leads back to
stays : (p : Spot) (f : ℕ → Bool) (cs : List ℕ) → ((c : ℕ) → f c ≡ true → next p c ≡ Some p) → list_all f cs ≡ true → walk p cs ≡ Some p
stays p f [] back h = refl
stays p f (c ∷ cs) back h =
    let parts = and_parts (f c) (list_all f cs) h in
    walk-more next p p c cs (back c parts.0) ∙ stays p f cs back parts.1

in_letters : (c : ℕ) → is_name_byte c ≡ true → next Letters c ≡ Some Letters
in_letters c h = when_true (is_name_byte c) (Some Letters) None h

in_count : (c : ℕ) → is_ascii_digit c ≡ true → next Count c ≡ Some Count
in_count c h = when_true (is_ascii_digit c) (Some Count) None h

in_digits : (c : ℕ) → is_ascii_digit c ≡ true → next Digits c ≡ Some Digits
in_digits c h = when_true (is_ascii_digit c) (Some Digits) None h

in_depth : (c : ℕ) → is_ascii_digit c ≡ true → next DepthDigits c ≡ Some DepthDigits
in_depth c h = when_true (is_ascii_digit c) (Some DepthDigits) None h

-- ---- names

not_brace : (c : ℕ) → is_name_byte c ≡ true → (c == 123) ≡ false
not_brace c h = ne_eqb c 123 (λ e.
    let no : false ≡ true = ap (λ (x : ℕ). is_name_byte x) (sym e) ∙ h in
    absurd (cc))

x_ends : (cs : List ℕ) → list_all is_name_byte cs ≡ true → Ends X cs
x_ends [] h = ends_at X X [] refl refl
x_ends (c ∷ cs) h =
    let parts = and_parts (is_name_byte c) (list_all is_name_byte cs) h in
    ends_after X Letters c cs (when_false (c == 123) (Some (BitDigits 48)) _ (not_brace c parts.0) ∙ in_letters c parts.0)
    (ends_at Letters Letters cs (stays Letters is_name_byte cs in_letters parts.1) refl)

blank_ends : (cs : List ℕ) → is_count cs ≡ true → Ends Blank cs
blank_ends [] h = ends_at Blank Blank [] refl refl
blank_ends (c ∷ cs) h =
    let parts = and_parts (is_ascii_digit c && not (c == 48)) (list_all is_ascii_digit cs) h in
    ends_after Blank Count c cs (when_true (is_ascii_digit c && not (c == 48)) (Some Count) None parts.0)
    (ends_at Count Count cs (stays Count is_ascii_digit cs in_count parts.1) refl)

letter_begins : (c : ℕ) → c ≢ 120 → is_ascii_alphabetic c ≡ true → begun c ≡ Some Letters
letter_begins c n h =
    let a : (c == 45) ≡ false = grind (arith, nat_tests) in
    let b : (c == 48) ≡ false = grind (arith, nat_tests) in
    let d : is_ascii_digit c ≡ false = grind (arith, nat_tests) in
    let x : (c == 120) ≡ false = ne_eqb c 120 n in
    rw (a, b, d, x, h) refl

letters_end : (c : ℕ) (cs : List ℕ) → is_ascii_alphabetic c ≡ true → list_all is_name_byte cs ≡ true → Ends Start (c ∷ cs)
letters_end c cs h t = ⊎_elim
    (λ (e : c ≡ 120). ends_after Start X c cs (ap begun e) (x_ends cs t))
    (λ (e : c ≢ 120).
    ends_after Start Letters c cs (letter_begins c e h) (ends_at Letters Letters cs (stays Letters is_name_byte cs in_letters t) refl))
    (cases_eq c 120)

name_ends : (name : List ℕ) → IsName name → Ends Start name
name_ends [] h = absurd (cc)
name_ends (c ∷ cs) h = ⊎_elim
    (λ (a : (is_ascii_alphabetic c && list_all is_name_byte cs) ≡ true).
    let parts = and_parts (is_ascii_alphabetic c) (list_all is_name_byte cs) a in
    letters_end c cs parts.0 parts.1)
    (λ (a : ((c == 95) && is_count cs) ≡ true).
    let parts = and_parts (c == 95) (is_count cs) a in
    ends_after Start Blank c cs (ap begun (eqb-true c 95 parts.0)) (blank_ends cs parts.1))
    (or_cases (is_ascii_alphabetic c && list_all is_name_byte cs) ((c == 95) && is_count cs) h)

-- ---- numbers

-- where the digits of a number begin: at the start, after a '-', or after the '.' of a hidden part
record Counts (p nil more : Spot) : Type 0 where
  begins : (c : ℕ) → is_ascii_digit c ≡ true → next p c ≡ (if c == 48 then Some nil else Some more)
  goes_on : (c : ℕ) → is_ascii_digit c ≡ true → next more c ≡ Some more
  nil_end : is_end nil ≡ true
  others_end : is_end more ≡ true

from_start : (c : ℕ) → is_ascii_digit c ≡ true → next Start c ≡ (if c == 48 then Some Zero else Some Digits)
from_start c h =
    let a : (c == 45) ≡ false = grind (arith, nat_tests) in
    rw (a, h) refl

start_counts : Counts Start Zero Digits
start_counts = record { begins = from_start; goes_on = in_digits; nil_end = refl; others_end = refl }

minus_counts : Counts Minus Zero Digits
minus_counts = record { begins = λ c h. rw h refl; goes_on = in_digits; nil_end = refl; others_end = refl }

dot_counts : Counts Dot DepthZero DepthDigits
dot_counts = record { begins = λ c h. rw h refl; goes_on = in_depth; nil_end = refl; others_end = refl }

count_ends : (p nil more : Spot) → Counts p nil more → (ds : List ℕ) → is_count ds ≡ true → 0 < length ds → Ends p ds
count_ends p nil more k [] h s = absurd (omega arith)
count_ends p nil more k (d ∷ ds) h s =
    let parts = and_parts (is_ascii_digit d && not (d == 48)) (list_all is_ascii_digit ds) h in
    let first = and_parts (is_ascii_digit d) (not (d == 48)) parts.0 in
    let z : (d == 48) ≡ false = grind (arith, nat_tests) in
    ends_after p more d ds (k.begins d first.0 ∙ when_false (d == 48) (Some nil) (Some more) z)
    (ends_at more more ds (stays more is_ascii_digit ds k.goes_on parts.1) k.others_end)

-- the text of a number is a zero, or digits without a leading zero
pub data DecimalForm (ds : List ℕ) : Type 0 where
  is_zero : ds ≡ 48 ∷ [] → DecimalForm ds
  counted : is_count ds ≡ true → 0 < length ds → DecimalForm ds

abbrev Decimal : ℕ → List ℕ → Type 0
Decimal n ds = (n ≡ 0 → ds ≡ 48 ∷ []) × (0 < n → (is_count ds ≡ true) × (0 < length ds))

decimal_one : (n : ℕ) → n < 10 → Decimal n ((48 + n) ∷ [])
decimal_one n h = (
  λ e. ap (λ (k : ℕ). (48 + k) ∷ []) e,
  λ s.
      let t : is_ascii_digit (48 + n) ≡ true = grind (arith, nat_tests) in
      let z : ((48 + n) == 48) ≡ false = grind (arith, nat_tests) in
      (rw (t, z) refl, omega arith),
)

all_push : (f : ℕ → Bool) (xs : List ℕ) (c : ℕ) → list_all f xs ≡ true → f c ≡ true → list_all f (xs ++ c ∷ []) ≡ true
all_push f [] c h t = rw t refl
all_push f (x ∷ xs) c h t =
    let parts = and_parts (f x) (list_all f xs) h in
    rw parts.0 (all_push f xs c parts.1 t)

count_more : (ds : List ℕ) (c : ℕ) → is_count ds ≡ true → 0 < length ds → is_ascii_digit c ≡ true → (is_count (ds ++ c ∷ []) ≡ true) × (0 < length (ds ++ c ∷ []))
count_more [] c h s t = absurd (omega arith)
count_more (d ∷ ds) c h s t =
    let parts = and_parts (is_ascii_digit d && not (d == 48)) (list_all is_ascii_digit ds) h in
    (rw parts.0 (all_push is_ascii_digit ds c parts.1 t), omega arith)

decimal_more : (n : ℕ) (ds : List ℕ) → 10 ≤ n → Decimal (n / 10) ds → Decimal n (ds ++ ((48 + n % 10) ∷ []))
decimal_more n ds h before =
    let t : is_ascii_digit (48 + n % 10) ≡ true = grind (arith, nat_tests) in
    let b = before.1 (omega arith) in
    (λ e. absurd (omega arith), λ s. count_more ds (48 + n % 10) b.0 b.1 t)

pub decimal_form : (n : ℕ) → n < 10 ^ 64 → DecimalForm (decimal n)
decimal_form n h =
    let d = decimal_by_steps_wide Decimal decimal_one decimal_more n h in
    ⊎_elim
    (λ (e : n ≡ 0). is_zero (d.0 e))
    (λ (e : n ≢ 0). let c = d.1 (omega arith) in counted c.0 c.1)
    (cases_eq n 0)

form_ends : (p nil more : Spot) → Counts p nil more → (ds : List ℕ) → DecimalForm ds → Ends p ds
form_ends p nil more k ds (is_zero e) =
    let P : List ℕ → Type 0 = λ x. Ends p x in
    subst P (sym e) (ends_at p nil (48 ∷ []) (walk-one next p nil 48 (k.begins 48 refl)) k.nil_end)
form_ends p nil more k ds (counted h s) = count_ends p nil more k ds h s

signed_ends : (negative : Bool) (ds : List ℕ) → Ends Start ds → Ends Minus ds → Ends Start (if negative then 45 ∷ ds else ds)
signed_ends true ds h m = ends_after Start Minus 45 ds refl m
signed_ends false ds h m = h

number_text : (negative : Bool) (size : ℕ) → spelling (number negative size) ≡ (if negative then 45 ∷ decimal size else decimal size)
number_text negative size = refl

number_ends : (negative : Bool) (size : ℕ) → size < 2 ^ 128 → Ends Start (spelling (number negative size))
number_ends negative size h =
    let f = decimal_form size (omega arith) in
    signed_ends negative (decimal size) (form_ends Start Zero Digits start_counts (decimal size) f) (form_ends Minus Zero Digits minus_counts (decimal size) f)

long_ends : (bytes : List ℕ) → IsLongNumber bytes → Ends Start bytes
long_ends bytes h =
    let P : List ℕ → Type 0 = λ x. Ends Start x in
    let l = h.large in
    subst P (sym h.whole) (signed_ends h.negative h.digits (count_ends Start Zero Digits start_counts h.digits l.0 l.1) (count_ends Minus Zero Digits minus_counts h.digits l.0 l.1))

-- ---- bits

abbrev after_last : ℕ → List ℕ → ℕ
after_last last [] = last
after_last last (d ∷ ds) = after_last d ds

last_is : (last d : ℕ) (ds : List ℕ) → after_last last (d ∷ ds) ≡ last_digit (d ∷ ds)
last_is last d [] = refl
last_is last d (e ∷ ds) = last_is d e ds

last_of : (ds : List ℕ) → after_last 48 ds ≡ last_digit ds
last_of [] = refl
last_of (d ∷ ds) = last_is 48 d ds

bits_walk : (last : ℕ) (ds : List ℕ) → AreDigits ds → walk (BitDigits last) ds ≡ Some (BitDigits (after_last last ds))
bits_walk last [] h = refl
bits_walk last (d ∷ ds) h =
    let t : is_hex_digit d ≡ true = h 0 (omega arith) in
    walk-more next (BitDigits last) (BitDigits d) d ds (when_true (is_hex_digit d) (Some (BitDigits d)) _ t)
    ∙ bits_walk d ds (λ i l. h (suc i) (omega arith))

open_walk : (ds : List ℕ) → AreDigits ds → walk Start (120 ∷ 123 ∷ ds) ≡ Some (BitDigits (last_digit ds))
open_walk ds h = bits_walk 48 ds h ∙ ap (λ (l : ℕ). Some (BitDigits l)) (last_of ds)

close_next : (last : ℕ) → next (BitDigits last) 125 ≡ Some Closed
close_next last = refl

mark_next : (last : ℕ) → is_markable last ≡ true → next (BitDigits last) 95 ≡ Some Marked
mark_next last h = when_true (is_markable last) (Some Marked) None h

text_ends : (size : ℕ) (text : List ℕ) → DigitsForm size text → Ends Start (120 ∷ 123 ∷ text ++ 125 ∷ [])
text_ends size text (plain_digits h few) =
    ends_at Start Closed (120 ∷ 123 ∷ text ++ 125 ∷ [])
    (walk-then next Start (BitDigits (last_digit text)) (120 ∷ 123 ∷ text) (125 ∷ []) (open_walk text h)
    ∙ walk-one next (BitDigits (last_digit text)) Closed 125 (close_next (last_digit text))) refl
text_ends size text (marked_digits ds e h few m) =
    let P : List ℕ → Type 0 = λ t. Ends Start (120 ∷ 123 ∷ t ++ 125 ∷ []) in
    let there : walk Start (120 ∷ 123 ∷ ds ++ 95 ∷ []) ≡ Some Marked =
    walk-then next Start (BitDigits (last_digit ds)) (120 ∷ 123 ∷ ds) (95 ∷ []) (open_walk ds h)
    ∙ walk-one next (BitDigits (last_digit ds)) Marked 95 (mark_next (last_digit ds) m) in
    subst P (sym e) (ends_at Start Closed (120 ∷ 123 ∷ (ds ++ 95 ∷ []) ++ 125 ∷ [])
    (walk-then next Start Marked (120 ∷ 123 ∷ ds ++ 95 ∷ []) (125 ∷ []) there ∙ walk-one next Marked Closed 125 refl) refl)

bits_end : (bs : List ℕ) → AreBits bs → Ends Start (spelling (bits bs))
bits_end bs h = text_ends (length bs) (hex_text bs) (digits-form bs h)

-- ---- hidden parts

hash_walk : (k : ℕ) (ds : List ℕ) → AreLower ds → k + length ds ≤ 64 → walk (Hash k) ds ≡ Some (Hash (k + length ds))
hash_walk k [] h few = let z : k ≡ k + 0 = omega arith in ap (λ (n : ℕ). Some (Hash n)) z
hash_walk k (d ∷ ds) h few =
    let l : nat_lt k 64 ≡ true = lt-ltb k 64 (omega arith) in
    let there : next (Hash k) d ≡ Some (Hash (k + 1)) = when_true (nat_lt k 64) _ _ l ∙ when_true (is_lower_digit d) (Some (Hash (k + 1))) None h.0 in
    let sum : k + 1 + length ds ≡ k + length (d ∷ ds) = omega arith in
    walk-more next (Hash k) (Hash (k + 1)) d ds there ∙ hash_walk (k + 1) ds h.1 (omega arith) ∙ ap (λ (n : ℕ). Some (Hash n)) sum

dot_next : (k : ℕ) → k ≡ 64 → next (Hash k) 46 ≡ Some Dot
dot_next k e = ap (λ (n : ℕ). next (Hash n) 46) e

hidden_ends : (hash ds : List ℕ) → length hash ≡ 32 → AreBytes hash → Ends Dot ds → Ends Start (63 ∷ encode_lower hash ++ 46 ∷ ds)
hidden_ends hash ds e h d =
    let size : length (encode_lower hash) ≡ 2 * length hash = length-encode hash in
    let n : 0 + length (encode_lower hash) ≡ 64 = omega arith in
    ends_after Start (Hash 0) 63 (encode_lower hash ++ 46 ∷ ds) refl
    (ends_then (Hash 0) (Hash (0 + length (encode_lower hash))) (encode_lower hash) (46 ∷ ds) (hash_walk 0 (encode_lower hash) (lower-encode hash h) (omega arith))
    (ends_after (Hash (0 + length (encode_lower hash))) Dot 46 ds (dot_next (0 + length (encode_lower hash)) n) d))

depth_ends : (depth : ℕ) → depth < 2 ^ 16 → Ends Dot (decimal depth)
depth_ends depth h = form_ends Dot DepthZero DepthDigits dot_counts (decimal depth) (decimal_form depth (omega arith))

-- ---- every lexeme

sign_begins : (s : Sign) → Ends Start (sign_byte s ∷ [])
sign_begins OpenBrace = ends_at Start Signed (123 ∷ []) refl refl
sign_begins CloseBrace = ends_at Start Signed (125 ∷ []) refl refl
sign_begins OpenBracket = ends_at Start Signed (91 ∷ []) refl refl
sign_begins CloseBracket = ends_at Start Signed (93 ∷ []) refl refl
sign_begins OpenParen = ends_at Start Signed (40 ∷ []) refl refl
sign_begins CloseParen = ends_at Start Signed (41 ∷ []) refl refl
sign_begins Less = ends_at Start Signed (60 ∷ []) refl refl
sign_begins Greater = ends_at Start Signed (62 ∷ []) refl refl
sign_begins Comma = ends_at Start Signed (44 ∷ []) refl refl
sign_begins Colon = ends_at Start Signed (58 ∷ []) refl refl
sign_begins Tilde = ends_at Start Signed (126 ∷ []) refl refl
sign_begins Caret = ends_at Start Signed (94 ∷ []) refl refl
sign_begins Bang = ends_at Start Signed (33 ∷ []) refl refl
sign_begins Percent = ends_at Start Signed (37 ∷ []) refl refl

beyond_ends : (form : Form) (bytes : List ℕ) → SpellsBeyond form bytes → Ends Start bytes
beyond_ends forms.Number bytes h = long_ends bytes h
beyond_ends forms.Bits bytes h = let P : List ℕ → Type 0 = λ x. Ends Start x in subst P (sym h.whole) (bits_end h.contents h.are_bits)
beyond_ends forms.Hidden bytes h =
    let P : List ℕ → Type 0 = λ x. Ends Start x in
    let l = h.large in
    subst P (sym h.whole) (hidden_ends h.hash h.digits h.size h.are_bytes (count_ends Dot DepthZero DepthDigits dot_counts h.digits l.0 l.1))

pub lexeme_ends : (l : Lexeme) (bytes : List ℕ) → Spells l bytes → Ends Start bytes
lexeme_ends (ASign s) bytes h = let P : List ℕ → Type 0 = λ x. Ends Start x in subst P (sym h) (sign_begins s)
lexeme_ends (Number n) bytes h = let P : List ℕ → Type 0 = λ x. Ends Start x in subst P (sym h.1) (number_ends n.negative n.size h.0)
lexeme_ends (Bits bs) bytes h = let P : List ℕ → Type 0 = λ x. Ends Start x in subst P (sym h.1) (bits_end bs h.0.0)
lexeme_ends (Name n) bytes h = let P : List ℕ → Type 0 = λ x. Ends Start x in subst P (sym h.1) (name_ends n h.0)
lexeme_ends (Hidden k) bytes h =
    let P : List ℕ → Type 0 = λ x. Ends Start x in
    subst P (sym h.1) (hidden_ends k.hash (decimal k.depth) h.0.0 h.0.1 (depth_ends k.depth h.0.2))
lexeme_ends (Beyond form) bytes h = beyond_ends form bytes h
