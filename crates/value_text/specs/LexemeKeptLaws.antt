-- What a spot says of a lexeme's bytes is kept by one more byte; where a lexeme may end, its bytes spell one.
use Rattle.std.proofs.Common.{◌≡◌, ⊎_elim, ℕ, ◌+◌, ◌-◌, ◌*◌, ◌^◌, ◌<◌, ◌≤◌, ◌==◌, Bool, true, false, ◌&&◌, not, nat_lt, List, [], ◌∷◌, ◌++◌, length, decimal, Option, Some, None, is_some, if◌then◌else◌, refl, sym, ap, ◌∙◌, subst, arith, append_assoc}
use Rattle.std.specs.Char.{is_ascii_alphabetic, is_ascii_digit}
use Rattle.std.specs.Str.Parse.{digits_value}
use Rattle.std.proofs.lemmas.Bool.{eqb-true, ltb-true, ltb-false, cases_lt}
use Rattle.std.proofs.lemmas.List.{length_push}
use Rattle.hex.specs.Hex.{encode_lower}
use Rattle.bit_slice.specs.HexLists.{is_hex_digit}
use Rattle.bit_slice.specs.Names.{IsName, is_count, is_name_byte}
use Rattle.value_text.specs.declared.lexeme.Sign.{Sign}
use Rattle.value_text.specs.declared.lexeme.Sign.TheVariants.{OpenBrace, CloseBrace, OpenBracket, CloseBracket, OpenParen, CloseParen, Less, Greater, Comma, Colon, Tilde, Caret, Bang, Percent}
use Rattle.value_text.specs.declared.lexeme.Form.TheVariants as forms
use Rattle.value_text.specs.declared.lexeme.Lexeme.{Lexeme}
use Rattle.value_text.specs.declared.lexeme.Lexeme.TheVariants.{Sign as ASign, Number, Bits, Name, Hidden, Beyond}
use Rattle.value_text.specs.declared.spot.Spot.{Spot}
use Rattle.value_text.specs.declared.spot.Spot.TheVariants.{Start, Minus, Zero, Digits, X, Letters, Blank, Count, BitDigits, Marked, Closed, Hash, Dot, DepthZero, DepthDigits, Signed}
use Rattle.value_text.specs.Tokens.{number, spelling}
use Rattle.value_text.specs.BitsTextLaws.{WritesUpTo, is_markable, last_digit-push, marked-up_to, plain-up_to}
use Rattle.value_text.specs.Lexemes.{Spells, sign_byte}
use Rattle.value_text.specs.LexemePoints.{AreLower, Holds, IsBitDigits, IsBits, IsDepth, IsHash, IsHashThen, IsMarkedBits, IsNumber, IsSign, IsZero, begun, deep, in_bits, in_hash, is_end, is_lower_digit, next, numbered, sign_at, signed}
use Rattle.value_text.specs.PathPoints.{IsLetters}
use Rattle.value_text.specs.DecimalsLaws.{decimal_count}
use Rattle.value_text.specs.HashDigitsLaws.{are_bytes-bytes_of, bytes_of, encode-bytes_of, length-bytes_of}
use Rattle.value_text.specs.PathKeptLaws.{blank_counted, blank_name, choice, choice_none, count_first, count_push, counted_name, counted_push, digits_push, letters_name, letters_push, x_letters, zero_text}

led : (p q : Spot) (bytes : List ℕ) → Some p ≡ Some q → Holds p bytes → Holds q bytes
led p q bytes e h = let same : p ≡ q = cc in let P : Spot → Type 0 = λ r. Holds r bytes in subst P same h

one_byte : (c d : ℕ) → (c == d) ≡ true → c ∷ [] ≡ d ∷ []
one_byte c d t = ap (λ (n : ℕ). n ∷ []) (eqb-true c d t)

-- ---- signs

pub sign_is : (c : ℕ) (s : Sign) → sign_at c ≡ Some s → c ≡ sign_byte s
sign_is c s e =
    choice (c == 123) (Some OpenBrace) _ s e (λ t f. is c OpenBrace s t f)
    (λ _ e. choice (c == 125) (Some CloseBrace) _ s e (λ t f. is c CloseBrace s t f)
    (λ _ e. choice (c == 91) (Some OpenBracket) _ s e (λ t f. is c OpenBracket s t f)
    (λ _ e. choice (c == 93) (Some CloseBracket) _ s e (λ t f. is c CloseBracket s t f)
    (λ _ e. choice (c == 40) (Some OpenParen) _ s e (λ t f. is c OpenParen s t f)
    (λ _ e. choice (c == 41) (Some CloseParen) _ s e (λ t f. is c CloseParen s t f)
    (λ _ e. choice (c == 60) (Some Less) _ s e (λ t f. is c Less s t f)
    (λ _ e. choice (c == 62) (Some Greater) _ s e (λ t f. is c Greater s t f)
    (λ _ e. choice (c == 44) (Some Comma) _ s e (λ t f. is c Comma s t f)
    (λ _ e. choice (c == 58) (Some Colon) _ s e (λ t f. is c Colon s t f)
    (λ _ e. choice (c == 126) (Some Tilde) _ s e (λ t f. is c Tilde s t f)
    (λ _ e. choice (c == 94) (Some Caret) _ s e (λ t f. is c Caret s t f)
    (λ _ e. choice (c == 33) (Some Bang) _ s e (λ t f. is c Bang s t f)
    (λ _ e. choice_none (c == 37) (Some Percent) s e (λ t f. is c Percent s t f))))))))))))))
  where
    is : (c : ℕ) (r s : Sign) → (c == sign_byte r) ≡ true → Some r ≡ Some s → c ≡ sign_byte s
    is c r s t f = let same : r ≡ s = cc in eqb-true c (sign_byte r) t ∙ ap sign_byte same

pub sign_at-byte : (s : Sign) → sign_at (sign_byte s) ≡ Some s
sign_at-byte OpenBrace = refl
sign_at-byte CloseBrace = refl
sign_at-byte OpenBracket = refl
sign_at-byte CloseBracket = refl
sign_at-byte OpenParen = refl
sign_at-byte CloseParen = refl
sign_at-byte Less = refl
sign_at-byte Greater = refl
sign_at-byte Comma = refl
sign_at-byte Colon = refl
sign_at-byte Tilde = refl
sign_at-byte Caret = refl
sign_at-byte Bang = refl
sign_at-byte Percent = refl

some_sign : (c : ℕ) (o : Option Sign) → sign_at c ≡ o → is_some o ≡ true → IsSign (c ∷ [])
some_sign c (Some s) e h = record { sign = s; whole = ap (λ (n : ℕ). n ∷ []) (sign_is c s e) }
some_sign c None e h = absurd (cc)

-- ---- the first byte

digit_count : (c : ℕ) → is_ascii_digit c ≡ true → (c == 48) ≡ false → is_count (c ∷ []) ≡ true
digit_count c h z = count_first c (both h z)
  where
    both : is_ascii_digit c ≡ true → (c == 48) ≡ false → (is_ascii_digit c && not (c == 48)) ≡ true
    both h z = ap (λ (t : Bool). t && not (c == 48)) h ∙ ap (λ (t : Bool). not t) z

begun_holds : (c : ℕ) (q : Spot) → begun c ≡ Some q → Holds q (c ∷ [])
begun_holds c q e =
    choice (c == 45) (Some Minus) _ q e (λ t f. led Minus q (c ∷ []) f (one_byte c 45 t))
    (λ _ e. choice (c == 48) (Some Zero) _ q e (λ t f. led Zero q (c ∷ []) f (record { negative = false; whole = one_byte c 48 t }))
    (λ z e. choice (is_ascii_digit c) (Some Digits) _ q e
    (λ t f. led Digits q (c ∷ []) f (record { negative = false; digits = c ∷ []; whole = refl; is_count = digit_count c t z; some = omega arith }))
    (λ _ e. choice (c == 120) (Some X) _ q e (λ t f. led X q (c ∷ []) f (one_byte c 120 t))
    (λ _ e. choice (is_ascii_alphabetic c) (Some Letters) _ q e
    (λ t f. led Letters q (c ∷ []) f (record { first = c; later = []; whole = refl; letter = t; are_name_bytes = refl }))
    (λ _ e. choice (c == 95) (Some Blank) _ q e (λ t f. led Blank q (c ∷ []) f (one_byte c 95 t))
    (λ _ e. choice (c == 63) (Some (Hash 0)) _ q e
    (λ t f. led (Hash 0) q (c ∷ []) f (record { digits = []; whole = one_byte c 63 t; are_lower = tt; size = refl; few = omega arith }))
    (λ _ e. choice_none (is_some (sign_at c)) (Some Signed) q e (λ t f. led Signed q (c ∷ []) f (some_sign c (sign_at c) refl t)))))))))

-- ---- numbers

signed-append : (negative : Bool) (ds es : List ℕ) → signed negative ds ++ es ≡ signed negative (ds ++ es)
signed-append true ds es = refl
signed-append false ds es = refl

numbered_holds : (c : ℕ) (bytes : List ℕ) (q : Spot) → bytes ≡ 45 ∷ [] → numbered c ≡ Some q → Holds q (bytes ++ c ∷ [])
numbered_holds c bytes q h e =
    choice (c == 48) (Some Zero) _ q e
    (λ t f. led Zero q (bytes ++ c ∷ []) f (record { negative = true; whole = ap (λ (l : List ℕ). l ++ c ∷ []) h ∙ ap (λ (l : List ℕ). 45 ∷ l) (one_byte c 48 t) }))
    (λ z e. choice_none (is_ascii_digit c) (Some Digits) q e
    (λ t f. led Digits q (bytes ++ c ∷ []) f (record {
      negative = true;
      digits = c ∷ [];
      whole = ap (λ (l : List ℕ). l ++ c ∷ []) h;
      is_count = digit_count c t z;
      some = omega arith;
    })))

number_push : (bytes : List ℕ) (c : ℕ) → IsNumber bytes → is_ascii_digit c ≡ true → IsNumber (bytes ++ c ∷ [])
number_push bytes c h t = record {
  negative = h.negative;
  digits = h.digits ++ c ∷ [];
  whole = ap (λ (l : List ℕ). l ++ c ∷ []) h.whole ∙ signed-append h.negative h.digits (c ∷ []);
  is_count = count_push h.digits c h.is_count h.some t;
  some = let l = length_push h.digits c in omega arith;
}

-- ---- bits

bits_from : (text bytes : List ℕ) (most : ℕ) → WritesUpTo most text → bytes ≡ 120 ∷ 123 ∷ text ++ 125 ∷ [] → IsBits bytes
bits_from text bytes most w e =
    record { contents = w.contents; are_bits = w.are_bits; whole = e ∙ ap (λ (t : List ℕ). 120 ∷ 123 ∷ t ++ 125 ∷ []) w.whole }

bits_push : (last c : ℕ) (bytes : List ℕ) → IsBitDigits last bytes → is_hex_digit c ≡ true → IsBitDigits c (bytes ++ c ∷ [])
bits_push last c bytes h t = record {
  digits = h.digits ++ c ∷ [];
  whole = ap (λ (l : List ℕ). l ++ c ∷ []) h.whole;
  are_digits = digits_push h.digits c h.are_digits t;
  is_last = sym (last_digit-push h.digits c);
}

bits_mark : (last c : ℕ) (bytes : List ℕ) → IsBitDigits last bytes → c ≡ 95 → is_markable last ≡ true → IsMarkedBits (bytes ++ c ∷ [])
bits_mark last c bytes h e m = record {
  digits = h.digits;
  whole = ap (λ (l : List ℕ). l ++ c ∷ []) h.whole ∙ ap (λ (x : ℕ). 120 ∷ 123 ∷ h.digits ++ x ∷ []) e;
  are_digits = h.are_digits;
  ends = ap is_markable (sym h.is_last) ∙ m;
}

bits_close : (last c : ℕ) (bytes : List ℕ) → IsBitDigits last bytes → c ≡ 125 → IsBits (bytes ++ c ∷ [])
bits_close last c bytes h e =
    bits_from h.digits (bytes ++ c ∷ []) (4 * length h.digits) (plain-up_to h.digits h.are_digits)
    (ap (λ (t : List ℕ). t ++ c ∷ []) h.whole ∙ ap (λ (x : ℕ). 120 ∷ 123 ∷ h.digits ++ x ∷ []) e)

marked_close : (c : ℕ) (bytes : List ℕ) → IsMarkedBits bytes → c ≡ 125 → IsBits (bytes ++ c ∷ [])
marked_close c bytes h e =
    bits_from (h.digits ++ 95 ∷ []) (bytes ++ c ∷ []) (4 * length h.digits - 1) (marked-up_to h.digits h.are_digits h.ends)
    (ap (λ (t : List ℕ). t ++ c ∷ []) h.whole ∙ ap (λ (x : ℕ). 120 ∷ 123 ∷ h.digits ++ 95 ∷ [] ++ x ∷ []) e)

in_bits_holds : (last c : ℕ) (bytes : List ℕ) (q : Spot) → IsBitDigits last bytes → in_bits last c ≡ Some q → Holds q (bytes ++ c ∷ [])
in_bits_holds last c bytes q h e =
    choice (is_hex_digit c) (Some (BitDigits c)) _ q e (λ t f. led (BitDigits c) q (bytes ++ c ∷ []) f (bits_push last c bytes h t))
    (λ _ e. choice (c == 95) _ _ q e
    (λ t f. choice_none (is_markable last) (Some Marked) q f (λ m g. led Marked q (bytes ++ c ∷ []) g (bits_mark last c bytes h (eqb-true c 95 t) m)))
    (λ _ e. choice_none (c == 125) (Some Closed) q e (λ t g. led Closed q (bytes ++ c ∷ []) g (bits_close last c bytes h (eqb-true c 125 t)))))

bits_begin : (c : ℕ) (bytes : List ℕ) → bytes ≡ 120 ∷ [] → c ≡ 123 → IsBitDigits 48 (bytes ++ c ∷ [])
bits_begin c bytes h e = record {
  digits = [];
  whole = ap (λ (t : List ℕ). t ++ c ∷ []) h ∙ ap (λ (x : ℕ). 120 ∷ x ∷ []) e;
  are_digits = λ i l. absurd (omega arith);
  is_last = refl;
}

-- ---- hidden parts

lower_push : (ds : List ℕ) (c : ℕ) → AreLower ds → is_lower_digit c ≡ true → AreLower (ds ++ c ∷ [])
lower_push [] c h t = (t, tt)
lower_push (d ∷ ds) c h t = (h.0, lower_push ds c h.1 t)

hash_push : (k c : ℕ) (bytes : List ℕ) → IsHash k bytes → is_lower_digit c ≡ true → k < 64 → IsHash (k + 1) (bytes ++ c ∷ [])
hash_push k c bytes h t l =
    let size = h.size in
    record {
      digits = h.digits ++ c ∷ [];
      whole = ap (λ (x : List ℕ). x ++ c ∷ []) h.whole;
      are_lower = lower_push h.digits c h.are_lower t;
      size = let n = length_push h.digits c in omega arith;
      few = omega arith;
    }

hash_whole : (k c : ℕ) (bytes : List ℕ) → IsHash k bytes → 64 ≤ k → c ≡ 46 → IsHashThen (46 ∷ []) (bytes ++ c ∷ [])
hash_whole k c bytes h l e =
    let size = h.size in
    let few = h.few in
    let n : length h.digits ≡ 2 * 32 = omega arith in
    record {
      hash = bytes_of h.digits;
      size = length-bytes_of 32 h.digits n;
      are_bytes = are_bytes-bytes_of h.digits h.are_lower;
      whole = ap (λ (x : List ℕ). x ++ c ∷ []) h.whole ∙ ap (λ (x : List ℕ). 63 ∷ x ++ c ∷ []) (sym (encode-bytes_of 32 h.digits n h.are_lower))
          ∙ ap (λ (x : ℕ). 63 ∷ encode_lower (bytes_of h.digits) ++ x ∷ []) e;
    }

in_hash_holds : (k c : ℕ) (bytes : List ℕ) (q : Spot) → IsHash k bytes → in_hash k c ≡ Some q → Holds q (bytes ++ c ∷ [])
in_hash_holds k c bytes q h e =
    choice (nat_lt k 64) _ _ q e
    (λ b f. choice_none (is_lower_digit c) (Some (Hash (k + 1))) q f
    (λ t g. led (Hash (k + 1)) q (bytes ++ c ∷ []) g (hash_push k c bytes h t (ltb-true k 64 b))))
    (λ b f. choice_none (c == 46) (Some Dot) q f
    (λ t g. led Dot q (bytes ++ c ∷ []) g (hash_whole k c bytes h (ltb-false k 64 b) (eqb-true c 46 t))))

hash_then : (after bytes more : List ℕ) → IsHashThen after bytes → IsHashThen (after ++ more) (bytes ++ more)
hash_then after bytes more h = record {
  hash = h.hash;
  size = h.size;
  are_bytes = h.are_bytes;
  whole = ap (λ (x : List ℕ). x ++ more) h.whole ∙ append_assoc (63 ∷ encode_lower h.hash) after more;
}

deep_holds : (c : ℕ) (bytes : List ℕ) (q : Spot) → IsHashThen (46 ∷ []) bytes → deep c ≡ Some q → Holds q (bytes ++ c ∷ [])
deep_holds c bytes q h e =
    choice (c == 48) (Some DepthZero) _ q e
    (λ t f. let P : ℕ → Type 0 = λ x. IsHashThen (46 ∷ x ∷ []) (bytes ++ c ∷ []) in
    led DepthZero q (bytes ++ c ∷ []) f (subst P (eqb-true c 48 t) (hash_then (46 ∷ []) bytes (c ∷ []) h)))
    (λ z e. choice_none (is_ascii_digit c) (Some DepthDigits) q e
    (λ t f. led DepthDigits q (bytes ++ c ∷ []) f
    (record { digits = c ∷ []; hashed = hash_then (46 ∷ []) bytes (c ∷ []) h; is_count = digit_count c t z; some = omega arith })))

depth_push : (bytes : List ℕ) (c : ℕ) → IsDepth bytes → is_ascii_digit c ≡ true → IsDepth (bytes ++ c ∷ [])
depth_push bytes c h t = record {
  digits = h.digits ++ c ∷ [];
  hashed = hash_then (46 ∷ h.digits) bytes (c ∷ []) h.hashed;
  is_count = count_push h.digits c h.is_count h.some t;
  some = let l = length_push h.digits c in omega arith;
}

-- ---- one more byte

from_nothing : (c : ℕ) (q : Spot) (bytes : List ℕ) → bytes ≡ [] → begun c ≡ Some q → Holds q (bytes ++ c ∷ [])
from_nothing c q bytes h e =
    let P : List ℕ → Type 0 = λ t. Holds q (t ++ c ∷ []) in
    subst P (sym h) (begun_holds c q e)

in_letters : (c : ℕ) (q : Spot) (bytes : List ℕ) → IsLetters bytes → (if is_name_byte c then Some Letters else None) ≡ Some q → Holds q (bytes ++ c ∷ [])
in_letters c q bytes h e = choice_none (is_name_byte c) (Some Letters) q e (λ t f. led Letters q (bytes ++ c ∷ []) f (letters_push bytes c h t))

pub kept : (p q : Spot) (bytes : List ℕ) (c : ℕ) → Holds p bytes → next p c ≡ Some q → Holds q (bytes ++ c ∷ [])
kept Start q bytes c h e = from_nothing c q bytes h e
kept Minus q bytes c h e = numbered_holds c bytes q h e
kept Zero q bytes c h e = absurd (cc)
kept Digits q bytes c h e = choice_none (is_ascii_digit c) (Some Digits) q e (λ t f. led Digits q (bytes ++ c ∷ []) f (number_push bytes c h t))
kept X q bytes c h e =
    choice (c == 123) (Some (BitDigits 48)) _ q e
    (λ t f. led (BitDigits 48) q (bytes ++ c ∷ []) f (bits_begin c bytes h (eqb-true c 123 t)))
    (λ _ f. in_letters c q bytes (x_letters bytes h) f)
kept Letters q bytes c h e = in_letters c q bytes h e
kept Blank q bytes c h e =
    choice_none (is_ascii_digit c && not (c == 48)) (Some Count) q e (λ t f. led Count q (bytes ++ c ∷ []) f (blank_counted bytes c h t))
kept Count q bytes c h e = choice_none (is_ascii_digit c) (Some Count) q e (λ t f. led Count q (bytes ++ c ∷ []) f (counted_push bytes c h t))
kept (BitDigits last) q bytes c h e = in_bits_holds last c bytes q h e
kept Marked q bytes c h e =
    choice_none (c == 125) (Some Closed) q e (λ t f. led Closed q (bytes ++ c ∷ []) f (marked_close c bytes h (eqb-true c 125 t)))
kept Closed q bytes c h e = absurd (cc)
kept (Hash k) q bytes c h e = in_hash_holds k c bytes q h e
kept Dot q bytes c h e = deep_holds c bytes q h e
kept DepthZero q bytes c h e = absurd (cc)
kept DepthDigits q bytes c h e =
    choice_none (is_ascii_digit c) (Some DepthDigits) q e (λ t f. led DepthDigits q (bytes ++ c ∷ []) f (depth_push bytes c h t))
kept Signed q bytes c h e = absurd (cc)

-- ---- whole lexemes

pub record Spelled (bytes : List ℕ) : Type 0 where
  pub what : Lexeme
  pub spells : Spells what bytes

spelled_number : (negative : Bool) (ds : List ℕ) → signed negative ds ≡ (if negative then 45 ∷ ds else ds)
spelled_number negative ds = refl

pub number_spelling : (negative : Bool) (size : ℕ) (ds : List ℕ) → ds ≡ decimal size → signed negative ds ≡ spelling (number negative size)
number_spelling true size ds e = ap (λ (l : List ℕ). 45 ∷ l) e
number_spelling false size ds e = e

pub zero_spelled : (bytes : List ℕ) → IsZero bytes → Spelled bytes
zero_spelled bytes h =
    record { what = Number (record { negative = h.negative; size = 0 }); spells = (omega arith, h.whole ∙ number_spelling h.negative 0 (48 ∷ []) zero_text) }

pub number_within : (bytes : List ℕ) (h : IsNumber bytes) → digits_value 10 h.digits < 2 ^ 128
    → Spells (Number (record { negative = h.negative; size = digits_value 10 h.digits })) bytes
number_within bytes h l =
    (l, h.whole ∙ number_spelling h.negative (digits_value 10 h.digits) h.digits (decimal_count h.digits h.is_count h.some (omega arith)))

pub number_beyond : (bytes : List ℕ) (h : IsNumber bytes) → 2 ^ 128 ≤ digits_value 10 h.digits → Spells (Beyond forms.Number) bytes
number_beyond bytes h l = record { negative = h.negative; digits = h.digits; large = (h.is_count, h.some, l); whole = h.whole }

number_spelled : (bytes : List ℕ) → IsNumber bytes → Spelled bytes
number_spelled bytes h = ⊎_elim
    (λ (l : digits_value 10 h.digits < 2 ^ 128). record { what = Number (record { negative = h.negative; size = digits_value 10 h.digits }); spells = number_within bytes h l })
    (λ (l : 2 ^ 128 ≤ digits_value 10 h.digits). record { what = Beyond forms.Number; spells = number_beyond bytes h l })
    (cases_lt (digits_value 10 h.digits) (2 ^ 128))

bits_spelled : (bytes : List ℕ) → IsBits bytes → Spelled bytes
bits_spelled bytes h = ⊎_elim
    (λ (l : 1023 < length h.contents). record { what = Beyond forms.Bits; spells = record { contents = h.contents; are_bits = h.are_bits; many = l; whole = h.whole } })
    (λ (l : length h.contents ≤ 1023). record { what = Bits h.contents; spells = ((h.are_bits, l), h.whole) })
    (cases_lt 1023 (length h.contents))

pub hidden_within : (bytes digits : List ℕ) (depth : ℕ) (h : IsHashThen (46 ∷ digits) bytes) → depth < 2 ^ 16 → digits ≡ decimal depth
    → Spells (Hidden (record { hash = h.hash; depth = depth })) bytes
hidden_within bytes digits depth h l e =
    ((h.size, h.are_bytes, l), h.whole ∙ ap (λ (x : List ℕ). 63 ∷ encode_lower h.hash ++ 46 ∷ x) e)

pub hidden_beyond : (bytes : List ℕ) (h : IsDepth bytes) → 2 ^ 16 ≤ digits_value 10 h.digits → Spells (Beyond forms.Hidden) bytes
hidden_beyond bytes h l = record {
  hash = h.hashed.hash;
  digits = h.digits;
  size = h.hashed.size;
  are_bytes = h.hashed.are_bytes;
  large = (h.is_count, h.some, l);
  whole = h.hashed.whole;
}

depth_spelled : (bytes : List ℕ) → IsDepth bytes → Spelled bytes
depth_spelled bytes h = ⊎_elim
    (λ (l : digits_value 10 h.digits < 2 ^ 16).
    record {
      what = Hidden (record { hash = h.hashed.hash; depth = digits_value 10 h.digits });
      spells = hidden_within bytes h.digits (digits_value 10 h.digits) h.hashed l (decimal_count h.digits h.is_count h.some (omega arith));
    })
    (λ (l : 2 ^ 16 ≤ digits_value 10 h.digits). record { what = Beyond forms.Hidden; spells = hidden_beyond bytes h l })
    (cases_lt (digits_value 10 h.digits) (2 ^ 16))

no_depth : (bytes : List ℕ) → IsHashThen (46 ∷ 48 ∷ []) bytes → Spelled bytes
no_depth bytes h = record { what = Hidden (record { hash = h.hash; depth = 0 }); spells = hidden_within bytes (48 ∷ []) 0 h (omega arith) zero_text }

name_spelled : (bytes : List ℕ) → IsName bytes → Spelled bytes
name_spelled bytes h = record { what = Name bytes; spells = (h, refl) }

sign_spelled : (bytes : List ℕ) → IsSign bytes → Spelled bytes
sign_spelled bytes h = record { what = ASign h.sign; spells = h.whole }

pub spelled : (p : Spot) (bytes : List ℕ) → Holds p bytes → is_end p ≡ true → Spelled bytes
spelled Start bytes h e = absurd (cc)
spelled Minus bytes h e = absurd (cc)
spelled Zero bytes h e = zero_spelled bytes h
spelled Digits bytes h e = number_spelled bytes h
spelled X bytes h e = name_spelled bytes (letters_name bytes (x_letters bytes h))
spelled Letters bytes h e = name_spelled bytes (letters_name bytes h)
spelled Blank bytes h e = name_spelled bytes (blank_name bytes h)
spelled Count bytes h e = name_spelled bytes (counted_name bytes h)
spelled (BitDigits last) bytes h e = absurd (cc)
spelled Marked bytes h e = absurd (cc)
spelled Closed bytes h e = bits_spelled bytes h
spelled (Hash k) bytes h e = absurd (cc)
spelled Dot bytes h e = absurd (cc)
spelled DepthZero bytes h e = no_depth bytes h
spelled DepthDigits bytes h e = depth_spelled bytes h
spelled Signed bytes h e = sign_spelled bytes h
