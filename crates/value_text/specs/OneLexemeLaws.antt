-- At most one lexeme stands at the beginning of a text.
use Rattle.std.proofs.Common.{◌≡◌, ◌≢◌, ⊎_elim, ℕ, ◌^◌, ◌<◌, ◌≤◌, ◌==◌, Bool, true, false, ◌&&◌, ◌||◌, not, List, [], ◌∷◌, ◌++◌, length, take, drop, decimal, Some, is_some, if◌then◌else◌, refl, sym, ap, ◌∙◌, subst, arith, IsTrue, Result, Ok}
use Rattle.std.specs.Char.{is_ascii_alphabetic, is_ascii_digit}
use Rattle.std.specs.List.{list_all}
use Rattle.std.specs.Str.Parse.{digits_value}
use Rattle.std.proofs.lemmas.Bool.{and_parts, cases_lt, eqb-true, or_cases}
use Rattle.std.proofs.lemmas.Bool.Decides.{nat_tests}
use Rattle.std.proofs.lemmas.Fmt.{decimal_is_IsNumeral_wide}
use Rattle.std.proofs.lemmas.List.{append_cancel_right, drop_at, take_at}
use Rattle.hex.specs.Hex.{decode_sized, encode_lower}
use Rattle.hex.specs.declared.error.FromHexError.{FromHexError}
use Rattle.bit_slice.specs.Bits.{AreBits, hex_text}
use Rattle.bit_slice.specs.HexTexts.{hex_text-injective}
use Rattle.bit_slice.specs.Names.{IsName, is_count, is_name_byte}
use Rattle.value_text.specs.declared.lexeme.Sign.{Sign}
use Rattle.value_text.specs.declared.lexeme.Sign.TheVariants.{OpenBrace, CloseBrace, OpenBracket, CloseBracket, OpenParen, CloseParen, Less, Greater, Comma, Colon, Tilde, Caret, Bang, Percent}
use Rattle.value_text.specs.declared.lexeme.Form.{Form}
use Rattle.value_text.specs.declared.lexeme.Form.TheVariants as forms
use Rattle.value_text.specs.declared.lexeme.Lexeme.{Lexeme}
use Rattle.value_text.specs.declared.lexeme.Lexeme.TheVariants.{Sign as ASign, Number, Bits, Name, Hidden, Beyond}
use Rattle.value_text.specs.Tokens.{bits, number, spelling}
use Rattle.value_text.specs.Writes.{AreBytes, AreFew}
use Rattle.value_text.specs.Lexemes.{AreLongBits, IsDeepHidden, IsLongNumber, Spells, SpellsBeyond, Stands, sign_byte}
use Rattle.value_text.specs.LexemePoints.{sign_at}
use Rattle.value_text.specs.HashDigitsLaws.{decoded}
use Rattle.value_text.specs.HiddenPartsLaws.{hash_length}
use Rattle.value_text.specs.LexemeKeptLaws.{sign_at-byte}
use Rattle.value_text.specs.LexemeWalksLaws.{DecimalForm, counted, decimal_form, is_zero}

-- ---- the kind of a lexeme is told by its first bytes

abbrev brace_first : List ℕ → Bool
brace_first [] = false
brace_first (c ∷ cs) = c == 123

-- 0: a number, 1: a hidden part, 2: a sign, 3: bits, 4: a name
abbrev kind_at : List ℕ → ℕ
kind_at [] = 5
kind_at (c ∷ cs) =
    if c == 45 || is_ascii_digit c then 0 else if c == 63 then 1 else if is_some (sign_at c) then 2
    else if c == 120 && brace_first cs then 3 else 4

abbrev form_kind : Form → ℕ
form_kind forms.Number = 0
form_kind forms.Bits = 3
form_kind forms.Hidden = 1

abbrev kind : Lexeme → ℕ
kind (ASign s) = 2
kind (Number n) = 0
kind (Bits bs) = 3
kind (Name n) = 4
kind (Hidden h) = 1
kind (Beyond form) = form_kind form

sign_kind : (s : Sign) → kind_at (sign_byte s ∷ []) ≡ 2
sign_kind OpenBrace = refl
sign_kind CloseBrace = refl
sign_kind OpenBracket = refl
sign_kind CloseBracket = refl
sign_kind OpenParen = refl
sign_kind CloseParen = refl
sign_kind Less = refl
sign_kind Greater = refl
sign_kind Comma = refl
sign_kind Colon = refl
sign_kind Tilde = refl
sign_kind Caret = refl
sign_kind Bang = refl
sign_kind Percent = refl

digit_kind : (d : ℕ) (ds : List ℕ) → is_ascii_digit d ≡ true → kind_at (d ∷ ds) ≡ 0
digit_kind d ds h =
    let t : (d == 45 || is_ascii_digit d) ≡ true = grind (arith, nat_tests) in
    rw t refl

form_number : (ds : List ℕ) → DecimalForm ds → kind_at ds ≡ 0
form_number ds (is_zero e) = ap kind_at e
form_number [] (counted h s) = absurd (omega arith)
form_number (d ∷ ds) (counted h s) =
    digit_kind d ds (and_parts (is_ascii_digit d) (not (d == 48)) (and_parts (is_ascii_digit d && not (d == 48)) (list_all is_ascii_digit ds) h).0).0

signed_kind : (negative : Bool) (ds : List ℕ) → DecimalForm ds → kind_at (if negative then 45 ∷ ds else ds) ≡ 0
signed_kind true ds h = refl
signed_kind false ds h = form_number ds h

letter_kind : (c : ℕ) (cs : List ℕ) → is_ascii_alphabetic c ≡ true → list_all is_name_byte cs ≡ true → kind_at (c ∷ cs) ≡ 4
letter_kind c cs h t =
    let a : (c == 45 || is_ascii_digit c) ≡ false = grind (arith, nat_tests) in
    let b : (c == 63) ≡ false = grind (arith, nat_tests) in
    let s : is_some (sign_at c) ≡ false = no_sign c h in
    let x : (c == 120 && brace_first cs) ≡ false = no_brace c cs t in
    rw (a, b, s, x) refl
  where
    no_brace : (c : ℕ) (cs : List ℕ) → list_all is_name_byte cs ≡ true → (c == 120 && brace_first cs) ≡ false
    no_brace c [] t = elim (c == 120) as (λ b. (b && false) ≡ false) [ true ↦ refl | false ↦ refl ]
    no_brace c (d ∷ ds) t =
        let p = and_parts (is_name_byte d) (list_all is_name_byte ds) t in
        let z : (d == 123) ≡ false = grind (arith, nat_tests) in
        rw z (elim (c == 120) as (λ b. (b && false) ≡ false) [ true ↦ refl | false ↦ refl ])

    no_sign : (c : ℕ) → is_ascii_alphabetic c ≡ true → is_some (sign_at c) ≡ false
    no_sign c h =
        let e1 : (c == 123) ≡ false = grind (arith, nat_tests) in
        let e2 : (c == 125) ≡ false = grind (arith, nat_tests) in
        let e3 : (c == 91) ≡ false = grind (arith, nat_tests) in
        let e4 : (c == 93) ≡ false = grind (arith, nat_tests) in
        let e5 : (c == 40) ≡ false = grind (arith, nat_tests) in
        let e6 : (c == 41) ≡ false = grind (arith, nat_tests) in
        let e7 : (c == 60) ≡ false = grind (arith, nat_tests) in
        let e8 : (c == 62) ≡ false = grind (arith, nat_tests) in
        let e9 : (c == 44) ≡ false = grind (arith, nat_tests) in
        let f1 : (c == 58) ≡ false = grind (arith, nat_tests) in
        let f2 : (c == 126) ≡ false = grind (arith, nat_tests) in
        let f3 : (c == 94) ≡ false = grind (arith, nat_tests) in
        let f4 : (c == 33) ≡ false = grind (arith, nat_tests) in
        let f5 : (c == 37) ≡ false = grind (arith, nat_tests) in
        rw (e1, e2, e3, e4, e5, e6, e7, e8, e9, f1, f2, f3, f4, f5) refl

name_kind : (name : List ℕ) → IsName name → kind_at name ≡ 4
name_kind [] h = absurd (cc)
name_kind (c ∷ cs) h = ⊎_elim
    (λ (a : (is_ascii_alphabetic c && list_all is_name_byte cs) ≡ true).
    let p = and_parts (is_ascii_alphabetic c) (list_all is_name_byte cs) a in letter_kind c cs p.0 p.1)
    (λ (a : ((c == 95) && is_count cs) ≡ true).
    let p = and_parts (c == 95) (is_count cs) a in ap (λ (x : ℕ). kind_at (x ∷ cs)) (eqb-true c 95 p.0))
    (or_cases (is_ascii_alphabetic c && list_all is_name_byte cs) ((c == 95) && is_count cs) h)

beyond_kind : (form : Form) (bytes : List ℕ) → SpellsBeyond form bytes → kind_at bytes ≡ form_kind form
beyond_kind forms.Number bytes h = let l = h.large in ap kind_at h.whole ∙ signed_kind h.negative h.digits (counted l.0 l.1)
beyond_kind forms.Bits bytes h = ap kind_at h.whole
beyond_kind forms.Hidden bytes h = ap kind_at h.whole

lexeme_kind : (l : Lexeme) (bytes : List ℕ) → Spells l bytes → kind_at bytes ≡ kind l
lexeme_kind (ASign s) bytes h = ap kind_at h ∙ sign_kind s
lexeme_kind (Number n) bytes h = ap kind_at h.1 ∙ signed_kind n.negative (decimal n.size) (decimal_form n.size (let l = h.0 in omega arith))
lexeme_kind (Bits bs) bytes h = ap kind_at h.1
lexeme_kind (Name n) bytes h = ap kind_at h.1 ∙ name_kind n h.0
lexeme_kind (Hidden k) bytes h = ap kind_at h.1
lexeme_kind (Beyond form) bytes h = beyond_kind form bytes h

-- ---- lexemes of one kind

sign_same : (s t : Sign) → sign_byte s ∷ [] ≡ sign_byte t ∷ [] → s ≡ t
sign_same s t e =
    let b : sign_byte s ≡ sign_byte t = cc in
    let o : Some s ≡ Some t = sym (sign_at-byte s) ∙ ap sign_at b ∙ sign_at-byte t in
    cc

pub decimal_value : (n : ℕ) → n < 10 ^ 64 → digits_value 10 (decimal n) ≡ n
decimal_value n h = (decimal_is_IsNumeral_wide n h).1

record SameSign (a b : Bool) (ds es : List ℕ) : Type 0 where
  signs : a ≡ b
  digits : ds ≡ es

first_of : (c d : ℕ) (ds es : List ℕ) → c ∷ ds ≡ d ∷ es → c ≡ d
first_of c d ds es e = cc

tail_of : (c : ℕ) (ds es : List ℕ) → c ∷ ds ≡ c ∷ es → ds ≡ es
tail_of c ds es e = cc

minus_first : (ds es : List ℕ) → DecimalForm es → 45 ∷ ds ≡ es → ⊥
minus_first ds es f e =
    by_first es f e
  where
    by_first : (es : List ℕ) → DecimalForm es → 45 ∷ ds ≡ es → ⊥
    by_first es (is_zero f) e = omega (arith, first_of 45 48 ds [] (e ∙ f))
    by_first [] (counted h s) e = absurd (cc)
    by_first (d ∷ es) (counted h s) e =
        let first = first_of 45 d ds es e in
        let digit = (and_parts (is_ascii_digit d) (not (d == 48)) (and_parts (is_ascii_digit d && not (d == 48)) (list_all is_ascii_digit es) h).0).0 in
        let no : is_ascii_digit 45 ≡ true = ap is_ascii_digit first ∙ digit in
        absurd (cc)

signed_same : (a b : Bool) (ds es : List ℕ) → DecimalForm ds → DecimalForm es → (if a then 45 ∷ ds else ds) ≡ (if b then 45 ∷ es else es) → SameSign a b ds es
signed_same true true ds es f g e = record { signs = refl; digits = tail_of 45 ds es e }
signed_same true false ds es f g e = absurd (minus_first ds es g e)
signed_same false true ds es f g e = absurd (minus_first es ds f (sym e))
signed_same false false ds es f g e = record { signs = refl; digits = e }

count_form : (ds : List ℕ) (least : ℕ) → IsTrue (is_count ds) × (0 < length ds) × (least ≤ digits_value 10 ds) → DecimalForm ds
count_form ds least h = counted h.0 h.1

abbrev Decoded : List ℕ → Result (List ℕ) FromHexError
Decoded bytes = Ok bytes

hash_same : (a b xs ys : List ℕ) → length a ≡ 32 → length b ≡ 32 → AreBytes a → AreBytes b
    → 63 ∷ encode_lower a ++ 46 ∷ xs ≡ 63 ∷ encode_lower b ++ 46 ∷ ys → (a ≡ b) × (xs ≡ ys)
hash_same a b xs ys la lb ha hb e =
    let rest : encode_lower a ++ 46 ∷ xs ≡ encode_lower b ++ 46 ∷ ys = tail_of 63 (encode_lower a ++ 46 ∷ xs) (encode_lower b ++ 46 ∷ ys) e in
    let texts : encode_lower a ≡ encode_lower b =
    sym (take_at (encode_lower a) (46 ∷ xs) 64 (hash_length a la)) ∙ ap (take 64) rest ∙ take_at (encode_lower b) (46 ∷ ys) 64 (hash_length b lb) in
    let tails : 46 ∷ xs ≡ 46 ∷ ys =
    sym (drop_at (encode_lower a) (46 ∷ xs) 64 (hash_length a la)) ∙ ap (drop 64) rest ∙ drop_at (encode_lower b) (46 ∷ ys) 64 (hash_length b lb) in
    let decodes : Decoded a ≡ Decoded b = sym (decoded a la ha) ∙ ap (λ (t : List ℕ). decode_sized t 32) texts ∙ decoded b lb hb in
    (ok_same decodes, tail_of 46 xs ys tails)
  where
    ok_same : Decoded a ≡ Decoded b → a ≡ b
    ok_same e = cc

bits_same : (a b : List ℕ) → AreBits a → AreBits b → spelling (bits a) ≡ spelling (bits b) → a ≡ b
bits_same a b ha hb e =
    hex_text-injective a b ha hb
    (append_cancel_right (hex_text a) (hex_text b) (125 ∷ [])
    (tail_of 123 (hex_text a ++ 125 ∷ []) (hex_text b ++ 125 ∷ []) (tail_of 120 (123 ∷ hex_text a ++ 125 ∷ []) (123 ∷ hex_text b ++ 125 ∷ []) e)))

numbers_same : (a b : Bool) (m n : ℕ) → m < 2 ^ 128 → n < 2 ^ 128 → spelling (number a m) ≡ spelling (number b n)
    → Number (record { negative = a; size = m }) ≡ Number (record { negative = b; size = n })
numbers_same a b m n hm hn e =
    let s = signed_same a b (decimal m) (decimal n) (decimal_form m (omega arith)) (decimal_form n (omega arith)) e in
    let size : m ≡ n = sym (decimal_value m (omega arith)) ∙ ap (digits_value 10) s.digits ∙ decimal_value n (omega arith) in
    (λ i. Number (record { negative = s.signs i; size = size i }))

number_not_long : (a : Bool) (m : ℕ) (bytes : List ℕ) → m < 2 ^ 128 → bytes ≡ spelling (number a m) → IsLongNumber bytes → ⊥
number_not_long a m bytes hm e h =
    let s = signed_same a h.negative (decimal m) h.digits (decimal_form m (omega arith)) (count_form h.digits (2 ^ 128) h.large) (sym e ∙ h.whole) in
    let size : m ≡ digits_value 10 h.digits = sym (decimal_value m (omega arith)) ∙ ap (digits_value 10) s.digits in
    let large : 2 ^ 128 ≤ digits_value 10 h.digits = h.large.2 in
    omega arith

hidden_not_deep : (hash : List ℕ) (depth : ℕ) (bytes : List ℕ) → length hash ≡ 32 → AreBytes hash → depth < 2 ^ 16
    → bytes ≡ 63 ∷ encode_lower hash ++ 46 ∷ decimal depth → IsDeepHidden bytes → ⊥
hidden_not_deep hash depth bytes l b d e h =
    let s = hash_same hash h.hash (decimal depth) h.digits l h.size b h.are_bytes (sym e ∙ h.whole) in
    let size : depth ≡ digits_value 10 h.digits = sym (decimal_value depth (omega arith)) ∙ ap (digits_value 10) s.1 in
    let large : 2 ^ 16 ≤ digits_value 10 h.digits = h.large.2 in
    omega arith

long_not_few : (bs : List ℕ) (bytes : List ℕ) → AreFew bs → bytes ≡ spelling (bits bs) → AreLongBits bytes → ⊥
long_not_few bs bytes f e h =
    let same : bs ≡ h.contents = bits_same bs h.contents f.0 h.are_bits (sym e ∙ h.whole) in
    let size : length bs ≡ length h.contents = ap length same in
    let few : length bs ≤ 1023 = f.1 in
    let many = h.many in
    omega arith

within_beyond : (l : Lexeme) (form : Form) (bytes : List ℕ) → Spells l bytes → SpellsBeyond form bytes → kind l ≡ form_kind form → l ≡ Beyond form
within_beyond (ASign s) forms.Number bytes h g k = absurd (omega arith)
within_beyond (ASign s) forms.Bits bytes h g k = absurd (omega arith)
within_beyond (ASign s) forms.Hidden bytes h g k = absurd (omega arith)
within_beyond (Number n) forms.Number bytes h g k = absurd (number_not_long n.negative n.size bytes h.0 h.1 g)
within_beyond (Number n) forms.Bits bytes h g k = absurd (omega arith)
within_beyond (Number n) forms.Hidden bytes h g k = absurd (omega arith)
within_beyond (Bits bs) forms.Number bytes h g k = absurd (omega arith)
within_beyond (Bits bs) forms.Bits bytes h g k = absurd (long_not_few bs bytes h.0 h.1 g)
within_beyond (Bits bs) forms.Hidden bytes h g k = absurd (omega arith)
within_beyond (Name n) forms.Number bytes h g k = absurd (omega arith)
within_beyond (Name n) forms.Bits bytes h g k = absurd (omega arith)
within_beyond (Name n) forms.Hidden bytes h g k = absurd (omega arith)
within_beyond (Hidden p) forms.Number bytes h g k = absurd (omega arith)
within_beyond (Hidden p) forms.Bits bytes h g k = absurd (omega arith)
within_beyond (Hidden p) forms.Hidden bytes h g k = absurd (hidden_not_deep p.hash p.depth bytes h.0.0 h.0.1 h.0.2 h.1 g)
within_beyond (Beyond forms.Number) forms.Number bytes h g k = refl
within_beyond (Beyond forms.Number) forms.Bits bytes h g k = absurd (omega arith)
within_beyond (Beyond forms.Number) forms.Hidden bytes h g k = absurd (omega arith)
within_beyond (Beyond forms.Bits) forms.Number bytes h g k = absurd (omega arith)
within_beyond (Beyond forms.Bits) forms.Bits bytes h g k = refl
within_beyond (Beyond forms.Bits) forms.Hidden bytes h g k = absurd (omega arith)
within_beyond (Beyond forms.Hidden) forms.Number bytes h g k = absurd (omega arith)
within_beyond (Beyond forms.Hidden) forms.Bits bytes h g k = absurd (omega arith)
within_beyond (Beyond forms.Hidden) forms.Hidden bytes h g k = refl

hidden_same : (a b : List ℕ) (x y : ℕ) → length a ≡ 32 → length b ≡ 32 → AreBytes a → AreBytes b → x < 2 ^ 16 → y < 2 ^ 16
    → 63 ∷ encode_lower a ++ 46 ∷ decimal x ≡ 63 ∷ encode_lower b ++ 46 ∷ decimal y
    → Hidden (record { hash = a; depth = x }) ≡ Hidden (record { hash = b; depth = y })
hidden_same a b x y la lb ha hb hx hy e =
    let s = hash_same a b (decimal x) (decimal y) la lb ha hb e in
    let size : x ≡ y = sym (decimal_value x (omega arith)) ∙ ap (digits_value 10) s.1 ∙ decimal_value y (omega arith) in
    (λ i. Hidden (record { hash = s.0 i; depth = size i }))

no_kind : (l m : Lexeme) (n k : ℕ) → kind l ≡ n → kind m ≡ k → n ≢ k → kind l ≡ kind m → l ≡ m
no_kind l m n k e f d g = absurd (d (sym e ∙ g ∙ f))

same_kind : (l m : Lexeme) (bytes : List ℕ) → Spells l bytes → Spells m bytes → kind l ≡ kind m → l ≡ m
same_kind l (Beyond form) bytes h g k = within_beyond l form bytes h g k
same_kind (Beyond form) m bytes h g k = sym (within_beyond m form bytes g h (sym k))
same_kind (ASign s) (ASign t) bytes h g k = ap ASign (sign_same s t (sym h ∙ g))
same_kind (Number m) (Number n) bytes h g k = numbers_same m.negative n.negative m.size n.size h.0 g.0 (sym h.1 ∙ g.1)
same_kind (Bits a) (Bits b) bytes h g k = ap Bits (bits_same a b h.0.0 g.0.0 (sym h.1 ∙ g.1))
same_kind (Name a) (Name b) bytes h g k = ap Name (sym h.1 ∙ g.1)
same_kind (Hidden a) (Hidden b) bytes h g k = hidden_same a.hash b.hash a.depth b.depth h.0.0 g.0.0 h.0.1 g.0.1 h.0.2 g.0.2 (sym h.1 ∙ g.1)
same_kind (ASign s) (Number n) bytes h g k = no_kind (ASign s) (Number n) 2 0 refl refl (λ e. omega arith) k
same_kind (ASign s) (Bits b) bytes h g k = no_kind (ASign s) (Bits b) 2 3 refl refl (λ e. omega arith) k
same_kind (ASign s) (Name b) bytes h g k = no_kind (ASign s) (Name b) 2 4 refl refl (λ e. omega arith) k
same_kind (ASign s) (Hidden b) bytes h g k = no_kind (ASign s) (Hidden b) 2 1 refl refl (λ e. omega arith) k
same_kind (Number n) (ASign t) bytes h g k = no_kind (Number n) (ASign t) 0 2 refl refl (λ e. omega arith) k
same_kind (Number n) (Bits b) bytes h g k = no_kind (Number n) (Bits b) 0 3 refl refl (λ e. omega arith) k
same_kind (Number n) (Name b) bytes h g k = no_kind (Number n) (Name b) 0 4 refl refl (λ e. omega arith) k
same_kind (Number n) (Hidden b) bytes h g k = no_kind (Number n) (Hidden b) 0 1 refl refl (λ e. omega arith) k
same_kind (Bits a) (ASign t) bytes h g k = no_kind (Bits a) (ASign t) 3 2 refl refl (λ e. omega arith) k
same_kind (Bits a) (Number n) bytes h g k = no_kind (Bits a) (Number n) 3 0 refl refl (λ e. omega arith) k
same_kind (Bits a) (Name b) bytes h g k = no_kind (Bits a) (Name b) 3 4 refl refl (λ e. omega arith) k
same_kind (Bits a) (Hidden b) bytes h g k = no_kind (Bits a) (Hidden b) 3 1 refl refl (λ e. omega arith) k
same_kind (Name a) (ASign t) bytes h g k = no_kind (Name a) (ASign t) 4 2 refl refl (λ e. omega arith) k
same_kind (Name a) (Number n) bytes h g k = no_kind (Name a) (Number n) 4 0 refl refl (λ e. omega arith) k
same_kind (Name a) (Bits b) bytes h g k = no_kind (Name a) (Bits b) 4 3 refl refl (λ e. omega arith) k
same_kind (Name a) (Hidden b) bytes h g k = no_kind (Name a) (Hidden b) 4 1 refl refl (λ e. omega arith) k
same_kind (Hidden a) (ASign t) bytes h g k = no_kind (Hidden a) (ASign t) 1 2 refl refl (λ e. omega arith) k
same_kind (Hidden a) (Number n) bytes h g k = no_kind (Hidden a) (Number n) 1 0 refl refl (λ e. omega arith) k
same_kind (Hidden a) (Bits b) bytes h g k = no_kind (Hidden a) (Bits b) 1 3 refl refl (λ e. omega arith) k
same_kind (Hidden a) (Name b) bytes h g k = no_kind (Hidden a) (Name b) 1 4 refl refl (λ e. omega arith) k

-- bytes spell at most one lexeme
pub spells_one : (bytes : List ℕ) (l m : Lexeme) → Spells l bytes → Spells m bytes → l ≡ m
spells_one bytes l m h g = same_kind l m bytes h g (sym (lexeme_kind l bytes h) ∙ lexeme_kind m bytes g)

pub record OneStands (l m : Lexeme) (n k : ℕ) : Type 0 where
  pub lexemes : l ≡ m
  pub lengths : n ≡ k

pub one_stands : (text : List ℕ) (l m : Lexeme) (n k : ℕ) → Stands l n text → Stands m k text → OneStands l m n k
one_stands text l m n k h g = ⊎_elim
    (λ (s : n < k). absurd (h.longest k m s g.within g.spelled))
    (λ (s : k ≤ n). ⊎_elim
    (λ (t : k < n). absurd (g.longest n l t h.within h.spelled))
    (λ (t : n ≤ k).
    let e : n ≡ k = omega arith in
    let P : ℕ → Type 0 = λ x. Spells m (take x text) in
    record { lexemes = spells_one (take n text) l m h.spelled (subst P (sym e) g.spelled); lengths = e })
    (cases_lt k n))
    (cases_lt n k)
