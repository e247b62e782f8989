-- What the tokens of a text can be.
use Rattle.std.proofs.Common.{◌≡◌, ◌≤◌, ◌<◌, ◌+◌, ◌-◌, ◌^◌, ◌||◌, Bool, true, false, ℕ, suc, zero, List, [], ◌∷◌, length, map, take, drop, refl, ap, sym, ◌∙◌, subst, arith}
use Rattle.std.specs.Prelude.{◌==◌, Option, Some, None, nat_le, nat_lt, bytes_eq, if◌then◌else◌}
use Rattle.std.specs.List.{flat_map, list_all}
use Rattle.std.proofs.lemmas.Bool.Decides.{nat_tests}
use Rattle.std.proofs.lemmas.List.{drop-drop, length-take-le}
use Rattle.bit_slice.specs.Bits.{AreBits}
use Rattle.bit_slice.specs.BitLists.{AreBits-append}
use Rattle.tlb_lexer.specs.declared.TokenKind.{TokenKind}
use Rattle.tlb_lexer.specs.declared.TokenKind.TheVariants as kinds
use Rattle.tlb_lexer.specs.declared.Token.{Token}
use Rattle.tlb_lexer.specs.Bytes.{is_bit, is_hex_digit}
use Rattle.tlb_lexer.specs.Spelling.{spells, is_underscore, are_bits, ends_hex}
use Rattle.tlb_lexer.specs.Tokenization.{longest_name, TokenizesFrom, ended, gap, token, Tokenizes}
use Rattle.tlb_syntax.specs.declared.sign.Sign.{Sign}
use Rattle.tlb_syntax.specs.Lexeme.{Lexeme, number, tag, sign, decimal_onto, at_most_1023, and_at_most_1023, hex_bits, before_completion, without_completion, hex_digits, is_completed, sign_text, sign_among, signs, meaning, lexemes}
use Rattle.tlb_syntax.specs.Limits.{IsOfText, AreOfText}
use Rattle.tlb_syntax.proofs.TagBits.{hex_value-small}

-- ---- numbers and symbols

a-number : (n : ℕ) (b : Bool) → nat_lt n (2 ^ 32) ≡ b → IsOfText (number (if b then Some n else None))
a-number n true h = grind (arith, nat_tests, h)
a-number n false h = tt

chosen : (b : Bool) (s : Sign) (later : Lexeme) → IsOfText later → IsOfText (if b then sign s else later)
chosen true s later h = tt
chosen false s later h = h

a-symbol : (ss : List Sign) (text : List ℕ) → IsOfText (sign_among ss text)
a-symbol [] text = tt
a-symbol (s ∷ ss) text = chosen (bytes_eq (sign_text s) text) s (sign_among ss text) (a-symbol ss text)

-- ---- tags

short-bits : (bits : List ℕ) (b : Bool) → nat_le (length bits) 1023 ≡ b → AreBits bits
    → IsOfText (tag (if b then Some bits else None))
short-bits bits true h are = record { are_bits = are; short = grind (arith, nat_tests, h) }
short-bits bits false h are = tt

abbrev AreSome : Option (List ℕ) → Type 0
AreSome None = Unit {0}
AreSome (Some bits) = AreBits bits

short-some : (found : Option (List ℕ)) → AreSome found → IsOfText (tag (and_at_most_1023 found))
short-some None h = tt
short-some (Some bits) h = short-bits bits (nat_le (length bits) 1023) refl h

before-completion : (b : ℕ) (found : Option (List ℕ)) → b < 2 → AreSome found → AreSome (before_completion b found)
before-completion zero None h rest = tt
before-completion (suc zero) None h rest = tt
before-completion (suc (suc b)) None h rest = absurd (omega arith)
before-completion b (Some bits) h rest = (h, rest)

uncompleted : (bits : List ℕ) → AreBits bits → AreSome (without_completion bits)
uncompleted [] h = tt
uncompleted (b ∷ bits) h = before-completion b (without_completion bits) h.0 (uncompleted bits h.1)

digit-bits : (ds : List ℕ) → list_all is_bit ds ≡ true → AreBits (map (λ d. d - 48) ds)
digit-bits [] h = tt
digit-bits (d ∷ ds) h = (grind (arith, nat_tests, h), digit-bits ds (grind (arith, h)))

hex-bits : (ds : List ℕ) → list_all is_hex_digit ds ≡ true → AreBits (flat_map hex_bits ds)
hex-bits [] h = tt
hex-bits (d ∷ ds) h =
    let small = hex_value-small d (grind (arith, h)) in
    AreBits-append (hex_bits d) (flat_map hex_bits ds) (omega (arith, small), (omega arith, (omega arith, (omega arith, tt)))) (hex-bits ds (grind (arith, h)))

-- ---- what stands after the marks of tags

digits-before : (ds : List ℕ) → ends_hex ds ≡ true → list_all is_hex_digit (hex_digits ds) ≡ true
digits-before [] h = refl
digits-before (d ∷ []) h = last-digit d (d == 95) refl h
  where
    last-digit : (d : ℕ) (b : Bool) → (d == 95) ≡ b → (is_hex_digit d || d == 95) ≡ true
        → list_all is_hex_digit (if b then [] else d ∷ []) ≡ true
    last-digit d true e h = refl
    last-digit d false e h = grind (arith, h, e)
digits-before (d ∷ e ∷ ds) h =
    let rest = digits-before (e ∷ ds) (grind (arith, h)) in
    grind (arith, h, rest)

digits-only : (ds : List ℕ) → ends_hex ds ≡ true → is_completed ds ≡ false → list_all is_hex_digit ds ≡ true
digits-only [] h c = refl
digits-only (d ∷ []) h c = grind (arith, h, c)
digits-only (d ∷ e ∷ ds) h c =
    let rest = digits-only (e ∷ ds) (grind (arith, h)) c in
    grind (arith, h, rest)

a-hex_tag : (ds : List ℕ) (alone completed : Bool) → is_completed ds ≡ completed → ends_hex ds ≡ true
    → IsOfText (tag (if alone then Some [] else if completed then and_at_most_1023 (without_completion (flat_map hex_bits (hex_digits ds))) else at_most_1023 (flat_map hex_bits ds)))
a-hex_tag ds true completed c h = record { are_bits = tt; short = omega arith }
a-hex_tag ds false true c h =
    short-some (without_completion (flat_map hex_bits (hex_digits ds))) (uncompleted (flat_map hex_bits (hex_digits ds)) (hex-bits (hex_digits ds) (digits-before ds h)))
a-hex_tag ds false false c h = short-bits (flat_map hex_bits ds) (nat_le (length (flat_map hex_bits ds)) 1023) refl (hex-bits ds (digits-only ds h c))

all-bits : (ds : List ℕ) → are_bits ds ≡ true → list_all is_bit ds ≡ true
all-bits [] h = refl
all-bits (d ∷ ds) h = h

a-binary_tag : (ds : List ℕ) (alone : Bool) → is_underscore ds ≡ alone → (alone || are_bits ds) ≡ true
    → IsOfText (tag (if alone then Some [] else at_most_1023 (map (λ d. d - 48) ds)))
a-binary_tag ds true e h = record { are_bits = tt; short = omega arith }
a-binary_tag ds false e h = short-bits (map (λ d. d - 48) ds) (nat_le (length (map (λ d. d - 48) ds)) 1023) refl (digit-bits ds (all-bits ds h))

-- ---- tokens

meant : (kind : TokenKind) (text : List ℕ) → spells kind text ≡ true
    → (kind ≡ kinds.Name → length text ≤ longest_name) → IsOfText (meaning kind text)
meant kinds.Name text h short = record { spelled = h; short = short refl }
meant kinds.Blank text h short = tt
meant kinds.Number text h short = a-number (decimal_onto 0 text) (nat_lt (decimal_onto 0 text) (2 ^ 32)) refl
meant kinds.BinaryTag [] h short = absurd (cc)
meant kinds.BinaryTag (b ∷ bs) h short = a-binary_tag bs (is_underscore bs) refl (grind (arith, h))
meant kinds.HexTag [] h short = absurd (cc)
meant kinds.HexTag (b ∷ bs) h short = a-hex_tag bs (is_underscore bs) (is_completed bs) refl (grind (arith, h))
meant kinds.Symbol text h short = a-symbol signs text

tokens-of_text : (text : List ℕ) (place : ℕ) (rest : List ℕ) (ts : List Token) → rest ≡ drop place text
    → TokenizesFrom place rest ts → AreOfText (lexemes text ts)
tokens-of_text text place _ _ e ended = tt
tokens-of_text text place rest ts e (gap {n = n} g c) = tokens-of_text text (place + n) (drop n rest) ts (ap (drop n) e ∙ drop-drop n place text) c
tokens-of_text text place rest _ e (token {n = n} {kind = kind} {tokens = ts} l s c) =
    let size : place + n - place ≡ n = omega arith in
    let bytes : take (place + n - place) (drop place text) ≡ take n rest = rw (size, ← e) refl in
    let count : length (take n rest) ≡ n = length-take-le n rest l.within in
    let P : List ℕ → Type 0 = λ x. IsOfText (meaning kind x) in (
      subst P (sym bytes) (meant kind (take n rest) l.spelled (λ k. omega (arith, count, s k))),
      tokens-of_text text (place + n) (drop n rest) ts (ap (drop n) e ∙ drop-drop n place text) c,
    )

pub of_text : (text : List ℕ) (ts : List Token) → Tokenizes text ts → AreOfText (lexemes text ts)
of_text text ts c = tokens-of_text text 0 text ts refl c
