-- The lexemes of a text: names of the lexer, numbers below 2^32, tags of bits.
use Rattle.std.proofs.Common.{◌≡◌, ◌≤◌, ◌<◌, ◌+◌, ◌-◌, ◌/◌, ◌%◌, ◌^◌, sym, ap, refl, subst, ◌∙◌, ℕ, true, false, Bool, ◌||◌, List, [], ◌∷◌, map, length, take, drop, Option, Some, None, if◌then◌else◌, arith, nat_lt, nat_le, bytes_eq, inl, inr, ◌==◌}
use Rattle.std.specs.List.{list_all, flat_map}
use Rattle.std.proofs.lemmas.List.{drop-drop, length-take-le}
use Rattle.bit_slice.specs.Bits.{AreBits}
use Rattle.tlb_lexer.specs.declared.TokenKind.{TokenKind}
use Rattle.tlb_lexer.specs.declared.TokenKind.TheVariants.{Name, Blank, Number, BinaryTag, HexTag, Symbol}
use Rattle.tlb_lexer.specs.declared.Token.{Token}
use Rattle.tlb_lexer.specs.Bytes.{is_bit, is_hex_digit}
use Rattle.tlb_lexer.specs.Spelling.{spells, is_underscore, are_bits, ends_hex}
use Rattle.tlb_lexer.specs.Tokenization.{longest_name, TokenizesFrom, ended, gap, token, Tokenizes, Longest}
use Rattle.tlb_grammar.proofs.Symbols.{and_parts, or_parts, clash}
use Rattle.tlb_syntax.specs.declared.sign.Sign.{Sign}
use Rattle.tlb_syntax.specs.Lexeme.{Lexeme, word, blank, number, tag, sign, other, meaning, lexemes, decimal_onto, binary_bits, hexadecimal_bits, at_most_1023, and_at_most_1023, hex_value, hex_bits, before_completion, without_completion, hex_digits, is_completed, sign_among, sign_text, signs}
use Rattle.tlb_grammar.proofs.CanonicalTrees.{IsWord, IsMark}

abbrev pub IsMeant : Lexeme → Type 0
IsMeant (word x) = IsWord x
IsMeant (number (Some n)) = n < 2 ^ 32
IsMeant (tag (Some b)) = IsMark b
IsMeant (number None) = Unit {0}
IsMeant (tag None) = Unit {0}
IsMeant blank = Unit {0}
IsMeant (sign s) = Unit {0}
IsMeant other = Unit {0}

abbrev pub AreMeant : List Lexeme → Type 0
AreMeant [] = Unit {0}
AreMeant (l ∷ ls) = IsMeant l × AreMeant ls

-- ---- numbers

number_meant : (n : ℕ) → IsMeant (number (if nat_lt n (2 ^ 32) then Some n else None))
number_meant n =
    elim (nat_lt n (2 ^ 32)) as (λ t. nat_lt n (2 ^ 32) ≡ t → IsMeant (number (if t then Some n else None))) [
      | true ↦ λ e. below n e
      | false ↦ λ e. tt
    ] refl
  where
    below : (n : ℕ) → nat_lt n (2 ^ 32) ≡ true → n < 2 ^ 32
    below n e = grind arith

-- ---- tags

at_most_meant : (bits : List ℕ) → AreBits bits → IsMeant (tag (at_most_1023 bits))
at_most_meant bits h =
    elim (nat_le (length bits) 1023) as
    (λ t. nat_le (length bits) 1023 ≡ t → IsMeant (tag (if t then Some bits else None))) [
      | true ↦ λ e. record { bits = h; short = short e }
      | false ↦ λ e. tt
    ] refl
  where
    short : nat_le (length bits) 1023 ≡ true → length bits ≤ 1023
    short e = grind arith

empty_meant : IsMeant (tag (Some []))
empty_meant = record { bits = tt; short = omega arith }

bit_digit : (d : ℕ) → is_bit d ≡ true → d - 48 < 2
bit_digit d e = grind arith

digits_bits : (ds : List ℕ) → list_all is_bit ds ≡ true → AreBits (map (λ d. d - 48) ds)
digits_bits [] e = tt
digits_bits (d ∷ ds) e = let p = and_parts (is_bit d) (list_all is_bit ds) e in (bit_digit d p.0, digits_bits ds p.1)

are_bits_all : (ds : List ℕ) → are_bits ds ≡ true → list_all is_bit ds ≡ true
are_bits_all [] e = cc
are_bits_all (d ∷ ds) e = e

binary_meant : (ds : List ℕ) → (is_underscore ds || are_bits ds) ≡ true → IsMeant (tag (binary_bits ds))
binary_meant ds e =
    elim (is_underscore ds) as
    (λ t. (t || are_bits ds) ≡ true → IsMeant (tag (if t then Some [] else at_most_1023 (map (λ d. d - 48) ds)))) [
      | true ↦ λ h. empty_meant
      | false ↦ λ h. at_most_meant (map (λ d. d - 48) ds) (digits_bits ds (are_bits_all ds h))
    ] e

hex_small : (d : ℕ) → is_hex_digit d ≡ true → hex_value d < 16
hex_small d e = grind arith

hex_bits_are : (d : ℕ) → is_hex_digit d ≡ true
    → (hex_value d / 8 < 2) × (((hex_value d / 4) % 2 < 2) × (((hex_value d / 2) % 2 < 2) × (hex_value d % 2 < 2)))
hex_bits_are d e = parts (hex_value d) (hex_small d e)
  where
    parts : (v : ℕ) → v < 16 → (v / 8 < 2) × (((v / 4) % 2 < 2) × (((v / 2) % 2 < 2) × (v % 2 < 2)))
    parts v h = (omega arith, (omega arith, (omega arith, omega arith)))

hex_all_bits : (ds : List ℕ) → list_all is_hex_digit ds ≡ true → AreBits (flat_map hex_bits ds)
hex_all_bits [] e = tt
hex_all_bits (d ∷ ds) e =
    let p = and_parts (is_hex_digit d) (list_all is_hex_digit ds) e in
    let h = hex_bits_are d p.0 in
    (h.0, (h.1.0, (h.1.1.0, (h.1.1.1, hex_all_bits ds p.1))))

abbrev AreSomeBits : Option (List ℕ) → Type 0
AreSomeBits None = Unit {0}
AreSomeBits (Some bits) = AreBits bits

completion_bits : (b : ℕ) (found : Option (List ℕ)) → b < 2 → AreSomeBits found
    → AreSomeBits (before_completion b found)
completion_bits b (Some bits) h k = (h, k)
completion_bits b None h k = elim (b == 1) as (λ t. AreSomeBits (if t then Some [] else None)) [ true ↦ tt | false ↦ tt ]

uncompleted_bits : (bits : List ℕ) → AreBits bits → AreSomeBits (without_completion bits)
uncompleted_bits [] h = tt
uncompleted_bits (b ∷ bits) h = completion_bits b (without_completion bits) h.0 (uncompleted_bits bits h.1)

and_at_most_meant : (found : Option (List ℕ)) → AreSomeBits found → IsMeant (tag (and_at_most_1023 found))
and_at_most_meant None h = tt
and_at_most_meant (Some bits) h = at_most_meant bits h

one_hex : (t : Bool) (d : ℕ) → (is_hex_digit d || t) ≡ true → list_all is_hex_digit (if t then [] else d ∷ []) ≡ true
one_hex true d e = refl
one_hex false d e = elim (or_parts (is_hex_digit d) false e) [ inl h ↦ rw h refl | inr h ↦ cc ]

-- digits before a `_` are hexadecimal, and so are all digits where no `_` closes them
hex_prefix : (ds : List ℕ) → ends_hex ds ≡ true → list_all is_hex_digit (hex_digits ds) ≡ true
hex_prefix [] e = cc
hex_prefix (d ∷ []) e = one_hex (d == 95) d e
hex_prefix (d ∷ c ∷ ds) e =
    let p = and_parts (is_hex_digit d) (ends_hex (c ∷ ds)) e in
    rw p.0 (hex_prefix (c ∷ ds) p.1)

hex_alone : (d : ℕ) → (is_hex_digit d || d == 95) ≡ true → (if d == 95 then true else false) ≡ false
    → list_all is_hex_digit (d ∷ []) ≡ true
hex_alone d e f = elim (or_parts (is_hex_digit d) (d == 95) e) [ inl h ↦ rw h refl | inr h ↦ absurd (closes h) ]
  where
    closes : (d == 95) ≡ true → ⊥
    closes h = let P : Bool → Type 0 = λ t. (if t then true else false) ≡ false in clash false (sym (subst P h f)) refl

hex_open : (ds : List ℕ) → ends_hex ds ≡ true → is_completed ds ≡ false → list_all is_hex_digit ds ≡ true
hex_open [] e f = cc
hex_open (d ∷ []) e f = hex_alone d e f
hex_open (d ∷ c ∷ ds) e f =
    let p = and_parts (is_hex_digit d) (ends_hex (c ∷ ds)) e in
    rw p.0 (hex_open (c ∷ ds) p.1 f)

hex_meant : (ds : List ℕ) → ends_hex ds ≡ true → IsMeant (tag (hexadecimal_bits ds))
hex_meant ds e =
    let closed = and_at_most_meant (without_completion (flat_map hex_bits (hex_digits ds)))
    (uncompleted_bits (flat_map hex_bits (hex_digits ds)) (hex_all_bits (hex_digits ds) (hex_prefix ds e))) in
    elim (is_underscore ds) as (λ t. IsMeant (tag (
    if t then Some []
    else if is_completed ds then and_at_most_1023 (without_completion (flat_map hex_bits (hex_digits ds)))
    else at_most_1023 (flat_map hex_bits ds)))) [
      | true ↦ empty_meant
      | false ↦ elim (is_completed ds) as (λ t. is_completed ds ≡ t → IsMeant (tag (
          if t then and_at_most_1023 (without_completion (flat_map hex_bits (hex_digits ds)))
          else at_most_1023 (flat_map hex_bits ds)))) [
            | true ↦ λ f. closed
            | false ↦ λ f. at_most_meant (flat_map hex_bits ds) (hex_all_bits ds (hex_open ds e f))
          ] refl
    ]

-- ---- tokens

sign_meant : (ss : List Sign) (text : List ℕ) → IsMeant (sign_among ss text)
sign_meant [] text = tt
sign_meant (s ∷ ss) text =
    elim (bytes_eq (sign_text s) text) as
    (λ t. IsMeant (if t then sign s else sign_among ss text)) [ true ↦ tt | false ↦ sign_meant ss text ]

token_meant : (kind : TokenKind) (text : List ℕ) → spells kind text ≡ true → (kind ≡ Name → length text ≤ longest_name)
    → IsMeant (meaning kind text)
token_meant Name text e short = record { spelled = e; short = short refl }
token_meant Blank text e short = tt
token_meant Number text e short = number_meant (decimal_onto 0 text)
token_meant BinaryTag [] e short = cc
token_meant BinaryTag (b ∷ ds) e short = binary_meant ds (and_parts (b == 36) (is_underscore ds || are_bits ds) e).1
token_meant HexTag [] e short = cc
token_meant HexTag (b ∷ ds) e short = hex_meant ds (and_parts (b == 35) (ends_hex ds) e).1
token_meant Symbol text e short = sign_meant signs text

longest_meant : (kind : TokenKind) (n place : ℕ) (whole text : List ℕ) → Longest kind n text
    → (kind ≡ Name → n ≤ longest_name) → drop place whole ≡ text
    → IsMeant (meaning kind (take ((place + n) - place) (drop place whole)))
longest_meant kind n place whole text longest short e =
    let size : (place + n) - place ≡ n = omega arith in
    let bytes : take ((place + n) - place) (drop place whole) ≡ take n text =
    ap (λ k. take k (drop place whole)) size ∙ ap (take n) e in
    let P : List ℕ → Type 0 = λ xs. IsMeant (meaning kind xs) in
    let Q : ℕ → Type 0 = λ k. k ≤ longest_name in
    subst P (sym bytes) (token_meant kind (take n text) longest.spelled
    (λ is. subst Q (sym (length-take-le n text longest.within)) (short is)))

left_over : (n place : ℕ) (whole text : List ℕ) → drop place whole ≡ text → drop (place + n) whole ≡ drop n text
left_over n place whole text e = sym (drop-drop n place whole) ∙ ap (drop n) e

tokens_meant : {place : ℕ} {text : List ℕ} {tokens : List Token} → TokenizesFrom place text tokens → (whole : List ℕ)
    → drop place whole ≡ text → AreMeant (lexemes whole tokens)
tokens_meant ended whole e = tt
tokens_meant (gap {place = place} {n = n} {text = text} g c) whole e = tokens_meant c whole (left_over n place whole text e)
tokens_meant (token {place = place} {n = n} {text = text} {kind = kind} longest short c) whole e =
    (longest_meant kind n place whole text longest short e, tokens_meant c whole (left_over n place whole text e))

-- the lexemes of a text
pub text_meant : (text : List ℕ) (tokens : List Token) → Tokenizes text tokens → AreMeant (lexemes text tokens)
text_meant text tokens c = tokens_meant c text refl
