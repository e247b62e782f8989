-- What ends a token: a byte that no token has but as its first.
use Rattle.std.proofs.Common.{◌≡◌, ◌≤◌, ◌<◌, ◌+◌, ◌-◌, suc, ◌∙◌, sym, ap, refl, subst, ℕ, Bool, true, false, not, ◌||◌, List, [], ◌∷◌, ◌++◌, length, take, arith, inl, inr, ◌==◌, length-append}
use Rattle.std.specs.List.{list_all}
use Rattle.std.proofs.Math.Seq.{take-append_seam, take-append-add}
use Rattle.tlb_lexer.specs.declared.TokenKind.{TokenKind}
use Rattle.tlb_lexer.specs.declared.TokenKind.TheVariants.{Name, Blank, Number, BinaryTag, HexTag, Symbol}
use Rattle.tlb_lexer.specs.Bytes.{is_letter, is_digit, is_name_byte, is_bit, is_hex_digit}
use Rattle.tlb_lexer.specs.Spelling.{spells, is_underscore, are_bits, ends_hex}
use Rattle.tlb_lexer.specs.Tokenization.{Longest}
use Rattle.tlb_grammar.proofs.Symbols.{and_parts, or_parts, hashes, hash_less, hash_less_equal, angle_equal, long_symbol, not_empty}

-- the bytes that a token may have after its first: those of names, and `#`, `<` and `=`
abbrev pub is_inner : ℕ → Bool
is_inner b = is_name_byte b || b == 35 || b == 60 || b == 61

-- the text is none, or its first byte ends the token before it
abbrev pub stops : List ℕ → Bool
stops [] = true
stops (b ∷ bs) = not (is_inner b)

digit_inner : (b : ℕ) → is_digit b ≡ true → is_inner b ≡ true
digit_inner b e = grind arith

name_inner : (b : ℕ) → is_name_byte b ≡ true → is_inner b ≡ true
name_inner b e = rw e refl

bit_inner : (b : ℕ) → is_bit b ≡ true → is_inner b ≡ true
bit_inner b e = grind arith

underscore_inner : (b : ℕ) → (b == 95) ≡ true → is_inner b ≡ true
underscore_inner b e = grind arith

hex_inner : (b : ℕ) → is_hex_digit b ≡ true → is_inner b ≡ true
hex_inner b e = grind arith

all_of : (p q : ℕ → Bool) → ((b : ℕ) → p b ≡ true → q b ≡ true) → (bs : List ℕ) → list_all p bs ≡ true
    → list_all q bs ≡ true
all_of p q f [] e = refl
all_of p q f (b ∷ bs) e =
    let parts = and_parts (p b) (list_all p bs) e in
    let one = f b parts.0 in
    rw one (all_of p q f bs parts.1)

underscore_all : (bs : List ℕ) → is_underscore bs ≡ true → list_all is_inner bs ≡ true
underscore_all [] e = cc
underscore_all (b ∷ []) e = let one = underscore_inner b e in rw one refl
underscore_all (b ∷ c ∷ bs) e = cc

bits_all : (bs : List ℕ) → are_bits bs ≡ true → list_all is_inner bs ≡ true
bits_all [] e = cc
bits_all (b ∷ bs) e = all_of is_bit is_inner bit_inner (b ∷ bs) e

hex_all : (bs : List ℕ) → ends_hex bs ≡ true → list_all is_inner bs ≡ true
hex_all [] e = cc
hex_all (b ∷ []) e =
    elim (or_parts (is_hex_digit b) (b == 95) e) [
      | inl h ↦ let one = hex_inner b h in rw one refl
      | inr h ↦ let one = underscore_inner b h in rw one refl
    ]
hex_all (b ∷ c ∷ bs) e =
    let parts = and_parts (is_hex_digit b) (ends_hex (c ∷ bs)) e in
    let one = hex_inner b parts.0 in
    rw one (hex_all (c ∷ bs) parts.1)

inner_after_first : (kind : TokenKind) (b : ℕ) (bs : List ℕ) → spells kind (b ∷ bs) ≡ true → list_all is_inner bs ≡ true
inner_after_first Name b bs e =
    all_of is_name_byte is_inner name_inner bs (and_parts (is_letter b) (list_all is_name_byte bs) e).1
inner_after_first Blank b [] e = refl
inner_after_first Blank b (c ∷ bs) e = cc
inner_after_first Number b bs e = all_of is_digit is_inner digit_inner bs (and_parts (is_digit b) (list_all is_digit bs) e).1
inner_after_first BinaryTag b bs e =
    elim (or_parts (is_underscore bs) (are_bits bs) (and_parts (b == 36) (is_underscore bs || are_bits bs) e).1) [
      | inl h ↦ underscore_all bs h
      | inr h ↦ bits_all bs h
    ]
inner_after_first HexTag b bs e = hex_all bs (and_parts (b == 35) (ends_hex bs) e).1
inner_after_first Symbol b [] e = refl
inner_after_first Symbol b (c ∷ cs) e =
    elim (long_symbol b c cs e) [
      | hashes x y z ↦ rw (y, z) refl
      | hash_less x y z ↦ rw (y, z) refl
      | hash_less_equal x y z ↦ rw (y, z) refl
      | angle_equal x y z ↦ rw (y, z) refl
    ]

inner_among : (bs cs : List ℕ) (c : ℕ) → list_all is_inner (bs ++ c ∷ cs) ≡ true → is_inner c ≡ true
inner_among [] cs c e = (and_parts (is_inner c) (list_all is_inner cs) e).0
inner_among (b ∷ bs) cs c e = inner_among bs cs c (and_parts (is_inner b) (list_all is_inner (bs ++ c ∷ cs)) e).1

not_true : (t : Bool) → not t ≡ true → t ≡ true → ⊥
not_true true e f = cc
not_true false e f = cc

no_longer : (kind other : TokenKind) (bytes text : List ℕ) → spells kind bytes ≡ true → stops text ≡ true
    → (m : ℕ) → length bytes < m → m ≤ length (bytes ++ text) → spells other (take m (bytes ++ text)) ≡ true → ⊥
no_longer kind other [] text sp ends m lt le e = not_empty kind sp
no_longer kind other (b ∷ bs) [] sp ends m lt le e = absurd (omega (arith, length-append (b ∷ bs) [], lt, le))
no_longer kind other (b ∷ bs) (c ∷ cs) sp ends m lt le e = further (m - suc (length (b ∷ bs))) (omega arith)
  where
    further : (k : ℕ) → m ≡ length (b ∷ bs) + suc k → ⊥
    further k size =
        let tokenized : take m (b ∷ bs ++ c ∷ cs) ≡ b ∷ bs ++ c ∷ take k cs =
        ap (λ j. take j (b ∷ bs ++ c ∷ cs)) size ∙ take-append-add (b ∷ bs) (c ∷ cs) (suc k) in
        let P : List ℕ → Type 0 = λ xs. spells other xs ≡ true in
        let inner = inner_among bs (take k cs) c (inner_after_first other b (bs ++ c ∷ take k cs) (subst P tokenized e)) in
        not_true (is_inner c) ends inner

-- no longer prefix spells any token where the text after a token begins with a byte that no token goes on with
pub longest_before : (kind : TokenKind) (bytes text : List ℕ) → spells kind bytes ≡ true → stops text ≡ true
    → Longest kind (length bytes) (bytes ++ text)
longest_before kind bytes text sp ends =
    let P : List ℕ → Type 0 = λ xs. spells kind xs ≡ true in
    record {
      within = omega (arith, length-append bytes text);
      spelled = subst P (sym (take-append_seam bytes text)) sp;
      longest = λ m other lt le e. no_longer kind other bytes text sp ends m lt le e;
    }
