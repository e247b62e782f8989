-- What the class of a token's first byte tells.
use Rattle.std.proofs.Common.{◌≡◌, sym, ap, refl, subst, ℕ, Bool, true, false, ◌||◌, ◌&&◌, List, [], ◌∷◌, arith, inl, inr, ◌==◌, if◌then◌else◌, codes}
use Rattle.std.specs.List.{list_all}
use Rattle.std.proofs.lemmas.Bool.{eqb-true}
use Rattle.tlb_lexer.specs.declared.TokenKind.{TokenKind}
use Rattle.tlb_lexer.specs.declared.TokenKind.TheVariants.{Name, Blank, Number, BinaryTag, HexTag, Symbol}
use Rattle.tlb_lexer.specs.declared.bytes.Class.{Class}
use Rattle.tlb_lexer.specs.declared.bytes.Class.TheVariants.{White, Letter, Digit, Underscore, Dollar, NumberSign, Slash, Angle, Sign, Other}
use Rattle.tlb_lexer.specs.Bytes.{is_white, is_letter, is_digit, is_name_byte, is_hex_digit, is_sign}
use Rattle.tlb_lexer.specs.Spelling.{spells, is_underscore, is_symbol, are_bits, ends_hex}
use Rattle.tlb_lexer.specs.Stretch.{class}
use Rattle.tlb_lexer.proofs.ListPrefix.{and_parts, or_parts, among}

letter_not_white : (b : ℕ) → is_letter b ≡ true → is_white b ≡ false
letter_not_white b e = grind arith

digit_not_white : (b : ℕ) → is_digit b ≡ true → is_white b ≡ false
digit_not_white b e = grind arith

digit_not_letter : (b : ℕ) → is_digit b ≡ true → is_letter b ≡ false
digit_not_letter b e = grind arith

pub class_white : (b : ℕ) → is_white b ≡ true → class b ≡ White
class_white b e = rw e refl

class_letter : (b : ℕ) → is_letter b ≡ true → class b ≡ Letter
class_letter b e = let w = letter_not_white b e in rw (w, e) refl

class_digit : (b : ℕ) → is_digit b ≡ true → class b ≡ Digit
class_digit b e = let w = digit_not_white b e in let l = digit_not_letter b e in rw (w, l, e) refl

-- what each class says of its bytes
abbrev pub Tells : Class → ℕ → Type 0
Tells White b = is_white b ≡ true
Tells Letter b = is_letter b ≡ true
Tells Digit b = is_digit b ≡ true
Tells Underscore b = b ≡ 95
Tells Dollar b = b ≡ 36
Tells NumberSign b = b ≡ 35
Tells Slash b = b ≡ 47
Tells Angle b = (b == 60 || b == 62) ≡ true
Tells Sign b = is_sign b ≡ true
Tells Other b = Unit {0}

choose : (t : Bool) (x y : Class) (b : ℕ) → (t ≡ true → Tells x b) → Tells y b → Tells (if t then x else y) b
choose true x y b f g = f refl
choose false x y b f g = g

pub class_tells : (b : ℕ) → Tells (class b) b
class_tells b =
    choose (is_white b) White _ b (λ e. e)
    (choose (is_letter b) Letter _ b (λ e. e)
    (choose (is_digit b) Digit _ b (λ e. e)
    (choose (b == 95) Underscore _ b (λ e. eqb-true b 95 e)
    (choose (b == 36) Dollar _ b (λ e. eqb-true b 36 e)
    (choose (b == 35) NumberSign _ b (λ e. eqb-true b 35 e)
    (choose (b == 47) Slash _ b (λ e. eqb-true b 47 e)
    (choose (b == 60 || b == 62) Angle _ b (λ e. e)
    (choose (is_sign b) Sign Other b (λ e. e) tt))))))))

pub tells : (b : ℕ) (kind : Class) → class b ≡ kind → Tells kind b
tells b kind e = let P : Class → Type 0 = λ k. Tells k b in subst P e (class_tells b)

-- the kind of a token by its first byte's class and the bytes after it
abbrev pub hexy : List ℕ → Bool
hexy [] = false
hexy (c ∷ cs) = is_hex_digit c || c == 95

abbrev pub kind_by : Class → List ℕ → TokenKind
kind_by Letter bs = Name
kind_by Digit bs = Number
kind_by Underscore bs = Blank
kind_by Dollar bs = BinaryTag
kind_by NumberSign bs = if hexy bs then HexTag else Symbol
kind_by _ bs = Symbol

abbrev pub IsTokenClass : Class → Type 0
IsTokenClass White = ⊥
IsTokenClass Slash = ⊥
IsTokenClass Other = ⊥
IsTokenClass _ = Unit {0}

-- the symbols of more than one byte
pub data LongSymbol (b c : ℕ) (cs : List ℕ) : Type 0 where
  hashes : b ≡ 35 → c ≡ 35 → cs ≡ [] → LongSymbol b c cs
  hash_less : b ≡ 35 → c ≡ 60 → cs ≡ [] → LongSymbol b c cs
  hash_less_equal : b ≡ 35 → c ≡ 60 → cs ≡ 61 ∷ [] → LongSymbol b c cs
  angle_equal : (b == 60 || b == 62) ≡ true → c ≡ 61 → cs ≡ [] → LongSymbol b c cs

pub long_symbol : (b c : ℕ) (cs : List ℕ) → is_symbol (b ∷ c ∷ cs) ≡ true → LongSymbol b c cs
long_symbol b c [] e =
    elim (or_parts (b == 35 && (c == 35 || c == 60)) ((b == 60 || b == 62) && c == 61) e) [
      | inl h ↦
          let p = and_parts (b == 35) (c == 35 || c == 60) h in
          elim (or_parts (c == 35) (c == 60) p.1) [
            | inl k ↦ hashes (eqb-true b 35 p.0) (eqb-true c 35 k) refl
            | inr k ↦ hash_less (eqb-true b 35 p.0) (eqb-true c 60 k) refl
          ]
      | inr h ↦ let p = and_parts (b == 60 || b == 62) (c == 61) h in angle_equal p.0 (eqb-true c 61 p.1) refl
    ]
long_symbol b c (d ∷ []) e =
    let p = and_parts (b == 35 && c == 60) (d == 61) e in
    let q = and_parts (b == 35) (c == 60) p.0 in
    hash_less_equal (eqb-true b 35 q.0) (eqb-true c 60 q.1) (ap (λ x. x ∷ []) (eqb-true d 61 p.1))
long_symbol b c (d ∷ f ∷ ds) e = cc

abbrev is_symbol_class : Class → Bool
is_symbol_class NumberSign = true
is_symbol_class Angle = true
is_symbol_class Sign = true
is_symbol_class _ = false

abbrev Opens : TokenKind → ℕ → List ℕ → Type 0
Opens kind b bs = (kind ≡ kind_by (class b) bs) × IsTokenClass (class b)

by_class : (kind : TokenKind) (b : ℕ) (bs : List ℕ) (k : Class) → class b ≡ k → kind ≡ kind_by k bs → IsTokenClass k
    → Opens kind b bs
by_class kind b bs k e f g =
    let P : Class → Type 0 = λ x. (kind ≡ kind_by x bs) × IsTokenClass x in subst P (sym e) (f, g)

symbol_class : (k : Class) → is_symbol_class k ≡ true → (Symbol ≡ kind_by k []) × IsTokenClass k
symbol_class NumberSign e = (refl, tt)
symbol_class Angle e = (refl, tt)
symbol_class Sign e = (refl, tt)
symbol_class White e = cc
symbol_class Letter e = cc
symbol_class Digit e = cc
symbol_class Underscore e = cc
symbol_class Dollar e = cc
symbol_class Slash e = cc
symbol_class Other e = cc

pub angle_class : (b : ℕ) → (b == 60 || b == 62) ≡ true → class b ≡ Angle
angle_class b e =
    elim (or_parts (b == 60) (b == 62) e) [
      | inl h ↦ ap class (eqb-true b 60 h)
      | inr h ↦ ap class (eqb-true b 62 h)
    ]

pub ends_hex_first : (c : ℕ) (cs : List ℕ) → ends_hex (c ∷ cs) ≡ true → hexy (c ∷ cs) ≡ true
ends_hex_first c [] e = e
ends_hex_first c (d ∷ cs) e = let p = and_parts (is_hex_digit c) (ends_hex (d ∷ cs)) e in rw p.0 refl

pub hexy_of : (bs : List ℕ) → ends_hex bs ≡ true → hexy bs ≡ true
hexy_of [] e = cc
hexy_of (c ∷ cs) e = ends_hex_first c cs e

pub opens_with : (kind : TokenKind) (b : ℕ) (bs : List ℕ) → spells kind (b ∷ bs) ≡ true → Opens kind b bs
opens_with Name b bs e = by_class Name b bs Letter (class_letter b (and_parts (is_letter b) (list_all is_name_byte bs) e).0) refl tt
opens_with Blank b [] e = by_class Blank b [] Underscore (ap class (eqb-true b 95 e)) refl tt
opens_with Blank b (c ∷ bs) e = cc
opens_with Number b bs e = by_class Number b bs Digit (class_digit b (and_parts (is_digit b) (list_all is_digit bs) e).0) refl tt
opens_with BinaryTag b bs e = by_class BinaryTag b bs Dollar (ap class (eqb-true b 36 (and_parts (b == 36) (is_underscore bs || are_bits bs) e).0)) refl tt
opens_with HexTag b bs e =
    let p = and_parts (b == 35) (ends_hex bs) e in
    let h = hexy_of bs p.1 in
    by_class HexTag b bs NumberSign (ap class (eqb-true b 35 p.0)) (rw h refl) tt
opens_with Symbol b [] e =
    symbol_class (class b) (among (λ x. is_symbol_class (class x)) (codes "#:;=(){}[]^~?.*+<>!") b e refl)
opens_with Symbol b (c ∷ cs) e =
    elim (long_symbol b c cs e) [
      | hashes x y z ↦ by_class Symbol b (c ∷ cs) NumberSign (ap class x) (rw y refl) tt
      | hash_less x y z ↦ by_class Symbol b (c ∷ cs) NumberSign (ap class x) (rw y refl) tt
      | hash_less_equal x y z ↦ by_class Symbol b (c ∷ cs) NumberSign (ap class x) (rw y refl) tt
      | angle_equal x y z ↦ by_class Symbol b (c ∷ cs) Angle (angle_class b x) refl tt
    ]

-- no token is empty
pub not_empty : (kind : TokenKind) → spells kind [] ≡ true → ⊥
not_empty Name e = cc
not_empty Blank e = cc
not_empty Number e = cc
not_empty BinaryTag e = cc
not_empty HexTag e = cc
not_empty Symbol e = cc
