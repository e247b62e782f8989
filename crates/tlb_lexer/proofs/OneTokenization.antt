-- At most one thing stands before a text.
use Rattle.std.proofs.Common.{◌≡◌, ◌≤◌, ◌<◌, ◌+◌, suc, zero, ◌∙◌, sym, ap, refl, subst, ℕ, true, List, [], ◌∷◌, length, take, drop, arith, inl, inr, ◌⊎◌, codes}
use Rattle.std.proofs.lemmas.List.{length-drop, length-take}
use Rattle.std.proofs.lemmas.List.Sums.{prefix_len-le-length}
use Rattle.tlb_lexer.specs.declared.TokenKind.{TokenKind}
use Rattle.tlb_lexer.specs.declared.TokenKind.TheVariants.{Name}
use Rattle.tlb_lexer.specs.declared.bytes.Class.{Class}
use Rattle.tlb_lexer.specs.declared.bytes.Class.TheVariants.{White, Slash}
use Rattle.tlb_lexer.specs.declared.scan.Stretch.{Stretch}
use Rattle.tlb_lexer.specs.declared.scan.Stretch.TheVariants.{Gap, Spelled, LongName, OpenComment, Nothing}
use Rattle.tlb_lexer.specs.Bytes.{is_in_line, is_white}
use Rattle.tlb_lexer.specs.Spelling.{spells}
use Rattle.tlb_lexer.specs.Tokenization.{Longest, OccursAt, OccursFirstAt, IsGap, white, line, block, IsOpenComment, longest_name}
use Rattle.tlb_lexer.specs.Stretch.{class, IsFirstStretch, Advances}
use Rattle.tlb_lexer.proofs.Classes.{opens_with, not_empty, class_white, IsTokenClass}
use Rattle.tlb_lexer.proofs.StretchOf.{occurs_two, first_white, first_slash, gap_first, open_first}

-- what is spelled begins with a byte of a token
spelled_class : (kind : TokenKind) (n b : ℕ) (bs : List ℕ) → spells kind (take n (b ∷ bs)) ≡ true
    → IsTokenClass (class b)
spelled_class kind zero b bs e = absurd (not_empty kind e)
spelled_class kind (suc n) b bs e = (opens_with kind b (take n bs) e).1

spelled_none : (kind : TokenKind) (n : ℕ) → spells kind (take n []) ≡ true → ⊥
spelled_none kind zero e = not_empty kind e
spelled_none kind (suc n) e = not_empty kind e

spelled_some : (kind : TokenKind) (n : ℕ) (text : List ℕ) → spells kind (take n text) ≡ true → 0 < n
spelled_some kind zero text e = absurd (not_empty kind e)
spelled_some kind (suc n) text e = omega arith

-- the kinds of one spelling are the same
kind_once : (kind other : TokenKind) (n : ℕ) (text : List ℕ) → spells kind (take n text) ≡ true
    → spells other (take n text) ≡ true → kind ≡ other
kind_once kind other zero text e f = absurd (not_empty kind e)
kind_once kind other (suc n) [] e f = absurd (not_empty kind e)
kind_once kind other (suc n) (b ∷ bs) e f = (opens_with kind b (take n bs) e).0 ∙ sym (opens_with other b (take n bs) f).0

token_size : (text : List ℕ) (kind other : TokenKind) (n m : ℕ) → Longest kind n text → Longest other m text → n ≡ m
token_size text kind other n m x y =
    let a : n < m → ⊥ = λ lt. x.longest m other lt y.within y.spelled in
    let b : m < n → ⊥ = λ lt. y.longest n kind lt x.within x.spelled in
    omega arith

token_kind : (text : List ℕ) (kind other : TokenKind) (n m : ℕ) → Longest kind n text → Longest other m text
    → kind ≡ other
token_kind text kind other n m x y =
    let P : ℕ → Type 0 = λ k. spells other (take k text) ≡ true in
    kind_once kind other n text x.spelled (subst P (sym (token_size text kind other n m x y)) y.spelled)

-- gaps
gap_none : (n : ℕ) → IsGap n [] → ⊥
gap_none n (white w) = let e = w.whole in cc
gap_none n (line l) = let e = l.opens in cc
gap_none n (block l) = let e = l.opens in cc

first_once : (mark : List ℕ) (n m : ℕ) (xs : List ℕ) → OccursFirstAt mark n xs → OccursFirstAt mark m xs → n ≡ m
first_once mark n m xs x y =
    let a : n < m → ⊥ = λ lt. y.first n lt x.occurs in
    let b : m < n → ⊥ = λ lt. x.first m lt y.occurs in
    omega arith

two_marks : (x y z b : ℕ) (bs : List ℕ) → OccursAt (x ∷ y ∷ []) 0 (b ∷ bs) → OccursAt (x ∷ z ∷ []) 0 (b ∷ bs) → y ≡ z
two_marks x y z b bs e f =
    let k = occurs_two x y b bs e in
    let l = occurs_two x z b bs f in
    let g = k.1.1 in
    let h = l.1.1 in
    cc

slash_white : (b : ℕ) (bs : List ℕ) → OccursAt (codes "//") 0 (b ∷ bs) ⊎ OccursAt (codes "/*") 0 (b ∷ bs)
    → class b ≡ White → ⊥
slash_white b bs (inl e) is = let k : Slash ≡ White = sym (ap class (occurs_two 47 47 b bs e).0) ∙ is in cc
slash_white b bs (inr e) is = let k : Slash ≡ White = sym (ap class (occurs_two 47 42 b bs e).0) ∙ is in cc

line_block : (b : ℕ) (bs : List ℕ) → OccursAt (codes "//") 0 (b ∷ bs) → OccursAt (codes "/*") 0 (b ∷ bs) → ⊥
line_block b bs e f = absurd (omega (arith, two_marks 47 47 42 b bs e f))

whitened : (b : ℕ) (bs : List ℕ) (byte : ℕ) (rest : List ℕ) → b ∷ bs ≡ byte ∷ rest → is_white byte ≡ true
    → class b ≡ White
whitened b bs byte rest e w = let same : b ≡ byte = cc in class_white b (rw same w)

gap_once : (n m b : ℕ) (bs : List ℕ) → IsGap n (b ∷ bs) → IsGap m (b ∷ bs) → n ≡ m
gap_once n m b bs (white x) (white y) = x.size ∙ sym y.size
gap_once n m b bs (white x) (line y) = absurd (slash_white b bs (inl y.opens) (whitened b bs x.byte x.rest x.whole x.white))
gap_once n m b bs (white x) (block y) = absurd (slash_white b bs (inr y.opens) (whitened b bs x.byte x.rest x.whole x.white))
gap_once n m b bs (line x) (white y) = absurd (slash_white b bs (inl x.opens) (whitened b bs y.byte y.rest y.whole y.white))
gap_once n m b bs (line x) (line y) = x.size ∙ sym y.size
gap_once n m b bs (line x) (block y) = absurd (line_block b bs x.opens y.opens)
gap_once n m b bs (block x) (white y) = absurd (slash_white b bs (inr x.opens) (whitened b bs y.byte y.rest y.whole y.white))
gap_once n m b bs (block x) (line y) = absurd (line_block b bs y.opens x.opens)
gap_once n m b bs (block x) (block y) = x.size ∙ ap (λ k. k + 4) (first_once (codes "*/") x.place y.place (drop 2 (b ∷ bs)) x.closes y.closes) ∙ sym y.size

gap_class : (n b : ℕ) (bs : List ℕ) → IsGap n (b ∷ bs) → IsTokenClass (class b) → ⊥
gap_class n b bs g t =
    elim (gap_first n b bs g) [
      | first_white w ↦ let P : Class → Type 0 = IsTokenClass in subst P w t
      | first_slash s k ↦ let P : Class → Type 0 = IsTokenClass in subst P s t
    ]

gap_token : (text : List ℕ) (n m : ℕ) (kind : TokenKind) → IsGap n text → Longest kind m text → ⊥
gap_token [] n m kind g x = gap_none n g
gap_token (b ∷ bs) n m kind g x = gap_class n b bs g (spelled_class kind m b bs x.spelled)

gap_open : (text : List ℕ) (n : ℕ) → IsGap n text → IsOpenComment text → ⊥
gap_open [] n g o = gap_none n g
gap_open (b ∷ bs) n (white w) o = slash_white b bs (inr o.opens) (whitened b bs w.byte w.rest w.whole w.white)
gap_open (b ∷ bs) n (line l) o = line_block b bs l.opens o.opens
gap_open (b ∷ bs) n (block l) o = o.never l.place l.closes.occurs

open_token : (text : List ℕ) (m : ℕ) (kind : TokenKind) → IsOpenComment text → Longest kind m text → ⊥
open_token [] m kind o x = spelled_none kind m x.spelled
open_token (b ∷ bs) m kind o x =
    let P : Class → Type 0 = IsTokenClass in
    subst P (open_first b bs o).0 (spelled_class kind m b bs x.spelled)

gap_same : (text : List ℕ) (n m : ℕ) → IsGap n text → IsGap m text → n ≡ m
gap_same [] n m x y = absurd (gap_none n x)
gap_same (b ∷ bs) n m x y = gap_once n m b bs x y

token_long : (text : List ℕ) (kind : TokenKind) (n m : ℕ) → Longest kind n text → (kind ≡ Name → n ≤ longest_name)
    → Longest Name m text → longest_name < m → ⊥
token_long text kind n m x short y long =
    let size = token_size text kind Name n m x y in
    let le = short (token_kind text kind Name n m x y) in
    omega arith

pub stretch_once : (text : List ℕ) (p q : Stretch) → IsFirstStretch text p → IsFirstStretch text q → p ≡ q
stretch_once text (Gap n) (Gap m) x y = ap Gap (gap_same text n m x y)
stretch_once text (Gap n) (Spelled kind m) x y = absurd (gap_token text n m kind x y.0)
stretch_once text (Gap n) LongName x y = absurd (gap_token text n y.0 Name x y.1)
stretch_once text (Gap n) OpenComment x y = absurd (gap_open text n x y)
stretch_once text (Gap n) Nothing x y = absurd (y.no_gap n x)
stretch_once text (Spelled kind n) (Gap m) x y = absurd (gap_token text m n kind y x.0)
stretch_once text (Spelled kind n) (Spelled other m) x y =
    let size = token_size text kind other n m x.0 y.0 in
    let same = token_kind text kind other n m x.0 y.0 in
    cc
stretch_once text (Spelled kind n) LongName x y = absurd (token_long text kind n y.0 x.0 x.1 y.1 y.2)
stretch_once text (Spelled kind n) OpenComment x y = absurd (open_token text n kind y x.0)
stretch_once text (Spelled kind n) Nothing x y = absurd (y.no_token kind n x.0.within x.0.spelled)
stretch_once text LongName (Gap m) x y = absurd (gap_token text m x.0 Name y x.1)
stretch_once text LongName (Spelled kind m) x y = absurd (token_long text kind m x.0 y.0 y.1 x.1 x.2)
stretch_once text LongName LongName x y = refl
stretch_once text LongName OpenComment x y = absurd (open_token text x.0 Name y x.1)
stretch_once text LongName Nothing x y = absurd (y.no_token Name x.0 x.1.within x.1.spelled)
stretch_once text OpenComment (Gap m) x y = absurd (gap_open text m y x)
stretch_once text OpenComment (Spelled kind m) x y = absurd (open_token text m kind x y.0)
stretch_once text OpenComment LongName x y = absurd (open_token text y.0 Name x y.1)
stretch_once text OpenComment OpenComment x y = refl
stretch_once text OpenComment Nothing x y = absurd (y.no_comment x)
stretch_once text Nothing (Gap m) x y = absurd (x.no_gap m y)
stretch_once text Nothing (Spelled kind m) x y = absurd (x.no_token kind m y.0.within y.0.spelled)
stretch_once text Nothing LongName x y = absurd (x.no_token Name y.0 y.1.within y.1.spelled)
stretch_once text Nothing OpenComment x y = absurd (x.no_comment y)
stretch_once text Nothing Nothing x y = refl

-- a stretch that is passed over takes a byte at least and ends within the text
two_there : (x y : ℕ) (place : ℕ) (text : List ℕ) → OccursAt (x ∷ y ∷ []) place text → place + 2 ≤ length text
two_there x y place text e =
    let size : length (take 2 (drop place text)) ≡ 2 = ap length e in
    omega (arith, length-take 2 (drop place text), length-drop place text, size)

pub gap_advances : (n : ℕ) (text : List ℕ) → IsGap n text → (0 < n) × (n ≤ length text)
gap_advances n text (white w) = let e : length text ≡ length (w.byte ∷ w.rest) = ap length w.whole in (omega (arith, w.size), omega (arith, w.size, e))
gap_advances n text (line l) =
    let two = two_there 47 47 0 text l.opens in
    let part = prefix_len-le-length is_in_line (drop 2 text) in
    (omega (arith, l.size), omega (arith, l.size, two, part, length-drop 2 text))
gap_advances n text (block l) =
    let two = two_there 47 42 0 text l.opens in
    let end = two_there 42 47 l.place (drop 2 text) l.closes.occurs in
    (omega (arith, l.size), omega (arith, l.size, two, end, length-drop 2 text))

pub token_advances : (kind : TokenKind) (n : ℕ) (text : List ℕ) → Longest kind n text → (0 < n) × (n ≤ length text)
token_advances kind n text x = (spelled_some kind n text x.spelled, x.within)

pub advances : (text : List ℕ) (p : Stretch) → IsFirstStretch text p → Advances text p
advances text (Gap n) x = gap_advances n text x
advances text (Spelled kind n) x = token_advances kind n text x.0
advances text LongName x = tt
advances text OpenComment x = tt
advances text Nothing x = tt
