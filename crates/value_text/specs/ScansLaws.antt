-- How far the bytes of a text lead, and what stands there.
use Rattle.std.proofs.Common.{◌≡◌, ⊎_elim, ℕ, zero, suc, ◌+◌, ◌<◌, ◌≤◌, ◌==◌, Bool, true, false, ◌&&◌, not, List, [], ◌∷◌, ◌++◌, length, take, drop, get_or, decimal, Option, Some, None, if◌then◌else◌, refl, sym, ap, ◌∙◌, subst, arith, append_assoc, append-nil}
use Rattle.std.specs.Char.{is_ascii_digit}
use Rattle.std.proofs.lemmas.Bool.{eqb-true, and_parts, cases_Bool, cases_lt}
use Rattle.std.proofs.lemmas.List.{take-append-drop, take-take, take_more}
use Rattle.bit_slice.specs.Names.{IsName, is_name_byte}
use Rattle.value_text.specs.declared.lexeme.Form.{Form}
use Rattle.value_text.specs.declared.lexeme.Form.TheVariants as forms
use Rattle.value_text.specs.declared.lexeme.Lexeme.{Lexeme}
use Rattle.value_text.specs.declared.lexeme.Lexeme.TheVariants.{Sign as ASign, Number, Bits, Name, Hidden, Beyond}
use Rattle.value_text.specs.declared.spot.Spot.{Spot}
use Rattle.value_text.specs.declared.spot.Spot.TheVariants.{Start, Minus, Zero, Digits, X, Letters, Blank, Count, BitDigits, Marked, Closed, Hash, Dot, DepthZero, DepthDigits, Signed}
use Rattle.value_text.specs.Lexemes.{BeginsBits, IsOfBits, NothingStands, Spells, SpellsBeyond, Stands}
use Rattle.value_text.specs.LexemePoints.{Holds, Leads, is_end, next, walk}
use Rattle.value_text.specs.Walks.{onward, walk-then}
use Rattle.value_text.specs.LexemeKeptLaws.{kept}
use Rattle.value_text.specs.LexemeWalksLaws.{DecimalForm, counted, decimal_form, is_zero, lexeme_ends}
use Rattle.value_text.specs.PathKeptLaws.{choice_none}

-- ---- what is known of the bytes

some_next : (o : Option Spot) (q : Spot) (rest : List ℕ) → onward o (λ r. walk r rest) ≡ Some q → (m : Spot) × (o ≡ Some m) × (walk m rest ≡ Some q)
some_next (Some m) q rest e = (m, refl, e)
some_next None q rest e = absurd (cc)

holds_on : (p q : Spot) (bytes rest : List ℕ) → Holds p bytes → walk p rest ≡ Some q → Holds q (bytes ++ rest)
holds_on p q bytes [] h e =
    let same : p ≡ q = cc in
    let P : Spot → Type 0 = λ r. Holds r (bytes ++ []) in
    let Q : List ℕ → Type 0 = λ t. Holds p t in
    subst P same (subst Q (sym (append-nil bytes)) h)
holds_on p q bytes (c ∷ rest) h e =
    let m = some_next (next p c) q rest e in
    let P : List ℕ → Type 0 = λ t. Holds q t in
    subst P (append_assoc bytes (c ∷ []) rest) (holds_on m.0 q (bytes ++ c ∷ []) rest (kept p m.0 bytes c h m.1) m.2)

pub holds : (p : Spot) (bytes : List ℕ) → walk Start bytes ≡ Some p → Holds p bytes
holds p bytes e = holds_on Start p [] bytes refl e

-- ---- as far as the bytes lead

-- the bytes before a place and those from it on
cut_at : (text : List ℕ) (n m : ℕ) → n < m → m ≤ length text → take m text ≡ take n text ++ (get_or text n 0 ∷ drop (n + 1) (take m text))
cut_at text n m l k =
    let first : take (n + 1) (take m text) ≡ take n text ++ get_or text n 0 ∷ [] = take-take (n + 1) m text (omega arith) ∙ take_more text n 0 (omega arith) in
    sym (take-append-drop (n + 1) (take m text)) ∙ ap (λ (l : List ℕ). l ++ drop (n + 1) (take m text)) first
    ∙ append_assoc (take n text) (get_or text n 0 ∷ []) (drop (n + 1) (take m text))

no_longer : (text : List ℕ) (n : ℕ) (p : Spot) → Leads text n p → (m : ℕ) (other : Lexeme) → n < m → m ≤ length text → Spells other (take m text) → ⊥
no_longer text n p h m other l k s =
    let e = lexeme_ends other (take m text) s in
    let rest : List ℕ = drop (n + 1) (take m text) in
    let there : walk Start (take m text) ≡ None =
    ap (walk Start) (cut_at text n m l k) ∙ walk-then next Start p (take n text) (get_or text n 0 ∷ rest) h.walked
    ∙ ap (λ (o : Option Spot). onward o (λ q. walk q rest)) (h.stuck (omega arith)) in
    let no : Some e.spot ≡ None = sym e.leads ∙ there in
    absurd (cc)

-- ---- bits alone begin by `x{`

first_of : (c d : ℕ) (cs ds : List ℕ) → c ∷ cs ≡ d ∷ ds → c ≡ d
first_of c d cs ds e = cc

digits_not_x : (ds rest : List ℕ) → DecimalForm ds → ds ≡ 120 ∷ rest → ⊥
digits_not_x ds rest (is_zero e) f = let no : 48 ∷ [] ≡ 120 ∷ rest = sym e ∙ f in absurd (omega (arith, first_of 48 120 [] rest no))
digits_not_x [] rest (counted h s) f = absurd (cc)
digits_not_x (d ∷ ds) rest (counted h s) f =
    let first : d ≡ 120 = first_of d 120 ds rest f in
    let digit = (and_parts (is_ascii_digit d) (not (d == 48)) (and_parts (is_ascii_digit d && not (d == 48)) _ h).0).0 in
    let no : is_ascii_digit 120 ≡ true = ap is_ascii_digit (sym first) ∙ digit in
    absurd (cc)

signed_not_x : (negative : Bool) (ds rest : List ℕ) → DecimalForm ds → (if negative then 45 ∷ ds else ds) ≡ 120 ∷ rest → ⊥
signed_not_x true ds rest f e = absurd (omega (arith, first_of 45 120 ds rest e))
signed_not_x false ds rest f e = digits_not_x ds rest f e

name_not_brace : (name rest : List ℕ) → IsName name → name ≡ 120 ∷ 123 ∷ rest → ⊥
name_not_brace name rest h e = let P : List ℕ → Type 0 = λ t. IsName t in let no : IsName (120 ∷ 123 ∷ rest) = subst P e h in absurd (cc)

beyond_bits : (form : Form) (bytes rest : List ℕ) → SpellsBeyond form bytes → bytes ≡ 120 ∷ 123 ∷ rest → IsOfBits (Beyond form)
beyond_bits forms.Number bytes rest h e =
    let l = h.large in
    absurd (signed_not_x h.negative h.digits (123 ∷ rest) (counted l.0 l.1) (sym h.whole ∙ e))
beyond_bits forms.Bits bytes rest h e = tt
beyond_bits forms.Hidden bytes rest h e = absurd (let no = sym h.whole ∙ e in omega (arith, first_of 63 120 _ _ no))

of_bits : (l : Lexeme) (bytes rest : List ℕ) → Spells l bytes → bytes ≡ 120 ∷ 123 ∷ rest → IsOfBits l
of_bits (ASign s) bytes rest h e = absurd (cc)
of_bits (Number n) bytes rest h e = absurd (signed_not_x n.negative (decimal n.size) (123 ∷ rest) (decimal_form n.size (let l = h.0 in omega arith)) (sym h.1 ∙ e))
of_bits (Bits bs) bytes rest h e = tt
of_bits (Name n) bytes rest h e = absurd (name_not_brace n rest h.0 (sym h.1 ∙ e))
of_bits (Hidden k) bytes rest h e = absurd (let no = sym h.1 ∙ e in omega (arith, first_of 63 120 _ _ no))
of_bits (Beyond form) bytes rest h e = beyond_bits form bytes rest h e

-- a text that begins so
record Opens (text : List ℕ) : Type 0 where
  rest : List ℕ
  whole : text ≡ 120 ∷ 123 ∷ rest

opens : (text : List ℕ) → BeginsBits text → Opens text
opens [] h = absurd (cc)
opens (c ∷ []) h = absurd (cc)
opens (c ∷ d ∷ rest) h = record { rest = rest; whole = same }
  where
    same : c ∷ d ∷ rest ≡ 120 ∷ 123 ∷ rest
    same = let e : c ≡ 120 = cc in let f : d ≡ 123 = cc in (λ i. e i ∷ f i ∷ rest)

-- it leads on past the `x{`
two_bytes : (text : List ℕ) (n : ℕ) (p : Spot) → Leads text n p → (o : Opens text) → (m : ℕ) × (n ≡ suc (suc m))
two_bytes text zero p h o =
    let size : length text ≡ suc (suc (length o.rest)) = ap length o.whole in
    let at : get_or text 0 0 ≡ 120 = ap (λ (t : List ℕ). get_or t 0 0) o.whole in
    let begins : Some Start ≡ Some p = h.walked in
    let start : Start ≡ p = cc in
    let no : Some X ≡ None = ap (λ (r : Spot). next r 120) start ∙ ap (next p) (sym at) ∙ h.stuck (omega arith) in
    absurd (cc)
two_bytes text (suc zero) p h o =
    let size : length text ≡ suc (suc (length o.rest)) = ap length o.whole in
    let at : get_or text 1 0 ≡ 123 = ap (λ (t : List ℕ). get_or t 1 0) o.whole in
    let begins : Some X ≡ Some p = sym (ap (λ (t : List ℕ). walk Start (take 1 t)) o.whole) ∙ h.walked in
    let start : X ≡ p = cc in
    let no : Some (BitDigits 48) ≡ None = ap (λ (r : Spot). next r 123) start ∙ ap (next p) (sym at) ∙ h.stuck (omega arith) in
    absurd (cc)
two_bytes text (suc (suc m)) p h o = (m, refl)

only_bits : (text : List ℕ) (n : ℕ) (p : Spot) (l : Lexeme) → Leads text n p → Spells l (take n text) → BeginsBits text → IsOfBits l
only_bits text n p l h s b =
    let o = opens text b in
    let m = two_bytes text n p h o in
    of_bits l (take n text) (take m.0 o.rest) s (ap (λ (k : ℕ). take k text) m.1 ∙ ap (take (suc (suc m.0))) o.whole)

pub stands : (text : List ℕ) (n : ℕ) (p : Spot) (l : Lexeme) → Leads text n p → Spells l (take n text) → Stands l n text
stands text n p l h s = record { within = h.within; spelled = s; longest = no_longer text n p h; only_bits = only_bits text n p l h s }

-- ---- where no lexeme ends

abbrev is_plain : Spot → Bool
is_plain X = false
is_plain p = is_end p

plain_end : (p : Spot) → is_plain p ≡ true → is_end p ≡ true
plain_end Start h = absurd (cc)
plain_end Minus h = absurd (cc)
plain_end Zero h = refl
plain_end Digits h = refl
plain_end X h = refl
plain_end Letters h = refl
plain_end Blank h = refl
plain_end Count h = refl
plain_end (BitDigits last) h = absurd (cc)
plain_end Marked h = absurd (cc)
plain_end Closed h = refl
plain_end (Hash k) h = absurd (cc)
plain_end Dot h = absurd (cc)
plain_end DepthZero h = refl
plain_end DepthDigits h = refl
plain_end Signed h = refl

plain_is : (p q : Spot) → Some p ≡ Some q → is_plain p ≡ true → is_plain q ≡ true
plain_is p q e h = let same : p ≡ q = cc in ap is_plain (sym same) ∙ h

plain_next : (p q : Spot) (c : ℕ) → is_plain p ≡ true → next p c ≡ Some q → is_plain q ≡ true
plain_next Start q c h e = absurd (cc)
plain_next Minus q c h e = absurd (cc)
plain_next Zero q c h e = absurd (cc)
plain_next Digits q c h e = choice_none (is_ascii_digit c) (Some Digits) q e (λ _ f. plain_is Digits q f refl)
plain_next X q c h e = absurd (cc)
plain_next Letters q c h e = choice_none (is_name_byte c) (Some Letters) q e (λ _ f. plain_is Letters q f refl)
plain_next Blank q c h e = choice_none (is_ascii_digit c && not (c == 48)) (Some Count) q e (λ _ f. plain_is Count q f refl)
plain_next Count q c h e = choice_none (is_ascii_digit c) (Some Count) q e (λ _ f. plain_is Count q f refl)
plain_next (BitDigits last) q c h e = absurd (cc)
plain_next Marked q c h e = absurd (cc)
plain_next Closed q c h e = absurd (cc)
plain_next (Hash k) q c h e = absurd (cc)
plain_next Dot q c h e = absurd (cc)
plain_next DepthZero q c h e = absurd (cc)
plain_next DepthDigits q c h e = choice_none (is_ascii_digit c) (Some DepthDigits) q e (λ _ f. plain_is DepthDigits q f refl)
plain_next Signed q c h e = absurd (cc)

plain_walk : (p q : Spot) (cs : List ℕ) → is_plain p ≡ true → walk p cs ≡ Some q → is_plain q ≡ true
plain_walk p q [] h e = plain_is p q e h
plain_walk p q (c ∷ cs) h e = let m = some_next (next p c) q cs e in plain_walk m.0 q cs (plain_next p m.0 c h m.1) m.2

-- from where a lexeme may end, the bytes lead to such a spot, but for an `x` before a `{`
data Stays (p q : Spot) (cs : List ℕ) : Type 0 where
  at_end : is_end q ≡ true → Stays p q cs
  at_brace : p ≡ X → (rest : List ℕ) → cs ≡ 123 ∷ rest → Stays p q cs

by_plain : (p q : Spot) (cs : List ℕ) → is_plain p ≡ true → walk p cs ≡ Some q → Stays p q cs
by_plain p q cs h e = at_end (plain_end q (plain_walk p q cs h e))

x_stays : (q : Spot) (cs : List ℕ) → walk X cs ≡ Some q → Stays X q cs
x_stays q [] e = let same : X ≡ q = cc in at_end (ap is_end (sym same))
x_stays q (c ∷ cs) e = ⊎_elim
    (λ (t : (c == 123) ≡ true). at_brace refl cs (ap (λ (x : ℕ). x ∷ cs) (eqb-true c 123 t)))
    (λ (t : (c == 123) ≡ false).
    let m = some_next (next X c) q cs e in
    let there : (if is_name_byte c then Some Letters else None) ≡ Some m.0 =
    sym (ap (λ (b : Bool). if b then Some (BitDigits 48) else if is_name_byte c then Some Letters else None) t) ∙ m.1 in
    at_end (plain_end q (plain_walk m.0 q cs (choice_none (is_name_byte c) (Some Letters) m.0 there (λ _ f. plain_is Letters m.0 f refl)) m.2)))
    (cases_Bool (c == 123))

stays_at : (p q : Spot) (cs : List ℕ) → is_end p ≡ true → walk p cs ≡ Some q → Stays p q cs
stays_at Start q cs h e = absurd (cc)
stays_at Minus q cs h e = absurd (cc)
stays_at Zero q cs h e = by_plain Zero q cs refl e
stays_at Digits q cs h e = by_plain Digits q cs refl e
stays_at X q cs h e = x_stays q cs e
stays_at Letters q cs h e = by_plain Letters q cs refl e
stays_at Blank q cs h e = by_plain Blank q cs refl e
stays_at Count q cs h e = by_plain Count q cs refl e
stays_at (BitDigits last) q cs h e = absurd (cc)
stays_at Marked q cs h e = absurd (cc)
stays_at Closed q cs h e = by_plain Closed q cs refl e
stays_at (Hash k) q cs h e = absurd (cc)
stays_at Dot q cs h e = absurd (cc)
stays_at DepthZero q cs h e = by_plain DepthZero q cs refl e
stays_at DepthDigits q cs h e = by_plain DepthDigits q cs refl e
stays_at Signed q cs h e = by_plain Signed q cs refl e

x_is_no_bits : (l : Lexeme) → Spells l (120 ∷ []) → IsOfBits l → ⊥
x_is_no_bits (ASign s) h b = b
x_is_no_bits (Number n) h b = b
x_is_no_bits (Bits bs) h b = let e = h.1 in absurd (cc)
x_is_no_bits (Name n) h b = b
x_is_no_bits (Hidden k) h b = b
x_is_no_bits (Beyond forms.Number) h b = b
x_is_no_bits (Beyond forms.Bits) h b = let e = h.whole in absurd (cc)
x_is_no_bits (Beyond forms.Hidden) h b = b

-- a name x before a `{` does not stand
no_x : (text : List ℕ) (l : Lexeme) (m : ℕ) (rest : List ℕ) → Stands l m text → take m text ≡ 120 ∷ [] → text ≡ take m text ++ 123 ∷ rest → ⊥
no_x text l m rest s e f =
    let P : List ℕ → Type 0 = λ t. Spells l t in
    let whole : text ≡ 120 ∷ 123 ∷ rest = f ∙ ap (λ (t : List ℕ). t ++ 123 ∷ rest) e in
    x_is_no_bits l (subst P e s.spelled) (s.only_bits (ap (take 2) whole))

shorter : (text : List ℕ) (n : ℕ) (p : Spot) → Leads text n p → is_end p ≡ false → (l : Lexeme) (m : ℕ) → Stands l m text → m ≤ n → ⊥
shorter text n p h f l m s k =
    let e = lexeme_ends l (take m text) s.spelled in
    let ys : List ℕ = drop m (take n text) in
    let whole : take n text ≡ take m text ++ ys = sym (ap (λ (t : List ℕ). t ++ ys) (sym (take-take m n text k)) ∙ take-append-drop m (take n text)) in
    let there : walk e.spot ys ≡ Some p = sym (walk-then next Start e.spot (take m text) ys e.leads) ∙ ap (walk Start) (sym whole) ∙ h.walked in
    by_stay e.spot e.leads ys whole (stays_at e.spot p ys e.whole there)
  where
    by_stay : (q : Spot) → walk Start (take m text) ≡ Some q → (ys : List ℕ) → take n text ≡ take m text ++ ys → Stays q p ys → ⊥
    by_stay q w ys e (at_end g) = let no : true ≡ false = sym g ∙ f in absurd (cc)
    by_stay q w ys e (at_brace g rest r) =
        let P : Spot → Type 0 = λ x. Holds x (take m text) in
        let one : take m text ≡ 120 ∷ [] = subst P g (holds q (take m text) w) in
        let tail : List ℕ = drop n text in
        let all : text ≡ take m text ++ 123 ∷ (rest ++ tail) =
        sym (take-append-drop n text) ∙ ap (λ (t : List ℕ). t ++ tail) (e ∙ ap (λ (t : List ℕ). take m text ++ t) r) ∙ append_assoc (take m text) (123 ∷ rest) tail in
        no_x text l m (rest ++ tail) s one all

pub nothing : (text : List ℕ) (n : ℕ) (p : Spot) → Leads text n p → is_end p ≡ false → NothingStands text
nothing text n p h f l m s = ⊎_elim
    (λ (k : n < m). no_longer text n p h m l k s.within s.spelled)
    (λ (k : m ≤ n). shorter text n p h f l m s k)
    (cases_lt n m)

-- a lexeme has some bytes
empty_not : (l : Lexeme) → Spells l [] → ⊥
empty_not l s =
    let e = lexeme_ends l [] s in
    let begins : Some Start ≡ Some e.spot = e.leads in
    let start : Start ≡ e.spot = cc in
    let no : false ≡ true = ap is_end start ∙ e.whole in
    absurd (cc)

pub some_bytes : (text : List ℕ) (l : Lexeme) (n : ℕ) → Stands l n text → 0 < n
some_bytes text l zero s = absurd (empty_not l s.spelled)
some_bytes text l (suc n) s = omega arith
