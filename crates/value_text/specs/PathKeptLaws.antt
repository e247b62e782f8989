-- What a point says of a step's bytes is kept by one more byte, and every step's text can be ended.
use Rattle.std.proofs.Common.{◌≡◌, ◌≢◌, ⊎_elim, ℕ, ◌+◌, ◌-◌, ◌*◌, ◌/◌, ◌%◌, ◌^◌, ◌<◌, ◌≤◌, ◌==◌, Bool, true, false, ◌&&◌, ◌||◌, not, nat_lt, List, [], ◌∷◌, ◌++◌, length, slice_index, decimal, Option, Some, None, if◌then◌else◌, refl, sym, ap, ◌∙◌, subst, arith, append_assoc, append-nil}
use Rattle.std.specs.Char.{is_ascii_alphabetic, is_ascii_digit}
use Rattle.std.specs.List.{list_all}
use Rattle.std.proofs.lemmas.Bool.{eqb-true, ltb-true, and_parts, and_from, or_right, or_left, or_cases, cases_lt}
use Rattle.std.proofs.lemmas.Bool.Decides.{nat_tests}
use Rattle.std.proofs.lemmas.Fmt.{decimal_digit, decimal_step}
use Rattle.std.proofs.lemmas.List.{get_or_append_left, get_or-append_right, length_push}
use Rattle.bit_slice.specs.HexLists.{AreDigits, is_hex_digit}
use Rattle.bit_slice.specs.Names.{IsName, is_count, is_name_byte}
use Rattle.typed_value.specs.Paths.{Stride, named, item, keyed}
use Rattle.value_text.specs.declared.point.Point.{Point}
use Rattle.value_text.specs.declared.point.Point.TheVariants.{Root, First, Due, X, Name, Blank, Count, Zero, Number, Key, Marked, Closed}
use Rattle.value_text.specs.BitsTextLaws.{WritesBits, is_markable, last_digit, last_digit-push, writes-marked, writes-plain}
use Rattle.value_text.specs.PathText.{IsStep, step_text}
use Rattle.value_text.specs.PathPoints.{Holds, IsClosed, IsCounted, IsKey, IsLetters, IsMarked, begun, digit, ended, in_key, in_name, is_step, longer, next}

-- a choice that leads somewhere
pub choice : {A P : Type 0} (b : Bool) (x y : Option A) (q : A) → (if b then x else y) ≡ Some q
    → (b ≡ true → x ≡ Some q → P) → (b ≡ false → y ≡ Some q → P) → P
choice true x y q e f g = f refl e
choice false x y q e f g = g refl e

pub choice_none : {A P : Type 0} (b : Bool) (x : Option A) (q : A) → (if b then x else None) ≡ Some q → (b ≡ true → x ≡ Some q → P) → P
choice_none true x q e f = f refl e
choice_none false x q e f = absurd (cc)

-- what holds at a point holds at the one that is told
pub reached : (p q : Point) (step : List ℕ) → Some p ≡ Some q → Holds p step → Holds q step
reached p q step e h = let same : p ≡ q = cc in let P : Point → Type 0 = λ r. Holds r step in subst P same h

not_ended : (c : ℕ) (q : Point) (step : List ℕ) → c ≢ 47 → ended c ≡ Some q → Holds q step
not_ended c q step n e = choice_none (c == 47) (Some Due) q e (λ t _. absurd (n (eqb-true c 47 t)))

pub digit_text : (c : ℕ) → is_ascii_digit c ≡ true → c ∷ [] ≡ decimal (c - 48)
digit_text c h =
    let low : c - 48 < 10 = grind (arith, nat_tests) in
    let same : 48 + (c - 48) ≡ c = grind (arith, nat_tests) in
    sym (decimal_digit (c - 48) low ∙ ap (λ (n : ℕ). n ∷ []) same)

pub digit_bounds : (c : ℕ) → is_ascii_digit c ≡ true → (48 ≤ c) × (c ≤ 57)
digit_bounds c h = (grind (arith, nat_tests), grind (arith, nat_tests))

pub not_zero : (c : ℕ) → (c == 48) ≡ false → c ≢ 48
not_zero c h e = grind (arith, nat_tests)

begun_holds : (c : ℕ) (q : Point) → begun c ≡ Some q → Holds q (c ∷ [])
begun_holds c q e =
    choice (c == 120) (Some X) _ q e (λ t f. reached X q (c ∷ []) f (ap (λ (n : ℕ). n ∷ []) (eqb-true c 120 t)))
    (λ x d. choice (is_ascii_alphabetic c) (Some Name) _ q d
    (λ t f. reached Name q (c ∷ []) f (record { first = c; later = []; whole = refl; letter = t; are_name_bytes = refl }))
    (λ a d. choice (c == 95) (Some Blank) _ q d (λ t f. reached Blank q (c ∷ []) f (ap (λ (n : ℕ). n ∷ []) (eqb-true c 95 t)))
    (λ b d. choice (c == 48) (Some Zero) _ q d (λ t f. reached Zero q (c ∷ []) f (ap (λ (n : ℕ). n ∷ []) (eqb-true c 48 t)))
    (λ z d. choice_none (is_ascii_digit c) (Some (Number (c - 48))) q d
    (λ t f.
    let bounds = digit_bounds c t in
    let low : 48 ≤ c = bounds.0 in
    let high : c ≤ 57 = bounds.1 in
    let some : c ≢ 48 = not_zero c z in
    reached (Number (c - 48)) q (c ∷ []) f (omega arith, omega arith, digit_text c t))))))

-- ---- names

pub all_push : (f : ℕ → Bool) (xs : List ℕ) (c : ℕ) → list_all f xs ≡ true → f c ≡ true → list_all f (xs ++ c ∷ []) ≡ true
all_push f [] c h t = and_from (f c) true t refl
all_push f (x ∷ xs) c h t =
    let parts = and_parts (f x) (list_all f xs) h in
    and_from (f x) (list_all f (xs ++ c ∷ [])) parts.0 (all_push f xs c parts.1 t)

pub letters_push : (step : List ℕ) (c : ℕ) → IsLetters step → is_name_byte c ≡ true → IsLetters (step ++ c ∷ [])
letters_push step c h t = record {
  first = h.first;
  later = h.later ++ c ∷ [];
  whole = ap (λ (l : List ℕ). l ++ c ∷ []) h.whole;
  letter = h.letter;
  are_name_bytes = all_push is_name_byte h.later c h.are_name_bytes t;
}

pub x_letters : (step : List ℕ) → step ≡ 120 ∷ [] → IsLetters step
x_letters step e = record { first = 120; later = []; whole = e; letter = refl; are_name_bytes = refl }

in_name_holds : (step : List ℕ) (c : ℕ) (q : Point) → c ≢ 47 → IsLetters step → in_name c ≡ Some q → Holds q (step ++ c ∷ [])
in_name_holds step c q n h e =
    choice (is_name_byte c) (Some Name) (ended c) q e
    (λ t f. reached Name q (step ++ c ∷ []) f (letters_push step c h t))
    (λ _ f. not_ended c q (step ++ c ∷ []) n f)

-- ---- numbers after '_'

pub count_push : (ds : List ℕ) (c : ℕ) → is_count ds ≡ true → 0 < length ds → is_ascii_digit c ≡ true → is_count (ds ++ c ∷ []) ≡ true
count_push [] c h s t = absurd (omega arith)
count_push (d ∷ ds) c h s t =
    let parts = and_parts (is_ascii_digit d && not (d == 48)) (list_all is_ascii_digit ds) h in
    and_from (is_ascii_digit d && not (d == 48)) (list_all is_ascii_digit (ds ++ c ∷ [])) parts.0 (all_push is_ascii_digit ds c parts.1 t)

pub count_first : (c : ℕ) → (is_ascii_digit c && not (c == 48)) ≡ true → is_count (c ∷ []) ≡ true
count_first c t = and_from (is_ascii_digit c && not (c == 48)) true t refl

pub blank_counted : (step : List ℕ) (c : ℕ) → step ≡ 95 ∷ [] → (is_ascii_digit c && not (c == 48)) ≡ true → IsCounted (step ++ c ∷ [])
blank_counted step c e t =
    record { digits = c ∷ []; whole = ap (λ (l : List ℕ). l ++ c ∷ []) e; is_count = count_first c t; some = omega arith }

pub counted_push : (step : List ℕ) (c : ℕ) → IsCounted step → is_ascii_digit c ≡ true → IsCounted (step ++ c ∷ [])
counted_push step c h t =
    let some = h.some in
    record {
      digits = h.digits ++ c ∷ [];
      whole = ap (λ (l : List ℕ). l ++ c ∷ []) h.whole;
      is_count = count_push h.digits c h.is_count h.some t;
      some = let l = length_push h.digits c in omega arith;
    }

-- ---- item numbers

pub decimal_push : (n c : ℕ) → 0 < n → 10 * n + (c - 48) < 2 ^ 64 → 48 ≤ c → c ≤ 57 → decimal n ++ c ∷ [] ≡ decimal (10 * n + (c - 48))
decimal_push n c some few low high =
    let m : ℕ = 10 * n + (c - 48) in
    let q : m / 10 ≡ n = omega arith in
    let r : 48 + m % 10 ≡ c = omega arith in
    sym (decimal_step m (omega arith) few ∙ ap (λ (k : ℕ). decimal k ++ (48 + m % 10) ∷ []) q ∙ ap (λ (k : ℕ). decimal n ++ k ∷ []) r)

longer_holds : (n c : ℕ) (step : List ℕ) (q : Point) → (0 < n) × (n < 2 ^ 32) × (step ≡ decimal n) → is_ascii_digit c ≡ true
    → longer n c ≡ Some q → Holds q (step ++ c ∷ [])
longer_holds n c step q h t e =
    choice_none (nat_lt (10 * n + (c - 48)) (2 ^ 32)) (Some (Number (10 * n + (c - 48)))) q e
    (λ b f.
    let few : 10 * n + (c - 48) < 2 ^ 32 = ltb-true (10 * n + (c - 48)) (2 ^ 32) b in
    let some : 0 < n = h.0 in
    let bounds = digit_bounds c t in
    reached (Number (10 * n + (c - 48))) q (step ++ c ∷ []) f
    (omega arith, few, ap (λ (l : List ℕ). l ++ c ∷ []) h.2 ∙ decimal_push n c some (omega arith) bounds.0 bounds.1))

-- ---- keys

pub digits_push : (ds : List ℕ) (c : ℕ) → AreDigits ds → is_hex_digit c ≡ true → AreDigits (ds ++ c ∷ [])
digits_push ds c h t i l = ⊎_elim
    (λ (b : i < length ds). ap (λ (x : ℕ). is_hex_digit x) (get_or_append_left ds (c ∷ []) 0 i b) ∙ h i b)
    (λ (b : length ds ≤ i).
    let n = length_push ds c in
    let z : i - length ds ≡ 0 = omega arith in
    ap (λ (x : ℕ). is_hex_digit x) (get_or-append_right ds (c ∷ []) (length ds) i 0 refl b ∙ ap (λ (k : ℕ). slice_index (c ∷ []) k) z) ∙ t)
    (cases_lt i (length ds))

few_digits : (k c : ℕ) → (nat_lt k 255 || (k == 255 && is_markable c)) ≡ true → (k + 1 ≤ 256) × (k + 1 ≡ 256 → is_markable c ≡ true)
few_digits k c b = ⊎_elim
    (λ (t : nat_lt k 255 ≡ true). let l : k < 255 = ltb-true k 255 t in (omega arith, λ e. absurd (omega arith)))
    (λ (t : (k == 255 && is_markable c) ≡ true).
    let parts = and_parts (k == 255) (is_markable c) t in
    let e : k ≡ 255 = eqb-true k 255 parts.0 in
    (omega arith, λ _. parts.1))
    (or_cases (nat_lt k 255) (k == 255 && is_markable c) b)

digit_holds : (k last c : ℕ) (step : List ℕ) (q : Point) → IsKey k last step → is_hex_digit c ≡ true → digit k c ≡ Some q → Holds q (step ++ c ∷ [])
digit_holds k last c step q h t e =
    choice_none (nat_lt k 255 || (k == 255 && is_markable c)) (Some (Key (k + 1) c)) q e
    (λ b f.
    let few = few_digits k c b in
    let size = h.size in
    reached (Key (k + 1) c) q (step ++ c ∷ []) f (record {
      digits = h.digits ++ c ∷ [];
      whole = ap (λ (l : List ℕ). l ++ c ∷ []) h.whole;
      are_digits = digits_push h.digits c h.are_digits t;
      size = let l = length_push h.digits c in omega arith;
      few = few.0;
      is_last = sym (last_digit-push h.digits c);
      ends = few.1;
    }))

mark_holds : (k last c : ℕ) (step : List ℕ) → IsKey k last step → c ≡ 95 → is_markable last ≡ true → IsMarked (step ++ c ∷ [])
mark_holds k last c step h e m =
    let size = h.size in
    let few = h.few in
    record {
      digits = h.digits;
      whole = ap (λ (l : List ℕ). l ++ c ∷ []) h.whole ∙ ap (λ (x : ℕ). 120 ∷ 123 ∷ h.digits ++ x ∷ []) e;
      are_digits = h.are_digits;
      few = omega arith;
      ends = ap (λ (x : ℕ). is_markable x) (sym h.is_last) ∙ m;
    }

-- a key that is closed
pub closed_of : (step text : List ℕ) → WritesBits text → step ≡ 120 ∷ 123 ∷ text ++ 125 ∷ [] → IsClosed step
closed_of step text w e =
    record { key = w.0; are_few = w.1; whole = e ∙ ap (λ (t : List ℕ). 120 ∷ 123 ∷ t ++ 125 ∷ []) w.2 }

close_holds : (k last c : ℕ) (step : List ℕ) → IsKey k last step → c ≡ 125 → k < 256 → IsClosed (step ++ c ∷ [])
close_holds k last c step h e l =
    let size = h.size in
    closed_of (step ++ c ∷ []) h.digits (writes-plain h.digits h.are_digits (omega arith))
    (ap (λ (t : List ℕ). t ++ c ∷ []) h.whole ∙ ap (λ (x : ℕ). 120 ∷ 123 ∷ h.digits ++ x ∷ []) e)

in_key_holds : (k last c : ℕ) (step : List ℕ) (q : Point) → IsKey k last step → in_key k last c ≡ Some q → Holds q (step ++ c ∷ [])
in_key_holds k last c step q h e =
    choice (is_hex_digit c) (digit k c) _ q e (λ t f. digit_holds k last c step q h t f)
    (λ _ d. choice (c == 95) _ _ q d
    (λ t f. choice_none (is_markable last) (Some Marked) q f (λ m g. reached Marked q (step ++ c ∷ []) g (mark_holds k last c step h (eqb-true c 95 t) m)))
    (λ _ d. choice_none (c == 125 && nat_lt k 256) (Some Closed) q d
    (λ t g.
    let parts = and_parts (c == 125) (nat_lt k 256) t in
    reached Closed q (step ++ c ∷ []) g (close_holds k last c step h (eqb-true c 125 parts.0) (ltb-true k 256 parts.1)))))

marked_closes : (c : ℕ) (step : List ℕ) → IsMarked step → c ≡ 125 → IsClosed (step ++ c ∷ [])
marked_closes c step h e =
    closed_of (step ++ c ∷ []) (h.digits ++ 95 ∷ []) (writes-marked h.digits h.are_digits h.few h.ends)
    (ap (λ (t : List ℕ). t ++ c ∷ []) h.whole ∙ ap (λ (x : ℕ). 120 ∷ 123 ∷ h.digits ++ 95 ∷ [] ++ x ∷ []) e)

-- ---- one more byte

key_begins : (c : ℕ) (step : List ℕ) → step ≡ 120 ∷ [] → c ≡ 123 → IsKey 0 48 (step ++ c ∷ [])
key_begins c step h e = record {
  digits = [];
  whole = ap (λ (t : List ℕ). t ++ c ∷ []) h ∙ ap (λ (x : ℕ). 120 ∷ x ∷ []) e;
  are_digits = λ i l. absurd (omega arith);
  size = refl;
  few = omega arith;
  is_last = refl;
  ends = λ z. absurd (omega arith);
}

from_nothing : (c : ℕ) (q : Point) (step : List ℕ) → step ≡ [] → begun c ≡ Some q → Holds q (step ++ c ∷ [])
from_nothing c q step h e =
    let P : List ℕ → Type 0 = λ t. Holds q (t ++ c ∷ []) in
    subst P (sym h) (begun_holds c q e)

pub kept : (p q : Point) (step : List ℕ) (c : ℕ) → c ≢ 47 → Holds p step → next p c ≡ Some q → Holds q (step ++ c ∷ [])
kept Root q step c n h e = absurd h
kept First q step c n h e = from_nothing c q step h e
kept Due q step c n h e = from_nothing c q step h e
kept X q step c n h e =
    choice (c == 123) (Some (Key 0 48)) (in_name c) q e
    (λ t f. reached (Key 0 48) q (step ++ c ∷ []) f (key_begins c step h (eqb-true c 123 t)))
    (λ _ f. in_name_holds step c q n (x_letters step h) f)
kept Name q step c n h e = in_name_holds step c q n h e
kept Blank q step c n h e =
    choice (is_ascii_digit c && not (c == 48)) (Some Count) (ended c) q e
    (λ t f. reached Count q (step ++ c ∷ []) f (blank_counted step c h t))
    (λ _ f. not_ended c q (step ++ c ∷ []) n f)
kept Count q step c n h e =
    choice (is_ascii_digit c) (Some Count) (ended c) q e
    (λ t f. reached Count q (step ++ c ∷ []) f (counted_push step c h t))
    (λ _ f. not_ended c q (step ++ c ∷ []) n f)
kept Zero q step c n h e = not_ended c q (step ++ c ∷ []) n e
kept (Number k) q step c n h e =
    choice (is_ascii_digit c) (longer k c) (ended c) q e
    (λ t f. longer_holds k c step q h t f)
    (λ _ f. not_ended c q (step ++ c ∷ []) n f)
kept (Key k last) q step c n h e = in_key_holds k last c step q h e
kept Marked q step c n h e =
    choice_none (c == 125) (Some Closed) q e
    (λ t f. reached Closed q (step ++ c ∷ []) f (marked_closes c step h (eqb-true c 125 t)))
kept Closed q step c n h e = not_ended c q (step ++ c ∷ []) n e

-- ---- whole steps

pub record WholeStep (step : List ℕ) : Type 0 where
  pub what : Stride
  pub is_step : IsStep what
  pub text : step ≡ step_text what

as_name : (step : List ℕ) → IsName step → WholeStep step
as_name step h = record { what = named step; is_step = h; text = refl }

pub letters_name : (step : List ℕ) → IsLetters step → IsName step
letters_name step h =
    let P : List ℕ → Type 0 = λ t. IsName t in
    let both = and_from (is_ascii_alphabetic h.first) (list_all is_name_byte h.later) h.letter h.are_name_bytes in
    subst P (sym h.whole) (or_left (is_ascii_alphabetic h.first && list_all is_name_byte h.later) ((h.first == 95) && is_count h.later) both)

pub counted_name : (step : List ℕ) → IsCounted step → IsName step
counted_name step h =
    let P : List ℕ → Type 0 = λ t. IsName t in
    subst P (sym h.whole) (or_right (is_ascii_alphabetic 95 && list_all is_name_byte h.digits) ((95 == 95) && is_count h.digits) h.is_count)

closed_step : (step : List ℕ) → IsClosed step → WholeStep step
closed_step step h = record { what = keyed h.key; is_step = h.are_few; text = h.whole }

pub blank_name : (step : List ℕ) → step ≡ 95 ∷ [] → IsName step
blank_name step h = let P : List ℕ → Type 0 = λ t. IsName t in subst P (sym h) refl

number_step : (n : ℕ) (step : List ℕ) → n < 2 ^ 32 → step ≡ decimal n → WholeStep step
number_step n step h e = record { what = item n; is_step = h; text = e }

pub zero_text : 48 ∷ [] ≡ decimal 0
zero_text = sym (decimal_digit 0 (omega arith))

pub whole_step : (p : Point) (step : List ℕ) → Holds p step → is_step p ≡ true → WholeStep step
whole_step Root step h s = absurd h
whole_step First step h s = absurd (cc)
whole_step Due step h s = absurd (cc)
whole_step X step h s = as_name step (letters_name step (x_letters step h))
whole_step Name step h s = as_name step (letters_name step h)
whole_step Blank step h s = as_name step (blank_name step h)
whole_step Count step h s = as_name step (counted_name step h)
whole_step Zero step h s = number_step 0 step (omega arith) (h ∙ zero_text)
whole_step (Number n) step h s = number_step n step h.1 h.2
whole_step (Key k last) step h s = absurd (cc)
whole_step Marked step h s = absurd (cc)
whole_step Closed step h s = closed_step step h

-- ---- steps that can be ended

-- some step's text begins so
pub record BeginsStep (step : List ℕ) : Type 0 where
  pub after : List ℕ
  pub whole : WholeStep (step ++ after)

already : (step : List ℕ) → WholeStep step → BeginsStep step
already step w =
    let P : List ℕ → Type 0 = λ t. WholeStep t in
    record { after = []; whole = subst P (sym (append-nil step)) w }

nothing_begins : (step : List ℕ) → step ≡ [] → BeginsStep step
nothing_begins step h =
    let P : List ℕ → Type 0 = λ t. WholeStep (t ++ 48 ∷ []) in
    record { after = 48 ∷ []; whole = subst P (sym h) (number_step 0 (48 ∷ []) (omega arith) zero_text) }

closes_with : (step text after : List ℕ) → WritesBits text → step ++ after ≡ 120 ∷ 123 ∷ text ++ 125 ∷ [] → BeginsStep step
closes_with step text after w e = record { after = after; whole = closed_step (step ++ after) (closed_of (step ++ after) text w e) }

-- digits that may be followed by a mark are, and others are closed
key_begun : (k last : ℕ) (step : List ℕ) → IsKey k last step → BeginsStep step
key_begun k last step h =
    let size = h.size in
    let few = h.few in
    ⊎_elim
    (λ (l : k < 256).
    closes_with step h.digits (125 ∷ []) (writes-plain h.digits h.are_digits (omega arith)) (ap (λ (t : List ℕ). t ++ 125 ∷ []) h.whole))
    (λ (l : 256 ≤ k).
    let m : is_markable (last_digit h.digits) ≡ true = ap (λ (x : ℕ). is_markable x) (sym h.is_last) ∙ h.ends (omega arith) in
    closes_with step (h.digits ++ 95 ∷ []) (95 ∷ 125 ∷ []) (writes-marked h.digits h.are_digits (omega arith) m)
    (ap (λ (t : List ℕ). t ++ 95 ∷ 125 ∷ []) h.whole ∙ ap (λ (t : List ℕ). 120 ∷ 123 ∷ t) (sym (append_assoc h.digits (95 ∷ []) (125 ∷ [])))))
    (cases_lt k 256)

marked_begun : (step : List ℕ) → IsMarked step → BeginsStep step
marked_begun step h =
    closes_with step (h.digits ++ 95 ∷ []) (125 ∷ []) (writes-marked h.digits h.are_digits h.few h.ends) (ap (λ (t : List ℕ). t ++ 125 ∷ []) h.whole)

pub begins_step : (p : Point) (step : List ℕ) → Holds p step → BeginsStep step
begins_step Root step h = absurd h
begins_step First step h = nothing_begins step h
begins_step Due step h = nothing_begins step h
begins_step X step h = already step (whole_step X step h refl)
begins_step Name step h = already step (whole_step Name step h refl)
begins_step Blank step h = already step (whole_step Blank step h refl)
begins_step Count step h = already step (whole_step Count step h refl)
begins_step Zero step h = already step (whole_step Zero step h refl)
begins_step (Number n) step h = already step (whole_step (Number n) step h refl)
begins_step (Key k last) step h = key_begun k last step h
begins_step Marked step h = marked_begun step h
begins_step Closed step h = already step (whole_step Closed step h refl)
