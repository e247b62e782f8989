-- The text of a path leads to a point where it may end, and where bytes lead to says what they are.
use Rattle.std.proofs.Common.{◌≡◌, ◌≢◌, ⊎_elim, ℕ, zero, suc, ◌+◌, ◌-◌, ◌*◌, ◌/◌, ◌%◌, ◌^◌, ◌<◌, ◌≤◌, ◌==◌, Bool, true, false, ◌&&◌, ◌||◌, not, nat_lt, List, [], ◌∷◌, ◌++◌, length, decimal, Option, Some, None, if◌then◌else◌, refl, sym, ap, ◌∙◌, subst, arith}
use Rattle.std.specs.Char.{is_ascii_alphabetic, is_ascii_digit}
use Rattle.std.specs.List.{list_all}
use Rattle.std.proofs.lemmas.Bool.{eqb-true, and_parts, and_from, or_cases, cases_eq, cases_lt, ne_eqb, eq-eqb, lt-ltb, or_left, or_right}
use Rattle.std.proofs.lemmas.Bool.Decides.{nat_tests}
use Rattle.std.proofs.lemmas.Fmt.{decimal_by_steps}
use Rattle.bit_slice.specs.Bits.{hex_text}
use Rattle.bit_slice.specs.HexLists.{AreDigits, is_hex_digit}
use Rattle.bit_slice.specs.Names.{IsName, is_count, is_name_byte}
use Rattle.typed_value.specs.Paths.{Stride, named, item, keyed}
use Rattle.value_text.specs.declared.point.Point.{Point}
use Rattle.value_text.specs.declared.point.Point.TheVariants.{Root, First, Due, X, Name, Blank, Count, Zero, Number, Key, Marked, Closed}
use Rattle.value_text.specs.BitsTextLaws.{BitsForm, bits-form, is_markable, last_digit, marked, plain}
use Rattle.value_text.specs.PathText.{AreSteps, IsStep, PathWrites, path_text, step_text, steps_text}
use Rattle.value_text.specs.PathPoints.{begun, digit, ended, in_name, is_step, may_end, next, onward, walk}

pub walk-append : (p : Point) (xs ys : List ℕ) → walk p (xs ++ ys) ≡ onward (walk p xs) (λ q. walk q ys)
walk-append p [] ys = refl
walk-append p (x ∷ xs) ys =
    elim (next p x) as (λ o. onward o (λ q. walk q (xs ++ ys)) ≡ onward (onward o (λ q. walk q xs)) (λ q. walk q ys)) [
      | Some q ↦ walk-append q xs ys
      | None ↦ refl
    ]

pub walk-then : (p q : Point) (xs ys : List ℕ) → walk p xs ≡ Some q → walk p (xs ++ ys) ≡ walk q ys
walk-then p q xs ys e = walk-append p xs ys ∙ ap (λ (o : Option Point). onward o (λ r. walk r ys)) e

pub walk-one : (p q : Point) (c : ℕ) → next p c ≡ Some q → walk p (c ∷ []) ≡ Some q
walk-one p q c e = ap (λ (o : Option Point). onward o (λ r. walk r [])) e

-- the bytes lead to a point at which a whole step stands
record Ends (p : Point) (bytes : List ℕ) : Type 0 where
  point : Point
  leads : walk p bytes ≡ Some point
  whole : is_step point ≡ true

record IsFresh (p : Point) : Type 0 where
  begins : (c : ℕ) → next p c ≡ begun c

first_fresh : IsFresh First
first_fresh = record { begins = λ c. refl }

due_fresh : IsFresh Due
due_fresh = record { begins = λ c. refl }

-- ---- names

when_true : (b : Bool) (x y : Option Point) → b ≡ true → (if b then x else y) ≡ x
when_true b x y e = ap (λ (t : Bool). if t then x else y) e

when_false : (b : Bool) (x y : Option Point) → b ≡ false → (if b then x else y) ≡ y
when_false b x y e = ap (λ (t : Bool). if t then x else y) e

name_walk : (cs : List ℕ) → list_all is_name_byte cs ≡ true → walk Name cs ≡ Some Name
name_walk [] h = refl
name_walk (c ∷ cs) h =
    let parts = and_parts (is_name_byte c) (list_all is_name_byte cs) h in
    ap (λ (o : Option Point). onward o (λ q. walk q cs)) (when_true (is_name_byte c) (Some Name) (ended c) parts.0) ∙ name_walk cs parts.1

not_brace : (c : ℕ) → is_name_byte c ≡ true → (c == 123) ≡ false
not_brace c h = ne_eqb c 123 (λ e.
    let no : false ≡ true = ap (λ (x : ℕ). is_name_byte x) (sym e) ∙ h in
    absurd (cc))

x_walk : (p : Point) (cs : List ℕ) → p ≡ X → list_all is_name_byte cs ≡ true → Ends p cs
x_walk p [] e h = record { point = p; leads = refl; whole = ap is_step e }
x_walk p (c ∷ cs) e h =
    let parts = and_parts (is_name_byte c) (list_all is_name_byte cs) h in
    record {
      point = Name;
      leads = ap (λ (r : Point). walk r (c ∷ cs)) e
          ∙ ap (λ (o : Option Point). onward o (λ q. walk q cs))
          (when_false (c == 123) (Some (Key 0 48)) (in_name c) (not_brace c parts.0) ∙ when_true (is_name_byte c) (Some Name) (ended c) parts.0)
          ∙ name_walk cs parts.1;
      whole = refl;
    }

count_walk : (cs : List ℕ) → list_all is_ascii_digit cs ≡ true → walk Count cs ≡ Some Count
count_walk [] h = refl
count_walk (c ∷ cs) h =
    let parts = and_parts (is_ascii_digit c) (list_all is_ascii_digit cs) h in
    ap (λ (o : Option Point). onward o (λ q. walk q cs)) (when_true (is_ascii_digit c) (Some Count) (ended c) parts.0) ∙ count_walk cs parts.1

blank_walk : (cs : List ℕ) → is_count cs ≡ true → Ends Blank cs
blank_walk [] h = record { point = Blank; leads = refl; whole = refl }
blank_walk (c ∷ cs) h =
    let parts = and_parts (is_ascii_digit c && not (c == 48)) (list_all is_ascii_digit cs) h in
    record {
      point = Count;
      leads = ap (λ (o : Option Point). onward o (λ q. walk q cs)) (when_true (is_ascii_digit c && not (c == 48)) (Some Count) (ended c) parts.0)
          ∙ count_walk cs parts.1;
      whole = refl;
    }

-- a step goes on from where its first byte leads to
ends_after : (p q : Point) (c : ℕ) (cs : List ℕ) → next p c ≡ Some q → Ends q cs → Ends p (c ∷ cs)
ends_after p q c cs e h =
    record { point = h.point; leads = ap (λ (o : Option Point). onward o (λ r. walk r cs)) e ∙ h.leads; whole = h.whole }

letter_begins : (c : ℕ) → (c == 120) ≡ false → is_ascii_alphabetic c ≡ true → begun c ≡ Some Name
letter_begins c e h = rw (e, h) refl

letter_walk : (p : Point) (c : ℕ) (cs : List ℕ) → IsFresh p → is_ascii_alphabetic c ≡ true → list_all is_name_byte cs ≡ true → Ends p (c ∷ cs)
letter_walk p c cs f h t = ⊎_elim
    (λ (e : c ≡ 120). ends_after p X c cs (f.begins c ∙ ap begun e) (x_walk X cs refl t))
    (λ (e : c ≢ 120).
    ends_after p Name c cs (f.begins c ∙ letter_begins c (ne_eqb c 120 e) h) (record { point = Name; leads = name_walk cs t; whole = refl }))
    (cases_eq c 120)

name_ends : (p : Point) (name : List ℕ) → IsFresh p → IsName name → Ends p name
name_ends p [] f h = absurd (cc)
name_ends p (c ∷ cs) f h = ⊎_elim
    (λ (a : (is_ascii_alphabetic c && list_all is_name_byte cs) ≡ true).
    let parts = and_parts (is_ascii_alphabetic c) (list_all is_name_byte cs) a in
    letter_walk p c cs f parts.0 parts.1)
    (λ (a : ((c == 95) && is_count cs) ≡ true).
    let parts = and_parts (c == 95) (is_count cs) a in
    ends_after p Blank c cs (f.begins c ∙ ap begun (eqb-true c 95 parts.0)) (blank_walk cs parts.1))
    (or_cases (is_ascii_alphabetic c && list_all is_name_byte cs) ((c == 95) && is_count cs) h)

-- ---- item numbers

abbrev number_point : ℕ → Point
number_point zero = Zero
number_point (suc n) = Number (suc n)

number_is : (n : ℕ) → 0 < n → number_point n ≡ Number n
number_is zero h = absurd (omega arith)
number_is (suc n) h = refl

digit_begins : (n : ℕ) → n < 10 → begun (48 + n) ≡ Some (number_point n)
digit_begins n h = ⊎_elim
    (λ (e : n ≡ 0).
    let P : ℕ → Type 0 = λ k. begun (48 + k) ≡ Some (number_point k) in
    subst P (sym e) refl)
    (λ (e : n ≢ 0).
    let a : ((48 + n) == 120) ≡ false = grind (arith, nat_tests) in
    let b : is_ascii_alphabetic (48 + n) ≡ false = grind (arith, nat_tests) in
    let d : ((48 + n) == 95) ≡ false = grind (arith, nat_tests) in
    let z : ((48 + n) == 48) ≡ false = grind (arith, nat_tests) in
    let t : is_ascii_digit (48 + n) ≡ true = grind (arith, nat_tests) in
    let same : 48 + n - 48 ≡ n = omega arith in
    let there : begun (48 + n) ≡ Some (Number (48 + n - 48)) = rw (a, b, d, z, t) refl in
    there ∙ ap (λ (k : ℕ). Some (Number k)) same ∙ ap (λ (p : Point). Some p) (sym (number_is n (omega arith))))
    (cases_eq n 0)

abbrev Numbered : Point → ℕ → List ℕ → Type 0
Numbered p n ds = n < 2 ^ 32 → walk p ds ≡ Some (number_point n)

numbered_one : (p : Point) → IsFresh p → (n : ℕ) → n < 10 → Numbered p n ((48 + n) ∷ [])
numbered_one p f n h few = walk-one p (number_point n) (48 + n) (f.begins (48 + n) ∙ digit_begins n h)

numbered_more : (p : Point) → (n : ℕ) (ds : List ℕ) → 10 ≤ n → Numbered p (n / 10) ds → Numbered p n (ds ++ ((48 + n % 10) ∷ []))
numbered_more p n ds h before few =
    let t : is_ascii_digit (48 + n % 10) ≡ true = grind (arith, nat_tests) in
    let same : 10 * (n / 10) + (48 + n % 10 - 48) ≡ n = omega arith in
    let b : nat_lt (10 * (n / 10) + (48 + n % 10 - 48)) (2 ^ 32) ≡ true = lt-ltb (10 * (n / 10) + (48 + n % 10 - 48)) (2 ^ 32) (omega arith) in
    let there : next (Number (n / 10)) (48 + n % 10) ≡ Some (Number (10 * (n / 10) + (48 + n % 10 - 48))) = rw (t, b) refl in
    walk-then p (Number (n / 10)) ds ((48 + n % 10) ∷ []) (before (omega arith) ∙ ap (λ (q : Point). Some q) (number_is (n / 10) (omega arith)))
    ∙ walk-one (Number (n / 10)) (number_point n) (48 + n % 10)
    (there ∙ ap (λ (k : ℕ). Some (Number k)) same ∙ ap (λ (q : Point). Some q) (sym (number_is n (omega arith))))

number_step : (n : ℕ) → is_step (number_point n) ≡ true
number_step zero = refl
number_step (suc n) = refl

item_ends : (p : Point) (i : ℕ) → IsFresh p → i < 2 ^ 32 → Ends p (decimal i)
item_ends p i f h =
    record {
      point = number_point i;
      leads = decimal_by_steps (Numbered p) (numbered_one p f) (numbered_more p) i (omega arith) h;
      whole = number_step i;
    }

-- ---- keys

-- what is left of digits, behind others
digits_tail : (d : ℕ) (ds : List ℕ) → AreDigits (d ∷ ds) → AreDigits ds
digits_tail d ds h i l = h (suc i) (omega arith)

digits_head : (d : ℕ) (ds : List ℕ) → AreDigits (d ∷ ds) → is_hex_digit d ≡ true
digits_head d ds h = h 0 (omega arith)

abbrev after_last : ℕ → List ℕ → ℕ
after_last last [] = last
after_last last (d ∷ ds) = after_last d ds

-- so many digits in all, of which the 256th may be marked
fits_digit : (k n d : ℕ) (ds : List ℕ) → k + (1 + length ds) ≤ 256 → (k + (1 + length ds) ≡ 256 → is_markable (after_last d ds) ≡ true)
    → (length ds ≡ 0 → after_last d ds ≡ d) → (nat_lt k 255 || (k == 255 && is_markable d)) ≡ true
fits_digit k n d ds few ends last = ⊎_elim
    (λ (l : k < 255). or_left (nat_lt k 255) (k == 255 && is_markable d) (lt-ltb k 255 l))
    (λ (l : 255 ≤ k).
    let e : k ≡ 255 = omega arith in
    let m : is_markable (after_last d ds) ≡ true = ends (omega arith) in
    let same : after_last d ds ≡ d = last (omega arith) in
    or_right (nat_lt k 255) (k == 255 && is_markable d)
    (and_from (k == 255) (is_markable d) (eq-eqb k 255 e) (ap (λ (x : ℕ). is_markable x) (sym same) ∙ m)))
    (cases_lt k 255)

alone : (d : ℕ) (ds : List ℕ) → length ds ≡ 0 → after_last d ds ≡ d
alone d [] h = refl
alone d (e ∷ ds) h = absurd (omega arith)

key_walk : (k last : ℕ) (ds : List ℕ) → AreDigits ds → k + length ds ≤ 256 → (k + length ds ≡ 256 → is_markable (after_last last ds) ≡ true)
    → walk (Key k last) ds ≡ Some (Key (k + length ds) (after_last last ds))
key_walk k last [] h few ends = let z : k ≡ k + 0 = omega arith in ap (λ (n : ℕ). Some (Key n last)) z
key_walk k last (d ∷ ds) h few ends =
    let one : k + length (d ∷ ds) ≡ k + (1 + length ds) = omega arith in
    let t : is_hex_digit d ≡ true = digits_head d ds h in
    let b : (nat_lt k 255 || (k == 255 && is_markable d)) ≡ true = fits_digit k 0 d ds (omega arith) (λ e. ends (omega arith)) (alone d ds) in
    let there : next (Key k last) d ≡ Some (Key (k + 1) d) =
    when_true (is_hex_digit d) (digit k d) _ t ∙ when_true (nat_lt k 255 || (k == 255 && is_markable d)) (Some (Key (k + 1) d)) None b in
    let sum : k + 1 + length ds ≡ k + length (d ∷ ds) = omega arith in
    ap (λ (o : Option Point). onward o (λ q. walk q ds)) there
    ∙ key_walk (k + 1) d ds (digits_tail d ds h) (omega arith) (λ e. ends (omega arith))
    ∙ ap (λ (n : ℕ). Some (Key n (after_last d ds))) sum

last_is : (last d : ℕ) (ds : List ℕ) → after_last last (d ∷ ds) ≡ last_digit (d ∷ ds)
last_is last d [] = refl
last_is last d (e ∷ ds) = last_is d e ds

last_of : (ds : List ℕ) → after_last 48 ds ≡ last_digit ds
last_of [] = refl
last_of (d ∷ ds) = last_is 48 d ds

key_open : (p : Point) → IsFresh p → walk p (120 ∷ 123 ∷ []) ≡ Some (Key 0 48)
key_open p f = ap (λ (o : Option Point). onward o (λ q. walk q (123 ∷ []))) (f.begins 120)

key_digits : (p : Point) (ds : List ℕ) → IsFresh p → AreDigits ds → length ds ≤ 256 → (length ds ≡ 256 → is_markable (last_digit ds) ≡ true)
    → walk p (120 ∷ 123 ∷ ds) ≡ Some (Key (0 + length ds) (last_digit ds))
key_digits p ds f h few ends =
    let same : is_markable (last_digit ds) ≡ is_markable (after_last 48 ds) = ap (λ (x : ℕ). is_markable x) (sym (last_of ds)) in
    walk-then p (Key 0 48) (120 ∷ 123 ∷ []) ds (key_open p f)
    ∙ key_walk 0 48 ds h (omega arith) (λ e. sym same ∙ ends (omega arith))
    ∙ ap (λ (l : ℕ). Some (Key (0 + length ds) l)) (last_of ds)

close_step : (k last : ℕ) → k < 256 → next (Key k last) 125 ≡ Some Closed
close_step k last h = let b : nat_lt k 256 ≡ true = lt-ltb k 256 h in rw b refl

mark_step : (k last : ℕ) → is_markable last ≡ true → next (Key k last) 95 ≡ Some Marked
mark_step k last h = rw h refl

closed_ends : (p q : Point) (text : List ℕ) → walk p (120 ∷ 123 ∷ text) ≡ Some q → next q 125 ≡ Some Closed → Ends p (120 ∷ 123 ∷ text ++ 125 ∷ [])
closed_ends p q text e f =
    record { point = Closed; leads = walk-then p q (120 ∷ 123 ∷ text) (125 ∷ []) e ∙ walk-one q Closed 125 f; whole = refl }

form_ends : (p : Point) (text : List ℕ) → IsFresh p → BitsForm text → Ends p (120 ∷ 123 ∷ text ++ 125 ∷ [])
form_ends p text f (plain h few) =
    closed_ends p (Key (0 + length text) (last_digit text)) text (key_digits p text f h (omega arith) (λ e. absurd (omega arith)))
    (close_step (0 + length text) (last_digit text) (omega arith))
form_ends p text f (marked ds e h few m) =
    let Q : List ℕ → Type 0 = λ t. Ends p (120 ∷ 123 ∷ t ++ 125 ∷ []) in
    let there : walk p (120 ∷ 123 ∷ ds ++ 95 ∷ []) ≡ Some Marked =
    walk-then p (Key (0 + length ds) (last_digit ds)) (120 ∷ 123 ∷ ds) (95 ∷ []) (key_digits p ds f h few (λ _. m))
    ∙ walk-one (Key (0 + length ds) (last_digit ds)) Marked 95 (mark_step (0 + length ds) (last_digit ds) m) in
    subst Q (sym e) (closed_ends p Marked (ds ++ 95 ∷ []) there refl)

step_ends : (p : Point) (s : Stride) → IsFresh p → IsStep s → Ends p (step_text s)
step_ends p (named name) f h = name_ends p name f h
step_ends p (item i) f h = item_ends p i f h
step_ends p (keyed key) f h = form_ends p (hex_text key) f (bits-form key h)

-- ---- paths

-- after a whole step a '/' leads on
slash_on : (p : Point) → is_step p ≡ true → next p 47 ≡ Some Due
slash_on Root h = absurd (cc)
slash_on First h = absurd (cc)
slash_on Due h = absurd (cc)
slash_on X h = refl
slash_on Name h = refl
slash_on Blank h = refl
slash_on Count h = refl
slash_on Zero h = refl
slash_on (Number n) h = refl
slash_on (Key k last) h = absurd (cc)
slash_on Marked h = absurd (cc)
slash_on Closed h = refl

may_end_at : (p : Point) → is_step p ≡ true → may_end p ≡ true
may_end_at Root h = absurd (cc)
may_end_at First h = refl
may_end_at Due h = absurd (cc)
may_end_at X h = refl
may_end_at Name h = refl
may_end_at Blank h = refl
may_end_at Count h = refl
may_end_at Zero h = refl
may_end_at (Number n) h = refl
may_end_at (Key k last) h = absurd (cc)
may_end_at Marked h = absurd (cc)
may_end_at Closed h = refl

-- the bytes lead to a point at which a path may end
pub record Leads (p : Point) (bytes : List ℕ) : Type 0 where
  pub point : Point
  pub walked : walk p bytes ≡ Some point
  pub may_end : may_end point ≡ true

after_step : (p : Point) (s : Stride) (steps : List Stride) (e : Ends p (step_text s)) → Leads e.point (steps_text steps)
    → Leads p (step_text s ++ steps_text steps)
after_step p s steps e l =
    record { point = l.point; walked = walk-then p e.point (step_text s) (steps_text steps) e.leads ∙ l.walked; may_end = l.may_end }

steps_lead : (p : Point) (steps : List Stride) → is_step p ≡ true → AreSteps steps → Leads p (steps_text steps)
steps_lead p [] h a = record { point = p; walked = refl; may_end = may_end_at p h }
steps_lead p (s ∷ steps) h a =
    let e = step_ends Due s due_fresh a.0 in
    let l = after_step Due s steps e (steps_lead e.point steps e.whole a.1) in
    record {
      point = l.point;
      walked = ap (λ (o : Option Point). onward o (λ q. walk q (step_text s ++ steps_text steps))) (slash_on p h) ∙ l.walked;
      may_end = l.may_end;
    }

path_leads : (steps : List Stride) → AreSteps steps → Leads Root (path_text steps)
path_leads [] h = record { point = First; walked = refl; may_end = refl }
path_leads (s ∷ steps) h =
    let e = step_ends First s first_fresh h.0 in
    let l = after_step First s steps e (steps_lead e.point steps e.whole h.1) in
    record { point = l.point; walked = l.walked; may_end = l.may_end }

pub written_leads : (text : List ℕ) (steps : List Stride) → PathWrites text steps → Leads Root text
written_leads text steps h =
    let P : List ℕ → Type 0 = λ t. Leads Root t in
    subst P (sym h.1) (path_leads steps h.0)
