-- A text writes at most one path, and has at most one bad place.
use Rattle.std.proofs.Common.{◌≡◌, ◌≢◌, ⊎_elim, ℕ, suc, ◌+◌, ◌%◌, ◌^◌, ◌<◌, ◌≤◌, ◌==◌, true, false, ◌&&◌, not, List, [], ◌∷◌, ◌++◌, length, take, drop, decimal, refl, sym, ap, ◌∙◌, subst, arith, append_assoc, append-nil, Result, Err}
use Rattle.std.specs.Char.{is_ascii_alphabetic, is_ascii_digit}
use Rattle.std.specs.List.{list_all}
use Rattle.std.proofs.lemmas.Bool.{eqb-true, and_parts, or_cases, cases_lt}
use Rattle.std.proofs.lemmas.Bool.Decides.{nat_tests}
use Rattle.std.proofs.lemmas.Fmt.{decimal_by_steps, decimal_injective}
use Rattle.std.proofs.lemmas.List.{append_cancel_right, take-take, take-append-drop}
use Rattle.bit_slice.specs.Bits.{hex_text}
use Rattle.bit_slice.specs.HexLists.{AreDigits, is_hex_digit}
use Rattle.bit_slice.specs.HexTexts.{hex_text-injective}
use Rattle.bit_slice.specs.Names.{IsName, is_count, is_name_byte}
use Rattle.typed_value.specs.Paths.{Stride, named, item, keyed}
use Rattle.value_text.specs.BitsTextLaws.{BitsForm, bits-form, marked, plain}
use Rattle.value_text.specs.declared.path.PathError.{PathError}
use Rattle.value_text.specs.declared.path.PathError.TheVariants.{BadPath, NoMemory}
use Rattle.value_text.specs.PathAnswer.{IfPathAnswered}
use Rattle.value_text.specs.PathText.{AreSteps, GoesOn, IsBadPath, IsStep, PathWrites, path_text, step_text, steps_text}

-- ---- no step has a '/'

abbrev NoSlash : List ℕ → Type 0
NoSlash [] = Unit {0}
NoSlash (c ∷ cs) = (c ≢ 47) × NoSlash cs

no_slash-append : (xs ys : List ℕ) → NoSlash xs → NoSlash ys → NoSlash (xs ++ ys)
no_slash-append [] ys h g = g
no_slash-append (x ∷ xs) ys h g = (h.0, no_slash-append xs ys h.1 g)

name_byte_no : (c : ℕ) → is_name_byte c ≡ true → c ≢ 47
name_byte_no c h e = let no : false ≡ true = ap (λ (x : ℕ). is_name_byte x) (sym e) ∙ h in absurd (cc)

digit_no : (c : ℕ) → is_ascii_digit c ≡ true → c ≢ 47
digit_no c h e = let no : false ≡ true = ap (λ (x : ℕ). is_ascii_digit x) (sym e) ∙ h in absurd (cc)

hex_no : (c : ℕ) → is_hex_digit c ≡ true → c ≢ 47
hex_no c h e = let no : false ≡ true = ap (λ (x : ℕ). is_hex_digit x) (sym e) ∙ h in absurd (cc)

letter_no : (c : ℕ) → is_ascii_alphabetic c ≡ true → c ≢ 47
letter_no c h e = let no : false ≡ true = ap (λ (x : ℕ). is_ascii_alphabetic x) (sym e) ∙ h in absurd (cc)

names_no : (cs : List ℕ) → list_all is_name_byte cs ≡ true → NoSlash cs
names_no [] h = tt
names_no (c ∷ cs) h = let p = and_parts (is_name_byte c) (list_all is_name_byte cs) h in (name_byte_no c p.0, names_no cs p.1)

counts_no : (cs : List ℕ) → list_all is_ascii_digit cs ≡ true → NoSlash cs
counts_no [] h = tt
counts_no (c ∷ cs) h = let p = and_parts (is_ascii_digit c) (list_all is_ascii_digit cs) h in (digit_no c p.0, counts_no cs p.1)

count_no : (cs : List ℕ) → is_count cs ≡ true → NoSlash cs
count_no [] h = tt
count_no (c ∷ cs) h =
    let p = and_parts (is_ascii_digit c && not (c == 48)) (list_all is_ascii_digit cs) h in
    let q = and_parts (is_ascii_digit c) (not (c == 48)) p.0 in
    (digit_no c q.0, counts_no cs p.1)

-- how a name begins, and what follows
data NameForm (c : ℕ) (cs : List ℕ) : Type 0 where
  letters : is_ascii_alphabetic c ≡ true → list_all is_name_byte cs ≡ true → NameForm c cs
  counted : c ≡ 95 → is_count cs ≡ true → NameForm c cs

name_form : (c : ℕ) (cs : List ℕ) → IsName (c ∷ cs) → NameForm c cs
name_form c cs h = ⊎_elim
    (λ (a : (is_ascii_alphabetic c && list_all is_name_byte cs) ≡ true).
    let p = and_parts (is_ascii_alphabetic c) (list_all is_name_byte cs) a in letters p.0 p.1)
    (λ (a : ((c == 95) && is_count cs) ≡ true).
    let p = and_parts (c == 95) (is_count cs) a in counted (eqb-true c 95 p.0) p.1)
    (or_cases (is_ascii_alphabetic c && list_all is_name_byte cs) ((c == 95) && is_count cs) h)

form_no : (c : ℕ) (cs : List ℕ) → NameForm c cs → NoSlash (c ∷ cs)
form_no c cs (letters h t) = (letter_no c h, names_no cs t)
form_no c cs (counted e t) = (λ f. absurd (omega arith), count_no cs t)

name_no : (name : List ℕ) → IsName name → NoSlash name
name_no [] h = tt
name_no (c ∷ cs) h = form_no c cs (name_form c cs h)

abbrev Digitless : ℕ → List ℕ → Type 0
Digitless n ds = NoSlash ds

item_no : (i : ℕ) → i < 2 ^ 32 → NoSlash (decimal i)
item_no i h =
    decimal_by_steps Digitless (λ n l. (λ e. absurd (omega arith), tt)) (λ n ds l g. no_slash-append ds ((48 + n % 10) ∷ []) g (λ e. absurd (omega arith), tt)) i (omega arith)

digits_no : (ds : List ℕ) → AreDigits ds → NoSlash ds
digits_no [] h = tt
digits_no (d ∷ ds) h = (hex_no d (h 0 (omega arith)), digits_no ds (λ i l. h (suc i) (omega arith)))

mark_no : NoSlash (95 ∷ [])
mark_no = (λ f. absurd (omega arith), tt)

marked_no : (text ds : List ℕ) → text ≡ ds ++ 95 ∷ [] → AreDigits ds → NoSlash text
marked_no text ds e h =
    let P : List ℕ → Type 0 = λ t. NoSlash t in
    subst P (sym e) (no_slash-append ds (95 ∷ []) (digits_no ds h) mark_no)

bits_no : (text : List ℕ) → BitsForm text → NoSlash text
bits_no text (plain h few) = digits_no text h
bits_no text (marked ds e h few m) = marked_no text ds e h

closed_no : (text : List ℕ) → NoSlash text → NoSlash (120 ∷ 123 ∷ text ++ 125 ∷ [])
closed_no text h = (λ e. absurd (omega arith), (λ e. absurd (omega arith), no_slash-append text (125 ∷ []) h (λ e. absurd (omega arith), tt)))

step_no : (s : Stride) → IsStep s → NoSlash (step_text s)
step_no (named name) h = name_no name h
step_no (item i) h = item_no i h
step_no (keyed key) h = closed_no (hex_text key) (bits_no (hex_text key) (bits-form key h))

-- ---- a step's text is that of one step

record FirstDigit (ds : List ℕ) : Type 0 where
  first : ℕ
  later : List ℕ
  whole : ds ≡ first ∷ later
  digit : is_ascii_digit first ≡ true

abbrev BeginsByDigit : ℕ → List ℕ → Type 0
BeginsByDigit n ds = FirstDigit ds

item_first : (i : ℕ) → i < 2 ^ 32 → FirstDigit (decimal i)
item_first i h =
    decimal_by_steps BeginsByDigit
    (λ n l. let t : is_ascii_digit (48 + n) ≡ true = grind (arith, nat_tests) in record { first = 48 + n; later = []; whole = refl; digit = t })
    (λ n ds l g. record {
      first = g.first;
      later = g.later ++ (48 + n % 10) ∷ [];
      whole = ap (λ (x : List ℕ). x ++ (48 + n % 10) ∷ []) g.whole;
      digit = g.digit;
    }) i (omega arith)

letter_not_digit : (c : ℕ) → is_ascii_alphabetic c ≡ true → is_ascii_digit c ≡ true → ⊥
letter_not_digit c h g = grind (arith, nat_tests)

form_not_digit : (c : ℕ) (cs : List ℕ) → NameForm c cs → is_ascii_digit c ≡ true → ⊥
form_not_digit c cs (letters h t) g = letter_not_digit c h g
form_not_digit c cs (counted e t) g = let no : is_ascii_digit 95 ≡ true = ap (λ (x : ℕ). is_ascii_digit x) (sym e) ∙ g in absurd (cc)

name_not_item : (name : List ℕ) (i : ℕ) → IsName name → i < 2 ^ 32 → name ≡ decimal i → ⊥
name_not_item [] i h g e = absurd (cc)
name_not_item (c ∷ cs) i h g e =
    let f = item_first i g in
    let same : c ∷ cs ≡ f.first ∷ f.later = e ∙ f.whole in
    let first : c ≡ f.first = cc in
    form_not_digit c cs (name_form c cs h) (ap (λ (x : ℕ). is_ascii_digit x) first ∙ f.digit)

form_not_key : (c : ℕ) (cs rest : List ℕ) → NameForm c (123 ∷ rest) → ⊥
form_not_key c cs rest (letters h t) = absurd (cc)
form_not_key c cs rest (counted e t) = absurd (cc)

name_not_key : (name rest : List ℕ) → IsName name → name ≡ 120 ∷ 123 ∷ rest → ⊥
name_not_key name rest h e =
    let P : List ℕ → Type 0 = λ t. IsName t in
    form_not_key 120 [] rest (name_form 120 (123 ∷ rest) (subst P e h))

item_not_key : (i : ℕ) (rest : List ℕ) → i < 2 ^ 32 → decimal i ≡ 120 ∷ rest → ⊥
item_not_key i rest h e =
    let f = item_first i h in
    let same : f.first ∷ f.later ≡ 120 ∷ rest = sym f.whole ∙ e in
    let first : f.first ≡ 120 = cc in
    let no : is_ascii_digit 120 ≡ true = ap (λ (x : ℕ). is_ascii_digit x) (sym first) ∙ f.digit in
    absurd (cc)

tail_is : (a b : List ℕ) (x y : ℕ) → x ∷ y ∷ a ≡ x ∷ y ∷ b → a ≡ b
tail_is a b x y e = cc

step_unique : (s t : Stride) → IsStep s → IsStep t → step_text s ≡ step_text t → s ≡ t
step_unique (named a) (named b) h g e = ap named e
step_unique (named a) (item j) h g e = absurd (name_not_item a j h g e)
step_unique (named a) (keyed k) h g e = absurd (name_not_key a (hex_text k ++ 125 ∷ []) h e)
step_unique (item i) (named b) h g e = absurd (name_not_item b i g h (sym e))
step_unique (item i) (item j) h g e = ap item (decimal_injective i j (omega arith) (omega arith) e)
step_unique (item i) (keyed k) h g e = absurd (item_not_key i (123 ∷ hex_text k ++ 125 ∷ []) h e)
step_unique (keyed k) (named b) h g e = absurd (name_not_key b (hex_text k ++ 125 ∷ []) g (sym e))
step_unique (keyed k) (item j) h g e = absurd (item_not_key j (123 ∷ hex_text k ++ 125 ∷ []) g (sym e))
step_unique (keyed k) (keyed l) h g e =
    ap keyed (hex_text-injective k l h.0 g.0
    (append_cancel_right (hex_text k) (hex_text l) (125 ∷ []) (tail_is (hex_text k ++ 125 ∷ []) (hex_text l ++ 125 ∷ []) 120 123 e)))

-- ---- a text is cut at each '/'

record Same (u v : List ℕ) (a b : List Stride) : Type 0 where
  steps : u ≡ v
  later : steps_text a ≡ steps_text b

no_byte : (c : ℕ) (cs : List ℕ) (a : List Stride) → c ≢ 47 → c ∷ cs ≡ steps_text a → ⊥
no_byte c cs [] n e = absurd (cc)
no_byte c cs (s ∷ a) n e = n (let f : c ≡ 47 = cc in f)

head_is : (c d : ℕ) (cs ds : List ℕ) → c ∷ cs ≡ d ∷ ds → c ≡ d
head_is c d cs ds e = cc

rest_is : (c d : ℕ) (cs ds : List ℕ) → c ∷ cs ≡ d ∷ ds → cs ≡ ds
rest_is c d cs ds e = cc

split : (u v : List ℕ) (a b : List Stride) → NoSlash u → NoSlash v → u ++ steps_text a ≡ v ++ steps_text b → Same u v a b
split [] [] a b h g e = record { steps = refl; later = e }
split [] (d ∷ v) a b h g e = absurd (no_byte d (v ++ steps_text b) a g.0 (sym e))
split (c ∷ u) [] a b h g e = absurd (no_byte c (u ++ steps_text a) b h.0 e)
split (c ∷ u) (d ∷ v) a b h g e =
    let s = split u v a b h.1 g.1 (rest_is c d (u ++ steps_text a) (v ++ steps_text b) e) in
    let same : c ≡ d = head_is c d (u ++ steps_text a) (v ++ steps_text b) e in
    record { steps = ap (λ (x : ℕ). x ∷ u) same ∙ ap (λ (x : List ℕ). d ∷ x) s.steps; later = s.later }

steps_unique : (a b : List Stride) → AreSteps a → AreSteps b → steps_text a ≡ steps_text b → a ≡ b
steps_unique [] [] h g e = refl
steps_unique [] (t ∷ b) h g e = absurd (cc)
steps_unique (s ∷ a) [] h g e = absurd (cc)
steps_unique (s ∷ a) (t ∷ b) h g e =
    let p = split (step_text s) (step_text t) a b (step_no s h.0) (step_no t g.0) (rest_is 47 47 (step_text s ++ steps_text a) (step_text t ++ steps_text b) e) in
    let one : s ≡ t = step_unique s t h.0 g.0 p.steps in
    let more : a ≡ b = steps_unique a b h.1 g.1 p.later in
    ap (λ (x : Stride). x ∷ a) one ∙ ap (λ (x : List Stride). t ∷ x) more

some_byte : (s : Stride) → IsStep s → step_text s ≡ [] → ⊥
some_byte (named []) h e = absurd (cc)
some_byte (named (c ∷ cs)) h e = absurd (cc)
some_byte (item i) h e = let f = item_first i h in let no : f.first ∷ f.later ≡ [] = sym f.whole ∙ e in absurd (cc)
some_byte (keyed k) h e = absurd (cc)

append_none : (xs ys : List ℕ) → [] ≡ xs ++ ys → xs ≡ []
append_none [] ys e = refl
append_none (x ∷ xs) ys e = absurd (cc)

path_unique : (a b : List Stride) → AreSteps a → AreSteps b → path_text a ≡ path_text b → a ≡ b
path_unique [] [] h g e = refl
path_unique [] (t ∷ b) h g e =
    absurd (some_byte t g.0 (append_none (step_text t) (steps_text b) (rest_is 47 47 [] (step_text t ++ steps_text b) e)))
path_unique (s ∷ a) [] h g e =
    absurd (some_byte s h.0 (append_none (step_text s) (steps_text a) (rest_is 47 47 [] (step_text s ++ steps_text a) (sym e))))
path_unique (s ∷ a) (t ∷ b) h g e = steps_unique (s ∷ a) (t ∷ b) h g e

pub one_path : (text : List ℕ) (a b : List Stride) → PathWrites text a → PathWrites text b → a ≡ b
one_path text a b h g = path_unique a b h.0 g.0 (sym h.1 ∙ g.1)

-- ---- one bad place, and none in a path

goes-take : (n : ℕ) (text : List ℕ) → GoesOn text → GoesOn (take n text)
goes-take n text g =
    let e : text ++ g.0 ≡ take n text ++ (drop n text ++ g.0) =
    ap (λ (l : List ℕ). l ++ g.0) (sym (take-append-drop n text)) ∙ append_assoc (take n text) (drop n text) g.0 in
    (drop n text ++ g.0, g.1, (g.2.0, sym e ∙ g.2.1))

goes_whole : (text : List ℕ) (steps : List Stride) → PathWrites text steps → GoesOn text
goes_whole text steps w = ([], steps, (w.0, append-nil text ∙ w.1))

pub not_both : (text : List ℕ) (steps : List Stride) (place : ℕ) → PathWrites text steps → IsBadPath text place → ⊥
not_both text steps place w b =
    let within = b.within in
    ⊎_elim
    (λ (l : place < length text). b.stuck l (goes-take (place + 1) text (goes_whole text steps w)))
    (λ (l : length text ≤ place). b.unfinished (omega arith) steps w)
    (cases_lt place (length text))

earlier : (text : List ℕ) (p q : ℕ) → IsBadPath text p → IsBadPath text q → p < q → ⊥
earlier text p q a b l =
    let within = b.within in
    let P : List ℕ → Type 0 = λ t. GoesOn t in
    a.stuck (omega arith) (subst P (take-take (p + 1) q text (omega arith)) (goes-take (p + 1) (take q text) b.before))

pub one_place : (text : List ℕ) (p q : ℕ) → IsBadPath text p → IsBadPath text q → p ≡ q
one_place text p q a b = ⊎_elim
    (λ (l : p < q). absurd (earlier text p q a b l))
    (λ (l : q ≤ p). ⊎_elim
    (λ (m : q < p). absurd (earlier text q p b a m))
    (λ (m : p ≤ q). omega arith)
    (cases_lt q p))
    (cases_lt p q)

-- ---- what an answer that holds says of the others

abbrev Answers : {X : Type 0} → List ℕ → (X → List Stride) → Result X PathError → Type 0
Answers text steps_of r = IfPathAnswered r (λ x. PathWrites text (steps_of x)) (λ place. IsBadPath text place)

pub error_path : {X Y : Type 0} (text : List ℕ) (steps_of : X → List Stride) (others_of : Y → List Stride) (e : PathError)
    → Answers text steps_of (Err e) → (steps : List Stride) → PathWrites text steps
    → IfPathAnswered {X = Y} (Err e) (λ y. others_of y ≡ steps) (λ _. ⊥)
error_path text steps_of others_of (BadPath place) h steps w = not_both text steps place w h
error_path text steps_of others_of NoMemory h steps w = tt

pub error_bad : {X : Type 0} (Y : Type 0) (text : List ℕ) (steps_of : X → List Stride) (e : PathError) → Answers text steps_of (Err e)
    → (place : ℕ) → IsBadPath text place → IfPathAnswered {X = Y} (Err e) (λ _. ⊥) (λ found. found ≡ place)
error_bad Y text steps_of (BadPath found) h place b = one_place text found place h b
error_bad Y text steps_of NoMemory h place b = tt
