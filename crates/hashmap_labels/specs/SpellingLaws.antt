-- A label has one spelling, the shortest.
use Rattle.std.proofs.Common.{◌≡◌, ◌⊎◌, ◌↔◌, ℕ, zero, suc, ◌+◌, ◌-◌, ◌*◌, ◌<◌, ◌≤◌, Bool, true, false, ◌&&◌, cond, List, [], ◌∷◌, ◌++◌, length, replicate, Result, Ok, Err, refl, sym, ap, ◌∙◌, subst, arith, nat_lt, nat_eq, inl, inr, lit<, length-append}
use Rattle.std.proofs.lemmas.Bool.{eqb-true, eq-eqb, ltb-true, ltb-false}
use Rattle.std.proofs.lemmas.List.{length-replicate}
use Rattle.bit_slice.specs.Bits.{AreBits, bit_number, bit_length, spelled}
use Rattle.bit_slice.specs.BitLists.{length-spelled, AreBits-spelled, AreBits-append}
use Rattle.bit_slice.specs.BitLengths.{bit_length-above}
use Rattle.hashmap_labels.specs.Labels.{all_are, all_equal, required_form, IsForm, IsLabel, EndsEarly, IsTooLong, HasOtherForm}
use Rattle.hashmap_labels.specs.Reading.{read_label}
use Rattle.hashmap_labels.specs.ReadingLaws.{label-exactly, short-exactly, long-exactly, form-exactly}
use Rattle.hashmap_labels.specs.Steps.{same_ok}
use Rattle.hashmap_labels.specs.declared.forms.LabelForm.{LabelForm}
use Rattle.hashmap_labels.specs.declared.forms.LabelForm.TheVariants.{Short, Long, Same}
use Rattle.hashmap_labels.specs.declared.forms.Forms.{Forms}
use Rattle.hashmap_labels.specs.declared.forms.Forms.TheVariants.{Required}
use Rattle.hashmap_labels.specs.declared.labels.LabelError.{LabelError}
use Rattle.hashmap_labels.specs.declared.labels.LabelError.TheVariants as why

-- ---- equal bits

are-replicated : (m b : ℕ) → all_are b (replicate m b) ≡ true
are-replicated zero b = refl
are-replicated (suc m) b = ap (λ x. x && all_are b (replicate m b)) (eq-eqb b b refl) ∙ are-replicated m b

pub equal-replicated : (m b : ℕ) → all_equal (replicate m b) ≡ true
equal-replicated zero b = refl
equal-replicated (suc m) b = are-replicated m b

replicated-are : (b : ℕ) (bits : List ℕ) → all_are b bits ≡ true → bits ≡ replicate (length bits) b
replicated-are b [] e = refl
replicated-are b (c ∷ bits) e = go (nat_eq c b) refl e (replicated-are b bits)
  where
    go : (x : Bool) → nat_eq c b ≡ x → (x && all_are b bits) ≡ true
        → (all_are b bits ≡ true → bits ≡ replicate (length bits) b) → c ∷ bits ≡ b ∷ replicate (length bits) b
    go true f g ih = λ i. eqb-true c b f i ∷ ih g i
    go false f g ih = cc

replicated-equal : (bits : List ℕ) → AreBits bits → all_equal bits ≡ true
    → (b : Bool) × (bits ≡ replicate (length bits) (bit_number b))
replicated-equal [] h e = (false, refl)
replicated-equal (zero ∷ bits) h e = (false, ap (λ (l : List ℕ). 0 ∷ l) (replicated-are 0 bits e))
replicated-equal (suc zero ∷ bits) h e = (true, ap (λ (l : List ℕ). 1 ∷ l) (replicated-are 1 bits e))
replicated-equal (suc (suc b) ∷ bits) h e = absurd (let low = h.0 in omega (arith, low))

-- ---- each list of bits has a label

form-of_tests : (a b c d : Bool) → cond (a && b && c) Same (cond d Long Short) ≡ Same → b ≡ true
form-of_tests true true c d e = refl
form-of_tests true false c true e = cc
form-of_tests true false c false e = cc
form-of_tests false b c true e = cc
form-of_tests false b c false e = cc

form-written : (f : LabelForm) (k : ℕ) (bits rest : List ℕ) → AreBits bits → (f ≡ Same → all_equal bits ≡ true)
    → (s : List ℕ) × IsForm f k bits s rest
form-written Short k bits rest h e = (_, refl)
form-written Long k bits rest h e = (_, refl)
form-written Same k bits rest h e = let c = replicated-equal bits h (e refl) in (_, (c.0, c.1, refl))

pub has_spelling : (n : ℕ) (bits rest : List ℕ) → AreBits bits → length bits ≤ n
    → (s : List ℕ) × IsLabel Required n bits s rest
has_spelling n bits rest h l =
    let f = form-written (required_form n bits) (bit_length n) bits rest h
    (form-of_tests (nat_lt 1 (length bits)) (all_equal bits) (nat_lt (bit_length n) (2 * length bits - 1)) (nat_lt (bit_length n) (length bits))) in
    (f.0, (required_form n bits, l, refl, f.1))

-- ---- one spelling

first-bit : List ℕ → ℕ
first-bit [] = 0
first-bit (b ∷ bits) = b

first-replicated : (bits : List ℕ) (b m : ℕ) → length bits ≡ suc m → bits ≡ replicate (length bits) b
    → b ≡ first-bit bits
unfolding first-bit
first-replicated [] b m e c = absurd (omega (arith, e))
first-replicated (x ∷ bits) b m e c = sym (ap first-bit c)

form-once : (f : LabelForm) (k : ℕ) (bits s t rest : List ℕ) → (f ≡ Same → (m : ℕ) × (length bits ≡ suc m))
    → IsForm f k bits s rest → IsForm f k bits t rest → s ≡ t
form-once Short k bits s t rest h a b = a ∙ sym b
form-once Long k bits s t rest h a b = a ∙ sym b
form-once Same k bits s t rest h a b =
    let m = h refl in
    a.2
    ∙ ap (λ (x : ℕ). 1 ∷ (1 ∷ (x ∷ (spelled k (length bits) ++ rest)))) (first-replicated bits (bit_number a.0) m.0 m.1 a.1 ∙ sym (first-replicated bits (bit_number b.0) m.0 m.1 b.1))
    ∙ sym b.2

same-has_bits : (n : ℕ) (bits : List ℕ) → required_form n bits ≡ Same → (m : ℕ) × (length bits ≡ suc m)
same-has_bits n [] e = absurd (go (nat_lt (bit_length n) 0) e)
  where
    go : (b : Bool) → cond b Long Short ≡ Same → ⊥
    go true e = cc
    go false e = cc
same-has_bits n (x ∷ bits) e = (length bits, refl)

in-required_form : (n : ℕ) (bits s rest : List ℕ) → IsLabel Required n bits s rest
    → IsForm (required_form n bits) (bit_length n) bits s rest
in-required_form n bits s rest h = let P : LabelForm → Type 0 = λ f. IsForm f (bit_length n) bits s rest in subst P h.2 h.3

pub one_spelling : (n : ℕ) (bits s t rest : List ℕ) → IsLabel Required n bits s rest → IsLabel Required n bits t rest
    → s ≡ t
one_spelling n bits s t rest a b =
    form-once (required_form n bits) (bit_length n) bits s t rest (same-has_bits n bits) (in-required_form n bits s rest a) (in-required_form n bits t rest b)

-- ---- one label

pub one_label : (forms : Forms) (n : ℕ) (s bits rest more after : List ℕ) → IsLabel forms n bits s rest
    → IsLabel forms n more s after → (bits ≡ more) × (rest ≡ after)
one_label forms n s bits rest more after a b =
    let p = same_ok (bits, rest) (more, after) (sym ((label-exactly forms n s bits rest).1 a) ∙ (label-exactly forms n s more after).1 b) in
    ((λ i. (p i).0), (λ i. (p i).1))

-- ---- a label, or one refusal

pub label_or_refusal : (n : ℕ) (s : List ℕ)
    → ((bits : List ℕ) × (rest : List ℕ) × IsLabel Required n bits s rest) ⊎ (EndsEarly n s ⊎ (IsTooLong n s ⊎ HasOtherForm n s))
label_or_refusal n s = go (read_label Required n s) refl
  where
    go : (r : Result (List ℕ × List ℕ) LabelError) → read_label Required n s ≡ r
        → ((bits : List ℕ) × (rest : List ℕ) × IsLabel Required n bits s rest) ⊎ (EndsEarly n s ⊎ (IsTooLong n s ⊎ HasOtherForm n s))
    go (Ok x) e = inl (x.0, x.1, (label-exactly Required n s x.0 x.1).0 e)
    go (Err why.LabelShort) e = inr (inl ((short-exactly Required n s).0 e))
    go (Err why.LabelLong) e = inr (inr (inl ((long-exactly Required n s).0 e)))
    go (Err why.LabelForm) e = inr (inr (inr ((form-exactly n s).0 e)))

-- ---- sizes

-- how many bits the label of so many bits takes in a form, where a length takes k bits
abbrev pub size : LabelForm → ℕ → ℕ → ℕ
size Short k len = 2 * len + 2
size Long k len = 2 + k + len
size Same k len = 3 + k

pub has_size : (f : LabelForm) (k : ℕ) (bits s rest : List ℕ) → IsForm f k bits s rest
    → length s ≡ size f k (length bits) + length rest
has_size Short k bits s rest h =
    let e = ap (length {A = ℕ}) h in
    let a = length-append {A = ℕ} (replicate (length bits) 1) (0 ∷ (bits ++ rest)) in
    let r : length {A = ℕ} (replicate (length bits) 1) ≡ length bits = length-replicate (length bits) 1 in
    let b = length-append bits rest in
    omega (arith, e, a, r, b)
has_size Long k bits s rest h =
    let e = ap (length {A = ℕ}) h in
    let a = length-append (spelled k (length bits)) (bits ++ rest) in
    let r : length (spelled k (length bits)) ≡ k = length-spelled k (length bits) in
    let b = length-append bits rest in
    omega (arith, e, a, r, b)
has_size Same k bits s rest h =
    let e = ap (length {A = ℕ}) h.2 in
    let a = length-append (spelled k (length bits)) rest in
    let r : length (spelled k (length bits)) ≡ k = length-spelled k (length bits) in
    omega (arith, e, a, r)

-- the order of the forms
abbrev pub rank : LabelForm → ℕ
rank Short = 0
rank Long = 1
rank Same = 2

-- no form is shorter, and an earlier one is longer
abbrev pub IsBest : LabelForm → LabelForm → ℕ → ℕ → Type 0
IsBest best f k len = (size best k len ≤ size f k len) × (rank f < rank best → size best k len < size f k len)

best-of_tests : (f : LabelForm) (k len : ℕ) (a b c d : Bool) → nat_lt 1 len ≡ a → nat_lt k (2 * len - 1) ≡ c
    → nat_lt k len ≡ d → (f ≡ Same → b ≡ true) → (1 ≤ len → 1 ≤ k)
    → IsBest (cond (a && b && c) Same (cond d Long Short)) f k len
best-of_tests Short k len true true true d ea ec ed h l = let p = ltb-true 1 len ea in let q = ltb-true k (2 * len - 1) ec in (omega (arith, p, q), λ w. omega (arith, p, q))
best-of_tests Long k len true true true d ea ec ed h l = let p = ltb-true 1 len ea in (omega (arith, p), λ w. omega (arith, p))
best-of_tests Same k len true true true d ea ec ed h l = (omega arith, λ w. absurd (omega (arith, w)))
best-of_tests Short k len true true false true ea ec ed h l = let p = ltb-true k len ed in (omega (arith, p), λ w. omega (arith, p))
best-of_tests Long k len true true false true ea ec ed h l = (omega arith, λ w. absurd (omega (arith, w)))
best-of_tests Same k len true true false true ea ec ed h l = let p = ltb-true k len ed in let q = ltb-false k (2 * len - 1) ec in let r = ltb-true 1 len ea in absurd (omega (arith, p, q, r))
best-of_tests Short k len true true false false ea ec ed h l = (omega arith, λ w. absurd (omega (arith, w)))
best-of_tests Long k len true true false false ea ec ed h l = let p = ltb-false k len ed in (omega (arith, p), λ w. absurd (omega (arith, w)))
best-of_tests Same k len true true false false ea ec ed h l = let q = ltb-false k (2 * len - 1) ec in let r = ltb-true 1 len ea in (omega (arith, q, r), λ w. absurd (omega (arith, w)))
best-of_tests Short k len true false c true ea ec ed h l = let p = ltb-true k len ed in (omega (arith, p), λ w. omega (arith, p))
best-of_tests Long k len true false c true ea ec ed h l = (omega arith, λ w. absurd (omega (arith, w)))
best-of_tests Same k len true false c true ea ec ed h l = absurd (let e = h refl in cc)
best-of_tests Short k len true false c false ea ec ed h l = (omega arith, λ w. absurd (omega (arith, w)))
best-of_tests Long k len true false c false ea ec ed h l = let p = ltb-false k len ed in (omega (arith, p), λ w. absurd (omega (arith, w)))
best-of_tests Same k len true false c false ea ec ed h l = absurd (let e = h refl in cc)
best-of_tests Short k len false b c true ea ec ed h l = let p = ltb-true k len ed in (omega (arith, p), λ w. omega (arith, p))
best-of_tests Long k len false b c true ea ec ed h l = (omega arith, λ w. absurd (omega (arith, w)))
best-of_tests Same k len false b c true ea ec ed h l =
    let p = ltb-true k len ed in let q = ltb-false 1 len ea in let r = l (omega (arith, p)) in absurd (omega (arith, p, q, r))
best-of_tests Short k len false b c false ea ec ed h l = (omega arith, λ w. absurd (omega (arith, w)))
best-of_tests Long k len false b c false ea ec ed h l = let p = ltb-false k len ed in (omega (arith, p), λ w. absurd (omega (arith, w)))
best-of_tests Same k len false b c false ea ec ed h l =
    let p = ltb-false k len ed in let q = ltb-false 1 len ea in (omega (arith, p, q), λ w. absurd (omega (arith, w)))

equal-of_form : (f : LabelForm) (k : ℕ) (bits s rest : List ℕ) → IsForm f k bits s rest → f ≡ Same
    → all_equal bits ≡ true
equal-of_form Short k bits s rest h e = cc
equal-of_form Long k bits s rest h e = cc
equal-of_form Same k bits s rest h e = ap all_equal h.1 ∙ equal-replicated (length bits) (bit_number h.0)

pub is_best : (n : ℕ) (f : LabelForm) (bits s rest : List ℕ) → length bits ≤ n → IsForm f (bit_length n) bits s rest
    → IsBest (required_form n bits) f (bit_length n) (length bits)
is_best n f bits s rest l h =
    best-of_tests f (bit_length n) (length bits) (nat_lt 1 (length bits)) (all_equal bits) (nat_lt (bit_length n) (2 * length bits - 1)) (nat_lt (bit_length n) (length bits)) refl refl refl
    (equal-of_form f (bit_length n) bits s rest h)
    (λ some. let p : 0 < bit_length n = bit_length-above n 0 (omega (arith, some, l)) in p)

-- ---- bits alone

AreBits-replicate : (m : ℕ) (b : Bool) → AreBits (replicate m (bit_number b))
AreBits-replicate zero b = tt
AreBits-replicate (suc m) true = (lit< tt, AreBits-replicate m true)
AreBits-replicate (suc m) false = (lit< tt, AreBits-replicate m false)

AreBits-parts : (a b : List ℕ) → AreBits (a ++ b) → AreBits a × AreBits b
AreBits-parts [] b h = (tt, h)
AreBits-parts (x ∷ a) b h = let r = AreBits-parts a b h.1 in ((h.0, r.0), r.1)

one-is_bit : (b : Bool) → bit_number b < 2
one-is_bit true = lit< tt
one-is_bit false = lit< tt

form-bits : (f : LabelForm) (k : ℕ) (bits s rest : List ℕ) → IsForm f k bits s rest
    → AreBits s ↔ (AreBits bits × AreBits rest)
form-bits Short k bits s rest h = (parts, whole)
  where
    parts : AreBits s → AreBits bits × AreBits rest
    parts g = let P : List ℕ → Type 0 = λ t. AreBits t in AreBits-parts bits rest (AreBits-parts (replicate (length bits) 1) (0 ∷ (bits ++ rest)) (subst P h g).1).1.1

    whole : AreBits bits × AreBits rest → AreBits s
    whole g = let P : List ℕ → Type 0 = λ t. AreBits t in subst P (sym h) (lit< tt, AreBits-append (replicate (length bits) 1) (0 ∷ (bits ++ rest)) (AreBits-replicate (length bits) true) (lit< tt, AreBits-append bits rest g.0 g.1))
form-bits Long k bits s rest h = (parts, whole)
  where
    parts : AreBits s → AreBits bits × AreBits rest
    parts g = let P : List ℕ → Type 0 = λ t. AreBits t in AreBits-parts bits rest (AreBits-parts (spelled k (length bits)) (bits ++ rest) (subst P h g).1.1).1

    whole : AreBits bits × AreBits rest → AreBits s
    whole g = let P : List ℕ → Type 0 = λ t. AreBits t in subst P (sym h) (lit< tt, (lit< tt, AreBits-append (spelled k (length bits)) (bits ++ rest) (AreBits-spelled k (length bits)) (AreBits-append bits rest g.0 g.1)))
form-bits Same k bits s rest h = (parts, whole)
  where
    parts : AreBits s → AreBits bits × AreBits rest
    parts g = let P : List ℕ → Type 0 = λ t. AreBits t in
        (subst P (sym h.1) (AreBits-replicate (length bits) h.0), (AreBits-parts (spelled k (length bits)) rest (subst P h.2 g).1.1.1).1)

    whole : AreBits bits × AreBits rest → AreBits s
    whole g = let P : List ℕ → Type 0 = λ t. AreBits t in
        subst P (sym h.2) (lit< tt, (lit< tt, (one-is_bit h.0, AreBits-append (spelled k (length bits)) rest (AreBits-spelled k (length bits)) g.1)))

pub label_bits : (forms : Forms) (n : ℕ) (bits s rest : List ℕ) → IsLabel forms n bits s rest
    → AreBits s ↔ (AreBits bits × AreBits rest)
label_bits forms n bits s rest h = form-bits h.0 (bit_length n) bits s rest h.3
