-- What is read is what the relations say, both ways.
use Rattle.std.proofs.Common.{◌≡◌, ◌≢◌, ◌⊎◌, ◌↔◌, ℕ, zero, suc, ◌-◌, ◌^◌, ◌<◌, ◌≤◌, Bool, true, false, cond, List, [], ◌∷◌, ◌++◌, append_assoc, length, take, drop, replicate, Option, Some, None, Result, Ok, Err, refl, sym, ap, ◌∙◌, subst, arith, nat_lt, inl, inr, length-append}
use Rattle.std.proofs.lemmas.List.{take-append-drop, length-take-le, take_at, drop_at, length-replicate}
use Rattle.std.proofs.lemmas.Bool.{ltb-true, ltb-false, lt-ltb, le-ltb}
use Rattle.bit_slice.specs.Bits.{AreBits, bit_number, bit_length, number_of, spelled}
use Rattle.bit_slice.specs.BitLists.{length-spelled, number_of-spelled, spelled-number_of, AreBits-spelled, number_of-bound}
use Rattle.bit_slice.specs.BitLengths.{bit_length-below}
use Rattle.hashmap_labels.specs.Labels.{IsForm, MayHave, IsLabel, HasLength, HasFewBits, EndsEarly, IsTooLong, HasOtherForm, required_form}
use Rattle.hashmap_labels.specs.LengthLaws.{AreBits-are_bits, are_bits-AreBits}
use Rattle.hashmap_labels.specs.Reading.{are_bits, one_more, ones_of, read_length, head_of, read_head, Found, first_bits, read_bits, at_head, read_any, same_form, may_have, judged, read_label}
use Rattle.hashmap_labels.specs.Steps.{when_true, when_false, same_ok, same_some}
use Rattle.hashmap_labels.specs.declared.forms.LabelForm.{LabelForm}
use Rattle.hashmap_labels.specs.declared.forms.LabelForm.TheVariants.{Short, Long, Same}
use Rattle.hashmap_labels.specs.declared.forms.Forms.{Forms}
use Rattle.hashmap_labels.specs.declared.forms.Forms.TheVariants.{Required, Every}
use Rattle.hashmap_labels.specs.declared.heads.Head.{Head}
use Rattle.hashmap_labels.specs.declared.labels.LabelError.{LabelError}
use Rattle.hashmap_labels.specs.declared.labels.LabelError.TheVariants as why

-- ---- lengths

ones-sound : (s : List ℕ) (r : ℕ × List ℕ) → ones_of s ≡ Some r → s ≡ replicate r.0 1 ++ (0 ∷ r.1)
ones-sound [] r e = cc
ones-sound (zero ∷ s) r e =
    let P : ℕ × List ℕ → Type 0 = λ r. 0 ∷ s ≡ replicate r.0 1 ++ (0 ∷ r.1) in
    subst P (same_some (0, s) r e) refl
ones-sound (suc zero ∷ s) r e = go (ones_of s) (ones-sound s) refl e
  where
    go : (o : Option (ℕ × List ℕ)) → ((q : ℕ × List ℕ) → ones_of s ≡ Some q → s ≡ replicate q.0 1 ++ (0 ∷ q.1))
        → ones_of s ≡ o → one_more o ≡ Some r → 1 ∷ s ≡ replicate r.0 1 ++ (0 ∷ r.1)
    go None ih f e = cc
    go (Some q) ih f e =
        let P : ℕ × List ℕ → Type 0 = λ r. 1 ∷ s ≡ replicate r.0 1 ++ (0 ∷ r.1) in
        let rest = ih q f in
        subst P (same_some (suc q.0, q.1) r e) (ap (λ (l : List ℕ). 1 ∷ l) rest)
ones-sound (suc (suc b) ∷ s) r e = cc

ones-complete : (m : ℕ) (s : List ℕ) → ones_of (replicate m 1 ++ (0 ∷ s)) ≡ Some (m, s)
ones-complete zero s = refl
ones-complete (suc m) s = ap one_more (ones-complete m s)

length-sound : (k : ℕ) (s : List ℕ) (r : ℕ × List ℕ) → read_length k s ≡ Some r
    → (r.0 < 2 ^ k) × (s ≡ spelled k r.0 ++ r.1)
length-sound k s r e = go (nat_lt (length s) k) (are_bits (take k s)) refl refl e
  where
    found : k ≤ length s → AreBits (take k s)
        → (number_of (take k s) < 2 ^ k) × (s ≡ spelled k (number_of (take k s)) ++ drop k s)
    found l h =
        let n : length (take k s) ≡ k = length-take-le k s l in
        let P : ℕ → Type 0 = λ m. number_of (take k s) < 2 ^ m in (
          subst P n (number_of-bound (take k s) h),
          sym (ap (λ (t : List ℕ). t ++ drop k s) (ap (λ (m : ℕ). spelled m (number_of (take k s))) (sym n) ∙ spelled-number_of (take k s) h) ∙ take-append-drop k s),
        )

    go : (a b : Bool) → nat_lt (length s) k ≡ a → are_bits (take k s) ≡ b
        → cond {A = Option (ℕ × List ℕ)} a None (cond {A = Option (ℕ × List ℕ)} b (Some (number_of (take k s), drop k s)) None) ≡ Some r
        → (r.0 < 2 ^ k) × (s ≡ spelled k r.0 ++ r.1)
    go true b f g e = cc
    go false false f g e = cc
    go false true f g e =
        let P : ℕ × List ℕ → Type 0 = λ r. (r.0 < 2 ^ k) × (s ≡ spelled k r.0 ++ r.1) in
        subst P (same_some (number_of (take k s), drop k s) r e) (found (ltb-false (length s) k f) (AreBits-are_bits (take k s) g))

enough : (a b : List ℕ) (m : ℕ) → length a ≡ m → m ≤ length (a ++ b)
enough a b m l = omega (arith, l, length-append a b)

length-complete : (k m : ℕ) (s : List ℕ) → m < 2 ^ k → read_length k (spelled k m ++ s) ≡ Some (m, s)
length-complete k m s h =
    let l = length-spelled k m in
    when_false (nat_lt (length (spelled k m ++ s)) k) _ _ (le-ltb (length (spelled k m ++ s)) k (enough (spelled k m) s k l))
    ∙ when_true (are_bits (take k (spelled k m ++ s))) _ _ (ap are_bits (take_at (spelled k m) s k l) ∙ are_bits-AreBits (spelled k m) (AreBits-spelled k m))
    ∙ (λ i. Some ((ap number_of (take_at (spelled k m) s k l) ∙ number_of-spelled k m h) i, drop_at (spelled k m) s k l i))

-- ---- a form and a length

-- s is a form, the bit that it repeats, a length and then the rest
abbrev HasHead : ℕ → List ℕ → LabelForm → Bool → ℕ → List ℕ → Type 0
HasHead k s Short b m rest = (b ≡ false) × (s ≡ 0 ∷ (replicate m 1 ++ (0 ∷ rest)))
HasHead k s Long b m rest = (b ≡ false) × (m < 2 ^ k) × (s ≡ 1 ∷ (0 ∷ (spelled k m ++ rest)))
HasHead k s Same b m rest = (m < 2 ^ k) × (s ≡ 1 ∷ (1 ∷ (bit_number b ∷ (spelled k m ++ rest))))

abbrev made : LabelForm → Bool → ℕ × List ℕ → Head
made f b r = record { form = f; repeated = b; len = r.0; rest = r.1 }

head_of-some : (f : LabelForm) (b : Bool) (o : Option (ℕ × List ℕ)) (h : Head) → head_of f b o ≡ Some h
    → (r : ℕ × List ℕ) × (o ≡ Some r) × (made f b r ≡ h)
head_of-some f b None h e = cc
head_of-some f b (Some r) h e = (r, refl, same_some (made f b r) h e)

head-sound : (k : ℕ) (s : List ℕ) (h : Head) → read_head k s ≡ Some h → HasHead k s h.form h.repeated h.len h.rest
head-sound k [] h e = cc
head-sound k (zero ∷ s) h e =
    let r = head_of-some Short false (ones_of s) h e in
    let P : Head → Type 0 = λ h. HasHead k (0 ∷ s) h.form h.repeated h.len h.rest in
    subst P r.2 (refl, ap (λ (t : List ℕ). 0 ∷ t) (ones-sound s r.0 r.1))
head-sound k (suc (suc a) ∷ s) h e = cc
head-sound k (suc zero ∷ []) h e = cc
head-sound k (suc zero ∷ zero ∷ s) h e =
    let r = head_of-some Long false (read_length k s) h e in
    let l = length-sound k s r.0 r.1 in
    let P : Head → Type 0 = λ h. HasHead k (1 ∷ (0 ∷ s)) h.form h.repeated h.len h.rest in
    subst P r.2 (refl, l.0, ap (λ (t : List ℕ). 1 ∷ (0 ∷ t)) l.1)
head-sound k (suc zero ∷ suc (suc a) ∷ s) h e = cc
head-sound k (suc zero ∷ suc zero ∷ []) h e = cc
head-sound k (suc zero ∷ suc zero ∷ zero ∷ s) h e =
    let r = head_of-some Same false (read_length k s) h e in
    let l = length-sound k s r.0 r.1 in
    let P : Head → Type 0 = λ h. HasHead k (1 ∷ (1 ∷ (0 ∷ s))) h.form h.repeated h.len h.rest in
    subst P r.2 (l.0, ap (λ (t : List ℕ). 1 ∷ (1 ∷ (0 ∷ t))) l.1)
head-sound k (suc zero ∷ suc zero ∷ suc zero ∷ s) h e =
    let r = head_of-some Same true (read_length k s) h e in
    let l = length-sound k s r.0 r.1 in
    let P : Head → Type 0 = λ h. HasHead k (1 ∷ (1 ∷ (1 ∷ s))) h.form h.repeated h.len h.rest in
    subst P r.2 (l.0, ap (λ (t : List ℕ). 1 ∷ (1 ∷ (1 ∷ t))) l.1)
head-sound k (suc zero ∷ suc zero ∷ suc (suc a) ∷ s) h e = cc

head-complete : (k : ℕ) (s : List ℕ) (f : LabelForm) (b : Bool) (m : ℕ) (rest : List ℕ) → HasHead k s f b m rest
    → read_head k s ≡ Some (made f b (m, rest))
head-complete k s Short b m rest h =
    ap (read_head k) h.1 ∙ ap (head_of Short false) (ones-complete m rest) ∙ ap (λ (c : Bool). Some (made Short c (m, rest))) (sym h.0)
head-complete k s Long b m rest h =
    ap (read_head k) h.2 ∙ ap (head_of Long false) (length-complete k m rest h.1) ∙ ap (λ (c : Bool). Some (made Long c (m, rest))) (sym h.0)
head-complete k s Same false m rest h = ap (read_head k) h.1 ∙ ap (head_of Same false) (length-complete k m rest h.0)
head-complete k s Same true m rest h = ap (read_head k) h.1 ∙ ap (head_of Same true) (length-complete k m rest h.0)

length-of_head : (k : ℕ) (s : List ℕ) (f : LabelForm) (b : Bool) (m : ℕ) (rest : List ℕ) → HasHead k s f b m rest
    → HasLength f k m s rest
length-of_head k s Short b m rest h = h.1
length-of_head k s Long b m rest h = (h.1, h.2)
length-of_head k s Same b m rest h = (b, h.0, h.1)

head-of_length : (k : ℕ) (s : List ℕ) (f : LabelForm) (m : ℕ) (rest : List ℕ) → HasLength f k m s rest
    → (b : Bool) × HasHead k s f b m rest
head-of_length k s Short m rest h = (false, (refl, h))
head-of_length k s Long m rest h = (false, (refl, h.0, h.1))
head-of_length k s Same m rest h = (h.0, (h.1, h.2))

-- ---- the bits of a label

-- behind a head stand the bits and then the rest, or where the bits are repeated the rest alone
abbrev HasBits : LabelForm → Bool → ℕ → List ℕ → List ℕ → List ℕ → Type 0
HasBits Short b m s bits rest = (length bits ≡ m) × (s ≡ bits ++ rest)
HasBits Long b m s bits rest = (length bits ≡ m) × (s ≡ bits ++ rest)
HasBits Same b m s bits rest = (bits ≡ replicate m (bit_number b)) × (s ≡ rest)

first-sound : (f : LabelForm) (m : ℕ) (s : List ℕ) (x : Found) → first_bits f m s ≡ Ok x
    → (x.0 ≡ f) × (length x.1 ≡ m) × (s ≡ x.1 ++ x.2)
first-sound f m s x e = go (nat_lt (length s) m) refl e
  where
    go : (a : Bool) → nat_lt (length s) m ≡ a
        → cond {A = Result Found LabelError} a (Err why.LabelShort) (Ok (f, take m s, drop m s)) ≡ Ok x
        → (x.0 ≡ f) × (length x.1 ≡ m) × (s ≡ x.1 ++ x.2)
    go true g e = cc
    go false g e =
        let P : Found → Type 0 = λ x. (x.0 ≡ f) × (length x.1 ≡ m) × (s ≡ x.1 ++ x.2) in
        subst P (same_ok (f, take m s, drop m s) x e) (refl, length-take-le m s (ltb-false (length s) m g), sym (take-append-drop m s))

first-complete : (f : LabelForm) (m : ℕ) (s bits rest : List ℕ) → length bits ≡ m → s ≡ bits ++ rest
    → first_bits f m s ≡ Ok (f, bits, rest)
first-complete f m s bits rest l e =
    ap (first_bits f m) e
    ∙ when_false (nat_lt (length (bits ++ rest)) m) _ _ (le-ltb (length (bits ++ rest)) m (enough bits rest m l))
    ∙ (λ i. Ok (f, take_at bits rest m l i, drop_at bits rest m l i))

first-err : (f : LabelForm) (m : ℕ) (s : List ℕ) (w : LabelError) → first_bits f m s ≡ Err w
    → (w ≡ why.LabelShort) × (length s < m)
first-err f m s w e = go (nat_lt (length s) m) refl e
  where
    go : (a : Bool) → nat_lt (length s) m ≡ a
        → cond {A = Result Found LabelError} a (Err why.LabelShort) (Ok (f, take m s, drop m s)) ≡ Err w
        → (w ≡ why.LabelShort) × (length s < m)
    go true g e = (cc, ltb-true (length s) m g)
    go false g e = cc

first-few : (f : LabelForm) (m : ℕ) (s : List ℕ) → length s < m → first_bits f m s ≡ Err why.LabelShort
first-few f m s l = when_true (nat_lt (length s) m) _ _ (lt-ltb (length s) m l)

bits-sound : (f : LabelForm) (b : Bool) (m : ℕ) (s : List ℕ) (x : Found) → read_bits f b m s ≡ Ok x
    → (x.0 ≡ f) × HasBits f b m s x.1 x.2
bits-sound Short b m s x e = let r = first-sound Short m s x e in (r.0, (r.1, r.2))
bits-sound Long b m s x e = let r = first-sound Long m s x e in (r.0, (r.1, r.2))
bits-sound Same b m s x e =
    let P : Found → Type 0 = λ x. (x.0 ≡ Same) × HasBits Same b m s x.1 x.2 in
    subst P (same_ok (Same, replicate m (bit_number b), s) x e) (refl, (refl, refl))

bits-complete : (f : LabelForm) (b : Bool) (m : ℕ) (s bits rest : List ℕ) → HasBits f b m s bits rest
    → read_bits f b m s ≡ Ok (f, bits, rest)
bits-complete Short b m s bits rest h = first-complete Short m s bits rest h.0 h.1
bits-complete Long b m s bits rest h = first-complete Long m s bits rest h.0 h.1
bits-complete Same b m s bits rest h = λ i. Ok (Same, (sym h.0) i, h.1 i)

bits-err : (f : LabelForm) (b : Bool) (m : ℕ) (s : List ℕ) (w : LabelError) → read_bits f b m s ≡ Err w
    → (w ≡ why.LabelShort) × (f ≢ Same) × (length s < m)
bits-err Short b m s w e = let r = first-err Short m s w e in (r.0, (λ g. cc), r.1)
bits-err Long b m s w e = let r = first-err Long m s w e in (r.0, (λ g. cc), r.1)
bits-err Same b m s w e = cc

bits-few : (f : LabelForm) (b : Bool) (m : ℕ) (s : List ℕ) → f ≢ Same → length s < m
    → read_bits f b m s ≡ Err why.LabelShort
bits-few Short b m s n l = first-few Short m s l
bits-few Long b m s n l = first-few Long m s l
bits-few Same b m s n l = absurd (n refl)

-- ---- a label in any form

form-of_parts : (f : LabelForm) (b : Bool) (k m : ℕ) (s mid bits rest : List ℕ) → HasHead k s f b m mid
    → HasBits f b m mid bits rest → (length bits ≡ m) × IsForm f k bits s rest
form-of_parts Short b k m s mid bits rest h g =
    (g.0, h.1 ∙ (λ i. 0 ∷ (replicate ((sym g.0) i) 1 ++ (0 ∷ g.1 i))))
form-of_parts Long b k m s mid bits rest h g =
    (g.0, h.2 ∙ (λ i. 1 ∷ (0 ∷ (spelled k ((sym g.0) i) ++ g.1 i))))
form-of_parts Same b k m s mid bits rest h g =
    let l : length bits ≡ m = ap length g.0 ∙ length-replicate m (bit_number b) in
    (l, (b, g.0 ∙ ap (λ (c : ℕ). replicate c (bit_number b)) (sym l), h.1 ∙ (λ i. 1 ∷ (1 ∷ (bit_number b ∷ (spelled k ((sym l) i) ++ g.1 i))))))

-- a label's head and bits
pub record Parts (f : LabelForm) (k : ℕ) (bits s rest : List ℕ) : Type 0 where
  pub repeated : Bool
  pub middle : List ℕ
  pub head : HasHead k s f repeated (length bits) middle
  pub body : HasBits f repeated (length bits) middle bits rest

parts-of_form : (f : LabelForm) (k : ℕ) (bits s rest : List ℕ) → length bits < 2 ^ k → IsForm f k bits s rest
    → Parts f k bits s rest
parts-of_form Short k bits s rest l h = record { repeated = false; middle = bits ++ rest; head = (refl, h); body = (refl, refl) }
parts-of_form Long k bits s rest l h = record { repeated = false; middle = bits ++ rest; head = (refl, l, h); body = (refl, refl) }
parts-of_form Same k bits s rest l h = record { repeated = h.0; middle = rest; head = (l, h.2); body = (h.1, refl) }

-- what was answered at a head
abbrev Answer : ℕ → Option Head → Result Found LabelError → Type 0
Answer n o (Ok x) = (h : Head) × (o ≡ Some h) × (h.len ≤ n) × (read_bits h.form h.repeated h.len h.rest ≡ Ok x)
Answer n o (Err w) =
    ((o ≡ None) × (w ≡ why.LabelShort))
    ⊎ (((h : Head) × (o ≡ Some h) × (n < h.len) × (w ≡ why.LabelLong))
    ⊎ ((h : Head) × (o ≡ Some h) × (h.len ≤ n) × (read_bits h.form h.repeated h.len h.rest ≡ Err w)))

answer-at_head : (n : ℕ) (o : Option Head) (r : Result Found LabelError) → at_head n o ≡ r → Answer n o r
answer-at_head n None (Ok x) e = cc
answer-at_head n None (Err w) e = inl (refl, cc)
answer-at_head n (Some h) r e = go (nat_lt n h.len) refl r e
  where
    go : (a : Bool) → nat_lt n h.len ≡ a → (r : Result Found LabelError)
        → cond a (Err why.LabelLong) (read_bits h.form h.repeated h.len h.rest) ≡ r → Answer n (Some h) r
    go true g (Ok x) e = cc
    go true g (Err w) e = inr (inl (h, refl, ltb-true n h.len g, cc))
    go false g (Ok x) e = (h, refl, ltb-false n h.len g, e)
    go false g (Err w) e = inr (inr (h, refl, ltb-false n h.len g, e))

at-known : (n : ℕ) (o : Option Head) (h : Head) → o ≡ Some h → h.len ≤ n
    → at_head n o ≡ read_bits h.form h.repeated h.len h.rest
at-known n o h e l = ap (at_head n) e ∙ when_false (nat_lt n h.len) _ _ (le-ltb n h.len l)

pub any-sound : (n : ℕ) (s : List ℕ) (x : Found) → read_any n s ≡ Ok x
    → (length x.1 ≤ n) × IsForm x.0 (bit_length n) x.1 s x.2
any-sound n s x e =
    let a = answer-at_head n (read_head (bit_length n) s) (Ok x) e in
    let h = head-sound (bit_length n) s a.0 a.1 in
    let b = bits-sound a.0.form a.0.repeated a.0.len a.0.rest x a.3 in
    let f = form-of_parts a.0.form a.0.repeated (bit_length n) a.0.len s a.0.rest x.1 x.2 h b.1 in
    let P : LabelForm → Type 0 = λ g. IsForm g (bit_length n) x.1 s x.2 in
    let l : length x.1 ≡ a.0.len = f.0 in
    let le : a.0.len ≤ n = a.2 in
    (omega (arith, l, le), subst P (sym b.0) f.1)

pub any-complete : (n : ℕ) (f : LabelForm) (bits s rest : List ℕ) → length bits ≤ n
    → IsForm f (bit_length n) bits s rest → read_any n s ≡ Ok (f, bits, rest)
any-complete n f bits s rest l h =
    let below : n < 2 ^ bit_length n = bit_length-below n in
    let p = parts-of_form f (bit_length n) bits s rest (omega (arith, below, l)) h in
    at-known n (read_head (bit_length n) s) (made f p.repeated (length bits, p.middle)) (head-complete (bit_length n) s f p.repeated (length bits) p.middle p.head) l
    ∙ bits-complete f p.repeated (length bits) p.middle bits rest p.body

pub any-no_form : (n : ℕ) (s : List ℕ) → read_any n s ≡ Err why.LabelForm → ⊥
any-no_form n s e = elim (answer-at_head n (read_head (bit_length n) s) (Err why.LabelForm) e) as (λ _. ⊥) [
  | inl a ↦ (let f = a.1 in cc)
  | inr b ↦ elim b as (λ _. ⊥) [
    | inl a ↦ (let f = a.3 in cc)
    | inr a ↦ (let f = (bits-err a.0.form a.0.repeated a.0.len a.0.rest why.LabelForm a.3).0 in cc)
  ]
]

pub any-short : (n : ℕ) (s : List ℕ) → read_any n s ≡ Err why.LabelShort → EndsEarly n s
any-short n s e = elim (answer-at_head n (read_head (bit_length n) s) (Err why.LabelShort) e) as (λ _. EndsEarly n s) [
  | inl a ↦ inl (λ f m rest h. none f m rest a.0 h)
  | inr b ↦ elim b as (λ _. EndsEarly n s) [
    | inl a ↦ absurd (let f = a.3 in cc)
    | inr a ↦ inr (few a.0 a.1 a.2 (bits-err a.0.form a.0.repeated a.0.len a.0.rest why.LabelShort a.3))
  ]
]
  where
    none : (f : LabelForm) (m : ℕ) (rest : List ℕ) → read_head (bit_length n) s ≡ None
        → HasLength f (bit_length n) m s rest → ⊥
    none f m rest e h =
        let b = head-of_length (bit_length n) s f m rest h in
        let c = head-complete (bit_length n) s f b.0 m rest b.1 in
        cc

    few : (h : Head) → read_head (bit_length n) s ≡ Some h → h.len ≤ n
        → ((why.LabelShort ≡ why.LabelShort) × (h.form ≢ Same) × (length h.rest < h.len)) → HasFewBits n s
    few h e l r = (h.form, h.len, h.rest, r.1, length-of_head (bit_length n) s h.form h.repeated h.len h.rest (head-sound (bit_length n) s h e), l, r.2)

pub any-long : (n : ℕ) (s : List ℕ) → read_any n s ≡ Err why.LabelLong → IsTooLong n s
any-long n s e = elim (answer-at_head n (read_head (bit_length n) s) (Err why.LabelLong) e) as (λ _. IsTooLong n s) [
  | inl a ↦ absurd (let f = a.1 in cc)
  | inr b ↦ elim b as (λ _. IsTooLong n s) [
    | inl a ↦ (a.0.form, a.0.len, a.0.rest, length-of_head (bit_length n) s a.0.form a.0.repeated a.0.len a.0.rest (head-sound (bit_length n) s a.0 a.1), a.2)
    | inr a ↦ absurd (let f = (bits-err a.0.form a.0.repeated a.0.len a.0.rest why.LabelLong a.3).0 in cc)
  ]
]

pub any-is_long : (n : ℕ) (s : List ℕ) → IsTooLong n s → read_any n s ≡ Err why.LabelLong
any-is_long n s h =
    let b = head-of_length (bit_length n) s h.0 h.1 h.2 h.3 in
    ap (at_head n) (head-complete (bit_length n) s h.0 b.0 h.1 h.2 b.1) ∙ when_true (nat_lt n h.1) _ _ (lt-ltb n h.1 h.4)

pub any-ends : (n : ℕ) (s : List ℕ) → EndsEarly n s → read_any n s ≡ Err why.LabelShort
any-ends n s (inl none) = go (read_head (bit_length n) s) refl
  where
    go : (o : Option Head) → read_head (bit_length n) s ≡ o → at_head n o ≡ Err why.LabelShort
    go None e = refl
    go (Some h) e = absurd (none h.form h.len h.rest (length-of_head (bit_length n) s h.form h.repeated h.len h.rest (head-sound (bit_length n) s h e)))
any-ends n s (inr h) =
    let b = head-of_length (bit_length n) s h.0 h.1 h.2 h.4 in
    at-known n (read_head (bit_length n) s) (made h.0 b.0 (h.1, h.2)) (head-complete (bit_length n) s h.0 b.0 h.1 h.2 b.1) h.5
    ∙ bits-few h.0 b.0 h.1 h.2 h.3 h.6

-- ---- what follows a label

form-rest : (f : LabelForm) (k : ℕ) (bits s rest : List ℕ) → IsForm f k bits s rest → (p : List ℕ) × (s ≡ p ++ rest)
form-rest Short k bits s rest h = (0 ∷ (replicate (length bits) 1 ++ (0 ∷ bits)), h ∙ ap (λ (t : List ℕ). 0 ∷ t) (sym (append_assoc (replicate (length bits) 1) (0 ∷ bits) rest)))
form-rest Long k bits s rest h = (1 ∷ (0 ∷ (spelled k (length bits) ++ bits)), h ∙ ap (λ (t : List ℕ). 1 ∷ (0 ∷ t)) (sym (append_assoc (spelled k (length bits)) bits rest)))
form-rest Same k bits s rest h = (1 ∷ (1 ∷ (bit_number h.0 ∷ spelled k (length bits))), h.2)

pub read_any-within : (n : ℕ) (s : List ℕ) (x : Found) → read_any n s ≡ Ok x → length x.1 ≤ n
read_any-within n s x e = (any-sound n s x e).0

pub read_any-shorter : (n : ℕ) (s : List ℕ) (x : Found) → read_any n s ≡ Ok x → length x.2 ≤ length s
read_any-shorter n s x e =
    let f = form-rest x.0 (bit_length n) x.1 s x.2 (any-sound n s x e).1 in
    let l = ap length f.1 in
    omega (arith, l, length-append f.0 x.2)

pub read_any-after : (n : ℕ) (s : List ℕ) (x : Found) → read_any n s ≡ Ok x → drop (length s - length x.2) s ≡ x.2
read_any-after n s x e =
    let f = form-rest x.0 (bit_length n) x.1 s x.2 (any-sound n s x e).1 in
    let l : length f.0 ≡ length s - length x.2 = let m = ap length f.1 in omega (arith, m, length-append f.0 x.2) in
    ap (drop (length s - length x.2)) f.1 ∙ drop_at f.0 x.2 (length s - length x.2) l

pub ruleset found_laws = (read_any-within, read_any-shorter, read_any-after)

-- ---- a label in a form that it may have

form-same : (f g : LabelForm) → same_form f g ≡ true → f ≡ g
form-same Short Short e = refl
form-same Short Long e = cc
form-same Short Same e = cc
form-same Long Short e = cc
form-same Long Long e = refl
form-same Long Same e = cc
form-same Same Short e = cc
form-same Same Long e = cc
form-same Same Same e = refl

form-self : (f : LabelForm) → same_form f f ≡ true
form-self Short = refl
form-self Long = refl
form-self Same = refl

may-sound : (forms : Forms) (n : ℕ) (bits : List ℕ) (f : LabelForm) → may_have forms n bits f ≡ true
    → MayHave forms n bits f
may-sound Required n bits f e = form-same f (required_form n bits) e
may-sound Every n bits f e = tt

may-complete : (forms : Forms) (n : ℕ) (bits : List ℕ) (f : LabelForm) → MayHave forms n bits f
    → may_have forms n bits f ≡ true
may-complete Required n bits f e = ap (λ (g : LabelForm). same_form g (required_form n bits)) e ∙ form-self (required_form n bits)
may-complete Every n bits f e = refl

judged-ok : (forms : Forms) (n : ℕ) (r : Result Found LabelError) (y : List ℕ × List ℕ) → judged forms n r ≡ Ok y
    → (x : Found) × (r ≡ Ok x) × (may_have forms n x.1 x.0 ≡ true) × ((let p : List ℕ × List ℕ = (x.1, x.2) in p) ≡ y)
judged-ok forms n (Err w) y e = cc
judged-ok forms n (Ok x) y e = go (may_have forms n x.1 x.0) refl e
  where
    go : (a : Bool) → may_have forms n x.1 x.0 ≡ a
        → cond {A = Result (List ℕ × List ℕ) LabelError} a (Ok (x.1, x.2)) (Err why.LabelForm) ≡ Ok y
        → (x' : Found) × (◌≡◌ {A = Result Found LabelError} (Ok x) (Ok x')) × (may_have forms n x'.1 x'.0 ≡ true) × ((let p : List ℕ × List ℕ = (x'.1, x'.2) in p) ≡ y)
    go true f g = (x, refl, f, same_ok (x.1, x.2) y g)
    go false f g = cc

judged-err : (forms : Forms) (n : ℕ) (r : Result Found LabelError) (w : LabelError) → judged forms n r ≡ Err w
    → (r ≡ Err w) ⊎ ((x : Found) × (r ≡ Ok x) × (may_have forms n x.1 x.0 ≡ false) × (w ≡ why.LabelForm))
judged-err forms n (Err v) w e = inl (cc)
judged-err forms n (Ok x) w e = go (may_have forms n x.1 x.0) refl e
  where
    go : (a : Bool) → may_have forms n x.1 x.0 ≡ a
        → cond {A = Result (List ℕ × List ℕ) LabelError} a (Ok (x.1, x.2)) (Err why.LabelForm) ≡ Err w
        → (◌≡◌ {A = Result Found LabelError} (Ok x) (Err w)) ⊎ ((x' : Found) × (◌≡◌ {A = Result Found LabelError} (Ok x) (Ok x')) × (may_have forms n x'.1 x'.0 ≡ false) × (w ≡ why.LabelForm))
    go true f g = cc
    go false f g = inr (x, refl, f, cc)

judged-may : (forms : Forms) (n : ℕ) (r : Result Found LabelError) (x : Found) → r ≡ Ok x
    → may_have forms n x.1 x.0 ≡ true → judged forms n r ≡ Ok (x.1, x.2)
judged-may forms n r x e h = ap (judged forms n) e ∙ when_true (may_have forms n x.1 x.0) _ _ h

pub label-exactly : (forms : Forms) (n : ℕ) (s bits rest : List ℕ)
    → (read_label forms n s ≡ Ok (bits, rest)) ↔ IsLabel forms n bits s rest
label-exactly forms n s bits rest = (sound, complete)
  where
    sound : read_label forms n s ≡ Ok (bits, rest) → IsLabel forms n bits s rest
    sound e =
        let j = judged-ok forms n (read_any n s) (bits, rest) e in
        let a = any-sound n s j.0 j.1 in
        let P : List ℕ × List ℕ → Type 0 = λ y. IsLabel forms n y.0 s y.1 in
        subst P j.3 (j.0.0, a.0, may-sound forms n j.0.1 j.0.0 j.2, a.1)

    complete : IsLabel forms n bits s rest → read_label forms n s ≡ Ok (bits, rest)
    complete h = judged-may forms n (read_any n s) (h.0, bits, rest) (any-complete n h.0 bits s rest h.1 h.3) (may-complete forms n bits h.0 h.2)

pub short-exactly : (forms : Forms) (n : ℕ) (s : List ℕ) → (read_label forms n s ≡ Err why.LabelShort) ↔ EndsEarly n s
short-exactly forms n s = (sound, λ h. ap (judged forms n) (any-ends n s h))
  where
    sound : read_label forms n s ≡ Err why.LabelShort → EndsEarly n s
    sound e = elim (judged-err forms n (read_any n s) why.LabelShort e) as (λ _. EndsEarly n s) [
      | inl a ↦ any-short n s a
      | inr a ↦ absurd (let f = a.3 in cc)
    ]

pub long-exactly : (forms : Forms) (n : ℕ) (s : List ℕ) → (read_label forms n s ≡ Err why.LabelLong) ↔ IsTooLong n s
long-exactly forms n s = (sound, λ h. ap (judged forms n) (any-is_long n s h))
  where
    sound : read_label forms n s ≡ Err why.LabelLong → IsTooLong n s
    sound e = elim (judged-err forms n (read_any n s) why.LabelLong e) as (λ _. IsTooLong n s) [
      | inl a ↦ any-long n s a
      | inr a ↦ absurd (let f = a.3 in cc)
    ]

pub form-exactly : (n : ℕ) (s : List ℕ) → (read_label Required n s ≡ Err why.LabelForm) ↔ HasOtherForm n s
form-exactly n s = (sound, complete)
  where
    sound : read_label Required n s ≡ Err why.LabelForm → HasOtherForm n s
    sound e = elim (judged-err Required n (read_any n s) why.LabelForm e) as (λ _. HasOtherForm n s) [
      | inl a ↦ absurd (any-no_form n s a)
      | inr a ↦ (let r = any-sound n s a.0 a.1 in (a.0.0, a.0.1, a.0.2, r.0, (λ g. (let t = may-complete Required n a.0.1 a.0.0 g in let f = a.2 in cc)), r.1))
    ]

    complete : HasOtherForm n s → read_label Required n s ≡ Err why.LabelForm
    complete h =
        ap (judged Required n) (any-complete n h.0 h.1 s h.2 h.3 h.5)
        ∙ when_false (same_form h.0 (required_form n h.1)) _ _ (differs (same_form h.0 (required_form n h.1)) refl)
      where
        differs : (b : Bool) → same_form h.0 (required_form n h.1) ≡ b → b ≡ false
        differs true e = absurd (h.4 (form-same h.0 (required_form n h.1) e))
        differs false e = refl

pub form-never : (n : ℕ) (s : List ℕ) → read_label Every n s ≡ Err why.LabelForm → ⊥
form-never n s e = elim (judged-err Every n (read_any n s) why.LabelForm e) as (λ _. ⊥) [
  | inl a ↦ any-no_form n s a
  | inr a ↦ (let f = a.2 in cc)
]
