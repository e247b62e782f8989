-- Bits that begin a key, and pairs below bits.
use Rattle.std.proofs.Common.{◌≡◌, ℕ, Bool, true, false, cond, ◌&&◌, ◌||◌, nat_eq, List, [], ◌∷◌, ◌++◌, Option, Some}
use Rattle.std.proofs.Common.{None, refl, sym, ap, ◌∙◌, subst}
use Rattle.std.specs.Prelude.{bytes_eq}
use Rattle.std.proofs.lemmas.Bool.{eqb-true, eq-eqb}
use Rattle.std.proofs.lemmas.Slice.Eq.{bytes_eq-Decides}
use Rattle.schema_leads.specs.Leads.{begins}
use Rattle.typed_value.specs.Paths.{entry_at}
use Rattle.typed_value.specs.Values.{Plain, PlainPairs, no_pairs, a_pair}
use Rattle.pruning.specs.Laid.{join, below}
use Rattle.pruning.specs.Blanked.{KeyPart, some_begin}
use Rattle.pruning_laws.specs.Cuts.{below_parts}

pub begins-append : (p k : List ℕ) → begins p (p ++ k) ≡ true
begins-append [] k = refl
begins-append (b ∷ p) k = (λ i. eq-eqb b b refl i && begins-append p k i)

-- the key without these bits, if it begins with them
abbrev pub stripped : List ℕ → List ℕ → Option (List ℕ)
stripped [] k = Some k
stripped (b ∷ p) [] = None
stripped (b ∷ p) (c ∷ k) = cond (nat_eq b c) (stripped p k) None

pub stripped-some : (p k r : List ℕ) → stripped p k ≡ Some r → k ≡ p ++ r
stripped-some [] k r e = let f : k ≡ r = cc in f
stripped-some (b ∷ p) [] r e = absurd (cc)
stripped-some (b ∷ p) (c ∷ k) r e = go (nat_eq b c) refl e (stripped-some p k r)
  where
    go : (t : Bool) → nat_eq b c ≡ t → cond t (stripped p k) None ≡ Some r → (stripped p k ≡ Some r → k ≡ p ++ r)
        → c ∷ k ≡ b ∷ (p ++ r)
    go true f h ih = λ i. (sym (eqb-true b c f)) i ∷ ih h i
    go false f h ih = absurd (cc)

pub begins-other : (p u k : List ℕ) → stripped p k ≡ None → begins (p ++ u) k ≡ false
begins-other [] u k e = absurd (cc)
begins-other (b ∷ p) u [] e = refl
begins-other (b ∷ p) u (c ∷ k) e = go (nat_eq b c) e (begins-other p u k)
  where
    go : (t : Bool) → cond t (stripped p k) None ≡ None → (stripped p k ≡ None → begins (p ++ u) k ≡ false)
        → (t && begins (p ++ u) k) ≡ false
    go true h ih = ih h
    go false h ih = refl

pub begins-same : (p u k : List ℕ) → begins (p ++ u) (p ++ k) ≡ begins u k
begins-same [] u k = refl
begins-same (b ∷ p) u k = ap (λ t. t && begins (p ++ u) (p ++ k)) (eq-eqb b b refl) ∙ begins-same p u k

-- after a label, a key goes on with 0 or with 1
pub zero-not_one : (l k : List ℕ) → stripped (l ++ 1 ∷ []) ((l ++ 0 ∷ []) ++ k) ≡ None
zero-not_one [] k = refl
zero-not_one (b ∷ l) k =
    ap (λ t. cond t (stripped (l ++ 1 ∷ []) ((l ++ 0 ∷ []) ++ k)) None) (eq-eqb b b refl) ∙ zero-not_one l k

pub one-not_zero : (l k : List ℕ) → stripped (l ++ 0 ∷ []) ((l ++ 1 ∷ []) ++ k) ≡ None
one-not_zero [] k = refl
one-not_zero (b ∷ l) k =
    ap (λ t. cond t (stripped (l ++ 0 ∷ []) ((l ++ 1 ∷ []) ++ k)) None) (eq-eqb b b refl) ∙ one-not_zero l k

-- ---- hidden parts below bits

pub some_begin-append : (us vs : List KeyPart) (k : List ℕ) → some_begin (us ++ vs) k ≡
    (some_begin us k || some_begin vs k)
some_begin-append [] vs k = refl
some_begin-append (u ∷ us) vs k =
    ap (λ t. begins u.0 k || t) (some_begin-append us vs k) ∙ go (begins u.0 k) (some_begin us k) (some_begin vs k)
  where
    go : (a b c : Bool) → (a || (b || c)) ≡ ((a || b) || c)
    go true b c = refl
    go false b c = refl

pub some_begin-same : (p : List ℕ) (us : List KeyPart) (k : List ℕ)
    → some_begin (below_parts p us) (p ++ k) ≡ some_begin us k
some_begin-same p [] k = refl
some_begin-same p (u ∷ us) k = λ i. begins-same p u.0 k i || some_begin-same p us k i

pub some_begin-other : (p : List ℕ) (us : List KeyPart) (k : List ℕ) → stripped p k ≡ None
    → some_begin (below_parts p us) k ≡ false
some_begin-other p [] k e = refl
some_begin-other p (u ∷ us) k e = λ i. begins-other p u.0 k e i || some_begin-other p us k e i

-- ---- pairs below bits

abbrev pub or_else : Option Plain → Option Plain → Option Plain
or_else None other = other
or_else (Some v) other = Some v

pub entry-join : (ps qs : PlainPairs) (k : List ℕ) → entry_at (join ps qs) k ≡ or_else (entry_at ps k) (entry_at qs k)
entry-join no_pairs qs k = refl
entry-join (a_pair l v ps) qs k = go (bytes_eq l k) (entry-join ps qs k)
  where
    go : (t : Bool) → entry_at (join ps qs) k ≡ or_else (entry_at ps k) (entry_at qs k)
        → cond t (Some v) (entry_at (join ps qs) k) ≡ or_else (cond t (Some v) (entry_at ps k)) (entry_at qs k)
    go true ih = refl
    go false ih = ih

bytes-self : (k : List ℕ) → bytes_eq k k ≡ true
bytes-self k = (bytes_eq-Decides k k).1 refl

pub bytes-other : (p l k : List ℕ) → stripped p k ≡ None → bytes_eq (p ++ l) k ≡ false
bytes-other p l k e = go (bytes_eq (p ++ l) k) refl
  where
    never : stripped p (p ++ l) ≡ Some l
    never = strip p l
      where
        strip : (p l : List ℕ) → stripped p (p ++ l) ≡ Some l
        strip [] l = refl
        strip (b ∷ p) l = ap (λ t. cond t (stripped p (p ++ l)) None) (eq-eqb b b refl) ∙ strip p l

    go : (t : Bool) → bytes_eq (p ++ l) k ≡ t → t ≡ false
    go true f =
        let P : List ℕ → Type 0 = λ k. stripped p k ≡ None in
        let h = subst P (sym ((bytes_eq-Decides (p ++ l) k).0 f)) e in
        absurd (let n = never in cc)
    go false f = refl

pub same-bytes : (p l k : List ℕ) → bytes_eq (p ++ l) (p ++ k) ≡ bytes_eq l k
same-bytes [] l k = refl
same-bytes (b ∷ p) l k = go (bytes_eq l k) refl
  where
    tail : List ℕ → List ℕ
    tail [] = []
    tail (x ∷ xs) = xs

    drop : (p l k : List ℕ) → p ++ l ≡ p ++ k → l ≡ k
    drop [] l k e = e
    drop (x ∷ p) l k e = drop p l k (ap tail e)

    go : (t : Bool) → bytes_eq l k ≡ t → bytes_eq (b ∷ (p ++ l)) (b ∷ (p ++ k)) ≡ t
    go true f = (bytes_eq-Decides (b ∷ (p ++ l)) (b ∷ (p ++ k))).1
        (ap (λ (x : List ℕ). b ∷ (p ++ x)) ((bytes_eq-Decides l k).0 f))
    go false f = other (bytes_eq (b ∷ (p ++ l)) (b ∷ (p ++ k))) refl
      where
        other : (t : Bool) → bytes_eq (b ∷ (p ++ l)) (b ∷ (p ++ k)) ≡ t → t ≡ false
        other true g =
            let h = (bytes_eq-Decides l k).1 (drop (b ∷ p) l k
            ((bytes_eq-Decides (b ∷ (p ++ l)) (b ∷ (p ++ k))).0 g)) in
            absurd (cc)
        other false g = refl

pub entry-below : (p : List ℕ) (ps : PlainPairs) (k : List ℕ) → entry_at (below p ps) (p ++ k) ≡ entry_at ps k
entry-below p no_pairs k = refl
entry-below p (a_pair l v ps) k = λ i. cond (same-bytes p l k i) (Some v) (entry-below p ps k i)

pub entry-other : (p : List ℕ) (ps : PlainPairs) (k : List ℕ) → stripped p k ≡ None → entry_at (below p ps) k ≡ None
entry-other p no_pairs k e = refl
entry-other p (a_pair l v ps) k e = λ i. cond (bytes-other p l k e i) (Some v) (entry-other p ps k e i)

-- ---- a fork

abbrev pub left_key : List ℕ → List ℕ
left_key l = l ++ 0 ∷ []

abbrev pub right_key : List ℕ → List ℕ
right_key l = l ++ 1 ∷ []

-- where a key goes at a fork with this label
pub data GoesOn (l k : List ℕ) : Type 0 where
  to_zero : (r : List ℕ) → k ≡ (l ++ 0 ∷ []) ++ r → GoesOn l k
  to_one : (r : List ℕ) → k ≡ (l ++ 1 ∷ []) ++ r → GoesOn l k
  nowhere : stripped (l ++ 0 ∷ []) k ≡ None → stripped (l ++ 1 ∷ []) k ≡ None → GoesOn l k

pub goes_on : (l k : List ℕ) → GoesOn l k
goes_on l k = go (stripped (l ++ 0 ∷ []) k) (stripped (l ++ 1 ∷ []) k) refl refl
  where
    go : (a b : Option (List ℕ)) → stripped (l ++ 0 ∷ []) k ≡ a → stripped (l ++ 1 ∷ []) k ≡ b → GoesOn l k
    go (Some r) b e f = to_zero r (stripped-some (l ++ 0 ∷ []) k r e)
    go None (Some r) e f = to_one r (stripped-some (l ++ 1 ∷ []) k r f)
    go None None e f = nowhere e f
