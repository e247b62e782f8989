-- The hidden edges of a map: of those that a choice names, the outermost hide its keys.
use Rattle.std.proofs.Common.{◌≡◌, ℕ, suc, ◌+◌, Bool, true, false, cond, ◌&&◌, ◌||◌, nat_eq, nat_lt, List, [], ◌∷◌}
use Rattle.std.proofs.Common.{◌++◌, length, refl, sym, ap, ◌∙◌, append_assoc, length-append, arith}
use Rattle.std.proofs.lemmas.Bool.{eq-eqb, lt-ltb, ltb-true}
use Rattle.hashmap_tree.specs.Merged.{is_before}
use Rattle.schema_leads.specs.Leads.{begins}
use Rattle.typed_value.specs.Values.{PlainPairs, no_pairs, a_pair}
use Rattle.pruning.specs.Laid.{join, below}
use Rattle.pruning.specs.Blanked.{KeyPart, others_begin, outer_among, outermost, put, put_all}
use Rattle.pruning_laws.specs.Cuts.{below_parts}
use Rattle.pruning_laws.specs.KeyLaws.{begins-append, begins-same}

-- ---- prefixes that are below bits

abbrev pub AllBelow : List ℕ → List KeyPart → Type 0
AllBelow p [] = Unit {0}
AllBelow p (u ∷ us) = ((r : List ℕ) × (u.0 ≡ p ++ r)) × AllBelow p us

-- strictly below
abbrev pub AllDeeper : List ℕ → List KeyPart → Type 0
AllDeeper p [] = Unit {0}
AllDeeper p (u ∷ us) = ((b : ℕ) × (r : List ℕ) × (u.0 ≡ p ++ b ∷ r)) × AllDeeper p us

pub below-append : (p : List ℕ) (us vs : List KeyPart) → AllBelow p us → AllBelow p vs → AllBelow p (us ++ vs)
below-append p [] vs h k = k
below-append p (u ∷ us) vs h k = (h.0, below-append p us vs h.1 k)

pub deeper-append : (p : List ℕ) (us vs : List KeyPart) → AllDeeper p us → AllDeeper p vs → AllDeeper p (us ++ vs)
deeper-append p [] vs h k = k
deeper-append p (u ∷ us) vs h k = (h.0, deeper-append p us vs h.1 k)

-- what is below p and some bits is strictly below p
pub below-deeper : (p : List ℕ) (b : ℕ) (l : List ℕ) (us : List KeyPart) → AllBelow (p ++ (b ∷ l)) us → AllDeeper p us
below-deeper p b l [] h = tt
below-deeper p b l (u ∷ us) h =
    ((b, l ++ h.0.0, h.0.1 ∙ append_assoc p (b ∷ l) h.0.0), below-deeper p b l us h.1)

pub deeper-below : (p : List ℕ) (us : List KeyPart) → AllDeeper p us → AllBelow p us
deeper-below p [] h = tt
deeper-below p (u ∷ us) h = ((h.0.0 ∷ h.0.1, h.0.2), deeper-below p us h.1)

pub below-parts : (p : List ℕ) (us : List KeyPart) → AllBelow p (below_parts p us)
below-parts p [] = tt
below-parts p (u ∷ us) = ((u.0, refl), below-parts p us)

-- ---- two sides of a fork

abbrev pub Sides : List ℕ → List ℕ → Type 0
Sides p q = (a b : List ℕ) → begins (p ++ a) (q ++ b) ≡ false

zero_one : (l a b : List ℕ) → begins ((l ++ 0 ∷ []) ++ a) ((l ++ 1 ∷ []) ++ b) ≡ false
zero_one [] a b = refl
zero_one (x ∷ l) a b = ap (λ t. t && begins ((l ++ 0 ∷ []) ++ a) ((l ++ 1 ∷ []) ++ b)) (eq-eqb x x refl) ∙ zero_one l
    a b

one_zero : (l a b : List ℕ) → begins ((l ++ 1 ∷ []) ++ a) ((l ++ 0 ∷ []) ++ b) ≡ false
one_zero [] a b = refl
one_zero (x ∷ l) a b = ap (λ t. t && begins ((l ++ 1 ∷ []) ++ a) ((l ++ 0 ∷ []) ++ b)) (eq-eqb x x refl) ∙ one_zero l
    a b

in_prefix : (q p r a b : List ℕ) → begins (p ++ a) (r ++ b) ≡ false → begins ((q ++ p) ++ a) ((q ++ r) ++ b) ≡ false
in_prefix q p r a b e =
    (λ i. begins (append_assoc q p a i) (append_assoc q r b i)) ∙ begins-same q (p ++ a) (r ++ b) ∙ e

pub sides-left : (q l : List ℕ) → Sides (q ++ (l ++ 0 ∷ [])) (q ++ (l ++ 1 ∷ []))
sides-left q l a b = in_prefix q (l ++ 0 ∷ []) (l ++ 1 ∷ []) a b (zero_one l a b)

pub sides-right : (q l : List ℕ) → Sides (q ++ (l ++ 1 ∷ [])) (q ++ (l ++ 0 ∷ []))
sides-right q l a b = in_prefix q (l ++ 1 ∷ []) (l ++ 0 ∷ []) a b (one_zero l a b)

-- ---- the outermost of two lists

others-append : (us vs : List KeyPart) (q : List ℕ) → others_begin (us ++ vs) q ≡
    (others_begin us q || others_begin vs q)
others-append [] vs q = refl
others-append (u ∷ us) vs q =
    ap (λ t. (begins u.0 q && nat_lt (length u.0) (length q)) || t) (others-append us vs q)
    ∙ go (begins u.0 q && nat_lt (length u.0) (length q)) (others_begin us q) (others_begin vs q)
  where
    go : (a b c : Bool) → (a || (b || c)) ≡ ((a || b) || c)
    go true b c = refl
    go false b c = refl

others-none : (p q : List ℕ) → Sides p q → (us : List KeyPart) → AllBelow p us → (r : List ℕ)
    → others_begin us (q ++ r) ≡ false
others-none p q sides [] h r = refl
others-none p q sides (u ∷ us) h r =
    let e : begins u.0 (q ++ r) ≡ false = ap (λ (k : List ℕ). begins k (q ++ r)) h.0.1 ∙ sides h.0.0 r in
    λ i. (e i && nat_lt (length u.0) (length (q ++ r))) || others-none p q sides us h.1 r i

or-false : (b : Bool) → (b || false) ≡ b
or-false true = refl
or-false false = refl

outer-left : (p q : List ℕ) → Sides q p → (us vs ws : List KeyPart) → AllBelow q vs → AllBelow p ws
    → outer_among (us ++ vs) ws ≡ outer_among us ws
outer-left p q sides us vs [] h k = refl
outer-left p q sides us vs (w ∷ ws) h k =
    let e : others_begin (us ++ vs) w.0 ≡ others_begin us w.0 =
    others-append us vs w.0
    ∙ ap (λ t. others_begin us w.0 || t)
    (ap (others_begin vs) k.0.1 ∙ others-none q p sides vs h k.0.0) ∙ or-false (others_begin us w.0) in
    λ i. cond (e i) (outer-left p q sides us vs ws h k.1 i) (w ∷ outer-left p q sides us vs ws h k.1 i)

outer-right : (p q : List ℕ) → Sides p q → (us vs ws : List KeyPart) → AllBelow p us → AllBelow q ws
    → outer_among (us ++ vs) ws ≡ outer_among vs ws
outer-right p q sides us vs [] h k = refl
outer-right p q sides us vs (w ∷ ws) h k =
    let e : others_begin (us ++ vs) w.0 ≡ others_begin vs w.0 =
    others-append us vs w.0
    ∙ ap (λ t. t || others_begin vs w.0) (ap (others_begin us) k.0.1 ∙ others-none p q sides us h k.0.0) in
    λ i. cond (e i) (outer-right p q sides us vs ws h k.1 i) (w ∷ outer-right p q sides us vs ws h k.1 i)

outer-append : (all us vs : List KeyPart) → outer_among all (us ++ vs) ≡ outer_among all us ++ outer_among all vs
outer-append all [] vs = refl
outer-append all (u ∷ us) vs = go (others_begin all u.0) (outer-append all us vs)
  where
    go : (b : Bool) → outer_among all (us ++ vs) ≡ outer_among all us ++ outer_among all vs
        → cond b (outer_among all (us ++ vs)) (u ∷ outer_among all (us ++ vs))
        ≡ cond b (outer_among all us) (u ∷ outer_among all us) ++ outer_among all vs
    go true ih = ih
    go false ih = ap (λ (l : List KeyPart). u ∷ l) ih

pub outermost-append : (p q : List ℕ) → Sides p q → Sides q p → (us vs : List KeyPart) → AllBelow p us → AllBelow q vs
    → outermost (us ++ vs) ≡ outermost us ++ outermost vs
outermost-append p q sides back us vs h k =
    outer-append (us ++ vs) us vs
    ∙ (λ i. outer-left p q back us vs us k h i ++ outer-right p q sides us vs vs h k i)

-- ---- an edge hides all below it

lt-add : (n m : ℕ) → nat_lt n (n + suc m) ≡ true
lt-add n m = lt-ltb n (n + suc m) (omega arith)

ge-add : (n m : ℕ) → nat_lt (n + m) n ≡ false
ge-add n m = go (nat_lt (n + m) n) refl
  where
    go : (b : Bool) → nat_lt (n + m) n ≡ b → b ≡ false
    go true e = let l = ltb-true (n + m) n e in absurd (omega (arith, l))
    go false e = refl

and-false : (b : Bool) → (b && false) ≡ false
and-false true = refl
and-false false = refl

not_longer : (q k : List ℕ) (n : ℕ) → length k ≡ length q + n → (begins k q && nat_lt (length k) (length q)) ≡ false
not_longer q k n e =
    ap (λ (t : Bool). begins k q && t) (ap (λ (m : ℕ). nat_lt m (length q)) e ∙ ge-add (length q) n) ∙ and-false
    (begins k q)

none_shorter : (q : List ℕ) (us : List KeyPart) → AllBelow q us → others_begin us q ≡ false
none_shorter q [] h = refl
none_shorter q (u ∷ us) h =
    let e : length u.0 ≡ length q + length h.0.0 = ap length h.0.1 ∙ length-append q h.0.0 in
    λ i. not_longer q u.0 (length h.0.0) e i || none_shorter q us h.1 i

covers : (u : KeyPart) (us : List KeyPart) (k : List ℕ) (b : ℕ) (r : List ℕ) → k ≡ u.0 ++ b ∷ r
    → others_begin (u ∷ us) k ≡ true
covers u us k b r e =
    ap (others_begin (u ∷ us)) e
    ∙ (λ i. (begins-append u.0 (b ∷ r) i && shorter i) || others_begin us (u.0 ++ b ∷ r))
  where
    shorter : nat_lt (length u.0) (length (u.0 ++ b ∷ r)) ≡ true
    shorter = ap (λ (n : ℕ). nat_lt (length u.0) n) (length-append u.0 (b ∷ r)) ∙ lt-add (length u.0) (length r)

outer-none : (u : KeyPart) (us ws : List KeyPart) → AllDeeper u.0 ws → outer_among (u ∷ us) ws ≡ []
outer-none u us [] h = refl
outer-none u us (w ∷ ws) h =
    ap (λ (b : Bool). cond b (outer_among (u ∷ us) ws) (w ∷ outer_among (u ∷ us) ws))
    (covers u us w.0 h.0.0 h.0.1 h.0.2)
    ∙ outer-none u us ws h.1

pub outermost-one : (u : KeyPart) (us : List KeyPart) → AllDeeper u.0 us → outermost (u ∷ us) ≡ u ∷ []
outermost-one u us h =
    ap (λ (b : Bool). cond b (outer_among (u ∷ us) us) (u ∷ outer_among (u ∷ us) us))
    (λ i. not_longer u.0 u.0 0 (omega arith) i || none_shorter u.0 us (deeper-below u.0 us h) i)
    ∙ ap (λ (l : List KeyPart). u ∷ l) (outer-none u us us h)

-- ---- in the order of bits

-- each stands before the next
abbrev pub InOrder : List KeyPart → Type 0
InOrder [] = Unit {0}
InOrder (u ∷ []) = Unit {0}
InOrder (u ∷ v ∷ us) = (is_before u.0 v.0 ≡ true) × InOrder (v ∷ us)

pub put-order : (us : List KeyPart) → InOrder us → put_all us [] ≡ us
put-order [] h = refl
put-order (u ∷ []) h = refl
put-order (u ∷ v ∷ us) h =
    ap (put u) (put-order (v ∷ us) h.1) ∙ ap (λ (b : Bool). cond b (u ∷ (v ∷ us)) (v ∷ put u us)) h.0

before_fork : (q l a b : List ℕ) → is_before ((q ++ (l ++ 0 ∷ [])) ++ a) ((q ++ (l ++ 1 ∷ [])) ++ b) ≡ true
before_fork [] [] a b = refl
before_fork [] (x ∷ l) a b = go (nat_lt x x) (before_fork [] l a b)
  where
    go : (t : Bool) → is_before ((l ++ 0 ∷ []) ++ a) ((l ++ 1 ∷ []) ++ b) ≡ true
        → (t || (nat_eq x x && is_before ((l ++ 0 ∷ []) ++ a) ((l ++ 1 ∷ []) ++ b))) ≡ true
    go true h = refl
    go false h = λ i. eq-eqb x x refl i && h i
before_fork (y ∷ q) l a b = go (nat_lt y y) (before_fork q l a b)
  where
    go : (t : Bool) → is_before ((q ++ (l ++ 0 ∷ [])) ++ a) ((q ++ (l ++ 1 ∷ [])) ++ b) ≡ true
        → (t || (nat_eq y y && is_before ((q ++ (l ++ 0 ∷ [])) ++ a) ((q ++ (l ++ 1 ∷ [])) ++ b))) ≡ true
    go true h = refl
    go false h = λ i. eq-eqb y y refl i && h i

pub order-fork : (q l : List ℕ) (us vs : List KeyPart) → AllBelow (q ++ (l ++ 0 ∷ [])) us
    → AllBelow (q ++ (l ++ 1 ∷ [])) vs → InOrder us → InOrder vs → InOrder (us ++ vs)
order-fork q l [] vs h k o p = p
order-fork q l (u ∷ []) [] h k o p = tt
order-fork q l (u ∷ []) (v ∷ vs) h k o p =
    ((λ i. is_before (h.0.1 i) (k.0.1 i)) ∙ before_fork q l h.0.0 k.0.0, p)
order-fork q l (u ∷ w ∷ us) vs h k o p = (o.0, order-fork q l (w ∷ us) vs h.1 k o.1 p)

-- ---- below bits

pub below-below : (q p : List ℕ) (us : List KeyPart) → below_parts q (below_parts p us) ≡ below_parts (q ++ p) us
below-below q p [] = refl
below-below q p (u ∷ us) = λ i. ((sym (append_assoc q p u.0)) i, u.1) ∷ below-below q p us i

pub parts-append : (q : List ℕ) (us vs : List KeyPart)
    → below_parts q (us ++ vs) ≡ below_parts q us ++ below_parts q vs
parts-append q [] vs = refl
parts-append q (u ∷ us) vs = ap (λ (l : List KeyPart). (q ++ u.0, u.1) ∷ l) (parts-append q us vs)

pub parts-nothing : (us : List KeyPart) → below_parts [] us ≡ us
parts-nothing [] = refl
parts-nothing (u ∷ us) = ap (λ (l : List KeyPart). u ∷ l) (parts-nothing us)

pub pairs-below : (q p : List ℕ) (ps : PlainPairs) → below q (below p ps) ≡ below (q ++ p) ps
pairs-below q p no_pairs = refl
pairs-below q p (a_pair k v ps) = λ i. a_pair ((sym (append_assoc q p k)) i) v (pairs-below q p ps i)

pub pairs-join : (q : List ℕ) (ps qs : PlainPairs) → below q (join ps qs) ≡ join (below q ps) (below q qs)
pairs-join q no_pairs qs = refl
pairs-join q (a_pair k v ps) qs = ap (a_pair (q ++ k) v) (pairs-join q ps qs)

pub pairs-nothing : (ps : PlainPairs) → below [] ps ≡ ps
pairs-nothing no_pairs = refl
pairs-nothing (a_pair k v ps) = ap (a_pair k v) (pairs-nothing ps)
