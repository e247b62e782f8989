-- Heads and members, one by one.
use Rattle.std.proofs.Common.{◌≡◌, ℕ, zero, suc, ◌+◌, ◌<◌, ◌≤◌, Bool, true, false, List, [], ◌∷◌, ◌++◌, length, take, refl, sym, ap, ◌∙◌, subst, arith, get_or, set, length-append, length-take-le, map}
use Rattle.std.specs.Prelude.{cond, nat_eq, All, Option, Some, None, slice_get, slice_index_or}
use Rattle.std.proofs.lemmas.Bool.{eqb-true, eqb-false}
use Rattle.std.proofs.lemmas.List.{length-set, length-map, append-nil, get_or-map}
use Rattle.std.proofs.Math.Seq.{take-suc}
use Rattle.tlb_syntax.specs.declared.tree.Constructor.{Constructor}
use Rattle.tlb_syntax.specs.View.{constructor}
use Rattle.tlb_syntax.specs.Tree.{ConstructorView, SchemaView}
use Rattle.tlb_guard.specs.Numbering.{place_of}
use Rattle.lead_table.specs.declared.heads.Head.{Head}
use Rattle.lead_table.specs.Heads.{IsHead, AreHeads, IsTypeBelow, places, AreMembers}
use Rattle.lead_table.proofs.Places.{place_word, set_same, set_other}

-- ---- heads

pub heads_more : (s cs : SchemaView) (hs : List Head) (c : ConstructorView) (h : Head) → AreHeads s cs hs → IsHead s c h
    → AreHeads s (cs ++ c ∷ []) (hs ++ h ∷ [])
heads_more s [] [] c h are is = (is, tt)
heads_more s [] (g ∷ hs) c h are is = absurd are
heads_more s (d ∷ cs) [] c h are is = absurd are
heads_more s (d ∷ cs) (g ∷ hs) c h are is = (are.0, heads_more s cs hs c h are.1 is)

pub head_count : (s cs : SchemaView) (hs : List Head) → AreHeads s cs hs → length hs ≡ length cs
head_count s [] [] are = refl
head_count s [] (g ∷ hs) are = absurd are
head_count s (d ∷ cs) [] are = absurd are
head_count s (d ∷ cs) (g ∷ hs) are = ap suc (head_count s cs hs are.1)

-- the types of heads are those of the schema
pub types_below : (s cs : SchemaView) (hs : List Head) → AreHeads s cs hs → All (IsTypeBelow (length s)) hs
types_below s [] [] are k d lt = absurd (omega (arith, lt))
types_below s [] (g ∷ hs) are k d lt = absurd are
types_below s (c ∷ cs) [] are k d lt = absurd are
types_below s (c ∷ cs) (h ∷ hs) are zero d lt = (place_word s c.result h.of_type are.0.of_type).below
types_below s (c ∷ cs) (h ∷ hs) are (suc k) d lt = types_below s cs hs are.1 k d (omega (arith, lt))

-- ---- members

places_onto : (t k : ℕ) (hs : List Head) (h : Head) (b : Bool) → nat_eq h.of_type t ≡ b
    → places t k (hs ++ h ∷ []) ≡ places t k hs ++ cond b ((k + length hs) ∷ []) []
places_onto t k [] h true is = rw is (let e : k + 0 ≡ k = omega arith in ap (λ n. n ∷ []) (sym e))
places_onto t k [] h false is = rw is refl
places_onto t k (g ∷ hs) h b is = at (nat_eq g.of_type t) (places_onto t (suc k) hs h b is)
  where
    same : k + suc (length hs) ≡ suc k + length hs
    same = omega arith

    at : (a : Bool) → places t (suc k) (hs ++ h ∷ []) ≡ places t (suc k) hs ++ cond b ((suc k + length hs) ∷ []) []
        → cond a (k ∷ places t (suc k) (hs ++ h ∷ [])) (places t (suc k) (hs ++ h ∷ []))
        ≡ cond a (k ∷ places t (suc k) hs) (places t (suc k) hs) ++ cond b ((k + suc (length hs)) ∷ []) []
    at true e = ap (λ ps. k ∷ ps) (e ∙ ap (λ n. places t (suc k) hs ++ cond b (n ∷ []) []) (sym same))
    at false e = e ∙ ap (λ n. places t (suc k) hs ++ cond b (n ∷ []) []) (sym same)

index_or_from : (ms : List (List ℕ)) (t : ℕ) (m d : List ℕ) → slice_get ms t ≡ Some m → get_or ms t d ≡ m
index_or_from [] t m d e = cc
index_or_from (x ∷ ms) zero m d e = cc
index_or_from (x ∷ ms) (suc t) m d e = index_or_from ms t m d e

-- a head's place is added to those of its type
pub member_added : (hs : List Head) (ms : List (List ℕ)) (h : Head) → AreMembers hs ms → h.of_type < length ms
    → AreMembers (hs ++ h ∷ []) (set ms h.of_type (get_or ms h.of_type [] ++ length hs ∷ []))
member_added hs ms h are lt t below = go (nat_eq h.of_type t) refl
  where
    within : t < length ms
    within = omega (arith, below, length-set ms h.of_type (get_or ms h.of_type [] ++ length hs ∷ []))

    go : (b : Bool) → nat_eq h.of_type t ≡ b → slice_get (set ms h.of_type (get_or ms h.of_type [] ++ length hs ∷ [])) t ≡ Some (places t 0 (hs ++ h ∷ []))
    go true is =
        let same : h.of_type ≡ t = eqb-true h.of_type t is in
        let before : get_or ms h.of_type [] ≡ places t 0 hs = index_or_from ms h.of_type (places t 0 hs) [] (ap (slice_get ms) same ∙ are t within) in
        ap (λ k. slice_get (set ms h.of_type (get_or ms h.of_type [] ++ length hs ∷ [])) k) (sym same) ∙ set_same ms h.of_type (get_or ms h.of_type [] ++ length hs ∷ []) lt
        ∙ ap Some (ap (λ ps. ps ++ length hs ∷ []) before ∙ sym (places_onto t 0 hs h true is ∙ (let e : 0 + length hs ≡ length hs = omega arith in ap (λ n. places t 0 hs ++ n ∷ []) e)))
    go false is =
        set_other ms h.of_type t (get_or ms h.of_type [] ++ length hs ∷ []) (λ same. eqb-false h.of_type t is same)
        ∙ are t within ∙ ap Some (sym (places_onto t 0 hs h false is ∙ append-nil (places t 0 hs)))

-- nothing yet
pub nothing_more : (ms : List (List ℕ)) → AreMembers [] ms → AreMembers [] (ms ++ [] ∷ [])
nothing_more [] are zero below = refl
nothing_more [] are (suc t) below = absurd (omega (arith, below))
nothing_more (m ∷ ms) are zero below = are 0 (omega arith)
nothing_more (m ∷ ms) are (suc t) below = nothing_more ms (λ u lt. are (suc u) (omega (arith, lt))) t (omega (arith, below))

pub member_step : (hs : List Head) (ms new : List (List ℕ)) (n : ℕ) (h : Head) → n < length hs → h ≡ get_or hs n h → length ms ≡ length hs
    → (get_or hs n h).of_type < length hs → AreMembers (take n hs) ms → new ≡ set ms h.of_type (get_or ms h.of_type [] ++ n ∷ [])
    → (length new ≡ length hs) × AreMembers (take (n + 1) hs) new
member_step hs ms new n h lt is size below are added =
    let here : h.of_type < length ms = omega (arith, below, ap (λ (x : Head). x.of_type) is, size) in
    let count : length (take n hs) ≡ n = length-take-le n hs (omega (arith, lt)) in
    let one = member_added (take n hs) ms h are here in
    let place = ap (λ k. set ms h.of_type (get_or ms h.of_type [] ++ k ∷ [])) count in
    let e : n + 1 ≡ suc n = omega arith in
    let grown : take n hs ++ h ∷ [] ≡ take (n + 1) hs =
    ap (λ (x : Head). take n hs ++ x ∷ []) is ∙ sym (take-suc hs n h lt) ∙ ap (λ k. take k hs) (sym e) in
    let P : List Head → Type 0 = λ z. AreMembers z new in
    let Q : List (List ℕ) → Type 0 = λ z. AreMembers (take n hs ++ h ∷ []) z in (
      ap length added ∙ length-set ms h.of_type (get_or ms h.of_type [] ++ n ∷ []) ∙ size,
      subst P grown (subst Q (place ∙ sym added) one),
    )

pub heads_step : (s : SchemaView) (xs : List Constructor) (n : ℕ) (x : Constructor) (hs new : List Head) (h : Head) → n < length xs → x ≡ get_or xs n x
    → AreHeads s (take n (map constructor xs)) hs → IsHead s (constructor x) h → new ≡ hs ++ h ∷ [] → AreHeads s (take (n + 1) (map constructor xs)) new
heads_step s xs n x hs new h lt is are head added =
    let one = heads_more s (take n (map constructor xs)) hs (constructor x) h are head in
    let e : n + 1 ≡ suc n = omega arith in
    let here : get_or (map constructor xs) n (constructor x) ≡ constructor x = get_or-map constructor xs n x (constructor x) lt ∙ ap constructor (sym is) in
    let long : n < length (map constructor xs) = omega (arith, lt, length-map xs constructor) in
    let grown : take n (map constructor xs) ++ constructor x ∷ [] ≡ take (n + 1) (map constructor xs) =
    ap (λ (z : ConstructorView). take n (map constructor xs) ++ z ∷ []) (sym here) ∙ sym (take-suc (map constructor xs) n (constructor x) long) ∙ ap (λ k. take k (map constructor xs)) (sym e) in
    let P : SchemaView → Type 0 = λ z. AreHeads s z new in
    let Q : List Head → Type 0 = λ z. AreHeads s (take n (map constructor xs) ++ constructor x ∷ []) z in
    subst P grown (subst Q (sym added) one)

-- the places of a type are those of heads
pub places_below : (t k : ℕ) (hs : List Head) → All (λ i. i < k + length hs) (places t k hs)
places_below t k [] j d lt = absurd (omega (arith, lt))
places_below t k (h ∷ hs) j d lt = at (nat_eq h.of_type t) j lt (λ l below. places_below t (suc k) hs l d below)
  where
    at : (b : Bool) (j : ℕ) → j < length (cond b (k ∷ places t (suc k) hs) (places t (suc k) hs))
        → ((l : ℕ) → l < length (places t (suc k) hs) → get_or (places t (suc k) hs) l d < suc k + length hs)
        → get_or (cond b (k ∷ places t (suc k) hs) (places t (suc k) hs)) j d < k + suc (length hs)
    at true zero lt rest = omega arith
    at true (suc j) lt rest = omega (arith, rest j (omega (arith, lt)))
    at false j lt rest = omega (arith, rest j lt)

pub members_within : (hs : List Head) (members : List (List ℕ)) → AreMembers hs members → All (All (λ i. i < length hs)) members
members_within hs members are k d lt j e below =
    let m = get_or members k d in
    let is : m ≡ places k 0 hs = index_or_from members k (places k 0 hs) d (are k lt) in
    let P : List ℕ → Type 0 = λ z. All (λ i. i < length hs) z in
    let z : 0 + length hs ≡ length hs = omega arith in
    let Q : ℕ → Type 0 = λ n. All (λ i. i < n) (places k 0 hs) in
    subst P (sym is) (subst Q z (places_below k 0 hs)) j e below
