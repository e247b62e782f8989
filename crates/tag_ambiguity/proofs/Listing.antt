-- Constructors, core forms and heads, one by one.
use Rattle.std.proofs.Common.{◌≡◌, ◌∙◌, ◌<◌, ◌≤◌, ◌+◌, Bool, true, false, ℕ, zero, suc, List, [], ◌∷◌, ◌++◌, length, take, drop, refl, sym, ap, subst, arith, append_assoc, get_or, map}
use Rattle.std.specs.Prelude.{All, Result, Ok, Err, IfOk, Option, Some, None, cond, nat_eq, slice_get}
use Rattle.std.proofs.lemmas.List.{append-nil}
use Rattle.tlb_syntax.specs.Tree.{ConstructorView, SchemaView}
use Rattle.tlb_guard.specs.Numbering.{place_of}
use Rattle.core_form.specs.Core.{Word, Declaration, CoreSchema}
use Rattle.schema_core.specs.Cores as cores_of
use Rattle.schema_core.specs.Cores.{cores_after, declaration_of}
use Rattle.schema_leads.specs.Tags.{cores, tag_of}
use Rattle.lead_table.specs.declared.heads.Head.{Head}
use Rattle.lead_table.specs.Heads.{AreHeads, AreMembers, IsHead, places}
use Rattle.field_path.specs.declared.part.Part.{Part}
use Rattle.tlb_kinds.specs.declared.spot.Spot.{Spot}
use Rattle.tlb_kinds.specs.Spots as spots
use Rattle.tlb_memory.specs.declared.NoMemory.{NoMemory}

-- ---- elements at places

pub some_same : {X : Type 0} (x y : X) → Some x ≡ Some y → x ≡ y
some_same x y e = cc

pub record IsThere {X : Type 0} (xs : List X) (k : ℕ) : Type 0 where
  pub element : X
  pub there : slice_get xs k ≡ Some element

pub at_place : {X : Type 0} (xs : List X) (k : ℕ) → k < length xs → IsThere xs k
at_place [] k lt = absurd (omega (arith, lt))
at_place (x ∷ xs) zero lt = record { element = x; there = refl }
at_place (x ∷ xs) (suc k) lt =
    let r = at_place xs k (omega (arith, lt)) in record { element = r.element; there = r.there }

pub within : {X : Type 0} (xs : List X) (k : ℕ) (x : X) → slice_get xs k ≡ Some x → k < length xs
within [] k x e = cc
within (y ∷ xs) zero x e = omega arith
within (y ∷ xs) (suc k) x e = omega (arith, within xs k x e)

pub got : {X : Type 0} (xs : List X) (k : ℕ) (d : X) → k < length xs → slice_get xs k ≡ Some (get_or xs k d)
got [] k d lt = absurd (omega (arith, lt))
got (x ∷ xs) zero d lt = refl
got (x ∷ xs) (suc k) d lt = got xs k d (omega (arith, lt))

pub mapped : {X Y : Type 0} (f : X → Y) (xs : List X) (k : ℕ) (x : X) → slice_get xs k ≡ Some x → slice_get (map f xs) k ≡ Some (f x)
mapped f [] k x e = cc
mapped f (y ∷ xs) zero x e = ap (λ z. Some (f z)) (some_same y x e)
mapped f (y ∷ xs) (suc k) x e = mapped f xs k x e

pub whole : {X : Type 0} (xs : List X) (k : ℕ) → length xs ≤ k → take k xs ≡ xs
whole [] zero le = refl
whole [] (suc k) le = refl
whole (x ∷ xs) zero le = absurd (omega (arith, le))
whole (x ∷ xs) (suc k) le = ap (λ z. x ∷ z) (whole xs k (omega (arith, le)))

pub none_after : {X : Type 0} (xs : List X) (k : ℕ) → length xs ≤ k → drop k xs ≡ []
none_after [] zero le = refl
none_after [] (suc k) le = refl
none_after (x ∷ xs) zero le = absurd (omega (arith, le))
none_after (x ∷ xs) (suc k) le = none_after xs k (omega (arith, le))

-- what is left from a place on
pub left_at : {X : Type 0} (xs : List X) (k : ℕ) (x : X) → slice_get xs k ≡ Some x → drop k xs ≡ x ∷ drop (suc k) xs
left_at [] k x e = cc
left_at (y ∷ xs) zero x e = ap (λ z. z ∷ xs) (some_same y x e)
left_at (y ∷ xs) (suc k) x e = left_at xs k x e

pub record IsNext {X : Type 0} (xs : List X) (k : ℕ) (x : X) (rest : List X) : Type 0 where
  pub there : slice_get xs k ≡ Some x
  pub left : drop (suc k) xs ≡ rest

pub next_of : {X : Type 0} (xs : List X) (k : ℕ) (x : X) (rest : List X) → drop k xs ≡ x ∷ rest → IsNext xs k x rest
next_of [] zero x rest e = cc
next_of [] (suc k) x rest e = cc
next_of (y ∷ xs) zero x rest e =
    let is : y ≡ x = cc in
    let left : xs ≡ rest = cc in
    record { there = ap Some is; left = left }
next_of (y ∷ xs) (suc k) x rest e = let r = next_of xs k x rest e in record { there = r.there; left = r.left }

-- ---- core forms

pub core_at : (types before cs : SchemaView) (k : ℕ) (c : ConstructorView) → slice_get cs k ≡ Some c
    → slice_get (cores_after types tag_of before cs) k ≡ Some (declaration_of types (tag_of c) (before ++ take k cs) c)
core_at types before [] k c e = cc
core_at types before (d ∷ cs) zero c e =
    ap (λ (z : ConstructorView). Some (declaration_of types (tag_of z) before z)) (some_same d c e)
    ∙ ap (λ z. Some (declaration_of types (tag_of c) z c)) (sym (append-nil before))
core_at types before (d ∷ cs) (suc k) c e =
    core_at types (before ++ d ∷ []) cs k c e
    ∙ ap (λ z. Some (declaration_of types (tag_of c) z c)) (append_assoc before (d ∷ []) (take k cs))

pub core_count : (types before cs : SchemaView) → length (cores_after types tag_of before cs) ≡ length cs
core_count types before [] = refl
core_count types before (c ∷ cs) = ap suc (core_count types (before ++ c ∷ []) cs)

-- a core form is that of a constructor
pub record IsCore (types cs : SchemaView) (k : ℕ) (d : Declaration) : Type 0 where
  pub constructor : ConstructorView
  pub there : slice_get cs k ≡ Some constructor
  pub core : d ≡ declaration_of types (tag_of constructor) (take k cs) constructor

pub core_of_place : (s : SchemaView) (k : ℕ) (d : Declaration) → slice_get (cores s) k ≡ Some d → IsCore s s k d
core_of_place s k d e =
    let lt : k < length s = omega (arith, within (cores s) k d e, core_count s [] s) in
    let c = at_place s k lt in
    record {
      constructor = c.element;
      there = c.there;
      core = some_same d (declaration_of s (tag_of c.element) (take k s) c.element) (sym e ∙ core_at s [] s k c.element c.there);
    }

pub same_shown : (name : Option Word) (n : ℕ) → spots.shown_name name n ≡ cores_of.shown_name name n
same_shown (Some x) n = refl
same_shown None n = refl

-- ---- where a constructor stands

core_there : (s : SchemaView) (k : ℕ) (c : ConstructorView) (d : Declaration) → slice_get s k ≡ Some c → slice_get (cores s) k ≡ Some d
    → declaration_of s (tag_of c) (take k s) c ≡ d
core_there s k c d there at = some_same (declaration_of s (tag_of c) (take k s) c) d (sym (core_at s [] s k c there) ∙ at)

pub type_of_spot : (s before : SchemaView) (k : ℕ) (c : ConstructorView) (path : List Part) → slice_get s k ≡ Some c
    → (r : Result Spot NoMemory) → IfOk r (λ (found : Spot). found ≡ spots.spot (spots.heading before c) path)
    → IfOk r (λ (found : Spot). (d : Declaration) → slice_get (cores s) k ≡ Some d → found.type_name ≡ d.of_type)
type_of_spot s before k c path there (Err e) h = tt
type_of_spot s before k c path there (Ok found) h = λ d at.
    ap (λ (f : Spot). f.type_name) h ∙ ap (λ (e : Declaration). e.of_type) (core_there s k c d there at)

pub shown_of_spot : (s before : SchemaView) (k : ℕ) (c : ConstructorView) (path : List Part) → before ≡ take k s → slice_get s k ≡ Some c
    → (r : Result Spot NoMemory) → IfOk r (λ (found : Spot). found ≡ spots.spot (spots.heading before c) path)
    → IfOk r (λ (found : Spot). (d : Declaration) → slice_get (cores s) k ≡ Some d → found.constructor ≡ d.shown)
shown_of_spot s before k c path is there (Err e) h = tt
shown_of_spot s before k c path is there (Ok found) h = λ d at.
    ap (λ (f : Spot). f.constructor) h ∙ ap (λ z. spots.shown_name c.name (spots.number_of (spots.heading z c))) is
    ∙ same_shown c.name (cores_of.number_after (take k s) c) ∙ ap (λ (e : Declaration). e.shown) (core_there s k c d there at)

pub taken : {X Y : Type 0} (f : X → Y) (xs : List X) (k : ℕ) → map f (take k xs) ≡ take k (map f xs)
taken f [] zero = refl
taken f [] (suc k) = refl
taken f (x ∷ xs) zero = refl
taken f (x ∷ xs) (suc k) = ap (λ z. f x ∷ z) (taken f xs k)

-- ---- heads

pub head_count : (s cs : SchemaView) (hs : List Head) → AreHeads s cs hs → length hs ≡ length cs
head_count s [] [] are = refl
head_count s [] (h ∷ hs) are = absurd are
head_count s (c ∷ cs) [] are = absurd are
head_count s (c ∷ cs) (h ∷ hs) are = ap suc (head_count s cs hs are.1)

pub record IsHeadOf (s cs : SchemaView) (k : ℕ) (h : Head) : Type 0 where
  pub constructor : ConstructorView
  pub there : slice_get cs k ≡ Some constructor
  pub head : IsHead s constructor h

pub head_at : (s cs : SchemaView) (hs : List Head) (k : ℕ) (h : Head) → AreHeads s cs hs → slice_get hs k ≡ Some h → IsHeadOf s cs k h
head_at s [] [] k h are e = cc
head_at s [] (g ∷ hs) k h are e = absurd are
head_at s (c ∷ cs) [] k h are e = absurd are
head_at s (c ∷ cs) (g ∷ hs) zero h are e =
    let is : g ≡ h = some_same g h e in
    let P : Head → Type 0 = λ z. IsHead s c z in
    record { constructor = c; there = refl; head = subst P is are.0 }
head_at s (c ∷ cs) (g ∷ hs) (suc k) h are e =
    let r = head_at s cs hs k h are.1 e in record { constructor = r.constructor; there = r.there; head = r.head }

-- the type of each is that of the head's number
abbrev pub AreNumbers : SchemaView → CoreSchema → List Head → Type 0
AreNumbers s [] [] = Unit {0}
AreNumbers s [] (h ∷ hs) = ⊥
AreNumbers s (d ∷ ds) [] = ⊥
AreNumbers s (d ∷ ds) (h ∷ hs) = (place_of s d.of_type ≡ Some h.of_type) × AreNumbers s ds hs

pub are_numbers : (s before cs : SchemaView) (hs : List Head) → AreHeads s cs hs → AreNumbers s (cores_after s tag_of before cs) hs
are_numbers s before [] [] are = tt
are_numbers s before [] (h ∷ hs) are = absurd are
are_numbers s before (c ∷ cs) [] are = absurd are
are_numbers s before (c ∷ cs) (h ∷ hs) are = (are.0.of_type, are_numbers s (before ++ c ∷ []) cs hs are.1)

-- ---- the places of a type's heads

places_below : (t k : ℕ) (hs : List Head) → All (λ i. i < k + length hs) (places t k hs)
places_below t k [] j d lt = absurd (omega (arith, lt))
places_below t k (h ∷ hs) j d lt = at (nat_eq h.of_type t) j lt (λ l below. places_below t (suc k) hs l d below)
  where
    at : (b : Bool) (j : ℕ) → j < length (cond b (k ∷ places t (suc k) hs) (places t (suc k) hs))
        → ((l : ℕ) → l < length (places t (suc k) hs) → get_or (places t (suc k) hs) l d < suc k + length hs)
        → get_or (cond b (k ∷ places t (suc k) hs) (places t (suc k) hs)) j d < k + suc (length hs)
    at true zero lt rest = omega arith
    at true (suc j) lt rest = omega (arith, rest j (omega (arith, lt)))
    at false j lt rest = omega (arith, rest j lt)

pub record AreMembersAt (hs : List Head) (k n : ℕ) (m : List ℕ) : Type 0 where
  pub are : m ≡ places k 0 hs
  pub below : All (λ i. i < n) m

pub members_at : (hs : List Head) (members : List (List ℕ)) (k n : ℕ) (m d : List ℕ) → AreMembers hs members → k < length members
    → m ≡ get_or members k d → length hs ≡ n → AreMembersAt hs k n m
members_at hs members k n m d are lt is count =
    let there : slice_get members k ≡ Some m = got members k d lt ∙ ap Some (sym is) in
    let same : m ≡ places k 0 hs = some_same m (places k 0 hs) (sym there ∙ are k lt) in
    let e : 0 + length hs ≡ n = omega (arith, count) in
    let P : ℕ → Type 0 = λ z. All (λ i. i < z) (places k 0 hs) in
    let Q : List ℕ → Type 0 = λ z. All (λ i. i < n) z in
    record { are = same; below = subst Q (sym same) (subst P e (places_below k 0 hs)) }
