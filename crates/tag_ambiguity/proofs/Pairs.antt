-- The refusals of pairs by places are those of pairs.
use Rattle.std.proofs.Common.{◌≡◌, ◌∙◌, ◌<◌, ◌≤◌, ◌+◌, ℕ, zero, suc, Bool, true, false, List, [], ◌∷◌, ◌++◌, length, take, drop, refl, sym, ap, subst, arith, append_assoc}
use Rattle.std.specs.Prelude.{Option, Some, slice_get, bytes_eq, nat_eq, cond, not, ◌&&◌}
use Rattle.std.specs.List.{flat_map}
use Rattle.std.proofs.lemmas.Slice.Eq.{bytes_eq-Decides}
use Rattle.tlb_syntax.specs.Tree.{SchemaView}
use Rattle.tlb_guard.specs.Numbering.{place_of}
use Rattle.core_form.specs.Core.{Word, Declaration, CoreSchema}
use Rattle.schema_core.specs.Cores.{declaration_of}
use Rattle.schema_leads.specs.Tags.{cores, tag_of}
use Rattle.schema_leads.specs.Separation.{are_separated}
use Rattle.accepted_schema.specs.NoneLaws.{both_none}
use Rattle.accepted_schema.specs.Refusals.{TagRefusal, ambiguous, first_of, of_pair, of_later, of_pairs, of_type_of}
use Rattle.lead_table.specs.declared.heads.Head.{Head}
use Rattle.lead_table.specs.Heads.{AreHeads, places}
use Rattle.tag_ambiguity.specs.declared.error.TagError.{TagError}
use Rattle.tag_ambiguity.specs.Judged.{IsFirst, Reports, of_types}
use Rattle.tag_ambiguity.specs.Pairs.{AtPlaces, against, against_all, against_later, pairs_at}
use Rattle.tag_ambiguity.proofs.Places.{not_before, placed, same_place}
use Rattle.tag_ambiguity.proofs.Firsts.{is_first_later, is_first_more, reported}
use Rattle.tag_ambiguity.proofs.Listing.{AreNumbers, are_numbers, at_place, core_at, head_at, left_at, next_of, some_same}

module _ (s : SchemaView) (all : CoreSchema) (x : Word) (t : ℕ) (numbered : place_of s x ≡ Some t) where
  one_pair : (d e : Declaration) → d.of_type ≡ x → bytes_eq e.of_type x ≡ true → against all d (Some e) ≡ of_pair all d e
  one_pair d e of_x same =
      by (are_separated all d e) (bytes_eq e.of_type d.of_type) (ap (bytes_eq e.of_type) of_x ∙ same)
    where
      by : (b test : Bool) → test ≡ true → cond b [] (ambiguous d.of_type d.shown e.shown ∷ []) ≡ cond (test && not b) (ambiguous d.of_type d.shown e.shown ∷ []) []
      by true true is = refl
      by false true is = refl
      by b false is = cc

  no_pair : (d e : Declaration) → d.of_type ≡ x → bytes_eq e.of_type x ≡ false → [] ≡ of_pair all d e
  no_pair d e of_x other =
      ap (λ b. cond (b && not (are_separated all d e)) (ambiguous d.of_type d.shown e.shown ∷ []) []) (sym (ap (bytes_eq e.of_type) of_x ∙ other))

  -- of a constructor of the type and later ones
  later_at : (d : Declaration) → d.of_type ≡ x → (k : ℕ) (es : CoreSchema) (hs : List Head) → AreNumbers s es hs → drop k all ≡ es
      → against_all all d (places t k hs) ≡ of_later all d es
  later_at d of_x k [] [] are left = refl
  later_at d of_x k [] (h ∷ hs) are left = absurd are
  later_at d of_x k (e ∷ es) [] are left = absurd are
  later_at d of_x k (e ∷ es) (h ∷ hs) are left =
      by (nat_eq h.of_type t) (same_place s x e.of_type t h.of_type numbered are.0)
      (later_at d of_x (suc k) es hs are.1 (next_of all k e es left).left)
    where
      next : slice_get all k ≡ Some e
      next = (next_of all k e es left).there

      by : (b : Bool) → b ≡ bytes_eq e.of_type x → against_all all d (places t (suc k) hs) ≡ of_later all d es
          → against_all all d (cond b (k ∷ places t (suc k) hs) (places t (suc k) hs)) ≡ of_pair all d e ++ of_later all d es
      by true same rest =
          ap (λ o. against all d o ++ against_all all d (places t (suc k) hs)) next
          ∙ ap (λ z. z ++ against_all all d (places t (suc k) hs)) (one_pair d e of_x (sym same))
          ∙ ap (λ z. of_pair all d e ++ z) rest
      by false other rest = rest ∙ ap (λ z. z ++ of_later all d es) (no_pair d e of_x (sym other))

  pub pairs_of_type : (k : ℕ) (ds : CoreSchema) (hs : List Head) → AreNumbers s ds hs → drop k all ≡ ds
      → pairs_at all (places t k hs) ≡ of_pairs all x ds
  pairs_of_type k [] [] are left = refl
  pairs_of_type k [] (h ∷ hs) are left = absurd are
  pairs_of_type k (d ∷ ds) [] are left = absurd are
  pairs_of_type k (d ∷ ds) (h ∷ hs) are left =
      by (nat_eq h.of_type t) (bytes_eq d.of_type x) (same_place s x d.of_type t h.of_type numbered are.0) refl
      (pairs_of_type (suc k) ds hs are.1 (next_of all k d ds left).left)
    where
      next : slice_get all k ≡ Some d
      next = (next_of all k d ds left).there

      after : drop (suc k) all ≡ ds
      after = (next_of all k d ds left).left

      by : (b test : Bool) → b ≡ test → bytes_eq d.of_type x ≡ test → pairs_at all (places t (suc k) hs) ≡ of_pairs all x ds
          → pairs_at all (cond b (k ∷ places t (suc k) hs) (places t (suc k) hs)) ≡ cond test (of_later all d ds) [] ++ of_pairs all x ds
      by true true same is rest =
          ap (λ o. against_later all o (places t (suc k) hs) ++ pairs_at all (places t (suc k) hs)) next
          ∙ ap (λ z. z ++ pairs_at all (places t (suc k) hs)) (later_at d ((bytes_eq-Decides d.of_type x).0 is) (suc k) ds hs are.1 after)
          ∙ ap (λ z. of_later all d ds ++ z) rest
      by false false same is rest = rest
      by true false same is rest = cc
      by false true same is rest = cc

-- ---- type by type

flat_more : {X Y : Type 0} (f : X → List Y) (xs : List X) (k : ℕ) (x : X) → slice_get xs k ≡ Some x
    → flat_map f (take (suc k) xs) ≡ flat_map f (take k xs) ++ f x
flat_more f [] k x e = cc
flat_more f (y ∷ xs) zero x e = ap (λ z. f z ++ []) (some_same y x e) ∙ nil (f x)
  where
    nil : {Y : Type 0} (ys : List Y) → ys ++ [] ≡ ys
    nil [] = refl
    nil (y ∷ ys) = ap (λ z. y ∷ z) (nil ys)
flat_more f (y ∷ xs) (suc k) x e = ap (λ z. f y ++ z) (flat_more f xs k x e) ∙ sym (append_assoc (f y) (flat_map f (take k xs)) (f x))

none_before : {X Y : Type 0} (f : X → List Y) (xs : List X) (k u : ℕ) (x : X) → flat_map f (take k xs) ≡ [] → u < k → slice_get xs u ≡ Some x → f x ≡ []
none_before f [] k u x none less e = cc
none_before f (y ∷ xs) zero u x none less e = absurd (omega (arith, less))
none_before f (y ∷ xs) (suc k) zero x none less e =
    subst (λ z. f z ≡ []) (some_same y x e) (both_none (f y) (flat_map f (take k xs)) none).first
none_before f (y ∷ xs) (suc k) (suc u) x none less e =
    none_before f xs k u x (both_none (f y) (flat_map f (take k xs)) none).second (omega (arith, less)) e

flat_parts : {X Y : Type 0} (f : X → List Y) (xs : List X) (k : ℕ) (x : X) → slice_get xs k ≡ Some x
    → flat_map f xs ≡ flat_map f (take k xs) ++ (f x ++ flat_map f (drop (suc k) xs))
flat_parts f [] k x e = cc
flat_parts f (y ∷ xs) zero x e = ap (λ z. f z ++ flat_map f xs) (some_same y x e)
flat_parts f (y ∷ xs) (suc k) x e =
    ap (λ z. f y ++ z) (flat_parts f xs k x e) ∙ sym (append_assoc (f y) (flat_map f (take k xs)) (f x ++ flat_map f (drop (suc k) xs)))

-- none so far
abbrev pub NoneBefore : SchemaView → ℕ → Type 0
NoneBefore s k = flat_map (of_type_of (cores s)) (take k (cores s)) ≡ []

-- what stands at a place: the constructor's core form and its head
pub record IsAt (s : SchemaView) (k : ℕ) (h : Head) : Type 0 where
  pub declaration : Declaration
  pub there : slice_get (cores s) k ≡ Some declaration
  pub numbered : place_of s declaration.of_type ≡ Some h.of_type
  pub no_later : h.of_type ≤ k
  pub tag : h.tag ≡ declaration.core.tag

pub is_at : (s : SchemaView) (hs : List Head) (k : ℕ) (h : Head) → AreHeads s s hs → slice_get hs k ≡ Some h → IsAt s k h
is_at s hs k h are there =
    let c = head_at s s hs k h are there in
    record {
      declaration = declaration_of s (tag_of c.constructor) (take k s) c.constructor;
      there = core_at s [] s k c.constructor c.there;
      numbered = c.head.of_type;
      no_later = not_before s k c.constructor h.of_type c.there c.head.of_type;
      tag = c.head.tag;
    }

-- at the first constructor of a type the refusals of its pairs are those of the type
pub at_first : (s : SchemaView) (hs : List Head) (k : ℕ) (h : Head) → AreHeads s s hs → (at : IsAt s k h) → h.of_type ≡ k
    → pairs_at (cores s) (places k 0 hs) ≡ of_type_of (cores s) at.declaration
at_first s hs k h are at is =
    pairs_of_type s (cores s) at.declaration.of_type k (at.numbered ∙ ap Some is) 0 (cores s) hs (are_numbers s [] s hs are) refl

-- at another there are none where there are none before
pub at_other : (s : SchemaView) (k : ℕ) (h : Head) (at : IsAt s k h) → (h.of_type ≡ k → ⊥) → NoneBefore s k
    → of_type_of (cores s) at.declaration ≡ []
at_other s k h at other none =
    let p = placed s at.declaration.of_type h.of_type at.numbered in
    let first = core_at s [] s h.of_type p.constructor p.there in
    let less : h.of_type < k = omega (arith, at.no_later, other) in
    ap (λ x. of_pairs (cores s) x (cores s)) (sym p.of_type)
    ∙ none_before (of_type_of (cores s)) (cores s) k h.of_type (declaration_of s (tag_of p.constructor) (take h.of_type s) p.constructor) none less first

pub one_more : (s : SchemaView) (k : ℕ) (h : Head) (at : IsAt s k h) → NoneBefore s k → of_type_of (cores s) at.declaration ≡ [] → NoneBefore s (k + 1)
one_more s k h at none here =
    let e : k + 1 ≡ suc k = omega arith in
    ap (λ n. flat_map (of_type_of (cores s)) (take n (cores s))) e
    ∙ flat_more (of_type_of (cores s)) (cores s) k at.declaration at.there
    ∙ ap (λ z. z ++ of_type_of (cores s) at.declaration) none ∙ here

-- so these are all, where there are none before: what comes first among them comes first
pub first_here : (s : SchemaView) (k : ℕ) (h : Head) (at : IsAt s k h) (e : TagError) → NoneBefore s k
    → IsFirst (of_type_of (cores s) at.declaration) e → IsFirst (of_types (cores s)) e
first_here s k h at e none first =
    let rest = flat_map (of_type_of (cores s)) (drop (suc k) (cores s)) in
    let P : List TagRefusal → Type 0 = λ z. IsFirst z e in
    subst P (sym (flat_parts (of_type_of (cores s)) (cores s) k at.declaration at.there))
    (is_first_later (flat_map (of_type_of (cores s)) (take k (cores s))) (of_type_of (cores s) at.declaration ++ rest) e none
    (is_first_more (of_type_of (cores s) at.declaration) rest e first))

-- ---- pairs

pub separated_pair : (s : CoreSchema) (i : ℕ) (rest : List ℕ) (o : Option Declaration) (d e : Declaration) → o ≡ Some d → slice_get s i ≡ Some e
    → are_separated s d e ≡ true → against_later s o (i ∷ rest) ≡ against_later s o rest
separated_pair s i rest o d e is there apart =
    ap (λ z. against_later s z (i ∷ rest)) is ∙ ap (λ z. against s d z ++ against_all s d rest) there
    ∙ ap (λ b. cond b [] (ambiguous d.of_type d.shown e.shown ∷ []) ++ against_all s d rest) apart
    ∙ ap (λ z. against_later s z rest) (sym is)

pub ambiguous_pair : (s : CoreSchema) (i : ℕ) (rest : List ℕ) (o : Option Declaration) (d e : Declaration) → o ≡ Some d → slice_get s i ≡ Some e
    → are_separated s d e ≡ false → first_of (against_later s o (i ∷ rest)) ≡ Some (ambiguous d.of_type d.shown e.shown)
ambiguous_pair s i rest o d e is there apart =
    ap (λ z. first_of (against_later s z (i ∷ rest))) is ∙ ap (λ z. first_of (against s d z ++ against_all s d rest)) there
    ∙ ap (λ b. first_of (cond b [] (ambiguous d.of_type d.shown e.shown ∷ []) ++ against_all s d rest)) apart

-- ---- a constructor and others

module _ (s : SchemaView) (i : ℕ) (others : List ℕ) (k j : ℕ) where
  abbrev so_far : ℕ → Type 0
  so_far n =
      against_later (cores s) (slice_get (cores s) i) others ≡ against_later (cores s) (slice_get (cores s) i) (drop n others)

  pub against_passes : (r : Bool) → i < length (cores s) → j < length (cores s) → slice_get others k ≡ Some j
      → AtPlaces s i j (λ d e. r ≡ are_separated (cores s) d e) → r ≡ true → so_far k → so_far (k + 1)
  against_passes r first second there answer on before =
      let d = at_place (cores s) i first in
      let e = at_place (cores s) j second in
      let n : suc k ≡ k + 1 = omega arith in
      before ∙ ap (against_later (cores s) (slice_get (cores s) i)) (left_at others k j there)
      ∙ separated_pair (cores s) j (drop (suc k) others) (slice_get (cores s) i) d.element e.element d.there e.there
      (sym (answer d.element e.element d.there e.there) ∙ on)
      ∙ ap (λ m. against_later (cores s) (slice_get (cores s) i) (drop m others)) n

  pub against_fails : (r : Bool) (error : TagError) → i < length (cores s) → j < length (cores s) → slice_get others k ≡ Some j
      → AtPlaces s i j (λ d e. r ≡ are_separated (cores s) d e) → r ≡ false
      → AtPlaces s i j (λ d e. Reports (ambiguous d.of_type d.shown e.shown) error) → so_far k
      → IsFirst (against_later (cores s) (slice_get (cores s) i) others) error
  against_fails r error first second there answer off reports before =
      let d = at_place (cores s) i first in
      let e = at_place (cores s) j second in
      reported (against_later (cores s) (slice_get (cores s) i) others) (ambiguous d.element.of_type d.element.shown e.element.shown) error
      (ap first_of (before ∙ ap (against_later (cores s) (slice_get (cores s) i)) (left_at others k j there))
      ∙ ambiguous_pair (cores s) j (drop (suc k) others) (slice_get (cores s) i) d.element e.element d.there e.there
      (sym (answer d.element e.element d.there e.there) ∙ off)) (reports d.element e.element d.there e.there)
