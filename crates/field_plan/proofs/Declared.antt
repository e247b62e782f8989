-- Declarations by their places, and places by types.
use Rattle.std.proofs.Common.{◌≡◌, ◌∙◌, ◌<◌, ◌≤◌, ◌+◌, Bool, true, false, cond, ℕ, zero, suc, List, [], ◌∷◌, ◌++◌, length, take, refl, sym, ap}
use Rattle.std.proofs.Common.{arith, append_assoc, bytes_eq, get_or, not, Some, slice_get}
use Rattle.std.proofs.lemmas.List.{append-nil, length-take}
use Rattle.std.proofs.lemmas.List.Filters.{length-filter_both}
use Rattle.std.proofs.lemmas.Option.{same_Some, slice_get-get_or}
use Rattle.std.proofs.lemmas.Slice.Eq.{bytes_eq-Decides}
use Rattle.tlb_syntax.specs.Tree.{ConstructorView, SchemaView}
use Rattle.kind_terms.specs.Dictionaries.{of_type}
use Rattle.kind_terms.specs.Words.{Word}
use Rattle.core_form.specs.Core.{Declaration}
use Rattle.schema_core.specs.Cores.{cores_after, declaration_of}
use Rattle.schema_leads.specs.Tags.{tag_of}
use Rattle.type_index.specs.Index.{places_after}

-- ---- core forms

pub core_count : (types before cs : SchemaView) → length (cores_after types tag_of before cs) ≡ length cs
core_count types before [] = refl
core_count types before (c ∷ cs) = ap suc (core_count types (before ++ c ∷ []) cs)

-- the declaration that a core form is of
pub record IsOf (types before cs : SchemaView) (i : ℕ) (d : Declaration) : Type 0 where
  pub constructor : ConstructorView
  pub there : slice_get cs i ≡ Some constructor
  pub is : d ≡ declaration_of types (tag_of constructor) (before ++ take i cs) constructor

core_here : (types before cs : SchemaView) (c : ConstructorView) (d : Declaration)
    → Some (declaration_of types (tag_of c) before c) ≡ Some d → IsOf types before (c ∷ cs) zero d
core_here types before cs c d e = record {
  constructor = c;
  there = refl;
  is =
      sym (same_Some (declaration_of types (tag_of c) before c) d e)
      ∙ ap (λ z. declaration_of types (tag_of c) z c) (sym (append-nil before));
}

pub core_at : (types before cs : SchemaView) (i : ℕ) (d : Declaration) → slice_get (cores_after types tag_of before cs) i ≡ Some d
    → IsOf types before cs i d
core_at types before [] i d e = cc
core_at types before (c ∷ cs) zero d e = core_here types before cs c d e
core_at types before (c ∷ cs) (suc i) d e =
    let r = core_at types (before ++ c ∷ []) cs i d e in record {
      constructor = r.constructor;
      there = r.there;
      is =
          r.is
          ∙ ap (λ z. declaration_of types (tag_of r.constructor) z r.constructor) (append_assoc before (c ∷ []) (take i cs));
    }

pub core_of : (types before cs : SchemaView) (i : ℕ) (c : ConstructorView) → slice_get cs i ≡ Some c
    → slice_get (cores_after types tag_of before cs) i ≡ Some (declaration_of types (tag_of c) (before ++ take i cs) c)
core_of types before [] i c e = cc
core_of types before (d ∷ cs) zero c e =
    ap (λ (z : ConstructorView). Some (declaration_of types (tag_of z) before z)) (same_Some d c e)
    ∙ ap (λ z. Some (declaration_of types (tag_of c) z c)) (sym (append-nil before))
core_of types before (d ∷ cs) (suc i) c e =
    core_of types (before ++ d ∷ []) cs i c e
    ∙ ap (λ z. Some (declaration_of types (tag_of c) z c)) (append_assoc before (d ∷ []) (take i cs))

-- ---- how many of a type stand before a place

of_type_here : (x : Word) (c : ConstructorView) (cs : SchemaView) → c.result ≡ x → of_type (c ∷ cs) x ≡ c ∷ of_type cs x
of_type_here x c cs e =
    ap (λ (b : Bool). cond b (c ∷ of_type cs x) (of_type cs x)) ((bytes_eq-Decides c.result x).1 e)

-- no more than there are
pub few_of : (s : SchemaView) (i : ℕ) (x : Word) → length s ≤ 4096 → length (of_type (take i s) x) ≤ 4096
few_of s i x few =
    let kept = length-filter_both (λ (c : ConstructorView). bytes_eq c.result x)
    (λ (c : ConstructorView). not (bytes_eq c.result x)) (λ c. refl) (take i s) in
    omega (arith, few, kept, length-take i s)

-- a declaration at a place, which is of this type, and so many of the type before it
pub record StandsAt (cs : SchemaView) (x : Word) (i q : ℕ) : Type 0 where
  pub constructor : ConstructorView
  pub there : slice_get cs q ≡ Some constructor
  pub type : constructor.result ≡ x
  pub before : length (of_type (take q cs) x) ≡ i

-- the place of the declaration of the type that so many come before
pub record IsPlace (n : ℕ) (cs : SchemaView) (x : Word) (i p : ℕ) : Type 0 where
  pub place : ℕ
  pub is : p ≡ n + place
  pub stands : StandsAt cs x i place

counted_here : (x : Word) (c : ConstructorView) (cs : SchemaView) (q : ℕ) → bytes_eq c.result x ≡ true
    → length (of_type (take (suc q) (c ∷ cs)) x) ≡ suc (length (of_type (take q cs) x))
counted_here x c cs q e =
    ap (λ (b : Bool). length (cond b (c ∷ of_type (take q cs) x) (of_type (take q cs) x))) e

counted_other : (x : Word) (c : ConstructorView) (cs : SchemaView) (q : ℕ) → bytes_eq c.result x ≡ false
    → length (of_type (take (suc q) (c ∷ cs)) x) ≡ length (of_type (take q cs) x)
counted_other x c cs q e =
    ap (λ (b : Bool). length (cond b (c ∷ of_type (take q cs) x) (of_type (take q cs) x))) e

-- one declaration further on
place_later : (n : ℕ) (c : ConstructorView) (cs : SchemaView) (x : Word) (i j p : ℕ) → IsPlace (n + 1) cs x i p
    → ((q : ℕ) → length (of_type (take q cs) x) ≡ i → length (of_type (take (suc q) (c ∷ cs)) x) ≡ j)
    → IsPlace n (c ∷ cs) x j p
place_later n c cs x i j p r count = record {
  place = suc r.place;
  is = omega (arith, r.is);
  stands = record {
    constructor = r.stands.constructor;
    there = r.stands.there;
    type = r.stands.type;
    before = count r.place r.stands.before;
  };
}

place_here : (n : ℕ) (c : ConstructorView) (cs : SchemaView) (x : Word) (p : ℕ) → Some n ≡ Some p → bytes_eq c.result x ≡ true
    → IsPlace n (c ∷ cs) x zero p
place_here n c cs x p e is = record {
  place = zero;
  is = omega (arith, same_Some n p e);
  stands = record { constructor = c; there = refl; type = (bytes_eq-Decides c.result x).0 is; before = refl };
}

pub place_is : (n : ℕ) (cs : SchemaView) (x : Word) (i p : ℕ) → slice_get (places_after n cs x) i ≡ Some p → IsPlace n cs x i p
place_is n [] x i p e = cc
place_is n (c ∷ cs) x i p e = by (bytes_eq c.result x) refl i e (λ i e. place_is (n + 1) cs x i p e)
  where
    by : (b : Bool) → bytes_eq c.result x ≡ b → (i : ℕ)
        → slice_get (cond b (n ∷ places_after (n + 1) cs x) (places_after (n + 1) cs x)) i ≡ Some p
        → ((i : ℕ) → slice_get (places_after (n + 1) cs x) i ≡ Some p → IsPlace (n + 1) cs x i p) → IsPlace n (c ∷ cs) x i p
    by true is zero e more = place_here n c cs x p e is
    by true is (suc i) e more = place_later n c cs x i (suc i) p (more i e) (λ q k. counted_here x c cs q is ∙ ap suc k)
    by false is i e more = place_later n c cs x i i p (more i e) (λ q k. counted_other x c cs q is ∙ k)

pub place_of : (n : ℕ) (cs : SchemaView) (x : Word) (q : ℕ) (c : ConstructorView) → slice_get cs q ≡ Some c → c.result ≡ x
    → slice_get (places_after n cs x) (length (of_type (take q cs) x)) ≡ Some (n + q)
place_of n [] x q c e type = cc
place_of n (d ∷ cs) x zero c e type =
    let same : d ≡ c = same_Some d c e in
    let is : bytes_eq d.result x ≡ true = (bytes_eq-Decides d.result x).1 (ap (λ (z : ConstructorView). z.result) same ∙ type) in
    ap (λ (b : Bool). slice_get (cond b (n ∷ places_after (n + 1) cs x) (places_after (n + 1) cs x)) zero) is
    ∙ ap Some (omega arith)
place_of n (d ∷ cs) x (suc q) c e type =
    by (bytes_eq d.result x) refl (place_of (n + 1) cs x q c e type ∙ ap Some (omega arith))
  where
    by : (b : Bool) → bytes_eq d.result x ≡ b
        → slice_get (places_after (n + 1) cs x) (length (of_type (take q cs) x)) ≡ Some (n + suc q)
        → slice_get (cond b (n ∷ places_after (n + 1) cs x) (places_after (n + 1) cs x)) (length (of_type (take (suc q) (d ∷ cs)) x))
        ≡ Some (n + suc q)
    by true is rest = ap (λ k. slice_get (n ∷ places_after (n + 1) cs x) k) (counted_here x d cs q is) ∙ rest
    by false is rest = ap (λ k. slice_get (places_after (n + 1) cs x) k) (counted_other x d cs q is) ∙ rest

-- ---- places ascend

place_above : (n : ℕ) (cs : SchemaView) (x : Word) (i : ℕ) → i < length (places_after n cs x) → n ≤ get_or (places_after n cs x) i 0
place_above n cs x i lt =
    let r = place_is n cs x i (get_or (places_after n cs x) i 0) (slice_get-get_or (places_after n cs x) i 0 lt) in
    omega (arith, r.is)

pub places_ascend : (n : ℕ) (cs : SchemaView) (x : Word) (i j : ℕ) → i ≤ j → j < length (places_after n cs x)
    → get_or (places_after n cs x) i 0 ≤ get_or (places_after n cs x) j 0
places_ascend n [] x i j le lt = absurd (omega (arith, lt))
places_ascend n (c ∷ cs) x i j le lt = by (bytes_eq c.result x) i j le lt (λ i j. places_ascend (n + 1) cs x i j)
  where
    rest : List ℕ
    rest = places_after (n + 1) cs x

    by : (b : Bool) (i j : ℕ) → i ≤ j → j < length (cond b (n ∷ rest) rest)
        → ((i j : ℕ) → i ≤ j → j < length rest → get_or rest i 0 ≤ get_or rest j 0)
        → get_or (cond b (n ∷ rest) rest) i 0 ≤ get_or (cond b (n ∷ rest) rest) j 0
    by true zero zero le lt more = omega arith
    by true zero (suc j) le lt more = omega (arith, place_above (n + 1) cs x j (omega (arith, lt)))
    by true (suc i) zero le lt more = absurd (omega (arith, le))
    by true (suc i) (suc j) le lt more = more i j (omega (arith, le)) (omega (arith, lt))
    by false i j le lt more = more i j le lt
