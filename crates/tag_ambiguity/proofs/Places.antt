-- The places of types in a schema.
use Rattle.std.proofs.Common.{◌≡◌, ◌∙◌, ◌≤◌, ◌+◌, ℕ, zero, suc, Bool, true, false, [], ◌∷◌, length, refl, sym, ap, arith}
use Rattle.std.specs.List.{prefix_len}
use Rattle.std.specs.Prelude.{not, cond, Option, Some, None, option_map, slice_get, nat_lt, nat_eq, bytes_eq}
use Rattle.std.proofs.lemmas.Bool.{eqb-true, eqb-false}
use Rattle.std.proofs.lemmas.Bool.Decides.{nat_tests}
use Rattle.std.proofs.lemmas.Slice.Eq.{bytes_eq-Decides}
use Rattle.tlb_syntax.specs.Tree.{ConstructorView, SchemaView}
use Rattle.kind_terms.specs.Words.{Word}
use Rattle.tlb_guard.specs.Numbering.{place_of}

at_first : (b : Bool) (n m : ℕ) → cond (nat_lt (cond (not b) (1 + n) 0) (suc m)) (Some (cond (not b) (1 + n) 0)) None
    ≡ cond b (Some 0) (option_map suc (cond (nat_lt n m) (Some n) None))
at_first true n m = grind (arith, nat_tests)
at_first false n m = later (nat_lt n m) refl
  where
    later : (b : Bool) → nat_lt n m ≡ b → cond (nat_lt (1 + n) (suc m)) (Some (1 + n)) None ≡ option_map suc (cond b (Some n) None)
    later true e = grind (arith, nat_tests)
    later false e = grind (arith, nat_tests)

-- the place of a type is that of the first constructor, or one more than among the others
pub place_cons : (c : ConstructorView) (cs : SchemaView) (x : Word)
    → place_of (c ∷ cs) x ≡ cond (bytes_eq c.result x) (Some 0) (option_map suc (place_of cs x))
place_cons c cs x = at_first (bytes_eq c.result x) (prefix_len (λ (d : ConstructorView). not (bytes_eq d.result x)) cs) (length cs)

pub some_same : {X : Type 0} (x y : X) → Some x ≡ Some y → x ≡ y
some_same x y e = cc

-- a constructor of the type stands at its place
pub record IsPlaced (s : SchemaView) (x : Word) (n : ℕ) : Type 0 where
  pub constructor : ConstructorView
  pub there : slice_get s n ≡ Some constructor
  pub of_type : constructor.result ≡ x

placed_at : (c : ConstructorView) (cs : SchemaView) (x : Word) (b : Bool) → bytes_eq c.result x ≡ b → (o : Option ℕ) (n : ℕ)
    → ((m : ℕ) → o ≡ Some m → IsPlaced cs x m) → cond b (Some 0) (option_map suc o) ≡ Some n → IsPlaced (c ∷ cs) x n
placed_at c cs x true is o zero rest e = record { constructor = c; there = refl; of_type = (bytes_eq-Decides c.result x).0 is }
placed_at c cs x true is o (suc n) rest e = cc
placed_at c cs x false is (Some m) zero rest e = cc
placed_at c cs x false is (Some m) (suc n) rest e =
    let out : suc m ≡ suc n = some_same (suc m) (suc n) e in
    let same : m ≡ n = omega (arith, out) in
    let r = rest n (ap Some same) in
    record { constructor = r.constructor; there = r.there; of_type = r.of_type }
placed_at c cs x false is None n rest e = cc

pub placed : (s : SchemaView) (x : Word) (n : ℕ) → place_of s x ≡ Some n → IsPlaced s x n
placed [] x n e = cc
placed (c ∷ cs) x n e = placed_at c cs x (bytes_eq c.result x) refl (place_of cs x) n (placed cs x) (sym (place_cons c cs x) ∙ e)

-- types at one place are one
pub same_type : (s : SchemaView) (x y : Word) (n : ℕ) → place_of s x ≡ Some n → place_of s y ≡ Some n → x ≡ y
same_type s x y n by_x by_y =
    let p = placed s x n by_x in
    let q = placed s y n by_y in
    let one : p.constructor ≡ q.constructor = some_same p.constructor q.constructor (sym p.there ∙ q.there) in
    sym p.of_type ∙ ap (λ (c : ConstructorView). c.result) one ∙ q.of_type

-- whether two types are one, by their places
pub same_place : (s : SchemaView) (x y : Word) (n m : ℕ) → place_of s x ≡ Some n → place_of s y ≡ Some m → nat_eq m n ≡ bytes_eq y x
same_place s x y n m by_x by_y = by (nat_eq m n) refl
  where
    by : (b : Bool) → nat_eq m n ≡ b → b ≡ bytes_eq y x
    by true is = sym ((bytes_eq-Decides y x).1 (same_type s y x n (by_y ∙ ap Some (eqb-true m n is)) by_x))
    by false is = other (bytes_eq y x) refl
      where
        other : (b : Bool) → bytes_eq y x ≡ b → false ≡ b
        other true e = absurd (eqb-false m n is (some_same m n (sym by_y ∙ ap (place_of s) ((bytes_eq-Decides y x).0 e) ∙ by_x)))
        other false e = refl

-- no constructor of a type stands before the place of the type
not_before_at : (c : ConstructorView) (cs : SchemaView) (x : Word) (b : Bool) (o : Option ℕ) (k n : ℕ)
    → ((m : ℕ) → o ≡ Some m → m ≤ k) → cond b (Some 0) (option_map suc o) ≡ Some n → n ≤ suc k
not_before_at c cs x true o k n rest e = omega (arith, some_same zero n e)
not_before_at c cs x false (Some m) k n rest e = omega (arith, some_same (suc m) n e, rest m refl)
not_before_at c cs x false None k n rest e = cc

pub not_before : (s : SchemaView) (k : ℕ) (c : ConstructorView) (n : ℕ) → slice_get s k ≡ Some c → place_of s c.result ≡ Some n → n ≤ k
not_before [] k c n there e = cc
not_before (d ∷ cs) zero c n there e =
    let is : d ≡ c = some_same d c there in
    let same : bytes_eq d.result c.result ≡ true = (bytes_eq-Decides d.result c.result).1 (ap (λ (z : ConstructorView). z.result) is) in
    let at : zero ≡ n = some_same zero n (sym (ap (λ b. cond b (Some 0) (option_map suc (place_of cs c.result))) same) ∙ sym (place_cons d cs c.result) ∙ e) in
    omega (arith, at)
not_before (d ∷ cs) (suc k) c n there e =
    not_before_at d cs c.result (bytes_eq d.result c.result) (place_of cs c.result) k n (λ m is. not_before cs k c m there is)
    (sym (place_cons d cs c.result) ∙ e)
