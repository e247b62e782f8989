-- The places of types in a schema, and of elements in lists.
use Rattle.std.proofs.Common.{◌≡◌, ℕ, zero, suc, ◌+◌, ◌<◌, ◌≤◌, Bool, true, false, List, [], ◌∷◌, length, refl, sym, ap, ◌∙◌, subst, arith, set}
use Rattle.std.specs.List.{prefix_len}
use Rattle.std.specs.Prelude.{not, cond, Option, Some, None, option_map, slice_get, nat_lt, bytes_eq, position}
use Rattle.std.proofs.lemmas.Bool.{false≢true}
use Rattle.std.proofs.lemmas.Bool.Decides.{nat_tests}
use Rattle.std.proofs.lemmas.Slice.Eq.{bytes_eq-Decides}
use Rattle.tlb_syntax.specs.Tree.{ConstructorView, SchemaView}
use Rattle.kind_terms.specs.Words.{Word}
use Rattle.kind_terms.specs.Dictionaries.{of_type}
use Rattle.tlb_guard.specs.Numbering.{place_of, word_at}
use Rattle.lead_table.specs.Heads.{IsNumber}

at_first : (b : Bool) (n m : ℕ) → cond (nat_lt (cond (not b) (1 + n) 0) (suc m)) (Some (cond (not b) (1 + n) 0)) None
    ≡ cond b (Some 0) (option_map suc (cond (nat_lt n m) (Some n) None))
at_first true n m = grind (arith, nat_tests)
at_first false n m = later (nat_lt n m) refl
  where
    later : (b : Bool) → nat_lt n m ≡ b → cond (nat_lt (1 + n) (suc m)) (Some (1 + n)) None ≡ option_map suc (cond b (Some n) None)
    later true e = grind (arith, nat_tests)
    later false e = grind (arith, nat_tests)

-- the place of a type is that of the first constructor, or one more than among the others
pub place_cons : (c : ConstructorView) (cs : SchemaView) (x : Word)
    → place_of (c ∷ cs) x ≡ cond (bytes_eq c.result x) (Some 0) (option_map suc (place_of cs x))
place_cons c cs x = at_first (bytes_eq c.result x) (prefix_len (λ (d : ConstructorView). not (bytes_eq d.result x)) cs) (length cs)

-- the place of a word is that of a constructor of this type
pub record IsPlaced (s : SchemaView) (x : Word) (n : ℕ) : Type 0 where
  pub below : n < length s
  pub word : word_at s n ≡ x

placed_at : (c : ConstructorView) (cs : SchemaView) (x : Word) (b : Bool) → bytes_eq c.result x ≡ b → (o : Option ℕ) (n : ℕ)
    → ((m : ℕ) → o ≡ Some m → IsPlaced cs x m) → cond b (Some 0) (option_map suc o) ≡ Some n → IsPlaced (c ∷ cs) x n
placed_at c cs x true is o zero rest e = record { below = omega arith; word = (bytes_eq-Decides c.result x).0 is }
placed_at c cs x true is o (suc n) rest e = cc
placed_at c cs x false is (Some m) n rest e =
    let same : suc m ≡ n = cc in
    let r = rest m refl in
    let next : IsPlaced (c ∷ cs) x (suc m) = record { below = omega (arith, r.below); word = r.word } in
    let P : ℕ → Type 0 = λ k. IsPlaced (c ∷ cs) x k in
    subst P same next
placed_at c cs x false is None n rest e = cc

pub place_word : (s : SchemaView) (x : Word) (n : ℕ) → place_of s x ≡ Some n → IsPlaced s x n
place_word [] x n e = cc
place_word (c ∷ cs) x n e =
    placed_at c cs x (bytes_eq c.result x) refl (place_of cs x) n (place_word cs x) (sym (place_cons c cs x) ∙ e)

-- a place of a word is a number of a type
pub place_number : (s : SchemaView) (x : Word) (n : ℕ) → place_of s x ≡ Some n → IsNumber s n
place_number s x n e = ap (place_of s) (place_word s x n e).word ∙ e

no_place_at : (c : ConstructorView) (cs : SchemaView) (x : Word) (b : Bool) → (o : Option ℕ) → (o ≡ None → of_type cs x ≡ [])
    → cond b (Some 0) (option_map suc o) ≡ None → cond b (c ∷ of_type cs x) (of_type cs x) ≡ []
no_place_at c cs x true o rest e = cc
no_place_at c cs x false None rest e = rest refl
no_place_at c cs x false (Some n) rest e = cc

-- a word without a place has no constructor
pub no_place : (s : SchemaView) (x : Word) → place_of s x ≡ None → of_type s x ≡ []
no_place [] x e = refl
no_place (c ∷ cs) x e =
    no_place_at c cs x (bytes_eq c.result x) (place_of cs x) (no_place cs x) (sym (place_cons c cs x) ∙ e)

-- one with a place has some
pub record HasSome (ds : SchemaView) : Type 0 where
  pub first : ConstructorView
  pub rest : SchemaView
  pub are : ds ≡ first ∷ rest

has_some_at : (c : ConstructorView) (cs : SchemaView) (x : Word) (b : Bool) (o : Option ℕ) → ((m : ℕ) → o ≡ Some m → HasSome (of_type cs x)) → (n : ℕ)
    → cond b (Some 0) (option_map suc o) ≡ Some n → HasSome (cond b (c ∷ of_type cs x) (of_type cs x))
has_some_at c cs x true o rest n e = record { first = c; rest = of_type cs x; are = refl }
has_some_at c cs x false (Some m) rest n e = rest m refl
has_some_at c cs x false None rest n e = cc

pub some_placed : (s : SchemaView) (x : Word) (n : ℕ) → place_of s x ≡ Some n → HasSome (of_type s x)
some_placed [] x n e = cc
some_placed (c ∷ cs) x n e =
    has_some_at c cs x (bytes_eq c.result x) (place_of cs x) (some_placed cs x) n (sym (place_cons c cs x) ∙ e)

-- ---- one element set

pub set_same : {A : Type 0} (xs : List A) (n : ℕ) (x : A) → n < length xs → slice_get (set xs n x) n ≡ Some x
set_same [] n x lt = absurd (omega (arith, lt))
set_same (y ∷ xs) zero x lt = refl
set_same (y ∷ xs) (suc n) x lt = set_same xs n x (omega (arith, lt))

pub set_other : {A : Type 0} (xs : List A) (n m : ℕ) (x : A) → (n ≡ m → ⊥) → slice_get (set xs n x) m ≡ slice_get xs m
set_other [] n m x ne = refl
set_other (y ∷ xs) zero zero x ne = absurd (ne refl)
set_other (y ∷ xs) zero (suc m) x ne = refl
set_other (y ∷ xs) (suc n) zero x ne = refl
set_other (y ∷ xs) (suc n) (suc m) x ne = set_other xs n m x (λ same. ne (ap suc same))
