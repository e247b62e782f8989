-- Operations of a record, by their places in it.
use Rattle.std.proofs.Common.{◌≡◌, ℕ, zero, suc, ◌+◌, ◌≤◌, List, [], ◌∷◌, Some, slice_get, subst, take}
use Rattle.std.proofs.Common.{drop, arith}
use Rattle.flat_form.specs.declared.lists.Flat.{Flat}
use Rattle.flat_form.specs.declared.lists.PlanOp.TheVariants.{Field}
use Rattle.flat_form.specs.declared.lists.TypeNode.TheVariants.{Group}
use Rattle.flat_form.specs.Stands.{range}
use Rattle.flat_form.specs.Sound.{IsFlat}

at_take : {A : Type 0} (xs : List A) (n i : ℕ) (x : A) → slice_get (take n xs) i ≡ Some x → slice_get xs i ≡ Some x
at_take [] zero i x e = e
at_take [] (suc n) i x e = e
at_take (y ∷ ys) zero i x e = cc
at_take (y ∷ ys) (suc n) zero x e = e
at_take (y ∷ ys) (suc n) (suc i) x e = at_take ys n i x e

at_drop : {A : Type 0} (xs : List A) (n i : ℕ) (x : A) → slice_get (drop n xs) i ≡ Some x
    → slice_get xs (n + i) ≡ Some x
at_drop xs zero i x e =
    let P : ℕ → Type 0 = λ k. slice_get xs k ≡ Some x in
    let same : i ≡ 0 + i = omega arith in
    subst P same e
at_drop [] (suc n) i x e = cc
at_drop (y ∷ ys) (suc n) i x e =
    let P : ℕ → Type 0 = λ k. slice_get (y ∷ ys) k ≡ Some x in
    let next : suc (n + i) ≡ suc n + i = omega arith in
    subst P next (at_drop ys n i x e)

pub at_range : {A : Type 0} (xs : List A) (first count i : ℕ) (x : A) → slice_get (range xs first count) i ≡ Some x
    → slice_get xs (first + i) ≡ Some x
at_range xs first count i x e = at_drop xs first i x (at_take (drop first xs) count i x e)

-- the operations of a record that the type of the i-th of these operations is, or has as a part, stand before it
pub record_before : (f : Flat) (first count i x t v u inner_first inner_count : ℕ) → IsFlat f
    → slice_get (range f.ops first count) i ≡ Some (Field x t v) → u ≤ t
    → slice_get f.types u ≡ Some (Group inner_first inner_count) → inner_first + inner_count ≤ first + i
record_before f first count i x t v u inner_first inner_count flat e le n =
    flat.before (first + i) x t v u inner_first inner_count (at_range f.ops first count i (Field x t v) e) le n
