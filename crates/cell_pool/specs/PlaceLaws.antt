-- Trees in a list, and their places.
use Rattle.std.proofs.Common.{◌≡◌, ◌∙◌, ℕ, zero, suc, ◌+◌, ◌<◌, ◌≤◌, Bool, true, false, cond, ◌&&◌, ◌||◌, List, [], ◌∷◌}
use Rattle.std.proofs.Common.{◌++◌, length, take, refl, ap, sym, ⊎_elim, inl, inr, append_assoc, arith}
use Rattle.std.specs.Prelude.{Some, not, slice_get, ◌⊎◌}
use Rattle.std.proofs.lemmas.Bool.{cases_Bool, or_cases}
use Rattle.std.proofs.lemmas.List.{append-nil}
use Rattle.std.proofs.lemmas.List.Elements.{filter-append}
use Rattle.cell_nodes.specs.declared.tree.Tree.{Tree}
use Rattle.cell_pool.specs.Post.{same, stands, place, without, joined}
use Rattle.cell_pool.specs.Listing.{AllStand, IsDistinct}
use Rattle.cell_pool.specs.SameLaws.{same-equal, same-itself}

-- ---- what stands in a list

or_assoc : (x y z : Bool) → (x || (y || z)) ≡ ((x || y) || z)
or_assoc true y z = refl
or_assoc false y z = refl

pub or_left : (x y : Bool) → x ≡ true → (x || y) ≡ true
or_left true y h = refl
or_left false y h = cc

pub or_right : (x y : Bool) → y ≡ true → (x || y) ≡ true
or_right true y h = refl
or_right false y h = h

pub or_none : (x y : Bool) → x ≡ false → y ≡ false → (x || y) ≡ false
or_none true y h k = cc
or_none false y h k = k

pub stands-append : (xs ys : List Tree) (t : Tree) → stands (xs ++ ys) t ≡ (stands xs t || stands ys t)
stands-append [] ys t = refl
stands-append (x ∷ xs) ys t =
    ap (λ (b : Bool). same x t || b) (stands-append xs ys t) ∙ or_assoc (same x t) (stands xs t) (stands ys t)

kept : (b s x y : Bool) → (s ≡ true → y ≡ b) → ((not b && s) || (x && not y)) ≡ ((s || x) && not y)
kept true true true true h = refl
kept true true false true h = refl
kept true true x false h = let e : false ≡ true = h refl in cc
kept true false x y h = refl
kept false true x true h = let e : true ≡ false = h refl in cc
kept false true x false h = refl
kept false false x y h = refl

stands-cond : (b : Bool) (u : Tree) (us : List Tree) (t : Tree)
    → stands (cond b (u ∷ us) us) t ≡ ((b && same u t) || stands us t)
stands-cond true u us t = refl
stands-cond false u us t = refl

pub stands-without : (seen ts : List Tree) (t : Tree)
    → stands (without seen ts) t ≡ (stands ts t && not (stands seen t))
stands-without seen [] t = refl
stands-without seen (u ∷ us) t =
    stands-cond (not (stands seen u)) u (without seen us) t
    ∙ ap (λ (b : Bool). (not (stands seen u) && same u t) || b) (stands-without seen us t)
    ∙ kept (stands seen u) (same u t) (stands us t) (stands seen t)
    (λ (e : same u t ≡ true). ap (λ (v : Tree). stands seen v) (sym (same-equal u t e)))

pub stands-last : (xs : List Tree) (t : Tree) → stands (xs ++ t ∷ []) t ≡ true
stands-last xs t = stands-append xs (t ∷ []) t ∙ or_right _ _ (or_left _ _ (same-itself t))

pub stands-only : (t u : Tree) → stands (t ∷ []) u ≡ true → t ≡ u
stands-only t u h =
    ⊎_elim (λ (e : same t u ≡ true). same-equal t u e) (λ (e : false ≡ true). cc) (or_cases (same t u) false h)

-- ---- places

pub place-within : (ts : List Tree) (t : Tree) → stands ts t ≡ true → place ts t < length ts
place-within [] t h = cc
place-within (u ∷ us) t h = ⊎_elim
    (λ (e : same u t ≡ true). rw e (omega arith))
    (λ (e : same u t ≡ false). let k : stands us t ≡ true = rw e at h in rw e (omega (arith, place-within us t k)))
    (cases_Bool (same u t))

pub place-none : (ts : List Tree) (t : Tree) → stands ts t ≡ false → place ts t ≡ length ts
place-none [] t h = refl
place-none (u ∷ us) t h = ⊎_elim
    (λ (e : same u t ≡ true). let k : true ≡ false = rw e at h in cc)
    (λ (e : same u t ≡ false). let k : stands us t ≡ false = rw e at h in rw e (omega (arith, place-none us t k)))
    (cases_Bool (same u t))

pub stands-placed : (ts : List Tree) (t : Tree) → place ts t < length ts → stands ts t ≡ true
stands-placed ts t h = ⊎_elim
    (λ (e : stands ts t ≡ true). e)
    (λ (e : stands ts t ≡ false). absurd (omega (arith, place-none ts t e)))
    (cases_Bool (stands ts t))

pub stands-not_placed : (ts : List Tree) (t : Tree) → length ts ≤ place ts t → stands ts t ≡ false
stands-not_placed ts t h = ⊎_elim
    (λ (e : stands ts t ≡ true). absurd (omega (arith, place-within ts t e)))
    (λ (e : stands ts t ≡ false). e)
    (cases_Bool (stands ts t))

pub place-append_left : (xs ys : List Tree) (t : Tree) → stands xs t ≡ true → place (xs ++ ys) t ≡ place xs t
place-append_left [] ys t h = cc
place-append_left (x ∷ xs) ys t h = ⊎_elim
    (λ (e : same x t ≡ true). rw e refl)
    (λ (e : same x t ≡ false). let k : stands xs t ≡ true = rw e at h in rw (e, place-append_left xs ys t k) refl)
    (cases_Bool (same x t))

pub place-append_right : (xs ys : List Tree) (t : Tree) → stands xs t ≡ false
    → place (xs ++ ys) t ≡ length xs + place ys t
place-append_right [] ys t h = omega arith
place-append_right (x ∷ xs) ys t h = ⊎_elim
    (λ (e : same x t ≡ true). let k : true ≡ false = rw e at h in cc)
    (λ (e : same x t ≡ false). let k : stands xs t ≡ false = rw e at h in
    rw e (omega (arith, place-append_right xs ys t k)))
    (cases_Bool (same x t))

pub place-last : (xs : List Tree) (t : Tree) → stands xs t ≡ false → place (xs ++ t ∷ []) t ≡ length xs
place-last xs t h = place-append_right xs (t ∷ []) t h ∙ rw (same-itself t) (omega arith)

-- ---- lists without what stands already

pub without-append : (seen xs ys : List Tree) → without seen (xs ++ ys) ≡ without seen xs ++ without seen ys
without-append seen xs ys = filter-append (λ t. not (stands seen t)) xs ys

stands-joint : (seen xs : List Tree) (t : Tree)
    → stands (seen ++ without seen xs) t ≡ (stands seen t || (stands xs t && not (stands seen t)))
stands-joint seen xs t =
    stands-append seen (without seen xs) t ∙ ap (λ (b : Bool). stands seen t || b) (stands-without seen xs t)

twice_without : (b x : Bool) (y : Tree) (f : List Tree → List Tree) (rest : List Tree)
    → ((ys : List Tree) → f (y ∷ ys) ≡ cond (not b) (y ∷ f ys) (f ys))
    → cond (not (b || (x && not b))) (y ∷ f rest) (f rest) ≡ f (cond (not x) (y ∷ rest) rest)
twice_without true true y f rest h = refl
twice_without true false y f rest h = sym (h rest)
twice_without false true y f rest h = refl
twice_without false false y f rest h = sym (h rest)

without-joint : (seen xs ys : List Tree) → without (seen ++ without seen xs) ys ≡ without seen (without xs ys)
without-joint seen xs [] = refl
without-joint seen xs (y ∷ ys) =
    ap (λ (b : Bool). cond (not b) (y ∷ without (seen ++ without seen xs) ys) (without (seen ++ without seen xs) ys))
    (stands-joint seen xs y)
    ∙ ap (λ (l : List Tree). cond (not (stands seen y || (stands xs y && not (stands seen y)))) (y ∷ l) l)
    (without-joint seen xs ys)
    ∙ twice_without (stands seen y) (stands xs y) y (without seen) (without xs ys) (λ zs. refl)

joint : List Tree → List Tree → List Tree
joint seen xs = seen ++ without seen xs

joint_more : (seen xs ys : List Tree)
    → (seen ++ without seen xs) ++ without (seen ++ without seen xs) ys ≡ seen ++ without seen (xs ++ without xs ys)
joint_more seen xs ys =
    rw (without-joint seen xs ys, without-append seen xs (without xs ys))
    (append_assoc seen (without seen xs) (without seen (without xs ys)))

pub joined-joint : (seen xs : List Tree) (more : List (List Tree))
    → joined (seen ++ without seen xs) more ≡ seen ++ without seen (joined xs more)
joined-joint seen xs [] = refl
joined-joint seen xs (ys ∷ more) =
    ap (λ (l : List Tree). joined l more) (joint_more seen xs ys) ∙ joined-joint seen (xs ++ without xs ys) more

-- what is joined stands after what stands already
pub joined-after : (seen : List Tree) (more : List (List Tree))
    → joined seen more ≡ seen ++ without seen (joined [] more)
joined-after seen more = ap (λ (l : List Tree). joined l more) (sym (append-nil seen)) ∙ joined-joint seen [] more

pub stands-joined : (seen : List Tree) (more : List (List Tree)) (t : Tree) → stands seen t ≡ true
    → stands (joined seen more) t ≡ true
stands-joined seen more t h =
    ap (λ (l : List Tree). stands l t) (joined-after seen more) ∙ stands-append seen (without seen (joined [] more)) t
    ∙ or_left _ _ h

pub place-joined : (seen : List Tree) (more : List (List Tree)) (t : Tree) → stands seen t ≡ true
    → place (joined seen more) t ≡ place seen t
place-joined seen more t h =
    ap (λ (l : List Tree). place l t) (joined-after seen more)
    ∙ place-append_left seen (without seen (joined [] more)) t h

-- a tree of the list that is added stands there
pub stands-joint_new : (seen xs : List Tree) (t : Tree) → stands xs t ≡ true → stands (seen ++ without seen xs) t ≡ true
stands-joint_new seen xs t h = stands-joint seen xs t ∙ rw h (added_stands (stands seen t))
  where
    added_stands : (b : Bool) → (b || (true && not b)) ≡ true
    added_stands true = refl
    added_stands false = refl

pub stands-joint_cases : (seen xs : List Tree) (t : Tree) → stands (seen ++ without seen xs) t ≡ true
    → (stands seen t ≡ true) ⊎ (stands xs t ≡ true)
stands-joint_cases seen xs t h = cases (stands seen t) (stands xs t) (sym (stands-joint seen xs t) ∙ h)
  where
    cases : (b x : Bool) → (b || (x && not b)) ≡ true → (b ≡ true) ⊎ (x ≡ true)
    cases true x k = inl refl
    cases false true k = inr refl
    cases false false k = cc

pub all_stand-more : (xs ys ts : List Tree) → AllStand xs ts → AllStand (xs ++ ys) ts
all_stand-more xs ys [] h = tt
all_stand-more xs ys (t ∷ ts) h = (stands-append xs ys t ∙ or_left _ _ h.0, all_stand-more xs ys ts h.1)

-- ---- trees at places

pub stands-at : (ts : List Tree) (i : ℕ) (t : Tree) → slice_get ts i ≡ Some t → stands ts t ≡ true
stands-at [] i t h = cc
stands-at (u ∷ us) zero t h = let e : u ≡ t = cc in or_left _ _ (ap (λ (v : Tree). same v t) e ∙ same-itself t)
stands-at (u ∷ us) (suc i) t h = or_right _ _ (stands-at us i t h)

pub at-stands : (ts : List Tree) (t : Tree) → stands ts t ≡ true → (i : ℕ) × (slice_get ts i ≡ Some t)
at-stands [] t h = absurd (cc)
at-stands (u ∷ us) t h = ⊎_elim
    (λ (e : same u t ≡ true). (0, ap (λ (v : Tree). Some v) (same-equal u t e)))
    (λ (e : stands us t ≡ true). let r = at-stands us t e in (suc r.0, r.1))
    (or_cases (same u t) (stands us t) h)

pub once : (ts : List Tree) (i j : ℕ) (t : Tree) → IsDistinct ts → slice_get ts i ≡ Some t → slice_get ts j ≡ Some t
    → i ≡ j
once [] i j t d h k = absurd (cc)
once (u ∷ us) zero zero t d h k = refl
once (u ∷ us) zero (suc j) t d h k =
    let e : u ≡ t = cc in
    let s : stands us u ≡ true = ap (λ (v : Tree). stands us v) e ∙ stands-at us j t k in
    absurd (cc (d.0))
once (u ∷ us) (suc i) zero t d h k =
    let e : u ≡ t = cc in
    let s : stands us u ≡ true = ap (λ (v : Tree). stands us v) e ∙ stands-at us i t h in
    absurd (cc (d.0))
once (u ∷ us) (suc i) (suc j) t d h k = ap (λ (n : ℕ). suc n) (once us i j t d.1 h k)

pub at-place : (ts : List Tree) (t : Tree) → stands ts t ≡ true → slice_get ts (place ts t) ≡ Some t
at-place [] t h = absurd (cc)
at-place (u ∷ us) t h = ⊎_elim
    (λ (e : same u t ≡ true). rw e (ap (λ (v : Tree). Some v) (same-equal u t e)))
    (λ (e : same u t ≡ false). let k : stands us t ≡ true = rw e at h in
    let s : 1 + place us t ≡ suc (place us t) = omega arith in rw (e, s) (at-place us t k))
    (cases_Bool (same u t))

-- the tree at a place of a list that has one more at its end
pub at-push : (ts : List Tree) (t u : Tree) (i : ℕ) → slice_get (ts ++ t ∷ []) i ≡ Some u
    → ((slice_get ts i ≡ Some u) × (take i (ts ++ t ∷ []) ≡ take i ts)) ⊎ ((t ≡ u) × (take i (ts ++ t ∷ []) ≡ ts))
at-push [] t u zero h = let e : t ≡ u = cc in inr (e, refl)
at-push [] t u (suc i) h = absurd (cc)
at-push (x ∷ xs) t u zero h = inl (h, refl)
at-push (x ∷ xs) t u (suc i) h = ⊎_elim
    (λ (k : (slice_get xs i ≡ Some u) × (take i (xs ++ t ∷ []) ≡ take i xs)). inl (
      k.0,
      ap (λ (l : List Tree). x ∷ l) k.1,
    ))
    (λ (k : (t ≡ u) × (take i (xs ++ t ∷ []) ≡ xs)). inr (k.0, ap (λ (l : List Tree). x ∷ l) k.1))
    (at-push xs t u i h)

-- the place of a tree that stands once
pub place-at : (ts : List Tree) (i : ℕ) (t : Tree) → IsDistinct ts → slice_get ts i ≡ Some t → place ts t ≡ i
place-at ts i t d h = once ts (place ts t) i t d (at-place ts t (stands-at ts i t h)) h

pub some-at : (ts : List Tree) (i : ℕ) → i < length ts → (t : Tree) × (slice_get ts i ≡ Some t)
some-at [] i h = absurd (omega arith)
some-at (t ∷ ts) zero h = (t, refl)
some-at (t ∷ ts) (suc i) h = some-at ts i (omega arith)

pub take-some : (ts : List Tree) (i : ℕ) (t : Tree) → slice_get ts i ≡ Some t → take (suc i) ts ≡ take i ts ++ t ∷ []
take-some [] i t h = cc
take-some (u ∷ us) zero t h = let e : u ≡ t = cc in ap (λ (v : Tree). v ∷ []) e
take-some (u ∷ us) (suc i) t h = ap (λ (l : List Tree). u ∷ l) (take-some us i t h)
