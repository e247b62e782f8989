-- Places in lists of trees, in a reversed list, and in lists that are written one after the other.
use Rattle.std.proofs.Common.{◌≡◌, ◌∙◌, ℕ, zero, suc, ◌+◌, ◌-◌, ◌*◌, ◌<◌, ◌≤◌, true, List, [], ◌∷◌, ◌++◌, length, map, take, drop, reverse, get_or, append_assoc, refl, ap, sym, arith}
use Rattle.std.specs.Prelude.{Some, slice_get}
use Rattle.std.specs.List.{flat_map}
use Rattle.std.proofs.lemmas.List.{length-append, length-reverse, get_or-reverse, take-append-drop}
use Rattle.std.proofs.lemmas.List.Concat.{flat_map-append}
use Rattle.cell_nodes.specs.declared.tree.Tree.{Tree, out-Tree}
use Rattle.cell_pool.specs.Post.{stands, place, joined, post}
use Rattle.cell_pool.specs.PlaceLaws.{place-within, place-append_left}
use Rattle.cell_pool.specs.PostLaws.{post-out}
use Rattle.cell_pool.specs.PlaceLaws.{take-some}

at-get_or : (ts : List Tree) (i : ℕ) (t : Tree) → slice_get ts i ≡ Some t → get_or ts i t ≡ t
at-get_or [] i t h = absurd (cc)
at-get_or (u ∷ us) zero t h = cc
at-get_or (u ∷ us) (suc i) t h = at-get_or us i t h

get_or-at : (ts : List Tree) (i : ℕ) (d : Tree) → i < length ts → slice_get ts i ≡ Some (get_or ts i d)
get_or-at [] i d h = absurd (omega arith)
get_or-at (u ∷ us) zero d h = refl
get_or-at (u ∷ us) (suc i) d h = get_or-at us i d (omega arith)

pub within : (ts : List Tree) (i : ℕ) (t : Tree) → slice_get ts i ≡ Some t → i < length ts
within [] i t h = absurd (cc)
within (u ∷ us) zero t h = omega arith
within (u ∷ us) (suc i) t h = omega (arith, within us i t h)

-- counted from the other end
pub at-reverse : (ts : List Tree) (i : ℕ) (t : Tree) → slice_get (reverse ts) i ≡ Some t → slice_get ts (length ts - 1 - i) ≡ Some t
at-reverse ts i t h =
    let l : i < length ts = omega (arith, within (reverse ts) i t h, length-reverse ts) in
    let e : get_or ts (length ts - 1 - i) t ≡ t = sym (get_or-reverse ts i t l) ∙ at-get_or (reverse ts) i t h in
    get_or-at ts (length ts - 1 - i) t (omega arith) ∙ ap (λ (u : Tree). Some u) e

pub reverse-at : (ts : List Tree) (k : ℕ) (t : Tree) → slice_get ts k ≡ Some t → slice_get (reverse ts) (length ts - 1 - k) ≡ Some t
reverse-at ts k t h =
    let l : k < length ts = within ts k t h in
    let i = length ts - 1 - k in
    let s : length ts - 1 - (length ts - 1 - k) ≡ k = omega arith in
    let e : get_or (reverse ts) i t ≡ t = get_or-reverse ts i t (omega arith) ∙ ap (λ (j : ℕ). get_or ts j t) s ∙ at-get_or ts k t h in
    get_or-at (reverse ts) i t (omega (arith, length-reverse ts)) ∙ ap (λ (u : Tree). Some u) e

-- the place of a tree among the first ones
pub place-prefix : (ts : List Tree) (k : ℕ) (t : Tree) → stands (take k ts) t ≡ true → place ts t ≡ place (take k ts) t
place-prefix ts k t h = ap (λ (l : List Tree). place l t) (sym (take-append-drop k ts)) ∙ place-append_left (take k ts) (drop k ts) t h

pub length-take-most : (ts : List Tree) (k : ℕ) → length (take k ts) ≤ k
length-take-most [] zero = omega arith
length-take-most [] (suc k) = omega arith
length-take-most (t ∷ ts) zero = omega arith
length-take-most (t ∷ ts) (suc k) = omega (arith, length-take-most ts k)

pub place-before : (ts : List Tree) (k : ℕ) (t : Tree) → stands (take k ts) t ≡ true → place ts t < k
place-before ts k t h = omega (arith, place-prefix ts k t h, place-within (take k ts) t h, length-take-most ts k)

-- ---- lists that are written one after the other

pub written-split : (f : Tree → List ℕ) (ts : List Tree) (i : ℕ) (t : Tree) → slice_get ts i ≡ Some t → flat_map f ts ≡ flat_map f (take i ts) ++ (f t ++ flat_map f (drop (suc i) ts))
written-split f [] i t h = absurd (cc)
written-split f (u ∷ us) zero t h = let e : u ≡ t = cc in ap (λ (v : Tree). f v ++ flat_map f us) e
written-split f (u ∷ us) (suc i) t h =
    ap (λ (l : List ℕ). f u ++ l) (written-split f us i t h)
    ∙ sym (append_assoc (f u) (flat_map f (take i us)) (f t ++ flat_map f (drop (suc i) us)))

pub length-written : (f : Tree → List ℕ) (ts : List Tree) (i : ℕ) (t : Tree) → slice_get ts i ≡ Some t → length (flat_map f (take (suc i) ts)) ≡ length (flat_map f (take i ts)) + length (f t)
length-written f ts i t h =
    ap (λ (l : List Tree). length (flat_map f l)) (take-some ts i t h)
    ∙ ap length (flat_map-append f (take i ts) (t ∷ []))
    ∙ omega (arith, length-append (flat_map f (take i ts)) (f t ++ []), length-append (f t) [])

pub length-few : (f : Tree → List ℕ) (most : ℕ) (ts : List Tree) → ((i : ℕ) (t : Tree) → slice_get ts i ≡ Some t → length (f t) ≤ most) → length (flat_map f ts) ≤ length ts * most
length-few f most [] h = omega arith
length-few f most (t ∷ ts) h =
    let e : suc (length ts) * most ≡ most + length ts * most = omega arith in
    omega (arith, length-append (f t) (flat_map f ts), h 0 t refl, length-few f most ts (λ i u k. h (suc i) u k))

-- the tree itself is the last
pub last-post : (t : Tree) → slice_get (post t) (length (post t) - 1) ≡ Some t
last-post t =
    let prefix = joined [] (map post (out-Tree t).children) in
    let e : length (prefix ++ t ∷ []) - 1 ≡ length prefix = omega (arith, length-append prefix (t ∷ [])) in
    ap (λ (l : List Tree). slice_get l (length l - 1)) (post-out t) ∙ ap (λ (n : ℕ). slice_get (prefix ++ t ∷ []) n) e ∙ at_end prefix t
  where
    at_end : (xs : List Tree) (t : Tree) → slice_get (xs ++ t ∷ []) (length xs) ≡ Some t
    at_end [] t = refl
    at_end (x ∷ xs) t = at_end xs t

pub some-post : (t : Tree) → 1 ≤ length (post t)
some-post t = omega (arith, ap length (post-out t), length-append (joined [] (map post (out-Tree t).children)) (t ∷ []))
