-- The nodes of a pool in the order of a bag, and their places.
use Rattle.std.proofs.Common.{◌≡◌, ◌∙◌, ◌≢◌, ℕ, zero, suc, ◌+◌, ◌-◌, ◌<◌, ◌≤◌, true, List, [], ◌∷◌, ◌++◌, length, map, take, reverse, get_or, set, get_or-set_same, get_or-set_other, add-one, refl, ap, sym, subst, ⊎_elim, arith}
use Rattle.std.specs.Prelude.{Some, slice_get}
use Rattle.std.specs.List.{All, flat_map}
use Rattle.std.proofs.lemmas.Bool.{cases_lt}
use Rattle.std.proofs.lemmas.List.{length-map, length-reverse, append-nil}
use Rattle.std.proofs.lemmas.List.Concat.{flat_map-append}
use Rattle.std.proofs.lemmas.List.Elements.{All-nil, All-cons, All-head, All-tail}
use Rattle.cell_nodes.specs.declared.tree.Tree.{Tree, out-Tree}
use Rattle.cell_nodes.specs.Tree.{unfolded}
use Rattle.cell_pool.specs.Post.{stands, place, post}
use Rattle.cell_pool.specs.Listing.{AllStand, IsClosed, IsDistinct}
use Rattle.cell_pool.specs.Nodes.{AllSmall}
use Rattle.cell_pool.specs.Visited.{tree_at, trees_at}
use Rattle.cell_pool.specs.PlaceLaws.{stands-at, at-place, place-at, take-some}
use Rattle.cell_pool.specs.PostLaws.{closed, ordered-post}
use Rattle.cell_pool.specs.OnceLaws.{once-post}
use Rattle.cell_pool.specs.ReverseLaws.{stands-reverse}
use Rattle.bag_cells.specs.Listed.{EachOnce, ArePlaces, IsListed}
use Rattle.bag_cells.proofs.Lists.{at-reverse}

pub small-at : (ts : List Tree) (i : ℕ) (t : Tree) → AllSmall ts → slice_get ts i ≡ Some t → unfolded t ≤ 262144
small-at [] i t a h = absurd (cc)
small-at (u ∷ us) zero t a h = let e : u ≡ t = cc in subst (λ (v : Tree). unfolded v ≤ 262144) e a.0
small-at (u ∷ us) (suc i) t a h = small-at us i t a.1 h

-- ---- places

places_step : (places order : List ℕ) (i j : ℕ) → EachOnce order → ArePlaces places order i → i < length order → get_or order i 0 < length places → j < i + 1
    → get_or (set places (get_or order i 0) i) (get_or order j 0) 0 ≡ j
places_step places order i j once are h l k = ⊎_elim
    (λ (m : j < i).
    let ne : get_or order j 0 ≢ get_or order i 0 = λ e. let z : j ≡ i = once j i (omega (arith, m, h)) h e in omega (arith, z, m) in
    get_or-set_other places (get_or order i 0) (get_or order j 0) i 0 ne ∙ are j m)
    (λ (m : i ≤ j).
    let z : i ≡ j = omega (arith, m, k) in
    subst (λ (n : ℕ). get_or (set places (get_or order i 0) i) (get_or order n 0) 0 ≡ n) z
    (get_or-set_same places (get_or order i 0) i 0 l))
    (cases_lt j i)

pub places-more : (places order : List ℕ) (i : ℕ) → EachOnce order → ArePlaces places order i → i < length order → get_or order i 0 < length places
    → ArePlaces (set places (get_or order i 0) i) order (i + 1)
places-more places order i once are h l j k = places_step places order i j once are h l k

-- ---- the trees of the order

pub order-at : (pool : List Tree) (order : List ℕ) (j : ℕ) (c : Tree) → slice_get (trees_at pool order) j ≡ Some c → (j < length order) × (tree_at pool (get_or order j 0) ≡ c)
order-at pool [] j c h = absurd (cc)
order-at pool (n ∷ ns) zero c h = let e : tree_at pool n ≡ c = cc in (omega arith, e)
order-at pool (n ∷ ns) (suc j) c h = let r = order-at pool ns j c h in (omega (arith, r.0), r.1)

pub order-tree : (pool : List Tree) (order : List ℕ) (j : ℕ) → j < length order → slice_get (trees_at pool order) j ≡ Some (tree_at pool (get_or order j 0))
order-tree pool [] j h = absurd (omega arith)
order-tree pool (n ∷ ns) zero h = refl
order-tree pool (n ∷ ns) (suc j) h = order-tree pool ns j (omega arith)

number-there : (n : ℕ) (order : List ℕ) (j : ℕ) → All (λ m. m < n) order → j < length order → get_or order j 0 < n
number-there n [] j a h = absurd (omega arith)
number-there n (x ∷ xs) zero a h = All-head (λ m. m < n) x xs a
number-there n (x ∷ xs) (suc j) a h = number-there n xs j (All-tail (λ m. m < n) x xs a) (omega arith)

pub in-pool : (pool : List Tree) (n : ℕ) → n < length pool → slice_get pool n ≡ Some (tree_at pool n)
in-pool [] n h = absurd (omega arith)
in-pool (t ∷ ts) zero h = refl
in-pool (t ∷ ts) (suc n) h = in-pool ts n (omega arith)

-- the place of a tree of the order, by its number
pub place-listed : (pool : List Tree) (order places : List ℕ) (c : Tree) → IsDistinct pool → IsListed pool order places → stands (trees_at pool order) c ≡ true
    → (place pool c < length places) × (get_or places (place pool c) 0 ≡ place (trees_at pool order) c)
place-listed pool order places c d l s =
    let j = place (trees_at pool order) c in
    let at = order-at pool order (place (trees_at pool order) c) c (at-place (trees_at pool order) c s) in
    let n = get_or order (place (trees_at pool order) c) 0 in
    let within = number-there (length pool) order (place (trees_at pool order) c) l.there at.0 in
    let e : place pool c ≡ get_or order (place (trees_at pool order) c) 0 =
    place-at pool (get_or order (place (trees_at pool order) c) 0) c d (in-pool pool (get_or order (place (trees_at pool order) c) 0) within ∙ ap (λ (t : Tree). Some t) at.1) in
    (omega (arith, e, within, l.count), ap (λ (m : ℕ). get_or places m 0) e ∙ l.places_are (place (trees_at pool order) c) at.0)

pub places-listed : (pool : List Tree) (order places : List ℕ) (cs : List Tree) → IsDistinct pool → IsListed pool order places → AllStand (trees_at pool order) cs
    → map (λ n. get_or places n 0) (map (place pool) cs) ≡ map (place (trees_at pool order)) cs
places-listed pool order places [] d l s = refl
places-listed pool order places (c ∷ cs) d l s =
    rw ((place-listed pool order places c d l s.0).1, places-listed pool order places cs d l s.1) refl

pub places-there : (pool : List Tree) (order places : List ℕ) (cs : List Tree) → IsDistinct pool → IsListed pool order places → AllStand (trees_at pool order) cs
    → All (λ n. n < length places) (map (place pool) cs)
places-there pool order places [] d l s = All-nil (λ n. n < length places)
places-there pool order places (c ∷ cs) d l s =
    All-cons (λ n. n < length places) (place pool c) (map (place pool) cs) (place-listed pool order places c d l s.0).0 (places-there pool order places cs d l s.1)

-- the children of a node of the order stand in it
pub children-listed : (pool : List Tree) (order places : List ℕ) (i : ℕ) (u : Tree) → IsListed pool order places → i < length order
    → slice_get pool (get_or order i 0) ≡ Some u → AllStand (trees_at pool order) (out-Tree u).children
children-listed pool order places i u l h e =
    let within = number-there (length pool) order i l.there h in
    let f : Some (tree_at pool (get_or order i 0)) ≡ Some u = sym (in-pool pool (get_or order i 0) within) ∙ e in
    let g : tree_at pool (get_or order i 0) ≡ u = cc in
    l.closed u (stands-at (trees_at pool order) i u (order-tree pool order i h ∙ ap (λ (t : Tree). Some t) g))

pub node-is : (pool : List Tree) (order places : List ℕ) (i : ℕ) (u : Tree) → IsListed pool order places → i < length order
    → slice_get pool (get_or order i 0) ≡ Some u → u ≡ tree_at pool (get_or order i 0)
node-is pool order places i u l h e =
    let within = number-there (length pool) order i l.there h in
    let f : Some (tree_at pool (get_or order i 0)) ≡ Some u = sym (in-pool pool (get_or order i 0) within) ∙ e in
    cc

-- one more cell
pub written-more : (f : Tree → List ℕ) (pool : List Tree) (order : List ℕ) (i : ℕ) (written after : List ℕ) → i < length order
    → after ≡ written ++ f (tree_at pool (get_or order i 0)) → written ≡ flat_map f (take i (trees_at pool order)) → after ≡ flat_map f (take (i + 1) (trees_at pool order))
written-more f pool order i written after h e g =
    let t = tree_at pool (get_or order i 0) in
    let more : take (i + 1) (trees_at pool order) ≡ take i (trees_at pool order) ++ tree_at pool (get_or order i 0) ∷ [] =
    rw add-one (take-some (trees_at pool order) i (tree_at pool (get_or order i 0)) (order-tree pool order i h)) in
    e
    ∙ ap (λ (l : List ℕ). l ++ f (tree_at pool (get_or order i 0))) g
    ∙ ap (λ (l : List ℕ). flat_map f (take i (trees_at pool order)) ++ l) (sym (append-nil (f (tree_at pool (get_or order i 0)))))
    ∙ sym (ap (λ (l : List Tree). flat_map f l) more ∙ flat_map-append f (take i (trees_at pool order)) (tree_at pool (get_or order i 0) ∷ []))

-- ---- the order of a tree

pub order-once : (pool : List Tree) (order : List ℕ) (t : Tree) → trees_at pool order ≡ reverse (post t) → EachOnce order
order-once pool order t e j k h l same =
    let x = tree_at pool (get_or order j 0) in
    let len : length order ≡ length (post t) = sym (length-map order (tree_at pool)) ∙ ap length e ∙ length-reverse (post t) in
    let first : slice_get (reverse (post t)) j ≡ Some (tree_at pool (get_or order j 0)) =
    ap (λ (ts : List Tree). slice_get ts j) (sym e) ∙ order-tree pool order j h in
    let second : slice_get (reverse (post t)) k ≡ Some (tree_at pool (get_or order j 0)) =
    ap (λ (ts : List Tree). slice_get ts k) (sym e) ∙ order-tree pool order k l ∙ ap (λ (n : ℕ). Some (tree_at pool n)) (sym same) in
    let places = once-post t x (length (post t) - 1 - j) (length (post t) - 1 - k) (at-reverse (post t) j x first) (at-reverse (post t) k x second) in
    omega (arith, places, len, h, l)

all_stand-reverse : (ts cs : List Tree) → AllStand ts cs → AllStand (reverse ts) cs
all_stand-reverse ts [] h = tt
all_stand-reverse ts (c ∷ cs) h = (stands-reverse ts c ∙ h.0, all_stand-reverse ts cs h.1)

closed-reverse : (t : Tree) → IsClosed (reverse (post t))
closed-reverse t u h =
    all_stand-reverse (post t) (out-Tree u).children (closed (post t) (ordered-post t).before u (sym (stands-reverse (post t) u) ∙ h))

pub order-closed : (pool : List Tree) (order : List ℕ) (t : Tree) → trees_at pool order ≡ reverse (post t) → IsClosed (trees_at pool order)
order-closed pool order t e = subst (λ (ts : List Tree). IsClosed ts) (sym e) (closed-reverse t)

pub listed : (pool : List Tree) (order places : List ℕ) (t : Tree) → trees_at pool order ≡ reverse (post t) → All (λ n. n < length pool) order
    → ArePlaces places order (length order) → length places ≡ length pool → IsListed pool order places
listed pool order places t e there are count = record {
  there = there;
  closed = order-closed pool order t e;
  places_are = are;
  count = count;
}
