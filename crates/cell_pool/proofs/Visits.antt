-- A walk over a pool's nodes.
use Rattle.std.proofs.Common.{◌≡◌, ◌∙◌, ◌≢◌, ℕ, zero, suc, ◌+◌, ◌*◌, ◌<◌, ◌≤◌, Bool, true, false, List, [], ◌∷◌, ◌++◌, length, map, take, reverse, get_or, set, replicate, get_or-set_same, get_or-set_other, refl, ap, sym, subst, ⊎_elim, arith}
use Rattle.std.specs.Prelude.{◌||◌, Some, slice_get}
use Rattle.std.specs.List.{All}
use Rattle.std.proofs.lemmas.Bool.{cases_Bool, cases_lt}
use Rattle.std.proofs.lemmas.List.{map_push, reverse-append, length-set, length-replicate, get_or-replicate}
use Rattle.std.proofs.lemmas.List.Elements.{All-nil, All-cons, All-head, All-tail}
use Rattle.std.proofs.lemmas.Option.{get_or_from_slice_get, slice_get-get_or}
use Rattle.cell_nodes.specs.declared.tree.Kind.TheVariants.{Ordinary}
use Rattle.cell_nodes.specs.declared.tree.Tree.{Tree, out-Tree}
use Rattle.cell_nodes.specs.Tree.{tree_of, total, unfolded}
use Rattle.cell_pool.specs.Post.{same, stands, place, post}
use Rattle.cell_pool.specs.Listing.{added, added_all, AllStand, IsDistinct, IsOrdered}
use Rattle.cell_pool.specs.Visited.{tree_at, trees_at, IsVisited}
use Rattle.cell_pool.specs.SameLaws.{same-equal}
use Rattle.cell_pool.specs.PlaceLaws.{stands-append, stands-last, stands-at, at-place, place-at, once}
use Rattle.cell_pool.specs.PostLaws.{closed, before-empty, added-known, added-new, added-empty, ordered-added}
use Rattle.cell_pool.specs.ReverseLaws.{places-within}
use Rattle.cell_pool.specs.GrowthLaws.{down}

pub at-there : (trees : List Tree) (i : ℕ) → i < length trees → slice_get trees i ≡ Some (tree_at trees i)
at-there trees i h = slice_get-get_or trees i (tree_of Ordinary [] []) h

pub tree-found : (trees : List Tree) (i : ℕ) (t : Tree) → slice_get trees i ≡ Some t → tree_at trees i ≡ t
tree-found trees i t h = get_or_from_slice_get trees i t (tree_of Ordinary [] []) h

-- the places of trees that stand mean these trees
pub trees-placed : (trees cs : List Tree) → AllStand trees cs → trees_at trees (map (place trees) cs) ≡ cs
trees-placed trees [] h = refl
trees-placed trees (c ∷ cs) h = rw (tree-found trees (place trees c) c (at-place trees c h.0), trees-placed trees cs h.1) refl

-- and numbers of distinct trees are the places of the trees that they mean
pub places-of : (trees : List Tree) (numbers : List ℕ) → IsDistinct trees → All (λ n. n < length trees) numbers → map (place trees) (trees_at trees numbers) ≡ numbers
places-of trees [] d h = refl
places-of trees (n ∷ ns) d h =
    let e = place-at trees n (tree_at trees n) d (at-there trees n (All-head (λ n. n < length trees) n ns h)) in
    rw (e, places-of trees ns d (All-tail (λ n. n < length trees) n ns h)) refl

-- ---- one node

-- what the children's numbers mean
pub children-mean : (trees : List Tree) (i : ℕ) (u : Tree) (numbers : List ℕ) → IsOrdered trees → slice_get trees i ≡ Some u
    → numbers ≡ map (place trees) (out-Tree u).children → (trees_at trees numbers ≡ (out-Tree (tree_at trees i)).children) × All (λ n. n < length trees) numbers
children-mean trees i u numbers o h e =
    let stand = closed trees o.before u (stands-at trees i u h) in (
      ap (λ (l : List ℕ). trees_at trees l) e ∙ trees-placed trees (out-Tree u).children stand
          ∙ ap (λ (v : Tree). (out-Tree v).children) (sym (tree-found trees i u h)),
      subst (λ (l : List ℕ). All (λ n. n < length trees) l) (sym e) (places-within trees (out-Tree u).children stand),
    )

pub children-smaller : (trees : List Tree) (i : ℕ) (numbers : List ℕ) → trees_at trees numbers ≡ (out-Tree (tree_at trees i)).children
    → 2 * total (map unfolded (trees_at trees numbers)) + 1 < 2 * unfolded (tree_at trees i)
children-smaller trees i numbers e = down (tree_at trees i) (trees_at trees numbers) e

pub visited-known : (trees : List Tree) (done : List Bool) (numbers : List ℕ) (i : ℕ) → IsVisited trees done numbers → i < length trees → get_or done i false ≡ true
    → trees_at trees numbers ≡ added (trees_at trees numbers) (tree_at trees i)
visited-known trees done numbers i v h e =
    sym (added-known (trees_at trees numbers) (tree_at trees i) (closed (trees_at trees numbers) v.ordered.before) (sym (v.marks i h) ∙ e))

not-yet : (trees : List Tree) (done : List Bool) (numbers : List ℕ) (i : ℕ) → IsVisited trees done numbers → i < length trees → get_or done i false ≡ false
    → stands (trees_at trees numbers) (tree_at trees i) ≡ false
not-yet trees done numbers i v h e = sym (v.marks i h) ∙ e

-- a node is visited after its children
pub visited-grown : (trees : List Tree) (done : List Bool) (before after : List ℕ) (i : ℕ) → IsVisited trees done before → i < length trees → get_or done i false ≡ false
    → trees_at trees after ≡ added_all (trees_at trees before) (out-Tree (tree_at trees i)).children
    → trees_at trees (after ++ i ∷ []) ≡ added (trees_at trees before) (tree_at trees i)
visited-grown trees done before after i v h e g =
    map_push (tree_at trees) after i
    ∙ ap (λ (l : List Tree). l ++ tree_at trees i ∷ []) g
    ∙ sym (added-new (trees_at trees before) (tree_at trees i) (not-yet trees done before i v h e))

same-other : (trees : List Tree) (i j : ℕ) → IsDistinct trees → i < length trees → j < length trees → j ≢ i → same (tree_at trees i) (tree_at trees j) ≡ false
same-other trees i j d h k ne = ⊎_elim
    (λ (e : same (tree_at trees i) (tree_at trees j) ≡ true).
    let f = same-equal (tree_at trees i) (tree_at trees j) e in
    absurd (ne (once trees j i (tree_at trees j) d (at-there trees j k) (at-there trees i h ∙ ap (λ (t : Tree). Some t) f))))
    (λ (e : same (tree_at trees i) (tree_at trees j) ≡ false). e)
    (cases_Bool (same (tree_at trees i) (tree_at trees j)))

or_false : (b c : Bool) → c ≡ false → (b || (c || false)) ≡ b
or_false true c h = refl
or_false false c h = rw h refl

marks-more : (trees : List Tree) (done : List Bool) (after : List ℕ) (i j : ℕ) → IsDistinct trees → IsVisited trees done after → i < length trees → j < length trees
    → get_or (set done i true) j false ≡ stands (trees_at trees (after ++ i ∷ [])) (tree_at trees j)
marks-more trees done after i j d v h k = ⊎_elim
    (λ (l : j < i). let ne : j ≢ i = omega arith in other ne)
    (λ (l : i ≤ j). ⊎_elim
    (λ (m : i < j). let ne : j ≢ i = omega arith in other ne)
    (λ (m : j ≤ i).
    let z : i ≡ j = omega arith in
    subst (λ (n : ℕ). get_or (set done i true) n false ≡ stands (trees_at trees (after ++ i ∷ [])) (tree_at trees n)) z
    (get_or-set_same done i true false (omega (arith, h, v.count))
    ∙ sym (ap (λ (x : List Tree). stands x (tree_at trees i)) (map_push (tree_at trees) after i) ∙ stands-last (trees_at trees after) (tree_at trees i))))
    (cases_lt i j))
    (cases_lt j i)
  where
    other : j ≢ i → get_or (set done i true) j false ≡ stands (trees_at trees (after ++ i ∷ [])) (tree_at trees j)
    other ne =
        get_or-set_other done i j true false ne
        ∙ v.marks j k
        ∙ sym (ap (λ (x : List Tree). stands x (tree_at trees j)) (map_push (tree_at trees) after i)
        ∙ stands-append (trees_at trees after) (tree_at trees i ∷ []) (tree_at trees j)
        ∙ or_false (stands (trees_at trees after) (tree_at trees j)) (same (tree_at trees i) (tree_at trees j)) (same-other trees i j d h k ne))

there-push : (n : ℕ) (xs : List ℕ) (i : ℕ) → All (λ m. m < n) xs → i < n → All (λ m. m < n) (xs ++ i ∷ [])
there-push n [] i h k = All-cons (λ m. m < n) i [] k (All-nil (λ m. m < n))
there-push n (x ∷ xs) i h k = All-cons (λ m. m < n) x (xs ++ i ∷ []) (All-head (λ m. m < n) x xs h) (there-push n xs i (All-tail (λ m. m < n) x xs h) k)

pub visited-more : (trees : List Tree) (first done : List Bool) (before after : List ℕ) (i : ℕ) → IsOrdered trees → IsVisited trees first before → IsVisited trees done after
    → i < length trees → get_or first i false ≡ false → trees_at trees after ≡ added_all (trees_at trees before) (out-Tree (tree_at trees i)).children
    → IsVisited trees (set done i true) (after ++ i ∷ [])
visited-more trees first done before after i o w v h e g = record {
  count = length-set done i true ∙ v.count;
  there = there-push (length trees) after i v.there h;
  marks = λ j k. marks-more trees done after i j o.distinct v h k;
  ordered =
      subst (λ (l : List Tree). IsOrdered l) (sym (visited-grown trees first before after i w h e g))
      (ordered-added (tree_at trees i) (trees_at trees before) w.ordered);
}

-- ---- the whole walk

pub visited-none : (trees : List Tree) → IsVisited trees (replicate (length trees) false) []
visited-none trees = record {
  count = length-replicate (length trees) false;
  there = All-nil (λ m. m < length trees);
  marks = λ i h. get_or-replicate (length trees) i false false h;
  ordered = record { before = before-empty; distinct = tt };
}

reverse-map : {A B : Type 0} (f : A → B) (xs : List A) → reverse (map f xs) ≡ map f (reverse xs)
reverse-map f [] = refl
reverse-map {A} {B} f (x ∷ xs) =
    reverse-append (f x ∷ []) (map f xs)
    ∙ ap (λ (l : List B). l ++ f x ∷ []) (reverse-map f xs)
    ∙ sym (ap (λ (l : List A). map f l) (reverse-append (x ∷ []) xs) ∙ map_push f (reverse xs) x)

pub order-is : (trees : List Tree) (numbers : List ℕ) (t : Tree) → IsDistinct trees → All (λ n. n < length trees) numbers → trees_at trees numbers ≡ added [] t
    → reverse numbers ≡ map (place trees) (reverse (post t))
order-is trees numbers t d h e =
    ap reverse (sym (places-of trees numbers d h))
    ∙ reverse-map (place trees) (trees_at trees numbers)
    ∙ ap (λ (l : List Tree). map (place trees) (reverse l)) (e ∙ added-empty t)

pub order-means : (trees : List Tree) (numbers : List ℕ) (t : Tree) → trees_at trees numbers ≡ added [] t → trees_at trees (reverse numbers) ≡ reverse (post t)
order-means trees numbers t e = sym (reverse-map (tree_at trees) numbers) ∙ ap (λ (l : List Tree). reverse l) (e ∙ added-empty t)

pub order-there : (n : ℕ) (numbers : List ℕ) → All (λ m. m < n) numbers → All (λ m. m < n) (reverse numbers)
order-there n [] h = h
order-there n (x ∷ xs) h =
    subst (λ (l : List ℕ). All (λ m. m < n) l) (sym (reverse-append (x ∷ []) xs))
    (there-push n (reverse xs) x (order-there n xs (All-tail (λ m. m < n) x xs h)) (All-head (λ m. m < n) x xs h))

-- a list that is written over the beginning of another
pub take-own : (xs ys : List ℕ) (n : ℕ) → length xs ≡ n → take n (xs ++ ys) ≡ xs
take-own [] ys zero h = refl
take-own [] ys (suc n) h = absurd (omega arith)
take-own (x ∷ xs) ys zero h = absurd (omega arith)
take-own (x ∷ xs) ys (suc n) h = ap (λ (l : List ℕ). x ∷ l) (take-own xs ys n (omega arith))

-- what a first node and others mean
pub first-added : (trees : List Tree) (before after last : List ℕ) (ids rest : List ℕ) (i : ℕ) → ids ≡ i ∷ rest → trees_at trees after ≡ added (trees_at trees before) (tree_at trees i)
    → trees_at trees last ≡ added_all (trees_at trees after) (trees_at trees rest) → trees_at trees last ≡ added_all (trees_at trees before) (trees_at trees ids)
first-added trees before after last ids rest i e f g =
    g ∙ ap (λ (l : List Tree). added_all l (trees_at trees rest)) f ∙ ap (λ (l : List ℕ). added_all (trees_at trees before) (trees_at trees l)) (sym e)
