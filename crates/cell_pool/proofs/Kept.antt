-- What a pool keeps when a node is added, and a node by its number.
use Rattle.std.proofs.Common.{◌≡◌, ◌∙◌, ℕ, zero, suc, ◌+◌, ◌<◌, ◌≤◌, true, List, [], ◌∷◌, ◌++◌, length, map, get_or, set, replicate, length-append, refl, ap, sym, subst, arith}
use Rattle.std.specs.Prelude.{Some, slice_get}
use Rattle.std.proofs.lemmas.List.{map_push, length-map, length-set, length-replicate, get_or-map}
use Rattle.cell_nodes.specs.declared.tree.Tree.{Tree, out-Tree}
use Rattle.cell_nodes.specs.Good.{IsGood, AllGood, none}
use Rattle.cell_nodes.specs.GoodParts.{all_good-cons, all_good-head, all_good-tail}
use Rattle.cell_nodes.specs.Tree.{unfolded}
use Rattle.cell_pool.specs.declared.node.PoolNode.{PoolNode}
use Rattle.cell_pool.specs.Post.{stands, place}
use Rattle.cell_pool.specs.Listing.{AllStand, IsOrdered}
use Rattle.cell_pool.specs.Nodes.{trees_of, node_tree, node_numbers, numbers_in, bucket, AllSmall, IsChained, IsPool, Follows}
use Rattle.cell_pool.specs.SameLaws.{same-itself}
use Rattle.cell_pool.specs.PlaceLaws.{or_left, or_right, place-append_left}
use Rattle.cell_pool.specs.PostLaws.{closed, before-empty, ordered-push}
use Rattle.cell_pool.proofs.Chains.{chained-push, chained-empty}

-- ---- numbers

places-more : (seen ts : List Tree) (t : Tree) → AllStand seen ts → map (place (seen ++ t ∷ [])) ts ≡ map (place seen) ts
places-more seen [] t h = refl
places-more seen (u ∷ us) t h = rw (place-append_left seen (t ∷ []) u h.0, places-more seen us t h.1) refl

-- the children of each of the trees stand in the list
abbrev ChildrenStand : List Tree → List Tree → Type 0
ChildrenStand seen ts = (u : Tree) → stands ts u ≡ true → AllStand seen (out-Tree u).children

numbers-more : (seen ts : List Tree) (t : Tree) → ChildrenStand seen ts → map (numbers_in (seen ++ t ∷ [])) ts ≡ map (numbers_in seen) ts
numbers-more seen [] t h = refl
numbers-more seen (u ∷ us) t h =
    rw (places-more seen (out-Tree u).children t (h u (or_left _ _ (same-itself u))), numbers-more seen us t (λ v k. h v (or_right _ _ k))) refl

-- ---- one tree more

good-push : (ts : List Tree) (t : Tree) → AllGood ts → IsGood t → AllGood (ts ++ t ∷ [])
good-push [] t all h = all_good-cons t [] h none
good-push (u ∷ us) t all h = all_good-cons u (us ++ t ∷ []) (all_good-head u us all) (good-push us t (all_good-tail u us all) h)

small-push : (ts : List Tree) (t : Tree) → AllSmall ts → unfolded t ≤ 262144 → AllSmall (ts ++ t ∷ [])
small-push [] t all h = (h, tt)
small-push (u ∷ us) t all h = (all.0, small-push us t all.1 h)

numbers-push : (nodes : List PoolNode) (n : PoolNode) → IsOrdered (trees_of nodes) → map node_numbers nodes ≡ map (numbers_in (trees_of nodes)) (trees_of nodes)
    → Follows (trees_of nodes) n.cell n.children.items
    → map node_numbers (nodes ++ n ∷ []) ≡ map (numbers_in (trees_of nodes ++ n.cell ∷ [])) (trees_of nodes ++ n.cell ∷ [])
numbers-push nodes n o e f =
    let seen = trees_of nodes in
    let t : Tree = n.cell in
    let numbers : List ℕ = n.children.items in
    map_push node_numbers nodes n
    ∙ ap (λ (l : List (List ℕ)). l ++ numbers ∷ []) e
    ∙ ap (λ (l : List (List ℕ)). l ++ numbers ∷ []) (sym (numbers-more seen seen t (closed seen o.before)))
    ∙ ap (λ (l : List ℕ). map (numbers_in (seen ++ t ∷ [])) seen ++ l ∷ []) (f.numbers_are ∙ sym (places-more seen (out-Tree t).children t f.children_stand))
    ∙ sym (map_push (numbers_in (seen ++ t ∷ [])) seen t)

chains-push : (nodes : List PoolNode) (heads : List ℕ) (n : PoolNode) (count b m : ℕ) → count ≡ length heads
    → IsChained (map (bucket count) (trees_of nodes)) (map (λ (k : PoolNode). k.next) nodes) heads
    → b ≡ bucket count n.cell → b < length heads → n.next ≡ get_or heads b 0 → m ≡ length nodes + 1
    → IsChained (map (bucket count) (trees_of nodes ++ n.cell ∷ [])) (map (λ (k : PoolNode). k.next) (nodes ++ n ∷ [])) (set heads b m)
chains-push nodes heads n count b m ec c eb h en em =
    let bs = map (bucket count) (trees_of nodes) in
    let links = map (λ (k : PoolNode). k.next) nodes in
    let lb : length bs ≡ length nodes = length-map (trees_of nodes) (bucket count) ∙ length-map nodes node_tree in
    let ll : length links ≡ length nodes = length-map nodes (λ (k : PoolNode). k.next) in
    let eB : map (bucket count) (trees_of nodes ++ n.cell ∷ []) ≡ bs ++ b ∷ [] = map_push (bucket count) (trees_of nodes) n.cell ∙ ap (λ (x : ℕ). bs ++ x ∷ []) (sym eb) in
    let eL : map (λ (k : PoolNode). k.next) (nodes ++ n ∷ []) ≡ links ++ get_or heads b 0 ∷ [] = map_push (λ (k : PoolNode). k.next) nodes n ∙ ap (λ (x : ℕ). links ++ x ∷ []) en in
    let eM : m ≡ length bs + 1 = omega (arith, em, lb) in
    subst (λ (x : List ℕ). IsChained x (map (λ (k : PoolNode). k.next) (nodes ++ n ∷ [])) (set heads b m)) (sym eB)
    (subst (λ (x : List ℕ). IsChained (bs ++ b ∷ []) x (set heads b m)) (sym eL)
    (subst (λ (x : ℕ). IsChained (bs ++ b ∷ []) (links ++ get_or heads b 0 ∷ []) (set heads b x)) (sym eM)
    (chained-push bs links heads b c (ll ∙ sym lb) h)))

pub pool-push : (nodes : List PoolNode) (heads : List ℕ) (n : PoolNode) (b m : ℕ) → IsPool nodes heads → Follows (trees_of nodes) n.cell n.children.items → IsGood n.cell
    → b ≡ bucket (length heads) n.cell → b < length heads → n.next ≡ get_or heads b 0 → m ≡ length nodes + 1 → IsPool (nodes ++ n ∷ []) (set heads b m)
pool-push nodes heads n b m p f g eb h en em =
    let seen = trees_of nodes in
    let e : trees_of (nodes ++ n ∷ []) ≡ seen ++ n.cell ∷ [] = map_push node_tree nodes n in
    let len : length (set heads b m) ≡ length heads = length-set heads b m in
    let lt : length seen ≡ length nodes = length-map nodes node_tree in
    record {
      good = subst (λ (l : List Tree). AllGood l) (sym e) (good-push seen n.cell p.good g);
      small = subst (λ (l : List Tree). AllSmall l) (sym e) (small-push seen n.cell p.small f.is_small);
      ordered = subst (λ (l : List Tree). IsOrdered l) (sym e) (ordered-push seen n.cell p.ordered f.is_new f.children_stand);
      numbers_are = numbers-push nodes n p.ordered p.numbers_are f ∙ ap (λ (l : List Tree). map (numbers_in l) l) (sym e);
      few = omega (arith, f.room, lt, length-append nodes (n ∷ []));
      some_heads = omega (arith, len, p.some_heads);
      chained =
          subst (λ (l : List Tree). IsChained (map (bucket (length (set heads b m))) l) (map (λ (k : PoolNode). k.next) (nodes ++ n ∷ [])) (set heads b m)) (sym e)
          (subst (λ (x : ℕ). IsChained (map (bucket x) (seen ++ n.cell ∷ [])) (map (λ (k : PoolNode). k.next) (nodes ++ n ∷ [])) (set heads b m)) (sym len)
          (chains-push nodes heads n (length heads) b m refl p.chained eb h en em));
    }

pub pool-empty : (n : ℕ) → 0 < n → IsPool [] (replicate n 0)
pool-empty n h = record {
  good = none;
  small = tt;
  ordered = record { before = before-empty; distinct = tt };
  numbers_are = refl;
  few = omega arith;
  some_heads = omega (arith, length-replicate {A = ℕ} n 0);
  chained = chained-empty n;
}

-- ---- a node by its number

pub tree-at : (nodes : List PoolNode) (i : ℕ) (n : PoolNode) → i < length nodes → n ≡ get_or nodes i n → slice_get (trees_of nodes) i ≡ Some n.cell
tree-at [] i n h e = absurd (omega arith)
tree-at (m ∷ ms) zero n h e = ap (λ (k : PoolNode). Some k.cell) (sym e)
tree-at (m ∷ ms) (suc i) n h e = tree-at ms i n (omega arith) e

children-at : (nodes : List PoolNode) (f : Tree → List ℕ) (i : ℕ) (n : PoolNode) → i < length nodes → n ≡ get_or nodes i n
    → map node_numbers nodes ≡ map f (trees_of nodes) → node_numbers n ≡ f n.cell
children-at [] f i n h e k = absurd (omega arith)
children-at (m ∷ ms) f zero n h e k =
    let a : node_numbers m ≡ f m.cell = cc in
    ap node_numbers e ∙ a ∙ ap (λ (x : PoolNode). f x.cell) (sym e)
children-at (m ∷ ms) f (suc i) n h e k =
    let a : map node_numbers ms ≡ map f (trees_of ms) = cc in
    children-at ms f i n (omega arith) e a

pub numbers-at : (nodes : List PoolNode) (heads : List ℕ) (i : ℕ) (n : PoolNode) → i < length nodes → n ≡ get_or nodes i n → IsPool nodes heads
    → node_numbers n ≡ map (place (trees_of nodes)) (out-Tree n.cell).children
numbers-at nodes heads i n h e p = children-at nodes (numbers_in (trees_of nodes)) i n h e p.numbers_are

pub link-at : (nodes : List PoolNode) (i : ℕ) (n : PoolNode) → i < length nodes → n ≡ get_or nodes i n → get_or (map (λ (k : PoolNode). k.next) nodes) i 0 ≡ n.next
link-at nodes i n h e = get_or-map (λ (k : PoolNode). k.next) nodes i n 0 h ∙ ap (λ (k : PoolNode). k.next) (sym e)
