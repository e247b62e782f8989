-- A node that is sought along a chain.
use Rattle.std.proofs.Common.{◌≡◌, ◌∙◌, ◌≢◌, ℕ, zero, suc, ◌<◌, ◌≤◌, true, false, List, [], ◌∷◌, length, map, get_or, refl, ap, sym, subst, ⊎_elim, arith}
use Rattle.std.specs.Prelude.{Some, slice_get}
use Rattle.std.proofs.lemmas.Bool.{cases_Bool, cases_lt}
use Rattle.std.proofs.lemmas.List.{length-map}
use Rattle.cell_nodes.specs.declared.tree.Tree.{Tree, out-Tree}
use Rattle.cell_pool.specs.declared.node.PoolNode.{PoolNode}
use Rattle.cell_pool.specs.Post.{stands, place}
use Rattle.cell_pool.specs.Listing.{AllStand}
use Rattle.cell_pool.specs.Nodes.{SameContent, trees_of, node_tree, node_numbers, numbers_in, bucket, IsLink, IsChained, IsPool}
use Rattle.cell_pool.specs.SameLaws.{same_parts}
use Rattle.cell_pool.specs.PlaceLaws.{at-stands, at-place, stands-at}
use Rattle.cell_pool.specs.PostLaws.{closed}
use Rattle.cell_pool.proofs.Kept.{tree-at, numbers-at, link-at}

-- the chain from the link on has the places where the tree stands
pub record IsSought (trees : List Tree) (count : ℕ) (t : Tree) (link : ℕ) : Type 0 where
  pub within : link ≤ length trees
  pub inside : (i : ℕ) → link ≡ suc i → get_or (map (bucket count) trees) i 0 ≡ bucket count t
  pub last : (i : ℕ) → slice_get trees i ≡ Some t → i < link

bucket-at : (trees : List Tree) (count i : ℕ) (t : Tree) → slice_get trees i ≡ Some t → (i < length trees) × (get_or (map (bucket count) trees) i 0 ≡ bucket count t)
bucket-at [] count i t h = absurd (cc)
bucket-at (u ∷ us) count zero t h = let e : u ≡ t = cc in (omega arith, ap (bucket count) e)
bucket-at (u ∷ us) count (suc i) t h = let r = bucket-at us count i t h in (omega (arith, r.0), r.1)

pub sought-first : (trees : List Tree) (links heads : List ℕ) (count b link : ℕ) (t : Tree) → IsChained (map (bucket count) trees) links heads
    → b ≡ bucket count t → b < length heads → link ≡ get_or heads b 0 → IsSought trees count t link
sought-first trees links heads count b link t c eb h e =
    let bs = map (bucket count) trees in
    let l : IsLink bs (length bs) b link = subst (λ (x : ℕ). IsLink bs (length bs) b x) (sym e) (c.heads_link b h) in
    let n : length bs ≡ length trees = length-map trees (bucket count) in
    record {
      within = omega (arith, l.within, n);
      inside = λ i k. l.inside i k ∙ eb;
      last = λ i k. let r = bucket-at trees count i t k in l.last i (omega (arith, r.0, n)) (r.1 ∙ sym eb);
    }

pub sought-next : (trees : List Tree) (links heads : List ℕ) (count link i : ℕ) (t u : Tree) → IsChained (map (bucket count) trees) links heads
    → IsSought trees count t link → link ≡ suc i → slice_get trees i ≡ Some u → u ≢ t → IsSought trees count t (get_or links i 0)
sought-next trees links heads count link i t u c s e at ne =
    let bs = map (bucket count) trees in
    let n : length bs ≡ length trees = length-map trees (bucket count) in
    let l : IsLink bs i (get_or bs i 0) (get_or links i 0) = c.nodes_link i (omega (arith, e, s.within, n)) in
    record {
      within = omega (arith, l.within, e, s.within);
      inside = λ j k. l.inside j k ∙ s.inside i e;
      last = λ j k.
          let r = bucket-at trees count j t k in
          let below : j < suc i = subst (λ (x : ℕ). j < x) e (s.last j k) in
          ⊎_elim
          (λ (m : j < i). l.last j m (r.1 ∙ sym (s.inside i e)))
          (λ (m : i ≤ j).
          let z : j ≡ i = omega (arith, below, m) in
          let f : Some t ≡ Some u = sym k ∙ ap (λ (x : ℕ). slice_get trees x) z ∙ at in
          let g : u ≡ t = cc in
          absurd (ne g))
          (cases_lt j i);
    }

pub sought-none : (trees : List Tree) (count link : ℕ) (t : Tree) → IsSought trees count t link → link ≡ 0 → stands trees t ≡ false
sought-none trees count link t s e = ⊎_elim
    (λ (h : stands trees t ≡ true). let r = at-stands trees t h in absurd (omega (arith, s.last r.0 r.1, e)))
    (λ (h : stands trees t ≡ false). h)
    (cases_Bool (stands trees t))

-- ---- a node with the kind, the bits and the children of a tree

places-equal : (seen xs ys : List Tree) → AllStand seen xs → AllStand seen ys → map (place seen) xs ≡ map (place seen) ys → xs ≡ ys
places-equal seen [] [] h k e = refl
places-equal seen [] (y ∷ ys) h k e = absurd (cc)
places-equal seen (x ∷ xs) [] h k e = absurd (cc)
places-equal seen (x ∷ xs) (y ∷ ys) h k e =
    let p : place seen x ≡ place seen y = cc in
    let q : map (place seen) xs ≡ map (place seen) ys = cc in
    let r : Some x ≡ Some y = sym (at-place seen x h.0) ∙ ap (λ (i : ℕ). slice_get seen i) p ∙ at-place seen y k.0 in
    let s : x ≡ y = cc in
    let t : xs ≡ ys = places-equal seen xs ys h.1 k.1 q in
    cc

pub node-equal : (seen : List Tree) (u t : Tree) → SameContent u t → AllStand seen (out-Tree u).children → AllStand seen (out-Tree t).children
    → map (place seen) (out-Tree u).children ≡ map (place seen) (out-Tree t).children → u ≡ t
node-equal seen u t s a b e = same_parts u t s.0 s.1 (places-equal seen (out-Tree u).children (out-Tree t).children a b e)

abbrev links_of : List PoolNode → List ℕ
links_of nodes = map (λ (k : PoolNode). k.next) nodes

-- the node that was sought
pub node-found : (nodes : List PoolNode) (heads : List ℕ) (i : ℕ) (n : PoolNode) (t : Tree) (numbers : List ℕ) → IsPool nodes heads → i < length nodes → n ≡ get_or nodes i n
    → numbers ≡ numbers_in (trees_of nodes) t → AllStand (trees_of nodes) (out-Tree t).children → SameContent n.cell t → node_numbers n ≡ numbers
    → slice_get (trees_of nodes) i ≡ Some t
node-found nodes heads i n t numbers p h e ns all s m =
    let at = tree-at nodes i n h e in
    let own = closed (trees_of nodes) p.ordered.before n.cell (stands-at (trees_of nodes) i n.cell at) in
    let same = node-equal (trees_of nodes) n.cell t s own all (sym (numbers-at nodes heads i n h e p) ∙ m ∙ ns) in
    at ∙ ap (λ (u : Tree). Some u) same

-- and one that is passed
pub node-other : (nodes : List PoolNode) (heads : List ℕ) (i : ℕ) (n : PoolNode) (t : Tree) (numbers : List ℕ) → IsPool nodes heads → i < length nodes → n ≡ get_or nodes i n
    → numbers ≡ numbers_in (trees_of nodes) t → (SameContent n.cell t × (node_numbers n ≡ numbers) → ⊥) → n.cell ≢ t
node-other nodes heads i n t numbers p h e ns other same =
    other (
      (ap (λ (u : Tree). (out-Tree u).kind) same, ap (λ (u : Tree). (out-Tree u).bits) same),
      numbers-at nodes heads i n h e p ∙ ap (λ (u : Tree). numbers_in (trees_of nodes) u) same ∙ sym ns,
    )

pub chain-next : (nodes : List PoolNode) (heads : List ℕ) (link i : ℕ) (n : PoolNode) (t : Tree) → IsPool nodes heads → i < length nodes → n ≡ get_or nodes i n
    → IsSought (trees_of nodes) (length heads) t link → link ≡ suc i → n.cell ≢ t → IsSought (trees_of nodes) (length heads) t n.next
chain-next nodes heads link i n t p h e s el ne =
    subst (λ (x : ℕ). IsSought (trees_of nodes) (length heads) t x) (link-at nodes i n h e)
    (sought-next (trees_of nodes) (links_of nodes) heads (length heads) link i t n.cell p.chained s el (tree-at nodes i n h e) ne)

-- a link leads to an earlier node
pub link-before : (nodes : List PoolNode) (heads : List ℕ) (i : ℕ) (n : PoolNode) → IsPool nodes heads → i < length nodes → n ≡ get_or nodes i n → n.next ≤ i
link-before nodes heads i n p h e =
    let bs = map (bucket (length heads)) (trees_of nodes) in
    let len : length bs ≡ length nodes = length-map (trees_of nodes) (bucket (length heads)) ∙ length-map nodes node_tree in
    let l = p.chained.nodes_link i (omega (arith, h, len)) in
    omega (arith, l.within, link-at nodes i n h e)
