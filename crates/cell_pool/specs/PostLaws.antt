-- The list of distinct subtrees.
use Rattle.std.proofs.Common.{◌≡◌, ◌∙◌, ◌≤◌, Bool, true, false, cond, List, [], ◌∷◌, ◌++◌, map, take, drop}
use Rattle.std.proofs.Common.{take-append-drop, refl, ap, sym, subst, ⊎_elim, inl, inr, append_assoc, arith}
use Rattle.std.specs.Prelude.{not, Some, slice_get, ◌⊎◌, ◌||◌}
use Rattle.std.proofs.lemmas.Bool.{cases_Bool, or_cases}
use Rattle.std.proofs.lemmas.List.{append-nil}
use Rattle.cell_nodes.specs.declared.tree.Tree.{Tree, out-Tree, fold_out-Tree}
use Rattle.cell_nodes.specs.Tree.{tree_of, total, unfolded}
use Rattle.cell_nodes.specs.Equations.{unfolded-out, tree_of-out}
use Rattle.cell_pool.specs.Post.{same, stands, place, without, joined, Listed, listed, listed_step, post}
use Rattle.cell_pool.specs.Listing.{added, added_all, AllStand, IsClosed, IsDistinct, ChildrenBefore, IsOrdered}
use Rattle.cell_pool.specs.SameLaws.{EachOf, tree_induction, same-equal, same-itself}
use Rattle.cell_pool.specs.PlaceLaws.{at-stands, at-push, or_none, stands-append, stands-last, stands-only}
use Rattle.cell_pool.specs.PlaceLaws.{without-append, joined-after, stands-joined, place-joined, stands-joint_new}
use Rattle.cell_pool.specs.PlaceLaws.{stands-joint_cases, all_stand-more}

-- ---- what the definition says

listed-out : (t : Tree)
    → listed t ≡ listed_step
    (record { kind = (out-Tree t).kind; bits = (out-Tree t).bits; children = map listed (out-Tree t).children })
unfolding listed
listed-out t = fold_out-Tree Listed listed_step t

trees_listed : (ts : List Tree) → EachOf (λ t. (listed t).tree ≡ t) ts
    → map (λ (c : Listed). c.tree) (map listed ts) ≡ ts
trees_listed [] each = refl
trees_listed (t ∷ ts) each = rw (each.0, trees_listed ts each.1) refl

listed_step-tree : (t : Tree) → EachOf (λ c. (listed c).tree ≡ c) (out-Tree t).children → (listed t).tree ≡ t
listed_step-tree t each =
    ap (λ (l : Listed). l.tree) (listed-out t)
    ∙ ap (λ (cs : List Tree). tree_of (out-Tree t).kind (out-Tree t).bits cs) (trees_listed (out-Tree t).children each)
    ∙ tree_of-out t

listed-tree : (t : Tree) → (listed t).tree ≡ t
listed-tree = tree_induction (λ t. (listed t).tree ≡ t) listed_step-tree

each-listed : (ts : List Tree) → EachOf (λ t. (listed t).tree ≡ t) ts
each-listed [] = tt
each-listed (t ∷ ts) = (listed-tree t, each-listed ts)

posts-listed : (ts : List Tree) → map (λ (c : Listed). c.post) (map listed ts) ≡ map post ts
posts-listed [] = refl
posts-listed (t ∷ ts) = ap (λ (l : List (List Tree)). post t ∷ l) (posts-listed ts)

pub post-out : (t : Tree) → post t ≡ joined [] (map post (out-Tree t).children) ++ t ∷ []
post-out t =
    let cs = (out-Tree t).children in
    ap (λ (l : Listed). l.post) (listed-out t)
    ∙ ap (λ (ps : List (List Tree)). joined [] ps ++ tree_of
    (out-Tree t).kind (out-Tree t).bits (map (λ (c : Listed). c.tree) (map listed cs)) ∷ []) (posts-listed cs)
    ∙ ap (λ (ts : List Tree). joined [] (map post cs) ++ tree_of (out-Tree t).kind (out-Tree t).bits ts ∷ [])
    (trees_listed cs (each-listed cs))
    ∙ ap (λ (u : Tree). joined [] (map post cs) ++ u ∷ []) (tree_of-out t)

pub stands-post : (t : Tree) → stands (post t) t ≡ true
stands-post t =
    ap (λ (l : List Tree). stands l t) (post-out t) ∙ stands-last (joined [] (map post (out-Tree t).children)) t

-- ---- adding a tree

without-only : (seen : List Tree) (t : Tree) (b : Bool) → stands seen t ≡ b
    → without seen (t ∷ []) ≡ cond (not b) (t ∷ []) []
without-only seen t b h = rw h refl

pub added-out : (seen : List Tree) (t : Tree)
    → added seen t ≡ added_all seen (out-Tree t).children ++ without seen (t ∷ [])
added-out seen t =
    let below = joined [] (map post (out-Tree t).children) in
    ap (λ (l : List Tree). seen ++ without seen l) (post-out t)
    ∙ ap (λ (l : List Tree). seen ++ l) (without-append seen below (t ∷ []))
    ∙ sym (append_assoc seen (without seen below) (without seen (t ∷ [])))
    ∙ ap (λ (l : List Tree). l ++ without seen (t ∷ [])) (sym (joined-after seen (map post (out-Tree t).children)))

-- a tree that is not there comes after its children
pub added-new : (seen : List Tree) (t : Tree) → stands seen t ≡ false
    → added seen t ≡ added_all seen (out-Tree t).children ++ t ∷ []
added-new seen t h =
    added-out seen t ∙ ap (λ (l : List Tree). added_all seen (out-Tree t).children ++ l) (without-only seen t false h)

all_known : (seen ts : List Tree) → EachOf (λ t. IsClosed seen → stands seen t ≡ true → added seen t ≡ seen) ts
    → IsClosed seen → AllStand seen ts → added_all seen ts ≡ seen
all_known seen [] each c h = refl
all_known seen (t ∷ ts) each c h =
    ap (λ (l : List Tree). joined l (map post ts)) (each.0 c h.0) ∙ all_known seen ts each.1 c h.1

known_step : (seen : List Tree) (t : Tree)
    → EachOf (λ u. IsClosed seen → stands seen u ≡ true → added seen u ≡ seen) (out-Tree t).children → IsClosed seen
    → stands seen t ≡ true → added seen t ≡ seen
known_step seen t each c h =
    added-out seen t
    ∙ ap (λ (l : List Tree). added_all seen (out-Tree t).children ++ l) (without-only seen t true h)
    ∙ append-nil (added_all seen (out-Tree t).children)
    ∙ all_known seen (out-Tree t).children each c (c t h)

-- a tree that is there adds nothing
pub added-known : (seen : List Tree) (t : Tree) → IsClosed seen → stands seen t ≡ true → added seen t ≡ seen
added-known seen = tree_induction (λ t. IsClosed seen → stands seen t ≡ true → added seen t ≡ seen) (known_step seen)

-- ---- what is added is no larger

abbrev HasSmaller : Tree → Type 0
HasSmaller t = (u : Tree) → stands (post t) u ≡ true → unfolded u ≤ unfolded t

small-all : (seen ts : List Tree) (u : Tree) → EachOf HasSmaller ts → stands (added_all seen ts) u ≡ true
    → (stands seen u ≡ true) ⊎ (unfolded u ≤ total (map unfolded ts))
small-all seen [] u each h = inl h
small-all seen (t ∷ ts) u each h = ⊎_elim
    (λ (k : stands (added seen t) u ≡ true). ⊎_elim
    (λ (l : stands seen u ≡ true). inl l)
    (λ (l : stands (post t) u ≡ true). inr (omega (arith, each.0 u l)))
    (stands-joint_cases seen (post t) u k))
    (λ (k : unfolded u ≤ total (map unfolded ts)). inr (omega arith))
    (small-all (added seen t) ts u each.1 h)

small_step : (t : Tree) → EachOf HasSmaller (out-Tree t).children → HasSmaller t
small_step t each u h =
    let below = joined [] (map post (out-Tree t).children) in
    let k : stands (below ++ t ∷ []) u ≡ true = sym (ap (λ (l : List Tree). stands l u) (post-out t)) ∙ h in
    ⊎_elim
    (λ (l : stands below u ≡ true). ⊎_elim
    (λ (m : false ≡ true). cc)
    (λ (m : unfolded u ≤ total (map unfolded (out-Tree t).children)). omega (arith, unfolded-out t))
    (small-all [] (out-Tree t).children u each l))
    (λ (l : stands (t ∷ []) u ≡ true). let e : t ≡ u = stands-only t u l in omega (arith, ap unfolded e))
    (or_cases (stands below u) (stands (t ∷ []) u) (sym (stands-append below (t ∷ []) u) ∙ k))

pub small : (t : Tree) → HasSmaller t
small = tree_induction HasSmaller small_step

each-small : (ts : List Tree) → EachOf HasSmaller ts
each-small [] = tt
each-small (t ∷ ts) = (small t, each-small ts)

-- a tree does not come with its children
pub still_new : (seen : List Tree) (t : Tree) → stands seen t ≡ false
    → stands (added_all seen (out-Tree t).children) t ≡ false
still_new seen t h = ⊎_elim
    (λ (k : stands (added_all seen (out-Tree t).children) t ≡ true). ⊎_elim
    (λ (l : stands seen t ≡ true). cc)
    (λ (l : unfolded t ≤ total (map unfolded (out-Tree t).children)). absurd (omega (arith, unfolded-out t)))
    (small-all seen (out-Tree t).children t (each-small (out-Tree t).children) k))
    (λ (k : stands (added_all seen (out-Tree t).children) t ≡ false). k)
    (cases_Bool (stands (added_all seen (out-Tree t).children) t))

-- ---- what stands after adding

pub stands-added : (seen : List Tree) (t : Tree) → stands (added seen t) t ≡ true
stands-added seen t = stands-joint_new seen (post t) t (stands-post t)

pub all_stand-added : (seen ts : List Tree) → AllStand (added_all seen ts) ts
all_stand-added seen [] = tt
all_stand-added seen (t ∷ ts) =
    (stands-joined (added seen t) (map post ts) t (stands-added seen t), all_stand-added (added seen t) ts)

pub place-added : (seen ts : List Tree) (t : Tree) → place (added_all (added seen t) ts) t ≡ place (added seen t) t
place-added seen ts t = place-joined (added seen t) (map post ts) t (stands-added seen t)

-- ---- ordered lists

-- the children of a tree that stands in the list do
pub closed : (seen : List Tree) → ChildrenBefore seen → IsClosed seen
closed seen b t h =
    let at = at-stands seen t h in
    let e : take at.0 seen ++ drop at.0 seen ≡ seen = take-append-drop at.0 seen in
    subst (λ (l : List Tree). AllStand l (out-Tree t).children) e
    (all_stand-more (take at.0 seen) (drop at.0 seen) (out-Tree t).children (b at.0 t at.1))

before-push : (seen : List Tree) (t : Tree) → ChildrenBefore seen → AllStand seen (out-Tree t).children
    → ChildrenBefore (seen ++ t ∷ [])
before-push seen t b h i u k = ⊎_elim
    (λ (l : (slice_get seen i ≡ Some u) × (take i (seen ++ t ∷ []) ≡ take i seen)).
    subst (λ (x : List Tree). AllStand x (out-Tree u).children) (sym l.1) (b i u l.0))
    (λ (l : (t ≡ u) × (take i (seen ++ t ∷ []) ≡ seen)).
    subst (λ (x : List Tree). AllStand x (out-Tree u).children) (sym l.1)
    (subst (λ (v : Tree). AllStand seen (out-Tree v).children) l.0 h))
    (at-push seen t u i k)

other : (x t : Tree) → same x t ≡ false → same t x ≡ false
other x t h = ⊎_elim
    (λ (k : same t x ≡ true).
    let e : same x t ≡ true = ap (λ (v : Tree). same v t) (sym (same-equal t x k)) ∙ same-itself t in
    cc)
    (λ (k : same t x ≡ false). k)
    (cases_Bool (same t x))

or_first : (x y : Bool) → (x || y) ≡ false → x ≡ false
or_first true y h = h
or_first false y h = refl

or_second : (x y : Bool) → (x || y) ≡ false → y ≡ false
or_second true y h = cc
or_second false y h = h

pub distinct-push : (seen : List Tree) (t : Tree) → IsDistinct seen → stands seen t ≡ false
    → IsDistinct (seen ++ t ∷ [])
distinct-push [] t d h = (refl, tt)
distinct-push (x ∷ xs) t d h =
    let k : same x t ≡ false = or_first (same x t) (stands xs t) h in
    let l : stands xs t ≡ false = or_second (same x t) (stands xs t) h in (
      stands-append xs (t ∷ []) x
          ∙ or_none (stands xs x) (same t x || false) d.0 (or_none (same t x) false (other x t k) refl),
      distinct-push xs t d.1 l,
    )

pub ordered-push : (seen : List Tree) (t : Tree) → IsOrdered seen → stands seen t ≡ false
    → AllStand seen (out-Tree t).children → IsOrdered (seen ++ t ∷ [])
ordered-push seen t o n h = record {
  before = before-push seen t o.before h;
  distinct = distinct-push seen t o.distinct n;
}

all_ordered : (seen ts : List Tree) → EachOf (λ t. (seen : List Tree) → IsOrdered seen → IsOrdered (added seen t)) ts
    → IsOrdered seen → IsOrdered (added_all seen ts)
all_ordered seen [] each o = o
all_ordered seen (t ∷ ts) each o = all_ordered (added seen t) ts each.1 (each.0 seen o)

ordered_step : (t : Tree)
    → EachOf (λ u. (seen : List Tree) → IsOrdered seen → IsOrdered (added seen u)) (out-Tree t).children
    → (seen : List Tree) → IsOrdered seen → IsOrdered (added seen t)
ordered_step t each seen o = ⊎_elim
    (λ (h : stands seen t ≡ true). subst (λ (l : List Tree). IsOrdered l)
    (sym (added-known seen t (closed seen o.before) h)) o)
    (λ (h : stands seen t ≡ false).
    subst (λ (l : List Tree). IsOrdered l) (sym (added-new seen t h))
    (ordered-push (added_all seen (out-Tree t).children) t (all_ordered seen (out-Tree t).children each o)
    (still_new seen t h) (all_stand-added seen (out-Tree t).children)))
    (cases_Bool (stands seen t))

pub ordered-added : (t : Tree) (seen : List Tree) → IsOrdered seen → IsOrdered (added seen t)
ordered-added = tree_induction (λ t. (seen : List Tree) → IsOrdered seen → IsOrdered (added seen t)) ordered_step

each-ordered : (ts : List Tree) → EachOf (λ t. (seen : List Tree) → IsOrdered seen → IsOrdered (added seen t)) ts
each-ordered [] = tt
each-ordered (t ∷ ts) = (ordered-added t, each-ordered ts)

pub ordered-added_all : (seen ts : List Tree) → IsOrdered seen → IsOrdered (added_all seen ts)
ordered-added_all seen ts o = all_ordered seen ts (each-ordered ts) o

-- where a tree stands after its children were added, it adds nothing more
pub added-again : (seen : List Tree) (t : Tree) → IsOrdered seen
    → stands (added_all seen (out-Tree t).children) t ≡ true
    → added_all seen (out-Tree t).children ≡ added seen t
added-again seen t o h = ⊎_elim
    (λ (k : stands seen t ≡ true).
    sym (added-out seen t
    ∙ ap (λ (l : List Tree). added_all seen (out-Tree t).children ++ l) (without-only seen t true k)
    ∙ append-nil (added_all seen (out-Tree t).children)))
    (λ (k : stands seen t ≡ false). let e = still_new seen t k in absurd (cc))
    (cases_Bool (stands seen t))

-- where it does not, it did not stand before
pub new-before : (seen : List Tree) (t : Tree) → stands (added_all seen (out-Tree t).children) t ≡ false
    → stands seen t ≡ false
new-before seen t h = ⊎_elim
    (λ (k : stands seen t ≡ true).
    let e : stands (added_all seen (out-Tree t).children) t ≡ true =
    stands-joined seen (map post (out-Tree t).children) t k in
    absurd (cc))
    (λ (k : stands seen t ≡ false). k)
    (cases_Bool (stands seen t))

pub before-empty : ChildrenBefore []
before-empty i t h = absurd (cc)

without-nothing : (ts : List Tree) → without [] ts ≡ ts
without-nothing [] = refl
without-nothing (t ∷ ts) = ap (λ (l : List Tree). t ∷ l) (without-nothing ts)

pub added-empty : (t : Tree) → added [] t ≡ post t
added-empty t = without-nothing (post t)

pub ordered-post : (t : Tree) → IsOrdered (post t)
ordered-post t =
    subst (λ (l : List Tree). IsOrdered l) (added-empty t)
    (ordered-added t [] (record { before = before-empty; distinct = tt }))
