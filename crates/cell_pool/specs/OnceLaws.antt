-- The list of distinct subtrees has each of them once, each after its children.
use Rattle.std.proofs.Common.{◌≡◌, ◌∙◌, ℕ, zero, suc, true, false, List, [], ◌∷◌, ◌++◌, map, refl, ap, sym, subst}
use Rattle.std.proofs.Common.{⊎_elim, inl, inr}
use Rattle.std.specs.Prelude.{Some, slice_get, ◌⊎◌}
use Rattle.std.proofs.lemmas.Bool.{or_cases}
use Rattle.cell_nodes.specs.declared.tree.Tree.{Tree, out-Tree}
use Rattle.cell_nodes.specs.Good.{IsGood, AllGood}
use Rattle.cell_nodes.specs.GoodParts.{good-children, all_good-head, all_good-tail}
use Rattle.cell_pool.specs.Post.{stands, joined, post, IsSubtree, itself, below}
use Rattle.cell_pool.specs.Listing.{added, added_all, AllStand, IsClosed}
use Rattle.cell_pool.specs.SameLaws.{EachOf, tree_induction}
use Rattle.cell_pool.specs.PlaceLaws.{stands-at, at-stands, once, stands-append, stands-only, stands-joint_cases}
use Rattle.cell_pool.specs.PostLaws.{closed, post-out, stands-post, ordered-post}

-- ---- each subtree, and nothing else

child-stands : (ts us : List Tree) (i : ℕ) (c : Tree) → AllStand us ts → slice_get ts i ≡ Some c → stands us c ≡ true
child-stands [] us i c h k = absurd (cc)
child-stands (t ∷ ts) us zero c h k = let e : t ≡ c = cc in ap (λ (v : Tree). stands us v) (sym e) ∙ h.0
child-stands (t ∷ ts) us (suc i) c h k = child-stands ts us i c h.1 k

subtree-stands : (us : List Tree) (u t : Tree) → IsClosed us → IsSubtree u t → stands us t ≡ true → stands us u ≡ true
subtree-stands us u t c (itself t') h = h
subtree-stands us u t c (below u' v t' i at s) h =
    subtree-stands us u v c s (child-stands (out-Tree t).children us i v (c t h) at)

pub each-subtree : (t u : Tree) → IsSubtree u t → (i : ℕ) × (slice_get (post t) i ≡ Some u)
each-subtree t u s =
    at-stands (post t) u (subtree-stands (post t) u t (closed (post t) (ordered-post t).before) s (stands-post t))

abbrev OnlySubtrees : Tree → Type 0
OnlySubtrees t = (u : Tree) → stands (post t) u ≡ true → IsSubtree u t

only-all : (seen ts : List Tree) (u : Tree) → EachOf OnlySubtrees ts → stands (added_all seen ts) u ≡ true
    → (stands seen u ≡ true) ⊎ ((i : ℕ) × (c : Tree) × (slice_get ts i ≡ Some c) × IsSubtree u c)
only-all seen [] u each h = inl h
only-all seen (t ∷ ts) u each h = ⊎_elim
    (λ (k : stands (added seen t) u ≡ true). ⊎_elim
    (λ (l : stands seen u ≡ true). inl l)
    (λ (l : stands (post t) u ≡ true). inr (0, t, refl, each.0 u l))
    (stands-joint_cases seen (post t) u k))
    (λ (k : (i : ℕ) × (c : Tree) × (slice_get ts i ≡ Some c) × IsSubtree u c). inr (suc k.0, k.1, k.2, k.3))
    (only-all (added seen t) ts u each.1 h)

only_step : (t : Tree) → EachOf OnlySubtrees (out-Tree t).children → OnlySubtrees t
only_step t each u h =
    let prefix = joined [] (map post (out-Tree t).children) in
    let k : stands (prefix ++ t ∷ []) u ≡ true = sym (ap (λ (l : List Tree). stands l u) (post-out t)) ∙ h in
    ⊎_elim
    (λ (l : stands prefix u ≡ true). ⊎_elim
    (λ (m : false ≡ true). absurd (cc))
    (λ (m : (i : ℕ) × (c : Tree) × (slice_get (out-Tree t).children i ≡ Some c)
    × IsSubtree u c). below u m.1 t m.0 m.2 m.3)
    (only-all [] (out-Tree t).children u each l))
    (λ (l : stands (t ∷ []) u ≡ true). subst (λ (v : Tree). IsSubtree v t) (stands-only t u l) (itself t))
    (or_cases (stands prefix u) (stands (t ∷ []) u) (sym (stands-append prefix (t ∷ []) u) ∙ k))

only-subtrees : (t : Tree) → OnlySubtrees t
only-subtrees = tree_induction OnlySubtrees only_step

pub only-subtree : (t u : Tree) (i : ℕ) → slice_get (post t) i ≡ Some u → IsSubtree u t
only-subtree t u i h = only-subtrees t u (stands-at (post t) i u h)

pub once-post : (t u : Tree) (i j : ℕ) → slice_get (post t) i ≡ Some u → slice_get (post t) j ≡ Some u → i ≡ j
once-post t u i j h k = once (post t) i j u (ordered-post t).distinct h k

-- ---- good trees

pub child-good : (ts : List Tree) (i : ℕ) (c : Tree) → AllGood ts → slice_get ts i ≡ Some c → IsGood c
child-good [] i c g h = absurd (cc)
child-good (t ∷ ts) zero c g h = let e : t ≡ c = cc in subst (λ (v : Tree). IsGood v) e (all_good-head t ts g)
child-good (t ∷ ts) (suc i) c g h = child-good ts i c (all_good-tail t ts g) h

subtree-good : (u t : Tree) → IsSubtree u t → IsGood t → IsGood u
subtree-good u t (itself t') g = g
subtree-good u t (below u' c t' i at s) g =
    subtree-good u c s (child-good (out-Tree t).children i c (good-children t g) at)

-- each subtree of a good tree is good
pub post-good : (t u : Tree) (i : ℕ) → IsGood t → slice_get (post t) i ≡ Some u → IsGood u
post-good t u i g h = subtree-good u t (only-subtree t u i h) g
