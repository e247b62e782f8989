-- A tree that is added to a pool.
use Rattle.std.proofs.Common.{◌≡◌, ◌∙◌, ℕ, ◌+◌, ◌^◌, ◌<◌, ◌≤◌, true, false, List, [], ◌∷◌, ◌++◌, length, map, append_assoc, length-append, ap, sym, subst, arith}
use Rattle.std.specs.Prelude.{Result, Ok, Err, IfOk, OnOk, OnErr, Some, slice_get}
use Rattle.cell_nodes.specs.declared.tree.Tree.{Tree, out-Tree}
use Rattle.cell_nodes.specs.Equations.{unfolded-out}
use Rattle.cell_nodes.specs.Tree.{unfolded}
use Rattle.cell_pool.specs.Post.{stands, place, without, post}
use Rattle.cell_pool.specs.Listing.{added, added_all, AllStand, IsOrdered, IsPartly, LiesBetween}
use Rattle.cell_pool.specs.Nodes.{numbers_in, Follows}
use Rattle.cell_pool.specs.PlaceLaws.{place-last, place-at, at-place, stands-at}
use Rattle.cell_pool.specs.PostLaws.{stands-added, added-new, added-again, new-before, all_stand-added, ordered-added_all, place-added}
use Rattle.cell_pool.specs.GrowthLaws.{length-added, length-added_all, between-more, between-after, between-partly, between-all, partly}

pub on_err : {T E P : Type 0} (r : Result T E) → P → OnErr r P
on_err (Ok x) p = tt
on_err (Err e) p = p

pub on_ok_both : {T E A B C : Type 0} (r : Result T E) → OnOk r A → OnOk r B → (A → B → C) → OnOk r C
on_ok_both (Ok x) a b f = f a b
on_ok_both (Err e) a b f = tt

-- ---- the cell, after its children

-- the children of the tree were added
abbrev pub AddedBelow : List Tree → List Tree → Tree → List Tree → Type 0
AddedBelow seen below t refs = (below ≡ added_all seen refs) × (refs ≡ (out-Tree t).children)

below-is : (seen below refs : List Tree) (t : Tree) → AddedBelow seen below t refs → below ≡ added_all seen (out-Tree t).children
below-is seen below refs t a = a.0 ∙ ap (λ (l : List Tree). added_all seen l) a.1

pub partly-below : (seen new refs : List Tree) (t : Tree) → IsOrdered seen → refs ≡ (out-Tree t).children → LiesBetween seen new (added_all seen refs) → IsPartly seen new t
partly-below seen new refs t o e l = partly seen new t o.before (subst (λ (x : List Tree). LiesBetween seen new (added_all seen x)) e l)

pub partly-all : (seen below refs : List Tree) (t : Tree) → IsOrdered seen → AddedBelow seen below t refs → IsPartly seen below t
partly-all seen below refs t o a =
    subst (λ (x : List Tree). IsPartly seen x t) (sym (below-is seen below refs t a)) (partly seen _ t o.before (between-all seen (out-Tree t).children))

pub children-stand : (seen below refs : List Tree) (t : Tree) → AddedBelow seen below t refs → AllStand below (out-Tree t).children
children-stand seen below refs t a =
    subst (λ (x : List Tree). AllStand x (out-Tree t).children) (sym (below-is seen below refs t a)) (all_stand-added seen (out-Tree t).children)

pub known : (seen below refs : List Tree) (t : Tree) (i : ℕ) → IsOrdered seen → AddedBelow seen below t refs → slice_get below i ≡ Some t → below ≡ added seen t
known seen below refs t i o a h =
    let e = below-is seen below refs t a in
    e ∙ added-again seen t o (ap (λ (x : List Tree). stands x t) (sym e) ∙ stands-at below i t h)

pub known-number : (seen below refs : List Tree) (t : Tree) (i : ℕ) → IsOrdered seen → AddedBelow seen below t refs → slice_get below i ≡ Some t → i ≡ place below t
known-number seen below refs t i o a h =
    let d = subst (λ (x : List Tree). IsOrdered x) (sym (below-is seen below refs t a)) (ordered-added_all seen (out-Tree t).children o) in
    sym (place-at below i t d.distinct h)

pub follows : (seen below refs : List Tree) (t u : Tree) (numbers : List ℕ) → AddedBelow seen below t refs → stands below t ≡ false
    → numbers ≡ map (place below) refs → u ≡ t → unfolded t ≤ 262144 → length seen + unfolded t < 2 ^ 32 → Follows below u numbers
follows seen below refs t u numbers a n k e small room =
    let b = below-is seen below refs t a in
    let len = length-added_all seen (out-Tree t).children in
    record {
      is_new = ap (λ (v : Tree). stands below v) e ∙ n;
      children_stand = subst (λ (v : Tree). AllStand below (out-Tree v).children) (sym e) (children-stand seen below refs t a);
      numbers_are = k ∙ ap (λ (l : List Tree). map (place below) l) a.1 ∙ ap (λ (v : Tree). numbers_in below v) (sym e);
      is_small = omega (arith, small, ap unfolded e);
      room = omega (arith, room, len, ap length b, unfolded-out t);
    }

pub grown : (seen below refs : List Tree) (t u : Tree) → AddedBelow seen below t refs → stands below t ≡ false → u ≡ t → below ++ u ∷ [] ≡ added seen t
grown seen below refs t u a n e =
    let b = below-is seen below refs t a in
    ap (λ (l : List Tree). l ++ u ∷ []) b
    ∙ ap (λ (v : Tree). added_all seen (out-Tree t).children ++ v ∷ []) e
    ∙ sym (added-new seen t (new-before seen t (ap (λ (l : List Tree). stands l t) (sym b) ∙ n)))

pub number-last : (below : List Tree) (t u : Tree) → stands below t ≡ false → u ≡ t → place (below ++ u ∷ []) t ≡ length below
number-last below t u n e = ap (λ (v : Tree). place (below ++ v ∷ []) t) e ∙ place-last below t n

-- ---- the children, from the left

pub between-first : (seen new refs rest : List Tree) (t : Tree) → refs ≡ t ∷ rest → IsPartly seen new t → LiesBetween seen new (added_all seen refs)
between-first seen new refs rest t e p =
    subst (λ (x : List Tree). LiesBetween seen new (added_all seen x)) (sym e)
    (between-more seen new (added seen t) (map post rest) (between-partly seen new t p))

whole : (seen : List Tree) (t : Tree) → LiesBetween seen (added seen t) (added seen t)
whole seen t = between-all seen (t ∷ [])

pub between-one : (seen next refs rest : List Tree) (t : Tree) → refs ≡ t ∷ rest → next ≡ added seen t → LiesBetween seen next (added_all seen refs)
between-one seen next refs rest t e f =
    subst (λ (x : List Tree). LiesBetween seen x (added_all seen refs)) (sym f)
    (subst (λ (x : List Tree). LiesBetween seen (added seen t) (added_all seen x)) (sym e)
    (between-more seen (added seen t) (added seen t) (map post rest) (whole seen t)))

pub between-rest : (seen next new refs rest : List Tree) (t : Tree) → refs ≡ t ∷ rest → next ≡ added seen t → LiesBetween next new (added_all next rest)
    → LiesBetween seen new (added_all seen refs)
between-rest seen next new refs rest t e f l =
    let w = whole seen t in
    subst (λ (x : List Tree). LiesBetween seen new (added_all seen x)) (sym e)
    (between-after seen (added seen t) new (added_all (added seen t) rest) w.part w.starts
    (subst (λ (x : List Tree). LiesBetween x new (added_all x rest)) f l))

-- the numbers of a first tree and of others
pub numbers-cons : (seen : List Tree) (t : Tree) (ts next final : List Tree) (numbers : List ℕ) (n : ℕ) → next ≡ added seen t → n ≡ place next t → final ≡ added_all next ts
    → (numbers ++ n ∷ []) ++ map (place final) ts ≡ numbers ++ map (place final) (t ∷ ts)
numbers-cons seen t ts next final numbers n e k f =
    let g : final ≡ added_all (added seen t) ts = f ∙ ap (λ (l : List Tree). added_all l ts) e in
    let p : n ≡ place final t = k ∙ ap (λ (l : List Tree). place l t) e ∙ sym (place-added seen ts t) ∙ ap (λ (l : List Tree). place l t) (sym g) in
    append_assoc numbers (n ∷ []) (map (place final) ts) ∙ ap (λ (m : ℕ). numbers ++ m ∷ map (place final) ts) p

pub on_err_map : {T E A B : Type 0} (r : Result T E) → (A → B) → OnErr r A → OnErr r B
on_err_map (Ok x) f a = tt
on_err_map (Err e) f a = f a

-- ---- the whole call

pub meaning : {E : Type 0} (r : Result ℕ E) (old new : List Tree) (t : Tree) → OnOk r (new ≡ added old t) → IfOk r (λ n. n ≡ place new t) → IfOk r (λ id. slice_get new id ≡ Some t)
meaning (Ok n) old new t e k =
    let s : stands new t ≡ true = ap (λ (l : List Tree). stands l t) e ∙ stands-added old t in
    ap (λ (i : ℕ). slice_get new i) k ∙ at-place new t s
meaning (Err x) old new t e k = tt

pub few : {E : Type 0} (r : Result ℕ E) (old new : List Tree) (t : Tree) → OnOk r (new ≡ added old t) → OnErr r (IsPartly old new t) → length new ≤ length old + unfolded t
few (Ok n) old new t e p = omega (arith, ap length e, length-added old t)
few (Err x) old new t e p =
    omega (arith, length-added old t, ap length p.starts, length-append old p.part, ap length p.whole, length-append p.part p.rest, length-append old (without old (post t)))
