-- Induction over trees, and the test for equal trees.
use Rattle.std.proofs.Common.{◌≡◌, ◌∙◌, ℕ, zero, suc, ◌≤◌, Bool, true, ◌&&◌, List, [], ◌∷◌, map, refl, ap, sym, arith}
use Rattle.std.proofs.lemmas.Bool.{and_parts, and_from, eqb-true, eq-eqb}
use Rattle.cell_nodes.specs.declared.tree.Kind.{Kind}
use Rattle.cell_nodes.specs.declared.tree.Kind.TheVariants.{Ordinary, Pruned, Library, Proof, Update}
use Rattle.cell_nodes.specs.declared.tree.Tree.{Tree, out-Tree, fold_out-Tree}
use Rattle.cell_nodes.specs.Tree.{total, unfolded}
use Rattle.cell_nodes.specs.Equations.{unfolded-out, one_le-unfolded, tree_of-out}
use Rattle.cell_pool.specs.Post.{same_kind, same_bits, passes, same_step, same}

-- ---- induction

abbrev pub EachOf : (Tree → Type 0) → List Tree → Type 0
EachOf P [] = Unit {0}
EachOf P (t ∷ ts) = P t × EachOf P ts

each_to : (P : Tree → Type 0) (n : ℕ) → ((t : Tree) → unfolded t ≤ n → P t) → (ts : List Tree)
    → total (map unfolded ts) ≤ n → EachOf P ts
each_to P n h [] k = tt
each_to P n h (t ∷ ts) k = (h t (omega arith), each_to P n h ts (omega arith))

induction_to : (P : Tree → Type 0) → ((t : Tree) → EachOf P (out-Tree t).children → P t) → (n : ℕ) (t : Tree)
    → unfolded t ≤ n → P t
induction_to P step zero t h = absurd (omega (arith, one_le-unfolded t))
induction_to P step (suc n) t h =
    step t (each_to P n (induction_to P step n) (out-Tree t).children (omega (arith, unfolded-out t)))

-- what holds of a tree where it holds of its children holds of each tree
pub tree_induction : (P : Tree → Type 0) → ((t : Tree) → EachOf P (out-Tree t).children → P t) → (t : Tree) → P t
tree_induction P step t = induction_to P step (unfolded t) t (omega arith)

-- ---- equal trees

pub same-out : (t u : Tree)
    → same t u ≡
    (same_kind (out-Tree t).kind (out-Tree u).kind && same_bits (out-Tree t).bits (out-Tree u).bits
    && passes (map same (out-Tree t).children) (out-Tree u).children)
unfolding same
same-out t u = ap (λ (f : Tree → Bool). f u) (fold_out-Tree (Tree → Bool) same_step t)

same_kind-equal : (a b : Kind) → same_kind a b ≡ true → a ≡ b
same_kind-equal Ordinary Ordinary h = refl
same_kind-equal Pruned Pruned h = refl
same_kind-equal Library Library h = refl
same_kind-equal Proof Proof h = refl
same_kind-equal Update Update h = refl
same_kind-equal a b h = cc

same_kind-itself : (a : Kind) → same_kind a a ≡ true
same_kind-itself Ordinary = refl
same_kind-itself Pruned = refl
same_kind-itself Library = refl
same_kind-itself Proof = refl
same_kind-itself Update = refl

same_bits-equal : (xs ys : List ℕ) → same_bits xs ys ≡ true → xs ≡ ys
same_bits-equal [] [] h = refl
same_bits-equal [] (y ∷ ys) h = cc
same_bits-equal (x ∷ xs) [] h = cc
same_bits-equal (x ∷ xs) (y ∷ ys) h =
    let p = and_parts _ _ h in
    let e : x ≡ y = eqb-true x y p.0 in
    let f : xs ≡ ys = same_bits-equal xs ys p.1 in
    cc

same_bits-itself : (xs : List ℕ) → same_bits xs xs ≡ true
same_bits-itself [] = refl
same_bits-itself (x ∷ xs) = and_from _ _ (eq-eqb x x refl) (same_bits-itself xs)

passes-equal : (ts us : List Tree) → EachOf (λ t. (u : Tree) → same t u ≡ true → t ≡ u) ts
    → passes (map same ts) us ≡ true → ts ≡ us
passes-equal [] [] each h = refl
passes-equal [] (u ∷ us) each h = cc
passes-equal (t ∷ ts) [] each h = cc
passes-equal (t ∷ ts) (u ∷ us) each h =
    let p = and_parts _ _ h in
    let e : t ≡ u = each.0 u p.0 in
    let f : ts ≡ us = passes-equal ts us each.1 p.1 in
    cc

passes-itself : (ts : List Tree) → EachOf (λ t. same t t ≡ true) ts → passes (map same ts) ts ≡ true
passes-itself [] each = refl
passes-itself (t ∷ ts) each = and_from _ _ each.0 (passes-itself ts each.1)

-- trees with equal parts are equal
pub same_parts : (t u : Tree) → (out-Tree t).kind ≡ (out-Tree u).kind → (out-Tree t).bits ≡ (out-Tree u).bits
    → (out-Tree t).children ≡ (out-Tree u).children → t ≡ u
same_parts t u k b c = sym (tree_of-out t) ∙ rw (k, b, c) (tree_of-out u)

same_step-equal : (t : Tree) → EachOf (λ c. (u : Tree) → same c u ≡ true → c ≡ u) (out-Tree t).children → (u : Tree)
    → same t u ≡ true → t ≡ u
same_step-equal t each u h =
    let p = and_parts _ _ (sym (same-out t u) ∙ h) in
    let q = and_parts _ _ p.0 in
    same_parts t u (same_kind-equal _ _ q.0) (same_bits-equal _ _ q.1) (passes-equal _ _ each p.1)

pub same-equal : (t u : Tree) → same t u ≡ true → t ≡ u
same-equal = tree_induction (λ t. (u : Tree) → same t u ≡ true → t ≡ u) same_step-equal

same_step-itself : (t : Tree) → EachOf (λ c. same c c ≡ true) (out-Tree t).children → same t t ≡ true
same_step-itself t each =
    let k = same_kind-itself (out-Tree t).kind in
    let b = same_bits-itself (out-Tree t).bits in
    let c = passes-itself (out-Tree t).children each in
    same-out t t ∙ rw (k, b, c) refl

pub same-itself : (t : Tree) → same t t ≡ true
same-itself = tree_induction (λ t. same t t ≡ true) same_step-itself
