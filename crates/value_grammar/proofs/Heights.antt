-- Cells of a good tree stand in one another at most as deep as their depth says, and in at most 1025 levels.
use Rattle.std.proofs.Common.{◌≡◌, ℕ, zero, suc, ◌+◌, ◌/◌, ◌≤◌, ◌==◌, Bool, true, false, ◌&&◌, IsTrue, List, [], ◌∷◌, ◌++◌, length, map, max, refl, sym, ap, ◌∙◌, subst, arith, ⊎_elim}
use Rattle.std.proofs.lemmas.Bool.Decides.{nat_tests}
use Rattle.std.proofs.lemmas.Nat.Bits.{bit_at_or, bit_at-suc}
use Rattle.std.specs.Int.{bit_at}
use Rattle.cell_nodes.specs.Equations.{depth-tree_of, mask-tree_of, tree_of-out}
use Rattle.cell_nodes.specs.Good.{AllGood, IsGood, good, more, none}
use Rattle.cell_nodes.specs.GoodParts.{good-depth}
use Rattle.cell_nodes.specs.Layout.{byte_of, has_layout}
use Rattle.cell_nodes.specs.LevelsLaws.{bit_cases}
use Rattle.cell_nodes.specs.MarksLaws.{depth-lowest, depth-set, depth-unset}
use Rattle.cell_nodes.specs.PrunesGoodLaws.{depth-ordinary, depth-proof}
use Rattle.cell_nodes.specs.Tree.{depth, depth_over, greatest, mask, marks, tree_of, union_of}
use Rattle.cell_nodes.specs.declared.tree.Kind.{Kind}
use Rattle.cell_nodes.specs.declared.tree.Kind.TheVariants.{Ordinary, Pruned, Library, Proof, Update}
use Rattle.cell_nodes.specs.declared.tree.Tree.{Tree, fold-roll-Tree, out-Tree}
use Rattle.value_grammar.specs.Within.{cell_levels, cell_levels_step, most_cell_levels}

greatest-unset : (ts : List Tree) (i : ℕ) → bit_at (union_of (map marks ts)) i ≡ 0
    → greatest (map (λ m. m.depth (suc i)) (map marks ts)) ≡ greatest (map (λ m. m.depth i) (map marks ts))
greatest-unset [] i e = refl
greatest-unset (t ∷ ts) i e =
    let o = bit_at_or (mask t) (union_of (map marks ts)) i in
    rw (depth-unset t i (omega (arith, o)), greatest-unset ts i (omega (arith, o))) refl

over-unset : (ts : List Tree) (i : ℕ) → bit_at (union_of (map marks ts)) i ≡ 0
    → depth_over (suc i) (map marks ts) ≡ depth_over i (map marks ts)
over-unset [] i e = refl
over-unset (t ∷ ts) i e = ap (λ (n : ℕ). 1 + n) (greatest-unset (t ∷ ts) i e)

depth-update : (b : List ℕ) (ts : List Tree) (i : ℕ) → depth (tree_of Update b ts) i ≡ depth_over (suc i) (map marks ts)
depth-update b ts zero = depth-tree_of Update b ts 0 ∙ depth-lowest Update b (map marks ts) tt
depth-update b ts (suc i) =
    let u = union_of (map marks ts) in
    ⊎_elim
    (λ (z : bit_at (u / 2) i ≡ 0).
    depth-unset (tree_of Update b ts) i (rw (mask-tree_of Update b ts) z) ∙ depth-update b ts i
    ∙ sym (over-unset ts (suc i) (bit_at-suc u i ∙ z)))
    (λ (o : bit_at (u / 2) i ≡ 1).
    let z : suc i + 1 ≡ suc (suc i) = omega arith in
    depth-tree_of Update b ts (suc i) ∙ depth-set Update b (map marks ts) i tt o
    ∙ ap (λ (n : ℕ). depth_over n (map marks ts)) z)
    (bit_cases (u / 2) i)

-- each child is less deep
abbrev Below : List Tree → ℕ → ℕ → Type 0
Below [] i n = Unit {0}
Below (c ∷ cs) i n = (depth c i + 1 ≤ n) × Below cs i n

greatest_below : (ts : List Tree) (i n : ℕ) → 1 + greatest (map (λ m. m.depth i) (map marks ts)) ≤ n → Below ts i n
greatest_below [] i n h = tt
greatest_below (c ∷ cs) i n h = (omega (arith, h), greatest_below cs i n (omega (arith, h)))

over_below : (ts : List Tree) (i : ℕ) → Below ts i (depth_over i (map marks ts))
over_below [] i = tt
over_below (c ∷ cs) i = greatest_below (c ∷ cs) i (depth_over i (map marks (c ∷ cs))) (omega arith)

below_at : (ts : List Tree) (i n k : ℕ) → n ≡ k → Below ts i n → Below ts i k
below_at ts i n k e h = let P : ℕ → Type 0 = λ x. Below ts i x in subst P e h

first_true : (a b : Bool) → (a && b) ≡ true → a ≡ true
first_true true b e = refl
first_true false b e = e

no_refs : (ts : List Tree) (i n : ℕ) → (length ts == 0) ≡ true → Below ts i n
no_refs [] i n e = tt
no_refs (c ∷ cs) i n e = absurd (let f : length (c ∷ cs) ≡ 0 = grind (arith, nat_tests) in omega arith)

-- at some level the children are less deep than the tree
children_below : (kind : Kind) (b : List ℕ) (ts : List Tree) (i : ℕ) → IsTrue (has_layout kind b (length ts))
    → (j : ℕ) × Below ts j (depth (tree_of kind b ts) i)
children_below Ordinary b ts i h = (i, below_at ts i (depth_over i (map marks ts)) (depth (tree_of Ordinary b ts) i) (sym (depth-ordinary b ts i)) (over_below ts i))
children_below Proof b ts i h =
    (suc i, below_at ts (suc i) (depth_over (suc i) (map marks ts)) (depth (tree_of Proof b ts) i) (sym (depth-proof b ts i)) (over_below ts (suc i)))
children_below Update b ts i h =
    (suc i, below_at ts (suc i) (depth_over (suc i) (map marks ts)) (depth (tree_of Update b ts) i) (sym (depth-update b ts i)) (over_below ts (suc i)))
children_below Pruned b ts i h =
    (i, no_refs ts i (depth (tree_of Pruned b ts) i) (none (length ts == 0) (byte_of 0 b == 1) _ _ _ h))
  where
    none : (a c d e f : Bool) → (a && c && d && e && f) ≡ true → a ≡ true
    none true c d e f g = refl
    none false c d e f g = absurd (cc)
children_below Library b ts i h = (i, no_refs ts i (depth (tree_of Library b ts) i) (middle (length b == 264) (length ts == 0) (byte_of 0 b == 2) h))
  where
    middle : (a c d : Bool) → (a && c && d) ≡ true → c ≡ true
    middle true true d g = refl
    middle true false d g = g
    middle false c d g = absurd (cc)

-- ---- levels of cells

pub cell_levels-tree_of : (k : Kind) (b : List ℕ) (cs : List Tree) → cell_levels (tree_of k b cs) ≡ 1 + greatest (map cell_levels cs)
unfolding cell_levels
cell_levels-tree_of k b cs = fold-roll-Tree ℕ cell_levels_step (record { kind = k; bits = b; children = cs })

pub one_le-levels : (t : Tree) → 1 ≤ cell_levels t
one_le-levels t =
    let P : Tree → Type 0 = λ x. 1 ≤ cell_levels x in
    let whole = cell_levels-tree_of (out-Tree t).kind (out-Tree t).bits (out-Tree t).children in
    subst P (tree_of-out t) (omega (arith, whole))

mutual
  good_levels : {t : Tree} → IsGood t → (i : ℕ) → cell_levels t ≤ depth t i + 1
  good_levels (good t sound all) i =
      let kind : Kind = (out-Tree t).kind in
      let bs : List ℕ = (out-Tree t).bits in
      let cs : List Tree = (out-Tree t).children in
      let P : Tree → Type 0 = λ x. cell_levels x ≤ depth x i + 1 in
      let low = children_below kind bs cs i sound.layout in
      let most = all_levels all low.0 (depth (tree_of kind bs cs) i) low.1 in
      let whole = cell_levels-tree_of kind bs cs in
      subst P (tree_of-out t) (omega (arith, whole, most))

  all_levels : {ts : List Tree} → AllGood ts → (i n : ℕ) → Below ts i n → greatest (map cell_levels ts) ≤ n
  all_levels none i n b = omega arith
  all_levels (more t ts g gs) i n b =
      let first = good_levels g i in
      let rest = all_levels gs i n b.1 in
      let low = b.0 in
      omega (arith, first, rest, low)

pub shallow_levels : {t : Tree} → IsGood t → cell_levels t ≤ most_cell_levels
shallow_levels {t} g =
    let d = good-depth t 0 g (omega arith) in
    let l = good_levels g 0 in
    omega (arith, d, l)

pub levels_push : (ts : List Tree) (t : Tree) → greatest (map cell_levels (ts ++ t ∷ [])) ≡ max (greatest (map cell_levels ts)) (cell_levels t)
levels_push [] t = omega arith
levels_push (c ∷ ts) t = let e = levels_push ts t in omega (arith, e)
