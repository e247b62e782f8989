-- The depths of an ordinary cell of any number of references.
use Rattle.std.proofs.Common.{◌≡◌, ℕ, ◌+◌, ◌<◌, ◌==◌, max, List, [], ◌∷◌, ◌++◌, length, take, map, get_or, if◌then◌else◌, sym, ◌∙◌, arith}
use Rattle.std.proofs.lemmas.List.{take_more}
use Rattle.std.specs.Int.{bit_at}
use Rattle.cell_nodes.specs.Equations.{depth-tree_of, mask-tree_of}
use Rattle.cell_nodes.specs.declared.tree.Kind.TheVariants.{Ordinary}
use Rattle.cell_nodes.specs.declared.tree.Tree.{Tree}
use Rattle.cell_nodes.specs.Tree.{Marks, deepest, depth, depth_over, mask, marks, tree_of, union_of}

depth_over-two : (i : ℕ) (ms : List Marks) (m n : Marks) → depth_over i (n ∷ ms ++ m ∷ []) ≡ max (depth_over i (n ∷ ms)) (m.depth i + 1)
depth_over-two i [] m n = omega arith
depth_over-two i (k ∷ ms) m n = omega (arith, depth_over-two i ms m k)

depth_over-more : (i : ℕ) (f : Tree → Marks) (xs : List Tree) (x : Tree) → depth_over i (map f (xs ++ x ∷ [])) ≡ max (depth_over i (map f xs)) ((f x).depth i + 1)
depth_over-more i f [] x = omega arith
depth_over-more i f (y ∷ []) x = omega arith
depth_over-more i f (y ∷ z ∷ xs) x = omega (arith, depth_over-more i f (z ∷ xs) x)

pub depth_step : (level : ℕ) (cs : List Tree) (i : ℕ) (d : Tree) → i < length cs →
    depth_over level (map marks (take (i + 1) cs)) ≡ max (depth_over level (map marks (take i cs))) (depth (get_or cs i d) level + 1)
depth_step level cs i d h = rw (take_more cs i d h) (depth_over-more level marks (take i cs) (get_or cs i d))

-- the depth at the next level
abbrev Next : ℕ → ℕ → ℕ → List Tree → ℕ
Next m i before refs = if bit_at m i == 1 then depth_over (i + 1) (map marks refs) else before

pub deepest_is : (bits : List ℕ) (refs : List Tree) (m a b c d : ℕ) → m ≡ mask (tree_of Ordinary bits refs) → a ≡ depth_over 0 (map marks refs)
    → b ≡ Next m 0 a refs → c ≡ Next m 1 b refs → d ≡ Next m 2 c refs → max (max (max a b) c) d ≡ deepest (tree_of Ordinary bits refs)
deepest_is bits refs m a b c d e f g h k =
    let t : Tree = tree_of Ordinary bits refs in
    let u : m ≡ union_of (map marks refs) = e ∙ mask-tree_of Ordinary bits refs in
    let zero_is : depth t 0 ≡ a = depth-tree_of Ordinary bits refs 0 ∙ sym f in
    let one_is : depth t 1 ≡ b =
    depth-tree_of Ordinary bits refs 1 ∙ (λ i. if bit_at (sym u i) 0 == 1 then depth_over 1 (map marks refs) else sym f i) ∙ sym g in
    let two_is : depth t 2 ≡ c =
    depth-tree_of Ordinary bits refs 2
    ∙ (λ i. if bit_at (sym u i) 1 == 1 then depth_over 2 (map marks refs) else (if bit_at (sym u i) 0 == 1 then depth_over 1 (map marks refs) else sym f i))
    ∙ (λ i. if bit_at m 1 == 1 then depth_over 2 (map marks refs) else sym g i) ∙ sym h in
    let three_is : depth t 3 ≡ d =
    depth-tree_of Ordinary bits refs 3
    ∙ (λ i. if bit_at (sym u i) 2 == 1 then depth_over 3 (map marks refs) else (if bit_at (sym u i) 1 == 1 then depth_over 2 (map marks refs)
    else (if bit_at (sym u i) 0 == 1 then depth_over 1 (map marks refs) else sym f i)))
    ∙ (λ i. if bit_at m 2 == 1 then depth_over 3 (map marks refs) else (if bit_at m 1 == 1 then depth_over 2 (map marks refs) else sym g i))
    ∙ (λ i. if bit_at m 2 == 1 then depth_over 3 (map marks refs) else sym h i) ∙ sym k in
    omega (arith, zero_is, one_is, two_is, three_is)
