-- How many cells are left of a slice, and how many a dictionary's contents have.
use Rattle.std.proofs.Common.{◌≡◌, ℕ, ◌+◌, ◌≤◌, ◌∙◌, ap, refl, arith, List, [], ◌∷◌, ◌++◌, map}
use Rattle.cell_nodes.specs.Equations.{unfolded-tree_of}
use Rattle.cell_nodes.specs.Tree.{total, unfolded}
use Rattle.cell_nodes.specs.declared.tree.Mode.{Mode}
use Rattle.cell_nodes.specs.declared.tree.Kind.TheVariants.{Ordinary}
use Rattle.cell_nodes.specs.declared.tree.Tree.{Tree}
use Rattle.hashmap_tree.specs.Dict.{DictTree, one, two, Branch, open_edge, hidden_edge}
use Rattle.hashmap_tree.specs.Entries.{Slice, Then, leaf, hidden, Entries, cell_of, under, fork}

-- the cells that the references of a slice unfold to
abbrev pub cells : Slice → ℕ
cells s = total (map unfolded s.refs)

total-both : (xs ys : List Tree) → total (map unfolded (xs ++ ys)) ≡ total (map unfolded xs) + total (map unfolded ys)
total-both [] ys = omega arith
total-both (x ∷ xs) ys = omega (arith, total-both xs ys)

pub cells-then : (s x r : Slice) → Then s x r → cells s ≡ cells x + cells r
cells-then s x r t = ap (λ (l : List Tree). total (map unfolded l)) t.refs ∙ total-both x.refs r.refs

pub cells-of : (s : Slice) → unfolded (cell_of s) ≡ 1 + cells s
cells-of s = unfolded-tree_of Ordinary s.bits s.refs

-- ---- dictionaries

abbrev pub held_cells : Entries → ℕ
held_cells [] = 0
held_cells ((k, leaf c) ∷ es) = cells c + held_cells es
held_cells ((k, hidden h) ∷ es) = held_cells es

held-under : (p : List ℕ) (es : Entries) → held_cells (under p es) ≡ held_cells es
held-under p [] = refl
held-under p ((k, leaf c) ∷ es) = ap (λ (n : ℕ). cells c + n) (held-under p es)
held-under p ((k, hidden h) ∷ es) = held-under p es

held-both : (ds es : Entries) → held_cells (ds ++ es) ≡ held_cells ds + held_cells es
held-both [] es = omega arith
held-both ((k, leaf c) ∷ ds) es = let h = held-both ds es in omega (arith, h)
held-both ((k, hidden h) ∷ ds) es = held-both ds es

pub held-fork : (p : List ℕ) (zs os : Entries) → held_cells (fork p zs os) ≡ held_cells zs + held_cells os
held-fork p zs os =
    let a = held-both (under (p ++ 0 ∷ []) zs) (under (p ++ 1 ∷ []) os) in
    let b = held-under (p ++ 0 ∷ []) zs in
    let c = held-under (p ++ 1 ∷ []) os in
    omega (arith, a, b, c)

refs-same : (a b : List Tree) → a ≡ b → total (map unfolded a) ≡ total (map unfolded b)
refs-same a b e = ap (λ (l : List Tree). total (map unfolded l)) e

pub held-same : (a b : Entries) → a ≡ b → held_cells a ≡ held_cells b
held-same a b e = ap held_cells e

mutual
  pub tree-cells : (mode : Mode) (n : ℕ) (es : Entries) (s : Slice) → DictTree mode n es s → held_cells es ≤ cells s
  tree-cells mode n es s (one _ _ _ _ k c e l f g) =
      let a = held-same es ((k, leaf c) ∷ []) e in
      let b = refs-same s.refs c.refs g in
      omega (arith, a, b)
  tree-cells mode n es s (two _ _ _ _ p m zs os z o e l f g x y) =
      let a = held-same es (fork p zs os) e in
      let b = held-fork p zs os in
      let c = refs-same s.refs (z ∷ (o ∷ [])) g in
      let d = branch-cells mode m zs z x in
      let h = branch-cells mode m os o y in
      omega (arith, a, b, c, d, h)

  pub branch-cells : (mode : Mode) (m : ℕ) (es : Entries) (t : Tree) → Branch mode m es t → held_cells es ≤ unfolded t
  branch-cells mode m es t (open_edge _ _ _ _ s e d) =
      let a = ap unfolded e in
      let b = cells-of s in
      let c = tree-cells mode m es s d in
      omega (arith, a, b, c)
  branch-cells mode m es t (hidden_edge _ _ _ _ h u e) =
      let a = held-same es (([], hidden h) ∷ []) e in omega (arith, a)
