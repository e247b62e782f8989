-- The distinct subtrees of a tree, in the order in which their cells are completed by a walk that goes down the
-- children from left to right. A bag of cells lists them in the reverse of this order.
--
-- Source: TON documentation, "Bag of cells": each distinct cell is stored once, and a cell's references are to cells
-- after it.
use Rattle.std.specs.Prelude.{◌≡◌, ℕ, ◌+◌, ◌==◌, Bool, true, false, not, ◌&&◌, ◌||◌, Some, List, [], ◌∷◌, ◌++◌, map}
use Rattle.std.specs.Prelude.{slice_get, if◌then◌else◌}
use Rattle.std.specs.List.{filter}
use Rattle.cell_nodes.specs.declared.tree.Kind.{Kind}
use Rattle.cell_nodes.specs.declared.tree.Kind.TheVariants.{Ordinary, Pruned, Library, Proof, Update}
use Rattle.cell_nodes.specs.declared.tree.Tree.{Tree, out-Tree, fold-Tree}
use Rattle.cell_nodes.specs.declared.tree.Tree.TheOpen.{Tree-F}
use Rattle.cell_nodes.specs.Tree.{tree_of}

-- ---- equal trees: one kind, the same bits, equal children

-- a number for each kind
abbrev pub kind_number : Kind → ℕ
kind_number Ordinary = 0
kind_number Pruned = 1
kind_number Library = 2
kind_number Proof = 3
kind_number Update = 4

abbrev pub same_kind : Kind → Kind → Bool
same_kind a b = kind_number a == kind_number b

abbrev pub same_bits : List ℕ → List ℕ → Bool
same_bits [] [] = true
same_bits (a ∷ as') (b ∷ bs) = (a == b) && same_bits as' bs
same_bits as' bs = false

-- each tree passes the test at its place, and there are as many
abbrev pub passes : List (Tree → Bool) → List Tree → Bool
passes [] [] = true
passes (test ∷ tests) (t ∷ ts) = test t && passes tests ts
passes tests ts = false

-- the test whether a tree equals the node, from such tests for its children
abbrev pub same_step : Tree-F (Tree → Bool) → Tree → Bool
same_step n t =
    same_kind n.kind (out-Tree t).kind && same_bits n.bits (out-Tree t).bits && passes n.children (out-Tree t).children

unfoldable pub same : Tree → Tree → Bool
same = fold-Tree (Tree → Bool) same_step

-- ---- trees in a list

-- the tree stands in the list
abbrev pub stands : List Tree → Tree → Bool
stands [] t = false
stands (u ∷ us) t = same u t || stands us t

-- the place of the first tree that equals it; the length where there is none
abbrev pub place : List Tree → Tree → ℕ
place [] t = 0
place (u ∷ us) t = if same u t then 0 else 1 + place us t

-- the trees that do not stand in `seen`
abbrev pub without : List Tree → List Tree → List Tree
without seen ts = filter (λ t. not (stands seen t)) ts

-- the lists one after the other, each without what stands already
abbrev pub joined : List Tree → List (List Tree) → List Tree
joined seen [] = seen
joined seen (ts ∷ more) = joined (seen ++ without seen ts) more

-- ---- the list of distinct subtrees

-- a tree with its list
pub record Listed : Type 0 where
  pub tree : Tree
  pub post : List Tree

-- the lists of the children from the left, each without what stands already, and then the tree
abbrev pub listed_step : Tree-F Listed → Listed
listed_step n = record {
  tree = tree_of n.kind n.bits (map (λ c. c.tree) n.children);
  post = joined [] (map (λ c. c.post) n.children) ++ tree_of n.kind n.bits (map (λ c. c.tree) n.children) ∷ [];
}

unfoldable pub listed : Tree → Listed
listed = fold-Tree Listed listed_step

abbrev pub post : Tree → List Tree
post t = (listed t).post

-- ---- subtrees

-- the tree itself, and the subtrees of its children
pub data IsSubtree : Tree → Tree → Type 0 where
  itself : (t : Tree) → IsSubtree t t
  below : (u c t : Tree) (i : ℕ) → slice_get (out-Tree t).children i ≡ Some c → IsSubtree u c → IsSubtree u t
