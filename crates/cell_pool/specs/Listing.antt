-- Lists of distinct trees that grow by the subtrees of a tree.
use Rattle.std.specs.Prelude.{◌≡◌, ℕ, true, false, Some, List, [], ◌∷◌, ◌++◌, take, map, slice_get}
use Rattle.cell_nodes.specs.declared.tree.Tree.{Tree, out-Tree}
use Rattle.cell_pool.specs.Post.{stands, without, joined, post}

-- the list, and after it the distinct subtrees of the tree that do not stand there yet
abbrev pub added : List Tree → Tree → List Tree
added seen t = seen ++ without seen (post t)

-- the same of several trees, from the left
abbrev pub added_all : List Tree → List Tree → List Tree
added_all seen ts = joined seen (map post ts)

-- each of the trees stands in the list
abbrev pub AllStand : List Tree → List Tree → Type 0
AllStand seen [] = Unit {0}
AllStand seen (t ∷ ts) = (stands seen t ≡ true) × AllStand seen ts

-- where a tree stands in the list its children do
abbrev pub IsClosed : List Tree → Type 0
IsClosed seen = (t : Tree) → stands seen t ≡ true → AllStand seen (out-Tree t).children

-- no tree of the list stands there twice
abbrev pub IsDistinct : List Tree → Type 0
IsDistinct [] = Unit {0}
IsDistinct (t ∷ ts) = (stands ts t ≡ false) × IsDistinct ts

-- the children of each tree stand before it
abbrev pub ChildrenBefore : List Tree → Type 0
ChildrenBefore ts = (i : ℕ) (t : Tree) → slice_get ts i ≡ Some t → AllStand (take i ts) (out-Tree t).children

-- a list of distinct trees, of which each stands after its children
pub record IsOrdered (seen : List Tree) : Type 0 where
  pub before : ChildrenBefore seen
  pub distinct : IsDistinct seen

-- One list begins with the other and is the beginning of a third.
pub record LiesBetween (first between last : List Tree) : Type 0 where
  pub part : List Tree
  pub rest : List Tree
  pub starts : between ≡ first ++ part
  pub ends : last ≡ between ++ rest

-- A tree was added to the list in part: some of its subtrees that did not stand there, the first ones of those that
-- were to be added, and not the tree itself.
pub record IsPartly (old new : List Tree) (t : Tree) : Type 0 where
  pub part : List Tree
  pub rest : List Tree
  pub starts : new ≡ old ++ part
  pub whole : without old (post t) ≡ part ++ rest
  pub not_whole : stands part t ≡ false
