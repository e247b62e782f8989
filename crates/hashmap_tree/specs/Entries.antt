-- What a dictionary holds: contents by key, and hidden parts by the prefix of their keys.
use Rattle.std.specs.Prelude.{◌≡◌, ℕ, List, [], ◌∷◌, ◌++◌}
use Rattle.cell_nodes.specs.Tree.{tree_of}
use Rattle.cell_nodes.specs.declared.tree.Hidden.{Hidden}
use Rattle.cell_nodes.specs.declared.tree.Kind.TheVariants.{Ordinary}
use Rattle.cell_nodes.specs.declared.tree.Tree.{Tree, out-Tree}

-- bits and references that are left of a cell
pub record Slice : Type 0 where
  pub bits : List ℕ
  pub refs : List Tree

-- all of a cell
abbrev pub content : Tree → Slice
content t = record { bits = (out-Tree t).bits; refs = (out-Tree t).children }

-- the ordinary cell with this content
abbrev pub cell_of : Slice → Tree
cell_of s = tree_of Ordinary s.bits s.refs

-- these bits and references stand first, and then comes what is left
pub record Then (before add after : Slice) : Type 0 where
  pub bits : before.bits ≡ add.bits ++ after.bits
  pub refs : before.refs ≡ add.refs ++ after.refs

-- what stands at a key or at a prefix of keys: a content, or the hash and depth of a hidden part
pub data Part : Type 0 where
  leaf : Slice → Part
  hidden : Hidden → Part

-- keys and prefixes, in the order of bits
abbrev pub Entries : Type 0
Entries = List (List ℕ × Part)

-- the same entries with bits before each key
abbrev pub under : List ℕ → Entries → Entries
under p [] = []
under p (e ∷ es) = (p ++ e.0, e.1) ∷ under p es

-- those that go on with 0 and with 1 after the label p
abbrev pub fork : List ℕ → Entries → Entries → Entries
fork p zs os = under (p ++ 0 ∷ []) zs ++ under (p ++ 1 ∷ []) os

-- the leaves alone, and the hidden parts alone
abbrev pub pairs_in : Entries → List (List ℕ × Slice)
pairs_in [] = []
pairs_in ((k, leaf c) ∷ es) = (k, c) ∷ pairs_in es
pairs_in ((k, hidden h) ∷ es) = pairs_in es

abbrev pub hidden_in : Entries → List (List ℕ × Hidden)
hidden_in [] = []
hidden_in ((k, leaf c) ∷ es) = hidden_in es
hidden_in ((k, hidden h) ∷ es) = (k, h) ∷ hidden_in es
