-- A good tree and its parts.
use Rattle.std.specs.Prelude.{◌≡◌, ℕ, zero, suc, ◌≤◌, IsTrue, List, [], ◌∷◌, length}
use Rattle.std.proofs.Common.{arith}
use Rattle.bit_slice.specs.Bits.{AreBits}
use Rattle.cell_nodes.specs.declared.tree.Kind.{Kind}
use Rattle.cell_nodes.specs.declared.tree.Tree.{Tree, out-Tree}
use Rattle.cell_nodes.specs.Layout.{has_layout}
use Rattle.cell_nodes.specs.Levels.{top_level}
use Rattle.cell_nodes.specs.Tree.{tree_of, depth, IsShallow}
use Rattle.cell_nodes.specs.Equations.{out-tree_of}
use Rattle.cell_nodes.specs.Good.{IsSound, IsGood, good, AllGood, none, more}

pub good-sound : (t : Tree) → IsGood t → IsSound t
good-sound t (good t' sound all) = sound

pub good-depth : (t : Tree) (i : ℕ) → IsGood t → i ≤ top_level → depth t i ≤ 1024
good-depth t zero h low = let s = (good-sound t h).shallow in omega arith
good-depth t (suc zero) h low = let s = (good-sound t h).shallow in omega arith
good-depth t (suc (suc zero)) h low = let s = (good-sound t h).shallow in omega arith
good-depth t (suc (suc (suc zero))) h low = let s = (good-sound t h).shallow in omega arith
good-depth t (suc (suc (suc (suc i)))) h low = absurd (omega arith)

pub good-children : (t : Tree) → IsGood t → AllGood (out-Tree t).children
good-children t (good t' sound all) = all

pub all_good-empty : (ts : List Tree) → length ts ≡ 0 → AllGood ts
all_good-empty [] h = none
all_good-empty (t ∷ ts) h = absurd (omega arith)

pub all_good-cons : (t : Tree) (ts : List Tree) → IsGood t → AllGood ts → AllGood (t ∷ ts)
all_good-cons t ts h hs = more t ts h hs

pub all_good-head : (t : Tree) (ts : List Tree) → AllGood (t ∷ ts) → IsGood t
all_good-head t ts (more t' ts' h hs) = h

pub all_good-tail : (t : Tree) (ts : List Tree) → AllGood (t ∷ ts) → AllGood ts
all_good-tail t ts (more t' ts' h hs) = hs

pub good-tree_of : (k : Kind) (b : List ℕ) (cs : List Tree) → AreBits b → length b ≤ 1023 → length cs ≤ 4
    → IsTrue (has_layout k b (length cs)) → IsShallow (tree_of k b cs) → AllGood cs → IsGood (tree_of k b cs)
good-tree_of k b cs bits short few layout shallow all =
    let o = out-tree_of k b cs in
    good (tree_of k b cs)
    (record { bits = rw o bits; short = rw o short; few = rw o few; layout = rw o layout; shallow = shallow })
    (rw o all)

pub ruleset good_parts = (all_good-empty, all_good-cons)
