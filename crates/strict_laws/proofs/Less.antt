-- Trees and slices that have at most as many bits, of which the depths and the masks are the same.
use Rattle.std.proofs.Common.{◌≡◌, ℕ, zero, suc, ◌+◌, ◌≤◌, List, [], ◌∷◌, length, map, refl, sym, ap, ◌∙◌, subst, arith, cond}
use Rattle.std.specs.Prelude.{◌==◌}
use Rattle.std.specs.Int.{bit_at}
use Rattle.bit_slice.specs.Bits.{AreBits}
use Rattle.cell_nodes.specs.Equations.{mask-tree_of, depth-tree_of, unfolded-tree_of}
use Rattle.cell_nodes.specs.Good.{IsGood, good, AllGood, none, more}
use Rattle.cell_nodes.specs.GoodParts.{good-sound, good-tree_of, all_good-head, all_good-tail}
use Rattle.cell_nodes.specs.Levels.{levels}
use Rattle.cell_nodes.specs.Tree.{Marks, marks, mask, depth, deepest, greatest, union, union_of, depth_over, computed_depth}
use Rattle.cell_nodes.specs.Tree.{level_below, unfolded, total}
use Rattle.cell_nodes.specs.declared.tree.Kind.TheVariants.{Ordinary}
use Rattle.cell_nodes.specs.declared.tree.Tree.{Tree, out-Tree}
use Rattle.hashmap_tree.specs.CellLaws.{content-cell_of}
use Rattle.hashmap_tree.specs.Entries.{Slice, cell_of}
use Rattle.hashmap_tree.specs.ExceedsLaws.{good-within}
use Rattle.strict_laws.specs.NoLonger.{IsNoLonger, no_longer, AreNoLonger, no_trees, more_trees, no_longer_cell}

-- a good tree that is no longer than another, with its mask, its depths and its number of cells
pub record Less (u t : Tree) : Type 0 where
  pub fine : IsGood u
  pub shape : IsNoLonger u t
  pub same_mask : mask u ≡ mask t
  pub same_depth : (i : ℕ) → depth u i ≡ depth t i
  pub same_cells : unfolded u ≡ unfolded t

abbrev pub AllLess : List Tree → List Tree → Type 0
AllLess [] [] = Unit {0}
AllLess [] (t ∷ ts) = ⊥
AllLess (u ∷ us) [] = ⊥
AllLess (u ∷ us) (t ∷ ts) = Less u t × AllLess us ts

-- bits and good trees
pub record Fine (s : Slice) : Type 0 where
  pub bits : AreBits s.bits
  pub refs : AllGood s.refs

-- bits that are no more than another slice has, and as many references, to trees that are no longer
pub record Shorter (u s : Slice) : Type 0 where
  pub bits : AreBits u.bits
  pub short : length u.bits ≤ length s.bits
  pub refs : AllLess u.refs s.refs

-- ---- a tree is no longer than itself

mutual
  itself : (t : Tree) → IsGood t → IsNoLonger t t
  itself t (good _ sound all) = no_longer t t refl (omega arith) (themselves (out-Tree t).children all)

  themselves : (ts : List Tree) → AllGood ts → AreNoLonger ts ts
  themselves [] none = no_trees
  themselves (t ∷ ts) (more _ _ h hs) = more_trees t t ts ts (itself t h) (themselves ts hs)

pub less_self : (t : Tree) → IsGood t → Less t t
less_self t h =
    record { fine = h; shape = itself t h; same_mask = refl; same_depth = λ i. refl; same_cells = refl }

pub all_less_self : (ts : List Tree) → AllGood ts → AllLess ts ts
all_less_self [] h = tt
all_less_self (t ∷ ts) h = (less_self t (all_good-head t ts h), all_less_self ts (all_good-tail t ts h))

pub shorter_self : (s : Slice) → Fine s → Shorter s s
shorter_self s h = record { bits = h.bits; short = omega arith; refs = all_less_self s.refs h.refs }

-- ---- lists of trees

pub less_count : (us ts : List Tree) → AllLess us ts → length us ≡ length ts
less_count [] [] h = refl
less_count [] (t ∷ ts) h = absurd h
less_count (u ∷ us) [] h = absurd h
less_count (u ∷ us) (t ∷ ts) h = ap suc (less_count us ts h.1)

less_good : (us ts : List Tree) → AllLess us ts → AllGood us
less_good [] [] h = none
less_good [] (t ∷ ts) h = absurd h
less_good (u ∷ us) [] h = absurd h
less_good (u ∷ us) (t ∷ ts) h = more u us h.0.fine (less_good us ts h.1)

less_shape : (us ts : List Tree) → AllLess us ts → AreNoLonger us ts
less_shape [] [] h = no_trees
less_shape [] (t ∷ ts) h = absurd h
less_shape (u ∷ us) [] h = absurd h
less_shape (u ∷ us) (t ∷ ts) h = more_trees u t us ts h.0.shape (less_shape us ts h.1)

less_masks : (us ts : List Tree) → AllLess us ts
    → map (λ (c : Marks). c.mask) (map marks us) ≡ map (λ (c : Marks). c.mask) (map marks ts)
less_masks [] [] h = refl
less_masks [] (t ∷ ts) h = absurd h
less_masks (u ∷ us) [] h = absurd h
less_masks (u ∷ us) (t ∷ ts) h = λ j. h.0.same_mask j ∷ less_masks us ts h.1 j

less_depths : (us ts : List Tree) (i : ℕ) → AllLess us ts
    → map (λ (c : Marks). c.depth i) (map marks us) ≡ map (λ (c : Marks). c.depth i) (map marks ts)
less_depths [] [] i h = refl
less_depths [] (t ∷ ts) i h = absurd h
less_depths (u ∷ us) [] i h = absurd h
less_depths (u ∷ us) (t ∷ ts) i h = λ j. h.0.same_depth i j ∷ less_depths us ts i h.1 j

less_cells : (us ts : List Tree) → AllLess us ts → total (map unfolded us) ≡ total (map unfolded ts)
less_cells [] [] h = refl
less_cells [] (t ∷ ts) h = absurd h
less_cells (u ∷ us) [] h = absurd h
less_cells (u ∷ us) (t ∷ ts) h = λ j. h.0.same_cells j + less_cells us ts h.1 j

-- ---- an ordinary cell whose content is shorter

less_over : (us ts : List Tree) (i : ℕ) → AllLess us ts → depth_over i (map marks us) ≡ depth_over i (map marks ts)
less_over [] [] i h = refl
less_over [] (t ∷ ts) i h = absurd h
less_over (u ∷ us) [] i h = absurd h
less_over (u ∷ us) (t ∷ ts) i h = ap (λ (xs : List ℕ). 1 + greatest xs) (less_depths (u ∷ us) (t ∷ ts) i h)

less_union : (us ts : List Tree) → AllLess us ts → union_of (map marks us) ≡ union_of (map marks ts)
less_union us ts h = ap union (less_masks us ts h)

less_computed : (us ts : List Tree) (m k i : ℕ) → m ≡ k → AllLess us ts
    → computed_depth Ordinary m (map marks us) i ≡ computed_depth Ordinary k (map marks ts) i
less_computed us ts m k zero e h = less_over us ts 0 h
less_computed us ts m k (suc i) e h =
    λ j. cond (bit_at (e j) i == 1) (less_over us ts (level_below Ordinary (suc i)) h j) (less_computed us ts m k i e h j)

cell_depth : (u s : Slice) → AllLess u.refs s.refs → (i : ℕ) → depth (cell_of u) i ≡ depth (cell_of s) i
cell_depth u s h i =
    depth-tree_of Ordinary u.bits u.refs i
    ∙ less_computed u.refs s.refs (union_of (map marks u.refs)) (union_of (map marks s.refs)) i (less_union u.refs s.refs h) h
    ∙ sym (depth-tree_of Ordinary s.bits s.refs i)

same_deepest : (u t : Tree) → ((i : ℕ) → depth u i ≡ depth t i) → deepest u ≡ deepest t
same_deepest u t h = λ j. greatest (map (λ (i : ℕ). h i j) levels)

cell_good : (u s : Slice) → IsGood (cell_of s) → Shorter u s → IsGood (cell_of u)
cell_good u s g h =
    let w = good-within s g in
    let n = less_count u.refs s.refs h.refs in
    let deep : deepest (cell_of s) ≤ 1024 = (good-sound (cell_of s) g).shallow in
    let same = same_deepest (cell_of u) (cell_of s) (cell_depth u s h.refs) in
    let D : ℕ → Type 0 = λ z. z ≤ 1024 in
    let short = w.short in
    let few = w.few in
    let less = h.short in
    let low = subst D (sym same) deep in
    let children = less_good u.refs s.refs h.refs in
    good-tree_of Ordinary u.bits u.refs h.bits (omega (arith, short, less)) (omega (arith, few, n)) refl low children

cell_mask : (u s : Slice) → AllLess u.refs s.refs → mask (cell_of u) ≡ mask (cell_of s)
cell_mask u s h =
    mask-tree_of Ordinary u.bits u.refs
    ∙ less_union u.refs s.refs h
    ∙ sym (mask-tree_of Ordinary s.bits s.refs)

cell_cells : (u s : Slice) → AllLess u.refs s.refs → unfolded (cell_of u) ≡ unfolded (cell_of s)
cell_cells u s h =
    unfolded-tree_of Ordinary u.bits u.refs
    ∙ ap (λ (x : ℕ). 1 + x) (less_cells u.refs s.refs h)
    ∙ sym (unfolded-tree_of Ordinary s.bits s.refs)

pub less_cell : (u s : Slice) → IsGood (cell_of s) → Shorter u s → Less (cell_of u) (cell_of s)
less_cell u s g h = record {
  fine = cell_good u s g h;
  shape = no_longer_cell u s h.short (less_shape u.refs s.refs h.refs);
  same_mask = cell_mask u s h.refs;
  same_depth = cell_depth u s h.refs;
  same_cells = cell_cells u s h.refs;
}

-- the content of a good cell
pub good_fine : (s : Slice) → IsGood (cell_of s) → Fine s
good_fine s g =
    let P : Slice → Type 0 = λ x. AreBits x.bits in
    record { bits = subst P (content-cell_of s) (good-sound (cell_of s) g).bits; refs = (good-within s g).good }
