-- The limits that a cell builder keeps, and why what it holds can be a cell.
use Rattle.std.specs.Prelude.{◌≡◌, ◌+◌, ◌≤◌, ◌<◌, zero, suc, List, [], ◌∷◌, ◌++◌, ℕ, length, map}
use Rattle.std.specs.Int.{bit_at}
use Rattle.std.proofs.Common.{arith, ⊎_elim}
use Rattle.std.proofs.lemmas.List.{length-append}
use Rattle.cell_nodes.specs.declared.tree.Kind.TheVariants.{Ordinary}
use Rattle.cell_nodes.specs.declared.tree.Tree.{Tree}
use Rattle.cell_nodes.specs.Equations.{depth-tree_of}
use Rattle.cell_nodes.specs.LevelsLaws.{bit_cases}
use Rattle.cell_nodes.specs.Tree.{tree_of, marks, depth, deepest, depth_over, computed_depth, greatest, mask_of}
use Rattle.cell_nodes.specs.Tree.{IsShallow}

-- each tree can stand below another cell
abbrev pub AreBelow : List Tree → Type 0
AreBelow [] = Unit {0}
AreBelow (t ∷ ts) = (deepest t < 1024) × AreBelow ts

-- at most four references, for which there is room, each of which can stand below another cell
pub record IsRoomy (refs : List Tree) (room : ℕ) : Type 0 where
  pub few : length refs ≤ 4
  pub has_room : 4 ≤ room
  pub below : AreBelow refs

pub AreBelow-more : (ts : List Tree) (t : Tree) → AreBelow ts → deepest t < 1024 → AreBelow (ts ++ t ∷ [])
AreBelow-more [] t h l = (l, tt)
AreBelow-more (u ∷ ts) t h l = (h.0, AreBelow-more ts t h.1 l)

depth-below : (t : Tree) (i : ℕ) → deepest t < 1024 → i ≤ 3 → depth t i < 1024
depth-below t zero h l = omega arith
depth-below t (suc zero) h l = omega arith
depth-below t (suc (suc zero)) h l = omega arith
depth-below t (suc (suc (suc zero))) h l = omega arith
depth-below t (suc (suc (suc (suc i)))) h l = absurd (omega arith)

greatest-below : (ts : List Tree) (i : ℕ) → AreBelow ts → i ≤ 3 → greatest (map (λ m. m.depth i) (map marks ts)) < 1024
greatest-below [] i h l = omega arith
greatest-below (t ∷ ts) i h l = omega (arith, depth-below t i h.0 l, greatest-below ts i h.1 l)

over-below : (ts : List Tree) (i : ℕ) → AreBelow ts → i ≤ 3 → depth_over i (map marks ts) ≤ 1024
over-below [] i h l = omega arith
over-below (t ∷ ts) i h l = omega (arith, greatest-below (t ∷ ts) i h l)

computed-below : (m : ℕ) (ts : List Tree) (i : ℕ) → AreBelow ts → i ≤ 3
    → computed_depth Ordinary m (map marks ts) i ≤ 1024
computed-below m ts zero h l = over-below ts 0 h (omega arith)
computed-below m ts (suc i) h l = ⊎_elim
    (λ (e : bit_at m i ≡ 0). rw e (computed-below m ts i h (omega arith)))
    (λ (e : bit_at m i ≡ 1). let z : suc i + 0 ≡ suc i = omega arith in rw (e, z) (over-below ts (suc i) h l))
    (bit_cases m i)

-- what is held can be an ordinary cell
pub shallow-held : (bits : List ℕ) (ts : List Tree) → AreBelow ts → IsShallow (tree_of Ordinary bits ts)
shallow-held bits ts h =
    omega (
      arith,
      depth-tree_of Ordinary bits ts 0,
      depth-tree_of Ordinary bits ts 1,
      depth-tree_of Ordinary bits ts 2,
      depth-tree_of Ordinary bits ts 3,
      computed-below (mask_of Ordinary bits (map marks ts)) ts 0 h (omega arith),
      computed-below (mask_of Ordinary bits (map marks ts)) ts 1 h (omega arith),
      computed-below (mask_of Ordinary bits (map marks ts)) ts 2 h (omega arith),
      computed-below (mask_of Ordinary bits (map marks ts)) ts 3 h (omega arith),
    )

-- one reference more
pub room-kept : (xs ys : List Tree) (t : Tree) (r s : ℕ) → IsRoomy xs r → length xs < 4 → deepest t < 1024
    → ys ≡ xs ++ t ∷ [] → r ≤ s → IsRoomy ys s
room-kept xs ys t r s h l d e k = record {
  few = rw e (omega (arith, length-append xs (t ∷ [])));
  has_room = omega (arith, h.has_room);
  below = rw e (AreBelow-more xs t h.below d);
}
