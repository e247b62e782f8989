-- The mask of a good tree is one of three levels.
use Rattle.std.proofs.Common.{ℕ, ◌≤◌, List, [], ◌∷◌, map, bit_or, subst, sym, arith}
use Rattle.std.specs.Prelude.{IsTrue}
use Rattle.std.proofs.lemmas.Nat.{or_lt}
use Rattle.cell_nodes.specs.declared.tree.Kind.{Kind}
use Rattle.cell_nodes.specs.declared.tree.Kind.TheVariants.{Ordinary, Pruned, Library, Proof, Update}
use Rattle.cell_nodes.specs.declared.tree.Tree.{Tree, out-Tree}
use Rattle.cell_nodes.specs.Equations.{marks-out}
use Rattle.cell_nodes.specs.Good.{IsGood, AllGood, good, none, more}
use Rattle.cell_nodes.specs.Layout.{has_layout}
use Rattle.cell_nodes.specs.LayoutLaws.{pruned_layout}
use Rattle.cell_nodes.specs.Tree.{Marks, marks, mask, mask_of, union_of}

either-low : (a b : ℕ) → a ≤ 7 → b ≤ 7 → bit_or a b ≤ 7
either-low a b h k = omega (arith, or_lt 3 a b (omega arith) (omega arith))

kind-low : (k : Kind) (bits : List ℕ) (refs : ℕ) (ms : List Marks) → IsTrue (has_layout k bits refs) → union_of ms ≤ 7
    → mask_of k bits ms ≤ 7
kind-low Ordinary bits refs ms h low = low
kind-low Pruned bits refs ms h low = (pruned_layout bits refs h).low
kind-low Library bits refs ms h low = omega arith
kind-low Proof bits refs ms h low = omega arith
kind-low Update bits refs ms h low = omega arith

mutual
  pub mask-low : (t : Tree) → IsGood t → mask t ≤ 7
  mask-low t (good t' sound all) =
      let P : Marks → Type 0 = λ m. m.mask ≤ 7 in
      subst P (sym (marks-out t))
      (kind-low (out-Tree t).kind (out-Tree t).bits _ (map marks (out-Tree t).children) sound.layout
      (masks-low (out-Tree t).children all))

  masks-low : (ts : List Tree) → AllGood ts → union_of (map marks ts) ≤ 7
  masks-low [] none = omega arith
  masks-low (t ∷ ts) (more t' ts' h hs) = either-low (mask t) (union_of (map marks ts)) (mask-low t h) (masks-low ts hs)
