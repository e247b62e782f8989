-- Good trees of mask 0, and the pruned branches that stand for them.
use Rattle.std.proofs.Common.{◌≡◌, ℕ, ◌+◌, ◌%◌, ◌^◌, List, [], ◌∷◌, ◌++◌, map, Some, sym, ap, ◌∙◌, subst, arith}
use Rattle.std.proofs.lemmas.Nat.{le_or_l, le_or_r}
use Rattle.cell_nodes.specs.BytesLaws.{ArePairs}
use Rattle.cell_nodes.specs.Constructed.{pruned_with, pruned_of, stub}
use Rattle.cell_nodes.specs.ConstructedLaws.{marks-pairs}
use Rattle.cell_nodes.specs.Equations.{mask-tree_of}
use Rattle.cell_nodes.specs.Good.{IsGood, AllGood}
use Rattle.cell_nodes.specs.GoodParts.{good-depth, all_good-head, all_good-tail}
use Rattle.cell_nodes.specs.LevelsLaws.{levels_in-zero}
use Rattle.cell_nodes.specs.PrunesLaws.{AreBytes-hash, good-below}
use Rattle.cell_nodes.specs.Tree.{tree_of, mark_at, marks, mask, union_of}
use Rattle.cell_nodes.specs.declared.tree.Kind.TheVariants.{Ordinary}
use Rattle.cell_nodes.specs.declared.tree.Mode.TheVariants.{Partial}
use Rattle.cell_nodes.specs.declared.tree.Tree.{Tree}
use Rattle.hashmap_tree.specs.Dict.{unseen}
use Rattle.hashmap_tree.specs.Exceeds.{CanHide}
use Rattle.hashmap_tree.specs.PrunedLaws.{hides-stored}
use Rattle.pruning.specs.Blanked.{hidden_of}

pub record IsClean (t : Tree) : Type 0 where
  pub good : IsGood t
  pub level : mask t ≡ 0

abbrev pub AllClean : List Tree → Type 0
AllClean [] = Unit {0}
AllClean (t ∷ ts) = IsClean t × AllClean ts

pub clean-left : (ts us : List Tree) → AllClean (ts ++ us) → AllClean ts
clean-left [] us h = tt
clean-left (t ∷ ts) us h = (h.0, clean-left ts us h.1)

pub clean-right : (ts us : List Tree) → AllClean (ts ++ us) → AllClean us
clean-right [] us h = h
clean-right (t ∷ ts) us h = clean-right ts us h.1

all-clean : (ts : List Tree) → AllGood ts → union_of (map marks ts) ≡ 0 → AllClean ts
all-clean [] g h = tt
all-clean (t ∷ ts) g h =
    let l = le_or_l (mask t) (union_of (map marks ts)) in
    let r = le_or_r (mask t) (union_of (map marks ts)) in (
      record { good = all_good-head t ts g; level = omega (arith, h, l) },
      all-clean ts (all_good-tail t ts g) (omega (arith, h, r)),
    )

-- the children of an ordinary cell
pub clean-below : (b : List ℕ) (ts : List Tree) → IsClean (tree_of Ordinary b ts) → AllClean ts
clean-below b ts c =
    all-clean ts (good-below Ordinary b ts c.good) (sym (mask-tree_of Ordinary b ts) ∙ c.level)

stub-is : (c : Tree) → stub c 0 ≡ pruned_of (hidden_of c).hash (hidden_of c).depth
stub-is c =
    let m : mask c % 2 ^ 0 + 2 ^ 0 ≡ 1 = omega arith in
    λ i. pruned_with (m i) (map (λ j. mark_at j (marks c)) (levels_in-zero (mask c) i))

can-hide : (c : Tree) → IsGood c → CanHide (hidden_of c)
can-hide c g =
    let P : List ℕ → Type 0 = λ ls. ArePairs (map (λ j. mark_at j (marks c)) ls) in
    let p = subst P (levels_in-zero (mask c)) (marks-pairs c 0 (mask c) g (omega arith)) in
    record { whole = p.0.whole; bytes = AreBytes-hash c 0 g; low = good-depth c 0 g (omega arith) }

pub stub-hides : (c : Tree) → IsGood c → unseen Partial (stub c 0) ≡ Some (hidden_of c)
stub-hides c g = ap (unseen Partial) (stub-is c) ∙ hides-stored (hidden_of c) (can-hide c g)
