-- The answers that the cell of a proof and its child decide.
use Rattle.std.proofs.Common.{◌≡◌, ℕ, List, [], ◌∷◌, length, Some, ap, arith}
use Rattle.std.specs.Prelude.{◌≢◌, slice_get}
use Rattle.cell_nodes.specs.Good.{IsGood}
use Rattle.cell_nodes.specs.Tree.{mask, hash, depth}
use Rattle.cell_nodes.specs.declared.tree.Kind.TheVariants.{Proof}
use Rattle.cell_nodes.specs.declared.tree.Tree.{Tree, out-Tree}
use Rattle.proof_laws.specs.Viewing.{hash_differs, depth_differs, kept_hash, kept_depth}
use Rattle.proof_view.specs.Viewed.{HoldsAnyway}
use Rattle.proof_view.proofs.Layouts.{proof_layout}

abbrev pub IsChild : Tree → Tree → Type 0
IsChild c p = ((out-Tree c).kind ≡ Proof) × ((out-Tree c).children ≡ p ∷ [])

first_is : (cs : List Tree) (p : Tree) → length cs ≡ 1 → slice_get cs 0 ≡ Some p → cs ≡ p ∷ []
first_is [] p l e = absurd (cc)
first_is (c ∷ []) p l e = let same : c ≡ p = cc in ap (λ (t : Tree). t ∷ []) same
first_is (c ∷ d ∷ cs) p l e = absurd (omega (arith, l))

pub is_child : (c p : Tree) → IsGood c → (out-Tree c).kind ≡ Proof → slice_get (out-Tree c).children 0 ≡ Some p
    → IsChild c p
is_child c p sound k e = (k, first_is (out-Tree c).children p (proof_layout c sound k).one e)

pub hash_holds : (c p : Tree) (kept found : List ℕ) → IsChild c p → mask c ≡ 0 → kept ≡ kept_hash c → found ≡ hash p 0
    → kept ≢ found → HoldsAnyway c (hash_differs kept found)
hash_holds c p kept found child whole k f h = λ schema t root. (child.0, p, child.1, (whole, k, f, h))

pub depth_holds : (c p : Tree) (kept found : ℕ) → IsChild c p → mask c ≡ 0 → kept_hash c ≡ hash p 0
    → kept ≡ kept_depth c → found ≡ depth p 0 → kept ≢ found → HoldsAnyway c (depth_differs kept found)
depth_holds c p kept found child whole same k f h = λ schema t root. (child.0, p, child.1, (whole, same, k, f, h))
