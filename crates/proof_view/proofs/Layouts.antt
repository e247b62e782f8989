-- What the layout of a proof says of its cell.
use Rattle.std.proofs.Common.{◌≡◌, ℕ, IsTrue, List, length, subst, arith}
use Rattle.std.proofs.lemmas.Bool.Decides.{nat_tests}
use Rattle.cell_nodes.specs.Good.{IsGood}
use Rattle.cell_nodes.specs.GoodParts.{good-sound}
use Rattle.cell_nodes.specs.Layout.{has_layout}
use Rattle.cell_nodes.specs.declared.tree.Kind.{Kind}
use Rattle.cell_nodes.specs.declared.tree.Kind.TheVariants.{Proof}
use Rattle.cell_nodes.specs.declared.tree.Tree.{Tree, out-Tree}

pub record IsProofLayout (bits : List ℕ) (cs : List Tree) : Type 0 where
  pub whole : length bits ≡ 280
  pub one : length cs ≡ 1

layout : (bits : List ℕ) (cs : List Tree) → IsTrue (has_layout Proof bits (length cs)) → IsProofLayout bits cs
layout bits cs h = record {
  whole = grind (arith, nat_tests);
  one = grind (arith, nat_tests);
}

pub proof_layout : (c : Tree) → IsGood c → (out-Tree c).kind ≡ Proof
    → IsProofLayout (out-Tree c).bits (out-Tree c).children
proof_layout c sound e =
    let P : Kind → Type 0 = λ k. IsTrue (has_layout k (out-Tree c).bits (length (out-Tree c).children)) in
    layout (out-Tree c).bits (out-Tree c).children (subst P e (good-sound c sound).layout)
