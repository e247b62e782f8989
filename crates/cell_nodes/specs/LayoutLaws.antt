-- Laws on layouts.
use Rattle.std.specs.Prelude.{◌≡◌, ℕ, ◌+◌, ◌*◌, ◌≤◌, IsTrue, List, length}
use Rattle.std.proofs.Common.{arith}
use Rattle.std.proofs.lemmas.Bool.Decides.{nat_tests}
use Rattle.cell_nodes.specs.declared.tree.Kind.TheVariants.{Pruned}
use Rattle.cell_nodes.specs.Layout.{byte_of, has_layout, pair_count, stored_mask}

-- the layout of a pruned branch, part by part
pub record IsPrunedLayout (bits : List ℕ) (refs : ℕ) : Type 0 where
  pub none : refs ≡ 0
  pub type_is : byte_of 0 bits ≡ 1
  pub some : 1 ≤ stored_mask bits
  pub low : stored_mask bits ≤ 7
  pub whole : length bits ≡ 16 + 272 * pair_count (stored_mask bits)

pub pruned_layout : (bits : List ℕ) (refs : ℕ) → IsTrue (has_layout Pruned bits refs) → IsPrunedLayout bits refs
pruned_layout bits refs h = record {
  none = grind (arith, nat_tests);
  type_is = grind (arith, nat_tests);
  some = grind (arith, nat_tests);
  low = grind (arith, nat_tests);
  whole = grind (arith, nat_tests);
}
