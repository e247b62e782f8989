use Rattle.std.proofs.Common.{ℕ, List, ◌++◌, take}
use Rattle.std.specs.List.{flat_map}
use Rattle.sha2.specs.Hashers.{Holds256}
use Rattle.cell_hash.specs.Representation.{depth_bytes}
use Rattle.cell_hash.proofs.add_depths.Given as goal

abbrev pub invariant-depths : goal.invariant-depths
invariant-depths l =
    (m : List ℕ) → Holds256 l.initial.hasher m
    → Holds256 l.hasher (m ++ flat_map depth_bytes (take l.child-index l.children))
