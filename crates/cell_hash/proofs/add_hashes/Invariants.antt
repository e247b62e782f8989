use Rattle.std.proofs.Common.{ℕ, List, ◌++◌, take}
use Rattle.std.specs.List.{flat_map}
use Rattle.sha2.specs.Hashers.{Holds256}
use Rattle.cell_hash.specs.Representation.{hash_bytes}
use Rattle.cell_hash.proofs.add_hashes.Given as goal

abbrev pub invariant-hashes : goal.invariant-hashes
invariant-hashes l =
    (m : List ℕ) → Holds256 l.initial.hasher m
    → Holds256 l.hasher (m ++ flat_map hash_bytes (take l.child-index l.children))
