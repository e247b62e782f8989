use Rattle.std.proofs.Common.{◌≡◌, ◌++◌, map, take, get_or}
use Rattle.std.specs.List.{flat_map}
use Rattle.bag_cells.specs.Written.{number_bytes}
use Rattle.bag_cells.proofs.write.push_refs.Given as goal

abbrev pub invariant-refs : goal.invariant-refs
invariant-refs l =
    l.bytes.items ≡ l.initial.bytes.items ++ flat_map (number_bytes l.size) (map (λ n. get_or l.places n 0) (take l.child-index l.children))
