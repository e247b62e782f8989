-- Which references stand on the way of a path. This project's own.
use Rattle.std.specs.Prelude.{Bool, false, ◌||◌, ℕ, List, [], ◌∷◌, Option, Some, None}
use Rattle.typed_value.specs.Paths.{Stride}
use Rattle.pruning.specs.Spots.{Spot, is_prefix, enters}

-- The path goes through the reference: to the value behind it or on from there; in a dictionary, to a key below it and on
-- from there.
abbrev pub on_way : List Stride → Spot → Option (List ℕ) → Bool
on_way path x None = is_prefix x.path path
on_way path x (Some q) = enters q x.path path

-- one of them stands on its way
abbrev pub some_on_way : List Stride → List Spot → Bool
some_on_way path [] = false
some_on_way path (x ∷ xs) = on_way path x x.prefix || some_on_way path xs
