-- A value that may not begin.
use Rattle.std.proofs.Common.{◌≡◌, ℕ, zero, suc, ◌≤◌, Err, ap, refl}
use Rattle.std.proofs.lemmas.Bool.{le-ltb}
use Rattle.hashmap_labels.specs.Steps.{when_false}
use Rattle.spelling.specs.Places.{Spot, stuck}
use Rattle.spelling.specs.declared.Cause.TheVariants.{Bulk, Nesting}
use Rattle.typed_value.specs.Values.{most_parts}
use Rattle.plan_building.specs.Begun.{starting}

pub starting_none : (levels q : ℕ) (h : Spot) → levels ≡ 0 → starting levels q h ≡ Err (stuck h Nesting)
starting_none levels q h e = ap (λ n. starting n q h) e

pub starting_full : (levels q : ℕ) (h : Spot) → (levels ≡ 0 → ⊥) → most_parts ≤ q
    → starting levels q h ≡ Err (stuck h Bulk)
starting_full zero q h f le = absurd (f refl)
starting_full (suc n) q h f le = when_false _ _ _ (le-ltb q most_parts le)
