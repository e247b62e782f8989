use Rattle.std.proofs.Common.{◌≡◌, ◌⊎◌, inl, inr, Result, Ok, Err, refl}
use Rattle.cell_nodes.specs.declared.tree.Tree.{Tree}
use Rattle.spelling.specs.Places.{Place}
use Rattle.building.specs.PlainBuilder.{build}
use Rattle.accepted_schema.specs.Accepted.{kept_cores}
use Rattle.accepted_building.specs.Laws.{IsOneTreeOf, IsOnePlaceOf}
use Rattle.accepted_building.proofs.laws.tree_or_place.Goals as goal

either : {T : Tree → Type 0} {P : Place → Type 0} (r : Result Tree Place) → ((c : Tree) → r ≡ Ok c → T c)
    → ((p : Place) → r ≡ Err p → P p) → ((c : Tree) × T c) ⊎ ((p : Place) × P p)
either (Ok c) f g = inl (c, f c refl)
either (Err p) f g = inr (p, g p refl)

pub returns : goal.returns
returns c = λ mode req s ok t v range.
    either {T = IsOneTreeOf mode (kept_cores s) t v} {P = IsOnePlaceOf mode (kept_cores s) t v}
    (build mode (kept_cores s) t v) (c.built_is_one.ensures mode req s ok t v range)
    (c.stops_at_one.ensures mode req s ok t v range)
