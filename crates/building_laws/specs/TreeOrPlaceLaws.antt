-- A value has a tree or is unfit at some place.
use Rattle.std.proofs.Common.{◌≡◌, ◌⊎◌, inl, inr, Result, Ok, Err, refl}
use Rattle.cell_nodes.specs.declared.tree.Mode.{Mode}
use Rattle.cell_nodes.specs.declared.tree.Tree.{Tree}
use Rattle.hashmap_labels.specs.declared.forms.Forms.TheVariants.{Required}
use Rattle.hashmap_tree.specs.Dict.{forms_of}
use Rattle.typed_value.specs.Values.{Plain, most_levels, most_parts}
use Rattle.core_form.specs.Core.{CoreSchema}
use Rattle.core_form.specs.Closed.{Closed}
use Rattle.spelling.specs.Places.{Place}
use Rattle.building.specs.Buildable.{IsBuildable, InRange}
use Rattle.building.specs.PlainBuilder.{most_cells, build}
use Rattle.building.specs.Unfit.{Unfit}
use Rattle.building_laws.specs.Laws.{IsTreeOf, StopsWhereUnfit, TreeOrPlace}
use Rattle.building_laws.specs.RoundLaws.{built_is_tree}
use Rattle.building_laws.specs.StoppedLaws.{root_refused}

pub stops_where_unfit : StopsWhereUnfit
stops_where_unfit mode req schema ok t v range p e =
    root_refused most_levels most_parts most_cells mode req schema ok t v range p e

tree_or_place_by : (mode : Mode) → forms_of mode ≡ Required → (schema : CoreSchema) → IsBuildable schema → (t : Closed)
    (v : Plain) → InRange v → (r : Result Tree Place) → build mode schema t v ≡ r
    → ((c : Tree) × IsTreeOf mode schema t v c) ⊎ ((p : Place) × Unfit mode schema t v p)
tree_or_place_by mode req schema ok t v range (Ok c) e = inl (c, built_is_tree mode req schema ok t v range c e)
tree_or_place_by mode req schema ok t v range (Err p) e = inr (p, stops_where_unfit mode req schema ok t v range p e)

pub tree_or_place : TreeOrPlace
tree_or_place mode req schema ok t v range =
    tree_or_place_by mode req schema ok t v range (build mode schema t v) refl
