use Rattle.accepted_building.specs.BuildableLaws.{built_is_one}
use Rattle.accepted_building.proofs.laws.built_is_one.Goals as goal

pub returns : goal.returns
returns c = λ mode req s ok t v.
    built_is_one c.built_is_tree.ensures c.one_tree.ensures mode req _ (c.accepted_is_buildable.ensures s ok) t v
