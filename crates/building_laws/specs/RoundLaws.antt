-- The laws of the plain builder, and the ways from a value to a cell and back.
use Rattle.typed_value.specs.Values.{most_levels, most_parts}
use Rattle.spelling_laws.specs.OutcomeLaws.{reader_is_sound, reader_is_complete}
use Rattle.building.specs.PlainBuilder.{most_cells}
use Rattle.building_laws.specs.BuiltRootLaws.{built_reads}
use Rattle.building_laws.specs.Laws.{BuiltIsTree, BuildIsExact, BuildThenRead, ReadThenBuild}
use Rattle.building_laws.specs.OneTreeLaws.{tree_is_built}

pub built_is_tree : BuiltIsTree
built_is_tree mode req schema ok t v range c e =
    let k = built_reads most_levels most_parts most_cells mode req schema ok t v range c e in
    record { good = k.0.0; reading = record { root = k.0.1.root; deep = k.0.1.deep; large = k.0.1.large }; small = k.1 }

pub build_is_exact : BuildIsExact
build_is_exact mode req schema ok t v range c =
    (built_is_tree mode req schema ok t v range c, tree_is_built mode req schema ok t v range c)

pub build_then_read : BuildThenRead
build_then_read mode req schema ok t v range c e =
    reader_is_complete mode schema ok.acceptable t c v (built_is_tree mode req schema ok t v range c e).reading

pub read_then_build : ReadThenBuild
read_then_build mode req schema ok t v range c fine small e =
    tree_is_built mode req schema ok t v range c (record { good = fine; reading = reader_is_sound mode schema t c v e; small = small })
