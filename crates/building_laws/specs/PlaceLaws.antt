-- A value is unfit at one place at most, and has no tree then.
use Rattle.std.proofs.Common.{◌≡◌, Result, Ok, Err, sym, ◌∙◌}
use Rattle.cell_nodes.specs.declared.tree.Tree.{Tree}
use Rattle.spelling.specs.Places.{Place}
use Rattle.typed_value.specs.Values.{most_levels, most_parts}
use Rattle.building.specs.PlainBuilder.{most_cells}
use Rattle.building_laws.specs.Laws.{UnfitStops, OnePlace, NoTreeWhereUnfit}
use Rattle.building_laws.specs.OneTreeLaws.{tree_is_built}
use Rattle.building_laws.specs.UnfitLaws.{root_stands}

pub unfit_stops : UnfitStops
unfit_stops mode req schema ok t v range p u =
    root_stands most_levels most_parts most_cells mode req schema ok t v range p u

err_one : (p q : Place) → (◌≡◌ {A = Result Tree Place} (Err p) (Err q)) → p ≡ q
err_one p q e = cc

ok_err : (c : Tree) (p : Place) → (◌≡◌ {A = Result Tree Place} (Ok c) (Err p)) → ⊥
ok_err c p e = cc

pub one_place : OnePlace
one_place mode req schema ok t v range p q u w =
    err_one p q (sym (unfit_stops mode req schema ok t v range p u) ∙ unfit_stops mode req schema ok t v range q w)

pub no_tree_where_unfit : NoTreeWhereUnfit
no_tree_where_unfit mode req schema ok t v range c p r u =
    ok_err c p (sym (tree_is_built mode req schema ok t v range c r) ∙ unfit_stops mode req schema ok t v range p u)
