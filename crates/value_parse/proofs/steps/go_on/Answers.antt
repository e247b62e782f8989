use Rattle.value_parse.specs.View.{frames, spot}
use Rattle.value_parse.proofs.Reach.{stays_counted}
use Rattle.value_parse.proofs.steps.go_on.Goals as goal

pub returns-clause-counted : goal.returns-clause-counted
returns-clause-counted c =
    let s = c.args.state in
    let h = stays_counted s.values s.cells (spot s.begun.spot) (frames s.begun.below.items) c.args.lexeme c.requires.allowed c.requires.counted.0 c.requires.counted.1 in
    rw (c.one_more-values.ensures, c.one_more-cells.ensures, c.is_one_value.ensures, c.is_one_cell.ensures) h
