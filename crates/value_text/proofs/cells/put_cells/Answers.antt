use Rattle.std.proofs.Common.{◌∙◌, ◌+◌, ◌++◌, ap, sym, map, drop, false}
use Rattle.value_text.specs.Tokens.{written}
use Rattle.value_text.specs.Text.{cell, more}
use Rattle.value_text.specs.TextLaws.{put-item}
use Rattle.value_text.proofs.Lists.{next-item}
use Rattle.value_text.proofs.cells.put_cells.Goals as goal

pub cells-preserved : goal.cells-preserved
cells-preserved c =
    let all = c.args.cells.now in
    let i = c.cells.shown-index in
    let v = c.shown-item.result in
    put-item false c.cells.text.items _ _ (cell v) (map cell (drop (i + 1) all)) c.in_ok-put_byte.ensures c.in_ok-put_cell.ensures
    ∙ ap (λ l. c.cells.text.items ++ written (more (map cell l))) (sym (next-item all i v c.cells-test.true c.shown-item.is))
    ∙ c.cells.invariant
