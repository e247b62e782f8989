use Rattle.std.proofs.Common.{◌≡◌, ◌∙◌, ◌++◌, ap, sym, map, false}
use Rattle.value_text.specs.Tokens.{written}
use Rattle.value_text.specs.Text.{body, cell, cell_step, kind_mark, more}
use Rattle.value_text.specs.TextLaws.{cell-out, put-item, put-then}
use Rattle.value_text.proofs.CellSteps.{put-body}
use Rattle.value_text.proofs.cells.+cell.Goals as goal

pub put_cell-returns : goal.put_cell-returns
put_cell-returns t c =
    let x = c.args.text.now.items in
    let seen = c.content-content.ensures in
    let bs = c.content-content.result.bits in
    let rs = c.content-content.result.refs in
    let step : cell_step c.kind.result bs (map cell rs) ≡ cell c.args.shown.now =
    (λ i. cell_step (c.kind.ensures i) (seen.bits i) (map cell (seen.refs i))) ∙ sym (cell-out c.args.shown.now) in
    put-then x _ _ (kind_mark c.kind.result) (body bs (map cell rs)) c.in_ok-put_kind.ensures
    (put-body _ _ _ _ _ bs (more (map cell rs)) c.in_ok-put_byte.ensures c.in_ok-put_bits.ensures c.in_ok-put_children.ensures c.in_ok-put_byte-2.ensures)
    ∙ ap (λ ts. x ++ written ts) step

pub put_children-returns-in_ok-put_children-in-Some : goal.put_children-returns-in_ok-put_children-in-Some
put_children-returns-in_ok-put_children-in-Some t c =
    let x = c.args.text.now.items in
    c.in_ok-put_children-in-Some.ensures
    ∙ put-item false x _ _ (cell c.in-Some.first.now) (map cell c.in-Some.rest) c.in_ok-put_byte-in-Some.ensures c.in_ok-put_cell-in-Some.ensures
    ∙ ap (λ l. x ++ written (more (map cell l))) (sym c.in-Some.ensures)
