use Rattle.std.proofs.Common.{◌∙◌, ◌++◌, [], ◌∷◌, ap, map}
use Rattle.value_text.specs.Tokens.{mark, written}
use Rattle.value_text.specs.Text.{body, cell, more}
use Rattle.value_text.specs.TextLaws.{put-then}
use Rattle.value_text.proofs.CellSteps.{put-body}
use Rattle.value_text.proofs.cells.put_rest.Goals as goal

pub returns : goal.returns
returns c =
    let part = c.args.shown.now in
    let t = c.args.text.now.items in
    put-then t _ _ (mark 37 ∷ []) (body c.slice.result (map cell c.as_slice.result.now)) c.in_ok-put_byte.ensures
    (put-body _ _ _ _ _ c.slice.result (more (map cell c.as_slice.result.now)) c.in_ok-put_byte-2.ensures c.in_ok-put_bits.ensures
    c.in_ok-put_cells.ensures c.in_ok-put_byte-3.ensures)
    ∙ ap (λ b. t ++ written (mark 37 ∷ body b (map cell c.as_slice.result.now))) c.slice.ensures
    ∙ ap (λ cs. t ++ written (mark 37 ∷ body part.bits (map cell cs))) c.as_slice.ensures
