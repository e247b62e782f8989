use Rattle.std.proofs.Common.{sym, ◌∙◌, ◌∷◌}
use Rattle.tlb_lexer.proofs.StretchOf.{rest_whole, line_begins, block_opens, slash_begins}
use Rattle.tlb_lexer.proofs.scan.comment.Goals as goal

pub returns-then-starts_with : goal.returns-then-starts_with
returns-then-starts_with c =
    let after = c.args.after.now in
    λ first is. rw (c.run_len.ensures.exact, rest_whole 1 after) (line_begins first after is (sym c.starts_with.ensures.value ∙ c.if-starts_with.true))

pub returns-then-starts_with-2 : goal.returns-then-starts_with-2
returns-then-starts_with-2 c =
    let after = c.args.after.now in
    λ first is. c.block_comment.ensures (first ∷ after) (block_opens first after is (sym c.starts_with-else-starts_with.ensures.value ∙ c.if-starts_with-2.true)) (sym (rest_whole 1 after))

pub returns-else-starts_with-2 : goal.returns-else-starts_with-2
returns-else-starts_with-2 c =
    λ first is. slash_begins first c.args.after.now is (sym c.starts_with.ensures.value ∙ c.if-starts_with.false) (sym c.starts_with-else-starts_with.ensures.value ∙ c.if-starts_with-2.false)
