use Rattle.std.proofs.Common.{[]}
use Rattle.tlb_syntax.specs.View.{items}
use Rattle.schema_core.specs.CoreOf.{names_after}
use Rattle.tag_ambiguity.proofs.Params.{long_sum, not_empty, with_args}
use Rattle.tag_ambiguity.proofs.inputs.input_of.Goals as goal

pub returns-else-is_empty : goal.returns-else-is_empty
returns-else-is_empty c =
    with_args (names_after (items c.args.items.now) [] 0) c.args.e.now c.in-Named.name c.in-Named.args c.in-Named.is
    (not_empty c.is_empty.result c.is_empty.ensures c.if-is_empty.false)

pub returns-else-is_empty-2 : goal.returns-else-is_empty-2
returns-else-is_empty-2 c =
    long_sum (names_after (items c.args.items.now) [] 0) c.args.e.now c.in-Sum.v c.in-Sum.k c.in-Sum.more c.in-Sum.is
    (not_empty c.is_empty-in-Sum.result c.is_empty-in-Sum.ensures c.if-is_empty-2.false)
