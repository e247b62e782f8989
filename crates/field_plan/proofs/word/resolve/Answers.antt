use Rattle.tlb_syntax.specs.View.{schema}
use Rattle.field_plan.proofs.Named.{closed_in, few_in}
use Rattle.field_plan.proofs.word.resolve.Goals as goal

pub returns : goal.returns
returns c =
    let s = schema c.args.plan.now.0 in
    let word = c.args.word.now in
    let answer = c.resolve.ensures.schema s c.index.ensures in
    record {
      answer = answer;
      closed = closed_in s word c.resolve.result c.named_is_closed.ensures answer;
      few = few_in s word c.resolve.result c.named_is_closed.ensures answer;
    }
