use Rattle.std.proofs.Common.{refl, ◌∙◌, ◌<◌, ap, map, length, arith}
use Rattle.std.proofs.lemmas.List.{take_all}
use Rattle.kind_terms.specs.SumLaws.{of_sum}
use Rattle.closed_type.specs.View.{joined}
use Rattle.type_closing.specs.Closing.{closed_of, no_meaning}
use Rattle.type_closing.proofs.Arguments.{argument, few_args, joined_args}
use Rattle.type_closing.proofs.close.+close.Goals as goal

pub close-returns-in-Sum : goal.close-returns-in-Sum
close-returns-in-Sum t c = c.no_meaning.ensures ∙ of_sum closed_of no_meaning (λ a b. refl) _ _ _ _ c.in-Sum.is

pub close_args-returns : goal.close_args-returns
close_args-returns t c =
    ap joined (c.loop-arg.invariant ∙ ap (map argument) (take_all c.loop-arg.arg-index c.args.args.now c.loop-arg-test.false))
    ∙ joined_args c.args.args.now

pub close_second-returns-in-len1 : goal.close_second-returns-in-len1
close_second-returns-in-len1 t c =
    let few : length c.args.args.now < 2 = omega (arith, c.in-len1.len_below) in
    c.no_meaning-in-len1.ensures ∙ few_args c.args.args.now few
