use Rattle.std.proofs.Common.{◌∙◌, refl, ap, sym, false, not}
use Rattle.std.specs.Prelude.{option_map, ◌==◌}
use Rattle.kind_terms.specs.Views.{named_by}
use Rattle.kind_terms.specs.SumLaws.{of_sum}
use Rattle.kind_rules.specs.Numbers.{is_other_basic, takes_other_basic}
use Rattle.kind_terms.specs.ViewLaws.{count_seen, seen_named}
use Rattle.kind_rules.proofs.SumForms.{other_basic_of_numbers}
use Rattle.kind_rules.proofs.rules.is_other_basic.Goals as goal

pub returns-in-Named : goal.returns-in-Named
returns-in-Named c =
    let named = option_map named_by c.args.named in
    c.takes_other_basic.ensures
    ∙ ap (takes_other_basic named) (c.len.ensures ∙ count_seen c.in-Named.args)
    ∙ sym (ap (is_other_basic named) (seen_named _ _ _ c.in-Named.is))

pub returns-in-Sum : goal.returns-in-Sum
returns-in-Sum c = of_sum (is_other_basic (option_map named_by c.args.named)) false (λ a b. refl) _ _ _ _ c.in-Sum.is

pub returns-in-Bits : goal.returns-in-Bits
returns-in-Bits c =
    ap (λ n. not (n == 1)) (c.len-in-Bits.ensures ∙ count_seen c.in-Bits.args)
    ∙ other_basic_of_numbers (option_map named_by c.args.named) _ _ c.in-Bits.is
