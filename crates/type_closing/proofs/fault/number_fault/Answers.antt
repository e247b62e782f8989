use Rattle.std.proofs.Common.{◌∙◌, ap, refl, Some}
use Rattle.kind_terms.specs.SumLaws.{of_sum}
use Rattle.kind_terms.specs.ViewLaws.{count_seen}
use Rattle.type_index.specs.Index.{kinds_at}
use Rattle.type_closing.specs.Faults.{kind_mismatch, number_fault, type_called}
use Rattle.type_closing.specs.Views.{name_by}
use Rattle.type_closing.proofs.Turns.{named_number}
use Rattle.type_closing.proofs.fault.number_fault.Goals as goal

pub returns-in-Named : goal.returns-in-Named
returns-in-Named c =
    ap Some c.number_name_fault.ensures
    ∙ named_number (kinds_at c.args.types.now) (name_by c.args.holder) c.args.most _ c.in-Named.args _ _ _ c.in-Named.is
    (c.type_called-named.ensures ∙ ap (type_called (kinds_at c.args.types.now)) c.text.ensures.value)
    (c.len.ensures ∙ count_seen c.in-Named.args)

pub returns-in-Sum : goal.returns-in-Sum
returns-in-Sum c =
    of_sum (number_fault (kinds_at c.args.types.now) (name_by c.args.holder) c.args.most) (Some (kind_mismatch (name_by c.args.holder)))
    (λ a b. refl) _ _ _ _ c.in-Sum.is
