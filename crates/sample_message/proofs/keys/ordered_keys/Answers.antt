use Rattle.std.proofs.Common.{◌∙◌, ap}
use Rattle.std.proofs.lemmas.List.Sorted.{IsNonDecreasingBy-from_sort}
use Rattle.sample_message.specs.Keys.{in_order}
use Rattle.sample_message.proofs.Order.{is-in_order}
use Rattle.sample_message.proofs.keys.ordered_keys.Goals as goal

pub returns : goal.returns
returns c =
    is-in_order _ _ c.sort_unstable.ensures.permutation (IsNonDecreasingBy-from_sort (λ x. x) _ c.sort_unstable.ensures.sorted)
    ∙ ap in_order c.in_ok-keys.ensures
