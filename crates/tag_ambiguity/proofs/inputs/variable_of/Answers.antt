use Rattle.std.proofs.Common.{◌∙◌, ◌+◌, ◌<◌, ◌≤◌, Some, ap, arith, drop, length, refl, sym}
use Rattle.tlb_syntax.specs.View.{item, items}
use Rattle.kind_terms.specs.ViewLaws.{item_at, item_end}
use Rattle.tag_ambiguity.proofs.Names.{found_first, found_here, found_in}
use Rattle.tag_ambiguity.proofs.inputs.variable_of.Goals as goal

pub returns-in-Some : goal.returns-in-Some
returns-in-Some c =
    let xs = c.args.items.now in
    let k = c.loop-item.item-index in
    let x = c.item-item.result in
    let name = c.args.name.now in
    let lt : k < length xs = omega arith in
    found_here (item x) (items (drop (k + 1) xs)) (items xs) name (Some c.in-Some.variable) c.in-Some.variable
    (c.loop-item.invariant ∙ ap (λ z. found_in z name) (item_at xs k x lt c.item-item.is)) (c.in-Some.ensures 0) refl

pub returns : goal.returns
returns c =
    let xs = c.args.items.now in
    let name = c.args.name.now in
    let end : length xs ≤ c.loop-item.item-index = omega arith in
    sym (found_first (items xs) name ∙ c.loop-item.invariant ∙ ap (λ z. found_in z name) (item_end xs c.loop-item.item-index end))
