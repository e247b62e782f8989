use Rattle.std.proofs.Common.{◌≡◌, ◌<◌, ◌∙◌, [], Some, ap, sym, map, take, length, arith}
use Rattle.std.specs.Prelude.{option_map}
use Rattle.std.proofs.lemmas.List.{length-map, take-map, get_or-map}
use Rattle.tlb_syntax.specs.View.{constructor}
use Rattle.tlb_guard.specs.Edges.{place_by}
use Rattle.tlb_kinds.specs.declared.error.KindError.TheVariants.{Unguarded}
use Rattle.tlb_kinds.specs.Refusals.{of_place, of_guard, unguarded_at}
use Rattle.kind_declarations.specs.Faults.{first}
use Rattle.tlb_kinds.proofs.Loops.{constructor_within, item_count-items, unguarded_there, unguarded_nowhere}
use Rattle.tlb_kinds.proofs.check.judge_guard.Goals as goal

pub item_spot-requires-clause-items : goal.item_spot-requires-clause-items
item_spot-requires-clause-items c =
    let this = c.index-constructors-index.result in
    let within = constructor_within c.args.constructors.now c.in-Some.unguarded.constructor this (omega arith) c.index-constructors-index.is c.requires.within in
    let count = item_count-items this.items in
    omega (arith, count, within.item_count)

pub returns-then-index-constructors : goal.returns-then-index-constructors
returns-then-index-constructors c =
    let xs = c.args.constructors.now in
    let u = c.in-Some.unguarded in
    let place : of_guard (map constructor xs) ≡ unguarded_at [] (map constructor xs) u.constructor u.item =
    ap (of_place (map constructor xs)) (sym c.in_ok-unguarded.ensures ∙ ap (option_map place_by) c.in-Some.is) in
    let size = length-map xs constructor in
    place ∙ unguarded_nowhere (map constructor xs) [] u.constructor u.item (omega (arith, size, c.if-index-constructors.true))

pub returns : goal.returns
returns c = λ other.
    let xs = c.args.constructors.now in
    let u = c.in-Some.unguarded in
    let this = c.index-constructors-index.result in
    let place : of_guard (map constructor xs) ≡ unguarded_at [] (map constructor xs) u.constructor u.item =
    ap (of_place (map constructor xs)) (sym c.in_ok-unguarded.ensures ∙ ap (option_map place_by) c.in-Some.is) in
    let size = length-map xs constructor in
    let lt : u.constructor < length xs = omega (arith, c.if-index-constructors.false) in
    let there = unguarded_there (map constructor xs) [] (map constructor (take u.constructor xs)) u.constructor u.item (constructor this) (omega (arith, size, lt))
    (ap constructor c.index-constructors-index.is ∙ sym (get_or-map constructor xs u.constructor this (constructor this) lt))
    (sym (take-map constructor u.constructor xs)) in
    ap first (place ∙ there) ∙ ap (λ z. Some (Unguarded z)) (sym c.in_ok-spot.ensures)
