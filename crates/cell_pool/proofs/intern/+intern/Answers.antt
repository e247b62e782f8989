use Rattle.std.proofs.Common.{◌∙◌, ◌++◌, ℕ, List, length, map, sym, ap, arith}
use Rattle.cell_nodes.specs.declared.tree.Tree.{Tree}
use Rattle.cell_nodes.specs.Tree.{total, unfolded}
use Rattle.cell_pool.specs.Post.{place}
use Rattle.cell_pool.specs.GrowthLaws.{length-added, walks}
use Rattle.cell_pool.proofs.Interned.{on_err, on_err_map, on_ok_both, partly-below, partly-all, children-stand, known, known-number, follows, grown, number-last, between-first, between-one, between-rest, numbers-cons}
use Rattle.cell_pool.proofs.intern.+intern.Goals as goal

pub add-returns-in_err-add_all-clause-partly : goal.add-returns-in_err-add_all-clause-partly
add-returns-in_err-add_all-clause-partly t c =
    on_err c.from_residual.result
    (partly-below c.args.pool.now c.add_all.new.pool c.content.result.refs c.args.cell.now c.ordered.ensures c.content.ensures.refs c.in_err-add_all.ensures.partly)

pub add-find-requires-clause-stand : goal.add-find-requires-clause-stand
add-find-requires-clause-stand t c =
    children-stand c.args.pool.now c.add_all.new.pool c.content.result.refs c.args.cell.now (c.in_ok-add_all.ensures.added, c.content.ensures.refs)

pub add-returns-in_err-share-in-None-clause-partly : goal.add-returns-in_err-share-in-None-clause-partly
add-returns-in_err-share-in-None-clause-partly t c =
    on_err c.from_residual-in_err-share-in-None.result
    (partly-all c.args.pool.now c.add_all.new.pool c.content.result.refs c.args.cell.now c.ordered.ensures (c.in_ok-add_all.ensures.added, c.content.ensures.refs))

pub add-push-requires : goal.add-push-requires
add-push-requires t c =
    follows c.args.pool.now c.add_all.new.pool c.content.result.refs c.args.cell.now c.in_ok-share-in-None.field-0 c.add_all.new.numbers.items
    (c.in_ok-add_all.ensures.added, c.content.ensures.refs) c.in-None.ensures
    (c.in_ok-add_all.ensures.numbers ∙ ap (λ (l : List ℕ). l ++ map (place c.add_all.new.pool) c.content.result.refs) c.new-children.ensures.items)
    c.in_ok-share-in-None.ensures c.requires.small c.requires.room

pub add-returns-in_err-push-in-None-clause-partly : goal.add-returns-in_err-push-in-None-clause-partly
add-returns-in_err-push-in-None-clause-partly t c =
    on_err c.from_residual-in_err-push-in-None.result
    (partly-all c.args.pool.now c.push.new.self c.content.result.refs c.args.cell.now c.ordered.ensures
    (c.in_err-push-in-None.ensures.err ∙ c.in_ok-add_all.ensures.added, c.content.ensures.refs))

pub add-returns-in-Some-clause-added : goal.add-returns-in-Some-clause-added
add-returns-in-Some-clause-added t c =
    known c.args.pool.now c.add_all.new.pool c.content.result.refs c.args.cell.now c.in-Some.found c.ordered.ensures
    (c.in_ok-add_all.ensures.added, c.content.ensures.refs) c.in-Some.ensures

pub add-returns-in-Some-clause-number : goal.add-returns-in-Some-clause-number
add-returns-in-Some-clause-number t c =
    known-number c.args.pool.now c.add_all.new.pool c.content.result.refs c.args.cell.now c.in-Some.found c.ordered.ensures
    (c.in_ok-add_all.ensures.added, c.content.ensures.refs) c.in-Some.ensures

pub add-returns-in_ok-push-in-None-clause-added : goal.add-returns-in_ok-push-in-None-clause-added
add-returns-in_ok-push-in-None-clause-added t c =
    c.in_ok-push-in-None.ensures.ok
    ∙ grown c.args.pool.now c.add_all.new.pool c.content.result.refs c.args.cell.now c.in_ok-share-in-None.field-0
    (c.in_ok-add_all.ensures.added, c.content.ensures.refs) c.in-None.ensures c.in_ok-share-in-None.ensures

pub add-returns-in_ok-push-in-None-clause-number : goal.add-returns-in_ok-push-in-None-clause-number
add-returns-in_ok-push-in-None-clause-number t c =
    c.new-id.ensures ∙ c.count.ensures
    ∙ sym (ap (λ (l : List Tree). place l c.args.cell.now) c.in_ok-push-in-None.ensures.ok
    ∙ number-last c.add_all.new.pool c.args.cell.now c.in_ok-share-in-None.field-0 c.in-None.ensures c.in_ok-share-in-None.ensures)

pub add_all-returns-in_err-number-in-Some-clause-partly : goal.add_all-returns-in_err-number-in-Some-clause-partly
add_all-returns-in_err-number-in-Some-clause-partly t c =
    on_err c.from_residual.result
    (between-first c.args.pool.now c.add.new.pool c.args.refs c.in-Some.rest c.in-Some.first.now c.in-Some.ensures c.in_err-number-in-Some.ensures.partly)

pub add_all-returns-in_err-push_number-in-Some-clause-partly : goal.add_all-returns-in_err-push_number-in-Some-clause-partly
add_all-returns-in_err-push_number-in-Some-clause-partly t c =
    on_err c.from_residual-in_err-push_number-in-Some.result
    (between-one c.args.pool.now c.add.new.pool c.args.refs c.in-Some.rest c.in-Some.first.now c.in-Some.ensures c.in_ok-number-in-Some.ensures.added)

pub add_all-add_all-requires : goal.add_all-add_all-requires
add_all-add_all-requires t c =
    let sizes = ap (λ (l : List Tree). total (map unfolded l)) c.in-Some.ensures in
    let len = length-added c.args.pool.now c.in-Some.first.now in
    let next = ap length c.in_ok-number-in-Some.ensures.added in
    let small = c.requires.small in
    let room = c.requires.room in
    (grind (arith, walks), (omega arith, omega arith))

pub add_all-returns-in_ok-push_number-in-Some-clause-partly : goal.add_all-returns-in_ok-push_number-in-Some-clause-partly
add_all-returns-in_ok-push_number-in-Some-clause-partly t c =
    on_err_map c.add_all.result
    (between-rest c.args.pool.now c.add.new.pool c.add_all.new.pool c.args.refs c.in-Some.rest c.in-Some.first.now c.in-Some.ensures c.in_ok-number-in-Some.ensures.added)
    c.add_all.ensures.partly

pub add_all-returns-in_ok-push_number-in-Some-clause-numbers : goal.add_all-returns-in_ok-push_number-in-Some-clause-numbers
add_all-returns-in_ok-push_number-in-Some-clause-numbers t c =
    on_ok_both c.add_all.result c.add_all.ensures.added c.add_all.ensures.numbers
    (λ listed numbers.
    numbers
    ∙ ap (λ (l : List ℕ). l ++ map (place c.add_all.new.pool) c.in-Some.rest) c.in_ok-push_number-in-Some.ensures
    ∙ numbers-cons c.args.pool.now c.in-Some.first.now c.in-Some.rest c.add.new.pool c.add_all.new.pool c.args.numbers.now.items c.in_ok-number-in-Some.number
    c.in_ok-number-in-Some.ensures.added c.in_ok-number-in-Some.ensures.number listed
    ∙ ap (λ (l : List Tree). c.args.numbers.now.items ++ map (place c.add_all.new.pool) l) (sym c.in-Some.ensures))
