use Rattle.std.proofs.lemmas.Result.{err_from_is_err_and}
use Rattle.nat_solver.proofs.Sums.{known_stops, sum_stops}
use Rattle.nat_solver.proofs.evaluate.+known.Goals as goal

pub known_sum-returns-in_err-n : goal.known_sum-returns-in_err-n
known_sum-returns-in_err-n t c =
    let p = err_from_is_err_and c.from_residual.result c.from_residual.ensures.1 in
    rw (p.1, p.2) (known_stops c.args.terms.now c.loop-term.term-index c.term-item.result c.args.env.now c.loop-term.sum c.in_err-n.field-0.0 _
    c.loop-term-test.true c.term-item.is c.in_err-n.ensures c.loop-term.invariant)

pub known_sum-returns-in_err-sum : goal.known_sum-returns-in_err-sum
known_sum-returns-in_err-sum t c =
    let p = err_from_is_err_and c.from_residual-in_err-sum.result c.from_residual-in_err-sum.ensures.1 in
    rw (p.1, p.2) (sum_stops c.args.terms.now c.loop-term.term-index c.term-item.result c.args.env.now c.loop-term.sum c.in_ok-n.n c.in_err-sum.field-0.0 _
    c.loop-term-test.true c.term-item.is c.in_ok-n.ensures c.in_err-sum.ensures c.loop-term.invariant)
