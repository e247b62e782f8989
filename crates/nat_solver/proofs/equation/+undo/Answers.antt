use Rattle.std.proofs.Common.{rules, ◌≡◌, ◌∙◌, ◌≤◌, ◌-◌, sym, ap, None, drop}
use Rattle.nat_solver.specs.Number.{is_empty, unknowns}
use Rattle.nat_solver.specs.Plain.{known_total}
use Rattle.nat_solver.specs.View.{expr, exprs}
use Rattle.nat_solver.specs.declared.expr.NatExpr.TheFolds.{the_lemmas}
use Rattle.nat_solver.proofs.Solving.{Holder, holders_of, holder_of, sum_unsolved, sum_left, times_left, times_unsolved, Holders, holders_here, holder_first, some_when}
use Rattle.nat_solver.proofs.equation.+undo.Goals as goal

pub number_for-less_known-requires : goal.number_for-less_known-requires
number_for-less_known-requires t c =
    let h : Holder (expr c.args.e.now) c.args.env.now c.requires.one.0 = record { only = c.requires.one.1; counts = c.requires.counts; valued = c.requires.valued } in
    (holders_of c.args.e.now _ c.as_slice.result.now c.args.env.now c.requires.one.0 c.in-Sum.is c.as_slice.ensures h).valued

pub number_for-returns-in_err-rest-in-Sum : goal.number_for-returns-in_err-rest-in-Sum
number_for-returns-in_err-rest-in-Sum t c x =
    let h : Holder (expr c.args.e.now) c.args.env.now c.requires.one.0 = record { only = c.requires.one.1; counts = c.requires.counts; valued = c.requires.valued } in (
      λ e. let n : c.from_residual.result ≡ None = c.from_residual.ensures in cc,
      λ s. absurd (sum_unsolved c.args.e.now _ c.as_slice.result.now c.args.env.now c.requires.one.0 c.args.n x c.in-Sum.is c.as_slice.ensures c.ranges.n.fits h c.in_err-rest-in-Sum.ensures s),
    )

pub number_for-number_for_term-requires : goal.number_for-number_for_term-requires
number_for-number_for_term-requires t c =
    let h : Holder (expr c.args.e.now) c.args.env.now c.requires.one.0 = record { only = c.requires.one.1; counts = c.requires.counts; valued = c.requires.valued } in
    let w = holders_of c.args.e.now _ c.as_slice-in-Sum.result.now c.args.env.now c.requires.one.0 c.in-Sum.is c.as_slice-in-Sum.ensures h in
    (search (rules, the_lemmas), ((c.requires.one.0, w.only), (w.counts, w.valued)))

pub number_for-number_for-requires : goal.number_for-number_for-requires
number_for-number_for-requires t c =
    let h : Holder (expr c.args.e.now) c.args.env.now c.requires.one.0 = record { only = c.requires.one.1; counts = c.requires.counts; valued = c.requires.valued } in
    let w = holder_of c.args.e.now _ _ c.get.result.now c.args.env.now c.requires.one.0 c.in-Times.is c.get.ensures h in
    (search (rules, the_lemmas), ((c.requires.one.0, w.only), (w.counts, w.valued)))

pub number_for-returns-in_ok-rest-in-Sum : goal.number_for-returns-in_ok-rest-in-Sum
number_for-returns-in_ok-rest-in-Sum t c =
    let h : Holder (expr c.args.e.now) c.args.env.now c.requires.one.0 = record { only = c.requires.one.1; counts = c.requires.counts; valued = c.requires.valued } in
    let same : c.as_slice.result.now ≡ c.as_slice-in-Sum.result.now = c.as_slice.ensures ∙ sym c.as_slice-in-Sum.ensures in
    let total = ap (λ ts. known_total (exprs ts) c.args.env.now) same in
    let enough : known_total (exprs c.as_slice-in-Sum.result.now) c.args.env.now ≤ c.args.n = rw (← total) (c.in_ok-rest-in-Sum.ensures.0) in
    sum_left c.args.e.now _ c.as_slice-in-Sum.result.now c.args.env.now c.requires.one.0 c.args.n c.in_ok-rest-in-Sum.rest c.number_for_term.result c.in-Sum.is c.as_slice-in-Sum.ensures c.ranges.n.fits h
    enough (c.in_ok-rest-in-Sum.ensures.1 ∙ ap (λ k. c.args.n - k) total) c.number_for_term.ensures

pub number_for-returns-then-n-k-eq0 : goal.number_for-returns-then-n-k-eq0
number_for-returns-then-n-k-eq0 t c =
    let h : Holder (expr c.args.e.now) c.args.env.now c.requires.one.0 = record { only = c.requires.one.1; counts = c.requires.counts; valued = c.requires.valued } in
    times_left c.args.e.now _ _ c.get.result.now c.args.env.now c.requires.one.0 c.args.n c.number_for.result c.in-Times.is c.get.ensures c.ranges.n.fits h c.if-n-k-eq0.true c.number_for.ensures

pub number_for-returns-else-n-k-eq0 : goal.number_for-returns-else-n-k-eq0
number_for-returns-else-n-k-eq0 t c x =
    (λ e. cc, λ s. absurd (times_unsolved c.args.e.now _ _ c.args.env.now c.args.n x c.in-Times.is c.if-n-k-eq0.false s))

pub number_for_term-number_for-requires : goal.number_for_term-number_for-requires
number_for_term-number_for-requires t c =
    let v = c.loop-term.invariant.one.0 in
    let h : Holders (exprs (drop c.loop-term.term-index c.args.terms.now)) c.args.env.now v = record { only = c.loop-term.invariant.one.1; counts = c.loop-term.invariant.counts; valued = c.loop-term.invariant.valued } in
    let w = holder_first (expr c.term-item.result) _ c.args.env.now v (some_when c.has_unknown.result (is_empty (unknowns (expr c.term-item.result))) c.has_unknown.ensures c.if-has_unknown.true)
    (holders_here c.args.terms.now c.loop-term.term-index c.term-item.result c.args.env.now v c.loop-term-test.true c.term-item.is h) in
    (search (rules, the_lemmas), ((v, w.only), (w.counts, w.valued)))
