use Rattle.plan_building.proofs.Fitting.{edge_none, edge_refused, edge_tested, refuted}
use Rattle.plan_building.proofs.dicts.fits_edge.Goals as goal

pub returns-then-has_none : goal.returns-then-has_none
returns-then-has_none c = λ ps o.
    edge_none c.args.mode c.args.n ps c.args.leaves.items _ c.args.unknown.now c.as_slice.ensures.value o
    (c.has_none.ensures.0 c.if-has_none.true)

pub returns-then-fits : goal.returns-then-fits
returns-then-fits c = λ ps o.
    edge_tested c.args.mode c.args.n ps c.args.leaves.items _ _ c.args.unknown.now c.as_slice.ensures.value
    c.as_slice-2.ensures.value o (refuted _ c.if-has_none.false c.has_none.ensures)
    (c.in_ok-fits.ensures.0 c.if-fits.true) c.are_placed.result c.are_placed.ensures

pub returns : goal.returns
returns c = λ ps o.
    edge_refused c.args.mode c.args.n ps c.args.leaves.items _ c.args.unknown.now c.as_slice-2.ensures.value o
    (refuted _ c.if-fits.false c.in_ok-fits.ensures)
