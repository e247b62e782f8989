use Rattle.plan_building.proofs.Fitting.{refuted, root_hidden, root_refused, root_tested}
use Rattle.plan_building.proofs.dicts.fits_root.Goals as goal

pub returns-in-Some : goal.returns-in-Some
returns-in-Some c = λ ps o.
    root_hidden c.args.mode c.args.n ps c.args.leaves.items _ _ c.args.unknown.now c.in-Some.field-0
    c.as_slice-then-fits.ensures.value c.as_slice.ensures.value o c.in-Some.ensures (c.in_ok-fits.ensures.0 c.if-fits.true)

pub returns-in-None : goal.returns-in-None
returns-in-None c = λ ps o.
    root_tested c.args.mode c.args.n ps c.args.leaves.items _ _ c.args.unknown.now c.as_slice-then-fits.ensures.value
    c.as_slice.ensures.value o c.in-None.ensures (c.in_ok-fits.ensures.0 c.if-fits.true) c.are_placed.result
    c.are_placed.ensures

pub returns : goal.returns
returns c = λ ps o.
    root_refused c.args.mode c.args.n ps c.args.leaves.items _ c.args.unknown.now c.as_slice.ensures.value o
    (refuted _ c.if-fits.false c.in_ok-fits.ensures)
