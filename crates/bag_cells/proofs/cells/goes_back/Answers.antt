use Rattle.std.proofs.Common.{arith, refl}
use Rattle.std.proofs.lemmas.Bool.Decides.{nat_tests}
use Rattle.bag_cells.specs.Cells.{goes_back}
use Rattle.bag_cells.proofs.Laid.{cell_size-parts, ref_fits, goes_back-more}
use Rattle.bag_cells.proofs.cells.goes_back.Goals as goal

pub ref_count-k-end-requires : goal.ref_count-k-end-requires
ref_count-k-end-requires c = omega (arith, cell_size-parts c.args.raw.now c.args.place)

pub refs-init : goal.refs-init
unfolding goes_back
refs-init c = refl

pub ref_at-cell-requires-clause-within : goal.ref_at-cell-requires-clause-within
ref_at-cell-requires-clause-within c = ref_fits c.args.raw.now c.args.place c.refs.k c.requires.laid (omega arith) (omega arith)

pub refs-preserved : goal.refs-preserved
refs-preserved c = rw (goes_back-more c.args.raw.now c.args.i c.args.place c.refs.k) (grind (arith, nat_tests))
