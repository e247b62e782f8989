use Rattle.std.proofs.Common.{refl}
use Rattle.cell_tests.proofs.numbers.solved.Goals as goal

-- What was sought is the one unknown.
pub solve-requires : goal.solve-requires
solve-requires c = (c.in-Some.field-0, (c.in-Some.ensures c.in-Some.field-0).0 refl)
