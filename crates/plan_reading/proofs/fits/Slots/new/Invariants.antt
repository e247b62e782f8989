use Rattle.std.proofs.Common.{◌≡◌, None, map, option_map, replicate}
use Rattle.closed_type.specs.View.{closed_type}
use Rattle.plan_reading.proofs.fits.Slots.new.Given as goal

abbrev pub invariant-loop-slot : goal.invariant-loop-slot
invariant-loop-slot l = map (option_map closed_type) l.types.items ≡ replicate l._slot None
