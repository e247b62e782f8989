use Rattle.std.proofs.Common.{arith, refl}
use Rattle.bag_cells.specs.Numbers.{number_at}
use Rattle.bag_cells.proofs.ByteNumbers.{number_at-more, digit_bound, digit_room}
use Rattle.bag_cells.proofs.bytes.number_at.Goals as goal

pub bytes-init : goal.bytes-init
unfolding number_at
bytes-init c = record { value_is = refl; bound = omega arith }

pub overflow_mul-value : goal.overflow_mul-value
overflow_mul-value c = omega (arith, digit_room c.bytes.value c.bytes.i c.bytes.invariant.bound (omega arith))

pub overflow_add-value : goal.overflow_add-value
overflow_add-value c = omega (arith, digit_room c.bytes.value c.bytes.i c.bytes.invariant.bound (omega arith))

pub bytes-preserved : goal.bytes-preserved
bytes-preserved c = record {
  value_is = rw number_at-more (omega arith);
  bound = digit_bound c.bytes.value c.from.result c.bytes.i c.bytes.invariant.bound (omega arith);
}
