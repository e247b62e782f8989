-- Numbers in bytes and their bounds.
use Rattle.std.proofs.Common.{◌≡◌, ℕ, ◌+◌, ◌*◌, ◌^◌, ◌<◌, ◌≤◌, List, get_or, refl, arith, add-one, lit≤}
use Rattle.std.proofs.Math.Nat.{pow-le-pow_right, pow-succ'}
use Rattle.bag_cells.specs.Numbers.{number_at}

pub number_at-more : (bytes : List ℕ) (from i : ℕ) → number_at bytes from (i + 1) ≡ 256 * number_at bytes from i + get_or bytes (from + i) 0
unfolding number_at
number_at-more bytes from i = rw add-one refl

pub power-more : (i : ℕ) → 256 ^ (i + 1) ≡ 256 * 256 ^ i
power-more i = rw add-one (pow-succ' 256 i)

-- one more byte of a number of i bytes
pub digit_bound : (value byte i : ℕ) → value < 256 ^ i → byte < 256 → 256 * value + byte < 256 ^ (i + 1)
digit_bound value byte i h k = omega (arith, power-more i)

-- a number of at most 7 bytes leaves room for one more in 64 bits
pub digit_room : (value i : ℕ) → value < 256 ^ i → i ≤ 7 → value < 72057594037927936
digit_room value i h k = omega (arith, pow-le-pow_right {n = 256} (lit≤ tt) k)
