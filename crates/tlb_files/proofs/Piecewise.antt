-- How many pieces a text has.
use Rattle.std.proofs.Common.{◌≡◌, ◌≤◌, ◌<◌, ◌+◌, ◌*◌, ◌/◌, arith, ℕ}
use Rattle.tlb_files.specs.Pieces.{pieces}

-- a piece more after whole ones
pub pieces-more : (at size : ℕ) → pieces at * 256 ≡ at → at < size → pieces at + 1 ≤ pieces size
pieces-more at size whole less = omega (arith, whole, less)

pub pieces-whole : (at size : ℕ) → pieces at * 256 ≡ at → size ≡ 256 → pieces (at + size) * 256 ≡ at + size
pieces-whole at size whole is = omega (arith, whole, is)
