use Rattle.std.proofs.Common.{refl}
use Rattle.bag_cells.specs.Written.{header_bytes}
use Rattle.bag_cells.proofs.write.header_bytes.Goals as goal

pub returns : goal.returns
unfolding header_bytes
returns c =
    let fifth = c.in_ok-push_number-5.ensures in
    let fourth = c.in_ok-push_number-4.ensures in
    let third = c.in_ok-push_number-3.ensures in
    let second = c.in_ok-push_number-2.ensures in
    let first = c.in_ok-push_number.ensures in
    let start = c.in_ok-bytes.ensures.items in
    rw (fifth, fourth, third, second, first, start, c.width_of-size.ensures, c.width_of-off_bytes.ensures) refl
