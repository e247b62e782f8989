use Rattle.std.proofs.Common.{◌∙◌, ◌*◌, List, ℕ, take, drop, length, arith, ap}
use Rattle.bit_slice.specs.Bits.{number_of}
use Rattle.bit_slice.specs.BitLists.{number_of-part, length-bits_from}
use Rattle.bit_slice.proofs.slice.BitSlice.whole_byte.Goals as goal

pub returns : goal.returns
returns c =
    let l = length-bits_from c.self.inside.bytes.now c.self.inside.start c.self.inside.len in
    let v = ap length c.self.view_is in
    c.byte_at.ensures
    ∙ number_of-part c.self.inside.bytes.now c.self.inside.start c.self.inside.len (8 * c.args.i) (omega arith)
    ∙ ap (λ (b : List ℕ). number_of (take 8 (drop (8 * c.args.i) b))) c.self.view_is
