use Rattle.std.proofs.Common.{◌≡◌, ◌∙◌, ◌++◌, ◌-◌, ◌/◌, ◌^◌, List, ℕ, [], arith, ap, length, take, slice_index}
use Rattle.bit_slice.specs.Bits.{spelled}
use Rattle.bit_slice.specs.HexLists.{digit_bits, digit_number}
use Rattle.bit_slice.specs.HexTexts.{length-pushed, spelling_bits-last}
use Rattle.bit_slice.proofs.hex.read_digits.Goals as goal

pub add_number-requires-clause-room : goal.add_number-requires-clause-room
add_number-requires-clause-room c =
    let front : c.push_digits.new.writer ≡ [] ++ digit_bits (take (length c.args.digits.now - 1) c.args.digits.now) =
    c.push_digits.ensures ∙ ap (λ (b : List ℕ). b ++ digit_bits (take (length c.args.digits.now - 1) c.args.digits.now)) c.in_ok-writer.ensures in
    let l = length-pushed c.push_digits.new.writer [] c.args.digits.now (length c.args.digits.now - 1) front (omega arith) in
    omega arith

pub returns : goal.returns
returns c =
    let value : c.from.result ≡ digit_number (slice_index c.args.digits.now (length c.args.digits.now - 1)) / 2 ^ c.args.dropped =
    c.from.ensures ∙ ap (λ (v : ℕ). v / 2 ^ c.args.dropped) c.digit_number.ensures.number in
    let front : c.push_digits.new.writer ≡ digit_bits (take (length c.args.digits.now - 1) c.args.digits.now) =
    c.push_digits.ensures ∙ ap (λ (b : List ℕ). b ++ digit_bits (take (length c.args.digits.now - 1) c.args.digits.now)) c.in_ok-writer.ensures in
    c.finish-2.ensures ∙ c.add_number.ensures
    ∙ ap (λ (b : List ℕ). b ++ spelled (4 - c.args.dropped) c.from.result) front
    ∙ ap (λ (v : ℕ). digit_bits (take (length c.args.digits.now - 1) c.args.digits.now) ++ spelled (4 - c.args.dropped) v) value
    ∙ spelling_bits-last c.args.digits.now c.args.dropped (omega arith) c.requires.few
