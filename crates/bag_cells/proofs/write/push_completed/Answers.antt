use Rattle.std.proofs.Common.{◌≡◌, ◌∙◌, ◌++◌, ◌∷◌, [], ◌+◌, ◌/◌, ℕ, List, length, map, append_assoc, arith, sym, ap}
use Rattle.std.specs.List.{range_with_len}
use Rattle.std.proofs.lemmas.List.FromFn.{map-range_with_len_more}
use Rattle.bit_slice.specs.Bits.{completed_byte}
use Rattle.bit_slice.specs.Completion.{completed-by_index}
use Rattle.bag_cells.proofs.write.push_completed.Goals as goal

pub bytes-preserved : goal.bytes-preserved
bytes-preserved c =
    let before = c.args.bytes.now.items in
    let pushed = map (completed_byte c.args.bits) (range_with_len 0 c.bytes.i) in
    c.in_ok-push_byte.ensures
    ∙ ap (λ (l : List ℕ). l ++ c.completed_byte.result ∷ []) c.bytes.invariant
    ∙ append_assoc before pushed (c.completed_byte.result ∷ [])
    ∙ ap (λ (b : ℕ). before ++ (pushed ++ b ∷ [])) c.completed_byte.ensures
    ∙ ap (λ (l : List ℕ). before ++ l) (sym (map-range_with_len_more (completed_byte c.args.bits) 0 c.bytes.i c.bytes.i (omega arith)))

pub returns : goal.returns
returns c =
    let count : c.bytes.i ≡ (length c.args.bits + 7) / 8 = omega (arith, c.len.ensures.value) in
    c.bytes.invariant
    ∙ ap (λ (n : ℕ). c.args.bytes.now.items ++ map (completed_byte c.args.bits) (range_with_len 0 n)) count
    ∙ ap (λ (l : List ℕ). c.args.bytes.now.items ++ l) (sym (completed-by_index c.args.bits))
