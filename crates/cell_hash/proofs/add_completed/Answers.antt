use Rattle.std.proofs.Common.{◌≡◌, ◌+◌, ◌/◌, ◌<◌, ◌++◌, [], ◌∷◌, List, ℕ, length, ◌∙◌, sym, ap, subst, arith, take, map, length-set}
use Rattle.std.specs.List.{range_with_len}
use Rattle.std.proofs.lemmas.List.{take_more_set}
use Rattle.std.proofs.lemmas.List.FromFn.{map-range_with_len_more}
use Rattle.sha2.specs.Hashers.{Holds256}
use Rattle.bit_slice.specs.Bits.{completed, completed_byte}
use Rattle.bit_slice.specs.Completion.{completed-by_index}
use Rattle.cell_hash.proofs.add_completed.Goals as goal

pub bytes-preserved : goal.bytes-preserved
bytes-preserved c =
    let within : c.bytes.i < length c.bytes.bytes = omega arith in
    record {
      written =
          take_more_set c.bytes.bytes c.bytes.i c.completed_byte.result within
          ∙ ap (λ (front : List ℕ). front ++ c.completed_byte.result ∷ []) c.bytes.invariant.written
          ∙ ap (λ (byte : ℕ). map (completed_byte c.args.bits) (range_with_len 0 c.bytes.i) ++ byte ∷ []) c.completed_byte.ensures
          ∙ sym (map-range_with_len_more (completed_byte c.args.bits) 0 c.bytes.i c.bytes.i (omega arith));
      room = length-set c.bytes.bytes c.bytes.i c.completed_byte.result ∙ c.bytes.invariant.room;
    }

pub returns : goal.returns
returns c = λ m holds.
    let all : (c.len.result + 7) / 8 ≡ c.bytes.i = omega arith in
    let count : c.bytes.i ≡ (length c.args.bits + 7) / 8 = omega arith in
    let written : take ((c.len.result + 7) / 8) c.bytes.bytes ≡ completed c.args.bits =
    ap (λ (n : ℕ). take n c.bytes.bytes) all
    ∙ c.bytes.invariant.written
    ∙ ap (λ (n : ℕ). map (completed_byte c.args.bits) (range_with_len 0 n)) count
    ∙ sym (completed-by_index c.args.bits) in
    let P : List ℕ → Type 0 = λ bytes. Holds256 c.update.new.self (m ++ bytes) in
    subst P written (c.update.ensures m holds)
