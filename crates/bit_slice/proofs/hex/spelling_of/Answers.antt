use Rattle.std.proofs.Common.{◌≡◌, ◌<◌, ◌+◌, ◌-◌, ℕ, List, arith, subst, length, take, slice_index}
use Rattle.std.specs.Int.{trailing_zeros}
use Rattle.std.proofs.lemmas.List.{take_all}
use mir.Syntax.{w8}
use Rattle.bit_slice.specs.HexLists.{digit_number, EndsByMark, IsSpelling}
use Rattle.bit_slice.specs.HexTexts.{bad-byte, bad-mark, bad-after, marked-spelling}
use Rattle.bit_slice.proofs.HexDigits.{no-mark, a-mark}
use Rattle.bit_slice.proofs.hex.spelling_of.Goals.{then-text-count-ne95-via-then-text-count-ne95, then-text-count-ne95-via-else-text-count-ne95+then-count-eq0}
use Rattle.bit_slice.proofs.hex.spelling_of.Goals as goal

pub returns-then-text-count-ne95-clause-bad : goal.returns-then-text-count-ne95-clause-bad
returns-then-text-count-ne95-clause-bad c =
    let n : c.digit_count-count.result < length c.args.text.now = omega arith in
    let why : slice_index c.args.text.now c.digit_count-count.result ≡ 95 → c.digit_count-count.result ≡ 0 =
    elim c.then-text-count-ne95.branch [
      | then-text-count-ne95-via-then-text-count-ne95 w ↦ λ e. absurd (w.if-text-count-ne95.true e)
      | then-text-count-ne95-via-else-text-count-ne95+then-count-eq0 w ↦ λ e. w.if-count-eq0.true
    ] in
    bad-byte c.args.text.now c.digit_count-count.result n c.digit_count-count.ensures.digits (c.digit_count-count.ensures.end n) why

pub returns-then-dropped-gt3-clause-bad : goal.returns-then-dropped-gt3-clause-bad
returns-then-dropped-gt3-clause-bad c =
    let n : c.digit_count-count.result < length c.args.text.now = omega arith in
    bad-mark c.args.text.now c.digit_count-count.result n c.digit_count-count.ensures.digits (c.digit_count-count.ensures.end n)
    (λ y m. rw (← c.digit_number.ensures.number) (no-mark c.digit_number.result c.digit_number.ensures.small c.if-dropped-gt3.true y m))

pub returns-then-count-text-2-clause-bad : goal.returns-then-count-text-2-clause-bad
returns-then-count-text-2-clause-bad c =
    let n : c.digit_count-count.result < length c.args.text.now = omega arith in
    let m : EndsByMark (digit_number (slice_index c.args.text.now (c.digit_count-count.result - 1))) (trailing_zeros w8 c.digit_number.result + 1) =
    rw (← c.digit_number.ensures.number) (a-mark c.digit_number.result c.digit_number.ensures.small c.if-dropped-gt3.false) in
    bad-after c.args.text.now c.digit_count-count.result (trailing_zeros w8 c.digit_number.result + 1) c.if-count-text-2.true (omega arith)
    (marked-spelling c.args.text.now c.digit_count-count.result (trailing_zeros w8 c.digit_number.result + 1) n (omega arith) c.digit_count-count.ensures.digits (omega arith) (omega arith) (omega arith) m)

pub returns-clause-good : goal.returns-clause-good
returns-clause-good c =
    let n : c.digit_count-count.result < length c.args.text.now = omega arith in
    let m : EndsByMark (digit_number (slice_index c.args.text.now (c.digit_count-count.result - 1))) (trailing_zeros w8 c.digit_number.result + 1) =
    rw (← c.digit_number.ensures.number) (a-mark c.digit_number.result c.digit_number.ensures.small c.if-dropped-gt3.false) in
    let P : List ℕ → Type 0 = λ t. IsSpelling t (take c.digit_count-count.result c.args.text.now) (trailing_zeros w8 c.digit_number.result + 1) in
    subst P (take_all (c.digit_count-count.result + 1) c.args.text.now (omega arith))
    (marked-spelling c.args.text.now c.digit_count-count.result (trailing_zeros w8 c.digit_number.result + 1) n (omega arith) c.digit_count-count.ensures.digits (omega arith) (omega arith) (omega arith) m)
