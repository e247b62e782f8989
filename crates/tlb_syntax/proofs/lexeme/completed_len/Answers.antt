use Rattle.std.proofs.Common.{◌≡◌, ◌+◌, ◌-◌, ◌*◌, ◌∙◌, sym, ap, ℕ, List, Option, Some, get_or, take, arith}
use Rattle.std.specs.Int.Count.{count_trailing_zeros}
use Rattle.std.specs.List.{flat_map}
use Rattle.tlb_syntax.specs.Lexeme.{hex_value, hex_bits}
use Rattle.tlb_syntax.proofs.TagBits.{no-completion, trailing-short, completion, long-completion}
use Rattle.tlb_syntax.specs.Lexeme.{and_at_most_1023}
use Rattle.tlb_syntax.proofs.lexeme.completed_len.Goals as goal

pub returns-in_err-last : goal.returns-in_err-last
returns-in_err-last c =
    let none = ap and_at_most_1023 (no-completion c.args.digits.now c.in_err-last.ensures) in
    rw c.from_residual.ensures none

pub returns-then-last : goal.returns-then-last
returns-then-last c = long-completion c.args.digits.now c.in_ok-last.last c.in_ok-last.ensures c.requires c.if-last.true

pub overflow_sub-result : goal.overflow_sub-result
overflow_sub-result c =
    let short = trailing-short c.args.digits.now c.in_ok-last.last c.in_ok-last.ensures c.requires in
    let same : count_trailing_zeros 8 c.hex_value.result ≡ count_trailing_zeros 8 (hex_value (get_or c.args.digits.now c.in_ok-last.last 0)) = ap (count_trailing_zeros 8) c.hex_value.ensures.value in
    omega (arith, short, same)

pub returns : goal.returns
returns c =
    let last = c.in_ok-last.last in
    let within = c.in_ok-last.ensures.within in
    let bits = flat_map hex_bits c.args.digits.now in
    let some : ℕ → Option (List ℕ) = λ v. Some (take (4 * last + 3 - count_trailing_zeros 8 v) bits) in
    record {
      short = omega (arith, c.if-last.false);
      within = omega (arith, within);
      bits = completion c.args.digits.now last c.in_ok-last.ensures c.requires ∙ sym (ap some c.hex_value.ensures.value);
    }
