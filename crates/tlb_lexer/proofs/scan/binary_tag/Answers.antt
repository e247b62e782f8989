use Rattle.std.proofs.Common.{arith, sym, ◌∙◌, ◌≡◌, ◌<◌}
use Rattle.std.specs.List.{prefix_len}
use Rattle.tlb_lexer.specs.Bytes.{is_bit}
use Rattle.tlb_lexer.proofs.LongestTokens.{bits_longest, empty_binary_longest}
use Rattle.tlb_lexer.proofs.StretchOf.{dollar_begins}
use Rattle.tlb_lexer.proofs.scan.binary_tag.Goals as goal

pub returns-then-bits-gt0 : goal.returns-then-bits-gt0
returns-then-bits-gt0 c =
    let after = c.args.after.now in
    let some : 0 < prefix_len is_bit after = omega (arith, c.run_len-bits.ensures.exact) in
    λ first is. (rw c.run_len-bits.ensures.exact (bits_longest first after is some), λ same. cc)

pub returns-then-starts_with : goal.returns-then-starts_with
returns-then-starts_with c =
    let after = c.args.after.now in
    let none : prefix_len is_bit after ≡ 0 = omega (arith, c.run_len-bits.ensures.exact) in
    λ first is. (empty_binary_longest first after is none (sym c.starts_with.ensures.value ∙ c.if-starts_with.true), λ same. cc)

pub returns-else-starts_with : goal.returns-else-starts_with
returns-else-starts_with c =
    let after = c.args.after.now in
    let none : prefix_len is_bit after ≡ 0 = omega (arith, c.run_len-bits.ensures.exact) in
    λ first is. dollar_begins first after is none (sym c.starts_with.ensures.value ∙ c.if-starts_with.false)
