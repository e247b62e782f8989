use Rattle.std.proofs.Common.{arith, ◌∙◌, ◌≡◌, ◌<◌}
use Rattle.std.specs.List.{prefix_len}
use Rattle.tlb_lexer.specs.Bytes.{is_hex_digit}
use Rattle.tlb_lexer.proofs.LongestTokens.{closed_longest, hex_longest, hash_longest, not_hexy}
use Rattle.tlb_lexer.proofs.StretchOf.{closes_is}
use Rattle.tlb_lexer.proofs.scan.hex_tag.Goals as goal

pub returns-then-starts_with : goal.returns-then-starts_with
returns-then-starts_with c =
    let after = c.args.after.now in
    let exact = c.run_len-digits.ensures.exact in
    let closes = closes_is after c.run_len-digits.result c.starts_with.result exact c.starts_with.ensures.value ∙ c.if-starts_with.true in
    λ first is. (rw exact (closed_longest first after is closes), λ same. cc)

pub returns-then-digits-gt0 : goal.returns-then-digits-gt0
returns-then-digits-gt0 c =
    let after = c.args.after.now in
    let exact = c.run_len-digits.ensures.exact in
    let some : 0 < prefix_len is_hex_digit after = omega (arith, exact) in
    let ends = closes_is after c.run_len-digits.result c.starts_with.result exact c.starts_with.ensures.value ∙ c.if-starts_with.false in
    λ first is. (rw exact (hex_longest first after is some ends), λ same. cc)

pub returns-else-digits-gt0 : goal.returns-else-digits-gt0
returns-else-digits-gt0 c =
    let after = c.args.after.now in
    let exact = c.run_len-digits.ensures.exact in
    let none : prefix_len is_hex_digit after ≡ 0 = omega (arith, exact) in
    let ends = closes_is after c.run_len-digits.result c.starts_with.result exact c.starts_with.ensures.value ∙ c.if-starts_with.false in
    λ first is. (rw c.hash_symbol.ensures (hash_longest first after is (not_hexy after none ends)), λ same. cc)
