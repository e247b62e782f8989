use Rattle.std.proofs.Common.{◌∙◌, ap, ◌++◌, codes}
use Rattle.std.specs.Str.{bytes_eq}
use Rattle.std.proofs.lemmas.Bool.{false≢true}
use Rattle.bit_slice.specs.Bits.{spelled}
use Rattle.tlb_syntax.proofs.TagBits.{binary-more}
use Rattle.tlb_syntax.proofs.lexeme.binary_bits.Goals as goal

pub digits-preserved : goal.digits-preserved
digits-preserved c =
    binary-more c.digits.bits c.push_small.new.bits c.args.digits.now c.digits.digit-index c.digits-test.true c.requires
    (λ e. false≢true (c.if-eq.ensures ∙ ap (λ xs. bytes_eq xs c.as_slice.result.now) e ∙ ap (bytes_eq (codes "_")) c.as_slice.ensures))
    c.digits.invariant (c.push_small.ensures ∙ ap (λ v. c.digits.bits ++ spelled 1 v) c.saturating_sub.ensures)
