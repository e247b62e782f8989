use Rattle.std.proofs.Common.{ℕ, List, ap, ◌≡◌, ◌<◌, ◌^◌, length, sym, ◌∙◌, subst, arith}
use Rattle.bit_slice.specs.BitLengths.{bit_length-below}
use Rattle.bit_slice.specs.Bits.{bit_length}
use Rattle.hashmap_labels.specs.Labels.{required_form}
use Rattle.hashmap_tree.proofs.Writes.{same_written}
use Rattle.hashmap_tree.proofs.writing.write_label.Goals as goal

pub put_long-requires-clause-fits : goal.put_long-requires-clause-fits
put_long-requires-clause-fits c =
    let below : c.args.n < 2 ^ bit_length c.args.n = bit_length-below c.args.n in
    let P : ℕ → Type 0 = λ k. length c.args.bits < 2 ^ k in
    subst P (sym c.length_width-width.ensures.value) (omega (arith, below, c.requires.within))

pub put_same-requires-clause-fits : goal.put_same-requires-clause-fits
put_same-requires-clause-fits c =
    let below : c.args.n < 2 ^ bit_length c.args.n = bit_length-below c.args.n in
    let len : c.len-in-Same.result ≡ length c.args.bits = c.len-in-Same.ensures.value in
    let P : ℕ → Type 0 = λ k. c.len-in-Same.result < 2 ^ k in
    subst P (sym c.length_width-width.ensures.value) (omega (arith, below, len, c.requires.within))

pub returns-in-Same-clause-ok : goal.returns-in-Same-clause-ok
returns-in-Same-clause-ok c =
    same_written c.args.n c.length_width-width.result c.len-in-Same.result c.known_bit-first.result c.args.bits _ _
    (ap (λ (l : List ℕ). required_form c.args.n l) (sym c.again.ensures) ∙ sym c.choose-form.ensures ∙ c.in-Same.is) c.requires.within c.len-in-Same.ensures.bits c.known_bit-first.ensures
    c.length_width-width.ensures.value c.len-in-Same.ensures.value c.put_same.ensures.bits c.put_same.ensures.refs
