use Rattle.std.proofs.Common.{◌∙◌, ◌++◌, ◌∷◌, [], List, ℕ, arith, ap, sym}
use Rattle.std.proofs.lemmas.List.FromFn.{map-range_with_len_more}
use Rattle.bit_slice.specs.Bits.{hex_digit}
use Rattle.bit_slice.specs.HexLists.{completed_digit}
use Rattle.bit_slice.specs.HexTexts.{hex_text-whole, hex_text-part}
use Rattle.bit_slice.proofs.slice.BitSlice.hex_text.Goals as goal

pub digits-preserved : goal.digits-preserved
digits-preserved c =
    c.in_ok-push_byte.ensures
    ∙ rw (c.digits.invariant, c.hex_digit.ensures, c.completed_digit.ensures.number)
    (sym (map-range_with_len_more (λ k. hex_digit (completed_digit c.args.self.now k)) 0 c.digits.i c.digits.i (omega arith)))

pub returns-then-len-eq0 : goal.returns-then-len-eq0
returns-then-len-eq0 c = c.digits.invariant ∙ hex_text-whole c.args.self.now c.digits.i (omega arith) (omega arith)

pub returns : goal.returns
returns c =
    c.in_ok-push_byte-2.ensures ∙ ap (λ (t : List ℕ). t ++ 95 ∷ []) c.digits.invariant
    ∙ hex_text-part c.args.self.now c.digits.i (λ e. absurd (omega arith)) (omega arith)
