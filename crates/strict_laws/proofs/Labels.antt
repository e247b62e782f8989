-- A label in its required form is no longer than in any other.
use Rattle.std.proofs.Common.{◌≡◌, ℕ, ◌<◌, ◌≤◌, List, length, arith}
use Rattle.bit_slice.specs.Bits.{AreBits, bit_length}
use Rattle.hashmap_labels.specs.Labels.{IsLabel, required_form}
use Rattle.hashmap_labels.specs.SpellingLaws.{has_spelling, has_size, is_best, label_bits, size}
use Rattle.hashmap_labels.specs.declared.forms.LabelForm.{LabelForm}
use Rattle.hashmap_labels.specs.declared.forms.LabelForm.TheVariants.{Short, Long, Same}
use Rattle.hashmap_labels.specs.declared.forms.Forms.TheVariants.{Required, Every}

-- the label of the same bits in its required form, before an end that is no longer than what followed the label
pub record Relabelled (n : ℕ) (l s rest end : List ℕ) : Type 0 where
  pub start : List ℕ
  pub label : IsLabel Required n l start end
  pub bits : AreBits start
  pub short : length start ≤ length s
  pub takes : length rest < length s
  pub takes_now : length end < length start

size_some : (f : LabelForm) (k len : ℕ) → 0 < size f k len
size_some Short k len = omega arith
size_some Long k len = omega arith
size_some Same k len = omega arith

pub relabel : (n : ℕ) (l s rest end : List ℕ) → IsLabel Every n l s rest → AreBits s → AreBits end
    → length end ≤ length rest → Relabelled n l s rest end
relabel n l s rest end (form, low, any, is) held bits short =
    let own = (label_bits Every n l s rest (form, low, any, is)).0 held in
    let new = has_spelling n l end own.0 low in
    let best = (is_best n form l s rest low is).0 in
    let long = has_size form (bit_length n) l s rest is in
    let long_now = has_size new.1.0 (bit_length n) l new.0 end new.1.3 in
    let required : new.1.0 ≡ required_form n l = new.1.2 in
    let some = size_some form (bit_length n) (length l) in
    let some_now = size_some new.1.0 (bit_length n) (length l) in
    let best_now : size new.1.0 (bit_length n) (length l) ≤ size form (bit_length n) (length l) = rw required best in
    record {
      start = new.0;
      label = new.1;
      bits = (label_bits Required n l new.0 end new.1).1 (own.0, bits);
      short = omega (arith, best_now, long, long_now, short);
      takes = omega (arith, long, some);
      takes_now = omega (arith, long_now, some_now);
    }

-- the bits of a label, and what follows it
pub label_parts : (n : ℕ) (l s rest : List ℕ) → IsLabel Every n l s rest → AreBits s → AreBits l × AreBits rest
label_parts n l s rest label held = (label_bits Every n l s rest label).0 held
