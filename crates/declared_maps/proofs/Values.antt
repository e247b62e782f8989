-- Records of the lines, and what spells them: bits, unary numbers, labels.
use Rattle.std.proofs.Common.{◌≡◌, ◌<◌, ◌≤◌, ℕ, zero, suc, ◌+◌, Bool, true, false, ◌||◌, List, [], ◌∷◌, ◌++◌, length, replicate, Some, None, refl, sym, ap, ◌∙◌, subst, inl, inr, arith, nat_lt}
use Rattle.std.specs.Prelude.{codes}
use Rattle.std.proofs.lemmas.Bool.{lt-ltb}
use Rattle.cell_nodes.specs.declared.tree.Mode.TheVariants.{Whole}
use Rattle.bit_slice.specs.Bits.{AreBits, bit_length, bit_number, spelled}
use Rattle.nat_solver.specs.Number.{sum_within}
use Rattle.hashmap_labels.specs.Labels.{IsForm}
use Rattle.hashmap_labels.specs.declared.forms.LabelForm.{LabelForm}
use Rattle.hashmap_labels.specs.declared.forms.LabelForm.TheVariants.{Short, Long, Same}
use Rattle.hashmap_tree.specs.Entries.{Slice}
use Rattle.typed_value.specs.Values.{Plain, Plains, number, record_of, list_of, no_vals, a_val}
use Rattle.core_form.specs.Core.{CoreSchema, no_condition}
use Rattle.core_form.specs.Closed as closed
use Rattle.core_form.specs.Scope.{Scope, unset, and_value}
use Rattle.nat_solver.specs.Number as num
use Rattle.spelling.specs.Slices.{took}
use Rattle.spelling.specs.Goals.{at_type, at_field, typed}
use Rattle.spelling.specs.Spells.{Repeats, Spells, Each}
use Rattle.declared_maps.specs.Lines.{bit, unary, hm_label, HasLines}
use Rattle.declared_maps.specs.LineCores.{bit_of, unary_to, bit_core, zero_core, succ_core, short_core, long_core, same_core}
use Rattle.declared_maps.specs.MapRecords.{bit_record, bit_records, unary_record, first_bit, label_record}
use Rattle.declared_maps.specs.Records.{bits_in, label_bits, label_form}
use Rattle.declared_maps.proofs.Found.{bit_named, unary_named, label_named}
use Rattle.declared_maps.proofs.Opened.{at_same, within_small, built}
use Rattle.declared_maps.proofs.Numbers.{bit_type, unary_type, one_bit}
use Rattle.declared_maps.proofs.LabelsBack.{label_args, label_type, label_scope, repeat_shape, up_to_shape}

abbrev pub one_val : Plain → Plains
one_val v = a_val v no_vals

abbrev pub two_vals : Plain → Plain → Plains
two_vals v w = a_val v (a_val w no_vals)

-- ---- Bit

bits_in_values : (l : List ℕ) → bits_in (bit_records l) ≡ l
bits_in_values [] = refl
bits_in_values (b ∷ l) = ap (λ (x : List ℕ). b ∷ x) (bits_in_values l)

bit_up : (schema : CoreSchema) → HasLines schema → (b : ℕ) → b < 2 → (s after : Slice) → s.bits ≡ b ∷ after.bits
    → s.refs ≡ after.refs → Spells Whole schema (bit_record b) (at_type bit_type) s [] after
bit_up schema has b small s after e r =
    built schema bit closed.no_args (bit_core ∷ []) bit_core (one_val (number false b)) s [] after (bit_named schema has) (inl refl) refl
    (record {
      called = refl;
      with_names = refl;
      bound = unset 0;
      middle = s;
      end = unset 0;
      fitting = refl;
      tag = record { bits = refl; refs = refl };
      items = (b ∷ [], after, (typed (closed.bits 1), refl, (refl, small, refl, record { bits = e ∙ ap (λ (l : List ℕ). l ++ after.bits) (sym (one_bit b small)); refs = r })), (refl, refl));
      outputs = refl;
    })

took_one : (s middle : Slice) (b : ℕ) → s.bits ≡ b ∷ middle.bits → took s middle ≡ true
took_one s middle b e =
    let l : length s.bits ≡ suc (length middle.bits) = ap length e in
    ap (λ z. z || nat_lt (length middle.refs) (length s.refs)) (lt-ltb (length middle.bits) (length s.bits) (omega (arith, l)))

bits_up : (schema : CoreSchema) → HasLines schema → (l : List ℕ) → AreBits l → (s after : Slice)
    → s.bits ≡ l ++ after.bits → s.refs ≡ after.refs
    → Repeats (Each Whole schema (bit_records l)) (length l) bit_type s after
bits_up schema has [] are s after e r = (refl, λ i. record { bits = (sym e) i; refs = (sym r) i })
bits_up schema has (b ∷ l) are s after e r =
    let middle : Slice = record { bits = l ++ after.bits; refs = s.refs } in
    let one : length (b ∷ l) ≡ length l + 1 = omega arith in
    (length l, [], middle, one, bit_up schema has b are.0 s middle e refl, took_one s middle b e, bits_up schema has l are.1 middle after refl r)

-- ---- Unary

succ_in : (k : ℕ) → k ≤ 1023 → and_value (sum_within (num.within k) (Some 1)) (Some []) ≡ Some (suc k ∷ [])
succ_in k le =
    let n : k + 1 ≡ suc k = omega arith in
    ap (λ o. and_value (sum_within o (Some 1)) (Some [])) (within_small k (omega (arith, le)))
    ∙ ap (λ o. and_value o (Some [])) (within_small (k + 1) (omega (arith, le))) ∙ (λ i. Some (n i ∷ []))

unary_up : (schema : CoreSchema) → HasLines schema → (k : ℕ) → k ≤ 1023 → (s after : Slice)
    → s.bits ≡ replicate k 1 ++ (0 ∷ after.bits) → s.refs ≡ after.refs
    → Spells Whole schema (unary_record k) (at_type unary_type) s (k ∷ []) after
unary_up schema has zero le s after e r =
    built schema unary closed.no_args (zero_core ∷ succ_core ∷ []) zero_core no_vals s (0 ∷ []) after (unary_named schema has) (inl refl) refl
    (record {
      called = refl;
      with_names = refl;
      bound = unset 0;
      middle = after;
      end = unset 0;
      fitting = refl;
      tag = record { bits = e; refs = r };
      items = (refl, refl);
      outputs = refl;
    })
unary_up schema has (suc k) le s after e r =
    let middle : Slice = record { bits = replicate k 1 ++ (0 ∷ after.bits); refs = s.refs } in
    let end : Scope = record { numbers = Some k ∷ []; types = None ∷ [] } in
    built schema unary closed.no_args (zero_core ∷ succ_core ∷ []) succ_core (one_val (unary_record k)) s (suc k ∷ []) after (unary_named schema has) (inr (inl refl)) refl
    (record {
      called = refl;
      with_names = refl;
      bound = unset 1;
      middle = middle;
      end = end;
      fitting = refl;
      tag = record { bits = e; refs = refl };
      items = (k ∷ [], after, at_same schema (unary_record k) (at_type unary_type) (at_field no_condition (unary_to 0) (unset 1)) middle (k ∷ []) after refl (unary_up schema has k (omega (arith, le)) middle after refl r), (refl, refl));
      outputs = succ_in k (omega (arith, le));
    })

-- ---- HmLabel

-- the label's record in a form
pub record LabelUp (schema : CoreSchema) (f : LabelForm) (n : ℕ) (l : List ℕ) (s after : Slice) : Type 0 where
  pub form : label_form (label_record f l) ≡ f
  pub bits : label_bits (label_record f l) ≡ l
  pub spelled : Spells Whole schema (label_record f l) (at_type (label_type n)) s (length l ∷ []) after

length_out : (k : ℕ) → k ≤ 1023 → and_value (num.within k) (Some []) ≡ Some (k ∷ [])
length_out k le = ap (λ o. and_value o (Some [])) (within_small k (omega (arith, le)))

short_up : (schema : CoreSchema) → HasLines schema → (n : ℕ) → n ≤ 1023 → (l : List ℕ) → AreBits l → length l ≤ n
    → (s after : Slice) → IsForm Short (bit_length n) l s.bits after.bits → s.refs ≡ after.refs
    → LabelUp schema Short n l s after
short_up schema has n small l are le s after e r =
    let m : ℕ = length l in
    let low : m ≤ 1023 = omega (arith, le, small) in
    let fits : num.within m ≡ Some m = within_small m (omega (arith, low)) in
    let middle : Slice = record { bits = replicate m 1 ++ (0 ∷ (l ++ after.bits)); refs = s.refs } in
    let next : Slice = record { bits = l ++ after.bits; refs = s.refs } in
    let vs : Plains = two_vals (unary_record m) (list_of (bit_records l)) in
    record {
      form = refl;
      bits = bits_in_values l;
      spelled = built schema hm_label (label_args n) (short_core ∷ long_core ∷ same_core ∷ []) short_core vs s (m ∷ []) after (label_named schema has) (inl refl) refl
          (record {
            called = refl;
            with_names = refl;
            bound = label_scope n None;
            middle = middle;
            end = label_scope n (Some m);
            fitting = (n, refl, refl);
            tag = record { bits = e; refs = refl };
            items = (
              m ∷ [],
              next,
              at_same schema (unary_record m) (at_type unary_type) (at_field no_condition (unary_to 1) (label_scope n None)) middle (m ∷ []) next refl (unary_up schema has m low middle next refl refl),
              (m, n, fits, within_small n (omega (arith, small)), le, ([], after, (typed (closed.repeat m bit_type), repeat_shape n m m fits, (refl, bits_up schema has l are next after refl r)), (refl, refl))),
            );
            outputs = length_out m low;
          });
    }

long_up : (schema : CoreSchema) → HasLines schema → (n : ℕ) → n ≤ 1023 → (l : List ℕ) → AreBits l → length l ≤ n
    → (s after : Slice) → IsForm Long (bit_length n) l s.bits after.bits → s.refs ≡ after.refs
    → LabelUp schema Long n l s after
long_up schema has n small l are le s after e r =
    let m : ℕ = length l in
    let low : m ≤ 1023 = omega (arith, le, small) in
    let fits : num.within m ≡ Some m = within_small m (omega (arith, low)) in
    let middle : Slice = record { bits = spelled (bit_length n) m ++ (l ++ after.bits); refs = s.refs } in
    let next : Slice = record { bits = l ++ after.bits; refs = s.refs } in
    let vs : Plains = two_vals (number false m) (list_of (bit_records l)) in
    record {
      form = refl;
      bits = bits_in_values l;
      spelled = built schema hm_label (label_args n) (short_core ∷ long_core ∷ same_core ∷ []) long_core vs s (m ∷ []) after (label_named schema has) (inr (inl refl)) refl
          (record {
            called = refl;
            with_names = refl;
            bound = label_scope n None;
            middle = middle;
            end = label_scope n (Some m);
            fitting = (n, refl, refl);
            tag = record { bits = e; refs = refl };
            items = (
              m ∷ [],
              next,
              (typed (closed.up_to n), up_to_shape n small, (refl, omega (arith, le), refl, record { bits = refl; refs = refl })),
              ([], after, (typed (closed.repeat m bit_type), repeat_shape n m m fits, (refl, bits_up schema has l are next after refl r)), (refl, refl)),
            );
            outputs = length_out m low;
          });
    }

bit_below : (b : Bool) → bit_number b < 2
bit_below true = omega arith
bit_below false = omega arith

-- the bit that a label of equal bits repeats
repeated : (l : List ℕ) (m b : ℕ) → length l ≡ suc m → l ≡ replicate (length l) b → b ≡ first_bit l
repeated [] m b e same = absurd (omega (arith, e))
repeated (x ∷ l) m b e same = sym (ap first_bit same)

same_spelled : (schema : CoreSchema) → HasLines schema → (n : ℕ) → n ≤ 1023 → (m : ℕ) → m ≤ n → (b : Bool)
    → (s after : Slice) → s.bits ≡ 1 ∷ (1 ∷ (bit_number b ∷ (spelled (bit_length n) m ++ after.bits))) → s.refs ≡ after.refs
    → Spells Whole schema (record_of (Some (codes "hml_same")) (codes "v" ∷ codes "n" ∷ []) (two_vals (bit_record (bit_number b)) (number false m))) (at_type (label_type n)) s (m ∷ []) after
same_spelled schema has n small m le b s after e r =
    let low : m ≤ 1023 = omega (arith, le, small) in
    let middle : Slice = record { bits = bit_number b ∷ (spelled (bit_length n) m ++ after.bits); refs = s.refs } in
    let next : Slice = record { bits = spelled (bit_length n) m ++ after.bits; refs = s.refs } in
    let vs : Plains = two_vals (bit_record (bit_number b)) (number false m) in
    built schema hm_label (label_args n) (short_core ∷ long_core ∷ same_core ∷ []) same_core vs s (m ∷ []) after (label_named schema has) (inr (inr (inl refl))) refl
    (record {
      called = refl;
      with_names = refl;
      bound = label_scope n None;
      middle = middle;
      end = label_scope n (Some m);
      fitting = (n, refl, refl);
      tag = record { bits = e; refs = refl };
      items = (
        [],
        next,
        at_same schema (bit_record (bit_number b)) (at_type bit_type) (at_field no_condition bit_of (label_scope n None)) middle [] next refl (bit_up schema has (bit_number b) (bit_below b) middle next refl refl),
        (m ∷ [], after, (typed (closed.up_to n), up_to_shape n small, (refl, omega (arith, le), refl, record { bits = refl; refs = r })), (refl, refl)),
      );
      outputs = length_out m low;
    })

same_up : (schema : CoreSchema) → HasLines schema → (n : ℕ) → n ≤ 1023 → (l : List ℕ) → length l ≤ n
    → ((m : ℕ) × (length l ≡ suc m)) → (s after : Slice) → IsForm Same (bit_length n) l s.bits after.bits → s.refs ≡ after.refs
    → LabelUp schema Same n l s after
same_up schema has n small l le some s after e r =
    let is : bit_number e.0 ≡ first_bit l = repeated l some.0 (bit_number e.0) some.1 e.1 in
    let P : ℕ → Type 0 = λ b. Spells Whole schema (record_of (Some (codes "hml_same")) (codes "v" ∷ codes "n" ∷ []) (two_vals (bit_record b) (number false (length l)))) (at_type (label_type n)) s (length l ∷ []) after in
    record {
      form = refl;
      bits = ap (replicate (length l)) (sym is) ∙ sym e.1;
      spelled = subst P is (same_spelled schema has n small (length l) le e.0 s after e.2 r);
    }

pub label_up : (schema : CoreSchema) → HasLines schema → (f : LabelForm) (n : ℕ) → n ≤ 1023 → (l : List ℕ) → AreBits l
    → length l ≤ n → (f ≡ Same → (m : ℕ) × (length l ≡ suc m)) → (s after : Slice)
    → IsForm f (bit_length n) l s.bits after.bits → s.refs ≡ after.refs → LabelUp schema f n l s after
label_up schema has Short n small l are le some s after e r = short_up schema has n small l are le s after e r
label_up schema has Long n small l are le some s after e r = long_up schema has n small l are le s after e r
label_up schema has Same n small l are le some s after e r = same_up schema has n small l le (some refl) s after e r
