-- What a record of HmLabel is spelled by.
use Rattle.std.proofs.Common.{◌≡◌, ◌≤◌, ℕ, List, [], ◌∷◌, ◌++◌, length, replicate, Option, Some, None, Ok, refl, sym, ap, ◌∙◌, subst, inl, inr, arith}
use Rattle.std.specs.Prelude.{codes}
use Rattle.std.proofs.lemmas.List.{length-replicate}
use Rattle.cell_nodes.specs.declared.tree.Mode.TheVariants.{Whole}
use Rattle.bit_slice.specs.Bits.{bit_length, bit_number, spelled}
use Rattle.nat_solver.specs.Number as num
use Rattle.nat_solver.specs.Number.{within}
use Rattle.nat_solver.specs.declared.compare.Op.TheVariants.{Le}
use Rattle.hashmap_labels.specs.Labels.{IsForm}
use Rattle.hashmap_labels.specs.declared.forms.LabelForm.{LabelForm}
use Rattle.hashmap_labels.specs.declared.forms.LabelForm.TheVariants.{Short, Long, Same}
use Rattle.hashmap_tree.specs.Entries.{Slice}
use Rattle.typed_value.specs.Values.{Plain, Plains, record_of, no_vals, a_val}
use Rattle.core_form.specs.Core.{Word, CoreSchema, no_condition}
use Rattle.core_form.specs.Core as core
use Rattle.core_form.specs.Closed.{Closed, ClosedArgs}
use Rattle.core_form.specs.Closed as closed
use Rattle.core_form.specs.Closing.{bounded, of_number, of_both}
use Rattle.core_form.specs.Fit.{Fits}
use Rattle.core_form.specs.Scope.{Scope, unset, with_number, and_value, values_in, bind}
use Rattle.spelling.specs.Goals.{at_field, typed, typed_or, judged}
use Rattle.spelling.specs.Spells.{no_meanings, a_meaning, Fields, Spells, SpellsShape, Each}
use Rattle.declared_maps.specs.Lines.{hm_label, HasLines}
use Rattle.declared_maps.specs.LineCores.{items, plain, bit_of, unary_to, short_core, long_core, same_core}
use Rattle.declared_maps.specs.Records.{bit_in, bits_in, bits_by, label_bits, form_called, label_form}
use Rattle.declared_maps.proofs.Found.{some_same, label_named}
use Rattle.declared_maps.proofs.Opened.{at_shape, within_small, within_same, Opened, opened, chosen}
use Rattle.declared_maps.proofs.Numbers.{bit_type, unary_type, up_to_at, bool_of, bit_back, unary_back, list_back}

abbrev pub label_args : ℕ → ClosedArgs
label_args n = closed.nat_arg n closed.no_args

abbrev pub label_type : ℕ → Closed
label_type n = closed.named hm_label (label_args n)

-- of a label's record: its bits stand there in its form
pub record IsLabelled (n : ℕ) (w : Plain) (s : Slice) (outs : List ℕ) (after : Slice) : Type 0 where
  pub short : length (label_bits w) ≤ n
  pub out : outs ≡ length (label_bits w) ∷ []
  pub bits : IsForm (label_form w) (bit_length n) (label_bits w) s.bits after.bits
  pub refs : s.refs ≡ after.refs

-- by the bits and the form that the record has
told : (n : ℕ) (w : Plain) (s : Slice) (outs : List ℕ) (after : Slice) (f : LabelForm) (l : List ℕ)
    → f ≡ label_form w → l ≡ label_bits w → length l ≤ n → outs ≡ length l ∷ []
    → IsForm f (bit_length n) l s.bits after.bits → s.refs ≡ after.refs → IsLabelled n w s outs after
told n w s outs after f l form bits short out is refs =
    let L : List ℕ → Type 0 = λ z. length z ≤ n in
    let F : LabelForm → Type 0 = λ z. IsForm z (bit_length n) l s.bits after.bits in
    let B : List ℕ → Type 0 = λ z. IsForm (label_form w) (bit_length n) z s.bits after.bits in
    record {
      short = subst L bits short;
      out = out ∙ ap (λ (z : List ℕ). length z ∷ []) bits;
      bits = subst B bits (subst F form is);
      refs = refs;
    }

-- ---- scopes

-- the greatest length, and the length once it is known
abbrev pub label_scope : ℕ → Option ℕ → Scope
label_scope n o = record { numbers = Some n ∷ o ∷ []; types = None ∷ None ∷ [] }

label_bound : (n : ℕ) (bound : Scope) → Fits short_core.core (label_args n) bound → bound ≡ label_scope n None
label_bound n bound e = e.2 ∙ (λ i. with_number 0 ((sym e.1) i) (unset 2))

pub repeat_shape : (n m k : ℕ) → within m ≡ Some k
    → judged (typed_or (bounded (of_both closed.repeat (within m) (Some bit_type)))) ≡ Ok (typed (closed.repeat k bit_type))
repeat_shape n m k e = ap (λ o. judged (typed_or (bounded (of_both closed.repeat o (Some bit_type))))) e

pub up_to_shape : (n : ℕ) → n ≤ 1023
    → judged (typed_or (bounded (of_number closed.up_to (within n)))) ≡ Ok (typed (closed.up_to n))
up_to_shape n le = ap (λ o. judged (typed_or (bounded (of_number closed.up_to o)))) (within_small n (omega (arith, le)))

-- ---- the three forms

short_case : (schema : CoreSchema) → HasLines schema → (n : ℕ) (name : Word) (names : List Word) (vs : Plains)
    (s : Slice) (outs : List ℕ) (after : Slice)
    → Opened short_core name names (label_args n) (Each Whole schema vs) s outs after
    → IsLabelled n (record_of (Some name) names vs) s outs after
short_case schema has n name names no_vals s outs after o = absurd o.items
short_case schema has n name names (a_val v no_vals) s outs after o = absurd o.items.3.5
short_case schema has n name names (a_val v (a_val w (a_val x xs))) s outs after o = absurd o.items.3.5.3
short_case schema has n name names (a_val v (a_val w no_vals)) s outs after o =
    let f = o.items in
    let u = unary_back schema has v o.middle f.0 f.1 (at_shape schema v (at_field no_condition (unary_to 1) o.bound) unary_type o.middle f.0 f.1 refl f.2) in
    let scope : bind (1 ∷ []) f.0 o.bound ≡ label_scope n (Some u.count) = λ i. bind (1 ∷ []) (u.out i) (label_bound n o.bound o.fitting i) in
    let P : Scope → Type 0 = λ z. Fields (items (core.check (num.var 1) Le (num.var 0) 4 ∷ plain (codes "s") (core.repeat (num.var 1) bit_of) ∷ [])) (a_meaning (Spells Whole schema w) no_meanings) z f.1 o.end after in
    let g = subst P scope f.3 in
    let count : u.count ≡ g.0 = within_same u.count g.0 g.2 in
    let most : n ≡ g.1 = within_same n g.1 g.3 in
    let le = g.4 in
    let h = g.5 in
    let l = list_back schema has w g.0 f.1 h.0 h.1 (at_shape schema w (at_field no_condition (core.repeat (num.var 1) bit_of) (label_scope n (Some u.count))) (closed.repeat g.0 bit_type) f.1 h.0 h.1 (repeat_shape n u.count g.0 g.2) h.2) in
    let left : after ≡ h.1 = h.3.1 in
    let len : g.0 ≡ length (bits_in l.items) = sym l.are.long in
    let Q : Scope → Type 0 = λ z. values_in (num.var 1 ∷ []) z ≡ Some outs in
    let out : and_value (within u.count) (Some []) ≡ Some outs = subst Q h.3.0 o.outputs in
    let is : g.0 ∷ [] ≡ outs = some_same _ _ (ap (λ z. and_value z (Some [])) (sym g.2) ∙ out) in
    told n (record_of (Some name) names (a_val v (a_val w no_vals))) s outs after Short (bits_in l.items)
    (ap (λ z. form_called (Some z)) o.called) (ap (bits_by v) (sym l.value)) (omega (arith, len, most, le))
    (sym is ∙ ap (λ (z : ℕ). z ∷ []) len)
    (o.tag.bits ∙ ap (λ (x : List ℕ). 0 ∷ x) (u.bits ∙ (λ i. replicate ((count ∙ len) i) 1 ++ (0 ∷ l.are.bits i)) ∙ ap (λ (z : Slice). replicate (length (bits_in l.items)) 1 ++ (0 ∷ (bits_in l.items ++ z.bits))) (sym left)))
    (o.tag.refs ∙ u.refs ∙ l.are.refs ∙ ap (λ (z : Slice). z.refs) (sym left))

long_case : (schema : CoreSchema) → HasLines schema → (n : ℕ) → n ≤ 1023 → (name : Word) (names : List Word)
    (vs : Plains) (s : Slice) (outs : List ℕ) (after : Slice)
    → Opened long_core name names (label_args n) (Each Whole schema vs) s outs after
    → IsLabelled n (record_of (Some name) names vs) s outs after
long_case schema has n small name names no_vals s outs after o = absurd o.items
long_case schema has n small name names (a_val v no_vals) s outs after o = absurd o.items.3
long_case schema has n small name names (a_val v (a_val w (a_val x xs))) s outs after o = absurd o.items.3.3
long_case schema has n small name names (a_val v (a_val w no_vals)) s outs after o =
    let f = o.items in
    let bound = label_bound n o.bound o.fitting in
    let R : Scope → Type 0 = λ z. Spells Whole schema v (at_field no_condition (core.up_to (num.var 0)) z) o.middle f.0 f.1 in
    let u = up_to_at schema v n o.middle f.0 f.1 (at_shape schema v (at_field no_condition (core.up_to (num.var 0)) (label_scope n None)) (closed.up_to n) o.middle f.0 f.1 (up_to_shape n small) (subst R bound f.2)) in
    let scope : bind (1 ∷ []) f.0 o.bound ≡ label_scope n (Some u.size) = λ i. bind (1 ∷ []) (u.out i) (bound i) in
    let P : Scope → Type 0 = λ z. Fields (items (plain (codes "s") (core.repeat (num.var 1) bit_of) ∷ [])) (a_meaning (Spells Whole schema w) no_meanings) z f.1 o.end after in
    let h = subst P scope f.3 in
    let le = u.small in
    let fits : within u.size ≡ Some u.size = within_small u.size (omega (arith, le, small)) in
    let l = list_back schema has w u.size f.1 h.0 h.1 (at_shape schema w (at_field no_condition (core.repeat (num.var 1) bit_of) (label_scope n (Some u.size))) (closed.repeat u.size bit_type) f.1 h.0 h.1 (repeat_shape n u.size u.size fits) h.2) in
    let left : after ≡ h.1 = h.3.1 in
    let len : u.size ≡ length (bits_in l.items) = sym l.are.long in
    let Q : Scope → Type 0 = λ z. values_in (num.var 1 ∷ []) z ≡ Some outs in
    let out : and_value (within u.size) (Some []) ≡ Some outs = subst Q h.3.0 o.outputs in
    let is : u.size ∷ [] ≡ outs = some_same _ _ (ap (λ z. and_value z (Some [])) (sym fits) ∙ out) in
    told n (record_of (Some name) names (a_val v (a_val w no_vals))) s outs after Long (bits_in l.items)
    (ap (λ z. form_called (Some z)) o.called) (ap (bits_by v) (sym l.value)) (omega (arith, len, le))
    (sym is ∙ ap (λ (z : ℕ). z ∷ []) len)
    (o.tag.bits ∙ ap (λ (x : List ℕ). 1 ∷ (0 ∷ x)) (u.taken.bits ∙ (λ i. spelled (bit_length n) (len i) ++ l.are.bits i) ∙ ap (λ (z : Slice). spelled (bit_length n) (length (bits_in l.items)) ++ (bits_in l.items ++ z.bits)) (sym left)))
    (o.tag.refs ∙ u.taken.refs ∙ l.are.refs ∙ ap (λ (z : Slice). z.refs) (sym left))

same_case : (schema : CoreSchema) → HasLines schema → (n : ℕ) → n ≤ 1023 → (name : Word) (names : List Word)
    (vs : Plains) (s : Slice) (outs : List ℕ) (after : Slice)
    → Opened same_core name names (label_args n) (Each Whole schema vs) s outs after
    → IsLabelled n (record_of (Some name) names vs) s outs after
same_case schema has n small name names no_vals s outs after o = absurd o.items
same_case schema has n small name names (a_val v no_vals) s outs after o = absurd o.items.3
same_case schema has n small name names (a_val v (a_val w (a_val x xs))) s outs after o = absurd o.items.3.3
same_case schema has n small name names (a_val v (a_val w no_vals)) s outs after o =
    let f = o.items in
    let b = bit_back schema has v o.middle f.0 f.1 (at_shape schema v (at_field no_condition bit_of o.bound) bit_type o.middle f.0 f.1 refl f.2) in
    let scope : bind [] f.0 o.bound ≡ label_scope n None = label_bound n o.bound o.fitting in
    let P : Scope → Type 0 = λ z. Fields (items (core.field (codes "n") (Some 1) no_condition (core.up_to (num.var 0)) ∷ [])) (a_meaning (Spells Whole schema w) no_meanings) z f.1 o.end after in
    let h = subst P scope f.3 in
    let u = up_to_at schema w n f.1 h.0 h.1 (at_shape schema w (at_field no_condition (core.up_to (num.var 0)) (label_scope n None)) (closed.up_to n) f.1 h.0 h.1 (up_to_shape n small) h.2) in
    let left : after ≡ h.1 = h.3.1 in
    let le = u.small in
    let fits : within u.size ≡ Some u.size = within_small u.size (omega (arith, le, small)) in
    let x = bool_of (bit_in v) b.small in
    let l : List ℕ = replicate u.size (bit_in v) in
    let len : u.size ≡ length l = sym (length-replicate u.size (bit_in v)) in
    let ends : o.end ≡ label_scope n (Some u.size) = h.3.0 ∙ (λ i. bind (1 ∷ []) (u.out i) (label_scope n None)) in
    let Q : Scope → Type 0 = λ z. values_in (num.var 1 ∷ []) z ≡ Some outs in
    let out : and_value (within u.size) (Some []) ≡ Some outs = subst Q ends o.outputs in
    let is : u.size ∷ [] ≡ outs = some_same _ _ (ap (λ z. and_value z (Some [])) (sym fits) ∙ out) in
    told n (record_of (Some name) names (a_val v (a_val w no_vals))) s outs after Same l
    (ap (λ z. form_called (Some z)) o.called) (ap (bits_by v) (sym u.value)) (omega (arith, len, le))
    (sym is ∙ ap (λ (z : ℕ). z ∷ []) len) (
      x.0,
      (λ i. replicate (len i) ((sym x.1) i)),
      o.tag.bits ∙ ap (λ (y : List ℕ). 1 ∷ (1 ∷ y)) (b.bits ∙ (λ i. (sym x.1) i ∷ u.taken.bits i) ∙ (λ i. bit_number x.0 ∷ (spelled (bit_length n) (len i) ++ ((sym left) i).bits))),
    )
    (o.tag.refs ∙ b.refs ∙ u.taken.refs ∙ ap (λ (z : Slice). z.refs) (sym left))

pub label_back : (schema : CoreSchema) → HasLines schema → (n : ℕ) → n ≤ 1023 → (w : Plain) (s : Slice)
    (outs : List ℕ) (after : Slice) → SpellsShape Whole schema w (typed (label_type n)) s outs after
    → IsLabelled n w s outs after
label_back schema has n small (record_of None names vs) s outs after e = absurd e
label_back schema has n small (record_of (Some name) names vs) s outs after e = elim (chosen schema hm_label name names (label_args n) (Each Whole schema vs) s outs after e (short_core ∷ long_core ∷ same_core ∷ []) (label_named schema has)) [
  | inl k ↦ short_case schema has n name names vs s outs after (opened schema hm_label name names (label_args n) (Each Whole schema vs) s outs after e short_core k)
  | inr (inl k) ↦ long_case schema has n small name names vs s outs after (opened schema hm_label name names (label_args n) (Each Whole schema vs) s outs after e long_core k)
  | inr (inr (inl k)) ↦ same_case schema has n small name names vs s outs after (opened schema hm_label name names (label_args n) (Each Whole schema vs) s outs after e same_core k)
  | inr (inr (inr k)) ↦ absurd k
]
label_back schema has n small _ s outs after e = absurd e
