-- What a record of Bit, of Unary and of a list of Bit is spelled by.
use Rattle.std.proofs.Common.{◌≡◌, ◌<◌, ◌^◌, ℕ, zero, suc, ◌+◌, Bool, true, false, cond, List, [], ◌∷◌, ◌++◌, length, replicate, Some, None, refl, sym, ap, ◌∙◌, subst, inl, inr, arith, nat_lt}
use Rattle.cell_nodes.specs.declared.tree.Mode.TheVariants.{Whole}
use Rattle.bit_slice.specs.Bits.{bit_length, bit_number, spelled}
use Rattle.nat_solver.specs.Number as num
use Rattle.nat_solver.specs.Number.{within, sum_within}
use Rattle.hashmap_tree.specs.Entries.{Slice, Then}
use Rattle.typed_value.specs.Values.{Plain, Plains, number, record_of, list_of, no_vals, a_val}
use Rattle.core_form.specs.Core.{Word, CoreSchema, no_condition}
use Rattle.core_form.specs.Core as core
use Rattle.core_form.specs.Closed as closed
use Rattle.core_form.specs.Scope.{Scope, and_value, values_in, bind}
use Rattle.spelling.specs.Slices.{only_bits}
use Rattle.spelling.specs.Goals.{at_type, at_field, typed}
use Rattle.spelling.specs.Spells.{Repeats, SpellsShape, Each}
use Rattle.declared_maps.specs.Lines.{bit, unary, HasLines}
use Rattle.declared_maps.specs.LineCores.{bit_core, zero_core, succ_core, unary_to}
use Rattle.declared_maps.specs.Records.{bit_in, bits_in}
use Rattle.declared_maps.proofs.Found.{some_same, bit_named, unary_named}
use Rattle.declared_maps.proofs.Opened.{at_shape, Opened, opened, chosen}

abbrev pub bit_type : closed.Closed
bit_type = closed.named bit closed.no_args

abbrev pub unary_type : closed.Closed
unary_type = closed.named unary closed.no_args

-- ---- numbers of basic types

pub record IsNumber (v : Plain) (width bound : ℕ) (s : Slice) (outs : List ℕ) (after : Slice) : Type 0 where
  pub negative : Bool
  pub size : ℕ
  pub value : v ≡ number negative size
  pub small : size < bound
  pub out : outs ≡ size ∷ []
  pub taken : Then s (only_bits (spelled width size)) after

pub bit_number_at : (schema : CoreSchema) (v : Plain) (s : Slice) (outs : List ℕ) (after : Slice)
    → SpellsShape Whole schema v (typed (closed.bits 1)) s outs after → IsNumber v 1 (2 ^ 1) s outs after
bit_number_at schema (number negative size) s outs after e =
    record { negative = negative; size = size; value = refl; small = e.1; out = e.2; taken = e.3 }
bit_number_at schema (record_of None names vs) s outs after e = absurd e
bit_number_at schema (record_of (Some x) names vs) s outs after e = absurd e
bit_number_at schema _ s outs after e = absurd e

pub up_to_at : (schema : CoreSchema) (v : Plain) (n : ℕ) (s : Slice) (outs : List ℕ) (after : Slice)
    → SpellsShape Whole schema v (typed (closed.up_to n)) s outs after → IsNumber v (bit_length n) (n + 1) s outs after
up_to_at schema (number negative size) n s outs after e =
    record { negative = negative; size = size; value = refl; small = e.1; out = e.2; taken = e.3 }
up_to_at schema (record_of None names vs) n s outs after e = absurd e
up_to_at schema (record_of (Some x) names vs) n s outs after e = absurd e
up_to_at schema _ n s outs after e = absurd e

-- ---- Bit

pub one_bit : (b : ℕ) → b < 2 → spelled 1 b ≡ b ∷ []
unfolding spelled
one_bit zero h = refl
one_bit (suc zero) h = refl
one_bit (suc (suc b)) h = absurd (omega (arith, h))

pub bool_of : (b : ℕ) → b < 2 → (x : Bool) × (bit_number x ≡ b)
bool_of zero h = (false, refl)
bool_of (suc zero) h = (true, refl)
bool_of (suc (suc b)) h = absurd (omega (arith, h))

pub record IsBit (w : Plain) (s : Slice) (outs : List ℕ) (after : Slice) : Type 0 where
  pub small : bit_in w < 2
  pub none : outs ≡ []
  pub bits : s.bits ≡ bit_in w ∷ after.bits
  pub refs : s.refs ≡ after.refs

bit_case : (schema : CoreSchema) (name : Word) (names : List Word) (vs : Plains) (s : Slice) (outs : List ℕ)
    (after : Slice) → Opened bit_core name names closed.no_args (Each Whole schema vs) s outs after
    → IsBit (record_of (Some name) names vs) s outs after
bit_case schema name names no_vals s outs after o = absurd o.items
bit_case schema name names (a_val v (a_val u us)) s outs after o = absurd o.items.3
bit_case schema name names (a_val v no_vals) s outs after o =
    let f = o.items in
    let b = bit_number_at schema v o.middle f.0 f.1 (at_shape schema v (at_field no_condition (core.bits (num.lit 1)) o.bound) (closed.bits 1) o.middle f.0 f.1 refl f.2) in
    let is : bit_in (record_of (Some name) names (a_val v no_vals)) ≡ b.size = ap (λ z. bit_in (record_of (Some name) names (a_val z no_vals))) b.value in
    let left : after ≡ f.1 = f.3.1 in
    let P : ℕ → Type 0 = λ z. z < 2 in
    record {
      small = subst P (sym is) b.small;
      none = sym (some_same _ _ o.outputs);
      bits = o.tag.bits ∙ b.taken.bits ∙ ap (λ (l : List ℕ). l ++ f.1.bits) (one_bit b.size b.small) ∙ (λ i. (sym is) i ∷ ((sym left) i).bits);
      refs = o.tag.refs ∙ b.taken.refs ∙ ap (λ (z : Slice). z.refs) (sym left);
    }

pub bit_back : (schema : CoreSchema) → HasLines schema → (w : Plain) (s : Slice) (outs : List ℕ) (after : Slice)
    → SpellsShape Whole schema w (typed bit_type) s outs after → IsBit w s outs after
bit_back schema has (record_of None names vs) s outs after e = absurd e
bit_back schema has (record_of (Some name) names vs) s outs after e = elim (chosen schema bit name names closed.no_args (Each Whole schema vs) s outs after e (bit_core ∷ []) (bit_named schema has)) [
  | inl k ↦ bit_case schema name names vs s outs after (opened schema bit name names closed.no_args (Each Whole schema vs) s outs after e bit_core k)
  | inr k ↦ absurd k
]
bit_back schema has _ s outs after e = absurd e

-- ---- Unary

pub record IsUnary (w : Plain) (s : Slice) (outs : List ℕ) (after : Slice) : Type 0 where
  pub count : ℕ
  pub out : outs ≡ count ∷ []
  pub bits : s.bits ≡ replicate count 1 ++ (0 ∷ after.bits)
  pub refs : s.refs ≡ after.refs

-- n + 1 as an output
succ_out : (k : ℕ) (outs : List ℕ) → and_value (sum_within (within k) (Some 1)) (Some []) ≡ Some outs
    → outs ≡ suc k ∷ []
succ_out k outs e = first (nat_lt k (2 ^ 32)) e
  where
    second : (b : Bool) → and_value (cond b (Some (k + 1)) None) (Some []) ≡ Some outs → outs ≡ suc k ∷ []
    second true e = let n : k + 1 ≡ suc k = omega arith in sym (some_same _ _ e) ∙ (λ i. n i ∷ [])
    second false e = cc

    first : (b : Bool) → and_value (sum_within (cond b (Some k) None) (Some 1)) (Some []) ≡ Some outs → outs ≡ suc k ∷ []
    first true e = second (nat_lt (k + 1) (2 ^ 32)) e
    first false e = cc

zero_case : (schema : CoreSchema) (name : Word) (names : List Word) (vs : Plains) (s : Slice) (outs : List ℕ)
    (after : Slice) → Opened zero_core name names closed.no_args (Each Whole schema vs) s outs after
    → IsUnary (record_of (Some name) names vs) s outs after
zero_case schema name names (a_val v vs) s outs after o = absurd o.items
zero_case schema name names no_vals s outs after o =
    let left : after ≡ o.middle = o.items.1 in
    record {
      count = 0;
      out = sym (some_same _ _ o.outputs);
      bits = o.tag.bits ∙ ap (λ (z : Slice). 0 ∷ z.bits) (sym left);
      refs = o.tag.refs ∙ ap (λ (z : Slice). z.refs) (sym left);
    }

succ_case : (schema : CoreSchema) (name : Word) (names : List Word) (v : Plain) (vs : Plains) (s : Slice)
    (outs : List ℕ) (after : Slice)
    → ((s : Slice) (outs : List ℕ) (after : Slice) → SpellsShape Whole schema v (typed unary_type) s outs after → IsUnary v s outs after)
    → Opened succ_core name names closed.no_args (Each Whole schema (a_val v vs)) s outs after
    → IsUnary (record_of (Some name) names (a_val v vs)) s outs after
succ_case schema name names v (a_val u us) s outs after ih o = absurd o.items.3
succ_case schema name names v no_vals s outs after ih o =
    let f = o.items in
    let u = ih o.middle f.0 f.1 (at_shape schema v (at_field no_condition (unary_to 0) o.bound) unary_type o.middle f.0 f.1 refl f.2) in
    let left : after ≡ f.1 = f.3.1 in
    let ends : o.end ≡ record { numbers = Some u.count ∷ []; types = None ∷ [] } = f.3.0 ∙ (λ i. bind (0 ∷ []) (u.out i) (o.fitting i)) in
    let Q : Scope → Type 0 = λ z. values_in (num.plus (num.var 0) (num.lit 1) ∷ []) z ≡ Some outs in
    record {
      count = suc u.count;
      out = succ_out u.count outs (subst Q ends o.outputs);
      bits = o.tag.bits ∙ ap (λ (l : List ℕ). 1 ∷ l) (u.bits ∙ ap (λ (z : Slice). replicate u.count 1 ++ (0 ∷ z.bits)) (sym left));
      refs = o.tag.refs ∙ u.refs ∙ ap (λ (z : Slice). z.refs) (sym left);
    }

no_field : (schema : CoreSchema) (name : Word) (names : List Word) (s : Slice) (outs : List ℕ) (after : Slice)
    → Opened succ_core name names closed.no_args (Each Whole schema no_vals) s outs after → ⊥
no_field schema name names s outs after o = absurd o.items

pub unary_back : (schema : CoreSchema) → HasLines schema → (w : Plain) (s : Slice) (outs : List ℕ) (after : Slice)
    → SpellsShape Whole schema w (typed unary_type) s outs after → IsUnary w s outs after
unary_back schema has (record_of None names vs) s outs after e = absurd e
unary_back schema has (record_of (Some name) names no_vals) s outs after e = elim (chosen schema unary name names closed.no_args (Each Whole schema no_vals) s outs after e (zero_core ∷ succ_core ∷ []) (unary_named schema has)) [
  | inl k ↦ zero_case schema name names no_vals s outs after (opened schema unary name names closed.no_args (Each Whole schema no_vals) s outs after e zero_core k)
  | inr (inl k) ↦ absurd (no_field schema name names s outs after (opened schema unary name names closed.no_args (Each Whole schema no_vals) s outs after e succ_core k))
  | inr (inr k) ↦ absurd k
]
unary_back schema has (record_of (Some name) names (a_val v vs)) s outs after e = elim (chosen schema unary name names closed.no_args (Each Whole schema (a_val v vs)) s outs after e (zero_core ∷ succ_core ∷ []) (unary_named schema has)) [
  | inl k ↦ zero_case schema name names (a_val v vs) s outs after (opened schema unary name names closed.no_args (Each Whole schema (a_val v vs)) s outs after e zero_core k)
  | inr (inl k) ↦ succ_case schema name names v vs s outs after (unary_back schema has v) (opened schema unary name names closed.no_args (Each Whole schema (a_val v vs)) s outs after e succ_core k)
  | inr (inr k) ↦ absurd k
]
unary_back schema has _ s outs after e = absurd e

-- ---- n * Bit

pub record AreBitsOf (vs : Plains) (n : ℕ) (s after : Slice) : Type 0 where
  pub long : length (bits_in vs) ≡ n
  pub bits : s.bits ≡ bits_in vs ++ after.bits
  pub refs : s.refs ≡ after.refs

bits_back : (schema : CoreSchema) → HasLines schema → (vs : Plains) (n : ℕ) (s after : Slice)
    → Repeats (Each Whole schema vs) n bit_type s after → AreBitsOf vs n s after
bits_back schema has no_vals n s after e =
    record { long = sym e.0; bits = ap (λ (z : Slice). z.bits) (sym e.1); refs = ap (λ (z : Slice). z.refs) (sym e.1) }
bits_back schema has (a_val v vs) n s after e =
    let b = bit_back schema has v s e.1 e.2 (at_shape schema v (at_type bit_type) bit_type s e.1 e.2 refl e.4) in
    let r = bits_back schema has vs e.0 e.2 after e.6 in
    record {
      long = let l = r.long in let m = e.3 in omega (arith, l, m);
      bits = b.bits ∙ ap (λ (l : List ℕ). bit_in v ∷ l) r.bits;
      refs = b.refs ∙ r.refs;
    }

pub record IsListOf (w : Plain) (n : ℕ) (s : Slice) (outs : List ℕ) (after : Slice) : Type 0 where
  pub items : Plains
  pub value : w ≡ list_of items
  pub none : outs ≡ []
  pub are : AreBitsOf items n s after

pub list_back : (schema : CoreSchema) → HasLines schema → (w : Plain) (n : ℕ) (s : Slice) (outs : List ℕ)
    (after : Slice) → SpellsShape Whole schema w (typed (closed.repeat n bit_type)) s outs after
    → IsListOf w n s outs after
list_back schema has (list_of vs) n s outs after e =
    record { items = vs; value = refl; none = e.0; are = bits_back schema has vs n s after e.1 }
list_back schema has (record_of None names vs) n s outs after e = absurd e
list_back schema has (record_of (Some x) names vs) n s outs after e = absurd e
list_back schema has _ n s outs after e = absurd e
