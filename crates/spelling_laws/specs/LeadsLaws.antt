-- Where a constructor spells, one of its leads begins the bits.
use Rattle.std.proofs.Common.{◌≡◌, ℕ, zero, suc, Bool, true, false, cond, ◌||◌, List, [], ◌∷◌, ◌++◌, length, Option, Some, None, Result, Ok, Err, slice_get, refl, sym, ap, ◌∙◌, subst, ◌⊎◌, inl, inr, nat_lt, nat_le, nat_eq}
use Rattle.std.specs.Prelude.{bytes_eq}
use Rattle.std.specs.List.{flat_map, list_any}
use Rattle.std.proofs.lemmas.Bool.{eq-eqb}
use Rattle.std.proofs.lemmas.Slice.Eq.{bytes_eq-Decides}
use Rattle.bit_slice.specs.Bits.{bit_length}
use Rattle.hashmap_labels.specs.Labels.{IsForm, IsLabel}
use Rattle.hashmap_labels.specs.declared.forms.Forms.{Forms}
use Rattle.hashmap_labels.specs.declared.forms.LabelForm.{LabelForm}
use Rattle.hashmap_labels.specs.declared.forms.LabelForm.TheVariants.{Short, Long, Same}
use Rattle.cell_nodes.specs.declared.tree.Mode.{Mode}
use Rattle.hashmap_tree.specs.Entries.{Slice, Entries}
use Rattle.hashmap_tree.specs.Dict.{forms_of}
use Rattle.hashmap_tree.specs.First.{Fork, forked}
use Rattle.typed_value.specs.Values.{Plain, Plains, number, bit_string, record_of, absent, list_of, ref_to, unknown, map_of, raw, rest, no_vals, a_val, no_pairs, a_pair}
use Rattle.core_form.specs.Core.{Word, Ty, Items, Declaration, CoreSchema, Condition, check, solve, field, no_items, an_item, sets}
use Rattle.core_form.specs.Core as core
use Rattle.core_form.specs.Closed.{Closed, ClosedArgs, nodes}
use Rattle.core_form.specs.Closed as closed
use Rattle.core_form.specs.Closing.{bounded, of_args, of_both, closing, closing_args, big_type}
use Rattle.core_form.specs.Scope.{Scope, value_in, with_number}
use Rattle.schema_leads.specs.Leads.{begins, Leads, First, anything, fixed, declared, hashmap_leads, hashmap_e_leads, first_of_type, first_of, with_lead, with_leads, at_most_64, any_bits, by_first, by_tag, of_declaration, of_type_named, together, type_count, rounds, leads, some_begins}
use Rattle.schema_leads.specs.FirstFields.{IsDeclared, Chain}
use Rattle.spelling.specs.Goals.{Shape, typed, fields_here, typed_or, laid, judged}
use Rattle.spelling.specs.Spells.{SpellsShape, SpellsDeclared, Each, Fields, no_entries, some_entries}
use Rattle.spelling.specs.Acceptable.{IsAcceptable}
use Rattle.spelling.specs.declared.Cause.{Cause}
use Rattle.spelling.specs.declared.Cause.TheVariants.{Width}
use Rattle.spelling_laws.specs.StepLaws.{both_on}

abbrev Has : Leads → List ℕ → Type 0
Has ls bits = some_begins ls bits ≡ true

one_of : (a b : Bool) → (a || b) ≡ true → (a ≡ true) ⊎ (b ≡ true)
one_of true b e = inl refl
one_of false b e = inr e

or_left : (a b : Bool) → a ≡ true → (a || b) ≡ true
or_left true b e = refl
or_left false b e = cc

or_right : (a b : Bool) → b ≡ true → (a || b) ≡ true
or_right true b e = refl
or_right false b e = e

pub begins_first : (tag bits : List ℕ) → begins tag (tag ++ bits) ≡ true
begins_first [] bits = refl
begins_first (b ∷ tag) bits = both_on (nat_eq b b) (begins tag (tag ++ bits)) (eq-eqb b b refl) (begins_first tag bits)

-- ---- sets of leads

has_left : (ls ks : Leads) (bits : List ℕ) → Has ls bits → Has (ls ++ ks) bits
has_left [] ks bits h = cc
has_left (l ∷ ls) ks bits h = elim (one_of (begins l bits) (some_begins ls bits) h) [
  | inl e ↦ or_left (begins l bits) (some_begins (ls ++ ks) bits) e
  | inr e ↦ or_right (begins l bits) (some_begins (ls ++ ks) bits) (has_left ls ks bits e)
]

has_right : (ls ks : Leads) (bits : List ℕ) → Has ks bits → Has (ls ++ ks) bits
has_right [] ks bits h = h
has_right (l ∷ ls) ks bits h = or_right (begins l bits) (some_begins (ls ++ ks) bits) (has_right ls ks bits h)

-- a lead that stands in the list begins the bits with it
has_member : (ls : Leads) (l bits : List ℕ) → list_any (bytes_eq l) ls ≡ true → begins l bits ≡ true → Has ls bits
has_member [] l bits m h = cc
has_member (k ∷ ls) l bits m h = elim (one_of (bytes_eq l k) (list_any (bytes_eq l) ls) m) [
  | inl e ↦
      let same : l ≡ k = (bytes_eq-Decides l k).0 e in
      or_left (begins k bits) (some_begins ls bits) (ap (λ z. begins z bits) (sym same) ∙ h)
  | inr e ↦ or_right (begins k bits) (some_begins ls bits) (has_member ls l bits e h)
]

with_kept : (ls : Leads) (l bits : List ℕ) → Has ls bits → Has (with_lead ls l) bits
with_kept ls l bits h = go (list_any (bytes_eq l) ls)
  where
    go : (b : Bool) → Has (cond b ls (ls ++ l ∷ [])) bits
    go true = h
    go false = has_left ls (l ∷ []) bits h

with_new : (ls : Leads) (l bits : List ℕ) → begins l bits ≡ true → Has (with_lead ls l) bits
with_new ls l bits h = go (list_any (bytes_eq l) ls) refl
  where
    go : (b : Bool) → list_any (bytes_eq l) ls ≡ b → Has (cond b ls (ls ++ l ∷ [])) bits
    go true m = has_member ls l bits m h
    go false m = has_right ls (l ∷ []) bits (or_left (begins l bits) false h)

with_all_kept : (ls ks : Leads) (bits : List ℕ) → Has ls bits → Has (with_leads ls ks) bits
with_all_kept ls [] bits h = h
with_all_kept ls (k ∷ ks) bits h = with_all_kept (with_lead ls k) ks bits (with_kept ls k bits h)

with_all_new : (ls ks : Leads) (bits : List ℕ) → Has ks bits → Has (with_leads ls ks) bits
with_all_new ls [] bits h = cc
with_all_new ls (k ∷ ks) bits h = elim (one_of (begins k bits) (some_begins ks bits) h) [
  | inl e ↦ with_all_kept (with_lead ls k) ks bits (with_new ls k bits e)
  | inr e ↦ with_all_new (with_lead ls k) ks bits e
]

has_64 : (ls : Leads) (bits : List ℕ) → Has ls bits → Has (at_most_64 ls) bits
has_64 ls bits h = go (nat_lt 64 (length ls))
  where
    go : (b : Bool) → Has (cond b any_bits ls) bits
    go true = refl
    go false = h

-- ---- constructors of a type

some_one : {A : Type 0} (x y : A) → (◌≡◌ {A = Option A} (Some x) (Some y)) → y ≡ x
some_one x y e = cc

has_of_type : (L : Word → Leads) (cs : CoreSchema) (x : Word) (at : ℕ) (c : Declaration) (bits : List ℕ)
    → slice_get cs at ≡ Some c → c.of_type ≡ x → Has (of_declaration L c) bits
    → Has (flat_map (of_declaration L) (of_type_named cs x)) bits
has_of_type L [] x at c bits there kind h = cc
has_of_type L (b ∷ cs) x zero c bits there kind h =
    let same : c ≡ b = some_one b c there in
    let k : b.of_type ≡ x = ap (λ (z : Declaration). z.of_type) (sym same) ∙ kind in
    let P : Declaration → Type 0 = λ z. Has (of_declaration L z) bits in
    kept (bytes_eq b.of_type x) ((bytes_eq-Decides b.of_type x).1 k) (subst P same h)
  where
    kept : (t : Bool) → t ≡ true → Has (of_declaration L b) bits
        → Has (flat_map (of_declaration L) (cond t (b ∷ of_type_named cs x) (of_type_named cs x))) bits
    kept true e h = has_left (of_declaration L b) (flat_map (of_declaration L) (of_type_named cs x)) bits h
    kept false e h = cc
has_of_type L (b ∷ cs) x (suc at) c bits there kind h =
    more (bytes_eq b.of_type x) (has_of_type L cs x at c bits there kind h)
  where
    more : (t : Bool) → Has (flat_map (of_declaration L) (of_type_named cs x)) bits
        → Has (flat_map (of_declaration L) (cond t (b ∷ of_type_named cs x) (of_type_named cs x))) bits
    more true h = has_right (of_declaration L b) (flat_map (of_declaration L) (of_type_named cs x)) bits h
    more false h = h

has_together : (L : Word → Leads) (s : CoreSchema) (x : Word) (at : ℕ) (c : Declaration) (bits : List ℕ)
    → slice_get s at ≡ Some c → c.of_type ≡ x → Has (of_declaration L c) bits → Has (together L s x) bits
unfolding together
has_together L s x at c bits there kind h =
    with_all_new [] (flat_map (of_declaration L) (of_type_named s x)) bits (has_of_type L s x at c bits there kind h)

pub is_declared : (s : CoreSchema) (at : ℕ) (c : Declaration) → slice_get s at ≡ Some c → IsDeclared s c.of_type
is_declared [] at c there = cc
is_declared (b ∷ cs) zero c there =
    let same : c ≡ b = some_one b c there in
    or_left (bytes_eq c.of_type b.of_type) _ ((bytes_eq-Decides c.of_type b.of_type).1 (ap (λ (z : Declaration). z.of_type) same))
is_declared (b ∷ cs) (suc at) c there = or_right (bytes_eq c.of_type b.of_type) _ (is_declared cs at c there)

-- ---- a first field of a declared type is spelled by a constructor of it

abbrev FirstSpelled : Mode → CoreSchema → Word → Slice → Type 0
FirstSpelled mode schema x s =
    (args : ClosedArgs) × (name : Word) × (names : List Word) × (ws : Plains) × (outs : List ℕ) × (middle : Slice)
    × SpellsDeclared schema name names (Each mode schema ws) (typed (closed.named x args)) s outs middle

of_record : (mode : Mode) (schema : CoreSchema) (v : Plain) (x : Word) (args : ClosedArgs) (s : Slice) (outs : List ℕ)
    (middle : Slice) → SpellsShape mode schema v (typed (closed.named x args)) s outs middle
    → FirstSpelled mode schema x s
of_record mode schema (number negative size) x args s outs middle e = absurd e
of_record mode schema (bit_string bits) x args s outs middle e = absurd e
of_record mode schema (record_of (Some name) names vs) x args s outs middle e = (args, name, names, vs, outs, middle, e)
of_record mode schema (record_of None names vs) x args s outs middle e = absurd e
of_record mode schema absent x args s outs middle e = absurd e
of_record mode schema (list_of vs) x args s outs middle e = absurd e
of_record mode schema (ref_to _ v) x args s outs middle e = absurd e
of_record mode schema (unknown h) x args s outs middle e = absurd e
of_record mode schema (map_of _ ps us) x args s outs middle e = absurd e
of_record mode schema (raw c) x args s outs middle e = absurd e
of_record mode schema (rest r) x args s outs middle e = absurd e

closed_named : (x : Word) (o : Option ClosedArgs) (c : Shape) → judged (typed_or (bounded (of_args x o))) ≡ Ok c
    → (args : ClosedArgs) × (c ≡ typed (closed.named x args))
closed_named x None c e = cc
closed_named x (Some args) c e = small (nat_lt 4096 (nodes (closed.named x args))) e
  where
    small : (b : Bool) → judged (typed_or (cond b (Err big_type) (Ok (closed.named x args)))) ≡ Ok c
        → (args : ClosedArgs) × (c ≡ typed (closed.named x args))
    small true e = cc
    small false e = let same : c ≡ typed (closed.named x args) = cc in (args, same)

-- a record in place is spelled by its items
items_of : (mode : Mode) (schema : CoreSchema) (v : Plain) (is : Items) (scope : Scope) (c : Shape) (s : Slice)
    (outs : List ℕ) (middle : Slice) → (◌≡◌ {A = Result Shape Cause} (Ok (fields_here is scope)) (Ok c))
    → SpellsShape mode schema v c s outs middle
    → (vs : Plains) × (end : Scope) × Fields is (Each mode schema vs) scope s end middle
items_of mode schema v is scope c s outs middle e m =
    let same : c ≡ fields_here is scope = cc in
    let P : Shape → Type 0 = λ z. SpellsShape mode schema v z s outs middle in
    go v (subst P same m)
  where
    go : (v : Plain) → SpellsShape mode schema v (fields_here is scope) s outs middle
        → (vs : Plains) × (end : Scope) × Fields is (Each mode schema vs) scope s end middle
    go (number negative size) m = absurd m
    go (bit_string bits) m = absurd m
    go (record_of (Some name) names vs) m = absurd m
    go (record_of None names vs) m = (vs, m.2, m.3)
    go absent m = absurd m
    go (list_of vs) m = absurd m
    go (ref_to _ v) m = absurd m
    go (unknown h) m = absurd m
    go (map_of _ ps us) m = absurd m
    go (raw c) m = absurd m
    go (rest r) m = absurd m

mutual
  first_spelled : (mode : Mode) (schema : CoreSchema) (is : Items) (x : Word) → first_of is ≡ declared x → (vs : Plains)
      (scope : Scope) (s : Slice) (end : Scope) (after : Slice) → Fields is (Each mode schema vs) scope s end after
      → FirstSpelled mode schema x s
  first_spelled mode schema no_items x e vs scope s end after f = cc
  first_spelled mode schema (an_item (check a op b i) is) x e vs scope s end after f =
      first_spelled mode schema is x e vs scope s end after f.5
  first_spelled mode schema (an_item (solve v a b i) is) x e vs scope s end after f =
      first_spelled mode schema is x e vs (with_number v f.0 scope) s end after f.2
  first_spelled mode schema (an_item (field y slot (Some c) t) is) x e vs scope s end after f = cc
  first_spelled mode schema (an_item (field y slot None t) is) x e no_vals scope s end after f = absurd f
  first_spelled mode schema (an_item (field y slot None t) is) x e (a_val v vs) scope s end after f =
      type_spelled mode schema t x e v scope f.2.0 s f.0 f.1 f.2.1 f.2.2

  type_spelled : (mode : Mode) (schema : CoreSchema) (t : Ty) (x : Word) → first_of_type t ≡ declared x → (v : Plain)
      (scope : Scope) (c : Shape) (s : Slice) (outs : List ℕ) (middle : Slice) → judged (laid t scope) ≡ Ok c
      → SpellsShape mode schema v c s outs middle → FirstSpelled mode schema x s
  type_spelled mode schema (core.named y args) x e v scope c s outs middle k m =
      let r = closed_named y (closing_args args scope) c k in
      let P : Shape → Type 0 = λ z. SpellsShape mode schema v z s outs middle in
      let same : y ≡ x = cc in
      let Q : Word → Type 0 = λ z. FirstSpelled mode schema z s in
      subst Q same (of_record mode schema v y r.0 s outs middle (subst P r.1 m))
  type_spelled mode schema (core.group is) x e v scope c s outs middle k m =
      let r = items_of mode schema v is scope c s outs middle k m in
      first_spelled mode schema is x e r.0 scope s r.1 middle r.2
  type_spelled mode schema core.nat32 x e v scope c s outs middle k m = cc
  type_spelled mode schema (core.bits n) x e v scope c s outs middle k m = cc
  type_spelled mode schema (core.below n) x e v scope c s outs middle k m = cc
  type_spelled mode schema (core.up_to n) x e v scope c s outs middle k m = cc
  type_spelled mode schema (core.uint n) x e v scope c s outs middle k m = cc
  type_spelled mode schema (core.int n) x e v scope c s outs middle k m = cc
  type_spelled mode schema (core.bit_str n) x e v scope c s outs middle k m = cc
  type_spelled mode schema core.whole x e v scope c s outs middle k m = cc
  type_spelled mode schema (core.variable i) x e v scope c s outs middle k m = cc
  type_spelled mode schema (core.ref t) x e v scope c s outs middle k m = cc
  type_spelled mode schema (core.repeat n t) x e v scope c s outs middle k m = cc
  type_spelled mode schema (core.dict n t) x e v scope c s outs middle k m = cc
  type_spelled mode schema (core.dict_e n t) x e v scope c s outs middle k m = cc

-- ---- what a dictionary begins with

-- a label begins with one of the three
label_lead : (forms : Forms) (n : ℕ) (l bits more : List ℕ) → IsLabel forms n l bits more → Has hashmap_leads bits
label_lead forms n l bits more h = go h.0 h.3
  where
    go : (f : LabelForm) → IsForm f (bit_length n) l bits more → Has hashmap_leads bits
    go Short e = ap (some_begins hashmap_leads) e
    go Long e = ap (some_begins hashmap_leads) e
    go Same e = ap (some_begins hashmap_leads) e.2

fork_lead : (mode : Mode) (n : ℕ) (es : Entries) (s after : Slice) → Fork mode n es s after → Has hashmap_leads s.bits
fork_lead mode n es s after (forked p m zs os z o same len l refs dz do_) = label_lead (forms_of mode) n p s.bits after.bits l

dict_lead : (mode : Mode) (schema : CoreSchema) (v : Plain) (n : ℕ) (t : Closed) (s : Slice) (outs : List ℕ)
    (after : Slice) → SpellsShape mode schema v (typed (closed.dict n t)) s outs after → Has hashmap_leads s.bits
dict_lead mode schema (number negative size) n t s outs after e = absurd e
dict_lead mode schema (bit_string bits) n t s outs after e = absurd e
dict_lead mode schema (record_of (Some name) names vs) n t s outs after e = absurd e
dict_lead mode schema (record_of None names vs) n t s outs after e = absurd e
dict_lead mode schema absent n t s outs after e = absurd e
dict_lead mode schema (list_of vs) n t s outs after e = absurd e
dict_lead mode schema (ref_to _ v) n t s outs after e = absurd e
dict_lead mode schema (unknown h) n t s outs after e = absurd e
dict_lead mode schema (raw c) n t s outs after e = absurd e
dict_lead mode schema (rest r) n t s outs after e = absurd e
dict_lead mode schema (map_of _ no_pairs us) n t s outs after (o, inl e, _) = absurd e
dict_lead mode schema (map_of _ (a_pair k v no_pairs) []) n t s outs after (o, inl e, _) =
    label_lead (forms_of mode) n k s.bits e.0.bits e.2.label
dict_lead mode schema (map_of _ (a_pair k v no_pairs) (u ∷ us)) n t s outs after (o, inl e, _) = absurd e
dict_lead mode schema (map_of _ (a_pair k v (a_pair l w ps)) us) n t s outs after (o, inl e, _) = absurd e
dict_lead mode schema (map_of _ ps us) n t s outs after (o, inr e, _) = fork_lead mode n e.0 s after e.1

dict_e_lead : (mode : Mode) (schema : CoreSchema) (v : Plain) (n : ℕ) (t : Closed) (s : Slice) (outs : List ℕ)
    (after : Slice) → SpellsShape mode schema v (typed (closed.dict_e n t)) s outs after → Has hashmap_e_leads s.bits
dict_e_lead mode schema (number negative size) n t s outs after e = absurd e
dict_e_lead mode schema (bit_string bits) n t s outs after e = absurd e
dict_e_lead mode schema (record_of (Some name) names vs) n t s outs after e = absurd e
dict_e_lead mode schema (record_of None names vs) n t s outs after e = absurd e
dict_e_lead mode schema absent n t s outs after e = absurd e
dict_e_lead mode schema (list_of vs) n t s outs after e = absurd e
dict_e_lead mode schema (ref_to _ v) n t s outs after e = absurd e
dict_e_lead mode schema (unknown h) n t s outs after e = absurd e
dict_e_lead mode schema (raw c) n t s outs after e = absurd e
dict_e_lead mode schema (rest r) n t s outs after e = absurd e
dict_e_lead mode schema (map_of _ ps us) n t s outs after (o, no_entries a u b, _) = ap (some_begins hashmap_e_leads) b.bits
dict_e_lead mode schema (map_of _ ps us) n t s outs after (o, some_entries c es b d h, _) =
    ap (some_begins hashmap_e_leads) b.bits

-- a closed dictionary type
closed_dict : (o : Option ℕ) (u : Option Closed) (c : Shape)
    → judged (typed_or (bounded (of_both closed.dict o u))) ≡ Ok c
    → (n : ℕ) × (t : Closed) × (c ≡ typed (closed.dict n t))
closed_dict None u c e = cc
closed_dict (Some n) None c e = cc
closed_dict (Some n) (Some t) c e = small (nat_lt 4096 (nodes (closed.dict n t))) e
  where
    wide : (b : Bool) → cond b (Ok (typed (closed.dict n t))) (Err Width) ≡ Ok c
        → (n : ℕ) × (t : Closed) × (c ≡ typed (closed.dict n t))
    wide false e = cc
    wide true e = let same : c ≡ typed (closed.dict n t) = cc in (n, t, same)

    small : (b : Bool) → judged (typed_or (cond b (Err big_type) (Ok (closed.dict n t)))) ≡ Ok c
        → (n : ℕ) × (t : Closed) × (c ≡ typed (closed.dict n t))
    small true e = cc
    small false e = wide (nat_le n 1023) e

closed_dict_e : (o : Option ℕ) (u : Option Closed) (c : Shape)
    → judged (typed_or (bounded (of_both closed.dict_e o u))) ≡ Ok c
    → (n : ℕ) × (t : Closed) × (c ≡ typed (closed.dict_e n t))
closed_dict_e None u c e = cc
closed_dict_e (Some n) None c e = cc
closed_dict_e (Some n) (Some t) c e = small (nat_lt 4096 (nodes (closed.dict_e n t))) e
  where
    wide : (b : Bool) → cond b (Ok (typed (closed.dict_e n t))) (Err Width) ≡ Ok c
        → (n : ℕ) × (t : Closed) × (c ≡ typed (closed.dict_e n t))
    wide false e = cc
    wide true e = let same : c ≡ typed (closed.dict_e n t) = cc in (n, t, same)

    small : (b : Bool) → judged (typed_or (cond b (Err big_type) (Ok (closed.dict_e n t)))) ≡ Ok c
        → (n : ℕ) × (t : Closed) × (c ≡ typed (closed.dict_e n t))
    small true e = cc
    small false e = wide (nat_le n 1023) e

mutual
  first_fixed : (mode : Mode) (schema : CoreSchema) (is : Items) (ls : Leads) → first_of is ≡ fixed ls → (vs : Plains)
      (scope : Scope) (s : Slice) (end : Scope) (after : Slice) → Fields is (Each mode schema vs) scope s end after
      → Has ls s.bits
  first_fixed mode schema no_items ls e vs scope s end after f = cc
  first_fixed mode schema (an_item (check a op b i) is) ls e vs scope s end after f =
      first_fixed mode schema is ls e vs scope s end after f.5
  first_fixed mode schema (an_item (solve v a b i) is) ls e vs scope s end after f =
      first_fixed mode schema is ls e vs (with_number v f.0 scope) s end after f.2
  first_fixed mode schema (an_item (field y slot (Some c) t) is) ls e vs scope s end after f = cc
  first_fixed mode schema (an_item (field y slot None t) is) ls e no_vals scope s end after f = absurd f
  first_fixed mode schema (an_item (field y slot None t) is) ls e (a_val v vs) scope s end after f =
      type_fixed mode schema t ls e v scope f.2.0 s f.0 f.1 f.2.1 f.2.2

  type_fixed : (mode : Mode) (schema : CoreSchema) (t : Ty) (ls : Leads) → first_of_type t ≡ fixed ls → (v : Plain)
      (scope : Scope) (c : Shape) (s : Slice) (outs : List ℕ) (middle : Slice) → judged (laid t scope) ≡ Ok c
      → SpellsShape mode schema v c s outs middle → Has ls s.bits
  type_fixed mode schema (core.dict n t) ls e v scope c s outs middle k m =
      let r = closed_dict (value_in n scope) (closing t scope) c k in
      let P : Shape → Type 0 = λ z. SpellsShape mode schema v z s outs middle in
      let same : hashmap_leads ≡ ls = cc in
      let Q : Leads → Type 0 = λ z. Has z s.bits in
      subst Q same (dict_lead mode schema v r.0 r.1 s outs middle (subst P r.2 m))
  type_fixed mode schema (core.dict_e n t) ls e v scope c s outs middle k m =
      let r = closed_dict_e (value_in n scope) (closing t scope) c k in
      let P : Shape → Type 0 = λ z. SpellsShape mode schema v z s outs middle in
      let same : hashmap_e_leads ≡ ls = cc in
      let Q : Leads → Type 0 = λ z. Has z s.bits in
      subst Q same (dict_e_lead mode schema v r.0 r.1 s outs middle (subst P r.2 m))
  type_fixed mode schema (core.group is) ls e v scope c s outs middle k m =
      let r = items_of mode schema v is scope c s outs middle k m in
      first_fixed mode schema is ls e r.0 scope s r.1 middle r.2
  type_fixed mode schema core.nat32 ls e v scope c s outs middle k m = cc
  type_fixed mode schema (core.bits n) ls e v scope c s outs middle k m = cc
  type_fixed mode schema (core.below n) ls e v scope c s outs middle k m = cc
  type_fixed mode schema (core.up_to n) ls e v scope c s outs middle k m = cc
  type_fixed mode schema (core.uint n) ls e v scope c s outs middle k m = cc
  type_fixed mode schema (core.int n) ls e v scope c s outs middle k m = cc
  type_fixed mode schema (core.bit_str n) ls e v scope c s outs middle k m = cc
  type_fixed mode schema core.whole ls e v scope c s outs middle k m = cc
  type_fixed mode schema (core.variable i) ls e v scope c s outs middle k m = cc
  type_fixed mode schema (core.ref t) ls e v scope c s outs middle k m = cc
  type_fixed mode schema (core.repeat n t) ls e v scope c s outs middle k m = cc
  type_fixed mode schema (core.named y args) ls e v scope c s outs middle k m = cc

-- ---- by the rounds

abbrev Leading : Mode → CoreSchema → ℕ → (Word → Leads) → Type 0
Leading mode schema n L =
    (x : Word) (args : ClosedArgs) (name : Word) (names : List Word) (ws : Plains) (s : Slice) (outs : List ℕ) (after : Slice)
    → SpellsDeclared schema name names (Each mode schema ws) (typed (closed.named x args)) s outs after
    → Has (L x) s.bits ⊎ Chain schema n x

constructor_lead : (mode : Mode) (schema : CoreSchema) (n : ℕ) (L : Word → Leads) → Leading mode schema n L → (at : ℕ)
    (c : Declaration) → slice_get schema at ≡ Some c → (vs : Plains) (scope : Scope) (s middle : Slice) (end : Scope)
    (after : Slice) → s.bits ≡ c.core.tag ++ middle.bits
    → Fields c.core.items (Each mode schema vs) scope middle end after
    → Has (of_declaration L c) s.bits ⊎ Chain schema (suc n) c.of_type
constructor_lead mode schema n L leading at c there vs scope s middle end after k f = go c.core.tag refl k
  where
    go : (tag : List ℕ) → c.core.tag ≡ tag → s.bits ≡ tag ++ middle.bits
        → Has (by_tag tag (by_first L (first_of c.core.items))) s.bits ⊎ Chain schema (suc n) c.of_type
    go (b ∷ tag) e k =
        inl (or_left (begins (b ∷ tag) s.bits) false (ap (begins (b ∷ tag)) k ∙ begins_first (b ∷ tag) middle.bits))
    go [] e k = first_lead (first_of c.core.items) refl
      where
        first_lead : (o : First) → first_of c.core.items ≡ o
            → Has (by_first L o) s.bits ⊎ Chain schema (suc n) c.of_type
        first_lead anything h = inl refl
        first_lead (fixed ls) h =
            let P : List ℕ → Type 0 = λ z. Has ls z in
            inl (subst P (sym k) (first_fixed mode schema c.core.items ls h vs scope middle end after f))
        first_lead (declared y) h =
            let r = first_spelled mode schema c.core.items y h vs scope middle end after f in
            elim (leading y r.0 r.1 r.2 r.3 middle r.4 r.5 r.6) [
              | inl lead ↦
                  let P : List ℕ → Type 0 = λ z. Has (at_most_64 (L y)) z in
                  inl (subst P (sym k) (has_64 (L y) middle.bits lead))
              | inr chain ↦
                  let Q : Word → Type 0 = λ z. IsDeclared schema z in
                  inr (
                    y,
                    record {
                      place = at;
                      constructor = c;
                      there = there;
                      of_type = refl;
                      empty_tag = e;
                      first = h;
                      is_declared = subst Q r.6.5.of_type (is_declared schema r.6.0 r.6.1 r.6.5.there);
                    },
                    chain,
                  )
            ]

type_lead : (mode : Mode) (schema : CoreSchema) (n : ℕ) → Leading mode schema n (rounds n schema)
unfolding rounds
type_lead mode schema zero x args name names ws s outs after e = inr tt
type_lead mode schema (suc n) x args name names ws s outs after e =
    elim (constructor_lead mode schema n (rounds n schema) (type_lead mode schema n) e.0 e.1 e.5.there ws e.2 s e.3 e.4 after e.7.bits e.8) [
      | inl lead ↦ inl (has_together (rounds n schema) schema x e.0 e.1 s.bits e.5.there e.5.of_type lead)
      | inr chain ↦ let P : Word → Type 0 = λ z. Chain schema (suc n) z in inr (subst P e.5.of_type chain)
    ]

pub leads_hold : (mode : Mode) (schema : CoreSchema) → IsAcceptable schema → (x : Word) (args : ClosedArgs)
    (name : Word)
    (names : List Word) (vs : Plains) (s : Slice) (outs : List ℕ) (after : Slice)
    (e : SpellsDeclared schema name names (Each mode schema vs) (typed (closed.named x args)) s outs after)
    → some_begins (leads schema e.1) s.bits ≡ true
unfolding leads
leads_hold mode schema ok x args name names vs s outs after e =
    let n = type_count schema in
    elim (constructor_lead mode schema n (rounds n schema) (type_lead mode schema n) e.0 e.1 e.5.there vs e.2 s e.3 e.4 after e.7.bits e.8) [
      | inl lead ↦ lead
      | inr chain ↦ absurd (ok.guarded chain.0 chain.1.is_declared chain.2)
    ]
