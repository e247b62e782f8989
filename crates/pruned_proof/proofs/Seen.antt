-- What values of some forms stand for.
use Rattle.std.proofs.Common.{◌≡◌, ℕ, List, ◌∷◌, map, rules, sym, ap, ◌∙◌, subst, arith, suc, ◌+◌, ◌<◌, drop, drop-cons, get_or, length}
use Rattle.cell_nodes.specs.declared.tree.Hidden.{Hidden}
use Rattle.cell_nodes.specs.declared.tree.Tree.{Tree}
use Rattle.typed_value.specs.Values.{absent, bit_string, list_of, map_of, number, raw, record_of, ref_to, rest, unknown}
use Rattle.typed_value.specs.View.{names_in, pair_of, pairs_of, record_parts, RecordParts, slice_of, vals_in, vals_of, value}
use Rattle.typed_value.specs.declared.value.Dict.{Dict}
use Rattle.typed_value.specs.declared.value.Number.{Number as TheNumber}
use Rattle.typed_value.specs.declared.value.Record.{Record as TheRecord}
use Rattle.typed_value.specs.declared.value.RestPart.{RestPart}
use Rattle.typed_value.specs.declared.value.Value.{Value}
use Rattle.typed_value.specs.declared.value.Value.TheFolds.{the_lemmas}
use Rattle.typed_value.specs.declared.value.Value.TheVariants.{Absent, Bits, List as Series, Map, Number, Raw, Record, Ref, Rest, Unknown}
use Rattle.pruning.specs.Laid.{Laid}
use Rattle.pruned_proof.specs.Walks.{Is}

number_seen : (n : TheNumber) → value (Number n) ≡ number n.negative n.size
number_seen n = search (rules, the_lemmas)

bits_seen : (b : List ℕ) → value (Bits b) ≡ bit_string b
bits_seen b = search (rules, the_lemmas)

rest_seen : (r : RestPart) → value (Rest r) ≡ rest (slice_of r)
rest_seen r = search (rules, the_lemmas)

pub list_seen : (vs : List Value) → value (Series vs) ≡ list_of (vals_of (map value vs))
list_seen vs = search (rules, the_lemmas)

pub ref_seen : (v : Value) → value (Ref v) ≡ ref_to tt (value v)
ref_seen v = search (rules, the_lemmas)

pub map_seen : (d : Dict) → value (Map d) ≡ map_of tt (pairs_of (map pair_of d.pairs)) d.unknown
map_seen d = search (rules, the_lemmas)

pub record_seen : (r : TheRecord) → value (Record r) ≡ record_of (record_parts r).0 (names_in (record_parts r).1)
    (vals_in (record_parts r).1)
record_seen r = search (rules, the_lemmas)

absent_seen : value Absent ≡ absent
absent_seen = search (rules, the_lemmas)

unknown_seen : (h : Hidden) → value (Unknown h) ≡ unknown h
unknown_seen h = search (rules, the_lemmas)

raw_seen : (c : Tree) → value (Raw c) ≡ raw c
raw_seen c = search (rules, the_lemmas)

parts_seen : (r : TheRecord) → record_parts r ≡ (r.name, map pair_of r.fields)
parts_seen r = search (rules, the_lemmas)

-- a laid value that is this one
module _ (d : Laid) (v : Value) (most : ℕ) where
  pub is_number : (n : TheNumber) → v ≡ Number n → Is d (value v) most → Is d (number n.negative n.size) most
  is_number n e is = subst (λ z. Is d z most) (ap value e ∙ number_seen n) is

  pub is_bits : (b : List ℕ) → v ≡ Bits b → Is d (value v) most → Is d (bit_string b) most
  is_bits b e is = subst (λ z. Is d z most) (ap value e ∙ bits_seen b) is

  pub is_rest : (r : RestPart) → v ≡ Rest r → Is d (value v) most → Is d (rest (slice_of r)) most
  is_rest r e is = subst (λ z. Is d z most) (ap value e ∙ rest_seen r) is

  pub is_absent : v ≡ Absent → Is d (value v) most → Is d absent most
  is_absent e is = subst (λ z. Is d z most) (ap value e ∙ absent_seen) is

  pub is_unknown : (h : Hidden) → v ≡ Unknown h → Is d (value v) most → Is d (unknown h) most
  is_unknown h e is = subst (λ z. Is d z most) (ap value e ∙ unknown_seen h) is

  pub is_raw : (c : Tree) → v ≡ Raw c → Is d (value v) most → Is d (raw c) most
  is_raw c e is = subst (λ z. Is d z most) (ap value e ∙ raw_seen c) is

  pub is_shown : (r : TheRecord) → v ≡ Record r → Is d (value v) most
      → Is d (record_of (record_parts r).0 (names_in (record_parts r).1) (vals_in (record_parts r).1)) most
  is_shown r e is = subst (λ z. Is d z most) (ap value e ∙ record_seen r) is

  pub is_list : (vs : List Value) → v ≡ Series vs → Is d (value v) most → Is d (list_of (vals_of (map value vs))) most
  is_list vs e is = subst (λ z. Is d z most) (ap value e ∙ list_seen vs) is

  pub is_ref : (w : Value) → v ≡ Ref w → Is d (value v) most → Is d (ref_to tt (value w)) most
  is_ref w e is = subst (λ z. Is d z most) (ap value e ∙ ref_seen w) is

  pub is_map : (x : Dict) → v ≡ Map x → Is d (value v) most
      → Is d (map_of tt (pairs_of (map pair_of x.pairs)) x.unknown) most
  is_map x e is = subst (λ z. Is d z most) (ap value e ∙ map_seen x) is

pub is_record : (d : Laid) (r : TheRecord) (most : ℕ)
    → Is d (record_of (record_parts r).0 (names_in (record_parts r).1) (vals_in (record_parts r).1)) most
    → Is d (record_of r.name (names_in (map pair_of r.fields)) (vals_in (map pair_of r.fields))) most
is_record d r most is =
    let R : RecordParts → Type 0 = λ z. Is d (record_of z.0 (names_in z.1) (vals_in z.1)) most in subst R (parts_seen r) is

-- the next of several
pub item_next : (items : List Value) (n : ℕ) (v : Value) → n < length items → v ≡ get_or items n v
    → map value (drop n items) ≡ value v ∷ map value (drop (n + 1) items)
item_next items n v within is =
    let next : suc n ≡ n + 1 = omega arith in
    ap (map value) (drop-cons items n v within ∙ (λ i. sym is i ∷ drop (next i) items))
