-- A record, by its fields.
use Rattle.std.proofs.Common.{◌≡◌, ℕ, ◌-◌, List, ◌++◌, Option, Some, None, sym, ap, ◌∙◌, arith}
use Rattle.core_form.specs.Core.{CoreSchema, Items}
use Rattle.core_form.specs.Scope.{Scope}
use Rattle.hashmap_tree.specs.Entries.{Slice}
use Rattle.spelling.specs.Goals.{fields_here}
use Rattle.typed_value.specs.Values.{Plain, Plains, levels, levels_in}
use Rattle.typed_value.specs.View.{names_in, vals_in}
use Rattle.pruning.specs.Laid.{Laid, number, bit_string, record_of, absent, list_of, ref_to, ref_to_raw, no_map}
use Rattle.pruning.specs.Laid.{map_under, map_here, rest, plain_all}
use Rattle.pruning.specs.SpellsLaid.{SpellsLaidShape}
use Rattle.pruned_proof.specs.Walks.{Due, Is, Lies, fields_of}
use Rattle.pruned_proof.specs.Wanted.{Rests, cut_for, cut_fields_for}
use Rattle.pruned_proof.specs.declared.cutting.Cutting.{Cutting}

pub record RecordDue (schema : CoreSchema) (k : Rests) (most : ℕ) (d : Laid) (is : Items) (scope : Scope) (after : Slice)
    (fields : List (List ℕ × Plain)) (cell : Cutting) : Type 0 where
  pub end : Scope
  pub due : Due schema k most end after (cell.made.items ++ cut_for k d) is scope fields cell

abbrev pub parts : List (List ℕ) → Plains → Option (List (List ℕ) × Plains)
parts names vs = Some (names, vs)

same_names : (a b : List (List ℕ)) (x y : Plains) → parts a x ≡ parts b y → a ≡ b
same_names a b x y e = ap (names_or a) e
  where
    names_or : List (List ℕ) → Option (List (List ℕ) × Plains) → List (List ℕ)
    names_or a None = a
    names_or a (Some p) = p.0

same_values : (a b : List (List ℕ)) (x y : Plains) → parts a x ≡ parts b y → x ≡ y
same_values a b x y e = ap (values_or x) e
  where
    values_or : Plains → Option (List (List ℕ) × Plains) → Plains
    values_or x None = x
    values_or x (Some p) = p.1

module _ (schema : CoreSchema) (k : Rests) (is : Items) (scope : Scope) (v : Plain) (n : ℕ) (cell : Cutting)
    (outs : List ℕ) (after : Slice) where
  pub no_record : (d : Laid) → Is d v n → Lies (SpellsLaidShape schema d (fields_here is scope)) cell.left outs after
      → None ≡ fields_of v → ⊥
  no_record (number negative size) i l e = absurd l.spelled
  no_record (bit_string bits) i l e = absurd l.spelled
  no_record (record_of (Some name) names ds) i l e = absurd l.spelled
  no_record (record_of None names ds) i l e = let f = e ∙ ap fields_of (sym i.value) in absurd (cc)
  no_record absent i l e = absurd l.spelled
  no_record (list_of ds) i l e = absurd l.spelled
  no_record (ref_to c d) i l e = absurd l.spelled
  no_record (ref_to_raw c) i l e = absurd l.spelled
  no_record no_map i l e = absurd l.spelled
  no_record (map_under c x) i l e = absurd l.spelled
  no_record (map_here x) i l e = absurd l.spelled
  no_record (rest s) i l e = absurd l.spelled

  pub record_due : (d : Laid) (fields : List (List ℕ × Plain)) → Is d v n
      → Lies (SpellsLaidShape schema d (fields_here is scope)) cell.left outs after
      → parts (names_in fields) (vals_in fields) ≡ fields_of v → RecordDue schema k (n - 1) d is scope after fields cell
  record_due (number negative size) fields i l e = absurd l.spelled
  record_due (bit_string bits) fields i l e = absurd l.spelled
  record_due (record_of (Some name) names ds) fields i l e = absurd l.spelled
  record_due (record_of None names ds) fields i l e =
      let f = e ∙ ap fields_of (sym i.value) in
      let named = same_names (names_in fields) names (vals_in fields) (plain_all ds) f in
      let valued = same_values (names_in fields) names (vals_in fields) (plain_all ds) f in
      let deep = i.deep in
      let whole = ap levels (sym i.value) in
      let inner = ap levels_in valued in
      record {
        end = l.spelled.2;
        due = record {
          laids = ds;
          are = record { values = sym valued; deep = omega (arith, deep, whole, inner) };
          before = l.before;
          refs = l.refs;
          clean = l.clean;
          spelled = l.spelled.3;
          made = ap (λ (z : List (List ℕ)). cell.made.items ++ cut_fields_for k z ds) named;
        };
      }
  record_due absent fields i l e = absurd l.spelled
  record_due (list_of ds) fields i l e = absurd l.spelled
  record_due (ref_to c d) fields i l e = absurd l.spelled
  record_due (ref_to_raw c) fields i l e = absurd l.spelled
  record_due no_map fields i l e = absurd l.spelled
  record_due (map_under c x) fields i l e = absurd l.spelled
  record_due (map_here x) fields i l e = absurd l.spelled
  record_due (rest s) fields i l e = absurd l.spelled
