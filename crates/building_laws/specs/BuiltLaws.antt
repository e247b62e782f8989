-- Each value that is spelled within the limits is built, by recursion on the value.
use Rattle.std.proofs.Common.{◌≡◌, ◌≤◌, ℕ, zero, suc, ◌+◌, Some, None, arith}
use Rattle.std.proofs.Math.Nat.{le-max_left, le-max_right}
use Rattle.cell_nodes.specs.declared.tree.Mode.{Mode}
use Rattle.hashmap_labels.specs.declared.forms.Forms.TheVariants.{Required}
use Rattle.hashmap_tree.specs.Dict.{forms_of}
use Rattle.typed_value.specs.Values.{Plain, Plains, PlainPairs, number, bit_string, record_of, absent, list_of, ref_to, unknown, map_of, raw, rest, no_vals, a_val, no_pairs, a_pair, levels, levels_in, levels_by}
use Rattle.core_form.specs.Core.{CoreSchema}
use Rattle.spelling_laws.specs.ProperLaws.{proper_shape}
use Rattle.building.specs.Buildable.{IsBuildable, InRange, AllInRange, PairsInRange}
use Rattle.building.specs.PlainBuilder.{making}
use Rattle.building_laws.specs.DictLaws.{Done, AllDone, ByDone}
use Rattle.building_laws.specs.ShapeLaws.{holding}
use Rattle.building_laws.specs.CompleteLaws.{begin_on, number_at_on, string_at_on, record_at_on, inner_at_on, absent_at_on, list_at_on, ref_complete, unknown_complete, map_at_on, raw_at_on, rest_at_on}

mutual
  pub complete : (mode : Mode) → forms_of mode ≡ Required → (schema : CoreSchema) → IsBuildable schema → (v : Plain)
      (n most : ℕ) → InRange v → levels v ≤ n → Done most mode schema (making n most mode schema) v
  complete mode req schema ok (number negative size) zero most range le h g q b w s outs r proper few held st e = absurd (omega (arith, le))
  complete mode req schema ok (number negative size) (suc n) most range le h g q b w s outs r proper few held st e =
      begin_on n most mode schema h g q _ b w r _ outs e.0 (omega (arith, few)) e.1
      (number_at_on mode h e.0 negative size b w s outs r (holding mode g e.0 w e.1 held) st e.2)
  complete mode req schema ok (bit_string bits) zero most range le h g q b w s outs r proper few held st e = absurd (omega (arith, le))
  complete mode req schema ok (bit_string bits) (suc n) most range le h g q b w s outs r proper few held st e =
      begin_on n most mode schema h g q _ b w r _ outs e.0 (omega (arith, few)) e.1
      (string_at_on mode h e.0 bits b w s outs r (holding mode g e.0 w e.1 held) st e.2)
  complete mode req schema ok (record_of (Some name) names vs) zero most range le h g q b w s outs r proper few held st e = absurd (omega (arith, le))
  complete mode req schema ok (record_of (Some name) names vs) (suc n) most range le h g q b w s outs r proper few held st e =
      begin_on n most mode schema h g q _ b w r _ outs e.0 (omega (arith, few)) e.1
      (record_at_on most mode schema ok (making n most mode schema) name names vs (complete_all mode req schema ok vs n most range (omega (arith, le))) h e.0 (q + 1) b w s outs r (omega (arith, few)) (holding mode g e.0 w e.1 held) st e.2)
  complete mode req schema ok (record_of None names vs) zero most range le h g q b w s outs r proper few held st e = absurd (omega (arith, le))
  complete mode req schema ok (record_of None names vs) (suc n) most range le h g q b w s outs r proper few held st e =
      begin_on n most mode schema h g q _ b w r _ outs e.0 (omega (arith, few)) e.1
      (inner_at_on most mode schema (making n most mode schema) names vs (complete_all mode req schema ok vs n most range (omega (arith, le))) h e.0 (q + 1) b w s outs r (proper_shape g e.0 proper e.1) (omega (arith, few)) (holding mode g e.0 w e.1 held) st e.2)
  complete mode req schema ok (absent) zero most range le h g q b w s outs r proper few held st e = absurd (omega (arith, le))
  complete mode req schema ok (absent) (suc n) most range le h g q b w s outs r proper few held st e =
      begin_on n most mode schema h g q _ b w r _ outs e.0 (omega (arith, few)) e.1
      (absent_at_on h e.0 b w s outs r st e.2)
  complete mode req schema ok (list_of vs) zero most range le h g q b w s outs r proper few held st e = absurd (omega (arith, le))
  complete mode req schema ok (list_of vs) (suc n) most range le h g q b w s outs r proper few held st e =
      begin_on n most mode schema h g q _ b w r _ outs e.0 (omega (arith, few)) e.1
      (list_at_on most mode schema (making n most mode schema) vs (complete_all mode req schema ok vs n most range (omega (arith, le))) h e.0 (q + 1) b w s outs r (omega (arith, few)) (holding mode g e.0 w e.1 held) st e.2)
  complete mode req schema ok (ref_to a v) zero most range le h g q b w s outs r proper few held st e = absurd (omega (arith, le))
  complete mode req schema ok (ref_to a v) (suc n) most range le h g q b w s outs r proper few held st e =
      begin_on n most mode schema h g q _ b w r _ outs e.0 (omega (arith, few)) e.1
      (ref_complete most mode schema (making n most mode schema) v (complete mode req schema ok v n most range (omega (arith, le))) h e.0 (q + 1) b w s outs r (proper_shape g e.0 proper e.1) (omega (arith, few)) (holding mode g e.0 w e.1 held) st e.2)
  complete mode req schema ok (unknown x) zero most range le h g q b w s outs r proper few held st e = absurd (omega (arith, le))
  complete mode req schema ok (unknown x) (suc n) most range le h g q b w s outs r proper few held st e =
      begin_on n most mode schema h g q _ b w r _ outs e.0 (omega (arith, few)) e.1
      (unknown_complete mode h e.0 x range b w s outs r (holding mode g e.0 w e.1 held) st e.2)
  complete mode req schema ok (map_of a ps us) zero most range le h g q b w s outs r proper few held st e = absurd (omega (arith, le))
  complete mode req schema ok (map_of a ps us) (suc n) most range le h g q b w s outs r proper few held st e =
      begin_on n most mode schema h g q _ b w r _ outs e.0 (omega (arith, few)) e.1
      (map_at_on most mode req schema (making n most mode schema) ps us range.1 (complete_by mode req schema ok ps n most range.0 (omega (arith, le))) h e.0 (q + 1) b w s outs r (omega (arith, few)) (holding mode g e.0 w e.1 held) st e.2)
  complete mode req schema ok (raw c) zero most range le h g q b w s outs r proper few held st e = absurd (omega (arith, le))
  complete mode req schema ok (raw c) (suc n) most range le h g q b w s outs r proper few held st e =
      begin_on n most mode schema h g q _ b w r _ outs e.0 (omega (arith, few)) e.1
      (raw_at_on mode h e.0 c b w s outs r (holding mode g e.0 w e.1 held) st e.2)
  complete mode req schema ok (rest x) zero most range le h g q b w s outs r proper few held st e = absurd (omega (arith, le))
  complete mode req schema ok (rest x) (suc n) most range le h g q b w s outs r proper few held st e =
      begin_on n most mode schema h g q _ b w r _ outs e.0 (omega (arith, few)) e.1
      (rest_at_on mode h e.0 x b w s outs r (holding mode g e.0 w e.1 held) st e.2)

  pub complete_all : (mode : Mode) → forms_of mode ≡ Required → (schema : CoreSchema) → IsBuildable schema → (vs : Plains)
      (n most : ℕ) → AllInRange vs → levels_in vs ≤ n → AllDone most mode schema (making n most mode schema) vs
  complete_all mode req schema ok no_vals n most range le = tt
  complete_all mode req schema ok (a_val v vs) n most range le =
      (complete mode req schema ok v n most range.0 (omega (arith, le, le-max_left (levels v) (levels_in vs))), complete_all mode req schema ok vs n most range.1 (omega (arith, le, le-max_right (levels v) (levels_in vs))))

  pub complete_by : (mode : Mode) → forms_of mode ≡ Required → (schema : CoreSchema) → IsBuildable schema
      → (ps : PlainPairs) (n most : ℕ) → PairsInRange ps → levels_by ps ≤ n
      → ByDone most mode schema (making n most mode schema) ps
  complete_by mode req schema ok no_pairs n most range le = tt
  complete_by mode req schema ok (a_pair k v ps) n most range le =
      (complete mode req schema ok v n most range.0 (omega (arith, le, le-max_left (levels v) (levels_by ps))), complete_by mode req schema ok ps n most range.1 (omega (arith, le, le-max_right (levels v) (levels_by ps))))
