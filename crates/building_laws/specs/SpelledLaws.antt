-- Each value that is built is spelled by what is put, by recursion on the value.
use Rattle.std.proofs.Common.{◌≡◌, ℕ, zero, suc, ◌+◌, nat_lt, Some, None, Ok, sym, subst}
use Rattle.cell_nodes.specs.declared.tree.Mode.{Mode}
use Rattle.hashmap_labels.specs.declared.forms.Forms.TheVariants.{Required}
use Rattle.hashmap_tree.specs.Dict.{forms_of}
use Rattle.typed_value.specs.Values.{Plain, Plains, PlainPairs, number, bit_string, record_of, absent, list_of, ref_to, unknown, map_of, raw, rest, no_vals, a_val, no_pairs, a_pair}
use Rattle.core_form.specs.Core.{CoreSchema}
use Rattle.spelling.specs.Goals.{Goal, at_type, at_field, at_cell, Shape, typed, fields_here, fields_under, left_out, as_cell, shape_of}
use Rattle.spelling.specs.Places.{Spot}
use Rattle.spelling.specs.PlainReader.{reported}
use Rattle.spelling_laws.specs.StepLaws.{bind_ok, reported_ok, only_ok}
use Rattle.building.specs.Buildable.{IsBuildable, InRange, AllInRange, PairsInRange}
use Rattle.building.specs.Growing.{Grown}
use Rattle.building.specs.PlainBuilder.{make_shape, make_goal, making}
use Rattle.building_laws.specs.DictSoundLaws.{map_sound}
use Rattle.building_laws.specs.GoesLaws.{goes_as}
use Rattle.building_laws.specs.MoveLaws.{made}
use Rattle.building_laws.specs.RecordSoundLaws.{list_sound, record_sound, inner_sound}
use Rattle.building_laws.specs.ShapeLaws.{NotCell, not_type, not_field, ok_same}
use Rattle.building_laws.specs.SoundLaws.{Keeps, KeepsAt, KeepsShape, StartsAt, StartsShape, Sounds, AllSound, BySound, ShapeSound, number_sound, string_sound, absent_sound, raw_sound, rest_sound, unknown_sound, ref_sound}

-- ---- from the shape to the goal

keeps_not : (mode : Mode) (c : Shape) (b x : Grown) → NotCell c → KeepsShape mode c b x → Keeps b x
keeps_not mode (typed t) b x n k = k
keeps_not mode (fields_here is scope) b x n k = k
keeps_not mode (fields_under is scope) b x n k = k
keeps_not mode left_out b x n k = k
keeps_not mode as_cell b x n k = absurd n

keeps_at : (mode : Mode) (g : Goal) (c : Shape) (b x : Grown) → shape_of g ≡ Ok c → KeepsShape mode c b x
    → KeepsAt mode g b x
keeps_at mode (at_type t) c b x e k = keeps_not mode c b x (not_type t c e) k
keeps_at mode (at_field y t scope) c b x e k = keeps_not mode c b x (not_field y t scope c e) k
keeps_at mode at_cell c b x e k =
    let P : Shape → Type 0 = λ z. KeepsShape mode z b x in subst P (sym (ok_same as_cell c e)) k

starts_not : (c : Shape) (b : Grown) → NotCell c → StartsShape c b
starts_not (typed t) b n = tt
starts_not (fields_here is scope) b n = tt
starts_not (fields_under is scope) b n = tt
starts_not left_out b n = tt
starts_not as_cell b n = absurd n

starts_at : (g : Goal) (c : Shape) (b : Grown) → shape_of g ≡ Ok c → StartsAt g b → StartsShape c b
starts_at (at_type t) c b e k = starts_not c b (not_type t c e)
starts_at (at_field y t scope) c b e k = starts_not c b (not_field y t scope c e)
starts_at at_cell c b e k = let P : Shape → Type 0 = λ z. StartsShape z b in subst P (ok_same as_cell c e) k

-- a value is built at the shape of its goal
begun : (n most : ℕ) (mode : Mode) (schema : CoreSchema) (v : Plain)
    → ((h : Spot) (c : Shape) (q : ℕ) (b : Grown) (outs : _) (x : Grown) → StartsShape c b
    → make_shape mode schema (making n most mode schema) h c q v b ≡ Ok (made outs x) → ShapeSound mode schema v c b outs x)
    → Sounds mode schema (making (suc n) most mode schema) v
unfolding making
begun n most mode schema v at h g q b outs x starts e =
    let k = only_ok (nat_lt q most) _ (make_goal mode schema (making n most mode schema) h g (q + 1) v b) (made outs x) e in
    let m = bind_ok (reported h (shape_of g)) _ (made outs x) k.1 in
    let same = reported_ok h (shape_of g) m.0 m.1 in
    let s = at h m.0 (q + 1) b outs x (starts_at g m.0 b same starts) m.2 in
    (s.0, goes_as _ _ s.0 b x s.1 (λ z r d. ((m.0, same, d.0), d.1)), keeps_at mode g m.0 b x same s.2)

never : (most : ℕ) (mode : Mode) (schema : CoreSchema) (v : Plain) → Sounds mode schema (making 0 most mode schema) v
unfolding making
never most mode schema v h g q b outs x starts e = cc

mutual
  pub sound : (mode : Mode) → forms_of mode ≡ Required → (schema : CoreSchema) → IsBuildable schema → (v : Plain)
      (n most : ℕ) → InRange v → Sounds mode schema (making n most mode schema) v
  sound mode req schema ok (number negative size) zero most range = never most mode schema (number negative size)
  sound mode req schema ok (number negative size) (suc n) most range =
      begun n most mode schema (number negative size) (λ h c q b outs x starts e. number_sound mode schema h c negative size b outs x e)
  sound mode req schema ok (bit_string bits) zero most range = never most mode schema (bit_string bits)
  sound mode req schema ok (bit_string bits) (suc n) most range =
      begun n most mode schema (bit_string bits) (λ h c q b outs x starts e. string_sound mode schema h c bits b outs x range e)
  sound mode req schema ok (record_of (Some name) names vs) zero most range = never most mode schema (record_of (Some name) names vs)
  sound mode req schema ok (record_of (Some name) names vs) (suc n) most range =
      begun n most mode schema (record_of (Some name) names vs) (λ h c q b outs x starts e. record_sound mode schema ok (making n most mode schema) name names vs (sound_all mode req schema ok vs n most range) h c q b outs x e)
  sound mode req schema ok (record_of None names vs) zero most range = never most mode schema (record_of None names vs)
  sound mode req schema ok (record_of None names vs) (suc n) most range =
      begun n most mode schema (record_of None names vs) (λ h c q b outs x starts e. inner_sound mode schema (making n most mode schema) names vs (sound_all mode req schema ok vs n most range) h c q b outs x e)
  sound mode req schema ok (absent) zero most range = never most mode schema (absent)
  sound mode req schema ok (absent) (suc n) most range =
      begun n most mode schema (absent) (λ h c q b outs x starts e. absent_sound mode schema h c b outs x e)
  sound mode req schema ok (list_of vs) zero most range = never most mode schema (list_of vs)
  sound mode req schema ok (list_of vs) (suc n) most range =
      begun n most mode schema (list_of vs) (λ h c q b outs x starts e. list_sound mode schema (making n most mode schema) vs (sound_all mode req schema ok vs n most range) h c q b outs x e)
  sound mode req schema ok (ref_to a v) zero most range = never most mode schema (ref_to a v)
  sound mode req schema ok (ref_to a v) (suc n) most range =
      begun n most mode schema (ref_to a v) (λ h c q b outs x starts e. ref_sound mode schema (making n most mode schema) v (sound mode req schema ok v n most range) h c q b outs x e)
  sound mode req schema ok (unknown y) zero most range = never most mode schema (unknown y)
  sound mode req schema ok (unknown y) (suc n) most range =
      begun n most mode schema (unknown y) (λ h c q b outs x starts e. unknown_sound mode schema h c y b outs x range e)
  sound mode req schema ok (map_of a ps us) zero most range = never most mode schema (map_of a ps us)
  sound mode req schema ok (map_of a ps us) (suc n) most range =
      begun n most mode schema (map_of a ps us) (λ h c q b outs x starts e. map_sound mode req schema (making n most mode schema) ps us range.1 (sound_by mode req schema ok ps n most range.0) h c q b outs x e)
  sound mode req schema ok (raw d) zero most range = never most mode schema (raw d)
  sound mode req schema ok (raw d) (suc n) most range =
      begun n most mode schema (raw d) (λ h c q b outs x starts e. raw_sound mode schema h c d b outs x range starts e)
  sound mode req schema ok (rest y) zero most range = never most mode schema (rest y)
  sound mode req schema ok (rest y) (suc n) most range =
      begun n most mode schema (rest y) (λ h c q b outs x starts e. rest_sound mode schema h c y b outs x range.0 range.1 e)

  pub sound_all : (mode : Mode) → forms_of mode ≡ Required → (schema : CoreSchema) → IsBuildable schema → (vs : Plains)
      (n most : ℕ) → AllInRange vs → AllSound mode schema (making n most mode schema) vs
  sound_all mode req schema ok no_vals n most range = tt
  sound_all mode req schema ok (a_val v vs) n most range =
      (sound mode req schema ok v n most range.0, sound_all mode req schema ok vs n most range.1)

  pub sound_by : (mode : Mode) → forms_of mode ≡ Required → (schema : CoreSchema) → IsBuildable schema → (ps : PlainPairs)
      (n most : ℕ) → PairsInRange ps → BySound mode schema (making n most mode schema) ps
  sound_by mode req schema ok no_pairs n most range = tt
  sound_by mode req schema ok (a_pair k v ps) n most range =
      (sound mode req schema ok v n most range.0, sound_by mode req schema ok ps n most range.1)
