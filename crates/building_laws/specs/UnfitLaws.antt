-- Where a value is unfit, the plain builder stops at that place. So it is unfit at one place at most, and has no tree then.
use Rattle.std.proofs.Common.{◌≡◌, inl, inr, ℕ, zero, suc, ◌+◌, nat_lt, Some, None, Result, Ok, Err, refl, sym, ap, ◌∙◌, arith}
use Rattle.std.proofs.lemmas.Bool.{lt-ltb, le-ltb}
use Rattle.cell_nodes.specs.Tree.{unfolded}
use Rattle.cell_nodes.specs.declared.tree.Hidden.{Hidden}
use Rattle.cell_nodes.specs.declared.tree.Mode.{Mode}
use Rattle.hashmap_labels.specs.declared.forms.Forms.TheVariants.{Required}
use Rattle.hashmap_tree.specs.Dict.{forms_of}
use Rattle.hashmap_tree.specs.Entries.{Slice, Then}
use Rattle.typed_value.specs.Values.{Plain, Plains, PlainPairs, number, bit_string, record_of, absent, list_of, ref_to, unknown, map_of, raw, rest, no_vals, a_val, no_pairs, a_pair}
use Rattle.core_form.specs.Core.{CoreSchema}
use Rattle.core_form.specs.Closed.{Closed}
use Rattle.spelling.specs.Goals.{Goal, at_type, at_field, at_cell, Shape, under_ref, shape_of}
use Rattle.spelling.specs.Places.{Spot, Place, at_root}
use Rattle.spelling.specs.PlainReader.{◌>>=◌, reported}
use Rattle.spelling.specs.Slices.{nothing}
use Rattle.spelling.specs.declared.Cause.{Cause}
use Rattle.spelling_laws.specs.ProperLaws.{Proper, ProperShape, proper_shape, proper_under}
use Rattle.spelling_laws.specs.StepLaws.{bind_on, bind_fault, when_true, when_false}
use Rattle.building.specs.Buildable.{IsBuildable, InRange, AllInRange, PairsInRange}
use Rattle.building.specs.Growing.{Grown, empty}
use Rattle.building.specs.Laid.{Laid, IsWithinAt}
use Rattle.building.specs.PlainBuilder.{Maker, make_shape, making, hidden_root, root_by, built_root, build_within}
use Rattle.building.specs.Unfit.{Misfits, Lays, UnfitAt, UnfitShape, UnfitWithin, UnfitHiddenRoot, no_level, no_part, root_deep, UnfitRoot, open_root, sprawls}
use Rattle.building.specs.Unfit as unfit
use Rattle.building_laws.specs.BuiltLaws.{complete}
use Rattle.building_laws.specs.DictLaws.{HeldAt}
use Rattle.building_laws.specs.DictStandsLaws.{ByDecide, map_at_stands}
use Rattle.building_laws.specs.MoveLaws.{then_all, made}
use Rattle.building_laws.specs.RootLaws.{root_built}
use Rattle.building_laws.specs.StandsLaws.{Fails, Gets, Decides, AllDecide, number_at_stands, string_at_stands, absent_at_stands, record_at_stands, inner_at_stands, list_at_stands, ref_at_stands, unknown_at_stands, raw_at_stands, rest_at_stands}

-- ---- what is laid is what is built

held_at : (mode : Mode) (g : Goal) (w : Slice) → IsWithinAt mode g w → HeldAt mode g w
held_at mode (at_type t) w h = record { within = h.0; bits = h.1 }
held_at mode (at_field e t scope) w h = record { within = h.0; bits = h.1 }
held_at mode at_cell w h = h

laid_gets : (n most : ℕ) (mode : Mode) → forms_of mode ≡ Required → (schema : CoreSchema) → IsBuildable schema
    → (v : Plain) → InRange v → Gets (Laid n most mode schema) (making n most mode schema) v
laid_gets n most mode req schema ok v range h g q b outs x proper l =
    let there : Then x.held b.held l.part = record { bits = ap (λ (z : Slice). z.bits) l.grows.held; refs = ap (λ (z : Slice). z.refs) l.grows.held } in
    let d = complete mode req schema ok v n most range l.deep h g q b x.held l.part outs nothing proper l.large (held_at mode g x.held l.within_limits) (record { at = there; free = l.grows.free }) l.spelled in
    let held : d.0.held ≡ x.held = then_all x.held d.0.held d.2.at in
    let shut : d.0.shut ≡ x.shut = d.3 ∙ sym l.grows.shut in
    d.1 ∙ (λ i. Ok (made outs (record { held = held i; shut = shut i })))

-- ---- all values at once

abbrev Each : Misfits → Lays → Maker → Type 0
Each S P R = (v : Plain) → InRange v → Decides S P R v

all_decide : (S : Misfits) (P : Lays) (R : Maker) → Each S P R → (vs : Plains) → AllInRange vs → AllDecide S P R vs
all_decide S P R d no_vals range = tt
all_decide S P R d (a_val v vs) range = (d v range.0, all_decide S P R d vs range.1)

by_decide : (S : Misfits) (P : Lays) (R : Maker) → Each S P R → (ps : PlainPairs) → PairsInRange ps → ByDecide S P R ps
by_decide S P R d no_pairs range = tt
by_decide S P R d (a_pair k v ps) range = (d v range.0, by_decide S P R d ps range.1)

at_stands : (mode : Mode) (schema : CoreSchema) → IsBuildable schema → (S : Misfits) (P : Lays) (R : Maker) → Each S P R
    → (v : Plain) → InRange v → (h : Spot) (c : Shape) (q : ℕ) (b : Grown) (p : Place) → ProperShape c
    → UnfitAt mode schema S P h c (q + 1) v b p → make_shape mode schema R h c (q + 1) v b ≡ Err p
at_stands mode schema ok S P R d (number negative size) range h c q b p proper u =
    number_at_stands h c negative size b p u
at_stands mode schema ok S P R d (bit_string bits) range h c q b p proper u =
    string_at_stands h c bits b p u
at_stands mode schema ok S P R d (record_of (Some name) names vs) range h c q b p proper u =
    record_at_stands S P schema ok R vs (all_decide S P R d vs range) h c (q + 1) name names b p u
at_stands mode schema ok S P R d (record_of None names vs) range h c q b p proper u =
    inner_at_stands S P schema R vs (all_decide S P R d vs range) h c (q + 1) names b p proper u
at_stands mode schema ok S P R d (absent) range h c q b p proper u =
    absent_at_stands h c b p u
at_stands mode schema ok S P R d (list_of vs) range h c q b p proper u =
    list_at_stands S P R vs (all_decide S P R d vs range) h c (q + 1) b p u
at_stands mode schema ok S P R d (ref_to a v) range h c q b p proper u =
    ref_at_stands S P R v (d v range) h c (q + 1) b p proper u
at_stands mode schema ok S P R d (unknown x) range h c q b p proper u =
    unknown_at_stands mode h c x b p u
at_stands mode schema ok S P R d (map_of a ps us) range h c q b p proper u =
    map_at_stands S P mode R ps us range.1 (by_decide S P R d ps range.0) h c (q + 1) b p u
at_stands mode schema ok S P R d (raw t) range h c q b p proper u =
    raw_at_stands mode h c t b p u
at_stands mode schema ok S P R d (rest s) range h c q b p proper u =
    rest_at_stands h c s b p u

shape_stands : (mode : Mode) (schema : CoreSchema) → IsBuildable schema → (S : Misfits) (P : Lays) (R : Maker) → Each S P R
    → (v : Plain) → InRange v → (h : Spot) (g : Goal) (q : ℕ) (b : Grown) (p : Place) → Proper g
    → (o : Result Shape Cause) → shape_of g ≡ o → UnfitShape mode schema S P h o (q + 1) v b p
    → (reported h o >>= λ c. make_shape mode schema R h c (q + 1) v b) ≡ Err p
shape_stands mode schema ok S P R d v range h g q b p proper (Err w) f u = ap Err (sym u)
shape_stands mode schema ok S P R d v range h g q b p proper (Ok c) f u =
    at_stands mode schema ok S P R d v range h c q b p (proper_shape g c proper f) u

pub unfit_stands : (n most : ℕ) (mode : Mode) → forms_of mode ≡ Required → (schema : CoreSchema) → IsBuildable schema
    → (v : Plain) → InRange v → Fails (UnfitWithin n most mode schema) (making n most mode schema) v
unfolding making
unfit_stands zero most mode req schema ok v range h g q b p proper u = ap Err (sym u)
unfit_stands (suc n) most mode req schema ok v range h g q b p proper (inl u) =
    when_false (nat_lt q most) _ _ (le-ltb q most u.0) ∙ ap Err (sym u.1)
unfit_stands (suc n) most mode req schema ok v range h g q b p proper (inr u) =
    when_true (nat_lt q most) _ _ (lt-ltb q most u.0)
    ∙ shape_stands mode schema ok (UnfitWithin n most mode schema) (Laid n most mode schema) (making n most mode schema)
    (λ w r. (unfit_stands n most mode req schema ok w r, laid_gets n most mode req schema ok w r)) v range h g q b p proper (shape_of g) refl u.1

-- ---- the root

hidden_stands : (n most : ℕ) (x : Hidden) (p : Place) → UnfitHiddenRoot n most x p → hidden_root n most x ≡ Err p
hidden_stands zero most x p (no_level e f) = ap Err (sym f)
hidden_stands (suc n) most x p (no_level e f) = absurd (omega (arith, e))
hidden_stands zero most x p (no_part l e f) = absurd (omega (arith, l))
hidden_stands (suc n) zero x p (no_part l e f) = ap Err (sym f)
hidden_stands (suc n) (suc most) x p (no_part l e f) = absurd (omega (arith, e))
hidden_stands zero most x p (root_deep l k d f) = absurd (omega (arith, l))
hidden_stands (suc n) zero x p (root_deep l k d f) = absurd (omega (arith, k))
hidden_stands (suc n) (suc most) x p (root_deep l k d f) =
    when_true (nat_lt 1024 x.depth) _ _ (lt-ltb 1024 x.depth d) ∙ ap Err (sym f)

pub root_stands : (n most cells : ℕ) (mode : Mode) → forms_of mode ≡ Required → (schema : CoreSchema)
    → IsBuildable schema → (t : Closed) (v : Plain) → InRange v → (p : Place)
    → UnfitRoot n most cells mode schema t v p → build_within n most cells mode schema t v ≡ Err p
root_stands n most cells mode req schema ok t v range p (unfit.hidden_root x e u) =
    bind_fault (built_root n most mode schema t v) _ p (ap (λ o. root_by o n most mode schema t v) e ∙ hidden_stands n most x p u)
root_stands n most cells mode req schema ok t v range p (open_root e u) =
    bind_fault (built_root n most mode schema t v) _ p
    (ap (λ o. root_by o n most mode schema t v) e
    ∙ bind_fault (making n most mode schema at_root (under_ref t) 0 v empty) _ p (unfit_stands n most mode req schema ok v range at_root (under_ref t) 0 empty p (proper_under t) u))
root_stands n most cells mode req schema ok t v range p (sprawls c fine r lt e) =
    bind_on (built_root n most mode schema t v) _ c (Err p) (root_built n most mode req schema ok t v range c fine r.deep r.large r.root)
    (when_true (nat_lt cells (unfolded c)) _ _ (lt-ltb cells (unfolded c) lt) ∙ ap Err (sym e))
