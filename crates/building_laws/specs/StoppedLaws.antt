-- Where the plain builder stops, the value is unfit at that place: by recursion on the levels, and of the root.
use Rattle.std.proofs.Common.{◌≡◌, ◌⊎◌, inl, inr, ℕ, zero, suc, ◌+◌, Bool, true, false, ◌||◌, nat_lt, Option, Some, None, Result, Ok, Err, refl, sym, ap, ◌∙◌, subst, arith, List}
use Rattle.std.proofs.lemmas.Bool.{ltb-true, ltb-false}
use Rattle.cell_nodes.specs.Constructed.{pruned_of}
use Rattle.cell_nodes.specs.Tree.{unfolded}
use Rattle.cell_nodes.specs.declared.tree.Hidden.{Hidden}
use Rattle.cell_nodes.specs.declared.tree.Mode.{Mode}
use Rattle.cell_nodes.specs.declared.tree.Tree.{Tree}
use Rattle.hashmap_labels.specs.declared.forms.Forms.TheVariants.{Required}
use Rattle.hashmap_tree.specs.Dict.{forms_of}
use Rattle.hashmap_tree.specs.Entries.{Slice}
use Rattle.typed_value.specs.Values.{Plain, Plains, PlainPairs, number, bit_string, record_of, absent, list_of, ref_to, unknown, map_of, raw, rest, no_vals, a_val, no_pairs, a_pair}
use Rattle.core_form.specs.Core.{CoreSchema}
use Rattle.core_form.specs.Closed.{Closed}
use Rattle.spelling.specs.Goals.{Goal, at_type, at_field, at_cell, Shape, under_ref, shape_of}
use Rattle.spelling.specs.Places.{Spot, Place, stuck, at_root}
use Rattle.spelling.specs.PlainReader.{◌>>=◌, reported}
use Rattle.spelling.specs.Slices.{nothing, only_ref}
use Rattle.spelling.specs.declared.Cause.{Cause}
use Rattle.spelling.specs.declared.Cause.TheVariants as why
use Rattle.spelling_laws.specs.ProperLaws.{Proper, ProperShape, proper_shape, proper_under}
use Rattle.spelling_laws.specs.StepLaws.{bind_err, test_err, guard_err}
use Rattle.building.specs.Buildable.{IsBuildable, InRange, AllInRange, PairsInRange}
use Rattle.building.specs.Growing.{Grown, empty, join}
use Rattle.building.specs.Laid.{AreSeen, IsWithinAt, Laid}
use Rattle.building.specs.PlainBuilder.{Made, Maker, make_shape, make_goal, making, sized, finished, hidden_root, hides_root, root_by, built_root, build_within}
use Rattle.building.specs.Unfit.{Misfits, Lays, UnfitAt, UnfitShape, UnfitWithin, UnfitHiddenRoot, no_level, no_part, root_deep, UnfitRoot, open_root, sprawls}
use Rattle.building.specs.Unfit as unfit
use Rattle.building_laws.specs.BuiltRootLaws.{root_reads}
use Rattle.building_laws.specs.DictRefusedLaws.{BySettle, map_at_refused}
use Rattle.building_laws.specs.GoesLaws.{Goes, empty_held}
use Rattle.building_laws.specs.MoveLaws.{slice_eta, then_whole, IsHeld, made}
use Rattle.building_laws.specs.RefusedLaws.{never_err, place_is, number_at_refused, string_at_refused, absent_at_refused, unknown_at_refused, raw_at_refused, rest_at_refused, Begins, Refuses, Layers, KeepsIn, Keeping, Settles, AllSettle, begins_new, ref_at_refused, list_at_refused, record_at_refused, inner_at_refused}
use Rattle.building_laws.specs.SizeLaws.{Fits, counted}
use Rattle.building_laws.specs.SoundLaws.{IsSpelled, KeepsAt, StartsAt}
use Rattle.building_laws.specs.SpelledLaws.{sound}

-- ---- what is built is laid

begins_held : (g : Goal) (b : Grown) → Begins g b → IsHeld b.held
begins_held (at_type t) b h = h
begins_held (at_field e t scope) b h = h
begins_held at_cell b h =
    let P : Grown → Type 0 = λ z. IsHeld z.held in
    subst P (sym h) empty_held

starts_at : (g : Goal) (b : Grown) → Begins g b → StartsAt g b
starts_at (at_type t) b h = tt
starts_at (at_field e t scope) b h = tt
starts_at at_cell b h = ap (λ (z : Grown). z.shut) h

keeps_in : (mode : Mode) (g : Goal) (b x : Grown) → KeepsAt mode g b x → KeepsIn g b x
keeps_in mode (at_type t) b x k = k
keeps_in mode (at_field e t scope) b x k = k
keeps_in mode at_cell b x k = tt

within_at : (mode : Mode) (g : Goal) (b x : Grown) → Begins g b → KeepsAt mode g b x → IsWithinAt mode g x.held
within_at mode (at_type t) b x h k = let u = k h in (u.within, u.bits)
within_at mode (at_field e t scope) b x h k = let u = k h in (u.within, u.bits)
within_at mode at_cell b x h k =
    let P : Slice → Type 0 = λ z. AreSeen mode z.refs in
    let B : Grown → Type 0 = λ z. AreSeen mode (join z.held (only_ref k.0)).refs in
    subst P (sym k.1) (subst B (sym h) (k.2, tt))

laid_of : (n most : ℕ) (mode : Mode) (schema : CoreSchema) (v : Plain) (g : Goal) (q : ℕ) (b : Grown) (outs : List ℕ)
    (x : Grown) → Begins g b → Fits n most q v → (e : Bool) → Goes (IsSpelled mode schema v g outs e) e b x
    → KeepsAt mode g b x → Laid n most mode schema g q v b outs x
laid_of n most mode schema v g q b outs x begins fits e goes keeps =
    let l = goes.laid x.held nothing (then_whole x.held) (λ z. refl) in record {
      part = l.0;
      spelled = l.3.0;
      grows = record {
        held = slice_eta x.held (join b.held l.0) l.1.bits l.1.refs;
        shut = goes.shut ∙ ap (λ z. b.shut || z) (sym l.3.1);
        free = l.2;
      };
      within_limits = within_at mode g b x begins keeps;
      deep = fits.0;
      large = fits.1;
    }

layers : (n most : ℕ) (mode : Mode) → forms_of mode ≡ Required → (schema : CoreSchema) → IsBuildable schema → (v : Plain)
    → InRange v → Layers (Laid n most mode schema) (making n most mode schema) v
layers n most mode req schema ok v range h g q b outs x proper begins e =
    let s = sound mode req schema ok v n most range h g q b outs x (starts_at g b begins) e in
    laid_of n most mode schema v g q b outs x begins (counted mode schema v n most h g q b (made outs x) e) s.0 s.1 s.2

keeping : (n most : ℕ) (mode : Mode) → forms_of mode ≡ Required → (schema : CoreSchema) → IsBuildable schema → (v : Plain)
    → InRange v → Keeping (making n most mode schema) v
keeping n most mode req schema ok v range h g q b outs x begins e =
    let s = sound mode req schema ok v n most range h g q b outs x (starts_at g b begins) e in keeps_in mode g b x s.2

-- ---- all values at once

abbrev Each : Misfits → Lays → Maker → Type 0
Each S P R = (v : Plain) → InRange v → Settles S P R v

all_settle : (S : Misfits) (P : Lays) (R : Maker) → Each S P R → (vs : Plains) → AllInRange vs → AllSettle S P R vs
all_settle S P R d no_vals range = tt
all_settle S P R d (a_val v vs) range = (d v range.0, all_settle S P R d vs range.1)

by_settle : (S : Misfits) (P : Lays) (R : Maker) → Each S P R → (ps : PlainPairs) → PairsInRange ps → BySettle S P R ps
by_settle S P R d no_pairs range = tt
by_settle S P R d (a_pair k v ps) range = (d v range.0, by_settle S P R d ps range.1)

at_refused : (mode : Mode) (schema : CoreSchema) → IsBuildable schema → (S : Misfits) (P : Lays) (R : Maker) → Each S P R
    → (v : Plain) → InRange v → (h : Spot) (c : Shape) (q : ℕ) (b : Grown) (p : Place) → ProperShape c → IsHeld b.held
    → make_shape mode schema R h c q v b ≡ Err p → UnfitAt mode schema S P h c q v b p
at_refused mode schema ok S P R d (number negative size) range h c q b p proper held e =
    number_at_refused h c negative size b p e
at_refused mode schema ok S P R d (bit_string bits) range h c q b p proper held e = string_at_refused h c bits b p e
at_refused mode schema ok S P R d (record_of (Some name) names vs) range h c q b p proper held e =
    record_at_refused S P schema ok R vs (all_settle S P R d vs range) h c q name names b p held e
at_refused mode schema ok S P R d (record_of None names vs) range h c q b p proper held e =
    inner_at_refused S P schema R vs (all_settle S P R d vs range) h c q names b p proper held e
at_refused mode schema ok S P R d (absent) range h c q b p proper held e = absent_at_refused h c b p e
at_refused mode schema ok S P R d (list_of vs) range h c q b p proper held e =
    list_at_refused S P R vs (all_settle S P R d vs range) h c q b p held e
at_refused mode schema ok S P R d (ref_to a v) range h c q b p proper held e =
    ref_at_refused S P R v (d v range) h c q b p proper e
at_refused mode schema ok S P R d (unknown x) range h c q b p proper held e = unknown_at_refused mode h c x b p e
at_refused mode schema ok S P R d (map_of a ps us) range h c q b p proper held e =
    map_at_refused S P mode R ps us range.1 (by_settle S P R d ps range.0) h c q b p e
at_refused mode schema ok S P R d (raw t) range h c q b p proper held e = raw_at_refused mode h c t b p e
at_refused mode schema ok S P R d (rest s) range h c q b p proper held e = rest_at_refused h c s b p e

shape_refused : (mode : Mode) (schema : CoreSchema) → IsBuildable schema → (S : Misfits) (P : Lays) (R : Maker)
    → Each S P R → (v : Plain) → InRange v → (h : Spot) (g : Goal) (q : ℕ) (b : Grown) (p : Place) → Proper g
    → IsHeld b.held → (o : Result Shape Cause) → shape_of g ≡ o
    → (reported h o >>= λ c. make_shape mode schema R h c q v b) ≡ Err p → UnfitShape mode schema S P h o q v b p
shape_refused mode schema ok S P R d v range h g q b p proper held (Err w) f e = place_is _ p e
shape_refused mode schema ok S P R d v range h g q b p proper held (Ok c) f e =
    at_refused mode schema ok S P R d v range h c q b p (proper_shape g c proper f) held e

level_refused : (n most : ℕ) (mode : Mode) (schema : CoreSchema) → IsBuildable schema
    → Each (UnfitWithin n most mode schema) (Laid n most mode schema) (making n most mode schema) → (v : Plain) → InRange v
    → Refuses (UnfitWithin (suc n) most mode schema) (making (suc n) most mode schema) v
unfolding making
level_refused n most mode schema ok d v range h g q b p proper begins e = go (test_err (nat_lt q most) _ _ p e)
  where
    go : ((nat_lt q most ≡ true) × (make_goal mode schema (making n most mode schema) h g (q + 1) v b ≡ Err p)) ⊎ ((nat_lt q most ≡ false) × (p ≡ stuck h why.Bulk))
        → UnfitWithin (suc n) most mode schema h g q v b p
    go (inl k) =
        inr (ltb-true q most k.0, shape_refused mode schema ok (UnfitWithin n most mode schema) (Laid n most mode schema) (making n most mode schema) d v range h g (q + 1) b p proper (begins_held g b begins) (shape_of g) refl k.1)
    go (inr k) = inl (ltb-false q most k.0, k.1)

pub refused : (n most : ℕ) (mode : Mode) → forms_of mode ≡ Required → (schema : CoreSchema) → IsBuildable schema
    → (v : Plain) → InRange v → Refuses (UnfitWithin n most mode schema) (making n most mode schema) v
unfolding making
refused zero most mode req schema ok v range h g q b p proper begins e = place_is _ p e
refused (suc n) most mode req schema ok v range h g q b p proper begins e =
    level_refused n most mode schema ok
    (λ w r. (refused n most mode req schema ok w r, layers n most mode req schema ok w r, keeping n most mode req schema ok w r))
    v range h g q b p proper begins e

-- ---- the root

hidden_refused : (n most : ℕ) (x : Hidden) (p : Place) → hidden_root n most x ≡ Err p → UnfitHiddenRoot n most x p
hidden_refused zero most x p e = no_level refl (place_is _ p e)
hidden_refused (suc n) zero x p e = no_part (omega arith) refl (place_is _ p e)
hidden_refused (suc n) (suc most) x p e = go (guard_err (nat_lt 1024 x.depth) _ _ p e)
  where
    go : ((nat_lt 1024 x.depth ≡ true) × (p ≡ stuck at_root why.TooDeep)) ⊎ ((nat_lt 1024 x.depth ≡ false) × (Ok (pruned_of x.hash x.depth) ≡ Err p))
        → UnfitHiddenRoot (suc n) (suc most) x p
    go (inl k) = root_deep (omega arith) (omega arith) (ltb-true 1024 x.depth k.0) k.1
    go (inr k) = absurd (never_err _ p k.1)

pub root_refused : (n most cells : ℕ) (mode : Mode) → forms_of mode ≡ Required → (schema : CoreSchema)
    → IsBuildable schema → (t : Closed) (v : Plain) → InRange v → (p : Place)
    → build_within n most cells mode schema t v ≡ Err p → UnfitRoot n most cells mode schema t v p
root_refused n most cells mode req schema ok t v range p e = go (bind_err (built_root n most mode schema t v) _ p e)
  where
    opened : hides_root mode t v ≡ None
        → (making n most mode schema at_root (under_ref t) 0 v empty ≡ Err p) ⊎ ((x : Made) × (making n most mode schema at_root (under_ref t) 0 v empty ≡ Ok x) × (Ok (finished (under_ref t) x.1.held) ≡ Err p))
        → UnfitRoot n most cells mode schema t v p
    opened f (inl m) =
        open_root f (refused n most mode req schema ok v range at_root (under_ref t) 0 empty p (proper_under t) (begins_new (under_ref t)) m)
    opened f (inr (x, m, l)) = absurd (never_err _ p l)

    stopped : (o : Option Hidden) → hides_root mode t v ≡ o → root_by o n most mode schema t v ≡ Err p
        → UnfitRoot n most cells mode schema t v p
    stopped (Some x) f k = unfit.hidden_root x f (hidden_refused n most x p k)
    stopped None f k = opened f (bind_err (making n most mode schema at_root (under_ref t) 0 v empty) _ p k)

    large : (c : Tree) → built_root n most mode schema t v ≡ Ok c
        → ((nat_lt cells (unfolded c) ≡ true) × (p ≡ stuck at_root why.Sprawl)) ⊎ ((nat_lt cells (unfolded c) ≡ false) × (Ok c ≡ Err p))
        → UnfitRoot n most cells mode schema t v p
    large c k (inl m) =
        let r = root_reads n most mode req schema ok t v range c k in
        sprawls c r.0 r.1 (ltb-true cells (unfolded c) m.0) m.1
    large c k (inr m) = absurd (never_err _ p m.1)

    go : (built_root n most mode schema t v ≡ Err p) ⊎ ((c : Tree) × (built_root n most mode schema t v ≡ Ok c) × (sized cells c ≡ Err p))
        → UnfitRoot n most cells mode schema t v p
    go (inl k) = stopped (hides_root mode t v) refl k
    go (inr (c, k, l)) = large c k (guard_err (nat_lt cells (unfolded c)) _ _ p l)
