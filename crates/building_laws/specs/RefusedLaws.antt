-- Where the plain builder stops, the item or the value doesn't fit at that place.
use Rattle.std.proofs.Common.{◌≡◌, ◌≢◌, ◌<◌, ◌⊎◌, inl, inr, ℕ, zero, suc, ◌+◌, Bool, true, false, not, ◌&&◌, ◌||◌, cond, List, [], ◌∷◌, length, Option, Some, None, Result, Ok, Err, refl, sym, ap, ◌∙◌, subst, arith, nat_lt, nat_eq}
use Rattle.std.specs.Prelude.{ℤ}
use Rattle.std.proofs.lemmas.Bool.{ltb-true, ltb-false, eqb-true, eq-eqb}
use Rattle.bit_slice.specs.Bits.{spelled, signed_spelled, InSignedRange}
use Rattle.cell_nodes.specs.Constructed.{pruned_of}
use Rattle.cell_nodes.specs.Tree.{deepest}
use Rattle.cell_nodes.specs.declared.tree.Tree.{Tree}
use Rattle.cell_nodes.specs.declared.tree.Hidden.{Hidden}
use Rattle.cell_nodes.specs.declared.tree.Mode.{Mode}
use Rattle.cell_nodes.specs.declared.tree.Mode.TheVariants.{Whole, Partial, Lax}
use Rattle.hashmap_tree.specs.Dict.{unseen}
use Rattle.hashmap_tree.specs.Entries.{Slice}
use Rattle.typed_value.specs.Values as values
use Rattle.typed_value.specs.Values.{Plain, Plains, no_vals, a_val, parts}
use Rattle.core_form.specs.Core.{Word, Items, no_items, an_item, check, solve, field, sets, field_names, Declaration, CoreSchema}
use Rattle.core_form.specs.Closed.{Closed, ClosedArgs}
use Rattle.core_form.specs.Closed as closed
use Rattle.core_form.specs.Scope.{Scope, value_in, values_in, with_number, bind}
use Rattle.nat_solver.specs.Number.{Expr, OneUnknown, comparison, Compares}
use Rattle.nat_solver.specs.declared.compare.Op.{Op}
use Rattle.spelling.specs.Goals.{Row, natural, integer, string, no_row, row, Goal, at_type, at_field, at_cell, Shape, typed, fields_here, fields_under, left_out, as_cell, at_fields, under_ref}
use Rattle.spelling.specs.Places.{Spot, Place, stuck, start, item_of, field_of, result_of, tag_of}
use Rattle.spelling.specs.Acceptable.{Seeks}
use Rattle.spelling.specs.PlainReader.{◌>>=◌, known, reported, sought_number, Choice}
use Rattle.spelling.specs.Slices.{nothing, only_bits, only_ref, is_nothing}
use Rattle.spelling.specs.Spells.{own, integer_of, Meets}
use Rattle.spelling.specs.Stuck.{StopsPair, StopsSolve, too_great, onward, NoEnd, StopsResult}
use Rattle.spelling.specs.Stuck as stops
use Rattle.spelling.specs.declared.Cause.{Cause}
use Rattle.spelling.specs.declared.Cause.TheVariants as why
use Rattle.spelling_laws.specs.CompleteLaws.{compares_on}
use Rattle.spelling_laws.specs.ProperLaws.{Proper, ProperShape, proper_under}
use Rattle.spelling_laws.specs.SolvingLaws.{Unsolved, lacking, unsolved, sought_refused, sought_sound}
use Rattle.spelling_laws.specs.StepLaws.{bind_ok, bind_err, only_ok, test_err, reported_err, both}
use Rattle.building.specs.Buildable.{IsBuildable}
use Rattle.building.specs.Growing.{Grown, empty, join, is_over, is_deep, some_deep, lay}
use Rattle.building.specs.PlainBuilder.{Made, Maker, put, put_alone, put_bits, make_natural, is_in_range, make_integer, make_number, make_string, finished, put_ref, make_child, make_hidden, make_cell, turn, make_items, count, grew, Step, make_fields, same_words, has_fields, choose, make_inside, make_declared, make_inner, record_at, number_at, string_at, absent_at, list_at, ref_at, unknown_at, raw_at, rest_at}
use Rattle.building.specs.Unfit.{Misfits, Lays, IsDeep, SomeDeep, HasRoom, HasNoRoom, Crowded, after_rest, full, too_deep, UnfitPut, UnfitBits, UnfitNumber, UnfitString, UnfitChild, UnfitHidden, UnfitNumberAt, UnfitStringAt, UnfitAbsentAt, UnfitRefAt, UnfitUnknownAt, UnfitRawAt, UnfitRestAt, this, idle, later, UnfitItems, UnfitListAt, Put, UnfitFields, HasFields, UnfitDeclared, none_fits, misnamed, no_tag, entered, UnfitInner, UnfitRecordAt}
use Rattle.building_laws.specs.CompleteLaws.{choose_on}
use Rattle.building_laws.specs.GoesLaws.{WasPut, was_put, nothing_is, empty_held, bits_held}
use Rattle.building_laws.specs.MoveLaws.{IsHeld, made}
use Rattle.building_laws.specs.RangeLaws.{in_range_on, in_range_is}
use Rattle.building_laws.specs.RecordSoundLaws.{compares_of, same_is, choose_is}
use Rattle.building_laws.specs.StandsLaws.{has_on}

-- ---- one item

err_same : (v w : Cause) → (◌≡◌ {A = Result Grown Cause} (Err v) (Err w)) → w ≡ v
err_same v w e = cc

test_cause : (b : Bool) (v : Cause) (r : Result Grown Cause) (w : Cause) → cond b (Err v) r ≡ Err w
    → ((b ≡ true) × (w ≡ v)) ⊎ ((b ≡ false) × (r ≡ Err w))
test_cause true v r w e = inl (refl, err_same v w e)
test_cause false v r w e = inr (refl, e)

both_true : (a b : Bool) → (a && b) ≡ true → (a ≡ true) × (b ≡ true)
both_true true b e = (refl, e)
both_true false b e = cc

not_true : (a : Bool) → not a ≡ true → a ≡ false
not_true true e = cc
not_true false e = refl

is_empty_not : (x : Slice) → is_nothing x ≡ false → x ≢ nothing
is_empty_not x e f = let t : is_nothing x ≡ true = ap is_nothing f in clash (is_nothing x) t e
  where
    clash : (a : Bool) → a ≡ true → a ≡ false → ⊥
    clash true e f = cc
    clash false e f = cc

free_of : (t : Bool) (x : Slice) → (t && not (is_nothing x)) ≡ false → t ≡ true → x ≡ nothing
free_of true x e s = nothing_is x (not_false (is_nothing x) e)
  where
    not_false : (a : Bool) → not a ≡ false → a ≡ true
    not_false true e = refl
    not_false false e = cc
free_of false x e s = cc

over_is : (s x : Slice) → is_over s x ≡ true → HasNoRoom s x
over_is s x e = go (nat_lt 1023 (length s.bits + length x.bits)) refl e
  where
    go : (t : Bool) → nat_lt 1023 (length s.bits + length x.bits) ≡ t → (t || nat_lt 4 (length s.refs + length x.refs)) ≡ true
        → HasNoRoom s x
    go true f e = inl (ltb-true 1023 (length s.bits + length x.bits) f)
    go false f e = inr (ltb-true 4 (length s.refs + length x.refs) e)

over_not : (s x : Slice) → is_over s x ≡ false → HasRoom s x
over_not s x e = go (nat_lt 1023 (length s.bits + length x.bits)) refl e
  where
    go : (t : Bool) → nat_lt 1023 (length s.bits + length x.bits) ≡ t → (t || nat_lt 4 (length s.refs + length x.refs)) ≡ false
        → HasRoom s x
    go true f e = cc
    go false f e = (ltb-false 1023 (length s.bits + length x.bits) f, ltb-false 4 (length s.refs + length x.refs) e)

lay_refused : (x : Slice) (Deep : Type 0) (deep last : Bool) (b : Grown) (w : Cause) → (deep ≡ true → Deep)
    → lay x deep last b ≡ Err w → Crowded b x Deep w
lay_refused x Deep deep last b w f e = one (test_cause (b.shut && not (is_nothing x)) _ _ w e)
  where
    never : (g : Grown) → (◌≡◌ {A = Result Grown Cause} (Ok g) (Err w)) → ⊥
    never g e = cc

    three : (b.shut ≡ true → x ≡ nothing) → HasRoom b.held x → (t : Bool) → deep ≡ t
        → cond {A = Result Grown Cause} t (Err why.TooDeep) (Ok (record { held = join b.held x; shut = b.shut || last })) ≡ Err w → Crowded b x Deep w
    three free room true d e = too_deep free room (f d) (err_same why.TooDeep w e)
    three free room false d e = absurd (never _ e)

    two : (b.shut ≡ true → x ≡ nothing)
        → ((is_over b.held x ≡ true) × (w ≡ why.Full)) ⊎ ((is_over b.held x ≡ false) × (cond {A = Result Grown Cause} deep (Err why.TooDeep) (Ok (record { held = join b.held x; shut = b.shut || last })) ≡ Err w))
        → Crowded b x Deep w
    two free (inl k) = full free (over_is b.held x k.0) k.1
    two free (inr k) = three free (over_not b.held x k.0) deep refl k.1

    one : (((b.shut && not (is_nothing x)) ≡ true) × (w ≡ why.AfterRest)) ⊎ (((b.shut && not (is_nothing x)) ≡ false) × (cond {A = Result Grown Cause} (is_over b.held x) (Err why.Full) (cond {A = Result Grown Cause} deep (Err why.TooDeep) (Ok (record { held = join b.held x; shut = b.shut || last }))) ≡ Err w))
        → Crowded b x Deep w
    one (inl k) =
        let t = both_true b.shut (not (is_nothing x)) k.0 in
        after_rest t.0 (is_empty_not x (not_true (is_nothing x) t.1)) k.1
    one (inr k) = two (free_of b.shut x k.0) (test_cause (is_over b.held x) _ _ w k.1)

pub put_refused : (h : Spot) (x : Slice) (Deep : Type 0) (deep last : Bool) (b : Grown) (p : Place) → (deep ≡ true → Deep)
    → put h x deep last b ≡ Err p → UnfitPut h x Deep b p
put_refused h x Deep deep last b p f e =
    let k = reported_err h (lay x deep last b) p e in
    (k.0, lay_refused x Deep deep last b k.0 f k.1, k.2)

pub never_err : {A : Type 0} (x : A) (p : Place) → (◌≡◌ {A = Result A Place} (Ok x) (Err p)) → ⊥
never_err x p e = cc

pub alone_refused : (h : Spot) (x : Slice) (Deep : Type 0) (deep last : Bool) (b : Grown) (p : Place) → (deep ≡ true → Deep)
    → put_alone h x deep last b ≡ Err p → UnfitPut h x Deep b p
alone_refused h x Deep deep last b p f e = go (bind_err (put h x deep last b) _ p e)
  where
    go : (put h x deep last b ≡ Err p) ⊎ ((g : Grown) × (put h x deep last b ≡ Ok g) × (Ok (made [] g) ≡ Err p)) → UnfitPut h x Deep b p
    go (inl k) = put_refused h x Deep deep last b p f k
    go (inr k) = absurd (never_err _ p k.2)

pub bits_refused : (h : Spot) (bits outs : List ℕ) (b : Grown) (p : Place) → put_bits h bits outs b ≡ Err p
    → UnfitBits h bits b p
bits_refused h bits outs b p e = go (bind_err (put h (only_bits bits) false false b) _ p e)
  where
    clash : (let t : Bool = false in t) ≡ true → ⊥
    clash e = cc

    go : (put h (only_bits bits) false false b ≡ Err p) ⊎ ((g : Grown) × (put h (only_bits bits) false false b ≡ Ok g) × (Ok (made outs g) ≡ Err p))
        → UnfitBits h bits b p
    go (inl k) = put_refused h (only_bits bits) ⊥ false false b p clash k
    go (inr k) = absurd (never_err _ p k.2)

-- ---- numbers and bit strings

pub place_is : {A : Type 0} (p q : Place) → (◌≡◌ {A = Result A Place} (Err p) (Err q)) → q ≡ p
place_is p q e = cc

natural_refused : (h : Spot) (width bound : ℕ) (named negative : Bool) (size : ℕ) (b : Grown) (p : Place)
    → make_natural h width bound named negative size b ≡ Err p
    → UnfitNumber h (natural width bound named) negative size b p
natural_refused h width bound named true zero b p e = inl (refl, refl, place_is _ p e)
natural_refused h width bound named true (suc size) b p e = inr (inl (inl (refl, omega arith), place_is _ p e))
natural_refused h width bound named false size b p e = go (test_err (nat_lt size bound) _ _ p e)
  where
    go : ((nat_lt size bound ≡ true) × (put_bits h (spelled width size) (own named size) b ≡ Err p)) ⊎ ((nat_lt size bound ≡ false) × (p ≡ stuck h why.OutOfRange))
        → UnfitNumber h (natural width bound named) false size b p
    go (inl k) = inr (inr (refl, ltb-true size bound k.0, bits_refused h (spelled width size) (own named size) b p k.1))
    go (inr k) = inr (inl (inr (refl, ltb-false size bound k.0), k.1))

out_of_range : (width : ℕ) (z : ℤ) → is_in_range width z ≡ false → InSignedRange width z → ⊥
out_of_range width z e r = clash (is_in_range width z) (in_range_on width z r) e
  where
    clash : (a : Bool) → a ≡ true → a ≡ false → ⊥
    clash true e f = cc
    clash false e f = cc

number_refused : (h : Spot) (k : Row) (negative : Bool) (size : ℕ) (b : Grown) (p : Place)
    → make_number h k negative size b ≡ Err p → UnfitNumber h k negative size b p
number_refused h (natural width bound named) negative size b p e = natural_refused h width bound named negative size b p e
number_refused h (integer width) negative size b p e = go (integer_of negative size) refl e
  where
    by : (z : ℤ) → integer_of negative size ≡ Some z
        → ((is_in_range width z ≡ true) × (put_bits h (signed_spelled width z) [] b ≡ Err p)) ⊎ ((is_in_range width z ≡ false) × (p ≡ stuck h why.OutOfRange))
        → UnfitNumber h (integer width) negative size b p
    by z f (inl k) = inr (z, f, inr (in_range_is width z k.0, bits_refused h (signed_spelled width z) [] b p k.1))
    by z f (inr k) = inr (z, f, inl (out_of_range width z k.0, k.1))

    go : (o : Option ℤ) → integer_of negative size ≡ o → make_integer h width o b ≡ Err p
        → UnfitNumber h (integer width) negative size b p
    go None f e = inl (f, place_is _ p e)
    go (Some z) f e = by z f (test_err (is_in_range width z) _ _ p e)
number_refused h (string width) negative size b p e = place_is _ p e
number_refused h no_row negative size b p e = place_is _ p e

differ : (m n : ℕ) → nat_eq m n ≡ false → m ≢ n
differ m n e f = clash (nat_eq m n) (eq-eqb m n f) e
  where
    clash : (a : Bool) → a ≡ true → a ≡ false → ⊥
    clash true e f = cc
    clash false e f = cc

string_refused : (h : Spot) (k : Row) (bits : List ℕ) (b : Grown) (p : Place) → make_string h k bits b ≡ Err p
    → UnfitString h k bits b p
string_refused h (string width) bits b p e = go (test_err (nat_eq (length bits) width) _ _ p e)
  where
    go : ((nat_eq (length bits) width ≡ true) × (put_bits h bits [] b ≡ Err p)) ⊎ ((nat_eq (length bits) width ≡ false) × (p ≡ stuck h why.Shape))
        → UnfitString h (string width) bits b p
    go (inl k) = inr (eqb-true (length bits) width k.0, bits_refused h bits [] b p k.1)
    go (inr k) = inl (differ (length bits) width k.0, k.1)
string_refused h (natural width bound named) bits b p e = place_is _ p e
string_refused h (integer width) bits b p e = place_is _ p e
string_refused h no_row bits b p e = place_is _ p e

pub number_at_refused : (h : Spot) (c : Shape) (negative : Bool) (size : ℕ) (b : Grown) (p : Place)
    → number_at h c negative size b ≡ Err p → UnfitNumberAt h c negative size b p
number_at_refused h (typed t) negative size b p e = number_refused h (row t) negative size b p e
number_at_refused h (fields_here is scope) negative size b p e = place_is _ p e
number_at_refused h (fields_under is scope) negative size b p e = place_is _ p e
number_at_refused h left_out negative size b p e = place_is _ p e
number_at_refused h as_cell negative size b p e = place_is _ p e

pub string_at_refused : (h : Spot) (c : Shape) (bits : List ℕ) (b : Grown) (p : Place)
    → string_at h c bits b ≡ Err p → UnfitStringAt h c bits b p
string_at_refused h (typed t) bits b p e = string_refused h (row t) bits b p e
string_at_refused h (fields_here is scope) bits b p e = place_is _ p e
string_at_refused h (fields_under is scope) bits b p e = place_is _ p e
string_at_refused h left_out bits b p e = place_is _ p e
string_at_refused h as_cell bits b p e = place_is _ p e

pub absent_at_refused : (h : Spot) (c : Shape) (b : Grown) (p : Place) → absent_at h c b ≡ Err p → UnfitAbsentAt h c p
absent_at_refused h left_out b p e = absurd (never_err _ p e)
absent_at_refused h (typed t) b p e = place_is _ p e
absent_at_refused h (fields_here is scope) b p e = place_is _ p e
absent_at_refused h (fields_under is scope) b p e = place_is _ p e
absent_at_refused h as_cell b p e = place_is _ p e

-- ---- references

deep_of : (c : Tree) → is_deep c ≡ true → IsDeep c
deep_of c e = ltb-true 1023 (deepest c) e

some_deep_of : (cs : List Tree) → some_deep cs ≡ true → SomeDeep cs
some_deep_of [] e = cc
some_deep_of (c ∷ cs) e = go (is_deep c) refl e (some_deep_of cs)
  where
    go : (t : Bool) → is_deep c ≡ t → (t || some_deep cs) ≡ true → (some_deep cs ≡ true → SomeDeep cs)
        → IsDeep c ⊎ SomeDeep cs
    go true f e ih = inl (deep_of c f)
    go false f e ih = inr (ih e)

hidden_refused : (mode : Mode) (h : Spot) (x : Hidden) (b : Grown) (p : Place) → make_hidden mode h x b ≡ Err p
    → UnfitHidden mode h x b p
hidden_refused Partial h x b p e =
    alone_refused h (only_ref (pruned_of x.hash x.depth)) (1023 < x.depth) (nat_lt 1023 x.depth) false b p (λ d. ltb-true 1023 x.depth d) e
hidden_refused Whole h x b p e = place_is _ p e
hidden_refused Lax h x b p e = place_is _ p e

pub unknown_at_refused : (mode : Mode) (h : Spot) (c : Shape) (x : Hidden) (b : Grown) (p : Place)
    → unknown_at mode h c x b ≡ Err p → UnfitUnknownAt mode h c x b p
unknown_at_refused mode h (typed (closed.ref t)) x b p e = hidden_refused mode h x b p e
unknown_at_refused mode h (fields_under is scope) x b p e = hidden_refused mode h x b p e
unknown_at_refused mode h _ x b p e = place_is _ p e

pub raw_at_refused : (mode : Mode) (h : Spot) (c : Shape) (d : Tree) (b : Grown) (p : Place)
    → raw_at mode h c d b ≡ Err p → UnfitRawAt mode h c d p
raw_at_refused mode h as_cell d b p e = go (unseen mode d) refl e
  where
    some : (x : Hidden) → unseen mode d ≡ Some x → unseen mode d ≢ None
    some x f g = let k : (◌≡◌ {A = Option Hidden} (Some x) None) = sym f ∙ g in cc

    go : (o : Option Hidden) → unseen mode d ≡ o → make_cell h o d b ≡ Err p → UnfitRawAt mode h as_cell d p
    go None f e = absurd (never_err _ p e)
    go (Some x) f e = (some x f, place_is _ p e)
raw_at_refused mode h (typed t) d b p e = place_is _ p e
raw_at_refused mode h (fields_here is scope) d b p e = place_is _ p e
raw_at_refused mode h (fields_under is scope) d b p e = place_is _ p e
raw_at_refused mode h left_out d b p e = place_is _ p e

pub rest_at_refused : (h : Spot) (c : Shape) (s : values.Slice) (b : Grown) (p : Place) → rest_at h c s b ≡ Err p
    → UnfitRestAt h c s b p
rest_at_refused h (typed closed.whole) s b p e =
    alone_refused h (record { bits = s.bits; refs = s.refs }) (SomeDeep s.refs) (some_deep s.refs) true b p (some_deep_of s.refs) e
rest_at_refused h _ s b p e = place_is _ p e

-- ---- parts

-- what a content must be where a part begins: at a cell of any kind a new one, else within the limits
abbrev pub Begins : Goal → Grown → Type 0
Begins (at_type t) b = IsHeld b.held
Begins (at_field e t scope) b = IsHeld b.held
Begins at_cell b = b ≡ empty

abbrev pub Refuses : Misfits → Maker → Plain → Type 0
Refuses S R v =
    (h : Spot) (g : Goal) (q : ℕ) (b : Grown) (p : Place) → Proper g → Begins g b → R h g q v b ≡ Err p → S h g q v b p

abbrev pub Layers : Lays → Maker → Plain → Type 0
Layers P R v =
    (h : Spot) (g : Goal) (q : ℕ) (b : Grown) (outs : List ℕ) (x : Grown) → Proper g → Begins g b
    → R h g q v b ≡ Ok (made outs x) → P g q v b outs x

-- what can stand in a cell still can
abbrev pub KeepsIn : Goal → Grown → Grown → Type 0
KeepsIn (at_type t) b x = IsHeld b.held → IsHeld x.held
KeepsIn (at_field e t scope) b x = IsHeld b.held → IsHeld x.held
KeepsIn at_cell b x = Unit {0}

abbrev pub Keeping : Maker → Plain → Type 0
Keeping R v =
    (h : Spot) (g : Goal) (q : ℕ) (b : Grown) (outs : List ℕ) (x : Grown) → Begins g b
    → R h g q v b ≡ Ok (made outs x) → KeepsIn g b x

abbrev pub Settles : Misfits → Lays → Maker → Plain → Type 0
Settles S P R v = Refuses S R v × Layers P R v × Keeping R v

abbrev pub AllSettle : Misfits → Lays → Maker → Plains → Type 0
AllSettle S P R no_vals = Unit {0}
AllSettle S P R (a_val v vs) = Settles S P R v × AllSettle S P R vs

pub begins_new : (g : Goal) → Begins g empty
begins_new (at_type t) = empty_held
begins_new (at_field e t scope) = empty_held
begins_new at_cell = refl

child_refused : (S : Misfits) (P : Lays) (R : Maker) (v : Plain) → Settles S P R v → (h : Spot) (g : Goal) (q : ℕ)
    (b : Grown) (p : Place) → Proper g → make_child R h g q v b ≡ Err p → UnfitChild S P h g q v b p
child_refused S P R v d h g q b p proper e = go (bind_err (R h g q v empty) _ p e)
  where
    go : (R h g q v empty ≡ Err p) ⊎ ((y : Made) × (R h g q v empty ≡ Ok y) × (put_ref h (finished g y.1.held) b ≡ Err p))
        → UnfitChild S P h g q v b p
    go (inl k) = inl (d.0 h g q empty p proper (begins_new g) k)
    go (inr (y, k, l)) = inr (y.0, y.1, d.1 h g q empty y.0 y.1 proper (begins_new g) k, alone_refused h (only_ref (finished g y.1.held)) (IsDeep (finished g y.1.held)) (is_deep (finished g y.1.held)) false b p (deep_of (finished g y.1.held)) l)

pub ref_at_refused : (S : Misfits) (P : Lays) (R : Maker) (v : Plain) → Settles S P R v → (h : Spot) (c : Shape) (q : ℕ)
    (b : Grown) (p : Place) → ProperShape c → ref_at R h c q v b ≡ Err p → UnfitRefAt S P h c q v b p
ref_at_refused S P R v d h (typed (closed.ref t)) q b p proper e = child_refused S P R v d h (under_ref t) q b p (proper_under t) e
ref_at_refused S P R v d h (fields_under is scope) q b p proper e = child_refused S P R v d h (at_fields is scope) q b p proper e
ref_at_refused S P R v d h _ q b p proper e = place_is _ p e

-- ---- lists

made_one : (a c : Made) → (◌≡◌ {A = Result Made Place} (Ok a) (Ok c)) → a ≡ c
made_one a c e = cc

items_refused : (S : Misfits) (P : Lays) (R : Maker) (vs : Plains) → AllSettle S P R vs → (h : Spot) (t : Closed) (q : ℕ)
    (b : Grown) (p : Place) → IsHeld b.held → make_items R h t q vs b ≡ Err p → UnfitItems S P h t q vs b p
items_refused S P R no_vals d h t q b p held e = absurd (never_err _ p e)
items_refused S P R (a_val v vs) d h t q b p held e =
    outer (bind_err (turn R h t q v b) _ p e) (λ g. items_refused S P R vs d.1 h t (q + parts v) g p)
  where
    inside : (R h (at_type t) q v b ≡ Err p) ⊎ ((y : Made) × (R h (at_type t) q v b ≡ Ok y) × (cond (grew b y.1) (Ok y) (Err (stuck h why.Idle)) ≡ Err p))
        → UnfitItems S P h t q (a_val v vs) b p
    inside (inl k) = this (d.0.0 h (at_type t) q b p tt held k)
    inside (inr (y, k, l)) = by (test_err (grew b y.1) _ _ p l)
      where
        by : ((grew b y.1 ≡ true) × (◌≡◌ {A = Result Made Place} (Ok y) (Err p))) ⊎ ((grew b y.1 ≡ false) × (p ≡ stuck h why.Idle))
            → UnfitItems S P h t q (a_val v vs) b p
        by (inl m) = absurd (never_err y p m.1)
        by (inr m) = idle y.0 y.1 (d.0.1 h (at_type t) q b y.0 y.1 tt held k) m.0 m.1

    outer : (turn R h t q v b ≡ Err p) ⊎ ((z : Made) × (turn R h t q v b ≡ Ok z) × (make_items R h t (q + parts v) vs z.1 ≡ Err p))
        → ((g : Grown) → IsHeld g.held → make_items R h t (q + parts v) vs g ≡ Err p → UnfitItems S P h t (q + parts v) vs g p)
        → UnfitItems S P h t q (a_val v vs) b p
    outer (inl k) ih = inside (bind_err (R h (at_type t) q v b) _ p k)
    outer (inr (z, k, l)) ih = took (bind_ok (R h (at_type t) q v b) _ z k) l ih
      where
        took : (y : Made) × (R h (at_type t) q v b ≡ Ok y) × (cond (grew b y.1) (Ok y) (Err (stuck h why.Idle)) ≡ Ok z)
            → make_items R h t (q + parts v) vs z.1 ≡ Err p
            → ((g : Grown) → IsHeld g.held → make_items R h t (q + parts v) vs g ≡ Err p → UnfitItems S P h t (q + parts v) vs g p)
            → UnfitItems S P h t q (a_val v vs) b p
        took (y, m, c) l ih =
            let g = only_ok (grew b y.1) _ (Ok y) z c in
            let same : y ≡ z = made_one y z g.1 in
            let M : Made → Type 0 = λ a. make_items R h t (q + parts v) vs a.1 ≡ Err p in
            later y.0 y.1 (d.0.1 h (at_type t) q b y.0 y.1 tt held m) g.0 (ih y.1 (d.0.2 h (at_type t) q b y.0 y.1 held m held) (subst M (sym same) l))

pub list_at_refused : (S : Misfits) (P : Lays) (R : Maker) (vs : Plains) → AllSettle S P R vs → (h : Spot) (c : Shape) (q : ℕ)
    (b : Grown) (p : Place) → IsHeld b.held → list_at R h c q vs b ≡ Err p → UnfitListAt S P h c q vs b p
list_at_refused S P R vs d h (typed (closed.repeat n t)) q b p held e = go (test_err (nat_eq (count vs) n) _ _ p e)
  where
    inside : (make_items R h t q vs b ≡ Err p) ⊎ ((g : Grown) × (make_items R h t q vs b ≡ Ok g) × (Ok (made [] g) ≡ Err p))
        → UnfitItems S P h t q vs b p
    inside (inl k) = items_refused S P R vs d h t q b p held k
    inside (inr k) = absurd (never_err _ p k.2)

    go : ((nat_eq (count vs) n ≡ true) × ((make_items R h t q vs b >>= λ g. Ok (made [] g)) ≡ Err p)) ⊎ ((nat_eq (count vs) n ≡ false) × (p ≡ stuck h why.Shape))
        → UnfitListAt S P h (typed (closed.repeat n t)) q vs b p
    go (inl k) = inr (eqb-true (count vs) n k.0, inside (bind_err (make_items R h t q vs b) _ p k.1))
    go (inr k) = inl (differ (count vs) n k.0, k.1)
list_at_refused S P R vs d h _ q b p held e = place_is _ p e

-- ---- records

-- an answer that is a fault at this place, or none
abbrev pub IsFaultAt : {A : Type 0} → Result A Place → Place → Type 0
IsFaultAt {A = A} r p = (q : Place) → (◌≡◌ {A = Result A Place} (Err q) r) → p ≡ q

-- a comparison, from the answer of what follows
check_from : {B : Type 0} (h : Spot) (op : Op) (o k : Option ℕ) (Later : ℕ → ℕ → Type 0) (p : Place) (y : Step)
    (f : Step → Result B Place) (r : Result B Place) → IsFaultAt r p → ((m n : ℕ) → f y ≡ r → Later m n)
    → ((known h o >>= λ m. known h k >>= λ n. cond (comparison op m n) (Ok y) (Err (stuck h why.Constraint))) >>= f) ≡ r
    → StopsPair h (λ m n. (Compares op m n → ⊥) × (p ≡ stuck h why.Constraint)) (λ m n. Compares op m n × Later m n) o k p
check_from h op None k Later p y f r at more e = at _ e
check_from h op (Some m) None Later p y f r at more e = at _ e
check_from {B = B} h op (Some m) (Some n) Later p y f r at more e = go (comparison op m n) refl e
  where
    unlike : comparison op m n ≡ false → Compares op m n → ⊥
    unlike c d = clash (comparison op m n) (compares_on op m n d) c
      where
        clash : (a : Bool) → a ≡ true → a ≡ false → ⊥
        clash true e f = cc
        clash false e f = cc

    go : (t : Bool) → comparison op m n ≡ t → (cond t (Ok y) (Err (stuck h why.Constraint)) >>= f) ≡ r
        → ((Compares op m n → ⊥) × (p ≡ stuck h why.Constraint)) ⊎ (Compares op m n × Later m n)
    go true c e = inr (compares_of op m n c, more m n e)
    go false c e = inl (unlike c, at _ e)

-- an equation
solve_from : {B : Type 0} (h : Spot) (v : ℕ) (a c : Expr) → OneUnknown a c v → (scope : Scope) (Later : ℕ → Type 0)
    (p : Place) (y : ℕ → Step) (f : Step → Result B Place) (r : Result B Place) → IsFaultAt r p
    → ((x : ℕ) → f (y x) ≡ r → Later x)
    → ((reported h (sought_number a c scope.numbers) >>= λ x. Ok (y x)) >>= f) ≡ r
    → StopsSolve h a c scope Later p
solve_from h v a c one scope Later p y f r at more e = go (sought_number a c scope.numbers) refl e
  where
    why_not : (w : Cause) → Unsolved a c scope.numbers w → p ≡ stuck h w → StopsSolve h a c scope Later p
    why_not w (lacking d is same) q =
        too_great (λ n. let k : (◌≡◌ {A = Option Expr} (Some d) None) = sym is ∙ n in absurd (some_none d k)) (q ∙ ap (stuck h) same)
      where
        some_none : (d : Expr) → (◌≡◌ {A = Option Expr} (Some d) None) → ⊥
        some_none d k = cc
    why_not w (unsolved none not same) q = stops.unsolved none not (q ∙ ap (stuck h) same)

    go : (o : Result ℕ Cause) → sought_number a c scope.numbers ≡ o → ((reported h o >>= λ x. Ok (y x)) >>= f) ≡ r
        → StopsSolve h a c scope Later p
    go (Err w) k e = why_not w (sought_refused a c scope.numbers v w one k) (at _ e)
    go (Ok x) k e = onward x (sought_sound a c scope.numbers x k) (more x e)

-- the items of a record that don't fit, or what doesn't fit after them
pub fields_from : (S : Misfits) (P : Lays) (R : Maker) (End : Scope → Type 0) (p : Place)
    (r : Result (Scope × Grown) Place) → IsFaultAt r p
    → ((end : Scope) (x : Grown) → (◌≡◌ {A = Result (Scope × Grown) Place} (Ok (end, x)) r) → End end) → (h : Spot) (is : Items)
    → Seeks is → (vs : Plains) → AllSettle S P R vs → (scope : Scope) (q : ℕ) (b : Grown) → IsHeld b.held
    → make_fields R h is scope q vs b ≡ r → UnfitFields S P End h is scope q vs b p
fields_from S P R End p r at ends h no_items seeks no_vals d scope q b held e = ends scope b e
fields_from S P R End p r at ends h no_items seeks (a_val v vs) d scope q b held e = at _ e
fields_from S P R End p r at ends h (an_item (check a op c i) is) seeks vs d scope q b held e =
    check_from (item_of h i) op (value_in a scope) (value_in c scope) (λ m n. UnfitFields S P End h is scope q vs b p) p
    (record { scope = scope; begun = q; due = vs; grown = b }) (λ y. make_fields R h is y.scope y.begun y.due y.grown) r at
    (λ m n k. fields_from S P R End p r at ends h is seeks vs d scope q b held k) e
fields_from S P R End p r at ends h (an_item (solve v a c i) is) seeks vs d scope q b held e =
    solve_from (item_of h i) v a c seeks.0 scope (λ x. UnfitFields S P End h is (with_number v x scope) q vs b p) p
    (λ x. record { scope = with_number v x scope; begun = q; due = vs; grown = b }) (λ y. make_fields R h is y.scope y.begun y.due y.grown) r at
    (λ x k. fields_from S P R End p r at ends h is seeks.1 vs d (with_number v x scope) q b held k) e
fields_from S P R End p r at ends h (an_item (field x slot c t) is) seeks no_vals d scope q b held e = at _ e
fields_from S P R End p r at ends h (an_item (field x slot c t) is) seeks (a_val v vs) d scope q b held e =
    go (R (field_of h x) (at_field c t scope) q v b) refl e
    (λ y k l m. fields_from S P R End p r at ends h is seeks.1 vs d.1 (bind (sets slot t) y.0 scope) (q + parts v) y.1 l m)
  where
    go : (o : Result Made Place) → R (field_of h x) (at_field c t scope) q v b ≡ o
        → ((o >>= λ y. Ok (let s : Step = record { scope = bind (sets slot t) y.0 scope; begun = q + parts v; due = vs; grown = y.1 } in s)) >>= λ y. make_fields R h is y.scope y.begun y.due y.grown) ≡ r
        → ((y : Made) → R (field_of h x) (at_field c t scope) q v b ≡ Ok y → IsHeld y.1.held → make_fields R h is (bind (sets slot t) y.0 scope) (q + parts v) vs y.1 ≡ r
        → UnfitFields S P End h is (bind (sets slot t) y.0 scope) (q + parts v) vs y.1 p)
        → UnfitFields S P End h (an_item (field x slot c t) is) scope q (a_val v vs) b p
    go (Err w) k e more = inl (d.0.0 (field_of h x) (at_field c t scope) q b p seeks.0 held (k ∙ ap Err (sym (at w e))))
    go (Ok y) k e more =
        inr (y.0, y.1, d.0.1 (field_of h x) (at_field c t scope) q b y.0 y.1 seeks.0 held k, more y k (d.0.2 (field_of h x) (at_field c t scope) q b y.0 y.1 held k held) e)

-- ---- declared types

no_fault : {A : Type 0} (x : A) (p : Place) → IsFaultAt (Ok x) p
no_fault x p q e = absurd (never_ok q x e)
  where
    never_ok : {A : Type 0} (q : Place) (x : A) → (◌≡◌ {A = Result A Place} (Err q) (Ok x)) → ⊥
    never_ok q x e = cc

this_fault : {A : Type 0} (p : Place) → IsFaultAt {A = A} (Err p) p
this_fault p q e = place_is q p e

abbrev Got : Type 0
Got = Scope × Grown

never_got : (end : Scope) (x : Grown) (p : Place) → (◌≡◌ {A = Result Got Place} (Ok (end, x)) (Err p)) → ⊥
never_got end x p e = cc

-- the items stop
fields_refused : (S : Misfits) (P : Lays) (R : Maker) (End : Scope → Type 0) (p : Place) (h : Spot) (is : Items)
    → Seeks is → (vs : Plains) → AllSettle S P R vs → (scope : Scope) (q : ℕ) (b : Grown) → IsHeld b.held
    → make_fields R h is scope q vs b ≡ Err p → UnfitFields S P End h is scope q vs b p
fields_refused S P R End p h is seeks vs d scope q b held e =
    fields_from S P R End p (Err p) (this_fault p) (λ end x k. absurd (never_got end x p k)) h is seeks vs d scope q b held e

-- the items are put, and what follows them stops
fields_after : (S : Misfits) (P : Lays) (R : Maker) (End : Scope → Type 0) (p : Place) (end : Scope) (x : Grown) → End end
    → (h : Spot) (is : Items) → Seeks is → (vs : Plains) → AllSettle S P R vs → (scope : Scope) (q : ℕ) (b : Grown)
    → IsHeld b.held → make_fields R h is scope q vs b ≡ Ok (end, x) → UnfitFields S P End h is scope q vs b p
fields_after S P R End p end x at_end h is seeks vs d scope q b held e =
    fields_from S P R End p (Ok (end, x)) (no_fault (end, x) p) (λ last y k. subst End (sym (same last y k)) at_end) h is seeks vs d scope q b held e
  where
    same : (last : Scope) (y : Grown) → (◌≡◌ {A = Result Got Place} (Ok (last, y)) (Ok (end, x))) → last ≡ end
    same last y k = ap (λ (z : Got). z.0) (one (last, y) (end, x) k)
      where
        one : (a c : Got) → (◌≡◌ {A = Result Got Place} (Ok a) (Ok c)) → a ≡ c
        one a c e = cc

fields_not : (names : List Word) (vs : Plains) (is : Items) → has_fields names vs is ≡ false → HasFields names vs is → ⊥
fields_not names vs is e f = clash (has_fields names vs is) (has_on names vs is f) e
  where
    clash : (a : Bool) → a ≡ true → a ≡ false → ⊥
    clash true e f = cc
    clash false e f = cc

fields_are : (names : List Word) (vs : Plains) (is : Items) → has_fields names vs is ≡ true → HasFields names vs is
fields_are names vs is e =
    let k = both (same_words names (field_names is)) (nat_eq (count vs) (length names)) e in
    (same_is names (field_names is) k.0, eqb-true (count vs) (length names) k.1)

inner_refused : (S : Misfits) (P : Lays) (R : Maker) (vs : Plains) → AllSettle S P R vs → (h : Spot) (is : Items) → Seeks is
    → (scope : Scope) (q : ℕ) (names : List Word) (b : Grown) (p : Place) → IsHeld b.held
    → make_inner R h is scope q names vs b ≡ Err p → UnfitInner S P h is scope q names vs b p
inner_refused S P R vs d h is seeks scope q names b p held e = go (test_err (has_fields names vs is) _ _ p e)
  where
    inside : (make_fields R h is scope q vs b ≡ Err p) ⊎ ((x : Got) × (make_fields R h is scope q vs b ≡ Ok x) × (Ok (made [] x.1) ≡ Err p))
        → UnfitFields S P NoEnd h is scope q vs b p
    inside (inl k) = fields_refused S P R NoEnd p h is seeks vs d scope q b held k
    inside (inr k) = absurd (never_err _ p k.2)

    go : ((has_fields names vs is ≡ true) × ((make_fields R h is scope q vs b >>= λ x. Ok (made [] x.1)) ≡ Err p)) ⊎ ((has_fields names vs is ≡ false) × (p ≡ stuck h why.Shape))
        → UnfitInner S P h is scope q names vs b p
    go (inl k) = inr (fields_are names vs is k.0, inside (bind_err (make_fields R h is scope q vs b) _ p k.1))
    go (inr k) = inl (fields_not names vs is k.0, k.1)

put_of : (x : Slice) (b g : Grown) → WasPut x false false b g → Put x ⊥ false b g
put_of x b g w =
    (record { held = ap (λ (z : Grown). z.held) w.is; shut = ap (λ (z : Grown). z.shut) w.is; free = w.free }, (w.short, w.few), λ d. d)

inside_refused : (S : Misfits) (P : Lays) (schema : CoreSchema) → IsBuildable schema → (R : Maker) (vs : Plains)
    → AllSettle S P R vs → (h : Spot) (type : Word) (args : ClosedArgs) (q : ℕ) (name : Word) (names : List Word) (b : Grown)
    (p : Place) → IsHeld b.held → (at : ℕ) (c : Declaration) (scope : Scope) → Meets schema type name args at c scope
    → HasFields names vs c.core.items → make_inside R c scope q vs b ≡ Err p
    → UnfitDeclared schema S P h type args q name names vs b p
inside_refused S P schema ok R vs d h type args q name names b p held at c scope m f e =
    tag (bind_err (put (tag_of (start c)) (only_bits c.core.tag) false false b) _ p e)
  where
    bits_clash : (let t : Bool = false in t) ≡ true → ⊥
    bits_clash e = cc

    outs_of : (end : Scope) (x : Grown) (o : Option (List ℕ)) → values_in c.core.outputs end ≡ o
        → (known (result_of (start c)) o >>= λ outs. Ok (made outs x)) ≡ Err p → StopsResult (start c) c.core.outputs p end
    outs_of end x None k e = (k, place_is _ p e)
    outs_of end x (Some outs) k e = absurd (never_err (made outs x) p e)

    after : (g : Grown) → IsHeld g.held → (make_fields R (start c) c.core.items scope q vs g ≡ Err p) ⊎ ((x : Got) × (make_fields R (start c) c.core.items scope q vs g ≡ Ok x) × ((known (result_of (start c)) (values_in c.core.outputs x.0) >>= λ outs. Ok (made outs x.1)) ≡ Err p))
        → UnfitFields S P (StopsResult (start c) c.core.outputs p) (start c) c.core.items scope q vs g p
    after g k (inl l) = fields_refused S P R (StopsResult (start c) c.core.outputs p) p (start c) c.core.items (ok.acceptable.seeks at c m.there) vs d scope q g k l
    after g k (inr (x, l, n)) =
        fields_after S P R (StopsResult (start c) c.core.outputs p) p x.0 x.1 (outs_of x.0 x.1 (values_in c.core.outputs x.0) refl n) (start c) c.core.items (ok.acceptable.seeks at c m.there) vs d scope q g k l

    tag : (put (tag_of (start c)) (only_bits c.core.tag) false false b ≡ Err p) ⊎ ((g : Grown) × (put (tag_of (start c)) (only_bits c.core.tag) false false b ≡ Ok g) × ((make_fields R (start c) c.core.items scope q vs g >>= λ x. known (result_of (start c)) (values_in c.core.outputs x.0) >>= λ outs. Ok (made outs x.1)) ≡ Err p))
        → UnfitDeclared schema S P h type args q name names vs b p
    tag (inl k) = no_tag at c scope m f (put_refused (tag_of (start c)) (only_bits c.core.tag) ⊥ false false b p bits_clash k)
    tag (inr (g, k, l)) =
        let w = was_put (tag_of (start c)) (only_bits c.core.tag) false false b g k in
        entered at c scope g m f (put_of (only_bits c.core.tag) b g w) (after g (bits_held c.core.tag b g w (ok.tags at c m.there) held) (bind_err (make_fields R (start c) c.core.items scope q vs g) _ p l))

declared_refused : (S : Misfits) (P : Lays) (schema : CoreSchema) → IsBuildable schema → (R : Maker) (vs : Plains)
    → AllSettle S P R vs → (h : Spot) (type : Word) (args : ClosedArgs) (q : ℕ) (name : Word) (names : List Word) (b : Grown)
    (p : Place) → IsHeld b.held → (o : Option Choice) → choose schema type name args ≡ o
    → make_declared R h o q names vs b ≡ Err p → UnfitDeclared schema S P h type args q name names vs b p
declared_refused S P schema ok R vs d h type args q name names b p held None k e =
    none_fits (λ at c scope m. some_none (c, scope) (sym (choose_on type name args schema ok.names at c scope m) ∙ k)) (place_is _ p e)
  where
    some_none : (z : Choice) → (◌≡◌ {A = Option Choice} (Some z) None) → ⊥
    some_none z e = cc
declared_refused S P schema ok R vs d h type args q name names b p held (Some z) k e =
    let there = choose_is type name args schema z.0 z.1 k in
    go there.0 there.1 (test_err (has_fields names vs z.0.core.items) _ _ p e)
  where
    go : (at : ℕ) → Meets schema type name args at z.0 z.1
        → ((has_fields names vs z.0.core.items ≡ true) × (make_inside R z.0 z.1 q vs b ≡ Err p)) ⊎ ((has_fields names vs z.0.core.items ≡ false) × (p ≡ stuck h why.Shape))
        → UnfitDeclared schema S P h type args q name names vs b p
    go at m (inl f) = inside_refused S P schema ok R vs d h type args q name names b p held at z.0 z.1 m (fields_are names vs z.0.core.items f.0) f.1
    go at m (inr f) = misnamed at z.0 z.1 m (fields_not names vs z.0.core.items f.0) f.1

pub record_at_refused : (S : Misfits) (P : Lays) (schema : CoreSchema) → IsBuildable schema → (R : Maker) (vs : Plains)
    → AllSettle S P R vs → (h : Spot) (c : Shape) (q : ℕ) (name : Word) (names : List Word) (b : Grown) (p : Place)
    → IsHeld b.held → record_at schema R h c q (Some name) names vs b ≡ Err p
    → UnfitRecordAt schema S P h c q (Some name) names vs b p
record_at_refused S P schema ok R vs d h (typed (closed.named type args)) q name names b p held e =
    declared_refused S P schema ok R vs d h type args q name names b p held (choose schema type name args) refl e
record_at_refused S P schema ok R vs d h _ q name names b p held e = place_is _ p e

pub inner_at_refused : (S : Misfits) (P : Lays) (schema : CoreSchema) (R : Maker) (vs : Plains)
    → AllSettle S P R vs → (h : Spot) (c : Shape) (q : ℕ) (names : List Word) (b : Grown) (p : Place) → ProperShape c
    → IsHeld b.held → record_at schema R h c q None names vs b ≡ Err p → UnfitRecordAt schema S P h c q None names vs b p
inner_at_refused S P schema R vs d h (fields_here is scope) q names b p proper held e =
    inner_refused S P R vs d h is proper scope q names b p held e
inner_at_refused S P schema R vs d h (typed (closed.named type args)) q names b p proper held e = place_is _ p e
inner_at_refused S P schema R vs d h _ q names b p proper held e = place_is _ p e
