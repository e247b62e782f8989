-- Where an item or a value doesn't fit, the plain builder stops at that place.
use Rattle.std.proofs.Common.{◌≡◌, ◌≢◌, ◌<◌, inl, inr, ℕ, zero, suc, ◌+◌, Bool, true, false, not, ◌&&◌, ◌||◌, cond, List, [], ◌∷◌, ◌++◌, length, Option, Some, None, Result, Ok, Err, refl, sym, ap, ◌∙◌, arith, nat_lt, nat_eq}
use Rattle.std.specs.Prelude.{ℤ}
use Rattle.std.proofs.lemmas.Bool.{lt-ltb, le-ltb, eqb-true, eq-eqb}
use Rattle.bit_slice.specs.Bits.{spelled, signed_spelled, InSignedRange}
use Rattle.cell_nodes.specs.Constructed.{pruned_of}
use Rattle.cell_nodes.specs.Tree.{deepest}
use Rattle.cell_nodes.specs.declared.tree.Tree.{Tree}
use Rattle.cell_nodes.specs.declared.tree.Hidden.{Hidden}
use Rattle.cell_nodes.specs.declared.tree.Mode.{Mode}
use Rattle.cell_nodes.specs.declared.tree.Mode.TheVariants.{Whole, Partial, Lax}
use Rattle.hashmap_tree.specs.Dict.{unseen}
use Rattle.hashmap_tree.specs.Entries.{Slice}
use Rattle.typed_value.specs.Values as values
use Rattle.typed_value.specs.Values.{Plain, Plains, PlainPairs, no_vals, a_val, no_pairs, a_pair, parts}
use Rattle.core_form.specs.Core.{Word, Items, no_items, an_item, check, solve, field, sets, field_names, Declaration, CoreSchema}
use Rattle.core_form.specs.Closed.{Closed, ClosedArgs}
use Rattle.core_form.specs.Closed as closed
use Rattle.core_form.specs.Scope.{Scope, value_in, with_number, bind}
use Rattle.nat_solver.specs.Number.{Expr, Numbers, OneUnknown, comparison, Compares, first_lacking}
use Rattle.nat_solver.specs.Number as numbers
use Rattle.nat_solver.specs.declared.compare.Op.{Op}
use Rattle.spelling.specs.Goals.{Row, natural, integer, string, no_row, row, Goal, at_type, at_field, Shape, typed, fields_here, fields_under, left_out, as_cell, at_fields, under_ref}
use Rattle.spelling.specs.Places.{Spot, Place, stuck, start, item_of, field_of, result_of, tag_of}
use Rattle.spelling.specs.Acceptable.{Seeks}
use Rattle.spelling.specs.PlainReader.{◌>>=◌, known, reported, sought_number, Choice}
use Rattle.spelling.specs.Slices.{nothing, only_bits, only_ref, is_nothing}
use Rattle.spelling.specs.Spells.{own, Meets}
use Rattle.spelling.specs.Stuck.{StopsPair, StopsSolve, too_great, onward, NoEnd, StopsResult}
use Rattle.spelling.specs.Stuck as stops
use Rattle.spelling.specs.declared.Cause.{Cause}
use Rattle.spelling.specs.declared.Cause.TheVariants as why
use Rattle.spelling_laws.specs.CompleteLaws.{compares_on}
use Rattle.spelling_laws.specs.ProperLaws.{Proper, ProperShape, proper_under}
use Rattle.spelling_laws.specs.SolvingLaws.{sought_complete, sought_stands, lacking, unsolved}
use Rattle.spelling_laws.specs.StepLaws.{bind_on, bind_fault, when_true, when_false, both, both_on}
use Rattle.building.specs.Buildable.{IsBuildable}
use Rattle.building.specs.Growing.{Grown, empty, join, is_over, is_deep, some_deep, lay}
use Rattle.building.specs.PlainBuilder.{Maker, put, put_alone, put_bits, make_natural, is_in_range, make_integer, make_number, make_string, finished, make_child, make_hidden, make_cell, turn, make_items, count, grew, Step, step, make_fields, same_words, has_fields, choose, make_declared, make_inner, number_at, string_at, record_at, absent_at, list_at, ref_at, unknown_at, raw_at, rest_at}
use Rattle.building.specs.Unfit.{Misfits, Lays, Put, this, idle, later, UnfitItems, UnfitFields, HasFields, UnfitDeclared, none_fits, misnamed, no_tag, entered, UnfitInner, UnfitRecordAt, UnfitListAt, IsDeep, SomeDeep, HasRoom, HasNoRoom, Crowded, after_rest, full, too_deep, UnfitPut, UnfitBits, UnfitNumber, UnfitString, UnfitChild, UnfitHidden, UnfitNumberAt, UnfitStringAt, UnfitAbsentAt, UnfitRefAt, UnfitUnknownAt, UnfitRawAt, UnfitRestAt}
use Rattle.building_laws.specs.CompleteLaws.{choose_on, same_on}
use Rattle.building_laws.specs.GoesLaws.{nothing_is}
use Rattle.building_laws.specs.MoveLaws.{made}
use Rattle.building_laws.specs.RangeLaws.{in_range_on, in_range_is}
use Rattle.building_laws.specs.RecordSoundLaws.{compares_of, same_is, choose_is}

-- ---- one item

some_thing : (x : Slice) → x ≢ nothing → is_nothing x ≡ false
some_thing x ne = go (is_nothing x) refl
  where
    go : (t : Bool) → is_nothing x ≡ t → t ≡ false
    go true e = absurd (ne (nothing_is x e))
    go false e = refl

and_true : (a b : Bool) → a ≡ true → b ≡ true → (a && b) ≡ true
and_true true b e f = f
and_true false b e f = cc

is_free : (t : Bool) (x : Slice) → (t ≡ true → x ≡ nothing) → (t && not (is_nothing x)) ≡ false
is_free true x f = ap (λ z. not (is_nothing z)) (f refl)
is_free false x f = refl

or_left : (a b : Bool) → a ≡ true → (a || b) ≡ true
or_left true b e = refl
or_left false b e = cc

or_right : (a b : Bool) → b ≡ true → (a || b) ≡ true
or_right true b e = refl
or_right false b e = e

over_on : (s x : Slice) → HasNoRoom s x → is_over s x ≡ true
over_on s x (inl h) = or_left (nat_lt 1023 (length s.bits + length x.bits)) _ (lt-ltb 1023 (length s.bits + length x.bits) h)
over_on s x (inr h) = or_right (nat_lt 1023 (length s.bits + length x.bits)) _ (lt-ltb 4 (length s.refs + length x.refs) h)

room_on : (s x : Slice) → HasRoom s x → is_over s x ≡ false
room_on s x h = λ i. le-ltb 1023 (length s.bits + length x.bits) h.0 i || le-ltb 4 (length s.refs + length x.refs) h.1 i

lay_stands : (x : Slice) (Deep : Type 0) (deep last : Bool) (b : Grown) (w : Cause) → (Deep → deep ≡ true)
    → Crowded b x Deep w → lay x deep last b ≡ Err w
lay_stands x Deep deep last b w f (after_rest s ne e) =
    when_true (b.shut && not (is_nothing x)) _ _ (and_true b.shut (not (is_nothing x)) s (ap not (some_thing x ne))) ∙ ap Err (sym e)
lay_stands x Deep deep last b w f (full free n e) =
    when_false (b.shut && not (is_nothing x)) _ _ (is_free b.shut x free) ∙ when_true (is_over b.held x) _ _ (over_on b.held x n) ∙ ap Err (sym e)
lay_stands x Deep deep last b w f (too_deep free room d e) =
    when_false (b.shut && not (is_nothing x)) _ _ (is_free b.shut x free) ∙ when_false (is_over b.held x) _ _ (room_on b.held x room) ∙ when_true deep _ _ (f d) ∙ ap Err (sym e)

pub put_stands : (h : Spot) (x : Slice) (Deep : Type 0) (deep last : Bool) (b : Grown) (p : Place) → (Deep → deep ≡ true)
    → UnfitPut h x Deep b p → put h x deep last b ≡ Err p
put_stands h x Deep deep last b p f u =
    ap (reported h) (lay_stands x Deep deep last b u.0 f u.1) ∙ ap Err (sym u.2)

pub alone_stands : (h : Spot) (x : Slice) (Deep : Type 0) (deep last : Bool) (b : Grown) (p : Place) → (Deep → deep ≡ true)
    → UnfitPut h x Deep b p → put_alone h x deep last b ≡ Err p
alone_stands h x Deep deep last b p f u = bind_fault (put h x deep last b) _ p (put_stands h x Deep deep last b p f u)

pub bits_stand : (h : Spot) (bits outs : List ℕ) (b : Grown) (p : Place) → UnfitBits h bits b p
    → put_bits h bits outs b ≡ Err p
bits_stand h bits outs b p u =
    bind_fault (put h (only_bits bits) false false b) _ p (put_stands h (only_bits bits) ⊥ false false b p (λ d. absurd d) u)

-- ---- numbers and bit strings

natural_stands : (h : Spot) (width bound : ℕ) (named negative : Bool) (size : ℕ) (b : Grown) (p : Place)
    → UnfitNumber h (natural width bound named) negative size b p
    → make_natural h width bound named negative size b ≡ Err p
natural_stands h width bound named true zero b p (inl u) = ap Err (sym u.2)
natural_stands h width bound named true (suc size) b p (inl u) = let e = u.1 in absurd (omega (arith, e))
natural_stands h width bound named false size b p (inl u) = let e = u.0 in cc
natural_stands h width bound named true zero b p (inr (inl (inl o, e))) = let l = o.1 in absurd (omega (arith, l))
natural_stands h width bound named true (suc size) b p (inr (inl (o, e))) = ap Err (sym e)
natural_stands h width bound named true zero b p (inr (inl (inr o, e))) = let f = o.0 in cc
natural_stands h width bound named false size b p (inr (inl (inl o, e))) = let f = o.0 in cc
natural_stands h width bound named false size b p (inr (inl (inr o, e))) =
    when_false (nat_lt size bound) _ _ (le-ltb size bound o.1) ∙ ap Err (sym e)
natural_stands h width bound named true size b p (inr (inr u)) = let f = u.0 in cc
natural_stands h width bound named false size b p (inr (inr u)) =
    when_true (nat_lt size bound) _ _ (lt-ltb size bound u.1) ∙ bits_stand h (spelled width size) (own named size) b p u.2

not_in_range : (width : ℕ) (z : ℤ) → (InSignedRange width z → ⊥) → is_in_range width z ≡ false
not_in_range width z ne = go (is_in_range width z) refl
  where
    go : (t : Bool) → is_in_range width z ≡ t → t ≡ false
    go true e = absurd (ne (in_range_is width z e))
    go false e = refl

number_stands : (h : Spot) (k : Row) (negative : Bool) (size : ℕ) (b : Grown) (p : Place)
    → UnfitNumber h k negative size b p → make_number h k negative size b ≡ Err p
number_stands h (natural width bound named) negative size b p u = natural_stands h width bound named negative size b p u
number_stands h (integer width) negative size b p (inl u) = ap (λ o. make_integer h width o b) u.0 ∙ ap Err (sym u.1)
number_stands h (integer width) negative size b p (inr (z, e, inl u)) =
    ap (λ o. make_integer h width o b) e ∙ when_false (is_in_range width z) _ _ (not_in_range width z u.0) ∙ ap Err (sym u.1)
number_stands h (integer width) negative size b p (inr (z, e, inr u)) =
    ap (λ o. make_integer h width o b) e ∙ when_true (is_in_range width z) _ _ (in_range_on width z u.0) ∙ bits_stand h (signed_spelled width z) [] b p u.1
number_stands h (string width) negative size b p u = ap Err (sym u)
number_stands h no_row negative size b p u = ap Err (sym u)

not_eq : (m n : ℕ) → m ≢ n → nat_eq m n ≡ false
not_eq m n ne = go (nat_eq m n) refl
  where
    go : (t : Bool) → nat_eq m n ≡ t → t ≡ false
    go true e = absurd (ne (eqb-true m n e))
    go false e = refl

string_stands : (h : Spot) (k : Row) (bits : List ℕ) (b : Grown) (p : Place) → UnfitString h k bits b p
    → make_string h k bits b ≡ Err p
string_stands h (string width) bits b p (inl u) =
    when_false (nat_eq (length bits) width) _ _ (not_eq (length bits) width u.0) ∙ ap Err (sym u.1)
string_stands h (string width) bits b p (inr u) =
    when_true (nat_eq (length bits) width) _ _ (eq-eqb (length bits) width u.0) ∙ bits_stand h bits [] b p u.1
string_stands h (natural width bound named) bits b p u = ap Err (sym u)
string_stands h (integer width) bits b p u = ap Err (sym u)
string_stands h no_row bits b p u = ap Err (sym u)

pub number_at_stands : (h : Spot) (c : Shape) (negative : Bool) (size : ℕ) (b : Grown) (p : Place)
    → UnfitNumberAt h c negative size b p → number_at h c negative size b ≡ Err p
number_at_stands h (typed t) negative size b p u = number_stands h (row t) negative size b p u
number_at_stands h (fields_here is scope) negative size b p u = ap Err (sym u)
number_at_stands h (fields_under is scope) negative size b p u = ap Err (sym u)
number_at_stands h left_out negative size b p u = ap Err (sym u)
number_at_stands h as_cell negative size b p u = ap Err (sym u)

pub string_at_stands : (h : Spot) (c : Shape) (bits : List ℕ) (b : Grown) (p : Place) → UnfitStringAt h c bits b p
    → string_at h c bits b ≡ Err p
string_at_stands h (typed t) bits b p u = string_stands h (row t) bits b p u
string_at_stands h (fields_here is scope) bits b p u = ap Err (sym u)
string_at_stands h (fields_under is scope) bits b p u = ap Err (sym u)
string_at_stands h left_out bits b p u = ap Err (sym u)
string_at_stands h as_cell bits b p u = ap Err (sym u)

pub absent_at_stands : (h : Spot) (c : Shape) (b : Grown) (p : Place) → UnfitAbsentAt h c p → absent_at h c b ≡ Err p
absent_at_stands h left_out b p u = absurd u
absent_at_stands h (typed t) b p u = ap Err (sym u)
absent_at_stands h (fields_here is scope) b p u = ap Err (sym u)
absent_at_stands h (fields_under is scope) b p u = ap Err (sym u)
absent_at_stands h as_cell b p u = ap Err (sym u)

-- ---- references

deep_on : (c : Tree) → IsDeep c → is_deep c ≡ true
deep_on c d = lt-ltb 1023 (deepest c) d

some_deep_on : (cs : List Tree) → SomeDeep cs → some_deep cs ≡ true
some_deep_on [] d = absurd d
some_deep_on (c ∷ cs) (inl d) = or_left (is_deep c) (some_deep cs) (deep_on c d)
some_deep_on (c ∷ cs) (inr d) = or_right (is_deep c) (some_deep cs) (some_deep_on cs d)

hidden_stands : (mode : Mode) (h : Spot) (x : Hidden) (b : Grown) (p : Place) → UnfitHidden mode h x b p
    → make_hidden mode h x b ≡ Err p
hidden_stands Partial h x b p u =
    alone_stands h (only_ref (pruned_of x.hash x.depth)) (1023 < x.depth) (nat_lt 1023 x.depth) false b p (λ d. lt-ltb 1023 x.depth d) u
hidden_stands Whole h x b p u = ap Err (sym u)
hidden_stands Lax h x b p u = ap Err (sym u)

pub unknown_at_stands : (mode : Mode) (h : Spot) (c : Shape) (x : Hidden) (b : Grown) (p : Place)
    → UnfitUnknownAt mode h c x b p → unknown_at mode h c x b ≡ Err p
unknown_at_stands mode h (typed (closed.ref t)) x b p u = hidden_stands mode h x b p u
unknown_at_stands mode h (fields_under is scope) x b p u = hidden_stands mode h x b p u
unknown_at_stands mode h _ x b p u = ap Err (sym u)

pub raw_at_stands : (mode : Mode) (h : Spot) (c : Shape) (d : Tree) (b : Grown) (p : Place) → UnfitRawAt mode h c d p
    → raw_at mode h c d b ≡ Err p
raw_at_stands mode h as_cell d b p u = go (unseen mode d) refl
  where
    go : (o : Option Hidden) → unseen mode d ≡ o → make_cell h o d b ≡ Err p
    go None e = absurd (u.0 e)
    go (Some x) e = ap Err (sym u.1)
raw_at_stands mode h (typed t) d b p u = ap Err (sym u)
raw_at_stands mode h (fields_here is scope) d b p u = ap Err (sym u)
raw_at_stands mode h (fields_under is scope) d b p u = ap Err (sym u)
raw_at_stands mode h left_out d b p u = ap Err (sym u)

pub rest_at_stands : (h : Spot) (c : Shape) (s : values.Slice) (b : Grown) (p : Place) → UnfitRestAt h c s b p
    → rest_at h c s b ≡ Err p
rest_at_stands h (typed closed.whole) s b p u =
    alone_stands h (record { bits = s.bits; refs = s.refs }) (SomeDeep s.refs) (some_deep s.refs) true b p (some_deep_on s.refs) u
rest_at_stands h _ s b p u = ap Err (sym u)

-- ---- parts

-- a part that doesn't fit stops the builder, and one that does is built to what is put for it
abbrev pub Fails : Misfits → Maker → Plain → Type 0
Fails S R v = (h : Spot) (g : Goal) (q : ℕ) (b : Grown) (p : Place) → Proper g → S h g q v b p → R h g q v b ≡ Err p

abbrev pub Gets : Lays → Maker → Plain → Type 0
Gets P R v =
    (h : Spot) (g : Goal) (q : ℕ) (b : Grown) (outs : List ℕ) (x : Grown) → Proper g → P g q v b outs x
    → R h g q v b ≡ Ok (made outs x)

abbrev pub Decides : Misfits → Lays → Maker → Plain → Type 0
Decides S P R v = Fails S R v × Gets P R v

abbrev pub AllDecide : Misfits → Lays → Maker → Plains → Type 0
AllDecide S P R no_vals = Unit {0}
AllDecide S P R (a_val v vs) = Decides S P R v × AllDecide S P R vs

child_stands : (S : Misfits) (P : Lays) (R : Maker) (v : Plain) → Decides S P R v → (h : Spot) (g : Goal) (q : ℕ)
    (b : Grown) (p : Place) → Proper g → UnfitChild S P h g q v b p → make_child R h g q v b ≡ Err p
child_stands S P R v d h g q b p proper (inl u) =
    bind_fault (R h g q v empty) _ p (d.0 h g q empty p proper u)
child_stands S P R v d h g q b p proper (inr (outs, x, l, u)) =
    bind_on (R h g q v empty) _ (made outs x) (Err p) (d.1 h g q empty outs x proper l)
    (alone_stands h (only_ref (finished g x.held)) (IsDeep (finished g x.held)) (is_deep (finished g x.held)) false b p (deep_on (finished g x.held)) u)

pub ref_at_stands : (S : Misfits) (P : Lays) (R : Maker) (v : Plain) → Decides S P R v → (h : Spot) (c : Shape) (q : ℕ)
    (b : Grown) (p : Place) → ProperShape c → UnfitRefAt S P h c q v b p → ref_at R h c q v b ≡ Err p
ref_at_stands S P R v d h (typed (closed.ref t)) q b p proper u = child_stands S P R v d h (under_ref t) q b p (proper_under t) u
ref_at_stands S P R v d h (fields_under is scope) q b p proper u =
    child_stands S P R v d h (at_fields is scope) q b p proper u
ref_at_stands S P R v d h _ q b p proper u = ap Err (sym u)

-- ---- lists

items_stand : (S : Misfits) (P : Lays) (R : Maker) (vs : Plains) → AllDecide S P R vs → (h : Spot) (t : Closed) (q : ℕ)
    (b : Grown) (p : Place) → UnfitItems S P h t q vs b p → make_items R h t q vs b ≡ Err p
items_stand S P R no_vals d h t q b p u = absurd u
items_stand S P R (a_val v vs) d h t q b p (this u) =
    bind_fault (turn R h t q v b) _ p (bind_fault (R h (at_type t) q v b) _ p (d.0.0 h (at_type t) q b p tt u))
items_stand S P R (a_val v vs) d h t q b p (idle outs g l n e) =
    bind_fault (turn R h t q v b) _ p (bind_on (R h (at_type t) q v b) _ (made outs g) (Err p) (d.0.1 h (at_type t) q b outs g tt l) (when_false (grew b g) _ _ n ∙ ap Err (sym e)))
items_stand S P R (a_val v vs) d h t q b p (later outs g l y u) =
    bind_on (turn R h t q v b) _ (made outs g) (Err p)
    (bind_on (R h (at_type t) q v b) _ (made outs g) (Ok (made outs g)) (d.0.1 h (at_type t) q b outs g tt l) (when_true (grew b g) _ _ y))
    (items_stand S P R vs d.1 h t (q + parts v) g p u)

pub list_at_stands : (S : Misfits) (P : Lays) (R : Maker) (vs : Plains) → AllDecide S P R vs → (h : Spot) (c : Shape) (q : ℕ)
    (b : Grown) (p : Place) → UnfitListAt S P h c q vs b p → list_at R h c q vs b ≡ Err p
list_at_stands S P R vs d h (typed (closed.repeat n t)) q b p (inl u) =
    when_false (nat_eq (count vs) n) _ _ (not_eq (count vs) n u.0) ∙ ap Err (sym u.1)
list_at_stands S P R vs d h (typed (closed.repeat n t)) q b p (inr u) =
    when_true (nat_eq (count vs) n) _ _ (eq-eqb (count vs) n u.0) ∙ bind_fault (make_items R h t q vs b) _ p (items_stand S P R vs d h t q b p u.1)
list_at_stands S P R vs d h _ q b p u = ap Err (sym u)

-- ---- records

not_compares : (op : Op) (m n : ℕ) → (Compares op m n → ⊥) → comparison op m n ≡ false
not_compares op m n ne = go (comparison op m n) refl
  where
    go : (t : Bool) → comparison op m n ≡ t → t ≡ false
    go true e = absurd (ne (compares_of op m n e))
    go false e = refl

bind_assoc : {A B C : Type 0} (r : Result A Place) (f : A → Result B Place) (k : B → Result C Place)
    → ((r >>= f) >>= k) ≡ (r >>= λ x. f x >>= k)
bind_assoc (Ok x) f k = refl
bind_assoc (Err p) f k = refl

check_stands : {B : Type 0} (h : Spot) (op : Op) (o k : Option ℕ) (Later : ℕ → ℕ → Type 0) (p : Place) (y : Step)
    (f : Step → Result B Place) → ((m n : ℕ) → Later m n → f y ≡ Err p)
    → StopsPair h (λ m n. (Compares op m n → ⊥) × (p ≡ stuck h why.Constraint)) (λ m n. Compares op m n × Later m n) o k p
    → ((known h o >>= λ m. known h k >>= λ n. cond (comparison op m n) (Ok y) (Err (stuck h why.Constraint))) >>= f) ≡ Err p
check_stands h op None k Later p y f c u = ap Err (sym u)
check_stands h op (Some m) None Later p y f c u = ap Err (sym u)
check_stands h op (Some m) (Some n) Later p y f c (inl u) =
    ap (λ z. z >>= f) (when_false (comparison op m n) _ _ (not_compares op m n u.0)) ∙ ap Err (sym u.1)
check_stands h op (Some m) (Some n) Later p y f c (inr u) =
    ap (λ z. z >>= f) (when_true (comparison op m n) _ _ (compares_on op m n u.0)) ∙ c m n u.1

some_lacks : (a c : Expr) (env : Numbers) → first_lacking (numbers.parts a ++ numbers.parts c) env ≢ None
    → sought_number a c env ≡ Err why.Overflow
some_lacks a c env ne = go (first_lacking (numbers.parts a ++ numbers.parts c) env) refl
  where
    go : (o : Option Expr) → first_lacking (numbers.parts a ++ numbers.parts c) env ≡ o
        → sought_number a c env ≡ Err why.Overflow
    go None e = absurd (ne e)
    go (Some d) e = sought_stands a c env why.Overflow (lacking d e refl)

solve_stands : {B : Type 0} (h : Spot) (v : ℕ) (a c : Expr) → OneUnknown a c v → (scope : Scope) (Later : ℕ → Type 0)
    (p : Place) (y : ℕ → Step) (f : Step → Result B Place) → ((x : ℕ) → Later x → f (y x) ≡ Err p)
    → StopsSolve h a c scope Later p
    → ((reported h (sought_number a c scope.numbers) >>= λ x. Ok (y x)) >>= f) ≡ Err p
solve_stands h v a c one scope Later p y f k (too_great ne e) =
    ap (λ z. (reported h z >>= λ x. Ok (y x)) >>= f) (some_lacks a c scope.numbers ne) ∙ ap Err (sym e)
solve_stands h v a c one scope Later p y f k (stops.unsolved none not e) =
    ap (λ z. (reported h z >>= λ x. Ok (y x)) >>= f) (sought_stands a c scope.numbers why.NoSolution (unsolved none not refl)) ∙ ap Err (sym e)
solve_stands h v a c one scope Later p y f k (onward x s u) =
    ap (λ z. (reported h z >>= λ x. Ok (y x)) >>= f) (sought_complete a c scope.numbers v x one s) ∙ k x u

-- what follows the items
abbrev EndStands : {C : Type 0} → (Scope → Type 0) → (Scope × Grown → Result C Place) → Place → Type 0
EndStands End k p = (end : Scope) (g : Grown) → End end → k (end, g) ≡ Err p

fields_stand : {C : Type 0} (S : Misfits) (P : Lays) (R : Maker) (End : Scope → Type 0)
    (k : Scope × Grown → Result C Place) (p : Place)
    → EndStands End k p → (h : Spot) (is : Items) → Seeks is → (vs : Plains) → AllDecide S P R vs → (scope : Scope) (q : ℕ)
    (b : Grown) → UnfitFields S P End h is scope q vs b p → (make_fields R h is scope q vs b >>= k) ≡ Err p
fields_stand S P R End k p end h no_items seeks no_vals d scope q b u = end scope b u
fields_stand S P R End k p end h no_items seeks (a_val v vs) d scope q b u = ap Err (sym u)
fields_stand S P R End k p end h (an_item (field x slot c t) is) seeks no_vals d scope q b u = ap Err (sym u)
fields_stand S P R End k p end h (an_item (field x slot c t) is) seeks (a_val v vs) d scope q b (inl u) =
    bind_fault (make_fields R h (an_item (field x slot c t) is) scope q (a_val v vs) b) k p
    (bind_fault (step R h (field x slot c t) scope q (a_val v vs) b) _ p
    (bind_fault (R (field_of h x) (at_field c t scope) q v b) _ p (d.0.0 (field_of h x) (at_field c t scope) q b p seeks.0 u)))
fields_stand S P R End k p end h (an_item (field x slot c t) is) seeks (a_val v vs) d scope q b (inr (outs, g, l, u)) =
    let s : Step = record { scope = bind (sets slot t) outs scope; begun = q + parts v; due = vs; grown = g } in
    let one : step R h (field x slot c t) scope q (a_val v vs) b ≡ Ok s =
    bind_on (R (field_of h x) (at_field c t scope) q v b) _ (made outs g) (Ok s) (d.0.1 (field_of h x) (at_field c t scope) q b outs g seeks.0 l) refl in
    ap (λ z. (z >>= λ y. make_fields R h is y.scope y.begun y.due y.grown) >>= k) one
    ∙ fields_stand S P R End k p end h is seeks.1 vs d.1 (bind (sets slot t) outs scope) (q + parts v) g u
fields_stand S P R End k p end h (an_item (check a op c i) is) seeks vs d scope q b u =
    bind_assoc (step R h (check a op c i) scope q vs b) (λ y. make_fields R h is y.scope y.begun y.due y.grown) k
    ∙ check_stands (item_of h i) op (value_in a scope) (value_in c scope) (λ m n. UnfitFields S P End h is scope q vs b p) p
    (record { scope = scope; begun = q; due = vs; grown = b }) (λ y. make_fields R h is y.scope y.begun y.due y.grown >>= k)
    (λ m n w. fields_stand S P R End k p end h is seeks vs d scope q b w) u
fields_stand S P R End k p end h (an_item (solve v a c i) is) seeks vs d scope q b u =
    bind_assoc (step R h (solve v a c i) scope q vs b) (λ y. make_fields R h is y.scope y.begun y.due y.grown) k
    ∙ solve_stands (item_of h i) v a c seeks.0 scope (λ x. UnfitFields S P End h is (with_number v x scope) q vs b p) p
    (λ x. record { scope = with_number v x scope; begun = q; due = vs; grown = b }) (λ y. make_fields R h is y.scope y.begun y.due y.grown >>= k)
    (λ x w. fields_stand S P R End k p end h is seeks.1 vs d (with_number v x scope) q b w) u

-- the fields of a record
pub has_on : (names : List Word) (vs : Plains) (is : Items) → HasFields names vs is → has_fields names vs is ≡ true
has_on names vs is f =
    both_on (same_words names (field_names is)) _ (ap (same_words names) (sym f.0) ∙ same_on names) (eq-eqb (count vs) (length names) f.1)

has_not : (names : List Word) (vs : Plains) (is : Items) → (HasFields names vs is → ⊥) → has_fields names vs is ≡ false
has_not names vs is ne = go (has_fields names vs is) refl
  where
    go : (t : Bool) → has_fields names vs is ≡ t → t ≡ false
    go true e =
        let k = both (same_words names (field_names is)) (nat_eq (count vs) (length names)) e in
        absurd (ne (same_is names (field_names is) k.0, eqb-true (count vs) (length names) k.1))
    go false e = refl

inner_stands : (S : Misfits) (P : Lays) (R : Maker) (vs : Plains) → AllDecide S P R vs → (h : Spot) (is : Items) → Seeks is
    → (scope : Scope) (q : ℕ) (names : List Word) (b : Grown) (p : Place) → UnfitInner S P h is scope q names vs b p
    → make_inner R h is scope q names vs b ≡ Err p
inner_stands S P R vs d h is seeks scope q names b p (inl u) =
    when_false (has_fields names vs is) _ _ (has_not names vs is u.0) ∙ ap Err (sym u.1)
inner_stands S P R vs d h is seeks scope q names b p (inr u) =
    when_true (has_fields names vs is) _ _ (has_on names vs is u.0)
    ∙ fields_stand S P R NoEnd _ p (λ end g e. absurd e) h is seeks vs d scope q b u.1

put_laid : (h : Spot) (x : Slice) (b g : Grown) → Put x ⊥ false b g → put h x false false b ≡ Ok g
put_laid h x b g u =
    let made_g : Grown = record { held = join b.held x; shut = b.shut || false } in
    let same : made_g ≡ g = λ i. record { held = sym u.0.held i; shut = sym u.0.shut i } in
    ap (reported h) (when_false (b.shut && not (is_nothing x)) _ _ (is_free b.shut x u.0.free) ∙ when_false (is_over b.held x) _ _ (room_on b.held x u.1)) ∙ ap Ok same

none_chosen : (schema : CoreSchema) (type name : Word) (args : ClosedArgs)
    → ((at : ℕ) (c : Declaration) (scope : Scope) → Meets schema type name args at c scope → ⊥)
    → choose schema type name args ≡ None
none_chosen schema type name args ne = go (choose schema type name args) refl
  where
    go : (o : Option Choice) → choose schema type name args ≡ o → o ≡ None
    go None e = refl
    go (Some z) e = let m = choose_is type name args schema z.0 z.1 e in absurd (ne m.0 z.0 z.1 m.1)

declared_stands : (S : Misfits) (P : Lays) (schema : CoreSchema) → IsBuildable schema → (R : Maker) (vs : Plains)
    → AllDecide S P R vs → (h : Spot) (type : Word) (args : ClosedArgs) (q : ℕ) (name : Word) (names : List Word) (b : Grown)
    (p : Place) → UnfitDeclared schema S P h type args q name names vs b p
    → make_declared R h (choose schema type name args) q names vs b ≡ Err p
declared_stands S P schema ok R vs d h type args q name names b p (none_fits ne e) =
    ap (λ o. make_declared R h o q names vs b) (none_chosen schema type name args ne) ∙ ap Err (sym e)
declared_stands S P schema ok R vs d h type args q name names b p (misnamed at c scope m ne e) =
    ap (λ o. make_declared R h o q names vs b) (choose_on type name args schema ok.names at c scope m)
    ∙ when_false (has_fields names vs c.core.items) _ _ (has_not names vs c.core.items ne) ∙ ap Err (sym e)
declared_stands S P schema ok R vs d h type args q name names b p (no_tag at c scope m f u) =
    ap (λ o. make_declared R h o q names vs b) (choose_on type name args schema ok.names at c scope m)
    ∙ when_true (has_fields names vs c.core.items) _ _ (has_on names vs c.core.items f)
    ∙ bind_fault (put (tag_of (start c)) (only_bits c.core.tag) false false b) _ p (put_stands (tag_of (start c)) (only_bits c.core.tag) ⊥ false false b p (λ z. absurd z) u)
declared_stands S P schema ok R vs d h type args q name names b p (entered at c scope g m f put_g u) =
    ap (λ o. make_declared R h o q names vs b) (choose_on type name args schema ok.names at c scope m)
    ∙ when_true (has_fields names vs c.core.items) _ _ (has_on names vs c.core.items f)
    ∙ bind_on (put (tag_of (start c)) (only_bits c.core.tag) false false b) _ g (Err p) (put_laid (tag_of (start c)) (only_bits c.core.tag) b g put_g)
    (fields_stand S P R (StopsResult (start c) c.core.outputs p) _ p (λ end x e. ap (λ o. known (result_of (start c)) o >>= λ outs. Ok (made outs x)) e.0 ∙ ap Err (sym e.1)) (start c) c.core.items (ok.acceptable.seeks at c m.there) vs d scope q g u)

pub record_at_stands : (S : Misfits) (P : Lays) (schema : CoreSchema) → IsBuildable schema → (R : Maker) (vs : Plains)
    → AllDecide S P R vs → (h : Spot) (c : Shape) (q : ℕ) (name : Word) (names : List Word) (b : Grown) (p : Place)
    → UnfitRecordAt schema S P h c q (Some name) names vs b p → record_at schema R h c q (Some name) names vs b ≡ Err p
record_at_stands S P schema ok R vs d h (typed (closed.named type args)) q name names b p u =
    declared_stands S P schema ok R vs d h type args q name names b p u
record_at_stands S P schema ok R vs d h _ q name names b p u = ap Err (sym u)

pub inner_at_stands : (S : Misfits) (P : Lays) (schema : CoreSchema) (R : Maker) (vs : Plains)
    → AllDecide S P R vs → (h : Spot) (c : Shape) (q : ℕ) (names : List Word) (b : Grown) (p : Place) → ProperShape c
    → UnfitRecordAt schema S P h c q None names vs b p → record_at schema R h c q None names vs b ≡ Err p
inner_at_stands S P schema R vs d h (fields_here is scope) q names b p proper u = inner_stands S P R vs d h is proper scope q names b p u
inner_at_stands S P schema R vs d h (typed (closed.named type args)) q names b p proper u = ap Err (sym u)
inner_at_stands S P schema R vs d h _ q names b p proper u = ap Err (sym u)
