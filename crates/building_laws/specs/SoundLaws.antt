-- What is built spells the value, whatever follows it, and is within the limits of cells.
use Rattle.std.proofs.Common.{◌≡◌, ◌≤◌, ℕ, zero, suc, Bool, true, false, List, [], ◌++◌, length, Option, Some, None, Ok, refl, sym, ap, ◌∙◌, subst, arith, nat_lt, nat_eq}
use Rattle.std.specs.Prelude.{ℤ}
use Rattle.std.proofs.lemmas.Bool.{ltb-true, ltb-false, eqb-true}
use Rattle.std.proofs.lemmas.List.{append-nil}
use Rattle.bit_slice.specs.Bits.{AreBits, spelled, signed_spelled, twos_complement}
use Rattle.bit_slice.specs.BitLists.{AreBits-spelled}
use Rattle.cell_nodes.specs.Constructed.{pruned_of}
use Rattle.cell_nodes.specs.Good.{IsGood, AllGood, none, more}
use Rattle.cell_nodes.specs.Tree.{deepest}
use Rattle.cell_nodes.specs.declared.tree.Tree.{Tree}
use Rattle.cell_nodes.specs.declared.tree.Hidden.{Hidden}
use Rattle.cell_nodes.specs.declared.tree.Mode.{Mode}
use Rattle.cell_nodes.specs.declared.tree.Mode.TheVariants.{Whole, Partial, Lax}
use Rattle.hashmap_tree.specs.Dict.{unseen}
use Rattle.hashmap_tree.specs.Entries.{Slice, Then}
use Rattle.hashmap_tree.specs.PrunedLaws.{hides-stored}
use Rattle.typed_value.specs.Values as values
use Rattle.typed_value.specs.Values.{Plain, Plains, PlainPairs, number, bit_string, record_of, absent, list_of, ref_to, unknown, map_of, raw, rest, no_vals, a_val, no_pairs, a_pair, parts}
use Rattle.core_form.specs.Core.{CoreSchema}
use Rattle.core_form.specs.Closed.{Closed, ClosedArgs}
use Rattle.core_form.specs.Closed as closed
use Rattle.spelling.specs.Slices.{nothing, only_bits, only_ref, kept}
use Rattle.spelling.specs.Goals.{Row, natural, integer, string, no_row, row, Goal, at_type, at_field, at_cell, Shape, typed, fields_here, fields_under, left_out, as_cell, at_fields, under_ref}
use Rattle.spelling.specs.Places.{Spot}
use Rattle.spelling.specs.Spells.{own, integer_of, Spells, SpellsShape, SpellsNumber, SpellsString, Holds, SpellsChild, free}
use Rattle.spelling_laws.specs.StepLaws.{bind_ok, only_ok}
use Rattle.building.specs.Buildable.{IsHash}
use Rattle.building.specs.Growing.{Grown, empty, join, is_deep, some_deep}
use Rattle.building.specs.Laid.{ends, ends_shape}
use Rattle.building.specs.PlainBuilder.{Maker, put_bits, is_in_range, make_integer, make_number, make_string, first_of, finished, make_child, make_hidden, make_cell, number_at, string_at, absent_at, ref_at, unknown_at, raw_at, rest_at}
use Rattle.building_laws.specs.GoesLaws.{Goes, goes_as, goes_none, then_join, goes_put, put_held, empty_held, held_good, below_of, made_same, alone_put, bits_put, bits_held}
use Rattle.building_laws.specs.MoveLaws.{slice_eta, then_whole, IsHeld, made, or_false}
use Rattle.building_laws.specs.RangeLaws.{in_range_is, pruned_good, can_hide, hidden-below}

-- the value is spelled; it is said whether a rest ends it
abbrev pub IsSpelled : Mode → CoreSchema → Plain → Goal → List ℕ → Bool → Slice → Slice → Type 0
IsSpelled mode schema v g outs e s r =
    (d : Spells mode schema v g s outs r) × (ends mode schema v g s outs r d ≡ e)

abbrev pub IsSpelledAt : Mode → CoreSchema → Plain → Shape → List ℕ → Bool → Slice → Slice → Type 0
IsSpelledAt mode schema v c outs e s r =
    (d : SpellsShape mode schema v c s outs r) × (ends_shape mode schema v c s outs r d ≡ e)

-- what can stand in a cell still can; at a cell of any kind it is that cell
abbrev pub Keeps : Grown → Grown → Type 0
Keeps b x = IsHeld b.held → IsHeld x.held

abbrev pub IsCell : Mode → Grown → Grown → Type 0
IsCell mode b x = (c : Tree) × (x.held ≡ join b.held (only_ref c)) × (unseen mode c ≡ None) × IsGood c

abbrev pub KeepsAt : Mode → Goal → Grown → Grown → Type 0
KeepsAt mode (at_type t) b x = Keeps b x
KeepsAt mode (at_field e t scope) b x = Keeps b x
KeepsAt mode at_cell b x = IsCell mode b x

abbrev pub KeepsShape : Mode → Shape → Grown → Grown → Type 0
KeepsShape mode (typed t) b x = Keeps b x
KeepsShape mode (fields_here is scope) b x = Keeps b x
KeepsShape mode (fields_under is scope) b x = Keeps b x
KeepsShape mode left_out b x = Keeps b x
KeepsShape mode as_cell b x = IsCell mode b x

-- a cell of any kind is put nowhere but in a new content
abbrev pub StartsAt : Goal → Grown → Type 0
StartsAt (at_type t) b = Unit {0}
StartsAt (at_field e t scope) b = Unit {0}
StartsAt at_cell b = b.shut ≡ false

abbrev pub StartsShape : Shape → Grown → Type 0
StartsShape (typed t) b = Unit {0}
StartsShape (fields_here is scope) b = Unit {0}
StartsShape (fields_under is scope) b = Unit {0}
StartsShape left_out b = Unit {0}
StartsShape as_cell b = b.shut ≡ false

abbrev pub Sounds : Mode → CoreSchema → Maker → Plain → Type 0
Sounds mode schema R v =
    (h : Spot) (g : Goal) (q : ℕ) (b : Grown) (outs : List ℕ) (x : Grown) → StartsAt g b
    → R h g q v b ≡ Ok (made outs x)
    → (e : Bool) × Goes (IsSpelled mode schema v g outs e) e b x × KeepsAt mode g b x

abbrev pub AllSound : Mode → CoreSchema → Maker → Plains → Type 0
AllSound mode schema R no_vals = Unit {0}
AllSound mode schema R (a_val v vs) = Sounds mode schema R v × AllSound mode schema R vs

abbrev pub BySound : Mode → CoreSchema → Maker → PlainPairs → Type 0
BySound mode schema R no_pairs = Unit {0}
BySound mode schema R (a_pair k v ps) = Sounds mode schema R v × BySound mode schema R ps

abbrev pub ShapeSound : Mode → CoreSchema → Plain → Shape → Grown → List ℕ → Grown → Type 0
ShapeSound mode schema v c b outs x =
    (e : Bool) × Goes (IsSpelledAt mode schema v c outs e) e b x × KeepsShape mode c b x

-- ---- numbers and bit strings

abbrev RowSound : Row → (Row → Slice → List ℕ → Slice → Type 0) → Grown → List ℕ → Grown → Type 0
RowSound k F b outs x = Goes (λ s r. F k s outs r) false b x × Keeps b x

number_row : (h : Spot) (k : Row) (negative : Bool) (size : ℕ) (b : Grown) (outs : List ℕ) (x : Grown)
    → make_number h k negative size b ≡ Ok (made outs x) → RowSound k (SpellsNumber negative size) b outs x
number_row h (natural width bound named) true zero b outs x e = cc
number_row h (natural width bound named) true (suc size) b outs x e = cc
number_row h (natural width bound named) false size b outs x e =
    let k = only_ok (nat_lt size bound) _ (put_bits h (spelled width size) (own named size) b) (made outs x) e in
    let p = bits_put h (spelled width size) (own named size) b outs x k.1 in
    let less = ltb-true size bound k.0 in
    (goes_as _ _ false b x (goes_put (only_bits (spelled width size)) false false b x p.1) (λ s r t. (refl, less, p.0, t.0)), bits_held (spelled width size) b x p.1 (AreBits-spelled width size))
number_row h (integer width) negative size b outs x e = go (integer_of negative size) refl e
  where
    go : (o : Option ℤ) → integer_of negative size ≡ o → make_integer h width o b ≡ Ok (made outs x)
        → RowSound (integer width) (SpellsNumber negative size) b outs x
    go None f e = cc
    go (Some z) f e =
        let k = only_ok (is_in_range width z) _ (put_bits h (signed_spelled width z) [] b) (made outs x) e in
        let p = bits_put h (signed_spelled width z) [] b outs x k.1 in
        (goes_as _ _ false b x (goes_put (only_bits (signed_spelled width z)) false false b x p.1) (λ s r t. (z, f, in_range_is width z k.0, p.0, t.0)), bits_held (signed_spelled width z) b x p.1 (AreBits-spelled width (twos_complement width z)))
number_row h (string width) negative size b outs x e = cc
number_row h no_row negative size b outs x e = cc

string_row : (h : Spot) (k : Row) (bits : List ℕ) (b : Grown) (outs : List ℕ) (x : Grown) → AreBits bits
    → make_string h k bits b ≡ Ok (made outs x) → RowSound k (SpellsString bits) b outs x
string_row h (string width) bits b outs x a e =
    let k = only_ok (nat_eq (length bits) width) _ (put_bits h bits [] b) (made outs x) e in
    let p = bits_put h bits [] b outs x k.1 in
    let long = eqb-true (length bits) width k.0 in
    (goes_as _ _ false b x (goes_put (only_bits bits) false false b x p.1) (λ s r t. (long, p.0, t.0)), bits_held bits b x p.1 a)
string_row h (natural width bound named) bits b outs x a e = cc
string_row h (integer width) bits b outs x a e = cc
string_row h no_row bits b outs x a e = cc

pub number_sound : (mode : Mode) (schema : CoreSchema) (h : Spot) (c : Shape) (negative : Bool) (size : ℕ) (b : Grown)
    (outs : List ℕ) (x : Grown) → number_at h c negative size b ≡ Ok (made outs x)
    → ShapeSound mode schema (number negative size) c b outs x
number_sound mode schema h (typed t) negative size b outs x e =
    let k = number_row h (row t) negative size b outs x e in
    (false, goes_as _ _ false b x k.0 (λ s r d. (d, refl)), k.1)
number_sound mode schema h (fields_here is scope) negative size b outs x e = cc
number_sound mode schema h (fields_under is scope) negative size b outs x e = cc
number_sound mode schema h left_out negative size b outs x e = cc
number_sound mode schema h as_cell negative size b outs x e = cc

pub string_sound : (mode : Mode) (schema : CoreSchema) (h : Spot) (c : Shape) (bits : List ℕ) (b : Grown)
    (outs : List ℕ) (x : Grown) → AreBits bits → string_at h c bits b ≡ Ok (made outs x)
    → ShapeSound mode schema (bit_string bits) c b outs x
string_sound mode schema h (typed t) bits b outs x a e =
    let k = string_row h (row t) bits b outs x a e in
    (false, goes_as _ _ false b x k.0 (λ s r d. (d, refl)), k.1)
string_sound mode schema h (fields_here is scope) bits b outs x a e = cc
string_sound mode schema h (fields_under is scope) bits b outs x a e = cc
string_sound mode schema h left_out bits b outs x a e = cc
string_sound mode schema h as_cell bits b outs x a e = cc

pub absent_sound : (mode : Mode) (schema : CoreSchema) (h : Spot) (c : Shape) (b : Grown) (outs : List ℕ) (x : Grown)
    → absent_at h c b ≡ Ok (made outs x) → ShapeSound mode schema absent c b outs x
absent_sound mode schema h left_out b outs x e =
    let same = made_same [] outs b x e in
    let P : Grown → Type 0 = λ z. ShapeSound mode schema absent left_out b outs z in
    subst P same.1 (false, goes_none _ b (λ s. ((sym same.0, refl), refl)), λ z. z)
absent_sound mode schema h (typed t) b outs x e = cc
absent_sound mode schema h (fields_here is scope) b outs x e = cc
absent_sound mode schema h (fields_under is scope) b outs x e = cc
absent_sound mode schema h as_cell b outs x e = cc

pub raw_sound : (mode : Mode) (schema : CoreSchema) (h : Spot) (c : Shape) (d : Tree) (b : Grown) (outs : List ℕ)
    (x : Grown) → IsGood d → StartsShape c b → raw_at mode h c d b ≡ Ok (made outs x)
    → ShapeSound mode schema (raw d) c b outs x
raw_sound mode schema h as_cell d b outs x fine starts e = go (unseen mode d) refl e
  where
    not_both : {A : Type 0} (t : Bool) → t ≡ false → t ≡ true → A
    not_both true f k = cc
    not_both false f k = cc

    go : (o : Option Hidden) → unseen mode d ≡ o → make_cell h o d b ≡ Ok (made outs x)
        → ShapeSound mode schema (raw d) as_cell b outs x
    go (Some y) f e = cc
    go None f e =
        let z : Grown = record { held = join b.held (only_ref d); shut = b.shut } in
        let same = made_same [] outs z x e in
        let P : Grown → Type 0 = λ y. ShapeSound mode schema (raw d) as_cell b outs y in
        subst P same.1 (
          false,
          record {
            laid = λ w r t done. (join (only_ref d) r, then_join w b.held (only_ref d) r t, (λ s. not_both b.shut starts s), ((sym same.0, record { bits = refl; refs = refl }), refl));
            shut = or_false b.shut;
          },
          (d, refl, f, fine),
        )
raw_sound mode schema h (typed t) d b outs x fine starts e = cc
raw_sound mode schema h (fields_here is scope) d b outs x fine starts e = cc
raw_sound mode schema h (fields_under is scope) d b outs x fine starts e = cc
raw_sound mode schema h left_out d b outs x fine starts e = cc

rest_type : (mode : Mode) (schema : CoreSchema) (h : Spot) (y : values.Slice) (b : Grown) (outs : List ℕ) (x : Grown)
    → AreBits y.bits → AllGood y.refs → rest_at h (typed closed.whole) y b ≡ Ok (made outs x)
    → ShapeSound mode schema (rest y) (typed closed.whole) b outs x
rest_type mode schema h y b outs x a fine e =
    let z : Slice = record { bits = y.bits; refs = y.refs } in
    let p = alone_put h z (some_deep y.refs) true b outs x e in (
      true,
      goes_as _ _ true b x (goes_put z (some_deep y.refs) true b x p.1) (λ s r t. ((p.0, whole s r t.0 (t.1 refl), t.1 refl), refl)),
      put_held z (some_deep y.refs) true b x p.1 a fine (below_of y.refs p.1.flat),
    )
  where
    whole : (s r : Slice) → Then s (record { bits = y.bits; refs = y.refs }) r → r ≡ nothing → y ≡ kept s
    whole s r t n =
        let bits : y.bits ≡ s.bits = sym (append-nil y.bits) ∙ ap (λ (u : Slice). y.bits ++ u.bits) (sym n) ∙ sym t.bits in
        let refs : y.refs ≡ s.refs = sym (append-nil y.refs) ∙ ap (λ (u : Slice). y.refs ++ u.refs) (sym n) ∙ sym t.refs in
        λ i. record { bits = bits i; refs = refs i }

pub rest_sound : (mode : Mode) (schema : CoreSchema) (h : Spot) (c : Shape) (y : values.Slice) (b : Grown)
    (outs : List ℕ) (x : Grown) → AreBits y.bits → AllGood y.refs → rest_at h c y b ≡ Ok (made outs x)
    → ShapeSound mode schema (rest y) c b outs x
rest_sound mode schema h (typed closed.whole) y b outs x a fine e = rest_type mode schema h y b outs x a fine e
rest_sound mode schema h _ y b outs x a fine e = cc

hidden_sound : (mode : Mode) (h : Spot) (y : Hidden) (b : Grown) (outs : List ℕ) (x : Grown) → IsHash y
    → make_hidden mode h y b ≡ Ok (made outs x)
    → Goes (λ s r. (c : Tree) × (outs ≡ []) × Then s (only_ref c) r × (unseen mode c ≡ Some y)) false b x × Keeps b x
hidden_sound Whole h y b outs x hash e = cc
hidden_sound Lax h y b outs x hash e = cc
hidden_sound Partial h y b outs x hash e =
    let c = pruned_of y.hash y.depth in
    let p = alone_put h (only_ref c) (nat_lt 1023 y.depth) false b outs x e in
    let low = ltb-false 1023 y.depth p.1.flat in
    let depth : y.depth ≤ 1024 = omega (arith, low) in (
      goes_as _ _ false b x (goes_put (only_ref c) (nat_lt 1023 y.depth) false b x p.1) (λ s r t. (c, p.0, t.0, hides-stored y (can_hide y hash depth))),
      put_held (only_ref c) (nat_lt 1023 y.depth) false b x p.1 tt (more c [] (pruned_good y hash depth) none) (hidden-below y hash low, tt),
    )

pub unknown_sound : (mode : Mode) (schema : CoreSchema) (h : Spot) (c : Shape) (y : Hidden) (b : Grown) (outs : List ℕ)
    (x : Grown) → IsHash y → unknown_at mode h c y b ≡ Ok (made outs x) → ShapeSound mode schema (unknown y) c b outs x
unknown_sound mode schema h (typed (closed.ref t)) y b outs x hash e =
    let k = hidden_sound mode h y b outs x hash e in (false, goes_as _ _ false b x k.0 (λ s r d. (d, refl)), k.1)
unknown_sound mode schema h (fields_under is scope) y b outs x hash e =
    let k = hidden_sound mode h y b outs x hash e in (false, goes_as _ _ false b x k.0 (λ s r d. (d, refl)), k.1)
unknown_sound mode schema h _ y b outs x hash e = cc

-- ---- references

then_none : (w s : Slice) → Then w nothing s → s ≡ w
then_none w s t = slice_eta s w (sym t.bits) (sym t.refs)

-- what is built in a new content is the cell's
pub child_holds : (mode : Mode) (schema : CoreSchema) (v : Plain) (g : Goal) (outs : List ℕ) (e : Bool) (y : Grown)
    → Goes (IsSpelled mode schema v g outs e) e empty y → KeepsAt mode g empty y
    → Holds mode (Spells mode schema v) g (finished g y.held) × IsGood (finished g y.held)
child_holds mode schema v (at_type t) outs e y goes keeps =
    let l = goes.laid y.held nothing (then_whole y.held) (λ z. refl) in
    let P : Slice → Type 0 = λ s. Spells mode schema v (at_type t) s outs nothing in
    ((y.held, outs, refl, subst P (then_none y.held l.0 l.1) l.3.0), held_good y.held (keeps empty_held))
child_holds mode schema v (at_field k t scope) outs e y goes keeps =
    let l = goes.laid y.held nothing (then_whole y.held) (λ z. refl) in
    let P : Slice → Type 0 = λ s. Spells mode schema v (at_field k t scope) s outs nothing in
    ((y.held, outs, refl, subst P (then_none y.held l.0 l.1) l.3.0), held_good y.held (keeps empty_held))
child_holds mode schema v at_cell outs e y goes keeps =
    let l = goes.laid y.held nothing (then_whole y.held) (λ z. refl) in
    let c = keeps.0 in
    let same : y.held ≡ only_ref c = keeps.1 in
    let is : first_of y.held.refs y.held ≡ c = ap (λ (z : Slice). first_of z.refs z) same in
    let P : Slice → Type 0 = λ s. Spells mode schema v at_cell s outs nothing in
    let G : Tree → Type 0 = IsGood in
    let U : Tree → Type 0 = λ t. unseen mode t ≡ None in
    let O : Tree → Type 0 = λ t. Spells mode schema v at_cell (only_ref t) outs nothing in
    let d = subst P (then_none y.held l.0 l.1 ∙ same) l.3.0 in
    ((outs, subst U (sym is) keeps.2, subst O (sym is) d), subst G (sym is) keeps.3)

pub starts_empty : (g : Goal) → StartsAt g empty
starts_empty (at_type t) = tt
starts_empty (at_field e t scope) = tt
starts_empty at_cell = refl

child_sound : (mode : Mode) (schema : CoreSchema) (R : Maker) (v : Plain) → Sounds mode schema R v → (h : Spot) (g : Goal)
    (q : ℕ) (b : Grown) (outs : List ℕ) (x : Grown) → make_child R h g q v b ≡ Ok (made outs x)
    → Goes (λ s r. SpellsChild (free tt) mode (Spells mode schema v) g s outs r) false b x × Keeps b x
child_sound mode schema R v sound h g q b outs x e =
    let k = bind_ok (R h g q v empty) _ (made outs x) e in
    let y = sound h g q empty k.0.0 k.0.1 (starts_empty g) k.1 in
    let c = finished g k.0.1.held in
    let p = alone_put h (only_ref c) (is_deep c) false b outs x k.2 in
    let holds = child_holds mode schema v g k.0.0 y.0 k.0.1 y.1 y.2 in (
      goes_as _ _ false b x (goes_put (only_ref c) (is_deep c) false b x p.1) (λ s r t. (c, p.0, t.0, holds.0, tt)),
      put_held (only_ref c) (is_deep c) false b x p.1 tt (more c [] holds.1 none) ((let l = ltb-false 1023 (deepest c) p.1.flat in omega (arith, l)), tt),
    )

pub ref_sound : (mode : Mode) (schema : CoreSchema) (R : Maker) (v : Plain) → Sounds mode schema R v → (h : Spot) (c : Shape)
    (q : ℕ) (b : Grown) (outs : List ℕ) (x : Grown) → ref_at R h c q v b ≡ Ok (made outs x)
    → ShapeSound mode schema (ref_to tt v) c b outs x
ref_sound mode schema R v sound h (typed (closed.ref t)) q b outs x e =
    let k = child_sound mode schema R v sound h (under_ref t) q b outs x e in
    (false, goes_as _ _ false b x k.0 (λ s r d. (d, refl)), k.1)
ref_sound mode schema R v sound h (fields_under is scope) q b outs x e =
    let k = child_sound mode schema R v sound h (at_fields is scope) q b outs x e in
    (false, goes_as _ _ false b x k.0 (λ s r d. (d, refl)), k.1)
ref_sound mode schema R v sound h _ q b outs x e = cc
