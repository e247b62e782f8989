-- A reference, and what the cell holds that it leads to.
use Rattle.std.proofs.Common.{◌≡◌, ℕ, Bool, true, false, cond, List, [], ◌∷◌, Option, Some, None, Result, Ok, Err, refl, ap, sym, ◌∙◌, subst}
use Rattle.cell_nodes.specs.declared.tree.Hidden.{Hidden}
use Rattle.cell_nodes.specs.declared.tree.Kind.{Kind}
use Rattle.cell_nodes.specs.declared.tree.Kind.TheVariants as kinds
use Rattle.cell_nodes.specs.declared.tree.Mode.{Mode}
use Rattle.cell_nodes.specs.declared.tree.Tree.{Tree, out-Tree}
use Rattle.core_form.specs.Closed.{Closed}
use Rattle.core_form.specs.Closed as closed
use Rattle.core_form.specs.Core.{CoreSchema, Items, field_names}
use Rattle.core_form.specs.Scope.{Scope}
use Rattle.hashmap_tree.specs.Dict.{unseen}
use Rattle.hashmap_tree.specs.Entries.{Slice, content}
use Rattle.plan_reading.specs.Stops.{Stops}
use Rattle.plan_reading.specs.declared.stop.StopError.{StopError}
use Rattle.spelling.specs.Goals.{Goal, at_cell, at_fields, at_type, fields_here, under_ref}
use Rattle.spelling.specs.Places.{Place, Spot, stuck}
use Rattle.spelling.specs.PlainReader.{◌>>=◌, Found, Got, Reader, cell_value, child_of, ordinary_of, read_fields, read_goal, read_ref, reading, whole_of}
use Rattle.spelling.specs.Slices.{is_nothing, nothing, only_ref}
use Rattle.spelling.specs.declared.Cause.TheVariants.{Exotic, Leftover, ShortRefs}
use Rattle.spelling_laws.specs.StepLaws.{when_true, when_false}
use Rattle.typed_value.specs.Values.{Plain, most_parts, raw, record_of, ref_to, unknown}
use Rattle.typed_reader.specs.Begun.{is_whole, starting}
use Rattle.typed_reader.proofs.Levels.{reading_begins, reading_shaped, within}
use Rattle.plan_reading.specs.StopLaws.{stops_then}
use Rattle.typed_reader.proofs.Steps.{stops_same}

-- ---- the whole of a slice

pub whole_left : (R : Reader) (h : Spot) (g : Goal) (q : ℕ) (s : Slice) (x : Found) → R h g q s ≡ Ok x
    → is_nothing x.2 ≡ false → whole_of R h g q s ≡ Err (stuck h Leftover)
whole_left R h g q s x e left =
    ap (λ z. z >>= (λ y. cond {A = Result Plain Place} (is_nothing y.2) (Ok y.0) (Err (stuck h Leftover)))) e
    ∙ when_false {A = Result Plain Place} (is_nothing x.2) (Ok x.0) (Err (stuck h Leftover)) left

pub whole_read : (R : Reader) (h : Spot) (g : Goal) (q : ℕ) (s : Slice) (x : Found) → R h g q s ≡ Ok x
    → is_nothing x.2 ≡ true → whole_of R h g q s ≡ Ok x.0
whole_read R h g q s x e all =
    ap (λ z. z >>= (λ y. cond {A = Result Plain Place} (is_nothing y.2) (Ok y.0) (Err (stuck h Leftover)))) e
    ∙ when_true {A = Result Plain Place} (is_nothing x.2) (Ok x.0) (Err (stuck h Leftover)) all

-- ---- what a cell holds

pub under_typed : (t : Closed) → is_whole t ≡ false → under_ref t ≡ at_type t
under_typed closed.nat32 e = refl
under_typed (closed.bits n) e = refl
under_typed (closed.below n) e = refl
under_typed (closed.up_to n) e = refl
under_typed (closed.uint n) e = refl
under_typed (closed.int n) e = refl
under_typed (closed.bit_str n) e = refl
under_typed closed.whole e = cc
under_typed (closed.ref t) e = refl
under_typed (closed.repeat n t) e = refl
under_typed (closed.dict n t) e = refl
under_typed (closed.dict_e n t) e = refl
under_typed (closed.named x args) e = refl

under_whole : (t : Closed) → is_whole t ≡ true → under_ref t ≡ at_cell
under_whole closed.nat32 e = cc
under_whole (closed.bits n) e = cc
under_whole (closed.below n) e = cc
under_whole (closed.up_to n) e = cc
under_whole (closed.uint n) e = cc
under_whole (closed.int n) e = cc
under_whole (closed.bit_str n) e = cc
under_whole closed.whole e = refl
under_whole (closed.ref t) e = cc
under_whole (closed.repeat n t) e = cc
under_whole (closed.dict n t) e = cc
under_whole (closed.dict_e n t) e = cc
under_whole (closed.named x args) e = cc

not_ordinary : (R : Reader) (h : Spot) (g : Goal) (q : ℕ) (k : Kind) (s : Slice) → (k ≡ kinds.Ordinary → ⊥)
    → ordinary_of R h g q k s ≡ Err (stuck h Exotic)
not_ordinary R h g q kinds.Ordinary s other = absurd (other refl)
not_ordinary R h g q kinds.Pruned s other = refl
not_ordinary R h g q kinds.Library s other = refl
not_ordinary R h g q kinds.Proof s other = refl
not_ordinary R h g q kinds.Update s other = refl

begun_alone : (h : Spot) (c : Tree) (r : Result ℕ Place)
    → ((r >>= (λ k. Ok (let x : Found = (raw c, [], nothing) in x))) >>= (λ y. cond {A = Result Plain Place} (is_nothing y.2) (Ok y.0) (Err (stuck h Leftover))))
    ≡ (r >>= (λ k. Ok (raw c)))
begun_alone h c (Ok k) = refl
begun_alone h c (Err p) = refl

-- under `^` of Any or Cell
pub cell_as_is : (n : ℕ) (mode : Mode) (schema : CoreSchema) (h : Spot) (t : Closed) (q : ℕ) (c : Tree) → is_whole t ≡ true
    → cell_value (reading n most_parts mode schema) h (under_ref t) q c ≡ (starting n q h >>= (λ k. Ok (raw c)))
cell_as_is n mode schema h t q c e =
    ap (λ g. cell_value (reading n most_parts mode schema) h g q c) (under_whole t e)
    ∙ ap (λ z. z >>= (λ y. cond {A = Result Plain Place} (is_nothing y.2) (Ok y.0) (Err (stuck h Leftover))))
    (reading_begins n mode schema h at_cell q (only_ref c))
    ∙ begun_alone h c (starting n q h)

pub cell_stops : (n : ℕ) (mode : Mode) (schema : CoreSchema) (h : Spot) (t : Closed) (q : ℕ) (c : Tree) (e : StopError)
    → is_whole t ≡ true → Stops h e (starting n q h)
    → Stops h e (cell_value (reading n most_parts mode schema) h (under_ref t) q c)
cell_stops n mode schema h t q c e whole stop =
    stops_same h e _ _ (cell_as_is n mode schema h t q c whole) (stops_then h e (starting n q h) (λ k. Ok (raw c)) stop)

pub cell_raw : (n : ℕ) (mode : Mode) (schema : CoreSchema) (h : Spot) (t : Closed) (q k : ℕ) (c : Tree)
    → is_whole t ≡ true → starting n q h ≡ Ok k
    → cell_value (reading n most_parts mode schema) h (under_ref t) q c ≡ Ok (raw c)
cell_raw n mode schema h t q k c whole begun =
    cell_as_is n mode schema h t q c whole ∙ ap (λ z. z >>= (λ k. Ok (raw c))) begun

pub cell_exotic : (R : Reader) (h : Spot) (t : Closed) (q : ℕ) (c : Tree) → is_whole t ≡ false
    → ((out-Tree c).kind ≡ kinds.Ordinary → ⊥) → cell_value R h (under_ref t) q c ≡ Err (stuck h Exotic)
cell_exotic R h t q c e other =
    ap (λ g. cell_value R h g q c) (under_typed t e) ∙ not_ordinary R h (at_type t) q (out-Tree c).kind (content c) other

pub cell_held : (R : Reader) (h : Spot) (t : Closed) (q : ℕ) (c : Tree) → is_whole t ≡ false
    → (out-Tree c).kind ≡ kinds.Ordinary → cell_value R h (under_ref t) q c ≡ whole_of R h (at_type t) q (content c)
cell_held R h t q c e is =
    ap (λ g. cell_value R h g q c) (under_typed t e) ∙ ap (λ k. ordinary_of R h (at_type t) q k (content c)) is

-- ---- references

pub ref_short : (mode : Mode) (R : Reader) (h : Spot) (g : Goal) (q : ℕ) (bits : List ℕ) (refs : List Tree) → refs ≡ []
    → read_ref mode R h g q bits refs ≡ Err (stuck h ShortRefs)
ref_short mode R h g q bits refs e = ap (read_ref mode R h g q bits) e

after_ref : List ℕ → List Tree → Result Plain Place → Result Found Place
after_ref bits refs r = r >>= (λ v. Ok (let x : Found = (v, [], record { bits = bits; refs = refs }) in x))

pub ref_unseen : (mode : Mode) (R : Reader) (h : Spot) (g : Goal) (q : ℕ) (bits : List ℕ) (refs more : List Tree) (c : Tree) (x : Hidden)
    → refs ≡ c ∷ more → unseen mode c ≡ Some x
    → read_ref mode R h g q bits refs ≡ Ok (unknown x, [], record { bits = bits; refs = more })
ref_unseen mode R h g q bits refs more c x e hides =
    ap (read_ref mode R h g q bits) e
    ∙ ap (λ z. child_of R h g q z c >>= (λ v. Ok (let x : Found = (v, [], record { bits = bits; refs = more }) in x))) hides

ref_seen : (mode : Mode) (R : Reader) (h : Spot) (g : Goal) (q : ℕ) (bits : List ℕ) (refs more : List Tree) (c : Tree)
    → refs ≡ c ∷ more → unseen mode c ≡ None
    → read_ref mode R h g q bits refs
    ≡ ((cell_value R h g q c >>= (λ v. Ok (ref_to tt v))) >>= (λ v. Ok (let x : Found = (v, [], record { bits = bits; refs = more }) in x)))
ref_seen mode R h g q bits refs more c e seen =
    ap (read_ref mode R h g q bits) e
    ∙ ap (λ z. child_of R h g q z c >>= (λ v. Ok (let x : Found = (v, [], record { bits = bits; refs = more }) in x))) seen

pub ref_stops : (mode : Mode) (R : Reader) (h : Spot) (g : Goal) (q : ℕ) (bits : List ℕ) (refs more : List Tree) (c : Tree) (e : StopError)
    → refs ≡ c ∷ more → unseen mode c ≡ None → Stops h e (cell_value R h g q c)
    → Stops h e (read_ref mode R h g q bits refs)
ref_stops mode R h g q bits refs more c e is seen stop =
    stops_same h e _ _ (ref_seen mode R h g q bits refs more c is seen)
    (stops_then h e (cell_value R h g q c >>= (λ v. Ok (ref_to tt v))) (λ v. Ok (let x : Found = (v, [], record { bits = bits; refs = more }) in x))
    (stops_then h e (cell_value R h g q c) (λ v. Ok (ref_to tt v)) stop))

pub ref_read : (mode : Mode) (R : Reader) (h : Spot) (g : Goal) (q : ℕ) (bits : List ℕ) (refs more : List Tree) (c : Tree) (v : Plain)
    → refs ≡ c ∷ more → unseen mode c ≡ None → cell_value R h g q c ≡ Ok v
    → read_ref mode R h g q bits refs ≡ Ok (ref_to tt v, [], record { bits = bits; refs = more })
ref_read mode R h g q bits refs more c v is seen held =
    ref_seen mode R h g q bits refs more c is seen
    ∙ ap (λ z. (z >>= (λ v. Ok (ref_to tt v))) >>= (λ v. Ok (let x : Found = (v, [], record { bits = bits; refs = more }) in x))) held

-- ---- a record in a record

-- what is made of its fields
abbrev pub as_record : Items → Got → Result Found Place
as_record is x = Ok (record_of None (field_names is) x.0, [], x.2)

pub fields_begin : (n : ℕ) (mode : Mode) (schema : CoreSchema) (h : Spot) (is : Items) (scope : Scope) (q k : ℕ) (s : Slice)
    → starting n q h ≡ Ok k
    → reading n most_parts mode schema h (at_fields is scope) q s ≡ (read_fields (within n mode schema) h is scope k s >>= as_record is)
fields_begin n mode schema h is scope q k s begun =
    reading_shaped n mode schema h (at_fields is scope) q k s (fields_here is scope) begun refl

pub under_exotic : (R : Reader) (h : Spot) (is : Items) (scope : Scope) (q : ℕ) (c : Tree) → ((out-Tree c).kind ≡ kinds.Ordinary → ⊥)
    → cell_value R h (at_fields is scope) q c ≡ Err (stuck h Exotic)
under_exotic R h is scope q c other = not_ordinary R h (at_fields is scope) q (out-Tree c).kind (content c) other

pub under_held : (R : Reader) (h : Spot) (is : Items) (scope : Scope) (q : ℕ) (c : Tree) → (out-Tree c).kind ≡ kinds.Ordinary
    → cell_value R h (at_fields is scope) q c ≡ whole_of R h (at_fields is scope) q (content c)
under_held R h is scope q c is_ordinary = ap (λ k. ordinary_of R h (at_fields is scope) q k (content c)) is_ordinary
