-- The root of a reading is built; so two good trees with one reading are equal.
use Rattle.std.proofs.Common.{◌≡◌, ◌≤◌, ℕ, zero, suc, ◌+◌, Bool, true, false, cond, nat_lt, Some, None, Result, Ok, Err, refl, sym, ap, ◌∙◌, subst, arith, inl, inr}
use Rattle.std.proofs.lemmas.Bool.{le-ltb}
use Rattle.cell_nodes.specs.Good.{IsGood}
use Rattle.cell_nodes.specs.Tree.{unfolded}
use Rattle.cell_nodes.specs.declared.tree.Hidden.{Hidden}
use Rattle.cell_nodes.specs.declared.tree.Mode.{Mode}
use Rattle.cell_nodes.specs.declared.tree.Mode.TheVariants.{Whole, Partial, Lax}
use Rattle.cell_nodes.specs.declared.tree.Tree.{Tree}
use Rattle.hashmap_labels.specs.declared.forms.Forms.TheVariants.{Required}
use Rattle.hashmap_tree.specs.Dict.{forms_of, unseen}
use Rattle.hashmap_tree.specs.Entries.{Slice}
use Rattle.typed_value.specs.Values.{Plain, number, bit_string, record_of, absent, list_of, ref_to, unknown, map_of, raw, rest, levels, parts}
use Rattle.core_form.specs.Core.{CoreSchema}
use Rattle.core_form.specs.Closed.{Closed}
use Rattle.core_form.specs.Closed as closed
use Rattle.spelling.specs.Goals.{at_type, at_cell, Shape, typed, fields_under, as_cell, in_table, in_width, under_ref, is_ref}
use Rattle.spelling.specs.Places.{Place, at_root}
use Rattle.spelling.specs.Spells.{Spells, SpellsUnknown, Holds, IsRootOf}
use Rattle.spelling.specs.declared.Cause.{Cause}
use Rattle.spelling.specs.declared.Cause.TheVariants.{Width}
use Rattle.spelling_laws.specs.ProperLaws.{proper_under}
use Rattle.spelling_laws.specs.StepLaws.{bind_on, when_true, when_false}
use Rattle.building.specs.Buildable.{IsBuildable, IsHash, InRange}
use Rattle.building.specs.Growing.{empty}
use Rattle.building.specs.PlainBuilder.{making, hidden_root, hides_root, root_by, built_root, build_within}
use Rattle.building.specs.Unfit.{ReadsWithin}
use Rattle.building_laws.specs.BuiltLaws.{complete}
use Rattle.building_laws.specs.CompleteLaws.{cell_complete}
use Rattle.building_laws.specs.RangeLaws.{hidden_is}

-- ---- which root is hidden

abbrev IsRefShape : Shape → Type 0
IsRefShape (typed (closed.ref t)) = Unit {0}
IsRefShape (fields_under is scope) = Unit {0}
IsRefShape _ = ⊥

unknown_ref : (mode : Mode) (x : Hidden) (c : Shape) (s : Slice) (outs : _) (r : Slice) → SpellsUnknown mode x c s outs r
    → IsRefShape c
unknown_ref mode x (typed (closed.ref t)) s outs r e = tt
unknown_ref mode x (fields_under is scope) s outs r e = tt
unknown_ref mode x _ s outs r e = absurd e

ok_same : (c d : Shape) → (◌≡◌ {A = Result Shape Cause} (Ok c) (Ok d)) → c ≡ d
ok_same c d e = cc

width_same : (t : Closed) (c : Shape) → in_width (typed t) ≡ Ok c → typed t ≡ c
width_same t c e = go (in_table t) e
  where
    go : (b : Bool) → cond b (Ok (typed t)) (Err Width) ≡ Ok c → typed t ≡ c
    go true e = ok_same (typed t) c e
    go false e = cc

ref_is : (t : Closed) → IsRefShape (typed t) → is_ref t ≡ true
ref_is (closed.ref t) h = refl
ref_is _ h = absurd h

at_type_ref : (mode : Mode) (schema : CoreSchema) (x : Hidden) (t : Closed) (s : Slice) (outs : _) (r : Slice)
    → Spells mode schema (unknown x) (at_type t) s outs r → is_ref t ≡ true
at_type_ref mode schema x t s outs r d =
    let P : Shape → Type 0 = IsRefShape in
    ref_is t (subst P (sym (width_same t d.0 d.1)) (unknown_ref mode x d.0 s outs r d.2))

at_cell_never : (mode : Mode) (schema : CoreSchema) (x : Hidden) (s : Slice) (outs : _) (r : Slice)
    → Spells mode schema (unknown x) at_cell s outs r → ⊥
at_cell_never mode schema x s outs r d =
    let P : Shape → Type 0 = IsRefShape in
    subst P (sym (ok_same as_cell d.0 d.1)) (unknown_ref mode x d.0 s outs r d.2)

-- a cell holds a hidden part alone only where the type is itself a reference
unknown_held : (mode : Mode) (schema : CoreSchema) (x : Hidden) (t : Closed) (c : Tree)
    → Holds mode (Spells mode schema (unknown x)) (under_ref t) c → is_ref t ≡ true
unknown_held mode schema x closed.whole c k = absurd (at_cell_never mode schema x _ k.0 _ k.2)
unknown_held mode schema x closed.nat32 c k = at_type_ref mode schema x closed.nat32 k.0 k.1 _ k.3
unknown_held mode schema x (closed.bits n) c k = at_type_ref mode schema x (closed.bits n) k.0 k.1 _ k.3
unknown_held mode schema x (closed.below n) c k = at_type_ref mode schema x (closed.below n) k.0 k.1 _ k.3
unknown_held mode schema x (closed.up_to n) c k = at_type_ref mode schema x (closed.up_to n) k.0 k.1 _ k.3
unknown_held mode schema x (closed.uint n) c k = at_type_ref mode schema x (closed.uint n) k.0 k.1 _ k.3
unknown_held mode schema x (closed.int n) c k = at_type_ref mode schema x (closed.int n) k.0 k.1 _ k.3
unknown_held mode schema x (closed.bit_str n) c k = at_type_ref mode schema x (closed.bit_str n) k.0 k.1 _ k.3
unknown_held mode schema x (closed.ref t) c k = refl
unknown_held mode schema x (closed.repeat n t) c k = at_type_ref mode schema x (closed.repeat n t) k.0 k.1 _ k.3
unknown_held mode schema x (closed.dict n t) c k = at_type_ref mode schema x (closed.dict n t) k.0 k.1 _ k.3
unknown_held mode schema x (closed.dict_e n t) c k = at_type_ref mode schema x (closed.dict_e n t) k.0 k.1 _ k.3
unknown_held mode schema x (closed.named y args) c k = at_type_ref mode schema x (closed.named y args) k.0 k.1 _ k.3

pub hides_none : (mode : Mode) (schema : CoreSchema) (t : Closed) (v : Plain) (c : Tree)
    → Holds mode (Spells mode schema v) (under_ref t) c → hides_root mode t v ≡ None
hides_none Whole schema t v c k = refl
hides_none Lax schema t v c k = refl
hides_none Partial schema t (number negative size) c k = refl
hides_none Partial schema t (bit_string bits) c k = refl
hides_none Partial schema t (record_of name names vs) c k = refl
hides_none Partial schema t absent c k = refl
hides_none Partial schema t (list_of vs) c k = refl
hides_none Partial schema t (ref_to a v) c k = refl
hides_none Partial schema t (unknown x) c k = when_true (is_ref t) _ _ (unknown_held Partial schema x t c k)
hides_none Partial schema t (map_of a ps us) c k = refl
hides_none Partial schema t (raw d) c k = refl
hides_none Partial schema t (rest s) c k = refl

-- ---- the root of a reading is built

hidden_built : (n most : ℕ) (x : Hidden) (c : Tree) → IsHash x → IsGood c → unseen Partial c ≡ Some x → 1 ≤ n → 1 ≤ most
    → hidden_root n most x ≡ Ok c
hidden_built zero most x c hash fine u a b = absurd (omega (arith, a))
hidden_built (suc n) zero x c hash fine u a b = absurd (omega (arith, b))
hidden_built (suc n) (suc most) x c hash fine u a b =
    let k = hidden_is c x hash fine u in
    when_false (nat_lt 1024 x.depth) _ _ (le-ltb 1024 x.depth k.2) ∙ ap Ok (sym k.0)

unknown_built : (n most : ℕ) (mode : Mode) (schema : CoreSchema) (t : Closed) (x : Hidden) (c : Tree) → IsHash x
    → IsGood c → unseen mode c ≡ Some x → is_ref t ≡ false → 1 ≤ n → 1 ≤ most
    → built_root n most mode schema t (unknown x) ≡ Ok c
unknown_built n most Whole schema t x c hash fine u e a b = cc
unknown_built n most Lax schema t x c hash fine u e a b = cc
unknown_built n most Partial schema t x c hash fine u e a b =
    ap (λ o. root_by o n most Partial schema t (unknown x)) (when_false (is_ref t) _ _ e) ∙ hidden_built n most x c hash fine u a b

pub root_built : (n most : ℕ) (mode : Mode) → forms_of mode ≡ Required → (schema : CoreSchema) → IsBuildable schema
    → (t : Closed) (v : Plain) → InRange v → (c : Tree) → IsGood c → levels v ≤ n → parts v ≤ most
    → IsRootOf mode schema t c v → built_root n most mode schema t v ≡ Ok c
root_built n most mode req schema ok t v range c fine deep large (inl k) =
    let done = complete mode req schema ok v n most range deep in
    let none : 0 + parts v ≤ most = omega (arith, large) in
    let x = cell_complete most mode schema (making n most mode schema) v done at_root (under_ref t) 0 c (proper_under t) none fine k in
    ap (λ o. root_by o n most mode schema t v) (hides_none mode schema t v c k)
    ∙ bind_on (making n most mode schema at_root (under_ref t) 0 v empty) _ x.0 (Ok c) x.1 (ap Ok x.2)
root_built n most mode req schema ok t (unknown x) range c fine deep large (inr k) =
    unknown_built n most mode schema t x c range fine k.0 k.1 deep large
root_built n most mode req schema ok t (number negative size) range c fine deep large (inr k) = absurd k
root_built n most mode req schema ok t (bit_string bits) range c fine deep large (inr k) = absurd k
root_built n most mode req schema ok t (record_of name names vs) range c fine deep large (inr k) = absurd k
root_built n most mode req schema ok t absent range c fine deep large (inr k) = absurd k
root_built n most mode req schema ok t (list_of vs) range c fine deep large (inr k) = absurd k
root_built n most mode req schema ok t (ref_to _ v) range c fine deep large (inr k) = absurd k
root_built n most mode req schema ok t (map_of _ ps us) range c fine deep large (inr k) = absurd k
root_built n most mode req schema ok t (raw d) range c fine deep large (inr k) = absurd k
root_built n most mode req schema ok t (rest s) range c fine deep large (inr k) = absurd k

pub build_on : (n most cells : ℕ) (mode : Mode) → forms_of mode ≡ Required → (schema : CoreSchema) → IsBuildable schema
    → (t : Closed) (v : Plain) → InRange v → (c : Tree) → IsGood c → ReadsWithin n most mode schema t c v
    → unfolded c ≤ cells → build_within n most cells mode schema t v ≡ Ok c
build_on n most cells mode req schema ok t v range c fine r small =
    bind_on (built_root n most mode schema t v) _ c (Ok c) (root_built n most mode req schema ok t v range c fine r.deep r.large r.root)
    (when_false (nat_lt cells (unfolded c)) _ _ (le-ltb cells (unfolded c) small))

ok_one : (c d : Tree) → (◌≡◌ {A = Result Tree Place} (Ok c) (Ok d)) → c ≡ d
ok_one c d e = cc

pub one_tree_within : (n most : ℕ) (mode : Mode) → forms_of mode ≡ Required → (schema : CoreSchema) → IsBuildable schema
    → (t : Closed) (v : Plain) → InRange v → (c d : Tree) → IsGood c → IsGood d → ReadsWithin n most mode schema t c v
    → ReadsWithin n most mode schema t d v → c ≡ d
one_tree_within n most mode req schema ok t v range c d x y r k =
    ok_one c d (sym (root_built n most mode req schema ok t v range c x r.deep r.large r.root) ∙ root_built n most mode req schema ok t v range d y k.deep k.large k.root)
