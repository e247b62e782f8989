-- The root that is built is a good tree with the reading.
use Rattle.std.proofs.Common.{◌≡◌, ◌≤◌, ℕ, zero, suc, Bool, true, false, cond, nat_lt, Option, Some, None, Result, Ok, refl, sym, subst, arith, inl, inr}
use Rattle.std.proofs.lemmas.Bool.{ltb-false}
use Rattle.cell_nodes.specs.Constructed.{pruned_of}
use Rattle.cell_nodes.specs.Good.{IsGood}
use Rattle.cell_nodes.specs.Tree.{unfolded}
use Rattle.cell_nodes.specs.declared.tree.Hidden.{Hidden}
use Rattle.cell_nodes.specs.declared.tree.Mode.{Mode}
use Rattle.cell_nodes.specs.declared.tree.Mode.TheVariants.{Whole, Partial, Lax}
use Rattle.cell_nodes.specs.declared.tree.Tree.{Tree}
use Rattle.hashmap_labels.specs.declared.forms.Forms.TheVariants.{Required}
use Rattle.hashmap_tree.specs.Dict.{forms_of, unseen}
use Rattle.hashmap_tree.specs.PrunedLaws.{hides-stored}
use Rattle.typed_value.specs.Values.{Plain, number, bit_string, record_of, absent, list_of, ref_to, unknown, map_of, raw, rest}
use Rattle.core_form.specs.Core.{CoreSchema}
use Rattle.core_form.specs.Closed.{Closed}
use Rattle.spelling.specs.Goals.{under_ref, is_ref}
use Rattle.spelling.specs.Places.{Place, at_root}
use Rattle.spelling_laws.specs.StepLaws.{bind_ok, guard_ok}
use Rattle.building.specs.Buildable.{IsBuildable, IsHash, InRange}
use Rattle.building.specs.Growing.{empty}
use Rattle.building.specs.PlainBuilder.{finished, making, hidden_root, hides_root, root_by, built_root, build_within}
use Rattle.building.specs.Unfit.{ReadsWithin}
use Rattle.building_laws.specs.RangeLaws.{pruned_good, can_hide}
use Rattle.building_laws.specs.SizeLaws.{counted}
use Rattle.building_laws.specs.SoundLaws.{child_holds, starts_empty}
use Rattle.building_laws.specs.SpelledLaws.{sound}

tree_one : (a b : Tree) → (◌≡◌ {A = Result Tree Place} (Ok a) (Ok b)) → a ≡ b
tree_one a b e = cc

-- ---- which root is hidden

record HidesRoot (mode : Mode) (t : Closed) (v : Plain) (y : Hidden) : Type 0 where
  pub partial : mode ≡ Partial
  pub value : v ≡ unknown y
  pub no_ref : is_ref t ≡ false

some_one : (a b : Hidden) → (◌≡◌ {A = Option Hidden} (Some a) (Some b)) → a ≡ b
some_one a b e = cc

hides_some : (mode : Mode) (t : Closed) (v : Plain) (y : Hidden) → hides_root mode t v ≡ Some y → HidesRoot mode t v y
hides_some Whole t v y e = cc
hides_some Lax t v y e = cc
hides_some Partial t (unknown x) y e = go (is_ref t) refl e
  where
    go : (b : Bool) → is_ref t ≡ b → cond {A = Option Hidden} b None (Some x) ≡ Some y → HidesRoot Partial t (unknown x) y
    go true f e = cc
    go false f e = record { partial = refl; value = (λ i. unknown (some_one x y e i)); no_ref = f }
hides_some Partial t (number negative size) y e = cc
hides_some Partial t (bit_string bits) y e = cc
hides_some Partial t (record_of name names vs) y e = cc
hides_some Partial t absent y e = cc
hides_some Partial t (list_of vs) y e = cc
hides_some Partial t (ref_to a v) y e = cc
hides_some Partial t (map_of a ps us) y e = cc
hides_some Partial t (raw d) y e = cc
hides_some Partial t (rest s) y e = cc

-- ---- what is built

record HiddenBuilt (n most : ℕ) (y : Hidden) (c : Tree) : Type 0 where
  pub level : 1 ≤ n
  pub part : 1 ≤ most
  pub low : y.depth ≤ 1024
  pub is : pruned_of y.hash y.depth ≡ c

hidden_is_built : (n most : ℕ) (y : Hidden) (c : Tree) → hidden_root n most y ≡ Ok c → HiddenBuilt n most y c
hidden_is_built zero most y c e = cc
hidden_is_built (suc n) zero y c e = cc
hidden_is_built (suc n) (suc most) y c e =
    let g = guard_ok (nat_lt 1024 y.depth) _ _ c e in
    record { level = omega arith; part = omega arith; low = ltb-false 1024 y.depth g.0; is = tree_one (pruned_of y.hash y.depth) c g.1 }

abbrev pub IsRead : ℕ → ℕ → Mode → CoreSchema → Closed → Plain → Tree → Type 0
IsRead n most mode schema t v c = IsGood c × ReadsWithin n most mode schema t c v

hidden_reads : (n most : ℕ) (schema : CoreSchema) (t : Closed) (y : Hidden) (c : Tree) → IsHash y → is_ref t ≡ false
    → HiddenBuilt n most y c → IsRead n most Partial schema t (unknown y) c
hidden_reads n most schema t y c hash f h =
    let G : Tree → Type 0 = IsGood in
    let U : Tree → Type 0 = λ z. unseen Partial z ≡ Some y in
    (subst G h.is (pruned_good y hash h.low), record { root = inr (subst U h.is (hides-stored y (can_hide y hash h.low)), f); deep = h.level; large = h.part })

pub root_reads : (n most : ℕ) (mode : Mode) → forms_of mode ≡ Required → (schema : CoreSchema) → IsBuildable schema
    → (t : Closed) (v : Plain) → InRange v → (c : Tree) → built_root n most mode schema t v ≡ Ok c
    → IsRead n most mode schema t v c
root_reads n most mode req schema ok t v range c e = go (hides_root mode t v) refl e
  where
    go : (o : Option Hidden) → hides_root mode t v ≡ o → root_by o n most mode schema t v ≡ Ok c
        → IsRead n most mode schema t v c
    go None f e =
        let m = bind_ok (making n most mode schema at_root (under_ref t) 0 v empty) _ c e in
        let s = sound mode req schema ok v n most range at_root (under_ref t) 0 empty m.0.0 m.0.1 (starts_empty (under_ref t)) m.1 in
        let k = child_holds mode schema v (under_ref t) m.0.0 s.0 m.0.1 s.1 s.2 in
        let size = counted mode schema v n most at_root (under_ref t) 0 empty m.0 m.1 in
        let few = size.1 in
        let same = tree_one (finished (under_ref t) m.0.1.held) c m.2 in
        let P : Tree → Type 0 = λ z. IsRead n most mode schema t v z in
        subst P same (k.1, record { root = inl k.0; deep = size.0; large = omega (arith, few) })
    go (Some y) f e =
        let h = hides_some mode t v y f in
        let b = hidden_is_built n most y c e in
        let R : Plain → Type 0 = InRange in
        let M : Mode → Type 0 = λ m. IsRead n most m schema t (unknown y) c in
        let V : Plain → Type 0 = λ u. IsRead n most mode schema t u c in
        subst V (sym h.value) (subst M (sym h.partial) (hidden_reads n most schema t y c (subst R h.value range) h.no_ref b))

pub built_reads : (n most cells : ℕ) (mode : Mode) → forms_of mode ≡ Required → (schema : CoreSchema) → IsBuildable schema
    → (t : Closed) (v : Plain) → InRange v → (c : Tree) → build_within n most cells mode schema t v ≡ Ok c
    → IsRead n most mode schema t v c × (unfolded c ≤ cells)
built_reads n most cells mode req schema ok t v range c e =
    let m = bind_ok (built_root n most mode schema t v) _ c e in
    let g = guard_ok (nat_lt cells (unfolded m.0)) _ _ c m.2 in
    let same = tree_one m.0 c g.1 in
    let P : Tree → Type 0 = λ z. IsRead n most mode schema t v z × (unfolded z ≤ cells) in
    subst P same (root_reads n most mode req schema ok t v range m.0 m.1, ltb-false cells (unfolded m.0) g.0)
