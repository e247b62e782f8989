-- The entries of a tree of good cells are in order and fit, whatever their contents; and those contents can stand in
-- cells.
use Rattle.std.proofs.Common.{◌≡◌, inl, inr, ℕ, suc, ◌+◌, Bool, true, false, ◌||◌, nat_eq, List, [], ◌∷◌, ◌++◌, length, Some, refl, sym, ap, ◌∙◌, subst, arith, lit<, length-append}
use Rattle.std.proofs.lemmas.Bool.{eq-eqb, le-leb}
use Rattle.bit_slice.specs.Bits.{AreBits}
use Rattle.bit_slice.specs.BitLists.{AreBits-append}
use Rattle.cell_nodes.specs.Good.{IsGood}
use Rattle.cell_nodes.specs.declared.tree.Hidden.{Hidden}
use Rattle.cell_nodes.specs.declared.tree.Mode.{Mode}
use Rattle.cell_nodes.specs.declared.tree.Tree.{Tree}
use Rattle.hashmap_labels.specs.Labels.{IsLabel}
use Rattle.hashmap_labels.specs.LengthLaws.{are_bits-AreBits}
use Rattle.hashmap_labels.specs.SpellingLaws.{label_bits}
use Rattle.hashmap_labels.specs.declared.forms.Forms.TheVariants.{Required}
use Rattle.hashmap_tree.specs.Dict.{forms_of, DictTree, one, two, Branch, open_edge, hidden_edge}
use Rattle.hashmap_tree.specs.Entries.{Slice, Then, Part, leaf, hidden, Entries, under, fork}
use Rattle.hashmap_tree.specs.KeyLaws.{true-before}
use Rattle.hashmap_tree.specs.Merged.{hidden_parts, those_before, those_after, merged}
use Rattle.hashmap_tree.specs.Order.{Before, MayStand, AreInOrder}
use Rattle.hashmap_tree.specs.OrderedLaws.{StartAfter, order-cons, order-stand, order-bits, order-after, order-rest}
use Rattle.hashmap_tree.specs.Placed.{IsAmong, IsForkChild, ArePlaced}
use Rattle.spelling.specs.Slices.{nothing, only_bits}
use Rattle.spelling_laws.specs.StepLaws.{both_on}
use Rattle.building.specs.MapTests.{may_stand, goes_before, in_order, flipped, after_bit, sibling, begins, has_below, has_some_below, are_placed}
use Rattle.building.specs.Planting.{labeled}
use Rattle.building_laws.specs.MoveLaws.{IsHeld, held_after, good_held}
use Rattle.building_laws.specs.PlantLaws.{label_is, label_more, good_both}

-- ---- entries without their contents

abbrev pub blank_part : Part → Part
blank_part (leaf c) = leaf nothing
blank_part (hidden h) = hidden h

abbrev pub blank : Entries → Entries
blank [] = []
blank (e ∷ es) = (e.0, blank_part e.1) ∷ blank es

abbrev pub blank_pairs : List (List ℕ × Slice) → List (List ℕ × Slice)
blank_pairs [] = []
blank_pairs (x ∷ xs) = (x.0, nothing) ∷ blank_pairs xs

blank_hidden : (us : List (List ℕ × Hidden)) → blank (hidden_parts us) ≡ hidden_parts us
blank_hidden [] = refl
blank_hidden (u ∷ us) = ap (λ (l : Entries). (u.0, hidden u.1) ∷ l) (blank_hidden us)

blank_append : (ds fs : Entries) → blank (ds ++ fs) ≡ blank ds ++ blank fs
blank_append [] fs = refl
blank_append (d ∷ ds) fs = ap (λ (l : Entries). (d.0, blank_part d.1) ∷ l) (blank_append ds fs)

pub blank_merged : (xs : List (List ℕ × Slice)) (us : List (List ℕ × Hidden))
    → blank (merged xs us) ≡ merged (blank_pairs xs) us
blank_merged [] us = blank_hidden us
blank_merged (x ∷ xs) us =
    blank_append (hidden_parts (those_before x.0 us)) ((x.0, leaf x.1) ∷ merged xs (those_after x.0 us))
    ∙ (λ i. blank_hidden (those_before x.0 us) i ++ (x.0, leaf nothing) ∷ blank_merged xs (those_after x.0 us) i)

-- ---- in order, so by the test

stand_on : (n : ℕ) (k : List ℕ) (x : Part) → MayStand n k x → may_stand n k (blank_part x) ≡ true
stand_on n k (leaf c) s = eq-eqb (length k) n s
stand_on n k (hidden h) s = le-leb (length k) n s

before_on : (k : List ℕ) (es : Entries) → StartAfter k es → goes_before k (blank es) ≡ true
before_on k [] s = refl
before_on k (f ∷ es) s = true-before k f.0 s

pub in_order_on : (n : ℕ) (es : Entries) → AreInOrder n es → in_order n (blank es) ≡ true
in_order_on n [] o = refl
in_order_on n (e ∷ es) o =
    both_on (may_stand n e.0 (blank_part e.1)) _ (stand_on n e.0 e.1 (order-stand n e es o))
    (both_on _ _ (are_bits-AreBits e.0 (order-bits n e es o))
    (both_on (goes_before e.0 (blank es)) (in_order n (blank es)) (before_on e.0 es (order-after n e es o)) (in_order_on n es (order-rest n e es o))))

-- ---- placed, so by the test

begins_on : (p k : List ℕ) → begins p (p ++ k) ≡ true
begins_on [] k = refl
begins_on (x ∷ p) k = both_on (nat_eq x x) (begins p (p ++ k)) (eq-eqb x x refl) (begins_on p k)

or_left : (a b : Bool) → a ≡ true → (a || b) ≡ true
or_left true b e = refl
or_left false b e = cc

or_right : (a b : Bool) → b ≡ true → (a || b) ≡ true
or_right true b e = refl
or_right false b e = e

has_below_on : (p k : List ℕ) (x : Part) (es : Entries) → IsAmong (p ++ k) x es → has_below p (blank es) ≡ true
has_below_on p k x [] a = absurd a
has_below_on p k x (e ∷ es) (inl a) =
    or_left (begins p e.0) (has_below p (blank es)) (ap (begins p) a.0 ∙ begins_on p k)
has_below_on p k x (e ∷ es) (inr a) = or_right (begins p e.0) (has_below p (blank es)) (has_below_on p k x es a)

sibling_of : (p : List ℕ) (b : ℕ) → sibling (p ++ b ∷ []) ≡ Some (p ++ flipped b ∷ [])
sibling_of [] b = refl
sibling_of (x ∷ []) b = refl
sibling_of (x ∷ y ∷ p) b = ap (after_bit x) (sibling_of (y ∷ p) b)

child_on : (q : List ℕ) (es : Entries) → IsForkChild q es → has_some_below (sibling q) (blank es) ≡ true
child_on q es (p, inl h) =
    ap (λ z. has_some_below (sibling z) (blank es)) h.0
    ∙ ap (λ o. has_some_below o (blank es)) (sibling_of p 0) ∙ has_below_on (p ++ 1 ∷ []) h.1.0 h.1.1 es h.1.2
child_on q es (p, inr h) =
    ap (λ z. has_some_below (sibling z) (blank es)) h.0
    ∙ ap (λ o. has_some_below o (blank es)) (sibling_of p 1) ∙ has_below_on (p ++ 0 ∷ []) h.1.0 h.1.1 es h.1.2

pub placed_on : (fs es : Entries) → ArePlaced fs es → are_placed (blank fs) (blank es) ≡ true
placed_on [] es a = refl
placed_on ((q, leaf c) ∷ fs) es a = placed_on fs es (λ j h m. a j h (inr m))
placed_on ((q, hidden x) ∷ fs) es a =
    both_on (has_some_below (sibling q) (blank es)) (are_placed (blank fs) (blank es)) (child_on q es (a q x (inl (refl, refl)))) (placed_on fs es (λ j h m. a j h (inr m)))

-- ---- the entries of a tree are in order

before_onto : (q a b : List ℕ) → Before a b → Before (q ++ a) (q ++ b)
before_onto [] a b h = h
before_onto (x ∷ q) a b h = inr (refl, before_onto q a b h)

before_fork : (p a b : List ℕ) → Before (p ++ 0 ∷ [] ++ a) (p ++ 1 ∷ [] ++ b)
before_fork [] a b = inl (lit< tt)
before_fork (x ∷ p) a b = inr (refl, before_fork p a b)

stand_below : (n m : ℕ) (q k : List ℕ) (x : Part) → n ≡ length q + m → MayStand m k x → MayStand n (q ++ k) x
stand_below n m q k (leaf c) e s = omega (arith, e, s, length-append q k)
stand_below n m q k (hidden h) e s = omega (arith, e, s, length-append q k)

after_under : (q : List ℕ) (k : List ℕ) (es : Entries) → StartAfter k es → StartAfter (q ++ k) (under q es)
after_under q k [] a = tt
after_under q k (f ∷ es) a = before_onto q k f.0 a

order_under : (n m : ℕ) (q : List ℕ) (es : Entries) → AreBits q → n ≡ length q + m → AreInOrder m es
    → AreInOrder n (under q es)
order_under n m q [] h e o = tt
order_under n m q (f ∷ es) h e o =
    order-cons n (q ++ f.0, f.1) (under q es) (stand_below n m q f.0 f.1 e (order-stand m f es o))
    (AreBits-append q f.0 h (order-bits m f es o)) (after_under q f.0 es (order-after m f es o)) (order_under n m q es h e (order-rest m f es o))

after_both : (p k : List ℕ) (zs os : Entries) → StartAfter k zs
    → StartAfter (p ++ 0 ∷ [] ++ k) (under (p ++ 0 ∷ []) zs ++ under (p ++ 1 ∷ []) os)
after_both p k [] [] a = tt
after_both p k [] (o ∷ os) a = before_fork p k o.0
after_both p k (z ∷ zs) os a = before_onto (p ++ 0 ∷ []) k z.0 a

pub order_fork : (n m : ℕ) (p : List ℕ) (zs os : Entries) → AreBits p → n ≡ length p + suc m → AreInOrder m zs
    → AreInOrder m os → AreInOrder n (fork p zs os)
order_fork n m p [] os h e oz oo =
    order_under n m (p ++ 1 ∷ []) os (AreBits-append p (1 ∷ []) h (lit< tt, tt)) (let k = length-append p (1 ∷ []) in omega (arith, e, k)) oo
order_fork n m p (z ∷ zs) os h e oz oo =
    let k = length-append p (0 ∷ []) in
    order-cons n (p ++ 0 ∷ [] ++ z.0, z.1) (under (p ++ 0 ∷ []) zs ++ under (p ++ 1 ∷ []) os)
    (stand_below n m (p ++ 0 ∷ []) z.0 z.1 (omega (arith, e, k)) (order-stand m z zs oz))
    (AreBits-append (p ++ 0 ∷ []) z.0 (AreBits-append p (0 ∷ []) h (lit< tt, tt)) (order-bits m z zs oz))
    (after_both p z.0 zs os (order-after m z zs oz)) (order_fork n m p zs os h e (order-rest m z zs oz) oo)

order_as : (n : ℕ) (es fs : Entries) → fs ≡ es → AreInOrder n es → AreInOrder n fs
order_as n es fs e o = let P : Entries → Type 0 = AreInOrder n in subst P (sym e) o

-- ---- contents that can stand in cells

abbrev pub AllHeld : Entries → Type 0
AllHeld [] = Unit {0}
AllHeld ((k, leaf c) ∷ es) = IsHeld c × AllHeld es
AllHeld ((k, hidden h) ∷ es) = AllHeld es

held_under : (q : List ℕ) (es : Entries) → AllHeld es → AllHeld (under q es)
held_under q [] h = tt
held_under q ((k, leaf c) ∷ es) h = (h.0, held_under q es h.1)
held_under q ((k, hidden x) ∷ es) h = held_under q es h

held_append : (ds fs : Entries) → AllHeld ds → AllHeld fs → AllHeld (ds ++ fs)
held_append [] fs h k = k
held_append ((q, leaf c) ∷ ds) fs h k = (h.0, held_append ds fs h.1 k)
held_append ((q, hidden x) ∷ ds) fs h k = held_append ds fs h k

-- the label stands first, and then the content
pub label_then : (mode : Mode) → forms_of mode ≡ Required → (n : ℕ) (k : List ℕ) (s c : Slice)
    → IsLabel (forms_of mode) n k s.bits c.bits → s.refs ≡ c.refs → Then s (only_bits (labeled n k [])) c
label_then mode w n k s c l r =
    record { bits = label_is mode w n k s.bits c.bits l ∙ label_more n k [] c.bits; refs = r }

pub key_bits : (mode : Mode) (n : ℕ) (k s rest : List ℕ) → IsLabel (forms_of mode) n k s rest → AreBits s → AreBits k
key_bits mode n k s rest l a = ((label_bits (forms_of mode) n k s rest l).0 a).0

-- what is known of the entries of a tree
pub record AreSound (n : ℕ) (es : Entries) : Type 0 where
  pub order : AreInOrder n es
  pub held : AllHeld es

pub sound_as : (n : ℕ) (es fs : Entries) → fs ≡ es → AreSound n es → AreSound n fs
sound_as n es fs e o = let P : Entries → Type 0 = AreSound n in subst P (sym e) o

pub fork_sound : (n m : ℕ) (p : List ℕ) (zs os : Entries) → AreBits p → n ≡ length p + suc m → AreSound m zs
    → AreSound m os → AreSound n (fork p zs os)
fork_sound n m p zs os h e a b = record {
  order = order_fork n m p zs os h e a.order b.order;
  held = held_append (under (p ++ 0 ∷ []) zs) (under (p ++ 1 ∷ []) os) (held_under (p ++ 0 ∷ []) zs a.held) (held_under (p ++ 1 ∷ []) os b.held);
}

mutual
  pub tree_sound : (mode : Mode) → forms_of mode ≡ Required → (n : ℕ) (es : Entries) (s : Slice) → DictTree mode n es s
      → IsHeld s → AreSound n es
  tree_sound mode w n es s (one _ _ _ _ k c e l f g) held =
      sound_as n ((k, leaf c) ∷ []) es e (record {
        order = (l, key_bits mode n k s.bits c.bits f held.bits);
        held = (held_after s (only_bits (labeled n k [])) c (label_then mode w n k s c f g) held, tt);
      })
  tree_sound mode w n es s (two _ _ _ _ p m zs os z o e l f g x y) held =
      let fine = good_both s z o [] held g in
      sound_as n (fork p zs os) es e (fork_sound n m p zs os (key_bits mode n p s.bits [] f held.bits) l (branch_sound mode w m zs z x fine.0) (branch_sound mode w m os o y fine.1))

  pub branch_sound : (mode : Mode) → forms_of mode ≡ Required → (m : ℕ) (es : Entries) (t : Tree) → Branch mode m es t
      → IsGood t → AreSound m es
  branch_sound mode w m es t (open_edge _ _ _ _ c e d) fine =
      let G : Tree → Type 0 = IsGood in
      tree_sound mode w m es c d (good_held c (subst G e fine))
  branch_sound mode w m es t (hidden_edge _ _ _ _ h u e) fine =
      sound_as m (([], hidden h) ∷ []) es e (record { order = (omega arith, tt); held = tt })
