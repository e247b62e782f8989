-- What is put from one content to a later one, whatever follows it.
use Rattle.std.proofs.Common.{◌≡◌, ◌≤◌, ℕ, ◌+◌, Bool, true, false, not, ◌&&◌, ◌||◌, cond, List, [], ◌∷◌, ◌++◌, length, Result, Ok, Err, refl, sym, ap, ◌∙◌, subst, arith, nat_lt, nat_eq, append_assoc, length-append}
use Rattle.std.proofs.lemmas.List.{nil_from_length}
use Rattle.std.proofs.lemmas.Bool.{ltb-false, eqb-true}
use Rattle.bit_slice.specs.Bits.{AreBits}
use Rattle.bit_slice.specs.BitLists.{AreBits-append}
use Rattle.cell_nodes.specs.Good.{IsGood, AllGood, none, more}
use Rattle.cell_nodes.specs.GoodParts.{all_good-head, all_good-tail, good-tree_of}
use Rattle.cell_nodes.specs.HeldLaws.{AreBelow, shallow-held}
use Rattle.cell_nodes.specs.Tree.{deepest}
use Rattle.cell_nodes.specs.declared.tree.Kind.TheVariants.{Ordinary}
use Rattle.cell_nodes.specs.declared.tree.Tree.{Tree}
use Rattle.hashmap_tree.specs.Entries.{Slice, cell_of, Then}
use Rattle.spelling.specs.Places.{Spot, Place}
use Rattle.spelling.specs.Slices.{nothing, only_bits, is_nothing}
use Rattle.spelling.specs.declared.Cause.{Cause}
use Rattle.spelling_laws.specs.StepLaws.{bind_ok, reported_ok, both}
use Rattle.building.specs.Growing.{Grown, join, is_over, is_deep, some_deep, lay}
use Rattle.building.specs.PlainBuilder.{Made, put, put_alone, put_bits}
use Rattle.building_laws.specs.MoveLaws.{slice_eta, IsHeld, made, or_assoc, or_false}

-- F: what is spelled from here on to what follows; e: a rest ends it
pub record Goes (F : Slice → Slice → Type 0) (e : Bool) (b g : Grown) : Type 0 where
  pub laid : (w r : Slice) → Then w g.held r → (g.shut ≡ true → r ≡ nothing)
      → (s : Slice) × Then w b.held s × (b.shut ≡ true → s ≡ nothing) × F s r
  pub shut : g.shut ≡ (b.shut || e)

pub goes_as : (F H : Slice → Slice → Type 0) (e : Bool) (b g : Grown) → Goes F e b g
    → ((s r : Slice) → F s r → H s r) → Goes H e b g
goes_as F H e b g k f = record {
  laid = λ w r t done. let l = k.laid w r t done in (l.0, l.1, l.2, f l.0 r l.3);
  shut = k.shut;
}

pub goes_then : (F G H : Slice → Slice → Type 0) (e f : Bool) (b m g : Grown) → Goes F e b m → Goes G f m g
    → ((s middle r : Slice) → F s middle → G middle r → H s r) → Goes H (e || f) b g
goes_then F G H e f b m g k l two = record {
  laid = λ w r t done. let y = l.laid w r t done in let x = k.laid w y.0 y.1 y.2 in (x.0, x.1, x.2, two x.0 y.0 r x.3 y.3);
  shut = l.shut ∙ ap (λ z. z || f) k.shut ∙ or_assoc b.shut e f;
}

pub goes_none : (F : Slice → Slice → Type 0) (b : Grown) → ((s : Slice) → F s s) → Goes F false b b
goes_none F b h = record { laid = λ w r t done. (r, t, done, h r); shut = or_false b.shut }

-- ---- one item

pub then_join : (w b x r : Slice) → Then w (join b x) r → Then w b (join x r)
then_join w b x r t =
    record { bits = t.bits ∙ append_assoc b.bits x.bits r.bits; refs = t.refs ∙ append_assoc b.refs x.refs r.refs }

pub nothing_is : (x : Slice) → is_nothing x ≡ true → x ≡ nothing
nothing_is x e =
    let k = both (nat_eq (length x.bits) 0) (nat_eq (length x.refs) 0) e in
    slice_eta x nothing (nil_from_length x.bits (eqb-true (length x.bits) 0 k.0)) (nil_from_length x.refs (eqb-true (length x.refs) 0 k.1))

guard : {A : Type 0} (b : Bool) (w : Cause) (r : Result A Cause) (y : A) → cond b (Err w) r ≡ Ok y
    → (b ≡ false) × (r ≡ Ok y)
guard true w r y e = cc
guard false w r y e = (refl, e)

neither : (a b : Bool) → (a || b) ≡ false → (a ≡ false) × (b ≡ false)
neither true b e = cc
neither false b e = (refl, e)

-- an item that was put
pub record WasPut (x : Slice) (deep last : Bool) (b g : Grown) : Type 0 where
  pub is : g ≡ record { held = join b.held x; shut = b.shut || last }
  pub free : b.shut ≡ true → x ≡ nothing
  pub short : length b.held.bits + length x.bits ≤ 1023
  pub few : length b.held.refs + length x.refs ≤ 4
  pub flat : deep ≡ false

ok_one : (x y : Grown) → (◌≡◌ {A = Result Grown Cause} (Ok x) (Ok y)) → y ≡ x
ok_one x y e = cc

pub was_put : (h : Spot) (x : Slice) (deep last : Bool) (b g : Grown) → put h x deep last b ≡ Ok g
    → WasPut x deep last b g
was_put h x deep last b g e =
    let l = reported_ok h (lay x deep last b) g e in
    let one = guard (b.shut && not (is_nothing x)) _ _ g l in
    let two = guard (is_over b.held x) _ _ g one.1 in
    let three = guard deep _ _ g two.1 in
    let room = neither (nat_lt 1023 (length b.held.bits + length x.bits)) (nat_lt 4 (length b.held.refs + length x.refs)) two.0 in record {
      is = ok_one _ g three.1;
      free = λ s. nothing_is x (free b.shut s one.0);
      short = ltb-false 1023 (length b.held.bits + length x.bits) room.0;
      few = ltb-false 4 (length b.held.refs + length x.refs) room.1;
      flat = three.0;
    }
  where
    not_false : (t : Bool) → not t ≡ false → t ≡ true
    not_false true e = refl
    not_false false e = cc

    free : (a : Bool) → a ≡ true → (a && not (is_nothing x)) ≡ false → is_nothing x ≡ true
    free true s k = not_false (is_nothing x) k
    free false s k = cc

or_first : (a b : Bool) → a ≡ true → (a || b) ≡ true
or_first true b e = refl
or_first false b e = cc

or_last : (a b : Bool) → b ≡ true → (a || b) ≡ true
or_last true b e = refl
or_last false b e = e

pub goes_put : (x : Slice) (deep last : Bool) (b g : Grown) → WasPut x deep last b g
    → Goes (λ s r. Then s x r × (last ≡ true → r ≡ nothing)) last b g
goes_put x deep last b g p = record {
  laid = λ w r t done.
      let T : Grown → Type 0 = λ z. Then w z.held r in
      let shut : Grown → Bool = λ z. z.shut in
      let end : (b.shut || last) ≡ true → r ≡ nothing = λ k. done (ap shut p.is ∙ k) in
      (join x r, then_join w b.held x r (subst T p.is t), (λ s. λ i. join (p.free s i) (end (or_first b.shut last s) i)), (record { bits = refl; refs = refl }, λ k. end (or_last b.shut last k)));
  shut = ap (λ (z : Grown). z.shut) p.is;
}

-- ---- within the limits

pub good_join : (xs ys : List Tree) → AllGood xs → AllGood ys → AllGood (xs ++ ys)
good_join [] ys g h = h
good_join (x ∷ xs) ys g h =
    more x (xs ++ ys) (all_good-head x xs g) (good_join xs ys (all_good-tail x xs g) h)

pub below_join : (xs ys : List Tree) → AreBelow xs → AreBelow ys → AreBelow (xs ++ ys)
below_join [] ys g h = h
below_join (x ∷ xs) ys g h = (g.0, below_join xs ys g.1 h)

pub below_of : (ys : List Tree) → some_deep ys ≡ false → AreBelow ys
below_of [] e = tt
below_of (y ∷ ys) e =
    let k = neither (is_deep y) (some_deep ys) e in
    (let l = ltb-false 1023 (deepest y) k.0 in omega (arith, l), below_of ys k.1)

pub put_held : (x : Slice) (deep last : Bool) (b g : Grown) → WasPut x deep last b g → AreBits x.bits → AllGood x.refs
    → AreBelow x.refs → IsHeld b.held → IsHeld g.held
put_held x deep last b g p bits fine below h =
    let P : Grown → Type 0 = λ z. IsHeld z.held in
    let short = p.short in
    let few = p.few in
    let l = length-append b.held.bits x.bits in
    let k = length-append b.held.refs x.refs in
    let held : IsHeld (join b.held x) = record {
      within = record {
        short = omega (arith, short, l);
        few = omega (arith, few, k);
        good = good_join b.held.refs x.refs h.within.good fine;
        below = below_join b.held.refs x.refs h.within.below below;
      };
      bits = AreBits-append b.held.bits x.bits h.bits bits;
    } in
    subst P (sym p.is) held

pub empty_held : IsHeld nothing
empty_held =
    record { within = record { short = omega arith; few = omega arith; good = none; below = tt }; bits = tt }

pub held_good : (s : Slice) → IsHeld s → IsGood (cell_of s)
held_good s h =
    good-tree_of Ordinary s.bits s.refs h.bits h.within.short h.within.few refl (shallow-held s.bits s.refs h.within.below) h.within.good

-- ---- answers

pub made_same : (outs others : List ℕ) (g x : Grown) → (◌≡◌ {A = Result Made Place} (Ok (made outs g)) (Ok (made others x)))
    → (outs ≡ others) × (g ≡ x)
made_same outs others g x e =
    let k : made outs g ≡ made others x = one (made outs g) (made others x) e in (ap (λ (z : Made). z.0) k, ap (λ (z : Made). z.1) k)
  where
    one : (a b : Made) → (◌≡◌ {A = Result Made Place} (Ok a) (Ok b)) → a ≡ b
    one a b e = cc

-- an item without outputs
pub alone_put : (h : Spot) (x : Slice) (deep last : Bool) (b : Grown) (outs : List ℕ) (g : Grown)
    → put_alone h x deep last b ≡ Ok (made outs g) → (outs ≡ []) × WasPut x deep last b g
alone_put h x deep last b outs g e =
    let k = bind_ok (put h x deep last b) _ (made outs g) e in
    let same = made_same [] outs k.0 g k.2 in
    let P : Grown → Type 0 = λ z. WasPut x deep last b z in
    (sym same.0, subst P same.1 (was_put h x deep last b k.0 k.1))

pub bits_put : (h : Spot) (bits given : List ℕ) (b : Grown) (outs : List ℕ) (g : Grown)
    → put_bits h bits given b ≡ Ok (made outs g) → (outs ≡ given) × WasPut (only_bits bits) false false b g
bits_put h bits given b outs g e =
    let k = bind_ok (put h (only_bits bits) false false b) _ (made outs g) e in
    let same = made_same given outs k.0 g k.2 in
    let P : Grown → Type 0 = λ z. WasPut (only_bits bits) false false b z in
    (sym same.0, subst P same.1 (was_put h (only_bits bits) false false b k.0 k.1))

pub bits_held : (bits : List ℕ) (b g : Grown) → WasPut (only_bits bits) false false b g → AreBits bits
    → IsHeld b.held → IsHeld g.held
bits_held bits b g p a h = put_held (only_bits bits) false false b g p a none tt h
