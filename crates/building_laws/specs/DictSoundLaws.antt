-- A dictionary that is built spells the map.
use Rattle.std.proofs.Common.{◌≡◌, ◌<◌, ◌≤◌, ◌⊎◌, inl, inr, ℕ, zero, suc, ◌+◌, Bool, true, false, ◌||◌, nat_eq, nat_lt, List, [], ◌∷◌, ◌++◌, length, Option, Some, None, Result, Ok, Err, refl, sym, ap, ◌∙◌, subst, arith, lit<}
use Rattle.std.proofs.lemmas.Bool.{ltb-false, leb-true, eqb-true}
use Rattle.bit_slice.specs.Bits.{AreBits}
use Rattle.cell_nodes.specs.Constructed.{pruned_of}
use Rattle.cell_nodes.specs.Good.{IsGood, none, more}
use Rattle.cell_nodes.specs.Tree.{deepest}
use Rattle.cell_nodes.specs.declared.tree.Mode.{Mode}
use Rattle.cell_nodes.specs.declared.tree.Mode.TheVariants.{Whole, Partial, Lax}
use Rattle.cell_nodes.specs.declared.tree.Tree.{Tree}
use Rattle.hashmap_labels.specs.Labels.{IsLabel}
use Rattle.hashmap_labels.specs.LengthLaws.{AreBits-are_bits}
use Rattle.hashmap_labels.specs.SpellingLaws.{label_bits}
use Rattle.hashmap_labels.specs.Reading.{are_bits}
use Rattle.hashmap_labels.specs.declared.forms.Forms.TheVariants.{Required}
use Rattle.hashmap_tree.specs.Dict.{forms_of, unseen, Branch, open_edge, hidden_edge}
use Rattle.hashmap_tree.specs.Entries.{Slice, cell_of, Then, Part, leaf, hidden, Entries, fork, pairs_in, hidden_in}
use Rattle.hashmap_tree.specs.Exceeds.{Excess, first_key}
use Rattle.hashmap_tree.specs.First.{LeafEdge, Fork, forked}
use Rattle.hashmap_tree.specs.KeyLaws.{before-true}
use Rattle.hashmap_tree.specs.Merged.{merged}
use Rattle.hashmap_tree.specs.MergedLaws.{merged-parts}
use Rattle.hashmap_tree.specs.OnceLaws.{some_below, two_entries}
use Rattle.hashmap_tree.specs.OnceLaws as once
use Rattle.hashmap_tree.specs.Order.{MayStand, AreInOrder}
use Rattle.hashmap_tree.specs.OrderedLaws.{StartAfter, order-cons}
use Rattle.hashmap_tree.specs.Placed.{HasBelow, IsForkChild, ArePlaced, AllPlaced}
use Rattle.hashmap_tree.specs.PrunedLaws.{hides-stored}
use Rattle.typed_value.specs.Values.{Plain, PlainPairs, map_of, no_pairs, a_pair, parts}
use Rattle.core_form.specs.Core.{CoreSchema}
use Rattle.core_form.specs.Closed.{Closed}
use Rattle.core_form.specs.Closed as closed
use Rattle.spelling.specs.Goals.{at_type, Shape, typed}
use Rattle.spelling.specs.Places.{Spot, Place}
use Rattle.spelling.specs.PlainReader.{◌>>=◌}
use Rattle.spelling.specs.Slices.{nothing, only_bits}
use Rattle.spelling.specs.Spells.{Spells, EachPair, Contents, EntriesHold, SpellsDictE, no_entries, some_entries, IsEmpty}
use Rattle.spelling_laws.specs.StepLaws.{bind_ok, only_ok, guard_ok, both}
use Rattle.building.specs.Buildable.{IsHash, AreHashes}
use Rattle.building.specs.Growing.{Grown, empty, is_deep, join}
use Rattle.building.specs.Laid.{ends_shape}
use Rattle.building.specs.MapTests.{keys_of, outline, may_stand, goes_before, in_order, after_bit, sibling, begins, has_below, has_some_below, are_placed, is_hidden_alone, is_none, admits, has_some, fits_edge, fits_root}
use Rattle.building.specs.Planting.{Top, leaf_top, fork_top, content_of, edge_of, labeled, tops, planting}
use Rattle.building.specs.PlainBuilder.{Maker, Leaves, make_leaves, contents_of, entries_of, is_last, planted, put_edge, make_dict, put_root, plant_root, make_dict_e, map_at}
use Rattle.building_laws.specs.DictLaws.{PairsHeld, Unknowns, not_last}
use Rattle.building_laws.specs.GoesLaws.{Goes, goes_as, WasPut, goes_put, put_held, empty_held, held_good, alone_put, bits_put, bits_held}
use Rattle.building_laws.specs.MapLaws.{blank, blank_part, blank_pairs, blank_merged}
use Rattle.building_laws.specs.MoveLaws.{slice_eta, then_whole, IsHeld, made}
use Rattle.building_laws.specs.PlantLaws.{label_more}
use Rattle.building_laws.specs.PlantSoundLaws.{AllStand, TopSound, of_leaf, of_fork, label_made, WasEdge, was_edge, top_tree, tops_sound, low_of, neither, bind_is, leaf_held, fork_held}
use Rattle.building_laws.specs.RangeLaws.{pruned_good, can_hide, hidden-below}
use Rattle.building_laws.specs.SoundLaws.{Keeps, Sounds, BySound, ShapeSound, IsSpelled}

-- ---- the tests say what they mean

stand_is : (n : ℕ) (k : List ℕ) (x : Part) → may_stand n k (blank_part x) ≡ true → MayStand n k x
stand_is n k (leaf c) e = eqb-true (length k) n e
stand_is n k (hidden h) e = leb-true (length k) n e

after_is : (k : List ℕ) (es : Entries) → goes_before k (blank es) ≡ true → StartAfter k es
after_is k [] e = tt
after_is k (f ∷ es) e = before-true k f.0 e

pub order_is : (n : ℕ) (es : Entries) → in_order n (blank es) ≡ true → AreInOrder n es
order_is n [] e = tt
order_is n (f ∷ es) e =
    let a = both (may_stand n f.0 (blank_part f.1)) _ e in
    let b = both (are_bits f.0) _ a.1 in
    let c = both (goes_before f.0 (blank es)) (in_order n (blank es)) b.1 in
    order-cons n f es (stand_is n f.0 f.1 a.0) (AreBits-are_bits f.0 b.0) (after_is f.0 es c.0) (order_is n es c.1)

begins_is : (p k : List ℕ) → begins p k ≡ true → (j : List ℕ) × (k ≡ p ++ j)
begins_is [] k e = (k, refl)
begins_is (x ∷ p) [] e = cc
begins_is (x ∷ p) (y ∷ k) e =
    let a = both (nat_eq x y) (begins p k) e in
    let j = begins_is p k a.1 in
    (j.0, (λ i. sym (eqb-true x y a.0) i ∷ j.1 i))

either : (a b : Bool) → (a || b) ≡ true → (a ≡ true) ⊎ (b ≡ true)
either true b e = inl refl
either false b e = inr e

below_is : (p : List ℕ) (es : Entries) → has_below p (blank es) ≡ true → HasBelow p es
below_is p [] e = cc
below_is p (f ∷ es) e = go (either (begins p f.0) (has_below p (blank es)) e) (below_is p es)
  where
    go : (begins p f.0 ≡ true) ⊎ (has_below p (blank es) ≡ true) → (has_below p (blank es) ≡ true → HasBelow p es)
        → HasBelow p (f ∷ es)
    go (inl b) ih = let j = begins_is p f.0 b in (j.0, f.1, inl (j.1, refl))
    go (inr b) ih = let k = ih b in (k.0, k.1, inr k.2)

-- the sibling of a prefix is that which parts from it at its last bit
sibling_is : (q s : List ℕ) → AreBits q → sibling q ≡ Some s
    → (p : List ℕ) × (((q ≡ p ++ 0 ∷ []) × (s ≡ p ++ 1 ∷ [])) ⊎ ((q ≡ p ++ 1 ∷ []) × (s ≡ p ++ 0 ∷ [])))
sibling_is [] s a e = cc
sibling_is (zero ∷ []) s a e = let f : s ≡ 1 ∷ [] = cc in ([], inl (refl, f))
sibling_is (suc zero ∷ []) s a e = let f : s ≡ 0 ∷ [] = cc in ([], inr (refl, f))
sibling_is (suc (suc b) ∷ []) s a e = absurd (let h = a.0 in omega (arith, h))
sibling_is (b ∷ c ∷ k) s a e = go (sibling (c ∷ k)) refl e (λ t f. sibling_is (c ∷ k) t a.1 f)
  where
    some_same : (x y : List ℕ) → (◌≡◌ {A = Option (List ℕ)} (Some x) (Some y)) → y ≡ x
    some_same x y e = cc

    go : (o : Option (List ℕ)) → sibling (c ∷ k) ≡ o → after_bit b o ≡ Some s
        → ((t : List ℕ) → sibling (c ∷ k) ≡ Some t → (p : List ℕ) × (((c ∷ k ≡ p ++ 0 ∷ []) × (t ≡ p ++ 1 ∷ [])) ⊎ ((c ∷ k ≡ p ++ 1 ∷ []) × (t ≡ p ++ 0 ∷ []))))
        → (p : List ℕ) × (((b ∷ c ∷ k ≡ p ++ 0 ∷ []) × (s ≡ p ++ 1 ∷ [])) ⊎ ((b ∷ c ∷ k ≡ p ++ 1 ∷ []) × (s ≡ p ++ 0 ∷ [])))
    go None f e ih = cc
    go (Some t) f e ih = let r = ih t f in (b ∷ r.0, more r.0 r.1)
      where
        more : (p : List ℕ) → (((c ∷ k ≡ p ++ 0 ∷ []) × (t ≡ p ++ 1 ∷ [])) ⊎ ((c ∷ k ≡ p ++ 1 ∷ []) × (t ≡ p ++ 0 ∷ [])))
            → (((b ∷ c ∷ k ≡ b ∷ p ++ 0 ∷ []) × (s ≡ b ∷ p ++ 1 ∷ [])) ⊎ ((b ∷ c ∷ k ≡ b ∷ p ++ 1 ∷ []) × (s ≡ b ∷ p ++ 0 ∷ [])))
        more p (inl h) = inl (ap (λ (l : List ℕ). b ∷ l) h.0, some_same (b ∷ t) s e ∙ ap (λ (l : List ℕ). b ∷ l) h.1)
        more p (inr h) = inr (ap (λ (l : List ℕ). b ∷ l) h.0, some_same (b ∷ t) s e ∙ ap (λ (l : List ℕ). b ∷ l) h.1)

child_is : (q : List ℕ) (es : Entries) → AreBits q → has_some_below (sibling q) (blank es) ≡ true → IsForkChild q es
child_is q es a e = go (sibling q) refl e
  where
    go : (o : Option (List ℕ)) → sibling q ≡ o → has_some_below o (blank es) ≡ true → IsForkChild q es
    go None f e = cc
    go (Some s) f e = let k = sibling_is q s a f in (k.0, by k.0 k.1 (below_is s es e))
      where
        by : (p : List ℕ) → (((q ≡ p ++ 0 ∷ []) × (s ≡ p ++ 1 ∷ [])) ⊎ ((q ≡ p ++ 1 ∷ []) × (s ≡ p ++ 0 ∷ []))) → HasBelow s es
            → ((q ≡ p ++ 0 ∷ []) × HasBelow (p ++ 1 ∷ []) es) ⊎ ((q ≡ p ++ 1 ∷ []) × HasBelow (p ++ 0 ∷ []) es)
        by p (inl h) w = let P : List ℕ → Type 0 = λ z. HasBelow z es in inl (h.0, subst P h.1 w)
        by p (inr h) w = let P : List ℕ → Type 0 = λ z. HasBelow z es in inr (h.0, subst P h.1 w)

-- keys that are bits
abbrev pub AllKeys : Entries → Type 0
AllKeys [] = Unit {0}
AllKeys (e ∷ es) = AreBits e.0 × AllKeys es

pub keys_are : (n : ℕ) (es : Entries) → in_order n (blank es) ≡ true → AllKeys es
keys_are n [] e = tt
keys_are n (f ∷ es) e =
    let a = both (may_stand n f.0 (blank_part f.1)) _ e in
    let b = both (are_bits f.0) _ a.1 in
    let c = both (goes_before f.0 (blank es)) (in_order n (blank es)) b.1 in
    (AreBits-are_bits f.0 b.0, keys_are n es c.1)

pub placed_is : (fs es : Entries) → AllKeys fs → are_placed (blank fs) (blank es) ≡ true → ArePlaced fs es
placed_is [] es k e q h a = absurd a
placed_is ((p, leaf c) ∷ fs) es k e q h (inl a) = absurd (never a.1)
  where
    never : leaf c ≡ hidden h → ⊥
    never f = cc
placed_is ((p, leaf c) ∷ fs) es k e q h (inr a) = placed_is fs es k.1 e q h a
placed_is ((p, hidden x) ∷ fs) es k e q h (inl a) =
    let t = both (has_some_below (sibling p) (blank es)) (are_placed (blank fs) (blank es)) e in
    let P : List ℕ → Type 0 = λ z. IsForkChild z es in
    subst P a.0 (child_is p es k.0 t.0)
placed_is ((p, hidden x) ∷ fs) es k e q h (inr a) =
    placed_is fs es k.1 (both (has_some_below (sibling p) (blank es)) (are_placed (blank fs) (blank es)) e).1 q h a

pub some_is : (es : Entries) → has_some (blank es) ≡ true → 0 < length es
some_is [] e = cc
some_is (f ∷ es) e = omega arith

pub none_is : (us : Unknowns) → is_none us ≡ true → us ≡ []
none_is [] e = refl
none_is (u ∷ us) e = cc

-- hidden parts that the mode admits
abbrev Admitted : Mode → Unknowns → Type 0
Admitted mode us = (us ≡ []) ⊎ (mode ≡ Partial)

admitted : (mode : Mode) (es : Entries) → admits mode (blank es) ≡ true → Admitted mode (hidden_in (blank es))
admitted Whole es e = inl (none_is (hidden_in (blank es)) e)
admitted Partial es e = inr refl
admitted Lax es e = inl (none_is (hidden_in (blank es)) e)

pub hidden_blank : (es : Entries) → hidden_in (blank es) ≡ hidden_in es
hidden_blank [] = refl
hidden_blank ((k, leaf c) ∷ es) = hidden_blank es
hidden_blank ((k, hidden x) ∷ es) = ap (λ (l : Unknowns). (k, x) ∷ l) (hidden_blank es)

stand_of : (mode : Mode) (es : Entries) → PairsHeld (pairs_in es) → AreHashes (hidden_in es) → Admitted mode (hidden_in es)
    → AllStand mode es
stand_of mode [] h a m = tt
stand_of mode ((k, leaf c) ∷ es) h a m = (h.0, stand_of mode es h.1 a m)
stand_of mode ((k, hidden x) ∷ es) h a (inl m) = cc
stand_of mode ((k, hidden x) ∷ es) h a (inr m) = ((m, a.0), stand_of mode es h a.1 (inr m))

-- ---- the contents of leaves

pub record LeavesSound (mode : Mode) (schema : CoreSchema) (ps : PlainPairs) (t : Closed) (xs : Leaves) : Type 0 where
  pub contents : Contents (EachPair mode schema ps) t (contents_of xs)
  pub keys : blank_pairs (contents_of xs) ≡ keys_of ps
  pub held : PairsHeld (contents_of xs)

leaves_one : (a b : Leaves) → (◌≡◌ {A = Result Leaves Place} (Ok a) (Ok b)) → a ≡ b
leaves_one a b e = cc

then_none : (w s : Slice) → Then w nothing s → s ≡ w
then_none w s t = slice_eta s w (sym t.bits) (sym t.refs)

leaves_sound : (mode : Mode) (schema : CoreSchema) (R : Maker) (ps : PlainPairs) → BySound mode schema R ps → (h : Spot)
    (t : Closed) (q : ℕ) (xs : Leaves) → make_leaves R h t q ps ≡ Ok xs → LeavesSound mode schema ps t xs
leaves_sound mode schema R no_pairs sound h t q xs e =
    let P : Leaves → Type 0 = λ z. LeavesSound mode schema no_pairs t z in
    subst P (leaves_one [] xs e) (record { contents = refl; keys = refl; held = tt })
leaves_sound mode schema R (a_pair k v ps) sound h t q xs e =
    let m = bind_ok (R h (at_type t) q v empty) _ xs e in
    let n = bind_ok (make_leaves R h t (q + parts v) ps) _ xs m.2 in
    let more = leaves_sound mode schema R ps sound.1 h t (q + parts v) n.0 n.1 in
    let one = sound.0 h (at_type t) q empty m.0.0 m.0.1 tt m.1 in
    let l = one.1.laid m.0.1.held nothing (then_whole m.0.1.held) (λ z. refl) in
    let S : Slice → Type 0 = λ s. Spells mode schema v (at_type t) s m.0.0 nothing in
    let P : Leaves → Type 0 = λ z. LeavesSound mode schema (a_pair k v ps) t z in
    subst P (leaves_one ((k, m.0.1) ∷ n.0) xs n.2) (record {
      contents = (m.0.0, refl, subst S (then_none m.0.1.held l.0 l.1) l.3.0, more.contents);
      keys = ap (λ (z : List (List ℕ × Slice)). (k, nothing) ∷ z) more.keys;
      held = (one.2 empty_held, more.held);
    })

-- ---- the entries that are planted

-- what the test of a dictionary says of its entries, whatever their contents
pub record EntriesSound (mode : Mode) (n : ℕ) (us : Unknowns) (ls : List (List ℕ × Slice)) (es : Entries) : Type 0 where
  pub pairs : pairs_in es ≡ ls
  pub hidden : hidden_in es ≡ us
  pub order : AreInOrder n es
  pub stand : AllStand mode es

blank_outline : (mode : Mode) (schema : CoreSchema) (ps : PlainPairs) (t : Closed) (xs : Leaves) (us : Unknowns)
    → LeavesSound mode schema ps t xs → outline ps us ≡ blank (entries_of xs us)
blank_outline mode schema ps t xs us l =
    ap (λ z. merged z us) (sym l.keys) ∙ sym (blank_merged (contents_of xs) us)

entries_sound : (mode : Mode) (schema : CoreSchema) (n : ℕ) (ps : PlainPairs) (t : Closed) (xs : Leaves) (us : Unknowns)
    → AreHashes us → LeavesSound mode schema ps t xs → in_order n (blank (entries_of xs us)) ≡ true
    → admits mode (blank (entries_of xs us)) ≡ true → EntriesSound mode n us (contents_of xs) (entries_of xs us)
entries_sound mode schema n ps t xs us hashes l o a =
    let es = entries_of xs us in
    let parts = merged-parts (contents_of xs) us in
    let H : Unknowns → Type 0 = AreHashes in
    let P : List (List ℕ × Slice) → Type 0 = PairsHeld in
    let A : Unknowns → Type 0 = λ z. Admitted mode z in
    record {
      pairs = parts.0;
      hidden = parts.1;
      order = order_is n es o;
      stand = stand_of mode es (subst P (sym parts.0) l.held) (subst H (sym parts.1) hashes) (subst A (hidden_blank es) (admitted mode es a));
    }

holds_of : (mode : Mode) (schema : CoreSchema) (n : ℕ) (ps : PlainPairs) (t : Closed) (xs : Leaves) (us : Unknowns)
    → LeavesSound mode schema ps t xs → EntriesSound mode n us (contents_of xs) (entries_of xs us)
    → EntriesHold (EachPair mode schema ps) us t (entries_of xs us)
holds_of mode schema n ps t xs us l s =
    let C : List (List ℕ × Slice) → Type 0 = λ z. Contents (EachPair mode schema ps) t z in
    (subst C (sym s.pairs) l.contents, s.hidden)

-- ---- the first edge in place

pub planted_ok : {A : Type 0} (h : Spot) (r : Result A Excess) (x : A) → planted h r ≡ Ok x → r ≡ Ok x
planted_ok h (Ok y) x e = ap Ok (one y x e)
  where
    one : {A : Type 0} (a b : A) → (◌≡◌ {A = Result A Place} (Ok a) (Ok b)) → a ≡ b
    one a b e = cc
planted_ok h (Err f) x e = cc

-- an edge that was put in place
pub record WasPutEdge (n : ℕ) (top : Top) (last : Bool) (b : Grown) (outs : List ℕ) (x : Grown) : Type 0 where
  pub none : outs ≡ []
  pub content : Slice
  pub is : WasEdge n top content
  pub put : WasPut content false last b x

edge_put : (h : Spot) (n : ℕ) (key : List ℕ) (top : Top) (last : Bool) (b : Grown) (outs : List ℕ) (x : Grown)
    → put_edge h n key top last b ≡ Ok (made outs x) → WasPutEdge n top last b outs x
edge_put h n key top last b outs x e =
    let g = guard_ok b.shut _ _ (made outs x) e in
    let m = bind_ok (planted h (edge_of n key top)) _ (made outs x) g.1 in
    let p = alone_put h m.0 false last b outs x m.2 in
    record { none = p.0; content = m.0; is = was_edge n key top m.0 (planted_ok h (edge_of n key top) m.0 m.1); put = p.1 }

-- what is spelled where an edge was put: the content of the edge, and what follows it
edge_goes : (n : ℕ) (top : Top) (last : Bool) (b : Grown) (outs : List ℕ) (x : Grown)
    → (p : WasPutEdge n top last b outs x) → Goes (λ s r. Then s (content_of n top) r × (last ≡ true → r ≡ nothing)) last b x
edge_goes n top last b outs x p =
    let F : Slice → Slice → Slice → Type 0 = λ c s r. Then s c r × (last ≡ true → r ≡ nothing) in
    goes_as (F p.content) (F (content_of n top)) last b x (goes_put p.content false last b x p.put) (λ s r t. (let T : Slice → Type 0 = λ c. Then s c r in subst T (sym p.is.is) t.0, t.1))

edge_keeps : (n : ℕ) (top : Top) (last : Bool) (b : Grown) (outs : List ℕ) (x : Grown)
    → WasPutEdge n top last b outs x → IsHeld (content_of n top) → Keeps b x
edge_keeps n top last b outs x p h k =
    let H : Slice → Type 0 = IsHeld in
    let c : IsHeld p.content = subst H p.is.is h in
    put_held p.content false last b x p.put c.bits c.within.good c.within.below k

put_as : (n : ℕ) (top other : Top) (last : Bool) (b : Grown) (outs : List ℕ) (x : Grown) → top ≡ other
    → WasPutEdge n top last b outs x → WasPutEdge n other last b outs x
put_as n top other last b outs x e p = let P : Top → Type 0 = λ t. WasPutEdge n t last b outs x in subst P e p

-- a fork in place
ForkSound : Mode → CoreSchema → ℕ → PlainPairs → Unknowns → Closed → Grown → List ℕ → Grown → Type 0
ForkSound mode schema n ps us t b outs x =
    (outs ≡ []) × Goes (λ s r. (es : Entries) × Fork mode n es s r × EntriesHold (EachPair mode schema ps) us t es) false b x
    × Keeps b x

fork_sound : (mode : Mode) → forms_of mode ≡ Required → (schema : CoreSchema) (n : ℕ) (ps : PlainPairs) (us : Unknowns)
    (t : Closed) (xs : Leaves) (b : Grown) (outs : List ℕ) (x : Grown) (top : Top)
    → EntriesHold (EachPair mode schema ps) us t (entries_of xs us)
    → (p : List ℕ) (m : ℕ) (zs os : Entries) (z o : Tree) → entries_of xs us ≡ fork p zs os → n ≡ length p + suc m
    → AreBits p → Branch mode m zs z → Branch mode m os o → IsGood z → IsGood o → top ≡ fork_top p z o
    → WasPutEdge n top (is_last xs us) b outs x → ForkSound mode schema n ps us t b outs x
unfolding ForkSound
fork_sound mode req schema n ps us t xs b outs x top hold p m zs os z o same long bits bz bo gz go is put =
    let last : is_last xs us ≡ false = not_last xs us (λ e i. two_entries p zs os e (some_below mode m zs z bz) (some_below mode m os o bo) (sym same ∙ i)) in
    let L : Bool → Type 0 = λ l. WasPutEdge n (fork_top p z o) l b outs x in
    let q : WasPutEdge n (fork_top p z o) false b outs x = subst L last (put_as n top (fork_top p z o) (is_last xs us) b outs x is put) in
    let flat = neither (is_deep z) (is_deep o) q.is.flat in
    let label = label_made mode req n p [] bits (omega (arith, long)) in
    let all = (label_bits (forms_of mode) n p (labeled n p []) [] label).1 (bits, tt) in (
      q.none,
      goes_as _ _ false b x (edge_goes n (fork_top p z o) false b outs x q) (λ s r u. (entries_of xs us, forked p m zs os z o same long (labels s r u.0) u.0.refs bz bo, hold)),
      edge_keeps n (fork_top p z o) false b outs x q (fork_held n p z o all q.is.short gz go (low_of z flat.0) (low_of o flat.1)),
    )
  where
    labels : (s r : Slice) → Then s (content_of n (fork_top p z o)) r → IsLabel (forms_of mode) n p s.bits r.bits
    labels s r u =
        let P : List ℕ → Type 0 = λ l. IsLabel (forms_of mode) n p l r.bits in
        subst P (label_more n p [] r.bits ∙ sym u.bits) (label_made mode req n p r.bits bits (omega (arith, long)))

-- one pair in place
single_sound : (mode : Mode) → forms_of mode ≡ Required → (schema : CoreSchema) (n : ℕ) (k : List ℕ) (v : Plain) (t : Closed)
    (e : Bool) (y : Grown) (given : List ℕ) → Goes (IsSpelled mode schema v (at_type t) given e) e empty y → IsHeld y.held
    → (b : Grown) (outs : List ℕ) (x : Grown) → length k ≡ n → AreBits k
    → WasPutEdge n (leaf_top k y.held) y.shut b outs x
    → ShapeSound mode schema (map_of tt (a_pair k v no_pairs) []) (typed (closed.dict n t)) b outs x
single_sound mode req schema n k v t e y given goes held b outs x long bits put =
    let label = label_made mode req n k y.held.bits bits (omega (arith, long)) in
    let all = (label_bits (forms_of mode) n k (labeled n k y.held.bits) y.held.bits label).1 (bits, held.bits) in
    let g = edge_goes n (leaf_top k y.held) y.shut b outs x put in (
      e,
      record {
        laid = λ w r u done.
            let a = g.laid w r u done in
            let middle = join y.held r in
            let c = goes.laid middle r (record { bits = refl; refs = refl }) a.3.1 in
            let S : Slice → Type 0 = λ s. IsSpelled mode schema v (at_type t) given e s r in
            let d = subst S (then_none middle c.0 c.1) c.3 in
            (a.0, a.1, a.2, ((put.none, inl (middle, given, edge_at a.0 r a.3.0, d.0), tt), d.1));
        shut = g.shut ∙ ap (λ z. b.shut || z) goes.shut;
      },
      edge_keeps n (leaf_top k y.held) y.shut b outs x put (leaf_held n k y.held all put.is.short held),
    )
  where
    edge_at : (s r : Slice) → Then s (content_of n (leaf_top k y.held)) r → LeafEdge mode n k s (join y.held r)
    edge_at s r u = record {
      long = long;
      label = let P : List ℕ → Type 0 = λ l. IsLabel (forms_of mode) n k l (y.held.bits ++ r.bits) in
          subst P (label_more n k y.held.bits r.bits ∙ sym u.bits) (label_made mode req n k (y.held.bits ++ r.bits) bits (omega (arith, long)));
      refs = u.refs;
    }

-- ---- Hashmap

-- what building a dictionary in place says
record DictMade (mode : Mode) (schema : CoreSchema) (R : Maker) (n : ℕ) (t : Closed) (ps : PlainPairs) (us : Unknowns) (h : Spot)
    (q : ℕ) (b : Grown) (outs : List ℕ) (x : Grown) : Type 0 where
  pub xs : Leaves
  pub leaves : make_leaves R h t q ps ≡ Ok xs
  pub top : Top
  pub tops_are : TopSound mode n [] (entries_of xs us) top
  pub put : WasPutEdge n top (is_last xs us) b outs x
  pub entries : EntriesSound mode n us (contents_of xs) (entries_of xs us)
  pub sound : LeavesSound mode schema ps t xs

dict_made : (mode : Mode) → forms_of mode ≡ Required → (schema : CoreSchema) (R : Maker) (ps : PlainPairs) (us : Unknowns)
    → AreHashes us → BySound mode schema R ps → (h : Spot) (n : ℕ) (t : Closed) (q : ℕ) (b : Grown) (outs : List ℕ) (x : Grown)
    → make_dict mode R h n t q ps us b ≡ Ok (made outs x) → DictMade mode schema R n t ps us h q b outs x
dict_made mode req schema R ps us hashes sound h n t q b outs x e =
    let g = only_ok (fits_edge mode n (outline ps us)) _ _ (made outs x) e in
    let m = bind_ok (make_leaves R h t q ps) _ (made outs x) g.1 in
    let xs = m.0 in
    let es = entries_of xs us in
    let l = leaves_sound mode schema R ps sound h t q xs m.1 in
    let fits : fits_edge mode n (blank es) ≡ true = ap (fits_edge mode n) (sym (blank_outline mode schema ps t xs us l)) ∙ g.0 in
    let a = both (has_some (blank es)) _ fits in
    let c = both (in_order n (blank es)) _ a.1 in
    let d = both (are_placed (blank es) (blank es)) (admits mode (blank es)) c.1 in
    let s = entries_sound mode schema n ps t xs us hashes l c.0 d.1 in
    let k = bind_ok (planted h (tops n [] es)) _ (made outs x) m.2 in
    record {
      xs = xs;
      leaves = m.1;
      top = k.0;
      tops_are = tops_sound mode req n [] es k.0 s.order (some_is es a.0) (placed_is es es (keys_are n es c.0) d.0) s.stand (planted_ok h (tops n [] es) k.0 k.1);
      put = edge_put h n (first_key es) k.0 (is_last xs us) b outs x k.2;
      entries = s;
      sound = l;
    }

fork_made : (mode : Mode) → forms_of mode ≡ Required → (schema : CoreSchema) (R : Maker) (ps : PlainPairs) (us : Unknowns)
    (h : Spot) (n : ℕ) (t : Closed) (q : ℕ) (b : Grown) (outs : List ℕ) (x : Grown)
    → ((k : List ℕ) → keys_of ps ≡ (k, nothing) ∷ [] → us ≡ [] → ⊥)
    → DictMade mode schema R n t ps us h q b outs x → ForkSound mode schema n ps us t b outs x
fork_made mode req schema R ps us h n t q b outs x never d = go d.tops_are
  where
    go : TopSound mode n [] (entries_of d.xs us) d.top → ForkSound mode schema n ps us t b outs x
    go (of_leaf k c same long bits is) =
        absurd (never k (sym d.sound.keys ∙ ap blank_pairs (sym d.entries.pairs ∙ ap pairs_in same)) (sym d.entries.hidden ∙ ap hidden_in same))
    go (of_fork p m zs os z o same long bits bz bo gz go_ is) =
        fork_sound mode req schema n ps us t d.xs b outs x d.top (holds_of mode schema n ps t d.xs us d.sound d.entries) p m zs os z o same long bits bz bo gz go_ is d.put

one_made : (mode : Mode) → forms_of mode ≡ Required → (schema : CoreSchema) (R : Maker) (k : List ℕ) (v : Plain)
    → Sounds mode schema R v → (h : Spot) (n : ℕ) (t : Closed) (q : ℕ) (b : Grown) (outs : List ℕ) (x : Grown)
    → DictMade mode schema R n t (a_pair k v no_pairs) [] h q b outs x
    → ShapeSound mode schema (map_of tt (a_pair k v no_pairs) []) (typed (closed.dict n t)) b outs x
one_made mode req schema R k v sound h n t q b outs x d =
    let m = bind_ok (R h (at_type t) q v empty) _ d.xs d.leaves in
    let y = m.0.1 in
    let same : (k, y) ∷ [] ≡ d.xs = leaves_one ((k, y) ∷ []) d.xs m.2 in
    let one = sound h (at_type t) q empty m.0.0 y tt m.1 in
    let T : Leaves → Type 0 = λ z. TopSound mode n [] (entries_of z []) d.top × WasPutEdge n d.top (is_last z []) b outs x in
    let p = subst T (sym same) (d.tops_are, d.put) in
    go y m.0.0 one (one.2 empty_held) p.0 p.1
  where
    go : (y : Grown) (given : List ℕ) → (e : Bool) × Goes (IsSpelled mode schema v (at_type t) given e) e empty y × Keeps empty y → IsHeld y.held
        → TopSound mode n [] ((k, leaf y.held) ∷ []) d.top → WasPutEdge n d.top y.shut b outs x
        → ShapeSound mode schema (map_of tt (a_pair k v no_pairs) []) (typed (closed.dict n t)) b outs x
    go y given one held (of_leaf j c same long bits is) put =
        let q = once.parts k j y.held c same in
        let L : List ℕ → Type 0 = λ i. (length i ≡ n) × AreBits i in
        let key = subst L (sym q.0) (long, bits) in
        let top : d.top ≡ leaf_top k y.held = is ∙ (λ i. leaf_top (sym q.0 i) (sym q.1 i)) in
        single_sound mode req schema n k v t one.0 y given one.1 held b outs x key.0 key.1 (put_as n d.top (leaf_top k y.held) y.shut b outs x top put)
    go y given one held (of_fork p m zs os z o same long bits bz bo gz go_ is) put =
        absurd (two_entries p zs os (k, leaf y.held) (some_below mode m zs z bz) (some_below mode m os o bo) (sym same))

as_fork : (mode : Mode) (schema : CoreSchema) (n : ℕ) (ps : PlainPairs) (us : Unknowns) (t : Closed) (b : Grown)
    (outs : List ℕ) (x : Grown)
    → ((s r : Slice) (o : outs ≡ []) (d : (es : Entries) × Fork mode n es s r × EntriesHold (EachPair mode schema ps) us t es)
    → ends_shape mode schema (map_of tt ps us) (typed (closed.dict n t)) s outs r (o, inr d, tt) ≡ false)
    → ForkSound mode schema n ps us t b outs x
    → ShapeSound mode schema (map_of tt ps us) (typed (closed.dict n t)) b outs x
unfolding ForkSound
as_fork mode schema n ps us t b outs x ends k =
    (false, goes_as _ _ false b x k.1 (λ s r d. ((k.0, inr d, tt), ends s r k.0 d)), k.2)

pub dict_sound : (mode : Mode) → forms_of mode ≡ Required → (schema : CoreSchema) (R : Maker) (ps : PlainPairs) (us : Unknowns)
    → AreHashes us → BySound mode schema R ps → (h : Spot) (n : ℕ) (t : Closed) (q : ℕ) (b : Grown) (outs : List ℕ) (x : Grown)
    → make_dict mode R h n t q ps us b ≡ Ok (made outs x)
    → ShapeSound mode schema (map_of tt ps us) (typed (closed.dict n t)) b outs x
dict_sound mode req schema R no_pairs us hashes sound h n t q b outs x e =
    as_fork mode schema n no_pairs us t b outs x (λ s r o d. refl) (fork_made mode req schema R no_pairs us h n t q b outs x (λ k f g. (cc)) (dict_made mode req schema R no_pairs us hashes sound h n t q b outs x e))
dict_sound mode req schema R (a_pair k v no_pairs) [] hashes sound h n t q b outs x e =
    one_made mode req schema R k v sound.0 h n t q b outs x (dict_made mode req schema R (a_pair k v no_pairs) [] hashes sound h n t q b outs x e)
dict_sound mode req schema R (a_pair k v no_pairs) (u ∷ us) hashes sound h n t q b outs x e =
    as_fork mode schema n (a_pair k v no_pairs) (u ∷ us) t b outs x (λ s r o d. refl) (fork_made mode req schema R (a_pair k v no_pairs) (u ∷ us) h n t q b outs x (λ j f g. (cc)) (dict_made mode req schema R (a_pair k v no_pairs) (u ∷ us) hashes sound h n t q b outs x e))
dict_sound mode req schema R (a_pair k v (a_pair k2 v2 ps)) us hashes sound h n t q b outs x e =
    as_fork mode schema n (a_pair k v (a_pair k2 v2 ps)) us t b outs x (λ s r o d. refl) (fork_made mode req schema R (a_pair k v (a_pair k2 v2 ps)) us h n t q b outs x (λ j f g. (cc)) (dict_made mode req schema R (a_pair k v (a_pair k2 v2 ps)) us hashes sound h n t q b outs x e))

-- ---- HashmapE

abbrev with_one : Tree → Slice
with_one c = record { bits = 1 ∷ []; refs = c ∷ [] }

RootSound : Mode → CoreSchema → ℕ → PlainPairs → Unknowns → Closed → Grown → List ℕ → Grown → Type 0
RootSound mode schema n ps us t b outs x =
    (outs ≡ []) × Goes (λ s r. SpellsDictE mode (EachPair mode schema ps) us n t s r) false b x × Keeps b x

no_keys : (mode : Mode) (schema : CoreSchema) (ps : PlainPairs) → keys_of ps ≡ [] → IsEmpty (EachPair mode schema ps)
no_keys mode schema no_pairs e = tt
no_keys mode schema (a_pair k v ps) e = cc

reference_sound : (mode : Mode) (schema : CoreSchema) (n : ℕ) (ps : PlainPairs) (us : Unknowns) (t : Closed) (h : Spot)
    (c : Tree) (deep : Bool) (b : Grown) (outs : List ℕ) (x : Grown) (es : Entries) → put_root h c deep b ≡ Ok (made outs x)
    → Branch mode n es c → IsGood c → (deep ≡ false → deepest c < 1024) → EntriesHold (EachPair mode schema ps) us t es
    → RootSound mode schema n ps us t b outs x
unfolding RootSound
reference_sound mode schema n ps us t h c deep b outs x es e branch fine low hold =
    let p = alone_put h (with_one c) deep false b outs x e in (
      p.0,
      goes_as _ _ false b x (goes_put (with_one c) deep false b x p.1) (λ s r u. some_entries c es u.0 branch hold),
      put_held (with_one c) deep false b x p.1 (lit< tt, tt) (more c [] fine none) (low p.1.flat, tt),
    )

empty_root : (mode : Mode) (schema : CoreSchema) (n : ℕ) (ps : PlainPairs) (us : Unknowns) (t : Closed) (b : Grown)
    (outs : List ℕ) (x : Grown) → outs ≡ [] → WasPut (only_bits (0 ∷ [])) false false b x → IsEmpty (EachPair mode schema ps)
    → us ≡ [] → RootSound mode schema n ps us t b outs x
unfolding RootSound
empty_root mode schema n ps us t b outs x f p i j =
    (f, goes_as _ _ false b x (goes_put (only_bits (0 ∷ [])) false false b x p) (λ s r u. no_entries i j u.0), bits_held (0 ∷ []) b x p (lit< tt, tt))

root_made : (mode : Mode) → forms_of mode ≡ Required → (schema : CoreSchema) (n : ℕ) (ps : PlainPairs) (us : Unknowns)
    (t : Closed) (xs : Leaves) (h : Spot) (b : Grown) (outs : List ℕ) (x : Grown) → LeavesSound mode schema ps t xs
    → EntriesSound mode n us (contents_of xs) (entries_of xs us)
    → (is_hidden_alone (blank (entries_of xs us)) || are_placed (blank (entries_of xs us)) (blank (entries_of xs us))) ≡ true
    → AllKeys (entries_of xs us)
    → plant_root h n (entries_of xs us) b ≡ Ok (made outs x) → RootSound mode schema n ps us t b outs x
root_made mode req schema n ps us t xs h b outs x l s a keys e =
    go (entries_of xs us) s.order s.stand a keys (holds_of mode schema n ps t xs us l s) e
    (λ f. (no_keys mode schema ps (sym l.keys ∙ ap blank_pairs (sym s.pairs ∙ ap pairs_in f)), sym s.hidden ∙ ap hidden_in f))
  where
    opened : (es : Entries) → AreInOrder n es → AllStand mode es → 0 < length es → AllPlaced es
        → EntriesHold (EachPair mode schema ps) us t es
        → (planted h (planting n es) >>= λ u. put_root h (cell_of u) (is_deep (cell_of u)) b) ≡ Ok (made outs x)
        → RootSound mode schema n ps us t b outs x
    opened es o stand some a hold e =
        let m = bind_ok (planted h (planting n es)) _ (made outs x) e in
        let k = bind_is (tops n [] es) _ m.0 (planted_ok h (planting n es) m.0 m.1) in
        let d = top_tree mode req n (first_key es) es k.0 m.0 stand (tops_sound mode req n [] es k.0 o some a stand k.1) k.2 in
        reference_sound mode schema n ps us t h (cell_of m.0) (is_deep (cell_of m.0)) b outs x es m.2 (open_edge mode n es (cell_of m.0) m.0 refl d.0) (held_good m.0 d.1) (low_of (cell_of m.0)) hold

    go : (es : Entries) → AreInOrder n es → AllStand mode es → (is_hidden_alone (blank es) || are_placed (blank es) (blank es)) ≡ true
        → AllKeys es → EntriesHold (EachPair mode schema ps) us t es → plant_root h n es b ≡ Ok (made outs x)
        → (es ≡ [] → IsEmpty (EachPair mode schema ps) × (us ≡ [])) → RootSound mode schema n ps us t b outs x
    go [] o stand a keys hold e empty_is =
        let p = bits_put h (0 ∷ []) [] b outs x e in
        let k = empty_is refl in
        empty_root mode schema n ps us t b outs x p.0 p.1 k.0 k.1
    go (([], hidden y) ∷ f ∷ es) o stand a keys hold e empty_is = absurd (o.2)
    go (([], hidden y) ∷ []) o stand a keys hold e empty_is = hidden_root stand.0.0 stand.0.1 hold e
      where
        hidden_root : mode ≡ Partial → IsHash y → EntriesHold (EachPair mode schema ps) us t (([], hidden y) ∷ [])
            → put_root h (pruned_of y.hash y.depth) (nat_lt 1023 y.depth) b ≡ Ok (made outs x) → RootSound mode schema n ps us t b outs x
        hidden_root m hash hold e =
            let p = alone_put h (with_one (pruned_of y.hash y.depth)) (nat_lt 1023 y.depth) false b outs x e in
            let low = ltb-false 1023 y.depth p.1.flat in
            let depth : y.depth ≤ 1024 = omega (arith, low) in
            let M : Mode → Type 0 = λ z. unseen z (pruned_of y.hash y.depth) ≡ Some y in
            reference_sound mode schema n ps us t h (pruned_of y.hash y.depth) (nat_lt 1023 y.depth) b outs x (([], hidden y) ∷ []) e
            (hidden_edge mode n (([], hidden y) ∷ []) (pruned_of y.hash y.depth) y (subst M (sym m) (hides-stored y (can_hide y hash depth))) refl)
            (pruned_good y hash depth) (λ z. hidden-below y hash low) hold
    go (([], leaf c) ∷ es) o stand a keys hold e empty_is =
        opened (([], leaf c) ∷ es) o stand (omega arith) (placed_is (([], leaf c) ∷ es) (([], leaf c) ∷ es) keys a) hold e
    go ((d ∷ k, y) ∷ es) o stand a keys hold e empty_is =
        opened ((d ∷ k, y) ∷ es) o stand (omega arith) (placed_is ((d ∷ k, y) ∷ es) ((d ∷ k, y) ∷ es) keys a) hold e

root_ends : (mode : Mode) (schema : CoreSchema) (n : ℕ) (t : Closed) (ps : PlainPairs) (us : Unknowns) (s : Slice)
    (outs : List ℕ) (r : Slice) (o : outs ≡ []) (d : SpellsDictE mode (EachPair mode schema ps) us n t s r)
    → ends_shape mode schema (map_of tt ps us) (typed (closed.dict_e n t)) s outs r (o, d, tt) ≡ false
root_ends mode schema n t no_pairs us s outs r o d = refl
root_ends mode schema n t (a_pair k v no_pairs) [] s outs r o d = refl
root_ends mode schema n t (a_pair k v no_pairs) (u ∷ us) s outs r o d = refl
root_ends mode schema n t (a_pair k v (a_pair k2 v2 ps)) us s outs r o d = refl

pub dict_e_sound : (mode : Mode) → forms_of mode ≡ Required → (schema : CoreSchema) (R : Maker) (ps : PlainPairs) (us : Unknowns)
    → AreHashes us → BySound mode schema R ps → (h : Spot) (n : ℕ) (t : Closed) (q : ℕ) (b : Grown) (outs : List ℕ) (x : Grown)
    → make_dict_e mode R h n t q ps us b ≡ Ok (made outs x)
    → ShapeSound mode schema (map_of tt ps us) (typed (closed.dict_e n t)) b outs x
unfolding RootSound
dict_e_sound mode req schema R ps us hashes sound h n t q b outs x e =
    let g = only_ok (fits_root mode n (outline ps us)) _ _ (made outs x) e in
    let m = bind_ok (make_leaves R h t q ps) _ (made outs x) g.1 in
    let xs = m.0 in
    let es = entries_of xs us in
    let l = leaves_sound mode schema R ps sound h t q xs m.1 in
    let fits : fits_root mode n (blank es) ≡ true = ap (fits_root mode n) (sym (blank_outline mode schema ps t xs us l)) ∙ g.0 in
    let c = both (in_order n (blank es)) _ fits in
    let d = both (is_hidden_alone (blank es) || are_placed (blank es) (blank es)) (admits mode (blank es)) c.1 in
    let s = entries_sound mode schema n ps t xs us hashes l c.0 d.1 in
    let k = root_made mode req schema n ps us t xs h b outs x l s d.0 (keys_are n es c.0) m.2 in
    (false, goes_as _ _ false b x k.1 (λ z r u. ((k.0, u, tt), root_ends mode schema n t ps us z outs r k.0 u)), k.2)

pub map_sound : (mode : Mode) → forms_of mode ≡ Required → (schema : CoreSchema) (R : Maker) (ps : PlainPairs) (us : Unknowns)
    → AreHashes us → BySound mode schema R ps → (h : Spot) (c : Shape) (q : ℕ) (b : Grown) (outs : List ℕ) (x : Grown)
    → map_at mode R h c q ps us b ≡ Ok (made outs x) → ShapeSound mode schema (map_of tt ps us) c b outs x
map_sound mode req schema R ps us hashes sound h (typed (closed.dict n t)) q b outs x e =
    dict_sound mode req schema R ps us hashes sound h n t q b outs x e
map_sound mode req schema R ps us hashes sound h (typed (closed.dict_e n t)) q b outs x e =
    dict_e_sound mode req schema R ps us hashes sound h n t q b outs x e
map_sound mode req schema R ps us hashes sound h _ q b outs x e = cc
