-- A dictionary that is spelled so within the limits of cells is built, to the same content.
use Rattle.std.proofs.Common.{◌≡◌, ◌<◌, ◌≤◌, inl, inr, ℕ, suc, ◌+◌, Bool, true, false, ◌&&◌, ◌||◌, nat_eq, nat_le, nat_lt, List, [], ◌∷◌, ◌++◌, length, Some, Ok, refl, sym, ap, ◌∙◌, subst, arith, append_assoc, length-append}
use Rattle.std.proofs.lemmas.Bool.{le-ltb, le-leb, eq-eqb}
use Rattle.bit_slice.specs.Bits.{AreBits}
use Rattle.cell_nodes.specs.Constructed.{pruned_of}
use Rattle.cell_nodes.specs.Good.{IsGood}
use Rattle.cell_nodes.specs.declared.tree.Hidden.{Hidden}
use Rattle.cell_nodes.specs.declared.tree.Mode.{Mode}
use Rattle.cell_nodes.specs.declared.tree.Mode.TheVariants.{Whole, Partial, Lax}
use Rattle.cell_nodes.specs.declared.tree.Tree.{Tree}
use Rattle.cell_nodes.specs.Tree.{deepest}
use Rattle.hashmap_labels.specs.LengthLaws.{are_bits-AreBits}
use Rattle.hashmap_labels.specs.Reading.{are_bits}
use Rattle.hashmap_labels.specs.declared.forms.Forms.TheVariants.{Required}
use Rattle.hashmap_tree.specs.Dict.{forms_of, unseen, DictTree, one, two, Branch, open_edge, hidden_edge}
use Rattle.hashmap_tree.specs.Entries.{Slice, cell_of, Then, Part, leaf, hidden, Entries, under, fork, pairs_in, hidden_in}
use Rattle.hashmap_tree.specs.Exceeds.{first_key}
use Rattle.hashmap_tree.specs.First.{LeafEdge, Fork, forked}
use Rattle.hashmap_tree.specs.Merged.{merged}
use Rattle.hashmap_tree.specs.MergedLaws.{order-merged}
use Rattle.hashmap_tree.specs.OnceLaws.{Some_entry, some_entry, some_below, two_entries}
use Rattle.hashmap_tree.specs.Order.{AreInOrder}
use Rattle.hashmap_tree.specs.Placed.{AllPlaced}
use Rattle.hashmap_tree.specs.PlacedLaws.{tree-placed, branch-placed, places-fork}
use Rattle.typed_value.specs.Values.{Plain, Plains, PlainPairs, map_of, no_vals, a_val, no_pairs, a_pair, parts, parts_by}
use Rattle.core_form.specs.Core.{CoreSchema}
use Rattle.core_form.specs.Closed.{Closed}
use Rattle.core_form.specs.Closed as closed
use Rattle.spelling.specs.Goals.{Goal, at_type, at_field, at_cell, typed}
use Rattle.spelling.specs.Places.{Spot}
use Rattle.spelling.specs.PlainReader.{◌>>=◌}
use Rattle.spelling.specs.Slices.{nothing, only_bits}
use Rattle.spelling.specs.Spells.{Spells, EachPair, Contents, EntriesHold, IsEmpty, SpellsDict, SpellsDictE, no_entries, some_entries}
use Rattle.spelling_laws.specs.ProperLaws.{Proper}
use Rattle.spelling_laws.specs.StepLaws.{bind_on, when_true, when_false, both_on}
use Rattle.building.specs.Buildable.{IsHash, AreHashes}
use Rattle.building.specs.Growing.{Grown, empty, is_deep}
use Rattle.building.specs.Laid.{AreSeen, ends, ends_shape}
use Rattle.building.specs.MapTests.{keys_of, outline, in_order, are_placed, is_hidden_alone, is_none, admits, has_some, fits_edge, fits_root}
use Rattle.building.specs.Planting.{Top, leaf_top, fork_top, content_of, has_deep, edge_of, labeled, tops, planting}
use Rattle.building.specs.PlainBuilder.{Maker, Leaves, make_leaves, contents_of, entries_of, is_last, planted, put_edge, plant_here, make_dict, put_root, plant_root, make_dict_e}
use Rattle.building_laws.specs.MapLaws.{blank, blank_pairs, blank_merged, in_order_on, placed_on, AllHeld, label_then, key_bits, tree_sound, branch_sound, fork_sound, sound_as}
use Rattle.building_laws.specs.MoveLaws.{then_all, IsHeld, held_after, good_held, Stands, Reaches, made, alone_on, bits_on, no_end, not_deep, ref_below}
use Rattle.building_laws.specs.PlantLaws.{bind_to, label_is, label_more, label_some, AreHashed, hashed_on, hashed_zeros, hashed_ones, tree_planted, branch_planted, fork_on, leaf_along, fork_along, not_hidden, good_both, planted_edge, edge_on}
use Rattle.building_laws.specs.RangeLaws.{hidden_is}

-- the limits of the whole; at a cell of any kind only that it isn't hidden
abbrev pub HeldAt : Mode → Goal → Slice → Type 0
HeldAt mode (at_type t) w = IsHeld w
HeldAt mode (at_field e t scope) w = IsHeld w
HeldAt mode at_cell w = AreSeen mode w.refs

-- a value is built where it is spelled so, within the limits of the whole
abbrev pub Done : ℕ → Mode → CoreSchema → Maker → Plain → Type 0
Done most mode schema R v =
    (h : Spot) (g : Goal) (q : ℕ) (b : Grown) (w s : Slice) (outs : List ℕ) (r : Slice) → Proper g → q + parts v ≤ most
    → HeldAt mode g w → Stands w b s → (d : Spells mode schema v g s outs r)
    → Reaches w r (ends mode schema v g s outs r d) b (λ x. Ok (made outs x)) (R h g q v b)

abbrev pub AllDone : ℕ → Mode → CoreSchema → Maker → Plains → Type 0
AllDone most mode schema R no_vals = Unit {0}
AllDone most mode schema R (a_val v vs) = Done most mode schema R v × AllDone most mode schema R vs

abbrev pub ByDone : ℕ → Mode → CoreSchema → Maker → PlainPairs → Type 0
ByDone most mode schema R no_pairs = Unit {0}
ByDone most mode schema R (a_pair k v ps) = Done most mode schema R v × ByDone most mode schema R ps

abbrev pub Unknowns : Type 0
Unknowns = List (List ℕ × Hidden)

-- ---- the contents of leaves

abbrev pub PairsHeld : List (List ℕ × Slice) → Type 0
PairsHeld [] = Unit {0}
PairsHeld (x ∷ xs) = IsHeld x.1 × PairsHeld xs

pairs_held : (es : Entries) → AllHeld es → PairsHeld (pairs_in es)
pairs_held [] h = tt
pairs_held ((k, leaf c) ∷ es) h = (h.0, pairs_held es h.1)
pairs_held ((k, hidden x) ∷ es) h = pairs_held es h

leaves_complete : (most : ℕ) (mode : Mode) (schema : CoreSchema) (R : Maker) (ps : PlainPairs)
    → ByDone most mode schema R ps → (h : Spot) (t : Closed) (q : ℕ) (ls : List (List ℕ × Slice))
    → q + parts_by ps ≤ most → PairsHeld ls → Contents (EachPair mode schema ps) t ls
    → (xs : Leaves) × (make_leaves R h t q ps ≡ Ok xs) × (contents_of xs ≡ ls)
leaves_complete most mode schema R no_pairs done h t q ls le held e = ([], refl, sym e)
leaves_complete most mode schema R (a_pair k v ps) done h t q [] le held e = absurd e
leaves_complete most mode schema R (a_pair k v ps) done h t q (l ∷ ls) le held e =
    let d = e.2 in
    let p = done.0 h (at_type t) q empty l.1 l.1 e.0 nothing tt (omega (arith, le)) held.0 (record { at = record { bits = refl; refs = refl }; free = λ z. (cc) }) d in
    let more = leaves_complete most mode schema R ps done.1 h t (q + parts v) ls (omega (arith, le)) held.1 e.3 in
    let same = then_all l.1 p.0.held p.2.at in (
      (k, p.0) ∷ more.0,
      bind_on (R h (at_type t) q v empty) _ (made e.0 p.0) (Ok ((k, p.0) ∷ more.0)) p.1 (bind_on (make_leaves R h t (q + parts v) ps) _ more.0 (Ok ((k, p.0) ∷ more.0)) more.1 refl),
      (λ i. ((sym e.1) i, same i) ∷ more.2 i),
    )

-- the keys of the values are those of the contents
keys_same : (mode : Mode) (schema : CoreSchema) (ps : PlainPairs) (t : Closed) (ls : List (List ℕ × Slice))
    → Contents (EachPair mode schema ps) t ls → blank_pairs ls ≡ keys_of ps
keys_same mode schema no_pairs t ls e = ap blank_pairs e
keys_same mode schema (a_pair k v ps) t [] e = absurd e
keys_same mode schema (a_pair k v ps) t (l ∷ ls) e = λ i. (e.1 i, nothing) ∷ keys_same mode schema ps t ls e.3 i

outline_is : (mode : Mode) (schema : CoreSchema) (n : ℕ) (ps : PlainPairs) (us : Unknowns) (t : Closed) (es : Entries)
    → AreInOrder n es → EntriesHold (EachPair mode schema ps) us t es → outline ps us ≡ blank es
outline_is mode schema n ps us t es o e =
    (λ i. merged (sym (keys_same mode schema ps t (pairs_in es) e.0) i) (sym e.1 i))
    ∙ sym (blank_merged (pairs_in es) (hidden_in es)) ∙ ap blank (sym (order-merged n es o))

entries_are : (mode : Mode) (schema : CoreSchema) (n : ℕ) (ps : PlainPairs) (us : Unknowns) (t : Closed) (es : Entries)
    (xs : Leaves) → AreInOrder n es → EntriesHold (EachPair mode schema ps) us t es → contents_of xs ≡ pairs_in es
    → entries_of xs us ≡ es
entries_are mode schema n ps us t es xs o e c =
    (λ i. merged (c i) (sym e.1 i)) ∙ sym (order-merged n es o)

-- ---- hidden parts

unseen_partial : (mode : Mode) (c : Tree) (x : Hidden) → unseen mode c ≡ Some x → mode ≡ Partial
unseen_partial Whole c x u = cc
unseen_partial Lax c x u = cc
unseen_partial Partial c x u = refl

pub hashed_of : (mode : Mode) (es : Entries) → AreHashes (hidden_in es) → AreHashed mode es
hashed_of mode [] h = tt
hashed_of mode ((k, leaf c) ∷ es) h = hashed_of mode es h
hashed_of mode ((k, hidden x) ∷ es) h = (λ c fine u. one c fine u, hashed_of mode es h.1)
  where
    one : (c : Tree) → IsGood c → unseen mode c ≡ Some x → (c ≡ pruned_of x.hash x.depth) × (x.depth ≤ 1024)
    one c fine u =
        let P : Mode → Type 0 = λ m. unseen m c ≡ Some x in
        let k = hidden_is c x h.0 fine (subst P (unseen_partial mode c x u) u) in
        (k.0, k.2)

hashes_as : (es : Entries) (us : Unknowns) → hidden_in es ≡ us → AreHashes us → AreHashes (hidden_in es)
hashes_as es us e h = let P : Unknowns → Type 0 = AreHashes in subst P (sym e) h

-- entries without hidden parts
abbrev NoHidden : Entries → Type 0
NoHidden [] = Unit {0}
NoHidden ((k, leaf c) ∷ es) = NoHidden es
NoHidden ((k, hidden x) ∷ es) = ⊥

plain_under : (p : List ℕ) (es : Entries) → NoHidden es → NoHidden (under p es)
plain_under p [] h = tt
plain_under p ((k, leaf c) ∷ es) h = plain_under p es h
plain_under p ((k, hidden x) ∷ es) h = absurd h

plain_append : (ds fs : Entries) → NoHidden ds → NoHidden fs → NoHidden (ds ++ fs)
plain_append [] fs h k = k
plain_append ((q, leaf c) ∷ ds) fs h k = plain_append ds fs h k
plain_append ((q, hidden x) ∷ ds) fs h k = absurd h

plain_as : (es fs : Entries) → es ≡ fs → NoHidden fs → NoHidden es
plain_as es fs e h = let P : Entries → Type 0 = NoHidden in subst P (sym e) h

plain_fork : (p : List ℕ) (zs os : Entries) → NoHidden zs → NoHidden os → NoHidden (fork p zs os)
plain_fork p zs os h k =
    plain_append (under (p ++ 0 ∷ []) zs) (under (p ++ 1 ∷ []) os) (plain_under (p ++ 0 ∷ []) zs h) (plain_under (p ++ 1 ∷ []) os k)

mutual
  plain_tree : (mode : Mode) → (mode ≡ Partial → ⊥) → (n : ℕ) (es : Entries) (s : Slice) → DictTree mode n es s
      → NoHidden es
  plain_tree mode ne n es s (one _ _ _ _ k c e l f g) = plain_as es ((k, leaf c) ∷ []) e tt
  plain_tree mode ne n es s (two _ _ _ _ p m zs os z o e l f g x y) =
      plain_as es (fork p zs os) e (plain_fork p zs os (plain_branch mode ne m zs z x) (plain_branch mode ne m os o y))

  plain_branch : (mode : Mode) → (mode ≡ Partial → ⊥) → (m : ℕ) (es : Entries) (t : Tree) → Branch mode m es t
      → NoHidden es
  plain_branch mode ne m es t (open_edge _ _ _ _ c e d) = plain_tree mode ne m es c d
  plain_branch mode ne m es t (hidden_edge _ _ _ _ x u e) = absurd (ne (unseen_partial mode t x u))

none_on : (es : Entries) → NoHidden es → is_none (hidden_in (blank es)) ≡ true
none_on [] h = refl
none_on ((k, leaf c) ∷ es) h = none_on es h
none_on ((k, hidden x) ∷ es) h = absurd h

admits_on : (mode : Mode) (es : Entries) → ((mode ≡ Partial → ⊥) → NoHidden es) → admits mode (blank es) ≡ true
admits_on Whole es f = none_on es (f (λ e. cc))
admits_on Partial es f = refl
admits_on Lax es f = none_on es (f (λ e. cc))

some_on : (es : Entries) → Some_entry es → has_some (blank es) ≡ true
some_on es s = ap (λ (l : Entries). has_some (blank l)) s.2

or_right : (a b : Bool) → b ≡ true → (a || b) ≡ true
or_right true b e = refl
or_right false b e = e

fits_edge_on : (mode : Mode) (n : ℕ) (es : Entries) → Some_entry es → AreInOrder n es → AllPlaced es
    → ((mode ≡ Partial → ⊥) → NoHidden es) → fits_edge mode n (blank es) ≡ true
fits_edge_on mode n es s o a f =
    both_on (has_some (blank es)) _ (some_on es s)
    (both_on (in_order n (blank es)) _ (in_order_on n es o)
    (both_on (are_placed (blank es) (blank es)) (admits mode (blank es)) (placed_on es es a) (admits_on mode es f)))

fits_root_on : (mode : Mode) (n : ℕ) (es : Entries) → AreInOrder n es → AllPlaced es
    → ((mode ≡ Partial → ⊥) → NoHidden es) → fits_root mode n (blank es) ≡ true
fits_root_on mode n es o a f =
    both_on (in_order n (blank es)) _ (in_order_on n es o)
    (both_on (is_hidden_alone (blank es) || are_placed (blank es) (blank es)) (admits mode (blank es)) (or_right (is_hidden_alone (blank es)) _ (placed_on es es a)) (admits_on mode es f))

-- ---- the first edge in place

-- a cell in which something is due has room for it
open_shut : (b : Grown) (s : Slice) → (b.shut ≡ true → s ≡ nothing) → (s ≡ nothing → ⊥) → b.shut ≡ false
open_shut b s f ne = go b.shut f
  where
    go : (t : Bool) → (t ≡ true → s ≡ nothing) → t ≡ false
    go true f = absurd (ne (f refl))
    go false f = refl

short_first : (w b s x r : Slice) → IsHeld w → Then w b s → Then s x r → length x.bits ≤ 1023
short_first w b s x r held t k =
    let short = (held_after w b s t held).within.short in
    let e = ap length k.bits ∙ length-append x.bits r.bits in
    omega (arith, short, e)

put_edge_on : (h : Spot) (n : ℕ) (key : List ℕ) (top : Top) (last : Bool) (b : Grown) (w s r : Slice) → IsHeld w
    → Stands w b s → b.shut ≡ false → has_deep top ≡ false → Then s (content_of n top) r → (last ≡ true → r ≡ nothing)
    → Reaches w r last b (λ g. Ok (made [] g)) (put_edge h n key top last b)
put_edge_on h n key top last b w s r held st clear flat t end =
    let x = content_of n top in
    let a = alone_on h x false last b w s r [] held st refl t refl end in
    let e = edge_on n key top (short_first w b.held s x r held st.at t) flat in (
      a.0,
      when_false b.shut _ _ clear ∙ bind_on (planted h (edge_of n key top)) _ x (Ok (made [] a.0)) (ap (planted h) e) a.1,
      a.2,
      a.3,
    )

fits_leaf : (mode : Mode) (n : ℕ) (k : List ℕ) → length k ≡ n → AreBits k
    → fits_edge mode n ((k, leaf nothing) ∷ []) ≡ true
fits_leaf mode n k l a =
    both_on (nat_eq (length k) n && (are_bits k && true)) (admits mode ((k, leaf nothing) ∷ []))
    (both_on (nat_eq (length k) n) (are_bits k && true) (eq-eqb (length k) n l) (both_on (are_bits k) true (are_bits-AreBits k a) refl)) (alone mode)
  where
    alone : (mode : Mode) → admits mode ((k, leaf nothing) ∷ []) ≡ true
    alone Whole = refl
    alone Partial = refl
    alone Lax = refl

in_place_complete : (most : ℕ) (mode : Mode) → forms_of mode ≡ Required → (schema : CoreSchema) (R : Maker) (k : List ℕ)
    (v : Plain) → Done most mode schema R v → (h : Spot) (n : ℕ) (t : Closed) (q : ℕ) (b : Grown)
    (w s middle : Slice) (outs : List ℕ) (r : Slice) → q + parts v ≤ most → IsHeld w → Stands w b s
    → LeafEdge mode n k s middle → (e : Spells mode schema v (at_type t) middle outs r)
    → Reaches w r (ends mode schema v (at_type t) middle outs r e) b (λ g. Ok (made [] g)) (make_dict mode R h n t q (a_pair k v no_pairs) [] b)
in_place_complete most mode req schema R k v done h n t q b w s middle outs r le held st d e =
    let held_s = held_after w b.held s st.at held in
    let first = label_then mode req n k s middle d.label d.refs in
    let held_m = held_after s (only_bits (labeled n k [])) middle first held_s in
    let bits = key_bits mode n k s.bits middle.bits d.label held_s.bits in
    let p = done h (at_type t) q empty middle middle outs r tt le held_m (record { at = record { bits = refl; refs = refl }; free = λ z. (cc) }) e in
    let x = p.0 in
    let top = leaf_top k x.held in
    let there : Then s (content_of n top) r = record {
      bits = first.bits ∙ ap (λ z. labeled n k [] ++ z) p.2.at.bits ∙ sym (append_assoc (labeled n k []) x.held.bits r.bits) ∙ ap (λ z. z ++ r.bits) (sym (label_more n k [] x.held.bits));
      refs = first.refs ∙ p.2.at.refs;
    } in
    let clear = open_shut b s st.free (λ z. label_some n k middle.bits (sym (label_is mode req n k s.bits middle.bits d.label) ∙ ap (λ (y : Slice). y.bits) z)) in
    let a = put_edge_on h n k top x.shut b w s r held st clear refl there p.2.free in
    let tops_are : tops n [] ((k, leaf x.held) ∷ []) ≡ Ok top =
    ap (λ m. tops m [] ((k, leaf x.held) ∷ [])) (sym d.long) ∙ leaf_along k [] x.held bits in (
      a.0,
      when_true (fits_edge mode n ((k, leaf nothing) ∷ [])) _ _ (fits_leaf mode n k d.long bits)
          ∙ bind_on (make_leaves R h t q (a_pair k v no_pairs)) _ ((k, x) ∷ []) (Ok (made [] a.0)) (bind_on (R h (at_type t) q v empty) _ (made outs x) (Ok ((k, x) ∷ [])) p.1 refl)
          (bind_on (planted h (tops n [] ((k, leaf x.held) ∷ []))) _ top (Ok (made [] a.0)) (ap (planted h) tops_are) a.1),
      a.2,
      a.3 ∙ ap (λ z. b.shut || z) p.3,
    )

pub not_last : (xs : Leaves) (us : Unknowns) → ((e : List ℕ × Part) → entries_of xs us ≡ e ∷ [] → ⊥) → is_last xs us ≡ false
not_last [] us f = refl
not_last (x ∷ y ∷ xs) us f = refl
not_last (x ∷ []) (u ∷ us) f = refl
not_last (x ∷ []) [] f = absurd (f (x.0, leaf x.1.held) refl)

placed_as : (es fs : Entries) → es ≡ fs → AllPlaced fs → AllPlaced es
placed_as es fs e h = let P : Entries → Type 0 = AllPlaced in subst P (sym e) h

fork_complete : (most : ℕ) (mode : Mode) → forms_of mode ≡ Required → (schema : CoreSchema) (R : Maker) (ps : PlainPairs)
    (us : Unknowns) → AreHashes us → ByDone most mode schema R ps → (h : Spot) (n : ℕ) (t : Closed) (q : ℕ) (b : Grown)
    (w s r : Slice) → q + parts_by ps ≤ most → IsHeld w → Stands w b s → (es : Entries) → Fork mode n es s r
    → EntriesHold (EachPair mode schema ps) us t es
    → Reaches w r false b (λ g. Ok (made [] g)) (make_dict mode R h n t q ps us b)
fork_complete most mode req schema R ps us hashes done h n t q b w s r le held st es (forked p m zs os z o same len label refs bz bo) e =
    let held_s = held_after w b.held s st.at held in
    let fine = good_both s z o r.refs held_s refs in
    let bits = key_bits mode n p s.bits r.bits label held_s.bits in
    let some_z = some_below mode m zs z bz in
    let some_o = some_below mode m os o bo in
    let sound = sound_as n (fork p zs os) es same (fork_sound n m p zs os bits len (branch_sound mode req m zs z bz fine.0) (branch_sound mode req m os o bo fine.1)) in
    let placed = placed_as es (fork p zs os) same (places-fork p zs os some_z some_o (branch-placed mode m zs z bz) (branch-placed mode m os o bo)) in
    let plain = λ (ne : mode ≡ Partial → ⊥). plain_as es (fork p zs os) same (plain_fork p zs os (plain_branch mode ne m zs z bz) (plain_branch mode ne m os o bo)) in
    let hashed = hashed_on mode es (fork p zs os) same (hashed_of mode es (hashes_as es us e.1 hashes)) in
    let left = branch_planted mode req m zs z bz fine.0 (hashed_zeros mode p zs os hashed) in
    let right = branch_planted mode req m os o bo fine.1 (hashed_ones mode p zs os hashed) in
    let top = fork_top p z o in
    let tops_are : tops n [] es ≡ Ok top =
    ap (λ k. tops k [] es) len ∙ ap (tops (length p + suc m) []) same ∙ fork_along p [] m zs os bits some_z some_o ∙ fork_on m p zs os z o left right in
    let xs = leaves_complete most mode schema R ps done h t q (pairs_in es) le (pairs_held es sound.held) e.0 in
    let are = entries_are mode schema n ps us t es xs.0 sound.order e xs.2 in
    let there : Then s (content_of n top) r = record { bits = label_is mode req n p s.bits r.bits label ∙ label_more n p [] r.bits; refs = refs } in
    let clear = open_shut b s st.free (λ y. label_some n p r.bits (sym (label_is mode req n p s.bits r.bits label) ∙ ap (λ (x : Slice). x.bits) y)) in
    let last = not_last xs.0 us (λ x i. two_entries p zs os x some_z some_o (sym same ∙ sym are ∙ i)) in
    let a = put_edge_on h n (first_key es) top false b w s r held st clear (λ i. not_deep z fine.2 i || not_deep o fine.3 i) there (no_end r) in
    let some : Some_entry es = some_of_fork p zs os es same some_z in (
      a.0,
      when_true (fits_edge mode n (outline ps us)) _ _ (ap (fits_edge mode n) (outline_is mode schema n ps us t es sound.order e) ∙ fits_edge_on mode n es some sound.order placed plain)
          ∙ bind_on (make_leaves R h t q ps) _ xs.0 (Ok (made [] a.0)) xs.1
          ((λ i. plant_here h n (are i) (last i) b) ∙ bind_on (planted h (tops n [] es)) _ top (Ok (made [] a.0)) (ap (planted h) tops_are) a.1),
      a.2,
      a.3,
    )
  where
    some_of_fork : (p : List ℕ) (zs os es : Entries) → es ≡ fork p zs os → Some_entry zs → Some_entry es
    some_of_fork p zs os es e s =
        ((p ++ 0 ∷ [] ++ s.0.0, s.0.1), under (p ++ 0 ∷ []) s.1 ++ under (p ++ 1 ∷ []) os, e ∙ ap (λ (l : Entries). under (p ++ 0 ∷ []) l ++ under (p ++ 1 ∷ []) os) s.2)

-- ---- a dictionary that may be empty

abbrev one_ref : Tree → Slice
one_ref c = record { bits = 1 ∷ []; refs = c ∷ [] }

empty_complete : (most : ℕ) (mode : Mode) (schema : CoreSchema) (R : Maker) (ps : PlainPairs) (us : Unknowns) (h : Spot)
    (n : ℕ) (t : Closed) (q : ℕ) (b : Grown) (w s r : Slice) → IsHeld w → Stands w b s
    → IsEmpty (EachPair mode schema ps) → us ≡ [] → Then s (only_bits (0 ∷ [])) r
    → Reaches w r false b (λ g. Ok (made [] g)) (make_dict_e mode R h n t q ps us b)
empty_complete most mode schema R (a_pair k v ps) us h n t q b w s r held st e f there = absurd e
empty_complete most mode schema R no_pairs us h n t q b w s r held st e f there =
    let a = bits_on h (0 ∷ []) [] [] b w s r held st refl there in
    (a.0, ap (λ z. make_dict_e mode R h n t q no_pairs z b) f ∙ when_true (fits_root mode n []) _ _ (fits mode) ∙ a.1, a.2, a.3)
  where
    fits : (mode : Mode) → fits_root mode n [] ≡ true
    fits Whole = refl
    fits Partial = refl
    fits Lax = refl

pub plant_root_open : (h : Spot) (n : ℕ) (es : Entries) (b : Grown) → Some_entry es
    → ((x : Hidden) (fs : Entries) → es ≡ ([], hidden x) ∷ fs → ⊥)
    → plant_root h n es b ≡ (planted h (planting n es) >>= λ s. put_root h (cell_of s) (is_deep (cell_of s)) b)
plant_root_open h n [] b s f = let e = s.2 in cc
plant_root_open h n (([], hidden x) ∷ es) b s f = absurd (f x es refl)
plant_root_open h n (([], leaf c) ∷ es) b s f = refl
plant_root_open h n ((d ∷ k, x) ∷ es) b s f = refl

open_root_complete : (most : ℕ) (mode : Mode) → forms_of mode ≡ Required → (schema : CoreSchema) (R : Maker)
    (ps : PlainPairs) (us : Unknowns) → AreHashes us → ByDone most mode schema R ps → (h : Spot) (n : ℕ) (t : Closed) (q : ℕ)
    (b : Grown) (w s r : Slice) → q + parts_by ps ≤ most → IsHeld w → Stands w b s → (c : Tree) (es : Entries) (u : Slice)
    → Then s (one_ref c) r → c ≡ cell_of u → DictTree mode n es u → EntriesHold (EachPair mode schema ps) us t es
    → Reaches w r false b (λ g. Ok (made [] g)) (make_dict_e mode R h n t q ps us b)
open_root_complete most mode req schema R ps us hashes done h n t q b w s r le held st c es u there same d e =
    let below = ref_below b w s r c held st there.refs in
    let G : Tree → Type 0 = IsGood in
    let held_u = good_held u (subst G same below.0) in
    let sound = tree_sound mode req n es u d held_u in
    let k = tree_planted mode req n es u d held_u (hashed_of mode es (hashes_as es us e.1 hashes)) in
    let plant_is : planting n es ≡ Ok u = bind_to (tops n [] es) _ k.top (Ok u) k.tops_on (planted_edge n (first_key es) es u k held_u.within.short) in
    let xs = leaves_complete most mode schema R ps done h t q (pairs_in es) le (pairs_held es sound.held) e.0 in
    let are = entries_are mode schema n ps us t es xs.0 sound.order e xs.2 in
    let T : Tree → Type 0 = λ x. Then s (one_ref x) r in
    let D : Tree → Type 0 = λ x. deepest x < 1024 in
    let a = alone_on h (one_ref (cell_of u)) (is_deep (cell_of u)) false b w s r [] held st refl (subst T same there) (not_deep (cell_of u) (subst D same below.1)) (no_end r) in (
      a.0,
      when_true (fits_root mode n (outline ps us)) _ _ (ap (fits_root mode n) (outline_is mode schema n ps us t es sound.order e) ∙ fits_root_on mode n es sound.order (tree-placed mode n es u d) (λ ne. plain_tree mode ne n es u d))
          ∙ bind_on (make_leaves R h t q ps) _ xs.0 (Ok (made [] a.0)) xs.1
          (ap (λ l. plant_root h n l b) are ∙ plant_root_open h n es b (some_entry mode n es u d) (not_hidden mode n es u d)
          ∙ bind_on (planted h (planting n es)) _ u (Ok (made [] a.0)) (ap (planted h) plant_is) a.1),
      a.2,
      a.3,
    )

hidden_root_complete : (mode : Mode) (schema : CoreSchema) (R : Maker) (ps : PlainPairs) (us : Unknowns) → AreHashes us
    → (h : Spot) (n : ℕ) (t : Closed) (q : ℕ) (b : Grown) (w s r : Slice) → IsHeld w → Stands w b s → (c : Tree)
    (x : Hidden) → Then s (one_ref c) r → unseen mode c ≡ Some x
    → Contents (EachPair mode schema ps) t [] → us ≡ ([], x) ∷ []
    → Reaches w r false b (λ g. Ok (made [] g)) (make_dict_e mode R h n t q ps us b)
hidden_root_complete Whole schema R ps us hashes h n t q b w s r held st c x there u e f = cc
hidden_root_complete Lax schema R ps us hashes h n t q b w s r held st c x there u e f = cc
hidden_root_complete Partial schema R (a_pair k v ps) us hashes h n t q b w s r held st c x there u e f = absurd e
hidden_root_complete Partial schema R no_pairs us hashes h n t q b w s r held st c x there u e f =
    let below = ref_below b w s r c held st there.refs in
    let H : Unknowns → Type 0 = AreHashes in
    let hash : IsHash x = (subst H f hashes).0 in
    let k = hidden_is c x hash below.0 u in
    let T : Tree → Type 0 = λ y. Then s (one_ref y) r in
    let low : x.depth < 1024 = let d = k.1 in let l = below.1 in omega (arith, d, l) in
    let a = alone_on h (one_ref (pruned_of x.hash x.depth)) (nat_lt 1023 x.depth) false b w s r [] held st refl (subst T k.0 there) (le-ltb 1023 x.depth (omega (arith, low))) (no_end r) in
    (a.0, ap (λ z. make_dict_e Partial R h n t q no_pairs z b) f ∙ when_true (fits_root Partial n (([], hidden x) ∷ [])) _ _ (fits_alone n x) ∙ a.1, a.2, a.3)
  where
    fits_alone : (n : ℕ) (x : Hidden) → fits_root Partial n (([], hidden x) ∷ []) ≡ true
    fits_alone n x = both_on (nat_le 0 n && true) true (both_on (nat_le 0 n) true (le-leb 0 n (omega arith)) refl) refl

pub dict_e_complete : (most : ℕ) (mode : Mode) → forms_of mode ≡ Required → (schema : CoreSchema) (R : Maker)
    (ps : PlainPairs) (us : Unknowns) → AreHashes us → ByDone most mode schema R ps → (h : Spot) (n : ℕ) (t : Closed) (q : ℕ)
    (b : Grown) (w s r : Slice) → q + parts_by ps ≤ most → IsHeld w → Stands w b s
    → SpellsDictE mode (EachPair mode schema ps) us n t s r
    → Reaches w r false b (λ g. Ok (made [] g)) (make_dict_e mode R h n t q ps us b)
dict_e_complete most mode req schema R ps us hashes done h n t q b w s r le held st (no_entries e f there) =
    empty_complete most mode schema R ps us h n t q b w s r held st e f there
dict_e_complete most mode req schema R ps us hashes done h n t q b w s r le held st (some_entries c es there (open_edge _ _ _ _ u same d) e) =
    open_root_complete most mode req schema R ps us hashes done h n t q b w s r le held st c es u there same d e
dict_e_complete most mode req schema R ps us hashes done h n t q b w s r le held st (some_entries c es there (hidden_edge _ _ _ _ x u same) e) =
    let C : Entries → Type 0 = λ l. Contents (EachPair mode schema ps) t (pairs_in l) in
    hidden_root_complete mode schema R ps us hashes h n t q b w s r held st c x there u (subst C same e.0) (sym e.1 ∙ ap hidden_in same)

pub dict_complete : (most : ℕ) (mode : Mode) → forms_of mode ≡ Required → (schema : CoreSchema) (R : Maker)
    (ps : PlainPairs) (us : Unknowns) → AreHashes us → ByDone most mode schema R ps → (h : Spot) (n : ℕ) (t : Closed) (q : ℕ)
    (b : Grown) (w s r : Slice) (outs : List ℕ) → q + parts_by ps ≤ most → IsHeld w → Stands w b s
    → (o : outs ≡ []) (d : SpellsDict mode (EachPair mode schema ps) us n t s r)
    → Reaches w r (ends_shape mode schema (map_of tt ps us) (typed (closed.dict n t)) s outs r (o, d, tt)) b
    (λ g. Ok (made [] g)) (make_dict mode R h n t q ps us b)
dict_complete most mode req schema R no_pairs us hashes done h n t q b w s r outs le held st o (inl d) = absurd d
dict_complete most mode req schema R (a_pair k v no_pairs) [] hashes done h n t q b w s r outs le held st o (inl d) =
    in_place_complete most mode req schema R k v done.0 h n t q b w s d.0 d.1 r (omega (arith, le)) held st d.2 d.3
dict_complete most mode req schema R (a_pair k v no_pairs) (u ∷ us) hashes done h n t q b w s r outs le held st o (inl d) = absurd d
dict_complete most mode req schema R (a_pair k v (a_pair k2 v2 ps)) us hashes done h n t q b w s r outs le held st o (inl d) = absurd d
dict_complete most mode req schema R no_pairs us hashes done h n t q b w s r outs le held st o (inr d) =
    fork_complete most mode req schema R no_pairs us hashes done h n t q b w s r le held st d.0 d.1 d.2
dict_complete most mode req schema R (a_pair k v no_pairs) [] hashes done h n t q b w s r outs le held st o (inr d) =
    fork_complete most mode req schema R (a_pair k v no_pairs) [] hashes done h n t q b w s r le held st d.0 d.1 d.2
dict_complete most mode req schema R (a_pair k v no_pairs) (u ∷ us) hashes done h n t q b w s r outs le held st o (inr d) =
    fork_complete most mode req schema R (a_pair k v no_pairs) (u ∷ us) hashes done h n t q b w s r le held st d.0 d.1 d.2
dict_complete most mode req schema R (a_pair k v (a_pair k2 v2 ps)) us hashes done h n t q b w s r outs le held st o (inr d) =
    fork_complete most mode req schema R (a_pair k v (a_pair k2 v2 ps)) us hashes done h n t q b w s r le held st d.0 d.1 d.2
