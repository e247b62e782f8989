-- Entries with a tree of good cells are planted, to that tree.
use Rattle.std.proofs.Common.{◌≡◌, ◌<◌, ◌≤◌, ℕ, zero, suc, ◌+◌, Bool, true, false, ◌||◌, cond, nat_lt, List, [], ◌∷◌, ◌++◌, length, replicate, Some, Result, Ok, refl, sym, ap, ◌∙◌, subst, arith, append_assoc}
use Rattle.std.proofs.lemmas.List.{append-nil}
use Rattle.std.proofs.lemmas.Bool.{le-ltb, eq-eqb}
use Rattle.bit_slice.specs.Bits.{AreBits, IsBit, bit_number, bit_length, spelled}
use Rattle.cell_nodes.specs.Constructed.{pruned_of}
use Rattle.cell_nodes.specs.Good.{IsGood, AllGood}
use Rattle.cell_nodes.specs.GoodParts.{all_good-head, all_good-tail}
use Rattle.cell_nodes.specs.HeldLaws.{AreBelow}
use Rattle.cell_nodes.specs.Tree.{deepest}
use Rattle.cell_nodes.specs.declared.tree.Hidden.{Hidden}
use Rattle.cell_nodes.specs.declared.tree.Mode.{Mode}
use Rattle.cell_nodes.specs.declared.tree.Tree.{Tree}
use Rattle.hashmap_labels.specs.Labels.{required_form, IsForm, IsLabel}
use Rattle.hashmap_labels.specs.SpellingLaws.{label_bits}
use Rattle.hashmap_labels.specs.declared.forms.LabelForm.{LabelForm}
use Rattle.hashmap_labels.specs.declared.forms.LabelForm.TheVariants.{Short, Long, Same}
use Rattle.hashmap_labels.specs.declared.forms.Forms.{Forms}
use Rattle.hashmap_labels.specs.declared.forms.Forms.TheVariants.{Required}
use Rattle.hashmap_tree.specs.Dict.{forms_of, unseen, DictTree, one, two, Branch, open_edge, hidden_edge}
use Rattle.hashmap_tree.specs.Entries.{Slice, cell_of, Part, leaf, hidden, Entries, under, fork}
use Rattle.hashmap_tree.specs.Exceeds.{Excess, first_key}
use Rattle.hashmap_tree.specs.OnceLaws.{Some_entry, some_below}
use Rattle.building.specs.Planting.{◌>>=◌, first_bit, in_form, labeled, Top, leaf_top, fork_top, content_of, has_deep, edge_of, with_bit, side, Planter, reported_below, cell_from, part_of, fork_of, sides_of, tops}
use Rattle.building_laws.specs.MoveLaws.{IsHeld, good_held, slice_eta, not_deep}

when_false : {A : Type 0} (b : Bool) (x y : A) → b ≡ false → cond b x y ≡ y
when_false true x y e = cc
when_false false x y e = refl

pub bind_to : {A B : Type 0} (r : Result A Excess) (f : A → Result B Excess) (a : A) (y : Result B Excess) → r ≡ Ok a
    → f a ≡ y → (r >>= f) ≡ y
bind_to r f a y e h = ap (λ z. z >>= f) e ∙ h

-- ---- labels

first_replicated : (bits : List ℕ) (b m : ℕ) → length bits ≡ suc m → bits ≡ replicate (length bits) b
    → b ≡ first_bit bits
first_replicated [] b m e c = absurd (omega (arith, e))
first_replicated (x ∷ bits) b m e c = sym (ap first_bit c)

form_is : (f : LabelForm) (k : ℕ) (bits s rest : List ℕ) → (f ≡ Same → (m : ℕ) × (length bits ≡ suc m))
    → IsForm f k bits s rest → s ≡ in_form f k bits rest
form_is Short k bits s rest h a = a
form_is Long k bits s rest h a = a
form_is Same k bits s rest h a =
    let m = h refl in
    a.2 ∙ ap (λ (x : ℕ). 1 ∷ (1 ∷ (x ∷ (spelled k (length bits) ++ rest)))) (first_replicated bits (bit_number a.0) m.0 m.1 a.1)

same_has_bits : (n : ℕ) (bits : List ℕ) → required_form n bits ≡ Same → (m : ℕ) × (length bits ≡ suc m)
same_has_bits n [] e = absurd (go (nat_lt (bit_length n) 0) e)
  where
    go : (b : Bool) → cond b Long Short ≡ Same → ⊥
    go true e = cc
    go false e = cc
same_has_bits n (x ∷ bits) e = (length bits, refl)

-- the label that stands there is the one in the required form
pub label_is : (mode : Mode) → forms_of mode ≡ Required → (n : ℕ) (bits s rest : List ℕ)
    → IsLabel (forms_of mode) n bits s rest → s ≡ labeled n bits rest
label_is mode w n bits s rest h =
    let Q : Forms → Type 0 = λ f. IsLabel f n bits s rest in
    let r : IsLabel Required n bits s rest = subst Q w h in
    let P : LabelForm → Type 0 = λ f. IsForm f (bit_length n) bits s rest in
    form_is (required_form n bits) (bit_length n) bits s rest (same_has_bits n bits) (subst P r.2 r.3)

form_more : (f : LabelForm) (k : ℕ) (bits c x : List ℕ) → in_form f k bits (c ++ x) ≡ in_form f k bits c ++ x
form_more Short k bits c x =
    let m = replicate (length bits) 1 in
    ap (λ (z : List ℕ). 0 ∷ z) (ap (λ (z : List ℕ). m ++ (0 ∷ z)) (sym (append_assoc bits c x)) ∙ sym (append_assoc m (0 ∷ (bits ++ c)) x))
form_more Long k bits c x =
    let m = spelled k (length bits) in
    ap (λ (z : List ℕ). 1 ∷ (0 ∷ z)) (ap (λ (z : List ℕ). m ++ z) (sym (append_assoc bits c x)) ∙ sym (append_assoc m (bits ++ c) x))
form_more Same k bits c x =
    let m = spelled k (length bits) in
    ap (λ (z : List ℕ). 1 ∷ (1 ∷ (first_bit bits ∷ z))) (sym (append_assoc m c x))

-- a label and what follows it
pub label_more : (n : ℕ) (bits c x : List ℕ) → labeled n bits (c ++ x) ≡ labeled n bits c ++ x
label_more n bits c x = form_more (required_form n bits) (bit_length n) bits c x

form_some : (f : LabelForm) (k : ℕ) (bits rest : List ℕ) → in_form f k bits rest ≡ [] → ⊥
form_some Short k bits rest e = cc
form_some Long k bits rest e = cc
form_some Same k bits rest e = cc

-- a label has bits
pub label_some : (n : ℕ) (bits rest : List ℕ) → labeled n bits rest ≡ [] → ⊥
label_some n bits rest e = form_some (required_form n bits) (bit_length n) bits rest e

-- ---- the sides of entries

with_same : (b : ℕ) (k : List ℕ) (x : Part) (es : Entries) → with_bit b (b ∷ k) x es ≡ (k, x) ∷ es
with_same b k x es = ap (λ t. cond {A = Entries} t ((k, x) ∷ es) es) (eq-eqb b b refl)

side_same : (b : ℕ) (es rest : Entries) → side b (under (b ∷ []) es ++ rest) ≡ es ++ side b rest
side_same b [] rest = refl
side_same b (e ∷ es) rest =
    with_same b e.0 e.1 (side b (under (b ∷ []) es ++ rest)) ∙ ap (λ (l : Entries). e ∷ l) (side_same b es rest)

side_zeros : (es rest : Entries) → side 1 (under (0 ∷ []) es ++ rest) ≡ side 1 rest
side_zeros [] rest = refl
side_zeros (e ∷ es) rest = side_zeros es rest

side_ones : (es rest : Entries) → side 0 (under (1 ∷ []) es ++ rest) ≡ side 0 rest
side_ones [] rest = refl
side_ones (e ∷ es) rest = side_ones es rest

pub side_zero : (zs os : Entries) → side 0 (under (0 ∷ []) zs ++ under (1 ∷ []) os) ≡ zs
side_zero zs os =
    side_same 0 zs (under (1 ∷ []) os)
    ∙ ap (λ (l : Entries). zs ++ l) (ap (side 0) (sym (append-nil (under (1 ∷ []) os))) ∙ side_ones os []) ∙ append-nil zs

pub side_one : (zs os : Entries) → side 1 (under (0 ∷ []) zs ++ under (1 ∷ []) os) ≡ os
side_one zs os =
    side_zeros zs (under (1 ∷ []) os)
    ∙ ap (side 1) (sym (append-nil (under (1 ∷ []) os))) ∙ side_same 1 os [] ∙ append-nil os

fork_cons : (b : ℕ) (p : List ℕ) (zs os : Entries) → fork (b ∷ p) zs os ≡ under (b ∷ []) (fork p zs os)
fork_cons b p zs os =
    (λ i. cons_under (p ++ 0 ∷ []) zs i ++ cons_under (p ++ 1 ∷ []) os i) ∙ sym (both (under (p ++ 0 ∷ []) zs) (under (p ++ 1 ∷ []) os))
  where
    cons_under : (q : List ℕ) (es : Entries) → under (b ∷ q) es ≡ under (b ∷ []) (under q es)
    cons_under q [] = refl
    cons_under q (e ∷ es) = ap (λ (l : Entries). (b ∷ (q ++ e.0), e.1) ∷ l) (cons_under q es)

    both : (ds fs : Entries) → under (b ∷ []) (ds ++ fs) ≡ under (b ∷ []) ds ++ under (b ∷ []) fs
    both [] fs = refl
    both (d ∷ ds) fs = ap (λ (l : Entries). (b ∷ d.0, d.1) ∷ l) (both ds fs)

only_zeros : (es : Entries) → (side 0 (under (0 ∷ []) es) ≡ es) × (side 1 (under (0 ∷ []) es) ≡ [])
only_zeros es =
    let same : under (0 ∷ []) es ≡ under (0 ∷ []) es ++ under (1 ∷ []) [] = sym (append-nil (under (0 ∷ []) es)) in
    (ap (side 0) same ∙ side_zero es [], ap (side 1) same ∙ side_one es [])

only_ones : (es : Entries) → (side 0 (under (1 ∷ []) es) ≡ []) × (side 1 (under (1 ∷ []) es) ≡ es)
only_ones es = (side_zero [] es, side_one [] es)

-- ---- along a label

along_ones : (E : Planter) (m : ℕ) (l : List ℕ) (zs os : Entries) → zs ≡ [] → sides_of E m l zs os ≡ E (l ++ 1 ∷ []) os
along_ones E m l zs os e = ap (λ z. sides_of E m l z os) e

along_zeros : (E : Planter) (m : ℕ) (l : List ℕ) (zs os : Entries) → os ≡ [] → Some_entry zs
    → sides_of E m l zs os ≡ E (l ++ 0 ∷ []) zs
along_zeros E m l zs os e s =
    ap (λ o. sides_of E m l zs o) e
    ∙ ap (λ z. sides_of E m l z []) s.2 ∙ ap (E (l ++ 0 ∷ [])) (sym s.2)

both_sides : (E : Planter) (m : ℕ) (l : List ℕ) (zs os : Entries) → Some_entry zs → Some_entry os
    → sides_of E m l zs os ≡ fork_of E m l zs os
both_sides E m l zs os s t =
    (λ i. sides_of E m l (s.2 i) (t.2 i)) ∙ (λ i. fork_of E m l (sym s.2 i) (sym t.2 i))

-- one bit more, which all keys have
along_bit : (n b : ℕ) (l : List ℕ) (es : Entries) → IsBit b → Some_entry es
    → tops (suc n) l (under (b ∷ []) es) ≡ tops n (l ++ b ∷ []) es
along_bit n zero l es h s =
    let k = only_zeros es in
    let some : Some_entry (side 0 (under (0 ∷ []) es)) = (s.0, s.1, k.0 ∙ s.2) in
    along_zeros (tops n) n l (side 0 (under (0 ∷ []) es)) (side 1 (under (0 ∷ []) es)) k.1 some
    ∙ ap (tops n (l ++ 0 ∷ [])) k.0
along_bit n (suc zero) l es h s =
    let k = only_ones es in
    along_ones (tops n) n l (side 0 (under (1 ∷ []) es)) (side 1 (under (1 ∷ []) es)) k.0 ∙ ap (tops n (l ++ 1 ∷ [])) k.1
along_bit n (suc (suc b)) l es h s = absurd (omega (arith, h))

-- along the key of a leaf
pub leaf_along : (k l : List ℕ) (c : Slice) → AreBits k → tops (length k) l ((k, leaf c) ∷ []) ≡ Ok (leaf_top (l ++ k) c)
leaf_along [] l c h = ap (λ (z : List ℕ). Ok (leaf_top z c)) (sym (append-nil l))
leaf_along (b ∷ k) l c h =
    along_bit (length k) b l ((k, leaf c) ∷ []) h.0 ((k, leaf c), [], refl)
    ∙ leaf_along k (l ++ b ∷ []) c h.1 ∙ ap (λ (z : List ℕ). Ok (leaf_top z c)) (append_assoc l (b ∷ []) k)

some_fork : (p : List ℕ) (zs os : Entries) → Some_entry zs → Some_entry (fork p zs os)
some_fork p zs os s =
    ((p ++ 0 ∷ [] ++ s.0.0, s.0.1), under (p ++ 0 ∷ []) s.1 ++ under (p ++ 1 ∷ []) os, ap (λ (l : Entries). under (p ++ 0 ∷ []) l ++ under (p ++ 1 ∷ []) os) s.2)

-- along the label of a fork
pub fork_along : (p l : List ℕ) (m : ℕ) (zs os : Entries) → AreBits p → Some_entry zs → Some_entry os
    → tops (length p + suc m) l (fork p zs os) ≡ fork_of (tops m) m (l ++ p) zs os
fork_along [] l m zs os h s t =
    let n : 0 + suc m ≡ suc m = omega arith in
    ap (λ k. tops k l (fork [] zs os)) n
    ∙ (λ i. sides_of (tops m) m l (side_zero zs os i) (side_one zs os i))
    ∙ both_sides (tops m) m l zs os s t ∙ ap (λ (z : List ℕ). fork_of (tops m) m z zs os) (sym (append-nil l))
fork_along (b ∷ p) l m zs os h s t =
    let n : suc (length p) + suc m ≡ suc (length p + suc m) = omega arith in
    ap (λ k. tops k l (fork (b ∷ p) zs os)) n
    ∙ ap (tops (suc (length p + suc m)) l) (fork_cons b p zs os)
    ∙ along_bit (length p + suc m) b l (fork p zs os) h.0 (some_fork p zs os s)
    ∙ fork_along p (l ++ b ∷ []) m zs os h.1 s t
    ∙ ap (λ (z : List ℕ). fork_of (tops m) m z zs os) (append_assoc l (b ∷ []) p)

-- ---- the parts of a tree

-- an edge below that is no hidden part
pub part_open : (E : Planter) (m : ℕ) (es : Entries) → ((h : Hidden) (fs : Entries) → es ≡ ([], hidden h) ∷ fs → ⊥)
    → part_of E m es ≡ cell_from m es (E [] es)
part_open E m [] h = refl
part_open E m (([], hidden x) ∷ es) h = absurd (h x es refl)
part_open E m (([], leaf c) ∷ es) h = refl
part_open E m ((b ∷ k, x) ∷ es) h = refl

is_leaf : Part → Bool
is_leaf (leaf c) = true
is_leaf (hidden h) = false

first_part : Entries → Bool
first_part [] = true
first_part (e ∷ es) = is_leaf e.1

-- a tree begins with no hidden part at its own end
pub not_hidden : (mode : Mode) (n : ℕ) (es : Entries) (s : Slice) → DictTree mode n es s → (h : Hidden) (fs : Entries)
    → es ≡ ([], hidden h) ∷ fs → ⊥
unfolding first_part is_leaf
not_hidden mode n es s (one _ _ _ _ k c e l f g) h fs i =
    let t : true ≡ false = ap first_part (sym e ∙ i) in cc
not_hidden mode n es s (two _ _ _ _ p m zs os z o e l f g x y) h fs i =
    longer p (some_below mode m zs z x).0.0 (ap first_key (sym (ap (λ (l : Entries). fork p l os) (some_below mode m zs z x).2) ∙ sym e ∙ i))
  where
    longer : (p k : List ℕ) → (p ++ 0 ∷ []) ++ k ≡ [] → ⊥
    longer [] k e = cc
    longer (b ∷ p) k e = cc

pub edge_on : (n : ℕ) (key : List ℕ) (top : Top) → length (content_of n top).bits ≤ 1023 → has_deep top ≡ false
    → edge_of n key top ≡ Ok (content_of n top)
edge_on n key top short flat =
    when_false (nat_lt 1023 (length (content_of n top).bits)) _ _ (le-ltb 1023 (length (content_of n top).bits) short)
    ∙ when_false (has_deep top) _ _ flat

cell_on : (m : ℕ) (es : Entries) (r : Result Top Excess) (top : Top) (s : Slice) → r ≡ Ok top
    → edge_of m (first_key es) top ≡ Ok s → cell_from m es r ≡ Ok (cell_of s)
cell_on m es r top s e f =
    bind_to r _ top (Ok (cell_of s)) e (bind_to (edge_of m (first_key es) top) _ s (Ok (cell_of s)) f refl)

-- each hidden part is hidden by one good cell alone, the pruned branch of its hash and depth
abbrev pub AreHashed : Mode → Entries → Type 0
AreHashed mode [] = Unit {0}
AreHashed mode ((k, leaf c) ∷ es) = AreHashed mode es
AreHashed mode ((k, hidden h) ∷ es) =
    ((c : Tree) → IsGood c → unseen mode c ≡ Some h → (c ≡ pruned_of h.hash h.depth) × (h.depth ≤ 1024)) × AreHashed mode es

pub hashed_before : (mode : Mode) (ds fs : Entries) → AreHashed mode (ds ++ fs) → AreHashed mode ds
hashed_before mode [] fs h = tt
hashed_before mode ((k, leaf c) ∷ ds) fs h = hashed_before mode ds fs h
hashed_before mode ((k, hidden x) ∷ ds) fs h = (h.0, hashed_before mode ds fs h.1)

pub hashed_after : (mode : Mode) (ds fs : Entries) → AreHashed mode (ds ++ fs) → AreHashed mode fs
hashed_after mode [] fs h = h
hashed_after mode ((k, leaf c) ∷ ds) fs h = hashed_after mode ds fs h
hashed_after mode ((k, hidden x) ∷ ds) fs h = hashed_after mode ds fs h.1

pub hashed_under : (mode : Mode) (p : List ℕ) (es : Entries) → AreHashed mode (under p es) → AreHashed mode es
hashed_under mode p [] h = tt
hashed_under mode p ((k, leaf c) ∷ es) h = hashed_under mode p es h
hashed_under mode p ((k, hidden x) ∷ es) h = (h.0, hashed_under mode p es h.1)

pub hashed_on : (mode : Mode) (es fs : Entries) → es ≡ fs → AreHashed mode es → AreHashed mode fs
hashed_on mode es fs e h = let P : Entries → Type 0 = λ l. AreHashed mode l in subst P e h

pub hashed_zeros : (mode : Mode) (p : List ℕ) (zs os : Entries) → AreHashed mode (fork p zs os) → AreHashed mode zs
hashed_zeros mode p zs os h =
    hashed_under mode (p ++ 0 ∷ []) zs (hashed_before mode (under (p ++ 0 ∷ []) zs) (under (p ++ 1 ∷ []) os) h)

pub hashed_ones : (mode : Mode) (p : List ℕ) (zs os : Entries) → AreHashed mode (fork p zs os) → AreHashed mode os
hashed_ones mode p zs os h =
    hashed_under mode (p ++ 1 ∷ []) os (hashed_after mode (under (p ++ 0 ∷ []) zs) (under (p ++ 1 ∷ []) os) h)

-- the two cells of a fork
pub good_both : (s : Slice) (z o : Tree) (ts : List Tree) → IsHeld s → s.refs ≡ z ∷ (o ∷ ts)
    → IsGood z × IsGood o × (deepest z < 1024) × (deepest o < 1024)
good_both s z o ts held e =
    let G : List Tree → Type 0 = AllGood in
    let B : List Tree → Type 0 = AreBelow in
    let below = subst B e held.within.below in
    parts (subst G e held.within.good) below.0 below.1.0
  where
    parts : AllGood (z ∷ (o ∷ ts)) → deepest z < 1024 → deepest o < 1024
        → IsGood z × IsGood o × (deepest z < 1024) × (deepest o < 1024)
    parts g x y = (all_good-head z (o ∷ ts) g, all_good-head o ts (all_good-tail z (o ∷ ts) g), x, y)

label_key : (mode : Mode) (n : ℕ) (bits s rest : List ℕ) → IsLabel (forms_of mode) n bits s rest → AreBits s
    → AreBits bits
label_key mode n bits s rest h a = ((label_bits (forms_of mode) n bits s rest h).0 a).0

-- what a tree has as its parts, and that its content is theirs
pub record IsPlanted (n : ℕ) (es : Entries) (s : Slice) : Type 0 where
  pub top : Top
  pub tops_on : tops n [] es ≡ Ok top
  pub content : content_of n top ≡ s
  pub flat : has_deep top ≡ false

pub planted_edge : (n : ℕ) (key : List ℕ) (es : Entries) (s : Slice) (d : IsPlanted n es s) → length s.bits ≤ 1023
    → edge_of n key d.top ≡ Ok s
planted_edge n key es s d short =
    let P : Slice → Type 0 = λ c. length c.bits ≤ 1023 in
    edge_on n key d.top (subst P (sym d.content) short) d.flat ∙ ap Ok d.content

pub fork_on : (m : ℕ) (p : List ℕ) (zs os : Entries) (z o : Tree) → part_of (tops m) m zs ≡ Ok z
    → part_of (tops m) m os ≡ Ok o → fork_of (tops m) m p zs os ≡ Ok (fork_top p z o)
fork_on m p zs os z o e f =
    bind_to (reported_below (p ++ 0 ∷ []) (part_of (tops m) m zs)) _ z (Ok (fork_top p z o)) (ap (reported_below (p ++ 0 ∷ [])) e)
    (bind_to (reported_below (p ++ 1 ∷ []) (part_of (tops m) m os)) _ o (Ok (fork_top p z o)) (ap (reported_below (p ++ 1 ∷ [])) f) refl)

mutual
  pub tree_planted : (mode : Mode) → forms_of mode ≡ Required → (n : ℕ) (es : Entries) (s : Slice) → DictTree mode n es s
      → IsHeld s → AreHashed mode es → IsPlanted n es s
  tree_planted mode w n es s (one _ _ _ _ k c e l f g) held hashed = record {
    top = leaf_top k c;
    tops_on = ap (λ m. tops m [] es) (sym l) ∙ ap (tops (length k) []) e ∙ leaf_along k [] c (label_key mode n k s.bits c.bits f held.bits);
    content = slice_eta (content_of n (leaf_top k c)) s (sym (label_is mode w n k s.bits c.bits f)) (sym g);
    flat = refl;
  }
  tree_planted mode w n es s (two _ _ _ _ p m zs os z o e l f g x y) held hashed =
      let fine = good_both s z o [] held g in
      let all = hashed_on mode es (fork p zs os) e hashed in
      let bits = label_key mode n p s.bits [] f held.bits in
      let left = branch_planted mode w m zs z x fine.0 (hashed_zeros mode p zs os all) in
      let right = branch_planted mode w m os o y fine.1 (hashed_ones mode p zs os all) in record {
        top = fork_top p z o;
        tops_on = ap (λ k. tops k [] es) l ∙ ap (tops (length p + suc m) []) e ∙ fork_along p [] m zs os bits (some_below mode m zs z x) (some_below mode m os o y) ∙ fork_on m p zs os z o left right;
        content = slice_eta (content_of n (fork_top p z o)) s (sym (label_is mode w n p s.bits [] f)) (sym g);
        flat = λ i. not_deep z fine.2 i || not_deep o fine.3 i;
      }

  pub branch_planted : (mode : Mode) → forms_of mode ≡ Required → (m : ℕ) (es : Entries) (t : Tree) → Branch mode m es t
      → IsGood t → AreHashed mode es → part_of (tops m) m es ≡ Ok t
  branch_planted mode w m es t (open_edge _ _ _ _ c e d) fine hashed =
      let G : Tree → Type 0 = IsGood in
      let held = good_held c (subst G e fine) in
      let k = tree_planted mode w m es c d held hashed in
      part_open (tops m) m es (not_hidden mode m es c d)
      ∙ cell_on m es (tops m [] es) k.top c k.tops_on (planted_edge m (first_key es) es c k held.within.short) ∙ ap Ok (sym e)
  branch_planted mode w m es t (hidden_edge _ _ _ _ h u e) fine hashed =
      let k = (hashed_on mode es (([], hidden h) ∷ []) e hashed).0 t fine u in
      ap (part_of (tops m) m) e
      ∙ when_false (nat_lt 1024 h.depth) _ _ (le-ltb 1024 h.depth k.1) ∙ ap Ok (sym k.0)
