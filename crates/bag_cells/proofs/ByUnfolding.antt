-- The refusals of cells by the trees of the list, and by their unfoldings.
use Rattle.std.proofs.Common.{◌≡◌, ◌≢◌, ◌∙◌, ◌⊎◌, inl, inr, Bool, true, false, if◌then◌else◌, ℕ, zero, suc, ◌+◌, ◌-◌, ◌<◌, ◌≤◌, List, [], ◌∷◌, refl, sym, ap, subst, ⊎_elim, arith}
use Rattle.std.specs.Prelude.{Option, Some, None, ◌==◌, not, nat_lt}
use Rattle.std.proofs.lemmas.Bool.{cases_lt, eq-eqb, ne_eqb, le-ltb}
use Rattle.std.proofs.lemmas.Bool.Decides.{nat_tests}
use Rattle.cell_nodes.specs.declared.tree.Kind.{Kind}
use Rattle.cell_nodes.specs.declared.tree.Tree.{Tree}
use Rattle.cell_nodes.specs.Tree.{mask, deepest, unfolded}
use Rattle.bag_cells.specs.First.{first_of, first_before, last_before}
use Rattle.bag_cells.specs.Header.{cells, root, header_refusal}
use Rattle.bag_cells.specs.Cells.{start, reported_mask, cell_refusal, left_refusal}
use Rattle.bag_cells.specs.Trees.{cell_kind, node_of, node, trees, refusal_of, node_refusal, root_tree, sprawl_of, sprawl_refusal}
use Rattle.bag_cells.specs.Unfolds.{Unfolds, cell}
use Rattle.bag_cells.specs.UnfoldsLaws.{unfolds_once}
use Rattle.bag_cells.specs.Bag.{refusal}
use Rattle.bag_cells.specs.ByUnfolding.{IsLaidOut, IsSoundCell, AreSoundFrom, IsUnsoundCell, no_layout, other_mask, too_deep, IsFirstRefusal, by_header, by_cell, by_length, by_tree, by_size, IsAcceptedTree}
use Rattle.bag_cells.specs.declared.error.BagError.{BagError}
use Rattle.bag_cells.specs.declared.error.BagError.TheVariants.{BadExotic, BadMask, TooDeep, Sprawl}
use Rattle.bag_cells.proofs.Rows.{or_else-some, first_before-none, first_before-some, last_before-none, last_before-some}
use Rattle.bag_cells.proofs.Refusals.{refused_header, refused_cell, refused_left, refused_node, refused_sprawl, not_refused}
use Rattle.bag_cells.proofs.Picks.{refusal_before}
use Rattle.bag_cells.proofs.Nones.{first_before-each, last_before-each, trees-length, header_refusal-none, cell_refusals-none, left_refusal-none}
use Rattle.bag_cells.proofs.Unfolding.{GoForward, go_forward, LastAccepted, all-accepted, node-unfolds, trees_unfold, root-unfolds}
use Rattle.bag_cells.proofs.Held.{root-found, root-inside}
use Rattle.bag_cells.proofs.Sized.{raw_small}

-- ---- one cell

-- the cell before the last n ones, none of which is refused
record IsNext (raw : List ℕ) (i n : ℕ) : Type 0 where
  whole : i + 1 + n ≡ cells raw
  forward : GoForward raw
  each : LastAccepted raw n

tree-unfolds : (raw : List ℕ) (i n : ℕ) (t : Tree) → IsNext raw i n → node raw (start raw i) (trees raw n) ≡ Some t → Unfolds raw i t
tree-unfolds raw i n t k h =
    let most : n ≤ cells raw = omega (arith, k.whole) in
    node-unfolds raw i n (trees raw n) t k.forward (trees-length raw n most k.each) k.whole (trees_unfold raw n most k.forward k.each) h

node-none : (raw : List ℕ) (place : ℕ) (xs : List Tree) → cell_kind raw place ≡ None → node raw place xs ≡ None
unfolding node
node-none raw place xs h = rw h refl

kind_by : (raw : List ℕ) (place : ℕ) (xs : List Tree) (o : Option Kind) → node_of raw place xs o ≡ None → o ≡ None
kind_by raw place xs None h = refl
kind_by raw place xs (Some k) h = absurd (cc)

kind-none : (raw : List ℕ) (place : ℕ) (xs : List Tree) → node raw place xs ≡ None → cell_kind raw place ≡ None
unfolding node
kind-none raw place xs h = kind_by raw place xs (cell_kind raw place) h

has-kind : (raw : List ℕ) (i : ℕ) (t : Tree) → Unfolds raw i t → cell_kind raw (start raw i) ≡ None → ⊥
has-kind raw i t (cell i' k cs h each) e = let same : Some k ≡ None = sym h ∙ e in absurd (cc)

-- ---- the tests

not-deep : (n : ℕ) → nat_lt 1024 n ≡ false → n ≤ 1024
not-deep n h = grind (arith, nat_tests)

is-deep : (n : ℕ) → nat_lt 1024 n ≡ true → 1024 < n
is-deep n h = grind (arith, nat_tests)

deep-test : (n : ℕ) → 1024 < n → nat_lt 1024 n ≡ true
deep-test n h = grind (arith, nat_tests)

equal_by : (m n : ℕ) → (m == n) ≡ true → m ≡ n
equal_by m n h = grind (arith, nat_tests)

other_by : (m n : ℕ) → (m == n) ≡ false → m ≢ n
other_by m n h = grind (arith, nat_tests)

-- the test of a tree by its two parts
tested : ℕ → Bool → Bool → Option BagError
tested i same deep = if not same then Some (BadMask i) else if deep then Some (TooDeep i) else None

refusal-tested : (i reported : ℕ) (t : Tree) → refusal_of i reported (Some t) ≡ tested i (mask t == reported) (nat_lt 1024 (deepest t))
unfolding tested
refusal-tested i reported t = refl

tested-none : (i : ℕ) (same deep : Bool) → tested i same deep ≡ None → (same ≡ true) × (deep ≡ false)
unfolding tested
tested-none i true true h = absurd (cc)
tested-none i true false h = (refl, refl)
tested-none i false deep h = absurd (cc)

tested-some : (i : ℕ) (same deep : Bool) (e : BagError) → tested i same deep ≡ Some e
    → ((same ≡ false) × (e ≡ BadMask i)) ⊎ ((same ≡ true) × (deep ≡ true) × (e ≡ TooDeep i))
unfolding tested
tested-some i true true e h = inr (refl, refl, cc)
tested-some i true false e h = absurd (cc)
tested-some i false deep e h = inl (refl, cc)

accepted-of : (i reported : ℕ) (t : Tree) → mask t ≡ reported → deepest t ≤ 1024 → refusal_of i reported (Some t) ≡ None
accepted-of i reported t e l =
    let same : (mask t == reported) ≡ true = eq-eqb (mask t) reported e in
    let shallow : nat_lt 1024 (deepest t) ≡ false = le-ltb 1024 (deepest t) l in
    rw (same, shallow) refl

mask-of : (i reported : ℕ) (t : Tree) → mask t ≢ reported → refusal_of i reported (Some t) ≡ Some (BadMask i)
mask-of i reported t ne =
    let other : (mask t == reported) ≡ false = ne_eqb (mask t) reported ne in
    rw other refl

deep-of : (i reported : ℕ) (t : Tree) → mask t ≡ reported → 1024 < deepest t → refusal_of i reported (Some t) ≡ Some (TooDeep i)
deep-of i reported t e l =
    let same : (mask t == reported) ≡ true = eq-eqb (mask t) reported e in
    rw (same, deep-test (deepest t) l) refl

-- ---- from the list to the unfolding

sound_by : (raw : List ℕ) (i n : ℕ) (o : Option Tree) → IsNext raw i n → node raw (start raw i) (trees raw n) ≡ o
    → refusal_of i (reported_mask raw (start raw i)) o ≡ None → IsSoundCell raw i
sound_by raw i n None k e h = absurd (cc)
sound_by raw i n (Some t) k e h =
    let parts = tested-none i (mask t == reported_mask raw (start raw i)) (nat_lt 1024 (deepest t))
    (sym (refusal-tested i (reported_mask raw (start raw i)) t) ∙ h) in
    record {
      tree = t;
      unfolds = tree-unfolds raw i n t k e;
      mask_is = equal_by (mask t) (reported_mask raw (start raw i)) parts.0;
      shallow = not-deep (deepest t) parts.1;
    }

cell-sound : (raw : List ℕ) (i n : ℕ) → IsNext raw i n → node_refusal raw i ≡ None → IsSoundCell raw i
cell-sound raw i n k h = sound_by raw i n (node raw (start raw i) (trees raw n)) k refl (sym (refusal_before raw i n k.whole) ∙ h)

unsound_by : (raw : List ℕ) (i n : ℕ) (o : Option Tree) (e : BagError) → IsNext raw i n → node raw (start raw i) (trees raw n) ≡ o
    → refusal_of i (reported_mask raw (start raw i)) o ≡ Some e → IsUnsoundCell raw i e
unsound_by raw i n None e k g h =
    let is : e ≡ BadExotic i = cc in
    no_layout is (kind-none raw (start raw i) (trees raw n) g)
unsound_by raw i n (Some t) e k g h =
    let reported = reported_mask raw (start raw i) in
    let unfolds = tree-unfolds raw i n t k g in
    elim (tested-some i (mask t == reported) (nat_lt 1024 (deepest t)) e (sym (refusal-tested i reported t) ∙ h)) [
      | inl m ↦ other_mask t m.1 unfolds (other_by (mask t) reported m.0)
      | inr d ↦ too_deep t d.2 unfolds (equal_by (mask t) reported d.0) (is-deep (deepest t) d.1)
    ]

cell-unsound : (raw : List ℕ) (i n : ℕ) (e : BagError) → IsNext raw i n → node_refusal raw i ≡ Some e → IsUnsoundCell raw i e
cell-unsound raw i n e k h = unsound_by raw i n (node raw (start raw i) (trees raw n)) e k refl (sym (refusal_before raw i n k.whole) ∙ h)

-- ---- from the unfolding to the list

-- the cell that unfolds to a tree has that tree in the list
in_list_by : (raw : List ℕ) (i n : ℕ) (o : Option Tree) (t : Tree) → IsNext raw i n → node raw (start raw i) (trees raw n) ≡ o → Unfolds raw i t → o ≡ Some t
in_list_by raw i n None t k e h = absurd (has-kind raw i t h (kind-none raw (start raw i) (trees raw n) e))
in_list_by raw i n (Some u) t k e h = ap (λ (x : Tree). Some x) (unfolds_once raw i u t (tree-unfolds raw i n u k e) h)

by-tree : (raw : List ℕ) (i n : ℕ) (t : Tree) → IsNext raw i n → Unfolds raw i t → node_refusal raw i ≡ refusal_of i (reported_mask raw (start raw i)) (Some t)
by-tree raw i n t k h =
    refusal_before raw i n k.whole
    ∙ ap (λ (o : Option Tree). refusal_of i (reported_mask raw (start raw i)) o) (in_list_by raw i n (node raw (start raw i) (trees raw n)) t k refl h)

sound-cell : (raw : List ℕ) (i n : ℕ) → IsNext raw i n → IsSoundCell raw i → node_refusal raw i ≡ None
sound-cell raw i n k s = by-tree raw i n s.tree k s.unfolds ∙ accepted-of i (reported_mask raw (start raw i)) s.tree s.mask_is s.shallow

unsound-cell : (raw : List ℕ) (i n : ℕ) (e : BagError) → IsNext raw i n → IsUnsoundCell raw i e → node_refusal raw i ≡ Some e
unsound-cell raw i n e k (no_layout is h) =
    refusal_before raw i n k.whole
    ∙ ap (λ (o : Option Tree). refusal_of i (reported_mask raw (start raw i)) o) (node-none raw (start raw i) (trees raw n) h)
    ∙ ap (λ (x : BagError). Some x) (sym is)
unsound-cell raw i n e k (other_mask t is h ne) =
    by-tree raw i n t k h ∙ mask-of i (reported_mask raw (start raw i)) t ne ∙ ap (λ (x : BagError). Some x) (sym is)
unsound-cell raw i n e k (too_deep t is h same l) =
    by-tree raw i n t k h ∙ deep-of i (reported_mask raw (start raw i)) t same l ∙ ap (λ (x : BagError). Some x) (sym is)

-- ---- all cells

accepted-sound : (raw : List ℕ) (n m : ℕ) → GoForward raw → LastAccepted raw n → cells raw ≤ m + n → AreSoundFrom raw m
accepted-sound raw n m forward each h j l k =
    let next : IsNext raw j (cells raw - 1 - j) = record {
      whole = omega arith;
      forward = forward;
      each = λ i p q. each i (omega arith) q;
    } in
    cell-sound raw j (cells raw - 1 - j) next (each j (omega arith) k)

sound-accepted : (raw : List ℕ) (n m : ℕ) → m + n ≡ cells raw → GoForward raw → AreSoundFrom raw m → LastAccepted raw n
sound-accepted raw zero m h forward sound j l k = absurd (omega arith)
sound-accepted raw (suc n) m h forward sound j l k =
    let fewer : LastAccepted raw n = sound-accepted raw n (suc m) (omega arith) forward (λ i p q. sound i (omega arith) q) in
    ⊎_elim
    (λ (p : j < suc m).
    let next : IsNext raw j n = record { whole = omega arith; forward = forward; each = fewer } in
    sound-cell raw j n next (sound j (omega arith) k))
    (λ (p : suc m ≤ j). fewer j (omega arith) k)
    (cases_lt j (suc m))

-- ---- all rows

forward-laid : (raw : List ℕ) → IsLaidOut raw → GoForward raw
forward-laid raw l = go_forward raw l.cell_each

next-to : (raw : List ℕ) (i : ℕ) → i < cells raw → GoForward raw → LastAccepted raw (cells raw - 1 - i) → IsNext raw i (cells raw - 1 - i)
next-to raw i l forward each = record { whole = omega arith; forward = forward; each = each }

rows-after : (raw : List ℕ) (i : ℕ) → i < cells raw → ((j : ℕ) → i < j → j < cells raw → node_refusal raw j ≡ None) → LastAccepted raw (cells raw - 1 - i)
rows-after raw i l after j p q = after j (omega arith) q

laid-out : (raw : List ℕ) → header_refusal raw ≡ None → first_before (cell_refusal raw) (cells raw) ≡ None → left_refusal raw ≡ None → IsLaidOut raw
laid-out raw header each left = record {
  header = header;
  cell_each = λ i l. first_before-each (cell_refusal raw) (cells raw) i each l;
  whole = left;
}

tree-row : (raw : List ℕ) (e : BagError) → IsLaidOut raw → last_before (node_refusal raw) (cells raw) ≡ Some e → IsFirstRefusal raw e
tree-row raw e laid h =
    let last = last_before-some (node_refusal raw) (cells raw) e h in
    let forward = forward-laid raw laid in
    let each = rows-after raw last.i last.within last.after in
    by_tree last.i laid last.within
    (accepted-sound raw (cells raw - 1 - last.i) (suc last.i) forward each (omega (arith, last.within)))
    (cell-unsound raw last.i (cells raw - 1 - last.i) e (next-to raw last.i last.within forward each) last.found)

sprawl_by : (t : Tree) (b : Bool) (e : BagError) → nat_lt 262144 (unfolded t) ≡ b → (if b then Some Sprawl else None) ≡ Some e → (262144 < unfolded t) × (e ≡ Sprawl)
sprawl_by t true e g h = (large (unfolded t) g, cc)
  where
    large : (n : ℕ) → nat_lt 262144 n ≡ true → 262144 < n
    large n h = grind (arith, nat_tests)
sprawl_by t false e g h = absurd (cc)

sprawl-some : (raw : List ℕ) (t : Tree) (e : BagError) → root_tree raw ≡ Some t → sprawl_refusal raw ≡ Some e → (262144 < unfolded t) × (e ≡ Sprawl)
unfolding sprawl_refusal
sprawl-some raw t e g h =
    let k : sprawl_of (Some t) ≡ Some e = subst (λ (o : Option Tree). sprawl_of o ≡ Some e) g h in
    sprawl_by t (nat_lt 262144 (unfolded t)) e refl k

size-row : (raw : List ℕ) (e : BagError) → IsLaidOut raw → last_before (node_refusal raw) (cells raw) ≡ None → sprawl_refusal raw ≡ Some e → IsFirstRefusal raw e
size-row raw e laid rows h =
    let forward = forward-laid raw laid in
    let each : LastAccepted raw (cells raw) = λ j p q. last_before-each (node_refusal raw) (cells raw) j rows q in
    let within = root-inside raw laid.header in
    let found = root-found raw within each in
    let large = sprawl-some raw found.0 e found.1 h in
    by_size found.0 laid (accepted-sound raw (cells raw) 0 forward each (omega arith)) (root-unfolds raw found.0 within forward each found.1) large.0 large.1

trees-row : (raw : List ℕ) (e : BagError) → IsLaidOut raw → first_of (last_before (node_refusal raw) (cells raw) ∷ sprawl_refusal raw ∷ []) ≡ Some e → IsFirstRefusal raw e
trees-row raw e laid h = elim (or_else-some (last_before (node_refusal raw) (cells raw)) (first_of (sprawl_refusal raw ∷ [])) e h) [
  | inl row ↦ tree-row raw e laid row
  | inr rest ↦ elim (or_else-some (sprawl_refusal raw) None e rest.1) [
    | inl row ↦ size-row raw e laid rest.0 row
    | inr none ↦ absurd (cc (none.1))
  ]
]

length-row : (raw : List ℕ) (e : BagError) → header_refusal raw ≡ None → first_before (cell_refusal raw) (cells raw) ≡ None
    → first_of (left_refusal raw ∷ last_before (node_refusal raw) (cells raw) ∷ sprawl_refusal raw ∷ []) ≡ Some e → IsFirstRefusal raw e
length-row raw e header each h =
    elim (or_else-some (left_refusal raw) (first_of (last_before (node_refusal raw) (cells raw) ∷ sprawl_refusal raw ∷ [])) e h) [
      | inl row ↦ by_length header (λ j l. first_before-each (cell_refusal raw) (cells raw) j each l) row
      | inr rest ↦ trees-row raw e (laid-out raw header each rest.0) rest.1
    ]

cell-row : (raw : List ℕ) (e : BagError) → header_refusal raw ≡ None
    → first_of (first_before (cell_refusal raw) (cells raw) ∷ left_refusal raw ∷ last_before (node_refusal raw) (cells raw) ∷ sprawl_refusal raw ∷ []) ≡ Some e
    → IsFirstRefusal raw e
cell-row raw e header h =
    elim (or_else-some (first_before (cell_refusal raw) (cells raw))
    (first_of (left_refusal raw ∷ last_before (node_refusal raw) (cells raw) ∷ sprawl_refusal raw ∷ [])) e h) [
      | inl row ↦
          let first = first_before-some (cell_refusal raw) (cells raw) e row in
          by_cell first.i header first.within first.before first.found
      | inr rest ↦ length-row raw e header rest.0 rest.1
    ]

-- a refusal is the first that the unfoldings give
pub first-refusal : (raw : List ℕ) (e : BagError) → refusal raw ≡ Some e → IsFirstRefusal raw e
unfolding refusal
first-refusal raw e h =
    elim (or_else-some (header_refusal raw)
    (first_of (first_before (cell_refusal raw) (cells raw) ∷ left_refusal raw ∷ last_before (node_refusal raw) (cells raw) ∷ sprawl_refusal raw ∷ [])) e h) [
      | inl row ↦ by_header row
      | inr rest ↦ cell-row raw e rest.0 rest.1
    ]

sprawl-of : (raw : List ℕ) (t : Tree) → root_tree raw ≡ Some t → 262144 < unfolded t → sprawl_refusal raw ≡ Some Sprawl
unfolding sprawl_refusal
sprawl-of raw t h l = ap (λ (o : Option Tree). sprawl_of o) h ∙ large (unfolded t) l
  where
    large : (n : ℕ) → 262144 < n → (if nat_lt 262144 n then Some Sprawl else None) ≡ Some Sprawl
    large n h = grind (arith, nat_tests)

sprawl-not : (raw : List ℕ) (t : Tree) → root_tree raw ≡ Some t → unfolded t ≤ 262144 → sprawl_refusal raw ≡ None
unfolding sprawl_refusal
sprawl-not raw t h l =
    let few : nat_lt 262144 (unfolded t) ≡ false = le-ltb 262144 (unfolded t) l in
    ap (λ (o : Option Tree). sprawl_of o) h ∙ rw few refl

-- the tree of the root in the list is its unfolding
root-tree : (raw : List ℕ) (t : Tree) → IsLaidOut raw → LastAccepted raw (cells raw) → Unfolds raw (root raw) t → root_tree raw ≡ Some t
root-tree raw t laid each h =
    let within = root-inside raw laid.header in
    let found = root-found raw within each in
    found.1 ∙ ap (λ (u : Tree). Some u) (unfolds_once raw (root raw) found.0 t (root-unfolds raw found.0 within (forward-laid raw laid) each found.1) h)

-- the first that the unfoldings give is the refusal
pub refusal-first : (raw : List ℕ) (e : BagError) → IsFirstRefusal raw e → refusal raw ≡ Some e
refusal-first raw e (by_header h) = refused_header raw e h
refusal-first raw e (by_cell i header l before found) = refused_cell raw i e header l before found
refusal-first raw e (by_length header each left) = refused_left raw e header (first_before-none (cell_refusal raw) (cells raw) each) left
refusal-first raw e (by_tree i laid l sound unsound) =
    let forward = forward-laid raw laid in
    let each = sound-accepted raw (cells raw - 1 - i) (suc i) (omega arith) forward sound in
    refused_node raw i e laid.header (first_before-none (cell_refusal raw) (cells raw) laid.cell_each) laid.whole l
    (λ j p q. each j (omega arith) q)
    (unsound-cell raw i (cells raw - 1 - i) e (next-to raw i l forward each) unsound)
refusal-first raw e (by_size t laid sound h large is) =
    let each = sound-accepted raw (cells raw) 0 (omega arith) (forward-laid raw laid) sound in
    refused_sprawl raw e laid.header (first_before-none (cell_refusal raw) (cells raw) laid.cell_each) laid.whole
    (last_before-none (node_refusal raw) (cells raw) (λ j q. each j (omega arith) q))
    (sprawl-of raw t (root-tree raw t laid each h) large ∙ ap (λ (x : BagError). Some x) (sym is))

pub accepted-laid : (raw : List ℕ) → refusal raw ≡ None → IsLaidOut raw
accepted-laid raw h = laid-out raw (header_refusal-none raw h) (cell_refusals-none raw h) (left_refusal-none raw h)

pub accepted-cells : (raw : List ℕ) → refusal raw ≡ None → AreSoundFrom raw 0
accepted-cells raw h = accepted-sound raw (cells raw) 0 (forward-laid raw (accepted-laid raw h)) (all-accepted raw h) (omega arith)

-- bytes that nothing refuses are accepted by the unfoldings
pub accepted-tree : (raw : List ℕ) (t : Tree) → refusal raw ≡ None → Unfolds raw (root raw) t → IsAcceptedTree raw t
accepted-tree raw t h unfolds = record {
  laid_out = accepted-laid raw h;
  sound = accepted-cells raw h;
  unfolds = unfolds;
  small = raw_small raw t h unfolds;
}

-- and the other way round
pub tree-accepted : (raw : List ℕ) (t : Tree) → IsAcceptedTree raw t → refusal raw ≡ None
tree-accepted raw t a =
    let laid = a.laid_out in
    let each = sound-accepted raw (cells raw) 0 (omega arith) (forward-laid raw laid) a.sound in
    not_refused raw laid.header (first_before-none (cell_refusal raw) (cells raw) laid.cell_each) laid.whole
    (last_before-none (node_refusal raw) (cells raw) (λ j q. each j (omega arith) q))
    (sprawl-not raw t (root-tree raw t laid each a.unfolds) a.small)
