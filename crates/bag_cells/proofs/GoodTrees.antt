-- The cells of a bag that nothing refuses unfold to good trees.
use Rattle.std.proofs.Common.{◌≡◌, ◌∙◌, Bool, true, false, if◌then◌else◌, ℕ, ◌+◌, ◌-◌, ◌*◌, ◌/◌, ◌<◌, ◌≤◌, List, [], ◌∷◌, ◌++◌, length, length-append, refl, sym, subst, arith}
use Rattle.std.specs.Prelude.{Option, Some, None, IsTrue}
use Rattle.std.specs.Int.{trailing_zeros, w8}
use Rattle.bit_slice.specs.Bits.{AreBits}
use Rattle.bit_slice.specs.BitLists.{AreBits-bits_from, length-bits_from}
use Rattle.cell_nodes.specs.declared.tree.Kind.{Kind}
use Rattle.cell_nodes.specs.declared.tree.Kind.TheVariants.{Ordinary, Pruned, Library, Proof, Update}
use Rattle.cell_nodes.specs.declared.tree.Tree.{Tree}
use Rattle.cell_nodes.specs.Tree.{tree_of, IsShallow}
use Rattle.cell_nodes.specs.Layout.{has_layout, exotic_kind}
use Rattle.cell_nodes.specs.Good.{IsGood, AllGood, none as no_good, more as more_good}
use Rattle.cell_nodes.specs.GoodParts.{good-tree_of}
use Rattle.bag_cells.specs.Numbers.{AreBytes}
use Rattle.bag_cells.specs.Header.{cells, root}
use Rattle.bag_cells.specs.Cells.{second_descriptor, is_completed, is_exotic, last_byte, ref_count, ref_at, start}
use Rattle.bag_cells.specs.Trees.{bit_count, cell_bits, cell_kind, data_bytes}
use Rattle.bag_cells.specs.Unfolds.{Unfolds, cell, UnfoldEach, none, more}
use Rattle.bag_cells.specs.UnfoldsLaws.{unfolds_once}
use Rattle.bag_cells.specs.Bag.{BagHolds}
use Rattle.bag_cells.specs.ByUnfolding.{IsLaidOut, AreSoundFrom}
use Rattle.bag_cells.proofs.Unfolding.{go_forward, laid-at}
use Rattle.bag_cells.proofs.ByUnfolding.{accepted-laid, accepted-cells}
use Rattle.bag_cells.proofs.Held.{root-inside}
use Rattle.bag_cells.proofs.FormBytes.{raw-bytes}

-- ---- the parts of a cell

count_by : (descriptor lowest : ℕ) (part : Bool) → descriptor < 256 → (if part then 8 * (descriptor / 2) + (7 - lowest) else 8 * (descriptor / 2)) ≤ 1023
count_by descriptor lowest true h = omega arith
count_by descriptor lowest false h = omega arith

count-short : (raw : List ℕ) (place : ℕ) → AreBytes raw → bit_count raw place ≤ 1023
unfolding bit_count
count-short raw place bytes = count_by (second_descriptor raw place) (trailing_zeros w8 (last_byte raw place)) (is_completed raw place) (bytes (place + 1))

bits-are : (raw : List ℕ) (place : ℕ) → AreBits (cell_bits raw place)
unfolding cell_bits
bits-are raw place = AreBits-bits_from (data_bytes raw place) 0 (bit_count raw place)

bits-short : (raw : List ℕ) (place : ℕ) → AreBytes raw → length (cell_bits raw place) ≤ 1023
unfolding cell_bits
bits-short raw place bytes = omega (arith, length-bits_from (data_bytes raw place) 0 (bit_count raw place), count-short raw place bytes)

-- the first of four kinds whose test is passed
first_kind : Bool → Bool → Bool → Bool → Option Kind
first_kind p l q u = if p then Some Pruned else if l then Some Library else if q then Some Proof else if u then Some Update else None

test_of : Bool → Bool → Bool → Bool → Kind → Bool
test_of p l q u Ordinary = true
test_of p l q u Pruned = p
test_of p l q u Library = l
test_of p l q u Proof = q
test_of p l q u Update = u

kind-passes : (p l q u : Bool) (k : Kind) → first_kind p l q u ≡ Some k → test_of p l q u k ≡ true
unfolding first_kind test_of
kind-passes true l q u k h = let e : Pruned ≡ k = cc in subst (λ (x : Kind). test_of true l q u x ≡ true) e refl
kind-passes false true q u k h = let e : Library ≡ k = cc in subst (λ (x : Kind). test_of false true q u x ≡ true) e refl
kind-passes false false true u k h = let e : Proof ≡ k = cc in subst (λ (x : Kind). test_of false false true u x ≡ true) e refl
kind-passes false false false true k h = let e : Update ≡ k = cc in subst (λ (x : Kind). test_of false false false true x ≡ true) e refl
kind-passes false false false false k h = absurd (cc)

tests-are : (k : Kind) (b : List ℕ) (refs : ℕ) → test_of (has_layout Pruned b refs) (has_layout Library b refs) (has_layout Proof b refs) (has_layout Update b refs) k ≡ has_layout k b refs
unfolding test_of
tests-are Ordinary b refs = refl
tests-are Pruned b refs = refl
tests-are Library b refs = refl
tests-are Proof b refs = refl
tests-are Update b refs = refl

exotic-layout : (k : Kind) (b : List ℕ) (refs : ℕ) → exotic_kind b refs ≡ Some k → IsTrue (has_layout k b refs)
unfolding first_kind
exotic-layout k b refs h =
    sym (tests-are k b refs) ∙ kind-passes (has_layout Pruned b refs) (has_layout Library b refs) (has_layout Proof b refs) (has_layout Update b refs) k h

layout_by : (k : Kind) (b : List ℕ) (refs : ℕ) (exotic : Bool) → (if exotic then exotic_kind b refs else Some Ordinary) ≡ Some k → IsTrue (has_layout k b refs)
layout_by k b refs true h = exotic-layout k b refs h
layout_by k b refs false h = let e : Ordinary ≡ k = cc in subst (λ (x : Kind). IsTrue (has_layout x b refs)) e refl

layout-of : (raw : List ℕ) (place : ℕ) (k : Kind) → cell_kind raw place ≡ Some k → IsTrue (has_layout k (cell_bits raw place) (ref_count raw place))
unfolding cell_kind
layout-of raw place k h = layout_by k (cell_bits raw place) (ref_count raw place) (is_exotic raw place) h

-- ---- good trees

each-length : (raw : List ℕ) (place n : ℕ) (ts : List Tree) → UnfoldEach raw place n ts → length ts ≡ n
each-length raw place n ts (none place') = refl
each-length raw place n ts (more place' m before last each final) = omega (arith, length-append before (last ∷ []), each-length raw place m before each)

good-append : (ts : List Tree) (t : Tree) → AllGood ts → IsGood t → AllGood (ts ++ t ∷ [])
good-append [] t h g = more_good t [] g no_good
good-append (u ∷ us) t (more_good u' us' k h) g = more_good u (us ++ t ∷ []) k (good-append us t h g)

mutual
  good-cell : (raw : List ℕ) (i : ℕ) (t : Tree) → AreBytes raw → IsLaidOut raw → AreSoundFrom raw 0 → i < cells raw → Unfolds raw i t → IsGood t
  good-cell raw i t bytes laid sound l (cell i' k cs h each) =
      let place = start raw i in
      let s = sound i (omega arith) l in
      let made = tree_of k (cell_bits raw (start raw i)) cs in
      let shallow = subst (λ (u : Tree). IsShallow u) (unfolds_once raw i s.tree made s.unfolds (cell i k cs h each)) s.shallow in
      let count = each-length raw place (ref_count raw place) cs each in
      let few = (laid-at raw i (laid.cell_each i l)).few in
      let layout = subst (λ (n : ℕ). IsTrue (has_layout k (cell_bits raw (start raw i)) n)) (sym count) (layout-of raw place k h) in
      let forward = go_forward raw laid.cell_each in
      good-tree_of k (cell_bits raw place) cs (bits-are raw place) (bits-short raw place bytes) (omega (arith, count, few)) layout shallow
      (good-each raw place (ref_count raw place) cs bytes laid sound (λ j m. (forward i l j m).there) each)

  good-each : (raw : List ℕ) (place n : ℕ) (ts : List Tree) → AreBytes raw → IsLaidOut raw → AreSoundFrom raw 0
      → ((j : ℕ) → j < n → ref_at raw place j < cells raw) → UnfoldEach raw place n ts → AllGood ts
  good-each raw place n ts bytes laid sound there (none place') = no_good
  good-each raw place n ts bytes laid sound there (more place' m before last each final) =
      good-append before last
      (good-each raw place m before bytes laid sound (λ j l. there j (omega arith)) each)
      (good-cell raw (ref_at raw place m) last bytes laid sound (there m (omega arith)) final)

-- what a file of bytes holds is good
pub held-good : (file : List ℕ) (t : Tree) → AreBytes file → BagHolds file t → IsGood t
held-good file t bytes h =
    let laid = accepted-laid h.raw h.accepted in
    good-cell h.raw (root h.raw) t (raw-bytes file h.raw bytes h.form) laid (accepted-cells h.raw h.accepted) (root-inside h.raw laid.header) h.unfolded
