-- The bag that is written for a tree holds it.
use Rattle.std.proofs.Common.{◌≡◌, ◌≢◌, ◌∙◌, ℕ, zero, suc, ◌+◌, ◌-◌, ◌*◌, ◌%◌, ◌^◌, ◌<◌, ◌≤◌, Bool, true, false, List, [], ◌∷◌, ◌++◌, length, take, drop, reverse, slice_index, append_assoc, refl, ap, sym, subst, arith}
use Rattle.std.specs.Prelude.{Option, Some, None, Ok, slice_get, nat_lt, nat_le, ◌==◌, ◌&&◌}
use Rattle.std.specs.List.{flat_map}
use Rattle.std.proofs.lemmas.Bool.{eq-eqb, ne_eqb, le-ltb, lt-leb}
use Rattle.std.proofs.lemmas.List.{length-append, length-reverse, take_all}
use Rattle.cell_nodes.specs.declared.tree.Kind.{Kind}
use Rattle.cell_nodes.specs.declared.tree.Tree.{Tree, out-Tree}
use Rattle.cell_nodes.specs.Tree.{tree_of, mask, deepest, unfolded}
use Rattle.cell_nodes.specs.Equations.{tree_of-out}
use Rattle.cell_nodes.specs.Good.{IsSound, IsGood}
use Rattle.cell_nodes.specs.GoodParts.{good-sound}
use Rattle.bag_cells.specs.Form.{raw_of}
use Rattle.bag_cells.specs.Header.{size, cells, root, data_start, data_end, header_refusal}
use Rattle.bag_cells.specs.Cells.{ref_count, reported_mask, is_completed, last_byte, ref_at, cell_size, is_malformed, goes_back, refusal_at, cell_refusal, start}
use Rattle.bag_cells.specs.Trees.{picked, node_of, node, trees, refusal_of, node_refusal, root_tree, sprawl_of, sprawl_refusal}
use Rattle.bag_cells.specs.Bag.{refusal, BagHolds}
use Rattle.cell_pool.specs.Post.{stands, post}
use Rattle.cell_pool.specs.Post.{place as place_in}
use Rattle.cell_pool.specs.Listing.{AllStand}
use Rattle.bag_cells.specs.Written.{width_of, cell_bytes, cell_data, header_bytes, bag_over, bag_of}
use Rattle.bag_cells.proofs.Rows.{first_before-none, last_before-none}
use Rattle.bag_cells.proofs.Refusals.{not_refused}
use Rattle.bag_cells.proofs.Laid.{well, left_none}
use Rattle.bag_cells.specs.Unfolds.{Unfolds}
use Rattle.bag_cells.specs.Once.{ListsEachOnce}
use Rattle.bag_cells.proofs.Unfolding.{root_unfolds, made_unfolds}
use Rattle.bag_cells.proofs.Picks.{trees-more, refusal_before}
use Rattle.cell_pool.specs.PostLaws.{ordered-post}
use Rattle.cell_pool.specs.PlaceLaws.{some-at, take-some, stands-at, at-place}
use Rattle.cell_pool.specs.ReverseLaws.{place-reverse}
use Rattle.cell_pool.specs.OnceLaws.{post-good}
use Rattle.cell_pool.specs.GrowthLaws.{length-post}
use Rattle.bag_cells.proofs.Widths.{width-bound, width-fits}
use Rattle.bag_cells.proofs.Fields.{HasFields, HasEnds, fields, ends}
use Rattle.bag_cells.proofs.Completed.{last-used}
use Rattle.bag_cells.proofs.Reread.{IsPlaced, IsReread, reread, bits-reread, kind-reread, ref-reread, size-reread, length-cell}
use Rattle.bag_cells.proofs.Lists.{within, at-reverse, reverse-at, place-prefix, place-before, written-split, length-written, length-few, last-post, some-post}

-- the cells of the tree stand after the header
pub record IsBag (raw : List ℕ) (t : Tree) : Type 0 where
  pub head : List ℕ
  pub bytes_are : raw ≡ head ++ flat_map (cell_bytes (size raw) (reverse (post t))) (reverse (post t))
  pub start_is : data_start raw ≡ length head
  pub end_is : data_end raw ≡ length raw
  pub cells_are : cells raw ≡ length (post t)
  pub fits : length (post t) < 256 ^ size raw
  pub root_is : root raw ≡ 0
  pub header : header_refusal raw ≡ None
  pub good : IsGood t

-- ---- a cell and its subtree

pub sound-at : (t u : Tree) (i : ℕ) → IsGood t → slice_get (reverse (post t)) i ≡ Some u → IsSound u
sound-at t u i g h = good-sound u (post-good t u (length (post t) - 1 - i) g (at-reverse (post t) i u h))

placed-from : (raw : List ℕ) (t u : Tree) (i : ℕ) (b : IsBag raw t) → start raw i ≡ length b.head + length (flat_map (cell_bytes (size raw) (reverse (post t))) (take i (reverse (post t))))
    → slice_get (reverse (post t)) i ≡ Some u → IsPlaced raw (start raw i) (reverse (post t)) u
placed-from raw t u i b s h =
    let order = reverse (post t) in
    let f = cell_bytes (size raw) order in
    record {
      prefix = b.head ++ flat_map f (take i order);
      rest = flat_map f (drop (suc i) order);
      bytes_are =
          b.bytes_are
          ∙ ap (λ (l : List ℕ). b.head ++ l) (written-split f order i u h)
          ∙ sym (append_assoc b.head (flat_map f (take i order)) (f u ++ flat_map f (drop (suc i) order)));
      place_is = s ∙ sym (length-append b.head (flat_map f (take i order)));
    }

start-more : (raw : List ℕ) (i : ℕ) → start raw (suc i) ≡ start raw i + cell_size raw (start raw i)
unfolding start
start-more raw i = refl

start-none : (raw : List ℕ) → start raw 0 ≡ data_start raw
unfolding start
start-none raw = refl

start-at : (raw : List ℕ) (t : Tree) (i : ℕ) (b : IsBag raw t) → i ≤ length (post t)
    → start raw i ≡ length b.head + length (flat_map (cell_bytes (size raw) (reverse (post t))) (take i (reverse (post t))))
start-at raw t zero b l = start-none raw ∙ b.start_is ∙ omega arith
start-at raw t (suc i) b l =
    let order = reverse (post t) in
    let f = cell_bytes (size raw) order in
    let some = some-at order i (omega (arith, length-reverse (post t))) in
    let before = start-at raw t i b (omega arith) in
    let p = placed-from raw t some.0 i b before some.1 in
    let r = reread raw (start raw i) order some.0 (sound-at t some.0 i b.good some.1) p in
    omega (arith, start-more raw i, before, size-reread raw (start raw i) order some.0 r, length-written f order i some.0 some.1)

placed : (raw : List ℕ) (t u : Tree) (i : ℕ) → IsBag raw t → slice_get (reverse (post t)) i ≡ Some u → IsPlaced raw (start raw i) (reverse (post t)) u
placed raw t u i b h =
    placed-from raw t u i b (start-at raw t i b (omega (arith, within (reverse (post t)) i u h, length-reverse (post t)))) h

reread-at : (raw : List ℕ) (t u : Tree) (i : ℕ) → IsBag raw t → slice_get (reverse (post t)) i ≡ Some u → IsReread raw (start raw i) u
reread-at raw t u i b h = reread raw (start raw i) (reverse (post t)) u (sound-at t u i b.good h) (placed raw t u i b h)

start-end : (raw : List ℕ) (t : Tree) → IsBag raw t → start raw (cells raw) ≡ length raw
start-end raw t b =
    let order = reverse (post t) in
    let f = cell_bytes (size raw) order in
    let e : length raw ≡ length b.head + length (flat_map f order) = ap length b.bytes_are ∙ length-append b.head (flat_map f order) in
    let all : take (length (post t)) order ≡ order = take_all (length (post t)) order (omega (arith, length-reverse (post t))) in
    ap (λ (n : ℕ). start raw n) b.cells_are
    ∙ start-at raw t (length (post t)) b (omega arith)
    ∙ ap (λ (l : List Tree). length b.head + length (flat_map f l)) all
    ∙ sym e

-- ---- references

child-before : (ts us : List Tree) (j : ℕ) (c : Tree) → AllStand us ts → slice_get ts j ≡ Some c → stands us c ≡ true
child-before [] us j c h k = absurd (cc)
child-before (t ∷ ts) us zero c h k = let e : t ≡ c = cc in ap (λ (v : Tree). stands us v) (sym e) ∙ h.0
child-before (t ∷ ts) us (suc j) c h k = child-before ts us j c h.1 k

-- a child stands among the trees before it
before-at : (t u c : Tree) (i j : ℕ) → slice_get (reverse (post t)) i ≡ Some u → slice_get (out-Tree u).children j ≡ Some c → stands (take (length (post t) - 1 - i) (post t)) c ≡ true
before-at t u c i j h k =
    let n = length (post t) - 1 - i in
    child-before (out-Tree u).children (take n (post t)) j c ((ordered-post t).before n u (at-reverse (post t) i u h)) k

stands-prefix : (ts : List Tree) (k : ℕ) (c : Tree) → stands (take k ts) c ≡ true → stands ts c ≡ true
stands-prefix [] zero c h = absurd (cc)
stands-prefix [] (suc k) c h = absurd (cc)
stands-prefix (t ∷ ts) zero c h = absurd (cc)
stands-prefix (t ∷ ts) (suc k) c h = stands-at (t ∷ ts) (place_in (take (suc k) (t ∷ ts)) c) c (from_front (t ∷ ts) (suc k) (place_in (take (suc k) (t ∷ ts)) c) c (at-place (take (suc k) (t ∷ ts)) c h))
  where
    from_front : (ts : List Tree) (k i : ℕ) (c : Tree) → slice_get (take k ts) i ≡ Some c → slice_get ts i ≡ Some c
    from_front [] zero i c h = absurd (cc)
    from_front [] (suc k) i c h = absurd (cc)
    from_front (t ∷ ts) zero i c h = absurd (cc)
    from_front (t ∷ ts) (suc k) zero c h = h
    from_front (t ∷ ts) (suc k) (suc i) c h = from_front ts k i c h

-- where a child stands in the bag
index-at : (t u c : Tree) (i j : ℕ) → slice_get (reverse (post t)) i ≡ Some u → slice_get (out-Tree u).children j ≡ Some c
    → place_in (reverse (post t)) c ≡ length (post t) - 1 - place_in (post t) c
index-at t u c i j h k =
    place-reverse (post t) c (ordered-post t).distinct (stands-prefix (post t) (length (post t) - 1 - i) c (before-at t u c i j h k))

ref-at : (raw : List ℕ) (t u c : Tree) (i j : ℕ) → IsBag raw t → slice_get (reverse (post t)) i ≡ Some u → slice_get (out-Tree u).children j ≡ Some c
    → ref_at raw (start raw i) j ≡ length (post t) - 1 - place_in (post t) c
ref-at raw t u c i j b h k =
    let e = index-at t u c i j h k in
    let p = place-before (post t) (length (post t) - 1 - i) c (before-at t u c i j h k) in
    ref-reread raw (start raw i) (reverse (post t)) u j c (placed raw t u i b h) (reread-at raw t u i b h) k (omega (arith, b.fits)) ∙ e

-- ---- a cell by itself

forward : (raw : List ℕ) (t u : Tree) (i m : ℕ) → IsBag raw t → slice_get (reverse (post t)) i ≡ Some u → m ≤ length (out-Tree u).children → goes_back raw i (start raw i) m ≡ false
unfolding goes_back
forward raw t u i zero b h l = refl
forward raw t u i (suc m) b h l =
    let some = some-at (out-Tree u).children m (omega arith) in
    let e = ref-at raw t u some.0 i m b h some.1 in
    let p = place-before (post t) (length (post t) - 1 - i) some.0 (before-at t u some.0 i m h some.1) in
    let low : nat_le (ref_at raw (start raw i) m) i ≡ false = lt-leb (ref_at raw (start raw i) m) i (omega (arith, within (reverse (post t)) i u h, length-reverse (post t))) in
    let high : nat_le (cells raw) (ref_at raw (start raw i) m) ≡ false = lt-leb (cells raw) (ref_at raw (start raw i) m) (omega (arith, b.cells_are)) in
    let before = forward raw t u i m b h (omega arith) in
    rw (before, low, high) refl

not-malformed : (raw : List ℕ) (place : ℕ) → ref_count raw place ≤ 4 → place + cell_size raw place ≤ data_end raw → (is_completed raw place ≡ true → last_byte raw place % 128 ≢ 0) → is_malformed raw place ≡ false
not-malformed raw place few inside used =
    let a : nat_lt 4 (ref_count raw place) ≡ false = le-ltb 4 (ref_count raw place) few in
    let b : nat_lt (data_end raw) (place + cell_size raw place) ≡ false = le-ltb (data_end raw) (place + cell_size raw place) inside in
    let c : (is_completed raw place && (last_byte raw place % 128 == 0)) ≡ false = both (is_completed raw place) (last_byte raw place % 128) used in
    rw (a, b, c) refl
  where
    both : (x : Bool) (n : ℕ) → (x ≡ true → n ≢ 0) → (x && (n == 0)) ≡ false
    both true n h = ne_eqb n 0 (h refl)
    both false n h = refl

completed-part : (raw : List ℕ) (place : ℕ) (u : Tree) → IsReread raw place u → is_completed raw place ≡ true → length (out-Tree u).bits % 8 ≢ 0
completed-part raw place u r h e =
    let s : is_completed raw place ≡ false = ne_eqb _ 1 (not_one raw place u r e) in
    cc
  where
    not_one : (raw : List ℕ) (place : ℕ) (u : Tree) → IsReread raw place u → length (out-Tree u).bits % 8 ≡ 0 → slice_index raw (place + 1) % 2 ≢ 1
    not_one raw place u r e k = omega (arith, r.second_is)

cell-accepted : (raw : List ℕ) (t u : Tree) (i : ℕ) → IsBag raw t → slice_get (reverse (post t)) i ≡ Some u → refusal_at raw i (start raw i) ≡ None
cell-accepted raw t u i b h =
    let order = reverse (post t) in
    let place = start raw i in
    let sound = sound-at t u i b.good h in
    let p = placed raw t u i b h in
    let r = reread-at raw t u i b h in
    let s = size-reread raw place order u r in
    let f = cell_bytes (size raw) order u in
    let n : length raw ≡ length p.prefix + (length f + length p.rest) =
    ap length p.bytes_are ∙ length-append p.prefix (f ++ p.rest) ∙ ap (λ (x : ℕ). length p.prefix + x) (length-append f p.rest) in
    let l = length-cell (size raw) order u in
    let few : ref_count raw place ≤ 4 = omega (arith, r.refs_are, sound.few) in
    let inside : place + cell_size raw place ≤ data_end raw = omega (arith, p.place_is, b.end_is) in
    let begins : place < data_end raw = omega (arith, p.place_is, b.end_is) in
    let used : is_completed raw place ≡ true → last_byte raw place % 128 ≢ 0 =
    λ (c : is_completed raw place ≡ true).
    let part = completed-part raw place u r c in
    λ (z : last_byte raw place % 128 ≡ 0). last-used (out-Tree u).bits sound.bits part (sym (ap (λ (x : ℕ). x % 128) (r.last_is part)) ∙ z) in
    let back : goes_back raw i place (ref_count raw place) ≡ false =
    ap (λ (m : ℕ). goes_back raw i place m) r.refs_are ∙ forward raw t u i (length (out-Tree u).children) b h (omega arith) in
    (well raw i place begins r.no_hashes (not-malformed raw place few inside used) back).accepted

-- ---- the trees of the cells

picked-at : (raw : List ℕ) (t u : Tree) (i m : ℕ) → IsBag raw t → slice_get (reverse (post t)) i ≡ Some u → m ≤ length (out-Tree u).children
    → picked raw (start raw i) (take (length (post t) - 1 - i) (post t)) m ≡ take m (out-Tree u).children
unfolding picked
picked-at raw t u i zero b h l = refl
picked-at raw t u i (suc m) b h l =
    let k = length (post t) - 1 - i in
    let some = some-at (out-Tree u).children m (omega arith) in
    let c = some.0 in
    let e = ref-at raw t u c i m b h some.1 in
    let s = before-at t u c i m h some.1 in
    let p = place-before (post t) k c s in
    let q : cells raw - 1 - ref_at raw (start raw i) m ≡ place_in (take k (post t)) c = omega (arith, b.cells_are, place-prefix (post t) k c s) in
    let found : slice_get (take k (post t)) (cells raw - 1 - ref_at raw (start raw i) m) ≡ Some c =
    ap (λ (x : ℕ). slice_get (take k (post t)) x) q ∙ at-place (take k (post t)) c s in
    rw (found, picked-at raw t u i m b h (omega arith)) (sym (take-some (out-Tree u).children m c some.1))

node-at : (raw : List ℕ) (t u : Tree) (i : ℕ) → IsBag raw t → slice_get (reverse (post t)) i ≡ Some u → node raw (start raw i) (take (length (post t) - 1 - i) (post t)) ≡ Some u
unfolding node
node-at raw t u i b h =
    let later = take (length (post t) - 1 - i) (post t) in
    let cs = (out-Tree u).children in
    let sound = sound-at t u i b.good h in
    let r = reread-at raw t u i b h in
    let all : picked raw (start raw i) later (ref_count raw (start raw i)) ≡ cs =
    ap (λ (m : ℕ). picked raw (start raw i) later m) r.refs_are ∙ picked-at raw t u i (length cs) b h (omega arith) ∙ take_all (length cs) cs (omega arith) in
    ap (λ (k : Option Kind). node_of raw (start raw i) later k) (kind-reread raw (start raw i) u sound r)
    ∙ ap (λ (l : List ℕ). Some (tree_of (out-Tree u).kind l (picked raw (start raw i) later (ref_count raw (start raw i))))) (bits-reread raw (start raw i) u sound r)
    ∙ ap (λ (l : List Tree). Some (tree_of (out-Tree u).kind (out-Tree u).bits l)) all
    ∙ ap (λ (v : Tree). Some v) (tree_of-out u)

trees-none : (raw : List ℕ) → trees raw 0 ≡ []
unfolding trees
trees-none raw = refl

trees-at : (raw : List ℕ) (t : Tree) (k : ℕ) → IsBag raw t → k ≤ length (post t) → trees raw k ≡ take k (post t)
trees-at raw t zero b l = trees-none raw
trees-at raw t (suc k) b l =
    let some = some-at (post t) k (omega arith) in
    let u = some.0 in
    let i = length (post t) - 1 - k in
    let h = reverse-at (post t) k u some.1 in
    let e : cells raw - 1 - k ≡ i = omega (arith, b.cells_are) in
    let s : length (post t) - 1 - i ≡ k = omega arith in
    let before = trees-at raw t k b (omega arith) in
    let found : node raw (start raw (cells raw - 1 - k)) (trees raw k) ≡ Some u =
    ap (λ (j : ℕ). node raw (start raw j) (trees raw k)) e
    ∙ ap (λ (x : List Tree). node raw (start raw i) x) (before ∙ ap (λ (j : ℕ). take j (post t)) (sym s))
    ∙ node-at raw t u i b h in
    let more : suc k ≡ k + 1 = omega arith in
    ap (λ (j : ℕ). trees raw j) more
    ∙ trees-more raw k u found
    ∙ ap (λ (x : List Tree). x ++ u ∷ []) before
    ∙ sym (take-some (post t) k u some.1)

node-accepted : (i reported : ℕ) (u : Tree) → reported ≡ mask u → IsSound u → refusal_of i reported (Some u) ≡ None
node-accepted i reported u e sound =
    let same : (mask u == reported) ≡ true = eq-eqb (mask u) reported (sym e) in
    let deep : nat_lt 1024 (deepest u) ≡ false = le-ltb 1024 (deepest u) sound.shallow in
    rw (same, deep) refl

node-none : (raw : List ℕ) (t : Tree) (i : ℕ) → IsBag raw t → i < cells raw → node_refusal raw i ≡ None
node-none raw t i b l =
    let n = length (post t) in
    let k = n - 1 - i in
    let some = some-at (reverse (post t)) i (omega (arith, b.cells_are, length-reverse (post t))) in
    let u = some.0 in
    let r = reread-at raw t u i b some.1 in
    refusal_before raw i k (omega (arith, b.cells_are))
    ∙ ap (λ (x : List Tree). refusal_of i (reported_mask raw (start raw i)) (node raw (start raw i) x)) (trees-at raw t k b (omega (arith, b.cells_are)))
    ∙ ap (λ (o : Option Tree). refusal_of i (reported_mask raw (start raw i)) o) (node-at raw t u i b some.1)
    ∙ node-accepted i (reported_mask raw (start raw i)) u r.mask_is (sound-at t u i b.good some.1)

root-at : (raw : List ℕ) (t : Tree) → IsBag raw t → root_tree raw ≡ Some t
root-at raw t b =
    let n = length (post t) in
    let e : cells raw - 1 - root raw ≡ n - 1 = omega (arith, b.cells_are, b.root_is) in
    ap (λ (j : ℕ). slice_get (trees raw j) (cells raw - 1 - root raw)) b.cells_are
    ∙ ap (λ (x : List Tree). slice_get x (cells raw - 1 - root raw)) (trees-at raw t n b (omega arith) ∙ take_all n (post t) (omega arith))
    ∙ ap (λ (j : ℕ). slice_get (post t) j) e
    ∙ last-post t

sprawl-none : (raw : List ℕ) (t : Tree) → root_tree raw ≡ Some t → unfolded t ≤ 262144 → sprawl_refusal raw ≡ None
unfolding sprawl_refusal
sprawl-none raw t e l =
    let few : nat_lt 262144 (unfolded t) ≡ false = le-ltb 262144 (unfolded t) l in
    ap sprawl_of e ∙ rw few refl

-- ---- the whole bag

cell-none : (raw : List ℕ) (t : Tree) (i : ℕ) → IsBag raw t → i < cells raw → cell_refusal raw i ≡ None
cell-none raw t i b l =
    let some = some-at (reverse (post t)) i (omega (arith, b.cells_are, length-reverse (post t))) in
    cell-accepted raw t some.0 i b some.1

pub accepted : (raw : List ℕ) (t : Tree) → IsBag raw t → unfolded t ≤ 262144 → refusal raw ≡ None
accepted raw t b l =
    not_refused raw b.header
    (first_before-none (cell_refusal raw) (cells raw) (λ i k. cell-none raw t i b k))
    (left_none raw (start raw (cells raw)) refl (omega (arith, start-end raw t b, b.end_is)))
    (last_before-none (node_refusal raw) (cells raw) (λ i k. node-none raw t i b k))
    (sprawl-none raw t (root-at raw t b) l)

cell-short : (s : ℕ) (order : List Tree) (u : Tree) → s ≤ 4 → IsSound u → length (cell_bytes s order u) ≤ 146
cell-short s order u l sound =
    let a = length-cell s order u in
    let b = sound.few in
    let c = sound.short in
    let d : length (out-Tree u).children * s ≤ 16 = product (length (out-Tree u).children) s b l in
    omega arith
  where
    product : (r s : ℕ) → r ≤ 4 → s ≤ 4 → r * s ≤ 16
    product r s h k = grind arith

bag-is : (t : Tree) → IsGood t → unfolded t ≤ 262144 → IsBag (bag_of t) t
unfolding bag_over cell_data
bag-is t g l =
    let order = reverse (post t) in
    let n = length order in
    let w = width_of n in
    let raw = bag_of t in
    let content = cell_data w order in
    let count : n ≡ length (post t) = length-reverse (post t) in
    let some : 1 ≤ n = omega (arith, some-post t) in
    let few : n ≤ 262144 = omega (arith, length-post t) in
    let narrow : w ≤ 4 = width-bound n 4 (omega arith) (omega arith) in
    let short : length content ≤ n * 146 = length-few (cell_bytes w order) 146 order (λ i u h. cell-short w order u narrow (sound-at t u i g h)) in
    let small : width_of (length content) ≤ 8 = width-bound (length content) 8 (omega arith) (omega arith) in
    let f : HasFields raw n content = fields raw n content refl some narrow in
    let e : HasEnds raw n content = ends raw n content f some few narrow small in
    record {
      head = header_bytes n (length content);
      bytes_are = ap (λ (s : ℕ). header_bytes n (length content) ++ flat_map (cell_bytes s order) order) (sym f.size_is);
      start_is = omega (arith, e.start_is, length-append (header_bytes n (length content)) content);
      end_is = e.end_is;
      cells_are = f.cells_is ∙ count;
      fits = subst (λ (s : ℕ). length (post t) < 256 ^ s) (sym f.size_is) (subst (λ (m : ℕ). m < 256 ^ w) count (width-fits n));
      root_is = f.root_is;
      header = e.accepted;
      good = g;
    }

first-byte : (t : Tree) → slice_index (bag_of t) 0 ≡ 0xb5
unfolding bag_over header_bytes
first-byte t = refl

raw-by : (file : List ℕ) → slice_index file 0 ≡ 0xb5 → raw_of file ≡ Ok file
raw-by file h = rw h refl

-- the bag that is written for a good tree that is not too large holds the tree
pub bag-holds : (t : Tree) → IsGood t → unfolded t ≤ 262144 → BagHolds (bag_of t) t
bag-holds t g l =
    let b = bag-is t g l in
    let taken = accepted (bag_of t) t b l in
    record {
      raw = bag_of t;
      form = raw-by (bag_of t) (first-byte t);
      accepted = taken;
      unfolded = root_unfolds (bag_of t) t taken (root-at (bag_of t) t b);
    }

-- it has as many cells as the tree has distinct subtrees
pub cells-counted : (t : Tree) → IsGood t → unfolded t ≤ 262144 → cells (bag_of t) ≡ length (post t)
cells-counted t g l = let b = bag-is t g l in b.cells_are

-- and they unfold to these, from the last to the first
pub cells-unfold : (t u : Tree) (i : ℕ) → IsGood t → unfolded t ≤ 262144 → slice_get (reverse (post t)) i ≡ Some u → Unfolds (bag_of t) i u
cells-unfold t u i g l h =
    let raw = bag_of t in
    let b = bag-is t g l in
    let n = length (post t) in
    let found : slice_get (trees raw (cells raw)) (n - 1 - i) ≡ Some u =
    ap (λ (j : ℕ). slice_get (trees raw j) (n - 1 - i)) b.cells_are
    ∙ ap (λ (x : List Tree). slice_get x (n - 1 - i)) (trees-at raw t n b (omega arith) ∙ take_all n (post t) (omega arith))
    ∙ at-reverse (post t) i u h in
    let same : cells raw - 1 - (n - 1 - i) ≡ i = omega (arith, b.cells_are, within (reverse (post t)) i u h, length-reverse (post t)) in
    subst (λ (j : ℕ). Unfolds raw j u) same (made_unfolds raw (n - 1 - i) u (accepted raw t b l) found)

pub bag-once : (t : Tree) → IsGood t → unfolded t ≤ 262144 → ListsEachOnce (bag_of t) t
bag-once t g l = record { count = cells-counted t g l; cell_each = λ i u h. cells-unfold t u i g l h }
