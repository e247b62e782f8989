-- What is known of a tree, from what is known of its children.
use Rattle.std.proofs.Common.{◌≡◌, ◌≢◌, ℕ, ◌+◌, ◌-◌, ◌≤◌, List, ◌∷◌, length, map, refl, ap, sym, subst, ◌∙◌, IsTrue, arith, zero, suc, get_or, Some, max}
use Rattle.bit_slice.specs.Bits.{AreBits}
use Rattle.cell_hash.specs.declared.ChildMark.{ChildMark}
use Rattle.cell_nodes.specs.declared.cell.Node.{Node}
use Rattle.cell_nodes.specs.declared.tree.Kind.{Kind}
use Rattle.cell_nodes.specs.declared.tree.Kind.TheVariants.{Ordinary, Pruned, Library, Proof, Update}
use Rattle.cell_nodes.specs.declared.tree.Tree.{Tree, out-Tree}
use Rattle.cell_nodes.specs.Equations.{marks-out, out-tree_of, mask-tree_of, marks-tree_of, depth-tree_of, unfolded-tree_of}
use Rattle.cell_nodes.specs.Good.{AllGood, IsGood}
use Rattle.cell_nodes.specs.GoodParts.{good-tree_of, good-depth}
use Rattle.cell_nodes.specs.HiddenParts.{hidden, hidden_by}
use Rattle.cell_nodes.specs.Kept.{IsKept, tree_in, marks_in}
use Rattle.cell_nodes.specs.Layout.{has_layout, stored_mask}
use Rattle.cell_nodes.specs.Levels.{levels, levels_in, set_bits}
use Rattle.std.proofs.lemmas.List.{length-map}
use Rattle.cell_nodes.specs.LevelsLaws.{at-levels_in, length-levels_in, set_bits-within, set_bits-zero}
use Rattle.cell_nodes.specs.MarksLaws.{mark-steady}
use Rattle.cell_nodes.specs.Tree.{tree_of, Marks, unfolded, total, capped, marks, marks_of, mark_at, mask, depth, hash, mask_of, depth_of, hash_of, deepest, IsShallow}

-- what the tree of a known kind hides
pub hidden-kind : (k l : Kind) (b : List ℕ) (cs : List Tree) (t : Tree) → tree_of k b cs ≡ t → k ≡ l → hidden_by l b (mask_of l b (map marks cs)) ≡ hidden t
hidden-kind k l b cs t e f = rw (← e, out-tree_of k b cs, mask-tree_of k b cs, f) refl

pub hidden-node : (l : Kind) (m n : Node) (t : Tree) → m ≡ n → tree_in n ≡ t → m.kind ≡ l → hidden_by l n.bits (mask_of l n.bits (map marks n.children.items)) ≡ hidden t
hidden-node l m n t e f g = hidden-kind n.kind l n.bits n.children.items t f (sym (ap (λ (x : Node). x.kind) e) ∙ g)

-- the depths in a list: the greatest decides whether the tree is shallow
pub deepest-kept : (k : Kind) (b : List ℕ) (cs : List Tree) (ds : List ℕ) → ds ≡ map (depth_of k b (map marks cs)) levels
    → deepest (tree_of k b cs) ≡ max (max (max (get_or ds 0 0) (get_or ds 1 0)) (get_or ds 2 0)) (get_or ds 3 0)
deepest-kept k b cs ds e =
    omega (
      arith,
      depth-tree_of k b cs 0,
      depth-tree_of k b cs 1,
      depth-tree_of k b cs 2,
      depth-tree_of k b cs 3,
      ap (λ (l : List ℕ). get_or l 0 0) e,
      ap (λ (l : List ℕ). get_or l 1 0) e,
      ap (λ (l : List ℕ). get_or l 2 0) e,
      ap (λ (l : List ℕ). get_or l 3 0) e,
    )

marks-made : {xs : List ChildMark} (m : ℕ) (k : Kind) (b : List ℕ) (cs : List Tree) → m ≡ mask_of k b (map marks cs)
    → xs ≡ map (λ i. mark_at i (marks_of k b (map marks cs))) (levels_in 3 m) → xs ≡ marks_in (tree_of k b cs)
marks-made m k b cs e s =
    s
    ∙ ap (λ (q : Marks). map (λ i. mark_at i q) (levels_in 3 m)) (sym (marks-tree_of k b cs))
    ∙ ap (λ (q : ℕ). map (λ i. mark_at i (marks (tree_of k b cs))) (levels_in 3 q)) (e ∙ sym (mask-tree_of k b cs))

-- a node that is made of what is known of its children is kept
pub node-kept : (n : Node) (k : Kind) (b : List ℕ) (cs : List Tree) → n.kind ≡ k → n.bits ≡ b → n.children.items ≡ cs
    → AreBits b → length b ≤ 1023 → length cs ≤ 4 → IsTrue (has_layout k b (length cs)) → AllGood cs → IsShallow (tree_of k b cs)
    → n.mask ≤ 7 → n.mask ≡ mask_of k b (map marks cs)
    → n.lowest ∷ n.above.items ≡ map (λ i. mark_at i (marks_of k b (map marks cs))) (levels_in 3 n.mask)
    → n.unfolded ≡ capped (1 + total (map unfolded cs))
    → IsKept n
node-kept n k b cs ek eb ec bits short few layout all low small m s u =
    let e : tree_in n ≡ tree_of k b cs = rw (ek, eb, ec) refl in
    record {
      good = rw e (good-tree_of k b cs bits short few layout low all);
      few = rw ec few;
      mask_bound = small;
      mask_kept = rw (e, mask-tree_of k b cs) m;
      marks_kept = rw e (marks-made n.mask k b cs m s);
      unfolded_kept = rw (e, unfolded-tree_of k b cs) u;
    }

-- what a node keeps for a level
pub mark-kept : (n : Node) (t : Tree) (i place : ℕ) (d : ChildMark) → IsKept n → tree_in n ≡ t → i ≤ 3 → place ≡ set_bits i n.mask
    → get_or (n.lowest ∷ n.above.items) place d ≡ mark_at i (marks t)
mark-kept n t i place d kept f h p =
    rw (p, kept.marks_kept, kept.mask_kept, f) (at-levels_in (λ l. mark_at l (marks t)) (mask t) d (mark-steady t) 3 i h)

pub above-length : (m n : Node) (i place : ℕ) → m ≡ n → IsKept n → i ≤ 3 → place ≡ set_bits i m.mask → place ≤ length n.above.items
above-length m n i place e kept h p =
    let l = ap length kept.marks_kept in
    let s = set_bits-within i 3 n.mask h in
    let q : place ≡ set_bits i n.mask = p ∙ ap (λ (x : Node). set_bits i x.mask) e in
    omega (
      arith,
      l,
      kept.mask_kept,
      length-map {A = ℕ} (levels_in 3 (mask (tree_in n))) (λ l'. mark_at l' (marks (tree_in n))),
      length-levels_in 3 (mask (tree_in n)),
      ap (set_bits 3) kept.mask_kept,
    )

-- what is kept for level 0, and for a level above it
pub mark-lowest : (m o n : Node) (t : Tree) (i place : ℕ) → m ≡ n → o ≡ n → IsKept n → tree_in n ≡ t → i ≤ 3 → place ≡ set_bits i m.mask → place ≡ 0
    → o.lowest ≡ mark_at i (marks t)
mark-lowest m o n t i place e f kept g h p z =
    ap (λ (x : Node). x.lowest) f
    ∙ mark-kept n t i 0 n.lowest kept g h (sym z ∙ p ∙ ap (λ (x : Node). set_bits i x.mask) e)

pub mark-above : (m o n : Node) (t : Tree) (i place : ℕ) (d : ChildMark) → m ≡ n → o ≡ n → IsKept n → tree_in n ≡ t → i ≤ 3 → place ≡ set_bits i m.mask → place ≢ 0
    → get_or o.above.items (place - 1) d ≡ mark_at i (marks t)
mark-above m o n t i zero d e f kept g h p z = absurd (z refl)
mark-above m o n t i (suc place) d e f kept g h p z =
    let q : suc place - 1 ≡ place = omega arith in
    ap (λ (x : Node). get_or x.above.items (suc place - 1) d) f
    ∙ ap (λ (j : ℕ). get_or n.above.items j d) q
    ∙ mark-kept n t i (suc place) d kept g h (p ∙ ap (λ (x : Node). set_bits i x.mask) e)

-- what a pruned branch of mask 1 stores are its hash and its depth at level 0
hidden-pruned : (b : List ℕ) (ms : List Marks) → stored_mask b ≡ 1
    → hidden_by Pruned b (stored_mask b) ≡ Some (record { hash = hash_of Pruned b ms 0; depth = depth_of Pruned b ms 0 })
unfolding set_bits
hidden-pruned b ms e = rw e refl

hidden-of : (k : Kind) (b : List ℕ) (ms : List Marks) → k ≡ Pruned → mask_of k b ms ≡ 1
    → hidden_by k b (mask_of k b ms) ≡ Some (record { hash = hash_of k b ms 0; depth = depth_of k b ms 0 })
hidden-of Ordinary b ms e m = cc
hidden-of Pruned b ms e m = hidden-pruned b ms m
hidden-of Library b ms e m = cc
hidden-of Proof b ms e m = cc
hidden-of Update b ms e m = cc

hidden-tree : (t : Tree) → (out-Tree t).kind ≡ Pruned → mask t ≡ 1 → hidden t ≡ Some (record { hash = hash t 0; depth = depth t 0 })
hidden-tree t k m =
    let o = marks-out t in
    let P : Marks → Type 0 = λ q. hidden_by (out-Tree t).kind (out-Tree t).bits q.mask ≡ Some (record { hash = q.hash 0; depth = q.depth 0 }) in
    subst P (sym o) (hidden-of (out-Tree t).kind (out-Tree t).bits (map marks (out-Tree t).children) k (sym (ap (λ (q : Marks). q.mask) o) ∙ m))

pub hidden-kept : (m o p n : Node) (t : Tree) → m ≡ n → o ≡ n → p ≡ n → IsKept n → tree_in n ≡ t → (out-Tree t).kind ≡ Pruned → m.mask ≡ 1
    → Some (record { hash = o.lowest.hash; depth = p.lowest.depth }) ≡ hidden t
hidden-kept m o p n t em eo ep kept f k one =
    let e : mask t ≡ 1 = sym (ap mask f) ∙ sym kept.mask_kept ∙ sym (ap (λ (x : Node). x.mask) em) ∙ one in
    let l : n.lowest ≡ mark_at 0 (marks t) = mark-lowest n n n t 0 0 refl refl kept f (omega arith) (sym (set_bits-zero n.mask)) refl in
    rw (eo, ep, l) (sym (hidden-tree t k e))

pub depth-bound : (t : Tree) (i : ℕ) (m : ChildMark) → IsGood t → i ≤ 3 → m ≡ mark_at i (marks t) → m.depth ≤ 1024
depth-bound t i m g h e = rw e (good-depth t i g h)

pub kind-of : (n : Node) (m : Node) (t : Tree) (k : Kind) → m ≡ n → tree_in n ≡ t → m.kind ≡ k → (out-Tree t).kind ≡ k
kind-of n m t k e f g = rw (← f, out-tree_of n.kind n.bits n.children.items) (sym (ap (λ (x : Node). x.kind) e) ∙ g)
