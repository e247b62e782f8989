-- A hash and a depth are hidden by one cell.
use Rattle.std.proofs.Common.{◌≡◌, ℕ, zero, suc, ◌+◌, ◌*◌, ◌≤◌, Bool, true, false, cond, nat_eq, IsTrue, List, [], ◌∷◌, ◌++◌, length, take, drop, map, Option, Some, None, refl, sym, ap, ◌∙◌, subst, arith}
use Rattle.std.proofs.lemmas.Bool.{eqb-true}
use Rattle.std.proofs.lemmas.List.{take-append-drop, length-take-le, length-drop, drop_all, drop-drop}
use Rattle.std.proofs.Math.Seq.{take-add}
use Rattle.bit_slice.specs.BitLists.{AreBits-take, AreBits-drop, spelled-number_of}
use Rattle.bit_slice.specs.Bits.{AreBits, groups, number_of, spelled}
use Rattle.cell_nodes.specs.Equations.{tree_of-out, marks-out}
use Rattle.cell_nodes.specs.Good.{IsGood, good}
use Rattle.cell_nodes.specs.HiddenParts.{hidden_by}
use Rattle.cell_nodes.specs.Layout.{has_layout, pair_count, stored_depth, stored_hash, stored_mask}
use Rattle.cell_nodes.specs.LayoutLaws.{IsPrunedLayout, pruned_layout}
use Rattle.cell_nodes.specs.Tree.{Marks, tree_of, marks, mask, mask_of}
use Rattle.cell_nodes.specs.Levels.{set_bits}
use Rattle.cell_nodes.specs.declared.tree.Hidden.{Hidden}
use Rattle.cell_nodes.specs.declared.tree.Kind.{Kind}
use Rattle.cell_nodes.specs.declared.tree.Kind.TheVariants.{Ordinary, Pruned, Library, Proof, Update}
use Rattle.cell_nodes.specs.declared.tree.Mode.{Mode}
use Rattle.cell_nodes.specs.declared.tree.Mode.TheVariants.{Whole, Partial, Lax}
use Rattle.cell_nodes.specs.declared.tree.Tree.{Tree, out-Tree}
use Rattle.hashmap_tree.specs.Dict.{unseen}

-- ---- bits by the numbers of their parts

number-same : (n : ℕ) (a b : List ℕ) → AreBits a → AreBits b → n ≤ length a → n ≤ length b
    → number_of (take n a) ≡ number_of (take n b) → take n a ≡ take n b
number-same n a b ha hb la lb e =
    let p : length (take n a) ≡ n = length-take-le n a la in
    let q : length (take n b) ≡ n = length-take-le n b lb in
    sym (spelled-number_of (take n a) (AreBits-take n a ha))
    ∙ (λ i. spelled ((p ∙ sym q) i) (e i)) ∙ spelled-number_of (take n b) (AreBits-take n b hb)

first-group : List ℕ → ℕ
first-group [] = 0
first-group (x ∷ xs) = x

rest-groups : List ℕ → List ℕ
rest-groups [] = []
rest-groups (x ∷ xs) = xs

groups-same : (k : ℕ) (a b : List ℕ) → AreBits a → AreBits b → 8 * k ≤ length a → 8 * k ≤ length b
    → groups 8 k a ≡ groups 8 k b → take (8 * k) a ≡ take (8 * k) b
unfolding groups first-group rest-groups
groups-same zero a b ha hb la lb e = refl
groups-same (suc k) a b ha hb la lb e =
    let more : 8 * suc k ≡ 8 + 8 * k = omega arith in
    let first : take 8 a ≡ take 8 b = number-same 8 a b ha hb (omega (arith, la)) (omega (arith, lb)) (ap first-group e) in
    let da = length-drop 8 a in
    let db = length-drop 8 b in
    let rest : take (8 * k) (drop 8 a) ≡ take (8 * k) (drop 8 b) =
    groups-same k (drop 8 a) (drop 8 b) (AreBits-drop 8 a ha) (AreBits-drop 8 b hb) (omega (arith, la, da)) (omega (arith, lb, db)) (ap rest-groups e) in
    ap (λ (m : ℕ). take m a) more ∙ take-add 8 (8 * k) a ∙ (λ i. first i ++ rest i) ∙ sym (take-add 8 (8 * k) b) ∙ ap (λ (m : ℕ). take m b) (sym more)

parts-same : (n : ℕ) (a b : List ℕ) → take n a ≡ take n b → drop n a ≡ drop n b → a ≡ b
parts-same n a b e f = sym (take-append-drop n a) ∙ (λ i. e i ++ f i) ∙ take-append-drop n b

drop-parts : (n m : ℕ) (a b : List ℕ) → take m (drop n a) ≡ take m (drop n b) → drop (n + m) a ≡ drop (n + m) b
    → drop n a ≡ drop n b
drop-parts n m a b e f = parts-same m (drop n a) (drop n b) e (drop-drop m n a ∙ f ∙ sym (drop-drop m n b))

-- ---- a cell that hides a part

pub record Hides (c : Tree) (h : Hidden) : Type 0 where
  pub kind : (out-Tree c).kind ≡ Pruned
  pub one_pair : stored_mask (out-Tree c).bits ≡ 1
  pub hash : stored_hash 0 (out-Tree c).bits ≡ h.hash
  pub depth : stored_depth 0 (out-Tree c).bits ≡ h.depth

same-hidden : (h k : Hidden) → (◌≡◌ {A = Option Hidden} (Some h) (Some k)) → h ≡ k
same-hidden h k e = cc

hidden_by-parts : (k : Kind) (bits : List ℕ) (m : ℕ) (h : Hidden) → hidden_by k bits m ≡ Some h
    → (k ≡ Pruned) × (m ≡ 1) × (stored_hash 0 bits ≡ h.hash) × (stored_depth 0 bits ≡ h.depth)
hidden_by-parts Ordinary bits m h e = cc
hidden_by-parts Library bits m h e = cc
hidden_by-parts Proof bits m h e = cc
hidden_by-parts Update bits m h e = cc
hidden_by-parts Pruned bits m h e = go (nat_eq m 1) refl e
  where
    go : (b : Bool) → nat_eq m 1 ≡ b
        → cond {A = Option Hidden} b (Some (record { hash = stored_hash 0 bits; depth = stored_depth 0 bits })) None ≡ Some h
        → (Pruned ≡ Pruned) × (m ≡ 1) × (stored_hash 0 bits ≡ h.hash) × (stored_depth 0 bits ≡ h.depth)
    go false f e = cc
    go true f e =
        let same = same-hidden (record { hash = stored_hash 0 bits; depth = stored_depth 0 bits }) h e in
        (refl, eqb-true m 1 f, (λ i. (same i).hash), (λ i. (same i).depth))

mask-pruned : (c : Tree) → (out-Tree c).kind ≡ Pruned → mask c ≡ stored_mask (out-Tree c).bits
mask-pruned c k =
    ap (λ (m : Marks). m.mask) (marks-out c)
    ∙ ap (λ (x : Kind). mask_of x (out-Tree c).bits (map marks (out-Tree c).children)) k

pub hides-of : (mode : Mode) (c : Tree) (h : Hidden) → unseen mode c ≡ Some h → Hides c h
hides-of Whole c h u = cc
hides-of Lax c h u = cc
hides-of Partial c h u =
    let p = hidden_by-parts (out-Tree c).kind (out-Tree c).bits (mask c) h u in
    record { kind = p.0; one_pair = sym (mask-pruned c p.0) ∙ p.1; hash = p.2; depth = p.3 }

pub one-pair : pair_count 1 ≡ 1
unfolding set_bits
one-pair = refl

layout-of : (c : Tree) (h : Hidden) → IsGood c → Hides c h
    → IsPrunedLayout (out-Tree c).bits (length (out-Tree c).children)
layout-of c h (good _ w all) g =
    let P : Kind → Type 0 = λ k. IsTrue (has_layout k (out-Tree c).bits (length (out-Tree c).children)) in
    pruned_layout (out-Tree c).bits (length (out-Tree c).children) (subst P g.kind w.layout)

bits-of : (c : Tree) → IsGood c → AreBits (out-Tree c).bits
bits-of c (good _ w all) = w.bits

-- the bits of a pruned branch of one pair, part by part
pub record OnePair (bits : List ℕ) (h : Hidden) : Type 0 where
  pub are : AreBits bits
  pub whole : length bits ≡ 288
  pub first : number_of (take 8 bits) ≡ 1
  pub second : number_of (take 8 (drop 8 bits)) ≡ 1
  pub hash : groups 8 32 (drop 16 bits) ≡ h.hash
  pub depth : number_of (take 16 (drop 272 bits)) ≡ h.depth

one-pair-of : (c : Tree) (h : Hidden) → IsGood c → Hides c h → OnePair (out-Tree c).bits h
one-pair-of c h gc g =
    let l = layout-of c h gc g in
    let count : pair_count (stored_mask (out-Tree c).bits) ≡ 1 = ap pair_count g.one_pair ∙ one-pair in
    record {
      are = bits-of c gc;
      whole = l.whole ∙ ap (λ (n : ℕ). 16 + 272 * n) count;
      first = l.type_is;
      second = g.one_pair;
      hash = g.hash;
      depth = ap (λ (n : ℕ). number_of (take 16 (drop (16 + 256 * n + 16 * 0) (out-Tree c).bits))) (sym count) ∙ g.depth;
    }

bits-same : (a b : List ℕ) (h : Hidden) → OnePair a h → OnePair b h → a ≡ b
bits-same a b h p q =
    let la : length a ≡ 288 = p.whole in
    let lb : length b ≡ 288 = q.whole in
    let da = length-drop 8 a in
    let db = length-drop 8 b in
    let ea = length-drop 16 a in
    let eb = length-drop 16 b in
    let fa = length-drop 272 a in
    let fb = length-drop 272 b in
    let first : take 8 a ≡ take 8 b = number-same 8 a b p.are q.are (omega arith) (omega arith) (p.first ∙ sym q.first) in
    let second : take 8 (drop 8 a) ≡ take 8 (drop 8 b) =
    number-same 8 (drop 8 a) (drop 8 b) (AreBits-drop 8 a p.are) (AreBits-drop 8 b q.are) (omega arith) (omega arith) (p.second ∙ sym q.second) in
    let third : take 256 (drop 16 a) ≡ take 256 (drop 16 b) =
    groups-same 32 (drop 16 a) (drop 16 b) (AreBits-drop 16 a p.are) (AreBits-drop 16 b q.are) (omega arith) (omega arith) (p.hash ∙ sym q.hash) in
    let fourth : take 16 (drop 272 a) ≡ take 16 (drop 272 b) =
    number-same 16 (drop 272 a) (drop 272 b) (AreBits-drop 272 a p.are) (AreBits-drop 272 b q.are) (omega arith) (omega arith) (p.depth ∙ sym q.depth) in
    let none : drop 288 a ≡ drop 288 b = drop_all 288 a (omega arith) ∙ sym (drop_all 288 b (omega arith)) in
    parts-same 8 a b first (drop-parts 8 8 a b second (drop-parts 16 256 a b third (drop-parts 272 16 a b fourth none)))

no-children : (ts : List Tree) → length ts ≡ 0 → ts ≡ []
no-children [] e = refl
no-children (t ∷ ts) e = absurd (omega (arith, e))

pub hidden_once : (mode : Mode) (c d : Tree) (h : Hidden) → IsGood c → IsGood d → unseen mode c ≡ Some h
    → unseen mode d ≡ Some h → c ≡ d
hidden_once mode c d h gc gd u v =
    let p = hides-of mode c h u in
    let q = hides-of mode d h v in
    let bits = bits-same (out-Tree c).bits (out-Tree d).bits h (one-pair-of c h gc p) (one-pair-of d h gd q) in
    let children : (out-Tree c).children ≡ (out-Tree d).children =
    no-children (out-Tree c).children (layout-of c h gc p).none ∙ sym (no-children (out-Tree d).children (layout-of d h gd q).none) in
    sym (tree_of-out c) ∙ (λ i. tree_of ((p.kind ∙ sym q.kind) i) (bits i) (children i)) ∙ tree_of-out d
