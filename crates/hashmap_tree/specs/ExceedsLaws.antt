-- Entries with a tree within the limits exceed none, and those that exceed them have one first fault.
use Rattle.std.proofs.Common.{◌≡◌, ◌≢◌, ◌⊎◌, inl, inr, ℕ, zero, suc, ◌+◌, ◌<◌, ◌≤◌, nat_lt, true, List, [], ◌∷◌, ◌++◌, length, map, Option, Some, None, refl, sym, ap, ◌∙◌, subst, arith, lit<}
use Rattle.std.proofs.lemmas.Bool.{lt-ltb}
use Rattle.bit_slice.specs.Bits.{bit_length}
use Rattle.cell_nodes.specs.Equations.{depth-tree_of, tree_of-out, out-tree_of}
use Rattle.cell_nodes.specs.Good.{IsGood, IsSound, AllGood}
use Rattle.cell_nodes.specs.GoodParts.{good-sound, good-depth, good-children}
use Rattle.cell_nodes.specs.HeldLaws.{AreBelow}
use Rattle.cell_nodes.specs.Layout.{stored_mask, stored_depth, pair_count}
use Rattle.cell_nodes.specs.Levels.{set_bits}
use Rattle.cell_nodes.specs.LevelsLaws.{set_bits-zero}
use Rattle.cell_nodes.specs.PrunesGoodLaws.{depth-ordinary}
use Rattle.cell_nodes.specs.Tree.{Marks, tree_of, marks, depth, deepest, depth_over, depth_of, pruned_depth, greatest, IsShallow}
use Rattle.cell_nodes.specs.declared.tree.Hidden.{Hidden}
use Rattle.cell_nodes.specs.declared.tree.Kind.{Kind}
use Rattle.cell_nodes.specs.declared.tree.Kind.TheVariants.{Ordinary, Pruned}
use Rattle.cell_nodes.specs.declared.tree.Mode.TheVariants.{Partial}
use Rattle.cell_nodes.specs.declared.tree.Tree.{Tree, out-Tree}
use Rattle.hashmap_labels.specs.Labels.{IsLabel, IsForm}
use Rattle.hashmap_labels.specs.SpellingLaws.{size, has_size}
use Rattle.hashmap_labels.specs.declared.forms.LabelForm.{LabelForm}
use Rattle.hashmap_labels.specs.declared.forms.Forms.TheVariants.{Required}
use Rattle.hashmap_tree.specs.CellLaws.{content-cell_of}
use Rattle.hashmap_tree.specs.Dict.{unseen, DictTree, one, two, Branch, open_edge, hidden_edge}
use Rattle.hashmap_tree.specs.Entries.{Slice, content, cell_of, Part, leaf, hidden, Entries, under, fork}
use Rattle.hashmap_tree.specs.Exceeds.{Excess, full, deep, beneath, label_size, first_key, IsBuilt, Exceeds, leaf_full, in_zeros, in_ones, fork_full, fork_deep, ExceedsBranch, in_edge, hidden_deep, IsWithin}
use Rattle.hashmap_tree.specs.HiddenLaws.{Hides, hides-of, one-pair}
use Rattle.hashmap_tree.specs.StepLaws.{when_true}
use Rattle.hashmap_tree.specs.OnceLaws.{Some_entry, some_below, two_entries, parts, hidden-no_tree, same-hidden, SameFork, same-fork, good-both, branch_once}

-- ---- sizes

-- a label takes ls many bits ls its required form's size says
pub label-long : (n : ℕ) (l s rest : List ℕ) → IsLabel Required n l s rest → length s ≡ label_size n l + length rest
label-long n l s rest h =
    let P : LabelForm → Type 0 = λ f. IsForm f (bit_length n) l s rest in
    has_size _ (bit_length n) l s rest (subst P h.2 h.3)

-- ---- the content of a good cell is within the limits

one-below : (t : Tree) → depth t 0 < 1024 → depth t 1 < 1024 → depth t 2 < 1024 → depth t 3 < 1024 → deepest t < 1024
one-below t a b c d = omega (arith, a, b, c, d)

over-rest : (i : ℕ) (t : Tree) (ts : List Tree) → depth_over i (map marks (t ∷ ts)) ≤ 1024
    → (depth t i < 1024) × (depth_over i (map marks ts) ≤ 1024)
over-rest i t [] h = (omega (arith, h), omega arith)
over-rest i t (u ∷ ts) h = (omega (arith, h), omega (arith, h))

all-below : (ts : List Tree) → depth_over 0 (map marks ts) ≤ 1024 → depth_over 1 (map marks ts) ≤ 1024
    → depth_over 2 (map marks ts) ≤ 1024 → depth_over 3 (map marks ts) ≤ 1024 → AreBelow ts
all-below [] a b c d = tt
all-below (t ∷ ts) a b c d =
    let p = over-rest 0 t ts a in
    let q = over-rest 1 t ts b in
    let r = over-rest 2 t ts c in
    let s = over-rest 3 t ts d in
    (one-below t p.0 q.0 r.0 s.0, all-below ts p.1 q.1 r.1 s.1)

level-of : (bits : List ℕ) (ts : List Tree) (i : ℕ) → depth (tree_of Ordinary bits ts) i ≤ 1024
    → depth_over i (map marks ts) ≤ 1024
level-of bits ts i h = let e = depth-ordinary bits ts i in omega (arith, h, e)

pub good-within : (s : Slice) → IsGood (cell_of s) → IsWithin s
good-within s g =
    let sound = good-sound (cell_of s) g in
    let P : Slice → Type 0 = λ c. length c.bits ≤ 1023 in
    let Q : Slice → Type 0 = λ c. length c.refs ≤ 4 in
    let R : Slice → Type 0 = λ c. AllGood c.refs in
    let level = λ (i : ℕ) (h : i ≤ 3). level-of s.bits s.refs i (good-depth (cell_of s) i g h) in record {
      short = subst P (content-cell_of s) sound.short;
      few = subst Q (content-cell_of s) sound.few;
      good = subst R (content-cell_of s) (good-children (cell_of s) g);
      below = all-below s.refs (level 0 (omega arith)) (level 1 (omega arith)) (level 2 (omega arith)) (level 3 (omega arith));
    }

-- ---- a hidden part of a good cell is not too deep

depth-pruned : (c : Tree) → (out-Tree c).kind ≡ Pruned → depth c 0 ≡ pruned_depth (out-Tree c).bits 0
depth-pruned c k =
    ap (λ (t : Tree). depth t 0) (sym (tree_of-out c))
    ∙ depth-tree_of (out-Tree c).kind (out-Tree c).bits (out-Tree c).children 0
    ∙ ap (λ (x : Kind). depth_of x (out-Tree c).bits (map marks (out-Tree c).children) 0) k

stored-first : (bits : List ℕ) → stored_mask bits ≡ 1 → pruned_depth bits 0 ≡ stored_depth 0 bits
stored-first bits m =
    let count : pair_count (stored_mask bits) ≡ 1 = ap pair_count m ∙ one-pair in
    let none : set_bits 0 (stored_mask bits) ≡ 0 = set_bits-zero (stored_mask bits) in
    let test : nat_lt (set_bits 0 (stored_mask bits)) (pair_count (stored_mask bits)) ≡ true =
    lt-ltb (set_bits 0 (stored_mask bits)) (pair_count (stored_mask bits)) (omega (arith, count, none)) in
    when_true (nat_lt (set_bits 0 (stored_mask bits)) (pair_count (stored_mask bits))) (stored_depth (set_bits 0 (stored_mask bits)) bits) 0 test
    ∙ ap (λ (j : ℕ). stored_depth j bits) none

pub hidden-shallow : (c : Tree) (h : Hidden) → IsGood c → unseen Partial c ≡ Some h → h.depth ≤ 1024
hidden-shallow c h g u =
    let p : Hides c h = hides-of Partial c h u in
    let e : depth c 0 ≡ h.depth = depth-pruned c p.kind ∙ stored-first (out-Tree c).bits p.one_pair ∙ p.depth in
    let low = good-depth c 0 g (omega arith) in
    omega (arith, e, low)

-- ---- what exceeds the limits has entries

both-some : (p : List ℕ) (es zs os : Entries) → es ≡ fork p zs os → Some_entry zs → Some_entry es
both-some p es zs os e s =
    ((p ++ 0 ∷ [] ++ s.0.0, s.0.1), under (p ++ 0 ∷ []) s.1 ++ under (p ++ 1 ∷ []) os, e ∙ ap (λ (l : Entries). fork p l os) s.2)

pub some-of : (es : Entries) → es ≢ [] → Some_entry es
some-of [] h = absurd (h refl)
some-of (e ∷ es) h = (e, es, refl)

mutual
  pub exceeds-some : (n : ℕ) (es : Entries) (f : Excess) → Exceeds n es f → Some_entry es
  exceeds-some n es f (leaf_full _ _ _ k c same l e) = ((k, leaf c), [], same)
  exceeds-some n es f (in_zeros _ _ _ p m zs os g same len s d e) = both-some p es zs os same (branch-some m zs g d)
  exceeds-some n es f (in_ones _ _ _ p m zs os z g same len b d e) = both-some p es zs os same (some_below Partial m zs z b.0)
  exceeds-some n es f (fork_full _ _ _ p m zs os z o same len bz bo l e) = both-some p es zs os same (some_below Partial m zs z bz.0)
  exceeds-some n es f (fork_deep _ _ _ p m zs os z o same len bz bo l d e) = both-some p es zs os same (some_below Partial m zs z bz.0)

  pub branch-some : (m : ℕ) (es : Entries) (f : Excess) → ExceedsBranch m es f → Some_entry es
  branch-some m es f (in_edge _ _ _ d) = exceeds-some m es f d
  branch-some m es f (hidden_deep _ _ _ h same l e) = (([], hidden h), [], same)

-- a hidden part alone is at no edge
abbrev HasLeaf : Entries → Type 0
HasLeaf [] = ⊥
HasLeaf ((k, leaf c) ∷ es) = Unit {0}
HasLeaf ((k, hidden h) ∷ es) = ⊥

leaf-hidden : (k : List ℕ) (c : Slice) (h : Hidden)
    → (◌≡◌ {A = Entries} ((k, leaf c) ∷ []) (([], hidden h) ∷ [])) → ⊥
leaf-hidden k c h e = let P : Entries → Type 0 = HasLeaf in subst P e tt

hidden-fits : (m : ℕ) (es : Entries) (f : Excess) (h : Hidden) → es ≡ ([], hidden h) ∷ [] → Exceeds m es f → ⊥
hidden-fits n es f h s (leaf_full _ _ _ k c same l e) = leaf-hidden k c h (sym same ∙ s)
hidden-fits n es f h s (in_zeros _ _ _ p m zs os g same len o d e) =
    two_entries p zs os ([], hidden h) (branch-some m zs g d) (some-of os o) (sym same ∙ s)
hidden-fits n es f h s (in_ones _ _ _ p m zs os z g same len b d e) =
    two_entries p zs os ([], hidden h) (some_below Partial m zs z b.0) (branch-some m os g d) (sym same ∙ s)
hidden-fits n es f h s (fork_full _ _ _ p m zs os z o same len bz bo l e) =
    two_entries p zs os ([], hidden h) (some_below Partial m zs z bz.0) (some_below Partial m os o bo.0) (sym same ∙ s)
hidden-fits n es f h s (fork_deep _ _ _ p m zs os z o same len bz bo l d e) =
    two_entries p zs os ([], hidden h) (some_below Partial m zs z bz.0) (some_below Partial m os o bo.0) (sym same ∙ s)

-- ---- a tree within the limits exceeds none

below-both : (refs : List Tree) (z o : Tree) → refs ≡ z ∷ (o ∷ []) → AreBelow refs → (deepest z < 1024) × (deepest o < 1024)
below-both refs z o e h = let P : List Tree → Type 0 = AreBelow in let k = subst P e h in (k.0, k.1.0)

-- a tree of a fork, by these parts of its entries
pub record TreeOf (n : ℕ) (s : Slice) (p : List ℕ) (m : ℕ) (zs os : Entries) : Type 0 where
  pub z : Tree
  pub o : Tree
  pub label : IsLabel Required n p s.bits []
  pub zeros : Branch Partial m zs z
  pub ones : Branch Partial m os o
  pub good_zero : IsGood z
  pub good_one : IsGood o
  pub below_zero : deepest z < 1024
  pub below_one : deepest o < 1024

fork-tree : (n : ℕ) (es : Entries) (s : Slice) (p : List ℕ) (m : ℕ) (zs os : Entries) → DictTree Partial n es s
    → IsWithin s → es ≡ fork p zs os → n ≡ length p + suc m → Some_entry zs → Some_entry os → TreeOf n s p m zs os
fork-tree n es s p m zs os (one _ _ _ _ k c same len l r) w e long sz so =
    absurd (two_entries p zs os (k, leaf c) sz so (sym e ∙ same))
fork-tree n es s p m zs os (two _ _ _ _ q j ls rs z o same len l r dz do_) w e long sz so =
    let f = same-fork n q j ls rs p m zs os (some_below Partial j ls z dz) (some_below Partial j rs o do_) sz so len long (sym same ∙ e) in
    let P : List ℕ → Type 0 = λ a. IsLabel Required n a s.bits [] in
    let Q : ℕ → Entries → Type 0 = λ k l. Branch Partial k l z in
    let R : ℕ → Entries → Type 0 = λ k l. Branch Partial k l o in
    let g = good-both s.refs z o r w.good in
    let b = below-both s.refs z o r w.below in record {
      z = z;
      o = o;
      label = subst P f.label l;
      zeros = subst (Q m) f.zeros (subst (λ (k : ℕ). Q k ls) f.less dz);
      ones = subst (R m) f.ones (subst (λ (k : ℕ). R k rs) f.less do_);
      good_zero = g.0;
      good_one = g.1;
      below_zero = b.0;
      below_one = b.1;
    }

label-fits : (n : ℕ) (p : List ℕ) (s : Slice) → IsLabel Required n p s.bits [] → IsWithin s → 1023 < label_size n p → ⊥
label-fits n p s l w h = let e = label-long n p s.bits [] l in let short = w.short in omega (arith, e, short, h)

leaf-fits : (n : ℕ) (es : Entries) (s : Slice) (k : List ℕ) (c : Slice) → DictTree Partial n es s → IsWithin s
    → es ≡ (k, leaf c) ∷ [] → 1023 < label_size n k + length c.bits → ⊥
leaf-fits n es s k c (two _ _ _ _ p m zs os z o same len l r dz do_) w e h =
    two_entries p zs os (k, leaf c) (some_below Partial m zs z dz) (some_below Partial m os o do_) (sym same ∙ e)
leaf-fits n es s k c (one _ _ _ _ j d same len l r) w e h =
    let q = parts j k d c (sym same ∙ e) in
    let long = label-long n j s.bits d.bits l in
    let short = w.short in
    let a : label_size n j ≡ label_size n k = ap (label_size n) q.0 in
    let b : length d.bits ≡ length c.bits = ap (λ (x : Slice). length x.bits) q.1 in
    omega (arith, long, short, a, b, h)

deep-once : (m : ℕ) (es : Entries) (c t : Tree) → IsBuilt m es c → Branch Partial m es t → IsGood t → deepest t < 1024
    → deepest c ≡ 1024 → ⊥
deep-once m es c t b d g l e =
    let same : c ≡ t = branch_once Partial refl m es c t b.1 g b.0 d in
    let k : deepest c ≡ deepest t = ap deepest same in
    omega (arith, l, e, k)

mutual
  pub tree-fits : (n : ℕ) (es : Entries) (s : Slice) (f : Excess) → DictTree Partial n es s → IsWithin s
      → Exceeds n es f → ⊥
  tree-fits n es s f t w (leaf_full _ _ _ k c same l e) = leaf-fits n es s k c t w same l
  tree-fits n es s f t w (in_zeros _ _ _ p m zs os g same len o d e) =
      let k = fork-tree n es s p m zs os t w same len (branch-some m zs g d) (some-of os o) in
      branch-fits m zs k.z g k.zeros k.good_zero d
  tree-fits n es s f t w (in_ones _ _ _ p m zs os z g same len b d e) =
      let k = fork-tree n es s p m zs os t w same len (some_below Partial m zs z b.0) (branch-some m os g d) in
      branch-fits m os k.o g k.ones k.good_one d
  tree-fits n es s f t w (fork_full _ _ _ p m zs os z o same len bz bo l e) =
      let k = fork-tree n es s p m zs os t w same len (some_below Partial m zs z bz.0) (some_below Partial m os o bo.0) in
      label-fits n p s k.label w l
  tree-fits n es s f t w (fork_deep _ _ _ p m zs os z o same len bz bo l (inl d) e) =
      let k = fork-tree n es s p m zs os t w same len (some_below Partial m zs z bz.0) (some_below Partial m os o bo.0) in
      deep-once m zs z k.z bz k.zeros k.good_zero k.below_zero d
  tree-fits n es s f t w (fork_deep _ _ _ p m zs os z o same len bz bo l (inr d) e) =
      let k = fork-tree n es s p m zs os t w same len (some_below Partial m zs z bz.0) (some_below Partial m os o bo.0) in
      deep-once m os o k.o bo k.ones k.good_one k.below_one d

  pub branch-fits : (m : ℕ) (es : Entries) (c : Tree) (f : Excess) → Branch Partial m es c → IsGood c
      → ExceedsBranch m es f → ⊥
  branch-fits m es c f (open_edge _ _ _ _ s same t) g (in_edge _ _ _ d) =
      let P : Tree → Type 0 = IsGood in tree-fits m es s f t (good-within s (subst P same g)) d
  branch-fits m es c f (hidden_edge _ _ _ _ h u same) g (in_edge _ _ _ d) = hidden-fits m es f h same d
  branch-fits m es c f (open_edge _ _ _ _ s same t) g (hidden_deep _ _ _ h e l r) = hidden-no_tree Partial m es s h e t
  branch-fits m es c f (hidden_edge _ _ _ _ h u same) g (hidden_deep _ _ _ k e l r) =
      let q : (◌≡◌ {A = Option Hidden} (Some h) (Some k)) = same-hidden h k (sym same ∙ e) in
      let low = hidden-shallow c k g (u ∙ q) in
      omega (arith, low, l)

-- ---- one first fault

leaf-once : (n : ℕ) (es : Entries) (f g : Excess) (k : List ℕ) (c : Slice) → es ≡ (k, leaf c) ∷ [] → f ≡ full k
    → Exceeds n es g → f ≡ g
leaf-once n es f g k c same e (leaf_full _ _ _ j d more l h) =
    e ∙ ap full (parts k j c d (sym same ∙ more)).0 ∙ sym h
leaf-once n es f g k c same e (in_zeros _ _ _ p m zs os x more len o d h) =
    absurd (two_entries p zs os (k, leaf c) (branch-some m zs x d) (some-of os o) (sym more ∙ same))
leaf-once n es f g k c same e (in_ones _ _ _ p m zs os z x more len b d h) =
    absurd (two_entries p zs os (k, leaf c) (some_below Partial m zs z b.0) (branch-some m os x d) (sym more ∙ same))
leaf-once n es f g k c same e (fork_full _ _ _ p m zs os z o more len bz bo l h) =
    absurd (two_entries p zs os (k, leaf c) (some_below Partial m zs z bz.0) (some_below Partial m os o bo.0) (sym more ∙ same))
leaf-once n es f g k c same e (fork_deep _ _ _ p m zs os z o more len bz bo l d h) =
    absurd (two_entries p zs os (k, leaf c) (some_below Partial m zs z bz.0) (some_below Partial m os o bo.0) (sym more ∙ same))

-- what a fault of a fork is, by these parts of its entries
pub data ForkExceeds (n : ℕ) (es : Entries) (f : Excess) (p : List ℕ) (m : ℕ) (zs os : Entries) : Type 0 where
  zeros : (g : Excess) → ExceedsBranch m zs g → f ≡ beneath (p ++ 0 ∷ []) g → ForkExceeds n es f p m zs os
  ones : (z : Tree) (g : Excess) → IsBuilt m zs z → ExceedsBranch m os g → f ≡ beneath (p ++ 1 ∷ []) g
      → ForkExceeds n es f p m zs os
  long : (z o : Tree) → IsBuilt m zs z → IsBuilt m os o → 1023 < label_size n p → f ≡ full (first_key es)
      → ForkExceeds n es f p m zs os
  low : (z o : Tree) → IsBuilt m zs z → IsBuilt m os o → label_size n p ≤ 1023 → f ≡ deep
      → ForkExceeds n es f p m zs os

branch-on : (m j : ℕ) (ls zs : Entries) (g : Excess) → m ≡ j → ls ≡ zs → ExceedsBranch m ls g → ExceedsBranch j zs g
branch-on m j ls zs g e s d =
    let P : ℕ → Type 0 = λ k. ExceedsBranch k zs g in
    let Q : Entries → Type 0 = λ l. ExceedsBranch m l g in
    subst P e (subst Q s d)

built-on : (m j : ℕ) (ls zs : Entries) (z : Tree) → m ≡ j → ls ≡ zs → IsBuilt m ls z → IsBuilt j zs z
built-on m j ls zs z e s d =
    let P : ℕ → Type 0 = λ k. IsBuilt k zs z in
    let Q : Entries → Type 0 = λ l. IsBuilt m l z in
    subst P e (subst Q s d)

fork-exceeds : (n : ℕ) (es : Entries) (f : Excess) (p : List ℕ) (m : ℕ) (zs os : Entries) → es ≡ fork p zs os
    → n ≡ length p + suc m → Some_entry zs → Some_entry os → Exceeds n es f → ForkExceeds n es f p m zs os
fork-exceeds n es f p m zs os same len sz so (leaf_full _ _ _ k c more l e) =
    absurd (two_entries p zs os (k, leaf c) sz so (sym same ∙ more))
fork-exceeds n es f p m zs os same len sz so (in_zeros _ _ _ q j ls rs g more wide o d e) =
    let k = same-fork n q j ls rs p m zs os (branch-some j ls g d) (some-of rs o) sz so wide len (sym more ∙ same) in
    zeros g (branch-on j m ls zs g k.less k.zeros d) (e ∙ ap (λ (a : List ℕ). beneath (a ++ 0 ∷ []) g) k.label)
fork-exceeds n es f p m zs os same len sz so (in_ones _ _ _ q j ls rs z g more wide b d e) =
    let k = same-fork n q j ls rs p m zs os (some_below Partial j ls z b.0) (branch-some j rs g d) sz so wide len (sym more ∙ same) in
    ones z g (built-on j m ls zs z k.less k.zeros b) (branch-on j m rs os g k.less k.ones d) (e ∙ ap (λ (a : List ℕ). beneath (a ++ 1 ∷ []) g) k.label)
fork-exceeds n es f p m zs os same len sz so (fork_full _ _ _ q j ls rs z o more wide bz bo l e) =
    let k = same-fork n q j ls rs p m zs os (some_below Partial j ls z bz.0) (some_below Partial j rs o bo.0) sz so wide len (sym more ∙ same) in
    let a : label_size n q ≡ label_size n p = ap (label_size n) k.label in
    long z o (built-on j m ls zs z k.less k.zeros bz) (built-on j m rs os o k.less k.ones bo) (omega (arith, a, l)) e
fork-exceeds n es f p m zs os same len sz so (fork_deep _ _ _ q j ls rs z o more wide bz bo l d e) =
    let k = same-fork n q j ls rs p m zs os (some_below Partial j ls z bz.0) (some_below Partial j rs o bo.0) sz so wide len (sym more ∙ same) in
    let a : label_size n q ≡ label_size n p = ap (label_size n) k.label in
    low z o (built-on j m ls zs z k.less k.zeros bz) (built-on j m rs os o k.less k.ones bo) (omega (arith, a, l)) e

built-fits : (m : ℕ) (es : Entries) (c : Tree) (f : Excess) → IsBuilt m es c → ExceedsBranch m es f → ⊥
built-fits m es c f b d = branch-fits m es c f b.0 b.1 d

zeros-once : (n : ℕ) (es : Entries) (f g : Excess) (p : List ℕ) (m : ℕ) (zs os : Entries) (x : Excess)
    → ((y : Excess) → ExceedsBranch m zs y → x ≡ y) → ExceedsBranch m zs x → f ≡ beneath (p ++ 0 ∷ []) x
    → ForkExceeds n es g p m zs os → f ≡ g
zeros-once n es f g p m zs os x ih d e (zeros y b h) = e ∙ ap (beneath (p ++ 0 ∷ [])) (ih y b) ∙ sym h
zeros-once n es f g p m zs os x ih d e (ones z y b a h) = absurd (built-fits m zs z x b d)
zeros-once n es f g p m zs os x ih d e (long z o b a l h) = absurd (built-fits m zs z x b d)
zeros-once n es f g p m zs os x ih d e (low z o b a l h) = absurd (built-fits m zs z x b d)

ones-once : (n : ℕ) (es : Entries) (f g : Excess) (p : List ℕ) (m : ℕ) (zs os : Entries) (z : Tree) (x : Excess)
    → ((y : Excess) → ExceedsBranch m os y → x ≡ y) → IsBuilt m zs z → ExceedsBranch m os x
    → f ≡ beneath (p ++ 1 ∷ []) x → ForkExceeds n es g p m zs os → f ≡ g
ones-once n es f g p m zs os z x ih b d e (zeros y a h) = absurd (built-fits m zs z y b a)
ones-once n es f g p m zs os z x ih b d e (ones w y a c h) = e ∙ ap (beneath (p ++ 1 ∷ [])) (ih y c) ∙ sym h
ones-once n es f g p m zs os z x ih b d e (long w o a c l h) = absurd (built-fits m os o x c d)
ones-once n es f g p m zs os z x ih b d e (low w o a c l h) = absurd (built-fits m os o x c d)

long-once : (n : ℕ) (es : Entries) (f g : Excess) (p : List ℕ) (m : ℕ) (zs os : Entries) (z o : Tree)
    → IsBuilt m zs z → IsBuilt m os o → 1023 < label_size n p → f ≡ full (first_key es)
    → ForkExceeds n es g p m zs os → f ≡ g
long-once n es f g p m zs os z o bz bo l e (zeros y a h) = absurd (built-fits m zs z y bz a)
long-once n es f g p m zs os z o bz bo l e (ones w y a c h) = absurd (built-fits m os o y bo c)
long-once n es f g p m zs os z o bz bo l e (long w v a c k h) = e ∙ sym h
long-once n es f g p m zs os z o bz bo l e (low w v a c k h) = absurd (omega (arith, l, k))

low-once : (n : ℕ) (es : Entries) (f g : Excess) (p : List ℕ) (m : ℕ) (zs os : Entries) (z o : Tree)
    → IsBuilt m zs z → IsBuilt m os o → label_size n p ≤ 1023 → f ≡ deep → ForkExceeds n es g p m zs os → f ≡ g
low-once n es f g p m zs os z o bz bo l e (zeros y a h) = absurd (built-fits m zs z y bz a)
low-once n es f g p m zs os z o bz bo l e (ones w y a c h) = absurd (built-fits m os o y bo c)
low-once n es f g p m zs os z o bz bo l e (long w v a c k h) = absurd (omega (arith, l, k))
low-once n es f g p m zs os z o bz bo l e (low w v a c k h) = e ∙ sym h

mutual
  pub excess-once : (n : ℕ) (es : Entries) (f g : Excess) → Exceeds n es f → Exceeds n es g → f ≡ g
  excess-once n es f g (leaf_full _ _ _ k c same l e) y = leaf-once n es f g k c same e y
  excess-once n es f g (in_zeros _ _ _ p m zs os x same len o d e) y =
      zeros-once n es f g p m zs os x (λ w b. branch-once m zs x w d b) d e (fork-exceeds n es g p m zs os same len (branch-some m zs x d) (some-of os o) y)
  excess-once n es f g (in_ones _ _ _ p m zs os z x same len b d e) y =
      ones-once n es f g p m zs os z x (λ w c. branch-once m os x w d c) b d e (fork-exceeds n es g p m zs os same len (some_below Partial m zs z b.0) (branch-some m os x d) y)
  excess-once n es f g (fork_full _ _ _ p m zs os z o same len bz bo l e) y =
      long-once n es f g p m zs os z o bz bo l e (fork-exceeds n es g p m zs os same len (some_below Partial m zs z bz.0) (some_below Partial m os o bo.0) y)
  excess-once n es f g (fork_deep _ _ _ p m zs os z o same len bz bo l d e) y =
      low-once n es f g p m zs os z o bz bo l e (fork-exceeds n es g p m zs os same len (some_below Partial m zs z bz.0) (some_below Partial m os o bo.0) y)

  branch-once : (m : ℕ) (es : Entries) (f g : Excess) → ExceedsBranch m es f → ExceedsBranch m es g → f ≡ g
  branch-once m es f g (in_edge _ _ _ d) (in_edge _ _ _ b) = excess-once m es f g d b
  branch-once m es f g (in_edge _ _ _ d) (hidden_deep _ _ _ h same l e) = absurd (hidden-fits m es f h same d)
  branch-once m es f g (hidden_deep _ _ _ h same l e) (in_edge _ _ _ d) = absurd (hidden-fits m es g h same d)
  branch-once m es f g (hidden_deep _ _ _ h same l e) (hidden_deep _ _ _ k more w r) = e ∙ sym r
