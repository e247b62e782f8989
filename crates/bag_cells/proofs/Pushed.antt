-- The pieces of a bag, put one after the other.
use Rattle.std.proofs.Common.{◌≡◌, ◌∙◌, ℕ, List, [], ◌∷◌, ◌++◌, length, map, reverse, append_assoc, ap}
use Rattle.std.specs.List.{flat_map}
use Rattle.bit_slice.specs.Bits.{completed}
use Rattle.cell_nodes.specs.declared.tree.Tree.{Tree, out-Tree}
use Rattle.cell_pool.specs.Post.{place, post}
use Rattle.bag_cells.specs.Written.{number_bytes, width_of, descriptor_of, cell_bytes, cell_data, header_bytes, bag_over, bag_of}

pieces : (before content refs : List ℕ) (x y : ℕ) → before ++ x ∷ [] ++ y ∷ [] ++ content ++ refs ≡ before ++ (x ∷ y ∷ (content ++ refs))
pieces before content refs x y = simp append_assoc

pub cell_bytes-pushed : (size : ℕ) (order : List Tree) (t : Tree) (d : ℕ × ℕ) (before first second third bits indexes : List ℕ)
    → d ≡ descriptor_of t → bits ≡ (out-Tree t).bits → indexes ≡ map (place order) (out-Tree t).children
    → first ≡ before ++ d.0 ∷ [] → second ≡ first ++ d.1 ∷ [] → third ≡ second ++ completed bits
    → third ++ flat_map (number_bytes size) indexes ≡ before ++ cell_bytes size order t
unfolding cell_bytes
cell_bytes-pushed size order t d before first second third bits indexes hd hb hi e f g =
    ap (λ (l : List ℕ). l ++ flat_map (number_bytes size) indexes) (g ∙ ap (λ (l : List ℕ). l ++ completed bits) (f ∙ ap (λ (l : List ℕ). l ++ d.1 ∷ []) e))
    ∙ pieces before (completed bits) (flat_map (number_bytes size) indexes) d.0 d.1
    ∙ ap (λ (p : ℕ × ℕ). before ++ (p.0 ∷ p.1 ∷ (completed bits ++ flat_map (number_bytes size) indexes))) hd
    ∙ ap (λ (l : List ℕ). before ++ ((descriptor_of t).0 ∷ (descriptor_of t).1 ∷ (completed l ++ flat_map (number_bytes size) indexes))) hb
    ∙ ap (λ (l : List ℕ). before ++ ((descriptor_of t).0 ∷ (descriptor_of t).1 ∷ (completed (out-Tree t).bits ++ flat_map (number_bytes size) l))) hi

pub bag-pushed : (t : Tree) (order : List Tree) (content head whole : List ℕ) (w n m k : ℕ)
    → whole ≡ head ++ content → head ≡ header_bytes n m → n ≡ length order → m ≡ length content
    → content ≡ cell_data w order → w ≡ width_of k → k ≡ length order → order ≡ reverse (post t) → whole ≡ bag_of t
unfolding bag_over
bag-pushed t order content head whole w n m k a b c d e f g h =
    let size : w ≡ width_of (length order) = f ∙ ap width_of g in
    let cells : content ≡ cell_data (width_of (length order)) order = e ∙ ap (λ (s : ℕ). cell_data s order) size in
    a
    ∙ ap (λ (l : List ℕ). l ++ content) (b ∙ ap (λ (x : ℕ). header_bytes x m) c ∙ ap (λ (x : ℕ). header_bytes (length order) x) d)
    ∙ ap (λ (l : List ℕ). header_bytes (length order) (length l) ++ l) cells
    ∙ ap (λ (l : List Tree). bag_over l) h
