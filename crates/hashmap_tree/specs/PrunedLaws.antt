-- The pruned branch of a hash and a depth hides them.
use Rattle.std.proofs.Common.{◌≡◌, ℕ, ◌<◌, ◌≤◌, List, [], ◌∷◌, length, map, Option, Some, refl, sym, ap, ◌∙◌, arith}
use Rattle.cell_nodes.specs.Constructed.{pruned_bits, pruned_of}
use Rattle.cell_nodes.specs.ConstructedLaws.{CanStore, one-pair, stored_mask-is, stored_hash-is, stored_depth-is, pruned-layout, pruned-shallow}
use Rattle.cell_nodes.specs.Equations.{out-tree_of, mask-tree_of}
use Rattle.cell_nodes.specs.HiddenParts.{hidden_by}
use Rattle.cell_nodes.specs.Layout.{stored_hash, stored_depth}
use Rattle.cell_nodes.specs.Tree.{tree_of, mask}
use Rattle.cell_nodes.specs.declared.tree.Hidden.{Hidden}
use Rattle.cell_nodes.specs.declared.tree.Kind.TheVariants.{Pruned}
use Rattle.cell_nodes.specs.declared.tree.Mode.TheVariants.{Partial}
use Rattle.hashmap_tree.specs.Dict.{unseen}
use Rattle.hashmap_tree.specs.Exceeds.{CanHide}

hidden-of : (bits : List ℕ) (h : Hidden) → mask (tree_of Pruned bits []) ≡ 1 → stored_hash 0 bits ≡ h.hash
    → stored_depth 0 bits ≡ h.depth → unseen Partial (tree_of Pruned bits []) ≡ Some h
hidden-of bits h m hash depth =
    (λ i. hidden_by (out-tree_of Pruned bits [] i).kind (out-tree_of Pruned bits [] i).bits (mask (tree_of Pruned bits [])))
    ∙ ap (hidden_by Pruned bits) m
    ∙ (λ i. Some (record { hash = hash i; depth = depth i }))

pub hides-stored : (h : Hidden) → CanHide h → unseen Partial (pruned_of h.hash h.depth) ≡ Some h
hides-stored h c =
    let can = one-pair h.hash h.depth c.whole c.low in
    hidden-of (pruned_bits 1 (record { depth = h.depth; hash = h.hash } ∷ [])) h
    (mask-tree_of Pruned (pruned_bits 1 (record { depth = h.depth; hash = h.hash } ∷ [])) [] ∙ stored_mask-is 1 (record { depth = h.depth; hash = h.hash } ∷ []) can)
    (stored_hash-is 1 (record { depth = h.depth; hash = h.hash } ∷ []) 0 (record { depth = 0; hash = [] }) can (omega arith) c.bytes)
    (stored_depth-is 1 (record { depth = h.depth; hash = h.hash } ∷ []) 0 (record { depth = 0; hash = [] }) can (omega arith))
