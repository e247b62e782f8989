-- A value whose cells as they are, and the references of whose rests, are pruned; and whether a tree has a
-- pruned branch at a position.
use Rattle.std.specs.Prelude.{Bool, true, false, ℕ, List, [], ◌∷◌, Option, Some, None, slice_get}
use Rattle.cell_nodes.specs.Prunes.{Prunes, AllPrune}
use Rattle.cell_nodes.specs.declared.tree.Hidden.{Hidden}
use Rattle.cell_nodes.specs.declared.tree.Kind.{Kind}
use Rattle.cell_nodes.specs.declared.tree.Kind.TheVariants.{Ordinary, Pruned, Library, Proof, Update}
use Rattle.cell_nodes.specs.declared.tree.Tree.{Tree, out-Tree}
use Rattle.cell_nodes.specs.declared.tree.Mode.TheVariants.{Partial}
use Rattle.core_form.specs.Core.{CoreSchema}
use Rattle.core_form.specs.Closed.{Closed}
use Rattle.spelling.specs.Spells.{Reading}
use Rattle.typed_value.specs.Values.{Plain, Plains, PlainPairs, record_of, list_of, ref_to, map_of, raw, rest}
use Rattle.typed_value.specs.Values.{no_vals, a_val, no_pairs, a_pair}
use Rattle.pruning.specs.Spots.{Spot}

-- the second value is the first, but that each tree in a Raw or a Rest of the first prunes to the one in the second
mutual
  pub data Thins : Plain → Plain → Type 0 where
    same : (v : Plain) → Thins v v
    record_thins : (name : Option (List ℕ)) (names : List (List ℕ)) (vs ws : Plains) → AllThin vs ws
        → Thins (record_of name names vs) (record_of name names ws)
    list_thins : (vs ws : Plains) → AllThin vs ws → Thins (list_of vs) (list_of ws)
    ref_thins : (v w : Plain) → Thins v w → Thins (ref_to tt v) (ref_to tt w)
    map_thins : (ps qs : PlainPairs) (us : List (List ℕ × Hidden)) → PairsThin ps qs
        → Thins (map_of tt ps us) (map_of tt qs us)
    raw_thins : (c p : Tree) → Prunes c p 0 → Thins (raw c) (raw p)
    rest_thins : (bits : List ℕ) (ts ps : List Tree) → AllPrune ts ps 0
        → Thins (rest (record { bits = bits; refs = ts })) (rest (record { bits = bits; refs = ps }))

  pub data AllThin : Plains → Plains → Type 0 where
    no_more : AllThin no_vals no_vals
    one_more : (v w : Plain) (vs ws : Plains) → Thins v w → AllThin vs ws → AllThin (a_val v vs) (a_val w ws)

  pub data PairsThin : PlainPairs → PlainPairs → Type 0 where
    no_pair : PairsThin no_pairs no_pairs
    one_pair : (k : List ℕ) (v w : Plain) (ps qs : PlainPairs) → Thins v w → PairsThin ps qs
        → PairsThin (a_pair k v ps) (a_pair k w qs)

-- the subtree at a position
abbrev pub below_child : Option Tree → (Tree → Option Tree) → Option Tree
below_child None further = None
below_child (Some t) further = further t

abbrev pub subtree : Tree → List ℕ → Option Tree
subtree t [] = Some t
subtree t (i ∷ position) = below_child (slice_get (out-Tree t).children i) (λ c. subtree c position)

abbrev pub is_pruned_kind : Kind → Bool
is_pruned_kind Ordinary = false
is_pruned_kind Pruned = true
is_pruned_kind Library = false
is_pruned_kind Proof = false
is_pruned_kind Update = false

abbrev pub is_pruned : Option Tree → Bool
is_pruned None = false
is_pruned (Some t) = is_pruned_kind (out-Tree t).kind

-- whether the tree has a pruned branch at the position of the spot
abbrev pub pruned_in : Tree → Spot → Bool
pruned_in p x = is_pruned (subtree p x.position)

-- the tree reads as the value, but that trees in a Raw or a Rest may be pruned
pub record ReadsThinned (schema : CoreSchema) (t : Closed) (p : Tree) (v : Plain) : Type 0 where
  pub value : Plain
  pub reads : Reading Partial schema t p value
  pub thins : Thins v value
