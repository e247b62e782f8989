-- An edge by the pairs that the walk finds of it: the value of a leaf, or the two cells of a fork.
use Rattle.std.proofs.Common.{◌≡◌, ℕ, ◌+◌, ◌-◌, ◌<◌, ◌≤◌, List, [], ◌∷◌, ◌++◌, Some, None, arith, drop, length, map, slice_get, take}
use Rattle.cell_nodes.specs.declared.tree.Tree.{Tree}
use Rattle.core_form.specs.Closed.{Closed}
use Rattle.core_form.specs.Core.{CoreSchema}
use Rattle.hashmap_tree.specs.Entries.{Slice}
use Rattle.spelling.specs.Goals.{at_type}
use Rattle.pruning.specs.Laid.{Laid, LaidEdge, a_fork, a_leaf}
use Rattle.pruning.specs.SpellsLaid.{SpellsEdge, SpellsLaid}
use Rattle.typed_value.specs.View.{pair_of, pairs_of, value}
use Rattle.typed_value.specs.declared.value.Value.{Value}
use Rattle.pruned_proof.specs.Walks.{HasBit, Is, IsBranch, IsEdge, Lies}
use Rattle.pruned_proof.proofs.Branched.{leaf_lies, leaf_seen, none_last}
use Rattle.pruned_proof.proofs.Branched.{ForkLies, first_begins, fork_lies, fork_seen, last_begins, one_branch, one_more, ones_at, parts_at}
use Rattle.pruned_proof.proofs.Branched.{turned_at, zero_branch, zeros_at}
use Rattle.pruned_proof.proofs.Edges.{Begins, IsFork, keys_in}

-- the value of a leaf
pub record LeafAt (schema : CoreSchema) (q : List ℕ) (e : LaidEdge) (t : Closed) (most : ℕ) (first : List ℕ × Value)
    (left : List Tree) (after : Slice) : Type 0 where
  pub label : List ℕ
  pub laid : Laid
  pub is_leaf : e ≡ a_leaf label laid
  pub key : first.0 ≡ q ++ label
  pub holds : Is laid (value first.1) most
  pub outs : List ℕ
  pub lies : Lies (SpellsLaid schema laid (at_type t)) left outs after

pub leaf_at : (schema : CoreSchema) (q : List ℕ) (e : LaidEdge) (n : ℕ) (t : Closed) (most : ℕ) (first : List ℕ × Value)
    (pairs others : List (List ℕ × Value)) (left : List Tree) (outs : List ℕ) (after : Slice)
    → IsEdge q e (pairs_of (map pair_of pairs)) most → Lies (λ b o a. SpellsEdge schema e n t b a) left outs after
    → pairs ≡ first ∷ others → None ≡ slice_get others (length others - 1) → LeafAt schema q e t most first left after
leaf_at schema q e n t most first pairs others left outs after is l split alone =
    let x = leaf_seen q e first pairs others most is split (none_last others alone) in
    let y = leaf_lies schema e x.label x.laid n t left outs after x.is l in
    record { label = x.label; laid = x.laid; is_leaf = x.is; key = x.key; holds = x.holds; outs = y.outs; lies = y.lies }

-- a fork
module _ (schema : CoreSchema) (q : List ℕ) (e : LaidEdge) (n : ℕ) (t : Closed) (left most : ℕ) (first last : List ℕ × Value)
    (pairs others : List (List ℕ × Value)) (refs : List Tree) (outs : List ℕ) (after : Slice) (few : n ≤ left)
    (is : IsEdge q e (pairs_of (map pair_of pairs)) most) (l : Lies (λ b o a. SpellsEdge schema e n t b a) refs outs after)
    (split : pairs ≡ first ∷ others) (at_last : slice_get others (length others - 1) ≡ Some last) where
  fork : IsFork q e pairs most
  fork = fork_seen q e first last pairs others most (length others - 1) is split at_last

  lies : ForkLies schema fork.label fork.zero_cell fork.zeros fork.one_cell fork.ones n t refs after.refs
  lies = fork_lies schema e fork.label fork.zero_cell fork.zeros fork.one_cell fork.ones n t refs outs after fork.is l

  pub bits_left : left ≡ 0 → ⊥
  bits_left none = let long = lies.long in omega (arith, long, few, none)

  begins_zero : Begins (q ++ (fork.label ++ 0 ∷ [])) first.0
  begins_zero = first_begins q fork.label fork.zeros fork.ones pairs others most first fork.forked split

  begins_one : Begins (q ++ (fork.label ++ 1 ∷ [])) last.0
  begins_one = last_begins q fork.label fork.zeros fork.ones pairs others most first last fork.forked split at_last

  -- what the walk is given on either side
  pub record AtFork (end : ℕ) (zeros ones : List (List ℕ × Value)) : Type 0 where
    pub label : List ℕ
    pub zero_cell : Tree
    pub zero : LaidEdge
    pub one_cell : Tree
    pub one : LaidEdge
    pub is_fork : e ≡ a_fork label zero_cell zero one_cell one
    pub less : ℕ
    pub fewer : less ≤ left - 1
    pub zero_end : end ≡ length (q ++ (label ++ 0 ∷ []))
    pub one_end : end ≡ length (q ++ (label ++ 1 ∷ []))
    pub zero_is : IsEdge (q ++ (label ++ 0 ∷ [])) zero (pairs_of (map pair_of zeros)) most
    pub one_is : IsEdge (q ++ (label ++ 1 ∷ [])) one (pairs_of (map pair_of ones)) most
    pub zero_at : IsBranch schema less t (q ++ (label ++ 0 ∷ [])) zero first.0 zero_cell refs (one_cell ∷ after.refs)
    pub one_at : (mid : List Tree) → mid ≡ one_cell ∷ after.refs
        → IsBranch schema less t (q ++ (label ++ 1 ∷ [])) one last.0 one_cell mid after.refs

  pub at_fork : (common turn : ℕ) (zeros ones : List (List ℕ × Value))
      → ((p x y : List ℕ) → first.0 ≡ p ++ 0 ∷ x → last.0 ≡ p ++ 1 ∷ y → common ≡ length p)
      → ((k : ℕ) → k ≤ length pairs → ((i : ℕ) → i < k → HasBit common 0 i (keys_in pairs))
      → ((i : ℕ) → k ≤ i → i < length pairs → HasBit common 1 i (keys_in pairs)) → turn ≡ k)
      → zeros ≡ take turn pairs → ones ≡ drop turn pairs → AtFork (common + 1) zeros ones
  at_fork common turn zeros ones common_is turns front back =
      let place = parts_at q fork.label first.0 last.0 common begins_zero begins_one common_is in
      let turned = turned_at q fork.label fork.zeros fork.ones pairs most common turn fork.forked place turns in
      let long = lies.long in
      record {
        label = fork.label;
        zero_cell = fork.zero_cell;
        zero = fork.zeros;
        one_cell = fork.one_cell;
        one = fork.ones;
        is_fork = fork.is;
        less = lies.less;
        fewer = omega (arith, long, few);
        zero_end = one_more q fork.label 0 common place;
        one_end = one_more q fork.label 1 common place;
        zero_is = zeros_at q fork.label fork.zeros fork.ones pairs zeros most turn fork.forked turned front;
        one_is = ones_at q fork.label fork.zeros fork.ones pairs ones most turn fork.forked turned back;
        zero_at = zero_branch schema q fork.label fork.zero_cell fork.zeros fork.one_cell fork.ones n t first.0 refs after.refs
            lies begins_zero;
        one_at = λ mid there.
            one_branch schema q fork.label fork.zero_cell fork.zeros fork.one_cell fork.ones n t last.0 refs mid after.refs lies
            there begins_one;
      }
