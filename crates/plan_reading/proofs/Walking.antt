-- The answers of a walk by the walk as a function.
use Rattle.std.proofs.Common.{◌≡◌, ℕ, suc, List, [], ◌∷◌, Option, Some, None, Result, Ok, Err, refl, sym, ap, ◌∙◌, subst, arith, true, false}
use Rattle.cell_nodes.specs.declared.tree.Hidden.{Hidden}
use Rattle.cell_nodes.specs.declared.tree.Kind.{Kind}
use Rattle.cell_nodes.specs.declared.tree.Kind.TheVariants.{Ordinary}
use Rattle.cell_nodes.specs.declared.tree.Mode.{Mode}
use Rattle.cell_nodes.specs.declared.tree.Tree.{Tree, out-Tree}
use Rattle.hashmap_labels.specs.Labels.{IsLabel}
use Rattle.hashmap_tree.specs.Adds.{GivesEdge, Means}
use Rattle.hashmap_tree.specs.CompleteLaws.{walk_complete}
use Rattle.hashmap_tree.specs.Dict.{DictTree, one, two, forms_of, unseen}
use Rattle.hashmap_tree.specs.Entries.{Slice, Entries, content, hidden, leaf}
use Rattle.hashmap_tree.specs.First.{Edge, at_leaf, at_fork, Fork, forked, IsEdge, first_edge}
use Rattle.hashmap_tree.specs.FirstLaws.{first_complete, first_stands}
use Rattle.hashmap_tree.specs.StandsLaws.{exotic_stands, walk_stands}
use Rattle.hashmap_tree.specs.Top.{Shut}
use Rattle.hashmap_tree.specs.Walk.{Fault, branch_of, here, open_branch, walk}
use Rattle.hashmap_tree.specs.declared.found.Walk.{Walk}
use Rattle.hashmap_tree.specs.declared.found.WalkCause.TheVariants.{Exotic}
use Rattle.hashmap_tree.specs.declared.found.WalkError.{WalkError}
use Rattle.hashmap_tree.specs.declared.found.WalkError.TheVariants.{NoMemory, Stuck}
use Rattle.spelling.specs.PlainReader.{walk_cell}
use Rattle.plan_reading.specs.Edges.{GivesCell, GivesFirst}

-- in place
pub first_given : (mode : Mode) (n : ℕ) (s : Slice) (r : Result Walk WalkError) → Means false mode n s r
    → GivesFirst r (first_edge mode n s)
first_given mode n s (Ok w) m =
    let P : Result Edge Fault → Type 0 = GivesFirst (Ok w) in
    subst P (sym (first_complete mode n s m.0 m.1)) m.2
first_given mode n s (Err NoMemory) m = tt
first_given mode n s (Err (Stuck q c)) m =
    let P : Result Edge Fault → Type 0 = GivesFirst (Err (Stuck q c)) in
    subst P (sym (first_stands mode n s _ m)) (refl, refl)

-- ---- as the whole content of a cell

abbrev entries_of : Edge → Entries
entries_of (at_leaf k c) = (k, leaf c) ∷ []
entries_of (at_fork es after) = es

fork_tree : (mode : Mode) (n : ℕ) (s : Slice) (es : Entries) (after : Slice) → Fork mode n es s after
    → (after ≡ record { bits = []; refs = [] }) → DictTree mode n es s
fork_tree mode n s es after (forked p m zs os z o same len label refs zero_part one_part) none =
    let P : List ℕ → Type 0 = IsLabel (forms_of mode) n p s.bits in
    two mode n es s p m zs os z o same len (subst P (ap (λ (x : Slice). x.bits) none) label)
    (refs ∙ ap (λ (x : Slice). z ∷ (o ∷ x.refs)) none) zero_part one_part

edge_tree : (mode : Mode) (n : ℕ) (s : Slice) (e : Edge) → IsEdge mode n s e → Shut e → DictTree mode n (entries_of e) s
edge_tree mode n s (at_leaf k c) e none = one mode n _ s k c refl e.long e.label e.refs
edge_tree mode n s (at_fork es after) e none = fork_tree mode n s es after e none

edge_given : (w : Walk) (e : Edge) → GivesEdge w e → GivesCell (Ok w) (Ok (entries_of e))
edge_given w (at_leaf k c) g = (g.1, g.2)
edge_given w (at_fork es after) g = (g.1, g.2)

open_cell : (mode : Mode) (n : ℕ) (c : Tree) → unseen mode c ≡ None → (out-Tree c).kind ≡ Ordinary
    → walk_cell mode n c ≡ walk (suc n) mode n (content c)
open_cell mode n c seen ordinary =
    ap (λ (x : Option Hidden). branch_of (walk (suc n) mode) n x (out-Tree c).kind (content c)) seen
    ∙ ap (λ (k : Kind). open_branch (walk (suc n) mode) n k (content c)) ordinary

pub cell_given : (mode : Mode) (n : ℕ) (c : Tree) (s : Slice) (r : Result Walk WalkError) → unseen mode c ≡ None
    → (out-Tree c).kind ≡ Ordinary → s ≡ content c → Means true mode n s r → GivesCell r (walk_cell mode n c)
cell_given mode n c s (Ok w) seen ordinary same m =
    let P : Result Entries Fault → Type 0 = GivesCell (Ok w) in
    subst P
    (sym (open_cell mode n c seen ordinary ∙ ap (walk (suc n) mode n) (sym same)
    ∙ walk_complete (suc n) mode n (entries_of m.0) s (omega arith) (edge_tree mode n s m.0 m.1.0 m.1.1)))
    (edge_given w m.0 m.2)
cell_given mode n c s (Err NoMemory) seen ordinary same m = tt
cell_given mode n c s (Err (Stuck q why)) seen ordinary same m =
    let P : Result Entries Fault → Type 0 = GivesCell (Err (Stuck q why)) in
    subst P
    (sym (open_cell mode n c seen ordinary ∙ ap (walk (suc n) mode n) (sym same)
    ∙ walk_stands (suc n) mode n s _ (omega arith) m))
    refl

-- a hidden part in the cell's place
pub hidden_cell : (mode : Mode) (n : ℕ) (c : Tree) (h : Hidden) → unseen mode c ≡ Some h
    → walk_cell mode n c ≡ Ok (([], hidden h) ∷ [])
hidden_cell mode n c h is =
    ap (λ (x : Option Hidden). branch_of (walk (suc n) mode) n x (out-Tree c).kind (content c)) is

pub exotic_cell : (mode : Mode) (n : ℕ) (c : Tree) → ((out-Tree c).kind ≡ Ordinary → ⊥) → unseen mode c ≡ None
    → walk_cell mode n c ≡ Err (here Exotic)
exotic_cell mode n c other seen = exotic_stands (walk (suc n) mode) mode n c other seen
