-- Where a walk begins: what its parts give, and what that means.
use Rattle.std.proofs.Common.{◌≡◌, ℕ, ◌<◌, ◌-◌, Bool, false, List, [], ◌∷◌, ◌++◌, length, map, Result, Ok, Err, IfOk, refl, sym, ap, ◌∙◌, subst, arith, nat_eq}
use Rattle.std.proofs.lemmas.Bool.{eq-eqb}
use Rattle.cell_nodes.specs.declared.tree.Tree.{Tree}
use Rattle.cell_nodes.specs.declared.slice.CellSlice.{CellSlice}
use Rattle.hashmap_labels.specs.Reading.{read_label}
use Rattle.hashmap_labels.specs.declared.labels.LabelError.{LabelError}
use Rattle.hashmap_tree.specs.Dict.{forms_of}
use Rattle.hashmap_tree.specs.Entries.{Slice, Entries, under, pairs_in, hidden_in}
use Rattle.hashmap_tree.specs.Walk.{◌>>=◌, Fault, here, cause_of, as_fault, Walker, branches, walk}
use Rattle.hashmap_tree.specs.First.{Edge, at_leaf, at_fork}
use Rattle.hashmap_tree.specs.Top.{HaltsTop, pair_edge, top_fork, at_top, top_edge}
use Rattle.hashmap_tree.specs.TopLaws.{top_sound, top_refused}
use Rattle.hashmap_tree.specs.StepLaws.{bind_on, when_true, when_false}
use Rattle.hashmap_tree.specs.CompleteLaws.{not_equal}
use Rattle.hashmap_tree.specs.Adds.{Adds, Has, OnlyMemory, Faults, GivesEdge, GivesWalk, Means, pair_of, slice_of}
use Rattle.cell_nodes.specs.declared.tree.Mode.{Mode}
use Rattle.hashmap_tree.specs.declared.found.Walk.{Walk}
use Rattle.hashmap_tree.specs.declared.found.WalkError.{WalkError}
use Rattle.hashmap_tree.specs.declared.found.WalkError.TheVariants as errors
use Rattle.hashmap_tree.specs.declared.found.Found.{Found}

under-nil : (es : Entries) → under [] es ≡ es
under-nil [] = refl
under-nil (e ∷ es) = ap (λ l. e ∷ l) (under-nil es)

-- what both parts of a fork added to nothing
pub pair_gives : (A : Type 0) (prefix key : List ℕ) (old new : Found) (x : A) (W : Walker) (mode : Mode) (m : ℕ) (z o : Tree) (rest : CellSlice) → prefix ≡ [] → old.pairs.items ≡ [] → old.unknown.items ≡ []
    → Adds prefix old new (Ok x) (branches W mode m key z o) → GivesWalk (Ok (record { pairs = new.pairs; unknown = new.unknown; rest = rest; inline = false })) (pair_edge W mode m key z o (slice_of rest))
pair_gives A prefix key old new x W mode m z o rest e a b h = go (branches W mode m key z o) h
  where
    go : (r : Result Entries Fault) → Adds prefix old new (Ok x) r → GivesWalk (Ok (record { pairs = new.pairs; unknown = new.unknown; rest = rest; inline = false })) (r >>= λ es. Ok (at_fork es (slice_of rest)))
    go (Err f) h = absurd h
    go (Ok es) h =
        let P : List ℕ → Type 0 = λ p. Has old new (under p es) in
        let Q : Entries → Type 0 = λ es. Has old new es in
        let k = subst Q (under-nil es) (subst P e h) in
        (refl, k.pairs ∙ ap (λ l. map pair_of l ++ pairs_in es) a, k.unknown ∙ ap (λ l. l ++ hidden_in es) b, refl)

-- ---- after the label of the first edge

leaf_case : (r : Result Walk WalkError) (p key : List ℕ) (c : Slice) → key ≡ p → IfOk r (λ w. GivesEdge w (at_leaf key c)) → OnlyMemory r → GivesWalk r (Ok (at_leaf p c))
leaf_case (Ok w) p key c e h o = let P : List ℕ → Type 0 = λ k. GivesEdge w (at_leaf k c) in subst P e h
leaf_case (Err errors.NoMemory) p key c e h o = tt
leaf_case (Err (errors.Stuck q d)) p key c e h o = absurd o

pub leaf_gives : (r : Result Walk WalkError) (closed : Bool) (mode : Mode) (n : ℕ) (s : Slice) (p rest key : List ℕ) → read_label (forms_of mode) n s.bits ≡ Ok (p, rest) → n ≡ length p → key ≡ p → IfOk r (λ w. GivesEdge w (at_leaf key (record { bits = rest; refs = s.refs }))) → OnlyMemory r → GivesWalk r (top_edge closed mode n s)
unfolding top_edge
leaf_gives r closed mode n s p rest key l e k h o =
    let c : Slice = record { bits = rest; refs = s.refs } in
    let P : Result Edge Fault → Type 0 = λ z. GivesWalk r z in
    subst P (sym (bind_on (as_fault (read_label (forms_of mode) n s.bits)) _ (p, rest) (Ok (at_leaf p c)) (ap as_fault l) (when_true (nat_eq n (length p)) _ _ (eq-eqb n (length p) e))))
    (leaf_case r p key c k h o)

pub fork_gives : (r : Result Walk WalkError) (closed : Bool) (mode : Mode) (n : ℕ) (s : Slice) (p rest key : List ℕ) → read_label (forms_of mode) n s.bits ≡ Ok (p, rest) → length p < n → key ≡ p → GivesWalk r (top_fork closed (walk n mode) mode (n - length p - 1) key rest s.refs) → GivesWalk r (top_edge closed mode n s)
unfolding top_edge
fork_gives r closed mode n s p rest key l lt k h =
    let P : Result Edge Fault → Type 0 = λ z. GivesWalk r z in
    let Q : List ℕ → Type 0 = λ z. GivesWalk r (top_fork closed (walk n mode) mode (n - length p - 1) z rest s.refs) in
    subst P (sym (bind_on (as_fault (read_label (forms_of mode) n s.bits)) _ (p, rest) (top_fork closed (walk n mode) mode (n - length p - 1) p rest s.refs) (ap as_fault l) (when_false (nat_eq n (length p)) _ _ (not_equal n (length p) (λ e. omega (arith, e, lt))))))
    (subst Q k h)

fault_gives : (w : WalkError) (f : Fault) → Faults [] w f → GivesWalk (Err w) (Err f)
fault_gives errors.NoMemory f h = tt
fault_gives (errors.Stuck q c) f h = h

pub label_gives : (w : WalkError) (e : LabelError) (closed : Bool) (mode : Mode) (n : ℕ) (s : Slice) → read_label (forms_of mode) n s.bits ≡ Err e → Faults [] w (here (cause_of e)) → GivesWalk (Err w) (top_edge closed mode n s)
unfolding top_edge
label_gives w e closed mode n s l h =
    let P : Result Edge Fault → Type 0 = λ z. GivesWalk (Err w) z in
    subst P (sym (ap (λ z. as_fault z >>= λ x. at_top closed mode n x.0 x.1 s.refs) l)) (fault_gives w (here (cause_of e)) h)

-- ---- what it means

pub means : (closed : Bool) (mode : Mode) (n : ℕ) (s : Slice) (r : Result Walk WalkError) → GivesWalk r (top_edge closed mode n s) → Means closed mode n s r
means closed mode n s (Err errors.NoMemory) h = tt
means closed mode n s (Ok w) h = go (top_edge closed mode n s) refl h
  where
    go : (x : Result Edge Fault) → top_edge closed mode n s ≡ x → GivesWalk (Ok w) x → Means closed mode n s (Ok w)
    go (Ok e) k g = (e, top_sound closed mode n s e k, g)
    go (Err f) k g = absurd g
means closed mode n s (Err (errors.Stuck q c)) h = go (top_edge closed mode n s) refl h
  where
    go : (x : Result Edge Fault) → top_edge closed mode n s ≡ x → GivesWalk (Err (errors.Stuck q c)) x → Means closed mode n s (Err (errors.Stuck q c))
    go (Ok e) k g = absurd g
    go (Err f) k g =
        let same : (◌≡◌ {A = Fault} f (record { prefix = q; cause = c })) = λ i. record { prefix = (sym g.0) i; cause = (sym g.1) i } in
        let P : Fault → Type 0 = HaltsTop closed mode n s in
        subst P same (top_refused closed mode n s f k)
