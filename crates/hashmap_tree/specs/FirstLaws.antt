-- The laws of the first edge.
use Rattle.std.proofs.Common.{◌≡◌, ℕ, suc, ◌+◌, ◌-◌, ◌<◌, Bool, true, false, cond, List, [], ◌∷◌, ◌++◌, length, Result, Ok, Err, refl, sym, ap, ◌∙◌, subst, arith, nat_eq, inl, inr}
use Rattle.std.proofs.lemmas.Bool.{eqb-true, eqb-false, eq-eqb}
use Rattle.cell_nodes.specs.declared.tree.Tree.{Tree}
use Rattle.hashmap_labels.specs.Labels.{IsLabel}
use Rattle.hashmap_labels.specs.Reading.{read_label}
use Rattle.hashmap_tree.specs.CellLaws.{label_sound, label_complete, label_refused, refused_label}
use Rattle.hashmap_tree.specs.Entries.{Slice, Entries, under, fork}
use Rattle.hashmap_tree.specs.Dict.{forms_of, Branch}
use Rattle.hashmap_tree.specs.Walk.{◌>>=◌, Fault, here, cause_of, as_fault, inside, branch, branches, walk}
use Rattle.hashmap_tree.specs.First.{Edge, at_leaf, at_fork, LeafEdge, Fork, forked, IsEdge, open_fork, at_first, first_edge, HaltsFirst, first_label, first_refs, first_zero, first_one}
use Rattle.cell_nodes.specs.declared.tree.Mode.{Mode}
use Rattle.hashmap_tree.specs.declared.found.WalkCause.{WalkCause}
use Rattle.hashmap_tree.specs.declared.found.WalkCause.TheVariants as cause
use Rattle.hashmap_tree.specs.StepLaws.{bind_ok, bind_err, bind_on, ok_one, when_true, when_false}
use Rattle.hashmap_tree.specs.SoundLaws.{branches_sound, branch_sound, walk_sound, label_ok}
use Rattle.hashmap_tree.specs.CompleteLaws.{not_equal, branch_complete}
use Rattle.hashmap_tree.specs.RefusedLaws.{inside_err, inside_good, label_err, branch_refused, walk_refused}
use Rattle.hashmap_tree.specs.StandsLaws.{bind_fault, branch_stands}

-- ---- what is walked

fork_sound : (mode : Mode) (n m : ℕ) (s : Slice) (p bits : List ℕ) (refs : List Tree) (e : Edge) → m < n
    → n ≡ length p + suc m → IsLabel (forms_of mode) n p s.bits bits → s.refs ≡ refs
    → open_fork (walk n mode) mode m p bits refs ≡ Ok e → IsEdge mode n s e
fork_sound mode n m s p bits [] e lt len l r k = cc
fork_sound mode n m s p bits (z ∷ []) e lt len l r k = cc
fork_sound mode n m s p bits (z ∷ o ∷ ts) e lt len l r k =
    let a = bind_ok (branches (walk n mode) mode m p z o) _ e k in
    let b = branches_sound mode n (walk n mode) (walk_sound n mode) m p z o a.0 lt a.1 in
    let P : Edge → Type 0 = IsEdge mode n s in
    subst P (ok_one _ _ (Ok e) a.2) (forked p m b.0 b.1 z o b.2 len l r b.3 b.4)

at_sound : (mode : Mode) (n : ℕ) (s : Slice) (p bits : List ℕ) (e : Edge) → IsLabel (forms_of mode) n p s.bits bits
    → at_first mode n p bits s.refs ≡ Ok e → IsEdge mode n s e
at_sound mode n s p bits e l k = go (nat_eq n (length p)) refl k
  where
    go : (b : Bool) → nat_eq n (length p) ≡ b
        → cond b (Ok (at_leaf p (record { bits = bits; refs = s.refs }))) (open_fork (walk n mode) mode (n - length p - 1) p bits s.refs) ≡ Ok e
        → IsEdge mode n s e
    go true h k =
        let P : Edge → Type 0 = IsEdge mode n s in
        let leaf : IsEdge mode n s (at_leaf p (record { bits = bits; refs = s.refs })) = record { long = sym (eqb-true n (length p) h); label = l; refs = refl } in
        subst P (ok_one _ _ (Ok e) k) leaf
    go false h k =
        let le = l.1 in
        let ne = eqb-false n (length p) h in
        let same : n ≡ length p + suc (n - length p - 1) = omega (arith, le, ne) in
        fork_sound mode n (n - length p - 1) s p bits s.refs e (omega (arith, le, ne)) same l refl k

pub first_sound : (mode : Mode) (n : ℕ) (s : Slice) (e : Edge) → first_edge mode n s ≡ Ok e → IsEdge mode n s e
unfolding first_edge
first_sound mode n s e k =
    let a = bind_ok (as_fault (read_label (forms_of mode) n s.bits)) _ e k in
    at_sound mode n s a.0.0 a.0.1 e (label_sound mode n s.bits a.0.0 a.0.1 (label_ok (read_label (forms_of mode) n s.bits) a.0 a.1)) a.2

-- ---- what is an edge is walked

past_first : (mode : Mode) (n : ℕ) (s : Slice) (p rest : List ℕ) (y : Result Edge Fault)
    → IsLabel (forms_of mode) n p s.bits rest → length p < n
    → open_fork (walk n mode) mode (n - length p - 1) p rest s.refs ≡ y → first_edge mode n s ≡ y
unfolding first_edge
past_first mode n s p rest y l lt e =
    bind_on (as_fault (read_label (forms_of mode) n s.bits)) _ (p, rest) y (ap as_fault (label_complete mode n s.bits p rest l))
    (when_false (nat_eq n (length p)) _ _ (not_equal n (length p) (λ e. omega (arith, e, lt))) ∙ e)

both_walked : (mode : Mode) (n m : ℕ) (p : List ℕ) (zs os : Entries) (z o : Tree) → m < n → Branch mode m zs z
    → Branch mode m os o → branches (walk n mode) mode m p z o ≡ Ok (fork p zs os)
both_walked mode n m p zs os z o lt dz do_ =
    bind_on (inside (p ++ 0 ∷ []) (branch (walk n mode) mode m z)) _ (under (p ++ 0 ∷ []) zs) (Ok (fork p zs os)) (ap (inside (p ++ 0 ∷ [])) (branch_complete n mode m zs z lt dz))
    (bind_on (inside (p ++ 1 ∷ []) (branch (walk n mode) mode m o)) _ (under (p ++ 1 ∷ []) os) (Ok (fork p zs os)) (ap (inside (p ++ 1 ∷ [])) (branch_complete n mode m os o lt do_)) refl)

pub leaf_complete : (mode : Mode) (n : ℕ) (s : Slice) (k : List ℕ) (middle : Slice) → LeafEdge mode n k s middle
    → first_edge mode n s ≡ Ok (at_leaf k middle)
unfolding first_edge
leaf_complete mode n s k middle e =
    bind_on (as_fault (read_label (forms_of mode) n s.bits)) _ (k, middle.bits) (Ok (at_leaf k middle)) (ap as_fault (label_complete mode n s.bits k middle.bits e.label))
    (when_true (nat_eq n (length k)) _ _ (eq-eqb n (length k) (sym e.long)) ∙ (λ i. Ok (at_leaf k (record { bits = middle.bits; refs = e.refs i }))))

pub fork_complete : (mode : Mode) (n : ℕ) (s : Slice) (es : Entries) (after : Slice) → Fork mode n es s after
    → first_edge mode n s ≡ Ok (at_fork es after)
fork_complete mode n s es after (forked p m zs os z o same len l refs dz do_) =
    let left : n - length p - 1 ≡ m = omega (arith, len) in
    past_first mode n s p after.bits (Ok (at_fork es after)) l (omega (arith, len))
    ((λ i. open_fork (walk n mode) mode (left i) p after.bits (refs i))
    ∙ bind_on (branches (walk n mode) mode m p z o) _ (fork p zs os) (Ok (at_fork es after)) (both_walked mode n m p zs os z o (omega (arith, len)) dz do_)
    (ap (λ (x : Entries). Ok (at_fork x after)) (sym same)))

pub first_complete : (mode : Mode) (n : ℕ) (s : Slice) (e : Edge) → IsEdge mode n s e → first_edge mode n s ≡ Ok e
first_complete mode n s (at_leaf k middle) e = leaf_complete mode n s k middle e
first_complete mode n s (at_fork es after) e = fork_complete mode n s es after e

-- ---- where it stops

err_same : {A : Type 0} (f g : Fault) → (◌≡◌ {A = Result A Fault} (Err f) (Err g)) → g ≡ f
err_same f g e = cc

then_ok : {A B : Type 0} (r : Result A Fault) (f : A → B) (g : Fault) → (r >>= λ x. Ok (f x)) ≡ Err g → r ≡ Err g
then_ok (Ok x) f g e = cc
then_ok (Err h) f g e = ap Err (sym (err_same _ _ e))

branches_refused : (mode : Mode) (n m : ℕ) (s : Slice) (p rest : List ℕ) (z o : Tree) (ts : List Tree) (g : Fault)
    → m < n → IsLabel (forms_of mode) n p s.bits rest → n ≡ length p + suc m → s.refs ≡ z ∷ (o ∷ ts)
    → branches (walk n mode) mode m p z o ≡ Err g → HaltsFirst mode n s g
branches_refused mode n m s p rest z o ts g lt l len refs e = elim (bind_err (inside (p ++ 0 ∷ []) (branch (walk n mode) mode m z)) _ g e) as (λ _. HaltsFirst mode n s g) [
  | inl h ↦
      let k = inside_err (p ++ 0 ∷ []) (branch (walk n mode) mode m z) g h in
      first_zero p rest m z o ts k.0 l len refs (branch_refused mode n (walk n mode) (walk_refused n mode) m z k.0 lt k.1) k.2
  | inr h ↦ right (inside_good (p ++ 0 ∷ []) (branch (walk n mode) mode m z) h.0 h.1) (then_ok (inside (p ++ 1 ∷ []) (branch (walk n mode) mode m o)) _ g h.2)
]
  where
    right : (zs : Entries) × (branch (walk n mode) mode m z ≡ Ok zs)
        → inside (p ++ 1 ∷ []) (branch (walk n mode) mode m o) ≡ Err g → HaltsFirst mode n s g
    right zs h =
        let k = inside_err (p ++ 1 ∷ []) (branch (walk n mode) mode m o) g h in
        first_one p rest m z o ts zs.0 k.0 l len refs (branch_sound mode n (walk n mode) (walk_sound n mode) m z zs.0 lt zs.1) (branch_refused mode n (walk n mode) (walk_refused n mode) m o k.0 lt k.1) k.2

fork_refused : (mode : Mode) (n m : ℕ) (s : Slice) (p bits : List ℕ) (refs : List Tree) (g : Fault) → m < n
    → n ≡ length p + suc m → IsLabel (forms_of mode) n p s.bits bits → s.refs ≡ refs
    → open_fork (walk n mode) mode m p bits refs ≡ Err g → HaltsFirst mode n s g
fork_refused mode n m s p bits [] g lt len l r e =
    first_refs p bits l (omega (arith, len)) (let z : length s.refs ≡ 0 = ap length r in omega (arith, z)) (err_same _ _ e)
fork_refused mode n m s p bits (z ∷ []) g lt len l r e =
    first_refs p bits l (omega (arith, len)) (let z : length s.refs ≡ 1 = ap length r in omega (arith, z)) (err_same _ _ e)
fork_refused mode n m s p bits (z ∷ o ∷ ts) g lt len l r e =
    branches_refused mode n m s p bits z o ts g lt l len r (then_ok (branches (walk n mode) mode m p z o) _ g e)

at_refused : (mode : Mode) (n : ℕ) (s : Slice) (p bits : List ℕ) (g : Fault) → IsLabel (forms_of mode) n p s.bits bits
    → at_first mode n p bits s.refs ≡ Err g → HaltsFirst mode n s g
at_refused mode n s p bits g l e = go (nat_eq n (length p)) refl e
  where
    go : (b : Bool) → nat_eq n (length p) ≡ b
        → cond b (Ok (at_leaf p (record { bits = bits; refs = s.refs }))) (open_fork (walk n mode) mode (n - length p - 1) p bits s.refs) ≡ Err g
        → HaltsFirst mode n s g
    go true h e = cc
    go false h e =
        let le = l.1 in
        let ne = eqb-false n (length p) h in
        let same : n ≡ length p + suc (n - length p - 1) = omega (arith, le, ne) in
        fork_refused mode n (n - length p - 1) s p bits s.refs g (omega (arith, le, ne)) same l refl e

pub first_refused : (mode : Mode) (n : ℕ) (s : Slice) (g : Fault) → first_edge mode n s ≡ Err g → HaltsFirst mode n s g
unfolding first_edge
first_refused mode n s g e = elim (bind_err (as_fault (read_label (forms_of mode) n s.bits)) _ g e) as (λ _. HaltsFirst mode n s g) [
  | inl a ↦ let k = label_err (read_label (forms_of mode) n s.bits) g a in first_label (cause_of k.0) (label_refused mode n s.bits k.0 k.1) k.2
  | inr a ↦ at_refused mode n s a.0.0 a.0.1 g (label_sound mode n s.bits a.0.0 a.0.1 (label_ok (read_label (forms_of mode) n s.bits) a.0 a.1)) a.2
]

few : (mode : Mode) (n m : ℕ) (p bits : List ℕ) (refs : List Tree) → length refs < 2
    → open_fork (walk n mode) mode m p bits refs ≡ Err (here cause.ShortRefs)
few mode n m p bits [] h = refl
few mode n m p bits (z ∷ []) h = refl
few mode n m p bits (z ∷ o ∷ ts) h = absurd (omega (arith, h))

pub first_stands : (mode : Mode) (n : ℕ) (s : Slice) (g : Fault) → HaltsFirst mode n s g → first_edge mode n s ≡ Err g
unfolding first_edge
first_stands mode n s g (first_label w nil same) =
    let r = refused_label mode n s.bits w nil in
    bind_fault (as_fault (read_label (forms_of mode) n s.bits)) _ g (ap as_fault r.1 ∙ ap (λ (c : WalkCause). Err (here c)) (sym r.2) ∙ ap Err (sym same))
first_stands mode n s g (first_refs p rest l short two same) =
    past_first mode n s p rest (Err g) l short (few mode n (n - length p - 1) p rest s.refs two ∙ ap Err (sym same))
first_stands mode n s g (first_zero p rest m z o ts q l len refs h same) =
    let left : n - length p - 1 ≡ m = omega (arith, len) in
    past_first mode n s p rest (Err g) l (omega (arith, len))
    ((λ i. open_fork (walk n mode) mode (left i) p rest (refs i))
    ∙ bind_fault (branches (walk n mode) mode m p z o) _ g
    (bind_fault (inside (p ++ 0 ∷ []) (branch (walk n mode) mode m z)) _ g (ap (inside (p ++ 0 ∷ [])) (branch_stands n mode m z q (omega (arith, len)) h) ∙ ap Err (sym same))))
first_stands mode n s g (first_one p rest m z o ts zs q l len refs d h same) =
    let left : n - length p - 1 ≡ m = omega (arith, len) in
    past_first mode n s p rest (Err g) l (omega (arith, len))
    ((λ i. open_fork (walk n mode) mode (left i) p rest (refs i))
    ∙ bind_fault (branches (walk n mode) mode m p z o) _ g
    (bind_on (inside (p ++ 0 ∷ []) (branch (walk n mode) mode m z)) _ (under (p ++ 0 ∷ []) zs) (Err g) (ap (inside (p ++ 0 ∷ [])) (branch_complete n mode m zs z (omega (arith, len)) d))
    (bind_fault (inside (p ++ 1 ∷ []) (branch (walk n mode) mode m o)) _ g (ap (inside (p ++ 1 ∷ [])) (branch_stands n mode m o q (omega (arith, len)) h) ∙ ap Err (sym same)))))
