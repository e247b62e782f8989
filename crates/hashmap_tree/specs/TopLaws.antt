-- The laws of the first edge where a walk begins.
use Rattle.std.proofs.Common.{◌≡◌, ℕ, suc, ◌-◌, Bool, true, false, cond, List, [], ◌∷◌, length, Result, Ok, Err, refl, sym, ap, ◌∙◌, subst, arith, nat_eq}
use Rattle.cell_nodes.specs.declared.tree.Tree.{Tree}
use Rattle.hashmap_labels.specs.Reading.{read_label}
use Rattle.hashmap_tree.specs.Dict.{forms_of}
use Rattle.hashmap_tree.specs.Entries.{Slice, Entries, leaf}
use Rattle.hashmap_tree.specs.Walk.{◌>>=◌, Fault, as_fault, Walker, branches, forks, at_label, walk}
use Rattle.hashmap_tree.specs.First.{Edge, at_leaf, at_fork, open_fork, at_first, first_edge}
use Rattle.hashmap_tree.specs.Top.{Shut, IsTop, HaltsTop, some_left, top_fork, at_top, top_edge}
use Rattle.cell_nodes.specs.declared.tree.Mode.{Mode}
use Rattle.hashmap_tree.specs.StepLaws.{guard_ok, bind_ok, bind_on, ok_one, when_false}
use Rattle.hashmap_tree.specs.RefusedLaws.{walk_refused}
use Rattle.hashmap_tree.specs.StandsLaws.{walk_stands}
use Rattle.hashmap_tree.specs.FirstLaws.{first_sound, first_complete, first_refused, first_stands}

-- ---- in place it is the first edge

fork_open : (W : Walker) (mode : Mode) (m : ℕ) (p bits : List ℕ) (refs : List Tree)
    → top_fork false W mode m p bits refs ≡ open_fork W mode m p bits refs
fork_open W mode m p bits [] = refl
fork_open W mode m p bits (z ∷ []) = refl
fork_open W mode m p bits (z ∷ o ∷ ts) = refl

at_open : (mode : Mode) (n : ℕ) (p bits : List ℕ) (refs : List Tree)
    → at_top false mode n p bits refs ≡ at_first mode n p bits refs
at_open mode n p bits refs = ap (λ r. cond (nat_eq n (length p)) (Ok (at_leaf p (record { bits = bits; refs = refs }))) r) (fork_open (walk n mode) mode (n - length p - 1) p bits refs)

top_open : (mode : Mode) (n : ℕ) (s : Slice) → top_edge false mode n s ≡ first_edge mode n s
unfolding top_edge first_edge
top_open mode n s = go (as_fault (read_label (forms_of mode) n s.bits))
  where
    go : (r : Result (List ℕ × List ℕ) Fault)
        → (r >>= λ x. at_top false mode n x.0 x.1 s.refs) ≡ (r >>= λ x. at_first mode n x.0 x.1 s.refs)
    go (Ok x) = at_open mode n x.0 x.1 s.refs
    go (Err f) = refl

-- ---- as the whole content of a cell

none_left : (bits : List ℕ) (ts : List Tree) → some_left bits ts ≡ false
    → (◌≡◌ {A = Slice} (record { bits = bits; refs = ts }) (record { bits = []; refs = [] }))
none_left [] [] e = refl
none_left [] (t ∷ ts) e = cc
none_left (b ∷ bits) [] e = cc
none_left (b ∷ bits) (t ∷ ts) e = cc

fork_shut : (W : Walker) (mode : Mode) (m : ℕ) (p bits : List ℕ) (refs : List Tree) (e : Edge)
    → top_fork true W mode m p bits refs ≡ Ok e → (open_fork W mode m p bits refs ≡ Ok e) × Shut e
fork_shut W mode m p bits [] e k = cc
fork_shut W mode m p bits (z ∷ []) e k = cc
fork_shut W mode m p bits (z ∷ o ∷ ts) e k =
    let g = guard_ok (some_left bits ts) _ _ e k in
    let a = bind_ok (branches W mode m p z o) _ e g.1 in
    let P : Edge → Type 0 = Shut in
    (g.1, subst P (ok_one _ _ (Ok e) a.2) (none_left bits ts g.0))

shut_fork : (W : Walker) (mode : Mode) (m : ℕ) (p bits : List ℕ) (refs : List Tree) (e : Edge)
    → open_fork W mode m p bits refs ≡ Ok e → Shut e → top_fork true W mode m p bits refs ≡ Ok e
shut_fork W mode m p bits [] e k h = k
shut_fork W mode m p bits (z ∷ []) e k h = k
shut_fork W mode m p bits (z ∷ o ∷ ts) e k h =
    let a = bind_ok (branches W mode m p z o) _ e k in
    let P : Edge → Type 0 = Shut in
    let none : (◌≡◌ {A = Slice} (record { bits = bits; refs = ts }) (record { bits = []; refs = [] })) = subst P (sym (ok_one _ _ (Ok e) a.2)) h in
    when_false (some_left bits ts) _ _ (λ i. some_left ((none i).bits) ((none i).refs)) ∙ k

at_shut : (mode : Mode) (n : ℕ) (p bits : List ℕ) (refs : List Tree) (e : Edge)
    → at_top true mode n p bits refs ≡ Ok e → (at_first mode n p bits refs ≡ Ok e) × Shut e
at_shut mode n p bits refs e k = go (nat_eq n (length p)) k
  where
    go : (b : Bool)
        → cond b (Ok (at_leaf p (record { bits = bits; refs = refs }))) (top_fork true (walk n mode) mode (n - length p - 1) p bits refs) ≡ Ok e
        → (cond b (Ok (at_leaf p (record { bits = bits; refs = refs }))) (open_fork (walk n mode) mode (n - length p - 1) p bits refs) ≡ Ok e) × Shut e
    go true k = let P : Edge → Type 0 = Shut in (k, subst P (ok_one _ _ (Ok e) k) tt)
    go false k = fork_shut (walk n mode) mode (n - length p - 1) p bits refs e k

shut_at : (mode : Mode) (n : ℕ) (p bits : List ℕ) (refs : List Tree) (e : Edge) → at_first mode n p bits refs ≡ Ok e
    → Shut e → at_top true mode n p bits refs ≡ Ok e
shut_at mode n p bits refs e k h = go (nat_eq n (length p)) k
  where
    go : (b : Bool)
        → cond b (Ok (at_leaf p (record { bits = bits; refs = refs }))) (open_fork (walk n mode) mode (n - length p - 1) p bits refs) ≡ Ok e
        → cond b (Ok (at_leaf p (record { bits = bits; refs = refs }))) (top_fork true (walk n mode) mode (n - length p - 1) p bits refs) ≡ Ok e
    go true k = k
    go false k = shut_fork (walk n mode) mode (n - length p - 1) p bits refs e k h

top_shut : (mode : Mode) (n : ℕ) (s : Slice) (e : Edge) → top_edge true mode n s ≡ Ok e
    → (first_edge mode n s ≡ Ok e) × Shut e
unfolding top_edge first_edge
top_shut mode n s e k =
    let a = bind_ok (as_fault (read_label (forms_of mode) n s.bits)) _ e k in
    let r = at_shut mode n a.0.0 a.0.1 s.refs e a.2 in
    (bind_on (as_fault (read_label (forms_of mode) n s.bits)) _ a.0 (Ok e) a.1 r.0, r.1)

shut_top : (mode : Mode) (n : ℕ) (s : Slice) (e : Edge) → first_edge mode n s ≡ Ok e → Shut e
    → top_edge true mode n s ≡ Ok e
unfolding top_edge first_edge
shut_top mode n s e k h =
    let a = bind_ok (as_fault (read_label (forms_of mode) n s.bits)) _ e k in
    bind_on (as_fault (read_label (forms_of mode) n s.bits)) _ a.0 (Ok e) a.1 (shut_at mode n a.0.0 a.0.1 s.refs e a.2 h)

-- its entries are those of the walk
abbrev entries_of : Edge → Entries
entries_of (at_leaf k c) = (k, leaf c) ∷ []
entries_of (at_fork es after) = es

abbrev all_of : Result Edge Fault → Result Entries Fault
all_of (Ok e) = Ok (entries_of e)
all_of (Err f) = Err f

forks_same : (W : Walker) (mode : Mode) (m : ℕ) (p bits : List ℕ) (refs : List Tree)
    → forks W mode m p bits refs ≡ all_of (top_fork true W mode m p bits refs)
forks_same W mode m p bits [] = refl
forks_same W mode m p bits (z ∷ []) = refl
forks_same W mode m p [] (z ∷ o ∷ []) = go (branches W mode m p z o)
  where
    go : (r : Result Entries Fault) → r ≡ all_of (r >>= λ es. Ok (at_fork es (record { bits = []; refs = [] })))
    go (Ok es) = refl
    go (Err f) = refl
forks_same W mode m p (b ∷ bits) (z ∷ o ∷ []) = refl
forks_same W mode m p [] (z ∷ o ∷ t ∷ ts) = refl
forks_same W mode m p (b ∷ bits) (z ∷ o ∷ t ∷ ts) = refl

at_same : (mode : Mode) (n : ℕ) (p bits : List ℕ) (refs : List Tree)
    → at_label (walk n mode) mode n p bits refs ≡ all_of (at_top true mode n p bits refs)
at_same mode n p bits refs = go (nat_eq n (length p))
  where
    go : (b : Bool)
        → cond b (Ok (let x : Entries = (p, leaf (record { bits = bits; refs = refs })) ∷ [] in x)) (forks (walk n mode) mode (n - length p - 1) p bits refs)
        ≡ all_of (cond b (Ok (at_leaf p (record { bits = bits; refs = refs }))) (top_fork true (walk n mode) mode (n - length p - 1) p bits refs))
    go true = refl
    go false = forks_same (walk n mode) mode (n - length p - 1) p bits refs

walk_same : (mode : Mode) (n : ℕ) (s : Slice) → walk (suc n) mode n s ≡ all_of (top_edge true mode n s)
unfolding walk top_edge
walk_same mode n s = go (as_fault (read_label (forms_of mode) n s.bits))
  where
    go : (r : Result (List ℕ × List ℕ) Fault)
        → (r >>= λ x. at_label (walk n mode) mode n x.0 x.1 s.refs) ≡ all_of (r >>= λ x. at_top true mode n x.0 x.1 s.refs)
    go (Ok x) = at_same mode n x.0 x.1 s.refs
    go (Err f) = refl

fault_in : (r : Result Edge Fault) (f : Fault) → all_of r ≡ Err f → r ≡ Err f
fault_in (Ok e) f k = cc
fault_in (Err g) f k = ap Err (same _ _ k)
  where
    same : (a b : Fault) → (◌≡◌ {A = Result Entries Fault} (Err a) (Err b)) → a ≡ b
    same a b e = cc

-- ---- both

pub top_sound : (closed : Bool) (mode : Mode) (n : ℕ) (s : Slice) (e : Edge) → top_edge closed mode n s ≡ Ok e
    → IsTop closed mode n s e
top_sound true mode n s e k = let r = top_shut mode n s e k in (first_sound mode n s e r.0, r.1)
top_sound false mode n s e k = first_sound mode n s e (sym (top_open mode n s) ∙ k)

pub top_complete : (closed : Bool) (mode : Mode) (n : ℕ) (s : Slice) (e : Edge) → IsTop closed mode n s e
    → top_edge closed mode n s ≡ Ok e
top_complete true mode n s e k = shut_top mode n s e (first_complete mode n s e k.0) k.1
top_complete false mode n s e k = top_open mode n s ∙ first_complete mode n s e k

pub top_refused : (closed : Bool) (mode : Mode) (n : ℕ) (s : Slice) (f : Fault) → top_edge closed mode n s ≡ Err f
    → HaltsTop closed mode n s f
top_refused true mode n s f k = walk_refused (suc n) mode n s f (omega arith) (walk_same mode n s ∙ ap all_of k)
top_refused false mode n s f k = first_refused mode n s f (sym (top_open mode n s) ∙ k)

pub top_stands : (closed : Bool) (mode : Mode) (n : ℕ) (s : Slice) (f : Fault) → HaltsTop closed mode n s f
    → top_edge closed mode n s ≡ Err f
top_stands true mode n s f k = fault_in (top_edge true mode n s) f (sym (walk_same mode n s) ∙ walk_stands (suc n) mode n s f (omega arith) k)
top_stands false mode n s f k = top_open mode n s ∙ first_stands mode n s f k

-- ---- what is left, by its lengths

pub left_by_bits : (bits : List ℕ) (ts : List Tree) → (length bits ≡ 0 → ⊥) → some_left bits ts ≡ true
left_by_bits [] ts h = absurd (h refl)
left_by_bits (b ∷ bits) [] h = refl
left_by_bits (b ∷ bits) (t ∷ ts) h = refl

pub left_by_refs : (bits : List ℕ) (ts : List Tree) → (length ts ≡ 0 → ⊥) → some_left bits ts ≡ true
left_by_refs bits [] h = absurd (h refl)
left_by_refs [] (t ∷ ts) h = refl
left_by_refs (b ∷ bits) (t ∷ ts) h = refl

pub left_by_none : (bits : List ℕ) (ts : List Tree) → length bits ≡ 0 → length ts ≡ 0 → some_left bits ts ≡ false
left_by_none [] [] e f = refl
left_by_none (b ∷ bits) ts e f = absurd (omega (arith, e))
left_by_none [] (t ∷ ts) e f = absurd (omega (arith, f))

pub ruleset left_laws = (left_by_bits, left_by_refs, left_by_none)
