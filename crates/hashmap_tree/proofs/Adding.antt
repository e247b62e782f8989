-- What an edge and the parts of a fork add to what was found.
use Rattle.std.proofs.Common.{◌≡◌, ℕ, zero, suc, ◌<◌, List, [], ◌∷◌, ◌++◌, map, Result, Ok, Err, refl, sym, ap, ◌∙◌, subst, arith, append_assoc}
use Rattle.cell_nodes.specs.declared.tree.Tree.{Tree, out-Tree}
use Rattle.hashmap_tree.specs.Dict.{forms_of, unseen}
use Rattle.hashmap_tree.specs.Entries.{Slice, content, Entries, leaf, hidden, under, fork, pairs_in, hidden_in}
use Rattle.hashmap_tree.specs.Walk.{◌>>=◌, Fault, here, cause_of, as_fault, inside, branch_of, branch, forks, at_label, walk}
use Rattle.std.proofs.Common.{OnOk, Option, None, ◌-◌, length, nat_eq}
use Rattle.std.proofs.lemmas.Bool.{eq-eqb}
use Rattle.cell_nodes.specs.declared.tree.Hidden.{Hidden}
use Rattle.cell_nodes.specs.declared.tree.Kind.{Kind}
use Rattle.cell_nodes.specs.declared.tree.Kind.TheVariants.{Ordinary}
use Rattle.hashmap_labels.specs.Reading.{read_label}
use Rattle.hashmap_labels.specs.declared.labels.LabelError.{LabelError}
use Rattle.hashmap_tree.specs.StepLaws.{bind_on, when_true, when_false}
use Rattle.hashmap_tree.specs.CompleteLaws.{not_equal}
use Rattle.hashmap_tree.specs.Adds.{Adds, Has, OnlyMemory, Faults, pair_of}
use Rattle.cell_nodes.specs.declared.tree.Mode.{Mode}
use Rattle.hashmap_tree.specs.declared.found.WalkError.{WalkError}
use Rattle.hashmap_tree.specs.declared.found.WalkError.TheVariants as errors
use Rattle.hashmap_tree.specs.declared.found.Found.{Found}

under-under : (p q : List ℕ) (es : Entries) → under p (under q es) ≡ under (p ++ q) es
under-under p q [] = refl
under-under p q (e ∷ es) = λ i. ((sym (append_assoc p q e.0)) i, e.1) ∷ under-under p q es i

under-append : (p : List ℕ) (as_ bs : Entries) → under p (as_ ++ bs) ≡ under p as_ ++ under p bs
under-append p [] bs = refl
under-append p (a ∷ as_) bs = ap (λ l. (p ++ a.0, a.1) ∷ l) (under-append p as_ bs)

pairs-append : (as_ bs : Entries) → pairs_in (as_ ++ bs) ≡ pairs_in as_ ++ pairs_in bs
pairs-append [] bs = refl
pairs-append ((k, leaf c) ∷ as_) bs = ap (λ l. (k, c) ∷ l) (pairs-append as_ bs)
pairs-append ((k, hidden b) ∷ as_) bs = pairs-append as_ bs

hidden-append : (as_ bs : Entries) → hidden_in (as_ ++ bs) ≡ hidden_in as_ ++ hidden_in bs
hidden-append [] bs = refl
hidden-append ((k, leaf c) ∷ as_) bs = hidden-append as_ bs
hidden-append ((k, hidden b) ∷ as_) bs = ap (λ l. (k, b) ∷ l) (hidden-append as_ bs)

has_both : (old mid new : Found) (as_ bs : Entries) → Has old mid as_ → Has mid new bs → Has old new (as_ ++ bs)
has_both old mid new as_ bs a b = record {
  pairs = b.pairs ∙ ap (λ l. l ++ pairs_in bs) a.pairs ∙ append_assoc (map pair_of old.pairs.items) (pairs_in as_) (pairs_in bs) ∙ ap (λ l. map pair_of old.pairs.items ++ l) (sym (pairs-append as_ bs));
  unknown = b.unknown ∙ ap (λ l. l ++ hidden_in bs) a.unknown ∙ append_assoc old.unknown.items (hidden_in as_) (hidden_in bs) ∙ ap (λ l. old.unknown.items ++ l) (sym (hidden-append as_ bs));
}

-- the bits before a part of a fork
below : (prefix p key : List ℕ) (b : ℕ) → key ≡ prefix ++ p → key ++ b ∷ [] ≡ prefix ++ (p ++ b ∷ [])
below prefix p key b e = ap (λ l. l ++ b ∷ []) e ∙ append_assoc prefix p (b ∷ [])

pub memory : (A : Type 0) (p : List ℕ) (old new : Found) (e : WalkError) (r : Result Entries Fault) → OnlyMemory {A = A} (Err e) → Adds {A = A} p old new (Err e) r
memory A p old new errors.NoMemory r h = tt
memory A p old new (errors.Stuck q c) r h = absurd h

pub at_fault : (A : Type 0) (p : List ℕ) (old new : Found) (e : WalkError) (f : Fault) → Faults p e f → Adds {A = A} p old new (Err e) (Err f)
at_fault A p old new errors.NoMemory f h = tt
at_fault A p old new (errors.Stuck q c) f h = h

abbrev Both : List ℕ → Result Entries Fault → Result Entries Fault → Result Entries Fault
Both p rz ro = inside (p ++ 0 ∷ []) rz >>= λ zs. inside (p ++ 1 ∷ []) ro >>= λ os. Ok (zs ++ os)

pub left_fails : (A B : Type 0) (prefix p key : List ℕ) (old mid new : Found) (e : WalkError) (rz ro : Result Entries Fault) → key ≡ prefix ++ p → Adds {A = A} (key ++ 0 ∷ []) old mid (Err e) rz → Adds {A = B} prefix old new (Err e) (Both p rz ro)
left_fails A B prefix p key old mid new errors.NoMemory rz ro e h = tt
left_fails A B prefix p key old mid new (errors.Stuck q c) (Ok zs) ro e h = absurd h
left_fails A B prefix p key old mid new (errors.Stuck q c) (Err f) ro e h =
    (h.0 ∙ ap (λ l. l ++ f.prefix) (below prefix p key 0 e) ∙ append_assoc prefix (p ++ 0 ∷ []) f.prefix, h.1)

pub both : (A B : Type 0) (prefix p key : List ℕ) (old mid new : Found) (x : A) (r : Result B WalkError) (rz ro : Result Entries Fault) → key ≡ prefix ++ p
    → Adds (key ++ 0 ∷ []) old mid (Ok x) rz → Adds (key ++ 1 ∷ []) mid new r ro → Adds prefix old new r (Both p rz ro)
both A B prefix p key old mid new x r (Err f) ro e a b = absurd a
both A B prefix p key old mid new x (Ok y) (Ok zs) (Err f) e a b = absurd b
both A B prefix p key old mid new x (Ok y) (Ok zs) (Ok os) e a b =
    let P : List ℕ → Type 0 = λ q. Has old mid (under q zs) in
    let Q : List ℕ → Type 0 = λ q. Has mid new (under q os) in
    let R : Entries → Type 0 = Has old new in
    let one : under prefix (fork p zs os) ≡ under (prefix ++ (p ++ 0 ∷ [])) zs ++ under (prefix ++ (p ++ 1 ∷ [])) os =
    under-append prefix (under (p ++ 0 ∷ []) zs) (under (p ++ 1 ∷ []) os) ∙ (λ i. under-under prefix (p ++ 0 ∷ []) zs i ++ under-under prefix (p ++ 1 ∷ []) os i) in
    subst R (sym one) (has_both old mid new _ _ (subst P (below prefix p key 0 e) a) (subst Q (below prefix p key 1 e) b))
both A B prefix p key old mid new x (Err errors.NoMemory) (Ok zs) ro e a b = tt
both A B prefix p key old mid new x (Err (errors.Stuck q c)) (Ok zs) (Ok os) e a b = absurd b
both A B prefix p key old mid new x (Err (errors.Stuck q c)) (Ok zs) (Err f) e a b =
    (b.0 ∙ ap (λ l. l ++ f.prefix) (below prefix p key 1 e) ∙ append_assoc prefix (p ++ 1 ∷ []) f.prefix, b.1)

-- ---- an edge and a branch, from what their parts add

pub branch_adds : (A : Type 0) (p : List ℕ) (old new : Found) (r : Result A WalkError) (f : ℕ) (mode : Mode) (m : ℕ) (t : Tree) (bits : List ℕ) (refs : List Tree) → m < f → unseen mode t ≡ None → (out-Tree t).kind ≡ Ordinary → bits ≡ (out-Tree t).bits → refs ≡ (out-Tree t).children
    → ((g : ℕ) → m < suc g → Adds p old new r (walk (suc g) mode m (record { bits = bits; refs = refs }))) → Adds p old new r (branch (walk f mode) mode m t)
branch_adds A p old new r zero mode m t bits refs lt u k b c h = absurd (omega (arith, lt))
branch_adds A p old new r (suc g) mode m t bits refs lt u k b c h =
    let O : Option Hidden → Type 0 = λ x. Adds p old new r (branch_of (walk (suc g) mode) m x (out-Tree t).kind (content t)) in
    let P : Kind → Type 0 = λ k. Adds p old new r (branch_of (walk (suc g) mode) m None k (content t)) in
    let Q : Slice → Type 0 = λ s. Adds p old new r (walk (suc g) mode m s) in
    let same : (◌≡◌ {A = Slice} (record { bits = bits; refs = refs }) (content t)) = λ i. record { bits = b i; refs = c i } in
    subst O (sym u) (subst P (sym k) (subst Q same (h g lt)))

pub both_add : (A B : Type 0) (prefix p key left right : List ℕ) (old mid new : Found) (x : A) (r : Result B WalkError) (rz ro : Result Entries Fault) → key ≡ prefix ++ p → left ≡ key ++ 0 ∷ [] → right ≡ key ++ 1 ∷ []
    → Adds left old mid (Ok x) rz → Adds right mid new r ro → Adds prefix old new r (Both p rz ro)
both_add A B prefix p key left right old mid new x r rz ro e l m a b =
    let P : List ℕ → Type 0 = λ q. Adds q old mid (Ok x) rz in
    let Q : List ℕ → Type 0 = λ q. Adds q mid new r ro in
    both A B prefix p key old mid new x r rz ro e (subst P l a) (subst Q m b)

pub left_add : (A B : Type 0) (prefix p key left : List ℕ) (old mid new : Found) (e : WalkError) (rz ro : Result Entries Fault) → key ≡ prefix ++ p → left ≡ key ++ 0 ∷ [] → Adds {A = A} left old mid (Err e) rz → Adds {A = B} prefix old new (Err e) (Both p rz ro)
left_add A B prefix p key left old mid new e rz ro k l a =
    let P : List ℕ → Type 0 = λ q. Adds {A = A} q old mid (Err e) rz in
    left_fails A B prefix p key old mid new e rz ro k (subst P l a)

leaf_case : (A : Type 0) (prefix p key : List ℕ) (old new : Found) (r : Result A WalkError) (c : Slice) → key ≡ prefix ++ p → OnOk r (Has old new ((key, leaf c) ∷ [])) → OnlyMemory r → Adds prefix old new r (Ok ((p, leaf c) ∷ []))
leaf_case A prefix p key old new (Ok x) c e h o = let P : List ℕ → Type 0 = λ k. Has old new ((k, leaf c) ∷ []) in subst P e h
leaf_case A prefix p key old new (Err errors.NoMemory) c e h o = tt
leaf_case A prefix p key old new (Err (errors.Stuck q d)) c e h o = absurd o

pub leaf_adds : (A : Type 0) (prefix p key rest : List ℕ) (old new : Found) (r : Result A WalkError) (f : ℕ) (mode : Mode) (n : ℕ) (s : Slice) → read_label (forms_of mode) n s.bits ≡ Ok (p, rest) → n ≡ length p → key ≡ prefix ++ p
    → OnOk r (Has old new ((key, leaf (record { bits = rest; refs = s.refs })) ∷ [])) → OnlyMemory r → Adds prefix old new r (walk (suc f) mode n s)
unfolding walk
leaf_adds A prefix p key rest old new r f mode n s l e k h o =
    let P : Result Entries Fault → Type 0 = Adds prefix old new r in
    let c : Slice = record { bits = rest; refs = s.refs } in
    subst P (sym (bind_on (as_fault (read_label (forms_of mode) n s.bits)) _ (p, rest) (Ok ((p, leaf c) ∷ [])) (ap as_fault l) (when_true (nat_eq n (length p)) _ _ (eq-eqb n (length p) e))))
    (leaf_case A prefix p key old new r c k h o)

pub fork_adds : (A : Type 0) (prefix p rest : List ℕ) (old new : Found) (r : Result A WalkError) (f : ℕ) (mode : Mode) (n : ℕ) (s : Slice) → read_label (forms_of mode) n s.bits ≡ Ok (p, rest) → length p < n
    → Adds prefix old new r (forks (walk f mode) mode (n - length p - 1) p rest s.refs) → Adds prefix old new r (walk (suc f) mode n s)
unfolding walk
fork_adds A prefix p rest old new r f mode n s l lt h =
    let P : Result Entries Fault → Type 0 = Adds prefix old new r in
    subst P (sym (bind_on (as_fault (read_label (forms_of mode) n s.bits)) _ (p, rest) (forks (walk f mode) mode (n - length p - 1) p rest s.refs) (ap as_fault l) (when_false (nat_eq n (length p)) _ _ (not_equal n (length p) (λ e. omega (arith, e, lt)))))) h

pub label_adds : (A : Type 0) (prefix : List ℕ) (old new : Found) (w : WalkError) (e : LabelError) (f : ℕ) (mode : Mode) (n : ℕ) (s : Slice) → read_label (forms_of mode) n s.bits ≡ Err e → Faults prefix w (here (cause_of e)) → Adds {A = A} prefix old new (Err w) (walk (suc f) mode n s)
unfolding walk
label_adds A prefix old new w e f mode n s l h =
    let P : Result Entries Fault → Type 0 = Adds {A = A} prefix old new (Err w) in
    subst P (sym (ap (λ z. as_fault z >>= λ x. at_label (walk f mode) mode n x.0 x.1 s.refs) l)) (at_fault A prefix old new w (here (cause_of e)) h)

under-nil : (es : Entries) → under [] es ≡ es
under-nil [] = refl
under-nil (e ∷ es) = ap (λ l. e ∷ l) (under-nil es)
