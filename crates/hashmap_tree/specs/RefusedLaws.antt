-- Where the walk gives a fault, it is the first one.
use Rattle.std.proofs.Common.{◌≡◌, ◌≢◌, ℕ, zero, suc, ◌+◌, ◌-◌, ◌<◌, Bool, true, false, cond, List, [], ◌∷◌, ◌++◌, length, Option, Some, None, Result, Ok, Err, refl, sym, ap, ◌∙◌, arith, nat_eq, ◌⊎◌, inl, inr}
use Rattle.std.proofs.lemmas.Bool.{eqb-false}
use Rattle.cell_nodes.specs.declared.tree.Tree.{Tree, out-Tree}
use Rattle.cell_nodes.specs.declared.tree.Kind.{Kind}
use Rattle.cell_nodes.specs.declared.tree.Kind.TheVariants.{Ordinary, Pruned, Library, Proof, Update}
use Rattle.cell_nodes.specs.declared.tree.Hidden.{Hidden}
use Rattle.hashmap_labels.specs.Labels.{IsLabel}
use Rattle.hashmap_labels.specs.Reading.{read_label}
use Rattle.hashmap_tree.specs.CellLaws.{label_sound, label_refused, ordinary_cell}
use Rattle.hashmap_labels.specs.declared.labels.LabelError.{LabelError}
use Rattle.hashmap_tree.specs.Dict.{forms_of, unseen}
use Rattle.hashmap_tree.specs.Entries.{Slice, content, leaf, Entries}
use Rattle.hashmap_tree.specs.Walk.{Fault, here, below, cause_of, as_fault, inside, Walker, open_branch, branch_of, branch, branches, forks, at_label, walk}
use Rattle.hashmap_tree.specs.Halts.{Halts, no_label, few_refs, left_over, in_zero, in_one, HaltsBranch, exotic, within}
use Rattle.cell_nodes.specs.declared.tree.Mode.{Mode}
use Rattle.hashmap_tree.specs.StepLaws.{bind_err}
use Rattle.hashmap_tree.specs.SoundLaws.{IsSound, branch_sound, walk_sound, label_ok}

abbrev pub IsRefused : Mode → ℕ → Walker → Type 0
IsRefused mode top W = (m : ℕ) (s : Slice) (g : Fault) → m < top → W m s ≡ Err g → Halts mode m s g

err_one : (f g : Fault) → (◌≡◌ {A = Result Entries Fault} (Err f) (Err g)) → f ≡ g
err_one f g e = cc

pub inside_err : (p : List ℕ) (r : Result Entries Fault) (g : Fault) → inside p r ≡ Err g
    → (f : Fault) × (r ≡ Err f) × (g ≡ below p f)
inside_err p (Ok es) g e = cc
inside_err p (Err f) g e = (f, refl, sym (err_one _ _ e))

pub label_err : (r : Result (List ℕ × List ℕ) LabelError) (g : Fault) → as_fault r ≡ Err g
    → (e : LabelError) × (r ≡ Err e) × (g ≡ here (cause_of e))
label_err (Ok a) g e = cc
label_err (Err f) g e = (f, refl, go _ _ e)
  where
    go : (f g : Fault) → (◌≡◌ {A = Result (List ℕ × List ℕ) Fault} (Err f) (Err g)) → g ≡ f
    go f g e = cc

open_refused : (mode : Mode) (top : ℕ) (W : Walker) → IsRefused mode top W → (m : ℕ) (c : Tree) (g : Fault) → m < top
    → unseen mode c ≡ None → open_branch W m (out-Tree c).kind (content c) ≡ Err g → HaltsBranch mode m c g
open_refused mode top W refused m c g lt u e = go (out-Tree c).kind refl e
  where
    apart : (k : Kind) → (k ≡ Ordinary → ⊥) → (out-Tree c).kind ≡ k → (out-Tree c).kind ≢ Ordinary
    apart k h e f = h (sym e ∙ f)

    go : (k : Kind) → (out-Tree c).kind ≡ k → open_branch W m k (content c) ≡ Err g → HaltsBranch mode m c g
    go Ordinary k e = within mode m c g (content c) (ordinary_cell c k) (refused m (content c) g lt e)
    go Pruned k e = exotic mode m c g (apart Pruned (λ f. cc) k) u (sym (err_one _ _ e))
    go Library k e = exotic mode m c g (apart Library (λ f. cc) k) u (sym (err_one _ _ e))
    go Proof k e = exotic mode m c g (apart Proof (λ f. cc) k) u (sym (err_one _ _ e))
    go Update k e = exotic mode m c g (apart Update (λ f. cc) k) u (sym (err_one _ _ e))

pub branch_refused : (mode : Mode) (top : ℕ) (W : Walker) → IsRefused mode top W → (m : ℕ) (c : Tree) (g : Fault)
    → m < top → branch W mode m c ≡ Err g → HaltsBranch mode m c g
branch_refused mode top W refused m c g lt e = go (unseen mode c) refl e
  where
    go : (h : Option Hidden) → unseen mode c ≡ h → branch_of W m h (out-Tree c).kind (content c) ≡ Err g
        → HaltsBranch mode m c g
    go (Some h) u e = cc
    go None u e = open_refused mode top W refused m c g lt u e

pub inside_good : (p : List ℕ) (r : Result Entries Fault) (x : Entries) → inside p r ≡ Ok x
    → (es : Entries) × (r ≡ Ok es)
inside_good p (Ok es) x e = (es, refl)
inside_good p (Err f) x e = cc

branches_refused : (mode : Mode) (top : ℕ) (W : Walker) → IsSound mode top W → IsRefused mode top W
    → (n m : ℕ) (s : Slice) (p : List ℕ) (z o : Tree) (g : Fault) → m < top
    → IsLabel (forms_of mode) n p s.bits [] → n ≡ length p + suc m → s.refs ≡ z ∷ (o ∷ []) → branches W mode m p z o ≡ Err g → Halts mode n s g
branches_refused mode top W sound refused n m s p z o g lt l len refs e = elim (bind_err (inside (p ++ 0 ∷ []) (branch W mode m z)) _ g e) as (λ _. Halts mode n s g) [
  | inl h ↦
      let k = inside_err (p ++ 0 ∷ []) (branch W mode m z) g h in
      in_zero mode n s g p m z o k.0 l len refs (branch_refused mode top W refused m z k.0 lt k.1) k.2
  | inr h ↦ right h.0 (inside_good (p ++ 0 ∷ []) (branch W mode m z) h.0 h.1) (bind_err (inside (p ++ 1 ∷ []) (branch W mode m o)) _ g h.2)
]
  where
    right : (ys : Entries) → (zs : Entries) × (branch W mode m z ≡ Ok zs)
        → (inside (p ++ 1 ∷ []) (branch W mode m o) ≡ Err g) ⊎ ((x : Entries) × (inside (p ++ 1 ∷ []) (branch W mode m o) ≡ Ok x) × (◌≡◌ {A = Result Entries Fault} (Ok (ys ++ x)) (Err g)))
        → Halts mode n s g
    right ys zs (inl h) =
        let k = inside_err (p ++ 1 ∷ []) (branch W mode m o) g h in
        in_one mode n s g p m z o zs.0 k.0 l len refs (branch_sound mode top W sound m z zs.0 lt zs.1) (branch_refused mode top W refused m o k.0 lt k.1) k.2
    right ys zs (inr h) = absurd (never _ h.2)
      where
        never : (es : Entries) → (◌≡◌ {A = Result Entries Fault} (Ok es) (Err g)) → ⊥
        never es e = cc

pub some : {A : Type 0} (x : A) (xs : List A) → x ∷ xs ≢ []
some x xs e = cc

forks_refused : (mode : Mode) (top : ℕ) (W : Walker) → IsSound mode top W → IsRefused mode top W
    → (n m : ℕ) (s : Slice) (p bits : List ℕ) (refs : List Tree) (g : Fault) → m < top
    → IsLabel (forms_of mode) n p s.bits bits → n ≡ length p + suc m → s.refs ≡ refs → forks W mode m p bits refs ≡ Err g → Halts mode n s g
forks_refused mode top W sound refused n m s p bits [] g lt l len e f =
    few_refs mode n s g p bits l (omega (arith, len)) (let z : length s.refs ≡ 0 = ap length e in omega (arith, z)) (sym (err_one _ _ f))
forks_refused mode top W sound refused n m s p bits (z ∷ []) g lt l len e f =
    few_refs mode n s g p bits l (omega (arith, len)) (let z : length s.refs ≡ 1 = ap length e in omega (arith, z)) (sym (err_one _ _ f))
forks_refused mode top W sound refused n m s p [] (z ∷ o ∷ []) g lt l len e f =
    branches_refused mode top W sound refused n m s p z o g lt l len e f
forks_refused mode top W sound refused n m s p (b ∷ bits) (z ∷ o ∷ []) g lt l len e f =
    left_over mode n s g p (b ∷ bits) z o [] l (omega (arith, len)) e (inl (some b bits)) (sym (err_one _ _ f))
forks_refused mode top W sound refused n m s p [] (z ∷ o ∷ t ∷ ts) g lt l len e f =
    left_over mode n s g p [] z o (t ∷ ts) l (omega (arith, len)) e (inr (some t ts)) (sym (err_one _ _ f))
forks_refused mode top W sound refused n m s p (b ∷ bits) (z ∷ o ∷ t ∷ ts) g lt l len e f =
    left_over mode n s g p (b ∷ bits) z o (t ∷ ts) l (omega (arith, len)) e (inr (some t ts)) (sym (err_one _ _ f))

at_label_refused : (mode : Mode) (f : ℕ) (W : Walker) → IsSound mode f W → IsRefused mode f W
    → (n : ℕ) (p bits : List ℕ) (s : Slice) (g : Fault) → n < suc f → IsLabel (forms_of mode) n p s.bits bits
    → at_label W mode n p bits s.refs ≡ Err g → Halts mode n s g
at_label_refused mode f W sound refused n p bits s g lt l e = go (nat_eq n (length p)) refl e
  where
    go : (b : Bool) → nat_eq n (length p) ≡ b
        → cond b (Ok (let x : Entries = (p, leaf (record { bits = bits; refs = s.refs })) ∷ [] in x)) (forks W mode (n - length p - 1) p bits s.refs) ≡ Err g
        → Halts mode n s g
    go true h e = cc
    go false h e =
        let le = l.1 in
        let ne = eqb-false n (length p) h in
        let same : n ≡ length p + suc (n - length p - 1) = omega (arith, le, ne) in
        forks_refused mode f W sound refused n (n - length p - 1) s p bits s.refs g (omega (arith, lt, le, ne)) l same refl e

pub walk_refused : (f : ℕ) (mode : Mode) → IsRefused mode f (walk f mode)
unfolding walk
walk_refused zero mode n s g lt e = absurd (omega (arith, lt))
walk_refused (suc f) mode n s g lt e = go (bind_err (as_fault (read_label (forms_of mode) n s.bits)) _ g e) (walk_refused f mode)
  where
    go : (as_fault (read_label (forms_of mode) n s.bits) ≡ Err g) ⊎ ((x : List ℕ × List ℕ) × (as_fault (read_label (forms_of mode) n s.bits) ≡ Ok x) × (at_label (walk f mode) mode n x.0 x.1 s.refs ≡ Err g))
        → IsRefused mode f (walk f mode) → Halts mode n s g
    go (inl a) ih =
        let k = label_err (read_label (forms_of mode) n s.bits) g a in
        no_label mode n s g (cause_of k.0) (label_refused mode n s.bits k.0 k.1) k.2
    go (inr a) ih =
        let l = label_sound mode n s.bits a.0.0 a.0.1 (label_ok (read_label (forms_of mode) n s.bits) a.0 a.1) in
        at_label_refused mode f (walk f mode) (walk_sound f mode) ih n a.0.0 a.0.1 s g lt l a.2
