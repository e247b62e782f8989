-- The entries that the walk gives have the content as their tree.
use Rattle.std.proofs.Common.{◌≡◌, ℕ, zero, suc, ◌+◌, ◌-◌, ◌<◌, Bool, true, false, cond, List, [], ◌∷◌, ◌++◌, length, Option, Some, None, Result, Ok, Err, refl, sym, ap, ◌∙◌, subst, arith, nat_eq}
use Rattle.std.proofs.lemmas.Bool.{eqb-true, eqb-false}
use Rattle.cell_nodes.specs.declared.tree.Tree.{Tree, out-Tree}
use Rattle.cell_nodes.specs.declared.tree.Kind.{Kind}
use Rattle.cell_nodes.specs.declared.tree.Kind.TheVariants.{Ordinary, Pruned, Library, Proof, Update}
use Rattle.cell_nodes.specs.declared.tree.Hidden.{Hidden}
use Rattle.hashmap_labels.specs.Labels.{IsLabel}
use Rattle.hashmap_labels.specs.Reading.{read_label}
use Rattle.hashmap_tree.specs.CellLaws.{label_sound, ordinary_cell}
use Rattle.hashmap_labels.specs.declared.labels.LabelError.{LabelError}
use Rattle.hashmap_tree.specs.Entries.{Slice, content, leaf, Entries, under, fork}
use Rattle.hashmap_tree.specs.Dict.{forms_of, unseen, DictTree, one, two, Branch, open_edge, hidden_edge}
use Rattle.hashmap_tree.specs.Walk.{Fault, as_fault, inside, Walker, open_branch, branch_of, branch, branches, forks, at_label, walk}
use Rattle.cell_nodes.specs.declared.tree.Mode.{Mode}
use Rattle.hashmap_tree.specs.StepLaws.{bind_ok, ok_one}

abbrev pub IsSound : Mode → ℕ → Walker → Type 0
IsSound mode top W = (m : ℕ) (s : Slice) (es : Entries) → m < top → W m s ≡ Ok es → DictTree mode m es s

inside_ok : (p : List ℕ) (r : Result Entries Fault) (x : Entries) → inside p r ≡ Ok x
    → (es : Entries) × (r ≡ Ok es) × (under p es ≡ x)
inside_ok p (Ok es) x e = (es, refl, ok_one _ _ (Ok x) e)
inside_ok p (Err f) x e = cc

open_sound : (mode : Mode) (top : ℕ) (W : Walker) → IsSound mode top W → (m : ℕ) (c : Tree) (es : Entries) → m < top
    → open_branch W m (out-Tree c).kind (content c) ≡ Ok es → Branch mode m es c
open_sound mode top W sound m c es lt e = go (out-Tree c).kind refl e
  where
    go : (k : Kind) → (out-Tree c).kind ≡ k → open_branch W m k (content c) ≡ Ok es → Branch mode m es c
    go Ordinary k e = open_edge mode m es c (content c) (ordinary_cell c k) (sound m (content c) es lt e)
    go Pruned k e = cc
    go Library k e = cc
    go Proof k e = cc
    go Update k e = cc

pub branch_sound : (mode : Mode) (top : ℕ) (W : Walker) → IsSound mode top W → (m : ℕ) (c : Tree) (es : Entries)
    → m < top → branch W mode m c ≡ Ok es → Branch mode m es c
branch_sound mode top W sound m c es lt e = go (unseen mode c) refl e
  where
    go : (h : Option Hidden) → unseen mode c ≡ h → branch_of W m h (out-Tree c).kind (content c) ≡ Ok es
        → Branch mode m es c
    go (Some h) u e = hidden_edge mode m es c h u (sym (ok_one _ _ (Ok es) e))
    go None u e = open_sound mode top W sound m c es lt e

pub branches_sound : (mode : Mode) (top : ℕ) (W : Walker) → IsSound mode top W
    → (m : ℕ) (p : List ℕ) (z o : Tree) (es : Entries) → m < top → branches W mode m p z o ≡ Ok es
    → (zs : Entries) × (os : Entries) × (es ≡ fork p zs os) × Branch mode m zs z × Branch mode m os o
branches_sound mode top W sound m p z o es lt e =
    let a = bind_ok (inside (p ++ 0 ∷ []) (branch W mode m z)) _ es e in
    let b = bind_ok (inside (p ++ 1 ∷ []) (branch W mode m o)) _ es a.2 in
    let zs = inside_ok (p ++ 0 ∷ []) (branch W mode m z) a.0 a.1 in
    let os = inside_ok (p ++ 1 ∷ []) (branch W mode m o) b.0 b.1 in
    (zs.0, os.0, sym (ok_one _ _ (Ok es) b.2) ∙ (λ i. (sym zs.2) i ++ (sym os.2) i), branch_sound mode top W sound m z zs.0 lt zs.1, branch_sound mode top W sound m o os.0 lt os.1)

-- what a fork is, by its parts
abbrev Forks : Mode → ℕ → List ℕ → List ℕ → List Tree → Entries → Type 0
Forks mode m p bits refs es = (zs : Entries) × (os : Entries) × (z : Tree) × (o : Tree) × (es ≡ fork p zs os) × (bits ≡ []) × (refs ≡ z ∷ (o ∷ [])) × Branch mode m zs z × Branch mode m os o

forks_sound : (mode : Mode) (top : ℕ) (W : Walker) → IsSound mode top W
    → (m : ℕ) (p bits : List ℕ) (refs : List Tree) (es : Entries) → m < top → forks W mode m p bits refs ≡ Ok es
    → Forks mode m p bits refs es
forks_sound mode top W sound m p bits [] es lt e = cc
forks_sound mode top W sound m p bits (z ∷ []) es lt e = cc
forks_sound mode top W sound m p [] (z ∷ o ∷ []) es lt e =
    let b = branches_sound mode top W sound m p z o es lt e in
    (b.0, b.1, z, o, b.2, refl, refl, b.3, b.4)
forks_sound mode top W sound m p (b ∷ bits) (z ∷ o ∷ []) es lt e = cc
forks_sound mode top W sound m p [] (z ∷ o ∷ t ∷ ts) es lt e = cc
forks_sound mode top W sound m p (b ∷ bits) (z ∷ o ∷ t ∷ ts) es lt e = cc

pub label_ok : (r : Result (List ℕ × List ℕ) LabelError) (x : List ℕ × List ℕ) → as_fault r ≡ Ok x → r ≡ Ok x
label_ok (Ok a) x e = ap Ok (ok_one _ _ (Ok x) e)
label_ok (Err f) x e = cc

at_label_sound : (mode : Mode) (f : ℕ) (W : Walker) → IsSound mode f W
    → (n : ℕ) (p bits : List ℕ) (s : Slice) (es : Entries) → n < suc f → IsLabel (forms_of mode) n p s.bits bits
    → at_label W mode n p bits s.refs ≡ Ok es → DictTree mode n es s
at_label_sound mode f W sound n p bits s es lt l e = go (nat_eq n (length p)) refl e
  where
    go : (b : Bool) → nat_eq n (length p) ≡ b
        → cond b (Ok (let x : Entries = (p, leaf (record { bits = bits; refs = s.refs })) ∷ [] in x)) (forks W mode (n - length p - 1) p bits s.refs) ≡ Ok es
        → DictTree mode n es s
    go true h e = one mode n es s p (record { bits = bits; refs = s.refs }) (sym (ok_one _ _ (Ok es) e)) (sym (eqb-true n (length p) h)) l refl
    go false h e =
        let le = l.1 in
        let ne = eqb-false n (length p) h in
        let same : n ≡ length p + suc (n - length p - 1) = omega (arith, le, ne) in
        let k = forks_sound mode f W sound (n - length p - 1) p bits s.refs es (omega (arith, lt, le, ne)) e in
        let P : List ℕ → Type 0 = λ b. IsLabel (forms_of mode) n p s.bits b in
        two mode n es s p (n - length p - 1) k.0 k.1 k.2 k.3 k.4 same (subst P k.5 l) k.6 k.7 k.8

pub walk_sound : (f : ℕ) (mode : Mode) → IsSound mode f (walk f mode)
unfolding walk
walk_sound zero mode n s es lt e = absurd (omega (arith, lt))
walk_sound (suc f) mode n s es lt e =
    let a = bind_ok (as_fault (read_label (forms_of mode) n s.bits)) _ es e in
    let l = label_sound mode n s.bits a.0.0 a.0.1 (label_ok (read_label (forms_of mode) n s.bits) a.0 a.1) in
    at_label_sound mode f (walk f mode) (walk_sound f mode) n a.0.0 a.0.1 s es lt l a.2
