-- The first fault is what the walk gives.
use Rattle.std.proofs.Common.{◌≡◌, ◌≢◌, ℕ, zero, suc, ◌-◌, ◌<◌, List, [], ◌∷◌, ◌++◌, length, Option, None, Result, Err, refl, sym, ap, ◌∙◌, arith, nat_eq, ◌⊎◌, inl, inr}
use Rattle.cell_nodes.specs.declared.tree.Tree.{Tree, out-Tree}
use Rattle.cell_nodes.specs.declared.tree.Kind.{Kind}
use Rattle.cell_nodes.specs.declared.tree.Kind.TheVariants.{Ordinary, Pruned, Library, Proof, Update}
use Rattle.cell_nodes.specs.declared.tree.Hidden.{Hidden}
use Rattle.hashmap_labels.specs.Labels.{IsLabel}
use Rattle.hashmap_labels.specs.Reading.{read_label}
use Rattle.hashmap_tree.specs.CellLaws.{label_complete, refused_label}
use Rattle.hashmap_tree.specs.Dict.{forms_of, unseen}
use Rattle.hashmap_tree.specs.Entries.{Slice, content, Entries, under}
use Rattle.hashmap_tree.specs.Walk.{◌>>=◌, Fault, here, as_fault, inside, Walker, open_branch, branch_of, branch, forks, walk}
use Rattle.hashmap_tree.specs.Halts.{Halts, no_label, few_refs, left_over, in_zero, in_one, HaltsBranch, exotic, within}
use Rattle.cell_nodes.specs.declared.tree.Mode.{Mode}
use Rattle.hashmap_tree.specs.declared.found.WalkCause.{WalkCause}
use Rattle.hashmap_tree.specs.declared.found.WalkCause.TheVariants as cause
use Rattle.hashmap_tree.specs.StepLaws.{bind_on, when_false}
use Rattle.hashmap_tree.specs.CompleteLaws.{not_equal, open_branches, branch_complete}

pub bind_fault : {A B : Type 0} (r : Result A Fault) (f : A → Result B Fault) (p : Fault) → r ≡ Err p
    → (r >>= f) ≡ Err p
bind_fault r f p e = ap (λ z. z >>= f) e

-- behind a label that is shorter than the key
past_label : (f : ℕ) (mode : Mode) (n : ℕ) (s : Slice) (p rest : List ℕ) (y : Result Entries Fault)
    → IsLabel (forms_of mode) n p s.bits rest → length p < n
    → forks (walk f mode) mode (n - length p - 1) p rest s.refs ≡ y → walk (suc f) mode n s ≡ y
unfolding walk
past_label f mode n s p rest y l lt e =
    bind_on (as_fault (read_label (forms_of mode) n s.bits)) _ (p, rest) y (ap as_fault (label_complete mode n s.bits p rest l))
    (when_false (nat_eq n (length p)) _ _ (not_equal n (length p) (λ e. omega (arith, e, lt))) ∙ e)

pub few : (W : Walker) (mode : Mode) (m : ℕ) (p bits : List ℕ) (refs : List Tree) → length refs < 2
    → forks W mode m p bits refs ≡ Err (here cause.ShortRefs)
few W mode m p bits [] h = refl
few W mode m p bits (z ∷ []) h = refl
few W mode m p bits (z ∷ o ∷ ts) h = absurd (omega (arith, h))

over : (W : Walker) (mode : Mode) (m : ℕ) (p bits : List ℕ) (z o : Tree) (ts : List Tree) → (bits ≢ []) ⊎ (ts ≢ [])
    → forks W mode m p bits (z ∷ (o ∷ ts)) ≡ Err (here cause.Leftover)
over W mode m p [] z o [] (inl h) = absurd (h refl)
over W mode m p [] z o [] (inr h) = absurd (h refl)
over W mode m p [] z o (t ∷ ts) h = refl
over W mode m p (b ∷ bits) z o [] h = refl
over W mode m p (b ∷ bits) z o (t ∷ ts) h = refl

exotic_kind : (W : Walker) (m : ℕ) (k : Kind) (s : Slice) → k ≢ Ordinary → open_branch W m k s ≡ Err (here cause.Exotic)
exotic_kind W m Ordinary s h = absurd (h refl)
exotic_kind W m Pruned s h = refl
exotic_kind W m Library s h = refl
exotic_kind W m Proof s h = refl
exotic_kind W m Update s h = refl

pub exotic_stands : (W : Walker) (mode : Mode) (m : ℕ) (c : Tree) → (out-Tree c).kind ≢ Ordinary
    → unseen mode c ≡ None → branch W mode m c ≡ Err (here cause.Exotic)
exotic_stands W mode m c h u =
    ap (λ (x : Option Hidden). branch_of W m x (out-Tree c).kind (content c)) u ∙ exotic_kind W m (out-Tree c).kind (content c) h

mutual
  unfolding walk

  pub walk_stands : (f : ℕ) (mode : Mode) (n : ℕ) (s : Slice) (g : Fault) → n < f → Halts mode n s g
      → walk f mode n s ≡ Err g
  walk_stands zero mode n s g lt h = absurd (omega (arith, lt))
  walk_stands (suc f) mode n s g lt (no_label _ _ _ _ w nil same) =
      let r = refused_label mode n s.bits w nil in
      bind_fault (as_fault (read_label (forms_of mode) n s.bits)) _ g (ap as_fault r.1 ∙ ap (λ (c : WalkCause). Err (here c)) (sym r.2) ∙ ap Err (sym same))
  walk_stands (suc f) mode n s g lt (few_refs _ _ _ _ p rest l short two same) =
      past_label f mode n s p rest (Err g) l short (few (walk f mode) mode (n - length p - 1) p rest s.refs two ∙ ap Err (sym same))
  walk_stands (suc f) mode n s g lt (left_over _ _ _ _ p rest z o ts l short refs some same) =
      past_label f mode n s p rest (Err g) l short
      (ap (forks (walk f mode) mode (n - length p - 1) p rest) refs ∙ over (walk f mode) mode (n - length p - 1) p rest z o ts some ∙ ap Err (sym same))
  walk_stands (suc f) mode n s g lt (in_zero _ _ _ _ p m z o q l len refs h same) =
      let left : n - length p - 1 ≡ m = omega (arith, len) in
      past_label f mode n s p [] (Err g) l (omega (arith, len))
      ((λ i. forks (walk f mode) mode (left i) p [] (refs i))
      ∙ bind_fault (inside (p ++ 0 ∷ []) (branch (walk f mode) mode m z)) _ g (ap (inside (p ++ 0 ∷ [])) (branch_stands f mode m z q (omega (arith, len, lt)) h) ∙ ap Err (sym same)))
  walk_stands (suc f) mode n s g lt (in_one _ _ _ _ p m z o zs q l len refs d h same) =
      let left : n - length p - 1 ≡ m = omega (arith, len) in
      past_label f mode n s p [] (Err g) l (omega (arith, len))
      ((λ i. forks (walk f mode) mode (left i) p [] (refs i))
      ∙ bind_on (inside (p ++ 0 ∷ []) (branch (walk f mode) mode m z)) _ (under (p ++ 0 ∷ []) zs) (Err g) (ap (inside (p ++ 0 ∷ [])) (branch_complete f mode m zs z (omega (arith, len, lt)) d))
      (bind_fault (inside (p ++ 1 ∷ []) (branch (walk f mode) mode m o)) _ g (ap (inside (p ++ 1 ∷ [])) (branch_stands f mode m o q (omega (arith, len, lt)) h) ∙ ap Err (sym same))))

  pub branch_stands : (f : ℕ) (mode : Mode) (m : ℕ) (t : Tree) (g : Fault) → m < f → HaltsBranch mode m t g
      → branch (walk f mode) mode m t ≡ Err g
  branch_stands f mode m t g lt (exotic _ _ _ _ k u same) = exotic_stands (walk f mode) mode m t k u ∙ ap Err (sym same)
  branch_stands f mode m t g lt (within _ _ _ _ s same h) =
      open_branches (walk f mode) mode m t s same ∙ walk_stands f mode m s g lt h
