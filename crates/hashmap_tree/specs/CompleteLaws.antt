-- The tree of entries is walked to just them.
use Rattle.std.proofs.Common.{◌≡◌, ℕ, zero, suc, ◌-◌, ◌<◌, Bool, true, false, [], ◌∷◌, ◌++◌, length, Option, Ok, refl, sym, ap, ◌∙◌, arith, nat_eq}
use Rattle.std.proofs.lemmas.Bool.{eq-eqb, eqb-true}
use Rattle.cell_nodes.specs.declared.tree.Hidden.{Hidden}
use Rattle.cell_nodes.specs.declared.tree.Kind.{Kind}
use Rattle.cell_nodes.specs.declared.tree.Kind.TheVariants.{Ordinary}
use Rattle.cell_nodes.specs.declared.tree.Tree.{Tree, out-Tree}
use Rattle.hashmap_labels.specs.Reading.{read_label}
use Rattle.hashmap_tree.specs.CellLaws.{label_complete, kind-cell_of, content-cell_of, seen-ordinary}
use Rattle.hashmap_tree.specs.Entries.{Slice, content, cell_of, leaf, Entries, under, fork}
use Rattle.hashmap_tree.specs.Dict.{forms_of, DictTree, one, two, Branch, open_edge, hidden_edge}
use Rattle.hashmap_tree.specs.Walk.{as_fault, inside, Walker, open_branch, branch_of, branch, forks, walk}
use Rattle.cell_nodes.specs.declared.tree.Mode.{Mode}
use Rattle.hashmap_tree.specs.StepLaws.{bind_on, when_true, when_false}

pub not_equal : (n m : ℕ) → ((n ≡ m) → ⊥) → nat_eq n m ≡ false
not_equal n m h = go (nat_eq n m) refl
  where
    go : (b : Bool) → nat_eq n m ≡ b → b ≡ false
    go true e = absurd (h (eqb-true n m e))
    go false e = refl

-- the cell of a content is walked as the content
pub open_branches : (W : Walker) (mode : Mode) (m : ℕ) (c : Tree) (s : Slice) → c ≡ cell_of s
    → branch W mode m c ≡ W m s
open_branches W mode m c s same =
    let k : (out-Tree c).kind ≡ Ordinary = ap (λ (t : Tree). (out-Tree t).kind) same ∙ kind-cell_of s in
    ap (λ (x : Option Hidden). branch_of W m x (out-Tree c).kind (content c)) (seen-ordinary mode c k)
    ∙ ap (λ (x : Kind). open_branch W m x (content c)) k
    ∙ ap (λ (t : Tree). W m (content t)) same ∙ ap (W m) (content-cell_of s)

mutual
  unfolding walk

  pub walk_complete : (f : ℕ) (mode : Mode) (n : ℕ) (es : Entries) (s : Slice) → n < f → DictTree mode n es s
      → walk f mode n s ≡ Ok es
  walk_complete zero mode n es s lt d = absurd (omega (arith, lt))
  walk_complete (suc f) mode n es s lt (one _ _ _ _ k c same len label refs) =
      let got = label_complete mode n s.bits k c.bits label in
      bind_on (as_fault (read_label (forms_of mode) n s.bits)) _ (k, c.bits) (Ok es) (ap as_fault got)
      (when_true (nat_eq n (length k)) _ _ (eq-eqb n (length k) (sym len)) ∙ (λ i. Ok ((k, leaf (record { bits = c.bits; refs = refs i })) ∷ [])) ∙ ap Ok (sym same))
  walk_complete (suc f) mode n es s lt (two _ _ _ _ p m zs os z o same len label refs dz do_) =
      let got = label_complete mode n s.bits p [] label in
      let low : m < f = omega (arith, len, lt) in
      let left : n - length p - 1 ≡ m = omega (arith, len) in
      let ez = branch_complete f mode m zs z low dz in
      let eo = branch_complete f mode m os o low do_ in
      bind_on (as_fault (read_label (forms_of mode) n s.bits)) _ (p, []) (Ok es) (ap as_fault got)
      (when_false (nat_eq n (length p)) _ _ (not_equal n (length p) (λ e. omega (arith, e, len)))
      ∙ (λ i. forks (walk f mode) mode (left i) p [] (refs i))
      ∙ bind_on (inside (p ++ 0 ∷ []) (branch (walk f mode) mode m z)) _ (under (p ++ 0 ∷ []) zs) (Ok (fork p zs os)) (ap (inside (p ++ 0 ∷ [])) ez)
      (bind_on (inside (p ++ 1 ∷ []) (branch (walk f mode) mode m o)) _ (under (p ++ 1 ∷ []) os) (Ok (fork p zs os)) (ap (inside (p ++ 1 ∷ [])) eo) refl)
      ∙ ap Ok (sym same))

  pub branch_complete : (f : ℕ) (mode : Mode) (m : ℕ) (es : Entries) (c : Tree) → m < f → Branch mode m es c
      → branch (walk f mode) mode m c ≡ Ok es
  branch_complete f mode m es c lt (open_edge _ _ _ _ s same d) =
      open_branches (walk f mode) mode m c s same ∙ walk_complete f mode m es s lt d
  branch_complete f mode m es c lt (hidden_edge _ _ _ _ h u same) =
      ap (λ (x : Option Hidden). branch_of (walk f mode) m x (out-Tree c).kind (content c)) u ∙ ap Ok (sym same)
