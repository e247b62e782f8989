-- A dictionary that may be empty: HashmapE.
use Rattle.std.proofs.Common.{◌≡◌, ℕ, ◌+◌, List, [], ◌∷◌, length, Ok, refl, sym, ap, ◌∙◌, subst, arith}
use Rattle.cell_nodes.specs.Good.{IsGood, AllGood, more as more_good}
use Rattle.cell_nodes.specs.declared.tree.Mode.{Mode}
use Rattle.cell_nodes.specs.declared.tree.Mode.TheVariants.{Partial}
use Rattle.cell_nodes.specs.declared.tree.Tree.{Tree}
use Rattle.hashmap_labels.specs.declared.forms.Forms.TheVariants.{Required}
use Rattle.hashmap_tree.specs.CompleteLaws.{branch_complete}
use Rattle.hashmap_tree.specs.Dict.{forms_of, Branch, open_edge, DictTreeE, no_entries, some_entries}
use Rattle.hashmap_tree.specs.Entries.{Slice, cell_of, Entries}
use Rattle.hashmap_tree.specs.OnceLaws.{Some_entry, some_below, branch_once}
use Rattle.hashmap_tree.specs.Order.{InOrder, AreInOrder, leaves}
use Rattle.hashmap_tree.specs.OrderLaws.{has_tree}
use Rattle.hashmap_tree.specs.PlacedLaws.{HasPlaces}
use Rattle.hashmap_tree.specs.PlantedLaws.{AllCanHide, entries-have_branch}
use Rattle.hashmap_tree.specs.StepLaws.{ok_one}

head-same : (a b : ℕ) (k l : List ℕ) → a ∷ k ≡ b ∷ l → a ≡ b
head-same a b k l e = cc

tail-same : (a b : ℕ) (k l : List ℕ) → a ∷ k ≡ b ∷ l → k ≡ l
tail-same a b k l e = cc

first-same : (z o : Tree) (us ts : List Tree) → z ∷ us ≡ o ∷ ts → z ≡ o
first-same z o us ts e = cc

rest-same : (z o : Tree) (us ts : List Tree) → z ∷ us ≡ o ∷ ts → us ≡ ts
rest-same z o us ts e = cc

none-some : (es : Entries) → es ≡ [] → Some_entry es → ⊥
none-some es e s = let k : length es ≡ 0 = ap length e in let l : length es ≡ length (s.0 ∷ s.1) = ap length s.2 in omega (arith, k, l)

lists-once : (mode : Mode) (m : ℕ) (es fs : Entries) (c : Tree) → Branch mode m es c → Branch mode m fs c → es ≡ fs
lists-once mode m es fs c a b =
    ok_one es fs (Ok es) (sym (branch_complete (m + 1) mode m es c (omega arith) a) ∙ branch_complete (m + 1) mode m fs c (omega arith) b)

-- one list of entries, and one slice that is left
pub list-once : (mode : Mode) (n : ℕ) (es fs : Entries) (s a b : Slice) → DictTreeE mode n es s a → DictTreeE mode n fs s b
    → (es ≡ fs) × (a ≡ b)
list-once mode n es fs s a b (no_entries e bits refs) (no_entries f more rest) = (
  e ∙ sym f,
  (λ i. record { bits = tail-same 0 0 a.bits b.bits (sym bits ∙ more) i; refs = (sym refs ∙ rest) i }),
)
list-once mode n es fs s a b (no_entries e bits refs) (some_entries c more rest d) =
    let z = head-same 0 1 a.bits b.bits (sym bits ∙ more) in absurd (omega (arith, z))
list-once mode n es fs s a b (some_entries c bits refs d) (no_entries f more rest) =
    let z = head-same 1 0 a.bits b.bits (sym bits ∙ more) in absurd (omega (arith, z))
list-once mode n es fs s a b (some_entries c bits refs d) (some_entries c2 more rest d2) =
    let same : c ≡ c2 = first-same c c2 a.refs b.refs (sym refs ∙ rest) in
    let P : Tree → Type 0 = λ t. Branch mode n fs t in (
      lists-once mode n es fs c d (subst P (sym same) d2),
      (λ i. record { bits = tail-same 1 1 a.bits b.bits (sym bits ∙ more) i; refs = rest-same c c2 a.refs b.refs (sym refs ∙ rest) i }),
    )

first-good : (c : Tree) (refs ts : List Tree) → refs ≡ c ∷ ts → AllGood refs → IsGood c
first-good c refs ts e g = let P : List Tree → Type 0 = AllGood in go (subst P e g)
  where
    go : AllGood (c ∷ ts) → IsGood c
    go (more_good _ _ a rest) = a

-- in modes Whole and Partial one tree
pub root-once : (mode : Mode) → forms_of mode ≡ Required → (n : ℕ) (es : Entries) (s t a : Slice) → AllGood s.refs
    → AllGood t.refs → DictTreeE mode n es s a → DictTreeE mode n es t a → s ≡ t
root-once mode w n es s t a gs gt (no_entries e bits refs) (no_entries f more rest) =
    λ i. record { bits = (bits ∙ sym more) i; refs = (refs ∙ sym rest) i }
root-once mode w n es s t a gs gt (no_entries e bits refs) (some_entries c more rest d) =
    absurd (none-some es e (some_below mode n es c d))
root-once mode w n es s t a gs gt (some_entries c bits refs d) (no_entries f more rest) =
    absurd (none-some es f (some_below mode n es c d))
root-once mode w n es s t a gs gt (some_entries c bits refs d) (some_entries c2 more rest d2) =
    let same : c ≡ c2 = branch_once mode w n es c c2 (first-good c s.refs a.refs refs gs) (first-good c2 t.refs a.refs rest gt) d d2 in
    λ i. record { bits = (bits ∙ sym more) i; refs = (refs ∙ (λ j. same j ∷ a.refs) ∙ sym rest) i }

-- pairs in order have a tree, and so have entries in order that have their places
pub pairs-rooted : (mode : Mode) (n : ℕ) (xs : List (List ℕ × Slice)) (a : Slice) → InOrder n xs
    → (s : Slice) × DictTreeE mode n (leaves xs) s a
pairs-rooted mode n [] a o = (record { bits = 0 ∷ a.bits; refs = a.refs }, no_entries refl refl refl)
pairs-rooted mode n (x ∷ xs) a o =
    let r = has_tree mode n x xs o in (
      record { bits = 1 ∷ a.bits; refs = cell_of r.0 ∷ a.refs },
      some_entries (cell_of r.0) refl refl (open_edge mode n (leaves (x ∷ xs)) (cell_of r.0) r.0 refl r.1),
    )

pub entries-rooted : (n : ℕ) (es : Entries) (a : Slice) → AreInOrder n es → HasPlaces es → AllCanHide es
    → (s : Slice) × DictTreeE Partial n es s a
entries-rooted n [] a o p c = (record { bits = 0 ∷ a.bits; refs = a.refs }, no_entries refl refl refl)
entries-rooted n (e ∷ es) a o p c =
    let r = entries-have_branch n (e ∷ es) o (omega arith) p c in
    (record { bits = 1 ∷ a.bits; refs = r.0 ∷ a.refs }, some_entries r.0 refl refl r.1)
