-- A cell with what its references are left with prunes it, and is a cell.
use Rattle.std.proofs.Common.{◌≡◌, ℕ, ◌<◌, ◌≤◌, ◌^◌, ◌⊎◌, inl, inr, Bool, true, false, cond, ◌||◌, suc, Option, Some, None, List, [], ◌∷◌, ◌++◌, length, refl}
use Rattle.std.proofs.Common.{sym, ap, ◌∙◌, subst, arith, Result, Ok, Err, ◌≢◌}
use Rattle.std.specs.Prelude.{IfOk, IsErrOf}
use Rattle.cell_nodes.specs.Constructed.{stub}
use Rattle.cell_nodes.specs.Equations.{out-tree_of}
use Rattle.cell_nodes.specs.GoodParts.{good-sound}
use Rattle.cell_nodes.specs.Prunes.{Prunes, same, hidden, ordinary, AllPrune, none, more}
use Rattle.cell_nodes.specs.PrunesGoodLaws.{prunes-good}
use Rattle.cell_nodes.specs.Tree.{mask, deepest}
use Rattle.cell_nodes.specs.declared.tree.Kind.TheVariants.{Ordinary}
use Rattle.cell_nodes.specs.declared.tree.Tree.{Tree, out-Tree}
use Rattle.cell_nodes.specs.declared.tree.Tree.TheOpen.{Tree-F}
use Rattle.pruning.specs.Cut.{cell_with}
use Rattle.pruning.specs.Laid.{Laid, number, bit_string, record_of, absent, list_of, ref_to, ref_to_raw, no_map}
use Rattle.pruning.specs.Laid.{map_under, map_here, rest, Laids, no_laids, a_laid, LaidEdge, a_leaf, a_fork, trees}
use Rattle.pruning.specs.Laid.{trees_all, edge_trees}
use Rattle.pruning.specs.Spots.{first_name, other_names}
use Rattle.pruning_laws.specs.ChoiceLaws.{all_same}
use Rattle.pruning_laws.specs.CleanLaws.{IsClean, AllClean, clean-left, clean-right, clean-below}
use Rattle.pruning_laws.specs.FilledLaws.{IsFilled, AreFilled, IsFilledEdge}
use Rattle.pruning_laws.specs.ReadsLaws.{all-append}
use Rattle.typed_value.specs.Paths.{Stride, named, item, keyed}
use Rattle.pruned_proof.specs.Walks.{Gives}
use Rattle.pruned_proof.specs.Wanted.{Rests, is_nothing, is_whole, add, each, advanced, entering, onward, below}
use Rattle.pruned_proof.specs.Wanted.{cut_at, cut_for, cut_fields_for, cut_items_for, cut_edge_for}
use Rattle.pruned_proof.specs.declared.cutting.CutError.{CutError}
use Rattle.pruned_proof.specs.declared.cutting.CutError.TheVariants.{Unread, NoMemory}

-- ---- what is left with hides no more than the choice

hidden_prunes : (c : Tree) → Prunes c (stub c 0) 0
hidden_prunes c = hidden c 0 (omega arith)

-- an ordinary cell whose references are pruned
pub with_prunes : (c : Tree) (ts ps : List Tree) → c ≡ cell_with c ts → AllPrune ts ps 0 → Prunes c (cell_with c ps) 0
with_prunes c ts ps e all =
    let P : Tree → Type 0 = λ z. Prunes z (cell_with c ps) 0 in
    subst P (sym e) (ordinary (out-Tree c).bits ts ps 0 all)

pub clean_in : (c : Tree) (ts : List Tree) → c ≡ cell_with c ts → IsClean c → AllClean ts
clean_in c ts e h = let P : Tree → Type 0 = IsClean in clean-below (out-Tree c).bits ts (subst P e h)

at_prunes : (k : Rests) (c : Tree) (ts ps : List Tree) → c ≡ cell_with c ts → AllPrune ts ps 0 → Prunes c (cut_at k c ps) 0
at_prunes [] c ts ps e all = hidden_prunes c
at_prunes (path ∷ k) c ts ps e all = with_prunes c ts ps e all

one_prunes : (c p : Tree) → Prunes c p 0 → AllPrune (c ∷ []) (p ∷ []) 0
one_prunes c p one = more c p [] [] 0 one (none 0)

raw_prunes : (k : Rests) (c : Tree) → Prunes c (cond (is_nothing k) (stub c 0) c) 0
raw_prunes [] c = hidden_prunes c
raw_prunes (path ∷ k) c = same c 0

mutual
  pub cut_prunes : (k : Rests) (d : Laid) → IsFilled d → AllClean (trees d) → AllPrune (trees d) (cut_for k d) 0
  cut_prunes k (number negative size) f h = none 0
  cut_prunes k (bit_string bits) f h = none 0
  cut_prunes k (record_of name names ds) f h = fields_prune k names ds f h
  cut_prunes k absent f h = none 0
  cut_prunes k (list_of ds) f h = items_prune k 0 ds f h
  cut_prunes k (ref_to c d) f h =
      one_prunes c (cut_at k c (cut_for k d))
      (at_prunes k c (trees d) (cut_for k d) f.0 (cut_prunes k d f.1 (clean_in c (trees d) f.0 h.0)))
  cut_prunes k (ref_to_raw c) f h = one_prunes c (cond (is_nothing k) (stub c 0) c) (raw_prunes k c)
  cut_prunes k no_map f h = none 0
  cut_prunes k (map_under c e) f h =
      let j = below [] k in
      one_prunes c (cut_at j c (cut_edge_for j [] e))
      (at_prunes j c (edge_trees e) (cut_edge_for j [] e) f.0
      (edge_prunes j [] e f.1 (clean_in c (edge_trees e) f.0 h.0)))
  cut_prunes k (map_here e) f h = edge_prunes k [] e f h
  cut_prunes k (rest s) f h = all_same s.refs

  pub fields_prune : (k : Rests) (names : List (List ℕ)) (ds : Laids) → AreFilled ds → AllClean (trees_all ds)
      → AllPrune (trees_all ds) (cut_fields_for k names ds) 0
  fields_prune k names no_laids f h = none 0
  fields_prune k names (a_laid d ds) f h =
      let j = onward (named (first_name names)) k in
      all-append (trees d) (cut_for j d) (trees_all ds) (cut_fields_for k (other_names names) ds)
      (cut_prunes j d f.0 (clean-left (trees d) (trees_all ds) h))
      (fields_prune k (other_names names) ds f.1 (clean-right (trees d) (trees_all ds) h))

  pub items_prune : (k : Rests) (n : ℕ) (ds : Laids) → AreFilled ds → AllClean (trees_all ds)
      → AllPrune (trees_all ds) (cut_items_for k n ds) 0
  items_prune k n no_laids f h = none 0
  items_prune k n (a_laid d ds) f h =
      let j = onward (item n) k in
      all-append (trees d) (cut_for j d) (trees_all ds) (cut_items_for k (suc n) ds)
      (cut_prunes j d f.0 (clean-left (trees d) (trees_all ds) h))
      (items_prune k (suc n) ds f.1 (clean-right (trees d) (trees_all ds) h))

  pub edge_prunes : (k : Rests) (q : List ℕ) (e : LaidEdge) → IsFilledEdge e → AllClean (edge_trees e)
      → AllPrune (edge_trees e) (cut_edge_for k q e) 0
  edge_prunes k q (a_leaf l d) f h = cut_prunes (onward (keyed (q ++ l)) k) d f h
  edge_prunes k q (a_fork l z a o b) f h =
      let x = q ++ (l ++ 0 ∷ []) in
      let y = q ++ (l ++ 1 ∷ []) in
      let i = below x k in
      let j = below y k in
      more z (cut_at i z (cut_edge_for i x a)) (o ∷ []) (cut_at j o (cut_edge_for j y b) ∷ []) 0
      (at_prunes i z (edge_trees a) (cut_edge_for i x a) f.0
      (edge_prunes i x a f.1 (clean_in z (edge_trees a) f.0 h.0)))
      (one_prunes o (cut_at j o (cut_edge_for j y b))
      (at_prunes j o (edge_trees b) (cut_edge_for j y b) f.2
      (edge_prunes j y b f.3 (clean_in o (edge_trees b) f.2 h.1.0))))

-- ---- the limits of a cell

pub record IsCell (p : Tree) (ps : List Tree) : Type 0 where
  pub few : length ps ≤ 4
  pub shallow : deepest p ≤ 1024

pub cell_for : (c : Tree) (ts ps : List Tree) → c ≡ cell_with c ts → IsClean c → AllPrune ts ps 0 → IsCell (cell_with c ps) ps
cell_for c ts ps e clean all =
    let level : mask c < 2 ^ 0 = let l = clean.level in omega (arith, l) in
    let g = good-sound (cell_with c ps) (prunes-good c (cell_with c ps) 0 (with_prunes c ts ps e all) clean.good level
    (omega arith)) in
    let few = g.few in
    let are : length (out-Tree (cell_with c ps)).children ≡ length ps =
    ap (λ (n : Tree-F Tree). length n.children) (out-tree_of Ordinary (out-Tree c).bits ps) in
    record { few = omega (arith, few, are); shallow = g.shallow }

-- ---- what is kept whole

or-left : (a b : Bool) → a ≡ true → (a || b) ≡ true
or-left true b e = refl
or-left false b e = absurd (cc)

-- of what ends at a value or before it something is left at each value inside it
add-empty : (k : Rests) → is_whole (add (Some []) k) ≡ true
add-empty k = refl

add-whole : (o : Option (List Stride)) (k : Rests) → is_whole k ≡ true → is_whole (add o k) ≡ true
add-whole None k e = e
add-whole (Some []) k e = refl
add-whole (Some (t ∷ path)) k e = e

each-whole : (f : List Stride → Option (List Stride)) → f [] ≡ Some [] → (k : Rests) → is_whole k ≡ true
    → is_whole (each f k) ≡ true
each-whole f at [] e = absurd (cc)
each-whole f at ([] ∷ k) e =
    let P : Option (List Stride) → Type 0 = λ o. is_whole (add o (each f k)) ≡ true in
    subst P (sym at) refl
each-whole f at ((t ∷ path) ∷ k) e = add-whole (f (t ∷ path)) (each f k) (each-whole f at k e)

onward-whole : (s : Stride) (k : Rests) → is_whole k ≡ true → is_whole (onward s k) ≡ true
onward-whole s k e = each-whole (advanced s) refl k e

below-whole : (q : List ℕ) (k : Rests) → is_whole k ≡ true → is_whole (below q k) ≡ true
below-whole q k e = each-whole (entering q) refl k e

at-whole : (k : Rests) (c : Tree) (ts ps : List Tree) → is_whole k ≡ true → c ≡ cell_with c ts → ps ≡ ts → cut_at k c ps ≡ c
at-whole [] c ts ps w e are = absurd (cc)
at-whole (path ∷ k) c ts ps w e are = ap (cell_with c) are ∙ sym e

raw-whole : (k : Rests) (c : Tree) → is_whole k ≡ true → cond (is_nothing k) (stub c 0) c ≡ c
raw-whole [] c w = absurd (cc)
raw-whole (path ∷ k) c w = refl

mutual
  pub cut_whole : (k : Rests) → is_whole k ≡ true → (d : Laid) → IsFilled d → cut_for k d ≡ trees d
  cut_whole k w (number negative size) f = refl
  cut_whole k w (bit_string bits) f = refl
  cut_whole k w (record_of name names ds) f = fields_whole k w names ds f
  cut_whole k w absent f = refl
  cut_whole k w (list_of ds) f = items_whole k w 0 ds f
  cut_whole k w (ref_to c d) f =
      ap (λ (t : Tree). t ∷ []) (at-whole k c (trees d) (cut_for k d) w f.0 (cut_whole k w d f.1))
  cut_whole k w (ref_to_raw c) f = ap (λ (t : Tree). t ∷ []) (raw-whole k c w)
  cut_whole k w no_map f = refl
  cut_whole k w (map_under c e) f =
      let j = below [] k in
      let v = below-whole [] k w in
      ap (λ (t : Tree). t ∷ []) (at-whole j c (edge_trees e) (cut_edge_for j [] e) v f.0 (edge_whole j v [] e f.1))
  cut_whole k w (map_here e) f = edge_whole k w [] e f
  cut_whole k w (rest s) f = refl

  pub fields_whole : (k : Rests) → is_whole k ≡ true → (names : List (List ℕ)) (ds : Laids) → AreFilled ds
      → cut_fields_for k names ds ≡ trees_all ds
  fields_whole k w names no_laids f = refl
  fields_whole k w names (a_laid d ds) f =
      let j = onward (named (first_name names)) k in
      let here = cut_whole j (onward-whole (named (first_name names)) k w) d f.0 in
      let others = fields_whole k w (other_names names) ds f.1 in
      λ i. here i ++ others i

  pub items_whole : (k : Rests) → is_whole k ≡ true → (n : ℕ) (ds : Laids) → AreFilled ds
      → cut_items_for k n ds ≡ trees_all ds
  items_whole k w n no_laids f = refl
  items_whole k w n (a_laid d ds) f =
      let here = cut_whole (onward (item n) k) (onward-whole (item n) k w) d f.0 in
      let others = items_whole k w (suc n) ds f.1 in
      λ i. here i ++ others i

  pub edge_whole : (k : Rests) → is_whole k ≡ true → (q : List ℕ) (e : LaidEdge) → IsFilledEdge e
      → cut_edge_for k q e ≡ edge_trees e
  edge_whole k w q (a_leaf l d) f = cut_whole (onward (keyed (q ++ l)) k) (onward-whole (keyed (q ++ l)) k w) d f
  edge_whole k w q (a_fork l z a o b) f =
      let x = q ++ (l ++ 0 ∷ []) in
      let y = q ++ (l ++ 1 ∷ []) in
      let left = at-whole (below x k) z (edge_trees a) (cut_edge_for (below x k) x a) (below-whole x k w) f.0
      (edge_whole (below x k) (below-whole x k w) x a f.1) in
      let right = at-whole (below y k) o (edge_trees b) (cut_edge_for (below y k) y b) (below-whole y k w) f.2
      (edge_whole (below y k) (below-whole y k w) y b f.3) in
      λ i. left i ∷ (right i ∷ [])

-- a cell in its place, where a path ends at it or before it, and the branch that stands for it, where none leads there
pub kept_at : (k : Rests) (c : Tree) (ts ps : List Tree) → is_whole k ≡ true → c ≡ cell_with c ts → ps ≡ ts → cut_at k c ps ≡ c
kept_at k c ts ps w e are = at-whole k c ts ps w e are

pub hidden_at : (k : Rests) (c : Tree) (ps : List Tree) → is_nothing k ≡ true → cut_at k c ps ≡ stub c 0
hidden_at k c ps e = ap (λ (b : Bool). cond b (stub c 0) (cell_with c ps)) e

pub opened_at : (k : Rests) (c : Tree) (ps : List Tree) → is_nothing k ≡ false → cut_at k c ps ≡ cell_with c ps
opened_at k c ps e = ap (λ (b : Bool). cond b (stub c 0) (cell_with c ps)) e

-- ---- the cell that is made

-- all references are taken, and the cell is one
pub finished : (r : Result Tree CutError) (c : Tree) (left made ps : List Tree)
    → IfOk r (λ x. (left ≡ []) × (x ≡ cell_with c made))
    → (IsErrOf r Unread → (left ≢ []) ⊎ (4 < length made) ⊎ (1024 < deepest (cell_with c made)))
    → left ≡ [] → made ≡ ps → IsCell (cell_with c ps) ps → Gives (λ x. x ≡ cell_with c ps) r
finished (Ok x) c left made ps ok unread over are is = ok.1 ∙ ap (cell_with c) are
finished (Err NoMemory) c left made ps ok unread over are is = tt
finished (Err Unread) c left made ps ok unread over are is = go (unread refl)
  where
    go : (left ≢ []) ⊎ (4 < length made) ⊎ (1024 < deepest (cell_with c made)) → ⊥
    go (inl f) = f over
    go (inr (inl f)) = let few = is.few in let l = ap length are in omega (arith, few, l, f)
    go (inr (inr f)) =
        let low = is.shallow in
        let l = ap (λ (z : List Tree). deepest (cell_with c z)) are in
        omega (arith, low, l, f)
