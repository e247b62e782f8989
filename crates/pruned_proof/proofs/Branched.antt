-- An edge, by what it is: its value, or the two cells that it leads to.
use Rattle.std.proofs.Common.{◌≡◌, ℕ, zero, suc, ◌+◌, ◌<◌, ◌≤◌, ◌-◌, Bool, true, false, List, [], ◌∷◌, ◌++◌, Option, Some, None}
use Rattle.std.proofs.Common.{refl, sym, ap, ◌∙◌, subst, arith, append_assoc, length, length-append, map, take, drop, nat_le, slice_get, cond}
use Rattle.std.proofs.lemmas.Bool.{le-leb}
use Rattle.std.proofs.lemmas.Option.{same_Some}
use Rattle.bit_slice.specs.Bits.{taken}
use Rattle.cell_nodes.specs.declared.tree.Tree.{Tree, out-Tree}
use Rattle.core_form.specs.Closed.{Closed}
use Rattle.core_form.specs.Core.{CoreSchema}
use Rattle.hashmap_tree.specs.Entries.{Slice}
use Rattle.spelling.specs.Goals.{at_type}
use Rattle.spelling.specs.Slices.{nothing}
use Rattle.pruning.specs.Cut.{cell_with}
use Rattle.pruning.specs.Laid.{Laid, LaidEdge, a_fork, a_leaf, edge_trees}
use Rattle.pruning.specs.SpellsLaid.{EdgeCell, SpellsEdge, SpellsLaid}
use Rattle.pruning_laws.specs.CleanLaws.{AllClean, IsClean}
use Rattle.typed_value.specs.Paths.{keyed}
use Rattle.typed_value.specs.declared.value.Value.{Value}
use Rattle.pruned_proof.specs.Walks.{HasBit, IsBranch, IsEdge, Lies, Moves}
use Rattle.pruned_proof.specs.Wanted.{Rests, below, cut_at, cut_edge_for, cut_for, is_nothing, is_whole, onward}
use Rattle.pruned_proof.specs.declared.cutting.Cutting.{Cutting}
use Rattle.typed_value.specs.View.{pair_of, pairs_of}
use Rattle.pruned_proof.proofs.Edges.{Begins, Forked, IsFork, IsLeaf, fork_of, keys_in, leaf_alone, seam, turns}
use Rattle.pruned_proof.proofs.Filling.{edge_filled, in_cell}
use Rattle.pruned_proof.proofs.Led.{first_same, rest_same}
use Rattle.pruned_proof.proofs.Pruned.{edge_whole, kept_at, opened_at}

-- ---- what moves on

pub moves_as : (a b after : List Tree) (old new : Cutting) → a ≡ b → Moves a after old new → Moves b after old new
moves_as a b after old new same m = (m.0, m.1 ∙ ap (λ (z : List Tree). old.made.items ++ z) same)

pub moves_on : (a b mid after : List Tree) (old between new : Cutting) → Moves a mid old between → Moves b after between new
    → Moves (a ++ b) after old new
moves_on a b mid after old between new first second =
    (second.0, second.1 ∙ ap (λ (z : List Tree). z ++ b) first.1 ∙ append_assoc old.made.items a b)

-- ---- a leaf

pub record LeafLies (schema : CoreSchema) (d : Laid) (t : Closed) (left : List Tree) (after : Slice) : Type 0 where
  pub outs : List ℕ
  pub lies : Lies (SpellsLaid schema d (at_type t)) left outs after

pub leaf_lies : (schema : CoreSchema) (e : LaidEdge) (l : List ℕ) (d : Laid) (n : ℕ) (t : Closed) (left : List Tree)
    (outs : List ℕ) (after : Slice) → e ≡ a_leaf l d → Lies (λ b o a. SpellsEdge schema e n t b a) left outs after
    → LeafLies schema d t left after
leaf_lies schema e l d n t left outs after is x =
    let P : LaidEdge → Type 0 = λ z. SpellsEdge schema z n t x.before after in
    let k = subst P is x.spelled in
    record { outs = k.1; lies = record { before = k.0; refs = sym k.2.refs ∙ x.refs; clean = x.clean; spelled = k.3 } }

pub leaf_made : (k here : Rests) (q l key : List ℕ) (e : LaidEdge) (d : Laid) → e ≡ a_leaf l d → key ≡ q ++ l
    → here ≡ onward (keyed key) k → cut_for here d ≡ cut_edge_for k q e
leaf_made k here q l key e d is same are =
    ap (λ (z : Rests). cut_for z d) (are ∙ ap (λ (z : List ℕ). onward (keyed z) k) same) ∙ sym (ap (cut_edge_for k q) is)

-- ---- a fork

pub record ForkLies (schema : CoreSchema) (l : List ℕ) (z : Tree) (a : LaidEdge) (o : Tree) (b : LaidEdge) (n : ℕ) (t : Closed)
    (left after : List Tree) : Type 0 where
  pub less : ℕ
  pub long : n ≡ length l + suc less
  pub there : left ≡ z ∷ (o ∷ after)
  pub clean_zero : IsClean z
  pub clean_one : IsClean o
  pub cell_zero : EdgeCell (SpellsEdge schema a) less t z
  pub cell_one : EdgeCell (SpellsEdge schema b) less t o

pub fork_lies : (schema : CoreSchema) (e : LaidEdge) (l : List ℕ) (z : Tree) (a : LaidEdge) (o : Tree) (b : LaidEdge) (n : ℕ)
    (t : Closed) (left : List Tree) (outs : List ℕ) (after : Slice) → e ≡ a_fork l z a o b
    → Lies (λ b o a. SpellsEdge schema e n t b a) left outs after → ForkLies schema l z a o b n t left after.refs
fork_lies schema e l z a o b n t left outs after is x =
    let P : LaidEdge → Type 0 = λ y. SpellsEdge schema y n t x.before after in
    let k = subst P is x.spelled in
    let there : left ≡ z ∷ (o ∷ after.refs) = sym x.refs ∙ k.3 in
    let Q : List Tree → Type 0 = AllClean in
    let clean = subst Q there x.clean in
    record {
      less = k.0;
      long = k.1;
      there = there;
      clean_zero = clean.0;
      clean_one = clean.1.0;
      cell_zero = k.4;
      cell_one = k.5;
    }

-- the two cells
pub zero_branch : (schema : CoreSchema) (q l : List ℕ) (z : Tree) (a : LaidEdge) (o : Tree) (b : LaidEdge) (n : ℕ) (t : Closed)
    (key : List ℕ) (left after : List Tree) (x : ForkLies schema l z a o b n t left after)
    → Begins (q ++ (l ++ 0 ∷ [])) key → IsBranch schema x.less t (q ++ (l ++ 0 ∷ [])) a key z left (o ∷ after)
zero_branch schema q l z a o b n t key left after x begins = record {
  there = x.there;
  clean = x.clean_zero;
  cell = x.cell_zero;
  rest = begins.rest;
  begins = begins.is;
}

pub one_branch : (schema : CoreSchema) (q l : List ℕ) (z : Tree) (a : LaidEdge) (o : Tree) (b : LaidEdge) (n : ℕ) (t : Closed)
    (key : List ℕ) (left mid after : List Tree) (x : ForkLies schema l z a o b n t left after) → mid ≡ o ∷ after
    → Begins (q ++ (l ++ 1 ∷ [])) key → IsBranch schema x.less t (q ++ (l ++ 1 ∷ [])) b key o mid after
one_branch schema q l z a o b n t key left mid after x there begins = record {
  there = there;
  clean = x.clean_one;
  cell = x.cell_one;
  rest = begins.rest;
  begins = begins.is;
}

-- what the two are left with
pub fork_moves : (k : Rests) (q l : List ℕ) (e : LaidEdge) (z : Tree) (a : LaidEdge) (o : Tree) (b : LaidEdge)
    (mid after : List Tree) (old between new : Cutting) → e ≡ a_fork l z a o b
    → Moves (cut_at (below (q ++ (l ++ 0 ∷ [])) k) z
    (cut_edge_for (below (q ++ (l ++ 0 ∷ [])) k) (q ++ (l ++ 0 ∷ [])) a) ∷ []) mid old between
    → Moves (cut_at (below (q ++ (l ++ 1 ∷ [])) k) o
    (cut_edge_for (below (q ++ (l ++ 1 ∷ [])) k) (q ++ (l ++ 1 ∷ [])) b) ∷ []) after between new
    → Moves (cut_edge_for k q e) after old new
fork_moves k q l e z a o b mid after old between new is first second =
    let x = q ++ (l ++ 0 ∷ []) in
    let y = q ++ (l ++ 1 ∷ []) in
    let left = cut_at (below x k) z (cut_edge_for (below x k) x a) in
    let right = cut_at (below y k) o (cut_edge_for (below y k) y b) in
    moves_as (left ∷ (right ∷ [])) (cut_edge_for k q e) after old new (sym (ap (cut_edge_for k q) is))
    (moves_on (left ∷ []) (right ∷ []) mid after old between new first second)

-- ---- the keys at its sides

slice-first : (x : List ℕ × Value) (xs ys : List (List ℕ × Value)) → xs ≡ x ∷ ys → slice_get (keys_in xs) 0 ≡ Some x.0
slice-first x xs ys is = ap (λ (z : List (List ℕ × Value)). slice_get (keys_in z) 0) is

pub first_begins : (q l : List ℕ) (a b : LaidEdge) (xs ys : List (List ℕ × Value)) (most : ℕ) (x : List ℕ × Value)
    → Forked q l a b xs most → xs ≡ x ∷ ys → Begins (q ++ (l ++ 0 ∷ [])) x.0
first_begins q l a b xs ys most x f is = f.begin_zero 0 x.0 f.some_zero (slice-first x xs ys is)

get-key : (xs : List (List ℕ × Value)) (i : ℕ) (x : List ℕ × Value) → slice_get xs i ≡ Some x → slice_get (keys_in xs) i ≡ Some x.0
get-key [] i x at = absurd (cc)
get-key (y ∷ xs) zero x at = ap (λ (z : List ℕ × Value). Some z.0) (same_Some y x at)
get-key (y ∷ xs) (suc i) x at = get-key xs i x at

pub last_begins : (q l : List ℕ) (a b : LaidEdge) (xs ys : List (List ℕ × Value)) (most : ℕ) (x y : List ℕ × Value)
    → Forked q l a b xs most → xs ≡ x ∷ ys → slice_get ys (length ys - 1) ≡ Some y → Begins (q ++ (l ++ 1 ∷ [])) y.0
last_begins q l a b xs [] most x y f is at = absurd (cc)
last_begins q l a b xs (w ∷ ys) most x y f is at =
    let some = f.some_one in
    let long = ap length is in
    let less : length ys ≡ length (w ∷ ys) - 1 = omega arith in
    let here : slice_get (w ∷ ys) (length ys) ≡ Some y = ap (slice_get (w ∷ ys)) less ∙ at in
    let there : slice_get (keys_in xs) (suc (length ys)) ≡ Some y.0 =
    ap (λ (z : List (List ℕ × Value)). slice_get (keys_in z) (suc (length ys))) is ∙ get-key (w ∷ ys) (length ys) y here in
    f.begin_one (suc (length ys)) y.0 (omega (arith, some, long)) there

-- where they part
pub parts_at : (q l : List ℕ) (a b : List ℕ) (n : ℕ) → Begins (q ++ (l ++ 0 ∷ [])) a → Begins (q ++ (l ++ 1 ∷ [])) b
    → ((p x y : List ℕ) → a ≡ p ++ 0 ∷ x → b ≡ p ++ 1 ∷ y → n ≡ length p) → n ≡ length (q ++ l)
parts_at q l a b n x y common =
    common (q ++ l) x.rest y.rest (x.is ∙ seam q l x.rest 0) (y.is ∙ seam q l y.rest 1)

pub one_more : (q l : List ℕ) (b n : ℕ) → n ≡ length (q ++ l) → n + 1 ≡ length (q ++ (l ++ b ∷ []))
one_more q l b n is =
    let whole = length-append (q ++ l) (b ∷ []) in
    let same = ap length (append_assoc q l (b ∷ [])) in
    omega (arith, whole, same, is)

-- ---- the bits of a key that an edge's keys begin with

take-own : (q rest : List ℕ) → take (length q) (q ++ rest) ≡ q
take-own [] rest = refl
take-own (b ∷ q) rest = ap (λ (z : List ℕ). b ∷ z) (take-own q rest)

pub record Taken (q key : List ℕ) (n : ℕ) : Type 0 where
  pub rest : List ℕ
  pub is : taken n key ≡ Some (q, rest)

pub key_taken : (q key rest : List ℕ) (n : ℕ) → key ≡ q ++ rest → n ≡ length q → Taken q key n
key_taken q key rest n is long =
    let all = ap length is in
    let both = length-append q rest in
    let within : nat_le n (length key) ≡ true = le-leb n (length key) (omega (arith, all, both, long)) in
    let first : take n key ≡ q = ap (λ (z : ℕ). take z key) long ∙ ap (take (length q)) is ∙ take-own q rest in
    record {
      rest = drop n key;
      is = ap (λ (b : Bool). cond b (Some (take n key, drop n key)) None) within
          ∙ ap (λ (z : List ℕ). Some (z, drop n key)) first;
    }

pub prefix_is : (q key rest prefix more : List ℕ) (n : ℕ) → key ≡ q ++ rest → n ≡ length q
    → Some (prefix, more) ≡ taken n key → prefix ≡ q
prefix_is q key rest prefix more n is long at =
    let t = key_taken q key rest n is long in
    ap (λ (z : List ℕ × List ℕ). z.0) (same_Some (prefix, more) (q, t.rest) (at ∙ t.is))

-- an edge fills its cell
pub edge_fills : (schema : CoreSchema) (e : LaidEdge) (n : ℕ) (t : Closed) (c : Tree) (left : List Tree) → IsClean c
    → EdgeCell (SpellsEdge schema e) n t c → left ≡ (out-Tree c).children
    → Lies (λ b o a. SpellsEdge schema e n t b a) left [] nothing
edge_fills schema e n t c left clean cell are =
    in_cell (λ b o a. SpellsEdge schema e n t b a) c cell.0 [] left clean cell.1 cell.2 are

-- ---- the cell of a reference that leads to an edge

pub record BranchAt (schema : CoreSchema) (n : ℕ) (t : Closed) (e : LaidEdge) (c child : Tree) (mid after : List Tree)
    : Type 0 where
  pub same : c ≡ child
  pub rest : mid ≡ after
  pub clean : IsClean child
  pub cell : EdgeCell (SpellsEdge schema e) n t child

pub branch_at : (schema : CoreSchema) (n : ℕ) (t : Closed) (q : List ℕ) (e : LaidEdge) (key : List ℕ) (c child : Tree)
    (left mid after : List Tree) → IsBranch schema n t q e key c left after → left ≡ child ∷ mid
    → BranchAt schema n t e c child mid after
branch_at schema n t q e key c child left mid after b taken =
    let both = sym taken ∙ b.there in
    let same : child ≡ c = first_same child c mid after both in
    let P : Tree → Type 0 = IsClean in
    let Q : Tree → Type 0 = λ z. EdgeCell (SpellsEdge schema e) n t z in
    record {
      same = sym same;
      rest = rest_same child c mid after both;
      clean = subst P (sym same) b.clean;
      cell = subst Q (sym same) b.cell;
    }

-- what is left of the paths at the edge
pub branch_wanted : (q key seen rest prefix more : List ℕ) (n : ℕ) (k here : Rests) (r : Option (List ℕ × List ℕ))
    → key ≡ q ++ rest → n ≡ length q → r ≡ Some (prefix, more) → r ≡ taken n seen → seen ≡ key → here ≡ below prefix k
    → here ≡ below q k
branch_wanted q key seen rest prefix more n k here r is long some took same are =
    are ∙ ap (λ (z : List ℕ). below z k)
    (prefix_is q key rest prefix more n is long (sym some ∙ took ∙ ap (taken n) same))

pub branch_kept : (schema : CoreSchema) (n : ℕ) (t : Closed) (q : List ℕ) (e : LaidEdge) (c child : Tree) (mid after : List Tree)
    (k here : Rests) → BranchAt schema n t e c child mid after → here ≡ k → is_whole here ≡ true
    → cut_at k c (cut_edge_for k q e) ∷ [] ≡ child ∷ []
branch_kept schema n t q e c child mid after k here b same whole =
    let f = edge_filled schema n t e child b.cell in
    let kept : cut_at here child (cut_edge_for here q e) ≡ child =
    kept_at here child (edge_trees e) (cut_edge_for here q e) whole f.full (edge_whole here whole q e f.filled) in
    ap (λ (z : Rests). cut_at z c (cut_edge_for z q e) ∷ []) (sym same)
    ∙ ap (λ (z : Tree). cut_at here z (cut_edge_for here q e) ∷ []) b.same
    ∙ ap (λ (z : Tree). z ∷ []) kept

pub branch_opened : (schema : CoreSchema) (n : ℕ) (t : Closed) (q : List ℕ) (e : LaidEdge) (c child : Tree)
    (mid after : List Tree) (k here : Rests) → BranchAt schema n t e c child mid after → here ≡ k → is_nothing here ≡ false
    → cut_at k c (cut_edge_for k q e) ∷ [] ≡ cell_with child (cut_edge_for here q e) ∷ []
branch_opened schema n t q e c child mid after k here b same some =
    ap (λ (z : Rests). cut_at z c (cut_edge_for z q e) ∷ []) (sym same)
    ∙ ap (λ (z : Tree). cut_at here z (cut_edge_for here q e) ∷ []) b.same
    ∙ ap (λ (z : Tree). z ∷ []) (opened_at here child (cut_edge_for here q e) some)

-- ---- pairs that are looked at

pub none_last : (xs : List (List ℕ × Value)) → None ≡ slice_get xs (length xs - 1) → xs ≡ []
none_last [] none = refl
none_last (x ∷ xs) none =
    let less : length xs ≡ length (x ∷ xs) - 1 = omega arith in
    absurd (never x xs (length xs) (omega arith) (none ∙ ap (slice_get (x ∷ xs)) (sym less)))
  where
    never : (x : List ℕ × Value) (xs : List (List ℕ × Value)) (i : ℕ) → i < length (x ∷ xs) → None ≡ slice_get (x ∷ xs) i → ⊥
    never x xs zero lt none = absurd (cc)
    never x [] (suc i) lt none = absurd (omega (arith, lt))
    never x (y ∷ ys) (suc i) lt none = never y ys i (omega (arith, lt)) none

-- the pairs of a fork are more than one
pub fork_seen : (q : List ℕ) (e : LaidEdge) (x y : List ℕ × Value) (xs others : List (List ℕ × Value)) (most i : ℕ)
    → IsEdge q e (pairs_of (map pair_of xs)) most → xs ≡ x ∷ others → slice_get others i ≡ Some y → IsFork q e xs most
fork_seen q e x y xs [] most i is same at = absurd (cc)
fork_seen q e x y xs (w ∷ ws) most i is same at =
    let P : List (List ℕ × Value) → Type 0 = λ z. IsEdge q e (pairs_of (map pair_of z)) most in
    let Q : List (List ℕ × Value) → Type 0 = λ z. IsFork q e z most in
    subst Q (sym same) (fork_of q e x w ws most (subst P same is))

pub leaf_seen : (q : List ℕ) (e : LaidEdge) (x : List ℕ × Value) (xs others : List (List ℕ × Value)) (most : ℕ)
    → IsEdge q e (pairs_of (map pair_of xs)) most → xs ≡ x ∷ others → others ≡ [] → IsLeaf q e x most
leaf_seen q e x xs others most is same none =
    let P : List (List ℕ × Value) → Type 0 = λ z. IsEdge q e (pairs_of (map pair_of z)) most in
    leaf_alone q e x most (subst P (same ∙ ap (λ (z : List (List ℕ × Value)). x ∷ z) none) is)

-- where the pairs of a fork turn
pub turned_at : (q l : List ℕ) (a b : LaidEdge) (xs : List (List ℕ × Value)) (most place n : ℕ) (f : Forked q l a b xs most)
    → place ≡ length (q ++ l)
    → ((k : ℕ) → k ≤ length xs → ((i : ℕ) → i < k → HasBit place 0 i (keys_in xs))
    → ((i : ℕ) → k ≤ i → i < length xs → HasBit place 1 i (keys_in xs)) → n ≡ k)
    → n ≡ f.count
turned_at q l a b xs most place n f same turn =
    let x = turns q l a b xs most f in
    let P : ℕ → ℕ → Type 0 = λ bit i. HasBit place bit i (keys_in xs) in
    let Z : ℕ → Type 0 = λ z. (i : ℕ) → i < f.count → HasBit z 0 i (keys_in xs) in
    let O : ℕ → Type 0 = λ z. (i : ℕ) → f.count ≤ i → i < length xs → HasBit z 1 i (keys_in xs) in
    turn f.count x.within (subst Z (sym same) x.zeros) (subst O (sym same) x.ones)

pub zeros_at : (q l : List ℕ) (a b : LaidEdge) (xs zeros : List (List ℕ × Value)) (most n : ℕ) (f : Forked q l a b xs most)
    → n ≡ f.count → zeros ≡ take n xs → IsEdge (q ++ (l ++ 0 ∷ [])) a (pairs_of (map pair_of zeros)) most
zeros_at q l a b xs zeros most n f same are =
    let P : List (List ℕ × Value) → Type 0 = λ z. IsEdge (q ++ (l ++ 0 ∷ [])) a (pairs_of (map pair_of z)) most in
    subst P (sym (are ∙ ap (λ (z : ℕ). take z xs) same)) f.zeros

pub ones_at : (q l : List ℕ) (a b : LaidEdge) (xs ones : List (List ℕ × Value)) (most n : ℕ) (f : Forked q l a b xs most)
    → n ≡ f.count → ones ≡ drop n xs → IsEdge (q ++ (l ++ 1 ∷ [])) b (pairs_of (map pair_of ones)) most
ones_at q l a b xs ones most n f same are =
    let P : List (List ℕ × Value) → Type 0 = λ z. IsEdge (q ++ (l ++ 1 ∷ [])) b (pairs_of (map pair_of z)) most in
    subst P (sym (are ∙ ap (λ (z : ℕ). drop z xs) same)) f.ones

pub no_first : (xs : List (List ℕ × Value)) → None ≡ slice_get xs 0 → xs ≡ []
no_first [] none = refl
no_first (x ∷ xs) none = absurd (cc)

pub one_first : (xs : List (List ℕ × Value)) (x : List ℕ × Value) → slice_get xs 0 ≡ Some x → xs ≡ x ∷ drop 1 xs
one_first [] x at = absurd (cc)
one_first (y ∷ xs) x at = ap (λ (z : List ℕ × Value). z ∷ xs) (same_Some y x at)
