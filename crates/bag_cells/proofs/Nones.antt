-- What follows where nothing refuses raw bytes.
use Rattle.std.proofs.Common.{◌≡◌, Bool, true, false, if◌then◌else◌, ◌∙◌, ℕ, zero, suc, ◌+◌, ◌-◌, ◌<◌, ◌≤◌, List, [], ◌∷◌, length, length-append, refl, sym, arith}
use Rattle.std.specs.Prelude.{Option, Some, None, slice_get, nat_le}
use Rattle.std.proofs.lemmas.Bool.Decides.{nat_tests}
use Rattle.cell_nodes.specs.declared.tree.Tree.{Tree}
use Rattle.bag_cells.specs.First.{or_else, first_of, first_before, last_before}
use Rattle.bag_cells.specs.Header.{cells, root, start_refusal, count_refusal, length_refusal, sum_refusal, root_refusal, header_refusal, header_end}
use Rattle.bag_cells.specs.Cells.{start, reported_mask, cell_refusal, left_refusal}
use Rattle.bag_cells.specs.Trees.{one, node, trees, refusal_of, node_refusal, sprawl_refusal}
use Rattle.bag_cells.specs.Bag.{refusal}
use Rattle.bag_cells.specs.declared.error.BagError.{BagError}
use Rattle.bag_cells.specs.declared.error.BagError.TheVariants.{BadHeader}
use Rattle.bag_cells.proofs.Laid.{below_or_last}
use Rattle.bag_cells.proofs.Picks.{refusal_before}

pub none_first : {E : Type 0} (a b : Option E) → or_else a b ≡ None → a ≡ None
none_first None b h = refl
none_first (Some e) b h = absurd (cc)

pub none_second : {E : Type 0} (a b : Option E) → or_else a b ≡ None → b ≡ None
none_second None b h = h
none_second (Some e) b h = absurd (cc)

pub last_before-each : {E : Type 0} (row : ℕ → Option E) (n j : ℕ) → last_before row n ≡ None → j < n → row j ≡ None
unfolding last_before
last_before-each row zero j h l = absurd (omega arith)
last_before-each row (suc n) j h l =
    below_or_last j n (λ (m : ℕ). row m ≡ None) l
    (λ (m : j < n). last_before-each row n j (none_second (row n) (last_before row n) h) m)
    (none_first (row n) (last_before row n) h)

pub first_before-each : {E : Type 0} (row : ℕ → Option E) (n j : ℕ) → first_before row n ≡ None → j < n → row j ≡ None
unfolding first_before
first_before-each row zero j h l = absurd (omega arith)
first_before-each row (suc n) j h l =
    below_or_last j n (λ (m : ℕ). row m ≡ None) l
    (λ (m : j < n). first_before-each row n j (none_first (first_before row n) (row n) h) m)
    (none_second (first_before row n) (row n) h)

one-length : (i reported : ℕ) (o : Option Tree) → refusal_of i reported o ≡ None → length (one o) ≡ 1
one-length i reported None h = absurd (cc)
one-length i reported (Some t) h = refl

-- each of the last n cells has a tree
pub trees-length : (raw : List ℕ) (n : ℕ) → n ≤ cells raw → ((j : ℕ) → cells raw ≤ j + n → j < cells raw → node_refusal raw j ≡ None) → length (trees raw n) ≡ n
unfolding trees
trees-length raw zero h each = refl
trees-length raw (suc n) h each =
    let i = cells raw - 1 - n in
    let whole : i + 1 + n ≡ cells raw = omega arith in
    let found = sym (refusal_before raw i n whole) ∙ each i (omega arith) (omega arith) in
    let last = one-length i (reported_mask raw (start raw i)) (node raw (start raw i) (trees raw n)) found in
    omega (arith, trees-length raw n (omega arith) (λ j l m. each j (omega arith) m), last, length-append (trees raw n) (one (node raw (start raw i) (trees raw n))))

le_false : (m n : ℕ) → nat_le m n ≡ false → n < m
le_false m n h = grind (arith, nat_tests)

root_by : (m n : ℕ) (e : BagError) (b : Bool) → nat_le m n ≡ b → (if b then Some e else None) ≡ None → n < m
root_by m n e true h k = absurd (cc)
root_by m n e false h k = le_false m n h

pub root-within : (raw : List ℕ) → root_refusal raw ≡ None → root raw < cells raw
unfolding root_refusal
root-within raw h = root_by (cells raw) (root raw) (BadHeader (header_end raw)) (nat_le (cells raw) (root raw)) refl h

pub root_refusal-none : (raw : List ℕ) → header_refusal raw ≡ None → root_refusal raw ≡ None
unfolding header_refusal
root_refusal-none raw h =
    let h1 = none_second (start_refusal raw) (first_of (count_refusal raw ∷ length_refusal raw ∷ sum_refusal raw ∷ root_refusal raw ∷ [])) h in
    let h2 = none_second (count_refusal raw) (first_of (length_refusal raw ∷ sum_refusal raw ∷ root_refusal raw ∷ [])) h1 in
    let h3 = none_second (length_refusal raw) (first_of (sum_refusal raw ∷ root_refusal raw ∷ [])) h2 in
    let h4 = none_second (sum_refusal raw) (first_of (root_refusal raw ∷ [])) h3 in
    none_first (root_refusal raw) None h4

pub header_refusal-none : (raw : List ℕ) → refusal raw ≡ None → header_refusal raw ≡ None
unfolding refusal
header_refusal-none raw h =
    none_first (header_refusal raw)
    (first_of (first_before (cell_refusal raw) (cells raw) ∷ left_refusal raw ∷ last_before (node_refusal raw) (cells raw) ∷ sprawl_refusal raw ∷ [])) h

pub node_refusals-none : (raw : List ℕ) → refusal raw ≡ None → last_before (node_refusal raw) (cells raw) ≡ None
unfolding refusal
node_refusals-none raw h =
    let h1 = none_second (header_refusal raw) (first_of (first_before (cell_refusal raw) (cells raw) ∷ left_refusal raw ∷ last_before (node_refusal raw) (cells raw) ∷ sprawl_refusal raw ∷ [])) h in
    let h2 = none_second (first_before (cell_refusal raw) (cells raw)) (first_of (left_refusal raw ∷ last_before (node_refusal raw) (cells raw) ∷ sprawl_refusal raw ∷ [])) h1 in
    let h3 = none_second (left_refusal raw) (first_of (last_before (node_refusal raw) (cells raw) ∷ sprawl_refusal raw ∷ [])) h2 in
    none_first (last_before (node_refusal raw) (cells raw)) (first_of (sprawl_refusal raw ∷ [])) h3

pub cell_refusals-none : (raw : List ℕ) → refusal raw ≡ None → first_before (cell_refusal raw) (cells raw) ≡ None
unfolding refusal
cell_refusals-none raw h =
    let h1 =
    none_second (header_refusal raw)
    (first_of
    (first_before (cell_refusal raw) (cells raw) ∷ left_refusal raw ∷ last_before (node_refusal raw) (cells raw) ∷ sprawl_refusal raw ∷ []))
    h in
    none_first (first_before (cell_refusal raw) (cells raw))
    (first_of (left_refusal raw ∷ last_before (node_refusal raw) (cells raw) ∷ sprawl_refusal raw ∷ [])) h1

pub left_refusal-none : (raw : List ℕ) → refusal raw ≡ None → left_refusal raw ≡ None
unfolding refusal
left_refusal-none raw h =
    let trees = first_of (last_before (node_refusal raw) (cells raw) ∷ sprawl_refusal raw ∷ []) in
    let left = first_of (left_refusal raw ∷ last_before (node_refusal raw) (cells raw) ∷ sprawl_refusal raw ∷ []) in
    let each =
    first_of
    (first_before (cell_refusal raw) (cells raw) ∷ left_refusal raw ∷ last_before (node_refusal raw) (cells raw) ∷ sprawl_refusal raw ∷ []) in
    none_first (left_refusal raw) trees (none_second (first_before (cell_refusal raw) (cells raw)) left (none_second (header_refusal raw) each h))

pub there : (xs : List Tree) (i : ℕ) → i < length xs → (t : Tree) × (slice_get xs i ≡ Some t)
there [] i h = absurd (omega arith)
there (x ∷ xs) zero h = (x, refl)
there (x ∷ xs) (suc i) h = there xs i (omega arith)
