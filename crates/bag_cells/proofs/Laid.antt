-- Cells that stand in the cell data.
use Rattle.std.proofs.Common.{◌≡◌, ℕ, zero, suc, ◌+◌, ◌*◌, ◌%◌, ◌<◌, ◌≤◌, Bool, true, false, ◌||◌, ◌&&◌, ◌==◌, ◌∙◌, subst, List, [], ◌∷◌, ◌++◌, length, get_or, refl, arith, add-one}
use Rattle.std.specs.Prelude.{nat_lt, nat_le}
use Rattle.std.specs.Prelude.{Some, None}
use Rattle.std.proofs.lemmas.Bool.Decides.{nat_tests}
use Rattle.bag_cells.specs.Header.{size, cells, data_end}
use Rattle.bag_cells.specs.Cells.{ref_count, ref_at, byte_count, cell_size, is_completed, last_byte, is_malformed, goes_back, has_stored_hashes, start, refusal_at, left_refusal}
use Rattle.bag_cells.specs.declared.error.BagError.TheVariants.{BadHeader}
use Rattle.std.proofs.Math.ListN.{get_or-append}
use Rattle.std.proofs.Math.Seq.{get_or-append_seam}
use Rattle.bag_cells.specs.Known.{IsLaid, IsLater, IsCell}

pub ref_within : (k n s : ℕ) → k < n → k * s + s ≤ n * s
ref_within k n s h = grind arith

-- what holds at n, and at k where it is below n, holds at each k below n + 1
pub below_or_last : (k n : ℕ) (P : ℕ → Type 0) → k < suc n → (k < n → P k) → P n → P k
below_or_last zero zero P h below last = last
below_or_last (suc k) zero P h below last = absurd (omega arith)
below_or_last zero (suc n) P h below last = below (omega arith)
below_or_last (suc k) (suc n) P h below last =
    below_or_last k n (λ (m : ℕ). P (suc m)) (omega arith) (λ (l : k < n). below (omega arith)) last

or_first : (a b : Bool) → (a || b) ≡ false → a ≡ false
or_first true b h = cc
or_first false b h = refl

or_second : (a b : Bool) → (a || b) ≡ false → b ≡ false
or_second true b h = absurd (cc)
or_second false b h = h

lt_false : (m n : ℕ) → nat_lt m n ≡ false → n ≤ m
lt_false m n h = grind (arith, nat_tests)

le_false : (m n : ℕ) → nat_le m n ≡ false → n < m
le_false m n h = grind (arith, nat_tests)

le_by : (m n : ℕ) → n < m → nat_le m n ≡ false
le_by m n h = grind (arith, nat_tests)

pub laid : (raw : List ℕ) (place : ℕ) → is_malformed raw place ≡ false → IsLaid raw place
laid raw place h =
    let few = nat_lt 4 (ref_count raw place) in
    let long = nat_lt (data_end raw) (place + cell_size raw place) in
    let open_ended = is_completed raw place && (last_byte raw place % 128 == 0) in
    record {
      few = lt_false 4 (ref_count raw place) (or_first few long (or_first (few || long) open_ended h));
      within = lt_false (data_end raw) (place + cell_size raw place) (or_second few long (or_first (few || long) open_ended h));
    }

last_used : (c : Bool) (n : ℕ) → (c && (n % 128 == 0)) ≡ false → c ≡ true → 0 < n
last_used true zero h k = absurd (cc)
last_used true (suc n) h k = omega arith
last_used false n h k = absurd (cc)

pub completion_used : (raw : List ℕ) (place : ℕ) → is_malformed raw place ≡ false → is_completed raw place ≡ true → 0 < last_byte raw place
completion_used raw place h k =
    last_used (is_completed raw place) (last_byte raw place)
    (or_second (nat_lt 4 (ref_count raw place) || nat_lt (data_end raw) (place + cell_size raw place))
    (is_completed raw place && (last_byte raw place % 128 == 0)) h) k

pub goes_forward : (raw : List ℕ) (i place n k : ℕ) → goes_back raw i place n ≡ false → k < n → IsLater raw i (ref_at raw place k)
unfolding goes_back
goes_forward raw i place zero k h l = absurd (omega arith)
goes_forward raw i place (suc n) k h l =
    let before = goes_back raw i place n in
    let low = nat_le (ref_at raw place n) i in
    let high = nat_le (cells raw) (ref_at raw place n) in
    let last : IsLater raw i (ref_at raw place n) = record {
      later = le_false (ref_at raw place n) i (or_second before low (or_first (before || low) high h));
      there = le_false (cells raw) (ref_at raw place n) (or_second (before || low) high h);
    } in
    below_or_last k n (λ (m : ℕ). IsLater raw i (ref_at raw place m)) l
    (λ (m : k < n). goes_forward raw i place n k (or_first before low (or_first (before || low) high h)) m) last

pub goes_back-more : (raw : List ℕ) (i place n : ℕ) → goes_back raw i place (n + 1)
    ≡ (goes_back raw i place n || nat_le (ref_at raw place n) i || nat_le (cells raw) (ref_at raw place n))
unfolding goes_back
goes_back-more raw i place n = rw add-one refl

pub start-more : (raw : List ℕ) (i : ℕ) → start raw (i + 1) ≡ start raw i + cell_size raw (start raw i)
unfolding start
start-more raw i = rw add-one refl

pub cell_size-parts : (raw : List ℕ) (place : ℕ) → cell_size raw place ≡ 2 + byte_count raw place + ref_count raw place * size raw
unfolding cell_size
cell_size-parts raw place = refl

-- the bytes of reference k
pub ref_fits : (raw : List ℕ) (place k : ℕ) → IsLaid raw place → data_end raw ≤ length raw → k < ref_count raw place
    → place + 2 + byte_count raw place + k * size raw + size raw ≤ length raw
ref_fits raw place k h end l =
    omega (arith, h.within, cell_size-parts raw place, ref_within k (ref_count raw place) (size raw) l)

pub well : (raw : List ℕ) (i place : ℕ) → place < data_end raw → has_stored_hashes raw place ≡ false → is_malformed raw place ≡ false
    → goes_back raw i place (ref_count raw place) ≡ false → IsCell raw i place
unfolding refusal_at
well raw i place inside stored malformed back =
    let here : nat_le (data_end raw) place ≡ false = le_by (data_end raw) place inside in
    record {
      accepted = rw (here, stored, malformed, back) refl;
      laid = laid raw place malformed;
      completed = completion_used raw place malformed;
      forward = λ k l. goes_forward raw i place (ref_count raw place) k back l;
    }

pub stop_at : (raw : List ℕ) (place b r s : ℕ) → b ≡ byte_count raw place → r ≡ ref_count raw place → s ≡ size raw
    → place + 2 + b + r * s ≡ place + cell_size raw place
unfolding cell_size
stop_at raw place b r s e f g = rw (e, f, g) (omega arith)

-- one more place where a cell begins
pub placed_more : (raw items : List ℕ) (i place : ℕ) → length items ≡ i → ((j : ℕ) → j < i → get_or items j 0 ≡ start raw j) → place ≡ start raw i
    → (j : ℕ) → j < i + 1 → get_or (items ++ place ∷ []) j 0 ≡ start raw j
placed_more raw items i place count each here j h =
    below_or_last j i (λ (m : ℕ). get_or (items ++ place ∷ []) m 0 ≡ start raw m) (omega arith)
    (λ (l : j < i). get_or-append items (place ∷ []) 0 j (omega arith) ∙ each j l)
    (subst (λ (m : ℕ). get_or (items ++ place ∷ []) m 0 ≡ place) count (get_or-append_seam items place [] 0) ∙ here)

-- one more cell of which nothing is refused
pub cells_more : (raw : List ℕ) (i place : ℕ) → ((j : ℕ) → j < i → IsCell raw j (start raw j)) → place ≡ start raw i → IsCell raw i place
    → (j : ℕ) → j < i + 1 → IsCell raw j (start raw j)
cells_more raw i place each here cell j h =
    below_or_last j i (λ (m : ℕ). IsCell raw m (start raw m)) (omega arith) (each j)
    (subst (λ (p : ℕ). IsCell raw i p) here cell)

lt_by : (m n : ℕ) → m < n → nat_lt m n ≡ true
lt_by m n h = grind (arith, nat_tests)

lt_not : (m n : ℕ) → n ≤ m → nat_lt m n ≡ false
lt_not m n h = grind (arith, nat_tests)

pub left_some : (raw : List ℕ) (place s : ℕ) → place ≡ start raw (cells raw) → place < data_end raw → s ≡ size raw
    → left_refusal raw ≡ Some (BadHeader (6 + 3 * s))
unfolding left_refusal
left_some raw place s e h g = rw (← e, lt_by place (data_end raw) h, g) refl

pub left_none : (raw : List ℕ) (place : ℕ) → place ≡ start raw (cells raw) → data_end raw ≤ place → left_refusal raw ≡ None
unfolding left_refusal
left_none raw place e h = rw (← e, lt_not place (data_end raw) h) refl
