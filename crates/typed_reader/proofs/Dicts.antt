-- A dictionary: its tree is walked, and then its values are read.
use Rattle.std.proofs.Common.{◌≡◌, ℕ, ◌≤◌, nat_le, arith, Bool, true, false, List, [], ◌∷◌, ◌++◌, map, length, take, drop, slice_index, Option, Some, None, Result, Ok, Err, refl, ap, sym, ◌∙◌, subst}
use Rattle.std.proofs.lemmas.Bool.{le-leb}
use Rattle.bit_slice.specs.Bits.{bit_number, taken}
use Rattle.cell_nodes.specs.declared.slice.CellSlice.{CellSlice}
use Rattle.cell_nodes.specs.declared.tree.Hidden.{Hidden}
use Rattle.cell_nodes.specs.declared.tree.Mode.{Mode}
use Rattle.cell_nodes.specs.declared.tree.Tree.{Tree}
use Rattle.core_form.specs.Closed.{Closed}
use Rattle.hashmap_tree.specs.Adds.{pair_of, slice_of}
use Rattle.hashmap_tree.specs.Entries.{Entries, Slice, hidden_in, pairs_in}
use Rattle.hashmap_tree.specs.First.{Edge, at_fork, at_leaf, first_edge}
use Rattle.hashmap_tree.specs.Walk.{Fault}
use Rattle.hashmap_tree.specs.declared.found.Walk.{Walk}
use Rattle.hashmap_tree.specs.declared.found.WalkCause.{WalkCause}
use Rattle.hashmap_tree.specs.declared.found.WalkError.{WalkError}
use Rattle.hashmap_tree.specs.declared.found.WalkError.TheVariants as errors
use Rattle.plan_reading.specs.Edges.{GivesCell, GivesFirst}
use Rattle.plan_reading.specs.Stops.{Stops}
use Rattle.plan_reading.specs.declared.stop.StopError.{StopError}
use Rattle.plan_reading.specs.declared.stop.StopError.TheVariants as stops
use Rattle.spelling.specs.Goals.{at_type}
use Rattle.spelling.specs.Places.{Place, Spot, stuck}
use Rattle.spelling.specs.PlainReader.{◌>>=◌, Found, Reader, at_edge, by_bit, leaf_values, read_dict, walk_cell, walked, why_of}
use Rattle.spelling.specs.Spells.{next_bit}
use Rattle.spelling.specs.declared.Cause.TheVariants.{ShortBits, ShortRefs}
use Rattle.spelling_laws.specs.StepLaws.{when_true}
use Rattle.typed_value.specs.Values.{PlainPairs, a_pair, map_of, no_pairs}
use Rattle.typed_reader.specs.Begun.{WalkStops}
use Rattle.plan_reading.specs.StopLaws.{stops_at, stops_then}
use Rattle.typed_reader.proofs.Steps.{stops_same}

-- what is made of the values of leaves
abbrev pub as_map : List (List ℕ × Hidden) → Slice → PlainPairs → Result Found Place
as_map us after ps = Ok (map_of tt ps us, [], after)

-- what is made of the one value in place
abbrev pub as_pair : List ℕ → Found → Result Found Place
as_pair key x = Ok (map_of tt (a_pair key x.0 no_pairs) [], [], x.2)

out_of_memory : {A : Type 0} (h : Spot) (e : StopError) (r : Result A Place) → e ≡ stops.NoMemory → Stops h e r
out_of_memory h e r is = let P : StopError → Type 0 = λ z. Stops h z r in subst P (sym is) tt

fault_stops : {A : Type 0} (h : Spot) (q : List ℕ) (c : WalkCause) (e : StopError) (f : Fault) (k : A → Result Found Place)
    → c ≡ f.cause → WalkStops (errors.Stuck q c) e → Stops h e (walked h (Err f) >>= k)
fault_stops h q c e f k same stop =
    stops_at h e (stuck h (why_of c)) (Err (stuck h (why_of f.cause))) (stop h) (ap (λ z. Err (stuck h (why_of z))) (sym same))

-- ---- the first edge, in place

pub first_stops : (h : Spot) (w : WalkError) (e : StopError) (r : Result Edge Fault) (k : Edge → Result Found Place)
    → GivesFirst (Err w) r → WalkStops w e → Stops h e (walked h r >>= k)
first_stops h errors.NoMemory e r k gives stop = out_of_memory h e (walked h r >>= k) stop
first_stops h (errors.Stuck q c) e (Ok edge) k gives stop = absurd gives
first_stops h (errors.Stuck q c) e (Err f) k gives stop = fault_stops h q c e f k gives.1 stop

fork_of : (R : Reader) (h : Spot) (t : Closed) (q : ℕ) (w : Walk) (r : Result Edge Fault) → GivesFirst (Ok w) r → w.inline ≡ false
    → (walked h r >>= at_edge R h t q)
    ≡ (leaf_values R h t q (map pair_of w.pairs.items) >>= as_map w.unknown.items (slice_of w.rest))
fork_of R h t q w (Ok (at_leaf k c)) gives out = let is = gives.0 in cc
fork_of R h t q w (Ok (at_fork es after)) gives out =
    ap (λ z. leaf_values R h t q z >>= as_map (hidden_in es) after) (sym gives.1)
    ∙ ap (λ u. leaf_values R h t q (map pair_of w.pairs.items) >>= as_map u after) (sym gives.2)
    ∙ ap (λ a. leaf_values R h t q (map pair_of w.pairs.items) >>= as_map w.unknown.items a) (sym gives.3)
fork_of R h t q w (Err f) gives out = absurd gives

pub dict_fork : (mode : Mode) (R : Reader) (h : Spot) (n : ℕ) (t : Closed) (q : ℕ) (s : Slice) (w : Walk)
    → GivesFirst (Ok w) (first_edge mode n s) → w.inline ≡ false
    → read_dict mode R h n t q s ≡ (leaf_values R h t q (map pair_of w.pairs.items) >>= as_map w.unknown.items (slice_of w.rest))
dict_fork mode R h n t q s w gives out = fork_of R h t q w (first_edge mode n s) gives out

key_of : List (List ℕ × Slice) → List ℕ
key_of [] = []
key_of (x ∷ xs) = x.0

pair_key : (last : List ℕ × CellSlice) (k : List ℕ) (c : Slice) (xs ys : List (List ℕ × Slice))
    → pair_of last ∷ xs ≡ (k, c) ∷ ys → k ≡ last.0
unfolding key_of
pair_key last k c xs ys e = sym (ap (λ z. key_of z) e)

only_key : (before : List (List ℕ × CellSlice)) (last : List ℕ × CellSlice) (k : List ℕ) (c : Slice)
    → map pair_of (before ++ last ∷ []) ≡ (k, c) ∷ [] → k ≡ last.0
only_key [] last k c e = pair_key last k c [] [] e
only_key (b ∷ []) last k c e = cc
only_key (b ∷ d ∷ bs) last k c e = cc

leaf_of : (R : Reader) (h : Spot) (t : Closed) (q : ℕ) (w : Walk) (r : Result Edge Fault) (before : List (List ℕ × CellSlice))
    (last : List ℕ × CellSlice) → GivesFirst (Ok w) r → w.inline ≡ true → w.pairs.items ≡ before ++ last ∷ []
    → (walked h r >>= at_edge R h t q) ≡ (R h (at_type t) q (slice_of w.rest) >>= as_pair last.0)
leaf_of R h t q w (Ok (at_leaf k c)) before last gives inside is =
    let key : k ≡ last.0 = only_key before last k c (sym (ap (map pair_of) is) ∙ gives.1) in
    ap (λ z. R h (at_type t) q z >>= as_pair k) (sym gives.3) ∙ ap (λ z. R h (at_type t) q (slice_of w.rest) >>= as_pair z) key
leaf_of R h t q w (Ok (at_fork es after)) before last gives inside is = let out = gives.0 in cc
leaf_of R h t q w (Err f) before last gives inside is = absurd gives

pub dict_leaf : (mode : Mode) (R : Reader) (h : Spot) (n : ℕ) (t : Closed) (q : ℕ) (s : Slice) (w : Walk)
    (before : List (List ℕ × CellSlice)) (last : List ℕ × CellSlice)
    → GivesFirst (Ok w) (first_edge mode n s) → w.inline ≡ true → w.pairs.items ≡ before ++ last ∷ []
    → read_dict mode R h n t q s ≡ (R h (at_type t) q (slice_of w.rest) >>= as_pair last.0)
dict_leaf mode R h n t q s w before last gives inside is = leaf_of R h t q w (first_edge mode n s) before last gives inside is

leaf_in : (w : Walk) (r : Result Edge Fault) → GivesFirst (Ok w) r → w.inline ≡ true → w.pairs.items ≡ [] → ⊥
leaf_in w (Ok (at_leaf k c)) gives inside none = let is = gives.1 in let all = ap (map pair_of) none in cc
leaf_in w (Ok (at_fork es after)) gives inside none = let out = gives.0 in cc
leaf_in w (Err f) gives inside none = gives

pub leaf_there : (mode : Mode) (n : ℕ) (s : Slice) (w : Walk) → GivesFirst (Ok w) (first_edge mode n s) → w.inline ≡ true
    → w.pairs.items ≡ [] → ⊥
leaf_there mode n s w gives inside none = leaf_in w (first_edge mode n s) gives inside none

-- ---- a bit, and the cell of the first edge

has_one : (b : ℕ) (bits : List ℕ) → taken 1 (b ∷ bits) ≡ Some (b ∷ [], bits)
has_one b bits =
    let some : 1 ≤ length (b ∷ bits) = omega arith in
    when_true {A = Option (List ℕ × List ℕ)} (nat_le 1 (length (b ∷ bits))) (Some (take 1 (b ∷ bits), drop 1 (b ∷ bits))) None
    (le-leb 1 (length (b ∷ bits)) some)

pub next_none : (bits : List ℕ) → taken 1 bits ≡ None → next_bit bits ≡ None
next_none [] e = refl
next_none (b ∷ bits) e = let some = has_one b bits in cc

first_of : Option (List ℕ × List ℕ) → List ℕ
first_of (Some x) = x.0
first_of None = []

second_of : Option (List ℕ × List ℕ) → List ℕ
second_of (Some x) = x.1
second_of None = []

same_taken : (first rest before after : List ℕ) → (◌≡◌ {A = Option (List ℕ × List ℕ)} (Some (before, after)) (Some (first, rest)))
    → (before ≡ first) × (after ≡ rest)
unfolding first_of second_of
same_taken first rest before after e = (ap first_of e, ap second_of e)

bit_next : (n : ℕ) (bits : List ℕ) (b : Bool) → bit_number b ≡ n → next_bit (n ∷ bits) ≡ Some (b, bits)
bit_next n bits true e = let P : ℕ → Type 0 = λ z. next_bit (z ∷ bits) ≡ Some (true, bits) in subst P e refl
bit_next n bits false e = let P : ℕ → Type 0 = λ z. next_bit (z ∷ bits) ≡ Some (false, bits) in subst P e refl

pub next_is : (bits first rest : List ℕ) (b : Bool) → taken 1 bits ≡ Some (first, rest) → bit_number b ≡ slice_index first 0
    → next_bit bits ≡ Some (b, rest)
next_is [] first rest b e is = cc
next_is (n ∷ bits) first rest b e is =
    let same = same_taken first rest (n ∷ []) bits (sym (has_one n bits) ∙ e) in
    let at : slice_index (n ∷ []) 0 ≡ slice_index first 0 = ap (λ z. slice_index z 0) same.0 in
    bit_next n bits b (is ∙ sym at) ∙ ap (λ z. Some (b, z)) same.1

pub bit_short : (mode : Mode) (R : Reader) (h : Spot) (n : ℕ) (t : Closed) (q : ℕ) (bits : List ℕ) (refs : List Tree)
    → taken 1 bits ≡ None → by_bit mode R h n t q (next_bit bits) refs ≡ Err (stuck h ShortBits)
bit_short mode R h n t q bits refs short = ap (λ z. by_bit mode R h n t q z refs) (next_none bits short)

pub bit_zero : (mode : Mode) (R : Reader) (h : Spot) (n : ℕ) (t : Closed) (q : ℕ) (bits first rest : List ℕ) (refs : List Tree)
    → taken 1 bits ≡ Some (first, rest) → bit_number false ≡ slice_index first 0
    → by_bit mode R h n t q (next_bit bits) refs ≡ Ok (map_of tt no_pairs [], [], record { bits = rest; refs = refs })
bit_zero mode R h n t q bits first rest refs some is =
    ap (λ z. by_bit mode R h n t q z refs) (next_is bits first rest false some is)

-- what follows the bit 1 and a reference
abbrev pub in_root : Mode → Reader → Spot → ℕ → Closed → ℕ → List ℕ → List Tree → Entries → Result Found Place
in_root mode R h n t q bits refs es = leaf_values R h t q (pairs_in es) >>= as_map (hidden_in es) (record { bits = bits; refs = refs })

pub bit_one : (mode : Mode) (R : Reader) (h : Spot) (n : ℕ) (t : Closed) (q : ℕ) (bits first rest : List ℕ) (refs more : List Tree) (c : Tree)
    → taken 1 bits ≡ Some (first, rest) → bit_number true ≡ slice_index first 0 → refs ≡ c ∷ more
    → by_bit mode R h n t q (next_bit bits) refs ≡ (walked h (walk_cell mode n c) >>= in_root mode R h n t q rest more)
bit_one mode R h n t q bits first rest refs more c some is there =
    ap (λ z. by_bit mode R h n t q z refs) (next_is bits first rest true some is)
    ∙ ap (λ z. by_bit mode R h n t q (Some (true, rest)) z) there

pub bit_one_short : (mode : Mode) (R : Reader) (h : Spot) (n : ℕ) (t : Closed) (q : ℕ) (bits first rest : List ℕ) (refs : List Tree)
    → taken 1 bits ≡ Some (first, rest) → bit_number true ≡ slice_index first 0 → refs ≡ []
    → by_bit mode R h n t q (next_bit bits) refs ≡ Err (stuck h ShortRefs)
bit_one_short mode R h n t q bits first rest refs some is none =
    ap (λ z. by_bit mode R h n t q z refs) (next_is bits first rest true some is)
    ∙ ap (λ z. by_bit mode R h n t q (Some (true, rest)) z) none

cell_faults : (h : Spot) (w : WalkError) (e : StopError) (r : Result Entries Fault) (k : Entries → Result Found Place)
    → GivesCell (Err w) r → WalkStops w e → Stops h e (walked h r >>= k)
cell_faults h errors.NoMemory e r k gives stop = out_of_memory h e (walked h r >>= k) stop
cell_faults h (errors.Stuck q c) e (Ok es) k gives stop = absurd gives
cell_faults h (errors.Stuck q c) e (Err f) k gives stop = fault_stops h q c e f k gives stop

pub root_stops : (mode : Mode) (R : Reader) (h : Spot) (n : ℕ) (t : Closed) (q : ℕ) (bits first rest : List ℕ) (refs more : List Tree) (c : Tree)
    (w : WalkError) (e : StopError)
    → taken 1 bits ≡ Some (first, rest) → bit_number true ≡ slice_index first 0 → refs ≡ c ∷ more
    → GivesCell (Err w) (walk_cell mode n c) → WalkStops w e → Stops h e (by_bit mode R h n t q (next_bit bits) refs)
root_stops mode R h n t q bits first rest refs more c w e some is there gives stop =
    stops_same h e _ _ (bit_one mode R h n t q bits first rest refs more c some is there)
    (cell_faults h w e (walk_cell mode n c) (in_root mode R h n t q rest more) gives stop)

cell_given : (mode : Mode) (R : Reader) (h : Spot) (n : ℕ) (t : Closed) (q : ℕ) (bits : List ℕ) (refs : List Tree) (w : Walk) (r : Result Entries Fault)
    → GivesCell (Ok w) r
    → (walked h r >>= in_root mode R h n t q bits refs)
    ≡ (leaf_values R h t q (map pair_of w.pairs.items) >>= as_map w.unknown.items (record { bits = bits; refs = refs }))
cell_given mode R h n t q bits refs w (Ok es) gives =
    ap (λ z. leaf_values R h t q z >>= as_map (hidden_in es) (record { bits = bits; refs = refs })) (sym gives.0)
    ∙ ap (λ u. leaf_values R h t q (map pair_of w.pairs.items) >>= as_map u (record { bits = bits; refs = refs })) (sym gives.1)
cell_given mode R h n t q bits refs w (Err f) gives = absurd gives

pub root_given : (mode : Mode) (R : Reader) (h : Spot) (n : ℕ) (t : Closed) (q : ℕ) (bits first rest : List ℕ) (refs more : List Tree) (c : Tree) (w : Walk)
    → taken 1 bits ≡ Some (first, rest) → bit_number true ≡ slice_index first 0 → refs ≡ c ∷ more
    → GivesCell (Ok w) (walk_cell mode n c)
    → by_bit mode R h n t q (next_bit bits) refs
    ≡ (leaf_values R h t q (map pair_of w.pairs.items) >>= as_map w.unknown.items (record { bits = rest; refs = more }))
root_given mode R h n t q bits first rest refs more c w some is there gives =
    bit_one mode R h n t q bits first rest refs more c some is there
    ∙ cell_given mode R h n t q rest more w (walk_cell mode n c) gives
