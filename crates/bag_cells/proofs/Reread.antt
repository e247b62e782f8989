-- A cell of a bag that is written, read again.
use Rattle.std.proofs.Common.{◌≡◌, ◌≢◌, ◌∙◌, ℕ, zero, suc, ◌+◌, ◌-◌, ◌*◌, ◌/◌, ◌%◌, ◌^◌, ◌<◌, ◌≤◌, Bool, true, false, List, [], ◌∷◌, ◌++◌, length, map, take, drop, slice_index, append_assoc, refl, ap, sym, ⊎_elim, arith}
use Rattle.std.specs.Prelude.{Some, slice_get, ◌==◌, IsTrue, if◌then◌else◌}
use Rattle.std.specs.List.{flat_map}
use Rattle.std.specs.Int.{trailing_zeros, w8}
use Rattle.std.proofs.lemmas.Bool.{cases_Bool, cases_eq, eq-eqb, ne_eqb, eqb-true, and_parts}
use Rattle.std.proofs.lemmas.List.{length-append, length-map, get_or_at, take_at, drop_at, get_or_append_left, get_or-append-add}
use Rattle.std.proofs.lemmas.List.FromFn.{get_or-map-range_with_len}
use Rattle.bit_slice.specs.Bits.{bit_number, bits_from, completed, completed_byte}
use Rattle.bit_slice.specs.Completion.{completed-by_index, length-completed, bits_from-completed}
use Rattle.cell_nodes.specs.declared.tree.Kind.{Kind}
use Rattle.cell_nodes.specs.declared.tree.Kind.TheVariants.{Ordinary, Pruned, Library, Proof, Update}
use Rattle.cell_nodes.specs.declared.tree.Tree.{Tree, out-Tree}
use Rattle.cell_nodes.specs.Layout.{byte_of, has_layout, exotic_kind}
use Rattle.cell_nodes.specs.LayoutLaws.{pruned_layout}
use Rattle.cell_nodes.specs.Tree.{mask, is_exotic}
use Rattle.cell_nodes.specs.Good.{IsSound}
use Rattle.bag_cells.specs.Header.{size}
use Rattle.bag_cells.specs.Cells.{second_descriptor, ref_count, is_exotic as is_marked_exotic, has_stored_hashes, reported_mask, is_completed, byte_count, last_byte, ref_at, cell_size}
use Rattle.bag_cells.specs.Trees.{data_bytes, bit_count, cell_bits, cell_kind}
use Rattle.cell_pool.specs.Post.{place as place_in}
use Rattle.bag_cells.specs.Written.{number_bytes, descriptor_of, ref_bytes, cell_bytes}
use Rattle.bag_cells.proofs.Widths.{length-number_bytes}
use Rattle.bag_cells.proofs.Fields.{number_at-written}
use Rattle.bag_cells.proofs.Completed.{lowest-one}

-- the bytes of the cell stand at the place
pub record IsPlaced (raw : List ℕ) (place : ℕ) (order : List Tree) (u : Tree) : Type 0 where
  pub prefix : List ℕ
  pub rest : List ℕ
  pub bytes_are : raw ≡ prefix ++ (cell_bytes (size raw) order u ++ rest)
  pub place_is : place ≡ length prefix

-- what is read there
pub record IsReread (raw : List ℕ) (place : ℕ) (u : Tree) : Type 0 where
  pub refs_are : ref_count raw place ≡ length (out-Tree u).children
  pub exotic_is : is_marked_exotic raw place ≡ is_exotic (out-Tree u).kind
  pub no_hashes : has_stored_hashes raw place ≡ false
  pub mask_is : reported_mask raw place ≡ mask u
  pub count_is : byte_count raw place ≡ (length (out-Tree u).bits + 7) / 8
  pub second_is : second_descriptor raw place ≡ length (out-Tree u).bits / 8 + (length (out-Tree u).bits + 7) / 8
  pub data_are : data_bytes raw place ≡ completed (out-Tree u).bits
  pub last_is : length (out-Tree u).bits % 8 ≢ 0 → last_byte raw place ≡ completed_byte (out-Tree u).bits (length (out-Tree u).bits / 8)

exotic-bit : (r m : ℕ) (b : Bool) → r ≤ 4 → ((r + 8 * bit_number b + 32 * m) / 8 % 2 == 1) ≡ b
exotic-bit r m true h = eq-eqb _ _ (let e : (r + 8 * 1 + 32 * m) / 8 % 2 ≡ 1 = omega arith in e)
exotic-bit r m false h = ne_eqb _ _ (let e : (r + 8 * 0 + 32 * m) / 8 % 2 ≢ 1 = omega arith in e)

hashes-bit : (r m : ℕ) (b : Bool) → r ≤ 4 → ((r + 8 * bit_number b + 32 * m) / 16 % 2 == 1) ≡ false
hashes-bit r m true h = ne_eqb _ _ (let e : (r + 8 * 1 + 32 * m) / 16 % 2 ≢ 1 = omega arith in e)
hashes-bit r m false h = ne_eqb _ _ (let e : (r + 8 * 0 + 32 * m) / 16 % 2 ≢ 1 = omega arith in e)

mask-bits : (r m : ℕ) (b : Bool) → r ≤ 4 → (r + 8 * bit_number b + 32 * m) / 32 ≡ m
mask-bits r m true h = let e : (r + 8 * 1 + 32 * m) / 32 ≡ m = omega arith in e
mask-bits r m false h = let e : (r + 8 * 0 + 32 * m) / 32 ≡ m = omega arith in e

refs-bits : (r m : ℕ) (b : Bool) → r ≤ 4 → (r + 8 * bit_number b + 32 * m) % 8 ≡ r
refs-bits r m true h = let e : (r + 8 * 1 + 32 * m) % 8 ≡ r = omega arith in e
refs-bits r m false h = let e : (r + 8 * 0 + 32 * m) % 8 ≡ r = omega arith in e

laid : (raw : List ℕ) (place : ℕ) (order : List Tree) (u : Tree) (p : IsPlaced raw place order u) → raw
    ≡ p.prefix ++ ((descriptor_of u).0 ∷ ((descriptor_of u).1 ∷ (completed (out-Tree u).bits ++ (ref_bytes (size raw) order (out-Tree u).children ++ p.rest))))
unfolding cell_bytes
laid raw place order u p =
    p.bytes_are
    ∙ ap (λ (l : List ℕ). p.prefix ++ ((descriptor_of u).0 ∷ ((descriptor_of u).1 ∷ l))) (append_assoc (completed (out-Tree u).bits) (ref_bytes (size raw) order (out-Tree u).children) p.rest)

-- the bytes after the descriptor bytes
after_two : (raw : List ℕ) (place : ℕ) (order : List Tree) (u : Tree) (p : IsPlaced raw place order u) → raw
    ≡ (p.prefix ++ (descriptor_of u).0 ∷ (descriptor_of u).1 ∷ []) ++ (completed (out-Tree u).bits ++ (ref_bytes (size raw) order (out-Tree u).children ++ p.rest))
after_two raw place order u p =
    laid raw place order u p
    ∙ sym (append_assoc p.prefix ((descriptor_of u).0 ∷ (descriptor_of u).1 ∷ []) (completed (out-Tree u).bits ++ (ref_bytes (size raw) order (out-Tree u).children ++ p.rest)))

last-completed : (b : List ℕ) → length b % 8 ≢ 0 → slice_index (completed b) (length b / 8) ≡ completed_byte b (length b / 8)
last-completed b h =
    ap (λ (l : List ℕ). slice_index l (length b / 8)) (completed-by_index b)
    ∙ get_or-map-range_with_len (completed_byte b) 0 ((length b + 7) / 8) (length b / 8) (length b / 8) 0 (omega arith) (omega arith)

pub reread : (raw : List ℕ) (place : ℕ) (order : List Tree) (u : Tree) → IsSound u → IsPlaced raw place order u → IsReread raw place u
reread raw place order u sound p =
    let b = (out-Tree u).bits in
    let r = length (out-Tree u).children in
    let x = is_exotic (out-Tree u).kind in
    let refs = ref_bytes (size raw) order (out-Tree u).children in
    let d = descriptor_of u in
    let few : r ≤ 4 = sound.few in
    let first : slice_index raw place ≡ d.0 =
    ap (λ (l : List ℕ). slice_index l place) (laid raw place order u p) ∙ get_or_at p.prefix d.0 (d.1 ∷ (completed b ++ (refs ++ p.rest))) 0 place (sym p.place_is) in
    let one_on : length (p.prefix ++ d.0 ∷ []) ≡ place + 1 = omega (arith, length-append p.prefix (d.0 ∷ []), p.place_is) in
    let two_on : length (p.prefix ++ d.0 ∷ d.1 ∷ []) ≡ place + 2 = omega (arith, length-append p.prefix (d.0 ∷ d.1 ∷ []), p.place_is) in
    let second : slice_index raw (place + 1) ≡ d.1 =
    ap (λ (l : List ℕ). slice_index l (place + 1)) (laid raw place order u p ∙ sym (append_assoc p.prefix (d.0 ∷ []) (d.1 ∷ (completed b ++ (refs ++ p.rest)))))
    ∙ get_or_at (p.prefix ++ d.0 ∷ []) d.1 (completed b ++ (refs ++ p.rest)) 0 (place + 1) one_on in
    let count : byte_count raw place ≡ (length b + 7) / 8 = omega (arith, second) in
    let dropped : drop (place + 2) raw ≡ completed b ++ (refs ++ p.rest) =
    ap (λ (l : List ℕ). drop (place + 2) l) (after_two raw place order u p) ∙ drop_at (p.prefix ++ d.0 ∷ d.1 ∷ []) (completed b ++ (refs ++ p.rest)) (place + 2) two_on in
    record {
      refs_are = ap (λ (y : ℕ). y % 8) first ∙ refs-bits r (mask u) x few;
      exotic_is = ap (λ (y : ℕ). y / 8 % 2 == 1) first ∙ exotic-bit r (mask u) x few;
      no_hashes = ap (λ (y : ℕ). y / 16 % 2 == 1) first ∙ hashes-bit r (mask u) x few;
      mask_is = ap (λ (y : ℕ). y / 32) first ∙ mask-bits r (mask u) x few;
      count_is = count;
      second_is = second;
      data_are =
          ap (λ (l : List ℕ). take (byte_count raw place) l) dropped
          ∙ take_at (completed b) (refs ++ p.rest) (byte_count raw place) (length-completed b ∙ sym count);
      last_is = λ (part : length b % 8 ≢ 0).
          let at : place + 1 + byte_count raw place ≡ place + 2 + length b / 8 = omega (arith, count) in
          let inside : length b / 8 < length (completed b) = omega (arith, length-completed b) in
          ap (λ (i : ℕ). slice_index raw i) at
          ∙ ap (λ (l : List ℕ). slice_index l (place + 2 + length b / 8)) (after_two raw place order u p)
          ∙ past_front (p.prefix ++ d.0 ∷ d.1 ∷ []) (completed b ++ (refs ++ p.rest)) (place + 2) (length b / 8) two_on
          ∙ get_or_append_left (completed b) (refs ++ p.rest) 0 (length b / 8) inside
          ∙ last-completed b part;
    }
  where
    past_front : (xs ys : List ℕ) (n i : ℕ) → length xs ≡ n → slice_index (xs ++ ys) (n + i) ≡ slice_index ys i
    past_front xs ys n i e = ap (λ (m : ℕ). slice_index (xs ++ ys) (m + i)) (sym e) ∙ get_or-append-add xs ys i 0

-- ---- the bits and the kind

count-whole : (raw : List ℕ) (place b : ℕ) → second_descriptor raw place ≡ b / 8 + (b + 7) / 8 → b % 8 ≡ 0 → bit_count raw place ≡ b
unfolding bit_count
count-whole raw place b s h =
    let e : is_completed raw place ≡ false = ne_eqb (second_descriptor raw place % 2) 1 (λ (k : second_descriptor raw place % 2 ≡ 1). omega arith) in
    rw e (omega arith)

count-part : (raw : List ℕ) (place b : ℕ) → second_descriptor raw place ≡ b / 8 + (b + 7) / 8 → b % 8 ≢ 0 → trailing_zeros w8 (last_byte raw place) ≡ 7 - b % 8 → bit_count raw place ≡ b
unfolding bit_count
count-part raw place b s h t =
    let e : is_completed raw place ≡ true = eq-eqb (second_descriptor raw place % 2) 1 (omega arith) in
    rw (e, t) (omega arith)

pub count-reread : (raw : List ℕ) (place : ℕ) (u : Tree) → IsSound u → IsReread raw place u → bit_count raw place ≡ length (out-Tree u).bits
count-reread raw place u sound r =
    let b = (out-Tree u).bits in
    ⊎_elim
    (λ (e : length b % 8 ≡ 0). count-whole raw place (length b) r.second_is e)
    (λ (e : length b % 8 ≢ 0).
    count-part raw place (length b) r.second_is e (ap (λ (y : ℕ). trailing_zeros w8 y) (r.last_is e) ∙ lowest-one b sound.bits e))
    (cases_eq (length b % 8) 0)

pub bits-reread : (raw : List ℕ) (place : ℕ) (u : Tree) → IsSound u → IsReread raw place u → cell_bits raw place ≡ (out-Tree u).bits
unfolding cell_bits
bits-reread raw place u sound r =
    ap (λ (l : List ℕ). bits_from l 0 (bit_count raw place)) r.data_are
    ∙ ap (λ (n : ℕ). bits_from (completed (out-Tree u).bits) 0 n) (count-reread raw place u sound r)
    ∙ bits_from-completed (out-Tree u).bits sound.bits

-- a pruned branch has the type 1
no_pruned : (b : List ℕ) (refs n : ℕ) → byte_of 0 b ≡ n → n ≢ 1 → has_layout Pruned b refs ≡ false
no_pruned b refs n e ne = ⊎_elim
    (λ (t : has_layout Pruned b refs ≡ true). absurd (ne (sym e ∙ (pruned_layout b refs t).type_is)))
    (λ (f : has_layout Pruned b refs ≡ false). f)
    (cases_Bool (has_layout Pruned b refs))

exotic_kind-of : (k : Kind) (b : List ℕ) (refs : ℕ) → IsTrue (has_layout k b refs) → is_exotic k ≡ true → exotic_kind b refs ≡ Some k
exotic_kind-of Ordinary b refs h x = absurd (cc)
exotic_kind-of Pruned b refs h x = rw h refl
exotic_kind-of Library b refs h x =
    let no = no_pruned b refs 2 (eqb-true (byte_of 0 b) 2 (and_parts _ _ h).1) (λ e. cc) in
    rw (no, h) refl
exotic_kind-of Proof b refs h x =
    let prefix = and_parts _ _ (and_parts _ _ h).0 in
    let e : length b ≡ 280 = eqb-true (length b) 280 prefix.0 in
    let no = no_pruned b refs 3 (eqb-true (byte_of 0 b) 3 (and_parts _ _ h).1) (λ k. cc) in
    let none : has_layout Library b refs ≡ false = rw e refl in
    rw (no, none, h) refl
exotic_kind-of Update b refs h x =
    let prefix = and_parts _ _ (and_parts _ _ h).0 in
    let e : length b ≡ 552 = eqb-true (length b) 552 prefix.0 in
    let no = no_pruned b refs 4 (eqb-true (byte_of 0 b) 4 (and_parts _ _ h).1) (λ k. cc) in
    let none : has_layout Library b refs ≡ false = rw e refl in
    let none' : has_layout Proof b refs ≡ false = rw e refl in
    rw (no, none, none', h) refl

chosen : (k : Kind) (b : List ℕ) (refs : ℕ) → IsTrue (has_layout k b refs) → (if is_exotic k then exotic_kind b refs else Some Ordinary) ≡ Some k
chosen Ordinary b refs h = refl
chosen Pruned b refs h = exotic_kind-of Pruned b refs h refl
chosen Library b refs h = exotic_kind-of Library b refs h refl
chosen Proof b refs h = exotic_kind-of Proof b refs h refl
chosen Update b refs h = exotic_kind-of Update b refs h refl

pub kind-reread : (raw : List ℕ) (place : ℕ) (u : Tree) → IsSound u → IsReread raw place u → cell_kind raw place ≡ Some (out-Tree u).kind
unfolding cell_kind
kind-reread raw place u sound r =
    ap (λ (x : Bool). if x then exotic_kind (cell_bits raw place) (ref_count raw place) else Some Ordinary) r.exotic_is
    ∙ ap (λ (l : List ℕ). if is_exotic (out-Tree u).kind then exotic_kind l (ref_count raw place) else Some Ordinary) (bits-reread raw place u sound r)
    ∙ ap (λ (n : ℕ). if is_exotic (out-Tree u).kind then exotic_kind (out-Tree u).bits n else Some Ordinary) r.refs_are
    ∙ chosen (out-Tree u).kind (out-Tree u).bits (length (out-Tree u).children) sound.layout

-- ---- the references

length-numbers : (s : ℕ) (ns : List ℕ) → length (flat_map (number_bytes s) ns) ≡ length ns * s
length-numbers s [] = omega arith
length-numbers s (n ∷ ns) =
    let e : suc (length ns) * s ≡ s + length ns * s = omega arith in
    omega (arith, length-append (number_bytes s n) (flat_map (number_bytes s) ns), length-number_bytes s n, length-numbers s ns)

pub length-refs : (s : ℕ) (order ts : List Tree) → length (ref_bytes s order ts) ≡ length ts * s
length-refs s order ts = length-numbers s (map (place_in order) ts) ∙ ap (λ (n : ℕ). n * s) (length-map ts (place_in order))

pub length-cell : (s : ℕ) (order : List Tree) (u : Tree) → length (cell_bytes s order u) ≡ 2 + (length (out-Tree u).bits + 7) / 8 + length (out-Tree u).children * s
unfolding cell_bytes
length-cell s order u =
    omega (arith, length-append (completed (out-Tree u).bits) (ref_bytes s order (out-Tree u).children), length-completed (out-Tree u).bits, length-refs s order (out-Tree u).children)

-- the bytes of one of several references
ref-split : (s : ℕ) (order ts : List Tree) (k : ℕ) (c : Tree) → slice_get ts k ≡ Some c
    → (before : List ℕ) × (after : List ℕ) × (ref_bytes s order ts ≡ before ++ (number_bytes s (place_in order c) ++ after)) × (length before ≡ k * s)
ref-split s order [] k c h = absurd (cc)
ref-split s order (t ∷ ts) zero c h =
    let e : t ≡ c = cc in
    ([], ref_bytes s order ts, ap (λ (v : Tree). number_bytes s (place_in order v) ++ ref_bytes s order ts) e, omega arith)
ref-split s order (t ∷ ts) (suc k) c h =
    let r = ref-split s order ts k c h in
    let e : suc k * s ≡ s + k * s = omega arith in (
      number_bytes s (place_in order t) ++ r.0,
      r.1,
      ap (λ (l : List ℕ). number_bytes s (place_in order t) ++ l) r.2 ∙ sym (append_assoc (number_bytes s (place_in order t)) r.0 (number_bytes s (place_in order c) ++ r.1)),
      omega (arith, r.3, length-append (number_bytes s (place_in order t)) r.0, length-number_bytes s (place_in order t)),
    )

pub ref-reread : (raw : List ℕ) (place : ℕ) (order : List Tree) (u : Tree) (k : ℕ) (c : Tree) → IsPlaced raw place order u → IsReread raw place u
    → slice_get (out-Tree u).children k ≡ Some c → place_in order c < 256 ^ size raw → ref_at raw place k ≡ place_in order c
unfolding ref_at
ref-reread raw place order u k c p r h fits =
    let b = (out-Tree u).bits in
    let s = size raw in
    let d = descriptor_of u in
    let split = ref-split s order (out-Tree u).children k c h in
    let prefix = p.prefix ++ d.0 ∷ d.1 ∷ [] in
    let one = number_bytes s (place_in order c) in
    let e = after_two raw place order u p
    ∙ ap (λ (l : List ℕ). prefix ++ (completed b ++ (l ++ p.rest))) split.2
    ∙ ap (λ (l : List ℕ). prefix ++ (completed b ++ l)) (append_assoc split.0 (one ++ split.1) p.rest)
    ∙ ap (λ (l : List ℕ). prefix ++ (completed b ++ (split.0 ++ l))) (append_assoc one split.1 p.rest)
    ∙ ap (λ (l : List ℕ). prefix ++ l) (sym (append_assoc (completed b) split.0 (one ++ (split.1 ++ p.rest))))
    ∙ sym (append_assoc prefix (completed b ++ split.0) (one ++ (split.1 ++ p.rest))) in
    let n : place + 2 + byte_count raw place + k * s ≡ length (prefix ++ (completed b ++ split.0)) =
    omega (arith, length-append prefix (completed b ++ split.0), length-append p.prefix (d.0 ∷ d.1 ∷ []), length-append (completed b) split.0, length-completed b, split.3, r.count_is, p.place_is) in
    number_at-written raw (prefix ++ (completed b ++ split.0)) (split.1 ++ p.rest) (place + 2 + byte_count raw place + k * s) s (place_in order c) e n fits

pub size-reread : (raw : List ℕ) (place : ℕ) (order : List Tree) (u : Tree) → IsReread raw place u → cell_size raw place ≡ length (cell_bytes (size raw) order u)
unfolding cell_size
size-reread raw place order u r =
    ap (λ (n : ℕ). 2 + n + ref_count raw place * size raw) r.count_is
    ∙ ap (λ (n : ℕ). 2 + (length (out-Tree u).bits + 7) / 8 + n * size raw) r.refs_are
    ∙ sym (length-cell (size raw) order u)
