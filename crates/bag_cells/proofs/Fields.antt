-- The header of a bag that is written, read again.
use Rattle.std.proofs.Common.{◌≡◌, ◌≢◌, ◌∙◌, ℕ, zero, suc, ◌+◌, ◌*◌, ◌/◌, ◌%◌, ◌^◌, ◌<◌, ◌≤◌, Bool, true, false, List, [], ◌∷◌, ◌++◌, length, slice_index, append_assoc, refl, ap, sym, arith}
use Rattle.std.specs.Prelude.{None, nat_lt, nat_le, ◌==◌, ◌&&◌}
use Rattle.std.proofs.lemmas.Bool.{le-ltb, lt-leb, ne_eqb}
use Rattle.std.proofs.lemmas.List.{length-append, get_or_at}
use Rattle.std.proofs.Math.Nat.{pow-succ'}
use Rattle.bag_cells.specs.Numbers.{number_at}
use Rattle.bag_cells.specs.Header.{has_index, has_sum, flags, size, off_bytes, header_end, cells, roots, absent, data_size, root, data_start, data_end, whole_size, differs, magic_differs, start_refusal, count_refusal, length_refusal, sum_refusal, root_refusal, header_refusal}
use Rattle.bag_cells.specs.Written.{number_bytes, width_of, header_bytes}
use Rattle.bag_cells.proofs.Widths.{length-number_bytes, width-fits, one_le-width}

-- a number is read as it is written
pub number_at-written : (raw prefix rest : List ℕ) (from w v : ℕ) → raw ≡ prefix ++ (number_bytes w v ++ rest) → from ≡ length prefix → v < 256 ^ w → number_at raw from w ≡ v
unfolding number_at number_bytes
number_at-written raw prefix rest from zero v e p h = omega arith
number_at-written raw prefix rest from (suc w) v e p h =
    let high = number_bytes w (v / 256) in
    let l : v / 256 < 256 ^ w = omega (arith, pow-succ' 256 w) in
    let f : raw ≡ prefix ++ (high ++ (v % 256 ∷ rest)) = e ∙ ap (λ (x : List ℕ). prefix ++ x) (append_assoc high (v % 256 ∷ []) rest) in
    let g : raw ≡ (prefix ++ high) ++ (v % 256 ∷ rest) = f ∙ sym (append_assoc prefix high (v % 256 ∷ rest)) in
    let i = number_at-written raw prefix (v % 256 ∷ rest) from w (v / 256) f p l in
    let n : length (prefix ++ high) ≡ from + w = omega (arith, length-append prefix high, length-number_bytes w (v / 256)) in
    let b : slice_index raw (from + w) ≡ v % 256 = ap (λ (x : List ℕ). slice_index x (from + w)) g ∙ get_or_at (prefix ++ high) (v % 256) rest 0 (from + w) n in
    omega arith

-- what the header of a bag of n cells tells, with that content after it
pub record HasFields (raw : List ℕ) (n : ℕ) (content : List ℕ) : Type 0 where
  pub magic : magic_differs raw ≡ false
  pub flags_are : slice_index raw 4 ≡ width_of n
  pub size_is : size raw ≡ width_of n
  pub off_bytes_is : off_bytes raw ≡ width_of (length content)
  pub cells_is : cells raw ≡ n
  pub roots_is : roots raw ≡ 1
  pub absent_is : absent raw ≡ 0
  pub data_size_is : data_size raw ≡ length content
  pub root_is : root raw ≡ 0
  pub length_is : length raw ≡ 6 + 4 * width_of n + width_of (length content) + length content

abbrev start_bytes : ℕ → ℕ → List ℕ
start_bytes n m = 0xb5 ∷ 0xee ∷ 0x9c ∷ 0x72 ∷ width_of n ∷ width_of m ∷ []

laid_out : (n : ℕ) (content : List ℕ) → header_bytes n (length content) ++ content
    ≡ start_bytes n (length content)
    ++ (number_bytes (width_of n) n
    ++ (number_bytes (width_of n) 1 ++ (number_bytes (width_of n) 0 ++ (number_bytes (width_of (length content)) (length content) ++ (number_bytes (width_of n) 0 ++ content)))))
unfolding header_bytes
laid_out n content = simp append_assoc

never : (a : Bool) → (a && false) ≡ false
never true = refl
never false = refl

magic_matches : (raw rest : List ℕ) → raw ≡ 0xb5 ∷ 0xee ∷ 0x9c ∷ 0x72 ∷ rest → magic_differs raw ≡ false
unfolding magic_differs
magic_matches raw rest e =
    let a : differs raw 0 0xb5 ≡ false = rw e (never (nat_lt 0 (length (0xb5 ∷ 0xee ∷ 0x9c ∷ 0x72 ∷ rest)))) in
    let b : differs raw 1 0xee ≡ false = rw e (never (nat_lt 1 (length (0xb5 ∷ 0xee ∷ 0x9c ∷ 0x72 ∷ rest)))) in
    let c : differs raw 2 0x9c ≡ false = rw e (never (nat_lt 2 (length (0xb5 ∷ 0xee ∷ 0x9c ∷ 0x72 ∷ rest)))) in
    let d : differs raw 3 0x72 ≡ false = rw e (never (nat_lt 3 (length (0xb5 ∷ 0xee ∷ 0x9c ∷ 0x72 ∷ rest)))) in
    rw (a, b, c, d) refl

small_size : (s : ℕ) → s ≤ 4 → s % 8 ≡ s
small_size s h = omega arith

pub fields : (raw : List ℕ) (n : ℕ) (content : List ℕ) → raw ≡ header_bytes n (length content) ++ content → 1 ≤ n → width_of n ≤ 4 → HasFields raw n content
unfolding size off_bytes cells roots absent data_size root header_end
fields raw n content e some few =
    let s = width_of n in
    let o = width_of (length content) in
    let h = start_bytes n (length content) in
    let c0 = number_bytes s n in
    let c1 = number_bytes s 1 in
    let c2 = number_bytes s 0 in
    let c3 = number_bytes o (length content) in
    let c4 = number_bytes s 0 in
    let e0 = e ∙ laid_out n content in
    let e1 = e0 ∙ sym (append_assoc h c0 (c1 ++ (c2 ++ (c3 ++ (c4 ++ content))))) in
    let e2 = e1 ∙ sym (append_assoc (h ++ c0) c1 (c2 ++ (c3 ++ (c4 ++ content)))) in
    let e3 = e2 ∙ sym (append_assoc (h ++ c0 ++ c1) c2 (c3 ++ (c4 ++ content))) in
    let e4 = e3 ∙ sym (append_assoc (h ++ c0 ++ c1 ++ c2) c3 (c4 ++ content)) in
    let e5 = e4 ∙ sym (append_assoc (h ++ c0 ++ c1 ++ c2 ++ c3) c4 content) in
    let l0 : length c0 ≡ s = length-number_bytes s n in
    let l1 : length c1 ≡ s = length-number_bytes s 1 in
    let l2 : length c2 ≡ s = length-number_bytes s 0 in
    let l3 : length c3 ≡ o = length-number_bytes o (length content) in
    let l4 : length c4 ≡ s = length-number_bytes s 0 in
    let p1 : length (h ++ c0) ≡ 6 + s = omega (arith, length-append h c0) in
    let p2 : length (h ++ c0 ++ c1) ≡ 6 + 2 * s = omega (arith, length-append (h ++ c0) c1) in
    let p3 : length (h ++ c0 ++ c1 ++ c2) ≡ 6 + 3 * s = omega (arith, length-append (h ++ c0 ++ c1) c2) in
    let p4 : length (h ++ c0 ++ c1 ++ c2 ++ c3) ≡ 6 + 3 * s + o = omega (arith, length-append (h ++ c0 ++ c1 ++ c2) c3) in
    let p5 : length (h ++ c0 ++ c1 ++ c2 ++ c3 ++ c4) ≡ 6 + 4 * s + o = omega (arith, length-append (h ++ c0 ++ c1 ++ c2 ++ c3) c4) in
    let f4 : slice_index raw 4 ≡ s = ap (λ (x : List ℕ). slice_index x 4) e0 in
    let f5 : slice_index raw 5 ≡ o = ap (λ (x : List ℕ). slice_index x 5) e0 in
    let z : slice_index raw 4 % 8 ≡ s = ap (λ (x : ℕ). x % 8) f4 ∙ small_size s few in
    let low : 1 < 256 ^ s = less_than s (one_le-width n) in
    record {
      magic = magic_matches raw _ e0;
      flags_are = f4;
      size_is = z;
      off_bytes_is = f5;
      cells_is = ap (λ (w : ℕ). number_at raw 6 w) z ∙ number_at-written raw h _ 6 s n e0 refl (width-fits n);
      roots_is = ap (λ (w : ℕ). number_at raw (6 + w) w) z ∙ number_at-written raw (h ++ c0) _ (6 + s) s 1 e1 (sym p1) low;
      absent_is = ap (λ (w : ℕ). number_at raw (6 + 2 * w) w) z ∙ number_at-written raw (h ++ c0 ++ c1) _ (6 + 2 * s) s 0 e2 (sym p2) (omega arith);
      data_size_is =
          ap (λ (w : ℕ). number_at raw (6 + 3 * w) (slice_index raw 5)) z ∙ ap (λ (w : ℕ). number_at raw (6 + 3 * s) w) f5
          ∙ number_at-written raw (h ++ c0 ++ c1 ++ c2) _ (6 + 3 * s) o (length content) e3 (sym p3) (width-fits (length content));
      root_is =
          ap (λ (w : ℕ). number_at raw (6 + 3 * w + slice_index raw 5) w) z ∙ ap (λ (w : ℕ). number_at raw (6 + 3 * s + w) s) f5
          ∙ number_at-written raw (h ++ c0 ++ c1 ++ c2 ++ c3) _ (6 + 3 * s + o) s 0 e4 (sym p4) (omega arith);
      length_is = ap length e5 ∙ omega (arith, length-append (h ++ c0 ++ c1 ++ c2 ++ c3 ++ c4) content);
    }
  where
    less_than : (s : ℕ) → 1 ≤ s → 1 < 256 ^ s
    less_than zero k = absurd (omega arith)
    less_than (suc s) k = omega (arith, pow-succ' 256 s, positive s)
      where
        positive : (s : ℕ) → 1 ≤ 256 ^ s
        positive zero = omega arith
        positive (suc s) = omega (arith, pow-succ' 256 s, positive s)

-- ---- the header is accepted

pub record HasEnds (raw : List ℕ) (n : ℕ) (content : List ℕ) : Type 0 where
  pub start_is : data_start raw + length content ≡ length raw
  pub end_is : data_end raw ≡ length raw
  pub accepted : header_refusal raw ≡ None

no_index : (raw : List ℕ) (s : ℕ) → slice_index raw 4 ≡ s → s ≤ 4 → has_index raw ≡ false
no_index raw s e h = let k : slice_index raw 4 / 128 ≢ 1 = omega arith in ne_eqb (slice_index raw 4 / 128) 1 k

no_sum : (raw : List ℕ) (s : ℕ) → slice_index raw 4 ≡ s → s ≤ 4 → has_sum raw ≡ false
no_sum raw s e h = let k : slice_index raw 4 / 64 % 2 ≢ 1 = omega arith in ne_eqb (slice_index raw 4 / 64 % 2) 1 k

no_flags : (raw : List ℕ) (s : ℕ) → slice_index raw 4 ≡ s → s ≤ 4 → flags raw ≡ 0
no_flags raw s e h = omega arith

start-accepted : (raw : List ℕ) → magic_differs raw ≡ false → flags raw ≡ 0 → 1 ≤ size raw → size raw ≤ 4 → 1 ≤ off_bytes raw → off_bytes raw ≤ 8 → 6 ≤ length raw → header_end raw ≤ length raw
    → start_refusal raw ≡ None
unfolding start_refusal
start-accepted raw magic f s1 s4 o1 o8 six within =
    let a : nat_lt (length raw) 5 ≡ false = le-ltb (length raw) 5 (omega arith) in
    let b : (size raw == 0) ≡ false = ne_eqb (size raw) 0 (λ (e : size raw ≡ 0). omega arith) in
    let c : nat_lt 4 (size raw) ≡ false = le-ltb 4 (size raw) s4 in
    let d : nat_lt (length raw) 6 ≡ false = le-ltb (length raw) 6 six in
    let g : (off_bytes raw == 0) ≡ false = ne_eqb (off_bytes raw) 0 (λ (e : off_bytes raw ≡ 0). omega arith) in
    let k : nat_lt 8 (off_bytes raw) ≡ false = le-ltb 8 (off_bytes raw) o8 in
    let l : nat_lt (length raw) (header_end raw) ≡ false = le-ltb (length raw) (header_end raw) within in
    rw (magic, a, f, b, c, d, g, k, l) refl

count-accepted : (raw : List ℕ) → 1 ≤ cells raw → cells raw ≤ 262144 → roots raw ≡ 1 → absent raw ≡ 0 → count_refusal raw ≡ None
unfolding count_refusal
count-accepted raw some few r b =
    let a : (cells raw == 0) ≡ false = ne_eqb (cells raw) 0 (λ (e : cells raw ≡ 0). omega arith) in
    let c : nat_lt 262144 (cells raw) ≡ false = le-ltb 262144 (cells raw) few in
    rw (a, c, r, b) refl

length-accepted : (raw : List ℕ) → whole_size raw ≡ length raw → length_refusal raw ≡ None
unfolding length_refusal
length-accepted raw e =
    let a : nat_lt (length raw) (whole_size raw) ≡ false = le-ltb (length raw) (whole_size raw) (omega arith) in
    let b : nat_lt (whole_size raw) (length raw) ≡ false = le-ltb (whole_size raw) (length raw) (omega arith) in
    rw (a, b) refl

sum-accepted : (raw : List ℕ) → has_sum raw ≡ false → sum_refusal raw ≡ None
unfolding sum_refusal
sum-accepted raw h = rw h refl

root-accepted : (raw : List ℕ) → root raw ≡ 0 → 1 ≤ cells raw → root_refusal raw ≡ None
unfolding root_refusal
root-accepted raw h some =
    let a : nat_le (cells raw) (root raw) ≡ false = lt-leb (cells raw) (root raw) (omega arith) in
    rw a refl

all-accepted : (raw : List ℕ) → start_refusal raw ≡ None → count_refusal raw ≡ None → length_refusal raw ≡ None → sum_refusal raw ≡ None → root_refusal raw ≡ None → header_refusal raw ≡ None
unfolding header_refusal
all-accepted raw a b c d e = rw (a, b, c, d, e) refl

start-by : (raw : List ℕ) → has_index raw ≡ false → data_start raw ≡ header_end raw + size raw
unfolding data_start
start-by raw h = rw h (omega arith)

end-by : (raw : List ℕ) → data_end raw ≡ data_start raw + data_size raw
unfolding data_end
end-by raw = refl

whole-by : (raw : List ℕ) → has_sum raw ≡ false → whole_size raw ≡ data_end raw
unfolding whole_size
whole-by raw h = rw h (omega arith)

header_end-by : (raw : List ℕ) → header_end raw ≡ 6 + 3 * size raw + off_bytes raw
unfolding header_end
header_end-by raw = refl

pub ends : (raw : List ℕ) (n : ℕ) (content : List ℕ) → HasFields raw n content → 1 ≤ n → n ≤ 262144 → width_of n ≤ 4 → width_of (length content) ≤ 8 → HasEnds raw n content
ends raw n content f some few narrow short =
    let hi = no_index raw (width_of n) f.flags_are narrow in
    let hs = no_sum raw (width_of n) f.flags_are narrow in
    let hf = no_flags raw (width_of n) f.flags_are narrow in
    let s1 = one_le-width n in
    let o1 = one_le-width (length content) in
    let e = header_end-by raw in
    let a = start-by raw hi in
    let b = end-by raw in
    let c = whole-by raw hs in
    record {
      start_is = omega (arith, f.size_is, f.off_bytes_is, f.length_is);
      end_is = omega (arith, f.size_is, f.off_bytes_is, f.length_is, f.data_size_is);
      accepted =
          all-accepted raw
          (start-accepted raw f.magic hf (omega (arith, f.size_is)) (omega (arith, f.size_is)) (omega (arith, f.off_bytes_is)) (omega (arith, f.off_bytes_is)) (omega (arith, f.length_is)) (omega (arith, f.length_is, f.size_is, f.off_bytes_is)))
          (count-accepted raw (omega (arith, f.cells_is)) (omega (arith, f.cells_is)) f.roots_is f.absent_is)
          (length-accepted raw (omega (arith, f.size_is, f.off_bytes_is, f.length_is, f.data_size_is)))
          (sum-accepted raw hs)
          (root-accepted raw f.root_is (omega (arith, f.cells_is)));
    }
