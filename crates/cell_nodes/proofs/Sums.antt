-- One child more.
use Rattle.std.proofs.Common.{◌≡◌, ℕ, ◌+◌, ◌<◌, ◌≤◌, max, List, [], ◌∷◌, ◌++◌, length, take, map, get_or, bit_or, ap, sym, ◌∙◌, arith}
use Rattle.std.proofs.lemmas.List.{take_more}
use Rattle.std.proofs.lemmas.Nat.{or_lt}
use Rattle.std.proofs.lemmas.Nat.Bits.{bit_at_or, same_from_bits}
use Rattle.std.specs.Int.Bits.{or_zero_r}
use Rattle.cell_nodes.specs.declared.tree.Tree.{Tree}
use Rattle.cell_nodes.specs.Tree.{Marks, union_of, depth_over, total, marks, mask, depth, unfolded}

pub or_or : (a b c : ℕ) → bit_or (bit_or a b) c ≡ bit_or a (bit_or b c)
or_or a b c = same_from_bits _ _ (λ i. omega (arith, bit_at_or (bit_or a b) c i, bit_at_or a b i, bit_at_or a (bit_or b c) i, bit_at_or b c i))

pub or_below_eight : (a b : ℕ) → a ≤ 7 → b ≤ 7 → bit_or a b ≤ 7
or_below_eight a b h k = omega (arith, or_lt 3 a b (omega arith) (omega arith))

pub union_of-more : (f : Tree → Marks) (xs : List Tree) (x : Tree) → union_of (map f (xs ++ x ∷ [])) ≡ bit_or (union_of (map f xs)) (f x).mask
union_of-more f [] x = or_zero_r _
union_of-more f (y ∷ xs) x = ap (bit_or (f y).mask) (union_of-more f xs x) ∙ sym (or_or (f y).mask (union_of (map f xs)) (f x).mask)

depth_over-two : (i : ℕ) (ms : List Marks) (m n : Marks) → depth_over i (n ∷ ms ++ m ∷ []) ≡ max (depth_over i (n ∷ ms)) (m.depth i + 1)
depth_over-two i [] m n = omega arith
depth_over-two i (k ∷ ms) m n = omega (arith, depth_over-two i ms m k)

pub depth_over-more : (i : ℕ) (f : Tree → Marks) (xs : List Tree) (x : Tree) → depth_over i (map f (xs ++ x ∷ [])) ≡ max (depth_over i (map f xs)) ((f x).depth i + 1)
depth_over-more i f [] x = omega arith
depth_over-more i f (y ∷ []) x = omega arith
depth_over-more i f (y ∷ z ∷ xs) x = omega (arith, depth_over-more i f (z ∷ xs) x)

pub total-more : (f : Tree → ℕ) (xs : List Tree) (x : Tree) → total (map f (xs ++ x ∷ [])) ≡ total (map f xs) + f x
total-more f [] x = omega arith
total-more f (y ∷ xs) x = omega (arith, total-more f xs x)

-- a loop's step: the next child, as `get_or` gives it
pub union_step : (cs : List Tree) (i : ℕ) (d : Tree) → i < length cs →
    union_of (map marks (take (i + 1) cs)) ≡ bit_or (union_of (map marks (take i cs))) (mask (get_or cs i d))
union_step cs i d h = rw (take_more cs i d h) (union_of-more marks (take i cs) (get_or cs i d))

pub depth_step : (level : ℕ) (cs : List Tree) (i : ℕ) (d : Tree) → i < length cs →
    depth_over level (map marks (take (i + 1) cs)) ≡ max (depth_over level (map marks (take i cs))) (depth (get_or cs i d) level + 1)
depth_step level cs i d h = rw (take_more cs i d h) (depth_over-more level marks (take i cs) (get_or cs i d))

pub unfolded_step : (cs : List Tree) (i : ℕ) (d : Tree) → i < length cs →
    total (map unfolded (take (i + 1) cs)) ≡ total (map unfolded (take i cs)) + unfolded (get_or cs i d)
unfolded_step cs i d h = rw (take_more cs i d h) (total-more unfolded (take i cs) (get_or cs i d))
