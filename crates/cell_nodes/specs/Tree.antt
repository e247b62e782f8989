-- What is known of a tree of cells: its mask, its depth and its hash at each level, and the number of its cells.
-- These speak of the unfolded tree alone: where two parts of it are equal, each is counted.
--
-- Source: TON documentation, "Cells as data storage" (cell level, standard representation and its hash) and "Exotic
-- cells" (hashes of the levels above 0); TVM whitepaper, section 3.1; FIPS 180-4 for SHA-256.
use Rattle.std.specs.Prelude.{ℕ, zero, suc, ◌+◌, ◌/◌, ◌%◌, ◌^◌, ◌≤◌, ◌==◌, nat_lt, max, min, bit_or, Bool, true}
use Rattle.std.specs.Prelude.{false, List, [], ◌∷◌, length, map, if◌then◌else◌}
use Rattle.std.specs.Int.{bit_at}
use Rattle.sha2.specs.Sha256.{sha256}
use Rattle.cell_hash.specs.declared.ChildMark.{ChildMark}
use Rattle.cell_hash.specs.declared.Content.{Content}
use Rattle.cell_hash.specs.declared.Content.TheVariants.{Data, Previous}
use Rattle.cell_hash.specs.Representation.{descriptor, representation}
use Rattle.cell_nodes.specs.Levels.{levels, set_bits}
use Rattle.cell_nodes.specs.Layout.{pair_count, stored_mask, stored_hash, stored_depth}
use Rattle.cell_nodes.specs.declared.tree.Kind.{Kind}
use Rattle.cell_nodes.specs.declared.tree.Kind.TheVariants.{Ordinary, Pruned, Library, Proof, Update}
use Rattle.cell_nodes.specs.declared.tree.Tree.{Tree, roll-Tree, fold-Tree}
use Rattle.cell_nodes.specs.declared.tree.Tree.TheOpen.{Tree-F}

-- ---- a tree by its parts

abbrev pub tree_of : Kind → List ℕ → List Tree → Tree
tree_of kind bits children = roll-Tree (record { kind = kind; bits = bits; children = children })

-- ---- what is known of a tree

-- the mask, and by level the depth and the hash
pub record Marks : Type 0 where
  pub mask : ℕ
  pub depth : ℕ → ℕ
  pub hash : ℕ → List ℕ

-- how many levels above its own a cell takes its children
abbrev pub shift : Kind → ℕ
shift Ordinary = 0
shift Pruned = 0
shift Library = 0
shift Proof = 1
shift Update = 1

-- the level of the children that a level of the node speaks of
abbrev pub level_below : Kind → ℕ → ℕ
level_below kind i = i + shift kind

-- ---- masks: cell level

-- the union of masks: bit i is set where it is set in one of them
abbrev pub union : List ℕ → ℕ
union [] = 0
union (m ∷ ms) = bit_or m (union ms)

abbrev pub union_of : List Marks → ℕ
union_of children = union (map (λ c. c.mask) children)

abbrev pub mask_of : Kind → List ℕ → List Marks → ℕ
mask_of Ordinary bits children = union_of children
mask_of Pruned bits children = stored_mask bits
mask_of Library bits children = 0
mask_of Proof bits children = union_of children / 2
mask_of Update bits children = union_of children / 2

-- ---- depths

abbrev pub greatest : List ℕ → ℕ
greatest [] = 0
greatest (x ∷ xs) = max x (greatest xs)

-- 0 without children, else one more than the greatest of their depths at level i
abbrev pub depth_over : ℕ → List Marks → ℕ
depth_over i [] = 0
depth_over i (c ∷ cs) = 1 + greatest (map (λ m. m.depth i) (c ∷ cs))

-- The depth of a node that stores none: a level above 0 whose bit of the mask is not set has that of the level below.
abbrev pub computed_depth : Kind → ℕ → List Marks → ℕ → ℕ
computed_depth kind mask children zero = depth_over (level_below kind 0) children
computed_depth kind mask children (suc i) =
    if bit_at mask i == 1 then depth_over (level_below kind (suc i)) children else computed_depth kind mask children i

-- The pair of a pruned branch at level i is the one whose number is that of the set bits among the lowest i bits of the
-- mask. Where it stores no such pair, its depth is that of a cell without references.
abbrev pub pruned_depth : List ℕ → ℕ → ℕ
pruned_depth bits i =
    if nat_lt (set_bits i (stored_mask bits)) (pair_count (stored_mask bits))
    then stored_depth (set_bits i (stored_mask bits)) bits
    else 0

abbrev pub depth_of : Kind → List ℕ → List Marks → ℕ → ℕ
depth_of Ordinary bits children = computed_depth Ordinary (mask_of Ordinary bits children) children
depth_of Pruned bits children = pruned_depth bits
depth_of Library bits children = computed_depth Library (mask_of Library bits children) children
depth_of Proof bits children = computed_depth Proof (mask_of Proof bits children) children
depth_of Update bits children = computed_depth Update (mask_of Update bits children) children

-- ---- hashes: the SHA-256 of representations

abbrev pub is_exotic : Kind → Bool
is_exotic Ordinary = false
is_exotic Pruned = true
is_exotic Library = true
is_exotic Proof = true
is_exotic Update = true

-- what a representation holds of a child at level i
abbrev pub mark_at : ℕ → Marks → ChildMark
mark_at i m = record { depth = m.depth i; hash = m.hash i }

-- the representation at level i, with that mask in the descriptor bytes and that content after them
abbrev pub representation_with : Kind → ℕ → ℕ → Content → ℕ → List Marks → List ℕ
representation_with kind mask count content i children =
    representation (descriptor (length children) (is_exotic kind) mask count) content
    (map (mark_at (level_below kind i)) children)

abbrev pub hash_with : Kind → ℕ → ℕ → Content → ℕ → List Marks → List ℕ
hash_with kind mask count content i children = sha256 (representation_with kind mask count content i children)

-- The hash of a node that stores none. At level 0 the content is the data; at a level above it whose bit of the mask is
-- set, the content is the hash of the level below; where that bit is not set, the hash is that of the level below.
-- The descriptor bytes of level i have the lowest i bits of the mask.
abbrev pub computed_hash : Kind → List ℕ → ℕ → List Marks → ℕ → List ℕ
computed_hash kind bits mask children zero = hash_with kind 0 (length bits) (Data bits) 0 children
computed_hash kind bits mask children (suc i) =
    if bit_at mask i == 1
    then hash_with kind (mask % 2 ^ suc i) (length bits) (Previous (computed_hash kind bits mask children i)) (suc i)
    children
    else computed_hash kind bits mask children i

-- the hash of a pruned branch's own representation, which has the whole mask
abbrev pub own_hash : List ℕ → List ℕ
own_hash bits = sha256 (representation (descriptor 0 true (stored_mask bits) (length bits)) (Data bits) [])

-- the hash of the pair as for the depth; where it stores no such pair, that of its own representation
abbrev pub pruned_hash : List ℕ → ℕ → List ℕ
pruned_hash bits i =
    if nat_lt (set_bits i (stored_mask bits)) (pair_count (stored_mask bits))
    then stored_hash (set_bits i (stored_mask bits)) bits
    else own_hash bits

abbrev pub hash_of : Kind → List ℕ → List Marks → ℕ → List ℕ
hash_of Ordinary bits children = computed_hash Ordinary bits (mask_of Ordinary bits children) children
hash_of Pruned bits children = pruned_hash bits
hash_of Library bits children = computed_hash Library bits (mask_of Library bits children) children
hash_of Proof bits children = computed_hash Proof bits (mask_of Proof bits children) children
hash_of Update bits children = computed_hash Update bits (mask_of Update bits children) children

-- ---- the whole tree

-- what is known of a node, from what is known of its children
abbrev pub marks_of : Kind → List ℕ → List Marks → Marks
marks_of kind bits children = record {
  mask = mask_of kind bits children;
  depth = depth_of kind bits children;
  hash = hash_of kind bits children;
}

abbrev pub marks_step : Tree-F Marks → Marks
marks_step n = marks_of n.kind n.bits n.children

unfoldable pub marks : Tree → Marks
marks = fold-Tree Marks marks_step

abbrev pub mask : Tree → ℕ
mask t = (marks t).mask

abbrev pub depth : Tree → ℕ → ℕ
depth t i = (marks t).depth i

abbrev pub hash : Tree → ℕ → List ℕ
hash t i = (marks t).hash i

-- the greatest depth at any level
abbrev pub deepest : Tree → ℕ
deepest t = greatest (map (depth t) levels)

abbrev pub IsShallow : Tree → Type 0
IsShallow t = deepest t ≤ 1024

-- ---- the number of cells of the unfolded tree

abbrev pub total : List ℕ → ℕ
total [] = 0
total (x ∷ xs) = x + total xs

abbrev pub unfolded_step : Tree-F ℕ → ℕ
unfolded_step n = 1 + total n.children

unfoldable pub unfolded : Tree → ℕ
unfolded = fold-Tree ℕ unfolded_step

-- a count that stops at one past 262,144
abbrev pub capped : ℕ → ℕ
capped n = min n 262145
