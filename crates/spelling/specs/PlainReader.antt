-- The plain reader: a value with its outputs and what is left, or the first place that is stuck.
--
-- Source: as for what spells a value; the order of causes is this project's own.
use Rattle.std.specs.Prelude.{ℕ, zero, suc, ◌+◌, Bool, true, false, ◌&&◌, if◌then◌else◌, nat_lt, bytes_eq, ℤ, pos, negsuc, List, [], ◌∷◌, length, take, drop, Option, Some, None, Result, Ok, Err}
use Rattle.bit_slice.specs.Bits.{number_of, signed_number_of}
use Rattle.nat_solver.specs.Number.{Expr, Numbers, comparison, solution}
use Rattle.nat_solver.specs.declared.evaluate.NatError.{NatError}
use Rattle.nat_solver.specs.declared.evaluate.NatError.TheVariants as why_not
use Rattle.cell_nodes.specs.declared.tree.Tree.{Tree, out-Tree}
use Rattle.cell_nodes.specs.declared.tree.Kind.{Kind}
use Rattle.cell_nodes.specs.declared.tree.Kind.TheVariants.{Ordinary}
use Rattle.cell_nodes.specs.declared.tree.Hidden.{Hidden}
use Rattle.core_form.specs.Core.{Word, Item, Items, no_items, an_item, check, solve, field, sets}
use Rattle.core_form.specs.Closed.{Closed, ClosedArgs}
use Rattle.core_form.specs.Closed as closed
use Rattle.hashmap_tree.specs.Entries.{Slice, content, Entries, pairs_in, hidden_in}
use Rattle.spelling.specs.Slices.{nothing, only_ref, is_nothing, took, kept}
use Rattle.hashmap_labels.specs.Reading.{are_bits}
use Rattle.typed_value.specs.Values.{Val, Vals, Plain, Plains, PlainPairs, bit_string, record_of, absent, list_of, ref_to, unknown, map_of, raw, rest, no_vals, a_val, no_pairs, a_pair, parts, most_levels, most_parts}
use Rattle.core_form.specs.Scope.{Scope, with_number, value_in, bind, values_in}
use Rattle.core_form.specs.Core.{Declaration, CoreSchema, field_names}
use Rattle.core_form.specs.Fit.{fit}
use Rattle.spelling.specs.Goals.{Row, natural, integer, string, no_row, row, Goal, at_type, at_field, at_cell, Shape, typed, fields_here, fields_under, left_out, as_cell, at_fields, under_ref, is_ref, shape_of}
use Rattle.hashmap_tree.specs.Dict.{unseen}
use Rattle.hashmap_tree.specs.Walk.{Fault, branch, walk}
use Rattle.hashmap_tree.specs.First.{Edge, at_leaf, at_fork, first_edge}
use Rattle.typed_value.specs.Values as values
use Rattle.spelling.specs.Spells.{own, next_bit}
use Rattle.schema_leads.specs.Leads.{leads, some_begins}
use Rattle.spelling.specs.Places.{Spot, Place, stuck, at_root, start, field_of, item_of, result_of}
use Rattle.cell_nodes.specs.declared.tree.Mode.{Mode}
use Rattle.hashmap_tree.specs.declared.found.WalkCause.{WalkCause}
use Rattle.hashmap_tree.specs.declared.found.WalkCause.TheVariants as cause
use Rattle.spelling.specs.declared.Cause.{Cause}
use Rattle.spelling.specs.declared.Cause.TheVariants.{Nesting, Bulk, Overflow, NoConstructor, ShortBits, ShortRefs, OutOfRange, Constraint, NoSolution, Idle, Exotic, Label, Leftover}

infixl 10 ◌>>=◌
abbrev pub ◌>>=◌ : {A B : Type 0} → Result A Place → (A → Result B Place) → Result B Place
(Ok x) >>= f = f x
(Err e) >>= f = Err e

-- a value, its outputs, and what it leaves
abbrev pub Found : Type 0
Found = Plain × List ℕ × Slice

-- reads at a spot and a goal, where so many parts have begun
abbrev pub Reader : Type 0
Reader = Spot → Goal → ℕ → Slice → Result Found Place

-- the number of this item, or Overflow
abbrev pub known : {A : Type 0} → Spot → Option A → Result A Place
known h (Some n) = Ok n
known h None = Err (stuck h Overflow)

abbrev pub reported : {A : Type 0} → Spot → Result A Cause → Result A Place
reported h (Ok a) = Ok a
reported h (Err why) = Err (stuck h why)

-- ---- numbers and bit strings

abbrev pub take_bits : Spot → ℕ → Slice → Result (List ℕ × Slice) Place
take_bits h n s =
    if nat_lt (length s.bits) n then Err (stuck h ShortBits)
    else Ok (take n s.bits, record { bits = drop n s.bits; refs = s.refs })

-- the number of an integer
abbrev pub number_value : ℤ → Plain
number_value (pos n) = values.number false n
number_value (negsuc n) = values.number true (suc n)

abbrev pub natural_of : Spot → ℕ → Bool → List ℕ → Slice → Result Found Place
natural_of h bound named bits after =
    if are_bits bits then
    (if nat_lt (number_of bits) bound
    then Ok (values.number false (number_of bits), own named (number_of bits), after)
    else Err (stuck h OutOfRange))
    else Err (stuck h ShortBits)

abbrev pub integer_of : Spot → List ℕ → Slice → Result Found Place
integer_of h bits after =
    if are_bits bits then Ok (number_value (signed_number_of bits), [], after) else Err (stuck h ShortBits)

-- a basic type, by its row; what has no row is read elsewhere
abbrev pub read_row : Spot → Row → Slice → Result Found Place
read_row h (natural width bound named) s = do
  x ← take_bits h width s
  natural_of h bound named x.0 x.1
read_row h (integer width) s = do
  x ← take_bits h width s
  integer_of h x.0 x.1
read_row h (string width) s = do
  x ← take_bits h width s
  Ok (bit_string x.0, [], x.1)
read_row h no_row s = Err (stuck h NoConstructor)

-- ---- references

-- the whole of a slice
abbrev pub whole_of : Reader → Spot → Goal → ℕ → Slice → Result Plain Place
whole_of R h g q s = do
  x ← R h g q s
  if is_nothing x.2 then Ok x.0 else Err (stuck h Leftover)

abbrev pub ordinary_of : Reader → Spot → Goal → ℕ → Kind → Slice → Result Plain Place
ordinary_of R h g q Ordinary s = whole_of R h g q s
ordinary_of R h g q _ s = Err (stuck h Exotic)

-- what a cell holds: the cell as it is, or the value that all of an ordinary cell spells
abbrev pub cell_value : Reader → Spot → Goal → ℕ → Tree → Result Plain Place
cell_value R h at_cell q c = whole_of R h at_cell q (only_ref c)
cell_value R h (at_type t) q c = ordinary_of R h (at_type t) q (out-Tree c).kind (content c)
cell_value R h (at_field e t scope) q c = ordinary_of R h (at_field e t scope) q (out-Tree c).kind (content c)

abbrev pub child_of : Reader → Spot → Goal → ℕ → Option Hidden → Tree → Result Plain Place
child_of R h g q (Some x) c = Ok (unknown x)
child_of R h g q None c = do
  v ← cell_value R h g q c
  Ok (ref_to tt v)

abbrev pub read_ref : Mode → Reader → Spot → Goal → ℕ → List ℕ → List Tree → Result Found Place
read_ref mode R h g q bits [] = Err (stuck h ShortRefs)
read_ref mode R h g q bits (c ∷ refs) = do
  v ← child_of R h g q (unseen mode c) c
  Ok (v, [], record { bits = bits; refs = refs })

-- the cell of one reference
abbrev pub read_cell : Spot → List ℕ → List Tree → Result Found Place
read_cell h bits [] = Err (stuck h ShortRefs)
read_cell h bits (c ∷ refs) = Ok (raw c, [], record { bits = bits; refs = refs })

-- ---- dictionaries: the tree is walked whole before the values are read

abbrev pub why_of : WalkCause → Cause
why_of cause.Exotic = Exotic
why_of cause.ShortBits = ShortBits
why_of cause.Label = Label
why_of cause.ShortRefs = ShortRefs
why_of cause.Leftover = Leftover

abbrev pub walked : {A : Type 0} → Spot → Result A Fault → Result A Place
walked h (Ok x) = Ok x
walked h (Err f) = Err (stuck h (why_of f.cause))

-- the values of leaves, in the order of keys
abbrev pub leaf_values : Reader → Spot → Closed → ℕ → List (List ℕ × Slice) → Result PlainPairs Place
leaf_values R h t q [] = Ok no_pairs
leaf_values R h t q (l ∷ ls) = do
  v ← whole_of R h (at_type t) q l.1
  ps ← leaf_values R h t (q + parts v) ls
  Ok (a_pair l.0 v ps)

abbrev pub at_edge : Reader → Spot → Closed → ℕ → Edge → Result Found Place
at_edge R h t q (at_leaf k middle) = do
  x ← R h (at_type t) q middle
  Ok (map_of tt (a_pair k x.0 no_pairs) [], [], x.2)
at_edge R h t q (at_fork es after) = do
  ps ← leaf_values R h t q (pairs_in es)
  Ok (map_of tt ps (hidden_in es), [], after)

abbrev pub read_dict : Mode → Reader → Spot → ℕ → Closed → ℕ → Slice → Result Found Place
read_dict mode R h n t q s = do
  e ← walked h (first_edge mode n s)
  at_edge R h t q e

-- the entries of a cell as an edge
abbrev pub walk_cell : Mode → ℕ → Tree → Result Entries Fault
walk_cell mode n c = branch (walk (suc n) mode) mode n c

abbrev pub read_root : Mode → Reader → Spot → ℕ → Closed → ℕ → List ℕ → List Tree → Result Found Place
read_root mode R h n t q bits [] = Err (stuck h ShortRefs)
read_root mode R h n t q bits (c ∷ refs) = do
  es ← walked h (walk_cell mode n c)
  ps ← leaf_values R h t q (pairs_in es)
  Ok (map_of tt ps (hidden_in es), [], record { bits = bits; refs = refs })

abbrev pub by_bit : Mode → Reader → Spot → ℕ → Closed → ℕ → Option (Bool × List ℕ) → List Tree → Result Found Place
by_bit mode R h n t q None refs = Err (stuck h ShortBits)
by_bit mode R h n t q (Some (false, bits)) refs = Ok (map_of tt no_pairs [], [], record { bits = bits; refs = refs })
by_bit mode R h n t q (Some (true, bits)) refs = read_root mode R h n t q bits refs

-- ---- repetitions

-- one item, which takes a bit or a reference
abbrev pub turn : Reader → Spot → Closed → ℕ → Slice → Result Found Place
turn R h t q s = do
  x ← R h (at_type t) q s
  if took s x.2 then Ok x else Err (stuck h Idle)

abbrev pub repeat : Reader → Spot → ℕ → Closed → ℕ → Slice → Result (Plains × Slice) Place
repeat R h zero t q s = Ok (no_vals, s)
repeat R h (suc k) t q s = do
  x ← turn R h t q s
  more ← repeat R h k t (q + parts x.0) x.2
  Ok (a_val x.0 more.0, more.1)

-- ---- equations

-- a part without the unknown that has no value, exceeds 2^32 - 1; in an accepted schema every variable is set
abbrev pub why_unsolved : NatError → Cause
why_unsolved why_not.NoSolution = NoSolution
why_unsolved why_not.Overflow = Overflow
why_unsolved (why_not.Unknown v) = Overflow

abbrev pub sought_or : Result ℕ NatError → Result ℕ Cause
sought_or (Ok x) = Ok x
sought_or (Err e) = Err (why_unsolved e)

-- the number that solves an equation, or why there is none
abbrev pub sought_number : Expr → Expr → Numbers → Result ℕ Cause
sought_number a b env = sought_or (solution a b env)

-- ---- records

-- What one item gives: its value, if it has one, what the variables stand for after it, the parts begun, and what is
-- left.
pub record Step : Type 0 where
  pub gives : List Plain
  pub scope : Scope
  pub begun : ℕ
  pub left : Slice

abbrev pub step : Reader → Spot → Item → Scope → ℕ → Slice → Result Step Place
step R h (check a op b i) scope q s = do
  m ← known (item_of h i) (value_in a scope)
  n ← known (item_of h i) (value_in b scope)
  if comparison op m n then Ok (record { gives = []; scope = scope; begun = q; left = s })
      else Err (stuck (item_of h i) Constraint)
step R h (solve v a b i) scope q s = do
  x ← reported (item_of h i) (sought_number a b scope.numbers)
  Ok (record { gives = []; scope = with_number v x scope; begun = q; left = s })
step R h (field x slot c t) scope q s = do
  v ← R (field_of h x) (at_field c t scope) q s
  Ok (record { gives = v.0 ∷ []; scope = bind (sets slot t) v.1 scope; begun = q + parts v.0; left = v.2 })

-- the value before the others, where there is one
abbrev pub prepend : {A : Type 0} → List (Val A) → Vals A → Vals A
prepend [] ws = ws
prepend (v ∷ vs) ws = a_val v (prepend vs ws)

-- the values of the explicit fields, what the variables stand for after them, and what is left
abbrev pub Got : Type 0
Got = Plains × Scope × Slice

abbrev pub read_fields : Reader → Spot → Items → Scope → ℕ → Slice → Result Got Place
read_fields R h no_items scope q s = Ok (no_vals, scope, s)
read_fields R h (an_item i is) scope q s = do
  x ← step R h i scope q s
  more ← read_fields R h is x.scope x.begun x.left
  Ok (prepend x.gives more.0, more.1, more.2)

-- what the inputs of a constructor bind, if it is of this type, one of its leads begins the bits, and it fits
abbrev pub candidate : CoreSchema → Word → ClosedArgs → List ℕ → Declaration → Option Scope
candidate schema type args bits c =
    if bytes_eq c.of_type type && some_begins (leads schema c) bits then fit c.core args else None

abbrev pub Choice : Type 0
Choice = Declaration × Scope

abbrev pub first : Declaration → Option Scope → Option Choice → Option Choice
first c (Some scope) later = Some (c, scope)
first c None later = later

-- the first constructor that can be entered; an accepted schema has at most one
abbrev pub choose : CoreSchema → CoreSchema → Word → ClosedArgs → List ℕ → Option Choice
choose schema [] type args bits = None
choose schema (c ∷ cs) type args bits = first c (candidate schema type args bits c) (choose schema cs type args bits)

abbrev pub after_tag : List ℕ → Slice → Slice
after_tag tag s = record { bits = drop (length tag) s.bits; refs = s.refs }

abbrev pub read_declared : Reader → Spot → Option Choice → ℕ → Slice → Result Found Place
read_declared R h None q s = Err (stuck h NoConstructor)
read_declared R h (Some (c, scope)) q s = do
  x ← read_fields R (start c) c.core.items scope q (after_tag c.core.tag s)
  outs ← known (result_of (start c)) (values_in c.core.outputs x.1)
  Ok (record_of (Some c.shown) (field_names c.core.items) x.0, outs, x.2)

-- ---- goals

abbrev pub read_type : Mode → CoreSchema → Reader → Spot → Closed → ℕ → Slice → Result Found Place
read_type mode schema R h closed.nat32 q s = read_row h (row closed.nat32) s
read_type mode schema R h (closed.bits n) q s = read_row h (row (closed.bits n)) s
read_type mode schema R h (closed.below n) q s = read_row h (row (closed.below n)) s
read_type mode schema R h (closed.up_to n) q s = read_row h (row (closed.up_to n)) s
read_type mode schema R h (closed.uint n) q s = read_row h (row (closed.uint n)) s
read_type mode schema R h (closed.int n) q s = read_row h (row (closed.int n)) s
read_type mode schema R h (closed.bit_str n) q s = read_row h (row (closed.bit_str n)) s
read_type mode schema R h closed.whole q s = Ok (rest (kept s), [], nothing)
read_type mode schema R h (closed.ref t) q s = read_ref mode R h (under_ref t) q s.bits s.refs
read_type mode schema R h (closed.repeat n t) q s = do
  x ← repeat R h n t q s
  Ok (list_of x.0, [], x.1)
read_type mode schema R h (closed.dict n t) q s = read_dict mode R h n t q s
read_type mode schema R h (closed.dict_e n t) q s = by_bit mode R h n t q (next_bit s.bits) s.refs
read_type mode schema R h (closed.named type args) q s = read_declared R h (choose schema schema type args s.bits) q s

abbrev pub read_shape : Mode → CoreSchema → Reader → Spot → Shape → ℕ → Slice → Result Found Place
read_shape mode schema R h (typed t) q s = read_type mode schema R h t q s
read_shape mode schema R h (fields_here is scope) q s = do
  x ← read_fields R h is scope q s
  Ok (record_of None (field_names is) x.0, [], x.2)
read_shape mode schema R h (fields_under is scope) q s = read_ref mode R h (at_fields is scope) q s.bits s.refs
read_shape mode schema R h left_out q s = Ok (absent, [], s)
read_shape mode schema R h as_cell q s = read_cell h s.bits s.refs

abbrev pub read_goal : Mode → CoreSchema → Reader → Reader
read_goal mode schema R h g q s = do
  c ← reported h (shape_of g)
  read_shape mode schema R h c q s

-- First a value must have a level left, for itself and for those in it, and be one of the parts that may begin.
unfoldable pub reading : ℕ → ℕ → Mode → CoreSchema → Reader
reading zero most mode schema h g q s = Err (stuck h Nesting)
reading (suc n) most mode schema h g q s =
    if nat_lt q most then read_goal mode schema (reading n most mode schema) h g (q + 1) s else Err (stuck h Bulk)

-- ---- the root

-- a hidden root is Exotic where the type is itself a reference
abbrev pub root_of : Reader → Closed → Option Hidden → Tree → Result Plain Place
root_of R t (Some x) c = if is_ref t then Err (stuck at_root Exotic) else Ok (unknown x)
root_of R t None c = cell_value R at_root (under_ref t) 0 c

abbrev pub read_within : ℕ → ℕ → Mode → CoreSchema → Closed → Tree → Result Plain Place
read_within n most mode schema t c = root_of (reading n most mode schema) t (unseen mode c) c

-- the reading of a root cell, or the place where it is stuck
abbrev pub read : Mode → CoreSchema → Closed → Tree → Result Plain Place
read mode schema t c = read_within most_levels most_parts mode schema t c
