-- The plain builder: a value put after what a cell holds so far, with the outputs that it gives, or the first place
-- where it doesn't fit.
--
-- Source: TON documentation, "TL-B language": what each form takes; TVM whitepaper, 3.3: dictionaries. The order in
-- which a value is gone through, and the order of causes, are this project's own: a referenced cell is built before its
-- reference is put, and the values of a map are built in the order of keys before its tree.
use Rattle.std.specs.Prelude.{ℕ, zero, suc, ◌+◌, ◌*◌, ◌^◌, Bool, true, false, ◌&&◌, ◌||◌, if◌then◌else◌, nat_lt, nat_le, nat_eq, bytes_eq, ℤ, pos, negsuc, List, [], ◌∷◌, length, Option, Some, None, Result, Ok, Err}
use Rattle.bit_slice.specs.Bits.{spelled, signed_spelled}
use Rattle.nat_solver.specs.Number.{comparison}
use Rattle.cell_nodes.specs.Constructed.{pruned_of}
use Rattle.cell_nodes.specs.Tree.{unfolded}
use Rattle.cell_nodes.specs.declared.tree.Tree.{Tree}
use Rattle.cell_nodes.specs.declared.tree.Hidden.{Hidden}
use Rattle.cell_nodes.specs.declared.tree.Mode.{Mode}
use Rattle.cell_nodes.specs.declared.tree.Mode.TheVariants.{Whole, Partial, Lax}
use Rattle.hashmap_tree.specs.Dict.{unseen}
use Rattle.hashmap_tree.specs.Entries.{Slice, cell_of, hidden, Entries}
use Rattle.hashmap_tree.specs.Exceeds.{Excess, first_key}
use Rattle.hashmap_tree.specs.Exceeds as excess
use Rattle.hashmap_tree.specs.Merged.{merged}
use Rattle.typed_value.specs.Values as values
use Rattle.typed_value.specs.Values.{Plain, Plains, PlainPairs, number, bit_string, record_of, absent, list_of, ref_to, unknown, map_of, raw, rest, no_vals, a_val, no_pairs, a_pair, parts, most_levels, most_parts}
use Rattle.core_form.specs.Core.{Word, Item, Items, no_items, an_item, check, solve, field, sets, Declaration, CoreSchema, field_names}
use Rattle.core_form.specs.Closed.{Closed, ClosedArgs}
use Rattle.core_form.specs.Closed as closed
use Rattle.core_form.specs.Fit.{fit}
use Rattle.core_form.specs.Scope.{Scope, with_number, value_in, bind, values_in}
use Rattle.spelling.specs.Goals.{Row, natural, integer, string, no_row, row, Goal, at_type, at_field, at_cell, Shape, typed, fields_here, fields_under, left_out, as_cell, at_fields, under_ref, is_ref, shape_of}
use Rattle.spelling.specs.Places.{Spot, Place, stuck, at_root, start, field_of, item_of, tag_of, result_of}
use Rattle.spelling.specs.PlainReader.{◌>>=◌, known, reported, sought_number, Choice, first}
use Rattle.spelling.specs.Slices.{only_bits, only_ref, took}
use Rattle.spelling.specs.Spells.{own, integer_of}
use Rattle.spelling.specs.declared.Cause.{Cause}
use Rattle.spelling.specs.declared.Cause.TheVariants as why
use Rattle.building.specs.Growing.{Grown, empty, join, is_deep, some_deep, lay}
use Rattle.building.specs.MapTests.{outline, fits_edge, fits_root}
use Rattle.building.specs.Planting.{Top, leaf_top, fork_top, edge_of, tops, planting}

-- the outputs, and the content with the value
abbrev pub Made : Type 0
Made = List ℕ × Grown

-- builds at a spot and a goal, where so many parts have begun
abbrev pub Maker : Type 0
Maker = Spot → Goal → ℕ → Plain → Grown → Result Made Place

-- ---- one item

abbrev pub put : Spot → Slice → Bool → Bool → Grown → Result Grown Place
put h x deep last b = reported h (lay x deep last b)

-- an item without outputs
abbrev pub put_alone : Spot → Slice → Bool → Bool → Grown → Result Made Place
put_alone h x deep last b = do
  g ← put h x deep last b
  Ok ([], g)

abbrev pub put_bits : Spot → List ℕ → List ℕ → Grown → Result Made Place
put_bits h bits outs b = do
  g ← put h (only_bits bits) false false b
  Ok (outs, g)

-- ---- numbers and bit strings

-- the number that is 0 and negative fits no type; another negative number is out of the range of naturals
abbrev pub make_natural : Spot → ℕ → ℕ → Bool → Bool → ℕ → Grown → Result Made Place
make_natural h width bound named true zero b = Err (stuck h why.Shape)
make_natural h width bound named true (suc size) b = Err (stuck h why.OutOfRange)
make_natural h width bound named false size b =
    if nat_lt size bound then put_bits h (spelled width size) (own named size) b else Err (stuck h why.OutOfRange)

-- a two's complement number of so many bits, as `InSignedRange` of `bit_slice` says
abbrev pub is_in_range : ℕ → ℤ → Bool
is_in_range width (pos n) = nat_lt (2 * n) (2 ^ width)
is_in_range width (negsuc n) = nat_le (2 * (n + 1)) (2 ^ width)

abbrev pub make_integer : Spot → ℕ → Option ℤ → Grown → Result Made Place
make_integer h width None b = Err (stuck h why.Shape)
make_integer h width (Some z) b =
    if is_in_range width z then put_bits h (signed_spelled width z) [] b else Err (stuck h why.OutOfRange)

abbrev pub make_number : Spot → Row → Bool → ℕ → Grown → Result Made Place
make_number h (natural width bound named) negative size b = make_natural h width bound named negative size b
make_number h (integer width) negative size b = make_integer h width (integer_of negative size) b
make_number h (string width) negative size b = Err (stuck h why.Shape)
make_number h no_row negative size b = Err (stuck h why.Shape)

abbrev pub make_string : Spot → Row → List ℕ → Grown → Result Made Place
make_string h (string width) bits b =
    if nat_eq (length bits) width then put_bits h bits [] b else Err (stuck h why.Shape)
make_string h (natural width bound named) bits b = Err (stuck h why.Shape)
make_string h (integer width) bits b = Err (stuck h why.Shape)
make_string h no_row bits b = Err (stuck h why.Shape)

-- ---- references

abbrev pub first_of : List Tree → Slice → Tree
first_of [] s = cell_of s
first_of (c ∷ cs) s = c

-- the cell with this content; at a cell of any kind, that cell itself
abbrev pub finished : Goal → Slice → Tree
finished (at_type t) s = cell_of s
finished (at_field e t scope) s = cell_of s
finished at_cell s = first_of s.refs s

abbrev pub put_ref : Spot → Tree → Grown → Result Made Place
put_ref h c b = put_alone h (only_ref c) (is_deep c) false b

-- the cell is built before its reference is put
abbrev pub make_child : Maker → Spot → Goal → ℕ → Plain → Grown → Result Made Place
make_child R h g q v b = do
  x ← R h g q v empty
  put_ref h (finished g x.1.held) b

-- a pruned branch, in mode Partial alone
abbrev pub make_hidden : Mode → Spot → Hidden → Grown → Result Made Place
make_hidden Partial h x b = put_alone h (only_ref (pruned_of x.hash x.depth)) (nat_lt 1023 x.depth) false b
make_hidden Whole h x b = Err (stuck h why.Shape)
make_hidden Lax h x b = Err (stuck h why.Shape)

-- the cell of `^Any` and `^Cell` as it is; one that would be read as hidden doesn't fit
abbrev pub make_cell : Spot → Option Hidden → Tree → Grown → Result Made Place
make_cell h (Some x) c b = Err (stuck h why.Shape)
make_cell h None c b = Ok ([], record { held = join b.held (only_ref c); shut = b.shut })

-- ---- dictionaries

-- the contents of leaves, built in the order of keys
abbrev pub Leaves : Type 0
Leaves = List (List ℕ × Grown)

abbrev pub make_leaves : Maker → Spot → Closed → ℕ → PlainPairs → Result Leaves Place
make_leaves R h t q no_pairs = Ok []
make_leaves R h t q (a_pair k v ps) = do
  x ← R h (at_type t) q v empty
  xs ← make_leaves R h t (q + parts v) ps
  Ok ((k, x.1) ∷ xs)

abbrev pub contents_of : Leaves → List (List ℕ × Slice)
contents_of [] = []
contents_of (x ∷ xs) = (x.0, x.1.held) ∷ contents_of xs

abbrev pub entries_of : Leaves → List (List ℕ × Hidden) → Entries
entries_of xs us = merged (contents_of xs) us

-- whether the one value of the dictionary stands in place, and takes all that is left
abbrev pub is_last : Leaves → List (List ℕ × Hidden) → Bool
is_last [] us = false
is_last (x ∷ y ∷ xs) us = false
is_last (x ∷ []) [] = x.1.shut
is_last (x ∷ []) (u ∷ us) = false

abbrev pub cause_of : Excess → Cause
cause_of (excess.full k) = why.Full
cause_of excess.deep = why.TooDeep

abbrev pub planted : {A : Type 0} → Spot → Result A Excess → Result A Place
planted h (Ok x) = Ok x
planted h (Err f) = Err (stuck h (cause_of f))

-- The first edge in place, whose parts are built. What follows a rest is that; else the edge is judged by itself, and
-- then with what the cell holds.
abbrev pub put_edge : Spot → ℕ → List ℕ → Top → Bool → Grown → Result Made Place
put_edge h n key top last b =
    if b.shut then Err (stuck h why.AfterRest)
    else planted h (edge_of n key top) >>= λ s. put_alone h s false last b

abbrev pub plant_here : Spot → ℕ → Entries → Bool → Grown → Result Made Place
plant_here h n es last b = planted h (tops n [] es) >>= λ top. put_edge h n (first_key es) top last b

abbrev pub make_dict : Mode → Maker → Spot → ℕ → Closed → ℕ → PlainPairs → List (List ℕ × Hidden) → Grown
    → Result Made Place
make_dict mode R h n t q ps us b =
    if fits_edge mode n (outline ps us)
    then (make_leaves R h t q ps >>= λ xs. plant_here h n (entries_of xs us) (is_last xs us) b)
    else Err (stuck h why.Shape)

-- the bit 1 and the reference to this cell
abbrev pub put_root : Spot → Tree → Bool → Grown → Result Made Place
put_root h c deep b = put_alone h (record { bits = 1 ∷ []; refs = c ∷ [] }) deep false b

abbrev pub plant_root : Spot → ℕ → Entries → Grown → Result Made Place
plant_root h n [] b = put_bits h (0 ∷ []) [] b
plant_root h n (([], hidden x) ∷ es) b = put_root h (pruned_of x.hash x.depth) (nat_lt 1023 x.depth) b
plant_root h n es b = planted h (planting n es) >>= λ s. put_root h (cell_of s) (is_deep (cell_of s)) b

abbrev pub make_dict_e : Mode → Maker → Spot → ℕ → Closed → ℕ → PlainPairs → List (List ℕ × Hidden) → Grown
    → Result Made Place
make_dict_e mode R h n t q ps us b =
    if fits_root mode n (outline ps us)
    then (make_leaves R h t q ps >>= λ xs. plant_root h n (entries_of xs us) b)
    else Err (stuck h why.Shape)

-- ---- repetitions

-- whether a bit or a reference was put
abbrev pub grew : Grown → Grown → Bool
grew b g = took g.held b.held

abbrev pub turn : Maker → Spot → Closed → ℕ → Plain → Grown → Result Made Place
turn R h t q v b = do
  x ← R h (at_type t) q v b
  if grew b x.1 then Ok x else Err (stuck h why.Idle)

abbrev pub make_items : Maker → Spot → Closed → ℕ → Plains → Grown → Result Grown Place
make_items R h t q no_vals b = Ok b
make_items R h t q (a_val v vs) b = do
  x ← turn R h t q v b
  make_items R h t (q + parts v) vs x.1

abbrev pub count : Plains → ℕ
count no_vals = 0
count (a_val v vs) = suc (count vs)

-- ---- records

-- What one item gives: what the variables stand for after it, the parts begun, the values that are due, and the
-- content.
pub record Step : Type 0 where
  pub scope : Scope
  pub begun : ℕ
  pub due : Plains
  pub grown : Grown

-- a field without a value is never met: the values are counted before
abbrev pub step : Maker → Spot → Item → Scope → ℕ → Plains → Grown → Result Step Place
step R h (check a op c i) scope q vs b = do
  m ← known (item_of h i) (value_in a scope)
  n ← known (item_of h i) (value_in c scope)
  if comparison op m n then Ok (record { scope = scope; begun = q; due = vs; grown = b })
      else Err (stuck (item_of h i) why.Constraint)
step R h (solve v a c i) scope q vs b = do
  x ← reported (item_of h i) (sought_number a c scope.numbers)
  Ok (record { scope = with_number v x scope; begun = q; due = vs; grown = b })
step R h (field x slot c t) scope q no_vals b = Err (stuck h why.Shape)
step R h (field x slot c t) scope q (a_val v vs) b = do
  y ← R (field_of h x) (at_field c t scope) q v b
  Ok (record { scope = bind (sets slot t) y.0 scope; begun = q + parts v; due = vs; grown = y.1 })

abbrev pub make_fields : Maker → Spot → Items → Scope → ℕ → Plains → Grown → Result (Scope × Grown) Place
make_fields R h no_items scope q no_vals b = Ok (scope, b)
make_fields R h no_items scope q (a_val v vs) b = Err (stuck h why.Shape)
make_fields R h (an_item i is) scope q vs b = do
  x ← step R h i scope q vs b
  make_fields R h is x.scope x.begun x.due x.grown

abbrev pub same_words : List Word → List Word → Bool
same_words [] [] = true
same_words [] (y ∷ ys) = false
same_words (x ∷ xs) [] = false
same_words (x ∷ xs) (y ∷ ys) = bytes_eq x y && same_words xs ys

-- whether a record has the fields of these items
abbrev pub has_fields : List Word → Plains → Items → Bool
has_fields names vs is = same_words names (field_names is) && nat_eq (count vs) (length names)

-- what the inputs of a constructor bind, if it is of this type and shown by this name, and fits
abbrev pub candidate : Word → Word → ClosedArgs → Declaration → Option Scope
candidate type name args c =
    if bytes_eq c.of_type type && bytes_eq c.shown name then fit c.core args else None

-- the first such constructor; in an accepted schema no other one of the type has its name
abbrev pub choose : CoreSchema → Word → Word → ClosedArgs → Option Choice
choose [] type name args = None
choose (c ∷ cs) type name args = first c (candidate type name args c) (choose cs type name args)

-- the tag, the items and the outputs of a constructor
abbrev pub make_inside : Maker → Declaration → Scope → ℕ → Plains → Grown → Result Made Place
make_inside R c scope q vs b = do
  g ← put (tag_of (start c)) (only_bits c.core.tag) false false b
  x ← make_fields R (start c) c.core.items scope q vs g
  outs ← known (result_of (start c)) (values_in c.core.outputs x.0)
  Ok (outs, x.1)

abbrev pub make_declared : Maker → Spot → Option Choice → ℕ → List Word → Plains → Grown → Result Made Place
make_declared R h None q names vs b = Err (stuck h why.NoConstructor)
make_declared R h (Some (c, scope)) q names vs b =
    if has_fields names vs c.core.items then make_inside R c scope q vs b else Err (stuck h why.Shape)

abbrev pub make_inner : Maker → Spot → Items → Scope → ℕ → List Word → Plains → Grown → Result Made Place
make_inner R h is scope q names vs b =
    if has_fields names vs is then (make_fields R h is scope q vs b >>= λ x. Ok ([], x.1))
    else Err (stuck h why.Shape)

-- ---- values at a shape

abbrev pub number_at : Spot → Shape → Bool → ℕ → Grown → Result Made Place
number_at h (typed t) negative size b = make_number h (row t) negative size b
number_at h _ negative size b = Err (stuck h why.Shape)

abbrev pub string_at : Spot → Shape → List ℕ → Grown → Result Made Place
string_at h (typed t) bits b = make_string h (row t) bits b
string_at h _ bits b = Err (stuck h why.Shape)

abbrev pub record_at : CoreSchema → Maker → Spot → Shape → ℕ → Option Word → List Word → Plains → Grown
    → Result Made Place
record_at schema R h (typed (closed.named type args)) q (Some name) names vs b =
    make_declared R h (choose schema type name args) q names vs b
record_at schema R h (fields_here is scope) q None names vs b = make_inner R h is scope q names vs b
record_at schema R h _ q name names vs b = Err (stuck h why.Shape)

abbrev pub absent_at : Spot → Shape → Grown → Result Made Place
absent_at h left_out b = Ok ([], b)
absent_at h _ b = Err (stuck h why.Shape)

abbrev pub list_at : Maker → Spot → Shape → ℕ → Plains → Grown → Result Made Place
list_at R h (typed (closed.repeat n t)) q vs b =
    if nat_eq (count vs) n then (make_items R h t q vs b >>= λ g. Ok ([], g)) else Err (stuck h why.Shape)
list_at R h _ q vs b = Err (stuck h why.Shape)

abbrev pub ref_at : Maker → Spot → Shape → ℕ → Plain → Grown → Result Made Place
ref_at R h (typed (closed.ref t)) q v b = make_child R h (under_ref t) q v b
ref_at R h (fields_under is scope) q v b = make_child R h (at_fields is scope) q v b
ref_at R h _ q v b = Err (stuck h why.Shape)

abbrev pub unknown_at : Mode → Spot → Shape → Hidden → Grown → Result Made Place
unknown_at mode h (typed (closed.ref t)) x b = make_hidden mode h x b
unknown_at mode h (fields_under is scope) x b = make_hidden mode h x b
unknown_at mode h _ x b = Err (stuck h why.Shape)

abbrev pub map_at : Mode → Maker → Spot → Shape → ℕ → PlainPairs → List (List ℕ × Hidden) → Grown → Result Made Place
map_at mode R h (typed (closed.dict n t)) q ps us b = make_dict mode R h n t q ps us b
map_at mode R h (typed (closed.dict_e n t)) q ps us b = make_dict_e mode R h n t q ps us b
map_at mode R h _ q ps us b = Err (stuck h why.Shape)

abbrev pub raw_at : Mode → Spot → Shape → Tree → Grown → Result Made Place
raw_at mode h as_cell c b = make_cell h (unseen mode c) c b
raw_at mode h _ c b = Err (stuck h why.Shape)

-- the bits and the references of a rest are one item
abbrev pub rest_at : Spot → Shape → values.Slice → Grown → Result Made Place
rest_at h (typed closed.whole) s b =
    put_alone h (record { bits = s.bits; refs = s.refs }) (some_deep s.refs) true b
rest_at h _ s b = Err (stuck h why.Shape)

abbrev pub make_shape : Mode → CoreSchema → Maker → Spot → Shape → ℕ → Plain → Grown → Result Made Place
make_shape mode schema R h c q (number negative size) b = number_at h c negative size b
make_shape mode schema R h c q (bit_string bits) b = string_at h c bits b
make_shape mode schema R h c q (record_of name names vs) b = record_at schema R h c q name names vs b
make_shape mode schema R h c q absent b = absent_at h c b
make_shape mode schema R h c q (list_of vs) b = list_at R h c q vs b
make_shape mode schema R h c q (ref_to a v) b = ref_at R h c q v b
make_shape mode schema R h c q (unknown x) b = unknown_at mode h c x b
make_shape mode schema R h c q (map_of a ps us) b = map_at mode R h c q ps us b
make_shape mode schema R h c q (raw d) b = raw_at mode h c d b
make_shape mode schema R h c q (rest s) b = rest_at h c s b

abbrev pub make_goal : Mode → CoreSchema → Maker → Maker
make_goal mode schema R h g q v b = do
  c ← reported h (shape_of g)
  make_shape mode schema R h c q v b

-- First a value must have a level left, for itself and for those in it, and be one of the parts that may begin.
unfoldable pub making : ℕ → ℕ → Mode → CoreSchema → Maker
making zero most mode schema h g q v b = Err (stuck h why.Nesting)
making (suc n) most mode schema h g q v b =
    if nat_lt q most then make_goal mode schema (making n most mode schema) h g (q + 1) v b else Err (stuck h why.Bulk)

-- ---- the root

-- the finished root, and then the number of its cells
abbrev pub sized : ℕ → Tree → Result Tree Place
sized cells c = if nat_lt cells (unfolded c) then Err (stuck at_root why.Sprawl) else Ok c

abbrev pub open_root : ℕ → ℕ → Mode → CoreSchema → Closed → Plain → Result Tree Place
open_root n most mode schema t v = do
  x ← making n most mode schema at_root (under_ref t) 0 v empty
  Ok (finished (under_ref t) x.1.held)

-- a pruned branch as the root
abbrev pub hidden_root : ℕ → ℕ → Hidden → Result Tree Place
hidden_root zero most x = Err (stuck at_root why.Nesting)
hidden_root (suc n) zero x = Err (stuck at_root why.Bulk)
hidden_root (suc n) (suc most) x =
    if nat_lt 1024 x.depth then Err (stuck at_root why.TooDeep) else Ok (pruned_of x.hash x.depth)

-- In mode Partial a hidden part stands in place of the root, but where the type is itself a reference: there it is the
-- reference in the root.
abbrev pub hides_root : Mode → Closed → Plain → Option Hidden
hides_root Partial t (unknown x) = if is_ref t then None else Some x
hides_root _ t v = None

abbrev pub root_by : Option Hidden → ℕ → ℕ → Mode → CoreSchema → Closed → Plain → Result Tree Place
root_by (Some x) n most mode schema t v = hidden_root n most x
root_by None n most mode schema t v = open_root n most mode schema t v

abbrev pub built_root : ℕ → ℕ → Mode → CoreSchema → Closed → Plain → Result Tree Place
built_root n most mode schema t v = root_by (hides_root mode t v) n most mode schema t v

abbrev pub build_within : ℕ → ℕ → ℕ → Mode → CoreSchema → Closed → Plain → Result Tree Place
build_within n most cells mode schema t v = built_root n most mode schema t v >>= sized cells

-- the most cells of an unfolded tree
abbrev pub most_cells : ℕ
most_cells = 262144

-- the root cell that has the value as its reading, or the place where the value doesn't fit
abbrev pub build : Mode → CoreSchema → Closed → Plain → Result Tree Place
build mode schema t v = build_within most_levels most_parts most_cells mode schema t v
