-- Where a reading stops: the parts before are spelled, and the place carries the first cause that holds.
--
-- Source: this project's own, over what spells a value.
use Rattle.std.specs.Prelude.{ℕ, zero, suc, ◌+◌, ◌≡◌, ◌≢◌, ◌<◌, ◌≤◌, ◌⊎◌, true, false, List, [], ◌∷◌, ◌++◌, length, take, Option, Some, None, Result, Ok, Err}
use Rattle.bit_slice.specs.Bits.{number_of}
use Rattle.nat_solver.specs.Number.{Expr, Compares, Solves, first_lacking}
use Rattle.nat_solver.specs.Number as numbers
use Rattle.cell_nodes.specs.declared.tree.Tree.{Tree, out-Tree}
use Rattle.cell_nodes.specs.declared.tree.Kind.TheVariants.{Ordinary}
use Rattle.core_form.specs.Core.{Word, Items, no_items, an_item, check, solve, field, sets}
use Rattle.core_form.specs.Closed.{Closed, ClosedArgs}
use Rattle.core_form.specs.Closed as closed
use Rattle.hashmap_tree.specs.Entries.{Slice, cell_of, Then, Entries, pairs_in}
use Rattle.spelling.specs.Slices.{nothing, only_bits, only_ref, took}
use Rattle.hashmap_labels.specs.Reading.{are_bits}
use Rattle.typed_value.specs.Values.{Plain, levels, parts, most_levels, most_parts}
use Rattle.core_form.specs.Scope.{Scope, with_number, value_in, bind, values_in}
use Rattle.core_form.specs.Core.{Declaration, CoreSchema}
use Rattle.spelling.specs.Goals.{Row, natural, integer, string, no_row, row, Goal, at_type, at_field, at_cell, Shape, typed, fields_here, fields_under, left_out, as_cell, at_fields, under_ref, is_ref, shape_of}
use Rattle.hashmap_tree.specs.Dict.{unseen, Branch}
use Rattle.hashmap_tree.specs.First.{LeafEdge, Fork, HaltsFirst}
use Rattle.hashmap_tree.specs.Walk.{Fault}
use Rattle.hashmap_tree.specs.Halts.{HaltsBranch}
use Rattle.spelling.specs.Spells.{Spells, Meets, next_bit}
use Rattle.schema_leads.specs.Leads.{leads, some_begins}
use Rattle.spelling.specs.Places.{Spot, Place, stuck, at_root, start, field_of, item_of, result_of}
use Rattle.spelling.specs.PlainReader.{why_of}
use Rattle.cell_nodes.specs.declared.tree.Mode.{Mode}
use Rattle.spelling.specs.declared.Cause.{Cause}
use Rattle.spelling.specs.declared.Cause.TheVariants.{Nesting, Bulk, Overflow, NoConstructor, ShortBits, ShortRefs, OutOfRange, Constraint, NoSolution, Idle, Exotic, Leftover}

-- where a part stops: its spot, its goal, the parts begun, what is left
abbrev pub Stops : Type 1
Stops = Spot → Goal → ℕ → Slice → Place → Type 0

-- what spells a part that doesn't stop
abbrev pub Parts : Type 1
Parts = Goal → ℕ → Plain → Slice → List ℕ → Slice → Type 0

-- ---- numbers and bit strings

-- there are fewer bits, or numbers among them that are no bits (in a good tree there are none)
abbrev pub LacksBits : ℕ → Slice → Type 0
LacksBits width s = (length s.bits < width) ⊎ ((width ≤ length s.bits) × (are_bits (take width s.bits) ≡ false))

-- so many bits stand there, whose number is the bound or more
abbrev pub IsTooGreat : ℕ → ℕ → Slice → Type 0
IsTooGreat width bound s =
    (width ≤ length s.bits) × (are_bits (take width s.bits) ≡ true) × (bound ≤ number_of (take width s.bits))

abbrev pub StopsRow : Spot → Row → Slice → Place → Type 0
StopsRow h (natural width bound named) s p =
    (LacksBits width s × (p ≡ stuck h ShortBits)) ⊎ (IsTooGreat width bound s × (p ≡ stuck h OutOfRange))
StopsRow h (integer width) s p = LacksBits width s × (p ≡ stuck h ShortBits)
StopsRow h (string width) s p = (length s.bits < width) × (p ≡ stuck h ShortBits)
StopsRow h no_row s p = ⊥

-- ---- references

-- the whole of a slice: its beginning is stuck, or something is left
pub data StopsWhole (S : Stops) (P : Parts) (h : Spot) (g : Goal) (q : ℕ) (s : Slice) (p : Place) : Type 0 where
  within : S h g q s p → StopsWhole S P h g q s p
  over : (v : Plain) (outs : List ℕ) (left : Slice) → P g q v s outs left → left ≢ nothing → p ≡ stuck h Leftover
      → StopsWhole S P h g q s p

-- a cell that isn't hidden: it isn't ordinary, or its content stops
pub data StopsOrdinary (S : Stops) (P : Parts) (h : Spot) (g : Goal) (q : ℕ) (c : Tree) (p : Place) : Type 0 where
  exotic : (out-Tree c).kind ≢ Ordinary → p ≡ stuck h Exotic → StopsOrdinary S P h g q c p
  inside : (s : Slice) → c ≡ cell_of s → StopsWhole S P h g q s p → StopsOrdinary S P h g q c p

abbrev pub StopsCell : Stops → Parts → Spot → Goal → ℕ → Tree → Place → Type 0
StopsCell S P h at_cell q c p = StopsWhole S P h at_cell q (only_ref c) p
StopsCell S P h (at_type t) q c p = StopsOrdinary S P h (at_type t) q c p
StopsCell S P h (at_field e t scope) q c p = StopsOrdinary S P h (at_field e t scope) q c p

pub data StopsRef (mode : Mode) (S : Stops) (P : Parts) (h : Spot) (g : Goal) (q : ℕ) (s : Slice) (p : Place)
    : Type 0 where
  no_ref : s.refs ≡ [] → p ≡ stuck h ShortRefs → StopsRef mode S P h g q s p
  child : (c : Tree) (after : Slice) → Then s (only_ref c) after → unseen mode c ≡ None → StopsCell S P h g q c p
      → StopsRef mode S P h g q s p

-- ---- dictionaries

-- the content of a leaf is stuck, or that of a later one
abbrev pub StopsLeaves : Stops → Parts → Spot → Closed → ℕ → List (List ℕ × Slice) → Place → Type 0
StopsLeaves S P h t q [] p = ⊥
StopsLeaves S P h t q (l ∷ ls) p =
    StopsWhole S P h (at_type t) q l.1 p
    ⊎ ((v : Plain) × (outs : List ℕ) × P (at_type t) q v l.1 outs nothing × StopsLeaves S P h t (q + parts v) ls p)

-- the edges in preorder, and then the values by key
pub data StopsDict (mode : Mode) (S : Stops) (P : Parts) (h : Spot) (n : ℕ) (t : Closed) (q : ℕ) (s : Slice) (p : Place)
    : Type 0 where
  in_edges : (f : Fault) → HaltsFirst mode n s f → p ≡ stuck h (why_of f.cause) → StopsDict mode S P h n t q s p
  in_leaf : (k : List ℕ) (middle : Slice) → LeafEdge mode n k s middle → S h (at_type t) q middle p
      → StopsDict mode S P h n t q s p
  in_values : (es : Entries) (after : Slice) → Fork mode n es s after → StopsLeaves S P h t q (pairs_in es) p
      → StopsDict mode S P h n t q s p

-- the bit and the reference come before the edges
pub data StopsDictE (mode : Mode) (S : Stops) (P : Parts) (h : Spot) (n : ℕ) (t : Closed) (q : ℕ) (s : Slice)
    (p : Place) : Type 0 where
  no_bit : next_bit s.bits ≡ None → p ≡ stuck h ShortBits → StopsDictE mode S P h n t q s p
  no_root : (bits : List ℕ) → next_bit s.bits ≡ Some (true, bits) → s.refs ≡ [] → p ≡ stuck h ShortRefs
      → StopsDictE mode S P h n t q s p
  root_edges : (c : Tree) (after : Slice) (f : Fault) → Then s (record { bits = 1 ∷ []; refs = c ∷ [] }) after
      → HaltsBranch mode n c f → p ≡ stuck h (why_of f.cause) → StopsDictE mode S P h n t q s p
  root_values : (c : Tree) (after : Slice) (es : Entries) → Then s (record { bits = 1 ∷ []; refs = c ∷ [] }) after
      → Branch mode n es c → StopsLeaves S P h t q (pairs_in es) p → StopsDictE mode S P h n t q s p

-- ---- repetitions

pub data StopsTurn (S : Stops) (P : Parts) (Later : ℕ → Slice → Type 0) (h : Spot) (t : Closed) (q : ℕ) (s : Slice)
    (p : Place) : Type 0 where
  this : S h (at_type t) q s p → StopsTurn S P Later h t q s p
  idle : (v : Plain) (outs : List ℕ) (middle : Slice) → P (at_type t) q v s outs middle → took s middle ≡ false
      → p ≡ stuck h Idle → StopsTurn S P Later h t q s p
  later : (v : Plain) (outs : List ℕ) (middle : Slice) → P (at_type t) q v s outs middle → took s middle ≡ true
      → Later (q + parts v) middle → StopsTurn S P Later h t q s p

abbrev pub StopsRepeat : Stops → Parts → Spot → ℕ → Closed → ℕ → Slice → Place → Type 0
StopsRepeat S P h zero t q s p = ⊥
StopsRepeat S P h (suc k) t q s p = StopsTurn S P (λ q middle. StopsRepeat S P h k t q middle p) h t q s p

-- ---- records

-- a comparison: a side has no value, it doesn't hold, or what follows stops
abbrev pub StopsPair : Spot → (ℕ → ℕ → Type 0) → (ℕ → ℕ → Type 0) → Option ℕ → Option ℕ → Place → Type 0
StopsPair h Here Later None b p = p ≡ stuck h Overflow
StopsPair h Here Later (Some m) None p = p ≡ stuck h Overflow
StopsPair h Here Later (Some m) (Some n) p = Here m n ⊎ Later m n

-- an equation: a part without the unknown has no value, no number solves it, or what follows stops
pub data StopsSolve (h : Spot) (a b : Expr) (scope : Scope) (Later : ℕ → Type 0) (p : Place) : Type 0 where
  too_great : first_lacking (numbers.parts a ++ numbers.parts b) scope.numbers ≢ None → p ≡ stuck h Overflow
      → StopsSolve h a b scope Later p
  unsolved : first_lacking (numbers.parts a ++ numbers.parts b) scope.numbers ≡ None
      → ((x : ℕ) → Solves a b scope.numbers x → ⊥) → p ≡ stuck h NoSolution → StopsSolve h a b scope Later p
  onward : (x : ℕ) → Solves a b scope.numbers x → Later x → StopsSolve h a b scope Later p

-- a field: it is stuck, or it is spelled and what follows stops
abbrev pub StopsField : Stops → Parts → (List ℕ → ℕ → Slice → Type 0) → Spot → Goal → ℕ → Slice → Place → Type 0
StopsField S P Later h g q s p =
    S h g q s p
    ⊎ ((v : Plain) × (outs : List ℕ) × (middle : Slice) × P g q v s outs middle × Later outs (q + parts v) middle)

-- End: what stops after the items
abbrev pub StopsFields : Stops → Parts → (Scope → Type 0) → Spot → Items → Scope → ℕ → Slice → Place → Type 0
StopsFields S P End h no_items scope q s p = End scope
StopsFields S P End h (an_item (check a op b i) is) scope q s p =
    StopsPair (item_of h i) (λ m n. (Compares op m n → ⊥) × (p ≡ stuck (item_of h i) Constraint))
    (λ m n. Compares op m n × StopsFields S P End h is scope q s p) (value_in a scope) (value_in b scope) p
StopsFields S P End h (an_item (solve v a b i) is) scope q s p =
    StopsSolve (item_of h i) a b scope (λ x. StopsFields S P End h is (with_number v x scope) q s p) p
StopsFields S P End h (an_item (field x slot c t) is) scope q s p =
    StopsField S P (λ outs q middle. StopsFields S P End h is (bind (sets slot t) outs scope) q middle p)
    (field_of h x) (at_field c t scope) q s p

-- a constructor of this type whose inputs meet the arguments, and one of whose leads begins the bits
pub record Enters (schema : CoreSchema) (type : Word) (args : ClosedArgs) (bits : List ℕ) (at : ℕ) (c : Declaration)
    (scope : Scope) : Type 0 where
  pub meets : Meets schema type c.shown args at c scope
  pub begins : some_begins (leads schema c) bits ≡ true

-- nothing stops after the items
abbrev pub NoEnd : Scope → Type 0
NoEnd scope = ⊥

-- an output of the result has no value
abbrev pub StopsResult : Spot → List Expr → Place → Scope → Type 0
StopsResult h outputs p scope = (values_in outputs scope ≡ None) × (p ≡ stuck (result_of h) Overflow)

-- no constructor can be entered, or one is entered, whose tag stands there, and its items or outputs stop
pub data StopsDeclared (schema : CoreSchema) (S : Stops) (P : Parts) (h : Spot) (type : Word) (args : ClosedArgs)
    (q : ℕ) (s : Slice) (p : Place) : Type 0 where
  none_fits : ((at : ℕ) (c : Declaration) (scope : Scope) → Enters schema type args s.bits at c scope → ⊥)
      → p ≡ stuck h NoConstructor → StopsDeclared schema S P h type args q s p
  entered : (at : ℕ) (c : Declaration) (scope : Scope) (middle : Slice) → Enters schema type args s.bits at c scope
      → Then s (only_bits c.core.tag) middle
      → StopsFields S P (StopsResult (start c) c.core.outputs p) (start c) c.core.items scope q middle p
      → StopsDeclared schema S P h type args q s p

-- ---- goals

abbrev pub StopsType : Mode → CoreSchema → Stops → Parts → Spot → Closed → ℕ → Slice → Place → Type 0
StopsType mode schema S P h closed.nat32 q s p = StopsRow h (row closed.nat32) s p
StopsType mode schema S P h (closed.bits n) q s p = StopsRow h (row (closed.bits n)) s p
StopsType mode schema S P h (closed.below n) q s p = StopsRow h (row (closed.below n)) s p
StopsType mode schema S P h (closed.up_to n) q s p = StopsRow h (row (closed.up_to n)) s p
StopsType mode schema S P h (closed.uint n) q s p = StopsRow h (row (closed.uint n)) s p
StopsType mode schema S P h (closed.int n) q s p = StopsRow h (row (closed.int n)) s p
StopsType mode schema S P h (closed.bit_str n) q s p = StopsRow h (row (closed.bit_str n)) s p
StopsType mode schema S P h closed.whole q s p = ⊥
StopsType mode schema S P h (closed.ref t) q s p = StopsRef mode S P h (under_ref t) q s p
StopsType mode schema S P h (closed.repeat n t) q s p = StopsRepeat S P h n t q s p
StopsType mode schema S P h (closed.dict n t) q s p = StopsDict mode S P h n t q s p
StopsType mode schema S P h (closed.dict_e n t) q s p = StopsDictE mode S P h n t q s p
StopsType mode schema S P h (closed.named type args) q s p = StopsDeclared schema S P h type args q s p

-- a goal without a shape is Overflow, BigType or Width, the first that holds
abbrev pub StopsShape : Mode → CoreSchema → Stops → Parts → Spot → Result Shape Cause → ℕ → Slice → Place → Type 0
StopsShape mode schema S P h (Err why) q s p = p ≡ stuck h why
StopsShape mode schema S P h (Ok (typed t)) q s p = StopsType mode schema S P h t q s p
StopsShape mode schema S P h (Ok (fields_here is scope)) q s p = StopsFields S P NoEnd h is scope q s p
StopsShape mode schema S P h (Ok (fields_under is scope)) q s p = StopsRef mode S P h (at_fields is scope) q s p
StopsShape mode schema S P h (Ok left_out) q s p = ⊥
StopsShape mode schema S P h (Ok as_cell) q s p = (s.refs ≡ []) × (p ≡ stuck h ShortRefs)

-- spelled, at no more levels than are left and with no more parts than may begin
abbrev pub Within : ℕ → ℕ → Mode → CoreSchema → Parts
Within n most mode schema g q v s outs after =
    Spells mode schema v g s outs after × (levels v ≤ n) × (q + parts v ≤ most)

-- Nesting comes first, then Bulk, and then what the goal is stuck by
abbrev pub StuckWithin : ℕ → ℕ → Mode → CoreSchema → Stops
StuckWithin zero most mode schema h g q s p = p ≡ stuck h Nesting
StuckWithin (suc n) most mode schema h g q s p =
    ((most ≤ q) × (p ≡ stuck h Bulk))
    ⊎ ((q < most)
    × StopsShape mode schema (StuckWithin n most mode schema) (Within n most mode schema) h (shape_of g) (q + 1) s p)

-- ---- the root

-- a hidden root at a type that is itself a reference, or a root that isn't hidden and stops as the cell of a reference
pub data StuckRoot (n most : ℕ) (mode : Mode) (schema : CoreSchema) (t : Closed) (c : Tree) (p : Place) : Type 0 where
  hidden_root : unseen mode c ≢ None → is_ref t ≡ true → p ≡ stuck at_root Exotic
      → StuckRoot n most mode schema t c p
  open_root : unseen mode c ≡ None
      → StopsCell (StuckWithin n most mode schema) (Within n most mode schema) at_root (under_ref t) 0 c p
      → StuckRoot n most mode schema t c p

abbrev pub Stuck : Mode → CoreSchema → Closed → Tree → Place → Type 0
Stuck mode schema t c p = StuckRoot most_levels most_parts mode schema t c p
