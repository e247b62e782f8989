-- Where a value doesn't fit: the parts before are put, and the place carries the first cause that holds.
--
-- Source: this project's own, over what spells a value.
use Rattle.std.specs.Prelude.{ℕ, zero, suc, ◌+◌, ◌≡◌, ◌≢◌, ◌<◌, ◌≤◌, ◌⊎◌, ℤ, Bool, true, false, List, [], ◌∷◌, ◌++◌, length, Option, Some, None, Result, Ok, Err}
use Rattle.bit_slice.specs.Bits.{AreBits, spelled, signed_spelled, InSignedRange}
use Rattle.nat_solver.specs.Number.{Expr, Compares}
use Rattle.cell_nodes.specs.Constructed.{pruned_of}
use Rattle.cell_nodes.specs.Good.{IsGood}
use Rattle.cell_nodes.specs.Tree.{deepest, unfolded}
use Rattle.cell_nodes.specs.declared.tree.Tree.{Tree}
use Rattle.cell_nodes.specs.declared.tree.Hidden.{Hidden}
use Rattle.cell_nodes.specs.declared.tree.Mode.{Mode}
use Rattle.cell_nodes.specs.declared.tree.Mode.TheVariants.{Whole, Partial, Lax}
use Rattle.hashmap_tree.specs.Dict.{unseen, DictTree}
use Rattle.hashmap_tree.specs.Entries.{Slice, cell_of, leaf, hidden, Entries, fork}
use Rattle.hashmap_tree.specs.Exceeds.{Excess, beneath, IsBuilt, Exceeds, ExceedsBranch, IsWithin}
use Rattle.typed_value.specs.Values as values
use Rattle.typed_value.specs.Values.{Plain, Plains, PlainPairs, number, bit_string, record_of, absent, list_of, ref_to, unknown, map_of, raw, rest, no_vals, a_val, no_pairs, a_pair, levels, parts, most_levels, most_parts}
use Rattle.core_form.specs.Core.{Word, Items, no_items, an_item, check, solve, field, sets, field_names, Declaration, CoreSchema}
use Rattle.core_form.specs.Closed.{Closed, ClosedArgs}
use Rattle.core_form.specs.Closed as closed
use Rattle.core_form.specs.Scope.{Scope, with_number, value_in, bind}
use Rattle.spelling.specs.Goals.{Row, natural, integer, string, no_row, row, Goal, at_type, at_field, at_cell, Shape, typed, fields_here, fields_under, left_out, as_cell, at_fields, under_ref, is_ref, shape_of}
use Rattle.spelling.specs.Places.{Spot, Place, stuck, at_root, start, field_of, item_of, tag_of}
use Rattle.spelling.specs.Slices.{nothing, only_bits, only_ref}
use Rattle.spelling.specs.Spells.{integer_of, Meets, IsRootOf}
use Rattle.spelling.specs.Stuck.{StopsPair, StopsSolve, NoEnd, StopsResult}
use Rattle.spelling.specs.declared.Cause.{Cause}
use Rattle.spelling.specs.declared.Cause.TheVariants as why
use Rattle.building.specs.Growing.{Grown, empty}
use Rattle.building.specs.Laid.{Grows, Laid}
use Rattle.building.specs.MapTests.{outline, FitEdge, FitRoot}
use Rattle.building.specs.Planting.{Top, leaf_top, fork_top, content_of}
use Rattle.building.specs.PlainBuilder.{finished, Leaves, entries_of, is_last, cause_of, grew, count, hides_root, most_cells}

-- where a part doesn't fit
abbrev pub Misfits : Type 1
Misfits = Spot → Goal → ℕ → Plain → Grown → Place → Type 0

-- what is put for a part that fits
abbrev pub Lays : Type 1
Lays = Goal → ℕ → Plain → Grown → List ℕ → Grown → Type 0

-- ---- one item

abbrev pub HasRoom : Slice → Slice → Type 0
HasRoom s x = (length s.bits + length x.bits ≤ 1023) × (length s.refs + length x.refs ≤ 4)

abbrev pub HasNoRoom : Slice → Slice → Type 0
HasNoRoom s x = (1023 < length s.bits + length x.bits) ⊎ (4 < length s.refs + length x.refs)

abbrev pub IsDeep : Tree → Type 0
IsDeep c = 1023 < deepest c

abbrev pub SomeDeep : List Tree → Type 0
SomeDeep [] = ⊥
SomeDeep (c ∷ cs) = IsDeep c ⊎ SomeDeep cs

-- an item that can't be put: after a rest; else past what a cell holds; else with a reference that is too deep
pub data Crowded (b : Grown) (x : Slice) (Deep : Type 0) (w : Cause) : Type 0 where
  after_rest : b.shut ≡ true → x ≢ nothing → w ≡ why.AfterRest → Crowded b x Deep w
  full : (b.shut ≡ true → x ≡ nothing) → HasNoRoom b.held x → w ≡ why.Full → Crowded b x Deep w
  too_deep : (b.shut ≡ true → x ≡ nothing) → HasRoom b.held x → Deep → w ≡ why.TooDeep → Crowded b x Deep w

abbrev pub UnfitPut : Spot → Slice → Type 0 → Grown → Place → Type 0
UnfitPut h x Deep b p = (w : Cause) × Crowded b x Deep w × (p ≡ stuck h w)

-- an item that was put
abbrev pub Put : Slice → Type 0 → Bool → Grown → Grown → Type 0
Put x Deep last b g = Grows b x last g × HasRoom b.held x × (Deep → ⊥)

-- bits have no reference
abbrev pub UnfitBits : Spot → List ℕ → Grown → Place → Type 0
UnfitBits h bits b p = UnfitPut h (only_bits bits) ⊥ b p

-- ---- numbers and bit strings

abbrev pub IsOutside : Bool → ℕ → ℕ → Type 0
IsOutside negative size bound = ((negative ≡ true) × (0 < size)) ⊎ ((negative ≡ false) × (bound ≤ size))

abbrev pub UnfitNumber : Spot → Row → Bool → ℕ → Grown → Place → Type 0
UnfitNumber h (natural width bound named) negative size b p =
    ((negative ≡ true) × (size ≡ 0) × (p ≡ stuck h why.Shape))
    ⊎ ((IsOutside negative size bound × (p ≡ stuck h why.OutOfRange))
    ⊎ ((negative ≡ false) × (size < bound) × UnfitBits h (spelled width size) b p))
UnfitNumber h (integer width) negative size b p =
    ((integer_of negative size ≡ None) × (p ≡ stuck h why.Shape))
    ⊎ ((z : ℤ) × (integer_of negative size ≡ Some z)
    × (((InSignedRange width z → ⊥) × (p ≡ stuck h why.OutOfRange))
    ⊎ (InSignedRange width z × UnfitBits h (signed_spelled width z) b p)))
UnfitNumber h (string width) negative size b p = p ≡ stuck h why.Shape
UnfitNumber h no_row negative size b p = p ≡ stuck h why.Shape

abbrev pub UnfitString : Spot → Row → List ℕ → Grown → Place → Type 0
UnfitString h (string width) bits b p =
    ((length bits ≢ width) × (p ≡ stuck h why.Shape)) ⊎ ((length bits ≡ width) × UnfitBits h bits b p)
UnfitString h (natural width bound named) bits b p = p ≡ stuck h why.Shape
UnfitString h (integer width) bits b p = p ≡ stuck h why.Shape
UnfitString h no_row bits b p = p ≡ stuck h why.Shape

-- ---- references

-- inside the cell, or where its reference is to stand
abbrev pub UnfitChild : Misfits → Lays → Spot → Goal → ℕ → Plain → Grown → Place → Type 0
UnfitChild S P h g q v b p =
    S h g q v empty p
    ⊎ ((outs : List ℕ) × (x : Grown) × P g q v empty outs x
    × UnfitPut h (only_ref (finished g x.held)) (IsDeep (finished g x.held)) b p)

abbrev pub UnfitHidden : Mode → Spot → Hidden → Grown → Place → Type 0
UnfitHidden Partial h x b p = UnfitPut h (only_ref (pruned_of x.hash x.depth)) (1023 < x.depth) b p
UnfitHidden Whole h x b p = p ≡ stuck h why.Shape
UnfitHidden Lax h x b p = p ≡ stuck h why.Shape

-- ---- dictionaries: the values by key, and then the edges

abbrev pub UnfitLeaves : Misfits → Lays → Spot → Closed → ℕ → PlainPairs → Place → Type 0
UnfitLeaves S P h t q no_pairs p = ⊥
UnfitLeaves S P h t q (a_pair k v ps) p =
    S h (at_type t) q v empty p
    ⊎ ((outs : List ℕ) × (x : Grown) × P (at_type t) q v empty outs x × UnfitLeaves S P h t (q + parts v) ps p)

-- the contents of the leaves
abbrev pub LaidLeaves : Lays → Closed → ℕ → PlainPairs → Leaves → Type 0
LaidLeaves P t q no_pairs xs = xs ≡ []
LaidLeaves P t q (a_pair k v ps) [] = ⊥
LaidLeaves P t q (a_pair k v ps) (x ∷ xs) =
    (outs : List ℕ) × (x.0 ≡ k) × P (at_type t) q v empty outs x.1 × LaidLeaves P t (q + parts v) ps xs

-- a fault in a part of the first edge, the left part before the right
pub data ExceedsBelow (n : ℕ) (es : Entries) (f : Excess) : Type 0 where
  in_left : (p : List ℕ) (m : ℕ) (zs os : Entries) (g : Excess) → es ≡ fork p zs os → n ≡ length p + suc m → os ≢ []
      → ExceedsBranch m zs g → f ≡ beneath (p ++ 0 ∷ []) g → ExceedsBelow n es f
  in_right : (p : List ℕ) (m : ℕ) (zs os : Entries) (z : Tree) (g : Excess) → es ≡ fork p zs os
      → n ≡ length p + suc m → IsBuilt m zs z → ExceedsBranch m os g → f ≡ beneath (p ++ 1 ∷ []) g
      → ExceedsBelow n es f

-- the first edge, whose parts are built
pub data IsTop (n : ℕ) (es : Entries) (top : Top) : Type 0 where
  of_leaf : (k : List ℕ) (c : Slice) → es ≡ (k, leaf c) ∷ [] → top ≡ leaf_top k c → IsTop n es top
  of_fork : (p : List ℕ) (m : ℕ) (zs os : Entries) (z o : Tree) → es ≡ fork p zs os → n ≡ length p + suc m
      → IsBuilt m zs z → IsBuilt m os o → top ≡ fork_top p z o → IsTop n es top

abbrev pub HasDeep : Top → Type 0
HasDeep (leaf_top l c) = ⊥
HasDeep (fork_top l z o) = IsDeep z ⊎ IsDeep o

-- In place. What follows a rest comes after the faults of the parts; then the edge by itself; then with what its cell
-- holds.
pub data UnfitEdge (h : Spot) (n : ℕ) (es : Entries) (b : Grown) (p : Place) : Type 0 where
  in_parts : (f : Excess) → ExceedsBelow n es f → p ≡ stuck h (cause_of f) → UnfitEdge h n es b p
  edge_after_rest : (top : Top) → IsTop n es top → b.shut ≡ true → p ≡ stuck h why.AfterRest → UnfitEdge h n es b p
  edge_full : (top : Top) → IsTop n es top → b.shut ≡ false → 1023 < length (content_of n top).bits
      → p ≡ stuck h why.Full → UnfitEdge h n es b p
  edge_deep : (top : Top) → IsTop n es top → b.shut ≡ false → length (content_of n top).bits ≤ 1023 → HasDeep top
      → p ≡ stuck h why.TooDeep → UnfitEdge h n es b p
  cell_full : (top : Top) → IsTop n es top → b.shut ≡ false → length (content_of n top).bits ≤ 1023
      → (HasDeep top → ⊥) → HasNoRoom b.held (content_of n top) → p ≡ stuck h why.Full → UnfitEdge h n es b p

abbrev pub UnfitDict : Mode → Misfits → Lays → Spot → ℕ → Closed → ℕ → PlainPairs → List (List ℕ × Hidden) → Grown
    → Place → Type 0
UnfitDict mode S P h n t q ps us b p =
    ((FitEdge mode n (outline ps us) → ⊥) × (p ≡ stuck h why.Shape))
    ⊎ (FitEdge mode n (outline ps us)
    × (UnfitLeaves S P h t q ps p
    ⊎ ((xs : Leaves) × LaidLeaves P t q ps xs × UnfitEdge h n (entries_of xs us) b p)))

abbrev pub with_one : Tree → Slice
with_one c = record { bits = 1 ∷ []; refs = c ∷ [] }

-- the bit and the reference come after the edges
pub data UnfitTree (h : Spot) (n : ℕ) (es : Entries) (b : Grown) (p : Place) : Type 0 where
  no_entries : es ≡ [] → UnfitBits h (0 ∷ []) b p → UnfitTree h n es b p
  hidden_tree : (x : Hidden) → es ≡ ([], hidden x) ∷ []
      → UnfitPut h (with_one (pruned_of x.hash x.depth)) (1023 < x.depth) b p → UnfitTree h n es b p
  in_edges : (f : Excess) → Exceeds n es f → p ≡ stuck h (cause_of f) → UnfitTree h n es b p
  reference : (s : Slice) → DictTree Partial n es s → IsWithin s → AreBits s.bits
      → UnfitPut h (with_one (cell_of s)) (IsDeep (cell_of s)) b p → UnfitTree h n es b p

abbrev pub UnfitDictE : Mode → Misfits → Lays → Spot → ℕ → Closed → ℕ → PlainPairs → List (List ℕ × Hidden) → Grown
    → Place → Type 0
UnfitDictE mode S P h n t q ps us b p =
    ((FitRoot mode n (outline ps us) → ⊥) × (p ≡ stuck h why.Shape))
    ⊎ (FitRoot mode n (outline ps us)
    × (UnfitLeaves S P h t q ps p
    ⊎ ((xs : Leaves) × LaidLeaves P t q ps xs × UnfitTree h n (entries_of xs us) b p)))

-- ---- repetitions

pub data UnfitTurn (S : Misfits) (P : Lays) (Later : ℕ → Grown → Type 0) (h : Spot) (t : Closed) (q : ℕ) (v : Plain)
    (b : Grown) (p : Place) : Type 0 where
  this : S h (at_type t) q v b p → UnfitTurn S P Later h t q v b p
  idle : (outs : List ℕ) (g : Grown) → P (at_type t) q v b outs g → grew b g ≡ false → p ≡ stuck h why.Idle
      → UnfitTurn S P Later h t q v b p
  later : (outs : List ℕ) (g : Grown) → P (at_type t) q v b outs g → grew b g ≡ true → Later (q + parts v) g
      → UnfitTurn S P Later h t q v b p

abbrev pub UnfitItems : Misfits → Lays → Spot → Closed → ℕ → Plains → Grown → Place → Type 0
UnfitItems S P h t q no_vals b p = ⊥
UnfitItems S P h t q (a_val v vs) b p = UnfitTurn S P (λ q g. UnfitItems S P h t q vs g p) h t q v b p

-- ---- records

-- a field: it doesn't fit, or it is put and what follows doesn't fit
abbrev pub UnfitField : Misfits → Lays → (List ℕ → ℕ → Grown → Type 0) → Spot → Goal → ℕ → Plain → Grown → Place
    → Type 0
UnfitField S P Later h g q v b p =
    S h g q v b p ⊎ ((outs : List ℕ) × (x : Grown) × P g q v b outs x × Later outs (q + parts v) x)

-- End: what doesn't fit after the items
abbrev pub UnfitFields : Misfits → Lays → (Scope → Type 0) → Spot → Items → Scope → ℕ → Plains → Grown → Place → Type 0
UnfitFields S P End h no_items scope q no_vals b p = End scope
UnfitFields S P End h no_items scope q (a_val v vs) b p = p ≡ stuck h why.Shape
UnfitFields S P End h (an_item (check a op c i) is) scope q vs b p =
    StopsPair (item_of h i) (λ m n. (Compares op m n → ⊥) × (p ≡ stuck (item_of h i) why.Constraint))
    (λ m n. Compares op m n × UnfitFields S P End h is scope q vs b p) (value_in a scope) (value_in c scope) p
UnfitFields S P End h (an_item (solve v a c i) is) scope q vs b p =
    StopsSolve (item_of h i) a c scope (λ x. UnfitFields S P End h is (with_number v x scope) q vs b p) p
UnfitFields S P End h (an_item (field x slot c t) is) scope q no_vals b p = p ≡ stuck h why.Shape
UnfitFields S P End h (an_item (field x slot c t) is) scope q (a_val v vs) b p =
    UnfitField S P (λ outs q g. UnfitFields S P End h is (bind (sets slot t) outs scope) q vs g p)
    (field_of h x) (at_field c t scope) q v b p

-- a record with the fields of these items
abbrev pub HasFields : List Word → Plains → Items → Type 0
HasFields names vs is = (names ≡ field_names is) × (count vs ≡ length names)

-- no constructor of this name fits; or one does: its fields have other names, its tag can't be put, or its items or
-- outputs don't fit
pub data UnfitDeclared (schema : CoreSchema) (S : Misfits) (P : Lays) (h : Spot) (type : Word) (args : ClosedArgs)
    (q : ℕ) (name : Word) (names : List Word) (vs : Plains) (b : Grown) (p : Place) : Type 0 where
  none_fits : ((at : ℕ) (c : Declaration) (scope : Scope) → Meets schema type name args at c scope → ⊥)
      → p ≡ stuck h why.NoConstructor → UnfitDeclared schema S P h type args q name names vs b p
  misnamed : (at : ℕ) (c : Declaration) (scope : Scope) → Meets schema type name args at c scope
      → (HasFields names vs c.core.items → ⊥) → p ≡ stuck h why.Shape
      → UnfitDeclared schema S P h type args q name names vs b p
  no_tag : (at : ℕ) (c : Declaration) (scope : Scope) → Meets schema type name args at c scope
      → HasFields names vs c.core.items → UnfitBits (tag_of (start c)) c.core.tag b p
      → UnfitDeclared schema S P h type args q name names vs b p
  entered : (at : ℕ) (c : Declaration) (scope : Scope) (g : Grown) → Meets schema type name args at c scope
      → HasFields names vs c.core.items → Put (only_bits c.core.tag) ⊥ false b g
      → UnfitFields S P (StopsResult (start c) c.core.outputs p) (start c) c.core.items scope q vs g p
      → UnfitDeclared schema S P h type args q name names vs b p

abbrev pub UnfitInner : Misfits → Lays → Spot → Items → Scope → ℕ → List Word → Plains → Grown → Place → Type 0
UnfitInner S P h is scope q names vs b p =
    ((HasFields names vs is → ⊥) × (p ≡ stuck h why.Shape))
    ⊎ (HasFields names vs is × UnfitFields S P NoEnd h is scope q vs b p)

-- ---- values at a shape: another form than the type's is Shape

abbrev pub UnfitNumberAt : Spot → Shape → Bool → ℕ → Grown → Place → Type 0
UnfitNumberAt h (typed t) negative size b p = UnfitNumber h (row t) negative size b p
UnfitNumberAt h _ negative size b p = p ≡ stuck h why.Shape

abbrev pub UnfitStringAt : Spot → Shape → List ℕ → Grown → Place → Type 0
UnfitStringAt h (typed t) bits b p = UnfitString h (row t) bits b p
UnfitStringAt h _ bits b p = p ≡ stuck h why.Shape

abbrev pub UnfitRecordAt : CoreSchema → Misfits → Lays → Spot → Shape → ℕ → Option Word → List Word → Plains → Grown
    → Place → Type 0
UnfitRecordAt schema S P h (typed (closed.named type args)) q (Some name) names vs b p =
    UnfitDeclared schema S P h type args q name names vs b p
UnfitRecordAt schema S P h (fields_here is scope) q None names vs b p = UnfitInner S P h is scope q names vs b p
UnfitRecordAt schema S P h _ q name names vs b p = p ≡ stuck h why.Shape

abbrev pub UnfitAbsentAt : Spot → Shape → Place → Type 0
UnfitAbsentAt h left_out p = ⊥
UnfitAbsentAt h _ p = p ≡ stuck h why.Shape

abbrev pub UnfitListAt : Misfits → Lays → Spot → Shape → ℕ → Plains → Grown → Place → Type 0
UnfitListAt S P h (typed (closed.repeat n t)) q vs b p =
    ((count vs ≢ n) × (p ≡ stuck h why.Shape)) ⊎ ((count vs ≡ n) × UnfitItems S P h t q vs b p)
UnfitListAt S P h _ q vs b p = p ≡ stuck h why.Shape

abbrev pub UnfitRefAt : Misfits → Lays → Spot → Shape → ℕ → Plain → Grown → Place → Type 0
UnfitRefAt S P h (typed (closed.ref t)) q v b p = UnfitChild S P h (under_ref t) q v b p
UnfitRefAt S P h (fields_under is scope) q v b p = UnfitChild S P h (at_fields is scope) q v b p
UnfitRefAt S P h _ q v b p = p ≡ stuck h why.Shape

abbrev pub UnfitUnknownAt : Mode → Spot → Shape → Hidden → Grown → Place → Type 0
UnfitUnknownAt mode h (typed (closed.ref t)) x b p = UnfitHidden mode h x b p
UnfitUnknownAt mode h (fields_under is scope) x b p = UnfitHidden mode h x b p
UnfitUnknownAt mode h _ x b p = p ≡ stuck h why.Shape

abbrev pub UnfitMapAt : Mode → Misfits → Lays → Spot → Shape → ℕ → PlainPairs → List (List ℕ × Hidden) → Grown → Place
    → Type 0
UnfitMapAt mode S P h (typed (closed.dict n t)) q ps us b p = UnfitDict mode S P h n t q ps us b p
UnfitMapAt mode S P h (typed (closed.dict_e n t)) q ps us b p = UnfitDictE mode S P h n t q ps us b p
UnfitMapAt mode S P h _ q ps us b p = p ≡ stuck h why.Shape

-- a cell that would be read as hidden
abbrev pub UnfitRawAt : Mode → Spot → Shape → Tree → Place → Type 0
UnfitRawAt mode h as_cell c p = (unseen mode c ≢ None) × (p ≡ stuck h why.Shape)
UnfitRawAt mode h _ c p = p ≡ stuck h why.Shape

abbrev pub UnfitRestAt : Spot → Shape → values.Slice → Grown → Place → Type 0
UnfitRestAt h (typed closed.whole) s b p =
    UnfitPut h (record { bits = s.bits; refs = s.refs }) (SomeDeep s.refs) b p
UnfitRestAt h _ s b p = p ≡ stuck h why.Shape

abbrev pub UnfitAt : Mode → CoreSchema → Misfits → Lays → Spot → Shape → ℕ → Plain → Grown → Place → Type 0
UnfitAt mode schema S P h c q (number negative size) b p = UnfitNumberAt h c negative size b p
UnfitAt mode schema S P h c q (bit_string bits) b p = UnfitStringAt h c bits b p
UnfitAt mode schema S P h c q (record_of name names vs) b p = UnfitRecordAt schema S P h c q name names vs b p
UnfitAt mode schema S P h c q absent b p = UnfitAbsentAt h c p
UnfitAt mode schema S P h c q (list_of vs) b p = UnfitListAt S P h c q vs b p
UnfitAt mode schema S P h c q (ref_to a v) b p = UnfitRefAt S P h c q v b p
UnfitAt mode schema S P h c q (unknown x) b p = UnfitUnknownAt mode h c x b p
UnfitAt mode schema S P h c q (map_of a ps us) b p = UnfitMapAt mode S P h c q ps us b p
UnfitAt mode schema S P h c q (raw d) b p = UnfitRawAt mode h c d p
UnfitAt mode schema S P h c q (rest s) b p = UnfitRestAt h c s b p

-- a goal without a shape is Overflow, BigType or Width, the first that holds
abbrev pub UnfitShape : Mode → CoreSchema → Misfits → Lays → Spot → Result Shape Cause → ℕ → Plain → Grown → Place
    → Type 0
UnfitShape mode schema S P h (Err w) q v b p = p ≡ stuck h w
UnfitShape mode schema S P h (Ok c) q v b p = UnfitAt mode schema S P h c q v b p

-- Nesting comes first, then Bulk, and then what doesn't fit the goal
abbrev pub UnfitWithin : ℕ → ℕ → Mode → CoreSchema → Misfits
UnfitWithin zero most mode schema h g q v b p = p ≡ stuck h why.Nesting
UnfitWithin (suc n) most mode schema h g q v b p =
    ((most ≤ q) × (p ≡ stuck h why.Bulk))
    ⊎ ((q < most)
    × UnfitShape mode schema (UnfitWithin n most mode schema) (Laid n most mode schema) h (shape_of g) (q + 1) v b p)

-- ---- the root

-- the reading of a root cell within limits
pub record ReadsWithin (n most : ℕ) (mode : Mode) (schema : CoreSchema) (t : Closed) (c : Tree) (v : Plain)
    : Type 0 where
  pub root : IsRootOf mode schema t c v
  pub deep : levels v ≤ n
  pub large : parts v ≤ most

-- a hidden part in place of the root
pub data UnfitHiddenRoot (n most : ℕ) (x : Hidden) (p : Place) : Type 0 where
  no_level : n ≡ 0 → p ≡ stuck at_root why.Nesting → UnfitHiddenRoot n most x p
  no_part : 0 < n → most ≡ 0 → p ≡ stuck at_root why.Bulk → UnfitHiddenRoot n most x p
  root_deep : 0 < n → 0 < most → 1024 < x.depth → p ≡ stuck at_root why.TooDeep → UnfitHiddenRoot n most x p

-- the value doesn't fit, or it is built to a root of too many cells
pub data UnfitRoot (n most cells : ℕ) (mode : Mode) (schema : CoreSchema) (t : Closed) (v : Plain) (p : Place)
    : Type 0 where
  hidden_root : (x : Hidden) → hides_root mode t v ≡ Some x → UnfitHiddenRoot n most x p
      → UnfitRoot n most cells mode schema t v p
  open_root : hides_root mode t v ≡ None → UnfitWithin n most mode schema at_root (under_ref t) 0 v empty p
      → UnfitRoot n most cells mode schema t v p
  sprawls : (c : Tree) → IsGood c → ReadsWithin n most mode schema t c v → cells < unfolded c
      → p ≡ stuck at_root why.Sprawl → UnfitRoot n most cells mode schema t v p

abbrev pub Unfit : Mode → CoreSchema → Closed → Plain → Place → Type 0
Unfit mode schema t v p = UnfitRoot most_levels most_parts most_cells mode schema t v p
