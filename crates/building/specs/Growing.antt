-- A content that grows: what is put after what a cell holds already, and why it can't be.
--
-- Source: TON documentation, "Cells as data storage" (at most 1023 bits and 4 references, depth at most 1024); TL-B
-- documentation (`Any` and `Cell` take all that is left).
use Rattle.std.specs.Prelude.{ℕ, ◌+◌, Bool, true, false, not, ◌&&◌, ◌||◌, if◌then◌else◌, nat_lt, List, [], ◌∷◌, ◌++◌, length, Result, Ok, Err}
use Rattle.cell_nodes.specs.Tree.{deepest}
use Rattle.cell_nodes.specs.declared.tree.Tree.{Tree}
use Rattle.hashmap_tree.specs.Entries.{Slice}
use Rattle.spelling.specs.Slices.{nothing, is_nothing}
use Rattle.spelling.specs.declared.Cause.{Cause}
use Rattle.spelling.specs.declared.Cause.TheVariants.{AfterRest, Full, TooDeep}

-- what a cell holds so far, and whether a value was put that takes all that is left: nothing may follow it
pub record Grown : Type 0 where
  pub held : Slice
  pub shut : Bool

abbrev pub empty : Grown
empty = record { held = nothing; shut = false }

-- the bits and references of the one, and then those of the other
abbrev pub join : Slice → Slice → Slice
join s x = record { bits = s.bits ++ x.bits; refs = s.refs ++ x.refs }

-- one cell can't hold both
abbrev pub is_over : Slice → Slice → Bool
is_over s x = nat_lt 1023 (length s.bits + length x.bits) || nat_lt 4 (length s.refs + length x.refs)

-- a cell that can't stand below another
abbrev pub is_deep : Tree → Bool
is_deep c = nat_lt 1023 (deepest c)

abbrev pub some_deep : List Tree → Bool
some_deep [] = false
some_deep (c ∷ cs) = is_deep c || some_deep cs

-- One item more, of which it is said whether a reference in it is too deep, and whether nothing may follow it.
-- AfterRest comes first, then Full, then TooDeep.
abbrev pub lay : Slice → Bool → Bool → Grown → Result Grown Cause
lay x deep last b =
    if b.shut && not (is_nothing x) then Err AfterRest
    else if is_over b.held x then Err Full
    else if deep then Err TooDeep
    else Ok (record { held = join b.held x; shut = b.shut || last })
