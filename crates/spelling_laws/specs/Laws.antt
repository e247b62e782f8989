-- What the laws say: facts about the definitions alone.
use Rattle.std.specs.Prelude.{◌≡◌, ◌⊎◌, ◌↔◌, ℕ, List, true, Ok, Err}
use Rattle.cell_nodes.specs.declared.tree.Mode.{Mode}
use Rattle.cell_nodes.specs.declared.tree.Tree.{Tree}
use Rattle.hashmap_tree.specs.Entries.{Slice}
use Rattle.typed_value.specs.Values.{Plain, Plains}
use Rattle.core_form.specs.Core.{Word, Declaration, CoreSchema}
use Rattle.core_form.specs.Closed.{Closed, ClosedArgs}
use Rattle.core_form.specs.Closed as closed
use Rattle.core_form.specs.Scope.{Scope}
use Rattle.schema_leads.specs.Leads.{leads, some_begins}
use Rattle.spelling.specs.Acceptable.{IsAcceptable}
use Rattle.spelling.specs.Goals.{Goal, at_type, typed}
use Rattle.spelling.specs.Spells.{Spells, SpellsDeclared, Each, Reading}
use Rattle.spelling.specs.Marks.{Marked, plain, SpellsMarked}
use Rattle.spelling.specs.Places.{Place}
use Rattle.spelling.specs.PlainReader.{Found, read}
use Rattle.spelling.specs.Stuck.{Enters, Stuck}

-- ---- leads

-- where a constructor spells, one of its leads begins the bits
abbrev pub LeadsHold : Type 0
LeadsHold =
    (mode : Mode) (schema : CoreSchema) → IsAcceptable schema → (x : Word) (args : ClosedArgs) (name : Word)
    (names : List Word) (vs : Plains) (s : Slice) (outs : List ℕ) (after : Slice)
    (e : SpellsDeclared schema name names (Each mode schema vs) (typed (closed.named x args)) s outs after)
    → some_begins (leads schema e.1) s.bits ≡ true

-- at most one constructor of a type has inputs that meet the arguments and a lead that begins the bits
abbrev pub OneConstructor : Type 0
OneConstructor =
    (schema : CoreSchema) → IsAcceptable schema → (x : Word) (args : ClosedArgs) (bits : List ℕ) (i j : ℕ)
    (c e : Declaration) (s t : Scope) → Enters schema x args bits i c s → Enters schema x args bits j e t → i ≡ j

-- ---- the plain reader

-- what the plain reader reads is the reading, in every schema
abbrev pub ReaderIsSound : Type 0
ReaderIsSound =
    (mode : Mode) (schema : CoreSchema) (t : Closed) (c : Tree) (v : Plain)
    → read mode schema t c ≡ Ok v → Reading mode schema t c v

-- and each reading is read
abbrev pub ReaderIsComplete : Type 0
ReaderIsComplete =
    (mode : Mode) (schema : CoreSchema) → IsAcceptable schema → (t : Closed) (c : Tree) (v : Plain)
    → Reading mode schema t c v → read mode schema t c ≡ Ok v

-- where the plain reader stops the reading is stuck at that place
abbrev pub ReaderStops : Type 0
ReaderStops =
    (mode : Mode) (schema : CoreSchema) → IsAcceptable schema → (t : Closed) (c : Tree) (p : Place)
    → read mode schema t c ≡ Err p → Stuck mode schema t c p

-- and where a reading is stuck the plain reader stops
abbrev pub StuckStops : Type 0
StuckStops =
    (mode : Mode) (schema : CoreSchema) → IsAcceptable schema → (t : Closed) (c : Tree) (p : Place)
    → Stuck mode schema t c p → read mode schema t c ≡ Err p

-- the plain reader gives the readings and the places where one is stuck, and nothing else
pub record IsExact (mode : Mode) (schema : CoreSchema) (t : Closed) (c : Tree) : Type 0 where
  pub readings : (v : Plain) → (read mode schema t c ≡ Ok v) ↔ Reading mode schema t c v
  pub places : (p : Place) → (read mode schema t c ≡ Err p) ↔ Stuck mode schema t c p

abbrev pub ReadIsExact : Type 0
ReadIsExact =
    (mode : Mode) (schema : CoreSchema) → IsAcceptable schema → (t : Closed) (c : Tree) → IsExact mode schema t c

-- ---- unambiguity

-- a content spells at most one value of a closed type, with one list of outputs and one rest
abbrev pub OneSpelling : Type 0
OneSpelling =
    (mode : Mode) (schema : CoreSchema) → IsAcceptable schema → (t : Closed) (s : Slice) (v w : Plain) (x y : List ℕ)
    (a b : Slice) → Spells mode schema v (at_type t) s x a → Spells mode schema w (at_type t) s y b
    → (◌≡◌ {A = Found} (v, x, a) (w, y, b))

-- a root cell has one reading, or one place where it is stuck, and not both
pub record ExactlyOne (mode : Mode) (schema : CoreSchema) (t : Closed) (c : Tree) : Type 0 where
  pub some : ((v : Plain) × Reading mode schema t c v) ⊎ ((p : Place) × Stuck mode schema t c p)
  pub not_both : (v : Plain) (p : Place) → Reading mode schema t c v → Stuck mode schema t c p → ⊥
  pub one_reading : (v w : Plain) → Reading mode schema t c v → Reading mode schema t c w → v ≡ w
  pub one_place : (p r : Place) → Stuck mode schema t c p → Stuck mode schema t c r → p ≡ r

abbrev pub ReadOrStuck : Type 0
ReadOrStuck =
    (mode : Mode) (schema : CoreSchema) → IsAcceptable schema → (t : Closed) (c : Tree) → ExactlyOne mode schema t c

-- ---- marks

-- each value that is spelled has its marked value, in every schema
abbrev pub HasMarks : Type 0
HasMarks =
    (mode : Mode) (schema : CoreSchema) (v : Plain) (g : Goal) (s : Slice) (outs : List ℕ) (after : Slice)
    → Spells mode schema v g s outs after
    → (d : Marked) × (plain d ≡ v) × SpellsMarked mode schema d g s outs after
