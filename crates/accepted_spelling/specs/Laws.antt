-- What the laws say, for every accepted schema: facts about the definitions alone. The schema stands in them by the
-- core forms of its declarations without those that are passed over.
use Rattle.std.specs.Prelude.{◌≡◌, ℕ, List, true}
use Rattle.cell_nodes.specs.declared.tree.Mode.{Mode}
use Rattle.cell_nodes.specs.declared.tree.Tree.{Tree}
use Rattle.tlb_syntax.specs.Tree.{SchemaView}
use Rattle.hashmap_tree.specs.Entries.{Slice}
use Rattle.typed_value.specs.Values.{Plain, Plains}
use Rattle.core_form.specs.Core.{Word, Declaration}
use Rattle.core_form.specs.Closed.{Closed, ClosedArgs}
use Rattle.core_form.specs.Closed as closed
use Rattle.core_form.specs.Scope.{Scope}
use Rattle.schema_leads.specs.Leads.{leads, some_begins}
use Rattle.spelling.specs.Acceptable.{IsAcceptable}
use Rattle.spelling.specs.Goals.{at_type, typed}
use Rattle.spelling.specs.Spells.{Spells, SpellsDeclared, Each}
use Rattle.spelling.specs.PlainReader.{Found}
use Rattle.spelling.specs.Stuck.{Enters}
use Rattle.spelling_laws.specs.Laws.{IsExact, ExactlyOne}
use Rattle.accepted_schema.specs.Accepted.{IsAccepted, kept_cores}

-- an accepted schema has all that the laws of spelling need
abbrev pub AcceptedIsAcceptable : Type 0
AcceptedIsAcceptable = (s : SchemaView) → IsAccepted s → IsAcceptable (kept_cores s)

-- where a constructor spells, one of its leads begins the bits
abbrev pub LeadsHold : Type 0
LeadsHold =
    (mode : Mode) (s : SchemaView) → IsAccepted s → (x : Word) (args : ClosedArgs) (name : Word) (names : List Word)
    (vs : Plains) (before : Slice) (outs : List ℕ) (after : Slice)
    (e : SpellsDeclared (kept_cores s) name names (Each mode (kept_cores s) vs) (typed
    (closed.named x args)) before outs after)
    → some_begins (leads (kept_cores s) e.1) before.bits ≡ true

-- at most one constructor of a type has inputs that meet the arguments and a lead that begins the bits
abbrev pub OneConstructor : Type 0
OneConstructor =
    (s : SchemaView) → IsAccepted s → (x : Word) (args : ClosedArgs) (bits : List ℕ) (i j : ℕ) (c e : Declaration)
    (a b : Scope)
    → Enters (kept_cores s) x args bits i c a → Enters (kept_cores s) x args bits j e b → i ≡ j

-- the plain reader gives the readings and the places where one is stuck, and nothing else
abbrev pub ReadIsExact : Type 0
ReadIsExact =
    (mode : Mode) (s : SchemaView) → IsAccepted s → (t : Closed) (c : Tree) → IsExact mode (kept_cores s) t c

-- a content spells at most one value of a closed type, with one list of outputs and one rest
abbrev pub OneSpelling : Type 0
OneSpelling =
    (mode : Mode) (s : SchemaView) → IsAccepted s → (t : Closed) (content : Slice) (v w : Plain) (x y : List ℕ)
    (a b : Slice)
    → Spells mode (kept_cores s) v (at_type t) content x a → Spells mode (kept_cores s) w (at_type t) content y b
    → (◌≡◌ {A = Found} (v, x, a) (w, y, b))

-- a root cell has one reading, or one place where it is stuck, and not both
abbrev pub ReadOrStuck : Type 0
ReadOrStuck =
    (mode : Mode) (s : SchemaView) → IsAccepted s → (t : Closed) (c : Tree) → ExactlyOne mode (kept_cores s) t c
