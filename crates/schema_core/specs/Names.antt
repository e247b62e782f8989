-- What a name of a schema is where it is used: the one place where names are looked up.
-- Source: the TON documentation on the TL-B language (built-in types, implicit and explicit fields); that a name in
-- scope
-- hides a type is this project's rule.
use Rattle.std.specs.Prelude.{ℕ, Bool, true, false, List, [], ◌∷◌, Option, Some, None, bytes_eq, if◌then◌else◌}
use Rattle.tlb_syntax.specs.declared.tree.ParamKind.{ParamKind}
use Rattle.tlb_syntax.specs.declared.tree.ParamKind.TheVariants.{Nat, Ty}
use Rattle.tlb_syntax.specs.Tree.{ItemView, SchemaView, implicit, check, explicit}
use Rattle.kind_terms.specs.declared.kind.TermKind.{TermKind}
use Rattle.kind_terms.specs.declared.words.Family.{Family}
use Rattle.kind_terms.specs.declared.words.WordClass.{WordClass}
use Rattle.kind_terms.specs.declared.words.WordClass.TheVariants.{TypeWord, Any, Cell, Sized, Numbered, Hashmap}
use Rattle.kind_terms.specs.declared.words.WordClass.TheVariants.{HashmapE, HashmapNode, Free}
use Rattle.kind_terms.specs.Words.{Word, width_in}
use Rattle.kind_terms.specs.Classes.{word_class}
use Rattle.kind_terms.specs.Dictionaries.{of_type}
use Rattle.kind_terms.specs.Params.{kinds}
use Rattle.kind_terms.specs.Forms.{is_field_of_numbers}

-- ---- names in scope

-- a variable of numbers or of types by its slot; any other field, which hides a type of its name
pub data Variable : Type 0 where
  a_number : ℕ → Variable
  a_type : ℕ → Variable
  other : Variable

-- the names in scope, each with what it stands for
abbrev pub Names : Type 0
Names = List (Word × Variable)

abbrev pub implicit_variable : ParamKind → ℕ → Variable
implicit_variable Nat v = a_number v
implicit_variable Ty v = a_type v

abbrev pub field_variable : Bool → ℕ → Variable
field_variable true v = a_number v
field_variable false v = other

-- what an item brings into scope after it, where its own variable has this slot
abbrev pub declares : ItemView → ℕ → Names
declares (implicit x k) v = (x, implicit_variable k v) ∷ []
declares (check a op b) v = []
declares (explicit None t) v = []
declares (explicit (Some x) t) v = (x, field_variable (is_field_of_numbers t) v) ∷ []

-- what a name in scope stands for
abbrev pub meaning : Names → Word → Option Variable
meaning [] x = None
meaning (e ∷ es) x = if bytes_eq e.0 x then Some e.1 else meaning es x

abbrev pub number_slot : Option Variable → Option ℕ
number_slot None = None
number_slot (Some (a_number v)) = Some v
number_slot (Some (a_type v)) = None
number_slot (Some other) = None

-- the slot of a variable of numbers
abbrev pub number_called : Names → Word → Option ℕ
number_called names x = number_slot (meaning names x)

-- ---- names of types

-- what a name may be as a type
pub data TypeName : Type 0 where
  no_type : TypeName
  -- the word Type, which is no type by itself
  type_word : TypeName
  -- Any and Cell
  anything : TypeName
  -- uint, int and bits, which take their width
  family : Family → TypeName
  -- with their width in the name
  family_of : Family → ℕ → TypeName
  hashmap_type : TypeName
  hashmap_e_type : TypeName
  -- a declared type, with the kinds of its parameters
  declared : List TermKind → TypeName

-- the first declaration of a type fixes its parameters
abbrev pub declared_by : SchemaView → TypeName
declared_by [] = no_type
declared_by (c ∷ cs) = declared (kinds c)

-- a width of a name, which is there where its class says so
abbrev pub width_or_0 : Option ℕ → ℕ
width_or_0 (Some n) = n
width_or_0 None = 0

-- what a name of this class is as a type
abbrev pub type_by : SchemaView → Word → WordClass → TypeName
type_by types x TypeWord = type_word
type_by types x Any = anything
type_by types x Cell = anything
type_by types x (Sized f) = family f
type_by types x (Numbered f) = family_of f (width_or_0 (width_in f x))
type_by types x Hashmap = hashmap_type
type_by types x HashmapE = hashmap_e_type
type_by types x HashmapNode = no_type
type_by types x Free = declared_by (of_type types x)

-- what a name is as a type
abbrev pub type_called : SchemaView → Word → TypeName
type_called types x = type_by types x (word_class x)

-- the kinds of the parameters of a declared type
abbrev pub declared_kinds : TypeName → List TermKind
declared_kinds no_type = []
declared_kinds type_word = []
declared_kinds anything = []
declared_kinds (family f) = []
declared_kinds (family_of f n) = []
declared_kinds hashmap_type = []
declared_kinds hashmap_e_type = []
declared_kinds (declared ks) = ks
