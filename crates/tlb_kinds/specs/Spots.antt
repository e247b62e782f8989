-- Places in a schema, and refusals at them.
use Rattle.std.specs.Prelude.{ℕ, zero, suc, ◌+◌, List, [], ◌∷◌, ◌++◌, map, length, Option, Some, None, codes, decimal}
use Rattle.tlb_syntax.specs.Tree.{ItemList, ConstructorView, SchemaView, no_items, an_item}
use Rattle.field_path.specs.declared.part.Part.{Part}
use Rattle.kind_terms.specs.Dictionaries.{of_type}
use Rattle.kind_terms.specs.Words.{Word}
use Rattle.kind_declarations.specs.declared.error.Cause.{Cause}
use Rattle.kind_declarations.specs.declared.error.Cause.TheVariants.{Reserved, UnknownType, UnknownName, Arity}
use Rattle.kind_declarations.specs.declared.error.Cause.TheVariants.{KindMismatch, OutputUnderRef, NotLinear}
use Rattle.kind_declarations.specs.declared.error.Cause.TheVariants.{TwiceNamed, Undetermined, TooWide}
use Rattle.kind_declarations.specs.Headings.{Heading}
use Rattle.kind_terms.specs.Positions.{ItemPosition, path_at, first_position, next_position}
use Rattle.kind_declarations.specs.Nodes.{Judged}
use Rattle.kind_declarations.specs.Faults.{FaultAt, faults}
use Rattle.kind_terms.specs.declared.shown.Shown.{Shown}
use Rattle.kind_terms.specs.Views.{part_by}
use Rattle.tlb_kinds.specs.declared.spot.Spot.{Spot}
use Rattle.tlb_kinds.specs.declared.error.KindError.{KindError}
use Rattle.tlb_kinds.specs.declared.error.KindError.TheVariants as errors

-- a declaration, where these stand before it
abbrev pub heading : SchemaView → ConstructorView → Heading
heading before c = record { earlier = of_type before c.result; this = c }

-- its place among the declarations of its type, from 1
abbrev pub number_of : Heading → ℕ
number_of h = length h.earlier + 1

-- the name of a constructor; a unnamed one is shown by its number
abbrev pub shown_name : Option Word → ℕ → Word
shown_name (Some x) n = x
shown_name None n = codes "_" ++ decimal n

abbrev pub spot : Heading → List Part → Spot
spot h path = record {
  type_name = h.this.result;
  constructor = shown_name h.this.name (number_of h);
  number = number_of h;
  item = record { parts = path };
}

abbrev pub refusal : Cause → Spot → KindError
refusal Reserved s = errors.Reserved s
refusal UnknownType s = errors.UnknownType s
refusal UnknownName s = errors.UnknownName s
refusal Arity s = errors.Arity s
refusal KindMismatch s = errors.KindMismatch s
refusal OutputUnderRef s = errors.OutputUnderRef s
refusal NotLinear s = errors.NotLinear s
refusal TwiceNamed s = errors.TwiceNamed s
refusal Undetermined s = errors.Undetermined s
refusal TooWide s = errors.TooWide s

abbrev pub refusal_at : Heading → FaultAt → KindError
refusal_at h f = refusal f.cause (spot h f.path)

-- all refusals of what is judged in a declaration
abbrev pub refusals_at : Heading → List Judged → List KindError
refusals_at h js = map (refusal_at h) (faults js)

-- the path to the item after so many others
abbrev pub path_to : ItemList → ItemPosition → ℕ → List Part
path_to no_items p n = []
path_to (an_item i is) p zero = path_at p i
path_to (an_item i is) p (suc n) = path_to is (next_position p i) n

abbrev pub parts_by : Option Shown → List Part
parts_by None = []
parts_by (Some shown) = part_by shown ∷ []

-- the item at that place from 0 of a declaration
abbrev pub item_spot : Heading → ℕ → Spot
item_spot h item = spot h (path_to h.this.items (first_position []) item)
