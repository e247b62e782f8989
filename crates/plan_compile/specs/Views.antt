-- What the program's values stand for.
use Rattle.std.specs.Prelude.{List, map, Option, Some, None}
use Rattle.kind_terms.specs.Words.{Word}
use Rattle.core_form.specs.Core.{Item, Items}
use Rattle.schema_core.specs.Names.{Names, Variable, a_number, a_type, other, TypeName}
use Rattle.schema_core.specs.Names as names
use Rattle.flat_form.specs.Parts.{with_item}
use Rattle.plan_compile.specs.declared.names.Variable.{Variable as ProgramVariable}
use Rattle.plan_compile.specs.declared.names.Variable.TheVariants as variables
use Rattle.plan_compile.specs.declared.names.InScope.{InScope}
use Rattle.plan_compile.specs.declared.words.TypeName.{TypeName as ProgramTypeName}
use Rattle.plan_compile.specs.declared.words.TypeName.TheVariants as types

abbrev pub variable_by : ProgramVariable → Variable
variable_by (variables.Number v) = a_number v
variable_by (variables.Type v) = a_type v
variable_by variables.Other = other

abbrev pub entry_by : InScope → Word × Variable
entry_by e = (e.name.now, variable_by e.variable)

abbrev pub names_by : List InScope → Names
names_by entries = map entry_by entries

abbrev pub type_name_by : ProgramTypeName → TypeName
type_name_by types.NoType = names.no_type
type_name_by types.TypeWord = names.type_word
type_name_by types.Anything = names.anything
type_name_by (types.Family f) = names.family f
type_name_by (types.FamilyOf f n) = names.family_of f n
type_name_by types.Hashmap = names.hashmap_type
type_name_by types.HashmapE = names.hashmap_e_type
type_name_by (types.Declared ks) = names.declared ks.now

-- items with one more, if there is one
abbrev pub with_some : Items → Option Item → Items
with_some items None = items
with_some items (Some i) = with_item items i
