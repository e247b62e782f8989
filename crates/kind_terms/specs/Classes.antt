-- What a name is where it stands: the one reading of names, which the rules on kinds, the guard and the core form share.
-- Source: the TON documentation on TL-B (built-in types), and this project's rules.
use Rattle.std.specs.Prelude.{Bool, true, false, Option, Some, None, is_some, codes, bytes_eq, if◌then◌else◌}
use Rattle.kind_terms.specs.declared.words.Family.TheVariants.{Uint, Int, Bits}
use Rattle.kind_terms.specs.declared.words.WordClass.{WordClass}
use Rattle.kind_terms.specs.declared.words.WordClass.TheVariants.{TypeWord, Any, Cell, Sized, Numbered, Hashmap}
use Rattle.kind_terms.specs.declared.words.WordClass.TheVariants.{HashmapE, HashmapNode, Free}
use Rattle.kind_terms.specs.Words.{Word, family_word, width_in, hashmap, hashmap_e, hashmap_node}

-- what a word is that is none of the words of basic types, with a width or without
abbrev pub dictionary_class : Word → WordClass
dictionary_class x =
    if bytes_eq x hashmap then Hashmap
    else if bytes_eq x hashmap_e then HashmapE
    else if bytes_eq x hashmap_node then HashmapNode
    else Free

-- what a word is that is none of the words of basic types without a width
abbrev pub numbered_class : Word → WordClass
numbered_class x =
    if is_some (width_in Uint x) then Numbered Uint
    else if is_some (width_in Int x) then Numbered Int
    else if is_some (width_in Bits x) then Numbered Bits
    else dictionary_class x

-- what a word is by itself
unfoldable pub word_class : Word → WordClass
word_class x =
    if bytes_eq x (codes "Type") then TypeWord
    else if bytes_eq x (codes "Any") then Any
    else if bytes_eq x (codes "Cell") then Cell
    else if bytes_eq x (family_word Uint) then Sized Uint
    else if bytes_eq x (family_word Int) then Sized Int
    else if bytes_eq x (family_word Bits) then Sized Bits
    else numbered_class x

-- What a name is where it stands. One that is in scope and stands alone is the variable or field of that name, whatever
-- its word is; else it is what its word is by itself. A free word is a declared type where a declaration of it is there.
pub data NameClass (M : Type 0) : Type 0 where
  of_scope : M → NameClass M
  of_word : WordClass → NameClass M

-- of a name that stands for this, if it is in scope
abbrev pub name_class : {M : Type 0} → Option M → Word → Bool → NameClass M
name_class None x has_arguments = of_word (word_class x)
name_class (Some m) x false = of_scope m
name_class (Some m) x true = of_word (word_class x)

-- ---- words

-- a word of the language itself, which no declaration may have as its type
abbrev pub is_built_in_class : WordClass → Bool
is_built_in_class TypeWord = true
is_built_in_class Any = true
is_built_in_class Cell = true
is_built_in_class (Sized f) = true
is_built_in_class (Numbered f) = true
is_built_in_class Hashmap = false
is_built_in_class HashmapE = false
is_built_in_class HashmapNode = false
is_built_in_class Free = false

abbrev pub is_dictionary_class : WordClass → Bool
is_dictionary_class Hashmap = true
is_dictionary_class HashmapE = true
is_dictionary_class HashmapNode = true
is_dictionary_class TypeWord = false
is_dictionary_class Any = false
is_dictionary_class Cell = false
is_dictionary_class (Sized f) = false
is_dictionary_class (Numbered f) = false
is_dictionary_class Free = false

abbrev pub is_free_class : WordClass → Bool
is_free_class Free = true
is_free_class TypeWord = false
is_free_class Any = false
is_free_class Cell = false
is_free_class (Sized f) = false
is_free_class (Numbered f) = false
is_free_class Hashmap = false
is_free_class HashmapE = false
is_free_class HashmapNode = false

-- Type, Any, Cell, and the families without a width and with one
abbrev pub is_built_in : Word → Bool
is_built_in x = is_built_in_class (word_class x)

-- Hashmap, HashmapNode and HashmapE
abbrev pub is_dictionary : Word → Bool
is_dictionary x = is_dictionary_class (word_class x)

-- a word that may be that of a declared type
abbrev pub is_free : Word → Bool
is_free x = is_free_class (word_class x)
