-- What may take nothing: neither a bit nor a reference.
-- Source: the TON documentation on TL-B (built-in types), and this project's rules.
use Rattle.std.specs.Prelude.{ℕ, ◌&&◌, not, List, [], ◌++◌, Bool, true, false, Option, Some, None, if◌then◌else◌}
use Rattle.std.specs.List.{list_any}
use Rattle.tlb_syntax.specs.Tree.{ExprView, ExprList, ItemView, ItemList, TypeView, ConstructorView, SchemaView, lit}
use Rattle.tlb_syntax.specs.Tree.{named, nat32, bits, below, up_to, plus, star, out, ref, group, no_exprs, an_expr}
use Rattle.tlb_syntax.specs.Tree.{plain, when, when_bit, implicit, check, explicit, no_items, an_item}
use Rattle.kind_terms.specs.declared.words.WordClass.{WordClass}
use Rattle.kind_terms.specs.declared.words.WordClass.TheVariants.{TypeWord, Any, Cell, Sized, Numbered, Hashmap}
use Rattle.kind_terms.specs.declared.words.WordClass.TheVariants.{HashmapE, HashmapNode, Free}
use Rattle.kind_terms.specs.Words.{Word, is_among, is_at_least, width_in}
use Rattle.kind_terms.specs.Classes.{NameClass, of_scope, of_word, name_class, word_class}
use Rattle.kind_terms.specs.Dictionaries.{of_type}
use Rattle.kind_terms.specs.Types.{has_exprs}
use Rattle.kind_terms.specs.Scopes.{field_names}
use Rattle.tlb_guard.specs.Rounds.{Test, round}
use Rattle.tlb_guard.specs.DeclaredTypes.{type_count, has_empty_tag}

abbrev pub literal : ExprView → Option ℕ
literal (lit n) = Some n
literal (named x es) = None
literal nat32 = None
literal (bits es) = None
literal (below es) = None
literal (up_to es) = None
literal (plus a b) = None
literal (star a b) = None
literal (out e) = None
literal (ref e) = None
literal (group is) = None

-- the first argument, where that is a literal
abbrev pub literal_argument : ExprList → Option ℕ
literal_argument no_exprs = None
literal_argument (an_expr e es) = literal e

abbrev pub found : List Word → Word → Option (Unit {0})
found scope x = if is_among scope x then Some tt else None

-- what a name with these arguments is, with these names in scope
abbrev pub class_in : List Word → Word → ExprList → NameClass (Unit {0})
class_in scope x es = name_class (found scope x) x (has_exprs es)

-- Whether a named type may take nothing, where these are the declared types that may: Any and Cell may, a family of basic
-- types may unless its width is a literal of at least 1, and the dictionaries may not.
abbrev pub may_be_empty_word : Test Word → Word → ExprList → WordClass → Bool
may_be_empty_word empty x es Any = true
may_be_empty_word empty x es Cell = true
may_be_empty_word empty x es (Sized f) = not (is_at_least 1 (literal_argument es))
may_be_empty_word empty x es (Numbered f) = not (is_at_least 1 (width_in f x))
may_be_empty_word empty x es Hashmap = false
may_be_empty_word empty x es HashmapE = false
may_be_empty_word empty x es Free = empty x
-- no types
may_be_empty_word empty x es TypeWord = false
may_be_empty_word empty x es HashmapNode = false

abbrev pub may_be_empty_type : Test Word → Word → ExprList → Bool
may_be_empty_type empty x es = may_be_empty_word empty x es (word_class x)

-- a name in scope that stands alone is a variable, and hides a type of that name
abbrev pub may_be_empty_name : Test Word → Word → ExprList → NameClass (Unit {0}) → Bool
may_be_empty_name empty x es (of_scope u) = true
may_be_empty_name empty x es (of_word w) = may_be_empty_word empty x es w

-- Whether what stands there, with these names in scope, may take nothing. Type variables, and types that are repeated or
-- stand after a condition, may; a record may where each of its fields may.
abbrev mutual
  pub may_be_empty : Test Word → List Word → ExprView → Bool
  may_be_empty empty scope (lit n) = true
  may_be_empty empty scope (named x es) = may_be_empty_name empty x es (class_in scope x es)
  may_be_empty empty scope nat32 = false
  may_be_empty empty scope (bits es) = not (is_at_least 1 (literal_argument es))
  may_be_empty empty scope (below es) = not (is_at_least 2 (literal_argument es))
  may_be_empty empty scope (up_to es) = not (is_at_least 1 (literal_argument es))
  may_be_empty empty scope (plus a b) = true
  may_be_empty empty scope (star a b) = true
  may_be_empty empty scope (out e) = true
  may_be_empty empty scope (ref e) = false
  may_be_empty empty scope (group is) = may_be_empty_items empty scope is

  pub may_be_empty_field : Test Word → List Word → TypeView → Bool
  may_be_empty_field empty scope (plain e) = may_be_empty empty scope e
  may_be_empty_field empty scope (when c e) = true
  may_be_empty_field empty scope (when_bit c k e) = true

  pub may_be_empty_item : Test Word → List Word → ItemView → Bool
  may_be_empty_item empty scope (implicit x k) = true
  may_be_empty_item empty scope (check a op b) = true
  may_be_empty_item empty scope (explicit x t) = may_be_empty_field empty scope t

  pub may_be_empty_items : Test Word → List Word → ItemList → Bool
  may_be_empty_items empty scope no_items = true
  may_be_empty_items empty scope (an_item i is) =
      may_be_empty_item empty scope i && may_be_empty_items empty (scope ++ field_names i) is

-- A constructor may take nothing where its tag is empty and each of its fields may take nothing.
abbrev pub may_be_empty_constructor : Test Word → ConstructorView → Bool
may_be_empty_constructor empty c = has_empty_tag c && may_be_empty_items empty [] c.items

-- one use of the rules: a declared type may take nothing where one of its constructors may
abbrev pub empty_rules : SchemaView → Test Word → Test Word
empty_rules types empty x = list_any (may_be_empty_constructor empty) (of_type types x)

-- the declared types that may take nothing
abbrev pub may_take_nothing : SchemaView → Test Word
may_take_nothing types = round (empty_rules types) (type_count types)
