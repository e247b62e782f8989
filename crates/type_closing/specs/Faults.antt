-- What is at fault in the expression of a type word.
-- Source: the TON documentation on the TL-B language (built-in types, parametrized types); the causes and their order
-- are this project's own.
use Rattle.std.specs.Prelude.{ℕ, ◌&&◌, not, List, [], ◌∷◌, length, Bool, true, false, Option, Some, None, nat_eq}
use Rattle.std.specs.Prelude.{nat_lt, if◌then◌else◌}
use Rattle.std.specs.List.{list_any}
use Rattle.tlb_syntax.specs.Tree.{ExprView, ExprList, lit, named, nat32, bits, below, up_to, plus, star, out, ref}
use Rattle.tlb_syntax.specs.Tree.{group, no_exprs, an_expr}
use Rattle.kind_terms.specs.declared.kind.TermKind.{TermKind}
use Rattle.kind_terms.specs.declared.kind.TermKind.TheVariants.{NumberIn, TypeIn, NumberOut, NoKind}
use Rattle.kind_terms.specs.declared.words.WordClass.{WordClass}
use Rattle.kind_terms.specs.declared.words.WordClass.TheVariants.{TypeWord, Any, Cell, Sized, Numbered, Hashmap}
use Rattle.kind_terms.specs.declared.words.WordClass.TheVariants.{HashmapE, HashmapNode, Free}
use Rattle.kind_terms.specs.Words.{Word, families}
use Rattle.kind_terms.specs.Classes.{word_class}
use Rattle.kind_terms.specs.Closed.{is_wide_in}
use Rattle.kind_terms.specs.Params.{greatest, has_outputs}
use Rattle.kind_terms.specs.Types.{TypeNamed, no_type, basic, declared, family_kinds, parameters, count}

-- the kinds of the parameters of a declared type, by its name
abbrev pub DeclaredKinds : Type 0
DeclaredKinds = Word → Option (List TermKind)

pub data Fault : Type 0 where
  -- a name that is no type
  unknown_type : Word → Fault
  -- a declared type, Hashmap or HashmapE with another number of arguments than it has parameters
  arity : Word → Fault
  -- a type with outputs
  output : Word → Fault
  -- A number where a type is due, or the reverse, in the arguments of the type of this name, if it has one; or other
  -- arguments of a basic type than it has parameters.
  kind_mismatch : Option Word → Fault
  -- a number above the greatest that its place takes
  too_wide : Fault

abbrev pub first_of : Option Fault → Option Fault → Option Fault
first_of (Some f) later = Some f
first_of None later = later

-- ---- names

abbrev pub declared_as : Option (List TermKind) → TypeNamed
declared_as None = no_type
declared_as (Some ks) = declared ks

-- what a name of this class is as a type; Type is none, with arguments neither
abbrev pub type_by : DeclaredKinds → Word → WordClass → TypeNamed
type_by d x TypeWord = no_type
type_by d x Any = basic []
type_by d x Cell = basic []
type_by d x (Sized f) = basic (family_kinds f)
type_by d x (Numbered f) = basic []
type_by d x Hashmap = declared (NumberIn 1023 ∷ TypeIn ∷ [])
type_by d x HashmapE = declared (NumberIn 1023 ∷ TypeIn ∷ [])
type_by d x HashmapNode = no_type
type_by d x Free = declared_as (d x)

abbrev pub type_called : DeclaredKinds → Word → TypeNamed
type_called d x = type_by d x (word_class x)

-- a name whose width is beyond the greatest of its family
abbrev pub is_wide : Word → Bool
is_wide x = list_any (is_wide_in x) families

abbrev pub wide_fault : Word → Option Fault
wide_fault x = if is_wide x then Some too_wide else None

-- of the name x, which is this as a type and has so many arguments, where a type is due
abbrev pub name_fault : TypeNamed → Word → ℕ → Option Fault
name_fault no_type x n = Some (unknown_type x)
name_fault (declared ks) x n =
    if not (nat_eq n (length ks)) then Some (arity x)
    else if has_outputs ks then Some (output x)
    else None
name_fault (basic ks) x n = if not (nat_eq n (length ks)) then Some (kind_mismatch (Some x)) else wide_fault x

-- and where a number is due in the arguments of h
abbrev pub number_name_fault : Option Word → TypeNamed → Word → ℕ → Fault
number_name_fault h no_type x n = unknown_type x
number_name_fault h (declared ks) x n =
    if not (nat_eq n (length ks)) then arity x
    else if has_outputs ks then output x
    else kind_mismatch h
number_name_fault h (basic ks) x n = if not (nat_eq n (length ks)) then kind_mismatch (Some x) else kind_mismatch h

-- ---- expressions

-- where a number is due, which is a literal and at most so much
abbrev pub number_fault : DeclaredKinds → Option Word → ℕ → ExprView → Option Fault
number_fault d h most (lit n) = if nat_lt most n then Some too_wide else None
number_fault d h most (named x es) = Some (number_name_fault h (type_called d x) x (count es))
number_fault d h most nat32 = Some (kind_mismatch h)
number_fault d h most (bits es) = Some (kind_mismatch h)
number_fault d h most (below es) = Some (kind_mismatch h)
number_fault d h most (up_to es) = Some (kind_mismatch h)
number_fault d h most (plus a b) = Some (kind_mismatch h)
number_fault d h most (star a b) = Some (kind_mismatch h)
number_fault d h most (out e) = Some (kind_mismatch h)
number_fault d h most (ref e) = Some (kind_mismatch h)
number_fault d h most (group is) = Some (kind_mismatch h)

-- the kind of the first of these parameters, and those after it
abbrev pub first_kind : List TermKind → TermKind
first_kind [] = NoKind
first_kind (k ∷ ks) = k

abbrev pub later_kinds : List TermKind → List TermKind
later_kinds [] = []
later_kinds (k ∷ ks) = ks

-- an argument at a parameter of this kind, with what is at fault in it as a number and as a type
abbrev pub argument_fault : DeclaredKinds → Option Word → TermKind → ExprView → Option Fault → Option Fault
argument_fault d h (NumberIn most) e as_type = number_fault d h most e
argument_fault d h TypeIn e as_type = as_type
argument_fault d h NumberOut e as_type = Some (kind_mismatch h)
argument_fault d h NoKind e as_type = Some (kind_mismatch h)

-- The first fault, outer before inner and from left to right, of an expression that stands where a type is due, in the
-- arguments of h.
abbrev mutual
  pub type_fault : DeclaredKinds → Option Word → ExprView → Option Fault
  type_fault d h nat32 = None
  type_fault d h (bits es) = arguments_fault d None (NumberIn 32 ∷ []) es
  type_fault d h (below es) = arguments_fault d None (NumberIn greatest ∷ []) es
  type_fault d h (up_to es) = arguments_fault d None (NumberIn greatest ∷ []) es
  type_fault d h (star a b) = first_of (number_fault d None greatest a) (type_fault d None b)
  type_fault d h (ref e) = type_fault d None e
  type_fault d h (named x es) =
      first_of (name_fault (type_called d x) x (count es))
      (arguments_fault d (Some x) (parameters (type_called d x)) es)
  type_fault d h (lit n) = Some (kind_mismatch h)
  type_fault d h (plus a b) = Some (kind_mismatch h)
  type_fault d h (out e) = Some (kind_mismatch h)
  type_fault d h (group is) = Some (kind_mismatch h)

  -- of arguments at parameters of these kinds
  pub arguments_fault : DeclaredKinds → Option Word → List TermKind → ExprList → Option Fault
  arguments_fault d h ks no_exprs = None
  arguments_fault d h ks (an_expr e es) =
      first_of (argument_fault d h (first_kind ks) e (type_fault d h e))
      (arguments_fault d h (later_kinds ks) es)
