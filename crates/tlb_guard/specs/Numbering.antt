-- The types of a schema and their parameters by numbers: the number of a type is the place of its first constructor.
use Rattle.std.specs.Prelude.{ℕ, zero, suc, ◌+◌, ◌*◌, List, [], ◌∷◌, Bool, false, Option, Some, None, bytes_eq, position, max, nat_lt, map, if◌then◌else◌}
use Rattle.tlb_syntax.specs.declared.tree.Constructor.{Constructor}
use Rattle.tlb_syntax.specs.Tree.{ConstructorView, SchemaView}
use Rattle.tlb_syntax.specs.View.{constructor}
use Rattle.kind_terms.specs.Words.{Word}
use Rattle.kind_terms.specs.Classes.{is_free}
use Rattle.kind_terms.specs.Types.{count}
use Rattle.tlb_guard.specs.Rounds.{Test}
use Rattle.tlb_guard.specs.DeclaredTypes.{Parameter}

abbrev pub views : List Constructor → SchemaView
views types = map constructor types

abbrev pub place_of : SchemaView → Word → Option ℕ
place_of s x = position (λ (c : ConstructorView). bytes_eq c.result x) s

-- the type of the constructor at that place
abbrev pub word_at : SchemaView → ℕ → Word
word_at [] n = []
word_at (c ∷ cs) zero = c.result
word_at (c ∷ cs) (suc n) = word_at cs n

-- the number of a type that a field may name
abbrev pub number_of : SchemaView → Word → Option ℕ
number_of s x = if is_free x then place_of s x else None

-- the greatest number of parameters of a constructor
abbrev pub width : SchemaView → ℕ
width [] = 0
width (c ∷ cs) = max (count c.params) (width cs)

abbrev pub parameter_at : ℕ → ℕ → Option ℕ → Option ℕ
parameter_at width place None = None
parameter_at width place (Some of) = if nat_lt place width then Some (of * width + place) else None

-- each type has as many parameters as any
abbrev pub parameter_number : SchemaView → Parameter → Option ℕ
parameter_number s p = parameter_at (width s) p.place (place_of s p.of)

-- ---- sets of numbers

abbrev pub passes : Test ℕ → Option ℕ → Bool
passes t None = false
passes t (Some n) = t n

-- the types of these numbers
abbrev pub types_in : SchemaView → Test ℕ → Test Word
types_in s t x = passes t (place_of s x)

-- the parameters of these numbers
abbrev pub parameters_in : SchemaView → Test ℕ → Test Parameter
parameters_in s t p = passes t (parameter_number s p)
