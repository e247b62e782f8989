-- Forms of expressions, and the expressions in them.
use Rattle.std.specs.Prelude.{List, [], ◌∷◌, ◌++◌, Bool, true, false, Option, None}
use Rattle.tlb_syntax.specs.Tree.{ExprView, ExprList, TypeView, lit, named, nat32, bits, below, up_to, plus, star, out}
use Rattle.tlb_syntax.specs.Tree.{ref, group, no_exprs, an_expr, plain, when, when_bit}
use Rattle.kind_terms.specs.Words.{Word}
use Rattle.kind_terms.specs.Params.{bare_name}

-- #, ##, #< and #<=
abbrev pub is_of_numbers : ExprView → Bool
is_of_numbers nat32 = true
is_of_numbers (bits es) = true
is_of_numbers (below es) = true
is_of_numbers (up_to es) = true
is_of_numbers (lit n) = false
is_of_numbers (named x es) = false
is_of_numbers (plus a b) = false
is_of_numbers (star a b) = false
is_of_numbers (out e) = false
is_of_numbers (ref e) = false
is_of_numbers (group is) = false

-- a field of numbers is a variable where it has no condition
abbrev pub is_field_of_numbers : TypeView → Bool
is_field_of_numbers (plain e) = is_of_numbers e
is_field_of_numbers (when c e) = false
is_field_of_numbers (when_bit c k e) = false

-- an expression and all expressions in it, but those of records in it; an expression comes before its parts
abbrev mutual
  pub parts : ExprView → List ExprView
  parts (lit n) = lit n ∷ []
  parts (named x es) = named x es ∷ parts_of_all es
  parts nat32 = nat32 ∷ []
  parts (bits es) = bits es ∷ parts_of_all es
  parts (below es) = below es ∷ parts_of_all es
  parts (up_to es) = up_to es ∷ parts_of_all es
  parts (plus a b) = plus a b ∷ (parts a ++ parts b)
  parts (star a b) = star a b ∷ (parts a ++ parts b)
  parts (out e) = out e ∷ parts e
  parts (ref e) = ref e ∷ parts e
  parts (group is) = group is ∷ []

  pub parts_of_all : ExprList → List ExprView
  parts_of_all no_exprs = []
  parts_of_all (an_expr e es) = parts e ++ parts_of_all es

abbrev pub is_out : ExprView → Bool
is_out (out e) = true
is_out (lit n) = false
is_out (named x es) = false
is_out nat32 = false
is_out (bits es) = false
is_out (below es) = false
is_out (up_to es) = false
is_out (plus a b) = false
is_out (star a b) = false
is_out (ref e) = false
is_out (group is) = false

-- the x of `~x`
abbrev pub out_name : ExprView → Option Word
out_name (out e) = bare_name e
out_name (lit n) = None
out_name (named x es) = None
out_name nat32 = None
out_name (bits es) = None
out_name (below es) = None
out_name (up_to es) = None
out_name (plus a b) = None
out_name (star a b) = None
out_name (ref e) = None
out_name (group is) = None
