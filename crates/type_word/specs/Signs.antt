-- The tokens that a type word has no place for, though its grammar has: `~`, `[`, `+`, and a `*` whose left factor is
-- no literal or whose right factor is one.
-- Source: these refusals are this project's own; the grammar is that of the TON documentation on the TL-B language.
use Rattle.std.specs.Prelude.{ℕ, ◌==◌, ◌&&◌, ◌||◌, not, Bool, true, false, List, [], ◌∷◌, ◌++◌, Option, Some, None}
use Rattle.std.specs.Prelude.{slice_get, if◌then◌else◌}
use Rattle.std.specs.List.{flat_map}
use Rattle.tlb_lexer.specs.declared.Token.{Token}
use Rattle.tlb_lexer.specs.declared.TokenKind.{TokenKind}
use Rattle.tlb_lexer.specs.declared.TokenKind.TheVariants as kinds
use Rattle.tlb_syntax.specs.Tree.{ExprView, ExprList, ItemView, ItemList, TypeView, lit, named, nat32, bits, below}
use Rattle.tlb_syntax.specs.Tree.{up_to, plus, star, out, ref, group, no_exprs, an_expr, plain, when, when_bit}
use Rattle.tlb_syntax.specs.Tree.{implicit, check, explicit, no_items, an_item}
use Rattle.kind_terms.specs.Params.{is_literal}

-- ---- in a tree

-- For each `~`, `[`, `+` and `*` of the expression, in the order of the text, whether it is refused. Parentheses leave
-- no trace for the factors of `*` either.
abbrev mutual
  pub refused_signs : ExprView → List Bool
  refused_signs (lit n) = []
  refused_signs (named x es) = refused_in es
  refused_signs nat32 = []
  refused_signs (bits es) = refused_in es
  refused_signs (below es) = refused_in es
  refused_signs (up_to es) = refused_in es
  refused_signs (plus a b) = refused_signs a ++ true ∷ refused_signs b
  refused_signs (star a b) = refused_signs a ++ (not (is_literal a) || is_literal b) ∷ refused_signs b
  refused_signs (out e) = true ∷ refused_signs e
  refused_signs (ref e) = refused_signs e
  refused_signs (group is) = true ∷ refused_in_items is

  pub refused_in : ExprList → List Bool
  refused_in no_exprs = []
  refused_in (an_expr e es) = refused_signs e ++ refused_in es

  pub refused_in_type : TypeView → List Bool
  refused_in_type (plain e) = refused_signs e
  refused_in_type (when c e) = refused_signs c ++ refused_signs e
  refused_in_type (when_bit c k e) = refused_signs c ++ refused_signs e

  pub refused_in_item : ItemView → List Bool
  refused_in_item (implicit x k) = []
  refused_in_item (check a op b) = refused_signs a ++ refused_signs b
  refused_in_item (explicit x t) = refused_in_type t

  pub refused_in_items : ItemList → List Bool
  refused_in_items no_items = []
  refused_in_items (an_item i is) = refused_in_item i ++ refused_in_items is

-- ---- in a text

-- `[`, `~`, `+` and `*`, of which no longer symbol begins with one
abbrev pub is_sign_byte : Option ℕ → Bool
is_sign_byte None = false
is_sign_byte (Some b) = b == 91 || b == 126 || b == 43 || b == 42

abbrev pub is_symbol : TokenKind → Bool
is_symbol kinds.Symbol = true
is_symbol kinds.Name = false
is_symbol kinds.Blank = false
is_symbol kinds.Number = false
is_symbol kinds.BinaryTag = false
is_symbol kinds.HexTag = false

-- the byte at which the token stands, if it is one of these signs
abbrev pub sign_place : List ℕ → Token → List ℕ
sign_place text t = if is_symbol t.kind && is_sign_byte (slice_get text t.from) then t.from ∷ [] else []

-- the bytes at which these signs stand in the text
abbrev pub sign_places : List ℕ → List Token → List ℕ
sign_places text tokens = flat_map (sign_place text) tokens

-- ---- both

-- the place of the first of these signs that is refused
abbrev pub first_refused : List Bool → List ℕ → Option ℕ
first_refused [] places = None
first_refused (b ∷ bs) [] = None
first_refused (true ∷ bs) (place ∷ places) = Some place
first_refused (false ∷ bs) (place ∷ places) = first_refused bs places
