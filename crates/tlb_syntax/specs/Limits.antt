-- The limits of a schema's size, as they hold of its tree.
use Rattle.std.specs.Prelude.{ℕ, ◌≡◌, ◌≤◌, ◌<◌, ◌+◌, ◌^◌, true, max, List, [], ◌∷◌, length, Option, Some, None, nat_le}
use Rattle.std.specs.Prelude.{if◌then◌else◌}
use Rattle.bit_slice.specs.Bits.{AreBits}
use Rattle.tlb_lexer.specs.Spelling.{is_name}
use Rattle.tlb_lexer.specs.Tokenization.{longest_name}
use Rattle.tlb_syntax.specs.Lexeme.{Lexeme, word, blank, number, tag, sign, other}
use Rattle.tlb_syntax.specs.Tree.{ExprView, ExprList, ItemView, ItemList, TypeView, TagView, ConstructorView}
use Rattle.tlb_syntax.specs.Tree.{SchemaView, lit, named, nat32, bits, below, up_to, plus, star, out, ref, group}
use Rattle.tlb_syntax.specs.Tree.{no_exprs, an_expr, plain, when, when_bit, implicit, check, explicit, no_items}
use Rattle.tlb_syntax.specs.Tree.{an_item, computed, given}
use Rattle.tlb_syntax.specs.Text.{are_none}
use Rattle.tlb_syntax.specs.Written.{WithinCounts}

-- ---- levels

-- the places in which an expression may stand without parentheses, where it is such a form or a form of an earlier line
pub data Precedence : Type 0 where
  -- anything alone, or after `~` or `^`
  in_term : Precedence
  -- a name with arguments; `##`, `#<` and `#<=`
  in_application : Precedence
  in_product : Precedence
  in_sum : Precedence

abbrev pub precedence_rank : Precedence → ℕ
precedence_rank in_term = 0
precedence_rank in_application = 1
precedence_rank in_product = 2
precedence_rank in_sum = 3

-- the levels of a form that opens so many itself, with its parentheses where the place takes no such form
abbrev pub enclosed : Precedence → Precedence → ℕ → ℕ
enclosed place form levels = if nat_le (precedence_rank form) (precedence_rank place) then levels else levels + 1

-- the least number of levels that a text of it opens at a place: each `(`, `[`, `^` and `~` opens one
abbrev mutual
  pub levels : Precedence → ExprView → ℕ
  levels place (lit n) = 0
  levels place (named x es) = if are_none es then 0 else enclosed place in_application (levels_of es)
  levels place nat32 = 0
  levels place (bits es) = enclosed place in_application (levels_of es)
  levels place (below es) = enclosed place in_application (levels_of es)
  levels place (up_to es) = enclosed place in_application (levels_of es)
  levels place (plus a b) = enclosed place in_sum (max (levels in_sum a) (levels in_product b))
  levels place (star a b) = enclosed place in_product (max (levels in_application a) (levels in_application b))
  levels place (out e) = levels in_term e + 1
  levels place (ref e) = levels in_term e + 1
  levels place (group is) = levels_in is + 1

  pub levels_of : ExprList → ℕ
  levels_of no_exprs = 0
  levels_of (an_expr e es) = max (levels in_term e) (levels_of es)

  pub type_levels : TypeView → ℕ
  type_levels (plain e) = levels in_term e
  type_levels (when c e) = max (levels in_term c) (levels in_term e)
  type_levels (when_bit c k e) = max (levels in_term c) (levels in_term e)

  pub item_levels : ItemView → ℕ
  item_levels (implicit x k) = 0
  item_levels (check a op b) = max (levels in_sum a) (levels in_sum b)
  item_levels (explicit x t) = type_levels t

  pub levels_in : ItemList → ℕ
  levels_in no_items = 0
  levels_in (an_item i is) = max (item_levels i) (levels_in is)

-- ---- sizes of parts

-- a letter, then letters, digits and `_`, at most 127 bytes
pub record IsWord (x : List ℕ) : Type 0 where
  pub spelled : is_name x ≡ true
  pub short : length x ≤ longest_name

abbrev pub IsWordOrNone : Option (List ℕ) → Type 0
IsWordOrNone None = Unit {0}
IsWordOrNone (Some x) = IsWord x

pub record AreTagBits (b : List ℕ) : Type 0 where
  pub are_bits : AreBits b
  pub short : length b ≤ 1023

abbrev pub IsTag : TagView → Type 0
IsTag computed = Unit {0}
IsTag (given b) = AreTagBits b

abbrev pub expr_count : ExprList → ℕ
expr_count no_exprs = 0
expr_count (an_expr e es) = expr_count es + 1

abbrev pub item_count : ItemList → ℕ
item_count no_items = 0
item_count (an_item i is) = item_count is + 1

-- names are words, literals are below 2^32, `##`, `#<` and `#<=` have one argument, a tested bit is at most 31, and a
-- record has at most 255 items
abbrev mutual
  pub IsExpr : ExprView → Type 0
  IsExpr (lit n) = n < 2 ^ 32
  IsExpr (named x es) = IsWord x × AreExprs es
  IsExpr nat32 = Unit {0}
  IsExpr (bits es) = (expr_count es ≡ 1) × AreExprs es
  IsExpr (below es) = (expr_count es ≡ 1) × AreExprs es
  IsExpr (up_to es) = (expr_count es ≡ 1) × AreExprs es
  IsExpr (plus a b) = IsExpr a × IsExpr b
  IsExpr (star a b) = IsExpr a × IsExpr b
  IsExpr (out e) = IsExpr e
  IsExpr (ref e) = IsExpr e
  IsExpr (group is) = (item_count is ≤ 255) × AreItems is

  pub AreExprs : ExprList → Type 0
  AreExprs no_exprs = Unit {0}
  AreExprs (an_expr e es) = IsExpr e × AreExprs es

  pub IsType : TypeView → Type 0
  IsType (plain e) = IsExpr e
  IsType (when c e) = IsExpr c × IsExpr e
  IsType (when_bit c k e) = IsExpr c × (k ≤ 31) × IsExpr e

  pub IsItem : ItemView → Type 0
  IsItem (implicit x k) = IsWord x
  IsItem (check a op b) = IsExpr a × IsExpr b
  IsItem (explicit x t) = IsWordOrNone x × IsType t

  pub AreItems : ItemList → Type 0
  AreItems no_items = Unit {0}
  AreItems (an_item i is) = IsItem i × AreItems is

-- ---- a schema

pub record IsConstructor (c : ConstructorView) : Type 0 where
  pub name : IsWordOrNone c.name
  pub tag : IsTag c.tag
  pub items : AreItems c.items
  pub item_count : item_count c.items ≤ 255
  pub item_levels : levels_in c.items ≤ 64
  pub type_name : IsWord c.result
  pub params : AreExprs c.params
  pub param_count : expr_count c.params ≤ 8
  pub param_levels : levels_of c.params ≤ 64

abbrev pub AreConstructors : SchemaView → Type 0
AreConstructors [] = Unit {0}
AreConstructors (c ∷ cs) = IsConstructor c × AreConstructors cs

pub record IsWithinLimits (s : SchemaView) : Type 0 where
  pub counts : WithinCounts s
  pub constructors : AreConstructors s

-- the expression of a type word, which opens at most 64 levels
pub record IsWordWithinLimits (e : ExprView) : Type 0 where
  pub expression : IsExpr e
  pub levels : levels in_sum e ≤ 64

-- ---- lexemes

-- a lexeme that a token of some text can be
abbrev pub IsOfText : Lexeme → Type 0
IsOfText (word x) = IsWord x
IsOfText blank = Unit {0}
IsOfText (number None) = Unit {0}
IsOfText (number (Some n)) = n < 2 ^ 32
IsOfText (tag None) = Unit {0}
IsOfText (tag (Some b)) = AreTagBits b
IsOfText (sign s) = Unit {0}
IsOfText other = Unit {0}

abbrev pub AreOfText : List Lexeme → Type 0
AreOfText [] = Unit {0}
AreOfText (l ∷ ls) = IsOfText l × AreOfText ls
