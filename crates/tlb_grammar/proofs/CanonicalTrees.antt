-- The trees that texts write, and the lexemes of their canonical texts.
use Rattle.std.proofs.Common.{ℕ, suc, ◌≡◌, ◌<◌, ◌≤◌, ◌^◌, Bool, true, false, List, ◌∷◌, length, Option, Some, None, if◌then◌else◌, codes}
use Rattle.bit_slice.specs.Bits.{AreBits}
use Rattle.nat_solver.specs.declared.compare.Op.{Op}
use Rattle.nat_solver.specs.declared.compare.Op.TheVariants.{Eq, Lt, Le, Gt, Ge}
use Rattle.tlb_lexer.specs.Spelling.{is_name}
use Rattle.tlb_lexer.specs.Tokenization.{longest_name}
use Rattle.tlb_syntax.specs.declared.tree.ParamKind.{ParamKind}
use Rattle.tlb_syntax.specs.declared.tree.ParamKind.TheVariants.{Nat, Ty}
use Rattle.tlb_syntax.specs.declared.sign.Sign.{Sign}
use Rattle.tlb_syntax.specs.declared.sign.Sign.TheVariants.{Hash, HashHash, HashLess, HashLessEqual, Colon, Semicolon, Equal, OpenParen, CloseParen, OpenBrace, CloseBrace, OpenBracket, CloseBracket, Caret, Tilde, Question, Dot, Asterisk, Plus, Less, LessEqual, Greater, GreaterEqual, Bang}
use Rattle.tlb_syntax.specs.Lexeme.{Lexeme, word, blank, number, tag, sign}
use Rattle.tlb_syntax.specs.Tree.{ExprView, ExprList, ItemView, ItemList, TypeView, TagView, ConstructorView, lit, named, nat32, bits, below, up_to, plus, star, out, ref, group, no_exprs, an_expr, plain, when, when_bit, implicit, check, explicit, no_items, an_item, computed, given}
use Rattle.tlb_syntax.specs.Text.{are_none}

-- ---- the trees

-- a name of the lexer
pub record IsWord (x : List ℕ) : Type 0 where
  pub spelled : is_name x ≡ true
  pub short : length x ≤ longest_name

-- the bits of a tag
pub record IsMark (b : List ℕ) : Type 0 where
  pub bits : AreBits b
  pub short : length b ≤ 1023

abbrev pub IsWordOrBlank : Option (List ℕ) → Type 0
IsWordOrBlank None = Unit {0}
IsWordOrBlank (Some x) = IsWord x

abbrev pub IsTag : TagView → Type 0
IsTag computed = Unit {0}
IsTag (given b) = IsMark b

abbrev pub HasOne : ExprList → Type 0
HasOne no_exprs = ⊥
HasOne (an_expr e no_exprs) = Unit {0}
HasOne (an_expr e (an_expr f es)) = ⊥

abbrev pub exprs_count : ExprList → ℕ
exprs_count no_exprs = 0
exprs_count (an_expr e es) = suc (exprs_count es)

abbrev pub items_count : ItemList → ℕ
items_count no_items = 0
items_count (an_item i is) = suc (items_count is)

abbrev mutual
  pub IsExpr : ExprView → Type 0
  IsExpr (lit n) = n < 2 ^ 32
  IsExpr (named x es) = IsWord x × AreExprs es
  IsExpr nat32 = Unit {0}
  IsExpr (bits es) = HasOne es × AreExprs es
  IsExpr (below es) = HasOne es × AreExprs es
  IsExpr (up_to es) = HasOne es × AreExprs es
  IsExpr (plus a b) = IsExpr a × IsExpr b
  IsExpr (star a b) = IsExpr a × IsExpr b
  IsExpr (out e) = IsExpr e
  IsExpr (ref e) = IsExpr e
  IsExpr (group is) = (items_count is ≤ 255) × AreItems is

  pub AreExprs : ExprList → Type 0
  AreExprs no_exprs = Unit {0}
  AreExprs (an_expr e es) = IsExpr e × AreExprs es

  pub IsType : TypeView → Type 0
  IsType (plain e) = IsExpr e
  IsType (when c e) = IsExpr c × IsExpr e
  IsType (when_bit c k e) = (k ≤ 31) × IsExpr c × IsExpr e

  pub IsItem : ItemView → Type 0
  IsItem (implicit x k) = IsWord x
  IsItem (check a op b) = IsExpr a × IsExpr b
  IsItem (explicit x t) = IsWordOrBlank x × IsType t

  pub AreItems : ItemList → Type 0
  AreItems no_items = Unit {0}
  AreItems (an_item i is) = IsItem i × AreItems is

pub record IsConstructor (c : ConstructorView) : Type 0 where
  pub name : IsWordOrBlank c.name
  pub tag : IsTag c.tag
  pub item_count : items_count c.items ≤ 255
  pub items : AreItems c.items
  pub result : IsWord c.result
  pub param_count : exprs_count c.params ≤ 8
  pub params : AreExprs c.params

-- ---- their lexemes, before others

abbrev pub head : Option (List ℕ) → Lexeme
head (Some x) = word x
head None = blank

abbrev pub comparing : Op → Sign
comparing Eq = Equal
comparing Lt = Less
comparing Le = LessEqual
comparing Gt = Greater
comparing Ge = GreaterEqual

abbrev pub kind_lexeme : ParamKind → Lexeme
kind_lexeme Nat = sign Hash
kind_lexeme Ty = word (codes "Type")

abbrev pub marked : TagView → List Lexeme → List Lexeme
marked computed r = r
marked (given b) r = tag (Some b) ∷ r

abbrev mutual
  pub expr_before : ExprView → List Lexeme → List Lexeme
  expr_before (lit n) r = number (Some n) ∷ r
  expr_before (named x es) r =
      if are_none es then word x ∷ r else sign OpenParen ∷ word x ∷ exprs_before es (sign CloseParen ∷ r)
  expr_before nat32 r = sign Hash ∷ r
  expr_before (bits es) r = sign OpenParen ∷ sign HashHash ∷ exprs_before es (sign CloseParen ∷ r)
  expr_before (below es) r = sign OpenParen ∷ sign HashLess ∷ exprs_before es (sign CloseParen ∷ r)
  expr_before (up_to es) r = sign OpenParen ∷ sign HashLessEqual ∷ exprs_before es (sign CloseParen ∷ r)
  expr_before (plus a b) r = sign OpenParen ∷ expr_before a (sign Plus ∷ expr_before b (sign CloseParen ∷ r))
  expr_before (star a b) r = sign OpenParen ∷ expr_before a (sign Asterisk ∷ expr_before b (sign CloseParen ∷ r))
  expr_before (out e) r = sign Tilde ∷ expr_before e r
  expr_before (ref e) r = sign Caret ∷ expr_before e r
  expr_before (group is) r = sign OpenBracket ∷ items_before is (sign CloseBracket ∷ r)

  pub exprs_before : ExprList → List Lexeme → List Lexeme
  exprs_before no_exprs r = r
  exprs_before (an_expr e es) r = expr_before e (exprs_before es r)

  pub type_before : TypeView → List Lexeme → List Lexeme
  type_before (plain e) r = expr_before e r
  type_before (when c e) r = expr_before c (sign Question ∷ expr_before e r)
  type_before (when_bit c k e) r = expr_before c (sign Dot ∷ number (Some k) ∷ sign Question ∷ expr_before e r)

  pub item_before : ItemView → List Lexeme → List Lexeme
  item_before (implicit x k) r = sign OpenBrace ∷ word x ∷ sign Colon ∷ kind_lexeme k ∷ sign CloseBrace ∷ r
  item_before (check a op b) r =
      sign OpenBrace ∷ expr_before a (sign (comparing op) ∷ expr_before b (sign CloseBrace ∷ r))
  item_before (explicit x t) r = head x ∷ sign Colon ∷ type_before t r

  pub items_before : ItemList → List Lexeme → List Lexeme
  items_before no_items r = r
  items_before (an_item i is) r = item_before i (items_before is r)

abbrev pub exotic_before : Bool → List Lexeme → List Lexeme
exotic_before true r = sign Bang ∷ r
exotic_before false r = r

abbrev pub constructor_before : ConstructorView → List Lexeme → List Lexeme
constructor_before c r =
    exotic_before c.exotic (head c.name ∷ marked c.tag
    (items_before c.items (sign Equal ∷ word c.result ∷ exprs_before c.params (sign Semicolon ∷ r))))
