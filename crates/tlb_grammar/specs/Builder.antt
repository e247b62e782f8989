-- The machine that builds a tree from lexemes: its states, and one step for each lexeme. Where lexemes are not written
-- it may go on or not. The contracts of the public calls speak of the productions alone; proofs/ ties the machine to
-- them.
use Rattle.std.specs.Prelude.{ℕ, Bool, true, false, List, [], ◌∷◌, ◌++◌, bytes_eq, codes, if◌then◌else◌, Option, Some}
use Rattle.std.specs.Prelude.{None}
use Rattle.nat_solver.specs.declared.compare.Op.{Op}
use Rattle.nat_solver.specs.declared.compare.Op.TheVariants.{Eq, Lt, Le, Gt, Ge}
use Rattle.tlb_syntax.specs.declared.sign.Sign.{Sign}
use Rattle.tlb_syntax.specs.declared.sign.Sign.TheVariants.{Hash, HashHash, HashLess, HashLessEqual, Colon, Semicolon}
use Rattle.tlb_syntax.specs.declared.sign.Sign.TheVariants.{Equal, OpenParen, CloseParen, OpenBrace, CloseBrace}
use Rattle.tlb_syntax.specs.declared.sign.Sign.TheVariants.{OpenBracket, CloseBracket, Caret, Tilde, Question, Dot}
use Rattle.tlb_syntax.specs.declared.sign.Sign.TheVariants.{Asterisk, Plus, Less, LessEqual, Greater, GreaterEqual}
use Rattle.tlb_syntax.specs.declared.sign.Sign.TheVariants.{Bang}
use Rattle.tlb_syntax.specs.declared.tree.ParamKind.{ParamKind}
use Rattle.tlb_syntax.specs.declared.tree.ParamKind.TheVariants.{Nat, Ty}
use Rattle.tlb_syntax.specs.declared.tree.Expr.{Expr}
use Rattle.tlb_syntax.specs.declared.tree.Expr.TheVariants as exprs
use Rattle.tlb_syntax.specs.declared.tree.FieldType.{FieldType}
use Rattle.tlb_syntax.specs.declared.tree.FieldType.TheVariants as types
use Rattle.tlb_syntax.specs.declared.tree.Item.{Item}
use Rattle.tlb_syntax.specs.declared.tree.Item.TheVariants.{Implicit, Check, Explicit}
use Rattle.tlb_syntax.specs.declared.tree.Tag.TheVariants.{Computed, Given}
use Rattle.tlb_syntax.specs.declared.tree.Constructor.{Constructor}
use Rattle.tlb_syntax.specs.Lexeme.{Lexeme, word, blank, number, tag, sign, other}
use Rattle.tlb_grammar.specs.declared.state.OpenSum.{OpenSum}
use Rattle.tlb_grammar.specs.declared.state.Terms.{Terms}
use Rattle.tlb_grammar.specs.declared.state.Terms.TheVariants.{Zero, One, Several}
use Rattle.tlb_grammar.specs.declared.state.Heading.{Heading}
use Rattle.tlb_grammar.specs.declared.state.Width.{Width}
use Rattle.tlb_grammar.specs.declared.state.Width.TheVariants as widths
use Rattle.tlb_grammar.specs.declared.state.Guard.{Guard}
use Rattle.tlb_grammar.specs.declared.state.Guard.TheVariants as guards
use Rattle.tlb_grammar.specs.declared.state.ParserState.{ParserState}
use Rattle.tlb_grammar.specs.declared.state.ParserState.TheVariants.{Start, Marked, Items, ItemName, ItemBlank, Typed}
use Rattle.tlb_grammar.specs.declared.state.ParserState.TheVariants.{Bit, BitEnd, Kind, KindEnd, Term, Apply, Applied}
use Rattle.tlb_grammar.specs.declared.state.ParserState.TheVariants.{Operated, Result, Params}
use Rattle.tlb_grammar.specs.declared.state.Frame.{Frame}
use Rattle.tlb_grammar.specs.declared.state.Frame.TheVariants as frames

-- the mode, what it is part of, the innermost first, and the declarations before
pub data State : Type 0 where
  at : ParserState → List Frame → List Constructor → State

-- ---- parts

-- the innermost part
abbrev pub innermost : {X : Type 0} → (Frame → Option X) → List Frame → Option X
innermost part [] = None
innermost part (f ∷ below) = part f

abbrev pub is_innermost : (Frame → Bool) → List Frame → Bool
is_innermost is_part [] = false
is_innermost is_part (f ∷ below) = is_part f

-- what it is part of
abbrev pub outer : List Frame → List Frame
outer [] = []
outer (f ∷ below) = below

unfoldable pub is_paren : Frame → Bool
is_paren frames.Paren = true
is_paren f = false

unfoldable pub is_record : Frame → Bool
is_record frames.Record = true
is_record f = false

unfoldable pub left_of : Frame → Option (List Item)
left_of (frames.Left is) = Some is
left_of f = None

unfoldable pub right_of : Frame → Option (List Item × Expr × Op)
right_of (frames.Right is a op) = Some (is, a, op)
right_of f = None

unfoldable pub heading_of : Frame → Option Heading
heading_of (frames.Declaration heading) = Some heading
heading_of f = None

-- ---- sums

abbrev pub no_sum : OpenSum
no_sum = record { terms = Zero; factor = None }

abbrev pub factored : Option Expr → Expr → Expr
factored None e = e
factored (Some a) e = exprs.Star a e

-- one term more
abbrev pub with_term : Terms → Expr → Terms
with_term Zero e = One e
with_term (One a) e = Several a e []
with_term (Several a b es) e = Several a b (es ++ e ∷ [])

-- the sum after a `*` or a `+`
abbrev pub times : OpenSum → Expr → OpenSum
times sum e = record { terms = sum.terms; factor = Some e }

abbrev pub added : OpenSum → Expr → OpenSum
added sum e = record { terms = with_term sum.terms (factored sum.factor e); factor = None }

abbrev pub whole : Terms → Expr → Expr
whole Zero e = e
whole (One a) e = exprs.Sum a e []
whole (Several a b es) e = exprs.Sum a b (es ++ e ∷ [])

-- the whole sum with its last operand
abbrev pub closed : OpenSum → Expr → Expr
closed sum e = whole sum.terms (factored sum.factor e)

-- ---- terms

abbrev pub limited : Width → Expr → Expr
limited widths.Bits e = exprs.Bits (e ∷ [])
limited widths.Below e = exprs.Below (e ∷ [])
limited widths.UpTo e = exprs.UpTo (e ∷ [])

abbrev pub guarded : Guard → Expr → FieldType
guarded (guards.Number c) e = types.If c e
guarded (guards.Bit c k) e = types.IfBit c k e

abbrev pub with_item : List Item → Item → List Item
with_item is i = is ++ i ∷ []

abbrev pub with_field : List Item → Option (List ℕ) → FieldType → List Item
with_field is name t = with_item is (Explicit name t)

abbrev pub with_param : Constructor → Expr → Constructor
with_param c e = record {
  exotic = c.exotic;
  name = c.name;
  tag = c.tag;
  items = c.items;
  result = c.result;
  params =
      c.params ++ e ∷ [];
}

-- after a term that is part of this
unfoldable pub after_term : Frame → Expr → Option ParserState
after_term frames.Out e = None
after_term frames.Ref e = None
after_term (frames.Operand sum) e = Some (Operated sum e)
after_term (frames.Argument sum x es) e = Some (Applied sum x (es ++ e ∷ []))
after_term (frames.Width sum w) e = Some (Operated sum (limited w e))
after_term (frames.Field is name) e = Some (Typed is name e)
after_term (frames.Guarded is name g) e = Some (Items (with_field is name (guarded g e)))
after_term (frames.Param c) e = Some (Params (with_param c e))
after_term frames.Paren e = None
after_term frames.Record e = None
after_term (frames.Left is) e = None
after_term (frames.Right is a op) e = None
after_term (frames.Declaration heading) e = None

abbrev pub at_mode : Option ParserState → List Frame → List Constructor → Option State
at_mode None below cs = None
at_mode (Some mode) below cs = Some (at mode below cs)

-- after a term, with the prefixes before it
unfoldable pub given : Expr → List Frame → List Constructor → Option State
given e [] cs = None
given e (frames.Out ∷ below) cs = given (exprs.Out e) below cs
given e (frames.Ref ∷ below) cs = given (exprs.Ref e) below cs
given e (frame ∷ below) cs = at_mode (after_term frame e) below cs

-- a term begins
unfoldable pub term_sign : Sign → List Frame → List Constructor → Option State
term_sign Hash below cs = given exprs.Nat32 below cs
term_sign Tilde below cs = Some (at Term (frames.Out ∷ below) cs)
term_sign Caret below cs = Some (at Term (frames.Ref ∷ below) cs)
term_sign OpenParen below cs = Some (at (Apply no_sum) (frames.Paren ∷ below) cs)
term_sign OpenBracket below cs = Some (at (Items []) (frames.Record ∷ below) cs)
term_sign s below cs = None

abbrev pub term_number : Option ℕ → List Frame → List Constructor → Option State
term_number (Some n) below cs = given (exprs.Lit n) below cs
term_number None below cs = None

unfoldable pub term : Lexeme → List Frame → List Constructor → Option State
term (word x) below cs = given (exprs.Named x []) below cs
term blank below cs = None
term (number n) below cs = term_number n below cs
term (tag b) below cs = None
term (sign s) below cs = term_sign s below cs
term other below cs = None

-- ---- operands

unfoldable pub comparison : Sign → Option Op
comparison Equal = Some Eq
comparison Less = Some Lt
comparison LessEqual = Some Le
comparison Greater = Some Gt
comparison GreaterEqual = Some Ge
comparison s = None

unfoldable pub width : Sign → Option Width
width HashHash = Some widths.Bits
width HashLess = Some widths.Below
width HashLessEqual = Some widths.UpTo
width s = None

abbrev pub apply_sign : Option Width → Sign → OpenSum → List Frame → List Constructor → Option State
apply_sign (Some w) s sum below cs = Some (at Term (frames.Width sum w ∷ below) cs)
apply_sign None s sum below cs = term_sign s (frames.Operand sum ∷ below) cs

-- where an operand is expected
unfoldable pub apply : Lexeme → OpenSum → List Frame → List Constructor → Option State
apply (word x) sum below cs = Some (at (Applied sum x []) below cs)
apply (sign s) sum below cs = apply_sign (width s) s sum below cs
apply (number n) sum below cs = term_number n (frames.Operand sum ∷ below) cs
apply t sum below cs = None

-- the sum ends at a `)`, a comparison or a `}`
abbrev pub ends_paren : Bool → Expr → List Frame → List Constructor → Option State
ends_paren true e below cs = given e below cs
ends_paren false e below cs = None

abbrev pub ends_left : Option (List Item) → Expr → Op → List Frame → List Constructor → Option State
ends_left (Some is) e op below cs = Some (at (Apply no_sum) (frames.Right is e op ∷ below) cs)
ends_left None e op below cs = None

abbrev pub ends_right : Option (List Item × Expr × Op) → Expr → List Frame → List Constructor → Option State
ends_right (Some (is, a, op)) e below cs = Some (at (Items (with_item is (Check a op e))) below cs)
ends_right None e below cs = None

unfoldable pub compared : Option Op → Expr → List Frame → List Constructor → Option State
compared (Some op) e below cs = ends_left (innermost left_of below) e op (outer below) cs
compared None e below cs = None

unfoldable pub ends_sum : Sign → Expr → List Frame → List Constructor → Option State
ends_sum CloseParen e below cs = ends_paren (is_innermost is_paren below) e (outer below) cs
ends_sum CloseBrace e below cs = ends_right (innermost right_of below) e (outer below) cs
ends_sum s e below cs = compared (comparison s) e below cs

-- after a whole operand
unfoldable pub operated_sign : Sign → OpenSum → Expr → List Frame → List Constructor → Option State
operated_sign Asterisk sum e below cs = Some (at (Apply (times sum e)) below cs)
operated_sign Plus sum e below cs = Some (at (Apply (added sum e)) below cs)
operated_sign s sum e below cs = ends_sum s (closed sum e) below cs

unfoldable pub operated : Lexeme → OpenSum → Expr → List Frame → List Constructor → Option State
operated (sign s) sum e below cs = operated_sign s sum e below cs
operated t sum e below cs = None

-- after `{`, a name and `:`
abbrev pub kind_of : List ℕ → Option (List Item) → List Frame → List Constructor → Option State
kind_of x (Some is) below cs = Some (at (Kind is x) below cs)
kind_of x None below cs = None

-- after a name and maybe arguments
unfoldable pub applied_sign : Sign → OpenSum → List ℕ → List Expr → List Frame → List Constructor → Option State
applied_sign Colon sum x es below cs = kind_of x (innermost left_of below) (outer below) cs
applied_sign Hash sum x es below cs = term_sign Hash (frames.Argument sum x es ∷ below) cs
applied_sign Tilde sum x es below cs = term_sign Tilde (frames.Argument sum x es ∷ below) cs
applied_sign Caret sum x es below cs = term_sign Caret (frames.Argument sum x es ∷ below) cs
applied_sign OpenParen sum x es below cs = term_sign OpenParen (frames.Argument sum x es ∷ below) cs
applied_sign OpenBracket sum x es below cs = term_sign OpenBracket (frames.Argument sum x es ∷ below) cs
applied_sign s sum x es below cs = operated_sign s sum (exprs.Named x es) below cs

unfoldable pub applied : Lexeme → OpenSum → List ℕ → List Expr → List Frame → List Constructor → Option State
applied (sign s) sum x es below cs = applied_sign s sum x es below cs
applied t sum x es below cs = term t (frames.Argument sum x es ∷ below) cs

-- ---- items

-- a tag after the name of a declaration
abbrev pub with_tag : Heading → List ℕ → Heading
with_tag heading b = record { exotic = heading.exotic; name = heading.name; tag = Given b }

abbrev pub tagged : List ℕ → List Item → Option Heading → List Frame → List Constructor → Option State
tagged b is (Some heading) below cs = Some (at (Items is) (frames.Declaration (with_tag heading b) ∷ below) cs)
tagged b is None below cs = None

unfoldable pub tag_after : Option (List ℕ) → List Item → List Frame → List Constructor → Option State
tag_after (Some b) is below cs = tagged b is (innermost heading_of below) (outer below) cs
tag_after None is below cs = None

abbrev pub ends_record : Bool → List Item → List Frame → List Constructor → Option State
ends_record true is below cs = given (exprs.Group is) below cs
ends_record false is below cs = None

abbrev pub ends_items : Option Heading → List Item → List Frame → List Constructor → Option State
ends_items (Some heading) is below cs = Some (at (Result heading is) below cs)
ends_items None is below cs = None

unfoldable pub items_sign : Sign → List Item → List Frame → List Constructor → Option State
items_sign OpenBrace is below cs = Some (at (Apply no_sum) (frames.Left is ∷ below) cs)
items_sign Equal is below cs = ends_items (innermost heading_of below) is (outer below) cs
items_sign CloseBracket is below cs = ends_record (is_innermost is_record below) is (outer below) cs
items_sign s is below cs = term_sign s (frames.Field is None ∷ below) cs

-- between items
unfoldable pub items : Lexeme → List Item → List Frame → List Constructor → Option State
items (word x) is below cs = Some (at (ItemName is x) below cs)
items blank is below cs = Some (at (ItemBlank is) below cs)
items (number n) is below cs = term (number n) (frames.Field is None ∷ below) cs
items (tag b) is below cs = tag_after b is below cs
items (sign s) is below cs = items_sign s is below cs
items other is below cs = None

-- after the first term of a field
unfoldable pub typed : Lexeme → List Item → Option (List ℕ) → Expr → List Frame → List Constructor → Option State
typed (sign Question) is name e below cs = Some (at Term (frames.Guarded is name (guards.Number e) ∷ below) cs)
typed (sign Dot) is name e below cs = Some (at (Bit is name e) below cs)
typed t is name e below cs = items t (with_field is name (types.Plain e)) below cs

unfoldable pub named : Lexeme → List Item → List ℕ → List Frame → List Constructor → Option State
named (sign Colon) is x below cs = Some (at Term (frames.Field is (Some x) ∷ below) cs)
named t is x below cs = typed t is None (exprs.Named x []) below cs

unfoldable pub kind : Lexeme → List Item → List ℕ → Option ParserState
kind (sign Hash) is x = Some (KindEnd is x Nat)
kind (word t) is x = if bytes_eq t (codes "Type") then Some (KindEnd is x Ty) else None
kind t is x = None

-- ---- parameters

abbrev pub with_result : Heading → List Item → List ℕ → Constructor
with_result heading is x =
    record { exotic = heading.exotic; name = heading.name; tag = heading.tag; items = is; result = x; params = [] }

unfoldable pub params : Lexeme → Constructor → List Frame → List Constructor → Option State
params (sign Semicolon) c below cs = Some (at Start below (cs ++ c ∷ []))
params t c below cs = term t (frames.Param c ∷ below) cs

-- ---- one step

abbrev pub untagged : Bool → Option (List ℕ) → Heading
untagged exotic name = record { exotic = exotic; name = name; tag = Computed }

abbrev pub begin : Heading → List Frame → List Constructor → Option State
begin heading below cs = Some (at (Items []) (frames.Declaration heading ∷ below) cs)

-- where the name of a declaration is expected
unfoldable pub head : Bool → Lexeme → List Frame → List Constructor → Option State
head exotic (word x) below cs = begin (untagged exotic (Some x)) below cs
head exotic blank below cs = begin (untagged exotic None) below cs
head exotic t below cs = None

unfoldable pub start : Lexeme → List Frame → List Constructor → Option State
start (sign Bang) below cs = Some (at Marked below cs)
start t below cs = head false t below cs

unfoldable pub named_blank : Lexeme → List Item → List Frame → List Constructor → Option State
named_blank (sign Colon) is below cs = Some (at Term (frames.Field is None ∷ below) cs)
named_blank t is below cs = None

unfoldable pub bit_of : Lexeme → List Item → Option (List ℕ) → Expr → Option ParserState
bit_of (number (Some k)) is name e = Some (BitEnd is name e k)
bit_of t is name e = None

unfoldable pub bit_end : Lexeme → List Item → Option (List ℕ) → Expr → ℕ → List Frame → List Constructor → Option State
bit_end (sign Question) is name e k below cs = Some (at Term (frames.Guarded is name (guards.Bit e k) ∷ below) cs)
bit_end t is name e k below cs = None

unfoldable pub kind_end : Lexeme → List Item → List ℕ → ParamKind → Option ParserState
kind_end (sign CloseBrace) is x k = Some (Items (with_item is (Implicit x k)))
kind_end t is x k = None

unfoldable pub result_of : Lexeme → Heading → List Item → Option ParserState
result_of (word x) heading is = Some (Params (with_result heading is x))
result_of t heading is = None

unfoldable pub step_mode : ParserState → Lexeme → List Frame → List Constructor → Option State
step_mode Start t below cs = start t below cs
step_mode Marked t below cs = head true t below cs
step_mode (Items is) t below cs = items t is below cs
step_mode (ItemName is x) t below cs = named t is x below cs
step_mode (ItemBlank is) t below cs = named_blank t is below cs
step_mode (Typed is name e) t below cs = typed t is name e below cs
step_mode (Bit is name e) t below cs = at_mode (bit_of t is name e) below cs
step_mode (BitEnd is name e k) t below cs = bit_end t is name e k below cs
step_mode (Kind is x) t below cs = at_mode (kind t is x) below cs
step_mode (KindEnd is x k) t below cs = at_mode (kind_end t is x k) below cs
step_mode Term t below cs = term t below cs
step_mode (Apply sum) t below cs = apply t sum below cs
step_mode (Applied sum x es) t below cs = applied t sum x es below cs
step_mode (Operated sum e) t below cs = operated t sum e below cs
step_mode (Result heading is) t below cs = at_mode (result_of t heading is) below cs
step_mode (Params c) t below cs = params t c below cs

abbrev pub step : State → Lexeme → Option State
step (at mode below cs) t = step_mode mode t below cs

abbrev pub onward : Option State → (State → Option State) → Option State
onward None further = None
onward (Some st) further = further st

abbrev pub run : State → List Lexeme → Option State
run st [] = Some st
run st (t ∷ ts) = onward (step st t) (λ next. run next ts)

-- ---- beginnings and ends

abbrev pub schema_start : State
schema_start = at Start [] []

abbrev pub word_start : State
word_start = at (Apply no_sum) [] []

abbrev pub schema_end : State → Option (List Constructor)
schema_end (at Start below cs) = Some cs
schema_end st = None

abbrev pub word_end : State → Option Expr
word_end (at (Applied sum x es) below cs) = Some (closed sum (exprs.Named x es))
word_end (at (Operated sum e) below cs) = Some (closed sum e)
word_end st = None

abbrev pub ended : {X : Type 0} → (State → Option X) → Option State → Option X
ended end None = None
ended end (Some st) = end st

-- the declarations that the lexemes write
abbrev pub built_schema : List Lexeme → Option (List Constructor)
built_schema ls = ended schema_end (run schema_start ls)

-- the expression that the lexemes write
abbrev pub built_word : List Lexeme → Option Expr
built_word ls = ended word_end (run word_start ls)
